pub mod ReadLemmas
pub mod RunLemmas
pub mod Agreement
pub mod PointLemmas
pub mod LineAgreement
pub mod WholeLemmas
