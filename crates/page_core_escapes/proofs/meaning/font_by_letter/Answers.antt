use Rattle.std.proofs.Common.{inl, inr, refl, rules, tests}
use Rattle.page_core_escapes.specs.Meanings.{face_of}
use Rattle.page_core_escapes.proofs.Contents.{font_letter}
use Rattle.page_core_escapes.proofs.meaning.font_by_letter.Goals as goal

pub returns-in-82 : goal.returns-in-82
unfolding face_of
returns-in-82 c = elim c.in-82.is [ inl e ↦ rw e (font_letter 49 refl refl refl (λ pairs rest. refl)) | inr e ↦ rw e (font_letter 82 refl refl refl (λ pairs rest. refl)) ]

pub returns-in-73 : goal.returns-in-73
unfolding face_of
returns-in-73 c = elim c.in-73.is [ inl e ↦ rw e (font_letter 50 refl refl refl (λ pairs rest. refl)) | inr e ↦ rw e (font_letter 73 refl refl refl (λ pairs rest. refl)) ]

pub returns-in-66 : goal.returns-in-66
unfolding face_of
returns-in-66 c = elim c.in-66.is [ inl e ↦ rw e (font_letter 51 refl refl refl (λ pairs rest. refl)) | inr e ↦ rw e (font_letter 66 refl refl refl (λ pairs rest. refl)) ]

pub returns-in-52 : goal.returns-in-52
unfolding face_of
returns-in-52 c = rw c.in-52.is (font_letter 52 refl refl refl (λ pairs rest. refl))

pub returns-in-80 : goal.returns-in-80
unfolding face_of
returns-in-80 c = rw c.in-80.is (font_letter 80 refl refl refl (λ pairs rest. refl))

pub returns-in_default : goal.returns-in_default
unfolding face_of
returns-in_default c = search (tests, rules)
