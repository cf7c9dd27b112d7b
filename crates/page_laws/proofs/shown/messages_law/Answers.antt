use Rattle.std.proofs.Common.{refl}
use Rattle.page_core_base.specs.Texts.{has_no_control}
use Rattle.page_core_streams.specs.Streams.{shown_detail}
use Rattle.page_laws.proofs.ShownLemmas.{parts-text, shown-plain}
use Rattle.page_laws.proofs.shown.messages_law.Goals as goal

pub returns : goal.returns
returns c = λ file message. parts-text file message (shown_detail message.detail) (shown-plain (has_no_control 0 message.detail) message.detail refl)
