use Rattle.std.proofs.Common.{◌≡◌, ℕ, List, IsUtf8, refl, inl, inr, sym}
use Rattle.std.specs.Str.{is_utf8}
use Rattle.std.proofs.lemmas.Bool.{cases_Bool}
use Rattle.std.proofs.lemmas.Str.{is_utf8-from_IsUtf8, IsUtf8-from_is_utf8}
use Rattle.page_core_base.specs.declared.page_settings.Output.{Output}
use Rattle.page_core_escapes.specs.Tokens.{plain}
use Rattle.page_core_numbers.specs.Columns.{columns_of}
use Rattle.page_scopes_words.specs.Widths as names
use Rattle.page_scopes_words.proofs.names.plain_columns.Goals as goal

columns_of_text : (output : Output) (text : List ℕ) → IsUtf8 text → names.token_columns output (plain text) ≡ columns_of output text
columns_of_text output text u = rw (is_utf8-from_IsUtf8 text u) refl

columns_of_none : (output : Output) (text : List ℕ) → ¬ (IsUtf8 text) → names.token_columns output (plain text) ≡ 0
columns_of_none output text u =
    elim (cases_Bool (is_utf8 text)) [ inl t ↦ absurd (u (IsUtf8-from_is_utf8 text t)) | inr f ↦ rw f refl ]

pub returns-in-Ok-clause-value : goal.returns-in-Ok-clause-value
returns-in-Ok-clause-value c =
    let is = c.in-Ok.ensures.cases in
    rw (columns_of_text c.args.output c.args.text.now is.1) (rw (← is.0, ← c.as_bytes.ensures.value) c.columns.ensures.value)

pub returns-in-Err-clause-value : goal.returns-in-Err-clause-value
returns-in-Err-clause-value c = sym (columns_of_none c.args.output c.args.text.now c.in-Err.ensures.cases.0)
