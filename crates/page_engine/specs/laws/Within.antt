-- How much is held between two lines. Source: mandoc(1), "DIAGNOSTICS".
use Rattle.std.specs.Prelude.{◌≡◌, true, Some, ℕ, Option, None, length, ◌+◌, sum_by}
use Rattle.page_roff_names.specs.Names.{size}
use Rattle.page_roff_source.specs.laws.Views.{RoffFits}
use Rattle.page_scopes_labels.specs.declared.labels.Label.{Label}
use Rattle.page_scopes_tree.specs.declared.nestings.Scope.{Scope}
use Rattle.page_scopes.specs.declared.layouts.Kept.{Kept}
use Rattle.page_fill_rows.specs.laws.Views.{IsHeld}
use Rattle.page_fill.specs.laws.Views.{FillFits, is_sound}
use Rattle.page_engine_lines.specs.laws.Views.{BodyFits}
use Rattle.page_engine.specs.Edges.{Edge}
use Rattle.page_engine.specs.laws.States.{PageState}

pub record IsWithin (e : Edge) : Type 0 where
  -- names and what they stand for, an open region, and open blocks
  pub roff : RoffFits e.lines.roff
  -- the fields of header and footer, the name of the system, and the open scopes with the targets of links, the widths of lists, and the manual's name
  pub body : BodyFits e.lines.body
  -- the cells of the open row, the columns of an open tag, and the blank rows at the end
  pub fill : FillFits e.fill
  -- the places of the row's last word lie within the row; what waits before the next word holds together
  pub row : IsHeld e.fill.sheet
  pub word : is_sound e.fill.word ≡ true

-- the edge that a page is at
abbrev pub HoldsWithin : PageState → Type 0
HoldsWithin p = (e : Edge) → p.edge ≡ Some e → IsWithin e

-- ---- the bytes of an edge's texts, those of its row aside

-- none where there is nothing
abbrev pub bytes_in : {A : Type 0} → Option A → (A → ℕ) → ℕ
bytes_in None bytes = 0
bytes_in (Some x) bytes = bytes x

-- of the target of a link, in its scope
abbrev pub target_bytes : Scope Label Kept → ℕ
target_bytes scope = bytes_in scope.before.target (λ target. length target.text)

-- of names and what they stand for; of an open region's names, and of the body that it has so far; of the targets of links that are
-- open, and of the manual's name; of the fields of header and footer, and of the system's name
abbrev pub text_bytes : Edge → ℕ
text_bytes e =
    let roff = e.lines.roff in
    let body = e.lines.body in
    let names = roff.memory.definitions in
    let fields = body.header.fields in
    (size names.texts + size names.registers)
    + (bytes_in roff.place.region (λ region. bytes_in region.name length + length region.ending)
    + bytes_in roff.memory.body length)
    + (sum_by target_bytes body.scopes.scopes
    + bytes_in body.scopes.state.name (λ name. length name.text))
    + (length fields.title + length fields.section + length fields.date + length fields.source
    + length fields.volume + length body.header.os)
