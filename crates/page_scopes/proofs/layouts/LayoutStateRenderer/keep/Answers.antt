use Rattle.std.proofs.Common.{◌≡◌, ℕ, List, ◌∷◌, reverse, Bor, Some, refl, sym, ap, ◌∙◌}
use Rattle.page_core_base.specs.declared.places.Place.{Place}
use Rattle.page_roff_syntax.specs.laws.Views.{argument_view}
use Rattle.page_roff_syntax.specs.declared.quotes.Argument.{Argument}
use Rattle.page_sets_names.specs.declared.macro_names.Link.{Link}
use Rattle.page_sets_lines.specs.declared.events.EventKind.{EventKind}
use Rattle.page_sets_lines.specs.declared.events.EventKind.TheVariants.{Open}
use Rattle.page_sets_lines.specs.declared.openers.Opener.{Opener}
use Rattle.page_sets_lines.specs.declared.openers.Opener.TheVariants.{Target}
use Rattle.page_sets_lines.specs.laws.Events.{kind_view}
use Rattle.page_scopes_phrases.specs.Names.{kept_of}
use Rattle.page_scopes.specs.Bodies.{kept}
use Rattle.page_scopes.specs.declared.layouts.Kept.{Kept}
use Rattle.page_scopes.specs.declared.layouts.LayoutState.{LayoutState}
use Rattle.page_scopes.proofs.layouts.LayoutStateRenderer.keep.Goals as goal

link_kept : (place : Place) (kind : EventKind (Bor (List ℕ))) (opener : Opener (Bor (List ℕ))) (link : Link) (target : Argument (Bor (List ℕ))) (s : LayoutState)
    → kind ≡ Open opener → opener ≡ Target link target
    → kept (record { place = place; kind = kind_view kind }) s ≡ record { context = s.formatting.context; target = Some (kept_of (argument_view target)) }
link_kept place kind opener link target s e f = rw (e, f) refl

pub returns-in-Open-Target : goal.returns-in-Open-Target
returns-in-Open-Target c =
    let is = rw c.in-Open-Target.is at c.in-Open-Target.field-0-is in
    let before = link_kept c.args.event.now.place _ _ _ _ c.args.self.now c.in-Open-Target.is is in
    (c.keep_link.ensures.0 ∙ ap (λ (k : Kept). record { label = c.args.label; before = k } ∷ reverse c.args.scopes.now.items) (sym before), c.keep_link.ensures.1)
