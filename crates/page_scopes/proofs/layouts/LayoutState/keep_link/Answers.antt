use Rattle.std.proofs.Common.{◌∷◌, reverse, Some, ap, ◌∙◌}
use Rattle.std.proofs.lemmas.List.{reverse-append}
use Rattle.page_scopes_phrases.specs.declared.kept_texts.KeptText.{KeptText}
use Rattle.page_scopes.proofs.layouts.LayoutState.keep_link.Goals as goal

pub returns : goal.returns
returns c =
    let scopes = c.args.scopes.now.items in
    let context = c.args.self.now.formatting.context in (
      ap reverse c.push_reserved.ensures.items
          ∙ (reverse-append scopes _
          ∙ ap (λ (kept : KeptText). record { label = c.args.label; before = record { context = context; target = Some kept } } ∷ reverse scopes) c.of.ensures),
      c.push_reserved.ensures.capacity,
    )
