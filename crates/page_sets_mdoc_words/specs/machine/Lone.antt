-- What a macro prints where all its words are delimiters. Source: mdoc(7), `Nm`, `Ar`, `Pa` and `Fl`.
use Rattle.std.specs.Prelude.{ℕ, Bool, List}
use Rattle.page_core_base.specs.declared.places.Place.{Place}
use Rattle.page_sets_lines.specs.declared.events.Event.{Event}
use Rattle.page_sets_mdoc_words.specs.declared.names.Lone.{Lone}
use Rattle.page_sets_mdoc_words.specs.declared.names.Lone.TheVariants as lones
use Rattle.page_sets_mdoc_words.specs.Inlines.{default_word, lone_dash, manual_name}

abbrev pub lone_event : Place → Lone → Bool → Event (List ℕ)
lone_event place lones.ManualName is_last = manual_name place is_last
lone_event place (lones.Default default) is_last = default_word place default is_last
lone_event place (lones.Dash follows) is_last = lone_dash place follows is_last
