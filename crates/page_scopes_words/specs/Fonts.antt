-- The font in use and the former one, and values that outlive their scope. Source: roff(7), `\\f`, `ft`.
use Rattle.std.specs.Prelude.{Bool, false, ◌||◌, true, if◌then◌else◌}
use Rattle.page_core_base.specs.declared.cells.Font.{Font}
use Rattle.page_core_base.specs.declared.cells.Font.TheVariants.{R, I, B, BI}
use Rattle.page_core_escapes.specs.Meanings as meanings
use Rattle.page_core_escapes.specs.Meanings.{Face, is_known}
use Rattle.page_core_escapes.specs.Tokens.{TextToken, escaped}
use Rattle.page_scopes_words.specs.declared.fonts.Fonts.{Fonts}
use Rattle.page_scopes_words.specs.declared.settings.Setting.{Setting}

-- ---- The font in use and the former one. Source: roff(7), `ft` and `\f`.

-- the fonts of a paragraph
abbrev pub roman_fonts : Fonts
roman_fonts = record { font = R; former = R }

-- another font is in use
abbrev pub with_font : Font → Fonts → Fonts
with_font font fonts = record { font = font; former = fonts.font }

-- a name that no font has changes nothing
abbrev pub face_fonts : Face → Fonts → Fonts
face_fonts meanings.roman fonts = with_font R fonts
face_fonts meanings.italic fonts = with_font I fonts
face_fonts meanings.bold fonts = with_font B fonts
face_fonts meanings.bold_italic fonts = with_font BI fonts
face_fonts meanings.former fonts = with_font fonts.former fonts
face_fonts (meanings.unknown name) fonts = fonts

abbrev pub token_fonts : TextToken → Fonts → Fonts
token_fonts (escaped bytes (meanings.face face)) fonts = face_fonts face fonts
token_fonts _ fonts = fonts

-- whether an escape asks for a font that there is
abbrev pub token_sets : TextToken → Bool
token_sets (escaped bytes (meanings.face face)) = is_known face
token_sets _ = false

abbrev pub fonts_after : TextToken → Setting Fonts → Setting Fonts
fonts_after token fonts = record { value = token_fonts token fonts.value; is_set = fonts.is_set || token_sets token }

-- ---- Values that outlive the scope in which a request set them. Source: man(7), roff(7).

-- a value that nothing has set yet
abbrev pub at_first : {T : Type 0} → T → Setting T
at_first value = record { value = value; is_set = false }

abbrev pub set_to : {T : Type 0} → T → Setting T
set_to value = record { value = value; is_set = true }

-- as a scope begins nothing is set in it yet
abbrev pub entered : {T : Type 0} → Setting T → Setting T
entered now = record { value = now.value; is_set = false }

-- after a scope the value is that before it, unless another one was set inside
abbrev pub after_scope : {T : Type 0} → Setting T → Setting T → Setting T
after_scope before now = if now.is_set then now else before
