-- The names of macros, and the texts that macros print themselves. Source: man(7), mdoc(7).
use Prim.Native.String.{String}
use Rattle.std.specs.Prelude.{ℕ, List, codes, Bool, true, false}
use Rattle.page_sets_names.specs.declared.generated_texts.GeneratedText.{GeneratedText}
use Rattle.page_sets_names.specs.declared.generated_texts.GeneratedText.TheVariants.{OpenParenthesis, CloseParenthesis, OpenBracket, CloseBracket, OpenAngle, CloseAngle, OpenBrace, CloseBrace, OpenDouble, CloseDouble, OpenSingle, CloseSingle, Straight, Comma, FullStop, Colon, Apostrophe, Dash, Flag, JoinedFlag, Files, JoinedFiles, Home, Bsd, BsdOs, DragonFly, FreeBsd, NetBsd, OpenBsd, Unix, Call, CallComma, Semicolon, Include, The, And, UtilityExits, UtilitiesExit, FunctionReturns, FunctionsReturn}
use Rattle.page_sets_names.specs.declared.generated_texts.TextRole.{TextRole}
use Rattle.page_sets_names.specs.declared.generated_texts.TextRole.TheVariants.{Mark, Word, Sentence}
use Rattle.page_sets_names.specs.declared.macro_names.BodyParagraphName.{BodyParagraphName}
use Rattle.page_sets_names.specs.declared.macro_names.BodyParagraphName.TheVariants as bodies
use Rattle.page_sets_names.specs.declared.macro_names.FontMacro.{FontMacro}
use Rattle.page_sets_names.specs.declared.macro_names.FontMacro.TheVariants as fonts
use Rattle.page_sets_names.specs.declared.macro_names.HeadingName.{HeadingName}
use Rattle.page_sets_names.specs.declared.macro_names.HeadingName.TheVariants as headings
use Rattle.page_sets_names.specs.declared.macro_names.Link.{Link}
use Rattle.page_sets_names.specs.declared.macro_names.Link.TheVariants as links
use Rattle.page_sets_names.specs.declared.macro_names.OneLineName.{OneLineName}
use Rattle.page_sets_names.specs.declared.macro_names.OneLineName.TheVariants as lines
use Rattle.page_sets_names.specs.declared.macro_names.ParagraphName.{ParagraphName}
use Rattle.page_sets_names.specs.declared.macro_names.ParagraphName.TheVariants as paragraphs
use Rattle.page_sets_names.specs.declared.macro_names.Prologue.{Prologue}
use Rattle.page_sets_names.specs.declared.macro_names.Prologue.TheVariants as prologues
use Rattle.page_sets_names.specs.declared.macro_names.TagName.{TagName}
use Rattle.page_sets_names.specs.declared.macro_names.TagName.TheVariants as tags

-- ---- The names of macros. Source: man(7) and mdoc(7), "MACRO REFERENCE".

abbrev pub paragraph_name : ParagraphName → List ℕ
paragraph_name paragraphs.PP = codes "PP"
paragraph_name paragraphs.LP = codes "LP"
paragraph_name paragraphs.P = codes "P"

abbrev pub link_name : Link → List ℕ
link_name links.UR = codes "UR"
link_name links.MT = codes "MT"

abbrev pub link_closer_name : Link → List ℕ
link_closer_name links.UR = codes "UE"
link_closer_name links.MT = codes "ME"

abbrev pub heading_name : HeadingName → List ℕ
heading_name headings.SH = codes "SH"
heading_name headings.SS = codes "SS"
heading_name headings.Sh = codes "Sh"
heading_name headings.Ss = codes "Ss"

abbrev pub body_paragraph_name : BodyParagraphName → List ℕ
body_paragraph_name bodies.Pp = codes "Pp"
body_paragraph_name bodies.Lp = codes "Lp"

abbrev pub one_line_name : OneLineName → List ℕ
one_line_name lines.D1 = codes "D1"
one_line_name lines.Dl = codes "Dl"

abbrev pub tag_name : TagName → List ℕ
tag_name tags.TP = codes "TP"
tag_name tags.TQ = codes "TQ"

abbrev pub font_macro_name : FontMacro → List ℕ
font_macro_name fonts.B = codes "B"
font_macro_name fonts.I = codes "I"
font_macro_name fonts.SM = codes "SM"
font_macro_name fonts.SB = codes "SB"

abbrev pub prologue_name : Prologue → List ℕ
prologue_name prologues.TH = codes "TH"
prologue_name prologues.Dd = codes "Dd"
prologue_name prologues.Dt = codes "Dt"
prologue_name prologues.Os = codes "Os"

-- ---- The texts that macros print themselves. Source: man(7) and mdoc(7), "MACRO REFERENCE".

-- a text, and what it is in a sentence
pub record TextRow : Type 0 where
  pub text : List ℕ
  pub role : TextRole

abbrev pub row : String → TextRole → TextRow
row text role = record { text = codes text; role = role }

-- the table
abbrev pub row_of : GeneratedText → TextRow
row_of OpenParenthesis = row "(" Mark
row_of CloseParenthesis = row ")" Mark
row_of OpenBracket = row "[" Mark
row_of CloseBracket = row "]" Mark
row_of OpenAngle = row "<" Mark
row_of CloseAngle = row ">" Mark
row_of OpenBrace = row "{" Mark
row_of CloseBrace = row "}" Mark
row_of OpenDouble = row "\\(lq" Mark
row_of CloseDouble = row "\\(rq" Mark
row_of OpenSingle = row "\\(oq" Mark
row_of CloseSingle = row "\\(cq" Mark
row_of Straight = row "\"" Mark
row_of Comma = row "," Mark
row_of FullStop = row "." Mark
row_of Colon = row ":" Mark
row_of Apostrophe = row "'" Mark
row_of Dash = row "-" Mark
row_of Flag = row "-" Word
row_of JoinedFlag = row "-" Word
row_of Files = row "file ..." Word
row_of JoinedFiles = row "file..." Word
row_of Home = row "~" Word
row_of Bsd = row "BSD" Word
row_of BsdOs = row "BSD/OS" Word
row_of DragonFly = row "DragonFly" Word
row_of FreeBsd = row "FreeBSD" Word
row_of NetBsd = row "NetBSD" Word
row_of OpenBsd = row "OpenBSD" Word
row_of Unix = row "UNIX" Word
row_of Call = row "()" Mark
row_of CallComma = row "()," Mark
row_of Semicolon = row ";" Mark
row_of Include = row "#include" Word
row_of The = row "The" Word
row_of And = row "and" Word
row_of UtilityExits = row "utility exits 0 on success, and >0 if an error occurs." Sentence
row_of UtilitiesExit = row "utilities exit 0 on success, and >0 if an error occurs." Sentence
row_of FunctionReturns = row "function returns the value 0 if successful; otherwise the value -1 is returned and the global variable errno is set to indicate the error." Sentence
row_of FunctionsReturn = row "functions return the value 0 if successful; otherwise the value -1 is returned and the global variable errno is set to indicate the error." Sentence

abbrev pub generated_text : GeneratedText → List ℕ
generated_text text = (row_of text).text

abbrev pub is_word : TextRole → Bool
is_word Mark = false
is_word _ = true

abbrev pub ends_sentence : TextRole → Bool
ends_sentence Sentence = true
ends_sentence _ = false

abbrev pub generated_is_word : GeneratedText → Bool
generated_is_word text = is_word ((row_of text).role)

-- a dash alone (`Fl`) is glued to what comes after it in its line
abbrev pub generated_joins_next : GeneratedText → Bool
generated_joins_next JoinedFlag = true
generated_joins_next _ = false

-- where there are to be no blanks between words (`Sm off`) the two words of `Ar` are one
abbrev pub generated_spaced : (spacing : Bool) → GeneratedText → GeneratedText
generated_spaced false Files = JoinedFiles
generated_spaced spacing text = text

-- of these only the sentences of `Ex` and `Rv` end one
abbrev pub generated_ends_sentence : GeneratedText → Bool
generated_ends_sentence text = ends_sentence ((row_of text).role)
