-- The marks around enclosed words, and the macros that have them. Source: mdoc(7), "MACRO REFERENCE".
use Prim.Native.String.{String}
use Rattle.std.specs.Prelude.{ℕ, List, codes}
use Rattle.page_sets_names.specs.declared.generated_texts.GeneratedText.{GeneratedText}
use Rattle.page_sets_names.specs.declared.generated_texts.GeneratedText.TheVariants as texts
use Rattle.page_sets_names.specs.declared.marks.Marks.{Marks}
use Rattle.page_sets_names.specs.declared.marks.Marks.TheVariants.{Angle, Square, Curly, Round, Double, Single, Straight}
use Rattle.page_sets_names.specs.declared.marks.Quotation.{Quotation}
use Rattle.page_sets_names.specs.declared.marks.Quotation.TheVariants.{Ao, Bo, Bro, Do, Oo, Po, Qo, So}

-- the mark before the words, the one after them, and the first macro that encloses the rest of its line in them
pub record MarksRow : Type 0 where
  pub opening : GeneratedText
  pub closing : GeneratedText
  pub name : List ℕ

abbrev pub marks_row : GeneratedText → GeneratedText → String → MarksRow
marks_row opening closing name = record { opening = opening; closing = closing; name = codes name }

-- the table of the marks
abbrev pub row_of_marks : Marks → MarksRow
row_of_marks Angle = marks_row texts.OpenAngle texts.CloseAngle "Aq"
row_of_marks Square = marks_row texts.OpenBracket texts.CloseBracket "Bq"
row_of_marks Curly = marks_row texts.OpenBrace texts.CloseBrace "Brq"
row_of_marks Round = marks_row texts.OpenParenthesis texts.CloseParenthesis "Pq"
row_of_marks Double = marks_row texts.OpenDouble texts.CloseDouble "Dq"
row_of_marks Single = marks_row texts.OpenSingle texts.CloseSingle "Sq"
row_of_marks Straight = marks_row texts.Straight texts.Straight "Qq"

abbrev pub opening : Marks → GeneratedText
opening these = (row_of_marks these).opening

abbrev pub closing : Marks → GeneratedText
closing these = (row_of_marks these).closing

-- the marks of an enclosure, the macro that begins it, and the one that ends it
pub record QuotationRow : Type 0 where
  pub marks : Marks
  pub opener : List ℕ
  pub closer : List ℕ

abbrev pub quotation_row : Marks → String → String → QuotationRow
quotation_row marks opener closer = record { marks = marks; opener = codes opener; closer = codes closer }

-- the table of these enclosures
abbrev pub row_of_quotation : Quotation → QuotationRow
row_of_quotation Ao = quotation_row Angle "Ao" "Ac"
row_of_quotation Bo = quotation_row Square "Bo" "Bc"
row_of_quotation Bro = quotation_row Curly "Bro" "Brc"
row_of_quotation Do = quotation_row Double "Do" "Dc"
row_of_quotation Oo = quotation_row Square "Oo" "Oc"
row_of_quotation Po = quotation_row Round "Po" "Pc"
row_of_quotation Qo = quotation_row Straight "Qo" "Qc"
row_of_quotation So = quotation_row Single "So" "Sc"

abbrev pub quotation_marks : Quotation → Marks
quotation_marks this = (row_of_quotation this).marks
