-- What is kept of a text or a list is within its limit, and so is what open scopes keep: helpers of proofs.
use Rattle.std.proofs.Common.{◌≤◌, List, [], ◌∷◌, length, Option, None, Some}
use Rattle.std.specs.Prelude.{IfSome}
use Rattle.page_core_base.specs.declared.limits.TheConstants.{COLUMNS, FIELD}
use Rattle.page_scopes_tree.specs.declared.nestings.Scope.{Scope}
use Rattle.page_scopes_labels.specs.declared.labels.Label.{Label}
use Rattle.page_scopes_layout.specs.declared.lists.OpenList.{OpenList}
use Rattle.page_scopes_phrases.proofs.NameLemmas.{kept_fits}
use Rattle.page_scopes_phrases.specs.declared.kept_texts.KeptText.{KeptText}
use Rattle.page_scopes.specs.laws.Views.{ListsFit, TargetsFit}
use Rattle.page_scopes.specs.declared.layouts.Kept.{Kept}

pub text_fits : (text : Option KeptText) → IfSome text (λ text. length text.text ≤ FIELD)
text_fits None = tt
text_fits (Some text) = kept_fits text

pub targets_fit : (scopes : List (Scope Label Kept)) → TargetsFit scopes
targets_fit [] = tt
targets_fit (scope ∷ scopes) = (text_fits scope.before.target, targets_fit scopes)

pub list_fits : (list : Option OpenList) → IfSome list (λ list. list.widths.count ≤ COLUMNS)
list_fits None = tt
list_fits (Some list) = list.widths.fits

pub lists_fit : (scopes : List (Scope Label Kept)) → ListsFit scopes
lists_fit [] = tt
lists_fit (scope ∷ scopes) = (list_fits scope.before.context.list, lists_fit scopes)
