use Rattle.std.proofs.Common.{◌≡◌, ◌∙◌, rules}
use Rattle.page_core_escapes.proofs.Contents.{several, face_of-several}
use Rattle.page_core_escapes.proofs.meaning.font_by_letters.Goals as goal

pub returns-then-is_one_of : goal.returns-then-is_one_of
returns-then-is_one_of c = let is : _ ≡ several c.args.name.now = search rules in is ∙ face_of-several c.args.name.now c.requires

pub returns-then-is_one_of-2 : goal.returns-then-is_one_of-2
returns-then-is_one_of-2 c = let is : _ ≡ several c.args.name.now = search rules in is ∙ face_of-several c.args.name.now c.requires

pub returns-then-is_one_of-3 : goal.returns-then-is_one_of-3
returns-then-is_one_of-3 c = let is : _ ≡ several c.args.name.now = search rules in is ∙ face_of-several c.args.name.now c.requires

pub returns-then-is_one_of-4 : goal.returns-then-is_one_of-4
returns-then-is_one_of-4 c = let is : _ ≡ several c.args.name.now = search rules in is ∙ face_of-several c.args.name.now c.requires

pub returns-else-is_one_of-4 : goal.returns-else-is_one_of-4
returns-else-is_one_of-4 c = let is : _ ≡ several c.args.name.now = search rules in is ∙ face_of-several c.args.name.now c.requires
