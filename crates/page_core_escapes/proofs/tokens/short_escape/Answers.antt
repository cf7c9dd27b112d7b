use Rattle.std.proofs.Common.{inl, inr, refl}
use Rattle.page_core_escapes.specs.declared.letters.LetterKind.TheVariants.{Char, Nothing, Tab, Blank}
use Rattle.page_core_escapes.specs.Lengths.{letter_of}
use Rattle.page_core_escapes.proofs.Contents.{short_alone}
use Rattle.page_core_escapes.proofs.tokens.short_escape.Goals as goal

pub returns-in-38 : goal.returns-in-38
unfolding letter_of
returns-in-38 c = short_alone 38 Nothing refl refl refl c.args.text.now c.if-text-lt2.false c.requires c.in-38.is

pub returns-in-45 : goal.returns-in-45
unfolding letter_of
returns-in-45 c = short_alone 45 (Char 45) refl refl refl c.args.text.now c.if-text-lt2.false c.requires c.in-45.is

pub returns-in-101 : goal.returns-in-101
unfolding letter_of
returns-in-101 c = short_alone 101 (Char 92) refl refl refl c.args.text.now c.if-text-lt2.false c.requires c.in-101.is

pub returns-in-116 : goal.returns-in-116
unfolding letter_of
returns-in-116 c = short_alone 116 Tab refl refl refl c.args.text.now c.if-text-lt2.false c.requires c.in-116.is

pub returns-in-126 : goal.returns-in-126
unfolding letter_of
returns-in-126 c =
    elim c.in-126.is [
      | inl is ↦ short_alone 32 Blank refl refl refl c.args.text.now c.if-text-lt2.false c.requires is
      | inr others ↦
          elim others [
            | inl is ↦ short_alone 48 Blank refl refl refl c.args.text.now c.if-text-lt2.false c.requires is
            | inr is ↦ short_alone 126 Blank refl refl refl c.args.text.now c.if-text-lt2.false c.requires is
          ]
    ]
