use Rattle.std.proofs.Common.{◌∙◌, sym, refl, arith}
use Rattle.std.proofs.lemmas.Bool.{false≢true}
use Rattle.rbf_check.proofs.dots.without_dots.Goals as goal

pub returns-then-dotted-file : goal.returns-then-dotted-file
returns-then-dotted-file c = λ s h. h.1.1 (c.requires.dotted.only c.args.file.now.number c.if-dotted-file.true)

pub returns : goal.returns
returns c = (
  (
    refl,
    (
      sym c.is_directory.ensures ∙ c.if-not-is_directory.false,
      λ dots. false≢true (sym c.if-dotted-file.false ∙ c.requires.dotted.there c.args.file.now.number (record { after = c.requires.after; below = c.requires.file.number }) dots),
    ),
  ),
  λ s h. omega (arith, h.0),
)
