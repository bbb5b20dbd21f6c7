use Rattle.std.proofs.Common.{ℕ, ◌∙◌, subst, arith}
use Rattle.std.specs.Prelude.{MatchBool}
use Rattle.rbf_sector_rules.specs.Reading.{listed}
use Rattle.rbf_check.specs.Dots.{BeginsWithDots}
use Rattle.rbf_check.proofs.Dotting.{answer_true, marks_one}
use Rattle.rbf_check.proofs.dots.mark_dots.Goals as goal

pub returns : goal.returns
returns c =
    let image = c.args.image.now in
    let link = c.args.link.now in
    let answer = c.begins_with_dots.result in
    let P : ℕ → Type 0 = λ n. MatchBool answer (BeginsWithDots (listed image n) n link.directory) (BeginsWithDots (listed image n) n link.directory → ⊥) in
    let Dots = BeginsWithDots (listed image link.descriptor) link.descriptor link.directory in
    marks_one (listed image link.descriptor) image.ident.root link c.args.dotted.now.items (omega arith)
    c.if-link-image.false (answer_true answer Dots (Dots → ⊥)
    (subst P (c.directory_of-dir.ensures.number ∙ c.read_file.ensures.number) c.begins_with_dots.ensures)
    c.if-not-begins_with_dots.false)
