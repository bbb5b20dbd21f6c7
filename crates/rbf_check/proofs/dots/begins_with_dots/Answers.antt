use Rattle.rbf_sector_rules.specs.Reading.{listed}
use Rattle.rbf_check.proofs.Dotting.{too_short}
use Rattle.rbf_check.proofs.dots.begins_with_dots.Goals as goal

pub returns-then-dir-lt2 : goal.returns-then-dir-lt2
returns-then-dir-lt2 c =
    too_short (listed c.args.image.now c.args.dir.now.number) c.args.dir.now.number c.args.p c.args.dir.now.entries c.requires.entries c.if-dir-lt2.true
