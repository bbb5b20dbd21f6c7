use Rattle.os9_boot.proofs.VerbLemmas.{freed-used}
use Rattle.os9_boot.proofs.verbs.repair_image.Goals as goal

pub returns-in-Ok-freed_line : goal.returns-in-Ok-freed_line
returns-in-Ok-freed_line c =
    freed-used c.args.image.items c.in-Ok.repaired c.in-Ok-freed_line.answer.items c.in-Ok.ensures.repaired c.in-Ok-freed_line.ensures
