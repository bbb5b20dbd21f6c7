use Rattle.os9_boot.proofs.VerbLemmas.{disk-size}
use Rattle.os9_boot.proofs.verbs.format_disk.Goals as goal

pub format-requires : goal.format-requires
format-requires c = disk-size c.args.vol.now c.requires.words c.requires.verb

pub returns-in-Ok : goal.returns-in-Ok
returns-in-Ok c = record { is = c.in-Ok.ensures.volume; clean = c.in-Ok.ensures.clean; silent = c.new.ensures.items }
