use Rattle.std.proofs.Common.{◌-◌, vec_len}
use Rattle.boot_run.proofs.load.+load_from.Given as goal

abbrev pub decreases-load_from : goal.decreases-load_from
decreases-load_from g l = vec_len l.devices.now.terms - l.number
