use Rattle.machine_model.proofs.Starts.{never-both, some-end, starts-one}
use Rattle.machine_model.proofs.start.a_boot_comes_to_one_end.Goals as goal

pub returns : goal.returns
returns c = record { one_start = starts-one; never_both = never-both; some_end = some-end }
