use Rattle.machine_model.proofs.StartLaws.{Starts-one, Refuses-one, never-both, some-end}
use Rattle.machine_model.proofs.boot_file.a_boot_file_comes_to_one_end.Goals as goal

pub returns : goal.returns
returns c = record { one_start = Starts-one; one_cause = Refuses-one; never_both = never-both; some_end = some-end }
