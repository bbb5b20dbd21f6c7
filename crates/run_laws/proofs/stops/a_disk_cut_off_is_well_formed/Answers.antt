use Rattle.run_laws.proofs.CutOff.{cut_off, all_written}
use Rattle.run_laws.proofs.stops.a_disk_cut_off_is_well_formed.Goals as goal

pub returns-clause-cut_off : goal.returns-clause-cut_off
returns-clause-cut_off c = cut_off

pub returns-clause-end : goal.returns-clause-end
returns-clause-end c = all_written
