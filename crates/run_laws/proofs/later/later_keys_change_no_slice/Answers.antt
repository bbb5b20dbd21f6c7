use Rattle.run_laws.proofs.LaterSlices.{slice-too}
use Rattle.run_laws.proofs.later.later_keys_change_no_slice.Goals as goal

pub returns : goal.returns
returns c = record { slice = slice-too }
