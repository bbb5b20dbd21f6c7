use Rattle.call_laws.proofs.Devices.{none-lost}
use Rattle.call_laws.proofs.refusals.no_file_is_lost.Goals as goal

pub returns : goal.returns
returns c = none-lost
