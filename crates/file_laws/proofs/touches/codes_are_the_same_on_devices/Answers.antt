use Rattle.file_laws.proofs.Codes.{code-none, code-there}
use Rattle.file_laws.proofs.touches.codes_are_the_same_on_devices.Goals as goal

pub returns : goal.returns
returns c = record { coded = code-there; none = code-none }
