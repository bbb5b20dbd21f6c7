use Rattle.file_laws.proofs.TouchNamed.{device-no-file}
use Rattle.file_laws.proofs.OfAttempts.{number-of}
use Rattle.file_laws.proofs.touches.numbers_of_devices_are_theirs.Goals as goal

pub returns : goal.returns
returns c = record { number = number-of; path = device-no-file }
