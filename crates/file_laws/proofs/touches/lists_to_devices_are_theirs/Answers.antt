use Rattle.file_laws.proofs.OfAttempts.{create-of, open-of}
use Rattle.file_laws.proofs.touches.lists_to_devices_are_theirs.Goals as goal

pub returns : goal.returns
returns c = record {
  opened = λ it list same read way. open-of it list read same way;
  created = λ it list same read way. create-of it list read same way;
}
