use Rattle.file_drives.proofs.LawsEntries.{creation-leaves}
use Rattle.file_drives.proofs.changes.a_creation_is_what_it_is_said_to_be.Goals as goal

pub returns : goal.returns
returns c = creation-leaves
