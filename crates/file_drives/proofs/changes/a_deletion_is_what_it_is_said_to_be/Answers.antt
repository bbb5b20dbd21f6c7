use Rattle.file_drives.proofs.Deletions.{deletion-leaves}
use Rattle.file_drives.proofs.changes.a_deletion_is_what_it_is_said_to_be.Goals as goal

pub returns : goal.returns
returns c = deletion-leaves
