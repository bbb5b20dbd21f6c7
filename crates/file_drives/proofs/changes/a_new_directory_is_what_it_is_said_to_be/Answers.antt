use Rattle.file_drives.proofs.LawsEntries.{directory-leaves}
use Rattle.file_drives.proofs.changes.a_new_directory_is_what_it_is_said_to_be.Goals as goal

pub returns : goal.returns
returns c = directory-leaves
