-- What a part of a call on names leaves unchanged in the kernel's files.
use Rattle.std.specs.Prelude.{◌≡◌}
use Rattle.file_state.specs.declared.state.FileState.{FileState}

-- only the state kept for the disks may have changed
pub record KeepsAllButDisks (before after : FileState) : Type 0 where
  pub io : after.io ≡ before.io  -- paths, terminals, pipes and pending calls
  pub directories : after.directories ≡ before.directories  -- of each process
  pub records : after.records ≡ before.records  -- locks, requests and their history
