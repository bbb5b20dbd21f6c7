-- A user's request for a directory.
use Rattle.std.specs.Prelude.{ℕ, false, List}
use Rattle.os9_base.specs.declared.registers.TimePacket.{TimePacket}
use Rattle.rbf_change.specs.NewFiles.{directory_plan}
use Rattle.rbf_entries.specs.Entering.{Entering}

-- by a name in directory d, at a time
abbrev pub folder_request : ℕ → List ℕ → ℕ → ℕ → TimePacket → Entering
folder_request d name attributes user now = record {
  directory = d;
  name = name;
  user = user;
  execute = false;
  plan = directory_plan attributes user now d;
}
