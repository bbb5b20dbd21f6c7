-- A file that a user creates.
use Rattle.std.specs.Prelude.{ℕ, Bool, List}
use Rattle.os9_base.specs.declared.registers.TimePacket.{TimePacket}
use Rattle.rbf_change.specs.NewFiles.{file_plan}
use Rattle.rbf_entries.specs.Entering.{Entering}

-- a file without contents, by a name in directory d, for a user, at a time
abbrev pub request : ℕ → List ℕ → ℕ → ℕ → Bool → TimePacket → Entering
request d name attributes user execute now = record {
  directory = d;
  name = name;
  user = user;
  execute = execute;
  plan = λ _. file_plan attributes user now;
}
