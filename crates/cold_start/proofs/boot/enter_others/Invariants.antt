use Rattle.std.proofs.Common.{◌≤◌, ◌-◌, length}
use Rattle.guest_memory.specs.Tie.{RepresentsMemory}
use Rattle.proc_model.specs.Memory.{MemoryState}
use Rattle.cold_start.specs.Booting.{HasGroup}
use Rattle.cold_start.proofs.Entering.{Progress}
use Rattle.cold_start.proofs.boot.enter_others.Given as goal

-- the modules up to here are entered
abbrev pub invariant-loop-info : goal.invariant-loop-info
invariant-loop-info l = record {
  within : l.from ≤ length l.boot;
  progress : (m : MemoryState) → RepresentsMemory l.initial.memory m → HasGroup l.boot l.id.0 m → Progress l.boot l.id.0 l.initial.from m l.from l.memory;
}

abbrev pub decreases-loop-info : goal.decreases-loop-info
decreases-loop-info l = length l.boot - l.from
