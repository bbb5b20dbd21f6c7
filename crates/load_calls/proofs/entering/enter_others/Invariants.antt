use Rattle.std.proofs.Common.{◌≤◌, ◌-◌, ℕ, List, length}
use Rattle.guest_memory.specs.Tie.{RepresentsMemory}
use Rattle.proc_model.specs.Memory.{MemoryState}
use Rattle.load_calls.proofs.EnteringLemmas.{Progress}
use Rattle.load_calls.specs.Entering.{IsOfGroup}
use Rattle.load_calls.proofs.entering.enter_others.Given as goal

-- the modules up to here are entered
abbrev pub invariant-loop-info : goal.invariant-loop-info
invariant-loop-info l = record {
  within : l.from ≤ length l.file;
  progress : (m : MemoryState) (group : List ℕ) → RepresentsMemory l.initial.memory m → IsOfGroup group l.id.0 m → Progress l.file group l.id.0 l.initial.from m l.from l.memory;
}

abbrev pub decreases-loop-info : goal.decreases-loop-info
decreases-loop-info l = length l.file - l.from
