-- The names from the address on end as all of them, and no byte has changed.
use Rattle.std.proofs.Common.{◌-◌, ◌<◌, ◌≤◌, ◌+◌, ℕ}
use Rattle.guest_memory.specs.Tie.{IsMemorySame, cells_of}
use Rattle.io_model.specs.PathList.{names_at}
use Rattle.device_paths.specs.Tail.{tail_of}
use Rattle.device_paths.proofs.NamesLemmas.{NamesSoFar}
use Rattle.device_paths.proofs.names.read_tail.Given as goal

abbrev pub invariant-names : goal.invariant-names
invariant-names l = record {
  names : (left : ℕ) → 65536 ≤ left + l.start → NamesSoFar (cells_of l.initial.memory l.p.0) (tail_of (names_at (cells_of l.initial.memory l.p.0) l.start left)) l.at;
  within : l.at < 65536;
  same : IsMemorySame l.initial.memory l.memory;
}

abbrev pub decreases-names : goal.decreases-names
decreases-names l = 65536 - l.at
