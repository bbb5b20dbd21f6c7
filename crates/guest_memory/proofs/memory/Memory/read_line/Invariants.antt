use Rattle.std.proofs.Common.{◌≡◌, ◌-◌, ◌≤◌, length}
use Rattle.guest_memory.specs.Tie.{cells_of}
use Rattle.guest_memory.proofs.LineLemmas.{IsReadTo}
use Rattle.guest_memory.proofs.memory.Memory.read_line.Given as goal

-- so many bytes of the line are read
abbrev pub invariant-pieces : goal.invariant-pieces
invariant-pieces l = record {
  read : IsReadTo (cells_of l.self l.p.0) l.at l.most l.count l.into;
  room : length l.into ≡ length l.initial.into;
  most : l.count ≤ l.most;
}

abbrev pub decreases-pieces : goal.decreases-pieces
decreases-pieces l = l.most - l.count
