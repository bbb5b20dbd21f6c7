use Rattle.std.proofs.Common.{◌≡◌, ℕ, ◌+◌, ◌-◌, ◌<◌, ◌≤◌, Some, get_or, length}
use Rattle.block_map.specs.Window.{map_cells}
use Rattle.block_map.proofs.view.ViewUserMem.load.Given as goal

-- the bytes so far are loaded
abbrev pub invariant-pieces : goal.invariant-pieces
invariant-pieces l = record {
  loaded : (place : ℕ) → place < l.done → map_cells l.self.map.now l.self.pool.now (l.at + place) ≡ Some (get_or l.into place 0);
  room : length l.into ≡ length l.initial.into;
  within : l.done ≤ length l.into;
}

abbrev pub decreases-pieces : goal.decreases-pieces
decreases-pieces l = length l.into - l.done
