use Rattle.std.proofs.Common.{◌≡◌, ◌-◌, ◌≤◌, take, length}
use Rattle.os9_base.specs.Cells.{store_cells}
use Rattle.block_map.specs.Window.{map_cells}
use Rattle.block_map.specs.Beside.{SameBeside}
use Rattle.block_map.proofs.view.ViewUserMem.store.Given as goal

abbrev pub invariant-pieces : goal.invariant-pieces
invariant-pieces l = record {
  stored : map_cells l.self.map.now l.self.pool.now ≡ store_cells (map_cells l.initial.self.map.now l.initial.self.pool.now) l.at (take l.done l.from);
  beside : SameBeside l.initial.self l.self;
  within : l.done ≤ length l.from;
}

abbrev pub decreases-pieces : goal.decreases-pieces
decreases-pieces l = length l.from - l.done
