use Rattle.std.proofs.Common.{◌≡◌, List, ℕ, refl, arith}
use Rattle.rbf_model.specs.Geometry.{sector}
use Rattle.rbf_sector.specs.Ident.{geometry_of}
use Rattle.rbf_sector_rules.specs.Reading.{listed}
use Rattle.rbf_sector_rules.proofs.Headers.{header_of}
use Rattle.rbf_sector_rules.proofs.Positioned.{ArePositions, positions_are}
use Rattle.rbf_sector_rules.proofs.PositionsRead.{next_before, visited_none, visited_run, visited_all}
use Rattle.rbf_sector_rules.proofs.walk.Search.visit.Goals as goal
use Rattle.rbf_sector_rules.proofs.walk.Search.visit.Goals.{In_ok-list_positions}

-- the ranges that are listed
runs_of : (c : In_ok-list_positions) (ranges : List (ℕ × ℕ)) → ranges ≡ c.list_positions.new.ranges.items
    → ArePositions (geometry_of c.args.image.now.ident) (sector c.args.image.now.bytes.now)
    (listed c.args.image.now c.args.dir.now.number) ranges
runs_of c ranges is =
    positions_are c.args.image.now c.args.dir.now c.requires.directory c.list_positions.new.ranges.items c.in_ok-list_positions.ensures.positions c.in_ok-list_positions.ensures.some ranges is

pub loop-first-init : goal.loop-first-init
loop-first-init c =
    (c.requires.searching, visited_none (geometry_of c.args.image.now.ident) (listed c.args.image.now c.args.dir.now.number) c.args.self.now.found.items, refl)

pub overflow_add-first : goal.overflow_add-first
overflow_add-first c =
    let ranges = runs_of (goal.at.overflow_add-first c).In_ok-list_positions c.deref-first-items.result.now c.deref-first-items.ensures.value in
    omega (arith, ranges.within c.loop-first.first-index (0, 0) (omega arith), c.min-passed.ensures, (header_of c.args.image.now).most)

pub overflow_add-first-in-loop-first : goal.overflow_add-first-in-loop-first
overflow_add-first-in-loop-first c =
    let ranges = runs_of (goal.at.overflow_add-first-in-loop-first c).In_ok-list_positions c.deref-first-items.result.now c.deref-first-items.ensures.value in
    omega (arith, ranges.within c.loop-first.first-index (0, 0) (omega arith), (header_of c.args.image.now).most)

pub read_range-requires-clause-within : goal.read_range-requires-clause-within
read_range-requires-clause-within c =
    (runs_of (goal.at.read_range-requires-clause-within c).In_ok-list_positions c.deref-first-items.result.now c.deref-first-items.ensures.value).within c.loop-first.first-index (0, 0) (omega arith)

pub loop-first-preserved : goal.loop-first-preserved
loop-first-preserved c =
    let g = geometry_of c.args.image.now.ident in
    let disk = sector c.args.image.now.bytes.now in
    let contents = listed c.args.image.now c.args.dir.now.number in
    let items = c.deref-first-items.result.now in
    let i = c.loop-first.first-index in
    let positions = runs_of (goal.at.loop-first-preserved c).In_ok-list_positions c.deref-first-items.result.now c.deref-first-items.ensures.value in
    let before = c.loop-first.invariant in (
      c.in_ok-read_range.ensures.searching,
      visited_run g disk contents items positions i (omega arith) c.args.self.now.found.items
          c.loop-first.self.found.items c.read_range.new.self.found.items c.loop-first.skipped c.min-passed.result
          before.2 (omega (arith, c.min-passed.ensures)) before.1 c.in_ok-read_range.ensures.found,
      omega (arith, next_before g disk contents items positions i (omega arith), before.2, c.min-passed.ensures),
    )

pub returns-clause-visited : goal.returns-clause-visited
returns-clause-visited c =
    let positions = runs_of (goal.at.returns-clause-visited c).In_ok-list_positions c.deref-first-items.result.now c.deref-first-items.ensures.value in
    visited_all (geometry_of c.args.image.now.ident) (sector c.args.image.now.bytes.now)
    (listed c.args.image.now c.args.dir.now.number) c.deref-first-items.result.now positions
    c.args.self.now.found.items c.loop-first.self.found.items c.loop-first.first-index (omega arith)
    c.loop-first.invariant.1
