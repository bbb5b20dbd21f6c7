use Rattle.std.proofs.Common.{◌≡◌, ◌*◌, ◌<◌, List, ℕ, Some, None, length, get_or, arith}
use Rattle.std.proofs.lemmas.Bool.{false≢true}
use Rattle.rbf_model.specs.Disk.{disk_of}
use Rattle.rbf_model.specs.Geometry.{sector}
use Rattle.rbf_sector.specs.Ident.{geometry_of}
use Rattle.rbf_sector_rules.specs.Reading.{listed}
use Rattle.rbf_sector_rules.specs.Rules.{IsBadPosition}
use Rattle.rbf_sector_rules.proofs.NextTables.{least_of_run}
use Rattle.rbf_sector_rules.proofs.Headers.{header_of}
use Rattle.rbf_sector_rules.proofs.Positioned.{ArePositions, positions_are}
use Rattle.rbf_sector_rules.proofs.BadPositions.{none_more, none_bad, bad_in_run}
use Rattle.rbf_sector_rules.proofs.numbers.has_bad_number.Goals as goal
use Rattle.rbf_sector_rules.proofs.numbers.has_bad_number.Goals.{In_ok-list_positions}

-- the ranges that are listed
runs_of : (c : In_ok-list_positions) (ranges : List (ℕ × ℕ)) → ranges ≡ c.list_positions.new.ranges.items
    → ArePositions (geometry_of c.args.image.now.ident) (sector c.args.image.now.bytes.now)
    (listed c.args.image.now c.args.dir.now.number) ranges
runs_of c ranges is =
    positions_are c.args.image.now c.args.dir.now c.requires.directory c.list_positions.new.ranges.items c.in_ok-list_positions.ensures.positions c.in_ok-list_positions.ensures.some ranges is

pub loop-first-init : goal.loop-first-init
loop-first-init c = λ e h bad. false≢true h

pub next_in_range-requires-clause-some : goal.next_in_range-requires-clause-some
next_in_range-requires-clause-some c =
    (runs_of (goal.at.next_in_range-requires-clause-some c).In_ok-list_positions c.deref-first-items.result.now c.deref-first-items.ensures.value).some c.loop-first.first-index (0, 0) (omega arith)

pub next_in_range-requires-clause-within : goal.next_in_range-requires-clause-within
next_in_range-requires-clause-within c =
    let ranges = runs_of (goal.at.next_in_range-requires-clause-within c).In_ok-list_positions c.deref-first-items.result.now c.deref-first-items.ensures.value in
    omega (arith, ranges.within c.loop-first.first-index (0, 0) (omega arith), c.requires.nexts.size)

pub next_in_range-requires-clause-fits : goal.next_in_range-requires-clause-fits
next_in_range-requires-clause-fits c =
    let ranges = runs_of (goal.at.next_in_range-requires-clause-fits c).In_ok-list_positions c.deref-first-items.result.now c.deref-first-items.ensures.value in
    omega (arith, ranges.within c.loop-first.first-index (0, 0) (omega arith), (header_of c.args.image.now).most)

pub returns-in-Some : goal.returns-in-Some
returns-in-Some c =
    let g = geometry_of c.args.image.now.ident in
    let disk = sector c.args.image.now.bytes.now in
    let items = c.deref-first-items.result.now in
    let i = c.loop-first.first-index in
    let r = get_or items i (0, 0) in
    let low : i < length items = omega arith in
    let positions = runs_of (goal.at.returns-in-Some c).In_ok-list_positions c.deref-first-items.result.now c.deref-first-items.ensures.value in
    let bad = least_of_run (IsBadPosition (disk_of g disk)) (8 * g.total) c.args.nexts.now r.0 r.1
    (Some c.in-Some.field-0) c.requires.nexts (positions.some i (0, 0) low)
    (omega (arith, positions.within i (0, 0) low, c.requires.nexts.size)) c.in-Some.ensures in
    bad_in_run g disk (listed c.args.image.now c.args.dir.now.number) items positions i c.in-Some.field-0 low bad.0.0 bad.0.1

pub loop-first-preserved : goal.loop-first-preserved
loop-first-preserved c =
    let g = geometry_of c.args.image.now.ident in
    let disk = sector c.args.image.now.bytes.now in
    let items = c.deref-first-items.result.now in
    let i = c.loop-first.first-index in
    let r = get_or items i (0, 0) in
    let low : i < length items = omega arith in
    let positions = runs_of (goal.at.loop-first-preserved c).In_ok-list_positions c.deref-first-items.result.now c.deref-first-items.ensures.value in
    let none = least_of_run (IsBadPosition (disk_of g disk)) (8 * g.total) c.args.nexts.now r.0 r.1 None
    c.requires.nexts (positions.some i (0, 0) low)
    (omega (arith, positions.within i (0, 0) low, c.requires.nexts.size)) c.in_default.ensures in
    none_more g disk (listed c.args.image.now c.args.dir.now.number) items positions i low c.loop-first.invariant (λ e here bad. none e (here, bad))

pub returns : goal.returns
returns c =
    let positions = runs_of (goal.at.returns c).In_ok-list_positions c.deref-first-items.result.now c.deref-first-items.ensures.value in
    none_bad (geometry_of c.args.image.now.ident) (sector c.args.image.now.bytes.now)
    (listed c.args.image.now c.args.dir.now.number) c.deref-first-items.result.now positions
    c.loop-first.first-index (omega arith) c.loop-first.invariant
