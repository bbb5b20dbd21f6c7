use Rattle.std.proofs.Common.{◌≡◌, ◌<◌, ℕ, List, length, get_or, subst, ◌∙◌, ap, arith}
use Rattle.std.proofs.lemmas.List.{take_all}
use Rattle.std.specs.List.{range_with_len}
use Rattle.rbf_model.specs.Disk.{disk_of}
use Rattle.rbf_model.specs.Geometry.{sector}
use Rattle.rbf_model.specs.Segments.{sectors_of}
use Rattle.rbf_sector.specs.Ident.{geometry_of}
use Rattle.rbf_sector_rules.specs.Least.{IsLeast}
use Rattle.rbf_sector_rules.specs.Used.{IsUnmarked, IsUnmarkedIn}
use Rattle.rbf_sector_rules.proofs.Owned.{AreRuns, runs_are}
use Rattle.rbf_sector_rules.proofs.NextTables.{least_of_run}
use Rattle.rbf_sector_rules.proofs.Unmarked.{unmarked_none, unmarked_more}
use Rattle.rbf_sector_rules.proofs.marks.least_unmarked_of.Goals as goal
use Rattle.rbf_sector_rules.proofs.marks.least_unmarked_of.Goals.{In_ok-list_segments}

runs_of : (c : In_ok-list_segments) (segments : List (ℕ × ℕ)) → segments ≡ c.list_segments.new.segments.items
    → AreRuns (geometry_of c.args.image.now.ident) (sector c.args.image.now.bytes.now) c.args.file.now.number segments
runs_of c segments is =
    let listed = c.in_ok-list_segments.ensures in
    runs_are c.args.image.now c.args.file.now.number c.list_segments.new.segments.items segments c.requires.segments c.requires.map c.requires.reached listed.sectors listed.segments is

pub loop-first-init : goal.loop-first-init
loop-first-init c = unmarked_none (geometry_of c.args.image.now.ident) (sector c.args.image.now.bytes.now)

pub next_in_range-requires-clause-some : goal.next_in_range-requires-clause-some
next_in_range-requires-clause-some c =
    let segments = runs_of (goal.at.next_in_range-requires-clause-some c).In_ok-list_segments c.deref-first-items.result.now c.deref-first-items.ensures.value in
    omega (arith, (segments.segments c.loop-first.first-index (0, 0) (omega arith)).some, c.from.ensures)

pub next_in_range-requires-clause-within : goal.next_in_range-requires-clause-within
next_in_range-requires-clause-within c =
    let segments = runs_of (goal.at.next_in_range-requires-clause-within c).In_ok-list_segments c.deref-first-items.result.now c.deref-first-items.ensures.value in
    omega (arith, segments.within c.loop-first.first-index (0, 0) (omega arith), c.requires.nexts.size, c.from.ensures)

pub next_in_range-requires-clause-fits : goal.next_in_range-requires-clause-fits
next_in_range-requires-clause-fits c =
    let segments = runs_of (goal.at.next_in_range-requires-clause-fits c).In_ok-list_segments c.deref-first-items.result.now c.deref-first-items.ensures.value in
    let segment = segments.segments c.loop-first.first-index (0, 0) (omega arith) in
    omega (arith, segment.lsn, segment.count, c.from.ensures)

pub loop-first-preserved : goal.loop-first-preserved
loop-first-preserved c =
    let g = geometry_of c.args.image.now.ident in
    let disk = sector c.args.image.now.bytes.now in
    let items = c.deref-first-items.result.now in
    let i = c.loop-first.first-index in
    let r = get_or items i (0, 0) in
    let low : i < length items = omega arith in
    let segments = runs_of (goal.at.loop-first-preserved c).In_ok-list_segments c.deref-first-items.result.now c.deref-first-items.ensures.value in
    let within = segments.within i (0, 0) low in
    let size = c.requires.nexts.size in
    let some = (segments.segments i (0, 0) low).some in
    let here = least_of_run (IsUnmarked (disk_of g disk)) g.total c.args.nexts.now r.0 c.from.result
    c.next_in_range.result c.requires.nexts (omega (arith, some, c.from.ensures))
    (omega (arith, within, size, c.from.ensures)) c.next_in_range.ensures in
    let P : ℕ → Type 0 = λ count. IsLeast (IsUnmarkedIn (disk_of g disk) (range_with_len r.0 count)) c.next_in_range.result in
    unmarked_more g disk items i c.next_in_range.result c.loop-first.least c.least_of-least.result low c.loop-first.invariant (subst P c.from.ensures here) c.least_of-least.ensures

pub returns : goal.returns
returns c =
    let g = geometry_of c.args.image.now.ident in
    let disk = sector c.args.image.now.bytes.now in
    let items = c.deref-first-items.result.now in
    let segments = runs_of (goal.at.returns c).In_ok-list_segments c.deref-first-items.result.now c.deref-first-items.ensures.value in
    let P : List ℕ → Type 0 = λ xs. IsLeast (IsUnmarkedIn (disk_of g disk) xs) c.loop-first.least in
    subst P (ap sectors_of (take_all c.loop-first.first-index items (omega arith)) ∙ segments.sectors) c.loop-first.invariant
