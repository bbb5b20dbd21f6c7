use Rattle.std.proofs.Common.{◌≡◌, length, ap, arith}
use Rattle.rbf_entries.proofs.Needs.{needs_is}
use Rattle.rbf_entries.proofs.room.check_room.Goals as goal
use Rattle.rbf_entries.proofs.room.check_room.Goals.{else-more-gt0-via-then-more-gt0+else-from-eq-MAX_SEGMENTS, else-more-gt0-via-else-more-gt0}

pub returns-then-free_count-clusters : goal.returns-then-free_count-clusters
returns-then-free_count-clusters c image on file agrees vol says =
    let needs = needs_is c.args.v.now image on file c.args.dir.now c.args.place c.clusters_for_place-more.result agrees vol says c.clusters_for_place-more.ensures.count in
    let free = c.free_count.ensures.volume image on agrees vol in
    let less = c.if-free_count-clusters.true in
    omega arith

pub returns-then-from-eq-MAX_SEGMENTS : goal.returns-then-from-eq-MAX_SEGMENTS
returns-then-from-eq-MAX_SEGMENTS c image on file agrees vol says =
    let needs = needs_is c.args.v.now image on file c.args.dir.now c.args.place c.clusters_for_place-more.result agrees vol says c.clusters_for_place-more.ensures.count in
    let free = c.free_count.ensures.volume image on agrees vol in
    let enough = c.if-free_count-clusters.false in
    let some = c.if-more-gt0.true in
    let runs = c.runs.ensures.count in
    let same : length c.args.dir.now.segs ≡ length file.segments = ap length says.segments_are in
    record { enough = omega arith; needs = omega arith; full = omega (arith, c.from.ensures, c.if-from-eq-MAX_SEGMENTS.true) }

pub returns : goal.returns
returns c image on file agrees vol says =
    let needs = needs_is c.args.v.now image on file c.args.dir.now c.args.place c.clusters_for_place-more.result agrees vol says c.clusters_for_place-more.ensures.count in
    let free = c.free_count.ensures.volume image on agrees vol in
    let enough = c.if-free_count-clusters.false in
    let same : length c.args.dir.now.segs ≡ length file.segments = ap length says.segments_are in
    elim c.else-more-gt0.branch [
      | else-more-gt0-via-then-more-gt0+else-from-eq-MAX_SEGMENTS w ↦
          let counted = w.runs.ensures.count in
          let few = w.runs.ensures.segments.few in
          let from = w.from.ensures in
          let other = w.if-from-eq-MAX_SEGMENTS.false in
          record { enough = omega arith; few = λ _. omega arith }
      | else-more-gt0-via-else-more-gt0 w ↦ record { enough = omega arith; few = λ some. absurd (omega (arith, w.if-more-gt0.false)) }
    ]
