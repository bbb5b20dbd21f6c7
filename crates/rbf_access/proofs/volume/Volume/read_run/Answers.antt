use Rattle.std.proofs.Common.{◌≡◌, ◌+◌, ◌-◌, ◌/◌, ◌<◌, length, ap, subst, ◌∙◌, arith}
use Rattle.std.proofs.lemmas.Result.{err_from_is_err_and}
use Rattle.os9_outer.specs.Drive.{sector_at}
use Rattle.rbf_model.specs.Segments.{sectors_of}
use Rattle.rbf_change.specs.Contents.{sector_span}
use Rattle.rbf_access.specs.Cached.{StayFirst}
use Rattle.rbf_access.specs.Reading.{run_list}
use Rattle.rbf_access.proofs.Caching.{held_used, held_is}
use Rattle.rbf_access.proofs.Counting.{counts_then, counts_most}
use Rattle.rbf_access.proofs.Using.{one_hit, one_used}
use Rattle.rbf_access.proofs.RunReads.{run_fits, run_length, run_place}
use Rattle.rbf_access.proofs.ReadPieces.{none_read, span_is, copied_more, some_room, place_on, sector_at_place, whole_length}
use Rattle.rbf_access.proofs.volume.Volume.read_run.Goals as goal

pub bring-requires-clause-on : goal.bring-requires-clause-on
bring-requires-clause-on g c =
    let there = c.requires.bytes in
    let within = there.within in
    let some = some_room c.args.into.now c.is_empty.result c.if-is_empty.false c.is_empty.ensures in
    let at_place = run_place c.args.run.now c.loop-place.place (omega (arith, run_length c.args.run.now)) in
    let low : c.loop-place.place < length (sectors_of (run_list c.args.run.now)) = omega arith in
    place_on _ (run_list c.args.run.now) c.requires.bytes.on_drive c.loop-place.place (c.args.run.now.lsn + c.loop-place.place) _ at_place low c.loop-place.invariant.same_media

pub sector-requires : goal.sector-requires
sector-requires g c = held_used (c.args.run.now.lsn + c.loop-place.place) c.loop-place.self.cache c.bring.new.self.cache c.in_ok-bring.ensures.used

pub loop-place-preserved : goal.loop-place-preserved
loop-place-preserved g c =
    let before = c.loop-place.invariant in
    let within = c.requires.bytes.within in
    let read = c.in_ok-bring.ensures in
    let some = some_room c.args.into.now c.is_empty.result c.if-is_empty.false c.is_empty.ensures in
    let at_place = run_place c.args.run.now c.loop-place.place (omega (arith, run_length c.args.run.now)) in
    let low : c.loop-place.place < length (sectors_of (run_list c.args.run.now)) = omega arith in
    let all = whole_length _ (run_list c.args.run.now) c.requires.bytes.on_drive in
    let there = sector_at_place _ (run_list c.args.run.now) c.requires.bytes.on_drive c.loop-place.place (c.args.run.now.lsn + c.loop-place.place) at_place low in
    let is = held_is _ _ c.bring.new.self.cache (c.args.run.now.lsn + c.loop-place.place) _ read.media_kept read.cached c.sector.ensures in
    let counted = counts_then _ (c.loop-place.place - c.args.at / 256) 1 _ _ _ before.moved read.counts in
    record {
      bytes_are =
          copied_more _ c.args.into.now c.loop-place.into c.sector.result.now c.copy_piece.new.into c.args.at c.loop-place.place
          (omega arith) (omega arith) (omega arith) (is ∙ ap (λ m. sector_at m (c.args.run.now.lsn + c.loop-place.place)) before.same_media ∙ there)
          before.bytes_are (omega arith) c.copy_piece.ensures;
      same_media = read.media_kept ∙ before.same_media;
      same_volume = read.volume_kept ∙ before.same_volume;
      cached = read.cached;
      hits =
          one_hit (run_list c.args.run.now) c.args.self.now.cache (c.args.at / 256) c.loop-place.place (c.args.run.now.lsn + c.loop-place.place)
          c.loop-place.self.cache c.bring.new.self.cache _ _ _ at_place (omega arith)
          before.hits read.hit read.still;
      stay =
          one_used (run_list c.args.run.now) (c.args.at / 256) c.loop-place.place (c.args.run.now.lsn + c.loop-place.place) c.args.self.now.cache
          c.loop-place.self.cache c.bring.new.self.cache at_place (omega arith)
          before.stay read.used;
      moved = counts_most _ (c.loop-place.place - c.args.at / 256 + 1) (c.loop-place.place + 1 - c.args.at / 256) _ _ (omega arith) counted;
    }

pub bring-requires-clause-cached : goal.bring-requires-clause-cached
bring-requires-clause-cached g c = c.loop-place.invariant.cached

pub loop-place-init : goal.loop-place-init
loop-place-init g c = none_read _ _ c.args.at _ _ _ _ _ c.requires.cached

pub returns-in_err-bring-clause-cache : goal.returns-in_err-bring-clause-cache
returns-in_err-bring-clause-cache g c =
    let before = c.loop-place.invariant in
    let read = c.in_err-bring.ensures in
    let some = some_room c.args.into.now c.is_empty.result c.if-is_empty.false c.is_empty.ensures in
    let at_place = run_place c.args.run.now c.loop-place.place (omega (arith, run_length c.args.run.now)) in
    let span = span_is c.args.at (length c.args.into.now) some in
    let p = err_from_is_err_and c.from_residual.result c.from_residual.ensures.1 in
    rw (p.1, p.2)
    (record {
      hits = λ all.
          (one_hit (run_list c.args.run.now) c.args.self.now.cache (c.args.at / 256) c.loop-place.place (c.args.run.now.lsn + c.loop-place.place)
          c.loop-place.self.cache c.bring.new.self.cache _ _ _ at_place (omega arith)
          before.hits read.hit read.still
          (c.args.at / 256 + sector_span c.args.at (c.args.at + length c.args.into.now)) (omega (arith, span)) all).0;
      held = tt;
    })

pub returns-clause-cache : goal.returns-clause-cache
returns-clause-cache g c =
    let before = c.loop-place.invariant in
    let some = some_room c.args.into.now c.is_empty.result c.if-is_empty.false c.is_empty.ensures in
    let span = span_is c.args.at (length c.args.into.now) some in
    let count : c.loop-place.place - c.args.at / 256 ≡ sector_span c.args.at (c.args.at + length c.args.into.now) =
    omega (arith, span) in
    record {
      hits = λ all.
          (before.hits (c.args.at / 256 + sector_span c.args.at (c.args.at + length c.args.into.now))
          (omega (arith, span)) all).0;
      held =
          subst (λ n. StayFirst (run_list c.args.run.now) (c.args.at / 256) n c.args.self.now.cache c.loop-place.self.cache)
          count before.stay;
    }

pub overflow_add-lsn : goal.overflow_add-lsn
overflow_add-lsn g c =
    let within = c.requires.bytes.within in
    let some = some_room c.args.into.now c.is_empty.result c.if-is_empty.false c.is_empty.ensures in
    let low : c.args.run.now.lsn + c.loop-place.place < 4294967296 =
    run_fits _ c.args.run.now c.loop-place.place c.requires.bytes.on_drive (omega (arith, run_length c.args.run.now)) in
    omega arith
