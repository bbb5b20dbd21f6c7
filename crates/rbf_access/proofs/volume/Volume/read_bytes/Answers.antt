use Rattle.std.proofs.Common.{◌≡◌, ◌+◌, ◌-◌, ◌/◌, ◌<◌, length, ap, sym, subst, ◌∙◌, arith}
use Rattle.std.proofs.lemmas.Result.{err_from_is_err_and}
use Rattle.os9_outer.specs.Drive.{sector_at}
use Rattle.rbf_model.specs.Segments.{sectors_of}
use Rattle.rbf_change.specs.Contents.{sector_span}
use Rattle.rbf_access.specs.Cached.{StayFirst}
use Rattle.rbf_access.proofs.Caching.{held_used, held_is}
use Rattle.rbf_access.proofs.Counting.{counts_then, counts_most}
use Rattle.rbf_access.proofs.Using.{one_hit, one_used}
use Rattle.rbf_access.proofs.ReadPieces.{none_read, span_is, copied_more, some_room, place_on, sector_at_place, whole_length}
use Rattle.rbf_access.proofs.volume.Volume.read_bytes.Goals as goal

pub bring-requires-clause-on : goal.bring-requires-clause-on
bring-requires-clause-on g c =
    let there = c.requires.bytes in
    let within = there.within in
    let some = some_room c.args.into.now c.is_empty.result c.if-is_empty.false c.is_empty.ensures in
    let low : c.loop-place.place < length (sectors_of c.args.segs.now) = omega arith in
    place_on _ c.args.segs.now c.requires.bytes.on_drive c.loop-place.place c.unwrap-lsn.result _ (sym c.lsn_of.ensures ∙ c.unwrap-lsn.ensures) low c.loop-place.invariant.same_media

pub sector-requires : goal.sector-requires
sector-requires g c = held_used c.unwrap-lsn.result c.loop-place.self.cache c.bring.new.self.cache c.in_ok-bring.ensures.used

pub loop-place-preserved : goal.loop-place-preserved
loop-place-preserved g c =
    let before = c.loop-place.invariant in
    let within = c.requires.bytes.within in
    let read = c.in_ok-bring.ensures in
    let some = some_room c.args.into.now c.is_empty.result c.if-is_empty.false c.is_empty.ensures in
    let low : c.loop-place.place < length (sectors_of c.args.segs.now) = omega arith in
    let all = whole_length _ c.args.segs.now c.requires.bytes.on_drive in
    let there = sector_at_place _ c.args.segs.now c.requires.bytes.on_drive c.loop-place.place c.unwrap-lsn.result (sym c.lsn_of.ensures ∙ c.unwrap-lsn.ensures) low in
    let is = held_is _ _ c.bring.new.self.cache c.unwrap-lsn.result _ read.media_kept read.cached c.sector.ensures in
    let counted = counts_then _ (c.loop-place.place - c.args.at / 256) 1 _ _ _ before.moved read.counts in
    record {
      bytes_are =
          copied_more _ c.args.into.now c.loop-place.into c.sector.result.now c.copy_piece.new.into c.args.at c.loop-place.place
          (omega arith) (omega arith) (omega arith) (is ∙ ap (λ m. sector_at m c.unwrap-lsn.result) before.same_media ∙ there)
          before.bytes_are (omega arith) c.copy_piece.ensures;
      same_media = read.media_kept ∙ before.same_media;
      same_volume = read.volume_kept ∙ before.same_volume;
      cached = read.cached;
      hits =
          one_hit c.args.segs.now c.args.self.now.cache (c.args.at / 256) c.loop-place.place c.unwrap-lsn.result
          c.loop-place.self.cache c.bring.new.self.cache _ _ _ (sym c.lsn_of.ensures ∙ c.unwrap-lsn.ensures) (omega arith)
          before.hits read.hit read.still;
      stay =
          one_used c.args.segs.now (c.args.at / 256) c.loop-place.place c.unwrap-lsn.result c.args.self.now.cache
          c.loop-place.self.cache c.bring.new.self.cache (sym c.lsn_of.ensures ∙ c.unwrap-lsn.ensures) (omega arith)
          before.stay read.used;
      moved = counts_most _ (c.loop-place.place - c.args.at / 256 + 1) (c.loop-place.place + 1 - c.args.at / 256) _ _ (omega arith) counted;
    }

pub bring-requires-clause-cached : goal.bring-requires-clause-cached
bring-requires-clause-cached g c = c.loop-place.invariant.cached

pub loop-place-init : goal.loop-place-init
loop-place-init g c = none_read _ _ c.args.at _ _ _ _ _ c.requires.cached

pub returns-in_err-bring-clause-cache : goal.returns-in_err-bring-clause-cache
returns-in_err-bring-clause-cache g c =
    let before = c.loop-place.invariant in
    let read = c.in_err-bring.ensures in
    let some = some_room c.args.into.now c.is_empty.result c.if-is_empty.false c.is_empty.ensures in
    let span = span_is c.args.at (length c.args.into.now) some in
    let p = err_from_is_err_and c.from_residual.result c.from_residual.ensures.1 in
    rw (p.1, p.2)
    (record {
      hits = λ all.
          (one_hit c.args.segs.now c.args.self.now.cache (c.args.at / 256) c.loop-place.place c.unwrap-lsn.result
          c.loop-place.self.cache c.bring.new.self.cache _ _ _ (sym c.lsn_of.ensures ∙ c.unwrap-lsn.ensures) (omega arith)
          before.hits read.hit read.still
          (c.args.at / 256 + sector_span c.args.at (c.args.at + length c.args.into.now)) (omega (arith, span)) all).0;
      held = tt;
    })

pub returns-clause-cache : goal.returns-clause-cache
returns-clause-cache g c =
    let before = c.loop-place.invariant in
    let some = some_room c.args.into.now c.is_empty.result c.if-is_empty.false c.is_empty.ensures in
    let span = span_is c.args.at (length c.args.into.now) some in
    let count : c.loop-place.place - c.args.at / 256 ≡ sector_span c.args.at (c.args.at + length c.args.into.now) =
    omega (arith, span) in
    record {
      hits = λ all.
          (before.hits (c.args.at / 256 + sector_span c.args.at (c.args.at + length c.args.into.now))
          (omega (arith, span)) all).0;
      held =
          subst (λ n. StayFirst c.args.segs.now (c.args.at / 256) n c.args.self.now.cache c.loop-place.self.cache)
          count before.stay;
    }
