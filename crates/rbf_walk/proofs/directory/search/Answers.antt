use Rattle.std.proofs.Common.{◌/◌, ◌<◌, refl, ap, sym, ◌∙◌, arith, is_some}
use Rattle.std.proofs.lemmas.Option.{slice_get-get_or}
use Rattle.std.proofs.lemmas.Result.{err_from_is_err_and}
use Rattle.os9_outer.specs.Drive.{sector_at}
use Rattle.rbf_model.specs.Segments.{sectors_of}
use Rattle.rbf_model.specs.Walk.{entry_has_name}
use Rattle.rbf_access.proofs.Caching.{held_used, held_is}
use Rattle.rbf_access.proofs.Counting.{counts_then}
use Rattle.rbf_access.proofs.Reading.{mounted_still}
use Rattle.rbf_access.proofs.ReadPieces.{place_on, sector_at_place}
use Rattle.rbf_access.proofs.ReadFile.{listed_on}
use Rattle.rbf_walk.proofs.Searching.{none_searched, none_more, first_more, free_more, found_on, absent_on, place_low, next_place, all_places, few_places, one_more_call, all_calls, next_is_read, all_are_read, read_within, all_within}
use Rattle.rbf_walk.proofs.directory.search.Goals as goal

pub loop-place-init : goal.loop-place-init
loop-place-init g c = none_searched c.args.name.now _ (c.args.dir.now.size / 32) _ _ _ _ _ refl c.requires.mounted.cached

pub unwrap-lsn-requires : goal.unwrap-lsn-requires
unwrap-lsn-requires g c =
    let has = c.requires.directory in
    let more = next_place (c.args.dir.now.size / 32) c.loop-place.place _ c.div_ceil-place-end.ensures c.loop-place-test.true in
    let low = place_low _ c.args.dir.now has.content has.number has.file has.on has.is has.fields c.loop-place.place more in
    ap is_some (c.lsn_of.ensures ∙ slice_get-get_or (sectors_of c.args.dir.now.segs) c.loop-place.place 0 low)

pub bring-requires-clause-cached : goal.bring-requires-clause-cached
bring-requires-clause-cached g c = c.loop-place.invariant.cached

pub bring-requires-clause-on : goal.bring-requires-clause-on
bring-requires-clause-on g c =
    let has = c.requires.directory in
    let on_drive = listed_on _ has.content has.on has.number has.file has.is c.args.dir.now has.fields _ refl in
    let more = next_place (c.args.dir.now.size / 32) c.loop-place.place _ c.div_ceil-place-end.ensures c.loop-place-test.true in
    let low = place_low _ c.args.dir.now has.content has.number has.file has.on has.is has.fields c.loop-place.place more in
    place_on _ c.args.dir.now.segs on_drive c.loop-place.place c.unwrap-lsn.result _ (sym c.lsn_of.ensures ∙ c.unwrap-lsn.ensures) low c.loop-place.invariant.same_media

pub sector-bytes-requires : goal.sector-bytes-requires
sector-bytes-requires g c = held_used c.unwrap-lsn.result c.loop-place.v.cache c.bring.new.self.cache c.in_ok-bring.ensures.used

pub returns-in_err-bring-clause-mounted : goal.returns-in_err-bring-clause-mounted
returns-in_err-bring-clause-mounted g c =
    mounted_still _ _ _ _ (c.in_err-bring.ensures.volume_kept ∙ c.loop-place.invariant.same_volume)
    (c.in_err-bring.ensures.media_kept ∙ c.loop-place.invariant.same_media) c.in_err-bring.ensures.cached
    c.requires.mounted

pub returns-in_err-bring-clause-media_kept : goal.returns-in_err-bring-clause-media_kept
returns-in_err-bring-clause-media_kept g c = c.in_err-bring.ensures.media_kept ∙ c.loop-place.invariant.same_media

pub returns-in_err-bring-clause-volume_kept : goal.returns-in_err-bring-clause-volume_kept
returns-in_err-bring-clause-volume_kept g c = c.in_err-bring.ensures.volume_kept ∙ c.loop-place.invariant.same_volume

pub returns-in_err-bring-clause-counts : goal.returns-in_err-bring-clause-counts
returns-in_err-bring-clause-counts g c =
    let more = next_place (c.args.dir.now.size / 32) c.loop-place.place _ c.div_ceil-place-end.ensures c.loop-place-test.true in
    let p = err_from_is_err_and c.from_residual.result c.from_residual.ensures.1 in
    one_more_call _ c.args.dir.now.size c.loop-place.place _ _ _ more c.loop-place.invariant.moved (rw (p.1, p.2) c.in_err-bring.ensures.counts)

pub returns-in-Some-clause-ok : goal.returns-in-Some-clause-ok
returns-in-Some-clause-ok g c v n file on is known =
    let before = c.loop-place.invariant in
    let read = c.in_ok-bring.ensures in
    let first = c.in-Some.ensures in
    let below : c.in-Some.i < c.entries_in-count.result = first.below in
    let more = next_place (c.args.dir.now.size / 32) c.loop-place.place _ c.div_ceil-place-end.ensures c.loop-place-test.true in
    let on_drive = listed_on _ v on n file is c.args.dir.now known _ refl in
    let low = place_low _ c.args.dir.now v n file on is known c.loop-place.place more in
    let there_is = held_is _ _ c.bring.new.self.cache c.unwrap-lsn.result _ read.media_kept read.cached c.sector-bytes.ensures in
    let there =
    there_is ∙ ap (λ m. sector_at m c.unwrap-lsn.result) before.same_media ∙ sector_at_place _ c.args.dir.now.segs
    on_drive c.loop-place.place c.unwrap-lsn.result (sym c.lsn_of.ensures ∙ c.unwrap-lsn.ensures) low in
    found_on _ c.args.dir.now v n file on is known c.args.name.now _ c.loop-place.place c.in-Some.i _ there (omega (arith, c.entries_in-count.ensures))
    (first_more (entry_has_name c.args.name.now) _ _ c.loop-place.place (c.args.dir.now.size / 32)
    c.entries_in-count.result there c.entries_in-count.ensures more c.in-Some.i (c.args.dir.now.size / 32) (omega arith)
    before.absent first)
    c.descriptor_in.ensures

pub returns-in-Some-clause-mounted : goal.returns-in-Some-clause-mounted
returns-in-Some-clause-mounted g c =
    mounted_still _ _ _ _ (c.in_ok-bring.ensures.volume_kept ∙ c.loop-place.invariant.same_volume)
    (c.in_ok-bring.ensures.media_kept ∙ c.loop-place.invariant.same_media) c.in_ok-bring.ensures.cached
    c.requires.mounted

pub returns-in-Some-clause-media_kept : goal.returns-in-Some-clause-media_kept
returns-in-Some-clause-media_kept g c = c.in_ok-bring.ensures.media_kept ∙ c.loop-place.invariant.same_media

pub returns-in-Some-clause-volume_kept : goal.returns-in-Some-clause-volume_kept
returns-in-Some-clause-volume_kept g c = c.in_ok-bring.ensures.volume_kept ∙ c.loop-place.invariant.same_volume

pub returns-in-Some-clause-counts : goal.returns-in-Some-clause-counts
returns-in-Some-clause-counts g c =
    let more = next_place (c.args.dir.now.size / 32) c.loop-place.place _ c.div_ceil-place-end.ensures c.loop-place-test.true in
    one_more_call _ c.args.dir.now.size c.loop-place.place _ _ _ more c.loop-place.invariant.moved c.in_ok-bring.ensures.counts

pub loop-place-preserved : goal.loop-place-preserved
loop-place-preserved g c =
    let before = c.loop-place.invariant in
    let read = c.in_ok-bring.ensures in
    let has = c.requires.directory in
    let more = next_place (c.args.dir.now.size / 32) c.loop-place.place _ c.div_ceil-place-end.ensures c.loop-place-test.true in
    let on_drive = listed_on _ has.content has.on has.number has.file has.is c.args.dir.now has.fields _ refl in
    let low = place_low _ c.args.dir.now has.content has.number has.file has.on has.is has.fields c.loop-place.place more in
    let there_is = held_is _ _ c.bring.new.self.cache c.unwrap-lsn.result _ read.media_kept read.cached c.sector-bytes.ensures in
    let there =
    there_is ∙ ap (λ m. sector_at m c.unwrap-lsn.result) before.same_media ∙ sector_at_place _ c.args.dir.now.segs
    on_drive c.loop-place.place c.unwrap-lsn.result (sym c.lsn_of.ensures ∙ c.unwrap-lsn.ensures) low in
    record {
      absent =
          none_more (entry_has_name c.args.name.now) _ _ c.loop-place.place (c.args.dir.now.size / 32)
          c.entries_in-count.result there c.entries_in-count.ensures more before.absent c.in_default.ensures;
      free_is =
          free_more _ _ c.loop-place.place (c.args.dir.now.size / 32) c.entries_in-count.result c.loop-place.free
          c.first_free-free.result there c.entries_in-count.ensures more before.free_is c.first_free-free.ensures.kept
          c.first_free-free.ensures.none;
      same_media = read.media_kept ∙ before.same_media;
      same_volume = read.volume_kept ∙ before.same_volume;
      cached = read.cached;
      moved = counts_then _ c.loop-place.place 1 _ _ _ before.moved read.counts;
    }

pub returns-clause-ok : goal.returns-clause-ok
returns-clause-ok g c v n file on is known =
    let before = c.loop-place.invariant in
    let all = all_places (c.args.dir.now.size / 32) c.loop-place.place _ c.div_ceil-place-end.ensures c.loop-place-test.false in
    absent_on _ c.args.dir.now v n file on is known c.args.name.now _ c.unwrap_or.result c.loop-place.free all before.absent before.free_is c.unwrap_or.ensures

pub returns-clause-mounted : goal.returns-clause-mounted
returns-clause-mounted g c = mounted_still _ _ _ _ c.loop-place.invariant.same_volume c.loop-place.invariant.same_media c.loop-place.invariant.cached c.requires.mounted

pub returns-clause-media_kept : goal.returns-clause-media_kept
returns-clause-media_kept g c = c.loop-place.invariant.same_media

pub returns-clause-volume_kept : goal.returns-clause-volume_kept
returns-clause-volume_kept g c = c.loop-place.invariant.same_volume

pub returns-clause-counts : goal.returns-clause-counts
returns-clause-counts g c =
    all_calls c.args.dir.now.size c.loop-place.place _ _ (few_places c.args.dir.now.size c.loop-place.place _ c.div_ceil-place-end.ensures c.loop-place.auto.place-end) c.loop-place.invariant.moved

pub returns-in_err-bring-clause-read : goal.returns-in_err-bring-clause-read
returns-in_err-bring-clause-read g c v n file on is known =
    let more = next_place (c.args.dir.now.size / 32) c.loop-place.place _ c.div_ceil-place-end.ensures c.loop-place-test.true in
    read_within _ c.loop-place.place _ _ _ _ c.loop-place.invariant.moved c.in_err-bring.ensures.counts
    (next_is_read _ c.args.dir.now v n file on is known c.args.name.now c.loop-place.place more c.loop-place.invariant.absent)

pub returns-in-Some-clause-read : goal.returns-in-Some-clause-read
returns-in-Some-clause-read g c v n file on is known =
    let more = next_place (c.args.dir.now.size / 32) c.loop-place.place _ c.div_ceil-place-end.ensures c.loop-place-test.true in
    read_within _ c.loop-place.place _ _ _ _ c.loop-place.invariant.moved c.in_ok-bring.ensures.counts
    (next_is_read _ c.args.dir.now v n file on is known c.args.name.now c.loop-place.place more c.loop-place.invariant.absent)

pub returns-clause-read : goal.returns-clause-read
returns-clause-read g c v n file on is known =
    let before = c.loop-place.invariant in
    let all = all_places (c.args.dir.now.size / 32) c.loop-place.place _ c.div_ceil-place-end.ensures c.loop-place-test.false in
    all_within c.loop-place.place _ _ _ before.moved
    (all_are_read _ c.args.dir.now v n file on is known c.args.name.now c.loop-place.place c.unwrap_or.result
    (few_places c.args.dir.now.size c.loop-place.place _ c.div_ceil-place-end.ensures c.loop-place.auto.place-end)
    (absent_on _ c.args.dir.now v n file on is known c.args.name.now _ c.unwrap_or.result c.loop-place.free all before.absent before.free_is c.unwrap_or.ensures))
