use Rattle.std.proofs.lemmas.Grind.{common_steps}
use Rattle.std.proofs.lemmas.Result.{err_from_is_err_and}
use Rattle.rbf_access.proofs.Caching.{held_used, held_is}
use Rattle.rbf_access.proofs.Reading.{number_on, size_of, segments_on, mounted_still}
use Rattle.rbf_access.proofs.ReadFile.{segments_on_drive, room_within, count_is, bytes_are, calls_are, span_read}
use Rattle.std.proofs.Common.{◌/◌, ◌∙◌, arith}
use Rattle.rbf_access.proofs.Using.{all_hits, all_held}
use Rattle.rbf_access.proofs.volume.Volume.read_at.Goals as goal

pub read_contents-requires-clause-bytes : goal.read_contents-requires-clause-bytes
read_contents-requires-clause-bytes g c =
    let has = c.requires.file in
    let bring = c.in_ok-bring.ensures in
    let size =
    size_of _ c.args.fd c.sector.result.now c.read_size.result
    (held_is _ _ c.bring.new.self.cache c.args.fd _ bring.media_kept bring.cached c.sector.ensures) c.read_size.ensures has.content has.file has.on has.is in
    let segs = segments_on _ _ c.args.fd bring.media_kept has.content has.file has.on has.is in
    record {
      on_drive =
          segments_on_drive _ has.content has.on c.args.fd has.file has.is _ segs _ c.in_ok-bring.ensures.media_kept;
      within =
          room_within _ has.content has.on c.args.fd has.file has.is c.read_size.result size _ segs c.args.into.now c.args.at
          c.readable-count.result c.readable-count.ensures;
      fits = grind (arith, common_steps);
    }

pub returns-in_err-read_contents-clause-mounted : goal.returns-in_err-read_contents-clause-mounted
returns-in_err-read_contents-clause-mounted g c =
    mounted_still _ _ _ _ (c.in_err-read_contents.ensures.volume_kept ∙ c.in_ok-bring.ensures.volume_kept)
    (c.in_err-read_contents.ensures.media_kept ∙ c.in_ok-bring.ensures.media_kept) c.in_err-read_contents.ensures.cached
    c.requires.mounted

pub returns-in_err-read_contents-clause-counts : goal.returns-in_err-read_contents-clause-counts
returns-in_err-read_contents-clause-counts g c v file on is =
    let bring = c.in_ok-bring.ensures in
    let size =
    size_of _ c.args.fd c.sector.result.now c.read_size.result
    (held_is _ _ c.bring.new.self.cache c.args.fd _ bring.media_kept bring.cached c.sector.ensures) c.read_size.ensures v file on is in
    let segs = segments_on _ _ c.args.fd bring.media_kept v file on is in
    let p = err_from_is_err_and c.from_residual-in_err-read_contents.result c.from_residual-in_err-read_contents.ensures.1 in
    calls_are _ v on c.args.fd file is c.read_size.result size _ segs c.args.into.now c.args.at c.readable-count.result _ _ _ _
    c.readable-count.ensures c.in_ok-bring.ensures.counts
    (rw (p.1, p.2) c.in_err-read_contents.ensures.counts)

pub returns-clause-ok : goal.returns-clause-ok
returns-clause-ok g c v file on is =
    let bring = c.in_ok-bring.ensures in
    let size =
    size_of _ c.args.fd c.sector.result.now c.read_size.result
    (held_is _ _ c.bring.new.self.cache c.args.fd _ bring.media_kept bring.cached c.sector.ensures) c.read_size.ensures v file on is in
    let segs = segments_on _ _ c.args.fd bring.media_kept v file on is in
    record {
      count_is = count_is _ v on c.args.fd file is c.read_size.result size _ segs c.args.into.now c.args.at c.readable-count.result c.readable-count.ensures;
      buffer_is =
          bytes_are _ v on c.args.fd file is c.read_size.result size _ segs c.args.into.now c.read_contents.new.into c.args.at c.readable-count.result _
          c.in_ok-bring.ensures.media_kept c.readable-count.ensures c.in_ok-read_contents.ensures.bytes;
    }

pub returns-clause-mounted : goal.returns-clause-mounted
returns-clause-mounted g c =
    mounted_still _ _ _ _ (c.in_ok-read_contents.ensures.volume_kept ∙ c.in_ok-bring.ensures.volume_kept)
    (c.in_ok-read_contents.ensures.media_kept ∙ c.in_ok-bring.ensures.media_kept) c.in_ok-read_contents.ensures.cached
    c.requires.mounted

pub returns-clause-counts : goal.returns-clause-counts
returns-clause-counts g c v file on is =
    let bring = c.in_ok-bring.ensures in
    let size =
    size_of _ c.args.fd c.sector.result.now c.read_size.result
    (held_is _ _ c.bring.new.self.cache c.args.fd _ bring.media_kept bring.cached c.sector.ensures) c.read_size.ensures v file on is in
    let segs = segments_on _ _ c.args.fd bring.media_kept v file on is in
    calls_are _ v on c.args.fd file is c.read_size.result size _ segs c.args.into.now c.args.at c.readable-count.result _ _ _ _
    c.readable-count.ensures c.in_ok-bring.ensures.counts c.in_ok-read_contents.ensures.counts

pub read_contents-requires-clause-cached : goal.read_contents-requires-clause-cached
read_contents-requires-clause-cached g c = record {
  cached = c.in_ok-bring.ensures.cached;
  here = held_used c.args.fd c.args.self.now.cache c.bring.new.self.cache c.in_ok-bring.ensures.used;
}

pub returns-in_err-read_contents-clause-cache : goal.returns-in_err-read_contents-clause-cache
returns-in_err-read_contents-clause-cache g c v file on is =
    let bring = c.in_ok-bring.ensures in
    let size =
    size_of _ c.args.fd c.sector.result.now c.read_size.result
    (held_is _ _ c.bring.new.self.cache c.args.fd _ bring.media_kept bring.cached c.sector.ensures) c.read_size.ensures v file on is in
    let segs = segments_on _ _ c.args.fd bring.media_kept v file on is in
    let p = err_from_is_err_and c.from_residual-in_err-read_contents.result c.from_residual-in_err-read_contents.ensures.1 in
    rw (p.1, p.2)
    (record {
      hits = λ are.
          all_hits c.args.self.now.cache c.bring.new.self.cache c.args.fd _ file.segments
          (c.args.at / 256) _ _ _ _ _ segs
          (span_read _ v on c.args.fd file is c.read_size.result size _ segs c.args.into.now c.args.at
          c.readable-count.result c.readable-count.ensures)
          are.descriptor are.sectors c.in_ok-bring.ensures.hit c.in_ok-bring.ensures.still
          c.in_err-read_contents.ensures.cache.hits;
      held = tt;
    })

pub returns-clause-cache : goal.returns-clause-cache
returns-clause-cache g c v file on is =
    let bring = c.in_ok-bring.ensures in
    let size =
    size_of _ c.args.fd c.sector.result.now c.read_size.result
    (held_is _ _ c.bring.new.self.cache c.args.fd _ bring.media_kept bring.cached c.sector.ensures) c.read_size.ensures v file on is in
    let segs = segments_on _ _ c.args.fd bring.media_kept v file on is in
    let span =
    span_read _ v on c.args.fd file is c.read_size.result size _ segs c.args.into.now c.args.at c.readable-count.result
    c.readable-count.ensures in
    let through = c.in_ok-read_contents.ensures.cache in
    record {
      hits = λ are.
          all_hits c.args.self.now.cache c.bring.new.self.cache c.args.fd _ file.segments
          (c.args.at / 256) _ _ _ _ _ segs span are.descriptor are.sectors c.in_ok-bring.ensures.hit
          c.in_ok-bring.ensures.still through.hits;
      held = λ few.
          let both =
          all_held c.args.self.now.cache c.bring.new.self.cache c.read_contents.new.self.cache c.args.fd
          _ file.segments (c.args.at / 256) _ _ segs span c.in_ok-bring.ensures.used
          through.held few in
          record { descriptor = both.0; sectors = both.1 };
    }

pub returns-in_err-bring-clause-cache : goal.returns-in_err-bring-clause-cache
returns-in_err-bring-clause-cache g c v file on is =
    let p = err_from_is_err_and c.from_residual.result c.from_residual.ensures.1 in
    rw (p.1, p.2)
    (record {
      hits = λ are. c.in_err-bring.ensures.hit are.descriptor;
      held = tt;
    })

pub bring-requires-clause-on : goal.bring-requires-clause-on
bring-requires-clause-on g c = number_on _ c.args.fd c.requires.file

pub bring-requires-clause-cached : goal.bring-requires-clause-cached
bring-requires-clause-cached g c = c.requires.mounted.cached

pub sector-requires : goal.sector-requires
sector-requires g c = held_used c.args.fd c.args.self.now.cache c.bring.new.self.cache c.in_ok-bring.ensures.used

pub returns-in_err-bring-clause-mounted : goal.returns-in_err-bring-clause-mounted
returns-in_err-bring-clause-mounted g c = mounted_still _ _ _ _ c.in_err-bring.ensures.volume_kept c.in_err-bring.ensures.media_kept c.in_err-bring.ensures.cached c.requires.mounted
