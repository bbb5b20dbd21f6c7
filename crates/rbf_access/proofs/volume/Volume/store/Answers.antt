use Rattle.std.proofs.Common.{◌≡◌, length, arith}
use Rattle.rbf_access.proofs.Caching.{cached_written, cached_less}
use Rattle.rbf_access.proofs.volume.Volume.store.Goals as goal

pub returns-in-Ok-clause-cached : goal.returns-in-Ok-clause-cached
returns-in-Ok-clause-cached g c =
    let whole : length c.args.from.now ≡ 256 = omega arith in
    cached_written _ _ c.args.self.now.cache c.keep.new.self 256 c.args.lsn c.args.from.now c.in-Ok.ensures.written whole c.requires.on c.keep.ensures c.requires.cached

pub returns-in-Err-clause-cached : goal.returns-in-Err-clause-cached
returns-in-Err-clause-cached g c =
    cached_less _ _ c.args.self.now.cache c.forget.new.self c.args.lsn c.in-Err.ensures.media_kept c.forget.ensures c.requires.cached
