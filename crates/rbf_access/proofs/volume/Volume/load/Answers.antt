use Rattle.rbf_access.proofs.Caching.{held_used, held_is}
use Rattle.rbf_access.proofs.volume.Volume.load.Goals as goal

pub sector-requires : goal.sector-requires
sector-requires g c = held_used c.args.lsn c.args.self.now.cache c.bring.new.self.cache c.in_ok-bring.ensures.used

pub returns-clause-bytes : goal.returns-clause-bytes
returns-clause-bytes g c = held_is _ _ c.bring.new.self.cache c.args.lsn _ c.in_ok-bring.ensures.media_kept c.in_ok-bring.ensures.cached c.sector.ensures
