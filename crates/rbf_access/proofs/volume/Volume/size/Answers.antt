use Rattle.rbf_access.proofs.Caching.{held_used, held_is}
use Rattle.rbf_access.proofs.Reading.{number_on, mounted_still, size_of}
use Rattle.rbf_access.proofs.volume.Volume.size.Goals as goal

pub bring-requires-clause-on : goal.bring-requires-clause-on
bring-requires-clause-on g c = number_on _ c.args.lsn c.requires.file

pub bring-requires-clause-cached : goal.bring-requires-clause-cached
bring-requires-clause-cached g c = c.requires.mounted.cached

pub sector-requires : goal.sector-requires
sector-requires g c = held_used c.args.lsn c.args.self.now.cache c.bring.new.self.cache c.in_ok-bring.ensures.used

pub returns-in_err-bring-clause-mounted : goal.returns-in_err-bring-clause-mounted
returns-in_err-bring-clause-mounted g c = mounted_still _ _ _ _ c.in_err-bring.ensures.volume_kept c.in_err-bring.ensures.media_kept c.in_err-bring.ensures.cached c.requires.mounted

pub returns-clause-ok : goal.returns-clause-ok
returns-clause-ok g c =
    size_of _ c.args.lsn c.sector.result.now c.read_size.result
    (held_is _ _ c.bring.new.self.cache c.args.lsn _ c.in_ok-bring.ensures.media_kept c.in_ok-bring.ensures.cached c.sector.ensures)
    c.read_size.ensures

pub returns-clause-mounted : goal.returns-clause-mounted
returns-clause-mounted g c = mounted_still _ _ _ _ c.in_ok-bring.ensures.volume_kept c.in_ok-bring.ensures.media_kept c.in_ok-bring.ensures.cached c.requires.mounted
