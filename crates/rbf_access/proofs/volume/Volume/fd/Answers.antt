use Rattle.rbf_access.proofs.Caching.{held_used, held_is}
use Rattle.rbf_access.proofs.Reading.{number_on, mounted_still, fd_of}
use Rattle.rbf_access.proofs.volume.Volume.fd.Goals as goal

pub bring-requires-clause-on : goal.bring-requires-clause-on
bring-requires-clause-on g c = number_on _ c.args.lsn c.requires.file

pub bring-requires-clause-cached : goal.bring-requires-clause-cached
bring-requires-clause-cached g c = c.requires.mounted.cached

pub sector-requires : goal.sector-requires
sector-requires g c = held_used c.args.lsn c.args.self.now.cache c.bring.new.self.cache c.in_ok-bring.ensures.used

pub returns-in_err-bring-clause-mounted : goal.returns-in_err-bring-clause-mounted
returns-in_err-bring-clause-mounted g c = mounted_still _ _ _ _ c.in_err-bring.ensures.volume_kept c.in_err-bring.ensures.media_kept c.in_err-bring.ensures.cached c.requires.mounted

pub returns-clause-ok : goal.returns-clause-ok
returns-clause-ok g c =
    let read = c.read_fd.ensures in
    fd_of _ c.args.lsn c.sector.result.now c.read_fd.result
    (held_is _ _ c.bring.new.self.cache c.args.lsn _ c.in_ok-bring.ensures.media_kept c.in_ok-bring.ensures.cached c.sector.ensures)
    (record { attr = read.attr; owner = read.owner; modified = read.modified; links = read.links; size = read.size; created = read.created; segs = read.segs })

pub returns-clause-mounted : goal.returns-clause-mounted
returns-clause-mounted g c = mounted_still _ _ _ _ c.in_ok-bring.ensures.volume_kept c.in_ok-bring.ensures.media_kept c.in_ok-bring.ensures.cached c.requires.mounted
