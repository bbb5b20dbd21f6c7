use Rattle.std.proofs.Common.{subst}
use Rattle.rbf_access.proofs.Caching.{held_used}
use Rattle.rbf_access.proofs.Reading.{number_on}
use Rattle.rbf_write.specs.Files.{IsDescriptorLoaded}
use Rattle.rbf_write.proofs.loaded.load_file.Goals as goal

pub bring-requires-clause-on : goal.bring-requires-clause-on
bring-requires-clause-on g c = number_on _ c.args.fd c.requires.file

pub held_file-requires : goal.held_file-requires
held_file-requires g c = held_used c.args.fd c.args.volume.now.cache c.bring.new.self.cache c.in_ok-bring.ensures.used

pub returns-clause-ok : goal.returns-clause-ok
returns-clause-ok g c =
    let read = c.in_ok-bring.ensures in
    subst (λ media. IsDescriptorLoaded media c.args.fd c.held_file.result) read.media_kept (c.held_file.ensures _ read.cached)
