use Rattle.std.proofs.Common.{sym, refl}
use Rattle.rbf_access.proofs.Reading.{fd_of}
use Rattle.rbf_write.proofs.loaded.held_file.Goals as goal

pub returns : goal.returns
returns c media cached =
    let r = c.read_fd.ensures in
    let b = cached.sectors c.args.fd _ c.sector-bytes.ensures in
    record {
      number_is = refl;
      bytes_are = b;
      list_is = sym r.segs;
      says = fd_of media c.args.fd _ c.read_fd.result b
          (record { attr = r.attr; owner = r.owner; modified = r.modified; links = r.links; size = r.size; created = r.created; segs = r.segs });
    }
