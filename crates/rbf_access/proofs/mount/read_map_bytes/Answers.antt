use Rattle.std.proofs.Common.{◌≡◌, ◌+◌, ◌-◌, arith}
use Rattle.rbf_access.proofs.Mounting.{none_read, one_read}
use Rattle.rbf_access.proofs.mount.read_map_bytes.Goals as goal

pub loop-lsn-init : goal.loop-lsn-init
loop-lsn-init g c = none_read _ _ _ c.new-bytes.ensures.items

pub loop-lsn-preserved : goal.loop-lsn-preserved
loop-lsn-preserved g c =
    let read = c.in-Ok.ensures in
    let place : c.from.result ≡ c.loop-lsn.lsn - 1 + 1 = omega arith in
    let next : c.loop-lsn.lsn + 1 - 1 ≡ c.loop-lsn.lsn - 1 + 1 = omega arith in
    one_read _ _ _ _ _ _ _ _ _ _ _ _ c.loop-lsn.invariant place next read.bytes read.media_kept read.counts read.made c.in_ok-extend_from_slice-in-Ok.ensures.items
