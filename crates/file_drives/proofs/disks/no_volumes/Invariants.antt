use Rattle.std.proofs.Common.{◌≡◌, ◌-◌, ◌≤◌, None, replicate, vec_len}
use Rattle.file_drives.proofs.disks.no_volumes.Given as goal

abbrev pub invariant-fill : goal.invariant-fill
invariant-fill l = record { none : l.volumes.items ≡ replicate (vec_len l.volumes) None; most : vec_len l.volumes ≤ 4 }

abbrev pub decreases-fill : goal.decreases-fill
decreases-fill l = 4 - vec_len l.volumes
