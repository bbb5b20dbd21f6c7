use Rattle.std.proofs.Common.{Err, arith, rules, subst}
use Rattle.rbf_access.specs.Mounted.{HoldsVolume}
use Rattle.file_drives.proofs.MountLemmas.{mounts, reads-in-vain, reads-to-mount, stays}
use Rattle.file_drives.specs.Mounted.{ReadsToMount}
use Rattle.file_drives.proofs.disks.Disks.mount.Goals as goal

pub returns-in-Ok-clause-mounted : goal.returns-in-Ok-clause-mounted
returns-in-Ok-clause-mounted g c =
    mounts (goal.BlockDriver-dyn g) c.args.devices.now.drives.items c.args.n c.self.view_is
    (omega (arith, c.self.invariant, c.requires.few)) (omega (arith, c.args.devices.now.drives.ok.0)) c.index_mut.ensures.value (search rules)
    _ c.in-Ok.volume c.in-Ok.ensures.media_kept c.in-Ok.ensures.kept

pub returns-in-Ok-clause-drive : goal.returns-in-Ok-clause-drive
returns-in-Ok-clause-drive g c =
    reads-to-mount (goal.BlockDriver-dyn g) c.args.devices.now.drives.items c.args.n c.self.view_is
    (omega (arith, c.self.invariant, c.requires.few)) (omega (arith, c.args.devices.now.drives.ok.0)) c.index_mut.ensures.value (search rules)
    _ (ReadsToMount _) (record {
      reads = record { media_kept = c.in-Ok.ensures.media_kept; counts = c.in-Ok.ensures.counts };
      holds = subst HoldsVolume c.in-Ok.ensures.media_kept c.in-Ok.ensures.kept.holds;
      not_rbf = λ is. absurd (cc is);
    })

pub returns-in-Err-clause-mounted : goal.returns-in-Err-clause-mounted
returns-in-Err-clause-mounted g c =
    stays (goal.BlockDriver-dyn g) c.args.devices.now.drives.items c.args.n c.self.view_is
    (omega (arith, c.self.invariant, c.requires.few)) (omega (arith, c.args.devices.now.drives.ok.0)) c.index_mut.ensures.value (search rules)
    _ c.in-Err.ensures.media_kept

pub returns-in-Err-clause-drive : goal.returns-in-Err-clause-drive
returns-in-Err-clause-drive g c =
    reads-to-mount (goal.BlockDriver-dyn g) c.args.devices.now.drives.items c.args.n c.self.view_is
    (omega (arith, c.self.invariant, c.requires.few)) (omega (arith, c.args.devices.now.drives.ok.0)) c.index_mut.ensures.value (search rules)
    _ (ReadsToMount (Err c.in-Err.fault)) (reads-in-vain c.in-Err.fault _ _ c.in-Err.ensures.media_kept
    c.in-Err.ensures.counts c.in-Err.ensures.refused_calls c.in-Err.ensures.not_rbf)
