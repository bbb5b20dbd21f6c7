use Rattle.std.proofs.Common.{rules}
use Rattle.std.specs.Prelude.{IfOk, length}
use Rattle.rbf_access.specs.Faults.{file_fault}
use Rattle.rbf_access.specs.Reading.{IsReadInto, read_calls}
use Rattle.file_drives.proofs.PlacedLemmas.{has-file, is-mounted, none-kept, on-file, only-reads}
use Rattle.file_drives.proofs.disks.Disks.read_at.Goals as goal

pub read_at-requires-clause-mounted : goal.read_at-requires-clause-mounted
read_at-requires-clause-mounted g c =
    is-mounted (goal.BlockDriver-dyn g) c.args.devices.now.drives.items c.self.view_is c.self.invariant c.index_mut.ensures.value
    c.in-Some.is c.index_mut-in-Some.ensures.value (search rules) c.requires.file

pub read_at-requires-clause-file : goal.read_at-requires-clause-file
read_at-requires-clause-file g c =
    has-file (goal.BlockDriver-dyn g) c.args.devices.now.drives.items c.self.view_is c.self.invariant c.index_mut.ensures.value
    c.in-Some.is c.index_mut-in-Some.ensures.value (search rules) c.requires.file

pub unreachable-requires : goal.unreachable-requires
unreachable-requires g c = none-kept c.self.view_is c.self.invariant c.index_mut.ensures.value c.requires.file c.in-None.is

pub returns-clause-ok : goal.returns-clause-ok
returns-clause-ok g c =
    on-file (goal.BlockDriver-dyn g) c.args.devices.now.drives.items c.self.view_is c.self.invariant c.index_mut.ensures.value
    c.in-Some.is c.index_mut-in-Some.ensures.value (search rules) c.requires.file
    (λ v file. IfOk c.read_at.result (IsReadInto file c.args.at c.args.into.now c.read_at.new.into)) c.read_at.ensures.ok

pub returns-clause-drive : goal.returns-clause-drive
returns-clause-drive g c =
    only-reads (goal.BlockDriver-dyn g) c.args.devices.now.drives.items c.self.view_is c.self.invariant c.index_mut.ensures.value
    c.in-Some.is c.index_mut-in-Some.ensures.value (search rules) c.requires.file _
    (file_fault c.read_at.result) (λ v file. read_calls file c.args.at (length c.args.into.now)) c.read_at.ensures.media_kept c.read_at.ensures.volume_kept
    c.read_at.ensures.mounted c.read_at.ensures.counts
