use Rattle.std.proofs.Common.{ℕ, ◌+◌, ◌∙◌, List, length, ap, arith}
use Rattle.rbf_change.specs.Contents.{sector_count}
use Rattle.cold_start.proofs.CommandLemmas.{buffer-whole}
use Rattle.cold_start.proofs.ReadLemmas.{file-more, file-then}
use Rattle.cold_start.proofs.commands.contents.Goals as goal

pub returns-in-Err-clause-drive : goal.returns-in-Err-clause-drive
returns-in-Err-clause-drive g c =
    file-more c.args.place _ (λ v file. 1 + (1 + sector_count (length file.contents))) (λ v file. 2 + sector_count
    (length file.contents)) c.args.disks.now c.read_whole.new.disks _ _ (λ v file. omega arith)
    (file-then c.args.place _ (λ v file. 1) (λ v file. 1 + sector_count (length file.contents)) c.args.disks.now _ c.read_whole.new.disks _ _ _ c.in_ok-fd.ensures.drive c.in-Err.ensures.drive)

pub returns-in-Ok-clause-ok : goal.returns-in-Ok-clause-ok
returns-in-Ok-clause-ok g c volumes v file mounted is there =
    let fd = c.in_ok-fd.ensures.ok volumes v file mounted is there in
    let size = fd.size_is in
    buffer-whole file.contents c.in_ok-bytes.bytes.items c.read_whole.new.into c.in_ok-bytes.bytes.len
    (c.in-Ok.ensures.ok volumes v file (c.in_ok-fd.ensures.drive.mounted volumes mounted) is there
    (ap (λ (bytes : List ℕ). length bytes) c.deref_mut.ensures.value ∙ c.in_ok-bytes.ensures.count ∙ size))
    (c.in_ok-bytes.ensures.count ∙ size) (omega (arith, c.in_ok-bytes.bytes.ok))

pub returns-in-Ok-clause-drive : goal.returns-in-Ok-clause-drive
returns-in-Ok-clause-drive g c =
    file-more c.args.place _ (λ v file. 1 + (1 + sector_count (length file.contents))) (λ v file. 2 + sector_count
    (length file.contents)) c.args.disks.now c.read_whole.new.disks _ _ (λ v file. omega arith)
    (file-then c.args.place _ (λ v file. 1) (λ v file. 1 + sector_count (length file.contents)) c.args.disks.now _ c.read_whole.new.disks _ _ _ c.in_ok-fd.ensures.drive c.in-Ok.ensures.drive)
