use Rattle.std.proofs.Common.{◌≡◌, length, arith}
use Rattle.std.proofs.lemmas.List.Elements.{All-nil}
use Rattle.boot_run.specs.Drives.{IsEmptyDrive}
use Rattle.os9_boot.proofs.RoomLemmas.{four-drives}
use Rattle.os9.proofs.run.OwnLists.{own-1}
use Rattle.os9.proofs.run.Goals as goal

pub run_on-requires : goal.run_on-requires
run_on-requires c =
    let none : length c.new-drives.result.items ≡ 0 = rw c.new-drives.ensures.items in
    let four : length c.add_drive-4.new.drives.items ≡ 4 = omega (
      arith,
      none,
      c.in_ok-add_drive.ensures.count,
      c.in_ok-add_drive-2.ensures.count,
      c.in_ok-add_drive-3.ensures.count,
      c.in_ok-add_drive-4.ensures.count,
    ) in
    four-drives (λ box. (own-1.entry box.vtable).1) c.add_drive-4.new.drives.items four (c.in_ok-add_drive-4.ensures.empty
    (c.in_ok-add_drive-3.ensures.empty (c.in_ok-add_drive-2.ensures.empty (c.in_ok-add_drive.ensures.empty
    (rw c.new-drives.ensures.items (All-nil IsEmptyDrive))))))
