use Rattle.std.proofs.Common.{◌≡◌, ℕ, Some, Err, Ok, Vec, Global, List, [], ◌∷◌, sym, ap, subst, ◌∙◌}
use Rattle.std.specs.Prelude.{slice_get}
use Rattle.std.specs.declared.alloc.Global.{Global}
use Rattle.file_drives.specs.Drives.{ChangesOneDrive, DriveView, drive_views}
use Rattle.boot_run.specs.Drives.{holding}
use Rattle.vol_tools.specs.Uses.{at_time, tool_of}
use Rattle.boot_run.specs.declared.status.End.{End}
use Rattle.os9_boot.specs.VolSteps.{DrivesAfter, UsesDrive, UsesImage, fault_end}
use Rattle.os9_boot.specs.declared.made.Made.{Made}
use Rattle.os9_boot.proofs.DriveLemmas.{drives-done, drives-ended, image-used, sound-in, tool-ended}
use Rattle.os9_boot.proofs.drive.use_on_image.Goals as goal

pub use_on_drive-answer-requires-clause-sound : goal.use_on_drive-answer-requires-clause-sound
use_on_drive-answer-requires-clause-sound g c drive at =
    let views = drive_views (λ box. (g.dyn-1.0.entry box.vtable).1) c.args.devices.now.drives.items in
    let is : c.push.new.self ≡ c.args.image.items ∷ [] = rw c.none-images.ensures at c.in-Ok.ensures.pushed in
    let held = c.insert_images.ensures.held ∙ ap (λ images. holding images views) is in
    sound-in c.args.image.items views c.requires.room.enough c.requires.volume drive (subst (λ (views : List DriveView). slice_get views 0 ≡ Some drive) held at)

pub returns-in-Ok-answer-clause-used : goal.returns-in-Ok-answer-clause-used
returns-in-Ok-answer-clause-used g c =
    let views = drive_views (λ box. (g.dyn-1.0.entry box.vtable).1) c.args.devices.now.drives.items in
    let is : c.push.new.self ≡ c.args.image.items ∷ [] = rw c.none-images.ensures at c.in-Ok.ensures.pushed in
    let held = c.insert_images.ensures.held ∙ ap (λ images. holding images views) is in
    let now = at_time c.args.vol.now.start c.args.tool.now in
    let changes = subst (λ (views : List DriveView). ChangesOneDrive (UsesDrive now (λ bytes. bytes.items)
    (Ok c.in-Ok-answer.answer)) 0 views (drive_views (λ box. (g.dyn-1.0.entry box.vtable).1)
    c.use_on_drive-answer.new.devices.drives.items)) held c.in-Ok-answer.ensures.drive in
    image-used (tool_of c.args.tool.now) c.args.vol.now (λ bytes. bytes.items) c.args.image.items c.requires.volume
    c.in-Ok-answer.answer views _ _ _ _ c.requires.room changes c.eject_images.ensures.taken
    c.replace.ensures.handed_out

pub returns-in-Ok-answer-clause-drives : goal.returns-in-Ok-answer-clause-drives
returns-in-Ok-answer-clause-drives g c =
    let views = drive_views (λ box. (g.dyn-1.0.entry box.vtable).1) c.args.devices.now.drives.items in
    let is : c.push.new.self ≡ c.args.image.items ∷ [] = rw c.none-images.ensures at c.in-Ok.ensures.pushed in
    let held = c.insert_images.ensures.held ∙ ap (λ images. holding images views) is in
    let now = at_time c.args.vol.now.start c.args.tool.now in
    let made : Made = record { answer = c.in-Ok-answer.answer; image = c.replace.result } in
    let changes = subst (λ (views : List DriveView). ChangesOneDrive (UsesDrive now (λ bytes. bytes.items)
    (Ok c.in-Ok-answer.answer)) 0 views (drive_views (λ box. (g.dyn-1.0.entry box.vtable).1)
    c.use_on_drive-answer.new.devices.drives.items)) held c.in-Ok-answer.ensures.drive in
    subst (λ (after : List DriveView). DrivesAfter (Ok made) views after) (sym c.eject_images.ensures.taken.left)
    (drives-done now (λ bytes. bytes.items) c.in-Ok-answer.answer c.args.image.items views _ made c.requires.room
    changes)

pub returns-clause-used : goal.returns-clause-used
returns-clause-used g c =
    let views = drive_views (λ box. (g.dyn-1.0.entry box.vtable).1) c.args.devices.now.drives.items in
    let is : c.push.new.self ≡ c.args.image.items ∷ [] = rw c.none-images.ensures at c.in-Ok.ensures.pushed in
    let held = c.insert_images.ensures.held ∙ ap (λ images. holding images views) is in
    let now = at_time c.args.vol.now.start c.args.tool.now in
    let fault = c.in-Err-answer.fault in
    let changes = subst (λ (views : List DriveView). ChangesOneDrive (UsesDrive {A = Vec ℕ Global} now
    (λ bytes. bytes.items) (Err fault)) 0 views (drive_views (λ box. (g.dyn-1.0.entry box.vtable).1)
    c.use_on_drive-answer.new.devices.drives.items)) held c.in-Err-answer.ensures.drive in
    subst (λ (end : End). UsesImage (tool_of c.args.tool.now) c.args.vol.now c.args.image.items (Err end))
    (sym c.end_of_fault.ensures) (tool-ended {A = Vec ℕ Global} (tool_of c.args.tool.now) c.args.vol.now
    (λ bytes. bytes.items) c.args.image.items c.requires.volume fault views _ c.requires.room changes)

pub returns-clause-drives : goal.returns-clause-drives
returns-clause-drives g c =
    let views = drive_views (λ box. (g.dyn-1.0.entry box.vtable).1) c.args.devices.now.drives.items in
    let is : c.push.new.self ≡ c.args.image.items ∷ [] = rw c.none-images.ensures at c.in-Ok.ensures.pushed in
    let held = c.insert_images.ensures.held ∙ ap (λ images. holding images views) is in
    let now = at_time c.args.vol.now.start c.args.tool.now in
    let fault = c.in-Err-answer.fault in
    let changes = subst (λ (views : List DriveView). ChangesOneDrive (UsesDrive {A = Vec ℕ Global} now
    (λ bytes. bytes.items) (Err fault)) 0 views (drive_views (λ box. (g.dyn-1.0.entry box.vtable).1)
    c.use_on_drive-answer.new.devices.drives.items)) held c.in-Err-answer.ensures.drive in
    subst (λ (end : End). DrivesAfter {A = Made} (Err end) views (drive_views (λ box. (g.dyn-1.0.entry box.vtable).1)
    c.eject_images.new.devices.drives.items)) (sym c.end_of_fault.ensures)
    (subst (λ (after : List DriveView). DrivesAfter {A = Made} (Err (fault_end fault)) views after)
    (sym c.eject_images.ensures.taken.left) (drives-ended {A = Vec ℕ Global} now (λ bytes. bytes.items) fault
    c.args.image.items views _ c.requires.room changes))
