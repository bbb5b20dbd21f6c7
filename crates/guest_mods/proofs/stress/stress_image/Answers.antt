-- The boot file is that of the load, and it is accepted.
use Rattle.std.proofs.Common.{◌≡◌, ◌-◌, List, ℕ, length, ap, ◌∙◌, subst, arith}
use Rattle.std.specs.Prelude.{IfOk}
use Rattle.rbf_model.specs.Geometry.{image_geometry}
use Rattle.rbf_model.specs.Volume.{Vol, free_clusters}
use Rattle.guest_mods.specs.BootDisk.{boot_image, boot_volume, used_sectors, BootsFile}
use Rattle.guest_mods.specs.Stress.{stress_file}
use Rattle.guest_mods.proofs.AcceptedLemmas.{accepted, short-stress_file}
use Rattle.guest_mods.proofs.stress.stress_image.Goals as goal

pub returns-in_err-file-clause-accepted : goal.returns-in_err-file-clause-accepted
returns-in_err-file-clause-accepted c = accepted c.args.load.now c.requires

pub boot_image-requires-clause-short : goal.boot_image-requires-clause-short
boot_image-requires-clause-short c =
    let file : c.deref.result.now ≡ stress_file c.args.load.now = c.deref.ensures.value ∙ c.in_ok-file.ensures in
    omega (arith, ap length file, short-stress_file c.args.load.now c.requires)

pub returns-clause-bytes : goal.returns-clause-bytes
returns-clause-bytes c =
    let file : c.deref.result.now ≡ stress_file c.args.load.now = c.deref.ensures.value ∙ c.in_ok-file.ensures in
    subst (λ (file : List ℕ). IfOk c.boot_image.result (λ image. image.items ≡ boot_image file)) file c.boot_image.ensures.bytes

pub returns-clause-volume : goal.returns-clause-volume
returns-clause-volume c =
    let file : c.deref.result.now ≡ stress_file c.args.load.now = c.deref.ensures.value ∙ c.in_ok-file.ensures in
    subst (λ (file : List ℕ). IfOk c.boot_image.result (λ image. Vol image.items (boot_volume file))) file c.boot_image.ensures.volume

pub returns-clause-boots : goal.returns-clause-boots
returns-clause-boots c =
    let file : c.deref.result.now ≡ stress_file c.args.load.now = c.deref.ensures.value ∙ c.in_ok-file.ensures in
    subst (λ (file : List ℕ). IfOk c.boot_image.result (λ image. BootsFile image.items file)) file c.boot_image.ensures.boots

pub returns-clause-free : goal.returns-clause-free
returns-clause-free c =
    let file : c.deref.result.now ≡ stress_file c.args.load.now = c.deref.ensures.value ∙ c.in_ok-file.ensures in
    subst (λ (file : List ℕ). IfOk c.boot_image.result (λ image. length (free_clusters (image_geometry image.items)
    (boot_volume file)) ≡ 4096 - used_sectors (length file))) file c.boot_image.ensures.free

pub returns-clause-accepted : goal.returns-clause-accepted
returns-clause-accepted c = accepted c.args.load.now c.requires
