-- The parts make the image, which represents the volume.
use Rattle.std.proofs.Common.{◌≡◌, ◌-◌, length, arith, sym, ap, ◌∙◌, subst}
use Rattle.rbf_model.specs.Geometry.{image_geometry}
use Rattle.rbf_model.specs.Volume.{Vol, free_clusters}
use Rattle.guest_mods.specs.BootDisk.{boot_image, used_part, used_sectors, boot_volume, BootsFile}
use Rattle.guest_mods.proofs.Parts.{used-long, image-put}
use Rattle.guest_mods.proofs.Free.{free-count}
use Rattle.guest_mods.proofs.Volume.{represents-volume, boots-file}
use Rattle.guest_mods.proofs.image.boot_image.Goals as goal

pub overflow_sub-used : goal.overflow_sub-used
overflow_sub-used c =
    let few = used-long c.args.file.now c.requires.short in
    let long : c.len-used.result ≡ length (used_part c.args.file.now) = omega (arith, ap length c.in_ok-image.ensures) in
    omega arith

pub returns-clause-bytes : goal.returns-clause-bytes
returns-clause-bytes c =
    let long : c.len-used.result ≡ length (used_part c.args.file.now) = omega (arith, ap length c.in_ok-image.ensures) in
    c.in_ok-push_zeros.ensures ∙ image-put c.args.file.now c.in_ok-image.image.items c.len-used.result c.in_ok-image.ensures long

pub returns-clause-volume : goal.returns-clause-volume
returns-clause-volume c =
    let long : c.len-used.result ≡ length (used_part c.args.file.now) = omega (arith, ap length c.in_ok-image.ensures) in
    let bytes : c.push_zeros.new.image.items ≡ boot_image c.args.file.now = c.in_ok-push_zeros.ensures ∙ image-put
    c.args.file.now c.in_ok-image.image.items c.len-used.result c.in_ok-image.ensures long in
    subst (λ b. Vol b (boot_volume c.args.file.now)) (sym bytes) (represents-volume c.args.file.now c.requires.some c.requires.short)

pub returns-clause-boots : goal.returns-clause-boots
returns-clause-boots c =
    let long : c.len-used.result ≡ length (used_part c.args.file.now) = omega (arith, ap length c.in_ok-image.ensures) in
    let bytes : c.push_zeros.new.image.items ≡ boot_image c.args.file.now = c.in_ok-push_zeros.ensures ∙ image-put
    c.args.file.now c.in_ok-image.image.items c.len-used.result c.in_ok-image.ensures long in
    subst (λ b. BootsFile b c.args.file.now) (sym bytes) (boots-file c.args.file.now c.requires.some c.requires.short)

pub returns-clause-free : goal.returns-clause-free
returns-clause-free c =
    let long : c.len-used.result ≡ length (used_part c.args.file.now) = omega (arith, ap length c.in_ok-image.ensures) in
    let bytes : c.push_zeros.new.image.items ≡ boot_image c.args.file.now = c.in_ok-push_zeros.ensures ∙ image-put
    c.args.file.now c.in_ok-image.image.items c.len-used.result c.in_ok-image.ensures long in
    subst (λ b. length (free_clusters (image_geometry b) (boot_volume c.args.file.now)) ≡ 4096 - used_sectors
    (length c.args.file.now)) (sym bytes) (free-count c.args.file.now c.requires.some c.requires.short)
