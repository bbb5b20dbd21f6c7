-- Images: their sectors, and the rules over them.
use Rattle.std.proofs.Common.{◌≡◌, ℕ, ◌+◌, ◌*◌, ◌≤◌, List, length, drop, refl, ◌∙◌, arith, length-take, length-drop}
use Rattle.std.proofs.Math.Nat.{mul-le-mul_left}
use Rattle.rbf_model.specs.Disk.{disk_of, IsDisk}
use Rattle.rbf_model.specs.Geometry.{geometry, sector, HasHeader}
use Rattle.rbf_model.specs.Volume.{DiskVolume, Vol}
use Rattle.rbf_model.specs.Faults.{ImageBreaks, bad_header, breaks}
use Rattle.rbf_model.specs.Keeps.{Keeps}
use Rattle.rbf_model.specs.Search.{IsListOfReached, image_volume}
use Rattle.rbf_model.proofs.Keeps.{keeps_from_sound}
use Rattle.rbf_model.proofs.Built.{sound_from_keeps}
use Rattle.rbf_model.proofs.Breaks.{no_breach}

-- a sector that the image has
pub length-sector : (image : List ℕ) (n : ℕ) → 256 * (n + 1) ≤ length image → length (sector image n) ≡ 256
length-sector image n fits = length-take 256 (drop (256 * n) image) ∙ omega (arith, length-drop (256 * n) image)

-- an image with a header has every sector of its volume
pub is_disk : (image : List ℕ) → HasHeader image → IsDisk (disk_of (geometry (sector image 0)) (sector image))
is_disk image h n below =
    let fits = h.fits in
    let room : 256 * (n + 1) ≤ 256 * (geometry (sector image 0)).total = mul-le-mul_left 256 (omega arith) in
    length-sector image n (omega arith)

-- where no rule is broken the image stands for a volume
pub vol_from_keeps : (image : List ℕ) → HasHeader image → Keeps (disk_of (geometry (sector image 0)) (sector image)) → (numbers : List ℕ)
    → IsListOfReached (disk_of (geometry (sector image 0)) (sector image)) numbers → Vol image (image_volume image numbers)
vol_from_keeps image h keeps numbers found = record {
  header = h;
  sound = sound_from_keeps (geometry (sector image 0)) (sector image) h.header (is_disk image h) keeps numbers found _;
  rest = refl;
}

-- and where it does no rule is broken
pub no_image_breach : (image : List ℕ) (v : DiskVolume) → Vol image v → {rule lsn : ℕ} → ImageBreaks image rule lsn → ⊥
no_image_breach image v vol (bad_header wrong) = wrong vol.header
no_image_breach image v vol (breaks header breach) =
    no_breach (geometry (sector image 0)) (sector image) (keeps_from_sound (geometry (sector image 0)) (sector image) v vol.sound) breach
