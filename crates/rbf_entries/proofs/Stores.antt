-- A sector of a lost cluster is written: the volume does not show it.
use Rattle.std.proofs.Common.{◌≡◌, ◌≢◌, ℕ, ◌+◌, ◌*◌, ◌/◌, ◌<◌, ◌≤◌, true, Option, Some, List, length, inr, sym, ap, ◌∙◌, arith}
use Rattle.std.proofs.Math.Nat.{mul-le-mul_left}
use Rattle.os9_outer.specs.Drive.{sector_count, with_sector}
use Rattle.rbf_model.specs.Disk.{disk_of}
use Rattle.rbf_model.specs.Geometry.{Geometry, geometry, image_geometry, sector, map_sectors}
use Rattle.rbf_model.specs.Laws.{IsUnseen, idle}
use Rattle.rbf_model.specs.Space.{is_marked}
use Rattle.rbf_model.specs.Volume.{DiskVolume, Vol}
use Rattle.rbf_model.specs.Writes.{put, put_sector}
use Rattle.rbf_model.proofs.Bytes.{put_here, put_beside, marked_beside}
use Rattle.rbf_model.proofs.Data.{unseen_within}
use Rattle.rbf_model.proofs.ImageLaws.{unseen_image}
use Rattle.rbf_model.proofs.Lifted.{sector_put}
use Rattle.rbf_change.specs.Calls.{cluster_size}
use Rattle.rbf_change.proofs.LawfulWrites.{shape-image}
use Rattle.rbf_access.specs.Mounted.{RepresentsVolume}
use Rattle.rbf_access.proofs.Reading.{below_total}
use Rattle.rbf_entries.proofs.Stored.{IsStored}

module _ (media : Option (List ℕ)) (u : DiskVolume) (on : RepresentsVolume media u) (s : ℕ) (lost : u.lost (s / cluster_size u) ≡ true) (bytes : List ℕ) (whole : length bytes ≡ 256) where
  abbrev g : Geometry
  g = image_geometry on.image

  there : u.lost (s / g.cluster) ≡ true
  there = ap (λ (h : Geometry). u.lost (s / h.cluster)) (sym (shape-image on.image u on.vol)) ∙ lost

  unseen : IsUnseen (disk_of g (sector on.image)) u s bytes
  unseen = idle (inr there)

  pub placed : (map_sectors g < s) × (s < g.total)
  placed = unseen_within g (sector on.image) u on.vol.sound s bytes whole unseen

  pub on_drive : s < sector_count media
  on_drive = below_total media u on s placed.1

  fits : 256 * (s + 1) ≤ length on.image
  fits =
      let low = placed.1 in
      let more : 256 * (s + 1) ≤ 256 * g.total = mul-le-mul_left 256 (omega arith) in
      let room = on.vol.header.fits in
      omega arith

  abbrev pub image_then : List ℕ
  image_then = put_sector on.image s bytes

  pub sectors_then : sector image_then ≡ put (sector on.image) s bytes
  sectors_then = sector_put on.image s bytes whole fits

  pub vol_then : Vol image_then u
  vol_then = unseen_image on.image u on.vol s bytes whole unseen

  pub here : sector image_then s ≡ bytes
  here = ap (λ (x : ℕ → List ℕ). x s) sectors_then ∙ put_here (sector on.image) s bytes

  pub beside : (t : ℕ) → t ≢ s → sector image_then t ≡ sector on.image t
  beside t differ = ap (λ (x : ℕ → List ℕ). x t) sectors_then ∙ put_beside (sector on.image) s bytes t differ

  pub past_first : 0 ≢ s
  past_first same = let past = placed.0 in absurd (omega arith)

  pub shape_then : image_geometry image_then ≡ g
  shape_then = ap geometry (beside 0 past_first)

  pub marks_then : (c : ℕ) → c < 2048 * map_sectors g → is_marked (sector image_then) c ≡ is_marked (sector on.image) c
  marks_then c low =
      let past = placed.0 in
      ap (λ x. is_marked x c) sectors_then ∙ marked_beside (sector on.image) s bytes c (λ same. absurd (omega arith))

  pub now_is : (new : Option (List ℕ)) → new ≡ with_sector media s bytes → new ≡ Some image_then
  now_is new written = written ∙ ap (λ m. with_sector m s bytes) on.is

  abbrev pub on_then : (new : Option (List ℕ)) → new ≡ with_sector media s bytes → RepresentsVolume new u
  on_then new written = record { image = image_then; is = now_is new written; vol = vol_then }

  pub stored : (new : Option (List ℕ)) → new ≡ with_sector media s bytes → IsStored media new u u
  stored new written = record { on = on; lsn = s; bytes = bytes; whole = whole; past = placed.0; below = placed.1; is = written; vol = vol_then }
