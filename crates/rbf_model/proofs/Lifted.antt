-- From disks to images: an image with other bytes in one sector.
use Rattle.std.proofs.Common.{◌≡◌, ◌≢◌, ℕ, ◌+◌, ◌*◌, ◌<◌, ◌≤◌, List, ◌++◌, length, take, drop, sym, ap, ◌∙◌, subst, ⊎_elim, arith}
use Rattle.std.proofs.Math.Nat.{mul-le-mul_left}
use Rattle.std.proofs.lemmas.Bool.{cases_eq}
use Rattle.rbf_model.specs.Disk.{disk_of}
use mathlib.Core.Path.{fun_ext}
use Rattle.rbf_model.specs.Geometry.{geometry, sector, IsHeader}
use Rattle.rbf_model.specs.Volume.{DiskVolume, Sound, Vol}
use Rattle.rbf_model.specs.Writes.{put, put_at, put_sector}
use Rattle.rbf_model.proofs.Pieces.{length_piece, piece_put, piece_beside, drop_past_piece}
use Rattle.rbf_model.proofs.Bytes.{put_here, put_beside}

module _ (image : List ℕ) (s : ℕ) (bytes : List ℕ) (whole : length bytes ≡ 256) (fits : 256 * (s + 1) ≤ length image) where
  put_sector_is : put_sector image s bytes ≡ put_at image (256 * s) bytes
  put_sector_is = ap (λ k. take (256 * s) image ++ bytes ++ drop (256 * s + k) image) (sym whole)

  pub length_put_sector : length (put_sector image s bytes) ≡ length image
  length_put_sector = ap length put_sector_is ∙ length_piece 256 image bytes s whole fits

  -- its sectors
  pub sector_put : sector (put_sector image s bytes) ≡ put (sector image) s bytes
  sector_put = fun_ext (λ n. ap (λ i. sector i n) put_sector_is
      ∙ ⊎_elim
      (λ same. ap (sector (put_at image (256 * s) bytes)) same ∙ piece_put 256 image bytes s whole fits ∙ sym (put_here (sector image) s bytes) ∙ ap (put (sector image) s bytes) (sym same))
      (λ differ. piece_beside 256 image bytes s whole fits n differ ∙ sym (put_beside (sector image) s bytes n differ))
      (cases_eq n s))

  -- and what comes after them
  pub rest_put : (total : ℕ) → s < total → drop (256 * total) (put_sector image s bytes) ≡ drop (256 * total) image
  rest_put total below =
      let past : 256 * (s + 1) ≤ 256 * total = mul-le-mul_left 256 (omega arith) in
      ap (drop (256 * total)) put_sector_is ∙ drop_past_piece 256 image bytes s whole fits (256 * total) (omega arith)

-- a write to a disk is one to its image
pub vol_put : (image : List ℕ) (v now : DiskVolume) (s : ℕ) (bytes : List ℕ) → Vol image v → 1 ≤ s → s < (geometry (sector image 0)).total → length bytes ≡ 256
    → Sound (disk_of (geometry (sector image 0)) (put (sector image) s bytes)) now → now.rest ≡ v.rest → Vol (put_sector image s bytes) now
vol_put image v now s bytes vol after below whole sound rest = record {
  header = record {
    ident = let was = vol.header.ident in let same = length_put_sector image s bytes whole fits in omega arith;
    header = subst IsHeader shape vol.header.header;
    fits = subst (λ g. 256 * g.total ≤ length (put_sector image s bytes)) shape
        (let was = vol.header.fits in let same = length_put_sector image s bytes whole fits in omega arith);
  };
  sound = subst (λ g. Sound (disk_of g (sector (put_sector image s bytes))) now) shape
      (subst (λ d. Sound (disk_of (geometry (sector image 0)) d) now) (sym (sector_put image s bytes whole fits))
      sound);
  rest = rest ∙ vol.rest ∙ sym (rest_put image s bytes whole fits (geometry (sector image 0)).total below) ∙ ap (λ g. drop (256 * g.total) (put_sector image s bytes)) shape;
}
  where
    fits : 256 * (s + 1) ≤ length image
    fits =
        let past : 256 * (s + 1) ≤ 256 * (geometry (sector image 0)).total = mul-le-mul_left 256 (omega arith) in
        let room = vol.header.fits in
        omega arith

    first : 0 ≢ s
    first same = absurd (omega arith)

    shape : geometry (sector image 0) ≡ geometry (sector (put_sector image s bytes) 0)
    shape = ap geometry (sym (ap (λ (d : ℕ → List ℕ). d 0) (sector_put image s bytes whole fits) ∙ put_beside (sector image) s bytes 0 first))
