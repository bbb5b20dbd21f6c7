-- A descriptor of a file that is written over on the media.
use Rattle.std.proofs.Common.{◌≡◌, ◌≢◌, ℕ, ◌+◌, ◌*◌, ◌<◌, ◌≤◌, ◌==◌, Some, List, length, refl, ap, ◌∙◌, arith, eq-eqb}
use Rattle.std.proofs.Math.Nat.{mul-le-mul_left}
use Rattle.std.proofs.lemmas.Bool.{or_left}
use Rattle.rbf_model.specs.Geometry.{image_geometry, sector, map_sectors}
use Rattle.rbf_model.specs.Segments.{sectors_of, has}
use Rattle.rbf_model.specs.File.{DiskFile}
use Rattle.rbf_model.specs.Volume.{DiskVolume, Vol}
use Rattle.rbf_model.specs.Writes.{put, put_sector}
use Rattle.rbf_model.proofs.Bytes.{put_here, put_beside}
use Rattle.rbf_model.proofs.Free.{number_below}
use Rattle.rbf_model.proofs.Lifted.{sector_put}
use Rattle.rbf_model.proofs.Owners.{own_after}
use Rattle.rbf_change.specs.Agrees.{MountedPart, Agrees}
use Rattle.rbf_write.proofs.Described.{agrees_beside}

-- the descriptor of a file is behind the map
module _ (image : List ℕ) (v : DiskVolume) (vol : Vol image v) (n : ℕ) (file : DiskFile) (is : v.files n ≡ Some file) (bytes : List ℕ) (whole : length bytes ≡ 256) where
  pub behind_map : map_sectors (image_geometry image) < n
  behind_map = own_after (image_geometry image) (sector image) v vol.sound n file n is (or_left (n == n) (has (sectors_of file.segments) n) (eq-eqb n n refl))

  fits : 256 * (n + 1) ≤ length image
  fits =
      let low = number_below (image_geometry image) (sector image) v vol.sound n file is in
      let room = vol.header.fits in
      let more : 256 * (n + 1) ≤ 256 * (image_geometry image).total = mul-le-mul_left 256 (omega arith) in
      omega arith

  pub sectors_put : sector (put_sector image n bytes) ≡ put (sector image) n bytes
  sectors_put = sector_put image n bytes whole fits

  pub beside_put : (s : ℕ) → s ≢ n → sector (put_sector image n bytes) s ≡ sector image s
  beside_put s differ = ap (λ (d : ℕ → List ℕ). d s) sectors_put ∙ put_beside (sector image) n bytes s differ

  pub here_put : sector (put_sector image n bytes) n ≡ bytes
  here_put = ap (λ (d : ℕ → List ℕ). d n) sectors_put ∙ put_here (sector image) n bytes

  pub agrees_put : (kv : MountedPart) → Agrees kv image → Agrees kv (put_sector image n bytes)
  agrees_put kv agrees = agrees_beside kv image (put_sector image n bytes) agrees (λ s low. beside_put s (λ same. let past = behind_map in absurd (omega arith)))

-- files with the same fields
abbrev file_of : ℕ → ℕ → List ℕ → ℕ → List ℕ → List (ℕ × ℕ) → List ℕ → DiskFile
file_of at ow mo li cr se co = record { attributes = at; owner = ow; modified = mo; links = li; created = cr; segments = se; contents = co }

pub same_file : (a b : DiskFile) → a.attributes ≡ b.attributes → a.owner ≡ b.owner → a.modified ≡ b.modified
    → a.links ≡ b.links → a.created ≡ b.created → a.segments ≡ b.segments → a.contents ≡ b.contents → a ≡ b
same_file a b at ow mo li cr se co =
    ap (λ x. file_of x a.owner a.modified a.links a.created a.segments a.contents) at
    ∙ ap (λ x. file_of b.attributes x a.modified a.links a.created a.segments a.contents) ow
    ∙ ap (λ x. file_of b.attributes b.owner x a.links a.created a.segments a.contents) mo
    ∙ ap (λ x. file_of b.attributes b.owner b.modified x a.created a.segments a.contents) li
    ∙ ap (λ x. file_of b.attributes b.owner b.modified b.links x a.segments a.contents) cr
    ∙ ap (λ x. file_of b.attributes b.owner b.modified b.links b.created x a.contents) se
    ∙ ap (λ x. file_of b.attributes b.owner b.modified b.links b.created b.segments x) co
