-- One sector behind the map has been written.
use Rattle.std.proofs.Common.{◌≡◌, ◌≢◌, ℕ, ◌+◌, ◌*◌, ◌/◌, ◌<◌, ◌≤◌, Option, Some, List, length, ap, sym, subst, ◌∙◌, arith}
use Rattle.std.proofs.Math.Nat.{mul-le-mul_left}
use Rattle.os9_outer.specs.Drive.{with_sector}
use Rattle.rbf_model.specs.Geometry.{Geometry, geometry, image_geometry, sector, map_sectors}
use Rattle.rbf_model.specs.Space.{is_marked, cluster_count}
use Rattle.rbf_model.specs.Volume.{DiskVolume, Vol}
use Rattle.rbf_model.specs.Writes.{put_sector}
use Rattle.rbf_model.proofs.Bytes.{put_beside, marked_beside}
use Rattle.rbf_model.proofs.Lifted.{sector_put}
use Rattle.rbf_model.specs.ClusterMap.{ClusterMap}
use Rattle.rbf_change.specs.Agrees.{MountedPart, Agrees, AgreesOnMap}
use Rattle.rbf_access.specs.declared.volume.Volume.{Volume}
use Rattle.rbf_access.specs.Cached.{IsCacheOf}
use Rattle.rbf_access.specs.Mounted.{mounted_part, RepresentsVolume, IsMounted, IsSoundMedia}
use Rattle.rbf_walk.proofs.Stepping.{same_content}
use Rattle.rbf_entries.specs.Becomes.{RepresentsOne, Becomes}

module _ (image : List ℕ) (v : DiskVolume) (vol : Vol image v) (s : ℕ) (bytes : List ℕ) (whole : length bytes ≡ 256)
    (past : map_sectors (image_geometry image) < s) (below : s < (image_geometry image).total) where
  fits : 256 * (s + 1) ≤ length image
  fits =
      let more : 256 * (s + 1) ≤ 256 * (image_geometry image).total = mul-le-mul_left 256 (omega arith) in
      let room = vol.header.fits in
      omega arith

  first : 0 ≢ s
  first same = absurd (omega arith)

  shape_same : image_geometry image ≡ image_geometry (put_sector image s bytes)
  shape_same = ap geometry (sym (ap (λ (d : ℕ → List ℕ). d 0) (sector_put image s bytes whole fits) ∙ put_beside (sector image) s bytes 0 first))

  marks_same : (c : ℕ) → 1 + c / 8 / 256 ≢ s → is_marked (sector (put_sector image s bytes)) c ≡ is_marked (sector image) c
  marks_same c differ = ap (λ d. is_marked d c) (sector_put image s bytes whole fits) ∙ marked_beside (sector image) s bytes c differ

  map_still : (map : ClusterMap) → AgreesOnMap map image → AgreesOnMap map (put_sector image s bytes)
  map_still map agrees = record {
    clusters_are = agrees.clusters_are ∙ ap cluster_count shape_same;
    whole_are = agrees.whole_are ∙ ap (λ (g : Geometry). g.total / g.cluster) shape_same;
    sectors = agrees.sectors ∙ ap (λ g. 256 * map_sectors g) shape_same;
    marks = λ c low.
        let sized = agrees.sectors in
        let differ : 1 + c / 8 / 256 ≢ s = λ same. absurd (omega arith) in
        marks_same c differ ∙ agrees.marks c low;
  }

  -- what is kept of the volume is still that of the image
  pub agrees_still : (k : MountedPart) → Agrees k image → Agrees k (put_sector image s bytes)
  agrees_still k agrees = record { sizes_are = agrees.sizes_are ∙ shape_same; map = map_still k.map agrees.map }

-- a write of one sector that makes of the volume another
pub record IsStored (media now : Option (List ℕ)) (v w : DiskVolume) : Type 0 where
  pub on : RepresentsVolume media v
  pub lsn : ℕ
  pub bytes : List ℕ
  pub whole : length bytes ≡ 256
  pub past : map_sectors (image_geometry on.image) < lsn
  pub below : lsn < (image_geometry on.image).total
  pub is : now ≡ with_sector media lsn bytes
  pub vol : Vol (put_sector on.image lsn bytes) w

module _ (media now : Option (List ℕ)) (v w : DiskVolume) (stored : IsStored media now v w) where
  now_is : now ≡ Some (put_sector stored.on.image stored.lsn stored.bytes)
  now_is = stored.is ∙ ap (λ m. with_sector m stored.lsn stored.bytes) stored.on.is

  pub represents_now : RepresentsVolume now w
  represents_now = record { image = put_sector stored.on.image stored.lsn stored.bytes; is = now_is; vol = stored.vol }

  -- the volume stays mounted
  pub mounted_now : (old new : Volume) → mounted_part new ≡ mounted_part old → IsCacheOf now new.cache → IsMounted old media → IsMounted new now
  unfolding represents_now
  mounted_now old new same cached mounted = record {
    content = w;
    on = represents_now;
    agrees =
        let images : mounted.on.image ≡ stored.on.image = one_image mounted.on.image stored.on.image (sym mounted.on.is ∙ stored.on.is) in
        let here : Agrees (mounted_part old) stored.on.image = subst (Agrees (mounted_part old)) images mounted.agrees in
        let still = agrees_still stored.on.image v stored.on.vol stored.lsn stored.bytes stored.whole stored.past stored.below (mounted_part old) here in
        subst (λ k. Agrees k (put_sector stored.on.image stored.lsn stored.bytes)) (sym same) still;
    cached = cached;
  }
    where
      one_image : (a b : List ℕ) → Some a ≡ Some b → a ≡ b
      one_image a b same_image = cc

  -- and the media represents the other volume
  pub becomes_now : (change : DiskVolume → DiskVolume → Type 0) → change v w → Becomes media now change
  becomes_now change done u on =
      subst (λ x. RepresentsOne now (change x)) (same_content media v u stored.on on) (record { volume = w; on = represents_now; changed = done })

-- so it is sound
pub stored_sound : (media now : Option (List ℕ)) (v w : DiskVolume) → IsStored media now v w → IsSoundMedia now
stored_sound media now v w stored = (w, represents_now media now v w stored)
