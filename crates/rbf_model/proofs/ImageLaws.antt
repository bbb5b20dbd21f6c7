-- The laws of a sector write, over images.
use Rattle.std.proofs.Common.{◌≡◌, ℕ, ◌<◌, ◌≤◌, ◌&&◌, ◌||◌, not, Bool, List, length, Some, None, refl, arith}
use Rattle.rbf_model.specs.Disk.{disk_of}
use Rattle.rbf_model.specs.Geometry.{image_geometry, sector}
use Rattle.rbf_model.specs.File.{DiskFile, file_from, file_at}
use Rattle.rbf_model.specs.Volume.{DiskVolume, Vol}
use Rattle.rbf_model.specs.Writes.{put_sector, with_file, with_file_in_place, with_lost}
use Rattle.rbf_model.specs.Laws.{IsMapSector, MarksFreeClusters, FreesClusters, IsFileSector, IsUnseen, Overwrites, with_sector_bytes, Redescribes, AddsEntry, AppendsEntry, RemovesEntry, with_directory_entry}
use Rattle.rbf_model.proofs.Free.{number_below}
use Rattle.rbf_model.proofs.Owners.{own_below}
use Rattle.rbf_model.proofs.Map.{takes_law, frees_law}
use Rattle.rbf_model.proofs.Data.{own_sector, past_map, unseen_within, unseen_law, overwrite_law}
use Rattle.rbf_model.proofs.Described.{past_descriptor, describe_law}
use Rattle.rbf_model.proofs.Entered.{enter_law}
use Rattle.rbf_model.proofs.Appended.{append_law}
use Rattle.rbf_model.proofs.Left.{leave_law}
use Rattle.rbf_model.proofs.Lifted.{vol_put}

module _ (image : List ℕ) (v : DiskVolume) (vol : Vol image v) where
  map_below : (s : ℕ) → IsMapSector (image_geometry image) s → s < (image_geometry image).total
  map_below s map = let within = map.within in let fits = vol.sound.shape.map.fits in omega arith

  pub takes_image : (s : ℕ) (bytes : List ℕ) (taken : ℕ → Bool) → length bytes ≡ 256 → MarksFreeClusters (disk_of (image_geometry image) (sector image)) v s bytes taken
      → Vol (put_sector image s bytes) (with_lost v (λ c. v.lost c || taken c))
  takes_image s bytes taken whole takes =
      vol_put image v _ s bytes vol takes.map.after (map_below s takes.map) whole (takes_law (image_geometry image) (sector image) v vol.sound s bytes whole taken takes) refl

  pub frees_image : (s : ℕ) (bytes : List ℕ) (freed : ℕ → Bool) → length bytes ≡ 256 → FreesClusters (disk_of (image_geometry image) (sector image)) v s bytes freed
      → Vol (put_sector image s bytes) (with_lost v (λ c. v.lost c && not (freed c)))
  frees_image s bytes freed whole frees =
      vol_put image v _ s bytes vol frees.map.after (map_below s frees.map) whole (frees_law (image_geometry image) (sector image) v vol.sound s bytes whole freed frees) refl

  -- a file's sector is past the map and below the total
  sector_after : (n j s : ℕ) (file : DiskFile) (bytes : List ℕ) → length bytes ≡ 256 → IsFileSector v n file j s → 1 ≤ s
  sector_after n j s file bytes whole at = let past = past_map (image_geometry image) (sector image) v vol.sound n j s file bytes whole at in omega arith

  sector_below : (n j s : ℕ) (file : DiskFile) (bytes : List ℕ) → length bytes ≡ 256 → IsFileSector v n file j s → s < (image_geometry image).total
  sector_below n j s file bytes whole at =
      own_below (image_geometry image) (sector image) v vol.sound n file s at.is (own_sector (image_geometry image) (sector image) v vol.sound n j s file bytes whole at)

  pub unseen_image : (s : ℕ) (bytes : List ℕ) → length bytes ≡ 256 → IsUnseen (disk_of (image_geometry image) (sector image)) v s bytes → Vol (put_sector image s bytes) v
  unseen_image s bytes whole unseen =
      let place = unseen_within (image_geometry image) (sector image) v vol.sound s bytes whole unseen in
      let past = place.0 in
      vol_put image v v s bytes vol (omega arith) place.1 whole (unseen_law (image_geometry image) (sector image) v vol.sound s bytes whole unseen) refl

  pub overwrite_image : (n j s : ℕ) (file : DiskFile) (bytes : List ℕ) → length bytes ≡ 256 → Overwrites v n file j s
      → Vol (put_sector image s bytes) (with_file_in_place v n (with_sector_bytes file j bytes))
  overwrite_image n j s file bytes whole over =
      vol_put image v _ s bytes vol (sector_after n j s file bytes whole over.sector) (sector_below n j s file bytes whole over.sector) whole
      (overwrite_law (image_geometry image) (sector image) v vol.sound n j s file bytes whole over) refl

  pub describe_image : (n : ℕ) (old : DiskFile) (bytes : List ℕ) → length bytes ≡ 256 → Redescribes (disk_of (image_geometry image) (sector image)) v n old bytes
      → Vol (put_sector image n bytes) (with_file (image_geometry image) v n (Some (file_from (sector image) bytes)))
  describe_image n old bytes whole re =
      vol_put image v _ n bytes vol
      (let past = past_descriptor (image_geometry image) (sector image) v vol.sound n old bytes whole re.describes in omega arith)
      (number_below (image_geometry image) (sector image) v vol.sound n old re.describes.is) whole
      (describe_law (image_geometry image) (sector image) v vol.sound n old bytes whole re) refl

  pub enter_image : (d : ℕ) (dir : DiskFile) (j s : ℕ) (bytes : List ℕ) (i : ℕ) (entry : List ℕ) (n : ℕ) → length bytes ≡ 256
      → AddsEntry (disk_of (image_geometry image) (sector image)) v (record { directory = d; file = dir; place = i; bytes = entry }) (record { place = j; lsn = s; bytes = bytes }) n
      → Vol (put_sector image s bytes) (with_file (image_geometry image) (with_file_in_place v d (with_directory_entry dir i entry)) n (Some (file_at (sector image) n)))
  enter_image d dir j s bytes i entry n whole enters =
      vol_put image v _ s bytes vol (sector_after d j s dir bytes whole enters.puts.sector) (sector_below d j s dir bytes whole enters.puts.sector) whole
      (enter_law (image_geometry image) (sector image) v vol.sound d dir j s bytes whole i entry n enters) refl

  pub append_image : (d : ℕ) (dir : DiskFile) (bytes : List ℕ) (i : ℕ) (entry : List ℕ) (n : ℕ) → length bytes ≡ 256
      → AppendsEntry (disk_of (image_geometry image) (sector image)) v (record { directory = d; file = dir; place = i; bytes = entry }) bytes n
      → Vol (put_sector image d bytes)
      (with_file (image_geometry image) (with_file (image_geometry image) v d (Some (file_from (sector image) bytes))) n (Some (file_at (sector image) n)))
  append_image d dir bytes i entry n whole appends =
      vol_put image v _ d bytes vol
      (let past = past_descriptor (image_geometry image) (sector image) v vol.sound d dir bytes whole appends.describes in omega arith)
      (number_below (image_geometry image) (sector image) v vol.sound d dir appends.describes.is) whole
      (append_law (image_geometry image) (sector image) v vol.sound d dir bytes whole i entry n appends) refl

  pub leave_image : (d : ℕ) (dir : DiskFile) (j s : ℕ) (bytes : List ℕ) (i : ℕ) (entry : List ℕ) (n : ℕ) (file : DiskFile) → length bytes ≡ 256
      → RemovesEntry (sector image) v (record { directory = d; file = dir; place = i; bytes = entry }) (record { place = j; lsn = s; bytes = bytes }) n file
      → Vol (put_sector image s bytes) (with_file (image_geometry image) (with_file_in_place v d (with_directory_entry dir i entry)) n None)
  leave_image d dir j s bytes i entry n file whole leaves =
      vol_put image v _ s bytes vol (sector_after d j s dir bytes whole leaves.puts.sector) (sector_below d j s dir bytes whole leaves.puts.sector) whole
      (leave_law (image_geometry image) (sector image) v vol.sound d dir j s bytes whole i entry n file leaves) refl
