-- A mounted volume and its descriptors.
use Rattle.std.proofs.Common.{◌≡◌, ℕ, suc, ◌/◌, ◌<◌, ◌≤◌, min, Option, Some, List, length, ap, sym, subst, ◌∙◌, arith}
use Rattle.os9_outer.specs.Drive.{sector_count, sector_at}
use Rattle.rbf_model.specs.Fields.{attributes_field, owner_field, modified_field, links_field, size_field, created_field, segments_field}
use Rattle.rbf_model.specs.Geometry.{image_geometry, sector}
use Rattle.rbf_model.specs.File.{DiskFile, file_at}
use Rattle.rbf_model.specs.Volume.{DiskVolume, Vol}
use Rattle.rbf_model.proofs.Free.{number_below}
use Rattle.rbf_model.proofs.SectorBytes.{length_of_file}
use Rattle.rbf_sector.specs.declared.fd.Fd.{Fd}
use Rattle.rbf_change.specs.Agrees.{MountedPart, Agrees}
use Rattle.rbf_access.specs.declared.volume.Volume.{Volume}
use Rattle.rbf_access.specs.Cached.{IsCacheOf}
use Rattle.rbf_access.specs.Mounted.{mounted_part, RepresentsVolume, IsMounted, HasFile}
use Rattle.rbf_access.specs.Reading.{IsFdOf, OnFile, list_at}

-- a number below a volume's total is a sector of the drive
pub below_total : (media : Option (List ℕ)) (v : DiskVolume) (on : RepresentsVolume media v) (s : ℕ) → s < (image_geometry on.image).total → s < sector_count media
below_total media v on s low =
    let most = on.vol.header.header.most in
    let whole = on.vol.header.fits in
    let counted : sector_count media ≡ min (length on.image / 256) 4294967295 = ap sector_count on.is in
    omega arith

-- a file's descriptor is a sector of the drive
pub number_on : (media : Option (List ℕ)) (n : ℕ) → HasFile media n → n < sector_count media
number_on media n has =
    let on = has.on in
    let low : suc n ≤ (image_geometry on.image).total = number_below (image_geometry on.image) (sector on.image) has.content on.vol.sound n has.file has.is in
    below_total media has.content on n (omega arith)

-- a volume stays mounted where nothing that is kept and nothing on the media has changed
pub mounted_still : (old new : Volume) (before now : Option (List ℕ)) → mounted_part new ≡ mounted_part old → now ≡ before → IsCacheOf now new.cache → IsMounted old before → IsMounted new now
mounted_still old new before now same media_same cached mounted =
    let P : MountedPart → Type 0 = λ k. Agrees k mounted.on.image in
    record {
      content = mounted.content;
      on = record { image = mounted.on.image; is = media_same ∙ mounted.on.is; vol = mounted.on.vol };
      agrees = subst P (sym same) mounted.agrees;
      cached = cached;
    }

-- the fields of a descriptor are those of these bytes
pub record IsReadFrom (bytes : List ℕ) (fd : Fd) : Type 0 where
  pub attr : fd.attr ≡ attributes_field bytes
  pub owner : fd.owner ≡ owner_field bytes
  pub modified : fd.modified ≡ modified_field bytes
  pub links : fd.links ≡ links_field bytes
  pub size : fd.size ≡ size_field bytes
  pub created : fd.created ≡ created_field bytes
  pub segs : fd.segs ≡ segments_field bytes

module _ (image : List ℕ) (v : DiskVolume) (vol : Vol image v) (n : ℕ) (file : DiskFile) (is : v.files n ≡ Some file) (fd : Fd) (read : IsReadFrom (sector image n) fd) where
  shown : file_at (sector image) n ≡ file
  shown = sym (vol.sound.shows.shown n file is)

  pub fd_of_image : IsFdOf file fd
  fd_of_image = record {
    attributes_are = read.attr ∙ ap (λ (f : DiskFile). f.attributes) shown;
    owner_is = read.owner ∙ ap (λ (f : DiskFile). f.owner) shown;
    modified_is = read.modified ∙ ap (λ (f : DiskFile). f.modified) shown;
    links_are = read.links ∙ ap (λ (f : DiskFile). f.links) shown;
    created_is = read.created ∙ ap (λ (f : DiskFile). f.created) shown;
    size_is = read.size ∙ sym (length_of_file (image_geometry image) (sector image) v vol.sound n file is);
    segments_are = read.segs ∙ ap (λ (f : DiskFile). f.segments) shown;
  }

pub size_of : (media : Option (List ℕ)) (n : ℕ) (bytes : List ℕ) (size : ℕ) → bytes ≡ sector_at media n
    → size ≡ size_field bytes → OnFile media n (λ file. size ≡ length file.contents)
size_of media n bytes size are read v file on is =
    let there : bytes ≡ sector on.image n = are ∙ ap (λ m. sector_at m n) on.is in
    read ∙ ap size_field there ∙ sym (length_of_file (image_geometry on.image) (sector on.image) v on.vol.sound n file is)

-- the segments of a file are those in its descriptor, also when the media has been read
pub segments_on : (media now : Option (List ℕ)) (n : ℕ) → now ≡ media → OnFile media n (λ file. list_at now n ≡ file.segments)
segments_on media now n same v file on is =
    ap (λ m. list_at m n) (same ∙ on.is) ∙ sym (ap (λ (f : DiskFile). f.segments) (on.vol.sound.shows.shown n file is))

pub fd_of : (media : Option (List ℕ)) (n : ℕ) (bytes : List ℕ) (fd : Fd) → bytes ≡ sector_at media n → IsReadFrom bytes fd → OnFile media n (λ file. IsFdOf file fd)
fd_of media n bytes fd are read v file on is =
    let there : bytes ≡ sector on.image n = are ∙ ap (λ m. sector_at m n) on.is in
    fd_of_image on.image v on.vol n file is fd (subst (λ b. IsReadFrom b fd) there read)
