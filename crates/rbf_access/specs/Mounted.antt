-- A mounted volume, and the volume that the media of its drive represents.
use Rattle.std.specs.Prelude.{◌≡◌, ℕ, ◌+◌, ◌*◌, ◌≤◌, Option, Some, None, List, [], take, drop}
use Rattle.rbf_model.specs.Geometry.{geometry, image_geometry, map_sectors, IsHeader, HasHeader, HasMap}
use Rattle.rbf_model.specs.File.{DiskFile}
use Rattle.rbf_model.specs.Volume.{DiskVolume, Vol}
use Rattle.rbf_sector.specs.Ident.{geometry_of}
use Rattle.rbf_sector.specs.declared.ident.Ident.{Ident}
use Rattle.rbf_change.specs.Agrees.{MountedPart, AgreesOnMap, Agrees}
use Rattle.rbf_model.specs.ClusterMap.{ClusterMap}
use Rattle.rbf_access.specs.Cached.{IsCacheOf}
use Rattle.rbf_access.specs.declared.volume.Volume.{Volume}

-- the media holds the volume that its sector 0 describes, and that volume has a map for its clusters
pub record HoldsVolume (media : Option (List ℕ)) : Type 0 where
  pub image : List ℕ
  pub is : media ≡ Some image
  pub header : HasHeader image
  pub map : HasMap (image_geometry image)

-- the identification sector of a volume that fits a drive of `sectors` sectors, and that has a map for its clusters
pub record FitsDrive (ident : List ℕ) (sectors : ℕ) : Type 0 where
  pub header : IsHeader (geometry ident)
  pub map : HasMap (geometry ident)
  pub fits : (geometry ident).total ≤ sectors

-- the bytes of the first sectors of the map, which begins at sector 1
abbrev pub map_bytes : Option (List ℕ) → ℕ → List ℕ
map_bytes None count = []
map_bytes (Some image) count = take (256 * count) (drop 256 image)

-- the identification is that of the volume on the media
pub record IsIdentOf (media : Option (List ℕ)) (ident : Ident) : Type 0 where
  pub holds : HoldsVolume media
  pub sizes : geometry_of ident ≡ image_geometry holds.image

-- the map is that of the media
abbrev pub IsMapOf : Option (List ℕ) → ClusterMap → Type 0
IsMapOf media map = (image : List ℕ) → media ≡ Some image → AgreesOnMap map image

-- the mounted part of a volume: its sizes and its map, which are in memory
abbrev pub mounted_part : Volume → MountedPart
mounted_part volume = record { sizes = geometry_of volume.ident; map = volume.map }

-- the mounted part is that of the volume that the media holds
pub record IsVolumeOf (media : Option (List ℕ)) (volume : Volume) : Type 0 where
  pub holds : HoldsVolume media
  pub agrees : Agrees (mounted_part volume) holds.image
  pub cached : IsCacheOf media volume.cache

-- the number of drive calls that a mount makes: one for the identification sector, and one for each sector of the map
abbrev pub media_calls : Option (List ℕ) → ℕ
media_calls None = 0
media_calls (Some image) = 1 + map_sectors (image_geometry image)

abbrev pub mount_calls : Volume → ℕ
mount_calls volume = 1 + map_sectors (mounted_part volume).sizes

-- the media represents the volume
pub record RepresentsVolume (media : Option (List ℕ)) (v : DiskVolume) : Type 0 where
  pub image : List ℕ
  pub is : media ≡ Some image
  pub vol : Vol image v

-- a fact about the volume that the media represents
abbrev pub OnVolume : Option (List ℕ) → (DiskVolume → Type 0) → Type 0
OnVolume media fact = (v : DiskVolume) → RepresentsVolume media v → fact v

-- the media represents some volume
abbrev pub IsSoundMedia : Option (List ℕ) → Type 0
IsSoundMedia media = (v : DiskVolume) × RepresentsVolume media v

-- the volume is mounted: its mounted part and each sector in its cache are those of the media, which represents a
-- volume
pub record IsMounted (volume : Volume) (media : Option (List ℕ)) : Type 0 where
  pub content : DiskVolume
  pub on : RepresentsVolume media content
  pub agrees : Agrees (mounted_part volume) on.image
  pub cached : IsCacheOf media volume.cache

-- the media represents a volume with a file of this number
pub record HasFile (media : Option (List ℕ)) (n : ℕ) : Type 0 where
  pub content : DiskVolume
  pub on : RepresentsVolume media content
  pub file : DiskFile
  pub is : content.files n ≡ Some file
