-- Changed files, their descriptors that have been read, and the clusters that they need.
use Rattle.std.specs.Prelude.{◌≡◌, ℕ, ◌*◌, ◌^◌, ◌<◌, false, Option, Some, List}
use Rattle.os9_outer.specs.Drive.{sector_at}
use Rattle.rbf_model.specs.Fields.{segments_field}
use Rattle.rbf_model.specs.File.{DiskFile, is_directory}
use Rattle.rbf_model.specs.Volume.{DiskVolume}
use Rattle.rbf_change.specs.Growth.{clusters_needed}
use Rattle.rbf_access.specs.Mounted.{RepresentsVolume}
use Rattle.rbf_access.specs.Reading.{IsFdOf, OnFile}
pub use Rattle.rbf_access.specs.Reading.{OnVolumeFile}
use Rattle.rbf_write.specs.declared.loaded.Loaded.{Loaded}

-- the media represents a volume with a file of this number that is not a directory
pub record HasDataFile (media : Option (List ℕ)) (n : ℕ) : Type 0 where
  pub content : DiskVolume
  pub on : RepresentsVolume media content
  pub file : DiskFile
  pub is : content.files n ≡ Some file
  pub not_directory : is_directory file ≡ false

-- the descriptor of file n has been read
pub record IsDescriptorLoaded (media : Option (List ℕ)) (n : ℕ) (loaded : Loaded) : Type 0 where
  pub number_is : loaded.number ≡ n
  pub bytes_are : loaded.descriptor ≡ sector_at media n
  pub list_is : segments_field loaded.descriptor ≡ loaded.file.segs
  pub says : OnFile media n (λ file. IsFdOf file loaded.file)

-- it was read from the descriptor of a data file
pub record IsLoadedFile (media : Option (List ℕ)) (loaded : Loaded) : Type 0 where
  pub file : HasDataFile media loaded.number
  pub read : IsDescriptorLoaded media loaded.number loaded

-- `count` clusters hold bytes up to an end that a descriptor can name
pub record IsClusterCount (k : ℕ) (segments : List (ℕ × ℕ)) (end count : ℕ) : Type 0 where
  pub fits : end < 2 ^ 32
  pub count_is : count ≡ clusters_needed k segments end

-- no volume has enough clusters to hold bytes up to that end
abbrev pub IsPastVolumes : ℕ → List (ℕ × ℕ) → ℕ → Type 0
IsPastVolumes k segments end = 524280 < clusters_needed k segments end * k
