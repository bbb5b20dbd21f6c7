-- The contents of the files after images were written under their names.
use Rattle.std.specs.Prelude.{◌≡◌, ◌≢◌, ℕ, Some, List, [], ◌∷◌, map, take, slice_get, bytes_eq, if◌then◌else◌}
use Rattle.os9_outer.specs.Host.{HostFiles, file_contents, KeepsOrHoldsPrefix}

-- the images in the files of these names, each a volume of its own, even if a name occurs twice
abbrev pub images_of : HostFiles → List (List ℕ) → List (List ℕ)
images_of files names = map (file_contents files) names

-- the files with these bytes under this name
abbrev pub with_file : HostFiles → List ℕ → List ℕ → HostFiles
with_file files name bytes other = if bytes_eq other name then Some bytes else files other

-- the files after these images were written under these names, in order: of two under one name the later one remains
abbrev pub with_images : HostFiles → List (List ℕ) → List (List ℕ) → HostFiles
with_images files [] images = files
with_images files (name ∷ names) [] = files
with_images files (name ∷ names) (image ∷ images) = with_images (with_file files name image) names images

-- all images were written, and nothing else
abbrev pub WritesAll : List (List ℕ) → List (List ℕ) → HostFiles → HostFiles → Type 0
WritesAll names images before now = (name : List ℕ) → now name ≡ with_images before names images name

-- the images before that of this number were written, and the file of this one may hold the beginning of it
pub record WritesUpTo (number : ℕ) (names images : List (List ℕ)) (before now : HostFiles) : Type 0 where
  pub name : List ℕ
  pub image : List ℕ
  pub named : slice_get names number ≡ Some name
  pub written : slice_get images number ≡ Some image
  pub others : (other : List ℕ) → other ≢ name
      → now other ≡ with_images before (take number names) (take number images) other
  pub part : KeepsOrHoldsPrefix (with_images before (take number names) (take number images) name) image (now name)
