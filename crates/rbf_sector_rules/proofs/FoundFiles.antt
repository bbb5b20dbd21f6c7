-- The files that are found, by their places.
use Rattle.std.proofs.Common.{◌≡◌, ℕ, ◌+◌, ◌<◌, ◌≤◌, List, [], ◌∷◌, ◌++◌, All, length, map, take, get_or, refl, sym, ap, ◌∙◌, subst, arith}
use Rattle.std.proofs.lemmas.List.{get_or-map, length-map, map-append, take_more, take-append-le, take_all, length_push}
use Rattle.std.proofs.lemmas.List.Elements.{All-push}
use Rattle.rbf_model.specs.Search.{IsReachedOn}
use Rattle.rbf_sector_rules.specs.declared.file.FoundFile.{FoundFile}
use Rattle.rbf_sector_rules.specs.declared.image.IdentifiedImage.{IdentifiedImage}
use Rattle.rbf_sector_rules.specs.Files.{IsFileOn, AreFiles, found_numbers}
use Rattle.rbf_sector_rules.specs.Found.{Extends}
use Rattle.rbf_sector_rules.specs.Reading.{disk_on}
use Rattle.rbf_model.proofs.Bytes.{has_place}

-- the number in a place is that of the file there
pub number_in : (files : List FoundFile) (k : ℕ) (file : FoundFile) → k < length files → file ≡ get_or files k file → get_or (found_numbers files) k 0 ≡ file.number
number_in files k file low at =
    get_or-map (λ (it : FoundFile). it.number) files k file 0 low ∙ ap (λ (it : FoundFile). it.number) (sym at)

-- so what holds of the one holds of the other
pub at_number : (P : ℕ → Type 0) (files : List FoundFile) (k : ℕ) (file : FoundFile) → k < length files → file ≡ get_or files k file → P file.number → P (get_or (found_numbers files) k 0)
at_number P files k file low at holds = subst P (sym (number_in files k file low at)) holds

pub as_many : (files : List FoundFile) → length (found_numbers files) ≡ length files
as_many files = length-map files (λ (file : FoundFile). file.number)

-- a file that is found is one of the image
pub file_on : (image : IdentifiedImage) (files : List FoundFile) (k : ℕ) (file : FoundFile) → All (IsFileOn image) files → k < length files → file ≡ get_or files k file → IsFileOn image file
file_on image files k file read low at = subst (IsFileOn image) (sym at) (read k file low)

-- and is reached
pub file_reached : (image : IdentifiedImage) (files : List FoundFile) (k : ℕ) (file : FoundFile)
    → AreFiles image files → k < length files → file ≡ get_or files k file → IsReachedOn (disk_on image) file.number
file_reached image files k file are low at =
    subst (λ n. IsReachedOn (disk_on image) n) (number_in files k file low at)
    ((are.found (get_or (found_numbers files) k 0)).0 (has_place (found_numbers files) k (omega (arith, as_many files))))

-- the files of the first numbers that are found
pub record AreFirstFiles (image : IdentifiedImage) (found : List ℕ) (files : List FoundFile) : Type 0 where
  pub numbers : found_numbers files ≡ take (length files) found
  pub read : All (IsFileOn image) files

pub first_files_none : (image : IdentifiedImage) (found : List ℕ) (files : List FoundFile) → files ≡ [] → AreFirstFiles image found files
first_files_none image found files is =
    subst (λ (fs : List FoundFile). AreFirstFiles image found fs) (sym is) (record { numbers = none found; read = λ k d low. absurd (omega arith) })
  where
    none : (found : List ℕ) → found_numbers [] ≡ take 0 found
    none found = refl

-- one file more
pub first_files_more : (image : IdentifiedImage) (old new : List ℕ) (files more : List FoundFile) (file : FoundFile)
    → AreFirstFiles image old files → Extends old new → length files < length old → file.number ≡ get_or old
    (length files) 0 → IsFileOn image file → more ≡ files ++ file ∷ [] → AreFirstFiles image new more
first_files_more image old new files more file first grown low here on is =
    subst (λ (fs : List FoundFile). AreFirstFiles image new fs) (sym is) (record {
      numbers =
          map-append (λ (f : FoundFile). f.number) files (file ∷ []) ∙ ap (λ ns. ns ++ file.number ∷ []) first.numbers ∙ ap (λ n. take (length files) old ++ n ∷ []) here
          ∙ sym (take_more old (length files) 0 low) ∙ sym (ap (take (length files + 1)) grown.is ∙ take-append-le (length files + 1) old grown.more (omega arith))
          ∙ ap (λ n. take n new) (sym (length_push files file));
      read = All-push (IsFileOn image) files file first.read on;
    })

pub all_numbers : (image : IdentifiedImage) (found : List ℕ) (files : List FoundFile) → AreFirstFiles image found files → length found ≤ length files → found_numbers files ≡ found
all_numbers image found files first all = first.numbers ∙ take_all (length files) found all
