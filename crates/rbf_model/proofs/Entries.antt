-- The entries of a directory of which one has changed.
use Rattle.std.proofs.Common.{◌≡◌, ◌≢◌, ℕ, ◌≤◌, true, false, List, [], length, Some, sym, ap, ◌∙◌, subst, ⊎_elim, arith}
use Rattle.std.proofs.lemmas.Bool.{cases_Bool, cond-true, cond-false}
use Rattle.rbf_model.specs.Fields.{is_used, descriptor_field}
use Rattle.rbf_model.specs.File.{DiskFile, is_directory}
use Rattle.rbf_model.specs.Tree.{HasEntry, EntryNames}
use Rattle.rbf_model.specs.Volume.{listing}
use Rattle.rbf_model.proofs.Pieces.{ChangesEntry}
use Rattle.rbf_model.specs.Writes.{IsNewDirectory}
use Rattle.rbf_model.proofs.Keeps.{no_entry}

pub entry_kept : (old new : List ℕ) (i j : ℕ) → ChangesEntry old new i → j ≢ i → HasEntry old j → HasEntry new j
entry_kept old new i j change differ h =
    record { within = change.kept j differ h.within; used = subst (λ e. is_used e ≡ true) (sym (change.beside j differ)) h.used }

pub entry_back : (old new : List ℕ) (i j : ℕ) → ChangesEntry old new i → j ≢ i → HasEntry new j → HasEntry old j
entry_back old new i j change differ h =
    record { within = change.no_more j differ h.within; used = subst (λ e. is_used e ≡ true) (change.beside j differ) h.used }

pub names_kept : (old new : List ℕ) (i j n : ℕ) → ChangesEntry old new i → j ≢ i → EntryNames old j n → EntryNames new j n
names_kept old new i j n change differ h = record {
  after = h.after;
  entry = entry_kept old new i j change differ h.entry;
  descriptor = ap descriptor_field (change.beside j differ) ∙ h.descriptor;
}

pub names_back : (old new : List ℕ) (i j n : ℕ) → ChangesEntry old new i → j ≢ i → EntryNames new j n → EntryNames old j n
names_back old new i j n change differ h = record {
  after = h.after;
  entry = entry_back old new i j change differ h.entry;
  descriptor = ap descriptor_field (sym (change.beside j differ)) ∙ h.descriptor;
}

-- the bytes of a directory, and those of no other file
pub listing_directory : (file : DiskFile) → is_directory file ≡ true → listing (Some file) ≡ file.contents
listing_directory file h = cond-true (is_directory file) file.contents [] h

pub listing_file : (file : DiskFile) → is_directory file ≡ false → listing (Some file) ≡ []
listing_file file h = cond-false (is_directory file) file.contents [] h

-- a new file has no entry after the first two
pub no_third_entry : (file : DiskFile) (n d i : ℕ) → (is_directory file ≡ true → IsNewDirectory file.contents n d) → 2 ≤ i → HasEntry (listing (Some file)) i → ⊥
no_third_entry file n d i made after h =
    ⊎_elim
    (λ is_dir.
    let two = (made is_dir).two in
    let same : length (listing (Some file)) ≡ length file.contents = ap length (listing_directory file is_dir) in
    let within = h.within in
    omega arith)
    (λ not_dir. no_entry (listing (Some file)) i (listing_file file not_dir) h)
    (cases_Bool (is_directory file))
