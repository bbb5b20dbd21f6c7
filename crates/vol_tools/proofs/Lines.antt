-- The lines of a directory.
use Rattle.std.proofs.Common.{◌≡◌, ℕ, zero, suc, ◌+◌, ◌-◌, ◌*◌, ◌/◌, ◌<◌, ◌≤◌, max, Bool, true, false, Option, Some, None, IsSome, List, [], ◌∷◌, ◌++◌, length, drop, map, Result, Ok, Err, refl, sym, ap, ◌∙◌, subst, arith, append-nil}
use Rattle.std.specs.Prelude.{filter, flat_map, unwrap_or}
use Rattle.std.specs.List.{range_with_len}
use Rattle.std.proofs.lemmas.Bool.{cond-true, cond-false}
use Rattle.std.proofs.lemmas.List.Concat.{flat_map-append}
use Rattle.std.proofs.lemmas.List.Elements.{filter-append}
use Rattle.std.proofs.lemmas.List.FromFn.{map-range_with_len_more}
use Rattle.rbf_model.specs.Fields.{is_used, directory_entry, descriptor_field, entry_name_field}
use Rattle.rbf_model.specs.File.{DiskFile, is_directory}
use Rattle.rbf_model.specs.Geometry.{image_geometry}
use Rattle.rbf_model.specs.Tree.{HasEntry}
use Rattle.rbf_model.specs.Volume.{DiskVolume}
use Rattle.rbf_model.specs.Walk.{directory_entries}
use Rattle.rbf_model.proofs.Lists.{some_of}
use Rattle.rbf_model.proofs.Walked.{entry_file}
use Rattle.rbf_access.specs.Drive.{DriveCounts}
use Rattle.rbf_access.specs.Mounted.{HasFile, IsMounted, RepresentsVolume}
use Rattle.rbf_access.specs.Reading.{IsFdOf, OnFile}
use Rattle.rbf_access.specs.declared.volume.Volume.{Volume}
use Rattle.rbf_sector.specs.declared.fd.Fd.{Fd}
use Rattle.rbf_walk.proofs.Stepping.{file_in}
use Rattle.vol_tools.specs.Listing.{entry_line, file_line}
use Rattle.vol_tools.specs.Faults.{MovesFaults}
use Rattle.vol_tools.specs.Listed.{HasListing, EntryNamesFile, lines_of}
use Rattle.vol_tools.proofs.Counts.{no_faults, faults_then}
use Rattle.vol_tools.proofs.Ways.{still}

-- a used entry of a directory, after the first two, names a file
pub names_file : (media : Option (List ℕ)) (contents : List ℕ) (has : HasListing media contents) (i : ℕ) → 2 ≤ i → 32 * (i + 1) ≤ length contents → EntryNamesFile media (directory_entry contents i)
names_file media contents has i after within used =
    let files = has.content.files in
    let entry : HasEntry has.directory.contents i =
    record { within = subst (λ xs. 32 * (i + 1) ≤ length xs) (sym has.bytes) within; used = subst (λ xs. is_used (directory_entry xs i) ≡ true) (sym has.bytes) used } in
    let some = entry_file (image_geometry has.on.image) files has.on.vol.sound.tree has.number i has.directory has.is has.lists entry in
    let f = some_of (files (descriptor_field (directory_entry contents i))) (subst (λ xs. IsSome (files (descriptor_field (directory_entry xs i)))) has.bytes some) in
    record { content = has.content; on = has.on; file = f.0; is = f.1 }

-- the entries behind the first two
drop_two : (f : ℕ → List ℕ) (n : ℕ) → drop 2 (map f (range_with_len 0 n)) ≡ map f (range_with_len 2 (n - 2))
drop_two f zero = refl
drop_two f (suc zero) = refl
drop_two f (suc (suc n)) = let same : n ≡ suc (suc n) - 2 = omega arith in ap (λ m. map f (range_with_len 2 m)) same

-- one more entry
lines-more : (v : DiskVolume) (contents : List ℕ) (place : ℕ) → 2 ≤ place
    → lines_of v (map (directory_entry contents) (range_with_len 2 (place + 1 - 2)))
    ≡ lines_of v (map (directory_entry contents) (range_with_len 2 (place - 2))) ++ lines_of v (directory_entry contents place ∷ [])
lines-more v contents place after =
    let one : place + 1 - 2 ≡ place - 2 + 1 = omega arith in
    let so_far : List (List ℕ) = map (directory_entry contents) (range_with_len 2 (place - 2)) in
    ap (λ n. lines_of v (map (directory_entry contents) (range_with_len 2 n))) one
    ∙ ap (lines_of v) (map-range_with_len_more (directory_entry contents) 2 (place - 2) place (omega arith))
    ∙ ap (flat_map (entry_line v)) (filter-append is_used so_far (directory_entry contents place ∷ []))
    ∙ flat_map-append (entry_line v) (filter is_used so_far) (filter is_used (directory_entry contents place ∷ []))

-- the lines of the entries before this place
pub record AreListedTo (contents : List ℕ) (media : Option (List ℕ)) (place : ℕ) (lines : List ℕ) (volume : Volume) (now : Option (List ℕ)) (before counts : DriveCounts) : Type 0 where
  pub after : 2 ≤ place
  pub most : place ≤ max 2 (length contents / 32)
  pub same : now ≡ media
  pub mounted : IsMounted volume now
  pub listed : (v : DiskVolume) → RepresentsVolume media v → lines ≡ lines_of v (map (directory_entry contents) (range_with_len 2 (place - 2)))
  pub counted : MovesFaults None before counts

pub none_listed : (contents : List ℕ) (media : Option (List ℕ)) (lines : List ℕ) (volume : Volume) (counts : DriveCounts) → lines ≡ [] → IsMounted volume media
    → AreListedTo contents media 2 lines volume media counts counts
none_listed contents media lines volume counts none mounted =
    record { after = omega arith; most = omega arith; same = refl; mounted = mounted; listed = λ v on. none; counted = no_faults counts }

module _ (contents : List ℕ) (media : Option (List ℕ)) (place : ℕ) (lines : List ℕ) (volume : Volume) (mid : Option (List ℕ)) (before counts : DriveCounts)
    (so_far : AreListedTo contents media place lines volume mid before counts) where
  pub entry_within : place < length contents / 32 → 32 * (place + 1) ≤ length contents
  entry_within low = omega arith

  pub entry_names : HasListing media contents → place < length contents / 32 → (entry : List ℕ) → entry ≡ directory_entry contents place → EntryNamesFile mid entry
  entry_names has low entry is used =
      let f = names_file media contents has place so_far.after (omega arith) (subst (λ e. is_used e ≡ true) is used) in
      let here : HasFile mid (descriptor_field (directory_entry contents place)) = record { content = f.content; on = still media mid f.content so_far.same f.on; file = f.file; is = f.is } in
      subst (λ e. HasFile mid (descriptor_field e)) (sym is) here

  pub one_more : place < length contents / 32 → (entry now_lines : List ℕ) (after : Volume) (now : Option (List ℕ)) (later : DriveCounts) → entry ≡ directory_entry contents place
      → ((v : DiskVolume) → RepresentsVolume mid v → now_lines ≡ lines ++ lines_of v (entry ∷ [])) → now ≡ mid → IsMounted after now → MovesFaults None counts later
      → AreListedTo contents media (place + 1) now_lines after now before later
  one_more low entry now_lines after now later is line same mounted counted =
      let from = so_far.after in
      record {
        after = omega arith;
        most = omega arith;
        same = same ∙ so_far.same;
        mounted = mounted;
        listed = λ v on.
            line v (still media mid v so_far.same on)
            ∙ ap (λ xs. xs ++ lines_of v (entry ∷ [])) (so_far.listed v on)
            ∙ ap (λ e. lines_of v (map (directory_entry contents) (range_with_len 2 (place - 2))) ++ lines_of v (e ∷ [])) is
            ∙ sym (lines-more v contents place so_far.after);
        counted = faults_then None before counts later so_far.counted counted;
      }

  pub all_listed : (length contents / 32 ≤ place) → (v : DiskVolume) → RepresentsVolume media v → lines ≡ lines_of v (drop 2 (directory_entries contents))
  all_listed past v on =
      let from = so_far.after in
      let most = so_far.most in
      let same : place - 2 ≡ length contents / 32 - 2 = omega arith in
      so_far.listed v on
      ∙ ap (λ n. lines_of v (map (directory_entry contents) (range_with_len 2 n))) same
      ∙ ap (lines_of v) (sym (drop_two (directory_entry contents) (length contents / 32)))

-- a free entry has no line
pub unused_line : (v : DiskVolume) (entry lines : List ℕ) → is_used entry ≡ false → lines ≡ lines ++ lines_of v (entry ∷ [])
unused_line v entry lines free =
    sym (append-nil lines) ∙ ap (λ xs. lines ++ flat_map (entry_line v) xs) (sym (cond-false (is_used entry) (entry ∷ []) [] free))

-- the line of a used one
pub used_line : (media : Option (List ℕ)) (v : DiskVolume) (on : RepresentsVolume media v) (entry old now : List ℕ)
    (has : HasFile media (descriptor_field entry)) (fd : Fd) (n : ℕ) → is_used entry ≡ true
    → n ≡ descriptor_field entry → OnFile media n (λ f. IsFdOf f fd)
    → ((f : DiskFile) → IsFdOf f fd → now ≡ old ++ file_line (unwrap_or (entry_name_field entry) []) (Some f))
    → now ≡ old ++ lines_of v (entry ∷ [])
used_line media v on entry old now has fd n used same known line =
    let there = file_in media (descriptor_field entry) has v on in
    line has.file (known v has.file on (ap v.files same ∙ there))
    ∙ ap (λ o. old ++ file_line (unwrap_or (entry_name_field entry) []) o) (sym there)
    ∙ ap (λ xs. old ++ xs) (sym (append-nil (entry_line v entry)))
    ∙ ap (λ xs. old ++ flat_map (entry_line v) xs) (sym (cond-true (is_used entry) (entry ∷ []) [] used))

-- the descriptor that a used entry names is that of a file
pub named_file : (media : Option (List ℕ)) (entry : List ℕ) (n : ℕ) → EntryNamesFile media entry → is_used entry ≡ true → n ≡ descriptor_field entry → HasFile media n
named_file media entry n names used same = subst (HasFile media) (sym same) (names used)
