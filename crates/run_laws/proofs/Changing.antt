-- Changes of a volume that there are: writes and sizes, attributes and deletions need no fault of the drive.
use Rattle.std.proofs.Common.{◌≡◌, ◌⊎◌, ℕ, ◌+◌, ◌/◌, ◌<◌, ◌≤◌, nat_lt, Bool, true, Option, Some, None, List, length, refl, sym, ap, ◌∙◌, subst, inl, inr, arith, slice_get}
use Rattle.std.specs.Prelude.{find, if◌then◌else◌, option_map}
use Rattle.std.specs.List.{position_or_len, range_with_len}
use Rattle.std.proofs.lemmas.Bool.{cases_lt, lt-ltb}
use Rattle.std.proofs.lemmas.List.FromFn.{get_or-range_with_len, length-range_with_len}
use Rattle.std.proofs.lemmas.List.Folds.{find_at}
use Rattle.std.proofs.lemmas.Option.{none-some, same_Some, slice_get-get_or, slice_get-map}
use Rattle.os9_base.specs.declared.errors.TheConstants.{E_SLF}
use Rattle.call_laws.proofs.Lists.{get-within}
use Rattle.rbf_model.specs.Fields.{descriptor_field, directory_entry}
use Rattle.rbf_model.specs.File.{DiskFile}
use Rattle.rbf_model.specs.Volume.{DiskVolume}
use Rattle.rbf_model.specs.Walk.{directory_entries, entry_has_name, look_up}
use Rattle.rbf_change.specs.Calls.{SizesFile, cluster_size, cuts, free_total, is_free_in, lengthened_file, lengthens, minute_of, replaced, shape, stays, with_attributes, written_file}
use Rattle.rbf_change.specs.Contents.{written}
use Rattle.rbf_change.specs.Cut.{cut_file}
use Rattle.rbf_change.specs.Growth.{clusters_needed, with_clusters}
use Rattle.rbf_change.specs.Names.{freed_entry, place_of}
use Rattle.rbf_model.specs.Laws.{with_directory_entry}
use Rattle.file_rules.specs.Change.{Change, AppliesChange, MayBeTooLong, deletes, sets_attributes, sizes, writes}
use Rattle.file_rules.specs.Files.{Asker, Files, volume_at}
use Rattle.file_rules.specs.Step.{FileEffect, IsChanged, IsTooLong, VolumeChange, refuses_so, with_volume_after}
use Rattle.run_laws.proofs.Gaining.{ChoiceOrNot, file-choice}

-- what a change comes to where no drive fails
abbrev pub SomeChange : VolumeChange → Asker → Files → Type 0
SomeChange it asker files =
    (effect : FileEffect) × (IsChanged it asker files effect ⊎ IsTooLong it files effect)

module _ (asker : Asker) (files : Files) (drive : ℕ) (v : DiskVolume) (is : volume_at files drive ≡ Some v) (beside : ℕ → FileEffect) where
  abbrev changing : Change → VolumeChange
  changing change = record { drive = drive; change = change; effect = beside }

  made : (change : Change) (w : DiskVolume) (number : ℕ) → AppliesChange change asker.user asker.now v w number → SomeChange (changing change) asker files
  made change w number makes = (
    with_volume_after (beside number) drive w,
    inl (record { old = v; is = is; new = w; number = number; makes = makes; effect_is = refl }),
  )

  too-long : (change : Change) → MayBeTooLong change v → SomeChange (changing change) asker files
  too-long change long = (refuses_so E_SLF files, inr (record { old = v; is = is; too_long = long; effect_is = refl }))

  module _ (n : ℕ) (file : DiskFile) (there : v.files n ≡ Some file) where
    pub some-attributes : (attributes : ℕ) → SomeChange (changing (sets_attributes n attributes)) asker files
    some-attributes attributes =
        made (sets_attributes n attributes) (replaced v n (Some (with_attributes file attributes asker.now))) 0
        (record { old = file; new = with_attributes file attributes asker.now; is = there; changed = refl; volume = refl })

    module _ (below : n < (shape v).total) (some : 0 < cluster_size v) where
      pub some-write : (at : ℕ) (bytes : List ℕ) → clusters_needed (cluster_size v) file.segments
          (length (written file.contents at bytes)) ≤ free_total v → SomeChange (changing (writes n at bytes)) asker
          files
      some-write at bytes enough =
          by_choice (file-choice v n file there below some (length (written file.contents at bytes)) enough)
        where
          by_choice : ChoiceOrNot (cluster_size v) (is_free_in v) file.segments (length (written file.contents at bytes)) → SomeChange (changing (writes n at bytes)) asker files
          by_choice (inl (gained, choice)) =
              let new = written_file file at bytes asker.now (with_clusters (cluster_size v) file.segments gained) in
              made (writes n at bytes) (replaced v n (Some new)) 0
              (record { old = file; new = new; is = there; changed = record { gained = gained; choice = choice; file = refl }; volume = refl })
          by_choice (inr (gained, full)) =
              too-long (writes n at bytes) (record { file = file; is = there; gained = gained; full = full })

      pub some-size : (size : ℕ) → clusters_needed (cluster_size v) file.segments size ≤ free_total v → SomeChange (changing (sizes n size)) asker files
      some-size size enough = by_size (cases_lt (length file.contents) size) (cases_lt size (length file.contents))
        where
          sized : (new : DiskFile) → SizesFile (cluster_size v) (is_free_in v) n size asker.now file new → SomeChange (changing (sizes n size)) asker files
          sized new it =
              made (sizes n size) (replaced v n (Some new)) 0 (record { old = file; new = new; is = there; changed = it; volume = refl })

          by_choice : length file.contents < size → ChoiceOrNot (cluster_size v) (is_free_in v) file.segments size → SomeChange (changing (sizes n size)) asker files
          by_choice less (inl (gained, choice)) =
              let new = lengthened_file file size asker.now (with_clusters (cluster_size v) file.segments gained) in
              sized new (lengthens less (record { gained = gained; choice = choice; file = refl }))
          by_choice less (inr (gained, full)) =
              too-long (sizes n size) (record { file = file; is = there; gained = gained; full = full })

          by_size : (length file.contents < size) ⊎ (size ≤ length file.contents) → (size < length file.contents) ⊎ (length file.contents ≤ size) → SomeChange (changing (sizes n size)) asker files
          by_size (inl less) more = by_choice less (file-choice v n file there below some size enough)
          by_size (inr most) (inl more) = sized (cut_file (cluster_size v) n file size (minute_of asker.now)) (cuts more)
          by_size (inr most) (inr least) = sized file (stays (omega (arith, most, least)))

-- ---- deletions

-- a name that is looked up has a place
record HasPlace (contents name : List ℕ) (n : ℕ) : Type 0 where
  pub place : ℕ
  pub there : place_of contents name ≡ Some place
  pub named : descriptor_field (directory_entry contents place) ≡ n

range-is : (n k x : ℕ) → slice_get (range_with_len 0 n) k ≡ Some x → x ≡ k
range-is n k x at =
    let there : k < length (range_with_len 0 n) = get-within (range_with_len 0 n) k x at in
    let within : k < n = subst (λ (m : ℕ). k < m) (length-range_with_len 0 n) there in
    let same : 0 + k ≡ k = omega arith in
    same_Some x k (sym at ∙ slice_get-get_or (range_with_len 0 n) k 0 there ∙ ap Some (get_or-range_with_len 0 n k 0 within ∙ same))

looked-up : (contents name : List ℕ) (n : ℕ) → look_up contents name ≡ Some n → HasPlace contents name n
looked-up contents name n is = by_entry (find (entry_has_name name) (directory_entries contents)) refl is
  where
    place : ℕ
    place = position_or_len (entry_has_name name) (directory_entries contents)

    count : ℕ
    count = length contents / 32

    by_place : (entry : List ℕ) (x : Option ℕ) → slice_get (range_with_len 0 count) place ≡ x → option_map (directory_entry contents) x ≡ Some entry → directory_entry contents place ≡ entry
    by_place entry None at is = absurd (none-some entry is)
    by_place entry (Some x) at is =
        let same : x ≡ place = range-is count place x at in
        ap (directory_entry contents) (sym same) ∙ same_Some (directory_entry contents x) entry is

    by_entry : (entry : Option (List ℕ)) → find (entry_has_name name) (directory_entries contents) ≡ entry → option_map descriptor_field entry ≡ Some n → HasPlace contents name n
    by_entry None found is = absurd (none-some n is)
    by_entry (Some entry) found is =
        let at : slice_get (directory_entries contents) place ≡ Some entry = sym (find_at (entry_has_name name) (directory_entries contents)) ∙ found in
        let within : place < length (directory_entries contents) = get-within (directory_entries contents) place entry at in
        let test : nat_lt place (length (directory_entries contents)) ≡ true = lt-ltb place (length (directory_entries contents)) within in
        record {
          place = place;
          there = ap (λ (test : Bool). if test then Some place else None) test;
          named =
              ap descriptor_field (by_place entry (slice_get (range_with_len 0 count) place) refl
              (sym (slice_get-map (directory_entry contents) (range_with_len 0 count) place) ∙ at)) ∙ same_Some
              (descriptor_field entry) n is;
        }

module _ (asker : Asker) (files : Files) (drive : ℕ) (v : DiskVolume) (is : volume_at files drive ≡ Some v) (beside : ℕ → FileEffect) (d : ℕ) (dir : DiskFile) (there : v.files d ≡ Some dir) where
  pub some-deletion : (n : ℕ) (name : List ℕ) → look_up dir.contents name ≡ Some n → SomeChange (record { drive = drive; change = deletes d n name; effect = beside }) asker files
  some-deletion n name found =
      let it = looked-up dir.contents name n found in
      let left = replaced (replaced v d (Some (with_directory_entry dir it.place (freed_entry (directory_entry dir.contents it.place))))) n None in
      made asker files drive v is beside (deletes d n name) left 0
      (record { dir = dir; is = there; place = it.place; there = it.there; drops = record { old = dir; is = there; named = it.named; volume = refl } })
