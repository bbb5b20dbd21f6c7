-- The entry of a name: where it stands, how long it is, and what it names.
use Rattle.std.proofs.Common.{◌≡◌, ◌≢◌, ℕ, ◌-◌, ◌/◌, ◌%◌, ◌<◌, ◌≤◌, nat_le, ltb, cond, not, ◌&&◌, Bool, true, false, Option, Some, None, is_some, option_map, List, [], ◌∷◌, length, replicate, slice_get, refl, sym, ap, ◌∙◌, subst, arith, length-append, leb-true}
use Rattle.std.specs.Prelude.{if◌then◌else◌, unwrap_or}
use Rattle.std.specs.List.{list_all, position_or_len}
use Rattle.std.proofs.lemmas.Bool.{and_parts, false≢true, both_ways}
use Rattle.std.proofs.lemmas.List.{length-replicate}
use Rattle.std.proofs.lemmas.List.Folds.{find_at}
use Rattle.std.proofs.lemmas.List.FromFn.{get_or-map-range_with_len, length-map-range_with_len}
use Rattle.std.proofs.lemmas.List.Quantifiers.{position-Some}
use Rattle.std.proofs.lemmas.Option.{none-some, same_Some, slice_get-get_or}
use Rattle.os9_base.specs.Name.{is_name_character, padded_name, marked_name}
use Rattle.rbf_model.specs.Fields.{directory_entry, descriptor_field}
use Rattle.rbf_model.specs.File.{DiskFile, is_directory}
use Rattle.rbf_model.specs.Volume.{DiskVolume}
use Rattle.rbf_model.specs.Walk.{WalkEnd, arrives, not_allowed, directory_entries, entry_has_name, file_permits, look_up, may_search}
use Rattle.rbf_change.specs.Names.{deletion_end, deletion_of, entry_place, is_dots, may_change, may_delete, new_entry, place_of}
use Rattle.rbf_change.specs.NewFiles.{Deletes, NewEntryRefusal, bad_path, exists}
use Rattle.rbf_change.specs.NewFiles as new
use Rattle.rbf_entries.specs.Entering.{Entering, refusal_of}
use Rattle.vol_tools.specs.Path.{Place, behind, is_name_text, last_place, parts, place_in, place_of as path_place}

-- ---- the place of a name

cond_some : (b : Bool) (m i : ℕ) → cond b (Some m) None ≡ Some i → m ≡ i
cond_some true m i h = same_Some m i h
cond_some false m i h = absurd (none-some i h)

-- the entry in that place is the one that is looked up
pub looked-up : (contents name : List ℕ) (i : ℕ) → place_of contents name ≡ Some i → look_up contents name ≡ Some (descriptor_field (directory_entry contents i))
looked-up contents name i there =
    let test = entry_has_name name in
    let entries : List (List ℕ) = directory_entries contents in
    let inside : i < length entries = (position-Some test entries i [] there).0 in
    let at : position_or_len test entries ≡ i = cond_some (ltb (position_or_len test entries) (length entries)) (position_or_len test entries) i there in
    let low : i < length contents / 32 = omega (arith, length-map-range_with_len (directory_entry contents) 0 (length contents / 32)) in
    ap (option_map descriptor_field)
    (find_at test entries ∙ ap (slice_get entries) at ∙ slice_get-get_or entries i [] inside
    ∙ ap Some (get_or-map-range_with_len (directory_entry contents) 0 (length contents / 32) i i [] low (omega arith)))

nowhere : (contents name : List ℕ) → is_some (look_up contents name) ≡ false → place_of contents name ≡ None
nowhere contents name none = by (place_of contents name) refl
  where
    by : (o : Option ℕ) → place_of contents name ≡ o → place_of contents name ≡ None
    by None is = is
    by (Some i) is = absurd (false≢true (sym none ∙ ap is_some (looked-up contents name i is)))

-- a name that may be entered is not there
unnamed : (dots changes named : Bool) (rest : Option NewEntryRefusal)
    → (if dots then Some bad_path else (if not changes then Some new.not_allowed else (if named then Some exists else rest))) ≡ None → named ≡ false
unnamed dots changes false rest h = refl
unnamed true changes true rest h = absurd (cc h)
unnamed false false true rest h = absurd (cc h)
unnamed false true true rest h = absurd (cc h)

pub not-there : (v : DiskVolume) (dir : DiskFile) (e : Entering) → refusal_of v dir e ≡ None → place_of dir.contents e.name ≡ None
not-there v dir e allowed =
    nowhere dir.contents e.name (unnamed (is_dots e.name) (may_change dir e.user e.execute) (is_some (look_up dir.contents e.name)) _ allowed)

-- ---- its length

behind-named : (name : List ℕ) (o : Option Place) (at : Place) → behind name o ≡ Some at → ((inner : Place) → o ≡ Some inner → is_name_text inner.name ≡ true) → is_name_text at.name ≡ true
behind-named name None at is rest = absurd (none-some at is)
behind-named name (Some inner) at is rest =
    let same = same_Some (record { way = name ∷ inner.way; name = inner.name }) at is in
    subst (λ (place : Place). is_name_text place.name ≡ true) same (rest inner refl)

last-named : (names : List (List ℕ)) (at : Place) → last_place names ≡ Some at → list_all is_name_text names ≡ true → is_name_text at.name ≡ true
last-named [] at is all = absurd (none-some at is)
last-named (name ∷ []) at is all =
    let same = same_Some (record { way = []; name = name }) at is in
    subst (λ (place : Place). is_name_text place.name ≡ true) same (and_parts (is_name_text name) true all).0
last-named (name ∷ next ∷ names) at is all =
    behind-named name (last_place (next ∷ names)) at is (λ inner there.
    last-named (next ∷ names) inner there (and_parts (is_name_text name) (list_all is_name_text (next ∷ names)) all).1)

all-named : (all : Bool) (names : List (List ℕ)) (at : Place) → list_all is_name_text names ≡ all → place_in (if all then Some names else None) ≡ Some at → is_name_text at.name ≡ true
all-named false names at are is = absurd (none-some at is)
all-named true names at are is = last-named names at is are

-- a path's last name has at most 29 characters
pub short-name : (path : List ℕ) (at : Place) → path_place path ≡ Some at → length at.name ≤ 29
short-name path at is =
    let named = all-named (list_all is_name_text (parts path)) (parts path) at refl is in
    let lengths = and_parts (nat_le 1 (length at.name) && nat_le (length at.name) 29) (list_all is_name_character at.name) named in
    leb-true (length at.name) 29 (and_parts (nat_le 1 (length at.name)) (nat_le (length at.name) 29) lengths.0).1

marked-length : (name : List ℕ) → length (marked_name name) ≡ length name
marked-length [] = refl
marked-length (c ∷ []) = refl
marked-length (c ∷ next ∷ name) = let rest = marked-length (next ∷ name) in omega (arith, rest)

pub entry-length : (name : List ℕ) (n : ℕ) → length name ≤ 29 → length (new_entry name n) ≤ 32
entry-length name n short =
    let zeros : List ℕ = replicate (29 - length (marked_name name)) 0 in
    let count : length zeros ≡ 29 - length (marked_name name) = length-replicate {A = ℕ} (29 - length (marked_name name)) 0 in
    let number : List ℕ = n / 65536 ∷ n / 256 % 256 ∷ n % 256 ∷ [] in
    omega (arith, length-append (padded_name (marked_name name)) number, length-append (marked_name name) zeros, count, marked-length name)

-- ---- a directory is not the file that is deleted from it

allowed-then : (b : Bool) (end : WalkEnd) (m : ℕ) → (if b then end else not_allowed) ≡ arrives m → (b ≡ true) × (end ≡ arrives m)
allowed-then true end m h = (refl, h)
allowed-then false end m h = absurd (cc h)

module _ (v w : DiskVolume) (d m : ℕ) (dir : DiskFile) (name : List ℕ) (there : v.files d ≡ Some dir) (end : deletion_end v.files dir name 0 false ≡ arrives m) where
  changes : (may_change dir 0 false ≡ true) × (deletion_of v.files 0 (look_up dir.contents name) ≡ arrives m)
  changes = allowed-then (may_change dir 0 false) (deletion_of v.files 0 (look_up dir.contents name)) m end

  directory : is_directory dir ≡ true
  directory = (and_parts (is_directory dir) (file_permits dir 0 1) (and_parts (may_search dir 0 false) (file_permits dir 0 2) changes.0).0).0

  pub not-itself : (n : ℕ) → Deletes v w d n name → d ≢ n
  not-itself n deletes same =
      let drops = deletes.drops in
      let dir_is : deletes.dir ≡ dir = same_Some deletes.dir dir (sym deletes.is ∙ there) in
      let old_is : drops.old ≡ dir = same_Some drops.old dir (sym drops.is ∙ there) in
      let placed : place_of dir.contents name ≡ Some deletes.place = subst (λ (f : DiskFile). place_of f.contents name ≡ Some deletes.place) dir_is deletes.there in
      let named : descriptor_field (directory_entry dir.contents deletes.place) ≡ n = subst (λ (f : DiskFile). descriptor_field (directory_entry f.contents deletes.place) ≡ n) old_is drops.named in
      let found : look_up dir.contents name ≡ Some n = looked-up dir.contents name deletes.place placed ∙ ap Some named in
      let of : deletion_of v.files 0 (Some n) ≡ arrives m = subst (λ o. deletion_of v.files 0 o ≡ arrives m) found changes.1 in
      let may : may_delete (v.files n) 0 ≡ true = (allowed-then (may_delete (v.files n) 0) (arrives n) m of).0 in
      let itself : may_delete (Some dir) 0 ≡ true = subst (λ f. may_delete f 0 ≡ true) (ap v.files (sym same) ∙ there) may in
      both_ways (not (is_directory dir)) (ap not directory) (and_parts (not (is_directory dir)) (file_permits dir 0 2) itself).0
