-- What a file that is put in its place, or at the end, does to the files that a list holds by name.
use Rattle.std.proofs.Common.{◌≡◌, ◌≢◌, ℕ, ◌≤◌, Bool, true, false, Option, Some, None, option_map, List, [], ◌∷◌, ◌++◌, length, get_or, set, slice_get, position, find, string_bytes, refl, sym, ap, ◌∙◌, arith}
use Rattle.std.specs.List.{position_or_len}
use Rattle.std.specs.Option.{option_or}
use Rattle.std.proofs.lemmas.Bool.Decides.{nat_tests}
use Rattle.std.proofs.lemmas.List.Folds.{find_at, find-set, find_past, find-append}
use Rattle.std.proofs.lemmas.List.Quantifiers.{position-Some}
use Rattle.std.proofs.lemmas.Option.{slice_get_past, slice_get_read}
use Rattle.std.proofs.lemmas.Slice.Eq.{bytes_eq-Decides}
use Rattle.os9_outer.specs.declared.host_file.HostFile.{HostFile}
use Rattle.os9_outer.specs.HostFile.{is_named, file_named}

position_or_len-Some : {X : Type 0} (p : X → Bool) (xs : List X) (i : ℕ) → position p xs ≡ Some i → i ≡ position_or_len p xs
position_or_len-Some p xs i e = grind (arith, nat_tests)

position_or_len-None : {X : Type 0} (p : X → Bool) (xs : List X) → position p xs ≡ None → length xs ≤ position_or_len p xs
position_or_len-None p xs e = grind (arith, nat_tests)

false_unless_true : (b : Bool) → (b ≡ true → ⊥) → b ≡ false
false_unless_true true never = absurd (never refl)
false_unless_true false never = refl

is_named-same : (name : List ℕ) (file : HostFile) → string_bytes file.name ≡ name → is_named name file ≡ true
is_named-same name file same = (bytes_eq-Decides (string_bytes file.name) name).1 same

is_named-other : (name other : List ℕ) (file : HostFile) → string_bytes file.name ≡ name → other ≢ name → is_named other file ≡ false
is_named-other name other file same differs =
    false_unless_true (is_named other file)
    (λ yes. differs (sym ((bytes_eq-Decides (string_bytes file.name) other).0 yes) ∙ same))

-- the file at the first place of a name has that name
pub name-at_position : (files : List HostFile) (name : List ℕ) (i : ℕ) (file : HostFile) → position (is_named name) files ≡ Some i → file ≡ get_or files i file → string_bytes file.name ≡ name
name-at_position files name i file place here =
    (bytes_eq-Decides (string_bytes file.name) name).0
    (ap (is_named name) here ∙ (position-Some (is_named name) files i file place).1)

-- what is read under a name stands in the file at its first place
pub file_named-at_position : (files : List HostFile) (name : List ℕ) (i : ℕ) (file : HostFile)
    → position (is_named name) files ≡ Some i → file ≡ get_or files i file → file_named files name ≡ Some
    file.bytes.items
file_named-at_position files name i file place here =
    ap (option_map (λ f. f.bytes.items))
    (find_at (is_named name) files
    ∙ ap (slice_get files) (sym (position_or_len-Some (is_named name) files i place))
    ∙ slice_get_read files (length files) i file refl (position-Some (is_named name) files i file place).0 here)

pub file_named-set : (files : List HostFile) (name : List ℕ) (i : ℕ) (new : HostFile) → position (is_named name) files
    ≡ Some i → string_bytes new.name ≡ name → file_named (set files i new) name ≡ Some new.bytes.items
file_named-set files name i new place same =
    ap (option_map (λ f. f.bytes.items))
    (find-set (is_named name) files i new (position_or_len-Some (is_named name) files i place) (position-Some (is_named name) files i new place).0 (is_named-same name new same))

pub file_named-set_other : (files : List HostFile) (name other : List ℕ) (i : ℕ) (old new : HostFile)
    → old ≡ get_or files i old → string_bytes old.name ≡ name → string_bytes new.name ≡ name → other ≢ name
    → file_named (set files i new) other ≡ file_named files other
file_named-set_other files name other i old new here was same differs =
    ap (option_map (λ f. f.bytes.items))
    (find_past (is_named other) files i new old (ap (is_named other) (sym here) ∙ is_named-other name other old was differs) (is_named-other name other new same differs))

-- nothing is read under a name that has no place
pub file_named-absent : (files : List HostFile) (name : List ℕ) → position (is_named name) files ≡ None → file_named files name ≡ None
file_named-absent files name none =
    let absent : find (is_named name) files ≡ None =
    find_at (is_named name) files ∙ slice_get_past files _ (position_or_len-None (is_named name) files none) in
    ap (option_map (λ f. f.bytes.items)) absent

pub file_named-push : (files : List HostFile) (name : List ℕ) (new : HostFile) → position (is_named name) files ≡ None
    → string_bytes new.name ≡ name → file_named (files ++ new ∷ []) name ≡ Some new.bytes.items
file_named-push files name new none same =
    let yes = is_named-same name new same in
    let absent : find (is_named name) files ≡ None =
    find_at (is_named name) files ∙ slice_get_past files _ (position_or_len-None (is_named name) files none) in
    let found : find (is_named name) (files ++ new ∷ []) ≡ Some new =
    find-append (is_named name) files (new ∷ []) ∙ rw (absent, yes) refl in
    ap (option_map (λ f. f.bytes.items)) found

option_or-None : {X : Type 0} (o : Option X) → option_or o None ≡ o
option_or-None None = refl
option_or-None (Some x) = refl

pub file_named-push_other : (files : List HostFile) (name other : List ℕ) (new : HostFile) → string_bytes new.name ≡ name → other ≢ name → file_named (files ++ new ∷ []) other ≡ file_named files other
file_named-push_other files name other new same differs =
    let no = is_named-other name other new same differs in
    let kept : find (is_named other) (files ++ new ∷ []) ≡ find (is_named other) files =
    find-append (is_named other) files (new ∷ []) ∙ rw no (option_or-None (find (is_named other) files)) in
    ap (option_map (λ f. f.bytes.items)) kept
