-- What a file that is loaded leaves of memory: it is a group of new objects, and its modules are entered beside those
-- that were.
use Rattle.std.proofs.Common.{◌≡◌, ◌⊎◌, ℕ, zero, suc, ◌+◌, ◌/◌, ◌%◌, ◌<◌, ◌≤◌, nat_lt, Bool, true, false, Option, Some, None, is_none, Result, Ok, Err, List, [], ◌∷◌, ◌++◌, length, get_or, slice_get, refl, sym, ap, ◌∙◌, subst, inl, inr, arith}
use Rattle.std.specs.Prelude.{option_and_then, option_map, if◌then◌else◌}
use Rattle.std.specs.List.{range_with_len}
use Rattle.std.specs.Option.{option_map_or}
use Rattle.std.proofs.lemmas.Bool.{cases_eq, false≢true}
use Rattle.std.proofs.lemmas.List.{length-append}
use Rattle.std.proofs.lemmas.List.FromFn.{get_or-range_with_len, length-map-range_with_len, length-range_with_len}
use Rattle.std.proofs.lemmas.List.Quantifiers.{position-Some}
use Rattle.std.proofs.lemmas.Option.{none-some, same_Some, slice_get-get_or, slice_get-map}
use Rattle.os9_base.specs.Cells.{Cells}
use Rattle.os9_base.specs.declared.errors.TheConstants.{E_BMID, E_NORAM}
use Rattle.proc_model.specs.Loading.{EntersModules, at_end, broken, entered, refused, with_module}
use Rattle.proc_model.specs.Memory.{MemoryState, map_at, wants_blocks}
use Rattle.proc_model.specs.MemoryChanges.{new_numbers}
use Rattle.proc_model.specs.ModuleList.{ModuleEntry, free_number, module_entry_at, new_entry, with_module_entry}
use Rattle.proc_model.specs.Objects.{file_block, file_blocks, file_objects, object_byte, object_cells, slot_of}
use Rattle.proc_model.specs.Slots.{Slots}
use Rattle.proc_model.specs.declared.module.ModuleInfo.{ModuleInfo}
use Rattle.proc_model.proofs.LoadingLemmas.{LiesIn, LiesIn-step}
use Rattle.os9_base.specs.UserNames.{user_cell}
use Rattle.proc_model.specs.ModuleLinks.{Entered, entered_at}
use Rattle.proc_model.specs.UserBytes.{byte_before, user_bytes}
use Rattle.file_rules.specs.Load.{Loaded, Loads, first_entered, loaded_by, with_file_entered}
use Rattle.call_laws.proofs.Lists.{get-within, range-below, range-from, slice_get-left}
use Rattle.call_laws.proofs.ModulesKept.{entry-other, entry-put}

-- ---- the entries

-- what stands at a number where modules are entered as one group: what stood there, or one of them, without a link
abbrev pub EnteredFrom : List ℕ → Option ModuleEntry → Option ModuleEntry → Type 0
EnteredFrom group (Some old) new = new ≡ Some old
EnteredFrom group None (Some new) = (new.group ≡ group) × (new.links ≡ 0)
EnteredFrom group None None = Unit {0}

abbrev pub AreEntered : List ℕ → List (Option ModuleEntry) → List (Option ModuleEntry) → Type 0
AreEntered group entries later =
    (number : ℕ) → EnteredFrom group (module_entry_at entries number) (module_entry_at later number)

entered-same : (group : List ℕ) (place : Option ModuleEntry) → EnteredFrom group place place
entered-same group None = tt
entered-same group (Some entry) = refl

entered-then : (group : List ℕ) (old mid new : Option ModuleEntry) → EnteredFrom group old mid → EnteredFrom group mid new → EnteredFrom group old new
entered-then group (Some old) mid new first next = subst (λ (mid : Option ModuleEntry). EnteredFrom group mid new) first next
entered-then group None (Some mid) new first next = subst (EnteredFrom group None) (sym next) first
entered-then group None None new first next = next

is_nothing : {X : Type 0} (place : Option X) → is_none place ≡ true → place ≡ None
is_nothing None is = refl
is_nothing (Some x) is = absurd (false≢true is)

-- the number that a new entry gets had none
free-entry : (entries : List (Option ModuleEntry)) (place : ℕ) → free_number entries ≡ Some place → (place < length entries) × (module_entry_at entries place ≡ None)
free-entry entries place is =
    let found = position-Some is_none entries place None is in (
      found.0,
      ap (option_and_then (λ (entry : Option ModuleEntry). entry)) (slice_get-get_or entries place None found.0) ∙ is_nothing (get_or entries place None) found.1,
    )

with-entered : (entries : List (Option ModuleEntry)) (info : ModuleInfo) (group : List ℕ) → AreEntered group entries (with_module entries info group false)
with-entered entries info group number = by_free (free_number entries) refl
  where
    put : ℕ → List (Option ModuleEntry)
    put place = with_module_entry entries place (new_entry info group false)

    by_free : (free : Option ℕ) → free_number entries ≡ free → EnteredFrom group (module_entry_at entries number) (module_entry_at (option_map_or put free entries) number)
    by_free None is = entered-same group (module_entry_at entries number)
    by_free (Some place) is =
        let free = free-entry entries place is in
        elim (cases_eq number place) [
          | inl same ↦
              subst (λ (k : ℕ). EnteredFrom group (module_entry_at entries k) (module_entry_at (put place) k)) (sym same)
              (subst (λ (old : Option ModuleEntry). EnteredFrom group old (module_entry_at (put place) place)) (sym free.1)
              (subst (EnteredFrom group None) (sym (entry-put entries place (new_entry info group false) free.0)) (refl, refl)))
          | inr differ ↦
              subst (EnteredFrom group (module_entry_at entries number))
              (sym (entry-other entries place (new_entry info group false) number differ))
              (entered-same group (module_entry_at entries number))
        ]

abbrev AllEntered : List ℕ → List (Option ModuleEntry) → Result (List (Option ModuleEntry)) (ℕ × ℕ) → Type 0
AllEntered group entries (Ok later) = AreEntered group entries later
AllEntered group entries (Err refusal) = Unit {0}

all-then : (group : List ℕ) (entries mid : List (Option ModuleEntry)) (outcome : Result (List (Option ModuleEntry))
    (ℕ × ℕ)) → AreEntered group entries mid → AllEntered group mid outcome → AllEntered group entries outcome
all-then group entries mid (Ok later) first next =
    λ number. entered-then group (module_entry_at entries number) (module_entry_at mid number) (module_entry_at later number) (first number) (next number)
all-then group entries mid (Err refusal) first next = tt

all-entered : {file group : List ℕ} {from : ℕ} {entries : List (Option ModuleEntry)}
    {outcome : Result (List (Option ModuleEntry)) (ℕ × ℕ)} → EntersModules file group false from entries outcome
    → AllEntered group entries outcome
all-entered {group = group} {entries = entries} (at_end is) =
    λ number. entered-same group (module_entry_at entries number)
all-entered (broken is) = tt
all-entered (refused is e) = tt
all-entered {group = group} {entries = entries} {outcome = outcome} (entered {info = info} is e rest) =
    all-then group entries (with_module entries info group false) outcome (with-entered entries info group) (all-entered rest)

-- a file without a module changes no entries
abbrev HasModule : List ℕ → List (Option ModuleEntry) → Result (List (Option ModuleEntry)) (ℕ × ℕ) → Type 0
HasModule file entries (Ok later) = (later ≡ entries) ⊎ (0 < length file)
HasModule file entries (Err refusal) = Unit {0}

has-module : {file group : List ℕ} {from : ℕ} {entries : List (Option ModuleEntry)}
    {outcome : Result (List (Option ModuleEntry)) (ℕ × ℕ)} → EntersModules file group false from entries outcome
    → HasModule file entries outcome
has-module (at_end is) = inl refl
has-module (broken is) = tt
has-module (refused is e) = tt
has-module {file = file} {from = from} {entries = entries} {outcome = outcome} (entered {info = info} is e rest) =
    by_outcome outcome (LiesIn-step file from info is)
  where
    by_outcome : (outcome : Result (List (Option ModuleEntry)) (ℕ × ℕ)) → LiesIn file from info → HasModule file entries outcome
    by_outcome (Ok later) lies = inr (omega (arith, lies.sized, lies.in_file))
    by_outcome (Err refusal) lies = tt

-- ---- the file in memory

pub record IsLoaded (m : MemoryState) (file : List ℕ) (loaded : Loaded) : Type 0 where
  pub entries : List (Option ModuleEntry)
  pub are : AreEntered (new_numbers m (file_blocks file)) m.modules entries
  pub memory : loaded.memory ≡ with_file_entered m file entries
  pub first : module_entry_at entries loaded.first.number ≡ Some loaded.first.entry
  pub some : 0 < file_blocks file

first-is : (entries : List (Option ModuleEntry)) (first : Entered) (place : Option ℕ)
    → option_and_then (entered_at entries) place ≡ Some first
    → (module_entry_at entries first.number ≡ Some first.entry) × (place ≡ Some first.number)
first-is entries first None is = absurd (none-some first is)
first-is entries first (Some place) is = by_entry (module_entry_at entries place) refl is
  where
    by_entry : (entry : Option ModuleEntry) → module_entry_at entries place ≡ entry
        → option_map (λ (entry : ModuleEntry). let r : Entered = record { number = place; entry = entry } in r) entry
        ≡ Some first → (module_entry_at entries first.number ≡ Some first.entry) × (Some place ≡ Some first.number)
    by_entry None at is = absurd (none-some first is)
    by_entry (Some entry) at is =
        subst (λ (first : Entered). (module_entry_at entries first.number ≡ Some first.entry) ×
        (Some place ≡ Some first.number)) (same_Some (record { number = place; entry = entry }) first is)
        (at, refl)

-- there are blocks of a file that has a first module
some-blocks : (m : MemoryState) (file : List ℕ) (entries : List (Option ModuleEntry)) (first : Entered)
    → (entries ≡ m.modules) ⊎ (0 < length file) → first_entered m entries ≡ Some first → 0 < file_blocks file
some-blocks m file entries first (inl same) at =
    let (there, number) = first-is entries first (free_number m.modules) at in
    let none : module_entry_at m.modules first.number ≡ None = (free-entry m.modules first.number number).1 in
    absurd (none-some first.entry (sym none ∙ ap (λ (entries : List (Option ModuleEntry)). module_entry_at entries first.number) (sym same) ∙ there))
some-blocks m file entries first (inr long) at = omega (arith, long)

pub loaded-is : (m : MemoryState) (file : List ℕ) (loaded : Loaded) → Loads m file (Ok loaded) → IsLoaded m file loaded
loaded-is m file loaded it = by_entries it.entries (all-entered it.modules) (has-module it.modules) it.is
  where
    by_first : (entries : List (Option ModuleEntry)) → AreEntered (new_numbers m (file_blocks file)) m.modules entries
        → (entries ≡ m.modules) ⊎ (0 < length file) → (first : Option Entered) → first_entered m entries ≡ first
        → (wants : Bool) → Ok loaded ≡ option_map_or {U = Result Loaded ℕ} (λ (first : Entered). if wants then Err
        E_NORAM else Ok (record { first = first; memory = with_file_entered m file entries })) first (Err E_BMID)
        → IsLoaded m file loaded
    by_first entries are has None at wants is = absurd cc
    by_first entries are has (Some first) at true is = absurd cc
    by_first entries are has (Some first) at false is =
        let made : Loaded = record { first = first; memory = with_file_entered m file entries } in
        let same : made ≡ loaded = cc in
        subst (IsLoaded m file) same (record {
          entries = entries;
          are = are;
          memory = refl;
          first = (first-is entries first (free_number m.modules) at).0;
          some = some-blocks m file entries first has at;
        })

    by_entries : (outcome : Result (List (Option ModuleEntry)) (ℕ × ℕ))
        → AllEntered (new_numbers m (file_blocks file)) m.modules outcome → HasModule file m.modules outcome
        → Ok loaded ≡ loaded_by m file outcome → IsLoaded m file loaded
    by_entries (Err refusal) all has is = absurd cc
    by_entries (Ok entries) all has is =
        by_first entries all has (first_entered m entries) refl (wants_blocks m (file_blocks file)) is

-- ---- behind a list

zero-plus : (n : ℕ) → 0 + n ≡ n
zero-plus n = omega arith

get-behind : (xs ys : List (List ℕ)) (k : ℕ) → slice_get (xs ++ ys) (length xs + k) ≡ slice_get ys k
get-behind [] ys k = ap (slice_get ys) (zero-plus k)
get-behind (x ∷ xs) ys k =
    let next : length (x ∷ xs) + k ≡ suc (length xs + k) = omega arith in
    ap (slice_get (x ∷ (xs ++ ys))) next ∙ get-behind xs ys k

-- ---- what it leaves

plus-zero : (n : ℕ) → n + 0 ≡ n
plus-zero n = omega arith

module _ (m : MemoryState) (file : List ℕ) (loaded : Loaded) (is : IsLoaded m file loaded) where
  objects-are : loaded.memory.objects ≡ m.objects ++ file_objects file
  objects-are = ap (λ (n : MemoryState). n.objects) is.memory

  pub map-same : (q : ℕ) → map_at loaded.memory q ≡ map_at m q
  map-same q = ap (λ (n : MemoryState). map_at n q) is.memory

  pub entries-are : AreEntered (new_numbers m (file_blocks file)) m.modules loaded.memory.modules
  entries-are =
      subst (λ (n : MemoryState). AreEntered (new_numbers m (file_blocks file)) m.modules n.modules) (sym is.memory) is.are

  pub first-there : module_entry_at loaded.memory.modules loaded.first.number ≡ Some loaded.first.entry
  first-there = ap (λ (n : MemoryState). module_entry_at n.modules loaded.first.number) is.memory ∙ is.first

  pub more-objects : length loaded.memory.objects ≡ length m.objects + file_blocks file
  more-objects =
      ap (length {A = List ℕ}) objects-are ∙ length-append m.objects (file_objects file)
      ∙ ap (λ (n : ℕ). length m.objects + n) (length-map-range_with_len (file_block file) 0 (file_blocks file))

  pub old-object : (object : ℕ) → object < length m.objects → slice_get loaded.memory.objects object ≡ slice_get m.objects object
  old-object object there =
      ap (λ (objects : List (List ℕ)). slice_get objects object) objects-are ∙ slice_get-left m.objects (file_objects file) object there

  -- the objects of the file's group are new
  pub group-new : (object k : ℕ) → slice_get (new_numbers m (file_blocks file)) k ≡ Some object → (length m.objects ≤ object) × (object < length loaded.memory.objects)
  group-new object k at = (
    range-from (length m.objects) (file_blocks file) k object at,
    omega (arith, range-below (length m.objects) (file_blocks file) k object at, more-objects),
  )

  pub group-some : slice_get (new_numbers m (file_blocks file)) 0 ≡ Some (length m.objects)
  group-some =
      slice_get-get_or (new_numbers m (file_blocks file)) 0 0 (omega (arith, is.some, length-range_with_len (length m.objects) (file_blocks file)))
      ∙ ap Some (get_or-range_with_len (length m.objects) (file_blocks file) 0 0 is.some ∙ plus-zero (length m.objects))

  -- and they hold the file
  pub file-block-at : (k : ℕ) → k < file_blocks file → slice_get loaded.memory.objects (length m.objects + k) ≡ Some (file_block file k)
  file-block-at k within =
      let there : k < length (range_with_len 0 (file_blocks file)) = omega (arith, within, length-range_with_len 0 (file_blocks file)) in
      ap (λ (objects : List (List ℕ)). slice_get objects (length m.objects + k)) objects-are
      ∙ get-behind m.objects (file_objects file) k
      ∙ slice_get-map (file_block file) (range_with_len 0 (file_blocks file)) k
      ∙ ap (option_map (file_block file)) (slice_get-get_or (range_with_len 0 (file_blocks file)) k 0 there ∙ ap Some (get_or-range_with_len 0 (file_blocks file) k 0 within ∙ zero-plus k))

  -- a byte that a process sees is still there
  pub cell-same : (p at byte : ℕ) → object_cells m.objects (map_at m p).places at ≡ Some byte → object_cells loaded.memory.objects (map_at loaded.memory p).places at ≡ Some byte
  cell-same p at byte seen =
      subst (λ (slots : Slots ℕ). object_cells loaded.memory.objects slots.places at ≡ Some byte) (sym (map-same p)) (by_slot (slot_of (map_at m p).places (at / 8192)) seen)
    where
      by_object : (number : ℕ) (found : Option (List ℕ)) → slice_get m.objects number ≡ found
          → option_and_then (λ (object : List ℕ). slice_get object (at % 8192)) found ≡ Some byte
          → object_byte loaded.memory.objects (at % 8192) number ≡ Some byte
      by_object number None there seen = absurd (none-some byte seen)
      by_object number (Some object) there seen =
          ap (option_and_then (λ (object : List ℕ). slice_get object (at % 8192))) (old-object number (get-within m.objects number object there) ∙ there) ∙ seen

      by_slot : (slot : Option ℕ) → option_and_then (object_byte m.objects (at % 8192)) slot ≡ Some byte → option_and_then (object_byte loaded.memory.objects (at % 8192)) slot ≡ Some byte
      by_slot None seen = absurd (none-some byte seen)
      by_slot (Some number) seen = by_object number (slice_get m.objects number) refl seen

-- ---- bytes that a call reads

pub user-length : (cells : Cells) (at count : ℕ) (bytes : List ℕ) → user_bytes cells at count ≡ Some bytes → length bytes ≡ count
user-length cells at zero bytes is = ap (length {A = ℕ}) (sym (same_Some [] bytes is))
user-length cells at (suc count) bytes is = by_byte (user_cell cells at) (user_bytes cells (at + 1) count) (user-length cells (at + 1) count) is
  where
    by_byte : (byte : Option ℕ) (rest : Option (List ℕ)) → ((bytes : List ℕ) → rest ≡ Some bytes → length bytes ≡ count) → byte_before byte rest ≡ Some bytes → length bytes ≡ suc count
    by_byte None rest there is = absurd (none-some bytes is)
    by_byte (Some byte) None there is = absurd (none-some bytes is)
    by_byte (Some byte) (Some rest) there is =
        let few : length rest ≡ count = there rest refl in
        let all : length (byte ∷ rest) ≡ length bytes = ap (length {A = ℕ}) (same_Some (byte ∷ rest) bytes is) in
        omega (arith, all, few)

module _ (cells more : Cells) (same : (at byte : ℕ) → cells at ≡ Some byte → more at ≡ Some byte) where
  cell-more : (at byte : ℕ) → user_cell cells at ≡ Some byte → user_cell more at ≡ Some byte
  cell-more at byte is = by_test (nat_lt at 65536) is
    where
      by_test : (test : Bool) → (if test then cells at else None) ≡ Some byte → (if test then more at else None) ≡ Some byte
      by_test true is = same at byte is
      by_test false is = is

  -- where all bytes are still there that were
  pub user-more : (at count : ℕ) (bytes : List ℕ) → user_bytes cells at count ≡ Some bytes → user_bytes more at count ≡ Some bytes
  user-more at zero bytes is = is
  user-more at (suc count) bytes is = by_byte (user_cell cells at) (user_bytes cells (at + 1) count) refl refl (user-more (at + 1) count) is
    where
      by_byte : (byte : Option ℕ) (rest : Option (List ℕ)) → user_cell cells at ≡ byte → user_bytes cells (at + 1)
          count ≡ rest → ((bytes : List ℕ) → user_bytes cells (at + 1) count ≡ Some bytes → user_bytes more (at + 1)
          count ≡ Some bytes) → byte_before byte rest ≡ Some bytes → byte_before (user_cell more at)
          (user_bytes more (at + 1) count) ≡ Some bytes
      by_byte None rest first next there is = absurd (none-some bytes is)
      by_byte (Some byte) None first next there is = absurd (none-some bytes is)
      by_byte (Some byte) (Some rest) first next there is =
          ap (λ (byte : Option ℕ). byte_before byte (user_bytes more (at + 1) count)) (cell-more at byte first)
          ∙ ap (byte_before (Some byte)) (there rest next) ∙ is
