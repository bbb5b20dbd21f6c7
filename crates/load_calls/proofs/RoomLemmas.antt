-- How many blocks are free when a file was loaded.
use Rattle.std.proofs.Common.{◌≡◌, ◌∙◌, ◌+◌, ◌-◌, ◌<◌, ◌≤◌, ◌==◌, ◌||◌, ℕ, zero, suc, nat_eq, cond, Bool, true, false, IfOk, Option, Some, None, Result, Ok, Err, List, [], ◌∷◌, ◌++◌, length, flat_map, count_by, inl, inr, refl, ap, sym, arith}
use Rattle.std.specs.Cmp.Lexicographic.{pointwise}
use Rattle.std.specs.List.{list_any, range_with_len}
use Rattle.std.specs.Option.{option_map_or}
use Rattle.std.specs.Prelude.{if◌then◌else◌, slice_set}
use Rattle.std.proofs.lemmas.Bool.{cases_lt, cond-true, eq-eqb, ne_eqb, false≢true}
use Rattle.std.proofs.lemmas.List.{length-append, length-map}
use Rattle.std.proofs.lemmas.List.Folds.{list_any-append}
use Rattle.std.proofs.lemmas.List.FromFn.{length-range_with_len}
use Rattle.std.proofs.lemmas.List.Sums.{sum_by-append, sum_by-cons}
use Rattle.std.proofs.lemmas.Option.{none-some}
use Rattle.guest_memory.proofs.Entered.{free_place}
use Rattle.guest_memory.proofs.HeldGroups.{pointwise-same}
use Rattle.proc_model.specs.declared.module.ModuleInfo.{ModuleInfo}
use Rattle.proc_model.specs.Loading.{EntersModules, at_end, broken, entered, refused, with_module}
use Rattle.proc_model.specs.Memory.{MemoryState, free_blocks, is_living_object, living_object_count, mapped_objects}
use Rattle.proc_model.specs.MemoryChanges.{new_numbers}
use Rattle.proc_model.specs.ModuleList.{ModuleEntry, entered_groups, free_number, module_entry_at, new_entry, some_entry, with_module_entry}
use Rattle.proc_model.specs.Objects.{file_block, file_blocks, file_objects}
use Rattle.file_rules.specs.Load.{Loaded, with_file_entered}
use Rattle.load_calls.proofs.OutcomeLemmas.{IsLoaded, first-found}

-- ---- lists

or-swap : (a b c : Bool) → (a || (b || c)) ≡ (b || (a || c))
or-swap true true c = refl
or-swap true false c = refl
or-swap false true c = refl
or-swap false false c = refl

or-true : (a : Bool) → (a || true) ≡ true
or-true true = refl
or-true false = refl

range-split : (a n k : ℕ) → range_with_len a (n + k) ≡ range_with_len a n ++ range_with_len (a + n) k
range-split a zero k = λ i. range_with_len (sym (let e : a + 0 ≡ a = omega arith in e) i) ((let e : 0 + k ≡ k = omega arith in e) i)
range-split a (suc n) k =
    ap (range_with_len a) (let e : suc n + k ≡ suc (n + k) = omega arith in e)
    ∙ ap (λ (rest : List ℕ). a ∷ rest) (range-split (a + 1) n k ∙ ap (λ (b : ℕ). range_with_len (a + 1) n ++ range_with_len b k) (omega arith))

-- two tests that agree on a range count alike there
count-same : (p q : ℕ → Bool) (a n : ℕ) → ((x : ℕ) → a ≤ x → x < a + n → p x ≡ q x) → count_by p (range_with_len a n) ≡ count_by q (range_with_len a n)
count-same p q a zero same = refl
count-same p q a (suc n) same =
    sum_by-cons (λ x. cond (p x) 1 0) a (range_with_len (a + 1) n)
    ∙ (λ i. cond (same a (omega arith) (omega arith) i) 1 0 + count-same p q (a + 1) n (λ x low high. same x (omega arith) (omega arith)) i)
    ∙ sym (sum_by-cons (λ x. cond (q x) 1 0) a (range_with_len (a + 1) n))

-- all of a range pass
count-all : (p : ℕ → Bool) (a n : ℕ) → ((x : ℕ) → a ≤ x → x < a + n → p x ≡ true) → count_by p (range_with_len a n) ≡ n
count-all p a zero all = refl
count-all p a (suc n) all =
    let here : cond {A = ℕ} (p a) 1 0 ≡ 1 = cond-true {A = ℕ} (p a) 1 0 (all a (omega arith) (omega arith)) in
    omega (arith, sum_by-cons (λ x. cond (p x) 1 0) a (range_with_len (a + 1) n), here, count-all p (a + 1) n (λ x low high. all x (omega arith) (omega arith)))

-- ---- what a list of entries names

module _ (x : ℕ) where
  abbrev in_list : List ℕ → Bool
  in_list names = list_any (λ named. named == x) names

  abbrev in_entry : ModuleEntry → Bool
  in_entry entry = in_list entry.group

  abbrev in_groups : List (List ℕ) → Bool
  in_groups groups = in_list (flat_map (λ group. group) groups)

  groups-cons : (group : List ℕ) (groups : List (List ℕ)) → in_groups (group ∷ groups) ≡ (in_list group || in_groups groups)
  groups-cons group groups = list_any-append (λ named. named == x) group (flat_map (λ group. group) groups)

  -- a group that is listed is named
  listed-by : (group first : List ℕ) (groups : List (List ℕ)) (test : Bool) → pointwise nat_eq group first ≡ test
      → (test || list_any (pointwise nat_eq group) groups) ≡ true → in_list group ≡ true
      → (list_any (pointwise nat_eq group) groups ≡ true → in_groups groups ≡ true) → in_groups (first ∷ groups) ≡
      true
  listed-by group first groups true same is has rest = groups-cons first groups ∙ ap (λ (b : Bool). b || in_groups groups) (ap in_list (sym (pointwise-same group first same)) ∙ has)
  listed-by group first groups false same is has rest = groups-cons first groups ∙ ap (λ (b : Bool). in_list first || b) (rest is) ∙ or-true (in_list first)

  listed : (group : List ℕ) (groups : List (List ℕ)) → list_any (pointwise nat_eq group) groups ≡ true → in_list group ≡ true → in_groups groups ≡ true
  listed group [] is has = absurd (false≢true is)
  listed group (first ∷ groups) is has = listed-by group first groups (pointwise nat_eq group first) refl is has (λ rest. listed group groups rest has)

  -- the groups name what the entries do
  named-once : (entries : List (Option ModuleEntry)) (entry : ModuleEntry) (here : Bool) → in_list entry.group ≡ here
      → list_any (pointwise nat_eq entry.group) (entered_groups entries) ≡ true → in_groups (entered_groups entries) ≡
      some_entry in_entry entries → some_entry in_entry entries ≡ (here || some_entry in_entry entries)
  named-once entries entry true has is rest = sym rest ∙ listed entry.group (entered_groups entries) is has
  named-once entries entry false has is rest = refl

  named-by : (entries : List (Option ModuleEntry)) (entry : ModuleEntry) (test : Bool)
      → list_any (pointwise nat_eq entry.group) (entered_groups entries) ≡ test → in_groups (entered_groups entries) ≡
      some_entry in_entry entries → in_groups (if test then entered_groups entries else entry.group ∷ entered_groups
      entries) ≡ (in_entry entry || some_entry in_entry entries)
  named-by entries entry true is rest = rest ∙ named-once entries entry (in_list entry.group) refl is rest
  named-by entries entry false is rest = groups-cons entry.group (entered_groups entries) ∙ ap (λ (b : Bool). in_list entry.group || b) rest

  named-in : (entries : List (Option ModuleEntry)) → in_groups (entered_groups entries) ≡ some_entry in_entry entries
  named-in [] = refl
  named-in (None ∷ entries) = named-in entries
  named-in (Some entry ∷ entries) = named-by entries entry (list_any (pointwise nat_eq entry.group) (entered_groups entries)) refl (named-in entries)

  -- a new entry names what it names, beside the others
  set-entry : (entries : List (Option ModuleEntry)) (n : ℕ) (new : ModuleEntry) → n < length entries
      → module_entry_at entries n ≡ None → some_entry in_entry (slice_set entries n (Some new)) ≡
      (in_entry new || some_entry in_entry entries)
  set-entry [] n new within none = absurd (omega arith)
  set-entry (None ∷ entries) zero new within none = refl
  set-entry (Some entry ∷ entries) zero new within none = absurd (none-some entry (sym none))
  set-entry (None ∷ entries) (suc n) new within none = set-entry entries n new (omega arith) none
  set-entry (Some entry ∷ entries) (suc n) new within none =
      ap (λ (b : Bool). in_entry entry || b) (set-entry entries n new (omega arith) none) ∙ or-swap (in_entry entry) (in_entry new) (some_entry in_entry entries)

  -- an entry that names it is one of them
  entry-at : (entries : List (Option ModuleEntry)) (n : ℕ) (entry : ModuleEntry) → module_entry_at entries n ≡ Some entry → in_entry entry ≡ true → some_entry in_entry entries ≡ true
  entry-at [] n entry is has = absurd (none-some entry is)
  entry-at (None ∷ entries) zero entry is has = absurd (none-some entry is)
  entry-at (Some first ∷ entries) zero entry is has =
      let same : first ≡ entry = cc in
      ap (λ (e : ModuleEntry). in_entry e || some_entry in_entry entries) same ∙ ap (λ (b : Bool). b || some_entry in_entry entries) has
  entry-at (None ∷ entries) (suc n) entry is has = entry-at entries n entry is has
  entry-at (Some first ∷ entries) (suc n) entry is has = ap (λ (b : Bool). in_entry first || b) (entry-at entries n entry is has) ∙ or-true (in_entry first)

  -- modules of a group that does not name it change nothing
  one-more : (entries : List (Option ModuleEntry)) (info : ModuleInfo) (group : List ℕ) → in_list group ≡ false
      → some_entry in_entry (with_module entries info group false) ≡ some_entry in_entry entries
  one-more entries info group apart = by (free_number entries) refl
    where
      by : (free : Option ℕ) → free_number entries ≡ free → some_entry in_entry
          (option_map_or (λ number. with_module_entry entries number (new_entry info group false)) free entries) ≡
          some_entry in_entry entries
      by None is = refl
      by (Some place) is =
          let free = free_place entries place is in
          set-entry entries place (new_entry info group false) free.0 free.1 ∙ ap (λ (b : Bool). b || some_entry in_entry entries) apart

  all-more : {file group : List ℕ} {from : ℕ} {entries : List (Option ModuleEntry)}
      {outcome : Result (List (Option ModuleEntry)) (ℕ × ℕ)} → in_list group ≡ false → EntersModules file group false
      from entries outcome → IfOk outcome (λ after. some_entry in_entry after ≡ some_entry in_entry entries)
  all-more apart (at_end is) = refl
  all-more apart (broken is) = tt
  all-more apart (refused is e) = tt
  all-more {group = group} {entries = entries} {outcome = outcome} apart (entered {info = info} is e rest) = by outcome (all-more apart rest)
    where
      by : (outcome : Result (List (Option ModuleEntry)) (ℕ × ℕ)) → IfOk outcome (λ after. some_entry in_entry after ≡
          some_entry in_entry (with_module entries info group false))
          → IfOk outcome (λ after. some_entry in_entry after ≡ some_entry in_entry entries)
      by (Ok after) same = same ∙ one-more entries info group apart
      by (Err refusal) same = tt

  -- an object lives where a map or an entry names it
  living-is : (m : MemoryState) → is_living_object m x ≡ (in_list (flat_map mapped_objects m.maps) || some_entry in_entry m.modules)
  living-is m =
      list_any-append (λ named. named == x) (flat_map mapped_objects m.maps) (flat_map (λ group. group) (entered_groups m.modules))
      ∙ ap (λ (b : Bool). in_list (flat_map mapped_objects m.maps) || b) (named-in m.modules)

  -- numbers of a range
  range-below : (a n : ℕ) → x < a → in_list (range_with_len a n) ≡ false
  range-below a zero below = refl
  range-below a (suc n) below =
      ap (λ (b : Bool). b || in_list (range_with_len (a + 1) n)) (ne_eqb a x (λ same. absurd (omega arith))) ∙ range-below (a + 1) n (omega arith)

  range-within : (a n : ℕ) → a ≤ x → x < a + n → in_list (range_with_len a n) ≡ true
  range-within a zero low high = absurd (omega arith)
  range-within a (suc n) low high =
      elim (cases_lt a x) [
        | inl above ↦ ap (λ (b : Bool). (a == x) || b) (range-within (a + 1) n (omega arith) (omega arith)) ∙ or-true (a == x)
        | inr here ↦ ap (λ (b : Bool). b || in_list (range_with_len (a + 1) n)) (eq-eqb a x (omega arith))
      ]

-- ---- the memory with the file

module _ (m : MemoryState) (file : List ℕ) (loaded : Loaded) (it : IsLoaded m file loaded) (group_is : loaded.first.entry.group ≡ new_numbers m (file_blocks file)) where
  abbrev group : List ℕ
  group = new_numbers m (file_blocks file)

  abbrev later : MemoryState
  later = with_file_entered m file it.after

  -- the objects that lived live still, and no others of those that there were
  old-living : (x : ℕ) → x < length m.objects → is_living_object later x ≡ is_living_object m x
  old-living x below =
      living-is x later
      ∙ ap (λ (b : Bool). in_list x (flat_map mapped_objects m.maps) || b) (all-more x (range-below x (length m.objects) (file_blocks file) below) it.enters)
      ∙ sym (living-is x m)

  -- and the new ones do
  new-living : (x : ℕ) → length m.objects ≤ x → x < length m.objects + file_blocks file → is_living_object later x ≡ true
  new-living x low high =
      living-is x later
      ∙ ap (λ (b : Bool). in_list x (flat_map mapped_objects m.maps) || b)
      (entry-at x it.after loaded.first.number loaded.first.entry (first-found m it.after loaded.first it.first_is).entry_is
      (ap (in_list x) group_is ∙ range-within x (length m.objects) (file_blocks file) low high))
      ∙ or-true (in_list x (flat_map mapped_objects m.maps))

  long : length later.objects ≡ length m.objects + file_blocks file
  long =
      length-append m.objects (file_objects file)
      ∙ ap (λ (n : ℕ). length m.objects + n) (length-map (range_with_len 0 (file_blocks file)) (file_block file) ∙ length-range_with_len 0 (file_blocks file))

  counted : living_object_count later ≡ living_object_count m + file_blocks file
  counted =
      ap (λ (n : ℕ). count_by (is_living_object later) (range_with_len 0 n)) long
      ∙ ap (count_by (is_living_object later)) (range-split 0 (length m.objects) (file_blocks file))
      ∙ sum_by-append (λ x. cond (is_living_object later x) 1 0) (range_with_len 0 (length m.objects)) (range_with_len (0 + length m.objects) (file_blocks file))
      ∙ (λ i. count-same (is_living_object later) (is_living_object m) 0 (length m.objects) (λ x low high. old-living x (omega arith)) i
      + count-all (is_living_object later) (0 + length m.objects) (file_blocks file) (λ x low high. new-living x (omega arith) (omega arith)) i)

  -- as many blocks less are free as the file needs
  pub free-after : free_blocks loaded.memory ≡ free_blocks m - file_blocks file
  free-after =
      ap free_blocks it.memory_is ∙ (let e : m.blocks - living_object_count later ≡ (m.blocks - living_object_count m) - file_blocks file = omega (arith, counted) in e)
