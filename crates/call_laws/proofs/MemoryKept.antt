-- What changes of memory leave: the objects that a map does not name, and the maps of the others.
use Rattle.std.proofs.Common.{suc, ◌≡◌, ◌≢◌, ◌⊎◌, ℕ, ◌+◌, ◌-◌, ◌*◌, ◌/◌, ◌%◌, ◌<◌, ◌≤◌, nat_lt, Bool, true, false, Option, Some, None, Ok, Err, List, [], ◌∷◌, ◌++◌, length, drop, replicate, get_or, slice_get, refl, sym, ap, ◌∙◌, subst, inl, inr, arith}
use Rattle.std.specs.Prelude.{slice_set, option_map, ◌||◌, if◌then◌else◌}
use Rattle.std.specs.Option.{option_map_or}
use Rattle.std.proofs.lemmas.Bool.{cases_lt, cases_eq}
use Rattle.std.proofs.lemmas.List.{get_or-set_same, get_or-set_other, get_or_past, get_or_append_left, length-set, length-append, length-map, length-drop, length-replicate}
use Rattle.std.proofs.lemmas.List.FromFn.{length-range_with_len}
use Rattle.std.proofs.lemmas.Option.{none-some, same_Some, slice_get_past}
use Rattle.proc_model.specs.declared.memory.MemoryFault.TheVariants.{MemFull, NoRam}
use Rattle.proc_model.specs.Memory.{MemoryState, map_at, with_map, free_blocks, wants_blocks}
use Rattle.proc_model.specs.MemoryChanges.{new_numbers, with_new_objects, grown, map_cut, cut, cleared, map_ungrouped, group_unmapped, linked, first_slots, with_first_slots, has_most_links, started_with, started, writes_from, written, stored}
use Rattle.proc_model.specs.ModuleList.{ModuleEntry, module_entry_at}
use Rattle.proc_model.specs.Objects.{slot_of, with_object_byte, with_cell, with_writes, zero_object}
use Rattle.proc_model.specs.Slots.{Slots, no_slots, NamesBlock, is_free_run, highest_free_run, with_low, cut_low_to, with_group, map_without_group, group_slot, filled_places}
use Rattle.proc_model.specs.Link.{Mapped, mapped_group}
use Rattle.call_laws.specs.Objects.{KeepsSizes, IsNewOrShared, KeepsObjects, KeepsToItself}
use Rattle.call_laws.specs.Modules.{FollowsLinkRules}
use Rattle.call_laws.proofs.ModulesKept.{keeps-more, modules-same, more-linked}
use Rattle.call_laws.proofs.Lists.{slice_get-set_same, get-within, right-some, replicate-is, slice_get-set_other, slice_get-left, range-from, range-below, HasBlock, has-put, has-none, has-filled, before-put, slot-has}

-- the objects that appear hold nothing but zeros and bytes that are given so
abbrev pub HoldOnly : (ℕ → Type 0) → MemoryState → MemoryState → Type 0
HoldOnly Given m n =
    (object : ℕ) (bytes : List ℕ) → length m.objects ≤ object → slice_get n.objects object ≡ Some bytes
    → (k byte : ℕ) → slice_get bytes k ≡ Some byte → (byte ≡ 0) ⊎ Given byte

-- where no object appears
no-new : (Given : ℕ → Type 0) (m n : MemoryState) → length n.objects ≡ length m.objects → HoldOnly Given m n
no-new Given m n long object bytes late is =
    let none : slice_get n.objects object ≡ None = slice_get_past n.objects object (rw long late) in absurd (none-some bytes (sym none ∙ is))

-- the objects that the map of p does not name keep their bytes, and all maps but that of c stay
pub record Kept (m : MemoryState) (Given : ℕ → Type 0) (p c : ℕ) (n : MemoryState) : Type 0 where
  pub objects : KeepsObjects m p n
  pub maps : (q : ℕ) → q ≢ c → map_at n q ≡ map_at m q
  pub modules : FollowsLinkRules m.modules n.modules
  pub new_objects : HoldOnly Given m n
  pub sizes : KeepsSizes m n

pub kept-same : {Given : ℕ → Type 0} (m : MemoryState) (p c : ℕ) → Kept m Given p c m
kept-same {Given = Given} m p c =
    record { objects = λ object there unnamed. refl; maps = λ q differ. refl; modules = modules-same m.modules; new_objects = no-new Given m m refl; sizes = λ object there. refl }

pub itself-same : (m : MemoryState) (p : ℕ) → KeepsToItself m p m
itself-same m p object names = inl names

pub itself-written : (m : MemoryState) (p : ℕ) (writes : List (ℕ × ℕ)) → KeepsToItself m p (written m p writes)
itself-written m p writes object names = inl names

-- ---- another map of a process

pub map-other : (m : MemoryState) (c : ℕ) (slots : Slots ℕ) (q : ℕ) → q ≢ c → map_at (with_map m c slots) q ≡ map_at m q
map-other m c slots q differ = get_or-set_other m.maps c q slots no_slots differ

-- it names what the map names that was set
pub names-set : (m : MemoryState) (c : ℕ) (slots : Slots ℕ) (object : ℕ) → NamesBlock (map_at (with_map m c slots) c) object → NamesBlock slots object
names-set m c slots object names =
    elim (cases_lt c (length m.maps)) [
      | inl within ↦ subst (λ slots. NamesBlock slots object) (get_or-set_same m.maps c slots no_slots within) names
      | inr past ↦
          (let nothing : map_at (with_map m c slots) c ≡ no_slots = get_or_past (slice_set m.maps c slots) c no_slots
          (rw length-set past) in absurd (has-none 8 object (subst (λ slots. NamesBlock slots object) nothing
          names)))
    ]

pub kept-map : {Given : ℕ → Type 0} (m : MemoryState) (p c : ℕ) (slots : Slots ℕ) → Kept m Given p c (with_map m c slots)
kept-map {Given = Given} m p c slots =
    record {
      objects = λ object there unnamed. refl;
      maps = λ q differ. map-other m c slots q differ;
      modules =
          modules-same m.modules;
      new_objects = no-new Given m (with_map m c slots) refl;
      sizes = λ object there. refl;
    }

-- ---- what maps name after changes

names-cut : (slots : Slots ℕ) (count object : ℕ) → NamesBlock (map_cut slots count) object → NamesBlock slots object
names-cut slots count object names = by_test (nat_lt count slots.low) names
  where
    by_test : (test : Bool) → NamesBlock (if test then cut_low_to slots count else slots) object → NamesBlock slots object
    by_test false names = names
    by_test true names =
        elim (has-put slots.places count (replicate (slots.low - count) None) object names) [
          | inl none ↦ absurd (has-none (slots.low - count) object none)
          | inr old ↦ old
        ]

names-ungrouped : (slots : Slots ℕ) (group : List ℕ) (object : ℕ) → NamesBlock (map_ungrouped slots group) object → NamesBlock slots object
names-ungrouped slots group object names = by_slot (group_slot slots group) names
  where
    by_slot : (slot : Option ℕ) → NamesBlock (option_map_or (λ first. map_without_group slots first (length group)) slot slots) object → NamesBlock slots object
    by_slot None names = names
    by_slot (Some first) names =
        elim (has-put slots.places first (replicate (length group) None) object names) [
          | inl none ↦ absurd (has-none (length group) object none)
          | inr old ↦ old
        ]

pub names-low : (slots : Slots ℕ) (blocks : List ℕ) (object : ℕ) → NamesBlock (with_low slots blocks) object → ((k : ℕ) × (slice_get blocks k ≡ Some object)) ⊎ NamesBlock slots object
names-low slots blocks object names =
    elim (has-put slots.places slots.low (filled_places blocks) object names) [
      | inl new ↦ inl (has-filled blocks object new)
      | inr old ↦ inr old
    ]

names-group : (slots : Slots ℕ) (first : ℕ) (group : List ℕ) (object : ℕ) → NamesBlock (with_group slots first group) object → ((k : ℕ) × (slice_get group k ≡ Some object)) ⊎ NamesBlock slots object
names-group slots first group object names =
    elim (has-put slots.places first (filled_places group) object names) [
      | inl new ↦ inl (has-filled group object new)
      | inr old ↦ inr old
    ]

-- ---- the data area

pub itself-cut : (m : MemoryState) (p count : ℕ) → KeepsToItself m p (cut m p count)
itself-cut m p count object names =
    inl (names-cut (map_at m p) count object (names-set m p (map_cut (map_at m p) count) object names))

pub itself-cleared : (m : MemoryState) (p : ℕ) → KeepsToItself m p (cleared m p)
itself-cleared m p object names = absurd (has-none 8 object (names-set m p no_slots object names))

pub itself-unmapped : (m : MemoryState) (p : ℕ) (group : List ℕ) → KeepsToItself m p (group_unmapped m p group)
itself-unmapped m p group object names =
    inl (names-ungrouped (map_at m p) group object (names-set m p (map_ungrouped (map_at m p) group) object names))

-- they are zeros
zeros-from : (objects : List (List ℕ)) (count object : ℕ) (bytes : List ℕ) → length objects ≤ object
    → slice_get (objects ++ replicate count zero_object) object ≡ Some bytes → (k byte : ℕ) → slice_get bytes k ≡ Some
    byte → byte ≡ 0
zeros-from objects count object bytes late is k byte at =
    let found = right-some objects (replicate count zero_object) object bytes late is in
    let zeros : bytes ≡ zero_object = replicate-is count zero_object found.0 bytes found.1 in
    replicate-is 8192 0 k byte (subst (λ bytes. slice_get bytes k ≡ Some byte) zeros at)

-- new objects leave the others
kept-new : {Given : ℕ → Type 0} (m : MemoryState) (p c count : ℕ) (slots : Slots ℕ) → Kept m Given p c (with_map (with_new_objects m count) c slots)
kept-new {Given = Given} m p c count slots = record {
  objects = λ object there unnamed. slice_get-left m.objects (replicate count zero_object) object there;
  sizes = λ object there. ap (option_map length) (slice_get-left m.objects (replicate count zero_object) object there);
  maps = λ q differ. map-other m c slots q differ;
  modules = modules-same m.modules;
  new_objects =
      λ object bytes late is k byte at. inl (zeros-from m.objects count object bytes late is k byte at);
}

is-new : (m : MemoryState) (count object : ℕ) → (k : ℕ) × (slice_get (new_numbers m count) k ≡ Some object) → length m.objects ≤ object
is-new m count object (k, is) = range-from (length m.objects) count k object is

-- it is there in the memory with so many new objects
appears-in : (m : MemoryState) (count object : ℕ) → (k : ℕ) × (slice_get (new_numbers m count) k ≡ Some object) → object < length (m.objects ++ replicate count zero_object)
appears-in m count object (k, is) =
    let below = range-below (length m.objects) count k object is in
    let long : length (m.objects ++ replicate count zero_object) ≡ length m.objects + count = length-append m.objects
    (replicate count zero_object) ∙ ap (λ n. length m.objects + n) (length-replicate count zero_object) in
    omega arith

pub record Grows (m : MemoryState) (Given : ℕ → Type 0) (p : ℕ) (n : MemoryState) : Type 0 where
  pub kept : Kept m Given p p n
  pub itself : KeepsToItself m p n

pub grown-kept : {Given : ℕ → Type 0} (m : MemoryState) (p count : ℕ) (n : MemoryState) → grown m p count ≡ Ok n → Grows m Given p n
grown-kept {Given = Given} m p count n is =
    by_tests (is_free_run (map_at m p) (map_at m p).low count) (wants_blocks m count) is
  where
    low : Slots ℕ
    low = with_low (map_at m p) (new_numbers m count)

    grows : Grows m Given p (with_map (with_new_objects m count) p low)
    grows = record {
      kept = kept-new m p p count low;
      itself =
          λ object names. elim (names-low (map_at m p) (new_numbers m count) object (names-set (with_new_objects m count) p low object names)) [
            | inl new ↦ inr (inl (is-new m count object new, appears-in m count object new))
            | inr old ↦ inl old
          ];
    }

    by_tests : (free wants : Bool) → (if free then (if wants then Err NoRam else Ok (with_map (with_new_objects m count) p low)) else Err MemFull) ≡ Ok n → Grows m Given p n
    by_tests true false is =
        let same : with_map (with_new_objects m count) p low ≡ n = cc in subst (Grows m Given p) same grows
    by_tests true true is = cc
    by_tests false wants is = cc

-- the module directory stays
pub grown-modules : (m : MemoryState) (p count : ℕ) (n : MemoryState) → grown m p count ≡ Ok n → n.modules ≡ m.modules
grown-modules m p count n is =
    by_tests (is_free_run (map_at m p) (map_at m p).low count) (wants_blocks m count) is
  where
    by_tests : (free wants : Bool)
        → (if free then (if wants then Err NoRam else Ok (with_map (with_new_objects m count) p
        (with_low (map_at m p) (new_numbers m count)))) else Err MemFull) ≡ Ok n → n.modules ≡ m.modules
    by_tests true false is =
        let same : with_map (with_new_objects m count) p (with_low (map_at m p) (new_numbers m count)) ≡ n = cc in
        ap (λ (n : MemoryState). n.modules) (sym same)
    by_tests true true is = cc
    by_tests false wants is = cc

-- ---- bytes

module _ (places : List (Option ℕ)) (object : ℕ) where
  -- a byte that is written through a map leaves the objects that its slot does not name
  cell-kept : (objects : List (List ℕ)) (address byte : ℕ) → ((number : ℕ) → slot_of places (address / 8192) ≡ Some
      number → object ≢ number) → slice_get (with_cell objects places address byte) object ≡ slice_get objects object
  cell-kept objects address byte differs = by_slot (slot_of places (address / 8192)) refl
    where
      by_object : (number : ℕ) → object ≢ number → (found : Option (List ℕ)) → slice_get objects number ≡ found
          → slice_get (with_object_byte objects (address % 8192) byte (Some number)) object ≡ slice_get objects object
      by_object number differ None is = rw is refl
      by_object number differ (Some bytes) is =
          rw is (slice_get-set_other objects number object (slice_set bytes (address % 8192) byte) differ)

      by_slot : (slot : Option ℕ) → slot_of places (address / 8192) ≡ slot → slice_get (with_object_byte objects (address % 8192) byte slot) object ≡ slice_get objects object
      by_slot None is = refl
      by_slot (Some number) is = by_object number (differs number is) (slice_get objects number) refl

  writes-kept : (HasBlock places object → ⊥) → (objects : List (List ℕ)) (writes : List (ℕ × ℕ)) → slice_get (with_writes objects places writes) object ≡ slice_get objects object
  writes-kept unnamed objects [] = refl
  writes-kept unnamed objects (write ∷ writes) =
      writes-kept unnamed (with_cell objects places write.0 write.1) writes
      ∙ cell-kept objects write.0 write.1 (λ number is same. unnamed (write.0 / 8192, slot-has places (write.0 / 8192) number is ∙ ap Some (sym same)))

  -- bytes that are stored in slots below one, where these do not name it
  stores-kept : (count : ℕ) → ((slot number : ℕ) → slot < count → slot_of places slot ≡ Some number → object ≢ number)
      → (objects : List (List ℕ)) (address : ℕ) (bytes : List ℕ) → address + length bytes ≤ 8192 * count
      → slice_get (with_writes objects places (writes_from address bytes)) object ≡ slice_get objects object
  stores-kept count differs objects address [] within = refl
  stores-kept count differs objects address (byte ∷ bytes) within =
      stores-kept count differs (with_cell objects places address byte) (address + 1) bytes (omega arith)
      ∙ cell-kept objects address byte (λ number is. differs (address / 8192) number (omega arith) is)

-- writes make no object
cell-long : (places : List (Option ℕ)) (objects : List (List ℕ)) (address byte : ℕ) → length (with_cell objects places address byte) ≡ length objects
cell-long places objects address byte = by_slot (slot_of places (address / 8192))
  where
    by_object : (number : ℕ) (found : Option (List ℕ)) → slice_get objects number ≡ found → length (with_object_byte objects (address % 8192) byte (Some number)) ≡ length objects
    by_object number None is = rw is refl
    by_object number (Some bytes) is = rw is (length-set objects number (slice_set bytes (address % 8192) byte))

    by_slot : (slot : Option ℕ) → length (with_object_byte objects (address % 8192) byte slot) ≡ length objects
    by_slot None = refl
    by_slot (Some number) = by_object number (slice_get objects number) refl

writes-long : (places : List (Option ℕ)) (objects : List (List ℕ)) (writes : List (ℕ × ℕ)) → length (with_writes objects places writes) ≡ length objects
writes-long places objects [] = refl
writes-long places objects (write ∷ writes) =
    writes-long places (with_cell objects places write.0 write.1) writes ∙ cell-long places objects write.0 write.1

-- and change the size of none
cell-sizes : (places : List (Option ℕ)) (object : ℕ) (objects : List (List ℕ)) (address byte : ℕ) → option_map length
    (slice_get (with_cell objects places address byte) object) ≡ option_map length (slice_get objects object)
cell-sizes places object objects address byte = by_slot (slot_of places (address / 8192))
  where
    by_place : (number : ℕ) (bytes : List ℕ) → slice_get objects number ≡ Some bytes → option_map length
        (slice_get (slice_set objects number (slice_set bytes (address % 8192) byte)) object) ≡ option_map length
        (slice_get objects object)
    by_place number bytes is =
        elim (cases_eq object number) [
          | inl same ↦ (
              let put : slice_get (slice_set objects number (slice_set bytes (address % 8192) byte)) object ≡ Some
              (slice_set bytes (address % 8192) byte) = ap
              (slice_get (slice_set objects number (slice_set bytes (address % 8192) byte))) same ∙
              slice_get-set_same objects number (slice_set bytes (address % 8192) byte)
              (get-within objects number bytes is) in
              ap (option_map length) put ∙ ap Some (length-set bytes (address % 8192) byte) ∙ sym (ap (option_map length) (ap (slice_get objects) same ∙ is)))
          | inr differ ↦ ap (option_map length) (slice_get-set_other objects number object (slice_set bytes (address % 8192) byte) differ)
        ]

    by_object : (number : ℕ) (found : Option (List ℕ)) → slice_get objects number ≡ found → option_map length
        (slice_get (with_object_byte objects (address % 8192) byte (Some number)) object) ≡ option_map length
        (slice_get objects object)
    by_object number None is = rw is refl
    by_object number (Some bytes) is = rw is (by_place number bytes is)

    by_slot : (slot : Option ℕ) → option_map length (slice_get (with_object_byte objects (address % 8192) byte slot) object) ≡ option_map length (slice_get objects object)
    by_slot None = refl
    by_slot (Some number) = by_object number (slice_get objects number) refl

writes-sizes : (places : List (Option ℕ)) (object : ℕ) (objects : List (List ℕ)) (writes : List (ℕ × ℕ))
    → option_map length (slice_get (with_writes objects places writes) object) ≡ option_map length
    (slice_get objects object)
writes-sizes places object objects [] = refl
writes-sizes places object objects (write ∷ writes) =
    writes-sizes places object (with_cell objects places write.0 write.1) writes ∙ cell-sizes places object objects write.0 write.1

-- what bytes of the objects from one number on are
module _ (Passes : ℕ → Type 0) (from : ℕ) where
  abbrev AllPass : List (List ℕ) → Type 0
  AllPass objects =
      (object : ℕ) (bytes : List ℕ) → from ≤ object → slice_get objects object ≡ Some bytes → (k byte : ℕ) → slice_get bytes k ≡ Some byte → Passes byte

  byte-passes : (bytes : List ℕ) (at byte : ℕ) → Passes byte → ((k other : ℕ) → slice_get bytes k ≡ Some other
      → Passes other) → (k other : ℕ) → slice_get (slice_set bytes at byte) k ≡ Some other → Passes other
  byte-passes bytes at byte passes all k other is =
      elim (cases_eq k at) [
        | inl same ↦ by_place same (cases_lt at (length bytes))
        | inr differ ↦ all k other (sym (slice_get-set_other bytes at k byte differ) ∙ is)
      ]
    where
      by_place : k ≡ at → (at < length bytes) ⊎ (length bytes ≤ at) → Passes other
      by_place same (inl within) =
          let put : slice_get (slice_set bytes at byte) at ≡ Some byte = slice_get-set_same bytes at byte within in
          let it : byte ≡ other = same_Some byte other (sym put ∙ ap (slice_get (slice_set bytes at byte)) (sym same) ∙ is) in
          subst Passes it passes
      by_place same (inr past) =
          let none : slice_get (slice_set bytes at byte) k ≡ None = slice_get_past (slice_set bytes at byte) k (rw (length-set, same) past) in
          absurd (none-some other (sym none ∙ is))

  cell-passes : (places : List (Option ℕ)) (objects : List (List ℕ)) (address byte : ℕ) → Passes byte → AllPass objects → AllPass (with_cell objects places address byte)
  cell-passes places objects address byte passes all = by_slot (slot_of places (address / 8192))
    where
      by_place : (number : ℕ) (found : List ℕ) → slice_get objects number ≡ Some found → number < length objects → AllPass (slice_set objects number (slice_set found (address % 8192) byte))
      by_place number found is within object bytes late there =
          elim (cases_eq object number) [
            | inl same ↦ (
                let put : slice_get (slice_set objects number (slice_set found (address % 8192) byte)) number ≡ Some
                (slice_set found (address % 8192) byte) = slice_get-set_same objects number
                (slice_set found (address % 8192) byte) within in
                let it : slice_set found (address % 8192) byte ≡ bytes = same_Some _ bytes
                (sym put ∙ ap (slice_get (slice_set objects number (slice_set found (address % 8192) byte)))
                (sym same) ∙ there) in
                λ k other at. byte-passes found (address % 8192) byte passes (all number found (rw (sym same) late) is) k other (subst (λ bytes. slice_get bytes k ≡ Some other) (sym it) at))
            | inr differ ↦
                all object bytes late (sym (slice_get-set_other objects number object (slice_set found (address % 8192) byte) differ) ∙ there)
          ]

      by_object : (number : ℕ) (found : Option (List ℕ)) → slice_get objects number ≡ found → AllPass (with_object_byte objects (address % 8192) byte (Some number))
      by_object number None is = rw is all
      by_object number (Some found) is = rw is (by_place number found is (get-within objects number found is))

      by_slot : (slot : Option ℕ) → AllPass (with_object_byte objects (address % 8192) byte slot)
      by_slot None = all
      by_slot (Some number) = by_object number (slice_get objects number) refl

  stores-pass : (places : List (Option ℕ)) (objects : List (List ℕ)) (address : ℕ) (bytes : List ℕ)
      → ((k byte : ℕ) → slice_get bytes k ≡ Some byte → Passes byte) → AllPass objects
      → AllPass (with_writes objects places (writes_from address bytes))
  stores-pass places objects address [] pass all = all
  stores-pass places objects address (byte ∷ bytes) pass all =
      stores-pass places (with_cell objects places address byte) (address + 1) bytes (λ k other is. pass (suc k) other is) (cell-passes places objects address byte (pass 0 byte refl) all)

pub kept-written : {Given : ℕ → Type 0} (m : MemoryState) (p : ℕ) (writes : List (ℕ × ℕ)) → Kept m Given p p (written m p writes)
kept-written {Given = Given} m p writes = record {
  objects = λ object there unnamed. writes-kept (map_at m p).places object unnamed m.objects writes;
  maps = λ q differ. refl;
  modules = modules-same m.modules;
  sizes = λ object there. writes-sizes (map_at m p).places object m.objects writes;
  new_objects = no-new Given m (written m p writes) (writes-long (map_at m p).places m.objects writes);
}

-- ---- a process that begins

-- what a program's memory begins with: its entry, its map, and room in the slots
pub record Started (m : MemoryState) (c number count : ℕ) (n : MemoryState) : Type 0 where
  pub entry : ModuleEntry
  pub is : module_entry_at m.modules number ≡ Some entry
  pub fits : count + length entry.group ≤ 8
  pub memory : n ≡ with_first_slots m c entry.group count

pub started-is : (m : MemoryState) (c number count : ℕ) (n : MemoryState) → started m c number count ≡ Ok n → Started m c number count n
started-is m c number count n is = by_entry (module_entry_at m.modules number) refl is
  where
    by_tests : (entry : ModuleEntry) → module_entry_at m.modules number ≡ Some entry → (most long wants : Bool)
        → nat_lt 8 (count + length entry.group) ≡ long
        → (if most || long then Err MemFull else (if wants then Err NoRam else Ok (with_first_slots m c entry.group
        count))) ≡ Ok n → Started m c number count n
    by_tests entry found_it true long wants test is = cc
    by_tests entry found_it false true wants test is = cc
    by_tests entry found_it false false true test is = cc
    by_tests entry found_it false false false test is =
        record { entry = entry; is = found_it; fits = grind (arith, test); memory = cc }

    by_entry : (entry : Option ModuleEntry) → module_entry_at m.modules number ≡ entry → option_map_or (started_with m c count) entry (Err MemFull) ≡ Ok n → Started m c number count n
    by_entry None found_it is = cc
    by_entry (Some entry) found_it is =
        by_tests entry found_it (has_most_links entry) (nat_lt 8 (count + length entry.group)) (nat_lt (free_blocks m + (map_at m c).low) count) refl is

module _ (m : MemoryState) (c count : ℕ) (group : List ℕ) (fits : count + length group ≤ 8) where
  abbrev low : Slots ℕ
  low = with_low no_slots (new_numbers m count)

  abbrev first : Slots ℕ
  first = first_slots (new_numbers m count) group

  abbrev begun : MemoryState
  begun = with_first_slots m c group count

  -- the slots of its data area name new objects
  pub low-new : (slot object : ℕ) → slot < count → get_or first.places slot None ≡ Some object → length m.objects ≤ object
  low-new slot object below is =
      let long : length (new_numbers m count) ≡ count = length-range_with_len (length m.objects) count in
      let filled : length (filled_places (new_numbers m count)) ≡ count = simp length-map long in
      let eight : 8 - length group ≤ length low.places = simp (length-append, length-drop, length-replicate, filled) (omega arith) in
      let there : get_or low.places slot None ≡ Some object = sym (before-put low.places (8 - length group) (filled_places group) slot (omega arith) eight) ∙ is in
      let front : get_or (filled_places (new_numbers m count)) slot None ≡ Some object = sym
      (get_or_append_left (filled_places (new_numbers m count))
      (drop (0 + length (filled_places (new_numbers m count))) (replicate 8 None)) None slot (rw filled below)) ∙
      there in
      is-new m count object (has-filled (new_numbers m count) object (slot, front))

  area-new : (slot object : ℕ) → slot < count → slot_of (map_at begun c).places slot ≡ Some object → length m.objects ≤ object
  area-new slot object below is =
      elim (cases_lt c (length m.maps)) [
        | inl within ↦ low-new slot object below (slot-has first.places slot object
            (subst (λ (slots : Slots ℕ). slot_of slots.places slot ≡ Some object) (get_or-set_same m.maps c first
            no_slots within) is))
        | inr past ↦
            (let nothing : map_at begun c ≡ no_slots = get_or_past (slice_set m.maps c first) c no_slots
            (rw length-set past) in absurd (has-none 8 object (
              slot,
              slot-has (replicate 8 None) slot object
                  (subst (λ (slots : Slots ℕ). slot_of slots.places slot ≡ Some object) nothing is),
            )))
      ]

  -- bytes that are stored in its data area leave the old objects
  pub old-kept : (number address : ℕ) (bytes : List ℕ) → address + length bytes ≤ 8192 * count → (object : ℕ)
      → object < length m.objects → slice_get (stored (linked begun number) c address bytes).objects object ≡
      slice_get m.objects object
  old-kept number address bytes within object there =
      stores-kept (map_at begun c).places object count (λ slot number below is same. let late = area-new slot number
      below is in absurd (omega arith)) (m.objects ++ replicate count zero_object) address bytes within
      ∙ slice_get-left m.objects (replicate count zero_object) object there

  -- what its memory leaves
  begun-kept : (Given : ℕ → Type 0) (p number address : ℕ) (bytes : List ℕ)
      → ((k byte : ℕ) → slice_get bytes k ≡ Some byte → Given byte) → address + length bytes ≤ 8192 * count
      → Kept m Given p c (stored (linked begun number) c address bytes)
  begun-kept Given p number address bytes given within = record {
    objects = λ object there unnamed. old-kept number address bytes within object there;
    sizes = λ object there. ap (option_map length) (old-kept number address bytes within object there);
    maps = λ q differ. map-other m c first q differ;
    modules = keeps-more m.modules (linked begun number).modules (more-linked m number);
    new_objects =
        stores-pass (λ byte. (byte ≡ 0) ⊎ Given byte) (length m.objects) (map_at begun c).places (m.objects ++ replicate count zero_object) address bytes (λ k byte is. inr (given k byte is))
        (λ object bytes late is k byte at. inl (zeros-from m.objects count object bytes late is k byte at));
  }

  -- what its map names is new, or of the group
  pub begun-names : (object : ℕ) → NamesBlock (map_at begun c) object
      → ((length m.objects ≤ object) × (object < length (m.objects ++ replicate count zero_object))) ⊎
      ((k : ℕ) × (slice_get group k ≡ Some object))
  begun-names object names =
      elim (names-group low (8 - length group) group object (names-set (with_new_objects m count) c first object names)) [
        | inl grouped ↦ inr grouped
        | inr area ↦ by_area (names-low no_slots (new_numbers m count) object area)
      ]
    where
      by_area : ((k : ℕ) × (slice_get (new_numbers m count) k ≡ Some object)) ⊎ NamesBlock {Block = ℕ} no_slots object
          → ((length m.objects ≤ object) × (object < length (m.objects ++ replicate count zero_object))) ⊎
          ((k : ℕ) × (slice_get group k ≡ Some object))
      by_area (inl new) = inl (is-new m count object new, appears-in m count object new)
      by_area (inr nothing) = absurd (has-none 8 object nothing)

-- the memory of a process that begins, with its parameters
pub record Begun (m : MemoryState) (Given : ℕ → Type 0) (p c : ℕ) (n : MemoryState) : Type 0 where
  pub kept : Kept m Given p c n
  pub names : (object : ℕ) → NamesBlock (map_at n c) object → IsNewOrShared m n object

pub started-kept : (m : MemoryState) (Given : ℕ → Type 0) (p c number count : ℕ) (n : MemoryState) (address : ℕ)
    (bytes : List ℕ) → ((k byte : ℕ) → slice_get bytes k ≡ Some byte → Given byte) → started m c number count ≡ Ok n
    → address + length bytes ≤ 8192 * count → Begun m Given p c (stored (linked n number) c address bytes)
started-kept m Given p c number count n address bytes given is within =
    let begins : Started m c number count n = started-is m c number count n is in
    let group = begins.entry.group in
    let here : Begun m Given p c (stored (linked (with_first_slots m c begins.entry.group count) number) c address bytes) = record {
      kept =
          begun-kept m c count begins.entry.group begins.fits Given p number address bytes given within;
      names =
          λ object names. by_names begins object (begun-names m c count begins.entry.group begins.fits object names);
    } in
    subst (λ n. Begun m Given p c (stored (linked n number) c address bytes)) (sym begins.memory) here
  where
    by_names : (begins : Started m c number count n) (object : ℕ)
        → ((length m.objects ≤ object) × (object < length (m.objects ++ replicate count zero_object))) ⊎
        ((k : ℕ) × (slice_get begins.entry.group k ≡ Some object))
        → IsNewOrShared m (stored (linked (with_first_slots m c begins.entry.group count) number) c address bytes)
        object
    by_names begins object (inl (late, below)) =
        inl (late, rw (writes-long (map_at (with_first_slots m c begins.entry.group count) c).places (m.objects ++ replicate count zero_object) (writes_from address bytes)) below)
    by_names begins object (inr stands) = inr (record { number = number; entry = begins.entry; is = begins.is; stands = stands })

-- ---- groups

pub grows-same : {Given : ℕ → Type 0} (m : MemoryState) (p : ℕ) → Grows m Given p m
grows-same m p = record { kept = kept-same m p p; itself = itself-same m p }

-- the group of an entered module in a map
pub mapped-grows : {Given : ℕ → Type 0} (m : MemoryState) (p number : ℕ) (entry : ModuleEntry) (mapped : Mapped)
    → module_entry_at m.modules number ≡ Some entry → mapped_group m p entry.group ≡ Some mapped
    → Grows m Given p mapped.memory
mapped-grows {Given = Given} m p number entry mapped entered is =
    by_slot (group_slot (map_at m p) entry.group) (highest_free_run (map_at m p) (length entry.group)) is
  where
    grows : (first : ℕ) → Grows m Given p (with_map m p (with_group (map_at m p) first entry.group))
    grows first = record {
      kept = kept-map m p p (with_group (map_at m p) first entry.group);
      itself =
          λ object names. elim (names-group (map_at m p) first entry.group object (names-set m p (with_group (map_at m p) first entry.group) object names)) [
            | inl stands ↦ inr (inr (record { number = number; entry = entry; is = entered; stands = stands }))
            | inr old ↦ inl old
          ];
    }

    by_slot : (slot run : Option ℕ)
        → option_map_or (λ (slot : ℕ). Some (let r : Mapped = record { slot = slot; memory = m } in r)) slot
        (option_map_or (λ (mapped : ℕ × MemoryState). Some
        (let r : Mapped = record { slot = mapped.0; memory = mapped.1 } in r))
        (option_map (λ (first : ℕ). (first, with_map m p (with_group (map_at m p) first entry.group))) run) None) ≡
        Some mapped → Grows m Given p mapped.memory
    by_slot (Some slot) run is = subst (Grows m Given p) (ap (λ (mapped : Mapped). mapped.memory) (same_Some _ mapped is)) (grows-same m p)
    by_slot None (Some first) is = subst (Grows m Given p) (ap (λ (mapped : Mapped). mapped.memory) (same_Some _ mapped is)) (grows first)
    by_slot None None is = cc

-- the directory stays then
pub mapped-modules : (m : MemoryState) (p : ℕ) (group : List ℕ) (mapped : Mapped) → mapped_group m p group ≡ Some mapped → mapped.memory.modules ≡ m.modules
mapped-modules m p group mapped is =
    by_slot (group_slot (map_at m p) group) (highest_free_run (map_at m p) (length group)) is
  where
    by_slot : (slot run : Option ℕ)
        → option_map_or (λ (slot : ℕ). Some (let r : Mapped = record { slot = slot; memory = m } in r)) slot
        (option_map_or (λ (mapped : ℕ × MemoryState). Some
        (let r : Mapped = record { slot = mapped.0; memory = mapped.1 } in r))
        (option_map (λ (first : ℕ). (first, with_map m p (with_group (map_at m p) first group))) run) None) ≡ Some
        mapped → mapped.memory.modules ≡ m.modules
    by_slot (Some slot) run is = sym (ap (λ (mapped : Mapped). mapped.memory.modules) (same_Some _ mapped is))
    by_slot None (Some first) is = sym (ap (λ (mapped : Mapped). mapped.memory.modules) (same_Some _ mapped is))
    by_slot None None is = cc

pub started-modules : (m : MemoryState) (c number count : ℕ) (n : MemoryState) → started m c number count ≡ Ok n → n.modules ≡ m.modules
started-modules m c number count n is = ap (λ (n : MemoryState). n.modules) (started-is m c number count n is).memory
