-- A module is entered, with a new group or beside one that is entered.
use Rattle.std.proofs.Common.{◌≡◌, ◌≢◌, ℕ, zero, suc, ◌+◌, ◌-◌, ◌*◌, ◌<◌, ◌≤◌, Bool, true, false, Option, Some, None, is_none, option_map, option_and_then, Result, Ok, Err, ◌⊎◌, inl, inr, List, [], ◌∷◌, ◌++◌, length, get_or, map, position, All, AllPairs, refl, sym, ap, ◌∙◌, subst, arith}
use Rattle.std.specs.Prelude.{if◌then◌else◌}
use Rattle.std.specs.List.{range_with_len}
use Rattle.std.specs.Option.{option_map_or}
use Rattle.std.proofs.lemmas.List.{length-set, length-map, get_or-map}
use Rattle.std.proofs.lemmas.List.Quantifiers.{position-Some}
use Rattle.std.proofs.lemmas.Option.{none-some, same_Some, slice_get-get_or}
use Rattle.std.proofs.lemmas.Bool.{cases_eq, cases_order, cond-true, cond-false, lt-ltb, le-ltb, false≢true}
use Rattle.block_pool.specs.Blocks.{Blocks, IsPool, IsLive, reference_count, free_block_count}
use Rattle.block_map.proofs.Places.{same_id}
use Rattle.proc_model.specs.declared.group.BlockId.{BlockId}
use Rattle.proc_model.specs.declared.memory.MemoryFault.{MemoryFault}
use Rattle.proc_model.specs.declared.memory.MemoryFault.TheVariants.{MemFull, NoRam}
use Rattle.proc_model.specs.declared.module.ModuleInfo.{ModuleInfo}
use Rattle.proc_model.specs.Loading.{with_module}
use Rattle.proc_model.specs.Memory.{MemoryState, free_blocks, wants_blocks}
use Rattle.proc_model.specs.MemoryChanges.{entered, entered_beside, new_numbers}
use Rattle.proc_model.specs.ModuleList.{ModuleEntry, module_entry_at, free_number, new_entry, with_module_entry}
use Rattle.proc_model.specs.Objects.{file_blocks, file_objects}
use Rattle.proc_model.specs.Slots.{Slots}
use Rattle.proc_model.proofs.ModuleListLaws.{entry_at-with_entry_same, entry_at-with_entry_other}
use Rattle.guest_memory.specs.Gains.{times_in, GainsBlocks}
use Rattle.guest_memory.specs.Memory.{memory_of, RepresentMemory}
use Rattle.guest_memory.specs.References.{times, Has}
use Rattle.guest_memory.specs.Renaming.{RepresentObjects, renamed_entry, renamed_modules}
use Rattle.guest_memory.specs.Sound.{IsGrouped, AreGrouped, IsSoundMemory}
use Rattle.guest_memory.proofs.Times.{times-at, times-where, times-numbers_of, numbers_of}
use Rattle.guest_memory.proofs.Lists.{map-map}
use Rattle.guest_memory.proofs.HeldGroups.{grouped_blocks, HasGroup, HasBlock, times-group, times-grouped, times-ungrouped, times-same}
use Rattle.guest_memory.proofs.Gains.{Gains-old, count_of-old}
use Rattle.guest_memory.proofs.Keeping.{grouped_live, IsSound-entries}
use Rattle.guest_memory.proofs.Naming.{free_blocks-tied}
use Rattle.guest_memory.proofs.DataArea.{later, later-maps, later-modules, later-new}
use Rattle.guest_memory.proofs.Directory.{entry_at-renamed}
use Rattle.guest_memory.proofs.Renamed.{with_module-renamed}
use Rattle.guest_memory.proofs.Represented.{StandFor-gains}

-- a number that is free is one of the places, and no entry has it
pub free_place : (entries : List (Option ModuleEntry)) (place : ℕ) → free_number entries ≡ Some place → (place < length entries) × (module_entry_at entries place ≡ None)
free_place entries place is =
    let found = position-Some is_none entries place None is in (
      found.0,
      ap (option_and_then (λ (entry : Option ModuleEntry). entry)) (slice_get-get_or entries place None found.0) ∙ nothing (get_or entries place None) found.1,
    )
  where
    nothing : (entry : Option ModuleEntry) → is_none entry ≡ true → entry ≡ None
    nothing None is = refl
    nothing (Some entry) is = absurd (false≢true is)

-- ---- a new entry among the others

module _ (entries : List (Option ModuleEntry)) (place : ℕ) (free : free_number entries ≡ Some place) (new : ModuleEntry) where
  abbrev pub after_entry : List (Option ModuleEntry)
  after_entry = with_module_entry entries place new

  at_new : module_entry_at (with_module_entry entries place new) place ≡ Some new
  at_new = entry_at-with_entry_same entries place new (free_place entries place free).0

  -- an entry is the new one or was there
  new_or_old : (number : ℕ) (entry : ModuleEntry) → module_entry_at (with_module_entry entries place new) number ≡ Some entry → (entry ≡ new) ⊎ (module_entry_at entries number ≡ Some entry)
  new_or_old number entry is =
      elim (cases_eq number place) [
        | inl same ↦ inl (same_Some entry new (sym is ∙ ap (module_entry_at after_entry) same ∙ at_new))
        | inr apart ↦ inr (sym (entry_at-with_entry_other entries place number new apart) ∙ is)
      ]

  -- an entry that was there is there still
  old_still : (number : ℕ) (entry : ModuleEntry) → module_entry_at entries number ≡ Some entry → module_entry_at (with_module_entry entries place new) number ≡ Some entry
  old_still number entry is =
      elim (cases_eq number place) [
        | inl same ↦ absurd (none-some entry (sym (free_place entries place free).1 ∙ ap (module_entry_at entries) (sym same) ∙ is))
        | inr apart ↦ entry_at-with_entry_other entries place number new apart ∙ is
      ]

  HasBlock-still : (block : ℕ) → HasBlock entries block → HasBlock (with_module_entry entries place new) block
  HasBlock-still block has = record { number = has.number; entry = has.entry; is = old_still has.number has.entry has.is; has = has.has }

  HasBlock-new : (block : ℕ) → Has new.group block → HasBlock (with_module_entry entries place new) block
  HasBlock-new block has = record { number = place; entry = new; is = at_new; has = has }

  HasBlock-either : (block : ℕ) → HasBlock (with_module_entry entries place new) block → Has new.group block ⊎ HasBlock entries block
  HasBlock-either block has =
      elim (new_or_old has.number has.entry has.is) [
        | inl same ↦ inl (subst (λ (e : ModuleEntry). Has e.group block) same has.has)
        | inr old ↦ inr (record { number = has.number; entry = has.entry; is = old; has = has.has })
      ]

  -- the groups are as they should be where the new one is, and where it shares a block with none but itself
  AreGrouped-entry : AreGrouped entries → IsGrouped new
      → ((number : ℕ) (entry : ModuleEntry) → module_entry_at entries number ≡ Some entry → (block : ℕ) → Has new.group block → Has entry.group block → new.group ≡ entry.group)
      → AreGrouped (with_module_entry entries place new)
  AreGrouped-entry all grouped alike = record {
    each = λ number entry is. elim (new_or_old number entry is) [ inl same ↦ subst IsGrouped (sym same) grouped | inr old ↦ all.each number entry old ];
    same = λ number other entry another is is_too block has has_too.
        elim (new_or_old number entry is) [
          | inl one ↦
              elim (new_or_old other another is_too) [
                | inl two ↦ ap (λ (e : ModuleEntry). e.group) (one ∙ sym two)
                | inr old ↦ ap (λ (e : ModuleEntry). e.group) one ∙ alike other another old block (subst (λ (e : ModuleEntry). Has e.group block) one has) has_too
              ]
          | inr was ↦
              elim (new_or_old other another is_too) [
                | inl two ↦ sym (ap (λ (e : ModuleEntry). e.group) two ∙ alike number entry was block (subst (λ (e : ModuleEntry). Has e.group block) two has_too) has)
                | inr old ↦ all.same number other entry another was old block has has_too
              ]
        ];
  }

-- ---- a module beside another one of its group

module _ (pool : Blocks) (maps : List (Slots BlockId)) (entries : List (Option ModuleEntry))
    (sound : IsSoundMemory pool maps entries) (number : ℕ) (entry : ModuleEntry) (is : module_entry_at entries number ≡ Some
    entry) (place : ℕ) (free : free_number entries ≡ Some place) (info : ModuleInfo) where
  -- the new entry
  abbrev pub beside : ModuleEntry
  beside = new_entry info entry.group entry.is_boot

  pub IsSound-beside : info.at + info.size ≤ 8192 * length entry.group → info.entry < info.size → IsSoundMemory pool maps (with_module_entry entries place beside)
  IsSound-beside inside runs =
      let later = with_module_entry entries place beside in
      let was = sound.groups.each number entry is in
      let grouped : IsGrouped beside = record { some = was.some; few = was.few; once = was.once; inside = inside; runs = runs } in
      let all = AreGrouped-entry entries place free beside sound.groups grouped (λ other another at block has has_too. sound.groups.same number other entry another is at block has has_too) in
      let back = λ (block : ℕ) (has : HasBlock later block).
      elim (HasBlock-either entries place free beside block has) as (λ _. HasBlock entries block) [
        | inl new ↦ record { number = number; entry = entry; is = is; has = new }
        | inr old ↦ old
      ] in
      IsSound-entries pool maps entries sound pool later sound.shape (length-set entries place (Some beside) ∙ sound.numbers) all
      (λ block. omega (arith, times-same entries later sound.groups all block (HasBlock-still entries place free beside block) (back block)))
      (λ block one none. omega arith)
      (λ other another at.
      inl (elim (new_or_old entries place free beside other another at) as (λ _. HasGroup entries another.group) [
        | inl same ↦ record { number = number; entry = entry; is = is; group_is = ap (λ (e : ModuleEntry). e.group) same }
        | inr old ↦ record { number = other; entry = another; is = old; group_is = refl }
      ]))

  with_module-is : with_module entries info entry.group entry.is_boot ≡ with_module_entry entries place beside
  with_module-is = ap (λ (found : Option ℕ). option_map_or (λ at. with_module_entry entries at beside) found entries) free

  pub represent-beside : (m : MemoryState) → RepresentMemory pool maps entries m → RepresentMemory pool maps (with_module_entry entries place beside) (entered_beside m number info)
  represent-beside m tied =
      let f = tied.number in
      let modules = renamed_modules f entries in
      let found : module_entry_at modules number ≡ Some (renamed_entry f entry) = entry_at-renamed f entries number ∙ ap (option_map (renamed_entry f)) is in
      record {
        number = f;
        objects = tied.objects;
        represent = tied.represent;
        is = ap (λ (s : MemoryState). entered_beside s number info) tied.is
            ∙ (λ i. record {
              blocks = length pool.counts;
              objects = tied.objects;
              maps = (memory_of f pool maps entries tied.objects).maps;
              modules = (ap (λ (o : Option ModuleEntry). option_map_or (λ e. with_module modules info e.group
                  e.is_boot) o modules) found ∙ with_module-renamed f entries info entry.group entry.is_boot ∙ ap
                  (renamed_modules f) with_module-is) i;
            });
      }

-- ---- a module with a new group

module _ (pool after : Blocks) (maps : List (Slots BlockId)) (entries : List (Option ModuleEntry))
    (sound : IsSoundMemory pool maps entries) (file : List ℕ) (ids : List BlockId) (gains : GainsBlocks pool ids
    (file_objects file) after) (place : ℕ) (free : free_number entries ≡ Some place) (info : ModuleInfo)
    (is_boot : Bool) where
  -- the new entry
  abbrev pub first_entry : ModuleEntry
  first_entry = new_entry info (numbers_of ids) is_boot

  many : length (numbers_of ids) ≡ length ids
  many = length-map ids (λ (id : BlockId). id.0)

  new_free : (k : ℕ) → k < length (numbers_of ids) → reference_count pool (get_or (numbers_of ids) k 0) ≡ 0
  new_free k within =
      let none : BlockId = record { 0 = 0 } in
      ap (reference_count pool) (get_or-map (λ (id : BlockId). id.0) ids k none 0 (omega (arith, many))) ∙ (gains.were_free k none (omega (arith, many))).1

  block_free : (block : ℕ) → Has (numbers_of ids) block → reference_count pool block ≡ 0
  block_free block has = let found = times-where (numbers_of ids) block has in ap (reference_count pool) (sym found.2) ∙ new_free found.0 found.1

  new_once : (one other : ℕ) → one < length (numbers_of ids) → other < length (numbers_of ids) → get_or (numbers_of ids) one 0 ≡ get_or (numbers_of ids) other 0 → one ≡ other
  new_once one other in_one in_other same =
      let none : BlockId = record { 0 = 0 } in
      let at_one = get_or-map (λ (id : BlockId). id.0) ids one none 0 (omega (arith, many)) in
      let at_other = get_or-map (λ (id : BlockId). id.0) ids other none 0 (omega (arith, many)) in
      let equal : get_or ids one none ≡ get_or ids other none = same_id (get_or ids one none) (get_or ids other none) (sym at_one ∙ same ∙ at_other) in
      elim (cases_order one other) [
        | inl it ↦ it
        | inr apart ↦
            elim apart [
              | inl below ↦ absurd (gains.different one other none below (omega (arith, many)) equal)
              | inr above ↦ absurd (gains.different other one none above (omega (arith, many)) (sym equal))
            ]
      ]

  module _ (some : 1 ≤ length ids) (few : length ids ≤ 7) (inside : info.at + info.size ≤ 8192 * length ids) (runs : info.entry < info.size) where
    grouped : IsGrouped (new_entry info (numbers_of ids) is_boot)
    grouped = record { some = omega (arith, many); few = omega (arith, many); once = new_once; inside = omega (arith, many); runs = runs }

    all_after : AreGrouped (with_module_entry entries place (new_entry info (numbers_of ids) is_boot))
    all_after =
        AreGrouped-entry entries place free first_entry sound.groups grouped
        (λ number entry is block has has_too. absurd (omega (
          arith,
          block_free block has,
          grouped_live pool maps
              entries sound block (record { number = number; entry = entry; is = is; has = has_too }),
        )))

    times-after : (block : ℕ)
        → times block (grouped_blocks (with_module_entry entries place (new_entry info (numbers_of ids) is_boot))) ≡
        times block (grouped_blocks entries) + times block (numbers_of ids)
    times-after block =
        let later_entries = with_module_entry entries place first_entry in
        elim (cases_eq (times block (numbers_of ids)) 0) [
          | inl none ↦
              omega (
                arith,
                times-same entries later_entries sound.groups all_after block (HasBlock-still entries place free first_entry block)
                    (λ has. elim (HasBlock-either entries place free first_entry block has) [ inl new ↦ absurd (omega arith) | inr old ↦ old ]),
              )
          | inr has ↦
              omega (
                arith,
                times-grouped later_entries all_after block (HasBlock-new entries place free first_entry block (omega arith)),
                times-ungrouped entries sound.groups block (λ old. absurd (omega (arith, block_free block (omega arith), grouped_live pool maps entries sound block old))),
                times-group first_entry grouped block,
              )
        ]

    pub IsSound-entered : IsPool after → IsSoundMemory after maps (with_module_entry entries place (new_entry info (numbers_of ids) is_boot))
    IsSound-entered shape =
        IsSound-entries pool maps entries sound after (with_module_entry entries place first_entry) shape (length-set entries place (Some first_entry) ∙ sound.numbers) all_after
        (λ block. omega (arith, gains.counts block, times-after block, times-numbers_of ids block))
        (λ block one none. omega (arith, count_of-old gains block (omega arith)))
        (λ number entry is.
        elim (new_or_old entries place free first_entry number entry is) as (λ _. HasGroup entries entry.group ⊎
        ((k : ℕ) → k < length entry.group → reference_count pool (get_or entry.group k 0) ≡ 0)) [
          | inl same ↦ inr (subst (λ (e : ModuleEntry). (k : ℕ) → k < length e.group → reference_count pool (get_or e.group k 0) ≡ 0) (sym same) new_free)
          | inr old ↦ inl (record { number = number; entry = entry; is = old; group_is = refl })
        ])

  -- the memory then
  abbrev pub with_entered : MemoryState → MemoryState
  with_entered m = record m { objects = m.objects ++ file_objects file; modules = with_module m.modules info (new_numbers m (file_blocks file)) is_boot }

  pub represent-entered : length ids ≡ file_blocks file → (m : MemoryState) → RepresentMemory pool maps entries m
      → RepresentMemory after maps (with_module_entry entries place (new_entry info (numbers_of ids) is_boot))
      (with_entered m)
  represent-entered size m tied =
      let f = tied.number in
      let objects = tied.objects in
      let next = later pool after maps entries sound f objects (file_objects file) ids gains in
      let group_is : range_with_len (length objects) (file_blocks file) ≡ map next (numbers_of ids) =
      ap (range_with_len (length objects)) (sym size) ∙ sym (later-new pool after maps entries sound f objects (file_objects file) ids gains) ∙ sym (map-map next (λ (id : BlockId). id.0) ids) in
      let entered_is : with_module entries info (numbers_of ids) is_boot ≡ with_module_entry entries place
      first_entry = ap (λ (found : Option ℕ). option_map_or (λ at. with_module_entry entries at first_entry) found
      entries) free in
      let modules_are : with_module (renamed_modules f entries) info (range_with_len (length objects) (file_blocks file)) is_boot ≡ renamed_modules next (with_module_entry entries place first_entry) =
      (λ i. with_module (sym (later-modules pool after maps entries sound f objects (file_objects file) ids gains) i) info (group_is i) is_boot)
      ∙ with_module-renamed next entries info (numbers_of ids) is_boot ∙ ap (renamed_modules next) entered_is in
      record {
        number = next;
        objects = objects ++ file_objects file;
        represent = StandFor-gains f pool after objects (file_objects file) ids tied.represent gains;
        is = ap with_entered tied.is
            ∙ (λ i. record {
              blocks = sym gains.as_many i;
              objects = objects ++ file_objects file;
              maps = sym (later-maps pool after maps entries sound f objects (file_objects file) ids gains) i;
              modules = modules_are i;
            });
      }

-- whether there are blocks enough
module _ (pool : Blocks) (maps : List (Slots BlockId)) (entries : List (Option ModuleEntry))
    (sound : IsSoundMemory pool maps entries) (file : List ℕ) (info : ModuleInfo) (is_boot : Bool) (m : MemoryState)
    (tied : RepresentMemory pool maps entries m) where
  free_is : free_blocks m ≡ free_block_count pool
  free_is = ap free_blocks tied.is ∙ free_blocks-tied pool maps entries sound tied.number tied.objects tied.represent

  pub entered-no_ram : free_block_count pool < file_blocks file → entered m file info is_boot ≡ Err NoRam
  entered-no_ram few = cond-true (wants_blocks m (file_blocks file)) (Err NoRam) _ (lt-ltb (free_blocks m) (file_blocks file) (omega (arith, free_is)))

  pub entered-ok : file_blocks file ≤ free_block_count pool → entered m file info is_boot ≡ Ok
      (record m {
        objects = m.objects ++ file_objects file;
        modules = with_module m.modules info
            (new_numbers m (file_blocks file)) is_boot;
      })
  entered-ok enough = cond-false (wants_blocks m (file_blocks file)) (Err NoRam) _ (le-ltb (free_blocks m) (file_blocks file) (omega (arith, free_is)))
