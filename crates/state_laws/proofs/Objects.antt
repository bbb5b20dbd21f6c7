-- Two memories that the same blocks represent.
use Rattle.std.proofs.Common.{◌≡◌, ℕ, ◌<◌, ◌==◌, true, Option, Some, None, option_map, inl, inr, List, [], ◌∷◌, ◌++◌, length, get_or, slice_get, map, flat_map, refl, sym, ap, ◌∙◌, subst, arith}
use Rattle.std.specs.Prelude.{if◌then◌else◌}
use Rattle.std.proofs.lemmas.List.{map-append}
use Rattle.std.proofs.lemmas.Bool.{cases_eq, cond-true, cond-false, eq-eqb, eqb-true, ne_eqb, or_cases, or_left, or_right, false≢true}
use Rattle.block_pool.specs.Blocks.{Blocks, IsLive}
use Rattle.proc_model.specs.declared.group.BlockId.{BlockId}
use Rattle.proc_model.specs.Memory.{MemoryState, mapped_objects, named_objects}
use Rattle.proc_model.specs.ModuleList.{ModuleEntry}
use Rattle.proc_model.specs.Slots.{Slots, blocks_in}
use Rattle.guest_memory.specs.Memory.{memory_of, RepresentMemory}
use Rattle.guest_memory.specs.References.{times, mapped_blocks, references}
use Rattle.guest_memory.specs.Renaming.{RepresentObjects, renamed_map, renamed_modules}
use Rattle.guest_memory.specs.Sound.{IsSoundMemory}
use Rattle.guest_memory.proofs.HeldGroups.{grouped_blocks}
use Rattle.guest_memory.proofs.Keeping.{names_live, group_live}
use Rattle.guest_memory.proofs.Lists.{map-map}
use Rattle.guest_memory.proofs.Living.{has_number}
use Rattle.guest_memory.proofs.Naming.{groups_are_live, grouped-renamed, renamed_maps-same, renamed_modules-same}
use Rattle.guest_memory.proofs.Times.{times-here, times-past}
use Rattle.state_laws.specs.Numbers.{Lives, renumbered_map, IsRenumbered}

-- ---- maps and groups whose names are changed twice

module _ (new number : ℕ → ℕ) where
  places-again : (places : List (Option BlockId)) → map (option_map new) (map (option_map (λ (id : BlockId). number id.0)) places) ≡ map (option_map (λ (id : BlockId). new (number id.0))) places
  places-again [] = refl
  places-again (None ∷ places) = ap (λ (rest : List (Option ℕ)). None ∷ rest) (places-again places)
  places-again (Some id ∷ places) = ap (λ (rest : List (Option ℕ)). Some (new (number id.0)) ∷ rest) (places-again places)

  maps-again : (maps : List (Slots BlockId)) → map (renumbered_map new) (map (renamed_map number) maps) ≡ map (renamed_map (λ block. new (number block))) maps
  maps-again [] = refl
  maps-again (first ∷ maps) =
      λ i. record { places = places-again first.places i; low = first.low; groups = first.groups } ∷ maps-again maps i

  modules-again : (entries : List (Option ModuleEntry)) → renamed_modules new (renamed_modules number entries) ≡ renamed_modules (λ block. new (number block)) entries
  modules-again [] = refl
  modules-again (None ∷ entries) = ap (λ (rest : List (Option ModuleEntry)). None ∷ rest) (modules-again entries)
  modules-again (Some entry ∷ entries) =
      λ i. Some (record entry { group = map-map new number entry.group i }) ∷ modules-again entries i

-- ---- the objects that a list of blocks represents

module _ (number : ℕ → ℕ) where
  -- the object of a block that is named is
  pub has-object : (names : List ℕ) (block : ℕ) → 0 < times block names → has_number (map number names) (number block) ≡ true
  has-object [] block has = absurd (omega arith)
  has-object (first ∷ names) block has =
      elim (cases_eq first block) [
        | inl same ↦ or_left (number first == number block) (has_number (map number names) (number block)) (eq-eqb (number first) (number block) (ap number same))
        | inr differ ↦
            or_right (number first == number block) (has_number (map number names) (number block))
            (has-object names block (omega (arith, times-past block first names differ)))
      ]

  -- a block of an object that is named
  pub block-of : (names : List ℕ) (object : ℕ) → has_number (map number names) object ≡ true → (block : ℕ) × (0 < times block names) × (number block ≡ object)
  block-of [] object has = absurd (false≢true has)
  block-of (first ∷ names) object has =
      elim (or_cases (number first == object) (has_number (map number names) object) has) [
        | inl here ↦ (first, omega (arith, times-here first first names refl), eqb-true (number first) object here)
        | inr later ↦
            let rest = block-of names object later in
            elim (cases_eq first rest.0) [
              | inl same ↦ (rest.0, omega (arith, times-here rest.0 first names same), rest.2)
              | inr differ ↦ (rest.0, omega (arith, rest.1, times-past rest.0 first names differ), rest.2)
            ]
      ]

  -- the first of these blocks that has an object's number
  abbrev pub block_with : List ℕ → ℕ → ℕ
  block_with [] object = 0
  block_with (block ∷ names) object = if number block == object then block else block_with names object

  -- where different blocks have different numbers, that is the block
  pub block_with-is : (names : List ℕ) (block : ℕ) → ((other : ℕ) → 0 < times other names → number other ≡ number
      block → other ≡ block) → 0 < times block names → block_with names (number block) ≡ block
  block_with-is [] block apart has = absurd (omega arith)
  block_with-is (first ∷ names) block apart has =
      elim (cases_eq (number first) (number block)) [
        | inl same ↦
            cond-true {A = ℕ} (number first == number block) first (block_with names (number block)) (eq-eqb (number first) (number block) same)
            ∙ apart first (omega (arith, times-here first first names refl)) same
        | inr differ ↦
            cond-false {A = ℕ} (number first == number block) first (block_with names (number block)) (ne_eqb (number first) (number block) differ)
            ∙ block_with-is names block (λ other has_it same. apart other (more other has_it) same) (omega (arith, times-past block first names (λ same. differ (ap number same))))
      ]
    where
      more : (other : ℕ) → 0 < times other names → 0 < times other (first ∷ names)
      more other has_it =
          elim (cases_eq first other) [
            | inl same ↦ omega (arith, times-here other first names same)
            | inr differ ↦ omega (arith, times-past other first names differ)
          ]

-- ---- the objects that a memory names

places-named : (number : ℕ → ℕ) (places : List (Option BlockId)) → blocks_in (map (option_map (λ (id : BlockId). number id.0)) places) ≡ map number (map (λ (id : BlockId). id.0) (blocks_in places))
places-named number [] = refl
places-named number (None ∷ places) = places-named number places
places-named number (Some id ∷ places) = ap (λ (rest : List ℕ). number id.0 ∷ rest) (places-named number places)

maps-named : (number : ℕ → ℕ) (maps : List (Slots BlockId)) → flat_map mapped_objects (map (renamed_map number) maps) ≡ map number (flat_map mapped_blocks maps)
maps-named number [] = refl
maps-named number (first ∷ maps) =
    (λ i. places-named number first.places i ++ maps-named number maps i) ∙ sym (map-append number (mapped_blocks first) (flat_map mapped_blocks maps))

module _ (pool : Blocks) (maps : List (Slots BlockId)) (entries : List (Option ModuleEntry)) (sound : IsSoundMemory pool maps entries) where
  abbrev named : List ℕ
  named = references maps entries

  live : (block : ℕ) → 0 < times block named → IsLive pool block
  live block has = omega (arith, sound.counted block)

  is_named : (block : ℕ) → IsLive pool block → 0 < times block named
  is_named block lives = omega (arith, sound.counted block)

  -- the memory of these objects, by these numbers
  module _ (number : ℕ → ℕ) (objects : List (List ℕ)) (represent : RepresentObjects number pool objects) where
    abbrev here : MemoryState
    here = memory_of number pool maps entries objects

    names : named_objects here ≡ map number named
    names =
        (λ i. maps-named number maps i ++ grouped-renamed number (IsLive pool) represent.apart entries (groups_are_live pool maps entries sound number objects represent) i)
        ∙ sym (map-append number (flat_map mapped_blocks maps) (grouped_blocks entries))

    -- the object of a live block lives
    pub lives : (block : ℕ) → IsLive pool block → Lives here (number block)
    lives block is = ap (λ (list : List ℕ). has_number list (number block)) names ∙ has-object number named block (is_named block is)

    -- an object that lives is that of a live block
    pub lives-of : (object : ℕ) → Lives here object → (block : ℕ) × IsLive pool block × (number block ≡ object)
    lives-of object is =
        let found = block-of number named object (sym (ap (λ (list : List ℕ). has_number list object) names) ∙ is) in
        (found.0, live found.0 found.1, found.2)

    abbrev pub block_for : ℕ → ℕ
    block_for object = block_with number named object

    pub block_for-is : (block : ℕ) → IsLive pool block → block_for (number block) ≡ block
    block_for-is block is =
        block_with-is number named block (λ other has same. represent.apart other block (live other has) is same) (is_named block is)

  -- two memories of the same blocks
  module _ (one other : ℕ → ℕ) (objects others : List (List ℕ)) (represent : RepresentObjects one pool objects) (represent_too : RepresentObjects other pool others) where
    abbrev first : MemoryState
    first = memory_of one pool maps entries objects

    abbrev second : MemoryState
    second = memory_of other pool maps entries others

    abbrev new : ℕ → ℕ
    new object = other (block_for one objects represent object)

    abbrev old : ℕ → ℕ
    old object = one (block_for other others represent_too object)

    new-of : (block : ℕ) → IsLive pool block → new (one block) ≡ other block
    new-of block is = ap other (block_for-is one objects represent block is)

    old-of : (block : ℕ) → IsLive pool block → old (other block) ≡ one block
    old-of block is = ap one (block_for-is other others represent_too block is)

    there : (object : ℕ) → Lives first object → Lives second (new object) × (old (new object) ≡ object)
    there object is =
        let found = lives-of one objects represent object is in
        let number_is : new object ≡ other found.0 = ap new (sym found.2) ∙ new-of found.0 found.1 in
        (subst (Lives second) (sym number_is) (lives other others represent_too found.0 found.1), ap old number_is ∙ old-of found.0 found.1 ∙ found.2)

    back : (object : ℕ) → Lives second object → Lives first (old object) × (new (old object) ≡ object)
    back object is =
        let found = lives-of other others represent_too object is in
        let number_is : old object ≡ one found.0 = ap old (sym found.2) ∙ old-of found.0 found.1 in
        (subst (Lives first) (sym number_is) (lives one objects represent found.0 found.1), ap new number_is ∙ new-of found.0 found.1 ∙ found.2)

    bytes : (object : ℕ) → Lives first object → slice_get others (new object) ≡ slice_get objects object
    bytes object is =
        let found = lives-of one objects represent object is in
        ap (slice_get others) (ap new (sym found.2) ∙ new-of found.0 found.1)
        ∙ represent_too.same_bytes found.0 found.1
        ∙ sym (represent.same_bytes found.0 found.1)
        ∙ ap (slice_get objects) found.2

    same_maps : map (renamed_map other) maps ≡ map (renumbered_map new) (map (renamed_map one) maps)
    same_maps =
        sym (maps-again new one maps ∙ renamed_maps-same (λ block. new (one block)) other maps (λ process slot id is. new-of id.0 (names_live pool maps entries sound process slot id is)))

    same_modules : renamed_modules other entries ≡ renamed_modules new (renamed_modules one entries)
    same_modules =
        sym (modules-again new one entries
        ∙ renamed_modules-same (λ block. new (one block)) other entries (λ number entry is k within. new-of (get_or entry.group k 0) (group_live pool maps entries sound number entry is k within)))

    pub differ : IsRenumbered first second
    differ = record {
      new = new;
      old = old;
      there = there;
      back = back;
      same_bytes = bytes;
      is = λ i. record { blocks = length pool.counts; objects = others; maps = same_maps i; modules = same_modules i };
    }

  -- two memories that these blocks represent
  pub memories-differ : (m n : MemoryState) → RepresentMemory pool maps entries m → RepresentMemory pool maps entries n → IsRenumbered m n
  memories-differ m n tied tied_too =
      subst (λ (m : MemoryState). IsRenumbered m n) (sym tied.is)
      (subst (λ (n : MemoryState). IsRenumbered (memory_of tied.number pool maps entries tied.objects) n) (sym tied_too.is)
      (differ tied.number tied_too.number tied.objects tied_too.objects tied.represent tied_too.represent))
