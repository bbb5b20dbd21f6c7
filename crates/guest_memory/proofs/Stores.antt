-- What a process stores is stored in the objects that its blocks represent.
use Rattle.std.proofs.Common.{◌≡◌, ◌≢◌, ℕ, zero, suc, ◌+◌, ◌*◌, ◌/◌, ◌%◌, ◌<◌, true, Option, Some, None, List, [], ◌∷◌, length, get_or, map, slice_get, refl, sym, ap, ◌∙◌, subst, inl, inr, ◌⊎◌, arith}
use Rattle.std.specs.Prelude.{option_map, slice_set}
use Rattle.std.proofs.Math.Path.{fun_ext}
use Rattle.std.proofs.lemmas.Grind.{same_number_lists}
use Rattle.std.proofs.lemmas.List.{length-set}
use Rattle.std.proofs.lemmas.Option.{same_Some, none-some, slice_get-get_or, slice_get_within}
use Rattle.std.proofs.lemmas.Bool.{cases_eq, lt-ltb}
use Rattle.cpu_model.specs.Step.{all_named, write_cells}
use Rattle.block_pool.specs.Blocks.{Blocks, IsPool, IsLive, is_live, reference_count, block_bytes}
use Rattle.proc_model.specs.declared.group.BlockId.{BlockId}
use Rattle.proc_model.specs.Slots.{Slots, block_at}
use Rattle.proc_model.specs.Slots.{IsMap as IsSlotMap}
use Rattle.block_map.specs.TakenBlocks.{NamesLiveBlocks}
use Rattle.block_map.specs.Window.{SameBeyond}
use Rattle.block_map.specs.Window.{map_cells as block_cells}
use Rattle.block_map.proofs.Places.{at, same_id}
use Rattle.block_map.proofs.Windows.{length-block_bytes}
use Rattle.proc_model.specs.Objects.{slot_of, object_cells, with_object_byte, with_cell, with_writes}
use Rattle.guest_memory.proofs.Objects.{NamesObjects, slice_get-set_same, slice_get-set_other, with_writes-tied}
use Rattle.guest_memory.specs.Renaming.{RepresentObjects}

-- ---- what writes do to one object

-- an object that no slot names
with_cell-other : (objects : List (List ℕ)) (places : List (Option ℕ)) (address byte other : ℕ)
    → ((slot : ℕ) → slot_of places slot ≡ Some other → ⊥) → slice_get (with_cell objects places address byte) other ≡
    slice_get objects other
with_cell-other objects places address byte other unnamed = by_slot (slot_of places (address / 8192)) refl
  where
    by_object : (number : ℕ) → other ≢ number → (object : Option (List ℕ)) → slice_get objects number ≡ object
        → slice_get (with_object_byte objects (address % 8192) byte (Some number)) other ≡ slice_get objects other
    by_object number apart None is = rw is refl
    by_object number apart (Some object) is = rw is (slice_get-set_other objects number other (slice_set object (address % 8192) byte) apart)

    by_slot : (slot : Option ℕ) → slot_of places (address / 8192) ≡ slot → slice_get (with_object_byte objects (address % 8192) byte slot) other ≡ slice_get objects other
    by_slot None is = refl
    by_slot (Some number) is = by_object number (λ same. unnamed (address / 8192) (is ∙ ap Some (sym same))) (slice_get objects number) refl

with_writes-other : (objects : List (List ℕ)) (places : List (Option ℕ)) (writes : List (ℕ × ℕ)) (other : ℕ)
    → ((slot : ℕ) → slot_of places slot ≡ Some other → ⊥) → slice_get (with_writes objects places writes) other ≡
    slice_get objects other
with_writes-other objects places [] other unnamed = refl
with_writes-other objects places (write ∷ writes) other unnamed =
    with_writes-other (with_cell objects places write.0 write.1) places writes other unnamed ∙ with_cell-other objects places write.0 write.1 other unnamed

-- an object of so many bytes is there
IsObject : List (List ℕ) → ℕ → ℕ → Type 0
IsObject objects number size = (object : List ℕ) × (slice_get objects number ≡ Some object) × (length object ≡ size)

-- it has as many bytes after a write
IsObject-with_cell : (objects : List (List ℕ)) (places : List (Option ℕ)) (address byte this size : ℕ) → IsObject objects this size → IsObject (with_cell objects places address byte) this size
unfolding IsObject
IsObject-with_cell objects places address byte this size (bytes, there, long) = by_slot (slot_of places (address / 8192))
  where
    by_place : (number : ℕ) (object : List ℕ) → slice_get objects number ≡ Some object → (this ≡ number) ⊎
        (this ≢ number) → IsObject (slice_set objects number (slice_set object (address % 8192) byte)) this size
    by_place number object is (inl same) =
        let now = slice_set object (address % 8192) byte in
        let it_is : bytes ≡ object = same_Some bytes object (sym there ∙ ap (λ n. slice_get objects n) same ∙ is) in
        (now, rw same (slice_get-set_same objects number now (slice_get_within objects number object is)), length-set object (address % 8192) byte ∙ ap length (sym it_is) ∙ long)
    by_place number object is (inr apart) = (bytes, slice_get-set_other objects number this (slice_set object (address % 8192) byte) apart ∙ there, long)

    by_object : (number : ℕ) (object : Option (List ℕ)) → slice_get objects number ≡ object → IsObject (with_object_byte objects (address % 8192) byte (Some number)) this size
    by_object number None is = rw is (bytes, there, long)
    by_object number (Some object) is = rw is (by_place number object is (cases_eq this number))

    by_slot : (slot : Option ℕ) → IsObject (with_object_byte objects (address % 8192) byte slot) this size
    by_slot None = (bytes, there, long)
    by_slot (Some number) = by_object number (slice_get objects number) refl

IsObject-with_writes : (objects : List (List ℕ)) (places : List (Option ℕ)) (writes : List (ℕ × ℕ)) (this size : ℕ)
    → IsObject objects this size → IsObject (with_writes objects places writes) this size
IsObject-with_writes objects places [] this size is = is
IsObject-with_writes objects places (write ∷ writes) this size is =
    IsObject-with_writes (with_cell objects places write.0 write.1) places writes this size (IsObject-with_cell objects places write.0 write.1 this size is)

-- the byte of a slot's object at an offset
cell_of_slot : (objects : List (List ℕ)) (places : List (Option ℕ)) (slot offset number : ℕ) (object : List ℕ)
    → offset < 8192 → slot_of places slot ≡ Some number → slice_get objects number ≡ Some object
    → object_cells objects places (8192 * slot + offset) ≡ slice_get object offset
cell_of_slot objects places slot offset number object within is_slot is_object =
    let in_slot : (8192 * slot + offset) / 8192 ≡ slot = omega arith in
    let at_offset : (8192 * slot + offset) % 8192 ≡ offset = omega arith in
    rw (in_slot, at_offset, is_slot, is_object) refl

-- ---- places of blocks as places of objects

-- the places of the objects that blocks represent
abbrev pub renamed : (ℕ → ℕ) → List (Option BlockId) → List (Option ℕ)
renamed number places = map (option_map (λ (id : BlockId). number id.0)) places

slot_of-renamed : (number : ℕ → ℕ) (places : List (Option BlockId)) (slot : ℕ) → slot_of (renamed number places) slot ≡ option_map (λ (id : BlockId). number id.0) (at places slot)
slot_of-renamed number [] slot = refl
slot_of-renamed number (place ∷ places) zero = refl
slot_of-renamed number (place ∷ places) (suc slot) = slot_of-renamed number places slot

-- a slot names the block
abbrev NamesBlock : List (Option BlockId) → ℕ → Type 0
NamesBlock places block = (slot : ℕ) × (id : BlockId) × (at places slot ≡ Some id) × (id.0 ≡ block)

-- a block is named, or not
names_or_not : (places : List (Option BlockId)) (block : ℕ) → NamesBlock places block ⊎ (NamesBlock places block → ⊥)
names_or_not [] block = inr (λ named. none-some named.1 named.2)
names_or_not (None ∷ places) block = by_rest (names_or_not places block)
  where
    none_here : (NamesBlock places block → ⊥) → (slot : ℕ) (id : BlockId) → at (None ∷ places) slot ≡ Some id → id.0 ≡ block → ⊥
    none_here none zero id is same = none-some id is
    none_here none (suc slot) id is same = none (slot, id, is, same)

    by_rest : NamesBlock places block ⊎ (NamesBlock places block → ⊥) → NamesBlock (None ∷ places) block ⊎ (NamesBlock (None ∷ places) block → ⊥)
    by_rest (inl (slot, id, is, same)) = inl (suc slot, id, is, same)
    by_rest (inr none) = inr (λ named. none_here none named.0 named.1 named.2 named.3)
names_or_not (Some first ∷ places) block = by_first (cases_eq first.0 block) (names_or_not places block)
  where
    none_here : first.0 ≢ block → (NamesBlock places block → ⊥) → (slot : ℕ) (id : BlockId) → at (Some first ∷ places) slot ≡ Some id → id.0 ≡ block → ⊥
    none_here apart none zero id is same = apart (ap (λ (b : BlockId). b.0) (same_Some first id is) ∙ same)
    none_here apart none (suc slot) id is same = none (slot, id, is, same)

    by_first : (first.0 ≡ block) ⊎ (first.0 ≢ block) → NamesBlock places block ⊎ (NamesBlock places block → ⊥) → NamesBlock (Some first ∷ places) block ⊎ (NamesBlock (Some first ∷ places) block → ⊥)
    by_first (inl same) rest = inl (0, first, refl, same)
    by_first (inr apart) (inl (slot, id, is, same)) = inl (suc slot, id, is, same)
    by_first (inr apart) (inr none) = inr (λ named. none_here apart none named.0 named.1 named.2 named.3)

module _ (number : ℕ → ℕ) (slots : Slots BlockId) (pool : Blocks) (objects : List (List ℕ)) (stand_for : RepresentObjects number pool objects) (names_live : NamesLiveBlocks slots pool) where
  abbrev places : List (Option ℕ)
  places = renamed number slots.places

  -- the block that a slot's object is stood for by
  record Names (slot object : ℕ) : Type 0 where
    pub id : BlockId
    pub place : block_at slots slot ≡ Some id
    pub is : number id.0 ≡ object

  names : (slot object : ℕ) → slot_of places slot ≡ Some object → Names slot object
  names slot object named = by_place (block_at slots slot) refl
    where
      by_place : (place : Option BlockId) → block_at slots slot ≡ place → Names slot object
      by_place None is = absurd (none-some object (sym (slot_of-renamed number slots.places slot ∙ ap (option_map (λ (id : BlockId). number id.0)) is) ∙ named))
      by_place (Some id) is = record {
        id = id;
        place = is;
        is = same_Some (number id.0) object (sym (slot_of-renamed number slots.places slot ∙ ap (option_map (λ (id : BlockId). number id.0)) is) ∙ named);
      }

  slot_of-place : (slot : ℕ) (id : BlockId) → block_at slots slot ≡ Some id → slot_of places slot ≡ Some (number id.0)
  slot_of-place slot id is = slot_of-renamed number slots.places slot ∙ ap (option_map (λ (id : BlockId). number id.0)) is

  -- the process sees the same bytes
  pub cells_of-renamed : object_cells objects places ≡ block_cells slots pool
  cells_of-renamed = fun_ext (λ address. by_place address (block_at slots (address / 8192)) refl)
    where
      by_place : (address : ℕ) (place : Option BlockId) → block_at slots (address / 8192) ≡ place → object_cells objects places address ≡ block_cells slots pool address
      by_place address None is = rw (slot_of-renamed number slots.places (address / 8192), is) refl
      by_place address (Some id) is =
          let alive = names_live (address / 8192) id is in
          let live : is_live pool id.0 ≡ true = lt-ltb 0 (reference_count pool id.0) alive in
          rw (slot_of-renamed number slots.places (address / 8192), is, stand_for.same_bytes id.0 alive, live) refl

  -- the objects make a map where the blocks do
  pub IsMap-renamed : IsSlotMap slots → NamesObjects objects places
  IsMap-renamed map = record {
    there = λ slot object named.
        let here = names slot object named in
        slice_get_within objects object (block_bytes pool here.id.0) (ap (λ n. slice_get objects n) (sym here.is) ∙ stand_for.same_bytes here.id.0 (names_live slot here.id here.place));
    apart = λ slot other object named again.
        let here = names slot object named in
        let there = names other object again in
        let same : here.id ≡ there.id = same_id here.id there.id (stand_for.apart here.id.0 there.id.0
        (names_live slot here.id here.place) (names_live other there.id there.place) (here.is ∙ sym there.is)) in
        map.once slot other there.id (here.place ∙ ap Some same) there.place;
  }

  -- after the process has stored, blocks represent the objects with the same writes
  module _ (map : IsSlotMap slots) (shape : IsPool pool) (after : Blocks) (beyond : SameBeyond slots pool after)
      (writes : List (ℕ × ℕ)) (named : all_named (object_cells objects places) writes ≡ true)
      (stored : block_cells slots after ≡ write_cells (block_cells slots pool) writes) where
    abbrev objects_after : List (List ℕ)
    objects_after = with_writes objects places writes

    live_before : (block : ℕ) → IsLive after block → IsLive pool block
    live_before block live = subst (λ counts. 0 < get_or counts block 0) beyond.counts live

    live_after : (block : ℕ) → IsLive pool block → IsLive after block
    live_after block live = subst (λ counts. 0 < get_or counts block 0) (sym beyond.counts) live

    same_cells : object_cells objects_after places ≡ block_cells slots after
    same_cells = (with_writes-tied objects places writes (IsMap-renamed map) named).1 ∙ ap (λ cells. write_cells cells writes) cells_of-renamed ∙ sym stored

    block_cell : (slot offset : ℕ) (id : BlockId) → offset < 8192 → block_at slots slot ≡ Some id → IsLive after id.0
        → block_cells slots after (8192 * slot + offset) ≡ slice_get (block_bytes after id.0) offset
    block_cell slot offset id within is alive =
        let in_slot : (8192 * slot + offset) / 8192 ≡ slot = omega arith in
        let at_offset : (8192 * slot + offset) % 8192 ≡ offset = omega arith in
        let live : is_live after id.0 ≡ true = lt-ltb 0 (reference_count after id.0) alive in
        rw (in_slot, at_offset, is, live) refl

    -- a block that the map names is told by the cells
    same_named : (slot : ℕ) (id : BlockId) → block_at slots slot ≡ Some id → slice_get objects_after (number id.0) ≡ Some (block_bytes after id.0)
    unfolding IsObject
    same_named slot id is =
        let was = names_live slot id is in
        let now = live_after id.0 was in
        let bytes = block_bytes after id.0 in
        let long : length bytes ≡ 8192 = length-block_bytes after id.0 (beyond.shape shape) now in
        let object = IsObject-with_writes objects places writes (number id.0) 8192 (block_bytes pool id.0, stand_for.same_bytes id.0 was, length-block_bytes pool id.0 shape was) in
        object.1 ∙ ap Some (same_number_lists object.0 bytes (object.2 ∙ sym long) (λ k within.
        let small : k < 8192 = omega (arith, object.2) in
        let cell = sym (cell_of_slot objects_after places slot k (number id.0) object.0 small
        (slot_of-place slot id is) object.1) ∙ ap (λ cells. cells (8192 * slot + k)) same_cells ∙ block_cell slot
        k id small is now in
        same_Some (get_or object.0 k 0) (get_or bytes k 0) (sym (slice_get-get_or object.0 k 0 within) ∙ cell ∙ slice_get-get_or bytes k 0 (omega arith))))

    -- one that it does not name is as before
    same_unnamed : (block : ℕ) → IsLive pool block → (NamesBlock slots.places block → ⊥) → slice_get objects_after (number block) ≡ Some (block_bytes after block)
    same_unnamed block live unnamed =
        let id : BlockId = record { 0 = block } in
        let alone = λ (slot : ℕ) (at_slot : slot_of places slot ≡ Some (number block)).
        let here = names slot (number block) at_slot in
        unnamed (slot, here.id, here.place, stand_for.apart here.id.0 block (names_live slot here.id here.place) live here.is) in
        with_writes-other objects places writes (number block) alone ∙ stand_for.same_bytes block live ∙ ap Some (sym (beyond.bytes id (λ at_slot. unnamed (at_slot.0, id, at_slot.1, refl))))

    pub StandFor-stored : RepresentObjects number after objects_after
    StandFor-stored = record {
      same_bytes = λ block live. by_name block (live_before block live) (names_or_not slots.places block);
      apart = λ one other live live_too. stand_for.apart one other (live_before one live) (live_before other live_too);
    }
      where
        by_name : (block : ℕ) → IsLive pool block → NamesBlock slots.places block ⊎ (NamesBlock slots.places block → ⊥) → slice_get objects_after (number block) ≡ Some (block_bytes after block)
        by_name block live (inr unnamed) = same_unnamed block live unnamed
        by_name block live (inl (slot, id, is, same)) = rw (← same) (same_named slot id is)
