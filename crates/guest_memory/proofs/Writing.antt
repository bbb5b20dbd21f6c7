-- What a process writes through its map.
use Rattle.std.proofs.Common.{◌≡◌, ◌≢◌, ℕ, zero, suc, ◌+◌, ◌-◌, ◌<◌, ◌≤◌, ◌==◌, ◌&&◌, nat_le, nat_lt, Bool, true, false, Option, Some, None, is_some, List, [], ◌∷◌, length, get_or, map, slice_get, ◌⊎◌, inl, inr, refl, sym, ap, ◌∙◌, subst, arith}
use Rattle.std.proofs.Math.Path.{fun_ext}
use Rattle.std.proofs.lemmas.Bool.{cases_eq, cases_lt, cond-true, cond-false, eq-eqb, ne_eqb, le-leb, lt-leb, lt-ltb, le-ltb, and_from, and_left, and_right}
use Rattle.os9_base.specs.Cells.{put_cell, store_cells, is_in_range, FitsIn}
use Rattle.cpu_model.specs.Step.{all_named, write_cells}
use Rattle.block_pool.specs.Blocks.{Blocks, IsPool, reference_count}
use Rattle.block_map.specs.Window.{map_cells, SameBeyond}
use Rattle.proc_model.specs.declared.group.BlockId.{BlockId}
use Rattle.proc_model.specs.Memory.{MemoryState, map_at}
use Rattle.proc_model.specs.MemoryChanges.{writes_from, written}
use Rattle.proc_model.specs.ModuleList.{ModuleEntry}
use Rattle.proc_model.specs.Objects.{object_cells, with_writes}
use Rattle.proc_model.specs.Slots.{Slots}
use Rattle.guest_memory.specs.Memory.{memory_of, RepresentMemory}
use Rattle.guest_memory.specs.Renaming.{renamed_map}
use Rattle.guest_memory.specs.Sound.{IsSoundMap, IsSoundMemory}
use Rattle.guest_memory.proofs.Keeping.{map_of, held_at, names_live}
use Rattle.guest_memory.proofs.Naming.{map_at-memory_of}
use Rattle.guest_memory.proofs.Stores.{cells_of-renamed, StandFor-stored}

-- ---- bytes that are stored, as writes

first_then : (cells : ℕ → Option ℕ) (at byte : ℕ) (bytes : List ℕ) → store_cells (put_cell cells at byte) (at + 1) bytes ≡ store_cells cells at (byte ∷ bytes)
first_then cells at byte bytes =
    fun_ext (λ address.
    elim (cases_lt address at) [
      | inl below ↦
          cond-false (is_in_range (at + 1) (length bytes) address) (slice_get bytes (address - (at + 1)))
          (put_cell cells at byte address) (and_left (nat_le (at + 1) address)
          (nat_lt address (at + 1 + length bytes)) (lt-leb (at + 1) address (omega arith)))
          ∙ cond-false (address == at) (Some byte) (cells address) (ne_eqb address at (λ same. absurd (omega arith)))
          ∙ sym (cond-false (is_in_range at (length (byte ∷ bytes)) address) (slice_get (byte ∷ bytes) (address - at))
          (cells address) (and_left (nat_le at address) (nat_lt address (at + length (byte ∷ bytes)))
          (lt-leb at address below)))
      | inr low ↦
          elim (cases_eq address at) [
            | inl same ↦
                let none : address - at ≡ 0 = omega arith in
                cond-false (is_in_range (at + 1) (length bytes) address) (slice_get bytes (address - (at + 1)))
                (put_cell cells at byte address) (and_left (nat_le (at + 1) address)
                (nat_lt address (at + 1 + length bytes)) (lt-leb (at + 1) address (omega arith)))
                ∙ cond-true (address == at) (Some byte) (cells address) (eq-eqb address at same)
                ∙ sym (ap (slice_get (byte ∷ bytes)) none)
                ∙ sym (cond-true (is_in_range at (length (byte ∷ bytes)) address)
                (slice_get (byte ∷ bytes) (address - at)) (cells address) (and_from (nat_le at address)
                (nat_lt address (at + length (byte ∷ bytes))) (le-leb at address low)
                (lt-ltb address (at + length (byte ∷ bytes)) (omega arith))))
            | inr apart ↦
                elim (cases_lt address (at + length (byte ∷ bytes))) [
                  | inl inside ↦
                      let next : address - at ≡ suc (address - (at + 1)) = omega arith in
                      cond-true (is_in_range (at + 1) (length bytes) address) (slice_get bytes (address - (at + 1)))
                      (put_cell cells at byte address) (and_from (nat_le (at + 1) address)
                      (nat_lt address (at + 1 + length bytes)) (le-leb (at + 1) address (omega arith))
                      (lt-ltb address (at + 1 + length bytes) (omega arith)))
                      ∙ sym (ap (slice_get (byte ∷ bytes)) next)
                      ∙ sym (cond-true (is_in_range at (length (byte ∷ bytes)) address)
                      (slice_get (byte ∷ bytes) (address - at)) (cells address) (and_from (nat_le at address)
                      (nat_lt address (at + length (byte ∷ bytes))) (le-leb at address low)
                      (lt-ltb address (at + length (byte ∷ bytes)) inside)))
                  | inr past ↦
                      cond-false (is_in_range (at + 1) (length bytes) address) (slice_get bytes (address - (at + 1)))
                      (put_cell cells at byte address) (and_right (nat_le (at + 1) address)
                      (nat_lt address (at + 1 + length bytes)) (le-ltb address (at + 1 + length bytes)
                      (omega arith)))
                      ∙ cond-false (address == at) (Some byte) (cells address) (ne_eqb address at apart)
                      ∙ sym (cond-false (is_in_range at (length (byte ∷ bytes)) address)
                      (slice_get (byte ∷ bytes) (address - at)) (cells address) (and_right (nat_le at address)
                      (nat_lt address (at + length (byte ∷ bytes))) (le-ltb address (at + length (byte ∷ bytes))
                      past)))
                ]
          ]
    ])

none_stored : (cells : ℕ → Option ℕ) (at : ℕ) → cells ≡ store_cells cells at []
none_stored cells at =
    fun_ext (λ address. sym (cond-false (is_in_range at 0 address) (slice_get [] (address - at)) (cells address) (elim (cases_lt address at) [
      | inl below ↦ and_left (nat_le at address) (nat_lt address (at + 0)) (lt-leb at address below)
      | inr past ↦ and_right (nat_le at address) (nat_lt address (at + 0)) (le-ltb address (at + 0) (omega arith))
    ])))

pub write-from : (cells : ℕ → Option ℕ) (at : ℕ) (bytes : List ℕ) → write_cells cells (writes_from at bytes) ≡ store_cells cells at bytes
write-from cells at [] = none_stored cells at
write-from cells at (byte ∷ bytes) = write-from (put_cell cells at byte) (at + 1) bytes ∙ first_then cells at byte bytes

-- where the range fits, each write is to a named cell
pub named-from : (cells : ℕ → Option ℕ) (at : ℕ) (bytes : List ℕ) → ((k : ℕ) → k < length bytes → is_some (cells (at + k)) ≡ true) → all_named cells (writes_from at bytes) ≡ true
named-from cells at [] named = refl
named-from cells at (byte ∷ bytes) named =
    and_from (is_some (cells at)) (all_named cells (writes_from (at + 1) bytes)) (ap (λ (address : ℕ). is_some (cells address)) (omega arith) ∙ named 0 (omega arith))
    (named-from cells (at + 1) bytes (λ k within. ap (λ (address : ℕ). is_some (cells address)) (omega arith) ∙ named (suc k) (omega arith)))

-- ---- the whole memory

-- memory whose counts stay is sound still
pub IsSound-written : (pool after : Blocks) (maps : List (Slots BlockId)) (entries : List (Option ModuleEntry))
    → IsSoundMemory pool maps entries → IsPool after → after.counts ≡ pool.counts → IsSoundMemory after maps entries
IsSound-written pool after maps entries sound shape same = record {
  shape = shape;
  processes = sound.processes;
  numbers = sound.numbers;
  counted = λ block. ap (λ (counts : List ℕ). get_or counts block 0) same ∙ sound.counted block;
  held = λ k d within.
      let was : IsSoundMap pool entries (get_or maps k d) = sound.held k d within in
      record {
        map = was.map;
        full = was.full;
        alone = λ slot id low is. ap (λ (counts : List ℕ). get_or counts id.0 0) same ∙ was.alone slot id low is;
        grouped = was.grouped;
      };
  groups = sound.groups;
}

module _ (pool after : Blocks) (maps : List (Slots BlockId)) (entries : List (Option ModuleEntry))
    (sound : IsSoundMemory pool maps entries) (process : ℕ) (within : process < 33)
    (beyond : SameBeyond (map_of pool maps entries sound process) pool after) where
  abbrev slots : Slots BlockId
  slots = map_of pool maps entries sound process

  -- the process sees the same cells in the machine
  pub cells-tied : (m : MemoryState) (tied : RepresentMemory pool maps entries m) → object_cells m.objects (map_at m process).places ≡ map_cells slots pool
  cells-tied m tied =
      ap (λ (s : MemoryState). object_cells s.objects (map_at s process).places) tied.is
      ∙ ap (λ (s : Slots ℕ). object_cells tied.objects s.places) (map_at-memory_of tied.number pool maps entries tied.objects process (omega (arith, sound.processes)))
      ∙ cells_of-renamed tied.number slots pool tied.objects tied.represent (names_live pool maps entries sound process)

  pub represent-written : (writes : List (ℕ × ℕ)) → all_named (map_cells slots pool) writes ≡ true
      → map_cells slots after ≡ write_cells (map_cells slots pool) writes → (m : MemoryState) → RepresentMemory pool
      maps entries m → RepresentMemory after maps entries (written m process writes)
  represent-written writes named stored m tied =
      let live = names_live pool maps entries sound process in
      let held = held_at pool maps entries sound process within in
      let places = (renamed_map tied.number slots).places in
      let named_objects : all_named (object_cells tied.objects places) writes ≡ true = ap
      (λ (cells : ℕ → Option ℕ). all_named cells writes) (cells_of-renamed tied.number slots pool tied.objects
      tied.represent live) ∙ named in
      record {
        number = tied.number;
        objects = with_writes tied.objects places writes;
        represent = StandFor-stored tied.number slots pool tied.objects tied.represent live held.map sound.shape after beyond writes named_objects stored;
        is = ap (λ (s : MemoryState). written s process writes) tied.is
            ∙ (λ i. record {
              blocks = length (sym beyond.counts i);
              objects = with_writes tied.objects (map_at-memory_of tied.number pool maps entries tied.objects process (omega (arith, sound.processes)) i).places writes;
              maps = map (renamed_map tied.number) maps;
              modules = (memory_of tied.number pool maps entries tied.objects).modules;
            });
      }
