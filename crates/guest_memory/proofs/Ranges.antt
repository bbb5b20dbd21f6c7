-- Ranges and pieces of what a process sees, by the blocks that its map names.
use Rattle.std.proofs.Common.{◌≡◌, ℕ, ◌+◌, ◌-◌, ◌/◌, ◌%◌, ◌<◌, ◌≤◌, min, nat_lt, Option, Some, None, IsSome, IsSomeAnd, List, length, take, drop, get_or, sym, subst, refl, ap, ◌∙◌, arith, length-take, length-drop}
use Rattle.std.proofs.lemmas.Bool.{cond-true, lt-ltb, false≢true}
use Rattle.std.proofs.lemmas.List.{get_or-take, get_or-drop}
use Rattle.std.proofs.lemmas.Option.{slice_get-get_or}
use Rattle.os9_base.specs.Cells.{FitsIn}
use Rattle.block_map.specs.Window.{map_cells}
use Rattle.block_map.proofs.Windows.{length-block_bytes, named_of_slots, slots_of_named}
use Rattle.block_pool.specs.Blocks.{IsLive, block_bytes}
use Rattle.proc_model.specs.declared.group.BlockId.{BlockId}
use Rattle.proc_model.specs.Slots.{Slots, block_at}
use Rattle.guest_memory.proofs.MapCalls.{live}
use Rattle.guest_memory.proofs.Seen.{borrowed-cells, seen-live, seen-byte}
use Rattle.guest_memory.specs.declared.memory.Memory.{Memory}
use Rattle.guest_memory.specs.Pieces.{IsPiece}
use Rattle.guest_memory.specs.Tie.{cells_of}

module _ (memory : Memory) (process : ℕ) (within : process < 33) (old : Slots BlockId) (at : old ≡ get_or memory.maps.items process old) where
  same : map_cells old memory.pool ≡ cells_of memory process
  same = borrowed-cells memory process within old at old refl memory.pool refl

  slot_live : (slot : ℕ) (place : Option BlockId) → block_at old slot ≡ place → IsSome place → IsSomeAnd place (λ id. IsLive memory.pool id.0)
  slot_live slot None is some = absurd (false≢true some)
  slot_live slot (Some id) is some = live memory.pool memory.maps.items memory.dir memory.sound process within old at slot id is

  slot_named : (place : Option BlockId) → IsSomeAnd place (λ id. IsLive memory.pool id.0) → IsSome place
  slot_named None is = absurd is
  slot_named (Some id) is = refl

  -- a range whose slots are named fits
  pub fits-of_slots : (address len : ℕ) → 0 < len → address + len ≤ 65536 → ((slot : ℕ) → address / 8192 ≤ slot
      → slot ≤ (address + (len - 1)) / 8192 → IsSome (block_at old slot)) → FitsIn (cells_of memory process) address
      len
  fits-of_slots address len some whole named = (
    whole,
    λ k inside.
        subst IsSome (ap (λ (cells : ℕ → Option ℕ). cells (address + k)) same)
        (named_of_slots old memory.pool address len memory.sound.shape (λ slot low high. slot_live slot (block_at old slot) refl (named slot low high)) k inside),
  )

  -- the slots of a range that fits are named
  pub slots-of_fits : (address len : ℕ) → 0 < len → FitsIn (cells_of memory process) address len → (slot : ℕ) → address / 8192 ≤ slot → slot ≤ (address + (len - 1)) / 8192 → IsSome (block_at old slot)
  slots-of_fits address len some fits slot low high =
      slot_named (block_at old slot)
      (slots_of_named old memory.pool address len some (λ k inside. subst IsSome (sym (ap (λ (cells : ℕ → Option ℕ). cells (address + k)) same)) (fits.1 k inside)) slot low high)

  -- the bytes of a block from an address on are a piece of what the process sees
  pub piece-seen : (address most : ℕ) (id : BlockId) (bytes : List ℕ) → block_at old (address / 8192) ≡ Some id
      → address < 65536 → 0 < most → bytes ≡ take most (drop (address % 8192) (block_bytes memory.pool id.0))
      → IsPiece (cells_of memory process) address most bytes
  piece-seen address most id bytes place small some is = record {
    holds = λ k inside.
        let here : block_at old ((address + k) / 8192) ≡ Some id = subst (λ (slot : ℕ). block_at old slot ≡ Some id)
        (let e : address / 8192 ≡ (address + k) / 8192 = omega (arith, count, inside) in e) place in
        let byte : get_or block ((address + k) % 8192) 0 ≡ get_or bytes k 0 =
        ap (λ (n : ℕ). get_or block n 0) (let e : (address + k) % 8192 ≡ address % 8192 + k = omega (arith, count, inside) in e)
        ∙ sym (get_or-drop (address % 8192) block k 0)
        ∙ sym (get_or-take most (drop (address % 8192) block) k 0 (omega (arith, count, inside)))
        ∙ ap (λ (read : List ℕ). get_or read k 0) (sym is) in
        sym (cond-true (nat_lt (address + k) 65536) (cells_of memory process (address + k)) None (lt-ltb (address + k) 65536 (omega (arith, count, inside))))
        ∙ seen-byte memory process within old at (address + k) id here (omega (arith, count, inside))
        ∙ ap Some byte
        ∙ sym (slice_get-get_or bytes k 0 inside);
    fits = omega (arith, count);
    some = omega (arith, count);
    few = omega (arith, count);
  }
    where
      block : List ℕ
      block = block_bytes memory.pool id.0

      long : length block ≡ 8192
      long = length-block_bytes memory.pool id.0 memory.sound.shape (seen-live memory process within old at address id place)

      count : length bytes ≡ min most (8192 - address % 8192)
      count = ap length is ∙ length-take most (drop (address % 8192) block) ∙ ap (min most) (length-drop (address % 8192) block ∙ ap (λ n. n - address % 8192) long)
