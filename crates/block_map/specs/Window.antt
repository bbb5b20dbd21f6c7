-- The bytes that a process sees through its map.
use Rattle.std.specs.Prelude.{◌≡◌, ℕ, ◌/◌, ◌%◌, ◌≤◌, IsSomeAnd, Option, None, option_and_then, length, if◌then◌else◌, slice_get}
use Rattle.std.proofs.Common.{◌∙◌, subst, sym, refl}
use Rattle.block_pool.specs.Blocks.{Blocks, IsPool, IsLive, is_live, block_bytes}
use Rattle.proc_model.specs.declared.group.BlockId.{BlockId}
use Rattle.proc_model.specs.Slots.{Slots, block_at, NamesBlock}

-- a byte of a block that is live
abbrev pub live_byte : Blocks → ℕ → BlockId → Option ℕ
live_byte pool at id = if is_live pool id.0 then slice_get (block_bytes pool id.0) at else None

-- the byte at an address: the byte of the block that the address's slot names
abbrev pub map_cells : Slots BlockId → Blocks → ℕ → Option ℕ
map_cells slots pool address = option_and_then (live_byte pool (address % 8192)) (block_at slots (address / 8192))

-- the slot names a live block
abbrev pub IsSlotLive : Slots BlockId → Blocks → ℕ → Type 0
IsSlotLive slots pool slot = IsSomeAnd (block_at slots slot) (λ id. IsLive pool id.0)

-- each slot from one to another names a live block
abbrev pub AllSlotsLive : Slots BlockId → Blocks → ℕ → ℕ → Type 0
AllSlotsLive slots pool first last = (slot : ℕ) → first ≤ slot → slot ≤ last → IsSlotLive slots pool slot

-- the pool is still a pool, with the same counts, and with the same bytes of each block that the map does not name
pub record SameBeyond (slots : Slots BlockId) (before after : Blocks) : Type 0 where
  pub shape : IsPool before → IsPool after
  pub counts : after.counts ≡ before.counts
  pub blocks : length after.bytes ≡ length before.bytes
  pub bytes : (id : BlockId) → (NamesBlock slots id → ⊥) → block_bytes after id.0 ≡ block_bytes before id.0

pub SameBeyond-self : (slots : Slots BlockId) (pool : Blocks) → SameBeyond slots pool pool
SameBeyond-self slots pool = record { shape = λ pool. pool; counts = refl; blocks = refl; bytes = λ id apart. refl }

pub SameBeyond-then : (slots other : Slots BlockId) (first middle last : Blocks) → other ≡ slots
    → SameBeyond slots first middle → SameBeyond other middle last → SameBeyond slots first last
SameBeyond-then slots other first middle last same one two = record {
  shape = λ pool. two.shape (one.shape pool);
  counts = two.counts ∙ one.counts;
  blocks = two.blocks ∙ one.blocks;
  bytes = λ id apart. two.bytes id (subst (λ m. NamesBlock m id → ⊥) (sym same) apart) ∙ one.bytes id apart;
}
