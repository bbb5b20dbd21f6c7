-- What bytes that a process stores come to for the whole memory.
use Rattle.std.proofs.Common.{◌≡◌, ℕ, ◌<◌, Option, List, length, get_or, sym, ap, ◌∙◌, subst}
use Rattle.os9_base.specs.Cells.{store_cells, FitsIn}
use Rattle.block_pool.specs.Blocks.{Blocks}
use Rattle.block_map.specs.Window.{map_cells, SameBeyond}
use Rattle.proc_model.specs.declared.group.BlockId.{BlockId}
use Rattle.proc_model.specs.Memory.{MemoryState}
use Rattle.proc_model.specs.MemoryChanges.{writes_from, stored}
use Rattle.proc_model.specs.ModuleList.{ModuleEntry}
use Rattle.proc_model.specs.Slots.{Slots, no_slots}
use Rattle.guest_memory.specs.Memory.{RepresentMemory}
use Rattle.guest_memory.specs.Sound.{IsSoundMemory}
use Rattle.guest_memory.proofs.Keeping.{map_of}
use Rattle.guest_memory.proofs.Writing.{write-from, named-from, IsSound-written, represent-written}
use Rattle.guest_memory.proofs.MapCalls.{is_map_of}

module _ (pool after : Blocks) (maps : List (Slots BlockId)) (entries : List (Option ModuleEntry))
    (sound : IsSoundMemory pool maps entries) (process : ℕ) (within : process < 33) (old seen now : Slots BlockId)
    (at : old ≡ get_or maps process old) (seen_is : seen ≡ old) (now_is : now ≡ seen) (before : Blocks)
    (before_is : before ≡ pool) (beyond : SameBeyond seen before after) where
  abbrev slots : Slots BlockId
  slots = map_of pool maps entries sound process

  map_is : seen ≡ slots
  map_is = seen_is ∙ is_map_of pool maps entries sound process within old at

  beyond_is : SameBeyond slots pool after
  beyond_is = subst (λ (p : Blocks). SameBeyond slots p after) before_is (subst (λ (s : Slots BlockId). SameBeyond s before after) map_is beyond)

  pub sound-store : IsSoundMemory after maps entries
  sound-store = IsSound-written pool after maps entries sound (beyond_is.shape sound.shape) beyond_is.counts

  pub tied-store : (address : ℕ) (bytes : List ℕ) → FitsIn (map_cells (get_or maps process no_slots) pool) address
      (length bytes) → map_cells now after ≡ store_cells (map_cells seen before) address bytes → (m : MemoryState)
      → RepresentMemory pool maps entries m → RepresentMemory after maps entries (stored m process address bytes)
  tied-store address bytes fits changed =
      represent-written pool after maps entries sound process within beyond_is (writes_from address bytes) (named-from (map_cells slots pool) address bytes fits.1)
      (ap (λ (s : Slots BlockId). map_cells s after) (sym (now_is ∙ map_is)) ∙ changed ∙
      (λ i. store_cells (map_cells (map_is i) (before_is i)) address bytes) ∙ sym
      (write-from (map_cells slots pool) address bytes))
