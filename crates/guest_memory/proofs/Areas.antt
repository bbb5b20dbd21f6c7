-- The data area of a process, all of whose addresses are named, and runs of characters that it sees.
use Rattle.std.proofs.Common.{◌≡◌, ℕ, ◌+◌, ◌*◌, ◌<◌, ◌/◌, nat_lt, Option, Some, None, IsSome, is_some, option_map, IfNone, IfSome, List, take, get_or, refl, sym, ap, ◌∙◌, subst, arith}
use Rattle.std.proofs.lemmas.Bool.{cond-true, lt-ltb, false≢true}
use Rattle.std.proofs.lemmas.List.{get_or_default}
use Rattle.os9_base.specs.Cells.{FitsIn}
use Rattle.proc_model.specs.declared.group.BlockId.{BlockId}
use Rattle.proc_model.specs.Slots.{Slots, no_slots, block_at}
use Rattle.guest_memory.proofs.Keeping.{held_at}
use Rattle.os9_base.specs.UserNames.{run_bytes}
use Rattle.guest_memory.proofs.Seen.{seen-byte}
use Rattle.guest_memory.specs.declared.memory.Memory.{Memory}
use Rattle.guest_memory.specs.Tie.{cells_of}

module _ (memory : Memory) (process : ℕ) (within : process < 33) where
  abbrev slots : Slots BlockId
  slots = get_or memory.maps.items process no_slots

  -- each address below the end of the data area is named
  named : (k : ℕ) → k < 8192 * slots.low → k < 65536 → IsSome (cells_of memory process k)
  named k below small = by_place (block_at slots (k / 8192)) refl ((held_at memory.pool memory.maps.items memory.dir memory.sound process within).full (k / 8192) (omega arith))
    where
      by_place : (place : Option BlockId) → block_at slots (k / 8192) ≡ place → IsSome place → IsSome (cells_of memory process k)
      by_place None is some = absurd (false≢true some)
      by_place (Some id) is some =
          let at : slots ≡ get_or memory.maps.items process slots = sym (get_or_default memory.maps.items process slots no_slots (omega (arith, memory.sound.processes))) in
          ap is_some (sym (cond-true (nat_lt k 65536) (cells_of memory process k) None (lt-ltb k 65536 small)) ∙ seen-byte memory process within slots at k id is small)

  pub area-fits : (count : ℕ) → slots.low ≡ count → FitsIn (cells_of memory process) 0 (8192 * count)
  area-fits count is =
      let few = (held_at memory.pool memory.maps.items memory.dir memory.sound process within).map.low_fits in
      (omega (arith, few, is), λ k below. subst (λ (n : ℕ). IsSome (cells_of memory process n)) (from_zero k) (named k (omega (arith, is)) (omega (arith, few, is))))
    where
      from_zero : (k : ℕ) → k ≡ 0 + k
      from_zero k = omega arith

-- a run that was read from the same cells
pub run-read : (cells other : ℕ → Option ℕ) (at most : ℕ) (result : Option ℕ) (into : List ℕ)
    → IfNone result (run_bytes cells at most ≡ None) → IfSome result (λ count. run_bytes cells at most ≡ Some
    (take count into)) → cells ≡ other → run_bytes other at most ≡ option_map (λ count. take count into) result
run-read cells other at most None into none some same = ap (λ (c : ℕ → Option ℕ). run_bytes c at most) (sym same) ∙ none
run-read cells other at most (Some count) into none some same = ap (λ (c : ℕ → Option ℕ). run_bytes c at most) (sym same) ∙ some
