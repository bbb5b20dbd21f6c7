-- Named bytes stay named: no object that has appeared goes, or changes its size.
use Rattle.std.proofs.Common.{◌≡◌, ℕ, ◌+◌, ◌<◌, ◌/◌, ◌%◌, Option, Some, None, IsSome, is_some, List, length, slice_get, refl, sym, ap, ◌∙◌, subst, arith}
use Rattle.std.specs.Prelude.{option_map, option_and_then}
use Rattle.std.proofs.lemmas.Option.{none-some, same_Some, slice_get_within, slice_get-get_or}
use Rattle.std.proofs.lemmas.Bool.{false≢true}
use Rattle.os9_base.specs.Cells.{Cells, FitsIn}
use Rattle.proc_model.specs.Memory.{MemoryState, map_at}
use Rattle.proc_model.specs.Objects.{object_byte, object_cells, slot_of}
use Rattle.proc_model.specs.Slots.{Slots}
use Rattle.call_laws.specs.Objects.{KeepsSizes}

-- the byte that a process sees at each address
abbrev pub seen : MemoryState → ℕ → Cells
seen m q = object_cells m.objects (map_at m q).places

module _ (m n : MemoryState) (sizes : KeepsSizes m n) where
  bytes-stay : (number at : ℕ) → IsSome (object_byte m.objects at number) → IsSome (object_byte n.objects at number)
  bytes-stay number at named = by_old (slice_get m.objects number) refl named
    where
      by_byte : (old new : List ℕ) → length new ≡ length old → slice_get n.objects number ≡ Some new
          → (byte : Option ℕ) → slice_get old at ≡ byte → IsSome byte → IsSome (object_byte n.objects at number)
      by_byte old new same there None is some = absurd (false≢true some)
      by_byte old new same there (Some byte) is some =
          let within : at < length old = slice_get_within old at byte is in
          let here : at < length new = omega (arith, same, within) in
          ap is_some (ap (option_and_then (λ (object : List ℕ). slice_get object at)) there ∙ slice_get-get_or new at 0 here)

      by_new : (old : List ℕ) → (new : Option (List ℕ)) → slice_get n.objects number ≡ new → option_map length new ≡
          Some (length old) → IsSome (slice_get old at) → IsSome (object_byte n.objects at number)
      by_new old None there same some = absurd (none-some (length old) same)
      by_new old (Some new) there same some =
          by_byte old new (same_Some (length new) (length old) same) there (slice_get old at) refl some

      by_old : (old : Option (List ℕ)) → slice_get m.objects number ≡ old → IsSome (option_and_then (λ (object : List ℕ). slice_get object at) old) → IsSome (object_byte n.objects at number)
      by_old None is some = absurd (false≢true some)
      by_old (Some old) is some =
          by_new old (slice_get n.objects number) refl (sizes number (slice_get_within m.objects number old is) ∙ ap (option_map length) is) some

  cells-stay : (places : List (Option ℕ)) (address : ℕ) → IsSome (object_cells m.objects places address) → IsSome (object_cells n.objects places address)
  cells-stay places address named = by_slot (slot_of places (address / 8192)) named
    where
      by_slot : (slot : Option ℕ) → IsSome (option_and_then (object_byte m.objects (address % 8192)) slot) → IsSome (option_and_then (object_byte n.objects (address % 8192)) slot)
      by_slot None some = some
      by_slot (Some number) some = bytes-stay number (address % 8192) some

  -- what fits goes on to fit, where the map of its process stays
  pub fits-on : (q at count : ℕ) → map_at n q ≡ map_at m q → FitsIn (seen m q) at count → FitsIn (seen n q) at count
  fits-on q at count map fits =
      (fits.0, λ k within. subst (λ (slots : Slots ℕ). IsSome (object_cells n.objects slots.places (at + k))) (sym map) (cells-stay (map_at m q).places (at + k) (fits.1 k within)))
