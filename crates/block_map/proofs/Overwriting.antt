-- Bytes of a block that are overwritten together.
use Rattle.std.proofs.Common.{◌≡◌, ℕ, ◌+◌, ◌-◌, ◌/◌, ◌%◌, ◌<◌, ◌≤◌, Option, Some, None, List, [], ◌++◌, length, take, drop, get_or, set, cond, slice_get, arith, sym, ap, ◌∙◌, subst, inl, inr, option_and_then, length-append, ◌⊎◌, refl, IsSome, IsSomeAnd}
use Rattle.std.proofs.Math.Path.{fun_ext}
use Rattle.std.proofs.lemmas.List.{get_or_append_left, get_or-append_right, get_or-take, get_or-drop, get_or-set_same, get_or-set_other, length-take-le, length-drop}
use Rattle.std.proofs.lemmas.Option.{slice_get-get_or}
use Rattle.std.proofs.lemmas.Bool.{cond-true, cond-false, cases_eq, cases_lt, lt-ltb}
use Rattle.os9_base.specs.Cells.{store_cells, is_in_range}
use Rattle.block_pool.specs.Blocks.{Blocks, IsPool, IsLive, is_live, reference_count, block_bytes, with_block_bytes, overwritten}
use Rattle.proc_model.specs.declared.group.BlockId.{BlockId}
use Rattle.proc_model.specs.Slots.{Slots, IsMap, block_at}
use Rattle.block_map.proofs.Places.{same_id}
use Rattle.block_map.proofs.Stores.{in_range, past_range, before_range}
use Rattle.block_map.proofs.Windows.{length-block_bytes, block_inside, read_same, byte_of_live}
use Rattle.block_map.specs.Window.{live_byte, map_cells}

-- ---- a list with some of its bytes overwritten

module _ (bytes : List ℕ) (at : ℕ) (new : List ℕ) (fits : at + length new ≤ length bytes) where
  before : length (take at bytes) ≡ at
  before = length-take-le at bytes (omega arith)

  length-overwritten : length (overwritten bytes at new) ≡ length bytes
  length-overwritten =
      let outer = length-append (take at bytes) (new ++ drop (at + length new) bytes) in
      let inner = length-append new (drop (at + length new) bytes) in
      let rest = length-drop (at + length new) bytes in
      omega (arith, before, outer, inner, rest)

  as_some : (place byte : ℕ) → place < length bytes → get_or (overwritten bytes at new) place 0 ≡ byte → slice_get (overwritten bytes at new) place ≡ Some byte
  as_some place byte within is = slice_get-get_or (overwritten bytes at new) place 0 (omega (arith, length-overwritten)) ∙ ap (λ b. Some b) is

  new_byte : (k : ℕ) → k < length new → slice_get (overwritten bytes at new) (at + k) ≡ slice_get new k
  new_byte k within =
      as_some (at + k) (get_or new k 0) (omega arith)
      (get_or-append_right (take at bytes) (new ++ drop (at + length new) bytes) at (at + k) 0 before (omega arith)
      ∙ ap (λ n. get_or (new ++ drop (at + length new) bytes) n 0) (omega arith)
      ∙ get_or_append_left new (drop (at + length new) bytes) 0 k within)
      ∙ sym (slice_get-get_or new k 0 within)

  byte_before : (place : ℕ) → place < at → slice_get (overwritten bytes at new) place ≡ slice_get bytes place
  byte_before place low =
      as_some place (get_or bytes place 0) (omega arith)
      (get_or_append_left (take at bytes) (new ++ drop (at + length new) bytes) 0 place (omega (arith, before)) ∙ get_or-take at bytes place 0 low)
      ∙ sym (slice_get-get_or bytes place 0 (omega arith))

  byte_behind : (place : ℕ) → at + length new ≤ place → place < length bytes → slice_get (overwritten bytes at new) place ≡ slice_get bytes place
  byte_behind place high within =
      as_some place (get_or bytes place 0) within
      (get_or-append_right (take at bytes) (new ++ drop (at + length new) bytes) at place 0 before (omega arith)
      ∙ get_or-append_right new (drop (at + length new) bytes) (length new) (place - at) 0 refl (omega arith)
      ∙ get_or-drop (at + length new) bytes (place - at - length new) 0
      ∙ ap (λ n. get_or bytes n 0) (omega arith))
      ∙ sym (slice_get-get_or bytes place 0 within)

-- ---- a block of a pool with other bytes

-- a byte of it, or of another block, that is as it was
live_byte-kept : (pool : Blocks) (id other : BlockId) (new : List ℕ) (place : ℕ) → id.0 < length pool.bytes
    → (other.0 ≡ id.0 → slice_get new place ≡ slice_get (block_bytes pool id.0) place)
    → live_byte (with_block_bytes pool id.0 new) place other ≡ live_byte pool place other
live_byte-kept pool id other new place inside same =
    ap (λ (read : Option ℕ). cond (is_live pool other.0) read None)
    (elim (cases_eq other.0 id.0) [
      | inl this ↦
          ap (λ (n : ℕ). slice_get (get_or (set pool.bytes id.0 new) n []) place) this
          ∙ ap (λ (bytes : List ℕ). slice_get bytes place) (get_or-set_same pool.bytes id.0 new [] inside)
          ∙ same this ∙ ap (λ (n : ℕ). slice_get (get_or pool.bytes n []) place) (sym this)
      | inr different ↦ ap (λ (bytes : List ℕ). slice_get bytes place) (get_or-set_other pool.bytes id.0 other.0 new [] different)
    ])

module _ (slots : Slots BlockId) (pool : Blocks) (at : ℕ) (id : BlockId) (new : List ℕ) (map : IsMap slots)
    (shape : IsPool pool) (here : block_at slots (at / 8192) ≡ Some id) (live : IsLive pool id.0)
    (fits : at % 8192 + length new ≤ 8192) where
  abbrev old : List ℕ
  old = block_bytes pool id.0

  abbrev after : Blocks
  after = with_block_bytes pool id.0 (overwritten old (at % 8192) new)

  whole : length old ≡ 8192
  whole = length-block_bytes pool id.0 shape live

  fit : at % 8192 + length new ≤ length old
  fit = omega (arith, whole)

  inside : id.0 < length pool.bytes
  inside = block_inside pool id.0 0 (omega (arith, whole))

  stored : (address : ℕ) → at ≤ address → address < at + length new → map_cells slots after address ≡ store_cells (map_cells slots pool) at new address
  stored address low high =
      let k = address - at in
      let slot : address / 8192 ≡ at / 8192 = omega arith in
      let place : address % 8192 ≡ at % 8192 + k = omega arith in
      ap (option_and_then (live_byte after (address % 8192))) (ap (block_at slots) slot ∙ here)
      ∙ cond-true (is_live pool id.0) (slice_get (block_bytes after id.0) (address % 8192)) None (lt-ltb 0 (reference_count pool id.0) live)
      ∙ ap (λ (bytes : List ℕ). slice_get bytes (address % 8192)) (get_or-set_same pool.bytes id.0 (overwritten old (at % 8192) new) [] inside)
      ∙ ap (slice_get (overwritten old (at % 8192) new)) place
      ∙ new_byte old (at % 8192) new fit k (omega arith)
      ∙ sym (cond-true (is_in_range at (length new) address) (slice_get new k) (map_cells slots pool address) (in_range at (length new) address low high))

  same_place : (address : ℕ) → address / 8192 ≡ at / 8192 → (address < at) ⊎ (at + length new ≤ address) → slice_get (overwritten old (at % 8192) new) (address % 8192) ≡ slice_get old (address % 8192)
  same_place address slot (inl low) = byte_before old (at % 8192) new fit (address % 8192) (omega arith)
  same_place address slot (inr high) = byte_behind old (at % 8192) new fit (address % 8192) (omega arith) (omega (arith, whole))

  kept : (address : ℕ) → (address < at) ⊎ (at + length new ≤ address) → map_cells slots after address ≡ map_cells slots pool address
  kept address apart =
      read_same (live_byte after (address % 8192)) (live_byte pool (address % 8192)) (block_at slots (address / 8192))
      (λ other named.
      live_byte-kept pool id other (overwritten old (at % 8192) new) (address % 8192) inside
      (λ same_block.
      let same : other ≡ id = same_id other id same_block in
      same_place address (map.once (address / 8192) (at / 8192) id (named ∙ ap (λ (b : BlockId). Some b) same) here) apart))

  pub cells_of-store : map_cells slots after ≡ store_cells (map_cells slots pool) at new
  cells_of-store =
      fun_ext (λ address.
      elim (cases_lt address at) [
        | inl low ↦
            kept address (inl low)
            ∙ sym (cond-false (is_in_range at (length new) address) (slice_get new (address - at)) (map_cells slots pool address) (before_range at (length new) address low))
        | inr high ↦
            elim (cases_lt address (at + length new)) [
              | inl within ↦ stored address high within
              | inr past ↦
                  kept address (inr past)
                  ∙ sym (cond-false (is_in_range at (length new) address) (slice_get new (address - at)) (map_cells slots pool address) (past_range at (length new) address past))
            ]
      ])

  pub all_live : (k : ℕ) → k < length new → IsSome (map_cells slots pool (at + k))
  all_live k within =
      byte_of_live pool ((at + k) % 8192) (block_at slots ((at + k) / 8192)) shape (omega arith)
      (subst (λ (o : Option BlockId). IsSomeAnd o (λ i. IsLive pool i.0)) (sym (ap (block_at slots) (omega arith) ∙ here)) live)
