-- Bytes that are written into a slot.
use Rattle.std.proofs.Common.{◌≡◌, ℕ, ◌+◌, ◌-◌, ◌/◌, ◌%◌, ◌^◌, ◌<◌, ◌≤◌, ◌==◌, true, Option, Some, None, List, ◌++◌, length, take, drop, get_or, cond, slice_get, nat_le, nat_lt, length-append, arith, refl, sym, ap, ◌∙◌, inl, inr}
use Rattle.std.proofs.Math.Path.{fun_ext}
use Rattle.std.proofs.lemmas.List.{get_or_append_left, get_or-append_right, get_or-take, get_or-drop, length-take-le, length-drop}
use Rattle.std.proofs.lemmas.Option.{slice_get-get_or, slice_get_past}
use Rattle.std.proofs.lemmas.Bool.{cond-true, cond-false, cases_lt, lt-ltb, le-ltb, le-leb, lt-leb, and_from, and_left, and_right}
use Rattle.os9_base.specs.Cells.{store_cells, is_in_range}
use Rattle.cpu_vectors.specs.Memory.{cells_of, is_in_named_slot}

-- addresses of one slot are named together
same_slot : (slots at k : ℕ) → at % 8192 + k < 8192 → is_in_named_slot slots at ≡ true → is_in_named_slot slots (at + k) ≡ true
same_slot slots at k inside named =
    let one : (at + k) / 8192 ≡ at / 8192 = omega arith in
    ap (λ slot. slots / 2 ^ slot % 2 == 1) one ∙ named

-- the cell there is the byte
cell_there : (slots : ℕ) (bytes : List ℕ) (address : ℕ) → is_in_named_slot slots address ≡ true → cells_of slots bytes address ≡ slice_get bytes address
cell_there slots bytes address named = cond-true (is_in_named_slot slots address) (slice_get bytes address) None named

module _ (slots : ℕ) (bytes : List ℕ) (at : ℕ) (new : List ℕ) (named : is_in_named_slot slots at ≡ true) (slot : at % 8192 + length new ≤ 8192) (fits : at + length new ≤ length bytes) where
  abbrev behind : List ℕ
  behind = drop (at + length new) bytes

  abbrev after : List ℕ
  after = take at bytes ++ (new ++ behind)

  abbrev stored : ℕ → Option ℕ
  stored = store_cells (cells_of slots bytes) at new

  front : length (take at bytes) ≡ at
  front = length-take-le at bytes (omega arith)

  length-after : length after ≡ length bytes
  length-after = omega (arith, front, length-append (take at bytes) (new ++ behind), length-append new behind, length-drop (at + length new) bytes)

  as_some : (address byte : ℕ) → address < length bytes → get_or after address 0 ≡ byte → slice_get after address ≡ Some byte
  as_some address byte within is = slice_get-get_or after address 0 (omega (arith, length-after)) ∙ ap (λ b. Some b) is

  new_byte : (k : ℕ) → k < length new → slice_get after (at + k) ≡ slice_get new k
  new_byte k within =
      as_some (at + k) (get_or new k 0) (omega arith)
      (get_or-append_right (take at bytes) (new ++ behind) at (at + k) 0 front (omega arith)
      ∙ ap (λ n. get_or (new ++ behind) n 0) (omega arith)
      ∙ get_or_append_left new behind 0 k within)
      ∙ sym (slice_get-get_or new k 0 within)

  byte_before : (address : ℕ) → address < at → slice_get after address ≡ slice_get bytes address
  byte_before address low =
      as_some address (get_or bytes address 0) (omega arith)
      (get_or_append_left (take at bytes) (new ++ behind) 0 address (omega (arith, front)) ∙ get_or-take at bytes address 0 low)
      ∙ sym (slice_get-get_or bytes address 0 (omega arith))

  byte_behind : (address : ℕ) → at + length new ≤ address → slice_get after address ≡ slice_get bytes address
  byte_behind address high =
      elim (cases_lt address (length bytes)) [
        | inl within ↦
            as_some address (get_or bytes address 0) within
            (get_or-append_right (take at bytes) (new ++ behind) at address 0 front (omega arith)
            ∙ get_or-append_right new behind (length new) (address - at) 0 refl (omega arith)
            ∙ get_or-drop (at + length new) bytes (address - at - length new) 0
            ∙ ap (λ n. get_or bytes n 0) (omega arith))
            ∙ sym (slice_get-get_or bytes address 0 within)
        | inr past ↦ slice_get_past after address (omega (arith, length-after)) ∙ sym (slice_get_past bytes address past)
      ]

  -- a cell whose byte is as it was
  kept : (address : ℕ) → slice_get after address ≡ slice_get bytes address → cells_of slots after address ≡ cells_of slots bytes address
  kept address same = ap (λ (byte : Option ℕ). cond (is_in_named_slot slots address) byte None) same

  before : (address : ℕ) → address < at → cells_of slots after address ≡ stored address
  before address low =
      kept address (byte_before address low)
      ∙ sym (cond-false (is_in_range at (length new) address) (slice_get new (address - at))
      (cells_of slots bytes address) (and_left (nat_le at address) (nat_lt address (at + length new))
      (lt-leb at address low)))

  past : (address : ℕ) → at + length new ≤ address → cells_of slots after address ≡ stored address
  past address high =
      kept address (byte_behind address high)
      ∙ sym (cond-false (is_in_range at (length new) address) (slice_get new (address - at))
      (cells_of slots bytes address) (and_right (nat_le at address) (nat_lt address (at + length new))
      (le-ltb address (at + length new) high)))

  within : (k : ℕ) → k < length new → cells_of slots after (at + k) ≡ stored (at + k)
  within k less =
      let back : at + k - at ≡ k = omega arith in
      cell_there slots after (at + k) (same_slot slots at k (omega arith) named) ∙ new_byte k less
      ∙ sym (cond-true (is_in_range at (length new) (at + k)) (slice_get new (at + k - at))
      (cells_of slots bytes (at + k)) (and_from (nat_le at (at + k)) (nat_lt (at + k) (at + length new))
      (le-leb at (at + k) (omega arith)) (lt-ltb (at + k) (at + length new) (omega arith))) ∙ ap (slice_get new)
      back)

  -- they are stored in its cells
  pub cells_of-stored : cells_of slots after ≡ stored
  cells_of-stored =
      fun_ext (λ address.
      elim (cases_lt address at) [
        | inl low ↦ before address low
        | inr high ↦
            elim (cases_lt address (at + length new)) [
              | inl less ↦
                  let k : at + (address - at) ≡ address = omega arith in
                  ap (cells_of slots after) (sym k) ∙ within (address - at) (omega arith) ∙ ap stored k
              | inr over ↦ past address over
            ]
      ])
