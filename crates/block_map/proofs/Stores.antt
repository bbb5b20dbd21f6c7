-- Bytes that are stored one after another.
use Rattle.std.proofs.Common.{◌≡◌, ℕ, ◌+◌, ◌-◌, ◌<◌, ◌≤◌, true, false, Option, Some, List, ◌++◌, length, get_or, take, drop, nat_le, nat_lt, slice_get, arith, refl, sym, ap, ◌∙◌, inl, inr}
use Rattle.std.proofs.Math.Path.{fun_ext}
use Rattle.std.proofs.Math.Seq.{take-add}
use Rattle.std.proofs.lemmas.List.{length-take-le, length-append, get_or_append_left, get_or-append_right}
use Rattle.std.proofs.lemmas.Option.{slice_get-get_or}
use Rattle.std.proofs.lemmas.Bool.{cond-true, cond-false, cases_lt, lt-ltb, le-ltb, le-leb, lt-leb, and_from, and_left, and_right}
use Rattle.os9_base.specs.Cells.{store_cells, is_in_range}

-- an address of the range
pub in_range : (at count address : ℕ) → at ≤ address → address < at + count → is_in_range at count address ≡ true
in_range at count address low high = and_from (nat_le at address) (nat_lt address (at + count)) (le-leb at address low) (lt-ltb address (at + count) high)

-- an address past the range
pub past_range : (at count address : ℕ) → at + count ≤ address → is_in_range at count address ≡ false
past_range at count address past = and_right (nat_le at address) (nat_lt address (at + count)) (le-ltb address (at + count) past)

-- an address before the range
pub before_range : (at count address : ℕ) → address < at → is_in_range at count address ≡ false
before_range at count address before = and_left (nat_le at address) (nat_lt address (at + count)) (lt-leb at address before)

-- a stored byte
stored-in : (cells : ℕ → Option ℕ) (at : ℕ) (bytes : List ℕ) (address : ℕ) → at ≤ address → address < at + length bytes → store_cells cells at bytes address ≡ Some (get_or bytes (address - at) 0)
stored-in cells at bytes address low high =
    cond-true (is_in_range at (length bytes) address) (slice_get bytes (address - at)) (cells address)
    (in_range at (length bytes) address low high) ∙ slice_get-get_or bytes (address - at) 0 (omega arith)

-- a byte past those that are stored
pub stored-past : (cells : ℕ → Option ℕ) (at : ℕ) (bytes : List ℕ) (address : ℕ) → at + length bytes ≤ address → store_cells cells at bytes address ≡ cells address
stored-past cells at bytes address past = cond-false (is_in_range at (length bytes) address) (slice_get bytes (address - at)) (cells address) (past_range at (length bytes) address past)

-- a byte before those that are stored
stored-before : (cells : ℕ → Option ℕ) (at : ℕ) (bytes : List ℕ) (address : ℕ) → address < at → store_cells cells at bytes address ≡ cells address
stored-before cells at bytes address before = cond-false (is_in_range at (length bytes) address) (slice_get bytes (address - at)) (cells address) (before_range at (length bytes) address before)

-- bytes that are stored behind others are stored with them
pub stored_behind : (cells : ℕ → Option ℕ) (at : ℕ) (front rest : List ℕ) → store_cells (store_cells cells at front) (at + length front) rest ≡ store_cells cells at (front ++ rest)
stored_behind cells at front rest =
    let long = length-append front rest in
    fun_ext (λ address.
    elim (cases_lt address (at + length front)) [
      | inl before ↦
          stored-before (store_cells cells at front) (at + length front) rest address before
          ∙ elim (cases_lt address at) [
            | inl low ↦ stored-before cells at front address low ∙ sym (stored-before cells at (front ++ rest) address low)
            | inr high ↦
                stored-in cells at front address high before
                ∙ ap (λ byte. Some byte) (sym (get_or_append_left front rest 0 (address - at) (omega arith)))
                ∙ sym (stored-in cells at (front ++ rest) address high (omega (arith, long)))
          ]
      | inr behind ↦
          elim (cases_lt address ((at + length front) + length rest)) [
            | inl inside ↦
                let place : address - (at + length front) ≡ (address - at) - length front = omega arith in
                stored-in (store_cells cells at front) (at + length front) rest address behind inside
                ∙ ap (λ byte. Some byte) (ap (λ k. get_or rest k 0) place ∙ sym (get_or-append_right front rest (length front) (address - at) 0 refl (omega arith)))
                ∙ sym (stored-in cells at (front ++ rest) address (omega arith) (omega (arith, long)))
            | inr past ↦
                stored-past (store_cells cells at front) (at + length front) rest address past
                ∙ stored-past cells at front address behind
                ∙ sym (stored-past cells at (front ++ rest) address (omega (arith, long)))
          ]
    ])

-- so many bytes more are stored
pub stored_more : (cells : ℕ → Option ℕ) (at : ℕ) (bytes : List ℕ) (done count : ℕ) → done ≤ length bytes
    → store_cells (store_cells cells at (take done bytes)) (at + done) (take count (drop done bytes)) ≡ store_cells
    cells at (take (done + count) bytes)
stored_more cells at bytes done count within =
    ap (λ n. store_cells (store_cells cells at (take done bytes)) (at + n) (take count (drop done bytes))) (sym (length-take-le done bytes within))
    ∙ stored_behind cells at (take done bytes) (take count (drop done bytes))
    ∙ ap (store_cells cells at) (sym (take-add done count bytes))
