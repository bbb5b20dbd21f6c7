-- Bytes that lie together, which no count of addresses goes round.
use Rattle.std.proofs.Common.{◌≡◌, ◌≢◌, ℕ, zero, suc, ◌+◌, ◌-◌, ◌<◌, ◌≤◌, ◌==◌, ◌⊎◌, true, false, Some, IsSome, is_some, List, [], ◌∷◌, length, take, nat_le, nat_lt, slice_get, refl, ap, sym, ◌∙◌, inl, inr, arith}
use Rattle.std.proofs.Math.Path.{fun_ext}
use Rattle.std.proofs.lemmas.Bool.{cond-true, cond-false, cases_eq, cases_lt, eq-eqb, ne_eqb, lt-ltb, le-ltb, le-leb, lt-leb, and_from, and_left, and_right}
use Rattle.os9_base.specs.Cells.{Cells, put_cell, store_cells, is_in_range, HoldsBytes}
use Rattle.cpu_model.specs.Registers.{wrapped}
use Rattle.cpu_model.specs.Effects.{bytes_from}
use Rattle.cpu_model.specs.Step.{window, all_named, write_cells}
use Rattle.cpu6809.proofs.Window.{window_some}
use Rattle.cpu6809.proofs.Writes.{are_both}

-- ---- bytes that are read

pub window_together : (cells : Cells) (at n : ℕ) (bytes : List ℕ) → n ≤ length bytes → at + length bytes ≤ 65536
    → HoldsBytes cells at bytes → window cells at n ≡ take n bytes
unfolding window
window_together cells at zero bytes enough fits held = refl
window_together cells at (suc n) [] enough fits held = absurd (omega arith)
window_together cells at (suc n) (byte ∷ bytes) enough fits held =
    let here : cells at ≡ Some byte = ap cells (omega arith) ∙ held 0 (omega arith) in
    let next : HoldsBytes cells (wrapped (at + 1)) bytes = λ k within. ap cells (omega arith) ∙ held (suc k) (omega arith) in
    window_some cells at n byte here
    ∙ ap (λ rest. byte ∷ rest) (window_together cells (wrapped (at + 1)) n bytes (omega arith) (omega arith) next)

-- ---- bytes that are written

pub named_together : (cells : Cells) (at : ℕ) (bytes : List ℕ) → at + length bytes ≤ 65536
    → ((k : ℕ) → k < length bytes → IsSome (cells (at + k))) → all_named cells (bytes_from at bytes) ≡ true
named_together cells at [] fits named = refl
named_together cells at (byte ∷ bytes) fits named =
    let here : IsSome (cells at) = ap (λ address. is_some (cells address)) (omega arith) ∙ named 0 (omega arith) in
    let next : (k : ℕ) → k < length bytes → IsSome (cells (wrapped (at + 1) + k)) =
    λ k within. ap (λ address. is_some (cells address)) (omega arith) ∙ named (suc k) (omega arith) in
    are_both _ _ here (named_together cells (wrapped (at + 1)) bytes (omega arith) next)

inside : (at count address : ℕ) → at ≤ address → address < at + count → is_in_range at count address ≡ true
inside at count address low high =
    and_from (nat_le at address) (nat_lt address (at + count)) (le-leb at address low) (lt-ltb address (at + count) high)

past : (at count address : ℕ) → at + count ≤ address → is_in_range at count address ≡ false
past at count address high = and_right (nat_le at address) (nat_lt address (at + count)) (le-ltb address (at + count) high)

before : (at count address : ℕ) → address < at → is_in_range at count address ≡ false
before at count address low = and_left (nat_le at address) (nat_lt address (at + count)) (lt-leb at address low)

module _ (cells : Cells) (at byte : ℕ) (bytes : List ℕ) (fits : at + suc (length bytes) ≤ 65536) (address : ℕ) where
  abbrev next : ℕ
  next = wrapped (at + 1)

  abbrev Same : Type 0
  Same = store_cells (put_cell cells at byte) next bytes address ≡ store_cells cells at (byte ∷ bytes) address

  -- an address that is none of those behind the first
  outside : (address < next) ⊎ (next + length bytes ≤ address) → store_cells (put_cell cells at byte) next bytes address ≡ put_cell cells at byte address
  outside (inl low) = cond-false (is_in_range next (length bytes) address) (slice_get bytes (address - next)) (put_cell cells at byte address) (before next (length bytes) address low)
  outside (inr high) = cond-false (is_in_range next (length bytes) address) (slice_get bytes (address - next)) (put_cell cells at byte address) (past next (length bytes) address high)

  either : address ≤ at → (address < next) ⊎ (next + length bytes ≤ address)
  either low =
      elim (cases_lt address next) [
        | inl under ↦ inl under
        | inr over ↦ inr (omega arith)
      ]

  kept : address ≢ at → put_cell cells at byte address ≡ cells address
  kept apart = cond-false (address == at) (Some byte) (cells address) (ne_eqb address at apart)

  first : address ≡ at → Same
  first same =
      let start : address - at ≡ 0 = omega arith in
      outside (either (omega arith)) ∙ cond-true (address == at) (Some byte) (cells address) (eq-eqb address at same)
      ∙ sym (cond-true (is_in_range at (suc (length bytes)) address) (slice_get (byte ∷ bytes) (address - at))
      (cells address) (inside at (suc (length bytes)) address (omega arith) (omega arith)) ∙ ap
      (slice_get (byte ∷ bytes)) start)

  under : address < at → Same
  under low =
      outside (either (omega arith)) ∙ kept (λ e. absurd (omega arith))
      ∙ sym (cond-false (is_in_range at (suc (length bytes)) address) (slice_get (byte ∷ bytes) (address - at)) (cells address) (before at (suc (length bytes)) address low))

  within : at < address → address < at + suc (length bytes) → Same
  within low high =
      let further : address - at ≡ suc (address - next) = omega arith in
      cond-true (is_in_range next (length bytes) address) (slice_get bytes (address - next)) (put_cell cells at byte address) (inside next (length bytes) address (omega arith) (omega arith))
      ∙ sym (cond-true (is_in_range at (suc (length bytes)) address) (slice_get (byte ∷ bytes) (address - at))
      (cells address) (inside at (suc (length bytes)) address (omega arith) high) ∙ ap (slice_get (byte ∷ bytes))
      further)

  over : at < address → at + suc (length bytes) ≤ address → Same
  over low high =
      outside (inr (omega arith)) ∙ kept (λ e. absurd (omega arith))
      ∙ sym (cond-false (is_in_range at (suc (length bytes)) address) (slice_get (byte ∷ bytes) (address - at)) (cells address) (past at (suc (length bytes)) address high))

  one_before : Same
  one_before =
      elim (cases_eq address at) [
        | inl same ↦ first same
        | inr apart ↦
            elim (cases_lt address at) [
              | inl low ↦ under low
              | inr high ↦
                  elim (cases_lt address (at + suc (length bytes))) [
                    | inl inner ↦ within (omega arith) inner
                    | inr outer ↦ over (omega arith) outer
                  ]
            ]
      ]

pub written_together : (cells : Cells) (at : ℕ) (bytes : List ℕ) → at + length bytes ≤ 65536
    → store_cells cells at bytes ≡ write_cells cells (bytes_from at bytes)
written_together cells at [] fits =
    fun_ext (λ address.
    elim (cases_lt address at) [
      | inl low ↦ cond-false (is_in_range at 0 address) (slice_get [] (address - at)) (cells address) (before at 0 address low)
      | inr high ↦ cond-false (is_in_range at 0 address) (slice_get [] (address - at)) (cells address) (past at 0 address (omega arith))
    ])
written_together cells at (byte ∷ bytes) fits =
    fun_ext (λ address. sym (one_before cells at byte bytes (omega arith) address))
    ∙ written_together (put_cell cells at byte) (wrapped (at + 1)) bytes (omega arith)
