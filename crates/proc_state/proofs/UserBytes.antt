-- Ranges that a process may use are those whose bytes a call can read.
use Rattle.std.proofs.Common.{◌≡◌, ℕ, zero, suc, ◌+◌, ◌<◌, ◌≤◌, nat_lt, Option, Some, None, IsSome, List, [], ◌∷◌, length, take, ◌++◌, slice_get, inl, inr, refl, sym, ap, ◌∙◌, subst, arith}
use Rattle.std.proofs.Math.Seq.{take-append_seam}
use Rattle.std.proofs.lemmas.Bool.{cases_lt, cond-true, cond-false, lt-ltb, le-ltb, false≢true}
use Rattle.std.proofs.lemmas.Option.{none-some}
use Rattle.os9_base.specs.Cells.{Cells, FitsIn, HoldsBytes}
use Rattle.os9_base.specs.UserNames.{user_cell}
use Rattle.proc_model.specs.UserBytes.{user_bytes, byte_before}
use Rattle.guest_memory.specs.declared.memory.Memory.{Memory}
use Rattle.guest_memory.specs.Tie.{IsMemorySame}

-- a byte that may be used is that of its address
user_cell-within : (cells : Cells) (at : ℕ) → at < 65536 → user_cell cells at ≡ cells at
user_cell-within cells at small = cond-true (nat_lt at 65536) (cells at) None (lt-ltb at 65536 small)

-- the bytes of a range
pub user_bytes-Some : (cells : Cells) (at count : ℕ) (bytes : List ℕ) → length bytes ≡ count → at + count ≤ 65536 → HoldsBytes cells at bytes → user_bytes cells at count ≡ Some bytes
user_bytes-Some cells at zero [] long fits holds = refl
user_bytes-Some cells at zero (byte ∷ bytes) long fits holds = absurd (omega arith)
user_bytes-Some cells at (suc count) [] long fits holds = absurd (omega arith)
user_bytes-Some cells at (suc count) (byte ∷ bytes) long fits holds =
    let first : user_cell cells at ≡ Some byte = user_cell-within cells at (omega arith) ∙ subst (λ (n : ℕ). cells n ≡ Some byte) (let e : at + 0 ≡ at = omega arith in e) (holds 0 (omega arith)) in
    let rest : user_bytes cells (at + 1) count ≡ Some bytes = user_bytes-Some cells (at + 1) count bytes (omega arith)
    (omega arith) (λ k within. subst (λ (n : ℕ). cells n ≡ slice_get bytes k) (let e : at + suc k ≡ (at + 1) + k =
    omega arith in e) (holds (suc k) (omega arith))) in
    (λ i. byte_before (first i) (rest i))

-- where bytes were read each of them is there
there_of-user_bytes : (cells : Cells) (at count : ℕ) (bytes : List ℕ) → user_bytes cells at count ≡ Some bytes → (k : ℕ) → k < count → (at + k < 65536) × IsSome (cells (at + k))
there_of-user_bytes cells at zero bytes is k within = absurd (omega arith)
there_of-user_bytes cells at (suc count) bytes is k within =
    by_first (user_cell cells at) refl (user_bytes cells (at + 1) count) refl (λ rest rest_is j inside. there_of-user_bytes cells (at + 1) count rest rest_is j inside) k within
  where
    by_first : (first : Option ℕ) → user_cell cells at ≡ first → (rest : Option (List ℕ)) → user_bytes cells (at + 1)
        count ≡ rest → ((rest : List ℕ) → user_bytes cells (at + 1) count ≡ Some rest → (j : ℕ) → j < count
        → ((at + 1) + j < 65536) × IsSome (cells ((at + 1) + j))) → (k : ℕ) → k < suc count → (at + k < 65536) ×
        IsSome (cells (at + k))
    by_first None none_is rest rest_is later k within = absurd (none-some bytes ((λ i. byte_before (sym none_is i) (user_bytes cells (at + 1) count)) ∙ is))
    by_first (Some byte) first_is None none_is later k within = absurd (none-some bytes ((λ i. byte_before (sym first_is i) (sym none_is i)) ∙ is))
    by_first (Some byte) first_is (Some rest) rest_is later zero within =
        elim (cases_lt at 65536) [
          | inl small ↦
              let here : cells at ≡ Some byte = sym (user_cell-within cells at small) ∙ first_is in
              let e : at ≡ at + 0 = omega arith in
              subst (λ (n : ℕ). (n < 65536) × IsSome (cells n)) e (small, subst IsSome (sym here) refl)
          | inr past ↦ absurd (none-some byte (sym (cond-false (nat_lt at 65536) (cells at) None (le-ltb at 65536 past)) ∙ first_is))
        ]
    by_first (Some byte) first_is (Some rest) rest_is later (suc k) within =
        subst (λ (n : ℕ). (n < 65536) × IsSome (cells n)) (let e : (at + 1) + k ≡ at + suc k = omega arith in e) (later rest rest_is k (omega arith))

-- a range whose bytes were read fits
pub fits_of-user_bytes : (cells : Cells) (at count : ℕ) (bytes : List ℕ) → at < 65536 → user_bytes cells at count ≡ Some bytes → FitsIn cells at count
fits_of-user_bytes cells at zero bytes small is = (omega arith, λ k within. absurd (omega arith))
fits_of-user_bytes cells at (suc count) bytes small is =
    let last : at + count < 65536 = (there_of-user_bytes cells at (suc count) bytes is count (omega arith)).0 in
    (omega arith, λ k within. (there_of-user_bytes cells at (suc count) bytes is k within).1)

-- no bytes are read of a range that does not fit
pub user_bytes-None : (cells : Cells) (at count : ℕ) → at < 65536 → (FitsIn cells at count → ⊥) → user_bytes cells at count ≡ None
user_bytes-None cells at count small not = by_bytes (user_bytes cells at count) refl
  where
    by_bytes : (bytes : Option (List ℕ)) → user_bytes cells at count ≡ bytes → user_bytes cells at count ≡ None
    by_bytes None is = is
    by_bytes (Some bytes) is = absurd (not (fits_of-user_bytes cells at count bytes small is))

-- the bytes of a range that fits can be read
pub user_bytes-fits : (cells : Cells) (at count : ℕ) → FitsIn cells at count → IsSome (user_bytes cells at count)
user_bytes-fits cells at zero fits = refl
user_bytes-fits cells at (suc count) fits =
    let here : IsSome (cells at) = subst (λ (n : ℕ). IsSome (cells n)) (let e : at + 0 ≡ at = omega arith in e) (fits.1 0 (omega arith)) in
    let later : IsSome (user_bytes cells (at + 1) count) = user_bytes-fits cells (at + 1) count (
      omega (arith, fits.0),
      λ k within. subst (λ (n : ℕ). IsSome (cells n)) (let e : at + suc k ≡ (at + 1) + k =
          omega arith in e) (fits.1 (suc k) (omega arith)),
    ) in
    both (user_cell cells at) (user_bytes cells (at + 1) count) (subst IsSome (sym (user_cell-within cells at (omega (arith, fits.0)))) here) later
  where
    both : (first : Option ℕ) (rest : Option (List ℕ)) → IsSome first → IsSome rest → IsSome (byte_before first rest)
    both None rest there later = absurd (false≢true there)
    both (Some byte) None there later = absurd (false≢true later)
    both (Some byte) (Some rest) there later = refl

-- ---- what is read stands at the front of the buffer

pub take-front : (front rest : List ℕ) (count : ℕ) → length front ≡ count → take count (front ++ rest) ≡ front
take-front front rest count long = ap (λ (n : ℕ). take n (front ++ rest)) (sym long) ∙ take-append_seam front rest

-- memory that is the same twice is the same
pub same-then : (first middle last : Memory) → IsMemorySame first middle → IsMemorySame middle last → IsMemorySame first last
same-then first middle last one two = record {
  modules = two.modules ∙ one.modules;
  cells = λ process. two.cells process ∙ one.cells process;
  represents = λ m tied. two.represents m (one.represents m tied);
}
