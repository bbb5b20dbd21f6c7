-- A ring that takes a byte where it has room.
use Rattle.std.proofs.Common.{◌≡◌, ℕ, ◌<◌, ◌≤◌, ◌↔◌, Result, Ok, Err, IsOk, OnOk, IfErr, [], ◌∷◌, ◌++◌, length, take, false, true, refl, sym, ap, ◌∙◌, arith, length-append}
use Rattle.std.proofs.lemmas.List.{take_all, take_at}
use Rattle.circular_buffer.specs.Buffer.{Buffer, buffer}

pub kept-by : {Value : Type 0} (answer : Result Value ℕ) (old new : Buffer ℕ) (key : ℕ) → old.capacity ≡ 256
    → length old.items ≤ 256 → (IsOk answer ↔ (length old.items < old.capacity))
    → OnOk answer (new ≡ buffer (old.items ++ key ∷ []) old.capacity)
    → IfErr answer (λ back. (back ≡ key) × (new ≡ old)) → new.items ≡ take 256 (old.items ++ key ∷ [])
kept-by (Ok value) old new key full within room put back =
    let below : length old.items < old.capacity = room.0 refl in
    let fits : length (old.items ++ key ∷ []) ≤ 256 = omega (arith, below, full, length-append old.items (key ∷ [])) in
    ap (λ (b : Buffer ℕ). b.items) put ∙ sym (take_all 256 (old.items ++ key ∷ []) fits)
kept-by (Err fault) old new key full within room put back =
    let none : length old.items < old.capacity → ⊥ = λ below. let impossible : false ≡ true = room.1 below in cc in
    let whole : length old.items ≡ 256 = omega (arith, none, full, within) in
    ap (λ (b : Buffer ℕ). b.items) back.1 ∙ sym (take_at old.items (key ∷ []) 256 whole)
