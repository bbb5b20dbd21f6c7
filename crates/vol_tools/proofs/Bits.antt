-- One bit of one byte.
use Rattle.std.proofs.Common.{◌≡◌, ℕ, ◌+◌, ◌-◌, ◌*◌, ◌/◌, ◌%◌, ◌<◌, ◌≤◌, ◌==◌, ◌&&◌, not, Bool, true, false, List, ◌++◌, length, take, drop, get_or, set, refl, sym, ap, ◌∙◌, ⊎_elim, arith, eq-eqb, append_assoc, length-drop}
use Rattle.std.specs.Int.{bit_at}
use Rattle.std.proofs.lemmas.Bool.{cases_eq, ne_eqb}
use Rattle.std.proofs.lemmas.List.{get_or-set_same, get_or-set_other, set-append_left, set-append_right, take-append-drop, drop-drop, length-take-le}
use Rattle.rbf_model.specs.Geometry.{sector}
use Rattle.rbf_model.specs.Writes.{put_sector}
use Rattle.vol_tools.specs.Clearing.{ClearsMark}

and_false : (t : Bool) → (t && false) ≡ false
and_false true = refl
and_false false = refl

and_true : (t : Bool) → t ≡ (t && true)
and_true true = refl
and_true false = refl

-- the bit of d in byte j, after that of c in byte i has been cleared
pub bit_cleared : (bytes : List ℕ) (i byte c d j : ℕ) → i < length bytes → bit_at byte (7 - c % 8) ≡ 0
    → ((k : ℕ) → k < 8 → (k ≡ 7 - c % 8 → ⊥) → bit_at byte k ≡ bit_at (get_or bytes i 0) k)
    → (j ≡ i → d / 8 ≡ c / 8) → (d ≡ c → j ≡ i)
    → (bit_at (get_or (set bytes i byte) j 0) (7 - d % 8) == 1) ≡ ((bit_at (get_or bytes j 0) (7 - d % 8) == 1) && not (d == c))
bit_cleared bytes i byte c d j fits clear others same_byte same_place =
    ⊎_elim
    (λ is.
    let here = same_place is in
    ap (λ k. bit_at (get_or (set bytes i byte) k 0) (7 - d % 8) == 1) here
    ∙ ap (λ b. bit_at b (7 - d % 8) == 1) (get_or-set_same bytes i byte 0 fits)
    ∙ ap (λ e. bit_at byte (7 - e % 8) == 1) is ∙ ap (λ b. b == 1) clear
    ∙ sym (ap (λ t. (bit_at (get_or bytes j 0) (7 - d % 8) == 1) && not t) (eq-eqb d c is) ∙ and_false (bit_at (get_or bytes j 0) (7 - d % 8) == 1)))
    (λ differ.
    let right = and_true (bit_at (get_or bytes j 0) (7 - d % 8) == 1) ∙ ap (λ t. (bit_at (get_or bytes j 0) (7 - d % 8) == 1) && not t) (sym (ne_eqb d c differ)) in
    ⊎_elim
    (λ here.
    let group = same_byte here in
    ap (λ k. bit_at (get_or (set bytes i byte) k 0) (7 - d % 8) == 1) here
    ∙ ap (λ b. bit_at b (7 - d % 8) == 1) (get_or-set_same bytes i byte 0 fits)
    ∙ ap (λ b. b == 1) (others (7 - d % 8) (omega arith) (λ e. differ (omega arith)))
    ∙ ap (λ k. bit_at (get_or bytes k 0) (7 - d % 8) == 1) (sym here)
    ∙ right)
    (λ beside. ap (λ b. bit_at b (7 - d % 8) == 1) (get_or-set_other bytes i j byte 0 beside) ∙ right)
    (cases_eq j i))
    (cases_eq d c)

-- a byte of an image is one of a sector
pub set_in_sector : (image : List ℕ) (s j byte : ℕ) → j < 256 → 256 * s + 256 ≤ length image
    → set image (256 * s + j) byte ≡ put_sector image s (set (sector image s) j byte)
set_in_sector image s j byte low fits =
    let at : ℕ = 256 * s in
    let rest : List ℕ = drop (256 * s) image in
    let front : length (take (256 * s) image) ≡ 256 * s = length-take-le (256 * s) image (omega arith) in
    let first : length (take 256 rest) ≡ 256 = length-take-le 256 rest (omega (arith, length-drop (256 * s) image)) in
    let minus : 256 * s + j - 256 * s ≡ j = omega arith in
    ap (λ x. set x (256 * s + j) byte) (sym (take-append-drop (256 * s) image))
    ∙ set-append_right (take (256 * s) image) rest (256 * s) (256 * s + j) byte front (omega arith)
    ∙ ap (λ k. take (256 * s) image ++ set rest k byte) minus
    ∙ ap (λ x. take (256 * s) image ++ set x j byte) (sym (take-append-drop 256 rest))
    ∙ ap (λ x. take (256 * s) image ++ x) (set-append_left (take 256 rest) (drop 256 rest) j byte (omega arith))
    ∙ ap (λ x. take (256 * s) image ++ (set (take 256 rest) j byte ++ x)) (drop-drop 256 (256 * s) image)
    ∙ sym (append_assoc (take (256 * s) image) (set (take 256 rest) j byte) (drop (256 * s + 256) image))

pub clears_mark : (image : List ℕ) (c byte : ℕ) → bit_at byte (7 - c % 8) ≡ 0
    → ((k : ℕ) → k < 8 → (k ≡ 7 - c % 8 → ⊥) → bit_at byte k ≡ bit_at (get_or image (256 + c / 8) 0) k)
    → ClearsMark image (set image (256 + c / 8) byte) c
clears_mark image c byte clear others = record { byte = byte; clear = clear; others = others; changed = refl }
