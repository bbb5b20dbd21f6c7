-- The map marks the clusters in use.
use Rattle.std.proofs.Common.{◌≡◌, ℕ, ◌+◌, ◌-◌, ◌*◌, ◌/◌, ◌%◌, ◌<◌, ◌≤◌, ◌==◌, min, ltb, List, length, get_or, refl, sym, ap, ◌∙◌, arith, ⊎_elim}
use Rattle.std.specs.Int.{bit_at}
use Rattle.std.proofs.lemmas.Bool.{agree_below_at, cases_lt, lt-ltb, le-ltb}
use Rattle.std.proofs.lemmas.List.FromFn.{get_or-map-range_with_len, length-map-range_with_len}
use Rattle.rbf_model.specs.Geometry.{sector}
use Rattle.rbf_model.specs.Space.{is_marked}
use Rattle.rbf_model.proofs.SectorBytes.{map_byte_is}
use Rattle.vol_tools.specs.Image.{first_bits, marks_byte, marks_map}

-- the bits of a byte whose first bits are set
bits-at : (k : ℕ) → k < 72 → (bit_at (get_or first_bits (k / 8) 0) (7 - k % 8) == 1) ≡ ltb (k % 8) (k / 8)
bits-at k low = agree_below_at (λ n. bit_at (get_or first_bits (n / 8) 0) (7 - n % 8) == 1) (λ n. ltb (n % 8) (n / 8)) 72 k refl low

bits-are : (n r : ℕ) → n ≤ 8 → r < 8 → (bit_at (get_or first_bits n 0) (7 - r) == 1) ≡ ltb r n
bits-are n r few low =
    let high : (8 * n + r) / 8 ≡ n = omega arith in
    let rest : (8 * n + r) % 8 ≡ r = omega arith in
    ap (λ m. bit_at (get_or first_bits m 0) (7 - r) == 1) (sym high)
    ∙ ap (λ s. bit_at (get_or first_bits ((8 * n + r) / 8) 0) (7 - s) == 1) (sym rest)
    ∙ bits-at (8 * n + r) (omega arith)
    ∙ ap (λ s. ltb s ((8 * n + r) / 8)) rest
    ∙ ap (ltb r) high

-- a cluster is before the first that is not marked
before : (marked c : ℕ) → ltb (c % 8) (min 8 (marked - 8 * (c / 8))) ≡ ltb c marked
before marked c =
    ⊎_elim
    (λ low. let in_byte : c % 8 < min 8 (marked - 8 * (c / 8)) = omega arith in lt-ltb (c % 8) (min 8 (marked - 8 * (c / 8))) in_byte ∙ sym (lt-ltb c marked low))
    (λ high. let past : min 8 (marked - 8 * (c / 8)) ≤ c % 8 = omega arith in le-ltb (c % 8) (min 8 (marked - 8 * (c / 8))) past ∙ sym (le-ltb c marked high))
    (cases_lt c marked)

pub length-marks : (marked bytes : ℕ) → length (marks_map marked bytes) ≡ bytes
unfolding marks_map
length-marks marked bytes = length-map-range_with_len (marks_byte marked) 0 bytes

byte-of-map : (marked bytes i : ℕ) → i < bytes → get_or (marks_map marked bytes) i 0 ≡ marks_byte marked i
unfolding marks_map
byte-of-map marked bytes i low = get_or-map-range_with_len (marks_byte marked) 0 bytes i i 0 low (omega arith)

-- an image with such a map behind its first sector
pub marked-are : (image : List ℕ) (marked bytes c : ℕ) → c / 8 < bytes → get_or image (256 + c / 8) 0 ≡ get_or (marks_map marked bytes) (c / 8) 0 → is_marked (sector image) c ≡ ltb c marked
unfolding is_marked
marked-are image marked bytes c low there =
    ap (λ b. bit_at b (7 - c % 8) == 1) (map_byte_is image (c / 8) ∙ there ∙ byte-of-map marked bytes (c / 8) low)
    ∙ bits-are (min 8 (marked - 8 * (c / 8))) (c % 8) (omega arith) (omega arith)
    ∙ before marked c
