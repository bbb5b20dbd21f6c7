-- How many clusters bytes need.
use Rattle.std.proofs.Common.{◌≡◌, ℕ, ◌+◌, ◌-◌, ◌*◌, ◌/◌, ◌<◌, ◌≤◌, List, length, sym, ap, ap₂, ◌∙◌, arith}
use Rattle.std.specs.Int.{div_ceil}
use Rattle.std.proofs.Math.Nat.{lt-div-mul-add}
use Rattle.std.proofs.lemmas.Grind.{div_ceil_times}
use Rattle.std.proofs.lemmas.Nat.{div-mul-add}
use Rattle.rbf_model.specs.Segments.{sectors_of}
use Rattle.rbf_change.specs.Contents.{sector_count}
use Rattle.rbf_change.specs.Growth.{clusters_needed}
use Rattle.rbf_write.specs.Files.{IsClusterCount, IsPastVolumes}

-- 4 GB are more than any volume has beside a list of segments
pub past_volumes : (k : ℕ) (segments : List (ℕ × ℕ)) (end had : ℕ) → 1 ≤ k → had ≡ length (sectors_of segments) → had ≤ 3145680 → 4294967295 < end → IsPastVolumes k segments end
past_volumes k segments end had some is few long =
    let missing = sector_count end - length (sectors_of segments) in
    let many : 524280 < missing = omega arith in
    let up : missing + (k - 1) < clusters_needed k segments end * k + k = lt-div-mul-add some in
    omega arith

ceil_is : (t k : ℕ) → 0 < k → (t + (k - 1)) / k ≡ div_ceil t k
ceil_is t k positive =
    let q = div_ceil t k in
    let bounds = div_ceil_times t k positive in
    let low : t ≤ q * k = bounds.0 in
    let high : q * k < t + k = bounds.1 in
    let split : q * k + (t + (k - 1) - q * k) ≡ t + (k - 1) = omega arith in
    ap (λ x. x / k) (sym split) ∙ div-mul-add q k (t + (k - 1) - q * k) (omega arith)

pub count_is : (k : ℕ) (segments : List (ℕ × ℕ)) (end had sectors missing divisor count : ℕ) → 1 ≤ k → end ≤ 4294967295 → had ≡ length (sectors_of segments) → sectors ≡ div_ceil end 256
    → missing ≡ sectors - had → divisor ≡ k → count ≡ div_ceil missing divisor → IsClusterCount k segments end count
count_is k segments end had sectors missing divisor count some low is sectors_are missing_is divided counted =
    let whole : sectors ≡ sector_count end = sectors_are ∙ sym (ceil_is end 256 (omega arith)) in
    let left : missing ≡ sector_count end - length (sectors_of segments) = missing_is ∙ ap₂ (λ a b. a - b) whole is in
    record { fits = omega arith; count_is = counted ∙ ap₂ div_ceil left divided ∙ sym (ceil_is (sector_count end - length (sectors_of segments)) k some) }
