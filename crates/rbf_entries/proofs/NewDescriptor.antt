-- The descriptor of a new file.
use Rattle.std.proofs.Common.{◌≡◌, ℕ, zero, suc, ◌+◌, ◌-◌, ◌*◌, ◌^◌, ◌<◌, ◌≤◌, ◌==◌, List, [], ◌∷◌, length, refl, sym, ap, ◌∙◌, ⊎_elim, arith, slice_index, eqb-true, eq-eqb}
use Rattle.std.specs.Prelude.{replicate}
use Rattle.std.proofs.lemmas.Bool.{cases_eq, cases_lt, false_from_ne_true, cond-true, cond-false}
use Rattle.rbf_model.specs.Fields.{segment_field, segments_field}
use Rattle.rbf_model.specs.File.{DiskFile}
use Rattle.rbf_change.specs.NewFiles.{first_segments}
use Rattle.rbf_change.specs.Tidy.{IsNewList}

-- zeros
zero_at : (n i : ℕ) → slice_index (replicate n 0) i ≡ 0
zero_at zero i = refl
zero_at (suc n) zero = refl
zero_at (suc n) (suc i) = zero_at n i

-- a pair of zeros, byte by byte
record IsZeroPair (bytes : List ℕ) (at : ℕ) : Type 0 where
  pub each : (j : ℕ) → j < 5 → slice_index bytes (at + j) ≡ 0

three_zeros : (a b c : ℕ) → a * 256 ^ 2 + (b * 256 ^ 1 + (c * 256 ^ 0 + 0)) ≡ 0 → (a ≡ 0) × (b ≡ 0) × (c ≡ 0)
three_zeros a b c h = (omega arith, omega arith, omega arith)

two_zeros : (a b : ℕ) → a * 256 ^ 1 + (b * 256 ^ 0 + 0) ≡ 0 → (a ≡ 0) × (b ≡ 0)
two_zeros a b h = (omega arith, omega arith)

zero_pair : (bytes : List ℕ) (i : ℕ) → segment_field bytes i ≡ (0, 0) → IsZeroPair bytes (16 + 5 * i)
zero_pair bytes i is =
    let at = 16 + 5 * i in
    let next : 19 + 5 * i ≡ at + 3 = omega arith in
    let t = three_zeros (slice_index bytes at) (slice_index bytes (suc at)) (slice_index bytes (suc (suc at))) (ap (λ (p : ℕ × ℕ). p.0) is) in
    let u = two_zeros (slice_index bytes (19 + 5 * i)) (slice_index bytes (suc (19 + 5 * i))) (ap (λ (p : ℕ × ℕ). p.1) is) in
    record {
      each = λ j low. ⊎_elim
          (λ e. ap (slice_index bytes) (let s : at + j ≡ at = omega arith in s) ∙ t.0)
          (λ n0. ⊎_elim
          (λ e. ap (slice_index bytes) (let s : at + j ≡ suc at = omega arith in s) ∙ t.1)
          (λ n1. ⊎_elim
          (λ e. ap (slice_index bytes) (let s : at + j ≡ suc (suc at) = omega arith in s) ∙ t.2)
          (λ n2. ⊎_elim
          (λ e. ap (slice_index bytes) (let s : at + j ≡ 19 + 5 * i = omega arith in s) ∙ u.0)
          (λ n3. ap (slice_index bytes) (last j low n0 n1 n2 n3) ∙ u.1)
          (cases_eq j 3))
          (cases_eq j 2))
          (cases_eq j 1))
          (cases_eq j 0);
    }
  where
    last : (j : ℕ) → j < 5 → (j ≡ 0 → ⊥) → (j ≡ 1 → ⊥) → (j ≡ 2 → ⊥) → (j ≡ 3 → ⊥) → 16 + 5 * i + j ≡ suc (19 + 5 * i)
    last j low n0 n1 n2 n3 = omega arith

-- a list of segments that was written over zeros
pub new_list : (bytes : List ℕ) (segments : List (ℕ × ℕ)) → segments_field bytes ≡ segments → (length segments < 48 → segment_field bytes (length segments) ≡ (0, 0))
    → ((i : ℕ) → 16 + 5 * (length segments + 1) ≤ i → slice_index bytes i ≡ slice_index (replicate 256 0) i) → IsNewList bytes
new_list bytes segments is ended behind i past low =
    let size : length (segments_field bytes) ≡ length segments = ap length is in
    let from : 16 + 5 * length segments ≤ i = omega arith in
    ⊎_elim
    (λ near.
    let pair = zero_pair bytes (length segments) (ended (omega arith)) in
    let there : 16 + 5 * length segments + (i - (16 + 5 * length segments)) ≡ i = omega arith in
    ap (slice_index bytes) (sym there) ∙ pair.each (i - (16 + 5 * length segments)) (omega arith))
    (λ far. behind i far ∙ zero_at 256 i)
    (cases_lt i (16 + 5 * (length segments + 1)))

-- the segments behind a new descriptor
pub first_more : (k n : ℕ) → 1 < k → first_segments k n ≡ (n + 1, k - 1) ∷ []
first_more k n more = cond-false (k == 1) [] ((n + 1, k - 1) ∷ []) (false_from_ne_true (k == 1) (λ h. let e : k ≡ 1 = eqb-true k 1 h in absurd (omega arith)))

pub first_none : (k n : ℕ) → k ≤ 1 → 1 ≤ k → first_segments k n ≡ []
first_none k n few some = let one : k ≡ 1 = omega arith in cond-true (k == 1) [] ((n + 1, k - 1) ∷ []) (eq-eqb k 1 one)

-- files with the same fields
abbrev file_of : ℕ → ℕ → List ℕ → ℕ → List ℕ → List (ℕ × ℕ) → List ℕ → DiskFile
file_of at ow mo li cr se co = record { attributes = at; owner = ow; modified = mo; links = li; created = cr; segments = se; contents = co }

pub same_file : (a b : DiskFile) → a.attributes ≡ b.attributes → a.owner ≡ b.owner → a.modified ≡ b.modified
    → a.links ≡ b.links → a.created ≡ b.created → a.segments ≡ b.segments → a.contents ≡ b.contents → a ≡ b
same_file a b at ow mo li cr se co =
    ap (λ x. file_of x a.owner a.modified a.links a.created a.segments a.contents) at
    ∙ ap (λ x. file_of b.attributes x a.modified a.links a.created a.segments a.contents) ow
    ∙ ap (λ x. file_of b.attributes b.owner x a.links a.created a.segments a.contents) mo
    ∙ ap (λ x. file_of b.attributes b.owner b.modified x a.created a.segments a.contents) li
    ∙ ap (λ x. file_of b.attributes b.owner b.modified b.links x a.segments a.contents) cr
    ∙ ap (λ x. file_of b.attributes b.owner b.modified b.links b.created x a.contents) se
    ∙ ap (λ x. file_of b.attributes b.owner b.modified b.links b.created b.segments x) co
