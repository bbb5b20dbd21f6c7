-- There is a choice where enough clusters are free.
use Rattle.std.proofs.Common.{◌≡◌, ℕ, zero, suc, ◌+◌, ◌-◌, ◌*◌, ◌/◌, ◌<◌, ◌≤◌, Bool, true, false, not, ◌==◌, ◌||◌, List, [], ◌∷◌, length, get_or, inl, inr, refl, sym, ap, ◌∙◌, subst, ⊎_elim, arith}
use Rattle.std.specs.Prelude.{filter, if◌then◌else◌}
use Rattle.std.proofs.Math.Nat.{div-eq_of_lt, mul-div_cancel}
use Rattle.std.proofs.lemmas.Bool.{and_parts, and_from, or_right, both_ways, false_from_ne_true, cases_Bool, cases_eq, not_from_false}
use Rattle.rbf_model.specs.Segments.{sectors_of, appended_segments, joins}
use Rattle.rbf_change.specs.Contents.{sector_count}
use Rattle.rbf_change.specs.Growth.{uses, IsClusterAfter, begins_run, MayGain, free_beside, with_clusters, clusters_needed, IsChoice}

-- below a free cluster one begins a run
run_start : (free : ℕ → Bool) (c : ℕ) → free c ≡ true → (b : ℕ) × (begins_run free b ≡ true)
run_start free zero is = (zero, and_from (free zero) (true || not (free (zero - 1))) is refl)
run_start free (suc c) is = ⊎_elim
    (λ below. run_start free c below)
    (λ none. (suc c, and_from (free (suc c)) ((suc c == 0) || not (free (suc c - 1))) is (or_right (suc c == 0) (not (free (suc c - 1))) (not_from_false (free (suc c - 1)) (ap free back ∙ none)))))
    (cases_Bool (free c))
  where
    back : suc c - 1 ≡ c
    back = omega arith

-- where one is free, one may be gained
one_gained : (k : ℕ) (free : ℕ → Bool) (segments : List (ℕ × ℕ)) (c : ℕ) → free c ≡ true → (d : ℕ) × MayGain k free segments d
one_gained k free segments c is =
    let last = get_or (sectors_of segments) (length (sectors_of segments) - 1) 0 / k + 1 in
    ⊎_elim
    (λ none. begun (λ d after there. absurd (no_sector none after.some)))
    (λ some. ⊎_elim
    (λ next_free. (
      last,
      record {
        is_free = next_free;
        next = λ d after _. sym after.next;
        run = inl (record { some = at_least some; next = refl });
      },
    ))
    (λ next_used. begun (λ d after there. absurd (both_ways (free last) next_used (subst (λ x. free x ≡ true) after.next there))))
    (cases_Bool (free last)))
    (cases_eq (length (sectors_of segments)) 0)
  where
    no_sector : length (sectors_of segments) ≡ 0 → 1 ≤ length (sectors_of segments) → ⊥
    no_sector none some = absurd (omega arith)

    at_least : (length (sectors_of segments) ≡ 0 → ⊥) → 1 ≤ length (sectors_of segments)
    at_least some = omega arith

    begun : ((d : ℕ) → IsClusterAfter k segments d → free d ≡ true → ⊥) → (d : ℕ) × MayGain k free segments d
    begun none =
        let b = run_start free c is in (
          b.0,
          record {
            is_free = (and_parts (free b.0) ((b.0 == 0) || not (free (b.0 - 1))) b.1).0;
            next = λ d after there. absurd (none d after there);
            run = inr b.1;
          },
        )

-- a list that gains sectors has one segment more at most
pub length-appended : (segments : List (ℕ × ℕ)) (lsn count : ℕ) → length (appended_segments segments lsn count) ≤ length segments + 1
length-appended [] lsn count = omega arith
length-appended (segment ∷ []) lsn count = either (joins segment lsn count)
  where
    either : (t : Bool) → length (if t then (segment.0, segment.1 + count) ∷ [] else segment ∷ (lsn, count) ∷ []) ≤ length (segment ∷ []) + 1
    either true = omega arith
    either false = omega arith
length-appended (segment ∷ next ∷ segments) lsn count = let rest = length-appended (next ∷ segments) lsn count in omega arith

pub fits_with : (k : ℕ) (segments : List (ℕ × ℕ)) (taken : List ℕ) → length taken ≤ 1 → length segments ≤ 48 → (1 ≤ length taken → length segments < 48) → length (with_clusters k segments taken) ≤ 48
fits_with k segments [] few most room = most
fits_with k segments (c ∷ []) few most room = let more = length-appended segments (c * k) k in let low = room (omega arith) in omega arith
fits_with k segments (c ∷ d ∷ taken) few most room = absurd (omega arith)

-- at most one cluster is needed for one sector more
pub one_needed : (k : ℕ) (segments : List (ℕ × ℕ)) (place : ℕ) → 1 ≤ k → 32 * place ≤ 256 * length (sectors_of segments) → clusters_needed k segments (32 * (place + 1)) ≤ 1
one_needed k segments place some room =
    let missing : sector_count (32 * (place + 1)) - length (sectors_of segments) ≤ 1 = omega arith in
    ⊎_elim
    (λ none.
    let low : sector_count (32 * (place + 1)) - length (sectors_of segments) + (k - 1) < k = omega arith in
    let zero_is : clusters_needed k segments (32 * (place + 1)) ≡ 0 = div-eq_of_lt low in
    omega arith)
    (λ one.
    let is : sector_count (32 * (place + 1)) - length (sectors_of segments) + (k - 1) ≡ k = omega arith in
    let whole : clusters_needed k segments (32 * (place + 1)) ≡ k / k = ap (λ n. n / k) is in
    let unit : k / k ≡ 1 = itself k some in
    omega arith)
    (cases_eq (sector_count (32 * (place + 1)) - length (sectors_of segments)) 0)
  where
    itself : (n : ℕ) → 1 ≤ n → n / n ≡ 1
    itself n positive = let r = mul_div_one n positive in r
      where
        mul_div_one : (m : ℕ) → 1 ≤ m → m / m ≡ 1
        mul_div_one m p = ap (λ x. x / m) (let e : m ≡ 1 * m = omega arith in e) ∙ mul-div_cancel 1 p

-- a choice of one cluster or none
pub choice_exists : (k : ℕ) (free : ℕ → Bool) (segments : List (ℕ × ℕ)) (size : ℕ) → clusters_needed k segments size ≤ 1
    → length segments ≤ 48 → (1 ≤ clusters_needed k segments size → length segments < 48)
    → ((c : ℕ) → uses k segments c ≡ true → free c ≡ false) → (1 ≤ clusters_needed k segments size → (c : ℕ) × (free c ≡ true)) → (taken : List ℕ) × IsChoice k free segments size taken
choice_exists k free segments size few most room apart some = ⊎_elim
    (λ none. ([], record { enough = sym none; gained = tt; fits = most }))
    (λ needs.
    let one : 1 ≤ clusters_needed k segments size = omega arith in
    let c = some one in
    let beside : free_beside k free segments c.0 ≡ true =
    and_from (free c.0) (not (uses k segments c.0)) c.1 (not_from_false (uses k segments c.0)
    (false_from_ne_true (uses k segments c.0) (λ h. both_ways (free c.0) (apart c.0 h) c.1))) in
    let d = one_gained k (free_beside k free segments) segments c.0 beside in (
      d.0 ∷ [],
      record {
        enough = (let e : 1 ≡ clusters_needed k segments size = omega arith in e);
        gained = (d.1, tt);
        fits = fits_with k segments (d.0 ∷ []) (omega arith) most (λ _. room one);
      },
    ))
    (cases_eq (clusters_needed k segments size) 0)

-- a list of free clusters that is not empty
pub one_passes : (free : ℕ → Bool) (xs : List ℕ) → 1 ≤ length (filter free xs) → (c : ℕ) × (free c ≡ true)
one_passes free [] some = absurd (omega arith)
one_passes free (x ∷ xs) some = ⊎_elim
    (λ here. (x, here))
    (λ none. one_passes free xs (subst (λ t. 1 ≤ length (if t then x ∷ filter free xs else filter free xs)) none some))
    (cases_Bool (free x))
