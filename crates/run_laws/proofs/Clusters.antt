-- The clusters that a list of segments uses when a cluster is appended.
use Rattle.std.proofs.Common.{◌≡◌, ℕ, ◌-◌, ◌*◌, ◌/◌, ◌≤◌, true, ◌==◌, ◌||◌, List, sym, ap, ◌∙◌, ⊎_elim, arith, eq-eqb, eqb-true}
use Rattle.std.specs.List.{list_any, range_with_len}
use Rattle.std.proofs.Math.Nat.{mul-div_cancel}
use Rattle.std.proofs.lemmas.Bool.{false_from_ne_true, cases_eq}
use Rattle.std.proofs.lemmas.List.Folds.{list_any-append}
use Rattle.rbf_model.specs.Segments.{sectors_of, appended_segments}
use Rattle.rbf_model.proofs.Lists.{any_witness, any_from}
use Rattle.rbf_model.proofs.Segments.{has_range}
use Rattle.rbf_model.proofs.Growth.{cluster_of_range}
use Rattle.rbf_segs.proofs.Runs.{sectors_of-appended}
use Rattle.rbf_change.specs.Growth.{uses}

-- the sectors of one cluster are in it alone
uses_cluster : (k c d : ℕ) → 1 ≤ k → list_any (λ s. s / k == d) (range_with_len (c * k) k) ≡ (c == d)
uses_cluster k c d positive = ⊎_elim
    (λ same.
    let here : c * k / k ≡ c = mul-div_cancel c positive in
    any_from (λ s. s / k == d) (range_with_len (c * k) k) (c * k) (has_range (c * k) k (c * k) (omega arith) (omega arith)) (eq-eqb (c * k / k) d (here ∙ same)) ∙ sym (eq-eqb c d same))
    (λ differ.
    false_from_ne_true (list_any (λ s. s / k == d) (range_with_len (c * k) k))
    (λ h. let w = any_witness (λ s. s / k == d) (range_with_len (c * k) k) h in
    differ (sym (cluster_of_range k c w.0 positive w.1) ∙ eqb-true (w.0 / k) d w.2))
    ∙ sym (false_from_ne_true (c == d) (λ h. differ (eqb-true c d h))))
    (cases_eq c d)

pub uses_more : (k : ℕ) (segments : List (ℕ × ℕ)) (c d : ℕ) → 1 ≤ k → uses k (appended_segments segments (c * k) k) d ≡ (uses k segments d || (c == d))
uses_more k segments c d positive =
    ap (list_any (λ s. s / k == d)) (sectors_of-appended segments (c * k) k)
    ∙ list_any-append (λ s. s / k == d) (sectors_of segments) (range_with_len (c * k) k)
    ∙ ap (λ t. uses k segments d || t) (uses_cluster k c d positive)
