use Rattle.std.proofs.Common.{◌≡◌, ◌+◌, ◌∙◌, ℕ, Bool, true, false, List, [], ◌∷◌, ◌++◌, cond, refl, ap, sym, arith, zero-add, append-nil}
use Rattle.std.specs.Prelude.{filter, map}
use Rattle.std.specs.List.{range_with_len}
use Rattle.std.proofs.lemmas.Bool.{cond-true, cond-false}
use Rattle.std.proofs.lemmas.List.FromFn.{filter_of_map_range_with_len_more}
use Rattle.std.proofs.lemmas.Grind.{common_steps}
use Rattle.rbf_check.specs.VolumeNodes.{volume_from}
use Rattle.rbf_check.proofs.Surveys.{clusters_are}
use Rattle.rbf_check.proofs.Whole.{lost_is}
use Rattle.rbf_check.proofs.lost.lost_clusters.Goals as goal
use Rattle.rbf_check.proofs.lost.lost_clusters.Goals.{then-is_lost+in_ok-push, else-is_lost}

same_list : (xs : List ℕ) → map (λ x. x) xs ≡ xs
same_list [] = refl
same_list (x ∷ xs) = ap (λ ys. x ∷ ys) (same_list xs)

filter_more : (p : ℕ → Bool) (n : ℕ) → filter p (range_with_len 0 (n + 1)) ≡ filter p (range_with_len 0 n) ++ cond (p n) (n ∷ []) []
filter_more p n =
    ap (filter p) (sym (same_list (range_with_len 0 (n + 1))))
    ∙ filter_of_map_range_with_len_more p (λ x. x) 0 n n (zero-add n)
    ∙ ap (λ xs. filter p xs ++ cond (p n) (n ∷ []) []) (same_list (range_with_len 0 n))

pub loop-c-preserved : goal.loop-c-preserved
loop-c-preserved c =
    let p = (volume_from c.args.survey.now).lost in
    elim c.if-is_lost.branch [
      | then-is_lost+in_ok-push w ↦
          let more = filter_more p c.loop-c.c in
          let one = cond-true (p c.loop-c.c) (c.loop-c.c ∷ []) [] (sym c.is_lost.ensures ∙ w.if-is_lost.true) in
          grind (arith, common_steps, more, one)
      | else-is_lost w ↦
          let more = filter_more p c.loop-c.c in
          let none = cond-false (p c.loop-c.c) (c.loop-c.c ∷ []) [] (sym c.is_lost.ensures ∙ w.if-is_lost.false) in
          let end = append-nil (filter p (range_with_len 0 c.loop-c.c)) in
          grind (arith, common_steps, more, none, end)
    ]

pub returns : goal.returns
returns c =
    let q = (volume_from c.args.survey.now).lost in
    let end : c.loop-c.c ≡ c.div_ceil-clusters.result = omega arith in
    let all = end ∙ clusters_are c.args.survey.now c.requires.survey c.div_ceil-clusters.result c.from.result (omega arith) c.div_ceil-clusters.ensures in
    lost_is c.args.survey.now c.requires.survey _ (c.loop-c.invariant ∙ ap (λ n. filter q (range_with_len 0 n)) all)
