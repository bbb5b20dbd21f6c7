-- The clusters that are given up, one after the other.
use Rattle.std.proofs.Common.{◌≡◌, ℕ, ◌+◌, ◌/◌, ◌<◌, ◌≤◌, max, Bool, true, false, not, ◌==◌, ◌&&◌, ◌||◌, List, length, refl, sym, ap, ◌∙◌, ⊎_elim, arith, eq-eqb, eqb-true}
use Rattle.std.specs.Prelude.{nat_le, nat_lt}
use Rattle.std.proofs.lemmas.Bool.{and_parts, and_from, both_ways, false_from_ne_true, not-true, not_from_false, cases_Bool, cases_eq}
use Rattle.rbf_model.specs.ClusterMap.{ClusterMap}
use Rattle.rbf_alloc.specs.declared.own.OwnSectors.{OwnSectors}
use Rattle.rbf_alloc.specs.declared.own.Stretch.{Stretch}
use Rattle.rbf_alloc.specs.Own.{own_segments, in_segment, in_part, in_own, in_stretch, here, AreInMap, NoneHere, ClearsIn, ClearsMarks}
use Rattle.rbf_alloc.proofs.OwnParts.{in_front, part_in_own, none_here, front_more, front_all, front_in, front_here, here_all}
use Rattle.rbf_alloc.proofs.ClearedMarks.{none_cleared, then_cleared, as_cleared, none_freed, then_freed, as_freed}
use Rattle.rbf_alloc.proofs.Stretches.{within, bounds, none_between, one_more, all_between}
use Rattle.rbf_alloc.specs.declared.rest.CutSectors.{CutSectors}
use Rattle.rbf_alloc.specs.Rest.{in_rest, in_rest_of, AllKept, IsRest}

either : (a b x : Bool) → ((a && x) || (b && x)) ≡ ((a || b) && x)
either true true true = refl
either true true false = refl
either true false true = refl
either true false false = refl
either false b x = refl

swap : (f n t : Bool) → ((f && n) && t) ≡ ((f && t) && n)
swap true true true = refl
swap true true false = refl
swap true false true = refl
swap true false false = refl
swap false n t = refl

and_true : (t : Bool) → (t && true) ≡ t
and_true true = refl
and_true false = refl

module _ (q : ℕ → Bool) (first at c : ℕ) (begun : first ≤ at) where
  one_at : ((c == at) && not (q at)) ≡ ((c == at) && not (q c))
  one_at = ⊎_elim
      (λ same. ap (λ x. (c == at) && not (q x)) (sym (eqb-true c at same)))
      (λ differ. ap (λ t. t && not (q at)) differ ∙ sym (ap (λ t. t && not (q c)) differ))
      (cases_Bool (c == at))

  pub rest_more : (((nat_le first c && nat_lt c at) && not (q c)) || ((c == at) && not (q at))) ≡ ((nat_le first c && nat_lt c (at + 1)) && not (q c))
  rest_more =
      ap (λ t. ((nat_le first c && nat_lt c at) && not (q c)) || t) one_at
      ∙ either (nat_le first c && nat_lt c at) (c == at) (not (q c)) ∙ ap (λ t. t && not (q c)) (one_more first at c begun)

-- Clusters of a stretch.

pub record IsRestCleared (q : ℕ → Bool) (place : ℕ) (part : Stretch) (old now : List ℕ) (at : ℕ) : Type 0 where
  pub begun : part.first ≤ at
  pub most : at ≤ max part.first part.end
  pub cleared : ClearsIn place old now (λ c. (nat_le part.first c && nat_lt c at) && not (q c))

pub rest_cleared_none : (q : ℕ → Bool) (place : ℕ) (part : Stretch) (old : List ℕ) → IsRestCleared q place part old old part.first
rest_cleared_none q place part old = record {
  begun = omega arith;
  most = omega arith;
  cleared = none_cleared place old (λ c. (nat_le part.first c && nat_lt c part.first) && not (q c)) (λ c. ap (λ t. t && not (q c)) (none_between part.first part.first c (omega arith)));
}

pub rest_cleared_more : (q : ℕ → Bool) (place : ℕ) (part : Stretch) (old now new : List ℕ) (at : ℕ) → at < part.end
    → IsRestCleared q place part old now at → ClearsIn place now new (λ c. (c == at) && not (q at))
    → IsRestCleared q place part old new (at + 1)
rest_cleared_more q place part old now new at low far one = record {
  begun = let begun = far.begun in omega arith;
  most = omega arith;
  cleared = then_cleared place old now new (λ c. (nat_le part.first c && nat_lt c at) && not (q c)) (λ c. (c == at) && not (q at)) (λ c. (nat_le part.first c && nat_lt c (at + 1)) && not (q c))
      (λ c h. rest_more q part.first at c far.begun) far.cleared one;
}

pub rest_cleared_all : (q : ℕ → Bool) (place : ℕ) (part : Stretch) (old now : List ℕ) (at : ℕ) → part.end ≤ at
    → IsRestCleared q place part old now at → ClearsIn place old now (λ c. in_stretch part c && not (q c))
rest_cleared_all q place part old now at past far =
    as_cleared place old now (λ c. (nat_le part.first c && nat_lt c at) && not (q c))
    (λ c. in_stretch part c && not (q c)) (λ c h. ap (λ t. t && not (q c))
    (all_between part.first part.end at c past far.most)) far.cleared

pub record IsRestFreed (q : ℕ → Bool) (part : Stretch) (old now : ClusterMap) (at : ℕ) : Type 0 where
  pub begun : part.first ≤ at
  pub most : at ≤ max part.first part.end
  pub freed : ClearsMarks old now (λ c. (nat_le part.first c && nat_lt c at) && not (q c))

pub rest_freed_none : (q : ℕ → Bool) (part : Stretch) (old : ClusterMap) → IsRestFreed q part old old part.first
rest_freed_none q part old = record {
  begun = omega arith;
  most = omega arith;
  freed = none_freed old (λ c. (nat_le part.first c && nat_lt c part.first) && not (q c)) (λ c. ap (λ t. t && not (q c)) (none_between part.first part.first c (omega arith)));
}

pub rest_freed_more : (q : ℕ → Bool) (part : Stretch) (old now new : ClusterMap) (at : ℕ) → at < part.end
    → IsRestFreed q part old now at → ClearsMarks now new (λ c. (c == at) && not (q at))
    → IsRestFreed q part old new (at + 1)
rest_freed_more q part old now new at low far one = record {
  begun = let begun = far.begun in omega arith;
  most = omega arith;
  freed = then_freed old now new (λ c. (nat_le part.first c && nat_lt c at) && not (q c)) (λ c. (c == at) && not (q at)) (λ c. (nat_le part.first c && nat_lt c (at + 1)) && not (q c))
      (λ c. rest_more q part.first at c far.begun) far.freed one;
}

pub rest_freed_all : (q : ℕ → Bool) (part : Stretch) (old now : ClusterMap) (at : ℕ) → part.end ≤ at → IsRestFreed q part old now at → ClearsMarks old now (λ c. in_stretch part c && not (q c))
rest_freed_all q part old now at past far =
    as_freed old now (λ c. (nat_le part.first c && nat_lt c at) && not (q c)) (λ c. in_stretch part c && not (q c))
    (λ c. ap (λ t. t && not (q c)) (all_between part.first part.end at c past far.most)) far.freed

-- the next cluster has its mark there, and is in the map if it is given up
pub next_there : (place : ℕ) (part : Stretch) (at : ℕ) → part.first ≤ at → at < part.end → ((c : ℕ) → in_stretch part c ≡ true → c / 2048 ≡ place) → at / 2048 ≡ place
next_there place part at begun low there = there at (within part.first part.end at begun low)

pub next_rest_in_map : (q : ℕ → Bool) (part : Stretch) (old now : ClusterMap) (at : ℕ) → at < part.end
    → AreInMap (λ c. in_stretch part c && not (q c)) old → IsRestFreed q part old now at → q at ≡ false → at < now.clusters
next_rest_in_map q part old now at low all far given =
    let there : at < old.clusters = all at (and_from (in_stretch part at) (not (q at)) (within part.first part.end at far.begun low) (not_from_false (q at) given)) in
    let same = far.freed.clusters in
    omega arith

-- Segments.

pub front_rest : (k place i c : ℕ) (own : OwnSectors) (q : ℕ → Bool) (part : Stretch) → i < length (own_segments own)
    → ((c : ℕ) → in_stretch part c ≡ here (in_part k own i) place c) → c / 2048 ≡ place
    → ((in_front k own i c && not (q c)) || (in_stretch part c && not (q c))) ≡ (in_front k own (i + 1) c && not (q c))
front_rest k place i c own q part low is there = either (in_front k own i c) (in_stretch part c) (not (q c)) ∙ ap (λ t. t && not (q c)) (front_in k place i c own part low is there)

pub front_rest_here : (k place i c : ℕ) (own : OwnSectors) (q : ℕ → Bool) (part : Stretch) → i < length (own_segments own) → ((c : ℕ) → in_stretch part c ≡ here (in_part k own i) place c)
    → (here (λ d. in_front k own i d && not (q d)) place c || (in_stretch part c && not (q c))) ≡ here (λ d. in_front k own (i + 1) d && not (q d)) place c
front_rest_here k place i c own q part low is =
    ap (λ t. t || (in_stretch part c && not (q c))) (swap (in_front k own i c) (not (q c)) (c / 2048 == place))
    ∙ either (here (in_front k own i) place c) (in_stretch part c) (not (q c))
    ∙ ap (λ t. t && not (q c)) (front_here k place i c own part low is)
    ∙ sym (swap (in_front k own (i + 1) c) (not (q c)) (c / 2048 == place))

pub rest_here_all : (k place i : ℕ) (own : OwnSectors) (q : ℕ → Bool) → length (own_segments own) ≤ i → (c : ℕ)
    → here (λ d. in_front k own i d && not (q d)) place c ≡ here (λ d. in_own k own d && not (q d)) place c
rest_here_all k place i own q past c = ap (λ t. (t && not (q c)) && (c / 2048 == place)) (front_all k own i c past)

pub part_of_rest : (k place i : ℕ) (cut : CutSectors) (part : Stretch) (old now : ClusterMap) → i < length (own_segments cut.old) → ((c : ℕ) → in_stretch part c ≡ here (in_part k cut.old i) place c)
    → AreInMap (in_rest k cut) old → now.clusters ≡ old.clusters → AreInMap (in_rest_of k cut part) now
part_of_rest k place i cut part old now low is all same c h =
    let parts = and_parts (in_stretch part c) (not (in_own k cut.kept c)) h in
    let own : in_own k cut.old c ≡ true = part_in_own k cut.old i c low (and_parts (in_part k cut.old i c) (c / 2048 == place) (sym (is c) ∙ parts.0)).0 in
    let there : c < old.clusters = all c (and_from (in_own k cut.old c) (not (in_own k cut.kept c)) own parts.1) in
    omega arith

-- Is a cluster kept?

in_part_is : (k place i c : ℕ) (own : OwnSectors) (part : Stretch) → ((c : ℕ) → in_stretch part c ≡ here (in_part k own i) place c) → c / 2048 ≡ place → in_part k own i c ≡ in_stretch part c
in_part_is k place i c own part is there = sym (is c ∙ ap (λ t. in_part k own i c && t) (eq-eqb (c / 2048) place there) ∙ and_true (in_part k own i c))

pub kept_by : (k place i c : ℕ) (own : OwnSectors) (part : Stretch) → i < length (own_segments own)
    → ((c : ℕ) → in_stretch part c ≡ here (in_part k own i) place c) → c / 2048 ≡ place → part.first ≤ c → c < part.end
    → true ≡ in_own k own c
kept_by k place i c own part low is there from to = sym (part_in_own k own i c low (in_part_is k place i c own part is there ∙ within part.first part.end c from to))

pub not_kept_by : (k place i c : ℕ) (own : OwnSectors) (part : Stretch) → i < length (own_segments own)
    → ((c : ℕ) → in_stretch part c ≡ here (in_part k own i) place c) → c / 2048 ≡ place → in_front k own i c ≡ false
    → (part.first ≤ c → c < part.end → ⊥)
    → in_front k own (i + 1) c ≡ false
not_kept_by k place i c own part low is there none out =
    sym (front_more k own i c low) ∙ ap (λ t. t || in_part k own i c) none
    ∙ in_part_is k place i c own part is there ∙ false_from_ne_true (in_stretch part c) (λ h. let b = bounds part.first part.end c h in out b.0 b.1)

pub kept_by_none : (k i c : ℕ) (own : OwnSectors) → length (own_segments own) ≤ i → in_front k own i c ≡ false → false ≡ in_own k own c
kept_by_none k i c own past none = sym (sym (front_all k own i c past) ∙ none)

-- The first that is given up.

pub all_kept_more : (k at : ℕ) (cut : CutSectors) (first : ℕ)
    → ((c : ℕ) → first ≤ c → c < at → in_own k cut.kept c ≡ true) → in_own k cut.kept at ≡ true → (c : ℕ) → first ≤ c
    → c < at + 1 → in_own k cut.kept c ≡ true
all_kept_more k at cut first far here_is c from to = ⊎_elim
    (λ same. ap (in_own k cut.kept) same ∙ here_is)
    (λ differ. let ne : c ≡ at → ⊥ = differ in far c from (omega arith))
    (cases_eq c at)

pub all_are_kept : (k at : ℕ) (cut : CutSectors) (part : Stretch) → part.end ≤ at → ((c : ℕ) → part.first ≤ c → c < at → in_own k cut.kept c ≡ true) → AllKept k cut part
all_are_kept k at cut part past far c h = let b = bounds part.first part.end c h in let high = b.1 in far c b.0 (omega arith)

pub none_rest_more : (k place i : ℕ) (cut : CutSectors) (part : Stretch) → i < length (own_segments cut.old) → ((c : ℕ) → in_stretch part c ≡ here (in_part k cut.old i) place c) → AllKept k cut part
    → ((c : ℕ) → here (λ d. in_front k cut.old i d && not (in_own k cut.kept d)) place c ≡ false) → (c : ℕ) → here (λ d. in_front k cut.old (i + 1) d && not (in_own k cut.kept d)) place c ≡ false
none_rest_more k place i cut part low is kept far c =
    sym (front_rest_here k place i c cut.old (in_own k cut.kept) part low is) ∙ ap (λ t. t || (in_stretch part c && not (in_own k cut.kept c))) (far c)
    ∙ false_from_ne_true (in_stretch part c && not (in_own k cut.kept c)) (λ h.
    let parts = and_parts (in_stretch part c) (not (in_own k cut.kept c)) h in
    both_ways (in_own k cut.kept c) (not-true (in_own k cut.kept c) parts.1) (kept c parts.0))

pub none_rest : (k place i : ℕ) (cut : CutSectors) → length (own_segments cut.old) ≤ i
    → ((c : ℕ) → here (λ d. in_front k cut.old i d && not (in_own k cut.kept d)) place c ≡ false)
    → NoneHere (in_rest k cut) place
none_rest k place i cut past far c = sym (rest_here_all k place i cut.old (in_own k cut.kept) past c) ∙ far c

pub some_rest : (k place i c : ℕ) (cut : CutSectors) (part : Stretch) → i < length (own_segments cut.old)
    → ((c : ℕ) → in_stretch part c ≡ here (in_part k cut.old i) place c) → IsRest k cut part c
    → here (in_rest k cut) place c ≡ true
some_rest k place i c cut part low is rest =
    let parts = and_parts (in_part k cut.old i c) (c / 2048 == place) (sym (is c) ∙ rest.in_part) in
    and_from (in_rest k cut c) (c / 2048 == place) (and_from (in_own k cut.old c) (not (in_own k cut.kept c))
    (part_in_own k cut.old i c low parts.0) (not_from_false (in_own k cut.kept c) rest.given_up)) parts.1
