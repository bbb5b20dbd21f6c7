-- What the fields of an `RbfMap` keep where a mark changes.
use Rattle.std.proofs.Common.{◌≡◌, ℕ, sym, ◌+◌, ◌-◌, ◌<◌, ◌≤◌, ap, ◌∙◌, inl, inr, min, Vec, Global, arith}
use Rattle.std.proofs.lemmas.Bool.{cases_eq}
use Rattle.rbf_map.specs.declared.map.RbfMap.TheInside.{Inside}
use Rattle.rbf_model.specs.ClusterMap.{mark, ChangesMark}
use Rattle.rbf_map.specs.Inside.{map_of, HoldsMap}
use Rattle.rbf_map.specs.Runs.{is_clear, is_clear_below}
use Rattle.rbf_map.specs.Search.{IsLongestWith}
use Rattle.rbf_map.proofs.Searched.{clear_is, clear_parts, still_longest, longest_is}
use Rattle.rbf_map.proofs.Marks.{clear_below-set, clear_below-cleared, clear_below-apart}

module _ (inside : Inside) (kept : HoldsMap inside) (bytes : Vec ℕ Global) (cluster : ℕ) where
  pub taken : ChangesMark inside.bytes.items bytes.items cluster 1 → mark inside.bytes.items cluster ≡ 0 → cluster < inside.whole → HoldsMap (record inside { bytes = bytes; free = inside.free - 1 })
  taken changes clear whole =
      let fewer = clear_below-set inside.bytes.items bytes.items cluster inside.whole changes clear whole in
      let counted = kept.counted in
      record {
        whole_ones = kept.whole_ones;
        bits = omega (arith, kept.bits, changes.same_length);
        counted = omega arith;
        first_whole = kept.first_whole;
        used_before = λ k before. elim (cases_eq k cluster) [
          | inl same ↦ ap (mark bytes.items) same ∙ changes.there
          | inr apart ↦ changes.others k apart ∙ kept.used_before k before
        ];
        none_longer = still_longest (map_of inside) (map_of (record inside { bytes = bytes })) inside.longest (λ k free.
            let parts = clear_parts bytes.items inside.whole k free in
            clear_is inside.bytes.items inside.whole k parts.0
            (sym (changes.others k (λ same. let there = changes.there in absurd (omega (arith, parts.1, ap (mark bytes.items) same)))) ∙ parts.1)) kept.none_longer;
      }

  pub given_back : ChangesMark inside.bytes.items bytes.items cluster 0 → mark inside.bytes.items cluster ≡ 1 → cluster < inside.whole → (first longest : ℕ) → first ≡ min inside.first cluster
      → IsLongestWith (is_clear_below bytes.items inside.whole) cluster inside.whole inside.longest longest
      → HoldsMap (record inside { bytes = bytes; free = inside.free + 1; first = first; longest = longest })
  given_back changes set whole first longest least with_it =
      let more = clear_below-cleared inside.bytes.items bytes.items cluster inside.whole changes set whole in
      let counted = kept.counted in
      record {
        whole_ones = kept.whole_ones;
        bits = omega (arith, kept.bits, changes.same_length);
        counted = omega arith;
        first_whole = omega (arith, kept.first_whole);
        used_before = λ k before. changes.others k (λ same. absurd (omega arith)) ∙ kept.used_before k (omega arith);
        none_longer = longest_is (map_of inside) (map_of (record inside { bytes = bytes })) cluster inside.longest longest (λ k apart free.
            let parts = clear_parts bytes.items inside.whole k free in
            clear_is inside.bytes.items inside.whole k parts.0 (sym (changes.others k apart) ∙ parts.1)) kept.none_longer with_it;
      }

  pub part_given_back : ChangesMark inside.bytes.items bytes.items cluster 0 → inside.whole ≤ cluster → HoldsMap (record inside { bytes = bytes })
  part_given_back changes part =
      let same = clear_below-apart inside.bytes.items bytes.items cluster 0 inside.whole changes part in
      let counted = kept.counted in
      let first_whole = kept.first_whole in
      record {
        whole_ones = kept.whole_ones;
        bits = omega (arith, kept.bits, changes.same_length);
        counted = omega arith;
        first_whole = first_whole;
        used_before = λ k before. changes.others k (λ same. absurd (omega arith)) ∙ kept.used_before k before;
        none_longer = still_longest (map_of inside) (map_of (record inside { bytes = bytes })) inside.longest (λ k free.
            let parts = clear_parts bytes.items inside.whole k free in
            clear_is inside.bytes.items inside.whole k parts.0 (sym (changes.others k (λ same. absurd (omega (arith, parts.0)))) ∙ parts.1)) kept.none_longer;
      }
