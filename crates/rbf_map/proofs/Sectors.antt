-- A sector of the map: its bytes, and zeros behind the end of the map.
use Rattle.std.proofs.Common.{◌≡◌, ℕ, ◌+◌, ◌-◌, ◌*◌, ◌<◌, ◌≤◌, min, List, ◌++◌, length, take, drop, get_or, ap, sym, ◌∙◌, ⊎_elim, arith, length-append}
use Rattle.std.specs.Prelude.{replicate}
use Rattle.std.proofs.lemmas.Bool.{cases_lt}
use Rattle.std.proofs.lemmas.List.{get_or-take, get_or-drop, get_or-replicate, get_or_append_left, get_or-append_right, get_or_past, length-drop, length-replicate, length-take-le}
use Rattle.rbf_model.specs.ClusterMap.{IsSectorOf}

module _ (bytes : List ℕ) (n start count : ℕ) (begins : start ≡ min (length bytes) (256 * n)) (ends : count ≡ min (length (take (length bytes - start) (drop start bytes))) 256) where
  abbrev rest : List ℕ
  rest = take (length bytes - start) (drop start bytes)

  abbrev zeros : List ℕ
  zeros = drop count (replicate 256 0)

  left : length rest ≡ length bytes - start
  left = length-take-le (length bytes - start) (drop start bytes) (let behind = length-drop start bytes in omega arith)

  size : length (take count rest) ≡ count
  size = length-take-le count rest (omega arith)

  behind : length zeros ≡ 256 - count
  behind = let zero : ℕ = 0 in length-drop count (replicate 256 zero) ∙ ap (λ k. k - count) (length-replicate 256 zero)

  in_map : (i : ℕ) → i < count → get_or (take count rest ++ zeros) i 0 ≡ get_or bytes (256 * n + i) 0
  in_map i low =
      let few = left in
      let place : start + i ≡ 256 * n + i = omega arith in
      get_or_append_left (take count rest) zeros 0 i (omega (arith, size)) ∙ get_or-take count rest i 0 low ∙ get_or-take (length bytes - start) (drop start bytes) i 0 (omega arith)
      ∙ get_or-drop start bytes i 0 ∙ ap (λ k. get_or bytes k 0) place

  past_map : (i : ℕ) → count ≤ i → i < 256 → get_or (take count rest ++ zeros) i 0 ≡ get_or bytes (256 * n + i) 0
  past_map i late low =
      let few = left in
      get_or-append_right (take count rest) zeros count i 0 size late ∙ get_or-drop count (replicate 256 0) (i - count) 0 ∙ get_or-replicate 256 (count + (i - count)) 0 0 (omega arith)
      ∙ sym (get_or_past bytes (256 * n + i) 0 (omega arith))

  pub sector_is : IsSectorOf bytes n (take count rest ++ zeros)
  sector_is = record {
    length = length-append (take count rest) zeros ∙ (let a = size in let b = behind in omega arith);
    each = λ i low. ⊎_elim (λ inside. in_map i inside) (λ past. past_map i past low) (cases_lt i count);
  }
