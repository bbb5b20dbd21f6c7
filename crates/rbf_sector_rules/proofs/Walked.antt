-- A walk over all that is found.
use Rattle.std.proofs.Common.{◌≡◌, ◌↔◌, ℕ, ◌+◌, ◌<◌, ◌≤◌, Bool, true, List, [], length, get_or, sym, ap, ◌∙◌, subst, ⊎_elim, length-append, arith}
use Rattle.std.proofs.lemmas.Bool.{cases_lt, false≢true}
use Rattle.std.proofs.lemmas.List.{get_or_append_left, get_or_default}
use Rattle.rbf_model.specs.Geometry.{Geometry, IsNumber}
use Rattle.rbf_model.specs.Segments.{has}
use Rattle.rbf_model.specs.Tree.{EntryNames, ReachedFile}
use Rattle.rbf_model.specs.Tree.ReachedFile.{root, named}
use Rattle.rbf_model.proofs.Bytes.{has_place, place_of}
use Rattle.rbf_sector_rules.specs.Found.{IsSearch, IsVisited, added}
use Rattle.rbf_sector_rules.proofs.Visits.{has_extended, added_has, added_only}

-- all found are reached, the root among them, and what the first of them name is found
pub record IsWalked (g : Geometry) (dirs : ℕ → List ℕ) (found : List ℕ) (next : ℕ) : Type 0 where
  pub root_found : has found g.root ≡ true
  pub reached : (n : ℕ) → has found n ≡ true → ReachedFile g dirs n
  pub closed : (k i m : ℕ) → k < next → EntryNames (dirs (get_or found k 0)) i m → IsNumber g m → has found m ≡ true
  pub before : next ≤ length found

module _ (g : Geometry) (dirs : ℕ → List ℕ) where
  -- the root alone
  pub walked_none : (found : List ℕ) → found ≡ added [] g.root → IsWalked g dirs found 0
  walked_none found is =
      let P : List ℕ → Type 0 = λ xs. IsWalked g dirs xs 0 in
      subst P (sym is) (record {
        root_found = added_has [] g.root;
        reached = λ n h. ⊎_elim
            (λ before. absurd (false≢true before))
            (λ same. let R : ℕ → Type 0 = λ m. ReachedFile g dirs m in subst R (sym same) root)
            (added_only [] g.root n h);
        closed = λ k i m below names number. absurd (omega arith);
        before = omega arith;
      })

  -- one directory more
  pub walked_more : (old new : List ℕ) (next n : ℕ) → IsWalked g dirs old next → next < length old → n ≡ get_or old next 0 → IsVisited g (dirs n) old new → IsWalked g dirs new (next + 1)
  walked_more old new next n walked low here visited =
      let grown = visited.extends in
      let same : (k : ℕ) → k < length old → get_or new k 0 ≡ get_or old k 0 = λ k below. ap (λ xs. get_or xs k 0) grown.is ∙ get_or_append_left old grown.more 0 k below in
      let n_found : has old n ≡ true = ap (has old) here ∙ has_place old next low in
      record {
        root_found = has_extended old new g.root grown walked.root_found;
        reached = λ m h. ⊎_elim
            (λ before. walked.reached m before)
            (λ more. named (walked.reached n n_found) more.1 more.2)
            (visited.only m h);
        closed = λ k i m below names number. ⊎_elim
            (λ earlier.
            let P : ℕ → Type 0 = λ d. EntryNames (dirs d) i m in
            let b = walked.before in
            has_extended old new m grown (walked.closed k i m earlier (subst P (same k (omega arith)) names) number))
            (λ last.
            let P : ℕ → Type 0 = λ d. EntryNames (dirs d) i m in
            let at : k ≡ next = omega arith in
            let it : get_or new k 0 ≡ n = ap (λ j. get_or new j 0) at ∙ same next low ∙ sym here in
            let names_n : EntryNames (dirs n) i m = subst P it names in
            visited.named i m names_n number)
            (cases_lt k next);
        before = omega (arith, ap length grown.is, length-append old grown.more);
      }

  -- all of them
  pub all_found : (found : List ℕ) (next : ℕ) → IsWalked g dirs found next → length found ≤ next → {n : ℕ} → ReachedFile g dirs n → has found n ≡ true
  all_found found next walked all root = walked.root_found
  all_found found next walked all (named {d = d} {i = i} {n = n} from names number) =
      let d_found = all_found found next walked all from in
      let place = place_of found d d_found in
      let at : d ≡ get_or found place.0 0 = sym place.2 ∙ get_or_default found place.0 d 0 place.1 in
      let P : ℕ → Type 0 = λ e. EntryNames (dirs e) i n in
      walked.closed place.0 i n (omega (arith, place.1)) (subst P at names) number

  pub found_are : (found : List ℕ) (next : ℕ) → IsWalked g dirs found next → length found ≤ next → (n : ℕ) → (has found n ≡ true) ↔ ReachedFile g dirs n
  found_are found next walked all n =
      (λ h. walked.reached n h, λ r. all_found found next walked all r)

-- a number that is found is one of the volume
pub number_at : (seen : List Bool) (found : List ℕ) (next n total : ℕ) → IsSearch seen found → length seen ≡ total → next < length found → n ≡ get_or found next 0 → n < total
number_at seen found next n total search size low here =
    omega (arith, search.numbers (get_or found next 0) (has_place found next low))
