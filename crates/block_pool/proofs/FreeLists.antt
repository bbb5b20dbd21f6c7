-- What taking, naming and giving back a block leave of the free list.
use Rattle.std.proofs.Common.{◌≡◌, ◌≢◌, ℕ, ◌+◌, ◌<◌, ◌==◌, List, [], ◌∷◌, ◌++◌, length, get_or, set, count_by, arith, sym, ap, ◌∙◌, cond, subst, refl, replicate, zero, suc}
use Rattle.std.proofs.lemmas.List.{get_or_append_left, get_or_push, length_push, length-set, get_or-set_same, get_or-set_other, get_or_past, length-replicate, get_or-replicate}
use Rattle.std.proofs.lemmas.List.Sums.{sum_by-set, sum_by-cons, count_by-le-length}
use Rattle.std.proofs.lemmas.List.Quantifiers.{all_pairs_push}
use Rattle.std.proofs.lemmas.List.Elements.{All-push}
use Rattle.std.proofs.lemmas.Grind.{common_steps}
use Rattle.std.proofs.lemmas.Bool.Decides.{nat_tests}
use Rattle.block_pool.specs.FreeList.{IsUnreferenced, IsFreeList}
use Rattle.proc_model.specs.declared.group.BlockId.{BlockId}

-- the number of zeros after a write at one place
zeros-set : (counts : List ℕ) (at count : ℕ) → at < length counts → count_by (λ c. c == 0) (set counts at count) +
    cond (get_or counts at 0 == 0) 1 0 ≡ count_by (λ c. c == 0) counts + cond (count == 0) 1 0
zeros-set counts at count within = sum_by-set (λ c. cond (c == 0) 1 0) counts at count 0 within

-- a block that is taken leaves the list
pub IsFreeList-pop : (counts : List ℕ) (free : List BlockId) (id : BlockId) → IsFreeList counts (free ++ id ∷ []) → IsFreeList (set counts id.0 1) free
IsFreeList-pop counts free id list =
    let longer = length_push free id in
    let last : (d : BlockId) → get_or (free ++ id ∷ []) (length free) d ≡ id = λ d. get_or_push free id d (length free) refl in
    let here : (k : ℕ) (d : BlockId) → k < length free → get_or (free ++ id ∷ []) k d ≡ get_or free k d = λ k d within. get_or_append_left free (id ∷ []) d k within in
    let was : IsUnreferenced counts id = subst (IsUnreferenced counts) (last id) (list.unnamed (length free) id (omega arith)) in
    let apart : (k : ℕ) (d : BlockId) → k < length free → (get_or free k d).0 ≢ id.0 = λ k d within e. list.once k
    (length free) d within (omega arith) (ap (λ (b : BlockId). b.0) (here k d within) ∙ e ∙ sym
    (ap (λ (b : BlockId). b.0) (last d))) in
    record {
      unnamed = λ k d within.
          let named_not : IsUnreferenced counts (get_or free k d) = subst (IsUnreferenced counts) (here k d within) (list.unnamed k d (omega arith)) in
          (omega (arith, length-set counts id.0 1, named_not.0), get_or-set_other counts id.0 (get_or free k d).0 1 0 (apart k d within) ∙ named_not.1);
      once = λ i j d below within e.
          list.once i j d below (omega arith) (ap (λ (b : BlockId). b.0) (here i d (omega arith)) ∙ e ∙ sym (ap (λ (b : BlockId). b.0) (here j d within)));
      whole = grind (arith, nat_tests, zeros-set counts id.0 1 was.0, was.1, list.whole, longer);
    }

-- a block that is given back by the last that named it joins the list
pub IsFreeList-push : (counts : List ℕ) (free : List BlockId) (id : BlockId) → get_or counts id.0 0 ≡ 1 → IsFreeList counts free → IsFreeList (set counts id.0 0) (free ++ id ∷ [])
IsFreeList-push counts free id named list =
    let within : id.0 < length counts = grind (arith, get_or_past counts id.0 0) in
    let apart : (k : ℕ) (d : BlockId) → k < length free → (get_or free k d).0 ≢ id.0 = λ k d inside e. absurd
    (omega (arith, sym (list.unnamed k d inside).1 ∙ ap (λ b. get_or counts b 0) e ∙ named)) in
    record {
      unnamed = All-push (IsUnreferenced (set counts id.0 0)) free id
          (λ k d inside. (omega (arith, length-set counts id.0 0, (list.unnamed k d inside).0), get_or-set_other counts id.0 (get_or free k d).0 0 0 (apart k d inside) ∙ (list.unnamed k d inside).1))
          (omega (arith, length-set counts id.0 0), get_or-set_same counts id.0 0 0 within);
      once = all_pairs_push (λ (a b : BlockId). a.0 ≢ b.0) free id list.once apart;
      whole = grind (arith, nat_tests, zeros-set counts id.0 0 within, named, list.whole, length_push free id);
    }

-- a block that stays named is not in the list
pub IsFreeList-recount : (counts : List ℕ) (free : List BlockId) (id : BlockId) (count : ℕ) → 0 < get_or counts id.0 0 → 0 < count → IsFreeList counts free → IsFreeList (set counts id.0 count) free
IsFreeList-recount counts free id count named still list = record {
  unnamed = λ k d within. grind (arith, common_steps, list.unnamed k d within);
  once = list.once;
  whole = grind (arith, nat_tests, common_steps, zeros-set counts id.0 count, list.whole);
}

-- the same, of the counts and the list that a call left
pub IsFreeList-given : (counts : List ℕ) (free more : List BlockId) (id : BlockId) (count : ℕ) → get_or counts id.0 0
    ≡ 1 → count ≡ 0 → more ≡ free ++ id ∷ [] → IsFreeList counts free → IsFreeList (set counts id.0 count) more
IsFreeList-given counts free more id count named none grown list =
    subst (λ c. IsFreeList (set counts id.0 c) more) (sym none) (subst (IsFreeList (set counts id.0 0)) (sym grown) (IsFreeList-push counts free id named list))

-- while something names a block, the list has fewer blocks than the pool
pub IsFreeList-room : (counts : List ℕ) (free : List BlockId) (id : BlockId) → 0 < get_or counts id.0 0 → IsFreeList counts free → length free < length counts
IsFreeList-room counts free id named list =
    let within : id.0 < length counts = grind (arith, get_or_past counts id.0 0) in
    grind (arith, nat_tests, zeros-set counts id.0 0 within, list.whole, length-set counts id.0 0, count_by-le-length (λ c. c == 0) (set counts id.0 0))

-- so many blocks that nothing names
zeros-replicate : (n : ℕ) → count_by (λ c. c == 0) (replicate n 0) ≡ n
zeros-replicate zero = refl
zeros-replicate (suc n) = omega (arith, sum_by-cons (λ c. cond (c == 0) 1 0) 0 (replicate n 0), zeros-replicate n)

-- the numbers of all blocks, where nothing names any
pub IsFreeList-all : (free : List BlockId) (n : ℕ) → length free ≡ n → ((k : ℕ) (d : BlockId) → k < n → (get_or free k d).0 ≡ k) → IsFreeList (replicate n 0) free
IsFreeList-all free n counted numbered = record {
  unnamed = λ k d within.
      let at : (get_or free k d).0 ≡ k = numbered k d (omega arith) in
      (omega (arith, length-replicate {A = ℕ} n 0), get_or-replicate {A = ℕ} n (get_or free k d).0 0 0 (omega arith));
  once = λ i j d below within e. absurd (omega (arith, numbered i d (omega arith), numbered j d (omega arith)));
  whole = counted ∙ sym (zeros-replicate n);
}
