-- How often blocks are named after several were taken, shared or given back.
use Rattle.std.proofs.Common.{◌≡◌, ◌≢◌, ℕ, ◌+◌, ◌-◌, ◌<◌, ◌≤◌, ◌==◌, Option, Some, None, List, [], ◌∷◌, ◌++◌, length, get_or, set, take, drop, All, count_by, sum_by, cond, arith, sym, ap, ◌∙◌, subst, refl, zero, suc, inl, inr}
use Rattle.std.specs.Option.{IfNone, IfSome}
use Rattle.std.proofs.lemmas.List.{get_or-set_same, get_or-set_other, get_or_past, set_past, length-set, take_more_set, take_more, map_push, length-take, get_or-take}
use Rattle.std.proofs.lemmas.List.Sums.{sum_by-set, sum_by-cons, fold-append}
use Rattle.std.proofs.lemmas.Bool.Decides.{nat_tests}
use Rattle.std.proofs.lemmas.List.Elements.{All-head, All-tail, filter_map-append}
use Rattle.std.proofs.lemmas.Option.{same_Some, none-some}
use Rattle.std.proofs.lemmas.Bool.{cases_eq, cases_lt, cond-false, ne_eqb}
use Rattle.block_pool.specs.Blocks.{Blocks, IsLive, IsFreeBlock, reference_count, free_block_count, pool_after_take, pool_after_share, pool_after_give}
use Rattle.proc_model.specs.declared.group.BlockId.{BlockId}
use Rattle.proc_model.specs.Slots.{filled_places, blocks_in}
use Rattle.block_map.specs.TakenBlocks.{TakesBlocks, AreNewBlocks, pool_after_sharing, pool_after_giving}
use Rattle.block_map.proofs.Places.{at, Once, at-within, at_rest, All-named_in, same_id}

-- a live block is one of the pool
pub live-within : (pool : Blocks) (block : ℕ) → IsLive pool block → block < length pool.counts
live-within pool block live = grind (arith, get_or_past pool.counts block 0)

-- a block that is taken is live, and the count of another one stays
pub live_after_taken : (pool : Blocks) (block other : ℕ) → IsFreeBlock pool block → IsLive pool other → IsLive (pool_after_take pool block) other
live_after_taken pool block other free live =
    elim (cases_eq other block) [
      | inl same ↦ absurd (omega (arith, ap (reference_count pool) same))
      | inr apart ↦ omega (arith, get_or-set_other pool.counts block other 1 0 apart)
    ]

pub taken_is_live : (pool : Blocks) (block : ℕ) → IsFreeBlock pool block → IsLive (pool_after_take pool block) block
taken_is_live pool block free = omega (arith, get_or-set_same pool.counts block 1 0 free.0)

free_before_taken : (pool : Blocks) (block other : ℕ) → IsFreeBlock pool block → IsFreeBlock (pool_after_take pool block) other → (other ≢ block) × IsFreeBlock pool other
free_before_taken pool block other first free =
    let apart : other ≢ block = λ same. absurd (omega (arith, ap (reference_count (pool_after_take pool block)) same, get_or-set_same pool.counts block 1 0 first.0)) in
    (apart, (omega (arith, length-set pool.counts block 1), sym (get_or-set_other pool.counts block other 1 0 apart) ∙ free.1))

-- one block more is taken
pub Takes-push : (pool middle after : Blocks) (ids : List BlockId) (id : BlockId) → TakesBlocks pool ids middle
    → IsFreeBlock middle id.0 → after ≡ pool_after_take middle id.0 → TakesBlocks pool (ids ++ id ∷ []) after
Takes-push pool middle after [] id took free then' = (subst (λ (p : Blocks). IsFreeBlock p id.0) took free, then' ∙ ap (λ (p : Blocks). pool_after_take p id.0) took)
Takes-push pool middle after (x ∷ ids) id took free then' = (took.0, Takes-push (pool_after_take pool x.0) middle after ids id took.1 free then')

-- what was live is live after blocks were taken
pub Takes-live : (pool after : Blocks) (ids : List BlockId) (block : ℕ) → TakesBlocks pool ids after → IsLive pool block → IsLive after block
Takes-live pool after [] block took live = subst (λ (p : Blocks). IsLive p block) (sym took) live
Takes-live pool after (x ∷ ids) block took live = Takes-live (pool_after_take pool x.0) after ids block took.1 (live_after_taken pool x.0 block took.0 live)

-- each block that was taken was free before
pub Takes-free : (pool after : Blocks) (ids : List BlockId) (k : ℕ) (id : BlockId) → TakesBlocks pool ids after → at (filled_places ids) k ≡ Some id → IsFreeBlock pool id.0
Takes-free pool after [] k id took named = absurd (none-some id named)
Takes-free pool after (x ∷ ids) zero id took named = subst (λ (b : BlockId). IsFreeBlock pool b.0) (same_Some x id named) took.0
Takes-free pool after (x ∷ ids) (suc k) id took named = (free_before_taken pool x.0 id.0 took.0 (Takes-free (pool_after_take pool x.0) after ids k id took.1 named)).1

-- and is live afterwards
pub Takes-named : (pool after : Blocks) (ids : List BlockId) (k : ℕ) (id : BlockId) → TakesBlocks pool ids after → at (filled_places ids) k ≡ Some id → IsLive after id.0
Takes-named pool after [] k id took named = absurd (none-some id named)
Takes-named pool after (x ∷ ids) zero id took named = subst (λ (b : BlockId). IsLive after b.0) (same_Some x id named)
    (Takes-live (pool_after_take pool x.0) after ids x.0 took.1 (taken_is_live pool x.0 took.0))
Takes-named pool after (x ∷ ids) (suc k) id took named = Takes-named (pool_after_take pool x.0) after ids k id took.1 named

-- no block was taken twice
pub Takes-once : (pool after : Blocks) (ids : List BlockId) → TakesBlocks pool ids after → Once (filled_places ids)
Takes-once pool after [] took k other id here there = absurd (none-some id here)
Takes-once pool after (x ∷ ids) took zero zero id here there = refl
Takes-once pool after (x ∷ ids) took zero (suc other) id here there =
    absurd ((free_before_taken pool x.0 id.0 took.0 (Takes-free (pool_after_take pool x.0) after ids other id took.1 there)).0 (ap (λ (b : BlockId). b.0) (sym (same_Some x id here))))
Takes-once pool after (x ∷ ids) took (suc k) zero id here there =
    absurd ((free_before_taken pool x.0 id.0 took.0 (Takes-free (pool_after_take pool x.0) after ids k id took.1 here)).0 (ap (λ (b : BlockId). b.0) (sym (same_Some x id there))))
Takes-once pool after (x ∷ ids) took (suc k) (suc other) id here there = ap suc (Takes-once (pool_after_take pool x.0) after ids took.1 k other id here there)

-- the count of a block after one was shared
pub count_of-shared : (pool : Blocks) (block other : ℕ) → (reference_count pool other ≤ reference_count
    (pool_after_share pool block) other) × (reference_count (pool_after_share pool block) other ≤ reference_count pool
    other + 1)
count_of-shared pool block other =
    let count = reference_count pool block + 1 in
    elim (cases_eq other block) [
      | inl same ↦
          elim (cases_lt block (length pool.counts)) [
            | inl within ↦
                let now = ap (λ (b : ℕ). get_or (set pool.counts block count) b 0) same ∙ get_or-set_same pool.counts block count 0 within in
                let was = ap (reference_count pool) same in
                (omega arith, omega arith)
            | inr past ↦
                let now = ap (λ (counts : List ℕ). get_or counts other 0) (set_past pool.counts block count past) in
                (omega arith, omega arith)
          ]
      | inr apart ↦
          let now = get_or-set_other pool.counts block other count 0 apart in
          (omega arith, omega arith)
    ]

-- after several were shared
pub count_of-shared_all : (pool : Blocks) (ids : List BlockId) (block : ℕ)
    → (reference_count pool block ≤ reference_count (pool_after_sharing pool ids) block) ×
    (reference_count (pool_after_sharing pool ids) block ≤ reference_count pool block + length ids)
count_of-shared_all pool [] block = (omega arith, omega arith)
count_of-shared_all pool (x ∷ ids) block =
    let one = count_of-shared pool x.0 block in
    let rest = count_of-shared_all (pool_after_share pool x.0) ids block in
    (omega arith, omega arith)

-- the count of a block that is not among those given back
pub count_of-given_all : (pool : Blocks) (ids : List BlockId) (block : ℕ) → All (λ id. id.0 ≢ block) ids → reference_count (pool_after_giving pool ids) block ≡ reference_count pool block
count_of-given_all pool [] block apart = refl
count_of-given_all pool (x ∷ ids) block apart =
    count_of-given_all (pool_after_give pool x.0) ids block (All-tail (λ (id : BlockId). id.0 ≢ block) x ids apart)
    ∙ get_or-set_other pool.counts x.0 block (reference_count pool x.0 - 1) 0 (λ same. All-head (λ (id : BlockId). id.0 ≢ block) x ids apart (sym same))

-- how many counts are 0 after a write
zeros-set : (counts : List ℕ) (place count : ℕ) → place < length counts → count_by (λ c. c == 0)
    (set counts place count) + cond (get_or counts place 0 == 0) 1 0 ≡ count_by (λ c. c == 0) counts + cond
    (count == 0) 1 0
zeros-set counts place count within = sum_by-set (λ c. cond (c == 0) 1 0) counts place count 0 within

-- no count is 0 where each is positive
pub no_zeros : (counts : List ℕ) → All (λ c. 0 < c) counts → count_by (λ c. c == 0) counts ≡ 0
no_zeros [] each = refl
no_zeros (x ∷ counts) each =
    let here : cond {A = ℕ} (x == 0) 1 0 ≡ 0 = cond-false {A = ℕ} (x == 0) 1 0 (ne_eqb x 0 (λ e. absurd (omega (arith, All-head (λ c. 0 < c) x counts each)))) in
    let rest : sum_by (λ c. cond (c == 0) 1 0) counts ≡ 0 = no_zeros counts (All-tail (λ c. 0 < c) x counts each) in
    sum_by-cons (λ c. cond (c == 0) 1 0) x counts ∙ omega (arith, here, rest)

-- one place more names a new block
pub AreNew-more : (places : List (Option BlockId)) (i : ℕ) (before middle after : Blocks) (taken_one : Option BlockId)
    → i < length places → IfNone taken_one (All (λ c. 0 < c) middle.counts)
    → IfSome taken_one (λ id. IsFreeBlock middle id.0) → IfSome taken_one (λ id. after ≡ pool_after_take middle id.0)
    → 0 < free_block_count middle → AreNewBlocks (take i places) before middle
    → AreNewBlocks (take (i + 1) (set places i taken_one)) before after × (free_block_count after + 1 ≡
    free_block_count middle)
AreNew-more places i before middle after None within none free one some new = absurd (omega (arith, no_zeros middle.counts none))
AreNew-more places i before middle after (Some id) within none free one some new = (
  record {
    blocks = new.blocks ++ id ∷ [];
    named = take_more_set places i (Some id) within ∙ ap (λ (front : List (Option BlockId)). front ++ Some id ∷ []) new.named ∙ sym (map_push (λ (block : BlockId). Some block) new.blocks id);
    taken = Takes-push before middle after new.blocks id new.taken free one;
  },
  grind (arith, nat_tests, ap free_block_count one, zeros-set middle.counts id.0 1 free.0, free.1),
)

-- the next place of those that are given back names a live block, if any
pub gives_next : (pool now : Blocks) (old places : List (Option BlockId)) (i : ℕ)
    → ((k : ℕ) (id : BlockId) → at old k ≡ Some id → IsLive pool id.0) → Once old → drop i places ≡ drop i old
    → now ≡ pool_after_giving pool (blocks_in (take i old)) → (id : BlockId) → at places i ≡ Some id → IsLive now id.0
gives_next pool now old places i live once kept pool_after_give id named =
    let here : at old i ≡ Some id = sym (at_rest places old i kept) ∙ named in
    let others : All (λ (b : BlockId). b.0 ≢ id.0) (blocks_in (take i old)) = All-named_in (λ (b : BlockId). b.0 ≢ id.0) (take i old) (λ k b there same.
    let below : k < length (take i old) = at-within (take i old) k b there in
    let front = length-take i old in
    let was : at old k ≡ Some b = sym (get_or-take i old k None (omega arith)) ∙ there in
    let place = once k i id (was ∙ ap (λ (block : BlockId). Some block) (same_id b id same)) here in
    absurd (omega arith)) in
    omega (arith, ap (λ (p : Blocks). reference_count p id.0) pool_after_give, count_of-given_all pool (blocks_in (take i old)) id.0 others, live i id here)

-- what is given back after one place more
pub gives_more : (pool now after : Blocks) (old : List (Option BlockId)) (i : ℕ) → i < length old
    → now ≡ pool_after_giving pool (blocks_in (take i old)) → after ≡ pool_after_giving now
    (blocks_in (at old i ∷ [])) → after ≡ pool_after_giving pool (blocks_in (take (i + 1) old))
gives_more pool now after old i within so_far then' =
    let next = blocks_in (at old i ∷ []) in
    then' ∙ ap (λ (p : Blocks). pool_after_giving p next) so_far
    ∙ sym (fold-append (λ (p : Blocks) (id : BlockId). pool_after_give p id.0) pool (blocks_in (take i old)) next)
    ∙ ap (pool_after_giving pool) (sym (filter_map-append (λ (place : Option BlockId). place) (take i old) (at old i ∷ [])))
    ∙ ap (λ (front : List (Option BlockId)). pool_after_giving pool (blocks_in front)) (sym (take_more old i None within))
