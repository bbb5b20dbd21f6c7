-- New blocks, one group of them after another.
use Rattle.std.proofs.Common.{◌≡◌, ◌≢◌, ◌+◌, ◌-◌, ◌<◌, ◌*◌, ◌≤◌, ◌==◌, min, ℕ, suc, List, [], ◌∷◌, ◌++◌, length, get_or, set, take, drop, replicate, map, cond, All, ◌⊎◌, inl, inr, refl, sym, ap, ◌∙◌, subst, arith}
use Rattle.std.proofs.Common.{zero-add}
use Rattle.std.proofs.Math.Seq.{take-append-add}
use Rattle.std.proofs.lemmas.List.{append-nil, nil_from_length, take_all, drop_all, take_at, drop_at, take-take, take-append-le, length-take-le, length-replicate, take-replicate, drop-replicate, set-set, length-set, length-append, get_or-set_same, get_or-set_other, map-append}
use Rattle.std.proofs.lemmas.List.Elements.{All-nil, All-cons, All-head, All-tail, All-append, All-weaker}
use Rattle.std.proofs.lemmas.List.Sums.{sum_by-cons, sum_by-append, get_or-le-sum_by}
use Rattle.std.proofs.lemmas.Bool.{cases_eq, cases_lt, cond-true, cond-false, eq-eqb, ne_eqb}
use Rattle.block_pool.specs.Blocks.{Blocks, IsPool, IsFreeBlock, IsLive, reference_count, block_bytes, with_reference_count, with_block_bytes, pool_after_take, overwritten}
use Rattle.proc_model.specs.Objects.{file_block, zero_object}
use Rattle.block_map.specs.TakenBlocks.{TakesBlocks}
use Rattle.block_map.proofs.Pools.{IsPool-taken}
use Rattle.proc_model.specs.declared.group.BlockId.{BlockId}
use Rattle.guest_memory.specs.Gains.{times_in, GainsBlocks}
use Rattle.guest_memory.proofs.Lists.{AllPairs-append, map_same}

-- ---- how often a block is among others

abbrev once_in : ℕ → BlockId → ℕ
once_in block id = cond (id.0 == block) 1 0

pub times_in-cons : (id : BlockId) (ids : List BlockId) (block : ℕ) → times_in (id ∷ ids) block ≡ cond (id.0 == block) 1 0 + times_in ids block
times_in-cons id ids block = sum_by-cons (once_in block) id ids

pub times_in-append : (ids others : List BlockId) (block : ℕ) → times_in (ids ++ others) block ≡ times_in ids block + times_in others block
times_in-append ids others block = sum_by-append (once_in block) ids others

-- a block that is none of them
pub times_in-none : (ids : List BlockId) (block : ℕ) → All (λ id. id.0 ≢ block) ids → times_in ids block ≡ 0
times_in-none [] block others = refl
times_in-none (id ∷ ids) block others =
    times_in-cons id ids block
    ∙ omega (
      arith,
      cond-false {A = ℕ} (id.0 == block) 1 0
          (ne_eqb id.0 block (All-head (λ (id : BlockId). id.0 ≢ block) id ids others)),
      times_in-none ids block
          (All-tail (λ (id : BlockId). id.0 ≢ block) id ids others),
    )

-- a block that is one of them
pub times_in-one : (ids : List BlockId) (k : ℕ) (d : BlockId) → k < length ids → 0 < times_in ids (get_or ids k d).0
times_in-one ids k d within =
    let id = get_or ids k d in
    omega (arith, get_or-le-sum_by (once_in id.0) ids k d within, cond-true {A = ℕ} (id.0 == id.0) 1 0 (eq-eqb id.0 id.0 refl))

-- where it stands
pub times_in-where : (ids : List BlockId) (block : ℕ) (d : BlockId) → 0 < times_in ids block → (k : ℕ) × (k < length ids) × ((get_or ids k d).0 ≡ block)
times_in-where [] block d some = absurd (omega arith)
times_in-where (id ∷ ids) block d some =
    elim (cases_eq id.0 block) [
      | inl same ↦ (0, omega arith, same)
      | inr differ ↦
          let rest = times_in-where ids block d (omega (arith, times_in-cons id ids block, cond-false {A = ℕ} (id.0 == block) 1 0 (ne_eqb id.0 block differ))) in
          (suc rest.0, omega (arith, rest.1), rest.2)
    ]

-- ---- blocks that are gained

-- a block that was live is live after others were gained
pub Gains-live : {before : Blocks} {group : List BlockId} {contents : List (List ℕ)} {after : Blocks} → GainsBlocks before group contents after → (block : ℕ) → IsLive before block → IsLive after block
Gains-live gains block live = omega (arith, gains.counts block)

-- a block that was gained is live
pub Gains-new : {before : Blocks} {group : List BlockId} {contents : List (List ℕ)} {after : Blocks} → GainsBlocks before group contents after → All (λ id. IsLive after id.0) group
Gains-new {group = group} gains = λ k d within. omega (arith, gains.counts (get_or group k d).0, times_in-one group k d within)

-- a block that was live is none of those that are gained, and its count stays
pub Gains-old : {before : Blocks} {group : List BlockId} {contents : List (List ℕ)} {after : Blocks}
    → GainsBlocks before group contents after → (block : ℕ) → IsLive before block → All (λ id. id.0 ≢ block) group
Gains-old {before} gains block live = λ k d within same. absurd (omega (arith, gains.were_free k d within, ap (reference_count before) same))

pub count_of-old : {before : Blocks} {group : List BlockId} {contents : List (List ℕ)} {after : Blocks}
    → GainsBlocks before group contents after → (block : ℕ) → IsLive before block → reference_count after block ≡
    reference_count before block
count_of-old {group = group} gains block live = omega (arith, gains.counts block, times_in-none group block (Gains-old gains block live))

-- none is gained
pub Gains-none : (pool : Blocks) → GainsBlocks pool [] [] pool
Gains-none pool = record {
  were_free = All-nil (λ id. IsFreeBlock pool id.0);
  different = λ i j d below within. absurd (omega arith);
  holds = refl;
  as_many = refl;
  counts = λ block. omega arith;
  kept = λ block live. refl;
}

-- one free block is
pub Gains-one : (pool : Blocks) (id : BlockId) (bytes : List ℕ) → length pool.bytes ≡ length pool.counts
    → IsFreeBlock pool id.0 → GainsBlocks pool (id ∷ []) (bytes ∷ [])
    (with_block_bytes (with_reference_count pool id.0 1) id.0 bytes)
Gains-one pool id bytes whole free = record {
  were_free = All-cons (λ id. IsFreeBlock pool id.0) id [] free (All-nil (λ id. IsFreeBlock pool id.0));
  different = λ i j d below within. absurd (omega arith);
  holds = ap (λ block. block ∷ []) (get_or-set_same pool.bytes id.0 bytes [] (omega arith));
  as_many = length-set pool.counts id.0 1;
  counts = λ block. times block (cases_eq block id.0);
  kept = λ block live. get_or-set_other pool.bytes id.0 block bytes [] (λ same. absurd (omega (arith, ap (reference_count pool) same)));
}
  where
    times : (block : ℕ) → (block ≡ id.0) ⊎ (block ≢ id.0)
        → reference_count (with_block_bytes (with_reference_count pool id.0 1) id.0 bytes) block ≡ reference_count
        pool block + times_in (id ∷ []) block
    times block (inl same) =
        omega (
          arith,
          ap (reference_count (with_reference_count pool id.0 1)) same,
          get_or-set_same pool.counts id.0 1
              0 free.0,
          ap (reference_count pool) same,
          times_in-cons id [] block,
          cond-true {A = ℕ} (id.0 == block) 1 0
              (eq-eqb id.0 block (sym same)),
        )
    times block (inr differ) =
        omega (arith, get_or-set_other pool.counts id.0 block 1 0 differ, times_in-cons id [] block, cond-false {A = ℕ} (id.0 == block) 1 0 (ne_eqb id.0 block (λ same. differ (sym same))))

-- some are, and then others
pub Gains-then : {before middle after : Blocks} {group others : List BlockId} {contents more : List (List ℕ)}
    → GainsBlocks before group contents middle → GainsBlocks middle others more after → GainsBlocks before
    (group ++ others) (contents ++ more) after
Gains-then {before} {middle} {after} {group} {others} {contents} {more} one two = record {
  were_free =
      All-append (λ id. IsFreeBlock before id.0) group others one.were_free
      (All-weaker (λ id. IsFreeBlock middle id.0) (λ id. IsFreeBlock before id.0) (λ id free. (omega (arith, one.as_many, free.0), omega (arith, one.counts id.0, free.1))) others two.were_free);
  different =
      AllPairs-append (λ a b. a ≢ b) group others one.different two.different
      (λ k d within. λ j e inside same. absurd (omega (arith, Gains-new one k d within, two.were_free j e inside, ap (λ (id : BlockId). reference_count middle id.0) same)));
  holds =
      map-append (λ (id : BlockId). block_bytes after id.0) group others
      ∙ ap (λ front. front ++ map (λ (id : BlockId). block_bytes after id.0) others)
      (map_same (λ (id : BlockId). block_bytes after id.0) (λ (id : BlockId). block_bytes middle id.0) group (λ k d within. two.kept (get_or group k d).0 (Gains-new one k d within)) ∙ one.holds)
      ∙ ap (λ back. contents ++ back) two.holds;
  as_many = two.as_many ∙ one.as_many;
  counts = λ block. omega (arith, two.counts block, one.counts block, times_in-append group others block);
  kept = λ block live. two.kept block (Gains-live one block live) ∙ one.kept block live;
}

-- ---- a block that is taken and written

-- bytes over the front of zeros
filled : (n : ℕ) (bytes : List ℕ) → length bytes ≤ n → overwritten (replicate n 0) 0 bytes ≡ take n (bytes ++ replicate n 0)
filled n bytes short =
    let rest : length bytes + (n - length bytes) ≡ n = omega arith in
    ap (λ (back : List ℕ). bytes ++ back) (ap (λ (k : ℕ). drop k (replicate n 0)) (zero-add (length bytes)) ∙ drop-replicate (length bytes) n 0)
    ∙ sym (ap (λ (k : ℕ). take k (bytes ++ replicate n 0)) (sym rest) ∙ take-append-add bytes (replicate n 0)
    (n - length bytes) ∙ ap (λ (back : List ℕ). bytes ++ back) (take-replicate (n - length bytes) n 0
    (omega arith)))

-- a block that is taken is one of the pool's, and has the size of every block
taken_within : (pool : Blocks) (block : ℕ) → IsFreeBlock pool block → IsPool (pool_after_take pool block) → block < length pool.bytes
taken_within pool block free shape =
    omega (arith, shape.whole, free.0, length-set pool.counts block 1, length-set pool.bytes block (replicate (length (block_bytes pool block)) 0))

taken_length : (pool : Blocks) (block : ℕ) → IsFreeBlock pool block → IsPool (pool_after_take pool block) → length (block_bytes pool block) ≡ 8192
taken_length pool block free shape =
    let zeros : List ℕ = replicate (length (block_bytes pool block)) 0 in
    let within = taken_within pool block free shape in
    sym (length-replicate (length (block_bytes pool block)) 0) ∙ sym (ap length (get_or-set_same pool.bytes block zeros [] within))
    ∙ shape.full block [] (omega (arith, within, length-set pool.bytes block zeros))

-- what a block of n bytes has after it was taken and written
written : (n : ℕ) (pool : Blocks) (block : ℕ) (bytes : List ℕ) → length (block_bytes pool block) ≡ n → block < length pool.bytes → length bytes ≤ n
    → with_block_bytes (pool_after_take pool block) block
    (overwritten (block_bytes (pool_after_take pool block) block) 0 bytes) ≡ with_block_bytes
    (with_reference_count pool block 1) block (take n (bytes ++ replicate n 0))
written n pool block bytes size within short =
    let zeros : List ℕ = replicate (length (block_bytes pool block)) 0 in
    let clear : block_bytes (pool_after_take pool block) block ≡ replicate n 0 = get_or-set_same pool.bytes block zeros [] within ∙ ap (λ (k : ℕ). replicate k 0) size in
    let content : overwritten (block_bytes (pool_after_take pool block) block) 0 bytes ≡ take n
    (bytes ++ replicate n 0) = ap (λ (old : List ℕ). overwritten old 0 bytes) clear ∙ filled n bytes short in
    ap (with_block_bytes (pool_after_take pool block) block) content
    ∙ ap (λ (all : List (List ℕ)). let made : Blocks = record { counts = set pool.counts block 1; bytes = all } in made) (set-set pool.bytes block zeros (take n (bytes ++ replicate n 0)))

-- a free block gains bytes, zeros behind them
pub Gains-written : (pool : Blocks) (id : BlockId) (bytes : List ℕ) → IsFreeBlock pool id.0 → IsPool (pool_after_take pool id.0) → length bytes ≤ 8192
    → GainsBlocks pool (id ∷ []) (file_block bytes 0 ∷ []) (with_block_bytes (pool_after_take pool id.0) id.0 (overwritten (block_bytes (pool_after_take pool id.0) id.0) 0 bytes))
Gains-written pool id bytes free shape short =
    let within = taken_within pool id.0 free shape in
    let whole : length pool.bytes ≡ length pool.counts = sym (length-set pool.bytes id.0 (replicate (length (block_bytes pool id.0)) 0)) ∙ shape.whole ∙ length-set pool.counts id.0 1 in
    subst (GainsBlocks pool (id ∷ []) (file_block bytes 0 ∷ []))
    (sym (written 8192 pool id.0 bytes (taken_length pool id.0 free shape) within short))
    (Gains-one pool id (file_block bytes 0) whole free)

-- ---- the parts of a file

-- a part of at most n at the front of a list, and the rest of it
pub part-of : (n : ℕ) (xs part rest : List ℕ) → xs ≡ part ++ rest → length part ≡ min n (length xs) → (part ≡ take n xs) × (rest ≡ drop n xs)
part-of n xs part rest whole size =
    let lengths : length xs ≡ length part + length rest = ap length whole ∙ length-append part rest in
    elim (cases_lt (length xs) n) [
      | inl short ↦
          let nothing : rest ≡ [] = nil_from_length rest (omega arith) in
          let all : part ≡ xs = sym (append-nil part) ∙ ap (λ (back : List ℕ). part ++ back) (sym nothing) ∙ sym whole in
          (all ∙ sym (take_all n xs (omega arith)), nothing ∙ sym (drop_all n xs (omega arith)))
      | inr long ↦
          let many : length part ≡ n = omega arith in
          (sym (ap (take n) whole ∙ take_at part rest n many), sym (ap (drop n) whole ∙ drop_at part rest n many))
    ]

front-filled : (n : ℕ) (xs zeros : List ℕ) → take n (take n xs ++ zeros) ≡ take n (xs ++ zeros)
front-filled n xs zeros =
    elim (cases_lt (length xs) n) [
      | inl short ↦ ap (λ (front : List ℕ). take n (front ++ zeros)) (take_all n xs (omega arith))
      | inr long ↦
          let many = length-take-le n xs long in
          take-append-le n (take n xs) zeros (omega arith) ∙ take-take n n xs (omega arith) ∙ sym (take-append-le n xs zeros long)
    ]

-- the only block of a part of a file is a block of the file
pub block_of-part : (file part : List ℕ) (k : ℕ) → part ≡ take 8192 (drop (8192 * k) file) → file_block part 0 ≡ file_block file k
block_of-part file part k is = ap (λ (xs : List ℕ). take 8192 (xs ++ zero_object)) is ∙ front-filled 8192 (drop (8192 * k) file) zero_object

-- ---- blocks that are taken

-- blocks that are taken have zeros
pub Takes-Gains : (pool after : Blocks) (ids : List BlockId) → IsPool pool → TakesBlocks pool ids after → GainsBlocks pool ids (replicate (length ids) zero_object) after
Takes-Gains pool after [] shape took = subst (GainsBlocks pool [] []) (sym took) (Gains-none pool)
Takes-Gains pool after (id ∷ ids) shape took =
    let zeros : List ℕ = replicate (length (block_bytes pool id.0)) 0 in
    let clear : zeros ≡ zero_object = ap (λ (n : ℕ). replicate n 0) (shape.full id.0 [] (omega (arith, shape.whole, took.0.0))) in
    let one : GainsBlocks pool (id ∷ []) (zero_object ∷ []) (pool_after_take pool id.0) = subst
    (λ (bytes : List ℕ). GainsBlocks pool (id ∷ []) (bytes ∷ []) (pool_after_take pool id.0)) clear
    (Gains-one pool id zeros shape.whole took.0) in
    Gains-then one (Takes-Gains (pool_after_take pool id.0) after ids (IsPool-taken pool id.0 shape took.0.0) took.1)
