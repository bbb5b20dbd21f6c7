-- A pool whose blocks are taken, shared or given back is one still.
use Rattle.std.proofs.Common.{◌≡◌, ◌+◌, ◌-◌, ◌<◌, ℕ, Option, List, [], ◌∷◌, length, replicate, sym, ◌∙◌, subst, arith}
use Rattle.std.proofs.lemmas.List.{length-set, length-replicate}
use Rattle.std.proofs.lemmas.List.Elements.{All-set}
use Rattle.block_pool.specs.Blocks.{Blocks, IsPool, reference_count, block_bytes, with_reference_count, pool_after_take, pool_after_share, pool_after_give}
use Rattle.block_map.specs.TakenBlocks.{TakesBlocks, AreNewBlocks, pool_after_sharing, pool_after_giving}
use Rattle.proc_model.specs.declared.group.BlockId.{BlockId}

IsPool-with_count : (pool : Blocks) (block count : ℕ) → IsPool pool → IsPool (with_reference_count pool block count)
IsPool-with_count pool block count shape =
    let same = length-set pool.counts block count in
    record {
      least = omega (arith, same, shape.least);
      most = omega (arith, same, shape.most);
      whole = shape.whole ∙ sym same;
      full = shape.full;
    }

pub IsPool-taken : (pool : Blocks) (block : ℕ) → IsPool pool → block < length pool.counts → IsPool (pool_after_take pool block)
IsPool-taken pool block shape within =
    let zeros : List ℕ = replicate (length (block_bytes pool block)) 0 in
    let counts = length-set pool.counts block 1 in
    record {
      least = omega (arith, counts, shape.least);
      most = omega (arith, counts, shape.most);
      whole = length-set pool.bytes block zeros ∙ shape.whole ∙ sym counts;
      full = All-set (λ bytes. length bytes ≡ 8192) pool.bytes block zeros (length-replicate (length (block_bytes pool block)) 0 ∙ shape.full block [] (omega (arith, shape.whole))) shape.full;
    }

pub IsPool-takes : (pool after : Blocks) (ids : List BlockId) → TakesBlocks pool ids after → IsPool pool → IsPool after
IsPool-takes pool after [] took shape = subst IsPool (sym took) shape
IsPool-takes pool after (id ∷ ids) took shape = IsPool-takes (pool_after_take pool id.0) after ids took.1 (IsPool-taken pool id.0 shape took.0.0)

pub IsPool-new : (places : List (Option BlockId)) (pool after : Blocks) → AreNewBlocks places pool after → IsPool pool → IsPool after
IsPool-new places pool after new = IsPool-takes pool after new.blocks new.taken

pub IsPool-shared_all : (pool after : Blocks) (ids : List BlockId) → after ≡ pool_after_sharing pool ids → IsPool pool → IsPool after
IsPool-shared_all pool after [] is shape = subst IsPool (sym is) shape
IsPool-shared_all pool after (id ∷ ids) is shape =
    IsPool-shared_all (pool_after_share pool id.0) after ids is (IsPool-with_count pool id.0 (reference_count pool id.0 + 1) shape)

pub IsPool-given_all : (pool after : Blocks) (ids : List BlockId) → after ≡ pool_after_giving pool ids → IsPool pool → IsPool after
IsPool-given_all pool after [] is shape = subst IsPool (sym is) shape
IsPool-given_all pool after (id ∷ ids) is shape =
    IsPool-given_all (pool_after_give pool id.0) after ids is (IsPool-with_count pool id.0 (reference_count pool id.0 - 1) shape)
