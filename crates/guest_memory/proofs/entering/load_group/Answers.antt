use Rattle.std.proofs.Common.{◌≡◌, ◌+◌, ◌-◌, ◌*◌, min, ◌<◌, ℕ, List, [], ◌∷◌, ◌++◌, length, slice_set, take, drop, map, sym, ap, ◌∙◌, subst, arith}
use Rattle.std.specs.List.{range_with_len}
use Rattle.std.specs.Slice.Iter.{chunks_rest}
use Rattle.std.proofs.lemmas.List.{length-set, length-drop, drop-drop, take_more_set}
use Rattle.std.proofs.lemmas.List.FromFn.{map-range_with_len_more}
use Rattle.proc_model.specs.declared.group.BlockId.{BlockId}
use Rattle.proc_model.specs.Objects.{file_block, file_blocks}
use Rattle.guest_memory.specs.Gains.{GainsBlocks}
use Rattle.guest_memory.proofs.Gains.{Gains-then, part-of, block_of-part}
use Rattle.guest_memory.proofs.entering.load_group.Goals as goal

pub loop-part-preserved : goal.loop-part-preserved
loop-part-preserved c =
    let file = c.args.file.now in
    let len = c.loop-part.len in
    let id = c.load_block.result in
    let loaded = c.loop-part.invariant.loaded in
    let here = chunks_rest c.loop-part.part-iterator in
    let front = take len c.loop-part.ids in
    let steps = c.in-Some.ensures.steps in
    let size : length c.in-Some.part.now ≡ min 8192 (length here) = steps.1.1 ∙ ap (λ (n : ℕ). min n (length here)) c.loop-part.invariant.size in
    let parts = part-of 8192 here c.in-Some.part.now (chunks_rest c.next.new.self) steps.1.0 size in
    let left : length here ≡ length file - 8192 * len = ap (λ (xs : List ℕ). length xs) c.loop-part.invariant.rest ∙ length-drop (8192 * len) file in
    let more : 0 < length here = steps.1.2 in
    let below : len < file_blocks file = omega arith in
    let block : file_block c.in-Some.part.now 0 ≡ file_block file len = block_of-part file c.in-Some.part.now len (parts.0 ∙ ap (take 8192) c.loop-part.invariant.rest) in
    let contents : map (file_block file) (range_with_len 0 len) ++ file_block c.in-Some.part.now 0 ∷ [] ≡ map (file_block file) (range_with_len 0 (len + 1)) =
    ap (λ (last : List ℕ). map (file_block file) (range_with_len 0 len) ++ last ∷ []) block ∙ sym (map-range_with_len_more (file_block file) 0 len len (omega arith)) in
    let group : front ++ id ∷ [] ≡ take (len + 1) (slice_set c.loop-part.ids len id) = sym (take_more_set c.loop-part.ids len id (omega arith)) in
    let grown = Gains-then loaded c.load_block.ensures.loaded in
    record {
      loaded = subst (λ (ids : List BlockId). GainsBlocks c.args.pool.now ids (map (file_block file) (range_with_len 0 (len + 1))) c.load_block.new.pool) group
          (subst (λ (blocks : List (List ℕ)). GainsBlocks c.args.pool.now (front ++ id ∷ []) blocks c.load_block.new.pool) contents grown);
      room = omega (arith, c.load_block.ensures.room, c.loop-part.invariant.room);
      shape = c.load_block.ensures.shape;
      places = length-set c.loop-part.ids len id ∙ c.loop-part.invariant.places;
      within = omega arith;
      rest = parts.1 ∙ ap (drop 8192) c.loop-part.invariant.rest ∙ drop-drop 8192 (8192 * len) file ∙ ap (λ (n : ℕ). drop n file) (omega arith);
      size = steps.0 ∙ c.loop-part.invariant.size;
    }
