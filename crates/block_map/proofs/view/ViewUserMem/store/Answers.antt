use Rattle.std.specs.Bool.{⊤}
use Rattle.std.proofs.Common.{◌≡◌, ◌+◌, ◌-◌, ◌/◌, ◌%◌, IsSome, IsTrue, length, take, drop, arith, sym, ap, ◌∙◌, subst, length-drop}
use Rattle.std.proofs.lemmas.Bool.{MatchBool-at_true}
use Rattle.std.proofs.lemmas.List.{length-take-le}
use Rattle.os9_base.specs.Cells.{store_cells}
use Rattle.proc_model.specs.Slots.{block_at}
use Rattle.block_map.specs.Window.{map_cells, IsSlotLive}
use Rattle.block_map.specs.Beside.{SameBeside-then}
use Rattle.block_map.proofs.Stores.{stored-past, stored_more}
use Rattle.block_map.proofs.Windows.{live_of_byte}
use Rattle.block_map.proofs.view.ViewUserMem.store.Goals as goal

pub pieces-preserved : goal.pieces-preserved
pieces-preserved c =
    let first = c.args.self.now in
    let before = c.pieces.self in
    let at = c.args.at in
    let done = c.pieces.done in
    let count = c.piece_len-count.result in
    let bytes = c.args.from.now in
    let cells = map_cells first.map.now first.pool.now in
    let few = length-take-le done bytes c.pieces.invariant.within in
    let kept = ap (λ cells. cells (at + done)) c.pieces.invariant.stored ∙ stored-past cells at (take done bytes) (at + done) (omega (arith, few)) in
    let there : IsSome (map_cells before.map.now before.pool.now (at + done)) = subst IsSome (sym kept) (c.requires.1 done c.pieces-test.true) in
    let live : IsSlotLive before.map.now before.pool.now ((at + done) / 8192) = live_of_byte before.pool.now ((at + done) % 8192) (block_at before.map.now ((at + done) / 8192)) there in
    let long : length (take count (drop done bytes)) ≡ count = length-take-le count (drop done bytes) (omega (arith, length-drop done bytes, c.piece_len-count.ensures.few)) in
    let back : done + count - done ≡ count = omega arith in
    let stores : IsTrue c.store_slice.result = c.store_slice.ensures.always.1 (live, omega (arith, long, c.piece_len-count.ensures.slot)) in
    record {
      stored = MatchBool-at_true _ ⊤ stores c.store_slice.ensures.stored ∙ ap
          (λ n. store_cells (map_cells before.map.now before.pool.now) (at + done) (take n (drop done bytes))) back ∙
          ap (λ cells. store_cells cells (at + done) (take count (drop done bytes))) c.pieces.invariant.stored ∙
          stored_more cells at bytes done count c.pieces.invariant.within;
      beside = SameBeside-then first before c.store_slice.new.self c.pieces.invariant.beside c.store_slice.ensures.beside;
      within = omega (arith, c.piece_len-count.ensures.few);
    }
