use Rattle.std.proofs.Common.{◌≡◌, ◌+◌, ◌/◌, ◌%◌, ◌≤◌, Some, length, sym, ap, ◌∙◌, arith}
use Rattle.block_pool.specs.Blocks.{block_bytes, with_block_bytes, overwritten}
use Rattle.proc_model.specs.Slots.{block_at}
use Rattle.block_map.specs.Window.{map_cells}
use Rattle.block_map.proofs.Overwriting.{cells_of-store, all_live}
use Rattle.block_map.proofs.view.ViewBus.store_slice.Goals as goal

pub returns-clause-stored : goal.returns-clause-stored
returns-clause-stored c =
    let slots = c.args.self.now.map.now in
    let pool = c.args.self.now.pool.now in
    let id = c.in-Some.id in
    let here : block_at slots (c.args.at / 8192) ≡ Some id = sym (c.in-Some.ensures.place ∙ ap (block_at slots) c.slot_of.ensures) in
    let fits : c.args.at % 8192 + length c.args.from.now ≤ 8192 = omega (arith, c.offset_in_block-offset.ensures, c.bytes.ensures.length) in
    ap (map_cells slots) (c.copy_in.ensures.bytes ∙ ap (λ at. with_block_bytes pool id.0 (overwritten (block_bytes pool id.0) at c.args.from.now)) c.offset_in_block-offset.ensures)
    ∙ cells_of-store slots pool c.args.at id c.args.from.now c.in-Some.ensures.shape c.bytes.ensures.shape here (c.args.self.now.live (c.args.at / 8192) id here) fits

pub returns-clause-fits : goal.returns-clause-fits
returns-clause-fits c =
    let slots = c.args.self.now.map.now in
    let pool = c.args.self.now.pool.now in
    let id = c.in-Some.id in
    let here : block_at slots (c.args.at / 8192) ≡ Some id = sym (c.in-Some.ensures.place ∙ ap (block_at slots) c.slot_of.ensures) in
    let fits : c.args.at % 8192 + length c.args.from.now ≤ 8192 = omega (arith, c.offset_in_block-offset.ensures, c.bytes.ensures.length) in (
      omega arith,
      all_live slots pool c.args.at id c.args.from.now c.in-Some.ensures.shape c.bytes.ensures.shape here (c.args.self.now.live (c.args.at / 8192) id here) fits,
    )
