use Rattle.std.proofs.Common.{◌≡◌, ◌/◌, ◌∷◌, [], sym, ap, ◌∙◌, Some}
use Rattle.block_pool.specs.Blocks.{block_bytes, with_block_bytes, overwritten}
use Rattle.proc_model.specs.Slots.{block_at}
use Rattle.block_map.specs.Window.{map_cells}
use Rattle.block_map.proofs.Windows.{cells_of-put}
use Rattle.block_map.proofs.view.ViewBus.put.Goals as goal

pub returns-in-Some-clause-changed : goal.returns-in-Some-clause-changed
returns-in-Some-clause-changed c =
    let slots = c.args.self.now.map.now in
    let pool = c.args.self.now.pool.now in
    let id = c.in-Some.id in
    let here : block_at slots (c.args.at / 8192) ≡ Some id = sym (c.in-Some.ensures.place ∙ ap (block_at slots) c.slot_of.ensures) in
    ap (map_cells slots) (c.copy_in.ensures.bytes ∙ ap (λ at. with_block_bytes pool id.0 (overwritten (block_bytes pool id.0) at (c.args.byte ∷ []))) c.offset_in_block.ensures)
    ∙ cells_of-put slots pool c.args.at c.args.byte id c.in-Some.ensures.shape here c.requires
