use Rattle.std.proofs.Common.{◌≡◌, ◌+◌, ◌%◌, ◌≤◌, true, length, ap, ◌∙◌, arith}
use Rattle.cpu_vectors.specs.Memory.{cells_of, is_in_named_slot}
use Rattle.cpu_vectors.proofs.Slots.{cells_of-stored}
use Rattle.cpu_vectors.proofs.memory.MemoryBus.store_slice.Goals as goal

pub returns-clause-stored : goal.returns-clause-stored
returns-clause-stored c =
    let memory = c.args.self.now in
    let at = c.args.at in
    let new = c.args.from.now in
    let named : is_in_named_slot memory.slots at ≡ true = cc in
    let slot : at % 8192 + length new ≤ 8192 = omega arith in
    let fits : at + length new ≤ length memory.bytes.all.items = omega (arith, memory.bytes.whole) in
    ap (cells_of memory.slots) c.overwrite.ensures ∙ cells_of-stored memory.slots memory.bytes.all.items at new named slot fits
