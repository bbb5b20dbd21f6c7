use Rattle.guest_memory.proofs.First.{sound-first, tied-first}
use Rattle.guest_memory.proofs.memory.Memory.new.Goals as goal

pub invariant_of-result : goal.invariant_of-result
invariant_of-result c = record {
  sound = sound-first c.args.blocks c.in_ok-new.field-0 c.in_ok-empty_maps.field-0.items c.in_ok-new-2.field-0
      c.in_ok-new.ensures.unnamed c.in_ok-new.ensures.shape c.in_ok-empty_maps.ensures c.in_ok-new-2.ensures;
}

pub returns : goal.returns
returns c = tied-first c.args.blocks c.in_ok-new.field-0 c.in_ok-empty_maps.field-0.items c.in_ok-new-2.field-0
    c.in_ok-new.ensures.unnamed c.in_ok-new.ensures.shape c.in_ok-empty_maps.ensures c.in_ok-new-2.ensures
