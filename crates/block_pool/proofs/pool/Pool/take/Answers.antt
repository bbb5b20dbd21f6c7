use Rattle.std.proofs.Common.{rules, arith, subst}
use Rattle.std.proofs.lemmas.Grind.{common_steps}
use Rattle.block_pool.specs.FreeList.{IsFreeList}
use Rattle.block_pool.proofs.FreeLists.{IsFreeList-pop}
use Rattle.block_pool.proofs.pool.Pool.take.Goals as goal

pub invariant_of-self-2 : goal.invariant_of-self-2
invariant_of-self-2 c = record {
  pool = search rules;
  free_list = IsFreeList-pop c.self.inside.counts.items c.pop.new.self.items c.in_ok-id.id (subst (IsFreeList c.self.inside.counts.items) (search rules) c.self.invariant.free_list);
  room = grind (arith, common_steps);
}
