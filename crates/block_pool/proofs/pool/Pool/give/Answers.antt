use Rattle.std.proofs.Common.{rules, arith, ◌<◌, ◌∙◌, get_or, length}
use Rattle.std.proofs.lemmas.List.{get_or_past, get_or_default}
use Rattle.std.proofs.lemmas.Bool.{cond-true}
use Rattle.std.proofs.lemmas.Grind.{common_steps}
use Rattle.block_pool.proofs.FreeLists.{IsFreeList-given, IsFreeList-room, IsFreeList-recount}
use Rattle.block_pool.proofs.pool.Pool.give.Goals as goal

pub invariant_of-self : goal.invariant_of-self
invariant_of-self c =
    let counts = c.self.inside.counts.items in
    let live : 0 < get_or counts c.args.id.0 0 = search rules in
    let within : c.args.id.0 < length counts = grind (arith, get_or_past counts c.args.id.0 0) in
    let same = get_or_default counts c.args.id.0 0 c.index_mut-count.result.now within in
    let room = IsFreeList-room counts c.self.inside.free.items c.args.id live c.self.invariant.free_list in
    record {
      pool = search rules;
      free_list = IsFreeList-given counts c.self.inside.free.items c.push.new.self.items c.args.id _
          (omega (arith, c.index_mut-count.ensures.value)) (omega arith) (c.push.ensures.items ∙ cond-true _ _ _
          (c.push.ensures.succeeds (omega arith))) c.self.invariant.free_list;
      room = grind (arith, common_steps);
    }

pub invariant_of-self-else-count-eq0 : goal.invariant_of-self-else-count-eq0
invariant_of-self-else-count-eq0 c = record {
  pool = search rules;
  free_list = IsFreeList-recount c.self.inside.counts.items c.self.inside.free.items c.args.id _ (search rules) (omega arith) c.self.invariant.free_list;
  room = search rules;
}
