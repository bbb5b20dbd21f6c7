use Rattle.std.proofs.Common.{◌≡◌, ◌∙◌, ap, subst, arith}
use Rattle.rbf_map.specs.Runs.{is_clear_below}
use Rattle.rbf_map.specs.Search.{IsLongestWith}
use Rattle.rbf_model.specs.ClusterMap.{ClusterMap, mark}
use Rattle.rbf_map.proofs.Marks.{clear_below-cleared, length-clear_below}
use Rattle.rbf_map.proofs.Changed.{given_back, part_given_back}
use Rattle.rbf_map.proofs.map.RbfMap.free.Goals as goal

pub overflow_add-self : goal.overflow_add-self
overflow_add-self c =
    let used : mark c.self.inside.bytes.items c.args.c ≡ 1 = ap (λ (m : ClusterMap). mark m.bytes c.args.c) c.self.view_is ∙ c.requires.used in
    let more = clear_below-cleared c.self.inside.bytes.items c.clear_mark.new.bytes.items c.args.c c.self.inside.whole c.clear_mark.ensures used c.if-c-self.true in
    omega (arith, c.self.invariant.counted, length-clear_below c.clear_mark.new.bytes.items c.self.inside.whole)

pub invariant_of-self : goal.invariant_of-self
invariant_of-self c =
    let used : mark c.self.inside.bytes.items c.args.c ≡ 1 = ap (λ (m : ClusterMap). mark m.bytes c.args.c) c.self.view_is ∙ c.requires.used in
    given_back c.self.inside c.self.invariant c.clear_mark.new.bytes c.args.c c.clear_mark.ensures used
    c.if-c-self.true c.min-self-inside.result c.longest_with-self-inside.result c.min-self-inside.ensures
    (subst (λ bs. IsLongestWith (is_clear_below bs c.self.inside.whole) c.args.c c.self.inside.whole
    c.self.inside.longest c.longest_with-self-inside.result) c.deref.ensures.value
    c.longest_with-self-inside.ensures)

pub invariant_of-self-else-c-self : goal.invariant_of-self-else-c-self
invariant_of-self-else-c-self c =
    part_given_back c.self.inside c.self.invariant c.clear_mark.new.bytes c.args.c c.clear_mark.ensures c.if-c-self.false
