use Rattle.std.proofs.Common.{◌≡◌, ◌<◌, ◌∙◌, ap, arith}
use Rattle.rbf_model.specs.ClusterMap.{ClusterMap, mark}
use Rattle.rbf_map.proofs.Marks.{clear_below-set}
use Rattle.rbf_map.proofs.Changed.{taken}
use Rattle.rbf_map.proofs.map.RbfMap.take.Goals as goal

pub overflow_sub-self : goal.overflow_sub-self
overflow_sub-self c =
    let clear : mark c.self.inside.bytes.items c.args.cluster ≡ 0 = ap (λ (m : ClusterMap). mark m.bytes c.args.cluster) c.self.view_is ∙ c.requires.clear in
    let whole : c.args.cluster < c.self.inside.whole = omega (arith, c.requires.whole, ap (λ (m : ClusterMap). m.whole) c.self.view_is) in
    let fewer = clear_below-set c.self.inside.bytes.items c.set_mark.new.bytes.items c.args.cluster c.self.inside.whole c.set_mark.ensures clear whole in
    omega (arith, c.self.invariant.counted)

pub invariant_of-self : goal.invariant_of-self
invariant_of-self c =
    let clear : mark c.self.inside.bytes.items c.args.cluster ≡ 0 = ap (λ (m : ClusterMap). mark m.bytes c.args.cluster) c.self.view_is ∙ c.requires.clear in
    let whole : c.args.cluster < c.self.inside.whole = omega (arith, c.requires.whole, ap (λ (m : ClusterMap). m.whole) c.self.view_is) in
    taken c.self.inside c.self.invariant c.set_mark.new.bytes c.args.cluster c.set_mark.ensures clear whole
