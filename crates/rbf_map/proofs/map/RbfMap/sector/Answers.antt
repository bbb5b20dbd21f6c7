use Rattle.std.proofs.Common.{◌∙◌, ◌++◌, ◌*◌, ◌-◌, ℕ, List, min, length, take, drop, ap, sym, subst, arith, ◌≡◌}
use Rattle.std.specs.Prelude.{replicate}
use Rattle.rbf_model.specs.ClusterMap.{ClusterMap, IsSectorOf}
use Rattle.rbf_map.proofs.Sectors.{sector_is}
use Rattle.rbf_map.proofs.map.RbfMap.sector.Goals as goal

pub returns : goal.returns
returns c =
    let n = c.args.n in
    let start = c.min-start.result in
    let count = c.min-count.result in
    let bytes = c.deref.result.now in
    let same = c.deref.ensures.value ∙ ap (λ (m : ClusterMap). m.bytes) c.self.view_is in
    let begins : start ≡ min (length bytes) (256 * n) = omega (arith, c.min-start.ensures, c.len.ensures, c.from.ensures, c.deref.ensures.len) in
    subst (λ xs. IsSectorOf xs n (c.copy_from_slice.new.self ++ drop count (replicate 256 0))) same
    (subst (λ part. IsSectorOf bytes n (part ++ drop count (replicate 256 0))) (sym c.copy_from_slice.ensures.after) (sector_is bytes n start count begins c.min-count.ensures))
