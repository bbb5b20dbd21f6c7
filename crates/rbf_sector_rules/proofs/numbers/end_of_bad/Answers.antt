use Rattle.std.proofs.Common.{◌≡◌, ℕ, ◌+◌, ◌-◌, ◌*◌, refl, subst, ⊎_elim, arith}
use Rattle.std.proofs.lemmas.Bool.{cases_lt}
use Rattle.rbf_model.specs.Disk.{disk_of}
use Rattle.rbf_model.specs.Geometry.{sector}
use Rattle.rbf_sector.specs.Ident.{geometry_of}
use Rattle.rbf_sector_rules.specs.Rules.{IsBadPosition}
use Rattle.rbf_sector_rules.proofs.numbers.end_of_bad.Goals as goal

pub loop-n-preserved : goal.loop-n-preserved
loop-n-preserved c e from low bad =
    let B : ℕ → Type 0 = IsBadPosition (disk_of (geometry_of c.args.image.now.ident) (sector c.args.image.now.bytes.now)) in
    let first = 8 * (c.loop-n.n - 1) in
    let place : e ≡ first + (e - first) = omega arith in
    ⊎_elim
    (λ here. c.if-has_bad_position.ensures refl (e - first) (omega arith) (subst B place bad))
    (λ past. c.loop-n.invariant e past low bad)
    (cases_lt e (8 * c.loop-n.n))
