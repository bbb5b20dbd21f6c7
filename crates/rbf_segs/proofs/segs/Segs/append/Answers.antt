use Rattle.std.proofs.Common.{◌-◌, ◌≤◌, ◌++◌, ◌∙◌, ℕ, length, take, subst, sym, ap, arith}
use Rattle.rbf_model.specs.Segments.{segment_sectors, sectors_of}
use Rattle.rbf_segs.specs.Segments.{Lengthens}
use Rattle.rbf_segs.proofs.Runs.{sectors_of-appended}
use Rattle.rbf_segs.proofs.Places.{replaced}
use Rattle.rbf_segs.proofs.segs.Segs.append.Goals as goal

pub invariant_of-self : goal.invariant_of-self
invariant_of-self c =
    let inside = c.self.inside in
    let P : ℕ → Type 0 = λ k. Lengthens (take k inside.places) c.args.lsn c.args.n c.in-Some.run' in
    let lengthens : P inside.len = subst P c.from-runs.ensures c.in-Some.ensures in
    let some : 1 ≤ length (take inside.len inside.places) = lengthens.some in
    let counted = c.self.invariant.counted in
    (replaced inside c.self.invariant c.in-Some.run' lengthens.whole (c.from-runs.result - 1) (omega arith) (omega arith)).kept

pub returns-in-Some-clause-sectors : goal.returns-in-Some-clause-sectors
returns-in-Some-clause-sectors c =
    let inside = c.self.inside in
    let P : ℕ → Type 0 = λ k. Lengthens (take k inside.places) c.args.lsn c.args.n c.in-Some.run' in
    let lengthens : P inside.len = subst P c.from-runs.ensures c.in-Some.ensures in
    let some : 1 ≤ length (take inside.len inside.places) = lengthens.some in
    let counted = c.self.invariant.counted in
    let held = replaced inside c.self.invariant c.in-Some.run' lengthens.whole (c.from-runs.result - 1) (omega arith) (omega arith) in
    ap sectors_of (held.list ∙ sym lengthens.list) ∙ sectors_of-appended (take inside.len inside.places) c.args.lsn
    c.args.n ∙ ap (λ segments. sectors_of segments ++ segment_sectors (c.args.lsn, c.args.n)) c.self.view_is
