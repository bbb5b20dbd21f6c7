use Rattle.std.proofs.Common.{◌≡◌, ◌-◌, ℕ, subst, arith}
use Rattle.std.specs.List.{range_with_len}
use Rattle.rbf_sector_rules.specs.Noted.{IsNoted}
use Rattle.rbf_sector_rules.proofs.Noted.{noted_none}
use Rattle.rbf_sector_rules.proofs.NotedSegments.{run_left, run_grown, run_ended}
use Rattle.rbf_sector_rules.proofs.uses.Uses.note_segment.Goals as goal

pub loop-s-init : goal.loop-s-init
loop-s-init c =
    let first = c.args.segment.0 in
    let none : 0 ≡ first - first = omega arith in
    let P : ℕ → Type 0 = λ n. IsNoted c.args.cluster c.args.owner (range_with_len first n) c.args.self.now c.args.self.now in
    subst P none (noted_none c.args.cluster c.args.owner c.args.self.now)

pub returns-then-s-cluster : goal.returns-then-s-cluster
returns-then-s-cluster c =
    run_left c.args.cluster c.requires.cluster c.args.owner c.args.self.now c.args.segment.0 c.loop-s.s (omega arith)
    c.loop-s.self c.loop-s.invariant c.args.segment.1 (omega arith) c.if-s-cluster.true

pub returns-then-self-s : goal.returns-then-self-s
returns-then-self-s c =
    run_ended c.args.cluster c.requires.cluster c.args.owner c.args.self.now c.args.segment.0 c.loop-s.s (omega arith)
    c.loop-s.self c.loop-s.invariant c.note.new.self c.note.ensures c.args.segment.1 (omega arith)
    c.if-self-s.true

pub loop-s-preserved : goal.loop-s-preserved
loop-s-preserved c =
    run_grown c.args.cluster c.requires.cluster c.args.owner c.args.self.now c.args.segment.0 c.loop-s.s (omega arith) c.loop-s.self c.loop-s.invariant c.note.new.self c.note.ensures

pub returns : goal.returns
returns c =
    let all : c.loop-s.s - c.args.segment.0 ≡ c.args.segment.1 = omega arith in
    let P : ℕ → Type 0 = λ n. IsNoted c.args.cluster c.args.owner (range_with_len c.args.segment.0 n) c.args.self.now c.loop-s.self in
    subst P all c.loop-s.invariant
