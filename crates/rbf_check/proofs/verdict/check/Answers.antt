use Rattle.std.proofs.Common.{List, ℕ, subst}
use Rattle.rbf_check.specs.Tree.{IsTreeOf}
use Rattle.rbf_check.proofs.Whole.{tree_is}
use Rattle.rbf_check.proofs.verdict.check.Goals as goal

pub returns-clause-tree : goal.returns-clause-tree
returns-clause-tree c =
    let of = c.in_ok-survey.ensures.survey in
    subst (λ (bytes : List ℕ). IsTreeOf bytes (record { nodes = c.in_ok-nodes.nodes; free = c.in_ok-space.space.free; lost = c.in_ok-space.space.lost })) of.bytes_are
    (tree_is c.in_ok-survey.survey of.is c.in_ok-nodes.nodes c.in_ok-space.space.free c.in_ok-space.space.lost c.in_ok-nodes.ensures c.in_ok-space.ensures.free c.in_ok-space.ensures.lost)
