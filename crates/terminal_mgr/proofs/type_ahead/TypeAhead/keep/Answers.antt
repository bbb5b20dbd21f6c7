use Rattle.std.proofs.Common.{ℕ, List, [], ◌∷◌, ◌++◌, take, ap, ◌∙◌}
use Rattle.terminal_mgr.proofs.RingLemmas.{kept-by}
use Rattle.terminal_mgr.proofs.type_ahead.TypeAhead.keep.Goals as goal

pub returns-clause-kept : goal.returns-clause-kept
returns-clause-kept c =
    let ring = c.try_push_back.ensures in
    kept-by c.try_push_back.result c.self.inside.keys c.try_push_back.new.self c.args.key c.self.invariant.0
    c.self.invariant.1 ring.variant ring.ok ring.err ∙ ap (λ (keys : List ℕ). take 256 (keys ++ c.args.key ∷ []))
    c.self.view_is
