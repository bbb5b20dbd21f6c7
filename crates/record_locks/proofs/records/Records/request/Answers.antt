use Rattle.std.proofs.Common.{◌≡◌, ◌≤◌, ◌+◌, Option, List, is_some, count_by, length, ap, sym, subst, ◌∙◌}
use Rattle.std.specs.Vec.{vec_capacity}
use Rattle.lock_model.specs.declared.lock.Held.{Held}
use Rattle.lock_model.specs.Locks.{Locks}
use Rattle.lock_model.specs.Records.{Records}
use Rattle.lock_model.proofs.Agreeing.{records-asked}
use Rattle.record_locks.proofs.Unchanged.{held-answer}
use Rattle.record_locks.proofs.records.Records.request.Goals as goal

pub invariant_of-self : goal.invariant_of-self
invariant_of-self c =
    let before : Records = record { locks = c.self.inside.locks; history = c.self.inside.history.items } in
    let same : c.request.new.self.held ≡ c.self.inside.locks.held = ap (λ (locks : Locks). locks.held) c.request.ensures.locks ∙ held-answer c.self.inside.locks c.args.request c.request.result in
    record {
      agree = records-asked before c.request.new.self same c.request.ensures.kept c.self.invariant.agree;
      room = subst (λ (held : List (Option Held)). length c.self.inside.history.items + count_by is_some held ≤ vec_capacity c.self.inside.history) (sym same) c.self.invariant.room;
    }
