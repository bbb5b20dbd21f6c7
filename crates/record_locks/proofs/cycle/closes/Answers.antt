use Rattle.std.proofs.Common.{ℕ, Bool, ap, ◌∙◌}
use mathlib.Core.Path.{fun_ext}
use Rattle.std.specs.List.{list_any}
use Rattle.lock_model.specs.Conflict.{is_opposed_by}
use Rattle.lock_model.specs.Waits as model
use Rattle.record_locks.proofs.cycle.closes.Goals as goal

pub returns : goal.returns
unfolding model.closes
returns c =
    c.is_one_in_the_way.ensures
    ∙ ap (λ (test : ℕ → Bool). list_any (is_opposed_by c.args.asked test) c.args.held.now) (fun_ext (λ q. c.leading_to-leading.ensures q))
