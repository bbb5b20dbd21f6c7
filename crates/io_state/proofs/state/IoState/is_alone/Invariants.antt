use Rattle.std.proofs.Common.{◌≡◌, ℕ, ◌<◌, false}
use Rattle.io_model.specs.Alone.{is_outside}
use Rattle.io_state.proofs.state.IoState.is_alone.Given as goal

-- no process so far is outside
abbrev pub invariant-loop-number : goal.invariant-loop-number
invariant-loop-number l = (q : ℕ) → q < l.number → is_outside l.self l.p.0 l.path.0 l.direction q ≡ false
