use Rattle.std.proofs.Common.{◌≡◌, None}
use Rattle.io_model.specs.Io.{pending_at}
use Rattle.io_model.specs.Processes.{closed_below}
use Rattle.io_state.proofs.state.IoState.close_all.Given as goal

-- the numbers so far are closed
abbrev pub invariant-loop-number : goal.invariant-loop-number
invariant-loop-number l = record {
  closed : l.self ≡ closed_below l.fn.self l.p.0 l.number;
  quiet : pending_at l.self l.p.0 ≡ None;
}
