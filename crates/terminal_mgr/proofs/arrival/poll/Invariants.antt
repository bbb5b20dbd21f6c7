-- Whatever goes on from the state that stands now goes on from the first one.
use Rattle.std.proofs.Common.{ℕ, ◌≤◌, None, List, length}
use Rattle.os9_outer.specs.TerminalState.{TerminalState, terminal_state}
use Rattle.io_model.specs.declared.terminal.Arrival.{Arrival}
use Rattle.terminal_mgr.specs.Polling.{Polls}
use Rattle.terminal_mgr.proofs.arrival.poll.Given as goal

abbrev pub invariant-loop-key : goal.invariant-loop-key
invariant-loop-key g l = record {
  goes_on : (new : List ℕ) (now : TerminalState) (answer : Arrival) → Polls l.tick l.signal l.ahead new
      (terminal_state (goal.CharDriver-dyn g l.d.now) l.d.now.1) now answer → Polls l.tick None l.fn.ahead new
      (terminal_state (goal.CharDriver-dyn g l.fn.d.now) l.fn.d.now.1) now answer;
  within : length l.ahead ≤ 256;
}

abbrev pub decreases-loop-key : goal.decreases-loop-key
decreases-loop-key g l = length ((goal.CharDriver-dyn g l.d.now).keys_left l.d.now.1)
