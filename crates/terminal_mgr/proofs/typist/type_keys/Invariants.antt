-- The keys before those that are left were typed, what they echo is out, and the line has room.
use Rattle.std.proofs.Common.{◌≡◌, ◌<◌, length}
use Rattle.io_model.specs.Terminal.{key_effect}
use Rattle.terminal_mgr.proofs.TypingLemmas.{TypedSoFar}
use Rattle.terminal_mgr.proofs.typist.type_keys.Given as goal

abbrev pub invariant-loop-key : goal.invariant-loop-key
invariant-loop-key g l = record {
  sofar : TypedSoFar (key_effect l.request) l.fn.line l.line l.fn.ahead l.ahead ((goal.CharDriver-dyn g l.fn.d.now).bytes_put l.fn.d.now.1) ((goal.CharDriver-dyn g l.d.now).bytes_put l.d.now.1);
  room : length l.line.bytes < l.request.most;
  faults : (goal.CharDriver-dyn g l.d.now).term_faults l.d.now.1 ≡ (goal.CharDriver-dyn g l.fn.d.now).term_faults l.fn.d.now.1;
  keys : (goal.CharDriver-dyn g l.d.now).keys_left l.d.now.1 ≡ (goal.CharDriver-dyn g l.fn.d.now).keys_left l.fn.d.now.1;
}

abbrev pub decreases-loop-key : goal.decreases-loop-key
decreases-loop-key g l = length l.ahead
