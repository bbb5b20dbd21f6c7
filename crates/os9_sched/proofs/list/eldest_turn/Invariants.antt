use Rattle.std.proofs.Common.{◌≡◌, take, None, IfSome}
use Rattle.std.specs.List.{fold}
use Rattle.proc_model.specs.Turns.{ready_turns}
use Rattle.os9_sched.specs.Elder.{elder}
use Rattle.os9_sched.specs.Members.{IsMember, is_active_in}
use Rattle.os9_sched.proofs.list.eldest_turn.Given as goal

abbrev pub invariant-loop-turn : goal.invariant-loop-turn
invariant-loop-turn l = record {
  eldest : l.eldest ≡ fold elder None (ready_turns (is_active_in l.members) (take l.turn-index l.order));
  member : IfSome l.eldest (λ t. IsMember l.members t.process.0);
}
