use Rattle.std.proofs.Common.{ℕ, subst}
use Rattle.time_rules.specs.Clock.{IsNow}
use Rattle.call_dispatch.proofs.AttemptLemmas.{tick_seen}
use Rattle.call_dispatch.proofs.time_calls.f_time.Goals as goal

pub returns-clause-call : goal.returns-clause-call
returns-clause-call c m tied = record {
  now = c.now-packet.result;
  is = subst (λ (k : ℕ). IsNow c.args.clock.now k c.now-packet.result) (tick_seen c.args.s.now m tied) c.now-packet.ensures;
  attempts = c.tell.ensures.call m c.args.clock.now tied;
}
