use Rattle.std.proofs.Common.{Option, ap, ◌∙◌, sym, rules}
use Rattle.os9_base.specs.declared.registers.Pid.{Pid}
use Rattle.io_model.specs.Arrivals.{after_key_signal}
use Rattle.io_model.specs.Io.{terminal_at}
use Rattle.device_io.proofs.Quiet.{quiet-io, same-ok}
use Rattle.device_io.proofs.keys.arrive_on.Goals as goal

pub returns-clause-arrived : goal.returns-clause-arrived
returns-clause-arrived g c = λ ok m tied. (
  after_key_signal m c.last_user.result c.arrive-answer.result.signal,
  c.send_to_user.ensures.sent m tied,
  record {
    answer = c.arrive-answer.result;
    terminal = terminal_at c.arrive-answer.new.self c.args.n;
    memory = search rules;
    device = c.arrive-answer.ensures.device;
    io = c.arrive-answer.ensures.io;
    signal = ap (λ (user : Option Pid). after_key_signal m user c.arrive-answer.result.signal) c.last_user.ensures;
  },
)

pub returns-clause-quiet : goal.returns-clause-quiet
returns-clause-quiet g c = λ quiet.
    let (unsent, as_many) = c.has_changed.ensures (same-ok _ quiet) in (
      c.send_to_user.ensures.unsent unsent,
      quiet-io c.args.s.now.tick c.args.n c.args.io.now c.arrive-answer.new.self _ _ c.arrive-answer.result
          c.arrive-answer.ensures.device c.arrive-answer.ensures.io
          (sym c.ready_count-now.ensures ∙ as_many ∙ c.ready_count-before.ensures),
    )
