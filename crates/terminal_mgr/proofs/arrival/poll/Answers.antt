use Rattle.std.proofs.Common.{◌≡◌, ℕ, Option, None, false, List, sym, ap, subst, ◌∙◌, arith}
use Rattle.std.specs.Option.{option_or}
use Rattle.os9_outer.specs.Terminal.{due_byte}
use Rattle.os9_outer.specs.TerminalState.{TerminalState, terminal_state}
use Rattle.os9_outer.specs.declared.terminal.Key.{Key}
use Rattle.io_model.specs.Terminal.{signal_of}
use Rattle.io_model.specs.declared.terminal.Arrival.{Arrival}
use Rattle.terminal_mgr.specs.Polling.{Polls}
use Rattle.terminal_mgr.proofs.PollLemmas.{polls-none, poll-goes_on, poll-stops, undue, rose-none, rose-once}
use Rattle.terminal_mgr.proofs.arrival.poll.Goals as goal

pub loop-key-preserved : goal.loop-key-preserved
loop-key-preserved g c =
    let before : TerminalState = terminal_state (goal.CharDriver-dyn g c.loop-key.d.now) c.loop-key.d.now.1 in
    let asked : TerminalState = terminal_state (goal.CharDriver-dyn g (c.loop-key.d.now.0, c.next_key.new.d)) c.next_key.new.d in
    let after : TerminalState = terminal_state (goal.CharDriver-dyn g (c.loop-key.d.now.0, c.accept.new.d)) c.accept.new.d in
    let asked_for = c.in-Ok-Some.ensures in
    let sent : c.or-signal.result ≡ option_or c.loop-key.signal (signal_of c.in-Ok-Some.key) = c.or-signal.ensures ∙ ap (option_or c.loop-key.signal) c.in-Ok.ensures.signal in
    record {
      goes_on = λ new now answer rest. c.loop-key.invariant.goes_on new now answer
          (poll-goes_on c.args.tick c.loop-key.signal c.in-Ok-Some.key c.loop-key.ahead c.accept.new.ahead before
          asked after (sym asked_for.answered ∙ c.in-Ok-Some.field-0-is) asked_for.taken asked_for.put_kept
          asked_for.faults_kept c.accept.ensures.kept new now answer c.in-Ok.ensures.rung (let P : Option ℕ
          → Type 0 = λ signal. Polls c.args.tick signal c.accept.new.ahead new after now answer in subst P sent
          rest));
      within = c.accept.ensures.within;
    }

pub returns-in-Err-accept-clause-polled : goal.returns-in-Err-accept-clause-polled
returns-in-Err-accept-clause-polled g c =
    let before : TerminalState = terminal_state (goal.CharDriver-dyn g c.loop-key.d.now) c.loop-key.d.now.1 in
    let asked : TerminalState = terminal_state (goal.CharDriver-dyn g (c.loop-key.d.now.0, c.next_key.new.d)) c.next_key.new.d in
    let after : TerminalState = terminal_state (goal.CharDriver-dyn g (c.loop-key.d.now.0, c.accept.new.d)) c.accept.new.d in
    let asked_for = c.in-Ok-Some.ensures in
    c.loop-key.invariant.goes_on c.accept.new.ahead after (record { signal = c.loop-key.signal; memory = false })
    (poll-stops c.args.tick c.loop-key.signal c.in-Ok-Some.key c.loop-key.ahead c.accept.new.ahead before asked
    after (sym asked_for.answered ∙ c.in-Ok-Some.field-0-is) asked_for.taken asked_for.put_kept
    asked_for.faults_kept c.accept.ensures.kept c.in-Err-accept.ensures.no_memory
    c.in-Err-accept.ensures.no_signal)

pub returns-in-Ok-None-clause-polled : goal.returns-in-Ok-None-clause-polled
returns-in-Ok-None-clause-polled g c =
    let before : TerminalState = terminal_state (goal.CharDriver-dyn g c.loop-key.d.now) c.loop-key.d.now.1 in
    let asked : TerminalState = terminal_state (goal.CharDriver-dyn g (c.loop-key.d.now.0, c.next_key.new.d)) c.next_key.new.d in
    let said = c.in-Ok-None.ensures in
    let none : due_byte before.keys c.args.tick ≡ None = sym said.answered ∙ c.in-Ok-None.field-0-is in
    let same : asked.keys ≡ before.keys = said.taken ∙ undue before.keys c.args.tick none in
    let P : Arrival → Type 0 = λ answer. Polls c.args.tick c.loop-key.signal c.loop-key.ahead c.loop-key.ahead before asked answer in
    c.loop-key.invariant.goes_on c.loop-key.ahead asked c.polled.result (subst P (sym c.polled.ensures)
    (polls-none c.args.tick c.loop-key.signal c.loop-key.ahead before asked 0 (omega arith)
    c.loop-key.invariant.within same said.put_kept (rose-none before.faults asked.faults said.faults_kept)
    (λ zero. ap (λ (keys : List Key). due_byte keys c.args.tick) same ∙ none)))

pub returns-in-Err-clause-polled : goal.returns-in-Err-clause-polled
returns-in-Err-clause-polled g c =
    let before : TerminalState = terminal_state (goal.CharDriver-dyn g c.loop-key.d.now) c.loop-key.d.now.1 in
    let asked : TerminalState = terminal_state (goal.CharDriver-dyn g (c.loop-key.d.now.0, c.next_key.new.d)) c.next_key.new.d in
    let said = c.in-Err.ensures in
    let P : Arrival → Type 0 = λ answer. Polls c.args.tick c.loop-key.signal c.loop-key.ahead c.loop-key.ahead before asked answer in
    c.loop-key.invariant.goes_on c.loop-key.ahead asked c.polled-in-Err.result (subst P (sym c.polled-in-Err.ensures)
    (polls-none c.args.tick c.loop-key.signal c.loop-key.ahead before asked 1 (omega arith)
    c.loop-key.invariant.within said.keys_kept said.put_kept (rose-once before.faults asked.faults
    said.fault_counted said.never_falls) (λ one. absurd (omega arith))))
