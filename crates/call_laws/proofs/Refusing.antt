-- What an attempt of a call on paths leaves that is refused.
use Rattle.std.proofs.Common.{◌≡◌, ◌≢◌, ◌⊎◌, ℕ, Bool, true, false, Option, Some, None, List, length, refl, sym, ap, ◌∙◌, subst, inl, inr, arith}
use Rattle.std.specs.Prelude.{if◌then◌else◌}
use Rattle.std.proofs.lemmas.Option.{none-some, same_Some}
use Rattle.os9_base.specs.declared.errors.TheConstants.{E_BMODE, E_BPADDR, E_BPNAM, E_BPNUM, E_EOF, E_MNF, E_NOTRDY, E_PNNF, E_PTHFUL, E_UNKSVC, E_WRITE}
use Rattle.os9_outer.specs.Stream.{stream_with}
use Rattle.os9_outer.specs.TerminalState.{TerminalState, ChangesOneTerminal}
use Rattle.proc_model.specs.CallResult.{CallResult}
use Rattle.proc_model.specs.Processes.{Processes}
use Rattle.io_model.specs.Edit.{Typing}
use Rattle.io_model.specs.Terminal.{BreaksOffEcho, PutsPart, TerminalReadAttempt, Terminal, TerminalWriteAttempt, after_reading, attempt_by, is_taken, key_effect, kept_waiting, read_attempt, typed, typed_attempt}
use Rattle.io_model.specs.declared.edit.LineEnd.{LineEnd}
use Rattle.io_model.specs.declared.edit.LineEnd.TheVariants.{Line, EndOfFile}
use Rattle.io_model.specs.declared.path.Target.TheVariants.{Term}
use Rattle.io_model.specs.declared.terminal.Progress.{Progress}
use Rattle.io_model.specs.declared.terminal.Progress.TheVariants.{Done, Wait, End, Fault, NoMemory}
use Rattle.io_model.specs.declared.terminal.Reading.{Reading}
use Rattle.io_model.specs.Attempts.{HasIoEffect, IoAttempts, caller_of, io_after, pending_in, result_by, step_of}
use Rattle.io_model.specs.Io.{Io, terminal_at, with_call}
use Rattle.io_model.specs.Pipes.{count_regs}
use Rattle.io_model.specs.Step.{Caller, IoEffect, IoEnd, IoStep, TerminalRead, TerminalWrite, answers, comes, fails, keeps, reads, refused, writes}
use Rattle.io_model.specs.Terminals.{read_ends, request_of, write_ends}
use Rattle.io_model.specs.declared.io_call.IoCall.{IoCall}
use Rattle.call_laws.specs.Causes.{IsOn, StatedCause, bad_address, bad_mode, bad_path_name, bad_path_number, no_module, not_found, not_ready, path_table_full, unknown_service}
use Rattle.call_laws.specs.Refusals.{ChangesNothing, EchoFails, EndsAtKey, FindsNoByte, FindsNoReader, HasCause, HasFailed, IsGivenBytes, IsRequest, KeepsAll, LeavesAtEnd, LeavesAtFault, RefusedAttempt, TerminalWriteFails, caller_in, on_terminal, put_by, sent_by}
use Rattle.call_laws.proofs.Causing.{Known, PipeEnds, answered, kept-on, same-number, step-known}
use Rattle.call_laws.proofs.EndKeys.{EndsIn, effect-ends, ends-in}

-- what comes of an attempt that is refused with this number
abbrev pub Comes : IoCall → Caller → Io → ℕ → ℕ → Io → List TerminalState → List TerminalState → Type 0
Comes call caller io drives number new before after =
    StatedCause call caller io drives (length before) number × ChangesNothing caller.process.0 io new before after
    ⊎ (number ≡ E_EOF) × (FindsNoByte call caller io new before after ⊎ EndsAtKey call caller io new before after)
    ⊎ (number ≡ E_WRITE) × (EchoFails call caller io new before after ⊎ TerminalWriteFails call caller io new before after ⊎ FindsNoReader call caller io new before after)

-- ---- how the read of a terminal ended

wait-end : Wait ≡ End → ⊥
wait-end is = cc

done-end : (count : ℕ) → Done count ≡ End → ⊥
done-end count is = cc

-- a read that ends a file was not kept waiting, and a key ended it
record EndsFile (request : Reading) (old new : Terminal) (echo : List ℕ) : Type 0 where
  turn : is_taken request.process old ≡ false
  over : (typed request old.line old.ahead).end ≡ Some EndOfFile
  left : new ≡ after_reading request (typed request old.line old.ahead).line (typed request old.line old.ahead).left
  echo_is : echo ≡ (typed request old.line old.ahead).echo

ends-file : (request : Reading) (old new : Terminal) → End ≡ (read_attempt request old).answer → new ≡ (read_attempt request old).terminal → EndsFile request old new (read_attempt request old).echo
ends-file request old new = by_turn (is_taken request.process old) refl
  where
    by_end : is_taken request.process old ≡ false → (end : Option LineEnd) → (typed request old.line old.ahead).end ≡
        end → End ≡ (attempt_by end (typed request old.line old.ahead) request).answer
        → new ≡ (attempt_by end (typed request old.line old.ahead) request).terminal → EndsFile request old new
        (attempt_by end (typed request old.line old.ahead) request).echo
    by_end turn None is answer now = absurd (wait-end (sym answer))
    by_end turn (Some Line) is answer now =
        absurd (done-end (length (typed request old.line old.ahead).line.bytes) (sym answer))
    by_end turn (Some EndOfFile) is answer now =
        record { turn = turn; over = is; left = now; echo_is = refl }

    by_turn : (taken : Bool) → is_taken request.process old ≡ taken → End ≡ (if taken then kept_waiting request old
        else typed_attempt request old).answer → new ≡ (if taken then kept_waiting request old else typed_attempt
        request old).terminal → EndsFile request old new (if taken then kept_waiting request old else typed_attempt
        request old).echo
    by_turn true taken answer now = absurd (wait-end (sym answer))
    by_turn false taken answer now = by_end taken (typed request old.line old.ahead).end refl answer now

-- one terminal changed so, and so
one-changed : (change other : TerminalState → TerminalState → Type 0) (n : ℕ) (before after : List TerminalState)
    → (changed : ChangesOneTerminal change n before after) → other changed.0 changed.1 → ChangesOneTerminal other n
    before after
one-changed change other n before after changed it = (changed.0, changed.1, changed.2, changed.3, it)

module _ (call : IoCall) (caller : Caller) (io : Io) (drives : ℕ) (before after : List TerminalState) (number : ℕ) where
  abbrev Gives : Io → Type 0
  Gives new = Comes call caller io drives number new before after

  -- ---- a read of a terminal

  module _ (read : TerminalRead) (on : IsOn call caller io (Term read.terminal)) (request_is : IsRequest call caller io (request_of caller read)) (new : Terminal) (end : IoEnd) where
    abbrev old : Terminal
    old = terminal_at io read.terminal

    abbrev request : Reading
    request = request_of caller read

    by-key : ChangesOneTerminal (TerminalReadAttempt request End old new) read.terminal before after → EndsAtKey call caller io (on_terminal io read.terminal new caller.process.0) before after
    by-key changed = record {
      terminal = read.terminal;
      on = on;
      request = request;
      request_is = request_is;
      turn = file.turn;
      front = key.front;
      rest = key.rest;
      keys = key.keys_are;
      unfinished = key.unfinished;
      empty = key.empty;
      now =
          ap (λ (t : Terminal). on_terminal io read.terminal t caller.process.0) (file.left ∙ ap (λ (t : Typing). after_reading request t.line t.left) key.whole);
      out =
          one-changed (TerminalReadAttempt request End old new) (IsGivenBytes (typed request old.line key.front).echo) read.terminal before after changed (record {
            put =
                it.outcome.echo ∙ ap (stream_with changed.0.put) (file.echo_is ∙ ap (λ (t : Typing). t.echo) key.whole);
            keys = it.driver.keys;
            faults = it.driver.faults;
          });
    }
      where
        it : TerminalReadAttempt request End old new changed.0 changed.1
        it = changed.4

        file : EndsFile request old new (read_attempt request old).echo
        file = ends-file request old new it.outcome.answer_is it.outcome.terminal

        key : EndsIn (key_effect request) old.line old.ahead
        key = ends-in (key_effect request) (effect-ends request.kind request.most) old.line old.ahead file.over

    by-echo : ChangesOneTerminal (TerminalReadAttempt request Fault old new) read.terminal before after → EchoFails call caller io (on_terminal io read.terminal new caller.process.0) before after
    by-echo changed = record {
      terminal = read.terminal;
      on = on;
      request = request;
      request_is = request_is;
      turn = changed.4.turn refl;
      left = new;
      now = refl;
      out =
          one-changed (TerminalReadAttempt request Fault old new) (λ was now. BreaksOffEcho request old new was now × HasFailed was now) read.terminal before after changed
          (changed.4.outcome, record { faults = changed.4.driver.faults; keys = changed.4.driver.keys });
    }

    by-answer : (answer : Progress) → ChangesOneTerminal (TerminalReadAttempt request answer old new) read.terminal before after
        → read_ends caller read answer ≡ Some end → end ≡ fails number
        → Gives (on_terminal io read.terminal new caller.process.0)
    by-answer (Done count) changed ends over =
        absurd (answered (count_regs caller count) number (same_Some (answers (count_regs caller count)) end ends ∙ over))
    by-answer Wait changed ends over =
        absurd (kept-on read.call number (same_Some (keeps read.call) end ends ∙ over))
    by-answer End changed ends over =
        inr (inl (same-number E_EOF number (same_Some (fails E_EOF) end ends ∙ over), inr (by-key changed)))
    by-answer Fault changed ends over =
        inr (inr (same-number E_WRITE number (same_Some (fails E_WRITE) end ends ∙ over), inl (by-echo changed)))
    by-answer NoMemory changed ends over = absurd (none-some end ends)

  -- ---- a write to a terminal

  module _ (write : TerminalWrite) (on : IsOn call caller io (Term write.terminal)) (bytes : List ℕ)
      (sends : sent_by call caller io ≡ Some bytes) (puts : write.put ≡ put_by call bytes) (new : Terminal)
      (end : IoEnd) where
    by-fault : ChangesOneTerminal (TerminalWriteAttempt caller.process write.put write.count Fault (terminal_at io write.terminal)
        new) write.terminal before after → TerminalWriteFails call caller io (on_terminal io write.terminal new
        caller.process.0) before after
    by-fault changed = record {
      terminal = write.terminal;
      on = on;
      bytes = bytes;
      sends = sends;
      now =
          ap (λ (t : Terminal). on_terminal io write.terminal t caller.process.0) changed.4.outcome.terminal;
      out =
          one-changed (TerminalWriteAttempt caller.process write.put write.count Fault (terminal_at io write.terminal) new)
          (λ was now. PutsPart (put_by call bytes) was now × HasFailed was now) write.terminal before after
          changed
          (subst (λ (bytes : List ℕ). PutsPart bytes changed.0 changed.1) puts changed.4.outcome.part, record { faults = changed.4.driver.faults; keys = changed.4.driver.keys });
    }

    by-write : (answer : Progress) → ChangesOneTerminal (TerminalWriteAttempt caller.process write.put write.count answer
        (terminal_at io write.terminal) new) write.terminal before after → write_ends write answer ≡ Some end
        → end ≡ fails number → Gives (on_terminal io write.terminal new caller.process.0)
    by-write (Done count) changed ends over =
        absurd (answered write.regs number (same_Some (answers write.regs) end ends ∙ over))
    by-write Wait changed ends over = absurd (none-some end ends)
    by-write End changed ends over = absurd (none-some end ends)
    by-write Fault changed ends over =
        inr (inr (same-number E_WRITE number (same_Some (fails E_WRITE) end ends ∙ over), inr (inl (by-fault changed))))
    by-write NoMemory changed ends over = absurd (none-some end ends)

  -- ---- each step

  -- an effect with the end of a refusal leaves nothing of the call
  nothing-kept : (effect : IoEffect) → effect.end ≡ fails number → io_after caller.process.0 effect ≡ with_call effect.io caller.process.0 None
  nothing-kept effect over =
      ap (λ (end : IoEnd). with_call effect.io caller.process.0 (pending_in end)) over

  by-step : (step : IoStep) (effect : IoEffect) → Known call caller io drives (length before) step
      → HasIoEffect step caller io effect before after → effect.end ≡ fails number
      → Gives (with_call effect.io caller.process.0 None)
  by-step (refused other) effect known (is, same) over =
      let same_number : other ≡ number = sym (same-number other number (sym (ap (λ (effect : IoEffect). effect.end) is) ∙ over)) in
      inl (subst (StatedCause call caller io drives (length before)) same_number known, record { now = ap (λ (effect : IoEffect). with_call effect.io caller.process.0 None) is; same = same })
  by-step (comes it) effect known (is, same) over =
      subst (λ (effect : IoEffect). Gives (with_call effect.io caller.process.0 None)) (sym is)
      (by_pipe (known number (sym (ap (λ (effect : IoEffect). effect.end) is) ∙ over)))
    where
      by_pipe : PipeEnds call caller io drives (length before) number (with_call it.io caller.process.0 None) → Gives (with_call it.io caller.process.0 None)
      by_pipe (inl (is_number, finds)) = inr (inl (is_number, inl (finds before after same)))
      by_pipe (inr (is_number, finds)) = inr (inr (is_number, inr (inr (finds before after same))))
  by-step (reads read) effect known does over =
      subst (λ (effect : IoEffect). Gives (with_call effect.io caller.process.0 None)) (sym does.effect_is)
      (by-answer read known.0 known.1 does.new does.end does.answer does.device does.ends (sym (ap (λ (effect : IoEffect). effect.end) does.effect_is) ∙ over))
  by-step (writes write) effect known does over =
      subst (λ (effect : IoEffect). Gives (with_call effect.io caller.process.0 None)) (sym does.effect_is)
      (by-write write known.0 known.1.0 known.1.1 known.1.2 does.new does.end does.answer does.device does.ends (sym (ap (λ (effect : IoEffect). effect.end) does.effect_is) ∙ over))

-- ---- an attempt

-- a call that comes to a refusal ended so
abbrev number_in : CallResult → ℕ
number_in (CallResult.done m) = 0
number_in (CallResult.refused number) = number
number_in (CallResult.waits m) = 0
number_in (CallResult.ends status) = 0

refused-done : (number : ℕ) (m : Processes) → CallResult.refused number ≡ CallResult.done m → ⊥
refused-done number m is = cc

refused-waits : (number : ℕ) (m : Processes) → CallResult.refused number ≡ CallResult.waits m → ⊥
refused-waits number m is = cc

pub same-refusal : (m n : ℕ) → CallResult.refused m ≡ CallResult.refused n → n ≡ m
same-refusal m n is = sym (ap number_in is)

ended-by : (number p : ℕ) (m : Processes) (effect : IoEffect) (end : IoEnd) → CallResult.refused number ≡ result_by end m p effect → end ≡ fails number
ended-by number p m effect (answers regs) is = absurd (refused-done number _ is)
ended-by number p m effect (fails other) is = ap fails (same-refusal number other is)
ended-by number p m effect (keeps pending) is = absurd (refused-waits number _ is)

pub refusal : (call : IoCall) (m : Processes) (io new : Io) (drives p number : ℕ) (before after : List TerminalState)
    → IoAttempts call m io drives p (CallResult.refused number) new before after → Comes call (caller_of m p) io
    drives number new before after
refusal call m io new drives p number before after attempt =
    let over : attempt.effect.end ≡ fails number = ended-by number p m attempt.effect attempt.effect.end attempt.result_is in
    subst (λ (new : Io). Comes call (caller_of m p) io drives number new before after) (sym (attempt.state ∙ nothing-kept call (caller_of m p) io drives before after number attempt.effect over))
    (by-step call (caller_of m p) io drives before after number (step_of call m p io drives before) attempt.effect (step-known call (caller_of m p) io drives (length before)) attempt.does over)

-- the numbers of stated causes are neither 211 nor 245
apart : (number one other : ℕ) → number ≡ one → one ≢ other → number ≢ other
apart number one other is differ same = differ (sym is ∙ same)

pub other-number : {call : IoCall} {caller : Caller} {io : Io} {drives terms : ℕ} (number : ℕ) → StatedCause call caller io drives terms number → (number ≢ E_EOF) × (number ≢ E_WRITE)
other-number number (path_table_full is cause) = (apart number E_PTHFUL E_EOF is (λ same. omega (arith, same)), apart number E_PTHFUL E_WRITE is (λ same. omega (arith, same)))
other-number number (bad_path_number is cause) = (apart number E_BPNUM E_EOF is (λ same. omega (arith, same)), apart number E_BPNUM E_WRITE is (λ same. omega (arith, same)))
other-number number (bad_mode is cause) = (apart number E_BMODE E_EOF is (λ same. omega (arith, same)), apart number E_BMODE E_WRITE is (λ same. omega (arith, same)))
other-number number (unknown_service is cause) = (apart number E_UNKSVC E_EOF is (λ same. omega (arith, same)), apart number E_UNKSVC E_WRITE is (λ same. omega (arith, same)))
other-number number (bad_address is cause) = (apart number E_BPADDR E_EOF is (λ same. omega (arith, same)), apart number E_BPADDR E_WRITE is (λ same. omega (arith, same)))
other-number number (bad_path_name is cause) = (apart number E_BPNAM E_EOF is (λ same. omega (arith, same)), apart number E_BPNAM E_WRITE is (λ same. omega (arith, same)))
other-number number (not_found is cause) = (apart number E_PNNF E_EOF is (λ same. omega (arith, same)), apart number E_PNNF E_WRITE is (λ same. omega (arith, same)))
other-number number (no_module is cause) = (apart number E_MNF E_EOF is (λ same. omega (arith, same)), apart number E_MNF E_WRITE is (λ same. omega (arith, same)))
other-number number (not_ready is cause) = (apart number E_NOTRDY E_EOF is (λ same. omega (arith, same)), apart number E_NOTRDY E_WRITE is (λ same. omega (arith, same)))

-- ---- by the number

-- what comes of it
comes-of : (it : RefusedAttempt) → Comes it.call (caller_in it) it.io it.drives it.number it.new it.terms it.left
comes-of it =
    refusal it.call it.processes it.io it.new it.drives it.process it.number it.terms it.left it.attempted

end-no-fault : E_EOF ≡ E_WRITE → ⊥
end-no-fault same = omega (arith, same)

pub changes-nothing : (it : RefusedAttempt) → it.number ≢ E_EOF → it.number ≢ E_WRITE → KeepsAll it
changes-nothing it no_end no_fault = by_kind (comes-of it)
  where
    by_kind : Comes it.call (caller_in it) it.io it.drives it.number it.new it.terms it.left → KeepsAll it
    by_kind (inl (cause, nothing)) = nothing
    by_kind (inr (inl (is, left))) = absurd (no_end is)
    by_kind (inr (inr (is, left))) = absurd (no_fault is)

pub has-cause : (it : RefusedAttempt) → it.number ≢ E_EOF → it.number ≢ E_WRITE → HasCause it
has-cause it no_end no_fault = by_kind (comes-of it)
  where
    by_kind : Comes it.call (caller_in it) it.io it.drives it.number it.new it.terms it.left → HasCause it
    by_kind (inl (cause, nothing)) = cause
    by_kind (inr (inl (is, left))) = absurd (no_end is)
    by_kind (inr (inr (is, left))) = absurd (no_fault is)

pub ends-so : (it : RefusedAttempt) → it.number ≡ E_EOF → LeavesAtEnd it
ends-so it end = by_kind (comes-of it)
  where
    by_kind : Comes it.call (caller_in it) it.io it.drives it.number it.new it.terms it.left → LeavesAtEnd it
    by_kind (inl (cause, nothing)) = (let other = other-number it.number cause in absurd (other.0 end))
    by_kind (inr (inl (is, left))) = left
    by_kind (inr (inr (is, left))) = absurd (end-no-fault (sym end ∙ is))

pub fails-so : (it : RefusedAttempt) → it.number ≡ E_WRITE → LeavesAtFault it
fails-so it fault = by_kind (comes-of it)
  where
    by_kind : Comes it.call (caller_in it) it.io it.drives it.number it.new it.terms it.left → LeavesAtFault it
    by_kind (inl (cause, nothing)) = (let other = other-number it.number cause in absurd (other.1 fault))
    by_kind (inr (inl (is, left))) = absurd (end-no-fault (sym is ∙ fault))
    by_kind (inr (inr (is, left))) = left
