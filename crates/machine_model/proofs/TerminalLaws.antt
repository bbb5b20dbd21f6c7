-- The terminals only gain: as keys arrive, and in an attempt of a call.
use Rattle.std.proofs.Common.{◌≡◌, ℕ, zero, suc, ◌+◌, ◌-◌, ◌≤◌, Bool, true, false, Option, Some, None, List, [], ◌∷◌, ◌++◌, slice_get, slice_set, refl, sym, ap, ◌∙◌, append_assoc, subst, arith}
use Rattle.std.specs.Prelude.{is_some, MatchBool}
use Rattle.std.proofs.lemmas.Option.{none-some, same_Some}
use Rattle.os9_base.specs.declared.registers.Pid.{Pid}
use Rattle.os9_outer.specs.Stream.{stream_with, emptied}
use Rattle.os9_outer.specs.TerminalState.{TerminalState, ChangesOneTerminal}
use Rattle.proc_model.specs.CallResult.{CallResult}
use Rattle.io_model.specs.declared.terminal.Arrival.{Arrival}
use Rattle.io_model.specs.declared.terminal.Progress.{Progress}
use Rattle.io_model.specs.declared.terminal.Reading.{Reading}
use Rattle.io_model.specs.Terminal.{Terminal, Arrives, TerminalReadAttempt, TerminalWriteAttempt, BreaksOffEcho, Attempted, IsOutputCutShort, IsOutputWritten, LeavesDriver, read_attempt, is_refused}
use Rattle.io_model.specs.declared.io_call.IoCall.{IoCall}
use Rattle.io_model.specs.Arrivals.{Desk, ArrivesFrom}
use Rattle.io_model.specs.Attempts.{HasIoEffect, IoAttempts}
use Rattle.io_model.specs.Io.{Io, terminal_at}
use Rattle.proc_model.specs.Processes.{Processes}
use Rattle.io_model.specs.Step.{Caller, IoEffect, IoStep, refused, comes, reads, writes}
use Rattle.io_model.specs.Terminals.{request_of}
use Rattle.machine_model.specs.Console.{terminals_emptied, without_bytes}
use Rattle.machine_model.specs.Terminals.{OnlyGains, TerminalsOnlyGain}

-- ---- one terminal

gains-same : (terminal : TerminalState) → OnlyGains terminal terminal
gains-same terminal = record { keys = ([], refl); faults = omega arith; observed = refl }

gains-then : (a b c : TerminalState) → OnlyGains a b → OnlyGains b c → OnlyGains a c
gains-then a b c first next = record {
  keys = (
    first.keys.0 ++ next.keys.0,
    first.keys.1 ∙ ap (λ rest. first.keys.0 ++ rest) next.keys.1 ∙ sym (append_assoc first.keys.0 next.keys.0 c.keys),
  );
  faults = omega (arith, first.faults, next.faults);
  observed = next.observed ∙ first.observed;
}

observed-with : (put : Option (List ℕ)) (bytes : List ℕ) → is_some (stream_with put bytes) ≡ is_some put
observed-with None bytes = refl
observed-with (Some before) bytes = refl

observed-emptied : (put : Option (List ℕ)) → is_some (emptied put) ≡ is_some put
observed-emptied None = refl
observed-emptied (Some before) = refl

gains-faults : (answer : Progress) (before now : TerminalState) → LeavesDriver answer before now → before.faults ≤ now.faults
gains-faults answer before now driver = driver.never_falls

gains-read : (request : Reading) (answer : Progress) (old new : Terminal) (before now : TerminalState) → TerminalReadAttempt request answer old new before now → OnlyGains before now
gains-read request answer old new before now it = record {
  keys = ([], sym it.driver.keys);
  faults = gains-faults answer before now it.driver;
  observed = put (is_refused answer) it.outcome;
}
  where
    put : (refusal : Bool) → MatchBool refusal (BreaksOffEcho request old new before now) (Attempted (read_attempt request old) answer new before now) → is_some now.put ≡ is_some before.put
    put true broken = ap (λ put. is_some put) broken.echo ∙ observed-with before.put _
    put false whole = ap (λ put. is_some put) whole.echo ∙ observed-with before.put _

gains-write : (process : Pid) (bytes : List ℕ) (count : ℕ) (answer : Progress) (old new : Terminal)
    (before now : TerminalState) → TerminalWriteAttempt process bytes count answer old new before now → OnlyGains before now
gains-write process bytes count answer old new before now it = record {
  keys = ([], sym it.driver.keys);
  faults = gains-faults answer before now it.driver;
  observed = put (is_refused answer) it.outcome;
}
  where
    put : (refusal : Bool) → MatchBool refusal (IsOutputCutShort process bytes old new before now)
        (IsOutputWritten process bytes count answer old new before now) → is_some now.put ≡ is_some before.put
    put true cut = ap (λ put. is_some put) cut.part.2 ∙ observed-with before.put _
    put false written = ap (λ put. is_some put) written.put ∙ observed-with before.put _

gains-arrival : (tick : ℕ) (old new : Terminal) (before now : TerminalState) (answer : Arrival) → Arrives tick old new before now answer → OnlyGains before now
gains-arrival tick old new before now answer arrives = record {
  keys = (arrives.taken, arrives.in_order);
  faults = arrives.faults.never_falls;
  observed = ap (λ put. is_some put) arrives.put ∙ observed-with before.put _;
}

gains-emptied : (terminal : TerminalState) → OnlyGains terminal (without_bytes terminal)
gains-emptied terminal =
    record { keys = ([], refl); faults = omega arith; observed = observed-emptied terminal.put }

-- ---- all terminals

pub gain-same : (terms : List TerminalState) → TerminalsOnlyGain terms terms
gain-same [] = tt
gain-same (terminal ∷ terms) = (gains-same terminal, gain-same terms)

pub gain-then : (a b c : List TerminalState) → TerminalsOnlyGain a b → TerminalsOnlyGain b c → TerminalsOnlyGain a c
gain-then [] [] [] first next = tt
gain-then [] [] (z ∷ c) first next = absurd next
gain-then [] (y ∷ b) c first next = absurd first
gain-then (x ∷ a) [] c first next = absurd first
gain-then (x ∷ a) (y ∷ b) [] first next = absurd next
gain-then (x ∷ a) (y ∷ b) (z ∷ c) first next = (gains-then x y z first.0 next.0, gain-then a b c first.1 next.1)

gain-set : (terms : List TerminalState) (n : ℕ) (old new : TerminalState) → slice_get terms n ≡ Some old → OnlyGains old new → TerminalsOnlyGain terms (slice_set terms n new)
gain-set [] n old new is gains = absurd (none-some old is)
gain-set (terminal ∷ terms) zero old new is gains =
    let same : terminal ≡ old = same_Some terminal old is in
    (subst (λ (t : TerminalState). OnlyGains t new) (sym same) gains, gain-same terms)
gain-set (terminal ∷ terms) (suc n) old new is gains = (gains-same terminal, gain-set terms n old new is gains)

gain-one : (change : TerminalState → TerminalState → Type 0) (n : ℕ) (before now : List TerminalState)
    → ((old new : TerminalState) → change old new → OnlyGains old new) → ChangesOneTerminal change n before now
    → TerminalsOnlyGain before now
gain-one change n before now gains (old, new, found, is, changed) =
    subst (TerminalsOnlyGain before) (sym is) (gain-set before n old new found (gains old new changed))

pub gain-emptied : (terms : List TerminalState) → TerminalsOnlyGain terms (terminals_emptied terms)
gain-emptied [] = tt
gain-emptied (terminal ∷ terms) = (gains-emptied terminal, gain-emptied terms)

-- ---- keys that arrive

pub gain-arrivals : (tick n count : ℕ) (old new : Desk) → ArrivesFrom tick n count old new → TerminalsOnlyGain old.terms new.terms
gain-arrivals tick n zero old new is = subst (λ (d : Desk). TerminalsOnlyGain old.terms d.terms) (sym is) (gain-same old.terms)
gain-arrivals tick n (suc count) old new (between, here, later) =
    gain-then old.terms between.terms new.terms
    (gain-one _ n old.terms between.terms (λ before now arrives. gains-arrival tick (terminal_at old.io n) here.terminal before now here.answer arrives) here.device)
    (gain-arrivals tick (n + 1) count between new later)

-- the keys of so many terminals have arrived, and then those of the next one
pub gain-broken : (tick count : ℕ) (old new : Desk) (terminal : Terminal) (answer : Arrival)
    (terms : List TerminalState) → ArrivesFrom tick 0 count old new → ChangesOneTerminal (λ before now. Arrives tick
    (terminal_at new.io count) terminal before now answer) count new.terms terms → TerminalsOnlyGain old.terms terms
gain-broken tick count old new terminal answer terms arrive device =
    gain-then old.terms new.terms terms (gain-arrivals tick 0 count old new arrive)
    (gain-one _ count new.terms terms (λ before now arrives. gains-arrival tick (terminal_at new.io count) terminal before now answer arrives) device)

-- ---- an attempt of a call

gain-does : (step : IoStep) (caller : Caller) (io : Io) (effect : IoEffect) (before after : List TerminalState) → HasIoEffect step caller io effect before after → TerminalsOnlyGain before after
gain-does (refused number) caller io effect before after (is, same) = subst (TerminalsOnlyGain before) (sym same) (gain-same before)
gain-does (comes it) caller io effect before after (is, same) = subst (TerminalsOnlyGain before) (sym same) (gain-same before)
gain-does (reads read) caller io effect before after does =
    gain-one _ read.terminal before after (λ old new it. gains-read (request_of caller read) does.answer (terminal_at io read.terminal) does.new old new it) does.device
gain-does (writes write) caller io effect before after does =
    gain-one _ write.terminal before after (λ old new it. gains-write caller.process write.put write.count does.answer (terminal_at io write.terminal) does.new old new it) does.device

pub gain-attempt : (call : IoCall) (m : Processes) (old new : Io) (drives p : ℕ) (result : CallResult)
    (before after : List TerminalState) → IoAttempts call m old drives p result new before after → TerminalsOnlyGain
    before after
gain-attempt call m old new drives p result before after attempt = gain-does _ _ old attempt.effect before after attempt.does
