-- Each state has an event, each slice an end, and each list of slices a run.
use Rattle.std.proofs.Common.{◌≡◌, ◌⊎◌, ℕ, ◌-◌, ◌<◌, ◌≤◌, true, false, Some, List, length, refl, sym, ap, ◌∙◌, subst, inl, inr, arith, Result, Ok, Err}
use Rattle.std.proofs.lemmas.Bool.{false≢true}
use Rattle.time_rules.specs.CivilTime.{is_time_packet}
use Rattle.os9_base.specs.declared.errors.TheConstants.{E_UNKSVC}
use Rattle.os9_base.specs.declared.registers.Regs.{Regs}
use Rattle.os9_base.specs.declared.registers.TimePacket.{TimePacket}
use Rattle.os9_outer.specs.TerminalState.{fault_counts}
use Rattle.cpu_model.specs.Step.{Aborts, Calls, Done, Outcome}
use Rattle.proc_model.specs.Records.{IsLiving}
use Rattle.proc_model.specs.Attempts.{after_attempt, done_regs, goes_on, refused_regs}
use Rattle.proc_model.specs.CallResult.{CallResult, done, ends, refused, waits}
use Rattle.proc_model.specs.Delivery.{after_delivery, delivered}
use Rattle.proc_model.specs.Processes.{Processes, regs_at}
use Rattle.proc_model.specs.Ready.{Act, act_of, attempts, delivers, executes}
use Rattle.proc_model.specs.declared.proc_call.ProcCall.TheVariants as Call
use Rattle.file_rules.specs.Attempts.{asker_of, io_effect}
use Rattle.std.proofs.lemmas.Option.{none-some}
use Rattle.file_rules.specs.Files.{Files, KeepsDriveFaults}
use Rattle.time_rules.specs.Attempts.{time_step}
use Rattle.machine_model.specs.declared.ends.EventEnd.{EventEnd}
use Rattle.call_laws.proofs.CallsKept.{left-refused}
use Rattle.call_laws.proofs.EndsKept.{by-end}
use Rattle.call_laws.proofs.ForksKept.{attempt-left}
use Rattle.call_laws.proofs.OthersKept.{living-within}
use Rattle.machine_model.specs.Event.{Acts, Event, before_delivery, files_after_delivery, files_after_instruction}
use Rattle.machine_model.specs.Run.{Tick, is_going}
use Rattle.machine_model.specs.Services.{CallAttempted, Serves, Service, loads, no_call, on_paths, on_processes, on_time, service_of}
use Rattle.machine_model.specs.Start.{Boot, Starts}
use Rattle.machine_model.specs.State.{Rest, State, with_rest}
use Rattle.isolation_laws.proofs.Asked.{Asks, asks}
use Rattle.isolation_laws.proofs.EventsKept.{time-left}
use Rattle.call_laws.proofs.Loads.{Child, chain-over, fork-over, load-over}
use Rattle.call_laws.proofs.Over.{over-by}
use Rattle.run_laws.specs.Mounted.{CanGo}
use Rattle.run_laws.specs.Faults.{HasNoVolumes}
use Rattle.run_laws.specs.Runs.{HasUnfailedEvent, HasRun, HasUnfailedSlice, MakesFile}
use Rattle.run_laws.proofs.Kept.{choice-bare, event-bare, tick-bare}
use Rattle.run_laws.proofs.Calls.{SomeAttempt, same-drives, some-attempt}
use Rattle.run_laws.proofs.Moves.{choice-can, emptied-can, event-can, start-can, tick-can}
use Rattle.machine_model.specs.ProcessEvent.{after_instruction, call_event_end, delivery_end, instruction_end, next_instruction}
use Rattle.io_model.specs.Waiting.{interrupted_count}
use Rattle.run_laws.proofs.Building.{Builds, Next, SomeRun, SomeSlice, some-run, some-slice}
use Rattle.run_laws.proofs.Going.{GoesOn, after-call-acts, after-call-lives, broken-goes, instruction-goes, rank}

-- ---- no place for a record comes or goes in an attempt

module _ (s : State) (p code : ℕ) (next : act_of s.processes p ≡ attempts code) (lives : IsLiving s.processes.records p) (now : TimePacket) (rest : Rest) where
  abbrev HasPlaces : CallResult → Type 0
  HasPlaces result = length (after_attempt s.processes p result).records ≡ length s.processes.records

  serves-places : (service : Service) (result : CallResult) → Asks code service → Serves service s now p result rest → HasPlaces result
  serves-places loads result asked (files, it, is) =
      (load-over s.processes (asker_of s.processes p now) s.files (length s.terms) p result files it).aside.places
  serves-places (on_processes Call.Fork) result asked (files, it, is) =
      (over-by s.processes p (Child s.processes p) result (fork-over s.processes (asker_of s.processes p now) s.files (length s.terms) p result files lives it)
      (λ t child. (child.aside, child.tick))).aside.places
  serves-places (on_processes Call.Chain) result asked (files, it, is) =
      (chain-over s.processes (asker_of s.processes p now) s.files (length s.terms) p result files it).aside.places
  serves-places (on_processes call) result asked it =
      subst HasPlaces (sym it.0) (attempt-left s.processes p call lives (code, next, asked)).places
  serves-places (on_time call) result asked (clock, it, is) =
      subst HasPlaces (sym it.result_is) (time-left s.processes p (time_step call s.processes now p)).places
  serves-places (on_paths call) result asked (it, same) =
      subst HasPlaces (sym it.result_is) (by-end s.processes p (io_effect it.effect) it.effect.end).places
  serves-places no_call result asked (result_is, is) =
      subst HasPlaces (sym result_is) (left-refused s.processes p E_UNKSVC).places

-- ---- an event has a next one

-- no drive fails in an event, unless a file or a directory is made
abbrev pub Staying : State → State → Type 0
Staying s t = KeepsDriveFaults s.files.drives t.files.drives ⊎ MakesFile s

-- what the drives counted stays in what is no call
instruction-drives : (files : Files) (p : ℕ) (outcome : Outcome) → (files_after_instruction files p outcome).drives ≡ files.drives
instruction-drives files p (Done effect) = refl
instruction-drives files p (Calls code regs) = refl
instruction-drives files p (Aborts status) = refl

delivery-drives : (files : Files) (p : ℕ) (result : Result Processes ℕ) → (files_after_delivery files p result).drives ≡ files.drives
delivery-drives files p (Ok t) = refl
delivery-drives files p (Err status) = refl

module _ (s : State) (p : ℕ) (chosen : s.chosen ≡ Some p) (lives : IsLiving s.processes.records p) (can : CanGo s) where
  acts-event : (act : Act) (end : EventEnd) (t : State) → act_of s.processes p ≡ act → Acts act s p end t → Event s end t
  acts-event act end t next acts =
      (p, chosen, lives, subst (λ (act : Act). Acts act s p end t) (sym next) acts)

  next-executes : act_of s.processes p ≡ executes → Next Staying s p
  next-executes next =
      let outcome = next_instruction s.processes p in
      let last : State = record s { processes = after_instruction s.processes p outcome; files = files_after_instruction s.files p outcome } in
      record {
        end = instruction_end outcome;
        last = last;
        event = acts-event executes (instruction_end outcome) last next (refl, refl);
        chosen = refl;
        goes = instruction-goes s.processes p lives next outcome;
        counts = refl;
        still = inl (same-drives s.files.drives last.files.drives (instruction-drives s.files p outcome));
      }

  next-delivers : (signal : ℕ) → act_of s.processes p ≡ delivers signal → Next Staying s p
  next-delivers signal next =
      let result = delivered (before_delivery s p) p signal in
      let last : State = record s { processes = after_delivery (before_delivery s p) p result; files = files_after_delivery s.files p result } in
      record {
        end = delivery_end result;
        last = last;
        event = acts-event (delivers signal) (delivery_end result) last next (refl, refl);
        chosen = refl;
        goes = broken-goes s.processes p lives signal next (interrupted_count s.files.io p);
        counts = refl;
        still = inl (same-drives s.files.drives last.files.drives (delivery-drives s.files p result));
      }

  -- an attempt
  module _ (code : ℕ) (next : act_of s.processes p ≡ attempts code) where
    goes-then : (n : Processes) (regs : Regs) → length (goes_on n p regs).records ≡ length s.processes.records → GoesOn s.processes p (goes_on n p regs)
    goes-then n regs places =
        let few : rank (act_of (goes_on n p regs) p) ≤ 1 = after-call-acts n p regs in
        let two : rank (act_of s.processes p) ≡ 2 = ap rank next in
        record {
          lives =
              after-call-lives n p regs (subst (λ (n : ℕ). p < n) (sym places) (living-within s.processes.records p lives));
          nearer = inr (omega arith);
        }

    goes-by : (result : CallResult) → length (after_attempt s.processes p result).records ≡ length s.processes.records → is_going (call_event_end result) ≡ true
        → GoesOn s.processes p (after_attempt s.processes p result)
    goes-by (done t) places going = goes-then t (done_regs (regs_at t p)) places
    goes-by (refused number) places going = goes-then s.processes (refused_regs (regs_at s.processes p) number) places
    goes-by (waits t) places going = absurd (false≢true going)
    goes-by (ends status) places going = absurd (false≢true going)

    attempt-places : (result : CallResult) (rest : Rest) → CallAttempted code s p result rest → length (after_attempt s.processes p result).records ≡ length s.processes.records
    attempt-places result rest (now, at, it) = serves-places s p code next lives now rest (service_of code) result (asks code) it

    -- an attempt is an event
    pub attempt-event : (Still : State → State → Type 0) (result : CallResult) (rest : Rest) → CallAttempted code s p result rest → fault_counts rest.terms ≡ fault_counts s.terms
        → Still s (with_rest s (after_attempt s.processes p result) rest) → Next Still s p
    attempt-event Still result rest attempt counts still = record {
      end = call_event_end result;
      last = with_rest s (after_attempt s.processes p result) rest;
      event =
          acts-event (attempts code) (call_event_end result) (with_rest s (after_attempt s.processes p result) rest) next (result, rest, attempt, refl, refl);
      chosen = refl;
      goes = goes-by result (attempt-places result rest attempt);
      counts = counts;
      still = still;
    }

    next-attempt : Next Staying s p
    next-attempt =
        let it : SomeAttempt s p can code = some-attempt s p can code in
        attempt-event Staying it.result it.rest it.attempt it.counts
        (elim (it.stays) [
          | inl none ↦ inl none
          | inr making ↦
              inr (record {
                p = p;
                chosen = chosen;
                code = code;
                next = next;
                makes = making.makes;
                drive = making.drive;
                volume = making.volume;
                mounted = making.mounted;
              })
        ])

  pub next-event : Next Staying s p
  next-event = by_act (act_of s.processes p) refl
    where
      by_act : (act : Act) → act_of s.processes p ≡ act → Next Staying s p
      by_act executes next = next-executes next
      by_act (attempts code) next = next-attempt code next
      by_act (delivers signal) next = next-delivers signal next

pub event-end : (s : State) (p : ℕ) → CanGo s → s.chosen ≡ Some p → IsLiving s.processes.records p → HasUnfailedEvent s
event-end s p can chosen lives =
    let next : Next Staying s p = next-event s p chosen lives can in
    record { end = next.end; last = next.last; event = next.event; counts = next.counts; drives = next.still }

-- ---- slices and runs

-- without volumes no drive fails, and none is mounted
abbrev BareStays : State → State → Type 0
BareStays s t = HasNoVolumes s → KeepsDriveFaults s.files.drives t.files.drives × HasNoVolumes t

-- without volumes no file is made
bare-still : (s : State) (p : ℕ) (next : Next Staying s p) → BareStays s next.last
bare-still s p next bare =
    (by_drives next.still, event-bare s next.last next.end next.event bare)
  where
    by_drives : KeepsDriveFaults s.files.drives next.last.files.drives ⊎ MakesFile s → KeepsDriveFaults s.files.drives next.last.files.drives
    by_drives (inl none) = none
    by_drives (inr making) = absurd (none-some making.volume (sym (bare making.drive) ∙ making.mounted))

bare-next : (s : State) (p : ℕ) → CanGo s → s.chosen ≡ Some p → IsLiving s.processes.records p → Next BareStays s p
bare-next s p can chosen lives =
    let next : Next Staying s p = next-event s p chosen lives can in
    record {
      end = next.end;
      last = next.last;
      event = next.event;
      chosen = next.chosen;
      goes = next.goes;
      counts = next.counts;
      still = bare-still s p next;
    }

tick-still : (s t : State) → Tick s t → KeepsDriveFaults s.files.drives t.files.drives
tick-still s t (desk, arrives, is) = ap (λ (t : State). t.files.drives) is

bare-builds : Builds CanGo BareStays
bare-builds = record {
  next = bare-next;
  event = event-can;
  tick = tick-can;
  choice = choice-can;
  taken = emptied-can;
  same = λ s bare. (refl, bare);
  then = λ s m t first second bare. ((second (first bare).1).0 ∙ (first bare).0, (second (first bare).1).1);
  ticked = λ s t tick bare. (tick-still s t tick, tick-bare s t tick bare);
  chose = λ s t choice bare. (ap (λ (t : State). t.files.drives) choice, choice-bare s t choice bare);
  took = λ m bare. (refl, bare);
}

pub slice-end : (n : ℕ) (s : State) → CanGo s → HasUnfailedSlice n s
slice-end n s can =
    let it : SomeSlice CanGo BareStays bare-builds n s = some-slice CanGo BareStays bare-builds n s can in
    record {
      states = it.states;
      end = it.end;
      last = it.last;
      slice = it.slice;
      counts = it.counts;
      drives = λ bare. (it.still bare).0;
    }

pub run-end : (slices : List ℕ) (s : State) → CanGo s → HasRun slices s
run-end slices s can =
    let it : SomeRun CanGo BareStays bare-builds slices s = some-run CanGo BareStays bare-builds slices s can in
    record {
      states = it.states;
      written = it.written;
      last = it.last;
      run = it.run;
      counts = it.counts;
      drives = λ bare. (it.still bare).0;
    }

pub started-run : (boot : Boot) (slices : List ℕ) (s : State) → Starts boot s → 0 < length boot.terms → length boot.terms ≤ 4 → is_time_packet boot.time ≡ true
    → length boot.images ≤ length boot.drives → HasRun slices s
started-run boot slices s starts some few time drives = run-end slices s (start-can boot s starts some few time drives)
