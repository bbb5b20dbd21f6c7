-- Only living processes have paths, and locks are on their files, in every state of slices and runs.
use Rattle.std.proofs.Common.{◌≡◌, ℕ, ◌<◌, ◌≤◌, true, List, length}
use Rattle.os9_outer.specs.TerminalState.{TerminalState}
use Rattle.time_rules.specs.CivilTime.{is_time_packet}
use Rattle.machine_model.specs.Console.{terminals_emptied}
use Rattle.machine_model.specs.declared.ends.EventEnd.{EventEnd}
use Rattle.machine_model.specs.declared.ends.SliceEnd.{SliceEnd}
use Rattle.machine_model.proofs.Induction.{IsCarriedByMoves, along-run, along-slice}
use Rattle.machine_model.specs.Event.{Event}
use Rattle.machine_model.specs.Run.{Choose, Run, Slice, Tick}
use Rattle.machine_model.specs.Start.{Boot, Starts}
use Rattle.machine_model.specs.State.{State}
use Rattle.call_laws.specs.Running.{IsRunning}
use Rattle.call_laws.proofs.RunningLaws.{running-then}
use Rattle.lock_laws.proofs.OnFiles.{choice-locked, emptied-locked, event-locked, start-on, tick-locked}
use Rattle.lock_laws.proofs.Runs.{start-agrees}
use Rattle.lock_laws.specs.Living.{AllRunOpen, IsRunOpen}
use Rattle.lock_laws.proofs.Living.{choice-living, emptied-living, event-living, start-living, tick-living}

-- ---- each move

pub event-open : (s t : State) (end : EventEnd) → Event s end t → IsRunOpen s → IsRunOpen t
event-open s t end event it =
    record { locked = event-locked s t end event it.locked; paths = event-living s t end event it.paths }

pub tick-open : (s t : State) → Tick s t → IsRunOpen s → IsRunOpen t
tick-open s t ticks it =
    record { locked = tick-locked s t ticks it.locked; paths = tick-living s t ticks it.paths }

pub choice-open : (s t : State) → Choose s t → IsRunOpen s → IsRunOpen t
choice-open s t chooses it =
    record { locked = choice-locked s t chooses it.locked; paths = choice-living s t chooses it.paths }

pub emptied-open : (m : State) → IsRunOpen m → IsRunOpen (record m { terms = terminals_emptied m.terms })
emptied-open m it = record { locked = emptied-locked m it.locked; paths = emptied-living m it.paths }

pub start-open : (boot : Boot) (s : State) → Starts boot s → 0 < length boot.terms → length boot.terms ≤ 4 → is_time_packet boot.time ≡ true → IsRunOpen s
start-open boot s starts some few time = record {
  locked = record { state = start-agrees boot s starts some few time; on = start-on boot s starts };
  paths = start-living boot s starts;
}

-- as many other terminals
pub terminals-open : (s : State) (terms : List TerminalState) → length terms ≡ length s.terms → IsRunOpen s → IsRunOpen (record s { terms = terms })
terminals-open s terms count it =
    let running = it.locked.state.running in
    let then : State = record s { terms = terms } in
    let then_running : IsRunning then = running-then s then running running.kept running.in_calls running.places
    running.on count running.requested running.waits running.rooms running.kinds running.clock in record {
      locked = record {
        state = record { running = then_running; agreed = it.locked.state.agreed };
        on = record {
          owned = it.locked.on.owned;
          held = it.locked.on.held;
          asked = λ q request is.
              (let asked = it.locked.on.asked q request is in
              record { on = asked.on; call = asked.call; code = asked.code; covers = asked.covers });
        };
      };
      paths = record { few = it.paths.few; none = it.paths.none };
    }

-- ---- one induction

abbrev AreOpen : State → List State → State → Type 0
AreOpen s states t = IsRunOpen s → AllRunOpen states t

carried : IsCarriedByMoves AreOpen
carried = record {
  events = record {
    none = λ s it. record { through = tt; last = it };
    event = λ s m t end states event rest it.
        (let next = event-open s m end event it in
        let all = rest next in
        record { through = (next, all.through); last = all.last });
  };
  tick = λ s m t states ticks rest it. rest (tick-open s m ticks it);
  choice = λ s m t states chooses rest it. rest (choice-open s m chooses it);
  emptied = λ m t states rest it. rest (emptied-open m it);
}

pub slice-open : (n : ℕ) (s t : State) (states : List State) (end : SliceEnd) → Slice n s states end t → IsRunOpen s → AllRunOpen states t
slice-open n s t states end slice = along-slice AreOpen carried n s t states end slice

pub run-open : (slices written : List ℕ) (s t : State) (states : List State) → Run slices s states written t → IsRunOpen s → AllRunOpen states t
run-open slices written s t states run = along-run AreOpen carried slices written s t states run
