-- Locks, requests and their history agree in every state of slices and runs.
use Rattle.std.proofs.Common.{◌≡◌, ℕ, ◌<◌, ◌≤◌, ◌+◌, true, List, length, sym, ap, ◌∙◌, subst}
use Rattle.time_rules.specs.CivilTime.{is_time_packet}
use Rattle.machine_model.specs.Console.{terminals_emptied}
use Rattle.machine_model.specs.declared.ends.EventEnd.{EventEnd}
use Rattle.machine_model.specs.declared.ends.SliceEnd.{SliceEnd}
use Rattle.io_model.specs.Path.{PathTable}
use Rattle.machine_model.proofs.Induction.{IsCarriedByMoves, along-run, along-slice}
use Rattle.machine_model.specs.Event.{Event}
use Rattle.machine_model.specs.Run.{Choose, Run, Slice, Tick, desk_of}
use Rattle.machine_model.specs.Start.{Boot, Starts}
use Rattle.machine_model.specs.State.{State}
use Rattle.call_laws.proofs.Events.{event-running}
use Rattle.call_laws.proofs.RunningLaws.{arrivals-left, choice-running, emptied-running, start-running, tick-running}
use Rattle.lock_laws.specs.Locked.{AllAgreed, AreAgreed, IsAgreed}
use Rattle.lock_laws.proofs.Agreed.{choice-agreed, event-agreed, start-agreed}

pub event-agrees : (s t : State) (end : EventEnd) → Event s end t → IsAgreed s → IsAgreed t
event-agrees s t end event it = record {
  running = event-running s t end event it.running;
  agreed = event-agreed s t end event it.running it.agreed;
}

pub tick-agrees : (s t : State) → Tick s t → IsAgreed s → IsAgreed t
tick-agrees s t (desk, arrives, is) it =
    let left = arrivals-left (s.processes.tick + 1) 0 (length s.terms) (desk_of s) desk arrives in record {
      running = tick-running s t (desk, arrives, is) it.running;
      agreed = subst (λ (t : State). AreAgreed t.files) (sym is) (record {
        records = it.agreed.records;
        places = ap (λ (paths : PathTable). length paths.descs) left.paths ∙ it.agreed.places;
      });
    }

pub choice-agrees : (s t : State) → Choose s t → IsAgreed s → IsAgreed t
choice-agrees s t chooses it = record {
  running = choice-running s t chooses it.running;
  agreed = choice-agreed s t chooses it.agreed;
}

pub emptied-agrees : (m : State) → IsAgreed m → IsAgreed (record m { terms = terminals_emptied m.terms })
emptied-agrees m it = record { running = emptied-running m it.running; agreed = it.agreed }

pub start-agrees : (boot : Boot) (s : State) → Starts boot s → 0 < length boot.terms → length boot.terms ≤ 4 → is_time_packet boot.time ≡ true → IsAgreed s
start-agrees boot s starts some few time = record {
  running = start-running boot s starts some few time;
  agreed = start-agreed boot s starts;
}

-- ---- one induction

-- if they agree in a state, they do in those that follow
abbrev Agrees : State → List State → State → Type 0
Agrees s states t = IsAgreed s → AllAgreed states t

carried : IsCarriedByMoves Agrees
carried = record {
  events = record {
    none = λ s it. record { through = tt; last = it };
    event = λ s m t end states event rest it.
        (let next = event-agrees s m end event it in
        let all = rest next in
        record { through = (next, all.through); last = all.last });
  };
  tick = λ s m t states ticks rest it. rest (tick-agrees s m ticks it);
  choice = λ s m t states chooses rest it. rest (choice-agrees s m chooses it);
  emptied = λ m t states rest it. rest (emptied-agrees m it);
}

pub slice-agrees : (n : ℕ) (s t : State) (states : List State) (end : SliceEnd) → Slice n s states end t → IsAgreed s → AllAgreed states t
slice-agrees n s t states end slice = along-slice Agrees carried n s t states end slice

pub run-agrees : (slices written : List ℕ) (s t : State) (states : List State) → Run slices s states written t → IsAgreed s → AllAgreed states t
run-agrees slices written s t states run = along-run Agrees carried slices written s t states run
