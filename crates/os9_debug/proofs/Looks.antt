-- Ticks, choices and the host leave what is shown of a process.
use Rattle.std.proofs.Common.{◌≡◌, ℕ, zero, suc, ◌+◌, ◌==◌, ◌&&◌, ◌||◌, not, Bool, true, false, Option, Some, None, is_some, List, length, refl, sym, ap, ◌∙◌, subst, inl, inr}
use Rattle.std.specs.Prelude.{if◌then◌else◌, unwrap_or}
use Rattle.std.proofs.lemmas.Bool.{cases_eq, false≢true}
use Rattle.std.proofs.lemmas.List.{get_or-set_same, get_or-set_other}
use Rattle.os9_base.specs.declared.registers.Pid.{Pid}
use Rattle.os9_base.specs.declared.registers.Regs.{Regs}
use Rattle.proc_model.specs.declared.record.Record.{Record}
use Rattle.proc_model.specs.Records.{IsLiving, has_ended, is_living, new_record, record_at, record_of, record_passes}
use Rattle.proc_model.specs.Signals.{after_send, is_reached, send_fault, wake_signal, with_sent, with_signal}
use Rattle.proc_model.specs.Processes.{Processes}
use Rattle.call_laws.proofs.OthersKept.{living-record, living-within}
use Rattle.io_model.specs.Arrivals.{ArrivesFrom, Desk, after_key_signal, every_user}
use Rattle.machine_model.specs.Console.{terminals_emptied}
use Rattle.machine_model.specs.Run.{Choose, Tick, desk_of}
use Rattle.machine_model.specs.State.{State}
use Rattle.call_laws.proofs.RunningLaws.{tick-leaves}
use Rattle.os9_kernel.specs.View.{living_regs}
use Rattle.os9_debug.specs.Position.{LooksAlike}

-- what is shown of a place
abbrev look : Option Record → Option Regs
look None = None
look (Some r) = if not (has_ended r.life) then Some r.regs else None

-- ---- signals

abbrev living-by : Option Record → Option Regs
living-by place =
    if record_passes (λ r. not (has_ended r.life)) place then Some (unwrap_or place (new_record (record { 0 = 0 }) 0 0)).regs else None

look-place : (m : Processes) (p : ℕ) → living_regs m p ≡ look (record_of m.records p)
look-place m p = by_place (record_of m.records p) refl
  where
    by_place : (place : Option Record) → record_of m.records p ≡ place → living_regs m p ≡ look place
    by_place None is = ap living-by is
    by_place (Some r) is = ap living-by is

look-signalled : (records : List (Option Record)) (to : ℕ) (signal : Option ℕ) → IsLiving records to → (q : ℕ) → look (record_of (with_signal records to signal) q) ≡ look (record_of records q)
look-signalled records to signal there q =
    let put : Option Record = Some (record (record_at records to) { signal = signal }) in
    elim (cases_eq q to) [
      | inl same ↦
          ap (λ q. look (record_of (with_signal records to signal) q)) same
          ∙ ap look (get_or-set_same records to put None (living-within records to there))
          ∙ sym (ap look (living-record records to there))
          ∙ ap (λ q. look (record_of records q)) (sym same)
      | inr differ ↦ ap look (get_or-set_other records to q put None differ)
    ]

reached-lives : (records : List (Option Record)) (user to : ℕ) → is_reached records user to ≡ true → IsLiving records to
reached-lives records user to = by_test (is_living records to) (((record_at records to).user == user) || (user == 0)) refl
  where
    by_test : (living other : Bool) → is_living records to ≡ living → (living && other) ≡ true → is_living records to ≡ true
    by_test true other is reached = is
    by_test false other is reached = absurd (false≢true reached)

sent-lives : (records : List (Option Record)) (user to signal : ℕ) → is_some (send_fault records user to signal) ≡ false → IsLiving records to
sent-lives records user to signal sent =
    by_test (is_reached records user to) (not (signal == wake_signal) && is_some (record_at records to).signal) refl sent
  where
    by_test : (reached pending : Bool) → is_reached records user to ≡ reached → is_some (send_fault records user to signal) ≡ false → IsLiving records to
    by_test true pending is none = reached-lives records user to is
    by_test false pending is none = absurd (false≢true (sym none ∙ (rw is refl)))

look-sent : (records : List (Option Record)) (user to signal q : ℕ) → look (record_of (after_send records user to signal) q) ≡ look (record_of records q)
look-sent records user to signal q = by_fault (is_some (send_fault records user to signal)) refl
  where
    by_wake : IsLiving records to → (wake : Bool) → look (record_of (if wake then records else with_signal records to (Some signal)) q) ≡ look (record_of records q)
    by_wake there true = refl
    by_wake there false = look-signalled records to (Some signal) there q

    by_fault : (fault : Bool) → is_some (send_fault records user to signal) ≡ fault → look (record_of (if fault then records else with_sent records to signal) q) ≡ look (record_of records q)
    by_fault true wrong = refl
    by_fault false wrong = by_wake (sent-lives records user to signal wrong) (signal == wake_signal)

look-key : (processes : Processes) (user : Option Pid) (signal : Option ℕ) (q : ℕ) → look (record_of (after_key_signal processes user signal).records q) ≡ look (record_of processes.records q)
look-key processes None signal q = refl
look-key processes (Some process) None q = refl
look-key processes (Some process) (Some signal) q = look-sent processes.records every_user process.0 signal q

look-arrivals : (tick n count : ℕ) (old new : Desk) (q : ℕ) → ArrivesFrom tick n count old new → look (record_of new.processes.records q) ≡ look (record_of old.processes.records q)
look-arrivals tick n zero old new q is = ap (λ (desk : Desk). look (record_of desk.processes.records q)) is
look-arrivals tick n (suc count) old new q (between, here, later) =
    look-arrivals tick (n + 1) count between new q later
    ∙ ap (λ (processes : Processes). look (record_of processes.records q)) here.signal
    ∙ look-key old.processes here.terminal.user here.answer.signal q

-- ---- moves

pub looks-same : (s : State) → LooksAlike s s
looks-same s = record { memory = refl; regs = λ p. refl }

pub looks-then : (s t u : State) → LooksAlike s t → LooksAlike t u → LooksAlike s u
looks-then s t u first next = record { memory = next.memory ∙ first.memory; regs = λ p. next.regs p ∙ first.regs p }

pub tick-looks : (s t : State) → Tick s t → LooksAlike s t
tick-looks s t ticks = record {
  memory = (tick-leaves s t ticks).memory;
  regs = λ p. look-place t.processes p ∙ tick-look s t p ticks ∙ sym (look-place s.processes p);
}
  where
    tick-look : (s t : State) (p : ℕ) → Tick s t → look (record_of t.processes.records p) ≡ look (record_of s.processes.records p)
    tick-look s t p (desk, arrives, is) =
        ap (λ (t : State). look (record_of t.processes.records p)) is
        ∙ look-arrivals (s.processes.tick + 1) 0 (length s.terms) (desk_of s) desk p arrives

pub choice-looks : (s t : State) → Choose s t → LooksAlike s t
choice-looks s t is = subst (LooksAlike s) (sym is) (record { memory = refl; regs = λ p. refl })

pub emptied-looks : (s : State) → LooksAlike s (record s { terms = terminals_emptied s.terms })
emptied-looks s = record { memory = refl; regs = λ p. refl }
