-- What keys that arrive leave of pipes, paths, calls that wait and registers.
use Rattle.std.proofs.Common.{◌≡◌, ◌≢◌, ◌⊎◌, ℕ, zero, suc, ◌+◌, ◌==◌, Bool, true, false, Option, Some, None, List, length, refl, sym, ap, ◌∙◌, subst, inl, inr}
use Rattle.std.specs.Prelude.{is_some, unwrap_or, if◌then◌else◌}
use Rattle.std.proofs.lemmas.Bool.{cases_eq, cases_lt}
use Rattle.std.proofs.lemmas.List.{get_or-set_same, get_or-set_other, get_or_past, length-set}
use Rattle.os9_base.specs.declared.registers.Pid.{Pid}
use Rattle.os9_base.specs.declared.registers.Regs.{Regs}
use Rattle.proc_model.specs.declared.record.Record.{Record}
use Rattle.proc_model.specs.Records.{new_record, record_at}
use Rattle.proc_model.specs.Signals.{after_send, send_fault, wake_signal, with_signal}
use Rattle.proc_model.specs.Processes.{Processes, regs_at}
use Rattle.io_model.specs.Arrivals.{ArrivesFrom, Desk, after_key_signal, every_user}
use Rattle.io_model.specs.Io.{Io}

-- a signal that is sent leaves the registers
abbrev regs_in : Option Record → Regs
regs_in place = (unwrap_or place (new_record (record { 0 = 0 }) 0 0)).regs

sent-regs : (records : List (Option Record)) (user to signal q : ℕ) → (record_at (after_send records user to signal) q).regs ≡ (record_at records q).regs
sent-regs records user to signal q =
    by_fault (is_some (send_fault records user to signal)) (signal == wake_signal)
  where
    apart-or : (q ≡ to) ⊎ (q ≢ to) → (record_at (with_signal records to (Some signal)) q).regs ≡ (record_at records q).regs
    apart-or (inl same) = subst (λ (k : ℕ). (record_at (with_signal records to (Some signal)) k).regs ≡ (record_at records k).regs) (sym same) at_it
      where
        at_it : (record_at (with_signal records to (Some signal)) to).regs ≡ (record_at records to).regs
        at_it = elim (cases_lt to (length records)) [
          | inl within ↦ ap regs_in (get_or-set_same records to (Some (record (record_at records to) { signal = Some signal })) None within)
          | inr past ↦ ap regs_in (get_or_past (with_signal records to (Some signal)) to None (rw length-set past) ∙ sym (get_or_past records to None past))
        ]
    apart-or (inr apart) = ap regs_in (get_or-set_other records to q (Some (record (record_at records to) { signal = Some signal })) None apart)

    by_fault : (fault wake : Bool) → (record_at (if fault then records else (if wake then records else with_signal records to (Some signal))) q).regs ≡ (record_at records q).regs
    by_fault true wake = refl
    by_fault false true = refl
    by_fault false false = apart-or (cases_eq q to)

-- what keys that arrive leave
pub record DeskRests (old new : Desk) : Type 0 where
  pub pipes : new.io.pipes ≡ old.io.pipes
  pub paths : new.io.paths ≡ old.io.paths
  pub calls : new.io.calls ≡ old.io.calls
  pub memory : new.processes.memory ≡ old.processes.memory
  pub regs : (p : ℕ) → regs_at new.processes p ≡ regs_at old.processes p

key-memory : (processes : Processes) (user : Option Pid) (signal : Option ℕ) → (after_key_signal processes user signal).memory ≡ processes.memory
key-memory processes None signal = refl
key-memory processes (Some process) None = refl
key-memory processes (Some process) (Some signal) = refl

key-regs : (processes : Processes) (user : Option Pid) (signal : Option ℕ) (p : ℕ) → regs_at (after_key_signal processes user signal) p ≡ regs_at processes p
key-regs processes None signal p = refl
key-regs processes (Some process) None p = refl
key-regs processes (Some process) (Some signal) p = sent-regs processes.records every_user process.0 signal p

pub arrivals-rest : (tick k count : ℕ) (old new : Desk) → ArrivesFrom tick k count old new → DeskRests old new
arrivals-rest tick k zero old new is = record {
  pipes = ap (λ (desk : Desk). desk.io.pipes) is;
  paths = ap (λ (desk : Desk). desk.io.paths) is;
  calls = ap (λ (desk : Desk). desk.io.calls) is;
  memory = ap (λ (desk : Desk). desk.processes.memory) is;
  regs = λ p. ap (λ (desk : Desk). regs_at desk.processes p) is;
}
arrivals-rest tick k (suc count) old new (between, here, later) =
    let rest : DeskRests between new = arrivals-rest tick (k + 1) count between new later in
    record {
      pipes = rest.pipes ∙ ap (λ (io : Io). io.pipes) here.io;
      paths = rest.paths ∙ ap (λ (io : Io). io.paths) here.io;
      calls = rest.calls ∙ ap (λ (io : Io). io.calls) here.io;
      memory =
          rest.memory ∙ ap (λ (processes : Processes). processes.memory) here.signal ∙ key-memory old.processes here.terminal.user here.answer.signal;
      regs =
          λ p. rest.regs p ∙ ap (λ (processes : Processes). regs_at processes p) here.signal ∙ key-regs old.processes here.terminal.user here.answer.signal p;
    }
