-- The owner of each lock lives.
use Rattle.std.proofs.Common.{◌≡◌, ◌≢◌, ◌⊎◌, ℕ, ◌<◌, not, true, Option, Some, None, Result, Ok, Err, length, refl, sym, ap, ◌∙◌, subst, inl, inr, arith}
use Rattle.std.proofs.lemmas.Bool.{cases_eq, false≢true}
use Rattle.std.proofs.lemmas.List.{get_or-set_same, length-set}
use Rattle.os9_base.specs.declared.errors.TheConstants.{E_UNKSVC}
use Rattle.os9_base.specs.declared.registers.TimePacket.{TimePacket}
use Rattle.cpu_model.specs.Step.{Aborts, Calls, Done, Outcome}
use Rattle.proc_model.specs.Records.{IsLiving, has_ended, record_at, record_of, record_passes}
use Rattle.proc_model.specs.declared.record.Life.TheVariants.{Waiting}
use Rattle.proc_model.specs.declared.record.Record.{Record}
use Rattle.proc_model.specs.Attempts.{after_attempt, attempted, done_regs, refused_regs}
use Rattle.proc_model.specs.CallResult.{CallResult, done, ends, refused, waits}
use Rattle.proc_model.specs.Delivery.{after_delivery, delivered}
use Rattle.proc_model.specs.Processes.{Processes, regs_at}
use Rattle.proc_model.specs.Ready.{Act, act_of, attempts, delivers, executes}
use Rattle.proc_model.specs.declared.proc_call.ProcCall.{ProcCall}
use Rattle.proc_model.specs.declared.proc_call.ProcCall.TheVariants as Call
use Rattle.io_model.specs.Attempts.{result_by}
use Rattle.io_model.specs.Step.{IoEffect, IoEnd, answers, fails, keeps}
use Rattle.io_model.specs.Waiting.{interrupted_count}
use Rattle.lock_model.specs.Locks.{lock_of}
use Rattle.file_rules.specs.Attempts.{asker_of, io_effect}
use Rattle.file_rules.specs.Files.{Files}
use Rattle.file_rules.specs.Processes.{files_ended}
use Rattle.call_laws.specs.Others.{ComesOf}
use Rattle.call_laws.proofs.CallsKept.{AttemptLeft}
use Rattle.call_laws.proofs.EndsKept.{by-end}
use Rattle.call_laws.proofs.ForksKept.{attempt-left}
use Rattle.call_laws.proofs.OthersKept.{living-within}
use Rattle.time_rules.specs.Attempts.{time_step}
use Rattle.machine_model.specs.ProcessEvent.{after_instruction, delivery_end, next_instruction}
use Rattle.machine_model.specs.declared.ends.EventEnd.{EventEnd}
use Rattle.machine_model.specs.Event.{Acts, before_delivery, files_after_delivery, files_after_instruction}
use Rattle.machine_model.specs.Run.{is_going}
use Rattle.machine_model.specs.Services.{Serves, Service, files_after_call, loads, no_call, on_paths, on_processes, on_time, service_of, with_files}
use Rattle.machine_model.specs.State.{Rest, State, with_rest}
use Rattle.isolation_laws.proofs.Asked.{Asks, asks}
use Rattle.isolation_laws.proofs.EventsKept.{event-leaves}
use Rattle.call_laws.proofs.Attempts.{time-over}
use Rattle.call_laws.proofs.Loads.{Child, chain-over, fork-over, load-over}
use Rattle.call_laws.proofs.Over.{IsNoEnd, Over, over-by, over-refused}
use Rattle.run_laws.proofs.Going.{after-call-lives, broken-goes, instruction-goes}
use Rattle.lock_laws.specs.Locked.{AreOwned, IsRunLocked}
use Rattle.lock_laws.proofs.Held.{LeavesRecords, ended-owned}

-- ---- the process of an event

-- one that goes on or waits after an attempt lives
waits-lives : (t : Processes) (p : ℕ) → p < length (after_attempt t p (waits t)).records → IsLiving (after_attempt t p (waits t)).records p
waits-lives t p within =
    ap (record_passes (λ r. not (has_ended r.life)))
    (get_or-set_same t.records p (Some (record (record_at t.records p) { life = Waiting })) None (subst (λ (n : ℕ). p < n) (length-set t.records p _) within))

attempt-lives : (m : Processes) (p : ℕ) (result : CallResult) → IsNoEnd result → p < length (after_attempt m p result).records → IsLiving (after_attempt m p result).records p
attempt-lives m p (done t) none within = after-call-lives t p (done_regs (regs_at t p)) within
attempt-lives m p (refused number) none within = after-call-lives m p (refused_regs (regs_at m p) number) within
attempt-lives m p (waits t) none within = waits-lives t p within
attempt-lives m p (ends status) none within = absurd none

-- a call on paths ends no process
path-goes-on : (processes : Processes) (p : ℕ) (effect : IoEffect) (end : IoEnd) → IsNoEnd (result_by end processes p effect)
path-goes-on processes p effect (answers regs) = tt
path-goes-on processes p effect (fails number) = tt
path-goes-on processes p effect (keeps kept) = tt

module _ (s : State) (p : ℕ) (lives : IsLiving s.processes.records p) where
  -- it lives then, or what it had is closed
  abbrev Goes : State → Type 0
  Goes t = IsLiving t.processes.records p ⊎ (t.files ≡ files_ended s.files p)

  module _ (t : State) (result : CallResult) (rest : Rest) (is : t ≡ with_rest s (after_attempt s.processes p result) rest) where
    on-goes : length (after_attempt s.processes p result).records ≡ length s.processes.records → IsNoEnd result → Goes t
    on-goes long none =
        let within : p < length s.processes.records = living-within s.processes.records p lives in
        inl (subst (λ (t : State). IsLiving t.processes.records p) (sym is) (attempt-lives s.processes p result none (omega (arith, within, long))))

    over-goes : Over s.processes p result → Goes t
    over-goes over = on-goes over.aside.places over.no_end

    call-goes : (code : ℕ) (call : ProcCall) → act_of s.processes p ≡ attempts code → Asks code (on_processes call)
        → result ≡ attempted call s.processes p → rest ≡ with_files s (files_after_call s.files p result) → Goes t
    call-goes code call next asked answer same = by_result result refl
      where
        long : length (after_attempt s.processes p result).records ≡ length s.processes.records
        long = (subst (AttemptLeft s.processes p) (sym answer) (attempt-left s.processes p call lives (code, next, asked))).places

        by_result : (of : CallResult) → result ≡ of → Goes t
        by_result (done n) so = on-goes long (subst IsNoEnd (sym so) tt)
        by_result (refused number) so = on-goes long (subst IsNoEnd (sym so) tt)
        by_result (waits n) so = on-goes long (subst IsNoEnd (sym so) tt)
        by_result (ends status) so =
            inr (ap (λ (t : State). t.files) is ∙ ap (λ (rest : Rest). rest.files) same ∙ ap (files_after_call s.files p) so)

    serves-goes : (code : ℕ) → act_of s.processes p ≡ attempts code → (now : TimePacket) (service : Service) → Asks code service → Serves service s now p result rest → Goes t
    serves-goes code next now loads asked (files, read, same) =
        over-goes (load-over s.processes (asker_of s.processes p now) s.files (length s.terms) p result files read)
    serves-goes code next now (on_processes Call.Fork) asked (files, read, same) =
        over-goes (over-by s.processes p (Child s.processes p) result (fork-over s.processes (asker_of s.processes p now) s.files (length s.terms) p result files lives read)
        (λ n child. (child.aside, child.tick)))
    serves-goes code next now (on_processes Call.Chain) asked (files, read, same) =
        over-goes (chain-over s.processes (asker_of s.processes p now) s.files (length s.terms) p result files read)
    serves-goes code next now (on_processes call) asked served = call-goes code call next asked served.0 served.1
    serves-goes code next now (on_time call) asked (clock, timed, same) =
        over-goes (subst (Over s.processes p) (sym timed.result_is) (time-over s.processes p (time_step call s.processes now p)))
    serves-goes code next now (on_paths call) asked (attempted, clock) =
        on-goes
        (ap (λ (result : CallResult). length (after_attempt s.processes p result).records) attempted.result_is ∙ (by-end s.processes p (io_effect attempted.effect) attempted.effect.end).places)
        (subst IsNoEnd (sym attempted.result_is) (path-goes-on s.processes p (io_effect attempted.effect) attempted.effect.end))
    serves-goes code next now no_call asked (answer, same) =
        over-goes (subst (Over s.processes p) (sym answer) (over-refused s.processes p E_UNKSVC))

  instruction-lives : (t : State) → act_of s.processes p ≡ executes → (outcome : Outcome)
      → t ≡ record s { processes = after_instruction s.processes p outcome; files = files_after_instruction s.files p outcome } → Goes t
  instruction-lives t next (Done effect) is =
      inl (subst (λ (t : State). IsLiving t.processes.records p) (sym is) (instruction-goes s.processes p lives next (Done effect) refl).lives)
  instruction-lives t next (Calls code regs) is =
      inl (subst (λ (t : State). IsLiving t.processes.records p) (sym is) (instruction-goes s.processes p lives next (Calls code regs) refl).lives)
  instruction-lives t next (Aborts status) is = inr (ap (λ (t : State). t.files) is)

  delivery-lives : (t : State) (signal : ℕ) → act_of s.processes p ≡ delivers signal → (result : Result Processes ℕ)
      → delivered (before_delivery s p) p signal ≡ result
      → t ≡ record s { processes = after_delivery (before_delivery s p) p result; files = files_after_delivery s.files p result } → Goes t
  delivery-lives t signal next (Ok n) answer is =
      inl (subst (λ (t : State). IsLiving t.processes.records p) (sym is)
      (subst (λ (result : Result Processes ℕ). IsLiving (after_delivery (before_delivery s p) p result).records p) answer
      (broken-goes s.processes p lives signal next (interrupted_count s.files.io p) (ap (λ (result : Result Processes ℕ). is_going (delivery_end result)) answer)).lives))
  delivery-lives t signal next (Err status) answer is = inr (ap (λ (t : State). t.files) is)

  acts-go : (act : Act) (end : EventEnd) (t : State) → act_of s.processes p ≡ act → Acts act s p end t → Goes t
  acts-go executes end t next (over, is) = instruction-lives t next (next_instruction s.processes p) is
  acts-go (delivers signal) end t next (over, is) =
      delivery-lives t signal next (delivered (before_delivery s p) p signal) refl is
  acts-go (attempts code) end t next (result, rest, (now, is_now, served), over, is) =
      serves-goes t result rest is code next now (service_of code) (asks code) served

-- ---- the other processes

-- one that lives goes on living
others-live : (m : Processes) (p : ℕ) (end : EventEnd) (n : Processes) (q : ℕ) → ComesOf m p end n q (record_of m.records q) (record_of n.records q) → IsLiving m.records q → IsLiving n.records q
others-live m p end n q so lived = by_places (record_of m.records q) (record_of n.records q) so lived
  where
    by_places : (old new : Option Record) → ComesOf m p end n q old new → record_passes (λ r. not (has_ended r.life)) old ≡ true → record_passes (λ r. not (has_ended r.life)) new ≡ true
    by_places (Some old) (Some new) still lived =
        ap (λ (r : Record). not (has_ended r.life)) still.record_is.others ∙ lived
    by_places (Some old) None goes lived = absurd (false≢true (sym (ap not goes.had_ended) ∙ lived))
    by_places None new so lived = absurd (false≢true lived)

-- ---- an event

pub event-owned : (s t : State) (end : EventEnd) (p : ℕ) → s.chosen ≡ Some p → IsLiving s.processes.records p → Acts (act_of s.processes p) s p end t → IsRunLocked s
    → LeavesRecords p s.files t.files → AreOwned t
event-owned s t end p chosen lives acts it left path lock there = by_owner (cases_eq lock.owner.0 p)
  where
    by_goes : lock.owner.0 ≡ p → Goes s p lives t → IsLiving t.processes.records lock.owner.0
    by_goes same (inl lives) = subst (IsLiving t.processes.records) (sym same) lives
    by_goes same (inr files) =
        absurd (ended-owned s.files p it.state.agreed it.on.held path lock (sym (ap (λ (files : Files). lock_of files.records.locks path) files) ∙ there) same)

    by_gain : lock.owner.0 ≢ p → (lock_of s.files.records.locks path ≡ Some lock) ⊎ (lock.owner.0 ≡ p) → IsLiving t.processes.records lock.owner.0
    by_gain differ (inl was) =
        others-live s.processes p end t.processes lock.owner.0 ((event-leaves s t end p chosen (p, chosen, lives, acts)).others lock.owner.0 differ) (it.on.owned path lock was)
    by_gain differ (inr same) = absurd (differ same)

    by_owner : (lock.owner.0 ≡ p) ⊎ (lock.owner.0 ≢ p) → IsLiving t.processes.records lock.owner.0
    by_owner (inl same) = by_goes same (acts-go s p lives (act_of s.processes p) end t refl acts)
    by_owner (inr differ) = by_gain differ (left.gained path lock there)
