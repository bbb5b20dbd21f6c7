-- What each event leaves of the others: an instruction, an attempt of a call, the delivery of a signal.
use Rattle.std.proofs.Common.{◌≡◌, ℕ, Some, refl, sym, ◌∙◌, subst, inl}
use Rattle.std.proofs.lemmas.Option.{same_Some}
use Rattle.os9_base.specs.declared.errors.TheConstants.{E_UNKSVC}
use Rattle.os9_base.specs.declared.registers.TimePacket.{TimePacket}
use Rattle.proc_model.specs.MemoryChanges.{stored, writes_from}
use Rattle.proc_model.specs.Records.{IsLiving}
use Rattle.proc_model.specs.CallResult.{CallResult}
use Rattle.proc_model.specs.Delivery.{delivered}
use Rattle.proc_model.specs.Processes.{Processes, with_memory}
use Rattle.proc_model.specs.Ready.{Act, attempts, delivers, executes, act_of}
use Rattle.proc_model.specs.declared.proc_call.ProcCall.TheVariants as Call
use Rattle.io_model.specs.Attempts.{result_by}
use Rattle.io_model.specs.Step.{IoEffect, IoEnd, answers, fails, keeps}
use Rattle.io_model.specs.Waiting.{interrupted_count}
use Rattle.file_rules.specs.Attempts.{io_effect}
use Rattle.time_rules.specs.Attempts.{result_of, time_step}
use Rattle.time_rules.specs.Packet.{packet_bytes}
use Rattle.time_rules.specs.Step.{TimeStep, sets, tells}
use Rattle.time_rules.specs.Step as time
use Rattle.machine_model.specs.ProcessEvent.{call_event_end, delivery_end, instruction_end, next_instruction}
use Rattle.machine_model.specs.declared.ends.EventEnd.{EventEnd}
use Rattle.machine_model.specs.declared.ends.EventEnd.TheVariants.{Ran}
use Rattle.call_laws.proofs.CallsKept.{AttemptLeft, changed-same, left-done, left-refused}
use Rattle.call_laws.proofs.EventsKept.{broken-left, instruction-left}
use Rattle.call_laws.proofs.EndsKept.{by-end}
use Rattle.call_laws.proofs.MemoryKept.{itself-written, kept-written}
use Rattle.call_laws.proofs.OthersKept.{changed-self}
use Rattle.machine_model.specs.Event.{Acts, Event, before_delivery}
use Rattle.machine_model.specs.Services.{Serves, Service, loads, no_call, on_paths, on_processes, on_time, service_of}
use Rattle.machine_model.specs.State.{Rest, State}
use Rattle.isolation_laws.specs.Isolation.{LeavesOthers}
use Rattle.isolation_laws.proofs.Asked.{Asks, asks}
use Rattle.isolation_laws.proofs.Linking.{ResultLinks, other-links}
use Rattle.isolation_laws.proofs.Programs.{AttemptLeaves, as-before, as-left, call-leaves, refused-leaves, chain-leaves-others, fork-leaves-others, load-leaves-others}

-- ---- an attempt of a call

-- a call on the time stores a packet at most
pub time-left : (m : Processes) (p : ℕ) (step : TimeStep) → AttemptLeft m p (result_of m p step)
time-left m p (time.refused number) = left-refused m p number
time-left m p (tells at packet) =
    left-done m p (with_memory m (stored m.memory p at (packet_bytes packet)))
    (changed-self m p Ran (stored m.memory p at (packet_bytes packet)) m.records m.own
    (kept-written m.memory p (writes_from at (packet_bytes packet)))
    (itself-written m.memory p (writes_from at (packet_bytes packet))) (inl refl) (λ q differ. refl)
    (λ q differ. refl) refl)
time-left m p (sets clock) = left-done m p m (changed-same m p Ran)

-- and no link changes
time-links : (m : Processes) (p : ℕ) (step : TimeStep) → ResultLinks m p (result_of m p step)
time-links m p (time.refused number) = inl refl
time-links m p (tells at packet) = inl refl
time-links m p (sets clock) = inl refl

path-links : (m : Processes) (p : ℕ) (effect : IoEffect) (end : IoEnd) → ResultLinks m p (result_by end m p effect)
path-links m p effect (answers regs) = inl refl
path-links m p effect (fails number) = inl refl
path-links m p effect (keeps kept) = inl refl

module _ (s : State) (p code : ℕ) (next : act_of s.processes p ≡ attempts code) (lives : IsLiving s.processes.records p) (now : TimePacket) (rest : Rest) where
  serves-leave : (service : Service) (result : CallResult) → Asks code service → Serves service s now p result rest → AttemptLeaves s p rest result
  serves-leave loads result asked (files, it, is) =
      load-leaves-others s p now rest result files (subst (λ (code : ℕ). act_of s.processes p ≡ attempts code) asked next) it
  serves-leave (on_processes Call.Fork) result asked (files, it, is) =
      fork-leaves-others s p now rest result files lives (code, next, asked) it
  serves-leave (on_processes Call.Chain) result asked (files, it, is) =
      chain-leaves-others s p now rest result files lives (code, next, asked) it
  serves-leave (on_processes call) result asked it =
      subst (AttemptLeaves s p rest) (sym it.0) (call-leaves s p rest call lives (code, next, asked))
  serves-leave (on_time call) result asked (clock, it, is) =
      subst (AttemptLeaves s p rest) (sym it.result_is)
      (as-left s p rest (result_of s.processes p (time_step call s.processes now p))
      (time-left s.processes p (time_step call s.processes now p)) (time-links s.processes p (time_step call s.processes now p)))
  serves-leave (on_paths call) result asked (it, same) =
      subst (AttemptLeaves s p rest) (sym it.result_is) (as-left s p rest _ (by-end s.processes p (io_effect it.effect) it.effect.end) (path-links s.processes p (io_effect it.effect) it.effect.end))
  serves-leave no_call result asked (result_is, is) =
      subst (AttemptLeaves s p rest) (sym result_is) (refused-leaves s p rest E_UNKSVC)

-- ---- one event

acts-leave : (act : Act) (s : State) (p : ℕ) (end : EventEnd) (t : State) → IsLiving s.processes.records p → act_of s.processes p ≡ act → Acts act s p end t → LeavesOthers s p end t
acts-leave executes s p end t lives next (ends, is) =
    let left = (instruction-left s.processes p (next_instruction s.processes p)).leaves in
    subst (λ (end : EventEnd). LeavesOthers s p end t) (sym ends)
    (subst (LeavesOthers s p (instruction_end (next_instruction s.processes p))) (sym is)
    (as-before s p (instruction_end (next_instruction s.processes p)) _ left
    (other-links s.processes p (instruction_end (next_instruction s.processes p)) _ (λ call on (code, attempts_it, coded).
    cc) left.links)))
acts-leave (delivers signal) s p end t lives next (ends, is) =
    let left = (broken-left s.processes p signal (interrupted_count s.files.io p)).leaves in
    subst (λ (end : EventEnd). LeavesOthers s p end t) (sym ends)
    (subst (LeavesOthers s p (delivery_end (delivered (before_delivery s p) p signal))) (sym is)
    (as-before s p (delivery_end (delivered (before_delivery s p) p signal)) _ left
    (other-links s.processes p (delivery_end (delivered (before_delivery s p) p signal)) _
    (λ call on (code, attempts_it, coded). cc) left.links)))
acts-leave (attempts code) s p end t lives next (result, rest, (now, is_now, it), ends, is) =
    subst (λ (end : EventEnd). LeavesOthers s p end t) (sym ends)
    (subst (LeavesOthers s p (call_event_end result)) (sym is) (serves-leave s p code next lives now rest (service_of code) result (asks code) it))

-- the process of an event is the one that was chosen
pub event-leaves : (s t : State) (end : EventEnd) (p : ℕ) → s.chosen ≡ Some p → Event s end t → LeavesOthers s p end t
event-leaves s t end p chosen (q, chosen_too, lives, acts) =
    let same : q ≡ p = same_Some q p (sym chosen_too ∙ chosen) in
    subst (λ (p : ℕ). LeavesOthers s p end t) same (acts-leave (act_of s.processes q) s q end t lives refl acts)
