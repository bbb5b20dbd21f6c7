-- An event of another process leaves what a process waits for.
use Rattle.std.proofs.Common.{◌≡◌, ◌≢◌, ℕ, Option, Some, None, refl, sym, ap, ◌∙◌, subst}
use Rattle.std.proofs.lemmas.Bool.{false≢true}
use Rattle.std.specs.Prelude.{IsSome, option_and_then, option_map}
use Rattle.std.specs.Option.{option_map_or}
use Rattle.os9_sched.specs.declared.member.Cause.{Cause}
use Rattle.os9_sched.specs.declared.member.Wait.{Wait as Waiting}
use Rattle.proc_model.specs.Processes.{regs_at}
use Rattle.io_model.specs.Path.{ArePaths, desc_of, slot_of}
use Rattle.io_model.specs.declared.pending.PendingCall.{PendingCall}
use Rattle.io_model.specs.declared.path.Desc.{Desc}
use Rattle.io_model.specs.declared.path.SysPath.{SysPath}
use Rattle.io_model.specs.Again.{path_number}
use Rattle.io_model.specs.Io.{OpenPath, pending_at, target_of}
use Rattle.io_model.specs.Waiting.{cause_by, io_waits_for}
use Rattle.lock_model.specs.Locks.{request_of}
use Rattle.lock_model.specs.declared.lock.Request.{Request}
use Rattle.file_rules.specs.Locking.{request_wait, wait_cause}
use Rattle.file_laws.proofs.Named.{path-desc}
use Rattle.call_laws.specs.Pending.{IsPendingCall}
use Rattle.machine_model.specs.declared.ends.EventEnd.{EventEnd}
use Rattle.machine_model.specs.Event.{Event}
use Rattle.machine_model.specs.State.{State}
use Rattle.isolation_laws.specs.InputOutput.{LeavesIo}
use Rattle.isolation_laws.proofs.IoEvents.{event-leaves-io}
use Rattle.lock_laws.specs.Locked.{IsRunLocked}
use Rattle.lock_laws.proofs.OnFiles.{event-leaves-locks}
use Rattle.lock_laws.proofs.Looked.{opens}

module _ (s t : State) (end : EventEnd) (p q : ℕ) (it : IsRunLocked s) (paths : ArePaths s.files.io.paths) (event : Event s end t) (chosen : s.chosen ≡ Some p) (differ : q ≢ p) where
  others : LeavesIo s p t
  others = event-leaves-io s t end p chosen event

  -- the path of its call is on what it was on
  target-same : (pending : PendingCall) → pending_at s.files.io q ≡ Some pending → target_of t.files.io pending.path ≡ target_of s.files.io pending.path
  target-same pending is = by_desc (desc_of s.files.io.paths pending.path.0) refl (paths.there q n pending.path named)
    where
      keeps : IsPendingCall s.processes s.files.io q pending
      keeps = it.state.running.kept q pending is

      n : ℕ
      n = path_number keeps.call (regs_at s.processes q)

      named : slot_of s.files.io.paths q n ≡ Some pending.path
      named = keeps.again.path

      by_desc : (place : Option Desc) → desc_of s.files.io.paths pending.path.0 ≡ place → IsSome place → target_of t.files.io pending.path ≡ target_of s.files.io pending.path
      by_desc None at some = absurd (false≢true some)
      by_desc (Some desc) at some =
          let opened : OpenPath = record { path = pending.path; desc = desc } in
          let still = others.paths q n opened differ keeps.lives (opens s.files.io q n pending.path desc named at) in
          let there : desc_of t.files.io.paths pending.path.0 ≡ Some still.now.desc =
          subst (λ (path : SysPath). desc_of t.files.io.paths path.0 ≡ Some still.now.desc) still.same.path
          (path-desc t.files.io q n still.now still.is) in
          ap (option_map (λ (desc : Desc). desc.target)) there
          ∙ ap (λ (desc : Desc). Some desc.target) still.same.desc
          ∙ sym (ap (option_map (λ (desc : Desc). desc.target)) at)

  waits-there : io_waits_for t.files.io q ≡ io_waits_for s.files.io q
  waits-there = by_kept (pending_at s.files.io q) refl
    where
      by_kept : (place : Option PendingCall) → pending_at s.files.io q ≡ place → io_waits_for t.files.io q ≡ io_waits_for s.files.io q
      by_kept None is =
          ap (λ (place : Option PendingCall). option_and_then cause_by (option_and_then (λ (pending : PendingCall). target_of t.files.io pending.path) place)) (others.calls q differ ∙ is)
          ∙ sym (ap (λ (place : Option PendingCall). option_and_then cause_by (option_and_then (λ (pending : PendingCall). target_of s.files.io pending.path) place)) is)
      by_kept (Some pending) is =
          ap (λ (place : Option PendingCall). option_and_then cause_by (option_and_then (λ (pending : PendingCall). target_of t.files.io pending.path) place)) (others.calls q differ ∙ is)
          ∙ ap (option_and_then cause_by) (target-same pending is)
          ∙ sym (ap (λ (place : Option PendingCall). option_and_then cause_by (option_and_then (λ (pending : PendingCall). target_of s.files.io pending.path) place)) is)

  requests : request_of t.files.records.locks q ≡ request_of s.files.records.locks q
  requests = (event-leaves-locks s t end p it chosen event).requests q differ

  pub waits-same : wait_cause t.files.io t.files.records.locks q ≡ wait_cause s.files.io s.files.records.locks q
  waits-same =
      λ i. option_map (λ (wait : Waiting). wait.cause) (option_map_or (λ (request : Request). Some (request_wait request)) (requests i)
      (option_map (λ (cause : Cause). let wait : Waiting = record { cause = cause; until = None } in wait) (waits-there i)))
