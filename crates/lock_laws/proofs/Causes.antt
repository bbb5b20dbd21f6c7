-- What a call that waits on a path waits for.
use Rattle.std.proofs.Common.{◌≡◌, ◌⊎◌, ℕ, Option, Some, None, IsSome, is_some, sym, ap, ◌∙◌, inl, inr, refl}
use Rattle.std.specs.Prelude.{option_and_then, option_map}
use Rattle.std.specs.Option.{option_map_or}
use Rattle.std.proofs.lemmas.Bool.{false≢true}
use Rattle.std.proofs.lemmas.Option.{none-some}
use Rattle.os9_sched.specs.declared.member.Cause.{Cause}
use Rattle.os9_sched.specs.declared.member.Wait.{Wait as Waiting}
use Rattle.io_model.specs.declared.pending.PendingCall.{PendingCall}
use Rattle.io_model.specs.declared.path.Desc.{Desc}
use Rattle.io_model.specs.declared.path.Target.{Target}
use Rattle.io_model.specs.declared.path.Target.TheVariants.{File, Folder, Pipe, Term}
use Rattle.io_model.specs.Io.{pending_at, target_of}
use Rattle.io_model.specs.Waiting.{cause_by, io_waits_for}
use Rattle.lock_model.specs.Locks.{request_of}
use Rattle.lock_model.specs.declared.lock.Request.{Request}
use Rattle.lock_model.specs.declared.place.FilePlace.{FilePlace}
use Rattle.file_rules.specs.Locking.{request_wait}
use Rattle.file_laws.specs.Devices.{IsDevice}
use Rattle.machine_model.specs.State.{State}
use Rattle.call_laws.specs.Running.{WaitsOnPath}
use Rattle.lock_laws.specs.Living.{IsRunOpen}
use Rattle.lock_laws.specs.Touches.{HasWaitCause}
use Rattle.lock_laws.proofs.Events.{waits-so}
use Rattle.lock_laws.proofs.Locks.{cause_of}

no-place : (place : FilePlace) → Some place ≡ None → ⊥
no-place place is = none-some place (sym is)

-- a call on a terminal or a pipe waits for it
device-cause : (target : Target) → IsDevice target → (cause : Cause) × (cause_by target ≡ Some cause)
device-cause (File drive sector) is = absurd (no-place (record { drive = drive; number = sector }) is)
device-cause (Folder drive sector) is = absurd (no-place (record { drive = drive; number = sector }) is)
device-cause (Term terminal) is = (Cause.Term terminal, refl)
device-cause (Pipe pipe) is = (Cause.Pipe pipe, refl)

pub call-cause : (s : State) (q : ℕ) (pending : PendingCall) → IsRunOpen s → pending_at s.files.io q ≡ Some pending → (cause : Cause) × HasWaitCause s q cause
call-cause s q pending run is = by_request (request_of s.files.records.locks q) refl
  where
    it : WaitsOnPath s.files q pending
    it = run.locked.state.running.waits q pending is

    target : (cause : Cause) → cause_by it.desc.target ≡ Some cause → io_waits_for s.files.io q ≡ Some cause
    target cause on =
        ap (λ (pending : Option PendingCall). option_and_then cause_by (option_and_then (λ (pending : PendingCall). target_of s.files.io pending.path) pending)) is
        ∙ ap (λ (desc : Option Desc). option_and_then cause_by (option_map (λ (desc : Desc). desc.target) desc)) it.there ∙ on

    by_device : request_of s.files.records.locks q ≡ None → IsDevice it.desc.target ⊎ IsSome (request_of s.files.records.locks q) → (cause : Cause) × HasWaitCause s q cause
    by_device none (inl device) =
        let (cause, on) = device-cause it.desc.target device in
        (cause, waits-so s.files.io s.files.records.locks q cause none (target cause on))
    by_device none (inr some) = absurd (false≢true (sym (ap is_some none) ∙ some))

    by_request : (place : Option Request) → request_of s.files.records.locks q ≡ place → (cause : Cause) × HasWaitCause s q cause
    by_request None none = by_device none it.on
    by_request (Some request) some = (
      cause_of request.lock.file,
      ap (λ (place : Option Request). option_map (λ (wait : Waiting). wait.cause) (option_map_or (λ (request : Request). Some (request_wait request)) place
          (option_map (λ (cause : Cause). let wait : Waiting = record { cause = cause; until = None } in wait) (io_waits_for s.files.io q)))) some,
    )
