-- In every state of a run the chosen process may attempt its call on paths, files and directories.
use Rattle.std.proofs.Common.{◌≡◌, ℕ, ◌<◌, Option, Some, None, List, length, refl, sym, ◌∙◌, subst}
use Rattle.std.specs.Prelude.{IfSome}
use Rattle.std.proofs.lemmas.Option.{none-some, same_Some}
use Rattle.os9_base.specs.declared.registers.Pid.{Pid}
use Rattle.os9_outer.specs.TerminalState.{TerminalState}
use Rattle.proc_model.specs.Ready.{attempts, act_of}
use Rattle.lock_model.specs.Locks.{request_of}
use Rattle.lock_model.specs.Records.{Records}
use Rattle.lock_model.specs.declared.lock.Request.{Request}
use Rattle.io_model.specs.declared.pending.PendingCall.{PendingCall}
use Rattle.io_model.specs.Codes.{io_call_of}
use Rattle.io_model.specs.Io.{Io, pending_at}
use Rattle.io_model.specs.declared.io_call.IoCall.{IoCall}
use Rattle.call_dispatch.proofs.RunningCalls.{may-attempt}
use Rattle.call_laws.proofs.Codes.{attempts-code}
use Rattle.proc_state.specs.Tie.{RepresentsProcesses}
use Rattle.proc_state.specs.declared.state.ProcState.{ProcState}
use Rattle.file_laws.proofs.Codes.{code-there}
use Rattle.file_laws.specs.Devices.{device_call}
use Rattle.call_dispatch.specs.Attempts.{MayAttemptPathCall, MayAttemptAs}
use Rattle.file_rules.specs.Codes.{path_call_of}
use Rattle.file_rules.specs.declared.path_call.PathCall.{PathCall}
use Rattle.file_state.specs.Asking.{IsPendingRequest, KeepsRequest}
use Rattle.file_state.specs.declared.state.FileState.{FileState}
use Rattle.machine_model.specs.State.{State}
use Rattle.call_laws.specs.Running.{IsRunning}
use Rattle.os9_kernel.specs.declared.act.Act.TheVariants.{Attempt}
use Rattle.os9_kernel.specs.declared.kernel.Kernel.{Kernel}
use Rattle.os9_kernel.specs.Next.{DoesNext}
use Rattle.os9_kernel.specs.Outside.{Outside}
use Rattle.os9_kernel.specs.Tie.{Represents as RepresentsState}
use Rattle.os9_kernel.proofs.Acting.{acts-so, terms-are}

module _ (s : State) (p code : ℕ) (call : PathCall) (running : IsRunning s) (next : act_of s.processes p ≡ attempts code) (coded : path_call_of code ≡ Some call) where
  -- nothing is kept of a call that is for files alone
  none-kept : device_call call ≡ None → pending_at s.files.io p ≡ None
  none-kept alone = by_kept (pending_at s.files.io p) refl
    where
      by_kept : (place : Option PendingCall) → pending_at s.files.io p ≡ place → place ≡ None
      by_kept None at = refl
      by_kept (Some kept) at =
          let it = running.kept p kept at in
          let same : code ≡ kept.code = same_Some code kept.code (sym (attempts-code s.processes p code next) ∙ it.made) in
          let here : io_call_of code ≡ Some it.call = subst (λ (c : ℕ). io_call_of c ≡ Some it.call) (sym same) it.again.code in
          absurd (none-some it.call (sym alone ∙ sym (code-there code call coded) ∙ here))

  -- a request of the process, if it waits in one, is kept with its call
  kept-request : KeepsRequest s.files.io s.files.records.locks p
  kept-request = by_request (request_of s.files.records.locks p) refl
    where
      by_request : (request : Option Request) → request_of s.files.records.locks p ≡ request → IfSome request (IsPendingRequest s.files.io p)
      by_request None is = tt
      by_request (Some request) is =
          let it = running.requested p request is in record { kept = it.kept; owner = it.owner; covers = it.covers }

  pub may-attempt-call : (processes : ProcState) (state : FileState) → p < 33 → RepresentsProcesses processes s.processes
      → s.files.io ≡ state.io → s.files.records ≡ state.records → MayAttemptPathCall call processes state p (length s.terms)
  may-attempt-call processes state process tied same records = record {
    attempt =
        subst (λ (io : Io). MayAttemptAs (device_call call) processes io p (length s.terms)) same (by_device (device_call call) refl);
    kept =
        subst (λ (io : Io). KeepsRequest io state.records.locks p) same
        (subst (λ (records : Records). KeepsRequest s.files.io records.locks p) records kept-request);
  }
    where
      by_device : (device : Option IoCall) → device_call call ≡ device → MayAttemptAs device processes s.files.io p (length s.terms)
      by_device None is = none-kept is
      by_device (Some device) is =
          may-attempt processes s.processes s.files.io (length s.terms) p code device process tied running.kept running.on next (code-there code call coded ∙ is)

-- the process may attempt its call
pub may-attempt-here : (old : Kernel) (p : Pid) (code : ℕ) → DoesNext old p (Attempt code) → (before : Outside)
    (s : State) → RepresentsState old before s → (call : PathCall) → path_call_of code ≡ Some call
    → MayAttemptPathCall call old.machine.processes old.machine.files p.0 (length before.terms)
may-attempt-here old p code next before s tied call is_call =
    subst (λ (terms : List TerminalState). MayAttemptPathCall call old.machine.processes old.machine.files p.0 (length terms)) (terms-are old p (Attempt code) next before s tied)
    (may-attempt-call s p.0 code call tied.run.locked.state.running (acts-so old p (Attempt code) next before s tied)
    is_call old.machine.processes old.machine.files next.process.1 tied.processes tied.files.io tied.files.records)
