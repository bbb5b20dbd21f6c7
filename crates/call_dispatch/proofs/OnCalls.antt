-- All calls on paths, files and directories, by what they take.
use Rattle.std.proofs.Common.{◌≡◌, ◌∙◌, ℕ, true, None, List, ap, refl, sym, subst}
use Rattle.os9_base.specs.declared.call.CallEnd.{CallEnd}
use Rattle.os9_base.specs.declared.registers.TimePacket.{TimePacket}
use Rattle.os9_outer.specs.TerminalState.{TerminalState}
use Rattle.call_dispatch.proofs.Quiet.{is-first}
use Rattle.io_model.specs.Io.{pending_at}
use Rattle.io_model.specs.declared.io_call.IoCall.TheVariants as Device
use Rattle.io_state.specs.Sound.{IsIo}
use Rattle.proc_model.specs.Records.{record_at}
use Rattle.proc_state.specs.declared.state.ProcState.{ProcState}
use Rattle.file_rules.specs.declared.path_call.PathCall.{PathCall}
use Rattle.file_drives.specs.Drives.{DriveView}
use Rattle.file_state.specs.Attempt.{MachineOnDrives}
use Rattle.file_state.specs.Counted.{AttemptsWithin}
use Rattle.file_state.specs.Lacks.{TriesWithin}
use Rattle.file_state.specs.declared.state.FileState.{FileState}
use Rattle.call_dispatch.specs.Attempts.{MayAttemptPathCall, TriesPathCallFrom}
use Rattle.call_dispatch.specs.Bounds.{attempt_calls}
use Rattle.call_dispatch.specs.Calls.{kind_call, list_call}
use Rattle.call_dispatch.specs.Dates.{IsTimeFor, sets_date}
use Rattle.call_dispatch.specs.declared.path_calls.CallKind.{CallKind}
use Rattle.call_dispatch.specs.declared.lists.ListCall.{ListCall}
use Rattle.call_dispatch.specs.declared.lists.ListCall.TheVariants as Listed

-- a call that takes a path list is at its first attempt
pub list-first : (list : ListCall) (processes : ProcState) (state : FileState) (p terms : ℕ) → IsIo state.io
    → MayAttemptPathCall (list_call list) processes state p terms → pending_at state.io p ≡ None
list-first Listed.Create processes state p terms sound may = is-first Device.Create (record_at processes.table p).regs state.io p refl (λ same. cc) sound may.attempt.again
list-first Listed.Open processes state p terms sound may = is-first Device.Open (record_at processes.table p).regs state.io p refl (λ same. cc) sound may.attempt.again
list-first Listed.MakDir processes state p terms sound may = may.attempt
list-first Listed.ChgDir processes state p terms sound may = may.attempt
list-first Listed.Delete processes state p terms sound may = may.attempt
list-first Listed.DeletX processes state p terms sound may = may.attempt

-- the call that a kind of call is
pub call-is : (kind other : CallKind) (call : PathCall) → kind ≡ other → kind_call kind ≡ call → kind_call other ≡ call
call-is kind other call is known = sym (ap kind_call is) ∙ known

pub may-as : (call other : PathCall) (processes : ProcState) (state : FileState) (p terms : ℕ) → other ≡ call
    → MayAttemptPathCall call processes state p terms → MayAttemptPathCall other processes state p terms
may-as call other processes state p terms is may = subst (λ (c : PathCall). MayAttemptPathCall c processes state p terms) (sym is) may

-- a time of a call is one of the call that it is
pub time-for : (call other : PathCall) (now time : TimePacket) → other ≡ call → IsTimeFor call now time → IsTimeFor other now time
time-for call other now time is known dated = known (sym (ap sets_date is) ∙ dated)

-- an attempt of a call that sets a date is one at its time
pub at-time : (call : PathCall) (now time : TimePacket) (p : ℕ) → sets_date call ≡ true → IsTimeFor call now time
    → (end : CallEnd) (terms terms_after : List TerminalState) (before after : MachineOnDrives)
    → TriesWithin (attempt_calls call) call now p end terms terms_after before after → TriesWithin (attempt_calls call) call time p end terms terms_after before after
at-time call now time p dated is end terms terms_after before after attempts =
    subst (λ (t : TimePacket). TriesWithin (attempt_calls call) call t p end terms terms_after before after) (sym (is dated)) attempts

pub at-time-within : (call : PathCall) (now time : TimePacket) (p : ℕ) → sets_date call ≡ true → IsTimeFor call now time
    → (end : CallEnd) (terms terms_after : List TerminalState) (before after : MachineOnDrives)
    → AttemptsWithin (attempt_calls call) call now p end terms terms_after before after → AttemptsWithin (attempt_calls call) call time p end terms terms_after before after
at-time-within call now time p dated is end terms terms_after before after attempts =
    subst (λ (t : TimePacket). AttemptsWithin (attempt_calls call) call t p end terms terms_after before after) (sym (is dated)) attempts

-- what comes of a call is what comes of the one that it is
module _ (call other : PathCall) (now : TimePacket) (p : ℕ) (is : other ≡ call) where
  pub call-within : (end : CallEnd) (terms terms_after : List TerminalState) (old processes : ProcState)
      (state new : FileState) (views later : List DriveView) → TriesWithin (attempt_calls other) other now p end terms
      terms_after (record { processes = old; files = state; views = views })
      (record { processes = processes; files = new; views = later }) → TriesWithin (attempt_calls call) call now p end
      terms terms_after (record { processes = old; files = state; views = views })
      (record { processes = processes; files = new; views = later })
  call-within end terms terms_after old processes state new views later attempts =
      subst (λ (c : PathCall). TriesWithin (attempt_calls c) c now p end terms terms_after
      (record { processes = old; files = state; views = views })
      (record { processes = processes; files = new; views = later })) is attempts

  pub call-attempts : (end : CallEnd) (terms terms_after : List TerminalState) (old processes : ProcState)
      (state new : FileState) (views later : List DriveView) → AttemptsWithin (attempt_calls other) other now p end
      terms terms_after (record { processes = old; files = state; views = views })
      (record { processes = processes; files = new; views = later }) → AttemptsWithin (attempt_calls call) call now p
      end terms terms_after (record { processes = old; files = state; views = views })
      (record { processes = processes; files = new; views = later })
  call-attempts end terms terms_after old processes state new views later attempts =
      subst (λ (c : PathCall). AttemptsWithin (attempt_calls c) c now p end terms terms_after
      (record { processes = old; files = state; views = views })
      (record { processes = processes; files = new; views = later })) is attempts

  pub call-tries : (end : CallEnd) (terms terms_after : List TerminalState) (before after : MachineOnDrives)
      → TriesPathCallFrom other now p end terms terms_after before after → TriesPathCallFrom call now p end terms terms_after before
      after
  call-tries end terms terms_after before after tries =
      subst (λ (c : PathCall). TriesPathCallFrom c now p end terms terms_after before after) is tries
