-- An attempt that waits is one on a terminal or a pipe, which the number of its call names, and leaves the paths as they
-- are.
use Rattle.std.proofs.Common.{◌≡◌, ◌⊎◌, ℕ, ◌==◌, not, Bool, true, false, Option, Some, None, Result, Ok, Err, List, length, refl, sym, ap, ◌∙◌, subst, inl, inr}
use Rattle.std.specs.Prelude.{is_none, min, if◌then◌else◌}
use Rattle.std.proofs.lemmas.Bool.{cases_lt}
use Rattle.std.proofs.lemmas.List.{get_or-set_same, get_or_past, length-set}
use Rattle.std.proofs.lemmas.Option.{none-some, same_Some}
use Rattle.os9_base.specs.declared.calls.TheConstants.{I_READ, I_READLN, I_WRITE, I_WRITLN, F_PERR}
use Rattle.os9_base.specs.declared.errors.TheConstants.{E_BPADDR, E_BPNUM, E_BMODE, E_NOTRDY, E_PTHFUL, E_UNKSVC}
use Rattle.os9_base.specs.declared.registers.TimePacket.{TimePacket}
use Rattle.os9_outer.specs.TerminalState.{TerminalState}
use Rattle.os9_base.specs.declared.name_fault.NameFault.{NameFault}
use Rattle.os9_base.specs.declared.name_fault.NameFault.TheVariants.{Unreadable, NoName}
use Rattle.proc_model.specs.CallResult.{CallResult}
use Rattle.proc_model.specs.Processes.{Processes, regs_at}
use Rattle.proc_model.specs.UserBytes.{user_bytes}
use Rattle.io_model.specs.Path.{free_number, new_number, slot_of}
use Rattle.io_model.specs.Pipe.{free_pipe, pipes_after_begin}
use Rattle.io_model.specs.declared.pending.PendingCall.{PendingCall}
use Rattle.io_model.specs.declared.path.Desc.{Desc}
use Rattle.io_model.specs.declared.path.Target.{Target}
use Rattle.io_model.specs.declared.path.Target.TheVariants.{File, Folder, Term, Pipe}
use Rattle.io_model.specs.declared.terminal.Progress.{Progress}
use Rattle.io_model.specs.declared.terminal.Progress.TheVariants.{Done, Wait, End, Fault, NoMemory}
use Rattle.io_model.specs.declared.terminal.ReadKind.{ReadKind}
use Rattle.io_model.specs.declared.terminal.ReadKind.TheVariants.{Bytes, WholeLine}
use Rattle.io_model.specs.Again.{path_number}
use Rattle.io_model.specs.Attempts.{HasIoEffect, IoAttempts, caller_of, io_step, pending_in}
use Rattle.io_model.specs.Io.{Io, OpenPath, pending_at, new_desc, open_path, with_call, with_pipes}
use Rattle.io_model.specs.Lead.{Lead, a_new_place, lead_of, nowhere, to_pipe, to_terminal, what_is_there}
use Rattle.io_model.specs.Modes.{can_read, can_write, is_mode}
use Rattle.io_model.specs.Open.{begins, opens_lead, reads_list}
use Rattle.io_model.specs.PathList.{PathList, path_list}
use Rattle.io_model.specs.Read.{reads_path, reads_target}
use Rattle.io_model.specs.Status.{gets_end, gets_options, gets_ready, options, ready_count}
use Rattle.io_model.specs.Step.{Caller, IoEffect, IoEnd, IoStep, TerminalWrite, answers, comes, done, fails, needs, reads, refused, refuses, stores, writes}
use Rattle.io_model.specs.Terminals.{write_ends}
use Rattle.io_model.specs.Transfer.{call_now, on_path, unless_nothing}
use Rattle.io_model.specs.Write.{Sending, line_bytes, sends_on, sent_bytes, sent_error, sent_line, writes_target}
use Rattle.io_model.specs.declared.io_call.IoCall.{IoCall}
use Rattle.io_model.specs.declared.io_call.IoCall.TheVariants as Call
use Rattle.io_model.specs.declared.modes.TheConstants.{STANDARD_ERROR}
use Rattle.io_model.specs.declared.status.TheConstants.{SS_OPT, SS_READY, SS_EOF, OPTION_BYTES}
use Rattle.file_rules.specs.Attempts.{FileAttempts}
use Rattle.file_rules.specs.Files.{Files}
use Rattle.file_rules.specs.declared.path_call.PathCall.{PathCall}
use Rattle.file_laws.specs.Devices.{IsDevice, DeviceAttempted, WaitsOnDevice, device_call, takes_number}
use Rattle.file_laws.specs.Touch.{TouchesNoDevice, WaitsForRecord}
use Rattle.file_laws.proofs.TouchAttempts.{attempt-comes}
use Rattle.file_laws.proofs.Keeps.{io-kept}

-- ---- what an attempt does

module _ (device : IoCall) (number : ℕ) (caller : Caller) (io : Io) where
  -- a number of the process names a path on a terminal or a pipe
  record NamesDevice : Type 0 where
    pub takes : takes_number device ≡ true
    pub opened : OpenPath
    pub is : open_path io caller.process.0 number ≡ Some opened
    pub on : IsDevice opened.desc.target

  -- it does not wait, or it waits on a terminal or a pipe
  abbrev EffectWaits : IoEffect → Type 0
  EffectWaits effect = (pending_in effect.end ≡ None) ⊎ (NamesDevice × (effect.io.paths ≡ io.paths))

  abbrev StepWaits : IoStep → Type 0
  StepWaits (refused number) = Unit {0}
  StepWaits (comes effect) = EffectWaits effect
  StepWaits (reads read) = NamesDevice
  StepWaits (writes write) = Unit {0}

  -- ---- what holds of each part of it

  wait-needs : {A : Type 0} (o : Option A) (error : ℕ) (next : A → IoStep) → ((a : A) → o ≡ Some a → StepWaits (next a)) → StepWaits (needs o error next)
  wait-needs None error next holds = tt
  wait-needs (Some a) error next holds = holds a refl

  wait-refuses : (test : Bool) (error : ℕ) (next : IoStep) → StepWaits next → StepWaits (refuses test error next)
  wait-refuses true error next holds = tt
  wait-refuses false error next holds = holds

  -- ---- I$Open and I$Create

  wait-begins : (before : Io) (list : PathList) (desc : Desc) → StepWaits (begins caller before list desc)
  wait-begins before list desc = wait-needs (new_number before.paths caller.process.0) E_PTHFUL _ (λ n is. inl refl)

  wait-lead : (list : PathList) (lead : Lead) → StepWaits (opens_lead caller io list lead)
  wait-lead list (to_terminal terminal) = wait-begins io list (new_desc (Term terminal) caller.regs.a)
  wait-lead list to_pipe =
      wait-needs (free_pipe io.pipes) E_PTHFUL _
      (λ pipe is. wait-begins (with_pipes io (pipes_after_begin io.pipes)) list (new_desc (Pipe pipe) caller.regs.a))
  wait-lead list (nowhere error) = tt

  wait-list : (lead : PathList → Lead) (list : Result PathList NameFault) (allowed : Bool) → StepWaits (reads_list list allowed (λ list. opens_lead caller io list (lead list)))
  wait-list lead (Ok list) allowed = wait-refuses (not allowed) E_BMODE (opens_lead caller io list (lead list)) (wait-lead list (lead list))
  wait-list lead (Err Unreadable) allowed = tt
  wait-list lead (Err NoName) true = tt
  wait-list lead (Err NoName) false = tt

  -- ---- reads and writes

  wait-path : (is_allowed : ℕ → Bool) (next : OpenPath → IoStep)
      → ((opened : OpenPath) → open_path io caller.process.0 number ≡ Some opened → StepWaits (next opened))
      → StepWaits (on_path caller io number is_allowed next)
  wait-path is_allowed next holds =
      wait-needs (open_path io caller.process.0 number) E_BPNUM (λ opened. refuses (not (is_allowed opened.desc.mode)) E_BMODE (next opened))
      (λ opened is. wait-refuses (not (is_allowed opened.desc.mode)) E_BMODE (next opened) (holds opened is))

  wait-nothing : (nothing : Bool) (next : IoStep) → StepWaits next → StepWaits (if nothing then done caller.regs io else next)
  wait-nothing true next holds = inl refl
  wait-nothing false next holds = holds

  module _ (takes : takes_number device ≡ true) where
    names : (opened : OpenPath) → open_path io caller.process.0 number ≡ Some opened → (target : Target) → opened.desc.target ≡ target → IsDevice target → NamesDevice
    names opened is target same on =
        record { takes = takes; opened = opened; is = is; on = subst IsDevice (sym same) on }

    wait-read : (kind : ReadKind) (now : PendingCall) (opened : OpenPath) → open_path io caller.process.0 number ≡ Some
        opened → (target : Target) → opened.desc.target ≡ target → StepWaits (reads_target kind caller io now target)
    wait-read kind now opened is (File drive sector) same = tt
    wait-read kind now opened is (Folder drive sector) same = tt
    wait-read kind now opened is (Term terminal) same = names opened is (Term terminal) same refl
    wait-read Bytes now opened is (Pipe pipe) same = inr (names opened is (Pipe pipe) same refl, refl)
    wait-read WholeLine now opened is (Pipe pipe) same = inr (names opened is (Pipe pipe) same refl, refl)

    wait-write : (sending : Sending) (now : PendingCall) (opened : OpenPath) → open_path io caller.process.0 number ≡ Some
        opened → (target : Target) → opened.desc.target ≡ target → StepWaits (writes_target sending caller io now
        target)
    wait-write sending now opened is (File drive sector) same = tt
    wait-write sending now opened is (Folder drive sector) same = tt
    wait-write sending now opened is (Term terminal) same = tt
    wait-write sending now opened is (Pipe pipe) same = inr (names opened is (Pipe pipe) same refl, refl)

  -- ---- I$GetStt

  wait-options : (target : Target) (missing : Bool) → StepWaits (refuses missing E_BPADDR (comes (stores caller.regs.x (options target) (answers caller.regs) io)))
  wait-options target true = tt
  wait-options target false = inl refl

  wait-ready : (target : Target) (none : Bool) → StepWaits (refuses none E_NOTRDY (done (record caller.regs { b = min 255 (ready_count io target) }) io))
  wait-ready target true = tt
  wait-ready target false = inl refl

  wait-status : (target : Target) (opt ready end : Bool) → StepWaits (if opt then gets_options caller io target else
      (if ready then gets_ready caller io target else (if end then gets_end caller io target else refused E_UNKSVC)))
  wait-status target true ready end = wait-options target (is_none (user_bytes caller.cells caller.regs.x OPTION_BYTES))
  wait-status target false true end = wait-ready target (ready_count io target == 0)
  wait-status target false false true = inl refl
  wait-status target false false false = tt

-- ---- each call

module _ (caller : Caller) (io : Io) where
  wait-reads : (device : IoCall) → takes_number device ≡ true → (kind : ReadKind) (code : ℕ) → StepWaits device caller.regs.a caller io (reads_path kind code caller io)
  wait-reads device takes kind code =
      wait-refuses device caller.regs.a caller io (is_none (user_bytes caller.cells caller.regs.x caller.regs.y)) E_BPADDR _
      (wait-path device caller.regs.a caller io can_read _ (λ opened is. wait-nothing device caller.regs.a caller io
      (caller.regs.y == 0) _ (wait-read device caller.regs.a caller io takes kind (call_now caller io code opened
      caller.regs.y) opened is opened.desc.target refl)))

  wait-sends : (device : IoCall) → takes_number device ≡ true → (sending : List ℕ → Sending) (code : ℕ)
      (bytes : Option (List ℕ)) → StepWaits device caller.regs.a caller io
      (needs bytes E_BPADDR (λ bytes. on_path caller io caller.regs.a can_write (λ opened. unless_nothing caller io
      (sends_on (sending bytes) code caller io opened))))
  wait-sends device takes sending code bytes =
      wait-needs device caller.regs.a caller io bytes E_BPADDR _ (λ bytes is.
      wait-path device caller.regs.a caller io can_write _ (λ opened is. wait-nothing device caller.regs.a caller io
      (caller.regs.y == 0) _ (wait-write device caller.regs.a caller io takes (sending bytes)
      (call_now caller io code opened (length (sending bytes).bytes)) opened is opened.desc.target refl)))

  step-waits : (device : IoCall) (drives terms : ℕ) → StepWaits device (path_number device caller.regs) caller io (io_step device caller io drives terms)
  step-waits Call.Dup drives terms =
      wait-needs Call.Dup caller.regs.a caller io (slot_of io.paths caller.process.0 caller.regs.a) E_BPNUM _ (λ path is.
      wait-needs Call.Dup caller.regs.a caller io (free_number io.paths caller.process.0) E_PTHFUL _ (λ n is. inl refl))
  step-waits Call.Create drives terms =
      wait-list Call.Create caller.regs.a caller io (lead_of a_new_place drives terms) (path_list caller.cells caller.regs.x) (can_write caller.regs.a)
  step-waits Call.Open drives terms =
      wait-list Call.Open caller.regs.a caller io (lead_of what_is_there drives terms) (path_list caller.cells caller.regs.x) (is_mode caller.regs.a)
  step-waits Call.Close drives terms =
      wait-needs Call.Close caller.regs.a caller io (slot_of io.paths caller.process.0 caller.regs.a) E_BPNUM _ (λ path is. inl refl)
  step-waits Call.Read drives terms = wait-reads Call.Read refl Bytes I_READ
  step-waits Call.ReadLn drives terms = wait-reads Call.ReadLn refl WholeLine I_READLN
  step-waits Call.Write drives terms =
      wait-sends Call.Write refl (sent_bytes caller) I_WRITE (user_bytes caller.cells caller.regs.x caller.regs.y)
  step-waits Call.WritLn drives terms =
      wait-sends Call.WritLn refl (sent_line caller) I_WRITLN (line_bytes caller (pending_at io caller.process.0))
  step-waits Call.GetStt drives terms =
      wait-needs Call.GetStt caller.regs.a caller io (open_path io caller.process.0 caller.regs.a) E_BPNUM _
      (λ opened is. wait-status Call.GetStt caller.regs.a caller io opened.desc.target (caller.regs.b == SS_OPT) (caller.regs.b == SS_READY) (caller.regs.b == SS_EOF))
  step-waits Call.SetStt drives terms =
      wait-needs Call.SetStt caller.regs.a caller io (open_path io caller.process.0 caller.regs.a) E_BPNUM _ (λ opened is. tt)
  step-waits Call.PErr drives terms =
      wait-path Call.PErr STANDARD_ERROR caller io can_write _
      (λ opened is. wait-write Call.PErr STANDARD_ERROR caller io refl (sent_error caller) (call_now caller io F_PERR opened (length (sent_error caller).bytes)) opened is opened.desc.target refl)

-- ---- an attempt

write-over : (write : TerminalWrite) (answer : Progress) (end : IoEnd) → write_ends write answer ≡ Some end → pending_in end ≡ None
write-over write (Done count) end is = ap pending_in (sym (same_Some (answers write.regs) end is))
write-over write Wait end is = absurd (none-some end is)
write-over write End end is = absurd (none-some end is)
write-over write Fault end is = ap pending_in (sym (same_Some (fails _) end is))
write-over write NoMemory end is = absurd (none-some end is)

module _ (device : IoCall) (number : ℕ) (caller : Caller) (io : Io) (before after : List TerminalState) where
  does-waits : (step : IoStep) (effect : IoEffect) → StepWaits device number caller io step → HasIoEffect step caller io effect before after → EffectWaits device number caller io effect
  does-waits (refused error) effect waits (is, same) = inl (ap (λ (effect : IoEffect). pending_in effect.end) is)
  does-waits (comes it) effect waits (is, same) = subst (EffectWaits device number caller io) (sym is) waits
  does-waits (reads read) effect waits it = inr (waits, ap (λ (effect : IoEffect). effect.io.paths) it.effect_is)
  does-waits (writes write) effect waits it =
      inl (ap (λ (effect : IoEffect). pending_in effect.end) it.effect_is ∙ write-over write it.answer it.end it.ends)

-- what is kept of a call is what was put there
kept-put : (io : Io) (p : ℕ) (put : Option PendingCall) (pending : PendingCall) → pending_at (with_call io p put) p ≡ Some pending → put ≡ None → ⊥
kept-put io p put pending is none =
    elim (cases_lt p (length io.calls)) [
      | inl within ↦ none-some pending (sym none ∙ sym (get_or-set_same io.calls p put None within) ∙ is)
      | inr past ↦ none-some pending (sym (get_or_past (with_call io p put).calls p None (rw length-set past)) ∙ is)
    ]

device-waits : (call : PathCall) (device : IoCall) → device_call call ≡ Some device → (processes : Processes) (io new : Io)
    (drives p : ℕ) (result : CallResult) (before after : List TerminalState) → IoAttempts device processes io drives p
    result new before after → (pending : PendingCall) → pending_at new p ≡ Some pending → WaitsOnDevice call processes io p new
device-waits call device device_is processes io new drives p result before after it pending is =
    by_effect (does-waits device (path_number device (regs_at processes p)) (caller_of processes p) io before after _ it.effect (step-waits (caller_of processes p) io device drives (length before))
    it.does)
  where
    by_effect : EffectWaits device (path_number device (regs_at processes p)) (caller_of processes p) io it.effect → WaitsOnDevice call processes io p new
    by_effect (inl over) =
        absurd (kept-put it.effect.io p (pending_in it.effect.end) pending (sym (ap (λ (io : Io). pending_at io p) it.state) ∙ is) over)
    by_effect (inr (names, paths)) = record {
      device = device;
      device_is = device_is;
      takes = names.takes;
      opened = names.opened;
      is = names.is;
      on = names.on;
      paths = ap (λ (io : Io). io.paths) it.state ∙ paths;
    }

-- a call on files that waits
pub file-waits : (call : PathCall) (processes : Processes) (files : Files) (now : TimePacket) (p : ℕ) (result : CallResult)
    (new : Files) (before after : List TerminalState) → FileAttempts call processes files now p result new before after
    → (pending : PendingCall) → pending_at new.io p ≡ Some pending → WaitsOnDevice call processes files.io p new.io ⊎ WaitsForRecord call
    processes files now p result new before after
file-waits call processes files now p result new before after it pending is =
    by_case (attempt-comes call processes files now p result new before after it)
  where
    by_case : DeviceAttempted call processes files p result new before after ⊎ TouchesNoDevice call processes files now p result new
        before after ⊎ WaitsForRecord call processes files now p result new before after → WaitsOnDevice call processes
        files.io p new.io ⊎ WaitsForRecord call processes files now p result new before after
    by_case (inl on) =
        inl (device-waits call on.device on.device_is processes files.io new.io (length files.drives) p result before after on.attempted pending is)
    by_case (inr (inl left)) =
        absurd (none-some pending (sym (io-kept processes files p result new before after left).calls.none ∙ is))
    by_case (inr (inr waits)) = inr waits
