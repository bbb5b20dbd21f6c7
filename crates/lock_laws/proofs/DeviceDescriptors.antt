-- An attempt of a call on a terminal or a pipe, other than I$Close, leaves the descriptors of paths.
use Rattle.std.proofs.Common.{◌≡◌, ◌≢◌, ℕ, ◌==◌, not, Bool, true, false, Option, Some, None, Result, Ok, Err, List, length, refl, sym, ap, ◌∙◌, subst}
use Rattle.std.specs.Prelude.{is_none, min, if◌then◌else◌}
use Rattle.std.specs.Option.{option_map_or}
use Rattle.std.proofs.lemmas.List.{get_or-set_other}
use Rattle.std.proofs.lemmas.Option.{none-some}
use Rattle.os9_base.specs.declared.calls.TheConstants.{F_PERR, I_READ, I_READLN, I_WRITE, I_WRITLN}
use Rattle.os9_base.specs.declared.errors.TheConstants.{E_BMODE, E_BPADDR, E_BPNAM, E_BPNUM, E_NOTRDY, E_PTHFUL, E_UNKSVC}
use Rattle.os9_outer.specs.TerminalState.{TerminalState}
use Rattle.os9_base.specs.declared.name_fault.NameFault.{NameFault}
use Rattle.os9_base.specs.declared.name_fault.NameFault.TheVariants.{NoName, Unreadable}
use Rattle.proc_model.specs.CallResult.{CallResult}
use Rattle.proc_model.specs.Processes.{Processes}
use Rattle.proc_model.specs.UserBytes.{user_bytes}
use Rattle.io_model.specs.Path.{PathTable, desc_of, free_number, free_path, new_number, paths_after_begin, paths_after_dup, slot_of, with_path, with_slot}
use Rattle.io_model.specs.Pipe.{free_pipe, pipes_after_begin}
use Rattle.io_model.specs.declared.pending.PendingCall.{PendingCall}
use Rattle.io_model.specs.declared.path.Desc.{Desc}
use Rattle.io_model.specs.declared.path.Target.{Target}
use Rattle.io_model.specs.declared.path.Target.TheVariants.{File, Folder, Pipe, Term}
use Rattle.io_model.specs.declared.terminal.ReadKind.{ReadKind}
use Rattle.io_model.specs.declared.terminal.ReadKind.TheVariants.{Bytes, WholeLine}
use Rattle.io_model.specs.Attempts.{HasIoEffect, IoAttempts, caller_of, io_step, step_of}
use Rattle.io_model.specs.Io.{Io, OpenPath, pending_at, new_desc, open_path, with_paths, with_pipes}
use Rattle.io_model.specs.Lead.{Lead, a_new_place, lead_of, nowhere, to_pipe, to_terminal, what_is_there}
use Rattle.io_model.specs.Modes.{can_read, can_write, is_mode}
use Rattle.io_model.specs.Open.{begins, opened_regs, opens_lead, reads_list}
use Rattle.io_model.specs.PathList.{PathList, path_list}
use Rattle.io_model.specs.Read.{reads_target}
use Rattle.io_model.specs.Status.{gets_end, gets_options, gets_ready, gets_status, options, ready_count}
use Rattle.io_model.specs.Step.{Caller, IoEffect, IoStep, answers, comes, done, needs, reads, refused, refuses, stores, writes}
use Rattle.io_model.specs.Transfer.{call_now, on_path, unless_nothing}
use Rattle.io_model.specs.Write.{Sending, line_bytes, sends_on, sent_bytes, sent_error, sent_line, writes_target}
use Rattle.io_model.specs.declared.io_call.IoCall.{IoCall}
use Rattle.io_model.specs.declared.io_call.IoCall.TheVariants as Call
use Rattle.io_model.specs.declared.modes.TheConstants.{STANDARD_ERROR}
use Rattle.io_model.specs.declared.status.TheConstants.{OPTION_BYTES, SS_EOF, SS_OPT, SS_READY}
use Rattle.file_laws.proofs.Keeps.{DescStays, free-desc}

-- each descriptor stays, but for its position and its ticks
abbrev pub DescsStay : PathTable → PathTable → Type 0
DescsStay old new = (s : ℕ) (desc : Desc) → desc_of old s ≡ Some desc → DescStays new s desc

pub descs-same : (paths : PathTable) → DescsStay paths paths
descs-same paths s desc is = (desc, is, refl)

dup-stay : (paths : PathTable) (p n : ℕ) → DescsStay paths (paths_after_dup paths p n)
dup-stay paths p n = by_place (free_number paths p)
  where
    by_place : (free : Option ℕ) → DescsStay paths (option_map_or (λ free. with_slot paths p free (slot_of paths p n)) free paths)
    by_place None = descs-same paths
    by_place (Some free) = λ s desc is. (desc, is, refl)

begin-stay : (paths : PathTable) (p : ℕ) (new : Desc) → DescsStay paths (paths_after_begin paths p new)
begin-stay paths p new = by_places (free_number paths p) (free_path paths) refl
  where
    by_places : (number path : Option ℕ) → free_path paths ≡ path → DescsStay paths (option_map_or (λ n. option_map_or (with_path paths p new n) path paths) number paths)
    by_places None path free = descs-same paths
    by_places (Some n) None free = descs-same paths
    by_places (Some n) (Some t) free = λ s desc is.
        (desc, get_or-set_other paths.descs t s (Some new) None (apart s desc is) ∙ is, refl)
      where
        apart : (s : ℕ) (desc : Desc) → desc_of paths s ≡ Some desc → s ≢ t
        apart s desc is same = none-some desc (sym (free-desc paths t free) ∙ sym (ap (desc_of paths) same) ∙ is)

-- ---- steps

module _ (caller : Caller) (io : Io) where
  abbrev Stay : IoStep → Type 0
  Stay (refused number) = Unit {0}
  Stay (comes it) = DescsStay io.paths it.io.paths
  Stay (reads read) = Unit {0}
  Stay (writes write) = Unit {0}

  same : DescsStay io.paths io.paths
  same = descs-same io.paths

  needs-stay : {A : Type 0} (o : Option A) (number : ℕ) (next : A → IoStep) → ((a : A) → Stay (next a)) → Stay (needs o number next)
  needs-stay None number next stay = tt
  needs-stay (Some a) number next stay = stay a

  refuses-stay : (test : Bool) (number : ℕ) (next : IoStep) → Stay next → Stay (refuses test number next)
  refuses-stay true number next stay = tt
  refuses-stay false number next stay = stay

  path-stay : (number : ℕ) (is_allowed : ℕ → Bool) (next : OpenPath → IoStep) → ((opened : OpenPath) → Stay (next opened)) → Stay (on_path caller io number is_allowed next)
  path-stay number is_allowed next stay =
      needs-stay (open_path io caller.process.0 number) E_BPNUM (λ opened. refuses (not (is_allowed opened.desc.mode)) E_BMODE (next opened))
      (λ opened. refuses-stay (not (is_allowed opened.desc.mode)) E_BMODE (next opened) (stay opened))

  nothing-stay : (nothing : Bool) (next : IoStep) → Stay next → Stay (if nothing then done caller.regs io else next)
  nothing-stay true next stay = same
  nothing-stay false next stay = stay

  -- ---- I$Open and I$Create

  begins-stay : (before : Io) (list : PathList) (desc : Desc) → DescsStay io.paths (paths_after_begin before.paths caller.process.0 desc) → Stay (begins caller before list desc)
  begins-stay before list desc stay =
      needs-stay (new_number before.paths caller.process.0) E_PTHFUL (λ number. done (opened_regs caller.regs list number)
      (with_paths before (paths_after_begin before.paths caller.process.0 desc))) (λ number. stay)

  lead-stay : (list : PathList) (lead : Lead) → Stay (opens_lead caller io list lead)
  lead-stay list (to_terminal terminal) =
      begins-stay io list (new_desc (Term terminal) caller.regs.a) (begin-stay io.paths caller.process.0 (new_desc (Term terminal) caller.regs.a))
  lead-stay list to_pipe =
      needs-stay (free_pipe io.pipes) E_PTHFUL
      (λ pipe. begins caller (with_pipes io (pipes_after_begin io.pipes)) list (new_desc (Pipe pipe) caller.regs.a))
      (λ pipe. begins-stay (with_pipes io (pipes_after_begin io.pipes)) list (new_desc (Pipe pipe) caller.regs.a)
      (begin-stay io.paths caller.process.0 (new_desc (Pipe pipe) caller.regs.a)))
  lead-stay list (nowhere number) = tt

  list-stay : (list : Result PathList NameFault) (allowed : Bool) (lead : PathList → Lead) → Stay (reads_list list allowed (λ list. opens_lead caller io list (lead list)))
  list-stay (Ok list) allowed lead =
      refuses-stay (not allowed) E_BMODE (opens_lead caller io list (lead list)) (lead-stay list (lead list))
  list-stay (Err Unreadable) allowed lead = tt
  list-stay (Err NoName) allowed lead = refuses-stay (not allowed) E_BMODE (refused E_BPNAM) tt

  -- ---- reads and writes

  read-target : (kind : ReadKind) (now : PendingCall) (target : Target) → Stay (reads_target kind caller io now target)
  read-target kind now (File drive sector) = tt
  read-target kind now (Folder drive sector) = tt
  read-target kind now (Term terminal) = tt
  read-target Bytes now (Pipe pipe) = same
  read-target WholeLine now (Pipe pipe) = same

  read-stay : (kind : ReadKind) (code : ℕ) (missing : Bool)
      → Stay (refuses missing E_BPADDR (on_path caller io caller.regs.a can_read (λ opened. unless_nothing caller io
      (reads_target kind caller io (call_now caller io code opened caller.regs.y) opened.desc.target))))
  read-stay kind code missing =
      refuses-stay missing E_BPADDR (on_path caller io caller.regs.a can_read next)
      (path-stay caller.regs.a can_read next (λ opened. nothing-stay (caller.regs.y == 0) (target opened) (read-target kind (call_now caller io code opened caller.regs.y) opened.desc.target)))
    where
      target : OpenPath → IoStep
      target opened = reads_target kind caller io (call_now caller io code opened caller.regs.y) opened.desc.target

      next : OpenPath → IoStep
      next opened = unless_nothing caller io (target opened)

  write-target : (sending : Sending) (now : PendingCall) (target : Target) → Stay (writes_target sending caller io now target)
  write-target sending now (File drive sector) = tt
  write-target sending now (Folder drive sector) = tt
  write-target sending now (Term terminal) = tt
  write-target sending now (Pipe pipe) = same

  send-stay : (sending : List ℕ → Sending) (code : ℕ) (bytes : Option (List ℕ))
      → Stay (needs bytes E_BPADDR (λ bytes. on_path caller io caller.regs.a can_write (λ opened. unless_nothing caller
      io (sends_on (sending bytes) code caller io opened))))
  send-stay sending code None = tt
  send-stay sending code (Some bytes) =
      path-stay caller.regs.a can_write (λ opened. unless_nothing caller io (sends_on (sending bytes) code caller io opened))
      (λ opened. nothing-stay (caller.regs.y == 0) (sends_on (sending bytes) code caller io opened)
      (write-target (sending bytes) (call_now caller io code opened (length (sending bytes).bytes)) opened.desc.target))

  -- ---- status

  status-by : (target : Target) (opt ready end : Bool) → Stay (if opt then gets_options caller io target else
      (if ready then gets_ready caller io target else (if end then gets_end caller io target else refused E_UNKSVC)))
  status-by target true ready end =
      refuses-stay (is_none (user_bytes caller.cells caller.regs.x OPTION_BYTES)) E_BPADDR (comes (stores caller.regs.x (options target) (answers caller.regs) io)) same
  status-by target false true end =
      refuses-stay (ready_count io target == 0) E_NOTRDY (done (record caller.regs { b = min 255 (ready_count io target) }) io) same
  status-by target false false true = same
  status-by target false false false = tt

  -- ---- each call

  step-stay : (call : IoCall) → call ≢ Call.Close → (drives terms : ℕ) → Stay (io_step call caller io drives terms)
  step-stay Call.Dup other drives terms =
      needs-stay (slot_of io.paths caller.process.0 caller.regs.a) E_BPNUM
      (λ path. needs (free_number io.paths caller.process.0) E_PTHFUL (λ number. done (record caller.regs { a = number })
      (with_paths io (paths_after_dup io.paths caller.process.0 caller.regs.a))))
      (λ path. needs-stay (free_number io.paths caller.process.0) E_PTHFUL
      (λ number. done (record caller.regs { a = number }) (with_paths io (paths_after_dup io.paths caller.process.0 caller.regs.a)))
      (λ number. dup-stay io.paths caller.process.0 caller.regs.a))
  step-stay Call.Create other drives terms =
      list-stay (path_list caller.cells caller.regs.x) (can_write caller.regs.a) (λ list. lead_of a_new_place drives terms list)
  step-stay Call.Open other drives terms =
      list-stay (path_list caller.cells caller.regs.x) (is_mode caller.regs.a) (λ list. lead_of what_is_there drives terms list)
  step-stay Call.Close other drives terms = absurd (other refl)
  step-stay Call.Read other drives terms =
      read-stay Bytes I_READ (is_none (user_bytes caller.cells caller.regs.x caller.regs.y))
  step-stay Call.ReadLn other drives terms =
      read-stay WholeLine I_READLN (is_none (user_bytes caller.cells caller.regs.x caller.regs.y))
  step-stay Call.Write other drives terms =
      send-stay (sent_bytes caller) I_WRITE (user_bytes caller.cells caller.regs.x caller.regs.y)
  step-stay Call.WritLn other drives terms =
      send-stay (sent_line caller) I_WRITLN (line_bytes caller (pending_at io caller.process.0))
  step-stay Call.GetStt other drives terms =
      needs-stay (open_path io caller.process.0 caller.regs.a) E_BPNUM (λ opened. gets_status caller io opened.desc.target caller.regs.b)
      (λ opened. status-by opened.desc.target (caller.regs.b == SS_OPT) (caller.regs.b == SS_READY) (caller.regs.b == SS_EOF))
  step-stay Call.SetStt other drives terms =
      needs-stay (open_path io caller.process.0 caller.regs.a) E_BPNUM (λ opened. refused E_UNKSVC) (λ opened. tt)
  step-stay Call.PErr other drives terms =
      path-stay STANDARD_ERROR can_write (λ opened. sends_on (sent_error caller) F_PERR caller io opened)
      (λ opened. write-target (sent_error caller) (call_now caller io F_PERR opened (length (sent_error caller).bytes)) opened.desc.target)

  does-stay : (step : IoStep) (effect : IoEffect) (before after : List TerminalState) → Stay step → HasIoEffect step caller io effect before after → DescsStay io.paths effect.io.paths
  does-stay (refused number) effect before after stay (is, same_terms) =
      subst (λ (effect : IoEffect). DescsStay io.paths effect.io.paths) (sym is) same
  does-stay (comes it) effect before after stay (is, same_terms) =
      subst (λ (effect : IoEffect). DescsStay io.paths effect.io.paths) (sym is) stay
  does-stay (reads read) effect before after stay does =
      subst (λ (effect : IoEffect). DescsStay io.paths effect.io.paths) (sym does.effect_is) same
  does-stay (writes write) effect before after stay does =
      subst (λ (effect : IoEffect). DescsStay io.paths effect.io.paths) (sym does.effect_is) same

pub device-stay : (call : IoCall) (m : Processes) (io : Io) (p drives : ℕ) (result : CallResult) (new : Io)
    (before after : List TerminalState) → call ≢ Call.Close → IoAttempts call m io drives p result new before after
    → DescsStay io.paths new.paths
device-stay call m io p drives result new before after other attempt =
    subst (λ (io_now : Io). DescsStay io.paths io_now.paths) (sym attempt.state)
    (does-stay (caller_of m p) io (step_of call m p io drives before) attempt.effect before after
    (step-stay (caller_of m p) io call other drives (length before)) attempt.does)
