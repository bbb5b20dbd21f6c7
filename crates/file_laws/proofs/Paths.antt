-- Paths that are on what they were opened on, where one begins, is duplicated, moved or closed, and in an attempt on a
-- terminal or a pipe: none of these opens a file.
use Rattle.std.proofs.Common.{◌≡◌, ℕ, zero, suc, ◌<◌, ◌≤◌, ◌==◌, not, Bool, true, false, if◌then◌else◌, Option, Some, None, Result, Ok, Err, List, length, sym, ap, ◌∙◌, subst, inl, inr, ◌⊎◌}
use Rattle.std.specs.Prelude.{is_none, min}
use Rattle.std.specs.Option.{option_map_or}
use Rattle.std.proofs.lemmas.Bool.{cases_eq, cases_lt}
use Rattle.std.proofs.lemmas.List.{get_or-set_same, get_or-set_other, get_or_past, length-set}
use Rattle.std.proofs.lemmas.Option.{none-some, same_Some}
use Rattle.os9_base.specs.declared.calls.TheConstants.{I_WRITE, I_WRITLN, F_PERR}
use Rattle.os9_base.specs.declared.errors.TheConstants.{E_BPADDR, E_BPNUM, E_BMODE, E_PTHFUL, E_NOTRDY, E_UNKSVC}
use Rattle.os9_outer.specs.TerminalState.{TerminalState}
use Rattle.os9_base.specs.declared.name_fault.NameFault.{NameFault}
use Rattle.os9_base.specs.declared.name_fault.NameFault.TheVariants.{Unreadable, NoName}
use Rattle.proc_model.specs.UserBytes.{user_bytes}
use Rattle.io_model.specs.Path.{PathTable, closed_desc, desc_of, free_number, free_path, is_held, new_number, path_at, paths_after_begin, paths_after_close, paths_after_dup, slot_of, with_desc, with_path, with_slot}
use Rattle.io_model.specs.Pipe.{free_pipe, pipes_after_begin}
use Rattle.io_model.specs.declared.pending.PendingCall.{PendingCall}
use Rattle.io_model.specs.declared.path.Desc.{Desc}
use Rattle.io_model.specs.declared.path.SysPath.{SysPath}
use Rattle.io_model.specs.declared.path.Target.{Target}
use Rattle.io_model.specs.declared.path.Target.TheVariants.{File, Folder, Term, Pipe}
use Rattle.io_model.specs.declared.path.TheConstants.{PROCESS_PATHS}
use Rattle.io_model.specs.declared.terminal.ReadKind.{ReadKind}
use Rattle.io_model.specs.declared.terminal.ReadKind.TheVariants.{Bytes, WholeLine}
use Rattle.io_model.specs.Attempts.{HasIoEffect}
use Rattle.io_model.specs.Close.{after_close, i_close, without_path, without_target}
use Rattle.io_model.specs.Dup.{i_dup}
use Rattle.io_model.specs.Io.{Io, OpenPath, pending_at, new_desc, open_path, with_paths, with_pipes}
use Rattle.io_model.specs.Lead.{Lead, Search, to_terminal, to_pipe, nowhere, lead_of}
use Rattle.io_model.specs.Modes.{can_read, can_write}
use Rattle.io_model.specs.Open.{begins, opened_regs, opens_lead, opens, reads_list}
use Rattle.io_model.specs.PathList.{PathList, path_list}
use Rattle.io_model.specs.Processes.{closed_below, closed_if_open, io_ended}
use Rattle.io_model.specs.Read.{reads_path, reads_target}
use Rattle.io_model.specs.Status.{gets_end, gets_options, gets_ready, gets_status, i_getstt, i_setstt, options, ready_count}
use Rattle.io_model.specs.Step.{Caller, IoEffect, IoStep, answers, refused, comes, reads, writes, needs, refuses, done, stores}
use Rattle.io_model.specs.Transfer.{call_now, on_path, unless_nothing}
use Rattle.io_model.specs.Write.{Sending, f_perr, i_write, i_writln, line_bytes, sends_on, sent_bytes, sent_error, sent_line, writes_target}
use Rattle.io_model.specs.declared.modes.TheConstants.{STANDARD_ERROR}
use Rattle.io_model.specs.declared.status.TheConstants.{SS_OPT, SS_READY, SS_EOF, OPTION_BYTES}
use Rattle.file_rules.specs.Files.{Files}
use Rattle.file_laws.specs.Kinds.{IsOnItsKind}
use Rattle.file_laws.proofs.Kept.{AreOn}

module _ (files : Files) where
  abbrev On : PathTable → Type 0
  On paths = AreOn files paths

  -- ---- one change of the paths

  pub on-desc : (paths : PathTable) (s : ℕ) (place : Option Desc) → On paths → ((desc : Desc) → place ≡ Some desc → IsOnItsKind files desc) → On (with_desc paths s place)
  on-desc paths s place on new path desc there =
      elim (cases_eq path s) [
        | inl same ↦ at_it same (cases_lt s (length paths.descs))
        | inr apart ↦ on path desc (sym (get_or-set_other paths.descs s path place None apart) ∙ there)
      ]
    where
      at_it : path ≡ s → (s < length paths.descs) ⊎ (length paths.descs ≤ s) → IsOnItsKind files desc
      at_it same (inl within) =
          new desc (sym (ap (desc_of (with_desc paths s place)) same ∙ get_or-set_same paths.descs s place None within) ∙ there)
      at_it same (inr past) =
          absurd (none-some desc (sym (ap (desc_of (with_desc paths s place)) same ∙ get_or_past (with_desc paths s place).descs s None (rw length-set past)) ∙ there))

  pub on-begin : (paths : PathTable) (p : ℕ) (desc : Desc) → On paths → IsOnItsKind files desc → On (paths_after_begin paths p desc)
  on-begin paths p desc on new = by_places (free_number paths p) (free_path paths)
    where
      by_places : (number path : Option ℕ) → On (option_map_or (λ n. option_map_or (with_path paths p desc n) path paths) number paths)
      by_places None path = on
      by_places (Some n) None = on
      by_places (Some n) (Some s) =
          λ path d there. on-desc paths s (Some desc) on (λ d is. subst (λ (d : Desc). IsOnItsKind files d) (same_Some desc d is) new) path d there

  pub on-dup : (paths : PathTable) (p n : ℕ) → On paths → On (paths_after_dup paths p n)
  on-dup paths p n on = by_place (free_number paths p)
    where
      by_place : (free : Option ℕ) → On (option_map_or (λ free. with_slot paths p free (slot_of paths p n)) free paths)
      by_place None = on
      by_place (Some free) = on

  on-close : (paths : PathTable) (p n : ℕ) → On paths → On (paths_after_close paths p n)
  on-close paths p n on = by_holder (is_held (with_slot paths p n None) (path_at paths p n))
    where
      by_holder : (held : Bool) → On (if held then with_slot paths p n None else with_desc (with_slot paths p n None) (path_at paths p n) None)
      by_holder true = on
      by_holder false = on-desc (with_slot paths p n None) (path_at paths p n) None on (λ d is. absurd (none-some d is))

  -- ---- what a process closes

  abbrev OnIo : Io → Type 0
  OnIo io = On io.paths

  on-target : (io : Io) (target : Target) → OnIo io → OnIo (without_target io target)
  on-target io (File drive sector) on = on
  on-target io (Folder drive sector) on = on
  on-target io (Term terminal) on = on
  on-target io (Pipe pipe) on = on

  on-gone : (io : Io) (gone : Option Desc) → OnIo io → OnIo (without_path io gone)
  on-gone io None on = on
  on-gone io (Some desc) on = on-target io desc.target on

  pub on-closed : (io : Io) (p n : ℕ) → OnIo io → OnIo (after_close io p n)
  on-closed io p n on =
      on-gone (with_paths io (paths_after_close io.paths p n)) (closed_desc io.paths p n) (on-close io.paths p n on)

  on-closed_if : (io : Io) (p n : ℕ) (path : Option SysPath) → OnIo io → OnIo (closed_if_open io p n path)
  on-closed_if io p n None on = on
  on-closed_if io p n (Some path) on = on-closed io p n on

  on-closed_below : (io : Io) (p n : ℕ) → OnIo io → OnIo (closed_below io p n)
  on-closed_below io p zero on = on
  on-closed_below io p (suc n) on =
      on-closed_if (closed_below io p n) p n (slot_of (closed_below io p n).paths p n) (on-closed_below io p n on)

  pub on-ended : (io : Io) (p : ℕ) → OnIo io → OnIo (io_ended io p)
  on-ended io p on = on-closed_below io p PROCESS_PATHS on

  -- ---- an attempt on a terminal or a pipe

  -- an attempt leaves paths that are on what they were opened on
  abbrev pub LeavesOn : IoStep → Caller → Io → Type 0
  LeavesOn step caller io = (effect : IoEffect) (old new : List TerminalState) → HasIoEffect step caller io effect old new → OnIo effect.io

  abbrev Left : IoStep → Type 0
  Left (refused number) = Unit {0}
  Left (comes effect) = OnIo effect.io
  Left (reads read) = Unit {0}
  Left (writes write) = Unit {0}

  module _ (caller : Caller) (io : Io) (on : OnIo io) where
    leaves-on : (step : IoStep) → Left step → LeavesOn step caller io
    leaves-on (refused number) left effect old new (is, same) = subst (λ (effect : IoEffect). OnIo effect.io) (sym is) on
    leaves-on (comes it) left effect old new (is, same) = subst (λ (effect : IoEffect). OnIo effect.io) (sym is) left
    leaves-on (reads read) left effect old new does =
        subst (λ (effect : IoEffect). OnIo effect.io) (sym does.effect_is) on
    leaves-on (writes write) left effect old new does =
        subst (λ (effect : IoEffect). OnIo effect.io) (sym does.effect_is) on

    needs-left : {A : Type 0} (o : Option A) (number : ℕ) (next : A → IoStep) → ((a : A) → Left (next a)) → Left (needs o number next)
    needs-left None number next left = tt
    needs-left (Some a) number next left = left a

    refuses-left : (test : Bool) (number : ℕ) (next : IoStep) → Left next → Left (refuses test number next)
    refuses-left true number next left = tt
    refuses-left false number next left = left

    -- I$Dup, I$Close and I$Seek
    pub dup-leaves : LeavesOn (i_dup caller io) caller io
    dup-leaves = leaves-on (i_dup caller io)
        (needs-left (slot_of io.paths caller.process.0 caller.regs.a) E_BPNUM
        (λ path. needs (free_number io.paths caller.process.0) E_PTHFUL
        (λ number. done (record caller.regs { a = number })
        (with_paths io (paths_after_dup io.paths caller.process.0 caller.regs.a))))
        (λ path. needs-left (free_number io.paths caller.process.0) E_PTHFUL
        (λ number. done (record caller.regs { a = number })
        (with_paths io (paths_after_dup io.paths caller.process.0 caller.regs.a)))
        (λ number. on-dup io.paths caller.process.0 caller.regs.a on)))

    pub close-leaves : LeavesOn (i_close caller io) caller io
    close-leaves = leaves-on (i_close caller io)
        (needs-left (slot_of io.paths caller.process.0 caller.regs.a) E_BPNUM (λ path. done caller.regs (after_close io caller.process.0 caller.regs.a))
        (λ path. on-closed io caller.process.0 caller.regs.a on))

    pub nothing-leaves : LeavesOn (needs (open_path io caller.process.0 caller.regs.a) E_BPNUM (λ opened. done caller.regs io)) caller io
    nothing-leaves = leaves-on _ (needs-left (open_path io caller.process.0 caller.regs.a) E_BPNUM (λ opened. done caller.regs io) (λ opened. on))

    -- I$Open and I$Create
    begins-left : (before : Io) (list : PathList) (desc : Desc) → OnIo before → IsOnItsKind files desc → Left (begins caller before list desc)
    begins-left before list desc on new =
        needs-left (new_number before.paths caller.process.0) E_PTHFUL (λ number. done (opened_regs caller.regs list number) (with_paths before (paths_after_begin before.paths caller.process.0 desc)))
        (λ number. on-begin before.paths caller.process.0 desc on new)

    lead-left : (list : PathList) (lead : Lead) → Left (opens_lead caller io list lead)
    lead-left list (to_terminal terminal) = begins-left io list (new_desc (Term terminal) caller.regs.a) on tt
    lead-left list to_pipe =
        needs-left (free_pipe io.pipes) E_PTHFUL (λ pipe. begins caller (with_pipes io (pipes_after_begin io.pipes)) list (new_desc (Pipe pipe) caller.regs.a))
        (λ pipe. begins-left (with_pipes io (pipes_after_begin io.pipes)) list (new_desc (Pipe pipe) caller.regs.a) on tt)
    lead-left list (nowhere number) = tt

    list-left : (lead : PathList → Lead) (list : Result PathList NameFault) (allowed : Bool) → Left (reads_list list allowed (λ list. opens_lead caller io list (lead list)))
    list-left lead (Ok list) true = lead-left list (lead list)
    list-left lead (Ok list) false = tt
    list-left lead (Err Unreadable) allowed = tt
    list-left lead (Err NoName) true = tt
    list-left lead (Err NoName) false = tt

    pub opens-leaves : (search : Search) (allowed : Bool) (drives terms : ℕ) → LeavesOn (opens search allowed caller io drives terms) caller io
    opens-leaves search allowed drives terms =
        leaves-on (opens search allowed caller io drives terms) (list-left (λ list. lead_of search drives terms list) (path_list caller.cells caller.regs.x) allowed)

    -- reads and writes
    nothing-left : (nothing : Bool) (next : IoStep) → Left next → Left (if nothing then done caller.regs io else next)
    nothing-left true next left = on
    nothing-left false next left = left

    path-left : (number : ℕ) (is_allowed : ℕ → Bool) (next : OpenPath → IoStep) → ((opened : OpenPath) → Left (next opened)) → Left (on_path caller io number is_allowed next)
    path-left number is_allowed next left =
        needs-left (open_path io caller.process.0 number) E_BPNUM (λ opened. refuses (not (is_allowed opened.desc.mode)) E_BMODE (next opened))
        (λ opened. refuses-left (not (is_allowed opened.desc.mode)) E_BMODE (next opened) (left opened))

    read-target : (kind : ReadKind) (now : PendingCall) (target : Target) → Left (reads_target kind caller io now target)
    read-target kind now (File drive sector) = tt
    read-target kind now (Folder drive sector) = tt
    read-target kind now (Term terminal) = tt
    read-target Bytes now (Pipe pipe) = on
    read-target WholeLine now (Pipe pipe) = on

    pub reads-leave : (kind : ReadKind) (code : ℕ) → LeavesOn (reads_path kind code caller io) caller io
    reads-leave kind code = leaves-on (reads_path kind code caller io)
        (refuses-left (is_none (user_bytes caller.cells caller.regs.x caller.regs.y)) E_BPADDR
        (on_path caller io caller.regs.a can_read (λ opened. unless_nothing caller io (reads_target kind caller io
        (call_now caller io code opened caller.regs.y) opened.desc.target)))
        (path-left caller.regs.a can_read (λ opened. unless_nothing caller io (reads_target kind caller io (call_now caller io code opened caller.regs.y) opened.desc.target))
        (λ opened. nothing-left (caller.regs.y == 0) (reads_target kind caller io (call_now caller io code opened
        caller.regs.y) opened.desc.target) (read-target kind (call_now caller io code opened caller.regs.y)
        opened.desc.target))))

    write-target : (sending : Sending) (now : PendingCall) (target : Target) → Left (writes_target sending caller io now target)
    write-target sending now (File drive sector) = tt
    write-target sending now (Folder drive sector) = tt
    write-target sending now (Term terminal) = tt
    write-target sending now (Pipe pipe) = on

    send-left : (sending : List ℕ → Sending) (code : ℕ) (bytes : Option (List ℕ))
        → Left (needs bytes E_BPADDR (λ bytes. on_path caller io caller.regs.a can_write
        (λ opened. unless_nothing caller io (sends_on (sending bytes) code caller io opened))))
    send-left sending code None = tt
    send-left sending code (Some bytes) =
        path-left caller.regs.a can_write (λ opened. unless_nothing caller io (sends_on (sending bytes) code caller io opened))
        (λ opened. nothing-left (caller.regs.y == 0) (sends_on (sending bytes) code caller io opened)
        (write-target (sending bytes) (call_now caller io code opened (length (sending bytes).bytes))
        opened.desc.target))

    pub write-leaves : LeavesOn (i_write caller io) caller io
    write-leaves =
        leaves-on (i_write caller io) (send-left (sent_bytes caller) I_WRITE (user_bytes caller.cells caller.regs.x caller.regs.y))

    pub line-leaves : LeavesOn (i_writln caller io) caller io
    line-leaves =
        leaves-on (i_writln caller io) (send-left (sent_line caller) I_WRITLN (line_bytes caller (pending_at io caller.process.0)))

    pub error-leaves : LeavesOn (f_perr caller io) caller io
    error-leaves = leaves-on (f_perr caller io)
        (path-left STANDARD_ERROR can_write (λ opened. sends_on (sent_error caller) F_PERR caller io opened)
        (λ opened. write-target (sent_error caller) (call_now caller io F_PERR opened (length (sent_error caller).bytes)) opened.desc.target))

    -- status
    status-by : (target : Target) (opt ready end : Bool) → Left (if opt then gets_options caller io target else
        (if ready then gets_ready caller io target else (if end then gets_end caller io target else refused
        E_UNKSVC)))
    status-by target true ready end =
        refuses-left (is_none (user_bytes caller.cells caller.regs.x OPTION_BYTES)) E_BPADDR (comes (stores caller.regs.x (options target) (answers caller.regs) io)) on
    status-by target false true end =
        refuses-left (ready_count io target == 0) E_NOTRDY (done (record caller.regs { b = min 255 (ready_count io target) }) io) on
    status-by target false false true = on
    status-by target false false false = tt

    pub get-leaves : LeavesOn (i_getstt caller io) caller io
    get-leaves = leaves-on (i_getstt caller io)
        (needs-left (open_path io caller.process.0 caller.regs.a) E_BPNUM (λ opened. gets_status caller io opened.desc.target caller.regs.b)
        (λ opened. status-by opened.desc.target (caller.regs.b == SS_OPT) (caller.regs.b == SS_READY) (caller.regs.b == SS_EOF)))

    pub set-leaves : LeavesOn (i_setstt caller io) caller io
    set-leaves = leaves-on (i_setstt caller io)
        (needs-left (open_path io caller.process.0 caller.regs.a) E_BPNUM (λ opened. refused E_UNKSVC) (λ opened. tt))
