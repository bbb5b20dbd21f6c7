-- Attempts of calls on paths, each by its code: the states that they may come to where they reach no device.
use Rattle.std.proofs.Common.{◌≡◌, ℕ, ◌<◌, ◌==◌, not, Bool, true, false, Option, Some, None, Result, Ok, Err, List, length, refl}
use Rattle.std.specs.Prelude.{is_none, min, nat_lt, option_and_then, if◌then◌else◌}
use Rattle.std.proofs.lemmas.Bool.{ltb-true}
use Rattle.device_table.specs.Names.{is_there, named_device}
use Rattle.device_table.specs.declared.devices.Dev.{Dev}
use Rattle.os9_base.specs.declared.calls.TheConstants.{I_READ, I_READLN, I_WRITE, I_WRITLN, F_PERR}
use Rattle.os9_base.specs.declared.errors.TheConstants.{E_BPADDR, E_BPNAM, E_BPNUM, E_BMODE, E_PTHFUL, E_NOTRDY, E_UNKSVC}
use Rattle.os9_base.specs.declared.name_fault.NameFault.{NameFault}
use Rattle.os9_base.specs.declared.name_fault.NameFault.TheVariants.{Unreadable, NoName}
use Rattle.proc_model.specs.UserBytes.{user_bytes}
use Rattle.io_model.specs.Path.{slot_of, free_number, new_number, paths_after_begin, paths_after_dup}
use Rattle.io_model.specs.Pipe.{free_pipe, pipes_after_begin}
use Rattle.io_model.specs.declared.pending.PendingCall.{PendingCall}
use Rattle.io_model.specs.declared.path.Desc.{Desc}
use Rattle.io_model.specs.declared.path.SysPath.{SysPath}
use Rattle.io_model.specs.declared.path.Target.{Target}
use Rattle.io_model.specs.declared.path.Target.TheVariants.{File, Folder, Term, Pipe}
use Rattle.io_model.specs.declared.terminal.ReadKind.{ReadKind}
use Rattle.io_model.specs.declared.terminal.ReadKind.TheVariants.{Bytes, WholeLine}
use Rattle.io_model.specs.Attempts.{io_step}
use Rattle.io_model.specs.Close.{after_close}
use Rattle.io_model.specs.Codes.{direction_of_call}
use Rattle.io_model.specs.Io.{Io, OpenPath, pending_at, new_desc, open_path, with_paths, with_pipes}
use Rattle.io_model.specs.Lead.{Lead, Search, to_terminal, to_pipe, nowhere, what_is_there, a_new_place, lead_by_device, lead_of, makes_dots, on_device, on_drive}
use Rattle.io_model.specs.Modes.{can_read, can_write, is_mode}
use Rattle.io_model.specs.Open.{begins, opened_regs, opens_lead, reads_list}
use Rattle.io_model.specs.PathList.{PathList, has_slash_behind_device, path_list}
use Rattle.io_model.specs.Read.{reads_target}
use Rattle.io_model.specs.Status.{gets_end, gets_options, gets_ready, gets_status, options, ready_count}
use Rattle.io_model.specs.Step.{Caller, IoStep, answers, refused, comes, reads, writes, needs, refuses, done, stores}
use Rattle.io_model.specs.Transfer.{call_now, on_path, unless_nothing}
use Rattle.io_model.specs.Write.{Sending, f_perr, line_bytes, sends_on, sent_bytes, sent_error, sent_line, writes_target}
use Rattle.io_model.specs.declared.io_call.Direction.TheVariants.{Reading, Writing}
use Rattle.io_model.specs.declared.io_call.IoCall.{IoCall}
use Rattle.io_model.specs.declared.io_call.IoCall.TheVariants as Call
use Rattle.io_model.specs.declared.modes.TheConstants.{STANDARD_ERROR}
use Rattle.io_model.specs.declared.status.TheConstants.{SS_OPT, SS_READY, SS_EOF, OPTION_BYTES}

-- ---- where a path list leads

-- a terminal is one of so many
abbrev pub LeadWithin : ℕ → Lead → Type 0
LeadWithin terms (to_terminal terminal) = terminal < terms
LeadWithin terms to_pipe = Unit {0}
LeadWithin terms (nowhere number) = Unit {0}

pub lead-within : (drives terms : ℕ) (search : Search) (list : PathList) → LeadWithin terms (lead_of search drives terms list)
lead-within drives terms search list = by_dots (makes_dots search list)
  where
    by_slash : (slash : Bool) (lead : Lead) → LeadWithin terms lead → LeadWithin terms (if slash then nowhere E_BPNAM else lead)
    by_slash true lead within = tt
    by_slash false lead within = within

    on_a_drive : (search : Search) → LeadWithin terms (on_drive search list)
    on_a_drive what_is_there = tt
    on_a_drive a_new_place = tt

    by_drive : (drive : ℕ) (there : Bool) → LeadWithin terms (on_device search list (if there then Some (Dev.Drive drive) else None))
    by_drive drive true = on_a_drive search
    by_drive drive false = tt

    by_terminal : (n : ℕ) (there : Bool) → nat_lt n terms ≡ there → LeadWithin terms (on_device search list (if there then Some (Dev.Term n) else None))
    by_terminal n true is = by_slash (has_slash_behind_device list) (to_terminal n) (ltb-true n terms is)
    by_terminal n false is = tt

    by_device : (device : Option Dev) → LeadWithin terms (on_device search list (option_and_then (λ device. if is_there drives terms device then Some device else None) device))
    by_device None = tt
    by_device (Some (Dev.Drive drive)) = by_drive drive (nat_lt drive drives)
    by_device (Some (Dev.Term n)) = by_terminal n (nat_lt n terms) refl
    by_device (Some Dev.Pipe) = by_slash (has_slash_behind_device list) to_pipe tt

    by_name : (name : Option (List ℕ)) → LeadWithin terms (lead_by_device search drives terms list name)
    by_name None = tt
    by_name (Some name) = by_device (named_device name)

    by_dots : (dots : Bool) → LeadWithin terms (if dots then nowhere E_BPNAM else lead_by_device search drives terms list list.device)
    by_dots true = tt
    by_dots false = by_name list.device

-- ---- what an attempt does

-- a process has a path on a terminal
abbrev pub HasPathOn : Caller → Io → ℕ → Type 0
HasPathOn caller io terminal =
    (number : ℕ) × (opened : OpenPath) × (open_path io caller.process.0 number ≡ Some opened) × (opened.desc.target ≡ Term terminal)

-- an attempt that reaches no device comes to a state of this kind; only a read reads a terminal, and only a write writes
-- to one, and the process has a path on it
abbrev pub StepGives : IoCall → (Io → Type 0) → Caller → Io → IoStep → Type 0
StepGives call P caller io (refused number) = Unit {0}
StepGives call P caller io (comes effect) = P effect.io
StepGives call P caller io (reads read) = (direction_of_call call ≡ Some Reading) × HasPathOn caller io read.terminal
StepGives call P caller io (writes write) = (direction_of_call call ≡ Some Writing) × HasPathOn caller io write.terminal

-- the states that an attempt of a process may come to without a device, on a machine with so many terminals, are of
-- this kind
pub record Walk (P : Io → Type 0) (caller : Caller) (io : Io) (terms : ℕ) : Type 0 where
  pub same : P io
  pub pipes : (pipes : List (Option (List ℕ))) → P (with_pipes io pipes)
  pub dup : P (with_paths io (paths_after_dup io.paths caller.process.0 caller.regs.a))
  pub close : P (after_close io caller.process.0 caller.regs.a)
  pub on_terminal : (terminal : ℕ) → terminal < terms → P (with_paths io (paths_after_begin io.paths caller.process.0 (new_desc (Term terminal) caller.regs.a)))
  pub on_pipe : (pipe : ℕ) → free_pipe io.pipes ≡ Some pipe
      → P (with_paths (with_pipes io (pipes_after_begin io.pipes)) (paths_after_begin io.paths caller.process.0
      (new_desc (Pipe pipe) caller.regs.a)))

module _ (call : IoCall) (P : Io → Type 0) (caller : Caller) (io : Io) (terms : ℕ) (walk : Walk P caller io terms) where
  abbrev Left : IoStep → Type 0
  Left step = StepGives call P caller io step

  -- ---- I$Dup and I$Close

  dup-left : (path : Option SysPath) (free : Option ℕ)
      → Left (needs path E_BPNUM (λ path. needs free E_PTHFUL (λ number. done (record caller.regs { a = number })
      (with_paths io (paths_after_dup io.paths caller.process.0 caller.regs.a)))))
  dup-left None free = tt
  dup-left (Some path) None = tt
  dup-left (Some path) (Some number) = walk.dup

  close-left : (path : Option SysPath) → Left (needs path E_BPNUM (λ path. done caller.regs (after_close io caller.process.0 caller.regs.a)))
  close-left None = tt
  close-left (Some path) = walk.close

  -- ---- I$Open and I$Create

  module _ (list : PathList) where
    begins-left : (before : Io) (desc : Desc) (number : Option ℕ)
        → P (with_paths before (paths_after_begin before.paths caller.process.0 desc))
        → Left (needs number E_PTHFUL (λ number. done (opened_regs caller.regs list number)
        (with_paths before (paths_after_begin before.paths caller.process.0 desc))))
    begins-left before desc None given = tt
    begins-left before desc (Some number) given = given

    pipe-left : (pipe : Option ℕ) → free_pipe io.pipes ≡ pipe
        → Left (needs pipe E_PTHFUL (λ pipe. begins caller (with_pipes io (pipes_after_begin io.pipes)) list
        (new_desc (Pipe pipe) caller.regs.a)))
    pipe-left None free = tt
    pipe-left (Some pipe) free =
        begins-left (with_pipes io (pipes_after_begin io.pipes)) (new_desc (Pipe pipe) caller.regs.a) (new_number io.paths caller.process.0) (walk.on_pipe pipe free)

    lead-left : (lead : Lead) → LeadWithin terms lead → Left (opens_lead caller io list lead)
    lead-left (to_terminal terminal) within =
        begins-left io (new_desc (Term terminal) caller.regs.a) (new_number io.paths caller.process.0) (walk.on_terminal terminal within)
    lead-left to_pipe within = pipe-left (free_pipe io.pipes) refl
    lead-left (nowhere number) within = tt

  list-left : (lead : PathList → Lead) → ((list : PathList) → LeadWithin terms (lead list))
      → (list : Result PathList NameFault) (allowed : Bool)
      → Left (reads_list list allowed (λ list. opens_lead caller io list (lead list)))
  list-left lead within (Ok list) true = lead-left list (lead list) (within list)
  list-left lead within (Ok list) false = tt
  list-left lead within (Err Unreadable) allowed = tt
  list-left lead within (Err NoName) true = tt
  list-left lead within (Err NoName) false = tt

  -- ---- reads and writes

  path-left : (number : ℕ) (is_allowed : ℕ → Bool) (next : OpenPath → IoStep)
      → ((opened : OpenPath) → open_path io caller.process.0 number ≡ Some opened → Left (next opened))
      → Left (on_path caller io number is_allowed next)
  path-left number is_allowed next left = by_path (open_path io caller.process.0 number) refl
    where
      by_mode : (opened : OpenPath) → open_path io caller.process.0 number ≡ Some opened → (allowed : Bool) → Left (refuses (not allowed) E_BMODE (next opened))
      by_mode opened is true = left opened is
      by_mode opened is false = tt

      by_path : (opened : Option OpenPath) → open_path io caller.process.0 number ≡ opened → Left (needs opened E_BPNUM (λ opened. refuses (not (is_allowed opened.desc.mode)) E_BMODE (next opened)))
      by_path None is = tt
      by_path (Some opened) is = by_mode opened is (is_allowed opened.desc.mode)

  nothing-left : (nothing : Bool) (next : IoStep) → Left next → Left (if nothing then done caller.regs io else next)
  nothing-left true next left = walk.same
  nothing-left false next left = left

  read-target : direction_of_call call ≡ Some Reading → (kind : ReadKind) (now : PendingCall) (target : Target)
      → ((terminal : ℕ) → target ≡ Term terminal → HasPathOn caller io terminal)
      → Left (reads_target kind caller io now target)
  read-target direction kind now (File drive sector) on = tt
  read-target direction kind now (Folder drive sector) on = tt
  read-target direction kind now (Term terminal) on = (direction, on terminal refl)
  read-target direction Bytes now (Pipe pipe) on = walk.pipes _
  read-target direction WholeLine now (Pipe pipe) on = walk.pipes _

  read-left : direction_of_call call ≡ Some Reading → (kind : ReadKind) (code : ℕ) (is_missing : Bool)
      → Left (refuses is_missing E_BPADDR (on_path caller io caller.regs.a can_read (λ opened. unless_nothing caller
      io (reads_target kind caller io (call_now caller io code opened caller.regs.y) opened.desc.target))))
  read-left direction kind code true = tt
  read-left direction kind code false =
      path-left caller.regs.a can_read (λ opened. unless_nothing caller io (reads_target kind caller io (call_now caller io code opened caller.regs.y) opened.desc.target))
      (λ opened is. nothing-left (caller.regs.y == 0) (reads_target kind caller io (call_now caller io code opened
      caller.regs.y) opened.desc.target) (read-target direction kind (call_now caller io code opened
      caller.regs.y) opened.desc.target (λ terminal on. (caller.regs.a, opened, is, on))))

  module _ (direction : direction_of_call call ≡ Some Writing) where
    write-target : (sending : Sending) (now : PendingCall) (target : Target) → ((terminal : ℕ) → target ≡ Term terminal → HasPathOn caller io terminal)
        → Left (writes_target sending caller io now target)
    write-target sending now (File drive sector) on = tt
    write-target sending now (Folder drive sector) on = tt
    write-target sending now (Term terminal) on = (direction, on terminal refl)
    write-target sending now (Pipe pipe) on = walk.pipes _

    -- the bytes are there, and are sent
    send-left : (sending : List ℕ → Sending) (code : ℕ) (bytes : Option (List ℕ))
        → Left (needs bytes E_BPADDR (λ bytes. on_path caller io caller.regs.a can_write
        (λ opened. unless_nothing caller io (sends_on (sending bytes) code caller io opened))))
    send-left sending code None = tt
    send-left sending code (Some bytes) =
        path-left caller.regs.a can_write (λ opened. unless_nothing caller io (sends_on (sending bytes) code caller io opened))
        (λ opened is. nothing-left (caller.regs.y == 0) (sends_on (sending bytes) code caller io opened)
        (write-target (sending bytes) (call_now caller io code opened (length (sending bytes).bytes))
        opened.desc.target (λ terminal on. (caller.regs.a, opened, is, on))))

    error-left : Left (f_perr caller io)
    error-left =
        path-left STANDARD_ERROR can_write (λ opened. sends_on (sent_error caller) F_PERR caller io opened)
        (λ opened is. write-target (sent_error caller) (call_now caller io F_PERR opened (length (sent_error caller).bytes)) opened.desc.target (λ terminal on. (STANDARD_ERROR, opened, is, on)))

  -- ---- status

  options-left : (target : Target) (is_missing : Bool) → Left (refuses is_missing E_BPADDR (comes (stores caller.regs.x (options target) (answers caller.regs) io)))
  options-left target true = tt
  options-left target false = walk.same

  ready-left : (target : Target) (none : Bool) → Left (refuses none E_NOTRDY (done (record caller.regs { b = min 255 (ready_count io target) }) io))
  ready-left target true = tt
  ready-left target false = walk.same

  status-by : (target : Target) (opt ready end : Bool) → Left (if opt then gets_options caller io target else
      (if ready then gets_ready caller io target else (if end then gets_end caller io target else refused E_UNKSVC)))
  status-by target true ready end = options-left target (is_none (user_bytes caller.cells caller.regs.x OPTION_BYTES))
  status-by target false true end = ready-left target (ready_count io target == 0)
  status-by target false false true = walk.same
  status-by target false false false = tt

  get-left : (opened : Option OpenPath) → Left (needs opened E_BPNUM (λ opened. gets_status caller io opened.desc.target caller.regs.b))
  get-left None = tt
  get-left (Some opened) =
      status-by opened.desc.target (caller.regs.b == SS_OPT) (caller.regs.b == SS_READY) (caller.regs.b == SS_EOF)

  set-left : (opened : Option OpenPath) → Left (needs opened E_BPNUM (λ opened. refused E_UNKSVC))
  set-left None = tt
  set-left (Some opened) = tt

-- what an attempt of each call does
pub step-gives : (call : IoCall) (P : Io → Type 0) (caller : Caller) (io : Io) (drives terms : ℕ) → Walk P caller io terms → StepGives call P caller io (io_step call caller io drives terms)
step-gives Call.Dup P caller io drives terms walk =
    dup-left Call.Dup P caller io terms walk (slot_of io.paths caller.process.0 caller.regs.a) (free_number io.paths caller.process.0)
step-gives Call.Create P caller io drives terms walk =
    list-left Call.Create P caller io terms walk (λ list. lead_of a_new_place drives terms list)
    (λ list. lead-within drives terms a_new_place list) (path_list caller.cells caller.regs.x)
    (can_write caller.regs.a)
step-gives Call.Open P caller io drives terms walk =
    list-left Call.Open P caller io terms walk (λ list. lead_of what_is_there drives terms list)
    (λ list. lead-within drives terms what_is_there list) (path_list caller.cells caller.regs.x)
    (is_mode caller.regs.a)
step-gives Call.Close P caller io drives terms walk =
    close-left Call.Close P caller io terms walk (slot_of io.paths caller.process.0 caller.regs.a)
step-gives Call.Read P caller io drives terms walk =
    read-left Call.Read P caller io terms walk refl Bytes I_READ (is_none (user_bytes caller.cells caller.regs.x caller.regs.y))
step-gives Call.ReadLn P caller io drives terms walk =
    read-left Call.ReadLn P caller io terms walk refl WholeLine I_READLN (is_none (user_bytes caller.cells caller.regs.x caller.regs.y))
step-gives Call.Write P caller io drives terms walk =
    send-left Call.Write P caller io terms walk refl (sent_bytes caller) I_WRITE (user_bytes caller.cells caller.regs.x caller.regs.y)
step-gives Call.WritLn P caller io drives terms walk =
    send-left Call.WritLn P caller io terms walk refl (sent_line caller) I_WRITLN (line_bytes caller (pending_at io caller.process.0))
step-gives Call.GetStt P caller io drives terms walk =
    get-left Call.GetStt P caller io terms walk (open_path io caller.process.0 caller.regs.a)
step-gives Call.SetStt P caller io drives terms walk =
    set-left Call.SetStt P caller io terms walk (open_path io caller.process.0 caller.regs.a)
step-gives Call.PErr P caller io drives terms walk = error-left Call.PErr P caller io terms walk refl
