-- What each call on paths does where it is refused: each call by its code.
use Rattle.std.proofs.Common.{◌≡◌, ◌⊎◌, ℕ, zero, suc, ◌+◌, ◌≤◌, ◌==◌, not, Bool, true, false, Option, Some, None, IsSome, Result, Ok, Err, List, [], ◌∷◌, ◌++◌, length, take, drop, refl, sym, ap, ◌∙◌, subst, inl, inr, arith}
use Rattle.std.specs.Prelude.{IfSome, is_some, is_none, min, option_map, option_and_then, unwrap_or, ◌||◌, slice_set, if◌then◌else◌}
use Rattle.std.specs.Option.{option_map_or}
use Rattle.std.proofs.lemmas.Bool.{cases_lt, eqb-true, eqb-false, false≢true}
use Rattle.std.proofs.lemmas.List.{length-append, length-drop, length-take-le, set-get_or, take_min}
use Rattle.std.proofs.lemmas.Option.{none-some, same_Some}
use Rattle.file_laws.specs.Causes.{IsNoDrive}
use Rattle.os9_base.specs.Cells.{Cells}
use Rattle.os9_base.specs.declared.calls.TheConstants.{I_READ, I_READLN, I_WRITE, I_WRITLN, F_PERR}
use Rattle.os9_base.specs.declared.errors.TheConstants.{E_BMODE, E_BPADDR, E_BPNAM, E_BPNUM, E_EOF, E_MNF, E_NOTRDY, E_PTHFUL, E_UNKSVC, E_WRITE}
use Rattle.os9_base.specs.declared.registers.Regs.{Regs}
use Rattle.os9_outer.specs.TerminalState.{TerminalState}
use Rattle.device_table.specs.Names.{device_of}
use Rattle.device_table.specs.declared.devices.Dev.{Dev}
use Rattle.device_table.specs.declared.devices.Dev.TheVariants as Device
use Rattle.os9_base.specs.UserNames.{user_cell}
use Rattle.os9_base.specs.declared.name_fault.NameFault.{NameFault}
use Rattle.os9_base.specs.declared.name_fault.NameFault.TheVariants.{Unreadable, NoName}
use Rattle.proc_model.specs.UserBytes.{byte_before, user_bytes}
use Rattle.io_model.specs.Pending.{count_left, is_complete, moved_on}
use Rattle.io_model.specs.Line.{has_return, line_length}
use Rattle.io_model.specs.Path.{desc_of, free_number, free_path, new_number, paths_after_begin, paths_after_dup, slot_of}
use Rattle.io_model.specs.Pipe.{IsPipe, answer_unmoved, free_pipe, pipe_of, pipe_room, pipes_after_begin}
use Rattle.io_model.specs.declared.pending.PendingCall.{PendingCall}
use Rattle.io_model.specs.declared.path.Desc.{Desc}
use Rattle.io_model.specs.declared.path.SysPath.{SysPath}
use Rattle.io_model.specs.declared.path.Target.{Target}
use Rattle.io_model.specs.declared.path.Target.TheVariants.{File, Folder, Term, Pipe}
use Rattle.io_model.specs.declared.pipe.PipeAns.TheVariants as Ans
use Rattle.io_model.specs.declared.terminal.ReadKind.{ReadKind}
use Rattle.io_model.specs.declared.terminal.ReadKind.TheVariants.{Bytes, WholeLine}
use Rattle.io_model.specs.declared.terminal.TheConstants.{TYPE_AHEAD}
use Rattle.io_model.specs.Again.{IsAgain, IsPending, KeepsCount, path_number}
use Rattle.io_model.specs.Alone.{is_alone}
use Rattle.io_model.specs.Attempts.{io_step}
use Rattle.io_model.specs.Close.{after_close}
use Rattle.io_model.specs.Codes.{direction_of_call}
use Rattle.io_model.specs.Io.{Io, OpenPath, pending_at, new_desc, open_path, pipe_bytes, with_call, with_paths, with_pipe_bytes, with_pipes}
use Rattle.io_model.specs.Lead.{Lead, Search, to_terminal, to_pipe, nowhere, what_is_there, a_new_place, lead_by_device, lead_of, makes_dots, on_device, on_drive}
use Rattle.io_model.specs.Modes.{can_read, can_write, is_mode}
use Rattle.io_model.specs.Open.{begins, opened_regs, opens, opens_lead, reads_list}
use Rattle.io_model.specs.PathList.{PathList, has_slash_behind_device, path_list}
use Rattle.io_model.specs.Pipes.{count_regs, read_leaves, read_line_leaves, write_leaves}
use Rattle.io_model.specs.Read.{pipe_read, reads_path, reads_target}
use Rattle.io_model.specs.Status.{gets_end, gets_options, gets_ready, gets_status, options, ready_count}
use Rattle.io_model.specs.Step.{Caller, IoEnd, IoStep, answers, fails, keeps, refused, comes, reads, writes, needs, refuses, done, stores}
use Rattle.io_model.specs.Terminals.{request_of}
use Rattle.io_model.specs.Transfer.{call_now, first_call, on_path, unless_nothing}
use Rattle.io_model.specs.Write.{Sending, error_line, line_bytes, sends_on, sent_bytes, sent_error, sent_line, writes_target}
use Rattle.io_model.specs.declared.io_call.Direction.{Direction}
use Rattle.io_model.specs.declared.io_call.Direction.TheVariants.{Reading, Writing}
use Rattle.io_model.specs.declared.io_call.IoCall.{IoCall}
use Rattle.io_model.specs.declared.io_call.IoCall.TheVariants as Call
use Rattle.io_model.specs.declared.modes.TheConstants.{STANDARD_ERROR}
use Rattle.io_model.specs.declared.status.TheConstants.{SS_OPT, SS_READY, SS_EOF, OPTION_BYTES}
use Rattle.call_laws.specs.Causes.{IsFull, IsOn, IoBytesUnreadable, IoCallLacksMode, SearchesPathList, StatedCause, asked_by, bad_address, bad_mode, bad_path_name, bad_path_number, behind, device_at, dots, no_module, no_name, not_found, not_ready, numbers, path_table_full, paths, pipes, root, search_of, unknown_service}
use Rattle.call_laws.specs.Refusals.{FindsNoByte, FindsNoReader, IsRequest, kind_of, moved_before, on_pipe, path_of, put_by, sent_by}
use Rattle.call_laws.proofs.Gaps.{bytes-gap, list-breaks-off, names-nothing, sent-gap}

-- ---- small facts

-- an attempt that is done, or waits, is not refused
pub answered : (regs : Regs) (number : ℕ) → answers regs ≡ fails number → ⊥
answered regs number is = cc

pub kept-on : (pending : PendingCall) (number : ℕ) → keeps pending ≡ fails number → ⊥
kept-on pending number is = cc

-- the number of a refusal
abbrev number_of : IoEnd → ℕ
number_of (answers regs) = 0
number_of (fails number) = number
number_of (keeps pending) = 0

pub same-number : (m n : ℕ) → fails m ≡ fails n → n ≡ m
same-number m n is = sym (ap number_of is)

not-true : (b : Bool) → not b ≡ true → b ≡ false
not-true true is = absurd (false≢true is)
not-true false is = refl

is-nothing : {X : Type 0} (place : Option X) → is_none place ≡ true → place ≡ None
is-nothing None is = refl
is-nothing (Some x) is = absurd (false≢true is)

empty-list : (bytes : List ℕ) → (length bytes == 0) ≡ true → bytes ≡ []
empty-list [] is = refl
empty-list (byte ∷ bytes) is =
    let none : length (byte ∷ bytes) ≡ 0 = eqb-true (length (byte ∷ bytes)) 0 is in
    absurd (omega (arith, none))

-- so many bytes that are there are as many
user-length : (cells : Cells) (at count : ℕ) (bytes : List ℕ) → user_bytes cells at count ≡ Some bytes → length bytes ≡ count
user-length cells at zero bytes is = ap (length {A = ℕ}) (sym (same_Some [] bytes is))
user-length cells at (suc count) bytes is = by_byte (user_cell cells at) (user_bytes cells (at + 1) count) (user-length cells (at + 1) count) is
  where
    by_byte : (byte : Option ℕ) (rest : Option (List ℕ)) → ((bytes : List ℕ) → rest ≡ Some bytes → length bytes ≡ count) → byte_before byte rest ≡ Some bytes → length bytes ≡ suc count
    by_byte None rest long is = absurd (none-some bytes is)
    by_byte (Some byte) None long is = absurd (none-some bytes is)
    by_byte (Some byte) (Some rest) long is =
        sym (ap (length {A = ℕ}) (same_Some (byte ∷ rest) bytes is)) ∙ ap suc (long rest refl)

-- a pipe that is given as many bytes as it has room for is full
room-after : (held rest : List ℕ) → pipe_room held ≤ length rest → pipe_room (held ++ take (pipe_room held) rest) ≡ 0
room-after held rest few =
    let long : length (held ++ take (pipe_room held) rest) ≡ length held + length (take (pipe_room held) rest) = length-append held (take (pipe_room held) rest) in
    let taken : length (take (pipe_room held) rest) ≡ pipe_room held = length-take-le (pipe_room held) rest few in
    omega (arith, long, taken)

-- a write asks for as many bytes as it sends, and has moved no more
record Asks (caller : Caller) (io : Io) (bytes : List ℕ) : Type 0 where
  count : option_map_or (λ (pending : PendingCall). pending.count) (pending_at io caller.process.0) (length bytes) ≡ length bytes
  moved : moved_before caller io ≤ length bytes

asks-by : (call : IoCall) (caller : Caller) (io : Io) (bytes : List ℕ)
    → ((pending : PendingCall) → pending_at io caller.process.0 ≡ Some pending → KeepsCount call caller.regs pending.count
    → pending.count ≡ length bytes) → IsAgain call caller.regs io caller.process.0 → Asks caller io bytes
asks-by call caller io bytes all again =
    let it = by_kept (pending_at io caller.process.0) all again in record { count = it.0; moved = it.1 }
  where
    by_kept : (place : Option PendingCall) → ((pending : PendingCall) → place ≡ Some pending → KeepsCount call caller.regs pending.count
        → pending.count ≡ length bytes) → IfSome place (IsPending call caller.regs io caller.process.0)
        → (option_map_or (λ (pending : PendingCall). pending.count) place (length bytes) ≡ length bytes) ×
        (option_map_or (λ (pending : PendingCall). pending.moved) place 0 ≤ length bytes)
    by_kept None all again = (refl, omega arith)
    by_kept (Some pending) all again =
        let same : pending.count ≡ length bytes = all pending refl again.count in
        (same, omega (arith, again.unfinished, same))

line-bytes : WholeLine ≡ Bytes → ⊥
line-bytes is = cc

-- ---- what a step does

module _ (call : IoCall) (caller : Caller) (io : Io) (drives terms : ℕ) where
  abbrev pub Cause : ℕ → Type 0
  Cause number = StatedCause call caller io drives terms number

  -- what an attempt on a pipe leaves that is refused with this number
  abbrev pub PipeEnds : ℕ → Io → Type 0
  PipeEnds number new =
      (number ≡ E_EOF) × ((before after : List TerminalState) → after ≡ before → FindsNoByte call caller io new before after)
      ⊎ (number ≡ E_WRITE) × ((before after : List TerminalState) → after ≡ before → FindsNoReader call caller io new before after)

  -- a refusal has its cause, or is one of a pipe; a read and a write of a terminal are those of the call
  abbrev pub Known : IoStep → Type 0
  Known (refused number) = Cause number
  Known (comes effect) = (number : ℕ) → effect.end ≡ fails number → PipeEnds number (with_call effect.io caller.process.0 None)
  Known (reads read) = IsOn call caller io (Term read.terminal) × IsRequest call caller io (request_of caller read)
  Known (writes write) = IsOn call caller io (Term write.terminal) × ((bytes : List ℕ) × (sent_by call caller io ≡ Some bytes) × (write.put ≡ put_by call bytes))

  of-needs : {A : Type 0} (some : Option A) (number : ℕ) (next : A → IoStep) → (some ≡ None → Cause number) → ((a : A) → some ≡ Some a → Known (next a)) → Known (needs some number next)
  of-needs None number next none known = none refl
  of-needs (Some a) number next none known = known a refl

  of-refuses : (test : Bool) (number : ℕ) (next : IoStep) → (test ≡ true → Cause number) → (test ≡ false → Known next) → Known (refuses test number next)
  of-refuses true number next cause known = cause refl
  of-refuses false number next cause known = known refl

  done-known : (regs : Regs) (new : Io) → Known (done regs new)
  done-known regs new number is = absurd (answered regs number is)

  nothing-known : (nothing : Bool) (next : IoStep) → Known next → Known (if nothing then done caller.regs io else next)
  nothing-known true next known = done-known caller.regs io
  nothing-known false next known = known

  -- ---- the path of a number

  module _ (by_number : search_of call ≡ None) where
    path-none : open_path io caller.process.0 (path_number call caller.regs) ≡ None → Cause E_BPNUM
    path-none none = bad_path_number refl (record { names_one = by_number; none = none })

    slot-none : (n : ℕ) → path_number call caller.regs ≡ n → slot_of io.paths caller.process.0 n ≡ None → Cause E_BPNUM
    slot-none n at none =
        path-none (ap (open_path io caller.process.0) at ∙ ap (λ (place : Option SysPath). option_and_then
        (λ (s : SysPath). option_map (λ (desc : Desc). let it : OpenPath = record { path = s; desc = desc } in it)
        (desc_of io.paths s.0)) place) none)

    on-path-known : (n : ℕ) → path_number call caller.regs ≡ n → (is_allowed : ℕ → Bool) (next : OpenPath → IoStep)
        → ((opened : OpenPath) → open_path io caller.process.0 (path_number call caller.regs) ≡ Some opened
        → is_allowed opened.desc.mode ≡ false → IoCallLacksMode call caller io)
        → ((opened : OpenPath) → open_path io caller.process.0 (path_number call caller.regs) ≡ Some opened
        → Known (next opened)) → Known (on_path caller io n is_allowed next)
    on-path-known n at is_allowed next mode known =
        of-needs (open_path io caller.process.0 n) E_BPNUM (λ opened. refuses (not (is_allowed opened.desc.mode)) E_BMODE (next opened))
        (λ none. path-none (ap (open_path io caller.process.0) at ∙ none))
        (λ opened names. of-refuses (not (is_allowed opened.desc.mode)) E_BMODE (next opened)
        (λ lacks. bad_mode refl (mode opened (ap (open_path io caller.process.0) at ∙ names) (not-true (is_allowed opened.desc.mode) lacks)))
        (λ allowed. known opened (ap (open_path io caller.process.0) at ∙ names)))

  -- ---- where a path list leads

  module _ (search : Search) (looks : search_of call ≡ Some search) where
    some : IsSome (search_of call)
    some = subst (λ (search : Option Search). IsSome search) (sym looks) refl

    abbrev LeadKnown : PathList → Lead → Type 0
    LeadKnown list (to_terminal terminal) = Unit {0}
    LeadKnown list to_pipe = device_at drives terms list ≡ Some Device.Pipe
    LeadKnown list (nowhere number) = Cause number

    full : (number path : Option ℕ) → free_number io.paths caller.process.0 ≡ number → free_path io.paths ≡ path
        → option_and_then (λ (n : ℕ). option_map (λ (s : ℕ). n) path) number ≡ None → IsFull call caller io drives
        terms
    full None path number_is path_is none = numbers (inr some) number_is
    full (Some number) None number_is path_is none = paths some path_is
    full (Some number) (Some path) number_is path_is none = absurd (none-some number (sym none))

    begun-known : (list : PathList) (new : Io) → Known (needs (new_number io.paths caller.process.0) E_PTHFUL (λ number. done (opened_regs caller.regs list number) new))
    begun-known list new =
        of-needs (new_number io.paths caller.process.0) E_PTHFUL (λ number. done (opened_regs caller.regs list number) new)
        (λ none. path_table_full refl (full (free_number io.paths caller.process.0) (free_path io.paths) refl refl none))
        (λ number is. done-known (opened_regs caller.regs list number) new)

    module _ (list : PathList) (list_is : path_list caller.cells caller.regs.x ≡ Ok list) where
      looks_for : SearchesPathList call caller search list
      looks_for = record { search_is = looks; list_is = list_is }

      starts : {device : Dev} → device_at drives terms list ≡ Some device → IsSome list.device
      starts {device} at = by_name list.device refl
        where
          by_name : (name : Option (List ℕ)) → list.device ≡ name → IsSome name
          by_name None is =
              absurd (none-some device (sym (ap (λ (name : Option (List ℕ)). option_and_then (device_of drives terms) name) is) ∙ at))
          by_name (Some name) is = refl

      on-drive : (it : Search) → search ≡ it → (drive : ℕ) → device_at drives terms list ≡ Some (Device.Drive drive) → LeadKnown list (on_drive it list)
      on-drive what_is_there is drive at =
          no_module refl (record { search = search; list = list; looks = looks_for; starts = starts at; none = inr (drive, at) })
      on-drive a_new_place is drive at = by_names (length list.names == 0) refl
        where
          by_names : (none : Bool) → (length list.names == 0) ≡ none → Cause (if none then E_BPNAM else E_MNF)
          by_names true none =
              bad_path_name refl (root list drive (record { search_is = looks ∙ ap Some is; list_is = list_is }) at (eqb-true (length list.names) 0 none))
          by_names false none =
              no_module refl (record { search = search; list = list; looks = looks_for; starts = starts at; none = inr (drive, at) })

      behind-device : (device : Dev) → device_at drives terms list ≡ Some device → IsNoDrive device → (lead : Lead)
          → LeadKnown list lead → (slash : Bool) → has_slash_behind_device list ≡ slash
          → LeadKnown list (if slash then nowhere E_BPNAM else lead)
      behind-device device at other lead known true slash =
          bad_path_name refl (behind search list device looks_for at other slash)
      behind-device device at other lead known false slash = known

      by-device : (name : List ℕ) → list.device ≡ Some name → (device : Option Dev) → device_at drives terms list ≡ device → LeadKnown list (on_device search list device)
      by-device name named None at =
          no_module refl (record { search = search; list = list; looks = looks_for; starts = subst (λ (device : Option (List ℕ)). IsSome device) (sym named) refl; none = inl at })
      by-device name named (Some (Device.Drive drive)) at = on-drive search refl drive at
      by-device name named (Some (Device.Term terminal)) at =
          behind-device (Device.Term terminal) at tt (to_terminal terminal) tt (has_slash_behind_device list) refl
      by-device name named (Some Device.Pipe) at =
          behind-device Device.Pipe at tt to_pipe at (has_slash_behind_device list) refl

      by-name : (name : Option (List ℕ)) → list.device ≡ name → LeadKnown list (lead_by_device search drives terms list name)
      by-name None named =
          not_found refl (record { search = search; list = list; looks = looks_for; relative = named })
      by-name (Some name) named =
          by-device name named (device_of drives terms name) (ap (λ (name : Option (List ℕ)). option_and_then (device_of drives terms) name) named)

      lead-known : LeadKnown list (lead_of search drives terms list)
      lead-known = by_dots (makes_dots search list) refl
        where
          by_dots : (dotted : Bool) → makes_dots search list ≡ dotted → LeadKnown list (if dotted then nowhere E_BPNAM else lead_by_device search drives terms list list.device)
          by_dots true is = bad_path_name refl (dots search list looks_for is)
          by_dots false is = by-name list.device refl

      opens-known : (lead : Lead) → LeadKnown list lead → Known (opens_lead caller io list lead)
      opens-known (to_terminal terminal) known =
          begun-known list (with_paths io (paths_after_begin io.paths caller.process.0 (new_desc (Term terminal) caller.regs.a)))
      opens-known to_pipe known =
          of-needs (free_pipe io.pipes) E_PTHFUL (λ pipe. begins caller (with_pipes io (pipes_after_begin io.pipes)) list (new_desc (Pipe pipe) caller.regs.a))
          (λ none. path_table_full refl (pipes search list looks_for known none))
          (λ pipe is. begun-known list (with_paths (with_pipes io (pipes_after_begin io.pipes)) (paths_after_begin io.paths caller.process.0 (new_desc (Pipe pipe) caller.regs.a))))
      opens-known (nowhere number) known = known

    open-known : (allowed : Bool) → (allowed ≡ false → IoCallLacksMode call caller io)
        → (path_list caller.cells caller.regs.x ≡ Err Unreadable → IoBytesUnreadable call caller io)
        → Known (opens search allowed caller io drives terms)
    open-known allowed mode unreadable = by_list (path_list caller.cells caller.regs.x) refl
      where
        by_list : (list : Result PathList NameFault) → path_list caller.cells caller.regs.x ≡ list
            → Known (reads_list list allowed (λ list. opens_lead caller io list (lead_of search drives terms list)))
        by_list (Ok list) is =
            of-refuses (not allowed) E_BMODE (opens_lead caller io list (lead_of search drives terms list)) (λ no. bad_mode refl (mode (not-true allowed no)))
            (λ allows. opens-known list is (lead_of search drives terms list) (lead-known list is))
        by_list (Err Unreadable) is = bad_address refl (unreadable is)
        by_list (Err NoName) is =
            of-refuses (not allowed) E_BMODE (refused E_BPNAM) (λ no. bad_mode refl (mode (not-true allowed no)))
            (λ allows. bad_path_name refl (no_name some (names-nothing caller is)))

  -- ---- a pipe

  -- what is put back into a pipe that lives was there
  put-back : (pipe : ℕ) → IsPipe io.pipes pipe → with_pipe_bytes io pipe (pipe_bytes io pipe) ≡ io
  put-back pipe lives = by_place (pipe_of io.pipes pipe) refl
    where
      by_place : (place : Option (List ℕ)) → pipe_of io.pipes pipe ≡ place → with_pipe_bytes io pipe (pipe_bytes io pipe) ≡ io
      by_place None is =
          absurd (false≢true (subst (λ (place : Option (List ℕ)). IsSome place) is lives))
      by_place (Some bytes) is =
          let held : Some (pipe_bytes io pipe) ≡ pipe_of io.pipes pipe = ap (λ (place : Option (List ℕ)). Some (unwrap_or place [])) is ∙ sym is in
          ap (λ (place : Option (List ℕ)). with_pipes io (slice_set io.pipes pipe place)) held ∙ ap (with_pipes io) (set-get_or io.pipes pipe None)

  -- the call as an attempt finds it
  now-moved : (code count : ℕ) (opened : OpenPath) → (call_now caller io code opened count).moved ≡ moved_before caller io
  now-moved code count opened = by_kept (pending_at io caller.process.0)
    where
      by_kept : (place : Option PendingCall) → (unwrap_or place (first_call code opened count)).moved ≡ option_map_or (λ pending. pending.moved) place 0
      by_kept None = refl
      by_kept (Some pending) = refl

  now-path : (code count : ℕ) (opened : OpenPath) → (call_now caller io code opened count).path ≡ path_of caller io opened
  now-path code count opened = by_kept (pending_at io caller.process.0)
    where
      by_kept : (place : Option PendingCall) → (unwrap_or place (first_call code opened count)).path ≡ option_map_or (λ pending. pending.path) place opened.path
      by_kept None = refl
      by_kept (Some pending) = refl

  now-count : (code count : ℕ) (opened : OpenPath) → (call_now caller io code opened count).count ≡ option_map_or (λ (pending : PendingCall). pending.count) (pending_at io caller.process.0) count
  now-count code count opened = by_kept (pending_at io caller.process.0)
    where
      by_kept : (place : Option PendingCall) → (unwrap_or place (first_call code opened count)).count ≡ option_map_or (λ pending. pending.count) place count
      by_kept None = refl
      by_kept (Some pending) = refl

  now-asked : (code : ℕ) (opened : OpenPath) → (call_now caller io code opened caller.regs.y).count ≡ asked_by caller io
  now-asked code opened = by_kept (pending_at io caller.process.0)
    where
      by_kept : (place : Option PendingCall) → (unwrap_or place (first_call code opened caller.regs.y)).count ≡ option_map_or (λ pending. pending.count) place caller.regs.y
      by_kept None = refl
      by_kept (Some pending) = refl

  -- ---- reads

  module _ (by_number : search_of call ≡ None) (at_a : path_number call caller.regs ≡ caller.regs.a)
      (way : direction_of_call call ≡ Some Reading) (kind : ReadKind) (kind_is : kind_of call ≡ Some kind) (code : ℕ)
    where
      module _ (pipe : ℕ) (on : IsOn call caller io (Pipe pipe)) where
        -- the caller is alone, and has moved no byte of a line
        record IsEnded (now : PendingCall) : Type 0 where
          path : now.path ≡ path_of caller io on.opened
          alone : is_alone io caller.process.0 now.path.0 Reading ≡ true
          unmoved : call ≡ Call.ReadLn → moved_before caller io ≡ 0

        finds-none : (now : PendingCall) → IsEnded now → (length (pipe_bytes io pipe) == 0) ≡ true
            → (before after : List TerminalState) → after ≡ before → FindsNoByte call caller io
            (with_call (with_pipe_bytes io pipe (pipe_bytes io pipe)) caller.process.0 None) before after
        finds-none now ended empty before after same = record {
          pipe = pipe;
          on = on;
          reads = way;
          empty = empty-list (pipe_bytes io pipe) empty;
          alone =
              ap (λ (path : SysPath). is_alone io caller.process.0 path.0 Reading) (sym ended.path) ∙ ended.alone;
          unmoved = ended.unmoved;
          still =
              ap (λ (bytes : List ℕ). on_pipe io pipe bytes caller.process.0) (empty-list (pipe_bytes io pipe) empty);
          nothing =
              λ lives. record { now = ap (λ (io : Io). with_call io caller.process.0 None) (put-back pipe lives); same = same };
          same = same;
        }

        module _ (now : PendingCall) (path : now.path ≡ path_of caller io on.opened) (moved : now.moved ≡ moved_before caller io) where
          pipe-read-known : kind ≡ Bytes → (alone empty : Bool) → is_alone io caller.process.0 now.path.0 Reading ≡
              alone → (length (pipe_bytes io pipe) == 0) ≡ empty
              → Known (comes (read_leaves caller io pipe now (if empty then answer_unmoved alone Ans.End else Ans.Done
              (min now.count (length (pipe_bytes io pipe))))))
          pipe-read-known bytes true true alone empty number is =
              inl (same-number E_EOF number is, finds-none now (record { path = path; alone = alone; unmoved = no_line }) empty)
            where
              no_line : call ≡ Call.ReadLn → moved_before caller io ≡ 0
              no_line line =
                  absurd (line-bytes (same_Some WholeLine Bytes (sym (ap kind_of line) ∙ kind_is ∙ ap Some bytes)))
          pipe-read-known bytes false true alone empty number is = absurd (kept-on now number is)
          pipe-read-known bytes all false alone empty number is =
              absurd (answered (count_regs caller (min now.count (length (pipe_bytes io pipe)))) number is)

          pipe-line-known : (alone empty : Bool) → is_alone io caller.process.0 now.path.0 Reading ≡ alone
              → (length (pipe_bytes io pipe) == 0) ≡ empty
              → Known (comes (read_line_leaves caller io pipe now alone (if empty then answer_unmoved alone Ans.End else
              Ans.Done (min (count_left now) (line_length (pipe_bytes io pipe))))))
          pipe-line-known true true alone empty number is = by_moved (now.moved == 0) refl is
            where
              by_moved : (none : Bool) → (now.moved == 0) ≡ none
                  → (if none then fails E_EOF else answers (count_regs caller now.moved)) ≡ fails number
                  → PipeEnds number (with_call (with_pipe_bytes io pipe (pipe_bytes io pipe)) caller.process.0 None)
              by_moved true none is =
                  inl (same-number E_EOF number is, finds-none now (record { path = path; alone = alone; unmoved = λ line. sym moved ∙ eqb-true now.moved 0 none }) empty)
              by_moved false none is = absurd (answered (count_regs caller now.moved) number is)
          pipe-line-known false true alone empty number is = absurd (kept-on now number is)
          pipe-line-known all false alone empty number is =
              absurd (by_over (has_return (take count (pipe_bytes io pipe)) || (is_complete (moved_on now count) || all)) is)
            where
              count : ℕ
              count = min (count_left now) (line_length (pipe_bytes io pipe))

              by_over : (over : Bool) → (if over then answers (count_regs caller (moved_on now count).moved) else keeps (moved_on now count)) ≡ fails number → ⊥
              by_over true is = answered (count_regs caller (moved_on now count).moved) number is
              by_over false is = kept-on (moved_on now count) number is

          pipe-known : (it : ReadKind) → kind ≡ it → Known (comes (pipe_read it caller io pipe now))
          pipe-known Bytes is =
              pipe-read-known is (is_alone io caller.process.0 now.path.0 Reading) (length (pipe_bytes io pipe) == 0) refl refl
          pipe-known WholeLine is =
              pipe-line-known (is_alone io caller.process.0 now.path.0 Reading) (length (pipe_bytes io pipe) == 0) refl refl

      read-target-known : (opened : OpenPath) → open_path io caller.process.0 (path_number call caller.regs) ≡ Some
          opened → (target : Target) → opened.desc.target ≡ target
          → Known (reads_target kind caller io (call_now caller io code opened caller.regs.y) target)
      read-target-known opened names (File drive sector) is =
          unknown_service refl (inr (record { moves = ap (is_some {T = Direction}) way; drive = drive; sector = sector; on = inl (record { opened = opened; names = names; target_is = is }) }))
      read-target-known opened names (Folder drive sector) is =
          unknown_service refl (inr (record { moves = ap (is_some {T = Direction}) way; drive = drive; sector = sector; on = inr (record { opened = opened; names = names; target_is = is }) }))
      read-target-known opened names (Term terminal) is = (
        record { opened = opened; names = names; target_is = is },
        record { kind = kind_is; process = refl; most = ap (λ (count : ℕ). min count TYPE_AHEAD) (now-asked code opened) },
      )
      read-target-known opened names (Pipe pipe) is =
          pipe-known pipe (record { opened = opened; names = names; target_is = is }) (call_now caller io code opened caller.regs.y)
          (now-path code caller.regs.y opened) (now-moved code caller.regs.y opened) kind refl

      read-known : (user_bytes caller.cells caller.regs.x caller.regs.y ≡ None → IoBytesUnreadable call caller io)
          → ((opened : OpenPath) → open_path io caller.process.0 (path_number call caller.regs) ≡ Some opened
          → can_read opened.desc.mode ≡ false → IoCallLacksMode call caller io) → Known (reads_path kind code caller io)
      read-known unreadable mode =
          of-refuses (is_none (user_bytes caller.cells caller.regs.x caller.regs.y)) E_BPADDR (on_path caller io caller.regs.a can_read on_opened)
          (λ missing. bad_address refl (unreadable (is-nothing (user_bytes caller.cells caller.regs.x caller.regs.y) missing)))
          (λ there. on-path-known by_number caller.regs.a at_a can_read on_opened mode
          (λ opened names. nothing-known (caller.regs.y == 0) (reads_target kind caller io
          (call_now caller io code opened caller.regs.y) opened.desc.target) (read-target-known opened names
          opened.desc.target refl)))
        where
          on_opened : OpenPath → IoStep
          on_opened opened =
              unless_nothing caller io (reads_target kind caller io (call_now caller io code opened caller.regs.y) opened.desc.target)

  -- ---- writes

  module _ (by_number : search_of call ≡ None) (moves : IsSome (direction_of_call call)) (sending : Sending)
      (sends : sent_by call caller io ≡ Some sending.bytes) (puts : sending.put ≡ put_by call sending.bytes)
      (asks : IsAgain call caller.regs io caller.process.0 → Asks caller io sending.bytes) (code : ℕ) where
    module _ (opened : OpenPath) (names : open_path io caller.process.0 (path_number call caller.regs) ≡ Some opened) where
      abbrev now : PendingCall
      now = call_now caller io code opened (length sending.bytes)

      module _ (pipe : ℕ) (on : opened.desc.target ≡ Pipe pipe) where
        abbrev held : List ℕ
        held = pipe_bytes io pipe

        abbrev rest : List ℕ
        rest = drop now.moved sending.bytes

        finds-no-reader : is_alone io caller.process.0 now.path.0 Writing ≡ true → (moved : List ℕ)
            → moved ≡ take (pipe_room held) rest → (Asks caller io sending.bytes → pipe_room held ≤ length rest)
            → (before after : List TerminalState) → after ≡ before → FindsNoReader call caller io
            (with_call (with_pipe_bytes io pipe (held ++ moved)) caller.process.0 None) before after
        finds-no-reader alone moved moved_is few before after same = record {
          pipe = pipe;
          on = record { opened = opened; names = names; target_is = on };
          alone =
              ap (λ (path : SysPath). is_alone io caller.process.0 path.0 Writing) (sym (now-path code (length sending.bytes) opened)) ∙ alone;
          bytes = sending.bytes;
          sends = sends;
          now =
              ap (λ (moved : List ℕ). on_pipe io pipe (held ++ moved) caller.process.0)
              (moved_is ∙ ap (λ (before : ℕ). take (pipe_room held) (drop before sending.bytes))
              (now-moved code (length sending.bytes) opened));
          full =
              λ again. subst (λ (before : ℕ). pipe_room (held ++ take (pipe_room held) (drop before sending.bytes)) ≡
              0) (now-moved code (length sending.bytes) opened) (room-after held rest (few (asks again)));
          same = same;
        }

        as-many : (count : ℕ) → count ≡ min (length rest) (pipe_room held) → take count rest ≡ take (pipe_room held) rest
        as-many count is =
            let turned : count ≡ min (pipe_room held) (length rest) = omega (arith, is) in
            ap (λ (count : ℕ). take count rest) turned ∙ take_min (pipe_room held) rest

        -- what has not moved all that it sends has filled the pipe
        not-all : is_complete (moved_on now (min (length rest) (pipe_room held))) ≡ false → Asks caller io sending.bytes → pipe_room held ≤ length rest
        not-all over asks =
            elim (cases_lt (length rest) (pipe_room held)) [
              | inl less ↦ absurd (eqb-false (now.moved + min (length rest) (pipe_room held)) now.count over
                  (omega (
                    arith,
                    less,
                    asks.count,
                    asks.moved,
                    now-count code (length sending.bytes) opened,
                    now-moved
                        code (length sending.bytes) opened,
                    length-drop now.moved sending.bytes,
                  )))
              | inr past ↦ past
            ]

        pipe-write-known : (alone no_room : Bool) → is_alone io caller.process.0 now.path.0 Writing ≡ alone
            → (pipe_room held == 0) ≡ no_room
            → Known (comes (write_leaves io pipe now alone rest sending.regs (if no_room then answer_unmoved alone
            Ans.NoReader else Ans.Done (min (length rest) (pipe_room held)))))
        pipe-write-known true true alone none number is =
            inr (
              same-number E_WRITE number is,
              finds-no-reader alone [] (ap (λ (room : ℕ). take room rest)
                  (sym (eqb-true (pipe_room held) 0 none))) (λ asks. let room : pipe_room held ≡ 0 = eqb-true
                  (pipe_room held) 0 none in omega (arith, room)),
            )
        pipe-write-known false true alone none number is = absurd (kept-on now number is)
        pipe-write-known all false alone fits number is =
            by_over all alone (is_complete (moved_on now (min (length rest) (pipe_room held)))) refl is
          where
            by_over : (all : Bool) → is_alone io caller.process.0 now.path.0 Writing ≡ all → (over : Bool)
                → is_complete (moved_on now (min (length rest) (pipe_room held))) ≡ over
                → (if over then answers sending.regs else (if all then fails E_WRITE else keeps
                (moved_on now (min (length rest) (pipe_room held))))) ≡ fails number
                → PipeEnds number (with_call
                (with_pipe_bytes io pipe (held ++ take (min (length rest) (pipe_room held)) rest)) caller.process.0
                None)
            by_over all alone true over is = absurd (answered sending.regs number is)
            by_over true alone false over is =
                inr (same-number E_WRITE number is, finds-no-reader alone (take (min (length rest) (pipe_room held)) rest) (as-many (min (length rest) (pipe_room held)) refl) (not-all over))
            by_over false alone false over is =
                absurd (kept-on (moved_on now (min (length rest) (pipe_room held))) number is)

      write-target-known : (target : Target) → opened.desc.target ≡ target → Known (writes_target sending caller io now target)
      write-target-known (File drive sector) is =
          unknown_service refl (inr (record { moves = moves; drive = drive; sector = sector; on = inl (record { opened = opened; names = names; target_is = is }) }))
      write-target-known (Folder drive sector) is =
          unknown_service refl (inr (record { moves = moves; drive = drive; sector = sector; on = inr (record { opened = opened; names = names; target_is = is }) }))
      write-target-known (Term terminal) is =
          (record { opened = opened; names = names; target_is = is }, (sending.bytes, sends, puts))
      write-target-known (Pipe pipe) is =
          pipe-write-known pipe is (is_alone io caller.process.0 now.path.0 Writing) (pipe_room (pipe_bytes io pipe) == 0) refl refl

      sends-known : Known (sends_on sending code caller io opened)
      sends-known = write-target-known opened.desc.target refl

  -- the bytes are there, and are sent
  send-known : (by_number : search_of call ≡ None) (moves : IsSome (direction_of_call call))
      (at_a : path_number call caller.regs ≡ caller.regs.a) (sending : List ℕ → Sending) (code : ℕ)
      (sent : Option (List ℕ)) → ((bytes : List ℕ) → (sending bytes).bytes ≡ bytes) → (sent_by call caller io ≡ sent)
      → ((bytes : List ℕ) → (sending bytes).put ≡ put_by call (sending bytes).bytes)
      → ((bytes : List ℕ) → sent ≡ Some bytes → IsAgain call caller.regs io caller.process.0 → Asks caller io bytes)
      → (sent ≡ None → IoBytesUnreadable call caller io) → ((opened : OpenPath) → open_path io caller.process.0
      (path_number call caller.regs) ≡ Some opened → can_write opened.desc.mode ≡ false → IoCallLacksMode call caller io)
      → Known (needs sent E_BPADDR (λ bytes. on_path caller io caller.regs.a can_write
      (λ opened. unless_nothing caller io (sends_on (sending bytes) code caller io opened))))
  send-known by_number moves at_a sending code sent same sends puts asks unreadable mode =
      of-needs sent E_BPADDR (λ bytes. on_path caller io caller.regs.a can_write (λ opened. unless_nothing caller io (sends_on (sending bytes) code caller io opened)))
      (λ none. bad_address refl (unreadable none))
      (λ bytes is. on-path-known by_number caller.regs.a at_a can_write (λ opened. unless_nothing caller io (sends_on (sending bytes) code caller io opened)) mode
      (λ opened names. nothing-known (caller.regs.y == 0) (sends_on (sending bytes) code caller io opened)
      (sends-known by_number moves (sending bytes) (sends ∙ is ∙ ap Some (sym (same bytes))) (puts bytes)
      (λ again. subst (Asks caller io) (sym (same bytes)) (asks bytes is again)) code opened names)))

-- ---- each call

module _ (caller : Caller) (io : Io) (drives terms : ℕ) where
  cannot-read : (mode : ℕ) → can_read mode ≡ false → can_read mode ≡ true → ⊥
  cannot-read mode lacks can = false≢true (sym lacks ∙ can)

  cannot-write : (mode : ℕ) → can_write mode ≡ false → can_write mode ≡ true → ⊥
  cannot-write mode lacks can = false≢true (sym lacks ∙ can)

  dup-known : Known Call.Dup caller io drives terms (io_step Call.Dup caller io drives terms)
  dup-known =
      of-needs Call.Dup caller io drives terms (slot_of io.paths caller.process.0 caller.regs.a) E_BPNUM
      (λ path. needs (free_number io.paths caller.process.0) E_PTHFUL
      (λ number. done (record caller.regs { a = number })
      (with_paths io (paths_after_dup io.paths caller.process.0 caller.regs.a))))
      (slot-none Call.Dup caller io drives terms refl caller.regs.a refl)
      (λ path is. of-needs Call.Dup caller io drives terms (free_number io.paths caller.process.0) E_PTHFUL
      (λ number. done (record caller.regs { a = number })
      (with_paths io (paths_after_dup io.paths caller.process.0 caller.regs.a)))
      (λ none. path_table_full refl (numbers (inl refl) none))
      (λ number free. done-known Call.Dup caller io drives terms (record caller.regs { a = number }) (with_paths io (paths_after_dup io.paths caller.process.0 caller.regs.a))))

  close-known : Known Call.Close caller io drives terms (io_step Call.Close caller io drives terms)
  close-known =
      of-needs Call.Close caller io drives terms (slot_of io.paths caller.process.0 caller.regs.a) E_BPNUM (λ path. done caller.regs (after_close io caller.process.0 caller.regs.a))
      (slot-none Call.Close caller io drives terms refl caller.regs.a refl)
      (λ path is. done-known Call.Close caller io drives terms caller.regs (after_close io caller.process.0 caller.regs.a))

  -- the status of a path, by its code
  module _ (opened : OpenPath) (names : open_path io caller.process.0 caller.regs.a ≡ Some opened) where
    on-it : IsOn Call.GetStt caller io opened.desc.target
    on-it = record { opened = opened; names = names; target_is = refl }

    status-known : (opt ready end : Bool) → (caller.regs.b == SS_OPT) ≡ opt → (caller.regs.b == SS_READY) ≡ ready
        → (caller.regs.b == SS_EOF) ≡ end → Known Call.GetStt caller io drives terms (if opt then gets_options caller
        io opened.desc.target else (if ready then gets_ready caller io opened.desc.target else
        (if end then gets_end caller io opened.desc.target else refused E_UNKSVC)))
    status-known true ready end opt_is ready_is end_is =
        of-refuses Call.GetStt caller io drives terms (is_none (user_bytes caller.cells caller.regs.x OPTION_BYTES))
        E_BPADDR (comes (stores caller.regs.x (options opened.desc.target) (answers caller.regs) io))
        (λ missing. bad_address refl (
          eqb-true caller.regs.b SS_OPT opt_is,
          bytes-gap caller.cells caller.regs.x
              OPTION_BYTES (is-nothing (user_bytes caller.cells caller.regs.x OPTION_BYTES) missing),
        ))
        (λ there number is. absurd (answered caller.regs number is))
    status-known false true end opt_is ready_is end_is =
        of-refuses Call.GetStt caller io drives terms (ready_count io opened.desc.target == 0) E_NOTRDY (done (record caller.regs { b = min 255 (ready_count io opened.desc.target) }) io)
        (λ none. not_ready refl (record {
          asks = refl;
          code = eqb-true caller.regs.b SS_READY ready_is;
          target =
              opened.desc.target;
          on = on-it;
          none = eqb-true (ready_count io opened.desc.target) 0 none;
        }))
        (λ there. done-known Call.GetStt caller io drives terms (record caller.regs { b = min 255 (ready_count io opened.desc.target) }) io)
    status-known false false true opt_is ready_is end_is =
        done-known Call.GetStt caller io drives terms (record caller.regs { b = 0 }) io
    status-known false false false opt_is ready_is end_is = unknown_service refl (inl no_code)
      where
        no_code : (caller.regs.b ≡ SS_OPT) ⊎ (caller.regs.b ≡ SS_READY) ⊎ (caller.regs.b ≡ SS_EOF) → ⊥
        no_code (inl same) = eqb-false caller.regs.b SS_OPT opt_is same
        no_code (inr (inl same)) = eqb-false caller.regs.b SS_READY ready_is same
        no_code (inr (inr same)) = eqb-false caller.regs.b SS_EOF end_is same

  get-known : Known Call.GetStt caller io drives terms (io_step Call.GetStt caller io drives terms)
  get-known =
      of-needs Call.GetStt caller io drives terms (open_path io caller.process.0 caller.regs.a) E_BPNUM (λ opened. gets_status caller io opened.desc.target caller.regs.b)
      (path-none Call.GetStt caller io drives terms refl)
      (λ opened names. status-known opened names (caller.regs.b == SS_OPT) (caller.regs.b == SS_READY) (caller.regs.b == SS_EOF) refl refl refl)

  set-known : Known Call.SetStt caller io drives terms (io_step Call.SetStt caller io drives terms)
  set-known =
      of-needs Call.SetStt caller io drives terms (open_path io caller.process.0 caller.regs.a) E_BPNUM (λ opened. refused E_UNKSVC)
      (path-none Call.SetStt caller io drives terms refl)
      (λ opened names. unknown_service refl (inl tt))

  error-known : Known Call.PErr caller io drives terms (io_step Call.PErr caller io drives terms)
  error-known =
      on-path-known Call.PErr caller io drives terms refl STANDARD_ERROR refl can_write (λ opened. sends_on (sent_error caller) F_PERR caller io opened)
      (λ opened names lacks. (Writing, opened, refl, names, cannot-write opened.desc.mode lacks))
      (λ opened names. sends-known Call.PErr caller io drives terms refl refl (sent_error caller) refl refl
      (asks-by Call.PErr caller io (error_line caller.regs.b) (λ kept is count. count)) F_PERR opened names)

-- what an attempt of each call does
pub step-known : (call : IoCall) (caller : Caller) (io : Io) (drives terms : ℕ) → Known call caller io drives terms (io_step call caller io drives terms)
step-known Call.Dup caller io drives terms = dup-known caller io drives terms
step-known Call.Close caller io drives terms = close-known caller io drives terms
step-known Call.GetStt caller io drives terms = get-known caller io drives terms
step-known Call.SetStt caller io drives terms = set-known caller io drives terms
step-known Call.PErr caller io drives terms = error-known caller io drives terms
step-known Call.Open caller io drives terms =
    open-known Call.Open caller io drives terms what_is_there refl (is_mode caller.regs.a) (λ lacks. lacks) (list-breaks-off caller)
step-known Call.Create caller io drives terms =
    open-known Call.Create caller io drives terms a_new_place refl (can_write caller.regs.a) (λ lacks. lacks) (list-breaks-off caller)
step-known Call.Read caller io drives terms =
    read-known Call.Read caller io drives terms refl refl refl Bytes refl I_READ (bytes-gap caller.cells caller.regs.x caller.regs.y)
    (λ opened names lacks. (Reading, opened, refl, names, cannot-read caller io drives terms opened.desc.mode lacks))
step-known Call.ReadLn caller io drives terms =
    read-known Call.ReadLn caller io drives terms refl refl refl WholeLine refl I_READLN (bytes-gap caller.cells caller.regs.x caller.regs.y)
    (λ opened names lacks. (Reading, opened, refl, names, cannot-read caller io drives terms opened.desc.mode lacks))
step-known Call.Write caller io drives terms =
    send-known Call.Write caller io drives terms refl refl refl (sent_bytes caller) I_WRITE (user_bytes caller.cells caller.regs.x caller.regs.y) (λ bytes. refl) refl (λ bytes. refl)
    (λ bytes is. asks-by Call.Write caller io bytes (λ kept kept_is count. count ∙ sym (user-length caller.cells caller.regs.x caller.regs.y bytes is)))
    (bytes-gap caller.cells caller.regs.x caller.regs.y)
    (λ opened names lacks. (Writing, opened, refl, names, cannot-write caller io drives terms opened.desc.mode lacks))
step-known Call.WritLn caller io drives terms =
    send-known Call.WritLn caller io drives terms refl refl refl (sent_line caller) I_WRITLN (line_bytes caller (pending_at io caller.process.0)) (λ bytes. refl) refl (λ bytes. refl)
    (λ bytes is. asks-by Call.WritLn caller io bytes
    (λ kept kept_is count. sym (user-length caller.cells caller.regs.x kept.count bytes
    (subst (λ (place : Option PendingCall). line_bytes caller place ≡ Some bytes) kept_is is))))
    (λ none. (sent-gap caller io none, none))
    (λ opened names lacks. (Writing, opened, refl, names, cannot-write caller io drives terms opened.desc.mode lacks))
