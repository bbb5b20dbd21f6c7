-- What an attempt of a call on paths keeps, where it waits: each call by its code.
use Rattle.std.proofs.Common.{◌≡◌, ◌≢◌, ℕ, ◌+◌, ◌-◌, ◌<◌, ◌≤◌, ◌==◌, not, Bool, true, false, Option, Some, None, Result, Ok, Err, List, length, drop, refl, sym, ap, ◌∙◌, subst, arith}
use Rattle.std.specs.Prelude.{IsSomeAnd, is_none, min, option_and_then, option_map, unwrap_or, ◌||◌, if◌then◌else◌}
use Rattle.std.proofs.lemmas.Bool.{eqb-false}
use Rattle.std.proofs.lemmas.List.{length-drop}
use Rattle.std.proofs.lemmas.Option.{none-some, same_Some}
use Rattle.os9_base.specs.declared.calls.TheConstants.{I_READ, I_READLN, I_WRITE, I_WRITLN, F_PERR}
use Rattle.os9_base.specs.declared.errors.TheConstants.{E_BPADDR, E_BPNUM, E_BMODE, E_PTHFUL, E_NOTRDY, E_UNKSVC, E_EOF, E_WRITE}
use Rattle.os9_base.specs.declared.registers.Regs.{Regs}
use Rattle.os9_outer.specs.TerminalState.{TerminalState}
use Rattle.os9_base.specs.declared.name_fault.NameFault.{NameFault}
use Rattle.os9_base.specs.declared.name_fault.NameFault.TheVariants.{Unreadable, NoName}
use Rattle.proc_model.specs.UserBytes.{user_bytes}
use Rattle.io_model.specs.Pending.{count_left, is_complete, moved_on}
use Rattle.io_model.specs.Line.{has_return, line_length}
use Rattle.io_model.specs.Path.{desc_of, slot_of, free_number, new_number, paths_after_begin, paths_after_dup}
use Rattle.io_model.specs.Pipe.{answer_unmoved, bytes_moved, free_pipe, pipe_room, pipes_after_begin}
use Rattle.io_model.specs.declared.pending.PendingCall.{PendingCall}
use Rattle.io_model.specs.declared.path.Desc.{Desc}
use Rattle.io_model.specs.declared.path.SysPath.{SysPath}
use Rattle.io_model.specs.declared.path.Target.{Target}
use Rattle.io_model.specs.declared.path.Target.TheVariants.{File, Folder, Term, Pipe}
use Rattle.io_model.specs.declared.pipe.PipeAns.{PipeAns}
use Rattle.io_model.specs.declared.pipe.PipeAns.TheVariants as Ans
use Rattle.io_model.specs.declared.terminal.Progress.{Progress}
use Rattle.io_model.specs.declared.terminal.ReadKind.{ReadKind}
use Rattle.io_model.specs.declared.terminal.ReadKind.TheVariants.{Bytes, WholeLine}
use Rattle.io_model.specs.Again.{IsPending, KeepsCount, path_number}
use Rattle.io_model.specs.Alone.{is_alone}
use Rattle.io_model.specs.Attempts.{HasIoEffect, io_step}
use Rattle.io_model.specs.Close.{after_close}
use Rattle.io_model.specs.Codes.{direction_of_call, io_call_of}
use Rattle.io_model.specs.Io.{Io, OpenPath, pending_at, new_desc, open_path, pipe_bytes, with_paths, with_pipes}
use Rattle.io_model.specs.Lead.{Lead, to_terminal, to_pipe, nowhere, what_is_there, a_new_place, lead_of}
use Rattle.io_model.specs.Modes.{can_read, can_write, is_mode}
use Rattle.io_model.specs.Open.{begins, opened_regs, opens_lead, reads_list}
use Rattle.io_model.specs.PathList.{PathList, path_list}
use Rattle.io_model.specs.Pipes.{after_adding, after_taking, count_regs, read_end, read_line_end, write_end}
use Rattle.io_model.specs.Read.{reads_target}
use Rattle.io_model.specs.Status.{gets_end, gets_options, gets_ready, gets_status, options, ready_count}
use Rattle.io_model.specs.Step.{Caller, IoEffect, IoEnd, IoStep, answers, fails, keeps, refused, comes, reads, writes, needs, refuses, done, stores, TerminalRead, TerminalWrite}
use Rattle.io_model.specs.Terminals.{ReadsTerminal, WritesTerminal, read_ends, write_ends}
use Rattle.io_model.specs.Transfer.{call_now, first_call, on_path, unless_nothing}
use Rattle.io_model.specs.Write.{Sending, error_line, f_perr, line_bytes, sends_on, sent_bytes, sent_error, sent_line, writes_target}
use Rattle.io_model.specs.declared.io_call.Direction.TheVariants.{Reading, Writing}
use Rattle.io_model.specs.declared.io_call.IoCall.{IoCall}
use Rattle.io_model.specs.declared.io_call.IoCall.TheVariants as Call
use Rattle.io_model.specs.declared.modes.TheConstants.{STANDARD_ERROR}
use Rattle.io_model.specs.declared.status.TheConstants.{SS_OPT, SS_READY, SS_EOF, OPTION_BYTES}
use Rattle.call_laws.specs.Pending.{IsAllowedIfRead}
use Rattle.file_laws.proofs.Lengths.{LineLength, line-length, user-fits, user-length}

-- a path that is open is the image of its number
pub open-slot : (io : Io) (p n : ℕ) (opened : OpenPath) → open_path io p n ≡ Some opened → slot_of io.paths p n ≡ Some opened.path
open-slot io p n opened is = by_slot (slot_of io.paths p n) refl is
  where
    with_place : SysPath → Option Desc → Option OpenPath
    with_place s place = option_map (λ (desc : Desc). let r : OpenPath = record { path = s; desc = desc } in r) place

    by_desc : (s : SysPath) (place : Option Desc) → slot_of io.paths p n ≡ Some s → with_place s place ≡ Some opened → slot_of io.paths p n ≡ Some opened.path
    by_desc s None named is = absurd (none-some opened is)
    by_desc s (Some d) named is = named ∙ ap (λ (o : OpenPath). Some o.path) (same_Some (record { path = s; desc = d }) opened is)

    by_slot : (place : Option SysPath) → slot_of io.paths p n ≡ place → option_and_then (λ (s : SysPath). with_place s
        (desc_of io.paths s.0)) place ≡ Some opened → slot_of io.paths p n ≡ Some opened.path
    by_slot None named is = absurd (none-some opened is)
    by_slot (Some s) named is = by_desc s (desc_of io.paths s.0) named is

-- ---- what an attempt does

-- a call may wait, and this is kept of it then: it is not refused where it is attempted again
pub record MayWait (call : IoCall) (caller : Caller) (io : Io) (pending : PendingCall) : Type 0 where
  pub kept_is : IsPending call caller.regs io caller.process.0 pending
  pub stays : IsAllowedIfRead call caller.cells caller.regs io caller.process.0

-- where a call waits, this is kept of it, and the paths stay
abbrev pub EndKeeps : IoCall → Caller → Io → Io → IoEnd → Type 0
EndKeeps call caller io new (answers regs) = Unit {0}
EndKeeps call caller io new (fails number) = Unit {0}
EndKeeps call caller io new (keeps pending) = MayWait call caller io pending × (new.paths ≡ io.paths)

abbrev pub StepKeeps : IoCall → Caller → Io → IoStep → Type 0
StepKeeps call caller io (refused number) = Unit {0}
StepKeeps call caller io (comes effect) = EndKeeps call caller io effect.io effect.end
StepKeeps call caller io (reads read) = MayWait call caller io read.call
StepKeeps call caller io (writes write) = Unit {0}

-- a call of the process that waits is this one
abbrev pub Again : IoCall → Caller → Io → Type 0
Again call caller io =
    (pending : PendingCall) → pending_at io caller.process.0 ≡ Some pending → IsPending call caller.regs io caller.process.0 pending

module _ (call : IoCall) (caller : Caller) (io : Io) (again : Again call caller io) where
  abbrev Good : PendingCall → Type 0
  Good pending = IsPending call caller.regs io caller.process.0 pending

  -- a further attempt of it is not refused
  abbrev Stays : Type 0
  Stays = IsAllowedIfRead call caller.cells caller.regs io caller.process.0

  abbrev Ends : Io → IoEnd → Type 0
  Ends new end = EndKeeps call caller io new end

  abbrev Keeps : IoStep → Type 0
  Keeps step = StepKeeps call caller io step

  -- ---- the call as an attempt finds it

  -- its first attempt
  abbrev First : ℕ → Type 0
  First count = pending_at io caller.process.0 ≡ None → KeepsCount call caller.regs count × (0 < count)

  found-now : (code count : ℕ) (opened : OpenPath) → io_call_of code ≡ Some call → slot_of io.paths caller.process.0
      (path_number call caller.regs) ≡ Some opened.path → First count → Good (call_now caller io code opened count)
  found-now code count opened coded named first = by_kept (pending_at io caller.process.0) refl
    where
      by_kept : (place : Option PendingCall) → pending_at io caller.process.0 ≡ place → Good (unwrap_or place (first_call code opened count))
      by_kept (Some pending) is = again pending is
      by_kept None is = record { code = coded; path = named; count = (first is).0; unfinished = (first is).1 }

  -- its count
  found-count : (code count : ℕ) (opened : OpenPath) → ((pending : PendingCall) → pending_at io caller.process.0 ≡ Some pending → count ≡ pending.count) → count
      ≡ (call_now caller io code opened count).count
  found-count code count opened same = by_kept (pending_at io caller.process.0) refl
    where
      by_kept : (place : Option PendingCall) → pending_at io caller.process.0 ≡ place → count ≡ (unwrap_or place (first_call code opened count)).count
      by_kept (Some pending) is = same pending is
      by_kept None is = refl

  -- ---- attempts on a pipe

  moves-on : (now : PendingCall) (count : ℕ) → Good now → now.moved + count ≤ now.count → is_complete (moved_on now count) ≡ false → Good (moved_on now count)
  moves-on now count good few unfinished =
      let differ : now.moved + count ≢ now.count = eqb-false (now.moved + count) now.count unfinished in
      record {
        code = good.code;
        path = good.path;
        count = good.count;
        unfinished = below (now.moved + count) now.count few differ;
      }
    where
      below : (a b : ℕ) → a ≤ b → a ≢ b → a < b
      below a b few differ = omega arith

  read-ends : (pipe : ℕ) (now : PendingCall) (answer : PipeAns) → Good now → Stays → Ends (after_taking io pipe answer) (read_end caller now answer)
  read-ends pipe now (Ans.Done count) good stays = tt
  read-ends pipe now Ans.Wait good stays = (record { kept_is = good; stays = stays }, refl)
  read-ends pipe now Ans.End good stays = tt
  read-ends pipe now Ans.NoReader good stays = tt

  -- the answer of a line read
  abbrev line_answer : Bool → Bool → PendingCall → List ℕ → PipeAns
  line_answer empty alone now held =
      if empty then answer_unmoved alone Ans.End else Ans.Done (min (count_left now) (line_length held))

  line-ends : (pipe : ℕ) (now : PendingCall) (held : List ℕ) (empty alone : Bool) → Good now → Stays
      → Ends (after_taking io pipe (line_answer empty alone now held)) (read_line_end caller alone now
      (bytes_moved (line_answer empty alone now held) (pipe_bytes io pipe)) (line_answer empty alone now held))
  line-ends pipe now held true true good stays = by_moved (now.moved == 0)
    where
      by_moved : (none : Bool) → Ends (after_taking io pipe Ans.End) (if none then fails E_EOF else answers (count_regs caller now.moved))
      by_moved true = tt
      by_moved false = tt
  line-ends pipe now held true false good stays = (record { kept_is = good; stays = stays }, refl)
  line-ends pipe now held false alone good stays =
      by_tests (has_return (bytes_moved (Ans.Done count) (pipe_bytes io pipe))) (is_complete (moved_on now count)) alone refl
    where
      count : ℕ
      count = min (count_left now) (line_length held)

      by_tests : (return complete single : Bool)
          → is_complete (moved_on now (min (count_left now) (line_length held))) ≡ complete
          → Ends (after_taking io pipe (Ans.Done (min (count_left now) (line_length held))))
          (if return || (complete || single) then answers
          (count_regs caller (moved_on now (min (count_left now) (line_length held))).moved) else keeps
          (moved_on now (min (count_left now) (line_length held))))
      by_tests true complete single is = tt
      by_tests false true single is = tt
      by_tests false false true is = tt
      by_tests false false false is =
          let started = good.unfinished in
          (record { kept_is = moves-on now (min (count_left now) (line_length held)) good (omega arith) is; stays = stays }, refl)

  -- the answer of a write
  abbrev write_answered : Bool → Bool → List ℕ → List ℕ → PipeAns
  write_answered full alone held rest =
      if full then answer_unmoved alone Ans.NoReader else Ans.Done (min (length rest) (pipe_room held))

  write-ends : (pipe : ℕ) (now : PendingCall) (held rest : List ℕ) (regs : Regs) (full alone : Bool) → Good now → Stays
      → length rest ≡ now.count - now.moved → Ends (after_adding io pipe (write_answered full alone held rest) rest)
      (write_end alone now regs (write_answered full alone held rest))
  write-ends pipe now held rest regs true true good stays left = tt
  write-ends pipe now held rest regs true false good stays left = (record { kept_is = good; stays = stays }, refl)
  write-ends pipe now held rest regs false alone good stays left =
      by_tests (is_complete (moved_on now (min (length rest) (pipe_room held)))) alone refl
    where
      by_tests : (complete single : Bool) → is_complete (moved_on now (min (length rest) (pipe_room held))) ≡ complete
          → Ends (after_adding io pipe (Ans.Done (min (length rest) (pipe_room held))) rest)
          (if complete then answers regs else (if single then fails E_WRITE else keeps
          (moved_on now (min (length rest) (pipe_room held)))))
      by_tests true single is = tt
      by_tests false true is = tt
      by_tests false false is =
          let started = good.unfinished in
          (record { kept_is = moves-on now (min (length rest) (pipe_room held)) good (omega arith) is; stays = stays }, refl)

  -- ---- on what the path was opened on

  read-target : (kind : ReadKind) (now : PendingCall) (target : Target) → Good now → Stays → Keeps (reads_target kind caller io now target)
  read-target kind now (File drive sector) good stays = tt
  read-target kind now (Folder drive sector) good stays = tt
  read-target kind now (Term terminal) good stays = record { kept_is = good; stays = stays }
  read-target Bytes now (Pipe pipe) good stays = read-ends pipe now _ good stays
  read-target WholeLine now (Pipe pipe) good stays =
      line-ends pipe now (pipe_bytes io pipe) (length (pipe_bytes io pipe) == 0) (is_alone io caller.process.0 now.path.0 Reading) good stays

  write-target : (sending : Sending) (now : PendingCall) (target : Target) → Good now → Stays → length sending.bytes ≡ now.count → Keeps (writes_target sending caller io now target)
  write-target sending now (File drive sector) good stays counted = tt
  write-target sending now (Folder drive sector) good stays counted = tt
  write-target sending now (Term terminal) good stays counted = tt
  write-target sending now (Pipe pipe) good stays counted =
      let left : length (drop now.moved sending.bytes) ≡ now.count - now.moved = length-drop now.moved sending.bytes ∙ ap (λ (n : ℕ). n - now.moved) counted in
      write-ends pipe now (pipe_bytes io pipe) (drop now.moved sending.bytes) sending.regs (pipe_room (pipe_bytes io pipe) == 0) (is_alone io caller.process.0 now.path.0 Writing) good stays left

  -- ---- reads and writes

  path-keeps : (number : ℕ) (is_allowed : ℕ → Bool) (next : OpenPath → IoStep)
      → ((opened : OpenPath) → open_path io caller.process.0 number ≡ Some opened → is_allowed opened.desc.mode ≡ true
      → Keeps (next opened)) → Keeps (on_path caller io number is_allowed next)
  path-keeps number is_allowed next good = by_path (open_path io caller.process.0 number) refl
    where
      by_mode : (opened : OpenPath) → open_path io caller.process.0 number ≡ Some opened → (allowed : Bool)
          → is_allowed opened.desc.mode ≡ allowed → Keeps (refuses (not allowed) E_BMODE (next opened))
      by_mode opened is true may = good opened is may
      by_mode opened is false may = tt

      by_path : (opened : Option OpenPath) → open_path io caller.process.0 number ≡ opened → Keeps (needs opened E_BPNUM (λ opened. refuses (not (is_allowed opened.desc.mode)) E_BMODE (next opened)))
      by_path None is = tt
      by_path (Some opened) is = by_mode opened is (is_allowed opened.desc.mode) refl

  nothing-keeps : (next : IoStep) → (0 < caller.regs.y → Keeps next) → Keeps (unless_nothing caller io next)
  nothing-keeps next good = by_count (caller.regs.y == 0) refl
    where
      above : (n : ℕ) → n ≢ 0 → 0 < n
      above n differ = omega arith

      by_count : (none : Bool) → (caller.regs.y == 0) ≡ none → Keeps (if none then done caller.regs io else next)
      by_count true is = tt
      by_count false is = good (above caller.regs.y (eqb-false caller.regs.y 0 is))

  -- a read whose buffer is there, on a path that it may read
  stays-read : (bytes : List ℕ) (opened : OpenPath) → user_bytes caller.cells caller.regs.x caller.regs.y ≡ Some bytes
      → 0 < caller.regs.y → open_path io caller.process.0 caller.regs.a ≡ Some opened → can_read opened.desc.mode ≡
      true → Stays
  stays-read bytes opened there some is may way = record {
    named = user-fits caller.cells caller.regs.x caller.regs.y bytes some there;
    mode = subst (λ (opened : Option OpenPath). IsSomeAnd opened (λ opened. can_read opened.desc.mode ≡ true)) (sym is) may;
  }

  read-keeps : (kind : ReadKind) (code : ℕ) → io_call_of code ≡ Some call → path_number call caller.regs ≡
      caller.regs.a → KeepsCount call caller.regs caller.regs.y → (buffer : Option (List ℕ)) → user_bytes caller.cells
      caller.regs.x caller.regs.y ≡ buffer → Keeps (refuses (is_none buffer) E_BPADDR (on_path caller io caller.regs.a
      can_read (λ opened. unless_nothing caller io (reads_target kind caller io (call_now caller io code opened
      caller.regs.y) opened.desc.target))))
  read-keeps kind code coded at counts None there = tt
  read-keeps kind code coded at counts (Some bytes) there =
      path-keeps caller.regs.a can_read (λ opened. unless_nothing caller io (reads_target kind caller io (call_now caller io code opened caller.regs.y) opened.desc.target))
      (λ opened is may. nothing-keeps (reads_target kind caller io (call_now caller io code opened caller.regs.y) opened.desc.target)
      (λ some. read-target kind (call_now caller io code opened caller.regs.y) opened.desc.target
      (found-now code caller.regs.y opened coded (ap (slot_of io.paths caller.process.0) at ∙ open-slot io
      caller.process.0 caller.regs.a opened is) (λ first. (counts, some))) (stays-read bytes opened there some is
      may)))

  -- a write is no read
  stays-write : direction_of_call call ≡ Some Writing → Stays
  stays-write is way = absurd (let e : Some Writing ≡ Some Reading = sym is ∙ way in cc)

  -- what is known of bytes that are sent
  record Sent (bytes : List ℕ) : Type 0 where
    pub first : pending_at io caller.process.0 ≡ None → 0 < caller.regs.y → KeepsCount call caller.regs (length bytes) × (0 < length bytes)
    pub later : (pending : PendingCall) → pending_at io caller.process.0 ≡ Some pending → length bytes ≡ pending.count

  send-keeps : (sending : List ℕ → Sending) (code : ℕ) → direction_of_call call ≡ Some Writing → io_call_of code ≡
      Some call → path_number call caller.regs ≡ caller.regs.a → ((bytes : List ℕ) → (sending bytes).bytes ≡ bytes)
      → (bytes : Option (List ℕ)) → ((found : List ℕ) → bytes ≡ Some found → Sent found)
      → Keeps (needs bytes E_BPADDR (λ bytes. on_path caller io caller.regs.a can_write
      (λ opened. unless_nothing caller io (sends_on (sending bytes) code caller io opened))))
  send-keeps sending code way coded at same None sent = tt
  send-keeps sending code way coded at same (Some bytes) sent =
      path-keeps caller.regs.a can_write (λ opened. unless_nothing caller io (sends_on (sending bytes) code caller io opened))
      (λ opened is may. nothing-keeps (sends_on (sending bytes) code caller io opened)
      (λ some. write-target (sending bytes) (call_now caller io code opened (length (sending bytes).bytes)) opened.desc.target
      (found-now code (length (sending bytes).bytes) opened coded (ap (slot_of io.paths caller.process.0) at ∙ open-slot io caller.process.0 caller.regs.a opened is)
      (λ first. subst (λ (bytes : List ℕ). KeepsCount call caller.regs (length bytes) × (0 < length bytes)) (sym (same bytes)) ((sent bytes refl).first first some)))
      (stays-write way)
      (found-count code (length (sending bytes).bytes) opened (λ pending there. ap (length {A = ℕ}) (same bytes) ∙ (sent bytes refl).later pending there))))

  error-keeps : direction_of_call call ≡ Some Writing → path_number call caller.regs ≡ STANDARD_ERROR
      → io_call_of F_PERR ≡ Some call → ((pending : PendingCall) → pending_at io caller.process.0 ≡ Some pending
      → length (error_line caller.regs.b) ≡ pending.count) → KeepsCount call caller.regs
      (length (error_line caller.regs.b)) → Keeps (f_perr caller io)
  error-keeps way at coded later first =
      path-keeps STANDARD_ERROR can_write (λ opened. sends_on (sent_error caller) F_PERR caller io opened)
      (λ opened is may. write-target (sent_error caller) (call_now caller io F_PERR opened (length (sent_error caller).bytes)) opened.desc.target
      (found-now F_PERR (length (sent_error caller).bytes) opened coded (ap (slot_of io.paths caller.process.0) at ∙
      open-slot io caller.process.0 STANDARD_ERROR opened is) (λ none. (first, omega arith)))
      (stays-write way)
      (found-count F_PERR (length (sent_error caller).bytes) opened later))

  -- ---- calls that never wait

  dup-keeps : (path : Option SysPath) (free : Option ℕ)
      → Keeps (needs path E_BPNUM (λ path. needs free E_PTHFUL (λ number. done (record caller.regs { a = number })
      (with_paths io (paths_after_dup io.paths caller.process.0 caller.regs.a)))))
  dup-keeps None free = tt
  dup-keeps (Some path) None = tt
  dup-keeps (Some path) (Some number) = tt

  close-keeps : (path : Option SysPath) → Keeps (needs path E_BPNUM (λ path. done caller.regs (after_close io caller.process.0 caller.regs.a)))
  close-keeps None = tt
  close-keeps (Some path) = tt

  module _ (list : PathList) where
    begins-keeps : (before : Io) (desc : Desc) (number : Option ℕ)
        → Keeps (needs number E_PTHFUL (λ number. done (opened_regs caller.regs list number)
        (with_paths before (paths_after_begin before.paths caller.process.0 desc))))
    begins-keeps before desc None = tt
    begins-keeps before desc (Some number) = tt

    pipe-keeps : (pipe : Option ℕ) → Keeps (needs pipe E_PTHFUL (λ pipe. begins caller (with_pipes io (pipes_after_begin io.pipes)) list (new_desc (Pipe pipe) caller.regs.a)))
    pipe-keeps None = tt
    pipe-keeps (Some pipe) =
        begins-keeps (with_pipes io (pipes_after_begin io.pipes)) (new_desc (Pipe pipe) caller.regs.a) (new_number io.paths caller.process.0)

    lead-keeps : (lead : Lead) → Keeps (opens_lead caller io list lead)
    lead-keeps (to_terminal terminal) =
        begins-keeps io (new_desc (Term terminal) caller.regs.a) (new_number io.paths caller.process.0)
    lead-keeps to_pipe = pipe-keeps (free_pipe io.pipes)
    lead-keeps (nowhere number) = tt

  list-keeps : (lead : PathList → Lead) (list : Result PathList NameFault) (allowed : Bool) → Keeps (reads_list list allowed (λ list. opens_lead caller io list (lead list)))
  list-keeps lead (Ok list) true = lead-keeps list (lead list)
  list-keeps lead (Ok list) false = tt
  list-keeps lead (Err Unreadable) allowed = tt
  list-keeps lead (Err NoName) true = tt
  list-keeps lead (Err NoName) false = tt

  options-keeps : (target : Target) (is_missing : Bool) → Keeps (refuses is_missing E_BPADDR (comes (stores caller.regs.x (options target) (answers caller.regs) io)))
  options-keeps target true = tt
  options-keeps target false = tt

  ready-keeps : (target : Target) (none : Bool) → Keeps (refuses none E_NOTRDY (done (record caller.regs { b = min 255 (ready_count io target) }) io))
  ready-keeps target true = tt
  ready-keeps target false = tt

  status-by : (target : Target) (opt ready end : Bool) → Keeps (if opt then gets_options caller io target else
      (if ready then gets_ready caller io target else (if end then gets_end caller io target else refused E_UNKSVC)))
  status-by target true ready end = options-keeps target (is_none (user_bytes caller.cells caller.regs.x OPTION_BYTES))
  status-by target false true end = ready-keeps target (ready_count io target == 0)
  status-by target false false true = tt
  status-by target false false false = tt

  get-keeps : (opened : Option OpenPath) → Keeps (needs opened E_BPNUM (λ opened. gets_status caller io opened.desc.target caller.regs.b))
  get-keeps None = tt
  get-keeps (Some opened) =
      status-by opened.desc.target (caller.regs.b == SS_OPT) (caller.regs.b == SS_READY) (caller.regs.b == SS_EOF)

  set-keeps : (opened : Option OpenPath) → Keeps (needs opened E_BPNUM (λ opened. refused E_UNKSVC))
  set-keeps None = tt
  set-keeps (Some opened) = tt

-- the bytes of a write, and of a line write
bytes-sent : (caller : Caller) (io : Io) (again : Again Call.Write caller io) (bytes : List ℕ)
    → user_bytes caller.cells caller.regs.x caller.regs.y ≡ Some bytes → Sent Call.Write caller io again bytes
bytes-sent caller io again bytes is =
    let all : length bytes ≡ caller.regs.y = user-length caller.cells caller.regs.x caller.regs.y bytes is in
    record { first = λ none some. (all, omega (arith, all, some)); later = λ kept there. all ∙ sym (again kept there).count }

line-sent : (caller : Caller) (io : Io) (again : Again Call.WritLn caller io) (line : List ℕ) → line_bytes caller (pending_at io caller.process.0) ≡ Some line → Sent Call.WritLn caller io again line
line-sent caller io again line is = record {
  first = λ none some.
      let it : LineLength caller.regs.y line = line-length caller.cells caller.regs.x caller.regs.y line (sym (ap (line_bytes caller) none) ∙ is) in
      (it.few, it.some some);
  later =
      λ kept there. user-length caller.cells caller.regs.x kept.count line (sym (ap (line_bytes caller) there) ∙ is);
}

-- what an attempt of each call does
pub step-keeps : (call : IoCall) (caller : Caller) (io : Io) (drives terms : ℕ) → Again call caller io → StepKeeps call caller io (io_step call caller io drives terms)
step-keeps Call.Dup caller io drives terms again =
    dup-keeps Call.Dup caller io again (slot_of io.paths caller.process.0 caller.regs.a) (free_number io.paths caller.process.0)
step-keeps Call.Create caller io drives terms again =
    list-keeps Call.Create caller io again (λ list. lead_of a_new_place drives terms list) (path_list caller.cells caller.regs.x) (can_write caller.regs.a)
step-keeps Call.Open caller io drives terms again =
    list-keeps Call.Open caller io again (λ list. lead_of what_is_there drives terms list) (path_list caller.cells caller.regs.x) (is_mode caller.regs.a)
step-keeps Call.Close caller io drives terms again =
    close-keeps Call.Close caller io again (slot_of io.paths caller.process.0 caller.regs.a)
step-keeps Call.Read caller io drives terms again =
    read-keeps Call.Read caller io again Bytes I_READ refl refl refl (user_bytes caller.cells caller.regs.x caller.regs.y) refl
step-keeps Call.ReadLn caller io drives terms again =
    read-keeps Call.ReadLn caller io again WholeLine I_READLN refl refl refl (user_bytes caller.cells caller.regs.x caller.regs.y) refl
step-keeps Call.Write caller io drives terms again =
    send-keeps Call.Write caller io again (sent_bytes caller) I_WRITE refl refl refl (λ bytes. refl) (user_bytes caller.cells caller.regs.x caller.regs.y) (bytes-sent caller io again)
step-keeps Call.WritLn caller io drives terms again =
    send-keeps Call.WritLn caller io again (sent_line caller) I_WRITLN refl refl refl (λ bytes. refl) (line_bytes caller (pending_at io caller.process.0)) (line-sent caller io again)
step-keeps Call.GetStt caller io drives terms again =
    get-keeps Call.GetStt caller io again (open_path io caller.process.0 caller.regs.a)
step-keeps Call.SetStt caller io drives terms again =
    set-keeps Call.SetStt caller io again (open_path io caller.process.0 caller.regs.a)
step-keeps Call.PErr caller io drives terms again =
    error-keeps Call.PErr caller io again refl refl refl (λ kept there. sym (again kept there).count) refl

-- ---- what it leaves

module _ (call : IoCall) (caller : Caller) (io : Io) (before after : List TerminalState) where
  abbrev Kept_then : IoEffect → PendingCall → Type 0
  Kept_then effect pending = MayWait call caller io pending × (effect.io.paths ≡ io.paths)

  -- a read of a terminal
  read-waits : (read : TerminalRead) (effect : IoEffect) (pending : PendingCall) → MayWait call caller io read.call
      → ReadsTerminal caller io read effect before after → effect.end ≡ keeps pending → Kept_then effect pending
  read-waits read effect pending good it waits =
      (by_answer it.answer it.ends, ap (λ (effect : IoEffect). effect.io.paths) it.effect_is)
    where
      end_is : it.end ≡ keeps pending
      end_is = sym (ap (λ (effect : IoEffect). effect.end) it.effect_is) ∙ waits

      by_answer : (answer : Progress) → read_ends caller read answer ≡ Some it.end → MayWait call caller io pending
      by_answer (Progress.Done count) ends = absurd (let e : answers (count_regs caller count) ≡ keeps pending = same_Some (answers (count_regs caller count)) it.end ends ∙ end_is in cc)
      by_answer Progress.Wait ends =
          let e : keeps read.call ≡ keeps pending = same_Some (keeps read.call) it.end ends ∙ end_is in
          let same : read.call ≡ pending = cc in
          subst (MayWait call caller io) same good
      by_answer Progress.End ends = absurd (let e : fails E_EOF ≡ keeps pending = same_Some (fails E_EOF) it.end ends ∙ end_is in cc)
      by_answer Progress.Fault ends = absurd (let e : fails E_WRITE ≡ keeps pending = same_Some (fails E_WRITE) it.end ends ∙ end_is in cc)
      by_answer Progress.NoMemory ends = absurd (none-some it.end ends)

  -- a write never waits
  write-ends-at-once : (write : TerminalWrite) (effect : IoEffect) (pending : PendingCall) → WritesTerminal caller io write effect before after → effect.end ≡ keeps pending → ⊥
  write-ends-at-once write effect pending it waits = by_answer it.answer it.ends
    where
      end_is : it.end ≡ keeps pending
      end_is = sym (ap (λ (effect : IoEffect). effect.end) it.effect_is) ∙ waits

      by_answer : (answer : Progress) → write_ends write answer ≡ Some it.end → ⊥
      by_answer (Progress.Done count) ends = let e : answers write.regs ≡ keeps pending = same_Some (answers write.regs) it.end ends ∙ end_is in cc
      by_answer Progress.Wait ends = none-some it.end ends
      by_answer Progress.End ends = none-some it.end ends
      by_answer Progress.Fault ends = let e : fails E_WRITE ≡ keeps pending = same_Some (fails E_WRITE) it.end ends ∙ end_is in cc
      by_answer Progress.NoMemory ends = none-some it.end ends

  pub does-keep : (step : IoStep) (effect : IoEffect) (pending : PendingCall) → StepKeeps call caller io step → HasIoEffect step caller io effect before after → effect.end ≡ keeps pending
      → Kept_then effect pending
  does-keep (refused number) effect pending good (is, same) waits =
      absurd (let e : fails number ≡ keeps pending = sym (ap (λ (effect : IoEffect). effect.end) is) ∙ waits in cc)
  does-keep (comes it) effect pending good (is, same) waits =
      subst (EndKeeps call caller io effect.io) waits (subst (λ (effect : IoEffect). EndKeeps call caller io effect.io effect.end) (sym is) good)
  does-keep (reads read) effect pending good does waits = read-waits read effect pending good does waits
  does-keep (writes write) effect pending good does waits = absurd (write-ends-at-once write effect pending does waits)
