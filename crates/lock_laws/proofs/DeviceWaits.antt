-- An attempt of a call on a terminal or a pipe leaves what calls wait for on another one.
use Rattle.std.proofs.Common.{◌≡◌, ◌≢◌, ◌⊎◌, ℕ, ◌+◌, ◌<◌, ◌≤◌, ◌==◌, ◌||◌, not, Bool, true, false, Option, Some, None, Result, Ok, Err, List, [], length, get_or, drop, position, refl, sym, ap, ◌∙◌, subst, inl, inr, arith}
use Rattle.std.specs.Prelude.{is_none, min, option_and_then, option_map, slice_index_or, slice_set, unwrap_or, if◌then◌else◌}
use Rattle.std.specs.List.{list_any}
use Rattle.std.specs.Option.{option_map_or}
use Rattle.std.proofs.lemmas.Bool.{cases_eq, cases_lt, false≢true, ne_eqb}
use Rattle.std.proofs.lemmas.List.{get_or-set_other, get_or-set_same, get_or_past, length-set}
use Rattle.std.proofs.lemmas.Grind.{get_or_after_one}
use Rattle.std.proofs.lemmas.List.Quantifiers.{position-Some}
use Rattle.std.proofs.lemmas.Option.{none-some, same_Some}
use Rattle.os9_base.specs.declared.calls.TheConstants.{F_PERR, I_READ, I_READLN, I_WRITE, I_WRITLN}
use Rattle.os9_base.specs.declared.errors.TheConstants.{E_BMODE, E_BPADDR, E_BPNAM, E_BPNUM, E_EOF, E_NOTRDY, E_PTHFUL, E_UNKSVC, E_WRITE}
use Rattle.os9_base.specs.declared.registers.Regs.{Regs}
use Rattle.os9_outer.specs.TerminalState.{TerminalState}
use Rattle.os9_sched.specs.declared.member.Cause.{Cause}
use Rattle.os9_base.specs.declared.name_fault.NameFault.{NameFault}
use Rattle.os9_base.specs.declared.name_fault.NameFault.TheVariants.{NoName, Unreadable}
use Rattle.proc_model.specs.UserBytes.{user_bytes}
use Rattle.io_model.specs.Pending.{count_left, is_complete, moved_on}
use Rattle.io_model.specs.Line.{has_return}
use Rattle.io_model.specs.Path.{PathTable, closed_desc, desc_of, free_number, free_path, holds_path, is_held, is_image, new_number, numbers_of, path_at, paths_after_begin, paths_after_close, paths_after_dup, slot_of, with_desc, with_path, with_slot}
use Rattle.io_model.specs.Pipe.{bytes_moved, free_pipe, held_bytes, pipe_of, pipes_after_begin, read_answer, read_line_answer, with_pipe, write_answer}
use Rattle.io_model.specs.Terminal.{Terminal, new_terminal}
use Rattle.io_model.specs.declared.pending.PendingCall.{PendingCall}
use Rattle.io_model.specs.declared.path.Desc.{Desc}
use Rattle.io_model.specs.declared.path.SysPath.{SysPath}
use Rattle.io_model.specs.declared.path.Target.{Target}
use Rattle.io_model.specs.declared.path.Target.TheVariants.{File, Folder, Pipe, Term}
use Rattle.io_model.specs.declared.pipe.PipeAns.{PipeAns}
use Rattle.io_model.specs.declared.pipe.PipeAns.TheVariants.{Done, End, NoReader, Wait}
use Rattle.io_model.specs.declared.terminal.Progress.{Progress}
use Rattle.io_model.specs.declared.terminal.ReadKind.{ReadKind}
use Rattle.io_model.specs.declared.terminal.ReadKind.TheVariants.{Bytes, WholeLine}
use Rattle.io_model.specs.Alone.{is_alone}
use Rattle.io_model.specs.Again.{path_number}
use Rattle.io_model.specs.Attempts.{HasIoEffect, io_step, pending_in}
use Rattle.io_model.specs.Close.{after_close, without_path, without_target}
use Rattle.io_model.specs.Io.{Io, OpenPath, pending_at, new_desc, open_path, pipe_bytes, terminal_at, with_paths, with_pipes, with_terminal}
use Rattle.io_model.specs.Lead.{Lead, a_new_place, lead_of, nowhere, to_pipe, to_terminal, what_is_there}
use Rattle.io_model.specs.Modes.{can_read, can_write, is_mode}
use Rattle.io_model.specs.Open.{begins, opened_regs, opens_lead, reads_list}
use Rattle.io_model.specs.PathList.{PathList, path_list}
use Rattle.io_model.specs.Pipes.{count_regs, line_end, line_ended, moved_end, read_end, read_line_end, write_end}
use Rattle.io_model.specs.Read.{reads_target}
use Rattle.io_model.specs.Status.{gets_end, gets_options, gets_ready, gets_status, options, ready_count}
use Rattle.io_model.specs.Step.{Caller, IoEffect, IoEnd, IoStep, TerminalRead, TerminalWrite, answers, comes, done, fails, keeps, needs, reads, refused, refuses, stores, writes}
use Rattle.io_model.specs.Terminals.{read_ends, write_ends}
use Rattle.io_model.specs.Transfer.{call_now, first_call, on_path, unless_nothing}
use Rattle.io_model.specs.Write.{Sending, line_bytes, sends_on, sent_bytes, sent_error, sent_line, writes_target}
use Rattle.io_model.specs.declared.io_call.Direction.TheVariants.{Reading, Writing}
use Rattle.io_model.specs.declared.io_call.IoCall.{IoCall}
use Rattle.io_model.specs.declared.io_call.IoCall.TheVariants as Call
use Rattle.io_model.specs.declared.status.TheConstants.{OPTION_BYTES, SS_EOF, SS_OPT, SS_READY}
use Rattle.file_laws.proofs.Keeps.{free-desc, free-slot}
use Rattle.lock_laws.specs.Touches.{NamesCause, cause_on}
use Rattle.lock_laws.proofs.Looked.{IsPathFor, any-set, no-image, opens}

-- ---- the path of a call that is kept

-- an attempt keeps a call on this path, if it keeps one
abbrev Keeps : SysPath → IoEnd → Type 0
Keeps path end = (pending : PendingCall) → pending_in end ≡ Some pending → pending.path ≡ path

keeps-none : (path : SysPath) (end : IoEnd) → pending_in end ≡ None → Keeps path end
keeps-none path end none kept is = absurd (none-some kept (sym none ∙ is))

keeps-call : (call : PendingCall) → Keeps call.path (keeps call)
keeps-call call pending is = ap (λ (pending : PendingCall). pending.path) (sym (same_Some call pending is))

read-keeps : (caller : Caller) (call : PendingCall) (answer : PipeAns) → Keeps call.path (read_end caller call answer)
read-keeps caller call (Done count) = keeps-none call.path (answers (count_regs caller count)) refl
read-keeps caller call Wait = keeps-call call
read-keeps caller call End = keeps-none call.path (fails E_EOF) refl
read-keeps caller call NoReader = keeps-none call.path (fails E_WRITE) refl

line-keeps : (caller : Caller) (alone : Bool) (call : PendingCall) (taken : List ℕ) → Keeps call.path (line_end caller alone call taken)
line-keeps caller alone call taken = by_over (has_return taken || (is_complete call || alone))
  where
    by_over : (over : Bool) → Keeps call.path (if over then answers (count_regs caller call.moved) else keeps call)
    by_over true = keeps-none call.path (answers (count_regs caller call.moved)) refl
    by_over false = keeps-call call

ended-keeps : (caller : Caller) (call : PendingCall) → Keeps call.path (line_ended caller call)
ended-keeps caller call = by_none (call.moved == 0)
  where
    by_none : (none : Bool) → Keeps call.path (if none then fails E_EOF else answers (count_regs caller call.moved))
    by_none true = keeps-none call.path (fails E_EOF) refl
    by_none false = keeps-none call.path (answers (count_regs caller call.moved)) refl

read_line-keeps : (caller : Caller) (alone : Bool) (call : PendingCall) (taken : List ℕ) (answer : PipeAns) → Keeps call.path (read_line_end caller alone call taken answer)
read_line-keeps caller alone call taken (Done count) = line-keeps caller alone (moved_on call count) taken
read_line-keeps caller alone call taken Wait = keeps-call call
read_line-keeps caller alone call taken End = ended-keeps caller call
read_line-keeps caller alone call taken NoReader = keeps-none call.path (fails E_WRITE) refl

moved-keeps : (alone : Bool) (call : PendingCall) (regs : Regs) → Keeps call.path (moved_end alone call regs)
moved-keeps alone call regs = by_over (is_complete call) alone
  where
    by_over : (over alone : Bool) → Keeps call.path (if over then answers regs else (if alone then fails E_WRITE else keeps call))
    by_over true alone = keeps-none call.path (answers regs) refl
    by_over false true = keeps-none call.path (fails E_WRITE) refl
    by_over false false = keeps-call call

write-keeps : (alone : Bool) (call : PendingCall) (regs : Regs) (answer : PipeAns) → Keeps call.path (write_end alone call regs answer)
write-keeps alone call regs (Done count) = moved-keeps alone (moved_on call count) regs
write-keeps alone call regs Wait = keeps-call call
write-keeps alone call regs End = keeps-none call.path (fails E_EOF) refl
write-keeps alone call regs NoReader = keeps-none call.path (fails E_WRITE) refl

-- ---- a pipe that is free, and a path that is named

is-nothing : {X : Type 0} (place : Option X) → is_none place ≡ true → place ≡ None
is-nothing None is = refl
is-nothing (Some x) is = absurd (false≢true is)

free-pipe : (pipes : List (Option (List ℕ))) (number : ℕ) → free_pipe pipes ≡ Some number → pipe_of pipes number ≡ None
free-pipe pipes number is = by_place (position is_none (drop 1 pipes)) refl is
  where
    by_place : (place : Option ℕ) → position is_none (drop 1 pipes) ≡ place → option_map (λ (k : ℕ). k + 1) place ≡ Some number → pipe_of pipes number ≡ None
    by_place None at is = absurd (none-some number is)
    by_place (Some i) at is =
        let found = position-Some is_none (drop 1 pipes) i None at in
        let same : 1 + i ≡ number = omega (arith, same_Some (i + 1) number is) in
        ap (pipe_of pipes) (sym same) ∙ sym (get_or_after_one pipes i None) ∙ is-nothing (get_or (drop 1 pipes) i None) found.1

pub path-slot : (io : Io) (p n : ℕ) (opened : OpenPath) → open_path io p n ≡ Some opened → slot_of io.paths p n ≡ Some opened.path
path-slot io p n opened is = by_slot (slot_of io.paths p n) refl is
  where
    with_place : SysPath → Option Desc → Option OpenPath
    with_place path place = option_map (λ (desc : Desc). let r : OpenPath = record { path = path; desc = desc } in r) place

    by_desc : (path : SysPath) → slot_of io.paths p n ≡ Some path → (place : Option Desc) → with_place path place ≡ Some opened → slot_of io.paths p n ≡ Some opened.path
    by_desc path named None is = absurd (none-some opened is)
    by_desc path named (Some desc) is =
        named ∙ ap (λ (opened : OpenPath). Some opened.path) (same_Some (record { path = path; desc = desc }) opened is)

    by_slot : (slot : Option SysPath) → slot_of io.paths p n ≡ slot
        → option_and_then (λ (s : SysPath). with_place s (desc_of io.paths s.0)) slot ≡ Some opened → slot_of io.paths p n ≡ Some opened.path
    by_slot None named is = absurd (none-some opened is)
    by_slot (Some path) named is = by_desc path named (desc_of io.paths path.0) is

-- ---- numbers of a process

module _ (io : Io) (p : ℕ) (cause : Cause) where
  pub free-image : (s number : ℕ) → free_number io.paths p ≡ Some number → is_image s (slot_of io.paths p number) ≡ false
  free-image s number free = ap (is_image s) (free-slot io.paths p number free)

  pub slot-holds : (paths : PathTable) → paths.own ≡ io.paths.own → (s number : ℕ) (path : Option SysPath) → is_image s path ≡ false
      → is_image s (slot_of io.paths p number) ≡ false → holds_path (with_slot paths p number path) p s ≡ holds_path io.paths p s
  slot-holds paths own s number path new old = by_place (cases_lt p (length paths.own))
    where
      numbers : numbers_of paths p ≡ numbers_of io.paths p
      numbers = ap (λ (own : List (List (Option SysPath))). slice_index_or own p []) own

      old_there : is_image s (get_or (numbers_of paths p) number None) ≡ false
      old_there = ap (λ (numbers : List (Option SysPath)). is_image s (get_or numbers number None)) numbers ∙ old

      by_place : (p < length paths.own) ⊎ (length paths.own ≤ p) → holds_path (with_slot paths p number path) p s ≡ holds_path io.paths p s
      by_place (inl within) =
          ap (λ (numbers : List (Option SysPath)). list_any (is_image s) numbers) (get_or-set_same paths.own p (slice_set (numbers_of paths p) number path) [] within)
          ∙ any-set (is_image s) (numbers_of paths p) number path None new old_there
          ∙ ap (λ (numbers : List (Option SysPath)). list_any (is_image s) numbers) numbers
      by_place (inr past) =
          ap (λ (numbers : List (Option SysPath)). list_any (is_image s) numbers)
          (get_or_past (with_slot paths p number path).own p [] (rw length-set past) ∙ sym (get_or_past paths.own p [] past) ∙ numbers)

  pub begin-holds : (desc : Desc) (s : ℕ) → IsPathFor cause io s → holds_path (paths_after_begin io.paths p desc) p s ≡ holds_path io.paths p s
  begin-holds desc s it = by_places (free_number io.paths p) (free_path io.paths) refl refl
    where
      by_places : (number path : Option ℕ) → free_number io.paths p ≡ number → free_path io.paths ≡ path
          → holds_path (option_map_or (λ n. option_map_or (with_path io.paths p desc n) path io.paths) number io.paths) p s ≡ holds_path io.paths p s
      by_places None path free_n free_s = refl
      by_places (Some number) None free_n free_s = refl
      by_places (Some number) (Some t) free_n free_s =
          slot-holds (with_desc io.paths t (Some desc)) refl s number (Some (record { 0 = t })) (ne_eqb t s differ) (free-image s number free_n)
        where
          differ : t ≡ s → ⊥
          differ at = none-some it.desc (sym (free-desc io.paths t free_s) ∙ ap (desc_of io.paths) at ∙ it.there)

-- ---- what is left

module _ (call : IoCall) (caller : Caller) (io : Io) (cause : Cause) (apart : NamesCause io caller.process.0 (path_number call caller.regs) cause → ⊥)
    (again : (pending : PendingCall) → pending_at io caller.process.0 ≡ Some pending → slot_of io.paths caller.process.0 (path_number call caller.regs) ≡ Some pending.path) where
  abbrev p : ℕ
  p = caller.process.0

  abbrev n : ℕ
  n = path_number call caller.regs

  -- the number of the call names a path on this
  abbrev IsOnNumber : Target → Type 0
  IsOnNumber target = (opened : OpenPath) × (open_path io p n ≡ Some opened) × (opened.desc.target ≡ target)

  not-on : (target : Target) → IsOnNumber target → cause_on target ≡ Some cause → ⊥
  not-on target (opened, named, on) is =
      apart (record { opened = opened; is = named; on = ap cause_on on ∙ is })

  -- the numbers of the process name the path as before
  abbrev Holds : PathTable → Type 0
  Holds paths = (s : ℕ) → IsPathFor cause io s → holds_path paths p s ≡ holds_path io.paths p s

  -- no pipe changes for which calls wait
  abbrev PipesStay : List (Option (List ℕ)) → Type 0
  PipesStay pipes = (k : ℕ) → cause ≡ Cause.Pipe k → held_bytes pipes k ≡ held_bytes io.pipes k

  abbrev KeepsNamed : IoEnd → Type 0
  KeepsNamed end = (pending : PendingCall) → pending_in end ≡ Some pending → slot_of io.paths p n ≡ Some pending.path

  pub record Left (it : IoEffect) : Type 0 where
    pub holds : Holds it.io.paths
    pub pipes : PipesStay it.io.pipes
    pub terminals : it.io.terminals ≡ io.terminals
    pub keeps : KeepsNamed it.end

  abbrev Stay : IoStep → Type 0
  Stay (refused number) = Unit {0}
  Stay (comes it) = Left it
  Stay (reads read) = IsOnNumber (Term read.terminal) × (slot_of io.paths p n ≡ Some read.call.path)
  Stay (writes write) = IsOnNumber (Term write.terminal)

  done-left : (regs : Regs) (new : Io) → Holds new.paths → PipesStay new.pipes → new.terminals ≡ io.terminals → Stay (done regs new)
  done-left regs new holds pipes terminals = record {
    holds = holds;
    pipes = pipes;
    terminals = terminals;
    keeps = λ pending is. absurd (none-some pending is);
  }

  same : (regs : Regs) → Stay (done regs io)
  same regs = done-left regs io (λ s it. refl) (λ k is. refl) refl

  needs-stay : {A : Type 0} (o : Option A) (number : ℕ) (next : A → IoStep) → ((a : A) → o ≡ Some a → Stay (next a)) → Stay (needs o number next)
  needs-stay None number next stay = tt
  needs-stay (Some a) number next stay = stay a refl

  refuses-stay : (test : Bool) (number : ℕ) (next : IoStep) → Stay next → Stay (refuses test number next)
  refuses-stay true number next stay = tt
  refuses-stay false number next stay = stay

  nothing-stay : (nothing : Bool) (next : IoStep) → Stay next → Stay (if nothing then done caller.regs io else next)
  nothing-stay true next stay = same caller.regs
  nothing-stay false next stay = stay

  path-stay : (is_allowed : ℕ → Bool) (next : OpenPath → IoStep) → ((opened : OpenPath) → open_path io p n ≡ Some opened → Stay (next opened)) → Stay (on_path caller io n is_allowed next)
  path-stay is_allowed next stay =
      needs-stay (open_path io p n) E_BPNUM (λ opened. refuses (not (is_allowed opened.desc.mode)) E_BMODE (next opened))
      (λ opened named. refuses-stay (not (is_allowed opened.desc.mode)) E_BMODE (next opened) (stay opened named))

  -- ---- numbers

  dup-holds : Holds (paths_after_dup io.paths p n)
  dup-holds s it = by_place (free_number io.paths p) refl
    where
      by_place : (free : Option ℕ) → free_number io.paths p ≡ free → holds_path (option_map_or (λ free. with_slot io.paths p free (slot_of io.paths p n)) free io.paths) p s ≡ holds_path io.paths p s
      by_place None free = refl
      by_place (Some number) free =
          slot-holds io p cause io.paths refl s number (slot_of io.paths p n) (no-image cause io p n s it apart) (free-image io p cause s number free)

  close-holds : Holds (paths_after_close io.paths p n)
  close-holds s it = by_holder (is_held (with_slot io.paths p n None) (path_at io.paths p n))
    where
      freed : holds_path (with_slot io.paths p n None) p s ≡ holds_path io.paths p s
      freed = slot-holds io p cause io.paths refl s n None refl (no-image cause io p n s it apart)

      by_holder : (held : Bool) → holds_path (if held then with_slot io.paths p n None else with_desc (with_slot io.paths p n None) (path_at io.paths p n) None) p s ≡ holds_path io.paths p s
      by_holder true = freed
      by_holder false = freed

  -- ---- pipes

  set-pipes : (k : ℕ) (bytes : Option (List ℕ)) → (cause ≡ Cause.Pipe k → ⊥) → PipesStay (slice_set io.pipes k bytes)
  set-pipes k bytes other m is =
      ap (λ (pipe : Option (List ℕ)). unwrap_or pipe [])
      (get_or-set_other io.pipes k m bytes None (λ same. other (is ∙ ap Cause.Pipe same)))

  -- a new pipe is empty, as one that was not there
  begin-pipes : PipesStay (pipes_after_begin io.pipes)
  begin-pipes k is = by_free (free_pipe io.pipes) refl
    where
      by_same : (number : ℕ) → pipe_of io.pipes number ≡ None → (k ≡ number) ⊎ (k ≢ number) → held_bytes (with_pipe io.pipes number []) k ≡ held_bytes io.pipes k
      by_same number none (inl same) =
          subst (λ (k : ℕ). held_bytes (with_pipe io.pipes number []) k ≡ held_bytes io.pipes k) (sym same)
          (by_place (cases_lt number (length io.pipes)) ∙ sym (ap (λ (pipe : Option (List ℕ)). unwrap_or pipe []) none))
        where
          by_place : (number < length io.pipes) ⊎ (length io.pipes ≤ number) → held_bytes (with_pipe io.pipes number []) number ≡ []
          by_place (inl within) =
              ap (λ (pipe : Option (List ℕ)). unwrap_or pipe []) (get_or-set_same io.pipes number (Some []) None within)
          by_place (inr past) =
              ap (λ (pipe : Option (List ℕ)). unwrap_or pipe []) (get_or_past (with_pipe io.pipes number []) number None (rw length-set past))
      by_same number none (inr differ) =
          ap (λ (pipe : Option (List ℕ)). unwrap_or pipe []) (get_or-set_other io.pipes number k (Some []) None differ)

      by_free : (free : Option ℕ) → free_pipe io.pipes ≡ free → held_bytes (option_map_or (λ number. with_pipe io.pipes number []) free io.pipes) k ≡ held_bytes io.pipes k
      by_free None free = refl
      by_free (Some number) free = by_same number (free-pipe io.pipes number free) (cases_eq k number)

  -- ---- I$Close

  slot-desc : (gone : Desc) → closed_desc io.paths p n ≡ Some gone → (path : SysPath) → slot_of io.paths p n ≡ Some path → open_path io p n ≡ Some (record { path = path; desc = gone })
  slot-desc gone is path named = opens io p n path gone named (by_holder (is_held (with_slot io.paths p n None) (path_at io.paths p n)) is)
    where
      by_holder : (held : Bool) → (if held then None else desc_of io.paths (path_at io.paths p n)) ≡ Some gone → desc_of io.paths path.0 ≡ Some gone
      by_holder true is = absurd (none-some gone is)
      by_holder false is =
          ap (λ (slot : Option SysPath). desc_of io.paths (option_map_or (λ (s : SysPath). s.0) slot 0)) (sym named) ∙ is

  close-stay : (path : SysPath) → slot_of io.paths p n ≡ Some path → Stay (done caller.regs (after_close io p n))
  close-stay path named = by_gone (closed_desc io.paths p n) refl
    where
      closed : Io
      closed = with_paths io (paths_after_close io.paths p n)

      by_target : (target : Target) → IsOnNumber target → Stay (done caller.regs (without_target closed target))
      by_target (File drive sector) on = done-left caller.regs closed close-holds (λ k is. refl) refl
      by_target (Folder drive sector) on = done-left caller.regs closed close-holds (λ k is. refl) refl
      by_target (Term terminal) on = done-left caller.regs closed close-holds (λ k is. refl) refl
      by_target (Pipe pipe) on =
          done-left caller.regs (without_target closed (Pipe pipe)) close-holds
          (set-pipes pipe None (λ is. not-on (Pipe pipe) on (ap (λ (cause : Cause). Some cause) (sym is)))) refl

      by_gone : (gone : Option Desc) → closed_desc io.paths p n ≡ gone → Stay (done caller.regs (without_path closed gone))
      by_gone None is = done-left caller.regs closed close-holds (λ k is. refl) refl
      by_gone (Some gone) is =
          by_target gone.target (record { path = path; desc = gone }, slot-desc gone is path named, refl)

  -- ---- I$Open and I$Create

  begins-stay : (before : Io) (list : PathList) (desc : Desc) → Holds (paths_after_begin before.paths p desc)
      → PipesStay before.pipes → before.terminals ≡ io.terminals → Stay (begins caller before list desc)
  begins-stay before list desc holds pipes terminals =
      needs-stay (new_number before.paths p) E_PTHFUL (λ number. done (opened_regs caller.regs list number) (with_paths before (paths_after_begin before.paths p desc)))
      (λ number free. done-left (opened_regs caller.regs list number) (with_paths before (paths_after_begin before.paths p desc)) holds pipes terminals)

  lead-stay : (list : PathList) (lead : Lead) → Stay (opens_lead caller io list lead)
  lead-stay list (to_terminal terminal) =
      begins-stay io list (new_desc (Term terminal) caller.regs.a) (begin-holds io p cause (new_desc (Term terminal) caller.regs.a)) (λ k is. refl) refl
  lead-stay list to_pipe =
      needs-stay (free_pipe io.pipes) E_PTHFUL
      (λ pipe. begins caller (with_pipes io (pipes_after_begin io.pipes)) list (new_desc (Pipe pipe) caller.regs.a))
      (λ pipe free. begins-stay (with_pipes io (pipes_after_begin io.pipes)) list (new_desc (Pipe pipe) caller.regs.a)
      (begin-holds io p cause (new_desc (Pipe pipe) caller.regs.a)) begin-pipes refl)
  lead-stay list (nowhere number) = tt

  list-stay : (list : Result PathList NameFault) (allowed : Bool) (lead : PathList → Lead) → Stay (reads_list list allowed (λ list. opens_lead caller io list (lead list)))
  list-stay (Ok list) allowed lead =
      refuses-stay (not allowed) E_BMODE (opens_lead caller io list (lead list)) (lead-stay list (lead list))
  list-stay (Err Unreadable) allowed lead = tt
  list-stay (Err NoName) allowed lead = refuses-stay (not allowed) E_BMODE (refused E_BPNAM) tt

  -- ---- reads and writes

  -- a call that goes on is on the path that its number names
  call-named : (opened : OpenPath) → open_path io p n ≡ Some opened → (code count : ℕ) → slot_of io.paths p n ≡ Some (call_now caller io code opened count).path
  call-named opened named code count = by_kept (pending_at io p) refl
    where
      by_kept : (pending : Option PendingCall) → pending_at io p ≡ pending → slot_of io.paths p n ≡ Some (unwrap_or pending (first_call code opened count)).path
      by_kept None is = path-slot io p n opened named
      by_kept (Some pending) is = again pending is

  pipe-left : (pipe : ℕ) → IsOnNumber (Pipe pipe) → (bytes : List ℕ) (call : PendingCall) → slot_of io.paths p n ≡ Some call.path → (end : IoEnd) → Keeps call.path end
      → (at : ℕ) (stored : List ℕ) → Left (record { end = end; at = at; bytes = stored; io = with_pipes io (with_pipe io.pipes pipe bytes) })
  pipe-left pipe on bytes call named end kept_so at stored = record {
    holds = λ s it. refl;
    pipes = set-pipes pipe (Some bytes) (λ is. not-on (Pipe pipe) on (ap (λ (cause : Cause). Some cause) (sym is)));
    terminals = refl;
    keeps = λ pending is. named ∙ ap (λ (path : SysPath). Some path) (sym (kept_so pending is));
  }

  read-target : (kind : ReadKind) (opened : OpenPath) → open_path io p n ≡ Some opened → (now : PendingCall) → slot_of io.paths p n ≡ Some now.path
      → (target : Target) → opened.desc.target ≡ target → Stay (reads_target kind caller io now target)
  read-target kind opened named now call (File drive sector) on = tt
  read-target kind opened named now call (Folder drive sector) on = tt
  read-target kind opened named now call (Term terminal) on = ((opened, named, on), call)
  read-target Bytes opened named now call (Pipe pipe) on =
      let answer = read_answer (pipe_bytes io pipe) (is_alone io p now.path.0 Reading) now.count in
      pipe-left pipe (opened, named, on) _ now call (read_end caller now answer) (read-keeps caller now answer) _ _
  read-target WholeLine opened named now call (Pipe pipe) on =
      let alone = is_alone io p now.path.0 Reading in
      let answer = read_line_answer (pipe_bytes io pipe) alone (count_left now) in
      pipe-left pipe (opened, named, on) _ now call (read_line_end caller alone now (bytes_moved answer (pipe_bytes io pipe)) answer)
      (read_line-keeps caller alone now (bytes_moved answer (pipe_bytes io pipe)) answer) _ _

  write-target : (sending : Sending) (opened : OpenPath) → open_path io p n ≡ Some opened → (now : PendingCall) → slot_of io.paths p n ≡ Some now.path
      → (target : Target) → opened.desc.target ≡ target → Stay (writes_target sending caller io now target)
  write-target sending opened named now call (File drive sector) on = tt
  write-target sending opened named now call (Folder drive sector) on = tt
  write-target sending opened named now call (Term terminal) on = (opened, named, on)
  write-target sending opened named now call (Pipe pipe) on =
      let alone = is_alone io p now.path.0 Writing in
      let answer = write_answer (pipe_bytes io pipe) alone (length (drop now.moved sending.bytes)) in
      pipe-left pipe (opened, named, on) _ now call (write_end alone now sending.regs answer) (write-keeps alone now sending.regs answer) 0 []

  -- ---- status

  status-by : (target : Target) (opt ready end : Bool) → Stay (if opt then gets_options caller io target else
      (if ready then gets_ready caller io target else (if end then gets_end caller io target else refused E_UNKSVC)))
  status-by target true ready end =
      refuses-stay (is_none (user_bytes caller.cells caller.regs.x OPTION_BYTES)) E_BPADDR (comes (stores caller.regs.x (options target) (answers caller.regs) io))
      (record { holds = λ s it. refl; pipes = λ k is. refl; terminals = refl; keeps = λ pending is. absurd (none-some pending is) })
  status-by target false true end =
      refuses-stay (ready_count io target == 0) E_NOTRDY (done (record caller.regs { b = min 255 (ready_count io target) }) io) (same _)
  status-by target false false true = same _
  status-by target false false false = tt

  -- ---- each call

  sends-stay : (sending : Sending) (code : ℕ) (opened : OpenPath) → open_path io p n ≡ Some opened → Stay (sends_on sending code caller io opened)
  sends-stay sending code opened named =
      write-target sending opened named (call_now caller io code opened (length sending.bytes)) (call-named opened named code (length sending.bytes)) opened.desc.target refl

  send-stay : (sending : List ℕ → Sending) (code : ℕ) (bytes : Option (List ℕ))
      → Stay (needs bytes E_BPADDR (λ bytes. on_path caller io n can_write (λ opened. unless_nothing caller io (sends_on (sending bytes) code caller io opened))))
  send-stay sending code None = tt
  send-stay sending code (Some bytes) =
      path-stay can_write (λ opened. unless_nothing caller io (sends_on (sending bytes) code caller io opened))
      (λ opened named. nothing-stay (caller.regs.y == 0) (sends_on (sending bytes) code caller io opened) (sends-stay (sending bytes) code opened named))

  read-stay : (kind : ReadKind) (code : ℕ) (missing : Bool)
      → Stay (refuses missing E_BPADDR (on_path caller io n can_read (λ opened. unless_nothing caller io
      (reads_target kind caller io (call_now caller io code opened caller.regs.y) opened.desc.target))))
  read-stay kind code missing =
      refuses-stay missing E_BPADDR (on_path caller io n can_read next)
      (path-stay can_read next (λ opened named. nothing-stay (caller.regs.y == 0) (target opened)
      (read-target kind opened named (call_now caller io code opened caller.regs.y) (call-named opened named code caller.regs.y) opened.desc.target refl)))
    where
      target : OpenPath → IoStep
      target opened = reads_target kind caller io (call_now caller io code opened caller.regs.y) opened.desc.target

      next : OpenPath → IoStep
      next opened = unless_nothing caller io (target opened)

-- ---- each call

-- the step of a call leaves what calls wait for, if its number is not on it
pub step-stay : (call : IoCall) (caller : Caller) (io : Io) (cause : Cause) (apart : NamesCause io caller.process.0 (path_number call caller.regs) cause → ⊥)
    → (again : (pending : PendingCall) → pending_at io caller.process.0 ≡ Some pending → slot_of io.paths caller.process.0 (path_number call caller.regs) ≡ Some pending.path)
    → (drives terms : ℕ) → Stay call caller io cause apart again (io_step call caller io drives terms)
step-stay Call.Dup caller io cause apart again drives terms =
    needs-stay Call.Dup caller io cause apart again (slot_of io.paths caller.process.0 caller.regs.a) E_BPNUM
    (λ path. needs (free_number io.paths caller.process.0) E_PTHFUL (λ number. done (record caller.regs { a = number })
    (with_paths io (paths_after_dup io.paths caller.process.0 caller.regs.a))))
    (λ path named. needs-stay Call.Dup caller io cause apart again (free_number io.paths caller.process.0) E_PTHFUL
    (λ number. done (record caller.regs { a = number }) (with_paths io (paths_after_dup io.paths caller.process.0 caller.regs.a)))
    (λ number free. done-left Call.Dup caller io cause apart again (record caller.regs { a = number })
    (with_paths io (paths_after_dup io.paths caller.process.0 caller.regs.a)) (dup-holds Call.Dup caller io cause apart again) (λ k is. refl) refl))
step-stay Call.Create caller io cause apart again drives terms =
    list-stay Call.Create caller io cause apart again (path_list caller.cells caller.regs.x) (can_write caller.regs.a) (λ list. lead_of a_new_place drives terms list)
step-stay Call.Open caller io cause apart again drives terms =
    list-stay Call.Open caller io cause apart again (path_list caller.cells caller.regs.x) (is_mode caller.regs.a) (λ list. lead_of what_is_there drives terms list)
step-stay Call.Close caller io cause apart again drives terms =
    needs-stay Call.Close caller io cause apart again (slot_of io.paths caller.process.0 caller.regs.a) E_BPNUM
    (λ path. done caller.regs (after_close io caller.process.0 caller.regs.a))
    (λ path named. close-stay Call.Close caller io cause apart again path named)
step-stay Call.Read caller io cause apart again drives terms =
    read-stay Call.Read caller io cause apart again Bytes I_READ (is_none (user_bytes caller.cells caller.regs.x caller.regs.y))
step-stay Call.ReadLn caller io cause apart again drives terms =
    read-stay Call.ReadLn caller io cause apart again WholeLine I_READLN (is_none (user_bytes caller.cells caller.regs.x caller.regs.y))
step-stay Call.Write caller io cause apart again drives terms =
    send-stay Call.Write caller io cause apart again (sent_bytes caller) I_WRITE (user_bytes caller.cells caller.regs.x caller.regs.y)
step-stay Call.WritLn caller io cause apart again drives terms =
    send-stay Call.WritLn caller io cause apart again (sent_line caller) I_WRITLN (line_bytes caller (pending_at io caller.process.0))
step-stay Call.GetStt caller io cause apart again drives terms =
    needs-stay Call.GetStt caller io cause apart again (open_path io caller.process.0 caller.regs.a) E_BPNUM (λ opened. gets_status caller io opened.desc.target caller.regs.b)
    (λ opened named. status-by Call.GetStt caller io cause apart again opened.desc.target (caller.regs.b == SS_OPT) (caller.regs.b == SS_READY) (caller.regs.b == SS_EOF))
step-stay Call.SetStt caller io cause apart again drives terms =
    needs-stay Call.SetStt caller io cause apart again (open_path io caller.process.0 caller.regs.a) E_BPNUM (λ opened. refused E_UNKSVC) (λ opened named. tt)
step-stay Call.PErr caller io cause apart again drives terms =
    path-stay Call.PErr caller io cause apart again can_write (λ opened. sends_on (sent_error caller) F_PERR caller io opened)
    (λ opened named. sends-stay Call.PErr caller io cause apart again (sent_error caller) F_PERR opened named)

-- ---- an attempt

module _ (call : IoCall) (caller : Caller) (io : Io) (cause : Cause) (apart : NamesCause io caller.process.0 (path_number call caller.regs) cause → ⊥)
    (again : (pending : PendingCall) → pending_at io caller.process.0 ≡ Some pending → slot_of io.paths caller.process.0 (path_number call caller.regs) ≡ Some pending.path) where
  -- what an attempt leaves
  pub record Leaves (it : IoEffect) : Type 0 where
    pub holds : Holds call caller io cause apart again it.io.paths
    pub pipes : PipesStay call caller io cause apart again it.io.pipes
    pub terminals : (m : ℕ) → cause ≡ Cause.Term m → terminal_at it.io m ≡ terminal_at io m
    pub keeps : KeepsNamed call caller io cause apart again it.end

  left-leaves : (it : IoEffect) → Left call caller io cause apart again it → Leaves it
  left-leaves it left = record {
    holds = left.holds;
    pipes = left.pipes;
    terminals = λ m is. ap (λ (terminals : List Terminal). slice_index_or terminals m new_terminal) left.terminals;
    keeps = left.keeps;
  }

  -- one terminal changes, on which the number of the call is
  terminal-leaves : (m : ℕ) → IsOnNumber call caller io cause apart again (Term m) → (new : Terminal) (end : IoEnd) → KeepsNamed call caller io cause apart again end
      → (at : ℕ) (bytes : List ℕ) → Leaves (record { end = end; at = at; bytes = bytes; io = with_terminal io m new })
  terminal-leaves m on new end kept_so at bytes = record {
    holds = λ s it. refl;
    pipes = λ k is. refl;
    terminals = λ t is. get_or-set_other io.terminals m t new new_terminal
        (λ same. not-on call caller io cause apart again (Term m) on (ap (λ (m : ℕ). Some (Cause.Term m)) (sym same) ∙ ap (λ (cause : Cause). Some cause) (sym is)));
    keeps = kept_so;
  }

  read-ends : (read : TerminalRead) → slot_of io.paths caller.process.0 (path_number call caller.regs) ≡ Some read.call.path → (answer : Progress) (end : IoEnd)
      → read_ends caller read answer ≡ Some end → KeepsNamed call caller io cause apart again end
  read-ends read named (Progress.Done count) end is pending there = absurd (none-some pending (ap pending_in (same_Some _ end is) ∙ there))
  read-ends read named Progress.Wait end is pending there =
      named ∙ ap (λ (pending : PendingCall). Some pending.path) (same_Some read.call pending (ap pending_in (same_Some (keeps read.call) end is) ∙ there))
  read-ends read named Progress.End end is pending there = absurd (none-some pending (ap pending_in (same_Some _ end is) ∙ there))
  read-ends read named Progress.Fault end is pending there = absurd (none-some pending (ap pending_in (same_Some _ end is) ∙ there))
  read-ends read named Progress.NoMemory end is pending there = absurd (none-some end is)

  write-ends : (write : TerminalWrite) (answer : Progress) (end : IoEnd) → write_ends write answer ≡ Some end → KeepsNamed call caller io cause apart again end
  write-ends write (Progress.Done count) end is pending there = absurd (none-some pending (ap pending_in (same_Some _ end is) ∙ there))
  write-ends write Progress.Wait end is pending there = absurd (none-some end is)
  write-ends write Progress.End end is pending there = absurd (none-some end is)
  write-ends write Progress.Fault end is pending there = absurd (none-some pending (ap pending_in (same_Some _ end is) ∙ there))
  write-ends write Progress.NoMemory end is pending there = absurd (none-some end is)

  does-leave : (step : IoStep) → Stay call caller io cause apart again step → (effect : IoEffect) (before after : List TerminalState) → HasIoEffect step caller io effect before after → Leaves effect
  does-leave (refused number) stay effect before after (is, same_terms) =
      subst Leaves (sym is) (record { holds = λ s it. refl; pipes = λ k is. refl; terminals = λ m is. refl; keeps = λ pending is. absurd (none-some pending is) })
  does-leave (comes it) stay effect before after (is, same_terms) = subst Leaves (sym is) (left-leaves it stay)
  does-leave (reads read) (on, named) effect before after does =
      subst Leaves (sym does.effect_is) (terminal-leaves read.terminal on does.new does.end (read-ends read named does.answer does.end does.ends) _ _)
  does-leave (writes write) on effect before after does =
      subst Leaves (sym does.effect_is) (terminal-leaves write.terminal on does.new does.end (write-ends write does.answer does.end does.ends) 0 [])

  pub attempt-leaves : (drives terms : ℕ) (effect : IoEffect) (before after : List TerminalState) → HasIoEffect (io_step call caller io drives terms) caller io effect before after → Leaves effect
  attempt-leaves drives terms effect before after does =
      does-leave (io_step call caller io drives terms) (step-stay call caller io cause apart again drives terms) effect before after does
