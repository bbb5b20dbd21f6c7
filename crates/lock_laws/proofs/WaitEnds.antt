-- The end of a process, a delivery to it and F$Fork leave what calls wait for on what they are not on.
use Rattle.std.proofs.Common.{◌≡◌, ◌⊎◌, ℕ, zero, suc, ◌<◌, ◌≤◌, ◌==◌, ◌&&◌, ◌||◌, not, Bool, true, false, Option, Some, None, List, [], ◌∷◌, length, get_or, map, refl, sym, ap, ◌∙◌, subst, inl, inr, arith}
use Rattle.std.specs.Prelude.{option_and_then, option_map, slice_index_or, unwrap_or, if◌then◌else◌}
use Rattle.std.specs.List.{list_any}
use Rattle.std.specs.Option.{option_map_or}
use Rattle.std.proofs.lemmas.Bool.{cases_lt, eqb-true, false≢true}
use Rattle.std.proofs.lemmas.List.{get_or-map, get_or-set_other, get_or-set_same, get_or_past, length-map, length-set}
use Rattle.std.proofs.lemmas.Option.{none-some}
use Rattle.os9_base.specs.declared.registers.Pid.{Pid}
use Rattle.os9_sched.specs.declared.member.Cause.{Cause}
use Rattle.io_model.specs.Path.{PathTable, closed_desc, desc_of, holds_path, inherited_numbers, is_held, is_image, numbers_of, path_at, paths_after_close, paths_after_inherit, slot_of, with_slot}
use Rattle.io_model.specs.Pipe.{held_bytes}
use Rattle.io_model.specs.Terminal.{Terminal, forgotten, is_process, is_taken, new_terminal, reader, released, without_reading}
use Rattle.io_model.specs.declared.pending.PendingCall.{PendingCall}
use Rattle.io_model.specs.declared.path.Desc.{Desc}
use Rattle.io_model.specs.declared.path.SysPath.{SysPath}
use Rattle.io_model.specs.declared.path.Target.{Target}
use Rattle.io_model.specs.declared.path.Target.TheVariants.{File, Folder, Pipe, Term}
use Rattle.io_model.specs.declared.path.TheConstants.{PROCESS_PATHS}
use Rattle.io_model.specs.declared.terminal.Reading.{Reading}
use Rattle.io_model.specs.Alone.{is_direction, is_in_wait}
use Rattle.io_model.specs.Close.{after_close, without_path, without_target}
use Rattle.io_model.specs.Codes.{direction_of}
use Rattle.io_model.specs.Io.{Io, pending_at, target_of, terminal_at, with_paths}
use Rattle.io_model.specs.Processes.{closed_below, closed_if_open, io_ended, io_started}
use Rattle.io_model.specs.Waiting.{cause_by, io_interrupted, may_read_terminal, pid, wait_target, without_unfinished}
use Rattle.io_model.specs.declared.io_call.Direction.{Direction}
use Rattle.lock_model.proofs.Chains.{any-found}
use Rattle.lock_laws.proofs.Descs.{Closes, Goes, closes-below, closes-ended, interrupted-paths}
use Rattle.call_laws.proofs.PathsKept.{io-ended, io-interrupted}
use Rattle.call_laws.proofs.KeptEvents.{interrupted-none}
use Rattle.lock_laws.specs.Touches.{NamesCause, cause_on}
use Rattle.lock_laws.proofs.Looked.{IsPathFor, StaysFor, is_there, names-by, no-image, opens, there-by}

-- ---- terminals

-- whether a process may read it, by what is there to be read
may-same : (q : ℕ) (old new : Terminal) → new.ahead ≡ old.ahead → new.reading ≡ old.reading → may_read_terminal q new ≡ may_read_terminal q old
may-same q old new ahead reading =
    ap (λ (keys : List ℕ). not (length keys == 0) && not (is_taken (pid q) new)) ahead
    ∙ ap (λ (place : Option Reading). not (length old.ahead == 0) && not (is_taken (pid q) (record old { reading = place }))) reading

-- a process lets go of a terminal of which it is no reader
released-same : (p : ℕ) (t : Terminal) → (reader t ≡ Some (pid p) → ⊥) → released (pid p) t ≡ t
released-same p t apart = by_reader (reader t) refl
  where
    by_same : (other : Pid) → reader t ≡ Some other → (same : Bool) → is_process (pid p) other ≡ same → (if same then without_reading t else t) ≡ t
    by_same other is true same = absurd (apart (is ∙ ap (λ (n : ℕ). Some (pid n)) (sym (eqb-true p other.0 same))))
    by_same other is false same = refl

    by_reader : (place : Option Pid) → reader t ≡ place → (if option_map_or (is_process (pid p)) place false then without_reading t else t) ≡ t
    by_reader None is = refl
    by_reader (Some other) is = by_same other is (is_process (pid p) other) refl

forgotten-may : (p q : ℕ) (t : Terminal) → (reader t ≡ Some (pid p) → ⊥) → may_read_terminal q (forgotten (pid p) t) ≡ may_read_terminal q t
forgotten-may p q t apart = by_user (option_map_or (is_process (pid p)) t.user false)
  where
    still : released (pid p) t ≡ t
    still = released-same p t apart

    by_user : (user : Bool) → may_read_terminal q (if user then record (released (pid p) t) { user = None } else released (pid p) t) ≡ may_read_terminal q t
    by_user true = ap (λ (t : Terminal). may_read_terminal q (record t { user = None })) still
    by_user false = ap (may_read_terminal q) still

-- ---- the end of a process

holds-some : (paths : PathTable) (p s : ℕ) → holds_path paths p s ≡ true → (n : ℕ) × (path : SysPath) × (slot_of paths p n ≡ Some path) × (path.0 ≡ s)
holds-some paths p s is =
    let (n, found) = any-found (is_image s) (numbers_of paths p) None is in by_slot n (slot_of paths p n) refl found
  where
    by_slot : (n : ℕ) (slot : Option SysPath) → slot_of paths p n ≡ slot → is_image s slot ≡ true → (n : ℕ) × (path : SysPath) × (slot_of paths p n ≡ Some path) × (path.0 ≡ s)
    by_slot n None named found = absurd (false≢true found)
    by_slot n (Some path) named found = (n, path, named, eqb-true path.0 s found)

module _ (p : ℕ) (io : Io) (cause : Cause) (paths_apart : (n : ℕ) → NamesCause io p n cause → ⊥) where
  -- the process does not hold the path
  holds-none : (s : ℕ) → IsPathFor cause io s → holds_path io.paths p s ≡ false
  holds-none s it = by_holds (holds_path io.paths p s) refl
    where
      by_holds : (holds : Bool) → holds_path io.paths p s ≡ holds → holds ≡ false
      by_holds false is = refl
      by_holds true is =
          let (n, path, named, at) = holds-some io.paths p s is in
          absurd (paths_apart n (names-by cause io p n path s it named at))

  ended-holds : (s : ℕ) → IsPathFor cause io s → holds_path (io_ended io p).paths p s ≡ false
  ended-holds s it = by_holds (holds_path (io_ended io p).paths p s) refl
    where
      by_holds : (holds : Bool) → holds_path (io_ended io p).paths p s ≡ holds → holds ≡ false
      by_holds false is = refl
      by_holds true is =
          let (n, path, named, at) = holds-some (io_ended io p).paths p s is in
          absurd (paths_apart n (names-by cause io p n path s it ((closes-ended p io).slots n path named) at))

  -- no pipe ends for which calls wait
  module _ (k : ℕ) (on : cause ≡ Cause.Pipe k) where
    abbrev Still : Io → Type 0
    Still new = held_bytes new.pipes k ≡ held_bytes io.pipes k

    -- a path that the process closes is none on the pipe
    target-still : (before : Io) (target : Target) → Still before → (cause_on target ≡ Some cause → ⊥) → Still (without_target before target)
    target-still before (File drive sector) still other = still
    target-still before (Folder drive sector) still other = still
    target-still before (Term terminal) still other = still
    target-still before (Pipe pipe) still other =
        ap (λ (pipe : Option (List ℕ)). unwrap_or pipe [])
        (get_or-set_other before.pipes pipe k None None (λ same. other (ap (λ (k : ℕ). Some (Cause.Pipe k)) (sym same) ∙ ap (λ (cause : Cause). Some cause) (sym on))))
        ∙ still

    close-still : (before : Io) → Closes p io.paths before.paths → Still before → (n : ℕ) (path : SysPath) → slot_of before.paths p n ≡ Some path → Still (after_close before p n)
    close-still before closes still n path named = by_gone (closed_desc before.paths p n) refl
      where
        closed : Io
        closed = with_paths before (paths_after_close before.paths p n)

        was-open : (gone : Desc) → desc_of before.paths path.0 ≡ Some gone → cause_on gone.target ≡ Some cause → ⊥
        was-open gone there is = by_desc (closes.descs path.0)
          where
            by_desc : (desc_of before.paths path.0 ≡ desc_of io.paths path.0) ⊎ Goes p io.paths before.paths path.0 → ⊥
            by_desc (inl same) =
                paths_apart n (record { opened = record { path = path; desc = gone }; is = opens io p n path gone (closes.slots n path named) (sym same ∙ there); on = is })
            by_desc (inr (none, has)) = none-some gone (sym none ∙ there)

        desc-there : (gone : Desc) → closed_desc before.paths p n ≡ Some gone → desc_of before.paths path.0 ≡ Some gone
        desc-there gone is = by_holder (is_held (with_slot before.paths p n None) (path_at before.paths p n)) is
          where
            by_holder : (held : Bool) → (if held then None else desc_of before.paths (path_at before.paths p n)) ≡ Some gone → desc_of before.paths path.0 ≡ Some gone
            by_holder true is = absurd (none-some gone is)
            by_holder false is =
                ap (λ (slot : Option SysPath). desc_of before.paths (option_map_or (λ (s : SysPath). s.0) slot 0)) (sym named) ∙ is

        by_gone : (gone : Option Desc) → closed_desc before.paths p n ≡ gone → Still (without_path closed gone)
        by_gone None is = still
        by_gone (Some gone) is = target-still closed gone.target still (was-open gone (desc-there gone is))

    if-still : (before : Io) → Closes p io.paths before.paths → Still before → (n : ℕ) (path : Option SysPath) → slot_of before.paths p n ≡ path → Still (closed_if_open before p n path)
    if-still before closes still n None named = still
    if-still before closes still n (Some path) named = close-still before closes still n path named

    below-still : (n : ℕ) → Still (closed_below io p n)
    below-still zero = refl
    below-still (suc n) =
        if-still (closed_below io p n) (closes-below p io n) (below-still n) n (slot_of (closed_below io p n).paths p n) refl

  -- terminals are not changed by what is closed
  target-terminals : (before : Io) (target : Target) → (without_target before target).terminals ≡ before.terminals
  target-terminals before (File drive sector) = refl
  target-terminals before (Folder drive sector) = refl
  target-terminals before (Term terminal) = refl
  target-terminals before (Pipe pipe) = refl

  gone-terminals : (before : Io) (gone : Option Desc) → (without_path before gone).terminals ≡ before.terminals
  gone-terminals before None = refl
  gone-terminals before (Some desc) = target-terminals before desc.target

  if-terminals : (before : Io) (n : ℕ) (path : Option SysPath) → (closed_if_open before p n path).terminals ≡ before.terminals
  if-terminals before n None = refl
  if-terminals before n (Some path) =
      gone-terminals (with_paths before (paths_after_close before.paths p n)) (closed_desc before.paths p n)

  below-terminals : (n : ℕ) → (closed_below io p n).terminals ≡ io.terminals
  below-terminals zero = refl
  below-terminals (suc n) =
      if-terminals (closed_below io p n) n (slot_of (closed_below io p n).paths p n) ∙ below-terminals n

  mapped : (terminals : List Terminal) (m : ℕ) → slice_index_or (map (forgotten (pid p)) terminals) m new_terminal ≡ forgotten (pid p) (slice_index_or terminals m new_terminal)
  mapped terminals m =
      elim (cases_lt m (length terminals)) [
        | inl within ↦ get_or-map (forgotten (pid p)) terminals m new_terminal new_terminal within
        | inr past ↦ get_or_past (map (forgotten (pid p)) terminals) m new_terminal (rw length-map past) ∙ ap (forgotten (pid p)) (sym (get_or_past terminals m new_terminal past))
      ]

  ended-terminal : (m : ℕ) → terminal_at (io_ended io p) m ≡ forgotten (pid p) (terminal_at io m)
  ended-terminal m =
      ap (λ (terminals : List Terminal). slice_index_or (map (forgotten (pid p)) terminals) m new_terminal) (below-terminals PROCESS_PATHS) ∙ mapped io.terminals m

  pub ended-stays : ((n : ℕ) → reader (terminal_at io n) ≡ Some (pid p) → cause ≡ Cause.Term n → ⊥)
      → ((pending : PendingCall) → pending_at io p ≡ Some pending → (n : ℕ) × (slot_of io.paths p n ≡ Some pending.path)) → StaysFor cause io (io_ended io p)
  ended-stays reads named = record {
    terminal = λ m q is. ap (may_read_terminal q) (ended-terminal m) ∙ forgotten-may p q (terminal_at io m) (λ reader. reads m reader is);
    pipe = λ k is. below-still k is PROCESS_PATHS;
    there = there-by cause io (io_ended io p) p (io-ended p io).paths.numbers (io-ended p io).calls itself;
  }
    where
      itself : (s : ℕ) → IsPathFor cause io s → (direction : Direction) → is_there (io_ended io p) s direction p ≡ is_there io s direction p
      itself s it direction =
          ap (λ (b : Bool). b && not (is_in_wait s direction (pending_at (io_ended io p) p))) (ended-holds s it)
          ∙ sym (ap (λ (b : Bool). b && not (is_in_wait s direction (pending_at io p))) (holds-none s it))

-- ---- a call that is broken off

module _ (p : ℕ) (io : Io) (cause : Cause) (apart : (pending : PendingCall) → pending_at io p ≡ Some pending → IsPathFor cause io pending.path.0 → ⊥) where
  -- the process was in no wait on the path
  not-waiting : (s : ℕ) → IsPathFor cause io s → (direction : Direction) → is_in_wait s direction (pending_at io p) ≡ false
  not-waiting s it direction = by_kept (pending_at io p) refl
    where
      by_same : (pending : PendingCall) → pending_at io p ≡ Some pending → (same : Bool) → (pending.path.0 == s) ≡ same → (same && is_direction direction (direction_of pending.code)) ≡ false
      by_same pending is true same = absurd (apart pending is (subst (IsPathFor cause io) (sym (eqb-true pending.path.0 s same)) it))
      by_same pending is false same = refl

      by_kept : (place : Option PendingCall) → pending_at io p ≡ place → is_in_wait s direction place ≡ false
      by_kept None is = refl
      by_kept (Some pending) is = by_same pending is (pending.path.0 == s) refl

  abbrev Lets : Io → Type 0
  Lets new = (m q : ℕ) → cause ≡ Cause.Term m → may_read_terminal q (terminal_at new m) ≡ may_read_terminal q (terminal_at io m)

  -- the terminal on which it waited is another one
  waited : (pending : PendingCall) → pending_at io p ≡ Some pending → (desc : Desc) → desc_of io.paths pending.path.0 ≡ Some desc → Lets (without_unfinished io p (Some desc.target))
  waited pending is desc there = by_target desc.target refl
    where
      by_target : (target : Target) → desc.target ≡ target → Lets (without_unfinished io p (Some target))
      by_target (File drive sector) on m q same = refl
      by_target (Folder drive sector) on m q same = refl
      by_target (Pipe pipe) on m q same = refl
      by_target (Term terminal) on m q same =
          ap (may_read_terminal q) (get_or-set_other io.terminals terminal m (released (pid p) (terminal_at io terminal)) new_terminal
          (λ at. apart pending is (record { desc = desc; there = there; on = ap cause_by on ∙ ap (λ (m : ℕ). Some (Cause.Term m)) (sym at) ∙ ap (λ (cause : Cause). Some cause) (sym same) })))

  lets : Lets (io_interrupted io p)
  lets = by_kept (pending_at io p) refl
    where
      by_desc : (pending : PendingCall) → pending_at io p ≡ Some pending → (place : Option Desc) → desc_of io.paths pending.path.0 ≡ place
          → Lets (without_unfinished io p (option_map (λ (desc : Desc). desc.target) place))
      by_desc pending is None at m q same = refl
      by_desc pending is (Some desc) at m q same = waited pending is desc at m q same

      by_kept : (place : Option PendingCall) → pending_at io p ≡ place → Lets (without_unfinished io p (option_and_then (λ (pending : PendingCall). target_of io pending.path) place))
      by_kept None is m q same = refl
      by_kept (Some pending) is m q same = by_desc pending is (desc_of io.paths pending.path.0) refl m q same

  broken-pipes : (target : Option Target) → (without_unfinished io p target).pipes ≡ io.pipes
  broken-pipes None = refl
  broken-pipes (Some (File drive sector)) = refl
  broken-pipes (Some (Folder drive sector)) = refl
  broken-pipes (Some (Term terminal)) = refl
  broken-pipes (Some (Pipe pipe)) = refl

  pub interrupted-stays : StaysFor cause io (io_interrupted io p)
  interrupted-stays = record {
    terminal = lets;
    pipe = λ k is. ap (λ (pipes : List (Option (List ℕ))). held_bytes pipes k) (broken-pipes (wait_target io p));
    there = there-by cause io (io_interrupted io p) p (io-interrupted p io).paths.numbers (io-interrupted p io).calls itself;
  }
    where
      itself : (s : ℕ) → IsPathFor cause io s → (direction : Direction) → is_there (io_interrupted io p) s direction p ≡ is_there io s direction p
      itself s it direction =
          ap (λ (paths : PathTable). holds_path paths p s && not (is_in_wait s direction (pending_at (io_interrupted io p) p))) (interrupted-paths io p)
          ∙ ap (λ (place : Option PendingCall). holds_path io.paths p s && not (is_in_wait s direction place)) (interrupted-none io p)
          ∙ sym (ap (λ (b : Bool). holds_path io.paths p s && not b) (not-waiting s it direction))

-- ---- F$Fork

module _ (p child : ℕ) (io : Io) (cause : Cause) (apart : (n : ℕ) → n < 3 → NamesCause io p n cause → ⊥) (child_apart : (n : ℕ) → NamesCause io child n cause → ⊥) where
  any-three : (s : ℕ) → IsPathFor cause io s → (numbers : List (Option SysPath)) → ((n : ℕ) → n < 3
      → is_image s (get_or numbers n None) ≡ false) → list_any (is_image s) (inherited_numbers numbers) ≡ false
  any-three s it [] none = refl
  any-three s it (a ∷ []) none = ap (λ (b : Bool). b || false) (none 0 (omega arith))
  any-three s it (a ∷ b ∷ []) none =
      ap (λ (x : Bool). x || (is_image s b || false)) (none 0 (omega arith)) ∙ ap (λ (x : Bool). x || false) (none 1 (omega arith))
  any-three s it (a ∷ b ∷ c ∷ rest) none =
      ap (λ (x : Bool). x || (is_image s b || (is_image s c || false))) (none 0 (omega arith))
      ∙ ap (λ (x : Bool). x || (is_image s c || false)) (none 1 (omega arith))
      ∙ ap (λ (x : Bool). x || false) (none 2 (omega arith))

  child-holds : (s : ℕ) → IsPathFor cause io s → holds_path (paths_after_inherit io.paths p child) child s ≡ holds_path io.paths child s
  child-holds s it = by_place (cases_lt child (length io.paths.own))
    where
      by_place : (child < length io.paths.own) ⊎ (length io.paths.own ≤ child) → holds_path (paths_after_inherit io.paths p child) child s ≡ holds_path io.paths child s
      by_place (inl within) =
          ap (λ (numbers : List (Option SysPath)). list_any (is_image s) numbers) (get_or-set_same io.paths.own child (inherited_numbers (numbers_of io.paths p)) [] within)
          ∙ any-three s it (numbers_of io.paths p) (λ n low. no-image cause io p n s it (apart n low))
          ∙ sym (holds-none child io cause child_apart s it)
      by_place (inr past) =
          ap (λ (numbers : List (Option SysPath)). list_any (is_image s) numbers)
          (get_or_past (paths_after_inherit io.paths p child).own child [] (rw length-set past) ∙ sym (get_or_past io.paths.own child [] past))

  pub started-stays : StaysFor cause io (io_started io p child)
  started-stays = record {
    terminal = λ m q is. refl;
    pipe = λ k is. refl;
    there = there-by cause io (io_started io p child) child (λ r differ. get_or-set_other io.paths.own child r (inherited_numbers (numbers_of io.paths p)) [] differ) (λ r differ. refl)
        (λ s it direction. ap (λ (b : Bool). b && not (is_in_wait s direction (pending_at io child))) (child-holds s it));
  }
