-- Whether a call on a terminal or a pipe may go on: what that looks at.
use Rattle.std.proofs.Common.{◌≡◌, ◌≢◌, ◌⊎◌, ℕ, zero, suc, ◌==◌, ◌&&◌, ◌||◌, not, Bool, false, Option, Some, None, List, [], ◌∷◌, length, get_or, refl, sym, ap, ◌∙◌, subst, inl, inr}
use Rattle.std.specs.Prelude.{option_and_then, option_map, slice_set}
use Rattle.std.specs.List.{list_any, range_with_len}
use Rattle.std.specs.Option.{option_map_or}
use Rattle.std.proofs.lemmas.Bool.{cases_eq, ne_eqb}
use Rattle.std.proofs.lemmas.Option.{none-some, same_Some}
use Rattle.os9_base.specs.declared.limits.TheConstants.{PROCESS_PLACES}
use Rattle.os9_sched.specs.declared.member.Cause.{Cause}
use Rattle.io_model.specs.Path.{desc_of, holds_path, is_image, numbers_of, slot_of}
use Rattle.io_model.specs.Pipe.{pipe_room}
use Rattle.io_model.specs.declared.pending.PendingCall.{PendingCall}
use Rattle.io_model.specs.declared.path.Desc.{Desc}
use Rattle.io_model.specs.declared.path.SysPath.{SysPath}
use Rattle.io_model.specs.declared.path.Target.{Target}
use Rattle.io_model.specs.declared.path.Target.TheVariants.{File, Folder, Pipe, Term}
use Rattle.io_model.specs.Alone.{is_alone, is_direction, is_in_wait, is_outside}
use Rattle.io_model.specs.Codes.{direction_of}
use Rattle.io_model.specs.Io.{Io, OpenPath, pending_at, open_path, pipe_bytes, target_of, terminal_at}
use Rattle.io_model.specs.Waiting.{can_move, cause_by, io_may_go, io_waits_for, may_go_by, may_read_terminal, would_be_alone}
use Rattle.io_model.specs.declared.io_call.Direction.{Direction}
use Rattle.io_model.specs.declared.io_call.Direction.TheVariants.{Reading, Writing}
use Rattle.lock_laws.specs.Touches.{NamesCause, cause_on}

-- ---- lists

any-same : {X : Type 0} (f g : X → Bool) (xs : List X) → ((x : X) → f x ≡ g x) → list_any f xs ≡ list_any g xs
any-same f g [] same = refl
any-same f g (x ∷ xs) same =
    ap (λ (b : Bool). b || list_any f xs) (same x) ∙ ap (λ (b : Bool). g x || b) (any-same f g xs same)

-- a place changes that passes the test neither before nor then
pub any-set : {X : Type 0} (f : X → Bool) (xs : List X) (n : ℕ) (x d : X) → f x ≡ false → f (get_or xs n d) ≡ false → list_any f (slice_set xs n x) ≡ list_any f xs
any-set f [] n x d new old = refl
any-set f (y ∷ xs) zero x d new old = ap (λ (b : Bool). b || list_any f xs) (new ∙ sym old)
any-set f (y ∷ xs) (suc n) x d new old = ap (λ (b : Bool). f y || b) (any-set f xs n x d new old)

-- ---- paths on what a call waits for

cause-on : (target : Target) (cause : Cause) → cause_by target ≡ Some cause → cause_on target ≡ Some cause
cause-on (File drive sector) cause is = absurd (none-some cause is)
cause-on (Folder drive sector) cause is = absurd (none-some cause is)
cause-on (Term terminal) cause is = is
cause-on (Pipe pipe) cause is = is

-- this path is on a terminal or a pipe for which calls wait so
pub record IsPathFor (cause : Cause) (io : Io) (s : ℕ) : Type 0 where
  pub desc : Desc
  pub there : desc_of io.paths s ≡ Some desc
  pub on : cause_by desc.target ≡ Some cause

-- a number names a path, by its parts
pub opens : (io : Io) (p n : ℕ) (path : SysPath) (desc : Desc) → slot_of io.paths p n ≡ Some path → desc_of io.paths path.0 ≡ Some desc
    → open_path io p n ≡ Some (record { path = path; desc = desc })
opens io p n path desc named there =
    ap (option_and_then (λ (s : SysPath). with_place s (desc_of io.paths s.0))) named ∙ ap (with_place path) there
  where
    with_place : SysPath → Option Desc → Option OpenPath
    with_place path place = option_map (λ (desc : Desc). let r : OpenPath = record { path = path; desc = desc } in r) place

pub names-by : (cause : Cause) (io : Io) (p n : ℕ) (path : SysPath) (s : ℕ) → IsPathFor cause io s → slot_of io.paths p n ≡ Some path → path.0 ≡ s → NamesCause io p n cause
names-by cause io p n path s it named at = record {
  opened = record { path = path; desc = it.desc };
  is = opens io p n path it.desc named (ap (desc_of io.paths) at ∙ it.there);
  on = cause-on it.desc.target cause it.on;
}

-- a number that does not name it is no image of the path
pub no-image : (cause : Cause) (io : Io) (p n s : ℕ) → IsPathFor cause io s → (NamesCause io p n cause → ⊥) → is_image s (slot_of io.paths p n) ≡ false
no-image cause io p n s it apart = by_slot (slot_of io.paths p n) refl
  where
    by_slot : (slot : Option SysPath) → slot_of io.paths p n ≡ slot → is_image s slot ≡ false
    by_slot None named = refl
    by_slot (Some path) named = ne_eqb path.0 s (λ at. apart (names-by cause io p n path s it named at))

-- a call on another path is not in a wait on this one
no-wait : (s : ℕ) (direction : Direction) (pending : PendingCall) → pending.path.0 ≢ s → is_in_wait s direction (Some pending) ≡ false
no-wait s direction pending differ =
    ap (λ (b : Bool). b && is_direction direction (direction_of pending.code)) (ne_eqb pending.path.0 s differ)

pub no-waiting : (cause : Cause) (io : Io) (p n s : ℕ) → IsPathFor cause io s → (NamesCause io p n cause → ⊥) → (direction : Direction) (place : Option PendingCall)
    → ((pending : PendingCall) → place ≡ Some pending → slot_of io.paths p n ≡ Some pending.path) → is_in_wait s direction place ≡ false
no-waiting cause io p n s it apart direction None named = refl
no-waiting cause io p n s it apart direction (Some pending) named =
    no-wait s direction pending (λ at. apart (names-by cause io p n pending.path s it (named pending refl) at))

-- ---- what a wait looks at

-- a process holds the path and is not in this wait
abbrev pub is_there : Io → ℕ → Direction → ℕ → Bool
is_there io s direction r = holds_path io.paths r s && not (is_in_wait s direction (pending_at io r))

-- it stays: of a terminal whether a process may read it, of a pipe the bytes, and who could end a wait
pub record StaysFor (cause : Cause) (old new : Io) : Type 0 where
  pub terminal : (n q : ℕ) → cause ≡ Cause.Term n → may_read_terminal q (terminal_at new n) ≡ may_read_terminal q (terminal_at old n)
  pub pipe : (k : ℕ) → cause ≡ Cause.Pipe k → pipe_bytes new k ≡ pipe_bytes old k
  pub there : (s : ℕ) → IsPathFor cause old s → (direction : Direction) (r : ℕ) → is_there new s direction r ≡ is_there old s direction r

pub stays-same : (cause : Cause) (old new : Io) → new ≡ old → StaysFor cause old new
stays-same cause old new same = subst (StaysFor cause old) (sym same) (record {
  terminal = λ n q is. refl;
  pipe = λ k is. refl;
  there = λ s it direction r. refl;
})

-- the others keep their numbers and calls, and the process neither gets nor loses a number of the path
pub there-by : (cause : Cause) (old new : Io) (p : ℕ) → ((r : ℕ) → r ≢ p → numbers_of new.paths r ≡ numbers_of old.paths r)
    → ((r : ℕ) → r ≢ p → pending_at new r ≡ pending_at old r) → ((s : ℕ) → IsPathFor cause old s → (direction : Direction) → is_there new s direction p ≡ is_there old s direction p)
    → (s : ℕ) → IsPathFor cause old s → (direction : Direction) (r : ℕ) → is_there new s direction r ≡ is_there old s direction r
there-by cause old new p numbers calls itself s it direction r = by_process (cases_eq r p)
  where
    by_process : (r ≡ p) ⊎ (r ≢ p) → is_there new s direction r ≡ is_there old s direction r
    by_process (inl same) =
        subst (λ (r : ℕ). is_there new s direction r ≡ is_there old s direction r) (sym same) (itself s it direction)
    by_process (inr differ) =
        ap (λ (numbers : List (Option SysPath)). list_any (is_image s) numbers && not (is_in_wait s direction (pending_at new r))) (numbers r differ)
        ∙ ap (λ (pending : Option PendingCall). holds_path old.paths r s && not (is_in_wait s direction pending)) (calls r differ)

-- ---- a call may go on then as before

module _ (cause : Cause) (old new : Io) (stays : StaysFor cause old new) (q : ℕ) (pending : PendingCall) (it : IsPathFor cause old pending.path.0) where
  move-same : (k : ℕ) → cause ≡ Cause.Pipe k → (direction : Option Direction) → can_move new k direction ≡ can_move old k direction
  move-same k is None = refl
  move-same k is (Some Reading) = ap (λ (bytes : List ℕ). not (length bytes == 0)) (stays.pipe k is)
  move-same k is (Some Writing) = ap (λ (bytes : List ℕ). not (pipe_room bytes == 0)) (stays.pipe k is)

  alone-same : (direction : Option Direction) → option_map_or (is_alone new q pending.path.0) direction false ≡ option_map_or (is_alone old q pending.path.0) direction false
  alone-same None = refl
  alone-same (Some direction) =
      ap not (any-same (is_outside new q pending.path.0 direction) (is_outside old q pending.path.0 direction) (range_with_len 0 PROCESS_PLACES)
      (λ r. ap (λ (b : Bool). not (r == q) && b) (stays.there pending.path.0 it direction r)))

  target-same : (target : Target) → cause_by target ≡ Some cause → may_go_by new q pending (Some target) ≡ may_go_by old q pending (Some target)
  target-same (File drive sector) is = refl
  target-same (Folder drive sector) is = refl
  target-same (Term terminal) is = stays.terminal terminal q (sym (same_Some (Cause.Term terminal) cause is))
  target-same (Pipe pipe) is =
      let on : cause ≡ Cause.Pipe pipe = sym (same_Some (Cause.Pipe pipe) cause is) in
      ap (λ (b : Bool). b || would_be_alone new q pending) (move-same pipe on (direction_of pending.code))
      ∙ ap (λ (b : Bool). can_move old pipe (direction_of pending.code) || b) (alone-same (direction_of pending.code))

  kept-same : desc_of new.paths pending.path.0 ≡ Some it.desc → may_go_by new q pending (target_of new pending.path) ≡ may_go_by old q pending (target_of old pending.path)
  kept-same there =
      ap (λ (place : Option Desc). may_go_by new q pending (option_map (λ (desc : Desc). desc.target) place)) there
      ∙ target-same it.desc.target it.on
      ∙ ap (λ (place : Option Desc). may_go_by old q pending (option_map (λ (desc : Desc). desc.target) place)) (sym it.there)

-- the path on which a process waits
pub record WaitsOn (cause : Cause) (io : Io) (q : ℕ) : Type 0 where
  pub pending : PendingCall
  pub is : pending_at io q ≡ Some pending
  pub path : IsPathFor cause io pending.path.0

pub waits-on : (cause : Cause) (io : Io) (q : ℕ) → io_waits_for io q ≡ Some cause → WaitsOn cause io q
waits-on cause io q is = by_kept (pending_at io q) refl is
  where
    by_desc : (pending : PendingCall) → pending_at io q ≡ Some pending → (place : Option Desc) → desc_of io.paths pending.path.0 ≡ place
        → option_and_then cause_by (option_map (λ (desc : Desc). desc.target) place) ≡ Some cause → WaitsOn cause io q
    by_desc pending there None at is = absurd (none-some cause is)
    by_desc pending there (Some desc) at is =
        record { pending = pending; is = there; path = record { desc = desc; there = at; on = is } }

    by_kept : (place : Option PendingCall) → pending_at io q ≡ place
        → option_and_then cause_by (option_and_then (λ (pending : PendingCall). target_of io pending.path) place) ≡ Some cause → WaitsOn cause io q
    by_kept None at is = absurd (none-some cause is)
    by_kept (Some pending) at is = by_desc pending at (desc_of io.paths pending.path.0) refl is

pub io-same : (cause : Cause) (old new : Io) (q : ℕ) → StaysFor cause old new → (it : WaitsOn cause old q) → pending_at new q ≡ pending_at old q
    → desc_of new.paths it.pending.path.0 ≡ Some it.path.desc → io_may_go new q ≡ io_may_go old q
io-same cause old new q stays it call there =
    ap (λ (place : Option PendingCall). option_map_or (λ (pending : PendingCall). may_go_by new q pending (target_of new pending.path)) place false) (call ∙ it.is)
    ∙ kept-same cause old new stays q it.pending it.path there
    ∙ ap (λ (place : Option PendingCall). option_map_or (λ (pending : PendingCall). may_go_by old q pending (target_of old pending.path)) place false) (sym it.is)
