-- What changes of input and output by a process leave of the others: step by step.
use Rattle.std.proofs.Common.{◌≡◌, ◌≢◌, ℕ, zero, suc, ◌+◌, ◌<◌, Bool, true, false, Option, Some, None, is_none, List, [], length, drop, position, get_or, refl, sym, ap, ◌∙◌, subst, inl, inr, arith}
use Rattle.std.specs.Prelude.{map, option_and_then, option_map, slice_index_or, if◌then◌else◌}
use Rattle.std.specs.List.{list_any}
use Rattle.std.specs.Option.{option_map_or}
use Rattle.std.proofs.lemmas.Bool.{cases_eq, cases_lt, eq-eqb, ne_eqb, false≢true}
use Rattle.std.proofs.lemmas.List.{get_or-set_same, get_or-set_other, get_or_past, get_or-map, length-map}
use Rattle.std.proofs.lemmas.Grind.{get_or_after_one}
use Rattle.std.proofs.lemmas.List.Folds.{list_any_at}
use Rattle.std.proofs.lemmas.List.Quantifiers.{position-Some}
use Rattle.std.proofs.lemmas.Option.{none-some, same_Some}
use Rattle.os9_base.specs.declared.registers.Pid.{Pid}
use Rattle.io_model.specs.Path.{PathTable, desc_of, numbers_of, slot_of, is_image, is_held, with_desc, with_numbers, with_slot, free_number, free_path, with_path, paths_after_begin, paths_after_dup, path_at, paths_after_close, closed_desc}
use Rattle.io_model.specs.Terminal.{Terminal, new_terminal, reader, released, forgotten, is_process, without_reading}
use Rattle.io_model.specs.declared.pending.PendingCall.{PendingCall}
use Rattle.io_model.specs.declared.path.Desc.{Desc}
use Rattle.io_model.specs.declared.path.SysPath.{SysPath}
use Rattle.io_model.specs.declared.path.TheConstants.{PROCESS_PATHS}
use Rattle.io_model.specs.declared.path.Target.{Target}
use Rattle.io_model.specs.declared.path.Target.TheVariants.{File, Folder, Term, Pipe}
use Rattle.io_model.specs.Close.{after_close, without_path, without_target}
use Rattle.io_model.specs.Io.{Io, OpenPath, open_path, terminal_at, pending_at, with_call, with_paths, with_pipes, with_terminal}
use Rattle.io_model.specs.Processes.{closed_below, closed_if_open, io_ended, without_user}
use Rattle.io_model.specs.Waiting.{io_interrupted, pid, wait_target, without_unfinished}
use Rattle.call_laws.specs.Terminals.{KeepsReading}

-- ---- paths

-- what a change of paths by a process leaves of the others
pub record PathsLeft (p : ℕ) (old new : PathTable) : Type 0 where
  pub numbers : (q : ℕ) → q ≢ p → numbers_of new q ≡ numbers_of old q
  pub descs : (q n : ℕ) (s : SysPath) (d : Desc) → slot_of old q n ≡ Some s → q ≢ p → desc_of old s.0 ≡ Some d → desc_of new s.0 ≡ Some d

pub left-same : (p : ℕ) (paths : PathTable) → PathsLeft p paths paths
left-same p paths = record { numbers = λ q differ. refl; descs = λ q n s d named differ there. there }

pub left-then : (p : ℕ) (a b c : PathTable) → PathsLeft p a b → PathsLeft p b c → PathsLeft p a c
left-then p a b c first next = record {
  numbers = λ q differ. next.numbers q differ ∙ first.numbers q differ;
  descs =
      λ q n s d named differ there. next.descs q n s d (ap (λ (numbers : List (Option SysPath)). slice_index_or
      numbers n None) (first.numbers q differ) ∙ named) differ (first.descs q n s d named differ there);
}

-- its numbers change
pub left-numbers : (p : ℕ) (paths : PathTable) (numbers : List (Option SysPath)) → PathsLeft p paths (with_numbers paths p numbers)
left-numbers p paths numbers = record {
  numbers = λ q differ. get_or-set_other paths.own p q numbers [] differ;
  descs = λ q n s d named differ there. there;
}

-- a descriptor that no process holds changes
left-desc : (p : ℕ) (paths : PathTable) (s : ℕ) (desc : Option Desc) → ((q n : ℕ) (t : SysPath) (d : Desc)
    → slot_of paths q n ≡ Some t → desc_of paths t.0 ≡ Some d → t.0 ≢ s) → PathsLeft p paths (with_desc paths s desc)
left-desc p paths s desc apart = record {
  numbers = λ q differ. refl;
  descs =
      λ q n t d named differ there. get_or-set_other paths.descs s t.0 desc None (apart q n t d named there) ∙ there;
}

is_nothing : {X : Type 0} (place : Option X) → is_none place ≡ true → place ≡ None
is_nothing None is = refl
is_nothing (Some x) is = absurd (false≢true is)

free-at : (paths : PathTable) (s : ℕ) (place : Option ℕ) → position is_none (drop 1 paths.descs) ≡ place → option_map (λ (k : ℕ). k + 1) place ≡ Some s → desc_of paths s ≡ None
free-at paths s None at is = absurd (none-some s is)
free-at paths s (Some i) at is =
    let found = position-Some is_none (drop 1 paths.descs) i None at in
    let same : 1 + i ≡ s = omega (arith, same_Some (i + 1) s is) in
    ap (desc_of paths) (sym same) ∙ sym (get_or_after_one paths.descs i None) ∙ is_nothing (get_or (drop 1 paths.descs) i None) found.1

-- a path that is not there has no descriptor
pub free-none : (paths : PathTable) (s : ℕ) → free_path paths ≡ Some s → desc_of paths s ≡ None
free-none paths s is = free-at paths s (position is_none (drop 1 paths.descs)) refl is

-- a path begins
pub left-begin : (p : ℕ) (paths : PathTable) (desc : Desc) → PathsLeft p paths (paths_after_begin paths p desc)
left-begin p paths desc = by_places (free_number paths p) (free_path paths) refl
  where
    by_places : (number path : Option ℕ) → free_path paths ≡ path → PathsLeft p paths (option_map_or (λ n. option_map_or (with_path paths p desc n) path paths) number paths)
    by_places None path is = left-same p paths
    by_places (Some n) None is = left-same p paths
    by_places (Some n) (Some s) is =
        left-then p paths (with_desc paths s (Some desc)) (with_path paths p desc n s)
        (left-desc p paths s (Some desc) (λ q m t d named there same. none-some d (sym (free-none paths s is) ∙ ap (desc_of paths) (sym same) ∙ there)))
        (left-numbers p (with_desc paths s (Some desc)) _)

pub left-dup : (p : ℕ) (paths : PathTable) (n : ℕ) → PathsLeft p paths (paths_after_dup paths p n)
left-dup p paths n = by_place (free_number paths p)
  where
    by_place : (free : Option ℕ) → PathsLeft p paths (option_map_or (λ free. with_slot paths p free (slot_of paths p n)) free paths)
    by_place None = left-same p paths
    by_place (Some free) = left-numbers p paths _

-- a path that a number names is held
pub named-held : (paths : PathTable) (q n : ℕ) (t : SysPath) (s : ℕ) → slot_of paths q n ≡ Some t → t.0 ≡ s → is_held paths s ≡ true
named-held paths q n t s named same =
    list_any_at (list_any (is_image s)) paths.own q [] process
    (list_any_at (is_image s) (numbers_of paths q) n None number (ap (is_image s) named ∙ eq-eqb t.0 s same))
  where
    process : q < length paths.own
    process =
        elim (cases_lt q (length paths.own)) [
          | inl within ↦ within
          | inr past ↦ absurd (none-some t (sym (ap (λ (numbers : List (Option SysPath)). get_or numbers n None) (get_or_past paths.own q [] past)) ∙ named))
        ]

    number : n < length (numbers_of paths q)
    number =
        elim (cases_lt n (length (numbers_of paths q))) [
          | inl within ↦ within
          | inr past ↦ absurd (none-some t (sym (get_or_past (numbers_of paths q) n None past) ∙ named))
        ]

-- a number is closed
pub left-close : (p : ℕ) (paths : PathTable) (n : ℕ) → PathsLeft p paths (paths_after_close paths p n)
left-close p paths n =
    left-then p paths closed (paths_after_close paths p n) (left-numbers p paths _) (by_holder (is_held closed (path_at paths p n)) refl)
  where
    closed : PathTable
    closed = with_slot paths p n None

    by_holder : (held : Bool) → is_held closed (path_at paths p n) ≡ held → PathsLeft p closed (if held then closed else with_desc closed (path_at paths p n) None)
    by_holder true is = left-same p closed
    by_holder false is =
        left-desc p closed (path_at paths p n) None
        (λ q m t d named there same. false≢true (sym is ∙ named-held closed q m t (path_at paths p n) named same))

-- ---- input and output

-- what a change by a process leaves of the others
pub record IoLeft (p : ℕ) (old new : Io) : Type 0 where
  pub paths : PathsLeft p old.paths new.paths
  pub calls : (q : ℕ) → q ≢ p → pending_at new q ≡ pending_at old q
  pub readings : (n q : ℕ) → q ≢ p → reader (terminal_at old n) ≡ Some (pid q) → KeepsReading (terminal_at old n) (terminal_at new n)

pub io-same : (p : ℕ) (io : Io) → IoLeft p io io
io-same p io = record { paths = left-same p io.paths; calls = λ q differ. refl; readings = λ n q differ is. refl }

pub io-then : (p : ℕ) (a b c : Io) → IoLeft p a b → IoLeft p b c → IoLeft p a c
io-then p a b c first next = record {
  paths = left-then p a.paths b.paths c.paths first.paths next.paths;
  calls = λ q differ. next.calls q differ ∙ first.calls q differ;
  readings = λ n q differ is.
      let one : terminal_at b n ≡ record (terminal_at a n) { user = (terminal_at b n).user } = first.readings n q differ is in
      let two : terminal_at c n ≡ record (terminal_at b n) { user = (terminal_at c n).user } = next.readings n q differ (ap reader one ∙ is) in
      two ∙ ap (λ (t : Terminal). record t { user = (terminal_at c n).user }) one;
}

pub io-paths : (p : ℕ) (io : Io) (paths : PathTable) → PathsLeft p io.paths paths → IoLeft p io (with_paths io paths)
io-paths p io paths left = record { paths = left; calls = λ q differ. refl; readings = λ n q differ is. refl }

pub io-pipes : (p : ℕ) (io : Io) (pipes : List (Option (List ℕ))) → IoLeft p io (with_pipes io pipes)
io-pipes p io pipes = record { paths = left-same p io.paths; calls = λ q differ. refl; readings = λ n q differ is. refl }

pub io-call : (p : ℕ) (io : Io) (pending : Option PendingCall) → IoLeft p io (with_call io p pending)
io-call p io pending = record {
  paths = left-same p io.paths;
  calls = λ q differ. get_or-set_other io.calls p q pending None differ;
  readings = λ n q differ is. refl;
}

-- a terminal changes, and keeps what others read there
pub reading-set : (io : Io) (n : ℕ) (terminal : Terminal) (Keeps : ℕ → Terminal → Terminal → Type 0)
    → ((k : ℕ) → k ≢ n → Keeps k (terminal_at io k) (terminal_at io k)) → (q : ℕ)
    → (reader (terminal_at io n) ≡ Some (pid q) → Keeps n (terminal_at io n) terminal) → (k : ℕ)
    → reader (terminal_at io k) ≡ Some (pid q) → Keeps k (terminal_at io k) (terminal_at (with_terminal io n terminal)
    k)
reading-set io n terminal Keeps stays q keeps k is =
    elim (cases_eq k n) [
      | inl same ↦ subst (λ (k : ℕ). Keeps k (terminal_at io k) (terminal_at (with_terminal io n terminal) k)) (sym same) (at_it (ap (λ (k : ℕ). reader (terminal_at io k)) (sym same) ∙ is))
      | inr apart ↦ subst (Keeps k (terminal_at io k)) (sym (get_or-set_other io.terminals n k terminal new_terminal apart)) (stays k apart)
    ]
  where
    at_it : reader (terminal_at io n) ≡ Some (pid q) → Keeps n (terminal_at io n) (terminal_at (with_terminal io n terminal) n)
    at_it is =
        elim (cases_lt n (length io.terminals)) [
          | inl within ↦ subst (Keeps n (terminal_at io n)) (sym (get_or-set_same io.terminals n terminal new_terminal within)) (keeps is)
          | inr past ↦ absurd (none-some (pid q) (sym (ap reader (get_or_past io.terminals n new_terminal past)) ∙ is))
        ]

pub io-terminal : (p : ℕ) (io : Io) (n : ℕ) (terminal : Terminal) → ((q : ℕ) → q ≢ p → reader (terminal_at io n) ≡
    Some (pid q) → KeepsReading (terminal_at io n) terminal) → IoLeft p io (with_terminal io n terminal)
io-terminal p io n terminal keeps = record {
  paths = left-same p io.paths;
  calls = λ q differ. refl;
  readings = λ k q differ is. reading-set io n terminal (λ k. KeepsReading) (λ k apart. refl) q (keeps q differ) k is;
}

-- ---- what a process closes

after-target : (p : ℕ) (io : Io) (target : Target) → IoLeft p io (without_target io target)
after-target p io (File drive sector) = io-same p io
after-target p io (Folder drive sector) = io-same p io
after-target p io (Term terminal) = io-same p io
after-target p io (Pipe pipe) = io-pipes p io _

after-path : (p : ℕ) (io : Io) (gone : Option Desc) → IoLeft p io (without_path io gone)
after-path p io None = io-same p io
after-path p io (Some desc) = after-target p io desc.target

pub io-closed : (p : ℕ) (io : Io) (n : ℕ) → IoLeft p io (after_close io p n)
io-closed p io n =
    io-then p io (with_paths io (paths_after_close io.paths p n)) (after_close io p n) (io-paths p io (paths_after_close io.paths p n) (left-close p io.paths n))
    (after-path p (with_paths io (paths_after_close io.paths p n)) (closed_desc io.paths p n))

closed-if : (p : ℕ) (io : Io) (n : ℕ) (path : Option SysPath) → IoLeft p io (closed_if_open io p n path)
closed-if p io n None = io-same p io
closed-if p io n (Some path) = io-closed p io n

all-closed : (p : ℕ) (io : Io) (n : ℕ) → IoLeft p io (closed_below io p n)
all-closed p io zero = io-same p io
all-closed p io (suc n) =
    io-then p io (closed_below io p n) (closed_below io p (suc n)) (all-closed p io n)
    (closed-if p (closed_below io p n) n (slot_of (closed_below io p n).paths p n))

-- a process lets go of what another one reads
apart-process : (p q : ℕ) → q ≢ p → is_process (pid p) (pid q) ≡ false
apart-process p q differ = ne_eqb p q (λ same. differ (sym same))

pub released-other : (p : ℕ) (t : Terminal) (q : ℕ) → q ≢ p → reader t ≡ Some (pid q) → released (pid p) t ≡ t
released-other p t q differ is =
    ap (λ (there : Option Pid). if option_map_or (is_process (pid p)) there false then without_reading t else t) is ∙ ap (λ (it : Bool). if it then without_reading t else t) (apart-process p q differ)

forgotten-other : (p : ℕ) (t : Terminal) (q : ℕ) → q ≢ p → reader t ≡ Some (pid q) → KeepsReading t (forgotten (pid p) t)
forgotten-other p t q differ is = by_user (option_map_or (is_process (pid p)) t.user false)
  where
    still : released (pid p) t ≡ t
    still = released-other p t q differ is

    by_user : (user : Bool) → KeepsReading t (if user then record (released (pid p) t) { user = None } else released (pid p) t)
    by_user true = ap (λ (t : Terminal). record t { user = None }) still
    by_user false = still ∙ ap (λ (u : Terminal). record t { user = u.user }) (sym still)

io-forgotten : (p : ℕ) (io : Io) → IoLeft p io (without_user io p)
io-forgotten p io = record {
  paths = left-same p io.paths;
  calls = λ q differ. refl;
  readings = λ n q differ is. subst (KeepsReading (terminal_at io n)) (sym (mapped n)) (forgotten-other p (terminal_at io n) q differ is);
}
  where
    mapped : (n : ℕ) → terminal_at (without_user io p) n ≡ forgotten (pid p) (terminal_at io n)
    mapped n =
        elim (cases_lt n (length io.terminals)) [
          | inl within ↦ get_or-map (forgotten (pid p)) io.terminals n new_terminal new_terminal within
          | inr past ↦ get_or_past (map (forgotten (pid p)) io.terminals) n new_terminal (rw length-map past) ∙ ap (forgotten (pid p)) (sym (get_or_past io.terminals n new_terminal past))
        ]

pub io-ended : (p : ℕ) (io : Io) → IoLeft p io (io_ended io p)
io-ended p io =
    io-then p io (closed_below io p PROCESS_PATHS) (io_ended io p) (all-closed p io PROCESS_PATHS)
    (io-then p (closed_below io p PROCESS_PATHS) (without_user (closed_below io p PROCESS_PATHS) p) (io_ended io p) (io-forgotten p (closed_below io p PROCESS_PATHS))
    (io-call p (without_user (closed_below io p PROCESS_PATHS) p) None))

unfinished-left : (p : ℕ) (io : Io) (target : Option Target) → IoLeft p io (without_unfinished io p target)
unfinished-left p io None = io-same p io
unfinished-left p io (Some (File drive sector)) = io-same p io
unfinished-left p io (Some (Folder drive sector)) = io-same p io
unfinished-left p io (Some (Term terminal)) =
    io-terminal p io terminal (released (pid p) (terminal_at io terminal))
    (λ q differ is.
    let still : released (pid p) (terminal_at io terminal) ≡ terminal_at io terminal = released-other p (terminal_at io terminal) q differ is in
    still ∙ ap (λ (u : Terminal). record (terminal_at io terminal) { user = u.user }) (sym still))
unfinished-left p io (Some (Pipe pipe)) = io-same p io

pub io-interrupted : (p : ℕ) (io : Io) → IoLeft p io (io_interrupted io p)
io-interrupted p io =
    io-then p io (without_unfinished io p (wait_target io p)) (io_interrupted io p) (unfinished-left p io (wait_target io p))
    (io-call p (without_unfinished io p (wait_target io p)) None)

-- ---- open paths

-- a path that is open stays, where its number and its descriptor stay
pub open-stays : (old new : Io) (q n : ℕ) (opened : OpenPath) → numbers_of new.paths q ≡ numbers_of old.paths q
    → ((s : SysPath) (d : Desc) → slot_of old.paths q n ≡ Some s → desc_of old.paths s.0 ≡ Some d → desc_of new.paths
    s.0 ≡ Some d) → open_path old q n ≡ Some opened → open_path new q n ≡ Some opened
open-stays old new q n opened numbers descs is = by_slot (slot_of old.paths q n) refl is
  where
    with_place : SysPath → Option Desc → Option OpenPath
    with_place s place = option_map (λ (desc : Desc). let r : OpenPath = record { path = s; desc = desc } in r) place

    by_path : Io → Option SysPath → Option OpenPath
    by_path io place = option_and_then (λ (s : SysPath). with_place s (desc_of io.paths s.0)) place

    slots : slot_of new.paths q n ≡ slot_of old.paths q n
    slots = ap (λ (numbers : List (Option SysPath)). slice_index_or numbers n None) numbers

    by_desc : (s : SysPath) (place : Option Desc) → slot_of old.paths q n ≡ Some s → desc_of old.paths s.0 ≡ place → with_place s place ≡ Some opened → open_path new q n ≡ Some opened
    by_desc s None named there is = absurd (none-some opened is)
    by_desc s (Some d) named there is =
        ap (by_path new) (slots ∙ named) ∙ ap (with_place s) (descs s d named there) ∙ is

    by_slot : (place : Option SysPath) → slot_of old.paths q n ≡ place → by_path old place ≡ Some opened → open_path new q n ≡ Some opened
    by_slot None named is = absurd (none-some opened is)
    by_slot (Some s) named is = by_desc s (desc_of old.paths s.0) named refl is
