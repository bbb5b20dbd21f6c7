-- What changes of paths leave of the descriptors of system paths.
use Rattle.std.proofs.Common.{◌≡◌, ◌≢◌, ◌⊎◌, ℕ, zero, suc, ◌<◌, Bool, true, false, Option, Some, None, List, [], length, get_or, refl, sym, ap, ◌∙◌, subst, inl, inr}
use Rattle.std.specs.Prelude.{if◌then◌else◌}
use Rattle.std.specs.Option.{option_map_or}
use Rattle.std.proofs.lemmas.Bool.{cases_eq, cases_lt, eq-eqb}
use Rattle.std.proofs.lemmas.List.{get_or-set_other, get_or-set_same, get_or_past, length-set}
use Rattle.std.proofs.lemmas.List.Folds.{list_any_at}
use Rattle.std.proofs.lemmas.Option.{none-some}
use Rattle.io_model.specs.Path.{PathTable, closed_desc, desc_of, holds_path, is_held, is_image, numbers_of, path_at, paths_after_close, slot_of, with_desc, with_slot}
use Rattle.io_model.specs.declared.path.Desc.{Desc}
use Rattle.io_model.specs.declared.path.SysPath.{SysPath}
use Rattle.io_model.specs.declared.path.Target.{Target}
use Rattle.io_model.specs.declared.path.Target.TheVariants.{File, Folder, Term, Pipe}
use Rattle.io_model.specs.declared.path.TheConstants.{PROCESS_PATHS}
use Rattle.io_model.specs.Close.{after_close, without_path, without_target}
use Rattle.io_model.specs.Io.{Io}
use Rattle.io_model.specs.Processes.{closed_below, closed_if_open, io_ended}
use Rattle.io_model.specs.Waiting.{io_interrupted, wait_target, without_unfinished}
use Rattle.lock_model.proofs.Ranks.{get-emptied}

-- ---- paths that are closed

-- a number of the process names this system path
abbrev pub HasNumber : PathTable → ℕ → ℕ → Type 0
HasNumber paths p s = (n : ℕ) × (path : SysPath) × (slot_of paths p n ≡ Some path) × (path.0 ≡ s)

-- a path has gone of which the process has a number
abbrev pub Goes : ℕ → PathTable → PathTable → ℕ → Type 0
Goes p old new s = (desc_of new s ≡ None) × HasNumber old p s

-- each descriptor stays, or its path has gone; the process gets no number
pub record Closes (p : ℕ) (old new : PathTable) : Type 0 where
  pub slots : (n : ℕ) (path : SysPath) → slot_of new p n ≡ Some path → slot_of old p n ≡ Some path
  pub descs : (s : ℕ) → (desc_of new s ≡ desc_of old s) ⊎ Goes p old new s

closes-same : (p : ℕ) (paths : PathTable) → Closes p paths paths
closes-same p paths = record { slots = λ n path is. is; descs = λ s. inl refl }

closes-then : (p : ℕ) (a b c : PathTable) → Closes p a b → Closes p b c → Closes p a c
closes-then p a b c first next = record {
  slots = λ n path is. first.slots n path (next.slots n path is);
  descs = λ s. by_next s (next.descs s) (first.descs s);
}
  where
    by_next : (s : ℕ) → (desc_of c s ≡ desc_of b s) ⊎ Goes p b c s → (desc_of b s ≡ desc_of a s) ⊎ Goes p a b s → (desc_of c s ≡ desc_of a s) ⊎ Goes p a c s
    by_next s (inl same) (inl was) = inl (same ∙ was)
    by_next s (inl same) (inr (none, has)) = inr (same ∙ none, has)
    by_next s (inr (none, (n, path, is, at))) was = inr (none, (n, path, first.slots n path is, at))

-- a path whose descriptor is taken has none
taken-none : (paths : PathTable) (s : ℕ) → desc_of (with_desc paths s None) s ≡ None
taken-none paths s =
    elim (cases_lt s (length paths.descs)) [
      | inl within ↦ get_or-set_same paths.descs s None None within
      | inr past ↦ get_or_past (with_desc paths s None).descs s None (rw length-set past)
    ]

module _ (p : ℕ) (paths : PathTable) (n : ℕ) (path : SysPath) (named : slot_of paths p n ≡ Some path) where
  abbrev freed : PathTable
  freed = with_slot paths p n None

  freed-slots : (m : ℕ) (other : SysPath) → slot_of freed p m ≡ Some other → slot_of paths p m ≡ Some other
  freed-slots m other is =
      elim (cases_lt p (length paths.own)) [
        | inl within ↦ get-emptied (numbers_of paths p) n m other (sym (ap (λ (numbers : List (Option SysPath)). get_or numbers m None) (get_or-set_same paths.own p _ [] within)) ∙ is)
        | inr past ↦ absurd (none-some other (sym (ap (λ (numbers : List (Option SysPath)). get_or numbers m None) (get_or_past freed.own p [] (rw length-set past))) ∙ is))
      ]

  place-is : path_at paths p n ≡ path.0
  place-is = ap (λ (slot : Option SysPath). option_map_or (λ (s : SysPath). s.0) slot 0) named

  -- a path of this number alone may go
  pub closed-desc : (s : ℕ) → (desc_of (paths_after_close paths p n) s ≡ desc_of paths s) ⊎
      ((desc_of (paths_after_close paths p n) s ≡ None) × (path.0 ≡ s))
  closed-desc s = by_holder (is_held freed (path_at paths p n))
    where
      by_place : (s ≡ path_at paths p n) ⊎ (s ≢ path_at paths p n) → (desc_of (with_desc freed (path_at paths p n) None)
          s ≡ desc_of paths s) ⊎ ((desc_of (with_desc freed (path_at paths p n) None) s ≡ None) × (path.0 ≡ s))
      by_place (inl same) =
          inr (ap (desc_of (with_desc freed (path_at paths p n) None)) same ∙ taken-none freed (path_at paths p n), sym place-is ∙ sym same)
      by_place (inr differ) = inl (get_or-set_other freed.descs (path_at paths p n) s None None differ)

      by_holder : (held : Bool) → (desc_of (if held then freed else with_desc freed (path_at paths p n) None) s ≡
          desc_of paths s) ⊎ ((desc_of (if held then freed else with_desc freed (path_at paths p n) None) s ≡ None)
          × (path.0 ≡ s))
      by_holder true = inl refl
      by_holder false = by_place (cases_eq s (path_at paths p n))

  closes-slots : (m : ℕ) (other : SysPath) → slot_of (paths_after_close paths p n) p m ≡ Some other → slot_of paths p m ≡ Some other
  closes-slots m other is = by_holder (is_held freed (path_at paths p n)) is
    where
      by_holder : (held : Bool) → slot_of (if held then freed else with_desc freed (path_at paths p n) None) p m ≡ Some other → slot_of paths p m ≡ Some other
      by_holder true is = freed-slots m other is
      by_holder false is = freed-slots m other is

  closes-number : Closes p paths (paths_after_close paths p n)
  closes-number = record { slots = closes-slots; descs = λ s. by_desc s (closed-desc s) }
    where
      by_desc : (s : ℕ) → (desc_of (paths_after_close paths p n) s ≡ desc_of paths s) ⊎
          ((desc_of (paths_after_close paths p n) s ≡ None) × (path.0 ≡ s))
          → (desc_of (paths_after_close paths p n) s ≡ desc_of paths s) ⊎ Goes p paths (paths_after_close paths p n) s
      by_desc s (inl same) = inl same
      by_desc s (inr (none, at)) = inr (none, (n, path, named, at))

-- ---- what a process closes

target-paths : (io : Io) (target : Target) → (without_target io target).paths ≡ io.paths
target-paths io (File drive sector) = refl
target-paths io (Folder drive sector) = refl
target-paths io (Term terminal) = refl
target-paths io (Pipe pipe) = refl

gone-paths : (io : Io) (gone : Option Desc) → (without_path io gone).paths ≡ io.paths
gone-paths io None = refl
gone-paths io (Some desc) = target-paths io desc.target

pub close-paths : (io : Io) (p n : ℕ) → (after_close io p n).paths ≡ paths_after_close io.paths p n
close-paths io p n =
    gone-paths (record io { paths = paths_after_close io.paths p n }) (closed_desc io.paths p n)

pub closes-if : (p : ℕ) (io : Io) (n : ℕ) (path : Option SysPath) → slot_of io.paths p n ≡ path → Closes p io.paths (closed_if_open io p n path).paths
closes-if p io n None named = closes-same p io.paths
closes-if p io n (Some path) named =
    subst (Closes p io.paths) (sym (close-paths io p n)) (closes-number p io.paths n path named)

pub closes-below : (p : ℕ) (io : Io) (n : ℕ) → Closes p io.paths (closed_below io p n).paths
closes-below p io zero = closes-same p io.paths
closes-below p io (suc n) =
    closes-then p io.paths (closed_below io p n).paths (closed_below io p (suc n)).paths (closes-below p io n)
    (closes-if p (closed_below io p n) n (slot_of (closed_below io p n).paths p n) refl)

pub closes-ended : (p : ℕ) (io : Io) → Closes p io.paths (io_ended io p).paths
closes-ended p io = closes-below p io PROCESS_PATHS

unfinished-paths : (io : Io) (p : ℕ) (target : Option Target) → (without_unfinished io p target).paths ≡ io.paths
unfinished-paths io p None = refl
unfinished-paths io p (Some (File drive sector)) = refl
unfinished-paths io p (Some (Folder drive sector)) = refl
unfinished-paths io p (Some (Term terminal)) = refl
unfinished-paths io p (Some (Pipe pipe)) = refl

pub interrupted-paths : (io : Io) (p : ℕ) → (io_interrupted io p).paths ≡ io.paths
interrupted-paths io p = unfinished-paths io p (wait_target io p)

-- a process that has a number of a path holds it
pub number-holds : (paths : PathTable) (p s : ℕ) → HasNumber paths p s → holds_path paths p s ≡ true
number-holds paths p s (n, path, named, at) =
    list_any_at (is_image s) (numbers_of paths p) n None within (ap (is_image s) named ∙ eq-eqb path.0 s at)
  where
    within : n < length (numbers_of paths p)
    within =
        elim (cases_lt n (length (numbers_of paths p))) [
          | inl low ↦ low
          | inr past ↦ absurd (none-some path (sym (get_or_past (numbers_of paths p) n None past) ∙ named))
        ]
