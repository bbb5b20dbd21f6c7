-- The end of a process whose call was broken off is its end.
use Rattle.std.proofs.Common.{◌≡◌, ℕ, zero, suc, Bool, true, false, Option, Some, None, List, [], ◌∷◌, map, set, get_or, refl, sym, ap, ◌∙◌}
use Rattle.std.specs.Prelude.{slice_set, if◌then◌else◌}
use Rattle.std.specs.Option.{option_map_or}
use Rattle.std.proofs.lemmas.List.{set-set}
use Rattle.os9_base.specs.declared.registers.Pid.{Pid}
use Rattle.io_model.specs.Path.{closed_desc, paths_after_close, slot_of}
use Rattle.io_model.specs.Terminal.{Terminal, forgotten, is_process, new_terminal, reader, released, without_reading}
use Rattle.io_model.specs.declared.pending.PendingCall.{PendingCall}
use Rattle.io_model.specs.declared.path.Desc.{Desc}
use Rattle.io_model.specs.declared.path.SysPath.{SysPath}
use Rattle.io_model.specs.declared.path.Target.{Target}
use Rattle.io_model.specs.declared.path.Target.TheVariants.{File, Folder, Term, Pipe}
use Rattle.io_model.specs.declared.path.TheConstants.{PROCESS_PATHS}
use Rattle.io_model.specs.Close.{without_path, without_target}
use Rattle.io_model.specs.Io.{Io, terminal_at, with_call, with_paths}
use Rattle.io_model.specs.Processes.{closed_below, closed_if_open, io_ended, without_user}
use Rattle.io_model.specs.Waiting.{io_interrupted, pid, wait_target, without_unfinished}

-- ---- paths are closed whatever stands at the terminals and is kept of calls

-- input and output with these terminals and these calls
abbrev pub apart : Io → List Terminal → List (Option PendingCall) → Io
apart io terminals calls = record io { terminals = terminals; calls = calls }

module _ (terminals : List Terminal) (calls : List (Option PendingCall)) where
  target-apart : (io : Io) (target : Target) → without_target (apart io terminals calls) target ≡ apart (without_target io target) terminals calls
  target-apart io (File drive sector) = refl
  target-apart io (Folder drive sector) = refl
  target-apart io (Term terminal) = refl
  target-apart io (Pipe pipe) = refl

  path-apart : (io : Io) (desc : Option Desc) → without_path (apart io terminals calls) desc ≡ apart (without_path io desc) terminals calls
  path-apart io None = refl
  path-apart io (Some desc) = target-apart io desc.target

  slot-apart : (io : Io) (p n : ℕ) (path : Option SysPath) → closed_if_open (apart io terminals calls) p n path ≡ apart (closed_if_open io p n path) terminals calls
  slot-apart io p n None = refl
  slot-apart io p n (Some path) =
      path-apart (with_paths io (paths_after_close io.paths p n)) (closed_desc io.paths p n)

  closed-apart : (io : Io) (p n : ℕ) → closed_below (apart io terminals calls) p n ≡ apart (closed_below io p n) terminals calls
  closed-apart io p zero = refl
  closed-apart io p (suc n) =
      ap (λ (io : Io). closed_if_open io p n (slot_of io.paths p n)) (closed-apart io p n)
      ∙ slot-apart (closed_below io p n) p n (slot_of (closed_below io p n).paths p n)

-- ---- a terminal that a process released has the less to forget

module _ (process : Pid) (t : Terminal) where
  is-released : (b : Bool) → option_map_or (is_process process) (reader t) false ≡ b → released process t ≡ (if b then without_reading t else t)
  is-released b is = ap (λ b. if b then without_reading t else t) is

  again : (b : Bool) → option_map_or (is_process process) (reader t) false ≡ b → released process (released process t) ≡ released process t
  again true is =
      let there : released process t ≡ without_reading t = is-released true is in
      ap (released process) there ∙ sym there
  again false is = ap (released process) (is-released false is)

  user : (b : Bool) → option_map_or (is_process process) (reader t) false ≡ b → (released process t).user ≡ t.user
  user true is = ap (λ (t : Terminal). t.user) (is-released true is)
  user false is = ap (λ (t : Terminal). t.user) (is-released false is)

  pub forgotten-released : forgotten process (released process t) ≡ forgotten process t
  forgotten-released =
      let twice = again (option_map_or (is_process process) (reader t) false) refl in
      let same = user (option_map_or (is_process process) (reader t) false) refl in
      λ i. if option_map_or (is_process process) (same i) false then record (twice i) { user = None } else twice i

-- one terminal of a list, of which nothing else is forgotten
map-one : (f g : Terminal → Terminal) → ((t : Terminal) → f (g t) ≡ f t) → (terminals : List Terminal) (n : ℕ) → map f (set terminals n (g (get_or terminals n new_terminal))) ≡ map f terminals
map-one f g same [] n = refl
map-one f g same (t ∷ terminals) zero = ap (λ t. t ∷ map f terminals) (same t)
map-one f g same (t ∷ terminals) (suc n) = ap (λ terminals. f t ∷ terminals) (map-one f g same terminals n)

-- ---- the end

module _ (io : Io) (p : ℕ) where
  -- the end with these terminals and these calls
  end-apart : (terminals : List Terminal) (calls : List (Option PendingCall)) → map (forgotten (pid p)) terminals ≡ map
      (forgotten (pid p)) io.terminals → slice_set calls p None ≡ slice_set io.calls p None
      → io_ended (apart io terminals calls) p ≡ io_ended io p
  end-apart terminals calls forgets keeps =
      let there : closed_below (apart io terminals calls) p PROCESS_PATHS ≡ apart (closed_below io p PROCESS_PATHS) terminals calls = closed-apart terminals calls io p PROCESS_PATHS in
      let here : closed_below io p PROCESS_PATHS ≡ apart (closed_below io p PROCESS_PATHS) io.terminals io.calls = closed-apart io.terminals io.calls io p PROCESS_PATHS in
      ap (λ (io : Io). with_call (without_user io p) p None) there
      ∙ (λ i. record (closed_below io p PROCESS_PATHS) { terminals = forgets i; calls = keeps i })
      ∙ sym (ap (λ (io : Io). with_call (without_user io p) p None) here)

  twice : slice_set (slice_set io.calls p None) p None ≡ slice_set io.calls p None
  twice = set-set io.calls p None None

  by_target : (target : Option Target) → io_ended (with_call (without_unfinished io p target) p None) p ≡ io_ended io p
  by_target None = end-apart io.terminals (slice_set io.calls p None) refl twice
  by_target (Some (File drive sector)) = end-apart io.terminals (slice_set io.calls p None) refl twice
  by_target (Some (Folder drive sector)) = end-apart io.terminals (slice_set io.calls p None) refl twice
  by_target (Some (Term n)) =
      end-apart (slice_set io.terminals n (released (pid p) (terminal_at io n))) (slice_set io.calls p None)
      (map-one (forgotten (pid p)) (released (pid p)) (forgotten-released (pid p)) io.terminals n) twice
  by_target (Some (Pipe pipe)) = end-apart io.terminals (slice_set io.calls p None) refl twice

  pub ended-interrupted : io_ended (io_interrupted io p) p ≡ io_ended io p
  ended-interrupted = by_target (wait_target io p)
