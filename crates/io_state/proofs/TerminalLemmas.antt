-- The state where a terminal and what is kept of a call changed.
use Rattle.std.proofs.Common.{◌≡◌, ◌<◌, ◌⊎◌, ◌∙◌, ℕ, zero, suc, Option, Some, None, IfSome, List, map, length, get_or, set, slice_set, sym, ap, refl, subst, arith}
use Rattle.std.proofs.lemmas.List.{length-set, length-map, get_or-set_same, get_or_read}
use Rattle.device_table.proofs.TerminalLemmas.{ChangesOne-set}
use Rattle.os9_outer.specs.TerminalState.{TerminalState, ChangesOneTerminal}
use Rattle.io_model.specs.Terminal.{Terminal, new_terminal, TerminalReadAttempt, released, forgotten}
use Rattle.io_model.specs.Path.{PathTable, slot_of, paths_after_close, closed_desc}
use Rattle.io_model.specs.declared.path.Desc.{Desc}
use Rattle.io_model.specs.declared.path.SysPath.{SysPath}
use Rattle.io_model.specs.declared.path.Target.{Target}
use Rattle.io_model.specs.declared.path.Target.TheVariants.{File, Folder, Term, Pipe}
use Rattle.io_model.specs.declared.pending.PendingCall.{PendingCall}
use Rattle.io_model.specs.declared.terminal.Progress.{Progress}
use Rattle.io_model.specs.declared.terminal.ReadKind.{ReadKind}
use Rattle.io_model.specs.Io.{Io, pending_at, terminal_at, with_call, with_paths, with_terminal}
use Rattle.io_model.specs.Close.{without_path, without_target}
use Rattle.io_model.specs.Processes.{closed_below, closed_if_open, without_user}
use Rattle.io_model.specs.Waiting.{pid, wait_target}
use Rattle.io_state.proofs.HeldLemmas.{holder-within}
use Rattle.io_state.proofs.WaitLemmas.{read-leaves, no-reader_off, waits-after_read, waits-after_write, waits-left, waits-released, waits-dropped, waits-forgotten}
use Rattle.io_state.specs.Sound.{AreWaits, IsIo, IsNoRead, most_of}
use Rattle.io_state.specs.Terminals.{MayReadTerminal, pending_after}
use Rattle.terminal_mgr.specs.Term.{read_of}

-- a terminal changed, and its driver with it
pub terminal-changed : {Driver : Type 0} (screen : Driver → TerminalState) (change : Terminal → Terminal
    → TerminalState → TerminalState → Type 0) (terms now : List Terminal) (drivers : List Driver) (n : ℕ)
    (t u : Terminal) (old new : Driver) → terms ≡ now → n < length terms → n < length drivers → t ≡ get_or terms n t
    → old ≡ get_or drivers n old → change t u (screen old) (screen new) → ChangesOneTerminal
    (change (get_or now n new_terminal) (get_or (set terms n u) n new_terminal)) n (map screen drivers)
    (map screen (slice_set drivers n new))
terminal-changed screen change terms now drivers n t u old new same inside there here held changed =
    ChangesOne-set screen (change (get_or now n new_terminal) (get_or (set terms n u) n new_terminal)) drivers n old new there held
    (subst (λ (x : Terminal). change (get_or now n new_terminal) x (screen old) (screen new)) (sym (get_or-set_same terms n u new_terminal inside))
    (subst (λ (ts : List Terminal). change (get_or ts n new_terminal) u (screen old) (screen new)) same
    (subst (λ (x : Terminal). change x u (screen old) (screen new)) (get_or_read terms n t inside here new_terminal) changed)))

-- the state where a terminal and what is kept of a call changed
pub is-io_changed : (io : Io) (p n : ℕ) (t : Terminal) (terminals : List Terminal) (pending now : Option PendingCall)
    → terminals ≡ set io.terminals n t → now ≡ pending → AreWaits (with_call (with_terminal io n t) p pending) → IsIo io
    → IsIo (record { paths = io.paths; terminals = terminals; pipes = io.pipes; calls = set io.calls p now })
is-io_changed io p n t terminals pending now changed same waits is =
    subst (λ (ts : List Terminal). IsIo (record { paths = io.paths; terminals = ts; pipes = io.pipes; calls = set io.calls p now })) (sym changed)
    (subst (λ (k : Option PendingCall). IsIo (with_call (with_terminal io n t) p k)) (sym same) (record {
      paths = is.paths;
      terminals = length-set io.terminals n t ∙ is.terminals;
      calls = length-set io.calls p pending ∙ is.calls;
      targets = record { pipes = is.targets.pipes; one_path = is.targets.one_path; terminals = is.targets.terminals };
      waits = waits;
    }))

-- the state where a terminal changed
pub is-io_with_terminal : (io : Io) (n : ℕ) (t : Terminal) (terminals : List Terminal) → terminals ≡ set io.terminals
    n t → (t.reading ≡ None) ⊎ (t.reading ≡ (terminal_at io n).reading) → IsIo io
    → IsIo (record { paths = io.paths; terminals = terminals; pipes = io.pipes; calls = io.calls })
is-io_with_terminal io n t terminals changed leaves is =
    subst (λ (ts : List Terminal). IsIo (record { paths = io.paths; terminals = ts; pipes = io.pipes; calls = io.calls })) (sym changed) (record {
      paths = is.paths;
      terminals = length-set io.terminals n t ∙ is.terminals;
      calls = is.calls;
      targets = record { pipes = is.targets.pipes; one_path = is.targets.one_path; terminals = is.targets.terminals };
      waits = waits-left io n t leaves is.waits;
    })

-- after an attempt of a read
pub is-io_read : (io : Io) (p n most : ℕ) (kind : ReadKind) (call : PendingCall) (answer : Progress)
    (terminals : List Terminal) (pending : Option PendingCall) (before after : TerminalState) → IsIo io → MayReadTerminal io p n kind
    call → most ≡ most_of call → terminals ≡ set io.terminals n (get_or terminals n new_terminal)
    → TerminalReadAttempt (read_of (pid p) kind most) answer (terminal_at io n) (get_or terminals n new_terminal) before after
    → pending ≡ pending_after answer call → IsIo (record {
      paths = io.paths;
      terminals = terminals;
      pipes = io.pipes;
      calls = set io.calls p pending;
    })
is-io_read io p n most kind call answer terminals pending before after is may same changed reads now =
    let t : Terminal = get_or terminals n new_terminal in
    let process : p < length io.calls = omega (arith, holder-within io.paths p call.path.0 is.paths may.may.held, is.calls) in
    let terminal : n < length io.terminals = omega (arith, is.targets.terminals call.path.0 n may.on, is.terminals) in
    let leaves = read-leaves (read_of (pid p) kind (most_of call)) answer (terminal_at io n) t before after
    (subst (λ (m : ℕ). TerminalReadAttempt (read_of (pid p) kind m) answer (terminal_at io n) t before after) same reads) in
    is-io_changed io p n t terminals (pending_after answer call) pending changed now (waits-after_read io p n kind call t answer process terminal may leaves is.waits) is

-- after an attempt of a write
pub is-io_written : (io : Io) (p n : ℕ) (terminals : List Terminal) → IsIo io → p < 33 → IfSome (pending_at io p)
    (IsNoRead io) → terminals ≡ set io.terminals n (get_or terminals n new_terminal)
    → ((get_or terminals n new_terminal).reading ≡ None) ⊎ ((get_or terminals n new_terminal).reading ≡
    (terminal_at io n).reading) → IsIo (record {
      paths = io.paths;
      terminals = terminals;
      pipes = io.pipes;
      calls =
          set io.calls p None;
    })
is-io_written io p n terminals is process free changed leaves =
    is-io_changed io p n (get_or terminals n new_terminal) terminals None None changed refl
    (waits-after_write io p n (get_or terminals n new_terminal) (omega (arith, process, is.calls)) free leaves
    is.waits) is

-- after the call of a process was broken off that waits on this terminal
pub is-io_released : (io : Io) (p n : ℕ) (terminals : List Terminal) → terminals ≡ set io.terminals n
    (released (pid p) (terminal_at io n)) → wait_target io p ≡ Some (Term n) → p < 33 → n < 4 → IsIo io
    → IsIo (record { paths = io.paths; terminals = terminals; pipes = io.pipes; calls = set io.calls p None })
is-io_released io p n terminals changed on process there is =
    is-io_changed io p n (released (pid p) (terminal_at io n)) terminals None None changed refl
    (waits-released io p n (omega (arith, process, is.calls)) (omega (arith, there, is.terminals)) on is.waits) is

-- after the call of a process was dropped that waits on no terminal
pub is-io_dropped : (io : Io) (p : ℕ) → ((n : ℕ) → wait_target io p ≡ Some (Term n) → ⊥) → p < 33 → IsIo io → IsIo (with_call io p None)
is-io_dropped io p off process is = record {
  paths = is.paths;
  terminals = is.terminals;
  calls = length-set io.calls p None ∙ is.calls;
  targets = record { pipes = is.targets.pipes; one_path = is.targets.one_path; terminals = is.targets.terminals };
  waits = waits-dropped io p (omega (arith, process, is.calls)) (no-reader_off io p off is.waits) is.waits;
}

-- after a process was forgotten
pub is-io_forgotten : (io : Io) (p : ℕ) (terminals : List Terminal) → terminals ≡ map (forgotten (pid p)) io.terminals
    → p < 33 → IsIo io → IsIo (record {
      paths = io.paths;
      terminals = terminals;
      pipes = io.pipes;
      calls = set
          io.calls p None;
    })
is-io_forgotten io p terminals changed process is =
    subst (λ (ts : List Terminal). IsIo (record { paths = io.paths; terminals = ts; pipes = io.pipes; calls = set io.calls p None })) (sym changed) (record {
      paths = is.paths;
      terminals = length-map io.terminals (forgotten (pid p)) ∙ is.terminals;
      calls = length-set io.calls p None ∙ is.calls;
      targets = record { pipes = is.targets.pipes; one_path = is.targets.one_path; terminals = is.targets.terminals };
      waits = waits-forgotten io p (omega (arith, process, is.calls)) is.waits;
    })

-- ---- the end of a process: its paths may be closed after its terminals and its call were dropped

-- no trace of a process is on the terminals, and no call of it is kept
abbrev pub traceless : Io → ℕ → Io
traceless io p = with_call (without_user io p) p None

gone-same : (io : Io) (p : ℕ) (paths : PathTable) (gone : Option Desc) → without_path (with_paths (traceless io p) paths) gone ≡ traceless (without_path (with_paths io paths) gone) p
gone-same io p paths None = refl
gone-same io p paths (Some desc) = by desc.target
  where
    by : (x : Target) → without_target (with_paths (traceless io p) paths) x ≡ traceless (without_target (with_paths io paths) x) p
    by (File drive sector) = refl
    by (Folder drive sector) = refl
    by (Term terminal) = refl
    by (Pipe pipe) = refl

closed-same : (io : Io) (p n : ℕ) (path : Option SysPath) → closed_if_open (traceless io p) p n path ≡ traceless (closed_if_open io p n path) p
closed-same io p n None = refl
closed-same io p n (Some path) = gone-same io p (paths_after_close io.paths p n) (closed_desc io.paths p n)

pub ended-same : (io : Io) (p n : ℕ) → closed_below (traceless io p) p n ≡ traceless (closed_below io p n) p
ended-same io p zero = refl
ended-same io p (suc n) =
    ap (λ (now : Io). closed_if_open now p n (slot_of now.paths p n)) (ended-same io p n) ∙ closed-same (closed_below io p n) p n (slot_of (closed_below io p n).paths p n)
