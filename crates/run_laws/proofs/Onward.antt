-- A session goes on turn by turn.
use Rattle.std.proofs.Common.{◌≡◌, ℕ, ◌+◌, true, List, [], ◌∷◌, ◌++◌, refl, sym, ap, ◌∙◌, subst}
use Rattle.std.proofs.lemmas.List.{append_assoc, append-nil}
use Rattle.machine_model.specs.Console.{console_bytes, terminals_emptied}
use Rattle.machine_model.specs.declared.ends.SliceEnd.{SliceEnd}
use Rattle.machine_model.specs.Run.{Slice}
use Rattle.machine_model.specs.State.{State, has_living}
use Rattle.run_laws.specs.Session.{AreLater, Session, SessionTurn, keys_then, script, with_keys}
use Rattle.run_laws.specs.SoFar.{SessionSoFar}
use Rattle.run_laws.proofs.Loads.{later-before, later-then}

pub comes-first : (s : State) → SessionSoFar [] s [] [] s
comes-first s more later rest t are_later session = session

-- one more turn
pub comes-on : (turns : List SessionTurn) (turn : SessionTurn) (s m t : State) (states first : List State) (written : List ℕ) (end : SliceEnd) → SessionSoFar turns s states written m
    → has_living m ≡ true → AreLater m.processes.tick turn.load → t.processes.tick ≡ m.processes.tick + 1 → Slice turn.count (with_keys m turn.load) first end t
    → SessionSoFar (turns ++ turn ∷ []) s (states ++ first) (written ++ console_bytes t.terms) (record t { terms = terminals_emptied t.terms })
comes-on turns turn s m t states first written end comes lives load ticked slice more later rest u are_later session =
    let due : AreLater (m.processes.tick + 1) (script more) = subst (λ (tick : ℕ). AreLater tick (script more)) ticked are_later in
    let turned : Session (turn ∷ more) m (first ++ later) (console_bytes t.terms ++ rest) u =
    rw lives (due, end, t, first, later, rest, slice, refl, refl, session) in
    let all : Session (turns ++ turn ∷ more) s (states ++ (first ++ later)) (written ++ (console_bytes t.terms ++ rest)) u =
    comes (turn ∷ more) (first ++ later) (console_bytes t.terms ++ rest) u (later-then m.processes.tick turn.load (script more) load (later-before m.processes.tick (script more) due)) turned in
    let moved : Session ((turns ++ turn ∷ []) ++ more) s (states ++ (first ++ later)) (written ++ (console_bytes t.terms ++ rest)) u =
    subst (λ (turns : List SessionTurn). Session turns s (states ++ (first ++ later)) (written ++ (console_bytes t.terms ++ rest)) u) (sym (append_assoc turns (turn ∷ []) more)) all in
    let through : Session ((turns ++ turn ∷ []) ++ more) s ((states ++ first) ++ later) (written ++ (console_bytes t.terms ++ rest)) u =
    subst (λ (states : List State). Session ((turns ++ turn ∷ []) ++ more) s states (written ++ (console_bytes t.terms ++ rest)) u) (sym (append_assoc states first later)) moved in
    subst (λ (bytes : List ℕ). Session ((turns ++ turn ∷ []) ++ more) s ((states ++ first) ++ later) bytes u) (sym (append_assoc written (console_bytes t.terms) rest)) through

-- where it stops
pub comes-last : (turns : List SessionTurn) (s m : State) (states : List State) (written : List ℕ) → SessionSoFar turns s states written m → Session turns s states written m
comes-last turns s m states written comes =
    let all : Session (turns ++ []) s (states ++ []) (written ++ []) m = comes [] [] [] m tt (refl, refl, refl) in
    rw (append-nil turns, append-nil states, append-nil written) at all
