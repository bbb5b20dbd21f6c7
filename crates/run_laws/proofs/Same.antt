-- Two sessions with one script.
use Rattle.std.proofs.Common.{◌≡◌, ℕ, List, [], ◌∷◌, refl, sym, ap, ◌∙◌, subst}
use Rattle.std.specs.List.{AllZip}
use Rattle.os9_outer.specs.TerminalState.{TerminalState}
use Rattle.machine_model.specs.Run.{Run}
use Rattle.machine_model.specs.State.{State}
use Rattle.run_laws.specs.Faults.{NoneFailed, NotFailed, SameRun}
use Rattle.run_laws.specs.Reached.{NeverChooses}
use Rattle.run_laws.specs.Session.{IsRunOf, Keys, Session, SessionTurn, counts, keys_loaded, script, with_keys}
use Rattle.run_laws.proofs.Runs.{run-one}
use Rattle.run_laws.proofs.Sessions.{session-runs}

-- keys that were loaded let no terminal fail
unfailed-loaded : (befores nows : List TerminalState) (keys others : Keys) → AllZip NotFailed befores nows → AllZip NotFailed (keys_loaded befores keys) (keys_loaded nows others)
unfailed-loaded [] [] [] [] none = none
unfailed-loaded [] [] [] (o ∷ os) none = none
unfailed-loaded [] [] (k ∷ ks) [] none = tt
unfailed-loaded [] [] (k ∷ ks) (o ∷ os) none = tt
unfailed-loaded [] (now ∷ nows) keys others none = absurd none
unfailed-loaded (before ∷ befores) [] keys others none = absurd none
unfailed-loaded (before ∷ befores) (now ∷ nows) [] [] none = none
unfailed-loaded (before ∷ befores) (now ∷ nows) [] (o ∷ os) none = (none.0, unfailed-loaded befores nows [] os none.1)
unfailed-loaded (before ∷ befores) (now ∷ nows) (k ∷ ks) [] none = (none.0, unfailed-loaded befores nows ks [] none.1)
unfailed-loaded (before ∷ befores) (now ∷ nows) (k ∷ ks) (o ∷ os) none = (none.0, unfailed-loaded befores nows ks os none.1)

none-failed : (s t last : State) (keys left : Keys) → last ≡ with_keys t left → NoneFailed s t → NoneFailed (with_keys s keys) last
none-failed s t last keys left is none =
    subst (NoneFailed (with_keys s keys)) (sym is)
    (record { terminals = unfailed-loaded s.terms t.terms keys left none.terminals; drives = none.drives })

pub sessions-same : (turns others : List SessionTurn) (s t u : State) (states through : List State) (written bytes : List ℕ) → script turns ≡ script others → counts turns ≡ counts others
    → NeverChooses (with_keys s (script turns)) → NoneFailed s t → NoneFailed s u → Session turns s states written t → Session others s through bytes u → written ≡ bytes
sessions-same turns others s t u states through written bytes scripts slices never none none_too session session_too =
    let one : IsRunOf turns s states written t = session-runs turns s states written t session in
    let two : IsRunOf others s through bytes u = session-runs others s through bytes u session_too in
    let moved : Run (counts others) (with_keys s (script turns)) two.through bytes two.last = subst
    (λ (keys : Keys). Run (counts others) (with_keys s keys) two.through bytes two.last) (sym scripts) two.run in
    let run : Run (counts turns) (with_keys s (script turns)) two.through bytes two.last = subst
    (λ (slices : List ℕ). Run slices (with_keys s (script turns)) two.through bytes two.last) (sym slices) moved
    in
    let same : SameRun one.through written one.last two.through bytes two.last = run-one (counts turns) written bytes
    (with_keys s (script turns)) one.last two.last one.through two.through never one.run run
    (none-failed s t one.last (script turns) one.same.left one.same.is none) (none-failed s u two.last (script turns) two.same.left two.same.is none_too) in
    same.writes
