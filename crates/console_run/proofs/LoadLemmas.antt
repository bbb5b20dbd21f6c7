-- A kernel and its devices where keys are loaded.
use Rattle.std.proofs.Common.{◌≡◌, List, [], ◌∷◌, ◌++◌, length, sym, ap, ◌∙◌, subst, All}
use Rattle.std.proofs.lemmas.List.Elements.{All-cons, All-head, All-tail}
use Rattle.os9_outer.specs.TerminalState.{TerminalState}
use Rattle.lock_laws.proofs.OpenRuns.{terminals-open}
use Rattle.machine_model.specs.State.{State}
use Rattle.run_laws.specs.Session.{Keys, keys_loaded, with_keys}
use Rattle.os9_kernel.specs.declared.kernel.Kernel.{Kernel}
use Rattle.os9_kernel.specs.Outside.{Outside}
use Rattle.os9_kernel.specs.Tie.{Represents, RepresentsSomeState}
use Rattle.boot_run.specs.Console.{IsObserved}
use Rattle.console_run.proofs.KeyLemmas.{count-loaded}

-- the bytes of loaded terminals are observed still
pub observed-loaded : (terms : List TerminalState) (keys : Keys) → All IsObserved terms → All IsObserved (keys_loaded terms keys)
observed-loaded terms [] observed = observed
observed-loaded [] (k ∷ ks) observed = observed
observed-loaded (term ∷ terms) (k ∷ ks) observed =
    All-cons IsObserved (record term { keys = term.keys ++ k }) (keys_loaded terms ks) (All-head IsObserved term terms observed) (observed-loaded terms ks (All-tail IsObserved term terms observed))

pub unladen : (terms : List TerminalState) (keys : Keys) → All IsObserved (keys_loaded terms keys) → All IsObserved terms
unladen terms [] observed = observed
unladen [] (k ∷ ks) observed = observed
unladen (term ∷ terms) (k ∷ ks) observed =
    All-cons IsObserved term terms (All-head IsObserved (record term { keys = term.keys ++ k }) (keys_loaded terms ks)
    observed) (unladen terms ks (All-tail IsObserved (record term { keys = term.keys ++ k })
    (keys_loaded terms ks) observed))

-- ---- a kernel and its devices

-- it stands for the state with the terminals that are there now
pub represents-with : (kernel : Kernel) (devices now : Outside) (s : State) → now.drives ≡ devices.drives
    → length now.terms ≡ length devices.terms → Represents kernel devices s → Represents kernel now
    (record s { terms = now.terms })
represents-with kernel devices now s drives count tied =
    let there : s.terms ≡ devices.terms = ap (λ (s : State). s.terms) tied.is in
    let here : Outside = record devices { terms = now.terms } in
    let same : here ≡ now = λ i. record { drives = sym drives i; terms = now.terms } in
    subst (λ (outside : Outside). Represents kernel outside (record s { terms = now.terms })) same
    (record {
      processes = tied.processes;
      files = tied.files;
      is = λ i. record (tied.is i) { terms = now.terms };
      run = terminals-open s now.terms (count ∙ ap length (sym there)) tied.run;
      looked = tied.looked;
      known = tied.known;
    })

-- where keys were loaded
pub represents-loaded : (kernel : Kernel) (devices now : Outside) (s : State) (keys : Keys)
    → now.drives ≡ devices.drives → now.terms ≡ keys_loaded devices.terms keys → Represents kernel devices s
    → Represents kernel now (with_keys s keys)
represents-loaded kernel devices now s keys drives loaded tied =
    let there : s.terms ≡ devices.terms = ap (λ (s : State). s.terms) tied.is in
    let count : length now.terms ≡ length devices.terms = ap length loaded ∙ count-loaded devices.terms keys in
    let same : now.terms ≡ keys_loaded s.terms keys = loaded ∙ ap (λ (terms : List TerminalState). keys_loaded terms keys) (sym there) in
    subst (λ (terms : List TerminalState). Represents kernel now (record s { terms = terms })) same (represents-with kernel devices now s drives count tied)

-- a kernel that stood stands there too
pub stands-loaded : (kernel : Kernel) (devices now : Outside) (keys : Keys) → now.drives ≡ devices.drives
    → now.terms ≡ keys_loaded devices.terms keys → RepresentsSomeState kernel devices → RepresentsSomeState kernel now
stands-loaded kernel devices now keys drives loaded (s, tied) =
    (with_keys s keys, represents-loaded kernel devices now s keys drives loaded tied)
