-- The codes of calls: none is of two calls, and a process that attempts none on a path.
use Rattle.std.proofs.Common.{◌≡◌, ℕ, ◌==◌, Bool, true, false, Some, None, List, [], ◌∷◌, refl, sym, ap, ◌∙◌, subst}
use Rattle.std.specs.Prelude.{find, option_map, if◌then◌else◌}
use Rattle.std.proofs.lemmas.Bool.{eqb-true}
use Rattle.std.proofs.lemmas.Option.{none-some, same_Some}
use Rattle.proc_model.specs.declared.proc_call.ProcCall.{ProcCall}
use Rattle.proc_model.specs.Codes.{call_codes, call_of}
use Rattle.proc_model.specs.Ready.{Act, attempts, delivers, executes}
use Rattle.io_model.specs.Codes.{io_call_of}
use Rattle.io_model.specs.declared.io_call.IoCall.{IoCall}

-- the fact holds of each code and its call
abbrev pub EachCode : {C : Type 0} → (ℕ → C → Type 0) → List (ℕ × C) → Type 0
EachCode fact [] = Unit {0}
EachCode fact (coded ∷ rest) = fact coded.0 coded.1 × EachCode fact rest

pub found-code : {C : Type 0} (fact : ℕ → C → Type 0) (codes : List (ℕ × C)) (code : ℕ) (call : C)
    → EachCode fact codes → option_map (λ (coded : ℕ × C). coded.1) (find (λ (coded : ℕ × C). coded.0 == code) codes)
    ≡ Some call → fact code call
found-code fact [] code call each is = absurd (none-some call is)
found-code {C} fact (coded ∷ rest) code call each is = by_test (coded.0 == code) refl (found-code fact rest code call each.1) is
  where
    by_test : (test : Bool) → (coded.0 == code) ≡ test
        → (option_map (λ (coded : ℕ × C). coded.1) (find (λ (coded : ℕ × C). coded.0 == code) rest) ≡ Some call
        → fact code call) → option_map (λ (coded : ℕ × C). coded.1) (if test then Some coded else find
        (λ (coded : ℕ × C). coded.0 == code) rest) ≡ Some call → fact code call
    by_test true at later is =
        subst (λ (n : ℕ). fact n call) (eqb-true coded.0 code at) (subst (fact coded.0) (same_Some coded.1 call is) each.0)
    by_test false at later is = later is

-- a code of a call on processes and modules is of no call on paths
pub not-both : (code : ℕ) (call : ProcCall) (other : IoCall) → call_of code ≡ Some call → io_call_of code ≡ Some other → ⊥
not-both code call other is there =
    none-some other
    (sym (found-code (λ n c. io_call_of n ≡ None) call_codes code call (
      refl,
      (
        refl,
        (
          refl,
          (
            refl,
            (refl, (refl, (refl, (refl, (refl, (refl, (refl, (refl, (refl, (refl, (refl, (refl, (refl, tt))))))))))))),
          ),
        ),
      ),
    )
    is) ∙ there)

-- ---- what a process does

abbrev code_in : Act → ℕ
code_in (attempts code) = code
code_in (delivers signal) = signal
code_in executes = 0

pub same-code : (a b : ℕ) → attempts a ≡ attempts b → a ≡ b
same-code a b is = ap code_in is

-- it attempts no call on a path
abbrev pub AttemptsNone : Act → Type 0
AttemptsNone act = (code : ℕ) (call : IoCall) → act ≡ attempts code → io_call_of code ≡ Some call → ⊥

delivers-attempts : (signal code : ℕ) → delivers signal ≡ attempts code → ⊥
delivers-attempts signal code is = cc

executes-attempts : (code : ℕ) → executes ≡ attempts code → ⊥
executes-attempts code is = cc

pub none-delivering : (act : Act) (signal : ℕ) → act ≡ delivers signal → AttemptsNone act
none-delivering act signal next code call is coded = delivers-attempts signal code (sym next ∙ is)

pub none-executing : (act : Act) → act ≡ executes → AttemptsNone act
none-executing act next code call is coded = executes-attempts code (sym next ∙ is)
