-- The codes of calls: each call on paths has one, and it is no code of another call.
use Rattle.std.proofs.Common.{◌≡◌, ℕ, ◌==◌, Bool, true, false, Some, None, List, [], ◌∷◌, refl, sym, ◌∙◌, subst}
use Rattle.std.specs.Prelude.{find, option_map, if◌then◌else◌}
use Rattle.std.proofs.lemmas.Bool.{eqb-true}
use Rattle.std.proofs.lemmas.Option.{none-some, same_Some}
use Rattle.os9_base.specs.declared.calls.TheConstants.{I_DUP, I_CREATE, I_OPEN, I_CLOSE, I_READ, I_READLN, I_WRITE, I_WRITLN, I_GETSTT, I_SETSTT, F_PERR}
use Rattle.proc_model.specs.declared.proc_call.ProcCall.{ProcCall}
use Rattle.proc_model.specs.Codes.{call_codes, call_of}
use Rattle.io_model.specs.Codes.{io_call_of, io_codes}
use Rattle.io_model.specs.declared.io_call.IoCall.{IoCall}
use Rattle.io_model.specs.declared.io_call.IoCall.TheVariants as Call

-- the code of a call
abbrev pub code_of : IoCall → ℕ
code_of Call.Dup = I_DUP
code_of Call.Create = I_CREATE
code_of Call.Open = I_OPEN
code_of Call.Close = I_CLOSE
code_of Call.Read = I_READ
code_of Call.ReadLn = I_READLN
code_of Call.Write = I_WRITE
code_of Call.WritLn = I_WRITLN
code_of Call.GetStt = I_GETSTT
code_of Call.SetStt = I_SETSTT
code_of Call.PErr = F_PERR

-- the fact holds of each code and its call
abbrev EachCode : {C : Type 0} → (ℕ → C → Type 0) → List (ℕ × C) → Type 0
EachCode fact [] = Unit {0}
EachCode fact (coded ∷ rest) = fact coded.0 coded.1 × EachCode fact rest

found-code : {C : Type 0} (fact : ℕ → C → Type 0) (codes : List (ℕ × C)) (code : ℕ) (call : C) → EachCode fact codes
    → option_map (λ (coded : ℕ × C). coded.1) (find (λ (coded : ℕ × C). coded.0 == code) codes) ≡ Some call
    → fact code call
found-code fact [] code call each is = absurd (none-some call is)
found-code {C} fact (coded ∷ rest) code call each is = by_test (coded.0 == code) refl (found-code fact rest code call each.1) is
  where
    by_test : (test : Bool) → (coded.0 == code) ≡ test
        → (option_map (λ (coded : ℕ × C). coded.1) (find (λ (coded : ℕ × C). coded.0 == code) rest) ≡ Some call
        → fact code call) → option_map (λ (coded : ℕ × C). coded.1) (if test then Some coded else find
        (λ (coded : ℕ × C). coded.0 == code) rest) ≡ Some call → fact code call
    by_test true at later is =
        subst (λ (n : ℕ). fact n call) (eqb-true coded.0 code at) (subst (fact coded.0) (same_Some coded.1 call is) each.0)
    by_test false at later is = later is

-- a call has one code
pub code-is : (code : ℕ) (call : IoCall) → io_call_of code ≡ Some call → code ≡ code_of call
code-is code call is =
    found-code (λ n c. n ≡ code_of c) io_codes code call
    (refl, (refl, (refl, (refl, (refl, (refl, (refl, (refl, (refl, (refl, (refl, tt))))))))))) is

-- a code of a call on processes and modules is of no call on paths
pub not-both : (code : ℕ) (call : ProcCall) (other : IoCall) → call_of code ≡ Some call → io_call_of code ≡ Some other → ⊥
not-both code call other is there =
    none-some other
    (sym (found-code (λ n c. io_call_of n ≡ None) call_codes code call (
      refl,
      (
        refl,
        (
          refl,
          (
            refl,
            (refl, (refl, (refl, (refl, (refl, (refl, (refl, (refl, (refl, (refl, (refl, (refl, (refl, tt))))))))))))),
          ),
        ),
      ),
    )
    is) ∙ there)
