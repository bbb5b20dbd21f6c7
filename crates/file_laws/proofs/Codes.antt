-- The codes of calls on files, and of those on terminals and pipes.
use Rattle.std.proofs.Common.{◌≡◌, ℕ, ◌==◌, Bool, true, false, Option, Some, None, List, [], ◌∷◌, refl, sym, ap, ◌∙◌, subst}
use Rattle.std.specs.Prelude.{find, is_some, option_map, if◌then◌else◌}
use Rattle.std.proofs.lemmas.Bool.{eqb-true, false≢true}
use Rattle.std.proofs.lemmas.Option.{none-some, same_Some}
use Rattle.io_model.specs.Codes.{io_call_of, io_codes}
use Rattle.io_model.specs.declared.io_call.IoCall.{IoCall}
use Rattle.file_rules.specs.Codes.{path_call_of, path_codes}
use Rattle.file_rules.specs.declared.path_call.PathCall.{PathCall}
use Rattle.file_laws.specs.Devices.{device_call}

-- the fact holds of each code and its call
abbrev EachCode : {C : Type 0} → (ℕ → C → Type 0) → List (ℕ × C) → Type 0
EachCode fact [] = Unit {0}
EachCode fact (coded ∷ rest) = fact coded.0 coded.1 × EachCode fact rest

found-code : {C : Type 0} (fact : ℕ → C → Type 0) (codes : List (ℕ × C)) (code : ℕ) (call : C) → EachCode fact codes
    → option_map (λ (coded : ℕ × C). coded.1) (find (λ (coded : ℕ × C). coded.0 == code) codes) ≡ Some call
    → fact code call
found-code fact [] code call each is = absurd (none-some call is)
found-code {C} fact (coded ∷ rest) code call each is = by_test (coded.0 == code) refl (found-code fact rest code call each.1) is
  where
    by_test : (test : Bool) → (coded.0 == code) ≡ test
        → (option_map (λ (coded : ℕ × C). coded.1) (find (λ (coded : ℕ × C). coded.0 == code) rest) ≡ Some call
        → fact code call) → option_map (λ (coded : ℕ × C). coded.1) (if test then Some coded else find
        (λ (coded : ℕ × C). coded.0 == code) rest) ≡ Some call → fact code call
    by_test true at later is =
        subst (λ (n : ℕ). fact n call) (eqb-true coded.0 code at) (subst (fact coded.0) (same_Some coded.1 call is) each.0)
    by_test false at later is = later is

pub code-there : (code : ℕ) (call : PathCall) → path_call_of code ≡ Some call → io_call_of code ≡ device_call call
code-there code call is =
    found-code (λ n c. io_call_of n ≡ device_call c) path_codes code call
    (refl, (refl, (refl, (refl, (refl, (refl, (refl, (refl, (refl, (refl, (refl, (refl, (refl, (refl, (refl, (refl, tt)))))))))))))))) is

some-there : (code : ℕ) (call : IoCall) → io_call_of code ≡ Some call → is_some (path_call_of code) ≡ true
some-there code call is =
    found-code (λ n c. is_some (path_call_of n) ≡ true) io_codes code call
    (refl, (refl, (refl, (refl, (refl, (refl, (refl, (refl, (refl, (refl, (refl, tt))))))))))) is

pub code-none : (code : ℕ) → path_call_of code ≡ None → io_call_of code ≡ None
code-none code none = by_call (io_call_of code) (some-there code)
  where
    by_call : (call : Option IoCall) → ((c : IoCall) → call ≡ Some c → is_some (path_call_of code) ≡ true) → call ≡ None
    by_call None some = refl
    by_call (Some call) some =
        absurd (false≢true (sym (ap (λ (o : Option PathCall). is_some o) none) ∙ some call refl))
