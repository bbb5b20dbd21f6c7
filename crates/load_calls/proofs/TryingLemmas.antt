-- Modules that were tried one after another.
use Rattle.std.proofs.Common.{MatchOption, is_none, replicate, le-leb, leb-true, leb-false, Err, ◌≡◌, ◌∙◌, ℕ, zero, suc, ◌+◌, ◌<◌, ◌==◌, ◌||◌, ◌&&◌, nat_le, Bool, true, false, Option, Some, None, Result, List, [], ◌∷◌, length, get_or, set, refl, ap, sym, subst, arith, if◌then◌else◌}
use Rattle.std.specs.List.{list_any}
use Rattle.std.specs.Option.{option_map_or}
use Rattle.os9_base.specs.declared.errors.TheConstants.{E_DIRFUL, E_KWNMOD}
use Rattle.std.proofs.lemmas.Bool.{ne_eqb}
use Rattle.std.proofs.lemmas.List.Sums.{count_by-le-length}
use Rattle.std.proofs.lemmas.List.Quantifiers.{position-Some}
use Rattle.proc_model.specs.Loading.{EntersModules, broken, entered, entry_refusal, module_error, refused, with_module}
use Rattle.proc_model.specs.Module.{step_from}
use Rattle.proc_model.specs.declared.module.ModuleFault.{ModuleFault}
use Rattle.proc_model.specs.declared.module.ModuleStep.TheVariants.{Module, Fault}
use Rattle.proc_model.specs.ModuleList.{ModuleEntry, are_namesakes, free_number, is_known, module_room, new_entry, passes, revision_of, with_module_entry}
use Rattle.proc_model.specs.declared.module.ModuleInfo.{ModuleInfo}
use Rattle.proc_model.proofs.ModuleListLaws.{room-with_entry, room_by_number}
use Rattle.load_calls.specs.Trying.{AreAlike, entry_refusal_beside, makes_known}

-- ---- lists in which a place is filled

or-false : (a : Bool) → (a || false) ≡ a
or-false true = refl
or-false false = refl

or-assoc : (a b c : Bool) → ((a || b) || c) ≡ (a || (b || c))
or-assoc true b c = refl
or-assoc false b c = refl

-- some element passes a test, where one that did not is replaced
any-set : {X : Type 0} (test : X → Bool) (xs : List X) (n : ℕ) (d x : X) → n < length xs → test (get_or xs n d) ≡ false → list_any test (set xs n x) ≡ (list_any test xs || test x)
any-set test [] n d x within out = absurd (omega arith)
any-set test (y ∷ ys) zero d x within out = rest (test y) (test x) (list_any test ys) out
  where
    rest : (a b c : Bool) → a ≡ false → (b || c) ≡ ((a || c) || b)
    rest true b c is = absurd cc
    rest false true true is = refl
    rest false true false is = refl
    rest false false true is = refl
    rest false false false is = refl
any-set test (y ∷ ys) (suc n) d x within out =
    ap (λ b. test y || b) (any-set test ys n d x (omega arith) out) ∙ sym (or-assoc (test y) (list_any test ys) (test x))

-- ---- the modules up to a place

-- what was tried up to here, so many modules, is entered in a directory, and what the rest comes to, they all come to
pub record Progress (file group : List ℕ) (dir entries : List (Option ModuleEntry)) (tried : List (Option ModuleInfo)) (count to : ℕ) : Type 0 where
  pub modules : List (Option ModuleEntry)
  pub known : (info : ModuleInfo) → is_known modules info ≡ (is_known dir info || list_any (makes_known info) tried)
  pub room : module_room modules + count ≡ module_room dir
  pub goes_on : (outcome : Result (List (Option ModuleEntry)) (ℕ × ℕ)) → EntersModules file group false to modules outcome → EntersModules file group false 0 entries outcome

-- a test of what is left of some room, and one of what is taken of it
room-test : (left count room : ℕ) → left + count ≡ room → (left == 0) ≡ nat_le room count
room-test zero count room is = sym (le-leb room count (omega (arith, is)))
room-test (suc left) count room is = by (nat_le room count) refl
  where
    by : (test : Bool) → nat_le room count ≡ test → (suc left == 0) ≡ nat_le room count
    by true e = absurd (omega (arith, leb-true room count e, is))
    by false e = ne_eqb (suc left) 0 (λ same. omega (arith, same)) ∙ sym e

-- the room that a directory has for a module that it takes
beside-none : (known full : Bool) → (if known then Some E_KWNMOD else (if full then Some E_DIRFUL else None)) ≡ None → full ≡ false
beside-none true full is = absurd cc
beside-none false true is = absurd cc
beside-none false false is = refl

not-none : (place : Option ModuleEntry) (test : ModuleEntry → Bool) → is_none place ≡ true → passes test place ≡ false
not-none None test is = refl
not-none (Some entry) test is = absurd cc

-- room for a module that is taken
pub count-below : (dir : List (Option ModuleEntry)) (tried : List (Option ModuleInfo)) (count : ℕ) (info : ModuleInfo) → entry_refusal_beside dir tried count info ≡ None → count < module_room dir
count-below dir tried count info none =
    by (nat_le (module_room dir) count) refl (beside-none (is_known dir info || list_any (makes_known info) tried) (nat_le (module_room dir) count) none)
  where
    by : (test : Bool) → nat_le (module_room dir) count ≡ test → nat_le (module_room dir) count ≡ false → count < module_room dir
    by true e full = absurd cc
    by false e full = omega (arith, leb-false (module_room dir) count e)

-- there are no more of them than places
pub count-few : (dir : List (Option ModuleEntry)) (tried : List (Option ModuleInfo)) (count : ℕ) (info : ModuleInfo) → length dir ≡ 64 → entry_refusal_beside dir tried count info ≡ None → count < 64
count-few dir tried count info places none =
    let below = count-below dir tried count info none in
    let room = count_by-le-length is_none dir in
    omega (arith, below, room, places)

-- ---- at the beginning

none-tried : (info : ModuleInfo) (k : ℕ) → list_any (makes_known info) (replicate k None) ≡ false
none-tried info zero = refl
none-tried info (suc k) = none-tried info k

pub free-tried : (k n : ℕ) → get_or (replicate k (let none : Option ModuleInfo = None in none)) n None ≡ None
free-tried zero n = refl
free-tried (suc k) zero = refl
free-tried (suc k) (suc n) = free-tried k n

-- nothing was tried yet
pub progress-none : (file group : List ℕ) (dir entries : List (Option ModuleEntry)) (k : ℕ) → AreAlike dir entries → Progress file group dir entries (replicate k None) 0 0
progress-none file group dir entries k alike = record {
  modules = entries;
  known = λ info. alike.known info ∙ sym (ap (λ (b : Bool). is_known dir info || b) (none-tried info k) ∙ or-false (is_known dir info));
  room = omega (arith, alike.room);
  goes_on = λ outcome rest. rest;
}

-- ---- the next module

module _ (file group : List ℕ) (dir entries : List (Option ModuleEntry)) (tried : List (Option ModuleInfo)) (count from : ℕ) (p : Progress file group dir entries tried count from) where
  -- a module is refused as beside those that were tried
  refusal-same : (info : ModuleInfo) → entry_refusal p.modules info ≡ entry_refusal_beside dir tried count info
  refusal-same info =
      ap (λ (b : Bool). if b then Some E_KWNMOD else (if module_room p.modules == 0 then Some E_DIRFUL else None)) (p.known info)
      ∙ ap (λ (b : Bool). if is_known dir info || list_any (makes_known info) tried then Some E_KWNMOD else
      (if b then Some E_DIRFUL else None)) (room-test (module_room p.modules) count (module_room dir) p.room)

  -- it is the first that is refused
  pub refused-next : (info : ModuleInfo) (number : ℕ) → step_from file from ≡ Module info → entry_refusal_beside dir
      tried count info ≡ Some number → EntersModules file group false 0 entries (Err (info.at, number))
  refused-next info number is not = p.goes_on (Err (info.at, number)) (refused is (refusal-same info ∙ not))

  -- it breaks a rule of its own
  pub broken-next : (at : ℕ) (fault : ModuleFault) → step_from file from ≡ Fault at fault → EntersModules file group false 0 entries (Err (at, module_error fault))
  broken-next at fault is = p.goes_on (Err (at, module_error fault)) (broken is)

  -- or is entered
  pub entered-next : (info : ModuleInfo) → step_from file from ≡ Module info → entry_refusal_beside dir tried count
      info ≡ None → count < length tried → get_or tried count None ≡ None → Progress file group dir entries
      (set tried count (Some info)) (count + 1) (info.at + info.size)
  entered-next info is none within free = record {
    modules = with_module p.modules info group false;
    known = λ other. by-known other (free_number p.modules) refl;
    room = by-room (free_number p.modules) refl (room_by_number p.modules);
    goes_on = λ outcome rest. p.goes_on outcome (entered is (refusal-same info ∙ none) rest);
  }
    where
      some-room : 0 < module_room p.modules
      some-room = omega (arith, p.room, count-below dir tried count info none)

      by-room : (place : Option ℕ) → free_number p.modules ≡ place → MatchOption place (module_room p.modules ≡ 0)
          (λ number. 0 < module_room p.modules) → module_room (with_module p.modules info group false) + (count + 1) ≡
          module_room dir
      by-room None at full = absurd (omega (arith, some-room, full))
      by-room (Some number) at room =
          let new = new_entry info group false in
          let placed : module_room (with_module p.modules info group false) ≡ module_room (with_module_entry p.modules number new) =
          ap (λ (place : Option ℕ). module_room (option_map_or (λ number. with_module_entry p.modules number new) place p.modules)) at
          in
          omega (arith, placed, room-with_entry p.modules number new at, p.room)

      in-tried : (other : ModuleInfo) → list_any (makes_known other) (set tried count (Some info)) ≡ (list_any (makes_known other) tried || makes_known other (Some info))
      in-tried other = any-set (makes_known other) tried count None (Some info) within (ap (makes_known other) free)

      by-known : (other : ModuleInfo) (place : Option ℕ) → free_number p.modules ≡ place
          → is_known (with_module p.modules info group false) other ≡ (is_known dir other || list_any
          (makes_known other) (set tried count (Some info)))
      by-known other None at = absurd (omega (arith, some-room, full-room at))
        where
          full-room : free_number p.modules ≡ None → module_room p.modules ≡ 0
          full-room at = subst (λ (place : Option ℕ). MatchOption place (module_room p.modules ≡ 0) (λ number. 0 < module_room p.modules)) at (room_by_number p.modules)
      by-known other (Some number) at =
          let new = new_entry info group false in
          let test : ModuleEntry → Bool = λ entry. are_namesakes other entry.info && nat_le (revision_of other) (revision_of entry.info) in
          let found = position-Some is_none p.modules number None at in
          ap (λ (place : Option ℕ). is_known (option_map_or (λ number. with_module_entry p.modules number new) place p.modules) other) at
          ∙ any-set (passes test) p.modules number None (Some new) found.0 (not-none (get_or p.modules number None) test found.1)
          ∙ ap (λ (b : Bool). b || makes_known other (Some info)) (p.known other)
          ∙ or-assoc (is_known dir other) (list_any (makes_known other) tried) (makes_known other (Some info))
          ∙ ap (λ (b : Bool). is_known dir other || b) (sym (in-tried other))
