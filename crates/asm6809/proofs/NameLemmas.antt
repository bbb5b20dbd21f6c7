-- Names of modules.
use Rattle.std.proofs.Common.{◌≡◌, ◌≤◌, ℕ, ◌==◌, ◌&&◌, not, Bool, true, false, Some, None, List, [], ◌∷◌, length, refl, ap, ◌∙◌, arith}
use Rattle.std.specs.Prelude.{is_some, nat_le, nat_lt, if◌then◌else◌}
use Rattle.std.specs.List.{list_all}
use Rattle.std.proofs.lemmas.Bool.{and_parts, leb-true, lt-ltb}
use Rattle.std.proofs.Math.Nat.{mod-eq_of_lt}
use Rattle.os9_base.specs.Name.{is_name_character, is_stored_character, low_bits, name_run, if_name, parsed_name}
use Rattle.os9_base.proofs.NameLemmas.{is_stored_character-from_name}
use Rattle.asm_model.specs.Statements.{is_module_name}

run-whole : (name : List ℕ) → list_all is_name_character name ≡ true → name_run name ≡ name
run-whole [] is = refl
run-whole (c ∷ name) is =
    let parts = and_parts (is_name_character c) (list_all is_name_character name) is in
    let stored : is_stored_character c ≡ true = is_stored_character-from_name c parts.0 in
    let below : c ≤ 126 = leb-true c 126 (and_parts (nat_le 33 c) (nat_le c 126) (and_parts (nat_le 33 c && nat_le c 126) (not (c == 47)) stored).0).1 in
    let low : low_bits c ≡ c = mod-eq_of_lt {n = c} {m = 128} (omega arith) in
    let small : nat_lt c 128 ≡ true = lt-ltb c 128 (omega arith) in
    let is_character : is_name_character c ≡ true = parts.0 in
    let rest : name_run name ≡ name = run-whole name parts.1 in
    rw (low, is_character, small, rest) refl

some-whole : (b : Bool) (name : List ℕ) → is_some (if b then Some name else None) ≡ true → (if b then Some name else None) ≡ Some name
some-whole true name is = refl
some-whole false name is = absurd (cc)

-- a module's name is read whole
pub parsed-whole : (name : List ℕ) → is_module_name name ≡ true → parsed_name name ≡ Some name
parsed-whole name is =
    let parts = and_parts (is_some (if_name name)) (list_all is_name_character name) is in
    ap if_name (run-whole name parts.1) ∙ some-whole (nat_le 1 (length name) && nat_le (length name) 29) name parts.0
