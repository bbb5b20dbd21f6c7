-- A text of name characters is its own run of them.
use Rattle.std.proofs.Common.{◌≡◌, ℕ, ◌<◌, ◌==◌, ◌&&◌, ◌||◌, nat_le, nat_lt, Bool, true, false, Option, Some, None, List, [], ◌∷◌, length, refl, ap, ◌∙◌, ⊎_elim, eqb-true, arith}
use Rattle.std.specs.Prelude.{if◌then◌else◌}
use Rattle.std.specs.List.{list_all}
use Rattle.std.proofs.lemmas.Bool.{or_cases, and_parts, cond-true, cond-false, lt-ltb, leb-true, cases_Bool}
use Rattle.os9_base.specs.Name.{is_name_character, low_bits, name_run, if_name, parsed_name}
use Rattle.vol_tools.specs.Path.{is_name_text}

within : (a c b : ℕ) → b < 128 → (nat_le a c && nat_le c b) ≡ true → c < 128
within a c b low h = let most = leb-true c b (and_parts (nat_le a c) (nat_le c b) h).1 in omega arith

char_low : (c : ℕ) → is_name_character c ≡ true → c < 128
char_low c h =
    ⊎_elim
    (λ h4. ⊎_elim
    (λ h3. ⊎_elim
    (λ h2. ⊎_elim
    (λ h1. within 97 c 122 (omega arith) h1)
    (λ h1. within 65 c 90 (omega arith) h1)
    (or_cases (nat_le 97 c && nat_le c 122) (nat_le 65 c && nat_le c 90) h2))
    (λ h2. within 48 c 57 (omega arith) h2)
    (or_cases ((nat_le 97 c && nat_le c 122) || (nat_le 65 c && nat_le c 90)) (nat_le 48 c && nat_le c 57) h3))
    (λ h3. let at = eqb-true c 95 h3 in omega arith)
    (or_cases ((nat_le 97 c && nat_le c 122) || (nat_le 65 c && nat_le c 90) || (nat_le 48 c && nat_le c 57)) (c == 95) h4))
    (λ h4. let at = eqb-true c 46 h4 in omega arith)
    (or_cases ((nat_le 97 c && nat_le c 122) || (nat_le 65 c && nat_le c 90) || (nat_le 48 c && nat_le c 57) || (c == 95)) (c == 46) h)

run_is : (text : List ℕ) → list_all is_name_character text ≡ true → name_run text ≡ text
run_is [] h = refl
run_is (c ∷ cs) h =
    let both = and_parts (is_name_character c) (list_all is_name_character cs) h in
    let low = char_low c both.0 in
    let bits : low_bits c ≡ c = omega arith in
    cond-true (is_name_character (low_bits c)) (low_bits c ∷ (if nat_lt c 128 then name_run cs else [])) [] (ap is_name_character bits ∙ both.0)
    ∙ ap (λ b. b ∷ (if nat_lt c 128 then name_run cs else [])) bits
    ∙ ap (λ rest. c ∷ rest) (cond-true (nat_lt c 128) (name_run cs) [] (lt-ltb c 128 low) ∙ run_is cs both.1)

fits : List ℕ → Bool
fits text = nat_le 1 (length text) && nat_le (length text) 29

parsed_is : (text : List ℕ) → list_all is_name_character text ≡ true → parsed_name text ≡ if_name text
parsed_is text h = ap if_name (run_is text h)

-- the name that is read of such a text
pub name_is : (text name : List ℕ) → list_all is_name_character text ≡ true → Some name ≡ parsed_name text → (name ≡ text) × (is_name_text text ≡ true)
name_is text name h read =
    let test : Bool = nat_le 1 (length text) && nat_le (length text) 29 in
    let is : Some name ≡ (if test then Some text else None) = read ∙ parsed_is text h in
    ⊎_elim
    (λ yes.
    let same : Some name ≡ Some text = is ∙ cond-true test (Some text) None yes in
    (cc, ap (λ b. b && list_all is_name_character text) yes ∙ h))
    (λ no. absurd (let none : Some name ≡ None = is ∙ cond-false test (Some text) None no in cc))
    (cases_Bool test)

-- none is read of one that is no name
pub no_name : (text : List ℕ) → list_all is_name_character text ≡ true → ◌≡◌ {A = Option (List ℕ)} None (parsed_name text) → is_name_text text ≡ false
no_name text h read =
    let test : Bool = nat_le 1 (length text) && nat_le (length text) 29 in
    let is : ◌≡◌ {A = Option (List ℕ)} None (if test then Some text else None) = read ∙ parsed_is text h in
    ⊎_elim
    (λ yes. absurd (let some : ◌≡◌ {A = Option (List ℕ)} None (Some text) = is ∙ cond-true test (Some text) None yes in cc))
    (λ no. ap (λ b. b && list_all is_name_character text) no)
    (cases_Bool test)
