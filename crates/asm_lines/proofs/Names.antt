-- The names of registers have no comma and no mark.
use Rattle.std.proofs.Common.{◌≡◌, ℕ, ◌*◌, ◌<◌, ◌==◌, ◌||◌, Bool, true, false, Some, List, [], ◌∷◌, refl, ap, sym, ◌∙◌, arith}
use Rattle.std.specs.Prelude.{if◌then◌else◌}
use Rattle.std.specs.List.{list_any, find, range_with_len}
use Rattle.std.specs.Char.{to_ascii_lowercase}
use Rattle.std.specs.Str.{bytes_eq, str_to_ascii_lowercase}
use Rattle.std.proofs.lemmas.Bool.{and_parts, eqb-true}
use Rattle.std.proofs.lemmas.Bool.Decides.{nat_tests}
use Rattle.cpu_model.specs.declared.rows.Register.{Register}
use Rattle.cpu_model.specs.declared.rows.Register.TheVariants as register
use Rattle.cpu_model.specs.declared.rows.Stack.{Stack}
use Rattle.cpu_model.specs.Registers.{register_coded}
use Rattle.cpu_model.specs.Table.{is_word_code, is_byte_code}
use Rattle.asm_model.specs.Characters.{same_word, is_hash, is_comma}
use Rattle.asm_model.specs.Print.{register_word, mask_registers}
use Rattle.asm_model.specs.Operands.{mask_weight, register_code, is_code_of}

pub bytes_same : (xs ys : List ℕ) → bytes_eq xs ys ≡ true → xs ≡ ys
bytes_same [] [] is = refl
bytes_same [] (y ∷ ys) is = absurd (cc)
bytes_same (x ∷ xs) [] is = absurd (cc)
bytes_same (x ∷ xs) (y ∷ ys) is =
    let both = and_parts (x == y) (bytes_eq xs ys) is in
    ap (λ c. c ∷ xs) (eqb-true x y both.0) ∙ ap (λ rest. y ∷ rest) (bytes_same xs ys both.1)

-- ---- bytes that are not letters are the same in lower case

lower-one : (k c : ℕ) → k < 65 → (to_ascii_lowercase c == k) ≡ (c == k)
lower-one k c below = grind (arith, nat_tests)

pub lower-any : (k : ℕ) → k < 65 → (text : List ℕ) → list_any (λ c. c == k) (str_to_ascii_lowercase text) ≡ list_any (λ c. c == k) text
lower-any k below [] = refl
lower-any k below (c ∷ text) =
    ap (λ b. b || list_any (λ c. c == k) (str_to_ascii_lowercase text)) (lower-one k c below) ∙ ap (λ b. (c == k) || b) (lower-any k below text)

-- a text has such a byte if another spelling of it has one
pub same-any : (k : ℕ) → k < 65 → (word text : List ℕ) → same_word word text ≡ true → list_any (λ c. c == k) text ≡ list_any (λ c. c == k) word
same-any k below word text is =
    sym (lower-any k below text) ∙ sym (ap (list_any (λ c. c == k)) (bytes_same (str_to_ascii_lowercase word) (str_to_ascii_lowercase text) is)) ∙ lower-any k below word

-- ---- the names of registers

comma-free : (r : Register) → list_any is_comma (register_word r) ≡ false
comma-free register.D = refl
comma-free register.X = refl
comma-free register.Y = refl
comma-free register.U = refl
comma-free register.S = refl
comma-free register.Pc = refl
comma-free register.A = refl
comma-free register.B = refl
comma-free register.Cc = refl
comma-free register.Dp = refl

hash-free : (r : Register) → list_any is_hash (register_word r) ≡ false
hash-free register.D = refl
hash-free register.X = refl
hash-free register.Y = refl
hash-free register.U = refl
hash-free register.S = refl
hash-free register.Pc = refl
hash-free register.A = refl
hash-free register.B = refl
hash-free register.Cc = refl
hash-free register.Dp = refl

not-empty : (r : Register) → same_word (register_word r) [] ≡ false
not-empty register.D = refl
not-empty register.X = refl
not-empty register.Y = refl
not-empty register.U = refl
not-empty register.S = refl
not-empty register.Pc = refl
not-empty register.A = refl
not-empty register.B = refl
not-empty register.Cc = refl
not-empty register.Dp = refl

-- a text is the name of a register
pub record IsName (name : List ℕ) : Type 0 where
  pub its : Register
  pub is : same_word (register_word its) name ≡ true

pub name-some : IsName [] → ⊥
name-some n = let no = not-empty n.its in let yes = n.is in absurd (cc)

pub name-comma : (name : List ℕ) → IsName name → list_any is_comma name ≡ false
name-comma name n = same-any 44 (omega arith) (register_word n.its) name n.is ∙ comma-free n.its

pub name-hash : (name : List ℕ) → IsName name → list_any is_hash name ≡ false
name-hash name n = same-any 35 (omega arith) (register_word n.its) name n.is ∙ hash-free n.its

weight-step : (r : Register) (rs : List Register) (weight : ℕ) (name : List ℕ) (w : ℕ) (b : Bool) → same_word (register_word r) name ≡ b →
    (if b then Some weight else mask_weight rs (2 * weight) name) ≡ Some w → (mask_weight rs (2 * weight) name ≡ Some w → IsName name) → IsName name
weight-step r rs weight name w true is whole more = record { its = r; is = is }
weight-step r rs weight name w false is whole more = more whole

weight-name : (rs : List Register) (weight : ℕ) (name : List ℕ) (w : ℕ) → mask_weight rs weight name ≡ Some w → IsName name
weight-name [] weight name w is = absurd (cc)
weight-name (r ∷ rs) weight name w is = weight-step r rs weight name w (same_word (register_word r) name) refl is (λ others. weight-name rs (2 * weight) name w others)

pub mask-name : (stack : Stack) (name : List ℕ) (w : ℕ) → mask_weight (mask_registers stack) 1 name ≡ Some w → IsName name
mask-name stack name w is = weight-name (mask_registers stack) 1 name w is

code-step : (name : List ℕ) (x : ℕ) (xs : List ℕ) (code : ℕ) (b : Bool) → is_code_of name x ≡ b →
    (if b then Some x else find (is_code_of name) xs) ≡ Some code → (find (is_code_of name) xs ≡ Some code → IsName name) → IsName name
code-step name x xs code true is whole more =
    record { its = register_coded x; is = (and_parts (is_word_code x || is_byte_code x) (same_word (register_word (register_coded x)) name) is).1 }
code-step name x xs code false is whole more = more whole

codes-name : (name : List ℕ) (xs : List ℕ) (code : ℕ) → find (is_code_of name) xs ≡ Some code → IsName name
codes-name name [] code is = absurd (cc)
codes-name name (x ∷ xs) code is = code-step name x xs code (is_code_of name x) refl is (λ others. codes-name name xs code others)

pub code-name : (name : List ℕ) (code : ℕ) → register_code name ≡ Some code → IsName name
code-name name code is = codes-name name (range_with_len 0 16) code is
