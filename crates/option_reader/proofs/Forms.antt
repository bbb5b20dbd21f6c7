-- What a word of a command line looks like.
use Rattle.std.proofs.Common.{◌≡◌, ◌==◌, ℕ, Bool, true, false, List, [], ◌∷◌, ◌++◌, Some, None, IsUtf8, chars, slice_get, bytes_eq, encode_utf8_all, refl, sym, ap, subst, arith, true≢false}
use Rattle.std.proofs.lemmas.Bool.Decides.{nat_tests}
use Rattle.std.proofs.lemmas.Str.{IsUtf8-past_char, encodes-chars, encode_ascii}
use Rattle.clap.specs.Lexer.{long_of, short_of}

is_dash : (b : ℕ) → (b == 45) ≡ true → 45 ≡ b
is_dash b e = grind (arith, nat_tests)

-- by cases: empty, `-`, `--`, begins with `--`, with one `-`, or with another byte
module _ (M : List ℕ → Type 0) (empty : M []) (dash : M (45 ∷ [])) (dashes : M (45 ∷ 45 ∷ []))
    (long : (x : ℕ) (xs : List ℕ) → M (45 ∷ 45 ∷ x ∷ xs)) (short : (x : ℕ) (xs : List ℕ) → (x == 45) ≡ false
    → M (45 ∷ x ∷ xs)) (plain : (b : ℕ) (bs : List ℕ) → (b == 45) ≡ false → M (b ∷ bs)) where
  two : (bs : List ℕ) → M (45 ∷ 45 ∷ bs)
  two [] = dashes
  two (x ∷ xs) = long x xs

  second : (x : ℕ) (xs : List ℕ) (b : Bool) → (x == 45) ≡ b → M (45 ∷ x ∷ xs)
  second x xs true e = subst (λ n. M (45 ∷ n ∷ xs)) (is_dash x e) (two xs)
  second x xs false e = short x xs e

  one : (bs : List ℕ) → M (45 ∷ bs)
  one [] = dash
  one (x ∷ xs) = second x xs (x == 45) refl

  first : (b : ℕ) (bs : List ℕ) (t : Bool) → (b == 45) ≡ t → M (b ∷ bs)
  first b bs true e = subst (λ n. M (n ∷ bs)) (is_dash b e) (one bs)
  first b bs false e = plain b bs e

  pub by_form : (word : List ℕ) → M word
  by_form [] = empty
  by_form (b ∷ bs) = first b bs (b == 45) refl

-- the word is no flag and not `--`
abbrev pub IsPlainWord : List ℕ → Type 0
IsPlainWord word = (long_of word ≡ None) × (short_of word ≡ None) × (bytes_eq word (45 ∷ 45 ∷ []) ≡ false)

pub plain_empty : IsPlainWord []
plain_empty = (refl, refl, refl)

pub plain_dash : IsPlainWord (45 ∷ [])
plain_dash = (refl, refl, refl)

pub plain_other : (b : ℕ) (bs : List ℕ) → (b == 45) ≡ false → IsPlainWord (b ∷ bs)
plain_other b bs e = (rw e refl, rw e refl, rw e refl)

pub short_is : (x : ℕ) (xs : List ℕ) → (x == 45) ≡ false → (long_of (45 ∷ x ∷ xs) ≡ None) × (short_of (45 ∷ x ∷ xs) ≡ Some (x ∷ xs)) × (bytes_eq (45 ∷ x ∷ xs) (45 ∷ 45 ∷ []) ≡ false)
short_is x xs e = (rw e refl, rw e refl, rw e refl)

-- the flags of a word have a first character
first_char : (x : ℕ) (xs cs : List ℕ) → encode_utf8_all cs ≡ x ∷ xs → (c : ℕ) × (slice_get cs 0 ≡ Some c)
first_char x xs [] e = absurd (nothing e)
  where
    nothing : [] ≡ x ∷ xs → ⊥
    nothing e = true≢false (ap (λ bytes. bytes_eq bytes []) e)
first_char x xs (c ∷ cs) e = (c, refl)

pub flag_char : (x : ℕ) (xs : List ℕ) → IsUtf8 (45 ∷ x ∷ xs) → (c : ℕ) × (slice_get (chars (x ∷ xs)) 0 ≡ Some c)
flag_char x xs u =
    let rest = IsUtf8-past_char (45 ∷ x ∷ xs) (x ∷ xs) 45 u (sym (ap (λ bytes. bytes ++ x ∷ xs) (encode_ascii 45 (omega arith)))) in
    first_char x xs (chars (x ∷ xs)) (encodes-chars (x ∷ xs) rest)
