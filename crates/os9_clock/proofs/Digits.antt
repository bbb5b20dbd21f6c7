-- Numbers of two and of four digits, read and spelled.
use Rattle.std.proofs.Common.{◌≡◌, ◌≤◌, ℕ, ◌+◌, ◌-◌, ◌*◌, ◌/◌, ◌%◌, Bool, true, false, nat_le, Some, None, List, [], ◌∷◌, length, refl, ap, ◌∙◌, arith, if◌then◌else◌}
use Rattle.std.proofs.lemmas.Bool.{and_parts, and_from, le-leb, leb-true}
use Rattle.text_values.specs.Number.{is_digit, number_after, number_of}
use Rattle.os9_clock.specs.Spelled.{digit, two_digits, four_digits}

-- ---- spelled, and read

digit-is : (v : ℕ) → v ≤ 9 → is_digit (digit v) ≡ true
digit-is v small =
    and_from (nat_le 48 (digit v)) (nat_le (digit v) 57) (le-leb 48 (digit v) (omega arith)) (le-leb (digit v) 57 (omega arith))

read-digit : (value v : ℕ) (bytes : List ℕ) → v ≤ 9
    → number_after value (digit v ∷ bytes) ≡ number_after (10 * value + v) bytes
read-digit value v bytes small =
    let same : digit v - 48 ≡ v = omega arith in
    (λ i. if digit-is v small i then number_after (10 * value + (digit v - 48)) bytes else None)
    ∙ ap (λ (k : ℕ). number_after (10 * value + k) bytes) same

pub read-two : (n : ℕ) → n ≤ 99 → number_of (two_digits n) ≡ Some n
read-two n small =
    let tens : n / 10 ≤ 9 = omega arith in
    let ones : n % 10 ≤ 9 = omega arith in
    let same : 10 * (10 * 0 + n / 10) + n % 10 ≡ n = omega arith in
    read-digit 0 (n / 10) (digit (n % 10) ∷ []) tens
    ∙ (read-digit (10 * 0 + n / 10) (n % 10) [] ones ∙ ap (λ (k : ℕ). Some k) same)

pub read-four : (n : ℕ) → n ≤ 9999 → number_of (four_digits n) ≡ Some n
read-four n small =
    let thousands : n / 1000 ≤ 9 = omega arith in
    let hundreds : n / 100 % 10 ≤ 9 = omega arith in
    let tens : n / 10 % 10 ≤ 9 = omega arith in
    let ones : n % 10 ≤ 9 = omega arith in
    let a = 10 * 0 + n / 1000 in
    let b = 10 * a + n / 100 % 10 in
    let c = 10 * b + n / 10 % 10 in
    let same : 10 * c + n % 10 ≡ n = omega arith in
    read-digit 0 (n / 1000) (digit (n / 100 % 10) ∷ digit (n / 10 % 10) ∷ digit (n % 10) ∷ []) thousands
    ∙ (read-digit a (n / 100 % 10) (digit (n / 10 % 10) ∷ digit (n % 10) ∷ []) hundreds
    ∙ (read-digit b (n / 10 % 10) (digit (n % 10) ∷ []) tens
    ∙ (read-digit c (n % 10) [] ones ∙ ap (λ (k : ℕ). Some k) same)))

-- ---- read, and spelled

-- the first of some digits, and what is read behind it
pub record ReadsDigit (value byte : ℕ) (bytes : List ℕ) (n : ℕ) : Type 0 where
  pub least : 48 ≤ byte
  pub most : byte ≤ 57
  pub rest : number_after (10 * value + (byte - 48)) bytes ≡ Some n

first-digit-if : (value byte : ℕ) (bytes : List ℕ) (n : ℕ) (is : Bool) → is_digit byte ≡ is
    → (if is then number_after (10 * value + (byte - 48)) bytes else None) ≡ Some n → ReadsDigit value byte bytes n
first-digit-if value byte bytes n true is reads =
    let parts = and_parts (nat_le 48 byte) (nat_le byte 57) is in
    record { least = leb-true 48 byte parts.0; most = leb-true byte 57 parts.1; rest = reads }
first-digit-if value byte bytes n false is reads = absurd (cc)

first-digit : (value byte : ℕ) (bytes : List ℕ) (n : ℕ) → number_after value (byte ∷ bytes) ≡ Some n
    → ReadsDigit value byte bytes n
first-digit value byte bytes n reads = first-digit-if value byte bytes n (is_digit byte) refl reads

pub some-same : (a b : ℕ) → Some a ≡ Some b → a ≡ b
some-same a b same = cc

pub two-spelled : (bytes : List ℕ) (n : ℕ) → length bytes ≡ 2 → number_of bytes ≡ Some n → bytes ≡ two_digits n
two-spelled [] n long reads = absurd (omega (arith, long))
two-spelled (a ∷ []) n long reads = absurd (omega (arith, long))
two-spelled (a ∷ b ∷ []) n long reads =
    let first = first-digit 0 a (b ∷ []) n reads in
    let second = first-digit (10 * 0 + (a - 48)) b [] n first.rest in
    let is : 10 * (10 * 0 + (a - 48)) + (b - 48) ≡ n = some-same _ n second.rest in
    let tens : a ≡ digit (n / 10) = omega (arith, is, first.least, first.most, second.least, second.most) in
    let ones : b ≡ digit (n % 10) = omega (arith, is, first.least, first.most, second.least, second.most) in
    λ i. tens i ∷ ones i ∷ []
two-spelled (a ∷ b ∷ d ∷ bytes) n long reads = absurd (omega (arith, long))

pub four-spelled : (bytes : List ℕ) (n : ℕ) → length bytes ≡ 4 → number_of bytes ≡ Some n → bytes ≡ four_digits n
four-spelled [] n long reads = absurd (omega (arith, long))
four-spelled (a ∷ []) n long reads = absurd (omega (arith, long))
four-spelled (a ∷ b ∷ []) n long reads = absurd (omega (arith, long))
four-spelled (a ∷ b ∷ c ∷ []) n long reads = absurd (omega (arith, long))
four-spelled (a ∷ b ∷ c ∷ d ∷ []) n long reads =
    let first = first-digit 0 a (b ∷ c ∷ d ∷ []) n reads in
    let second = first-digit (10 * 0 + (a - 48)) b (c ∷ d ∷ []) n first.rest in
    let third = first-digit (10 * (10 * 0 + (a - 48)) + (b - 48)) c (d ∷ []) n second.rest in
    let fourth = first-digit (10 * (10 * (10 * 0 + (a - 48)) + (b - 48)) + (c - 48)) d [] n third.rest in
    let is : 10 * (10 * (10 * (10 * 0 + (a - 48)) + (b - 48)) + (c - 48)) + (d - 48) ≡ n = some-same _ n fourth.rest in
    let ones : d ≡ digit (n % 10) = omega (arith, is, first.least, second.least, third.least, fourth.least, fourth.most) in
    let tens : c ≡ digit (n / 10 % 10) = omega (arith, is, first.least, second.least, third.least, third.most, fourth.least, fourth.most) in
    let hundreds : b ≡ digit (n / 100 % 10) = omega (arith, is, first.least, second.least, second.most, third.least, third.most, fourth.least, fourth.most) in
    let thousands : a ≡ digit (n / 1000) = omega (arith, is, first.least, first.most, second.least, second.most, third.least, third.most, fourth.least, fourth.most) in
    λ i. thousands i ∷ hundreds i ∷ tens i ∷ ones i ∷ []
four-spelled (a ∷ b ∷ c ∷ d ∷ e ∷ bytes) n long reads = absurd (omega (arith, long))
