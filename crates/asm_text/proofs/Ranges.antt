-- Searches of a range of numbers.
use Rattle.std.proofs.Common.{◌≡◌, ℕ, suc, ◌+◌, ◌-◌, ◌<◌, ◌≤◌, Bool, true, false, Option, Some, None, List, refl, ap, ◌∙◌, arith}
use Rattle.std.specs.Prelude.{if◌then◌else◌}
use Rattle.std.specs.List.{find, range_with_len}
use Rattle.cpu_model.specs.Table.{postbyte}
use Rattle.asm_model.specs.Operands.{is_bare, bare_post}

-- the first number from this one on, and below the end, that passes the test
pub first_from : (ℕ → Bool) → ℕ → ℕ → Option ℕ
first_from p end a = find p (range_with_len a (end - a))

first-step : (p : ℕ → Bool) (end a : ℕ) → a < end → first_from p end a ≡ (if p a then Some a else first_from p end (a + 1))
unfolding first_from
first-step p end a below =
    let longer : end - a ≡ suc (end - (a + 1)) = omega arith in
    ap (λ n. find p (range_with_len a n)) longer

pub first-found : (p : ℕ → Bool) (end a : ℕ) → a < end → p a ≡ true → first_from p end a ≡ Some a
first-found p end a below is = first-step p end a below ∙ ap (λ (b : Bool). if b then Some a else first_from p end (a + 1)) is

pub first-missed : (p : ℕ → Bool) (end a : ℕ) → a < end → p a ≡ false → first_from p end a ≡ first_from p end (a + 1)
first-missed p end a below is = first-step p end a below ∙ ap (λ (b : Bool). if b then Some a else first_from p end (a + 1)) is

pub first-none : (p : ℕ → Bool) (end a : ℕ) → end ≤ a → first_from p end a ≡ None
unfolding first_from
first-none p end a past = let none : end - a ≡ 0 = omega arith in ap (λ n. find p (range_with_len a n)) none

-- the postbyte of a text without a number is the first of 128 to 255
abbrev pub bare_test : List ℕ → ℕ → Bool
bare_test text post = is_bare text (postbyte post)

pub bare-first : (text : List ℕ) → first_from (bare_test text) 256 128 ≡ bare_post text
unfolding first_from
bare-first text = refl
