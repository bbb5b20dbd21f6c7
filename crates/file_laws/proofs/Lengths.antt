-- How many bytes a process sends, and which bytes of a call are named.
use Rattle.std.proofs.Common.{◌≡◌, ℕ, zero, suc, ◌+◌, ◌<◌, ◌≤◌, ◌==◌, nat_lt, Bool, true, false, Option, Some, None, IsSome, is_some, List, [], ◌∷◌, length, refl, sym, ap, ◌∙◌, arith}
use Rattle.std.specs.Prelude.{option_map, if◌then◌else◌}
use Rattle.std.proofs.lemmas.Bool.{ltb-true}
use Rattle.std.proofs.lemmas.Option.{none-some, same_Some}
use Rattle.os9_base.specs.UserLines.{line_at, line_with}
use Rattle.os9_base.specs.Cells.{Cells, FitsIn}
use Rattle.os9_base.specs.UserNames.{user_cell}
use Rattle.proc_model.specs.UserBytes.{byte_before, user_bytes}
use Rattle.io_model.specs.declared.keys.TheConstants.{RETURN}

pub user-length : (cells : Cells) (at count : ℕ) (bytes : List ℕ) → user_bytes cells at count ≡ Some bytes → length bytes ≡ count
user-length cells at zero bytes is = ap (length {A = ℕ}) (sym (same_Some [] bytes is))
user-length cells at (suc count) bytes is = by_byte (user_cell cells at) (user_bytes cells (at + 1) count) (user-length cells (at + 1) count) is
  where
    by_byte : (byte : Option ℕ) (rest : Option (List ℕ)) → ((bytes : List ℕ) → rest ≡ Some bytes → length bytes ≡ count) → byte_before byte rest ≡ Some bytes → length bytes ≡ suc count
    by_byte None rest there is = absurd (none-some bytes is)
    by_byte (Some byte) None there is = absurd (none-some bytes is)
    by_byte (Some byte) (Some rest) there is =
        let few : length rest ≡ count = there rest refl in
        let all : length (byte ∷ rest) ≡ length bytes = ap (length {A = ℕ}) (same_Some (byte ∷ rest) bytes is) in
        omega (arith, all, few)

-- a byte that a call may use is named
pub user-named : (cells : Cells) (at byte : ℕ) → user_cell cells at ≡ Some byte → (at < 65536) × (cells at ≡ Some byte)
user-named cells at byte is = by_test (nat_lt at 65536) refl is
  where
    by_test : (test : Bool) → nat_lt at 65536 ≡ test → (if test then cells at else None) ≡ Some byte → (at < 65536) × (cells at ≡ Some byte)
    by_test true within is = (ltb-true at 65536 within, is)
    by_test false past is = absurd (none-some byte is)

-- the bytes that a call uses fit, if there are any
pub user-fits : (cells : Cells) (at count : ℕ) (bytes : List ℕ) → 0 < count → user_bytes cells at count ≡ Some bytes → FitsIn cells at count
user-fits cells at zero bytes some is = absurd (omega (arith, some))
user-fits cells at (suc count) bytes some is = by_byte (user-fits cells (at + 1) count) (user_cell cells at) refl (user_bytes cells (at + 1) count) refl is
  where
    named-at : (byte : ℕ) → user_cell cells at ≡ Some byte → (k : ℕ) → k ≡ 0 → IsSome (cells (at + k))
    named-at byte first k here =
        let there : at + k ≡ at = omega (arith, here) in
        ap is_some (ap cells there ∙ (user-named cells at byte first).1)

    by_count : (byte : ℕ) → user_cell cells at ≡ Some byte → (rest : List ℕ) (count : ℕ) → user_bytes cells (at + 1)
        count ≡ Some rest → (0 < count → FitsIn cells (at + 1) count) → FitsIn cells at (suc count)
    by_count byte first rest zero later fits =
        let within : at < 65536 = (user-named cells at byte first).0 in
        (omega (arith, within), λ k below. named-at byte first k (omega (arith, below)))
    by_count byte first rest (suc count) later fits =
        let there : FitsIn cells (at + 1) (suc count) = fits (omega arith) in
        let end : at + 1 + suc count ≤ 65536 = there.0 in
        (omega (arith, end), by_place there)
      where
        by_place : FitsIn cells (at + 1) (suc count) → (k : ℕ) → k < suc (suc count) → IsSome (cells (at + k))
        by_place there zero below = named-at byte first 0 refl
        by_place there (suc k) below =
            let next : at + suc k ≡ at + 1 + k = omega arith in
            ap is_some (ap cells next) ∙ there.1 k (omega (arith, below))

    by_byte : ((bytes : List ℕ) → 0 < count → user_bytes cells (at + 1) count ≡ Some bytes → FitsIn cells (at + 1)
        count) → (byte : Option ℕ) → user_cell cells at ≡ byte → (rest : Option (List ℕ)) → user_bytes cells (at + 1)
        count ≡ rest → byte_before byte rest ≡ Some bytes → FitsIn cells at (suc count)
    by_byte fits None first rest later is = absurd (none-some bytes is)
    by_byte fits (Some byte) first None later is = absurd (none-some bytes is)
    by_byte fits (Some byte) first (Some rest) later is =
        by_count byte first rest count later (λ more. fits rest more later)

-- a line has at most this number of bytes, and one at least if it may have one
pub record LineLength (most : ℕ) (line : List ℕ) : Type 0 where
  pub few : length line ≤ most
  pub some : 0 < most → 0 < length line

pub line-length : (cells : Cells) (at most : ℕ) (line : List ℕ) → line_at cells at most ≡ Some line → LineLength most line
line-length cells at zero line is =
    let none : length line ≡ 0 = ap (length {A = ℕ}) (sym (same_Some [] line is)) in
    record { few = omega arith; some = λ more. absurd (omega arith) }
line-length cells at (suc most) line is = by_byte (line-length cells (at + 1) most) (user_cell cells at) is
  where
    longer : (byte : ℕ) (rest : List ℕ) → length rest ≤ most → byte ∷ rest ≡ line → LineLength (suc most) line
    longer byte rest few is =
        let all : length (byte ∷ rest) ≡ length line = ap (length {A = ℕ}) is in
        record { few = omega (arith, all, few); some = λ more. omega (arith, all) }

    by_rest : (byte : ℕ) (rest : Option (List ℕ)) → ((line : List ℕ) → rest ≡ Some line → LineLength most line)
        → option_map (λ (line : List ℕ). byte ∷ line) rest ≡ Some line → LineLength (suc most) line
    by_rest byte None there is = absurd (none-some line is)
    by_rest byte (Some rest) there is =
        longer byte rest (there rest refl).few (same_Some (byte ∷ rest) line is)

    by_return : ((line : List ℕ) → line_at cells (at + 1) most ≡ Some line → LineLength most line)
        → (byte : ℕ) (return : Bool) → (if return then Some (byte ∷ []) else option_map
        (λ (line : List ℕ). byte ∷ line) (line_at cells (at + 1) most)) ≡ Some line → LineLength (suc most) line
    by_return later byte true is = longer byte [] (omega arith) (same_Some (byte ∷ []) line is)
    by_return later byte false is = by_rest byte (line_at cells (at + 1) most) later is

    by_byte : ((line : List ℕ) → line_at cells (at + 1) most ≡ Some line → LineLength most line) → (byte : Option ℕ)
        → line_with (λ next. line_at cells next most) at byte ≡ Some line → LineLength (suc most) line
    by_byte later None is = absurd (none-some line is)
    by_byte later (Some byte) is = by_return later byte (byte == RETURN) is
