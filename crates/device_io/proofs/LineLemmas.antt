-- The bytes and the lines that a process sends.
use Rattle.std.proofs.Common.{◌≡◌, ◌∙◌, ℕ, zero, suc, ◌+◌, ◌<◌, ◌≤◌, ◌==◌, Bool, true, false, Option, Some, None, List, [], ◌∷◌, length, get_or, inl, inr, refl, sym, subst, ap, arith}
use Rattle.std.specs.Prelude.{IfSome, option_map, codes, if◌then◌else◌, ◌/◌, ◌%◌, ◌||◌, ◌++◌}
use Rattle.std.specs.List.{list_any}
use Rattle.std.specs.Option.{option_map_or}
use Rattle.std.proofs.lemmas.Bool.{cases_lt, eqb-true, false≢true, ne_eqb}
use Rattle.std.proofs.lemmas.List.Quantifiers.{position-Some}
use Rattle.std.proofs.lemmas.Option.{none-some, same_Some}
use Rattle.os9_base.specs.UserLines.{line_at, line_with}
use Rattle.os9_base.specs.Cells.{Cells}
use Rattle.os9_base.specs.declared.registers.Regs.{Regs}
use Rattle.os9_base.specs.UserNames.{user_cell}
use Rattle.proc_model.specs.UserBytes.{byte_before, user_bytes}
use Rattle.io_model.specs.Line.{line_length, return_place}
use Rattle.io_model.specs.declared.keys.TheConstants.{RETURN}
use Rattle.io_model.specs.declared.pending.PendingCall.{PendingCall}
use Rattle.io_model.specs.Again.{IsPending}
use Rattle.io_model.specs.Io.{Io}
use Rattle.io_model.specs.Step.{Caller}
use Rattle.io_model.specs.Write.{digit, error_line, line_bytes}
use Rattle.io_model.specs.declared.io_call.IoCall.TheVariants as Call

pub user-length : (cells : Cells) (at count : ℕ) (bytes : List ℕ) → user_bytes cells at count ≡ Some bytes → length bytes ≡ count
user-length cells at zero bytes is = ap (length {A = ℕ}) (sym (same_Some [] bytes is))
user-length cells at (suc count) bytes is = by_byte (user_cell cells at) (user_bytes cells (at + 1) count) (user-length cells (at + 1) count) is
  where
    by_byte : (byte : Option ℕ) (rest : Option (List ℕ)) → ((bytes : List ℕ) → rest ≡ Some bytes → length bytes ≡ count) → byte_before byte rest ≡ Some bytes → length bytes ≡ suc count
    by_byte None rest there is = absurd (none-some bytes is)
    by_byte (Some byte) None there is = absurd (none-some bytes is)
    by_byte (Some byte) (Some rest) there is =
        let few : length rest ≡ count = there rest refl in
        let all : length (byte ∷ rest) ≡ length bytes = ap (length {A = ℕ}) (same_Some (byte ∷ rest) bytes is) in
        omega (arith, all, few)

-- ---- lines

-- no byte but the last one is a carriage return
abbrev pub EndsOnly : List ℕ → Type 0
EndsOnly line = (k : ℕ) → suc k < length line → (get_or line k 0 == RETURN) ≡ false

only-one : (byte : ℕ) → EndsOnly (byte ∷ [])
only-one byte k more = absurd (omega arith)

only-more : (byte : ℕ) (line : List ℕ) → (byte == RETURN) ≡ false → EndsOnly line → EndsOnly (byte ∷ line)
only-more byte line other only zero more = other
only-more byte line other only (suc k) more = only k (omega arith)

-- a line has no byte behind its first carriage return
pub line-whole : (line : List ℕ) → EndsOnly line → line_length line ≡ length line
line-whole line only = by_place (return_place line) refl
  where
    by_place : (place : Option ℕ) → return_place line ≡ place → option_map_or (λ place. place + 1) place (length line) ≡ length line
    by_place None is = refl
    by_place (Some place) is =
        let first = position-Some (λ byte. byte == RETURN) line place 0 is in
        elim (cases_lt (suc place) (length line)) [
          | inl more ↦ absurd (false≢true (sym (only place more) ∙ first.1))
          | inr past ↦ omega (arith, first.0)
        ]

-- a line has at most so many bytes, and one at least where it may have one; no byte but the last one is a carriage return
pub record IsLine (most : ℕ) (line : List ℕ) : Type 0 where
  pub few : length line ≤ most
  pub some : 0 < most → 0 < length line
  pub only : EndsOnly line

pub line-is : (cells : Cells) (at most : ℕ) (line : List ℕ) → line_at cells at most ≡ Some line → IsLine most line
line-is cells at zero line is =
    let none : length line ≡ 0 = ap (length {A = ℕ}) (sym (same_Some [] line is)) in
    record { few = omega arith; some = λ more. absurd (omega arith); only = λ k more. absurd (omega (arith, none, more)) }
line-is cells at (suc most) line is = by_byte (line-is cells (at + 1) most) (user_cell cells at) is
  where
    longer : (byte : ℕ) (rest : List ℕ) → length rest ≤ most → EndsOnly (byte ∷ rest) → byte ∷ rest ≡ line → IsLine (suc most) line
    longer byte rest few only is =
        let all : length (byte ∷ rest) ≡ length line = ap (length {A = ℕ}) is in
        record { few = omega (arith, all, few); some = λ more. omega (arith, all); only = subst (λ (it : List ℕ). EndsOnly it) is only }

    by_rest : (byte : ℕ) (rest : Option (List ℕ)) → (byte == RETURN) ≡ false → ((line : List ℕ) → rest ≡ Some line
        → IsLine most line) → option_map (λ (line : List ℕ). byte ∷ line) rest ≡ Some line → IsLine (suc most) line
    by_rest byte None other there is = absurd (none-some line is)
    by_rest byte (Some rest) other there is =
        longer byte rest (there rest refl).few (only-more byte rest other (there rest refl).only) (same_Some (byte ∷ rest) line is)

    by_return : ((line : List ℕ) → line_at cells (at + 1) most ≡ Some line → IsLine most line)
        → (byte : ℕ) (return : Bool) → (byte == RETURN) ≡ return → (if return then Some (byte ∷ []) else option_map
        (λ (line : List ℕ). byte ∷ line) (line_at cells (at + 1) most)) ≡ Some line → IsLine (suc most) line
    by_return later byte true which is = longer byte [] (omega arith) (only-one byte) (same_Some (byte ∷ []) line is)
    by_return later byte false which is = by_rest byte (line_at cells (at + 1) most) which later is

    by_byte : ((line : List ℕ) → line_at cells (at + 1) most ≡ Some line → IsLine most line) → (byte : Option ℕ)
        → line_with (λ next. line_at cells next most) at byte ≡ Some line → IsLine (suc most) line
    by_byte later None is = absurd (none-some line is)
    by_byte later (Some byte) is = by_return later byte (byte == RETURN) refl is

-- a digit is no carriage return
digit-other : (value : ℕ) → (digit value == RETURN) ≡ false
digit-other value = ne_eqb (digit value) RETURN (λ e. omega (arith, e))

-- the line of an error is one
pub error-whole : (number : ℕ) → line_length (error_line number) ≡ length (error_line number)
error-whole number = line-whole (error_line number) (after_word number (digits number))
  where
    digits : (number : ℕ) → EndsOnly (digit (number / 100) ∷ digit (number / 10 % 10) ∷ digit (number % 10) ∷ RETURN ∷ [])
    digits number =
        only-more (digit (number / 100)) (digit (number / 10 % 10) ∷ digit (number % 10) ∷ RETURN ∷ []) (digit-other (number / 100))
        (only-more (digit (number / 10 % 10)) (digit (number % 10) ∷ RETURN ∷ []) (digit-other (number / 10 % 10))
        (only-more (digit (number % 10)) (RETURN ∷ []) (digit-other (number % 10)) (only-one RETURN)))

    after : (word line : List ℕ) → list_any (λ byte. byte == RETURN) word ≡ false → EndsOnly line → EndsOnly (word ++ line)
    after [] line none only = only
    after (byte ∷ word) line none only =
        let parts = or_parts (byte == RETURN) (list_any (λ byte. byte == RETURN) word) none in
        only-more byte (word ++ line) parts.0 (after word line parts.1 only)
      where
        or_parts : (one other : Bool) → (one || other) ≡ false → (one ≡ false) × (other ≡ false)
        or_parts false false none = (refl, refl)
        or_parts true other none = absurd (false≢true (sym none))
        or_parts false true none = absurd (false≢true (sym none))

    after_word : (number : ℕ) → EndsOnly (digit (number / 100) ∷ digit (number / 10 % 10) ∷ digit (number % 10) ∷ RETURN ∷ []) → EndsOnly (error_line number)
    after_word number only =
        after (codes "ERROR #") (digit (number / 100) ∷ digit (number / 10 % 10) ∷ digit (number % 10) ∷ RETURN ∷ []) refl only

-- ---- the line of an I$WritLn

-- what is known of the line that an attempt moves
pub record IsSentLine (regs : Regs) (pending : Option PendingCall) (line : List ℕ) : Type 0 where
  pub few : length line ≤ regs.y
  pub some : 0 < regs.y → 0 < length line
  pub whole : pending ≡ None → line_length line ≡ length line

pub sent-line : (caller : Caller) (io : Io) (p : ℕ) (pending : Option PendingCall) (line : List ℕ)
    → IfSome pending (IsPending Call.WritLn caller.regs io p) → line_bytes caller pending ≡ Some line → IsSentLine caller.regs
    pending line
sent-line caller io p None line again is =
    let it : IsLine caller.regs.y line = line-is caller.cells caller.regs.x caller.regs.y line is in
    record { few = it.few; some = it.some; whole = λ none. line-whole line it.only }
sent-line caller io p (Some pending) line again is =
    let all : length line ≡ pending.count = user-length caller.cells caller.regs.x pending.count line is in
    record {
      few = omega (arith, all, again.count);
      some = λ more. omega (arith, all, again.unfinished);
      whole = λ none. absurd (none-some pending (sym none));
    }
