-- Whether a process would be alone, and what a transfer makes of the pipes.
use Rattle.std.proofs.Common.{◌≡◌, ℕ, zero, suc, ◌+◌, ◌<◌, ◌≤◌, ◌==◌, min, max, append_assoc, Bool, true, false, Option, Some, None, IsSome, List, ◌++◌, length, take, drop, get_or, set, inl, inr, sym, ap, refl, ◌∙◌, subst, arith}
use Rattle.std.specs.Prelude.{◌||◌, if◌then◌else◌}
use Rattle.std.specs.List.{list_any, range_with_len}
use Rattle.std.specs.Option.{option_map_or}
use Rattle.std.proofs.lemmas.Bool.{cases_eq, cases_lt, eqb-false, false≢true}
use Rattle.std.proofs.lemmas.List.{get_or-set_same, get_or-set_other, get_or_past, length-take-le, take_at}
use Rattle.std.proofs.lemmas.List.Quantifiers.{position-Some}
use Rattle.io_model.specs.declared.keys.TheConstants.{RETURN}
use Rattle.io_model.specs.declared.pipe.PipeAns.{PipeAns}
use Rattle.io_model.specs.declared.pipe.PipeAns.TheVariants.{Done, End, NoReader}
use Rattle.io_model.specs.Line.{line_length, return_place}
use Rattle.io_model.specs.Pipe.{IsPipe, pipe_room, with_pipe, answer_unmoved, read_answer, read_line_answer, write_answer, moved_count, bytes_moved, buffer_after_read}
use Rattle.io_model.specs.Io.{Io, with_pipe_bytes}
use Rattle.io_state.specs.Sound.{AreTargets}

-- no number of a range passes
pub none-in : (p : ℕ → Bool) (first count : ℕ) → ((k : ℕ) → first ≤ k → k < first + count → p k ≡ false) → list_any p (range_with_len first count) ≡ false
none-in p first zero none = refl
none-in p first (suc count) none =
    let here : p first ≡ false = none first (omega arith) (omega arith) in
    let later : list_any p (range_with_len (first + 1) count) ≡ false = none-in p (first + 1) count (λ k low high. none k (omega arith) (omega arith)) in
    λ i. here i || later i

either : (one other : Bool) → other ≡ true → (one || other) ≡ true
either true other is = refl
either false other is = is

-- a number of a range passes
pub some-in : (p : ℕ → Bool) (first count k : ℕ) → first ≤ k → k < first + count → p k ≡ true → list_any p (range_with_len first count) ≡ true
some-in p first zero k low high passes = absurd (omega arith)
some-in p first (suc count) k low high passes =
    elim (cases_eq k first) [
      | inl same ↦
          let here : p first ≡ true = subst (λ (n : ℕ). p n ≡ true) same passes in
          λ i. here i || list_any p (range_with_len (first + 1) count)
      | inr differ ↦ either (p first) (list_any p (range_with_len (first + 1) count)) (some-in p (first + 1) count k (omega arith) (omega arith) passes)
    ]

-- a pipe that is there has a place
pipe-within : (pipes : List (Option (List ℕ))) (n : ℕ) → IsPipe pipes n → n < length pipes
pipe-within pipes n is = elim (cases_lt n (length pipes)) [
  | inl within ↦ within
  | inr past ↦ absurd (false≢true (subst (λ (o : Option (List ℕ)). IsSome o) (get_or_past pipes n None past) is))
]

-- a pipe is there still where one holds other bytes
still-there : (pipes : List (Option (List ℕ))) (n m : ℕ) (bytes : List ℕ) → IsPipe pipes m → IsPipe (with_pipe pipes n bytes) m
still-there pipes n m bytes is = elim (cases_eq m n) [
  | inl same ↦
      let within : n < length pipes = omega (arith, same, pipe-within pipes m is) in
      subst (λ (o : Option (List ℕ)). IsSome o) (sym (ap (λ (k : ℕ). get_or (set pipes n (Some bytes)) k None) same ∙ get_or-set_same pipes n (Some bytes) None within)) refl
  | inr differ ↦ subst (λ (o : Option (List ℕ)). IsSome o) (sym (get_or-set_other pipes n m (Some bytes) None differ)) is
]

-- the paths and their pipes, where a pipe holds other bytes
pub are-moved : (io : Io) (n : ℕ) (bytes : List ℕ) → AreTargets io → AreTargets (with_pipe_bytes io n bytes)
are-moved io n bytes are = record {
  pipes = λ s m on. still-there io.pipes n m bytes (are.pipes s m on);
  one_path = are.one_path;
  terminals = are.terminals;
}

-- a first line has no more bytes than there are
line_length-within : (bytes : List ℕ) → line_length bytes ≤ length bytes
line_length-within bytes = by_place (return_place bytes) refl
  where
    by_place : (place : Option ℕ) → return_place bytes ≡ place → option_map_or (λ place. place + 1) place (length bytes) ≤ length bytes
    by_place None is = omega arith
    by_place (Some place) is = omega (arith, (position-Some (λ byte. byte == RETURN) bytes place 0 is).0)

-- ---- what a read asks for: no more than the pipe holds, and at least one byte

pub read-answer-same : (held : List ℕ) (alone : Bool) (most : ℕ) → 0 < most → read_answer held alone (min most (max (length held) 1)) ≡ read_answer held alone most
read-answer-same held alone most some = by_empty (length held == 0) refl
  where
    by_empty : (empty : Bool) → (length held == 0) ≡ empty → (if empty then answer_unmoved alone End else Done
        (min (min most (max (length held) 1)) (length held))) ≡ (if empty then answer_unmoved alone End else Done
        (min most (length held)))
    by_empty true is = refl
    by_empty false is =
        let there = eqb-false (length held) 0 is in
        let count : min (min most (max (length held) 1)) (length held) ≡ min most (length held) = omega arith in
        ap Done count

pub line-answer-same : (held : List ℕ) (alone : Bool) (most : ℕ) → 0 < most → read_line_answer held alone (min most (max (length held) 1)) ≡ read_line_answer held alone most
line-answer-same held alone most some = by_empty (length held == 0) refl
  where
    by_empty : (empty : Bool) → (length held == 0) ≡ empty → (if empty then answer_unmoved alone End else Done
        (min (min most (max (length held) 1)) (line_length held))) ≡ (if empty then answer_unmoved alone End else Done
        (min most (line_length held)))
    by_empty true is = refl
    by_empty false is =
        let short = line_length-within held in
        let count : min (min most (max (length held) 1)) (line_length held) ≡ min most (line_length held) = omega (arith, short) in
        ap Done count

-- a read moves no more than it asks for, nor than the pipe holds
pub read-few : (held : List ℕ) (alone : Bool) (most : ℕ) → (moved_count (read_answer held alone most) ≤ most) × (moved_count (read_answer held alone most) ≤ length held)
read-few held alone most = by_empty (length held == 0)
  where
    by_alone : (alone : Bool) → (moved_count (answer_unmoved alone End) ≤ most) × (moved_count (answer_unmoved alone End) ≤ length held)
    by_alone true = (omega arith, omega arith)
    by_alone false = (omega arith, omega arith)

    by_empty : (empty : Bool)
        → (moved_count (if empty then answer_unmoved alone End else Done (min most (length held))) ≤ most) ×
        (moved_count (if empty then answer_unmoved alone End else Done (min most (length held))) ≤ length held)
    by_empty true = by_alone alone
    by_empty false = (omega arith, omega arith)

pub line-few : (held : List ℕ) (alone : Bool) (most : ℕ) → (moved_count (read_line_answer held alone most) ≤ most) × (moved_count (read_line_answer held alone most) ≤ length held)
line-few held alone most = by_empty (length held == 0)
  where
    short : line_length held ≤ length held
    short = line_length-within held

    by_alone : (alone : Bool) → (moved_count (answer_unmoved alone End) ≤ most) × (moved_count (answer_unmoved alone End) ≤ length held)
    by_alone true = (omega arith, omega arith)
    by_alone false = (omega arith, omega arith)

    by_empty : (empty : Bool)
        → (moved_count (if empty then answer_unmoved alone End else Done (min most (line_length held))) ≤ most) ×
        (moved_count (if empty then answer_unmoved alone End else Done (min most (line_length held))) ≤ length held)
    by_empty true = by_alone alone
    by_empty false = (omega arith, omega (arith, short))

-- a write moves no more than there is to write
pub write-few : (held : List ℕ) (alone : Bool) (count : ℕ) → moved_count (write_answer held alone count) ≤ count
write-few held alone count = by_full (pipe_room held == 0)
  where
    by_alone : (alone : Bool) → moved_count (answer_unmoved alone NoReader) ≤ count
    by_alone true = omega arith
    by_alone false = omega arith

    by_full : (full : Bool) → moved_count (if full then answer_unmoved alone NoReader else Done (min count (pipe_room held))) ≤ count
    by_full true = by_alone alone
    by_full false = omega arith

-- what stands at the front of a buffer, a part of which was read into
pub front-moved : (answer : PipeAns) (held old into : List ℕ) (room : ℕ) → moved_count answer ≤ length held
    → moved_count answer ≤ room → room ≤ length into → old ≡ take room into → take (moved_count answer)
    (buffer_after_read answer held old ++ drop room into) ≡ bytes_moved answer held
front-moved answer held old into room inside few within is =
    let count = moved_count answer in
    let moved : length (bytes_moved answer held) ≡ count = length-take-le count held inside in
    ap (take count) (append_assoc (bytes_moved answer held) (drop count old) (drop room into))
    ∙ take_at (bytes_moved answer held) (drop count old ++ drop room into) count moved
