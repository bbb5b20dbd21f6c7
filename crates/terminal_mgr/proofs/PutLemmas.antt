-- Bytes that are put in two parts.
use Rattle.std.proofs.Common.{◌≡◌, ℕ, ◌+◌, Option, Some, Result, Ok, Err, OnErr, is_some, List, [], ◌∷◌, ◌++◌, length, take, if◌then◌else◌, sym, ap, subst, ◌∙◌, arith, length-append}
use Rattle.std.proofs.Math.Seq.{take-append-add}
use Rattle.std.specs.Option.{option_map_or}
use Rattle.os9_outer.specs.Stream.{stream_with, GainsPart}
use Rattle.io_model.specs.Line.{return_place, line_put}
use Rattle.terminal_mgr.proofs.TypingLemmas.{stream_with-twice}

-- the second part was refused, after the first one
part-after : {Value Fault : Type 0} (answer : Result Value Fault) (first second : List ℕ)
    (before mid now : Option (List ℕ)) → mid ≡ stream_with before first → OnErr answer (GainsPart mid second now)
    → OnErr answer (GainsPart before (first ++ second) now)
part-after (Ok value) first second before mid now put part = tt
part-after (Err fault) first second before mid now put part = (
  length first + part.0,
  omega (arith, part.1, length-append first second),
  part.2 ∙ ap (λ (stream : Option (List ℕ)). stream_with stream (take part.0 second)) put ∙ stream_with-twice before
      first (take part.0 second) ∙ ap (stream_with before) (sym (take-append-add first second part.0)),
)

-- what is put where the bytes have a carriage return
line_put-at : (bytes : List ℕ) (place : ℕ) → return_place bytes ≡ Some place → line_put bytes ≡ take (place + 1) bytes ++ 10 ∷ []
line_put-at bytes place at =
    let by : Option ℕ → List ℕ = λ found. take (option_map_or (λ place. place + 1) found (length bytes)) bytes ++ (if is_some found then 10 ∷ [] else []) in
    ap by at

-- the line feed was refused
pub line-part : {Value Fault : Type 0} (answer : Result Value Fault) (bytes : List ℕ) (place : ℕ)
    (before mid now : Option (List ℕ)) → return_place bytes ≡ Some place → mid ≡ stream_with before
    (take (place + 1) bytes) → OnErr answer (GainsPart mid (10 ∷ []) now)
    → OnErr answer (GainsPart before (line_put bytes) now)
line-part answer bytes place before mid now at put part =
    let P : List ℕ → Type 0 = λ all. OnErr answer (GainsPart before all now) in
    subst P (sym (line_put-at bytes place at)) (part-after answer (take (place + 1) bytes) (10 ∷ []) before mid now put part)
