-- The digits below the index spell some value, of which the number is the value or the last position.
use Rattle.std.proofs.Common.{◌≡◌, ℕ, drop, min}
use Rattle.text_values.specs.Number.{number_after}
use Rattle.os9_debug.specs.Commands.{last_position}
use Rattle.os9_debug.proofs.words.saturated_number.Given as goal

abbrev pub invariant-loop-byte : goal.invariant-loop-byte
invariant-loop-byte l =
    (value : ℕ)
    × (number_after 0 l.digits ≡ number_after value (drop l.byte-index l.digits))
    × (l.number ≡ min value last_position)
