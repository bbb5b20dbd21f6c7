use Rattle.std.proofs.Common.{◌≡◌, map, take, drop, ◌++◌, All, true}
use Rattle.std.specs.Prelude.{option_map}
use Rattle.os9_base.specs.Name.{is_stored_character, low_bits, marked_run}
use Rattle.os9_base.proofs.name.marked_length.Given as goal

abbrev pub invariant-loop-i : goal.invariant-loop-i
invariant-loop-i l =
    (marked_run l.bytes ≡ option_map (λ run. map low_bits (take l.i l.bytes) ++ run) (marked_run (drop l.i l.bytes))) × All (λ c. is_stored_character c ≡ true) (map low_bits (take l.i l.bytes))
