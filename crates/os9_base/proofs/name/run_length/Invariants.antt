use Rattle.std.proofs.Common.{◌≡◌, map, take, drop, ◌++◌, All, true}
use Rattle.os9_base.specs.Name.{is_stored_character, low_bits, name_run}
use Rattle.os9_base.proofs.name.run_length.Given as goal

abbrev pub invariant-loop-i : goal.invariant-loop-i
invariant-loop-i l =
    (name_run l.bytes ≡ map low_bits (take l.i l.bytes) ++ name_run (drop l.i l.bytes)) × All (λ c. is_stored_character c ≡ true) (map low_bits (take l.i l.bytes))
