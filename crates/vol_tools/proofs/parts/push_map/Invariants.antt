-- The bytes of the map below the index are pushed.
use Rattle.std.proofs.Common.{◌≡◌, ◌++◌, map}
use Rattle.std.specs.List.{range_with_len}
use Rattle.vol_tools.specs.Image.{marks_byte}
use Rattle.vol_tools.proofs.parts.push_map.Given as goal

abbrev pub invariant-loop-i : goal.invariant-loop-i
invariant-loop-i l = l.image.items ≡ l.initial.image.items ++ map (marks_byte l.marked) (range_with_len 0 l.i)
