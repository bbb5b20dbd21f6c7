-- The characters below the index are pushed.
use Rattle.std.proofs.Common.{◌≡◌, ◌++◌, take}
use Rattle.module_format.proofs.maker.push_name.Given as goal

abbrev pub invariant-loop-i : goal.invariant-loop-i
invariant-loop-i l = l.bytes.items ≡ l.initial.bytes.items ++ take l.i l.name
