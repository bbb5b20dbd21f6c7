use Rattle.std.proofs.Common.{◌≡◌, ◌-◌, take, ◌++◌, replicate}
use Rattle.os9_base.specs.Name.{marked_name}
use Rattle.rbf_entries.proofs.entry.padded.Given as goal

abbrev pub invariant-loop-i : goal.invariant-loop-i
invariant-loop-i l = l.bytes ≡ take l.i (marked_name l.name) ++ replicate (32 - l.i) 0
