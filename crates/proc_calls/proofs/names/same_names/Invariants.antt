use Rattle.std.proofs.Common.{◌≡◌, ◌+◌, ◌-◌}
use Rattle.proc_model.specs.CmpNam.{same_names}
use Rattle.guest_memory.specs.Tie.{cells_of}
use Rattle.proc_calls.proofs.names.same_names.Given as goal

abbrev pub invariant-loop-place : goal.invariant-loop-place
invariant-loop-place l =
    same_names (cells_of l.memory l.p.0) l.one l.other l.length
    ≡ same_names (cells_of l.memory l.p.0) (l.one + l.place) (l.other + l.place) (l.length - l.place)
