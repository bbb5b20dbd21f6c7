-- The elder of turns (Level Two manual, process scheduling; the exact rule of ages is this project's own).
use Rattle.std.specs.Prelude.{nat_lt, Option, Some, None, if◌then◌else◌}
use Rattle.proc_model.specs.declared.turn.Turn.{Turn}

-- the elder of two turns, if there are two; of equals the first one
abbrev pub elder : Option Turn → Turn → Option Turn
elder None second = Some second
elder (Some first) second = if nat_lt first.age second.age then Some second else Some first
