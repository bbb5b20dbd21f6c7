-- What a debugger prints (this project's own).
use Rattle.std.specs.Prelude.{ℕ, nat_lt, List, [], ◌∷◌, ◌++◌, if◌then◌else◌}
use Rattle.machine_model.specs.Run.{Run}
use Rattle.machine_model.specs.Start.{Boot, Starts}
use Rattle.machine_model.specs.State.{State}
use Rattle.run_laws.specs.Faults.{NoneFailed}
use Rattle.os9_debug.specs.declared.command.Command.{Command}
use Rattle.os9_debug.specs.declared.command.Command.TheVariants.{To, Back, Regs, Mem, Dis}
use Rattle.os9_debug.specs.Course.{Course, last_of, position_after, state_at}
use Rattle.os9_debug.specs.Disassembly.{dis_lines}
use Rattle.os9_debug.specs.Show.{end_line, mem_line, regs_line, shown, shown_cells, shown_regs}

-- what a command prints at a position
abbrev pub shows : Course → ℕ → Command → List ℕ
shows course k (To n) = if nat_lt (last_of course) n then end_line (last_of course) else []
shows course k (Back n) = []
shows course k Regs = regs_line k (shown (state_at course k)) (shown_regs (state_at course k))
shows course k (Mem span) = mem_line (shown_cells (state_at course k)) span
shows course k (Dis span) = dis_lines (shown_cells (state_at course k)) span.at span.count

-- what a list of commands prints: for each what it shows at the position to which the earlier ones lead
abbrev pub printed_from : Course → ℕ → List Command → List ℕ
printed_from course k [] = []
printed_from course k (command ∷ commands) =
    shows course k command ++ printed_from course (position_after course k command) commands

-- a course of a machine with this start, over these slices: that of a run in which no device fails
pub record IsCourse (boot : Boot) (slices : List ℕ) (course : Course) : Type 0 where
  pub starts : Starts boot course.start
  pub written : List ℕ
  pub last : State
  pub run : Run slices course.start course.states written last
  pub faultless : NoneFailed course.start last
