-- What a debugger shows of a state (this project's own): the registers of the process that had the last event, and
-- bytes that it sees.
use Rattle.std.specs.Prelude.{ℕ, ◌%◌, codes, decimal, Option, Some, None, unwrap_or, List, ◌++◌, flat_map, if◌then◌else◌}
use Rattle.std.specs.List.{range_with_len}
use Rattle.os9_base.specs.Cells.{Cells}
use Rattle.os9_base.specs.declared.registers.Regs.{Regs}
use Rattle.proc_model.specs.Records.{is_living}
use Rattle.proc_model.specs.Processes.{cells_at, regs_at}
use Rattle.machine_model.specs.ProcessStart.{first_process}
use Rattle.machine_model.specs.State.{State}
use Rattle.asm_model.specs.Numbers.{two_digits, four_digits}
use Rattle.os9_debug.specs.declared.command.Span.{Span}

-- the process that is shown: that of the last event, and the first process before any event
abbrev pub shown : State → ℕ
shown s = unwrap_or s.chosen first_process.0

-- its registers, if it lives
abbrev pub shown_regs : State → Option Regs
shown_regs s = if is_living s.processes.records (shown s) then Some (regs_at s.processes (shown s)) else None

-- the bytes that it sees
abbrev pub shown_cells : State → Cells
shown_cells s = cells_at s.processes (shown s)

-- registers in upper-case hexadecimal digits
abbrev pub regs_text : Regs → List ℕ
regs_text regs =
    codes " pc " ++ four_digits regs.pc ++ codes " a " ++ two_digits regs.a ++ codes " b " ++ two_digits regs.b
    ++ codes " dp " ++ two_digits regs.dp ++ codes " cc " ++ two_digits regs.cc ++ codes " x " ++ four_digits regs.x
    ++ codes " y " ++ four_digits regs.y ++ codes " u " ++ four_digits regs.u ++ codes " s " ++ four_digits regs.s

-- those of a process, or the text that it has ended
abbrev pub life_text : Option Regs → List ℕ
life_text None = codes " ended"
life_text (Some regs) = regs_text regs

-- the line of a process with these registers at a position
abbrev pub regs_line : ℕ → ℕ → Option Regs → List ℕ
regs_line k p regs = codes "at " ++ decimal k ++ codes " process " ++ decimal p ++ life_text regs ++ codes "\n"

-- a byte that the process sees, or the text that there is none
abbrev pub byte_text : Option ℕ → List ℕ
byte_text None = codes " --"
byte_text (Some byte) = codes " " ++ two_digits byte

-- a number of bytes from an address on; 0000 follows FFFF
abbrev pub mem_line : Cells → Span → List ℕ
mem_line cells span =
    four_digits span.at ++ flat_map (λ at. byte_text (cells (at % 65536))) (range_with_len span.at span.count)
    ++ codes "\n"

-- the line of the last event's number
abbrev pub end_line : ℕ → List ℕ
end_line last = codes "end at " ++ decimal last ++ codes "\n"
