-- Registers and memory of worked lines.
use Rattle.std.specs.Prelude.{◌==◌, Some, None, if◌then◌else◌}
use Rattle.os9_base.specs.Cells.{Cells}
use Rattle.os9_base.specs.declared.registers.Regs.{Regs}

-- the registers of a program after its first instruction
abbrev pub first_regs : Regs
first_regs = record { a = 0; b = 0; dp = 0; cc = 0; x = 57378; y = 256; u = 0; s = 256; pc = 57365 }

-- its next instruction, at E015
abbrev pub hello_cells : Cells
hello_cells at =
    if at == 57365 then Some 16
    else (if at == 57366 then Some 142
    else (if at == 57367 then Some 0 else (if at == 57368 then Some 80 else None)))

-- a byte at each end of the addresses
abbrev pub last_cells : Cells
last_cells at = if at == 65535 then Some 175 else (if at == 0 then Some 7 else None)
