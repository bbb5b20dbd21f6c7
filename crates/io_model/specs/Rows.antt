-- Worked calls.
use Rattle.std.specs.Prelude.{ℕ, zero, suc, List, [], length, slice_get, replicate, codes}
use Rattle.os9_base.specs.Cells.{Cells}
use Rattle.os9_base.specs.declared.registers.Regs.{Regs}
use Rattle.proc_model.specs.Records.{zero_regs}
use Rattle.io_model.specs.Terminal.{new_terminal, used_by}
use Rattle.io_model.specs.Attempts.{io_step, io_after}
use Rattle.io_model.specs.Io.{Io, first_io, with_terminal}
use Rattle.io_model.specs.Processes.{io_started}
use Rattle.io_model.specs.Step.{Caller, IoEnd, IoEffect, IoStep, TerminalWrite, effect_of}
use Rattle.io_model.specs.Waiting.{pid}
use Rattle.io_model.specs.declared.io_call.IoCall.{IoCall}
use Rattle.io_model.specs.declared.io_call.IoCall.TheVariants as Call

-- the cells with these bytes from address 0 on, and no other bytes
abbrev pub cells_with : List ℕ → Cells
cells_with bytes at = slice_get bytes at

-- the process of this number, with these registers and these bytes from address 0 on
abbrev pub calling : ℕ → Regs → List ℕ → Caller
calling p regs bytes = record { process = pid p; regs = regs; cells = cells_with bytes }

-- what an attempt of a call by such a process leaves, on a machine with four terminals and no drive
abbrev pub attempt : IoCall → ℕ → Regs → List ℕ → Io → IoEffect
attempt call p regs bytes io = effect_of (io_step call (calling p regs bytes) io 0 4) io

-- the state after it
abbrev pub after : IoCall → ℕ → Regs → List ℕ → Io → Io
after call p regs bytes io = io_after p (attempt call p regs bytes io)

-- ---- path lists

-- the step of an I$Open by process 2, with this mode and path list, on a machine with `drives` drives and four
-- terminals
abbrev pub opening : ℕ → ℕ → List ℕ → IoStep
opening drives mode list = io_step Call.Open (calling 2 (record zero_regs { a = mode }) list) first_io drives 4

abbrev pub creating : ℕ → ℕ → List ℕ → IoStep
creating drives mode list = io_step Call.Create (calling 2 (record zero_regs { a = mode }) list) first_io drives 4

-- ---- pipes

-- the registers of a call on path 0 that moves at most `count` bytes from address 0 on
abbrev pub moving : ℕ → Regs
moving count = record zero_regs { y = count }

-- the state in which process 2 has a pipe as its path 0, which may be read and written
abbrev pub piped : Io
piped =
    after Call.Open 2 (record zero_regs { a = 3 }) (codes "/PIPE ")
    (after Call.Close 2 zero_regs [] first_io)

-- the state in which its child, process 3, shares the pipe
abbrev pub shared : Io
shared = io_started piped 2 3

-- `count` bytes
abbrev pub ones : ℕ → List ℕ
ones count = replicate count 1

-- process 2 writes `count` bytes, and process 3 reads at most `count`
abbrev pub writing : ℕ → Io → IoEffect
writing count io = attempt Call.Write 2 (moving count) (ones count) io

abbrev pub reading : ℕ → Io → IoEffect
reading most io = attempt Call.Read 3 (moving most) (ones most) io

-- the states in which process 2 writes 300 bytes, process 3 reads what is there, process 2 writes the rest, process 3
-- reads it, and process 2 exits
abbrev pub first_written : Io
first_written = io_after 2 (writing 300 shared)

abbrev pub first_read : Io
first_read = io_after 3 (reading 512 first_written)

abbrev pub rest_written : Io
rest_written = io_after 2 (writing 300 first_read)

abbrev pub rest_read : Io
rest_read = io_after 3 (reading 512 rest_written)

-- process 2 has filled the pipe, which it alone holds
abbrev pub filled : Io
filled = after Call.Write 2 (moving 256) (ones 256) piped

-- process 2 has written these bytes into the pipe that its child shares
abbrev pub sent : List ℕ → Io
sent bytes = after Call.Write 2 (moving (length bytes)) bytes shared

-- process 3 reads a line of at most 80 bytes
abbrev pub reading_line : Io → IoEffect
reading_line io = attempt Call.ReadLn 3 (moving 80) (replicate 80 0) io

-- ---- limits

-- the state after a process opened the target of a path list this number of times
abbrev pub opened_times : ℕ → ℕ → List ℕ → Io → Io
opened_times zero p list io = io
opened_times (suc n) p list io = after Call.Open p (record zero_regs { a = 3 }) list (opened_times n p list io)

-- how one more such opening ends
abbrev pub opening_ends : ℕ → List ℕ → Io → IoEnd
opening_ends p list io = (attempt Call.Open p (record zero_regs { a = 3 }) list io).end

-- the state with 64 paths: process 2 has fourteen by its sixteen numbers, processes 3 to 5 have sixteen
-- each, and process 6 has two
abbrev pub many_paths : Io
many_paths =
    opened_times 2 6 (codes "/T1 ") (opened_times 16 5 (codes "/T1 ") (opened_times 16 4 (codes "/T1 ")
    (opened_times 16 3 (codes "/T1 ") (opened_times 13 2 (codes "/T1 ") first_io))))

-- the state with sixteen pipes: process 2 has thirteen, and process 3 has three
abbrev pub many_pipes : Io
many_pipes = opened_times 3 3 (codes "/PIPE ") (opened_times 13 2 (codes "/PIPE ") first_io)

-- ---- a terminal that fails

-- the registers of a write of three bytes from address 0 on to standard output
abbrev pub failing : Regs
failing = record zero_regs { a = 1; y = 3 }

-- that write, as TERM gets it
abbrev pub abc : TerminalWrite
abc = record { terminal = 0; put = codes "abc"; count = 3; regs = failing }

-- the state in which process 2 is the last user of TERM
abbrev pub used : Io
used = with_terminal first_io 0 (used_by (pid 2) new_terminal)
