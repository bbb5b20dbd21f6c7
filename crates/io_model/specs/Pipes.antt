-- Attempts on a pipe (Level Two manual, "Pipes"; the size of a pipe is this project's own).
use Rattle.std.specs.Prelude.{ℕ, ◌+◌, ◌==◌, ◌||◌, Bool, List, length, drop, if◌then◌else◌}
use Rattle.os9_base.specs.declared.errors.TheConstants.{E_EOF, E_WRITE}
use Rattle.os9_base.specs.declared.registers.Regs.{Regs}
use Rattle.io_model.specs.Pending.{count_left, moved_on, is_complete}
use Rattle.io_model.specs.Line.{has_return}
use Rattle.io_model.specs.Pipe.{read_answer, read_line_answer, write_answer, bytes_moved, left_by, added_to}
use Rattle.io_model.specs.declared.pending.PendingCall.{PendingCall}
use Rattle.io_model.specs.declared.pipe.PipeAns.{PipeAns}
use Rattle.io_model.specs.declared.pipe.PipeAns.TheVariants.{Done, Wait, End, NoReader}
use Rattle.io_model.specs.Io.{Io, pipe_bytes, with_pipe_bytes}
use Rattle.io_model.specs.Step.{Caller, IoEnd, answers, fails, keeps, IoEffect, leaves, stores}

-- the registers of the caller if this count is returned
abbrev pub count_regs : Caller → ℕ → Regs
count_regs caller count = record caller.regs { y = count }

-- the state after bytes were taken out of a pipe, or put into it, by an attempt's answer
abbrev pub after_taking : Io → ℕ → PipeAns → Io
after_taking io pipe answer = with_pipe_bytes io pipe (left_by answer (pipe_bytes io pipe))

abbrev pub after_adding : Io → ℕ → PipeAns → List ℕ → Io
after_adding io pipe answer bytes = with_pipe_bytes io pipe (added_to answer bytes (pipe_bytes io pipe))

-- I$Read: it is done with the bytes that are there

-- how an attempt ends
abbrev pub read_end : Caller → PendingCall → PipeAns → IoEnd
read_end caller call (Done count) = answers (count_regs caller count)
read_end caller call Wait = keeps call
read_end caller call End = fails E_EOF
read_end caller call NoReader = fails E_WRITE

-- what an attempt leaves, by its answer
abbrev pub read_leaves : Caller → Io → ℕ → PendingCall → PipeAns → IoEffect
read_leaves caller io pipe call answer =
    stores caller.regs.x (bytes_moved answer (pipe_bytes io pipe)) (read_end caller call answer)
    (after_taking io pipe answer)

abbrev pub reads_pipe : Caller → Io → ℕ → PendingCall → Bool → IoEffect
reads_pipe caller io pipe call alone =
    read_leaves caller io pipe call (read_answer (pipe_bytes io pipe) alone call.count)

-- I$ReadLn: it goes on until a carriage return, or until all bytes that it asks for were moved; if the process is
-- alone, it returns what was moved

-- how a line read that took these bytes ends; `call` is the call after them
abbrev pub line_end : Caller → Bool → PendingCall → List ℕ → IoEnd
line_end caller alone call taken =
    if has_return taken || (is_complete call || alone) then answers (count_regs caller call.moved) else keeps call

-- how a line read ends if it finds the pipe empty and the process alone
abbrev pub line_ended : Caller → PendingCall → IoEnd
line_ended caller call = if call.moved == 0 then fails E_EOF else answers (count_regs caller call.moved)

-- how an attempt ends
abbrev pub read_line_end : Caller → Bool → PendingCall → List ℕ → PipeAns → IoEnd
read_line_end caller alone call taken (Done count) = line_end caller alone (moved_on call count) taken
read_line_end caller alone call taken Wait = keeps call
read_line_end caller alone call taken End = line_ended caller call
read_line_end caller alone call taken NoReader = fails E_WRITE

-- what an attempt leaves, by its answer: it stores after the bytes that were moved before
abbrev pub read_line_leaves : Caller → Io → ℕ → PendingCall → Bool → PipeAns → IoEffect
read_line_leaves caller io pipe call alone answer =
    stores (caller.regs.x + call.moved) (bytes_moved answer (pipe_bytes io pipe))
    (read_line_end caller alone call (bytes_moved answer (pipe_bytes io pipe)) answer)
    (after_taking io pipe answer)

abbrev pub reads_pipe_line : Caller → Io → ℕ → PendingCall → Bool → IoEffect
reads_pipe_line caller io pipe call alone =
    read_line_leaves caller io pipe call alone (read_line_answer (pipe_bytes io pipe) alone (count_left call))

-- writes: they go on until all their bytes were moved; if the process is alone and the pipe is full, it is refused

-- how a write that moved bytes ends; `call` is the call after them
abbrev pub moved_end : Bool → PendingCall → Regs → IoEnd
moved_end alone call regs =
    if is_complete call then answers regs else (if alone then fails E_WRITE else keeps call)

-- how an attempt ends
abbrev pub write_end : Bool → PendingCall → Regs → PipeAns → IoEnd
write_end alone call regs (Done count) = moved_end alone (moved_on call count) regs
write_end alone call regs Wait = keeps call
write_end alone call regs End = fails E_EOF
write_end alone call regs NoReader = fails E_WRITE

-- what an attempt to write these bytes leaves, by its answer
abbrev pub write_leaves : Io → ℕ → PendingCall → Bool → List ℕ → Regs → PipeAns → IoEffect
write_leaves io pipe call alone bytes regs answer =
    leaves (write_end alone call regs answer) (after_adding io pipe answer bytes)

-- an attempt to write these bytes, the remaining bytes of the call
abbrev pub writes_rest : Io → ℕ → PendingCall → Bool → List ℕ → Regs → IoEffect
writes_rest io pipe call alone bytes regs =
    write_leaves io pipe call alone bytes regs (write_answer (pipe_bytes io pipe) alone (length bytes))

-- an attempt of a call that moves these bytes in all
abbrev pub writes_pipe : Io → ℕ → PendingCall → Bool → List ℕ → Regs → IoEffect
writes_pipe io pipe call alone bytes regs = writes_rest io pipe call alone (drop call.moved bytes) regs
