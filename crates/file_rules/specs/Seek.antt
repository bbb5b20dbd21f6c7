-- I$Seek: sets the position of a path (System Programmer's Manual, I$Seek).
-- Takes the path in A and the position in X, the high half, and U. A terminal or a pipe has no position, and the call
-- does nothing.
-- Errors: E$BPNum.
use Rattle.std.specs.Prelude.{ℕ, ◌+◌, ◌*◌}
use Rattle.os9_base.specs.declared.errors.TheConstants.{E_BPNUM}
use Rattle.os9_base.specs.declared.registers.Regs.{Regs}
use Rattle.io_model.specs.Io.{Io, open_path}
use Rattle.io_model.specs.Step.{Caller, IoStep, needs, done as io_done}
use Rattle.file_rules.specs.Files.{Files, Asker, with_position}
use Rattle.file_rules.specs.OnFile.{on_file}
use Rattle.file_rules.specs.Step.{FileStep, done}

-- the number in X, the high half, and U
abbrev pub long_of : Regs → ℕ
long_of regs = 65536 * regs.x + regs.u

-- on a terminal or a pipe
abbrev pub seeks_nothing : Caller → Io → IoStep
seeks_nothing caller io =
    needs (open_path io caller.process.0 caller.regs.a) E_BPNUM (λ opened. io_done caller.regs io)

abbrev pub i_seek : Asker → Files → FileStep
i_seek asker files =
    on_file asker files asker.caller.regs.a (seeks_nothing asker.caller files.io)
    (λ opened. done asker.caller.regs (with_position files opened.opened (long_of asker.caller.regs)))
