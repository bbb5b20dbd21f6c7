-- I$Dup: gives a path another number (System Programmer's Manual, I$Dup).
-- Takes the number of the path in A; returns its new number, the least free one, in A.
-- Errors: E$BPNum, E$PthFul.
use Rattle.os9_base.specs.declared.errors.TheConstants.{E_BPNUM, E_PTHFUL}
use Rattle.io_model.specs.Path.{slot_of, free_number, paths_after_dup}
use Rattle.io_model.specs.Io.{Io, with_paths}
use Rattle.io_model.specs.Step.{Caller, IoStep, needs, done}

abbrev pub i_dup : Caller → Io → IoStep
i_dup caller io =
    needs (slot_of io.paths caller.process.0 caller.regs.a) E_BPNUM
    (λ path. needs (free_number io.paths caller.process.0) E_PTHFUL
    (λ number. done (record caller.regs { a = number })
    (with_paths io (paths_after_dup io.paths caller.process.0 caller.regs.a))))
