-- I$Close of a path on a file or a directory (System Programmer's Manual, I$Close; Level Two manual, RBF record
-- locking). Takes the number of the path in A, which is free then. The path goes with its last number, and its lock
-- with it.
-- Errors: E$BPNum.
use Rattle.std.specs.Prelude.{ℕ, false}
use Rattle.io_model.specs.Close.{i_close as closes_device, after_close}
use Rattle.lock_model.specs.Records.{ends_lock}
use Rattle.file_rules.specs.Files.{Files, Asker, with_io, with_records}
use Rattle.file_rules.specs.Locking.{lock_ends}
use Rattle.file_rules.specs.OnFile.{on_file}
use Rattle.file_rules.specs.Step.{FileStep, done}

-- the state without the lock of a path, if it ends
abbrev pub without_ended : Files → ℕ → Files
without_ended files path =
    with_records files (ends_lock (lock_ends files.io.paths (λ owner. false)) path files.records)

-- the state after a process closed a number of this path
abbrev pub files_after_close : Files → ℕ → ℕ → ℕ → Files
files_after_close files p n path = without_ended (with_io files (after_close files.io p n)) path

abbrev pub i_close : Asker → Files → FileStep
i_close asker files =
    on_file asker files asker.caller.regs.a (closes_device asker.caller files.io)
    (λ opened. done asker.caller.regs
    (files_after_close files asker.caller.process.0 asker.caller.regs.a opened.opened.path.0))
