-- Calls on a number of a path: on a file or a directory they are those of files. On anything else, or if the number
-- names nothing, they are those of terminals and pipes.
use Rattle.std.specs.Prelude.{ℕ, ◌==◌, not, Bool, Option, Some, None, if◌then◌else◌}
use Rattle.os9_base.specs.declared.errors.TheConstants.{E_BMODE}
use Rattle.io_model.specs.Step.{IoStep}
use Rattle.file_rules.specs.Files.{Files, Asker, OpenFile, open_file}
use Rattle.file_rules.specs.Step.{FileStep, comes, as_io, refuses, done}

abbrev pub by_kind : Option OpenFile → IoStep → (OpenFile → FileStep) → FileStep
by_kind None otherwise next = comes (as_io otherwise)
by_kind (Some opened) otherwise next = next opened

-- the call goes on with the file of a number of its process, or is the other call
abbrev pub on_file : Asker → Files → ℕ → IoStep → (OpenFile → FileStep) → FileStep
on_file asker files number otherwise next =
    by_kind (open_file files asker.caller.process.0 number) otherwise next

-- the call is refused if the mode of the path does not allow it; without a byte to move it is done at once
abbrev pub moves_bytes : Asker → Files → OpenFile → (ℕ → Bool) → FileStep → FileStep
moves_bytes asker files opened is_allowed next =
    refuses (not (is_allowed opened.opened.desc.mode)) E_BMODE
    (if asker.caller.regs.y == 0 then done asker.caller.regs files else next)
