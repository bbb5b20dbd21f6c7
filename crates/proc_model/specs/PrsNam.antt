-- F$PrsNam: parses a name (System Programmer's Manual, F$PrsNam).
-- Takes the address of the name in X, and skips one slash before it. Returns the address of its first character in X,
-- the address after its last one in Y, its length in B, and the byte at Y in A.
-- Errors: E$BPAddr, E$BNam; then E$BPAddr of the byte at Y.
use Rattle.std.specs.Prelude.{ℕ, ◌+◌, ◌==◌, length, if◌then◌else◌}
use Rattle.os9_base.specs.Cells.{Cells}
use Rattle.os9_base.specs.declared.errors.TheConstants.{E_BPADDR, E_BNAM}
use Rattle.os9_base.specs.declared.registers.Regs.{Regs}
use Rattle.std.specs.Option.{option_map_or}
use Rattle.os9_base.specs.UserNames.{user_cell, name_at}
use Rattle.proc_model.specs.Processes.{Processes, regs_at, cells_at, with_regs_of}
use Rattle.proc_model.specs.Program.{slash}
use Rattle.proc_model.specs.CallResult.{CallResult, done, needs, reads_name}

-- the address after one slash, if there is one
abbrev pub past_slash : Cells → ℕ → ℕ
past_slash cells at = option_map_or (λ byte. if byte == slash then at + 1 else at) (user_cell cells at) at

-- the registers for a name of this length at an address, with the byte after it
abbrev pub name_regs : Regs → ℕ → ℕ → ℕ → Regs
name_regs regs first count next = record regs { a = next; b = count; x = first; y = first + count }

-- a name at an address is parsed
abbrev pub parses_name : Processes → ℕ → ℕ → CallResult
parses_name s p first =
    reads_name (name_at (cells_at s p) first) E_BNAM
    (λ name. needs (user_cell (cells_at s p) (first + length name)) E_BPADDR
    (λ next. done (with_regs_of s p (name_regs (regs_at s p) first (length name) next))))

abbrev pub f_prsnam : Processes → ℕ → CallResult
f_prsnam s p = parses_name s p (past_slash (cells_at s p) (regs_at s p).x)
