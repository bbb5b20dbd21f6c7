-- F$CRC: continues a CRC (System Programmer's Manual, F$CRC).
-- Takes the address of the bytes in X, their count in Y, and the address of the accumulator of three bytes in U.
-- Errors: E$BPAddr.
use Rattle.std.specs.Prelude.{ℕ, ◌/◌, ◌%◌, List, [], ◌∷◌}
use Rattle.byteorder.specs.Endian.{big_number}
use Rattle.os9_base.specs.declared.errors.TheConstants.{E_BPADDR}
use Rattle.proc_model.specs.CrcModel.{crc_register}
use Rattle.proc_model.specs.MemoryChanges.{stored}
use Rattle.proc_model.specs.Processes.{Processes, regs_at, cells_at, with_memory}
use Rattle.proc_model.specs.CallResult.{CallResult, done, needs}
use Rattle.proc_model.specs.UserBytes.{user_bytes}

-- the three bytes of an accumulator, high byte first
abbrev pub crc_bytes : ℕ → List ℕ
crc_bytes register = register / 65536 ∷ register / 256 % 256 ∷ register % 256 ∷ []

-- the accumulator after these bytes
abbrev pub crc_continued : List ℕ → List ℕ → List ℕ
crc_continued accumulator bytes = crc_bytes (crc_register (big_number 3 accumulator) bytes)

abbrev pub f_crc : Processes → ℕ → CallResult
f_crc s p =
    needs (user_bytes (cells_at s p) (regs_at s p).x (regs_at s p).y) E_BPADDR
    (λ bytes. needs (user_bytes (cells_at s p) (regs_at s p).u 3) E_BPADDR
    (λ accumulator.
    done (with_memory s (stored s.memory p (regs_at s p).u (crc_continued accumulator bytes)))))
