-- F$Time: returns the time (System Programmer's Manual, F$Time).
-- Takes the address of a packet in X, and stores the time there.
-- Errors: E$BPAddr.
use Rattle.std.specs.Prelude.{ℕ, is_none}
use Rattle.os9_base.specs.declared.errors.TheConstants.{E_BPADDR}
use Rattle.os9_base.specs.declared.registers.TimePacket.{TimePacket}
use Rattle.proc_model.specs.Processes.{Processes, regs_at, cells_at}
use Rattle.proc_model.specs.UserBytes.{user_bytes}
use Rattle.time_rules.specs.Step.{TimeStep, tells, refuses}
use Rattle.time_rules.specs.declared.clock.TheConstants.{PACKET_BYTES}

abbrev pub f_time : Processes → TimePacket → ℕ → TimeStep
f_time m now p =
    refuses (is_none (user_bytes (cells_at m p) (regs_at m p).x PACKET_BYTES)) E_BPADDR (tells (regs_at m p).x now)
