-- F$STime: sets the time (System Programmer's Manual, F$STime).
-- Takes the address of a packet in X. The time goes on from there, from this tick on.
-- Errors: E$BPAddr; then 225 if the packet is not a civil date and time (this project's own).
use Rattle.std.specs.Prelude.{ℕ, not}
use Rattle.os9_base.specs.declared.errors.TheConstants.{E_BPADDR, E_BADTIME}
use Rattle.os9_base.specs.declared.registers.TimePacket.{TimePacket}
use Rattle.proc_model.specs.Processes.{Processes, regs_at, cells_at}
use Rattle.proc_model.specs.UserBytes.{user_bytes}
use Rattle.time_rules.specs.CivilTime.{is_time_packet}
use Rattle.time_rules.specs.Packet.{packet_of}
use Rattle.time_rules.specs.Step.{TimeStep, sets, needs, refuses}
use Rattle.time_rules.specs.declared.clock.TheConstants.{PACKET_BYTES}

-- the clock is set to this packet in this tick
abbrev pub sets_clock : ℕ → TimePacket → TimeStep
sets_clock tick packet =
    refuses (not (is_time_packet packet)) E_BADTIME (sets (record { from = packet; since = tick }))

abbrev pub f_stime : Processes → ℕ → TimeStep
f_stime m p =
    needs (user_bytes (cells_at m p) (regs_at m p).x PACKET_BYTES) E_BPADDR
    (λ bytes. sets_clock m.tick (packet_of bytes))
