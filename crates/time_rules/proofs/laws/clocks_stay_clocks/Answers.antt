use Rattle.std.proofs.Common.{◌≡◌, ℕ, not, Bool, true, false, Option, Some, None, List, refl, subst, sym, arith}
use Rattle.os9_base.specs.declared.errors.TheConstants.{E_BADTIME, E_BPADDR}
use Rattle.os9_base.specs.declared.registers.TimePacket.{TimePacket}
use Rattle.proc_model.specs.Processes.{Processes, regs_at, cells_at}
use Rattle.proc_model.specs.UserBytes.{user_bytes}
use Rattle.time_rules.specs.CivilTime.{is_time_packet}
use Rattle.std.specs.Prelude.{is_none}
use Rattle.time_rules.specs.Attempts.{clock_after, time_step}
use Rattle.time_rules.specs.Clock.{IsClock}
use Rattle.time_rules.specs.Packet.{packet_of}
use Rattle.time_rules.specs.STime.{sets_clock}
use Rattle.time_rules.specs.Step.{tells, sets, needs, refuses}
use Rattle.time_rules.specs.declared.clock.Clock.{Clock}
use Rattle.time_rules.specs.declared.time_call.TimeCall.{TimeCall}
use Rattle.time_rules.specs.declared.time_call.TimeCall.TheVariants as Call
use Rattle.time_rules.proofs.laws.clocks_stay_clocks.Goals as goal

-- a packet is set only where it is a time
set : (clock : Clock) (tick : ℕ) (packet : TimePacket) (civil : Bool) → is_time_packet packet ≡ civil
    → IsClock clock tick
    → IsClock (clock_after clock (refuses (not civil) E_BADTIME (sets (record { from = packet; since = tick })))) tick
set clock tick packet true civil is = record { civil = civil; set = omega arith }
set clock tick packet false civil is = is

set_at : (clock : Clock) (tick : ℕ) (bytes : Option (List ℕ)) → IsClock clock tick
    → IsClock (clock_after clock (needs bytes E_BPADDR (λ bytes. sets_clock tick (packet_of bytes)))) tick
set_at clock tick None is = is
set_at clock tick (Some bytes) is = set clock tick (packet_of bytes) (is_time_packet (packet_of bytes)) refl is

-- nothing is set where the time is asked for
told : (clock : Clock) (tick at : ℕ) (now : TimePacket) (missing : Bool) → IsClock clock tick
    → IsClock (clock_after clock (refuses missing E_BPADDR (tells at now))) tick
told clock tick at now true is = is
told clock tick at now false is = is

after : (call : TimeCall) (m : Processes) (clock : Clock) (now : TimePacket) (p : ℕ) → IsClock clock m.tick
    → IsClock (clock_after clock (time_step call m now p)) m.tick
after Call.Time m clock now p is =
    told clock m.tick (regs_at m p).x now (is_none (user_bytes (cells_at m p) (regs_at m p).x 6)) is
after Call.STime m clock now p is = set_at clock m.tick (user_bytes (cells_at m p) (regs_at m p).x 6) is

pub returns-clause-call : goal.returns-clause-call
returns-clause-call c call m clock now p result new attempt is =
    subst (λ (k : Clock). IsClock k m.tick) (sym attempt.clock_is) (after call m clock now p is)
