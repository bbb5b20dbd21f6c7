-- What an attempt of a call on the time comes to, from what its body finds.
use Rattle.std.proofs.Common.{◌≡◌, ℕ, not, Bool, true, false, Option, Some, None, List, refl, ap, sym, subst, ◌∙◌}
use Rattle.std.specs.Prelude.{is_some, is_none, option_map}
use Rattle.os9_base.specs.declared.call.CallEnd.{CallEnd}
use Rattle.os9_base.specs.declared.call.CallEnd.TheVariants.{Done, Error}
use Rattle.os9_base.specs.declared.errors.TheConstants.{E_BADTIME, E_BPADDR}
use Rattle.os9_base.specs.declared.registers.Regs.{Regs}
use Rattle.os9_base.specs.declared.registers.TimePacket.{TimePacket}
use Rattle.proc_model.specs.MemoryChanges.{stored}
use Rattle.proc_model.specs.Processes.{Processes, regs_at, cells_at, with_memory}
use Rattle.proc_model.specs.UserBytes.{user_bytes}
use Rattle.time_rules.specs.CivilTime.{is_time_packet}
use Rattle.time_rules.proofs.Next.{later-packet}
use Rattle.proc_state.specs.declared.state.ProcState.{ProcState}
use Rattle.proc_state.specs.Tie.{RepresentsProcesses, ReturnsCallEnd}
use Rattle.time_rules.specs.Attempts.{time_step, result_of, clock_after}
use Rattle.time_rules.specs.Clock.{IsClock, seconds_since}
use Rattle.time_rules.specs.Packet.{packet_bytes, packet_of}
use Rattle.time_rules.specs.STime.{sets_clock}
use Rattle.time_rules.specs.Step.{TimeStep, refused, tells, sets, needs, refuses}
use Rattle.time_rules.specs.declared.clock.Clock.{Clock}
use Rattle.time_rules.specs.declared.time_call.TimeCall.{TimeCall}
use Rattle.time_rules.specs.declared.time_call.TimeCall.TheVariants as Call
use Rattle.call_dispatch.specs.TimeAttempt.{TimeAttempted, AttemptsNow, step_end}

-- an attempt whose step is known
attempt-of : (call : TimeCall) (m : Processes) (clock new : Clock) (now : TimePacket) (p : ℕ) (step : TimeStep) (end : CallEnd)
    (s : ProcState) → time_step call m now p ≡ step → ReturnsCallEnd m p (result_of m p step) end s
    → new ≡ clock_after clock step → TimeAttempted call m clock now p end s new
attempt-of call m clock new now p step end s is comes set = record {
  result = result_of m p step;
  attempt = record {
    result_is = ap (λ (it : TimeStep). result_of m p it) (sym is);
    clock_is = set ∙ ap (λ (it : TimeStep). clock_after clock it) (sym is);
  };
  comes = comes;
}

-- the tick is that of the kernel's processes
pub tick_seen : (s : ProcState) (m : Processes) → RepresentsProcesses s m → s.tick ≡ m.tick
tick_seen s m tied = sym (ap (λ (i : Processes). i.tick) tied.is)

-- an attempt that is the same at any time is one at the time that the clock shows
pub at-any-time : (call : TimeCall) (m : Processes) (clock new : Clock) (p : ℕ) (end : CallEnd) (s : ProcState)
    → IsClock clock m.tick → ((now : TimePacket) → TimeAttempted call m clock now p end s new)
    → AttemptsNow call m clock p end s new
at-any-time call m clock new p end s is attempts =
    let shown = later-packet clock.from (seconds_since clock m.tick) is.civil in
    record { now = shown.0; is = shown.1; attempts = attempts shown.0 }

-- ---- F$Time

refused-by : (bytes : Option (List ℕ)) (at : ℕ) (now : TimePacket) → is_some bytes ≡ false
    → refuses (is_none bytes) E_BPADDR (tells at now) ≡ refused E_BPADDR
refused-by None at now is = refl
refused-by (Some bytes) at now is = absurd (cc)

told-by : (bytes : Option (List ℕ)) (at : ℕ) (now : TimePacket) → is_some bytes ≡ true
    → refuses (is_none bytes) E_BPADDR (tells at now) ≡ tells at now
told-by None at now is = absurd (cc)
told-by (Some bytes) at now is = refl

pub time-refused : (m : Processes) (clock : Clock) (now : TimePacket) (p : ℕ) (regs : Regs) (s : ProcState)
    → regs ≡ regs_at m p → is_some (user_bytes (cells_at m p) regs.x 6) ≡ false → RepresentsProcesses s m
    → TimeAttempted Call.Time m clock now p (Error E_BPADDR) s clock
time-refused m clock now p regs s at missing tied =
    let is : is_some (user_bytes (cells_at m p) (regs_at m p).x 6) ≡ false =
    subst (λ (r : Regs). is_some (user_bytes (cells_at m p) r.x 6) ≡ false) at missing in
    attempt-of Call.Time m clock clock now p (refused E_BPADDR) (Error E_BPADDR) s
    (refused-by (user_bytes (cells_at m p) (regs_at m p).x 6) (regs_at m p).x now is) (refl, tied) refl

pub time-told : (m : Processes) (clock : Clock) (now : TimePacket) (p : ℕ) (regs : Regs) (s : ProcState)
    → regs ≡ regs_at m p → is_some (user_bytes (cells_at m p) regs.x 6) ≡ true
    → RepresentsProcesses s (with_memory m (stored m.memory p regs.x (packet_bytes now)))
    → TimeAttempted Call.Time m clock now p Done s clock
time-told m clock now p regs s at there tied =
    let is : is_some (user_bytes (cells_at m p) (regs_at m p).x 6) ≡ true =
    subst (λ (r : Regs). is_some (user_bytes (cells_at m p) r.x 6) ≡ true) at there in
    let new : RepresentsProcesses s (with_memory m (stored m.memory p (regs_at m p).x (packet_bytes now))) =
    subst (λ (r : Regs). RepresentsProcesses s (with_memory m (stored m.memory p r.x (packet_bytes now)))) at tied in
    attempt-of Call.Time m clock clock now p (tells (regs_at m p).x now) Done s
    (told-by (user_bytes (cells_at m p) (regs_at m p).x 6) (regs_at m p).x now is) (refl, new) refl

-- ---- F$STime

same-packet : (a b : TimePacket) → Some a ≡ Some b → a ≡ b
same-packet a b same = cc

unread-step : (bytes : Option (List ℕ)) (tick : ℕ) → option_map packet_of bytes ≡ None
    → needs bytes E_BPADDR (λ bytes. sets_clock tick (packet_of bytes)) ≡ refused E_BPADDR
unread-step None tick read = refl
unread-step (Some bytes) tick read = absurd (cc)

set-step : (bytes : Option (List ℕ)) (packet : TimePacket) (tick : ℕ) → option_map packet_of bytes ≡ Some packet
    → needs bytes E_BPADDR (λ bytes. sets_clock tick (packet_of bytes)) ≡ sets_clock tick packet
set-step None packet tick read = absurd (cc)
set-step (Some bytes) packet tick read =
    ap (λ (it : TimePacket). sets_clock tick it) (same-packet (packet_of bytes) packet read)

pub stime-refused : (m : Processes) (clock : Clock) (now : TimePacket) (p : ℕ) (regs : Regs) (s : ProcState)
    → regs ≡ regs_at m p → option_map packet_of (user_bytes (cells_at m p) regs.x 6) ≡ None → RepresentsProcesses s m
    → TimeAttempted Call.STime m clock now p (Error E_BPADDR) s clock
stime-refused m clock now p regs s at read tied =
    let missing : option_map packet_of (user_bytes (cells_at m p) (regs_at m p).x 6) ≡ None =
    subst (λ (r : Regs). option_map packet_of (user_bytes (cells_at m p) r.x 6) ≡ None) at read in
    attempt-of Call.STime m clock clock now p (refused E_BPADDR) (Error E_BPADDR) s
    (unread-step (user_bytes (cells_at m p) (regs_at m p).x 6) m.tick missing) (refl, tied) refl

comes-if : (m : Processes) (p : ℕ) (clock : Clock) (s : ProcState) (is : Bool) → RepresentsProcesses s m
    → ReturnsCallEnd m p (result_of m p (refuses (not is) E_BADTIME (sets clock)))
    (step_end (refuses (not is) E_BADTIME (sets clock))) s
comes-if m p clock s true tied = (refl, tied)
comes-if m p clock s false tied = (refl, tied)

pub stime-set : (m : Processes) (clock new : Clock) (now : TimePacket) (p : ℕ) (regs : Regs) (packet : TimePacket) (tick : ℕ)
    (end : CallEnd) (s : ProcState) → regs ≡ regs_at m p
    → option_map packet_of (user_bytes (cells_at m p) regs.x 6) ≡ Some packet → tick ≡ m.tick
    → end ≡ step_end (sets_clock tick packet) → new ≡ clock_after clock (sets_clock tick packet) → RepresentsProcesses s m
    → TimeAttempted Call.STime m clock now p end s new
stime-set m clock new now p regs packet tick end s at read same ends set tied =
    let there : option_map packet_of (user_bytes (cells_at m p) (regs_at m p).x 6) ≡ Some packet =
    subst (λ (r : Regs). option_map packet_of (user_bytes (cells_at m p) r.x 6) ≡ Some packet) at read in
    let step = sets_clock m.tick packet in
    let end_is : end ≡ step_end step = ends ∙ ap (λ (k : ℕ). step_end (sets_clock k packet)) same in
    let set_is : new ≡ clock_after clock step = set ∙ ap (λ (k : ℕ). clock_after clock (sets_clock k packet)) same in
    let comes : ReturnsCallEnd m p (result_of m p step) end s =
    subst (λ (it : CallEnd). ReturnsCallEnd m p (result_of m p step) it s) (sym end_is)
    (comes-if m p (record { from = packet; since = m.tick }) s (is_time_packet packet) tied) in
    attempt-of Call.STime m clock new now p step end s
    (set-step (user_bytes (cells_at m p) (regs_at m p).x 6) packet m.tick there) comes set_is
