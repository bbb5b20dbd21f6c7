-- Attempts of calls on paths, files and directories.
use Rattle.std.proofs.Common.{◌≡◌, ◌≢◌, ◌⊎◌, ◌∙◌, ℕ, true, Option, List, refl, sym, ap, subst, inl, inr}
use Rattle.os9_base.specs.declared.call.CallEnd.{CallEnd}
use Rattle.os9_base.specs.declared.call.CallEnd.TheVariants.{Done, Error, Wait, Ended, NoMemory}
use Rattle.os9_base.specs.declared.registers.TimePacket.{TimePacket}
use Rattle.os9_outer.specs.TerminalState.{TerminalState}
use Rattle.proc_model.specs.declared.record.Record.{Record}
use Rattle.proc_model.specs.Records.{IsLiving}
use Rattle.proc_calls.specs.Telling.{LivesOn}
use Rattle.proc_model.specs.Attempts.{after_attempt, attempt_end}
use Rattle.proc_model.specs.CallResult.{CallResult}
use Rattle.proc_model.specs.Processes.{Processes}
use Rattle.io_model.specs.Attempts.{result_by, result_of}
use Rattle.io_model.specs.Step.{IoEffect, IoEnd, answers, fails, keeps}
use Rattle.machine_model.specs.declared.ends.EventEnd.TheVariants as Event
use Rattle.file_rules.specs.Attempts.{FileAttempts, io_effect}
use Rattle.file_rules.specs.Files.{Files}
use Rattle.file_rules.specs.declared.path_call.PathCall.{PathCall}
use Rattle.call_dispatch.specs.Dates.{IsTimeFor, sets_date}
use Rattle.file_state.specs.Tie.{AreSoundFiles}
use Rattle.time_rules.proofs.Days.{same-packet}
use Rattle.time_rules.proofs.Next.{later-packet}
use Rattle.time_rules.specs.Clock.{IsClock, IsNow, seconds_since}
use Rattle.time_rules.specs.declared.clock.Clock.{Clock}
use Rattle.machine_model.specs.State.{State}
use Rattle.os9_kernel.specs.declared.kernel.Kernel.{Kernel}
use Rattle.os9_kernel.specs.Ends.{event_end_of}
use Rattle.os9_kernel.specs.Outside.{Outside}
use Rattle.os9_kernel.specs.Tie.{Represents}

-- ---- what an attempt asks for

-- paths and directories are on what is there
pub is-sound : (old : Kernel) (before : Outside) (s : State) → Represents old before s → AreSoundFiles old.machine.files before.drives
is-sound old before s tied = record { files = s.files; stands = tied.files; kinds = tied.run.locked.state.running.kinds }

-- the clock was set to a civil time, and not after this tick
pub is-clock : (old : Kernel) (before : Outside) (s : State) → Represents old before s → IsClock old.clock old.machine.processes.tick
is-clock old before s tied =
    subst (λ (clock : Clock). IsClock clock old.machine.processes.tick) (ap (λ (s : State). s.clock) tied.is)
    (subst (λ (tick : ℕ). IsClock s.clock tick) (ap (λ (m : Processes). m.tick) tied.processes.is) tied.run.locked.state.running.clock)

-- it shows a time
pub some-time : (old : Kernel) (before : Outside) (s : State) → Represents old before s → (now : TimePacket) × IsNow s.clock s.processes.tick now
some-time old before s tied = later-packet s.clock.from (seconds_since s.clock s.processes.tick) tied.run.locked.state.running.clock.civil

-- and that one is the machine's
pub now-here : (old : Kernel) (before : Outside) (s : State) → Represents old before s → (now : TimePacket) → IsNow old.clock old.machine.processes.tick now → IsNow s.clock s.processes.tick now
now-here old before s tied now is =
    subst (λ (clock : Clock). IsNow clock s.processes.tick now) (sym (ap (λ (s : State). s.clock) tied.is))
    (subst (λ (tick : ℕ). IsNow old.clock tick now) (sym (ap (λ (m : Processes). m.tick) tied.processes.is)) is)

-- so does the kernel's
pub time-shown : (old : Kernel) (before : Outside) (s : State) → Represents old before s → (time : TimePacket) × IsNow old.clock old.machine.processes.tick time
time-shown old before s tied = later-packet old.clock.from (seconds_since old.clock old.machine.processes.tick) (is-clock old before s tied).civil

-- a packet that was made for a call is of the time that the clock shows, if the call sets a date
pub time-for : (clock : Clock) (tick : ℕ) (call : PathCall) (made time : TimePacket) → (sets_date call ≡ true → IsNow clock tick made) → IsNow clock tick time → IsTimeFor call made time
time-for clock tick call made time made_is is dated = same-packet clock.from (seconds_since clock tick) time made is (made_is dated)

-- ---- how it ends

-- a process that lives lives on
pub lives-on : (end : CallEnd) (records : List (Option Record)) (p : ℕ) → IsLiving records p → LivesOn end records p
lives-on Done records p lives = lives
lives-on (Error number) records p lives = lives
lives-on Wait records p lives = lives
lives-on Ended records p lives = tt
lives-on NoMemory records p lives = tt

-- memory is out where the call says so
pub wants-so : (end : CallEnd) → event_end_of end ≡ Event.NoMemory → end ≡ NoMemory
wants-so Done is = cc
wants-so (Error number) is = cc
wants-so Wait is = cc
wants-so Ended is = cc
wants-so NoMemory is = refl

-- or memory was there
pub cases-memory : (end : CallEnd) → (end ≡ NoMemory) ⊎ (end ≢ NoMemory)
cases-memory Done = inr (λ is. cc)
cases-memory (Error number) = inr (λ is. cc)
cases-memory Wait = inr (λ is. cc)
cases-memory Ended = inr (λ is. cc)
cases-memory NoMemory = inl refl

-- an attempt leaves the tick
effect-tick : (m : Processes) (p : ℕ) (effect : IoEffect) → (after_attempt m p (result_of m p effect)).tick ≡ m.tick
effect-tick m p effect = by_end effect.end
  where
    by_end : (end : IoEnd) → (after_attempt m p (result_by end m p effect)).tick ≡ m.tick
    by_end (answers regs) = refl
    by_end (fails number) = refl
    by_end (keeps kept) = refl

pub attempt-tick : (call : PathCall) (m : Processes) (files : Files) (now : TimePacket) (p : ℕ) (result : CallResult)
    (new : Files) (before after : List TerminalState) → FileAttempts call m files now p result new before after
    → (after_attempt m p result).tick ≡ m.tick
attempt-tick call m files now p result new before after it =
    ap (λ (result : CallResult). (after_attempt m p result).tick) it.result_is ∙ effect-tick m p (io_effect it.effect)

-- it does not end its process, and memory is there
effect-ends : (m : Processes) (p : ℕ) (effect : IoEffect) (end : CallEnd) → end ≡ attempt_end (result_of m p effect) → (end ≢ Ended) × (end ≢ NoMemory)
effect-ends m p effect = by_end effect.end
  where
    by_end : (left : IoEnd) (end : CallEnd) → end ≡ attempt_end (result_by left m p effect) → (end ≢ Ended) × (end ≢ NoMemory)
    by_end (answers regs) end is = (λ out. cc, λ out. cc)
    by_end (fails number) end is = (λ out. cc, λ out. cc)
    by_end (keeps kept) end is = (λ out. cc, λ out. cc)

-- so its process lives then
pub path-lives : (end : CallEnd) (call : PathCall) (m : Processes) (files : Files) (now : TimePacket) (p : ℕ) (result : CallResult)
    (new : Files) (before after : List TerminalState) → FileAttempts call m files now p result new before after
    → end ≡ attempt_end result → (records : List (Option Record)) → LivesOn end records p → IsLiving records p
path-lives end call m files now p result new before after it is records = by end (effect-ends m p (io_effect it.effect) end (is ∙ ap attempt_end it.result_is))
  where
    by : (end : CallEnd) → (end ≢ Ended) × (end ≢ NoMemory) → LivesOn end records p → IsLiving records p
    by Done other lives = lives
    by (Error number) other lives = lives
    by Wait other lives = lives
    by Ended other lives = absurd (other.0 refl)
    by NoMemory other lives = absurd (other.1 refl)
