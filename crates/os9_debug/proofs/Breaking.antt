-- Devices if memory is out: no count of faults falls.
use Rattle.std.proofs.Common.{◌≡◌, ◌⊎◌, ℕ, zero, suc, Option, Some, None, List, [], ◌∷◌, length, slice_get, slice_set, refl, sym, ap, ◌∙◌, subst, inl, inr, arith}
use Rattle.std.specs.Prelude.{is_some}
use Rattle.std.proofs.lemmas.Option.{none-some, same_Some}
use Rattle.os9_base.specs.declared.registers.Pid.{Pid}
use Rattle.os9_base.specs.declared.registers.TimePacket.{TimePacket}
use Rattle.os9_outer.specs.Stream.{stream_with}
use Rattle.os9_outer.specs.TerminalState.{TerminalState, ChangesOneTerminal}
use Rattle.proc_model.specs.CallResult.{CallResult}
use Rattle.io_model.specs.Terminal.{BreaksOffEcho as BreaksOffRead, IsOutputCutShort, TerminalReadAttempt, Terminal, TerminalWriteAttempt}
use Rattle.io_model.specs.declared.terminal.Progress.TheVariants.{NoMemory}
use Rattle.io_model.specs.declared.terminal.Reading.{Reading}
use Rattle.io_model.specs.Attempts.{caller_of}
use Rattle.io_model.specs.Io.{Io, terminal_at}
use Rattle.io_model.specs.Memory.{WantsMemory}
use Rattle.io_model.specs.Step.{Caller, IoStep, refused, comes, reads, writes}
use Rattle.io_model.specs.Terminals.{request_of}
use Rattle.machine_model.specs.Terminals.{OnlyGains, TerminalsOnlyGain}
use Rattle.machine_model.proofs.TerminalLaws.{gain-attempt, gain-same}
use Rattle.file_rules.specs.Attempts.{FileAttempts}
use Rattle.file_rules.specs.Files.{DriveState, Files}
use Rattle.file_rules.specs.declared.path_call.PathCall.{PathCall}
use Rattle.file_laws.specs.Devices.{DeviceAttempted}
use Rattle.file_laws.specs.Touch.{TouchesNoDevice, WaitsForRecord}
use Rattle.file_laws.proofs.TouchAttempts.{attempt-comes}
use Rattle.file_drives.specs.Drives.{drive_states}
use Rattle.machine_model.specs.Devices.{DrivesOnlyGain}
use Rattle.machine_model.specs.Run.{BreaksTick}
use Rattle.machine_model.specs.State.{State}
use Rattle.machine_model.proofs.Drives.{drives-same, none-gains, volumes-gain}
use Rattle.machine_model.proofs.Gains.{broken-gains}
use Rattle.os9_kernel.specs.Breaks.{BreaksAtByte, BreaksAtEntry}
use Rattle.os9_kernel.specs.Calls.{BreaksOffEvent}
use Rattle.os9_kernel.specs.Outside.{Outside}
use Rattle.os9_kernel.specs.Tie.{Represents, RepresentsSomeState}
use Rattle.os9_kernel.specs.Volumes.{HoldsVolumes}
use Rattle.os9_kernel.specs.declared.kernel.Kernel.{Kernel}
use Rattle.os9_debug.specs.Devices.{DevicesGain}
use Rattle.os9_debug.proofs.Faults.{terms-are}

-- ---- one terminal

observed-with : (put : Option (List ℕ)) (bytes : List ℕ) → is_some (stream_with put bytes) ≡ is_some put
observed-with None bytes = refl
observed-with (Some before) bytes = refl

read-gains : (request : Reading) (old new : Terminal) (before now : TerminalState) → TerminalReadAttempt request NoMemory old new before now → OnlyGains before now
read-gains request old new before now it =
    let broken : BreaksOffRead request old new before now = it.outcome in
    record {
      keys = ([], sym it.driver.keys);
      faults = it.driver.never_falls;
      observed = ap (λ put. is_some put) broken.echo ∙ observed-with before.put _;
    }

write-gains : (process : Pid) (bytes : List ℕ) (count : ℕ) (old new : Terminal) (before now : TerminalState)
    → TerminalWriteAttempt process bytes count NoMemory old new before now → OnlyGains before now
write-gains process bytes count old new before now it =
    let cut : IsOutputCutShort process bytes old new before now = it.outcome in
    record {
      keys = ([], sym it.driver.keys);
      faults = it.driver.never_falls;
      observed = ap (λ put. is_some put) cut.part.2 ∙ observed-with before.put _;
    }

-- ---- all terminals

gain-set : (terms : List TerminalState) (n : ℕ) (old new : TerminalState) → slice_get terms n ≡ Some old → OnlyGains old new → TerminalsOnlyGain terms (slice_set terms n new)
gain-set [] n old new is gains = absurd (none-some old is)
gain-set (terminal ∷ terms) zero old new is gains =
    (subst (λ (t : TerminalState). OnlyGains t new) (sym (same_Some terminal old is)) gains, gain-same terms)
gain-set (terminal ∷ terms) (suc n) old new is gains =
    (record { keys = ([], refl); faults = omega arith; observed = refl }, gain-set terms n old new is gains)

gain-one : (change : TerminalState → TerminalState → Type 0) (n : ℕ) (before now : List TerminalState)
    → ((old new : TerminalState) → change old new → OnlyGains old new) → ChangesOneTerminal change n before now
    → TerminalsOnlyGain before now
gain-one change n before now gains (old, new, found, is, changed) =
    subst (TerminalsOnlyGain before) (sym is) (gain-set before n old new found (gains old new changed))

wants-gain : (step : IoStep) (caller : Caller) (io : Io) (before after : List TerminalState) → WantsMemory step caller io before after → TerminalsOnlyGain before after
wants-gain (refused number) caller io before after wants = absurd wants
wants-gain (comes effect) caller io before after wants = absurd wants
wants-gain (reads read) caller io before after (new, device) =
    gain-one _ read.terminal before after (λ old now it. read-gains (request_of caller read) (terminal_at io read.terminal) new old now it) device
wants-gain (writes write) caller io before after (new, device) =
    gain-one _ write.terminal before after (λ old now it. write-gains caller.process write.put write.count (terminal_at io write.terminal) new old now it) device

-- ---- an attempt

-- an attempt of a call on a path is done
module _ (call : PathCall) (s : State) (now : TimePacket) (p : ℕ) (result : CallResult) (done : Files) (terms : List TerminalState) where
  by-touch : DeviceAttempted call s.processes s.files p result done s.terms terms ⊎ TouchesNoDevice call s.processes s.files now p
      result done s.terms terms ⊎ WaitsForRecord call s.processes s.files now p result done s.terms terms
      → TerminalsOnlyGain s.terms terms × DrivesOnlyGain s.files.drives done.drives
  by-touch (inl on) = (
    gain-attempt on.device s.processes s.files.io done.io (length s.files.drives) p result s.terms terms on.attempted,
    none-gains s.files.drives done.drives on.none_failed,
  )
  by-touch (inr (inl left)) = (
    subst (TerminalsOnlyGain s.terms) (sym left.terminals) (gain-same s.terms),
    volumes-gain s.files result done left.volumes,
  )
  by-touch (inr (inr waiting)) = (
    subst (TerminalsOnlyGain s.terms) (sym waiting.terminals) (gain-same s.terms),
    none-gains s.files.drives done.drives waiting.none_failed,
  )

  attempt-gains : FileAttempts call s.processes s.files now p result done s.terms terms → TerminalsOnlyGain s.terms terms × DrivesOnlyGain s.files.drives done.drives
  attempt-gains it = by-touch (attempt-comes call s.processes s.files now p result done s.terms terms it)

-- ---- the devices of a kernel

module _ (old : Kernel) (before after : Outside) (s : State) (tied : Represents old before s) where
  -- the drives hold the volumes of these files, whose drives have gained
  gains-done : (done : Files) → TerminalsOnlyGain s.terms after.terms → DrivesOnlyGain s.files.drives done.drives
      → HoldsVolumes (record s { files = done }) after.drives → DevicesGain before after
  gains-done done gained drives held = record {
    terminals = subst (λ (terms : List TerminalState). TerminalsOnlyGain terms after.terms) (terms-are old before s tied) gained;
    drives =
        subst (λ (now : List DriveState). DrivesOnlyGain (drive_states before.drives) now) held.counts
        (subst (λ (was : List DriveState). DrivesOnlyGain was done.drives) tied.files.drives drives);
  }

  gains-so : TerminalsOnlyGain s.terms after.terms → HoldsVolumes s after.drives → DevicesGain before after
  gains-so gained held = gains-done s.files gained (drives-same s.files.drives) held

  -- by what memory was wanting for
  breaks-gain : (call : PathCall) (now : TimePacket) (p : ℕ) → BreaksAtByte call s now p after ⊎ BreaksAtEntry call s
      now p after → DevicesGain before after
  breaks-gain call now p (inl it) =
      gains-so (wants-gain it.lacks.step (caller_of s.processes p) s.files.io s.terms after.terms it.lacks.wants) it.drives
  breaks-gain call now p (inr it) =
      let gained = attempt-gains call s now p it.lacks.result it.done after.terms it.lacks.attempts in
      gains-done it.done gained.0 gained.1 it.drives

-- an event is broken off
pub event-breaks : (old : Kernel) (before after : Outside) → RepresentsSomeState old before → BreaksOffEvent old before after → DevicesGain before after
event-breaks old before after (s, tied) breaks =
    let it = breaks s tied in breaks-gain old before after s tied it.call it.now it.p it.lacks

-- a tick is broken off
pub tick-breaks : (old : Kernel) (before after : Outside) → RepresentsSomeState old before → ((s : State) → Represents old before s
    → BreaksTick s after.terms × HoldsVolumes s after.drives) → DevicesGain before after
tick-breaks old before after (s, tied) breaks =
    let it = breaks s tied in gains-so old before after s tied (broken-gains s after.terms it.0) it.1
