-- A session behind which the drives are emptied.
use Rattle.std.proofs.Common.{◌≡◌, ◌≢◌, ◌⊎◌, ◌<◌, ◌≤◌, ℕ, true, Result, Ok, Err, List, [], length, map, All, inl, inr, refl, sym, ap, subst, ◌∙◌, arith}
use Rattle.std.specs.List.{AllZip}
use Rattle.std.specs.Prelude.{slice_get}
use Rattle.std.proofs.lemmas.List.{length-map}
use Rattle.std.proofs.lemmas.List.Elements.{All-weaker}
use Rattle.os9_base.specs.declared.limits.TheConstants.{LAST_TICK}
use Rattle.os9_base.specs.declared.registers.TimePacket.{TimePacket}
use Rattle.time_rules.specs.CivilTime.{is_time_packet}
use Rattle.os9_outer.specs.TerminalState.{TerminalState, fault_counts}
use Rattle.file_drives.specs.Drives.{DriveView, drive_states}
use Rattle.script_text.specs.Script.{AreKeys, IsScriptKey}
use Rattle.script_text.specs.declared.script.ScriptKey.{ScriptKey}
use Rattle.boot_run.specs.Dropped.{FailsAt}
use Rattle.os9_words.specs.declared.command.RunWords.{RunWords}
use Rattle.os9_words.specs.Command.{IsRun}
use Rattle.boot_run.specs.Drives.{IsEmptyDrive, without_media}
use Rattle.boot_run.specs.Ready.{AreEmptyAgain, DevicesAreFree}
use Rattle.boot_run.proofs.DriveLemmas.{counts-without, empty-without, given-back}
use Rattle.os9_kernel.specs.Outside.{Outside}
use Rattle.run_laws.specs.Faults.{NoDriveFailed, NotFailed}
use Rattle.boot_run.specs.World.{World}
use Rattle.os9_debug.specs.Course.{Course}
use Rattle.os9_debug.specs.Prints.{printed_from}
use Rattle.os9_debug.specs.declared.command.Command.{Command}
use Rattle.os9_debug.specs.Devices.{Unfailed}
use Rattle.os9_debug.specs.Counts.{FailedOnce, RoseOnce, TerminalRose}
use Rattle.os9_debug.specs.Machine.{CanStart, HasKeyTick, InCourse}
use Rattle.os9_debug.specs.Session.{FailsToPrint, PrintsFirstOfCourse, PrintsSome, DebugSessionCall, StopsDebugSession}
use Rattle.os9_debug.specs.declared.machine.Machine.{Machine}
use Rattle.os9_debug.specs.declared.machine.SessionFault.{SessionFault}
use Rattle.os9_debug.specs.declared.machine.SessionFault.TheVariants.{Refused, TerminalFailed, OutputFailed, NoMemory}
use Rattle.os9_debug.proofs.Starting.{no-volumes}

-- ---- it can be had

ticks : (terminals : ℕ) (keys : List ScriptKey) → AreKeys terminals keys → All HasKeyTick keys
ticks terminals keys are = All-weaker (IsScriptKey terminals) HasKeyTick (λ key is. let early = is.early in omega (arith, early)) keys are.each

pub can-start : (machine : Machine) (run : RunWords) (terminals : ℕ) (devices : Outside) → IsRun run
    → machine.blocks ≡ run.blocks → machine.time ≡ run.start → AreKeys terminals machine.keys.now
    → length machine.slices.now < LAST_TICK → DevicesAreFree 0 devices → CanStart machine devices
can-start machine run terminals devices is blocks time keys few free = record {
  can_run = record {
    least = subst (λ (count : ℕ). 8 ≤ count) (sym blocks) is.machine.blocks.0;
    most = subst (λ (count : ℕ). count ≤ 256) (sym blocks) is.machine.blocks.1;
    time = subst (λ (packet : TimePacket). is_time_packet packet ≡ true) (sym time) is.machine.time;
    few = few;
    terminals = free.terminals;
    enough = omega arith;
    few_drives = free.room.few;
    volumes = no-volumes devices.drives;
  };
  ticks = ticks terminals machine.keys.now keys;
}

-- ---- the drives are emptied

pub empty-again : (before mid after : List DriveView) → length mid ≡ length before → after ≡ map without_media mid → AreEmptyAgain before after
empty-again before mid after many gone = record {
  as_many = ap length gone ∙ length-map mid without_media ∙ many;
  empty = subst (λ (drives : List DriveView). All IsEmptyDrive drives) (sym gone) (empty-without mid);
}

module _ (machine : Machine) (commands : List Command) (before mid : World) (left : Outside)
    (empty : All IsEmptyDrive before.devices.drives) (gone : left.drives ≡ map without_media mid.devices.drives)
    (terms : left.terms ≡ mid.devices.terms) where
  abbrev after : World
  after = record mid { devices = left }

  states : drive_states left.drives ≡ drive_states mid.devices.drives
  states = ap drive_states gone ∙ counts-without mid.devices.drives

  unfailed : Unfailed before.devices left → Unfailed before.devices mid.devices
  unfailed none = record {
    terminals = subst (λ (terms : List TerminalState). AllZip NotFailed before.devices.terms terms) terms none.terminals;
    drives = subst (NoDriveFailed (drive_states before.devices.drives)) states none.drives;
  }

  once : (n : ℕ) → FailedOnce n before.devices left → FailedOnce n before.devices mid.devices
  once n failed = record {
    terminals = subst (λ (terms : List TerminalState). RoseOnce before.devices.terms terms n) terms failed.terminals;
    drives = subst (NoDriveFailed (drive_states before.devices.drives)) states failed.drives;
  }

  rose : (n : ℕ) → TerminalRose n before.devices mid.devices → TerminalRose n before.devices left
  rose n it = record {
    old = it.old;
    new = it.new;
    was = it.was;
    is = ap (λ (terms : List TerminalState). slice_get (fault_counts terms) n) terms ∙ it.is;
    rose = it.rose;
  }

  same : mid ≡ before → after ≡ before
  same is =
      let drives : left.drives ≡ before.devices.drives = gone ∙ ap (λ (w : World). map without_media w.devices.drives) is ∙ given-back [] before.devices.drives empty in
      let terminals : left.terms ≡ before.devices.terms = terms ∙ ap (λ (w : World). w.devices.terms) is in
      λ i. record (is i) { devices = record { drives = drives i; terms = terminals i } }

  in-course : (fact : Course → Type 0) → InCourse machine before.devices mid.devices fact → InCourse machine before.devices left fact
  in-course fact holds = λ bare none course is. holds bare (unfailed none) course is

  prints-some : PrintsSome machine commands before mid → PrintsSome machine commands before after
  prints-some it = (it.0, in-course (PrintsFirstOfCourse machine commands before mid) it.1)

  fails-to-print : FailsToPrint machine commands before mid → FailsToPrint machine commands before after
  fails-to-print it =
      (it.0, in-course (λ course. PrintsFirstOfCourse machine commands before mid course × (printed_from course 0 commands ≢ [])) it.1)

  unless-kept : (mid.out ≡ before.out) ⊎ PrintsSome machine commands before mid → (after.out ≡ before.out) ⊎ PrintsSome machine commands before after
  unless-kept (inl same) = inl same
  unless-kept (inr it) = inr (prints-some it)

  stops : (fault : SessionFault) → StopsDebugSession machine commands before mid fault → StopsDebugSession machine commands before after fault
  stops (Refused fault) it = (it.0, same it.1)
  stops (TerminalFailed n) it = record {
    starts = it.starts;
    rose = rose n it.rose;
    done = it.done;
    next = it.next;
    next_is = it.next_is;
    between = it.between;
    gains = it.gains;
    fails = subst (λ (terms : List TerminalState). FailsAt n it.between.terms terms) (sym terms) it.fails;
    prints = λ bare failed course is. it.prints bare (once n failed) course is;
  }
  stops OutputFailed it = fails-to-print it
  stops NoMemory it = unless-kept it

  pub emptied : {Value : Type 0} (answer : Result Value SessionFault) → DebugSessionCall machine commands answer before mid → DebugSessionCall machine commands answer before after
  emptied (Ok value) call = record {
    prints = λ bare none course is. call.prints bare (unfailed none) course is;
    starts = call.starts;
    stops = tt;
    output_fault = call.output_fault;
    no_fault = call.no_fault;
    files_kept = call.files_kept;
  }
  emptied (Err fault) call = record {
    prints = tt;
    starts = tt;
    stops = stops fault call.stops;
    output_fault = call.output_fault;
    no_fault = call.no_fault;
    files_kept = call.files_kept;
  }
