-- Commands that end before anything ran, stresses, and the top call.
use Rattle.std.proofs.Common.{◌≡◌, ◌⊎◌, ℕ, Option, Some, None, Ok, Err, List, refl, ap, subst, inl, inr, arith}
use Rattle.std.specs.Prelude.{IfSome, Result}
use Rattle.os9_outer.specs.Host.{HostFiles, file_contents}
use Rattle.os9_outer.specs.declared.host.Host.{Ghosts}
use Rattle.os9_outer.specs.declared.host.HostFault.{HostFault}
use Rattle.os9_words.specs.declared.command.Command.{Command}
use Rattle.os9_words.specs.declared.command.Command.TheVariants.{Run as RunCommand, Boot as BootCommand, Check as CheckCommand, Stress as StressCommand, Vol as VolCommand, Asm as AsmCommand, Debug as DebugCommand}
use Rattle.os9_words.specs.Command.{command_of}
use Rattle.os9_words.specs.Lines.{no_memory_line, words_line}
use Rattle.os9_words.specs.Notes.{Notes, notes_of}
use Rattle.os9_words.specs.Streams.{ChangesErrOnly, WritesErr}
use Rattle.file_drives.specs.Drives.{drive_states, media_of}
use Rattle.os9_kernel.specs.Outside.{Outside}
use Rattle.boot_run.specs.Machine.{IsUnrun}
use Rattle.boot_run.specs.World.{World, FailsToReadFile, HasNoFault, world_of}
use Rattle.stress_run.specs.Stress.{LeavesStress, StressCall}
use Rattle.stress_run.specs.declared.stress.StressEnd.{StressEnd}
use Rattle.stress_run.specs.declared.stress.StressEnd.TheVariants as Stress
use Rattle.boot_run.specs.declared.status.End.{End}
use Rattle.boot_run.specs.declared.status.End.TheVariants.{Ended, Living, CannotRead, CannotWriteFile, CannotWriteImage, NoMemory}
use Rattle.boot_run.specs.declared.status.Input.{Input}
use Rattle.boot_run.specs.Stops.{StopsAtRead}
use Rattle.os9_words.specs.declared.asm_words.AsmWords.{AsmWords}
use Rattle.os9_words.specs.declared.debug_words.DebugWords.{DebugWords}
use Rattle.os9_words.specs.declared.vol_words.VolWords.{VolWords}
use Rattle.os9_boot.specs.Asm.{AsmComesTo}
use Rattle.os9_boot.specs.AsmCall.{AsmCall}
use Rattle.os9_boot.proofs.AsmCallLemmas.{files-same as asm-files-same}
use Rattle.os9_debug.specs.Call.{DebugCall}
use Rattle.os9_debug.specs.Debug.{DebugComesTo}
use Rattle.os9_boot.specs.VolCall.{VolCall}
use Rattle.os9_boot.specs.Vol.{VolComesTo}
use Rattle.os9_boot.proofs.VolCallLemmas.{devices-quiet, files-same}
use Rattle.os9_boot.specs.Boots.{BootComesTo, IsUndone, RunComesTo}
use Rattle.os9_boot.specs.Check.{CheckComesTo}
use Rattle.os9_boot.specs.Commands.{CommandCall}
use Rattle.boot_run.specs.End.{status_number}
use Rattle.os9_boot.specs.End.{stress_end}
use Rattle.os9_boot.specs.EndLines.{end_line}
use Rattle.os9_boot.specs.Host.{CommandFailsAsReported}
use Rattle.boot_run.specs.Left.{IsSilent}
use Rattle.boot_run.proofs.ChangeLemmas.{same-changes}
use Rattle.os9_boot.specs.BootLeft.{BootLeavesFiles, CommandLeavesDevices, StressMayEnd}
use Rattle.os9_boot.specs.History.{output_names, outputs_of}
use Rattle.os9_boot.specs.Meaning.{meaning}
use Rattle.os9_boot.specs.TopCall.{CommandReport, GainsLine, LosesErrorLine, Reports, TopCall, words_status}
use Rattle.os9_boot.specs.FilesNoted.{NotesFiles}
use Rattle.os9_boot.proofs.NameLemmas.{names-none}

-- ---- worlds

-- a line on the error stream changes no world
pub err-only : {Host : Type 0} (members : Ghosts Host) (before after : Host) (devices : Outside)
    → ChangesErrOnly members before after → world_of members after devices ≡ world_of members before devices
err-only members before after devices changed =
    rw (changed.files, changed.out, changed.faults, changed.name, changed.in_read) refl

pub kept-counts : (before after : World) → after ≡ before → HasNoFault before after
kept-counts before after same =
    (ap (λ (w : World). w.faults) same, ap (λ (w : World). w.failed_name) same, ap (λ (w : World). w.failed_in_read) same)

pub still-silent : (before after : World) → after ≡ before → IsSilent before after
still-silent before after same = record {
  out = ap (λ (w : World). w.out) same;
  devices = ap (λ (w : World). w.devices) same;
}

pub still-unrun : (before after : World) → after ≡ before → IsUnrun before after
still-unrun before after same = record {
  out = ap (λ (w : World). w.out) same;
  terminals = ap (λ (w : World). w.devices.terms) same;
  none_failed = ap (λ (w : World). drive_states w.devices.drives) same;
  media_kept = ap (λ (w : World). media_of w.devices.drives) same;
}

pub still-undone : (before after : World) → after ≡ before → IsUndone before after
still-undone before after same = record {
  unrun = still-unrun before after same;
  files = ap (λ (w : World). w.files) same;
}

-- what holds of all files
pub of-any : (told : Option HostFiles) (fact : HostFiles → Type 0) → ((files : HostFiles) → fact files) → IfSome told fact
of-any None fact holds = tt
of-any (Some files) fact holds = holds files

-- ---- files

boot-leaves : (names : List (List ℕ)) (before after : World) (end : End) → after.files ≡ before.files → BootLeavesFiles names before after end
boot-leaves names before after Ended same = same-changes names before.files after.files same
boot-leaves names before after Living same = same-changes names before.files after.files same
boot-leaves names before after (CannotWriteImage number) same = same-changes names before.files after.files same
boot-leaves names before after CannotWriteFile same = same-changes names before.files after.files same
boot-leaves names before after NoMemory same = same-changes names before.files after.files same
boot-leaves names before after end same = same

pub leaves-same : (command : Command) (before after : World) (end : End) → after.files ≡ before.files → (meaning command).files before after end
leaves-same (BootCommand boot) before after end same = boot-leaves (output_names (outputs_of boot)) before after end same
leaves-same (RunCommand run) before after end same = same
leaves-same (CheckCommand image) before after end same = same
leaves-same (StressCommand seed) before after end same = same
leaves-same (VolCommand vol) before after end same = files-same vol before after end same
leaves-same (AsmCommand asm) before after end same = asm-files-same asm before after end same
leaves-same (DebugCommand debug) before after end same = same

-- ---- devices

-- what is left of the output and the devices, which are as they were: if a file could not be read
unread-leaves : (command : Command) (input : Input) (before after : World) → IsSilent before after → (meaning command).devices before after (CannotRead input)
unread-leaves (RunCommand run) input before after same = same
unread-leaves (BootCommand boot) input before after same = same
unread-leaves (CheckCommand image) input before after same = record { out = same; devices = same.devices }
unread-leaves (StressCommand seed) input before after same = same
unread-leaves (VolCommand vol) input before after same = same
unread-leaves (AsmCommand asm) input before after same = same
unread-leaves (DebugCommand debug) input before after same = same

-- and if memory was out
wanting-leaves : (command : Command) (before after : World) → IsSilent before after → (meaning command).devices before after NoMemory
wanting-leaves (RunCommand run) before after same = tt
wanting-leaves (BootCommand boot) before after same = tt
wanting-leaves (CheckCommand image) before after same = record { out = tt; devices = same.devices }
wanting-leaves (StressCommand seed) before after same = tt
wanting-leaves (VolCommand vol) before after same = record {
  quiet = devices-quiet before after same.devices;
  out = λ none. same.out;
}
wanting-leaves (AsmCommand asm) before after same = same
wanting-leaves (DebugCommand debug) before after same = tt

-- ---- commands that end before anything ran

-- nothing was changed
pub unchanged : (command : Command) (before after : World) (end : End) → after ≡ before → (meaning command).may end
    → (meaning command).devices before after end → CommandFailsAsReported command end before after → (meaning command).comes
    before after end → CommandCall command before after end
unchanged command before after end same may left told comes = record {
  comes = comes;
  may = may;
  devices = left;
  host = told;
  files = leaves-same command before after end (ap (λ (w : World). w.files) same);
}

nothing-comes : (command : Command) (before after : World) → after ≡ before → (meaning command).comes before after NoMemory
nothing-comes (RunCommand run) before after same =
    of-any before.files (λ files. RunComesTo files run before after NoMemory) (λ files. inl (still-undone before after same))
nothing-comes (BootCommand boot) before after same =
    of-any before.files (λ files. BootComesTo files boot before after NoMemory) (λ files. inl (still-undone before after same))
nothing-comes (CheckCommand image) before after same =
    of-any before.files (λ files. CheckComesTo (file_contents files image) before after NoMemory) (λ files. inl (ap (λ (w : World). w.out) same))
nothing-comes (StressCommand seed) before after same =
    λ observed. (Stress.NoMemory, refl, inl (still-unrun before after same))
nothing-comes (VolCommand vol) before after same =
    of-any before.files (λ files. VolComesTo files vol before after NoMemory) (λ files. inl (record { output = ap (λ (w : World). w.out) same; files = ap (λ (w : World). w.files) same }))
nothing-comes (AsmCommand asm) before after same =
    of-any before.files (λ files. AsmComesTo files asm before after NoMemory) (λ files. inl (ap (λ (w : World). w.files) same))
nothing-comes (DebugCommand debug) before after same =
    of-any before.files (λ files. DebugComesTo files debug before after NoMemory) (λ files. inl (ap (λ (w : World). w.out) same))

nothing-may : (command : Command) → (meaning command).may NoMemory
nothing-may (RunCommand run) = tt
nothing-may (BootCommand boot) = tt
nothing-may (CheckCommand image) = tt
nothing-may (StressCommand seed) = tt
nothing-may (VolCommand vol) = tt
nothing-may (AsmCommand asm) = tt
nothing-may (DebugCommand debug) = tt

-- memory was out
pub out-of-memory : (command : Command) (before after : World) → after ≡ before → CommandCall command before after NoMemory
out-of-memory command before after same =
    unchanged command before after NoMemory same (nothing-may command) (wanting-leaves command before after
    (still-silent before after same)) (kept-counts before after same) (nothing-comes command before after same)

unread-comes : (command : Command) (input : Input) (name : List ℕ) (before after : World) → (meaning command).file_name input ≡ Some name → (meaning command).comes before after (CannotRead input)
unread-comes (RunCommand run) input name before after named =
    of-any before.files (λ files. RunComesTo files run before after (CannotRead input)) (λ files. tt)
unread-comes (BootCommand boot) input name before after named =
    of-any before.files (λ files. BootComesTo files boot before after (CannotRead input)) (λ files. tt)
unread-comes (CheckCommand image) input name before after named =
    of-any before.files (λ files. CheckComesTo (file_contents files image) before after (CannotRead input)) (λ files. tt)
unread-comes (StressCommand seed) input name before after named = absurd (cc named)
unread-comes (VolCommand vol) input name before after named =
    of-any before.files (λ files. VolComesTo files vol before after (CannotRead input)) (λ files. tt)
unread-comes (AsmCommand asm) input name before after named =
    of-any before.files (λ files. AsmComesTo files asm before after (CannotRead input)) (λ files. tt)
unread-comes (DebugCommand debug) input name before after named =
    of-any before.files (λ files. DebugComesTo files debug before after (CannotRead input)) (λ files. tt)

-- a file could not be read
pub could-not-read : (command : Command) (input : Input) (name : List ℕ) (before after : World)
    → (meaning command).file_name input ≡ Some name → (meaning command).may (CannotRead input) → FailsToReadFile name
    before after → after.files ≡ before.files → after.out ≡ before.out → after.devices ≡ before.devices
    → CommandCall command before after (CannotRead input)
could-not-read command input name before after named may failed files out devices = record {
  comes = unread-comes command input name before after named;
  may = may;
  devices = unread-leaves command input before after (record { out = out; devices = devices });
  host = (name, named, failed);
  files = leaves-same command before after (CannotRead input) files;
}

-- a read of its files ended it
pub stopped-call : (command : Command) (before after : World) (end : End)
    → ((input : Input) → (meaning command).may (CannotRead input)) → StopsAtRead (meaning command).file_name before
    after end → CommandCall command before after end
stopped-call command before after (CannotRead input) may (name, named, could) =
    could-not-read command input name before after named (may input) could.failed could.files could.out could.devices
stopped-call command before after NoMemory may same = out-of-memory command before after same
stopped-call command before after end may stops = absurd stops

-- ---- volumes

pub vol-called : (vol : VolWords) (before after : World) (end : End) → VolCall vol before after end → CommandCall (VolCommand vol) before after end
vol-called vol before after end call = record {
  comes = call.comes;
  may = call.may;
  devices = call.devices;
  host = call.host;
  files = call.files;
}

-- ---- sources

pub asm-called : (asm : AsmWords) (before after : World) (end : End) → AsmCall asm before after end → CommandCall (AsmCommand asm) before after end
asm-called asm before after end call = record {
  comes = call.comes;
  may = call.may;
  devices = call.devices;
  host = call.host;
  files = call.files;
}

-- ---- sessions

pub debug-called : (debug : DebugWords) (before after : World) (end : End) → DebugCall debug before after end → CommandCall (DebugCommand debug) before after end
debug-called debug before after end call = record {
  comes = call.comes;
  may = call.may;
  devices = call.devices;
  host = call.host;
  files = call.files;
}

-- ---- stresses

pub stressed : (seed : ℕ) (before after : World) (end : StressEnd) → StressCall seed before after end → CommandCall (StressCommand seed) before after (stress_end end)
stressed seed before after end call = record {
  comes = λ observed. (end, refl, call.comes observed);
  may = may end call.devices;
  devices = left end call;
  host = told end call;
  files = call.files_kept;
}
  where
    may : (end : StressEnd) → LeavesStress before after end → StressMayEnd (stress_end end)
    may Stress.Ended left = tt
    may Stress.Living left = tt
    may (Stress.DriveFailed drive number) left = omega (arith, left.among)
    may Stress.OutputFailed left = tt
    may Stress.NoMemory left = tt

    left : (end : StressEnd) → StressCall seed before after end → CommandLeavesDevices 1 before after (stress_end end)
    left Stress.Ended call = tt
    left Stress.Living call = tt
    left (Stress.DriveFailed drive number) call = call.devices
    left Stress.OutputFailed call = tt
    left Stress.NoMemory call = tt

    told : (end : StressEnd) → StressCall seed before after end → CommandFailsAsReported (StressCommand seed) (stress_end end) before after
    told Stress.Ended call = call.no_fault (λ is. cc is)
    told Stress.Living call = call.no_fault (λ is. cc is)
    told (Stress.DriveFailed drive number) call = call.no_fault (λ is. cc is)
    told Stress.OutputFailed call = call.output_fault refl
    told Stress.NoMemory call = call.no_fault (λ is. cc is)

-- ---- a part of a call that begins in the same world

pub ended-after : (command : Command) (before between after : World) (end : End) → between ≡ before → CommandCall command between after end → CommandCall command before after end
ended-after command before between after end same call = subst (λ world. CommandCall command world after end) same call

-- ---- the top call

-- the line was written to the error stream, as far as the answer says
pub reported : {Host Value : Type 0} (members : Ghosts Host) (line : List ℕ) (answer : Result Value HostFault)
    (before after : Host) → WritesErr members line answer before after → Reports line (notes_of members before)
    (notes_of members after)
reported {Value = Value} members line answer before after wrote = record {
  told = by answer wrote;
  read_kept = wrote.others.read;
  written_kept = wrote.others.written;
}
  where
    by : (answer : Result Value HostFault) → WritesErr members line answer before after
        → GainsLine line (notes_of members before) (notes_of members after) ⊎ LosesErrorLine line (notes_of members before)
        (notes_of members after)
    by (Ok value) wrote = inl (record { gained = wrote.whole; no_fault = wrote.count_kept })
    by (Err fault) wrote = inr (record { gained = wrote.prefix; fault = wrote.fault_counted })

-- a command was done, and then only the error stream was written
pub command-reported : (command : Command) (before between after : World) (noted done notes : Notes) (end : End)
    (answer : ℕ) → after ≡ between → answer ≡ status_number end → CommandCall command before between end
    → NotesFiles command end noted done → Reports (end_line command end) done notes → CommandReport command before
    after noted notes answer
command-reported command before between after noted done notes end answer same is call files line = record {
  end = end;
  status_is = is;
  call = rw same call;
  done = done;
  files = files;
  line = line;
}

module _ (words : List (List ℕ)) (before after : World) (noted notes : Notes) where
  -- the words are a command
  pub top-command : (command : Command) (status : ℕ) → command_of words ≡ Some command → CommandReport command before after noted notes status → TopCall words before after noted notes status
  top-command command status spelled report = rw spelled report

  -- they are none
  pub top-refused : Reports words_line noted notes → command_of words ≡ None → after ≡ before → TopCall words before after noted notes words_status
  top-refused line refused same = rw refused (record { undone = same; line = inl (refl, line) })

  -- memory was out before it was known
  pub top-memory : Reports no_memory_line noted notes → after ≡ before → TopCall words before after noted notes (status_number NoMemory)
  top-memory line same = by (command_of words) refl
    where
      by : (found : Option Command) → command_of words ≡ found → TopCall words before after noted notes (status_number NoMemory)
      by None is = rw is (record { undone = same; line = inr (refl, line) })
      by (Some command) is =
          rw is (record {
            end = NoMemory;
            status_is = refl;
            call = out-of-memory command before after same;
            done = noted;
            files = names-none command noted;
            line = line;
          })
