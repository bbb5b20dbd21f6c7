-- Reads of the drive of a file that was found.
use Rattle.std.proofs.Common.{◌≡◌, ℕ, ◌+◌, Option, Some, None, IsSome, List, Err}
use Rattle.std.proofs.lemmas.Bool.{false≢true}
use Rattle.os9_base.specs.declared.registers.TimePacket.{TimePacket}
use Rattle.os9_outer.specs.TerminalState.{TerminalState}
use Rattle.proc_model.specs.Processes.{Processes}
use Rattle.rbf_model.specs.File.{DiskFile}
use Rattle.rbf_model.specs.Volume.{DiskVolume}
use Rattle.rbf_access.specs.Faults.{file_error, file_fault}
use Rattle.rbf_access.specs.declared.faults.FileFault.{FileFault}
use Rattle.rbf_access.specs.declared.faults.FileFault.TheVariants.{Device, NoCluster, TooManyRuns}
use Rattle.file_rules.specs.Attempts.{asker_of}
use Rattle.file_rules.specs.Files.{Files, with_drives}
use Rattle.file_rules.specs.Step.{FileDoes, FileStep, MayBeLeft, deed_of, drive_of, refuses_so}
use Rattle.file_rules.specs.Route.{Found, IsFoundAt}
use Rattle.lock_model.specs.declared.place.FilePlace.{FilePlace}
use Rattle.file_drives.specs.Drives.{DriveView, drive_states}
use Rattle.file_drives.specs.Mounted.{OnDisks, ReadsFile}
use Rattle.file_state.proofs.CountLemmas.{called-read, called-then}
use Rattle.file_state.proofs.ReachedLemmas as reached
use Rattle.file_state.specs.declared.state.FileState.{FileState}
use Rattle.name_calls.proofs.OpenEndLemmas.{broken}
use Rattle.name_calls.specs.Ends.{HasReadIn}

module _ (was : Files) (place : FilePlace) (found : Found) (it : IsFoundAt was place found) (mid new : FileState)
    (before views now : List DriveView) (few : ℕ) (read : HasReadIn few None place.drive was mid before views) where
  -- what was read is of that file
  pub of-found : (fact : DiskVolume → DiskFile → Type 0) → OnDisks mid.disks views place fact → fact found.volume found.file
  of-found fact holds = holds was.volumes found.volume found.file read.read.stands.mounted it.volume_is it.file_is

  -- and the drive has been read once more
  pub read-on : (fault : Option ℕ) (most : DiskVolume → DiskFile → ℕ) → new.io ≡ mid.io → new.directories ≡
      mid.directories → new.records ≡ mid.records → ReadsFile place fault most mid.disks views new.disks now
      → HasReadIn (few + most found.volume found.file) fault place.drive was new before now
  read-on fault most io directories records reads = record {
    first = read.first;
    read = reached.has-read-then fault place.drive was mid new before views now read.read
        (reached.has-read mid new views now (with_drives was (drive_states views)) place found.file fault most read.read.stands
        (reached.file-there was place found.volume found.file it.volume_is it.file_is) io directories records reads);
    calls = called-then few (most found.volume found.file) before views now read.calls
        (called-read mid new views now (with_drives was (drive_states views)) place found.volume found.file fault most read.read.stands it.volume_is it.file_is reads);
  }

  -- or the drive has failed
  module _ (m : Processes) (time : TimePacket) (p : ℕ) (terms : List TerminalState) (step : FileStep)
      (at : drive_of step ≡ Some place.drive) (stays : (v : DiskVolume) → MayBeLeft (deed_of step was)
      (asker_of m p time) v v) where
    pub fault-does : (A : Type 0) (fault : FileFault) (most : DiskVolume → DiskFile → ℕ)
        → IsSome (file_fault {A = A} (Err fault)) → new.io ≡ mid.io → new.directories ≡ mid.directories
        → new.records ≡ mid.records → ReadsFile place (file_fault {A = A} (Err fault)) most mid.disks views new.disks
        now → FileDoes step (asker_of m p time) was (refuses_so (file_error fault)
        (with_drives was (drive_states now))) terms terms
    fault-does A (Device number) most some io directories records reads =
        broken m was time p terms step place.drive new before now number found.volume at it.volume_is (stays found.volume) (read-on (Some number) most io directories records reads).read
    fault-does A NoCluster most some io directories records reads = absurd (false≢true some)
    fault-does A TooManyRuns most some io directories records reads = absurd (false≢true some)
