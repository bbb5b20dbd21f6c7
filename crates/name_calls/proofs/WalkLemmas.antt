-- A call that goes on at the end of a walk.
use Rattle.std.proofs.Common.{◌≡◌, ◌∙◌, ℕ, ◌+◌, Bool, Option, Some, None, option_and_then, List, Result, Ok, Err, ap, sym, subst}
use Rattle.os9_base.specs.declared.call.CallEnd.{CallEnd}
use Rattle.os9_base.specs.declared.call.CallEnd.TheVariants.{Error}
use Rattle.os9_base.specs.declared.errors.TheConstants.{E_FNA, E_PNNF}
use Rattle.os9_base.specs.declared.registers.TimePacket.{TimePacket}
use Rattle.os9_outer.specs.TerminalState.{TerminalState}
use Rattle.os9_base.specs.declared.registers.Pid.{Pid}
use Rattle.os9_base.specs.declared.registers.Regs.{Regs}
use Rattle.device_paths.specs.Standing.{NamesFrom, NamesStand}
use Rattle.proc_state.specs.Tie.{RepresentsProcesses}
use Rattle.proc_state.specs.declared.state.ProcState.{ProcState}
use Rattle.proc_model.specs.Processes.{Processes, cells_at, regs_at, user_at}
use Rattle.io_model.specs.Io.{Io, with_call}
use Rattle.rbf_model.specs.File.{DiskFile}
use Rattle.rbf_model.specs.Volume.{DiskVolume}
use Rattle.rbf_access.specs.declared.faults.FileFault.TheVariants.{Device, NoCluster, TooManyRuns}
use Rattle.rbf_walk.specs.Walk.{directory_error, directory_fault, walk_calls}
use Rattle.rbf_walk.specs.declared.error.DirError.{DirError}
use Rattle.rbf_walk.specs.declared.error.DirError.TheVariants.{NotAllowed, BadPath, NotFound, Exists, File}
use Rattle.file_rules.specs.Attempts.{asker_of}
use Rattle.file_rules.specs.Open.{is_for_execution}
use Rattle.file_rules.specs.Files.{Files, volume_at, with_drives}
use Rattle.file_rules.specs.Step.{FileDoes, FileStep, MayBeLeft, deed_of, drive_of, reaches, refuses_so}
use Rattle.file_rules.specs.Route.{Found, walks, IsFoundAt}
use Rattle.lock_model.specs.declared.place.FilePlace.{FilePlace}
use Rattle.proc_state.proofs.Tied.{regs-tied}
use Rattle.file_drives.specs.Drives.{DriveView, drive_states}
use Rattle.file_drives.specs.Mounted.{HasFileAt}
use Rattle.file_state.proofs.CountLemmas.{called-read}
use Rattle.file_state.proofs.ReachedLemmas as reached
use Rattle.file_state.specs.Ends.{EndsFileAttempt}
use Rattle.file_state.specs.Tie.{RepresentsFiles}
use Rattle.file_state.specs.declared.state.FileState.{FileState}
use Rattle.file_routes.proofs.ReachLemmas.{volume-there, walk-comes, walks-forbidden, walks-found, walks-reaches, walks-unfound, WalkComes}
use Rattle.file_routes.proofs.VolumeLemmas.{file-there}
use Rattle.file_routes.specs.Reached.{FindsFilePlace}
use Rattle.file_routes.specs.Walks.{WalksAlongNames}
use Rattle.file_routes.specs.declared.walk.Walker.{Walker}
use Rattle.name_calls.proofs.OpenCallLemmas.{walk-found, walk-within}
use Rattle.name_calls.proofs.OpenEndLemmas.{broken, ends-as, read-ends, read-more, user-tied, well-refused}
use Rattle.file_routes.specs.Calls.{walk_and}
use Rattle.name_calls.specs.Ends.{HasReadIn}
use Rattle.name_calls.specs.Steps.{walker_at}

module _ (m : Processes) (was : Files) (now : TimePacket) (p : ℕ) (terms : List TerminalState) (walker : Walker)
    (from : FilePlace) (names : List (List ℕ)) (state new : FileState) (before after : List DriveView)
    (user : (asker_of m p now).user ≡ walker.by.user) (stands : RepresentsFiles state before was) (has : HasFileAt state.disks
    before from) (io : new.io ≡ state.io) (directories : new.directories ≡ state.directories)
    (records : new.records ≡ state.records) (next : Found → FileStep) where
  abbrev step : FileStep
  step = walks (asker_of m p now) was walker.by.execute from names next

  -- the volume of its drive
  on-volume : (v : DiskVolume) × (volume_at was from.drive ≡ Some v)
  on-volume = volume-there state.disks before from was.volumes has stands.mounted

  there : (v : DiskVolume) → volume_at was from.drive ≡ Some v → v.files from.number ≡ Some has.file
  there v is = file-there state.disks before from has was.volumes v stands.mounted is

  -- its drive is reached
  pub reached-there : drive_of step ≡ Some from.drive
  reached-there = walks-reaches (asker_of m p now) walker was from names user next on-volume.0 on-volume.1

  module _ (arrived : Result FilePlace DirError) (it : WalksAlongNames walker from names arrived state.disks before new.disks after) where
    -- and was read, by the volume
    pub read : (v : DiskVolume) → volume_at was from.drive ≡ Some v
        → HasReadIn (walk_calls v.files walker.by.user walker.by.execute from.number names) (directory_fault arrived)
        from.drive was new before after
    read v is = record {
      first = stands.drives;
      read = reached.has-read state new before after was from has.file (directory_fault arrived) (λ v file. walk_calls v.files walker.by.user walker.by.execute from.number names) stands
          (ap (option_and_then (λ (v : DiskVolume). v.files from.number)) is ∙ there v is) io directories records it.drive;
      calls = called-read state new before after was from v has.file (directory_fault arrived)
          (λ v file. walk_calls v.files walker.by.user walker.by.execute from.number names) stands is (there v is) it.drive;
    }

    comes-to : WalkComes walker was from names arrived
    comes-to = walk-comes walker was from names state.disks before new.disks after has stands.mounted arrived it

  -- ---- it was refused, or its drive failed

  pub walk-refused : ((v : DiskVolume) → MayBeLeft (deed_of step was) (asker_of m p now) v v) → (error : DirError)
      → WalksAlongNames walker from names (Err error) state.disks before new.disks after → FileDoes step (asker_of m p now) was
      (refuses_so (directory_error error) (with_drives was (drive_states after))) terms terms
  walk-refused stays NotAllowed it =
      well-refused m was now p terms step from.drive new before after E_FNA
      (ap (λ (step : FileStep). deed_of step was) (walks-forbidden (asker_of m p now) walker was from names user next (comes-to (Err NotAllowed) it)))
      (read (Err NotAllowed) it on-volume.0 on-volume.1).read
  walk-refused stays BadPath it = absurd (comes-to (Err BadPath) it)
  walk-refused stays NotFound it =
      well-refused m was now p terms step from.drive new before after E_PNNF
      (ap (λ (step : FileStep). deed_of step was) (walks-unfound (asker_of m p now) walker was from names user next (comes-to (Err NotFound) it)))
      (read (Err NotFound) it on-volume.0 on-volume.1).read
  walk-refused stays Exists it = absurd (comes-to (Err Exists) it)
  walk-refused stays (File (Device number)) it =
      broken m was now p terms step from.drive new before after number on-volume.0 reached-there on-volume.1 (stays on-volume.0)
      (read (Err (File (Device number))) it on-volume.0 on-volume.1).read
  walk-refused stays (File NoCluster) it = absurd (comes-to (Err (File NoCluster)) it)
  walk-refused stays (File TooManyRuns) it = absurd (comes-to (Err (File TooManyRuns)) it)

  -- ---- it arrived

  module _ (place : FilePlace) (it : WalksAlongNames walker from names (Ok place) state.disks before new.disks after) where
    pub finds : FindsFilePlace walker was from names place
    finds = comes-to (Ok place) it

    pub found-at : IsFoundAt was place finds.found
    found-at = record {
      place_is = finds.place_is;
      volume_is = ap (volume_at was) finds.drive_is ∙ finds.volume_is;
      file_is = finds.file_is;
    }

    abbrev calls_before : ℕ
    calls_before = walk_calls finds.found.volume.files walker.by.user walker.by.execute from.number names

    pub read-there : HasReadIn calls_before None place.drive was new before after
    read-there =
        subst (λ (drive : ℕ). HasReadIn calls_before None drive was new before after) (sym finds.drive_is)
        (read (Ok place) it finds.found.volume finds.volume_is)

    pub goes-there : step ≡ reaches finds.found.place.drive (next finds.found)
    goes-there =
        walks-found (asker_of m p now) walker was from names user next place finds
        ∙ ap (λ (drive : ℕ). reaches drive (next finds.found)) (sym finds.drive_is ∙ ap (λ (at : FilePlace). at.drive) (sym finds.place_is))

  -- ---- the call ends, with what may be called for the file that is found

  module _ (most : DiskVolume → DiskFile → ℕ) (execute : Bool) (execute_is : walker.by.execute ≡ execute) where
    abbrev walked : Bool → FileStep
    walked execute = walks (asker_of m p now) was execute from names next

    abbrev walked_calls : Bool → ℕ
    walked_calls execute = walk_and (asker_of m p now).user execute from.number names most (volume_at was from.drive)

    asked : walk_and walker.by.user walker.by.execute from.number names most (volume_at was from.drive) ≡ walked_calls walker.by.execute
    asked = ap (λ (user : ℕ). walk_and user walker.by.execute from.number names most (volume_at was from.drive)) (sym user)

    read-within : (arrived : Result FilePlace DirError) → WalksAlongNames walker from names arrived state.disks before new.disks
        after → HasReadIn (walked_calls walker.by.execute) (directory_fault arrived) from.drive was new before after
    read-within arrived it =
        subst (λ (n : ℕ). HasReadIn n (directory_fault arrived) from.drive was new before after) asked
        (read-more (walk_calls on-volume.0.files walker.by.user walker.by.execute from.number names)
        (walk_and walker.by.user walker.by.execute from.number names most (volume_at was from.drive))
        (directory_fault arrived) from.drive was new before after
        (walk-within walker.by.user walker.by.execute from.number names most on-volume.0 (volume_at was from.drive) on-volume.1)
        (read arrived it on-volume.0 on-volume.1))

    module _ (end : CallEnd) (processes : ProcState) where
      -- refused
      pub walk-ends : (error : DirError) (it : WalksAlongNames walker from names (Err error) state.disks before new.disks after)
          (io_then : Io) → io_then ≡ with_call new.io p None → end ≡ Error (directory_error error)
          → RepresentsProcesses processes m → ((v : DiskVolume) → MayBeLeft (deed_of step was) (asker_of m p now) v v)
          → EndsFileAttempt (walked execute) (walked_calls execute) m was now p end processes (record new { io = io_then })
          before after terms
      walk-ends error it io_then io_is end_is tied stays =
          subst (λ (execute : Bool). EndsFileAttempt (walked execute) (walked_calls execute) m was now p end processes (record new { io = io_then }) before after terms) execute_is
          (read-ends m p new after end processes io_then io_is (directory_error error) end_is tied was now terms
          (walked_calls walker.by.execute) step (directory_fault {A = FilePlace} (Err error)) from.drive before
          reached-there
          (read-within (Err error) it) (walk-refused stays error it))

      -- as it does at the file that was found
      pub walk-goes : (place : FilePlace) (it : WalksAlongNames walker from names (Ok place) state.disks before new.disks after)
          (left : FileState) (later : List DriveView) → EndsFileAttempt (reaches (finds place it).found.place.drive
          (next (finds place it).found)) (calls_before place it + most (finds place it).found.volume
          (finds place it).found.file) m was now p end processes left before later terms → EndsFileAttempt (walked execute)
          (walked_calls execute) m was now p end processes left before later terms
      walk-goes place it left later ended =
          let found : FindsFilePlace walker was from names place = finds place it in
          subst (λ (execute : Bool). EndsFileAttempt (walked execute) (walked_calls execute) m was now p end processes left before later terms) execute_is
          (ends-as m was now p end processes left before later terms
          (reaches found.found.place.drive (next found.found)) step
          (calls_before place it + most found.found.volume found.found.file) (walked_calls walker.by.execute)
          (sym (goes-there place it))
          (walk-found walker.by.user walker.by.execute from.number names most found.found.volume
          (volume_at was from.drive) found.volume_is place.number found.found.file found.end_is found.file_is ∙ asked)
          ended)

-- ---- who walks

pub record IsWalkerOf (m : Processes) (p : ℕ) (walker : Walker) : Type 0 where
  pub user : user_at m p ≡ walker.by.user
  pub execute : walker.by.execute ≡ is_for_execution (regs_at m p).a
  pub stand : (first : ℕ) (names : List (List ℕ)) → NamesStand (cells_at m p) first names → NamesStand (cells_at m walker.process.0) first names
  pub names : (first : Option ℕ) (names : List (List ℕ)) → NamesFrom (cells_at m p) first names → NamesFrom (cells_at m walker.process.0) first names

pub walker-tied : (s : ProcState) (m : Processes) (p : Pid) (walker : Walker) → RepresentsProcesses s m → walker ≡ walker_at s p → IsWalkerOf m p.0 walker
walker-tied s m p walker tied is = subst (IsWalkerOf m p.0) (sym is) (record {
  user = user-tied s m p.0 tied;
  execute = ap (λ (regs : Regs). is_for_execution regs.a) (regs-tied s m p.0 tied);
  stand = λ first names stand. stand;
  names = λ first names from. from;
})
