-- What each event leaves of the volumes, of the directories of the others and of the clock.
use Rattle.std.proofs.Common.{◌≡◌, ◌≢◌, ◌⊎◌, ℕ, ◌<◌, ◌≤◌, Bool, true, false, Option, Some, None, Result, Ok, Err, List, length, refl, sym, ap, ◌∙◌, subst, inl, inr}
use Rattle.std.specs.Prelude.{MatchOption, is_none, slice_index_or, slice_set}
use Rattle.std.specs.Option.{option_map_or}
use Rattle.std.proofs.lemmas.Bool.{cases_eq, cases_lt}
use Rattle.std.proofs.lemmas.List.{get_or-set_same, get_or-set_other, get_or_past, length-set}
use Rattle.std.proofs.lemmas.Option.{same_Some}
use Rattle.os9_base.specs.declared.errors.TheConstants.{E_BPADDR}
use Rattle.os9_base.specs.declared.registers.TimePacket.{TimePacket}
use Rattle.cpu_model.specs.Step.{Outcome, Done, Calls, Aborts}
use Rattle.proc_model.specs.Records.{IsLiving, free_process}
use Rattle.proc_model.specs.Attempts.{after_attempt}
use Rattle.proc_model.specs.CallResult.{CallResult, done, refused, waits, ends}
use Rattle.proc_model.specs.Chain.{f_chain}
use Rattle.proc_model.specs.Delivery.{delivered}
use Rattle.proc_model.specs.Fork.{f_fork}
use Rattle.proc_model.specs.Processes.{Processes, cells_at, regs_at}
use Rattle.proc_model.specs.ModuleLinks.{Entered}
use Rattle.proc_model.specs.Program.{Program}
use Rattle.proc_model.specs.Ready.{Act, attempts, delivers, executes, act_of}
use Rattle.proc_model.specs.UserBytes.{user_bytes}
use Rattle.proc_model.specs.declared.proc_call.ProcCall.TheVariants as Call
use Rattle.rbf_model.specs.Volume.{DiskVolume}
use Rattle.file_rules.specs.Attempts.{asker_of}
use Rattle.file_rules.specs.Files.{DriveState, Files, KeepsDriveFaults, directories_at, no_directories}
use Rattle.file_rules.specs.Processes.{files_ended, files_started}
use Rattle.file_rules.specs.Program.{StartsFile, chains, forks, named_program, tests_program}
use Rattle.file_rules.specs.ProgramFile.{program_file}
use Rattle.file_rules.specs.Step.{drive_of}
use Rattle.file_rules.specs.declared.path_call.PathCall.{PathCall}
use Rattle.file_rules.specs.declared.places.Directories.{Directories}
use Rattle.time_rules.specs.Attempts.{clock_after}
use Rattle.time_rules.specs.Clock.{IsNow}
use Rattle.time_rules.specs.Step.{refuses, tells}
use Rattle.time_rules.specs.declared.clock.TheConstants.{PACKET_BYTES}
use Rattle.time_rules.specs.declared.time_call.TimeCall.TheVariants as Time
use Rattle.machine_model.specs.ProcessEvent.{next_instruction}
use Rattle.machine_model.specs.declared.ends.EventEnd.{EventEnd}
use Rattle.call_laws.specs.Others.{AttemptsCall}
use Rattle.call_laws.proofs.ForkedChildren.{NamesChild}
use Rattle.file_laws.specs.Devices.{DeviceAttempted}
use Rattle.file_laws.specs.Touch.{FaultAnswers, TouchesNoDevice, LeavesFiles, NoVolumeChanges, OneDriveFails, OneVolumeChanges, WaitsForRecord, may_change_volume}
use Rattle.file_laws.proofs.TouchAttempts.{attempt-comes}
use Rattle.file_laws.proofs.Loads.{chain-leaves, fork-leaves, load-leaves}
use Rattle.machine_model.specs.Event.{Acts, Event, before_delivery, files_after_delivery, files_after_instruction}
use Rattle.machine_model.specs.Services.{Serves, Service, files_after_call, files_after_fork, loads, no_call, on_paths, on_processes, on_time, service_of, with_files}
use Rattle.machine_model.specs.State.{Rest, State, with_rest}
use Rattle.isolation_laws.specs.Drives.{ReachesDrive, drive_by, drive_of_program}
use Rattle.isolation_laws.specs.Volumes.{ChangesOneVolume, FailsOneDrive, IsGivenDirectories, LeavesVolumes, SetsClock}
use Rattle.isolation_laws.proofs.Asked.{Asks, asks}
use Rattle.isolation_laws.proofs.Children.{fork-attempt-names}

-- ---- what stays

-- the directories of the others stay, and the volumes
record FilesStay (p : ℕ) (old new : Files) : Type 0 where
  pub volumes : new.volumes ≡ old.volumes
  pub directories : (q : ℕ) → q ≢ p → directories_at new q ≡ directories_at old q

stay-same : (p : ℕ) (files : Files) → FilesStay p files files
stay-same p files = record { volumes = refl; directories = λ q differ. refl }

stay-ended : (p : ℕ) (files : Files) → FilesStay p files (files_ended files p)
stay-ended p files = record {
  volumes = refl;
  directories = λ q differ. get_or-set_other files.directories p q no_directories no_directories differ;
}

-- by equations of both lists
stay-lists : (p : ℕ) (old new : Files) → new.volumes ≡ old.volumes → new.directories ≡ old.directories → FilesStay p old new
stay-lists p old new volumes directories = record {
  volumes = volumes;
  directories = λ q differ. ap (λ (all : List Directories). slice_index_or all q no_directories) directories;
}

-- no drive fails, or one that the process reaches
abbrev DrivesCome : State → ℕ → List DriveState → Type 0
DrivesCome s p drives = KeepsDriveFaults s.files.drives drives ⊎ FailsOneDrive s p drives

leaves-by : (s : State) (p : ℕ) (t : State) → FilesStay p s.files t.files → DrivesCome s p t.files.drives → (t.clock ≡ s.clock) ⊎ SetsClock s p → LeavesVolumes s p t
leaves-by s p t stay drives clock = record {
  volumes = inl stay.volumes;
  drives = drives;
  directories = λ q differ. inl (stay.directories q differ);
  clock = clock;
}

-- ---- a child is given the directories

module _ (s : State) (p : ℕ) (call : AttemptsCall s.processes p Call.Fork) (child : ℕ)
    (free : free_process s.processes.records ≡ Some child) (files : Files) (same : files.directories ≡
    s.files.directories) where
  abbrev begun : Files
  begun = files_started files p child

  abbrev DirectoriesCome : ℕ → Type 0
  DirectoriesCome q = (directories_at begun q ≡ directories_at s.files q) ⊎ IsGivenDirectories s p q (directories_at begun q)

  same-at : (q : ℕ) → directories_at files q ≡ directories_at s.files q
  same-at q = ap (λ (all : List Directories). slice_index_or all q no_directories) same

  at-child : (child < length files.directories) ⊎ (length files.directories ≤ child) → DirectoriesCome child
  at-child (inl within) = inr (record {
    call = call;
    number = free;
    given = get_or-set_same files.directories child (directories_at files p) no_directories within ∙ same-at p;
  })
  at-child (inr past) =
      inl (get_or_past begun.directories child no_directories (rw length-set past) ∙ sym (get_or_past files.directories child no_directories past) ∙ same-at child)

  by-child : (q : ℕ) → (q ≡ child) ⊎ (q ≢ child) → DirectoriesCome q
  by-child q (inl is) = subst DirectoriesCome (sym is) (at-child (cases_lt child (length files.directories)))
  by-child q (inr differ) =
      inl (get_or-set_other files.directories child q (directories_at files p) no_directories differ ∙ same-at q)

-- ---- an attempt of a call

module _ (s : State) (p code : ℕ) (next : act_of s.processes p ≡ attempts code) (lives : IsLiving s.processes.records p) (now : TimePacket) (is_now : IsNow s.clock s.processes.tick now)
    (processes : Processes) where
  abbrev then : Rest → State
  then rest = with_rest s processes rest

  -- the files are these, and the clock stays
  files-leave : (rest : Rest) (files : Files) → FilesStay p s.files files → DrivesCome s p files.drives → rest ≡ with_files s files → LeavesVolumes s p (then rest)
  files-leave rest files stay drives is =
      subst (λ (rest : Rest). LeavesVolumes s p (then rest)) (sym is) (leaves-by s p (then (with_files s files)) stay drives (inl refl))

  fork-leaves-volumes : {reached : Option ℕ} → AttemptsCall s.processes p Call.Fork → (rest : Rest) (files : Files)
      (result : CallResult) → NamesChild s.processes p result → LeavesFiles reached s.files result files
      → DrivesCome s p files.drives → rest ≡ with_files s (files_after_fork files p result) → LeavesVolumes s p
      (then rest)
  fork-leaves-volumes call rest files (done t) names left drives is =
      subst (λ (rest : Rest). LeavesVolumes s p (then rest)) (sym is) (record {
        volumes = inl left.volumes;
        drives = drives;
        directories = λ q differ. by-child s p call (regs_at t p).a names files left.directories q (cases_eq q (regs_at t p).a);
        clock = inl refl;
      })
  fork-leaves-volumes call rest files (refused number) names left drives is =
      files-leave rest files (stay-lists p s.files files left.volumes left.directories) drives is
  fork-leaves-volumes call rest files (waits t) names left drives is =
      files-leave rest files (stay-lists p s.files files left.volumes left.directories) drives is
  fork-leaves-volumes call rest files (ends status) names left drives is =
      files-leave rest files (stay-lists p s.files files left.volumes left.directories) drives is

  call-leaves-volumes : (rest : Rest) (result : CallResult) → rest ≡ with_files s (files_after_call s.files p result) → LeavesVolumes s p (then rest)
  call-leaves-volumes rest (done t) is = files-leave rest s.files (stay-same p s.files) (inl refl) is
  call-leaves-volumes rest (refused number) is = files-leave rest s.files (stay-same p s.files) (inl refl) is
  call-leaves-volumes rest (waits t) is = files-leave rest s.files (stay-same p s.files) (inl refl) is
  call-leaves-volumes rest (ends status) is =
      files-leave rest (files_ended s.files p) (stay-ended p s.files) (inl refl) is

  -- ---- a drive that fails

  reaches : (service : Service) → service_of code ≡ service → (drive : ℕ) → drive_by service s p now ≡ Some drive → ReachesDrive s p service drive
  reaches service serves drive reached =
      record { attempted = (code, next, serves); now = now; is_now = is_now; reached = reached }

  drives-come : (service : Service) → service_of code ≡ service → (result : CallResult) (new : Files)
      → KeepsDriveFaults s.files.drives new.drives ⊎ FaultAnswers (drive_by service s p now) s.files result new
      → DrivesCome s p new.drives
  drives-come service serves result new (inl none) = inl none
  drives-come service serves result new (inr fault) = inr (record {
    service = service;
    drive = fault.drive;
    reaches = reaches service serves fault.drive fault.reaches;
    number = fault.number;
    failed = fault.failed;
  })

  -- the drive of a program in a file
  abbrev list_drive : Option ℕ
  list_drive = drive_of (program_file (asker_of s.processes p now) s.files (length s.terms) (tests_program s.processes p))

  abbrev drive_by_name : Option Entered → Option ℕ
  drive_by_name named = option_map_or (λ (entered : Entered). None) named list_drive

  program-drives : (service : Service) → service_of code ≡ service → drive_by service s p now ≡ drive_of_program s p
      now → (start : Processes → ℕ → Program → CallResult) (entered_is : CallResult) (named : Option Entered)
      → named_program s.processes p ≡ named → (result : CallResult) (files : Files) → MatchOption named
      (StartsFile start s.processes (asker_of s.processes p now) s.files (length s.terms) p result files)
      (λ named. (result ≡ entered_is) × (files ≡ s.files)) → KeepsDriveFaults s.files.drives files.drives ⊎ FaultAnswers
      list_drive s.files result files → DrivesCome s p files.drives
  program-drives service serves by start entered_is None unnamed result files it come =
      drives-come service serves result files (subst (λ (reached : Option ℕ). KeepsDriveFaults s.files.drives files.drives ⊎
      FaultAnswers reached s.files result files) (sym (by ∙ ap drive_by_name unnamed)) come)
  program-drives service serves by start entered_is (Some entered) named result files (is, same) come =
      inl (ap (λ (files : Files). files.drives) same)

  -- ---- a call on paths

  module _ (call : PathCall) (serves : service_of code ≡ on_paths call) (rest : Rest) where
    -- one volume is another one, or none
    volume-set : (changes : Bool) → may_change_volume call ≡ changes → (may_change_volume call ≡ false
        → rest.files.volumes ≡ s.files.volumes) → (drive : ℕ) → drive_by (on_paths call) s p now ≡ Some drive
        → (v : DiskVolume) → rest.files.volumes ≡ slice_set s.files.volumes drive (Some v)
        → (rest.files.volumes ≡ s.files.volumes) ⊎ ChangesOneVolume s p (then rest)
    volume-set false may still drive reached v is = inl (still may)
    volume-set true may still drive reached v is = inr (record {
      call = call;
      changing = may;
      drive = drive;
      reaches = reaches (on_paths call) serves drive reached;
      others =
          λ other differ. ap (λ (volumes : List (Option DiskVolume)). slice_index_or volumes other None) is ∙ get_or-set_other s.files.volumes drive other (Some v) None differ;
    })

    abbrev PathsCome : CallResult → Type 0
    PathsCome result =
        NoVolumeChanges s.files rest.files ⊎ OneVolumeChanges (drive_by (on_paths call) s p now) s.files rest.files
        ⊎ OneDriveFails (drive_by (on_paths call) s p now) s.files result rest.files

    volumes-come : (result : CallResult) → (may_change_volume call ≡ false → rest.files.volumes ≡ s.files.volumes)
        → PathsCome result → (rest.files.volumes ≡ s.files.volumes) ⊎ ChangesOneVolume s p (then rest)
    volumes-come result still (inl none) = inl none.volumes
    volumes-come result still (inr (inl one)) =
        volume-set (may_change_volume call) refl still one.drive one.reaches one.changed one.is
    volumes-come result still (inr (inr fails)) =
        volume-set (may_change_volume call) refl still fails.drive fails.reaches fails.left fails.is

    path-drives : (result : CallResult) → PathsCome result → DrivesCome s p rest.files.drives
    path-drives result (inl none) = inl none.none_failed
    path-drives result (inr (inl one)) = inl one.none_failed
    path-drives result (inr (inr fails)) = inr (record {
      service = on_paths call;
      drive = fails.drive;
      reaches = reaches (on_paths call) serves fails.drive fails.reaches;
      number = fails.number;
      failed = fails.failed;
    })

  serves-volumes : (service : Service) (result : CallResult) (rest : Rest) → service_of code ≡ service → Asks code service → Serves service s now p result rest → LeavesVolumes s p (then rest)
  serves-volumes loads result rest serves asked (files, it, is) =
      let left = load-leaves s.processes (asker_of s.processes p now) s.files (length s.terms) p result files it in
      files-leave rest files (stay-lists p s.files files left.volumes left.directories) (drives-come loads serves result files left.drives) is
  serves-volumes (on_processes Call.Fork) result rest serves asked (files, it, is) =
      let left = fork-leaves s.processes (asker_of s.processes p now) s.files (length s.terms) p result files it in
      fork-leaves-volumes (code, next, asked) rest files result (fork-attempt-names s.processes p lives
      (asker_of s.processes p now) s.files (length s.terms) result files it) left
      (program-drives (on_processes Call.Fork) serves refl forks (f_fork s.processes p) (named_program s.processes p) refl
      result files it left.drives) is
  serves-volumes (on_processes Call.Chain) result rest serves asked (files, it, is) =
      let left = chain-leaves s.processes (asker_of s.processes p now) s.files (length s.terms) p result files it in
      files-leave rest files (stay-lists p s.files files left.volumes left.directories)
      (program-drives (on_processes Call.Chain) serves refl chains (f_chain s.processes p) (named_program s.processes p)
      refl result files it left.drives) is
  serves-volumes (on_processes call) result rest serves asked it = call-leaves-volumes rest result it.1
  serves-volumes (on_time Time.Time) result rest serves asked (clock, it, is) =
      subst (λ (rest : Rest). LeavesVolumes s p (then rest)) (sym is)
      (leaves-by s p _ (stay-same p s.files) (inl refl) (inl (it.clock_is ∙ by_missing (is_none (user_bytes (cells_at s.processes p) (regs_at s.processes p).x PACKET_BYTES)))))
    where
      by_missing : (missing : Bool) → clock_after s.clock (refuses missing E_BPADDR (tells (regs_at s.processes p).x now)) ≡ s.clock
      by_missing true = refl
      by_missing false = refl
  serves-volumes (on_time Time.STime) result rest serves asked (clock, it, is) =
      subst (λ (rest : Rest). LeavesVolumes s p (then rest)) (sym is)
      (leaves-by s p _ (stay-same p s.files) (inl refl) (inr (code, next, asked)))
  serves-volumes (on_paths call) result rest serves asked (it, same) =
      by_device (attempt-comes call s.processes s.files now p result rest.files s.terms rest.terms it)
    where
      by_device : DeviceAttempted call s.processes s.files p result rest.files s.terms rest.terms ⊎ TouchesNoDevice call s.processes
          s.files now p result rest.files s.terms rest.terms ⊎ WaitsForRecord call s.processes s.files now p result
          rest.files s.terms rest.terms → LeavesVolumes s p (then rest)
      by_device (inl on) =
          leaves-by s p (then rest) (stay-lists p s.files rest.files on.volumes on.directories) (inl on.none_failed) (inl same)
      by_device (inr (inr waiting)) =
          leaves-by s p (then rest) (stay-lists p s.files rest.files waiting.volumes waiting.directories) (inl waiting.none_failed) (inl same)
      by_device (inr (inl none)) = record {
        volumes = volumes-come call serves rest result none.still none.volumes;
        drives = path-drives call serves rest result none.volumes;
        directories = λ q differ. inl (none.directories q differ);
        clock = inl same;
      }
  serves-volumes no_call result rest serves asked (result_is, is) =
      subst (λ (rest : Rest). LeavesVolumes s p (then rest)) (sym is) (leaves-by s p _ (stay-same p s.files) (inl refl) (inl refl))

-- ---- each event

after-instruction : (p : ℕ) (files : Files) (outcome : Outcome) → FilesStay p files (files_after_instruction files p outcome)
after-instruction p files (Done effect) = stay-same p files
after-instruction p files (Calls code regs) = stay-same p files
after-instruction p files (Aborts status) = stay-ended p files

after-delivery : (p : ℕ) (files : Files) (result : Result Processes ℕ) → FilesStay p files (files_after_delivery files p result)
after-delivery p files (Ok t) = record { volumes = refl; directories = λ q differ. refl }
after-delivery p files (Err status) = stay-ended p files

-- no drive fails in it
instruction-drives : (p : ℕ) (files : Files) (outcome : Outcome) → KeepsDriveFaults files.drives (files_after_instruction files p outcome).drives
instruction-drives p files (Done effect) = refl
instruction-drives p files (Calls code regs) = refl
instruction-drives p files (Aborts status) = refl

delivery-drives : (p : ℕ) (files : Files) (result : Result Processes ℕ) → KeepsDriveFaults files.drives (files_after_delivery files p result).drives
delivery-drives p files (Ok t) = refl
delivery-drives p files (Err status) = refl

acts-leave-volumes : (act : Act) (s : State) (p : ℕ) (end : EventEnd) (t : State) → IsLiving s.processes.records p → act_of s.processes p ≡ act → Acts act s p end t → LeavesVolumes s p t
acts-leave-volumes executes s p end t lives next (over, is) =
    subst (LeavesVolumes s p) (sym is) (leaves-by s p _ (after-instruction p s.files (next_instruction s.processes p)) (inl (instruction-drives p s.files (next_instruction s.processes p)))
    (inl refl))
acts-leave-volumes (delivers signal) s p end t lives next (over, is) =
    subst (LeavesVolumes s p) (sym is)
    (leaves-by s p _ (after-delivery p s.files (delivered (before_delivery s p) p signal))
    (inl (delivery-drives p s.files (delivered (before_delivery s p) p signal))) (inl refl))
acts-leave-volumes (attempts code) s p end t lives next (result, rest, (now, is_now, it), over, is) =
    subst (LeavesVolumes s p) (sym is) (serves-volumes s p code next lives now is_now (after_attempt s.processes p result) (service_of code) result rest refl (asks code) it)

-- the process of an event is the one that was chosen
pub event-leaves-volumes : (s t : State) (end : EventEnd) (p : ℕ) → s.chosen ≡ Some p → Event s end t → LeavesVolumes s p t
event-leaves-volumes s t end p chosen (q, chosen_too, lives, acts) =
    let same : q ≡ p = same_Some q p (sym chosen_too ∙ chosen) in
    subst (λ (p : ℕ). LeavesVolumes s p t) same (acts-leave-volumes (act_of s.processes q) s q end t lives refl acts)
