-- What a step of a call on files makes of locks and of what files hold, by its parts.
use Rattle.std.specs.Prelude.{if◌then◌else◌}
use Rattle.std.proofs.Common.{◌≡◌, ◌⊎◌, ℕ, ◌≤◌, ◌||◌, ◌==◌, Bool, true, false, Option, Some, None, Result, Ok, Err, List, [], length, refl, sym, ap, ◌∙◌, inl, inr}
use Rattle.os9_base.specs.declared.errors.TheConstants.{E_BPADDR, E_BPNAM, E_DEADLK, E_FNA, E_LOCK, E_MNF, E_PNNF}
use Rattle.os9_base.specs.declared.registers.Regs.{Regs}
use Rattle.os9_base.specs.declared.name_fault.NameFault.{NameFault}
use Rattle.os9_base.specs.declared.name_fault.NameFault.TheVariants.{NoName, Unreadable}
use Rattle.lock_model.specs.Records.{Records, holding, without_lock, written_by}
use Rattle.lock_model.specs.declared.lock.Grant.{Grant}
use Rattle.lock_model.specs.declared.lock.Grant.TheVariants.{Deadlock, Granted, Locked, Wait}
use Rattle.lock_model.specs.declared.lock.Request.{Request}
use Rattle.lock_model.specs.declared.place.FilePlace.{FilePlace}
use Rattle.rbf_model.specs.File.{DiskFile, is_directory}
use Rattle.rbf_model.specs.Volume.{DiskVolume}
use Rattle.rbf_model.specs.Walk.{WalkEnd, arrives, not_allowed, not_found, walk}
use Rattle.io_model.specs.declared.terminal.ReadKind.{ReadKind}
use Rattle.io_model.specs.Attempts.{pending_in}
use Rattle.io_model.specs.PathList.{PathList}
use Rattle.io_model.specs.Step.{IoStep, answers, fails, keeps}
use Rattle.file_rules.specs.Change.{Change, creates, deletes, makes_directory, sets_attributes, sizes, writes}
use Rattle.file_rules.specs.Files.{Asker, Files, OpenFile, open_file, volume_at}
use Rattle.file_rules.specs.Locking.{answer_to, asks, asks_by, call_of, waiting_in}
use Rattle.file_rules.specs.OnFile.{by_kind, on_file}
use Rattle.file_rules.specs.Read.{lock_by}
use Rattle.file_rules.specs.Seek.{long_of, seeks_nothing}
use Rattle.file_rules.specs.Sharing.{is_open}
use Rattle.file_rules.specs.Step.{Deed, FileEffect, FileStep, Step, VolumeChange, as_io, changes, deed_of, done, drive_of, leaves, leaves_so, needs, reaches, refused, refuses, refuses_so}
use Rattle.file_rules.specs.Route.{Found, reads_list, walk_ends, walks}
use Rattle.file_rules.specs.declared.path_call.PathCall.{PathCall}
use Rattle.file_rules.specs.declared.path_call.PathCall.TheVariants as Call
use Rattle.file_rules.specs.declared.status.TheConstants.{SS_SIZE}
use Rattle.file_laws.proofs.Steps.{IsFound}
use Rattle.file_laws.proofs.Splits.{IsDeviceStep}
use Rattle.lock_model.specs.Laws.{Covers}
use Rattle.file_laws.specs.Claims.{CoversCall, MadePathCall, NamesOpenFile, Requests}
use Rattle.file_laws.specs.Recorded.{EndsLock, IsGranted, IsSent, IsTaken, path_in}

-- a file of this number is in the volume of a drive, and is a directory
pub record IsFolderIn (files : Files) (drive n : ℕ) : Type 0 where
  pub volume : DiskVolume
  pub mounted : volume_at files drive ≡ Some volume
  pub file : DiskFile
  pub there : volume.files n ≡ Some file
  pub is : is_directory file ≡ true

-- a number that a lock answers, E$Lock or E$DeadLk
abbrev pub is_of_lock : ℕ → Bool
is_of_lock number = (number == E_LOCK) || (number == E_DEADLK)

module _ (call : PathCall) (asker : Asker) (files : Files) (terms : ℕ) where
  abbrev pub made : MadePathCall
  made = record { call = call; asker = asker; files = files; terms = terms }

  -- ---- what is left

  -- nothing is made of locks and volumes, and no lock is why it is refused, if it is
  pub record IsStill (it : FileEffect) : Type 0 where
    pub over : pending_in it.end ≡ None
    pub records : it.files.records ≡ files.records
    pub volumes : it.files.volumes ≡ files.volumes
    pub number : (n : ℕ) → it.end ≡ fails n → is_of_lock n ≡ false

  -- it is answered, and the volumes stay
  pub record IsAnswered (it : FileEffect) : Type 0 where
    pub regs : Regs
    pub end : it.end ≡ answers regs
    pub volumes : it.files.volumes ≡ files.volumes

  -- it is refused as its request is answered
  abbrev pub RefusedBy : Request → FileEffect → Type 0
  RefusedBy request it =
      (answer_to asker files request ≡ Locked) × (it ≡ refuses_so E_LOCK files)
      ⊎ (answer_to asker files request ≡ Deadlock) × (it ≡ refuses_so E_DEADLK files)

  pub data LeftSo (it : FileEffect) : Type 0 where
    still : IsStill it → LeftSo it
    held : (request : Request) (kind : ReadKind) (bytes : List ℕ) (granted : IsGranted made request)
        → IsTaken made granted.requests.found request kind bytes → IsAnswered it
        → it.files.records ≡ holding files.records (path_in granted) (lock_by kind request.lock bytes) bytes → LeftSo it
    ended : (found : OpenFile) → NamesOpenFile made found → EndsLock made found → IsAnswered it
        → it.files.records ≡ without_lock files.records found.opened.path.0 → LeftSo it
    waited : (request : Request) → Requests made request → answer_to asker files request ≡ Wait
        → it ≡ leaves (keeps (call_of request)) (waiting_in files request) → LeftSo it
    opposed : (request : Request) → Requests made request → RefusedBy request it → LeftSo it

  -- ---- what is changed

  -- the change is of the file of a granted request, and in its range if that covers the call; or of no file that a path
  -- is on: of attributes, of a new file, or of one that goes. These are the records beside it
  pub data IsClaimedChange (drive : ℕ) (change : Change) (now : Records) : Type 0 where
    by_write : (request : Request) (bytes : List ℕ) (granted : IsGranted made request)
        → IsSent made granted.requests.found bytes → drive ≡ granted.requests.found.place.drive
        → change ≡ writes granted.requests.found.place.number request.lock.range.start bytes
        → (CoversCall call asker.caller.regs request → Covers request.lock.range (length bytes))
        → now ≡ written_by files.records (path_in granted) request.lock bytes → IsClaimedChange drive change now
    by_size : (request : Request) (granted : IsGranted made request)
        → (call ≡ Call.SetStt) × (asker.caller.regs.b ≡ SS_SIZE) → drive ≡ granted.requests.found.place.drive
        → change ≡ sizes granted.requests.found.place.number (long_of asker.caller.regs)
        → (CoversCall call asker.caller.regs request
        → (request.lock.range.end ≡ None) × (request.lock.range.start ≤ long_of asker.caller.regs))
        → now
        ≡ (if length granted.requests.found.file.contents == long_of asker.caller.regs
        then without_lock files.records (path_in granted)
        else written_by files.records (path_in granted) request.lock []) → IsClaimedChange drive change now
    by_attributes : (n attributes : ℕ) → change ≡ sets_attributes n attributes → now ≡ files.records
        → IsClaimedChange drive change now
    by_file : (d : ℕ) (name : List ℕ) (attributes : ℕ) → change ≡ creates d name attributes → IsFolderIn files drive d
        → now ≡ files.records → IsClaimedChange drive change now
    by_directory : (d : ℕ) (name : List ℕ) (attributes : ℕ) → change ≡ makes_directory d name attributes
        → IsFolderIn files drive d → now ≡ files.records → IsClaimedChange drive change now
    by_deletion : (d n : ℕ) (name : List ℕ) → change ≡ deletes d n name → IsFolderIn files drive d
        → is_open files (record { drive = drive; number = n }) ≡ false → now ≡ files.records
        → IsClaimedChange drive change now

  pub record ChangesSo (reached : Option ℕ) (it : VolumeChange) : Type 0 where
    pub reaches : reached ≡ Some it.drive
    pub answered : (n : ℕ) → IsAnswered (it.effect n)
    pub claimed : (n : ℕ) → IsClaimedChange it.drive it.change (it.effect n).files.records

  -- ---- the result of a step

  -- it is what the call on a terminal or a pipe does; or I$Seek, which has none
  abbrev pub IsOtherCall : IoStep → Type 0
  IsOtherCall step = IsDeviceStep call asker files terms step ⊎ (step ≡ seeks_nothing asker.caller files.io)

  -- what is done if this drive was reached, or none
  abbrev pub Claimed : Option ℕ → Deed → Type 0
  Claimed reached (leaves_so it) = LeftSo it
  Claimed reached (as_io step) = IsOtherCall step
  Claimed reached (changes it) = ChangesSo reached it

  abbrev pub StepClaimed : FileStep → Type 0
  StepClaimed step = Claimed (drive_of step) (deed_of step files)

  -- a step behind one that reached this drive
  abbrev pub ClaimedOn : ℕ → FileStep → Type 0
  ClaimedOn drive step = Claimed (Some drive) (deed_of step files)

  still-refused : (number : ℕ) → is_of_lock number ≡ false → LeftSo (refuses_so number files)
  still-refused number other = still (record { over = refl; records = refl; volumes = refl; number = by_end })
    where
      by_end : (n : ℕ) → fails number ≡ fails n → is_of_lock n ≡ false
      by_end n is = let same : number ≡ n = cc in ap is_of_lock (sym same) ∙ other

  pub none-so : (number : ℕ) → is_of_lock number ≡ false → StepClaimed (refused number)
  none-so number other = still-refused number other

  pub none-on : (drive number : ℕ) → is_of_lock number ≡ false → ClaimedOn drive (refused number)
  none-on drive number other = still-refused number other

  -- it is answered, and nothing is made of locks and volumes
  pub still-answered : (new : Files) (at : ℕ) (bytes : List ℕ) (regs : Regs) → new.records ≡ files.records
      → new.volumes ≡ files.volumes → LeftSo (record { end = answers regs; at = at; bytes = bytes; files = new })
  still-answered new at bytes regs records volumes = still (record { over = refl; records = records; volumes = volumes; number = λ n is. absurd cc })

  pub done-so : (regs : Regs) → StepClaimed (done regs files)
  done-so regs = still-answered files 0 [] regs refl refl

  -- ---- requests

  asks-by : (drive : ℕ) (request : Request) → Requests made request → (next : FileStep)
      → (answer_to asker files request ≡ Granted → ClaimedOn drive next) → (grant : Grant) → answer_to asker files
      request ≡ grant → ClaimedOn drive (asks_by grant files request next)
  asks-by drive request requests next holds Granted is = holds is
  asks-by drive request requests next holds Locked is = opposed request requests (inl (is, refl))
  asks-by drive request requests next holds Deadlock is = opposed request requests (inr (is, refl))
  asks-by drive request requests next holds Wait is = waited request requests is refl

  -- the call goes on, is refused or waits
  pub asks-so : (drive : ℕ) (request : Request) → Requests made request → (next : FileStep)
      → (answer_to asker files request ≡ Granted → ClaimedOn drive next)
      → ClaimedOn drive (asks asker files request next)
  asks-so drive request requests next holds =
      asks-by drive request requests next holds (answer_to asker files request) refl

-- ---- what holds of each part of a step holds of it

module _ {E : Type 0} (P : Step E → Type 0) where
  pub needs-by : {A : Type 0} (o : Option A) (number : ℕ) (next : A → Step E) → P (refused number) → ((a : A) → o ≡ Some a → P (next a)) → P (needs o number next)
  needs-by None number next none holds = none
  needs-by (Some a) number next none holds = holds a refl

  pub refuses-by : (test : Bool) (number : ℕ) (next : Step E) → P (refused number) → (test ≡ false → P next) → P (refuses test number next)
  refuses-by true number next none holds = none
  refuses-by false number next none holds = holds refl

  pub list-by : (list : Result PathList NameFault) (test : Step E → Step E) (next : PathList → Step E)
      → P (refused E_BPADDR) → P (refused E_BPNAM) → ((step : Step E) → P step → P (test step))
      → ((l : PathList) → list ≡ Ok l → P (next l)) → P (reads_list list test next)
  list-by (Ok list) test next no_bytes no_name tests holds = tests (next list) (holds list refl)
  list-by (Err Unreadable) test next no_bytes no_name tests holds = no_bytes
  list-by (Err NoName) test next no_bytes no_name tests holds = tests (refused E_BPNAM) no_name

module _ (call : PathCall) (asker : Asker) (files : Files) (terms : ℕ) where
  -- a walk, and what is done at its end
  pub walks-so : (execute : Bool) (from : FilePlace) (names : List (List ℕ)) (next : Found → FileStep)
      → ((found : Found) → IsFound files found → ClaimedOn call asker files terms found.place.drive (next found))
      → StepClaimed call asker files terms (walks asker files execute from names next)
  walks-so execute from names next holds =
      needs-by (StepClaimed call asker files terms) (volume_at files from.drive) E_MNF (λ v. reaches from.drive (walk_ends from.drive v (walk v.files asker.user execute from.number names) next))
      (none-so call asker files terms E_MNF refl) (λ v is. by_end v is (walk v.files asker.user execute from.number names))
    where
      by_end : (v : DiskVolume) → volume_at files from.drive ≡ Some v → (end : WalkEnd) → ClaimedOn call asker files terms from.drive (walk_ends from.drive v end next)
      by_end v is (arrives n) =
          needs-by (ClaimedOn call asker files terms from.drive) (v.files n) E_PNNF (λ file. next (record { place = record { drive = from.drive; number = n }; volume = v; file = file }))
          (none-on call asker files terms from.drive E_PNNF refl)
          (λ file there. holds (record {
            place = record { drive = from.drive; number = n };
            volume = v;
            file =
                file;
          }) (record { mounted = is; there = there }))
      by_end v is not_allowed = none-on call asker files terms from.drive E_FNA refl
      by_end v is not_found = none-on call asker files terms from.drive E_PNNF refl

  -- a call on a number: on a file, or the call on a terminal or a pipe
  pub number-so : (number : ℕ) (otherwise : IoStep) (next : OpenFile → FileStep) → IsOtherCall call asker files terms
      otherwise → ((found : OpenFile) → open_file files asker.caller.process.0 number ≡ Some found
      → StepClaimed call asker files terms (next found)) → StepClaimed call asker files terms
      (on_file asker files number otherwise next)
  number-so number otherwise next other holds = by_file (open_file files asker.caller.process.0 number) holds
    where
      by_file : (o : Option OpenFile) → ((found : OpenFile) → o ≡ Some found → StepClaimed call asker files terms (next found)) → StepClaimed call asker files terms (by_kind o otherwise next)
      by_file None holds = other
      by_file (Some found) holds = holds found refl
