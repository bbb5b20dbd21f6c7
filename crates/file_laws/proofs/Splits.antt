-- What the parts of a step of a call on files come to: a call on a terminal or a pipe, or what touches none.
use Rattle.std.proofs.Common.{◌≡◌, ◌≢◌, ◌⊎◌, ℕ, Bool, true, false, Option, Some, None, Result, Ok, Err, List, [], length, refl, ap, inl, inr}
use Rattle.std.specs.Prelude.{slice_index_or}
use Rattle.os9_base.specs.declared.errors.TheConstants.{E_BPADDR, E_BPNAM, E_DEADLK, E_LOCK, E_MNF, E_FNA, E_PNNF}
use Rattle.os9_base.specs.declared.registers.Regs.{Regs}
use Rattle.os9_outer.specs.TerminalState.{TerminalState}
use Rattle.os9_base.specs.declared.name_fault.NameFault.{NameFault}
use Rattle.os9_base.specs.declared.name_fault.NameFault.TheVariants.{Unreadable, NoName}
use Rattle.lock_model.specs.Records.{Records, without_lock}
use Rattle.lock_model.specs.declared.lock.Request.{Request}
use Rattle.lock_model.specs.declared.lock.Grant.{Grant}
use Rattle.lock_model.specs.declared.lock.Grant.TheVariants.{Granted, Locked, Deadlock, Wait}
use Rattle.rbf_model.specs.Volume.{DiskVolume}
use Rattle.rbf_model.specs.Walk.{WalkEnd, arrives, not_allowed, not_found, walk}
use Rattle.io_model.specs.Attempts.{HasIoEffect, io_step, pending_in}
use Rattle.io_model.specs.Io.{OpenPath, open_path, with_paths}
use Rattle.io_model.specs.PathList.{PathList}
use Rattle.io_model.specs.Step.{IoEffect, IoStep, answers, comes as io_comes, fails, keeps}
use Rattle.io_model.specs.declared.io_call.IoCall.{IoCall}
use Rattle.file_rules.specs.Change.{Change, writes, sizes, sets_attributes, creates, makes_directory, deletes}
use Rattle.file_rules.specs.Files.{Files, Asker, OpenFile, directories_at, no_directories, open_file, volume_at, with_position, with_records, with_ticks}
use Rattle.file_rules.specs.Locking.{answer_to, asks, asks_by, call_of, request_now, waiting_in}
use Rattle.file_rules.specs.declared.claim.Claim.{Claim}
use Rattle.file_rules.specs.OnFile.{by_kind, on_file}
use Rattle.file_rules.specs.Step.{Step, refused, comes, reaches, needs, refuses, refuses_so, FileEffect, FileStep, Deed, leaves, leaves_so, as_io, changes, deed_of, drive_of, on_files, VolumeChange, done}
use Rattle.file_rules.specs.Route.{Found, reads_list, walk_ends, walks}
use Rattle.file_rules.specs.declared.path_call.PathCall.{PathCall}
use Rattle.file_rules.specs.declared.path_call.PathCall.TheVariants as Call
use Rattle.file_rules.specs.declared.places.Directories.{Directories}
use Rattle.lock_model.specs.declared.place.FilePlace.{FilePlace}
use Rattle.file_laws.specs.Claims.{Claims, MadePathCall, Requests}
use Rattle.file_laws.specs.Devices.{IsOnNoFile, device_call, number_in}
use Rattle.file_laws.specs.Touch.{IsTicks, PathsMove, may_change_volume, moves_position}

-- ---- what holds of each part of a step holds of it

module _ {E : Type 0} (P : Step E → Type 0) (none : (number : ℕ) → P (refused number)) where
  pub needs-by : {A : Type 0} (o : Option A) (number : ℕ) (next : A → Step E) → ((a : A) → o ≡ Some a → P (next a)) → P (needs o number next)
  needs-by None number next holds = none number
  needs-by (Some a) number next holds = holds a refl

  pub refuses-by : (test : Bool) (number : ℕ) (next : Step E) → P next → P (refuses test number next)
  refuses-by true number next holds = none number
  refuses-by false number next holds = holds

  pub refuses-if : (test : Bool) (number : ℕ) (next : Step E) → (test ≡ false → P next) → P (refuses test number next)
  refuses-if true number next holds = none number
  refuses-if false number next holds = holds refl

  pub list-by : (list : Result PathList NameFault) (test : Step E → Step E) (next : PathList → Step E)
      → ((step : Step E) → P step → P (test step)) → ((l : PathList) → list ≡ Ok l → P (next l))
      → P (reads_list list test next)
  list-by (Ok list) test next tests holds = tests (next list) (holds list refl)
  list-by (Err Unreadable) test next tests holds = none E_BPADDR
  list-by (Err NoName) test next tests holds = tests (refused E_BPNAM) (none E_BPNAM)

-- ---- what touches no terminal and no pipe

-- of input and output the paths change alone; what is refused changes nothing
pub record Leaves (call : PathCall) (asker : Asker) (files : Files) (effect : FileEffect) : Type 0 where
  pub over : pending_in effect.end ≡ None
  pub paths : PathsMove call asker files effect.files.io.paths
  pub rest : effect.files.io ≡ with_paths files.io effect.files.io.paths
  pub directories : (q : ℕ) → q ≢ asker.caller.process.0 → directories_at effect.files q ≡ directories_at files q
  pub own : call ≢ Call.ChgDir → effect.files.directories ≡ files.directories
  pub volumes : effect.files.volumes ≡ files.volumes
  pub requests : effect.files.records.locks.requests ≡ files.records.locks.requests
  pub refusal : (number : ℕ) → effect.end ≡ fails number → effect.files ≡ files

pub not-refused : (regs : Regs) (number : ℕ) → answers regs ≡ fails number → ⊥
not-refused regs number is = cc

-- a change makes a file, which a path is opened on
abbrev pub CreatesFile : Change → Type 0
CreatesFile (writes n at bytes) = ⊥
CreatesFile (sizes n size) = ⊥
CreatesFile (sets_attributes n attributes) = ⊥
CreatesFile (creates d name attributes) = Unit {0}
CreatesFile (makes_directory d name attributes) = ⊥
CreatesFile (deletes d n name) = ⊥

module _ (call : PathCall) (asker : Asker) (files : Files) where
  -- it is done, and these are the files then
  pub answered : (new : Files) (at : ℕ) (bytes : List ℕ) (regs : Regs) → PathsMove call asker files new.io.paths
      → new.io ≡ with_paths files.io new.io.paths → new.directories ≡ files.directories → new.volumes ≡ files.volumes
      → new.records.locks.requests ≡ files.records.locks.requests → Leaves call asker files
      (record { end = answers regs; at = at; bytes = bytes; files = new })
  answered new at bytes regs paths rest directories volumes requests = record {
    over = refl;
    paths = paths;
    rest = rest;
    directories = λ q differ. ap (λ (all : List Directories). slice_index_or all q no_directories) directories;
    own = λ differ. directories;
    volumes = volumes;
    requests = requests;
    refusal = λ number is. absurd (not-refused regs number is);
  }

  -- nothing of it changes
  pub answered-same : (at : ℕ) (bytes : List ℕ) (regs : Regs) → Leaves call asker files (record { end = answers regs; at = at; bytes = bytes; files = files })
  answered-same at bytes regs = answered files at bytes regs (inl refl) refl refl refl refl

  -- a position moves, and these are the records
  pub answered-at : moves_position call ≡ true → (found : OpenFile) → open_file files asker.caller.process.0
      (number_in call asker) ≡ Some found → (records : Records) → records.locks.requests ≡
      files.records.locks.requests → (place at : ℕ) (bytes : List ℕ) (regs : Regs) → Leaves call asker files
      (record {
        end = answers regs;
        at = at;
        bytes = bytes;
        files = with_position (with_records files records)
            found.opened place;
      })
  answered-at moves found named records requests place at bytes regs =
      answered (with_position (with_records files records) found.opened place) at bytes regs
      (inr (inl (record { moves = moves; found = found; named = named; at = place; is = refl }))) refl refl refl requests

  -- ticks are set
  pub answered-ticks : IsTicks call asker → (found : OpenFile) → open_file files asker.caller.process.0
      (number_in call asker) ≡ Some found → Leaves call asker files (leaves (answers asker.caller.regs)
      (with_ticks files found.opened asker.caller.regs.x))
  answered-ticks sets found named =
      answered (with_ticks files found.opened asker.caller.regs.x) 0 [] asker.caller.regs
      (inr (inr (inl (record { sets = sets; found = found; named = named; is = refl })))) refl refl refl refl

-- ---- what a step comes to

-- what is left, with these records
abbrev pub with_records_after : FileEffect → Records → FileEffect
with_records_after it records = record it { files = with_records it.files records }

module _ (call : PathCall) (asker : Asker) (files : Files) (terms : ℕ) where
  -- what is done is a call on a terminal or a pipe
  pub record IsDeviceStep (step : IoStep) : Type 0 where
    pub device : IoCall
    pub device_is : device_call call ≡ Some device
    pub is : step ≡ io_step device asker.caller files.io (length files.drives) terms

  -- it does nothing, on any terminals
  pub record DoesNothing (it : IoEffect) (old new : List TerminalState) : Type 0 where
    pub over : pending_in it.end ≡ None
    pub io : it.io ≡ files.io
    pub terminals : new ≡ old

  abbrev pub IsStill : IoStep → Type 0
  IsStill step = (it : IoEffect) (old new : List TerminalState) → HasIoEffect step asker.caller files.io it old new → DoesNothing it old new

  -- a change of the volume of the drive that was reached is answered
  pub record Answers (reached : Option ℕ) (it : VolumeChange) : Type 0 where
    pub reaches : reached ≡ Some it.drive
    pub may : may_change_volume call ≡ true
    pub left : (n : ℕ) → Leaves call asker files (it.effect n)
    pub answer : (n : ℕ) → (regs : Regs) × ((it.effect n).end ≡ answers regs)
    pub fixed : CreatesFile it.change ⊎ ((m n : ℕ) → it.effect m ≡ it.effect n)

  -- I$Close ends the lock of the path that it closes
  pub record ClosesLock (records : Records) : Type 0 where
    pub opened : OpenPath
    pub close : call ≡ Call.Close
    pub named : open_path files.io asker.caller.process.0 asker.caller.regs.a ≡ Some opened
    pub is : records ≡ without_lock files.records opened.path.0

  -- it is what the call on a terminal or a pipe does, but for records
  pub record IsAsDevice (it : FileEffect) : Type 0 where
    pub device : IoCall
    pub device_is : device_call call ≡ Some device
    pub effect : IoEffect
    pub is : io_step device asker.caller files.io (length files.drives) terms ≡ io_comes effect
    pub over : pending_in effect.end ≡ None
    pub records : Records
    pub requests : records.locks.requests ≡ files.records.locks.requests
    pub ends : (records ≡ files.records) ⊎ ClosesLock records
    pub same : it ≡ with_records_after (on_files asker.caller.process.0 files effect) records
    pub on : IsOnNoFile call asker files terms

  abbrev pub made : MadePathCall
  made = record { call = call; asker = asker; files = files; terms = terms }

  -- it waits for a record of the file that its number names
  pub record WaitsSo (it : FileEffect) : Type 0 where
    pub request : Request
    pub requests : Requests made request
    pub answer : answer_to asker files request ≡ Wait
    pub same : it ≡ leaves (keeps (call_of request)) (waiting_in files request)

  -- what changes no volume
  abbrev pub EndsSo : FileEffect → Type 0
  EndsSo it = Leaves call asker files it ⊎ IsAsDevice it ⊎ WaitsSo it

  -- what is done where this drive was reached, or none
  abbrev pub Splits : Option ℕ → Deed → Type 0
  Splits reached (leaves_so it) = EndsSo it
  Splits reached (as_io step) = IsDeviceStep step × IsOnNoFile call asker files terms ⊎ IsStill step
  Splits reached (changes it) = Answers reached it

  abbrev pub StepSplits : FileStep → Type 0
  StepSplits step = Splits (drive_of step) (deed_of step files)

  -- a step behind one that reached this drive
  abbrev pub SplitsOn : ℕ → FileStep → Type 0
  SplitsOn drive step = Splits (Some drive) (deed_of step files)

  pub refused-leaves : (number : ℕ) → Leaves call asker files (refuses_so number files)
  refused-leaves number =
      record { over = refl; paths = inl refl; rest = refl; directories = λ q differ. refl; own = λ differ. refl; volumes = refl; requests = refl; refusal = λ number is. refl }

  pub none-splits : (number : ℕ) → StepSplits (refused number)
  none-splits number = inl (refused-leaves number)

  pub none-on : (drive number : ℕ) → SplitsOn drive (refused number)
  none-on drive number = inl (refused-leaves number)

  pub done-splits : (regs : Regs) → StepSplits (done regs files)
  done-splits regs = inl (answered-same call asker files 0 [] regs)

  pub device-splits : (device : IoCall) → device_call call ≡ Some device → IsOnNoFile call asker files terms
      → StepSplits (comes (as_io (io_step device asker.caller files.io (length files.drives) terms)))
  device-splits device is none = inl (record { device = device; device_is = is; is = refl }, none)

  -- a request: the call goes on, is refused or waits
  asks-by : (request : Request) → Requests made request → (drive : ℕ) (next : FileStep) → SplitsOn drive next
      → (grant : Grant) → answer_to asker files request ≡ grant → SplitsOn drive (asks_by grant files request next)
  asks-by request requests drive next holds Granted is = holds
  asks-by request requests drive next holds Locked is = none-on drive E_LOCK
  asks-by request requests drive next holds Deadlock is = none-on drive E_DEADLK
  asks-by request requests drive next holds Wait is =
      inr (inr (record { request = request; requests = requests; answer = is; same = refl }))

  pub asks-split : (found : OpenFile) → open_file files asker.caller.process.0 (number_in call asker) ≡ Some found
      → (claim : Claim) → Claims call asker files found claim → (drive : ℕ) (next : FileStep) → SplitsOn drive next
      → SplitsOn drive (asks asker files (request_now asker files found claim) next)
  asks-split found named claim claims drive next holds =
      asks-by (request_now asker files found claim) (record { found = found; names = named; claim = claim; claims = claims; is = refl }) drive next holds
      (answer_to asker files (request_now asker files found claim)) refl

  -- a walk, and what is done where it ends
  pub walks-split : (execute : Bool) (from : FilePlace) (names : List (List ℕ)) (next : Found → FileStep)
      → ((found : Found) → SplitsOn found.place.drive (next found)) → StepSplits (walks asker files execute from names
      next)
  walks-split execute from names next holds =
      needs-by StepSplits none-splits (volume_at files from.drive) E_MNF (λ v. reaches from.drive (walk_ends from.drive v (walk v.files asker.user execute from.number names) next))
      (λ v is. by_end v (walk v.files asker.user execute from.number names))
    where
      by_end : (v : DiskVolume) (end : WalkEnd) → SplitsOn from.drive (walk_ends from.drive v end next)
      by_end v (arrives n) =
          needs-by (SplitsOn from.drive) (none-on from.drive) (v.files n) E_PNNF (λ file. next (record { place = record { drive = from.drive; number = n }; volume = v; file = file }))
          (λ file there. holds (record { place = record { drive = from.drive; number = n }; volume = v; file = file }))
      by_end v not_allowed = none-on from.drive E_FNA
      by_end v not_found = none-on from.drive E_PNNF

  -- a call on a number: on a file, or the other call
  pub number-splits : (number : ℕ) (otherwise : IoStep) (next : OpenFile → FileStep)
      → (open_file files asker.caller.process.0 number ≡ None → IsDeviceStep otherwise × IsOnNoFile call asker files
      terms ⊎ IsStill otherwise) → ((found : OpenFile) → open_file files asker.caller.process.0 number ≡ Some found
      → StepSplits (next found)) → StepSplits (on_file asker files number otherwise next)
  number-splits number otherwise next other holds =
      by_file (open_file files asker.caller.process.0 number) other holds
    where
      by_file : (o : Option OpenFile) → (o ≡ None → IsDeviceStep otherwise × IsOnNoFile call asker files terms ⊎
          IsStill otherwise) → ((found : OpenFile) → o ≡ Some found → StepSplits (next found))
          → StepSplits (by_kind o otherwise next)
      by_file None other holds = other refl
      by_file (Some found) other holds = holds found refl
