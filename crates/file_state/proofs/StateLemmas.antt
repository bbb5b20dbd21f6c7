-- The kernel's files where paths, positions and directories change, and what is asked of its paths.
use Rattle.std.proofs.Common.{◌≡◌, ◌≤◌, ℕ, get_or, length, replicate, inl, inr, arith, Bool, true, false, Option, Some, None, IfSome, is_some, List, [], ◌∷◌, slice_set, Result, Ok, Err, refl, ap, sym, subst, ◌∙◌}
use Rattle.std.specs.Prelude.{◌&&◌, ◌||◌, ◌==◌, is_none, if◌then◌else◌}
use Rattle.std.specs.List.{list_any}
use Rattle.std.specs.Option.{option_map_or}
use Rattle.std.proofs.lemmas.Bool.{cases_lt, false≢true}
use Rattle.std.proofs.lemmas.List.{get_or-replicate, get_or_past, length-replicate}
use Rattle.io_model.specs.Path.{desc_of}
use Rattle.io_model.specs.declared.path.Desc.{Desc}
use Rattle.io_model.specs.declared.path.Target.{Target}
use Rattle.io_model.specs.declared.path.Target.TheVariants.{File, Folder, Term, Pipe}
use Rattle.io_model.specs.Io.{Io, first_io}
use Rattle.io_model.specs.Close.{after_close}
use Rattle.io_model.specs.Processes.{io_ended}
use Rattle.io_model.specs.Waiting.{io_interrupted}
use Rattle.lock_model.specs.History.{dropped}
use Rattle.lock_model.specs.Locks.{lock_of}
use Rattle.lock_model.specs.Records.{Records, ends_lock, ends_locks_below, entered, no_records, with_waiting, without_lock}
use Rattle.lock_model.specs.declared.lock.Held.{Held}
use Rattle.lock_model.specs.declared.lock.TheConstants.{PATH_PLACES}
use Rattle.io_state.specs.Files.{is_of_file, is_path_on as is_path_of, some_path_on as some_path_of}
use Rattle.rbf_model.specs.Volume.{DiskVolume}
use Rattle.rbf_access.specs.declared.faults.VolFault.{VolFault}
use Rattle.rbf_access.specs.declared.volume.Volume.{Volume}
use Rattle.file_rules.specs.Close.{files_after_close}
use Rattle.file_rules.specs.Files.{Files, directory_of, no_directories, place_of_target, with_directories_of, with_io, with_records}
use Rattle.file_rules.specs.Locking.{files_interrupted, lock_ends}
use Rattle.file_rules.specs.Processes.{files_ended}
use Rattle.file_rules.specs.Sharing.{is_path_on, is_same_place, some_path_on}
use Rattle.file_rules.specs.declared.places.Directories.{Directories}
use Rattle.lock_model.specs.declared.place.FilePlace.{FilePlace}
use Rattle.file_drives.specs.Drives.{DriveView, drive_states}
use Rattle.file_drives.specs.Mounted.{AgreesOnDrive, HasFileAt, MountsAs, disk_at, mounted_at}
use Rattle.file_laws.specs.Kinds.{AreKinds}
use Rattle.file_state.proofs.ReachedLemmas.{has-file}
use Rattle.file_state.specs.Reached.{MountsOn}
use Rattle.file_state.specs.Tie.{RepresentsFiles}
use Rattle.file_state.specs.declared.state.FileState.{FileState}

-- ---- the paths on a file

same-place : (place : FilePlace) (target : Target) → is_of_file place.drive place.number target ≡ option_map_or (is_same_place place) (place_of_target target) false
same-place place (File drive number) = refl
same-place place (Folder drive number) = refl
same-place place (Term terminal) = refl
same-place place (Pipe pipe) = refl

same-test : (place : FilePlace) (test : Desc → Bool) (desc : Option Desc) → is_path_of place.drive place.number test desc ≡ is_path_on place test desc
same-test place test None = refl
same-test place test (Some desc) = ap (λ b. b && test desc) (same-place place desc.target)

any-same : {X : Type 0} (test other : X → Bool) → ((x : X) → test x ≡ other x) → (xs : List X) → list_any test xs ≡ list_any other xs
any-same test other same [] = refl
any-same test other same (x ∷ xs) =
    let here = same x in
    let later = any-same test other same xs in
    λ i. here i || later i

-- some path on the file at a place passes a test
pub some-path : (io : Io) (files : Files) (place : FilePlace) (test : Desc → Bool) → files.io ≡ io → some_path_of io place.drive place.number test ≡ some_path_on files place test
some-path io files place test is =
    any-same (is_path_of place.drive place.number test) (is_path_on place test) (same-test place test) io.paths.descs
    ∙ ap (λ (io : Io). list_any (is_path_on place test) io.paths.descs) (sym is)

-- ---- what is changed

-- other paths
pub stands-with_io : (state : FileState) (views : List DriveView) (files : Files) (io new : Io) → io ≡ new
    → RepresentsFiles state views files → RepresentsFiles (record state { io = new }) views (with_io files io)
stands-with_io state views files io new is stands = record {
  io = is;
  directories = stands.directories;
  records = stands.records;
  drives = stands.drives;
  mounted = stands.mounted;
}

-- other directories
pub stands-with_directories : (state : FileState) (views : List DriveView) (files : Files) (p : ℕ)
    (directories other : Directories) → directories ≡ other → RepresentsFiles state views files
    → RepresentsFiles (record state { directories = slice_set state.directories p other }) views
    (with_directories_of files p directories)
stands-with_directories state views files p directories other same stands = record {
  io = stands.io;
  directories = ap (λ all. slice_set all p directories) stands.directories ∙ ap (slice_set state.directories p) same;
  records = stands.records;
  drives = stands.drives;
  mounted = stands.mounted;
}

-- ---- the directories of processes

-- each is there
has-directory : (state : FileState) (views : List DriveView) (files : Files) (p : ℕ) (execute : Bool)
    (place : FilePlace) → RepresentsFiles state views files → AreKinds files → directory_of files p execute ≡ Some place
    → HasFileAt state.disks views place
has-directory state views files p execute place stands kinds is =
    let kind = kinds.directories p execute place is in
    has-file state views files place kind.file stands kind.there

pub has-directories : (state : FileState) (views : List DriveView) (files : Files) (p : ℕ) (execute : Bool)
    (found : Option FilePlace) → RepresentsFiles state views files → AreKinds files → found ≡ directory_of files p execute
    → IfSome found (HasFileAt state.disks views)
has-directories state views files p execute None stands kinds is = tt
has-directories state views files p execute (Some place) stands kinds is = has-directory state views files p execute place stands kinds (sym is)

-- ---- mounting

pub mounts-on : (state : FileState) (result : Result (Unit {0}) VolFault) (n : ℕ) (before after : List DriveView)
    (disks : List (Option Volume)) → MountsAs result n state.disks before disks after → MountsOn result n state before
    (record state { disks = disks }) after
mounts-on state (Ok done) n before after disks mounts = λ files v stands holds. record {
  io = stands.io;
  directories = stands.directories;
  records = stands.records;
  drives = refl;
  mounted = mounts files.volumes v stands.mounted holds;
}
mounts-on state (Err fault) n before after disks stays = λ files stands. record {
  io = stands.io;
  directories = stands.directories;
  records = stands.records;
  drives = refl;
  mounted = stays files.volumes stands.mounted;
}

-- ---- a process ends

-- other locks
pub stands-with_records : (state : FileState) (views : List DriveView) (files : Files) (records new : Records)
    → records ≡ new → RepresentsFiles state views files → RepresentsFiles (record state { records = new }) views
    (with_records files records)
stands-with_records state views files records new is stands = record {
  io = stands.io;
  directories = stands.directories;
  records = is;
  drives = stands.drives;
  mounted = stands.mounted;
}

-- the locks that end, by the paths that are left
abbrev ended-records : Io → ℕ → Records → Records
ended-records io p records =
    ends_locks_below (lock_ends io.paths (λ owner. owner == p)) PATH_PLACES (with_waiting records p None)

pub stands-ended : (state : FileState) (views : List DriveView) (files : Files) (p : ℕ) (new : Io) (records : Records)
    → new ≡ io_ended state.io p → records ≡ ended-records new p state.records → RepresentsFiles state views files
    → RepresentsFiles (record {
      io = new;
      disks = state.disks;
      directories = slice_set state.directories p no_directories;
      records = records;
    }) views (files_ended files p)
stands-ended state views files p new records is ends stands =
    let io : io_ended files.io p ≡ new = ap (λ (io : Io). io_ended io p) stands.io ∙ sym is in
    record {
      io = io;
      directories = ap (λ all. slice_set all p no_directories) stands.directories;
      records =
          ap (λ (io : Io). ended-records io p files.records) io ∙ ap (ended-records new p) stands.records ∙ sym ends;
      drives = stands.drives;
      mounted = stands.mounted;
    }

-- ---- a path is closed

abbrev closed-records : Io → ℕ → Records → Records
closed-records io path records = ends_lock (lock_ends io.paths (λ owner. false)) path records

-- a lock goes with its path
pub drops-gone : (io : Io) (path : ℕ) (records : Records) → is_some (desc_of io.paths path) ≡ false → without_lock records path ≡ closed-records io path records
drops-gone io path records gone = by (lock_of records.locks path) (desc_of io.paths path) gone
  where
    by : (lock : Option Held) (desc : Option Desc) → is_some desc ≡ false
        → option_map_or (λ (lock : Held). entered records path None (dropped path lock)) lock records ≡
        (if option_map_or (λ (lock : Held). is_none desc || false) lock false then option_map_or
        (λ (lock : Held). entered records path None (dropped path lock)) lock records else records)
    by None desc gone = refl
    by (Some lock) None gone = refl
    by (Some lock) (Some desc) gone = absurd (false≢true (sym gone))

-- and stays with it
pub keeps-there : (io : Io) (path : ℕ) (records : Records) → is_some (desc_of io.paths path) ≡ true → records ≡ closed-records io path records
keeps-there io path records there = by (lock_of records.locks path) (desc_of io.paths path) there
  where
    by : (lock : Option Held) (desc : Option Desc) → is_some desc ≡ true → records ≡ (if option_map_or (λ (lock : Held). is_none desc || false) lock false then without_lock records path else records)
    by None desc there = refl
    by (Some lock) None there = absurd (false≢true there)
    by (Some lock) (Some desc) there = refl

pub stands-closed : (state : FileState) (views : List DriveView) (files : Files) (p n path : ℕ) (new : Io)
    (records : Records) → new ≡ after_close state.io p n → records ≡ closed-records new path state.records
    → RepresentsFiles state views files → RepresentsFiles (record state { io = new; records = records }) views
    (files_after_close files p n path)
stands-closed state views files p n path new records is ends stands =
    let io : after_close files.io p n ≡ new = ap (λ (io : Io). after_close io p n) stands.io ∙ sym is in
    record {
      io = io;
      directories = stands.directories;
      records =
          ap (λ (io : Io). closed-records io path files.records) io ∙ ap (closed-records new path) stands.records ∙ sym ends;
      drives = stands.drives;
      mounted = stands.mounted;
    }

-- ---- a call is broken off

pub stands-interrupted : (state : FileState) (views : List DriveView) (files : Files) (p : ℕ) (new : Io)
    (records : Records) → new ≡ io_interrupted state.io p → records ≡ with_waiting state.records p None
    → RepresentsFiles state views files → RepresentsFiles (record state { io = new; records = records }) views
    (files_interrupted files p)
stands-interrupted state views files p new records is dropped stands = record {
  io = ap (λ (io : Io). io_interrupted io p) stands.io ∙ sym is;
  directories = stands.directories;
  records = ap (λ (records : Records). with_waiting records p None) stands.records ∙ sym dropped;
  drives = stands.drives;
  mounted = stands.mounted;
}

-- ---- at the start

abbrev nothing : {X : Type 0} → Option X
nothing = None

none-at : {X : Type 0} (k n : ℕ) → get_or (replicate k (nothing {X = X})) n None ≡ None
none-at {X} k n = elim (cases_lt n k) [
  | inl within ↦ get_or-replicate k n None None within
  | inr past ↦ get_or_past (replicate k (nothing {X = X})) n None (omega (arith, past, length-replicate k (nothing {X = X})))
]

-- a new state is that of drives without volumes
pub stands-first : (state : FileState) (views : List DriveView) → length views ≤ 4 → state.io ≡ first_io
    → state.disks ≡ replicate 4 None → state.directories ≡ replicate 33 no_directories → state.records ≡ no_records
    → RepresentsFiles state views (record {
      io = first_io;
      directories = replicate 33 no_directories;
      volumes = replicate
          (length views) None;
      drives = drive_states views;
      records = no_records;
    })
stands-first state views few io disks directories records = record {
  io = sym io;
  directories = sym directories;
  records = sym records;
  drives = refl;
  mounted = record {
    few = few;
    as_many = length-replicate (length views) (nothing {X = DiskVolume});
    each = λ n view is.
        subst (λ kept. AgreesOnDrive kept view (mounted_at (replicate (length views) None) n)) (sym (nothing-kept n))
        (subst (λ volume. AgreesOnDrive None view volume) (sym (none-at {X = DiskVolume} (length views) n)) tt);
    none_behind = λ n past. nothing-kept n;
  };
}
  where
    nothing-kept : (n : ℕ) → disk_at state.disks n ≡ None
    nothing-kept n = ap (λ disks. disk_at disks n) disks ∙ none-at {X = Volume} 4 n
