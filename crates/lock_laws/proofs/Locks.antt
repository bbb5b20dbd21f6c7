-- An event of a process leaves the locks of a file that it is not on.
use Rattle.std.proofs.Common.{◌≡◌, ◌≢◌, ◌⊎◌, ℕ, ◌==◌, ◌&&◌, ◌||◌, not, Bool, true, false, Option, Some, None, is_none, List, get_or, refl, sym, ap, ◌∙◌, subst, inl, inr}
use Rattle.std.specs.Prelude.{slice_set}
use Rattle.std.proofs.lemmas.Bool.{eqb-true, false≢true}
use Rattle.std.proofs.lemmas.List.{get_or-set_other}
use Rattle.os9_sched.specs.declared.member.Cause.{Cause}
use Rattle.io_model.specs.Path.{desc_of, slot_of}
use Rattle.io_model.specs.declared.path.Desc.{Desc}
use Rattle.io_model.specs.declared.path.SysPath.{SysPath}
use Rattle.io_model.specs.declared.terminal.ReadKind.{ReadKind}
use Rattle.io_model.specs.declared.terminal.ReadKind.TheVariants.{Bytes, WholeLine}
use Rattle.io_model.specs.Processes.{io_ended}
use Rattle.lock_model.specs.Conflict.{conflicts, is_against, is_same_file, overlaps}
use Rattle.lock_model.specs.Locks.{Locks, lock_of}
use Rattle.lock_model.specs.Records.{Records, holding, with_waiting, without_lock}
use Rattle.lock_model.specs.declared.lock.Held.{Held}
use Rattle.lock_model.specs.declared.lock.Request.{Request}
use Rattle.lock_model.specs.declared.lock.TheConstants.{PATH_PLACES}
use Rattle.lock_model.specs.declared.place.FilePlace.{FilePlace}
use Rattle.lock_model.proofs.Chains.{opposer-of, some-opposer}
use Rattle.lock_model.proofs.Ranks.{get-emptied, get-written}
use Rattle.file_rules.specs.Files.{Files, OpenFile}
use Rattle.file_rules.specs.Locking.{lock_ends}
use Rattle.file_rules.specs.Processes.{files_ended}
use Rattle.file_rules.specs.Read.{lock_by}
use Rattle.file_laws.specs.Kinds.{AreKinds}
use Rattle.file_laws.specs.Claims.{MadePathCall, NamesOpenFile}
use Rattle.file_laws.specs.Devices.{number_in}
use Rattle.file_laws.specs.Recorded.{IsGranted, RecordsCome, path_in, settled}
use Rattle.file_laws.proofs.Keeps.{file-slot}
use Rattle.lock_laws.specs.Contents.{IsCovered, IsPathOn}
use Rattle.lock_laws.proofs.Descs.{Goes, closes-ended}
use Rattle.lock_laws.proofs.Held.{AreHeldOn}
use Rattle.lock_laws.proofs.HeldAttempts.{request-on}
use Rattle.lock_laws.proofs.LockTables.{below-held, below-was, without-other, without-was}
use Rattle.lock_laws.specs.Touches.{NamesCause, cause_on}
use Rattle.lock_laws.proofs.Looked.{opens}

-- ---- conflicts

-- the locks of a file are the same
pub record SameLocks (place : FilePlace) (old new : Locks) : Type 0 where
  pub stays : (path : ℕ) (lock : Held) → is_same_file place lock.file ≡ true → lock_of old path ≡ Some lock → lock_of new path ≡ Some lock
  pub was : (path : ℕ) (lock : Held) → is_same_file place lock.file ≡ true → lock_of new path ≡ Some lock → lock_of old path ≡ Some lock

pub locks-same : (place : FilePlace) (old new : Locks) → new.held ≡ old.held → SameLocks place old new
locks-same place old new same = record {
  stays = λ path lock file is. ap (λ (held : List (Option Held)). get_or held path None) same ∙ is;
  was = λ path lock file is. ap (λ (held : List (Option Held)). get_or held path None) (sym same) ∙ is;
}

both-true : (x y : Bool) → (x && y) ≡ true → (x ≡ true) × (y ≡ true)
both-true true y is = (refl, is)
both-true false y is = absurd (false≢true is)

against-file : (asked lock : Held) → is_against asked lock ≡ true → is_same_file asked.file lock.file ≡ true
against-file asked lock is =
    (both-true (is_same_file asked.file lock.file) (overlaps asked.range lock.range)
    (both-true (not (lock.owner.0 == asked.owner.0)) (is_same_file asked.file lock.file && overlaps asked.range lock.range) is).1).0

module _ (asked : Held) (old new : Locks) where
  opposes-then : ((path : ℕ) (lock : Held) → is_same_file asked.file lock.file ≡ true → lock_of old path ≡ Some lock → lock_of new path ≡ Some lock)
      → conflicts old asked ≡ true → conflicts new asked ≡ true
  opposes-then stays is =
      let it = opposer-of old asked (λ owner. true) is in
      let by = it.opposes in
      some-opposer new asked (λ owner. true) it.owner (record {
        path = by.path;
        lock = by.lock;
        is = stays by.path by.lock (against-file asked by.lock by.against) by.is;
        owned = by.owned;
        against = by.against;
      }) refl

same-bool : (x y : Bool) → (x ≡ true → y ≡ true) → (y ≡ true → x ≡ true) → y ≡ x
same-bool true y to from = to refl
same-bool false true to from = sym (from refl)
same-bool false false to from = refl

pub conflicts-same : (asked : Held) (old new : Locks) → SameLocks asked.file old new → conflicts new asked ≡ conflicts old asked
conflicts-same asked old new same =
    same-bool (conflicts old asked) (conflicts new asked) (opposes-then asked old new same.stays) (opposes-then asked new old same.was)

-- ---- a lock of a path, and a number of a process

pub same-place : (a b : FilePlace) → is_same_file a b ≡ true → a ≡ b
same-place a b is =
    let (drives, numbers) = both-true (a.drive == b.drive) (a.number == b.number) is in
    ap (λ (drive : ℕ). let r : FilePlace = record { drive = drive; number = a.number } in r) (eqb-true a.drive b.drive drives)
    ∙ ap (λ (number : ℕ). let r : FilePlace = record { drive = b.drive; number = number } in r) (eqb-true a.number b.number numbers)

abbrev pub cause_of : FilePlace → Cause
cause_of place = Cause.Lock place.drive place.number

-- a number that names a path on the file of a lock
pub names-file : (files : Files) (p n : ℕ) (path : ℕ) (place : FilePlace) (lock : Held) → is_same_file place lock.file ≡ true
    → slot_of files.io.paths p n ≡ Some (record { 0 = path }) → IsPathOn files.io.paths path lock.file → NamesCause files.io p n (cause_of place)
names-file files p n path place lock file named on = record {
  opened = record { path = record { 0 = path }; desc = on.desc };
  is = opens files.io p n (record { 0 = path }) on.desc named on.there;
  on =
      ap cause_on on.on
      ∙ ap (λ (place : FilePlace). Some (cause_of place)) (sym (same-place place lock.file file));
}

-- ---- an attempt

module _ (m : MadePathCall) (kinds : AreKinds m.files) (covered : IsCovered m) (held_on : AreHeldOn m.files) (place : FilePlace)
    (apart : NamesCause m.files.io m.asker.caller.process.0 (number_in m.call m.asker) (cause_of place) → ⊥) where
  abbrev p : ℕ
  p = m.asker.caller.process.0

  -- the path that the number of the call names is not on the file
  found-apart : (found : OpenFile) → NamesOpenFile m found → (lock : Held) → is_same_file place lock.file ≡ true → IsPathOn m.files.io.paths found.opened.path.0 lock.file → ⊥
  found-apart found names lock file on =
      apart (names-file m.files p (number_in m.call m.asker) found.opened.path.0 place lock file (file-slot m.files p (number_in m.call m.asker) found names) on)

  old-apart : (found : OpenFile) → NamesOpenFile m found → (path : ℕ) (lock : Held) → is_same_file place lock.file ≡ true → lock_of m.files.records.locks path ≡ Some lock → path ≢ found.opened.path.0
  old-apart found names path lock file is same =
      found-apart found names lock file (subst (λ (path : ℕ). IsPathOn m.files.io.paths path lock.file) same (held_on path lock is))

  -- the lock of this path is taken, and no other one changes
  taken-same : (found : OpenFile) → NamesOpenFile m found → (now : Records) → now.locks.held ≡ slice_set
      m.files.records.locks.held found.opened.path.0 None → SameLocks place m.files.records.locks now.locks
  taken-same found names now is = record {
    stays = λ path lock file there. at path
        ∙ get_or-set_other m.files.records.locks.held found.opened.path.0 path None None (old-apart found names path lock file there) ∙ there;
    was = λ path lock file there. get-emptied m.files.records.locks.held found.opened.path.0 path lock (sym (at path) ∙ there);
  }
    where
      at : (path : ℕ) → lock_of now.locks path ≡ get_or (slice_set m.files.records.locks.held found.opened.path.0 None) path None
      at path = ap (λ (held : List (Option Held)). get_or held path None) is

  held-file : (kind : ReadKind) (lock : Held) (bytes : List ℕ) → (lock_by kind lock bytes).file ≡ lock.file
  held-file Bytes lock bytes = refl
  held-file WholeLine lock bytes = refl

  held-same : (request : Request) (kind : ReadKind) (bytes : List ℕ) (it : IsGranted m request) (now : Records) → now ≡ holding (settled m) (path_in it) (lock_by kind request.lock bytes) bytes
      → SameLocks place m.files.records.locks now.locks
  held-same request kind bytes it now is = record {
    stays = λ path lock file there. at path
        ∙ get_or-set_other m.files.records.locks.held (path_in it) path (Some taken) None (old-apart it.requests.found it.requests.names path lock file there) ∙ there;
    was = λ path lock file there. by_path path lock file (get-written m.files.records.locks.held (path_in it) path taken lock (sym (at path) ∙ there));
  }
    where
      taken : Held
      taken = lock_by kind request.lock bytes

      at : (path : ℕ) → lock_of now.locks path ≡ lock_of (holding (settled m) (path_in it) taken bytes).locks path
      at path = ap (λ (records : Records). lock_of records.locks path) is

      by_path : (path : ℕ) (lock : Held) → is_same_file place lock.file ≡ true
          → ((path ≡ path_in it) × (taken ≡ lock)) ⊎ (lock_of m.files.records.locks path ≡ Some lock) → lock_of m.files.records.locks path ≡ Some lock
      by_path path lock file (inl (same, value)) =
          absurd (found-apart it.requests.found it.requests.names request.lock
          (ap (is_same_file place) (sym (held-file kind request.lock bytes) ∙ ap (λ (lock : Held). lock.file) value) ∙ file)
          (request-on m kinds covered request it.requests))
      by_path path lock file (inr was) = was

  freed-same : (found : OpenFile) → NamesOpenFile m found → (now : Records) → now ≡ without_lock (settled m) found.opened.path.0 → SameLocks place m.files.records.locks now.locks
  freed-same found names now is = record {
    stays = λ path lock file there. at path ∙ without-other (settled m) found.opened.path.0 path (old-apart found names path lock file there) ∙ there;
    was = λ path lock file there. without-was (settled m) found.opened.path.0 path lock (sym (at path) ∙ there);
  }
    where
      at : (path : ℕ) → lock_of now.locks path ≡ lock_of (without_lock (settled m) found.opened.path.0).locks path
      at path = ap (λ (records : Records). lock_of records.locks path) is

  pub come-same : (now : Records) → RecordsCome m now → SameLocks place m.files.records.locks now.locks
  come-same now (RecordsCome.stay is) =
      locks-same place m.files.records.locks now.locks (ap (λ (records : Records). records.locks.held) is)
  come-same now (RecordsCome.holds request kind bytes it taken is) = held-same request kind bytes it now is
  come-same now (RecordsCome.writes request bytes it sent is) =
      taken-same it.requests.found it.requests.names now (ap (λ (records : Records). records.locks.held) is)
  come-same now (RecordsCome.ends found names ends is) = freed-same found names now is
  come-same now (RecordsCome.waits request requests answer is) =
      locks-same place m.files.records.locks now.locks (ap (λ (records : Records). records.locks.held) is)

-- ---- the end of a process

module _ (files : Files) (p : ℕ) (held_on : AreHeldOn files) (place : FilePlace) (paths_apart : (n : ℕ) → NamesCause files.io p n (cause_of place) → ⊥)
    (locks_apart : (path : ℕ) (lock : Held) → lock_of files.records.locks path ≡ Some lock → lock.owner.0 ≡ p → is_same_file place lock.file ≡ true → ⊥) where
  abbrev over : ℕ → Held → Bool
  over = lock_ends (io_ended files.io p).paths (λ owner. owner == p)

  not-over : (path : ℕ) (lock : Held) → is_same_file place lock.file ≡ true → lock_of files.records.locks path ≡ Some lock → over path lock ≡ true → ⊥
  not-over path lock file is passes = by_desc ((closes-ended p files.io).descs path)
    where
      there : IsPathOn files.io.paths path lock.file
      there = held_on path lock is

      by_desc : (desc_of (io_ended files.io p).paths path ≡ desc_of files.io.paths path) ⊎ Goes p files.io.paths (io_ended files.io p).paths path → ⊥
      by_desc (inl same) =
          locks_apart path lock is
          (eqb-true lock.owner.0 p (sym (ap (λ (desc : Option Desc). is_none desc || (lock.owner.0 == p)) (same ∙ there.there)) ∙ passes)) file
      by_desc (inr (none, (n, slot, named, at))) =
          paths_apart n (names-file files p n path place lock file (named ∙ ap (λ (n : ℕ). let r : SysPath = record { 0 = n } in Some r) at) there)

  pub ended-same : SameLocks place files.records.locks (files_ended files p).records.locks
  ended-same = record {
    stays = λ path lock file is. by_end path lock file is (below-held over PATH_PLACES (with_waiting files.records p None) path lock is);
    was = λ path lock file is. below-was over PATH_PLACES (with_waiting files.records p None) path lock is;
  }
    where
      by_end : (path : ℕ) (lock : Held) → is_same_file place lock.file ≡ true → lock_of files.records.locks path ≡ Some lock
          → (lock_of (files_ended files p).records.locks path ≡ Some lock) ⊎ (over path lock ≡ true) → lock_of (files_ended files p).records.locks path ≡ Some lock
      by_end path lock file is (inl stays) = stays
      by_end path lock file is (inr passes) = absurd (not-over path lock file is passes)
