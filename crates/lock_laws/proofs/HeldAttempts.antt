-- An attempt of a process leaves the locks and the requests of the others, and each lock on the file of its path.
use Rattle.std.proofs.Common.{◌≡◌, ◌≢◌, ◌⊎◌, ℕ, ◌&&◌, Bool, true, false, Option, Some, None, List, length, refl, sym, ap, ◌∙◌, subst, inl, inr}
use Rattle.std.specs.Prelude.{slice_index_or}
use Rattle.std.proofs.lemmas.Bool.{both_ways, cases_eq, false≢true}
use Rattle.std.proofs.lemmas.List.{get_or-set_other}
use Rattle.std.proofs.lemmas.Option.{none-some, same_Some}
use Rattle.io_model.specs.Path.{holds_path}
use Rattle.io_model.specs.declared.path.Target.{Target}
use Rattle.io_model.specs.declared.path.Target.TheVariants.{File, Folder, Pipe, Term}
use Rattle.io_model.specs.declared.terminal.ReadKind.{ReadKind}
use Rattle.io_model.specs.declared.terminal.ReadKind.TheVariants.{Bytes, WholeLine}
use Rattle.lock_model.specs.Locks.{lock_of, request_of}
use Rattle.lock_model.specs.Records.{AreLockRecords, Records, holding, without_lock, written_by}
use Rattle.lock_model.specs.declared.lock.Held.{Held}
use Rattle.lock_model.specs.declared.lock.Request.{Request}
use Rattle.lock_model.specs.declared.lock.TheConstants.{PATH_PLACES}
use Rattle.lock_model.specs.declared.place.FilePlace.{FilePlace}
use Rattle.lock_model.proofs.Ranks.{get-emptied, get-written}
use Rattle.io_model.specs.Io.{Io}
use Rattle.io_model.specs.Modes.{can_write}
use Rattle.io_model.specs.declared.io_call.IoCall.{IoCall}
use Rattle.io_model.specs.declared.io_call.IoCall.TheVariants as Device
use Rattle.file_rules.specs.Attempts.{file_step}
use Rattle.file_rules.specs.Files.{Asker, Files, OpenFile, place_of_target}
use Rattle.file_rules.specs.Read.{lock_by}
use Rattle.file_rules.specs.Step.{FileDoes}
use Rattle.file_rules.specs.declared.claim.Claim.{Claim}
use Rattle.file_rules.specs.declared.path_call.PathCall.{PathCall}
use Rattle.file_rules.specs.declared.path_call.PathCall.TheVariants as Call
use Rattle.file_laws.specs.Kinds.{AreKinds, IsOnTarget}
use Rattle.file_laws.proofs.Named.{is-named, opened-desc}
use Rattle.file_laws.specs.Attempt.{Attempt, OnDevice, TouchesNone, WaitsOnRecord, asker_in, made_in}
use Rattle.file_laws.specs.Claims.{Claims, MadePathCall, NamesOpenFile, Requests}
use Rattle.file_laws.specs.Devices.{device_call, number_in}
use Rattle.file_laws.specs.Recorded.{IsGranted, RecordsCome, path_in, settled}
use Rattle.file_laws.proofs.Claimed.{records-come}
use Rattle.file_laws.proofs.Keeps.{file-slot, stays}
use Rattle.file_laws.proofs.OfAttempts.{comes-of}
use Rattle.file_laws.proofs.Requests.{keeps-forgotten, without-requests}
use Rattle.lock_laws.specs.Contents.{IsCovered, IsPathOn}
use Rattle.lock_laws.proofs.Covering.{request-file}
use Rattle.lock_laws.proofs.Changes.{owner-is}
use Rattle.lock_laws.proofs.Descs.{number-holds}
use Rattle.lock_laws.proofs.DeviceDescriptors.{DescsStay, descs-same, device-stay}
use Rattle.lock_laws.proofs.Held.{AreHeldOn, LeavesRecords, OnStay, on-like, same-leaves}
use Rattle.lock_laws.proofs.HeldClose.{close-leaves}
use Rattle.lock_laws.proofs.LockTables.{without-other, without-was}

-- ---- a request is on a file

both-right : (x y : Bool) → (x && y) ≡ true → y ≡ true
both-right true y is = is
both-right false y is = absurd (false≢true is)

-- a path that claims bytes may be written
claims-write : (call : PathCall) (asker : Asker) (files : Files) (found : OpenFile) (claim : Claim) → Claims call asker files found claim → can_write found.opened.desc.mode ≡ true
claims-write call asker files found claim (Claims.reads kind is can update more claim_is) = both-right _ (can_write found.opened.desc.mode) update
claims-write call asker files found claim (Claims.writes bytes is can there claim_is) = can.0
claims-write call asker files found claim (Claims.writes_line bytes is can there claim_is) = can.0
claims-write call asker files found claim (Claims.tells_error is may claim_is) = may
claims-write call asker files found claim (Claims.sizes is code may claim_is) = may
claims-write call asker files found claim (Claims.locks is code update some claim_is) = both-right _ (can_write found.opened.desc.mode) update

-- and so it is on a file
target-file : (files : Files) (mode : ℕ) (target : Target) (place : FilePlace) → place_of_target target ≡ Some place
    → IsOnTarget files mode target → can_write mode ≡ true → target ≡ File place.drive place.number
target-file files mode (File drive number) place at on writes =
    ap (λ (place : FilePlace). File place.drive place.number) (same_Some (record { drive = drive; number = number }) place at)
target-file files mode (Folder drive number) place at on writes = absurd (both_ways (can_write mode) on.1 writes)
target-file files mode (Term terminal) place at on writes = absurd (none-some place at)
target-file files mode (Pipe pipe) place at on writes = absurd (none-some place at)

module _ (m : MadePathCall) (kinds : AreKinds m.files) (covered : IsCovered m) (request : Request) (it : Requests m request) where
  abbrev found : OpenFile
  found = it.found

  found-on : IsPathOn m.files.io.paths found.opened.path.0 found.place
  found-on =
      let named = is-named m.files m.asker.caller.process.0 (number_in m.call m.asker) found it.names in
      let there = opened-desc m.files m.asker.caller.process.0 (number_in m.call m.asker) found it.names in
      record {
        desc = found.opened.desc;
        there = there;
        on =
            target-file m.files found.opened.desc.mode found.opened.desc.target found.place named.place
            (kinds.paths found.opened.path.0 found.opened.desc there)
            (claims-write m.call m.asker m.files found it.claim it.claims);
      }

  -- a request is for bytes of the file of its path
  pub request-on : IsPathOn m.files.io.paths found.opened.path.0 request.lock.file
  request-on =
      subst (IsPathOn m.files.io.paths found.opened.path.0) (sym (request-file m covered request it)) found-on

-- ---- what an attempt makes of the records

pub lock-owner : (kind : ReadKind) (lock : Held) (bytes : List ℕ) → (lock_by kind lock bytes).owner.0 ≡ lock.owner.0
lock-owner Bytes lock bytes = refl
lock-owner WholeLine lock bytes = refl

pub lock-file : (kind : ReadKind) (lock : Held) (bytes : List ℕ) → (lock_by kind lock bytes).file ≡ lock.file
lock-file Bytes lock bytes = refl
lock-file WholeLine lock bytes = refl

module _ (m : MadePathCall) (kinds : AreKinds m.files) (agreed : AreLockRecords m.files.records) (places : length m.files.io.paths.descs ≡ PATH_PLACES)
    (own : (request : Request) → request_of m.files.records.locks m.asker.caller.process.0 ≡ Some request
    → request.lock.owner.0 ≡ m.asker.caller.process.0) (covered : IsCovered m) (held_on : AreHeldOn m.files) (new : Files)
    (stay : OnStay m.files.io.paths new.io.paths) where
  abbrev p : ℕ
  p = m.asker.caller.process.0

  abbrev Left : Type 0
  Left = LeavesRecords p m.files new

  abbrev old_held : List (Option Held)
  old_held = m.files.records.locks.held

  -- the process has a number of the path of its call
  found-holds : (found : OpenFile) → NamesOpenFile m found → (path : ℕ) → path ≡ found.opened.path.0 → holds_path m.files.io.paths p path ≡ true
  found-holds found names path same =
      number-holds m.files.io.paths p path (number_in m.call m.asker, found.opened.path, file-slot m.files p (number_in m.call m.asker) found names, sym same)

  forgotten-requests : (now : Records) → new.records ≡ now → now.locks.requests ≡ (settled m).locks.requests → (q : ℕ) → q ≢ p → request_of new.records.locks q ≡ request_of m.files.records.locks q
  forgotten-requests now is same q differ =
      ap (λ (records : Records). request_of records.locks q) is
      ∙ ap (λ (requests : List (Option Request)). slice_index_or requests q None) same
      ∙ keeps-forgotten p m.files.records q differ

  old-on : (path : ℕ) (lock : Held) → lock_of m.files.records.locks path ≡ Some lock → IsPathOn new.io.paths path lock.file
  old-on path lock is = stay path lock.file (held_on path lock is)

  held-leaves : (request : Request) (kind : ReadKind) (bytes : List ℕ) (it : IsGranted m request)
      → new.records ≡ holding (settled m) (path_in it) (lock_by kind request.lock bytes) bytes → Left
  held-leaves request kind bytes it is = record {
    requests = forgotten-requests (holding (settled m) (path_in it) taken bytes) is refl;
    held = λ path lock there. by_path path lock there (cases_eq path (path_in it));
    gained = λ path lock there. by_gain path lock (get-written old_held (path_in it) path taken lock (sym (at path) ∙ there));
    on = λ path lock there. by_on path lock (get-written old_held (path_in it) path taken lock (sym (at path) ∙ there));
  }
    where
      taken : Held
      taken = lock_by kind request.lock bytes

      at : (path : ℕ) → lock_of new.records.locks path ≡ lock_of (holding (settled m) (path_in it) taken bytes).locks path
      at path = ap (λ (records : Records). lock_of records.locks path) is

      by_path : (path : ℕ) (lock : Held) → lock_of m.files.records.locks path ≡ Some lock → (path ≡ path_in it) ⊎ (path ≢ path_in it)
          → (lock_of new.records.locks path ≡ Some lock) ⊎ ((lock.owner.0 ≡ p) ⊎ (holds_path m.files.io.paths p path ≡ true))
      by_path path lock there (inl same) = inr (inr (found-holds it.requests.found it.requests.names path same))
      by_path path lock there (inr differ) =
          inl (at path ∙ get_or-set_other old_held (path_in it) path (Some taken) None differ ∙ there)

      by_gain : (path : ℕ) (lock : Held) → ((path ≡ path_in it) × (taken ≡ lock)) ⊎ (lock_of m.files.records.locks path ≡ Some lock)
          → (lock_of m.files.records.locks path ≡ Some lock) ⊎ (lock.owner.0 ≡ p)
      by_gain path lock (inl (same, value)) =
          inr (ap (λ (lock : Held). lock.owner.0) (sym value) ∙ lock-owner kind request.lock bytes ∙ owner-is m agreed places own request it.requests)
      by_gain path lock (inr was) = inl was

      by_on : (path : ℕ) (lock : Held) → ((path ≡ path_in it) × (taken ≡ lock)) ⊎ (lock_of m.files.records.locks path ≡ Some lock) → IsPathOn new.io.paths path lock.file
      by_on path lock (inl (same, value)) =
          subst (λ (file : FilePlace). IsPathOn new.io.paths path file) (sym (lock-file kind request.lock bytes) ∙ ap (λ (lock : Held). lock.file) value)
          (subst (λ (path : ℕ). IsPathOn new.io.paths path request.lock.file) (sym same)
          (stay (path_in it) request.lock.file (request-on m kinds covered request it.requests)))
      by_on path lock (inr was) = old-on path lock was

  written-leaves : (request : Request) (bytes : List ℕ) (it : IsGranted m request) → new.records ≡ written_by (settled m) (path_in it) request.lock bytes → Left
  written-leaves request bytes it is = record {
    requests = forgotten-requests (written_by (settled m) (path_in it) request.lock bytes) is refl;
    held = λ path lock there. by_path path lock there (cases_eq path (path_in it));
    gained = λ path lock there. inl (was path lock there);
    on = λ path lock there. old-on path lock (was path lock there);
  }
    where
      at : (path : ℕ) → lock_of new.records.locks path ≡ lock_of (written_by (settled m) (path_in it) request.lock bytes).locks path
      at path = ap (λ (records : Records). lock_of records.locks path) is

      was : (path : ℕ) (lock : Held) → lock_of new.records.locks path ≡ Some lock → lock_of m.files.records.locks path ≡ Some lock
      was path lock there = get-emptied old_held (path_in it) path lock (sym (at path) ∙ there)

      by_path : (path : ℕ) (lock : Held) → lock_of m.files.records.locks path ≡ Some lock → (path ≡ path_in it) ⊎ (path ≢ path_in it)
          → (lock_of new.records.locks path ≡ Some lock) ⊎ ((lock.owner.0 ≡ p) ⊎ (holds_path m.files.io.paths p path ≡ true))
      by_path path lock there (inl same) = inr (inr (found-holds it.requests.found it.requests.names path same))
      by_path path lock there (inr differ) =
          inl (at path ∙ get_or-set_other old_held (path_in it) path None None differ ∙ there)

  freed-leaves : (found : OpenFile) → NamesOpenFile m found → new.records ≡ without_lock (settled m) found.opened.path.0 → Left
  freed-leaves found names is = record {
    requests = forgotten-requests (without_lock (settled m) freed) is (without-requests freed (settled m));
    held = λ path lock there. by_path path lock there (cases_eq path freed);
    gained = λ path lock there. inl (was path lock there);
    on = λ path lock there. old-on path lock (was path lock there);
  }
    where
      freed : ℕ
      freed = found.opened.path.0

      at : (path : ℕ) → lock_of new.records.locks path ≡ lock_of (without_lock (settled m) freed).locks path
      at path = ap (λ (records : Records). lock_of records.locks path) is

      was : (path : ℕ) (lock : Held) → lock_of new.records.locks path ≡ Some lock → lock_of m.files.records.locks path ≡ Some lock
      was path lock there = without-was (settled m) freed path lock (sym (at path) ∙ there)

      by_path : (path : ℕ) (lock : Held) → lock_of m.files.records.locks path ≡ Some lock → (path ≡ freed) ⊎ (path ≢ freed)
          → (lock_of new.records.locks path ≡ Some lock) ⊎ ((lock.owner.0 ≡ p) ⊎ (holds_path m.files.io.paths p path ≡ true))
      by_path path lock there (inl same) = inr (inr (found-holds found names path same))
      by_path path lock there (inr differ) = inl (at path ∙ without-other (settled m) freed path differ ∙ there)

  come-leaves : RecordsCome m new.records → Left
  come-leaves (RecordsCome.stay is) =
      same-leaves p m.files new (forgotten-requests (settled m) is refl) (ap (λ (records : Records). records.locks.held) is) stay held_on
  come-leaves (RecordsCome.holds request kind bytes it taken is) = held-leaves request kind bytes it is
  come-leaves (RecordsCome.writes request bytes it sent is) = written-leaves request bytes it is
  come-leaves (RecordsCome.ends found names ends is) = freed-leaves found names is
  come-leaves (RecordsCome.waits request requests answer is) =
      same-leaves p m.files new
      (λ q differ. ap (λ (records : Records). request_of records.locks q) is
      ∙ get_or-set_other m.files.records.locks.requests request.lock.owner.0 q (Some request) None
      (λ same. differ (same ∙ owner-is m agreed places own request requests)))
      (ap (λ (records : Records). records.locks.held) is) stay held_on

-- ---- an attempt

is-close : (call : PathCall) → (call ≡ Call.Close) ⊎ (call ≢ Call.Close)
is-close Call.Dup = inr (λ same. cc)
is-close Call.Create = inr (λ same. cc)
is-close Call.Open = inr (λ same. cc)
is-close Call.MakDir = inr (λ same. cc)
is-close Call.ChgDir = inr (λ same. cc)
is-close Call.Delete = inr (λ same. cc)
is-close Call.DeletX = inr (λ same. cc)
is-close Call.Seek = inr (λ same. cc)
is-close Call.Read = inr (λ same. cc)
is-close Call.Write = inr (λ same. cc)
is-close Call.ReadLn = inr (λ same. cc)
is-close Call.WritLn = inr (λ same. cc)
is-close Call.GetStt = inr (λ same. cc)
is-close Call.SetStt = inr (λ same. cc)
is-close Call.Close = inl refl
is-close Call.PErr = inr (λ same. cc)

-- no other call is I$Close on terminals and pipes
closes-alone : (call : PathCall) → device_call call ≡ Some Device.Close → call ≡ Call.Close
closes-alone Call.Dup is = absurd cc
closes-alone Call.Create is = absurd cc
closes-alone Call.Open is = absurd cc
closes-alone Call.MakDir is = absurd cc
closes-alone Call.ChgDir is = absurd cc
closes-alone Call.Delete is = absurd cc
closes-alone Call.DeletX is = absurd cc
closes-alone Call.Seek is = absurd cc
closes-alone Call.Read is = absurd cc
closes-alone Call.Write is = absurd cc
closes-alone Call.ReadLn is = absurd cc
closes-alone Call.WritLn is = absurd cc
closes-alone Call.GetStt is = absurd cc
closes-alone Call.SetStt is = absurd cc
closes-alone Call.Close is = refl
closes-alone Call.PErr is = absurd cc

module _ (it : Attempt) (kinds : AreKinds it.files) (agreed : AreLockRecords it.files.records) (places : length it.files.io.paths.descs ≡ PATH_PLACES)
    (own : (request : Request) → request_of it.files.records.locks it.process ≡ Some request → request.lock.owner.0 ≡ it.process)
    (covered : IsCovered (made_in it)) (held_on : AreHeldOn it.files) where
  descs-stay : it.call ≢ Call.Close → DescsStay it.files.io.paths it.new.io.paths
  descs-stay other = by_touch (comes-of it)
    where
      by_touch : OnDevice it ⊎ TouchesNone it ⊎ WaitsOnRecord it → DescsStay it.files.io.paths it.new.io.paths
      by_touch (inl on) =
          device-stay on.0.device it.processes it.files.io it.process (length it.files.drives) it.result it.new.io it.before it.after
          (λ same. other (closes-alone it.call (on.0.device_is ∙ ap (λ (device : IoCall). Some device) same))) on.0.attempted
      by_touch (inr (inl none)) = (stays it.call (asker_in it) it.files it.new.io.paths none.paths).descs
      by_touch (inr (inr waiting)) =
          subst (λ (io : Io). DescsStay it.files.io.paths io.paths) (sym waiting.io) (descs-same it.files.io.paths)

  pub attempt-leaves : LeavesRecords it.process it.files it.new
  attempt-leaves = by_call (is-close it.call)
    where
      by_call : (it.call ≡ Call.Close) ⊎ (it.call ≢ Call.Close) → LeavesRecords it.process it.files it.new
      by_call (inl same) =
          subst (LeavesRecords it.process it.files) (sym it.attempted.state)
          (close-leaves (asker_in it) it.files kinds held_on it.attempted.effect it.before it.after
          (subst (λ (call : PathCall). FileDoes (file_step call (asker_in it) it.files (length it.before)) (asker_in it) it.files it.attempted.effect it.before it.after) same it.attempted.does))
      by_call (inr other) =
          come-leaves (made_in it) kinds agreed places own covered held_on it.new
          (on-like it.files.io.paths it.new.io.paths (descs-stay other)) (records-come it)
