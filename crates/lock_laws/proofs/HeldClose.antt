-- I$Close ends the lock of a path that goes, and no other one.
use Rattle.std.proofs.Common.{◌≡◌, ◌⊎◌, ℕ, ◌||◌, Bool, true, false, Option, Some, None, is_none, List, refl, sym, ap, ◌∙◌, subst, inl, inr}
use Rattle.std.specs.Prelude.{option_and_then, option_map, slice_index_or}
use Rattle.std.proofs.lemmas.Bool.{false≢true}
use Rattle.std.proofs.lemmas.Option.{none-some}
use Rattle.os9_base.specs.declared.errors.TheConstants.{E_BPNUM}
use Rattle.os9_outer.specs.TerminalState.{TerminalState}
use Rattle.io_model.specs.Path.{PathTable, desc_of, holds_path, paths_after_close, slot_of}
use Rattle.io_model.specs.declared.path.Desc.{Desc}
use Rattle.io_model.specs.declared.path.SysPath.{SysPath}
use Rattle.io_model.specs.declared.path.Target.{Target}
use Rattle.io_model.specs.declared.path.Target.TheVariants.{File}
use Rattle.lock_model.specs.Locks.{lock_of, request_of}
use Rattle.lock_model.specs.Records.{Records, ends_lock, with_waiting}
use Rattle.lock_model.specs.declared.lock.Held.{Held}
use Rattle.lock_model.specs.declared.lock.Request.{Request}
use Rattle.lock_model.specs.declared.place.FilePlace.{FilePlace}
use Rattle.rbf_model.specs.File.{DiskFile}
use Rattle.rbf_model.specs.Volume.{DiskVolume}
use Rattle.io_model.specs.Attempts.{HasIoEffect}
use Rattle.io_model.specs.Close.{after_close, i_close as closes_device}
use Rattle.io_model.specs.Io.{Io, OpenPath}
use Rattle.io_model.specs.Step.{IoEffect, answers, done as io_done, needs}
use Rattle.file_rules.specs.Attempts.{files_after}
use Rattle.file_rules.specs.Close.{files_after_close, i_close}
use Rattle.file_rules.specs.Files.{Asker, DriveState, Files, OpenFile, file_in, open_file, open_file_at, place_of_target, volume_at}
use Rattle.file_rules.specs.Locking.{lock_ends, records_after}
use Rattle.file_rules.specs.OnFile.{by_kind}
use Rattle.file_rules.specs.Step.{FileDoes, FileEffect, done, leaves, on_files, with_drives_after}
use Rattle.file_laws.specs.Kinds.{AreKinds, IsOnTarget}
use Rattle.file_laws.proofs.Keeps.{file-slot}
use Rattle.file_laws.proofs.Requests.{device-settled, ends-requests, keeps-forgotten}
use Rattle.lock_laws.specs.Contents.{IsPathOn}
use Rattle.lock_laws.proofs.Descs.{close-paths, closed-desc, number-holds}
use Rattle.lock_laws.proofs.Held.{AreHeldOn, LeavesRecords, OnStay, on-same, same-leaves}
use Rattle.lock_laws.proofs.LockTables.{one-held, one-stays, one-was}

abbrev path_with : SysPath → Desc → OpenPath
path_with path desc = record { path = path; desc = desc }

-- a number that names a path on a file names a file
module _ (files : Files) (p n : ℕ) (path : SysPath) (named : slot_of files.io.paths p n ≡ Some path)
    (drive number : ℕ) (desc : Desc) (there : desc_of files.io.paths path.0 ≡ Some desc) (on : desc.target ≡ File drive number) where
  abbrev at : FilePlace
  at = record { drive = drive; number = number }

  opens-at : open_file files p n ≡ open_file_at files (path_with path desc) at
  opens-at =
      ap (option_and_then (λ (opened : OpenPath). option_and_then (open_file_at files opened) (place_of_target opened.desc.target)))
      (ap (option_and_then (λ (s : SysPath). option_map (path_with s) (desc_of files.io.paths s.0))) named ∙ ap (option_map (path_with path)) there)
      ∙ ap (λ (target : Target). option_and_then (open_file_at files (path_with path desc)) (place_of_target target)) on

  no-file : (v : Option DiskVolume) (file : DiskFile) → option_and_then (λ (v : DiskVolume). v.files number) v ≡ Some file
      → option_and_then (λ (v : DiskVolume). option_map (λ (file : DiskFile). let found : OpenFile = record {
        opened =
            path_with path desc;
        place = at;
        volume = v;
        file = file;
      } in found) (v.files number)) v ≡ None → ⊥
  no-file None file is none = none-some file is
  no-file (Some v) file is none =
      none-some (let found : OpenFile = record { opened = path_with path desc; place = at; volume = v; file = file } in found)
      (sym none ∙ ap (option_map (λ (file : DiskFile). let found : OpenFile = record { opened = path_with path desc; place = at; volume = v; file = file } in found)) is)

  pub opens-file : (file : DiskFile) → file_in files at ≡ Some file → open_file files p n ≡ None → ⊥
  opens-file file is none = no-file (volume_at files drive) file is (sym opens-at ∙ none)

module _ (asker : Asker) (files : Files) (kinds : AreKinds files) (held_on : AreHeldOn files) where
  abbrev p : ℕ
  p = asker.caller.process.0

  abbrev n : ℕ
  n = asker.caller.regs.a

  abbrev After : FileEffect → Type 0
  After effect = LeavesRecords p files (files_after p effect)

  abbrev closed : Io
  closed = after_close files.io p n

  paths-are : closed.paths ≡ paths_after_close files.io.paths p n
  paths-are = close-paths files.io p n

  -- ---- the number names no file

  -- no path on a file goes
  device-stay : open_file files p n ≡ None → (path : SysPath) → slot_of files.io.paths p n ≡ Some path → OnStay files.io.paths closed.paths
  device-stay none path named s place on = by_desc (closed-desc p files.io.paths n path named s)
    where
      not-closed : path.0 ≡ s → ⊥
      not-closed same =
          let kind = subst (IsOnTarget files on.desc.mode) on.on (kinds.paths s on.desc on.there) in
          opens-file files p n path named place.drive place.number on.desc (ap (desc_of files.io.paths) same ∙ on.there) on.on kind.file kind.there none

      by_desc : (desc_of (paths_after_close files.io.paths p n) s ≡ desc_of files.io.paths s) ⊎
          ((desc_of (paths_after_close files.io.paths p n) s ≡ None) × (path.0 ≡ s)) → IsPathOn closed.paths s place
      by_desc (inl same) =
          on-same files.io.paths closed.paths s place (ap (λ (paths : PathTable). desc_of paths s) paths-are ∙ same) on
      by_desc (inr (gone, same)) = absurd (not-closed same)

  stays-on : open_file files p n ≡ None → (path : Option SysPath) → slot_of files.io.paths p n ≡ path → (it : IoEffect) (before after : List TerminalState)
      → HasIoEffect (needs path E_BPNUM (λ path. io_done asker.caller.regs closed)) asker.caller files.io it before after
      → OnStay files.io.paths it.io.paths
  stays-on none None named it before after (is, same) =
      subst (λ (it : IoEffect). OnStay files.io.paths it.io.paths) (sym is) (λ s place on. on)
  stays-on none (Some path) named it before after (is, same) =
      subst (λ (it : IoEffect). OnStay files.io.paths it.io.paths) (sym is) (device-stay none path named)

  device-leaves : open_file files p n ≡ None → (it : IoEffect) (before after : List TerminalState) (drives : List DriveState)
      → HasIoEffect (closes_device asker.caller files.io) asker.caller files.io it before after → After (with_drives_after (on_files p files it) drives)
  device-leaves none it before after drives does =
      same-leaves p files (files_after p (with_drives_after (on_files p files it) drives))
      (λ q differ. ap (λ (records : Records). request_of records.locks q) settled ∙ keeps-forgotten p files.records q differ)
      (ap (λ (records : Records). records.locks.held) settled)
      (stays-on none (slot_of files.io.paths p n) refl it before after does) held_on
    where
      settled : records_after it.end (with_waiting files.records p None) p ≡ with_waiting files.records p None
      settled = device-settled it.end p files.records

  -- ---- it names a file

  module _ (found : OpenFile) (names : open_file files p n ≡ Some found) where
    abbrev path : ℕ
    path = found.opened.path.0

    named : slot_of files.io.paths p n ≡ Some found.opened.path
    named = file-slot files p n found names

    abbrev ends : ℕ → Held → Bool
    ends = lock_ends closed.paths (λ owner. false)

    -- a path stays, or it is this one and has gone
    goes : (s : ℕ) → (desc_of closed.paths s ≡ desc_of files.io.paths s) ⊎ ((desc_of closed.paths s ≡ None) × (path ≡ s))
    goes s =
        subst (λ (paths : PathTable). (desc_of paths s ≡ desc_of files.io.paths s) ⊎ ((desc_of paths s ≡ None) × (path ≡ s))) (sym paths-are)
        (closed-desc p files.io.paths n found.opened.path named s)

    ends-held : (s : ℕ) (lock : Held) → lock_of files.records.locks s ≡ Some lock → ends s lock ≡ true → holds_path files.io.paths p s ≡ true
    ends-held s lock is passes = by_desc (goes s)
      where
        by_desc : (desc_of closed.paths s ≡ desc_of files.io.paths s) ⊎ ((desc_of closed.paths s ≡ None) × (path ≡ s)) → holds_path files.io.paths p s ≡ true
        by_desc (inl same) =
            absurd (false≢true (sym (ap (λ (desc : Option Desc). is_none desc || false) (same ∙ (held_on s lock is).there)) ∙ passes))
        by_desc (inr (none, same)) = number-holds files.io.paths p s (n, found.opened.path, named, same)

    file-on : (s : ℕ) (lock : Held) → lock_of (ends_lock ends path files.records).locks s ≡ Some lock → IsPathOn closed.paths s lock.file
    file-on s lock is = by_desc (goes s)
      where
        by_desc : (desc_of closed.paths s ≡ desc_of files.io.paths s) ⊎ ((desc_of closed.paths s ≡ None) × (path ≡ s)) → IsPathOn closed.paths s lock.file
        by_desc (inl same) =
            on-same files.io.paths closed.paths s lock.file same (held_on s lock (one-was ends path files.records s lock is))
        by_desc (inr (none, same)) =
            let stays : ends path lock ≡ false = one-stays ends path files.records lock (ap (lock_of (ends_lock ends path files.records).locks) same ∙ is) in
            absurd (false≢true (sym stays ∙ ap (λ (desc : Option Desc). is_none desc || false) (ap (desc_of closed.paths) same ∙ none)))

    file-leaves : (drives : List DriveState) (effect : FileEffect) → effect.files.records ≡ ends_lock ends path files.records
        → effect.files.io ≡ closed → records_after effect.end effect.files.records p ≡ with_waiting effect.files.records p None → After effect
    file-leaves drives effect records io over = record {
      requests = λ q differ.
          ap (λ (records : Records). request_of records.locks q) all ∙ keeps-forgotten p (ends_lock ends path files.records) q differ
          ∙ ap (λ (requests : List (Option Request)). slice_index_or requests q None) (ends-requests ends path files.records);
      held = λ s lock is. by_end s lock is (one-held ends path files.records s lock is);
      gained = λ s lock is. inl (one-was ends path files.records s lock (sym (at s) ∙ is));
      on = λ s lock is.
          subst (λ (io : Io). IsPathOn io.paths s lock.file) (sym io) (file-on s lock (sym (at s) ∙ is));
    }
      where
        all : records_after effect.end effect.files.records p ≡ with_waiting (ends_lock ends path files.records) p None
        all = over ∙ ap (λ (records : Records). with_waiting records p None) records

        at : (s : ℕ) → lock_of (records_after effect.end effect.files.records p).locks s ≡ lock_of (ends_lock ends path files.records).locks s
        at s = ap (λ (records : Records). lock_of records.locks s) all

        by_end : (s : ℕ) (lock : Held) → lock_of files.records.locks s ≡ Some lock
            → (lock_of (ends_lock ends path files.records).locks s ≡ Some lock) ⊎ (ends s lock ≡ true)
            → (lock_of (records_after effect.end effect.files.records p).locks s ≡ Some lock) ⊎
            ((lock.owner.0 ≡ p) ⊎ (holds_path files.io.paths p s ≡ true))
        by_end s lock is (inl stays) = inl (at s ∙ stays)
        by_end s lock is (inr passes) = inr (inr (ends-held s lock is passes))

  -- ---- the call

  by-file : (found : Option OpenFile) → open_file files p n ≡ found → (effect : FileEffect) (before after : List TerminalState)
      → FileDoes (by_kind found (closes_device asker.caller files.io) (λ opened. done asker.caller.regs
      (files_after_close files p n opened.opened.path.0))) asker files effect before after → After effect
  by-file None names effect before after (inl well) =
      let (io, does, is) = well.does in
      subst After (sym (well.effect_is ∙ ap (λ (it : FileEffect). with_drives_after it well.drives) is))
      (device-leaves names io before after well.drives does)
  by-file None names effect before after (inr (broken, same)) = absurd (none-some broken.drive broken.reached)
  by-file (Some found) names effect before after (inl well) =
      subst After (sym (well.effect_is ∙ ap (λ (it : FileEffect). with_drives_after it well.drives) well.does.0))
      (file-leaves found names well.drives (with_drives_after (leaves (answers asker.caller.regs) (files_after_close files p n found.opened.path.0)) well.drives) refl refl refl)
  by-file (Some found) names effect before after (inr (broken, same)) =
      absurd (none-some broken.drive broken.reached)

  pub close-leaves : (effect : FileEffect) (before after : List TerminalState) → FileDoes (i_close asker files) asker files effect before after → After effect
  close-leaves effect before after does = by-file (open_file files p n) refl effect before after does
