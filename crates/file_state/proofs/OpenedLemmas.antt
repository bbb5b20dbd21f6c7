-- Files and directories that paths name, where paths are on what is there.
use Rattle.std.proofs.Common.{◌≡◌, ℕ, Bool, true, false, Option, Some, None, IfSome, option_map, option_and_then, List, refl, ap, sym, subst, ◌∙◌}
use Rattle.std.proofs.lemmas.Bool.{false≢true}
use Rattle.std.proofs.lemmas.Option.{none-some, same_Some}
use Rattle.io_model.specs.Path.{desc_of, slot_of}
use Rattle.io_model.specs.declared.path.Desc.{Desc}
use Rattle.io_model.specs.declared.path.SysPath.{SysPath}
use Rattle.io_model.specs.declared.path.Target.{Target}
use Rattle.io_model.specs.declared.path.Target.TheVariants.{File, Folder, Term, Pipe}
use Rattle.rbf_model.specs.Volume.{DiskVolume}
use Rattle.io_model.specs.Modes.{can_write}
use Rattle.io_model.specs.Io.{Io, OpenPath, open_path}
use Rattle.file_rules.specs.Files.{Files, OpenFile as Found, open_file_at, place_of_target}
use Rattle.lock_model.specs.declared.place.FilePlace.{FilePlace}
use Rattle.file_drives.specs.Drives.{DriveView}
use Rattle.file_drives.specs.Mounted.{HasFileAt}
use Rattle.file_laws.specs.Kinds.{AreKinds, IsOfKind, IsOnTarget}
use Rattle.file_state.proofs.ReachedLemmas.{on-volume}
use Rattle.record_locks.specs.Places.{IsPath}
use Rattle.io_state.specs.Files.{IsOnDisk}
use Rattle.file_state.specs.Opened.{IsOpenFileOf, IsPathOf, NumberNamesFile, NamesNoFile, opened_by, path_of}
use Rattle.file_state.specs.Tie.{RepresentsFiles}
use Rattle.file_state.specs.declared.state.FileState.{FileState}

abbrev pub path-and-desc : SysPath → Desc → OpenPath
path-and-desc path desc = record { path = path; desc = desc }

-- the descriptor of a path that is open
pub open-desc : (io : Io) (p n : ℕ) (path : SysPath) (desc : Desc) → open_path io p n ≡ Some (path-and-desc path desc) → desc_of io.paths path.0 ≡ Some desc
open-desc io p n path desc is = by (slot_of io.paths p n) is
  where
    by-desc : (s : SysPath) (o : Option Desc) → desc_of io.paths s.0 ≡ o → option_map (path-and-desc s) o ≡ Some (path-and-desc path desc) → desc_of io.paths path.0 ≡ Some desc
    by-desc s None at is = absurd (none-some (path-and-desc path desc) is)
    by-desc s (Some found) at is =
        let same : path-and-desc s found ≡ path-and-desc path desc = same_Some (path-and-desc s found) (path-and-desc path desc) is in
        let same_path : s ≡ path = ap (λ (o : OpenPath). o.path) same in
        let same_desc : found ≡ desc = ap (λ (o : OpenPath). o.desc) same in
        subst (λ (k : SysPath). desc_of io.paths k.0 ≡ Some desc) same_path (at ∙ ap (λ d. Some d) same_desc)

    by : (slot : Option SysPath) → option_and_then (λ s. option_map (path-and-desc s) (desc_of io.paths s.0)) slot ≡ Some (path-and-desc path desc) → desc_of io.paths path.0 ≡ Some desc
    by None is = absurd (none-some (path-and-desc path desc) is)
    by (Some s) is = by-desc s (desc_of io.paths s.0) refl is

-- a path that was opened on this, with its descriptor
pub path-opened : (io : Io) (path : SysPath) (desc : Desc) (target : Target) → desc_of io.paths path.0 ≡ Some desc → IsPath path.0 → IfSome (opened_by path desc target) (IsPathOf io)
path-opened io path desc (File drive number) is low = record { desc = is; place = low }
path-opened io path desc (Folder drive number) is low = record { desc = is; place = low }
path-opened io path desc (Term terminal) is low = tt
path-opened io path desc (Pipe pipe) is low = tt

-- and the number that names it
pub path-named : (io : Io) (p n : ℕ) (path : SysPath) (desc : Desc) (target : Target) → Some (path-and-desc path desc)
    ≡ open_path io p n → IfSome (opened_by path desc target) (λ file. open_path io p n ≡ Some (path_of file))
path-named io p n path desc (File drive number) is = sym is
path-named io p n path desc (Folder drive number) is = sym is
path-named io p n path desc (Term terminal) is = tt
path-named io p n path desc (Pipe pipe) is = tt

-- what is opened on no file is on none
pub no-file : (io : Io) (p n : ℕ) (path : SysPath) (desc : Desc) → Some (path-and-desc path desc) ≡ open_path io p n → opened_by path desc desc.target ≡ None → NamesNoFile io p n
no-file io p n path desc is none =
    subst (λ (o : Option OpenPath). IfSome o (λ opened. IsOnDisk opened.desc.target → ⊥)) is (by desc.target none)
  where
    by : (target : Target) → opened_by path desc target ≡ None → IsOnDisk target → ⊥
    by (File drive number) none on = none-some _ (sym none)
    by (Folder drive number) none on = none-some _ (sym none)
    by (Term terminal) none on = on
    by (Pipe pipe) none on = on

module _ (state : FileState) (views : List DriveView) (files : Files) (p n : ℕ) (stands : RepresentsFiles state views files) (kinds : AreKinds files) where
  -- what follows once the path is known
  abbrev goes-on : (opened : OpenPath) → Option Found
  goes-on opened = option_and_then (open_file_at files opened) (place_of_target opened.desc.target)

  -- of a path at the place of a file
  named-at : (path : SysPath) (desc : Desc) (place : FilePlace) (directory : Bool) → open_path files.io p n ≡ Some
      (path-and-desc path desc) → place_of_target desc.target ≡ Some place → IsOfKind files place directory
      → (directory ≡ true → can_write desc.mode ≡ false) → IsOpenFileOf state views files p n
      (record { path = path; desc = desc; place = place; is_directory = directory })
  named-at path desc place directory is at kind unwritten =
      let on = on-volume files place kind.file kind.there in
      let found : Found = record { opened = path-and-desc path desc; place = place; volume = on.volume; file = kind.file } in
      let has : HasFileAt state.disks views place = record { volumes = files.volumes; mounted = stands.mounted; volume = on.volume; is = on.is; file = kind.file; there = on.there } in
      record {
        found = found;
        is =
            ap (option_and_then goes-on) is
            ∙ ap (option_and_then (open_file_at files (path-and-desc path desc))) at
            ∙ ap (option_and_then (λ (v : DiskVolume). option_map (λ file. record { opened = path-and-desc path desc; place = place; volume = v; file = file }) (v.files place.number))) on.is
            ∙ ap (option_map (λ file. record { opened = path-and-desc path desc; place = place; volume = on.volume; file = file })) on.there;
        path = refl;
        place = refl;
        directory = kind.kind;
        there = kind.there;
        has = has;
        unwritten = unwritten;
        data_file = λ is_data. record { has = has; not_directory = kind.kind ∙ is_data };
      }

  -- of a path that was opened on this
  named-by : (path : SysPath) (desc : Desc) (target : Target) → open_path files.io p n ≡ Some
      (path-and-desc path desc) → desc.target ≡ target → NumberNamesFile state views files p n (opened_by path desc target)
  named-by path desc (File drive number) is on =
      named-at path desc (record { drive = drive; number = number }) false is (ap place_of_target on)
      (subst (λ target. IsOnTarget files desc.mode target) on (kinds.paths path.0 desc (open-desc files.io p n path desc is)))
      (λ directory. absurd (false≢true directory))
  named-by path desc (Folder drive number) is on =
      let kind = subst (λ target. IsOnTarget files desc.mode target) on (kinds.paths path.0 desc (open-desc files.io p n path desc is)) in
      named-at path desc (record { drive = drive; number = number }) true is (ap place_of_target on) kind.0 (λ directory. kind.1)
  named-by path desc (Term terminal) is on =
      ap (option_and_then goes-on) is ∙ ap (option_and_then (open_file_at files (path-and-desc path desc))) (ap place_of_target on)
  named-by path desc (Pipe pipe) is on =
      ap (option_and_then goes-on) is ∙ ap (option_and_then (open_file_at files (path-and-desc path desc))) (ap place_of_target on)

  -- a number that names a path
  pub names-path : (path : SysPath) (desc : Desc) → Some (path-and-desc path desc) ≡ open_path state.io p n → NumberNamesFile state views files p n (opened_by path desc desc.target)
  names-path path desc is =
      named-by path desc desc.target (ap (λ io. open_path io p n) stands.io ∙ sym is) refl

  -- and one that names none
  pub names-none : None ≡ open_path state.io p n → NumberNamesFile state views files p n None
  names-none is = ap (option_and_then goes-on) (ap (λ io. open_path io p n) stands.io ∙ sym is)
