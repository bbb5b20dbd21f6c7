-- I$Open begins a path on a file of its kind, and I$ChgDir goes to a directory.
use Rattle.std.proofs.Common.{◌≡◌, ℕ, Bool, true, false, not, Some, length, refl, sym, ap, ◌∙◌, subst}
use Rattle.std.specs.Prelude.{◌&&◌, if◌then◌else◌}
use Rattle.std.proofs.lemmas.Bool.{and_parts, false≢true, not-true}
use Rattle.std.proofs.lemmas.Option.{same_Some}
use Rattle.os9_base.specs.declared.errors.TheConstants.{E_BMODE, E_FNA, E_SHARE, E_PTHFUL}
use Rattle.io_model.specs.Path.{new_number, paths_after_begin}
use Rattle.io_model.specs.declared.path.Target.TheVariants.{File, Folder}
use Rattle.rbf_model.specs.File.{is_directory}
use Rattle.rbf_model.specs.Walk.{file_permits}
use Rattle.io_model.specs.Io.{new_desc, with_paths}
use Rattle.io_model.specs.Lead.{what_is_there}
use Rattle.io_model.specs.Modes.{can_write, is_mode}
use Rattle.io_model.specs.Open.{i_open as opens, opened_regs}
use Rattle.io_model.specs.PathList.{PathList}
use Rattle.io_model.specs.Step.{answers}
use Rattle.file_rules.specs.ChgDir.{goes_on_route, goes_to, i_chgdir, may_go_to}
use Rattle.file_rules.specs.Files.{Files, Asker, directories_at, target_on, with_directories_of, with_directory, with_path_table}
use Rattle.file_rules.specs.MakDir.{past_list}
use Rattle.file_rules.specs.Open.{begins_on, i_open, is_for_execution, may_open, opens_found, opens_kind, opens_on_route, says_directory, tests_mode}
use Rattle.file_rules.specs.Sharing.{is_not_shared}
use Rattle.file_rules.specs.Step.{FileStep, done, leaves, refuses}
use Rattle.file_rules.specs.Route.{Found, Route, along, to_device, nowhere, list_of, route_of}
use Rattle.lock_model.specs.declared.place.FilePlace.{FilePlace}
use Rattle.file_laws.specs.Kinds.{IsOfKind, IsOnTarget, IsOnItsKind, AreKinds}
use Rattle.file_laws.proofs.Counts.{stands-directories, stands-io}
use Rattle.file_laws.proofs.Kept.{directory_in, file_of}
use Rattle.file_laws.proofs.Paths.{on-begin, opens-leaves}
use Rattle.file_laws.proofs.Steps.{IsFound, Kept, KeptOn, io-kept, list-by, needs-by, on-leaves, on-refused, refused-kept, refuses-by, walks-kept}

pub of-not : (t : Bool) → not t ≡ false → t ≡ true
of-not true is = refl
of-not false is = absurd (false≢true (sym is))

-- a file that was found is of its kind
pub found-kind : (files : Files) (found : Found) → IsFound files found → (kind : Bool) → is_directory found.file ≡ kind → IsOfKind files found.place kind
found-kind files found is kind kind_is = record {
  file = found.file;
  there = ap (file_of found.place.number) is.mounted ∙ is.there;
  kind = kind_is;
}

module _ (asker : Asker) (files : Files) (kinds : AreKinds files) where
  -- a mode is tested before
  pub mode-kept : (allowed : Bool) (step : FileStep) → Kept asker files step → Kept asker files (tests_mode allowed step)
  mode-kept allowed step kept =
      refuses-by (Kept asker files) (refused-kept asker files kinds) (not allowed) E_BMODE step (λ test. kept)

  module _ (list : PathList) (found : Found) (is : IsFound files found) where
    abbrev drive : ℕ
    drive = found.place.drive

    abbrev On : FileStep → Type 0
    On step = KeptOn asker files found.place.drive step

    -- ---- I$Open

    -- a directory is opened without writing
    target-kind : may_open found.file asker.user asker.caller.regs.a ≡ true → IsOnItsKind files (new_desc (target_on found.file found.place) asker.caller.regs.a)
    target-kind may =
        by_kind (is_directory found.file) refl
        (and_parts (file_permits found.file asker.user asker.caller.regs.a) (opens_kind found.file asker.caller.regs.a) may).1
      where
        by_kind : (kind : Bool) → is_directory found.file ≡ kind → (if kind then says_directory asker.caller.regs.a &&
            not (can_write asker.caller.regs.a) else not (says_directory asker.caller.regs.a)) ≡ true
            → IsOnTarget files asker.caller.regs.a (if kind then Folder found.place.drive found.place.number else File found.place.drive found.place.number)
        by_kind true kind opens = (
          found-kind files found is true kind,
          not-true (can_write asker.caller.regs.a) (and_parts (says_directory asker.caller.regs.a) (not (can_write asker.caller.regs.a)) opens).1,
        )
        by_kind false kind opens = found-kind files found is false kind

    begins-kept : may_open found.file asker.user asker.caller.regs.a ≡ true → On (begins_on asker files list found)
    begins-kept may =
        needs-by (KeptOn asker files found.place.drive) (on-refused asker files kinds found.place.drive)
        (new_number files.io.paths asker.caller.process.0) E_PTHFUL
        (λ number. done (opened_regs asker.caller.regs list number)
        (with_path_table files (paths_after_begin files.io.paths asker.caller.process.0
        (new_desc (target_on found.file found.place) asker.caller.regs.a))))
        (λ number free. on-leaves asker files kinds found.place.drive
        (leaves (answers (opened_regs asker.caller.regs list number))
        (with_path_table files (paths_after_begin files.io.paths asker.caller.process.0
        (new_desc (target_on found.file found.place) asker.caller.regs.a))))
        (stands-io files kinds (with_paths files.io (paths_after_begin files.io.paths asker.caller.process.0 (new_desc (target_on found.file found.place) asker.caller.regs.a)))
        (on-begin files files.io.paths asker.caller.process.0 (new_desc (target_on found.file found.place) asker.caller.regs.a) kinds.paths (target-kind may))))

    opens-kept : On (opens_found asker files list found)
    opens-kept =
        refuses-by (KeptOn asker files found.place.drive) (on-refused asker files kinds found.place.drive)
        (not (may_open found.file asker.user asker.caller.regs.a)) E_FNA
        (refuses (is_not_shared files found asker.caller.regs.a) E_SHARE (begins_on asker files list found))
        (λ may. refuses-by (KeptOn asker files found.place.drive) (on-refused asker files kinds found.place.drive)
        (is_not_shared files found asker.caller.regs.a) E_SHARE (begins_on asker files list found)
        (λ shared. begins-kept (of-not (may_open found.file asker.user asker.caller.regs.a) may)))

    -- ---- I$ChgDir

    new-directory : is_directory found.file ≡ true → (changed : Bool) (execute : Bool) (place : FilePlace)
        → directory_in execute (with_directory (directories_at files asker.caller.process.0) changed found.place) ≡
        Some place → IsOfKind files place true
    new-directory kind true true place at =
        subst (λ (place : FilePlace). IsOfKind files place true) (same_Some found.place place at) (found-kind files found is true kind)
    new-directory kind true false place at = kinds.directories asker.caller.process.0 false place at
    new-directory kind false true place at = kinds.directories asker.caller.process.0 true place at
    new-directory kind false false place at =
        subst (λ (place : FilePlace). IsOfKind files place true) (same_Some found.place place at) (found-kind files found is true kind)

    goes-kept : On (goes_to asker files list found)
    goes-kept =
        refuses-by (KeptOn asker files found.place.drive) (on-refused asker files kinds found.place.drive)
        (not (may_go_to found.file asker.user asker.caller.regs.a)) E_FNA (done (past_list asker.caller.regs list)
        (with_directories_of files asker.caller.process.0
        (with_directory (directories_at files asker.caller.process.0) (is_for_execution asker.caller.regs.a)
        found.place)))
        (λ may. on-leaves asker files kinds found.place.drive (leaves (answers (past_list asker.caller.regs list))
        (with_directories_of files asker.caller.process.0
        (with_directory (directories_at files asker.caller.process.0) (is_for_execution asker.caller.regs.a)
        found.place)))
        (stands-directories files kinds asker.caller.process.0 (with_directory (directories_at files asker.caller.process.0) (is_for_execution asker.caller.regs.a) found.place)
        (new-directory (and_parts (is_directory found.file) (file_permits found.file asker.user asker.caller.regs.a)
        (of-not (may_go_to found.file asker.user asker.caller.regs.a) may)).0
        (is_for_execution asker.caller.regs.a))))

  open-way : (terms : ℕ) (list : PathList) (route : Route) → Kept asker files (opens_on_route asker files terms list route)
  open-way terms list (along place names) =
      walks-kept asker files kinds (is_for_execution asker.caller.regs.a) place names (opens_found asker files list) (λ found is. opens-kept list found is)
  open-way terms list to_device =
      io-kept asker files kinds (opens asker.caller files.io (length files.drives) terms)
      (opens-leaves files asker.caller files.io kinds.paths what_is_there (is_mode asker.caller.regs.a)
      (length files.drives) terms)
  open-way terms list (nowhere number) = refused-kept asker files kinds number

  pub open-kept : (terms : ℕ) → Kept asker files (i_open asker files terms)
  open-kept terms =
      list-by (Kept asker files) (refused-kept asker files kinds) (list_of asker)
      (tests_mode (is_mode asker.caller.regs.a)) (λ list. opens_on_route asker files terms list
      (route_of asker files terms (is_for_execution asker.caller.regs.a) list))
      (mode-kept (is_mode asker.caller.regs.a)) (λ list. open-way terms list (route_of asker files terms (is_for_execution asker.caller.regs.a) list))

  go-way : (list : PathList) (route : Route) → Kept asker files (goes_on_route asker files list route)
  go-way list (along place names) =
      walks-kept asker files kinds (is_for_execution asker.caller.regs.a) place names (goes_to asker files list) (λ found is. goes-kept list found is)
  go-way list to_device = refused-kept asker files kinds E_FNA
  go-way list (nowhere number) = refused-kept asker files kinds number

  pub chgdir-kept : (terms : ℕ) → Kept asker files (i_chgdir asker files terms)
  chgdir-kept terms =
      list-by (Kept asker files) (refused-kept asker files kinds) (list_of asker)
      (tests_mode (is_mode asker.caller.regs.a)) (λ list. goes_on_route asker files list
      (route_of asker files terms (is_for_execution asker.caller.regs.a) list))
      (mode-kept (is_mode asker.caller.regs.a)) (λ list. go-way list (route_of asker files terms (is_for_execution asker.caller.regs.a) list))
