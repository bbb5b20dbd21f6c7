-- I$Create and I$MakDir make a file of a number that no file has; I$Create begins a path on it.
use Rattle.std.proofs.Common.{◌≡◌, ℕ, ◌==◌, Bool, true, false, not, Some, List, length, min, refl, sym, ap, ◌∙◌, arith}
use Rattle.std.specs.Prelude.{bit_and, is_some, nat_lt, ◌&&◌}
use Rattle.std.specs.Int.{bit_at}
use Rattle.std.proofs.lemmas.Bool.{eqb-true}
use Rattle.std.proofs.lemmas.Nat.Bits.{bit_at_and}
use Rattle.os9_base.specs.declared.errors.TheConstants.{E_BPNAM, E_FNA, E_CEF, E_PTHFUL, E_FULL, E_SLF}
use Rattle.io_model.specs.Path.{new_number, paths_after_begin}
use Rattle.io_model.specs.declared.path.Target.TheVariants.{File}
use Rattle.rbf_model.specs.File.{DiskFile, is_directory}
use Rattle.rbf_model.specs.Volume.{DiskVolume}
use Rattle.rbf_model.specs.Walk.{look_up}
use Rattle.rbf_change.specs.Calls.{cluster_size, free_total}
use Rattle.rbf_change.specs.Names.{may_change}
use Rattle.rbf_change.specs.NewFiles.{Creates, directory_plan, entry_clusters, file_plan}
use Rattle.io_model.specs.Io.{new_desc, with_paths}
use Rattle.io_model.specs.Lead.{a_new_place}
use Rattle.io_model.specs.Modes.{can_write}
use Rattle.io_model.specs.Open.{i_create as opens_for_create}
use Rattle.io_model.specs.PathList.{PathList}
use Rattle.io_model.specs.Step.{answers}
use Rattle.file_rules.specs.Change.{creates, makes_directory}
use Rattle.file_rules.specs.Create.{clusters_for, creates_in, creates_on_route, creates_with_path, has_room_for, i_create, opens_new}
use Rattle.file_rules.specs.Files.{Files, Asker, volume_at, with_volume}
use Rattle.file_rules.specs.MakDir.{i_makdir, makes_in, makes_on_route, new_directory_size, past_list}
use Rattle.file_rules.specs.Open.{is_for_execution, says_directory, tests_mode}
use Rattle.file_rules.specs.Step.{FileStep, refused, comes, changes, leaves, refuses}
use Rattle.file_rules.specs.Route.{Found, Route, along, to_device, nowhere, before_last, last_of, list_of, walks, route_to_new}
use Rattle.file_laws.specs.Kinds.{IsOfKind, AreKinds}
use Rattle.file_laws.proofs.Counts.{many-io, many-same}
use Rattle.file_laws.proofs.Kept.{file_of, kinds-io, kinds-still, volume-new}
use Rattle.file_laws.proofs.Opening.{mode-kept}
use Rattle.file_laws.proofs.Paths.{on-begin, opens-leaves}
use Rattle.file_laws.proofs.Steps.{Kept, KeptOn, io-kept, list-by, needs-by, on-changes, on-refused, refused-kept, refuses-by, walks-kept}
use Rattle.file_laws.proofs.Volumes.{entered-still, entered-there, new-file-still}

-- attributes that do not say a directory are those of none
not-directory : (attributes : ℕ) → says_directory attributes ≡ false → (bit_at attributes 7 == 1) ≡ false
not-directory attributes says =
    let none : bit_and attributes 128 ≡ 0 = no_bits (bit_and attributes 128) says in
    let least : bit_at 0 7 ≡ min (bit_at attributes 7) (bit_at 128 7) = ap (λ (n : ℕ). bit_at n 7) (sym none) ∙ bit_at_and attributes 128 7 in
    let zero_bit : bit_at attributes 7 ≡ 0 = zero_of (bit_at attributes 7) least in
    ap (λ (bit : ℕ). bit == 1) zero_bit
  where
    no_bits : (n : ℕ) → not (n == 0) ≡ false → n ≡ 0
    no_bits n is = eqb-true n 0 (of_not (n == 0) is)
      where
        of_not : (t : Bool) → not t ≡ false → t ≡ true
        of_not true is = refl
        of_not false is = sym is

    zero_of : (bit : ℕ) → 0 ≡ min bit 1 → bit ≡ 0
    zero_of bit least = omega arith

module _ (asker : Asker) (files : Files) (kinds : AreKinds files) where
  none-kept : (number : ℕ) → Kept asker files (refused number)
  none-kept number = refused-kept asker files kinds number

  module _ (list : PathList) (dir : Found) where
    none-on : (number : ℕ) → KeptOn asker files dir.place.drive (refused number)
    none-on number = on-refused asker files kinds dir.place.drive number

    room-kept : (size : ℕ) (next : FileStep) → KeptOn asker files dir.place.drive next → KeptOn asker files dir.place.drive (has_room_for dir size next)
    room-kept size next kept =
        refuses-by (KeptOn asker files dir.place.drive) none-on (nat_lt (free_total dir.volume)
        (clusters_for dir size)) E_FULL (refuses (nat_lt 0 (entry_clusters (cluster_size dir.volume) dir.file) &&
        (length dir.file.segments == 48)) E_SLF next)
        (λ room. refuses-by (KeptOn asker files dir.place.drive) none-on (nat_lt 0 (entry_clusters (cluster_size dir.volume) dir.file) && (length dir.file.segments == 48)) E_SLF next (λ places. kept))

    -- ---- I$Create

    made-kinds : (name : List ℕ) (number : ℕ) → says_directory asker.caller.regs.b ≡ false → (was now : DiskVolume)
        (n : ℕ) → volume_at files dir.place.drive ≡ Some was → Creates was now dir.place.number n name
        asker.caller.regs.b asker.user asker.now
        → AreKinds (with_volume (opens_new asker files list dir.place.drive number n).files dir.place.drive now)
    made-kinds name number says was now n is it =
        kinds-io (with_volume files dir.place.drive now) changed (with_paths files.io (paths_after_begin files.io.paths asker.caller.process.0 (new_desc (File dir.place.drive n) asker.caller.regs.a)))
        (on-begin (with_volume files dir.place.drive now) files.io.paths asker.caller.process.0 (new_desc (File dir.place.drive n) asker.caller.regs.a) changed.paths new_file)
      where
        changed : AreKinds (with_volume files dir.place.drive now)
        changed =
            kinds-still files dir.place.drive was now is (entered-still was now dir.place.number n name
            (file_plan asker.caller.regs.b asker.user asker.now) (kinds.clusters dir.place.drive was is) it) kinds

        new_file : IsOfKind (with_volume files dir.place.drive now) (record { drive = dir.place.drive; number = n }) false
        new_file = record {
          file = it.both.file;
          there =
              ap (file_of n) (volume-new files dir.place.drive was now is) ∙ entered-there was now dir.place.number n name (file_plan asker.caller.regs.b asker.user asker.now) it;
          kind =
              ap (λ (file : DiskFile). is_directory file) it.both.made.is ∙ not-directory asker.caller.regs.b says;
        }

    with-path : (name : List ℕ) → says_directory asker.caller.regs.b ≡ false → KeptOn asker files dir.place.drive (creates_with_path asker files list name dir)
    with-path name says =
        needs-by (KeptOn asker files dir.place.drive) none-on (new_number files.io.paths asker.caller.process.0)
        E_PTHFUL (λ number. has_room_for dir 0
        (comes (changes (record {
          drive = dir.place.drive;
          change = creates dir.place.number name
              asker.caller.regs.b;
          effect = opens_new asker files list dir.place.drive number;
        }))))
        (λ number free. room-kept 0
        (comes (changes (record {
          drive = dir.place.drive;
          change = creates dir.place.number name
              asker.caller.regs.b;
          effect = opens_new asker files list dir.place.drive number;
        })))
        (on-changes asker files kinds (record { drive = dir.place.drive; change = creates dir.place.number name asker.caller.regs.b; effect = opens_new asker files list dir.place.drive number })
        (λ n. many-io files (with_paths files.io (paths_after_begin files.io.paths asker.caller.process.0 (new_desc (File dir.place.drive n) asker.caller.regs.a))))
        (λ was now n is it. made-kinds name number says was now n is it)
        (λ was left is it. kinds-still files dir.place.drive was left is (new-file-still was left dir.place.number name (λ n. file_plan asker.caller.regs.b asker.user asker.now) it) kinds)))

    create-in : (name : List ℕ) → KeptOn asker files dir.place.drive (creates_in asker files list name dir)
    create-in name =
        refuses-by (KeptOn asker files dir.place.drive) none-on
        (not (may_change dir.file asker.user (is_for_execution asker.caller.regs.a))) E_FNA
        (refuses (says_directory asker.caller.regs.b) E_FNA (refuses (is_some (look_up dir.file.contents name))
        E_CEF (creates_with_path asker files list name dir)))
        (λ may. refuses-by (KeptOn asker files dir.place.drive) none-on (says_directory asker.caller.regs.b) E_FNA
        (refuses (is_some (look_up dir.file.contents name)) E_CEF (creates_with_path asker files list name dir))
        (λ says. refuses-by (KeptOn asker files dir.place.drive) none-on (is_some (look_up dir.file.contents name)) E_CEF (creates_with_path asker files list name dir) (λ new. with-path name says)))

    -- ---- I$MakDir

    make-in : (name : List ℕ) → KeptOn asker files dir.place.drive (makes_in asker files list name dir)
    make-in name =
        refuses-by (KeptOn asker files dir.place.drive) none-on (not (may_change dir.file asker.user false)) E_FNA
        (refuses (is_some (look_up dir.file.contents name)) E_CEF (has_room_for dir new_directory_size
        (comes (changes (record {
          drive = dir.place.drive;
          change = makes_directory dir.place.number name
              asker.caller.regs.b;
          effect = λ n. leaves (answers (past_list asker.caller.regs list)) files;
        })))))
        (λ may. refuses-by (KeptOn asker files dir.place.drive) none-on (is_some (look_up dir.file.contents name))
        E_CEF (has_room_for dir new_directory_size
        (comes (changes (record {
          drive = dir.place.drive;
          change = makes_directory dir.place.number name
              asker.caller.regs.b;
          effect = λ n. leaves (answers (past_list asker.caller.regs list)) files;
        }))))
        (λ new. room-kept new_directory_size
        (comes (changes (record {
          drive = dir.place.drive;
          change = makes_directory dir.place.number name
              asker.caller.regs.b;
          effect = λ n. leaves (answers (past_list asker.caller.regs list)) files;
        })))
        (on-changes asker files kinds (record {
          drive = dir.place.drive;
          change = makes_directory dir.place.number
              name asker.caller.regs.b;
          effect = λ n. leaves (answers (past_list asker.caller.regs list)) files;
        })
        (λ n. many-same files)
        (λ was now n is it. kinds-still files dir.place.drive was now is (entered-still was now dir.place.number n
        name (directory_plan asker.caller.regs.b asker.user asker.now dir.place.number n)
        (kinds.clusters dir.place.drive was is) it) kinds)
        (λ was left is it. kinds-still files dir.place.drive was left is (new-file-still was left dir.place.number
        name (directory_plan asker.caller.regs.b asker.user asker.now dir.place.number) it) kinds))))

  create-way : (terms : ℕ) (list : PathList) (route : Route) → Kept asker files (creates_on_route asker files terms list route)
  create-way terms list (along place names) =
      needs-by (Kept asker files) none-kept (last_of names) E_BPNAM (λ name. walks asker files (is_for_execution asker.caller.regs.a) place (before_last names) (creates_in asker files list name))
      (λ name is. walks-kept asker files kinds (is_for_execution asker.caller.regs.a) place (before_last names) (creates_in asker files list name) (λ dir found. create-in list dir name))
  create-way terms list to_device =
      io-kept asker files kinds (opens_for_create asker.caller files.io (length files.drives) terms)
      (opens-leaves files asker.caller files.io kinds.paths a_new_place (can_write asker.caller.regs.a)
      (length files.drives) terms)
  create-way terms list (nowhere number) = none-kept number

  pub create-kept : (terms : ℕ) → Kept asker files (i_create asker files terms)
  create-kept terms =
      list-by (Kept asker files) none-kept (list_of asker) (tests_mode (can_write asker.caller.regs.a))
      (λ list. creates_on_route asker files terms list (route_to_new asker files terms
      (is_for_execution asker.caller.regs.a) list))
      (mode-kept asker files kinds (can_write asker.caller.regs.a)) (λ list. create-way terms list (route_to_new asker files terms (is_for_execution asker.caller.regs.a) list))

  make-way : (list : PathList) (route : Route) → Kept asker files (makes_on_route asker files list route)
  make-way list (along place names) =
      needs-by (Kept asker files) none-kept (last_of names) E_BPNAM (λ name. walks asker files false place (before_last names) (makes_in asker files list name))
      (λ name is. walks-kept asker files kinds false place (before_last names) (makes_in asker files list name) (λ dir found. make-in list dir name))
  make-way list to_device = none-kept E_FNA
  make-way list (nowhere number) = none-kept number

  pub makdir-kept : (terms : ℕ) → Kept asker files (i_makdir asker files terms)
  makdir-kept terms =
      list-by (Kept asker files) none-kept (list_of asker) (λ step. step) (λ list. makes_on_route asker files list (route_to_new asker files terms false list))
      (λ step kept. kept) (λ list. make-way list (route_to_new asker files terms false list))
