-- An attempt to make a file or a directory has an end in which no drive fails.
use Rattle.std.proofs.Common.{◌≡◌, ℕ, ◌≤◌, ◌==◌, not, Bool, false, Some, is_some, List, length, refl, ◌∙◌, inl, arith, length-append}
use Rattle.std.specs.Prelude.{◌&&◌, nat_lt}
use Rattle.std.proofs.lemmas.Bool.{ltb-false}
use Rattle.os9_base.specs.declared.errors.TheConstants.{E_BMODE, E_BPNAM, E_CEF, E_FNA, E_FULL, E_MNF, E_PNNF, E_PTHFUL, E_SLF}
use Rattle.os9_outer.specs.TerminalState.{TerminalState, fault_counts}
use Rattle.rbf_model.specs.Tree.{dot, dot_dot}
use Rattle.rbf_model.specs.Volume.{DiskVolume}
use Rattle.rbf_model.specs.Walk.{WalkEnd, arrives, look_up, not_allowed, not_found, walk}
use Rattle.rbf_change.specs.Calls.{cluster_size, free_total, replaced}
use Rattle.rbf_change.specs.Names.{may_change, new_entry, new_listing}
use Rattle.rbf_change.specs.NewFiles.{IsFileEntered, Plan, directory_plan, entry_clusters, file_plan}
use Rattle.io_model.specs.Path.{new_number}
use Rattle.io_model.specs.Attempts.{io_step}
use Rattle.io_model.specs.Modes.{can_write}
use Rattle.io_model.specs.PathList.{PathList}
use Rattle.io_model.specs.Step.{answers}
use Rattle.io_model.specs.declared.io_call.IoCall.TheVariants as Device
use Rattle.file_rules.specs.Attempts.{file_step}
use Rattle.file_rules.specs.Change.{creates, makes_directory}
use Rattle.file_rules.specs.Create.{clusters_for, creates_in, creates_on_device, creates_on_route, creates_with_path, has_room_for, opens_new}
use Rattle.file_rules.specs.Files.{Asker, Files, KeepsDriveFaults, volume_at}
use Rattle.file_rules.specs.MakDir.{makes_in, makes_on_route, new_directory_size, past_list}
use Rattle.file_rules.specs.Open.{is_for_execution, says_directory, tests_mode}
use Rattle.file_rules.specs.Step.{Deed, DoesDeed, FileDoes, FileEffect, FileStep, VolumeChange, changes, comes, deed_of, leaves, on_files, reaches, refused, refuses, refuses_so, with_drives_after, with_volume_after}
use Rattle.file_rules.specs.Route.{Found, Route, along, before_last, last_of, list_of, nowhere, to_device, walk_ends, walks, route_to_new}
use Rattle.file_rules.specs.declared.path_call.PathCall.TheVariants as Call
use Rattle.lock_model.specs.declared.place.FilePlace.{FilePlace}
use Rattle.file_laws.specs.Kinds.{AreKinds}
use Rattle.file_laws.proofs.Steps.{IsFound, needs-by, refuses-by}
use Rattle.file_laws.proofs.Splits.{list-by}
use Rattle.call_laws.specs.Terminals.{AreOnTerminals}
use Rattle.call_laws.proofs.StepWalk.{step-gives}
use Rattle.run_laws.specs.Mounted.{MountsAreSound}
use Rattle.run_laws.proofs.Changing.{SomeChange}
use Rattle.run_laws.proofs.SomeEffects.{call-there, some-effect}
use Rattle.run_laws.specs.InOrder.{AreInOrder}
use Rattle.run_laws.proofs.Entering.{length-entry, some-entered}
use Rattle.run_laws.proofs.Names.{WayShort, last-short, read-short, way-short}

-- the two entries of a new directory
length-listing : (n d : ℕ) → length (new_listing n d) ≡ new_directory_size
length-listing n d =
    let two : length dot_dot ≡ 2 = refl in
    let one : length dot ≡ 1 = refl in
    let parent = length-entry dot_dot d (omega (arith, two)) in
    let self = length-entry dot n (omega (arith, one)) in
    length-append (new_entry dot_dot d) (new_entry dot n) ∙ omega (arith, parent, self)

module _ (asker : Asker) (files : Files) (terms : List TerminalState) where
  -- what an attempt comes to, without a failure of a device
  pub record Goes (step : FileStep) : Type 0 where
    pub effect : FileEffect
    pub after : List TerminalState
    pub does : FileDoes step asker files effect terms after
    pub counts : fault_counts after ≡ fault_counts terms
    pub stays : KeepsDriveFaults files.drives effect.files.drives

  -- a deed that is done so
  record SomeDeed (deed : Deed) : Type 0 where
    pub it : FileEffect
    pub after : List TerminalState
    pub does : DoesDeed deed asker files it terms after
    pub counts : fault_counts after ≡ fault_counts terms

  abbrev D : FileStep → Type 0
  D step = SomeDeed (deed_of step files)

  goes : (step : FileStep) → D step → Goes step
  goes step deed = record {
    effect = with_drives_after deed.it files.drives;
    after = deed.after;
    does = inl (record { it = deed.it; does = deed.does; drives = files.drives; none_failed = refl; effect_is = refl });
    counts = deed.counts;
    stays = refl;
  }

  no : (number : ℕ) → D (refused number)
  no number = record { it = refuses_so number files; after = terms; does = (refl, refl); counts = refl }

  change-deed : (it : VolumeChange) → SomeChange it asker files → D (comes (changes it))
  change-deed it (effect, is) = record { it = effect; after = terms; does = (is, refl); counts = refl }

  mode-deed : (allowed : Bool) (step : FileStep) → D step → D (tests_mode allowed step)
  mode-deed allowed step it = refuses-by D no (not allowed) E_BMODE step (λ is. it)

  walks-deed : (execute : Bool) (place : FilePlace) (names : List (List ℕ)) (next : Found → FileStep) → ((found : Found) → IsFound files found → D (next found))
      → D (walks asker files execute place names next)
  walks-deed execute place names next holds =
      needs-by D no (volume_at files place.drive) E_MNF (λ v. reaches place.drive (walk_ends place.drive v (walk v.files asker.user execute place.number names) next))
      (λ v is. by_end v is (walk v.files asker.user execute place.number names))
    where
      by_end : (v : DiskVolume) → volume_at files place.drive ≡ Some v → (end : WalkEnd) → D (walk_ends place.drive v end next)
      by_end v is (arrives n) =
          needs-by D no (v.files n) E_PNNF (λ file. next (record { place = record { drive = place.drive; number = n }; volume = v; file = file }))
          (λ file there. holds (record { place = record { drive = place.drive; number = n }; volume = v; file = file }) (record { mounted = is; there = there }))
      by_end v is not_allowed = no E_FNA
      by_end v is not_found = no E_PNNF

  module _ (on : AreOnTerminals (length terms) files.io.paths) where
    -- a terminal or a pipe is opened
    device-deed : D (creates_on_device asker files (length terms))
    device-deed =
        let step = io_step Device.Create asker.caller files.io (length files.drives) (length terms) in
        let gives = step-gives Device.Create (λ new. Unit {0}) asker.caller files.io (length files.drives) (length terms)
        (record { same = tt; pipes = λ pipes. tt; dup = tt; close = tt; on_terminal = λ terminal within. tt; on_pipe = λ pipe free. tt }) in
        let it = some-effect step asker.caller files.io terms (call-there Device.Create asker.caller files.io (length terms) step on gives) in
        record {
          it = on_files asker.caller.process.0 files it.effect;
          after = it.after;
          does = (it.effect, it.does, refl);
          counts = it.counts;
        }

  module _ (kinds : AreKinds files) (mounted : MountsAreSound files) (order : AreInOrder files) where
    module _ (list : PathList) (name : List ℕ) (short : length name ≤ 29) (found : Found) (there : IsFound files found) where
      -- so many clusters are free, and the directory's list has a place
      abbrev HasRoom : ℕ → Type 0
      HasRoom size = nat_lt (free_total found.volume) (clusters_for found size) ≡ false

      abbrev Fits : Type 0
      Fits = (nat_lt 0 (entry_clusters (cluster_size found.volume) found.file) && (length found.file.segments == 48)) ≡ false

      room-deed : (size : ℕ) (next : FileStep) → (HasRoom size → Fits → D next) → D (has_room_for found size next)
      room-deed size next holds =
          refuses-by D no (nat_lt (free_total found.volume) (clusters_for found size)) E_FULL
          (refuses (nat_lt 0 (entry_clusters (cluster_size found.volume) found.file) && (length found.file.segments == 48)) E_SLF next)
          (λ room. refuses-by D no (nat_lt 0 (entry_clusters (cluster_size found.volume) found.file) && (length found.file.segments == 48)) E_SLF next (λ fits. holds room fits))

      entered : (plan : ℕ → Plan) (size : ℕ) → ((n : ℕ) → length (plan n).contents ≡ size) → size ≤ 256 → HasRoom size → Fits → (n : ℕ) × IsFileEntered found.volume found.place.number n name (plan n)
      entered plan size long small room fits =
          some-entered found.volume (order found.place.drive found.volume there.mounted) (mounted.numbers found.place.drive found.volume there.mounted)
          (kinds.clusters found.place.drive found.volume there.mounted) plan size long small found.place.number found.file there.there name short
          (ltb-false (free_total found.volume) (clusters_for found size) room) fits

      -- the volume with a new file
      abbrev after-entry : (plan : Plan) (n : ℕ) → IsFileEntered found.volume found.place.number n name plan → DiskVolume
      after-entry plan n both =
          replaced (replaced found.volume found.place.number (Some both.new)) n (Some both.file)

      abbrev new-file : ℕ → VolumeChange
      new-file number = record {
        drive = found.place.drive;
        change = creates found.place.number name asker.caller.regs.b;
        effect = opens_new asker files list found.place.drive number;
      }

      create-change : (number : ℕ) → HasRoom 0 → Fits → SomeChange (new-file number) asker files
      create-change number room fits =
          let plan : Plan = file_plan asker.caller.regs.b asker.user asker.now in
          let it = entered (λ n. plan) 0 (λ n. refl) (omega arith) room fits in (
            with_volume_after (opens_new asker files list found.place.drive number it.0) found.place.drive (after-entry plan it.0 it.1),
            inl (record {
              old = found.volume;
              is = there.mounted;
              new = after-entry plan it.0 it.1;
              number = it.0;
              makes = record { both = it.1; volume = refl };
              effect_is = refl;
            }),
          )

      create-deed : D (creates_in asker files list name found)
      create-deed =
          refuses-by D no (not (may_change found.file asker.user (is_for_execution asker.caller.regs.a))) E_FNA
          (refuses (says_directory asker.caller.regs.b) E_FNA (refuses (is_some (look_up found.file.contents name)) E_CEF (creates_with_path asker files list name found)))
          (λ may. refuses-by D no (says_directory asker.caller.regs.b) E_FNA (refuses (is_some (look_up found.file.contents name)) E_CEF (creates_with_path asker files list name found))
          (λ plain. refuses-by D no (is_some (look_up found.file.contents name)) E_CEF (creates_with_path asker files list name found)
          (λ new. needs-by D no (new_number files.io.paths asker.caller.process.0) E_PTHFUL (λ number. has_room_for found 0 (comes (changes (new-file number))))
          (λ number free. room-deed 0 (comes (changes (new-file number))) (λ room fits. change-deed (new-file number) (create-change number room fits))))))

      abbrev new-directory : VolumeChange
      new-directory = record {
        drive = found.place.drive;
        change = makes_directory found.place.number name asker.caller.regs.b;
        effect = λ n. leaves (answers (past_list asker.caller.regs list)) files;
      }

      make-change : HasRoom new_directory_size → Fits → SomeChange new-directory asker files
      make-change room fits =
          let plan : ℕ → Plan = directory_plan asker.caller.regs.b asker.user asker.now found.place.number in
          let it = entered plan new_directory_size (λ n. length-listing n found.place.number) (omega arith) room fits in (
            with_volume_after (leaves (answers (past_list asker.caller.regs list)) files) found.place.drive (after-entry (plan it.0) it.0 it.1),
            inl (record {
              old = found.volume;
              is = there.mounted;
              new = after-entry (plan it.0) it.0 it.1;
              number = it.0;
              makes = record { both = it.1; volume = refl };
              effect_is = refl;
            }),
          )

      make-deed : D (makes_in asker files list name found)
      make-deed =
          refuses-by D no (not (may_change found.file asker.user false)) E_FNA
          (refuses (is_some (look_up found.file.contents name)) E_CEF (has_room_for found new_directory_size (comes (changes new-directory))))
          (λ may. refuses-by D no (is_some (look_up found.file.contents name)) E_CEF (has_room_for found new_directory_size (comes (changes new-directory)))
          (λ new. room-deed new_directory_size (comes (changes new-directory)) (λ room fits. change-deed new-directory (make-change room fits))))

    create-way : AreOnTerminals (length terms) files.io.paths → (list : PathList) (route : Route) → WayShort route → D (creates_on_route asker files (length terms) list route)
    create-way on list (along from names) short =
        needs-by D no (last_of names) E_BPNAM (λ name. walks asker files (is_for_execution asker.caller.regs.a) from (before_last names) (creates_in asker files list name))
        (λ name is. walks-deed (is_for_execution asker.caller.regs.a) from (before_last names) (creates_in asker files list name)
        (λ found there. create-deed list name (last-short names name short is) found there))
    create-way on list to_device short = device-deed on
    create-way on list (nowhere number) short = no number

    make-way : (list : PathList) (route : Route) → WayShort route → D (makes_on_route asker files list route)
    make-way list (along from names) short =
        needs-by D no (last_of names) E_BPNAM (λ name. walks asker files false from (before_last names) (makes_in asker files list name))
        (λ name is. walks-deed false from (before_last names) (makes_in asker files list name) (λ found there. make-deed list name (last-short names name short is) found there))
    make-way list to_device short = no E_FNA
    make-way list (nowhere number) short = no number

    pub create-goes : AreOnTerminals (length terms) files.io.paths → Goes (file_step Call.Create asker files (length terms))
    create-goes on =
        goes (file_step Call.Create asker files (length terms))
        (list-by D no (list_of asker) (tests_mode (can_write asker.caller.regs.a))
        (λ list. creates_on_route asker files (length terms) list (route_to_new asker files (length terms) (is_for_execution asker.caller.regs.a) list))
        (mode-deed (can_write asker.caller.regs.a))
        (λ list is. create-way on list (route_to_new asker files (length terms) (is_for_execution asker.caller.regs.a) list)
        (way-short asker files (length terms) (is_for_execution asker.caller.regs.a) list (read-short asker list is))))

    pub makdir-goes : Goes (file_step Call.MakDir asker files (length terms))
    makdir-goes =
        goes (file_step Call.MakDir asker files (length terms))
        (list-by D no (list_of asker) (λ step. step) (λ list. makes_on_route asker files list (route_to_new asker files (length terms) false list))
        (λ step holds. holds)
        (λ list is. make-way list (route_to_new asker files (length terms) false list) (way-short asker files (length terms) false list (read-short asker list is))))
