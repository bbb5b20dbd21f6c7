-- Without a mounted volume and a directory of the process, the calls that terminals and pipes have are theirs.
use Rattle.std.proofs.Common.{◌≡◌, ◌⊎◌, ℕ, ◌==◌, ◌&&◌, ◌||◌, Bool, true, false, Option, Some, None, Result, Ok, Err, List, length, refl, sym, ap, ◌∙◌, subst, inl, inr}
use Rattle.std.specs.Prelude.{MatchOption, option_and_then, option_map, slice_set, if◌then◌else◌}
use Rattle.std.specs.Option.{option_map_or}
use Rattle.std.proofs.lemmas.List.{set-get_or}
use Rattle.std.proofs.lemmas.Option.{none-some}
use Rattle.os9_base.specs.declared.errors.TheConstants.{E_BMODE, E_BPADDR, E_BPNAM, E_MNF, E_PNNF}
use Rattle.os9_base.specs.declared.registers.TimePacket.{TimePacket}
use Rattle.os9_outer.specs.TerminalState.{TerminalState}
use Rattle.os9_base.specs.declared.name_fault.NameFault.{NameFault}
use Rattle.os9_base.specs.declared.name_fault.NameFault.TheVariants.{Unreadable, NoName}
use Rattle.proc_model.specs.CallResult.{CallResult}
use Rattle.proc_model.specs.Processes.{Processes}
use Rattle.device_table.specs.Names.{device_of}
use Rattle.device_table.specs.declared.devices.Dev.{Dev}
use Rattle.device_table.specs.declared.devices.Dev.TheVariants.{Drive, Term, Pipe}
use Rattle.lock_model.specs.Locks.{request_of}
use Rattle.lock_model.specs.Records.{Records, with_waiting}
use Rattle.lock_model.specs.declared.lock.Request.{Request}
use Rattle.rbf_model.specs.Volume.{DiskVolume}
use Rattle.io_model.specs.Again.{path_number}
use Rattle.io_model.specs.Attempts.{HasIoEffect, IoAttempts, io_after, io_step, result_of}
use Rattle.io_model.specs.Io.{Io, OpenPath, open_path}
use Rattle.io_model.specs.Lead.{Lead, a_new_place, lead_by_device, lead_of, on_device, what_is_there, nowhere as leads_nowhere}
use Rattle.io_model.specs.Modes.{can_write, is_mode}
use Rattle.io_model.specs.Open.{i_create as creates_device, i_open as opens_device, opens_lead, reads_list as reads_device_list}
use Rattle.io_model.specs.PathList.{PathList, ends_in_dots, has_slash_behind_device}
use Rattle.io_model.specs.Step.{IoEnd, IoStep, answers, fails, keeps, refused as io_refused}
use Rattle.io_model.specs.declared.io_call.IoCall.{IoCall}
use Rattle.io_model.specs.declared.io_call.IoCall.TheVariants as Device
use Rattle.file_rules.specs.Attempts.{FileAttempts, asker_of, file_step, files_after, io_effect}
use Rattle.file_rules.specs.Create.{creates_on_route}
use Rattle.file_rules.specs.Files.{Files, Asker, directory_of, open_file, open_file_at, place_of_target, volume_at, with_io, with_records}
use Rattle.file_rules.specs.Locking.{records_after}
use Rattle.file_rules.specs.Open.{is_for_execution, opens_on_route, tests_mode}
use Rattle.file_rules.specs.Step.{FileEffect, FileStep, refused, comes, as_io, FileDoes, on_files, refuses_so, with_drives_after}
use Rattle.file_rules.specs.Route.{Route, is_drive, is_root, list_of, nowhere, reads_list, to_device, to_device_of, route_by, route_from, route_of, route_of_device, route_on_drive, route_to_new}
use Rattle.file_rules.specs.declared.path_call.PathCall.{PathCall}
use Rattle.file_rules.specs.declared.path_call.PathCall.TheVariants as Call
use Rattle.lock_model.specs.declared.place.FilePlace.{FilePlace}
use Rattle.file_laws.specs.Devices.{device_call, takes_number, HasNoFiles, DeviceAttempted, LocksStay}
use Rattle.file_laws.proofs.TouchNamed.{is-theirs, step-on-device}
use Rattle.file_laws.proofs.Requests.{forgets-again, over-requested}

-- ---- steps

-- a step is that of a call on terminals and pipes, or both are refused with the same number
abbrev pub Agrees : FileStep → IoStep → Type 0
Agrees step device =
    (step ≡ comes (as_io device)) ⊎ ((number : ℕ) × (step ≡ refused number) × (device ≡ io_refused number))

-- a list leads to a device, or both ways are refused with the same number
abbrev WayAgrees : Route → Lead → Type 0
WayAgrees route lead =
    (route ≡ to_device) ⊎ ((number : ℕ) × (route ≡ nowhere number) × (lead ≡ leads_nowhere number))

module _ (asker : Asker) (files : Files) (terms : ℕ) (bare : HasNoFiles files asker.caller.process.0) where
  -- ---- a number names no file

  no-file-at : (opened : OpenPath) (place : Option FilePlace) → option_and_then (open_file_at files opened) place ≡ None
  no-file-at opened None = refl
  no-file-at opened (Some place) =
      ap (option_and_then (λ (v : DiskVolume). option_map (λ file. record { opened = opened; place = place; volume = v; file = file }) (v.files place.number))) (bare.volumes place.drive)

  no-file : (number : ℕ) → open_file files asker.caller.process.0 number ≡ None
  no-file number = by_path (open_path files.io asker.caller.process.0 number)
    where
      by_path : (opened : Option OpenPath) → option_and_then (λ (opened : OpenPath). option_and_then (open_file_at files opened) (place_of_target opened.desc.target)) opened ≡ None
      by_path None = refl
      by_path (Some opened) = no-file-at opened (place_of_target opened.desc.target)

  -- ---- a path list

  module _ (execute : Bool) (list : PathList) where
    slash-agrees : (slash : Bool) (lead : Lead) → WayAgrees (if slash then nowhere E_BPNAM else to_device) (if slash then leads_nowhere E_BPNAM else lead)
    slash-agrees true lead = inr (E_BPNAM, refl, refl)
    slash-agrees false lead = inl refl

    device-agrees : (device : Option Dev) → WayAgrees (route_of_device files list device) (on_device what_is_there list device)
    device-agrees None = inr (E_MNF, refl, refl)
    device-agrees (Some (Drive drive)) = inr (E_MNF, ap (route_on_drive drive list.names) (bare.volumes drive), refl)
    device-agrees (Some (Term terminal)) = slash-agrees (has_slash_behind_device list) _
    device-agrees (Some Pipe) = slash-agrees (has_slash_behind_device list) _

    from-agrees : WayAgrees (route_from (directory_of files asker.caller.process.0 execute) list.names) (leads_nowhere E_PNNF)
    from-agrees = inr (E_PNNF, ap (λ (place : Option FilePlace). route_from place list.names) (bare.directories execute), refl)

    way-agrees : (device : Option (List ℕ)) → WayAgrees (route_by asker files terms execute list device) (lead_by_device what_is_there (length files.drives) terms list device)
    way-agrees None = from-agrees
    way-agrees (Some device) = device-agrees (device_of (length files.drives) terms device)

    -- nothing is made at a root
    root-agrees : (root : Bool) (drive : ℕ) → WayAgrees (if root && true then nowhere E_BPNAM else route_on_drive drive
        list.names (volume_at files drive)) (leads_nowhere (if root then E_BPNAM else E_MNF))
    root-agrees true drive = inr (E_BPNAM, refl, refl)
    root-agrees false drive = inr (E_MNF, ap (route_on_drive drive list.names) (bare.volumes drive), refl)

    no-root : (root : Bool) (route : Route) (lead : Lead) → WayAgrees route lead → WayAgrees (if root && false then nowhere E_BPNAM else route) lead
    no-root true route lead agrees = agrees
    no-root false route lead agrees = agrees

    new-device : (device : Option Dev) → WayAgrees (if (length list.names == 0) && is_drive device then nowhere E_BPNAM else route_of_device files list device) (on_device a_new_place list device)
    new-device None = no-root (length list.names == 0) (nowhere E_MNF) (leads_nowhere E_MNF) (inr (E_MNF, refl, refl))
    new-device (Some (Drive drive)) = root-agrees (length list.names == 0) drive
    new-device (Some (Term terminal)) =
        no-root (length list.names == 0) (to_device_of list) _ (slash-agrees (has_slash_behind_device list) _)
    new-device (Some Pipe) =
        no-root (length list.names == 0) (to_device_of list) _ (slash-agrees (has_slash_behind_device list) _)

    new-way : (device : Option (List ℕ)) → WayAgrees (if (length list.names == 0) && option_map_or
        (λ device. is_drive (device_of (length files.drives) terms device)) device false then nowhere E_BPNAM else
        route_by asker files terms execute list device) (lead_by_device a_new_place (length files.drives) terms list
        device)
    new-way None =
        no-root (length list.names == 0) (route_from (directory_of files asker.caller.process.0 execute) list.names) (leads_nowhere E_PNNF) from-agrees
    new-way (Some device) = new-device (device_of (length files.drives) terms device)

    new-agrees : WayAgrees (route_to_new asker files terms execute list) (lead_of a_new_place (length files.drives) terms list)
    new-agrees = by_dots (ends_in_dots list)
      where
        by_dots : (dots : Bool) → WayAgrees (if dots || is_root files terms list then nowhere E_BPNAM else route_of
            asker files terms execute list) (if dots then leads_nowhere E_BPNAM else lead_by_device a_new_place
            (length files.drives) terms list list.device)
        by_dots true = inr (E_BPNAM, refl, refl)
        by_dots false = new-way list.device

  -- ---- I$Open and I$Create

  -- the list that was read
  list-agrees : (whole : IoStep) (allowed : Bool) (next : PathList → FileStep) (lead : PathList → Lead)
      → ((list : PathList) → (next list ≡ comes (as_io whole)) ⊎ ((number : ℕ) × (next list ≡ refused number) ×
      (opens_lead asker.caller files.io list (lead list) ≡ io_refused number))) → (list : Result PathList NameFault)
      → reads_device_list list allowed (λ list. opens_lead asker.caller files.io list (lead list)) ≡ whole
      → Agrees (reads_list list (tests_mode allowed) next) whole
  list-agrees whole true next lead agrees (Ok list) is = by_list (agrees list)
    where
      by_list : (next list ≡ comes (as_io whole)) ⊎ ((number : ℕ) × (next list ≡ refused number) × (opens_lead asker.caller files.io list (lead list) ≡ io_refused number)) → Agrees (next list) whole
      by_list (inl same) = inl same
      by_list (inr (number, here, there)) = inr (number, here, sym is ∙ there)
  list-agrees whole false next lead agrees (Ok list) is = inr (E_BMODE, refl, sym is)
  list-agrees whole allowed next lead agrees (Err Unreadable) is = inr (E_BPADDR, refl, sym is)
  list-agrees whole true next lead agrees (Err NoName) is = inr (E_BPNAM, refl, sym is)
  list-agrees whole false next lead agrees (Err NoName) is = inr (E_BMODE, refl, sym is)

  open-agrees : Agrees (file_step Call.Open asker files terms) (opens_device asker.caller files.io (length files.drives) terms)
  open-agrees =
      list-agrees (opens_device asker.caller files.io (length files.drives) terms) (is_mode asker.caller.regs.a)
      (λ list. opens_on_route asker files terms list
      (route_of asker files terms (is_for_execution asker.caller.regs.a) list))
      (lead_of what_is_there (length files.drives) terms)
      (λ list. by_way list (route_of asker files terms (is_for_execution asker.caller.regs.a) list)
      (lead_of what_is_there (length files.drives) terms list) (way-agrees (is_for_execution asker.caller.regs.a)
      list list.device))
      (list_of asker) refl
    where
      by_way : (list : PathList) (route : Route) (lead : Lead) → WayAgrees route lead
          → (opens_on_route asker files terms list route ≡ comes
          (as_io (opens_device asker.caller files.io (length files.drives) terms))) ⊎
          ((number : ℕ) × (opens_on_route asker files terms list route ≡ refused number) ×
          (opens_lead asker.caller files.io list lead ≡ io_refused number))
      by_way list route lead (inl is) = inl (ap (opens_on_route asker files terms list) is)
      by_way list route lead (inr (number, here, there)) =
          inr (number, ap (opens_on_route asker files terms list) here, ap (opens_lead asker.caller files.io list) there)

  create-agrees : Agrees (file_step Call.Create asker files terms) (creates_device asker.caller files.io (length files.drives) terms)
  create-agrees =
      list-agrees (creates_device asker.caller files.io (length files.drives) terms) (can_write asker.caller.regs.a)
      (λ list. creates_on_route asker files terms list (route_to_new asker files terms
      (is_for_execution asker.caller.regs.a) list)) (lead_of a_new_place (length files.drives) terms)
      (λ list. by_way list (route_to_new asker files terms (is_for_execution asker.caller.regs.a) list)
      (lead_of a_new_place (length files.drives) terms list) (new-agrees (is_for_execution asker.caller.regs.a)
      list))
      (list_of asker) refl
    where
      by_way : (list : PathList) (route : Route) (lead : Lead) → WayAgrees route lead
          → (creates_on_route asker files terms list route ≡ comes
          (as_io (creates_device asker.caller files.io (length files.drives) terms))) ⊎
          ((number : ℕ) × (creates_on_route asker files terms list route ≡ refused number) ×
          (opens_lead asker.caller files.io list lead ≡ io_refused number))
      by_way list route lead (inl is) = inl (ap (creates_on_route asker files terms list) is)
      by_way list route lead (inr (number, here, there)) =
          inr (number, ap (creates_on_route asker files terms list) here, ap (opens_lead asker.caller files.io list) there)

  -- ---- each call

  abbrev IsTheirs : PathCall → IoCall → Type 0
  IsTheirs call device =
      Agrees (file_step call asker files terms) (io_step device asker.caller files.io (length files.drives) terms)

  named : (call : PathCall) (device : IoCall) → device_call call ≡ Some device → takes_number device ≡ true → IsTheirs call device
  named call device is takes =
      inl (is-theirs asker files terms call device is takes (no-file (path_number device asker.caller.regs)))

  theirs : (call : PathCall) → MatchOption (device_call call) (Unit {0}) (IsTheirs call)
  theirs Call.Dup = inl refl
  theirs Call.Create = create-agrees
  theirs Call.Open = open-agrees
  theirs Call.MakDir = tt
  theirs Call.ChgDir = tt
  theirs Call.Delete = tt
  theirs Call.DeletX = tt
  theirs Call.Seek = tt
  theirs Call.Read = named Call.Read Device.Read refl refl
  theirs Call.Write = named Call.Write Device.Write refl refl
  theirs Call.ReadLn = named Call.ReadLn Device.ReadLn refl refl
  theirs Call.WritLn = named Call.WritLn Device.WritLn refl refl
  theirs Call.GetStt = named Call.GetStt Device.GetStt refl refl
  theirs Call.SetStt = named Call.SetStt Device.SetStt refl refl
  theirs Call.Close = named Call.Close Device.Close refl refl
  theirs Call.PErr = named Call.PErr Device.PErr refl refl

  agrees-by : (call : PathCall) (device : IoCall) → device_call call ≡ Some device → IsTheirs call device
  agrees-by call device is =
      subst (λ (o : Option IoCall). MatchOption o (Unit {0}) (IsTheirs call)) is (theirs call)

-- ---- attempts

module _ (call : PathCall) (device : IoCall) (processes : Processes) (files : Files) (now : TimePacket) (p : ℕ) (result : CallResult) (is : device_call call ≡ Some device) where
  abbrev asker : Asker
  asker = asker_of processes p now

  -- both are refused
  refused-does : (number : ℕ) (effect : FileEffect) (old new : List TerminalState) → io_step device asker.caller
      files.io (length files.drives) (length old) ≡ io_refused number → FileDoes (refused number) asker files effect
      old new → DeviceAttempted call processes files p (result_of processes p (io_effect effect)) (files_after p effect) old new
  refused-does number effect old new device_is (inr (broken, same)) = absurd (none-some broken.drive broken.reached)
  refused-does number effect old new device_is (inl well) =
      subst (λ (effect : FileEffect). DeviceAttempted call processes files p (result_of processes p (io_effect effect)) (files_after p effect) old new)
      (sym (well.effect_is ∙ ap (λ (it : FileEffect). with_drives_after it well.drives) well.does.0))
      (record {
        device = device;
        device_is = is;
        attempted = record {
          effect = io_effect (refuses_so number files);
          does = subst (λ (step : IoStep). HasIoEffect step asker.caller files.io (io_effect (refuses_so number files)) old new) (sym device_is) (refl, well.does.1);
          result_is = refl;
          state = refl;
        };
        directories = refl;
        volumes = refl;
        none_failed = well.none_failed;
        requests =
            over-requested (fails number) p files (files_after p (with_drives_after (refuses_so number files) well.drives)) files.records refl (λ q differ. refl) refl;
        locks = LocksStay.stay refl;
      })

  -- a step that agrees with theirs is one of theirs
  pub agreed-attempt : (left : Files) (old new : List TerminalState)
      → Agrees (file_step call asker files (length old)) (io_step device asker.caller files.io (length files.drives)
      (length old)) → FileAttempts call processes files now p result left old new → DeviceAttempted call processes files p result
      left old new
  agreed-attempt left old new (inl step_is) it = step-on-device call device is processes files now p old new result left it step_is
  agreed-attempt left old new (inr (number, step_is, device_is)) it =
      subst (λ (result : CallResult). DeviceAttempted call processes files p result left old new) (sym it.result_is)
      (subst (λ (left : Files). DeviceAttempted call processes files p (result_of processes p (io_effect it.effect)) left old new) (sym it.state)
      (refused-does number it.effect old new device_is (subst (λ (step : FileStep). FileDoes step asker files it.effect old new) step_is it.does)))

  pub bare-attempt : (left : Files) (old new : List TerminalState) → HasNoFiles files p → FileAttempts call processes files now p result left old new
      → DeviceAttempted call processes files p result left old new
  bare-attempt left old new bare it = agreed-attempt left old new (agrees-by asker files (length old) bare call device is) it

  -- a process without a request has none to forget
  forgets-none : request_of files.records.locks p ≡ None → with_waiting files.records p None ≡ files.records
  forgets-none none =
      ap (λ (requests : List (Option Request)). record files.records { locks = record files.records.locks { requests = requests } })
      (ap (slice_set files.records.locks.requests p) (sym none) ∙ set-get_or files.records.locks.requests p None)

  quiet-records : (end : IoEnd) → request_of files.records.locks p ≡ None → records_after end (with_waiting files.records p None) p ≡ files.records
  quiet-records (answers regs) none = forgets-again p files.records ∙ forgets-none none
  quiet-records (fails number) none = forgets-again p files.records ∙ forgets-none none
  quiet-records (keeps kept) none = forgets-none none

  -- and back
  attempts-by : (left : Io) (old new : List TerminalState) (it : IoAttempts device processes files.io
      (length files.drives) p result left old new) → HasNoFiles files p
      → FileDoes (file_step call asker files (length old)) asker files (on_files p files it.effect) old new
      → FileAttempts call processes files now p result (with_io files left) old new
  attempts-by left old new it bare does = record {
    effect = on_files p files it.effect;
    does = does;
    result_is = it.result_is;
    state = ap (with_io files) it.state ∙ ap (with_records (with_io files (io_after p it.effect))) (sym (quiet-records it.effect.end bare.requests));
  }

  pub bare-back : (left : Io) (old new : List TerminalState) → HasNoFiles files p → IoAttempts device processes files.io
      (length files.drives) p result left old new → FileAttempts call processes files now p result (with_io files left)
      old new
  bare-back left old new bare it = by_step (agrees-by asker files (length old) bare call device is)
    where
      by_step : Agrees (file_step call asker files (length old)) (io_step device asker.caller files.io
          (length files.drives) (length old)) → FileAttempts call processes files now p result (with_io files left) old
          new
      by_step (inl step_is) =
          attempts-by left old new it bare
          (subst (λ (step : FileStep). FileDoes step asker files (on_files p files it.effect) old new) (sym step_is)
          (inl (record { it = on_files p files it.effect; does = (it.effect, it.does, refl); drives = files.drives; none_failed = refl; effect_is = refl })))
      by_step (inr (number, step_is, device_is)) =
          let does : HasIoEffect (io_refused number) asker.caller files.io it.effect old new = subst (λ (step : IoStep). HasIoEffect step asker.caller files.io it.effect old new) device_is it.does in
          attempts-by left old new it bare
          (subst (λ (step : FileStep). FileDoes step asker files (on_files p files it.effect) old new) (sym step_is)
          (inl (record {
            it = on_files p files it.effect;
            does = (
              ap (on_files p files) does.0 ∙ ap
                  (λ (records : Records). refuses_so number (with_records files records)) (forgets-none bare.requests),
              does.1,
            );
            drives = files.drives;
            none_failed = refl;
            effect_is = refl;
          })))
