-- Calls that are those of terminals and pipes: by the number of a path that is on no file, and by what a path list leads
-- to.
use Rattle.std.proofs.Common.{◌≡◌, ℕ, ◌||◌, Bool, true, false, Option, Some, None, List, length, refl, sym, ap, ◌∙◌, subst, inl, inr}
use Rattle.std.specs.Prelude.{MatchOption, option_and_then, if◌then◌else◌}
use Rattle.std.proofs.lemmas.Bool.{false≢true}
use Rattle.std.proofs.lemmas.Option.{none-some}
use Rattle.os9_base.specs.declared.errors.TheConstants.{E_BPNAM}
use Rattle.os9_base.specs.declared.registers.TimePacket.{TimePacket}
use Rattle.os9_outer.specs.TerminalState.{TerminalState}
use Rattle.proc_model.specs.CallResult.{CallResult}
use Rattle.proc_model.specs.Processes.{Processes, regs_at}
use Rattle.device_table.specs.Names.{device_of}
use Rattle.device_table.specs.declared.devices.Dev.{Dev}
use Rattle.device_table.specs.declared.devices.Dev.TheVariants.{Drive, Term, Pipe}
use Rattle.io_model.specs.Again.{path_number}
use Rattle.io_model.specs.Attempts.{io_step, result_of}
use Rattle.io_model.specs.Io.{OpenPath, open_path}
use Rattle.io_model.specs.Lead.{Lead, Search, a_new_place, lead_by_device, lead_of, on_device, what_is_there, to_terminal, to_pipe, nowhere as leads_nowhere}
use Rattle.io_model.specs.PathList.{PathList, ends_in_dots, has_slash_behind_device}
use Rattle.io_model.specs.Step.{IoStep}
use Rattle.io_model.specs.declared.io_call.IoCall.{IoCall}
use Rattle.rbf_model.specs.Volume.{DiskVolume}
use Rattle.file_rules.specs.Attempts.{FileAttempts, asker_of, file_step, files_after, io_effect}
use Rattle.file_rules.specs.Files.{Files, Asker, OpenFile, directory_of, open_file, open_file_at, place_of_target, volume_at}
use Rattle.file_rules.specs.OnFile.{by_kind}
use Rattle.file_rules.specs.Step.{FileEffect, FileStep, comes, as_io, FileDoes, with_drives_after}
use Rattle.file_rules.specs.Route.{along, is_root, nowhere, to_device, route_by, route_from, route_of, route_of_device, route_on_drive, route_to_new}
use Rattle.file_rules.specs.declared.path_call.PathCall.{PathCall}
use Rattle.file_rules.specs.declared.path_call.PathCall.TheVariants as Call
use Rattle.lock_model.specs.declared.place.FilePlace.{FilePlace}
use Rattle.file_laws.specs.Devices.{device_call, takes_number, IsDevice, DeviceAttempted, IsOnNoFile, LeadsToDevice}
use Rattle.file_laws.proofs.TouchAttempts.{on-device}

-- ---- by the number of a path

file-none : (o : Option OpenFile) (otherwise : IoStep) (next : OpenFile → FileStep) → o ≡ None → by_kind o otherwise next ≡ comes (as_io otherwise)
file-none o otherwise next is = ap (λ (o : Option OpenFile). by_kind o otherwise next) is

module _ (asker : Asker) (files : Files) (terms : ℕ) where
  -- a call is the one on terminals and pipes, where its number names no file
  abbrev IsTheirs : PathCall → IoCall → Type 0
  IsTheirs call device =
      takes_number device ≡ true → open_file files asker.caller.process.0 (path_number device asker.caller.regs) ≡
      None → file_step call asker files terms ≡ comes
      (as_io (io_step device asker.caller files.io (length files.drives) terms))

  theirs : (call : PathCall) → MatchOption (device_call call) (Unit {0}) (IsTheirs call)
  theirs Call.Dup = λ takes none. refl
  theirs Call.Create = λ takes none. absurd (false≢true takes)
  theirs Call.Open = λ takes none. absurd (false≢true takes)
  theirs Call.MakDir = tt
  theirs Call.ChgDir = tt
  theirs Call.Delete = tt
  theirs Call.DeletX = tt
  theirs Call.Seek = tt
  theirs Call.Read = λ takes none. file-none _ _ _ none
  theirs Call.Write = λ takes none. file-none _ _ _ none
  theirs Call.ReadLn = λ takes none. file-none _ _ _ none
  theirs Call.WritLn = λ takes none. file-none _ _ _ none
  theirs Call.GetStt = λ takes none. file-none _ _ _ none
  theirs Call.SetStt = λ takes none. file-none _ _ _ none
  theirs Call.Close = λ takes none. file-none _ _ _ none
  theirs Call.PErr = λ takes none. file-none _ _ _ none

  pub is-theirs : (call : PathCall) (device : IoCall) → device_call call ≡ Some device → IsTheirs call device
  is-theirs call device is =
      subst (λ (o : Option IoCall). MatchOption o (Unit {0}) (IsTheirs call)) is (theirs call)

  -- and it is on no file then
  abbrev IsOnNone : PathCall → IoCall → Type 0
  IsOnNone call device =
      takes_number device ≡ true → open_file files asker.caller.process.0 (path_number device asker.caller.regs) ≡ None → IsOnNoFile call asker files terms

  on-none : (call : PathCall) → MatchOption (device_call call) (Unit {0}) (IsOnNone call)
  on-none Call.Dup = λ takes none. tt
  on-none Call.Create = λ takes none. absurd (false≢true takes)
  on-none Call.Open = λ takes none. absurd (false≢true takes)
  on-none Call.MakDir = tt
  on-none Call.ChgDir = tt
  on-none Call.Delete = tt
  on-none Call.DeletX = tt
  on-none Call.Seek = tt
  on-none Call.Read = λ takes none. none
  on-none Call.Write = λ takes none. none
  on-none Call.ReadLn = λ takes none. none
  on-none Call.WritLn = λ takes none. none
  on-none Call.GetStt = λ takes none. none
  on-none Call.SetStt = λ takes none. none
  on-none Call.Close = λ takes none. tt
  on-none Call.PErr = λ takes none. none

  pub on-no-file : (call : PathCall) (device : IoCall) → device_call call ≡ Some device → IsOnNone call device
  on-no-file call device is =
      subst (λ (o : Option IoCall). MatchOption o (Unit {0}) (IsOnNone call)) is (on-none call)

-- an attempt of a step that is one of terminals and pipes
module _ (call : PathCall) (device : IoCall) (is : device_call call ≡ Some device) (processes : Processes) (files : Files) (now : TimePacket) (p : ℕ) (old new : List TerminalState) where
  pub device-does : (effect : FileEffect)
      → FileDoes (comes (as_io (io_step device (asker_of processes p now).caller files.io (length files.drives)
      (length old)))) (asker_of processes p now) files effect old new → DeviceAttempted call processes files p
      (result_of processes p (io_effect effect)) (files_after p effect) old new
  device-does effect (inl well) =
      let (it, does, left) = well.does in
      subst (λ (effect : FileEffect). DeviceAttempted call processes files p (result_of processes p (io_effect effect)) (files_after p effect) old new)
      (sym (well.effect_is ∙ ap (λ (it : FileEffect). with_drives_after it well.drives) left))
      (on-device call processes files now p old new (io_step device (asker_of processes p now).caller files.io
      (length files.drives) (length old)) it well.drives well.none_failed
      (record { device = device; device_is = is; is = refl }) does)
  device-does effect (inr (broken, same)) = absurd (none-some broken.drive broken.reached)

  pub step-on-device : (result : CallResult) (left : Files) → FileAttempts call processes files now p result left old new
      → file_step call (asker_of processes p now) files (length old) ≡ comes
      (as_io (io_step device (asker_of processes p now).caller files.io (length files.drives) (length old)))
      → DeviceAttempted call processes files p result left old new
  step-on-device result left it step_is =
      subst (λ (result : CallResult). DeviceAttempted call processes files p result left old new) (sym it.result_is)
      (subst (λ (left : Files). DeviceAttempted call processes files p (result_of processes p (io_effect it.effect)) left old new) (sym it.state)
      (device-does it.effect (subst (λ (step : FileStep). FileDoes step (asker_of processes p now) files it.effect old new) step_is it.does)))

  pub number-on-device : (result : CallResult) (left : Files) → FileAttempts call processes files now p result left old
      new → takes_number device ≡ true → open_file files p (path_number device (regs_at processes p)) ≡ None
      → DeviceAttempted call processes files p result left old new
  number-on-device result left it takes none =
      step-on-device result left it (is-theirs (asker_of processes p now) files (length old) call device is takes none)

-- a path on a terminal or a pipe is on no file
pub device-no-file : (files : Files) (p n : ℕ) (opened : OpenPath) → open_path files.io p n ≡ Some opened → IsDevice opened.desc.target → open_file files p n ≡ None
device-no-file files p n opened is device =
    ap (option_and_then (λ (opened : OpenPath). option_and_then (open_file_at files opened) (place_of_target opened.desc.target))) is
    ∙ ap (option_and_then (open_file_at files opened)) device

-- ---- by a path list

nowhere-device : (number : ℕ) → nowhere number ≡ to_device → ⊥
nowhere-device number is = cc

along-device : (from : FilePlace) (names : List (List ℕ)) → along from names ≡ to_device → ⊥
along-device from names is = cc

module _ (asker : Asker) (files : Files) (terms : ℕ) (execute : Bool) (list : PathList) where
  slash-leads : (slash : Bool) (lead : Lead) → LeadsToDevice lead → (if slash then nowhere E_BPNAM else to_device) ≡ to_device → LeadsToDevice (if slash then leads_nowhere E_BPNAM else lead)
  slash-leads true lead leads is = absurd (nowhere-device E_BPNAM is)
  slash-leads false lead leads is = leads

  device-leads : (search : Search) (device : Option Dev) → route_of_device files list device ≡ to_device → LeadsToDevice (on_device search list device)
  device-leads search None is = absurd (nowhere-device _ is)
  device-leads search (Some (Drive drive)) is = absurd (on_drive (volume_at files drive) is)
    where
      on_drive : (v : Option DiskVolume) → route_on_drive drive list.names v ≡ to_device → ⊥
      on_drive None is = nowhere-device _ is
      on_drive (Some v) is = along-device _ list.names is
  device-leads search (Some (Term terminal)) is = slash-leads (has_slash_behind_device list) (to_terminal terminal) tt is
  device-leads search (Some Pipe) is = slash-leads (has_slash_behind_device list) to_pipe tt is

  way-leads : (search : Search) (device : Option (List ℕ)) → route_by asker files terms execute list device ≡ to_device → LeadsToDevice (lead_by_device search (length files.drives) terms list device)
  way-leads search None is = absurd (from (directory_of files asker.caller.process.0 execute) is)
    where
      from : (place : Option FilePlace) → route_from place list.names ≡ to_device → ⊥
      from None is = nowhere-device _ is
      from (Some place) is = along-device place list.names is
  way-leads search (Some device) is = device-leads search (device_of (length files.drives) terms device) is

  pub open-leads : route_of asker files terms execute list ≡ to_device → LeadsToDevice (lead_of what_is_there (length files.drives) terms list)
  open-leads is = way-leads what_is_there list.device is

  pub create-leads : route_to_new asker files terms execute list ≡ to_device → LeadsToDevice (lead_of a_new_place (length files.drives) terms list)
  create-leads is = by_dots (ends_in_dots list) (is_root files terms list) is
    where
      by_dots : (dots root : Bool) → (if dots || root then nowhere E_BPNAM else route_of asker files terms execute list)
          ≡ to_device → LeadsToDevice (if dots then leads_nowhere E_BPNAM else lead_by_device a_new_place
          (length files.drives) terms list list.device)
      by_dots true root is = absurd (nowhere-device E_BPNAM is)
      by_dots false true is = absurd (nowhere-device E_BPNAM is)
      by_dots false false is = way-leads a_new_place list.device is
