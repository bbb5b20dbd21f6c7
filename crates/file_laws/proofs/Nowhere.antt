-- Why a path list leads nowhere.
use Rattle.std.proofs.Common.{◌≡◌, ℕ, ◌||◌, Bool, true, false, Option, Some, None, List, length, refl, ap}
use Rattle.std.specs.Prelude.{IsSome, is_some, option_and_then, if◌then◌else◌}
use Rattle.os9_base.specs.declared.errors.TheConstants.{E_BPNAM, E_MNF, E_PNNF}
use Rattle.device_table.specs.Names.{device_of}
use Rattle.device_table.specs.declared.devices.Dev.{Dev}
use Rattle.device_table.specs.declared.devices.Dev.TheVariants.{Drive, Term, Pipe}
use Rattle.rbf_model.specs.Volume.{DiskVolume}
use Rattle.io_model.specs.PathList.{PathList, ends_in_dots, has_slash_behind_device}
use Rattle.file_rules.specs.Files.{directory_of, volume_at}
use Rattle.file_rules.specs.Route.{along, is_root, nowhere, to_device, route_by, route_from, route_of, route_of_device, route_on_drive, route_to_new}
use Rattle.lock_model.specs.declared.place.FilePlace.{FilePlace}
use Rattle.file_laws.specs.Causes.{FileCause, IsNoDrive, ListHasRoute, LeadsNowhere, device_in, dots, executes, leads_nowhere, makes_new, no_device, no_directory, not_mounted, root, slash}
use Rattle.file_laws.specs.Claims.{MadePathCall}

same-nowhere : (n m : ℕ) → nowhere n ≡ nowhere m → m ≡ n
same-nowhere n m is = cc

along-nowhere : (place : FilePlace) (names : List (List ℕ)) (number : ℕ) → along place names ≡ nowhere number → ⊥
along-nowhere place names number is = cc

device-nowhere : (number : ℕ) → to_device ≡ nowhere number → ⊥
device-nowhere number is = cc

module _ (m : MadePathCall) (list : PathList) (number : ℕ) where
  abbrev Why : Type 0
  Why = LeadsNowhere m list number

  by-slash : (device : Dev) → device_in m list ≡ Some device → IsNoDrive device → (behind : Bool)
      → has_slash_behind_device list ≡ behind → (if behind then nowhere E_BPNAM else to_device) ≡ nowhere number → Why
  by-slash device at none true behind is = slash device (same-nowhere E_BPNAM number is) at none behind
  by-slash device at none false behind is = absurd (device-nowhere number is)

  by-drive : (drive : ℕ) → device_in m list ≡ Some (Drive drive) → (v : Option DiskVolume) → volume_at m.files drive ≡ v → route_on_drive drive list.names v ≡ nowhere number → Why
  by-drive drive at None mounted is = not_mounted drive (same-nowhere E_MNF number is) at mounted
  by-drive drive at (Some v) mounted is = absurd (along-nowhere _ list.names number is)

  by-device : IsSome list.device → (device : Option Dev) → device_in m list ≡ device → route_of_device m.files list device ≡ nowhere number → Why
  by-device some None at is = no_device (same-nowhere E_MNF number is) some at
  by-device some (Some (Drive drive)) at is = by-drive drive at (volume_at m.files drive) refl is
  by-device some (Some (Term terminal)) at is = by-slash (Term terminal) at tt (has_slash_behind_device list) refl is
  by-device some (Some Pipe) at is = by-slash Pipe at tt (has_slash_behind_device list) refl is

  by-directory : list.device ≡ None → (place : Option FilePlace) → directory_of m.files m.asker.caller.process.0
      (executes m.call m.asker.caller.regs.a) ≡ place → route_from place list.names ≡ nowhere number → Why
  by-directory none None at is = no_directory (same-nowhere E_PNNF number is) none at
  by-directory none (Some place) at is = absurd (along-nowhere place list.names number is)

  by-name : (device : Option (List ℕ)) → list.device ≡ device → route_by m.asker m.files m.terms (executes m.call m.asker.caller.regs.a) list device ≡ nowhere number → Why
  by-name None named is =
      by-directory named (directory_of m.files m.asker.caller.process.0 (executes m.call m.asker.caller.regs.a)) refl is
  by-name (Some device) named is =
      by-device (ap (λ (o : Option (List ℕ)). is_some o) named) (device_of (length m.files.drives) m.terms device)
      (ap (option_and_then (device_of (length m.files.drives) m.terms)) named) is

  by-new : makes_new m.call ≡ true → (in_dots at_root : Bool) → ends_in_dots list ≡ in_dots → is_root m.files m.terms
      list ≡ at_root → (if in_dots || at_root then nowhere E_BPNAM else route_of m.asker m.files m.terms
      (executes m.call m.asker.caller.regs.a) list) ≡ nowhere number → Why
  by-new makes true at_root a b is = dots (same-nowhere E_BPNAM number is) makes a
  by-new makes false true a b is = root (same-nowhere E_BPNAM number is) makes b
  by-new makes false false a b is = by-name list.device refl is

  by-call : (makes : Bool) → makes_new m.call ≡ makes → (if makes then route_to_new m.asker m.files m.terms
      (executes m.call m.asker.caller.regs.a) list else route_of m.asker m.files m.terms
      (executes m.call m.asker.caller.regs.a) list) ≡ nowhere number → Why
  by-call true makes is = by-new makes (ends_in_dots list) (is_root m.files m.terms list) refl refl is
  by-call false makes is = by-name list.device refl is

pub nowhere-why : (m : MadePathCall) (number : ℕ) (leads : ListHasRoute m (nowhere number)) → LeadsNowhere m leads.list number
nowhere-why m number leads = by-call m leads.list number (makes_new m.call) refl leads.is

pub nowhere-caused : (m : MadePathCall) (number : ℕ) → ListHasRoute m (nowhere number) → FileCause m number
nowhere-caused m number leads =
    leads_nowhere leads.list leads.reads leads.read (nowhere-why m number leads)
