-- The laws, as they speak of an attempt.
use Rattle.std.proofs.Common.{◌≡◌, ◌⊎◌, ℕ, Option, Some, None, length, sym, ap, ◌∙◌, subst, refl}
use Rattle.std.specs.Prelude.{IsSome}
use Rattle.std.proofs.lemmas.Bool.{false≢true}
use Rattle.io_model.specs.Again.{path_number}
use Rattle.io_model.specs.Io.{OpenPath, pending_at, open_path}
use Rattle.io_model.specs.PathList.{PathList}
use Rattle.io_model.specs.declared.io_call.IoCall.TheVariants as Device
use Rattle.file_rules.specs.Attempts.{FileAttempts}
use Rattle.file_rules.specs.Files.{open_file}
use Rattle.file_rules.specs.Route.{to_device}
use Rattle.file_rules.specs.declared.path_call.PathCall.{PathCall}
use Rattle.file_rules.specs.declared.path_call.PathCall.TheVariants as Call
use Rattle.file_laws.specs.Attempt.{Attempt, HasList, IsAsOnDevice, IsOnNumber, IsWithoutFiles, OnDevice, TouchesNone, AttemptWaits, WaitsOnRecord, asker_in, regs_in, route_to_create, route_to_open}
use Rattle.file_laws.specs.Devices.{IsDevice, DeviceAttempted, IsOnNoFile, device_call}
use Rattle.file_laws.proofs.TouchAttempts.{attempt-splits}
use Rattle.file_laws.proofs.Bare.{agreed-attempt, bare-attempt}
use Rattle.file_laws.proofs.Lists.{create-agrees, open-agrees}
use Rattle.file_laws.proofs.TouchNamed.{device-no-file, number-on-device, on-no-file}
use Rattle.file_laws.proofs.Waiting.{file-waits}

some-of : {A : Type 0} (o : Option A) → IsSome o → (a : A) × (o ≡ Some a)
some-of None some = absurd (false≢true some)
some-of (Some a) some = (a, refl)

module _ (it : Attempt) where
  pub comes-of : OnDevice it ⊎ TouchesNone it ⊎ WaitsOnRecord it
  comes-of = attempt-splits it.call it.processes it.files it.now it.process it.result it.new it.before it.after it.attempted

  pub number-of : (n : ℕ) → IsOnNumber it n → open_file it.files it.process n ≡ None → OnDevice it
  number-of n on none =
      let named : open_file it.files it.process (path_number on.device (regs_in it)) ≡ None = ap (open_file it.files it.process) on.named ∙ none in (
        number-on-device it.call on.device on.device_is it.processes it.files it.now it.process it.before it.after it.result it.new it.attempted on.takes named,
        on-no-file (asker_in it) it.files (length it.before) it.call on.device on.device_is on.takes named,
      )

  pub again-of : (n : ℕ) (opened : OpenPath) → IsOnNumber it n → open_path it.files.io it.process n ≡ Some opened → IsDevice opened.desc.target → OnDevice it
  again-of n opened on is device = number-of n on (device-no-file it.files it.process n opened is device)

  pub waits-of : IsSome (pending_at it.new.io it.process) → AttemptWaits it ⊎ WaitsOnRecord it
  waits-of some =
      let (kept, is) = some-of (pending_at it.new.io it.process) some in
      file-waits it.call it.processes it.files it.now it.process it.result it.new it.before it.after it.attempted kept is

  pub bare-of : IsWithoutFiles it → IsSome (device_call it.call) → IsAsOnDevice it
  bare-of bare some =
      let (device, is) = some-of (device_call it.call) some in
      bare-attempt it.call device it.processes it.files it.now it.process it.result is it.new it.before it.after bare it.attempted

  -- what it is as an attempt of this call
  abbrev Theirs : PathCall → Type 0
  Theirs call =
      DeviceAttempted call it.processes it.files it.process it.result it.new it.before it.after × IsOnNoFile call (asker_in it) it.files (length it.before)

  module _ (list : PathList) (read : HasList it list) where
    pub open-of : it.call ≡ Call.Open → route_to_open it list ≡ to_device → OnDevice it
    open-of same route =
        subst (λ (call : PathCall). FileAttempts call it.processes it.files it.now it.process it.result it.new it.before it.after → Theirs call) (sym same)
        (λ attempted. (
          agreed-attempt Call.Open Device.Open it.processes it.files it.now it.process it.result refl it.new
              it.before it.after (open-agrees (asker_in it) it.files (length it.before) list read route) attempted,
          (list, read, route),
        )) it.attempted

    pub create-of : it.call ≡ Call.Create → route_to_create it list ≡ to_device → OnDevice it
    create-of same route =
        subst (λ (call : PathCall). FileAttempts call it.processes it.files it.now it.process it.result it.new it.before it.after → Theirs call) (sym same)
        (λ attempted. (
          agreed-attempt Call.Create Device.Create it.processes it.files it.now it.process it.result refl
              it.new it.before it.after (create-agrees (asker_in it) it.files (length it.before) list read route)
              attempted,
          (list, read, route),
        )) it.attempted
