-- Each call that waits stays on an open path: on a terminal or a pipe, or its process waits in a request.
use Rattle.std.proofs.Common.{◌≡◌, ◌≢◌, ◌⊎◌, ℕ, Option, Some, IsSome, is_some, sym, ap, ◌∙◌, subst, inl, inr}
use Rattle.std.specs.Prelude.{option_and_then, option_map}
use Rattle.std.proofs.lemmas.Bool.{cases_eq}
use Rattle.std.proofs.lemmas.Option.{same_Some}
use Rattle.proc_model.specs.Processes.{Processes, regs_at}
use Rattle.io_model.specs.Path.{PathTable, desc_of, slot_of}
use Rattle.io_model.specs.declared.pending.PendingCall.{PendingCall}
use Rattle.io_model.specs.declared.path.Desc.{Desc}
use Rattle.io_model.specs.declared.path.SysPath.{SysPath}
use Rattle.io_model.specs.Again.{path_number}
use Rattle.io_model.specs.Io.{Io, OpenPath, pending_at, open_path}
use Rattle.io_model.specs.declared.io_call.IoCall.{IoCall}
use Rattle.lock_model.specs.Locks.{request_of}
use Rattle.file_rules.specs.Files.{Files, place_of_target}
use Rattle.file_rules.specs.declared.path_call.PathCall.{PathCall}
use Rattle.file_laws.proofs.Named.{path-desc}
use Rattle.call_laws.specs.Pending.{ArePending}
use Rattle.file_laws.specs.Devices.{IsDevice, WaitsOnDevice, device_call}
use Rattle.call_laws.specs.Running.{AreOnPaths, WaitsOnPath}
use Rattle.call_laws.proofs.Aside.{IoAside, StaysNamed}
use Rattle.call_laws.proofs.Keeping.{open-slot}
use Rattle.call_laws.proofs.Requested.{RequestsStay}

-- a number that is the image of a path with a descriptor names it
opens : (io : Io) (q n : ℕ) (path : SysPath) (desc : Desc) → slot_of io.paths q n ≡ Some path → desc_of io.paths path.0 ≡ Some desc → open_path io q n ≡ Some (record { path = path; desc = desc })
opens io q n path desc named there =
    ap (option_and_then (λ (path : SysPath). with_place path (desc_of io.paths path.0))) named ∙ ap (with_place path) there
  where
    with_place : SysPath → Option Desc → Option OpenPath
    with_place path place = option_map (λ (desc : Desc). let r : OpenPath = record { path = path; desc = desc } in r) place

-- ---- the other processes

module _ (m : Processes) (terms p : ℕ) (old new : Files) (kept_all : ArePending m old.io) (io : IoAside m.records terms p old.io new.io)
    (stay : RequestsStay p old.records new.records) (all : AreOnPaths old) where
  other-waits : (q : ℕ) → q ≢ p → (pending : PendingCall) → pending_at new.io q ≡ Some pending → WaitsOnPath new q pending
  other-waits q differ pending is = record {
    desc = named.now.desc;
    there = ap (λ (path : SysPath). desc_of new.io.paths path.0) (sym named.path) ∙ path-desc new.io q number named.now named.is;
    on = by_on it.on;
  }
    where
      was : pending_at old.io q ≡ Some pending
      was = sym (io.calls q differ) ∙ is

      it : WaitsOnPath old q pending
      it = all q pending was

      number : ℕ
      number = path_number (kept_all q pending was).call (regs_at m q)

      named : StaysNamed new.io q number (record { path = pending.path; desc = it.desc })
      named =
          io.paths q number (record { path = pending.path; desc = it.desc }) differ (kept_all q pending was).lives
          (opens old.io q number pending.path it.desc (kept_all q pending was).again.path it.there)

      by_on : IsDevice it.desc.target ⊎ IsSome (request_of old.records.locks q) → IsDevice named.now.desc.target ⊎ IsSome (request_of new.records.locks q)
      by_on (inl device) = inl (ap place_of_target named.target ∙ device)
      by_on (inr some) = inr (ap is_some (stay.others q differ) ∙ some)

  pub all-wait : ((pending : PendingCall) → pending_at new.io p ≡ Some pending → WaitsOnPath new p pending) → AreOnPaths new
  all-wait own q pending is =
      elim (cases_eq q p) [
        | inl same ↦ subst (λ (q : ℕ). WaitsOnPath new q pending) (sym same) (own pending (sym (ap (pending_at new.io) same) ∙ is))
        | inr differ ↦ other-waits q differ pending is
      ]

-- ---- the process itself

-- a call that waits on a terminal or a pipe
pub device-waits : (call : PathCall) (device : IoCall) (processes : Processes) (old new : Files) (p : ℕ) → device_call call ≡ Some device
    → WaitsOnDevice call processes old.io p new.io → (pending : PendingCall) → slot_of old.io.paths p (path_number device (regs_at processes p)) ≡ Some pending.path → WaitsOnPath new p pending
device-waits call device processes old new p device_is it pending named = record {
  desc = it.opened.desc;
  there =
      ap (λ (paths : PathTable). desc_of paths pending.path.0) it.paths
      ∙ ap (λ (path : SysPath). desc_of old.io.paths path.0) same ∙ path-desc old.io p number it.opened it.is;
  on = inl it.on;
}
  where
    number : ℕ
    number = path_number it.device (regs_at processes p)

    one : device ≡ it.device
    one = same_Some device it.device (sym device_is ∙ it.device_is)

    same : pending.path ≡ it.opened.path
    same =
        same_Some pending.path it.opened.path
        (sym named ∙ ap (λ (device : IoCall). slot_of old.io.paths p (path_number device (regs_at processes p))) one ∙ open-slot old.io p number it.opened it.is)
