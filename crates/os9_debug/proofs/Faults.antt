-- Devices that do not fail on the way of a run do not fail in its parts.
use Rattle.std.proofs.Common.{◌≡◌, ℕ, List, sym, ap, subst}
use Rattle.std.specs.List.{AllZip}
use Rattle.os9_outer.specs.TerminalState.{TerminalState}
use Rattle.file_rules.specs.Files.{DriveState, drive_at}
use Rattle.file_drives.specs.Drives.{drive_states}
use Rattle.machine_model.specs.Console.{terminals_emptied}
use Rattle.machine_model.specs.Terminals.{TerminalsOnlyGain}
use Rattle.machine_model.proofs.TerminalLaws.{gain-emptied, gain-same, gain-then}
use Rattle.machine_model.proofs.Induction.{IsCarriedByEvents, along-steps}
use Rattle.machine_model.specs.Devices.{DrivesOnlyGain, OnlyGain}
use Rattle.machine_model.specs.Run.{SliceEvents}
use Rattle.machine_model.specs.State.{State}
use Rattle.machine_model.proofs.Drives.{drives-same, drives-then}
use Rattle.machine_model.proofs.Gains.{event-gains, run-gains}
use Rattle.os9_kernel.specs.Outside.{Outside}
use Rattle.os9_kernel.specs.Tie.{Represents}
use Rattle.os9_kernel.specs.declared.kernel.Kernel.{Kernel}
use Rattle.run_laws.specs.Faults.{NoDriveFailed, NoneFailed, NotFailed}
use Rattle.run_laws.proofs.Terminals.{first-none, rose-before, rose-later, then-none}
use Rattle.os9_debug.specs.Devices.{DevicesGain, Unfailed}
use Rattle.os9_debug.specs.Position.{Continues, ContinuesIn}

-- ---- counts over two steps

pub gain-none : (s : State) → OnlyGain s s
gain-none s = record { terminals = gain-same s.terms; drives = drives-same s.files.drives }

pub gain-two : (a b c : State) → OnlyGain a b → OnlyGain b c → OnlyGain a c
gain-two a b c first next = record {
  terminals = gain-then a.terms b.terms c.terms first.terminals next.terminals;
  drives = drives-then a.files.drives b.files.drives c.files.drives first.drives next.drives;
}

pub emptied-gains : (m : State) → OnlyGain m (record m { terms = terminals_emptied m.terms })
emptied-gains m = record { terminals = gain-emptied m.terms; drives = drives-same m.files.drives }

drives-first : (a b c : List DriveState) → DrivesOnlyGain b c → NoDriveFailed a c → NoDriveFailed a b
drives-first a b c two none drive rose =
    none drive (rose-later _ (drive_at a drive).faults (drive_at b drive).faults (drive_at c drive).faults rose (two.faults drive))

drives-last : (a b c : List DriveState) → DrivesOnlyGain a b → NoDriveFailed a c → NoDriveFailed b c
drives-last a b c one none drive rose =
    none drive (rose-before _ (drive_at a drive).faults (drive_at b drive).faults (drive_at c drive).faults (one.faults drive) rose)

pub none-first : (a b c : State) → OnlyGain a b → OnlyGain b c → NoneFailed a c → NoneFailed a b
none-first a b c one two none = record {
  terminals = first-none a.terms b.terms c.terms one.terminals two.terminals none.terminals;
  drives = drives-first a.files.drives b.files.drives c.files.drives two.drives none.drives;
}

pub none-then : (a b c : State) → OnlyGain a b → OnlyGain b c → NoneFailed a c → NoneFailed b c
none-then a b c one two none = record {
  terminals = then-none a.terms b.terms c.terms one.terminals two.terminals none.terminals;
  drives = drives-last a.files.drives b.files.drives c.files.drives one.drives none.drives;
}

-- ---- the same of devices

pub devices-gain : (a b c : Outside) → DevicesGain a b → DevicesGain b c → DevicesGain a c
devices-gain a b c first next = record {
  terminals = gain-then a.terms b.terms c.terms first.terminals next.terminals;
  drives = drives-then (drive_states a.drives) (drive_states b.drives) (drive_states c.drives) first.drives next.drives;
}

pub gain-nothing : (devices : Outside) → DevicesGain devices devices
gain-nothing devices = record { terminals = gain-same devices.terms; drives = drives-same (drive_states devices.drives) }

pub unfailed-first : (a b c : Outside) → DevicesGain a b → DevicesGain b c → Unfailed a c → Unfailed a b
unfailed-first a b c one two none = record {
  terminals = first-none a.terms b.terms c.terms one.terminals two.terminals none.terminals;
  drives = drives-first (drive_states a.drives) (drive_states b.drives) (drive_states c.drives) two.drives none.drives;
}

pub unfailed-then : (a b c : Outside) → DevicesGain a b → DevicesGain b c → Unfailed a c → Unfailed b c
unfailed-then a b c one two none = record {
  terminals = then-none a.terms b.terms c.terms one.terminals two.terminals none.terminals;
  drives = drives-last (drive_states a.drives) (drive_states b.drives) (drive_states c.drives) one.drives none.drives;
}

-- the devices of a kernel that represents a state are those of the state
pub terms-are : (kernel : Kernel) (devices : Outside) (s : State) → Represents kernel devices s → s.terms ≡ devices.terms
terms-are kernel devices s tied = ap (λ (s : State). s.terms) tied.is

module _ (old new : Kernel) (before after : Outside) (s t : State) (from : Represents old before s) (to : Represents new after t) where
  pub gains-outside : OnlyGain s t → DevicesGain before after
  gains-outside gained = record {
    terminals = subst (TerminalsOnlyGain before.terms) (terms-are new after t to)
        (subst (λ (terms : List TerminalState). TerminalsOnlyGain terms t.terms) (terms-are old before s from)
        gained.terminals);
    drives = subst (DrivesOnlyGain (drive_states before.drives)) to.files.drives (subst (λ (drives : List DriveState). DrivesOnlyGain drives t.files.drives) from.files.drives gained.drives);
  }

  pub unfailed-inside : Unfailed before after → NoneFailed s t
  unfailed-inside none = record {
    terminals = subst (AllZip NotFailed s.terms) (sym (terms-are new after t to))
        (subst (λ (terms : List TerminalState). AllZip NotFailed terms after.terms)
        (sym (terms-are old before s from)) none.terminals);
    drives = subst (NoDriveFailed s.files.drives) (sym to.files.drives) (subst (λ (drives : List DriveState). NoDriveFailed drives (drive_states after.drives)) (sym from.files.drives) none.drives);
  }

-- ---- what is left of a run

abbrev Gains : State → List State → State → Type 0
Gains s states t = OnlyGain s t

by_events : IsCarriedByEvents Gains
by_events = record {
  none = gain-none;
  event = λ s m t end states event later. gain-two s m t (event-gains s m end event) later;
}

pub steps-gain : (left : ℕ) (s : State) (states : List State) (t : State) → SliceEvents left s states t → OnlyGain s t
steps-gain left s states t steps = along-steps Gains by_events left s t states steps

pub continues-gain : (slices : List ℕ) (s : State) (states : List State) (last : State) → Continues slices s states last → OnlyGain s last
continues-gain slices s states last (written, run) = run-gains slices written s last states run

-- from the end of a slice on
pub over-gain : (slices : List ℕ) (m : State) (states : List State) (last : State) → Continues slices (record m { terms = terminals_emptied m.terms }) states last → OnlyGain m last
over-gain slices m states last rest =
    gain-two m (record m { terms = terminals_emptied m.terms }) last (emptied-gains m) (continues-gain slices (record m { terms = terminals_emptied m.terms }) states last rest)

pub in-gain : (left : ℕ) (slices : List ℕ) (s : State) (states : List State) (last : State) → ContinuesIn left slices s states last → OnlyGain s last
in-gain left slices s states last it =
    gain-two s it.m last (steps-gain left s it.first it.m it.steps) (over-gain slices it.m it.later last it.rest)
