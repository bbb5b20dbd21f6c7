-- Counts of faults that do not fall.
use Rattle.std.proofs.Common.{◌≡◌, ℕ, zero, suc, ◌+◌, ◌<◌, ◌≤◌, min, Some, List, [], ◌∷◌, slice_get, slice_set, refl, sym, ap, ◌∙◌, subst, arith}
use Rattle.std.specs.List.{AllZip}
use Rattle.std.proofs.lemmas.Option.{none-some, same_Some}
use Rattle.os9_base.specs.Count.{Rose}
use Rattle.os9_outer.specs.TerminalState.{TerminalState, fault_counts}
use Rattle.script_text.specs.declared.script.ScriptKey.{ScriptKey}
use Rattle.boot_run.specs.Loaded.{loaded, loaded_from}
use Rattle.boot_run.specs.Dropped.{FailsAt, LosesKeys}
use Rattle.machine_model.specs.Console.{terminals_emptied}
use Rattle.machine_model.specs.Terminals.{TerminalsOnlyGain}
use Rattle.file_rules.specs.Files.{DriveState, drive_at}
use Rattle.file_drives.specs.Drives.{drive_states}
use Rattle.os9_kernel.specs.Outside.{Outside}
use Rattle.run_laws.specs.Faults.{NotFailed}
use Rattle.run_laws.proofs.Terminals.{rose-before, rose-later}
use Rattle.os9_debug.specs.Devices.{DevicesGain, Unfailed}
use Rattle.os9_debug.specs.Counts.{FailedOnce, HasNotFallen, NoneFell, RoseOnce, TerminalRose}
use Rattle.os9_debug.specs.Machine.{loaded_devices}
use Rattle.os9_debug.specs.declared.machine.Machine.{Machine}

-- ---- terminals

abbrev pub NoneFellOf : List TerminalState → List TerminalState → Type 0
NoneFellOf a b = AllZip HasNotFallen a b

same-terms : (a : List TerminalState) → NoneFellOf a a
same-terms [] = tt
same-terms (x ∷ a) = (omega arith, same-terms a)

then-terms : (a b c : List TerminalState) → NoneFellOf a b → NoneFellOf b c → NoneFellOf a c
then-terms [] [] [] one two = tt
then-terms [] [] (z ∷ c) one two = absurd two
then-terms [] (y ∷ b) c one two = absurd one
then-terms (x ∷ a) [] c one two = absurd one
then-terms (x ∷ a) (y ∷ b) [] one two = absurd two
then-terms (x ∷ a) (y ∷ b) (z ∷ c) one two = (omega (arith, one.0, two.0), then-terms a b c one.1 two.1)

pub gained-terms : (a b : List TerminalState) → TerminalsOnlyGain a b → NoneFellOf a b
gained-terms [] [] gains = tt
gained-terms [] (y ∷ b) gains = absurd gains
gained-terms (x ∷ a) [] gains = absurd gains
gained-terms (x ∷ a) (y ∷ b) gains = (gains.0.faults, gained-terms a b gains.1)

loaded-terms : (number : ℕ) (keys : List ScriptKey) (a : List TerminalState) → NoneFellOf a (loaded_from number keys a)
loaded-terms number keys [] = tt
loaded-terms number keys (x ∷ a) = (omega arith, loaded-terms (suc number) keys a)

first-terms : (a b c : List TerminalState) → NoneFellOf a b → NoneFellOf b c → AllZip NotFailed a c → AllZip NotFailed a b
first-terms [] [] [] one two none = tt
first-terms [] [] (z ∷ c) one two none = absurd two
first-terms [] (y ∷ b) c one two none = absurd one
first-terms (x ∷ a) [] c one two none = absurd one
first-terms (x ∷ a) (y ∷ b) [] one two none = absurd two
first-terms (x ∷ a) (y ∷ b) (z ∷ c) one two none =
    ((λ rose. none.0 (rose-later _ x.faults y.faults z.faults rose two.0)), first-terms a b c one.1 two.1 none.1)

last-terms : (a b c : List TerminalState) → NoneFellOf a b → NoneFellOf b c → AllZip NotFailed a c → AllZip NotFailed b c
last-terms [] [] [] one two none = tt
last-terms [] [] (z ∷ c) one two none = absurd two
last-terms [] (y ∷ b) c one two none = absurd one
last-terms (x ∷ a) [] c one two none = absurd one
last-terms (x ∷ a) (y ∷ b) [] one two none = absurd two
last-terms (x ∷ a) (y ∷ b) (z ∷ c) one two none =
    ((λ rose. none.0 (rose-before _ x.faults y.faults z.faults one.0 rose)), last-terms a b c one.1 two.1 none.1)

-- ---- all devices

pub fell-none : (devices : Outside) → NoneFell devices devices
fell-none devices = record { terminals = same-terms devices.terms; drives = λ drive. omega arith }

pub fell-then : (a b c : Outside) → NoneFell a b → NoneFell b c → NoneFell a c
fell-then a b c one two = record {
  terminals = then-terms a.terms b.terms c.terms one.terminals two.terminals;
  drives = λ drive. omega (arith, one.drives drive, two.drives drive);
}

pub fell-gained : (a b : Outside) → DevicesGain a b → NoneFell a b
fell-gained a b gains =
    record { terminals = gained-terms a.terms b.terms gains.terminals; drives = λ drive. gains.drives.faults drive }

pub fell-loaded : (machine : Machine) (devices : Outside) → NoneFell devices (loaded_devices machine devices)
fell-loaded machine devices =
    record { terminals = loaded-terms 0 machine.keys.now devices.terms; drives = λ drive. omega arith }

-- from a start on
pub fell-since : (machine : Machine) (first devices : Outside) → DevicesGain (loaded_devices machine first) devices → NoneFell first devices
fell-since machine first devices gains =
    fell-then first (loaded_devices machine first) devices (fell-loaded machine first) (fell-gained (loaded_devices machine first) devices gains)

-- where the devices have the same counts
pub fell-kept : (before after : Outside) → after.terms ≡ before.terms → drive_states after.drives ≡ drive_states before.drives → NoneFell before after
fell-kept before after terms drives = record {
  terminals = subst (NoneFellOf before.terms) (sym terms) (same-terms before.terms);
  drives = λ drive. subst (λ (states : List DriveState). (drive_at (drive_states before.drives) drive).faults ≤ (drive_at states drive).faults) (sym drives) (omega arith);
}

-- where the terminals were loaded, and the drives are as they were
pub fell-started : (keys : List ScriptKey) (before after : Outside) → after.terms ≡ loaded keys before.terms → drive_states after.drives ≡ drive_states before.drives → NoneFell before after
fell-started keys before after terms drives = record {
  terminals = subst (NoneFellOf before.terms) (sym terms) (loaded-terms 0 keys before.terms);
  drives = λ drive. subst (λ (states : List DriveState). (drive_at (drive_states before.drives) drive).faults ≤ (drive_at states drive).faults) (sym drives) (omega arith);
}

-- where they lost their keys and their bytes before
dropped-terms : (a b : List TerminalState) → AllZip LosesKeys a b → NoneFellOf a (terminals_emptied b)
dropped-terms [] [] loses = tt
dropped-terms [] (y ∷ b) loses = absurd loses
dropped-terms (x ∷ a) [] loses = absurd loses
dropped-terms (x ∷ a) (y ∷ b) loses = (omega (arith, loses.0.faults), dropped-terms a b loses.1)

pub fell-emptied : (a b c : Outside) → AllZip LosesKeys a.terms b.terms → c.terms ≡ terminals_emptied b.terms → drive_states a.drives ≡ drive_states c.drives → NoneFell a c
fell-emptied a b c loses emptied drives = record {
  terminals = subst (NoneFellOf a.terms) (sym emptied) (dropped-terms a.terms b.terms loses);
  drives = λ drive. subst (λ (states : List DriveState). (drive_at (drive_states a.drives) drive).faults ≤ (drive_at states drive).faults) drives (omega arith);
}

pub fell-dropped : (keys : List ScriptKey) (a b c d : Outside) → AllZip LosesKeys a.terms b.terms
    → c.terms ≡ terminals_emptied b.terms → drive_states a.drives ≡ drive_states c.drives → d.terms ≡ loaded keys
    c.terms → drive_states d.drives ≡ drive_states c.drives → NoneFell a d
fell-dropped keys a b c d loses emptied drives terms still =
    fell-then a c d (fell-emptied a b c loses emptied drives) (fell-started keys c d terms still)

-- nothing failed in a part of the time
pub unfailed-before : (a b c : Outside) → NoneFell a b → NoneFell b c → Unfailed a c → Unfailed a b
unfailed-before a b c one two none = record {
  terminals = first-terms a.terms b.terms c.terms one.terminals two.terminals none.terminals;
  drives = λ drive rose. none.drives drive (rose-later _ (drive_at (drive_states a.drives) drive).faults
      (drive_at (drive_states b.drives) drive).faults (drive_at (drive_states c.drives) drive).faults rose
      (two.drives drive));
}

pub unfailed-after : (a b c : Outside) → NoneFell a b → NoneFell b c → Unfailed a c → Unfailed b c
unfailed-after a b c one two none = record {
  terminals = last-terms a.terms b.terms c.terms one.terminals two.terminals none.terminals;
  drives = λ drive rose. none.drives drive (rose-before _ (drive_at (drive_states a.drives) drive).faults
      (drive_at (drive_states b.drives) drive).faults (drive_at (drive_states c.drives) drive).faults
      (one.drives drive) rose);
}

-- ---- a terminal that failed

-- no count is told by keys
pub loaded-none : (number : ℕ) (keys : List ScriptKey) (a b : List TerminalState) → AllZip NotFailed a (loaded_from number keys b) → AllZip NotFailed a b
loaded-none number keys [] [] none = tt
loaded-none number keys [] (y ∷ b) none = absurd none
loaded-none number keys (x ∷ a) [] none = absurd none
loaded-none number keys (x ∷ a) (y ∷ b) none = (none.0, loaded-none (suc number) keys a b none.1)

counted-none : (a b c : List TerminalState) → AllZip NotFailed a c → fault_counts c ≡ fault_counts b → AllZip NotFailed a b
counted-none [] [] [] none same = tt
counted-none [] (y ∷ b) [] none same = absurd (cc)
counted-none [] b (z ∷ c) none same = absurd none
counted-none (x ∷ a) b [] none same = absurd none
counted-none (x ∷ a) [] (z ∷ c) none same = absurd (cc)
counted-none (x ∷ a) (y ∷ b) (z ∷ c) none same =
    let here : z.faults ≡ y.faults = cc in
    let rest : fault_counts c ≡ fault_counts b = cc in
    (λ rose. none.0 (subst (λ (n : ℕ). Rose x.faults n) (sym here) rose), counted-none a b c none.1 rest)

-- a count that rose by one was not at its last value, and it was not two that rose
once-only : (most x y z : ℕ) → z ≡ x + 1 → z < most → min (y + 1) most ≤ z → min (x + 1) most ≤ y → ⊥
once-only most x y z by below rose risen = omega arith

-- it was the only one
once-terms : (n old new : ℕ) (a b c : List TerminalState) → NoneFellOf a b → slice_get (fault_counts b) n ≡ Some old
    → Rose old new → fault_counts c ≡ slice_set (fault_counts b) n new → RoseOnce a c n → AllZip NotFailed a b
once-terms n old new [] b c fell is rose counts once = absurd once
once-terms n old new (x ∷ a) b [] fell is rose counts once = absurd once
once-terms n old new (x ∷ a) [] (z ∷ c) fell is rose counts once = absurd fell
once-terms zero old new (x ∷ a) (y ∷ b) (z ∷ c) fell is rose counts once =
    let here : y.faults ≡ old = same_Some y.faults old is in
    let there : z.faults ≡ new = cc in
    let rest : fault_counts c ≡ fault_counts b = cc in
    let more : Rose y.faults z.faults = subst (λ (n : ℕ). Rose n z.faults) (sym here) (subst (Rose old) (sym there) rose) in
    (λ risen. once-only _ x.faults y.faults z.faults once.0 once.1 more risen, counted-none a b c once.2 rest)
once-terms (suc n) old new (x ∷ a) (y ∷ b) (z ∷ c) fell is rose counts once =
    let here : z.faults ≡ y.faults = cc in
    let rest : fault_counts c ≡ slice_set (fault_counts b) n new = cc in
    (λ risen. once.0 (subst (λ (m : ℕ). Rose x.faults m) (sym here) risen), once-terms n old new a b c fell.1 is rose rest once.1)

pub once-before : (n : ℕ) (a b c : Outside) → NoneFell a b → FailsAt n b.terms c.terms → c.drives ≡ b.drives → FailedOnce n a c → Unfailed a b
once-before n a b c fell fails drives once = record {
  terminals = once-terms n fails.old fails.new a.terms b.terms c.terms fell.terminals fails.is fails.rose fails.counts once.terminals;
  drives = λ drive rose. once.drives drive (subst (λ views. Rose (drive_at (drive_states a.drives) drive).faults (drive_at (drive_states views) drive).faults) (sym drives) rose);
}

-- the count at a place
record CountAt (n now : ℕ) (a : List TerminalState) : Type 0 where
  old : ℕ
  is : slice_get (fault_counts a) n ≡ Some old
  most : old ≤ now

count-at : (n now : ℕ) (a b : List TerminalState) → NoneFellOf a b → slice_get (fault_counts b) n ≡ Some now → CountAt n now a
count-at n now a [] fell is = absurd (none-some now is)
count-at n now [] (y ∷ b) fell is = absurd fell
count-at zero now (x ∷ a) (y ∷ b) fell is =
    record { old = x.faults; is = refl; most = omega (arith, fell.0, same_Some y.faults now is) }
count-at (suc n) now (x ∷ a) (y ∷ b) fell is =
    let there = count-at n now a b fell.1 is in record { old = there.old; is = there.is; most = there.most }

set-at : (n old new : ℕ) (counts : List ℕ) → slice_get counts n ≡ Some old → slice_get (slice_set counts n new) n ≡ Some new
set-at n old new [] is = absurd (none-some old is)
set-at zero old new (x ∷ counts) is = refl
set-at (suc n) old new (x ∷ counts) is = set-at n old new counts is

pub rose-since : (n : ℕ) (a b c : Outside) → NoneFell a b → FailsAt n b.terms c.terms → TerminalRose n a c
rose-since n a b c fell fails =
    let there = count-at n fails.old a.terms b.terms fell.terminals fails.is in
    record {
      old = there.old;
      new = fails.new;
      was = there.is;
      is = ap (λ counts. slice_get counts n) fails.counts ∙ set-at n fails.old fails.new (fault_counts b.terms) fails.is;
      rose = rose-before _ there.old fails.old fails.new there.most fails.rose;
    }
