-- From the run of a machine, and what was written behind it, to what a command leaves.
use Rattle.std.proofs.Common.{◌≡◌, ◌≢◌, ◌⊎◌, ◌==◌, ℕ, zero, suc, Bool, true, false, Option, Some, None, List, [], length, ◌∷◌, ◌++◌, slice_get, refl, ap, subst, ◌∙◌, inl, inr, All, arith}
use Rattle.std.specs.Prelude.{IsSome, if◌then◌else◌}
use Rattle.std.specs.Option.{option_map_or}
use Rattle.std.proofs.lemmas.Bool.{eq-eqb, eqb-true}
use Rattle.std.proofs.lemmas.Option.{none-some}
use Rattle.lock_model.specs.declared.history.Entry.{Entry}
use Rattle.std.proofs.lemmas.List.Elements.{All-cons, All-head, All-tail}
use Rattle.os9_outer.specs.Host.{HostFiles, IfObserved}
use Rattle.os9_outer.specs.TerminalState.{TerminalState}
use Rattle.file_drives.specs.Drives.{drive_states}
use Rattle.machine_model.specs.declared.ends.BootFault.{BootFault}
use Rattle.machine_model.specs.declared.ends.BootFault.TheVariants.{OutOfMemory, BadModule as BadModuleFault, NoFirst as NoFirstFault, TooLarge as TooLargeFault}
use Rattle.os9_kernel.specs.Outside.{Outside}
use Rattle.machine_model.specs.State.{State}
use Rattle.boot_run.specs.ImageWrites.{FailsAt}
use Rattle.boot_run.specs.Images.{WritesAll, WritesUpTo}
use Rattle.boot_run.specs.Outcome.{EndsWithImages, HasOutcome, RunsImages, with_images_in}
use Rattle.boot_run.specs.Console.{IsObserved}
use Rattle.boot_run.specs.Machine.{IsUnrun, RunsFirst, Setup}
use Rattle.boot_run.specs.World.{World, FailsToWrite, FailsToWriteFile, HasNoFault}
use Rattle.boot_run.specs.declared.machine.RunEnd.{RunEnd}
use Rattle.boot_run.specs.declared.machine.RunEnd.TheVariants as Run
use Rattle.boot_run.specs.declared.status.End.{End}
use Rattle.boot_run.specs.declared.status.End.TheVariants.{Ended, Living, CannotRead, CannotWrite, CannotWriteImage, NoMemory, BadImage, BadText, BadBounds, DriveFailed, CannotWriteFile, Refused, BadSource, TerminalFailed}
use Rattle.os9_boot.specs.Boots.{IsUndone, MachineComesTo, RunsToEnd, RunsUnwritten}
use Rattle.boot_run.specs.Left.{ChangesOnly}
use Rattle.os9_boot.specs.BootLeft.{BootLeavesFiles, CommandLeavesDevices}
use Rattle.boot_run.specs.End.{boot_end}
use Rattle.os9_boot.specs.History.{Outputs, no_outputs, output_bytes, output_names}
use Rattle.os9_boot.specs.Written.{EndsBoot, StopsAt, WritesBack, end_unwritten, ends_run}
use Rattle.os9_boot.proofs.BootCallLemmas.{kept-counts, still-silent, still-undone}
use Rattle.boot_run.proofs.ChangeLemmas.{all-change, first-change, same-changes}

-- the host failed as the end of a machine's run says, which writes these files
abbrev pub RunFails : Outputs → End → World → World → Type 0
RunFails outputs (CannotRead input) before after = ⊥
RunFails outputs CannotWrite before after = FailsToWrite before after
RunFails outputs (CannotWriteImage number) before after = FailsAt number outputs.images before after
RunFails outputs CannotWriteFile before after =
    (name : List ℕ) × (outputs.history ≡ Some name) × FailsToWriteFile name before after
RunFails outputs end before after = HasNoFault before after

-- the end is that of a machine, and not of what was read before
abbrev pub IsOfMachine : End → Type 0
IsOfMachine (CannotRead input) = ⊥
IsOfMachine (BadText input line) = ⊥
IsOfMachine (BadImage number fault) = ⊥
IsOfMachine BadBounds = ⊥
IsOfMachine (Refused number) = ⊥
IsOfMachine (BadSource line error) = ⊥
IsOfMachine (TerminalFailed n) = ⊥
IsOfMachine end = Unit {0}

-- what comes of it; if memory is out nothing may have been run
abbrev pub EndsSo : Setup → Outputs → World → World → End → Type 0
EndsSo setup outputs before after NoMemory =
    IsUndone before after ⊎ MachineComesTo setup outputs before after NoMemory
EndsSo setup outputs before after end = MachineComesTo setup outputs before after end

-- a machine that was set up so has run, its images and its history were written, and the command ends so
pub record MachineEnds (setup : Setup) (outputs : Outputs) (before after : World) (end : End) : Type 0 where
  pub kind : IsOfMachine end
  pub comes : EndsSo setup outputs before after end
  pub devices : CommandLeavesDevices (length setup.images) before after end
  pub host : RunFails outputs end before after
  pub files : BootLeavesFiles (output_names outputs) before after end

-- the bytes of all terminals are observed, or not
observed-or-not : (put : Option (List ℕ)) → IsSome put ⊎ (¬ IsSome put)
observed-or-not None = inr (λ is. cc is)
observed-or-not (Some bytes) = inl refl

all-observed : (terms : List TerminalState) → All IsObserved terms ⊎ (¬ All IsObserved terms)
all-observed [] = inl (λ k d low. absurd (omega (arith, low)))
all-observed (terminal ∷ terms) =
    elim (observed-or-not terminal.put) [
      | inl one ↦
          elim (all-observed terms) [
            | inl others ↦ inl (All-cons IsObserved terminal terms one others)
            | inr other ↦ inr (λ all. other (All-tail IsObserved terminal terms all))
          ]
      | inr none ↦ inr (λ all. none (All-head IsObserved terminal terms all))
    ]

no-fault-then : (before mid after : World) → HasNoFault before mid → HasNoFault mid after → HasNoFault before after
no-fault-then before mid after first second = (second.0 ∙ first.0, second.1 ∙ first.1, second.2 ∙ first.2)

fails-then : (name : List ℕ) (before mid after : World) → HasNoFault before mid → FailsToWriteFile name mid after → FailsToWriteFile name before after
fails-then name before mid after kept failed = (rw (← kept.0) failed.0, failed.1, failed.2)

-- a name is that of an image, or that of the history behind them
which-name : (files : List (List ℕ)) (told : Option (List ℕ)) (number : ℕ) (name : List ℕ)
    → slice_get (files ++ option_map_or (λ name. name ∷ []) told []) number ≡ Some name
    → ((number ≢ length files) × (slice_get files number ≡ Some name)) ⊎ ((number ≡ length files) × (told ≡ Some name))
which-name [] None number name named = absurd (none-some name named)
which-name [] (Some last) zero name named = inr (refl, named)
which-name [] (Some last) (suc number) name named = absurd (none-some name named)
which-name (first ∷ files) told zero name named = inl (λ e. omega (arith, e), named)
which-name (first ∷ files) told (suc number) name named = elim (which-name files told number name named) [
  | inl there ↦ inl (λ e. there.0 (omega (arith, e)), there.1)
  | inr last ↦ inr (ap suc last.0, last.1)
]

-- what files are written behind the run are those of before that are written
files-then : (fact : HostFiles → HostFiles → Type 0) (before mid after : World) → mid.files ≡ before.files → IfObserved fact mid.files after.files → IfObserved fact before.files after.files
files-then fact before mid after kept wrote = subst (λ files. IfObserved fact files after.files) kept wrote

outcome-after : (setup : Setup) (t : State) (written : List ℕ) (images : List (List ℕ)) (before mid after : World)
    → after.devices ≡ mid.devices → HasOutcome setup t written images before mid → HasOutcome setup t written images
    before after
outcome-after setup t written images before mid after same outcome = record {
  s = outcome.s;
  starts = outcome.starts;
  states = outcome.states;
  run = outcome.run;
  terminals = ap (λ (devices : Outside). devices.terms) same ∙ outcome.terminals;
  drives = ap (λ (devices : Outside). drive_states devices.drives) same ∙ outcome.drives;
  volumes = outcome.volumes;
  unchanged = outcome.unchanged;
}

-- ---- a run that came to its end

-- it has come so by the files that were written
module _ (setup : Setup) (outputs : Outputs) (images : List (List ℕ)) (history : List Entry)
    (before mid after : World) (lives : Bool) (begun : ℕ)
    (ran : All IsObserved before.devices.terms → EndsWithImages setup lives begun images history before mid)
    (still : mid.files ≡ before.files) (out : after.out ≡ mid.out) (devices : after.devices ≡ mid.devices) where
  abbrev bytes : List (List ℕ)
  bytes = output_bytes outputs images history

  -- the history is that of the last state
  of-state : (t : State) → history ≡ t.files.records.history → (fact : List (List ℕ) → Type 0) → fact bytes → fact (output_bytes outputs images t.files.records.history)
  of-state t is fact wrote = subst (λ (history : List Entry). fact (output_bytes outputs images history)) is wrote

  to-end : IfObserved (WritesAll (output_names outputs) bytes) mid.files after.files → All IsObserved before.devices.terms → RunsToEnd setup outputs lives before after
  to-end wrote observed =
      let it = ran observed in
      record {
        t = it.t;
        written = it.written;
        images = images;
        outcome = outcome-after setup it.t it.written images before mid after devices it.outcome;
        living = it.living;
        output = out ∙ it.output;
        files = of-state it.t it.recorded (λ bytes. IfObserved (WritesAll (output_names outputs) bytes) before.files after.files)
            (files-then (WritesAll (output_names outputs) bytes) before mid after still wrote);
      }

  up-to : (number : ℕ) → IfObserved (WritesUpTo number (output_names outputs) bytes) mid.files after.files → All IsObserved before.devices.terms → RunsUnwritten setup outputs number before after
  up-to number wrote observed =
      let it = ran observed in
      record {
        t = it.t;
        written = it.written;
        images = images;
        outcome = outcome-after setup it.t it.written images before mid after devices it.outcome;
        output = out ∙ it.output;
        files = of-state it.t it.recorded (λ bytes. IfObserved (WritesUpTo number (output_names outputs) bytes) before.files after.files)
            (files-then (WritesUpTo number (output_names outputs) bytes) before mid after still wrote);
      }

  module _ (kept : HasNoFault before mid) where
    first-changed : (number : ℕ) → IfObserved (WritesUpTo number (output_names outputs) bytes) mid.files after.files → IfObserved (ChangesOnly (output_names outputs)) before.files after.files
    first-changed number wrote =
        first-change number (output_names outputs) bytes before.files after.files (files-then (WritesUpTo number (output_names outputs) bytes) before mid after still wrote)

    -- a write failed
    unwritten : (number : ℕ) → IfObserved (WritesUpTo number (output_names outputs) bytes) mid.files after.files
        → FailsAt number (output_names outputs) mid after → MachineEnds setup outputs before after (end_unwritten outputs number)
    unwritten number wrote (name, named, failed) = by (number == length outputs.images) refl
      where
        failed_then : FailsToWriteFile name before after
        failed_then = fails-then name before mid after kept failed

        of-image : number ≢ length outputs.images → slice_get outputs.images number ≡ Some name
        of-image other = elim (which-name outputs.images outputs.history number name named) [
          | inl there ↦ there.1
          | inr behind ↦ absurd (other behind.0)
        ]

        of-history : number ≡ length outputs.images → outputs.history ≡ Some name
        of-history is = elim (which-name outputs.images outputs.history number name named) [
          | inl there ↦ absurd (there.0 is)
          | inr behind ↦ behind.1
        ]

        by : (is_last : Bool) → (number == length outputs.images) ≡ is_last → MachineEnds setup outputs before after (if is_last then CannotWriteFile else CannotWriteImage number)
        by true is =
            let number_is : number ≡ length outputs.images = eqb-true number (length outputs.images) is in
            record {
              kind = tt;
              comes = λ observed. subst (λ number. RunsUnwritten setup outputs number before after) number_is (up-to number wrote observed);
              devices = tt;
              host = (name, of-history number_is, failed_then);
              files = first-changed number wrote;
            }
        by false is =
            let other : number ≢ length outputs.images = λ e. let same : (number == length outputs.images) ≡ true = eq-eqb number (length outputs.images) e in cc in
            record {
              kind = tt;
              comes = up-to number wrote;
              devices = tt;
              host = (name, of-image other, failed_then);
              files = first-changed number wrote;
            }

    stops : (answer : End) (number : ℕ) → StopsAt outputs bytes number answer mid after → MachineEnds setup outputs before after answer
    stops answer number (wrote, inl (is, failed)) = rw is (unwritten number wrote failed)
    stops answer number (wrote, inr (is, sure)) = rw is (record {
      kind = tt;
      comes = inr (λ observed. inr (number, up-to number wrote observed));
      devices = tt;
      host = no-fault-then before mid after kept sure;
      files = first-changed number wrote;
    })

    changed : IfObserved (WritesAll (output_names outputs) bytes) mid.files after.files → IfObserved (ChangesOnly (output_names outputs)) before.files after.files
    changed wrote = all-change (output_names outputs) bytes before.files after.files (files-then (WritesAll (output_names outputs) bytes) before mid after still wrote)

pub ended : (setup : Setup) (outputs : Outputs) (images : List (List ℕ)) (history : List Entry)
    (before mid after : World) (begun : ℕ) (answer : End) → RunsImages setup images history before mid
    (Run.Ended begun) → WritesBack outputs (output_bytes outputs images history) Ended answer mid after
    → MachineEnds setup outputs before after answer
ended setup outputs images history before mid after begun answer run wrote = by wrote.files
  where
    kept : HasNoFault before mid
    kept = run.no_fault (λ is. cc is)

    by : ((answer ≡ Ended) × HasNoFault mid after × IfObserved (WritesAll (output_names outputs) (output_bytes outputs images history)) mid.files after.files) ⊎
        ((number : ℕ) × StopsAt outputs (output_bytes outputs images history) number answer mid after) → MachineEnds setup outputs before after answer
    by (inl (is, sure, all)) = rw is (record {
      kind = tt;
      comes = to-end setup outputs images history before mid after false begun run.gives run.files_kept wrote.out_kept wrote.devices_kept all;
      devices = tt;
      host = no-fault-then before mid after kept sure;
      files = changed setup outputs images history before mid after false begun run.gives run.files_kept wrote.out_kept wrote.devices_kept kept all;
    })
    by (inr (number, stopped)) =
        stops setup outputs images history before mid after false begun run.gives run.files_kept wrote.out_kept wrote.devices_kept kept answer number stopped

pub living : (setup : Setup) (outputs : Outputs) (images : List (List ℕ)) (history : List Entry)
    (before mid after : World) (begun : ℕ) (answer : End) → RunsImages setup images history before mid
    (Run.Living begun) → WritesBack outputs (output_bytes outputs images history) Living answer mid after
    → MachineEnds setup outputs before after answer
living setup outputs images history before mid after begun answer run wrote = by wrote.files
  where
    kept : HasNoFault before mid
    kept = run.no_fault (λ is. cc is)

    by : ((answer ≡ Living) × HasNoFault mid after × IfObserved (WritesAll (output_names outputs) (output_bytes outputs images history)) mid.files after.files) ⊎
        ((number : ℕ) × StopsAt outputs (output_bytes outputs images history) number answer mid after) → MachineEnds setup outputs before after answer
    by (inl (is, sure, all)) = rw is (record {
      kind = tt;
      comes = to-end setup outputs images history before mid after true begun run.gives run.files_kept wrote.out_kept wrote.devices_kept all;
      devices = tt;
      host = no-fault-then before mid after kept sure;
      files = changed setup outputs images history before mid after true begun run.gives run.files_kept wrote.out_kept wrote.devices_kept kept all;
    })
    by (inr (number, stopped)) =
        stops setup outputs images history before mid after true begun run.gives run.files_kept wrote.out_kept wrote.devices_kept kept answer number stopped

-- ---- a machine that did not start, or not run to its end

refused : (setup : Setup) (outputs : Outputs) (images : List (List ℕ)) (history : List Entry) (before mid : World) (fault : BootFault)
    → RunsImages setup images history before mid (Run.Refused fault) → MachineEnds setup outputs before mid (boot_end fault)
refused setup outputs images history before mid OutOfMemory run = record {
  kind = tt;
  comes = inl (still-undone before mid run.unrun);
  devices = tt;
  host = kept-counts before mid run.unrun;
  files = same-changes (output_names outputs) before.files mid.files run.files_kept;
}
refused setup outputs images history before mid (BadModuleFault at error) run = record {
  kind = tt;
  comes = (BadModuleFault at error, run.judged, refl);
  devices = still-silent before mid run.unrun;
  host = kept-counts before mid run.unrun;
  files = run.files_kept;
}
refused setup outputs images history before mid NoFirstFault run = record {
  kind = tt;
  comes = (NoFirstFault, run.judged, refl);
  devices = still-silent before mid run.unrun;
  host = kept-counts before mid run.unrun;
  files = run.files_kept;
}
refused setup outputs images history before mid TooLargeFault run = record {
  kind = tt;
  comes = (TooLargeFault, run.judged, refl);
  devices = still-silent before mid run.unrun;
  host = kept-counts before mid run.unrun;
  files = run.files_kept;
}

failed-to-mount : (setup : Setup) (outputs : Outputs) (images : List (List ℕ)) (history : List Entry) (before mid : World) (drive number : ℕ)
    → RunsImages setup images history before mid (Run.DriveFailed drive number) → MachineEnds setup outputs before mid
    (DriveFailed drive number)
failed-to-mount setup outputs images history before mid drive number run = record {
  kind = tt;
  comes = run.judged;
  devices = run.unrun;
  host = run.no_fault (λ is. cc is);
  files = run.files_kept;
}

unwritten-output : (setup : Setup) (outputs : Outputs) (images : List (List ℕ)) (history : List Entry)
    (before mid : World) → RunsImages setup images history before mid Run.OutputFailed → MachineEnds setup outputs before mid CannotWrite
unwritten-output setup outputs images history before mid run = record {
  kind = tt;
  comes = λ observed. record { first = record { images = images; first = run.gives observed }; files = run.files_kept };
  devices = tt;
  host = run.output_fault refl;
  files = run.files_kept;
}

out-of-memory-then : (setup : Setup) (outputs : Outputs) (images : List (List ℕ)) (history : List Entry)
    (before mid : World) → RunsImages setup images history before mid Run.NoMemory → MachineEnds setup outputs before mid NoMemory
out-of-memory-then setup outputs images history before mid run = record {
  kind = tt;
  comes = elim (all-observed before.devices.terms) [
    | inl observed ↦ by (run.gives observed)
    | inr other ↦ inr (λ observed. absurd (other observed))
  ];
  devices = tt;
  host = run.no_fault (λ is. cc is);
  files = same-changes (output_names outputs) before.files mid.files run.files_kept;
}
  where
    by : IsUnrun before mid ⊎ RunsFirst setup before (with_images_in images mid) → IsUndone before mid ⊎ MachineComesTo setup outputs before mid NoMemory
    by (inl unrun) = inl (record { unrun = unrun; files = run.files_kept })
    by (inr first) = inr (λ observed. inl (record { first = record { images = images; first = first }; files = run.files_kept }))

-- a machine has run, and its images were written where it came to its end
pub machine-ends : (setup : Setup) (outputs : Outputs) (images : List (List ℕ)) (history : List Entry) (before mid after : World) (end : RunEnd)
    (answer : End) → RunsImages setup images history before mid end → EndsBoot outputs (output_bytes outputs images history) end answer mid after
    → MachineEnds setup outputs before after answer
machine-ends setup outputs images history before mid after (Run.Ended begun) answer run ends =
    ended setup outputs images history before mid after begun answer run ends
machine-ends setup outputs images history before mid after (Run.Living begun) answer run ends =
    living setup outputs images history before mid after begun answer run ends
machine-ends setup outputs images history before mid after (Run.Refused fault) answer run (is, same) =
    rw (is, same) (refused setup outputs images history before mid fault run)
machine-ends setup outputs images history before mid after (Run.DriveFailed drive number) answer run (is, same) =
    rw (is, same) (failed-to-mount setup outputs images history before mid drive number run)
machine-ends setup outputs images history before mid after Run.OutputFailed answer run (is, same) =
    rw (is, same) (unwritten-output setup outputs images history before mid run)
machine-ends setup outputs images history before mid after Run.NoMemory answer run (is, same) =
    rw (is, same) (out-of-memory-then setup outputs images history before mid run)

-- without names nothing is written
none-written : (texts : List (List ℕ)) (files : Option HostFiles) → IfObserved (WritesAll [] texts) files files
none-written texts None = refl
none-written texts (Some files) = λ name. refl

nothing-written : (texts : List (List ℕ)) (end : End) (world : World) → WritesBack no_outputs texts end end world world
nothing-written texts end world = record {
  files = inl (refl, (refl, refl, refl), none-written texts world.files);
  out_kept = refl;
  devices_kept = refl;
}

pub ends-alone : (texts : List (List ℕ)) (end : RunEnd) (world : World) → EndsBoot no_outputs texts end (ends_run end) world world
ends-alone texts (Run.Ended begun) world = nothing-written texts Ended world
ends-alone texts (Run.Living begun) world = nothing-written texts Living world
ends-alone texts (Run.Refused fault) world = (refl, refl)
ends-alone texts (Run.DriveFailed drive number) world = (refl, refl)
ends-alone texts Run.OutputFailed world = (refl, refl)
ends-alone texts Run.NoMemory world = (refl, refl)

-- a run that begins in the same world
pub runs-after : (setup : Setup) (images : List (List ℕ)) (history : List Entry) (before between after : World)
    (end : RunEnd) → between ≡ before → RunsImages setup images history between after end
    → RunsImages setup images history before after end
runs-after setup images history before between after end same run =
    subst (λ world. RunsImages setup images history world after end) same run
