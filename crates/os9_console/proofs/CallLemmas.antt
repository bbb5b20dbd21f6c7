-- A boot at whose machine a person types.
use Rattle.std.proofs.Common.{◌≡◌, ◌⊎◌, ◌==◌, ℕ, Bool, true, false, Option, Some, None, List, length, refl, sym, ap, subst, ◌∙◌, inl, inr, All}
use Rattle.std.specs.Prelude.{IfSome, if◌then◌else◌}
use Rattle.std.proofs.lemmas.Bool.{eqb-true}
use Rattle.lock_model.specs.declared.history.Entry.{Entry}
use Rattle.os9_outer.specs.Host.{HostFiles, IfObserved}
use Rattle.machine_model.specs.declared.ends.BootFault.{BootFault}
use Rattle.machine_model.specs.declared.ends.BootFault.TheVariants.{OutOfMemory, BadModule as BadModuleFault, NoFirst as NoFirstFault, TooLarge as TooLargeFault}
use Rattle.boot_run.specs.Loaded.{HasNoKeys}
use Rattle.file_drives.specs.Drives.{drive_states}
use Rattle.machine_model.specs.State.{State}
use Rattle.os9_kernel.specs.Outside.{Outside}
use Rattle.os9_words.specs.declared.command.RunWords.{RunWords}
use Rattle.boot_run.specs.BootFile.{IsBootFile, IsFirstFault, IsVolume}
use Rattle.boot_run.specs.Images.{WritesAll, WritesUpTo, images_of}
use Rattle.boot_run.specs.Outcome.{EndsWithImages, with_images_in}
use Rattle.boot_run.specs.Console.{IsObserved}
use Rattle.boot_run.specs.Machine.{IsUnrun, Setup}
use Rattle.boot_run.specs.World.{World, HasNoFault}
use Rattle.boot_run.specs.declared.machine.RunEnd.{RunEnd}
use Rattle.boot_run.specs.declared.machine.RunEnd.TheVariants as Run
use Rattle.boot_run.proofs.ChangeLemmas.{same-changes}
use Rattle.boot_run.specs.End.{boot_end, run_file_name}
use Rattle.boot_run.specs.Fails.{FailsAsReported}
use Rattle.boot_run.specs.Stops.{StopsAtRead}
use Rattle.boot_run.specs.declared.status.End.{End}
use Rattle.boot_run.specs.declared.status.End.TheVariants.{Ended, Living, CannotRead, CannotWrite, CannotWriteImage, NoMemory, BadImage, BadText, BadBounds, CannotWriteFile, Refused, BadSource, TerminalFailed}
use Rattle.os9_boot.specs.Boots.{IfAllObserved, MachineComesTo, RunsUnwritten}
use Rattle.os9_boot.specs.History.{Outputs, output_bytes, output_names, outputs_of}
use Rattle.os9_boot.specs.Images.{LackBootFile, RefusesImages}
use Rattle.os9_boot.specs.BootLeft.{CommandLeavesDevices}
use Rattle.os9_boot.specs.Written.{EndsBoot, StopsAt, WritesBack, end_unwritten}
use Rattle.os9_boot.proofs.BootCallLemmas.{kept-counts, still-silent, still-undone}
use Rattle.os9_boot.proofs.MachineLemmas.{EndsSo, IsOfMachine, RunFails, machine-ends}
use Rattle.console_run.specs.Typed.{kept_keys, kept_slices}
use Rattle.console_run.specs.declared.typed.Typed.{Typed}
use Rattle.console_run.specs.Keyboard.{KeyboardState}
use Rattle.console_run.specs.Lines.{KeepsLines}
use Rattle.console_run.specs.Session.{AsksKeyboard, HasTypedSession, IsPartTo, StopsFor, StopsConsoleSession}
use Rattle.console_run.specs.TypedTurn.{TypedTurn}
use Rattle.console_run.proofs.SessionLemmas.{runs-first}
use Rattle.console_run.specs.declared.session.SessionEnd.TheVariants.{LineLost, OfRun}
use Rattle.console_run.specs.declared.turns.Stop.{Stop}
use Rattle.os9_console.specs.Call.{ConsoleCall, ConsoleComesTo, ConsoleMayEnd, EndsAsSession, EndsUnwritten, ConsoleWithoutMemory, LeavesKeyboard, MachineIsSession, SetsUpSession, StopsUnwritten, WasSession}
use Rattle.os9_console.specs.Images.{LeavesSession, RunsConsole, StopsMidway}
use Rattle.os9_console.proofs.StopLemmas.{all-observed}

-- ---- ends before a machine ran

-- memory was out
pub out-of-memory : (boot : RunWords) (typed : Typed) (from to : KeyboardState) (before after : World)
    → KeepsLines typed from to → to ≡ from → after ≡ before → ConsoleCall boot typed NoMemory from to before after
out-of-memory boot typed from to before after lines kept same = record {
  comes = inl (still-undone before after same, kept);
  may = tt;
  keyboard = tt;
  lines = lines;
  devices = tt;
  host = kept-counts before after same;
  files = same-changes (output_names (outputs_of boot)) before.files after.files (λ i. (same i).files);
}

-- an image could not be read, or memory was out
pub console-stopped : (boot : RunWords) (typed : Typed) (keyboard : KeyboardState) (before after : World) (end : End)
    → KeepsLines typed keyboard keyboard → StopsAtRead (run_file_name boot) before after end → ConsoleCall boot typed end keyboard keyboard before after
console-stopped boot typed keyboard before after (CannotRead input) lines (name, named, it) = record {
  comes = tt;
  may = tt;
  keyboard = refl;
  lines = lines;
  devices = record { out = it.out; devices = it.devices };
  host = (name, named, it.failed);
  files = it.files;
}
console-stopped boot typed keyboard before after NoMemory lines same = out-of-memory boot typed keyboard keyboard before after lines refl same
console-stopped boot typed keyboard before after end lines stops = absurd stops

-- what follows of the images that were read
of-files : (told : Option HostFiles) (boot : RunWords) (images : List (List ℕ)) (fact : HostFiles → Type 0)
    → IfSome told (λ files. images ≡ images_of files boot.files)
    → ((files : HostFiles) → images ≡ images_of files boot.files → fact files) → IfSome told fact
of-files None boot images fact has follows = tt
of-files (Some files) boot images fact has follows = follows files has

-- the images were refused
pub console-refused : (boot : RunWords) (typed : Typed) (keyboard : KeyboardState) (before after : World) (end : End)
    (images : List (List ℕ)) → KeepsLines typed keyboard keyboard → after ≡ before → IfSome before.files (λ files. images ≡ images_of files boot.files)
    → RefusesImages images end → ConsoleCall boot typed end keyboard keyboard before after
console-refused boot typed keyboard before after (BadImage number fault) images lines same has refused = record {
  comes = of-files before.files boot images (λ files. IsFirstFault (images_of files boot.files) number fault) has
      (λ files is. subst (λ images. IsFirstFault images number fault) is refused);
  may = tt;
  keyboard = refl;
  lines = lines;
  devices = still-silent before after same;
  host = kept-counts before after same;
  files = λ i. (same i).files;
}
console-refused boot typed keyboard before after BadBounds images lines same has refused = record {
  comes = of-files before.files boot images (λ files. LackBootFile (images_of files boot.files)) has (λ files is. subst LackBootFile is refused);
  may = tt;
  keyboard = refl;
  lines = lines;
  devices = still-silent before after same;
  host = kept-counts before after same;
  files = λ i. (same i).files;
}
console-refused boot typed keyboard before after NoMemory images lines same has refused = out-of-memory boot typed keyboard keyboard before after lines refl same
console-refused boot typed keyboard before after end images lines same has refused = absurd refused

-- ---- a machine ran

fails-as : (boot : RunWords) (before after : World) (end : End) → RunFails (outputs_of boot) end before after → FailsAsReported (run_file_name boot) end before after
fails-as boot before after (CannotRead input) failed = absurd failed
fails-as boot before after CannotWrite failed = failed
fails-as boot before after (CannotWriteImage number) failed = failed
fails-as boot before after CannotWriteFile failed = failed
fails-as boot before after end kept = kept

may-end : (outputs : Outputs) (before after : World) (end : End) → IsOfMachine end → RunFails outputs end before after → ConsoleMayEnd outputs end
may-end outputs before after (BadText input line) of failed = absurd of
may-end outputs before after CannotWriteFile of (name, named, failed) = rw named refl
may-end outputs before after (Refused number) of failed = absurd of
may-end outputs before after (BadSource line error) of failed = absurd of
may-end outputs before after (TerminalFailed n) of failed = absurd of
may-end outputs before after end of failed = tt

-- the machine of these words with a boot file and images, driven by what is kept of a session
abbrev pub boot_setup : RunWords → List ℕ → List (List ℕ) → Typed → Setup
boot_setup boot file images typed = record {
  file = file;
  blocks = boot.blocks;
  time = boot.start;
  images = images;
  keys = kept_keys typed;
  slices = kept_slices typed;
}

-- what was written behind it is not part of the session
leaves-then : (setup : Setup) (images : List (List ℕ)) (history : List Entry) (typed : Typed) (before mid after : World)
    (turns : List TypedTurn) (t : State) → after.out ≡ mid.out → after.devices ≡ mid.devices
    → LeavesSession setup images history typed before mid turns t
    → LeavesSession setup images history typed before after turns t
leaves-then setup images history typed before mid after turns t out devices it = record {
  s = it.s;
  starts = it.starts;
  session = subst (λ (stream : Option (List ℕ)). HasTypedSession turns it.s t typed before.out stream) (sym out) it.session;
  terminals = ap (λ (devices : Outside). devices.terms) devices ∙ it.terminals;
  drives = ap (λ (devices : Outside). drive_states devices.drives) devices ∙ it.drives;
  volumes = it.volumes;
  recorded = it.recorded;
}

stops-then : (setup : Setup) (images : List (List ℕ)) (history : List Entry) (typed : Typed) (lives : Bool) (stop : Stop)
    (from to : KeyboardState) (before mid after : World) → after.out ≡ mid.out → after.devices ≡ mid.devices
    → StopsConsoleSession (LeavesSession setup images history typed before mid) lives stop from to before mid
    → StopsConsoleSession (LeavesSession setup images history typed before after) lives stop from to before after
stops-then setup images history typed lives stop from to before mid after out devices it = record {
  turns = it.turns;
  t = it.t;
  came = leaves-then setup images history typed before mid after it.turns it.t out devices it.came;
  living = it.living;
  stops = subst (λ (stream : Option (List ℕ)). StopsFor stop it.turns it.t from to before.out stream) (sym out) it.stops;
}

-- by how it ended, and what came of the machine
module _ (boot : RunWords) (typed : Typed) (setup : Setup) (from to : KeyboardState) (before after : World) (sets : SetsUpSession before.files boot typed setup) where
  pub machine-is : (end : End) → MachineComesTo setup (outputs_of boot) before after end
      → WasSession setup (outputs_of boot) typed from to before after end → MachineIsSession boot typed from to before after end
  machine-is end comes was = record { setup = setup; sets = sets; comes = comes; session = was }

  -- it was a session; where memory was out, what came of the machine is said beside it
  abbrev WasSo : End → Type 0
  WasSo NoMemory = ConsoleWithoutMemory boot typed from to before after
  WasSo end = WasSession setup (outputs_of boot) typed from to before after end

  console-comes : (end : End) → IsOfMachine end → EndsSo setup (outputs_of boot) before after end → WasSo end → ConsoleComesTo boot typed from to before after end
  console-comes (CannotRead input) of comes was = tt
  console-comes (BadText input line) of comes was = absurd of
  console-comes (BadImage number fault) of comes was = absurd of
  console-comes BadBounds of comes was = absurd of
  console-comes NoMemory of comes was = was
  console-comes end of comes was = machine-is end comes was

module _ (boot : RunWords) (typed : Typed) (file : List ℕ) (old images : List (List ℕ)) (history : List Entry)
    (from to : KeyboardState) (before mid after : World) (answer : End)
    (sets : SetsUpSession before.files boot typed (boot_setup boot file old typed)) (still : mid.files ≡ before.files) where
  abbrev setup : Setup
  setup = boot_setup boot file old typed

  abbrev outputs : Outputs
  outputs = outputs_of boot

  abbrev Was : End → Type 0
  Was end = WasSo boot typed setup from to before after sets end

  none-refused : (fault : BootFault) → after ≡ before → to ≡ from → Was (boot_end fault)
  none-refused OutOfMemory same asks = inl (still-undone before after same, asks)
  none-refused (BadModuleFault at error) same asks = tt
  none-refused NoFirstFault same asks = tt
  none-refused TooLargeFault same asks = tt

  written-from : (names bytes : List (List ℕ)) (number : ℕ) → IfObserved (WritesUpTo number names bytes) mid.files
      after.files → IfObserved (WritesUpTo number names bytes) before.files after.files
  written-from names bytes number wrote = subst (λ files. IfObserved (WritesUpTo number names bytes) files after.files) still wrote

  -- it ran to its end, and its images were written
  ends-as : (lives : Bool) → (All IsObserved before.devices.terms → StopsConsoleSession (LeavesSession setup images history typed
      before mid) lives Stop.Over from to before mid) → after.out ≡ mid.out → after.devices ≡ mid.devices
      → IfObserved (WritesAll (output_names outputs) (output_bytes outputs images history)) mid.files after.files
      → All IsObserved before.devices.terms → EndsAsSession setup outputs typed lives from to before after
  ends-as lives it out devices wrote told = record {
    images = images;
    history = history;
    session = stops-then setup images history typed lives Stop.Over from to before mid after out devices (it told);
    files = subst (λ files. IfObserved (WritesAll (output_names outputs) (output_bytes outputs images history)) files after.files) still wrote;
  }

  -- or up to one
  ends-part : (lives : Bool) → (All IsObserved before.devices.terms → StopsConsoleSession (LeavesSession setup images history typed
      before mid) lives Stop.Over from to before mid) → after.out ≡ mid.out → after.devices ≡ mid.devices → (number : ℕ)
      → IfObserved (WritesUpTo number (output_names outputs) (output_bytes outputs images history)) mid.files after.files
      → All IsObserved before.devices.terms → EndsUnwritten setup outputs typed number from to before after
  ends-part lives it out devices number wrote told = record {
    lives = lives;
    images = images;
    history = history;
    session = stops-then setup images history typed lives Stop.Over from to before mid after out devices (it told);
    files = written-from (output_names outputs) (output_bytes outputs images history) number wrote;
  }

  ran-part : (lives : Bool) (begun : ℕ) → (All IsObserved before.devices.terms → EndsWithImages setup lives begun images
      history before mid) → after.out ≡ mid.out → after.devices ≡ mid.devices → (number : ℕ)
      → IfObserved (WritesUpTo number (output_names outputs) (output_bytes outputs images history)) mid.files after.files
      → All IsObserved before.devices.terms → RunsUnwritten setup outputs number before after
  ran-part lives begun ran out devices number wrote told =
      let it : EndsWithImages setup lives begun images history before mid = ran told in
      record {
        t = it.t;
        written = it.written;
        images = images;
        outcome = record {
          s = it.outcome.s;
          starts = it.outcome.starts;
          states = it.outcome.states;
          run = it.outcome.run;
          terminals = ap (λ (devices : Outside). devices.terms) devices ∙ it.outcome.terminals;
          drives = ap (λ (devices : Outside). drive_states devices.drives) devices ∙ it.outcome.drives;
          volumes = it.outcome.volumes;
          unchanged = it.outcome.unchanged;
        };
        output = out ∙ it.output;
        files = subst (λ (history : List Entry). IfObserved (WritesUpTo number (output_names outputs) (output_bytes outputs images history)) before.files after.files) it.recorded
            (written-from (output_names outputs) (output_bytes outputs images history) number wrote);
      }

  was-part : (number : ℕ) → IfAllObserved before (EndsUnwritten setup outputs typed number from to before after) → Was (end_unwritten outputs number)
  was-part number part = by (number == length outputs.images) refl
    where
      by : (last : Bool) → (number == length outputs.images) ≡ last → Was (if last then CannotWriteFile else CannotWriteImage number)
      by true is = λ told.
          subst (λ number. EndsUnwritten setup outputs typed number from to before after) (eqb-true number (length outputs.images) is) (part told)
      by false is = part

  was-written : (end : End) → (after.out ≡ mid.out → after.devices ≡ mid.devices
      → IfObserved (WritesAll (output_names outputs) (output_bytes outputs images history)) mid.files after.files
      → Was end)
      → (after.out ≡ mid.out → after.devices ≡ mid.devices → (number : ℕ)
      → IfObserved (WritesUpTo number (output_names outputs) (output_bytes outputs images history)) mid.files after.files
      → IfAllObserved before (EndsUnwritten setup outputs typed number from to before after × RunsUnwritten setup outputs number before after))
      → WritesBack outputs (output_bytes outputs images history) end answer mid after → Was answer
  was-written end was part wrote = by wrote.files
    where
      by : ((answer ≡ end) × HasNoFault mid after × IfObserved (WritesAll (output_names outputs) (output_bytes outputs images history)) mid.files after.files) ⊎
          ((number : ℕ) × StopsAt outputs (output_bytes outputs images history) number answer mid after) → Was answer
      by (inl (is, kept, all)) = subst Was (sym is) (was wrote.out_kept wrote.devices_kept all)
      by (inr (number, (written, inl (is, failed)))) =
          subst Was (sym is) (was-part number (λ told. (part wrote.out_kept wrote.devices_kept number written told).0))
      by (inr (number, (written, inr (is, kept)))) =
          subst Was (sym is)
          (inr (inl (machine-is boot typed setup from to before after sets NoMemory
          (λ told. inr (number, (part wrote.out_kept wrote.devices_kept number written told).1))
          (λ told. inr (number, (part wrote.out_kept wrote.devices_kept number written told).0)))))

  -- it stopped before its end
  stops-unwritten : after ≡ mid → StopsMidway setup typed images from to before mid → StopsUnwritten setup typed from to before after
  stops-unwritten same it = record {
    images = images;
    within = subst (λ (world : World). StopsMidway setup typed images from to before world) (sym same) it;
    files = ap (λ (world : World). world.files) same ∙ still;
  }

  was-memory : All HasNoKeys before.devices.terms → (All IsObserved before.devices.terms → IsPartTo (IsUnrun before mid)
      (StopsMidway setup typed images from to before mid) (OfRun Run.NoMemory) from to) → after ≡ mid → Was NoMemory
  was-memory none part same = elim (all-observed before.devices.terms) [
    | inl told ↦ by (part told)
    | inr other ↦ inr (inl (machine-is boot typed setup from to before after sets NoMemory (λ told. absurd (other told)) (λ told. absurd (other told))))
  ]
    where
      by : (IsUnrun before mid × (to ≡ from)) ⊎ StopsMidway setup typed images from to before mid → Was NoMemory
      by (inl (unrun, kept)) =
          inl (record { unrun = subst (λ (world : World). IsUnrun before world) (sym same) unrun; files = ap (λ (world : World). world.files) same ∙ still }, kept)
      by (inr it) =
          let stops : StopsUnwritten setup typed from to before after = stops-unwritten same it in
          inr (inl (machine-is boot typed setup from to before after sets NoMemory
          (λ told. inl (record {
            first = record { images = stops.images; first = runs-first setup typed from to before (with_images_in stops.images after) none stops.within };
            files = stops.files;
          })) (λ told. inl stops)))

  was-session : All HasNoKeys before.devices.terms → (end : RunEnd)
      → RunsConsole setup typed images history (OfRun end) from to before mid
      → EndsBoot outputs (output_bytes outputs images history) end answer mid after → Was answer
  was-session none (Run.Ended begun) ran ends =
      was-written Ended (λ out devices wrote. ends-as false ran.session out devices wrote)
      (λ out devices number wrote told. (ends-part false ran.session out devices number wrote told, ran-part false begun ran.machine.gives out devices number wrote told)) ends
  was-session none (Run.Living begun) ran ends =
      was-written Living (λ out devices wrote. ends-as true ran.session out devices wrote)
      (λ out devices number wrote told. (ends-part true ran.session out devices number wrote told, ran-part true begun ran.machine.gives out devices number wrote told)) ends
  was-session none (Run.Refused fault) ran (is, same) = subst Was (sym is) (none-refused fault (same ∙ ran.machine.unrun) ran.keyboard)
  was-session none (Run.DriveFailed drive number) ran (is, same) = subst Was (sym is) tt
  was-session none Run.OutputFailed ran (is, same) = subst Was (sym is) (λ told. stops-unwritten same (ran.stopped told))
  was-session none Run.NoMemory ran (is, same) = subst Was (sym is) (was-memory none ran.stopped same)

-- ---- the keyboard

module _ (outputs : Outputs) (bytes : List (List ℕ)) (from to : KeyboardState) (mid after : World) (answer : End) where
  unwritten-asked : (number : ℕ) → LeavesKeyboard (end_unwritten outputs number) from to
  unwritten-asked number = of (number == length outputs.images)
    where
      of : (last : Bool) → LeavesKeyboard (if last then CannotWriteFile else CannotWriteImage number) from to
      of true = tt
      of false = tt

  written-asked : (end : End) → LeavesKeyboard end from to → WritesBack outputs bytes end answer mid after → LeavesKeyboard answer from to
  written-asked end asked wrote = by wrote.files
    where
      by : ((answer ≡ end) × HasNoFault mid after × IfObserved (WritesAll (output_names outputs) bytes) mid.files after.files) ⊎
          ((number : ℕ) × StopsAt outputs bytes number answer mid after) → LeavesKeyboard answer from to
      by (inl (is, kept, all)) = subst (λ end. LeavesKeyboard end from to) (sym is) asked
      by (inr (number, (written, inl (is, failed)))) = subst (λ end. LeavesKeyboard end from to) (sym is) (unwritten-asked number)
      by (inr (number, (written, inr (is, kept)))) = subst (λ end. LeavesKeyboard end from to) (sym is) tt

  fault-asked : (fault : BootFault) → to ≡ from → LeavesKeyboard (boot_end fault) from to
  fault-asked OutOfMemory kept = tt
  fault-asked (BadModuleFault at error) kept = kept
  fault-asked NoFirstFault kept = kept
  fault-asked TooLargeFault kept = kept

  keyboard-left : (end : RunEnd) → AsksKeyboard (OfRun end) from to → EndsBoot outputs bytes end answer mid after → LeavesKeyboard answer from to
  keyboard-left (Run.Ended begun) kept ends = written-asked Ended tt ends
  keyboard-left (Run.Living begun) kept ends = written-asked Living tt ends
  keyboard-left (Run.Refused fault) kept (is, same) = subst (λ end. LeavesKeyboard end from to) (sym is) (fault-asked fault kept)
  keyboard-left (Run.DriveFailed drive number) kept (is, same) = subst (λ end. LeavesKeyboard end from to) (sym is) kept
  keyboard-left Run.OutputFailed kept (is, same) = subst (λ end. LeavesKeyboard end from to) (sym is) tt
  keyboard-left Run.NoMemory kept (is, same) = subst (λ end. LeavesKeyboard end from to) (sym is) tt

sets-up : (told : Option HostFiles) (boot : RunWords) (typed : Typed) (file : List ℕ) (images : List (List ℕ))
    → length images ≡ length boot.files → All IsVolume images → IsBootFile images file
    → IfSome told (λ files. images ≡ images_of files boot.files) → SetsUpSession told boot typed (boot_setup boot file
    images typed)
sets-up told boot typed file images many volumes whole is = record {
  keys = refl;
  slices = refl;
  blocks = refl;
  time = refl;
  as_many = many;
  images = is;
  volumes = volumes;
  file = whole;
}

-- the machine was run with the images, and they were written if it came to its end
pub console-ended : (boot : RunWords) (typed : Typed) (file : List ℕ) (images new : List (List ℕ))
    (history : List Entry) (from to : KeyboardState) (before mid after : World) (end : RunEnd) (answer : End) → length images ≡ length
    boot.files → All IsVolume images
    → IsBootFile images file → All HasNoKeys before.devices.terms → IfSome before.files (λ files. images ≡ images_of files boot.files)
    → RunsConsole (boot_setup boot file images typed) typed new history (OfRun end) from to before mid
    → EndsBoot (outputs_of boot) (output_bytes (outputs_of boot) new history) end answer mid after → ConsoleCall boot typed answer from to before after
console-ended boot typed file images new history from to before mid after end answer many volumes whole none has ran ends =
    let setup : Setup = boot_setup boot file images typed in
    let sets : SetsUpSession before.files boot typed setup = sets-up before.files boot typed file images many volumes whole has in
    let it = machine-ends setup (outputs_of boot) new history before mid after end answer ran.machine ends in
    let was = was-session boot typed file images new history from to before mid after answer sets ran.machine.files_kept none end ran ends in
    record {
      comes = console-comes boot typed setup from to before after sets answer it.kind it.comes was;
      may = may-end (outputs_of boot) before after answer it.kind it.host;
      keyboard = keyboard-left (outputs_of boot) (output_bytes (outputs_of boot) new history) from to mid after answer end ran.keyboard ends;
      lines = ran.lines;
      devices = subst (λ count. CommandLeavesDevices count before after answer) many it.devices;
      host = fails-as boot before after answer it.host;
      files = it.files;
    }

-- or it came to a line for which memory was out
pub console-lost : (boot : RunWords) (typed : Typed) (file : List ℕ) (images new : List (List ℕ))
    (history : List Entry) (from to : KeyboardState) (before after : World) → length images ≡ length boot.files → All IsVolume images
    → IsBootFile images file
    → IfSome before.files (λ files. images ≡ images_of files boot.files) → (end : RunEnd)
    → RunsConsole (boot_setup boot file images typed) typed new history (LineLost end) from to before after
    → ConsoleCall boot typed NoMemory from to before after
console-lost boot typed file images new history from to before after many volumes whole has end ran = record {
  comes = inr (inr (record {
    setup = boot_setup boot file images typed;
    sets = sets-up before.files boot typed file images many volumes whole has;
    session = λ told. record { images = new; history = history; session = ran.session told; files = ran.machine.files_kept };
  }));
  may = tt;
  keyboard = tt;
  lines = ran.lines;
  devices = tt;
  host = ran.machine.no_fault ran.at_line;
  files = same-changes (output_names (outputs_of boot)) before.files after.files ran.machine.files_kept;
}
