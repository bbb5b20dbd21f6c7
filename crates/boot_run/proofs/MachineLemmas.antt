-- From what the steps of a run leave to what the run leaves.
use Rattle.std.proofs.Common.{◌≡◌, ◌≢◌, ◌<◌, ℕ, zero, suc, Bool, true, false, Some, Ok, Err, List, [], ◌∷◌, length, slice_get, subst, sym, refl, ap, ◌∙◌, All, inl, inr, arith}
use Rattle.std.specs.Prelude.{Result}
use Rattle.std.specs.declared.alloc.Global.{Global}
use Rattle.std.specs.declared.dyn_box.DynBox.{DynBox}
use Rattle.std.proofs.lemmas.List.{length-map}
use Rattle.std.proofs.lemmas.List.Elements.{All-cons, All-head, All-tail}
use Rattle.std.proofs.lemmas.Option.{get_or_from_slice_get, none-some}
use Rattle.time_rules.specs.CivilTime.{is_time_packet}
use Rattle.os9_outer.specs.TerminalState.{TerminalState}
use Rattle.os9_outer.specs.declared.drive.BlockDriver.{Ghosts}
use Rattle.script_text.specs.declared.script.ScriptKey.{ScriptKey}
use Rattle.boot_run.specs.Loaded.{keys_for, loaded, loaded_from, with_keys, AreUnloaded}
use Rattle.lock_model.specs.declared.history.Entry.{Entry}
use Rattle.rbf_model.specs.Volume.{DiskVolume}
use Rattle.file_rules.specs.Files.{DriveState, KeepsDriveFaults}
use Rattle.file_drives.specs.Drives.{DriveView, boxed_seen, drive_states, drive_views, media_at, media_of, unused_drive}
use Rattle.file_drives.specs.Mounted.{DriveHolds}
use Rattle.file_state.specs.Tie.{RepresentsFiles}
use Rattle.cold_start.proofs.FirstLemmas.{some-volume}
use Rattle.cold_start.specs.Start.{HaveImages, HaveVolumes, StartsDrives}
use Rattle.cold_start.specs.declared.fault.StartFault.{StartFault}
use Rattle.machine_model.specs.ProcessStart.{RefusesBoot}
use Rattle.machine_model.specs.Living.{living_count}
use Rattle.machine_model.specs.declared.ends.BootFault.{BootFault}
use Rattle.machine_model.specs.declared.ends.BootFault.TheVariants.{OutOfMemory, BadModule, NoFirst, TooLarge}
use Rattle.machine_model.specs.Start.{Boot as Begun, Starts}
use Rattle.machine_model.specs.State.{State, has_living}
use Rattle.lock_laws.proofs.OpenRuns.{start-open}
use Rattle.os9_kernel.specs.declared.kernel.Kernel.{Kernel}
use Rattle.os9_kernel.specs.declared.new.Config.{Config}
use Rattle.os9_kernel.specs.declared.new.StartError.{StartError}
use Rattle.os9_kernel.specs.declared.new.StartError.TheVariants.{Boot, Drive}
use Rattle.os9_kernel.specs.Outside.{Outside}
use Rattle.os9_kernel.specs.Starting.{StartIsRefused, WhereRefused, drive_fault}
use Rattle.os9_kernel.specs.Tie.{Represents, RepresentsSomeState}
use Rattle.os9_kernel.proofs.Holding.{holds-volumes}
use Rattle.boot_run.specs.declared.machine.RunEnd.{RunEnd}
use Rattle.boot_run.specs.declared.machine.RunEnd.TheVariants.{Ended, Living, OutputFailed, NoMemory}
use Rattle.boot_run.specs.declared.run.RunFault.TheVariants as RunFault
use Rattle.boot_run.specs.declared.run.RunFault.TheVariants.{Output}
use Rattle.boot_run.specs.Console.{IsObserved}
use Rattle.boot_run.specs.Machine.{MachineCall, RunsTo, RunsWhole, Setup, StartsLoaded}
use Rattle.boot_run.specs.RunEnd.{start_end}
use Rattle.boot_run.specs.Slices.{RunsPartly, RunsSlices}
use Rattle.boot_run.specs.World.{World}
use Rattle.boot_run.proofs.RunLemmas.{none-living, some-living, terms-standing}

-- ---- what is in the drives

images-in : (drives : ℕ) (views : List DriveView) → ((n : ℕ) → n < drives → (image : List ℕ) × (media_at views n ≡ Some image)) → (images : List (List ℕ)) × HaveImages drives images views
images-in zero views there = ([], record { as_many = refl; each = λ n image is. absurd (none-some image is) })
images-in (suc drives) [] there =
    let (image, is) = there 0 (omega arith) in
    absurd (none-some image is)
images-in (suc drives) (view ∷ views) there =
    let (image, is) = there 0 (omega arith) in
    let (images, have) = images-in drives views (λ n low. there (suc n) (omega (arith, low))) in
    (image ∷ images, record { as_many = ap suc have.as_many; each = each image is images have })
  where
    each : (image : List ℕ) → media_at (view ∷ views) 0 ≡ Some image → (images : List (List ℕ)) → HaveImages drives
        images views → (n : ℕ) (other : List ℕ) → slice_get (image ∷ images) n ≡ Some other → media_at (view ∷ views)
        n ≡ Some other
    each image is images have zero other here = is ∙ here
    each image is images have (suc n) other here = have.each n other here

-- the images of these volumes
pub images-there : (drives : ℕ) (views : List DriveView) → HaveVolumes drives views → (images : List (List ℕ)) × HaveImages drives images views
images-there drives views have = images-in drives views (λ n low. image-at n (some-volume have.volumes n (omega (arith, low, have.as_many))))
  where
    image-at : (n : ℕ) → (v : DiskVolume) × (slice_get have.volumes n ≡ Some v) → (image : List ℕ) × (media_at views n ≡ Some image)
    image-at n (v, is) =
        let holds : DriveHolds views n v = have.hold.each n v is in
        (holds.on.image, ap (λ (view : DriveView). view.media) (get_or_from_slice_get views n holds.view unused_drive holds.is) ∙ holds.on.is)

-- there are as many drives behind a start
pub drives-started : {A : Type 0} (drives : ℕ) (result : Result A StartFault) (before after : List DriveView)
    → HaveVolumes drives before → StartsDrives drives result before after → length after ≡ length before
drives-started drives result before after have started = (started.reads have.volumes have.as_many have.hold).as_many

pub drives-counted : {A Table : Type 0} {Driver : Table → Type 0} (members : (drive : DynBox Table Global Driver) → Ghosts (Driver drive.vtable))
    (drives : ℕ) (result : Result A StartFault) (before after : List (DynBox Table Global Driver))
    → HaveVolumes drives (drive_views members before) → StartsDrives drives result (drive_views members before)
    (drive_views members after) → length after ≡ length before
drives-counted members drives result before after have started =
    sym (length-map after (boxed_seen members)) ∙ drives-started drives result (drive_views members before)
    (drive_views members after) have started ∙ length-map before (boxed_seen members)

-- the images are as they were, if those of each number are, in as many drives
pub media-kept : (before after : List DriveView) → length after ≡ length before → ((n : ℕ) → media_at after n ≡ media_at before n) → media_of after ≡ media_of before
media-kept [] [] count same = refl
media-kept [] (now ∷ after) count same = absurd (omega (arith, count))
media-kept (was ∷ before) [] count same = absurd (omega (arith, count))
media-kept (was ∷ before) (now ∷ after) count same =
    ap (λ media. media ∷ media_of after) (same 0)
    ∙ ap (λ others. was.media ∷ others) (media-kept before after (omega (arith, count)) (λ n. same (suc n)))

-- ---- loaded terminals

observed-from : (number : ℕ) (keys : List ScriptKey) (terms : List TerminalState) → All IsObserved terms → All IsObserved (loaded_from number keys terms)
observed-from number keys [] observed = observed
observed-from number keys (terminal ∷ terms) observed =
    All-cons IsObserved (with_keys (keys_for number keys) terminal) (loaded_from (suc number) keys terms)
    (All-head IsObserved terminal terms observed) (observed-from (suc number) keys terms
    (All-tail IsObserved terminal terms observed))

count-loaded : (number : ℕ) (keys : List ScriptKey) (terms : List TerminalState) → length (loaded_from number keys terms) ≡ length terms
count-loaded number keys [] = refl
count-loaded number keys (terminal ∷ terms) = ap suc (count-loaded (suc number) keys terms)

-- what a machine starts with, where these are its drives when the images are mounted, and its terminals
abbrev pub boot_with : Setup → List DriveState → List TerminalState → Begun
boot_with setup drives terms = record {
  file = setup.file;
  blocks = setup.blocks;
  time = setup.time;
  images = setup.images;
  drives = drives;
  terms = terms;
}

-- a kernel represents the state in which a machine starts with these devices
abbrev pub Begins : Setup → Kernel → Outside → Type 0
Begins setup kernel devices =
    (s : State) × Starts (boot_with setup (drive_states devices.drives) devices.terms) s × Represents kernel devices s

-- the world with other devices
abbrev pub with_devices : World → Outside → World
with_devices world devices = record world { devices = devices }

-- a part of a run leaves the same, whatever the devices were
partly-from : (slices : List ℕ) (s : State) (before after : World) (devices : Outside) → RunsPartly slices s (with_devices before devices) after → RunsPartly slices s before after
partly-from slices s before after devices ran = record {
  count = ran.count;
  states = ran.states;
  written = ran.written;
  reached = ran.reached;
  run = ran.run;
  n = ran.n;
  next = ran.next;
  lives = ran.lives;
  stopped = ran.stopped;
}

-- ---- a kernel stands, and the terminals were loaded

module _ (setup : Setup) (kernel : Kernel) (before : World) (started later : Outside)
    (unloaded : AreUnloaded before.devices.terms) (civil : is_time_packet setup.time ≡ true)
    (none_failed : KeepsDriveFaults (drive_states before.devices.drives) (drive_states started.drives))
    (drives : later.drives ≡ started.drives) (media : (n : ℕ) → media_at started.drives n ≡ media_at
    before.devices.drives n) (terms : later.terms ≡ loaded setup.keys before.devices.terms)
    (begins : Begins setup kernel started) where
  count : length later.terms ≡ length before.devices.terms
  count = ap length terms ∙ count-loaded 0 setup.keys before.devices.terms

  was : State
  was = begins.0

  -- the state with the terminals that are there now
  begun : State
  begun = record was { terms = later.terms }

  starts : Starts (boot_with setup (drive_states started.drives) later.terms) begun
  unfolding begun was
  starts =
      let it = begins.1 in
      record {
        entries = it.entries;
        number = it.number;
        entry = it.entry;
        memory = it.memory;
        has = it.has;
        begins = it.begins;
        files = it.files;
        mounted = it.mounted;
        is = ap (λ (s : State). let now : State = record s { terms = later.terms } in now) it.is;
      }

  starts-loaded : StartsLoaded setup before begun
  starts-loaded =
      subst (λ (drives : List DriveState). Starts (boot_with setup drives (loaded setup.keys before.devices.terms)) begun) none_failed
      (subst (λ (terms : List TerminalState). Starts (boot_with setup (drive_states started.drives) terms) begun) terms starts)

  tied : Represents kernel later begun
  unfolding begun was
  tied = record {
    processes = begins.2.processes;
    files = subst (λ (views : List DriveView). RepresentsFiles kernel.machine.files views was.files) (sym drives) begins.2.files;
    is = λ i. record (begins.2.is i) { terms = later.terms };
    run = start-open (boot_with setup (drive_states started.drives) later.terms) begun starts (omega (arith, count, unloaded.some)) (omega (arith, count, unloaded.few)) civil;
    looked = begins.2.looked;
    known = begins.2.known;
  }

  pub stands-loaded : RepresentsSomeState kernel later
  stands-loaded = (begun, tied)

  observed : All IsObserved before.devices.terms → All IsObserved later.terms
  observed told = subst (λ terms. All IsObserved terms) (sym terms) (observed-from 0 setup.keys before.devices.terms told)

  -- the media are those of before the start
  held : (n : ℕ) → media_at later.drives n ≡ media_at before.devices.drives n
  held n = ap (λ views. media_at views n) drives ∙ media n

  -- the slices were run
  runs-to : {Value : Type 0} (value : Value) (new : Kernel) (after : World) → RunsSlices setup.slices kernel new
      (Ok value) (with_devices before later) after → All IsObserved before.devices.terms → (t : State) × RunsTo setup
      begun t before after × Represents new after.devices t
  runs-to value new after ran told =
      let (states, written, t, run, there, gained, kept) = ran.run begun (observed told) tied in (
        t,
        record {
          states = states;
          written = written;
          run = run;
          output = gained;
          terminals = terms-standing new
              after.devices t there;
          drives = holds-volumes new after.devices t there;
          images = λ drive none. kept drive
              none ∙ held drive;
        },
        there,
      )

  -- it did, and so many slices were begun
  runs-whole : {Value : Type 0} (value : Value) (new : Kernel) (after : World) (lives : Bool) (begun_slices : ℕ)
      → RunsSlices setup.slices kernel new (Ok value) (with_devices before later) after
      → ((t : State) → Represents new after.devices t → has_living t ≡ lives)
      → ((t : State) → Represents new after.devices t → begun_slices ≡ t.processes.tick) → (history : List Entry)
      → ((t : State) → Represents new after.devices t → history ≡ t.files.records.history)
      → All IsObserved before.devices.terms → RunsWhole setup lives begun_slices history before after
  runs-whole value new after lives begun_slices ran living counted history entered told =
      let (t, to, there) = runs-to value new after ran told in
      record {
        s = begun;
        t = t;
        starts = starts-loaded;
        runs = to;
        living = living t there;
        ticks = counted t there;
        recorded = entered t there;
      }

  ran-ended : {Value : Type 0} (value : Value) (new : Kernel) (after : World) (ticks : ℕ) → RunsSlices setup.slices
      kernel new (Ok value) (with_devices before later) after → ((t : State) → Represents new after.devices t
      → living_count t.processes ≡ 0) → ((t : State) → Represents new after.devices t → ticks ≡ t.processes.tick)
      → (history : List Entry) → ((t : State) → Represents new after.devices t → history ≡ t.files.records.history)
      → MachineCall setup history before after (Ended ticks)
  ran-ended value new after ticks ran none counted history entered = record {
    comes = runs-whole value new after false ticks ran (λ t there. none-living t (none t there)) counted history entered;
    judged = tt;
    unrun = tt;
    output_fault = λ e. cc e;
    no_fault = λ no. ran.no_fault;
    files_kept = ran.files_kept;
  }

  ran-living : {Value : Type 0} (value : Value) (new : Kernel) (after : World) (ticks : ℕ) → RunsSlices setup.slices
      kernel new (Ok value) (with_devices before later) after → ((t : State) → Represents new after.devices t
      → living_count t.processes ≢ 0) → ((t : State) → Represents new after.devices t → ticks ≡ t.processes.tick)
      → (history : List Entry) → ((t : State) → Represents new after.devices t → history ≡ t.files.records.history)
      → MachineCall setup history before after (Living ticks)
  ran-living value new after ticks ran some counted history entered = record {
    comes = runs-whole value new after true ticks ran (λ t there. some-living t (some t there)) counted history entered;
    judged = tt;
    unrun = tt;
    output_fault = λ e. cc e;
    no_fault = λ no. ran.no_fault;
    files_kept = ran.files_kept;
  }

  -- to their end
  pub called-whole : {Value : Type 0} (value : Value) (new : Kernel) (after : World) (living ticks : ℕ) (end : RunEnd)
      → RunsSlices setup.slices kernel new (Ok value) (with_devices before later) after
      → ((t : State) → Represents new after.devices t → living ≡ living_count t.processes)
      → ((t : State) → Represents new after.devices t → ticks ≡ t.processes.tick) → (living ≡ 0 → end ≡ Ended ticks)
      → (living ≢ 0 → end ≡ Living ticks) → (history : List Entry)
      → ((t : State) → Represents new after.devices t → history ≡ t.files.records.history)
      → MachineCall setup history before after end
  called-whole value new after zero ticks end ran alive counted idle lives history entered =
      subst (MachineCall setup history before after) (sym (idle refl))
      (ran-ended value new after ticks ran (λ t there. sym (alive t there)) counted history entered)
  called-whole value new after (suc living) ticks end ran alive counted idle lives history entered =
      subst (MachineCall setup history before after) (sym (lives (λ e. omega (arith, e))))
      (ran-living value new after ticks ran (λ t there none. omega (arith, alive t there, none)) counted history
      entered)

  partly : (after : World) → ((s : State) → All IsObserved later.terms → Represents kernel later s
      → RunsPartly setup.slices s (with_devices before later) after) → All IsObserved before.devices.terms
      → RunsPartly setup.slices begun before after
  partly after ran told = partly-from setup.slices begun before after later (ran begun (observed told) tied)

  -- in part, since the output could not be written
  pub called-output : {Value : Type 0} (new : Kernel) (after : World) → RunsSlices {Value = Value} setup.slices kernel
      new (Err Output) (with_devices before later) after → MachineCall setup [] before after OutputFailed
  called-output new after ran = record {
    comes = λ told. record { s = begun; starts = starts-loaded; partly = partly after ran.partial told };
    judged = tt;
    unrun = tt;
    output_fault = λ e. ran.output_fault;
    no_fault = λ no. absurd (no refl);
    files_kept = ran.files_kept;
  }

  -- or since memory was out
  pub called-without_memory : {Value : Type 0} (new : Kernel) (after : World) → RunsSlices {Value = Value}
      setup.slices kernel new (Err RunFault.NoMemory) (with_devices before later) after → MachineCall setup []
      before after NoMemory
  called-without_memory new after ran = record {
    comes = λ told. inr (record { s = begun; starts = starts-loaded; partly = partly after ran.partial told });
    judged = tt;
    unrun = tt;
    output_fault = λ e. cc e;
    no_fault = λ no. ran.no_fault;
    files_kept = ran.files_kept;
  }

-- ---- nothing was run

-- memory was out before the first slice
pub called-nothing : (setup : Setup) (world : World) (devices : Outside) → KeepsDriveFaults (drive_states world.devices.drives) (drive_states devices.drives)
    → media_of devices.drives ≡ media_of world.devices.drives → devices.terms ≡ world.devices.terms → MachineCall setup [] world (with_devices world devices) NoMemory
called-nothing setup world devices none_failed media terms = record {
  comes = λ told. inl (record { out = refl; terminals = terms; none_failed = none_failed; media_kept = media });
  judged = tt;
  unrun = tt;
  output_fault = λ e. cc e;
  no_fault = λ no. (refl, refl, refl);
  files_kept = refl;
}

pub where-refused : {A B : Type 0} (error : StartError) → (A → B) → WhereRefused error A → WhereRefused error B
where-refused (Boot fault) then it = λ e. then (it e)
where-refused (Drive drive number) then it = tt

-- the machine did not start
pub called-refused : (setup : Setup) (config : Config) (world : World) (devices : Outside) (error : StartError)
    → config.blocks ≡ setup.blocks → length setup.images ≡ config.images → StartIsRefused config setup.file error
    → WhereRefused error (devices ≡ world.devices) → StartsDrives {A = Kernel} config.images (drive_fault (Err error))
    world.devices.drives devices.drives → length devices.drives ≡ length world.devices.drives
    → devices.terms ≡ world.devices.terms → MachineCall setup [] world (with_devices world devices) (start_end error)
called-refused setup config world devices (Boot OutOfMemory) blocks images refused same moved count terms =
    called-nothing setup world devices moved.moves (media-kept world.devices.drives devices.drives count moved.media) terms
called-refused setup config world devices (Boot (BadModule at error)) blocks images refused same moved count terms = record {
  comes = λ told. tt;
  judged = subst (λ (blocks : ℕ). RefusesBoot setup.file blocks (BadModule at error)) blocks (refused (λ e. cc e));
  unrun = ap (λ (devices : Outside). with_devices world devices) (same (λ e. cc e));
  output_fault = λ e. cc e;
  no_fault = λ no. (refl, refl, refl);
  files_kept = refl;
}
called-refused setup config world devices (Boot NoFirst) blocks images refused same moved count terms = record {
  comes = λ told. tt;
  judged = subst (λ (blocks : ℕ). RefusesBoot setup.file blocks NoFirst) blocks (refused (λ e. cc e));
  unrun = ap (λ (devices : Outside). with_devices world devices) (same (λ e. cc e));
  output_fault = λ e. cc e;
  no_fault = λ no. (refl, refl, refl);
  files_kept = refl;
}
called-refused setup config world devices (Boot TooLarge) blocks images refused same moved count terms = record {
  comes = λ told. tt;
  judged = subst (λ (blocks : ℕ). RefusesBoot setup.file blocks TooLarge) blocks (refused (λ e. cc e));
  unrun = ap (λ (devices : Outside). with_devices world devices) (same (λ e. cc e));
  output_fault = λ e. cc e;
  no_fault = λ no. (refl, refl, refl);
  files_kept = refl;
}
called-refused setup config world devices (Drive drive number) blocks images accepted same moved count terms = record {
  comes = λ told. tt;
  judged = subst (λ (blocks : ℕ). (fault : BootFault) → ¬ RefusesBoot setup.file blocks fault) blocks accepted;
  unrun = record {
    among = subst (λ k. drive < k) (sym images) moved.among;
    failed = moved.moves;
    media_kept = media-kept world.devices.drives devices.drives count moved.media;
    terms_kept = terms;
    out_kept = refl;
  };
  output_fault = λ e. cc e;
  no_fault = λ no. (refl, refl, refl);
  files_kept = refl;
}
