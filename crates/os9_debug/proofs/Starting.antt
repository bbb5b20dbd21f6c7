-- A machine that is started, and started again.
use Rattle.std.proofs.Common.{◌≡◌, ℕ, suc, ◌<◌, ◌≤◌, All, Result, Ok, Err, List, [], ◌∷◌, length, refl, sym, ap, ◌∙◌, subst, arith}
use Rattle.std.specs.List.{AllZip}
use Rattle.std.proofs.lemmas.List.{length-map}
use Rattle.std.proofs.lemmas.Option.{none-some}
use Rattle.os9_base.specs.declared.limits.TheConstants.{LAST_TICK}
use Rattle.os9_outer.specs.TerminalState.{TerminalState}
use Rattle.script_text.specs.declared.script.ScriptKey.{ScriptKey}
use Rattle.boot_run.specs.Loaded.{HasNoKeys, loaded, loaded_from}
use Rattle.boot_run.specs.Dropped.{LosesKeys}
use Rattle.file_rules.specs.Files.{DriveState, KeepsDriveFaults as NoDriveHasFailed}
use Rattle.file_drives.specs.Drives.{DriveView, drive_state, drive_states}
use Rattle.cold_start.specs.Start.{FailsAmong, HaveImages, HaveVolumes, StartsDrives}
use Rattle.file_state.specs.Tie.{RepresentsFiles}
use Rattle.machine_model.specs.Console.{terminals_emptied}
use Rattle.machine_model.specs.Terminals.{TerminalsOnlyGain}
use Rattle.machine_model.specs.declared.ends.BootFault.{BootFault}
use Rattle.machine_model.specs.declared.ends.BootFault.TheVariants.{OutOfMemory, BadModule, NoFirst, TooLarge}
use Rattle.machine_model.specs.Devices.{DrivesOnlyGain}
use Rattle.machine_model.specs.Start.{Boot as Begun, Starts}
use Rattle.machine_model.specs.State.{State}
use Rattle.machine_model.proofs.TerminalLaws.{gain-same}
use Rattle.machine_model.proofs.Drives.{drives-same}
use Rattle.machine_model.proofs.Starts.{starts-one}
use Rattle.lock_laws.proofs.OpenRuns.{start-open}
use Rattle.os9_kernel.specs.Outside.{Outside}
use Rattle.os9_kernel.specs.Starting.{AcceptsBootFile, IsStarted, StartIsRefused, WhereRefused, drive_fault}
use Rattle.os9_kernel.specs.Tie.{Represents, RepresentsSomeState}
use Rattle.os9_kernel.specs.declared.kernel.Kernel.{Kernel}
use Rattle.os9_kernel.specs.declared.new.StartError.{StartError}
use Rattle.os9_kernel.specs.declared.new.StartError.TheVariants.{Boot, Drive}
use Rattle.run_laws.specs.Faults.{NotFailed}
use Rattle.os9_debug.specs.Course.{Course}
use Rattle.os9_debug.specs.Prints.{IsCourse}
use Rattle.os9_debug.specs.Devices.{DevicesGain, Unfailed}
use Rattle.os9_debug.specs.Position.{CanGoOn, IsAt}
use Rattle.os9_debug.specs.declared.position.Position.{Position}
use Rattle.os9_debug.specs.Machine.{CanStart, HasNoBytes, boot_of, debug_config, loaded_devices, start_fault}
use Rattle.os9_debug.specs.Moves.{FailsToMove, FailsToStart, HasCome, HasRestarted, HasStartedMachine, IsBack, IsPositionOf}
use Rattle.os9_debug.specs.declared.machine.Machine.{Machine}
use Rattle.os9_debug.specs.declared.machine.SessionFault.{SessionFault}
use Rattle.os9_debug.specs.declared.machine.SessionFault.TheVariants.{Refused, TerminalFailed, OutputFailed, NoMemory}
use Rattle.os9_debug.proofs.Back.{as-many, first-again, loaded-again, unloaded-again}
use Rattle.os9_debug.proofs.Counted.{fell-dropped, fell-emptied, fell-kept, fell-then, loaded-none}

-- ---- no image is in a drive

pub no-images : (views : List DriveView) → HaveImages 0 [] views
no-images views = record { as_many = refl; each = λ n image is. absurd (none-some image is) }

pub no-volumes : (views : List DriveView) → HaveVolumes 0 views
no-volumes views = record { volumes = []; as_many = refl; hold = record { each = λ n v is. absurd (none-some v is) } }

-- ---- a kernel stands, and the terminals were loaded

count-loaded : (number : ℕ) (keys : List ScriptKey) (terms : List TerminalState) → length (loaded_from number keys terms) ≡ length terms
count-loaded number keys [] = refl
count-loaded number keys (terminal ∷ terms) = ap suc (count-loaded (suc number) keys terms)

-- what a machine starts with, where these are its drives and terminals
abbrev pub boot_with : Machine → List DriveState → List TerminalState → Begun
boot_with machine states terms = record {
  file = machine.file.now;
  blocks = machine.blocks;
  time = machine.time;
  images = [];
  drives = states;
  terms = terms;
}

module _ (machine : Machine) (kernel : Kernel) (before started after : Outside) (can : CanStart machine before)
    (none_failed : NoDriveHasFailed (drive_states before.drives) (drive_states started.drives))
    (drives : after.drives ≡ started.drives) (terms : after.terms ≡ loaded machine.keys.now before.terms)
    (begins : IsStarted (debug_config machine) machine.file.now [] started kernel) where
  count : length after.terms ≡ length before.terms
  count = ap length terms ∙ count-loaded 0 machine.keys.now before.terms

  was : State
  was = begins.0

  -- the state with the terminals that are there now
  begun : State
  begun = record was { terms = after.terms }

  starts : Starts (boot_with machine (drive_states started.drives) after.terms) begun
  unfolding begun was
  starts =
      let it = begins.1 in
      record {
        entries = it.entries;
        number = it.number;
        entry = it.entry;
        memory = it.memory;
        has = it.has;
        begins = it.begins;
        files = it.files;
        mounted = it.mounted;
        is = ap (λ (s : State). let now : State = record s { terms = after.terms } in now) it.is;
      }

  starts-loaded : Starts (boot_of machine before) begun
  starts-loaded =
      subst (λ (states : List DriveState). Starts (boot_with machine states (loaded machine.keys.now before.terms)) begun) none_failed
      (subst (λ (terms : List TerminalState). Starts (boot_with machine (drive_states started.drives) terms) begun) terms starts)

  tied : Represents kernel after begun
  unfolding begun was
  tied = record {
    processes = begins.2.processes;
    files = subst (λ (views : List DriveView). RepresentsFiles kernel.machine.files views was.files) (sym drives) begins.2.files;
    is = λ i. record (begins.2.is i) { terms = after.terms };
    run = start-open (boot_with machine (drive_states started.drives) after.terms) begun starts
        (omega (arith, count, can.can_run.terminals.some)) (omega (arith, count, can.can_run.terminals.few))
        can.can_run.time;
    looked = begins.2.looked;
    known = begins.2.known;
  }

  pub has-started : (position : Position)
      → ((slices : List ℕ) (devices : Outside) → RepresentsSomeState kernel devices → length slices < LAST_TICK → CanGoOn slices position devices)
      → ((boot : Begun) (slices : List ℕ) (course : Course) (devices : Outside) → boot.images ≡ []
      → (is : IsCourse boot slices course) → Represents kernel devices course.start → IsAt course is.last slices
      position devices)
      → position.events ≡ 0 → AcceptsBootFile (debug_config machine) machine.file.now → HasStartedMachine machine (Ok position) before after
  has-started position goes at first accepted = record {
    terminals = terms;
    drives = ap drive_states drives ∙ none_failed;
    goes_on = goes machine.slices.now after (begun, tied) can.can_run.few;
    at = λ course is.
        at (boot_of machine before) machine.slices.now course after refl is
        (subst (Represents kernel after) (starts-one (boot_of machine before) begun course.start starts-loaded is.starts) tied);
    first = first;
    starts = (begun, starts-loaded);
    accepted = accepted;
    fails = tt;
  }

-- ---- it does not start

pub no-start : (machine : Machine) (fault : SessionFault) (before after : Outside) → FailsToStart machine before after fault → HasStartedMachine machine (Err fault) before after
no-start machine fault before after fails =
    record { terminals = tt; drives = tt; goes_on = tt; at = tt; first = tt; starts = tt; accepted = tt; fails = fails }

pub start-refused : (machine : Machine) (error : StartError) (fault : BootFault) (before after : Outside)
    → error ≡ Boot fault → StartIsRefused (debug_config machine) machine.file.now error → WhereRefused error
    (after ≡ before) → after.terms ≡ before.terms → StartsDrives {A = Kernel} 0 (drive_fault (Err error))
    before.drives after.drives → HasStartedMachine machine (Err (start_fault fault)) before after
start-refused machine error fault before after is refused same terms drives =
    by fault (subst (StartIsRefused (debug_config machine) machine.file.now) is refused) (subst (λ (error : StartError). WhereRefused error (after ≡ before)) is same)
    (subst (λ (error : StartError). StartsDrives {A = Kernel} 0 (drive_fault (Err error)) before.drives after.drives) is drives)
  where
    by : (fault : BootFault) → StartIsRefused (debug_config machine) machine.file.now (Boot fault)
        → WhereRefused (Boot fault) (after ≡ before) → StartsDrives {A = Kernel} 0 (drive_fault (Err (Boot fault)))
        before.drives after.drives → HasStartedMachine machine (Err (start_fault fault)) before after
    by OutOfMemory refused same drives =
        no-start machine NoMemory before after (fell-kept before after terms drives.moves)
    by (BadModule at error) refused same drives =
        no-start machine (Refused (BadModule at error)) before after (refused (λ e. cc e), same (λ e. cc e))
    by NoFirst refused same drives =
        no-start machine (Refused NoFirst) before after (refused (λ e. cc e), same (λ e. cc e))
    by TooLarge refused same drives =
        no-start machine (Refused TooLarge) before after (refused (λ e. cc e), same (λ e. cc e))

-- no drive is among the first none
pub no-drive : (error : StartError) (drive number : ℕ) (before after : List DriveView) → error ≡ Drive drive number → StartsDrives {A = Kernel} 0 (drive_fault (Err error)) before after → ⊥
no-drive error drive number before after is moved =
    let low : drive < 0 = subst (λ (error : StartError). FailsAmong {A = Kernel} 0 (drive_fault (Err error))) is moved.among in
    omega (arith, low)

-- ---- again

gained-many : (a b : List TerminalState) → TerminalsOnlyGain a b → length b ≡ length a
gained-many [] [] gains = refl
gained-many [] (y ∷ b) gains = absurd gains
gained-many (x ∷ a) [] gains = absurd gains
gained-many (x ∷ a) (y ∷ b) gains = ap suc (gained-many a b gains.1)

-- as many terminals as at the start
come-many : (machine : Machine) (first devices : Outside) → DevicesGain (loaded_devices machine first) devices → length devices.terms ≡ length first.terms
come-many machine first devices gains =
    gained-many (loaded machine.keys.now first.terms) devices.terms gains.terminals ∙ count-loaded 0 machine.keys.now first.terms

pub come-few : (machine : Machine) (devices : Outside) → HasCome machine devices → length devices.terms ≤ 4
come-few machine devices (first, can, gains) =
    omega (arith, come-many machine first devices gains, can.can_run.terminals.few)

module _ (machine : Machine) (before dropped emptied after : Outside) (taken : AllZip LosesKeys before.terms
    dropped.terms) (kept : dropped.drives ≡ before.drives) (none : emptied.terms ≡ terminals_emptied dropped.terms)
    (still : emptied.drives ≡ dropped.drives) where
  same : drive_states emptied.drives ≡ drive_states before.drives
  same = ap drive_states (still ∙ kept)

  -- it can be started
  pub can-again : HasCome machine before → CanStart machine emptied
  can-again (first, can, gains) =
      let there = can.can_run in
      let many : length emptied.terms ≡ length first.terms = ap length none ∙ length-map dropped.terms _ ∙ as-many before.terms dropped.terms taken ∙ come-many machine first before gains in
      let views : length emptied.drives ≡ length first.drives = sym (length-map emptied.drives drive_state) ∙ ap length same ∙ gains.drives.as_many ∙ length-map first.drives drive_state in
      record {
        can_run = record {
          least = there.least;
          most = there.most;
          time = there.time;
          few = there.few;
          terminals = record {
            some = omega (arith, many, there.terminals.some);
            few = omega (arith, many, there.terminals.few);
            unloaded = subst (λ (terms : List TerminalState). All HasNoKeys terms) (sym none)
                (unloaded-again 0 machine.keys.now first.terms before.terms dropped.terms can.ticks gains.terminals
                taken);
          };
          enough = omega arith;
          few_drives = omega (arith, views, there.few_drives);
          volumes = no-volumes emptied.drives;
        };
        ticks = can.ticks;
      }

  -- where nothing failed, the terminals are as they were at the start
  as-first : (first : Outside) → CanStart machine first → DevicesGain (loaded_devices machine first) before
      → All HasNoBytes first.terms → after.terms ≡ loaded machine.keys.now emptied.terms → Unfailed first after
      → emptied.terms ≡ first.terms
  as-first first can gains bare terms unfailed =
      none
      ∙ first-again 0 machine.keys.now first.terms before.terms dropped.terms can.ticks can.can_run.terminals.unloaded bare gains.terminals taken
      (subst (λ (terms : List TerminalState). AllZip NotFailed first.terms terms) none
      (loaded-none 0 machine.keys.now first.terms emptied.terms (subst (λ (terms : List TerminalState). AllZip NotFailed first.terms terms) terms unfailed.terminals)))

  is-back : (position : Position) → HasStartedMachine machine (Ok position) emptied after → (first : Outside)
      → CanStart machine first → DevicesGain (loaded_devices machine first) before → IsBack machine first position
      before after
  is-back position started first can gains = record {
    gains = record {
      terminals = subst (TerminalsOnlyGain (loaded machine.keys.now first.terms))
          (sym (started.terminals ∙ ap (loaded machine.keys.now) none)) (loaded-again 0 machine.keys.now first.terms
          before.terms dropped.terms gains.terminals taken);
      drives = subst (DrivesOnlyGain (drive_states first.drives)) (sym (started.drives ∙ same)) gains.drives;
    };
    at = λ bare unfailed drives course is.
        let terms : emptied.terms ≡ first.terms = as-first first can gains bare started.terminals unfailed in
        let boots : boot_of machine first ≡ boot_of machine emptied = boots-same (sym terms) (sym (same ∙ drives)) in
        started.at course (record {
          starts = subst (λ (boot : Begun). Starts boot course.start) boots is.starts;
          written = is.written;
          last = is.last;
          run = is.run;
          faultless = is.faultless;
        });
  }
    where
      boots-same : first.terms ≡ emptied.terms → drive_states first.drives ≡ drive_states emptied.drives → boot_of machine first ≡ boot_of machine emptied
      boots-same terms drives = λ i. record {
        file = machine.file.now;
        blocks = machine.blocks;
        time = machine.time;
        images = [];
        drives = drives i;
        terms = loaded machine.keys.now (terms i);
      }

  fails-again : (fault : SessionFault) → FailsToStart machine emptied after fault → FailsToMove machine before after fault
  fails-again (Refused fault) fails = fails.0
  fails-again (TerminalFailed n) fails = absurd fails
  fails-again OutputFailed fails = absurd fails
  fails-again NoMemory fails =
      fell-then before emptied after (fell-emptied before dropped emptied taken none (sym same)) fails

  pub has-restarted : (answer : Result Position SessionFault) → HasStartedMachine machine answer emptied after → HasRestarted machine answer before after
  has-restarted (Ok position) started = record {
    back = is-back position started;
    goes_on = started.goes_on;
    first = started.first;
    counts = fell-dropped machine.keys.now before dropped emptied after taken none (sym same) started.terminals started.drives;
    fails = tt;
  }
  has-restarted (Err fault) started =
      record { back = tt; goes_on = tt; first = tt; counts = tt; fails = fails-again fault started.fails }

pub no-restart : (machine : Machine) (fault : SessionFault) (before after : Outside) → FailsToMove machine before after fault → HasRestarted machine (Err fault) before after
no-restart machine fault before after fails = record { back = tt; goes_on = tt; first = tt; counts = tt; fails = fails }

-- ---- the first position

pub first-position : (machine : Machine) (position : Position) (before after : Outside) → HasStartedMachine machine (Ok position) before after → IsPositionOf machine before position after
first-position machine position before after started = record {
  gains = record {
    terminals = subst (TerminalsOnlyGain (loaded machine.keys.now before.terms)) (sym started.terminals) (gain-same (loaded machine.keys.now before.terms));
    drives = subst (DrivesOnlyGain (drive_states before.drives)) (sym started.drives) (drives-same (drive_states before.drives));
  };
  goes_on = started.goes_on;
  at = λ bare unfailed course is. started.at course is;
}
