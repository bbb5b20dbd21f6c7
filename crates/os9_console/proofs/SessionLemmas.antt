-- A session with images in the drives.
use Rattle.std.proofs.Common.{◌≡◌, ◌≤◌, Bool, true, false, List, ℕ, Some, length, slice_get, sym, subst, ap, ◌∙◌, All, inl, inr, arith}
use Rattle.lock_model.specs.declared.history.Entry.{Entry}
use Rattle.rbf_model.specs.Volume.{Vol}
use Rattle.os9_outer.specs.TerminalState.{TerminalState}
use Rattle.boot_run.specs.Loaded.{loaded}
use Rattle.file_rules.specs.Files.{DriveState, KeepsDriveFaults}
use Rattle.file_drives.specs.Drives.{drive_states, media_of}
use Rattle.file_drives.proofs.DriveLemmas.{media-there}
use Rattle.machine_model.specs.Start.{Starts}
use Rattle.machine_model.specs.State.{State}
use Rattle.run_laws.specs.Session.{with_keys}
use Rattle.run_laws.proofs.Images.{written-back}
use Rattle.run_laws.proofs.EndsAlong.{run-keeps-ends}
use Rattle.run_laws.proofs.Starts.{start-has-images}
use Rattle.os9_kernel.specs.Outside.{Outside}
use Rattle.boot_run.specs.Machine.{IsUnrun, Setup, StartsLoaded, boot_of}
use Rattle.boot_run.specs.World.{World}
use Rattle.boot_run.specs.declared.machine.RunEnd.TheVariants.{Ended, Living, NoMemory, OutputFailed}
use Rattle.boot_run.specs.Drives.{IsEmptyDrive, TakesImages, holding}
use Rattle.boot_run.specs.Outcome.{IsImageOf}
use Rattle.boot_run.proofs.DriveLemmas.{counts-holding, counts-without, media-without}
use Rattle.console_run.specs.Typed.{kept_keys, kept_slices}
use Rattle.console_run.specs.declared.typed.Typed.{Typed}
use Rattle.console_run.specs.Kept.{load_of}
use Rattle.console_run.specs.Keyboard.{KeyboardState}
use Rattle.console_run.specs.Session.{IsPartTo, IsSessionTo, LeadsSession, StopsConsoleSession, StopsWithin, untyped}
use Rattle.console_run.specs.TypedTurn.{TypedTurn}
use Rattle.console_run.specs.declared.session.SessionEnd.{SessionEnd}
use Rattle.console_run.specs.declared.session.SessionEnd.TheVariants.{LineLost, OfRun}
use Rattle.console_run.specs.declared.turns.Stop.{Stop}
use Rattle.os9_console.specs.Images.{LeavesSession, StopsMidway}
use Rattle.os9_console.proofs.StopLemmas.{part-again}

-- the devices as they are before a call, with the images in the drives, and at the end
module _ (setup : Setup) (typed : Typed) (before ran : World) (inside left : Outside) (new : List (List ℕ))
    (as_many : length new ≡ length setup.images) (taken : TakesImages new ran.devices.drives left.drives)
    (history : List Entry) (put : inside.drives ≡ holding setup.images before.devices.drives) (terms_put : inside.terms ≡
    before.devices.terms) (terms_left : left.terms ≡ ran.devices.terms) where
  abbrev held : World
  held = record before { devices = inside }

  abbrev after : World
  after = record ran { devices = left }

  starts-before : (s : State) → StartsLoaded (untyped setup) held s → StartsLoaded (untyped setup) before s
  starts-before s starts =
      let same : drive_states inside.drives ≡ drive_states before.devices.drives = ap drive_states put ∙ counts-holding setup.images before.devices.drives in
      subst (λ (drives : List DriveState). Starts (record (boot_of (untyped setup) before) { drives = drives }) s) same
      (subst (λ (terms : List TerminalState). Starts (record (boot_of (untyped setup) held) { terms = loaded (untyped setup).keys terms }) s) terms_put starts)

  module _ (turns : List TypedTurn) (t : State) (it : LeadsSession setup typed history held ran turns t) where
    image-of : (drive : ℕ) (was now : List ℕ) → slice_get setup.images drive ≡ Some was → slice_get new drive ≡ Some now → IsImageOf t drive was now
    image-of drive was now at there =
        let (v, first, vol) = start-has-images _ it.s it.starts drive was at in
        let (w, last, kept) = (run-keeps-ends (kept_slices typed) it.session.written (with_keys it.s (load_of (kept_keys typed))) t it.session.through it.session.run).kept drive v first in
        let holds = it.drives.volumes drive w last in
        let is : now ≡ holds.on.image = taken.each drive now holds.on.image there (media-there ran.devices.drives drive holds.view holds.is ∙ holds.on.is) in
        record {
          volume = w;
          is = last;
          back = written-back was now v w vol (subst (λ (image : List ℕ). Vol image w) (sym is) holds.on.vol) kept;
        }

    leaves : LeavesSession setup new history typed before after turns t
    leaves = record {
      s = it.s;
      starts = starts-before it.s it.starts;
      session = it.session;
      terminals = terms_left ∙ it.terminals;
      drives = ap drive_states taken.left ∙ counts-without ran.devices.drives ∙ sym it.drives.counts;
      volumes = record { as_many = as_many; each = image-of };
      recorded = it.recorded;
    }

  stopped : (lives : Bool) (stop : Stop) (from to : KeyboardState) → StopsConsoleSession (LeadsSession setup typed history held ran)
      lives stop from to held ran → StopsConsoleSession (LeavesSession setup new history typed before after) lives stop from to before
      after
  stopped lives stop from to it = record {
    turns = it.turns;
    t = it.t;
    came = leaves it.turns it.t it.came;
    living = it.living;
    stops = it.stops;
  }

  pub session-between : (end : SessionEnd) (from to : KeyboardState) → IsSessionTo (LeadsSession setup typed history held ran)
      end from to held ran → IsSessionTo (LeavesSession setup new history typed before after) end from to before after
  session-between (OfRun (Ended begun)) from to it = stopped false Stop.Over from to it
  session-between (OfRun (Living begun)) from to it = stopped true Stop.Over from to it
  session-between (OfRun end) from to it = tt
  session-between (LineLost end) from to it = stopped true Stop.LineLost from to it

  module _ (enough : length setup.images ≤ length before.devices.drives)
      (many : length ran.devices.drives ≡ length before.devices.drives) (empty : All IsEmptyDrive before.devices.drives) where
    within : (from to : KeyboardState) → StopsWithin setup typed from to held ran → StopsMidway setup typed new from to before after
    within from to it = record {
      s = it.s;
      starts = starts-before it.s it.starts;
      part = part-again (boot_of (untyped setup) held) it.s it.starts ran new left as_many
          (omega (arith, as_many, enough, many)) taken terms_left typed from to before inside it.part;
    }

    unrun : IsUnrun held ran → IsUnrun before after
    unrun it = record {
      out = it.out;
      terminals = terms_left ∙ it.terminals ∙ terms_put;
      none_failed = subst (λ (states : List DriveState). KeepsDriveFaults states (drive_states left.drives))
          (ap drive_states put ∙ counts-holding setup.images before.devices.drives)
          (subst (KeepsDriveFaults (drive_states inside.drives)) (sym (ap drive_states taken.left ∙ counts-without ran.devices.drives)) it.none_failed);
      media_kept = ap media_of taken.left ∙ media-without before.devices.drives ran.devices.drives empty many;
    }

    pub part-between : (end : SessionEnd) (from to : KeyboardState)
        → IsPartTo (IsUnrun held ran) (StopsWithin setup typed from to held ran) end from to
        → IsPartTo (IsUnrun before after) (StopsMidway setup typed new from to before after) end from to
    part-between (OfRun OutputFailed) from to it = within from to it
    part-between (OfRun NoMemory) from to (inl (none, kept)) = inl (unrun none, kept)
    part-between (OfRun NoMemory) from to (inr it) = inr (within from to it)
    part-between (OfRun end) from to it = tt
    part-between (LineLost end) from to it = tt
