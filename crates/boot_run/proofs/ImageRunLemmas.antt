-- What a run with images in the drives says where they are out again.
use Rattle.std.proofs.Common.{◌≡◌, ◌⊎◌, ◌≤◌, ℕ, zero, suc, Bool, true, false, Option, Some, None, List, [], ◌∷◌, length, map, take, slice_get, refl, sym, ap, subst, ◌∙◌, All, inl, inr, arith}
use Rattle.os9_base.specs.declared.registers.TimePacket.{TimePacket}
use Rattle.std.proofs.lemmas.List.{length-map}
use Rattle.std.proofs.lemmas.List.Elements.{All-head, All-tail}
use Rattle.std.proofs.lemmas.Option.{none-some, same_Some}
use Rattle.lock_model.specs.declared.history.Entry.{Entry}
use Rattle.rbf_model.specs.Volume.{DiskVolume, Vol}
use Rattle.file_rules.specs.Files.{DriveState, KeepsDriveFaults, OneFailed, volume_at}
use Rattle.file_rules.specs.declared.path_call.PathCall.{PathCall}
use Rattle.file_drives.specs.Drives.{DriveView, drive_states, media_of}
use Rattle.file_drives.specs.Mounted.{DriveHolds}
use Rattle.file_drives.proofs.DriveLemmas.{media-there}
use Rattle.cold_start.specs.Start.{HaveImages, HaveVolumes}
use Rattle.machine_model.specs.Start.{Starts}
use Rattle.machine_model.specs.State.{State}
use Rattle.run_laws.proofs.Attempts.{path-keeps}
use Rattle.run_laws.proofs.Images.{images-keep-ends}
use Rattle.run_laws.proofs.EndsAlong.{first-events-keep-ends, run-keeps-ends, slice-keeps-ends}
use Rattle.run_laws.proofs.Starts.{start-has-images, start-has-no-more}
use Rattle.os9_kernel.specs.Breaks.{BreaksEvent, BreaksAtByte, BreaksAtEntry}
use Rattle.os9_kernel.specs.Calls.{StopsSlice}
use Rattle.os9_kernel.specs.Outside.{Outside}
use Rattle.os9_kernel.specs.Volumes.{HoldsVolumes}
use Rattle.os9_outer.specs.Stream.{stream_with}
use Rattle.os9_outer.specs.TerminalState.{TerminalState}
use Rattle.boot_run.specs.Machine.{MachineOutcome, FailsToMount, IsUnrun, LeavesUnrun, MachineCall, RunsFirst, RunsTo, RunsWhole, Setup, StartsLoaded, boot_of}
use Rattle.boot_run.specs.Slices.{BreaksOutput, RunsPartly}
use Rattle.boot_run.specs.World.{World, HasNoFault}
use Rattle.boot_run.specs.declared.machine.RunEnd.{RunEnd}
use Rattle.boot_run.specs.declared.machine.RunEnd.TheVariants.{Ended, Living, Refused, DriveFailed, OutputFailed, NoMemory}
use Rattle.boot_run.specs.BootFile.{IsVolume}
use Rattle.boot_run.specs.Drives.{HaveRoom, IsEmptyDrive, TakesImages, holding, without_media}
use Rattle.boot_run.specs.Outcome.{EndsWithImages, HasOutcome, IsImageOf, KeepsUnchanged, RunGives, RunsImages, with_images_in}
use Rattle.boot_run.specs.Ready.{AreEmptyAgain}
use Rattle.boot_run.proofs.DriveLemmas.{counts-holding, counts-without, empty-without, given-back, holding-at, holding-view, media-without}

-- ---- images that were put in

-- the volumes of images, in their order
record VolumesOf (images : List (List ℕ)) : Type 0 where
  volumes : List DiskVolume
  as_many : length volumes ≡ length images
  each : (n : ℕ) (v : DiskVolume) → slice_get volumes n ≡ Some v → (image : List ℕ) × (slice_get images n ≡ Some image) × Vol image v

volumes-of : (images : List (List ℕ)) → All IsVolume images → VolumesOf images
volumes-of [] all = record { volumes = []; as_many = refl; each = λ n v at. absurd (none-some v at) }
volumes-of (first ∷ images) all =
    let (v, vol) = All-head IsVolume first images all in
    let rest = volumes-of images (All-tail IsVolume first images all) in
    record { volumes = v ∷ rest.volumes; as_many = ap suc rest.as_many; each = each v vol rest }
  where
    each : (v : DiskVolume) → Vol first v → (rest : VolumesOf images) → (n : ℕ) (w : DiskVolume)
        → slice_get (v ∷ rest.volumes) n ≡ Some w → (image : List ℕ) × (slice_get (first ∷ images) n ≡ Some image) ×
        Vol image w
    each v vol rest zero w at = (first, refl, subst (Vol first) (same_Some v w at) vol)
    each v vol rest (suc n) w at = rest.each n w at

pub have-volumes : (images : List (List ℕ)) (drives : List DriveView) → length images ≤ length drives → All IsVolume images → HaveVolumes (length images) (holding images drives)
have-volumes images drives enough all =
    let of = volumes-of images all in
    record { volumes = of.volumes; as_many = of.as_many; hold = record { each = each of } }
  where
    each : (of : VolumesOf images) (n : ℕ) (v : DiskVolume) → slice_get of.volumes n ≡ Some v → DriveHolds (holding images drives) n v
    each of n v at =
        let (image, there, vol) = of.each n v at in
        let (view, is, held) = holding-view images drives enough n image there in
        record { view = view; is = is; on = record { image = image; is = held; vol = vol } }

pub have-images : (images : List (List ℕ)) (drives : List DriveView) → length images ≤ length drives → HaveImages (length images) images (holding images drives)
have-images images drives enough = record { as_many = refl; each = holding-at images drives enough }

-- ---- drives from which all images were taken

empty-again : (new : List (List ℕ)) (before ran left : List DriveView) → length ran ≡ length before → TakesImages new ran left → AreEmptyAgain before left
empty-again new before ran left many taken = record {
  as_many = ap length taken.left ∙ length-map ran without_media ∙ many;
  empty = subst (All IsEmptyDrive) (sym taken.left) (empty-without ran);
}

-- ---- a world with other drives

abbrev pub with_drives : World → List DriveView → World
with_drives world drives = record world { devices = record { drives = drives; terms = world.devices.terms } }

-- ---- images of as many drives

-- there is one of each at a place, or none
both-there : (one other : List (List ℕ)) → length one ≡ length other → (n : ℕ)
    → ((slice_get one n ≡ None) × (slice_get other n ≡ None)) ⊎ ((x : List ℕ) × (y : List ℕ) × (slice_get one n ≡ Some x) × (slice_get other n ≡ Some y))
both-there [] [] same n = inl (refl, refl)
both-there [] (y ∷ ys) same n = absurd (omega (arith, same))
both-there (x ∷ xs) [] same n = absurd (omega (arith, same))
both-there (x ∷ xs) (y ∷ ys) same zero = inr (x, y, refl, refl)
both-there (x ∷ xs) (y ∷ ys) same (suc n) = both-there xs ys (omega (arith, same)) n

-- no drive has got a volume
abbrev GetsNone : State → State → Type 0
GetsNone s t = (drive : ℕ) → volume_at s.files drive ≡ None → volume_at t.files drive ≡ None

module _ (setup : Setup) (before ran : World) (new : List (List ℕ)) (drives : List DriveView)
    (room : HaveRoom (length setup.images) before.devices.drives) (as_many : length new ≡ length setup.images)
    (many : length ran.devices.drives ≡ length before.devices.drives) (taken : TakesImages new ran.devices.drives
    drives) where
  -- the world with the images in the drives, and the one where they are out again
  abbrev held : World
  held = with_images_in setup.images before

  abbrev after : World
  after = with_drives ran drives

  -- the drives have failed alike
  before-counted : drive_states held.devices.drives ≡ drive_states before.devices.drives
  before-counted = counts-holding setup.images before.devices.drives

  after-counted : drive_states drives ≡ drive_states ran.devices.drives
  after-counted = ap drive_states taken.left ∙ counts-without ran.devices.drives

  -- ---- the start and parts of a run

  starts-before : (s : State) → StartsLoaded setup held s → StartsLoaded setup before s
  starts-before s it = subst (λ (states : List DriveState). Starts (record (boot_of setup before) { drives = states }) s) before-counted it

  -- the world with the images that were taken out in the drives again
  abbrev again : World
  again = with_images_in new after

  enough : length new ≤ length drives
  enough = omega (arith, as_many, room.enough, many, ap length taken.left, length-map ran.devices.drives without_media)

  -- ---- states that hold their volumes still

  module _ (s : State) (starts : StartsLoaded setup held s) where
    -- a drive with a volume has an image
    has-image : (t : State) → GetsNone s t → (drive : ℕ) (v : DiskVolume) → volume_at t.files drive ≡ Some v → (image : List ℕ) × (slice_get new drive ≡ Some image)
    has-image t none drive v is = elim (both-there new setup.images as_many drive) [
      | inl neither ↦ absurd (none-some v (sym (none drive (start-has-no-more _ s starts drive neither.1)) ∙ is))
      | inr there ↦ (there.0, there.2)
    ]

    holds-again : (t : State) → GetsNone s t → HoldsVolumes t ran.devices.drives → HoldsVolumes t again.devices.drives
    holds-again t none it = record {
      counts = it.counts ∙ sym (counts-holding new drives ∙ after-counted);
      volumes = λ drive v is.
          let holds = it.volumes drive v is in
          let (image, there) = has-image t none drive v is in
          let same : image ≡ holds.on.image = taken.each drive image holds.on.image there (media-there ran.devices.drives drive holds.view holds.is ∙ holds.on.is) in
          let (view, at, in_drive) = holding-view new drives enough drive image there in
          record { view = view; is = at; on = record { image = image; is = in_drive; vol = subst (λ (image : List ℕ). Vol image v) (sym same) holds.on.vol } };
    }

    lacks-again : (t : State) (call : PathCall) (now : TimePacket) (p : ℕ) → GetsNone s t → BreaksAtByte call t now p
        ran.devices ⊎ BreaksAtEntry call t now p ran.devices → BreaksAtByte call t now p again.devices ⊎ BreaksAtEntry
        call t now p again.devices
    lacks-again t call now p none (inl it) = inl (record { lacks = it.lacks; drives = holds-again t none it.drives })
    lacks-again t call now p none (inr it) =
        inr (record {
          done = it.done;
          lacks = it.lacks;
          drives = holds-again (record t { files = it.done })
              (λ drive is. (path-keeps call t.processes t.files now p it.lacks.result it.done t.terms _
              it.lacks.attempts).none drive (none drive is)) it.drives;
        })

    breaks-again : (t : State) → GetsNone s t → BreaksEvent t ran.devices → BreaksEvent t again.devices
    breaks-again t none it = record {
      p = it.p;
      chosen = it.chosen;
      lives = it.lives;
      code = it.code;
      act = it.act;
      call = it.call;
      is_call = it.is_call;
      now = it.now;
      is_now = it.is_now;
      lacks = lacks-again t it.call it.now it.p none it.lacks;
    }

    stops-again : (n : ℕ) (t : State) → GetsNone s t → StopsSlice n t ran.devices → StopsSlice n t again.devices
    stops-again n t none (inl (breaks, holds)) = inl (breaks, holds-again t none holds)
    stops-again n t none (inr (states, u, begins, breaks)) =
        inr (states, u, begins, breaks-again u (λ drive is. (first-events-keep-ends n t u states begins).none drive (none drive is)) breaks)

    output-again : (n : ℕ) (t : State) (out : Option (List ℕ)) → GetsNone s t → BreaksOutput n t out ran → BreaksOutput n t out again
    output-again n t out none it = record {
      states = it.states;
      end = it.end;
      t = it.t;
      slice = it.slice;
      some = it.some;
      output = it.output;
      taken = it.taken;
      terminals = it.terminals;
      drives = holds-again it.t (λ drive is. (slice-keeps-ends n t it.t it.states it.end it.slice).none drive (none drive is)) it.drives;
    }

    partly-again : RunsPartly setup.slices s held ran → RunsPartly setup.slices s before again
    partly-again it = record {
      count = it.count;
      states = it.states;
      written = it.written;
      reached = it.reached;
      run = it.run;
      n = it.n;
      next = it.next;
      lives = it.lives;
      stopped = by it.stopped;
    }
      where
        none : GetsNone s it.reached
        none = (run-keeps-ends (take it.count setup.slices) it.written s it.reached it.states it.run).none

        by : (StopsSlice it.n it.reached ran.devices × (ran.out ≡ stream_with before.out it.written) × HasNoFault held ran) ⊎ BreaksOutput it.n it.reached (stream_with before.out it.written) ran
            → (StopsSlice it.n it.reached again.devices × (again.out ≡ stream_with before.out it.written) × HasNoFault
            before again) ⊎ BreaksOutput it.n it.reached (stream_with before.out it.written) again
        by (inl (stops, gained, kept)) = inl (stops-again it.n it.reached none stops, gained, kept)
        by (inr breaks) = inr (output-again it.n it.reached (stream_with before.out it.written) none breaks)

  runs-first : RunsFirst setup held ran → RunsFirst setup before again
  runs-first it = record { s = it.s; starts = starts-before it.s it.starts; partly = partly-again it.s it.starts it.partly }

  media-again : media_of drives ≡ media_of before.devices.drives
  media-again = ap media_of taken.left ∙ media-without before.devices.drives ran.devices.drives room.empty many

  unrun-after : IsUnrun held ran → IsUnrun before after
  unrun-after it = record {
    out = it.out;
    terminals = it.terminals;
    none_failed = subst (λ (states : List DriveState). KeepsDriveFaults states (drive_states drives)) before-counted
        (subst (KeepsDriveFaults (drive_states held.devices.drives)) (sym after-counted) it.none_failed);
    media_kept = media-again;
  }

  -- ---- a whole run

  module _ (s t : State) (starts : StartsLoaded setup held s) (runs : RunsTo setup s t held ran) where
    image-of : (drive : ℕ) (was now : List ℕ) → slice_get setup.images drive ≡ Some was → slice_get new drive ≡ Some now → IsImageOf t drive was now
    image-of drive was now at there =
        let (v, first, vol) = start-has-images _ s starts drive was at in
        let (w, last, kept) = (run-keeps-ends setup.slices runs.written s t runs.states runs.run).kept drive v first in
        let holds = runs.drives.volumes drive w last in
        let is : now ≡ holds.on.image = taken.each drive now holds.on.image there (media-there ran.devices.drives drive holds.view holds.is ∙ holds.on.is) in
        record {
          volume = w;
          is = last;
          back = images-keep-ends _ setup.slices runs.written s t runs.states starts runs.run drive was now w at last (subst (λ (image : List ℕ). Vol image w) (sym is) holds.on.vol);
        }

    unchanged : KeepsUnchanged setup s runs.states new
    unchanged drive none = elim (both-there new setup.images as_many drive) [
      | inl neither ↦ neither.0 ∙ sym neither.1
      | inr there ↦
          there.2
          ∙ ap Some (taken.each drive there.0 there.1 there.2 (runs.images drive none ∙ holding-at setup.images before.devices.drives room.enough drive there.1 there.3))
          ∙ sym there.3
    ]

    has-outcome : HasOutcome setup t runs.written new before after
    has-outcome = record {
      s = s;
      starts = starts-before s starts;
      states = runs.states;
      run = runs.run;
      terminals = runs.terminals;
      drives = after-counted ∙ sym runs.drives.counts;
      volumes = record { as_many = as_many; each = image-of };
      unchanged = unchanged;
    }

  ends-with : (lives : Bool) (begun : ℕ) (history : List Entry) → RunsWhole setup lives begun history held ran → EndsWithImages setup lives begun new history before after
  ends-with lives begun history it = record {
    t = it.t;
    written = it.runs.written;
    outcome = has-outcome it.s it.t it.starts it.runs;
    living = it.living;
    ticks = it.ticks;
    recorded = it.recorded;
    output = it.runs.output;
  }

  -- ---- by the end of the run

  run-gives : (history : List Entry) (end : RunEnd) → MachineOutcome setup history held ran end → RunGives setup new history before after end
  run-gives history (Ended begun) it = ends-with false begun history it
  run-gives history (Living begun) it = ends-with true begun history it
  run-gives history (Refused fault) it = tt
  run-gives history (DriveFailed drive number) it = tt
  run-gives history OutputFailed it = runs-first it
  run-gives history NoMemory (inl unrun) = inl (unrun-after unrun)
  run-gives history NoMemory (inr first) = inr (runs-first first)

  same-again : ran ≡ held → after ≡ before
  same-again is =
      ap (λ (world : World). with_drives world drives) is
      ∙ ap (with_drives before) (taken.left ∙ ap (λ (world : World). map without_media world.devices.drives) is ∙ given-back setup.images before.devices.drives room.empty)

  mount-failed : (drive number : ℕ) → FailsToMount (length setup.images) drive number held ran → FailsToMount (length setup.images) drive number before after
  mount-failed drive number it = record {
    among = it.among;
    failed = subst (λ (states : List DriveState). OneFailed drive number states (drive_states drives)) before-counted
        (subst (OneFailed drive number (drive_states held.devices.drives)) (sym after-counted) it.failed);
    media_kept = media-again;
    terms_kept = it.terms_kept;
    out_kept = it.out_kept;
  }

  leaves-unrun : (end : RunEnd) → LeavesUnrun (length setup.images) held ran end → LeavesUnrun (length setup.images) before after end
  leaves-unrun (Ended begun) it = tt
  leaves-unrun (Living begun) it = tt
  leaves-unrun (Refused fault) it = same-again it
  leaves-unrun (DriveFailed drive number) it = mount-failed drive number it
  leaves-unrun OutputFailed it = tt
  leaves-unrun NoMemory it = tt

  runs-images : (history : List Entry) (end : RunEnd) → MachineCall setup history held ran end → RunsImages setup new history before after end
  runs-images history end call = record {
    gives = λ told. run-gives history end (call.comes told);
    judged = call.judged;
    unrun = leaves-unrun end call.unrun;
    drives = empty-again new before.devices.drives ran.devices.drives drives many taken;
    output_fault = call.output_fault;
    no_fault = call.no_fault;
    files_kept = call.files_kept;
  }

-- ---- a call with the devices as they are before, between and after

module _ (setup given : Setup) (before ran : World) (inside left : Outside) (new : List (List ℕ))
    (room : HaveRoom (length setup.images) before.devices.drives) (as_many : length new ≡ length setup.images)
    (many : length ran.devices.drives ≡ length before.devices.drives) (taken : TakesImages new ran.devices.drives
    left.drives) where
  pub runs-between : (history : List Entry) (end : RunEnd) → given ≡ setup → inside.drives ≡ holding setup.images before.devices.drives
      → inside.terms ≡ before.devices.terms → left.terms ≡ ran.devices.terms → MachineCall given
      history (record before { devices = inside }) ran end → RunsImages setup new history before (record ran { devices = left }) end
  runs-between history end same put terms_put terms_left call =
      let same_devices : inside ≡ record { drives = holding setup.images before.devices.drives; terms = before.devices.terms } = λ i. record { drives = put i; terms = terms_put i } in
      let held_call = subst (λ (devices : Outside). MachineCall given history (record before { devices = devices }) ran end) same_devices call in
      let set_up = subst (λ (by : Setup). MachineCall by history (with_images_in setup.images before) ran end) same held_call in
      subst (λ (terms : List TerminalState). RunsImages setup new history before
      (record ran { devices = record { drives = left.drives; terms = terms } }) end) (sym terms_left)
      (runs-images setup before ran new left.drives room as_many many taken history end set_up)
