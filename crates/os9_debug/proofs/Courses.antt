-- A machine without images goes one way.
use Rattle.std.proofs.Common.{◌≡◌, ℕ, ◌<◌, ◌≤◌, true, List, [], length, refl, sym, subst, arith}
use Rattle.time_rules.specs.CivilTime.{is_time_packet}
use Rattle.machine_model.specs.Run.{Run}
use Rattle.machine_model.specs.Start.{Boot, Starts}
use Rattle.machine_model.specs.State.{State}
use Rattle.machine_model.proofs.Starts.{starts-one}
use Rattle.run_laws.specs.Faults.{CanRise, HasNoVolumes, NoneFailed, SameRun}
use Rattle.run_laws.specs.Runs.{HasRun}
use Rattle.run_laws.proofs.Runs.{bare-never, run-one}
use Rattle.run_laws.proofs.Starting.{start-bare}
use Rattle.run_laws.proofs.Steps.{started-run}
use Rattle.run_laws.proofs.Unfailed.{unfailed}
use Rattle.os9_debug.specs.Course.{Course}
use Rattle.os9_debug.specs.Prints.{IsCourse}

-- a run from the state that is the start of another
record Same (slices : List ℕ) (s : State) (other : Course) : Type 0 where
  written : List ℕ
  last : State
  run : Run slices s other.states written last
  faultless : NoneFailed s last

moved : (boot : Boot) (slices : List ℕ) (s : State) (other : Course) → IsCourse boot slices other → s ≡ other.start → Same slices s other
moved boot slices s other is same =
    subst (λ s. Same slices s other) (sym same) (record { written = is.written; last = is.last; run = is.run; faultless = is.faultless })

pub course-one : (boot : Boot) (slices : List ℕ) (one other : Course) → boot.images ≡ [] → IsCourse boot slices one → IsCourse boot slices other → one ≡ other
course-one boot slices one other none first second =
    let starts : one.start ≡ other.start = starts-one boot one.start other.start first.starts second.starts in
    let there : Same slices one.start other = moved boot slices one.start other second starts in
    let bare : HasNoVolumes one.start = start-bare boot one.start none first.starts in
    let same : SameRun one.states first.written first.last other.states there.written there.last = run-one slices
    first.written there.written one.start first.last there.last one.states other.states
    (bare-never one.start bare) first.run there.run first.faultless there.faultless in
    λ i. record { start = starts i; states = same.through i }

pub course-some : (boot : Boot) (slices : List ℕ) (s : State) → boot.images ≡ [] → Starts boot s
    → 0 < length boot.terms → length boot.terms ≤ 4 → is_time_packet boot.time ≡ true → CanRise s → (course : Course)
    × (course.start ≡ s) × IsCourse boot slices course
course-some boot slices s none starts some few time rise =
    let bare : HasNoVolumes s = start-bare boot s none starts in
    let short : length boot.images ≤ length boot.drives = rw none (omega arith) in
    let there : HasRun slices s = started-run boot slices s starts some few time short in (
      record { start = s; states = there.states },
      refl,
      record {
        starts = starts;
        written = there.written;
        last = there.last;
        run = there.run;
        faultless = unfailed s there.last there.counts (there.drives bare) rise;
      },
    )
