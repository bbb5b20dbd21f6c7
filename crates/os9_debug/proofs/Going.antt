-- Positions of a session, and the commands that lead to them.
use Rattle.std.proofs.Common.{◌≡◌, ℕ, ◌+◌, ◌-◌, ◌<◌, ◌≤◌, true, false, Result, Ok, Err, List, [], length, refl, sym, ap, subst, ◌∙◌, length-append, arith}
use Rattle.std.specs.Prelude.{IfOk, nat_lt}
use Rattle.std.proofs.lemmas.Bool.{le-ltb, lt-ltb}
use Rattle.machine_model.specs.State.{State}
use Rattle.file_rules.specs.Files.{Files}
use Rattle.file_drives.specs.Drives.{drive_states}
use Rattle.os9_kernel.specs.Outside.{Outside}
use Rattle.os9_debug.specs.Course.{Course, last_of}
use Rattle.os9_debug.specs.Prints.{shows}
use Rattle.os9_debug.specs.Show.{end_line}
use Rattle.os9_debug.specs.declared.command.Command.{Command}
use Rattle.os9_debug.specs.declared.command.Command.TheVariants.{To, Back, Regs, Mem, Dis}
use Rattle.os9_debug.specs.declared.command.Span.{Span}
use Rattle.os9_debug.specs.Devices.{Unfailed}
use Rattle.os9_debug.specs.PositionMoves.{HasReachedEvent}
use Rattle.os9_debug.specs.Position.{IsAt}
use Rattle.os9_debug.specs.declared.position.Position.{Position}
use Rattle.os9_debug.specs.declared.position.Step.{Step}
use Rattle.os9_debug.specs.declared.position.Step.TheVariants.{Event, End}
use Rattle.os9_debug.proofs.Faults.{devices-gain}
use Rattle.os9_debug.specs.Machine.{CourseOf, loaded_devices, or_no_memory}
use Rattle.os9_debug.specs.Moves.{AtPosition, FailsToMove, HasRestarted, HasShown, IsAtEnd, IsUnderWay, LeadsBack, MayFailSo, MovesOn}
use Rattle.os9_debug.specs.declared.machine.Machine.{Machine}
use Rattle.os9_debug.specs.declared.machine.SessionFault.{SessionFault}
use Rattle.os9_debug.specs.declared.machine.SessionFault.TheVariants.{NoMemory}
use Rattle.os9_debug.proofs.Counted.{fell-gained, fell-none, fell-since, fell-then, unfailed-after, unfailed-before}

-- ---- back to the start

-- a command that leads back may fail in any way
pub may-any : (command : Command) (at : ℕ) (fault : SessionFault) → LeadsBack command at → MayFailSo command at fault
may-any command at NoMemory leads = tt
may-any command at fault leads = leads

-- `back` leads to the same position as `to`
pub may-back : (n k at : ℕ) (fault : SessionFault) → k ≡ at - n → MayFailSo (To k) at fault → MayFailSo (Back n) at fault
may-back n k at NoMemory place may = tt
may-back n k at fault place may = subst (λ (k : ℕ). k < at) place may

pub moves-nowhere : {Value : Type 0} (value : Value) (machine : Machine) (command : Command) (position : Position)
    (devices : Outside) → MovesOn machine command position position (Ok value) devices devices
moves-nowhere value machine command position devices =
    record { stays = λ first can at. at; counts = fell-none devices; fails = tt; may_fail = tt }

pub moves-not : {Value : Type 0} (machine : Machine) (command : Command) (old new : Position) (fault : SessionFault)
    (before after : Outside) → FailsToMove machine before after fault → MayFailSo command old.events fault
    → MovesOn {Value = Value} machine command old new (Err fault) before after
moves-not machine command old new fault before after fails may =
    record { stays = tt; counts = tt; fails = fails; may_fail = may }

pub moves-as : {Value Other : Type 0} (value : Value) (other : Other) (machine : Machine) (command same : Command)
    (old new : Position) (before after : Outside) → MovesOn machine command old new (Ok value) before after
    → MovesOn machine same old new (Ok other) before after
moves-as value other machine command same old new before after moved =
    record { stays = moved.stays; counts = moved.counts; fails = tt; may_fail = tt }

-- the drives are as they were at the start
drives-first : (machine : Machine) (first devices : Outside) (course : Course) (is : CourseOf machine first course)
    (position : Position) → IsAt course is.last machine.slices.now position devices → drive_states devices.drives ≡
    drive_states first.drives
drives-first machine first devices course is position at =
    sym at.represents.files.drives ∙ at.drives
    ∙ ap (λ (s : State). s.files.drives) is.starts.is
    ∙ ap (λ (files : Files). files.drives) is.starts.mounted.is

pub moves-back : {Value : Type 0} (value : Value) (machine : Machine) (command : Command) (old start : Position)
    (before after : Outside) → HasRestarted machine (Ok start) before after → MovesOn machine command old start
    (Ok value) before after
moves-back value machine command old start before after again = record {
  stays = λ first can at.
      let back = again.back first can at.gains in
      record {
        gains = back.gains;
        goes_on = again.goes_on;
        at = λ bare unfailed course is.
            let none : Unfailed first before = unfailed-before first before after (fell-since machine first before at.gains) again.counts unfailed in
            back.at bare unfailed (drives-first machine first before course is old (at.at bare none course is)) course is;
      };
  counts = again.counts;
  fails = tt;
  may_fail = tt;
}

-- ---- and on

pub can-go : {Value : Type 0} (value : Value) (machine : Machine) (command : Command) (old new : Position)
    (before after : Outside) → IsUnderWay machine old before → MovesOn machine command old new (Ok value) before after
    → IsUnderWay machine new after
can-go value machine command old new before after (first, can, at) moved = (first, can, moved.stays first can at)

module _ {Value : Type 0} (value : Value) (machine : Machine) (k : ℕ) (old mid new : Position) (before between after : Outside) (moved : MovesOn machine (To k) old mid (Ok value) before between) where
  pub moves-on : (step : Step) → HasReachedEvent k machine.slices.now mid new (Ok step) between after → MovesOn machine (To k) old new (Ok step) before after
  moves-on step gone = record {
    stays = λ first can at.
        let there = moved.stays first can at in
        record {
          gains = devices-gain (loaded_devices machine first) between after there.gains gone.gains;
          goes_on = gone.goes_on;
          at = λ bare unfailed course is.
              gone.stays course is.last
              (there.at bare (unfailed-before first between after (fell-since machine first between there.gains) (fell-gained between after gone.gains) unfailed) course is)
              (unfailed-after first between after (fell-since machine first between there.gains) (fell-gained between after gone.gains) unfailed);
        };
    counts = fell-then before between after moved.counts (fell-gained between after gone.gains);
    fails = tt;
    may_fail = tt;
  }

  pub at-end : HasReachedEvent k machine.slices.now mid new (Ok End) between after → IsAtEnd k machine old new before after
  at-end gone = record {
    short = gone.short refl;
    last = λ first can at bare unfailed course is.
        let there = moved.stays first can at in
        gone.end refl course is.last
        (there.at bare (unfailed-before first between after (fell-since machine first between there.gains) (fell-gained between after gone.gains) unfailed) course is)
        (unfailed-after first between after (fell-since machine first between there.gains) (fell-gained between after gone.gains) unfailed);
  }

-- ---- what is shown

-- the position is within the course
within : (course : Course) (last : State) (slices : List ℕ) (position : Position) (devices : Outside) → IsAt course last slices position devices → position.events ≤ last_of course
within course last slices position devices at =
    let all : last_of course ≡ length at.past + length at.later = ap length at.all ∙ length-append at.past at.later in
    omega (arith, all, at.count)

-- `to` has reached the position
pub shown-there : {Value : Type 0} (value : Value) (machine : Machine) (k : ℕ) (old new : Position)
    (before after : Outside) → MovesOn machine (To k) old new (Ok value) before after → new.events ≡ k
    → HasShown machine (To k) old new [] before after
shown-there value machine k old new before after moved reached = λ first can at bare unfailed course is.
    let there = moved.stays first can at in
    let low : new.events ≤ last_of course = within course is.last machine.slices.now new after (there.at bare unfailed course is) in
    let test : nat_lt (last_of course) k ≡ false = le-ltb (last_of course) k (omega (arith, low, reached)) in
    (rw test refl, omega (arith, low, reached))

-- or the last one
pub shown-end : (machine : Machine) (k : ℕ) (old new : Position) (before after : Outside) → IsAtEnd k machine old new
    before after → (line : List ℕ) → line ≡ end_line new.events → HasShown machine (To k) old new line before after
shown-end machine k old new before after end line is = λ first can at bare unfailed course given.
    let last : last_of course ≡ new.events = end.last first can at bare unfailed course given in
    let test : nat_lt (last_of course) k ≡ true = lt-ltb (last_of course) k (omega (arith, last, end.short)) in
    (rw test (is ∙ ap end_line (sym last)), omega (arith, last, end.short))

-- `back` has reached the position
pub shown-back : {Value : Type 0} (value : Value) (machine : Machine) (n k : ℕ) (old new : Position)
    (before after : Outside) → MovesOn machine (To k) old new (Ok value) before after → k ≡ old.events - n
    → new.events ≡ k → HasShown machine (Back n) old new [] before after
shown-back value machine n k old new before after moved place reached = λ first can at bare unfailed course is. (refl, reached ∙ place)

-- it never comes to the end before
pub shown-never : {Value : Type 0} (value : Value) (machine : Machine) (n k : ℕ) (old new : Position)
    (before after : Outside) → MovesOn machine (To k) old new (Ok value) before after → k ≡ old.events - n
    → IsAtEnd k machine old new before after → HasShown machine (Back n) old new [] before after
shown-never value machine n k old new before after moved place end = λ first can at bare unfailed course is.
    let last : last_of course ≡ new.events = end.last first can at bare unfailed course is in
    let none : Unfailed first before = unfailed-before first before after (fell-since machine first before at.gains) moved.counts unfailed in
    let low : old.events ≤ last_of course = within course is.last machine.slices.now old before (at.at bare none course is) in
    absurd (omega (arith, last, low, place, end.short))

pub shown-any : (step : Step) (machine : Machine) (n k : ℕ) (old new : Position) (before after : Outside)
    → MovesOn machine (To k) old new (Ok step) before after → k ≡ old.events - n → (step ≡ Event → new.events ≡ k)
    → (step ≡ End → IsAtEnd k machine old new before after) → HasShown machine (Back n) old new [] before after
shown-any Event machine n k old new before after moved place reached end =
    shown-back Event machine n k old new before after moved place (reached refl)
shown-any End machine n k old new before after moved place reached end =
    shown-never End machine n k old new before after moved place (end refl)

-- a command that goes nowhere
module _ (machine : Machine) (position : Position) (devices : Outside) (line : List ℕ) where
  pub shown-regs : AtPosition position (λ course. line ≡ shows course position.events Regs) → HasShown machine Regs position position line devices devices
  shown-regs at = λ first can there bare unfailed course is.
      (at course is.last machine.slices.now devices (there.at bare unfailed course is), refl)

  pub shown-memory : (span : Span) → AtPosition position (λ course. line ≡ shows course position.events (Mem span)) → HasShown machine (Mem span) position position line devices devices
  shown-memory span at = λ first can there bare unfailed course is.
      (at course is.last machine.slices.now devices (there.at bare unfailed course is), refl)

  pub shown-instructions : (span : Span) → AtPosition position (λ course. line ≡ shows course position.events (Dis span)) → HasShown machine (Dis span) position position line devices devices
  shown-instructions span at = λ first can there bare unfailed course is.
      (at course is.last machine.slices.now devices (there.at bare unfailed course is), refl)

-- ---- for want of memory

pub moves-told : {Line Error Value : Type 0} (line : Result Line Error) (value : Value) (machine : Machine)
    (command : Command) (old new : Position) (before after : Outside) → MovesOn machine command old new (Ok value)
    before after → MovesOn machine command old new (or_no_memory line) before after
moves-told (Ok line) value machine command old new before after moved =
    record { stays = moved.stays; counts = moved.counts; fails = tt; may_fail = tt }
moves-told (Err error) value machine command old new before after moved =
    record { stays = tt; counts = tt; fails = moved.counts; may_fail = tt }

pub shown-told : {Line Error : Type 0} (line : Result Line Error) (said fact : Line → Type 0) → ((it : Line) → said it → fact it) → IfOk line said → IfOk (or_no_memory line) fact
shown-told (Ok line) said fact then is = then line is
shown-told (Err error) said fact then is = tt
