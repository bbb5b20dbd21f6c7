-- What a session has printed, command by command.
use Rattle.std.proofs.Common.{◌≡◌, ◌≢◌, ℕ, zero, suc, ◌+◌, ◌≤◌, All, Option, Some, Ok, Err, List, [], ◌∷◌, ◌++◌, length, take, drop, inl, inr, refl, sym, ap, ◌∙◌, subst, append_assoc, append-nil, arith}
use Rattle.std.specs.Prelude.{fold, slice_get}
use Rattle.os9_outer.specs.TerminalState.{TerminalState}
use Rattle.script_text.specs.declared.script.ScriptKey.{ScriptKey}
use Rattle.boot_run.specs.Loaded.{loaded_from}
use Rattle.os9_outer.specs.Stream.{GainsPrefix, stream_with}
use Rattle.std.proofs.lemmas.List.{drop_all, take-append-drop, take_all}
use Rattle.device_table.proofs.StreamLemmas.{appended-nothing, appended-twice}
use Rattle.os9_words.proofs.Prefixes.{GainsPrefix-front, GainsPrefix-then}
use Rattle.machine_model.specs.ProcessStart.{RefusesBoot}
use Rattle.machine_model.specs.declared.ends.BootFault.{BootFault}
use Rattle.os9_kernel.specs.Outside.{Outside}
use Rattle.boot_run.specs.World.{FailsToWrite, HasNoFault, World}
use Rattle.os9_debug.proofs.Courses.{course-one, course-some}
use Rattle.os9_debug.specs.Course.{Course, position_after}
use Rattle.os9_debug.specs.Prints.{printed_from, shows}
use Rattle.os9_debug.specs.declared.command.Command.{Command}
use Rattle.os9_debug.specs.Devices.{Unfailed}
use Rattle.os9_debug.specs.declared.position.Position.{Position}
use Rattle.os9_debug.specs.Counts.{NoneFell}
use Rattle.os9_debug.specs.Machine.{CanStart, HasNoBytes, HasStart, InCourse, boot_of}
use Rattle.os9_debug.specs.Moves.{FailsToMove, FailsToStart, HasShown, IsPositionOf, LeadsBack, MayFailSo, MovesOn}
use Rattle.os9_debug.specs.Session.{CanFail, PrintsAll, PrintsFirstOfCourse, DebugSessionCall, ShowsTheCourse, StopsDebugSession, position_behind}
use Rattle.os9_debug.specs.declared.machine.Machine.{Machine}
use Rattle.os9_debug.specs.declared.machine.SessionFault.{SessionFault}
use Rattle.os9_debug.specs.declared.machine.SessionFault.TheVariants.{Refused, TerminalFailed, OutputFailed, NoMemory}
use Rattle.os9_debug.proofs.Counted.{fell-since, once-before, rose-since, unfailed-before}

-- ---- a part of the commands

-- so many commands are done, whose lines are put: others, whatever they are, go on from this position
pub record Printed (course : Course) (commands : List Command) (i : ℕ) (first now : Option (List ℕ)) (k : ℕ) : Type 0 where
  pub lines : List ℕ
  pub put : now ≡ stream_with first lines
  pub all : (rest : List Command) → printed_from course 0 (take i commands ++ rest) ≡ lines ++ printed_from course k rest
  pub there : (rest : List Command) → position_behind course (take i commands ++ rest) ≡ fold (position_after course) k rest

-- the others of the list
whole : (course : Course) (commands : List Command) (i : ℕ) (first now : Option (List ℕ)) (k : ℕ)
    (so_far : Printed course commands i first now k) → printed_from course 0 commands ≡ so_far.lines ++ printed_from
    course k (drop i commands)
whole course commands i first now k so_far =
    ap (λ all. printed_from course 0 all) (sym (take-append-drop i commands)) ∙ so_far.all (drop i commands)

-- no others
alone : (course : Course) (commands : List Command) (i : ℕ) (first now : Option (List ℕ)) (k : ℕ)
    (so_far : Printed course commands i first now k) → printed_from course 0 (take i commands) ≡ so_far.lines
alone course commands i first now k so_far =
    ap (λ all. printed_from course 0 all) (sym (append-nil (take i commands))) ∙ so_far.all [] ∙ append-nil so_far.lines

-- the position to which they lead
led : (course : Course) (commands : List Command) (i : ℕ) (first now : Option (List ℕ)) (k : ℕ) → Printed course commands i first now k → position_behind course (take i commands) ≡ k
led course commands i first now k so_far =
    ap (position_behind course) (sym (append-nil (take i commands))) ∙ so_far.there []

-- the next one is the one of that number
get-next : (commands : List Command) (i : ℕ) (command : Command) (later : List Command) → drop i commands ≡ command ∷ later → slice_get commands i ≡ Some command
get-next [] zero command later is = absurd (cc)
get-next [] (suc i) command later is = absurd (cc)
get-next (other ∷ commands) zero command later is = let same : other ≡ command = cc in ap Some same
get-next (other ∷ commands) (suc i) command later is = get-next commands i command later is

-- and the first of the others
take-next : (commands : List Command) (i : ℕ) (command : Command) (later rest : List Command) → drop i commands ≡ command ∷ later → take (i + 1) commands ++ rest ≡ take i commands ++ (command ∷ rest)
take-next [] zero command later rest is = absurd (cc)
take-next [] (suc i) command later rest is = absurd (cc)
take-next (other ∷ commands) zero command later rest is =
    let same : other ≡ command = cc in ap (λ (command : Command). command ∷ rest) same
take-next (other ∷ commands) (suc i) command later rest is =
    let place : suc i + 1 ≡ suc (i + 1) = omega arith in
    rw place (ap (λ (rest : List Command). other ∷ rest) (take-next commands i command later rest is))

-- in the course of a machine that was started on these devices
abbrev pub SoFar : Machine → List Command → Outside → Outside → ℕ → Option (List ℕ) → Option (List ℕ) → ℕ → Type 0
SoFar machine commands first devices i out now k =
    InCourse machine first devices (λ course. Printed course commands i out now k)

more : (course : Course) (command : Command) (commands : List Command) (i : ℕ) (first before now : Option (List ℕ))
    (line : List ℕ) (k next : ℕ) → drop i commands ≡ command ∷ drop (i + 1) commands → line ≡ shows course k command
    → next ≡ position_after course k command → now ≡ stream_with before line → Printed course commands i first before
    k → Printed course commands (i + 1) first now next
more course command commands i first before now line k next at is place put so_far = record {
  lines = so_far.lines ++ line;
  put = put ∙ ap (λ stream. stream_with stream line) so_far.put ∙ appended-twice first so_far.lines line;
  all = λ rest.
      ap (λ all. printed_from course 0 all) (take-next commands i command (drop (i + 1) commands) rest at)
      ∙ so_far.all (command ∷ rest)
      ∙ ap (λ shown. so_far.lines ++ (shown ++ printed_from course (position_after course k command) rest)) (sym is)
      ∙ ap (λ place. so_far.lines ++ (line ++ printed_from course place rest)) (sym place)
      ∙ sym (append_assoc so_far.lines line (printed_from course next rest));
  there = λ rest.
      ap (position_behind course) (take-next commands i command (drop (i + 1) commands) rest at)
      ∙ so_far.there (command ∷ rest)
      ∙ ap (λ place. fold (position_after course) place rest) (sym place);
}

-- the line of a command is among those of all
among : (course : Course) (command : Command) (commands : List Command) (i : ℕ) (first before : Option (List ℕ))
    (line : List ℕ) (k : ℕ) → drop i commands ≡ command ∷ drop (i + 1) commands → line ≡ shows course k command
    → (so_far : Printed course commands i first before k) → printed_from course 0 commands ≡ (so_far.lines ++ line) ++
    printed_from course (position_after course k command) (drop (i + 1) commands)
among course command commands i first before line k at is so_far =
    let rest = printed_from course (position_after course k command) (drop (i + 1) commands) in
    whole course commands i first before k so_far
    ∙ ap (λ rest. so_far.lines ++ printed_from course k rest) at
    ∙ ap (λ shown. so_far.lines ++ (shown ++ rest)) (sym is)
    ∙ sym (append_assoc so_far.lines line rest)

-- so they show something if it does
middle-none : (before line after : List ℕ) → (before ++ line) ++ after ≡ [] → line ≡ []
middle-none [] [] after none = refl
middle-none [] (x ∷ line) after none = absurd (cc)
middle-none (x ∷ before) line after none = absurd (cc)

some : (course : Course) (command : Command) (commands : List Command) (i : ℕ) (first before : Option (List ℕ))
    (line : List ℕ) (k : ℕ) → drop i commands ≡ command ∷ drop (i + 1) commands → line ≡ shows course k command
    → line ≢ [] → Printed course commands i first before k → printed_from course 0 commands ≢ []
some course command commands i first before line k at is more so_far none =
    more
    (middle-none so_far.lines line (printed_from course (position_after course k command) (drop (i + 1) commands)) (sym (among course command commands i first before line k at is so_far) ∙ none))

-- it is put in part
part : (course : Course) (command : Command) (commands : List Command) (i : ℕ) (first before now : Option (List ℕ))
    (line : List ℕ) (k : ℕ) → drop i commands ≡ command ∷ drop (i + 1) commands → line ≡ shows course k command
    → GainsPrefix before line now → Printed course commands i first before k → GainsPrefix first
    (printed_from course 0 commands) now
part course command commands i first before now line k at is gained so_far =
    let rest = printed_from course (position_after course k command) (drop (i + 1) commands) in
    subst (λ bytes. GainsPrefix first bytes now) (sym (among course command commands i first before line k at is so_far))
    (GainsPrefix-front first (so_far.lines ++ line) rest now (GainsPrefix-then first so_far.lines line before now so_far.put gained))

-- no further line is put
front : (course : Course) (commands : List Command) (i : ℕ) (first now : Option (List ℕ)) (k : ℕ) → Printed course commands i first now k → GainsPrefix first (printed_from course 0 commands) now
front course commands i first now k so_far =
    let lines = so_far.lines in
    subst (λ bytes. GainsPrefix first bytes now) (sym (whole course commands i first now k so_far))
    (GainsPrefix-front first lines (printed_from course k (drop i commands)) now (length lines, so_far.put ∙ ap (stream_with first) (sym (take_all (length lines) lines (omega arith)))))

-- ---- the session

pub so-far-none : (machine : Machine) (commands : List Command) (first devices : Outside) (out : Option (List ℕ)) (k : ℕ) → k ≡ 0 → SoFar machine commands first devices 0 out out k
so-far-none machine commands first devices out k none = λ bare unfailed course is. record {
  lines = [];
  put = sym (appended-nothing out);
  all = λ rest. ap (λ k. printed_from course k rest) (sym none);
  there = λ rest. ap (λ k. fold (position_after course) k rest) (sym none);
}

module _ (machine : Machine) (commands : List Command) (before : World) (between : Outside) (i : ℕ)
    (position : Position) (now : Option (List ℕ)) (can : CanStart machine before.devices)
    (at : IsPositionOf machine before.devices position between) (so_far : SoFar machine commands before.devices
    between i before.out now position.events) where
  fell : NoneFell before.devices between
  fell = fell-since machine before.devices between at.gains

  -- a command is done
  pub so-far-more : {Value : Type 0} (value : Value) (command : Command) (new : Position) (after : Outside)
      (line : List ℕ) (later : Option (List ℕ)) → drop i commands ≡ command ∷ drop (i + 1) commands
      → MovesOn machine command position new (Ok value) between after → HasShown machine command position new line
      between after → later ≡ stream_with now line → SoFar machine commands before.devices after (i + 1) before.out
      later new.events
  so-far-more value command new after line later next moved shown put = λ bare unfailed course is.
      let (line_is, place) = shown before.devices can at bare unfailed course is in
      more course command commands i before.out now later line position.events new.events next line_is place put
      (so_far bare (unfailed-before before.devices between after fell moved.counts unfailed) course is)

  -- all are
  pub so-far-all : length commands ≤ i → InCourse machine before.devices between (λ course. now ≡ stream_with before.out (printed_from course 0 commands))
  so-far-all all = λ bare unfailed course is.
      let it = so_far bare unfailed course is in
      it.put ∙ ap (stream_with before.out) (sym (whole course commands i before.out now position.events it ∙ ap
      (λ rest. it.lines ++ printed_from course position.events rest) (drop_all i commands all) ∙ append-nil
      it.lines))

  -- the line of a command is put in part
  pub so-far-part : {Value : Type 0} (value : Value) (command : Command) (new : Position) (line : List ℕ)
      (after : World) → drop i commands ≡ command ∷ drop (i + 1) commands → MovesOn machine command position new
      (Ok value) between after.devices → HasShown machine command position new line between after.devices
      → GainsPrefix now line after.out → InCourse machine before.devices after.devices (PrintsFirstOfCourse machine commands
      before after)
  so-far-part value command new line after next moved shown gained = λ bare unfailed course is.
      let (line_is, place) = shown before.devices can at bare unfailed course is in
      part course command commands i before.out now after.out line position.events next line_is gained
      (so_far bare (unfailed-before before.devices between after.devices fell moved.counts unfailed) course is)

  -- the output failed
  pub so-far-breaks : {Value : Type 0} (value : Value) (command : Command) (new : Position) (line : List ℕ)
      (after : World) → drop i commands ≡ command ∷ drop (i + 1) commands → MovesOn machine command position new
      (Ok value) between after.devices → HasShown machine command position new line between after.devices
      → GainsPrefix now line after.out → line ≢ [] → InCourse machine before.devices after.devices
      (λ course. PrintsFirstOfCourse machine commands before after course × (printed_from course 0 commands ≢ []))
  so-far-breaks value command new line after next moved shown gained more = λ bare unfailed course is.
      let (line_is, place) = shown before.devices can at bare unfailed course is in (
        so-far-part value command new line after next moved shown gained bare unfailed course is,
        some course command
            commands i before.out now line position.events next line_is more
            (so_far bare (unfailed-before before.devices between after.devices fell moved.counts unfailed) course is),
      )

  -- a command failed
  pub so-far-stops : (command : Command) → drop i commands ≡ command ∷ drop (i + 1) commands
      → ((fault : BootFault) → ¬ RefusesBoot machine.file.now machine.blocks fault) → HasStart machine before.devices
      → (fault : SessionFault) (after : World) → after.out ≡ now → FailsToMove machine between after.devices fault
      → MayFailSo command position.events fault → StopsDebugSession machine commands before after fault
  so-far-stops command next accepted starts (Refused fault) after out fails may = absurd (accepted fault fails)
  so-far-stops command next accepted starts (TerminalFailed n) after out fails may = record {
    starts = starts;
    rose = rose-since n before.devices between after.devices fell fails.0;
    done = i;
    next = command;
    next_is = get-next commands i command (drop (i + 1) commands) next;
    between = between;
    gains = at.gains;
    fails = fails.0;
    prints = λ bare once course is.
        let unfailed : Unfailed before.devices between = once-before n before.devices between after.devices fell fails.0 fails.1 once in
        let it = so_far bare unfailed course is in (
          out ∙ it.put ∙ ap (stream_with before.out) (sym (alone course commands i before.out now position.events it)),
          subst (LeadsBack command) (sym (led course commands i before.out now position.events it)) may,
        );
  }
  so-far-stops command next accepted starts OutputFailed after out fails may = absurd fails
  so-far-stops command next accepted starts NoMemory after out fails may =
      inr (
        starts,
        (λ bare unfailed course is. (let so_far_is = so_far bare (unfailed-before before.devices between
            after.devices fell fails unfailed) course is in subst
            (GainsPrefix before.out (printed_from course 0 commands)) (sym out) (front course commands i before.out now
            position.events so_far_is))),
      )

-- ---- how it ends

-- the machine did not start
pub start-stops : (machine : Machine) (commands : List Command) (world : World) (devices : Outside)
    (fault : SessionFault) → FailsToStart machine world.devices devices fault → StopsDebugSession machine commands world
    (record world { devices = devices }) fault
start-stops machine commands world devices (Refused fault) fails =
    (fails.0, ap (λ (devices : Outside). let after : World = record world { devices = devices } in after) fails.1)
start-stops machine commands world devices (TerminalFailed n) fails = absurd fails
start-stops machine commands world devices OutputFailed fails = absurd fails
start-stops machine commands world devices NoMemory fails = inl refl

pub start-no-output : (machine : Machine) (before after : Outside) (fault : SessionFault) → FailsToStart machine before after fault → fault ≢ OutputFailed
start-no-output machine before after fault fails is = subst (FailsToStart machine before after) is fails

pub move-no-output : (machine : Machine) (before after : Outside) (fault : SessionFault) → FailsToMove machine before after fault → fault ≢ OutputFailed
move-no-output machine before after fault fails is = subst (FailsToMove machine before after) is fails

module _ (machine : Machine) (commands : List Command) (before after : World) (files : after.files ≡ before.files) where
  pub session-done : {Value : Type 0} (value : Value) → HasStart machine before.devices → HasNoFault before after
      → PrintsAll machine commands before after → DebugSessionCall machine commands (Ok value) before after
  session-done value starts none prints = record {
    prints = prints;
    starts = starts;
    stops = tt;
    output_fault = λ e. cc e;
    no_fault = λ no. none;
    files_kept = files;
  }

  pub session-stopped : {Value : Type 0} (fault : SessionFault) → fault ≢ OutputFailed → HasNoFault before after
      → StopsDebugSession machine commands before after fault → DebugSessionCall {Value = Value} machine commands (Err fault)
      before after
  session-stopped fault other none stops = record {
    prints = tt;
    starts = tt;
    stops = stops;
    output_fault = λ e. absurd (other (cc));
    no_fault = λ no. none;
    files_kept = files;
  }

  pub session-output : {Value : Type 0} → FailsToWrite before after → HasStart machine before.devices
      → InCourse machine before.devices after.devices (λ course. PrintsFirstOfCourse machine commands before after course ×
      (printed_from course 0 commands ≢ [])) → DebugSessionCall {Value = Value} machine commands (Err OutputFailed) before
      after
  session-output failed begun prints = record {
    prints = tt;
    starts = tt;
    stops = (begun, prints);
    output_fault = λ e. failed;
    no_fault = λ no. absurd (no refl);
    files_kept = files;
  }

-- ---- the one course

count-loaded : (number : ℕ) (keys : List ScriptKey) (terms : List TerminalState) → length (loaded_from number keys terms) ≡ length terms
count-loaded number keys [] = refl
count-loaded number keys (terminal ∷ terms) = ap suc (count-loaded (suc number) keys terms)

pub shows-one : {Value : Type 0} (value : Value) (machine : Machine) (commands : List Command) (before after : World)
    → CanStart machine before.devices → DebugSessionCall machine commands (Ok value) before after
    → All HasNoBytes before.devices.terms → Unfailed before.devices after.devices → CanFail machine before.devices
    → ShowsTheCourse machine commands before after
shows-one value machine commands before after can call bare unfailed rise =
    let (s, starts) = call.starts in
    let boot = boot_of machine before.devices in
    let many : length boot.terms ≡ length before.devices.terms = count-loaded 0 machine.keys.now before.devices.terms in
    let (course, from, is) = course-some boot machine.slices.now s refl starts
    (omega (arith, many, can.can_run.terminals.some)) (omega (arith, many, can.can_run.terminals.few))
    can.can_run.time (rise s starts) in
    record {
      course = course;
      is = is;
      only = λ other it. course-one boot machine.slices.now course other refl is it;
      shown = call.prints bare unfailed course is;
    }
