-- What an attempt comes to that reaches no drive, and the tests that it passes.
use Rattle.std.proofs.Common.{◌≡◌, ◌∙◌, ℕ, Bool, true, false, Option, Some, None, is_some, is_none, List, length, sym, ap, refl, subst, inl}
use Rattle.std.specs.Prelude.{if◌then◌else◌}
use Rattle.std.proofs.lemmas.Bool.{false≢true}
use Rattle.os9_base.specs.declared.call.CallEnd.{CallEnd}
use Rattle.os9_base.specs.declared.registers.Regs.{Regs}
use Rattle.os9_base.specs.declared.registers.TimePacket.{TimePacket}
use Rattle.os9_outer.specs.TerminalState.{TerminalState}
use Rattle.proc_model.specs.Processes.{Processes}
use Rattle.io_model.specs.Io.{Io, with_call}
use Rattle.io_model.specs.Step.{answers}
use Rattle.proc_state.specs.Tie.{RepresentsProcesses}
use Rattle.proc_state.specs.declared.state.ProcState.{ProcState}
use Rattle.file_drives.specs.Drives.{DriveView}
use Rattle.file_rules.specs.Attempts.{asker_of, file_step}
use Rattle.file_rules.specs.Files.{Files, with_io}
use Rattle.file_rules.specs.Step.{Deed, FileStep, refused, comes, needs, refuses, done, deed_of, leaves, leaves_so, refuses_so}
use Rattle.file_rules.specs.declared.path_call.PathCall.{PathCall}
use Rattle.file_state.proofs.CountLemmas.{called-none}
use Rattle.file_state.proofs.EndLemmas.{goes-well}
use Rattle.file_state.proofs.KeepLemmas.{ends-attempt, keeps-same, lacks-attempt}
use Rattle.file_state.proofs.RequestLemmas.{lacks-none}
use Rattle.file_state.proofs.StateLemmas.{stands-with_io}
use Rattle.file_state.specs.Attempt.{MachineOnDrives}
use Rattle.file_state.specs.Counted.{AttemptsIn}
use Rattle.file_state.specs.Tie.{RepresentsFiles}
use Rattle.file_state.specs.declared.state.FileState.{FileState}
use Rattle.file_io.specs.Ending.{IsCallDone, IsCallRefused}
use Rattle.file_state.specs.Ends.{EndsFileAttempt, EndsOrLacks, EndsUnentered}
use Rattle.file_state.specs.Lacks.{AttemptsOrLacks}

-- what is not there is nothing
pub none-of : {A : Type 0} (o : Option A) (there : Bool) → there ≡ is_some o → there ≡ false → is_none o ≡ true
none-of None there is out = refl
none-of (Some a) there is out = absurd (false≢true (sym out ∙ is))

pub some-of : {A : Type 0} (o : Option A) (there : Bool) → there ≡ is_some o → there ≡ true → is_none o ≡ false
some-of None there is inside = absurd (false≢true (sym is ∙ inside))
some-of (Some a) there is inside = refl

-- ---- what is done behind a test

pub deed-refused : (files : Files) (test : Bool) (number : ℕ) (next : FileStep) → test ≡ true → deed_of (refuses test number next) files ≡ leaves_so (refuses_so number files)
deed-refused files test number next is = ap (λ (t : Bool). deed_of (refuses t number next) files) is

pub deed-goes : (files : Files) (test : Bool) (number : ℕ) (deed : Deed) → test ≡ false → deed_of (refuses test number (comes deed)) files ≡ deed
deed-goes files test number deed is = ap (λ (t : Bool). deed_of (refuses t number (comes deed)) files) is

-- ---- what reaches no drive

module _ (m : Processes) (files : Files) (now : TimePacket) (p : ℕ) (end : CallEnd) (processes : ProcState)
    (old : FileState) (new : Io) (views : List DriveView) (terms : List TerminalState) {most : ℕ}
    (stands : RepresentsFiles old views files) where
  -- it is refused
  pub ends-refused : (number : ℕ) → IsCallRefused number m p old.io end processes new → EndsFileAttempt (refused number) most m files now p end processes (record old { io = new }) views views terms
  ends-refused number it = record {
    effect = refuses_so number files;
    does = goes-well (refused number) (asker_of m p now) files (refuses_so number files) files.drives terms refl refl;
    comes = (it.end_is, it.tied);
    stands =
        inl (stands-with_io old views files (with_call files.io p None) new (ap (λ (io : Io). with_call io p None) stands.io ∙ sym it.io_is) stands);
    calls = called-none views;
    drives = keeps-same (refused number) (asker_of m p now) files end views tt;
  }

  -- it is done
  pub ends-done : (change : Io → Io) (regs : Regs) → IsCallDone m p regs (change old.io) end processes new
      → EndsFileAttempt (done regs (with_io files (change files.io))) most m files now p end processes (record old { io = new })
      views views terms
  ends-done change regs it = record {
    effect = leaves (answers regs) (with_io files (change files.io));
    does = goes-well (done regs (with_io files (change files.io))) (asker_of m p now) files (leaves (answers regs) (with_io files (change files.io))) files.drives terms refl refl;
    comes = (it.end_is, it.tied);
    stands =
        inl (stands-with_io old views files (with_call (change files.io) p None) new (ap (λ (io : Io). with_call (change io) p None) stands.io ∙ sym it.io_is) stands);
    calls = called-none views;
    drives = keeps-same (done regs (with_io files (change files.io))) (asker_of m p now) files end views tt;
  }

  -- the same, since no memory is wanting
  pub tries-refused : (number : ℕ) → IsCallRefused number m p old.io end processes new → EndsOrLacks (refused number) most m files now p end processes (record old { io = new }) views views terms
  tries-refused number it =
      lacks-none (refused number) most m files now p end processes (record old { io = new }) views views terms (ends-refused number it)

  pub tries-done : (change : Io → Io) (regs : Regs) → IsCallDone m p regs (change old.io) end processes new
      → EndsOrLacks (done regs (with_io files (change files.io))) most m files now p end processes
      (record old { io = new }) views views terms
  tries-done change regs it =
      lacks-none (done regs (with_io files (change files.io))) most m files now p end processes (record old { io = new }) views views terms (ends-done change regs it)

module _ (m : Processes) (files : Files) (now : TimePacket) (p : ℕ) (end : CallEnd) (processes : ProcState)
    (new : FileState) (views : List DriveView) (terms : List TerminalState) {most : ℕ} {before : List DriveView} where
  -- ---- the tests of a step

  pub ends-needs-none : {A : Type 0} (o : Option A) (number : ℕ) (next : A → FileStep) → o ≡ None
      → EndsOrLacks (refused number) most m files now p end processes new before views terms
      → EndsOrLacks (needs o number next) most m files now p end processes new before views terms
  ends-needs-none {A} o number next is ends = subst (λ (o : Option A). EndsOrLacks (needs o number next) most m files now p end processes new before views terms) (sym is) ends

  pub ends-needs-some : {A : Type 0} (o : Option A) (a : A) (number : ℕ) (next : A → FileStep) → o ≡ Some a
      → EndsOrLacks (next a) most m files now p end processes new before views terms
      → EndsOrLacks (needs o number next) most m files now p end processes new before views terms
  ends-needs-some {A} o a number next is ends = subst (λ (o : Option A). EndsOrLacks (needs o number next) most m files now p end processes new before views terms) (sym is) ends

  pub ends-refuses-true : (test : Bool) (number : ℕ) (next : FileStep) → test ≡ true → EndsOrLacks (refused number)
      most m files now p end processes new before views terms → EndsOrLacks (refuses test number next) most m files
      now p end processes new before views terms
  ends-refuses-true test number next is ends = subst (λ (t : Bool). EndsOrLacks (refuses t number next) most m files now p end processes new before views terms) (sym is) ends

  pub ends-refuses-false : (test : Bool) (number : ℕ) (next : FileStep) → test ≡ false → EndsOrLacks next most m files
      now p end processes new before views terms → EndsOrLacks (refuses test number next) most m files now p end
      processes new before views terms
  ends-refuses-false test number next is ends = subst (λ (t : Bool). EndsOrLacks (refuses t number next) most m files now p end processes new before views terms) (sym is) ends

  pub ends-if-true : (test : Bool) (one other : FileStep) → test ≡ true → EndsOrLacks one most m files now p end
      processes new before views terms → EndsOrLacks (if test then one else other) most m files now p end processes
      new before views terms
  ends-if-true test one other is ends = subst (λ (t : Bool). EndsOrLacks (if t then one else other) most m files now p end processes new before views terms) (sym is) ends

  pub ends-if-false : (test : Bool) (one other : FileStep) → test ≡ false → EndsOrLacks other most m files now p end
      processes new before views terms → EndsOrLacks (if test then one else other) most m files now p end processes
      new before views terms
  ends-if-false test one other is ends = subst (λ (t : Bool). EndsOrLacks (if t then one else other) most m files now p end processes new before views terms) (sym is) ends

  -- a step that is another one
  pub ends-same : (one other : FileStep) → one ≡ other → EndsOrLacks one most m files now p end processes new before
      views terms → EndsOrLacks other most m files now p end processes new before views terms
  ends-same one other same ends = subst (λ (step : FileStep). EndsOrLacks step most m files now p end processes new before views terms) same ends

-- ---- what an attempt did is what its call does

module _ (m : Processes) (files : Files) (now : TimePacket) (p : ℕ) (end : CallEnd) (before after : MachineOnDrives)
    (terms : List TerminalState) (call : PathCall) (step : FileStep) (is : file_step call (asker_of m p now) files
    (length terms) ≡ step) (most : ℕ) where
  -- with at most so many calls of the drives
  pub attempts-in : (limit : ℕ) → limit ≡ most → EndsFileAttempt step most m files now p end after.processes after.files
      before.views after.views terms → AttemptsIn limit call m files now p end terms terms before after
  attempts-in limit same ends =
      subst (λ (n : ℕ). AttemptsIn n call m files now p end terms terms before after) (sym same)
      (ends-attempt most call m files now p end terms before after
      (subst (λ (step : FileStep). EndsFileAttempt step most m files now p end after.processes after.files before.views after.views terms) (sym is) ends))

  -- or memory was wanting for its entry
  pub tries-in : (limit : ℕ) → limit ≡ most → EndsOrLacks step most m files now p end after.processes after.files
      before.views after.views terms → AttemptsOrLacks limit call m files now p end terms terms before after
  tries-in limit same it =
      subst (λ (n : ℕ). AttemptsOrLacks n call m files now p end terms terms before after) (sym same) (record {
        attempted = λ some.
            ends-attempt most call m files now p end terms before after
            (subst (λ (step : FileStep). EndsFileAttempt step most m files now p end after.processes after.files before.views after.views terms) (sym is) (it.ends some));
        lacks = λ none.
            lacks-attempt most call m files now p end terms before after
            (subst (λ (step : FileStep). EndsUnentered step most m files now p end after.files before.views after.views terms) (sym is) (it.lacks none));
      })
