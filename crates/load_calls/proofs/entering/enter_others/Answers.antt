use Rattle.std.proofs.Common.{◌≡◌, ◌+◌, ℕ, None, sym, subst, arith}
use Rattle.guest_memory.specs.Tie.{modules_of}
use Rattle.proc_model.proofs.LoadingLemmas.{LiesIn, LiesIn-step}
use Rattle.proc_model.specs.Loading.{entry_refusal}
use Rattle.load_calls.proofs.EnteringLemmas.{Progress, all-entered, is-there, next-inside, none-broken, progress-more, takes-next}
use Rattle.load_calls.proofs.entering.enter_others.Goals as goal
use Rattle.load_calls.proofs.entering.enter_others.Goals.{In-Module}

-- the module lies in the file, and the directory takes it
lies : (c : In-Module) → LiesIn c.args.file.now c.loop-info.from c.in-Module.info
lies c = LiesIn-step c.args.file.now c.loop-info.from c.in-Module.info (sym c.in-Module.ensures.step)

here : (c : In-Module) → Progress c.args.file.now c.requires.can.group c.args.id.0 c.args.start c.requires.can.m c.loop-info.from c.loop-info.memory
here c =
    let can = c.requires.can in c.loop-info.invariant.progress can.m can.group can.represents can.of_group

takes : (c : In-Module) → entry_refusal (modules_of c.loop-info.memory) c.in-Module.info ≡ None
takes c =
    let can = c.requires.can in
    takes-next c.args.file.now can.group c.args.id.0 c.args.start can.m c.loop-info.from c.loop-info.memory (here c) can.after c.in-Module.info (sym c.in-Module.ensures.step) can.enters

pub returns-in-End : goal.returns-in-End
returns-in-End c = record {
  entered = λ m group after tied of enters.
      all-entered c.args.file.now group c.args.id.0 c.args.start m c.loop-info.from c.loop-info.memory (c.loop-info.invariant.progress m group tied of) after (sym c.in-End.ensures.step) enters;
}

pub unreachable-requires : goal.unreachable-requires
unreachable-requires c =
    let can = c.requires.can in
    none-broken c.args.file.now can.group c.args.id.0 c.args.start can.m c.loop-info.from c.loop-info.memory
    (c.loop-info.invariant.progress can.m can.group can.represents can.of_group) can.after _ _
    (sym c.in-Fault.ensures.step) can.enters

pub enter_beside-requires-clause-entered : goal.enter_beside-requires-clause-entered
enter_beside-requires-clause-entered c =
    let can = c.requires.can in
    is-there c.args.file.now can.group c.args.id.0 c.args.start can.m c.loop-info.from c.loop-info.memory (here (goal.at.enter_beside-requires-clause-entered c).In-Module)

pub enter_beside-requires-clause-inside : goal.enter_beside-requires-clause-inside
enter_beside-requires-clause-inside c =
    let can = c.requires.can in
    next-inside c.args.file.now can.group c.args.id.0 c.args.start can.m c.loop-info.from c.loop-info.memory
    (here (goal.at.enter_beside-requires-clause-inside c).In-Module) c.in-Module.info can.room
    (lies (goal.at.enter_beside-requires-clause-inside c).In-Module).in_file

pub enter_beside-requires-clause-runs : goal.enter_beside-requires-clause-runs
enter_beside-requires-clause-runs c = (lies (goal.at.enter_beside-requires-clause-runs c).In-Module).enters

pub enter_beside-requires-clause-accepted : goal.enter_beside-requires-clause-accepted
enter_beside-requires-clause-accepted c = takes (goal.at.enter_beside-requires-clause-accepted c).In-Module

pub loop-info-smaller : goal.loop-info-smaller
loop-info-smaller c =
    let it = lies (goal.at.loop-info-smaller c).In-Module in
    omega (arith, it.from_there, it.sized, it.in_file, c.from.ensures)

pub loop-info-preserved : goal.loop-info-preserved
loop-info-preserved c =
    let it = lies (goal.at.loop-info-preserved c).In-Module in
    record {
      within = omega (arith, it.in_file, c.from.ensures);
      progress = λ m group tied of.
          subst (λ (size : ℕ). Progress c.args.file.now group c.args.id.0 c.args.start m (c.in-Module.info.at + size) c.enter_beside.new.self) (sym c.from.ensures)
          (progress-more c.args.file.now group c.args.id.0 c.args.start m c.loop-info.from c.loop-info.memory
          (c.loop-info.invariant.progress m group tied of) c.in-Module.info c.enter_beside.new.self
          (sym c.in-Module.ensures.step) (takes (goal.at.loop-info-preserved c).In-Module)
          c.enter_beside.ensures.enters);
    }
