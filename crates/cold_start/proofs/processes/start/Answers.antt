use Rattle.std.proofs.lemmas.Result.{err_from_is_err_and}
use Rattle.machine_model.specs.ProcessStart.{boot_memory}
use Rattle.machine_model.proofs.StartLaws.{never-both}
use Rattle.cold_start.proofs.FirstStarting.{starts-so, starts-at, refuses-so}
use Rattle.cold_start.proofs.processes.start.Goals as goal

pub returns-in_err-first-clause-refused : goal.returns-in_err-first-clause-refused
returns-in_err-first-clause-refused c =
    let p = err_from_is_err_and c.from_residual-in_err-first.result c.from_residual-in_err-first.ensures.1 in
    rw (p.1, p.2) (λ _. c.in_err-first.ensures.refused c.args.blocks c.in_ok-processes.ensures)

pub begin-requires-clause-nobody : goal.begin-requires-clause-nobody
begin-requires-clause-nobody c =
    let found = c.in_ok-first.ensures.found c.args.blocks c.in_ok-processes.ensures in
    (boot_memory c.args.boot.now c.args.blocks found.entries, found.represents)

pub returns-in-Ok-clause-start : goal.returns-in-Ok-clause-start
returns-in-Ok-clause-start c =
    let found = c.in_ok-first.ensures.found c.args.blocks c.in_ok-processes.ensures in
    let memory = boot_memory c.args.boot.now c.args.blocks found.entries in
    starts-so c.args.boot.now c.args.blocks c.in_ok-first.first.0 c.load_boot.new.processes c.begin.new.processes found (c.in-Ok.ensures.begun memory found.entry found.represents found.has.is)

pub returns-in-Ok-clause-accepted : goal.returns-in-Ok-clause-accepted
returns-in-Ok-clause-accepted c = λ fault refuses.
    let found = c.in_ok-first.ensures.found c.args.blocks c.in_ok-processes.ensures in
    let memory = boot_memory c.args.boot.now c.args.blocks found.entries in
    let (m, starts, stands) = starts-so c.args.boot.now c.args.blocks c.in_ok-first.first.0 c.load_boot.new.processes
    c.begin.new.processes found (c.in-Ok.ensures.begun memory found.entry found.represents found.has.is) in
    never-both c.args.boot.now c.args.blocks m fault starts refuses

pub returns-in-Ok-clause-count : goal.returns-in-Ok-clause-count
returns-in-Ok-clause-count c =
    let found = c.in_ok-first.ensures.found c.args.blocks c.in_ok-processes.ensures in
    let memory = boot_memory c.args.boot.now c.args.blocks found.entries in
    starts-at c.args.boot.now c.args.blocks c.in_ok-first.first.0 c.load_boot.new.processes c.begin.new.processes found (c.in-Ok.ensures.begun memory found.entry found.represents found.has.is)

pub returns-in-Err-clause-refused : goal.returns-in-Err-clause-refused
returns-in-Err-clause-refused c = λ _.
    let found = c.in_ok-first.ensures.found c.args.blocks c.in_ok-processes.ensures in
    let memory = boot_memory c.args.boot.now c.args.blocks found.entries in
    refuses-so c.args.boot.now c.args.blocks c.in_ok-first.first.0 c.load_boot.new.processes c.begin.new.processes
    found c.in-Err.field-0 (c.in-Err.ensures.begun memory found.entry found.represents found.has.is)
