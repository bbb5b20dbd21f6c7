use Rattle.std.proofs.Common.{◌≡◌, ◌∙◌, ◌<◌, ℕ, Option, Some, None, List, length, option_map, take, ap, sym, subst, arith, length-take}
use Rattle.proc_state.proofs.Entered.{some-machine}
use Rattle.os9_base.specs.UserLines.{line_at}
use Rattle.proc_model.specs.Processes.{cells_at}
use Rattle.device_io.proofs.LineLemmas.{line-is}
use Rattle.lock_model.specs.Locks.{Locks, request_of}
use Rattle.lock_model.specs.declared.lock.Request.{Request}
use Rattle.file_io.proofs.CallLemmas.{above}
use Rattle.file_io.specs.Writing.{line_of}
use Rattle.file_io.proofs.writes.line_count.Goals as goal

pub returns-in_err-count-in-None-clause-line : goal.returns-in_err-count-in-None-clause-line
returns-in_err-count-in-None-clause-line c m tied =
    let p = c.args.p.0 in
    let cells = cells_at m p in
    let regs = c.args.regs in
    let none : None ≡ request_of c.args.files.now.records.locks p =
    c.in-None.ensures.request ∙ ap (λ (locks : Locks). request_of locks p) c.locks.ensures.locks in
    let absent : line_of (request_of c.args.files.now.records.locks p) cells regs ≡ None =
    ap (λ (o : Option Request). line_of o cells regs) (sym none)
    ∙ c.in_err-count-in-None.ensures.line m tied in
    subst (λ (o : Option ℕ). line_of (request_of c.args.files.now.records.locks p) cells regs ≡
    option_map (λ (count : ℕ). take count c.read_line.new.self.buffer.items) o) (sym c.from_residual.ensures) absent

pub returns-in_ok-count-in-None-clause-line : goal.returns-in_ok-count-in-None-clause-line
returns-in_ok-count-in-None-clause-line c m tied =
    let p = c.args.p.0 in
    let cells = cells_at m p in
    let regs = c.args.regs in
    let none : None ≡ request_of c.args.files.now.records.locks p =
    c.in-None.ensures.request ∙ ap (λ (locks : Locks). request_of locks p) c.locks.ensures.locks in
    ap (λ (o : Option Request). line_of o cells regs) (sym none)
    ∙ c.in_ok-count-in-None.ensures.line m tied

pub returns-in_ok-count-in-None-clause-some : goal.returns-in_ok-count-in-None-clause-some
returns-in_ok-count-in-None-clause-some c some =
    let (m, tied) = some-machine c.args.s.now in
    let cells = cells_at m c.args.p.0 in
    let regs = c.args.regs in
    let line : List ℕ = take c.in_ok-count-in-None.count c.read_line.new.self.buffer.items in
    let is : line_at cells regs.x regs.y ≡ Some line = c.in_ok-count-in-None.ensures.line m tied in
    let more : 0 < length line = (line-is cells regs.x regs.y line is).some (above some) in
    omega (arith, more, length-take c.in_ok-count-in-None.count c.read_line.new.self.buffer.items)
