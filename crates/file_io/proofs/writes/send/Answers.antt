use Rattle.std.proofs.Common.{◌≡◌, ◌==◌, ◌∙◌, ℕ, Bool, List, not, length, take, sym, ap, ap₂, subst, arith, eq-eqb}
use Rattle.std.proofs.lemmas.Bool.{ne_eqb}
use Rattle.std.proofs.lemmas.List.{length-take-le}
use Rattle.os9_base.specs.declared.errors.TheConstants.{E_BMODE}
use Rattle.os9_base.specs.declared.registers.Regs.{Regs}
use Rattle.proc_model.specs.Processes.{regs_at, with_regs_of}
use Rattle.io_model.specs.Io.{Io}
use Rattle.io_model.specs.Modes.{can_write}
use Rattle.proc_state.specs.Tie.{RepresentsProcesses}
use Rattle.io_state.proofs.RequesterLemmas.{called-regs}
use Rattle.file_rules.specs.Attempts.{asker_of}
use Rattle.file_rules.specs.Step.{done}
use Rattle.file_state.specs.declared.state.FileState.{FileState}
use Rattle.file_io.proofs.TryingLemmas.{ends-if-false, ends-if-true, ends-refuses-false, ends-refuses-true, tries-done, tries-refused}
use Rattle.file_io.proofs.WritingLemmas.{ends-writes}
use Rattle.file_io.specs.Opened.{found_on}
use Rattle.file_io.specs.Writing.{write_file, write_opened}
use Rattle.file_io.proofs.writes.send.Goals as goal

pub returns-then-not-can_write-clause-call : goal.returns-then-not-can_write-clause-call
unfolding write_opened
returns-then-not-can_write-clause-call g c m was v file terms tied stands is there =
    let p = c.args.by.p.0 in
    let new : FileState = record c.args.machine.now.files { io = c.refuse.new.io } in
    ends-refuses-true m was c.args.by.time p c.refuse.result c.args.machine.now.processes new _ terms
    (not (can_write c.args.opened.now.desc.mode)) E_BMODE _
    (ap (λ (b : Bool). not b) (sym c.can_write.ensures ∙ c.if-not-can_write.true))
    (tries-refused m was c.args.by.time p c.refuse.result c.args.machine.now.processes c.args.machine.now.files new.io _ terms stands E_BMODE
    (record { end_is = c.refuse.ensures.end; tied = tied; io_is = c.refuse.ensures.io }))

pub returns-then-regs-eq0-clause-call : goal.returns-then-regs-eq0-clause-call
unfolding write_opened write_file
returns-then-regs-eq0-clause-call g c m was v file terms tied stands is there =
    let p = c.args.by.p.0 in
    let asker = asker_of m p c.args.by.time in
    let found = found_on c.args.opened.now v file in
    let bytes : List ℕ = take c.args.sent.count c.args.machine.now.processes.buffer.items in
    let same : c.args.by.regs ≡ regs_at m p = called-regs c.args.by c.args.machine.now.processes m c.requires.calls.calls tied in
    let none : (regs_at m p).y ≡ 0 = subst (λ (r : Regs). r.y ≡ 0) same c.if-regs-eq0.true in
    let new : FileState = record c.args.machine.now.files { io = c.answer.new.io } in
    ends-refuses-false m was c.args.by.time p c.answer.result c.answer.new.s new _ terms
    (not (can_write c.args.opened.now.desc.mode)) E_BMODE _
    (ap (λ (b : Bool). not b) (sym c.can_write.ensures ∙ c.if-not-can_write.false))
    (ends-if-true m was c.args.by.time p c.answer.result c.answer.new.s new _ terms ((regs_at m p).y == 0)
    (done (regs_at m p) was) (write_file c.args.sent.code bytes (record (regs_at m p) { y = length bytes }) asker
    was found) (eq-eqb (regs_at m p).y 0 none)
    (tries-done m was c.args.by.time p c.answer.result c.answer.new.s c.args.machine.now.files new.io _ terms stands
    (λ (io : Io). io) (regs_at m p)
    (record {
      end_is = c.answer.ensures.end;
      tied = subst (λ (r : Regs). RepresentsProcesses c.answer.new.s
          (with_regs_of m p r)) same (c.answer.ensures.tied m tied);
      io_is = c.answer.ensures.io;
    })))

pub write_file-requires-clause-file : goal.write_file-requires-clause-file
write_file-requires-clause-file g c = c.requires.file (sym c.can_write.ensures ∙ c.if-not-can_write.false)

pub write_file-requires-clause-asks : goal.write_file-requires-clause-asks
write_file-requires-clause-asks g c = c.requires.may.asks

pub write_file-requires-clause-sends : goal.write_file-requires-clause-sends
write_file-requires-clause-sends g c =
    c.requires.may.sends c.if-regs-eq0.false

pub returns-clause-call : goal.returns-clause-call
unfolding write_opened
returns-clause-call g c m was v file terms tied stands is there =
    let p = c.args.by.p.0 in
    let asker = asker_of m p c.args.by.time in
    let found = found_on c.args.opened.now v file in
    let bytes : List ℕ = take c.args.sent.count c.args.machine.now.processes.buffer.items in
    let same : c.args.by.regs ≡ regs_at m p = called-regs c.args.by c.args.machine.now.processes m c.requires.calls.calls tied in
    let some : (regs_at m p).y ≡ 0 → ⊥ = subst (λ (r : Regs). r.y ≡ 0 → ⊥) same c.if-regs-eq0.false in
    let long : length bytes ≡ c.args.sent.count = length-take-le c.args.sent.count c.args.machine.now.processes.buffer.items (omega arith) in
    let answered : c.args.sent.done ≡ record (regs_at m p) { y = length bytes } =
    c.requires.may.done ∙ ap₂ (λ (r : Regs) (n : ℕ). record r { y = n }) same (sym long) in
    ends-refuses-false m was c.args.by.time p c.write_file.result c.write_file.new.machine.processes c.write_file.new.machine.files _ terms
    (not (can_write c.args.opened.now.desc.mode)) E_BMODE _
    (ap (λ (b : Bool). not b) (sym c.can_write.ensures ∙ c.if-not-can_write.false))
    (ends-if-false m was c.args.by.time p c.write_file.result c.write_file.new.machine.processes c.write_file.new.machine.files _ terms ((regs_at m p).y == 0)
    (done (regs_at m p) was) _ (ne_eqb (regs_at m p).y 0 some)
    (ends-writes m was c.args.by.time p c.write_file.result c.write_file.new.machine.processes c.write_file.new.machine.files _ terms
    c.args.sent.code bytes c.args.sent.done (record (regs_at m p) { y = length bytes }) found answered
    (c.write_file.ensures.call m was v file terms tied stands is there)))
