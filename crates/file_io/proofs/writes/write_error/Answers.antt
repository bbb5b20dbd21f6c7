use Rattle.std.proofs.Common.{◌≡◌, ◌∙◌, Bool, Option, not, sym, ap, refl, arith, rules}
use Rattle.std.specs.Option.{option_map_or}
use Rattle.os9_base.specs.declared.errors.TheConstants.{E_BMODE}
use Rattle.os9_base.specs.declared.registers.Regs.{Regs}
use Rattle.proc_model.specs.Processes.{regs_at}
use Rattle.io_model.specs.Modes.{can_write}
use Rattle.io_model.specs.Write.{error_line}
use Rattle.io_model.specs.declared.modes.TheConstants.{STANDARD_ERROR}
use Rattle.file_rules.specs.Attempts.{asker_of}
use Rattle.file_rules.specs.Files.{OpenFile}
use Rattle.file_rules.specs.Step.{refuses}
use Rattle.file_rules.specs.declared.path_call.PathCall.TheVariants as Call
use Rattle.file_state.specs.declared.state.FileState.{FileState}
use Rattle.io_model.specs.declared.io_call.IoCall.TheVariants as Device
use Rattle.os9_base.specs.declared.calls.TheConstants.{F_PERR}
use Rattle.io_state.proofs.RequesterLemmas.{called-regs}
use Rattle.file_io.proofs.AgainLemmas.{again-no_read, may-ask}
use Rattle.file_io.proofs.CallLemmas.{error-step, known}
use Rattle.file_io.proofs.OpenedLemmas.{is-named, may-be-written}
use Rattle.file_io.proofs.TryingLemmas.{ends-refuses-false, ends-refuses-true, tries-in, tries-refused}
use Rattle.file_io.proofs.WritingLemmas.{ends-write_file}
use Rattle.file_io.specs.Calls.{writing_attempt_calls}
use Rattle.file_io.specs.Opened.{found_on}
use Rattle.file_io.specs.Writing.{write_file}
use Rattle.file_io.proofs.writes.write_error.Goals as goal

pub write_file-requires-clause-file : goal.write_file-requires-clause-file
write_file-requires-clause-file g c =
    may-be-written c.args.machine.now.files _ c.requires.sound c.args.by.p.0 STANDARD_ERROR c.args.opened.now c.requires.opened (sym c.can_write.ensures ∙ c.if-not-can_write.false)

pub write_file-requires-clause-calls : goal.write_file-requires-clause-calls
write_file-requires-clause-calls g c = record {
  calls = record { lives = search rules; regs = search rules };
  no_read =
      again-no_read c.args.machine.now.files.io c.args.by.p.0 STANDARD_ERROR c.args.opened.now Device.PErr _ c.requires.again.again
      refl (is-named c.args.machine.now.files _ c.requires.sound c.args.by.p.0 STANDARD_ERROR c.args.opened.now
      c.requires.opened);
}

pub refuse-requires-clause-no_read : goal.refuse-requires-clause-no_read
refuse-requires-clause-no_read g c =
    again-no_read c.args.machine.now.files.io c.args.by.p.0 STANDARD_ERROR c.args.opened.now Device.PErr _ c.requires.again.again
    refl (is-named c.args.machine.now.files _ c.requires.sound c.args.by.p.0 STANDARD_ERROR c.args.opened.now
    c.requires.opened)

pub write_file-requires-clause-asks : goal.write_file-requires-clause-asks
write_file-requires-clause-asks g c =
    may-ask c.args.machine.now.files _ c.args.by.p.0 STANDARD_ERROR c.args.opened.now c.requires.sound c.requires.opened c.requires.again.kept

pub write_file-requires-clause-sends : goal.write_file-requires-clause-sends
write_file-requires-clause-sends g c = record { moves = refl; some = omega arith }

pub returns-then-not-can_write-clause-call : goal.returns-then-not-can_write-clause-call
returns-then-not-can_write-clause-call g c terms m was tied stands kinds =
    let p = c.args.by.p.0 in
    let now = c.args.by.time in
    let asker = asker_of m p now in
    let it = known c.args.machine.now.files _ was p c.args.opened.now stands kinds STANDARD_ERROR c.requires.opened in
    let found = found_on c.args.opened.now it.volume it.file in
    let new : FileState = record c.args.machine.now.files { io = c.refuse.new.io } in
    let next = write_file F_PERR (error_line (regs_at m p).b) (regs_at m p) asker was found in
    tries-in m was now p c.refuse.result _ _ terms Call.PErr (refuses (not (can_write c.args.opened.now.desc.mode)) E_BMODE next) (error-step asker was found it.found) _ _ refl
    (ends-refuses-true m was now p c.refuse.result c.args.machine.now.processes new _ terms
    (not (can_write c.args.opened.now.desc.mode)) E_BMODE next
    (ap (λ (b : Bool). not b) (sym c.can_write.ensures ∙ c.if-not-can_write.true))
    (tries-refused m was now p c.refuse.result c.args.machine.now.processes c.args.machine.now.files new.io _ terms stands E_BMODE
    (record { end_is = c.refuse.ensures.end; tied = tied; io_is = c.refuse.ensures.io })))

pub returns-clause-call : goal.returns-clause-call
returns-clause-call g c terms m was tied stands kinds =
    let p = c.args.by.p.0 in
    let now = c.args.by.time in
    let asker = asker_of m p now in
    let it = known c.args.machine.now.files _ was p c.args.opened.now stands kinds STANDARD_ERROR c.requires.opened in
    let found = found_on c.args.opened.now it.volume it.file in
    let same : c.args.by.regs ≡ regs_at m p = called-regs c.args.by c.args.machine.now.processes m c.requires.calls tied in
    let next = write_file F_PERR (error_line (regs_at m p).b) (regs_at m p) asker was found in
    tries-in m was now p c.write_file.result _ _ terms Call.PErr
    (refuses (not (can_write c.args.opened.now.desc.mode)) E_BMODE next) (error-step asker was found it.found)
    (writing_attempt_calls 11 asker was found) _
    (ap (λ (o : Option OpenFile). option_map_or (writing_attempt_calls 11 asker was) o 0) it.found)
    (ends-refuses-false m was now p c.write_file.result c.write_file.new.machine.processes c.write_file.new.machine.files _ terms
    (not (can_write c.args.opened.now.desc.mode)) E_BMODE next
    (ap (λ (b : Bool). not b) (sym c.can_write.ensures ∙ c.if-not-can_write.false))
    (ends-write_file m was now p c.write_file.result c.write_file.new.machine.processes c.write_file.new.machine.files _ terms F_PERR _
    (error_line (regs_at m p).b) c.args.by.regs (regs_at m p) found (c.put_error_line.ensures.line ∙ ap
    (λ (r : Regs). error_line r.b) same) same
    (c.write_file.ensures.call m was it.volume it.file terms (c.put_error_line.ensures.same.represents m tied) stands it.is it.there)))
