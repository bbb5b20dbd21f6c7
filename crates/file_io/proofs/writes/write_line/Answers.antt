use Rattle.std.proofs.Common.{◌≡◌, ◌∙◌, ℕ, Option, Some, None, List, length, take, ap, refl, subst, arith, rules}
use Rattle.std.specs.Option.{option_map_or}
use Rattle.std.proofs.lemmas.List.{length-take-le}
use Rattle.os9_base.specs.declared.calls.TheConstants.{I_WRITLN}
use Rattle.os9_base.specs.declared.errors.TheConstants.{E_BPADDR}
use Rattle.os9_base.specs.declared.registers.Regs.{Regs}
use Rattle.proc_model.specs.Processes.{cells_at, regs_at}
use Rattle.io_model.specs.declared.io_call.IoCall.TheVariants as Device
use Rattle.lock_model.specs.Locks.{request_of}
use Rattle.lock_model.specs.Records.{Records}
use Rattle.io_state.proofs.RequesterLemmas.{called-regs}
use Rattle.file_rules.specs.Attempts.{asker_of}
use Rattle.file_rules.specs.Files.{OpenFile, open_file}
use Rattle.file_rules.specs.Locking.{pending_request}
use Rattle.file_rules.specs.Step.{needs}
use Rattle.file_rules.specs.Write.{line_moved, sends_bytes}
use Rattle.file_rules.specs.declared.path_call.PathCall.TheVariants as Call
use Rattle.file_state.specs.declared.state.FileState.{FileState}
use Rattle.file_io.proofs.AgainLemmas.{again-no_read, may-ask}
use Rattle.file_io.proofs.CallLemmas.{known-a, line-moved, write_line-step}
use Rattle.file_io.proofs.OpenedLemmas.{is-named, may-be-written}
use Rattle.file_io.proofs.TryingLemmas.{ends-needs-none, ends-needs-some, tries-in, tries-refused}
use Rattle.file_io.specs.Calls.{line_count, writing_attempt_calls}
use Rattle.file_io.specs.Opened.{found_on}
use Rattle.file_io.specs.Writing.{line_of, write_opened}
use Rattle.file_io.proofs.writes.write_line.Goals as goal

pub line_count-requires-clause-kept : goal.line_count-requires-clause-kept
line_count-requires-clause-kept g c = c.requires.again.kept

pub send-requires-clause-file : goal.send-requires-clause-file
send-requires-clause-file g c = may-be-written c.args.machine.now.files _ c.requires.sound c.args.by.p.0 _ c.args.opened.now c.requires.opened

pub send-requires-clause-calls : goal.send-requires-clause-calls
send-requires-clause-calls g c = record {
  calls = record { lives = search rules; regs = search rules };
  no_read =
      again-no_read c.args.machine.now.files.io c.args.by.p.0 _ c.args.opened.now Device.WritLn _ c.requires.again.again refl
      (is-named c.args.machine.now.files _ c.requires.sound c.args.by.p.0 _ c.args.opened.now c.requires.opened);
}

pub refuse-requires-clause-no_read : goal.refuse-requires-clause-no_read
refuse-requires-clause-no_read g c =
    again-no_read c.args.machine.now.files.io c.args.by.p.0 _ c.args.opened.now Device.WritLn _ c.requires.again.again refl
    (is-named c.args.machine.now.files _ c.requires.sound c.args.by.p.0 _ c.args.opened.now c.requires.opened)

pub send-requires-clause-may : goal.send-requires-clause-may
send-requires-clause-may g c =
    record {
      asks = may-ask c.args.machine.now.files _ c.args.by.p.0 _ c.args.opened.now c.requires.sound c.requires.opened c.requires.again.kept;
      sends = λ some. record {
        moves = refl;
        some = c.in-Some.ensures.some some;
      };
      done = refl;
    }

pub returns-in-None-clause-call : goal.returns-in-None-clause-call
returns-in-None-clause-call g c terms m was tied stands kinds =
    let p = c.args.by.p.0 in
    let now = c.args.by.time in
    let asker = asker_of m p now in
    let it = known-a c.args.machine.now.files _ was p c.args.opened.now stands kinds c.args.machine.now.processes m c.args.by.regs c.requires.calls.regs tied c.requires.opened in
    let found = found_on c.args.opened.now it.volume it.file in
    let s = c.line_count.new.s in
    let request = request_of c.args.machine.now.files.records.locks p in
    let new : FileState = record c.args.machine.now.files { io = c.refuse.new.io } in
    let same : c.args.by.regs ≡ regs_at m p = called-regs c.args.by c.args.machine.now.processes m c.requires.calls tied in
    let line = line_moved asker (pending_request asker was) in
    let absent : line ≡ None =
    line-moved asker was found request (ap (λ (records : Records). request_of records.locks p) stands.records)
    ∙ subst (λ (r : Regs). line_of request (cells_at m p) r ≡ None) same (c.in-None.ensures.line m tied) in
    tries-in m was now p c.refuse.result _ _ terms Call.WritLn (needs line E_BPADDR (sends_bytes asker was found I_WRITLN)) (write_line-step asker was found it.found) _ _ refl
    (ends-needs-none m was now p c.refuse.result s new _ terms line E_BPADDR (sends_bytes asker was found I_WRITLN) absent
    (tries-refused m was now p c.refuse.result s c.args.machine.now.files new.io _ terms stands E_BPADDR
    (record {
      end_is = c.refuse.ensures.end;
      tied = c.line_count.ensures.same.represents m tied;
      io_is =
          c.refuse.ensures.io;
    })))

pub returns-in-Some-clause-call : goal.returns-in-Some-clause-call
unfolding write_opened
returns-in-Some-clause-call g c terms m was tied stands kinds =
    let p = c.args.by.p.0 in
    let now = c.args.by.time in
    let asker = asker_of m p now in
    let it = known-a c.args.machine.now.files _ was p c.args.opened.now stands kinds c.args.machine.now.processes m c.args.by.regs c.requires.calls.regs tied c.requires.opened in
    let found = found_on c.args.opened.now it.volume it.file in
    let s = c.line_count.new.s in
    let count = c.in-Some.count in
    let bytes : List ℕ = take count s.buffer.items in
    let request = request_of c.args.machine.now.files.records.locks p in
    let same : c.args.by.regs ≡ regs_at m p = called-regs c.args.by c.args.machine.now.processes m c.requires.calls tied in
    let line = line_moved asker (pending_request asker was) in
    let present : line ≡ Some bytes =
    line-moved asker was found request (ap (λ (records : Records). request_of records.locks p) stands.records)
    ∙ subst (λ (r : Regs). line_of request (cells_at m p) r ≡ Some bytes) same (c.in-Some.ensures.line m tied) in
    let long : length bytes ≡ count = length-take-le count s.buffer.items (omega arith) in
    let few : option_map_or (writing_attempt_calls (line_count asker was) asker was) (open_file was p (regs_at m p).a) 0 ≡ writing_attempt_calls count asker was found =
    ap (λ (o : Option OpenFile). option_map_or (writing_attempt_calls (line_count asker was) asker was) o 0) it.found
    ∙ ap (λ (o : Option (List ℕ)). writing_attempt_calls (option_map_or (λ (l : List ℕ). length l) o 0) asker was found) present ∙ ap (λ n. writing_attempt_calls n asker was found) long in
    tries-in m was now p c.send.result _ _ terms Call.WritLn
    (needs line E_BPADDR (sends_bytes asker was found I_WRITLN)) (write_line-step asker was found it.found)
    (writing_attempt_calls count asker was found) _ few
    (ends-needs-some m was now p c.send.result c.send.new.machine.processes c.send.new.machine.files _ terms line bytes E_BPADDR (sends_bytes asker was found I_WRITLN) present
    (c.send.ensures.call m was it.volume it.file terms (c.line_count.ensures.same.represents m tied) stands it.is it.there))
