use Rattle.std.proofs.Common.{◌≡◌, ◌∙◌, ℕ, Bool, Option, Some, None, List, take, ap, refl, subst, sym, rules}
use Rattle.std.specs.Option.{option_map_or}
use Rattle.os9_base.specs.declared.errors.TheConstants.{E_BPADDR}
use Rattle.os9_base.specs.declared.registers.Regs.{Regs}
use Rattle.proc_model.specs.Processes.{cells_at, regs_at}
use Rattle.proc_model.specs.UserBytes.{user_bytes}
use Rattle.proc_state.specs.Tie.{bytes_read}
use Rattle.file_rules.specs.Attempts.{asker_of}
use Rattle.file_rules.specs.Files.{OpenFile, open_file}
use Rattle.file_rules.specs.Step.{needs}
use Rattle.file_rules.specs.Write.{sends_bytes}
use Rattle.file_rules.specs.declared.path_call.PathCall.TheVariants as Call
use Rattle.file_state.specs.declared.state.FileState.{FileState}
use Rattle.io_model.specs.declared.io_call.IoCall.TheVariants as Device
use Rattle.os9_base.specs.declared.calls.TheConstants.{I_WRITE}
use Rattle.io_state.proofs.RequesterLemmas.{called-regs}
use Rattle.file_io.proofs.AgainLemmas.{again-no_read, may-ask}
use Rattle.file_io.proofs.CallLemmas.{above, known-a, with-own-y, write-step}
use Rattle.file_io.proofs.OpenedLemmas.{is-named, may-be-written}
use Rattle.file_io.proofs.TryingLemmas.{ends-needs-none, ends-needs-some, tries-in, tries-refused}
use Rattle.file_io.specs.Calls.{writing_attempt_calls}
use Rattle.file_io.specs.Opened.{found_on}
use Rattle.file_io.specs.Writing.{write_opened}
use Rattle.file_io.proofs.writes.write.Goals as goal

pub send-requires-clause-file : goal.send-requires-clause-file
send-requires-clause-file g c = may-be-written c.args.machine.now.files _ c.requires.sound c.args.by.p.0 _ c.args.opened.now c.requires.opened

pub send-requires-clause-calls : goal.send-requires-clause-calls
send-requires-clause-calls g c = record {
  calls = record { lives = search rules; regs = search rules };
  no_read =
      again-no_read c.args.machine.now.files.io c.args.by.p.0 _ c.args.opened.now Device.Write _ c.requires.again.again refl
      (is-named c.args.machine.now.files _ c.requires.sound c.args.by.p.0 _ c.args.opened.now c.requires.opened);
}

pub send-requires-clause-may : goal.send-requires-clause-may
send-requires-clause-may g c = record {
  asks = may-ask c.args.machine.now.files _ c.args.by.p.0 _ c.args.opened.now c.requires.sound c.requires.opened c.requires.again.kept;
  sends = λ some. record {
    moves = refl;
    some = above some;
  };
  done = with-own-y _ _ refl;
}

pub returns-then-not-read_bytes-clause-call : goal.returns-then-not-read_bytes-clause-call
returns-then-not-read_bytes-clause-call g c terms m was tied stands kinds =
    let p = c.args.by.p.0 in
    let now = c.args.by.time in
    let asker = asker_of m p now in
    let it = known-a c.args.machine.now.files _ was p c.args.opened.now stands kinds c.args.machine.now.processes m c.args.by.regs c.requires.calls.regs tied c.requires.opened in
    let found = found_on c.args.opened.now it.volume it.file in
    let s = c.read_bytes.new.self in
    let new : FileState = record c.args.machine.now.files { io = c.refuse.new.io } in
    let same : c.args.by.regs ≡ regs_at m p = called-regs c.args.by c.args.machine.now.processes m c.requires.calls tied in
    let none : user_bytes (cells_at m p) c.args.by.regs.x c.args.by.regs.y ≡ None =
    c.read_bytes.ensures.read m tied ∙ ap (λ (b : Bool). bytes_read b c.args.by.regs.y s.buffer.items) c.if-not-read_bytes.true in
    let absent : user_bytes (cells_at m p) (regs_at m p).x (regs_at m p).y ≡ None = subst (λ (r : Regs). user_bytes (cells_at m p) r.x r.y ≡ None) same none in
    let step = needs (user_bytes (cells_at m p) (regs_at m p).x (regs_at m p).y) E_BPADDR (sends_bytes asker was found I_WRITE) in
    tries-in m was now p c.refuse.result _ _ terms Call.Write step (write-step asker was found it.found) _ _ refl
    (ends-needs-none m was now p c.refuse.result s new _ terms (user_bytes (cells_at m p) (regs_at m p).x (regs_at m p).y) E_BPADDR (sends_bytes asker was found I_WRITE) absent
    (tries-refused m was now p c.refuse.result s c.args.machine.now.files new.io _ terms stands E_BPADDR
    (record {
      end_is = c.refuse.ensures.end;
      tied = c.read_bytes.ensures.same.represents m tied;
      io_is =
          c.refuse.ensures.io;
    })))

pub returns-clause-call : goal.returns-clause-call
unfolding write_opened
returns-clause-call g c terms m was tied stands kinds =
    let p = c.args.by.p.0 in
    let now = c.args.by.time in
    let asker = asker_of m p now in
    let it = known-a c.args.machine.now.files _ was p c.args.opened.now stands kinds c.args.machine.now.processes m c.args.by.regs c.requires.calls.regs tied c.requires.opened in
    let found = found_on c.args.opened.now it.volume it.file in
    let s = c.read_bytes.new.self in
    let bytes : List ℕ = take c.args.by.regs.y s.buffer.items in
    let same : c.args.by.regs ≡ regs_at m p = called-regs c.args.by c.args.machine.now.processes m c.requires.calls tied in
    let some : user_bytes (cells_at m p) c.args.by.regs.x c.args.by.regs.y ≡ Some bytes =
    c.read_bytes.ensures.read m tied ∙ ap (λ (b : Bool). bytes_read b c.args.by.regs.y s.buffer.items) c.if-not-read_bytes.false in
    let present : user_bytes (cells_at m p) (regs_at m p).x (regs_at m p).y ≡ Some bytes = subst (λ (r : Regs). user_bytes (cells_at m p) r.x r.y ≡ Some bytes) same some in
    let step = needs (user_bytes (cells_at m p) (regs_at m p).x (regs_at m p).y) E_BPADDR (sends_bytes asker was found I_WRITE) in
    let few : option_map_or (writing_attempt_calls (regs_at m p).y asker was) (open_file was p (regs_at m p).a) 0 ≡ writing_attempt_calls c.args.by.regs.y asker was found =
    ap (λ (o : Option OpenFile). option_map_or (writing_attempt_calls (regs_at m p).y asker was) o 0) it.found ∙ ap (λ (r : Regs). writing_attempt_calls r.y asker was found) (sym same) in
    tries-in m was now p c.send.result _ _ terms Call.Write step (write-step asker was found it.found) (writing_attempt_calls c.args.by.regs.y asker was found) _ few
    (ends-needs-some m was now p c.send.result c.send.new.machine.processes c.send.new.machine.files _ terms
    (user_bytes (cells_at m p) (regs_at m p).x (regs_at m p).y) bytes E_BPADDR (sends_bytes asker was found
    I_WRITE) present
    (c.send.ensures.call m was it.volume it.file terms (c.read_bytes.ensures.same.represents m tied) stands it.is it.there))
