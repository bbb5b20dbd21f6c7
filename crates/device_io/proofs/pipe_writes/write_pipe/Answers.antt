use Rattle.std.proofs.Common.{◌≡◌, ◌-◌, Bool, List, ℕ, drop, length, take, subst, sym, arith}
use Rattle.std.proofs.lemmas.List.{take_all, length-drop}
use Rattle.io_model.specs.declared.pipe.PipeAns.{PipeAns}
use Rattle.io_model.specs.Io.{Io}
use Rattle.io_model.specs.Pipes.{write_end, write_leaves, writes_pipe, writes_rest}
use Rattle.io_model.specs.Step.{leaves}
use Rattle.io_state.specs.Sound.{MayWait, ReadsNoTerminal}
use Rattle.device_io.specs.Leaving.{Settles}
use Rattle.device_io.proofs.pipe_writes.write_pipe.Goals as goal

pub settle-requires-clause-may : goal.settle-requires-clause-may
settle-requires-clause-may c = subst (λ (io : Io). MayWait io.paths c.args.p.0 c.args.call) (sym c.write_pipe-moved.ensures.io) c.requires.may

pub settle-requires-clause-no_read : goal.settle-requires-clause-no_read
settle-requires-clause-no_read c = subst (λ (io : Io). ReadsNoTerminal io c.args.p.0) (sym c.write_pipe-moved.ensures.io) c.requires.no_read

pub returns : goal.returns
returns c regs =
    let p = c.args.p.0 in
    let io = c.args.io.now in
    let bytes = c.args.bytes.now in
    let call = c.args.call in
    let alone = c.is_alone-alone.result in
    let moved = c.write_pipe-moved in
    let end = c.settle in
    let count = length-drop call.moved bytes in
    let left : List ℕ = take (length bytes - call.moved) (drop call.moved bytes) in
    let all : left ≡ drop call.moved bytes = take_all (length bytes - call.moved) (drop call.moved bytes) (omega (arith, count)) in
    let in_state = subst (λ (i : Io). Settles (leaves (write_end alone call regs moved.result) i) regs p end.result end.new.io) moved.ensures.io (end.ensures regs) in
    let in_answer = subst (λ (a : PipeAns). Settles (write_leaves io c.args.pipe call alone left regs a) regs p end.result end.new.io) moved.ensures.answer in_state in
    let in_rest = subst (λ (rest : List ℕ). Settles (writes_rest io c.args.pipe call alone rest regs) regs p end.result end.new.io) all in_answer in
    subst (λ (alone : Bool). Settles (writes_pipe io c.args.pipe call alone bytes regs) regs p end.result end.new.io) c.is_alone-alone.ensures in_rest
