use Rattle.std.proofs.Common.{◌∙◌, sym}
use Rattle.guest_memory.specs.Tie.{cells_of}
use Rattle.proc_calls.proofs.Comparing.{first_unread, second_unread, pair_differs, pair_ends, pair_goes_on}
use Rattle.proc_calls.proofs.names.same_names.Goals as goal

pub returns-in_err-a : goal.returns-in_err-a
returns-in_err-a c =
    c.from_residual.ensures ∙ sym (c.loop-place.invariant ∙ first_unread (cells_of c.args.memory.now c.args.p.0)
    c.args.one c.args.other c.args.length c.loop-place.place c.loop-place-test.true c.in_err-a.ensures.byte)

pub returns-in_err-b : goal.returns-in_err-b
returns-in_err-b c =
    c.from_residual-in_err-b.ensures ∙ sym (c.loop-place.invariant ∙ second_unread (cells_of c.args.memory.now
    c.args.p.0) c.args.one c.args.other c.args.length c.loop-place.place c.loop-place-test.true c.in_ok-a.a
    c.in_ok-a.ensures.byte c.in_err-b.ensures.byte)

pub returns-then-not-agrees : goal.returns-then-not-agrees
returns-then-not-agrees c =
    sym (c.loop-place.invariant ∙ pair_differs (cells_of c.args.memory.now c.args.p.0) c.args.one c.args.other
    c.args.length c.loop-place.place c.loop-place-test.true c.in_ok-a.a c.in_ok-a.ensures.byte c.in_ok-b.b
    c.in_ok-b.ensures.byte (sym c.agrees.ensures ∙ c.if-not-agrees.true))

pub returns-then-b-ge128 : goal.returns-then-b-ge128
returns-then-b-ge128 c =
    sym (c.loop-place.invariant ∙ pair_ends (cells_of c.args.memory.now c.args.p.0) c.args.one c.args.other
    c.args.length c.loop-place.place c.loop-place-test.true c.in_ok-a.a c.in_ok-a.ensures.byte c.in_ok-b.b
    c.in_ok-b.ensures.byte (sym c.agrees.ensures ∙ c.if-not-agrees.false) c.if-b-ge128.true)

pub loop-place-preserved : goal.loop-place-preserved
loop-place-preserved c =
    c.loop-place.invariant ∙ pair_goes_on (cells_of c.args.memory.now c.args.p.0) c.args.one c.args.other
    c.args.length c.loop-place.place c.loop-place-test.true c.in_ok-a.a c.in_ok-a.ensures.byte c.in_ok-b.b
    c.in_ok-b.ensures.byte (sym c.agrees.ensures ∙ c.if-not-agrees.false) c.if-b-ge128.false
