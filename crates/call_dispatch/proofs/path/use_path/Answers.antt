use Rattle.std.proofs.Common.{rules, ◌≡◌, ◌∙◌, true, false, ap, refl, sym}
use denote.Enum.Bare.{same_true}
use Rattle.os9_base.specs.declared.registers.Regs.{Regs}
use Rattle.io_model.specs.Again.{path_number}
use Rattle.proc_model.specs.Records.{record_at}
use Rattle.io_state.proofs.RequesterLemmas.{called-regs}
use Rattle.call_dispatch.specs.contracts.path_use.PathUse.{the_type}
use Rattle.call_dispatch.specs.declared.path_use.PathUse.TheVariants as Use
use Rattle.call_dispatch.proofs.Lifting.{tries-or}
use Rattle.call_dispatch.proofs.OnPaths.{none-named, not-false, on-device-as, something-kept, status-first}
use Rattle.call_dispatch.specs.Uses.{call_of, device_of}
use Rattle.call_dispatch.proofs.path.use_path.Goals as goal
use Rattle.call_dispatch.proofs.path.use_path.Goals.{then-is_none, else-is_none}

pub returns-in-Some-clause-call : goal.returns-in-Some-clause-call
returns-in-Some-clause-call g c time is m was tied stands kinds =
    rw c.use_file.ensures.kept.terms (tries-or (call_of c.args.call) m was time c.args.by.p.0 c.use_file.result _ _ _ _ (c.use_file.ensures.call time _ is m was tied stands kinds))

pub returns-after-is_none-clause-call : goal.returns-after-is_none-clause-call
returns-after-is_none-clause-call g c time is m was tied stands kinds =
    let p = c.args.by.p.0 in
    let none = none-named was p (device_of c.args.call) m c.args.by.regs c.path_number.result
    c.path_number.ensures (called-regs c.args.by c.args.machine.now.processes m c.requires.calls tied)
    (c.in-None.ensures.file _ was stands kinds) in
    c.attempt_on_device.ensures.call (call_of c.args.call) m was time tied stands (on-device-as m was time p _ _ c.args.call c.on_device.result c.on_device.ensures none)

pub prove-unreachable-requires : goal.prove-unreachable-requires
prove-unreachable-requires g c =
    elim c.if-is_none.branch [
      | then-is_none w ↦ let e : true ≡ false = sym w.if-is_none.true ∙ sym w.prove-is ∙ c.if-prove.true in cc
      | else-is_none w ↦
          let same : c.args.call ≡ Use.SetStt = same_true the_type (search rules) c.args.call Use.SetStt
          (not-false _ (sym w.ne.ensures ∙ sym w.prove-is ∙ c.if-prove.true)) in
          let regs : Regs = (record_at c.args.machine.now.processes.table c.args.by.p.0).regs in
          let number : c.path_number.result ≡ path_number (device_of c.args.call) regs =
          c.path_number.ensures ∙ ap (path_number (device_of c.args.call)) c.requires.calls.regs in
          something-kept c.pending.result c.is_none.result c.is_none.ensures w.if-is_none.false
          (c.pending.ensures.kept ∙ status-first c.args.call c.args.machine.now.files.io c.args.by.p.0 c.path_number.result
          regs same c.pending.ensures.sound c.requires.may.again number (c.in-None.ensures.none refl))
    ]
