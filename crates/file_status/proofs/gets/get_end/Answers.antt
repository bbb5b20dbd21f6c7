use Rattle.std.proofs.Common.{◌≡◌, true, false, nat_le, arith, ◌∙◌, ap}
use Rattle.std.proofs.lemmas.Bool.Decides.{nat_tests}
use Rattle.os9_base.specs.declared.call.CallEnd.{CallEnd}
use Rattle.io_state.proofs.RequesterLemmas.{called-regs}
use Rattle.file_status.proofs.GetLemmas.{end-failed, end-not-reached, end-reached}
use Rattle.file_status.proofs.StandLemmas.{uncalled-by, with_disks}
use Rattle.file_status.proofs.gets.get_end.Goals as goal

pub returns-then-fd-opened-clause-call : goal.returns-then-fd-opened-clause-call
returns-then-fd-opened-clause-call g c now m was it terms tied stands open_is =
    let past : nat_le c.in-Ok.fd.size c.args.opened.now.desc.at ≡ true = grind (arith, nat_tests) in
    end-reached m was now c.args.by.p.0 c.refuse.result c.args.machine.now.processes c.args.machine.now.files _ _ _ terms c.fd.new.self c.args.opened.now it
    stands open_is (uncalled-by (with_disks c.args.machine.now.files c.fd.new.self) c.args.by.p.0 c.refuse.ensures.io)
    c.in-Ok.fd c.in-Ok.ensures.ok past c.in-Ok.ensures.drive c.refuse.ensures.end tied

pub returns-else-fd-opened-clause-call : goal.returns-else-fd-opened-clause-call
returns-else-fd-opened-clause-call g c now m was it terms tied stands open_is =
    let past : nat_le c.in-Ok.fd.size c.args.opened.now.desc.at ≡ false = grind (arith, nat_tests) in
    end-not-reached m was now c.args.by.p.0 c.answer.result c.answer.new.s c.args.machine.now.files _ _ _ terms c.fd.new.self
    c.args.opened.now it stands open_is (uncalled-by (with_disks c.args.machine.now.files c.fd.new.self) c.args.by.p.0 c.answer.ensures.io)
    c.args.by.regs c.in-Ok.fd (called-regs c.args.by c.args.machine.now.processes m c.requires.calls.calls tied) c.in-Ok.ensures.ok past c.in-Ok.ensures.drive
    c.answer.ensures.end (c.answer.ensures.tied m tied)

pub returns-in-Err-clause-call : goal.returns-in-Err-clause-call
returns-in-Err-clause-call g c now m was it terms tied stands open_is =
    end-failed m was now c.args.by.p.0 c.refuse-in-Err.result c.args.machine.now.processes c.args.machine.now.files _ _ _
    terms c.fd.new.self c.args.opened.now it stands open_is (uncalled-by (with_disks c.args.machine.now.files c.fd.new.self) c.args.by.p.0 c.refuse-in-Err.ensures.io)
    c.in-Err.fault c.in-Err.ensures.drive c.in-Err.ensures.device (c.refuse-in-Err.ensures.end ∙ ap (λ n. CallEnd.Error n) c.number.ensures) tied
