use Rattle.std.proofs.Common.{ap, refl, sym}
use Rattle.file_rules.specs.declared.path_call.PathCall.TheVariants as Call
use Rattle.call_dispatch.proofs.OnCalls.{at-time-within, call-attempts, time-for}
use Rattle.call_dispatch.specs.Calls.{list_call}
use Rattle.call_dispatch.proofs.lists.attempt_on_list.Goals as goal

pub returns-in-Create-clause-call : goal.returns-in-Create-clause-call
returns-in-Create-clause-call g c time terms is long =
    call-attempts (list_call c.args.call) Call.Create time c.args.by.p.0 (sym (ap list_call c.in-Create.is))
    c.i_create.result terms terms c.args.machine.now.processes c.i_create.new.machine.processes c.args.machine.now.files c.i_create.new.machine.files _ _
    (at-time-within Call.Create c.args.by.time time c.args.by.p.0 refl (time-for (list_call c.args.call) Call.Create c.args.by.time
    time (sym (ap list_call c.in-Create.is)) is) c.i_create.result terms terms _ _ (c.i_create.ensures.call terms
    long))

pub returns-in-Open-clause-call : goal.returns-in-Open-clause-call
returns-in-Open-clause-call g c time terms is long =
    call-attempts (list_call c.args.call) Call.Open time c.args.by.p.0 (sym (ap list_call c.in-Open.is)) c.i_open.result
    terms terms c.args.machine.now.processes c.i_open.new.machine.processes c.args.machine.now.files c.i_open.new.machine.files _ _ (c.i_open.ensures.call time
    terms long)

pub returns-in-MakDir-clause-call : goal.returns-in-MakDir-clause-call
returns-in-MakDir-clause-call g c time terms is long =
    call-attempts (list_call c.args.call) Call.MakDir time c.args.by.p.0 (sym (ap list_call c.in-MakDir.is))
    c.i_makdir.result terms terms c.args.machine.now.processes c.i_makdir.new.machine.processes c.args.machine.now.files c.i_makdir.new.machine.files _ _
    (at-time-within Call.MakDir c.args.by.time time c.args.by.p.0 refl (time-for (list_call c.args.call) Call.MakDir c.args.by.time
    time (sym (ap list_call c.in-MakDir.is)) is) c.i_makdir.result terms terms _ _ (c.i_makdir.ensures.call terms
    long))

pub returns-in-ChgDir-clause-call : goal.returns-in-ChgDir-clause-call
returns-in-ChgDir-clause-call g c time terms is long =
    call-attempts (list_call c.args.call) Call.ChgDir time c.args.by.p.0 (sym (ap list_call c.in-ChgDir.is))
    c.i_chgdir.result terms terms c.args.machine.now.processes c.i_chgdir.new.machine.processes c.args.machine.now.files c.i_chgdir.new.machine.files _ _
    (c.i_chgdir.ensures.call time terms long)

pub returns-in-Delete-clause-call : goal.returns-in-Delete-clause-call
returns-in-Delete-clause-call g c time terms is long =
    call-attempts (list_call c.args.call) Call.Delete time c.args.by.p.0 (sym (ap list_call c.in-Delete.is))
    c.i_delete.result terms terms c.args.machine.now.processes c.i_delete.new.machine.processes c.args.machine.now.files c.i_delete.new.machine.files _ _
    (c.i_delete.ensures.call time terms long)

pub returns-in-DeletX-clause-call : goal.returns-in-DeletX-clause-call
returns-in-DeletX-clause-call g c time terms is long =
    call-attempts (list_call c.args.call) Call.DeletX time c.args.by.p.0 (sym (ap list_call c.in-DeletX.is))
    c.i_deletx.result terms terms c.args.machine.now.processes c.i_deletx.new.machine.processes c.args.machine.now.files c.i_deletx.new.machine.files _ _
    (c.i_deletx.ensures.call time terms long)
