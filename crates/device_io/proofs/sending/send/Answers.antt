use Rattle.std.proofs.Common.{◌∙◌, Some, length, ap, sym, refl}
use Rattle.std.proofs.lemmas.Bool.{eqb-false}
use Rattle.os9_base.specs.declared.errors.TheConstants.{E_BMODE, E_BPNUM, E_UNKSVC}
use Rattle.os9_base.specs.declared.registers.Regs.{Regs}
use Rattle.io_model.specs.declared.path.Target.{Target}
use Rattle.io_model.specs.declared.path.Target.TheVariants.{Pipe, Term}
use Rattle.io_model.specs.Alone.{is_alone}
use Rattle.io_model.specs.Io.{OpenPath}
use Rattle.io_model.specs.Pipes.{writes_pipe}
use Rattle.io_model.specs.Step.{Caller, comes, done, refused}
use Rattle.io_model.specs.declared.io_call.Direction.TheVariants as Way
use Rattle.device_io.proofs.PassingLemmas.{path-found, unfound, unwritable, writes-nothing, writes-on}
use Rattle.device_io.proofs.SendingLemmas.{on-pipe, on-terminal, sends-done, sends-refused, sends-same, sends-settled, write-call}
use Rattle.device_io.specs.Sending.{put_on, regs_done, sender, write_named}
use Rattle.device_io.proofs.sending.send.Goals as goal

-- ---- the calls behind the tests

pub put-requires-clause-there : goal.put-requires-clause-there
put-requires-clause-there g c =
    let io = c.args.io.now in
    let kind = c.args.to_write.now.kind in
    let bytes = c.args.to_write.now.bytes.now in
    let path : OpenPath = record { path = c.in-Some.path; desc = c.in-Some.desc } in
    let found = path-found kind c.args.by.regs io c.args.by.p.0 c.path_number.result c.path_number.ensures (Some path) c.in-Some.ensures.path in
    let known = write-call kind c.args.by.regs io c.args.by.p.0 path c.write_code-code.result c.call_now-call.result (length bytes)
    c.call_now-call.ensures.sound c.requires.may.again c.requires.may.same found c.write_code-code.ensures
    c.call_now-call.ensures.call (eqb-false (length bytes) 0 (sym c.is_empty.ensures ∙ c.if-is_empty.false)) in
    c.requires.terminals c.call_now-call.result.path.0 c.in-Term.n (known.may.on ∙ ap (λ (t : Target). Some t) c.in-Term.is)

pub write_pipe-requires-clause-may : goal.write_pipe-requires-clause-may
write_pipe-requires-clause-may g c =
    let io = c.args.io.now in
    let kind = c.args.to_write.now.kind in
    let bytes = c.args.to_write.now.bytes.now in
    let path : OpenPath = record { path = c.in-Some.path; desc = c.in-Some.desc } in
    let found = path-found kind c.args.by.regs io c.args.by.p.0 c.path_number.result c.path_number.ensures (Some path) c.in-Some.ensures.path in
    let known = write-call kind c.args.by.regs io c.args.by.p.0 path c.write_code-code.result c.call_now-call.result (length bytes)
    c.call_now-call.ensures.sound c.requires.may.again c.requires.may.same found c.write_code-code.ensures
    c.call_now-call.ensures.call (eqb-false (length bytes) 0 (sym c.is_empty.ensures ∙ c.if-is_empty.false)) in
    known.may.may c.in-Pipe.pipe c.in-Pipe.is

-- ---- the returns

pub returns-in_default-clause-call : goal.returns-in_default-clause-call
returns-in_default-clause-call g c line cells =
    let io = c.args.io.now in
    let kind = c.args.to_write.now.kind in
    let bytes = c.args.to_write.now.bytes.now in
    let end = c.refuse in
    let caller : Caller = sender c.args.by.p c.args.by.regs cells in
    let told : Regs = regs_done kind c.args.by.regs (length bytes) in
    sends-same caller io told end.new.io _ _ (refused E_BPNUM) (write_named kind caller io bytes) end.result
    (unfound kind caller io bytes c.path_number.result c.path_number.ensures c.in_default.ensures.path)
    (sends-refused caller io told end.new.io _ E_BPNUM end.result end.ensures.end end.ensures.io)

pub returns-then-not-can_write-clause-call : goal.returns-then-not-can_write-clause-call
returns-then-not-can_write-clause-call g c line cells =
    let io = c.args.io.now in
    let kind = c.args.to_write.now.kind in
    let bytes = c.args.to_write.now.bytes.now in
    let end = c.refuse-then-not-can_write in
    let caller : Caller = sender c.args.by.p c.args.by.regs cells in
    let told : Regs = regs_done kind c.args.by.regs (length bytes) in
    let path : OpenPath = record { path = c.in-Some.path; desc = c.in-Some.desc } in
    sends-same caller io told end.new.io _ _ (refused E_BMODE) (write_named kind caller io bytes) end.result
    (unwritable kind caller io bytes c.path_number.result c.path_number.ensures path c.in-Some.ensures.path (sym c.can_write.ensures ∙ c.if-not-can_write.true))
    (sends-refused caller io told end.new.io _ E_BMODE end.result end.ensures.end end.ensures.io)

pub returns-then-is_empty-clause-call : goal.returns-then-is_empty-clause-call
returns-then-is_empty-clause-call g c line cells =
    let io = c.args.io.now in
    let kind = c.args.to_write.now.kind in
    let bytes = c.args.to_write.now.bytes.now in
    let end = c.finish in
    let caller : Caller = sender c.args.by.p c.args.by.regs cells in
    let told : Regs = regs_done kind c.args.by.regs (length bytes) in
    let path : OpenPath = record { path = c.in-Some.path; desc = c.in-Some.desc } in
    sends-same caller io told end.new.io _ _ (done told io) (write_named kind caller io bytes) end.result
    (writes-nothing kind caller io bytes c.path_number.result c.path_number.ensures path c.in-Some.ensures.path
    (sym c.can_write.ensures ∙ c.if-not-can_write.false) (sym c.is_empty.ensures ∙ c.if-is_empty.true))
    (sends-done caller io told end.new.io _ end.result end.ensures.end end.ensures.io)

-- ---- on the target of its path

pub returns-in-File-clause-call : goal.returns-in-File-clause-call
returns-in-File-clause-call g c line cells =
    let io = c.args.io.now in
    let kind = c.args.to_write.now.kind in
    let bytes = c.args.to_write.now.bytes.now in
    let end = c.refuse-in-File in
    let caller : Caller = sender c.args.by.p c.args.by.regs cells in
    let told : Regs = regs_done kind c.args.by.regs (length bytes) in
    let path : OpenPath = record { path = c.in-Some.path; desc = c.in-Some.desc } in
    sends-same caller io told end.new.io _ _ (refused E_UNKSVC) (write_named kind caller io bytes) end.result
    (writes-on kind caller io bytes c.path_number.result c.path_number.ensures path c.in-Some.ensures.path
    (sym c.can_write.ensures ∙ c.if-not-can_write.false) (sym c.is_empty.ensures ∙ c.if-is_empty.false)
    c.write_code-code.result c.write_code-code.ensures c.call_now-call.result c.call_now-call.ensures.call (_) c.in-File.is)
    (sends-refused caller io told end.new.io _ E_UNKSVC end.result end.ensures.end end.ensures.io)

pub returns-in-Folder-clause-call : goal.returns-in-Folder-clause-call
returns-in-Folder-clause-call g c line cells =
    let io = c.args.io.now in
    let kind = c.args.to_write.now.kind in
    let bytes = c.args.to_write.now.bytes.now in
    let end = c.refuse-in-Folder in
    let caller : Caller = sender c.args.by.p c.args.by.regs cells in
    let told : Regs = regs_done kind c.args.by.regs (length bytes) in
    let path : OpenPath = record { path = c.in-Some.path; desc = c.in-Some.desc } in
    sends-same caller io told end.new.io _ _ (refused E_UNKSVC) (write_named kind caller io bytes) end.result
    (writes-on kind caller io bytes c.path_number.result c.path_number.ensures path c.in-Some.ensures.path
    (sym c.can_write.ensures ∙ c.if-not-can_write.false) (sym c.is_empty.ensures ∙ c.if-is_empty.false)
    c.write_code-code.result c.write_code-code.ensures c.call_now-call.result c.call_now-call.ensures.call (_) c.in-Folder.is)
    (sends-refused caller io told end.new.io _ E_UNKSVC end.result end.ensures.end end.ensures.io)

pub returns-in-Term-clause-call : goal.returns-in-Term-clause-call
returns-in-Term-clause-call g c line cells =
    let io = c.args.io.now in
    let kind = c.args.to_write.now.kind in
    let bytes = c.args.to_write.now.bytes.now in
    let end = c.put in
    let caller : Caller = sender c.args.by.p c.args.by.regs cells in
    let told : Regs = regs_done kind c.args.by.regs (length bytes) in
    let path : OpenPath = record { path = c.in-Some.path; desc = c.in-Some.desc } in
    let found = path-found kind c.args.by.regs io c.args.by.p.0 c.path_number.result c.path_number.ensures (Some path) c.in-Some.ensures.path in
    let known = write-call kind c.args.by.regs io c.args.by.p.0 path c.write_code-code.result c.call_now-call.result (length bytes)
    c.call_now-call.ensures.sound c.requires.may.again c.requires.may.same found c.write_code-code.ensures
    c.call_now-call.ensures.call (eqb-false (length bytes) 0 (sym c.is_empty.ensures ∙ c.if-is_empty.false)) in
    sends-same caller io told end.new.io _ _ (put_on kind c.in-Term.n bytes told) (write_named kind caller io bytes) end.result
    (on-terminal kind caller io bytes c.call_now-call.result c.in-Term.n ∙ writes-on kind caller io bytes c.path_number.result c.path_number.ensures path c.in-Some.ensures.path
    (sym c.can_write.ensures ∙ c.if-not-can_write.false) (sym c.is_empty.ensures ∙ c.if-is_empty.false)
    c.write_code-code.result c.write_code-code.ensures c.call_now-call.result c.call_now-call.ensures.call (Term c.in-Term.n) c.in-Term.is)
    (end.ensures.call c.args.by.regs told cells (line (known.first c.in-Term.n c.in-Term.is)))

pub returns-in-Pipe-clause-call : goal.returns-in-Pipe-clause-call
returns-in-Pipe-clause-call g c line cells =
    let io = c.args.io.now in
    let kind = c.args.to_write.now.kind in
    let bytes = c.args.to_write.now.bytes.now in
    let end = c.write_pipe in
    let caller : Caller = sender c.args.by.p c.args.by.regs cells in
    let told : Regs = regs_done kind c.args.by.regs (length bytes) in
    let path : OpenPath = record { path = c.in-Some.path; desc = c.in-Some.desc } in
    let effect = writes_pipe io c.in-Pipe.pipe c.call_now-call.result (is_alone io c.args.by.p.0 c.call_now-call.result.path.0 Way.Writing) bytes told in
    sends-same caller io told end.new.io _ _ (comes effect) (write_named kind caller io bytes) end.result
    (on-pipe kind caller io bytes c.call_now-call.result c.in-Pipe.pipe ∙ writes-on kind caller io bytes c.path_number.result c.path_number.ensures path c.in-Some.ensures.path
    (sym c.can_write.ensures ∙ c.if-not-can_write.false) (sym c.is_empty.ensures ∙ c.if-is_empty.false)
    c.write_code-code.result c.write_code-code.ensures c.call_now-call.result c.call_now-call.ensures.call (Pipe c.in-Pipe.pipe) c.in-Pipe.is)
    (sends-settled caller io told end.new.io _ effect end.result refl (end.ensures told))
