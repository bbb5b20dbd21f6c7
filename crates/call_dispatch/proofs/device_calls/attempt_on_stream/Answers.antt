use Rattle.std.proofs.Common.{[], replicate, vec_len}
use Rattle.std.proofs.lemmas.List.{length-replicate}
use Rattle.io_model.specs.Terminal.{driver_with}
use Rattle.io_model.specs.declared.io_call.IoCall.TheVariants as Call
use Rattle.call_dispatch.proofs.Quiet.{attempts-as, has-memory, wants-as}
use Rattle.call_dispatch.proofs.device_calls.attempt_on_stream.Goals as goal

pub returns-in-Dup-clause-memory : goal.returns-in-Dup-clause-memory
returns-in-Dup-clause-memory g c m tied is =
    absurd (has-memory Call.Dup m c.args.io.now 0 c.args.by.p.0 c.i_dup.result c.i_dup.new.s c.i_dup.new.io [] [] (c.i_dup.ensures.call m 0 [] tied) is)

pub returns-in-Create-clause-memory : goal.returns-in-Create-clause-memory
returns-in-Create-clause-memory g c m tied is =
    absurd (has-memory Call.Create m c.args.io.now (vec_len c.args.devices.now.drives) c.args.by.p.0 c.i_create.result
    c.i_create.new.s c.i_create.new.io _ _
    (c.i_create.ensures.call m (replicate (vec_len c.args.devices.now.terms) (driver_with [] [] 0)) tied
    (length-replicate (vec_len c.args.devices.now.terms) (driver_with [] [] 0))) is)

pub returns-in-Open-clause-memory : goal.returns-in-Open-clause-memory
returns-in-Open-clause-memory g c m tied is =
    absurd (has-memory Call.Open m c.args.io.now (vec_len c.args.devices.now.drives) c.args.by.p.0 c.i_open.result
    c.i_open.new.s c.i_open.new.io _ _ (c.i_open.ensures.call m (replicate (vec_len c.args.devices.now.terms)
    (driver_with [] [] 0)) tied (length-replicate (vec_len c.args.devices.now.terms) (driver_with [] [] 0))) is)

pub returns-in-Close-clause-memory : goal.returns-in-Close-clause-memory
returns-in-Close-clause-memory g c m tied is =
    absurd (has-memory Call.Close m c.args.io.now 0 c.args.by.p.0 c.i_close.result c.i_close.new.s c.i_close.new.io [] [] (c.i_close.ensures.call m 0 [] tied) is)

pub returns-in-Read-clause-call : goal.returns-in-Read-clause-call
returns-in-Read-clause-call g c m tied differ =
    attempts-as c.args.call Call.Read m c.args.io.now (vec_len c.args.devices.now.drives) c.args.by.p.0 _ _ c.in-Read.is c.i_read.result c.i_read.new.s c.i_read.new.io
    (c.i_read.ensures.call (vec_len c.args.devices.now.drives) m tied differ)

pub returns-in-Read-clause-memory : goal.returns-in-Read-clause-memory
returns-in-Read-clause-memory g c m tied is =
    wants-as c.args.call Call.Read m c.args.io.now (vec_len c.args.devices.now.drives) c.args.by.p.0 _ _ c.in-Read.is (c.i_read.ensures.memory (vec_len c.args.devices.now.drives) m tied is)

pub returns-in-ReadLn-clause-call : goal.returns-in-ReadLn-clause-call
returns-in-ReadLn-clause-call g c m tied differ =
    attempts-as c.args.call Call.ReadLn m c.args.io.now (vec_len c.args.devices.now.drives) c.args.by.p.0 _ _ c.in-ReadLn.is c.i_readln.result c.i_readln.new.s c.i_readln.new.io
    (c.i_readln.ensures.call (vec_len c.args.devices.now.drives) m tied differ)

pub returns-in-ReadLn-clause-memory : goal.returns-in-ReadLn-clause-memory
returns-in-ReadLn-clause-memory g c m tied is =
    wants-as c.args.call Call.ReadLn m c.args.io.now (vec_len c.args.devices.now.drives) c.args.by.p.0 _ _ c.in-ReadLn.is (c.i_readln.ensures.memory (vec_len c.args.devices.now.drives) m tied is)

pub returns-in-Write-clause-call : goal.returns-in-Write-clause-call
returns-in-Write-clause-call g c m tied differ =
    attempts-as c.args.call Call.Write m c.args.io.now (vec_len c.args.devices.now.drives) c.args.by.p.0 _ _ c.in-Write.is c.i_write.result c.i_write.new.s c.i_write.new.io
    (c.i_write.ensures.call (vec_len c.args.devices.now.drives) m tied differ)

pub returns-in-Write-clause-memory : goal.returns-in-Write-clause-memory
returns-in-Write-clause-memory g c m tied is =
    wants-as c.args.call Call.Write m c.args.io.now (vec_len c.args.devices.now.drives) c.args.by.p.0 _ _ c.in-Write.is (c.i_write.ensures.memory (vec_len c.args.devices.now.drives) m tied is)

pub returns-in-WritLn-clause-call : goal.returns-in-WritLn-clause-call
returns-in-WritLn-clause-call g c m tied differ =
    attempts-as c.args.call Call.WritLn m c.args.io.now (vec_len c.args.devices.now.drives) c.args.by.p.0 _ _ c.in-WritLn.is c.i_writln.result c.i_writln.new.s c.i_writln.new.io
    (c.i_writln.ensures.call (vec_len c.args.devices.now.drives) m tied differ)

pub returns-in-WritLn-clause-memory : goal.returns-in-WritLn-clause-memory
returns-in-WritLn-clause-memory g c m tied is =
    wants-as c.args.call Call.WritLn m c.args.io.now (vec_len c.args.devices.now.drives) c.args.by.p.0 _ _ c.in-WritLn.is (c.i_writln.ensures.memory (vec_len c.args.devices.now.drives) m tied is)

pub returns-in-GetStt-clause-memory : goal.returns-in-GetStt-clause-memory
returns-in-GetStt-clause-memory g c m tied is =
    absurd (has-memory Call.GetStt m c.args.io.now 0 c.args.by.p.0 c.i_getstt.result c.i_getstt.new.s c.i_getstt.new.io [] [] (c.i_getstt.ensures.call m 0 [] tied) is)

pub returns-in-SetStt-clause-memory : goal.returns-in-SetStt-clause-memory
returns-in-SetStt-clause-memory g c m tied is =
    absurd (has-memory Call.SetStt m c.args.io.now 0 c.args.by.p.0 c.i_setstt.result c.i_setstt.new.s c.i_setstt.new.io [] [] (c.i_setstt.ensures.call m 0 [] tied) is)

pub returns-in-PErr-clause-call : goal.returns-in-PErr-clause-call
returns-in-PErr-clause-call g c m tied differ =
    attempts-as c.args.call Call.PErr m c.args.io.now (vec_len c.args.devices.now.drives) c.args.by.p.0 _ _ c.in-PErr.is c.f_perr.result c.f_perr.new.s c.f_perr.new.io
    (c.f_perr.ensures.call (vec_len c.args.devices.now.drives) m tied differ)

pub returns-in-PErr-clause-memory : goal.returns-in-PErr-clause-memory
returns-in-PErr-clause-memory g c m tied is =
    wants-as c.args.call Call.PErr m c.args.io.now (vec_len c.args.devices.now.drives) c.args.by.p.0 _ _ c.in-PErr.is (c.f_perr.ensures.memory (vec_len c.args.devices.now.drives) m tied is)
