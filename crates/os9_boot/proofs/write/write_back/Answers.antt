use Rattle.std.proofs.Common.{[]}
use Rattle.os9_kernel.specs.Outside.{Outside}
use Rattle.boot_run.specs.Machine.{history_left}
use Rattle.boot_run.specs.World.{world_of}
use Rattle.os9_boot.proofs.WriteLemmas.{history-unwritten, history-written, image-unwritten, images-written, memory-wanting}
use Rattle.os9_boot.proofs.NameLemmas.{back-memory, back-unwritten}
use Rattle.os9_boot.proofs.write.write_back.Goals as goal

-- ---- the images

pub returns-in-Err-Image-clause-ended : goal.returns-in-Err-Image-clause-ended
returns-in-Err-Image-clause-ended g c devices =
    rw c.in-Err-Image.number-is (image-unwritten c.args.boot.now.files c.args.images.now
    (history_left c.args.outcome.now.records) c.args.outcome.now.end _ c.requires c.in-Ended.is
    c.args.boot.now.history c.in-Err-Image.number _ (rw c.in-Err-Image.field-0-is at
    (c.in-Err-Image.ensures.wrote devices)))

pub returns-in-Err-OutOfMemory-clause-ended : goal.returns-in-Err-OutOfMemory-clause-ended
returns-in-Err-OutOfMemory-clause-ended g c devices =
    memory-wanting c.args.boot.now.files c.args.images.now (history_left c.args.outcome.now.records)
    c.args.outcome.now.end _ c.requires c.in-Ended.is c.args.boot.now.history _
    (rw c.in-Err-OutOfMemory.field-0-is at (c.in-Err-OutOfMemory.ensures.wrote devices))

pub returns-in-Err-OutOfMemory-clause-noted : goal.returns-in-Err-OutOfMemory-clause-noted
returns-in-Err-OutOfMemory-clause-noted g c =
    back-memory c.args.boot.now.files _ c.args.boot.now.history _ (rw c.in-Err-OutOfMemory.field-0-is at c.in-Err-OutOfMemory.ensures.noted)

pub returns-in-None-clause-ended : goal.returns-in-None-clause-ended
returns-in-None-clause-ended g c devices =
    images-written c.args.boot.now.files c.args.images.now (history_left c.args.outcome.now.records)
    c.args.outcome.now.end _ c.requires c.in-Ended.is c.in-Ok.field-0 c.args.boot.now.history _ _ c.in-None.is
    c.end_of_run-in-None.ensures (c.in-Ok.ensures.wrote devices)

-- ---- the history

pub returns-in-Ok-write_history-clause-ended : goal.returns-in-Ok-write_history-clause-ended
returns-in-Ok-write_history-clause-ended g c devices =
    history-written c.args.boot.now.files c.args.images.now (history_left c.args.outcome.now.records)
    c.args.outcome.now.end _ c.requires c.in-Ended.is c.in-Ok.field-0 c.args.boot.now.history c.in-Some.name
    c.in-Some.is _ _ (c.in-Ok.ensures.wrote devices) c.in-Ok-write_history.field-0 _
    c.end_of_run-in-Ok-write_history.ensures (rw c.history.ensures at (c.in-Ok-write_history.ensures.wrote
    devices))

pub returns-in-Err-clause-ended : goal.returns-in-Err-clause-ended
returns-in-Err-clause-ended g c devices =
    history-unwritten c.args.boot.now.files c.args.images.now (history_left c.args.outcome.now.records)
    c.args.outcome.now.end _ c.requires c.in-Ended.is c.in-Ok.field-0 c.args.boot.now.history c.in-Some.name
    c.in-Some.is _ _ (c.in-Ok.ensures.wrote devices) c.in-Err.end (rw c.history.ensures at
    (c.in-Err.ensures.wrote devices))

pub returns-in-Err-clause-noted : goal.returns-in-Err-clause-noted
returns-in-Err-clause-noted g c =
    let none : Outside = record { drives = []; terms = [] } in
    back-unwritten c.args.boot.now.files _ c.args.boot.now.history c.in-Some.name c.in-Some.is _ _ c.in-Ok.ensures.noted (world_of g.H.Host c.write_images.new.host none)
    (world_of g.H.Host c.write_history.new.host none) c.history.result.now c.in-Err.end (c.in-Err.ensures.wrote none)
    c.in-Err.ensures.noted
