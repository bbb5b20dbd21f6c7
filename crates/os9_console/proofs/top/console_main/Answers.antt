use Rattle.std.proofs.Common.{map, refl}
use Rattle.std.specs.String.{string_bytes}
use Rattle.os9_kernel.specs.Outside.{outside}
use Rattle.os9_words.specs.Notes.{notes_of}
use Rattle.os9_boot.proofs.BootCallLemmas.{err-only, reported}
use Rattle.console_run.proofs.PartLemmas.{keeps-none}
use Rattle.os9_console.proofs.TopLemmas.{top-memory, top-spelled, top-unspelled}
use Rattle.os9_console.proofs.top.console_main.Goals as goal

pub do_console-requires-clause-devices : goal.do_console-requires-clause-devices
do_console-requires-clause-devices g c = rw c.in-Ok.ensures.words at c.requires.devices

pub returns-in-Ok-clause-call : goal.returns-in-Ok-clause-call
returns-in-Ok-clause-call g c =
    top-spelled (map string_bytes c.args.words.now) _ _ _ _ _ _ c.in-Ok.words _ c.in-Ok.ensures.words c.do_console.ensures.call

pub returns-in-Err-Refused-clause-call : goal.returns-in-Err-Refused-clause-call
returns-in-Err-Refused-clause-call g c =
    let devices = outside (λ box. (g.dyn-1.0.entry box.vtable).1) (λ box. (g.dyn-2.0.entry box.vtable).1) c.args.devices.now in
    top-unspelled (map string_bytes c.args.words.now) _ _ _ _ (notes_of g.H.Host c.args.host.now)
    (notes_of g.H.Host c.report.new.host) (reported g.H.Host _ _ _ _ c.report.ensures)
    (rw c.in-Err-Refused.field-0-is at c.in-Err-Refused.ensures.refused) (err-only g.H.Host c.args.host.now
    c.report.new.host devices c.report.ensures.others) refl

pub returns-in-Err-OutOfMemory-clause-call : goal.returns-in-Err-OutOfMemory-clause-call
returns-in-Err-OutOfMemory-clause-call g c =
    let devices = outside (λ box. (g.dyn-1.0.entry box.vtable).1) (λ box. (g.dyn-2.0.entry box.vtable).1) c.args.devices.now in
    rw c.number.ensures
    (top-memory (map string_bytes c.args.words.now) _ _ _ _ (notes_of g.H.Host c.args.host.now)
    (notes_of g.H.Host c.report-in-Err-OutOfMemory.new.host) c.args.console.now.typed (keeps-none _ _ c.requires.untyped)
    (reported g.H.Host _ _ _ _ c.report-in-Err-OutOfMemory.ensures) (err-only g.H.Host c.args.host.now
    c.report-in-Err-OutOfMemory.new.host devices c.report-in-Err-OutOfMemory.ensures.others) refl)
