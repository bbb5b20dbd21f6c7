use Rattle.os9_kernel.specs.Outside.{outside}
use Rattle.os9_words.specs.Notes.{notes_of}
use Rattle.boot_run.specs.World.{world_of}
use Rattle.os9_boot.proofs.VolCallLemmas.{finished}
use Rattle.os9_boot.proofs.VolNoteLemmas.{notes-finished}
use Rattle.os9_boot.proofs.vol.do_vol.Goals as goal

pub returns-in-Ok-clause-call : goal.returns-in-Ok-clause-call
returns-in-Ok-clause-call g c =
    let before = outside (λ box. (g.dyn-1.0.entry box.vtable).1) (λ box. (g.dyn-2.0.entry box.vtable).1) c.args.devices.now in
    let left = outside (λ box. (g.dyn-1.0.entry box.vtable).1) (λ box. (g.dyn-2.0.entry box.vtable).1) c.make.new.devices in
    finished c.args.vol.now c.in-Ok.made (world_of g.H.Host c.args.host.now before) (world_of g.H.Host c.make.new.host
    left) (world_of g.H.Host c.finish.new.host left) c.in-Ok.ensures.made c.finish.result
    (c.finish.ensures.done left)

pub returns-in-Ok-clause-noted : goal.returns-in-Ok-clause-noted
returns-in-Ok-clause-noted g c =
    let left = outside (λ box. (g.dyn-1.0.entry box.vtable).1) (λ box. (g.dyn-2.0.entry box.vtable).1) c.make.new.devices in
    notes-finished c.args.vol.now (notes_of g.H.Host c.args.host.now) (notes_of g.H.Host c.make.new.host)
    c.in-Ok.ensures.noted c.finish.result _ _ _ _ (notes_of g.H.Host c.finish.new.host)
    (c.finish.ensures.done left) c.finish.ensures.noted
