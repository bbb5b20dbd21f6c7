use Rattle.std.proofs.Common.{refl, ap}
use Rattle.device_table.specs.Seen.{terminal_states}
use Rattle.os9_kernel.specs.Outside.{outside}
use Rattle.os9_words.specs.Notes.{notes_of}
use Rattle.boot_run.specs.World.{world_of}
use Rattle.os9_boot.proofs.VolCallLemmas.{formatted, made-in, made-of, read-ended}
use Rattle.os9_boot.proofs.VolNoteLemmas.{notes-formatted, notes-made, notes-stopped}
use Rattle.os9_boot.proofs.VerbLemmas.{formatted-still}
use Rattle.os9_boot.proofs.vol.make.Goals as goal

pub returns-in-Format-clause-made : goal.returns-in-Format-clause-made
returns-in-Format-clause-made g c =
    formatted c.args.vol.now _ c.in-Format.is c.format_disk.result c.format_disk.ensures

pub returns-in-Format-clause-noted : goal.returns-in-Format-clause-noted
returns-in-Format-clause-noted g c =
    notes-formatted c.args.vol.now c.format_disk.result (notes_of g.H.Host c.args.host.now) c.in-Format.is c.format_disk.ensures

pub returns-in-Format-clause-drives : goal.returns-in-Format-clause-drives
returns-in-Format-clause-drives g c =
    (formatted-still c.args.vol.now c.format_disk.result _ c.requires.room c.format_disk.ensures).empty

pub returns-in-Ok-clause-made : goal.returns-in-Ok-clause-made
returns-in-Ok-clause-made g c =
    let was = outside (λ box. (g.dyn-1.0.entry box.vtable).1) (λ box. (g.dyn-2.0.entry box.vtable).1) c.args.devices.now in
    let left = outside (λ box. (g.dyn-1.0.entry box.vtable).1) (λ box. (g.dyn-2.0.entry box.vtable).1) c.make_of.new.devices in
    let before = world_of g.H.Host c.args.host.now was in
    let terms = ap (λ terms. terminal_states (λ box. (g.dyn-2.0.entry box.vtable).1) terms.items) c.make_of.ensures.terms_kept in
    made-in c.args.vol.now c.make_of.result before (record before { devices = left }) _ (c.in-Ok.ensures.kept left)
    (made-of c.args.vol.now c.in-Ok.files before left c.in-Ok.ensures.contents terms c.make_of.result
    c.make_of.ensures.made c.make_of.ensures.drives)

pub returns-in-Ok-clause-noted : goal.returns-in-Ok-clause-noted
returns-in-Ok-clause-noted g c =
    notes-made c.args.vol.now _ _ c.in-Ok.ensures.noted _ _ c.make_of.result c.make_of.ensures.made

pub returns-in-Ok-clause-drives : goal.returns-in-Ok-clause-drives
returns-in-Ok-clause-drives g c = c.make_of.ensures.drives.empty

pub returns-in-Err-clause-made : goal.returns-in-Err-clause-made
returns-in-Err-clause-made g c =
    let was = outside (λ box. (g.dyn-1.0.entry box.vtable).1) (λ box. (g.dyn-2.0.entry box.vtable).1) c.args.devices.now in
    read-ended c.args.vol.now _ _ c.in-Err.end c.in-Err.ensures.may (c.in-Err.ensures.ended was)

pub returns-in-Err-clause-noted : goal.returns-in-Err-clause-noted
returns-in-Err-clause-noted g c = notes-stopped c.args.vol.now c.in-Err.end _ _ c.in-Err.ensures.noted

pub returns-in-Err-clause-drives : goal.returns-in-Err-clause-drives
returns-in-Err-clause-drives g c = record { as_many = refl; empty = c.requires.room.empty }
