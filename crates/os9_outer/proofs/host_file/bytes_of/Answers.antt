-- The bytes stand in the file at the first place of the name.
use Rattle.std.proofs.Common.{sym, ap, ◌∙◌, Some}
use Rattle.os9_outer.proofs.Files.{file_named-at_position, file_named-absent}
use Rattle.os9_outer.proofs.host_file.bytes_of.Goals as goal

pub returns-in-Some : goal.returns-in-Some
returns-in-Some c =
    let file = c.index-files-place.result in
    let held = file_named-at_position c.args.files.now c.args.name.now c.in-Some.place file (sym c.in-Some.ensures) c.index-files-place.is in
    ap Some (c.deref.ensures.value ∙ ap (λ f. f.bytes.items) (sym c.index-files-place.is)) ∙ sym held

pub returns-in-None : goal.returns-in-None
returns-in-None c = sym (file_named-absent c.args.files.now c.args.name.now (sym c.in-None.ensures))
