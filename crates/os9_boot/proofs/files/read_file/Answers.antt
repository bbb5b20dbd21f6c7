use Rattle.std.proofs.Common.{refl, sym, subst}
use Rattle.std.specs.Prelude.{slice_get}
use Rattle.os9_words.specs.Notes.{HasReadFiles, notes_of}
use Rattle.boot_run.specs.World.{world_of}
use Rattle.boot_run.specs.declared.status.Input.TheVariants.{File}
use Rattle.boot_run.proofs.FileLemmas.{stopped-as}
use Rattle.boot_run.proofs.ReadLemmas.{read-none}
use Rattle.os9_boot.specs.Vol.{vol_file_name}
use Rattle.os9_boot.proofs.ReadLemmas.{file-may, has-file, no-names, other-contents, put-contents, put-names, reads-of}
use Rattle.os9_boot.proofs.files.read_file.Goals as goal

pub word-requires : goal.word-requires
word-requires g c = has-file c.args.vol.now c.requires c.in-Put.is

pub returns-in-Put-clause-contents : goal.returns-in-Put-clause-contents
returns-in-Put-clause-contents g c =
    put-contents c.args.vol.now c.word.result.now c.word.ensures _ c.read_input.result c.read_input.ensures.contents

pub returns-in-Put-clause-ended : goal.returns-in-Put-clause-ended
returns-in-Put-clause-ended g c =
    stopped-as c.read_input.result File c.word.result.now (slice_get c.args.vol.now.rest 1)
    (λ devices. world_of g.H.Host c.args.host.now devices) (λ devices. world_of g.H.Host c.read_input.new.host
    devices) (vol_file_name c.args.vol.now) refl c.word.ensures c.read_input.ensures.ended

pub returns-in-Put-clause-may : goal.returns-in-Put-clause-may
returns-in-Put-clause-may g c =
    file-may c.read_input.result c.word.result.now c.args.vol.now.verb (λ devices. world_of g.H.Host c.args.host.now
    devices) (λ devices. world_of g.H.Host c.read_input.new.host devices) c.in-Put.is c.read_input.ensures.ended

pub returns-in-Put-clause-noted : goal.returns-in-Put-clause-noted
returns-in-Put-clause-noted g c =
    reads-of _ c.word.result.now (put-names c.args.vol.now c.word.result.now c.word.ensures c.in-Put.is) _ _
    c.read_input.result File (vol_file_name c.args.vol.now) c.word.ensures c.read_input.ensures.noted
    c.read_input.ensures.stopped

pub returns-in_default-clause-contents : goal.returns-in_default-clause-contents
returns-in_default-clause-contents g c = other-contents c.args.vol.now _ _ c.in_default.not-Put

pub returns-in_default-clause-noted : goal.returns-in_default-clause-noted
returns-in_default-clause-noted g c =
    subst (λ names. HasReadFiles names (notes_of g.H.Host c.args.host.now) (notes_of g.H.Host c.args.host.now))
    (sym (no-names c.args.vol.now.verb c.args.vol.now c.in_default.not-Put))
    (read-none (notes_of g.H.Host c.args.host.now))
