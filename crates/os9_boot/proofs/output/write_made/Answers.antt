use Rattle.std.proofs.Common.{ℕ, List, subst}
use Rattle.os9_words.specs.Notes.{notes_of}
use Rattle.boot_run.specs.World.{world_of}
use Rattle.os9_boot.specs.VolSteps.{WritesMade}
use Rattle.os9_boot.proofs.OutputLemmas.{dir-written, noted-dir, writes-image}
use Rattle.os9_boot.proofs.output.write_made.Goals as goal

pub returns-in-Dir-clause-wrote : goal.returns-in-Dir-clause-wrote
returns-in-Dir-clause-wrote g c devices =
    dir-written c.args.vol.now _ _ (world_of g.H.Host c.args.host.now devices) c.in-Dir.is

pub returns-in-Dir-clause-noted : goal.returns-in-Dir-clause-noted
returns-in-Dir-clause-noted g c = noted-dir c.args.vol.now (notes_of g.H.Host c.args.host.now) c.in-Dir.is

pub write_image-requires : goal.write_image-requires
write_image-requires g c = writes-image c.args.vol.now.verb c.in_default.not-Dir c.in_default.not-Get

pub returns-in-Get-clause-wrote : goal.returns-in-Get-clause-wrote
returns-in-Get-clause-wrote g c devices =
    let made = c.args.made.now in
    subst (λ (answer : List ℕ). WritesMade c.args.vol.now answer made.image.items c.write_answer.result
    (world_of g.H.Host c.args.host.now devices) (world_of g.H.Host c.write_answer.new.host devices))
    c.deref.ensures.value (c.write_answer.ensures.wrote devices made.image.items)

pub returns-in_default : goal.returns-in_default
returns-in_default g c =
    let made = c.args.made.now in
    record {
      wrote = λ devices. subst (λ (image : List ℕ). WritesMade c.args.vol.now made.answer.items image
          c.write_image.result (world_of g.H.Host c.args.host.now devices) (world_of g.H.Host c.write_image.new.host
          devices)) c.deref-in_default.ensures.value (c.write_image.ensures.wrote devices made.answer.items);
      noted = c.write_image.ensures.noted;
    }
