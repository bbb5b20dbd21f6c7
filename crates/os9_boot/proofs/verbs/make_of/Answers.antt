use Rattle.os9_boot.proofs.VerbLemmas.{repaired-of, repaired-still}
use Rattle.os9_boot.proofs.verbs.make_of.Goals as goal

pub returns-in-Repair-clause-made : goal.returns-in-Repair-clause-made
returns-in-Repair-clause-made g c =
    repaired-of c.args.vol.now c.args.files.image.items c.args.files.file.items c.in-Repair.is c.repair_image.result c.repair_image.ensures

pub returns-in-Repair-clause-drives : goal.returns-in-Repair-clause-drives
returns-in-Repair-clause-drives g c =
    repaired-still c.args.files.image.items c.repair_image.result _ c.requires.room c.repair_image.ensures
