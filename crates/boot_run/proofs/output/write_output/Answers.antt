-- The file is written whole, or in part where the host failed or memory was out.
use Rattle.std.proofs.Common.{ℕ, List, refl, subst}
use Rattle.os9_words.specs.Notes.{notes_of}
use Rattle.boot_run.specs.World.{world_of}
use Rattle.boot_run.specs.Output.{NotesOutput, WritesOutput}
use Rattle.boot_run.proofs.OutputLemmas.{noted-output, wrote-output}
use Rattle.boot_run.proofs.output.write_output.Goals as goal

pub returns-clause-wrote : goal.returns-clause-wrote
returns-clause-wrote g c devices =
    let wrote = c.write_file.ensures in
    let before = world_of g.H.Host c.args.host.now devices in
    let after = world_of g.H.Host c.write_file.new.self devices in
    subst (λ (name : List ℕ). WritesOutput name c.args.bytes.now c.write_file.result before after) c.text.ensures
    (wrote-output c.text.result.now c.args.bytes.now before after wrote.others_kept wrote.prefix_written
    wrote.out_kept refl c.write_file.result wrote.written wrote.fault_counted wrote.fault_named
    wrote.fault_in_write wrote.count_kept wrote.name_kept wrote.read_kept)

pub returns-clause-noted : goal.returns-clause-noted
returns-clause-noted g c =
    let wrote = c.write_file.ensures in
    let before = notes_of g.H.Host c.args.host.now in
    let after = notes_of g.H.Host c.write_file.new.self in
    subst (λ (name : List ℕ). NotesOutput name c.write_file.result before after) c.text.ensures
    (noted-output c.text.result.now before after wrote.reads_kept wrote.err_kept wrote.err_count_kept
    c.write_file.result wrote.write_noted)
