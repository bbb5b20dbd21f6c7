use Rattle.std.proofs.Common.{refl}
use Rattle.boot_run.specs.World.{world_of}
use Rattle.boot_run.specs.declared.status.Input.TheVariants.{Script}
use Rattle.boot_run.specs.End.{run_file_name}
use Rattle.boot_run.proofs.FileLemmas.{stopped-as}
use Rattle.boot_run.proofs.ReadLemmas.{script-none, script-read, script-stopped}
use Rattle.boot_run.proofs.files.read_script.Goals as goal

pub returns-in-Some-clause-ended : goal.returns-in-Some-clause-ended
returns-in-Some-clause-ended g c =
    stopped-as c.read_input.result Script _ c.args.run.now.script (λ devices. world_of g.H.Host c.args.host.now
    devices) (λ devices. world_of g.H.Host c.read_input.new.host devices) (run_file_name c.args.run.now) refl (cc)
    c.read_input.ensures.ended

pub returns-in-Some-clause-noted : goal.returns-in-Some-clause-noted
returns-in-Some-clause-noted g c = script-read c.read_input.result c.args.run.now _ (cc) _ _ c.read_input.ensures.noted

pub returns-in-Some-clause-stopped : goal.returns-in-Some-clause-stopped
returns-in-Some-clause-stopped g c =
    script-stopped c.read_input.result c.args.run.now _ (cc) _ _ c.read_input.ensures.stopped

pub returns-in-None-clause-noted : goal.returns-in-None-clause-noted
returns-in-None-clause-noted g c = script-none c.args.run.now _ (cc)
