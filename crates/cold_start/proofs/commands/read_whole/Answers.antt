use Rattle.cold_start.proofs.CommandLemmas.{read-all}
use Rattle.cold_start.proofs.commands.read_whole.Goals as goal

pub returns-in-Ok-clause-ok : goal.returns-in-Ok-clause-ok
returns-in-Ok-clause-ok g c volumes v file mounted is there same =
    read-all file c.args.into.now c.read_at.new.into c.in-Ok.field-0 same (c.in-Ok.ensures.ok volumes v file mounted is there)
