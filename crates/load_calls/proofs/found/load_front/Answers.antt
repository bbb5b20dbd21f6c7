use Rattle.std.proofs.Common.{take, drop}
use Rattle.std.proofs.lemmas.List.{length-take-le}
use Rattle.load_calls.proofs.FoundLemmas.{whole-of}
use Rattle.load_calls.proofs.found.load_front.Goals as goal

pub returns-in-Ok-clause-ok : goal.returns-in-Ok-clause-ok
returns-in-Ok-clause-ok g c volumes v file mounted is there =
    whole-of file c.args.size (take c.args.size c.args.into.now) c.read_at.new.into (drop c.args.size c.args.into.now)
    c.in-Ok.field-0 (length-take-le c.args.size c.args.into.now c.requires.room) (c.in-Ok.ensures.ok volumes v
    file mounted is there)
