use Rattle.std.proofs.Common.{◌∙◌, sym}
use Rattle.terminal_mgr.proofs.PutLemmas.{line-part}
use Rattle.terminal_mgr.proofs.driver.put_line.Goals as goal

pub returns-in-Ok-clause-part : goal.returns-in-Ok-clause-part
returns-in-Ok-clause-part g c =
    line-part c.put_bytes-in-Some-2.result c.args.bytes.now c.in-Some.place _ _ _ (sym c.place_of_return.ensures.place ∙ c.in-Some.is) c.in-Ok.ensures.all c.put_bytes-in-Some-2.ensures.part
