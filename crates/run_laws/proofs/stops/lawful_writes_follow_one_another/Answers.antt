use Rattle.run_laws.proofs.CutOff.{one_after_another}
use Rattle.run_laws.proofs.stops.lawful_writes_follow_one_another.Goals as goal

pub returns : goal.returns
returns c = one_after_another
