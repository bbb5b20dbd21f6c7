use Rattle.std.proofs.Common.{arith}
use Rattle.file_status.proofs.FrontLemmas.{parts-joined}
use Rattle.file_status.proofs.front.joined.Goals as goal

pub returns : goal.returns
returns c = parts-joined c.args.front c.args.modified c.args.size c.args.created c.args.links (omega arith) (omega arith) (omega arith) (omega arith)
