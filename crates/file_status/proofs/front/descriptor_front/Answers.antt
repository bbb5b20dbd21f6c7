use Rattle.file_status.proofs.FrontLemmas.{front-told}
use Rattle.file_status.proofs.front.descriptor_front.Goals as goal

pub returns : goal.returns
returns c file shown = front-told c.args.fd.now c.joined.result c.long_bytes.result c.joined.ensures c.long_bytes.ensures file shown
