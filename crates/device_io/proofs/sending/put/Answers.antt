use Rattle.std.proofs.Common.{length}
use Rattle.device_io.proofs.SendingLemmas.{sends-put}
use Rattle.device_io.specs.Sending.{put_count, put_of, sender}
use Rattle.device_io.proofs.sending.put.Goals as goal

pub returns-clause-call : goal.returns-clause-call
returns-clause-call g c regs told cells line =
    let bytes = c.args.to_write.now.bytes.now in
    let answer = c.put_as-answer in
    sends-put (sender c.args.p regs cells) c.args.io.now answer.new.io c.args.n (put_of c.args.to_write.now.kind bytes)
    (length bytes) told _ _ (put_count c.args.to_write.now.kind bytes) answer.result c.put_end.result line
    answer.ensures.put.device answer.ensures.put.io c.put_end.ensures
