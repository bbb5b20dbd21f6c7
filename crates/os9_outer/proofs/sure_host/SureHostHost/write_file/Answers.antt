-- All the bytes were written, which are a prefix of themselves.
use Rattle.std.proofs.Common.{sym, ap, ◌∙◌, Some, inr, length}
use Rattle.std.proofs.Math.Seq.{take-length}
use Rattle.os9_outer.proofs.sure_host.SureHostHost.write_file.Goals as goal

pub returns-in-Ok-clause-prefix_written : goal.returns-in-Ok-clause-prefix_written
returns-in-Ok-clause-prefix_written c =
    let bytes = c.args.bytes.now in inr (length bytes, c.in-Ok.ensures.written ∙ ap Some (sym (take-length bytes)))
