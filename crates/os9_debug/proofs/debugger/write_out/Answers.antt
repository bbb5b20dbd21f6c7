use Rattle.std.proofs.Common.{◌≢◌, []}
use Rattle.boot_run.proofs.ConsoleLemmas.{not-none, on-error}
use Rattle.os9_debug.proofs.debugger.write_out.Goals as goal

pub returns-clause-some : goal.returns-clause-some
returns-clause-some g c =
    on-error c.out.result (c.args.bytes.now ≢ []) (not-none c.args.bytes.now c.is_empty.result c.is_empty.ensures c.if-is_empty.false)
