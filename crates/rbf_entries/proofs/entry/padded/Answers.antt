use Rattle.std.proofs.Common.{◌≡◌, ◌<◌, length, arith}
use Rattle.rbf_entries.proofs.EntryBytes.{fill_more, filled_all}
use Rattle.rbf_entries.proofs.entry.padded.Goals as goal

pub loop-i-preserved : goal.loop-i-preserved
loop-i-preserved c =
    let short = c.len-i-end.ensures.name.short in
    let room : c.loop-i.i < 32 = omega (arith, short) in
    fill_more _ c.loop-i.bytes 32 c.loop-i.i c.marked.result c.marked.ensures room c.loop-i.invariant

pub returns-clause-bytes : goal.returns-clause-bytes
returns-clause-bytes c =
    let short = c.len-i-end.ensures.name.short in
    let all : c.loop-i.i ≡ length c.args.name.now = omega arith in
    filled_all c.args.name.now c.loop-i.bytes c.loop-i.i all (omega (arith, short)) c.loop-i.invariant
