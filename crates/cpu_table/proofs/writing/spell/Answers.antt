-- What is spelled is read.
use Rattle.std.proofs.Common.{◌≡◌, length, arith, length-append}
use Rattle.cpu_table.specs.Spelling.{spelling}
use Rattle.cpu_table.proofs.Read.{plain_read}
use Rattle.cpu_table.proofs.writing.spell.Goals as goal

pub returns-clause-read_again : goal.returns-clause-read_again
returns-clause-read_again c = λ plain rest.
    let long : c.with_tail.result.len ≡ length (spelling c.args.i.now) = simp length-append (omega arith) in
    rw long (plain_read c.args.i.now rest plain)
