use Rattle.std.proofs.Common.{Err, List, ℕ, subst}
use Rattle.file_rules.specs.Program.{chains, starts_first}
use Rattle.load_calls.specs.Entering.{TriesFile}
use Rattle.load_calls.proofs.GoingOnLemmas.{goes-untried}
use Rattle.load_calls.proofs.chain.chain_read.Goals as goal

pub returns-in-Err-clause-call : goal.returns-in-Err-clause-call
returns-in-Err-clause-call c m file tied front params =
    goes-untried m file (starts_first chains m c.args.p.0) c.args.s.now c.in-Err.number
    (subst (λ (bytes : List ℕ). TriesFile bytes m.memory (Err c.in-Err.number)) front.bytes_are (c.in-Err.ensures.tries m.memory tied.memory)) tied
