use Rattle.lock_laws.proofs.Apart.{locks-apart, no-cycles, pairs-whole}
use Rattle.lock_laws.proofs.lock_laws.locks_are_apart_and_waits_have_no_cycle.Goals as goal

pub returns : goal.returns
returns c = record { apart = locks-apart; no_cycle = no-cycles; pairs = pairs-whole }
