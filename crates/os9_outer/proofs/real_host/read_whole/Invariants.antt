-- So far no more was read than a file may have.
use Rattle.std.proofs.Common.{◌≤◌, vec_len}
use Rattle.os9_outer.proofs.real_host.read_whole.Given as goal

abbrev pub invariant-loop : goal.invariant-loop
invariant-loop g l = vec_len l.bytes ≤ 536870912
