-- The code is the table, the passes, the records and their lengths.
use Rattle.std.proofs.Common.{◌≡◌, List, ℕ, length, ap, subst, arith}
use Rattle.std.specs.Prelude.{IfOk, codes}
use Rattle.guest_mods.specs.Stress.{worker_code, program_module}
use Rattle.guest_mods.proofs.StressLemmas.{length-worker_code, few-lengths, worker_code-put}
use Rattle.guest_mods.proofs.programs.worker.Goals as goal

pub program-requires-clause-short : goal.program-requires-clause-short
program-requires-clause-short c =
    let code : c.deref.result.now ≡ worker_code c.args.load.now =
    worker_code-put c.args.load.now _ _ _ _ c.in_ok-code.ensures.items c.in_ok-extend_from_slice.ensures.items c.in_ok-push_lengths.ensures c.deref.ensures.value in
    omega (arith, ap length code, length-worker_code c.args.load.now, few-lengths c.args.load.now c.requires)

pub returns : goal.returns
returns c =
    let code : c.deref.result.now ≡ worker_code c.args.load.now =
    worker_code-put c.args.load.now _ _ _ _ c.in_ok-code.ensures.items c.in_ok-extend_from_slice.ensures.items c.in_ok-push_lengths.ensures c.deref.ensures.value in
    record { bytes = subst (λ (code : List ℕ). IfOk c.program.result (λ b. b.items ≡ program_module (codes "Worker") code)) code c.program.ensures.bytes }
