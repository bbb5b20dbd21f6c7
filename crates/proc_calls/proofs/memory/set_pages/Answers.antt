use Rattle.std.proofs.Common.{◌≡◌, ℕ, ◌*◌, Ok, nat_lt, subst, arith}
use Rattle.std.proofs.lemmas.Bool.{le-ltb}
use Rattle.os9_base.specs.declared.errors.TheConstants.{E_MEMFUL}
use Rattle.proc_model.specs.CallResult.{changes, done}
use Rattle.proc_model.specs.Processes.{with_memory}
use Rattle.proc_model.specs.Mem.{resized, with_size}
use Rattle.proc_model.specs.Program.{most_pages, blocks_of_pages}
use Rattle.proc_state.specs.Tie.{RepresentsProcesses, ReturnsDoneOrRefused}
use Rattle.proc_calls.proofs.Steps.{refuses-not, changes-then}
use Rattle.proc_calls.proofs.memory.set_pages.Goals as goal

pub returns-clause-call : goal.returns-clause-call
returns-clause-call c =
    λ m tied.
    let p = c.args.p.0 in
    let pages = c.args.pages in
    refuses-not m (nat_lt most_pages pages) E_MEMFUL (changes (resized m.memory p (blocks_of_pages pages))
    (λ memory. done (with_size m p (256 * pages) memory))) _ _ (le-ltb most_pages pages (omega arith))
    (changes-then m (resized m.memory p (blocks_of_pages pages)) (λ memory. with_size m p (256 * pages) memory) c.resize.new.s c.set_size.new.s
    (subst (λ (count : ℕ). ReturnsDoneOrRefused m (changes (resized m.memory p count) (λ memory. done (with_memory m memory)))
    (Ok tt) c.resize.new.s) c.blocks_of_pages.ensures (c.in_ok-resize.ensures.call m tied))
    (λ memory stands. subst (λ (size : ℕ). RepresentsProcesses c.set_size.new.s (with_size m p size memory))
    (let e : pages * 256 ≡ 256 * pages = omega arith in e) (c.set_size.ensures.tied (with_memory m memory)
    stands)))
