use Rattle.std.proofs.Common.{ℕ, IfOk, List, arith, subst, sym}
use Rattle.proc_state.proofs.Primaries.{written-whole}
use Rattle.load_calls.specs.Found.{IsWhole}
use Rattle.load_calls.proofs.found.load_whole.Goals as goal

pub returns-clause-ok : goal.returns-clause-ok
returns-clause-ok g c volumes v file mounted is there =
    let old = c.args.s.now.buffer in
    let new : List ℕ = c.load_front.new.into in
    subst (λ (bytes : List ℕ). IfOk c.load_front.result (λ done. IsWhole file c.args.size bytes))
    (sym (written-whole old.len old.items new (omega (arith, old.ok.0))
    (omega (arith, old.ok.0, c.load_front.ensures.room, c.deref_mut.ensures.len))))
    (c.load_front.ensures.ok volumes v file mounted is there)
