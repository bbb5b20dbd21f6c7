use Rattle.std.specs.Bool.{⊤}
use Rattle.std.proofs.Common.{◌≤◌, arith}
use Rattle.std.proofs.lemmas.Bool.{MatchBool-at_true}
use Rattle.block_pool.specs.Blocks.{IsPool}
use Rattle.block_map.proofs.Windows.{named_of_slots, slots_of_named}
use Rattle.block_map.proofs.view.ViewUserMem.fits.Goals as goal

pub returns-then-from-le65536 : goal.returns-then-from-le65536
returns-then-from-le65536 c =
    let slots = c.args.self.now.map.now in
    let pool = c.args.self.now.pool.now in
    let first = c.slot_of.result in
    let last = c.slot_of-then-from-le65536.result in
    let called = c.are_slots_live.ensures in (
      λ all. (
        omega arith,
        named_of_slots slots pool c.args.at c.args.len (MatchBool-at_true (first ≤ last → IsPool pool)
            ⊤ all called.shape (omega arith)) (λ slot low high. called.live.0 all slot (omega arith)
            (omega arith)),
      ),
      λ fits. called.live.1 (λ slot low high. slots_of_named slots pool c.args.at c.args.len (omega arith) fits.1 slot (omega arith) (omega arith)),
    )
