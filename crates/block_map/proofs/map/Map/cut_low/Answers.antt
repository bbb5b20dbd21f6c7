use Rattle.std.proofs.Common.{◌≡◌, ◌-◌, ℕ, List, Option, Some, arith, sym, ap, ◌∙◌, subst, refl}
use Rattle.proc_model.specs.declared.group.BlockId.{BlockId}
use Rattle.block_pool.specs.Blocks.{Blocks, IsLive}
use Rattle.proc_model.specs.Slots.{Slots, block_at}
use Rattle.block_map.proofs.Places.{at}
use Rattle.block_map.proofs.Maps.{cleared-put, Once-part, live-clear, slots_of, IsMap-clear}
use Rattle.block_map.proofs.map.Map.cut_low.Goals as goal

pub give_back-requires-clause-once : goal.give_back-requires-clause-once
give_back-requires-clause-once c =
    let low_fits = c.self.invariant.low_fits in
    let eight = c.self.invariant.eight_places in
    Once-part c.self.inside.places c.args.n (c.self.inside.low - c.args.n) (omega arith) c.self.invariant.once

pub invariant_of-self : goal.invariant_of-self
invariant_of-self c =
    let low_fits = c.self.invariant.low_fits in
    IsMap-clear (slots_of c.self.inside.places c.self.inside.low c.self.inside.groups) c.give_back.new.places c.args.n
    (c.self.inside.low - c.args.n) c.args.n c.self.inside.groups c.self.invariant (omega arith)
    c.give_back.ensures.cleared c.self.invariant.eight_groups (omega arith) c.self.invariant.group_fits

pub returns-then-n-self-clause-live : goal.returns-then-n-self-clause-live
returns-then-n-self-clause-live c =
    let places = c.self.inside.places in
    let first = c.args.n in
    let len = c.self.inside.low - first in
    let low_fits = c.self.invariant.low_fits in
    let eight = c.self.invariant.eight_places in
    let mid = cleared-put places c.give_back.new.places first len _ (omega arith) refl c.give_back.ensures.cleared in
    let live = λ (slot : ℕ) (id : BlockId) (here : at places slot ≡ Some id). c.requires slot id (ap (λ (slots : Slots BlockId). block_at slots slot) (sym c.self.view_is) ∙ here) in
    subst (λ (list : List (Option BlockId)). (slot : ℕ) (id : BlockId) → at list slot ≡ Some id → IsLive c.give_back.new.pool id.0) (sym mid)
    (λ slot id here. subst (λ (pool : Blocks). IsLive pool id.0) (sym c.give_back.ensures.given) (live-clear places first len c.args.pool.now (omega arith) c.self.invariant.once live slot id here))

pub returns-then-n-self-clause-shape : goal.returns-then-n-self-clause-shape
returns-then-n-self-clause-shape c =
    let low_fits = c.self.invariant.low_fits in
    IsMap-clear (slots_of c.self.inside.places c.self.inside.low c.self.inside.groups) c.give_back.new.places c.args.n
    (c.self.inside.low - c.args.n) c.args.n c.self.inside.groups c.self.invariant (omega arith)
    c.give_back.ensures.cleared c.self.invariant.eight_groups (omega arith) c.self.invariant.group_fits
