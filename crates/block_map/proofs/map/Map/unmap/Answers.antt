use Rattle.std.proofs.Common.{◌≡◌, ◌<◌, set, ◌+◌, ◌-◌, ◌≤◌, ℕ, List, Option, Some, None, arith, rules, sym, ap, ◌∙◌, subst, refl}
use Rattle.std.proofs.lemmas.List.{length-set}
use Rattle.proc_model.specs.declared.group.BlockId.{BlockId}
use Rattle.block_pool.specs.Blocks.{Blocks, IsLive}
use Rattle.proc_model.specs.Slots.{Slots, block_at}
use Rattle.block_map.proofs.Places.{at}
use Rattle.block_map.proofs.Maps.{cleared-put, Once-part, live-clear, GroupsFit-clear, group-within, slots_of, IsMap-clear}
use Rattle.block_map.proofs.map.Map.unmap.Goals as goal

pub give_back-requires-clause-once : goal.give_back-requires-clause-once
give_back-requires-clause-once c =
    let fits : c.args.slot + c.in-Some.len ≤ 8 = c.self.invariant.group_fits c.args.slot c.in-Some.len (search rules) in
    let eight = c.self.invariant.eight_places in
    Once-part c.self.inside.places c.args.slot (c.args.slot + c.in-Some.len - c.args.slot) (omega arith) c.self.invariant.once

pub invariant_of-self : goal.invariant_of-self
invariant_of-self c =
    let first = c.args.slot in
    let groups = c.self.inside.groups in
    let eight_groups = c.self.invariant.eight_groups in
    let fits : first + c.in-Some.len ≤ 8 = c.self.invariant.group_fits first c.in-Some.len (search rules) in
    let within : first < 8 = omega (arith, group-within groups first c.in-Some.len (search rules)) in
    IsMap-clear (slots_of c.self.inside.places c.self.inside.low groups) c.give_back.new.places first
    (first + c.in-Some.len - first) c.self.inside.low (set groups first None) c.self.invariant (omega arith)
    c.give_back.ensures.cleared (length-set groups first None ∙ eight_groups) c.self.invariant.low_fits
    (GroupsFit-clear groups first eight_groups within c.self.invariant.group_fits)

pub returns-in-Some-clause-live : goal.returns-in-Some-clause-live
returns-in-Some-clause-live c =
    let places = c.self.inside.places in
    let first = c.args.slot in
    let len = first + c.in-Some.len - first in
    let fits : first + c.in-Some.len ≤ 8 = c.self.invariant.group_fits first c.in-Some.len (search rules) in
    let eight = c.self.invariant.eight_places in
    let mid = cleared-put places c.give_back.new.places first len _ (omega arith) refl c.give_back.ensures.cleared in
    let live = λ (slot : ℕ) (id : BlockId) (here : at places slot ≡ Some id). c.requires.live slot id (ap (λ (slots : Slots BlockId). block_at slots slot) (sym c.self.view_is) ∙ here) in
    subst (λ (list : List (Option BlockId)). (slot : ℕ) (id : BlockId) → at list slot ≡ Some id → IsLive c.give_back.new.pool id.0) (sym mid)
    (λ slot id here. subst (λ (pool : Blocks). IsLive pool id.0) (sym c.give_back.ensures.given) (live-clear places first len c.args.pool.now (omega arith) c.self.invariant.once live slot id here))

pub returns-in-Some-clause-shape : goal.returns-in-Some-clause-shape
returns-in-Some-clause-shape c =
    let first = c.args.slot in
    let groups = c.self.inside.groups in
    let eight_groups = c.self.invariant.eight_groups in
    let fits : first + c.in-Some.len ≤ 8 = c.self.invariant.group_fits first c.in-Some.len (search rules) in
    let within : first < 8 = omega (arith, group-within groups first c.in-Some.len (search rules)) in
    IsMap-clear (slots_of c.self.inside.places c.self.inside.low groups) c.give_back.new.places first
    (first + c.in-Some.len - first) c.self.inside.low (set groups first None) c.self.invariant (omega arith)
    c.give_back.ensures.cleared (length-set groups first None ∙ eight_groups) c.self.invariant.low_fits
    (GroupsFit-clear groups first eight_groups within c.self.invariant.group_fits)
