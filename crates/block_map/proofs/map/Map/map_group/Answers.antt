use Rattle.std.proofs.Common.{◌≡◌, All, ◌+◌, ◌-◌, ◌≤◌, ℕ, List, Option, Some, length, arith, rules, sym, ap, ◌∙◌, subst}
use Rattle.std.proofs.lemmas.List.{length-map}
use Rattle.std.proofs.lemmas.Grind.{common_steps}
use Rattle.proc_model.specs.declared.group.BlockId.{BlockId}
use Rattle.block_pool.specs.Blocks.{Blocks, IsLive}
use Rattle.proc_model.specs.Slots.{Slots, NamesBlock, block_at, put_places, filled_places}
use Rattle.block_map.specs.TakenBlocks.{group_blocks, pool_after_sharing}
use Rattle.block_map.proofs.Places.{at}
use Rattle.block_map.proofs.Maps.{put_mid-put, live-group, slots_of, IsMap-group}
use Rattle.block_map.proofs.map.Map.map_group.Goals as goal

pub invariant_of-self : goal.invariant_of-self
invariant_of-self c =
    let ids = group_blocks c.args.g.now in
    let count : length ids ≡ c.args.g.now.len = grind (arith, common_steps) in
    let named : c.name_shared.new.places ≡ filled_places ids = grind (arith, common_steps) in
    let unnamed = subst (λ (slots : Slots BlockId). All (λ id. NamesBlock slots id → ⊥) ids) (sym c.self.view_is) c.requires.may.unnamed in
    IsMap-group (slots_of c.self.inside.places c.self.inside.low c.self.inside.groups) c.name_shared.new.places ids
    c.in-Some.slot c.args.g.now.len c.self.invariant c.requires.may.some c.in-Some.ensures.highest.0.0 named count
    c.requires.may.different unnamed

pub returns-clause-no_slot : goal.returns-clause-no_slot
returns-clause-no_slot c = (λ same. absurd (cc), λ none. absurd (none c.in-Some.slot (search rules)))

pub returns-clause-live : goal.returns-clause-live
returns-clause-live c =
    let places = c.self.inside.places in
    let new = c.name_shared.new.places in
    let first = c.in-Some.slot in
    let ids = group_blocks c.args.g.now in
    let eight = c.self.invariant.eight_places in
    let fits : first + c.args.g.now.len ≤ 8 = c.in-Some.ensures.highest.0.0 in
    let count : length ids ≡ c.args.g.now.len = grind (arith, common_steps) in
    let named : new ≡ filled_places ids = grind (arith, common_steps) in
    let many : length new ≡ first + c.args.g.now.len - first = ap (λ (list : List (Option BlockId)). length list) named ∙ length-map ids (λ (block : BlockId). Some block) ∙ omega arith in
    let mid = put_mid-put places new first (first + c.args.g.now.len - first) many ∙ ap (put_places places first) named in
    let live = λ (slot : ℕ) (id : BlockId) (here : at places slot ≡ Some id). c.requires.live slot id (ap (λ (slots : Slots BlockId). block_at slots slot) (sym c.self.view_is) ∙ here) in
    let shared_is : c.name_shared.new.pool ≡ pool_after_sharing c.args.pool.now ids = grind (arith, common_steps) in
    subst (λ (list : List (Option BlockId)). (slot : ℕ) (id : BlockId) → at list slot ≡ Some id → IsLive c.name_shared.new.pool id.0) (sym mid)
    (λ slot id here. subst (λ (pool : Blocks). IsLive pool id.0) (sym shared_is) (live-group places ids c.args.pool.now first (omega arith) live c.requires.may.group_live slot id here))

pub returns-clause-shape : goal.returns-clause-shape
returns-clause-shape c =
    let ids = group_blocks c.args.g.now in
    let count : length ids ≡ c.args.g.now.len = grind (arith, common_steps) in
    let named : c.name_shared.new.places ≡ filled_places ids = grind (arith, common_steps) in
    let unnamed = subst (λ (slots : Slots BlockId). All (λ id. NamesBlock slots id → ⊥) ids) (sym c.self.view_is) c.requires.may.unnamed in
    IsMap-group (slots_of c.self.inside.places c.self.inside.low c.self.inside.groups) c.name_shared.new.places ids
    c.in-Some.slot c.args.g.now.len c.self.invariant c.requires.may.some c.in-Some.ensures.highest.0.0 named count
    c.requires.may.different unnamed
