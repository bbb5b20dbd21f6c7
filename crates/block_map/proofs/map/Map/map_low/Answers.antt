use Rattle.std.proofs.Common.{◌≡◌, ◌+◌, ◌-◌, ◌≤◌, ℕ, List, Option, Some, length, arith, rules, sym, ap, ◌∙◌, subst}
use Rattle.std.proofs.lemmas.Grind.{common_steps}
use Rattle.proc_model.specs.declared.group.BlockId.{BlockId}
use Rattle.block_pool.specs.Blocks.{IsLive}
use Rattle.proc_model.specs.Slots.{Slots, block_at}
use Rattle.block_map.specs.TakenBlocks.{NamesLiveBlocks}
use Rattle.block_map.proofs.Places.{at}
use Rattle.block_map.proofs.Maps.{put_mid-put, live-new, slots_of, IsMap-low}
use Rattle.block_map.proofs.Pools.{IsPool-new}
use Rattle.block_map.proofs.map.Map.map_low.Goals as goal

pub invariant_of-self : goal.invariant_of-self
invariant_of-self c =
    let fits : c.self.inside.low + c.args.n ≤ 8 = (c.is_free_run.ensures.0 (search rules)).0 in
    let many : length c.name_new.new.places ≡ c.self.inside.low + c.args.n - c.self.inside.low = grind (arith, common_steps) in
    let live = subst (λ (slots : Slots BlockId). NamesLiveBlocks slots c.args.pool.now) (sym c.self.view_is) c.requires in
    IsMap-low (slots_of c.self.inside.places c.self.inside.low c.self.inside.groups) c.name_new.new.places c.args.n
    c.args.pool.now c.name_new.new.pool c.self.invariant fits many live c.name_new.ensures

pub returns-clause-live : goal.returns-clause-live
returns-clause-live c =
    let places = c.self.inside.places in
    let new = c.name_new.new.places in
    let first = c.self.inside.low in
    let eight = c.self.invariant.eight_places in
    let fits : first + c.args.n ≤ 8 = (c.is_free_run.ensures.0 (search rules)).0 in
    let many : length new ≡ first + c.args.n - first = grind (arith, common_steps) in
    let mid = put_mid-put places new first (first + c.args.n - first) many in
    let live = λ (slot : ℕ) (id : BlockId) (here : at places slot ≡ Some id). c.requires slot id (ap (λ (slots : Slots BlockId). block_at slots slot) (sym c.self.view_is) ∙ here) in
    subst (λ (list : List (Option BlockId)). (slot : ℕ) (id : BlockId) → at list slot ≡ Some id → IsLive c.name_new.new.pool id.0) (sym mid)
    (live-new places new c.args.pool.now c.name_new.new.pool first (omega arith) live c.name_new.ensures)

pub returns-clause-shape : goal.returns-clause-shape
returns-clause-shape c =
    let fits : c.self.inside.low + c.args.n ≤ 8 = (c.is_free_run.ensures.0 (search rules)).0 in
    let many : length c.name_new.new.places ≡ c.self.inside.low + c.args.n - c.self.inside.low = grind (arith, common_steps) in
    let live = subst (λ (slots : Slots BlockId). NamesLiveBlocks slots c.args.pool.now) (sym c.self.view_is) c.requires in
    IsMap-low (slots_of c.self.inside.places c.self.inside.low c.self.inside.groups) c.name_new.new.places c.args.n
    c.args.pool.now c.name_new.new.pool c.self.invariant fits many live c.name_new.ensures

pub returns-clause-pool : goal.returns-clause-pool
returns-clause-pool c = IsPool-new c.name_new.new.places c.args.pool.now c.name_new.new.pool c.name_new.ensures
