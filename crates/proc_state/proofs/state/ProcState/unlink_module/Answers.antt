use Rattle.std.proofs.Common.{◌≡◌, ◌∙◌, sym, ap, subst, List, length, map, take, drop, ◌++◌, arith}
use Rattle.std.proofs.lemmas.List.{length-map}
use Rattle.proc_model.specs.ModuleLinks.{still_primary}
use Rattle.guest_memory.specs.Tie.{modules_of}
use Rattle.proc_model.specs.Memory.{MemoryState}
use Rattle.proc_model.specs.MemoryChanges.{unlinked}
use Rattle.proc_model.specs.declared.own.Own.{Own}
use Rattle.proc_state.specs.Sound.{ArePrimaries, AreSleeps}
use Rattle.proc_state.proofs.Entered.{entered-tied}
use Rattle.proc_state.proofs.Primaries.{written-whole, ArePrimaries-still, still-same}
use Rattle.proc_state.proofs.Sleeps.{AreSleeps-still}
use Rattle.proc_state.proofs.state.ProcState.unlink_module.Goals as goal

pub invariant_of-self-clause-primaries : goal.invariant_of-self-clause-primaries
invariant_of-self-clause-primaries c =
    let own = c.args.self.now.own in
    let modules = modules_of c.unlink.new.self in
    let owns = c.keep_entered.new.owns in
    let is : owns ≡ map (still_primary modules) own.items = c.keep_entered.ensures ∙ (λ i. map (still_primary (c.modules.ensures i)) (c.deref_mut.ensures.value i)) in
    let same : length owns ≡ length own.items = ap (λ (all : List Own). length all) is ∙ length-map own.items (still_primary modules) in
    subst (λ (all : List Own). ArePrimaries all modules) (sym (written-whole own.len own.items owns (omega (arith, own.ok.0)) same ∙ is))
    (ArePrimaries-still modules own.items)

pub invariant_of-self-clause-sleeps : goal.invariant_of-self-clause-sleeps
invariant_of-self-clause-sleeps c =
    let own = c.args.self.now.own in
    let modules = modules_of c.unlink.new.self in
    let owns = c.keep_entered.new.owns in
    let is : owns ≡ map (still_primary modules) own.items = c.keep_entered.ensures ∙ (λ i. map (still_primary (c.modules.ensures i)) (c.deref_mut.ensures.value i)) in
    let same : length owns ≡ length own.items = ap (λ (all : List Own). length all) is ∙ length-map own.items (still_primary modules) in
    subst (λ (all : List Own). AreSleeps all c.args.self.now.tick) (sym (written-whole own.len own.items owns (omega (arith, own.ok.0)) same ∙ is))
    (AreSleeps-still modules own.items c.args.self.now.tick c.args.self.now.sleeps)

pub returns-clause-tied : goal.returns-clause-tied
returns-clause-tied c m before =
    let own = c.args.self.now.own in
    let modules = modules_of c.unlink.new.self in
    let owns = c.keep_entered.new.owns in
    let is : owns ≡ map (still_primary modules) own.items = c.keep_entered.ensures ∙ (λ i. map (still_primary (c.modules.ensures i)) (c.deref_mut.ensures.value i)) in
    let same : length owns ≡ length own.items = ap (λ (all : List Own). length all) is ∙ length-map own.items (still_primary modules) in
    let after : MemoryState = unlinked m.memory c.args.id.0 in
    let memory = c.unlink.ensures.less m.memory before.memory in
    let own_is : map (still_primary after.modules) m.own ≡ take own.len (owns ++ drop (length owns) own.items) =
    (λ i. map (still_primary after.modules) (before.is i).own)
    ∙ still-same after.modules modules (entered-tied c.unlink.new.self after memory) own.items
    ∙ sym (written-whole own.len own.items owns (omega (arith, own.ok.0)) same ∙ is) in
    record {
      memory = memory;
      is = λ i. record {
        memory = after;
        records = (before.is i).records;
        own = own_is i;
        order = (before.is i).order;
        tick = (before.is i).tick;
      };
    }
