use Rattle.std.proofs.Common.{◌≡◌, ◌+◌, Option, Some, option_map, [], sym, ap, subst, ◌∙◌, arith}
use Rattle.std.specs.Option.{option_map_or}
use Rattle.std.proofs.lemmas.Option.{same_Some}
use Rattle.os9_base.specs.declared.registers.Regs.{Regs}
use Rattle.proc_model.specs.Memory.{group_at}
use Rattle.proc_model.specs.MemoryChanges.{linked}
use Rattle.proc_model.specs.ModuleList.{ModuleEntry}
use Rattle.proc_model.specs.Processes.{own_at, regs_at, with_memory, with_own, with_regs_of}
use Rattle.proc_model.specs.Link.{mapped_group, links_at, with_links_at, linked_regs, after_link}
use Rattle.proc_model.specs.ModuleLinks.{Entered, header_address}
use Rattle.proc_state.specs.Tie.{RepresentsProcesses}
use Rattle.proc_calls.specs.Linked.{entered_as, links_entered}
use Rattle.proc_calls.proofs.Linking.{link-refused, link-linked}
use Rattle.proc_calls.proofs.Steps.{done-answers, refused-alone}
use Rattle.proc_calls.proofs.links.link_module.Goals as goal

pub returns-in_default-clause-call : goal.returns-in_default-clause-call
returns-in_default-clause-call c =
    λ m entry tied is.
    let p = c.args.p.0 in
    let found : Entered = entered_as c.args.id entry in
    refused-alone m (links_entered m p found c.args.count) _ c.args.s.now (link-refused m p found c.args.count (c.in_default.ensures.slot m tied entry is)) tied

pub linked_regs-requires-clause-fits : goal.linked_regs-requires-clause-fits
linked_regs-requires-clause-fits c = omega (arith, c.in-Some.ensures.fits, c.info-info.ensures.inside)

pub returns-clause-call : goal.returns-clause-call
returns-clause-call c =
    λ m entry tied is.
    let p = c.args.p.0 in
    let id = c.args.id.0 in
    let slot = c.in-Some.slot in
    let count = c.args.count in
    let found : Entered = entered_as c.args.id entry in
    let there = link-linked m p found count slot (c.in-Some.ensures.slot m tied entry is) in
    let mapped = there.mapped in
    let group_is : group_at m.memory id ≡ entry.group = ap (λ (place : Option ModuleEntry). option_map_or (λ (entry : ModuleEntry). entry.group) place []) is in
    let mapped_is : mapped_group m.memory p (group_at m.memory id) ≡ Some mapped = ap (mapped_group m.memory p) group_is ∙ there.is in
    let added = c.add_link.ensures.tied (with_memory m mapped.memory) (c.map_group.ensures.tied m mapped tied mapped_is) in
    let info_is : entry.info ≡ c.info-info.result = same_Some _ _ (sym (ap (option_map (λ (entry : ModuleEntry). entry.info)) is) ∙ c.info-info.ensures.tied m.memory tied.memory) in
    let regs_are : c.linked_regs.result ≡ linked_regs (regs_at m p) entry (header_address slot entry) count =
    c.linked_regs.ensures entry info_is ∙ ap (λ (regs : Regs). linked_regs regs entry (header_address slot entry)
    count) (c.regs-regs.ensures.tied _ added) in
    done-answers m (links_entered m p found count) (after_link m p found mapped count) c.set_regs.new.self there.goes
    (subst (RepresentsProcesses c.set_regs.new.self) (λ i. with_regs_of (with_own (with_memory m (linked mapped.memory id)) p
    (with_links_at (own_at m p) (sym there.slot_is i) (links_at (own_at m p) (sym there.slot_is i) + 1))) p
    ((regs_are ∙ (λ j. linked_regs (regs_at m p) entry (header_address (sym there.slot_is j) entry) count)) i))
    (c.set_regs.ensures.tied _ added))
