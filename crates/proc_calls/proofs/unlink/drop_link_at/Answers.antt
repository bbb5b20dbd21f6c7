use Rattle.std.proofs.Common.{◌≡◌, ◌-◌, ap, subst, ◌∙◌}
use Rattle.proc_model.specs.Memory.{group_at}
use Rattle.proc_model.specs.declared.own.Own.{Own}
use Rattle.proc_model.specs.Processes.{own_at, with_memory, with_own}
use Rattle.proc_model.specs.Link.{links_at, with_links_at}
use Rattle.proc_model.specs.UnLink.{with_links_left}
use Rattle.proc_state.specs.Tie.{RepresentsProcesses}
use Rattle.proc_calls.proofs.unlink.drop_link_at.Goals as goal

pub returns-clause-tied : goal.returns-clause-tied
returns-clause-tied c =
    λ m tied.
    let p = c.args.p.0 in
    let slot = c.args.slot in
    let group = group_at m.memory c.args.id.0 in
    let left = c.saturating_sub-left.result in
    let own_is : c.own-own.result ≡ own_at m p = c.own-own.ensures.tied m tied in
    let left_is : left ≡ links_at (own_at m p) slot - 1 = c.saturating_sub-left.ensures ∙ ap (λ (own : Own). links_at own slot - 1) own_is in
    subst (RepresentsProcesses c.set_own.new.self) (λ i. with_own (with_memory m (with_links_left m.memory p group (left_is i))) p (with_links_at (own_is i) slot (left_is i)))
    (c.set_own.ensures.tied (with_memory m (with_links_left m.memory p group left)) (c.keep_linked.ensures.tied m tied))
