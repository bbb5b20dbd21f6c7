use Rattle.std.proofs.Common.{◌≡◌, ◌+◌, ap, subst}
use Rattle.proc_model.specs.MemoryChanges.{linked}
use Rattle.proc_model.specs.declared.own.Own.{Own}
use Rattle.proc_model.specs.Processes.{Processes, own_at, with_memory, with_own}
use Rattle.proc_model.specs.Link.{links_at, with_links_at}
use Rattle.proc_state.specs.Tie.{RepresentsProcesses}
use Rattle.proc_calls.proofs.links.add_link.Goals as goal

pub returns-clause-tied : goal.returns-clause-tied
returns-clause-tied c =
    λ m tied.
    let p = c.args.p.0 in
    let slot = c.args.slot in
    let memory = linked m.memory c.args.id.0 in
    let own_is : c.own-own.result ≡ own_at m p = c.own-own.ensures.tied (with_memory m memory)
    (record {
      memory = c.link.ensures.links m.memory tied.memory;
      is = ap (λ (s : Processes). with_memory s memory)
          tied.is;
    }) in
    subst (λ (own : Own). RepresentsProcesses c.set_own.new.self (with_own (with_memory m memory) p (with_links_at own slot (links_at own slot + 1)))) own_is
    (c.set_own.ensures.tied (with_memory m memory) (record { memory = c.link.ensures.links m.memory tied.memory; is = ap (λ (s : Processes). with_memory s memory) tied.is }))
