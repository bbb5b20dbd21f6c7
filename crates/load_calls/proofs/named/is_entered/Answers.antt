use Rattle.std.proofs.Common.{◌∙◌, ℕ, Option, List, is_some, option_and_then, sym, ap}
use Rattle.proc_model.specs.ModuleLinks.{found_entry}
use Rattle.guest_memory.proofs.Seen.{found-seen}
use Rattle.proc_model.specs.ModuleList.{ModuleEntry, found_module}
use Rattle.load_calls.proofs.NamedLemmas.{found-some, some-number}
use Rattle.load_calls.proofs.named.is_entered.Goals as goal

pub returns-in-Some : goal.returns-in-Some
returns-in-Some c m tied =
    let name = c.in-Some.name in
    let kind = c.args.kind in
    c.is_some.ensures ∙ sym (some-number c.find.result (λ id. id.0))
    ∙ ap is_some (c.find.ensures.found ∙ ap (λ (modules : List (Option ModuleEntry)). found_module modules name kind) c.modules.ensures ∙ sym (found-seen c.args.memory.now m tied name kind))
    ∙ sym (found-some m.modules name kind)
    ∙ ap (λ (given : Option (List ℕ)). is_some (option_and_then (λ name. found_entry m.modules name kind) given)) (sym c.in-Some.is)
