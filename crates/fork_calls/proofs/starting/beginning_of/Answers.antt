use Rattle.std.proofs.Common.{◌≡◌, Option, [], length, ap, ◌∙◌, arith}
use Rattle.std.specs.Option.{option_map_or}
use Rattle.proc_model.specs.ModuleList.{ModuleEntry}
use Rattle.fork_calls.proofs.starting.beginning_of.Goals as goal

pub returns-clause-own : goal.returns-clause-own
returns-clause-own c m entry bytes tied is =
    let len : c.group_len-slot.result ≡ length entry.group = c.group_len-slot.ensures.tied m tied ∙ ap
    (λ (place : Option ModuleEntry). length (option_map_or (λ (entry : ModuleEntry). entry.group) place [])) is in
    c.start_own.ensures.own entry bytes (omega (arith, len, c.group_len-slot.ensures.few))
