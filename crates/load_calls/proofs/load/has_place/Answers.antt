use Rattle.std.proofs.Common.{ap, ◌∙◌, Option, ℕ, nat_lt, false}
use Rattle.std.specs.Option.{option_map_or}
use Rattle.proc_model.specs.declared.memory.TheConstants.{MOST_LINKS}
use Rattle.proc_model.specs.declared.own.Own.{Own}
use Rattle.proc_model.specs.Processes.{own_at}
use Rattle.proc_model.specs.Link.{links_at}
use Rattle.load_calls.proofs.load.has_place.Goals as goal

pub returns-in-Some : goal.returns-in-Some
returns-in-Some c m tied =
    ap (λ (own : Own). nat_lt (links_at own c.in-Some.slot) MOST_LINKS) (c.own.ensures.tied m tied)
    ∙ ap (λ (slot : Option ℕ). option_map_or (λ slot. nat_lt (links_at (own_at m c.args.p.0) slot) MOST_LINKS) slot false) (c.in-Some.ensures.slot m.memory tied.memory)

pub returns-in-None : goal.returns-in-None
returns-in-None c m tied =
    ap (λ (slot : Option ℕ). option_map_or (λ slot. nat_lt (links_at (own_at m c.args.p.0) slot) MOST_LINKS) slot false) (c.in-None.ensures.slot m.memory tied.memory)
