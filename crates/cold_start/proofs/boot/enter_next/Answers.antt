use Rattle.std.proofs.Common.{Option, List, sym, ap, ◌∙◌, subst}
use Rattle.std.proofs.lemmas.Result.{err_from_is_err_and}
use Rattle.guest_memory.specs.Tie.{RepresentsMemory}
use Rattle.proc_model.specs.Loading.{entry_refusal}
use Rattle.proc_model.specs.Memory.{MemoryState}
use Rattle.proc_model.specs.ModuleList.{ModuleEntry}
use Rattle.cold_start.proofs.Entering.{beside-is, group-kept, in_group, is_there}
use Rattle.cold_start.proofs.Seen.{refusal-seen}
use Rattle.cold_start.proofs.boot.enter_next.Goals as goal

pub returns-in_err-takes-clause-refused : goal.returns-in_err-takes-clause-refused
returns-in_err-takes-clause-refused c = λ m tied.
    let p = err_from_is_err_and c.from_residual.result c.from_residual.ensures.1 in
    let why = c.in_err-takes.ensures.refused in
    rw (p.1, p.2) (why.0, refusal-seen c.args.memory.now m tied c.args.info ∙ ap (λ (modules : List (Option ModuleEntry)). entry_refusal modules c.args.info) (sym c.modules.ensures) ∙ why.1)

pub enter_beside-requires-clause-entered : goal.enter_beside-requires-clause-entered
enter_beside-requires-clause-entered c = is_there c.args.boot.now c.args.id.0 c.args.memory.now c.requires.booting

pub enter_beside-requires-clause-inside : goal.enter_beside-requires-clause-inside
enter_beside-requires-clause-inside c =
    in_group c.args.boot.now c.args.id.0 c.args.info c.args.memory.now c.requires.booting c.requires.inside

pub returns-clause-entered : goal.returns-clause-entered
returns-clause-entered c = λ m tied has. record {
  accepted = refusal-seen c.args.memory.now m tied c.args.info ∙ ap (λ (modules : List (Option ModuleEntry)). entry_refusal modules c.args.info) (sym c.modules.ensures) ∙ c.in_ok-takes.ensures.taken;
  represents = subst (λ (t : MemoryState). RepresentsMemory c.enter_beside.new.self t) (beside-is c.args.boot.now c.args.id.0 m c.args.info has) (c.enter_beside.ensures.enters m tied);
  has = group-kept c.args.boot.now c.args.id.0 m c.args.info has;
}
