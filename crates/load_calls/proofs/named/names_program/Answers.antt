use Rattle.std.proofs.Common.{◌≡◌, ◌∙◌, Option, List, ℕ, is_some, ap, refl, option_and_then}
use Rattle.fork_calls.proofs.Programs.{read-stands}
use Rattle.os9_base.specs.declared.registers.Regs.{Regs}
use Rattle.proc_model.specs.declared.program_name.ProgramName.{ProgramName}
use Rattle.proc_model.specs.Processes.{Processes, cells_at, regs_at}
use Rattle.proc_model.specs.ModuleLinks.{found_entry}
use Rattle.proc_model.specs.Program.{module_name, program_name}
use Rattle.file_rules.specs.Program.{named_program}
use Rattle.load_calls.proofs.named.names_program.Goals as goal

-- by the name that was read
by-name : (m : Processes) (p : ℕ) (regs : Regs) (name : ProgramName) → regs ≡ regs_at m p → name ≡ program_name
    (cells_at m p) regs.x → option_and_then (λ (name : List ℕ). found_entry m.memory.modules name regs.a)
    (module_name name) ≡ named_program m p
by-name m p regs name same is = λ i.
    option_and_then (λ (name : List ℕ). found_entry m.memory.modules name (same i).a)
    (module_name ((is ∙ ap (λ (r : Regs). program_name (cells_at m p) r.x) same) i))

pub returns-clause-named : goal.returns-clause-named
returns-clause-named c m tied =
    c.is_entered.ensures m.memory (c.read_name-name.ensures.same.represents m.memory tied.memory)
    ∙ ap (λ (name : Option (List ℕ)). is_some (option_and_then (λ (name : List ℕ). found_entry m.memory.modules name c.regs-regs.result.a) name)) c.module_name.ensures
    ∙ ap is_some (by-name m c.args.p.0 c.regs-regs.result _ (c.regs-regs.ensures.tied m tied) (c.read_name-name.ensures.name m.memory tied.memory))

pub returns-clause-same : goal.returns-clause-same
returns-clause-same c = record {
  memory = c.read_name-name.ensures.same;
  table = refl;
  sched = refl;
  own = refl;
  tick = refl;
  represents = read-stands c.args.s.now _ c.read_name-name.ensures.same refl refl refl refl;
}
