use Rattle.std.proofs.Common.{◌≡◌, ℕ, Option, Some, option_map, List, length, take, ap, sym, refl, subst, ◌∙◌, arith}
use Rattle.std.proofs.lemmas.List.{length-take-le}
use Rattle.std.proofs.lemmas.Option.{same_Some}
use Rattle.std.proofs.lemmas.Result.{err_from_is_err_and}
use Rattle.os9_base.specs.declared.registers.Regs.{Regs}
use Rattle.proc_model.specs.declared.module.ModuleInfo.{ModuleInfo}
use Rattle.proc_model.specs.ModuleList.{ModuleEntry}
use Rattle.proc_model.specs.Processes.{Processes, regs_at, cells_at}
use Rattle.proc_model.specs.declared.program_name.ProgramName.{ProgramName}
use Rattle.proc_model.specs.Program.{area_pages, module_name, name_at_x, program_name}
use Rattle.proc_model.specs.UserBytes.{user_bytes}
use Rattle.fork_calls.specs.Naming.{IsProgramFound, IsUnfound}
use Rattle.fork_calls.proofs.Programs.{read-no_name, read-no_bytes, read-unfound, read-found, read-stands, read-same}
use Rattle.fork_calls.proofs.reading.read_program.Goals as goal

-- the name at X is the one that was read
name-is : (m : Processes) (p : ℕ) (regs : Regs) (name : ProgramName) → regs ≡ regs_at m p → name ≡ program_name (cells_at m p) regs.x → name_at_x m p ≡ name
name-is m p regs name same is = ap (λ (r : Regs). program_name (cells_at m p) r.x) (sym same) ∙ sym is

pub returns-then-is_unreadable-clause-read : goal.returns-then-is_unreadable-clause-read
returns-then-is_unreadable-clause-read c m tied =
    read-no_name m c.args.p.0 c.read_name-name.result
    (name-is m c.args.p.0 _ _ (c.regs-regs.ensures.tied m tied) (c.read_name-name.ensures.name m.memory tied.memory))
    (sym c.is_unreadable.ensures ∙ c.if-is_unreadable.true)

pub returns-then-not-read_bytes-clause-same : goal.returns-then-not-read_bytes-clause-same
returns-then-not-read_bytes-clause-same c = read-same c.args.s.now _ c.read_name-name.ensures.same refl refl refl refl c.read_bytes.new.self c.read_bytes.ensures.same

pub returns-in_err-id-clause-same : goal.returns-in_err-id-clause-same
returns-in_err-id-clause-same c = read-same c.args.s.now _ c.read_name-name.ensures.same refl refl refl refl c.read_bytes.new.self c.read_bytes.ensures.same

pub returns-clause-same : goal.returns-clause-same
returns-clause-same c = read-same c.args.s.now _ c.read_name-name.ensures.same refl refl refl refl c.read_bytes.new.self c.read_bytes.ensures.same

pub returns-then-not-read_bytes-clause-read : goal.returns-then-not-read_bytes-clause-read
returns-then-not-read_bytes-clause-read c m tied =
    let p = c.args.p.0 in
    let regs_are = c.regs-regs.ensures.tied m tied in
    let name = name-is m p _ _ regs_are (c.read_name-name.ensures.name m.memory tied.memory) in
    let there = sym c.is_unreadable.ensures ∙ c.if-is_unreadable.false in
    read-no_bytes m p c.read_name-name.result name there
    (ap (λ (r : Regs). user_bytes (cells_at m p) r.u r.y) (sym regs_are)
    ∙ c.if-not-read_bytes.ensures.read m (read-stands c.args.s.now _ c.read_name-name.ensures.same refl refl refl refl m tied))

pub returns-in_err-id-clause-read : goal.returns-in_err-id-clause-read
returns-in_err-id-clause-read c m tied =
    let p = c.args.p.0 in
    let regs_are = c.regs-regs.ensures.tied m tied in
    let name = name-is m p _ _ regs_are (c.read_name-name.ensures.name m.memory tied.memory) in
    let there = sym c.is_unreadable.ensures ∙ c.if-is_unreadable.false in
    let stood = read-stands c.args.s.now _ c.read_name-name.ensures.same refl refl refl refl m tied in
    let after = c.read_bytes.ensures.same.represents m stood in
    let bytes : List ℕ = take c.regs-regs.result.y c.read_bytes.new.self.buffer.items in
    let passed : user_bytes (cells_at m p) (regs_at m p).u (regs_at m p).y ≡ Some bytes = ap
    (λ (r : Regs). user_bytes (cells_at m p) r.u r.y) (sym regs_are) ∙ c.if-not-read_bytes.ensures.read m stood in
    let number = c.in_err-id.field-0.0 in
    let gave = err_from_is_err_and c.from_residual.result c.from_residual.ensures.1 in
    let unfound : IsUnfound m.memory.modules (regs_at m p).a (module_name c.read_name-name.result) number = subst
    (λ (r : Regs). IsUnfound m.memory.modules r.a (module_name c.read_name-name.result) number) regs_are
    (subst (λ (read : Option (List ℕ)). IsUnfound m.memory.modules c.regs-regs.result.a read number)
    c.module_name.ensures (c.in_err-id.ensures.found m.memory after.memory)) in
    rw (gave.1, gave.2) (read-unfound m p c.read_name-name.result name there bytes passed number unfound)

pub returns-clause-read : goal.returns-clause-read
returns-clause-read c m tied =
    let p = c.args.p.0 in
    let regs = c.regs-regs.result in
    let regs_are = c.regs-regs.ensures.tied m tied in
    let name = name-is m p _ _ regs_are (c.read_name-name.ensures.name m.memory tied.memory) in
    let there = sym c.is_unreadable.ensures ∙ c.if-is_unreadable.false in
    let stood = read-stands c.args.s.now _ c.read_name-name.ensures.same refl refl refl refl m tied in
    let after = c.read_bytes.ensures.same.represents m stood in
    let buffer : List ℕ = c.read_bytes.new.self.buffer.items in
    let bytes : List ℕ = take regs.y buffer in
    let passed : user_bytes (cells_at m p) (regs_at m p).u (regs_at m p).y ≡ Some bytes = ap
    (λ (r : Regs). user_bytes (cells_at m p) r.u r.y) (sym regs_are) ∙ c.if-not-read_bytes.ensures.read m stood in
    let found : IsProgramFound m.memory.modules (regs_at m p).a (module_name c.read_name-name.result) c.in_ok-id.id.0
    c.in_ok-id.count = subst (λ (r : Regs). IsProgramFound m.memory.modules r.a (module_name c.read_name-name.result)
    c.in_ok-id.id.0 c.in_ok-id.count) regs_are (subst (λ (read : Option (List ℕ)). IsProgramFound m.memory.modules regs.a
    read c.in_ok-id.id.0 c.in_ok-id.count) c.module_name.ensures (c.in_ok-id.ensures.found m.memory after.memory))
    in
    let long : length bytes ≡ regs.y = length-take-le regs.y buffer (omega arith) in
    read-found m p c.read_name-name.result name there bytes passed _ buffer
    (subst (IsProgramFound m.memory.modules (regs_at m p).a (module_name c.read_name-name.result) c.in_ok-id.id.0)
    (sym c.from.ensures) found)
    (λ entry is.
    let info_is : entry.info ≡ c.info-info.result = same_Some _ _ (sym (ap (option_map (λ (e : ModuleEntry). e.info)) is) ∙ c.info-info.ensures.tied m.memory after.memory) in
    c.area_pages.ensures.pages entry (ap (λ (i : ModuleInfo). i.storage) info_is)
    ∙ (λ i. area_pages entry (regs_are i).b (sym long i)))
    refl
