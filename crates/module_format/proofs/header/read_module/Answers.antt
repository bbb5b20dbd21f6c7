use Rattle.std.proofs.Common.{◌≡◌, ℕ, None, rules, subst, sym, take}
use Rattle.proc_model.specs.CrcModel.{crc_register}
use Rattle.proc_model.specs.Module.{module_fault, module_size, IsModule}
use Rattle.proc_model.proofs.ModuleLaws.{IsModule-take, residue_of_module}
use Rattle.module_format.proofs.header.read_module.Goals as goal

pub returns-clause-module : goal.returns-clause-module
returns-clause-module c =
    let bytes = c.args.bytes.now in
    let kept : module_fault bytes ≡ None = search rules in
    let size : c.in_ok-info.info.size ≡ module_size bytes = search rules in
    let P : ℕ → Type 0 = λ n. IsModule (take n bytes) in
    subst P (sym size) (IsModule-take bytes kept)

pub returns-clause-residue : goal.returns-clause-residue
returns-clause-residue c =
    let bytes = c.args.bytes.now in
    let kept : module_fault bytes ≡ None = search rules in
    let size : c.in_ok-info.info.size ≡ module_size bytes = search rules in
    let P : ℕ → Type 0 = λ n. crc_register 0xFFFFFF (take n bytes) ≡ 0x800FE3 in
    subst P (sym size) (residue_of_module bytes (λ i. (c.type_inv.bytes i).fits) kept)
