-- The module's bytes are those of its parts.
use Rattle.std.proofs.Common.{◌≡◌, ◌<◌, arith, append_assoc, subst, sym}
use Rattle.std.proofs.lemmas.Grind.{common_steps}
use Rattle.proc_model.specs.Module.{IsModule, info_at}
use Rattle.module_format.specs.GuestModule.{made_module, made_info}
use Rattle.module_format.proofs.ModuleLemmas.{made_module-is, made_info-is}
use Rattle.module_format.proofs.maker.module_with.Goals as goal

pub returns-clause-module : goal.returns-clause-module
returns-clause-module c =
    let bytes : c.push_crc.new.bytes.items ≡ made_module c.args.name.now c.args.header c.args.code.now = grind (arith, common_steps, append_assoc) in
    let kind_fits : c.args.header.kind < 256 = omega arith in
    let attr_fits : c.args.header.attr < 256 = omega arith in
    subst IsModule (sym bytes) (made_module-is c.args.name.now c.args.header.kind c.args.header.attr
    c.args.header.entry c.args.header.storage c.args.code.now c.push_name.ensures.name c.requires.begins
    c.requires.short kind_fits attr_fits)

pub returns-clause-info : goal.returns-clause-info
returns-clause-info c =
    let bytes : c.push_crc.new.bytes.items ≡ made_module c.args.name.now c.args.header c.args.code.now = grind (arith, common_steps, append_assoc) in
    subst (λ b. info_at 0 b ≡ made_info c.args.name.now c.args.header c.args.code.now) (sym bytes)
    (made_info-is c.args.name.now c.args.header.kind c.args.header.attr c.args.header.entry c.args.header.storage
    c.args.code.now c.push_name.ensures.name)
