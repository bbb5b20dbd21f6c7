-- Each step is one of the call.
use Rattle.std.proofs.Common.{[], refl, subst}
use Rattle.boot_run.specs.World.{world_of}
use Rattle.os9_boot.specs.Asm.{MakesModule, asm_file_name}
use Rattle.os9_boot.specs.AsmSteps.{RefusesSource, WritesAsmOut}
use Rattle.os9_boot.proofs.AsmCallLemmas.{module-written, read-ended, source-refused}
use Rattle.os9_boot.proofs.AsmNoteLemmas.{notes-refused, notes-stopped, notes-written}
use Rattle.os9_boot.proofs.asm.do_asm.Goals as goal

-- ---- the call

pub returns-in-Err-clause-call : goal.returns-in-Err-clause-call
returns-in-Err-clause-call g c devices =
    read-ended c.args.asm.now (λ devices. world_of g.H.Host c.args.host.now devices) (λ devices. world_of g.H.Host c.read_input.new.host devices) c.in-Err.end c.in-Err.ensures.ended devices

pub returns-clause-call : goal.returns-clause-call
returns-clause-call g c devices =
    source-refused c.args.asm.now c.in-Ok.source.items _ _ c.in-Ok.ensures.contents (c.in-Ok.ensures.kept devices) c.in-Err-make_module.end
    (subst (λ source. RefusesSource source c.in-Err-make_module.end) c.deref.ensures.value c.in-Err-make_module.ensures.refused)

pub returns-in-Ok-make_module-clause-call : goal.returns-in-Ok-make_module-clause-call
returns-in-Ok-make_module-clause-call g c devices =
    module-written c.args.asm.now c.in-Ok.source.items _ _ c.in-Ok.ensures.contents (c.in-Ok.ensures.kept devices) c.in-Ok-make_module.module.items
    (subst (λ source. MakesModule source c.in-Ok-make_module.module.items) c.deref.ensures.value c.in-Ok-make_module.ensures.made) _ c.write_module.result
    (subst (λ bytes. WritesAsmOut c.args.asm.now bytes c.write_module.result (world_of g.H.Host c.read_input.new.host
    devices) (world_of g.H.Host c.write_module.new.host devices)) c.deref-in-Ok-make_module.ensures.value
    (c.write_module.ensures.wrote devices))

-- ---- the names

pub returns-in-Err-clause-noted : goal.returns-in-Err-clause-noted
returns-in-Err-clause-noted g c =
    notes-stopped c.args.asm.now c.in-Err.end _ _ (c.in-Err.ensures.stopped (asm_file_name c.args.asm.now) refl)

pub returns-clause-noted : goal.returns-clause-noted
returns-clause-noted g c =
    notes-refused c.args.asm.now _ _ c.in-Ok.ensures.noted _ c.in-Err-make_module.end c.in-Err-make_module.ensures.refused

pub returns-in-Ok-make_module-clause-noted : goal.returns-in-Ok-make_module-clause-noted
returns-in-Ok-make_module-clause-noted g c =
    notes-written c.args.asm.now _ _ c.in-Ok.ensures.noted _ c.write_module.result _ _ _ (c.write_module.ensures.wrote (record { drives = []; terms = [] })) c.write_module.ensures.noted
