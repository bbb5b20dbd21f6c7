use Rattle.std.proofs.Common.{sym}
use Rattle.proc_model.specs.Memory.{first_memory}
use Rattle.proc_model.specs.Loading.{no_entries}
use Rattle.machine_model.specs.ProcessStart.{boot_memory}
use Rattle.cold_start.specs.Booting.{with_boot_module}
use Rattle.cold_start.proofs.Entering.{never-full, begins-boot}
use Rattle.cold_start.proofs.Seen.{refusal-seen}
use Rattle.cold_start.proofs.boot.enter_first.Goals as goal

pub enter-requires-clause-accepted : goal.enter-requires-clause-accepted
enter-requires-clause-accepted c =
    let (blocks, least, tied) = c.requires.empty in
    sym (refusal-seen c.args.memory.now (first_memory blocks) tied c.args.info)

pub unreachable-requires : goal.unreachable-requires
unreachable-requires c =
    never-full c.args.memory.now c.enter.new.self c.args.boot.now c.args.info c.requires.short c.requires.empty c.enter.result c.enter.ensures.enters c.in-Err.field-0 c.in-Err.is

pub returns-clause-entered : goal.returns-clause-entered
returns-clause-entered c = λ blocks tied.
    begins-boot c.args.memory.now c.enter.new.self c.args.boot.now c.args.info c.requires.short c.requires.empty c.enter.result c.enter.ensures.enters c.in-Ok.id.0 blocks tied c.in-Ok.ensures.number

pub returns-clause-booting : goal.returns-clause-booting
returns-clause-booting c =
    let (blocks, least, tied) = c.requires.empty in
    let begins = begins-boot c.args.memory.now c.enter.new.self c.args.boot.now c.args.info c.requires.short
    c.requires.empty c.enter.result c.enter.ensures.enters c.in-Ok.id.0 blocks tied c.in-Ok.ensures.number in
    (with_boot_module c.args.boot.now (boot_memory c.args.boot.now blocks no_entries) c.args.info, begins.represents, begins.has)
