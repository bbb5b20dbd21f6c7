use Rattle.std.proofs.Common.{rules}
use Rattle.boot_run.specs.World.{world_of}
use Rattle.console_run.specs.Texts.{FitsTexts, GiveSession}
use Rattle.os9_console.proofs.RecordLemmas.{record-written, script-failed, script-memory, script-unnoted, silent-output, silent-then, slices-failed, slices-memory, slices-unnoted}
use Rattle.os9_console.proofs.record.write_record.Goals as goal

pub returns-in-Err-Failed-clause-recorded : goal.returns-in-Err-Failed-clause-recorded
returns-in-Err-Failed-clause-recorded g c devices =
    let boot = c.args.boot.now in
    let typed = c.args.typed.now in
    let fits : FitsTexts typed = search rules in
    let give : GiveSession typed c.as_slice.result.now c.in-Ok.record.slices.items = rw c.as_slice.ensures.value c.in-Ok.ensures in
    let before = world_of g.H.Host c.args.host.now devices in
    let mid = world_of g.H.Host c.write_output.new.host devices in
    script-failed boot typed _ c.as_slice.result.now c.in-Ok.record.slices.items (cc) fits give before mid (rw c.in-Err-Failed.field-0-is at (c.in-Err-Failed.ensures.wrote devices))

pub returns-in-Err-Failed-clause-silent : goal.returns-in-Err-Failed-clause-silent
returns-in-Err-Failed-clause-silent g c devices =
    silent-output _ _ _ _ _ (c.in-Err-Failed.ensures.wrote devices)

pub returns-in-Err-OutOfMemory-clause-recorded : goal.returns-in-Err-OutOfMemory-clause-recorded
returns-in-Err-OutOfMemory-clause-recorded g c devices =
    let boot = c.args.boot.now in
    let typed = c.args.typed.now in
    let fits : FitsTexts typed = search rules in
    let give : GiveSession typed c.as_slice.result.now c.in-Ok.record.slices.items = rw c.as_slice.ensures.value c.in-Ok.ensures in
    let before = world_of g.H.Host c.args.host.now devices in
    let mid = world_of g.H.Host c.write_output.new.host devices in
    script-memory boot typed _ c.as_slice.result.now c.in-Ok.record.slices.items (cc) fits give before mid (rw c.in-Err-OutOfMemory.field-0-is at (c.in-Err-OutOfMemory.ensures.wrote devices))

pub returns-in-Err-OutOfMemory-clause-silent : goal.returns-in-Err-OutOfMemory-clause-silent
returns-in-Err-OutOfMemory-clause-silent g c devices =
    silent-output _ _ _ _ _ (c.in-Err-OutOfMemory.ensures.wrote devices)

pub returns-in-Err-OutOfMemory-clause-noted : goal.returns-in-Err-OutOfMemory-clause-noted
returns-in-Err-OutOfMemory-clause-noted g c =
    script-unnoted c.args.boot.now _ _ _ (cc) (rw c.in-Err-OutOfMemory.field-0-is at c.in-Err-OutOfMemory.ensures.noted)

pub returns-in-Ok-write_output-2-clause-recorded : goal.returns-in-Ok-write_output-2-clause-recorded
returns-in-Ok-write_output-2-clause-recorded g c devices =
    let boot = c.args.boot.now in
    let typed = c.args.typed.now in
    let fits : FitsTexts typed = search rules in
    let give : GiveSession typed c.as_slice.result.now c.as_slice-2.result.now = rw (c.as_slice.ensures.value, c.as_slice-2.ensures.value) c.in-Ok.ensures in
    let before = world_of g.H.Host c.args.host.now devices in
    let mid = world_of g.H.Host c.write_output.new.host devices in
    let after = world_of g.H.Host c.write_output-2.new.host devices in
    record-written boot typed _ c.as_slice.result.now c.as_slice-2.result.now (cc) fits give _ _ before mid after
    (c.in-Ok-write_output.ensures.wrote devices) (c.in-Ok-write_output-2.ensures.wrote devices)

pub returns-in-Ok-write_output-2-clause-silent : goal.returns-in-Ok-write_output-2-clause-silent
returns-in-Ok-write_output-2-clause-silent g c devices =
    silent-then _ _ _ (silent-output _ _ _ _ _ (c.in-Ok-write_output.ensures.wrote devices)) (silent-output _ _ _ _ _ (c.in-Ok-write_output-2.ensures.wrote devices))

pub returns-in-Err-Failed-write_output-clause-recorded : goal.returns-in-Err-Failed-write_output-clause-recorded
returns-in-Err-Failed-write_output-clause-recorded g c devices =
    let boot = c.args.boot.now in
    let typed = c.args.typed.now in
    let fits : FitsTexts typed = search rules in
    let give : GiveSession typed c.as_slice.result.now c.as_slice-2.result.now = rw (c.as_slice.ensures.value, c.as_slice-2.ensures.value) c.in-Ok.ensures in
    let before = world_of g.H.Host c.args.host.now devices in
    let mid = world_of g.H.Host c.write_output.new.host devices in
    let after = world_of g.H.Host c.write_output-2.new.host devices in
    slices-failed boot typed _ c.as_slice.result.now c.as_slice-2.result.now (cc) fits give _ before mid after
    (c.in-Ok-write_output.ensures.wrote devices) (rw c.in-Err-Failed-write_output.field-0-is at
    (c.in-Err-Failed-write_output.ensures.wrote devices))

pub returns-in-Err-Failed-write_output-clause-silent : goal.returns-in-Err-Failed-write_output-clause-silent
returns-in-Err-Failed-write_output-clause-silent g c devices =
    silent-then _ _ _ (silent-output _ _ _ _ _ (c.in-Ok-write_output.ensures.wrote devices)) (silent-output _ _ _ _ _ (c.in-Err-Failed-write_output.ensures.wrote devices))

pub returns-clause-recorded : goal.returns-clause-recorded
returns-clause-recorded g c devices =
    let boot = c.args.boot.now in
    let typed = c.args.typed.now in
    let fits : FitsTexts typed = search rules in
    let give : GiveSession typed c.as_slice.result.now c.as_slice-2.result.now = rw (c.as_slice.ensures.value, c.as_slice-2.ensures.value) c.in-Ok.ensures in
    let before = world_of g.H.Host c.args.host.now devices in
    let mid = world_of g.H.Host c.write_output.new.host devices in
    let after = world_of g.H.Host c.write_output-2.new.host devices in
    slices-memory boot typed _ c.as_slice.result.now c.as_slice-2.result.now (cc) fits give _ before mid after
    (c.in-Ok-write_output.ensures.wrote devices) (rw c.in-Err-OutOfMemory-write_output.field-0-is at
    (c.in-Err-OutOfMemory-write_output.ensures.wrote devices))

pub returns-clause-silent : goal.returns-clause-silent
returns-clause-silent g c devices =
    silent-then _ _ _ (silent-output _ _ _ _ _ (c.in-Ok-write_output.ensures.wrote devices)) (silent-output _ _ _ _ _ (c.in-Err-OutOfMemory-write_output.ensures.wrote devices))

pub returns-clause-noted : goal.returns-clause-noted
returns-clause-noted g c =
    slices-unnoted c.args.boot.now _ _ _ _ (cc) c.in-Ok-write_output.ensures.noted (rw c.in-Err-OutOfMemory-write_output.field-0-is at c.in-Err-OutOfMemory-write_output.ensures.noted)
