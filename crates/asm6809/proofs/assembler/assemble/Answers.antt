-- The lines that were read are those of the source.
use Rattle.std.proofs.Common.{◌≡◌, Some, None, map}
use Rattle.asm_model.specs.Placement.{fault_from, reached_from, start}
use Rattle.asm_lines.specs.Labels.{IsReached, fault_said}
use Rattle.asm_lines.specs.Lines.{line_said}
use Rattle.asm6809.specs.Assembled.{module_of}
use Rattle.asm6809.proofs.AssembleLemmas.{outcome-fault, outcome-made, outcome-none}
use Rattle.asm6809.proofs.LawLemmas.{assembled}
use Rattle.asm6809.proofs.assembler.assemble.Goals as goal

pub returns-in-Some-clause-line : goal.returns-in-Some-clause-line
returns-in-Some-clause-line c =
    let lines = map line_said c.in_ok-lines.lines.items in
    let reached : IsReached c.in_ok-all.all (reached_from start lines) = rw c.deref.ensures.value at c.in_ok-all.ensures in
    let found : Some (fault_said c.in-Some.fault) ≡ fault_from (reached_from start lines) start 1 lines =
    rw (c.in-Some.is, c.deref-2.ensures.value) at (c.in_ok-fault.ensures (reached_from start lines) reached) in
    outcome-fault c.args.source.now lines c.in_ok-lines.ensures (fault_said c.in-Some.fault) found

pub returns-in-Some-2-clause-bytes : goal.returns-in-Some-2-clause-bytes
returns-in-Some-2-clause-bytes c =
    let lines = map line_said c.in_ok-lines.lines.items in
    let reached : IsReached c.in_ok-all.all (reached_from start lines) = rw c.deref.ensures.value at c.in_ok-all.ensures in
    let right : None ≡ fault_from (reached_from start lines) start 1 lines =
    rw (c.in_default.is, c.deref-2.ensures.value) at (c.in_ok-fault.ensures (reached_from start lines) reached) in
    let makes : Some c.in-Some-2.bytes.items ≡ module_of (reached_from start lines) lines =
    rw (c.in-Some-2.is, c.deref-3.ensures.value) at (c.in_ok-bytes.ensures (reached_from start lines) reached) in
    outcome-made c.args.source.now lines c.in_ok-lines.ensures c.in-Some-2.bytes.items right makes

pub returns-in-Some-2-clause-law : goal.returns-in-Some-2-clause-law
returns-in-Some-2-clause-law c =
    let lines = map line_said c.in_ok-lines.lines.items in
    let reached : IsReached c.in_ok-all.all (reached_from start lines) = rw c.deref.ensures.value at c.in_ok-all.ensures in
    let right : None ≡ fault_from (reached_from start lines) start 1 lines =
    rw (c.in_default.is, c.deref-2.ensures.value) at (c.in_ok-fault.ensures (reached_from start lines) reached) in
    let makes : Some c.in-Some-2.bytes.items ≡ module_of (reached_from start lines) lines =
    rw (c.in-Some-2.is, c.deref-3.ensures.value) at (c.in_ok-bytes.ensures (reached_from start lines) reached) in
    assembled c.args.source.now c.in-Some-2.bytes.items (outcome-made c.args.source.now lines c.in_ok-lines.ensures c.in-Some-2.bytes.items right makes)

pub returns-clause-line : goal.returns-clause-line
returns-clause-line c =
    let lines = map line_said c.in_ok-lines.lines.items in
    let reached : IsReached c.in_ok-all.all (reached_from start lines) = rw c.deref.ensures.value at c.in_ok-all.ensures in
    let right : None ≡ fault_from (reached_from start lines) start 1 lines =
    rw (c.in_default.is, c.deref-2.ensures.value) at (c.in_ok-fault.ensures (reached_from start lines) reached) in
    let makes : None ≡ module_of (reached_from start lines) lines =
    rw (c.in-None.is, c.deref-3.ensures.value) at (c.in_ok-bytes.ensures (reached_from start lines) reached) in
    outcome-none c.args.source.now lines c.in_ok-lines.ensures right makes
