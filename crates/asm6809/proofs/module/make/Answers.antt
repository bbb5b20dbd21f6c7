-- Each part is that of the module, or there is none.
use Rattle.std.proofs.Common.{◌≡◌, ◌∙◌}
use Rattle.module_format.specs.declared.maker.Header.{Header}
use Rattle.asm_lines.specs.Lines.{fields_said}
use Rattle.asm6809.specs.Assembled.{header_with}
use Rattle.asm6809.proofs.BytesLemmas.{byte-same, word-same}
use Rattle.asm6809.proofs.MakeLemmas.{begins-within, is-made, no-entry}
use Rattle.asm6809.proofs.module.make.Goals as goal

pub returns-in_default-entry_of : goal.returns-in_default-entry_of
returns-in_default-entry_of c = λ m reached.
    no-entry m (fields_said c.args.fields) c.args.code.now c.in-Some.name c.kind_of-kind.result c.in-Some.ensures
    c.kind_of-kind.ensures c.in-Some-crc_offset.end c.in-Some-crc_offset.ensures.offset
    (c.in_default-entry_of.ensures.entry m reached)

pub module_with-requires-clause-begins : goal.module_with-requires-clause-begins
module_with-requires-clause-begins c =
    begins-within c.in-Some.name c.kind_of-kind.result c.args.code.now c.in-Some-crc_offset.end c.in-Some-entry_of.entry
    c.in-Some-crc_offset.ensures.offset c.in-Some-entry_of.ensures.within

pub returns : goal.returns
returns c = λ m reached.
    let labels = c.args.all.now.labels in
    let kind_is = c.kind_of-kind.ensures in
    let attr_is = c.byte_at.ensures ∙ byte-same labels m 0 reached.labels c.args.fields.attributes.now in
    let storage_is = c.word_at.ensures ∙ word-same labels m 0 reached.labels c.args.fields.storage.now in
    let head : Header = record {
      kind = c.kind_of-kind.result;
      attr = c.byte_at.result;
      entry = c.in-Some-entry_of.entry;
      storage = c.word_at.result;
    } in
    let head_is : head ≡ header_with m (fields_said c.args.fields) c.in-Some-entry_of.entry =
    λ i. record { kind = kind_is i; attr = attr_is i; entry = c.in-Some-entry_of.entry; storage = storage_is i } in
    is-made m (fields_said c.args.fields) c.args.code.now c.in-Some.name c.kind_of-kind.result c.in-Some.ensures kind_is
    c.in-Some-crc_offset.end c.in-Some-crc_offset.ensures.offset c.in-Some-entry_of.entry (c.in-Some-entry_of.ensures.entry m reached)
    c.in_ok-module_with.field-0.items head c.in_ok-module_with.ensures.bytes head_is
