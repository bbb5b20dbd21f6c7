use Rattle.std.proofs.Common.{◌∙◌, ◌+◌, ◌*◌, ◌≤◌, ap, length, None, Some, arith}
use Rattle.rbf_sector_rules.specs.Reading.{listed}
use Rattle.rbf_check.proofs.Keyed.{is_free, is_entry, name_is, named_past, no_name, name_dot, name_dot_dot, named_or_not}
use Rattle.rbf_check.proofs.entries.add_name.Goals as goal

pub returns-then-entry-eq0 : goal.returns-then-entry-eq0
returns-then-entry-eq0 c =
    let contents = listed c.args.image.now c.args.dir.now.number in
    named_past contents c.args.keys.now c.args.i c.requires.after c.requires.named
    (λ entry. is_free contents c.entry_bytes.result c.read_entry-entry.result.name c.args.i c.entry_bytes.ensures
    c.read_entry-entry.ensures.name c.if-entry-eq0.true entry)

pub returns-in_default : goal.returns-in_default
returns-in_default c =
    let contents = listed c.args.image.now c.args.dir.now.number in
    let within : 32 * (c.args.i + 1) ≤ length contents = omega (arith, c.requires.directory.entries, c.requires.within) in
    let entry = is_entry contents c.entry_bytes.result c.read_entry-entry.result.name c.args.i c.entry_bytes.ensures c.read_entry-entry.ensures.name within c.if-entry-eq0.false in
    no_name contents c.args.keys.now c.args.i c.requires.after c.requires.named entry
    (name_is contents c.entry_bytes.result c.read_entry-entry.result.name c.args.i c.entry_bytes.ensures
    c.read_entry-entry.ensures.name None c.in_default.ensures)

pub returns-then-is_text : goal.returns-then-is_text
returns-then-is_text c =
    let contents = listed c.args.image.now c.args.dir.now.number in
    let within : 32 * (c.args.i + 1) ≤ length contents = omega (arith, c.requires.directory.entries, c.requires.within) in
    let entry = is_entry contents c.entry_bytes.result c.read_entry-entry.result.name c.args.i c.entry_bytes.ensures c.read_entry-entry.ensures.name within c.if-entry-eq0.false in
    let named = name_is contents c.entry_bytes.result c.read_entry-entry.result.name c.args.i c.entry_bytes.ensures c.read_entry-entry.ensures.name (Some c.in-Ok.name) c.in-Ok.ensures in
    name_dot contents c.args.keys.now c.args.i c.requires.after c.requires.named entry (named ∙ ap Some c.if-is_text.ensures)

pub returns-then-is_text-2 : goal.returns-then-is_text-2
returns-then-is_text-2 c =
    let contents = listed c.args.image.now c.args.dir.now.number in
    let within : 32 * (c.args.i + 1) ≤ length contents = omega (arith, c.requires.directory.entries, c.requires.within) in
    let entry = is_entry contents c.entry_bytes.result c.read_entry-entry.result.name c.args.i c.entry_bytes.ensures c.read_entry-entry.ensures.name within c.if-entry-eq0.false in
    let named = name_is contents c.entry_bytes.result c.read_entry-entry.result.name c.args.i c.entry_bytes.ensures c.read_entry-entry.ensures.name (Some c.in-Ok.name) c.in-Ok.ensures in
    name_dot_dot contents c.args.keys.now c.args.i c.requires.after c.requires.named entry (named ∙ ap Some c.if-is_text-2.ensures)

pub returns : goal.returns
returns c =
    let contents = listed c.args.image.now c.args.dir.now.number in
    let within : 32 * (c.args.i + 1) ≤ length contents = omega (arith, c.requires.directory.entries, c.requires.within) in
    let entry = is_entry contents c.entry_bytes.result c.read_entry-entry.result.name c.args.i c.entry_bytes.ensures c.read_entry-entry.ensures.name within c.if-entry-eq0.false in
    let named = name_is contents c.entry_bytes.result c.read_entry-entry.result.name c.args.i c.entry_bytes.ensures c.read_entry-entry.ensures.name (Some c.in-Ok.name) c.in-Ok.ensures in
    named_or_not contents c.args.keys.now c.args.i c.requires.after c.requires.named entry c.in-Ok.name
    c.key_of.result named c.key_of.ensures c.add_key.new.keys c.in_ok-fresh.fresh
    (record { not_self = λ e. c.if-is_text.ensures e; not_parent = λ e. c.if-is_text-2.ensures e })
    c.in_ok-fresh.ensures.added c.in_ok-fresh.ensures.fresh
