-- The file is put in the first place of its name, or at the end where there is none.
use Rattle.std.proofs.Common.{sym, ap, ◌∙◌, Some}
use Rattle.os9_outer.proofs.Files.{name-at_position, file_named-set, file_named-set_other, file_named-push, file_named-push_other}
use Rattle.os9_outer.specs.declared.host_file.HostFile.{HostFile}
use Rattle.os9_outer.specs.HostFile.{file_named, is_named}
use Rattle.std.proofs.Common.{position}
use Rattle.os9_outer.proofs.host_file.put_file.Goals as goal

pub returns-in-Some-clause-written : goal.returns-in-Some-clause-written
returns-in-Some-clause-written c =
    let files = c.args.files.now.items in
    let name = c.args.name.now in
    let old = c.index_mut.result.now in
    let place = ap (position (is_named name)) (sym c.deref.ensures.value) ∙ sym c.in-Some.ensures in
    let named = name-at_position files name c.in-Some.place old place c.index_mut.ensures.value in
    file_named-set files name c.in-Some.place (record { name = old.name; bytes = c.in_ok-bytes.bytes }) place named
    ∙ ap Some c.in_ok-bytes.ensures.items

pub returns-in-Some-clause-others_kept : goal.returns-in-Some-clause-others_kept
returns-in-Some-clause-others_kept c other differs =
    let files = c.args.files.now.items in
    let name = c.args.name.now in
    let old = c.index_mut.result.now in
    let place = ap (position (is_named name)) (sym c.deref.ensures.value) ∙ sym c.in-Some.ensures in
    let named = name-at_position files name c.in-Some.place old place c.index_mut.ensures.value in
    file_named-set_other files name other c.in-Some.place old (record { name = old.name; bytes = c.in_ok-bytes.bytes }) c.index_mut.ensures.value named named differs

pub returns-in_ok-push-in-None-clause-written : goal.returns-in_ok-push-in-None-clause-written
returns-in_ok-push-in-None-clause-written c =
    let files = c.args.files.now.items in
    let name = c.args.name.now in
    let none = ap (position (is_named name)) (sym c.deref.ensures.value) ∙ sym c.in-None.ensures in
    let new : HostFile = record { name = c.in_ok-name-in-None.name; bytes = c.in_ok-bytes.bytes } in
    ap (λ now. file_named now name) c.in_ok-push-in-None.ensures.items
    ∙ file_named-push files name new none c.in_ok-name-in-None.ensures.ok
    ∙ ap Some c.in_ok-bytes.ensures.items

pub returns-in_ok-push-in-None-clause-others_kept :
    goal.returns-in_ok-push-in-None-clause-others_kept
returns-in_ok-push-in-None-clause-others_kept c other differs =
    let files = c.args.files.now.items in
    let name = c.args.name.now in
    let new : HostFile = record { name = c.in_ok-name-in-None.name; bytes = c.in_ok-bytes.bytes } in
    ap (λ now. file_named now other) c.in_ok-push-in-None.ensures.items
    ∙ file_named-push_other files name other new c.in_ok-name-in-None.ensures.ok differs
