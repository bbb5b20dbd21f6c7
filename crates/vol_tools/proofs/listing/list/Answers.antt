-- The path leads to a directory, whose entries are read, and the file of each.
use Rattle.std.proofs.Common.{ℕ, List, [], drop, None, Ok, Err, refl, sym, ap, ◌∙◌, option_map}
use Rattle.std.proofs.lemmas.Result.{err_from_is_err_and}
use Rattle.vol_tools.specs.Numbers.{reading_number}
use Rattle.vol_tools.specs.Tool.{list as list_tool}
use Rattle.rbf_model.specs.Walk.{directory_entries}
use Rattle.vol_tools.specs.Listed.{lines_of}
use Rattle.vol_tools.specs.Opening.{IsOpenedFile, is_of_kind}
use Rattle.vol_tools.specs.declared.opening.Opened.{Opened}
use Rattle.vol_tools.specs.declared.opening.Kind.TheVariants.{Directory}
use Rattle.vol_tools.proofs.Counts.{faults_then, no_faults, same_faults}
use Rattle.vol_tools.proofs.Opened.{error_bytes, refused_reading, opening_as, opening_ended, reading_ended, listed, has_listing, last_reads}
use Rattle.vol_tools.proofs.Ways.{still}
use Rattle.vol_tools.proofs.listing.list.Goals as goal

pub returns-in_err-names-clause-answer : goal.returns-in_err-names-clause-answer
returns-in_err-names-clause-answer g c now v on =
    let p = err_from_is_err_and c.from_residual.result c.from_residual.ensures.1 in
    rw (p.1, p.2) refl

pub returns-in_err-names-clause-fault : goal.returns-in_err-names-clause-fault
returns-in_err-names-clause-fault g c =
    let p = err_from_is_err_and c.from_residual.result c.from_residual.ensures.1 in
    rw (p.1, p.2) (no_faults _)

pub returns-in_default-clause-answer : goal.returns-in_default-clause-answer
returns-in_default-clause-answer g c now v on =
    refused_reading (record { tool = list_tool c.args.path.now; now = now }) v _ on _ _ refl
    (ap (reading_number v (is_of_kind Directory)) (sym c.in_ok-names.ensures ∙ ap (option_map (λ names. names.items)) c.in_default.is))

pub returns-in_default-clause-fault : goal.returns-in_default-clause-fault
returns-in_default-clause-fault g c = no_faults _

pub returns-in_err-opened-clause-answer : goal.returns-in_err-opened-clause-answer
returns-in_err-opened-clause-answer g c now v on =
    let p = err_from_is_err_and c.from_residual-in_err-opened.result c.from_residual-in_err-opened.ensures.1 in
    rw (p.1, p.2)
    (opening_ended (Unit {0}) (λ _. []) (record { tool = list_tool c.args.path.now; now = now }) v _ on _ _ Directory c.in_err-opened.field-0.0 c.in_err-opened.ensures.media_kept
    (ap (reading_number v (is_of_kind Directory)) (sym c.in_ok-names.ensures ∙ ap (option_map (λ names. names.items))
    c.in-Some.is)) (opening_as v _ _ Directory (Err c.in_err-opened.field-0.0) c.deref.ensures.value
    (c.in_err-opened.ensures.answer v on)))

pub returns-in_err-contents-clause-answer : goal.returns-in_err-contents-clause-answer
returns-in_err-contents-clause-answer g c now v on =
    let p = err_from_is_err_and c.from_residual-in_err-contents.result c.from_residual-in_err-contents.ensures.1 in
    let it : IsOpenedFile v c.in-Some.names.items Directory c.in_ok-opened.opened = opening_as v _ _ Directory (Ok c.in_ok-opened.opened) c.deref.ensures.value (c.in_ok-opened.ensures.answer v on) in
    let here = still _ _ v c.in_ok-opened.ensures.media_kept on in
    rw (p.1, p.2)
    (reading_ended (Unit {0}) (λ _. []) (record { tool = list_tool c.args.path.now; now = now }) v _ on _ (Unit {0})
    (λ _. Unit {0}) c.in_err-contents.field-0.0 (c.in_err-contents.ensures.media_kept ∙
    c.in_ok-opened.ensures.media_kept)
    (error_bytes (Unit {0}) (Unit {0}) (λ _. Unit {0}) (λ _. Unit {0}) c.in_err-contents.field-0.0 (c.in_err-contents.ensures.bytes v it.file here it.there)))

pub returns-in_err-contents-clause-fault : goal.returns-in_err-contents-clause-fault
returns-in_err-contents-clause-fault g c =
    let p = err_from_is_err_and c.from_residual-in_err-contents.result c.from_residual-in_err-contents.ensures.1 in
    rw (p.1, p.2) (faults_then _ _ _ _ c.in_ok-opened.ensures.fault (same_faults (Unit {0}) (Unit {0}) c.in_err-contents.field-0.0 _ _ c.in_err-contents.ensures.fault))

pub entry_lines-requires-clause-directory : goal.entry_lines-requires-clause-directory
entry_lines-requires-clause-directory g c =
    let v = c.requires.content in
    let on = c.requires.on in
    let it : IsOpenedFile v c.in-Some.names.items Directory c.in_ok-opened.opened = opening_as v _ _ Directory (Ok c.in_ok-opened.opened) c.deref.ensures.value (c.in_ok-opened.ensures.answer v on) in
    let here = still _ _ v c.in_ok-opened.ensures.media_kept on in
    has_listing _ _ v on (c.in_ok-contents.ensures.media_kept ∙ c.in_ok-opened.ensures.media_kept) _ c.in_ok-opened.opened it _
    (c.deref-2.ensures.value ∙ c.in_ok-contents.ensures.bytes v it.file here it.there)

pub returns-clause-answer : goal.returns-clause-answer
returns-clause-answer g c now v on =
    let it : IsOpenedFile v c.in-Some.names.items Directory c.in_ok-opened.opened = opening_as v _ _ Directory (Ok c.in_ok-opened.opened) c.deref.ensures.value (c.in_ok-opened.ensures.answer v on) in
    let here = still _ _ v c.in_ok-opened.ensures.media_kept on in
    let there = still _ _ v (c.in_ok-contents.ensures.media_kept ∙ c.in_ok-opened.ensures.media_kept) on in
    let are = sym c.in_ok-names.ensures ∙ ap (option_map (λ names. names.items)) c.in-Some.is in
    let kept = c.entry_lines.ensures.media_kept ∙ c.in_ok-contents.ensures.media_kept ∙ c.in_ok-opened.ensures.media_kept in
    last_reads _ _ (record { tool = list_tool c.args.path.now; now = now }) v _ _ _ on kept
    (λ lines same. listed v c.args.path.now now _ _ _ kept on are c.in_ok-opened.opened it _
    (same ∙ ap (λ xs. lines_of v (drop 2 (directory_entries xs)))
    (c.deref-2.ensures.value ∙ c.in_ok-contents.ensures.bytes v it.file here it.there)))
    _ (c.entry_lines.ensures.lines v there)

pub returns-clause-fault : goal.returns-clause-fault
returns-clause-fault g c = faults_then _ _ _ _ (faults_then None _ _ _ c.in_ok-opened.ensures.fault c.in_ok-contents.ensures.fault) c.entry_lines.ensures.fault

pub returns-in_err-opened-clause-fault : goal.returns-in_err-opened-clause-fault
returns-in_err-opened-clause-fault g c =
    let p = err_from_is_err_and c.from_residual-in_err-opened.result c.from_residual-in_err-opened.ensures.1 in
    rw (p.1, p.2) (same_faults Opened (Unit {0}) c.in_err-opened.field-0.0 _ _ c.in_err-opened.ensures.fault)
