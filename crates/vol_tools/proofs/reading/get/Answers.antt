-- The path leads to a file, which is read whole.
use Rattle.std.proofs.Common.{ℕ, List, [], Ok, Err, refl, sym, ap, ◌∙◌, option_map}
use Rattle.std.proofs.lemmas.Result.{err_from_is_err_and}
use Rattle.vol_tools.specs.Numbers.{reading_number}
use Rattle.vol_tools.specs.Tool.{get as get_tool}
use Rattle.vol_tools.specs.Opening.{IsOpenedFile, is_of_kind}
use Rattle.vol_tools.specs.declared.opening.Opened.{Opened}
use Rattle.vol_tools.specs.declared.opening.Kind.TheVariants.{File}
use Rattle.vol_tools.proofs.Counts.{faults_then, no_faults, same_faults}
use Rattle.vol_tools.proofs.Opened.{refused_reading, opening_as, opening_ended, got, last_reads}
use Rattle.vol_tools.proofs.Ways.{still}
use Rattle.vol_tools.proofs.reading.get.Goals as goal

pub returns-in_err-names-clause-answer : goal.returns-in_err-names-clause-answer
returns-in_err-names-clause-answer g c now v on =
    let p = err_from_is_err_and c.from_residual.result c.from_residual.ensures.1 in
    rw (p.1, p.2) refl

pub returns-in_err-names-clause-fault : goal.returns-in_err-names-clause-fault
returns-in_err-names-clause-fault g c =
    let p = err_from_is_err_and c.from_residual.result c.from_residual.ensures.1 in
    rw (p.1, p.2) (no_faults _)

pub returns-in_default-clause-answer : goal.returns-in_default-clause-answer
returns-in_default-clause-answer g c now v on =
    refused_reading (record { tool = get_tool c.args.path.now; now = now }) v _ on _ _ refl
    (ap (reading_number v (is_of_kind File)) (sym c.in_ok-names.ensures ∙ ap (option_map (λ names. names.items)) c.in_default.is))

pub returns-in_default-clause-fault : goal.returns-in_default-clause-fault
returns-in_default-clause-fault g c = no_faults _

pub returns-in_err-opened-clause-answer : goal.returns-in_err-opened-clause-answer
returns-in_err-opened-clause-answer g c now v on =
    let p = err_from_is_err_and c.from_residual-in_err-opened.result c.from_residual-in_err-opened.ensures.1 in
    rw (p.1, p.2)
    (opening_ended (Unit {0}) (λ _. []) (record { tool = get_tool c.args.path.now; now = now }) v _ on _ _ File c.in_err-opened.field-0.0 c.in_err-opened.ensures.media_kept
    (ap (reading_number v (is_of_kind File)) (sym c.in_ok-names.ensures ∙ ap (option_map (λ names. names.items))
    c.in-Some.is)) (opening_as v _ _ File (Err c.in_err-opened.field-0.0) c.deref.ensures.value
    (c.in_err-opened.ensures.answer v on)))

pub returns-clause-answer : goal.returns-clause-answer
returns-clause-answer g c now v on =
    let it : IsOpenedFile v c.in-Some.names.items File c.in_ok-opened.opened = opening_as v _ _ File (Ok c.in_ok-opened.opened) c.deref.ensures.value (c.in_ok-opened.ensures.answer v on) in
    let here = still _ _ v c.in_ok-opened.ensures.media_kept on in
    let are = sym c.in_ok-names.ensures ∙ ap (option_map (λ names. names.items)) c.in-Some.is in
    let kept = c.read_whole.ensures.media_kept ∙ c.in_ok-opened.ensures.media_kept in
    last_reads _ _ (record { tool = get_tool c.args.path.now; now = now }) v _ _ _ on kept
    (λ bytes same. got v c.args.path.now now _ _ _ kept on are c.in_ok-opened.opened it _ same) _ (c.read_whole.ensures.bytes v it.file here it.there)

pub returns-clause-fault : goal.returns-clause-fault
returns-clause-fault g c = faults_then _ _ _ _ c.in_ok-opened.ensures.fault c.read_whole.ensures.fault

pub returns-in_err-opened-clause-fault : goal.returns-in_err-opened-clause-fault
returns-in_err-opened-clause-fault g c =
    let p = err_from_is_err_and c.from_residual-in_err-opened.result c.from_residual-in_err-opened.ensures.1 in
    rw (p.1, p.2) (same_faults Opened (Unit {0}) c.in_err-opened.field-0.0 _ _ c.in_err-opened.ensures.fault)
