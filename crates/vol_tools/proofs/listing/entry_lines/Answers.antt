-- One entry more, and in the end all.
use Rattle.std.proofs.Common.{◌∙◌, arith}
use Rattle.std.proofs.lemmas.Result.{err_from_is_err_and}
use Rattle.vol_tools.proofs.Counts.{faults_then, same_faults}
use Rattle.vol_tools.proofs.Lines.{none_listed, entry_within, entry_names, one_more, all_listed}
use Rattle.vol_tools.proofs.Opened.{error_bytes}
use Rattle.vol_tools.proofs.Ways.{still}
use Rattle.vol_tools.proofs.listing.entry_lines.Goals as goal

pub loop-place-init : goal.loop-place-init
loop-place-init g c = none_listed c.args.contents.now _ _ _ _ c.new-lines.ensures.items c.requires.mounted

pub entry_at-requires : goal.entry_at-requires
entry_at-requires g c = entry_within _ _ c.loop-place.place _ _ _ _ _ c.loop-place.invariant c.loop-place-test.true

pub push_entry-requires-clause-mounted : goal.push_entry-requires-clause-mounted
push_entry-requires-clause-mounted g c = c.loop-place.invariant.mounted

pub push_entry-requires-clause-file : goal.push_entry-requires-clause-file
push_entry-requires-clause-file g c = entry_names c.args.contents.now _ c.loop-place.place _ _ _ _ _ c.loop-place.invariant c.requires.directory c.loop-place-test.true _ c.entry_at.ensures

pub returns-in_err-push_entry-clause-lines : goal.returns-in_err-push_entry-clause-lines
returns-in_err-push_entry-clause-lines g c v on =
    let p = err_from_is_err_and c.from_residual.result c.from_residual.ensures.1 in
    rw (p.1, p.2) (error_bytes (Unit {0}) (Unit {0}) (λ _. Unit {0}) (λ _. Unit {0}) c.in_err-push_entry.field-0.0 (c.in_err-push_entry.ensures.line v (still _ _ v c.loop-place.invariant.same on)))

pub returns-in_err-push_entry-clause-media_kept : goal.returns-in_err-push_entry-clause-media_kept
returns-in_err-push_entry-clause-media_kept g c = c.in_err-push_entry.ensures.media_kept ∙ c.loop-place.invariant.same

pub returns-in_err-push_entry-clause-fault : goal.returns-in_err-push_entry-clause-fault
returns-in_err-push_entry-clause-fault g c =
    let p = err_from_is_err_and c.from_residual.result c.from_residual.ensures.1 in
    rw (p.1, p.2) (faults_then _ _ _ _ c.loop-place.invariant.counted (same_faults (Unit {0}) (Unit {0}) c.in_err-push_entry.field-0.0 _ _ c.in_err-push_entry.ensures.fault))

pub loop-place-preserved : goal.loop-place-preserved
loop-place-preserved g c =
    one_more _ _ c.loop-place.place _ _ _ _ _ c.loop-place.invariant c.loop-place-test.true _ _ _ _ _ c.entry_at.ensures
    c.in_ok-push_entry.ensures.line c.in_ok-push_entry.ensures.media_kept c.in_ok-push_entry.ensures.mounted c.in_ok-push_entry.ensures.fault

pub returns-clause-lines : goal.returns-clause-lines
returns-clause-lines g c v on =
    let past = c.loop-place-test.false in
    all_listed _ _ c.loop-place.place _ _ _ _ _ c.loop-place.invariant (omega arith) v on

pub returns-clause-mounted : goal.returns-clause-mounted
returns-clause-mounted g c = c.loop-place.invariant.mounted

pub returns-clause-media_kept : goal.returns-clause-media_kept
returns-clause-media_kept g c = c.loop-place.invariant.same

pub returns-clause-fault : goal.returns-clause-fault
returns-clause-fault g c = c.loop-place.invariant.counted
