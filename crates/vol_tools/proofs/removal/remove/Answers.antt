-- The path is read, and the file at its place is deleted.
use Rattle.std.proofs.Common.{refl, sym, ap, ◌∙◌, option_map}
use Rattle.std.proofs.lemmas.Result.{err_from_is_err_and}
use Rattle.vol_tools.specs.Names.{place}
use Rattle.vol_tools.specs.Numbers.{removing_number}
use Rattle.vol_tools.proofs.Counts.{no_faults}
use Rattle.vol_tools.proofs.Removed.{no_place}
use Rattle.vol_tools.proofs.Tails.{unused_kept}
use Rattle.vol_tools.proofs.removal.remove.Goals as goal

pub returns-in_err-place-clause-answer : goal.returns-in_err-place-clause-answer
returns-in_err-place-clause-answer g c now v on =
    let p = err_from_is_err_and c.from_residual.result c.from_residual.ensures.1 in
    rw (p.1, p.2) refl

pub returns-in_err-place-clause-tail : goal.returns-in_err-place-clause-tail
returns-in_err-place-clause-tail g c = unused_kept _ _ refl

pub returns-in_err-place-clause-fault : goal.returns-in_err-place-clause-fault
returns-in_err-place-clause-fault g c =
    let p = err_from_is_err_and c.from_residual.result c.from_residual.ensures.1 in
    rw (p.1, p.2) (no_faults _)

pub returns-in_default-clause-answer : goal.returns-in_default-clause-answer
returns-in_default-clause-answer g c now v on =
    no_place c.args.path.now now v _ on (ap (removing_number v) (sym c.in_ok-place.ensures ∙ ap (option_map place) c.in_default.is))

pub returns-in_default-clause-tail : goal.returns-in_default-clause-tail
returns-in_default-clause-tail g c = unused_kept _ _ refl

pub returns-in_default-clause-fault : goal.returns-in_default-clause-fault
returns-in_default-clause-fault g c = no_faults _

pub returns-clause-answer : goal.returns-clause-answer
returns-clause-answer g c now = c.remove_at.ensures.answer c.args.path.now now (sym c.in_ok-place.ensures ∙ ap (option_map place) c.in-Some.is)

pub returns-clause-others : goal.returns-clause-others
returns-clause-others g c =
    c.remove_at.ensures.others c.args.path.now (sym c.in_ok-place.ensures ∙ ap (option_map place) c.in-Some.is)
