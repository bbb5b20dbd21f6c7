-- The path is read, and the directory is made at its place.
use Rattle.std.proofs.Common.{ℕ, refl, sym, ap, ◌∙◌, option_map}
use Rattle.std.proofs.lemmas.Result.{err_from_is_err_and}
use Rattle.vol_tools.specs.Names.{place}
use Rattle.vol_tools.proofs.Counts.{no_faults, same_faults}
use Rattle.vol_tools.proofs.Founded.{no_folder, not_founded, founded}
use Rattle.vol_tools.proofs.Placed.{no_new_place, new_place_is}
use Rattle.vol_tools.proofs.Tails.{tail_kept}
use Rattle.vol_tools.proofs.folder.mkdir.Goals as goal

pub returns-in_err-place-clause-answer : goal.returns-in_err-place-clause-answer
returns-in_err-place-clause-answer g c v on =
    let p = err_from_is_err_and c.from_residual.result c.from_residual.ensures.1 in
    rw (p.1, p.2) refl

pub returns-in_err-place-clause-tail : goal.returns-in_err-place-clause-tail
returns-in_err-place-clause-tail g c = tail_kept _ _ refl

pub returns-in_err-place-clause-fault : goal.returns-in_err-place-clause-fault
returns-in_err-place-clause-fault g c =
    let p = err_from_is_err_and c.from_residual.result c.from_residual.ensures.1 in
    rw (p.1, p.2) (no_faults _)

pub returns-in_default-clause-answer : goal.returns-in_default-clause-answer
returns-in_default-clause-answer g c v on =
    let path = c.args.path.now in
    no_folder path c.args.now v _ on (no_new_place v 64 path (sym c.in_ok-place.ensures ∙ ap (option_map place) c.in_default.is))

pub returns-in_default-clause-tail : goal.returns-in_default-clause-tail
returns-in_default-clause-tail g c = tail_kept _ _ refl

pub returns-in_default-clause-fault : goal.returns-in_default-clause-fault
returns-in_default-clause-fault g c = no_faults _

pub returns-in_err-make_folder-clause-answer : goal.returns-in_err-make_folder-clause-answer
returns-in_err-make_folder-clause-answer g c v on =
    let p = err_from_is_err_and c.from_residual-in_err-make_folder.result c.from_residual-in_err-make_folder.ensures.1 in
    let path = c.args.path.now in
    let at = new_place_is path c.in-Some.place (sym c.in_ok-place.ensures ∙ ap (option_map place) c.in-Some.is) in
    rw (p.1, p.2) (not_founded path c.args.now v _ _ c.in_err-make_folder.field-0.0 on (c.in_err-make_folder.ensures.answer path v at on))

pub returns-clause-answer : goal.returns-clause-answer
returns-clause-answer g c v on =
    let path = c.args.path.now in
    let at = new_place_is path c.in-Some.place (sym c.in_ok-place.ensures ∙ ap (option_map place) c.in-Some.is) in
    founded path c.args.now v _ c.in_ok-make_folder.field-0 (c.in_ok-make_folder.ensures.answer path v at on)

pub returns-in_err-make_folder-clause-fault : goal.returns-in_err-make_folder-clause-fault
returns-in_err-make_folder-clause-fault g c =
    let p = err_from_is_err_and c.from_residual-in_err-make_folder.result c.from_residual-in_err-make_folder.ensures.1 in
    rw (p.1, p.2) (same_faults ℕ (Unit {0}) c.in_err-make_folder.field-0.0 _ _ c.in_err-make_folder.ensures.fault)

pub returns-clause-others : goal.returns-clause-others
returns-clause-others g c =
    let path = c.args.path.now in
    c.in_ok-make_folder.ensures.others path (new_place_is path c.in-Some.place (sym c.in_ok-place.ensures ∙ ap (option_map place) c.in-Some.is))
