use Rattle.std.proofs.Common.{Err, refl, ap, sym, ◌∙◌}
use Rattle.std.proofs.lemmas.Result.{err_from_is_err_and}
use Rattle.rbf_write.specs.declared.loaded.Loaded.{Loaded}
use Rattle.rbf_access.proofs.Reading.{mounted_still}
use Rattle.rbf_walk.specs.declared.directory.Searched.{Searched}
use Rattle.rbf_walk.specs.declared.error.DirError.TheVariants.{File}
use Rattle.rbf_walk.proofs.Stepping.{fd_on}
use Rattle.rbf_entries.proofs.Attributed.{fault_counts}
use Rattle.rbf_entries.proofs.Deleting.{read_here}
use Rattle.rbf_entries.proofs.MakePlaced.{fault_placed, closed_refused, found_refused, absent_placed, no_look, one_look, all_looks}
use Rattle.rbf_entries.proofs.place.find_place.Goals as goal

pub returns-in_err-loaded-clause-answer : goal.returns-in_err-loaded-clause-answer
returns-in_err-loaded-clause-answer g c v file on is =
    let p = err_from_is_err_and c.from_residual.result c.from_residual.ensures.1 in
    rw (p.1, p.2) (fault_placed Loaded file c.args.name.now c.args.by.user c.args.by.execute
    (sym c.is_dots.ensures.value ∙ c.if-is_dots.false) c.in_err-loaded.field-0.0 (Err (File c.in_err-loaded.field-0.0))
    refl c.in_err-loaded.ensures.device)

pub returns-then-not-may_change-clause-answer : goal.returns-then-not-may_change-clause-answer
returns-then-not-may_change-clause-answer g c v file on is =
    closed_refused _ c.args.dir c.in_ok-loaded.loaded.file c.in_ok-loaded.ensures.ok.says c.args.name.now c.args.by.user
    c.args.by.execute c.is_dots.result c.is_dots.ensures.value c.is_dots.ensures.name c.if-is_dots.false
    c.may_change.result c.may_change.ensures v file on is c.if-not-may_change.true

pub search-requires-clause-directory : goal.search-requires-clause-directory
search-requires-clause-directory g c = fd_on _ c.args.dir c.requires.file c.in_ok-loaded.loaded.file c.in_ok-loaded.ensures.ok.says _ c.in_ok-loaded.ensures.media_kept

pub returns-in_err-search-clause-answer : goal.returns-in_err-search-clause-answer
returns-in_err-search-clause-answer g c v file on is =
    let p = err_from_is_err_and c.from_residual-in_err-search.result c.from_residual-in_err-search.ensures.1 in
    rw (p.1, p.2) (fault_placed Searched file c.args.name.now c.args.by.user c.args.by.execute
    (sym c.is_dots.ensures.value ∙ c.if-is_dots.false) c.in_err-search.field-0.0 (Err (File c.in_err-search.field-0.0))
    refl c.in_err-search.ensures.device)

pub returns-in_err-search-clause-counts : goal.returns-in_err-search-clause-counts
returns-in_err-search-clause-counts g c v file on is =
    let p = err_from_is_err_and c.from_residual-in_err-search.result c.from_residual-in_err-search.ensures.1 in
    all_looks file c.args.name.now c.args.by.user c.args.by.execute (sym c.is_dots.ensures.value ∙ c.if-is_dots.false) _ _ _
    (sym (c.may_change.ensures file (c.in_ok-loaded.ensures.ok.says v file on is)) ∙ c.if-not-may_change.false) _ _
    c.in_ok-loaded.ensures.counts (fault_counts Searched _ c.in_err-search.field-0.0 _ _ _ _ (p.1 ∙ ap Err p.2)
    c.in_err-search.ensures.counts)
    (read_here _ _ c.args.dir c.in_ok-loaded.loaded.file v file _ c.in_ok-loaded.ensures.media_kept on is (c.in_ok-loaded.ensures.ok.says v file on is) c.in_err-search.ensures.read)

pub returns-in-Found-clause-answer : goal.returns-in-Found-clause-answer
returns-in-Found-clause-answer g c v file on is =
    found_refused _ c.args.dir c.in_ok-loaded.loaded.file c.in_ok-loaded.ensures.ok.says c.args.name.now c.args.by.user
    c.args.by.execute c.is_dots.result c.is_dots.ensures.value c.is_dots.ensures.name c.if-is_dots.false
    c.may_change.result c.may_change.ensures v file on is c.if-not-may_change.false _ c.in_ok-loaded.ensures.media_kept
    c.in_ok-search.field-0 c.in_ok-search.ensures.ok _ _ c.in-Found.is

pub returns-in-Found-clause-counts : goal.returns-in-Found-clause-counts
returns-in-Found-clause-counts g c v file on is =
    all_looks file c.args.name.now c.args.by.user c.args.by.execute (sym c.is_dots.ensures.value ∙ c.if-is_dots.false) _ _ _
    (sym (c.may_change.ensures file (c.in_ok-loaded.ensures.ok.says v file on is)) ∙ c.if-not-may_change.false) _ _ c.in_ok-loaded.ensures.counts c.in_ok-search.ensures.counts
    (read_here _ _ c.args.dir c.in_ok-loaded.loaded.file v file _ c.in_ok-loaded.ensures.media_kept on is (c.in_ok-loaded.ensures.ok.says v file on is) c.in_ok-search.ensures.read)

pub returns-in-Absent-clause-answer : goal.returns-in-Absent-clause-answer
returns-in-Absent-clause-answer g c v file on is =
    absent_placed _ c.args.dir c.in_ok-loaded.loaded.file c.in_ok-loaded.ensures.ok.says c.args.name.now c.args.by.user
    c.args.by.execute c.is_dots.result c.is_dots.ensures.value c.is_dots.ensures.name c.if-is_dots.false
    c.may_change.result c.may_change.ensures v file on is c.if-not-may_change.false _ c.in_ok-loaded.ensures.media_kept
    c.in_ok-search.field-0 c.in_ok-search.ensures.ok _ c.in-Absent.is

pub returns-in-Absent-clause-counts : goal.returns-in-Absent-clause-counts
returns-in-Absent-clause-counts g c v file on is =
    all_looks file c.args.name.now c.args.by.user c.args.by.execute (sym c.is_dots.ensures.value ∙ c.if-is_dots.false) _ _ _
    (sym (c.may_change.ensures file (c.in_ok-loaded.ensures.ok.says v file on is)) ∙ c.if-not-may_change.false) _ _ c.in_ok-loaded.ensures.counts c.in_ok-search.ensures.counts
    (read_here _ _ c.args.dir c.in_ok-loaded.loaded.file v file _ c.in_ok-loaded.ensures.media_kept on is (c.in_ok-loaded.ensures.ok.says v file on is) c.in_ok-search.ensures.read)

pub returns-then-is_dots-clause-counts : goal.returns-then-is_dots-clause-counts
returns-then-is_dots-clause-counts g c v file on is = no_look file c.args.name.now c.args.by.user c.args.by.execute _

pub returns-in_err-loaded-clause-counts : goal.returns-in_err-loaded-clause-counts
returns-in_err-loaded-clause-counts g c v file on is =
    let p = err_from_is_err_and c.from_residual.result c.from_residual.ensures.1 in
    one_look file c.args.name.now c.args.by.user c.args.by.execute (sym c.is_dots.ensures.value ∙ c.if-is_dots.false) _ _ _
    (fault_counts Loaded _ c.in_err-loaded.field-0.0 _ 1 _ _ (p.1 ∙ ap Err p.2) c.in_err-loaded.ensures.counts)

pub returns-then-not-may_change-clause-counts : goal.returns-then-not-may_change-clause-counts
returns-then-not-may_change-clause-counts g c v file on is =
    one_look file c.args.name.now c.args.by.user c.args.by.execute (sym c.is_dots.ensures.value ∙ c.if-is_dots.false) _ _ _ c.in_ok-loaded.ensures.counts

pub load_file-requires-clause-cached : goal.load_file-requires-clause-cached
load_file-requires-clause-cached g c = c.requires.mounted.cached

pub returns-in_err-loaded-clause-mounted : goal.returns-in_err-loaded-clause-mounted
returns-in_err-loaded-clause-mounted g c = mounted_still _ _ _ _ c.in_err-loaded.ensures.volume_kept c.in_err-loaded.ensures.media_kept c.in_err-loaded.ensures.cached c.requires.mounted

pub returns-then-not-may_change-clause-mounted : goal.returns-then-not-may_change-clause-mounted
returns-then-not-may_change-clause-mounted g c = mounted_still _ _ _ _ c.in_ok-loaded.ensures.volume_kept c.in_ok-loaded.ensures.media_kept c.in_ok-loaded.ensures.cached c.requires.mounted

pub search-requires-clause-mounted : goal.search-requires-clause-mounted
search-requires-clause-mounted g c = mounted_still _ _ _ _ c.in_ok-loaded.ensures.volume_kept c.in_ok-loaded.ensures.media_kept c.in_ok-loaded.ensures.cached c.requires.mounted

pub returns-in-Absent-clause-read : goal.returns-in-Absent-clause-read
returns-in-Absent-clause-read g c = record { read = c.in_ok-loaded.ensures.ok; user_is = refl; execute_is = refl }
