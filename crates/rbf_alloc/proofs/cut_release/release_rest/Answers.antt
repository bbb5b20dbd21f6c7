use Rattle.std.proofs.Common.{◌≡◌, ◌+◌, ◌<◌, ap, sym, subst, ◌∙◌, refl, arith}
use Rattle.std.proofs.lemmas.Result.{err_from_is_err_and}
use Rattle.rbf_model.specs.Geometry.{Geometry, map_sectors}
use Rattle.rbf_access.specs.Mounted.{mounted_part}
use Rattle.rbf_access.proofs.Counting.{counts_then, counts_most}
use Rattle.rbf_alloc.specs.Cleared.{MayGoOn, IsStopped, ClearsNext}
use Rattle.rbf_alloc.proofs.MarkCalls.{moves_to_fault, moves_all}
use Rattle.rbf_alloc.specs.Rest.{in_rest}
use Rattle.rbf_alloc.proofs.Released.{release_begins, release_more, release_goes_on, release_done, release_ends, go_as, stopped_as, next_as, none_as, rest_in_volume}
use Rattle.rbf_alloc.proofs.cut_release.release_rest.Goals as goal

pub loop-place-init : goal.loop-place-init
loop-place-init g c = (release_begins _ (mounted_part c.args.volume.now) _ _, c.requires.cached)

pub release_in-requires-clause-cached : goal.release_in-requires-clause-cached
release_in-requires-clause-cached g c = c.loop-place.invariant.1

pub release_in-requires-clause-go : goal.release_in-requires-clause-go
release_in-requires-clause-go g c =
    let may = c.requires.may in
    let is = may.is in
    let same = ap (λ (h : Geometry). h.cluster) c.loop-place.invariant.0.sizes in
    let low : c.loop-place.place < map_sectors (mounted_part c.args.volume.now).sizes = omega arith in
    go_as c.args.volume.now.ident.cluster c.loop-place.volume.ident.cluster c.args.cut.now c.loop-place.place _ (mounted_part c.loop-place.volume) same
    (release_goes_on _ c.loop-place.place (mounted_part c.args.volume.now) (mounted_part c.loop-place.volume) _ _ _ _ c.loop-place.invariant.0 may.volume may.old is.is is.vol is.agrees is.may low)

pub returns-in_err-release_in-clause-answer : goal.returns-in_err-release_in-clause-answer
returns-in_err-release_in-clause-answer g c v old is =
    let same = ap (λ (h : Geometry). h.cluster) c.loop-place.invariant.0.sizes in
    let p = err_from_is_err_and c.from_residual.result c.from_residual.ensures.1 in
    rw p.1
    (release_ends _ c.loop-place.place (mounted_part c.args.volume.now) (mounted_part c.loop-place.volume) _ _ _ _
    c.loop-place.invariant.0 v old is.is is.vol is.agrees is.may _ (mounted_part c.release_in.new.volume)
    (stopped_as c.args.volume.now.ident.cluster c.loop-place.volume.ident.cluster c.args.cut.now c.loop-place.place _ _
    (mounted_part c.loop-place.volume) (mounted_part c.release_in.new.volume) same c.in_err-release_in.ensures.answer))

pub returns-in_err-release_in-clause-counts : goal.returns-in_err-release_in-clause-counts
returns-in_err-release_in-clause-counts g c =
    let p = err_from_is_err_and c.from_residual.result c.from_residual.ensures.1 in
    let low : c.loop-place.place < map_sectors (mounted_part c.args.volume.now).sizes = omega arith in
    let same = ap (λ (h : Geometry). h.cluster) c.loop-place.invariant.0.sizes in
    rw (p.1, p.2)
    (moves_to_fault (mounted_part c.args.volume.now).sizes (in_rest c.args.volume.now.ident.cluster c.args.cut.now)
    (rest_in_volume _ _ _ _ c.requires.may) c.loop-place.place low _ _ _ _ c.loop-place.invariant.0.moved
    c.in_err-release_in.ensures.counts
    (none_as c.args.volume.now.ident.cluster c.loop-place.volume.ident.cluster c.args.cut.now c.loop-place.place _ same c.in_err-release_in.ensures.none))

pub loop-place-preserved : goal.loop-place-preserved
loop-place-preserved g c =
    let same = ap (λ (h : Geometry). h.cluster) c.loop-place.invariant.0.sizes in
    let low : c.loop-place.place < map_sectors (mounted_part c.args.volume.now).sizes = omega arith in (
      release_more _ c.loop-place.place (mounted_part c.args.volume.now) (mounted_part c.loop-place.volume) _ _ _ _ c.loop-place.invariant.0 _ (mounted_part c.release_in.new.volume) _ low
          (next_as c.args.volume.now.ident.cluster c.loop-place.volume.ident.cluster c.args.cut.now c.loop-place.place _
          _ (mounted_part c.loop-place.volume) (mounted_part c.release_in.new.volume) same c.in_ok-release_in.ensures.answer)
          c.in_ok-release_in.ensures.sizes (rest_in_volume _ _ _ _ c.requires.may) c.in_ok-release_in.ensures.counts
          (none_as c.args.volume.now.ident.cluster c.loop-place.volume.ident.cluster c.args.cut.now c.loop-place.place _ same c.in_ok-release_in.ensures.none),
      c.in_ok-release_in.ensures.cached,
    )

pub returns-clause-answer : goal.returns-clause-answer
returns-clause-answer g c v old is =
    let end : c.loop-place.place ≡ map_sectors (mounted_part c.args.volume.now).sizes = omega arith in
    release_done _ c.loop-place.place (mounted_part c.args.volume.now) (mounted_part c.loop-place.volume) _ _ _ _ c.loop-place.invariant.0 v old is.is is.vol is.agrees is.may end

pub returns-clause-counts : goal.returns-clause-counts
returns-clause-counts g c =
    let end : c.loop-place.place ≡ map_sectors (mounted_part c.args.volume.now).sizes = omega arith in
    moves_all (mounted_part c.args.volume.now).sizes (in_rest c.args.volume.now.ident.cluster c.args.cut.now)
    (rest_in_volume _ _ _ _ c.requires.may) c.loop-place.place end _ _ c.loop-place.invariant.0.moved

pub returns-clause-cached : goal.returns-clause-cached
returns-clause-cached g c = c.loop-place.invariant.1
