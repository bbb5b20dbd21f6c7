use Rattle.std.proofs.Common.{◌≡◌, ◌<◌, ap, refl, arith}
use Rattle.std.proofs.lemmas.Result.{err_from_is_err_and}
use Rattle.rbf_model.specs.Geometry.{Geometry, map_sectors}
use Rattle.rbf_access.specs.Mounted.{mounted_part}
use Rattle.rbf_alloc.proofs.Dropping.{agrees_on, drop_begins, drop_more, goes_on, mounted_so_far, mounted_stopped, drop_done, drop_stopped, on_err, go_as, stopped_as, next_as, none_as, own_in_volume, calls_stopped, calls_done}
use Rattle.rbf_alloc.proofs.dropped.drop_own.Goals as goal

pub loop-place-init : goal.loop-place-init
loop-place-init g c = (drop_begins _ (mounted_part c.args.volume.now) _ _ _ _ refl refl, c.requires.mounted.cached)

pub release_in-requires-clause-cached : goal.release_in-requires-clause-cached
release_in-requires-clause-cached g c = c.loop-place.invariant.1

pub release_in-requires-clause-go : goal.release_in-requires-clause-go
release_in-requires-clause-go g c =
    let has = c.requires.gone in
    let same = ap (λ (h : Geometry). h.cluster) c.loop-place.invariant.0.sizes in
    let low : c.loop-place.place < map_sectors (mounted_part c.args.volume.now).sizes = omega arith in
    go_as c.args.volume.now.ident.cluster c.loop-place.volume.ident.cluster c.args.own.now c.loop-place.place _ (mounted_part c.loop-place.volume) same
    (goes_on _ c.args.own.now.fd c.args.own.now.segs c.requires.list has.content has.file has.gone
    c.args.volume.now.ident.cluster (mounted_part c.args.volume.now) (mounted_part c.loop-place.volume) refl
    (agrees_on c.args.volume.now _ has.content c.requires.mounted has.gone.on) c.loop-place.place _ _ _ c.loop-place.invariant.0 low)

pub returns-in_err-release_in-clause-fault : goal.returns-in_err-release_in-clause-fault
returns-in_err-release_in-clause-fault g c v file gone =
    let same = ap (λ (h : Geometry). h.cluster) c.loop-place.invariant.0.sizes in
    on_err _ _
    (drop_stopped _ c.args.own.now.fd c.args.own.now.segs c.requires.list v file gone c.args.volume.now.ident.cluster (mounted_part c.args.volume.now) (mounted_part c.loop-place.volume) refl
    (agrees_on c.args.volume.now _ v c.requires.mounted gone.on) c.loop-place.place _ _ _ c.loop-place.invariant.0 _ _
    (stopped_as c.args.volume.now.ident.cluster c.loop-place.volume.ident.cluster c.args.own.now c.loop-place.place _ _ (mounted_part c.loop-place.volume) (mounted_part c.release_in.new.volume) same
    c.in_err-release_in.ensures.answer))

pub returns-in_err-release_in-clause-mounted : goal.returns-in_err-release_in-clause-mounted
returns-in_err-release_in-clause-mounted g c =
    let has = c.requires.gone in
    let same = ap (λ (h : Geometry). h.cluster) c.loop-place.invariant.0.sizes in
    mounted_stopped _ c.args.own.now.fd c.args.own.now.segs c.requires.list has.content has.file has.gone
    c.args.volume.now.ident.cluster (mounted_part c.args.volume.now) (mounted_part c.loop-place.volume) refl
    (agrees_on c.args.volume.now _ has.content c.requires.mounted has.gone.on) c.loop-place.place _ _ _ c.loop-place.invariant.0 c.release_in.new.volume _
    (stopped_as c.args.volume.now.ident.cluster c.loop-place.volume.ident.cluster c.args.own.now c.loop-place.place _ _ (mounted_part c.loop-place.volume) (mounted_part c.release_in.new.volume) same
    c.in_err-release_in.ensures.answer)
    c.in_err-release_in.ensures.cached

pub loop-place-preserved : goal.loop-place-preserved
loop-place-preserved g c =
    let has = c.requires.gone in
    let same = ap (λ (h : Geometry). h.cluster) c.loop-place.invariant.0.sizes in
    let low : c.loop-place.place < map_sectors (mounted_part c.args.volume.now).sizes = omega arith in (
      drop_more _ c.loop-place.place (mounted_part c.args.volume.now) (mounted_part c.loop-place.volume) _ _ _ _ c.loop-place.invariant.0 _ (mounted_part c.release_in.new.volume) _ low
          (next_as c.args.volume.now.ident.cluster c.loop-place.volume.ident.cluster c.args.own.now c.loop-place.place
          _ _ (mounted_part c.loop-place.volume) (mounted_part c.release_in.new.volume) same
          c.in_ok-release_in.ensures.answer)
          c.in_ok-release_in.ensures.sizes
          (own_in_volume _ c.args.own.now.fd c.args.own.now.segs c.requires.list has.content has.file has.gone
          c.args.volume.now.ident.cluster (mounted_part c.args.volume.now) (mounted_part c.loop-place.volume) refl
          (agrees_on c.args.volume.now _ has.content c.requires.mounted has.gone.on) c.loop-place.place _ _ _ c.loop-place.invariant.0)
          c.in_ok-release_in.ensures.counts (none_as c.args.volume.now.ident.cluster c.loop-place.volume.ident.cluster c.args.own.now c.loop-place.place _ same c.in_ok-release_in.ensures.none),
      c.in_ok-release_in.ensures.cached,
    )

pub returns-clause-ok : goal.returns-clause-ok
returns-clause-ok g c v file gone =
    let end : c.loop-place.place ≡ map_sectors (mounted_part c.args.volume.now).sizes = omega arith in
    drop_done _ c.args.own.now.fd c.args.own.now.segs c.requires.list v file gone c.args.volume.now.ident.cluster (mounted_part c.args.volume.now) (mounted_part c.loop-place.volume) refl
    (agrees_on c.args.volume.now _ v c.requires.mounted gone.on) c.loop-place.place _ _ _ c.loop-place.invariant.0 end

pub returns-clause-mounted : goal.returns-clause-mounted
returns-clause-mounted g c =
    let has = c.requires.gone in
    mounted_so_far _ c.args.own.now.fd c.args.own.now.segs c.requires.list has.content has.file has.gone
    c.args.volume.now.ident.cluster (mounted_part c.args.volume.now) (mounted_part c.loop-place.volume) refl
    (agrees_on c.args.volume.now _ has.content c.requires.mounted has.gone.on) c.loop-place.place _ _ _ c.loop-place.invariant.0 c.loop-place.volume refl c.loop-place.invariant.1

pub returns-in_err-release_in-clause-counts : goal.returns-in_err-release_in-clause-counts
returns-in_err-release_in-clause-counts g c v file gone =
    let same = ap (λ (h : Geometry). h.cluster) c.loop-place.invariant.0.sizes in
    let low : c.loop-place.place < map_sectors (mounted_part c.args.volume.now).sizes = omega arith in
    let p = err_from_is_err_and c.from_residual.result c.from_residual.ensures.1 in
    rw (p.1, p.2)
    (calls_stopped _ c.args.own.now.fd c.args.own.now.segs c.requires.list v file gone c.args.volume.now.ident.cluster (mounted_part c.args.volume.now) (mounted_part c.loop-place.volume) refl
    (agrees_on c.args.volume.now _ v c.requires.mounted gone.on) c.loop-place.place _ _ _ c.loop-place.invariant.0 low _ _ c.in_err-release_in.ensures.counts
    (none_as c.args.volume.now.ident.cluster c.loop-place.volume.ident.cluster c.args.own.now c.loop-place.place _ same c.in_err-release_in.ensures.none))

pub returns-clause-counts : goal.returns-clause-counts
returns-clause-counts g c v file gone =
    let end : c.loop-place.place ≡ map_sectors (mounted_part c.args.volume.now).sizes = omega arith in
    calls_done _ c.args.own.now.fd c.args.own.now.segs c.requires.list v file gone c.args.volume.now.ident.cluster (mounted_part c.args.volume.now) (mounted_part c.loop-place.volume) refl
    (agrees_on c.args.volume.now _ v c.requires.mounted gone.on) c.loop-place.place _ _ _ c.loop-place.invariant.0 end
