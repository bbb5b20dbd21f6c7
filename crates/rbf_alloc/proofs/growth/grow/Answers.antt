use Rattle.std.proofs.Common.{◌≡◌, true, false, replicate, refl, ap, sym, subst, arith, rules}
use Rattle.std.proofs.lemmas.Bool.{both_ways}
use Rattle.std.proofs.lemmas.Result.{err_from_is_err_and}
use Rattle.rbf_change.specs.Agrees.{MountedPart}
use Rattle.rbf_access.specs.declared.faults.FileFault.TheVariants as file
use Rattle.rbf_model.specs.Geometry.{map_sectors}
use Rattle.rbf_change.specs.Calls.{shape, cluster_size}
use Rattle.rbf_access.specs.MapMarks.{has_mark_of}
use Rattle.rbf_access.proofs.Mounting.{free_total_is}
use Rattle.rbf_alloc.specs.Grown.{IsGrown, is_gained}
use Rattle.rbf_alloc.specs.Gained.{AreMapped, AreSizes, IsGivenBack}
use Rattle.rbf_alloc.specs.Marked.{AllWritten}
use Rattle.rbf_alloc.proofs.Gaining.{places_gained, those_gained}
use Rattle.rbf_alloc.proofs.Growing.{agrees_on, mounted_same, sizes_are, apart_is, too_many_is, marked_fresh, grown, grown_agrees, ended, back_agrees, mounted_where, full_is, if_some, sizes_after, enough_free, wanted_all, wanted_gained, wanted_calls, at_most_all, at_most_count, at_most_wanted}
use Rattle.rbf_alloc.proofs.NoneGrown.{none_grown}
use Rattle.rbf_alloc.proofs.growth.grow.Goals as goal

pub returns-then-count-eq0-clause-grows : goal.returns-then-count-eq0-clause-grows
returns-then-count-eq0-clause-grows g c v on = record {
  grown = none_grown v _ on c.args.count c.if-count-eq0.true c.args.segs.now c.requires.few;
  full = (λ is. cc, λ low. absurd (omega (arith, low, c.if-count-eq0.true)));
  runs = search rules;
  ends = search rules;
}

pub returns-then-count-eq0-clause-mounted : goal.returns-then-count-eq0-clause-mounted
returns-then-count-eq0-clause-mounted g c = c.requires.mounted

pub gain-requires-clause-sizes : goal.gain-requires-clause-sizes
gain-requires-clause-sizes g c =
    let m = c.requires.mounted in sizes_are c.args.volume.now m.on.image m.content m.on.vol m.agrees

pub gain-requires-clause-apart : goal.gain-requires-clause-apart
gain-requires-clause-apart g c =
    let m = c.requires.mounted in apart_is c.args.volume.now m.on.image m.content m.on.vol m.agrees c.args.segs.now (c.requires.apart m.content m.on)

pub returns-in_err-longer-clause-grows : goal.returns-in_err-longer-clause-grows
returns-in_err-longer-clause-grows g c v on =
    let p = err_from_is_err_and c.from_residual.result c.from_residual.ensures.1 in
    rw (p.1, p.2)
    record {
      grown = search rules;
      full = full_is _ _ _ c.args.count c.in_err-longer.ensures.full (free_total_is c.args.volume.now on.image v (agrees_on _ _ v c.requires.mounted on) on.vol);
      runs = λ is. too_many_is c.args.volume.now on.image v on.vol (agrees_on _ _ v c.requires.mounted on) c.args.count c.args.segs.now (c.in_err-longer.ensures.runs is);
      ends = search rules;
    }

pub returns-in_err-longer-clause-mounted : goal.returns-in_err-longer-clause-mounted
returns-in_err-longer-clause-mounted g c = mounted_same c.args.volume.now _ c.gain.new.map _ c.requires.mounted c.in_err-longer.ensures.back refl c.requires.mounted.cached

pub write_marks-requires-clause-marking : goal.write_marks-requires-clause-marking
write_marks-requires-clause-marking g c =
    let m = c.requires.mounted in
    record {
      volume = m.content;
      old = m.on.image;
      on = marked_fresh c.args.volume.now m.on.image m.content m.on.vol m.agrees c.gain.new.map c.args.count c.args.segs.now c.in_ok-longer.longer c.in_ok-longer.ensures.ok _ m.on.is;
    }

pub write_marks-requires-clause-places : goal.write_marks-requires-clause-places
write_marks-requires-clause-places g c =
    let m = c.requires.mounted in
    let sizes = sizes_are c.args.volume.now m.on.image m.content m.on.vol m.agrees in
    places_gained c.args.volume.now.ident.cluster c.args.count c.args.volume.now.map c.gain.new.map c.args.segs.now c.in_ok-longer.longer c.in_ok-longer.ensures.ok.gain sizes.some sizes.sectors
    (enough_free _ _ _ _ c.in_ok-longer.ensures.full) c.sectors.result c.sectors.ensures.count c.sectors.ensures.few

pub give_back-requires-clause-sizes : goal.give_back-requires-clause-sizes
give_back-requires-clause-sizes g c =
    let m = c.requires.mounted in
    let same = ap (λ (kv : MountedPart). kv.map) c.in-Err.ensures.volume_kept in
    subst (AreSizes c.args.volume.now.ident.cluster) (sym same)
    (sizes_after _ _ _ _ _ _ c.in_ok-longer.ensures.ok.gain (sizes_are c.args.volume.now m.on.image m.content m.on.vol m.agrees))

pub give_back-requires-clause-places : goal.give_back-requires-clause-places
give_back-requires-clause-places g c =
    let m = c.requires.mounted in
    let sizes = sizes_are c.args.volume.now m.on.image m.content m.on.vol m.agrees in
    let same = ap (λ (kv : MountedPart). kv.map) c.in-Err.ensures.volume_kept in
    subst (λ n. AreMapped c.args.volume.now.ident.cluster n c.in_ok-longer.longer c.sectors.result c.args.count) (sym same)
    (places_gained c.args.volume.now.ident.cluster c.args.count c.args.volume.now.map c.gain.new.map c.args.segs.now c.in_ok-longer.longer c.in_ok-longer.ensures.ok.gain sizes.some sizes.sectors
    (enough_free _ _ _ _ c.in_ok-longer.ensures.full) c.sectors.result c.sectors.ensures.count c.sectors.ensures.few)

pub returns-in-Ok-clause-grows : goal.returns-in-Ok-clause-grows
returns-in-Ok-clause-grows g c v on =
    let agrees = agrees_on c.args.volume.now _ v c.requires.mounted on in
    let sizes = sizes_are c.args.volume.now on.image v on.vol agrees in
    let those =
    those_gained c.args.volume.now.ident.cluster c.args.count c.args.volume.now.map c.gain.new.map c.args.segs.now
    c.in_ok-longer.longer c.in_ok-longer.ensures.ok.gain sizes.some c.sectors.result
    c.sectors.ensures.count in
    record {
      grown = grown c.args.volume.now on.image v on.vol agrees c.gain.new.map c.args.count c.args.segs.now c.in_ok-longer.longer c.in_ok-longer.ensures.ok _ _ on.is c.write_marks.new.written
          (c.in-Ok.ensures.on v on.image (marked_fresh c.args.volume.now on.image v on.vol agrees c.gain.new.map c.args.count c.args.segs.now c.in_ok-longer.longer c.in_ok-longer.ensures.ok _ on.is))
          (subst (λ xs. AllWritten xs c.write_marks.new.written) those c.in-Ok.ensures.all);
      full = full_is _ _ _ c.args.count c.in_ok-longer.ensures.full (free_total_is c.args.volume.now on.image v agrees on.vol);
      runs = search rules;
      ends = search rules;
    }

pub returns-in-Ok-clause-mounted : goal.returns-in-Ok-clause-mounted
returns-in-Ok-clause-mounted g c =
    let m = c.requires.mounted in
    let sizes = sizes_are c.args.volume.now m.on.image m.content m.on.vol m.agrees in
    let those =
    those_gained c.args.volume.now.ident.cluster c.args.count c.args.volume.now.map c.gain.new.map c.args.segs.now
    c.in_ok-longer.longer c.in_ok-longer.ensures.ok.gain sizes.some c.sectors.result
    c.sectors.ensures.count in
    let marked =
    c.in-Ok.ensures.on m.content m.on.image (marked_fresh c.args.volume.now m.on.image m.content m.on.vol m.agrees
    c.gain.new.map c.args.count c.args.segs.now c.in_ok-longer.longer c.in_ok-longer.ensures.ok _ m.on.is) in
    mounted_where c.write_marks.new.v _ _ marked.now _ marked.is marked.marked.vol
    (grown_agrees c.args.volume.now m.on.image m.content m.on.vol m.agrees c.gain.new.map c.args.count c.args.segs.now
    c.in_ok-longer.longer c.in_ok-longer.ensures.ok _ _ m.on.is c.write_marks.new.written marked
    (subst (λ xs. AllWritten xs c.write_marks.new.written) those c.in-Ok.ensures.all))
    c.in-Ok.ensures.volume_kept c.in-Ok.ensures.cached

pub returns-in-Err-clause-grows : goal.returns-in-Err-clause-grows
returns-in-Err-clause-grows g c v on =
    let agrees = agrees_on c.args.volume.now _ v c.requires.mounted on in
    let total = free_total_is c.args.volume.now on.image v agrees on.vol in
    let enough = enough_free _ _ _ _ c.in_ok-longer.ensures.full in
    record {
      grown = search rules;
      full = (
        λ is. let same : c.in-Err.fault ≡ file.NoCluster = cc is in absurd (both_ways false refl (rw same at c.in-Err.ensures.device)),
        λ low. absurd (omega (arith, total, enough, low)),
      );
      runs = λ is. let same : c.in-Err.fault ≡ file.TooManyRuns = cc is in absurd (both_ways false refl (rw same at c.in-Err.ensures.device));
      ends =
          if_some _ _
          (ended c.args.volume.now on.image v on.vol agrees c.gain.new.map c.args.count c.args.segs.now c.in_ok-longer.longer c.in_ok-longer.ensures.ok _ _ on.is c.write_marks.new.written
          (c.in-Err.ensures.on v on.image (marked_fresh c.args.volume.now on.image v on.vol agrees c.gain.new.map
          c.args.count c.args.segs.now c.in_ok-longer.longer c.in_ok-longer.ensures.ok _ on.is)));
    }

pub returns-in-Err-clause-mounted : goal.returns-in-Err-clause-mounted
returns-in-Err-clause-mounted g c =
    let m = c.requires.mounted in
    let sizes = sizes_are c.args.volume.now m.on.image m.content m.on.vol m.agrees in
    let those =
    those_gained c.args.volume.now.ident.cluster c.args.count c.args.volume.now.map c.gain.new.map c.args.segs.now
    c.in_ok-longer.longer c.in_ok-longer.ensures.ok.gain sizes.some c.sectors.result
    c.sectors.ensures.count in
    let marked =
    c.in-Err.ensures.on m.content m.on.image (marked_fresh c.args.volume.now m.on.image m.content m.on.vol m.agrees
    c.gain.new.map c.args.count c.args.segs.now c.in_ok-longer.longer c.in_ok-longer.ensures.ok _ m.on.is) in
    let same = ap (λ (kv : MountedPart). kv.map) c.in-Err.ensures.volume_kept in
    let sizes_same = ap (λ (kv : MountedPart). kv.sizes) c.in-Err.ensures.volume_kept in
    mounted_where _ _ _ marked.now _ marked.is marked.marked.vol
    (back_agrees c.args.volume.now m.on.image m.content m.on.vol m.agrees c.gain.new.map c.args.count c.args.segs.now
    c.in_ok-longer.longer c.in_ok-longer.ensures.ok _ _ m.on.is c.write_marks.new.written marked
    c.give_back.new.map c.sectors.result those
    (subst (λ n. IsGivenBack c.args.volume.now.ident.cluster c.in_ok-longer.longer c.sectors.result c.args.count c.write_marks.new.written n c.give_back.new.map) same c.give_back.ensures))
    (ap (λ s. record { sizes = s; map = c.give_back.new.map }) sizes_same) c.in-Err.ensures.cached

pub returns-in-Ok-clause-counts : goal.returns-in-Ok-clause-counts
returns-in-Ok-clause-counts g c =
    let m = c.requires.mounted in
    let agrees = m.agrees in
    let sizes = sizes_are c.args.volume.now m.on.image m.content m.on.vol agrees in
    let places =
    places_gained c.args.volume.now.ident.cluster c.args.count c.args.volume.now.map c.gain.new.map c.args.segs.now
    c.in_ok-longer.longer c.in_ok-longer.ensures.ok.gain sizes.some sizes.sectors
    (enough_free _ _ _ _ c.in_ok-longer.ensures.full) c.sectors.result c.sectors.ensures.count c.sectors.ensures.few in
    let those =
    those_gained c.args.volume.now.ident.cluster c.args.count c.args.volume.now.map c.gain.new.map c.args.segs.now
    c.in_ok-longer.longer c.in_ok-longer.ensures.ok.gain sizes.some c.sectors.result
    c.sectors.ensures.count in
    at_most_count _ _ _ _ _ (wanted_calls _ c.args.count (λ p. true) (replicate 256 false) (map_sectors (shape m.content)) _ _
    (c.in-Ok.ensures.counts (λ p. true) (map_sectors (shape m.content))
    (wanted_all c.args.volume.now m.on.image m.content m.on.vol agrees c.gain.new.map c.args.count c.args.segs.now
    c.in_ok-longer.longer c.in_ok-longer.ensures.ok c.sectors.result places those)))

pub returns-in-Ok-clause-marks : goal.returns-in-Ok-clause-marks
returns-in-Ok-clause-marks g c v on =
    let agrees = agrees_on c.args.volume.now _ v c.requires.mounted on in
    let sizes = sizes_are c.args.volume.now on.image v on.vol agrees in
    let places =
    places_gained c.args.volume.now.ident.cluster c.args.count c.args.volume.now.map c.gain.new.map c.args.segs.now
    c.in_ok-longer.longer c.in_ok-longer.ensures.ok.gain sizes.some sizes.sectors
    (enough_free _ _ _ _ c.in_ok-longer.ensures.full) c.sectors.result c.sectors.ensures.count c.sectors.ensures.few in
    let those =
    those_gained c.args.volume.now.ident.cluster c.args.count c.args.volume.now.map c.gain.new.map c.args.segs.now
    c.in_ok-longer.longer c.in_ok-longer.ensures.ok.gain sizes.some c.sectors.result
    c.sectors.ensures.count in
    at_most_wanted _ c.args.count _ _ _ (wanted_calls _ c.args.count
    (has_mark_of (shape v) (is_gained (cluster_size v) c.args.segs.now c.in_ok-longer.longer)) (replicate 256 false)
    (map_sectors (shape v)) _ _
    (c.in-Ok.ensures.counts (has_mark_of (shape v) (is_gained (cluster_size v) c.args.segs.now c.in_ok-longer.longer))
    (map_sectors (shape v)) (wanted_gained c.args.volume.now on.image v on.vol agrees c.gain.new.map c.args.count
    c.args.segs.now c.in_ok-longer.longer c.in_ok-longer.ensures.ok c.sectors.result places those
    (c.requires.apart v on))))

pub returns-in-Err-clause-counts : goal.returns-in-Err-clause-counts
returns-in-Err-clause-counts g c =
    let m = c.requires.mounted in
    let agrees = m.agrees in
    let sizes = sizes_are c.args.volume.now m.on.image m.content m.on.vol agrees in
    let places =
    places_gained c.args.volume.now.ident.cluster c.args.count c.args.volume.now.map c.gain.new.map c.args.segs.now
    c.in_ok-longer.longer c.in_ok-longer.ensures.ok.gain sizes.some sizes.sectors
    (enough_free _ _ _ _ c.in_ok-longer.ensures.full) c.sectors.result c.sectors.ensures.count c.sectors.ensures.few in
    let those =
    those_gained c.args.volume.now.ident.cluster c.args.count c.args.volume.now.map c.gain.new.map c.args.segs.now
    c.in_ok-longer.longer c.in_ok-longer.ensures.ok.gain sizes.some c.sectors.result
    c.sectors.ensures.count in
    at_most_count _ _ _ _ _ (wanted_calls _ c.args.count (λ p. true) (replicate 256 false) (map_sectors (shape m.content)) _ _
    (c.in-Err.ensures.counts (λ p. true) (map_sectors (shape m.content))
    (wanted_all c.args.volume.now m.on.image m.content m.on.vol agrees c.gain.new.map c.args.count c.args.segs.now
    c.in_ok-longer.longer c.in_ok-longer.ensures.ok c.sectors.result places those)))

pub returns-in-Err-clause-marks : goal.returns-in-Err-clause-marks
returns-in-Err-clause-marks g c v on =
    let agrees = agrees_on c.args.volume.now _ v c.requires.mounted on in
    let sizes = sizes_are c.args.volume.now on.image v on.vol agrees in
    let places =
    places_gained c.args.volume.now.ident.cluster c.args.count c.args.volume.now.map c.gain.new.map c.args.segs.now
    c.in_ok-longer.longer c.in_ok-longer.ensures.ok.gain sizes.some sizes.sectors
    (enough_free _ _ _ _ c.in_ok-longer.ensures.full) c.sectors.result c.sectors.ensures.count c.sectors.ensures.few in
    let those =
    those_gained c.args.volume.now.ident.cluster c.args.count c.args.volume.now.map c.gain.new.map c.args.segs.now
    c.in_ok-longer.longer c.in_ok-longer.ensures.ok.gain sizes.some c.sectors.result
    c.sectors.ensures.count in
    at_most_all _ _ _ _ _ (wanted_calls _ c.args.count (λ p. true) (replicate 256 false) (map_sectors (shape v)) _ _
    (c.in-Err.ensures.counts (λ p. true) (map_sectors (shape v))
    (wanted_all c.args.volume.now on.image v on.vol agrees c.gain.new.map c.args.count c.args.segs.now
    c.in_ok-longer.longer c.in_ok-longer.ensures.ok c.sectors.result places those)))

pub write_marks-requires-clause-cached : goal.write_marks-requires-clause-cached
write_marks-requires-clause-cached g c = c.requires.mounted.cached
