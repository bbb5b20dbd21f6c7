use Rattle.std.proofs.Common.{◌/◌, ◌<◌, min, length, IsSome, sym, subst, ◌∙◌, refl, arith, rules}
use Rattle.std.proofs.lemmas.Result.{err_from_is_err_and}
use Rattle.std.proofs.lemmas.Option.{slice_get-get_or}
use Rattle.rbf_model.specs.Segments.{sectors_of}
use Rattle.rbf_write.proofs.Filling.{place_on, place_sound, more_filled, part_filled, fill_fault, fill_done, fill_counts, first_as, laid_mounted}
use Rattle.rbf_write.proofs.data.fill.Goals as goal

pub loop-place-init : goal.loop-place-init
loop-place-init g c =
    first_as c.args.file.segs.now c.args.file.size c.args.write.at c.args.write.bytes.now c.requires.may.room _
    (min c.args.file.size c.args.write.at / 256) (c.min-first.result / 256) _ _ _ c.requires.mounted.cached refl
    (omega arith)

pub unwrap-requires : goal.unwrap-requires
unwrap-requires g c =
    let low : c.loop-place.place < length (sectors_of c.args.file.segs.now) = (let room = c.requires.may.room in omega arith) in
    subst IsSome (sym (c.lsn_of.ensures ∙ slice_get-get_or (sectors_of c.args.file.segs.now) c.loop-place.place 0 low)) refl

pub fill_sector-requires-clause-cached : goal.fill_sector-requires-clause-cached
fill_sector-requires-clause-cached g c = c.loop-place.invariant.cached

pub fill_sector-requires-clause-sound : goal.fill_sector-requires-clause-sound
fill_sector-requires-clause-sound g c =
    place_sound c.args.file.segs.now c.args.file.size c.args.write.at c.args.write.bytes.now c.requires.may.room _ _ c.loop-place.place _ _ _ _ _ _ c.loop-place.invariant c.unwrap.result
    (let room = c.requires.may.room in omega arith) (sym c.lsn_of.ensures ∙ c.unwrap.ensures) c.requires.may.held

pub fill_sector-requires-clause-on : goal.fill_sector-requires-clause-on
fill_sector-requires-clause-on g c =
    place_on c.args.file.segs.now c.args.file.size c.args.write.at c.args.write.bytes.now c.requires.may.room _ _ c.loop-place.place _ _ _ _ _ _ c.loop-place.invariant c.unwrap.result
    (let room = c.requires.may.room in omega arith) (sym c.lsn_of.ensures ∙ c.unwrap.ensures) c.requires.may.held

pub returns-in_err-fill_sector-clause-fills : goal.returns-in_err-fill_sector-clause-fills
returns-in_err-fill_sector-clause-fills g c u n file on known =
    let p = err_from_is_err_and c.from_residual.result c.from_residual.ensures.1 in
    rw p.1
    record {
      laid = search rules;
      part = part_filled c.args.file.segs.now c.args.file.size c.args.write.at c.args.write.bytes.now c.requires.may.room _ _ c.loop-place.place _ _ _ _ _ _ c.loop-place.invariant _ refl
          (omega arith) (omega arith) c.in_err-fill_sector.ensures.media_kept u n file on known;
    }

pub returns-in_err-fill_sector-clause-counts : goal.returns-in_err-fill_sector-clause-counts
returns-in_err-fill_sector-clause-counts g c =
    let p = err_from_is_err_and c.from_residual.result c.from_residual.ensures.1 in
    rw (p.1, p.2)
    (fill_fault c.args.file.segs.now c.args.file.size c.args.write.at c.args.write.bytes.now c.requires.may.room _ _ c.loop-place.place _ _ _ _ _ _ c.loop-place.invariant _ _ refl
    (omega arith) (omega arith) c.requires.may.some c.in_err-fill_sector.ensures.counts)

pub loop-place-preserved : goal.loop-place-preserved
loop-place-preserved g c =
    more_filled c.args.file.segs.now c.args.file.size c.args.write.at c.args.write.bytes.now c.requires.may.room _ _ c.loop-place.place _ _ _ _ _ _ c.loop-place.invariant c.unwrap.result _ _ _ _
    (omega arith) (let room = c.requires.may.room in omega arith) (sym c.lsn_of.ensures ∙ c.unwrap.ensures)
    c.in_ok-fill_sector.ensures.lays c.in_ok-fill_sector.ensures.volume_kept c.in_ok-fill_sector.ensures.cached c.in_ok-fill_sector.ensures.counts

pub returns-clause-fills : goal.returns-clause-fills
returns-clause-fills g c u n file on known =
    record {
      laid = fill_done c.args.file.segs.now c.args.file.size c.args.write.at c.args.write.bytes.now c.requires.may.room _ _ c.loop-place.place _ _ _ _ _ _ c.loop-place.invariant u n file on known
          (let room = c.requires.may.room in omega arith) (omega arith);
      part = search rules;
    }

pub returns-clause-counts : goal.returns-clause-counts
returns-clause-counts g c =
    fill_counts c.args.file.segs.now c.args.file.size c.args.write.at c.args.write.bytes.now c.requires.may.room _ _ c.loop-place.place _ _ _ _ _ _ c.loop-place.invariant refl
    (omega arith) c.requires.may.some

pub returns-in_err-fill_sector-clause-mounted : goal.returns-in_err-fill_sector-clause-mounted
returns-in_err-fill_sector-clause-mounted g c =
    let has = c.requires.may.held in
    let part = part_filled c.args.file.segs.now c.args.file.size c.args.write.at c.args.write.bytes.now c.requires.may.room _ _ c.loop-place.place _ _ _ _ _ _ c.loop-place.invariant _ refl
    (omega arith) (omega arith) c.in_err-fill_sector.ensures.media_kept has.volume has.number has.file has.on has.is in
    laid_mounted _ _ _ _ has.volume has.number has.file _ _ _ c.requires.mounted has.on has.is part.laid
    (c.in_err-fill_sector.ensures.volume_kept ∙ c.loop-place.invariant.same) c.in_err-fill_sector.ensures.cached

pub returns-clause-mounted : goal.returns-clause-mounted
returns-clause-mounted g c =
    let has = c.requires.may.held in
    let laid =
    fill_done c.args.file.segs.now c.args.file.size c.args.write.at c.args.write.bytes.now c.requires.may.room _ _ c.loop-place.place _ _ _ _ _
    _ c.loop-place.invariant has.volume has.number has.file has.on has.is
    (let room = c.requires.may.room in omega arith) (omega arith) in
    laid_mounted _ _ _ _ has.volume has.number has.file _ _ _ c.requires.mounted has.on has.is laid c.loop-place.invariant.same c.loop-place.invariant.cached
