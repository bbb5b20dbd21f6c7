use Rattle.std.proofs.Common.{◌≡◌, ◌<◌, ◌+◌, ◌∙◌, suc, length, arith}
use Rattle.std.proofs.lemmas.List.{length-set}
use Rattle.boot_run.proofs.DriveLemmas.{behind-more, holds-more, next-empty, still-there}
use Rattle.boot_run.proofs.drives.insert_images.Goals as goal

pub insert_on-requires-clause-empty : goal.insert_on-requires-clause-empty
insert_on-requires-clause-empty g c drive is =
    next-empty c.loop-number.number c.args.images.now _ drive c.requires.empty (rw c.loop-number.invariant.held at is)

pub loop-number-preserved : goal.loop-number-preserved
loop-number-preserved g c =
    let so_far = c.loop-number.invariant in
    let moved = c.replace-image.ensures in
    let put = c.insert_on.ensures in
    let below : c.loop-number.number < length c.args.images.now = omega (arith, c.len-number-end.ensures) in
    let next : c.loop-number.number + 1 ≡ suc c.loop-number.number = omega arith in
    record {
      within = omega arith;
      count = rw (moved.replaced, length-set) so_far.count;
      behind = rw (moved.replaced, next) (behind-more c.loop-number.number c.loop-number.images c.args.images.now c.new.result.items so_far.behind);
      drives = put.drives ∙ so_far.drives;
      held = rw next (holds-more c.loop-number.number c.args.images.now c.replace-image.result.items _ _ _
          (still-there c.loop-number.number c.loop-number.images c.args.images.now c.replace-image.result.items
          so_far.behind moved.handed_out) so_far.held put.drive);
      terms = put.terms_kept ∙ so_far.terms;
    }
