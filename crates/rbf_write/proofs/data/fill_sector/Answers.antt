use Rattle.std.proofs.Common.{◌+◌, slice_index, refl, ap, ◌∙◌, arith}
use Rattle.std.proofs.lemmas.Result.{on_ok_weaker}
use Rattle.os9_outer.specs.Drive.{with_sector}
use Rattle.rbf_access.proofs.Caching.{held_used, held_is}
use Rattle.rbf_write.specs.Laid.{laid_byte}
use Rattle.rbf_write.proofs.LaidSector.{covered, lays_zeros}
use Rattle.rbf_write.proofs.data.fill_sector.Goals as goal

pub store-requires-clause-sound : goal.store-requires-clause-sound
store-requires-clause-sound g c =
    c.requires.sound _ (lays_zeros c.args.size c.args.write.at c.args.write.bytes.now c.args.sector.start c.args.sector.lsn _ _ (c.is_zeros.ensures c.if-is_zeros.true) refl)

pub sector-held-requires : goal.sector-held-requires
sector-held-requires g c = held_used c.args.sector.lsn c.args.volume.now.cache c.bring.new.self.cache c.in_ok-bring.ensures.used

pub store-requires-in-Some-clause-sound : goal.store-requires-in-Some-clause-sound
store-requires-in-Some-clause-sound g c =
    c.requires.sound _
    (record {
      bytes = c.in-Some.whole;
      whole = c.in-Some.ensures.whole;
      each = λ q low. covered c.args.sector.start c.args.write.at c.args.size c.args.write.bytes.now c.in-Some.whole c.in-Some.ensures q _ low;
      media = refl;
    })

pub store-requires-2-clause-sound : goal.store-requires-2-clause-sound
store-requires-2-clause-sound g c =
    let read = c.in_ok-bring.ensures in
    let there = held_is _ _ c.bring.new.self.cache c.args.sector.lsn _ read.media_kept read.cached c.sector-held.ensures in
    c.requires.sound _
    (record {
      bytes = c.lay.new.bytes;
      whole = omega arith;
      each = λ q low. c.lay.ensures q low ∙ ap (λ b. laid_byte c.args.size c.args.write.at c.args.write.bytes.now (c.args.sector.start + q) (slice_index b q)) there;
      media = ap (λ m. with_sector m c.args.sector.lsn c.lay.new.bytes) read.media_kept;
    })

pub returns-then-is_zeros-clause-lays : goal.returns-then-is_zeros-clause-lays
returns-then-is_zeros-clause-lays g c =
    on_ok_weaker c.store.result
    (λ written. lays_zeros c.args.size c.args.write.at c.args.write.bytes.now c.args.sector.start c.args.sector.lsn _ _ (c.is_zeros.ensures c.if-is_zeros.true) written)
    c.store.ensures.written

pub returns-clause-lays : goal.returns-clause-lays
returns-clause-lays g c =
    let read = c.in_ok-bring.ensures in
    let there = held_is _ _ c.bring.new.self.cache c.args.sector.lsn _ read.media_kept read.cached c.sector-held.ensures in
    record {
      bytes = c.lay.new.bytes;
      whole = omega arith;
      each = λ q low. c.lay.ensures q low ∙ ap (λ b. laid_byte c.args.size c.args.write.at c.args.write.bytes.now (c.args.sector.start + q) (slice_index b q)) there;
      media = c.in_ok-store.ensures.written ∙ ap (λ m. with_sector m c.args.sector.lsn c.lay.new.bytes) read.media_kept;
    }
