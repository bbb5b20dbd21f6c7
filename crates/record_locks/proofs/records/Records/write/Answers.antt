use Rattle.std.proofs.Common.{◌≡◌, ◌≤◌, ◌+◌, ◌++◌, ◌∷◌, [], length, false, rules, subst, sym}
use Rattle.lock_model.specs.Conflict.{conflicts}
use Rattle.std.specs.Vec.{vec_capacity}
use Rattle.lock_model.specs.Records.{AreLockRecords, Records, written_by}
use Rattle.lock_model.proofs.Agreeing.{records-written}
use Rattle.record_locks.proofs.Room.{room-entered}
use Rattle.record_locks.proofs.records.Records.write.Goals as goal

pub invariant_of-self-2 : goal.invariant_of-self-2
invariant_of-self-2 c =
    let before : Records = record { locks = c.self.inside.locks; history = c.self.inside.history.items } in
    let after : Records = record { locks = c.release.new.self; history = c.push.new.history.items } in
    let same : after ≡ written_by before c.args.path c.args.lock c.args.bytes.now = search rules in
    let free : conflicts before.locks c.args.lock ≡ false = subst (λ (records : Records). conflicts records.locks c.args.lock ≡ false) (sym c.self.view_is) c.requires.free in
    let entered : c.push.new.history.items ≡ c.self.inside.history.items ++ c.entry.result ∷ [] = search rules in
    let ample : length c.self.inside.history.items + 66 ≤ vec_capacity c.make_room.new.history = search rules in
    record {
      agree = subst (λ (records : Records). AreLockRecords records) (sym same) (records-written before c.args.path c.args.lock c.args.bytes.now c.requires.path free c.self.invariant.agree);
      room = room-entered c.self.inside.history.items c.push.new.history.items c.entry.result c.release.new.self.held
          (vec_capacity c.make_room.new.history) (vec_capacity c.push.new.history) entered
          c.release.ensures.kept.paths ample c.push.ensures.capacity;
    }
