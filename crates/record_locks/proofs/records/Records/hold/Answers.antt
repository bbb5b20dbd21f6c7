use Rattle.std.proofs.Common.{◌≡◌, ◌≤◌, ◌+◌, ◌++◌, ◌∷◌, [], length, rules, subst, sym}
use Rattle.lock_model.specs.Laws.{MayHold}
use Rattle.std.specs.Vec.{vec_capacity}
use Rattle.lock_model.specs.Records.{AreLockRecords, Records, holding}
use Rattle.lock_model.proofs.Agreeing.{records-held}
use Rattle.record_locks.proofs.Room.{room-entered}
use Rattle.record_locks.proofs.records.Records.hold.Goals as goal

pub invariant_of-self-2 : goal.invariant_of-self-2
invariant_of-self-2 c =
    let before : Records = record { locks = c.self.inside.locks; history = c.self.inside.history.items } in
    let after : Records = record { locks = c.grant.new.self; history = c.push.new.history.items } in
    let same : after ≡ holding before c.args.path c.args.lock c.args.bytes.now = search rules in
    let may : MayHold before.locks c.args.lock = subst (λ (records : Records). MayHold records.locks c.args.lock) (sym c.self.view_is) c.requires.may in
    let entered : c.push.new.history.items ≡ c.self.inside.history.items ++ c.entry.result ∷ [] = search rules in
    let ample : length c.self.inside.history.items + 66 ≤ vec_capacity c.make_room.new.history = search rules in
    record {
      agree = subst (λ (records : Records). AreLockRecords records) (sym same) (records-held before c.args.path c.args.lock c.args.bytes.now c.requires.path may c.self.invariant.agree);
      room = room-entered c.self.inside.history.items c.push.new.history.items c.entry.result c.grant.new.self.held
          (vec_capacity c.make_room.new.history) (vec_capacity c.push.new.history) entered c.grant.ensures.kept.paths
          ample c.push.ensures.capacity;
    }
