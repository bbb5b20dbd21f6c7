use Rattle.std.proofs.Common.{◌≡◌, ◌≤◌, ◌+◌, Option, List, is_some, count_by, length, ap, None, Some, rules, subst, sym}
use Rattle.lock_model.specs.History.{dropped}
use Rattle.std.specs.Vec.{vec_capacity}
use Rattle.lock_model.specs.declared.lock.Held.{Held}
use Rattle.lock_model.specs.Locks.{Locks, lock_of}
use Rattle.lock_model.specs.Records.{AreLockRecords, Records, entered}
use Rattle.lock_model.proofs.Agreeing.{records-dropped}
use Rattle.record_locks.proofs.Room.{room-ended}
use Rattle.record_locks.proofs.records.Records.drop_lock.Goals as goal

pub invariant_of-self : goal.invariant_of-self
invariant_of-self c =
    let before : Records = record { locks = c.self.inside.locks; history = c.self.inside.history.items } in
    let after : Records = record { locks = c.release.new.self; history = c.push.new.history.items } in
    let is : lock_of c.self.inside.locks c.args.path ≡ Some c.in-Some.lock = search rules in
    let same : after ≡ entered before c.args.path None (dropped c.args.path c.in-Some.lock) = search rules in
    record {
      agree = subst (λ (records : Records). AreLockRecords records) (sym same) (records-dropped before c.args.path c.in-Some.lock is c.self.invariant.agree);
      room = subst (λ (held : List (Option Held)). length c.push.new.history.items + count_by is_some held ≤
          vec_capacity c.push.new.history) (sym (ap (λ (locks : Locks). locks.held) c.release.ensures.locks))
          (room-ended c.self.inside.history.items c.push.new.history.items c.entry.result c.self.inside.locks.held
          c.args.path c.in-Some.lock (vec_capacity c.self.inside.history) (vec_capacity c.push.new.history)
          c.push.ensures.items is c.self.invariant.room c.push.ensures.capacity);
    }
