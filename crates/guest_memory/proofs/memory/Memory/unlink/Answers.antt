use Rattle.guest_memory.proofs.LinkCalls.{sound-unlink_stays, tied-unlink_stays, leaves_not, gone-live, gone-different, sound-unlink_leaves, tied-unlink_leaves, leaves_so}
use Rattle.guest_memory.proofs.memory.Memory.unlink.Goals as goal

pub give_group-requires-clause-live : goal.give_group-requires-clause-live
give_group-requires-clause-live c =
    let m = c.args.self.now in
    gone-live m.pool m.maps.items m.dir m.sound c.args.id.0 c.requires c.unlink.new.self c.unlink.result c.unlink.ensures.list c.unlink.ensures.group c.in-Some.group c.in-Some.is

pub give_group-requires-clause-different : goal.give_group-requires-clause-different
give_group-requires-clause-different c =
    let m = c.args.self.now in
    gone-different m.pool m.maps.items m.dir m.sound c.args.id.0 c.requires c.unlink.new.self c.unlink.result c.unlink.ensures.list c.unlink.ensures.group c.in-Some.group c.in-Some.is

pub invariant_of-self : goal.invariant_of-self
invariant_of-self c =
    let m = c.args.self.now in record {
      sound = sound-unlink_leaves m.pool m.maps.items m.dir m.sound c.args.id.0 c.requires c.unlink.new.self
          c.unlink.result c.unlink.ensures.list c.unlink.ensures.group c.in-Some.group c.in-Some.is
          c.give_group.new.pool c.give_group.ensures.given c.give_group.ensures.shape;
    }

pub invariant_of-self-in-None : goal.invariant_of-self-in-None
invariant_of-self-in-None c =
    let m = c.args.self.now in record {
      sound = sound-unlink_stays m.pool m.maps.items m.dir m.sound c.args.id.0 c.requires c.unlink.new.self c.unlink.result c.unlink.ensures.list c.unlink.ensures.group c.in-None.is;
    }

pub returns-in-Some-clause-less : goal.returns-in-Some-clause-less
returns-in-Some-clause-less c =
    let m = c.args.self.now in
    tied-unlink_leaves m.pool m.maps.items m.dir m.sound c.args.id.0 c.requires c.unlink.new.self c.unlink.result
    c.unlink.ensures.list c.unlink.ensures.group c.in-Some.group c.in-Some.is c.give_group.new.pool
    c.give_group.ensures.given

pub returns-in-Some-clause-leaves : goal.returns-in-Some-clause-leaves
returns-in-Some-clause-leaves c =
    let m = c.args.self.now in
    leaves_so m.pool m.maps.items m.dir m.sound c.args.id.0 c.requires c.unlink.new.self c.unlink.result
    c.unlink.ensures.list c.unlink.ensures.group c.in-Some.group c.in-Some.is c.give_group.new.pool
    c.give_group.ensures.given

pub returns-in-None-clause-less : goal.returns-in-None-clause-less
returns-in-None-clause-less c =
    let m = c.args.self.now in
    tied-unlink_stays m.pool m.maps.items m.dir m.sound c.args.id.0 c.requires c.unlink.new.self c.unlink.result c.unlink.ensures.list c.unlink.ensures.group c.in-None.is

pub returns-in-None-clause-leaves : goal.returns-in-None-clause-leaves
returns-in-None-clause-leaves c =
    let m = c.args.self.now in
    leaves_not m.pool m.maps.items m.dir m.sound c.args.id.0 c.requires c.unlink.new.self c.unlink.result c.unlink.ensures.list c.unlink.ensures.group c.in-None.is
