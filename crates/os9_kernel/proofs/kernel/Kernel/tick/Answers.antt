use Rattle.std.proofs.Common.{Ok, refl, ap, arith}
use Rattle.file_drives.specs.Drives.{drive_views}
use Rattle.os9_kernel.specs.Outside.{outside}
use Rattle.os9_kernel.proofs.Holding.{holds-still}
use Rattle.os9_kernel.specs.declared.marks.Known.{Known}
use Rattle.os9_kernel.specs.declared.marks.Marks.TheVariants.{Everyone}
use Rattle.os9_kernel.proofs.Ticking.{known-after-tick, looked-after, raised, raised-is, tick-breaks, tick-then}
use Rattle.os9_kernel.proofs.kernel.Kernel.tick.Goals as goal

pub returns-in-Ok-true-clause-tick : goal.returns-in-Ok-true-clause-tick
returns-in-Ok-true-clause-tick g c =
    let old = c.args.self.now in
    let after = outside (λ box. (g.dyn-1.0.entry box.vtable).1) (λ box. (g.dyn-2.0.entry box.vtable).1) c.arrive_keys.new.devices in
    let kept = ap (λ drives. drive_views (λ box. (g.dyn-1.0.entry box.vtable).1) drives.items) c.arrive_keys.ensures.drives in
    let known : Known = record old.known { marks = Everyone } in record {
      step = λ ok s tied.
          let (next, arrives, there) = c.in-Ok-true.ensures.arrived refl (raised old _ s tied) (record { memory = tied.processes.memory; is = raised-is old _ s tied }) in
          tick-then old _ s tied c.arrive_keys.new.s c.arrive_keys.new.io 0 known (λ tick from below. absurd (omega (arith, below)))
          (λ tick p cause from below few waits clear. absurd (clear tt)) after next kept arrives there;
      broken = λ err. cc;
      drives = kept;
      count = c.arrive_keys.ensures.tick;
    }

pub returns-in-Ok-false-clause-tick : goal.returns-in-Ok-false-clause-tick
returns-in-Ok-false-clause-tick g c =
    let old = c.args.self.now in
    let after = outside (λ box. (g.dyn-1.0.entry box.vtable).1) (λ box. (g.dyn-2.0.entry box.vtable).1) c.arrive_keys.new.devices in
    let kept = ap (λ drives. drive_views (λ box. (g.dyn-1.0.entry box.vtable).1) drives.items) c.arrive_keys.ensures.drives in
    let (same, same_io) = c.in-Ok-false.ensures.quiet (ap Ok c.in-Ok-false.field-0-test) in record {
      step = λ ok s tied.
          let (next, arrives, there) = c.in-Ok-false.ensures.arrived refl (raised old _ s tied) (record { memory = tied.processes.memory; is = raised-is old _ s tied }) in
          let looked = looked-after old _ s tied c.arrive_keys.new.s c.arrive_keys.new.io c.arrive_keys.ensures.tick same_io _ same (λ may tick active. active) in
          let known = known-after-tick old _ s tied c.arrive_keys.new.s c.arrive_keys.new.io c.arrive_keys.ensures.tick same_io in
          tick-then old _ s tied c.arrive_keys.new.s c.arrive_keys.new.io old.looked_until old.known looked known after next kept arrives there;
      broken = λ err. cc;
      drives = kept;
      count = c.arrive_keys.ensures.tick;
    }

pub returns-in-Err-clause-tick : goal.returns-in-Err-clause-tick
returns-in-Err-clause-tick g c =
    let old = c.args.self.now in
    let after = outside (λ box. (g.dyn-1.0.entry box.vtable).1) (λ box. (g.dyn-2.0.entry box.vtable).1) c.arrive_keys.new.devices in
    let kept = ap (λ drives. drive_views (λ box. (g.dyn-1.0.entry box.vtable).1) drives.items) c.arrive_keys.ensures.drives in record {
      step = λ ok. cc;
      broken = λ err s tied.
          let (polled, between, arrives, there, breaks) = c.in-Err.ensures.broken refl (raised old _ s tied) (record { memory = tied.processes.memory; is = raised-is old _ s tied }) in
          (tick-breaks old _ s tied polled between _ _ arrives breaks, holds-still old _ s tied after kept);
      drives = kept;
      count = c.arrive_keys.ensures.tick;
    }
