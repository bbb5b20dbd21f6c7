use Rattle.std.proofs.Common.{◌∙◌, Err, refl, arith}
use Rattle.std.proofs.lemmas.List.{length-map}
use Rattle.file_drives.specs.Drives.{boxed_seen}
use Rattle.cold_start.proofs.FirstLemmas.{mounted-all, mounted-none, mounted-one, mounted-read-all, next-held, read-to}
use Rattle.cold_start.proofs.ReadLemmas.{fails-among, moves-then}
use Rattle.cold_start.proofs.mounting.mount_first.Goals as goal

pub loop-n-init : goal.loop-n-init
loop-n-init g c = record { so_far = mounted-none c.args.drives c.args.state.now _; terms = refl }

pub mount_one-requires-clause-drive : goal.mount_one-requires-clause-drive
mount_one-requires-clause-drive g c =
    let low = c.loop-n-test.true in
    let there = c.requires.there in
    let many = c.loop-n.invariant.so_far.read.as_many in
    let was = length-map c.args.devices.now.drives.items (boxed_seen (λ box. (g.dyn-1.0.entry box.vtable).1)) in
    let is = length-map c.loop-n.devices.drives.items (boxed_seen (λ box. (g.dyn-1.0.entry box.vtable).1)) in
    omega (arith, low, there, many, was, is)

pub mount_one-requires-clause-volume : goal.mount_one-requires-clause-volume
mount_one-requires-clause-volume g c =
    next-held c.loop-n.n c.args.drives c.args.state.now _ _ _ c.requires.volumes.volumes c.loop-n-test.true c.loop-n.invariant.so_far c.requires.volumes.as_many c.requires.volumes.hold

pub loop-n-preserved : goal.loop-n-preserved
loop-n-preserved g c =
    let there = c.requires.there in
    let was = length-map c.args.devices.now.drives.items (boxed_seen (λ box. (g.dyn-1.0.entry box.vtable).1)) in
    record {
      so_far = mounted-one c.loop-n.n c.args.drives c.args.state.now c.loop-n.state c.mount_one.new.state _ _ _
          c.loop-n-test.true (omega (arith, there, was)) c.loop-n.invariant.so_far c.in-Ok.ensures.mounts.read
          c.in-Ok.ensures.mounts.mounted c.in-Ok.ensures.mounts.moves;
      terms = c.in-Ok.ensures.terms_kept ∙ c.loop-n.invariant.terms;
    }

pub returns-in-Err-clause-mounts : goal.returns-in-Err-clause-mounts
returns-in-Err-clause-mounts g c =
    let there = c.requires.there in
    let was = length-map c.args.devices.now.drives.items (boxed_seen (λ box. (g.dyn-1.0.entry box.vtable).1)) in
    record {
      mounted = λ volumes many hold has. tt;
      read = mounted-read-all c.loop-n.n c.args.drives c.args.state.now c.loop-n.state c.mount_one.new.state _ _ _
          c.loop-n-test.true (omega (arith, there, was)) c.loop-n.invariant.so_far c.in-Err.ensures.mounts.read;
      moves = moves-then {A = Unit {0}} (Err c.in-Err.fault) _ _ _ c.loop-n.invariant.so_far.none c.in-Err.ensures.mounts.moves;
      among = fails-among {A = Unit {0}} (Err c.in-Err.fault) c.loop-n.n c.args.drives c.loop-n-test.true c.in-Err.ensures.mounts.fails;
    }

pub returns-clause-mounts : goal.returns-clause-mounts
returns-clause-mounts g c = record {
  mounted = λ volumes many hold has.
      mounted-all c.loop-n.n c.args.drives c.args.state.now _ _ _ volumes (omega (arith, c.loop-n-test.false)) c.loop-n.invariant.so_far many hold has;
  read = read-to c.loop-n.n c.args.drives c.args.state.now c.loop-n.state _ _ (omega (arith, c.loop-n-test.false, c.loop-n.auto.n-end)) c.loop-n.invariant.so_far;
  moves = c.loop-n.invariant.so_far.none;
  among = tt;
}
