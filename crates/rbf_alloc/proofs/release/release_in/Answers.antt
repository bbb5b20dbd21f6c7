use Rattle.std.proofs.Common.{ap, sym, subst, arith}
use Rattle.std.proofs.lemmas.Result.{err_from_is_err_and}
use Rattle.rbf_change.specs.Agrees.{MountedPart}
use Rattle.rbf_access.specs.Mounted.{mounted_part}
use Rattle.rbf_alloc.specs.Own.{in_own, here, AreInMap, ClearsMarks}
use Rattle.rbf_alloc.proofs.Releasing.{go_sector, go_in_map, go_positive, clears_nothing, clears_next, go_sound, none_if, some_if}
use Rattle.rbf_alloc.proofs.release.release_in.Goals as goal

pub first_in-requires : goal.first_in-requires
first_in-requires g c = go_positive _ c.args.place _ (mounted_part c.args.volume.now) c.requires.go

pub returns-then-is_none-clause-answer : goal.returns-then-is_none-clause-answer
returns-then-is_none-clause-answer g c = clears_nothing _ c.args.place _ (mounted_part c.args.volume.now) (none_if c.first_in.result _ _ c.if-is_none.ensures c.first_in.ensures)

pub clear_own-requires : goal.clear_own-requires
clear_own-requires g c = go_positive _ c.args.place _ (mounted_part c.args.volume.now) c.requires.go

pub store-requires-clause-on : goal.store-requires-clause-on
store-requires-clause-on g c =
    let there = go_sector _ c.args.place _ (mounted_part c.args.volume.now) c.requires.go in
    let place = c.from.ensures in
    omega arith

pub free_own-requires-clause-in_map : goal.free_own-requires-clause-in_map
free_own-requires-clause-in_map g c =
    let same = ap (λ (kv : MountedPart). kv.map) c.in_ok-store.ensures.volume_kept in
    subst (AreInMap (in_own c.args.volume.now.ident.cluster c.args.own.now)) (sym same) (go_in_map _ c.args.place _ (mounted_part c.args.volume.now) c.requires.go)

pub returns-clause-answer : goal.returns-clause-answer
returns-clause-answer g c =
    let same = c.in_ok-store.ensures.volume_kept in
    let gone = in_own c.args.volume.now.ident.cluster c.args.own.now in
    clears_next gone c.args.place _ _ _ (mounted_part c.args.volume.now) _ c.sector.new.into c.clear_own.new.bytes c.free_own.new.map c.sector.ensures (c.clear_own.array_long) c.clear_own.ensures
    c.from.ensures c.in_ok-store.ensures.written
    (subst (λ m. ClearsMarks m c.free_own.new.map (here gone c.args.place)) (ap (λ (kv : MountedPart). kv.map) same) c.free_own.ensures)
    (ap (λ (kv : MountedPart). record { sizes = kv.sizes; map = c.free_own.new.map }) same)

pub store-requires-clause-sound : goal.store-requires-clause-sound
store-requires-clause-sound g c =
    go_sound (in_own c.args.volume.now.ident.cluster c.args.own.now) c.args.place _ _ (mounted_part c.args.volume.now)
    c.sector.new.into c.clear_own.new.bytes c.sector.ensures (c.clear_own.array_long) c.clear_own.ensures
    c.from.ensures c.requires.go

pub returns-in_err-store-clause-answer : goal.returns-in_err-store-clause-answer
returns-in_err-store-clause-answer g c =
    let p = err_from_is_err_and c.from_residual.result c.from_residual.ensures.1 in
    rw p.1
    (record {
      some = some_if c.first_in.result _ _ c.if-is_none.ensures c.first_in.ensures;
      media_kept = c.in_err-store.ensures.media_kept;
      volume_kept = c.in_err-store.ensures.volume_kept;
    })
