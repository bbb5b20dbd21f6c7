use Rattle.std.proofs.Common.{Err, IsSome, refl, ap, sym, subst, ◌∙◌}
use Rattle.std.proofs.lemmas.Result.{err_from_is_err_and}
use Rattle.rbf_alloc.proofs.Growing.{sizes_are}
use Rattle.rbf_access.proofs.Reading.{mounted_still}
use Rattle.rbf_entries.proofs.Stored.{mounted_now, stored_sound}
use Rattle.rbf_entries.proofs.Making.{number_is, number_on_drive, stored, is_made, unwritten, makes_ok, makes_fault, makes_refused, empty_grows, first_there, number_few, kept_cluster, fd_as, refused_as}
use Rattle.rbf_entries.proofs.made.create_fd.Goals as goal

pub returns-in_err-space-clause-makes : goal.returns-in_err-space-clause-makes
returns-in_err-space-clause-makes g c v on =
    let p = err_from_is_err_and c.from_residual.result c.from_residual.ensures.1 in
    makes_refused _ _ v on c.args.attr c.args.owner c.args.now c.in_err-space.field-0.0 _ (p.1 ∙ ap Err p.2) (empty_grows v _ _ c.empty.result _ c.empty.ensures (c.in_err-space.ensures.grows v on))

pub returns-in_err-space-clause-refused : goal.returns-in_err-space-clause-refused
returns-in_err-space-clause-refused g c =
    let p = err_from_is_err_and c.from_residual.result c.from_residual.ensures.1 in
    refused_as c.in_err-space.field-0.0 _ _ _ (p.1 ∙ ap Err p.2) c.in_err-space.ensures.refused

pub unwrap-n-requires : goal.unwrap-n-requires
unwrap-n-requires g c =
    let m = c.requires.mounted in
    let grows = empty_grows m.content _ _ c.empty.result _ c.empty.ensures (c.in_ok-space.ensures.grows m.content m.on) in
    subst IsSome (sym c.lsn_of.ensures) (first_there _ _ m.content m.on c.args.attr c.args.owner c.args.now c.in_ok-space.space grows.grown)

pub first_segs-segs-requires-clause-some : goal.first_segs-segs-requires-clause-some
first_segs-segs-requires-clause-some g c =
    let m = c.in_ok-space.ensures.mounted in
    (sizes_are c.grow.new.volume m.on.image m.content m.on.vol m.agrees).some

pub first_segs-segs-requires-clause-low : goal.first_segs-segs-requires-clause-low
first_segs-segs-requires-clause-low g c =
    let m = c.requires.mounted in
    let grows = empty_grows m.content _ _ c.empty.result _ c.empty.ensures (c.in_ok-space.ensures.grows m.content m.on) in
    let grown = grows.grown in
    number_few _ _ m.content m.on c.args.attr c.args.owner c.args.now c.in_ok-space.space grown c.unwrap-n.result
    (number_is _ m.content m.on c.args.attr c.args.owner c.args.now grown.taken grown.chosen c.in_ok-space.space c.unwrap-n.result grown.segments (sym c.lsn_of.ensures ∙ c.unwrap-n.ensures))

pub store-requires-clause-cached : goal.store-requires-clause-cached
store-requires-clause-cached g c = c.in_ok-space.ensures.mounted.cached

pub store-requires-clause-sound : goal.store-requires-clause-sound
store-requires-clause-sound g c =
    let m = c.requires.mounted in
    let grows = empty_grows m.content _ _ c.empty.result _ c.empty.ensures (c.in_ok-space.ensures.grows m.content m.on) in
    let grown = grows.grown in
    let number =
    number_is _ m.content m.on c.args.attr c.args.owner c.args.now grown.taken grown.chosen c.in_ok-space.space
    c.unwrap-n.result grown.segments (sym c.lsn_of.ensures ∙ c.unwrap-n.ensures) in
    stored_sound _ _ _ _ (stored _ _ m.content m.on c.args.attr c.args.owner c.args.now c.in_ok-space.space grown c.unwrap-n.result number c.descriptor.result c.descriptor.ensures.whole _ refl)

pub store-requires-clause-on : goal.store-requires-clause-on
store-requires-clause-on g c =
    let m = c.requires.mounted in
    let grows = empty_grows m.content _ _ c.empty.result _ c.empty.ensures (c.in_ok-space.ensures.grows m.content m.on) in
    let grown = grows.grown in
    number_on_drive _ _ m.content m.on c.args.attr c.args.owner c.args.now c.in_ok-space.space grown c.unwrap-n.result
    (number_is _ m.content m.on c.args.attr c.args.owner c.args.now grown.taken grown.chosen c.in_ok-space.space c.unwrap-n.result grown.segments (sym c.lsn_of.ensures ∙ c.unwrap-n.ensures))
    c.descriptor.result c.descriptor.ensures.whole

pub returns-in_err-store-clause-makes : goal.returns-in_err-store-clause-makes
returns-in_err-store-clause-makes g c v on =
    let p = err_from_is_err_and c.from_residual-in_err-store.result c.from_residual-in_err-store.ensures.1 in
    let grows = empty_grows v _ _ c.empty.result _ c.empty.ensures (c.in_ok-space.ensures.grows v on) in
    let grown = grows.grown in
    makes_fault _ _ _ v on c.args.attr c.args.owner c.args.now c.in_ok-space.space c.in_err-store.field-0.0 _ (p.1 ∙ ap Err p.2) c.in_err-store.ensures.device grows
    (unwritten _ _ v on c.args.attr c.args.owner c.args.now c.in_ok-space.space grown c.unwrap-n.result
    (number_is _ v on c.args.attr c.args.owner c.args.now grown.taken grown.chosen c.in_ok-space.space c.unwrap-n.result
    grown.segments (sym c.lsn_of.ensures ∙ c.unwrap-n.ensures)) _ c.in_err-store.ensures.media_kept)

pub returns-in_err-store-clause-mounted : goal.returns-in_err-store-clause-mounted
returns-in_err-store-clause-mounted g c = mounted_still _ _ _ _ c.in_err-store.ensures.volume_kept c.in_err-store.ensures.media_kept c.in_err-store.ensures.cached c.in_ok-space.ensures.mounted

pub returns-clause-makes : goal.returns-clause-makes
returns-clause-makes g c v on =
    let grows = empty_grows v _ _ c.empty.result _ c.empty.ensures (c.in_ok-space.ensures.grows v on) in
    let grown = grows.grown in
    let m = number_is _ v on c.args.attr c.args.owner c.args.now grown.taken grown.chosen c.in_ok-space.space c.unwrap-n.result grown.segments (sym c.lsn_of.ensures ∙ c.unwrap-n.ensures) in
    makes_ok _ _ _ v on c.args.attr c.args.owner c.args.now c.in_ok-space.space c.unwrap-n.result grows
    (is_made _ _ v on c.args.attr c.args.owner c.args.now c.in_ok-space.space grown c.unwrap-n.result m
    c.descriptor.result c.descriptor.ensures.whole c.new_file-file.result c.descriptor.ensures.fields
    c.descriptor.ensures.rest
    (fd_as c.new_file-file.result c.args.attr c.args.owner c.args.now c.grow.new.volume.ident.cluster _ c.unwrap-n.result c.first_segs-segs.result c.new_file-file.ensures c.first_segs-segs.ensures
    (kept_cluster c.grow.new.volume _ _ v c.in_ok-space.space grown c.in_ok-space.ensures.mounted))
    c.requires.file _ c.in_ok-store.ensures.written)

pub returns-clause-mounted : goal.returns-clause-mounted
returns-clause-mounted g c =
    let m = c.requires.mounted in
    let grows = empty_grows m.content _ _ c.empty.result _ c.empty.ensures (c.in_ok-space.ensures.grows m.content m.on) in
    let grown = grows.grown in
    let number =
    number_is _ m.content m.on c.args.attr c.args.owner c.args.now grown.taken grown.chosen c.in_ok-space.space
    c.unwrap-n.result grown.segments (sym c.lsn_of.ensures ∙ c.unwrap-n.ensures) in
    mounted_now _ _ _ _ (stored _ _ m.content m.on c.args.attr c.args.owner c.args.now c.in_ok-space.space grown
    c.unwrap-n.result number c.descriptor.result c.descriptor.ensures.whole _ c.in_ok-store.ensures.written)
    c.grow.new.volume c.store.new.self c.in_ok-store.ensures.volume_kept c.in_ok-store.ensures.cached c.in_ok-space.ensures.mounted
