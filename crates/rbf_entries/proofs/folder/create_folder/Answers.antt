use Rattle.std.proofs.Common.{◌≡◌, ℕ, List, Err, IsSome, refl, ◌+◌, ap, sym, subst, ◌∙◌, arith}
use Rattle.std.proofs.lemmas.Result.{err_from_is_err_and}
use Rattle.rbf_change.specs.Calls.{cluster_size}
use Rattle.rbf_change.specs.NewFiles.{file_clusters}
use Rattle.rbf_access.proofs.Counting.{counts_then}
use Rattle.rbf_access.proofs.Reading.{mounted_still}
use Rattle.rbf_alloc.proofs.Growing.{sizes_are}
use Rattle.rbf_entries.proofs.Stored.{mounted_now, stored_sound}
use Rattle.rbf_entries.proofs.Making.{refused_as}
use Rattle.rbf_entries.proofs.FolderCounted.{fault_calls, made_calls}
use Rattle.rbf_entries.proofs.FolderMaking.{kept_size, empty_grows, folder_refused, folder_fault, taken_or, number_there, first_there, m_low, f_low, f_on_drive, listed_stored, unlisted, ends_undescribed, m_on_drive, described_stored, made_as, marks_as}
use Rattle.rbf_entries.proofs.folder.create_folder.Goals as goal

pub returns-in_err-space-clause-makes : goal.returns-in_err-space-clause-makes
returns-in_err-space-clause-makes g c v on =
    let p = err_from_is_err_and c.from_residual.result c.from_residual.ensures.1 in
    folder_refused _ _ v on c.args.folder.parent c.args.folder.attr c.args.folder.owner c.args.folder.date c.in_err-space.field-0.0 _
    (p.1 ∙ ap Err p.2) (empty_grows v _ _ c.empty.result c.args.volume.now.ident.cluster c.new_clusters.result _
    c.empty.ensures c.new_clusters.ensures.value (kept_size c.args.volume.now _ v c.requires.mounted on)
    (c.in_err-space.ensures.grows v on))

pub returns-in_err-space-clause-refused : goal.returns-in_err-space-clause-refused
returns-in_err-space-clause-refused g c =
    let p = err_from_is_err_and c.from_residual.result c.from_residual.ensures.1 in
    refused_as c.in_err-space.field-0.0 _ _ _ (p.1 ∙ ap Err p.2) c.in_err-space.ensures.refused

pub unwrap-n-requires : goal.unwrap-n-requires
unwrap-n-requires g c =
    let m = c.requires.mounted in
    let grows =
    empty_grows m.content _ _ c.empty.result c.args.volume.now.ident.cluster c.new_clusters.result _ c.empty.ensures
    c.new_clusters.ensures.value (kept_size c.args.volume.now _ m.content c.requires.mounted m.on)
    (c.in_ok-space.ensures.grows m.content m.on) in
    subst IsSome (sym c.lsn_of.ensures) (number_there _ m.content m.on c.args.folder.parent c.args.folder.attr c.args.folder.owner c.args.folder.date grows.grown.taken
    grows.grown.chosen c.in_ok-space.space grows.grown.segments)

pub unwrap-first-requires : goal.unwrap-first-requires
unwrap-first-requires g c =
    let m = c.requires.mounted in
    let grows =
    empty_grows m.content _ _ c.empty.result c.args.volume.now.ident.cluster c.new_clusters.result _ c.empty.ensures
    c.new_clusters.ensures.value (kept_size c.args.volume.now _ m.content c.requires.mounted m.on)
    (c.in_ok-space.ensures.grows m.content m.on) in
    subst IsSome (sym c.lsn_of-2.ensures) (first_there _ m.content m.on c.args.folder.parent c.args.folder.attr c.args.folder.owner c.args.folder.date grows.grown.taken
    grows.grown.chosen c.in_ok-space.space grows.grown.segments)

pub listing-requires-clause-number : goal.listing-requires-clause-number
listing-requires-clause-number g c =
    let m = c.requires.mounted in
    let grows =
    empty_grows m.content _ _ c.empty.result c.args.volume.now.ident.cluster c.new_clusters.result _ c.empty.ensures
    c.new_clusters.ensures.value (kept_size c.args.volume.now _ m.content c.requires.mounted m.on)
    (c.in_ok-space.ensures.grows m.content m.on) in
    let low =
    m_low _ _ m.content m.on c.args.folder.parent c.args.folder.attr c.args.folder.owner c.args.folder.date c.in_ok-space.space grows.grown
    c.unwrap-n.result c.unwrap-first.result (sym c.lsn_of.ensures ∙ c.unwrap-n.ensures)
    (sym c.lsn_of-2.ensures ∙ c.unwrap-first.ensures) in
    omega arith

pub store-requires-clause-cached : goal.store-requires-clause-cached
store-requires-clause-cached g c = c.in_ok-space.ensures.mounted.cached

pub store-requires-clause-sound : goal.store-requires-clause-sound
store-requires-clause-sound g c =
    let m = c.requires.mounted in
    let grows =
    empty_grows m.content _ _ c.empty.result c.args.volume.now.ident.cluster c.new_clusters.result _ c.empty.ensures
    c.new_clusters.ensures.value (kept_size c.args.volume.now _ m.content c.requires.mounted m.on)
    (c.in_ok-space.ensures.grows m.content m.on) in
    stored_sound _ _ _ _ (listed_stored _ _ m.content m.on c.args.folder.parent c.args.folder.attr c.args.folder.owner c.args.folder.date
    c.in_ok-space.space grows.grown c.unwrap-n.result c.unwrap-first.result (sym c.lsn_of.ensures ∙ c.unwrap-n.ensures)
    (sym c.lsn_of-2.ensures ∙ c.unwrap-first.ensures) c.listing.result c.listing.ensures _ refl)

pub store-requires-clause-on : goal.store-requires-clause-on
store-requires-clause-on g c =
    let m = c.requires.mounted in
    let grows =
    empty_grows m.content _ _ c.empty.result c.args.volume.now.ident.cluster c.new_clusters.result _ c.empty.ensures
    c.new_clusters.ensures.value (kept_size c.args.volume.now _ m.content c.requires.mounted m.on)
    (c.in_ok-space.ensures.grows m.content m.on) in
    f_on_drive _ _ m.content m.on c.args.folder.parent c.args.folder.attr c.args.folder.owner c.args.folder.date c.in_ok-space.space grows.grown
    c.unwrap-n.result c.unwrap-first.result (sym c.lsn_of.ensures ∙ c.unwrap-n.ensures)
    (sym c.lsn_of-2.ensures ∙ c.unwrap-first.ensures) c.listing.result c.listing.ensures

pub returns-in_err-store-clause-makes : goal.returns-in_err-store-clause-makes
returns-in_err-store-clause-makes g c v on =
    let p = err_from_is_err_and c.from_residual-in_err-store.result c.from_residual-in_err-store.ensures.1 in
    let grows =
    empty_grows v _ _ c.empty.result c.args.volume.now.ident.cluster c.new_clusters.result _ c.empty.ensures
    c.new_clusters.ensures.value (kept_size c.args.volume.now _ v c.requires.mounted on)
    (c.in_ok-space.ensures.grows v on) in
    folder_fault _ _ _ v c.args.folder.parent _ c.in_ok-space.space c.in_err-store.field-0.0 _ (p.1 ∙ ap Err p.2) c.in_err-store.ensures.device grows
    (unlisted _ _ v on c.args.folder.parent c.args.folder.attr c.args.folder.owner c.args.folder.date c.in_ok-space.space grows.grown _ c.in_err-store.ensures.media_kept)

pub returns-in_err-store-clause-mounted : goal.returns-in_err-store-clause-mounted
returns-in_err-store-clause-mounted g c =
    mounted_still _ _ _ _ c.in_err-store.ensures.volume_kept c.in_err-store.ensures.media_kept c.in_err-store.ensures.cached c.in_ok-space.ensures.mounted

pub returns-in_err-store-clause-counts : goal.returns-in_err-store-clause-counts
returns-in_err-store-clause-counts g c v on =
    let p = err_from_is_err_and c.from_residual-in_err-store.result c.from_residual-in_err-store.ensures.1 in
    let is : c.new_clusters.result ≡ file_clusters (cluster_size v) 64 = c.new_clusters.ensures.value ∙ ap (λ x. file_clusters x 64) (kept_size c.args.volume.now _ v c.requires.mounted on) in
    fault_calls (Unit {0}) c.in_err-store.field-0.0 _ v _ (c.new_clusters.result + 1) _ _ (p.1 ∙ ap Err p.2)
    (omega arith) (counts_then _ c.new_clusters.result 1 _ _ _ c.in_ok-space.ensures.counts
    c.in_err-store.ensures.counts)

pub first_segs-requires-clause-some : goal.first_segs-requires-clause-some
first_segs-requires-clause-some g c =
    let m = c.requires.mounted in
    (sizes_are c.args.volume.now m.on.image m.content m.on.vol m.agrees).some

pub first_segs-requires-clause-low : goal.first_segs-requires-clause-low
first_segs-requires-clause-low g c =
    let m = c.requires.mounted in
    let grows =
    empty_grows m.content _ _ c.empty.result c.args.volume.now.ident.cluster c.new_clusters.result _ c.empty.ensures
    c.new_clusters.ensures.value (kept_size c.args.volume.now _ m.content c.requires.mounted m.on)
    (c.in_ok-space.ensures.grows m.content m.on) in
    f_low _ _ m.content m.on c.args.folder.parent c.args.folder.attr c.args.folder.owner c.args.folder.date c.in_ok-space.space grows.grown
    c.unwrap-n.result c.unwrap-first.result (sym c.lsn_of.ensures ∙ c.unwrap-n.ensures)
    (sym c.lsn_of-2.ensures ∙ c.unwrap-first.ensures)

pub store-requires-2-clause-cached : goal.store-requires-2-clause-cached
store-requires-2-clause-cached g c = c.in_ok-store.ensures.cached

pub store-requires-2-clause-sound : goal.store-requires-2-clause-sound
store-requires-2-clause-sound g c =
    let m = c.requires.mounted in
    let grows =
    empty_grows m.content _ _ c.empty.result c.args.volume.now.ident.cluster c.new_clusters.result _ c.empty.ensures
    c.new_clusters.ensures.value (kept_size c.args.volume.now _ m.content c.requires.mounted m.on)
    (c.in_ok-space.ensures.grows m.content m.on) in
    stored_sound _ _ _ _ (described_stored _ _ m.content m.on c.args.folder.parent c.args.folder.attr c.args.folder.owner c.args.folder.date
    c.in_ok-space.space grows.grown c.unwrap-n.result c.unwrap-first.result (sym c.lsn_of.ensures ∙ c.unwrap-n.ensures)
    (sym c.lsn_of-2.ensures ∙ c.unwrap-first.ensures) c.listing.result c.listing.ensures _ c.in_ok-store.ensures.written
    c.descriptor.result c.descriptor.ensures.whole _ refl)

pub store-requires-2-clause-on : goal.store-requires-2-clause-on
store-requires-2-clause-on g c =
    let m = c.requires.mounted in
    let grows =
    empty_grows m.content _ _ c.empty.result c.args.volume.now.ident.cluster c.new_clusters.result _ c.empty.ensures
    c.new_clusters.ensures.value (kept_size c.args.volume.now _ m.content c.requires.mounted m.on)
    (c.in_ok-space.ensures.grows m.content m.on) in
    m_on_drive _ _ m.content m.on c.args.folder.parent c.args.folder.attr c.args.folder.owner c.args.folder.date c.in_ok-space.space grows.grown
    c.unwrap-n.result c.unwrap-first.result (sym c.lsn_of.ensures ∙ c.unwrap-n.ensures)
    (sym c.lsn_of-2.ensures ∙ c.unwrap-first.ensures) c.listing.result c.listing.ensures _ c.in_ok-store.ensures.written
    c.descriptor.result c.descriptor.ensures.whole

pub returns-in_err-store-2-clause-makes : goal.returns-in_err-store-2-clause-makes
returns-in_err-store-2-clause-makes g c v on =
    let p = err_from_is_err_and c.from_residual-in_err-store-2.result c.from_residual-in_err-store-2.ensures.1 in
    let grows =
    empty_grows v _ _ c.empty.result c.args.volume.now.ident.cluster c.new_clusters.result _ c.empty.ensures
    c.new_clusters.ensures.value (kept_size c.args.volume.now _ v c.requires.mounted on)
    (c.in_ok-space.ensures.grows v on) in
    folder_fault _ _ _ v c.args.folder.parent _ c.in_ok-space.space c.in_err-store-2.field-0.0 _ (p.1 ∙ ap Err p.2) c.in_err-store-2.ensures.device grows
    (ends_undescribed _ _ v on c.args.folder.parent c.args.folder.attr c.args.folder.owner c.args.folder.date c.in_ok-space.space grows.grown
    c.unwrap-n.result c.unwrap-first.result (sym c.lsn_of.ensures ∙ c.unwrap-n.ensures)
    (sym c.lsn_of-2.ensures ∙ c.unwrap-first.ensures) c.listing.result c.listing.ensures _ c.in_ok-store.ensures.written
    _ c.in_err-store-2.ensures.media_kept)

pub returns-in_err-store-2-clause-mounted : goal.returns-in_err-store-2-clause-mounted
returns-in_err-store-2-clause-mounted g c =
    let m = c.requires.mounted in
    let grows =
    empty_grows m.content _ _ c.empty.result c.args.volume.now.ident.cluster c.new_clusters.result _ c.empty.ensures
    c.new_clusters.ensures.value (kept_size c.args.volume.now _ m.content c.requires.mounted m.on)
    (c.in_ok-space.ensures.grows m.content m.on) in
    mounted_still _ _ _ _ c.in_err-store-2.ensures.volume_kept c.in_err-store-2.ensures.media_kept c.in_err-store-2.ensures.cached
    (mounted_now _ _ _ _ (listed_stored _ _ m.content m.on c.args.folder.parent c.args.folder.attr c.args.folder.owner c.args.folder.date
    c.in_ok-space.space grows.grown c.unwrap-n.result c.unwrap-first.result (sym c.lsn_of.ensures ∙ c.unwrap-n.ensures)
    (sym c.lsn_of-2.ensures ∙ c.unwrap-first.ensures) c.listing.result c.listing.ensures _
    c.in_ok-store.ensures.written) c.grow.new.volume c.store.new.self c.in_ok-store.ensures.volume_kept
    c.in_ok-store.ensures.cached c.in_ok-space.ensures.mounted)

pub returns-in_err-store-2-clause-counts : goal.returns-in_err-store-2-clause-counts
returns-in_err-store-2-clause-counts g c v on =
    let p = err_from_is_err_and c.from_residual-in_err-store-2.result c.from_residual-in_err-store-2.ensures.1 in
    let is : c.new_clusters.result ≡ file_clusters (cluster_size v) 64 = c.new_clusters.ensures.value ∙ ap (λ x. file_clusters x 64) (kept_size c.args.volume.now _ v c.requires.mounted on) in
    fault_calls (Unit {0}) c.in_err-store-2.field-0.0 _ v _ (c.new_clusters.result + 1 + 1) _ _ (p.1 ∙ ap Err p.2)
    (omega arith) (counts_then _ (c.new_clusters.result + 1) 1 _ _ _
    (counts_then _ c.new_clusters.result 1 _ _ _ c.in_ok-space.ensures.counts c.in_ok-store.ensures.counts)
    c.in_err-store-2.ensures.counts)

pub returns-clause-makes : goal.returns-clause-makes
returns-clause-makes g c v on =
    let grows =
    empty_grows v _ _ c.empty.result c.args.volume.now.ident.cluster c.new_clusters.result _ c.empty.ensures
    c.new_clusters.ensures.value (kept_size c.args.volume.now _ v c.requires.mounted on)
    (c.in_ok-space.ensures.grows v on) in
    taken_or _ _ _ v c.args.folder.parent _ c.in_ok-space.space c.unwrap-n.result grows
    (made_as _ _ v on c.args.folder.parent c.args.folder.attr c.args.folder.owner c.args.folder.date c.in_ok-space.space grows.grown
    c.unwrap-n.result c.unwrap-first.result (sym c.lsn_of.ensures ∙ c.unwrap-n.ensures)
    (sym c.lsn_of-2.ensures ∙ c.unwrap-first.ensures) c.listing.result c.listing.ensures _ c.in_ok-store.ensures.written
    c.descriptor.result c.descriptor.ensures.whole _ c.in_ok-store-2.ensures.written c.new_directory-file.result
    c.descriptor.ensures.fields c.descriptor.ensures.rest c.args.volume.now.ident.cluster c.first_segs.result
    c.new_directory-file.ensures c.first_segs.ensures (kept_size c.args.volume.now _ v c.requires.mounted on)
    c.requires.parent)

pub returns-clause-mounted : goal.returns-clause-mounted
returns-clause-mounted g c =
    let m = c.requires.mounted in
    let grows =
    empty_grows m.content _ _ c.empty.result c.args.volume.now.ident.cluster c.new_clusters.result _ c.empty.ensures
    c.new_clusters.ensures.value (kept_size c.args.volume.now _ m.content c.requires.mounted m.on)
    (c.in_ok-space.ensures.grows m.content m.on) in
    mounted_now _ _ _ _ (described_stored _ _ m.content m.on c.args.folder.parent c.args.folder.attr c.args.folder.owner c.args.folder.date
    c.in_ok-space.space grows.grown c.unwrap-n.result c.unwrap-first.result (sym c.lsn_of.ensures ∙ c.unwrap-n.ensures)
    (sym c.lsn_of-2.ensures ∙ c.unwrap-first.ensures) c.listing.result c.listing.ensures _ c.in_ok-store.ensures.written
    c.descriptor.result c.descriptor.ensures.whole _ c.in_ok-store-2.ensures.written)
    c.store.new.self c.store-2.new.self c.in_ok-store-2.ensures.volume_kept c.in_ok-store-2.ensures.cached
    (mounted_now _ _ _ _ (listed_stored _ _ m.content m.on c.args.folder.parent c.args.folder.attr c.args.folder.owner c.args.folder.date
    c.in_ok-space.space grows.grown c.unwrap-n.result c.unwrap-first.result (sym c.lsn_of.ensures ∙ c.unwrap-n.ensures)
    (sym c.lsn_of-2.ensures ∙ c.unwrap-first.ensures) c.listing.result c.listing.ensures _
    c.in_ok-store.ensures.written) c.grow.new.volume c.store.new.self c.in_ok-store.ensures.volume_kept
    c.in_ok-store.ensures.cached c.in_ok-space.ensures.mounted)

pub returns-in_err-space-clause-counts : goal.returns-in_err-space-clause-counts
returns-in_err-space-clause-counts g c v on =
    let p = err_from_is_err_and c.from_residual.result c.from_residual.ensures.1 in
    let is : c.new_clusters.result ≡ file_clusters (cluster_size v) 64 = c.new_clusters.ensures.value ∙ ap (λ x. file_clusters x 64) (kept_size c.args.volume.now _ v c.requires.mounted on) in
    fault_calls (List (ℕ × ℕ)) c.in_err-space.field-0.0 _ v _ c.new_clusters.result _ _ (p.1 ∙ ap Err p.2) (omega arith) c.in_err-space.ensures.counts

pub returns-clause-counts : goal.returns-clause-counts
returns-clause-counts g c v on =
    let is : c.new_clusters.result ≡ file_clusters (cluster_size v) 64 = c.new_clusters.ensures.value ∙ ap (λ x. file_clusters x 64) (kept_size c.args.volume.now _ v c.requires.mounted on) in
    let grows =
    empty_grows v _ _ c.empty.result c.args.volume.now.ident.cluster c.new_clusters.result _ c.empty.ensures
    c.new_clusters.ensures.value (kept_size c.args.volume.now _ v c.requires.mounted on)
    (c.in_ok-space.ensures.grows v on) in
    made_calls v _ c.unwrap-n.result c.new_clusters.result c.empty.result c.in_ok-space.space _ _ _ is c.empty.ensures
    (marks_as _ _ v on c.args.folder.parent c.args.folder.attr c.args.folder.owner c.args.folder.date c.in_ok-space.space grows.grown
    c.unwrap-n.result c.unwrap-first.result (sym c.lsn_of.ensures ∙ c.unwrap-n.ensures)
    (sym c.lsn_of-2.ensures ∙ c.unwrap-first.ensures) c.listing.result c.listing.ensures _ c.in_ok-store.ensures.written
    c.descriptor.result c.descriptor.ensures.whole _ c.in_ok-store-2.ensures.written c.new_directory-file.result
    c.descriptor.ensures.fields c.descriptor.ensures.rest c.args.volume.now.ident.cluster c.first_segs.result
    c.new_directory-file.ensures c.first_segs.ensures (kept_size c.args.volume.now _ v c.requires.mounted on)
    c.requires.parent)
    c.in_ok-space.ensures.counts (c.in_ok-space.ensures.marks v on) (counts_then _ 1 1 _ _ _ c.in_ok-store.ensures.counts c.in_ok-store-2.ensures.counts)
