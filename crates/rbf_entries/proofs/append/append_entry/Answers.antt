use Rattle.std.proofs.Common.{IsSome, refl, subst, sym, ◌∙◌, arith}
use Rattle.std.proofs.lemmas.Result.{err_from_is_err_and}
use Rattle.rbf_access.proofs.Reading.{mounted_still}
use Rattle.rbf_alloc.proofs.Growing.{sizes_are}
use Rattle.rbf_entries.proofs.Answered.{appending, few_listed, apart_all, place_low, grow_device, grow_answers, calls_grow, calls_put, calls_store, lsn_there, same_list, put_on_drive, put_answers, put_mounted, put_sound, store_on_drive, store_sound, store_answers, done_answers, done_mounted}
use Rattle.rbf_entries.proofs.append.append_entry.Goals as goal

pub clusters_for_place-count-requires : goal.clusters_for_place-count-requires
clusters_for_place-count-requires g c =
    let m = c.requires.mounted in
    (sizes_are c.args.v.now m.on.image m.content m.on.vol m.agrees).some

pub grow-requires-clause-few : goal.grow-requires-clause-few
grow-requires-clause-few g c =
    few_listed _ (appending c.args.found.now.dir.number c.args.found.now.place c.args.entry.now c.args.now) c.requires.place (omega arith) _ refl c.args.found.now.dir c.requires.read

pub grow-requires-clause-apart : goal.grow-requires-clause-apart
grow-requires-clause-apart g c =
    apart_all _ (appending c.args.found.now.dir.number c.args.found.now.place c.args.entry.now c.args.now) c.requires.place (omega arith) _ refl c.args.found.now.dir c.requires.read

pub returns-in_err-longer-clause-answer : goal.returns-in_err-longer-clause-answer
returns-in_err-longer-clause-answer g c v file on is =
    let p = err_from_is_err_and c.from_residual.result c.from_residual.ensures.1 in
    rw (p.1, p.2) (grow_answers _ (appending c.args.found.now.dir.number c.args.found.now.place c.args.entry.now c.args.now)
    c.requires.place (omega arith) _ refl c.args.found.now.dir c.requires.read c.args.v.now c.requires.mounted
    c.clusters_for_place-count.result c.clusters_for_place-count.ensures.count _ c.in_err-longer.field-0.0
    c.in_err-longer.ensures.grows v file on is)

pub returns-in_err-longer-clause-device : goal.returns-in_err-longer-clause-device
returns-in_err-longer-clause-device g c =
    let p = err_from_is_err_and c.from_residual.result c.from_residual.ensures.1 in
    rw (p.1, p.2) (grow_device _ (appending c.args.found.now.dir.number c.args.found.now.place c.args.entry.now c.args.now)
    c.requires.place (omega arith) _ refl c.args.found.now.dir c.requires.read c.args.v.now c.requires.mounted
    c.clusters_for_place-count.result c.clusters_for_place-count.ensures.count _ c.in_err-longer.field-0.0
    c.in_err-longer.ensures.grows)

pub returns-in_err-longer-clause-counts : goal.returns-in_err-longer-clause-counts
returns-in_err-longer-clause-counts g c v file on is =
    let p = err_from_is_err_and c.from_residual.result c.from_residual.ensures.1 in
    rw (p.1, p.2) (calls_grow _ (appending c.args.found.now.dir.number c.args.found.now.place c.args.entry.now c.args.now)
    c.requires.place (omega arith) _ refl c.args.found.now.dir c.requires.read c.args.v.now c.requires.mounted
    c.clusters_for_place-count.result c.clusters_for_place-count.ensures.count v file on is _ _ _
    c.in_err-longer.ensures.counts)

pub unwrap-lsn-requires : goal.unwrap-lsn-requires
unwrap-lsn-requires g c =
    subst IsSome (sym c.lsn_of.ensures) (lsn_there _ (appending c.args.found.now.dir.number c.args.found.now.place c.args.entry.now
    c.args.now) c.requires.place (omega arith) _ refl c.args.found.now.dir c.requires.read c.args.v.now c.requires.mounted
    c.clusters_for_place-count.result c.clusters_for_place-count.ensures.count _ c.in_ok-longer.longer
    c.in_ok-longer.ensures.grows)

pub put_entry-requires-clause-cached : goal.put_entry-requires-clause-cached
put_entry-requires-clause-cached g c = c.in_ok-longer.ensures.mounted.cached

pub put_entry-requires-clause-sound : goal.put_entry-requires-clause-sound
put_entry-requires-clause-sound g c =
    put_sound _ (appending c.args.found.now.dir.number c.args.found.now.place c.args.entry.now c.args.now) c.requires.place
    (omega arith) _ refl c.args.found.now.dir c.requires.read c.args.v.now c.requires.mounted
    c.clusters_for_place-count.result c.clusters_for_place-count.ensures.count _ c.in_ok-longer.longer
    c.in_ok-longer.ensures.grows c.unwrap-lsn.result (sym c.lsn_of.ensures ∙ c.unwrap-lsn.ensures) _ refl

pub put_entry-requires-clause-on : goal.put_entry-requires-clause-on
put_entry-requires-clause-on g c =
    put_on_drive _ (appending c.args.found.now.dir.number c.args.found.now.place c.args.entry.now c.args.now) c.requires.place
    (omega arith) _ refl c.args.found.now.dir c.requires.read c.args.v.now c.requires.mounted
    c.clusters_for_place-count.result c.clusters_for_place-count.ensures.count _ c.in_ok-longer.longer
    c.in_ok-longer.ensures.grows c.unwrap-lsn.result (sym c.lsn_of.ensures ∙ c.unwrap-lsn.ensures)

pub returns-in_err-put_entry-clause-answer : goal.returns-in_err-put_entry-clause-answer
returns-in_err-put_entry-clause-answer g c v file on is =
    let p = err_from_is_err_and c.from_residual-in_err-put_entry.result c.from_residual-in_err-put_entry.ensures.1 in
    rw (p.1, p.2) (put_answers _ (appending c.args.found.now.dir.number c.args.found.now.place c.args.entry.now c.args.now)
    c.requires.place (omega arith) _ refl c.args.found.now.dir c.requires.read c.args.v.now c.requires.mounted
    c.clusters_for_place-count.result c.clusters_for_place-count.ensures.count _ c.in_ok-longer.longer
    c.in_ok-longer.ensures.grows c.unwrap-lsn.result (sym c.lsn_of.ensures ∙ c.unwrap-lsn.ensures) _
    c.in_err-put_entry.field-0.0 c.in_err-put_entry.ensures.device c.in_err-put_entry.ensures.media_kept v file on is)

pub returns-in_err-put_entry-clause-mounted : goal.returns-in_err-put_entry-clause-mounted
returns-in_err-put_entry-clause-mounted g c =
    mounted_still _ _ _ _ c.in_err-put_entry.ensures.volume_kept c.in_err-put_entry.ensures.media_kept c.in_err-put_entry.ensures.cached c.in_ok-longer.ensures.mounted

pub returns-in_err-put_entry-clause-counts : goal.returns-in_err-put_entry-clause-counts
returns-in_err-put_entry-clause-counts g c v file on is =
    let p = err_from_is_err_and c.from_residual-in_err-put_entry.result c.from_residual-in_err-put_entry.ensures.1 in
    rw (p.1, p.2) (calls_put _ (appending c.args.found.now.dir.number c.args.found.now.place c.args.entry.now c.args.now)
    c.requires.place (omega arith) _ refl c.args.found.now.dir c.requires.read c.args.v.now c.requires.mounted
    c.clusters_for_place-count.result c.clusters_for_place-count.ensures.count v file on is _ _ _ _
    c.in_ok-longer.ensures.counts c.in_err-put_entry.ensures.counts)

pub overflow_add-found : goal.overflow_add-found
overflow_add-found g c =
    let low =
    place_low _ (appending c.args.found.now.dir.number c.args.found.now.place c.args.entry.now c.args.now) c.requires.place
    (omega arith) _ refl c.args.found.now.dir c.requires.read c.clusters_for_place-count.ensures.few_sectors in omega
    (arith, low)

pub overflow_mul-found : goal.overflow_mul-found
overflow_mul-found g c =
    let low =
    place_low _ (appending c.args.found.now.dir.number c.args.found.now.place c.args.entry.now c.args.now) c.requires.place
    (omega arith) _ refl c.args.found.now.dir c.requires.read c.clusters_for_place-count.ensures.few_sectors in omega
    (arith, low)

pub longer_descriptor-bytes-requires-clause-same : goal.longer_descriptor-bytes-requires-clause-same
longer_descriptor-bytes-requires-clause-same g c =
    same_list _ (appending c.args.found.now.dir.number c.args.found.now.place c.args.entry.now c.args.now) c.requires.place
    (omega arith) _ refl c.args.found.now.dir c.requires.read c.args.v.now c.requires.mounted
    c.clusters_for_place-count.result c.clusters_for_place-count.ensures.count _ c.in_ok-longer.longer
    c.in_ok-longer.ensures.grows

pub store-requires-clause-cached : goal.store-requires-clause-cached
store-requires-clause-cached g c = c.in_ok-put_entry.ensures.cached

pub store-requires-clause-sound : goal.store-requires-clause-sound
store-requires-clause-sound g c =
    store_sound _ (appending c.args.found.now.dir.number c.args.found.now.place c.args.entry.now c.args.now) c.requires.place
    (omega arith) _ refl c.args.found.now.dir c.requires.read c.args.v.now c.requires.mounted
    c.clusters_for_place-count.result c.clusters_for_place-count.ensures.count _ c.in_ok-longer.longer
    c.in_ok-longer.ensures.grows c.unwrap-lsn.result (sym c.lsn_of.ensures ∙ c.unwrap-lsn.ensures) _
    c.in_ok-put_entry.ensures.written c.longer_descriptor-bytes.result c.longer_descriptor-bytes.ensures _ refl

pub store-requires-clause-on : goal.store-requires-clause-on
store-requires-clause-on g c =
    store_on_drive _ (appending c.args.found.now.dir.number c.args.found.now.place c.args.entry.now c.args.now) c.requires.place
    (omega arith) _ refl c.args.found.now.dir c.requires.read c.args.v.now c.requires.mounted
    c.clusters_for_place-count.result c.clusters_for_place-count.ensures.count _ c.in_ok-longer.longer
    c.in_ok-longer.ensures.grows c.unwrap-lsn.result (sym c.lsn_of.ensures ∙ c.unwrap-lsn.ensures) _
    c.in_ok-put_entry.ensures.written

pub returns-in_err-store-clause-answer : goal.returns-in_err-store-clause-answer
returns-in_err-store-clause-answer g c v file on is =
    let p = err_from_is_err_and c.from_residual-in_err-store.result c.from_residual-in_err-store.ensures.1 in
    rw (p.1, p.2) (store_answers _ (appending c.args.found.now.dir.number c.args.found.now.place c.args.entry.now c.args.now)
    c.requires.place (omega arith) _ refl c.args.found.now.dir c.requires.read c.args.v.now c.requires.mounted
    c.clusters_for_place-count.result c.clusters_for_place-count.ensures.count _ c.in_ok-longer.longer
    c.in_ok-longer.ensures.grows c.unwrap-lsn.result (sym c.lsn_of.ensures ∙ c.unwrap-lsn.ensures) _
    c.in_ok-put_entry.ensures.written _ c.in_err-store.field-0.0 c.in_err-store.ensures.device
    c.in_err-store.ensures.media_kept v file on is)

pub returns-in_err-store-clause-mounted : goal.returns-in_err-store-clause-mounted
returns-in_err-store-clause-mounted g c =
    mounted_still c.put_entry.new.v _ _ _ c.in_err-store.ensures.volume_kept c.in_err-store.ensures.media_kept c.in_err-store.ensures.cached
    (put_mounted _ (appending c.args.found.now.dir.number c.args.found.now.place c.args.entry.now c.args.now) c.requires.place
    (omega arith) _ refl c.args.found.now.dir c.requires.read c.args.v.now c.requires.mounted
    c.clusters_for_place-count.result c.clusters_for_place-count.ensures.count _ c.in_ok-longer.longer
    c.in_ok-longer.ensures.grows c.unwrap-lsn.result (sym c.lsn_of.ensures ∙ c.unwrap-lsn.ensures) _
    c.in_ok-put_entry.ensures.written _ _ c.in_ok-put_entry.ensures.volume_kept c.in_ok-put_entry.ensures.cached
    c.in_ok-longer.ensures.mounted)

pub returns-in_err-store-clause-counts : goal.returns-in_err-store-clause-counts
returns-in_err-store-clause-counts g c v file on is =
    let p = err_from_is_err_and c.from_residual-in_err-store.result c.from_residual-in_err-store.ensures.1 in
    rw (p.1, p.2) (calls_store _ (appending c.args.found.now.dir.number c.args.found.now.place c.args.entry.now c.args.now)
    c.requires.place (omega arith) _ refl c.args.found.now.dir c.requires.read c.args.v.now c.requires.mounted
    c.clusters_for_place-count.result c.clusters_for_place-count.ensures.count v file on is _ _ _ _ _
    c.in_ok-longer.ensures.counts c.in_ok-put_entry.ensures.counts c.in_err-store.ensures.counts)

pub returns-clause-answer : goal.returns-clause-answer
returns-clause-answer g c v file on is =
    done_answers _ (appending c.args.found.now.dir.number c.args.found.now.place c.args.entry.now c.args.now) c.requires.place
    (omega arith) _ refl c.args.found.now.dir c.requires.read c.args.v.now c.requires.mounted
    c.clusters_for_place-count.result c.clusters_for_place-count.ensures.count _ c.in_ok-longer.longer
    c.in_ok-longer.ensures.grows c.unwrap-lsn.result (sym c.lsn_of.ensures ∙ c.unwrap-lsn.ensures) _
    c.in_ok-put_entry.ensures.written c.longer_descriptor-bytes.result c.longer_descriptor-bytes.ensures _
    c.in_ok-store.ensures.written v file on is

pub returns-clause-mounted : goal.returns-clause-mounted
returns-clause-mounted g c =
    done_mounted _ (appending c.args.found.now.dir.number c.args.found.now.place c.args.entry.now c.args.now) c.requires.place
    (omega arith) _ refl c.args.found.now.dir c.requires.read c.args.v.now c.requires.mounted
    c.clusters_for_place-count.result c.clusters_for_place-count.ensures.count _ c.in_ok-longer.longer
    c.in_ok-longer.ensures.grows c.unwrap-lsn.result (sym c.lsn_of.ensures ∙ c.unwrap-lsn.ensures) _
    c.in_ok-put_entry.ensures.written c.longer_descriptor-bytes.result c.longer_descriptor-bytes.ensures _
    c.in_ok-store.ensures.written c.put_entry.new.v _ c.in_ok-store.ensures.volume_kept c.in_ok-store.ensures.cached
    (put_mounted _ (appending c.args.found.now.dir.number c.args.found.now.place c.args.entry.now c.args.now) c.requires.place
    (omega arith) _ refl c.args.found.now.dir c.requires.read c.args.v.now c.requires.mounted
    c.clusters_for_place-count.result c.clusters_for_place-count.ensures.count _ c.in_ok-longer.longer
    c.in_ok-longer.ensures.grows c.unwrap-lsn.result (sym c.lsn_of.ensures ∙ c.unwrap-lsn.ensures) _
    c.in_ok-put_entry.ensures.written _ _ c.in_ok-put_entry.ensures.volume_kept c.in_ok-put_entry.ensures.cached
    c.in_ok-longer.ensures.mounted)

pub returns-clause-counts : goal.returns-clause-counts
returns-clause-counts g c v file on is =
    calls_store _ (appending c.args.found.now.dir.number c.args.found.now.place c.args.entry.now c.args.now) c.requires.place
    (omega arith) _ refl c.args.found.now.dir c.requires.read c.args.v.now c.requires.mounted
    c.clusters_for_place-count.result c.clusters_for_place-count.ensures.count v file on is _ _ _ _ _
    c.in_ok-longer.ensures.counts c.in_ok-put_entry.ensures.counts c.in_ok-store.ensures.counts
