use Rattle.std.proofs.Common.{refl, true, false, Err, ap, ◌∙◌, arith}
use Rattle.std.proofs.lemmas.Result.{err_from_is_err_and}
use Rattle.os9_outer.specs.Drive.{sector_count}
use Rattle.rbf_access.proofs.Reading.{mounted_still, number_on}
use Rattle.rbf_entries.proofs.Attributed.{attributes_written, attributes_stored, attributes_set, owner_known, first_call, second_call, fault_answers, fault_counts}
use Rattle.rbf_entries.proofs.Stored.{mounted_now, becomes_now, stored_sound}
use Rattle.rbf_entries.proofs.attributes.set_attr.Goals as goal

pub load-requires-clause-cached : goal.load-requires-clause-cached
load-requires-clause-cached g c = c.requires.mounted.cached

pub load-requires-clause-on : goal.load-requires-clause-on
load-requires-clause-on g c = number_on _ c.args.fd c.requires.file

pub returns-in_err-bytes-clause-answer : goal.returns-in_err-bytes-clause-answer
returns-in_err-bytes-clause-answer g c v file on is =
    let p = err_from_is_err_and c.from_residual.result c.from_residual.ensures.1 in
    fault_answers Unit _ file c.args.asked.user c.in_err-bytes.field-0.0 _ (p.1 ∙ ap Err p.2) c.in_err-bytes.ensures.device

pub returns-in_err-bytes-clause-mounted : goal.returns-in_err-bytes-clause-mounted
returns-in_err-bytes-clause-mounted g c = mounted_still _ _ _ _ c.in_err-bytes.ensures.volume_kept c.in_err-bytes.ensures.media_kept c.in_err-bytes.ensures.cached c.requires.mounted

pub returns-in_err-bytes-clause-counts : goal.returns-in_err-bytes-clause-counts
returns-in_err-bytes-clause-counts g c v file on is =
    let p = err_from_is_err_and c.from_residual.result c.from_residual.ensures.1 in
    first_call _ file c.args.asked.user _ _ (fault_counts Unit _ c.in_err-bytes.field-0.0 _ 1 _ _ (p.1 ∙ ap Err p.2) c.in_err-bytes.ensures.counts)

pub returns-then-not-owns-clause-answer : goal.returns-then-not-owns-clause-answer
returns-then-not-owns-clause-answer g c v file on is =
    let r = c.read_fd.ensures in
    owner_known _ c.args.fd c.in_ok-bytes.bytes c.read_fd.result c.in_ok-bytes.ensures.bytes
    (record {
      attr = r.attr;
      owner = r.owner;
      modified = r.modified;
      links = r.links;
      size = r.size;
      created = r.created;
      segs = r.segs;
    }) c.args.asked.user c.owns.result c.owns.ensures false c.if-not-owns.true v file on is

pub returns-then-not-owns-clause-mounted : goal.returns-then-not-owns-clause-mounted
returns-then-not-owns-clause-mounted g c = mounted_still _ _ _ _ c.in_ok-bytes.ensures.volume_kept c.in_ok-bytes.ensures.media_kept c.in_ok-bytes.ensures.cached c.requires.mounted

pub store-requires-clause-cached : goal.store-requires-clause-cached
store-requires-clause-cached g c = c.in_ok-bytes.ensures.cached

pub store-requires-clause-on : goal.store-requires-clause-on
store-requires-clause-on g c =
    let low = number_on _ c.args.fd c.requires.file in
    let same = ap sector_count c.in_ok-bytes.ensures.media_kept in
    omega arith

pub returns-in_err-store-clause-answer : goal.returns-in_err-store-clause-answer
returns-in_err-store-clause-answer g c v file on is =
    let p = err_from_is_err_and c.from_residual-in_err-store.result c.from_residual-in_err-store.ensures.1 in
    fault_answers Unit _ file c.args.asked.user c.in_err-store.field-0.0 _ (p.1 ∙ ap Err p.2) c.in_err-store.ensures.device

pub returns-in_err-store-clause-mounted : goal.returns-in_err-store-clause-mounted
returns-in_err-store-clause-mounted g c =
    mounted_still _ _ _ _ (c.in_err-store.ensures.volume_kept ∙ c.in_ok-bytes.ensures.volume_kept)
    (c.in_err-store.ensures.media_kept ∙ c.in_ok-bytes.ensures.media_kept) c.in_err-store.ensures.cached
    c.requires.mounted

pub returns-in_err-store-clause-counts : goal.returns-in_err-store-clause-counts
returns-in_err-store-clause-counts g c v file on is =
    let p = err_from_is_err_and c.from_residual-in_err-store.result c.from_residual-in_err-store.ensures.1 in
    let r = c.read_fd.ensures in
    let owns = owner_known _ c.args.fd c.in_ok-bytes.bytes c.read_fd.result c.in_ok-bytes.ensures.bytes
    (record {
      attr = r.attr;
      owner = r.owner;
      modified = r.modified;
      links = r.links;
      size = r.size;
      created = r.created;
      segs = r.segs;
    }) c.args.asked.user c.owns.result c.owns.ensures true c.if-not-owns.false v file on
    is in
    second_call _ file c.args.asked.user _ _ _ owns c.in_ok-bytes.ensures.counts (fault_counts Unit _ c.in_err-store.field-0.0 _ 1 _ _ (p.1 ∙ ap Err p.2) c.in_err-store.ensures.counts)

pub returns-clause-ok : goal.returns-clause-ok
returns-clause-ok g c =
    let has = c.requires.file in
    let read = c.in_ok-bytes.ensures in
    let is = attributes_written _ _ _ c.args.fd c.args.asked.attr c.args.asked.date c.in_ok-bytes.bytes _ read.bytes read.media_kept c.put_attributes.ensures c.in_ok-store.ensures.written in
    becomes_now _ _ has.content _ (attributes_stored _ c.args.fd c.args.asked.attr c.args.asked.date has _ is) _ (attributes_set _ c.args.fd c.args.asked.attr c.args.asked.date has)

pub returns-clause-answer : goal.returns-clause-answer
returns-clause-answer g c v file on is =
    let r = c.read_fd.ensures in
    owner_known _ c.args.fd c.in_ok-bytes.bytes c.read_fd.result c.in_ok-bytes.ensures.bytes
    (record {
      attr = r.attr;
      owner = r.owner;
      modified = r.modified;
      links = r.links;
      size = r.size;
      created = r.created;
      segs = r.segs;
    }) c.args.asked.user c.owns.result c.owns.ensures true c.if-not-owns.false v file on is

pub returns-clause-mounted : goal.returns-clause-mounted
returns-clause-mounted g c =
    let has = c.requires.file in
    let read = c.in_ok-bytes.ensures in
    let is = attributes_written _ _ _ c.args.fd c.args.asked.attr c.args.asked.date c.in_ok-bytes.bytes _ read.bytes read.media_kept c.put_attributes.ensures c.in_ok-store.ensures.written in
    mounted_now _ _ has.content _ (attributes_stored _ c.args.fd c.args.asked.attr c.args.asked.date has _ is) _ _
    (c.in_ok-store.ensures.volume_kept ∙ read.volume_kept) c.in_ok-store.ensures.cached c.requires.mounted

pub returns-clause-counts : goal.returns-clause-counts
returns-clause-counts g c v file on is =
    let r = c.read_fd.ensures in
    let owns = owner_known _ c.args.fd c.in_ok-bytes.bytes c.read_fd.result c.in_ok-bytes.ensures.bytes
    (record {
      attr = r.attr;
      owner = r.owner;
      modified = r.modified;
      links = r.links;
      size = r.size;
      created = r.created;
      segs = r.segs;
    }) c.args.asked.user c.owns.result c.owns.ensures true c.if-not-owns.false v file on
    is in
    second_call _ file c.args.asked.user _ _ _ owns c.in_ok-bytes.ensures.counts c.in_ok-store.ensures.counts

pub store-requires-clause-sound : goal.store-requires-clause-sound
store-requires-clause-sound g c =
    let has = c.requires.file in
    let read = c.in_ok-bytes.ensures in
    let is = attributes_written _ _ _ c.args.fd c.args.asked.attr c.args.asked.date c.in_ok-bytes.bytes _ read.bytes read.media_kept c.put_attributes.ensures refl in
    stored_sound _ _ has.content _ (attributes_stored _ c.args.fd c.args.asked.attr c.args.asked.date has _ is)
