use Rattle.std.proofs.Common.{refl, ap, ◌∙◌, arith}
use Rattle.os9_outer.specs.Drive.{sector_count}
use Rattle.rbf_access.proofs.Reading.{mounted_still, number_on}
use Rattle.rbf_entries.proofs.Attributed.{attributes_written, attributes_stored, attributes_set}
use Rattle.rbf_entries.proofs.Stored.{mounted_now, becomes_now, stored_sound}
use Rattle.rbf_entries.proofs.attributes.set_fd_attr.Goals as goal

pub load-requires-clause-cached : goal.load-requires-clause-cached
load-requires-clause-cached g c = c.requires.mounted.cached

pub load-requires-clause-on : goal.load-requires-clause-on
load-requires-clause-on g c = number_on _ c.args.fd c.requires.file

pub returns-in_err-bytes-clause-mounted : goal.returns-in_err-bytes-clause-mounted
returns-in_err-bytes-clause-mounted g c = mounted_still _ _ _ _ c.in_err-bytes.ensures.volume_kept c.in_err-bytes.ensures.media_kept c.in_err-bytes.ensures.cached c.requires.mounted

pub store-requires-clause-cached : goal.store-requires-clause-cached
store-requires-clause-cached g c = c.in_ok-bytes.ensures.cached

pub store-requires-clause-on : goal.store-requires-clause-on
store-requires-clause-on g c =
    let low = number_on _ c.args.fd c.requires.file in
    let same = ap sector_count c.in_ok-bytes.ensures.media_kept in
    omega arith

pub returns-in_err-store-clause-mounted : goal.returns-in_err-store-clause-mounted
returns-in_err-store-clause-mounted g c =
    mounted_still _ _ _ _ (c.in_err-store.ensures.volume_kept ∙ c.in_ok-bytes.ensures.volume_kept)
    (c.in_err-store.ensures.media_kept ∙ c.in_ok-bytes.ensures.media_kept) c.in_err-store.ensures.cached
    c.requires.mounted

pub returns-clause-ok : goal.returns-clause-ok
returns-clause-ok g c =
    let has = c.requires.file in
    let read = c.in_ok-bytes.ensures in
    let is = attributes_written _ _ _ c.args.fd c.args.attr c.args.now c.in_ok-bytes.bytes _ read.bytes read.media_kept c.put_attributes.ensures c.in_ok-store.ensures.written in
    becomes_now _ _ has.content _ (attributes_stored _ c.args.fd c.args.attr c.args.now has _ is) _ (attributes_set _ c.args.fd c.args.attr c.args.now has)

pub returns-clause-mounted : goal.returns-clause-mounted
returns-clause-mounted g c =
    let has = c.requires.file in
    let read = c.in_ok-bytes.ensures in
    let is = attributes_written _ _ _ c.args.fd c.args.attr c.args.now c.in_ok-bytes.bytes _ read.bytes read.media_kept c.put_attributes.ensures c.in_ok-store.ensures.written in
    mounted_now _ _ has.content _ (attributes_stored _ c.args.fd c.args.attr c.args.now has _ is) _ _
    (c.in_ok-store.ensures.volume_kept ∙ read.volume_kept) c.in_ok-store.ensures.cached c.requires.mounted

pub store-requires-clause-sound : goal.store-requires-clause-sound
store-requires-clause-sound g c =
    let has = c.requires.file in
    let read = c.in_ok-bytes.ensures in
    let is = attributes_written _ _ _ c.args.fd c.args.attr c.args.now c.in_ok-bytes.bytes _ read.bytes read.media_kept c.put_attributes.ensures refl in
    stored_sound _ _ has.content _ (attributes_stored _ c.args.fd c.args.attr c.args.now has _ is)
