use Rattle.std.proofs.Common.{◌≡◌, ◌∙◌, ◌+◌, ◌-◌, ◌*◌, ◌/◌, ◌%◌, take, drop, sym, ap, is_some, get_or, arith}
use Rattle.rbf_model.specs.Fields.{segments_field}
use Rattle.rbf_model.specs.Geometry.{sector}
use Rattle.rbf_model.specs.Segments.{sectors_of}
use Rattle.rbf_sector_rules.proofs.Searched.{lsn_found, entry_fits, entry_found}
use Rattle.rbf_sector_rules.proofs.directory.entry_bytes.Goals as goal

pub unwrap-lsn-requires : goal.unwrap-lsn-requires
unwrap-lsn-requires c =
    ap is_some (c.lsn_of.ensures ∙ lsn_found c.args.image.now c.args.dir.now c.args.i c.requires.directory c.requires.within)

pub slice_bounds-copy_from_slice-end-2 : goal.slice_bounds-copy_from_slice-end-2
slice_bounds-copy_from_slice-end-2 c =
    let found = c.lsn_of.ensures ∙ lsn_found c.args.image.now c.args.dir.now c.args.i c.requires.directory c.requires.within in
    let fits = entry_fits c.args.image.now c.args.dir.now c.args.i c.requires.directory c.requires.within in
    let lsn : c.unwrap-lsn.result ≡ get_or (sectors_of (segments_field (sector c.args.image.now.bytes.now c.args.dir.now.number))) (c.args.i / 8) 0 = cc in
    omega arith

pub returns : goal.returns
returns c =
    let found = c.lsn_of.ensures ∙ lsn_found c.args.image.now c.args.dir.now c.args.i c.requires.directory c.requires.within in
    let entry = entry_found c.args.image.now c.args.dir.now c.args.i c.requires.directory c.requires.within in
    let after = c.copy_from_slice.ensures.after in
    let lsn : c.unwrap-lsn.result ≡ get_or (sectors_of (segments_field (sector c.args.image.now.bytes.now c.args.dir.now.number))) (c.args.i / 8) 0 = cc in
    let q = 32 * (c.args.i % 8) in
    let count : 256 * c.unwrap-lsn.result + q + 32 - (256 * c.unwrap-lsn.result + q) ≡ 32 = omega arith in
    after ∙ ap (λ n. take n (drop (256 * c.unwrap-lsn.result + q) c.args.image.now.bytes.now)) count ∙ ap (λ l. take 32 (drop (256 * l + q) c.args.image.now.bytes.now)) lsn ∙ sym entry
