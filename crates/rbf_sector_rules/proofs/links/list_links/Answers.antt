use Rattle.std.proofs.Common.{sym, ◌∙◌, arith}
use Rattle.rbf_model.specs.Geometry.{sector}
use Rattle.rbf_sector.specs.Ident.{geometry_of}
use Rattle.rbf_sector_rules.specs.Files.{found_numbers}
use Rattle.rbf_sector_rules.proofs.FoundFiles.{file_on, number_in, as_many}
use Rattle.rbf_sector_rules.proofs.Linking.{links_none, links_more, links_are}
use Rattle.rbf_sector_rules.proofs.links.list_links.Goals as goal

pub loop-file-init : goal.loop-file-init
loop-file-init c =
    links_none (geometry_of c.args.image.now.ident) (sector c.args.image.now.bytes.now) (found_numbers c.args.files.now) c.requires.found c.new-links.result.items c.new-links.ensures.items

pub directory_of-dir-requires : goal.directory_of-dir-requires
directory_of-dir-requires c = file_on c.args.image.now c.args.files.now c.loop-file.file-index c.file-item.result c.requires.read (omega arith) c.file-item.is

pub loop-file-preserved : goal.loop-file-preserved
loop-file-preserved c =
    let dir = c.directory_of-dir in
    links_more (geometry_of c.args.image.now.ident) (sector c.args.image.now.bytes.now)
    (found_numbers c.args.files.now) c.requires.found c.loop-file.links.items c.add_links.new.links.items
    c.loop-file.file-index dir.result.number dir.result.entries c.loop-file.invariant
    (omega (arith, as_many c.args.files.now))
    (dir.ensures.number ∙ sym (number_in c.args.files.now c.loop-file.file-index c.file-item.result (omega arith)
    c.file-item.is)) dir.ensures.directory.entries c.in_ok-add_links.ensures

pub returns : goal.returns
returns c =
    links_are (geometry_of c.args.image.now.ident) (sector c.args.image.now.bytes.now)
    (found_numbers c.args.files.now) c.requires.found c.loop-file.links.items c.loop-file.file-index
    (omega (arith, as_many c.args.files.now)) c.loop-file.invariant
