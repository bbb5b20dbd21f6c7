use Rattle.std.proofs.Common.{◌-◌, length}
use Rattle.rbf_model.specs.Disk.{disk_of}
use Rattle.rbf_model.specs.Geometry.{sector}
use Rattle.rbf_model.specs.Search.{searchable_bytes}
use Rattle.rbf_sector.specs.Ident.{geometry_of}
use Rattle.rbf_sector_rules.specs.Walk.{IsSearching}
use Rattle.rbf_sector_rules.proofs.FoundFiles.{AreFirstFiles}
use Rattle.rbf_sector_rules.proofs.Walked.{IsWalked}
use Rattle.rbf_sector_rules.proofs.walk.find_files.Given as goal

abbrev pub invariant-loop-search : goal.invariant-loop-search
invariant-loop-search l =
    IsSearching (disk_of (geometry_of l.image.ident) (sector l.image.bytes.now)) l.search
    × IsWalked (geometry_of l.image.ident) (searchable_bytes (disk_of (geometry_of l.image.ident) (sector l.image.bytes.now))) l.search.found.items (length l.files.items)
    × AreFirstFiles l.image l.search.found.items l.files.items

abbrev pub decreases-loop-search : goal.decreases-loop-search
decreases-loop-search l = l.image.ident.total - length l.files.items
