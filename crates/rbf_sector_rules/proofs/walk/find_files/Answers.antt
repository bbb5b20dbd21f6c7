use Rattle.std.proofs.Common.{◌≡◌, ◌∙◌, ℕ, ◌+◌, ◌<◌, ◌≤◌, Bool, List, length, get_or, sym, ap, subst, arith, rules}
use Rattle.std.proofs.lemmas.List.{get_or_read, length_push}
use Rattle.std.proofs.lemmas.List.Sums.{count_by-le-length}
use Rattle.rbf_model.specs.Disk.{disk_of}
use Rattle.rbf_model.specs.Geometry.{sector}
use Rattle.rbf_model.specs.Segments.{AreDistinct}
use Rattle.rbf_model.specs.Search.{IsListOfReached, searchable_bytes}
use Rattle.rbf_sector.specs.Ident.{geometry_of}
use Rattle.rbf_sector_rules.specs.Files.{AreFiles, found_numbers}
use Rattle.rbf_sector_rules.specs.Found.{added}
use Rattle.rbf_sector_rules.proofs.FoundFiles.{first_files_none, first_files_more, all_numbers}
use Rattle.rbf_sector_rules.proofs.Searching.{searching_none}
use Rattle.rbf_sector_rules.proofs.Walked.{IsWalked, walked_none, walked_more, found_are, number_at}
use Rattle.rbf_sector_rules.proofs.walk.find_files.Goals as goal
use Rattle.rbf_sector_rules.proofs.walk.find_files.Goals.{After-row_known-in-loop-search-1}

pub loop-search-init : goal.loop-search-init
loop-search-init c =
    let g = geometry_of c.args.image.now.ident in
    let disk = sector c.args.image.now.bytes.now in
    let begun = c.find.new.self in
    let found = c.in_ok-find.ensures in
    let unread = c.in_ok-new.ensures in
    let none = c.new-files.ensures.items in
    let total : length begun.seen.items ≡ c.args.image.now.ident.total = first_of (search rules, omega (arith, found.size, c.in_ok-vec.ensures.len, c.in_ok-vec.field-0.ok.0)) in
    let walked = walked_none g (searchable_bytes (disk_of g disk)) begun.found.items (found.found ∙ ap (λ xs. added xs c.args.image.now.ident.root) c.new.ensures.items) in (
      searching_none g disk begun c.in_ok-new.field-0 found.marks total unread.size unread.ordered unread.unread found.unread,
      subst (λ n. IsWalked g (searchable_bytes (disk_of g disk)) begun.found.items n) (sym (ap length none)) walked,
      first_files_none c.args.image.now begun.found.items c.new-files.result.items none,
    )

-- the number that is read next
next_is : (c : After-row_known-in-loop-search-1)
    → (length c.loop-search.files.items < length c.loop-search.search.found.items) × (c.index.result.now ≡ get_or
    c.loop-search.search.found.items (length c.loop-search.files.items) 0)
next_is c =
    let found = c.loop-search.search.found in
    let files = c.loop-search.files in
    let place = c.len-in-loop-search-2.result in
    let at : place ≡ length files.items = omega (arith, files.ok.0) in
    let low : length files.items < length found.items = omega (arith, found.ok.0, files.ok.0) in
    (low, get_or_read found.items place _ (omega arith) c.index.ensures 0 ∙ ap (λ k. get_or found.items k 0) at)

pub read_file-file-requires : goal.read_file-file-requires
read_file-file-requires c =
    let found = c.loop-search.search.found in
    let searching = c.loop-search.invariant.0 in
    let next = next_is c in
    number_at c.loop-search.search.seen.items found.items (length c.loop-search.files.items) c.index.result.now c.args.image.now.ident.total searching.marks searching.size next.0 next.1

pub loop-search-preserved : goal.loop-search-preserved
loop-search-preserved c =
    let g = geometry_of c.args.image.now.ident in
    let dirs = searchable_bytes (disk_of g (sector c.args.image.now.bytes.now)) in
    let old = c.loop-search.search.found.items in
    let new = c.visit.new.self.found.items in
    let files = c.loop-search.files.items in
    let more = c.push.new.self.items in
    let file = c.read_file-file in
    let next = next_is (goal.at.loop-search-preserved c).After-row_known-in-loop-search-1 in
    let here = file.ensures.number ∙ next.1 in
    let visited = c.in_ok-visit.ensures in
    let pushed = c.in_ok-push.ensures.items in
    let count : length more ≡ length files + 1 = ap length pushed ∙ length_push files file.result in (
      visited.searching,
      subst (λ n. IsWalked g dirs new n) (sym count) (walked_more g dirs old new (length files)
          c.directory_of.result.number c.loop-search.invariant.1 next.0 (c.directory_of.ensures.number ∙ here)
          visited.visited),
      first_files_more c.args.image.now old new files more file.result c.loop-search.invariant.2 visited.visited.extends next.0 here file.ensures.file pushed,
    )

pub returns-clause-files : goal.returns-clause-files
returns-clause-files c =
    let g = geometry_of c.args.image.now.ident in
    let disk = sector c.args.image.now.bytes.now in
    let found = c.loop-search.search.found in
    let files = c.loop-search.files in
    let all : length found.items ≤ length files.items = omega (arith, found.ok.0, files.ok.0) in
    let same = all_numbers c.args.image.now found.items files.items c.loop-search.invariant.2 all in
    record {
      found = subst (λ (ns : List ℕ). IsListOfReached (disk_of g disk) ns) (sym same) (found_are g (searchable_bytes (disk_of g disk)) found.items (length files.items) c.loop-search.invariant.1 all);
      read = c.loop-search.invariant.2.read;
    }

pub returns-clause-once : goal.returns-clause-once
returns-clause-once c =
    let found = c.loop-search.search.found in
    let files = c.loop-search.files in
    let all : length found.items ≤ length files.items = omega (arith, found.ok.0, files.ok.0) in
    subst AreDistinct (sym (all_numbers c.args.image.now found.items files.items c.loop-search.invariant.2 all)) c.loop-search.invariant.0.marks.once

pub returns-clause-few : goal.returns-clause-few
returns-clause-few c =
    let searching = c.loop-search.invariant.0 in
    let before = c.loop-search.invariant.1.before in
    omega (arith, before, searching.marks.counted, searching.size, count_by-le-length (λ (mark : Bool). mark) c.loop-search.search.seen.items)
