use Rattle.std.proofs.Common.{◌≡◌, ℕ, List, length, get_or, refl, subst, arith}
use Rattle.rbf_model.specs.Disk.{disk_of}
use Rattle.rbf_model.specs.Geometry.{sector}
use Rattle.rbf_model.specs.Segments.{sectors_of}
use Rattle.rbf_sector_rules.specs.declared.uses.Owner.{Owner}
use Rattle.rbf_sector.specs.Ident.{geometry_of}
use Rattle.rbf_sector_rules.specs.Noted.{IsNoted}
use Rattle.rbf_sector_rules.specs.Used.{used_by}
use Rattle.rbf_sector_rules.specs.Files.{found_numbers}
use Rattle.rbf_sector_rules.proofs.FoundFiles.{file_on, at_number, as_many}
use Rattle.rbf_sector_rules.proofs.FoundNumbers.{reached_found}
use Rattle.rbf_sector_rules.proofs.Owned.{AreRuns, runs_are}
use Rattle.rbf_sector_rules.proofs.Headers.{header_of}
use Rattle.rbf_sector_rules.proofs.Again.{AreSearched, searched_none, searched_more, none_again, below_breach, least_again}
use Rattle.rbf_sector_rules.proofs.shares.least_used_again.Goals as goal
use Rattle.rbf_sector_rules.proofs.shares.least_used_again.Goals.{In_ok-list_segments, After-loop-place}

-- the segments that are listed
runs_of : (c : In_ok-list_segments) (segments : List (ℕ × ℕ)) → segments ≡ c.list_segments.new.segments.items
    → AreRuns (geometry_of c.args.image.now.ident) (sector c.args.image.now.bytes.now)
    (get_or (found_numbers c.args.files.now) c.loop-place.place 0) segments
runs_of c segments is =
    let files = c.args.files.now in
    let place = c.loop-place.place in
    let g = geometry_of c.args.image.now.ident in
    let disk = sector c.args.image.now.bytes.now in
    let items = c.list_segments.new.segments.items in
    let listed = c.in_ok-list_segments.ensures in
    let reached = reached_found g disk (found_numbers files) place c.requires.files.found (omega (arith, as_many files)) in
    let sectors = at_number (λ n. sectors_of items ≡ used_by (disk_of g disk) n) files place c.index-files-place.result (omega arith) c.index-files-place.is listed.sectors in
    runs_are c.args.image.now (get_or (found_numbers files) place 0) items segments c.requires.segments c.requires.map reached sectors listed.segments is

-- all owners
all_of : (c : After-loop-place) → AreSearched (geometry_of c.args.image.now.ident) (sector c.args.image.now.bytes.now)
    (found_numbers c.args.files.now) c.loop-place.uses (length (found_numbers c.args.files.now))
all_of c =
    let P : ℕ → Type 0 = λ i. AreSearched (geometry_of c.args.image.now.ident) (sector c.args.image.now.bytes.now) (found_numbers c.args.files.now) c.loop-place.uses i in
    let all : c.loop-place.place ≡ length (found_numbers c.args.files.now) = omega (arith, as_many c.args.files.now) in
    subst P all c.loop-place.invariant

pub loop-place-init : goal.loop-place-init
loop-place-init c =
    let uses = c.in_ok-uses.ensures in
    searched_none (geometry_of c.args.image.now.ident) (sector c.args.image.now.bytes.now)
    (found_numbers c.args.files.now) c.requires.files.found c.in_ok-uses.uses uses.users uses.owners uses.no_users
    uses.no_owners uses.least

pub list_segments-requires : goal.list_segments-requires
list_segments-requires c = file_on c.args.image.now c.args.files.now c.loop-place.place c.index-files-place.result c.requires.files.read (omega arith) c.index-files-place.is

pub note_segments-requires-clause-segments : goal.note_segments-requires-clause-segments
note_segments-requires-clause-segments c =
    (runs_of (goal.at.note_segments-requires-clause-segments c).In_ok-list_segments c.deref.result.now c.deref.ensures.value).segments

pub note_segments-requires-clause-users : goal.note_segments-requires-clause-users
note_segments-requires-clause-users c = λ i d low.
    let segments = runs_of (goal.at.note_segments-requires-clause-users c).In_ok-list_segments c.deref.result.now c.deref.ensures.value in
    omega (arith, segments.within i d low, c.loop-place.invariant.users_size)

pub note_segments-requires-clause-owners : goal.note_segments-requires-clause-owners
note_segments-requires-clause-owners c = λ i d low.
    let segments = runs_of (goal.at.note_segments-requires-clause-owners c).In_ok-list_segments c.deref.result.now c.deref.ensures.value in
    omega (arith, segments.within i d low, c.loop-place.invariant.owners_size)

pub loop-place-preserved : goal.loop-place-preserved
loop-place-preserved c =
    let g = geometry_of c.args.image.now.ident in
    let disk = sector c.args.image.now.bytes.now in
    let found = found_numbers c.args.files.now in
    let i = c.loop-place.place in
    let owner : ℕ → Owner = λ n. record { place = i; descriptor = n } in
    let old = c.loop-place.uses in
    let new = c.note_segments.new.self in
    let segments = runs_of (goal.at.loop-place-preserved c).In_ok-list_segments c.deref.result.now c.deref.ensures.value in
    let noted = at_number (λ n. IsNoted c.from.result (owner n) (sectors_of c.deref.result.now) old new)
    c.args.files.now i c.index-files-place.result (omega arith) c.index-files-place.is c.note_segments.ensures in
    let K : ℕ → Type 0 = λ k. IsNoted k (owner (get_or found i 0)) (sectors_of c.deref.result.now) old new in
    let P : List ℕ → Type 0 = λ xs. IsNoted g.cluster (owner (get_or found i 0)) xs old new in
    searched_more g disk found c.requires.files.found old new i (owner (get_or found i 0))
    (omega (arith, as_many c.args.files.now)) refl refl c.loop-place.invariant
    (subst P segments.sectors (subst K c.from.ensures noted))

pub returns-then-least-image : goal.returns-then-least-image
returns-then-least-image c =
    let g = geometry_of c.args.image.now.ident in
    let disk = sector c.args.image.now.bytes.now in
    let found = found_numbers c.args.files.now in
    let all = all_of (goal.at.returns-then-least-image c).After-loop-place in
    (least_again g disk found c.requires.files.found c.loop-place.uses all (omega arith), below_breach g disk found c.requires.files.found c.loop-place.uses all)

pub returns : goal.returns
returns c =
    let all = all_of (goal.at.returns c).After-loop-place in
    none_again (geometry_of c.args.image.now.ident) (sector c.args.image.now.bytes.now)
    (found_numbers c.args.files.now) c.requires.files.found c.loop-place.uses all (header_of c.args.image.now)
    c.requires.segments c.requires.map (omega arith)
