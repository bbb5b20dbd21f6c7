use Rattle.std.proofs.Common.{arith}
use Rattle.rbf_model.specs.Disk.{disk_of}
use Rattle.rbf_model.specs.Geometry.{sector}
use Rattle.rbf_sector.specs.Ident.{geometry_of}
use Rattle.rbf_check.specs.Verdict.{IsLeastError}
use Rattle.rbf_check.proofs.Verdicts.{none_first, has_map, not_broken, passed, stopped, handed_on}
use Rattle.rbf_check.proofs.faults.test_files.Goals as goal

pub returns-in_err-pass-clause-broken : goal.returns-in_err-pass-clause-broken
returns-in_err-pass-clause-broken c =
    let g = geometry_of c.args.image.now.ident in
    let disk = sector c.args.image.now.bytes.now in
    handed_on c.from_residual-in_err-pass.result _ (IsLeastError (disk_of g disk))
    c.from_residual-in_err-pass.ensures.1 (stopped g disk 1 c.in_ok-least_bad_number.field-0
    c.in_err-pass.field-0.0 (none_first g disk) c.in_ok-least_bad_number.ensures c.in_err-pass.ensures)

pub returns-in_err-pass-2-clause-broken : goal.returns-in_err-pass-2-clause-broken
returns-in_err-pass-2-clause-broken c =
    let g = geometry_of c.args.image.now.ident in
    let disk = sector c.args.image.now.bytes.now in
    let two = passed g disk 1 2 c.in_ok-least_bad_number.field-0 (omega arith) (none_first g disk) c.in_ok-least_bad_number.ensures c.in_ok-pass.ensures in
    handed_on c.from_residual-in_err-pass-2.result _ (IsLeastError (disk_of g disk))
    c.from_residual-in_err-pass-2.ensures.1 (stopped g disk 2 c.map_breach.result c.in_err-pass-2.field-0.0 two
    c.map_breach.ensures c.in_err-pass-2.ensures)

pub least_unmarked-requires-clause-map : goal.least_unmarked-requires-clause-map
least_unmarked-requires-clause-map c =
    let g = geometry_of c.args.image.now.ident in
    let disk = sector c.args.image.now.bytes.now in
    has_map g disk (not_broken g disk 2 c.map_breach.result c.map_breach.ensures c.in_ok-pass-2.ensures)

pub returns-in_err-pass-3-clause-broken : goal.returns-in_err-pass-3-clause-broken
returns-in_err-pass-3-clause-broken c =
    let g = geometry_of c.args.image.now.ident in
    let disk = sector c.args.image.now.bytes.now in
    let two = passed g disk 1 2 c.in_ok-least_bad_number.field-0 (omega arith) (none_first g disk) c.in_ok-least_bad_number.ensures c.in_ok-pass.ensures in
    let three = passed g disk 2 3 c.map_breach.result (omega arith) two c.map_breach.ensures c.in_ok-pass-2.ensures in
    handed_on c.from_residual-in_err-pass-3.result _ (IsLeastError (disk_of g disk))
    c.from_residual-in_err-pass-3.ensures.1 (stopped g disk 3 c.in_ok-least_unmarked.field-0
    c.in_err-pass-3.field-0.0 three c.in_ok-least_unmarked.ensures c.in_err-pass-3.ensures)

pub least_used_again-requires-clause-map : goal.least_used_again-requires-clause-map
least_used_again-requires-clause-map c =
    let g = geometry_of c.args.image.now.ident in
    let disk = sector c.args.image.now.bytes.now in
    has_map g disk (not_broken g disk 2 c.map_breach.result c.map_breach.ensures c.in_ok-pass-2.ensures)

pub returns-in_err-pass-4-clause-broken : goal.returns-in_err-pass-4-clause-broken
returns-in_err-pass-4-clause-broken c =
    let g = geometry_of c.args.image.now.ident in
    let disk = sector c.args.image.now.bytes.now in
    let two = passed g disk 1 2 c.in_ok-least_bad_number.field-0 (omega arith) (none_first g disk) c.in_ok-least_bad_number.ensures c.in_ok-pass.ensures in
    let three = passed g disk 2 3 c.map_breach.result (omega arith) two c.map_breach.ensures c.in_ok-pass-2.ensures in
    let four = passed g disk 3 4 c.in_ok-least_unmarked.field-0 (omega arith) three c.in_ok-least_unmarked.ensures c.in_ok-pass-3.ensures in
    handed_on c.from_residual-in_err-pass-4.result _ (IsLeastError (disk_of g disk))
    c.from_residual-in_err-pass-4.ensures.1 (stopped g disk 4 c.in_ok-least_used_again.field-0
    c.in_err-pass-4.field-0.0 four c.in_ok-least_used_again.ensures c.in_err-pass-4.ensures)

pub returns-in_err-pass-5-clause-broken : goal.returns-in_err-pass-5-clause-broken
returns-in_err-pass-5-clause-broken c =
    let g = geometry_of c.args.image.now.ident in
    let disk = sector c.args.image.now.bytes.now in
    let two = passed g disk 1 2 c.in_ok-least_bad_number.field-0 (omega arith) (none_first g disk) c.in_ok-least_bad_number.ensures c.in_ok-pass.ensures in
    let three = passed g disk 2 3 c.map_breach.result (omega arith) two c.map_breach.ensures c.in_ok-pass-2.ensures in
    let four = passed g disk 3 4 c.in_ok-least_unmarked.field-0 (omega arith) three c.in_ok-least_unmarked.ensures c.in_ok-pass-3.ensures in
    let five = passed g disk 4 5 c.in_ok-least_used_again.field-0 (omega arith) four c.in_ok-least_used_again.ensures c.in_ok-pass-4.ensures in
    handed_on c.from_residual-in_err-pass-5.result _ (IsLeastError (disk_of g disk))
    c.from_residual-in_err-pass-5.ensures.1 (stopped g disk 5 c.least_breach.result c.in_err-pass-5.field-0.0 five
    c.least_breach.ensures c.in_err-pass-5.ensures)

pub returns-in_err-pass-6-clause-broken : goal.returns-in_err-pass-6-clause-broken
returns-in_err-pass-6-clause-broken c =
    let g = geometry_of c.args.image.now.ident in
    let disk = sector c.args.image.now.bytes.now in
    let two = passed g disk 1 2 c.in_ok-least_bad_number.field-0 (omega arith) (none_first g disk) c.in_ok-least_bad_number.ensures c.in_ok-pass.ensures in
    let three = passed g disk 2 3 c.map_breach.result (omega arith) two c.map_breach.ensures c.in_ok-pass-2.ensures in
    let four = passed g disk 3 4 c.in_ok-least_unmarked.field-0 (omega arith) three c.in_ok-least_unmarked.ensures c.in_ok-pass-3.ensures in
    let five = passed g disk 4 5 c.in_ok-least_used_again.field-0 (omega arith) four c.in_ok-least_used_again.ensures c.in_ok-pass-4.ensures in
    let six = passed g disk 5 6 c.least_breach.result (omega arith) five c.least_breach.ensures c.in_ok-pass-5.ensures in
    handed_on c.from_residual-in_err-pass-6.result _ (IsLeastError (disk_of g disk))
    c.from_residual-in_err-pass-6.ensures.1 (stopped g disk 6 c.least_breach-2.result c.in_err-pass-6.field-0.0
    six c.least_breach-2.ensures c.in_err-pass-6.ensures)

pub returns-clause-kept : goal.returns-clause-kept
returns-clause-kept c =
    let g = geometry_of c.args.image.now.ident in
    let disk = sector c.args.image.now.bytes.now in
    let two = passed g disk 1 2 c.in_ok-least_bad_number.field-0 (omega arith) (none_first g disk) c.in_ok-least_bad_number.ensures c.in_ok-pass.ensures in
    let three = passed g disk 2 3 c.map_breach.result (omega arith) two c.map_breach.ensures c.in_ok-pass-2.ensures in
    let four = passed g disk 3 4 c.in_ok-least_unmarked.field-0 (omega arith) three c.in_ok-least_unmarked.ensures c.in_ok-pass-3.ensures in
    let five = passed g disk 4 5 c.in_ok-least_used_again.field-0 (omega arith) four c.in_ok-least_used_again.ensures c.in_ok-pass-4.ensures in
    let six = passed g disk 5 6 c.least_breach.result (omega arith) five c.least_breach.ensures c.in_ok-pass-5.ensures in
    let seven = passed g disk 6 7 c.least_breach-2.result (omega arith) six c.least_breach-2.ensures c.in_ok-pass-6.ensures in
    seven
