use Rattle.std.proofs.Common.{arith}
use Rattle.rbf_model.specs.Disk.{disk_of}
use Rattle.rbf_model.specs.Geometry.{sector}
use Rattle.rbf_sector.specs.Ident.{geometry_of}
use Rattle.rbf_sector_rules.proofs.Headers.{header_of}
use Rattle.rbf_check.specs.Verdict.{IsLeastError}
use Rattle.rbf_check.proofs.Verdicts.{keeps, passed, stopped, handed_on}
use Rattle.rbf_check.proofs.faults.test_tree.Goals as goal

pub returns-in_err-pass-clause-broken : goal.returns-in_err-pass-clause-broken
returns-in_err-pass-clause-broken c =
    let g = geometry_of c.args.image.now.ident in
    let disk = sector c.args.image.now.bytes.now in
    handed_on c.from_residual-in_err-pass.result _ (IsLeastError (disk_of g disk))
    c.from_residual-in_err-pass.ensures.1 (stopped g disk 7 c.in_ok-least_without_dots.field-0
    c.in_err-pass.field-0.0 c.requires.before c.in_ok-least_without_dots.ensures.least c.in_err-pass.ensures)

pub returns-in_err-pass-2-clause-broken : goal.returns-in_err-pass-2-clause-broken
returns-in_err-pass-2-clause-broken c =
    let g = geometry_of c.args.image.now.ident in
    let disk = sector c.args.image.now.bytes.now in
    let eight = passed g disk 7 8 c.in_ok-least_without_dots.field-0 (omega arith) c.requires.before c.in_ok-least_without_dots.ensures.least c.in_ok-pass.ensures in
    handed_on c.from_residual-in_err-pass-2.result _ (IsLeastError (disk_of g disk))
    c.from_residual-in_err-pass-2.ensures.1 (stopped g disk 8 c.in_ok-least_badly_named.field-0
    c.in_err-pass-2.field-0.0 eight c.in_ok-least_badly_named.ensures c.in_err-pass-2.ensures)

pub returns-in_err-pass-3-clause-broken : goal.returns-in_err-pass-3-clause-broken
returns-in_err-pass-3-clause-broken c =
    let g = geometry_of c.args.image.now.ident in
    let disk = sector c.args.image.now.bytes.now in
    let eight = passed g disk 7 8 c.in_ok-least_without_dots.field-0 (omega arith) c.requires.before c.in_ok-least_without_dots.ensures.least c.in_ok-pass.ensures in
    let nine = passed g disk 8 9 c.in_ok-least_badly_named.field-0 (omega arith) eight c.in_ok-least_badly_named.ensures c.in_ok-pass-2.ensures in
    handed_on c.from_residual-in_err-pass-3.result _ (IsLeastError (disk_of g disk))
    c.from_residual-in_err-pass-3.ensures.1 (stopped g disk 9 c.in_ok-least_named_again.field-0
    c.in_err-pass-3.field-0.0 nine c.in_ok-least_named_again.ensures c.in_err-pass-3.ensures)

pub returns-clause-kept : goal.returns-clause-kept
returns-clause-kept c =
    let g = geometry_of c.args.image.now.ident in
    let disk = sector c.args.image.now.bytes.now in
    let eight = passed g disk 7 8 c.in_ok-least_without_dots.field-0 (omega arith) c.requires.before c.in_ok-least_without_dots.ensures.least c.in_ok-pass.ensures in
    let nine = passed g disk 8 9 c.in_ok-least_badly_named.field-0 (omega arith) eight c.in_ok-least_badly_named.ensures c.in_ok-pass-2.ensures in
    let ten = passed g disk 9 10 c.in_ok-least_named_again.field-0 (omega arith) nine c.in_ok-least_named_again.ensures c.in_ok-pass-3.ensures in
    keeps g disk (header_of c.args.image.now) ten c.in_ok-least_without_dots.ensures.decided
