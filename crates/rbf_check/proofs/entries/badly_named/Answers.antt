use Rattle.std.proofs.Common.{refl, arith}
use Rattle.rbf_model.specs.Geometry.{sector}
use Rattle.rbf_sector.specs.Ident.{geometry_of}
use Rattle.rbf_check.proofs.Keyed.{good_is, bad_is}
use Rattle.rbf_check.proofs.entries.badly_named.Goals as goal

pub returns-then-good : goal.returns-then-good
returns-then-good c =
    good_is (geometry_of c.args.image.now.ident) (sector c.args.image.now.bytes.now) c.args.file.now.number
    c.directory_of-dir.result.number c.in_ok-good.good c.directory_of-dir.ensures.number c.in_ok-good.ensures
    c.if-good.true

pub returns : goal.returns
returns c = (
  (
    refl,
    bad_is (geometry_of c.args.image.now.ident) (sector c.args.image.now.bytes.now) c.args.file.now.number
        c.directory_of-dir.result.number c.in_ok-good.good c.directory_of-dir.ensures.number c.in_ok-good.ensures
        c.if-good.false,
  ),
  λ s h. omega (arith, h.0),
)
