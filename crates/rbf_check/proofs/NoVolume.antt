-- An image that has a fault stands for no volume.
use Rattle.std.proofs.Common.{ℕ, List}
use Rattle.rbf_model.proofs.Images.{no_image_breach}
use Rattle.rbf_check.specs.Verdict.{IsErrorOf, RepresentsNone}
use Rattle.rbf_check.specs.declared.faults.CheckError.{CheckError}
use Rattle.rbf_check.specs.declared.faults.CheckError.TheVariants.{Fault, OutOfMemory}

pub represents_none : (image : List ℕ) (error : CheckError) → IsErrorOf image error → RepresentsNone image error
represents_none image (Fault fault) is = λ v stands. no_image_breach image v stands is.broken
represents_none image OutOfMemory is = is
