-- Parameters that are read again.
use Rattle.std.proofs.Common.{◌≡◌, ℕ, Bool, true, false, IsSome, Option, Some, None, List, [], take, unwrap_or}
use Rattle.std.proofs.lemmas.Bool.{false≢true}
use Rattle.proc_state.specs.Tie.{bytes_read}

-- they stand at the front of the buffer
pub read-again : (parameters : Option (List ℕ)) (read : Bool) (count : ℕ) (buffer : List ℕ) → IsSome parameters
    → parameters ≡ bytes_read read count buffer → take count buffer ≡ unwrap_or parameters []
read-again None read count buffer some is = absurd (false≢true some)
read-again (Some bytes) true count buffer some is = cc
read-again (Some bytes) false count buffer some is = absurd cc
