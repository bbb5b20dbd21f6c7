-- What is given to a stream in pieces.
use Rattle.std.proofs.Common.{◌≡◌, ℕ, Option, Some, None, List, [], ◌++◌, refl, append_assoc, append-nil}
use Rattle.os9_outer.specs.Stream.{stream_with}

-- twice is at once
pub appended-twice : (stream : Option (List ℕ)) (first second : List ℕ) → stream_with (stream_with stream first) second ≡ stream_with stream (first ++ second)
appended-twice None first second = refl
appended-twice (Some bytes) first second = rw append_assoc refl

-- nothing leaves it
pub appended-nothing : (stream : Option (List ℕ)) → stream_with stream [] ≡ stream
appended-nothing None = refl
appended-nothing (Some bytes) = rw append-nil refl
