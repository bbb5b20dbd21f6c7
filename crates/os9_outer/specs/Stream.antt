-- Bytes that are written to a stream or put on a terminal, if they are observed.
use Rattle.std.specs.Prelude.{◌≡◌, ℕ, ◌<◌, Option, option_map, List, [], ◌++◌, take, length}

-- the stream with these bytes at its end; what is not observed stays so
abbrev pub stream_with : Option (List ℕ) → List ℕ → Option (List ℕ)
stream_with stream bytes = option_map (λ before. before ++ bytes) stream

-- the stream without any bytes; what is not observed stays so
abbrev pub emptied : Option (List ℕ) → Option (List ℕ)
emptied stream = option_map (λ before. []) stream

-- the stream gained the first of these bytes: all, some or none of them
abbrev pub GainsPrefix : Option (List ℕ) → List ℕ → Option (List ℕ) → Type 0
GainsPrefix before bytes now = (count : ℕ) × (now ≡ stream_with before (take count bytes))

-- the stream gained the first of these bytes, some or none of them, and at least one is missing
abbrev pub GainsPart : Option (List ℕ) → List ℕ → Option (List ℕ) → Type 0
GainsPart before bytes now = (count : ℕ) × (count < length bytes) × (now ≡ stream_with before (take count bytes))
