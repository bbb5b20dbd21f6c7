-- The words of `vol` (this project's own).
use Rattle.std.specs.Prelude.{◌≡◌, ◌≢◌, ℕ, ◌+◌, ◌≤◌, nat_eq, true, length, Option, Some, None, option_and_then, List, [], ◌∷◌, bytes_eq, codes, drop, slice_get, if◌then◌else◌}
use Rattle.std.specs.Option.{option_map_or}
use Rattle.os9_base.specs.declared.registers.TimePacket.{TimePacket}
use Rattle.time_rules.specs.CivilTime.{is_time_packet}
use Rattle.text_values.specs.Number.{number_of, within}
use Rattle.rbf_model.specs.Geometry.{is_cluster_size}
use Rattle.option_reader.specs.Given.{Given, value_of}
use Rattle.os9_words.specs.Times.{time_of}
use Rattle.os9_words.specs.declared.vol_words.Verb.{Verb}
use Rattle.os9_words.specs.declared.vol_words.Verb.TheVariants.{Format, Put, Get, Mkdir, Delete, Dir, Repair}
use Rattle.os9_words.specs.declared.vol_words.VolWords.{VolWords}

-- the options of `vol`; only `format` takes `--cluster`
abbrev pub vol_options : List (List ℕ)
vol_options = codes "time" ∷ codes "cluster" ∷ []

-- the verb that a word spells
abbrev pub verb_of : List ℕ → Option Verb
verb_of word =
    if bytes_eq word (codes "format") then Some Format
    else (if bytes_eq word (codes "put") then Some Put
    else (if bytes_eq word (codes "get") then Some Get
    else (if bytes_eq word (codes "mkdir") then Some Mkdir
    else (if bytes_eq word (codes "delete") then Some Delete
    else (if bytes_eq word (codes "dir") then Some Dir
    else (if bytes_eq word (codes "repair") then Some Repair
    else None))))))

-- the number of words that a verb takes after IMAGE: PATH and FILE, PATH, or none
abbrev pub rest_count : Verb → ℕ
rest_count Put = 2
rest_count Get = 2
rest_count Mkdir = 1
rest_count Delete = 1
rest_count Dir = 1
rest_count Repair = 0
rest_count Format = 0

-- SECTORS, from 16 to 524,280: the only argument after the verb and IMAGE
abbrev pub sectors_in : List (List ℕ) → Option ℕ
sectors_in arguments =
    if nat_eq (length arguments) 3
    then option_and_then (λ word. within 16 524280 (number_of word)) (slice_get arguments 2)
    else None

-- K, one of 1, 2, 4, 8, 16, 32 and 64, with `--cluster K`, and 1 without
abbrev pub cluster_size : ℕ → Option ℕ
cluster_size k = if is_cluster_size k then Some k else None

abbrev pub cluster_of : Given → Option ℕ
cluster_of words =
    option_map_or (λ word. option_and_then cluster_size (within 1 64 (number_of word)))
    (value_of words (codes "cluster")) (Some 1)

-- `vol format IMAGE SECTORS`, optionally with `--cluster K`, at this time
abbrev pub format_with : List ℕ → TimePacket → (sectors cluster : Option ℕ) → Option VolWords
format_with image start (Some sectors) (Some cluster) =
    Some (record { verb = Format; image = image; rest = []; sectors = sectors; cluster = cluster; start = start })
format_with image start _ _ = None

-- another verb, with the number of arguments that it takes, and without `--cluster`
abbrev pub tool_with : Verb → List ℕ → TimePacket → (arguments : List (List ℕ)) → (cluster : Option (List ℕ))
    → Option VolWords
tool_with verb image start arguments None =
    if nat_eq (length arguments) (rest_count verb + 2)
    then Some (record {
      verb = verb;
      image = image;
      rest = drop 2 arguments;
      sectors = 0;
      cluster = 1;
      start = start;
    })
    else None
tool_with verb image start arguments (Some cluster) = None

-- `vol VERB IMAGE ..` at this time
abbrev pub verb_with : Verb → List ℕ → TimePacket → Given → Option VolWords
verb_with Format image start words =
    format_with image start (sectors_in words.arguments) (cluster_of words)
verb_with verb image start words =
    tool_with verb image start words.arguments (value_of words (codes "cluster"))

-- the words, if a verb, an image and a time are given
abbrev pub vol_with : Option Verb → (image : Option (List ℕ)) → (start : Option TimePacket) → Given → Option VolWords
vol_with (Some verb) (Some image) (Some start) words = verb_with verb image start words
vol_with _ _ _ words = None

-- the verb is the first argument, and IMAGE the second
abbrev pub vol_of : Given → Option VolWords
vol_of words =
    vol_with (option_and_then verb_of (slice_get words.arguments 0)) (slice_get words.arguments 1) (time_of words) words

-- a disk of 16 to 524,280 sectors, with a valid number of sectors in a cluster
pub record HasSizes (vol : VolWords) : Type 0 where
  pub least : 16 ≤ vol.sectors
  pub most : vol.sectors ≤ 524280
  pub cluster : is_cluster_size vol.cluster ≡ true

-- the properties of the words of `vol`
pub record IsVol (vol : VolWords) : Type 0 where
  pub time : is_time_packet vol.start ≡ true
  pub words : length vol.rest ≡ rest_count vol.verb
  pub disk : vol.verb ≡ Format → HasSizes vol
