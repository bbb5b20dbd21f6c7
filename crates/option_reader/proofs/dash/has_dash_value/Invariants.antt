use Rattle.std.proofs.Common.{◌≡◌, false, map, string_bytes, drop}
use Rattle.option_reader.specs.Dash as model
use Rattle.option_reader.proofs.dash.has_dash_value.Given as goal

abbrev pub invariant-loop-word : goal.invariant-loop-word
invariant-loop-word l = model.has_dash_value false (map string_bytes l.words) ≡ model.has_dash_value l.waits (map string_bytes (drop l.word-index l.words))
