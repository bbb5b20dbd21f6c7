-- The arguments below the place are copied.
use Rattle.std.proofs.Common.{◌≡◌, ◌≤◌, ◌++◌, map, take, string_bytes}
use Rattle.os9_console.proofs.words.push_images.Given as goal

abbrev pub invariant-loop-place : goal.invariant-loop-place
invariant-loop-place l = record {
  within : l.place ≤ 5;
  copied : map string_bytes l.words.items ≡ map string_bytes l.initial.words.items ++ take l.place l.given.arguments;
}
