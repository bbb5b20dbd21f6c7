-- The arguments below the place are copied.
use Rattle.std.proofs.Common.{◌≡◌, ◌≤◌, take}
use Rattle.os9_words.specs.Command.{most_images}
use Rattle.os9_words.proofs.command.image_words.Given as goal

abbrev pub invariant-loop-place : goal.invariant-loop-place
invariant-loop-place l = record {
  within : l.place ≤ most_images;
  copied : l.words.items ≡ take l.place l.given.arguments;
}
