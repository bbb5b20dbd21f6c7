-- The arguments from the third on and below the place are copied.
use Rattle.std.proofs.Common.{◌≡◌, ◌≤◌, drop, take}
use Rattle.os9_words.proofs.vol_words.rest_words.Given as goal

abbrev pub invariant-loop-place : goal.invariant-loop-place
invariant-loop-place l = record {
  later : 2 ≤ l.place;
  few : l.place ≤ 4;
  copied : l.words.items ≡ drop 2 (take l.place l.given.arguments);
}
