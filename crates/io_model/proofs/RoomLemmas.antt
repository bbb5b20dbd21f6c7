-- A line that may still be typed keeps room for a byte.
use Rattle.std.proofs.Common.{◌≡◌, ℕ, ◌+◌, ◌-◌, ◌<◌, ◌==◌, ◌&&◌, ◌||◌, ◌≢◌, nat_lt, Bool, true, false, Some, None, [], ◌∷◌, ◌++◌, length, take, if◌then◌else◌, arith, length-append, length-take, refl}
use Rattle.std.proofs.lemmas.Bool.{ltb-true}
use Rattle.std.proofs.lemmas.Bool.Decides.{nat_tests}
use Rattle.io_model.specs.Edit.{Editing, Edited, HasLineRoom, edited, copied, backspaced, deleted, duplicated, returned, escaped, typed_key, refused_key, file_ended, moved, is_last_byte, is_empty_line}
use Rattle.io_model.specs.declared.edit.LineEnd.TheVariants.{Line}

-- the key leaves a line with room
abbrev Leaves : ℕ → Edited → Type 0
Leaves most key = HasLineRoom most key.end key.line

either : (most : ℕ) (b : Bool) (one other : Edited) → (b ≡ true → Leaves most one) → Leaves most other → Leaves most (if b then one else other)
either most true one other h k = h refl
either most false one other h k = k

not_last : (first : Bool) (a b : ℕ) → (first || (a == b)) ≡ false → a ≢ b
not_last first a b h = grind (arith, nat_tests)

module _ (most : ℕ) (line : Editing) (room : length line.bytes < most) where
  as_it_was : Leaves most (refused_key line)
  as_it_was = record { more = room; within = omega arith }

  backspaced-room : Leaves most (backspaced line)
  backspaced-room =
      let short : length (take (length line.bytes - 1) line.bytes) < most = omega (arith, length-take (length line.bytes - 1) line.bytes) in
      record { more = short; within = omega arith }

  deleted-room : Leaves most (deleted line)
  deleted-room = record { more = omega arith; within = omega arith }

  duplicated-room : Leaves most (duplicated most line)
  duplicated-room =
      let short : length (take (most - 1) line.last) < most = omega (arith, length-take (most - 1) line.last) in
      record { more = short; within = omega arith }

  returned-room : Leaves most (returned line)
  returned-room = record { more = tt; within = omega (arith, length-append line.bytes (13 ∷ [])) }

  file_ended-room : Leaves most (file_ended line)
  file_ended-room = record { more = tt; within = omega arith }

  escaped-room : Leaves most (escaped line)
  escaped-room = either most (is_empty_line line) (file_ended line) (refused_key line) (λ _. file_ended-room) as_it_was

  typed_key-room : (key : ℕ) → Leaves most (typed_key most line key)
  typed_key-room key =
      either most (nat_lt (length line.bytes) (most - 1)) _ (refused_key line) (λ below. let fits : length line.bytes
      < most - 1 = ltb-true _ _ below in let longer : length (line.bytes ++ key ∷ []) < most = omega
      (arith, length-append line.bytes (key ∷ [])) in record { more = longer; within = omega arith }) as_it_was

  moved-more : (key : ℕ) (last : Bool) → (last ≡ false → length line.bytes + 1 ≢ most) → HasLineRoom most (if last then Some Line else None) (record line { bytes = line.bytes ++ key ∷ [] })
  moved-more key true other = record { more = tt; within = omega (arith, length-append line.bytes (key ∷ [])) }
  moved-more key false other =
      let differs : length line.bytes + 1 ≢ most = other refl in
      let longer : length (line.bytes ++ key ∷ []) < most = omega (arith, length-append line.bytes (key ∷ [])) in
      record { more = longer; within = omega arith }

  moved-room : (key : ℕ) → Leaves most (moved most line key)
  moved-room key = moved-more key (is_last_byte most line key) (not_last (key == 13) (length line.bytes + 1) most)

  pub edited_room : (key : ℕ) → Leaves most (edited most line key)
  unfolding edited
  edited_room key =
      either most (key == 8) _ _ (λ _. backspaced-room) (either most (key == 24) _ _ (λ _. deleted-room)
      (either most (key == 4) _ _ (λ _. as_it_was) (either most (key == 1) _ _ (λ _. duplicated-room)
      (either most (key == 13) _ _ (λ _. returned-room) (either most (key == 27) _ _ (λ _. escaped-room)
      (typed_key-room key))))))

  pub copied_room : (key : ℕ) → Leaves most (copied most line key)
  unfolding copied
  copied_room key =
      either most ((key == 27) && is_empty_line line) _ _ (λ _. file_ended-room) (moved-room key)
