-- Bytes of memory and instructions, one after another.
use Rattle.std.proofs.Common.{◌≡◌, ℕ, zero, suc, ◌+◌, ◌-◌, ◌<◌, ◌≤◌, ◌%◌, Option, Some, None, List, [], ◌∷◌, ◌++◌, refl, sym, ap, ◌∙◌, append_assoc, append-nil, arith}
use Rattle.std.specs.List.{flat_map, range_with_len}
use Rattle.std.proofs.lemmas.List.Concat.{flat_map-append}
use Rattle.os9_base.specs.Cells.{Cells}
use Rattle.cpu_model.specs.Reading.{reading}
use Rattle.os9_debug.specs.Disassembly.{bytes_from, byte_before, dis_line, dis_lines, longest_instruction, reading_at, reading_length}
use Rattle.asm_model.specs.Numbers.{four_digits}
use Rattle.os9_debug.specs.declared.command.Span.{Span}
use Rattle.os9_debug.specs.Show.{byte_text, mem_line}

-- ---- the bytes of an instruction

-- behind FFFF comes 0000
wrapped : (cells : Cells) (most at other : ℕ) → at % 65536 ≡ other % 65536 → bytes_from cells at most ≡ bytes_from cells other most
wrapped cells zero at other same = refl
wrapped cells (suc most) at other same =
    ap (λ place. byte_before (cells place) (bytes_from cells (at + 1) most)) same
    ∙ ap (λ bytes. byte_before (cells (other % 65536)) bytes) (wrapped cells most (at + 1) (other + 1) (omega (arith, same)))

unrolled : (cells : Cells) (at next k most : ℕ) → k < most → at < 65536 → next ≡ (at + 1) % 65536 → bytes_from cells at (most - k) ≡ byte_before (cells at) (bytes_from cells next (most - (k + 1)))
unrolled cells at next k most low small is =
    let left : most - k ≡ suc (most - (k + 1)) = omega (arith, low) in
    let here : at % 65536 ≡ at = omega (arith, small) in
    let there : (at + 1) % 65536 ≡ next % 65536 = omega (arith, is) in
    ap (bytes_from cells at) left
    ∙ ap (λ place. byte_before (cells place) (bytes_from cells (at + 1) (most - (k + 1)))) here
    ∙ ap (λ bytes. byte_before (cells at) bytes) (wrapped cells (most - (k + 1)) (at + 1) next there)

-- one more
pub byte-more : (cells : Cells) (at next : ℕ) (bytes now : List ℕ) (k most byte : ℕ) → k < most → at < 65536
    → next ≡ (at + 1) % 65536 → cells at ≡ Some byte → bytes ≡ now ++ bytes_from cells at (most - k)
    → bytes ≡ (now ++ byte ∷ []) ++ bytes_from cells next (most - (k + 1))
byte-more cells at next bytes now k most byte low small is some so_far =
    let rest = bytes_from cells next (most - (k + 1)) in
    so_far
    ∙ ap (λ more. now ++ more) (unrolled cells at next k most low small is ∙ ap (λ byte. byte_before byte rest) some)
    ∙ sym (append_assoc now (byte ∷ []) rest)

-- no more
pub byte-none : (cells : Cells) (at : ℕ) (bytes now : List ℕ) (k most : ℕ) → k < most → at < 65536 → cells at ≡ None → bytes ≡ now ++ bytes_from cells at (most - k) → now ≡ bytes
byte-none cells at bytes now k most low small none so_far =
    let next = (at + 1) % 65536 in
    let rest = bytes_from cells next (most - (k + 1)) in
    sym (so_far ∙ ap (λ more. now ++ more) (unrolled cells at next k most low small refl ∙ ap (λ byte. byte_before byte rest) none) ∙ append-nil now)

-- all
pub bytes-all : (cells : Cells) (at : ℕ) (bytes now : List ℕ) (k most : ℕ) → most ≤ k → bytes ≡ now ++ bytes_from cells at (most - k) → now ≡ bytes
bytes-all cells at bytes now k most all so_far =
    let left : most - k ≡ 0 = omega (arith, all) in
    sym (so_far ∙ ap (λ count. now ++ bytes_from cells at count) left ∙ append-nil now)

-- ---- bytes of a line

range-more : (a n : ℕ) → range_with_len a (suc n) ≡ range_with_len a n ++ (a + n) ∷ []
range-more a zero = let same : a ≡ a + 0 = omega arith in ap (λ k. k ∷ []) same
range-more a (suc n) =
    let same : (a + 1) + n ≡ a + suc n = omega arith in
    ap (λ rest. a ∷ rest) (range-more (a + 1) n ∙ ap (λ k. range_with_len (a + 1) n ++ k ∷ []) same)

-- one more
pub seen-more : (cells : Cells) (at n place : ℕ) (byte : Option ℕ) (line now : List ℕ) → place ≡ (at + n) % 65536
    → byte ≡ cells place → now ≡ line ++ flat_map (λ at. byte_text (cells (at % 65536))) (range_with_len at n)
    → now ++ byte_text byte ≡ line ++ flat_map (λ at. byte_text (cells (at % 65536))) (range_with_len at (n + 1))
seen-more cells at n place byte line now is seen so_far =
    let f : ℕ → List ℕ = λ at. byte_text (cells (at % 65536)) in
    let next : n + 1 ≡ suc n = omega arith in
    let here : byte_text byte ≡ f (at + n) = ap byte_text (seen ∙ ap cells is) in
    let more : flat_map f (range_with_len at (n + 1)) ≡ flat_map f (range_with_len at n) ++ f (at + n) =
    ap (λ count. flat_map f (range_with_len at count)) next ∙ ap (flat_map f) (range-more at n)
    ∙ flat_map-append f (range_with_len at n) ((at + n) ∷ [])
    ∙ ap (λ last. flat_map f (range_with_len at n) ++ last) (append-nil (f (at + n))) in
    ap (λ before. before ++ byte_text byte) so_far
    ∙ append_assoc line (flat_map f (range_with_len at n)) (byte_text byte)
    ∙ ap (λ rest. line ++ rest) (ap (λ last. flat_map f (range_with_len at n) ++ last) here ∙ sym more)

-- ---- instructions

-- one more
pub line-more : (cells : Cells) (at next length : ℕ) (bytes all now then : List ℕ) (k count : ℕ) → k < count
    → bytes ≡ bytes_from cells at longest_instruction → then ≡ now ++ dis_line at (reading bytes)
    → length ≡ reading_length (reading bytes) → next ≡ (at + length) % 65536 → all ≡ now ++ dis_lines cells at
    (count - k) → all ≡ then ++ dis_lines cells next (count - (k + 1))
line-more cells at next length bytes all now then k count low are put is place so_far =
    let left : count - k ≡ suc (count - (k + 1)) = omega (arith, low) in
    let read : reading bytes ≡ reading_at cells at = ap reading are in
    let line : List ℕ = dis_line at (reading_at cells at) in
    let behind : (at + reading_length (reading_at cells at)) % 65536 ≡ next = sym (place ∙ ap (λ length. (at + length) % 65536) (is ∙ ap reading_length read)) in
    so_far
    ∙ ap (λ count. now ++ dis_lines cells at count) left
    ∙ ap (λ place. now ++ (line ++ dis_lines cells place (count - (k + 1)))) behind
    ∙ sym (append_assoc now line (dis_lines cells next (count - (k + 1))))
    ∙ ap (λ front. front ++ dis_lines cells next (count - (k + 1))) (sym (put ∙ ap (λ read. now ++ dis_line at read) read))

-- all
pub lines-all : (cells : Cells) (at : ℕ) (all now : List ℕ) (k count : ℕ) → count ≤ k → all ≡ now ++ dis_lines cells at (count - k) → now ≡ all
lines-all cells at all now k count done so_far =
    let left : count - k ≡ 0 = omega (arith, done) in
    sym (so_far ∙ ap (λ count. now ++ dis_lines cells at count) left ∙ append-nil now)

-- the line is whole
pub line-end : (cells : Cells) (before : List ℕ) (span : Span) (n : ℕ) (now : List ℕ) → n ≡ span.count
    → now ≡ (before ++ four_digits span.at) ++ flat_map (λ at. byte_text (cells (at % 65536)))
    (range_with_len span.at n) → now ++ 10 ∷ [] ≡ before ++ mem_line cells span
line-end cells before span n now all so_far =
    let seen : List ℕ = flat_map (λ at. byte_text (cells (at % 65536))) (range_with_len span.at span.count) in
    ap (λ line. line ++ 10 ∷ []) (so_far ∙ ap (λ count. (before ++ four_digits span.at) ++ flat_map
    (λ at. byte_text (cells (at % 65536))) (range_with_len span.at count)) all ∙ append_assoc before
    (four_digits span.at) seen)
    ∙ append_assoc before (four_digits span.at ++ seen) (10 ∷ [])
