-- One sector that is laid over, part by part.
use Rattle.std.proofs.Common.{◌≡◌, ℕ, ◌+◌, ◌-◌, ◌<◌, ◌≤◌, min, Option, List, length, get_or, slice_index, sym, ap, ◌∙◌, inl, inr, ⊎_elim, arith, length-drop}
use Rattle.std.specs.Prelude.{take, drop}
use Rattle.std.proofs.lemmas.Bool.{cases_lt}
use Rattle.std.proofs.lemmas.List.{get_or-take, get_or-drop, length-take-le, length-replicate}
use Rattle.os9_outer.specs.Drive.{sector_at, with_sector}
use Rattle.rbf_model.specs.Writes.{put_at}
use Rattle.rbf_model.proofs.Pieces.{length-put_at}
use Rattle.rbf_write.specs.Laid.{laid_byte, LaysSector}
use Rattle.rbf_write.specs.Sector.{CoversSector, ClearsBytes, IsPartIn}
use Rattle.rbf_write.proofs.LaidBytes.{laid_in, laid_after, laid_zero, laid_before, put_before, put_in, put_behind, zeros, zeros_are}

-- a sector that is covered, whatever it had
pub covered : (start at size : ℕ) (from bytes : List ℕ) → CoversSector start at from bytes → (q old : ℕ) → q < 256 → get_or bytes q 0 ≡ laid_byte size at from (start + q) old
covered start at size from bytes covers q old low =
    let begins = covers.begins in
    let ends = covers.ends in
    let place : start - at + q ≡ start + q - at = omega arith in
    covers.each q low ∙ ap (λ j. get_or from j 0) place ∙ sym (laid_in size at from (start + q) old (omega arith) (omega arith))

-- a sector of zeros, whatever it had
all_zeros : (start at size : ℕ) (from : List ℕ) → (size ≤ start) × (start + 256 ≤ at) → (q old : ℕ) → q < 256 → get_or (zeros 256) q 0 ≡ laid_byte size at from (start + q) old
all_zeros start at size from within q old low =
    let begins = within.0 in
    let ends = within.1 in
    zeros_are 256 q ∙ sym (laid_zero size at from (start + q) old (omega arith) (omega arith))

pub lays_zeros : (size at : ℕ) (from : List ℕ) (start lsn : ℕ) (old new : Option (List ℕ)) → (size ≤ start) × (start + 256 ≤ at)
    → new ≡ with_sector old lsn (zeros 256) → LaysSector size at from start lsn old new
lays_zeros size at from start lsn old new within media = record {
  bytes = zeros 256;
  whole = length-replicate {A = ℕ} 256 0;
  each = λ q low. all_zeros start at size from within q (slice_index (sector_at old lsn) q) low;
  media = media;
}

-- zeros put over a part of a sector
pub cleared : (first end : ℕ) (old new zeros : List ℕ) → length old ≡ 256 → first ≤ 256 → end ≤ 256
    → length zeros ≡ end - first → ((q : ℕ) → q < length zeros → get_or zeros q 0 ≡ 0) → new ≡ put_at old first zeros
    → ClearsBytes first end old new
cleared first end old new zeros whole low high count none is = record {
  whole = ap length is ∙ length-put_at old zeros first fits;
  zeros = λ q from below. ap (λ xs. get_or xs q 0) is ∙ put_in old zeros first fits q from (omega arith) ∙ none (q - first) (omega arith);
  others = λ q apart. ap (λ xs. get_or xs q 0) is ∙ ⊎_elim
      (λ before. put_before old zeros first fits q before)
      (λ behind. ⊎_elim
      (λ before. put_before old zeros first fits q before)
      (λ from. put_behind old zeros first fits q (omega arith))
      (cases_lt q first))
      apart;
}
  where
    fits : first + length zeros ≤ length old
    fits = omega arith

pub zeros_front : (n q : ℕ) → q < n → get_or (take n (zeros 256)) q 0 ≡ 0
zeros_front n q low = get_or-take n (zeros 256) q 0 low ∙ zeros_are 256 q

-- the first m of the bytes behind the first k
module _ (from : List ℕ) (skip room k m : ℕ) (begins : k ≡ min (length from) skip) (ends : m ≡ min (length (take (length from - k) (drop k from))) room) where
  abbrev rest : List ℕ
  rest = take (length from - k) (drop k from)

  left : length rest ≡ length from - k
  left = length-take-le (length from - k) (drop k from) (let behind = length-drop k from in omega arith)

  size : length (take m rest) ≡ m
  size = length-take-le m rest (omega arith)

  pub part_is : IsPartIn from skip room (take m rest)
  part_is = record {
    count = size ∙ (let few = left in omega arith);
    each = λ j low.
        let many = size in
        let few = left in
        let place : k + j ≡ skip + j = omega arith in
        get_or-take m rest j 0 (omega arith) ∙ get_or-take (length from - k) (drop k from) j 0 (omega arith) ∙ get_or-drop k from j 0 ∙ ap (λ i. get_or from i 0) place;
  }

-- the whole sector, byte by byte
module _ (start size at : ℕ) (from part old mid new : List ℕ) (first gap : ℕ) (first_is : first ≡ min (at - start) 256) (gap_is : gap ≡ min (size - start) 256)
    (zeroed : ClearsBytes gap first old mid) (whole : length mid ≡ 256) (in_part : IsPartIn from (start - at) (256 - first) part) (is : new ≡ put_at mid first part) where
  fits : first + length part ≤ length mid
  fits = let count = in_part.count in omega arith

  pub laid_sector : (q : ℕ) → q < 256 → get_or new q 0 ≡ laid_byte size at from (start + q) (get_or old q 0)
  laid_sector q low =
      let count = in_part.count in
      ap (λ xs. get_or xs q 0) is ∙ ⊎_elim
      (λ before. put_before mid part first fits q (omega arith) ∙ ⊎_elim
      (λ inside. zeroed.others q (inl (omega arith)) ∙ sym (laid_before size at from (start + q) (get_or old q 0) before inside))
      (λ past. zeroed.zeros q (omega arith) (omega arith) ∙ sym (laid_zero size at from (start + q) (get_or old q 0) before past))
      (cases_lt (start + q) size))
      (λ late. ⊎_elim
      (λ inside.
      let place : start - at + (q - first) ≡ start + q - at = omega arith in
      put_in mid part first fits q (omega arith) (omega arith) ∙ in_part.each (q - first) (omega arith) ∙ ap (λ j. get_or from j 0) place
      ∙ sym (laid_in size at from (start + q) (get_or old q 0) late inside))
      (λ behind. put_behind mid part first fits q (omega arith) ∙ zeroed.others q (inr (omega arith)) ∙ sym (laid_after size at from (start + q) (get_or old q 0) behind))
      (cases_lt (start + q) (at + length from)))
      (cases_lt (start + q) at)
