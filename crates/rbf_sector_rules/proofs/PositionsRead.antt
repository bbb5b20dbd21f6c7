-- What is found in positions that are read.
use Rattle.std.proofs.Common.{◌≡◌, ◌⊎◌, ℕ, ◌+◌, ◌-◌, ◌*◌, ◌<◌, ◌≤◌, true, List, length, take, get_or, min, sym, ap, ◌∙◌, subst, inl, inr, ⊎_elim, length-append, arith}
use Rattle.std.proofs.lemmas.Bool.{cases_lt, cases_eq}
use Rattle.std.proofs.lemmas.List.{take_all}
use Rattle.std.proofs.lemmas.List.Folds.{length-flat_map-take}
use Rattle.std.proofs.lemmas.List.FromFn.{length-range_with_len, get_or-range_with_len}
use Rattle.std.proofs.lemmas.List.Concat.{get_or-flat_map}
use Rattle.rbf_model.specs.Disk.{disk_of}
use Rattle.rbf_model.specs.Fields.{directory_entry, is_used, descriptor_field}
use Rattle.rbf_model.specs.Geometry.{Geometry, IsNumber}
use Rattle.rbf_model.specs.Segments.{segment_sectors, has}
use Rattle.rbf_model.specs.Tree.{HasEntry, EntryNames}
use Rattle.rbf_sector_rules.specs.Found.{added, Extends, IsVisited, AreFound}
use Rattle.rbf_sector_rules.specs.Positions.{entry_at_position, positions_in, PositionNames}
use Rattle.rbf_sector_rules.proofs.Runs.{sectors_more}
use Rattle.rbf_sector_rules.proofs.Positioned.{ArePositions}
use Rattle.rbf_sector_rules.proofs.Visits.{has_extended, extends_then, extends_same, added_extends, added_has, added_only}

module _ (g : Geometry) (disk : ℕ → List ℕ) where
  -- one position: it names nothing, or one descriptor
  pub found_nothing : (e : ℕ) (found : List ℕ) → ((m : ℕ) → PositionNames disk e m → IsNumber g m → ⊥) → AreFound (disk_of g disk) e (e + 1) found found
  found_nothing e found nothing = record {
    extends = extends_same found;
    named = λ t m from below names number.
        let P : ℕ → Type 0 = λ s. PositionNames disk s m in
        absurd (nothing m (subst P (let same : t ≡ e = omega arith in same) names) number);
    only = λ m h. inl h;
  }

  pub found_one : (e n : ℕ) (old new : List ℕ) → PositionNames disk e n → IsNumber g n → new ≡ added old n → AreFound (disk_of g disk) e (e + 1) old new
  found_one e n old new names_n number_n is =
      let P : List ℕ → Type 0 = λ xs. AreFound (disk_of g disk) e (e + 1) old xs in
      subst P (sym is) (record {
        extends = added_extends old n;
        named = λ t m from below names number.
            let same : t ≡ e = omega arith in
            let it : m ≡ n = sym names.descriptor ∙ ap (λ s. descriptor_field (entry_at_position disk s)) same ∙ names_n.descriptor in
            ap (has (added old n)) it ∙ added_has old n;
        only = λ m h. ⊎_elim
            (λ before. inl before)
            (λ last.
            let Q : ℕ → Type 0 = λ j. (s : ℕ) × (e ≤ s) × (s < e + 1) × PositionNames disk s j × IsNumber g j in
            inr (subst Q (sym last) (e, omega arith, omega arith, names_n, number_n)))
            (added_only old n m h);
      })

-- the positions of a run before position e have been read
pub record AreReadTo (g : Geometry) (disk : ℕ → List ℕ) (first end : ℕ) (old new : List ℕ) (e : ℕ) : Type 0 where
  pub extends : Extends old new
  pub named : (t n : ℕ) → first ≤ t → t < e → PositionNames disk t n → IsNumber g n → has new n ≡ true
  pub only : (n : ℕ) → has new n ≡ true → (has old n ≡ true) ⊎ ((t : ℕ) × (first ≤ t) × (t < end) × PositionNames disk t n × IsNumber g n)

module _ (g : Geometry) (disk : ℕ → List ℕ) (first end : ℕ) (old : List ℕ) where
  pub read_none : (e : ℕ) → ((t n : ℕ) → first ≤ t → t < e → PositionNames disk t n → IsNumber g n → has old n ≡ true) → AreReadTo g disk first end old old e
  read_none e passed = record { extends = extends_same old; named = passed; only = λ n h. inl h }

  -- one position more, and those behind it that were read before
  pub read_more : (mid new : List ℕ) (e next : ℕ) → first ≤ e → e < end → AreReadTo g disk first end old mid e
      → AreFound (disk_of g disk) e (e + 1) mid new → ((t n : ℕ) → e < t → t < next → PositionNames disk t n
      → IsNumber g n → has new n ≡ true)
      → AreReadTo g disk first end old new next
  read_more mid new e next after low before here passed = record {
    extends = extends_then old mid new before.extends here.extends;
    named = λ t n from below names number. ⊎_elim
        (λ earlier. has_extended mid new n here.extends (before.named t n from earlier names number))
        (λ later. ⊎_elim
        (λ at. here.named t n (omega arith) (omega arith) names number)
        (λ apart. let differ : t ≡ e → ⊥ = apart in passed t n (omega arith) below names number)
        (cases_eq t e))
        (cases_lt t e);
    only = λ n h. ⊎_elim
        (λ earlier. before.only n earlier)
        (λ one. inr (one.0, omega (arith, one.1), omega (arith, one.2), one.3, one.4))
        (here.only n h);
  }

  pub read_all : (new : List ℕ) (e : ℕ) → end ≤ e → AreReadTo g disk first end old new e → AreFound (disk_of g disk) first end old new
  read_all new e all read = record {
    extends = read.extends;
    named = λ t n from below names number. read.named t n from (omega arith) names number;
    only = read.only;
  }

-- the first i entries of a directory have been visited
pub record IsVisitedTo (g : Geometry) (contents old new : List ℕ) (i : ℕ) : Type 0 where
  pub extends : Extends old new
  pub named : (k m : ℕ) → k < i → EntryNames contents k m → IsNumber g m → has new m ≡ true
  pub only : (m : ℕ) → has new m ≡ true → (has old m ≡ true) ⊎ ((k : ℕ) × EntryNames contents k m × IsNumber g m)

pub visited_none : (g : Geometry) (contents found : List ℕ) → IsVisitedTo g contents found found 0
visited_none g contents found = record {
  extends = extends_same found;
  named = λ k m before names number. absurd (omega arith);
  only = λ m h. inl h;
}

-- the entries in one run
module _ (g : Geometry) (disk : ℕ → List ℕ) (contents : List ℕ) (runs : List (ℕ × ℕ)) (are : ArePositions g disk contents runs) (i : ℕ) (low : i < length runs) where
  pub next_before : length (positions_in (take (i + 1) runs)) ≡ length (positions_in (take i runs)) + (get_or runs i (0, 0)).1
  next_before =
      let r = get_or runs i (0, 0) in
      ap length (sym (sectors_more runs i low)) ∙ length-append (positions_in (take i runs)) (segment_sectors r) ∙ ap (λ n. length (positions_in (take i runs)) + n) (length-range_with_len r.0 r.1)

  entry_in_run : (j : ℕ) → j < (get_or runs i (0, 0)).1 → (32 * (length (positions_in (take i runs)) + j + 1) ≤ length
      contents) × (directory_entry contents (length (positions_in (take i runs)) + j) ≡ entry_at_position disk
      ((get_or runs i (0, 0)).0 + j))
  entry_in_run j here =
      let r = get_or runs i (0, 0) in
      let k = length (positions_in (take i runs)) + j in
      let count = length-range_with_len r.0 r.1 in
      let all = length-flat_map-take segment_sectors runs i (0, 0) low in
      let within : k < length (positions_in runs) = omega (arith, all, count) in
      let place : j < length (segment_sectors r) = omega (arith, count) in
      (omega (arith, within, are.count), are.each k within ∙ ap (entry_at_position disk) (get_or-flat_map segment_sectors runs i j (0, 0) 0 low place ∙ get_or-range_with_len r.0 r.1 j 0 here))

  pub visited_run : (old mid new : List ℕ) (skipped passed : ℕ) → skipped ≡ 2 - length (positions_in (take i runs)) → passed ≡ min skipped (get_or runs i (0, 0)).1
      → IsVisitedTo g contents old mid (length (positions_in (take i runs))) → AreFound (disk_of g disk)
      ((get_or runs i (0, 0)).0 + passed) ((get_or runs i (0, 0)).0 + (get_or runs i (0, 0)).1) mid new
      → IsVisitedTo g contents old new (length (positions_in (take (i + 1) runs)))
  visited_run old mid new skipped passed left is visited found =
      let r = get_or runs i (0, 0) in
      let done = length (positions_in (take i runs)) in
      record {
        extends = extends_then old mid new visited.extends found.extends;
        named = λ k m below names number. ⊎_elim
            (λ earlier. has_extended mid new m found.extends (visited.named k m earlier names number))
            (λ later.
            let j = k - done in
            let here : j < r.1 = omega (arith, next_before) in
            let same : done + j ≡ k = omega arith in
            let at : directory_entry contents k ≡ entry_at_position disk (r.0 + j) = ap (directory_entry contents) (sym same) ∙ (entry_in_run j here).1 in
            let after = names.after in
            found.named (r.0 + j) m (omega arith) (omega arith) (record { used = ap is_used (sym at) ∙ names.entry.used; descriptor = ap descriptor_field (sym at) ∙ names.descriptor }) number)
            (cases_lt k done);
        only = λ m h. ⊎_elim
            (λ earlier. visited.only m earlier)
            (λ one.
            let from = one.1 in
            let below = one.2 in
            let names = one.3 in
            let j = one.0 - r.0 in
            let here : j < r.1 = omega arith in
            let same : r.0 + j ≡ one.0 = omega arith in
            let entry = entry_in_run j here in
            let at : directory_entry contents (done + j) ≡ entry_at_position disk one.0 = entry.1 ∙ ap (entry_at_position disk) same in
            let used : HasEntry contents (done + j) = record { within = entry.0; used = ap is_used at ∙ names.used } in
            inr (done + j, record { after = omega arith; entry = used; descriptor = ap descriptor_field at ∙ names.descriptor }, one.4))
            (found.only m h);
      }

pub visited_all : (g : Geometry) (disk : ℕ → List ℕ) (contents : List ℕ) (runs : List (ℕ × ℕ)) → ArePositions g disk
    contents runs → (old new : List ℕ) (i : ℕ) → length runs ≤ i → IsVisitedTo g contents old new
    (length (positions_in (take i runs))) → IsVisited g contents old new
visited_all g disk contents runs are old new i all visited =
    let whole : length (positions_in (take i runs)) ≡ length (positions_in runs) = ap (λ rs. length (positions_in rs)) (take_all i runs all) in
    record {
      extends = visited.extends;
      named = λ k m names number. let within = names.entry.within in visited.named k m (omega (arith, whole, are.count)) names number;
      only = visited.only;
    }
