-- The keys of names, and entries whose names differ.
use Rattle.std.proofs.Common.{◌≡◌, ℕ, zero, suc, ◌+◌, ◌*◌, ◌<◌, ◌≤◌, ◌&&◌, Bool, true, false, cond, List, length, map, get_or, set, replicate, Option, Some, None, refl, sym, ap, ◌∙◌, subst, inl, inr, ⊎_elim, leb, leb-true, ◌==◌, eq-eqb, eqb-true, take, arith}
use Rattle.std.specs.Ordering.{nat_cmp, is_eq}
use Rattle.std.specs.Cmp.Lexicographic.{slice_cmp}
use Rattle.std.specs.BTreeSet.{BTreeSet, contains}
use Rattle.std.proofs.lemmas.Map.Lookups.{exact_bytes}
use Rattle.std.specs.Prelude.{MatchBool}
use Rattle.std.proofs.lemmas.Bool.{cases_lt, cases_Bool, cond-true, cond-false, and_parts, false≢true, both_ways, not-true, not_from_false, false_from_ne_true}
use Rattle.std.proofs.lemmas.List.{get_or-set_same, get_or-set_other, length-set, ext_get_or, get_or-map, get_or-take, length-map}
use Rattle.std.specs.declared.cmp.Ordering.{Ordering}
use Rattle.std.specs.declared.cmp.Ordering.TheVariants.{Less, Equal, Greater}
use Rattle.rbf_model.specs.Disk.{disk_of}
use Rattle.os9_base.specs.Name.{stored_name, lower, SameName, IsName}
use Rattle.rbf_model.specs.Fields.{directory_entry, entry_name_field}
use Rattle.rbf_model.specs.Geometry.{Geometry}
use Rattle.rbf_model.specs.Segments.{has}
use Rattle.rbf_model.specs.Tree.{dot, dot_dot, HasEntry, IsProper, HasEntryNames, HasDifferentNames}
use Rattle.rbf_model.specs.Faults.{Breaks}
use Rattle.rbf_model.specs.Search.{IsListOfReached, searchable_bytes}
use Rattle.rbf_model.specs.Faults.Breaks.{bad_name, same_name}
use Rattle.rbf_sector_rules.specs.Least.{IsLeast, Before, IsLeastBreach}
use Rattle.rbf_check.specs.Keys.{IsNameKey, HasKey, IsKeyAdded, IsNamedSo, IsKeyOf, AreNamed, IsBadlyNamed, IsBadlyNamedAt}
use Rattle.rbf_sector_rules.proofs.Cases.{names_of}
use Rattle.rbf_sector_rules.proofs.Leasts.{least_along, least_in_list}
use Rattle.rbf_sector_rules.proofs.Options.{none_some, some_same}

length_of_map : (f : ℕ → ℕ) (xs : List ℕ) → length (map f xs) ≡ length xs
length_of_map f xs = length-map xs f

zeros : (n k : ℕ) → ◌≡◌ {A = ℕ} (get_or (replicate n 0) k 0) 0
zeros zero k = refl
zeros (suc n) zero = refl
zeros (suc n) (suc k) = zeros n k

pub no_characters : (k : ℕ) → ◌≡◌ {A = ℕ} (get_or (replicate 29 0) k 0) 0
no_characters k = zeros 29 k

-- one character more
module _ (name key : List ℕ) (i at value : ℕ) (size : length key ≡ 29) (same : (k : ℕ) → k < i
    → get_or key k 0 ≡ lower (get_or name k 0)) (behind : (k : ℕ) → i ≤ k → get_or key k 0 ≡ 0) (here : at ≡ i)
    (low : i < 29) (is : value ≡ lower (get_or name i 0)) where
  pub size_more : length (set key at value) ≡ 29
  size_more = length-set key at value ∙ size

  pub same_more : (k : ℕ) → k < i + 1 → get_or (set key at value) k 0 ≡ lower (get_or name k 0)
  same_more k below = ⊎_elim
      (λ earlier. get_or-set_other key at k value 0 (λ e. omega arith) ∙ same k earlier)
      (λ last.
      let k_is : k ≡ at = omega arith in
      let k_i : i ≡ k = omega arith in
      ap (λ j. get_or (set key at value) j 0) k_is ∙ get_or-set_same key at value 0 (omega arith) ∙ is ∙ ap (λ j. lower (get_or name j 0)) k_i)
      (cases_lt k i)

  pub behind_more : (k : ℕ) → i + 1 ≤ k → get_or (set key at value) k 0 ≡ 0
  behind_more k above = get_or-set_other key at k value 0 (λ e. omega arith) ∙ behind k (omega arith)

-- a stored character is not zero
pub stored_positive : (name : List ℕ) → IsName name → (k : ℕ) → k < length name → 1 ≤ get_or name k 0
stored_positive name is k low =
    let c = get_or name k 0 in
    let stored = is.characters k 0 low in
    let first = and_parts (leb 33 c && leb c 126) _ stored in
    let bound : 33 ≤ c = leb-true 33 c (and_parts (leb 33 c) (leb c 126) first.0).0 in
    omega arith

lower_positive : (c : ℕ) → 1 ≤ c → 1 ≤ lower c
lower_positive c positive = ⊎_elim
    (λ letter. let e = cond-true (leb 65 c && leb c 90) (c + 32) c letter in omega (arith, e))
    (λ other. let e = cond-false (leb 65 c && leb c 90) (c + 32) c other in omega (arith, e))
    (cases_Bool (leb 65 c && leb c 90))

not_longer : (a b q : List ℕ) → IsNameKey a q → IsNameKey b q → length a < length b → ⊥
not_longer a b q one other less =
    let k = length a in
    let none : get_or q k 0 ≡ 0 = one.behind k (omega arith) in
    let some = other.same k less in
    let positive = lower_positive (get_or b k 0) (other.characters k less) in
    absurd (omega (arith, none, some, positive))

lower_at : (a : List ℕ) (k : ℕ) → k < length a → get_or (map lower a) k 0 ≡ lower (get_or a k 0)
lower_at a k low = get_or-map lower a k 0 0 low

-- names with one key are the same, and names that are the same have one key
pub same_of_key : (a b q : List ℕ) → IsNameKey a q → IsNameKey b q → SameName a b
same_of_key a b q one other =
    let lengths : length a ≡ length b = ⊎_elim
    (λ less. absurd (not_longer a b q one other less))
    (λ more. ⊎_elim (λ less. absurd (not_longer b a q other one less)) (λ same. omega arith) (cases_lt (length b) (length a)))
    (cases_lt (length a) (length b)) in
    ext_get_or 0 (map lower a) (map lower b) (length_of_map lower a ∙ lengths ∙ sym (length_of_map lower b))
    (λ k low.
    let in_a : k < length a = omega (arith, length_of_map lower a) in
    let in_b : k < length b = omega arith in
    lower_at a k in_a ∙ sym (one.same k in_a) ∙ other.same k in_b ∙ sym (lower_at b k in_b))

pub key_of_same : (a b p q : List ℕ) → IsNameKey a p → IsNameKey b q → SameName a b → p ≡ q
key_of_same a b p q one other same =
    let lengths : length a ≡ length b = sym (length_of_map lower a) ∙ ap length same ∙ length_of_map lower b in
    ext_get_or 0 p q (one.size ∙ sym other.size)
    (λ k low. ⊎_elim
    (λ in_a.
    let in_b : k < length b = omega arith in
    one.same k in_a ∙ sym (lower_at a k in_a) ∙ ap (λ xs. get_or xs k 0) same ∙ lower_at b k in_b ∙ sym (other.same k in_b))
    (λ past. one.behind k past ∙ sym (other.behind k (omega arith)))
    (cases_lt k (length a)))

equal_is : (o : Ordering) → is_eq o ≡ true → o ≡ Equal
equal_is Less h = absurd (false≢true h)
equal_is Equal h = refl
equal_is Greater h = absurd (false≢true h)

-- a key that is added
module _ (old new : BTreeSet (List ℕ)) (key : List ℕ) (updates : (q : List ℕ) → contains (slice_cmp nat_cmp) new q ≡
    cond (is_eq (slice_cmp nat_cmp key q)) true (contains (slice_cmp nat_cmp) old q)) (there : HasKey new key) where
  pub key_added : IsKeyAdded old new key
  key_added = record {
    kept = λ q h. ⊎_elim
        (λ at. updates q ∙ cond-true (is_eq (slice_cmp nat_cmp key q)) true (contains (slice_cmp nat_cmp) old q) at)
        (λ apart. updates q ∙ cond-false (is_eq (slice_cmp nat_cmp key q)) true (contains (slice_cmp nat_cmp) old q) apart ∙ h)
        (cases_Bool (is_eq (slice_cmp nat_cmp key q)));
    there = there;
    only = λ q h. ⊎_elim
        (λ at. inr (sym (exact_bytes key q (equal_is (slice_cmp nat_cmp key q) at))))
        (λ apart. inl (sym (updates q ∙ cond-false (is_eq (slice_cmp nat_cmp key q)) true (contains (slice_cmp nat_cmp) old q) apart) ∙ h))
        (cases_Bool (is_eq (slice_cmp nat_cmp key q)));
  }

-- an entry that is read
module _ (contents bytes field : List ℕ) (i : ℕ) (bytes_are : bytes ≡ directory_entry contents i) (field_is : field ≡ take 29 bytes) where
  first_byte : get_or field 0 0 ≡ get_or (directory_entry contents i) 0 0
  first_byte =
      let low : 0 < 29 = omega arith in
      ap (λ f. get_or f 0 0) field_is ∙ get_or-take 29 bytes 0 0 low ∙ ap (λ b. get_or b 0 0) bytes_are

  pub is_free : get_or field 0 0 ≡ 0 → HasEntry contents i → ⊥
  is_free zero_first entry =
      let b = get_or (directory_entry contents i) 0 0 in
      both_ways (b == 0) (not-true (b == 0) entry.used) (eq-eqb b 0 (sym first_byte ∙ zero_first))

  pub is_entry : 32 * (i + 1) ≤ length contents → (get_or field 0 0 ≡ 0 → ⊥) → HasEntry contents i
  is_entry within used =
      let b = get_or (directory_entry contents i) 0 0 in
      record { within = within; used = not_from_false (b == 0) (false_from_ne_true (b == 0) (λ h. used (first_byte ∙ eqb-true b 0 h))) }

  pub name_is : (o : Option (List ℕ)) → o ≡ stored_name field → entry_name_field (directory_entry contents i) ≡ o
  name_is o is = ap (λ b. stored_name (take 29 b)) (sym bytes_are) ∙ ap stored_name (sym field_is) ∙ sym is

-- no entry yet
pub named_none : (contents : List ℕ) (keys : BTreeSet (List ℕ)) → ((q : List ℕ) → HasKey keys q → ⊥) → AreNamed contents keys 2
named_none contents keys none = record {
  named = λ k after before entry. absurd (omega arith);
  from = λ q h. absurd (none q h);
  apart = λ j k one other a b c d e f g h same. absurd (omega arith);
}

module _ (contents : List ℕ) (keys : BTreeSet (List ℕ)) (i : ℕ) (after : 2 ≤ i) (named : AreNamed contents keys i) where
  later : (q : List ℕ) → IsKeyOf contents i q → IsKeyOf contents (i + 1) q
  later q of = record {
    place = of.place;
    name = of.name;
    after = of.after;
    before = (let low = of.before in omega arith);
    entry = of.entry;
    is = of.is;
    key_is = of.key_is;
  }

  entry_at_last : (k : ℕ) → i ≤ k → k < i + 1 → HasEntry contents k → HasEntry contents i
  entry_at_last k high low entry =
      let P : ℕ → Type 0 = λ j. HasEntry contents j in
      let same : k ≡ i = omega arith in
      subst P same entry

  -- a free entry
  pub named_past : (HasEntry contents i → ⊥) → AreNamed contents keys (i + 1)
  named_past free = record {
    named = λ k k_after below entry. ⊎_elim (λ low. named.named k k_after low entry) (λ high. absurd (free (entry_at_last k high below entry))) (cases_lt k i);
    from = λ q h. later q (named.from q h);
    apart = λ j k one other j_after k_after j_low k_low j_entry k_entry j_is k_is same. ⊎_elim
        (λ j_in. ⊎_elim
        (λ k_in. named.apart j k one other j_after k_after j_in k_in j_entry k_entry j_is k_is same)
        (λ high. absurd (free (entry_at_last k high k_low k_entry)))
        (cases_lt k i))
        (λ high. absurd (free (entry_at_last j high j_low j_entry)))
        (cases_lt j i);
  }

  module _ (entry : HasEntry contents i) where
    -- one without a name, or with an improper one
    pub no_name : entry_name_field (directory_entry contents i) ≡ None → IsBadlyNamed contents
    no_name none =
        inl (λ names. let w = names i after entry in none_some w.0 (entry_name_field (directory_entry contents i)) none w.1)

    pub name_dot : entry_name_field (directory_entry contents i) ≡ Some dot → IsBadlyNamed contents
    name_dot is =
        inl (λ names. let w = names i after entry in w.2.not_self (some_same w.0 dot (entry_name_field (directory_entry contents i)) w.1 is))

    pub name_dot_dot : entry_name_field (directory_entry contents i) ≡ Some dot_dot → IsBadlyNamed contents
    name_dot_dot is =
        inl (λ names. let w = names i after entry in w.2.not_parent (some_same w.0 dot_dot (entry_name_field (directory_entry contents i)) w.1 is))

    module _ (name key : List ℕ) (is : entry_name_field (directory_entry contents i) ≡ Some name) (key_is : IsNameKey name key) where
      -- an earlier entry has the key
      pub name_again : HasKey keys key → IsBadlyNamed contents
      name_again had =
          let of = named.from key had in
          let low = of.before in
          inr (λ different.
          let same = different of.place i of.name name of.after after of.entry entry of.is is (same_of_key of.name name key of.key_is key_is) in
          absurd (omega arith))

      earlier_apart : (HasKey keys key → ⊥) → (j : ℕ) (one : List ℕ) → 2 ≤ j → j < i → HasEntry contents j → entry_name_field (directory_entry contents j) ≡ Some one → SameName one name → ⊥
      earlier_apart fresh j one j_after j_low j_entry j_is same =
          let so = named.named j j_after j_low j_entry in
          let name_same : so.name ≡ one = some_same so.name one (entry_name_field (directory_entry contents j)) so.is j_is in
          let P : List ℕ → Type 0 = λ x. IsNameKey x so.key in
          let keys_same : so.key ≡ key = key_of_same one name so.key key (subst P name_same so.key_is) key_is same in
          let Q : List ℕ → Type 0 = λ x. HasKey keys x in
          fresh (subst Q keys_same so.there)

      pub named_more : (new : BTreeSet (List ℕ)) → (HasKey keys key → ⊥) → IsProper name → IsKeyAdded keys new key → AreNamed contents new (i + 1)
      named_more new fresh proper added = record {
        named = λ k k_after below k_entry. ⊎_elim
            (λ low.
            let so = named.named k k_after low k_entry in
            record { name = so.name; key = so.key; is = so.is; proper = so.proper; key_is = so.key_is; there = added.kept so.key so.there })
            (λ high.
            let P : ℕ → Type 0 = λ j. IsNamedSo contents new j in
            let same : i ≡ k = omega arith in
            let here : IsNamedSo contents new i = record { name = name; key = key; is = is; proper = proper; key_is = key_is; there = added.there } in
            subst P same here)
            (cases_lt k i);
        from = λ q h. ⊎_elim
            (λ before. later q (named.from q before))
            (λ same.
            let P : List ℕ → Type 0 = λ x. IsKeyOf contents (i + 1) x in
            let here : IsKeyOf contents (i + 1) key = record { place = i; name = name; after = after; before = omega arith; entry = entry; is = is; key_is = key_is } in
            subst P (sym same) here)
            (added.only q h);
        apart = λ j k one other j_after k_after j_low k_low j_entry k_entry j_is k_is same. ⊎_elim
            (λ j_in. ⊎_elim
            (λ k_in. named.apart j k one other j_after k_after j_in k_in j_entry k_entry j_is k_is same)
            (λ high.
            let k_same : k ≡ i = omega arith in
            let other_is : other ≡ name = some_same other name (entry_name_field (directory_entry contents i)) (ap (λ q. entry_name_field (directory_entry contents q)) (sym k_same) ∙ k_is) is in
            absurd (earlier_apart fresh j one j_after j_in j_entry j_is (same ∙ ap (map lower) other_is)))
            (cases_lt k i))
            (λ j_high. ⊎_elim
            (λ k_in.
            let j_same : j ≡ i = omega arith in
            let one_is : one ≡ name = some_same one name (entry_name_field (directory_entry contents i)) (ap (λ q. entry_name_field (directory_entry contents q)) (sym j_same) ∙ j_is) is in
            absurd (earlier_apart fresh k other k_after k_in k_entry k_is (sym same ∙ ap (map lower) one_is)))
            (λ k_high. omega arith)
            (cases_lt k i))
            (cases_lt j i);
      }

      pub named_or_not : (new : BTreeSet (List ℕ)) (fresh : Bool) → IsProper name → IsKeyAdded keys new key
          → MatchBool fresh (HasKey keys key → ⊥) (HasKey keys key) → MatchBool fresh (AreNamed contents new (i + 1))
          (IsBadlyNamed contents)
      named_or_not new true proper added fresh = named_more new fresh proper added
      named_or_not new false proper added had = name_again had

-- all entries
pub names_are : (contents : List ℕ) (keys : BTreeSet (List ℕ)) (i entries : ℕ) → 32 * entries ≡ length contents
    → entries ≤ i → AreNamed contents keys i → HasEntryNames contents × HasDifferentNames contents
names_are contents keys i entries counted all named = (
  λ k after entry.
      let within = entry.within in
      let so = named.named k after (omega arith) entry in
      (so.name, so.is, so.proper),
  λ j k one other j_after k_after j_entry k_entry j_is k_is same.
      let j_within = j_entry.within in
      let k_within = k_entry.within in
      named.apart j k one other j_after k_after (omega arith) (omega arith) j_entry k_entry j_is k_is same,
)

-- what an answer says of the names of a directory
module _ (g : Geometry) (disk : ℕ → List ℕ) (n : ℕ) where
  named_well : (good : Bool) → MatchBool good (HasEntryNames (searchable_bytes (disk_of g disk) n) × HasDifferentNames
      (searchable_bytes (disk_of g disk) n)) (IsBadlyNamed (searchable_bytes (disk_of g disk) n)) → good ≡ true
      → (s : ℕ) → IsBadlyNamedAt (disk_of g disk) n s → ⊥
  named_well true is e s h = ⊎_elim (λ wrong. wrong is.0) (λ wrong. wrong is.1) h.1
  named_well false is e s h = absurd (false≢true e)

  named_badly : (good : Bool) → MatchBool good (HasEntryNames (searchable_bytes (disk_of g disk) n) × HasDifferentNames
      (searchable_bytes (disk_of g disk) n)) (IsBadlyNamed (searchable_bytes (disk_of g disk) n)) → good ≡ false
      → IsBadlyNamed (searchable_bytes (disk_of g disk) n)
  named_badly true is e = absurd (false≢true (sym e))
  named_badly false is e = is

module _ (g : Geometry) (disk : ℕ → List ℕ) (n m : ℕ) (good : Bool) (same : m ≡ n)
    (is : MatchBool good (HasEntryNames (searchable_bytes (disk_of g disk) m) × HasDifferentNames
    (searchable_bytes (disk_of g disk) m)) (IsBadlyNamed (searchable_bytes (disk_of g disk) m))) where
  at_n : MatchBool good (HasEntryNames (searchable_bytes (disk_of g disk) n) × HasDifferentNames (searchable_bytes (disk_of g disk) n)) (IsBadlyNamed (searchable_bytes (disk_of g disk) n))
  at_n =
      let P : ℕ → Type 0 = λ q. MatchBool good (HasEntryNames (searchable_bytes (disk_of g disk) q) × HasDifferentNames
      (searchable_bytes (disk_of g disk) q)) (IsBadlyNamed (searchable_bytes (disk_of g disk) q)) in
      subst P same is

  pub good_is : good ≡ true → (s : ℕ) → IsBadlyNamedAt (disk_of g disk) n s → ⊥
  good_is e s h = named_well g disk n good at_n e s h

  pub bad_is : good ≡ false → IsBadlyNamed (searchable_bytes (disk_of g disk) n)
  bad_is e = named_badly g disk n good at_n e

module _ (g : Geometry) (disk : ℕ → List ℕ) where
  pub least_badly : (found : List ℕ) (i : ℕ) (least : Option ℕ) → IsListOfReached (disk_of g disk) found → i ≡ length found
      → IsLeast (Before (λ k. IsBadlyNamedAt (disk_of g disk) (get_or found k 0)) i) least
      → IsLeastBreach (disk_of g disk) 8 least
  least_badly found i least are all is =
      least_along (λ s. (n : ℕ) × (has found n ≡ true) × IsBadlyNamedAt (disk_of g disk) n s) (Breaks (disk_of g disk) 8)
      (λ s h.
      let P : ℕ → Type 0 = λ n. Breaks (disk_of g disk) 8 n in
      let reached = (are h.0).0 h.1 in
      subst P (sym h.2.0) (⊎_elim (λ wrong. bad_name reached wrong) (λ wrong. same_name reached wrong) h.2.1))
      (λ s b. let f = names_of g disk s b in (s, (are s).1 f.0, (refl, f.1)))
      least (least_in_list (IsBadlyNamedAt (disk_of g disk)) found i all least is)
