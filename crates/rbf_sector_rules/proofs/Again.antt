-- The owners that are found, gone over one after the other for rule 4.
use Rattle.std.proofs.Common.{◌≡◌, ◌⊎◌, ℕ, zero, suc, ◌+◌, ◌*◌, ◌/◌, ◌<◌, ◌≤◌, true, List, [], ◌∷◌, length, get_or, None, sym, ap, ◌∙◌, subst, inl, inr, ⊎_elim, arith, Some}
use Rattle.std.proofs.Math.Nat.{div-mul-le_self}
use Rattle.std.proofs.lemmas.Bool.{cases_lt}
use Rattle.std.proofs.lemmas.List.{get_or_default}
use Rattle.std.proofs.lemmas.Option.{slice_get-get_or}
use Rattle.rbf_model.specs.Disk.{disk_of}
use Rattle.rbf_model.specs.Geometry.{Geometry, IsHeader, HasMap}
use Rattle.rbf_model.specs.Segments.{has}
use Rattle.rbf_model.specs.File.{file_at}
use Rattle.rbf_model.specs.Space.{owns, has_cluster}
use Rattle.rbf_model.specs.Faults.{Breaks}
use Rattle.rbf_model.specs.Search.{IsListOfReached, IsReachedOn}
use Rattle.rbf_model.specs.Faults.Breaks.{used_twice, shared}
use Rattle.rbf_model.proofs.Bytes.{has_place, place_of}
use Rattle.rbf_model.proofs.Space.{cluster_from_owns, owns_from_cluster}
use Rattle.rbf_sector_rules.specs.declared.uses.Owner.{Owner}
use Rattle.rbf_sector_rules.specs.declared.uses.Uses.{Uses}
use Rattle.rbf_sector_rules.specs.Used.{used_by}
use Rattle.rbf_sector_rules.specs.Noted.{HasUser, HasOwner, cluster_begin, OccursTwice, IsUsedAgain, IsNoted}
use Rattle.rbf_sector_rules.specs.Noted.IsUsedAgain.{twice, again, shared as shared_by}
use Rattle.rbf_sector_rules.proofs.Cases.{UsedTwice, Shared, used_of}
use Rattle.rbf_sector_rules.proofs.Owned.{used_below}
use Rattle.rbf_sector_rules.proofs.Options.{some_same}

-- where a number stands twice
twice_from : (xs : List ℕ) (i j s : ℕ) → i < j → j < length xs → get_or xs i s ≡ s → get_or xs j s ≡ s → OccursTwice xs s
twice_from [] i j s before within one other = absurd (omega arith)
twice_from (x ∷ xs) i zero s before within one other = absurd (omega arith)
twice_from (x ∷ xs) zero (suc j) s before within one other =
    let low : j < length xs = omega arith in
    inl (one, ap (has xs) (sym (get_or_default xs j 0 s low ∙ other)) ∙ has_place xs j low)
twice_from (x ∷ xs) (suc i) (suc j) s before within one other = inr (twice_from xs i j s (omega arith) (omega arith) one other)

twice_places : (xs : List ℕ) (s : ℕ) → OccursTwice xs s → (i : ℕ) × (j : ℕ) × (i < j) × (j < length xs) × (get_or xs i s ≡ s) × (get_or xs j s ≡ s)
twice_places [] s h = absurd h
twice_places (x ∷ xs) s (inl here) = let place = place_of xs s here.1 in (0, suc place.0, omega arith, omega (arith, place.1), here.0, place.2)
twice_places (x ∷ xs) s (inr later) = let p = twice_places xs s later in (suc p.0, suc p.1, omega (arith, p.2), omega (arith, p.3), p.4, p.5)

-- what is known when the first i owners have been gone over
pub record AreSearched (g : Geometry) (disk : ℕ → List ℕ) (found : List ℕ) (uses : Uses) (i : ℕ) : Type 0 where
  pub users_size : length uses.users.items ≡ g.total
  pub owners_size : length uses.owners.items ≡ g.total
  pub users : (s p : ℕ) → HasUser uses s p → p < i
  pub owners : (c n : ℕ) → HasOwner uses c n → (has found n ≡ true) × ((s : ℕ) × (has (used_by (disk_of g disk) n) s ≡ true) × (s / g.cluster ≡ c))
  pub owned : (p s : ℕ) → p < i → has (used_by (disk_of g disk) (get_or found p 0)) s ≡ true → cluster_begin g.cluster s < uses.least → HasOwner uses (s / g.cluster) (get_or found p 0)
  pub twice : (p s : ℕ) → p < i → OccursTwice (used_by (disk_of g disk) (get_or found p 0)) s → uses.least ≤ s
  pub least : (uses.least ≡ g.total) ⊎ Breaks (disk_of g disk) 4 uses.least

module _ (g : Geometry) (disk : ℕ → List ℕ) (found : List ℕ) (are : IsListOfReached (disk_of g disk) found) where
  -- the owner in a place, by its cluster of a sector
  cluster_had : (n s : ℕ) → has (used_by (disk_of g disk) n) s ≡ true → has_cluster g n (file_at disk n) (s / g.cluster) ≡ true
  unfolding owns
  cluster_had n s h = cluster_from_owns g n (file_at disk n) s h

  sector_had : (n c : ℕ) → has_cluster g n (file_at disk n) c ≡ true → (s : ℕ) × (has (used_by (disk_of g disk) n) s ≡ true) × (s / g.cluster ≡ c)
  unfolding owns
  sector_had n c h = owns_from_cluster g n (file_at disk n) c h

  pub searched_none : (uses : Uses) → length uses.users.items ≡ g.total → length uses.owners.items ≡ g.total
      → ((s p : ℕ) → HasUser uses s p → ⊥) → ((c n : ℕ) → HasOwner uses c n → ⊥) → uses.least ≡ g.total
      → AreSearched g disk found uses 0
  searched_none uses users_size owners_size no_users no_owners least = record {
    users_size = users_size;
    owners_size = owners_size;
    users = λ s p h. absurd (no_users s p h);
    owners = λ c n h. absurd (no_owners c n h);
    owned = λ p s low here below. absurd (omega arith);
    twice = λ p s low both. absurd (omega arith);
    least = inl least;
  }

  -- one owner more
  module _ (old new : Uses) (i : ℕ) (owner : Owner) (low : i < length found) (place : owner.place ≡ i) (descriptor : owner.descriptor ≡ get_or found i 0) (before : AreSearched g disk found old i)
      (noted : IsNoted g.cluster owner (used_by (disk_of g disk) owner.descriptor) old new) where
    owner_found : has found owner.descriptor ≡ true
    owner_found = ap (has found) descriptor ∙ has_place found i low

    breach : (s : ℕ) → IsUsedAgain g.cluster owner (used_by (disk_of g disk) owner.descriptor) old s → Breaks (disk_of g disk) 4 s
    breach s (twice both) =
        let p = twice_places (used_by (disk_of g disk) owner.descriptor) s both in
        let used = used_by (disk_of g disk) owner.descriptor in
        used_twice ((are owner.descriptor).0 owner_found) p.2 (slice_get-get_or used p.0 s (omega (arith, p.2, p.3)) ∙ ap Some p.4) (slice_get-get_or used p.1 s p.3 ∙ ap Some p.5)
    breach s (again here user) = let earlier = before.users s owner.place user in absurd (omega arith)
    breach s (shared_by t n here begins had other) =
        let one = before.owners (t / g.cluster) n had in
        shared (t / g.cluster) ((are n).0 one.0) ((are owner.descriptor).0 owner_found) other
        (ap (has_cluster g n (file_at disk n)) (sym one.1.2) ∙ cluster_had n one.1.0 one.1.1) (cluster_had owner.descriptor t here) begins

    pub searched_more : AreSearched g disk found new (i + 1)
    searched_more =
        let less = noted.least.within in
        let at : (p : ℕ) → p < i + 1 → i ≤ p → get_or found p 0 ≡ owner.descriptor = λ p below after.
        let same : p ≡ i = omega arith in
        ap (λ q. get_or found q 0) same ∙ sym descriptor in record {
          users_size = noted.users_size ∙ before.users_size;
          owners_size = noted.owners_size ∙ before.owners_size;
          users = λ s p h. ⊎_elim
              (λ earlier. let b = before.users s p earlier in omega arith)
              (λ own. omega (arith, own.0))
              (noted.user_from s p h);
          owners = λ c n h. ⊎_elim
              (λ earlier. before.owners c n earlier)
              (λ own.
              let P : ℕ → Type 0 = λ m. (has found m ≡ true) × ((s : ℕ) × (has (used_by (disk_of g disk) m) s ≡ true) × (s / g.cluster ≡ c)) in
              subst P (sym own.0) (owner_found, own.1))
              (noted.owner_from c n h);
          owned = λ p s below here begins. ⊎_elim
              (λ earlier. noted.owner_stays (s / g.cluster) (get_or found p 0) (before.owned p s earlier here (omega arith)))
              (λ last.
              let is = at p below last in
              let P : ℕ → Type 0 = λ n. HasOwner new (s / g.cluster) n in
              subst P (sym is) (noted.owned s (ap (λ n. has (used_by (disk_of g disk) n) s) (sym is) ∙ here) begins))
              (cases_lt p i);
          twice = λ p s below both. ⊎_elim
              (λ earlier. let b = before.twice p s earlier both in omega arith)
              (λ last.
              let P : ℕ → Type 0 = λ n. OccursTwice (used_by (disk_of g disk) n) s in
              noted.least.least s (twice (subst P (at p below last) both)))
              (cases_lt p i);
          least = ⊎_elim
              (λ same. let P : ℕ → Type 0 = λ s. (s ≡ g.total) ⊎ Breaks (disk_of g disk) 4 s in subst P (sym same) before.least)
              (λ here. inr (breach new.least here))
              noted.least.is;
        }

  -- all owners
  module _ (uses : Uses) (all : AreSearched g disk found uses (length found)) where
    place_found : (n : ℕ) → IsReachedOn (disk_of g disk) n → (p : ℕ) × (p < length found) × (get_or found p 0 ≡ n)
    place_found n reached =
        let place = place_of found n ((are n).1 reached) in
        (place.0, place.1, get_or_default found place.0 0 n place.1 ∙ place.2)

    owner_of : (n c : ℕ) → IsReachedOn (disk_of g disk) n → has_cluster g n (file_at disk n) c ≡ true → c * g.cluster < uses.least → HasOwner uses c n
    owner_of n c reached had begins =
        let place = place_found n reached in
        let sector = sector_had n c had in
        let P : ℕ → Type 0 = λ m. HasOwner uses (sector.0 / g.cluster) m in
        let Q : ℕ → Type 0 = λ d. HasOwner uses d n in
        let same : cluster_begin g.cluster sector.0 ≡ c * g.cluster = ap (λ d. d * g.cluster) sector.2 in
        subst Q sector.2 (subst P place.2 (all.owned place.0 sector.0 place.1 (ap (λ m. has (used_by (disk_of g disk) m) sector.0) place.2 ∙ sector.1) (omega arith)))

    below_twice : (s : ℕ) → UsedTwice g disk s → uses.least ≤ s
    below_twice s u =
        let place = place_found u.0 u.3 in
        let P : ℕ → Type 0 = λ n. OccursTwice (used_by (disk_of g disk) n) s in
        all.twice place.0 s place.1 (subst P (sym place.2) (twice_from (used_by (disk_of g disk) u.0) u.1 u.2 s u.4 u.5 u.6 u.7))

    below_shared : (s : ℕ) → Shared g disk s → uses.least ≤ s
    below_shared s u =
        let c = u.2 in
        ⊎_elim
        (λ low. absurd (u.5 (some_same u.0 u.1 (get_or uses.owners.items c None) (owner_of u.0 c u.3 u.6 low) (owner_of u.1 c u.4 u.7 low))))
        (λ high. let at = u.8 in omega arith)
        (cases_lt (c * g.cluster) uses.least)

    pub below_breach : (s : ℕ) → Breaks (disk_of g disk) 4 s → uses.least ≤ s
    below_breach s broken = ⊎_elim (λ u. below_twice s u) (λ u. below_shared s u) (used_of g disk s broken)

    module _ (header : IsHeader g) (kept : (lsn : ℕ) → Breaks (disk_of g disk) 1 lsn → ⊥) (map : HasMap g) where
      breach_below : (s : ℕ) → Breaks (disk_of g disk) 4 s → s < g.total
      breach_below s broken = ⊎_elim
          (λ u.
          let xs = used_by (disk_of g disk) u.0 in
          used_below g disk header kept map u.0 s u.3 (ap (has xs) (sym (get_or_default xs u.2 0 s u.5 ∙ u.7)) ∙ has_place xs u.2 u.5))
          (λ u.
          let sector = sector_had u.0 u.2 u.6 in
          let begins : cluster_begin g.cluster sector.0 ≡ u.2 * g.cluster = ap (λ d. d * g.cluster) sector.2 in
          omega (arith, used_below g disk header kept map u.0 sector.0 u.3 sector.1, div-mul-le_self sector.0 g.cluster, u.8))
          (used_of g disk s broken)

      pub none_again : g.total ≤ uses.least → (s : ℕ) → Breaks (disk_of g disk) 4 s → ⊥
      none_again high s broken = let low = breach_below s broken in let past = below_breach s broken in omega arith

    pub least_again : uses.least < g.total → Breaks (disk_of g disk) 4 uses.least
    least_again low = ⊎_elim (λ same. absurd (omega arith)) (λ broken. broken) all.least
