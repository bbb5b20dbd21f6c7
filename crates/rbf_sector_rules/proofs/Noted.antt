-- Sectors of an owner that are noted, one list after the other.
use Rattle.std.proofs.Common.{◌≡◌, ◌≢◌, ◌⊎◌, ℕ, ◌/◌, ◌<◌, ◌≤◌, ◌==◌, true, List, [], ◌∷◌, ◌++◌, length, get_or, set, min, Some, None, refl, sym, ap, ◌∙◌, subst, inl, inr, ⊎_elim, arith, eqb-true, eq-eqb}
use Rattle.std.proofs.lemmas.Bool.{cases_lt, cases_eq, or_cases, or_left, or_right, false≢true}
use Rattle.std.proofs.Math.Nat.{div-mul-le_self}
use Rattle.std.proofs.lemmas.List.{get_or-set_same, get_or-set_other, length-set}
use Rattle.rbf_model.specs.Segments.{has}
use Rattle.rbf_model.proofs.Segments.{has_cases, has_left, has_right}
use Rattle.rbf_sector_rules.specs.declared.uses.Owner.{Owner}
use Rattle.rbf_sector_rules.specs.declared.uses.Uses.{Uses}
use Rattle.rbf_sector_rules.specs.Given.{IsPlaceGiven}
use Rattle.rbf_sector_rules.specs.Least.{IsLeastWithin}
use Rattle.rbf_sector_rules.specs.Noted.{HasUser, HasOwner, cluster_begin, OccursTwice, IsUsedAgain, IsNoted}
use Rattle.rbf_sector_rules.specs.Noted.IsUsedAgain.{twice, again, shared}
use Rattle.rbf_sector_rules.proofs.Options.{some_same}

-- two places in two lists joined
pub twice_left : (xs ys : List ℕ) (s : ℕ) → OccursTwice xs s → OccursTwice (xs ++ ys) s
twice_left [] ys s h = absurd h
twice_left (x ∷ xs) ys s (inl here) = inl (here.0, has_left xs ys s here.1)
twice_left (x ∷ xs) ys s (inr later) = inr (twice_left xs ys s later)

pub twice_right : (xs ys : List ℕ) (s : ℕ) → OccursTwice ys s → OccursTwice (xs ++ ys) s
twice_right [] ys s h = h
twice_right (x ∷ xs) ys s h = inr (twice_right xs ys s h)

pub twice_across : (xs ys : List ℕ) (s : ℕ) → has xs s ≡ true → has ys s ≡ true → OccursTwice (xs ++ ys) s
twice_across [] ys s one other = absurd (false≢true one)
twice_across (x ∷ xs) ys s one other = ⊎_elim
    (λ here. inl (eqb-true x s here, has_right xs ys s other))
    (λ later. inr (twice_across xs ys s later other))
    (or_cases (x == s) (has xs s) one)

pub twice_cases : (xs ys : List ℕ) (s : ℕ) → OccursTwice (xs ++ ys) s → OccursTwice xs s ⊎ (OccursTwice ys s ⊎ ((has xs s ≡ true) × (has ys s ≡ true)))
twice_cases [] ys s h = inr (inl h)
twice_cases (x ∷ xs) ys s (inl here) = ⊎_elim
    (λ left. inl (inl (here.0, left)))
    (λ right. inr (inr (or_left (x == s) (has xs s) (eq-eqb x s here.0), right)))
    (has_cases xs ys s here.1)
twice_cases (x ∷ xs) ys s (inr later) = ⊎_elim
    (λ left. inl (inr left))
    (λ rest. ⊎_elim (λ right. inr (inl right)) (λ both. inr (inr (or_right (x == s) (has xs s) both.0, both.1))) rest)
    (twice_cases xs ys s later)

twice_has : (xs : List ℕ) (s : ℕ) → OccursTwice xs s → has xs s ≡ true
twice_has [] s h = absurd h
twice_has (x ∷ xs) s (inl here) = or_left (x == s) (has xs s) (eq-eqb x s here.0)
twice_has (x ∷ xs) s (inr later) = or_right (x == s) (has xs s) (twice_has xs s later)

module _ (k : ℕ) (owner : Owner) where
  -- sectors that show nothing less: they are not below the least breach, and their clusters are not either or have this owner
  module _ (rest : List ℕ) (uses : Uses) (past : (s : ℕ) → has rest s ≡ true → uses.least ≤ s) (owned : (s : ℕ)
      → has rest s ≡ true → cluster_begin k s < uses.least → HasOwner uses (s / k) owner.descriptor) where
    no_less : (s : ℕ) → IsUsedAgain k owner rest uses s → uses.least ≤ s
    no_less s (twice both) = past s (twice_has rest s both)
    no_less s (again here noted) = past s here
    no_less s (shared t n here begins had other) = ⊎_elim
        (λ low. absurd (other (some_same n owner.descriptor (get_or uses.owners.items (t / k) None) had (owned t here low))))
        (λ high. omega arith)
        (cases_lt (cluster_begin k t) uses.least)

    pub noted_past : IsNoted k owner rest uses uses
    noted_past = record {
      users_size = refl;
      owners_size = refl;
      user_stays = λ s h. h;
      owner_stays = λ c n h. h;
      user_from = λ s p h. inl h;
      owner_from = λ c n h. inl h;
      used = λ s here low. absurd (omega (arith, past s here));
      owned = owned;
      least = record { within = omega arith; is = inl refl; least = no_less };
    }

  pub noted_none : (uses : Uses) → IsNoted k owner [] uses uses
  noted_none uses = noted_past [] uses (λ s h. absurd (false≢true h)) (λ s h low. absurd (false≢true h))

  -- one list after another
  module _ (xs ys : List ℕ) (a b c : Uses) (first : IsNoted k owner xs a b) (next : IsNoted k owner ys b c) where
    of_first : (s : ℕ) → IsUsedAgain k owner xs a s → IsUsedAgain k owner (xs ++ ys) a s
    of_first s (twice both) = twice (twice_left xs ys s both)
    of_first s (again here noted) = again (has_left xs ys s here) noted
    of_first s (shared t n here begins had other) = shared t n (has_left xs ys t here) begins had other

    of_next : (s : ℕ) → IsUsedAgain k owner ys b s → IsUsedAgain k owner (xs ++ ys) a s
    of_next s (twice both) = twice (twice_right xs ys s both)
    of_next s (again here noted) = ⊎_elim
        (λ before. again (has_right xs ys s here) before)
        (λ own. twice (twice_across xs ys s own.1 here))
        (first.user_from s owner.place noted)
    of_next s (shared t n here begins had other) = ⊎_elim
        (λ before. shared t n (has_right xs ys t here) begins before other)
        (λ own. absurd (other own.0))
        (first.owner_from (t / k) n had)

    below_first : (s : ℕ) → IsUsedAgain k owner xs a s → c.least ≤ s
    below_first s h =
        let low = first.least.least s h in
        let less = next.least.within in
        omega arith

    below_across : (s : ℕ) → has xs s ≡ true → has ys s ≡ true → c.least ≤ s
    below_across s one other = ⊎_elim
        (λ low. next.least.least s (again other (first.used s one low)))
        (λ high. let less = next.least.within in omega arith)
        (cases_lt s b.least)

    below : (s : ℕ) → IsUsedAgain k owner (xs ++ ys) a s → c.least ≤ s
    below s (twice both) = ⊎_elim
        (λ left. below_first s (twice left))
        (λ rest. ⊎_elim (λ right. next.least.least s (twice right)) (λ across. below_across s across.0 across.1) rest)
        (twice_cases xs ys s both)
    below s (again here noted) = ⊎_elim
        (λ left. below_first s (again left noted))
        (λ right. next.least.least s (again right (first.user_stays s noted)))
        (has_cases xs ys s here)
    below s (shared t n here begins had other) = ⊎_elim
        (λ left. below_first s (shared t n left begins had other))
        (λ right. next.least.least s (shared t n right begins (first.owner_stays (t / k) n had) other))
        (has_cases xs ys t here)

    least_is : (c.least ≡ a.least) ⊎ IsUsedAgain k owner (xs ++ ys) a c.least
    least_is = ⊎_elim
        (λ same. ⊎_elim
        (λ before. inl (same ∙ before))
        (λ here. let P : ℕ → Type 0 = λ s. IsUsedAgain k owner (xs ++ ys) a s in inr (subst P (sym same) (of_first b.least here)))
        first.least.is)
        (λ here. inr (of_next c.least here))
        next.least.is

    pub noted_then : IsNoted k owner (xs ++ ys) a c
    noted_then = record {
      users_size = next.users_size ∙ first.users_size;
      owners_size = next.owners_size ∙ first.owners_size;
      user_stays = λ s h. next.user_stays s (first.user_stays s h);
      owner_stays = λ d n h. next.owner_stays d n (first.owner_stays d n h);
      user_from = λ s p h. ⊎_elim
          (λ before. ⊎_elim (λ older. inl older) (λ own. inr (own.0, has_left xs ys s own.1)) (first.user_from s p before))
          (λ own. inr (own.0, has_right xs ys s own.1))
          (next.user_from s p h);
      owner_from = λ d n h. ⊎_elim
          (λ before. ⊎_elim (λ older. inl older) (λ own. let at = own.1 in inr (own.0, (at.0, has_left xs ys at.0 at.1, at.2))) (first.owner_from d n before))
          (λ own. let at = own.1 in inr (own.0, (at.0, has_right xs ys at.0 at.1, at.2)))
          (next.owner_from d n h);
      used = λ s here low. ⊎_elim
          (λ left. let less = next.least.within in next.user_stays s (first.used s left (omega arith)))
          (λ right. next.used s right low)
          (has_cases xs ys s here);
      owned = λ s here low. ⊎_elim
          (λ left. let less = next.least.within in next.owner_stays (s / k) owner.descriptor (first.owned s left (omega arith)))
          (λ right. next.owned s right low)
          (has_cases xs ys s here);
      least = record {
        within = let one = first.least.within in let other = next.least.within in omega arith;
        is = least_is;
        least = below;
      };
    }

  -- one sector
  module _ (s : ℕ) (old new : Uses) (given : IsPlaceGiven old.owners.items new.owners.items owner.descriptor (s / k)) where
    alone : (t : ℕ) → has (s ∷ []) t ≡ true → s ≡ t
    alone t here = ⊎_elim (λ same. eqb-true s t same) (λ none. absurd (false≢true none)) (or_cases (s == t) (has [] t) here)

    here_alone : has (s ∷ []) s ≡ true
    here_alone = or_left (s == s) (has [] s) (eq-eqb s s refl)

    not_twice : (t : ℕ) → OccursTwice (s ∷ []) t → ⊥
    not_twice t (inl here) = false≢true here.1
    not_twice t (inr none) = none

    given_from : (c n : ℕ) → HasOwner new c n → HasOwner old c n ⊎ ((n ≡ owner.descriptor) × ((t : ℕ) × (has (s ∷ []) t ≡ true) × (t / k ≡ c)))
    given_from c n h = ⊎_elim (λ before. inl before) (λ own. inr (own.0, (s, here_alone, sym own.1))) (given.only c n h)

    -- its cluster has another owner
    module _ (same : new.users.items ≡ old.users.items) (n : ℕ) (had : HasOwner old (s / k) n) (other : n ≢ owner.descriptor) (least : new.least ≡ min old.least (cluster_begin k s)) where
      begins_below : (t : ℕ) → IsUsedAgain k owner (s ∷ []) old t → cluster_begin k s ≤ t
      begins_below t (twice both) = absurd (not_twice t both)
      begins_below t (again here noted) =
          let at = alone t here in
          omega (arith, div-mul-le_self s k)
      begins_below t (shared u m here begins has_owner apart) =
          let at : cluster_begin k s ≡ cluster_begin k u = ap (cluster_begin k) (alone u here) in
          omega arith

      pub noted_shared : IsNoted k owner (s ∷ []) old new
      noted_shared = record {
        users_size = ap length same;
        owners_size = given.size;
        user_stays = λ t h. ap (λ users. get_or users t None) same ∙ h;
        owner_stays = given.kept;
        user_from = λ t p h. inl (sym (ap (λ users. get_or users t None) same) ∙ h);
        owner_from = given_from;
        used = λ t here low. let at = alone t here in absurd (omega (arith, div-mul-le_self s k));
        owned = λ t here low.
            let at : cluster_begin k s ≡ cluster_begin k t = ap (cluster_begin k) (alone t here) in
            absurd (omega arith);
        least = record {
          within = omega arith;
          is = ⊎_elim
              (λ low. inl (let kept : old.least ≤ cluster_begin k s = omega arith in omega arith))
              (λ high. inr (shared s n here_alone (omega arith) had other))
              (cases_lt old.least (cluster_begin k s));
          least = λ t h. omega (arith, begins_below t h);
        };
      }

    -- it has none, or this one
    module _ (low : s < length old.users.items) (noted : new.users.items ≡ set old.users.items s (Some owner.place)) (none_other : (n : ℕ) → HasOwner old (s / k) n → n ≡ owner.descriptor) where
      user_here : HasUser new s owner.place
      user_here = ap (λ users. get_or users s None) noted ∙ get_or-set_same old.users.items s (Some owner.place) None low

      user_beside : (t : ℕ) → t ≢ s → get_or new.users.items t None ≡ get_or old.users.items t None
      user_beside t apart = ap (λ users. get_or users t None) noted ∙ get_or-set_other old.users.items s t (Some owner.place) None apart

      stays : (t : ℕ) → HasUser old t owner.place → HasUser new t owner.place
      stays t h = ⊎_elim
          (λ same. ap (λ u. get_or new.users.items u None) same ∙ user_here)
          (λ apart. user_beside t apart ∙ h)
          (cases_eq t s)

      from : (t p : ℕ) → HasUser new t p → HasUser old t p ⊎ ((p ≡ owner.place) × (has (s ∷ []) t ≡ true))
      from t p h = ⊎_elim
          (λ same. inr (some_same p owner.place (get_or new.users.items s None) (sym (ap (λ u. get_or new.users.items u None) same) ∙ h) user_here, ap (has (s ∷ [])) same ∙ here_alone))
          (λ apart. inl (sym (user_beside t apart) ∙ h))
          (cases_eq t s)

      owner_here : (t : ℕ) → has (s ∷ []) t ≡ true → HasOwner new (t / k) owner.descriptor
      owner_here t here =
          let there = given.there in
          let own : there.0 ≡ owner.descriptor = ⊎_elim (λ before. none_other there.0 before) (λ own. own.0) (given.only (s / k) there.0 there.1) in
          ap (λ u. get_or new.owners.items (u / k) None) (sym (alone t here)) ∙ there.1 ∙ ap Some own

      only_again : (t : ℕ) → IsUsedAgain k owner (s ∷ []) old t → (s ≡ t) × HasUser old s owner.place
      only_again t (twice both) = absurd (not_twice t both)
      only_again t (again here noted_before) =
          let at = alone t here in
          (at, ap (λ u. get_or old.users.items u None) at ∙ noted_before)
      only_again t (shared u n here begins had apart) =
          absurd (apart (none_other n (ap (λ v. get_or old.owners.items (v / k) None) (alone u here) ∙ had)))

      pub noted_own : IsLeastWithin (IsUsedAgain k owner (s ∷ []) old) old.least new.least → IsNoted k owner (s ∷ []) old new
      noted_own least = record {
        users_size = ap length noted ∙ length-set old.users.items s (Some owner.place);
        owners_size = given.size;
        user_stays = stays;
        owner_stays = given.kept;
        user_from = from;
        owner_from = given_from;
        used = λ t here below. ap (λ u. get_or new.users.items u None) (sym (alone t here)) ∙ user_here;
        owned = λ t here below. owner_here t here;
        least = least;
      }

      -- the owner has used it before, or it is new
      pub noted_again : HasUser old s owner.place → new.least ≡ min old.least s → IsNoted k owner (s ∷ []) old new
      noted_again before least = noted_own (record {
        within = omega arith;
        is = ⊎_elim
            (λ less. inl (omega arith))
            (λ more. let here : s ≡ new.least = omega arith in let P : ℕ → Type 0 = λ t. IsUsedAgain k owner (s ∷ []) old t in inr (subst P here (again here_alone before)))
            (cases_lt old.least s);
        least = λ t h. let at = (only_again t h).0 in omega arith;
      })

      pub noted_new : (HasUser old s owner.place → ⊥) → new.least ≡ old.least → IsNoted k owner (s ∷ []) old new
      noted_new fresh least = noted_own (record {
        within = omega arith;
        is = inl least;
        least = λ t h. absurd (fresh (only_again t h).1);
      })
