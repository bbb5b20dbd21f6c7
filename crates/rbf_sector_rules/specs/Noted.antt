-- The owners that use the sectors and have the clusters of a volume, for rule 4.
use Rattle.std.specs.Prelude.{◌≡◌, ◌≢◌, ◌⊎◌, ℕ, ◌*◌, ◌/◌, ◌<◌, true, List, [], ◌∷◌, length, get_or, Some, None}
use Rattle.rbf_model.specs.Segments.{has}
use Rattle.rbf_sector_rules.specs.declared.uses.Owner.{Owner}
use Rattle.rbf_sector_rules.specs.declared.uses.Uses.{Uses}
use Rattle.rbf_sector_rules.specs.Least.{IsLeastWithin}

-- the owner in place p is noted as the last user of sector s
abbrev pub HasUser : Uses → ℕ → ℕ → Type 0
HasUser uses s p = get_or uses.users.items s None ≡ Some p

-- the owner whose descriptor is n is noted to have cluster c
abbrev pub HasOwner : Uses → ℕ → ℕ → Type 0
HasOwner uses c n = get_or uses.owners.items c None ≡ Some n

-- the first sector of the cluster of sector s, for clusters of k sectors
abbrev pub cluster_begin : ℕ → ℕ → ℕ
cluster_begin k s = s / k * k

-- the number occurs twice in the list
abbrev pub OccursTwice : List ℕ → ℕ → Type 0
OccursTwice [] s = ⊥
OccursTwice (x ∷ xs) s = ((x ≡ s) × (has xs s ≡ true)) ⊎ OccursTwice xs s

-- these sectors of an owner show that a sector breaks the rule
pub data IsUsedAgain (k : ℕ) (owner : Owner) (sectors : List ℕ) (uses : Uses) (s : ℕ) : Type 0 where
  -- it occurs twice among them
  twice : OccursTwice sectors s → IsUsedAgain k owner sectors uses s
  -- the owner was noted before as its user
  again : has sectors s ≡ true → HasUser uses s owner.place → IsUsedAgain k owner sectors uses s
  -- it is the first of the cluster of one of them, and another owner has that cluster
  shared : (t n : ℕ) → has sectors t ≡ true → s ≡ cluster_begin k t → HasOwner uses (t / k) n → n ≢ owner.descriptor
      → IsUsedAgain k owner sectors uses s

-- these sectors of an owner have been noted
pub record IsNoted (k : ℕ) (owner : Owner) (sectors : List ℕ) (old new : Uses) : Type 0 where
  pub users_size : length new.users.items ≡ length old.users.items
  pub owners_size : length new.owners.items ≡ length old.owners.items
  -- earlier notes stay, and the only new notes are of the owner at these sectors
  pub user_stays : (s : ℕ) → HasUser old s owner.place → HasUser new s owner.place
  pub owner_stays : (c n : ℕ) → HasOwner old c n → HasOwner new c n
  pub user_from : (s p : ℕ) → HasUser new s p → HasUser old s p ⊎ ((p ≡ owner.place) × (has sectors s ≡ true))
  pub owner_from : (c n : ℕ) → HasOwner new c n
      → HasOwner old c n ⊎ ((n ≡ owner.descriptor) × ((s : ℕ) × (has sectors s ≡ true) × (s / k ≡ c)))
  -- the owner is noted at those below the least breach
  pub used : (s : ℕ) → has sectors s ≡ true → s < new.least → HasUser new s owner.place
  pub owned : (s : ℕ) → has sectors s ≡ true → cluster_begin k s < new.least → HasOwner new (s / k) owner.descriptor
  pub least : IsLeastWithin (IsUsedAgain k owner sectors old) old.least new.least
