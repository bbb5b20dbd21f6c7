-- Numbers of sectors and clusters, at each of the seven sizes that a cluster may have.
use Rattle.std.proofs.Common.{◌≡◌, ℕ, ◌+◌, ◌-◌, ◌*◌, ◌/◌, ◌<◌, ◌≤◌, ◌==◌, ◌||◌, true, sym, subst, ⊎_elim, eqb-true, arith}
use Rattle.std.proofs.lemmas.Bool.{or_cases}
use Rattle.rbf_model.specs.Geometry.{is_cluster_size}
use Rattle.vol_tools.specs.Blank.{map_bytes_for, blank_root}

-- what holds of each size
pub of_size : (P : ℕ → Type 0) → P 1 → P 2 → P 4 → P 8 → P 16 → P 32 → P 64 → (k : ℕ) → is_cluster_size k ≡ true → P k
of_size P a b c d e f g k h =
    ⊎_elim
    (λ h6. ⊎_elim
    (λ h5. ⊎_elim
    (λ h4. ⊎_elim
    (λ h3. ⊎_elim
    (λ h2. ⊎_elim
    (λ h1. at 1 a h1)
    (λ h1. at 2 b h1) (or_cases (k == 1) (k == 2) h2))
    (λ h2. at 4 c h2) (or_cases ((k == 1) || (k == 2)) (k == 4) h3))
    (λ h3. at 8 d h3) (or_cases ((k == 1) || (k == 2) || (k == 4)) (k == 8) h4))
    (λ h4. at 16 e h4) (or_cases ((k == 1) || (k == 2) || (k == 4) || (k == 8)) (k == 16) h5))
    (λ h5. at 32 f h5) (or_cases ((k == 1) || (k == 2) || (k == 4) || (k == 8) || (k == 16)) (k == 32) h6))
    (λ h6. at 64 g h6) (or_cases ((k == 1) || (k == 2) || (k == 4) || (k == 8) || (k == 16) || (k == 32)) (k == 64) h)
  where
    at : (n : ℕ) → P n → (k == n) ≡ true → P k
    at n p is = subst P (sym (eqb-true k n is)) p

-- the map has a bit for each cluster, its length is a word, and the root's sectors are on the disk
abbrev Fits : ℕ → ℕ → Type 0
Fits s k =
    16 ≤ s → s ≤ 524280
    → (blank_root s k + 2 ≤ s) × (s ≤ 8 * map_bytes_for s k * k) × (map_bytes_for s k < 65536)

pub fits : (s k : ℕ) → is_cluster_size k ≡ true → Fits s k
fits s =
    of_size (Fits s)
    (λ a b. (omega arith, omega arith, omega arith))
    (λ a b. (omega arith, omega arith, omega arith))
    (λ a b. (omega arith, omega arith, omega arith))
    (λ a b. (omega arith, omega arith, omega arith))
    (λ a b. (omega arith, omega arith, omega arith))
    (λ a b. (omega arith, omega arith, omega arith))
    (λ a b. (omega arith, omega arith, omega arith))

-- a cluster is in use exactly if its first sector is
abbrev Uses : ℕ → Type 0
Uses k = (n c : ℕ) → (c < (n + 2 + (k - 1)) / k → c * k < n + 2) × (c * k < n + 2 → c < (n + 2 + (k - 1)) / k)

pub uses : (k : ℕ) → is_cluster_size k ≡ true → Uses k
uses =
    of_size Uses
    (λ n c. (λ h. omega arith, λ h. omega arith))
    (λ n c. (λ h. omega arith, λ h. omega arith))
    (λ n c. (λ h. omega arith, λ h. omega arith))
    (λ n c. (λ h. omega arith, λ h. omega arith))
    (λ n c. (λ h. omega arith, λ h. omega arith))
    (λ n c. (λ h. omega arith, λ h. omega arith))
    (λ n c. (λ h. omega arith, λ h. omega arith))

-- the first sector of a cluster is in it, and its sectors do not come before that
abbrev Begins : ℕ → Type 0
Begins k = (c t : ℕ) → ((c * k) / k ≡ c) × ((t / k) * k ≤ t)

pub begins : (k : ℕ) → is_cluster_size k ≡ true → Begins k
begins =
    of_size Begins
    (λ c t. (omega arith, omega arith))
    (λ c t. (omega arith, omega arith))
    (λ c t. (omega arith, omega arith))
    (λ c t. (omega arith, omega arith))
    (λ c t. (omega arith, omega arith))
    (λ c t. (omega arith, omega arith))
    (λ c t. (omega arith, omega arith))

-- every cluster has a bit in the map's sectors
abbrev InMap : ℕ → ℕ → Type 0
InMap s k = (c : ℕ) → c * k < s → c / 8 < 256 * ((map_bytes_for s k + 255) / 256)

pub in_map : (s k : ℕ) → is_cluster_size k ≡ true → InMap s k
in_map s =
    of_size (InMap s)
    (λ c h. omega arith)
    (λ c h. omega arith)
    (λ c h. omega arith)
    (λ c h. omega arith)
    (λ c h. omega arith)
    (λ c h. omega arith)
    (λ c h. omega arith)

-- and is few
pub cluster_low : (k : ℕ) → is_cluster_size k ≡ true → k < 65536
cluster_low = of_size (λ k. k < 65536) (omega arith) (omega arith) (omega arith) (omega arith) (omega arith) (omega arith) (omega arith)
