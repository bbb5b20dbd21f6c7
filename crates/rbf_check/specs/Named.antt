-- The links that name a descriptor that another link also names, for rule 9.
use Rattle.std.specs.Prelude.{◌≡◌, ◌⊎◌, ℕ, ◌<◌, ◌≤◌, List, get_or, Option, Some, None}
use Rattle.rbf_sector_rules.specs.declared.links.Link.{Link}

-- the link in a place of the list
abbrev pub link_at : List Link → ℕ → Link
link_at links k = get_or links k (record { directory = 0; entry = 0; descriptor = 0 })

-- the two links are the same entry
abbrev pub AreSame : Link → Link → Type 0
AreSame one other = (one.directory ≡ other.directory) × (one.entry ≡ other.entry)

-- the first link that names descriptor n
pub record IsFirstLink (links : List Link) (n j : ℕ) : Type 0 where
  pub names : (link_at links j).descriptor ≡ n
  pub none_before : (i : ℕ) → i < j → (link_at links i).descriptor ≡ n → ⊥

-- the table has for each descriptor the first of the links before place k that names it
pub record AreFirsts (links : List Link) (firsts : List (Option ℕ)) (k : ℕ) : Type 0 where
  pub each : (n j : ℕ) → get_or firsts n None ≡ Some j → (j < k) × IsFirstLink links n j
  pub there : (j : ℕ) → j < k → (m : ℕ) × (get_or firsts (link_at links j).descriptor None ≡ Some m)

-- the link in place k names the root's descriptor, or a descriptor whose first link is another entry
abbrev pub IsNamedAgain : List Link → ℕ → ℕ → ℕ → Type 0
IsNamedAgain links root k n =
    (n ≡ (link_at links k).descriptor)
    × (((link_at links k).descriptor ≡ root)
    ⊎ ((j : ℕ) × (j ≤ k) × IsFirstLink links (link_at links k).descriptor j
    × (AreSame (link_at links j) (link_at links k) → ⊥)))
