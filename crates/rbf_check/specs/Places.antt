-- The link that names a descriptor.
use Rattle.std.specs.Prelude.{◌≡◌, ◌≢◌, ℕ, List, length, get_or, Contains, Option, Some, None}
use Rattle.rbf_sector_rules.specs.declared.links.Link.{Link}

-- the table has for each number a link that names it, if there is one
pub record AreLinkPlaces (links : List Link) (total : ℕ) (places : List (Option Link)) : Type 0 where
  pub size : length places ≡ total
  pub each : (n : ℕ) (link : Link) → get_or places n None ≡ Some link → Contains links link × (link.descriptor ≡ n)
  pub there : (link : Link) → Contains links link → get_or places link.descriptor None ≢ None
