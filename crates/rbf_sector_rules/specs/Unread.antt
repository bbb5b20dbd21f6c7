-- The unread positions, in a table that has for each place the one to which it leads.
use Rattle.std.specs.Prelude.{ℕ, ◌<◌, ◌≤◌, List, length, get_or}
use Rattle.rbf_sector_rules.specs.declared.unread.Unread.{Unread}

-- place e leads to a later one
abbrev pub LeadsOn : List ℕ → ℕ → Type 0
LeadsOn next e = e < get_or next e 0

-- no place leads back, none out of the table, and none past a place that does not lead to a later one
pub record AreOrdered (next : List ℕ) : Type 0 where
  pub after : (e : ℕ) → e < length next → e ≤ get_or next e 0
  pub within : (e : ℕ) → e < length next → get_or next e 0 < length next
  pub over : (from e : ℕ) → from ≤ e → e < get_or next from 0 → LeadsOn next e

abbrev pub IsOrdered : Unread → Type 0
IsOrdered unread = AreOrdered unread.next.items

-- position e has been read: its place leads to a later one
abbrev pub IsPositionRead : Unread → ℕ → Type 0
IsPositionRead unread e = LeadsOn unread.next.items e
