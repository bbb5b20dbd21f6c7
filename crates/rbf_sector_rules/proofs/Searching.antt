-- A search whose positions are read one after the other.
use Rattle.std.proofs.Common.{◌≡◌, ◌⊎◌, ℕ, ◌+◌, ◌*◌, true, List, length, sym, ap, ◌∙◌, subst, ⊎_elim, arith}
use Rattle.rbf_model.specs.Disk.{disk_of}
use Rattle.rbf_model.specs.Geometry.{Geometry, IsNumber}
use Rattle.rbf_model.specs.Segments.{has}
use Rattle.rbf_sector_rules.specs.declared.unread.Unread.{Unread}
use Rattle.rbf_sector_rules.specs.declared.walk.Search.{Search}
use Rattle.rbf_sector_rules.specs.Found.{IsSearch, AreFound}
use Rattle.rbf_sector_rules.specs.Positions.{PositionNames}
use Rattle.rbf_sector_rules.specs.Unread.{IsOrdered, IsPositionRead}
use Rattle.rbf_sector_rules.specs.Walk.{IsSearching}
use Rattle.rbf_sector_rules.proofs.Visits.{has_extended}

module _ (g : Geometry) (disk : ℕ → List ℕ) where
  -- no more positions have been read
  pub searching_same : (search : Search) (unread : Unread) → IsSearching (disk_of g disk) search
      → length unread.next.items ≡ length search.unread.next.items → IsOrdered unread → ((e : ℕ) → IsPositionRead unread e
      → IsPositionRead search.unread e)
      → IsSearching (disk_of g disk) (record { seen = search.seen; found = search.found; unread = unread })
  searching_same search unread before size ordered same = record {
    marks = before.marks;
    size = before.size;
    positions = size ∙ before.positions;
    ordered = ordered;
    read = λ e n h names number. before.read e n (same e h) names number;
  }

  -- position e has been read
  module _ (old new : Search) (unread : Unread) (e : ℕ) (before : IsSearching (disk_of g disk) old)
      (found : AreFound (disk_of g disk) e (e + 1) old.found.items new.found.items) (same : new.unread ≡ old.unread)
      (only : (t : ℕ) → IsPositionRead unread t → IsPositionRead new.unread t ⊎ (t ≡ e)) where
    pub named_after : (t n : ℕ) → IsPositionRead unread t → PositionNames disk t n → IsNumber g n → has new.found.items n ≡ true
    named_after t n h names number = ⊎_elim
        (λ earlier.
        let P : Unread → Type 0 = λ u. IsPositionRead u t in
        has_extended old.found.items new.found.items n found.extends (before.read t n (subst P same earlier) names number))
        (λ here. found.named t n (omega arith) (omega arith) names number)
        (only t h)

    pub searching_after : IsSearch new.seen.items new.found.items → length new.seen.items ≡ length old.seen.items → length unread.next.items ≡ length new.unread.next.items → IsOrdered unread
        → IsSearching (disk_of g disk) (record { seen = new.seen; found = new.found; unread = unread })
    searching_after marks size positions ordered = record {
      marks = marks;
      size = size ∙ before.size;
      positions = positions ∙ ap (λ (u : Unread). length u.next.items) same ∙ before.positions;
      ordered = ordered;
      read = named_after;
    }

  -- no position has been read
  pub searching_none : (search : Search) (unread : Unread) → IsSearch search.seen.items search.found.items
      → length search.seen.items ≡ g.total → length unread.next.items ≡ 8 * g.total + 1 → IsOrdered unread
      → ((e : ℕ) → IsPositionRead unread e → ⊥) → search.unread ≡ unread
      → IsSearching (disk_of g disk) search
  searching_none search unread marks size positions ordered none same = record {
    marks = marks;
    size = size;
    positions = ap (λ (u : Unread). length u.next.items) same ∙ positions;
    ordered = subst IsOrdered (sym same) ordered;
    read = λ e n h names number. let P : Unread → Type 0 = λ u. IsPositionRead u e in absurd (none e (subst P same h));
  }
