-- The descriptors that break a rule by themselves.
use Rattle.std.proofs.Common.{◌≡◌, ℕ, true, List, length, get_or, Option, refl, sym, ap, ◌∙◌, subst, inl, inr, arith}
use Rattle.rbf_model.specs.Disk.{disk_of}
use Rattle.rbf_model.specs.Geometry.{Geometry}
use Rattle.rbf_model.specs.File.{file_at, is_directory}
use Rattle.rbf_model.specs.Segments.{has}
use Rattle.rbf_model.specs.Faults.{Breaks}
use Rattle.rbf_model.specs.Search.{IsListOfReached, IsReachedOn}
use Rattle.rbf_model.specs.Faults.Breaks.{bad_number, bad_segment, bad_map, unmarked, used_twice, shared, no_room, no_root, bad_size, no_dots, bad_name, same_name, named_twice, named_root}
use Rattle.rbf_model.specs.Tree.ReachedFile.{root}
use Rattle.rbf_sector_rules.specs.declared.descriptors.OwnRule.{OwnRule}
use Rattle.rbf_sector_rules.specs.declared.descriptors.OwnRule.TheVariants.{Room, Size}
use Rattle.rbf_sector_rules.specs.Rules.{BreaksOwn, BreaksOwnAt, rule_number}
use Rattle.rbf_sector_rules.specs.Least.{IsLeast, IsLeastBreach, Before}
use Rattle.rbf_sector_rules.proofs.Leasts.{least_along, least_in_list}

-- a descriptor that breaks a rule by itself is a breach, and each breach is one
module _ (g : Geometry) (disk : ℕ → List ℕ) where
  pub own_breach : (rule : OwnRule) (n : ℕ) → IsReachedOn (disk_of g disk) n → BreaksOwn rule (disk_of g disk) n → Breaks (disk_of g disk) (rule_number rule) n
  own_breach Room n reached broken = no_room reached broken
  own_breach Size n reached (inl no_dir) =
      let P : ℕ → Type 0 = λ m. Breaks (disk_of g disk) 6 m in
      subst P (sym no_dir.0) (no_root (ap (λ m. is_directory (file_at disk m)) (sym no_dir.0) ∙ no_dir.1))
  own_breach Size n reached (inr size) = bad_size reached size.0 size.1

  abbrev Own : ℕ → ℕ → Type 0
  Own rule lsn =
      (rule ≡ 5 → IsReachedOn (disk_of g disk) lsn × BreaksOwn Room (disk_of g disk) lsn) × (rule ≡ 6 → IsReachedOn (disk_of g disk) lsn × BreaksOwn Size (disk_of g disk) lsn)

  none_of : (rule lsn : ℕ) → (rule ≡ 5 → ⊥) → (rule ≡ 6 → ⊥) → Own rule lsn
  none_of rule lsn five six = (λ e. absurd (five e), λ e. absurd (six e))

  own_of : {rule lsn : ℕ} → Breaks (disk_of g disk) rule lsn → Own rule lsn
  own_of (bad_number {d = d} a b c) = none_of 1 d (λ e. omega arith) (λ e. omega arith)
  own_of (bad_segment {n = n} a b c) = none_of 1 n (λ e. omega arith) (λ e. omega arith)
  own_of (bad_map bad) = none_of 2 1 (λ e. omega arith) (λ e. omega arith)
  own_of (unmarked {s = s} a b c) = none_of 3 s (λ e. omega arith) (λ e. omega arith)
  own_of (used_twice {s = s} a b c d) = none_of 4 s (λ e. omega arith) (λ e. omega arith)
  own_of (shared {s = s} a b c d f h k) = none_of 4 s (λ e. omega arith) (λ e. omega arith)
  own_of (no_room reached broken) = (λ e. (reached, broken), λ e. absurd (omega arith))
  own_of (no_root broken) = (λ e. absurd (omega arith), λ e. (root, inl (refl, broken)))
  own_of (bad_size reached dir size) = (λ e. absurd (omega arith), λ e. (reached, inr (dir, size)))
  own_of (no_dots {n = n} a b c) = none_of 7 n (λ e. omega arith) (λ e. omega arith)
  own_of (bad_name {d = d} a b) = none_of 8 d (λ e. omega arith) (λ e. omega arith)
  own_of (same_name {d = d} a b) = none_of 8 d (λ e. omega arith) (λ e. omega arith)
  own_of (named_twice {n = n} a b c d) = none_of 9 n (λ e. omega arith) (λ e. omega arith)
  own_of (named_root a) = none_of 9 g.root (λ e. omega arith) (λ e. omega arith)

  pub own_by_rule : (rule : OwnRule) (lsn : ℕ) → Breaks (disk_of g disk) (rule_number rule) lsn → IsReachedOn (disk_of g disk) lsn × BreaksOwn rule (disk_of g disk) lsn
  own_by_rule Room lsn b = (own_of b).0 refl
  own_by_rule Size lsn b = (own_of b).1 refl

  -- the least of those that are found
  pub least_own : (rule : OwnRule) (found : List ℕ) (i : ℕ) (least : Option ℕ) → IsListOfReached (disk_of g disk) found
      → i ≡ length found → IsLeast (Before (λ k. BreaksOwnAt rule (disk_of g disk) (get_or found k 0)) i) least
      → IsLeastBreach (disk_of g disk) (rule_number rule) least
  least_own rule found i least are all is =
      let P : ℕ → Type 0 = λ n. Breaks (disk_of g disk) (rule_number rule) n in
      least_along (λ s. (n : ℕ) × (has found n ≡ true) × BreaksOwnAt rule (disk_of g disk) n s) (Breaks (disk_of g disk) (rule_number rule))
      (λ s h. subst P (sym h.2.0) (own_breach rule h.0 ((are h.0).0 h.1) h.2.1))
      (λ s b. let own = own_by_rule rule s b in (s, (are s).1 own.0, (refl, own.1)))
      least (least_in_list (BreaksOwnAt rule (disk_of g disk)) found i all least is)
