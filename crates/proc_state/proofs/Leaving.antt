-- Turns and primary modules when a process ends.
use Rattle.std.proofs.Common.{◌≡◌, ℕ, zero, suc, [], ◌∷◌, ◌==◌, Bool, true, false, not, Option, Some, None, is_some, List, map, set, refl, sym, ap, ◌∙◌, subst, arith, inl, inr, ◌⊎◌, get_or-set_same, get_or-set_other}
use Rattle.std.specs.Prelude.{unwrap_or}
use Rattle.std.proofs.Math.ListN.{get_or-map}
use Rattle.std.proofs.lemmas.Bool.{false≢true, cases_eq}
use Rattle.std.proofs.lemmas.List.{length-map}
use Rattle.os9_sched.specs.declared.member.Member.{Member}
use Rattle.os9_sched.specs.declared.member.Standing.TheVariants.{Going}
use Rattle.os9_sched.specs.Members.{member_of, wait_at}
use Rattle.os9_sched.specs.Schedule.{Schedule, after_remove}
use Rattle.proc_model.specs.declared.record.Record.{Record}
use Rattle.proc_model.specs.Ends.{is_child, ended_record, orphaned, after_exit}
use Rattle.proc_model.specs.Records.{IsLiving, is_living, is_waiting, record_of, record_at, record_passes, has_ended, new_record}
use Rattle.proc_state.specs.Sound.{AreTurns}
use Rattle.proc_state.proofs.Living.{place-living}

-- a place has a living process
abbrev lives : Option Record → Bool
lives place = record_passes (λ r. not (has_ended r.life)) place

-- the record of a place that has one
abbrev record_in : Option Record → Record
record_in place = unwrap_or place (new_record (record { 0 = 0 }) 0 0)

ended-lives : (r : Record) (status : ℕ) → lives (ended_record r status) ≡ false
ended-lives r status = by_parent (r.parent.0 == 0) refl
  where
    by_parent : (test : Bool) → r.parent.0 == 0 ≡ test → lives (ended_record r status) ≡ false
    by_parent true is = rw is
    by_parent false is = rw is

module _ (p : ℕ) where
  orphaned-lives : (place : Option Record) → lives (orphaned p place) ≡ lives place
  orphaned-lives None = refl
  orphaned-lives (Some r) = by_child (is_child p r) refl (has_ended r.life) refl
    where
      by_child : (child : Bool) → is_child p r ≡ child → (ended : Bool) → has_ended r.life ≡ ended → lives (orphaned p (Some r)) ≡ lives (Some r)
      by_child false is ended is_too = rw is
      by_child true is true is_too = rw (is, is_too)
      by_child true is false is_too = rw (is, is_too) (ap not is_too)

  -- what stays of the record of a living process
  record Stays (before after : Record) : Type 0 where
    life : after.life ≡ before.life
    priority : after.priority ≡ before.priority

  orphaned-stays : (place : Option Record) → lives (orphaned p place) ≡ true → Stays (record_in place) (record_in (orphaned p place))
  orphaned-stays None living = record { life = refl; priority = refl }
  orphaned-stays (Some r) living = by_child (is_child p r) refl (has_ended r.life) refl
    where
      by_child : (child : Bool) → is_child p r ≡ child → (ended : Bool) → has_ended r.life ≡ ended → Stays r (record_in (orphaned p (Some r)))
      by_child false is ended is_too = rw is (record { life = refl; priority = refl })
      by_child true is true is_too = absurd (false≢true (sym (orphaned-lives (Some r) ∙ ap not is_too) ∙ living))
      by_child true is false is_too = rw (is, is_too) (record { life = refl; priority = refl })

module _ (records : List (Option Record)) (schedule : Schedule) (turns : AreTurns records schedule) (p status : ℕ) (alive : IsLiving records p) where
  own_place : record_of (after_exit records p status) p ≡ ended_record (record_at records p) status
  own_place = get_or-set_same {A = Option Record} (map (orphaned p) records) p (ended_record (record_at records p)
      status) None (omega (arith, length-map records (orphaned p), place-living records p alive))

  other_place : (q : ℕ) → (q ≡ p → ⊥) → record_of (after_exit records p status) q ≡ orphaned p (record_of records q)
  other_place q other =
      get_or-set_other {A = Option Record} (map (orphaned p) records) p q (ended_record (record_at records p) status) None other
      ∙ get_or-map (orphaned p) records q None

  gone : is_living (after_exit records p status) p ≡ false
  gone = ap lives own_place ∙ ended-lives (record_at records p) status

  not_gone : (q : ℕ) → IsLiving (after_exit records p status) q → q ≡ p → ⊥
  not_gone q living same = false≢true (sym gone ∙ subst (λ (n : ℕ). IsLiving (after_exit records p status) n) same living)

  lives_too : (q : ℕ) → (q ≡ p → ⊥) → is_living (after_exit records p status) q ≡ is_living records q
  lives_too q other = ap lives (other_place q other) ∙ orphaned-lives p (record_of records q)

  stays : (q : ℕ) → IsLiving (after_exit records p status) q → Stays p (record_at records q) (record_at (after_exit records p status) q)
  stays q living =
      let place = other_place q (not_gone q living) in
      subst (λ (at : Option Record). Stays p (record_at records q) (record_in at)) (sym place)
      (orphaned-stays p (record_of records q) (sym (ap lives place) ∙ living))

  member_left : (q : ℕ) → (q ≡ p → ⊥) → member_of (set schedule.members p None) q ≡ member_of schedule.members q
  member_left q other = get_or-set_other {A = Option Member} schedule.members p q None None other

  no_member : (members : List (Option Member)) (n : ℕ) → member_of (set members n None) n ≡ None
  no_member [] n = refl
  no_member (m ∷ members) zero = refl
  no_member (m ∷ members) (suc n) = no_member members n

  pub AreTurns-left : AreTurns (after_exit records p status) (after_remove schedule p)
  AreTurns-left = record {
    members = λ q. by_member q (cases_eq q p);
    priorities = λ q living.
        let other = not_gone q living in
        ap (λ (place : Option Member). (unwrap_or place (record { priority = 0; standing = Going })).priority) (member_left q other)
        ∙ turns.priorities q (sym (lives_too q other) ∙ living) ∙ sym (stays q living).priority;
    causes = λ q living.
        let other = not_gone q living in
        ap (λ (place : Option Member). is_some (wait_at place)) (member_left q other)
        ∙ turns.causes q (sym (lives_too q other) ∙ living) ∙ sym (ap is_waiting (stays q living).life);
  }
    where
      by_member : (q : ℕ) → (q ≡ p) ⊎ (q ≡ p → ⊥) → is_some (member_of (set schedule.members p None) q) ≡ is_living (after_exit records p status) q
      by_member q (inl same) = subst (λ (n : ℕ). is_some (member_of (set schedule.members p None) n) ≡ is_living
          (after_exit records p status) n) (sym same) (ap is_some (no_member schedule.members p) ∙ sym gone)
      by_member q (inr other) = ap is_some (member_left q other) ∙ turns.members q ∙ sym (lives_too q other)
