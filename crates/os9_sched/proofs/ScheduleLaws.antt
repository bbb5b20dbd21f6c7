-- Each process that is in the scheduler has one turn, after each call.
use Rattle.std.proofs.Common.{subst, replicate, ◌≡◌, ℕ, zero, suc, ◌<◌, ◌≤◌, ◌==◌, Bool, cond, Option, Some, None, is_some, IsSome, List, [], ◌∷◌, ◌++◌, map, length, get_or, set, refl, ap, sym, ◌∙◌, arith}
use Rattle.std.proofs.lemmas.List.{length-set, get_or_past, length_push, length-replicate}
use Rattle.std.proofs.lemmas.Bool.Decides.{nat_tests}
use Rattle.std.proofs.lemmas.Grind.{common_steps}
use Rattle.proc_model.specs.declared.turn.Turn.{Turn}
use Rattle.os9_base.specs.declared.registers.Pid.{Pid}
use Rattle.proc_model.specs.Turns.{aged, with_turn, without_turn, has_turn, AreOnce, ready_turns, eldest, after_choice}
use Rattle.os9_sched.specs.declared.member.Member.{Member}
use Rattle.os9_sched.specs.Members.{member_of, is_active_in, priority_in}
use Rattle.os9_sched.specs.Schedule.{Schedule, IsSchedule, after_dispatch}
use Rattle.os9_sched.specs.Dispatch.{grown_older, with_last}
use Rattle.proc_model.proofs.TurnLaws.{has_turn-push, has_turn-without, has_turn-aged, AreOnce-push, AreOnce-without, AreOnce-aged, without-aged, length-turns}

-- who is a member if one place is written
is_some-set : (members : List (Option Member)) (p q : ℕ) (place : Option Member) → p < length members
    → is_some (member_of (set members p place) q) ≡ cond (q == p) (is_some place) (is_some (member_of members q))
is_some-set members p q place within = grind (arith, nat_tests, common_steps)

-- a member stays one when what is kept of it changes
pub IsSchedule-kept : (order : List Turn) (members : List (Option Member)) (p : ℕ) (m : Member)
    → IsSome (member_of members p) → IsSchedule (record { order = order; members = members })
    → IsSchedule (record { order = order; members = set members p (Some m) })
IsSchedule-kept order members p m is s = record {
  places = length-set members p (Some m) ∙ s.places;
  same = λ q. grind (arith, nat_tests, common_steps, s.same q, s.same p, is_some-set members p q (Some m), get_or_past members p None);
  once = s.once;
}

-- a new member has the last turn
pub IsSchedule-added : (order more : List Turn) (members : List (Option Member)) (t : Turn) (m : Member)
    → more ≡ order ++ t ∷ [] → t.process.0 < 33 → member_of members t.process.0 ≡ None
    → IsSchedule (record { order = order; members = members })
    → IsSchedule (record { order = more; members = set members t.process.0 (Some m) })
IsSchedule-added order more members t m is within apart s = rw is (record {
  places = length-set members t.process.0 (Some m) ∙ s.places;
  same = λ q. grind (arith, nat_tests, s.same q, s.places, has_turn-push order t q, is_some-set members t.process.0 q (Some m));
  once = AreOnce-push order t (s.same t.process.0 ∙ ap is_some apart) s.once;
})

-- one that leaves has no turn any more
pub IsSchedule-removed : (order left : List Turn) (members : List (Option Member)) (p : ℕ)
    → left ≡ without_turn order p → IsSome (member_of members p)
    → IsSchedule (record { order = order; members = members })
    → IsSchedule (record { order = left; members = set members p None })
IsSchedule-removed order left members p is has s = rw is (record {
  places = length-set members p None ∙ s.places;
  same = λ q. grind (arith, nat_tests, s.same q, s.places, has_turn-without order p q, is_some-set members p q None, get_or_past members p None);
  once = AreOnce-without order p s.once;
})

-- the ages change nothing of it
pub IsSchedule-aged : (order older : List Turn) (members : List (Option Member)) (is_ready : ℕ → Bool) (priority : ℕ → ℕ)
    → older ≡ map (aged is_ready priority) order
    → IsSchedule (record { order = order; members = members })
    → IsSchedule (record { order = older; members = members })
IsSchedule-aged order older members is_ready priority is s = rw is (record {
  places = s.places;
  same = λ q. has_turn-aged is_ready priority order q ∙ s.same q;
  once = AreOnce-aged is_ready priority order s.once;
})

-- nor does it if a member has the last turn
pub IsSchedule-last : (order left more : List Turn) (members : List (Option Member)) (t : Turn)
    → left ≡ without_turn order t.process.0 → more ≡ left ++ t ∷ [] → IsSome (member_of members t.process.0)
    → IsSchedule (record { order = order; members = members })
    → IsSchedule (record { order = more; members = members })
IsSchedule-last order left more members t is_left is has s = rw (is, is_left) (record {
  places = s.places;
  same = λ q. grind (arith, nat_tests, s.same q, s.same t.process.0, has_turn-without order t.process.0 q, has_turn-push (without_turn order t.process.0) t q);
  once = AreOnce-push (without_turn order t.process.0) t (grind (arith, nat_tests, has_turn-without order t.process.0 t.process.0)) (AreOnce-without order t.process.0 s.once);
})

-- there are at most 33 turns
pub length-order : (order : List Turn) (members : List (Option Member)) → IsSchedule (record { order = order; members = members }) → length order ≤ 33
length-order order members s =
    length-turns 33 order s.once (λ p h. grind (arith, s.same p, s.places, get_or_past members p None))

-- so there is room for one turn more
pub room_for_one : (order : List Turn) (members : List (Option Member)) (t : Turn) (m : Member)
    → t.process.0 < 33 → member_of members t.process.0 ≡ None → IsSchedule (record { order = order; members = members })
    → length order < 33
room_for_one order members t m within apart s =
    let more : length (order ++ t ∷ []) ≤ 33 = length-order (order ++ t ∷ []) (set members t.process.0 (Some m)) (IsSchedule-added order (order ++ t ∷ []) members t m refl within apart s) in
    omega (arith, length_push order t)

pub room_for_last : (order left : List Turn) (members : List (Option Member)) (t : Turn)
    → left ≡ without_turn order t.process.0 → IsSome (member_of members t.process.0)
    → IsSchedule (record { order = order; members = members })
    → length left < 33
room_for_last order left members t is has s =
    let more : length (left ++ t ∷ []) ≤ 33 = length-order (left ++ t ∷ []) members (IsSchedule-last order left (left ++ t ∷ []) members t is refl has s) in
    omega (arith, length_push left t)

-- a scheduler without processes
same_everywhere : (place : Option Member) (n q : ℕ) → get_or (replicate n place) q place ≡ place
same_everywhere place zero q = refl
same_everywhere place (suc n) zero = refl
same_everywhere place (suc n) (suc q) = same_everywhere place n q

pub IsSchedule-empty : (order : List Turn) (members : List (Option Member)) → order ≡ [] → members ≡ replicate 33 None → IsSchedule (record { order = order; members = members })
IsSchedule-empty order members no_turn none = record {
  places = ap length none ∙ length-replicate {A = Option Member} 33 None;
  same = λ q. ap (λ (o : List Turn). has_turn o q) no_turn ∙ sym (ap (λ (ms : List (Option Member)). is_some (get_or ms q None)) none ∙ ap is_some (same_everywhere None 33 q));
  once = subst AreOnce (sym no_turn) tt;
}

-- the two steps of a dispatch are Choose over the active members
pub two_steps : (s grown last : Schedule) (p : Pid) → eldest (ready_turns (is_active_in s.members) s.order) ≡ Some p
    → grown ≡ grown_older s → last ≡ with_last grown p → last ≡ after_dispatch s
two_steps s grown last p is_chosen is_grown is_last =
    is_last ∙ ap (λ (g : Schedule). with_last g p) is_grown
    ∙ ap (λ (ts : List Turn). record s { order = with_turn ts p (priority_in s.members p.0) }) (without-aged (is_active_in s.members) (priority_in s.members) s.order p.0)
    ∙ ap (λ (o : Option Pid). record s { order = after_choice (is_active_in s.members) (priority_in s.members) s.order o }) (sym is_chosen)
