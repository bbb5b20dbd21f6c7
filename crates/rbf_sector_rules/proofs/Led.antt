-- Positions that are still to be read, and where their places lead.
use Rattle.std.proofs.Common.{◌≡◌, ◌≢◌, ◌⊎◌, ℕ, ◌<◌, ◌≤◌, List, length, get_or, set, refl, ap, ◌∙◌, inl, inr, ⊎_elim, arith}
use Rattle.std.proofs.lemmas.Bool.{cases_lt, cases_eq}
use Rattle.std.proofs.lemmas.List.{get_or-set_same, get_or-set_other, get_or_read, length-set}
use Rattle.rbf_sector_rules.specs.Unread.{LeadsOn, AreOrdered}

-- a place that leads further
module _ (next : List ℕ) (e later : ℕ) (low : e < length next) (further : e < later) where
  at_place : (f : ℕ) → f ≡ e → get_or (set next e later) f 0 ≡ later
  at_place f same = ap (λ k. get_or (set next e later) k 0) same ∙ get_or-set_same next e later 0 low

  elsewhere : (f : ℕ) → f ≢ e → get_or (set next e later) f 0 ≡ get_or next f 0
  elsewhere f apart = get_or-set_other next e f later 0 apart

  pub leads_there : LeadsOn (set next e later) e
  leads_there = omega (arith, at_place e refl)

  pub leads_still : (t : ℕ) → LeadsOn next t → LeadsOn (set next e later) t
  leads_still t h = ⊎_elim
      (λ same. omega (arith, at_place t same))
      (λ apart. omega (arith, h, elsewhere t apart))
      (cases_eq t e)

  pub leads_only : (t : ℕ) → LeadsOn (set next e later) t → LeadsOn next t ⊎ (t ≡ e)
  leads_only t h = ⊎_elim
      (λ same. inr same)
      (λ apart. inl (omega (arith, h, elsewhere t apart)))
      (cases_eq t e)

  leads_over : AreOrdered next → ((t : ℕ) → e < t → t < later → LeadsOn next t) → (from t : ℕ) → from ≤ t → t < get_or (set next e later) from 0 → LeadsOn (set next e later) t
  leads_over ordered passed from t after before = ⊎_elim
      (λ same. ⊎_elim
      (λ here. omega (arith, at_place t here))
      (λ apart. let beyond : e < t = let differ : t ≡ e → ⊥ = apart in omega arith in leads_still t (passed t beyond (omega (arith, before, at_place from same))))
      (cases_eq t e))
      (λ apart. leads_still t (ordered.over from t after (omega (arith, before, elsewhere from apart))))
      (cases_eq from e)

  pub ordered_set : AreOrdered next → later < length next → ((t : ℕ) → e < t → t < later → LeadsOn next t) → AreOrdered (set next e later)
  ordered_set ordered within passed = record {
    after = λ f inside. ⊎_elim
        (λ same. omega (arith, at_place f same))
        (λ apart. omega (arith, ordered.after f (omega (arith, length-set next e later)), elsewhere f apart))
        (cases_eq f e);
    within = λ f inside. ⊎_elim
        (λ same. omega (arith, at_place f same, length-set next e later))
        (λ apart. omega (arith, ordered.within f (omega (arith, length-set next e later)), elsewhere f apart, length-set next e later))
        (cases_eq f e);
    over = leads_over ordered passed;
  }

-- places on the way from one to another have been led further
pub record IsLed (old new : List ℕ) (from e : ℕ) : Type 0 where
  pub size : length new ≡ length old
  pub ordered : AreOrdered new
  pub only : (t : ℕ) → LeadsOn new t → LeadsOn old t
  pub still : (t : ℕ) → LeadsOn old t → LeadsOn new t
  pub after : from ≤ e
  pub within : e < length old
  pub passed : (t : ℕ) → from ≤ t → t < e → LeadsOn old t

pub led_none : (next : List ℕ) (from : ℕ) → AreOrdered next → from < length next → IsLed next next from from
led_none next from ordered low = record {
  size = refl;
  ordered = ordered;
  only = λ t h. h;
  still = λ t h. h;
  after = omega arith;
  within = low;
  passed = λ t above below. absurd (omega arith);
}

-- one place more, which is read by two steps, and which leads on
module _ (old cur : List ℕ) (from e here next later : ℕ) (before : IsLed old cur from e)
    (is : here ≡ get_or cur e here) (apart : here ≢ e) (to : next ≡ get_or cur e next) (on : later ≡ get_or cur next
    later) where
  low : e < length cur
  low = let size = before.size in let within = before.within in omega arith

  here_is : here ≡ get_or cur e 0
  here_is = get_or_read cur e here low is 0

  next_is : next ≡ get_or cur e 0
  next_is = get_or_read cur e next low to 0

  one_step : (e < next) × (next < length cur)
  one_step =
      let differ : here ≡ e → ⊥ = apart in
      (omega (arith, before.ordered.after e low, here_is, next_is), omega (arith, before.ordered.within e low, next_is))

  later_is : later ≡ get_or cur next 0
  later_is = get_or_read cur next later one_step.1 on 0

  two_steps : (next ≤ later) × (later < length cur)
  two_steps = (
    omega (arith, before.ordered.after next one_step.1, later_is),
    omega (arith, before.ordered.within next one_step.1, later_is),
  )

  -- it is further
  pub led_further : e < later
  led_further = omega (arith, one_step.0, two_steps.0)

  passed_here : (t : ℕ) → e ≤ t → t < later → LeadsOn cur t
  passed_here t after below = ⊎_elim
      (λ near. before.ordered.over e t after (omega (arith, next_is)))
      (λ far. before.ordered.over next t far (omega (arith, later_is)))
      (cases_lt t next)

  pub led_more : IsLed old (set cur e later) from later
  led_more = record {
    size = length-set cur e later ∙ before.size;
    ordered = ordered_set cur e later low led_further before.ordered two_steps.1 (λ t after below. passed_here t (omega arith) below);
    only = λ t h. ⊎_elim
        (λ kept. before.only t kept)
        (λ at. before.only t (passed_here t (omega arith) (omega (arith, led_further))))
        (leads_only cur e later low led_further t h);
    still = λ t h. leads_still cur e later low led_further t (before.still t h);
    after = omega (arith, before.after, led_further);
    within = omega (arith, two_steps.1, before.size);
    passed = λ t start below. ⊎_elim
        (λ earlier. before.passed t start earlier)
        (λ beyond. before.only t (passed_here t beyond below))
        (cases_lt t e);
  }
