-- The counts of a drive over calls that follow one another.
use Rattle.std.proofs.Common.{◌≡◌, ℕ, ◌+◌, ◌≤◌, Option, Some, None, IfSome, IfNone, refl, subst, ◌∙◌, arith}
use Rattle.os9_base.specs.Count.{Rose}
use Rattle.rbf_access.specs.Drive.{DriveCounts, MovesCounts, AccessesMade}

-- nothing was done
pub no_calls : (s : DriveCounts) → MovesCounts None 0 s s
no_calls s = record { calls_made = omega arith; never_falls = omega arith; rose = tt; number = tt; kept = refl; last_kept = refl }

rose_later : (f : Option ℕ) (before mid now : ℕ) → mid ≡ before → IfSome f (λ n. Rose mid now) → IfSome f (λ n. Rose before now)
rose_later None before mid now same rose = tt
rose_later (Some n) before mid now same rose = subst (λ k. Rose k now) same rose

kept_later : {A : Type 0} (f : Option ℕ) (before mid now : A) → mid ≡ before → IfNone f (now ≡ mid) → IfNone f (now ≡ before)
kept_later None before mid now same kept = kept ∙ same
kept_later (Some n) before mid now same kept = tt

-- calls without a fault, and then calls that a fault may end
pub counts_then : (f : Option ℕ) (a b : ℕ) (s t u : DriveCounts) → MovesCounts None a s t → MovesCounts f b t u → MovesCounts f (a + b) s u
counts_then f a b s t u one other =
    let first = one.calls_made in
    let second = other.calls_made in
    let falls = other.never_falls in
    let kept : t.faults ≡ s.faults = one.kept in
    record {
      calls_made = omega arith;
      never_falls = omega arith;
      rose = rose_later f s.faults t.faults u.faults kept other.rose;
      number = other.number;
      kept = kept_later f s.faults t.faults u.faults kept other.kept;
      last_kept = kept_later f s.last t.last u.last one.last_kept other.last_kept;
    }

-- a bound may be larger
pub counts_most : (f : Option ℕ) (a b : ℕ) (s t : DriveCounts) → a ≤ b → MovesCounts f a s t → MovesCounts f b s t
counts_most f a b s t more one =
    let first = one.calls_made in
    record { calls_made = omega arith; never_falls = one.never_falls; rose = one.rose; number = one.number; kept = one.kept; last_kept = one.last_kept }

-- the calls are fewer than a first bound says
pub counts_within : (f : Option ℕ) (a b : ℕ) (s t : DriveCounts) → t.calls ≤ s.calls + b → MovesCounts f a s t → MovesCounts f b s t
counts_within f a b s t few one = record { calls_made = few; never_falls = one.never_falls; rose = one.rose; number = one.number; kept = one.kept; last_kept = one.last_kept }

pub made_then : (a b s t u : ℕ) → AccessesMade a s t → AccessesMade b t u → AccessesMade (a + b) s u
made_then a b s t u one other = omega arith
