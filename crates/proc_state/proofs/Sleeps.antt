-- The ends of sleeps, when modules leave memory, where a process ends, and where there are none.
use Rattle.std.proofs.Common.{◌≡◌, ℕ, ◌+◌, ◌<◌, ◌≤◌, Option, None, List, set, replicate, length, map, get_or, sym, ap, ◌∙◌, arith}
use Rattle.std.proofs.lemmas.List.{length-map, get_or-map}
use Rattle.std.proofs.lemmas.List.Elements.{All-set, All-replicate}
use Rattle.std.proofs.lemmas.Option.{none-some}
use Rattle.std.specs.Option.{ForSome}
use Rattle.proc_model.specs.ModuleList.{ModuleEntry}
use Rattle.proc_model.specs.declared.own.Own.{Own}
use Rattle.proc_model.specs.Processes.{no_own}
use Rattle.proc_model.specs.ModuleLinks.{still_primary}
use Rattle.proc_state.specs.Sound.{AreSleeps}

-- no sleep ends later than it did
pub AreSleeps-still : (entries : List (Option ModuleEntry)) (owns : List Own) (tick : ℕ)
    → AreSleeps owns tick → AreSleeps (map (still_primary entries) owns) tick
AreSleeps-still entries owns tick sleeps = λ k d inside until is.
    let within : k < length owns = omega (arith, length-map owns (still_primary entries)) in
    let at : get_or (map (still_primary entries) owns) k d ≡ still_primary entries (get_or owns k d) = get_or-map (still_primary entries) owns k d d within in
    sleeps k d within until (sym (ap (λ (o : Own). o.until) at) ∙ is)

-- a process that sleeps no more
pub AreSleeps-none : (owns : List Own) (tick p : ℕ) (new : Own) → new.until ≡ None → AreSleeps owns tick → AreSleeps (set owns p new) tick
AreSleeps-none owns tick p new none sleeps =
    All-set (λ (own : Own). ForSome own.until (λ until. until ≤ tick + 65535)) owns p new (λ until is. absurd (none-some until (sym none ∙ is))) sleeps

-- nobody sleeps
pub AreSleeps-first : (tick : ℕ) → AreSleeps (replicate 33 no_own) tick
AreSleeps-first tick =
    All-replicate (λ (own : Own). ForSome own.until (λ until. until ≤ tick + 65535)) 33 no_own (λ until is. absurd (none-some until is))
