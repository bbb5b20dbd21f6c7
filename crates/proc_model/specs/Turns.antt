-- The order of choice: the turns of the living processes, the one chosen longest ago first (Level
-- Two manual, process scheduling; the exact rule of ages is this project's own).
use Rattle.std.specs.Prelude.{◌≡◌, ℕ, zero, suc, ◌+◌, ◌<◌, ◌≤◌, ◌==◌, not, min, max, Bool, true, false, Option, Some, None, option_map, List, [], ◌∷◌, ◌++◌, map, if◌then◌else◌}
use Rattle.std.specs.List.{filter, find, fold, list_any, AllByRecursion}
use Rattle.os9_base.specs.declared.registers.Pid.{Pid}
use Rattle.proc_model.specs.declared.turn.Turn.{Turn}

-- the order without a process
abbrev pub without_turn : List Turn → ℕ → List Turn
without_turn order p = filter (λ t. not (t.process.0 == p)) order

-- the order with a process that counts as chosen now, and whose age is its priority
abbrev pub with_turn : List Turn → Pid → ℕ → List Turn
with_turn order p priority = order ++ record { process = p; age = priority } ∷ []

-- the turns of the Ready processes
abbrev pub ready_turns : (ℕ → Bool) → List Turn → List Turn
ready_turns is_ready order = filter (λ t. is_ready t.process.0) order

-- the greatest age in these turns
abbrev pub greatest_age : List Turn → ℕ
greatest_age turns = fold (λ most t. max most t.age) 0 turns

-- the first process of greatest age in these turns
abbrev pub eldest : List Turn → Option Pid
eldest turns = option_map (λ t. t.process) (find (λ t. t.age == greatest_age turns) turns)

-- the turn of a process that is not chosen: its age grows by 1 up to 255 if it is Ready, and otherwise is its priority
abbrev pub aged : (ℕ → Bool) → (ℕ → ℕ) → Turn → Turn
aged is_ready priority t = record t { age = if is_ready t.process.0 then min 255 (t.age + 1) else priority t.process.0 }

-- the order after this process was chosen, or nobody
abbrev pub after_choice : (ℕ → Bool) → (ℕ → ℕ) → List Turn → Option Pid → List Turn
after_choice is_ready priority order None = map (aged is_ready priority) order
after_choice is_ready priority order (Some p) =
    with_turn (map (aged is_ready priority) (without_turn order p.0)) p (priority p.0)

-- a choice: the chosen process, if there is one, and the order afterwards
pub record Choice : Type 0 where
  pub chosen : Option Pid
  pub order : List Turn

-- Choose: the Ready process of greatest age, among equals the one chosen longest ago
abbrev pub choose : (ℕ → Bool) → (ℕ → ℕ) → List Turn → Choice
choose is_ready priority order = record {
  chosen = eldest (ready_turns is_ready order);
  order = after_choice is_ready priority order (eldest (ready_turns is_ready order));
}

-- a process has a turn
abbrev pub has_turn : List Turn → ℕ → Bool
has_turn order p = list_any (λ t. t.process.0 == p) order

-- no process has two turns
abbrev pub AreOnce : List Turn → Type 0
AreOnce [] = Unit {0}
AreOnce (t ∷ order) = (has_turn order t.process.0 ≡ false) × AreOnce order

-- the age of a process, if it has a turn
abbrev pub age_in : List Turn → ℕ → Option ℕ
age_in order p = option_map (λ t. t.age) (find (λ t. t.process.0 == p) order)

-- a process is the one to choose: it is Ready, no Ready process is older, and each Ready one that was chosen longer
-- ago is younger
pub record IsToChoose (is_ready : ℕ → Bool) (order : List Turn) (p : Pid) : Type 0 where
  pub before : List Turn
  pub turn : Turn
  pub after : List Turn
  pub stands : order ≡ before ++ turn ∷ after
  pub is_process : turn.process ≡ p
  pub ready : is_ready p.0 ≡ true
  pub none_older : AllByRecursion (λ q. is_ready q.process.0 ≡ true → q.age ≤ turn.age) order
  pub younger_before : AllByRecursion (λ q. is_ready q.process.0 ≡ true → q.age < turn.age) before

-- no process in the order is Ready
abbrev pub NobodyReady : (ℕ → Bool) → List Turn → Type 0
NobodyReady is_ready order = AllByRecursion (λ q. is_ready q.process.0 ≡ false) order

-- the chosen processes of this number of choices in a row, each with the same readiness and priorities
abbrev pub choices : (ℕ → Bool) → (ℕ → ℕ) → ℕ → List Turn → List (Option Pid)
choices is_ready priority zero order = []
choices is_ready priority (suc n) order =
    (choose is_ready priority order).chosen ∷ choices is_ready priority n (choose is_ready priority order).order

-- the order after this number of choices
abbrev pub after_choices : (ℕ → Bool) → (ℕ → ℕ) → ℕ → List Turn → List Turn
after_choices is_ready priority zero order = order
after_choices is_ready priority (suc n) order = after_choices is_ready priority n (choose is_ready priority order).order

-- processes 2 and 3 with these priorities, made in this order
abbrev pub two_priorities : ℕ → ℕ → ℕ → ℕ
two_priorities first second p = if p == 2 then first else second

abbrev pub two_turns : ℕ → ℕ → List Turn
two_turns first second = with_turn (with_turn [] (record { 0 = 2 }) first) (record { 0 = 3 }) second
