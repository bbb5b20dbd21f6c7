-- The answer of a tool that has no bytes.
use Rattle.std.proofs.Common.{◌≡◌, ℕ, Option, List, [], Result, Ok, Err, OnOk, refl, sym, subst}
use Rattle.rbf_access.specs.Drive.{DriveCounts}
use Rattle.rbf_model.specs.Volume.{DiskVolume}
use Rattle.vol_tools.specs.UsesInTurn.{Use}
use Rattle.vol_tools.specs.Answers.{AnswersTool, GivesOn, OnVolumeBefore}
use Rattle.vol_tools.specs.Faults.{MovesFaults, tool_fault}
use Rattle.vol_tools.specs.declared.fault.ToolFault.{ToolFault}
use Rattle.vol_tools.specs.declared.fault.ToolFault.TheVariants.{Number, Device, OutOfMemory}
use Rattle.vol_tools.specs.Uses.{AnswersNoBytes}

fault-so : (A B : Type 0) (bytes : B → List ℕ) (use_ : Use) (v : DiskVolume) (old new : Option (List ℕ))
    (fault : ToolFault) → AnswersTool {A = A} use_ (λ _. []) v old new (Err fault) → AnswersTool {A = B} use_ bytes v
    old new (Err fault)
fault-so A B bytes use_ v old new (Number n) answers = answers
fault-so A B bytes use_ v old new (Device n) answers = answers
fault-so A B bytes use_ v old new OutOfMemory answers = answers

answers-so : (A B : Type 0) (bytes : B → List ℕ) (use_ : Use) (v : DiskVolume) (old new : Option (List ℕ))
    (done : Result A ToolFault) (answer : Result B ToolFault) → AnswersNoBytes bytes done answer
    → AnswersTool use_ (λ _. []) v old new done → AnswersTool use_ bytes v old new answer
answers-so A B bytes use_ v old new (Ok value) (Ok answer) same answers = subst (λ bytes. GivesOn use_ v bytes new) (sym same) answers
answers-so A B bytes use_ v old new (Ok value) (Err fault) same answers = absurd same
answers-so A B bytes use_ v old new (Err fault) (Ok answer) same answers = absurd same
answers-so A B bytes use_ v old new (Err fault) (Err other) same answers =
    subst (λ fault. AnswersTool {A = B} use_ bytes v old new (Err fault)) (sym same) (fault-so A B bytes use_ v old new fault answers)

pub on-volume-so : (A B : Type 0) (bytes : B → List ℕ) (use_ : Use) (old new : Option (List ℕ))
    (done : Result A ToolFault) (answer : Result B ToolFault) → AnswersNoBytes bytes done answer → OnVolumeBefore use_
    (λ _. []) old new done → OnVolumeBefore use_ bytes old new answer
on-volume-so A B bytes use_ old new done answer same answers = λ v on. answers-so A B bytes use_ v old new done answer same (answers v on)

-- what holds if it is done
pub ok-so : (A B : Type 0) (bytes : B → List ℕ) (done : Result A ToolFault) (answer : Result B ToolFault) (fact : Type 0) → AnswersNoBytes bytes done answer → OnOk done fact → OnOk answer fact
ok-so A B bytes (Ok value) (Ok answer) fact same holds = holds
ok-so A B bytes (Ok value) (Err fault) fact same holds = tt
ok-so A B bytes (Err fault) (Ok answer) fact same holds = absurd same
ok-so A B bytes (Err fault) (Err other) fact same holds = tt

pub ok-then : {A E : Type 0} (answer : Result A E) (one other : Type 0) → (one → other) → OnOk answer one → OnOk answer other
ok-then (Ok value) one other follows holds = follows holds
ok-then (Err fault) one other follows holds = tt

pub on-ok : {A E : Type 0} (answer : Result A E) (fact : Type 0) → fact → OnOk answer fact
on-ok (Ok value) fact holds = holds
on-ok (Err fault) fact holds = tt

same-fault : (A B : Type 0) (fault : ToolFault) → tool_fault {A = A} (Err fault) ≡ tool_fault {A = B} (Err fault)
same-fault A B (Number n) = refl
same-fault A B (Device n) = refl
same-fault A B OutOfMemory = refl

pub faults-so : (A B : Type 0) (bytes : B → List ℕ) (done : Result A ToolFault) (answer : Result B ToolFault)
    → AnswersNoBytes bytes done answer → (s t : DriveCounts) → MovesFaults (tool_fault done) s t
    → MovesFaults (tool_fault answer) s t
faults-so A B bytes (Ok value) (Ok answer) same s t moves = moves
faults-so A B bytes (Ok value) (Err fault) same s t moves = absurd same
faults-so A B bytes (Err fault) (Ok answer) same s t moves = absurd same
faults-so A B bytes (Err fault) (Err other) same s t moves =
    subst (λ fault. MovesFaults (tool_fault {A = B} (Err fault)) s t) (sym same) (subst (λ f. MovesFaults f s t) (same-fault A B fault) moves)
