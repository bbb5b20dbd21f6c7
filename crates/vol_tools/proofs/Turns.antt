-- Tools in turn.
use Rattle.std.proofs.Common.{◌≡◌, ℕ, Option, List, [], ◌∷◌, ◌++◌, sym, subst}
use Rattle.rbf_model.specs.Volume.{DiskVolume}
use Rattle.rbf_access.specs.Mounted.{RepresentsVolume}
use Rattle.rbf_walk.proofs.Stepping.{same_content}
use Rattle.vol_tools.specs.UsesInTurn.{Use, GivesInTurn, none, next}
use Rattle.vol_tools.specs.Answers.{GivesOn}
use Rattle.vol_tools.specs.InTurn.{LeavesInTurn}

pub one_use : (use_ : Use) (v : DiskVolume) (answer : List ℕ) (old new : Option (List ℕ)) → RepresentsVolume old v → GivesOn use_ v answer new → LeavesInTurn (use_ ∷ []) old new (answer ∷ [])
one_use use_ v answer old new on it = record { before = v; was = on; after = it.volume; is = it.on; gives = next it.gives none }

-- one list behind another
then_give : (one other : List Use) (u v w : DiskVolume) (first second : List (List ℕ)) → GivesInTurn one u v first → GivesInTurn other v w second → GivesInTurn (one ++ other) u w (first ++ second)
then_give [] other u v w first second none more = more
then_give (use_ ∷ uses) other u v w first second (next {use_ = a} {uses = b} {u = m} {answer = x} {answers = xs} gives rest) more = next gives (then_give uses other m v w xs second rest more)

pub lists_join : (one other : List Use) (old mid new : Option (List ℕ)) (first second : List (List ℕ)) → LeavesInTurn one old mid first → LeavesInTurn other mid new second
    → LeavesInTurn (one ++ other) old new (first ++ second)
lists_join one other old mid new first second a b =
    let same : b.before ≡ a.after = same_content mid b.before a.after b.was a.is in
    record {
      before = a.before;
      was = a.was;
      after = b.after;
      is = b.is;
      gives = then_give one other a.before a.after b.after first second a.gives (subst (λ v. GivesInTurn other v b.after second) same b.gives);
    }
