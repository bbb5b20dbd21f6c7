-- Tools that are used in turn.
use Rattle.std.specs.Prelude.{List, [], ◌∷◌, ℕ}
use Rattle.os9_base.specs.declared.registers.TimePacket.{TimePacket}
use Rattle.rbf_model.specs.Volume.{DiskVolume}
use Rattle.vol_tools.specs.Tool.{Tool, Gives}

-- a use of a tool at a time
pub record Use : Type 0 where
  pub tool : Tool
  pub now : TimePacket

-- the result of a list of them, and the answer of each
pub data GivesInTurn : List Use → DiskVolume → DiskVolume → List (List ℕ) → Type 0 where
  none : {v : DiskVolume} → GivesInTurn [] v v []
  next : {use_ : Use} {uses : List Use} {u v w : DiskVolume} {answer : List ℕ} {answers : List (List ℕ)}
      → Gives use_.tool use_.now v u answer → GivesInTurn uses u w answers
      → GivesInTurn (use_ ∷ uses) v w (answer ∷ answers)
