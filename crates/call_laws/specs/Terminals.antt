-- Terminals that paths are open on (Level Two manual, "I/O system").
use Rattle.std.specs.Prelude.{◌≡◌, ℕ, ◌<◌, Some}
use Rattle.io_model.specs.Path.{PathTable, desc_of}
use Rattle.io_model.specs.Terminal.{Terminal}
use Rattle.io_model.specs.declared.path.Desc.{Desc}
use Rattle.io_model.specs.declared.path.Target.TheVariants.{Term}

-- a terminal's keys, line and unfinished read are unchanged; its last user may change
abbrev pub KeepsReading : Terminal → Terminal → Type 0
KeepsReading old new = new ≡ record old { user = new.user }

-- the terminal of each open path is one of these
abbrev pub AreOnTerminals : ℕ → PathTable → Type 0
AreOnTerminals terms paths =
    (path n : ℕ) (desc : Desc) → desc_of paths path ≡ Some desc → desc.target ≡ Term n → n < terms
