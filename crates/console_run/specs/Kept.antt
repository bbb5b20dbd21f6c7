-- What is kept of a session, as it is loaded (this project's own).
use Rattle.std.specs.Prelude.{◌≡◌, List, [], ◌∷◌}
use Rattle.boot_run.specs.Loaded.{keys_for, loaded}
use Rattle.script_text.specs.declared.script.ScriptKey.{ScriptKey}
use Rattle.run_laws.specs.Session.{Keys}
use Rattle.boot_run.specs.World.{World}
use Rattle.console_run.specs.declared.typed.Typed.{Typed}

-- these keys of TERM, as they are loaded
abbrev pub load_of : List ScriptKey → Keys
load_of keys = keys_for 0 keys ∷ []

-- the world before, if all these keys were loaded in it
abbrev pub with_typed : List ScriptKey → World → World
with_typed keys world =
    record world { devices = record { drives = world.devices.drives; terms = loaded keys world.devices.terms } }

-- the keys and the slices that are kept did not change
pub record IsKept (old new : Typed) : Type 0 where
  pub parts : new.parts.items ≡ old.parts.items
  pub slices : new.slices ≡ old.slices
