use Rattle.std.proofs.Common.{◌≡◌, ℕ, false, replicate, get_or, inl, inr}
use Rattle.std.proofs.lemmas.Bool.{cases_lt}
use Rattle.std.proofs.lemmas.List.{get_or-replicate, get_or_past}
use Rattle.proc_model.proofs.io_ready.IoReady.none.Goals as goal

nowhere : (p : ℕ) → get_or (replicate 33 false) p false ≡ false
nowhere p =
    elim (cases_lt p 33) [
      | inl within ↦ get_or-replicate 33 p false false within
      | inr past ↦ get_or_past (replicate 33 false) p false past
    ]

pub returns : goal.returns
returns c = λ i p. nowhere p i
