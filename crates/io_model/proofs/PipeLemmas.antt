-- What goes through a pipe, movement by movement.
use Rattle.std.proofs.Common.{◌≡◌, ℕ, List, [], ◌∷◌, ◌++◌, sym, ap, ◌∙◌, append_assoc, append-nil}
use Rattle.std.specs.List.{flat_map}
use Rattle.io_model.specs.Pipe.{Movement, In, Out, came_in, went_out, Moves, Flows}

-- one movement before others
moves-flow : (movement : Movement) (held between now come gone : List ℕ) → Moves movement held between
    → between ++ come ≡ gone ++ now → held ++ (came_in movement ++ come) ≡ (went_out movement ++ gone) ++ now
moves-flow (In bytes) held between now come gone e h = sym (append_assoc held bytes come) ∙ ap (λ (b : List ℕ). b ++ come) (sym e) ∙ h
moves-flow (Out bytes) held between now come gone e h =
    ap (λ (b : List ℕ). b ++ come) e ∙ append_assoc bytes between come ∙ ap (λ (b : List ℕ). bytes ++ b) h ∙ sym (append_assoc bytes gone now)

-- all movements
pub flows-in_order : (movements : List Movement) (held now : List ℕ) → Flows movements held now → held ++ flat_map came_in movements ≡ flat_map went_out movements ++ now
flows-in_order [] held now e = append-nil held ∙ sym e
flows-in_order (movement ∷ movements) held now (between, one, rest) =
    moves-flow movement held between now (flat_map came_in movements) (flat_map went_out movements) one (flows-in_order movements between now rest)
