use Rattle.std.proofs.Common.{◌≤◌, [], ◌∷◌, refl, arith}
use Rattle.std.proofs.lemmas.List.Elements.{All-nil, All-cons}
use Rattle.os9_outer.specs.declared.terminal.Key.{Key}
use Rattle.io_model.proofs.terminal.key_fault.Goals as goal

pub returns-clause-first : goal.returns-clause-first
returns-clause-first c = record {
  taken = [];
  bells = 0;
  mute = 0;
  broken = 1;
  once = omega arith;
  in_order = refl;
  due = All-nil (λ (key : Key). key.tick ≤ 1);
  kept = refl;
  signal = refl;
  put = refl;
  faults = record { rose = omega arith; never_falls = omega arith; stood = λ none. absurd (omega arith) };
  every_bell = λ memory. refl;
  last_bell = λ memory. absurd cc;
  all_taken = λ memory unbroken. absurd (omega arith);
  unbroken = λ memory. absurd cc;
}

pub returns-clause-second : goal.returns-clause-second
returns-clause-second c =
    let key : Key = record { tick = 1; byte = 97 } in
    record {
      taken = key ∷ [];
      bells = 0;
      mute = 0;
      broken = 0;
      once = omega arith;
      in_order = refl;
      due = All-cons (λ (key : Key). key.tick ≤ 2) key [] (omega arith) (All-nil (λ (key : Key). key.tick ≤ 2));
      kept = refl;
      signal = refl;
      put = refl;
      faults = record { rose = omega arith; never_falls = omega arith; stood = λ none. refl };
      every_bell = λ memory. refl;
      last_bell = λ memory. absurd cc;
      all_taken = λ memory unbroken. refl;
      unbroken = λ memory. absurd cc;
    }
