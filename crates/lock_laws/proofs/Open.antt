-- A file on which a path is open may not be deleted.
use Rattle.std.proofs.Common.{◌≡◌, ℕ, zero, suc, ◌==◌, ◌&&◌, Bool, true, false, None, List, [], ◌∷◌, get_or, refl, sym, ap, ◌∙◌}
use Rattle.std.specs.List.{list_any}
use Rattle.std.specs.Option.{option_map_or}
use Rattle.std.proofs.lemmas.Bool.{eq-eqb, false≢true, or_left, or_right}
use Rattle.lock_model.specs.declared.place.FilePlace.{FilePlace}
use Rattle.io_model.specs.declared.path.Target.{Target}
use Rattle.file_rules.specs.Files.{Files, place_of_target}
use Rattle.file_rules.specs.Sharing.{is_open, is_path_on, is_same_place}
use Rattle.lock_laws.specs.Contents.{IsPathOn}

any-at : {X : Type 0} (test : X → Bool) (xs : List X) (d : X) (i : ℕ) → test d ≡ false → test (get_or xs i d) ≡ true → list_any test xs ≡ true
any-at test [] d i free e = absurd (false≢true (sym free ∙ e))
any-at test (x ∷ xs) d zero free e = or_left (test x) (list_any test xs) e
any-at test (x ∷ xs) d (suc i) free e = or_right (test x) (list_any test xs) (any-at test xs d i free e)

pub path-opens : (files : Files) (path : ℕ) (place : FilePlace) → IsPathOn files.io.paths path place → is_open files (record { drive = place.drive; number = place.number }) ≡ true
path-opens files path place on =
    any-at (is_path_on there (λ desc. true)) files.io.paths.descs None path refl
    (ap (is_path_on there (λ desc. true)) on.there
    ∙ ap (λ (target : Target). option_map_or (is_same_place there) (place_of_target target) false && true) on.on
    ∙ ap (λ (b : Bool). b && (place.number == place.number) && true) (eq-eqb place.drive place.drive refl)
    ∙ ap (λ (b : Bool). b && true) (eq-eqb place.number place.number refl))
  where
    there : FilePlace
    there = record { drive = place.drive; number = place.number }
