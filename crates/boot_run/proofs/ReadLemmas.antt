-- The names of files that are read, one part of a call after another.
use Rattle.std.proofs.Common.{◌≡◌, ◌⊎◌, ℕ, zero, suc, Option, Some, None, Ok, Err, List, [], ◌∷◌, ◌++◌, length, take, drop, slice_get, refl, sym, ap, subst, ◌∙◌, inl, inr, append_assoc, append-nil, take-append-drop, arith}
use Rattle.std.specs.Option.{option_map_or}
use Rattle.std.specs.Prelude.{Result, OnOk, IfErr}
use Rattle.os9_words.specs.Notes.{HasReadFiles, HasWritten, Notes, having_read}
use Rattle.os9_words.specs.declared.command.RunWords.{RunWords}
use Rattle.boot_run.specs.World.{World}
use Rattle.boot_run.specs.declared.status.End.{End}
use Rattle.boot_run.specs.declared.status.End.TheVariants.{CannotRead, NoMemory}
use Rattle.boot_run.specs.declared.status.Input.{Input}
use Rattle.boot_run.specs.declared.status.Input.TheVariants.{Script}
use Rattle.boot_run.specs.End.{run_file_name}
use Rattle.boot_run.specs.FileNames.{script_names}
use Rattle.boot_run.specs.Stops.{NotesStop, StopsAtRead, StopsReads}

-- ---- what is left

-- the reads that stopped began in the world of before
pub stops-after : (name_of : Input → Option (List ℕ)) (before between after : World) (end : End) → between ≡ before → StopsAtRead name_of between after end → StopsAtRead name_of before after end
stops-after name_of before between after end same stops =
    subst (λ world. StopsAtRead name_of world after end) same stops

-- ---- notes

abbrev pub with_names : Notes → (read written : List (List ℕ)) → Notes
with_names notes read written = record { read = read; written = written; err = notes.err; err_faults = notes.err_faults }

-- these files were read, and then those
pub read-then : (a b : List (List ℕ)) (first mid next : Notes) → HasReadFiles a first mid → HasReadFiles b mid next → HasReadFiles (a ++ b) first next
read-then a b first mid next one two = record {
  is = two.is ∙ ap (λ (notes : Notes). having_read b notes) one.is ∙ ap (λ names. with_names first names first.written) (append_assoc first.read a b);
}

-- none was read
pub read-none : (notes : Notes) → HasReadFiles [] notes notes
read-none notes = record { is = ap (λ names. with_names notes names notes.written) (sym (append-nil notes.read)) }

-- none was written
pub written-none : (notes : Notes) → HasWritten [] notes notes
written-none notes = record { is = ap (λ names. with_names notes notes.read names) (sym (append-nil notes.written)) }

-- the file of this name was read
pub noted-read : (name : List ℕ) (before after : Notes) → after.read ≡ before.read ++ name ∷ []
    → after.written ≡ before.written → after.err ≡ before.err → after.err_faults ≡ before.err_faults
    → HasReadFiles (name ∷ []) before after
noted-read name before after read written err err_faults =
    record { is = λ i. record { read = read i; written = written i; err = err i; err_faults = err_faults i } }

-- ---- reads that stop

module _ (name_of : Input → Option (List ℕ)) (first mid next : Notes) where
  -- files of other names were read before
  pub stop-behind : (a b : List (List ℕ)) (end : End) → HasReadFiles a first mid → NotesStop name_of b end mid next → NotesStop name_of (a ++ b) end first next
  stop-behind a b end one stopped = record {
    read = a ++ stopped.read;
    stops = by end stopped.read stopped.stops;
    noted = read-then a stopped.read first mid next one stopped.noted;
  }
    where
      by : (end : End) (read : List (List ℕ)) → StopsReads name_of b end read → StopsReads name_of (a ++ b) end (a ++ read)
      by (CannotRead input) read (name, named, up_to) = (
        name,
        named,
        record {
          earlier = a ++ up_to.earlier;
          later = up_to.later;
          whole = ap (λ names. a ++ names) up_to.whole ∙ sym (append_assoc a up_to.earlier (name ∷ up_to.later));
          is = ap (λ names. a ++ names) up_to.is ∙ sym (append_assoc a up_to.earlier (name ∷ []));
        },
      )
      by NoMemory read (rest, whole) = (rest, ap (λ names. a ++ names) whole ∙ sym (append_assoc a read rest))
      by end read stops = absurd stops

module _ (name_of : Input → Option (List ℕ)) (first next : Notes) where
  -- files of other names were to be read behind them
  pub stop-before : (a b : List (List ℕ)) (end : End) → NotesStop name_of a end first next → NotesStop name_of (a ++ b) end first next
  stop-before a b end stopped =
      record { read = stopped.read; stops = by end stopped.read stopped.stops; noted = stopped.noted }
    where
      by : (end : End) (read : List (List ℕ)) → StopsReads name_of a end read → StopsReads name_of (a ++ b) end read
      by (CannotRead input) read (name, named, up_to) = (
        name,
        named,
        record {
          earlier = up_to.earlier;
          later = up_to.later ++ b;
          whole = ap (λ names. names ++ b) up_to.whole ∙ append_assoc up_to.earlier (name ∷ up_to.later) b;
          is = up_to.is;
        },
      )
      by NoMemory read (rest, whole) = (rest ++ b, ap (λ names. names ++ b) whole ∙ append_assoc read rest b)
      by end read stops = absurd stops

  -- the only file
  pub stop-failed : (input : Input) (name : List ℕ) → name_of input ≡ Some name → HasReadFiles (name ∷ []) first next → NotesStop name_of (name ∷ []) (CannotRead input) first next
  stop-failed input name named noted = record {
    read = name ∷ [];
    stops = (name, named, record { earlier = []; later = []; whole = refl; is = refl });
    noted = noted;
  }

  pub stop-memory : (name : List ℕ) → (next.read ≡ first.read) ⊎ (next.read ≡ first.read ++ name ∷ [])
      → next.written ≡ first.written → next.err ≡ first.err → next.err_faults ≡ first.err_faults → NotesStop name_of
      (name ∷ []) NoMemory first next
  stop-memory name (inl read) written err err_faults =
      let same : next ≡ first = λ i. record { read = read i; written = written i; err = err i; err_faults = err_faults i } in
      record { read = []; stops = (name ∷ [], refl); noted = record { is = same ∙ (read-none first).is } }
  stop-memory name (inr read) written err err_faults = record {
    read = name ∷ [];
    stops = ([], refl);
    noted = noted-read name first next read written err err_faults;
  }

-- ---- the images

take-suc : (n : ℕ) (names : List (List ℕ)) (name : List ℕ) → slice_get names n ≡ Some name → take (suc n) names ≡ take n names ++ name ∷ []
take-suc n [] name named = absurd (cc named)
take-suc zero (first ∷ names) name named = let same : first ≡ name = cc named in rw same refl
take-suc (suc n) (first ∷ names) name named = ap (λ rest. first ∷ rest) (take-suc n names name named)

module _ (n : ℕ) (names : List (List ℕ)) (name : List ℕ) (named : slice_get names n ≡ Some name) where
  -- the names are those before one, that one and those behind it
  parts-at : names ≡ (take n names ++ name ∷ []) ++ drop (suc n) names
  parts-at = sym (take-append-drop (suc n) names) ∙ ap (λ front. front ++ drop (suc n) names) (take-suc n names name named)

  pub read-one : (first mid next : Notes) → HasReadFiles (take n names) first mid → HasReadFiles (name ∷ []) mid next → HasReadFiles (take (suc n) names) first next
  read-one first mid next one two =
      subst (λ front. HasReadFiles front first next) (sym (take-suc n names name named)) (read-then (take n names) (name ∷ []) first mid next one two)

  -- one of them could not be read
  pub stop-at : (name_of : Input → Option (List ℕ)) (end : End) (first mid next : Notes) → HasReadFiles (take n names)
      first mid → NotesStop name_of (name ∷ []) end mid next → NotesStop name_of names end first next
  stop-at name_of end first mid next one stopped =
      subst (λ names. NotesStop name_of names end first next) (sym parts-at) (stop-before name_of first next
      (take n names ++ name ∷ []) (drop (suc n) names) end (stop-behind name_of first mid next (take n names)
      (name ∷ []) end one stopped))

  -- memory was out behind the read of one of them
  pub stop-behind-read : (name_of : Input → Option (List ℕ)) (first mid next : Notes) → HasReadFiles (take n names)
      first mid → HasReadFiles (name ∷ []) mid next → NotesStop name_of names NoMemory first next
  stop-behind-read name_of first mid next one two = record {
    read = take n names ++ name ∷ [];
    stops = (drop (suc n) names, parts-at);
    noted = read-then (take n names) (name ∷ []) first mid next one two;
  }

-- the modules are the only file
pub only-one : (names : List (List ℕ)) (name : List ℕ) → length names ≡ 1 → slice_get names 0 ≡ Some name → names ≡ name ∷ []
only-one [] name one named = absurd (cc one)
only-one (first ∷ []) name one named = let same : first ≡ name = cc named in rw same refl
only-one (first ∷ (second ∷ names)) name one named = absurd (omega (arith, one))

module _ (name_of : Input → Option (List ℕ)) (names : List (List ℕ)) (name : List ℕ) (only : names ≡ name ∷ []) (first next : Notes) where
  pub stop-only : (end : End) → NotesStop name_of (name ∷ []) end first next → NotesStop name_of names end first next
  stop-only end stopped = subst (λ names. NotesStop name_of names end first next) (sym only) stopped

  pub read-only : HasReadFiles (name ∷ []) first next → HasReadFiles names first next
  read-only noted = subst (λ names. HasReadFiles names first next) (sym only) noted

-- the script is named
module _ {Value : Type 0} (answer : Result Value End) (run : RunWords) (name : List ℕ) (is : run.script ≡ Some name) (first next : Notes) where
  script-is : script_names run ≡ name ∷ []
  script-is = ap (λ script. option_map_or (λ script. script ∷ []) script []) is

  pub script-read : OnOk answer (HasReadFiles (name ∷ []) first next) → OnOk answer (HasReadFiles (script_names run) first next)
  script-read noted = by answer noted
    where
      by : (answer : Result Value End) → OnOk answer (HasReadFiles (name ∷ []) first next) → OnOk answer (HasReadFiles (script_names run) first next)
      by (Ok value) noted = subst (λ names. HasReadFiles names first next) (sym script-is) noted
      by (Err end) noted = tt

  pub script-stopped : IfErr answer (λ end. (name_of : Input → Option (List ℕ)) → name_of Script ≡ Some name
      → NotesStop name_of (name ∷ []) end first next) → IfErr answer (λ end. NotesStop (run_file_name run)
      (script_names run) end first next)
  script-stopped stopped = by answer stopped
    where
      by : (answer : Result Value End) → IfErr answer (λ end. (name_of : Input → Option (List ℕ))
          → name_of Script ≡ Some name → NotesStop name_of (name ∷ []) end first next)
          → IfErr answer (λ end. NotesStop (run_file_name run) (script_names run) end first next)
      by (Ok value) stopped = tt
      by (Err end) stopped =
          subst (λ names. NotesStop (run_file_name run) names end first next) (sym script-is) (stopped (run_file_name run) is)

-- none is named
pub script-none : (run : RunWords) (notes : Notes) → run.script ≡ None → HasReadFiles (script_names run) notes notes
script-none run notes is =
    let none : script_names run ≡ [] = ap (λ script. option_map_or (λ script. script ∷ []) script []) is in
    subst (λ names. HasReadFiles names notes notes) (sym none) (read-none notes)
