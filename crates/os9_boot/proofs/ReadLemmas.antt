-- Which file could not be read, and which files were.
use Rattle.std.proofs.Common.{◌≡◌, ◌≢◌, ◌<◌, ℕ, zero, Option, Some, None, Result, Ok, Err, OnOk, Vec, Global, List, [], ◌∷◌, length, slice_get, refl, sym, subst, ap, ◌∙◌, arith}
use Rattle.std.specs.Prelude.{IfErr, IfOk, IfSome, unwrap_or}
use Rattle.os9_kernel.specs.Outside.{Outside}
use Rattle.os9_outer.specs.Host.{HostFiles, file_contents}
use Rattle.os9_words.specs.Vol.{IsVol, rest_count}
use Rattle.os9_words.specs.declared.vol_words.Verb.{Verb}
use Rattle.os9_words.specs.declared.vol_words.Verb.TheVariants.{Format, Put, Get, Mkdir, Delete, Dir, Repair}
use Rattle.os9_words.specs.declared.vol_words.VolWords.{VolWords}
use Rattle.boot_run.specs.World.{World}
use Rattle.os9_words.specs.Notes.{HasReadFiles, Notes}
use Rattle.boot_run.specs.Stops.{NotesReads, NotesStop, StopsAtRead}
use Rattle.boot_run.specs.declared.status.End.{End}
use Rattle.boot_run.specs.declared.status.End.TheVariants.{CannotRead, NoMemory}
use Rattle.boot_run.specs.declared.status.Input.{Input}
use Rattle.boot_run.specs.declared.status.Input.TheVariants.{File, Image}
use Rattle.os9_boot.specs.VolLeft.{ReadsInput, VolMayEnd}
use Rattle.os9_boot.specs.VolSteps.{HasVolFiles}
use Rattle.os9_boot.specs.Vol.{file_names, file_of, inputs_of}
use Rattle.os9_boot.specs.declared.files.VolFiles.{VolFiles}

-- a name that only the image has, and one that only FILE has
abbrev only-image : List ℕ → Input → Option (List ℕ)
only-image name (Image zero) = Some name
only-image name input = None

abbrev only-file : List ℕ → Input → Option (List ℕ)
only-file name File = Some name
only-file name input = None

reads-image : (verb : Verb) → verb ≢ Format → ReadsInput verb (Image 0)
reads-image Format other = absurd (other refl)
reads-image Put other = refl
reads-image Get other = refl
reads-image Mkdir other = refl
reads-image Delete other = refl
reads-image Dir other = refl
reads-image Repair other = refl

image-only : (name other : List ℕ) (verb : Verb) (input : Input) → verb ≢ Format → only-image name input ≡ Some other → ReadsInput verb input
image-only name other verb (Image zero) apart named = reads-image verb apart
image-only name other verb input apart named = absurd (cc named)

file-only : (name other : List ℕ) (input : Input) → only-file name input ≡ Some other → ReadsInput Put input
file-only name other File named = refl
file-only name other input named = absurd (cc named)

-- the image could not be read
image-stops : (name : List ℕ) (verb : Verb) (before after : World) (end : End) → verb ≢ Format → StopsAtRead (only-image name) before after end → VolMayEnd verb end
image-stops name verb before after (CannotRead input) apart (other, named, could) = image-only name other verb input apart named
image-stops name verb before after NoMemory apart stops = tt
image-stops name verb before after end apart stops = absurd stops

pub image-may : {Value : Type 0} (answer : Result Value End) (name : List ℕ) (verb : Verb) (before after : Outside
    → World) → verb ≢ Format → IfErr answer (λ end. (devices : Outside) (name_of : Input → Option (List ℕ))
    → name_of (Image 0) ≡ Some name → StopsAtRead name_of (before devices) (after devices) end)
    → IfErr answer (VolMayEnd verb)
image-may (Ok value) name verb before after apart ended = tt
image-may (Err end) name verb before after apart ended =
    let none : Outside = record { drives = []; terms = [] } in
    image-stops name verb (before none) (after none) end apart (ended none (only-image name) refl)

-- FILE could not be
file-stops : (name : List ℕ) (before after : World) (end : End) → StopsAtRead (only-file name) before after end → VolMayEnd Put end
file-stops name before after (CannotRead input) (other, named, could) = file-only name other input named
file-stops name before after NoMemory stops = tt
file-stops name before after end stops = absurd stops

pub file-may : {Value : Type 0} (answer : Result Value End) (name : List ℕ) (verb : Verb) (before after : Outside
    → World) → verb ≡ Put → IfErr answer (λ end. (devices : Outside) (name_of : Input → Option (List ℕ))
    → name_of File ≡ Some name → StopsAtRead name_of (before devices) (after devices) end)
    → IfErr answer (VolMayEnd verb)
file-may (Ok value) name verb before after put ended = tt
file-may (Err end) name verb before after put ended =
    let none : Outside = record { drives = []; terms = [] } in
    subst (λ verb. VolMayEnd verb end) (sym put) (file-stops name (before none) (after none) end (ended none (only-file name) refl))

-- ---- the words of `put`

-- it has FILE
pub has-file : (vol : VolWords) → IsVol vol → vol.verb ≡ Put → 1 < length vol.rest
has-file vol words put =
    let count : length vol.rest ≡ 2 = words.words ∙ ap rest_count put in
    omega (arith, count)

pub file-is : (vol : VolWords) (name : List ℕ) → slice_get vol.rest 1 ≡ Some name → file_of vol ≡ name
file-is vol name is = ap (λ word. unwrap_or word []) is

-- and reads it
pub put-names : (vol : VolWords) (name : List ℕ) → slice_get vol.rest 1 ≡ Some name → vol.verb ≡ Put → file_names vol.verb vol ≡ name ∷ []
put-names vol name is put = ap (λ verb. file_names verb vol) put ∙ ap (λ name. name ∷ []) (file-is vol name is)

-- another verb reads none
pub no-names : (verb : Verb) (vol : VolWords) → verb ≢ Put → file_names verb vol ≡ []
no-names Format vol other = refl
no-names Put vol other = absurd (other refl)
no-names Get vol other = refl
no-names Mkdir vol other = refl
no-names Delete vol other = refl
no-names Dir vol other = refl
no-names Repair vol other = refl

-- the image is read first
pub inputs-are : (verb : Verb) (vol : VolWords) → verb ≢ Format → inputs_of verb vol ≡ vol.image ∷ file_names verb vol
inputs-are Format vol other = absurd (other refl)
inputs-are Put vol other = refl
inputs-are Get vol other = refl
inputs-are Mkdir vol other = refl
inputs-are Delete vol other = refl
inputs-are Dir vol other = refl
inputs-are Repair vol other = refl

-- ---- both were read

pub has-both : (vol : VolWords) (read : VolFiles) (told : Option HostFiles)
    → IfSome told (λ files. read.image.items ≡ file_contents files vol.image) → IfSome told (λ files. vol.verb ≡ Put
    → read.file.items ≡ file_contents files (file_of vol)) → IfSome told (λ files. HasVolFiles files vol read)
has-both vol read None image file = tt
has-both vol read (Some files) image file = record { image = image; file = file }

-- ---- of one file

-- it was noted, or that it was not read
module _ {Value : Type 0} (names : List (List ℕ)) (name : List ℕ) (only : names ≡ name ∷ []) (first next : Notes) where
  pub reads-of : (answer : Result Value End) (input : Input) (name_of : Input → Option (List ℕ))
      → name_of input ≡ Some name → OnOk answer (HasReadFiles (name ∷ []) first next)
      → IfErr answer (λ end. (name_of : Input → Option (List ℕ)) → name_of input ≡ Some name
      → NotesStop name_of (name ∷ []) end first next)
      → NotesReads name_of names answer first next
  reads-of (Ok value) input name_of named noted stopped = subst (λ names. HasReadFiles names first next) (sym only) noted
  reads-of (Err end) input name_of named noted stopped =
      subst (λ names. NotesStop name_of names end first next) (sym only) (stopped name_of named)

-- FILE of `put` was read
pub put-contents : (vol : VolWords) (name : List ℕ) → slice_get vol.rest 1 ≡ Some name → (told : Option HostFiles)
    (answer : Result (Vec ℕ Global) End)
    → IfOk answer (λ bytes. IfSome told (λ files. bytes.items ≡ file_contents files name))
    → IfOk answer (λ bytes. IfSome told (λ files. vol.verb ≡ Put → bytes.items ≡ file_contents files (file_of vol)))
put-contents vol name is told (Err end) contents = tt
put-contents vol name is None (Ok bytes) contents = tt
put-contents vol name is (Some files) (Ok bytes) contents = λ put. contents ∙ ap (λ name. file_contents files name) (sym (file-is vol name is))

-- another verb has none
pub other-contents : (vol : VolWords) (bytes : List ℕ) (told : Option HostFiles) → vol.verb ≢ Put → IfSome told (λ files. vol.verb ≡ Put → bytes ≡ file_contents files (file_of vol))
other-contents vol bytes None other = tt
other-contents vol bytes (Some files) other = λ put. absurd (other put)
