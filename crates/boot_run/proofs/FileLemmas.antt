-- What the reads of files say of a longer call.
use Rattle.std.proofs.Common.{◌≡◌, ℕ, zero, suc, Option, Some, None, Result, Ok, Err, List, [], ◌∷◌, ◌++◌, take, slice_get, refl, ap, ◌∙◌}
use Rattle.std.specs.Prelude.{IfErr, IfSome}
use Rattle.os9_outer.specs.Host.{HostFiles, file_contents}
use Rattle.os9_kernel.specs.Outside.{Outside}
use Rattle.os9_words.specs.declared.command.RunWords.{RunWords}
use Rattle.boot_run.specs.Images.{images_of}
use Rattle.boot_run.specs.World.{World}
use Rattle.boot_run.specs.declared.files.BootFiles.{BootFiles}
use Rattle.boot_run.specs.declared.files.RunFiles.{RunFiles}
use Rattle.boot_run.specs.declared.status.End.{End}
use Rattle.boot_run.specs.declared.status.Input.{Input}
use Rattle.boot_run.specs.Stops.{StopsAtRead}
use Rattle.boot_run.specs.Reading.{HasBootFiles, HasRunFiles}
use Rattle.boot_run.specs.Setup.{script_of}

-- the words name the file as this input, by a name that is known
pub stopped-as : {Value : Type 0} (answer : Result Value End) (input : Input) (name : List ℕ)
    (given : Option (List ℕ)) (before after : Outside → World) (name_of : Input → Option (List ℕ))
    → name_of input ≡ given → given ≡ Some name → IfErr answer (λ end. (devices : Outside) (name_of : Input
    → Option (List ℕ)) → name_of input ≡ Some name → StopsAtRead name_of (before devices) (after devices) end)
    → IfErr answer (λ end. (devices : Outside) → StopsAtRead name_of (before devices) (after devices) end)
stopped-as (Ok value) input name given before after name_of named is ended = tt
stopped-as (Err end) input name given before after name_of named is ended = λ devices. ended devices name_of (named ∙ is)

-- the three files were read
pub has-files : (told : Option HostFiles) (run : RunWords) (read : RunFiles) (name : List ℕ) → slice_get run.files 0 ≡
    Some name → IfSome told (λ files. read.script.items ≡ script_of files run)
    → IfSome told (λ files. read.slices.items ≡ file_contents files run.slices)
    → IfSome told (λ files. read.modules.items ≡ file_contents files name)
    → IfSome told (λ files. HasRunFiles files run read)
has-files None run read name named script slices modules = tt
has-files (Some files) run read name named script slices modules = record {
  script = script;
  slices = slices;
  modules = (name, named, modules);
}

-- the files of a boot were read
pub has-boot-files : (told : Option HostFiles) (boot : RunWords) (read : BootFiles)
    → IfSome told (λ files. read.script.items ≡ script_of files boot)
    → IfSome told (λ files. read.slices.items ≡ file_contents files boot.slices)
    → IfSome told (λ files. read.images ≡ images_of files boot.files) → IfSome told (λ files. HasBootFiles files boot
    read)
has-boot-files None boot read script slices images = tt
has-boot-files (Some files) boot read script slices images = record { script = script; slices = slices; images = images }

-- one image more was read
pub images-more : (told : Option HostFiles) (names images : List (List ℕ)) (place : ℕ) (name image : List ℕ)
    → slice_get names place ≡ Some name → IfSome told (λ files. images ≡ images_of files (take place names))
    → IfSome told (λ files. image ≡ file_contents files name) → IfSome told (λ files. images ++ image ∷ [] ≡ images_of
    files (take (suc place) names))
images-more None names images place name image named so_far here = tt
images-more (Some files) names images place name image named so_far here =
    rw (so_far, here) (by names place named)
  where
    by : (names : List (List ℕ)) (place : ℕ) → slice_get names place ≡ Some name → images_of files (take place names) ++ file_contents files name ∷ [] ≡ images_of files (take (suc place) names)
    by [] place named = absurd (cc named)
    by (first ∷ names) zero named = let same : first ≡ name = cc named in rw same refl
    by (first ∷ names) (suc place) named = ap (λ rest. file_contents files first ∷ rest) (by names place named)
