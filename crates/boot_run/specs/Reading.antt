-- The files and the texts of a command as they are read.
use Rattle.std.specs.Prelude.{◌≡◌, ⊤, ℕ, Some, List, slice_get}
use Rattle.os9_outer.specs.Host.{HostFiles, file_contents}
use Rattle.os9_words.specs.declared.command.RunWords.{RunWords}
use Rattle.script_text.specs.declared.script.ScriptKey.{ScriptKey}
use Rattle.script_text.specs.Script.{keys_of}
use Rattle.script_text.specs.Slices.{slices_of}
use Rattle.std.specs.Prelude.{Ok, Err}
use Rattle.boot_run.specs.Images.{images_of}
use Rattle.boot_run.specs.declared.files.BootFiles.{BootFiles}
use Rattle.boot_run.specs.declared.files.RunFiles.{RunFiles}
use Rattle.boot_run.specs.declared.status.End.{End}
use Rattle.boot_run.specs.declared.status.End.TheVariants.{NoMemory, BadText}
use Rattle.boot_run.specs.declared.status.Input.TheVariants.{Script, Slices}
use Rattle.boot_run.specs.Setup.{script_of}

-- the bytes that were read are those of the files that the words of a run name
pub record HasRunFiles (files : HostFiles) (run : RunWords) (read : RunFiles) : Type 0 where
  pub script : read.script.items ≡ script_of files run
  pub slices : read.slices.items ≡ file_contents files run.slices
  pub modules : (name : List ℕ) × (slice_get run.files 0 ≡ Some name)
      × (read.modules.items ≡ file_contents files name)

-- the same for a boot
pub record HasBootFiles (files : HostFiles) (boot : RunWords) (read : BootFiles) : Type 0 where
  pub script : read.script.items ≡ script_of files boot
  pub slices : read.slices.items ≡ file_contents files boot.slices
  pub images : read.images ≡ images_of files boot.files

-- a script that gives keys to this number of terminals, and after it a refused slice text: its first bad line
pub record BreaksSlices (terminals line : ℕ) (script slices : List ℕ) : Type 0 where
  pub keys : List ScriptKey
  pub accepted : keys_of terminals script ≡ Ok keys
  pub refused : slices_of slices ≡ Err line

-- why the texts end a command: memory was out; the script is refused for this number of terminals, or the slice text
-- after it
abbrev pub RefusesTexts : ℕ → List ℕ → List ℕ → End → Type 0
RefusesTexts terminals script slices NoMemory = ⊤
RefusesTexts terminals script slices (BadText Script line) = keys_of terminals script ≡ Err line
RefusesTexts terminals script slices (BadText Slices line) = BreaksSlices terminals line script slices
RefusesTexts terminals script slices end = ⊥
