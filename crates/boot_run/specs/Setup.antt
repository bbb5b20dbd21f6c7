-- What a command starts a machine with.
use Rattle.std.specs.Prelude.{◌≡◌, ℕ, Some, Ok, List, [], slice_get, All}
use Rattle.std.specs.Option.{option_map_or}
use Rattle.os9_outer.specs.Host.{HostFiles, file_contents}
use Rattle.script_text.specs.declared.script.ScriptKey.{ScriptKey}
use Rattle.script_text.specs.Script.{keys_of}
use Rattle.script_text.specs.Slices.{slices_of}
use Rattle.os9_words.specs.declared.command.RunWords.{RunWords}
use Rattle.boot_run.specs.BootFile.{IsBootFile, IsVolume}
use Rattle.boot_run.specs.Images.{images_of}
use Rattle.boot_run.specs.Machine.{Setup}

-- the text of the script that the words name; without one an empty text, which gives no keys
abbrev pub script_of : HostFiles → RunWords → List ℕ
script_of files run = option_map_or (λ script. file_contents files script) run.script []

-- the texts that the words name give these keys to this number of terminals, and these slices
pub record HaveTexts (files : HostFiles) (run : RunWords) (terminals : ℕ) (keys : List ScriptKey) (slices : List ℕ)
    : Type 0 where
  pub script : keys_of terminals (script_of files run) ≡ Ok keys
  pub slice_text : slices_of (file_contents files run.slices) ≡ Ok slices

-- the texts are accepted, and the machine has the blocks and the time that the words give
pub record SetsUp (files : HostFiles) (run : RunWords) (terminals : ℕ) (setup : Setup) : Type 0 where
  pub texts : HaveTexts files run terminals setup.keys setup.slices
  pub blocks : setup.blocks ≡ run.blocks
  pub time : setup.time ≡ run.start

-- `run`: the boot file is the file of modules, and there are no images
pub record SetsUpRun (files : HostFiles) (run : RunWords) (terminals : ℕ) (setup : Setup) : Type 0 where
  pub words : SetsUp files run terminals setup
  pub name : List ℕ
  pub modules : slice_get run.files 0 ≡ Some name
  pub file : setup.file ≡ file_contents files name
  pub none : setup.images ≡ []

-- `boot`: the images are those of the files in their order, all are well formed, and the boot file is that of the first
pub record SetsUpBoot (files : HostFiles) (boot : RunWords) (terminals : ℕ) (setup : Setup) : Type 0 where
  pub words : SetsUp files boot terminals setup
  pub images : setup.images ≡ images_of files boot.files
  pub volumes : All IsVolume setup.images
  pub file : IsBootFile setup.images setup.file
