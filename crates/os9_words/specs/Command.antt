-- The words of a command line (this project's own).
use Rattle.std.specs.Prelude.{◌≡◌, ℕ, ◌<◌, ◌≤◌, true, nat_le, ◌&&◌, length, Option, Some, None, IsSome, option_and_then, option_map, Result, Ok, Err, ⊤, List, [], ◌∷◌, ◌++◌, bytes_eq, codes, if◌then◌else◌}
use Rattle.std.specs.Option.{option_map_or}
use Rattle.os9_base.specs.declared.registers.TimePacket.{TimePacket}
use Rattle.time_rules.specs.CivilTime.{is_time_packet}
use Rattle.text_values.specs.Number.{number_of, within}
use Rattle.option_reader.specs.Given.{Given, only_argument, value_of, words_give}
use Rattle.os9_words.specs.Asm.{asm_of, asm_options}
use Rattle.os9_words.specs.Debug.{debug_of, debug_options}
use Rattle.os9_words.specs.Run.{blocks_of, run_options, run_words_of, run_words_with}
use Rattle.os9_words.specs.Times.{time_of}
use Rattle.os9_words.specs.Vol.{vol_of, vol_options, IsVol}
use Rattle.os9_words.specs.declared.command.Command.{Command}
use Rattle.os9_words.specs.declared.command.Command.TheVariants.{Run, Boot, Check, Stress, Vol, Asm, Debug}
use Rattle.os9_words.specs.declared.command.RunWords.{RunWords}
use Rattle.os9_words.specs.declared.command.WordsFault.{WordsFault}
use Rattle.os9_words.specs.declared.command.WordsFault.TheVariants.{Refused, OutOfMemory}

-- the options of `check`, and those of `stress`
abbrev pub check_options : List (List ℕ)
check_options = []

abbrev pub stress_options : List (List ℕ)
stress_options = []

-- `run` with these words
abbrev pub run_with : (modules script slices : Option (List ℕ)) (blocks : Option ℕ) (start : Option TimePacket)
    → Option Command
run_with modules script slices blocks start = option_map Run (run_words_with modules script slices blocks start)

-- `run MODULES --slices SLICES`, optionally with `--script SCRIPT`, `--blocks N` and `--time T`
abbrev pub run_of : Given → Option Command
run_of words = option_map Run (run_words_of words)

-- the options of `boot`: those of `run`, and `--history`
abbrev pub boot_options : List (List ℕ)
boot_options = run_options ++ codes "history" ∷ []

-- a boot takes one to four images
abbrev pub most_images : ℕ
most_images = 4

-- a boot of these images, with this script, these slices and blocks, and this start, which writes no history; defined
-- if one to four images, a script, slices, a number of blocks and a time are given
abbrev pub boot_words_with : List (List ℕ) → (script slices : Option (List ℕ)) (blocks : Option ℕ)
    (start : Option TimePacket) → Option RunWords
boot_words_with images (Some script) (Some slices) (Some blocks) (Some start) =
    if nat_le 1 (length images) && nat_le (length images) most_images
    then Some (record {
      files = images;
      script = Some script;
      slices = slices;
      blocks = blocks;
      start = start;
      history = None;
    })
    else None
boot_words_with _ _ _ _ _ = None

-- a boot that writes its history in this file, if one is given
abbrev pub with_history : RunWords → Option (List ℕ) → RunWords
with_history boot history = record boot { history = history }

-- `boot IMAGE.. --script SCRIPT --slices SLICES`, optionally with `--blocks N`, `--time T` and `--history FILE`
abbrev pub boot_of : Given → Option Command
boot_of words =
    option_map (λ boot. Boot (with_history boot (value_of words (codes "history"))))
    (boot_words_with words.arguments (value_of words (codes "script")) (value_of words (codes "slices"))
    (blocks_of words) (time_of words))

-- `check IMAGE`
abbrev pub check_of : Given → Option Command
check_of words = option_map Check (only_argument words)

-- the greatest seed of `stress`
abbrev pub most_seed : ℕ
most_seed = 2147483647

-- the seed that a number spells, from 0 to the greatest
abbrev pub seed_of : List ℕ → Option ℕ
seed_of number = within 0 most_seed (number_of number)

-- `stress N`
abbrev pub stress_of : Given → Option Command
stress_of words = option_map Stress (option_and_then seed_of (only_argument words))

-- the command that the words spell, or nothing if they do not spell one
abbrev pub command_of : List (List ℕ) → Option Command
command_of [] = None
command_of (command ∷ words) =
    if bytes_eq command (codes "run")
    then option_and_then run_of (words_give run_options words)
    else (if bytes_eq command (codes "boot")
    then option_and_then boot_of (words_give boot_options words)
    else (if bytes_eq command (codes "check")
    then option_and_then check_of (words_give check_options words)
    else (if bytes_eq command (codes "stress")
    then option_and_then stress_of (words_give stress_options words)
    else (if bytes_eq command (codes "vol")
    then option_map Vol (option_and_then vol_of (words_give vol_options words))
    else (if bytes_eq command (codes "asm")
    then option_map Asm (option_and_then asm_of (words_give asm_options words))
    else (if bytes_eq command (codes "debug")
    then option_map Debug (option_and_then debug_of (words_give debug_options words))
    else None))))))

-- a boot names one to four images and a script
pub record HasImages (run : RunWords) : Type 0 where
  pub some : 1 ≤ length run.files
  pub few : length run.files ≤ most_images
  pub script : IsSome run.script

-- a machine has from 8 to 256 blocks, and starts at a date and time in the years 1900 to 2155
pub record SetsMachine (run : RunWords) : Type 0 where
  pub blocks : (8 ≤ run.blocks) × (run.blocks ≤ 256)
  pub time : is_time_packet run.start ≡ true

-- a run names one file of modules, and writes no history
pub record IsRun (run : RunWords) : Type 0 where
  pub files : length run.files ≡ 1
  pub no_history : run.history ≡ None
  pub machine : SetsMachine run

-- a boot names its images and a script
pub record IsBoot (boot : RunWords) : Type 0 where
  pub files : HasImages boot
  pub machine : SetsMachine boot

-- the properties of each command that words spell; the seed of a stress has 31 bits
abbrev pub IsCommand : Command → Type 0
IsCommand (Run run) = IsRun run
IsCommand (Boot boot) = IsBoot boot
IsCommand (Check image) = ⊤
IsCommand (Stress seed) = seed < 2147483648
IsCommand (Vol vol) = IsVol vol
IsCommand (Asm asm) = ⊤
IsCommand (Debug debug) = IsRun debug.run

-- the fact holds if the words are refused
abbrev pub OnRefused : {T : Type 0} → Result T WordsFault → Type 0 → Type 0
OnRefused (Ok _) fact = ⊤
OnRefused (Err Refused) fact = fact
OnRefused (Err OutOfMemory) fact = ⊤
