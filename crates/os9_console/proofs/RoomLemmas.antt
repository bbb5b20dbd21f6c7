-- Devices for any words of the console.
use Rattle.std.proofs.Common.{◌≤◌, ℕ, ◌&&◌, Bool, true, false, Option, Some, None, List, length, is_some, refl, ◌≡◌, if◌then◌else◌, arith}
use Rattle.std.specs.Prelude.{codes}
use Rattle.std.specs.Option.{option_and_then, option_map_or}
use Rattle.boot_run.specs.Loaded.{AreUnloaded}
use Rattle.option_reader.specs.Given.{Given, value_of, words_give}
use Rattle.os9_words.specs.declared.command.Command.{Command}
use Rattle.os9_words.specs.declared.command.Command.TheVariants.{Run, Boot, Check, Stress, Vol, Asm, Debug}
use Rattle.os9_words.specs.Command.{command_of, most_images}
use Rattle.os9_words.proofs.CommandLemmas.{is-complete}
use Rattle.boot_run.specs.Drives.{HaveRoom}
use Rattle.boot_run.specs.Ready.{DevicesAreFree}
use Rattle.os9_kernel.specs.Outside.{Outside}
use Rattle.os9_console.specs.Words.{console_options, drives_for, overwrites, replay_words, session_of}
use Rattle.os9_console.specs.declared.words.ConsoleWords.{ConsoleWords}

abbrev images_in : Option ConsoleWords → ℕ
images_in found = option_map_or (λ read. length read.boot.files) found 0

of-command : (given : Given) (found : Option Command) → command_of (replay_words given) ≡ found → images_in (session_of given found) ≤ most_images
of-command given None is = omega arith
of-command given (Some (Run run)) is = omega arith
of-command given (Some (Boot boot)) is = by (is_some (value_of given (codes "record")) && overwrites boot)
  where
    by : (refused : Bool) → images_in (if refused then None else Some (record { boot = boot; recorded = is_some (value_of given (codes "record")) })) ≤ most_images
    by true = omega arith
    by false = (is-complete (replay_words given) (Boot boot) is).files.few
of-command given (Some (Check image)) is = omega arith
of-command given (Some (Stress seed)) is = omega arith
of-command given (Some (Vol vol)) is = omega arith
of-command given (Some (Asm asm)) is = omega arith
of-command given (Some (Debug debug)) is = omega arith

few-drives : (words : List (List ℕ)) → drives_for words ≤ most_images
few-drives words = by (words_give console_options words)
  where
    by : (found : Option Given) → images_in (option_and_then (λ given. session_of given (command_of (replay_words given))) found) ≤ most_images
    by None = omega arith
    by (Some given) = of-command given (command_of (replay_words given)) refl

-- devices with as many drives as a boot may have images are free for any words
pub console-free : (words : List (List ℕ)) (devices : Outside) → AreUnloaded devices.terms → HaveRoom most_images devices.drives → DevicesAreFree (drives_for words) devices
console-free words devices unloaded room = record {
  terminals = unloaded;
  room = record { enough = omega (arith, few-drives words, room.enough); few = room.few; empty = room.empty };
}
