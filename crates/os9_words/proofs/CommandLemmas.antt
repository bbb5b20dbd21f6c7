-- What a command line has.
use Rattle.std.proofs.Common.{◌≡◌, ◌≤◌, ℕ, Bool, true, false, Option, Some, None, List, [], ◌∷◌, length, bytes_eq, codes, refl, subst, arith}
use Rattle.std.specs.Prelude.{nat_le, ◌&&◌, option_and_then, option_map, if◌then◌else◌}
use Rattle.std.specs.Option.{option_map_or}
use Rattle.std.proofs.lemmas.Bool.{leb-true}
use Rattle.os9_base.specs.declared.registers.TimePacket.{TimePacket}
use Rattle.time_rules.specs.CivilTime.{is_time_packet}
use Rattle.text_values.specs.Number.{number_of, within}
use Rattle.os9_clock.specs.TimeText.{time_in}
use Rattle.os9_clock.proofs.Places.{is-read}
use Rattle.option_reader.specs.Given.{Given, only_argument, value_of, words_give}
use Rattle.os9_words.specs.declared.asm_words.AsmWords.{AsmWords}
use Rattle.os9_words.specs.declared.command.Command.{Command}
use Rattle.os9_words.specs.declared.command.Command.TheVariants.{Asm, Boot, Check, Debug, Run, Stress, Vol}
use Rattle.os9_words.specs.declared.command.RunWords.{RunWords}
use Rattle.os9_words.specs.declared.debug_words.DebugWords.{DebugWords}
use Rattle.os9_words.specs.Command.{boot_of, boot_options, boot_words_with, check_of, check_options, command_of, most_images, most_seed, run_of, seed_of, stress_of, stress_options, with_history, IsBoot, IsCommand, IsRun}
use Rattle.os9_words.specs.Debug.{debug_of, debug_options, debug_with}
use Rattle.os9_words.specs.Run.{blocks_of, run_options, run_words_of, run_words_with}
use Rattle.os9_words.specs.Asm.{asm_of, asm_options}
use Rattle.os9_words.specs.Times.{default_start, time_of}
use Rattle.os9_words.specs.Vol.{vol_of, vol_options}
use Rattle.os9_words.specs.declared.vol_words.VolWords.{VolWords}
use Rattle.os9_words.proofs.VolLemmas.{vol-complete}

some-is : {X : Type 0} (x y : X) → Some x ≡ Some y → x ≡ y
some-is x y is = cc is

within-some : (least most number n : ℕ) (low high : Bool) → nat_le least number ≡ low → nat_le number most ≡ high → (if low && high then Some number else None) ≡ Some n → (least ≤ n) × (n ≤ most)
within-some least most number n true true low high is =
    let same = some-is number n is in
    (subst (λ k. least ≤ k) same (leb-true least number low), subst (λ k. k ≤ most) same (leb-true number most high))
within-some least most number n true false low high is = absurd (cc is)
within-some least most number n false high low higher is = absurd (cc is)

within-bounds : (least most : ℕ) (number : Option ℕ) (n : ℕ) → within least most number ≡ Some n → (least ≤ n) × (n ≤ most)
within-bounds least most None n is = absurd (cc is)
within-bounds least most (Some number) n is =
    within-some least most number n (nat_le least number) (nat_le number most) refl refl is

-- a run or a boot has so many blocks
blocks-are : (given : Given) (blocks : ℕ) → blocks_of given ≡ Some blocks → (8 ≤ blocks) × (blocks ≤ 256)
blocks-are given blocks is = by (value_of given (codes "blocks")) is
  where
    by : (value : Option (List ℕ)) → option_map_or (λ number. within 8 256 (number_of number)) value (Some 64) ≡ Some blocks → (8 ≤ blocks) × (blocks ≤ 256)
    by None is = subst (λ n. (8 ≤ n) × (n ≤ 256)) (some-is 64 blocks is) (omega arith, omega arith)
    by (Some number) is = within-bounds 8 256 (number_of number) blocks is

-- a run or a boot starts at a date and time
time-is : (given : Given) (start : TimePacket) → time_of given ≡ Some start → is_time_packet start ≡ true
time-is given start is = by (value_of given (codes "time")) is
  where
    by : (value : Option (List ℕ)) → option_map_or time_in value (Some default_start) ≡ Some start → is_time_packet start ≡ true
    by None is = subst (λ t. is_time_packet t ≡ true) (some-is default_start start is) refl
    by (Some text) is = (is-read text start is).time

-- the number of blocks has its bounds, where there is one, and the start is a date and time, where there is one
abbrev pub IsBounded : Option ℕ → Type 0
IsBounded blocks = (n : ℕ) → blocks ≡ Some n → (8 ≤ n) × (n ≤ 256)

abbrev pub IsTime : Option TimePacket → Type 0
IsTime start = (t : TimePacket) → start ≡ Some t → is_time_packet t ≡ true

run-complete : (modules script slices : Option (List ℕ)) (blocks : Option ℕ) (start : Option TimePacket)
    (run : RunWords) → IsBounded blocks → IsTime start → run_words_with modules script slices blocks start ≡ Some run
    → IsRun run
run-complete None script slices blocks start run bounded civil is = absurd (cc is)
run-complete (Some modules) script None blocks start run bounded civil is = absurd (cc is)
run-complete (Some modules) script (Some slices) None start run bounded civil is = absurd (cc is)
run-complete (Some modules) script (Some slices) (Some n) None run bounded civil is = absurd (cc is)
run-complete (Some modules) script (Some slices) (Some n) (Some t) run bounded civil is =
    subst IsRun (some-is _ run is) (record {
      files = refl;
      no_history = refl;
      machine = record { blocks = bounded n refl; time = civil t refl };
    })

boot-complete : (images : List (List ℕ)) (script slices : Option (List ℕ)) (blocks : Option ℕ)
    (start : Option TimePacket) (boot : RunWords) → IsBounded blocks → IsTime start → boot_words_with images script
    slices blocks start ≡ Some boot → IsBoot boot
boot-complete images None slices blocks start boot bounded civil is = absurd (cc is)
boot-complete images (Some script) None blocks start boot bounded civil is = absurd (cc is)
boot-complete images (Some script) (Some slices) None start boot bounded civil is = absurd (cc is)
boot-complete images (Some script) (Some slices) (Some n) None boot bounded civil is = absurd (cc is)
boot-complete images (Some script) (Some slices) (Some n) (Some t) boot bounded civil is =
    by (nat_le 1 (length images)) (nat_le (length images) most_images) refl refl is
  where
    by : (some few : Bool) → nat_le 1 (length images) ≡ some → nat_le (length images) most_images ≡ few
        → (if some && few then Some (record {
          files = images;
          script = Some script;
          slices = slices;
          blocks = n;
          start = t;
          history = None;
        }) else None) ≡ Some boot → IsBoot boot
    by true true some few is =
        subst IsBoot (some-is _ boot is) (record {
          files = record {
            some = leb-true 1 (length images) some;
            few = leb-true (length images) most_images few;
            script = refl;
          };
          machine = record { blocks = bounded n refl; time = civil t refl };
        })
    by true false some few is = absurd (cc is)
    by false few some fewer is = absurd (cc is)

-- a history makes no difference to that
history-complete : (boot : RunWords) (history : Option (List ℕ)) → IsBoot boot → IsBoot (with_history boot history)
history-complete boot history is = record {
  files = record { some = is.files.some; few = is.files.few; script = is.files.script };
  machine = record { blocks = is.machine.blocks; time = is.machine.time };
}

check-complete : (image : Option (List ℕ)) (command : Command) → option_map Check image ≡ Some command → IsCommand command
check-complete None command is = absurd (cc is)
check-complete (Some image) command is =
    subst IsCommand (some-is (Check image) command is) tt

stress-complete : (seed : Option ℕ) (command : Command) → ((n : ℕ) → seed ≡ Some n → n ≤ most_seed) → option_map Stress seed ≡ Some command → IsCommand command
stress-complete None command most is = absurd (cc is)
stress-complete (Some n) command most is =
    let few : n ≤ most_seed = most n refl in
    subst IsCommand (some-is (Stress n) command is) (omega (arith, few))

-- the seed has its bound, where there is one
seed-most : (number : Option (List ℕ)) (n : ℕ) → option_and_then seed_of number ≡ Some n → n ≤ most_seed
seed-most None n is = absurd (cc is)
seed-most (Some number) n is = (within-bounds 0 most_seed (number_of number) n is).1

given-complete : (given : Option Given) (reads : Given → Option Command) (command : Command)
    → ((words : Given) → reads words ≡ Some command → IsCommand command) → option_and_then reads given ≡ Some command
    → IsCommand command
given-complete None reads command complete is = absurd (cc is)
given-complete (Some words) reads command complete is = complete words is

-- ---- commands by their words

run-words-complete : (given : Given) (run : RunWords) → run_words_of given ≡ Some run → IsRun run
run-words-complete given run is =
    run-complete (only_argument given) (value_of given (codes "script")) (value_of given (codes "slices")) (blocks_of given) (time_of given) run (blocks-are given) (time-is given) is

runs-complete : (given : Given) (command : Command) → run_of given ≡ Some command → IsCommand command
runs-complete given command is = by (run_words_of given) refl is
  where
    by : (words : Option RunWords) → run_words_of given ≡ words → option_map Run words ≡ Some command → IsCommand command
    by None same is = absurd (cc is)
    by (Some run) same is = subst IsCommand (some-is (Run run) command is) (run-words-complete given run same)

boots-complete : (given : Given) (command : Command) → boot_of given ≡ Some command → IsCommand command
boots-complete given command is = by words refl is
  where
    history : Option (List ℕ)
    history = value_of given (codes "history")

    words : Option RunWords
    words =
        boot_words_with given.arguments (value_of given (codes "script")) (value_of given (codes "slices")) (blocks_of given) (time_of given)

    by : (boot : Option RunWords) → words ≡ boot → option_map (λ (boot : RunWords). Boot (with_history boot history)) boot ≡ Some command → IsCommand command
    by None same is = absurd (cc is)
    by (Some boot) same is =
        subst IsCommand (some-is (Boot (with_history boot history)) command is)
        (history-complete boot history (boot-complete given.arguments (value_of given (codes "script"))
        (value_of given (codes "slices")) (blocks_of given) (time_of given) boot (blocks-are given)
        (time-is given) same))

checks-complete : (given : Given) (command : Command) → check_of given ≡ Some command → IsCommand command
checks-complete given command is = check-complete (only_argument given) command is

stresses-complete : (given : Given) (command : Command) → stress_of given ≡ Some command → IsCommand command
stresses-complete given command is =
    stress-complete (option_and_then seed_of (only_argument given)) command (seed-most (only_argument given)) is

vols-complete : (vol : Option VolWords) (command : Command) → ((words : VolWords) → vol ≡ Some words → IsCommand (Vol words)) → option_map Vol vol ≡ Some command → IsCommand command
vols-complete None command complete is = absurd (cc is)
vols-complete (Some words) command complete is = subst IsCommand (some-is (Vol words) command is) (complete words refl)

asm-complete : (asm : Option AsmWords) (command : Command) → option_map Asm asm ≡ Some command → IsCommand command
asm-complete None command is = absurd (cc is)
asm-complete (Some words) command is = subst IsCommand (some-is (Asm words) command is) tt

debug-complete : (given : Option Given) (debug : DebugWords) → option_and_then debug_of given ≡ Some debug → IsRun debug.run
debug-complete None debug is = absurd (cc is)
debug-complete (Some words) debug is = by (run_words_of words) (value_of words (codes "commands")) refl is
  where
    by : (run : Option RunWords) (commands : Option (List ℕ)) → run_words_of words ≡ run → debug_with run commands ≡ Some debug → IsRun debug.run
    by None commands same is = absurd (cc is)
    by (Some run) None same is = absurd (cc is)
    by (Some run) (Some commands) same is =
        subst (λ (debug : DebugWords). IsRun debug.run) (some-is _ debug is) (run-words-complete words run same)

debugs-complete : (debug : Option DebugWords) (command : Command) → ((words : DebugWords) → debug ≡ Some words → IsCommand (Debug words)) → option_map Debug debug ≡ Some command → IsCommand command
debugs-complete None command complete is = absurd (cc is)
debugs-complete (Some words) command complete is = subst IsCommand (some-is (Debug words) command is) (complete words refl)

-- what words spell has what a command has
pub is-complete : (words : List (List ℕ)) (command : Command) → command_of words ≡ Some command → IsCommand command
is-complete [] command is = absurd (cc is)
is-complete (first ∷ words) command is =
    by (bytes_eq first (codes "run")) (bytes_eq first (codes "boot")) (bytes_eq first (codes "check"))
    (bytes_eq first (codes "stress")) (bytes_eq first (codes "vol")) (bytes_eq first (codes "asm"))
    (bytes_eq first (codes "debug")) is
  where
    by : (run boot check stress vol asm debug : Bool)
        → (if run then option_and_then run_of (words_give run_options words) else (if boot then option_and_then
        boot_of (words_give boot_options words) else (if check then option_and_then check_of
        (words_give check_options words) else (if stress then option_and_then stress_of
        (words_give stress_options words) else (if vol then option_map Vol
        (option_and_then vol_of (words_give vol_options words)) else (if asm then option_map Asm
        (option_and_then asm_of (words_give asm_options words)) else (if debug then option_map Debug
        (option_and_then debug_of (words_give debug_options words)) else None))))))) ≡ Some command
        → IsCommand command
    by true boot check stress vol asm debug is =
        given-complete (words_give run_options words) run_of command (λ given e. runs-complete given command e) is
    by false true check stress vol asm debug is =
        given-complete (words_give boot_options words) boot_of command (λ given e. boots-complete given command e) is
    by false false true stress vol asm debug is =
        given-complete (words_give check_options words) check_of command (λ given e. checks-complete given command e) is
    by false false false true vol asm debug is =
        given-complete (words_give stress_options words) stress_of command (λ given e. stresses-complete given command e) is
    by false false false false true asm debug is =
        vols-complete (option_and_then vol_of (words_give vol_options words)) command (λ vol e. vol-complete time-is (words_give vol_options words) vol e) is
    by false false false false false true debug is =
        asm-complete (option_and_then asm_of (words_give asm_options words)) command is
    by false false false false false false true is =
        debugs-complete (option_and_then debug_of (words_give debug_options words)) command (λ debug e. debug-complete (words_give debug_options words) debug e) is
    by false false false false false false false is = absurd (cc is)
