-- A first word that is no command spells none.
use Rattle.std.proofs.Common.{◌≡◌, ◌≢◌, ◌≤◌, ◌∙◌, None, [], ◌∷◌, List, ℕ, Bool, true, false, length, map, get_or, string_bytes, bytes_eq, codes, String, Global, refl, ap, arith}
use Rattle.std.proofs.lemmas.Slice.Eq.{bytes_eq-Decides}
use Rattle.os9_words.specs.Command.{command_of}
use Rattle.os9_words.proofs.command.read_words.Goals as goal

other : (command : List ℕ) (words : List (List ℕ)) → command ≢ codes "run" → command ≢ codes "boot"
    → command ≢ codes "check" → command ≢ codes "stress" → command ≢ codes "vol" → command ≢ codes "asm"
    → command ≢ codes "debug" → command_of (command ∷ words) ≡ None
other command words not_run not_boot not_check not_stress not_vol not_asm not_debug =
    by (bytes_eq command (codes "run")) (bytes_eq command (codes "boot")) (bytes_eq command (codes "check"))
    (bytes_eq command (codes "stress")) (bytes_eq command (codes "vol")) (bytes_eq command (codes "asm"))
    (bytes_eq command (codes "debug")) refl refl refl refl refl refl refl
  where
    by : (run boot check stress vol asm debug : Bool) → bytes_eq command (codes "run") ≡ run
        → bytes_eq command (codes "boot") ≡ boot → bytes_eq command (codes "check") ≡ check
        → bytes_eq command (codes "stress") ≡ stress → bytes_eq command (codes "vol") ≡ vol
        → bytes_eq command (codes "asm") ≡ asm → bytes_eq command (codes "debug") ≡ debug
        → command_of (command ∷ words) ≡ None
    by true boot check stress vol asm debug r b c s v a d = absurd (not_run ((bytes_eq-Decides command (codes "run")).0 r))
    by false true check stress vol asm debug r b c s v a d = absurd (not_boot ((bytes_eq-Decides command (codes "boot")).0 b))
    by false false true stress vol asm debug r b c s v a d = absurd (not_check ((bytes_eq-Decides command (codes "check")).0 c))
    by false false false true vol asm debug r b c s v a d = absurd (not_stress ((bytes_eq-Decides command (codes "stress")).0 s))
    by false false false false true asm debug r b c s v a d = absurd (not_vol ((bytes_eq-Decides command (codes "vol")).0 v))
    by false false false false false true debug r b c s v a d = absurd (not_asm ((bytes_eq-Decides command (codes "asm")).0 a))
    by false false false false false false true r b c s v a d = absurd (not_debug ((bytes_eq-Decides command (codes "debug")).0 d))
    by false false false false false false false r b c s v a d = rw (r, b, c, s, v, a, d) refl

no_command : (words : List (String Global)) (command : String Global) → 1 ≤ length words → command ≡ get_or words 0
    command → string_bytes command ≢ codes "run" → string_bytes command ≢ codes "boot" → string_bytes command ≢ codes
    "check" → string_bytes command ≢ codes "stress" → string_bytes command ≢ codes "vol" → string_bytes command ≢
    codes "asm" → string_bytes command ≢ codes "debug" → command_of (map string_bytes words) ≡ None
no_command [] command some is not_run not_boot not_check not_stress not_vol not_asm not_debug = absurd (omega (arith, some))
no_command (word ∷ words) command some is not_run not_boot not_check not_stress not_vol not_asm not_debug =
    other (string_bytes word) (map string_bytes words) (λ e. not_run (ap string_bytes is ∙ e))
    (λ e. not_boot (ap string_bytes is ∙ e)) (λ e. not_check (ap string_bytes is ∙ e))
    (λ e. not_stress (ap string_bytes is ∙ e)) (λ e. not_vol (ap string_bytes is ∙ e))
    (λ e. not_asm (ap string_bytes is ∙ e)) (λ e. not_debug (ap string_bytes is ∙ e))

pub returns-in_default-as_str-clause-refused : goal.returns-in_default-as_str-clause-refused
returns-in_default-as_str-clause-refused c =
    no_command c.args.words.now c.command-item.result c.in-len1-up.len_at_least c.command-item.is
    (λ e. c.in_default-as_str.not-run (c.as_str.ensures.value ∙ e))
    (λ e. c.in_default-as_str.not-boot (c.as_str.ensures.value ∙ e))
    (λ e. c.in_default-as_str.not-check (c.as_str.ensures.value ∙ e))
    (λ e. c.in_default-as_str.not-stress (c.as_str.ensures.value ∙ e))
    (λ e. c.in_default-as_str.not-vol (c.as_str.ensures.value ∙ e))
    (λ e. c.in_default-as_str.not-asm (c.as_str.ensures.value ∙ e))
    (λ e. c.in_default-as_str.not-debug (c.as_str.ensures.value ∙ e))
