-- The record of a session as it is written.
use Rattle.std.proofs.Common.{◌≡◌, ◌⊎◌, ℕ, true, Some, None, Option, List, [], ◌∷◌, ◌++◌, refl, sym, ap, ◌∙◌, subst, inl, inr, append_assoc}
use Rattle.std.specs.Prelude.{Ok, Err, Result, bytes_eq, unwrap_or, if◌then◌else◌}
use Rattle.std.proofs.lemmas.Bool.{false≢true}
use Rattle.os9_base.specs.Count.{Rose}
use Rattle.os9_outer.specs.Host.{HostFiles, IfObserved, KeepsOrHoldsPrefix}
use Rattle.os9_outer.specs.declared.host.HostFault.{HostFault}
use Rattle.os9_outer.specs.declared.host.HostFault.TheVariants as Host
use Rattle.os9_words.specs.Notes.{HasWritten, Notes, having_written}
use Rattle.os9_words.specs.declared.command.RunWords.{RunWords}
use Rattle.boot_run.specs.Images.{WritesAll, WritesUpTo}
use Rattle.boot_run.specs.World.{World, FailsToWriteFile, HasNoFault}
use Rattle.boot_run.specs.Left.{IsSilent}
use Rattle.boot_run.specs.Output.{WritesOutput}
use Rattle.boot_run.specs.declared.status.End.{End}
use Rattle.boot_run.specs.declared.status.End.TheVariants.{Ended, Living}
use Rattle.boot_run.specs.declared.status.Input.TheVariants.{Script, Slices}
use Rattle.console_run.specs.declared.typed.Typed.{Typed}
use Rattle.console_run.specs.Texts.{FitsTexts, GiveSession}
use Rattle.os9_console.specs.Record.{HasWrittenRecord, RecordsIfAsked, RecordsSession, WritesPartly, is_recorded}
use Rattle.os9_console.specs.Words.{record_names}
use Rattle.os9_console.specs.declared.record.Recording.{Recording}
use Rattle.os9_console.specs.declared.record.Recording.TheVariants.{NoMemory, Unwritten, Written}
use Rattle.os9_console.specs.declared.words.ConsoleWords.{ConsoleWords}

-- ---- two files are written

module _ (first second one two : List ℕ) where
  both-written : (before mid after : Option HostFiles) → IfObserved (WritesAll (first ∷ []) (one ∷ [])) before mid
      → IfObserved (WritesAll (second ∷ []) (two ∷ [])) mid after
      → IfObserved (WritesAll (first ∷ second ∷ []) (one ∷ two ∷ [])) before after
  both-written None mid after wrote next = subst (λ (files : Option HostFiles). IfObserved (WritesAll (second ∷ []) (two ∷ [])) files after) wrote next
  both-written (Some before) None after wrote next = absurd wrote
  both-written (Some before) (Some mid) None wrote next = absurd next
  both-written (Some before) (Some mid) (Some after) wrote next = λ name.
      next name ∙ ap (λ (at : Option (List ℕ)). if bytes_eq name second then Some two else at) (wrote name)

  first-part : (before after : Option HostFiles) → IfObserved (WritesUpTo 0 (first ∷ []) (one ∷ [])) before after → IfObserved (WritesUpTo 0 (first ∷ second ∷ []) (one ∷ two ∷ [])) before after
  first-part None after wrote = wrote
  first-part (Some before) None wrote = wrote
  first-part (Some before) (Some after) wrote = record {
    name = wrote.name;
    image = wrote.image;
    named = wrote.named;
    written = wrote.written;
    others = wrote.others;
    part = wrote.part;
  }

  second-part : (before mid after : Option HostFiles) → IfObserved (WritesAll (first ∷ []) (one ∷ [])) before mid
      → IfObserved (WritesUpTo 0 (second ∷ []) (two ∷ [])) mid after → IfObserved (WritesUpTo 1 (first ∷ second ∷ [])
      (one ∷ two ∷ [])) before after
  second-part None mid after wrote next = subst (λ (files : Option HostFiles). IfObserved (WritesUpTo 0 (second ∷ []) (two ∷ [])) files after) wrote next
  second-part (Some before) None after wrote next = absurd wrote
  second-part (Some before) (Some mid) None wrote next = absurd next
  second-part (Some before) (Some mid) (Some after) wrote next = record {
    name = next.name;
    image = next.image;
    named = next.named;
    written = next.written;
    others = λ other apart. next.others other apart ∙ wrote other;
    part = subst (λ (at : Option (List ℕ)). KeepsOrHoldsPrefix at next.image (after next.name)) (wrote next.name) next.part;
  }

-- ---- the record

none-then : (before mid after : World) → HasNoFault before mid → HasNoFault mid after → HasNoFault before after
none-then before mid after one two = (two.0 ∙ one.0, two.1 ∙ one.1, two.2 ∙ one.2)

module _ (boot : RunWords) (typed : Typed) (name script slices : List ℕ) (named : boot.script ≡ Some name) (fits : FitsTexts typed) (give : GiveSession typed script slices) where
  names-are : name ∷ boot.slices ∷ [] ≡ record_names boot
  names-are = ap (λ (found : Option (List ℕ)). unwrap_or found [] ∷ boot.slices ∷ []) (sym named)

  pub record-written : {One Two : Type 0} (one : One) (two : Two) (before mid after : World) → WritesOutput name
      script (Ok one) before mid → WritesOutput boot.slices slices (Ok two) mid after → RecordsSession boot typed
      Written before after
  record-written one two before mid after first second = (
    fits,
    record {
      script = script;
      slices = slices;
      give = give;
      files =
          subst (λ (names : List (List ℕ)). IfObserved (WritesAll names (script ∷ slices ∷ [])) before.files after.files) names-are
          (both-written name boot.slices script slices before.files mid.files after.files first.written second.written);
      no_fault = none-then before mid after first.no_fault second.no_fault;
    },
  )

  first-partly : (before after : World) → IfObserved (WritesUpTo 0 (name ∷ []) (script ∷ [])) before.files after.files → WritesPartly boot typed 0 before after
  first-partly before after part = record {
    script = script;
    slices = slices;
    give = give;
    files =
        subst (λ (names : List (List ℕ)). IfObserved (WritesUpTo 0 names (script ∷ slices ∷ [])) before.files
        after.files) names-are (first-part name boot.slices script slices before.files after.files part);
  }

  second-partly : (before mid after : World) → IfObserved (WritesAll (name ∷ []) (script ∷ [])) before.files mid.files
      → IfObserved (WritesUpTo 0 (boot.slices ∷ []) (slices ∷ [])) mid.files after.files → WritesPartly boot typed 1
      before after
  second-partly before mid after wrote part = record {
    script = script;
    slices = slices;
    give = give;
    files =
        subst (λ (names : List (List ℕ)). IfObserved (WritesUpTo 1 names (script ∷ slices ∷ [])) before.files after.files) names-are
        (second-part name boot.slices script slices before.files mid.files after.files wrote part);
  }

  -- the script was not written
  pub script-failed : {One : Type 0} (before after : World) → WritesOutput {Value = One} name script (Err Host.Failed) before after → RecordsSession boot typed (Unwritten Script) before after
  script-failed before after it = (fits, record { text = tt; name = name; named = named; failed = it.failed; partly = first-partly before after it.part })

  pub script-memory : {One : Type 0} (before after : World) → WritesOutput {Value = One} name script (Err Host.OutOfMemory) before after → RecordsSession boot typed NoMemory before after
  script-memory before after it = (fits, it.no_fault, inr (0, first-partly before after it.part))

  -- it was, and the slices were not
  pub slices-failed : {One Two : Type 0} (one : One) (before mid after : World) → WritesOutput name script (Ok one)
      before mid → WritesOutput {Value = Two} boot.slices slices (Err Host.Failed) mid after → RecordsSession boot
      typed (Unwritten Slices) before after
  slices-failed one before mid after first second =
      let failed : FailsToWriteFile boot.slices before after = (subst (λ (count : ℕ). Rose count after.faults) first.no_fault.0 second.failed.0, second.failed.1, second.failed.2) in
      (fits, record { text = tt; name = boot.slices; named = refl; failed = failed; partly = second-partly before mid after first.written second.part })

  pub slices-memory : {One Two : Type 0} (one : One) (before mid after : World) → WritesOutput name script (Ok one)
      before mid → WritesOutput {Value = Two} boot.slices slices (Err Host.OutOfMemory) mid after
      → RecordsSession boot typed NoMemory before after
  slices-memory one before mid after first second =
      (fits, none-then before mid after first.no_fault second.no_fault, inr (1, second-partly before mid after first.written second.part))

-- the output and the devices are as they were if they were so at each write
pub silent-then : (before mid after : World) → IsSilent before mid → IsSilent mid after → IsSilent before after
silent-then before mid after first second = record { out = second.out ∙ first.out; devices = second.devices ∙ first.devices }

pub silent-output : {Value : Type 0} (name bytes : List ℕ) (answer : Result Value HostFault) (before after : World) → WritesOutput name bytes answer before after → IsSilent before after
silent-output name bytes answer before after it = record { out = it.out; devices = it.devices }

-- ---- the names

written-then : (one two : List (List ℕ)) (before mid after : Notes) → HasWritten one before mid → HasWritten two mid after → HasWritten (one ++ two) before after
written-then one two before mid after first second =
    record { is = second.is ∙ ap (having_written two) first.is ∙ (λ i. record before { written = append_assoc before.written one two i }) }

-- memory was out for the script
pub script-unnoted : (boot : RunWords) (name : List ℕ) (before after : Notes) → boot.script ≡ Some name
    → HasWritten [] before after ⊎ HasWritten (name ∷ []) before after → HasWrittenRecord boot NoMemory before after
script-unnoted boot name before after named (inl none) = ([], (record_names boot, refl), none)
script-unnoted boot name before after named (inr one) =
    (name ∷ [], (boot.slices ∷ [], ap (λ (found : Option (List ℕ)). unwrap_or found [] ∷ boot.slices ∷ []) named), one)

-- or for the slices
pub slices-unnoted : (boot : RunWords) (name : List ℕ) (before mid after : Notes) → boot.script ≡ Some name
    → HasWritten (name ∷ []) before mid → HasWritten [] mid after ⊎ HasWritten (boot.slices ∷ []) mid after
    → HasWrittenRecord boot NoMemory before after
slices-unnoted boot name before mid after named first (inl none) =
    (name ∷ [], (boot.slices ∷ [], ap (λ (found : Option (List ℕ)). unwrap_or found [] ∷ boot.slices ∷ []) named), written-then (name ∷ []) [] before mid after first none)
slices-unnoted boot name before mid after named first (inr one) =
    (name ∷ boot.slices ∷ [], ([], ap (λ (found : Option (List ℕ)). unwrap_or found [] ∷ boot.slices ∷ []) named), written-then (name ∷ []) (boot.slices ∷ []) before mid after first one)

-- ---- a session that is recorded

pub asked-at : (words : ConsoleWords) (end : End) → (end ≡ Ended) ⊎ (end ≡ Living) → words.recorded ≡ true → is_recorded words end ≡ true
asked-at words end (inl is) asked = ap (is_recorded words) is ∙ asked
asked-at words end (inr is) asked = ap (is_recorded words) is ∙ asked

pub recorded-so : (words : ConsoleWords) (typed : Typed) (end : End) (recording : Recording) (before after : World)
    → is_recorded words end ≡ true → RecordsSession words.boot typed recording before after → IsSilent before after
    → RecordsIfAsked words typed end recording before after
recorded-so words typed end recording before after asked it silent = record {
  unasked = λ none. absurd (false≢true (sym none ∙ asked));
  asked = λ yes. it;
  out = silent.out;
  devices = silent.devices;
}
