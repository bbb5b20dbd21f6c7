-- The file that a command makes, and what is passed to the output stream.
use Rattle.std.proofs.Common.{◌≡◌, ◌≢◌, ◌⊎◌, ℕ, false, Option, None, Some, Result, Ok, Err, OnOk, List, [], ◌∷◌, ◌++◌, refl, sym, ap, ◌∙◌, append-nil, inl, inr}
use Rattle.os9_base.specs.Count.{Rose}
use Rattle.os9_outer.specs.Host.{HostFiles, IfObserved, KeepsOrHoldsPrefix, NotesName, OnFailed, UnlessFailed}
use Rattle.os9_outer.specs.declared.host.HostFault.{HostFault}
use Rattle.os9_outer.specs.declared.host.HostFault.TheVariants.{Failed, OutOfMemory}
use Rattle.os9_outer.specs.Stream.{stream_with}
use Rattle.os9_words.specs.Notes.{HasWritten, Notes}
use Rattle.boot_run.specs.Images.{WritesAll, WritesUpTo}
use Rattle.boot_run.proofs.ImageLemmas.{none-written, writes-more, writes-up_to}
use Rattle.boot_run.specs.World.{World}
use Rattle.boot_run.specs.Output.{NotesOutput, Prints, WritesOutput}

module _ (name bytes : List ℕ) (before after : Option HostFiles) (others : IfObserved (λ before now. (other : List ℕ) → other ≢ name → now other ≡ before other) before after) where
  -- it was written whole
  pub written-one : IfObserved (λ before now. now name ≡ Some bytes) before after → IfObserved (WritesAll (name ∷ []) (bytes ∷ [])) before after
  written-one written =
      writes-more 0 (name ∷ []) (bytes ∷ []) name bytes before before after refl refl (none-written (name ∷ []) (bytes ∷ []) before) written others

  -- or in part
  pub part-of-one : IfObserved (λ before now. KeepsOrHoldsPrefix (before name) bytes (now name)) before after → IfObserved (WritesUpTo 0 (name ∷ []) (bytes ∷ [])) before after
  part-of-one part =
      writes-up_to 0 (name ∷ []) (bytes ∷ []) name bytes before before after refl refl (none-written (name ∷ []) (bytes ∷ []) before) part others

-- its name was noted
module _ (name : List ℕ) (before after : Notes) (read : after.read ≡ before.read) (err : after.err ≡ before.err) (err_faults : after.err_faults ≡ before.err_faults) where
  pub noted-one : after.written ≡ before.written ++ name ∷ [] → HasWritten (name ∷ []) before after
  noted-one written = record { is = λ i. record { read = read i; written = written i; err = err i; err_faults = err_faults i } }

  pub noted-no-name : after.written ≡ before.written → HasWritten [] before after
  noted-no-name written =
      let more : after.written ≡ before.written ++ [] = written ∙ sym (append-nil before.written) in
      record { is = λ i. record { read = read i; written = more i; err = err i; err_faults = err_faults i } }

  pub noted-or-not : (after.written ≡ before.written) ⊎ (after.written ≡ before.written ++ name ∷ []) → HasWritten [] before after ⊎ HasWritten (name ∷ []) before after
  noted-or-not (inl written) = inl (noted-no-name written)
  noted-or-not (inr written) = inr (noted-one written)

-- ---- the output stream

-- no bytes
pub stream-with-none : (stream : Option (List ℕ)) → stream ≡ stream_with stream []
stream-with-none None = refl
stream-with-none (Some bytes) = ap Some (sym (append-nil bytes))

-- ---- what is left

module _ {Value : Type 0} (name bytes : List ℕ) (before after : World)
    (others : IfObserved (λ before now. (other : List ℕ) → other ≢ name → now other ≡ before other) before.files
    after.files) (part : IfObserved (λ before now. KeepsOrHoldsPrefix (before name) bytes (now name)) before.files
    after.files) (out : after.out ≡ before.out) (devices : after.devices ≡ before.devices) where
  pub wrote-output : (answer : Result Value HostFault) → OnOk answer (IfObserved (λ before now. now name ≡ Some bytes)
      before.files after.files) → OnFailed answer (Rose before.faults after.faults)
      → OnFailed answer (after.failed_name ≡ Some name) → OnFailed answer (after.failed_in_read ≡ false)
      → UnlessFailed answer (after.faults ≡ before.faults) → UnlessFailed answer
      (after.failed_name ≡ before.failed_name) → UnlessFailed answer (after.failed_in_read ≡ before.failed_in_read)
      → WritesOutput name bytes answer before after
  wrote-output (Ok value) written rose named in_write count kept_name kept_read = record {
    written = written-one name bytes before.files after.files others written;
    part = tt;
    failed = tt;
    no_fault = (count, kept_name, kept_read);
    out = out;
    devices = devices;
  }
  wrote-output (Err Failed) written rose named in_write count kept_name kept_read = record {
    written = tt;
    part = part-of-one name bytes before.files after.files others part;
    failed = (rose, named, in_write);
    no_fault = tt;
    out = out;
    devices = devices;
  }
  wrote-output (Err OutOfMemory) written rose named in_write count kept_name kept_read = record {
    written = tt;
    part = part-of-one name bytes before.files after.files others part;
    failed = tt;
    no_fault = (count, kept_name, kept_read);
    out = out;
    devices = devices;
  }

pub noted-output : {Value : Type 0} (name : List ℕ) (before after : Notes) → after.read ≡ before.read
    → after.err ≡ before.err → after.err_faults ≡ before.err_faults → (answer : Result Value HostFault)
    → NotesName answer name before.written after.written → NotesOutput name answer before after
noted-output name before after read err err_faults (Ok value) written = noted-one name before after read err err_faults written
noted-output name before after read err err_faults (Err Failed) written = noted-one name before after read err err_faults written
noted-output name before after read err err_faults (Err OutOfMemory) written = noted-or-not name before after read err err_faults written

-- no bytes were passed to the output stream
pub printed-none : (bytes : List ℕ) (world : World) → bytes ≡ [] → Prints {Value = Unit {0}} bytes (Ok tt) world world
printed-none bytes world none = rw none (record {
  whole = stream-with-none world.out;
  prefix = (0, stream-with-none world.out);
  no_fault = (refl, refl, refl);
  stopped = tt;
  some = tt;
  files = refl;
  devices = refl;
})
