-- What is printed and written of what a verb has made.
use Rattle.std.proofs.Common.{◌≡◌, ◌≢◌, ◌⊎◌, ◌<◌, ℕ, Option, Some, None, Ok, Err, List, [], ◌∷◌, length, slice_get, refl, sym, subst, ap, ◌∙◌, inl, inr, arith}
use Rattle.std.specs.Prelude.{unwrap_or}
use Rattle.os9_outer.specs.Host.{HostFiles, IfObserved}
use Rattle.os9_outer.specs.Stream.{GainsPrefix, stream_with}
use Rattle.os9_outer.specs.declared.host.HostFault.TheVariants.{Failed, OutOfMemory}
use Rattle.os9_words.specs.Notes.{HasWritten, Notes}
use Rattle.os9_words.specs.Vol.{IsVol, rest_count}
use Rattle.os9_words.specs.declared.vol_words.Verb.{Verb}
use Rattle.os9_words.specs.declared.vol_words.Verb.TheVariants.{Format, Put, Get, Mkdir, Delete, Dir, Repair}
use Rattle.os9_words.specs.declared.vol_words.VolWords.{VolWords}
use Rattle.boot_run.specs.Images.{WritesAll, WritesUpTo}
use Rattle.boot_run.specs.World.{World}
use Rattle.boot_run.specs.Output.{Prints, WritesOutput}
use Rattle.boot_run.specs.declared.status.End.{End}
use Rattle.boot_run.specs.declared.status.End.TheVariants.{Ended, CannotWrite, CannotWriteImage, CannotWriteFile, NoMemory}
use Rattle.boot_run.proofs.ReadLemmas.{written-none}
use Rattle.os9_boot.specs.VolLeft.{NotesOutputs, WritesImage}
use Rattle.os9_boot.specs.VolSteps.{Finishes, WritesMade}
use Rattle.os9_boot.specs.Vol.{outputs_of, printed_of, vol_outputs, written_of}

-- ---- the verbs

-- it is neither `dir` nor `get`
pub writes-image : (verb : Verb) → verb ≢ Dir → verb ≢ Get → WritesImage verb
writes-image Format no_dir no_get = tt
writes-image Put no_dir no_get = tt
writes-image Get no_dir no_get = absurd (no_get refl)
writes-image Mkdir no_dir no_get = tt
writes-image Delete no_dir no_get = tt
writes-image Dir no_dir no_get = absurd (no_dir refl)
writes-image Repair no_dir no_get = tt

image-outputs : (verb : Verb) (vol : VolWords) → WritesImage verb → outputs_of verb vol ≡ vol.image ∷ []
image-outputs Format vol writes = refl
image-outputs Put vol writes = refl
image-outputs Get vol writes = absurd writes
image-outputs Mkdir vol writes = refl
image-outputs Delete vol writes = refl
image-outputs Dir vol writes = absurd writes
image-outputs Repair vol writes = refl

image-written : (verb : Verb) (answer image : List ℕ) → WritesImage verb → written_of verb answer image ≡ image ∷ []
image-written Format answer image writes = refl
image-written Put answer image writes = refl
image-written Get answer image writes = absurd writes
image-written Mkdir answer image writes = refl
image-written Delete answer image writes = refl
image-written Dir answer image writes = absurd writes
image-written Repair answer image writes = refl

-- `get` has FILE
pub get-file : (vol : VolWords) → IsVol vol → vol.verb ≡ Get → 1 < length vol.rest
get-file vol words get =
    let count : length vol.rest ≡ 2 = words.words ∙ ap rest_count get in
    omega (arith, count)

get-outputs : (vol : VolWords) (name : List ℕ) → slice_get vol.rest 1 ≡ Some name → vol.verb ≡ Get → vol_outputs vol ≡ name ∷ []
get-outputs vol name is get =
    ap (λ verb. outputs_of verb vol) get ∙ ap (λ word. unwrap_or word [] ∷ []) is

-- ---- a file that is written

-- names and bytes that are those of one file
all-of : (names written : List (List ℕ)) (name bytes : List ℕ) (before after : Option HostFiles) → names ≡ name ∷ []
    → written ≡ bytes ∷ [] → IfObserved (WritesAll (name ∷ []) (bytes ∷ [])) before after
    → IfObserved (WritesAll names written) before after
all-of names written name bytes before after is are wrote =
    subst (λ names. IfObserved (WritesAll names written) before after) (sym is) (subst (λ written. IfObserved (WritesAll (name ∷ []) written) before after) (sym are) wrote)

part-of : (names written : List (List ℕ)) (name bytes : List ℕ) (before after : Option HostFiles) → names ≡ name ∷ []
    → written ≡ bytes ∷ [] → IfObserved (WritesUpTo 0 (name ∷ []) (bytes ∷ [])) before after
    → IfObserved (WritesUpTo 0 names written) before after
part-of names written name bytes before after is are wrote =
    subst (λ names. IfObserved (WritesUpTo 0 names written) before after) (sym is) (subst (λ written. IfObserved (WritesUpTo 0 (name ∷ []) written) before after) (sym are) wrote)

-- FILE of `get`
module _ (vol : VolWords) (name answer image : List ℕ) (before after : World) (get : vol.verb ≡ Get) (named : slice_get vol.rest 1 ≡ Some name) where
  answer-is : written_of vol.verb answer image ≡ answer ∷ []
  answer-is = ap (λ verb. written_of verb answer image) get

  pub answer-written : (value : Unit {0}) → WritesOutput {Value = Unit {0}} name answer (Ok value) before after → WritesMade vol answer image Ended before after
  answer-written value wrote = record {
    ends = (wrote.no_fault, all-of (vol_outputs vol) (written_of vol.verb answer image) name answer before.files after.files (get-outputs vol name named get) answer-is wrote.written);
    out = wrote.out;
    devices = wrote.devices;
  }

  pub answer-failed : WritesOutput {Value = Unit {0}} name answer (Err Failed) before after → WritesMade vol answer image CannotWriteFile before after
  answer-failed wrote = record {
    ends = (
      get,
      (name, named, wrote.failed),
      record {
        part = part-of (vol_outputs vol) (written_of vol.verb answer
            image) name answer before.files after.files (get-outputs vol name named get) answer-is wrote.part;
      },
    );
    out = wrote.out;
    devices = wrote.devices;
  }

  pub answer-wanting : WritesOutput {Value = Unit {0}} name answer (Err OutOfMemory) before after → WritesMade vol answer image NoMemory before after
  answer-wanting wrote = record {
    ends = (wrote.no_fault, record { part = part-of (vol_outputs vol) (written_of vol.verb answer image) name answer before.files after.files (get-outputs vol name named get) answer-is wrote.part });
    out = wrote.out;
    devices = wrote.devices;
  }

-- the image
module _ (vol : VolWords) (answer image : List ℕ) (before after : World) (writes : WritesImage vol.verb) where
  pub image-wrote : (value : Unit {0}) → WritesOutput {Value = Unit {0}} vol.image image (Ok value) before after → WritesMade vol answer image Ended before after
  image-wrote value wrote = record {
    ends = (
      wrote.no_fault,
      all-of (vol_outputs vol) (written_of vol.verb answer image) vol.image image before.files
          after.files (image-outputs vol.verb vol writes) (image-written vol.verb answer image writes) wrote.written,
    );
    out = wrote.out;
    devices = wrote.devices;
  }

  pub image-failed : WritesOutput {Value = Unit {0}} vol.image image (Err Failed) before after → WritesMade vol answer image (CannotWriteImage 0) before after
  image-failed wrote = record {
    ends = (
      refl,
      writes,
      wrote.failed,
      record {
        part = part-of (vol_outputs vol) (written_of vol.verb answer image)
            vol.image image before.files after.files (image-outputs vol.verb vol writes) (image-written vol.verb answer
            image writes) wrote.part;
      },
    );
    out = wrote.out;
    devices = wrote.devices;
  }

  pub image-wanting : WritesOutput {Value = Unit {0}} vol.image image (Err OutOfMemory) before after → WritesMade vol answer image NoMemory before after
  image-wanting wrote = record {
    ends = (
      wrote.no_fault,
      record {
        part = part-of (vol_outputs vol) (written_of vol.verb answer image) vol.image
            image before.files after.files (image-outputs vol.verb vol writes) (image-written vol.verb answer image
            writes) wrote.part;
      },
    );
    out = wrote.out;
    devices = wrote.devices;
  }

-- `dir` writes none
none-all : (files : Option HostFiles) → IfObserved (WritesAll [] []) files files
none-all None = refl
none-all (Some files) = λ name. refl

pub dir-written : (vol : VolWords) (answer image : List ℕ) (world : World) → vol.verb ≡ Dir → WritesMade vol answer image Ended world world
dir-written vol answer image world dir = record {
  ends = ((refl, refl, refl), subst (λ verb. IfObserved (WritesAll (outputs_of verb vol) (written_of verb answer image)) world.files world.files) (sym dir) (none-all world.files));
  out = refl;
  devices = refl;
}

-- ---- its name

pub noted-dir : (vol : VolWords) (notes : Notes) → vol.verb ≡ Dir → NotesOutputs vol Ended notes notes
noted-dir vol notes dir = record {
  written = [];
  writes = sym (ap (λ verb. outputs_of verb vol) dir);
  noted = written-none notes;
}

module _ (vol : VolWords) (name : List ℕ) (only : vol_outputs vol ≡ name ∷ []) (before after : Notes) where
  -- it is that of the one file
  pub noted-whole : HasWritten (name ∷ []) before after → NotesOutputs vol Ended before after
  noted-whole noted = record { written = name ∷ []; writes = sym only; noted = noted }

  pub noted-image : HasWritten (name ∷ []) before after → NotesOutputs vol (CannotWriteImage 0) before after
  noted-image noted = record { written = name ∷ []; writes = sym only; noted = noted }

  pub noted-file : HasWritten (name ∷ []) before after → NotesOutputs vol CannotWriteFile before after
  noted-file noted = record { written = name ∷ []; writes = sym only; noted = noted }

  pub noted-wanting : HasWritten [] before after ⊎ HasWritten (name ∷ []) before after → NotesOutputs vol NoMemory before after
  noted-wanting (inl noted) = record { written = []; writes = (vol_outputs vol, refl); noted = noted }
  noted-wanting (inr noted) = record { written = name ∷ []; writes = ([], only); noted = noted }

pub outputs-get : (vol : VolWords) (name : List ℕ) → slice_get vol.rest 1 ≡ Some name → vol.verb ≡ Get → vol_outputs vol ≡ name ∷ []
outputs-get vol name is get = get-outputs vol name is get

pub outputs-image : (vol : VolWords) → WritesImage vol.verb → vol_outputs vol ≡ vol.image ∷ []
outputs-image vol writes = image-outputs vol.verb vol writes

-- ---- the whole

-- the lines were printed, and then its file was written
pub prints-then : (vol : VolWords) (bytes answer image : List ℕ) (end : End) (before mid after : World)
    (value : Unit {0}) → bytes ≡ printed_of vol.verb answer → Prints {Value = Unit {0}} bytes (Ok value) before mid
    → WritesMade vol answer image end mid after → Finishes vol answer image end before after
prints-then vol bytes answer image end before mid after value is printed writes = inl (record {
  mid = mid;
  output = subst (λ bytes. mid.out ≡ stream_with before.out bytes) is printed.whole;
  no_fault = printed.no_fault;
  files = printed.files;
  devices = printed.devices;
  writes = writes;
})

-- or the print ended it
pub print-ends : (vol : VolWords) (bytes answer image : List ℕ) (end : End) (before after : World)
    → bytes ≡ printed_of vol.verb answer → Prints {Value = Unit {0}} bytes (Err end) before after
    → Finishes vol answer image end before after
print-ends vol bytes answer image end before after is printed = inr (record {
  prefix = subst (λ bytes. GainsPrefix before.out bytes after.out) is printed.prefix;
  some = subst (λ bytes. bytes ≢ []) is printed.some;
  stopped = printed.stopped;
  files = printed.files;
  devices = printed.devices;
})

pub noted-print : (vol : VolWords) (bytes : List ℕ) (end : End) (before after : World) (notes : Notes) → Prints {Value = Unit {0}} bytes (Err end) before after → NotesOutputs vol end notes notes
noted-print vol bytes CannotWrite before after notes printed = record { written = []; writes = refl; noted = written-none notes }
noted-print vol bytes NoMemory before after notes printed = record { written = []; writes = (vol_outputs vol, refl); noted = written-none notes }
noted-print vol bytes end before after notes printed = absurd printed.stopped
