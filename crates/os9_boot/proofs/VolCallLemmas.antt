-- From the steps of `vol` to how it ends.
use Rattle.std.proofs.Common.{◌≡◌, ◌≢◌, ℕ, zero, suc, Option, Some, None, Result, Ok, Err, List, [], take, append-nil, refl, sym, ap, subst, ◌∙◌, inl, inr, arith}
use Rattle.std.specs.Prelude.{IfSome}
use Rattle.os9_base.specs.Count.{Rose}
use Rattle.os9_outer.specs.Host.{HostFiles, IfObserved, file_contents}
use Rattle.os9_outer.specs.Stream.{GainsPrefix, stream_with}
use Rattle.os9_words.specs.declared.vol_words.Verb.{Verb}
use Rattle.os9_words.specs.declared.vol_words.Verb.TheVariants.{Format, Put, Get, Mkdir, Delete, Dir, Repair}
use Rattle.os9_words.specs.declared.vol_words.VolWords.{VolWords}
use Rattle.rbf_model.specs.Faults.{IsFault}
use Rattle.vol_tools.specs.Tool.{Tool}
use Rattle.file_drives.specs.Drives.{drive_states, media_of}
use Rattle.file_rules.specs.Files.{KeepsDriveFaults}
use Rattle.os9_kernel.specs.Outside.{Outside}
use Rattle.boot_run.specs.BootFile.{IsVolume}
use Rattle.boot_run.specs.Images.{WritesAll, WritesUpTo}
use Rattle.boot_run.specs.World.{World, HasNoFault}
use Rattle.boot_run.specs.Left.{ChangesOnly}
use Rattle.boot_run.specs.Stops.{StopsAtRead}
use Rattle.boot_run.specs.declared.status.End.{End}
use Rattle.boot_run.specs.declared.status.End.TheVariants.{Ended, CannotRead, CannotWrite, CannotWriteImage, CannotWriteFile, NoMemory, BadImage, DriveFailed, Refused}
use Rattle.boot_run.proofs.ChangeLemmas.{all-change, first-change, same-changes}
use Rattle.os9_boot.specs.VolCall.{MakesCall, MakesQuietly, VolCall}
use Rattle.os9_boot.specs.VolLeft.{LeavesMade, LeavesQuiet, PrintsLines, VolLeavesFiles, VolMayEnd}
use Rattle.os9_boot.specs.VolSteps.{DrivesAfter, Finishes, FormatsDisk, HasVolFiles, MakesOf, PrintEnds, WritesEnd}
use Rattle.os9_boot.specs.Vol.{MakesBy, MakesThen, PrintsAndStops, PrintsAndWrites, PrintsFirstLines, RefusesBy, VolComesTo, file_of, path_of, printed_of, tool_of, vol_file_name, vol_outputs, vol_tool, written_of}
use Rattle.os9_boot.specs.declared.files.VolFiles.{VolFiles}
use Rattle.os9_boot.specs.declared.made.Made.{Made}

-- ---- worlds

of-any : (told : Option HostFiles) (fact : HostFiles → Type 0) → ((files : HostFiles) → fact files) → IfSome told fact
of-any None fact holds = tt
of-any (Some files) fact holds = holds files

of-each : (told : Option HostFiles) (one other : HostFiles → Type 0) → ((files : HostFiles) → one files → other files) → IfSome told one → IfSome told other
of-each None one other follows holds = tt
of-each (Some files) one other follows holds = follows files holds

pub devices-quiet : (before after : World) → after.devices ≡ before.devices → LeavesQuiet before after
devices-quiet before after same = record {
  terminals = ap (λ (devices : Outside). devices.terms) same;
  none_failed = ap (λ (devices : Outside). drive_states devices.drives) same;
  media_kept = ap (λ (devices : Outside). media_of devices.drives) same;
}

-- a verb prints lines, or none
prints-lines : (verb : Verb) (answer : List ℕ) → printed_of verb answer ≢ [] → PrintsLines verb
prints-lines Format answer some = some refl
prints-lines Put answer some = some refl
prints-lines Get answer some = some refl
prints-lines Mkdir answer some = some refl
prints-lines Delete answer some = some refl
prints-lines Dir answer some = tt
prints-lines Repair answer some = tt

prints-none : (verb : Verb) (answer : List ℕ) → ¬ PrintsLines verb → printed_of verb answer ≡ []
prints-none Format answer none = refl
prints-none Put answer none = refl
prints-none Get answer none = refl
prints-none Mkdir answer none = refl
prints-none Delete answer none = refl
prints-none Dir answer none = absurd (none tt)
prints-none Repair answer none = absurd (none tt)

with-none : (stream : Option (List ℕ)) → stream_with stream [] ≡ stream
with-none None = refl
with-none (Some bytes) = ap (λ bytes. Some bytes) (append-nil bytes)

first-of-none : (count : ℕ) → take {A = ℕ} count [] ≡ []
first-of-none zero = refl
first-of-none (suc count) = refl

none-gained : (before after : World) → GainsPrefix before.out [] after.out → after.out ≡ before.out
none-gained before after (count, is) =
    is ∙ ap (stream_with before.out) (first-of-none count) ∙ with-none before.out

-- so the output of a verb without lines is as it was, behind them and behind the first of them
out-printed : (verb : Verb) (answer : List ℕ) (before after : World) → after.out ≡ stream_with before.out (printed_of verb answer) → ¬ PrintsLines verb → after.out ≡ before.out
out-printed verb answer before after is none =
    is ∙ ap (stream_with before.out) (prints-none verb answer none) ∙ with-none before.out

out-begun : (verb : Verb) (answer : List ℕ) (before after : World) → GainsPrefix before.out (printed_of verb answer) after.out → ¬ PrintsLines verb → after.out ≡ before.out
out-begun verb answer before after gains none =
    none-gained before after (subst (λ bytes. GainsPrefix before.out bytes after.out) (prints-none verb answer none) gains)

pub files-same : (vol : VolWords) (before after : World) (end : End) → after.files ≡ before.files → VolLeavesFiles vol before after end
files-same vol before after Ended same = same-changes (vol_outputs vol) before.files after.files same
files-same vol before after (CannotWriteImage number) same = same-changes (vol_outputs vol) before.files after.files same
files-same vol before after CannotWriteFile same = same-changes (vol_outputs vol) before.files after.files same
files-same vol before after NoMemory same = same-changes (vol_outputs vol) before.files after.files same
files-same vol before after end same = same

no-fault-same : (before after : World) → after ≡ before → HasNoFault before after
no-fault-same before after same =
    (ap (λ (w : World). w.faults) same, ap (λ (w : World). w.failed_name) same, ap (λ (w : World). w.failed_in_read) same)

no-fault-then : (before mid after : World) → HasNoFault before mid → HasNoFault mid after → HasNoFault before after
no-fault-then before mid after first second = (second.0 ∙ first.0, second.1 ∙ first.1, second.2 ∙ first.2)

-- ---- reads that end it

pub read-ended : (vol : VolWords) (before after : World) (end : End) → VolMayEnd vol.verb end → StopsAtRead (vol_file_name vol) before after end → VolCall vol before after end
read-ended vol before after (CannotRead input) may (name, named, could) = record {
  comes = of-any before.files (λ files. VolComesTo files vol before after (CannotRead input)) (λ files. tt);
  may = may;
  devices = record { out = could.out; devices = could.devices };
  host = (name, named, could.failed);
  files = could.files;
}
read-ended vol before after NoMemory may same = record {
  comes = of-any before.files (λ files. VolComesTo files vol before after NoMemory) (λ files. inl (record { output = ap (λ (w : World). w.out) same; files = ap (λ (w : World). w.files) same }));
  may = tt;
  devices = record { quiet = devices-quiet before after (ap (λ (w : World). w.devices) same); out = λ none. ap (λ (w : World). w.out) same };
  host = no-fault-same before after same;
  files = files-same vol before after NoMemory (ap (λ (w : World). w.files) same);
}
read-ended vol before after end may stops = absurd stops

-- ---- what is made

-- the tool has the bytes that FILE holds, if it has any
tool-same : (verb : Verb) (path one other : List ℕ) → (verb ≡ Put → one ≡ other) → tool_of verb path one ≡ tool_of verb path other
tool-same Format path one other same = refl
tool-same Put path one other same = ap (λ bytes. tool_of Put path bytes) (same refl)
tool-same Get path one other same = refl
tool-same Mkdir path one other same = refl
tool-same Delete path one other same = refl
tool-same Dir path one other same = refl
tool-same Repair path one other same = refl

-- a disk was formatted
module _ (vol : VolWords) (world : World) (format : vol.verb ≡ Format) where
  no-tool : (bytes : List ℕ) → tool_of vol.verb (path_of vol) bytes ≡ None
  no-tool bytes = ap (λ verb. tool_of verb (path_of vol) bytes) format

  pub formatted : (result : Result Made End) → FormatsDisk vol result → MakesCall vol result world world
  formatted (Ok made) is = record {
    makes = of-any world.files (λ files. MakesBy (vol_tool files vol) vol (file_contents files vol.image)
        made.answer.items made.image.items) (λ files. subst (λ tool. MakesBy tool vol (file_contents files vol.image)
        made.answer.items made.image.items) (sym (no-tool (file_contents files (file_of vol)))) is);
    out = refl;
    files = refl;
    no_fault = (refl, refl, refl);
    devices = devices-quiet world world refl;
  }
  formatted (Err NoMemory) is = read-ended vol world world NoMemory tt refl
  formatted (Err end) is = absurd is

-- the verb was done with what was read, and only the devices have changed
module _ (vol : VolWords) (read : VolFiles) (before : World) (devices : Outside) (has : IfSome before.files (λ files. HasVolFiles files vol read)) (terms : devices.terms ≡ before.devices.terms) where
  abbrev after : World
  after = record before { devices = devices }

  -- what holds of the tool and of the image that were read holds of those of the files
  of-read : (fact : Option Tool → List ℕ → Type 0) → fact (tool_of vol.verb (path_of vol) read.file.items)
      read.image.items → IfSome before.files (λ files. fact (vol_tool files vol) (file_contents files vol.image))
  of-read fact holds =
      of-each before.files (λ files. HasVolFiles files vol read) (λ files. fact (vol_tool files vol)
      (file_contents files vol.image)) (λ files has. subst (λ tool. fact tool (file_contents files vol.image))
      (tool-same vol.verb (path_of vol) read.file.items (file_contents files (file_of vol)) has.file)
      (subst (λ image. fact (tool_of vol.verb (path_of vol) read.file.items) image) has.image holds)) has

  quiet : KeepsDriveFaults (drive_states before.devices.drives) (drive_states devices.drives) → media_of devices.drives ≡ media_of before.devices.drives → LeavesQuiet before after
  quiet counts media = record { terminals = terms; none_failed = counts; media_kept = media }

  pub made-of : (result : Result Made End) → MakesOf vol read.image.items read.file.items result → DrivesAfter result before.devices.drives devices.drives → MakesCall vol result before after
  made-of (Ok made) is drives = record {
    makes = of-read (λ tool image. MakesBy tool vol image made.answer.items made.image.items) is;
    out = refl;
    files = refl;
    no_fault = (refl, refl, refl);
    devices = quiet drives.fails drives.media_kept;
  }
  made-of (Err (BadImage number fault)) is drives = record {
    comes = of-read (λ tool image. IsFault image fault.rule fault.lsn) is.is;
    may = is.reads;
    devices = record { out = refl; devices = λ i. record { drives = drives.fails i; terms = terms i } };
    host = (refl, refl, refl);
    files = refl;
  }
  made-of (Err (Refused number)) is drives = record {
    comes = of-read (λ tool image. RefusesBy tool vol image number) is.refuses;
    may = is.mounts;
    devices = record { out = refl; quiet = quiet drives.fails drives.media_kept };
    host = (refl, refl, refl);
    files = refl;
  }
  made-of (Err (DriveFailed drive number)) is drives = record {
    comes = of-read (λ tool image. IsVolume image) is.volume;
    may = is.may;
    devices = record { among = omega (arith, is.may.first); failed = drives.fails; media_kept = drives.media_kept; terms_kept = terms; out_kept = refl };
    host = (refl, refl, refl);
    files = refl;
  }
  made-of (Err NoMemory) is drives = record {
    comes = of-any before.files (λ files. VolComesTo files vol before after NoMemory) (λ files. inl (record { output = refl; files = refl }));
    may = tt;
    devices = record { quiet = quiet drives.fails drives.media_kept; out = λ none. refl };
    host = (refl, refl, refl);
    files = files-same vol before after NoMemory refl;
  }
  made-of (Err end) is drives = absurd is

-- it ended in a world that is that one
pub made-in : (vol : VolWords) (result : Result Made End) (before mid after : World) → after ≡ mid → MakesCall vol result before mid → MakesCall vol result before after
made-in vol result before mid after same call = subst (λ world. MakesCall vol result before world) (sym same) call

-- ---- what is printed and written

module _ (vol : VolWords) (made : Made) (before mid after : World) (quiet : MakesQuietly vol made before mid) where
  abbrev out : List ℕ
  out = printed_of vol.verb made.answer.items

  abbrev written : List (List ℕ)
  written = written_of vol.verb made.answer.items made.image.items

  -- what comes of what was made
  comes-then : (then_ : List ℕ → List (List ℕ) → Type 0) → then_ out written → IfSome before.files (λ files. MakesThen files vol then_)
  comes-then then_ rest =
      of-each before.files (λ files. MakesBy (vol_tool files vol) vol (file_contents files vol.image) made.answer.items made.image.items) (λ files. MakesThen files vol then_) (λ files makes. record {
        out = out;
        written = written;
        makes = record { answer = made.answer.items; image = made.image.items; made = makes; out_is = refl; written_is = refl };
        rest = rest;
      }) quiet.makes

  still-quiet : (last : World) → last.devices ≡ mid.devices → LeavesQuiet before last
  still-quiet last same =
      let here = devices-quiet mid last same in
      record {
        terminals = here.terminals ∙ quiet.devices.terminals;
        none_failed = here.none_failed ∙ quiet.devices.none_failed;
        media_kept = here.media_kept ∙ quiet.devices.media_kept;
      }

  -- the lines were printed, and the write began in this world
  module _ (printed : World) (output : printed.out ≡ stream_with mid.out out) (sure : HasNoFault mid printed)
      (kept : printed.files ≡ mid.files) (same : printed.devices ≡ mid.devices) (last_out : after.out ≡ printed.out)
      (last_devices : after.devices ≡ printed.devices) where
    whole : after.out ≡ stream_with before.out out
    whole = last_out ∙ output ∙ ap (λ stream. stream_with stream out) quiet.out

    first : HasNoFault before printed
    first = no-fault-then before mid printed quiet.no_fault sure

    files-from : (fact : HostFiles → HostFiles → Type 0) → IfObserved fact printed.files after.files → IfObserved fact before.files after.files
    files-from fact wrote = subst (λ files. IfObserved fact files after.files) (kept ∙ quiet.files) wrote

    rose-from : Rose printed.faults after.faults → Rose before.faults after.faults
    rose-from rose = subst (λ faults. Rose faults after.faults) first.0 rose

    leaves : LeavesMade vol.verb before after
    leaves = record { quiet = still-quiet after (last_devices ∙ same); out = out-printed vol.verb made.answer.items before after whole }

    stops : IfObserved (WritesUpTo 0 (vol_outputs vol) written) printed.files after.files → PrintsAndStops (vol_outputs vol) before after out written
    stops part = record { output = whole; files = files-from (WritesUpTo 0 (vol_outputs vol) written) part }

    changes-part : IfObserved (WritesUpTo 0 (vol_outputs vol) written) printed.files after.files → IfObserved (ChangesOnly (vol_outputs vol)) before.files after.files
    changes-part part = first-change 0 (vol_outputs vol) written before.files after.files (files-from (WritesUpTo 0 (vol_outputs vol) written) part)

    written-then : (end : End) → WritesEnd vol written printed after end → VolCall vol before after end
    written-then Ended (done, all) = record {
      comes = comes-then (PrintsAndWrites (vol_outputs vol) before after) (record { output = whole; files = files-from (WritesAll (vol_outputs vol) written) all });
      may = tt;
      devices = leaves;
      host = no-fault-then before printed after first done;
      files = all-change (vol_outputs vol) written before.files after.files (files-from (WritesAll (vol_outputs vol) written) all);
    }
    written-then (CannotWriteImage number) (first_image, verb, failed, part) = record {
      comes = comes-then (PrintsAndStops (vol_outputs vol) before after) (stops part.part);
      may = (first_image, verb);
      devices = leaves;
      host = (vol.image, refl, (rose-from failed.0, failed.1, failed.2));
      files = changes-part part.part;
    }
    written-then CannotWriteFile (verb, (name, named, failed), part) = record {
      comes = comes-then (PrintsAndStops (vol_outputs vol) before after) (stops part.part);
      may = verb;
      devices = leaves;
      host = (name, named, (rose-from failed.0, failed.1, failed.2));
      files = changes-part part.part;
    }
    written-then NoMemory (done, part) = record {
      comes = of-each before.files (λ files. MakesThen files vol (PrintsAndStops (vol_outputs vol) before after))
          (λ files. VolComesTo files vol before after NoMemory) (λ files makes. inr (inr makes))
          (comes-then (PrintsAndStops (vol_outputs vol) before after) (stops part.part));
      may = tt;
      devices = leaves;
      host = no-fault-then before printed after first done;
      files = changes-part part.part;
    }
    written-then end ends = absurd ends

  -- or the print ended it
  gains-out : GainsPrefix mid.out out after.out → GainsPrefix before.out out after.out
  gains-out prefix = subst (λ stream. GainsPrefix stream out after.out) quiet.out prefix

  prints-first : GainsPrefix mid.out out after.out → out ≢ [] → after.files ≡ mid.files → PrintsFirstLines before after out written
  prints-first prefix some files = record { output = gains-out prefix; files = files ∙ quiet.files; some = some }

  begun-lines : GainsPrefix mid.out out after.out → after.files ≡ mid.files → after.devices ≡ mid.devices → LeavesMade vol.verb before after
  begun-lines prefix files same = record {
    quiet = still-quiet after same;
    out = out-begun vol.verb made.answer.items before after (gains-out prefix);
  }

  print-ended : (end : End) → PrintEnds out end mid after → VolCall vol before after end
  print-ended CannotWrite ends = record {
    comes = comes-then (PrintsFirstLines before after) (prints-first ends.prefix ends.some ends.files);
    may = prints-lines vol.verb made.answer.items ends.some;
    devices = begun-lines ends.prefix ends.files ends.devices;
    host = (subst (λ faults. Rose faults after.faults) quiet.no_fault.0 ends.stopped.0, ends.stopped.1, ends.stopped.2);
    files = ends.files ∙ quiet.files;
  }
  print-ended NoMemory ends = record {
    comes = of-each before.files (λ files. MakesThen files vol (PrintsFirstLines before after))
        (λ files. VolComesTo files vol before after NoMemory) (λ files makes. inr (inl makes))
        (comes-then (PrintsFirstLines before after) (prints-first ends.prefix ends.some ends.files));
    may = tt;
    devices = begun-lines ends.prefix ends.files ends.devices;
    host = no-fault-then before mid after quiet.no_fault ends.stopped;
    files = files-same vol before after NoMemory (ends.files ∙ quiet.files);
  }
  print-ended end ends = absurd ends.stopped

  pub finished : (end : End) → Finishes vol made.answer.items made.image.items end mid after → VolCall vol before after end
  finished end (inl then_) =
      written-then then_.mid then_.output then_.no_fault then_.files then_.devices then_.writes.out then_.writes.devices end then_.writes.ends
  finished end (inr ends) = print-ended end ends
