-- What a call of the program for `vol` has left in the file of its image.
use Rattle.std.proofs.Common.{◌≡◌, ◌≢◌, ◌==◌, ℕ, true, false, Option, Some, List, sym, subst, ap, ◌∙◌, inl, inr, arith, unwrap_or}
use Rattle.std.specs.Prelude.{IfSome, MatchOption}
use Rattle.os9_outer.specs.Host.{IfObserved, file_contents}
use Rattle.os9_outer.specs.Stream.{stream_with}
use Rattle.os9_words.specs.Command.{command_of}
use Rattle.os9_words.specs.Notes.{Notes}
use Rattle.os9_words.specs.declared.command.Command.{Command}
use Rattle.os9_words.specs.declared.command.Command.TheVariants.{Vol as VolCommand}
use Rattle.os9_words.specs.declared.vol_words.Verb.{Verb}
use Rattle.os9_words.specs.declared.vol_words.Verb.TheVariants.{Dir, Format, Get}
use Rattle.os9_words.specs.declared.vol_words.VolWords.{VolWords}
use Rattle.rbf_model.specs.Volume.{DiskVolume, Vol}
use Rattle.boot_run.specs.Images.{WritesAll}
use Rattle.boot_run.specs.World.{World}
use Rattle.boot_run.specs.End.{status_number}
use Rattle.boot_run.specs.declared.status.End.{End}
use Rattle.boot_run.specs.declared.status.End.TheVariants.{Ended, Refused}
use Rattle.os9_boot.specs.Vol.{MakesBy, RefusesBy, VolComesTo, file_of, path_of, printed_of, tool_of, vol_outputs, vol_tool, written_of}
use Rattle.os9_boot.specs.Commands.{CommandCall}
use Rattle.os9_boot.specs.TopCall.{CommandReport, TopCall, WordsReport}
use Rattle.os9_boot.specs.Turns.{AreLinesOf, GetsOver, IsCalled, IsDoneOrRefused, AreBytesOfFile, IsTurnOn, PrintsLines, FinishedVolCall, is_done}
use Rattle.os9_boot.proofs.CallVerbs.{Leaves, got, listed, verb-leaves}

-- what the image's file held before a call, and holds now
abbrev pub held : FinishedVolCall → List ℕ
held turn = file_contents turn.files turn.vol.image

abbrev pub holds : FinishedVolCall → List ℕ
holds turn = file_contents turn.now turn.vol.image

-- the bytes of FILE before it
abbrev pub file-bytes : FinishedVolCall → List ℕ
file-bytes turn = file_contents turn.files (file_of turn.vol)

-- the call was done
pub record Done (turn : FinishedVolCall) (called : IsCalled turn) : Type 0 where
  pub told : is_done turn ≡ true
  pub answer : List ℕ
  pub image : List ℕ
  pub printed : called.after.out ≡ stream_with called.before.out (printed_of turn.vol.verb answer)
  pub made : MakesBy (vol_tool turn.files turn.vol) turn.vol (held turn) answer image
  pub wrote : WritesAll (vol_outputs turn.vol) (written_of turn.vol.verb answer image) turn.files turn.now

-- its tool was refused: nothing was written, and the image is that of a volume
pub record IsLeft (turn : FinishedVolCall) : Type 0 where
  pub told : is_done turn ≡ false
  pub kept : turn.now ≡ turn.files
  pub volume : DiskVolume
  pub was : Vol (held turn) volume
  pub tool : turn.vol.verb ≢ Format

pub data Outcome (turn : FinishedVolCall) (called : IsCalled turn) : Type 0 where
  done : Done turn called → Outcome turn called
  left : IsLeft turn → Outcome turn called

-- a refused verb has a tool
of-refusal : (verb : Verb) (path bytes : List ℕ) (vol : VolWords) (old : List ℕ) (number : ℕ)
    → RefusesBy (tool_of verb path bytes) vol old number → (v : DiskVolume) × Vol old v × (verb ≢ Format)
of-refusal Format path bytes vol old number refuses = absurd refuses
of-refusal verb path bytes vol old number (before, after, was, refuses) = (before, was, λ same. cc same)

module _ (turn : FinishedVolCall) (called : IsCalled turn) where
  abbrev before : World
  before = called.before

  abbrev after : World
  after = called.after

  of-done : turn.status ≡ status_number Ended → VolComesTo turn.files turn.vol before after Ended → Done turn called
  of-done told comes =
      let some = subst (λ files. IfObserved (WritesAll (vol_outputs turn.vol) comes.written) files after.files) called.had comes.rest.files in
      let both = subst (λ files. IfObserved (WritesAll (vol_outputs turn.vol) comes.written) (Some turn.files) files) called.has some in
      record {
        told = ap (λ status. status == status_number Ended) told;
        answer = comes.makes.answer;
        image = comes.makes.image;
        printed = comes.rest.output ∙ ap (stream_with before.out) comes.makes.out_is;
        made = comes.makes.made;
        wrote = subst (λ written. WritesAll (vol_outputs turn.vol) written turn.files turn.now) comes.makes.written_is both;
      }

  of-refused : (number : ℕ) → turn.status ≡ status_number (Refused number)
      → VolComesTo turn.files turn.vol before after (Refused number) → after.files ≡ before.files → IsLeft turn
  of-refused number told comes kept =
      let (volume, was, tool) = of-refusal turn.vol.verb (path_of turn.vol) (file-bytes turn) turn.vol (held turn) number comes in
      let same : Some turn.now ≡ Some turn.files = sym called.has ∙ kept ∙ called.had in
      record {
        told = ap (λ status. status == status_number Ended) told;
        kept = ap (λ files. unwrap_or files turn.files) same;
        volume = volume;
        was = was;
        tool = tool;
      }

  -- by the end that gives the status
  of-end : (end : End) → turn.status ≡ status_number end → IsDoneOrRefused turn
      → VolComesTo turn.files turn.vol before after end → CommandCall (VolCommand turn.vol) before after end
      → Outcome turn called
  of-end Ended told ended comes call = done (of-done told comes)
  of-end (Refused number) told ended comes call = left (of-refused number told comes call.files)
  of-end end told (inl is) comes call = absurd (omega (arith, told, is))
  of-end end told (inr (number, is)) comes call = absurd (omega (arith, told, is))

report-of : (words : List (List ℕ)) (vol : VolWords) (before after : World) (noted notes : Notes) (status : ℕ)
    → command_of words ≡ Some (VolCommand vol) → TopCall words before after noted notes status
    → CommandReport (VolCommand vol) before after noted notes status
report-of words vol before after noted notes status spell call =
    subst (λ (found : Option Command). MatchOption found (WordsReport before after noted notes status) (λ command. CommandReport command before after noted notes status)) spell call

pub outcome : (name old : List ℕ) (turn : FinishedVolCall) (is : IsTurnOn name old turn) → Outcome turn is.called
outcome name old turn is =
    let called = is.called in
    let report = report-of called.words turn.vol called.before called.after called.noted called.notes turn.status called.spell called.call in
    let comes = subst (λ told. IfSome told (λ files. VolComesTo files turn.vol called.before called.after report.end)) called.had report.call.comes in
    of-end turn called report.end report.status_is is.ended comes report.call

-- ---- by the name of the image

pub old-is : (name old : List ℕ) (turn : FinishedVolCall) → IsTurnOn name old turn → held turn ≡ old
old-is name old turn is = ap (λ image. file_contents turn.files image) is.image ∙ is.found

new-is : (name old : List ℕ) (turn : FinishedVolCall) → IsTurnOn name old turn → holds turn ≡ file_contents turn.now name
new-is name old turn is = ap (λ image. file_contents turn.now image) is.image

by-name : (name old : List ℕ) (turn : FinishedVolCall) → IsTurnOn name old turn → (fact : List ℕ → List ℕ → Type 0)
    → fact (held turn) (holds turn) → fact old (file_contents turn.now name)
by-name name old turn is fact so =
    subst (fact old) (new-is name old turn is) (subst (λ old. fact old (holds turn)) (old-is name old turn is) so)

-- what a call that was done has left there, if that is no `get` over it
pub done-leaves : (name old : List ℕ) (turn : FinishedVolCall) (is : IsTurnOn name old turn)
    → (turn.vol.verb ≡ Get → file_of turn.vol ≢ turn.vol.image) → Done turn is.called
    → Leaves (vol_tool turn.files turn.vol) turn.vol old (file_contents turn.now name)
done-leaves name old turn is apart it =
    let leaves = verb-leaves turn.vol turn.files turn.now it.answer it.image turn.vol.verb (path_of turn.vol) (file-bytes turn) apart it.made it.wrote in
    by-name name old turn is (Leaves (vol_tool turn.files turn.vol) turn.vol) leaves

-- what a refused call has left there
pub left-same : (name old : List ℕ) (turn : FinishedVolCall) → IsTurnOn name old turn → IsLeft turn
    → file_contents turn.now name ≡ old
left-same name old turn is it = ap (λ files. file_contents files name) it.kept ∙ is.found

-- what a `get` that was done has left in its FILE
pub get-leaves : (name old : List ℕ) (turn : FinishedVolCall) → IsTurnOn name old turn → turn.vol.verb ≡ Get → is_done turn ≡ true
    → AreBytesOfFile old (path_of turn.vol) (file_contents turn.now (file_of turn.vol))
get-leaves name old turn is verb told = by (outcome name old turn is)
  where
    by : Outcome turn is.called → AreBytesOfFile old (path_of turn.vol) (file_contents turn.now (file_of turn.vol))
    by (left it) = absurd (cc (told, it.told))
    by (done it) =
        subst (λ old. AreBytesOfFile old (path_of turn.vol) (file_contents turn.now (file_of turn.vol))) (old-is name old turn is)
        (got turn.vol turn.files turn.now it.answer it.image turn.vol.verb (path_of turn.vol) (file-bytes turn) verb it.made it.wrote)

-- so one over its image
pub over-leaves : (name old : List ℕ) (turn : FinishedVolCall) → IsTurnOn name old turn → GetsOver turn
    → AreBytesOfFile old (path_of turn.vol) (file_contents turn.now name)
over-leaves name old turn is over =
    subst (λ file. AreBytesOfFile old (path_of turn.vol) (file_contents turn.now file)) (over.file ∙ is.image)
    (get-leaves name old turn is over.verb over.done)

-- what a `dir` that was done has printed
pub dir-prints : (name old : List ℕ) (turn : FinishedVolCall) (is : IsTurnOn name old turn) → turn.vol.verb ≡ Dir
    → is_done turn ≡ true → PrintsLines old turn is.called.before is.called.after
dir-prints name old turn is verb told = by (outcome name old turn is)
  where
    by : Outcome turn is.called → PrintsLines old turn is.called.before is.called.after
    by (left it) = absurd (cc (told, it.told))
    by (done it) = record {
      lines = printed_of turn.vol.verb it.answer;
      are =
          subst (λ old. AreLinesOf old (path_of turn.vol) (printed_of turn.vol.verb it.answer)) (old-is name old turn is)
          (listed turn.vol turn.files turn.now it.answer it.image turn.vol.verb (path_of turn.vol) (file-bytes turn) verb it.made);
      printed = it.printed;
    }
