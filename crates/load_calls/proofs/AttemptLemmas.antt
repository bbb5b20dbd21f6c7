-- What attempts come to that read a file of modules.
use Rattle.std.proofs.Common.{◌≡◌, ◌∙◌, ℕ, true, false, is_none, is_some, IsSome, Option, Some, None, MatchOption, Result, Ok, Err, List, ◌⊎◌, inl, inr, refl, ap, sym, subst, arith}
use Rattle.std.specs.Option.{option_map_or}
use Rattle.os9_base.specs.declared.call.CallEnd.{CallEnd}
use Rattle.os9_base.specs.declared.call.CallEnd.TheVariants.{Error}
use Rattle.os9_base.specs.declared.errors.TheConstants.{E_BPADDR}
use Rattle.os9_base.specs.declared.registers.TimePacket.{TimePacket}
use Rattle.os9_base.specs.declared.name_fault.NameFault.{NameFault}
use Rattle.os9_base.specs.declared.name_fault.NameFault.TheVariants.{NoName, Unreadable}
use Rattle.proc_model.specs.CallResult.{CallResult, refused}
use Rattle.proc_model.specs.Processes.{Processes}
use Rattle.proc_model.specs.ModuleLinks.{Entered}
use Rattle.proc_model.specs.Program.{Program}
use Rattle.load_calls.proofs.LoadedLemmas.{some-memory}
use Rattle.file_drives.specs.Drives.{DriveView, media_of}
use Rattle.file_rules.specs.Files.{Asker, Files, KeepsDriveFaults}
use Rattle.file_rules.specs.Load.{GoesOnLoaded, Loaded}
use Rattle.file_rules.specs.Attempts.{asker_of}
use Rattle.file_rules.specs.Program.{StartsFile, named_program, parameters_of, starts_first, tests_program}
use Rattle.file_rules.specs.ProgramFile.{ProgramFile, ReadingIsBroken, ReadsProgram, program_file, reading_of}
use Rattle.file_rules.specs.Step.{Step, refuses}
use Rattle.file_rules.specs.Route.{list_of, reads_list}
use Rattle.file_state.proofs.CountLemmas.{called-more, called-none}
use Rattle.file_state.specs.Attempt.{MachineOnDrives}
use Rattle.file_state.specs.Counted.{CalledAtMost}
use Rattle.file_state.specs.Tie.{AreSoundFiles, RepresentsFiles}
use Rattle.file_state.specs.declared.state.FileState.{FileState}
use Rattle.io_model.specs.PathList.{PathList}
use Rattle.proc_state.specs.Tie.{ReturnsDoneOrRefused, ReturnsCallEnd, RepresentsProcesses, processes_of}
use Rattle.proc_state.specs.declared.state.ProcState.{ProcState}
use Rattle.load_calls.specs.Reading.{AnswersReading, IsInBuffer, ReadsTo}
use Rattle.load_calls.specs.declared.reading.ProgramRead.{ProgramRead}
use Rattle.load_calls.specs.Attempts.{AttemptsBy, file_calls, start_calls}
use Rattle.load_calls.specs.Loading.{GoesOn}

-- ---- by what was read

-- what an attempt comes to by the file that it reads
pub record ByFile (step : Step ProgramFile) (m : Processes) (next : ProgramFile → Loaded → CallResult) (was : Files) (p : ℕ) (end : CallEnd) (processes : ProcState) (left : Files) : Type 0 where
  pub result : CallResult
  pub reading : Result ProgramFile ℕ
  pub reads : ReadsProgram step reading was left
  pub goes : GoesOnLoaded m reading next result
  pub comes : ReturnsCallEnd m p result end processes

module _ (step : Step ProgramFile) (most : ℕ) (m : Processes) (next : ProgramFile → Loaded → CallResult) (was : Files) (p : ℕ) (buffer : List ℕ) (new : FileState)
    (before after : List DriveView) where
  -- it is refused by what was read
  pub file-refused : (number : ℕ) (processes : ProcState) (read : ReadsTo step most was (Err number) buffer new before
      after) → RepresentsProcesses processes m → ByFile step m next was p (Error number) processes read.left
  file-refused number processes read stands = by read.reading read.reads read.answers
    where
      by : (reading : Result ProgramFile ℕ) → ReadsProgram step reading was read.left → AnswersReading buffer reading (Err number) → ByFile step m next was p (Error number) processes read.left
      by (Err refusal) reads answers = record {
        result = refused refusal;
        reading = Err refusal;
        reads = reads;
        goes = refl;
        comes = (ap Error answers, stands);
      }
      by (Ok file) reads answers = absurd answers

  -- or it goes on
  pub file-read : (it : ProgramRead) (outcome : Result (Unit {0}) ℕ) (end : CallEnd) (processes : ProcState)
      (read : ReadsTo step most was (Ok it) buffer new before after)
      → ((file : ProgramFile) → ReadsProgram step (Ok file) was read.left → IsInBuffer buffer file it
      → GoesOn m file next outcome processes) → ((call : CallResult) → ReturnsDoneOrRefused m call outcome processes
      → ReturnsCallEnd m p call end processes) → ByFile step m next was p end processes read.left
  file-read it outcome end processes read on ends = by read.reading read.reads read.answers
    where
      by : (reading : Result ProgramFile ℕ) → ReadsProgram step reading was read.left → AnswersReading buffer reading (Ok it) → ByFile step m next was p end processes read.left
      by (Err refusal) reads answers = absurd answers
      by (Ok file) reads answers =
          let done = on file reads answers in record {
            result = done.result;
            reading = Ok file;
            reads = reads;
            goes = done.goes;
            comes = ends done.result done.answers;
          }

-- ---- what stays of the files

-- paths, terminals and pipes stay, and so do directories and records
pub record KeepsPaths (old new : FileState) : Type 0 where
  pub io : new.io ≡ old.io
  pub directories : new.directories ≡ old.directories
  pub records : new.records ≡ old.records

paths-kept : (step : Step ProgramFile) (most : ℕ) (was : Files) (buffer : List ℕ) (old new : FileState)
    (views before after : List DriveView) (result : Result ProgramRead ℕ) → RepresentsFiles old views was
    → ReadsTo step most was result buffer new before after → KeepsPaths old new
paths-kept step most was buffer old new views before after result stands read = record {
  io = sym read.stands.io ∙ ap (λ (files : Files). files.io) read.reads.state ∙ stands.io;
  directories = sym read.stands.directories ∙ ap (λ (files : Files). files.directories) read.reads.state ∙ stands.directories;
  records = sym read.stands.records ∙ ap (λ (files : Files). files.records) read.reads.state ∙ stands.records;
}

-- the processes are those of some machine
some-inner : (processes : ProcState) → (m : Processes) × RepresentsProcesses processes m
some-inner processes =
    let memory = some-memory processes.memory in (processes_of processes memory.0, record { memory = memory.1; is = refl })

-- some time
some-time : TimePacket
some-time = record { year = 90; month = 1; day = 1; hour = 0; minute = 0; second = 0 }

-- so it is where a file was read
pub reading-keeps : (processes : ProcState) (old new : FileState) (before after : List DriveView)
    (result : Result ProgramRead ℕ) (buffer : List ℕ) (step : Processes → Files → TimePacket → Step ProgramFile)
    (most : Processes → Files → TimePacket → ℕ) → AreSoundFiles old before → ((m : Processes) (was : Files) (now : TimePacket)
    → RepresentsProcesses processes m → RepresentsFiles old before was → ReadsTo (step m was now) (most m was now) was result buffer
    new before after) → KeepsPaths old new
reading-keeps processes old new before after result buffer step most sound reads =
    let it = some-inner processes in
    paths-kept (step it.0 sound.files some-time) (most it.0 sound.files some-time) sound.files buffer old new before
    before after result sound.stands (reads it.0 sound.files some-time it.1 sound.stands)

-- ---- the parameters

-- they are all there where the file of a program was read
pub parameters-there : (asker : Asker) (files left : Files) (terms : ℕ) (m : Processes) (p : ℕ) (file : ProgramFile)
    → ReadsProgram (program_file asker files terms (tests_program m p)) (Ok file) files left
    → IsSome (parameters_of m p)
parameters-there asker files left terms m p file reads = by_outcome reads.outcome
  where
    by_params : (params : Option (List ℕ)) (step : Step ProgramFile) → Ok file ≡ reading_of (refuses (is_none params) E_BPADDR step) → IsSome params
    by_params None step is = absurd cc
    by_params (Some bytes) step is = refl

    by_list : (list : Result PathList NameFault) (next : PathList → Step ProgramFile) → Ok file ≡ reading_of (reads_list list (tests_program m p) next) → IsSome (parameters_of m p)
    by_list (Ok list) next is = by_params (parameters_of m p) _ is
    by_list (Err Unreadable) next is = absurd cc
    by_list (Err NoName) next is = by_params (parameters_of m p) _ is

    by_outcome : ((Ok file ≡ reading_of (program_file asker files terms (tests_program m p))) × KeepsDriveFaults
        files.drives reads.drives) ⊎ ReadingIsBroken (program_file asker files terms (tests_program m p)) (Ok file)
        files.drives reads.drives → IsSome (parameters_of m p)
    by_outcome (inl well) = by_list (list_of asker) _ well.0
    by_outcome (inr broken) = absurd (let no = broken.is in cc)

-- ---- by the name of an entered module

pub match-some : {A : Type 0} (place : Option A) (none : Type 0) (some : A → Type 0) → is_some place ≡ true → ((a : A) → some a) → MatchOption place none some
match-some None none some is all = absurd cc
match-some (Some a) none some is all = all a

pub match-none : {A : Type 0} (place : Option A) (none : Type 0) (some : A → Type 0) → is_some place ≡ false → none → MatchOption place none some
match-none None none some is it = it
match-none (Some a) none some is it = absurd cc

pub place-none : {A : Type 0} (place : Option A) → is_some place ≡ false → place ≡ None
place-none None is = refl
place-none (Some a) is = absurd cc

-- ---- attempts of calls that start a program

module _ (start : Processes → ℕ → Program → CallResult) (full : Processes → ℕ → CallResult) (m : Processes) (p : ℕ) (now : TimePacket) (was : Files) (terms : ℕ) (end : CallEnd)
    (before after : MachineOnDrives) where
  abbrev asker : Asker
  asker = asker_of m p now

  -- it is that of an entered module or of a file
  abbrev pub StartAttempts : CallResult → Files → Type 0
  StartAttempts result left =
      MatchOption (named_program m p) (StartsFile start m asker was terms p result left) (λ named. (result ≡ full m p) × (left ≡ was))

  abbrev pub StartAttempted : Type 0
  StartAttempted = AttemptsBy StartAttempts m p end (start_calls m p now was terms) before after

  -- of an entered module
  pub start-named : is_some (named_program m p) ≡ true → ReturnsCallEnd m p (full m p) end after.processes → RepresentsFiles after.files after.views was → after.views ≡ before.views → StartAttempted
  start-named named comes stands same = record {
    result = full m p;
    left = was;
    attempted = match-some (named_program m p) (StartsFile start m asker was terms p (full m p) was) (λ named. (full m p ≡ full m p) × (was ≡ was)) named (λ named. (refl, refl));
    comes = comes;
    stands = stands;
    calls = called-more 0 (start_calls m p now was terms) before.views after.views (omega arith) (subst (CalledAtMost 0 before.views) (sym same) (called-none before.views));
    media_kept = ap media_of same;
  }

  abbrev tested : Step ProgramFile
  tested = program_file asker was terms (tests_program m p)

  abbrev ReadsBy : (Step ProgramFile → Step ProgramFile) → Result ProgramRead ℕ → List ℕ → Type 0
  ReadsBy test result buffer = ReadsTo (program_file asker was terms test) (file_calls asker was terms test) was result buffer after.files before.views after.views

  -- of a file, by what was read
  pub start-by-file : is_some (named_program m p) ≡ false → (test : Step ProgramFile → Step ProgramFile)
      → test ≡ tests_program m p → (result : Result ProgramRead ℕ) (buffer : List ℕ)
      → ReadsTo (program_file asker was terms test) (file_calls asker was terms test) was result buffer after.files
      before.views after.views
      → ((read : ReadsTo tested (file_calls asker was terms (tests_program m p)) was result buffer after.files
      before.views after.views) → ByFile tested m (starts_first start m p) was p end after.processes read.left)
      → StartAttempted
  start-by-file unnamed test test_is result buffer first comes =
      let read : ReadsBy (tests_program m p) result buffer = subst (λ (test : Step ProgramFile → Step ProgramFile). ReadsBy test result buffer) test_is first in
      let by = comes read in record {
        result = by.result;
        left = read.left;
        attempted = match-none (named_program m p) (StartsFile start m asker was terms p by.result read.left)
            (λ named. (by.result ≡ full m p) × (read.left ≡ was)) unnamed
            (record { reading = by.reading; reads = by.reads; comes = by.goes });
        comes = by.comes;
        stands = read.stands;
        calls = subst (λ (most : ℕ). CalledAtMost most before.views after.views)
            (sym (ap (λ (place : Option Entered). option_map_or (λ named. 0) place (file_calls asker was terms
            (tests_program m p))) (place-none (named_program m p) unnamed))) read.calls;
        media_kept = read.media_kept;
      }
