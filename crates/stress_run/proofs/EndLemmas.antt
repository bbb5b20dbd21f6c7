-- From what a run leaves, and what is told behind it, to what a stress leaves.
use Rattle.std.proofs.Common.{◌≡◌, ◌≢◌, ◌⊎◌, ℕ, ◌<◌, Bool, true, false, Option, Some, None, Ok, Err, List, ◌++◌, All, slice_get, inl, inr, refl, sym, ap, ◌∙◌, subst, arith, append_assoc}
use Rattle.std.specs.Prelude.{Result}
use Rattle.std.proofs.lemmas.List.{append-nil}
use Rattle.boot_run.specs.Outcome.{EndsWithImages, IsImageOf, RunsImages, with_images_in}
use Rattle.boot_run.specs.Console.{IsObserved}
use Rattle.boot_run.specs.Machine.{IsUnrun, RunsFirst}
use Rattle.boot_run.specs.World.{FailsToWrite, HasNoFault, World, world_of}
use Rattle.boot_run.specs.declared.machine.RunEnd.{RunEnd}
use Rattle.boot_run.specs.declared.machine.RunEnd.TheVariants as Run
use Rattle.os9_kernel.specs.Outside.{Outside}
use Rattle.os9_base.specs.Count.{Rose}
use Rattle.os9_outer.specs.Stream.{GainsPrefix, stream_with}
use Rattle.os9_outer.specs.declared.host.Host.{Ghosts}
use Rattle.os9_outer.specs.declared.host.HostFault.{HostFault}
use Rattle.os9_outer.specs.declared.host.HostFault.TheVariants.{Failed, OutOfMemory}
use Rattle.os9_words.specs.Streams.{WritesOut}
use Rattle.lock_model.specs.declared.history.Entry.{Entry}
use Rattle.guest_mods.specs.Stress.{IsLoad}
use Rattle.machine_model.specs.ProcessStart.{RefusesBoot}
use Rattle.machine_model.specs.declared.ends.BootFault.{BootFault}
use Rattle.os9_words.specs.Lines.{stress_line}
use Rattle.rbf_model.specs.Volume.{DiskVolume}
use Rattle.stress_run.proofs.Started.{never-refused-accepted}
use Rattle.guest_mods.proofs.AcceptedLemmas.{accepted}
use Rattle.stress_run.specs.Counts.{counts_with}
use Rattle.stress_run.specs.Disk.{seed_disk, seed_file}
use Rattle.stress_run.specs.Stress.{LeavesStress, StressCall, StressComesTo, StressEnds, StressRuns, StressStops, StressUnprinted, stress_counts, stress_load, stress_setup}
use Rattle.stress_run.specs.Told.{TellsCounts, ReportsRunEnd, TellsNothing, WritesCounts, end_told}
use Rattle.stress_run.specs.declared.stress.StressEnd.{StressEnd}
use Rattle.stress_run.specs.declared.stress.StressEnd.TheVariants.{Ended, Living, DriveFailed, OutputFailed, NoMemory}

-- ---- nothing is written

gains-none : (stream : Option (List ℕ)) (text : List ℕ) → GainsPrefix stream text stream
gains-none None text = (0, refl)
gains-none (Some bytes) text = (0, ap Some (sym (append-nil bytes)))

abbrev no_memory : Result (Unit {0}) HostFault
no_memory = Err OutOfMemory

pub writes-none : {Host : Type 0} (members : Ghosts Host) (text : List ℕ) (host : Host) → WritesOut members text no_memory host host
writes-none members text host = record {
  whole = tt;
  prefix = gains-none (members.bytes_out host) text;
  fault_counted = tt;
  fault_unnamed = tt;
  fault_in_out = tt;
  count_kept = refl;
  name_kept = refl;
  read_kept = refl;
  files_kept = refl;
  err_kept = refl;
  err_count_kept = refl;
  reads_kept = refl;
  writes_kept = refl;
}

-- text behind text
stream-twice : (stream : Option (List ℕ)) (one other : List ℕ) → stream_with (stream_with stream one) other ≡ stream_with stream (one ++ other)
stream-twice None one other = refl
stream-twice (Some bytes) one other = ap Some (append_assoc bytes one other)

-- ---- the boot file

-- it is that of a load that there may be, so no machine refuses it
is-load : (seed : ℕ) → seed < 2147483648 → IsLoad (stress_load seed)
is-load seed below = record {
  seed = below;
  some_workers = omega arith;
  few_workers = omega arith;
  some_passes = omega arith;
  few_passes = omega arith;
  some_records = omega arith;
  few_records = omega arith;
}

never-refused : (seed : ℕ) → seed < 2147483648 → (fault : BootFault) → RefusesBoot (seed_file seed) 64 fault → ⊥
never-refused seed below fault refuses =
    never-refused-accepted (seed_file seed) 64 (accepted (stress_load seed) (is-load seed below)) fault refuses

-- ---- the machine ran to its end

module _ {Host : Type 0} (members : Ghosts Host) (seed : ℕ) (below : seed < 2147483648) (images : List (List ℕ)) (history : List Entry)
    (image : List ℕ) (first : slice_get images 0 ≡ Some image) (host ran : Host) (before after : Outside) where
  abbrev World-before : World
  World-before = world_of members host before

  abbrev World-ran : World
  World-ran = world_of members ran after

  -- what it left, where the counts of its last state are told next
  module _ (lives : Bool) (begun : ℕ) (gives : EndsWithImages (stress_setup seed) lives begun images history World-before World-ran) (told : Host) where
    abbrev World-told : World
    World-told = world_of members told after

    image-is : IsImageOf gives.t 0 (seed_disk seed) image
    image-is = gives.outcome.volumes.each 0 (seed_disk seed) image refl first

    abbrev volume : DiskVolume
    volume = image-is.volume

    counts-are : stress_line (counts_with begun volume) ≡ stress_counts gives.t volume
    counts-are = ap (λ slices. stress_line (counts_with slices volume)) gives.ticks

    runs : StressRuns seed gives.t gives.written volume World-before World-told
    runs = record {
      images = images;
      outcome = record {
        s = gives.outcome.s;
        starts = gives.outcome.starts;
        states = gives.outcome.states;
        run = gives.outcome.run;
        terminals = gives.outcome.terminals;
        drives = gives.outcome.drives;
        volumes = gives.outcome.volumes;
        unchanged = gives.outcome.unchanged;
      };
      is = image-is.is;
    }

    -- the line is out
    ends : members.bytes_out told ≡ stream_with (members.bytes_out ran) (stress_line (counts_with begun volume)) → StressEnds seed lives World-before World-told
    ends whole = record {
      t = gives.t;
      written = gives.written;
      volume = volume;
      runs = runs;
      living = gives.living;
      output = whole ∙ ap (λ line. stream_with (members.bytes_out ran) line) counts-are ∙ ap (λ out. stream_with out (stress_counts gives.t volume)) gives.output
          ∙ stream-twice (members.bytes_out host) gives.written (stress_counts gives.t volume);
    }

    -- a part of it
    unprinted : GainsPrefix (members.bytes_out ran) (stress_line (counts_with begun volume)) (members.bytes_out told) → StressUnprinted seed World-before World-told
    unprinted part = record {
      t = gives.t;
      written = gives.written;
      volume = volume;
      runs = runs;
      output = subst (λ line. GainsPrefix (stream_with (members.bytes_out host) gives.written) line (members.bytes_out told)) counts-are
          (subst (λ out. GainsPrefix out (stress_line (counts_with begun volume)) (members.bytes_out told)) gives.output part);
    }

  -- by what comes of the counts
  told-comes : (whole : StressEnd) (lives : Bool) (begun : ℕ) (told : Host) (answer : Result (Unit {0}) HostFault)
      → (StressEnds seed lives World-before (world_of members told after) → StressComesTo seed World-before (world_of members told after) whole)
      → EndsWithImages (stress_setup seed) lives begun images history World-before World-ran → WritesCounts members begun image answer ran told
      → StressComesTo seed World-before (world_of members told after) (end_told whole answer)
  told-comes whole lives begun told (Ok done) comes gives wrote =
      let is = image-is lives begun gives told in
      comes (ends lives begun gives told (wrote.counts is.volume is.back.volume).whole)
  told-comes whole lives begun told (Err Failed) comes gives wrote =
      let is = image-is lives begun gives told in
      inr (unprinted lives begun gives told (wrote.counts is.volume is.back.volume).prefix)
  told-comes whole lives begun told (Err OutOfMemory) comes gives wrote =
      let is = image-is lives begun gives told in
      inr (inr (unprinted lives begun gives told (wrote.counts is.volume is.back.volume).prefix))

  -- the host failed where the line was not written
  told-failed : (whole : StressEnd) (slices : ℕ) (told : Host) (answer : Result (Unit {0}) HostFault)
      → whole ≢ OutputFailed → HasNoFault World-before World-ran → WritesCounts members slices image answer ran told
      → end_told whole answer ≡ OutputFailed → FailsToWrite World-before (world_of members told after)
  told-failed whole slices told (Ok done) other kept wrote is = absurd (other is)
  told-failed whole slices told (Err Failed) other kept wrote is =
      (subst (λ faults. Rose faults (members.host_faults told)) kept.0 wrote.writes.fault_counted, wrote.writes.fault_unnamed, wrote.writes.fault_in_out)
  told-failed whole slices told (Err OutOfMemory) other kept wrote is = cc

  told-kept : (whole : StressEnd) (slices : ℕ) (told : Host) (answer : Result (Unit {0}) HostFault) → HasNoFault World-before World-ran → WritesCounts members slices image answer ran told
      → end_told whole answer ≢ OutputFailed → HasNoFault World-before (world_of members told after)
  told-kept whole slices told (Ok done) kept wrote other =
      (wrote.writes.count_kept ∙ kept.0, wrote.writes.name_kept ∙ kept.1, wrote.writes.read_kept ∙ kept.2)
  told-kept whole slices told (Err Failed) kept wrote other = absurd (other refl)
  told-kept whole slices told (Err OutOfMemory) kept wrote other =
      (wrote.writes.count_kept ∙ kept.0, wrote.writes.name_kept ∙ kept.1, wrote.writes.read_kept ∙ kept.2)

  told-devices : (whole : StressEnd) (told : Host) (answer : Result (Unit {0}) HostFault) → LeavesStress World-before
      (world_of members told after) whole → LeavesStress World-before (world_of members told after)
      (end_told whole answer)
  told-devices whole told (Ok done) leaves = leaves
  told-devices whole told (Err Failed) leaves = tt
  told-devices whole told (Err OutOfMemory) leaves = tt

  -- the counts were told behind a run that came to its end
  with-counts : (whole : StressEnd) (lives : Bool) (begun : ℕ) (run_end : RunEnd) (end : StressEnd) (told : Host) → whole ≢ OutputFailed → run_end ≢ Run.OutputFailed
      → (StressEnds seed lives World-before (world_of members told after) → StressComesTo seed World-before (world_of members told after) whole)
      → LeavesStress World-before (world_of members told after) whole
      → RunsImages (stress_setup seed) images history World-before World-ran run_end
      → (All IsObserved before.terms → EndsWithImages (stress_setup seed) lives begun images history World-before World-ran)
      → TellsCounts members whole begun image end ran told → StressCall seed World-before (world_of members told after) end
  with-counts whole lives begun run_end end told other no_fault comes leaves run gives tells =
      let kept = run.no_fault no_fault in
      subst (StressCall seed World-before (world_of members told after)) (sym tells.is) (record {
        comes = λ observed. told-comes whole lives begun told tells.answer comes (gives observed) tells.writes;
        devices = told-devices whole told tells.answer leaves;
        output_fault = told-failed whole begun told tells.answer other kept tells.writes;
        no_fault = told-kept whole begun told tells.answer kept tells.writes;
        files_kept = tells.writes.writes.files_kept ∙ run.files_kept;
      })

  -- ---- by the end of the run

  -- nothing was told behind a run that stopped
  without-counts : (stopped end : StressEnd) (told : Host) → StressCall seed World-before World-ran stopped
      → TellsNothing stopped end ran told → StressCall seed World-before (world_of members told after) end
  without-counts stopped end told call nothing =
      subst (StressCall seed World-before (world_of members told after)) (sym nothing.is)
      (subst (λ (now : Host). StressCall seed World-before (world_of members now after) stopped) (sym nothing.kept) call)

  pub called : (run_end : RunEnd) (end : StressEnd) (told : Host) → RunsImages (stress_setup seed) images history World-before
      World-ran run_end → ReportsRunEnd members run_end image end ran told → StressCall seed World-before
      (world_of members told after) end
  called (Run.Ended begun) end told run tells =
      with-counts Ended false begun (Run.Ended begun) end told (λ same. cc) (λ same. cc) (λ ends. ends) tt run run.gives tells
  called (Run.Living begun) end told run tells =
      with-counts Living true begun (Run.Living begun) end told (λ same. cc) (λ same. cc) (λ ends. ends) tt run run.gives tells
  called (Run.Refused fault) end told run tells =
      without-counts NoMemory end told (record {
        comes = λ observed. absurd (never-refused seed below fault run.judged);
        devices = tt;
        output_fault = λ same. cc;
        no_fault = λ other. run.no_fault (λ same. cc);
        files_kept = run.files_kept;
      }) tells
  called (Run.DriveFailed drive number) end told run tells =
      without-counts (DriveFailed drive number) end told (record {
        comes = λ observed. tt;
        devices = run.unrun;
        output_fault = λ same. cc;
        no_fault = λ other. run.no_fault (λ same. cc);
        files_kept = run.files_kept;
      }) tells
  called Run.OutputFailed end told run tells =
      without-counts OutputFailed end told (record {
        comes = λ observed. inl (record { images = images; first = run.gives observed });
        devices = tt;
        output_fault = λ same. run.output_fault refl;
        no_fault = λ other. absurd (other refl);
        files_kept = run.files_kept;
      }) tells
  called Run.NoMemory end told run tells =
      without-counts NoMemory end told (record {
        comes = λ observed. stopped (run.gives observed);
        devices = tt;
        output_fault = λ same. cc;
        no_fault = λ other. run.no_fault (λ same. cc);
        files_kept = run.files_kept;
      }) tells
    where
      stopped : IsUnrun World-before World-ran ⊎ RunsFirst (stress_setup seed) World-before (with_images_in images World-ran) → IsUnrun World-before World-ran ⊎ StressStops seed World-before World-ran
      stopped (inl unrun) = inl unrun
      stopped (inr part) = inr (inl (record { images = images; first = part }))

-- ---- nothing was run

pub called-nothing : (seed : ℕ) (world : World) → StressCall seed world world NoMemory
called-nothing seed world = record {
  comes = λ observed. inl (record { out = refl; terminals = refl; none_failed = refl; media_kept = refl });
  devices = tt;
  output_fault = λ same. cc;
  no_fault = λ other. (refl, refl, refl);
  files_kept = refl;
}
