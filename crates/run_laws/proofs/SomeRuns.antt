-- Each state has an event without a fault, and each list of slices a run without one.
use Rattle.std.proofs.Common.{◌≡◌, ◌⊎◌, ℕ, ◌<◌, ◌≤◌, ◌==◌, Bool, true, false, Some, List, [], ◌∷◌, length, refl, sym, ap, ◌∙◌, subst, inl, inr, eqb-true}
use Rattle.std.specs.Prelude.{find, if◌then◌else◌, option_map}
use Rattle.std.proofs.lemmas.Option.{none-some, same_Some}
use Rattle.time_rules.specs.CivilTime.{is_time_packet}
use Rattle.time_rules.proofs.Next.{later-packet}
use Rattle.os9_base.specs.declared.registers.TimePacket.{TimePacket}
use Rattle.proc_model.specs.Ready.{act_of, attempts}
use Rattle.io_model.specs.Attempts.{result_of as io_result}
use Rattle.proc_model.specs.Records.{IsLiving}
use Rattle.file_rules.specs.Attempts.{asker_of, file_step, files_after, io_effect}
use Rattle.file_rules.specs.Codes.{path_call_of, path_codes}
use Rattle.file_rules.specs.Files.{KeepsDriveFaults}
use Rattle.file_rules.specs.declared.path_call.PathCall.{PathCall}
use Rattle.file_rules.specs.declared.path_call.PathCall.TheVariants as Call
use Rattle.time_rules.specs.Clock.{IsNow, seconds_since}
use Rattle.machine_model.specs.Run.{Tick}
use Rattle.machine_model.specs.Services.{CallAttempted, Serves, Service, on_paths, service_of}
use Rattle.machine_model.specs.Start.{Boot, Starts}
use Rattle.machine_model.specs.State.{Rest, State}
use Rattle.run_laws.specs.Faults.{CanRise, NoneFailed as NoDeviceFailed}
use Rattle.run_laws.specs.Runs.{MakesFile}
use Rattle.run_laws.proofs.Building.{Builds, Next, SomeRun, SomeSlice, some-run, some-slice}
use Rattle.run_laws.proofs.Moves.{choice-can, emptied-can, event-can, start-can, tick-can}
use Rattle.run_laws.proofs.Steps.{Staying, attempt-event, next-event}
use Rattle.run_laws.proofs.Unfailed.{unfailed}
use Rattle.run_laws.specs.Faultless.{GoesOnWell, HasFaultlessEvent, HasFaultlessRun, HasFaultlessSlice, IsFaultless}
use Rattle.run_laws.proofs.ImagesInOrder.{start-order}
use Rattle.run_laws.proofs.KeepingOrder.{choice-order, event-order, tick-order}
use Rattle.run_laws.proofs.Making.{Goes, create-goes, makdir-goes}

-- ---- the code of a call asks for it

-- the fact holds of each code and its call
abbrev EachCode : (ℕ → PathCall → Type 0) → List (ℕ × PathCall) → Type 0
EachCode fact [] = Unit {0}
EachCode fact (coded ∷ rest) = fact coded.0 coded.1 × EachCode fact rest

found-code : (fact : ℕ → PathCall → Type 0) (codes : List (ℕ × PathCall)) (code : ℕ) (call : PathCall) → EachCode fact codes
    → option_map (λ (coded : ℕ × PathCall). coded.1) (find (λ (coded : ℕ × PathCall). coded.0 == code) codes) ≡ Some call → fact code call
found-code fact [] code call each is = absurd (none-some call is)
found-code fact (coded ∷ rest) code call each is = by_test (coded.0 == code) refl (found-code fact rest code call each.1) is
  where
    by_test : (test : Bool) → (coded.0 == code) ≡ test → (option_map (λ (coded : ℕ × PathCall). coded.1) (find (λ (coded : ℕ × PathCall). coded.0 == code) rest) ≡ Some call → fact code call)
        → option_map (λ (coded : ℕ × PathCall). coded.1) (if test then Some coded else find (λ (coded : ℕ × PathCall). coded.0 == code) rest) ≡ Some call → fact code call
    by_test true at later is =
        subst (λ (n : ℕ). fact n call) (eqb-true coded.0 code at) (subst (fact coded.0) (same_Some coded.1 call is) each.0)
    by_test false at later is = later is

asks-for : (code : ℕ) (call : PathCall) → path_call_of code ≡ Some call → service_of code ≡ on_paths call
asks-for code call is =
    found-code (λ n c. service_of n ≡ on_paths c) path_codes code call
    (refl, (refl, (refl, (refl, (refl, (refl, (refl, (refl, (refl, (refl, (refl, (refl, (refl, (refl, (refl, (refl, tt)))))))))))))))) is

-- ---- an event

-- no drive fails
abbrev Stays : State → State → Type 0
Stays s t = KeepsDriveFaults s.files.drives t.files.drives

module _ (s : State) (p : ℕ) (well : GoesOnWell s) (chosen : s.chosen ≡ Some p) (lives : IsLiving s.processes.records p) where
  -- an attempt of a call on paths without a fault is an event without one
  attempted : (code : ℕ) (call : PathCall) → act_of s.processes p ≡ attempts code → path_call_of code ≡ Some call
      → ((now : TimePacket) → Goes (asker_of s.processes p now) s.files s.terms (file_step call (asker_of s.processes p now) s.files (length s.terms))) → Next Stays s p
  attempted code call next is goes =
      by_time (later-packet s.clock.from (seconds_since s.clock s.processes.tick) well.can.running.clock.civil)
    where
      by_time : (now : TimePacket) × IsNow s.clock s.processes.tick now → Next Stays s p
      by_time (now, is_now) =
          let it : Goes (asker_of s.processes p now) s.files s.terms (file_step call (asker_of s.processes p now) s.files (length s.terms)) = goes now in
          let rest : Rest = record { files = files_after p it.effect; clock = s.clock; terms = it.after } in
          let result = io_result s.processes p (io_effect it.effect) in
          let serves : Serves (on_paths call) s now p result rest = (record { effect = it.effect; does = it.does; result_is = refl; state = refl }, refl) in
          let attempt : CallAttempted code s p result rest = (now, is_now, subst (λ (service : Service). Serves service s now p result rest) (sym (asks-for code call is)) serves) in
          attempt-event s p chosen lives well.can code next Stays result rest attempt it.counts it.stays

  making : MakesFile s → Next Stays s p
  making it = by_call it.makes
    where
      next : act_of s.processes p ≡ attempts it.code
      next =
          subst (λ (q : ℕ). act_of s.processes q ≡ attempts it.code) (same_Some it.p p (sym it.chosen ∙ chosen)) it.next

      by_call : (path_call_of it.code ≡ Some Call.Create) ⊎ (path_call_of it.code ≡ Some Call.MakDir) → Next Stays s p
      by_call (inl is) =
          attempted it.code Call.Create next is (λ now. create-goes (asker_of s.processes p now) s.files s.terms well.can.running.kinds well.can.mounted well.order well.can.running.on)
      by_call (inr is) =
          attempted it.code Call.MakDir next is (λ now. makdir-goes (asker_of s.processes p now) s.files s.terms well.can.running.kinds well.can.mounted well.order)

  next-well : Next Stays s p
  next-well = by_still (next-event s p chosen lives well.can)
    where
      by_still : Next Staying s p → Next Stays s p
      by_still next =
          elim (next.still) [
            | inl none ↦
                record {
                  end = next.end;
                  last = next.last;
                  event = next.event;
                  chosen = next.chosen;
                  goes = next.goes;
                  counts = next.counts;
                  still = none;
                }
            | inr makes ↦ making makes
          ]

-- ---- slices and runs

well-builds : Builds GoesOnWell Stays
well-builds = record {
  next = next-well;
  event =
      λ s t end event well. record { can = event-can s t end event well.can; order = event-order s t end event well.can well.order };
  tick = λ s t tick well. record { can = tick-can s t tick well.can; order = tick-order s t tick well.order };
  choice = λ s t choice well. record { can = choice-can s t choice well.can; order = choice-order s t choice well.order };
  taken = λ m well. record { can = emptied-can m well.can; order = well.order };
  same = λ s. refl;
  then = λ s m t first second. second ∙ first;
  ticked = tick-stays;
  chose = λ s t choice. ap (λ (t : State). t.files.drives) choice;
  took = λ m. refl;
}
  where
    tick-stays : (s t : State) → Tick s t → Stays s t
    tick-stays s t (desk, arrives, is) = ap (λ (t : State). t.files.drives) is

pub event-faultless : (s : State) (p : ℕ) → GoesOnWell s → s.chosen ≡ Some p → IsLiving s.processes.records p → HasFaultlessEvent s
event-faultless s p well chosen lives =
    let it : Next Stays s p = next-well s p well chosen lives in
    record {
      end = it.end;
      last = it.last;
      event = it.event;
      faultless = record { terminals = it.counts; drives = it.still };
    }

pub slice-faultless : (n : ℕ) (s : State) → GoesOnWell s → HasFaultlessSlice n s
slice-faultless n s well =
    let it : SomeSlice GoesOnWell Stays well-builds n s = some-slice GoesOnWell Stays well-builds n s well in
    record {
      states = it.states;
      end = it.end;
      last = it.last;
      slice = it.slice;
      faultless = record { terminals = it.counts; drives = it.still };
    }

pub run-faultless : (slices : List ℕ) (s : State) → GoesOnWell s → HasFaultlessRun slices s
run-faultless slices s well =
    let it : SomeRun GoesOnWell Stays well-builds slices s = some-run GoesOnWell Stays well-builds slices s well in
    record {
      states = it.states;
      written = it.written;
      last = it.last;
      run = it.run;
      faultless = record { terminals = it.counts; drives = it.still };
    }

pub started-faultless : (boot : Boot) (slices : List ℕ) (s : State) → Starts boot s → 0 < length boot.terms → length boot.terms ≤ 4 → is_time_packet boot.time ≡ true
    → length boot.images ≤ length boot.drives → HasFaultlessRun slices s
started-faultless boot slices s starts some few time drives =
    run-faultless slices s (record { can = start-can boot s starts some few time drives; order = start-order boot s starts })

pub none-failed : (s t : State) → IsFaultless s t → CanRise s → NoDeviceFailed s t
none-failed s t it rise = unfailed s t it.terminals it.drives rise
