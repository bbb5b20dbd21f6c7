-- Two events of one state in which no device fails are one, unless clusters are taken.
use Rattle.std.proofs.Common.{◌≡◌, ◌⊎◌, ℕ, ◌+◌, Option, Some, None, List, length, refl, sym, ap, ◌∙◌, subst, inl, inr}
use Rattle.std.proofs.lemmas.Option.{same_Some}
use Rattle.time_rules.proofs.Days.{same-packet}
use Rattle.os9_base.specs.declared.registers.TimePacket.{TimePacket}
use Rattle.os9_outer.specs.TerminalState.{TerminalState}
use Rattle.proc_model.specs.Attempts.{after_attempt}
use Rattle.proc_model.specs.Processes.{Processes}
use Rattle.proc_model.specs.CallResult.{CallResult, done, ends, refused, waits}
use Rattle.proc_model.specs.Ready.{Act, attempts, delivers, executes, act_of}
use Rattle.proc_model.specs.declared.proc_call.ProcCall.TheVariants as Call
use Rattle.io_model.specs.Arrivals.{Desk}
use Rattle.io_model.specs.Attempts.{result_by, result_of as io_result}
use Rattle.io_model.specs.Step.{IoEnd}
use Rattle.file_rules.specs.Attempts.{asker_of, file_step, files_after, io_effect}
use Rattle.file_rules.specs.Files.{DriveState, Files, with_io}
use Rattle.file_rules.specs.Step.{FileEffect, FileStep, deed_of, drive_of, with_drives_after}
use Rattle.file_rules.specs.declared.path_call.PathCall.{PathCall}
use Rattle.file_laws.proofs.TouchAttempts.{step-splits}
use Rattle.machine_model.specs.ProcessEvent.{call_event_end}
use Rattle.machine_model.specs.declared.ends.EventEnd.{EventEnd}
use Rattle.machine_model.specs.declared.ends.EventEnd.TheVariants.{Ran}
use Rattle.time_rules.specs.Attempts.{clock_after, result_of as time_result}
use Rattle.time_rules.specs.Clock.{IsNow, seconds_since}
use Rattle.machine_model.specs.Event.{Acts, Event}
use Rattle.machine_model.specs.Run.{Tick, desk_of}
use Rattle.machine_model.specs.Services.{Service, Serves, files_after_call, files_after_fork, loads, no_call, on_paths, on_processes, on_time, service_of, with_files}
use Rattle.machine_model.specs.State.{Rest, State, rest_of, with_rest}
use Rattle.run_laws.specs.Faults.{ChoosesClusters, MayChoose, NoDriveFailed, NoneFailed, SameButClusters, SameEvent}
use Rattle.run_laws.proofs.Deeds.{BothTake, IsDone, MakesChange, OneDeed, attempt-one}
use Rattle.run_laws.proofs.Loading.{OneLoad, chain-one, fork-one, load-one}
use Rattle.run_laws.proofs.Terminals.{NoneOf, arrivals-one}

-- ---- an attempt

-- an attempt came to one end
pub record OneEnd (result other : CallResult) (rest then_rest : Rest) : Type 0 where
  pub results : result ≡ other
  pub rests : rest ≡ then_rest

-- two attempts made one change of a volume that takes clusters
pub record BothServe (service : Service) (s : State) (p : ℕ) (now : TimePacket) (result other : CallResult) (rest then_rest : Rest) : Type 0 where
  pub call : PathCall
  pub asks : service ≡ on_paths call
  pub effect : FileEffect
  pub second : FileEffect
  pub both : BothTake (asker_of s.processes p now) s.files (deed_of (file_step call (asker_of s.processes p now) s.files (length s.terms)) s.files) effect second s.terms rest.terms then_rest.terms
  pub result_is : result ≡ io_result s.processes p (io_effect effect)
  pub other_is : other ≡ io_result s.processes p (io_effect second)
  pub files : rest.files ≡ files_after p effect
  pub then_files : then_rest.files ≡ files_after p second
  pub clock : rest.clock ≡ s.clock
  pub then_clock : then_rest.clock ≡ s.clock

fork-drives : (files : Files) (p : ℕ) (result : CallResult) → (files_after_fork files p result).drives ≡ files.drives
fork-drives files p (done t) = refl
fork-drives files p (refused number) = refl
fork-drives files p (waits t) = refl
fork-drives files p (ends status) = refl

module _ (s : State) (p : ℕ) (now : TimePacket) (result other : CallResult) (rest then_rest : Rest)
    (none : NoneOf s.terms rest.terms) (none_too : NoneOf s.terms then_rest.terms)
    (still : NoDriveFailed s.files.drives rest.files.drives) (still_too : NoDriveFailed s.files.drives
    then_rest.files.drives) where
  -- what an attempt on paths does
  abbrev step_of : PathCall → FileStep
  step_of call = file_step call (asker_of s.processes p now) s.files (length s.terms)

  -- the drives of files that are left
  drives-of : (left : Rest) (files after : Files) → NoDriveFailed s.files.drives left.files.drives → left ≡ with_files s after → after.drives ≡ files.drives → NoDriveFailed s.files.drives files.drives
  drives-of left files after still is same =
      subst (NoDriveFailed s.files.drives) same (subst (λ (left : Rest). NoDriveFailed s.files.drives left.files.drives) is still)

  serves-one : (service : Service) → Serves service s now p result rest → Serves service s now p other then_rest
      → BothServe service s p now result other rest then_rest ⊎ OneEnd result other rest then_rest
  serves-one loads (files, it, is) (second, it_too, is_too) =
      let one : OneLoad result other files second = load-one s.processes (asker_of s.processes p now) s.files (length s.terms)
      p result other files second (drives-of rest files files still is refl) (drives-of then_rest second second
      still_too is_too refl) it it_too in
      inr (record { results = one.results; rests = is ∙ ap (with_files s) one.files ∙ sym is_too })
  serves-one (on_processes Call.Fork) (files, it, is) (second, it_too, is_too) =
      let one : OneLoad result other files second = fork-one s.processes (asker_of s.processes p now) s.files (length s.terms)
      p result other files second (drives-of rest files (files_after_fork files p result) still is
      (fork-drives files p result)) (drives-of then_rest second (files_after_fork second p other) still_too is_too
      (fork-drives second p other)) it it_too in
      inr (record { results = one.results; rests = is ∙ (λ i. with_files s (files_after_fork (one.files i) p (one.results i))) ∙ sym is_too })
  serves-one (on_processes Call.Chain) (files, it, is) (second, it_too, is_too) =
      let one : OneLoad result other files second = chain-one s.processes (asker_of s.processes p now) s.files
      (length s.terms) p result other files second (drives-of rest files files still is refl)
      (drives-of then_rest second second still_too is_too refl) it it_too in
      inr (record { results = one.results; rests = is ∙ ap (with_files s) one.files ∙ sym is_too })
  serves-one (on_processes call) it it_too =
      let results : result ≡ other = it.0 ∙ sym it_too.0 in
      inr (record { results = results; rests = it.1 ∙ ap (λ (result : CallResult). with_files s (files_after_call s.files p result)) results ∙ sym it_too.1 })
  serves-one (on_time call) (clock, it, is) (second, it_too, is_too) =
      let clocks : clock ≡ second = it.clock_is ∙ sym it_too.clock_is in
      inr (record { results = it.result_is ∙ sym it_too.result_is; rests = is ∙ (λ i. record (rest_of s) { clock = clocks i }) ∙ sym is_too })
  serves-one (on_paths call) (it, clock) (it_too, clock_too) =
      by_deed (attempt-one call (asker_of s.processes p now) s.files (drive_of (step_of call)) s.terms rest.terms
      then_rest.terms none none_too (length s.terms) (step_of call) it.effect it_too.effect
      (step-splits call (asker_of s.processes p now) s.files (length s.terms)) it.does it_too.does
      (subst (λ (new : Files). NoDriveFailed s.files.drives new.drives) it.state still)
      (subst (λ (new : Files). NoDriveFailed s.files.drives new.drives) it_too.state still_too))
    where
      by_deed : BothTake (asker_of s.processes p now) s.files (deed_of (step_of call) s.files) it.effect it_too.effect
          s.terms rest.terms then_rest.terms ⊎ OneDeed it.effect it_too.effect rest.terms then_rest.terms
          → BothServe (on_paths call) s p now result other rest then_rest ⊎ OneEnd result other rest then_rest
      by_deed (inl both) =
          inl (record {
            call = call;
            asks = refl;
            effect = it.effect;
            second = it_too.effect;
            both = both;
            result_is = it.result_is;
            other_is = it_too.result_is;
            files = it.state;
            then_files = it_too.state;
            clock = clock;
            then_clock = clock_too;
          })
      by_deed (inr one) =
          let files : rest.files ≡ then_rest.files = it.state ∙ ap (files_after p) one.effects ∙ sym it_too.state in
          let clocks : rest.clock ≡ then_rest.clock = clock ∙ sym clock_too in
          inr (record {
            results = it.result_is ∙ ap (λ (effect : FileEffect). io_result s.processes p (io_effect effect)) one.effects ∙ sym it_too.result_is;
            rests = λ i. record { files = files i; clock = clocks i; terms = one.terminals i };
          })
  serves-one no_call (is, left) (is_too, left_too) =
      inr (record { results = is ∙ sym is_too; rests = left ∙ sym left_too })

-- ---- one event

goes-on : (m : Processes) (p : ℕ) (effect : FileEffect) → IsDone effect.end → call_event_end (io_result m p (io_effect effect)) ≡ Ran
goes-on m p effect (inl (regs, is)) = ap (λ (end : IoEnd). call_event_end (result_by end m p (io_effect effect))) is
goes-on m p effect (inr (number, is)) = ap (λ (end : IoEnd). call_event_end (result_by end m p (io_effect effect))) is

chooses : (s : State) (choice : MayChoose s) (end : EventEnd) (t : State) (result : CallResult) (rest : Rest)
    (effect : FileEffect) → MakesChange choice.deed.it (asker_of s.processes choice.p choice.now) s.files effect s.terms
    rest.terms → result ≡ io_result s.processes choice.p (io_effect effect) → rest.files ≡ files_after choice.p effect
    → rest.clock ≡ s.clock → end ≡ call_event_end result → t ≡ with_rest s (after_attempt s.processes choice.p result)
    rest → ChoosesClusters s choice end t
chooses s choice end t result rest effect it result_is files clock ending is = record {
  effect = it.made;
  does = it.does;
  ends = ending ∙ ap call_event_end comes ∙ goes-on s.processes choice.p it.made it.answers_so;
  is = is ∙ (λ i. with_rest s (after_attempt s.processes choice.p (comes i)) (record { files = left i; clock = clock i; terms = it.terminals i }));
}
  where
    comes : result ≡ io_result s.processes choice.p (io_effect it.made)
    comes = result_is ∙ ap (λ (effect : FileEffect). io_result s.processes choice.p (io_effect effect)) it.effect_is

    left : rest.files ≡ files_after choice.p (with_drives_after it.made s.files.drives)
    left = files ∙ ap (files_after choice.p) it.effect_is

acts-one : (act : Act) (s : State) (p : ℕ) (end other : EventEnd) (t u : State) → s.chosen ≡ Some p
    → act_of s.processes p ≡ act → Acts act s p end t → Acts act s p other u → NoneFailed s t → NoneFailed s u
    → SameButClusters s end t other u ⊎ SameEvent end t other u
acts-one executes s p end other t u chosen next (ending, is) (ending_too, is_too) none none_too =
    inr (record { ends = ending ∙ sym ending_too; last = is ∙ sym is_too })
acts-one (delivers signal) s p end other t u chosen next (ending, is) (ending_too, is_too) none none_too =
    inr (record { ends = ending ∙ sym ending_too; last = is ∙ sym is_too })
acts-one (attempts code) s p end other t u chosen next (result, rest, (now, is_now, serves), ending, is) (second, then_rest, (then_now, is_now_too, serves_too), ending_too, is_too) none none_too =
    let here : NoneFailed s (with_rest s (after_attempt s.processes p result) rest) = subst (NoneFailed s) is none in
    let there : NoneFailed s (with_rest s (after_attempt s.processes p second) then_rest) = subst (NoneFailed s) is_too none_too in
    let time : then_now ≡ now = same-packet s.clock.from (seconds_since s.clock s.processes.tick) then_now now is_now_too is_now in
    by_one (serves-one s p now result second rest then_rest here.terminals there.terminals here.drives there.drives (service_of code) serves
    (subst (λ (now : TimePacket). Serves (service_of code) s now p second then_rest) time serves_too))
  where
    by_one : BothServe (service_of code) s p now result second rest then_rest ⊎ OneEnd result second rest then_rest → SameButClusters s end t other u ⊎ SameEvent end t other u
    by_one (inl it) = inl (record {
      choice = choice;
      one = chooses s choice end t result rest it.effect it.both.one it.result_is it.files it.clock ending is;
      second = chooses s choice other u second then_rest it.second it.both.second it.other_is it.then_files it.then_clock ending_too is_too;
    })
      where
        choice : MayChoose s
        choice = record {
          p = p;
          chosen = chosen;
          code = code;
          next = next;
          call = it.call;
          asks = it.asks;
          now = now;
          is_now = is_now;
          deed = it.both.takes;
        }
    by_one (inr one) = inr (record {
      ends = ending ∙ ap call_event_end one.results ∙ sym ending_too;
      last = is ∙ (λ i. with_rest s (after_attempt s.processes p (one.results i)) (one.rests i)) ∙ sym is_too;
    })

pub event-one : (s t u : State) (end other : EventEnd) → Event s end t → Event s other u → NoneFailed s t → NoneFailed s u → SameButClusters s end t other u ⊎ SameEvent end t other u
event-one s t u end other (p, chosen, lives, acts) (q, chosen_too, lives_too, acts_too) none none_too =
    let same : q ≡ p = same_Some q p (sym chosen_too ∙ chosen) in
    acts-one (act_of s.processes p) s p end other t u chosen refl acts (subst (λ q. Acts (act_of s.processes q) s q other u) same acts_too) none none_too

-- ---- one tick

pub tick-one : (s t u : State) → Tick s t → Tick s u → NoneFailed s t → NoneFailed s u → t ≡ u
tick-one s t u (desk, arrives, is) (second, arrives_too, is_too) none none_too =
    let same : desk ≡ second = arrivals-one (s.processes.tick + 1) 0 (length s.terms) (desk_of s) desk second arrives
    arrives_too (subst (λ (t : State). NoneOf s.terms t.terms) is none.terminals)
    (subst (λ (t : State). NoneOf s.terms t.terms) is_too none_too.terminals) in
    is ∙ ap (λ (desk : Desk). record s { processes = desk.processes; files = with_io s.files desk.io; terms = desk.terms }) same ∙ sym is_too
