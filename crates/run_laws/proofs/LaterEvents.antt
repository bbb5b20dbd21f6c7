-- Events of two states that are equal but for later keys.
use Rattle.std.proofs.Common.{◌≡◌, ◌⊎◌, ℕ, ◌+◌, Option, Some, None, List, length, slice_get, slice_set, refl, sym, ap, ◌∙◌, subst, inl, inr}
use Rattle.std.specs.List.{AllZip}
use Rattle.std.proofs.lemmas.List.Elements.{length_all_zip}
use Rattle.os9_base.specs.Count.{Rose}
use Rattle.os9_base.specs.declared.registers.Pid.{Pid}
use Rattle.os9_base.specs.declared.registers.TimePacket.{TimePacket}
use Rattle.os9_outer.specs.TerminalState.{TerminalState, ChangesOneTerminal}
use Rattle.os9_outer.specs.declared.terminal.Key.{Key}
use Rattle.proc_model.specs.Attempts.{after_attempt}
use Rattle.proc_model.specs.CallResult.{CallResult}
use Rattle.proc_model.specs.Processes.{Processes}
use Rattle.proc_model.specs.Ready.{Act, attempts, delivers, executes, act_of}
use Rattle.proc_model.specs.declared.proc_call.ProcCall.TheVariants as Call
use Rattle.io_model.specs.Terminal.{IsOutputCutShort, IsOutputWritten, TerminalReadAttempt, Terminal, TerminalWriteAttempt}
use Rattle.io_model.specs.declared.terminal.Progress.{Progress}
use Rattle.io_model.specs.declared.terminal.Reading.{Reading}
use Rattle.io_model.specs.Attempts.{HasIoEffect}
use Rattle.io_model.specs.Io.{Io, terminal_at}
use Rattle.io_model.specs.Step.{Caller, IoEffect, IoStep, TerminalRead, TerminalWrite, comes, reads, refused, writes}
use Rattle.io_model.specs.Terminals.{ReadsTerminal, WritesTerminal, request_of}
use Rattle.file_rules.specs.Attempts.{FileAttempts, asker_of, file_step}
use Rattle.file_rules.specs.Files.{Asker, Files}
use Rattle.file_rules.specs.Load.{LoadAttempts}
use Rattle.file_rules.specs.Program.{ChainAttempts, ForkAttempts}
use Rattle.file_rules.specs.Step.{Deed, DoesDeed, FileDoes, FileEffect, FileStep, GoesWell, as_io, changes, deed_of, leaves_so}
use Rattle.machine_model.specs.declared.ends.EventEnd.{EventEnd}
use Rattle.machine_model.specs.Event.{Acts, Event}
use Rattle.machine_model.specs.Services.{Service, Serves, loads, no_call, on_paths, on_processes, on_time, service_of, with_files}
use Rattle.machine_model.specs.State.{Rest, State, with_rest}
use Rattle.run_laws.specs.Later.{AreSameBut, UnsharedKeys, SameBut, SameEventTo, SameTo}
use Rattle.run_laws.proofs.LaterKeys.{At, at-zip, length-all, on_terms}

-- ---- one terminal, with other keys

abbrev keyed : TerminalState → List Key → TerminalState
keyed terminal keys = record terminal { keys = keys }

reads-keyed : (request : Reading) (answer : Progress) (old new : Terminal) (before now : TerminalState)
    (keys : List Key) → TerminalReadAttempt request answer old new before now → TerminalReadAttempt request answer old new (keyed before keys)
    (keyed now keys)
reads-keyed request (Progress.Done count) old new before now keys it = record {
  outcome = record { answer_is = it.outcome.answer_is; terminal = it.outcome.terminal; echo = it.outcome.echo };
  turn = it.turn;
  driver = record { keys = refl; never_falls = it.driver.never_falls; faults = it.driver.faults };
}
reads-keyed request Progress.Wait old new before now keys it = record {
  outcome = record { answer_is = it.outcome.answer_is; terminal = it.outcome.terminal; echo = it.outcome.echo };
  turn = it.turn;
  driver = record { keys = refl; never_falls = it.driver.never_falls; faults = it.driver.faults };
}
reads-keyed request Progress.End old new before now keys it = record {
  outcome = record { answer_is = it.outcome.answer_is; terminal = it.outcome.terminal; echo = it.outcome.echo };
  turn = it.turn;
  driver = record { keys = refl; never_falls = it.driver.never_falls; faults = it.driver.faults };
}
reads-keyed request Progress.Fault old new before now keys it = record {
  outcome = record {
    front = it.outcome.front;
    key = it.outcome.key;
    rest = it.outcome.rest;
    count =
        it.outcome.count;
    keys = it.outcome.keys;
    unfinished = it.outcome.unfinished;
    part = it.outcome.part;
    echo =
        it.outcome.echo;
    terminal = it.outcome.terminal;
  };
  turn = it.turn;
  driver = record {
    keys = refl;
    never_falls =
        it.driver.never_falls;
    faults = it.driver.faults;
  };
}
reads-keyed request Progress.NoMemory old new before now keys it = record {
  outcome = record {
    front = it.outcome.front;
    key = it.outcome.key;
    rest = it.outcome.rest;
    count =
        it.outcome.count;
    keys = it.outcome.keys;
    unfinished = it.outcome.unfinished;
    part = it.outcome.part;
    echo =
        it.outcome.echo;
    terminal = it.outcome.terminal;
  };
  turn = it.turn;
  driver = record {
    keys = refl;
    never_falls =
        it.driver.never_falls;
    faults = it.driver.faults;
  };
}

module _ (process : Pid) (put : List ℕ) (count : ℕ) (old new : Terminal) (before now : TerminalState) (keys : List Key) where
  writes-keyed : (answer : Progress) → TerminalWriteAttempt process put count answer old new before now → TerminalWriteAttempt process put count answer old new (keyed before keys) (keyed now keys)
  writes-keyed (Progress.Done n) it = record {
    outcome = record {
      answer_is = it.outcome.answer_is;
      terminal =
          it.outcome.terminal;
      put = it.outcome.put;
    };
    driver = record {
      keys = refl;
      never_falls = it.driver.never_falls;
      faults = it.driver.faults;
    };
  }
  writes-keyed Progress.Wait it = record {
    outcome = record {
      answer_is = it.outcome.answer_is;
      terminal =
          it.outcome.terminal;
      put = it.outcome.put;
    };
    driver = record {
      keys = refl;
      never_falls = it.driver.never_falls;
      faults = it.driver.faults;
    };
  }
  writes-keyed Progress.End it = record {
    outcome = record {
      answer_is = it.outcome.answer_is;
      terminal =
          it.outcome.terminal;
      put = it.outcome.put;
    };
    driver = record {
      keys = refl;
      never_falls = it.driver.never_falls;
      faults = it.driver.faults;
    };
  }
  writes-keyed Progress.Fault it = record {
    outcome = record {
      terminal = it.outcome.terminal;
      part = it.outcome.part;
    };
    driver = record { keys = refl; never_falls = it.driver.never_falls; faults = it.driver.faults };
  }
  writes-keyed Progress.NoMemory it = record {
    outcome = record {
      terminal = it.outcome.terminal;
      part =
          it.outcome.part;
    };
    driver = record {
      keys = refl;
      never_falls = it.driver.never_falls;
      faults = it.driver.faults;
    };
  }

keyed-is : (later : ℕ) (rest : UnsharedKeys) (one other : TerminalState) → SameBut later rest one other → other ≡ keyed one other.keys
keyed-is later rest one other same = λ i. record { keys = other.keys; put = same.put i; faults = same.faults i }

-- a terminal that kept its keys is the other one still, but for later keys
still-same : (later : ℕ) (rest : UnsharedKeys) (before now other : TerminalState) → SameBut later rest before other → now.keys ≡ before.keys → SameBut later rest now (keyed now other.keys)
still-same later rest before now other same kept = record {
  front = same.front;
  keys = kept ∙ same.keys;
  other_keys = same.other_keys;
  later = same.later;
  other_later = same.other_later;
  put = refl;
  faults = refl;
}

-- ---- what is done

-- the terminals after it, from others before it
record Too (later : ℕ) (rests : List UnsharedKeys) (after : List TerminalState) (Comes : List TerminalState → Type 0) : Type 0 where
  pub terms : List TerminalState
  pub comes : Comes terms
  pub same : AreSameBut later rests after terms

-- nothing changed
too-same : (later : ℕ) (rests : List UnsharedKeys) (before after others : List TerminalState) → AreSameBut later rests before others → after ≡ before → AreSameBut later rests after others
too-same later rests before after others all is = subst (λ (after : List TerminalState). AreSameBut later rests after others) (sym is) all

module _ (later : ℕ) (rests : List UnsharedKeys) (before after others : List TerminalState) (all : AreSameBut later rests before others) where
  -- a terminal that changes so keeps its keys, and changes so with others
  change-too : (n : ℕ) (Change : TerminalState → TerminalState → Type 0) → ((old now : TerminalState) → Change old now
      → now.keys ≡ old.keys) → ((old now : TerminalState) (keys : List Key) → Change old now → Change (keyed old keys)
      (keyed now keys)) → ChangesOneTerminal Change n before after → Too later rests after
      (ChangesOneTerminal Change n others)
  change-too n Change keeps rekeys (old, now, there, is, changed) =
      let here : At later rests before others n old = at-zip later rests before others n old all there in
      record {
        terms = slice_set others n (keyed now here.y.keys);
        comes = (
          here.y,
          keyed now here.y.keys,
          here.there,
          refl,
          subst (λ (old : TerminalState). Change old
              (keyed now here.y.keys)) (sym (keyed-is later here.rest old here.y here.same)) (rekeys old now here.y.keys
              changed),
        );
        same =
            too-same later rests (slice_set before n now) after (slice_set others n (keyed now here.y.keys))
            (here.set now (keyed now here.y.keys) (still-same later here.rest old now here.y here.same
            (keeps old now changed))) is;
      }

  does-too : (step : IoStep) (caller : Caller) (io : Io) (effect : IoEffect) → HasIoEffect step caller io effect before after → Too later rests after (HasIoEffect step caller io effect others)
  does-too (refused number) caller io effect (is, same) =
      record { terms = others; comes = (is, refl); same = too-same later rests before after others all same }
  does-too (comes it) caller io effect (is, same) =
      record { terms = others; comes = (is, refl); same = too-same later rests before after others all same }
  does-too (reads read) caller io effect it =
      let too : Too later rests after (ChangesOneTerminal (TerminalReadAttempt (request_of caller read) it.answer
      (terminal_at io read.terminal) it.new) read.terminal others) = change-too read.terminal
      (TerminalReadAttempt (request_of caller read) it.answer (terminal_at io read.terminal) it.new)
      (λ old now changed. changed.driver.keys) (λ old now keys changed. reads-keyed (request_of caller read)
      it.answer (terminal_at io read.terminal) it.new old now keys changed) it.device in
      record { terms = too.terms; comes = record { answer = it.answer; new = it.new; end = it.end; device = too.comes; ends = it.ends; effect_is = it.effect_is }; same = too.same }
  does-too (writes write) caller io effect it =
      let too : Too later rests after (ChangesOneTerminal (TerminalWriteAttempt caller.process write.put write.count it.answer
      (terminal_at io write.terminal) it.new) write.terminal others) = change-too write.terminal
      (TerminalWriteAttempt caller.process write.put write.count it.answer (terminal_at io write.terminal) it.new)
      (λ old now changed. changed.driver.keys) (λ old now keys changed. writes-keyed caller.process write.put
      write.count (terminal_at io write.terminal) it.new old now keys it.answer changed) it.device in
      record { terms = too.terms; comes = record { answer = it.answer; new = it.new; end = it.end; device = too.comes; ends = it.ends; effect_is = it.effect_is }; same = too.same }

  deed-too : (deed : Deed) (asker : Asker) (files : Files) (effect : FileEffect) → DoesDeed deed asker files effect before after → Too later rests after (DoesDeed deed asker files effect others)
  deed-too (leaves_so it) asker files effect (is, same) =
      record { terms = others; comes = (is, refl); same = too-same later rests before after others all same }
  deed-too (as_io step) asker files effect (it, does, is) =
      let too : Too later rests after (HasIoEffect step asker.caller files.io it others) = does-too step asker.caller files.io it does in
      record { terms = too.terms; comes = (it, too.comes, is); same = too.same }
  deed-too (changes it) asker files effect (is, same) =
      record { terms = others; comes = (is, refl); same = too-same later rests before after others all same }

  file-too : (step : FileStep) (asker : Asker) (files : Files) (effect : FileEffect) → FileDoes step asker files effect before after → Too later rests after (FileDoes step asker files effect others)
  file-too step asker files effect (inl well) =
      let too : Too later rests after (DoesDeed (deed_of step files) asker files well.it others) = deed-too (deed_of step files) asker files well.it well.does in
      record { terms = too.terms; comes = inl (record { it = well.it; does = too.comes; drives = well.drives; none_failed = well.none_failed; effect_is = well.effect_is }); same = too.same }
  file-too step asker files effect (inr (broken, same)) =
      record { terms = others; comes = inr (broken, refl); same = too-same later rests before after others all same }

-- ---- an attempt

abbrev rest_on : Rest → List TerminalState → Rest
rest_on rest terms = record rest { terms = terms }

module _ (later : ℕ) (rests : List UnsharedKeys) (s : State) (others : List TerminalState)
    (all : AreSameBut later rests s.terms others) (p : ℕ) (now : TimePacket) (result : CallResult) (rest : Rest) where
  abbrev ServesToo : Service → Type 0
  ServesToo service = Too later rests rest.terms (λ terms. Serves service (on_terms s others) now p result (rest_on rest terms))

  count : length s.terms ≡ length others
  count = length-all later rests s.terms others all

  -- the terminals stay
  stays-too : (left : Rest) → rest ≡ left → left.terms ≡ s.terms → AreSameBut later rests rest.terms others
  stays-too left is same = too-same later rests s.terms rest.terms others all (ap (λ (rest : Rest). rest.terms) is ∙ same)

  serves-too : (service : Service) → Serves service s now p result rest → ServesToo service
  serves-too loads (files, it, is) = record {
    terms = others;
    comes = (files, subst (λ (terms : ℕ). LoadAttempts s.processes (asker_of s.processes p now) s.files terms p result files) count it, ap (λ (rest : Rest). rest_on rest others) is);
    same = stays-too (with_files s files) is refl;
  }
  serves-too (on_processes Call.Fork) (files, it, is) = record {
    terms = others;
    comes = (files, subst (λ (terms : ℕ). ForkAttempts s.processes (asker_of s.processes p now) s.files terms p result files) count it, ap (λ (rest : Rest). rest_on rest others) is);
    same = stays-too _ is refl;
  }
  serves-too (on_processes Call.Chain) (files, it, is) = record {
    terms = others;
    comes = (files, subst (λ (terms : ℕ). ChainAttempts s.processes (asker_of s.processes p now) s.files terms p result files) count it, ap (λ (rest : Rest). rest_on rest others) is);
    same = stays-too _ is refl;
  }
  serves-too (on_processes call) it = record {
    terms = others;
    comes = (it.0, ap (λ (rest : Rest). rest_on rest others) it.1);
    same = stays-too _ it.1 refl;
  }
  serves-too (on_time call) (clock, it, is) = record {
    terms = others;
    comes = (clock, it, ap (λ (rest : Rest). rest_on rest others) is);
    same = stays-too _ is refl;
  }
  serves-too (on_paths call) (it, clock) =
      let asker : Asker = asker_of s.processes p now in
      let too : Too later rests rest.terms (FileDoes (file_step call asker s.files (length s.terms)) asker s.files
      it.effect others) = file-too later rests s.terms rest.terms others all (file_step call asker s.files
      (length s.terms)) asker s.files it.effect it.does in
      record {
        terms = too.terms;
        comes = (
          record {
            effect = it.effect;
            does = subst (λ (terms : ℕ). FileDoes (file_step call asker s.files terms) asker s.files it.effect others too.terms) count too.comes;
            result_is = it.result_is;
            state = it.state;
          },
          clock,
        );
        same = too.same;
      }
  serves-too no_call (refusal, is) = record {
    terms = others;
    comes = (refusal, ap (λ (rest : Rest). rest_on rest others) is);
    same = stays-too _ is refl;
  }

-- ---- an event

-- the same act, from other terminals
record ActsToo (later : ℕ) (rests : List UnsharedKeys) (act : Act) (s : State) (others : List TerminalState) (p : ℕ) (end : EventEnd) (t : State) : Type 0 where
  pub last : State
  pub acts : Acts act (on_terms s others) p end last
  pub same : SameTo later rests t last

acts-too : (later : ℕ) (rests : List UnsharedKeys) (act : Act) (s : State) (others : List TerminalState) (p : ℕ)
    (end : EventEnd) (t : State) → AreSameBut later rests s.terms others → Acts act s p end t → ActsToo later rests
    act s others p end t
acts-too later rests executes s others p end t all (ending, is) = record {
  last = on_terms t others;
  acts = (ending, ap (λ (t : State). on_terms t others) is);
  same = record { terms = subst (λ (t : State). AreSameBut later rests t.terms others) (sym is) all; rest = refl };
}
acts-too later rests (delivers signal) s others p end t all (ending, is) = record {
  last = on_terms t others;
  acts = (ending, ap (λ (t : State). on_terms t others) is);
  same = record { terms = subst (λ (t : State). AreSameBut later rests t.terms others) (sym is) all; rest = refl };
}
acts-too later rests (attempts code) s others p end t all (result, rest, (now, is_now, serves), ending, is) =
    let too : ServesToo later rests s others all p now result rest (service_of code) = serves-too later rests s others all p now result rest (service_of code) serves in
    record {
      last = on_terms t too.terms;
      acts = (result, rest_on rest too.terms, (now, is_now, too.comes), ending, ap (λ (t : State). on_terms t too.terms) is);
      same = record { terms = subst (λ (t : State). AreSameBut later rests t.terms too.terms) (sym is) too.same; rest = refl };
    }

pub event-too : (later : ℕ) (rests : List UnsharedKeys) (s t other : State) (end : EventEnd) → SameTo later rests s other → Event s end t → SameEventTo later rests end t other
event-too later rests s t other end same (p, chosen, lives, acts) =
    let too : ActsToo later rests (act_of s.processes p) s other.terms p end t = acts-too later rests (act_of s.processes p) s other.terms p end t same.terms acts in
    record {
      last = too.last;
      event = subst (λ (other : State). Event other end too.last) (sym same.rest) (p, chosen, lives, too.acts);
      same = too.same;
    }
