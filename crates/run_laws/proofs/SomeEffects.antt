-- An attempt on a terminal has an end in which no terminal fails.
use Rattle.std.proofs.Common.{◌≡◌, ℕ, zero, suc, ◌-◌, ◌<◌, Bool, true, false, Option, Some, None, List, [], ◌∷◌, length, slice_get, slice_set, refl, sym, ap, ◌∙◌, subst, arith}
use Rattle.std.specs.Prelude.{option_and_then, option_map, if◌then◌else◌}
use Rattle.std.proofs.lemmas.Bool.{false≢true}
use Rattle.std.proofs.lemmas.Option.{none-some, same_Some}
use Rattle.os9_base.specs.declared.errors.TheConstants.{E_EOF}
use Rattle.os9_outer.specs.TerminalState.{TerminalState, fault_counts}
use Rattle.cpu_model.specs.Step.{Done}
use Rattle.proc_model.specs.CallResult.{ends}
use Rattle.io_model.specs.Edit.{Typing}
use Rattle.io_model.specs.Path.{desc_of, slot_of}
use Rattle.io_model.specs.Terminal.{Terminal, TerminalReadAttempt, attempt_by, is_taken, kept_waiting, read_attempt, typed, typed_attempt, used_by}
use Rattle.io_model.specs.declared.edit.LineEnd.{LineEnd}
use Rattle.io_model.specs.declared.edit.LineEnd.TheVariants.{EndOfFile, Line}
use Rattle.io_model.specs.declared.path.Desc.{Desc}
use Rattle.io_model.specs.declared.path.SysPath.{SysPath}
use Rattle.io_model.specs.declared.terminal.Progress.{Progress}
use Rattle.io_model.specs.declared.terminal.Reading.{Reading}
use Rattle.io_model.specs.Attempts.{HasIoEffect}
use Rattle.io_model.specs.Io.{Io, OpenPath, open_path, terminal_at, with_terminal}
use Rattle.io_model.specs.Pipes.{count_regs}
use Rattle.io_model.specs.Step.{Caller, IoEffect, IoEnd, IoStep, answers, fails, keeps, refused, comes, reads, writes, leaves, TerminalRead}
use Rattle.io_model.specs.Terminals.{read_ends, read_leaves, request_of}
use Rattle.io_model.specs.declared.io_call.IoCall.{IoCall}
use Rattle.call_laws.specs.Terminals.{AreOnTerminals}
use Rattle.call_laws.proofs.StepWalk.{HasPathOn, StepGives}
use Rattle.run_laws.proofs.Terminals.{given}

-- ---- one terminal

pub counts-set : (terms : List TerminalState) (n : ℕ) (old new : TerminalState) → slice_get terms n ≡ Some old → new.faults ≡ old.faults → fault_counts (slice_set terms n new) ≡ fault_counts terms
counts-set [] n old new is same = absurd (none-some old is)
counts-set (x ∷ terms) zero old new is same =
    let faults : new.faults ≡ x.faults = same ∙ sym (ap (λ (t : TerminalState). t.faults) (same_Some x old is)) in
    ap (λ (count : ℕ). count ∷ fault_counts terms) faults
counts-set (x ∷ terms) (suc n) old new is same =
    ap (λ (counts : List ℕ). x.faults ∷ counts) (counts-set terms n old new is same)

-- a terminal that is there
pub some-terminal : (terms : List TerminalState) (n : ℕ) → n < length terms → (old : TerminalState) × (slice_get terms n ≡ Some old)
some-terminal [] n within = absurd (omega arith)
some-terminal (x ∷ terms) zero within = (x, refl)
some-terminal (x ∷ terms) (suc n) within = some-terminal terms n (omega arith)

-- ---- a read of a terminal

-- an answer where nothing failed
abbrev IsPlain : Progress → Type 0
IsPlain (Progress.Done count) = Unit {0}
IsPlain Progress.Wait = Unit {0}
IsPlain Progress.End = Unit {0}
IsPlain Progress.Fault = ⊥
IsPlain Progress.NoMemory = ⊥

read-plain : (request : Reading) (t : Terminal) → IsPlain (read_attempt request t).answer
read-plain request t = by_turn (is_taken request.process t)
  where
    by_end : (end : Option LineEnd) (it : Typing) → IsPlain (attempt_by end it request).answer
    by_end None it = tt
    by_end (Some EndOfFile) it = tt
    by_end (Some Line) it = tt

    by_turn : (taken : Bool) → IsPlain (if taken then kept_waiting request t else typed_attempt request t).answer
    by_turn true = tt
    by_turn false = by_end (typed request t.line t.ahead).end (typed request t.line t.ahead)

module _ (request : Reading) (t : Terminal) (before : TerminalState) where
  -- the terminal then
  abbrev read-given : TerminalState
  read-given = given before (read_attempt request t).echo

  reads-so : (answer : Progress) → IsPlain answer → (read_attempt request t).answer ≡ answer → TerminalReadAttempt request answer t
      (read_attempt request t).terminal before (given before (read_attempt request t).echo)
  reads-so (Progress.Done count) plain is = record {
    outcome = record { answer_is = sym is; terminal = refl; echo = refl };
    turn = λ wants. absurd (false≢true wants);
    driver = record { keys = refl; never_falls = omega arith; faults = refl };
  }
  reads-so Progress.Wait plain is = record {
    outcome = record { answer_is = sym is; terminal = refl; echo = refl };
    turn = λ wants. absurd (false≢true wants);
    driver = record { keys = refl; never_falls = omega arith; faults = refl };
  }
  reads-so Progress.End plain is = record {
    outcome = record { answer_is = sym is; terminal = refl; echo = refl };
    turn = λ wants. absurd (false≢true wants);
    driver = record { keys = refl; never_falls = omega arith; faults = refl };
  }
  reads-so Progress.Fault plain is = absurd plain
  reads-so Progress.NoMemory plain is = absurd plain

some-read-end : (caller : Caller) (read : TerminalRead) (answer : Progress) → IsPlain answer → (end : IoEnd) × (read_ends caller read answer ≡ Some end)
some-read-end caller read (Progress.Done count) plain = (answers (count_regs caller count), refl)
some-read-end caller read Progress.Wait plain = (keeps read.call, refl)
some-read-end caller read Progress.End plain = (fails E_EOF, refl)
some-read-end caller read Progress.Fault plain = absurd plain
some-read-end caller read Progress.NoMemory plain = absurd plain

-- ---- an attempt has an end

-- what an attempt of a call on paths comes to, without a failure of a terminal
pub record SomeEffect (step : IoStep) (caller : Caller) (io : Io) (before : List TerminalState) : Type 0 where
  pub effect : IoEffect
  pub after : List TerminalState
  pub does : HasIoEffect step caller io effect before after
  pub counts : fault_counts after ≡ fault_counts before

-- what an attempt reads or writes is there
abbrev pub IsThere : ℕ → IoStep → Type 0
IsThere terms (refused number) = Unit {0}
IsThere terms (comes effect) = Unit {0}
IsThere terms (reads read) = read.terminal < terms
IsThere terms (writes write) = write.terminal < terms

pub some-effect : (step : IoStep) (caller : Caller) (io : Io) (before : List TerminalState) → IsThere (length before) step → SomeEffect step caller io before
some-effect (refused number) caller io before there =
    record { effect = leaves (fails number) io; after = before; does = (refl, refl); counts = refl }
some-effect (comes it) caller io before there = record { effect = it; after = before; does = (refl, refl); counts = refl }
some-effect (reads read) caller io before there =
    let request = request_of caller read in
    let t = terminal_at io read.terminal in
    let it = some-terminal before read.terminal there in
    let plain : IsPlain (read_attempt request t).answer = read-plain request t in
    let end = some-read-end caller read (read_attempt request t).answer plain in
    record {
      effect = read_leaves caller io read (read_attempt request t).answer (read_attempt request t).terminal end.0;
      after = slice_set before read.terminal (given it.0 (read_attempt request t).echo);
      does = record {
        answer = (read_attempt request t).answer;
        new = (read_attempt request t).terminal;
        end = end.0;
        device = (
          it.0,
          given it.0 (read_attempt request t).echo,
          it.1,
          refl,
          reads-so request t it.0 (read_attempt request t).answer plain refl,
        );
        ends = end.1;
        effect_is = refl;
      };
      counts = counts-set before read.terminal it.0 (given it.0 (read_attempt request t).echo) it.1 refl;
    }
some-effect (writes write) caller io before there =
    let it = some-terminal before write.terminal there in
    record {
      effect =
          leaves (answers write.regs) (with_terminal io write.terminal (used_by caller.process (terminal_at io write.terminal)));
      after = slice_set before write.terminal (given it.0 write.put);
      does = record {
        answer = Progress.Done write.count;
        new = used_by caller.process (terminal_at io write.terminal);
        end = answers write.regs;
        device = (
          it.0,
          given it.0 write.put,
          it.1,
          refl,
          record {
            outcome = record { answer_is = refl; terminal = refl; put = refl };
            driver = record { keys = refl; never_falls = omega arith; faults = refl };
          },
        );
        ends = refl;
        effect_is = refl;
      };
      counts = counts-set before write.terminal it.0 (given it.0 write.put) it.1 refl;
    }

-- a path that is open has its descriptor
open-desc : (io : Io) (p n : ℕ) (opened : OpenPath) → open_path io p n ≡ Some opened → desc_of io.paths opened.path.0 ≡ Some opened.desc
open-desc io p n opened is = by_slot (slot_of io.paths p n) is
  where
    with_place : SysPath → Option Desc → Option OpenPath
    with_place s place = option_map (λ (desc : Desc). let r : OpenPath = record { path = s; desc = desc } in r) place

    by_desc : (s : SysPath) (place : Option Desc) → desc_of io.paths s.0 ≡ place → with_place s place ≡ Some opened → desc_of io.paths opened.path.0 ≡ Some opened.desc
    by_desc s None there is = absurd (none-some opened is)
    by_desc s (Some d) there is =
        subst (λ (opened : OpenPath). desc_of io.paths opened.path.0 ≡ Some opened.desc) (same_Some (record { path = s; desc = d }) opened is) there

    by_slot : (place : Option SysPath) → option_and_then (λ (s : SysPath). with_place s (desc_of io.paths s.0)) place ≡ Some opened → desc_of io.paths opened.path.0 ≡ Some opened.desc
    by_slot None is = absurd (none-some opened is)
    by_slot (Some s) is = by_desc s (desc_of io.paths s.0) refl is

-- a path of the process is on a terminal that is there
path-there : (terms : ℕ) (caller : Caller) (io : Io) (terminal : ℕ) → AreOnTerminals terms io.paths → HasPathOn caller io terminal → terminal < terms
path-there terms caller io terminal on (number, opened, is, target) =
    on opened.path.0 terminal opened.desc (open-desc io caller.process.0 number opened is) target

pub call-there : (call : IoCall) (caller : Caller) (io : Io) (terms : ℕ) (step : IoStep) → AreOnTerminals terms io.paths → StepGives call (λ (new : Io). Unit {0}) caller io step → IsThere terms step
call-there call caller io terms (refused number) on gives = tt
call-there call caller io terms (comes effect) on gives = tt
call-there call caller io terms (reads read) on gives = path-there terms caller io read.terminal on gives.1
call-there call caller io terms (writes write) on gives = path-there terms caller io write.terminal on gives.1
