-- What an attempt of a call on paths leaves of the others.
use Rattle.std.proofs.Common.{◌≡◌, ◌≢◌, ◌⊎◌, ℕ, not, Bool, true, false, Option, Some, List, refl, sym, ap, ◌∙◌, subst, inl, inr}
use Rattle.std.specs.Prelude.{MatchBool}
use Rattle.std.specs.Option.{option_map_or}
use Rattle.std.proofs.lemmas.Bool.{ne_eqb, false≢true}
use Rattle.std.proofs.lemmas.Option.{none-some}
use Rattle.os9_base.specs.Count.{Rose}
use Rattle.os9_base.specs.declared.registers.Pid.{Pid}
use Rattle.os9_outer.specs.TerminalState.{TerminalState, ChangesOneTerminal}
use Rattle.io_model.specs.Path.{paths_after_begin, paths_after_dup}
use Rattle.io_model.specs.Pipe.{pipes_after_begin}
use Rattle.io_model.specs.Terminal.{Terminal, TerminalReadAttempt, TerminalWriteAttempt, BreaksOffEcho, Attempted, reader, is_refused, is_taken, is_process, read_attempt, used_by, without_reading}
use Rattle.io_model.specs.declared.path.Desc.{Desc}
use Rattle.io_model.specs.declared.path.Target.TheVariants.{Term, Pipe}
use Rattle.io_model.specs.declared.terminal.Progress.{Progress}
use Rattle.io_model.specs.declared.terminal.Progress.TheVariants.{Done, Wait, End, Fault, NoMemory}
use Rattle.io_model.specs.declared.terminal.Reading.{Reading}
use Rattle.io_model.specs.Attempts.{HasIoEffect, io_step}
use Rattle.io_model.specs.Codes.{direction_of_call}
use Rattle.io_model.specs.Io.{Io, terminal_at, pending_at, new_desc, with_paths, with_pipes}
use Rattle.io_model.specs.Step.{Caller, IoEffect, IoEnd, IoStep, refused, comes, reads, writes, TerminalRead, TerminalWrite}
use Rattle.io_model.specs.Terminals.{ReadsTerminal, WritesTerminal, request_of, write_ends}
use Rattle.io_model.specs.Waiting.{pid}
use Rattle.io_model.specs.declared.io_call.Direction.TheVariants.{Writing}
use Rattle.io_model.specs.declared.io_call.IoCall.{IoCall}
use Rattle.call_laws.specs.Terminals.{KeepsReading}
use Rattle.call_laws.proofs.StepWalk.{StepGives, Walk, step-gives}
use Rattle.call_laws.proofs.PathsKept.{PathsLeft, left-same, left-begin, left-dup, IoLeft, io-same, io-then, io-paths, io-pipes, io-closed, reading-set}

-- ---- what an attempt does

left-walk : (caller : Caller) (io : Io) (terms : ℕ) → Walk (IoLeft caller.process.0 io) caller io terms
left-walk caller io terms = record {
  same = io-same caller.process.0 io;
  pipes = io-pipes caller.process.0 io;
  dup =
      io-paths caller.process.0 io (paths_after_dup io.paths caller.process.0 caller.regs.a) (left-dup caller.process.0 io.paths caller.regs.a);
  close = io-closed caller.process.0 io caller.regs.a;
  on_terminal = λ terminal within. begun io (new_desc (Term terminal) caller.regs.a) (io-same caller.process.0 io);
  on_pipe =
      λ pipe free. begun (with_pipes io (pipes_after_begin io.pipes)) (new_desc (Pipe pipe) caller.regs.a) (io-pipes caller.process.0 io (pipes_after_begin io.pipes));
}
  where
    begun : (before : Io) (desc : Desc) → IoLeft caller.process.0 io before → IoLeft caller.process.0 io (with_paths before (paths_after_begin before.paths caller.process.0 desc))
    begun before desc left =
        io-then caller.process.0 io before (with_paths before (paths_after_begin before.paths caller.process.0 desc)) left
        (io-paths caller.process.0 before (paths_after_begin before.paths caller.process.0 desc) (left-begin caller.process.0 before.paths desc))

-- what an attempt of each call does
pub step-left : (call : IoCall) (caller : Caller) (io : Io) (drives terms : ℕ) → StepGives call (IoLeft caller.process.0 io) caller io (io_step call caller io drives terms)
step-left call caller io drives terms =
    step-gives call (IoLeft caller.process.0 io) caller io drives terms (left-walk caller io terms)

-- ---- what it leaves

-- a terminal fails in a write
abbrev pub FailsOn : ℕ → List TerminalState → List TerminalState → Type 0
FailsOn n before after = ChangesOneTerminal (λ before now. Rose before.faults now.faults) n before after

-- what an attempt of a call leaves of the others
pub record EffectLeft (call : IoCall) (p : ℕ) (old new : Io) (before after : List TerminalState) : Type 0 where
  pub paths : PathsLeft p old.paths new.paths
  pub calls : (q : ℕ) → q ≢ p → pending_at new q ≡ pending_at old q
  pub readings : (n q : ℕ) → q ≢ p → reader (terminal_at old n) ≡ Some (pid q) → KeepsReading (terminal_at old n)
      (terminal_at new n) ⊎ (direction_of_call call ≡ Some Writing) × FailsOn n before after ×
      (terminal_at new n ≡ without_reading (used_by (pid p) (terminal_at old n)))

pub effect-by : (call : IoCall) (p : ℕ) (old new : Io) (before after : List TerminalState) → IoLeft p old new → EffectLeft call p old new before after
effect-by call p old new before after left =
    record { paths = left.paths; calls = left.calls; readings = λ n q differ is. inl (left.readings n q differ is) }

-- the read of another process is unfinished
taken-by-other : (process : Pid) (t : Terminal) (q : ℕ) → q ≢ process.0 → reader t ≡ Some (pid q) → is_taken process t ≡ true
taken-by-other process t q differ is =
    ap (λ (there : Option Pid). option_map_or (λ other. not (is_process process other)) there false) is
    ∙ ap not (ne_eqb process.0 q (λ same. differ (sym same)))

-- it keeps a read waiting
read-keeps : (request : Reading) (answer : Progress) (old new : Terminal) (before now : TerminalState) (q : ℕ)
    → q ≢ request.process.0 → reader old ≡ Some (pid q) → TerminalReadAttempt request answer old new before now
    → KeepsReading old new
read-keeps request answer old new before now q differ is it = by_refusal (is_refused answer) it.outcome it.turn
  where
    taken : is_taken request.process old ≡ true
    taken = taken-by-other request.process old q differ is

    waits : (read_attempt request old).terminal ≡ used_by request.process old
    waits = rw taken refl

    by_refusal : (refusal : Bool) → MatchBool refusal (BreaksOffEcho request old new before now)
        (Attempted (read_attempt request old) answer new before now) → (refusal ≡ true → is_taken request.process old
        ≡ false) → KeepsReading old new
    by_refusal true broken turn = absurd (false≢true (sym (turn refl) ∙ taken))
    by_refusal false whole turn =
        let still : new ≡ used_by request.process old = whole.terminal ∙ waits in
        still ∙ ap (λ (t : Terminal). record old { user = t.user }) (sym still)

-- a write drops it where the terminal fails, and else leaves it
record WriteKeeps (process : Pid) (old new : Terminal) (before now : TerminalState) : Type 0 where
  pub keeps : KeepsReading old new ⊎ Rose before.faults now.faults × (new ≡ without_reading (used_by process old))

write-keeps : (write : TerminalWrite) (end : IoEnd) (process : Pid) (answer : Progress) (old new : Terminal)
    (before now : TerminalState) → write_ends write answer ≡ Some end → TerminalWriteAttempt process write.put write.count answer
    old new before now → WriteKeeps process old new before now
write-keeps write end process (Done count) old new before now ends it =
    let still : new ≡ used_by process old = it.outcome.terminal in
    record { keeps = inl (still ∙ ap (λ (t : Terminal). record old { user = t.user }) (sym still)) }
write-keeps write end process Wait old new before now ends it = absurd (none-some end ends)
write-keeps write end process End old new before now ends it = absurd (none-some end ends)
write-keeps write end process Fault old new before now ends it =
    record { keeps = inr (it.driver.faults, it.outcome.terminal) }
write-keeps write end process NoMemory old new before now ends it = absurd (none-some end ends)

module _ (call : IoCall) (caller : Caller) (io : Io) (before after : List TerminalState) where
  abbrev LeftBy : Io → Type 0
  LeftBy new = EffectLeft call caller.process.0 io new before after

  read-leaves : (read : TerminalRead) (effect : IoEffect) → ReadsTerminal caller io read effect before after → LeftBy effect.io
  read-leaves read effect it = subst (λ (effect : IoEffect). LeftBy effect.io) (sym it.effect_is) (record {
    paths = left-same caller.process.0 io.paths;
    calls = λ q differ. refl;
    readings = λ n q differ is. inl (reading-set io read.terminal it.new (λ k. KeepsReading) (λ k apart. refl) q
        (λ here. read-keeps (request_of caller read) it.answer (terminal_at io read.terminal) it.new it.device.0
        it.device.1 q differ here it.device.4) n is);
  })

  write-leaves : (write : TerminalWrite) (effect : IoEffect) → direction_of_call call ≡ Some Writing → WritesTerminal caller io write effect before after → LeftBy effect.io
  write-leaves write effect direction it = subst (λ (effect : IoEffect). LeftBy effect.io) (sym it.effect_is) (record {
    paths = left-same caller.process.0 io.paths;
    calls = λ q differ. refl;
    readings = λ n q differ is. reading-set io write.terminal it.new Comes (λ k apart. inl refl) q
        (λ here. comes_of (write-keeps write it.end caller.process it.answer (terminal_at io write.terminal) it.new
        it.device.0 it.device.1 it.ends it.device.4).keeps) n is;
  })
    where
      Comes : ℕ → Terminal → Terminal → Type 0
      Comes n old new = KeepsReading old new ⊎ (direction_of_call call ≡ Some Writing) × FailsOn n before after × (new ≡ without_reading (used_by caller.process old))

      comes_of : KeepsReading (terminal_at io write.terminal) it.new ⊎ Rose it.device.0.faults it.device.1.faults ×
          (it.new ≡ without_reading (used_by caller.process (terminal_at io write.terminal)))
          → KeepsReading (terminal_at io write.terminal) it.new ⊎ (direction_of_call call ≡ Some Writing) × FailsOn
          write.terminal before after ×
          (it.new ≡ without_reading (used_by caller.process (terminal_at io write.terminal)))
      comes_of (inl stays) = inl stays
      comes_of (inr (rose, gone)) =
          inr (direction, (it.device.0, it.device.1, it.device.2, it.device.3, rose), gone)

  pub does-left : (step : IoStep) (effect : IoEffect) → StepGives call (IoLeft caller.process.0 io) caller io step → HasIoEffect step caller io effect before after → LeftBy effect.io
  does-left (refused number) effect left (is, same) =
      subst (λ (effect : IoEffect). LeftBy effect.io) (sym is) (effect-by call caller.process.0 io io before after (io-same caller.process.0 io))
  does-left (comes it) effect left (is, same) =
      subst (λ (effect : IoEffect). LeftBy effect.io) (sym is) (effect-by call caller.process.0 io it.io before after left)
  does-left (reads read) effect left does = read-leaves read effect does
  does-left (writes write) effect left does = write-leaves write effect left.0 does
