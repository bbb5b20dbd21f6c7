-- From the steps of `debug` to how it ends.
use Rattle.std.proofs.Common.{◌≡◌, ℕ, Option, Some, None, Result, Ok, Err, List, length, ◌⊎◌, inl, inr, refl, sym, ap, subst, ◌∙◌}
use Rattle.std.specs.Prelude.{IfSome}
use Rattle.os9_outer.specs.Host.{HostFiles}
use Rattle.script_text.specs.declared.script.ScriptKey.{ScriptKey}
use Rattle.script_text.specs.Script.{keys_of}
use Rattle.script_text.specs.Slices.{slices_of}
use Rattle.machine_model.specs.declared.ends.BootFault.TheVariants.{OutOfMemory, BadModule as BadModuleFault, NoFirst as NoFirstFault, TooLarge as TooLargeFault}
use Rattle.os9_words.specs.declared.debug_words.DebugWords.{DebugWords}
use Rattle.boot_run.specs.World.{World, HasNoFault}
use Rattle.os9_debug.specs.Commands.{commands_of}
use Rattle.os9_debug.specs.declared.command.Command.{Command}
use Rattle.os9_debug.specs.Session.{FailsToPrint, PrintsSome, DebugSessionCall, StopsAtTerminal}
use Rattle.os9_debug.specs.declared.machine.Machine.{Machine}
use Rattle.os9_debug.specs.declared.machine.SessionFault.{SessionFault}
use Rattle.os9_debug.specs.declared.machine.SessionFault.TheVariants as Fault
use Rattle.boot_run.specs.Left.{IsSilent}
use Rattle.boot_run.specs.Reading.{RefusesTexts}
use Rattle.boot_run.specs.Setup.{HaveTexts}
use Rattle.boot_run.specs.Stops.{StopsAtRead}
use Rattle.boot_run.specs.declared.status.End.{End}
use Rattle.boot_run.specs.declared.status.End.TheVariants.{Ended, CannotRead, CannotWrite, NoMemory, BadText, BadModule, NoFirst, TooLarge, TerminalFailed}
use Rattle.boot_run.specs.declared.status.Input.TheVariants.{Script, Slices, Commands}
use Rattle.os9_debug.specs.Call.{DebugCall}
use Rattle.os9_debug.specs.Debug.{DebugComesTo, EndsRefused, PrintsWhole, SessionThen, debug_file_name}
use Rattle.os9_debug.specs.Steps.{HadSession, HasDebugFiles, RefusesCommands, session_end}
use Rattle.os9_debug.specs.declared.files.DebugFiles.{DebugFiles}

-- ---- worlds

of-any : (told : Option HostFiles) (fact : HostFiles → Type 0) → ((files : HostFiles) → fact files) → IfSome told fact
of-any None fact holds = tt
of-any (Some files) fact holds = holds files

silent-same : (before after : World) → after ≡ before → IsSilent before after
silent-same before after same =
    record { out = ap (λ (w : World). w.out) same; devices = ap (λ (w : World). w.devices) same }

no-fault-same : (before after : World) → after ≡ before → HasNoFault before after
no-fault-same before after same =
    (ap (λ (w : World). w.faults) same, ap (λ (w : World). w.failed_name) same, ap (λ (w : World). w.failed_in_read) same)

module _ (debug : DebugWords) (before after : World) where
  -- memory was out before anything was started
  out-of-memory : after ≡ before → DebugCall debug before after NoMemory
  out-of-memory same = record {
    comes = of-any before.files (λ files. DebugComesTo files debug before after NoMemory) (λ files. inl (ap (λ (w : World). w.out) same));
    may = tt;
    devices = tt;
    host = no-fault-same before after same;
    files = ap (λ (w : World). w.files) same;
  }

  -- a file could not be read
  pub read-ended : (end : End) → StopsAtRead (debug_file_name debug) before after end → DebugCall debug before after end
  read-ended (CannotRead input) (name, named, could) = record {
    comes = of-any before.files (λ files. DebugComesTo files debug before after (CannotRead input)) (λ files. tt);
    may = tt;
    devices = record { out = could.out; devices = could.devices };
    host = (name, named, could.failed);
    files = could.files;
  }
  read-ended NoMemory same = out-of-memory same
  read-ended end stops = absurd stops

-- ---- the files were read

module _ (debug : DebugWords) (before : World) (read : DebugFiles) (has : IfSome before.files (λ files. HasDebugFiles files debug read)) where
  of-files : (fact : HostFiles → Type 0) → ((files : HostFiles) → HasDebugFiles files debug read → fact files) → IfSome before.files fact
  of-files fact follows = by before.files has
    where
      by : (told : Option HostFiles) → IfSome told (λ files. HasDebugFiles files debug read) → IfSome told fact
      by None has = tt
      by (Some files) has = follows files has

  module _ (mid : World) (same : mid ≡ before) where
    script-refused : (line : ℕ) → keys_of (length before.devices.terms) read.script.items ≡ Err line → DebugCall debug before mid (BadText Script line)
    script-refused line refused = record {
      comes = of-files (λ files. DebugComesTo files debug before mid (BadText Script line)) (λ files has. rw (← has.script) refused);
      may = tt;
      devices = silent-same before mid same;
      host = no-fault-same before mid same;
      files = ap (λ (w : World). w.files) same;
    }

    slices-refused : (keys : List ScriptKey) (line : ℕ) → keys_of (length before.devices.terms) read.script.items ≡ Ok
        keys → slices_of read.slices.items ≡ Err line → DebugCall debug before mid (BadText Slices line)
    slices-refused keys line given refused = record {
      comes = of-files (λ files. DebugComesTo files debug before mid (BadText Slices line))
          (λ files has. record {
            keys = keys;
            accepted = rw (← has.script) given;
            refused = rw (← has.slices) refused;
          });
      may = tt;
      devices = silent-same before mid same;
      host = no-fault-same before mid same;
      files = ap (λ (w : World). w.files) same;
    }

    -- the script or the slice text was refused
    pub texts-refused : (terminals : ℕ) (end : End) → terminals ≡ length before.devices.terms → RefusesTexts terminals read.script.items read.slices.items end → DebugCall debug before mid end
    texts-refused terminals NoMemory count refused = out-of-memory debug before mid same
    texts-refused terminals (BadText Script line) count refused = script-refused line (rw (← count) refused)
    texts-refused terminals (BadText Slices line) count refused =
        slices-refused refused.keys line (rw (← count) refused.accepted) refused.refused
    texts-refused terminals end count refused = absurd refused

    -- ---- the texts were accepted

    module _ (keys : List ScriptKey) (slices : List ℕ) (given : keys_of (length before.devices.terms) read.script.items ≡ Ok keys) (cut : slices_of read.slices.items ≡ Ok slices) where
      texts : (files : HostFiles) → HasDebugFiles files debug read → HaveTexts files debug.run (length before.devices.terms) keys slices
      texts files has = record { script = rw (← has.script) given; slice_text = rw (← has.slices) cut }

      -- the commands were refused
      pub commands-refused : (end : End) → RefusesCommands read.commands.items end → DebugCall debug before mid end
      commands-refused NoMemory refused = out-of-memory debug before mid same
      commands-refused (BadText Commands line) refused = record {
        comes = of-files (λ files. DebugComesTo files debug before mid (BadText Commands line))
            (λ files has. record {
              keys = keys;
              slices = slices;
              texts = texts files has;
              refused = rw
                  (← has.commands) refused;
            });
        may = tt;
        devices = silent-same before mid same;
        host = no-fault-same before mid same;
        files = ap (λ (w : World). w.files) same;
      }
      commands-refused end refused = absurd refused

      -- ---- a session was had

      module _ (machine : Machine) (commands : List Command) (accepted : commands_of read.commands.items ≡ Ok
          commands) (blocks : machine.blocks ≡ debug.run.blocks) (time : machine.time ≡ debug.run.start)
          (file : machine.file.now ≡ read.modules.items) (keys_are : machine.keys.now ≡ keys)
          (slices_are : machine.slices.now ≡ slices) (after : World) where
        had : (then_ : Machine → List Command → Type 0) → then_ machine commands → (files : HostFiles) → HasDebugFiles files debug read → SessionThen files debug (length before.devices.terms) then_
        had then_ rest files has = record {
          machine = machine;
          commands = commands;
          has = record {
            texts = subst (λ (keys : List ScriptKey). HaveTexts files debug.run (length before.devices.terms) keys
                machine.slices.now) (sym keys_are)
                (subst (λ (slices : List ℕ). HaveTexts files debug.run (length before.devices.terms) keys slices)
                (sym slices_are) (texts files has));
            commands_are = rw (← has.commands) accepted;
            name = has.modules.0;
            modules = has.modules.1;
            file = file ∙ has.modules.2;
            blocks = blocks;
            time = time;
          };
          rest = rest;
        }

        -- memory was out
        lacks : (files : HostFiles) → HasDebugFiles files debug read → (after.out ≡ before.out) ⊎ PrintsSome machine commands before after → DebugComesTo files debug before after NoMemory
        lacks files has (inl same) = inl same
        lacks files has (inr some) = inr (had (λ machine commands. PrintsSome machine commands before after) some files has)

        ended : (answer : Result (Unit {0}) SessionFault) → DebugSessionCall machine commands answer before after → DebugCall debug before after (session_end answer)
        ended (Ok value) call = record {
          comes = of-files (λ files. DebugComesTo files debug before after Ended) (had (PrintsWhole before after) (call.starts, call.prints));
          may = tt;
          devices = tt;
          host = call.no_fault (λ e. cc e);
          files = call.files_kept;
        }
        ended (Err (Fault.Refused OutOfMemory)) call = record {
          comes = of-any before.files (λ files. DebugComesTo files debug before after NoMemory) (λ files. inl (ap (λ (w : World). w.out) call.stops.1));
          may = tt;
          devices = tt;
          host = call.no_fault (λ e. cc e);
          files = call.files_kept;
        }
        ended (Err (Fault.Refused (BadModuleFault at error))) call = record {
          comes = of-files (λ files. DebugComesTo files debug before after (BadModule at error)) (had (EndsRefused (BadModule at error)) (BadModuleFault at error, call.stops.0, refl));
          may = tt;
          devices = silent-same before after call.stops.1;
          host = call.no_fault (λ e. cc e);
          files = call.files_kept;
        }
        ended (Err (Fault.Refused NoFirstFault)) call = record {
          comes = of-files (λ files. DebugComesTo files debug before after NoFirst) (had (EndsRefused NoFirst) (NoFirstFault, call.stops.0, refl));
          may = tt;
          devices = silent-same before after call.stops.1;
          host = call.no_fault (λ e. cc e);
          files = call.files_kept;
        }
        ended (Err (Fault.Refused TooLargeFault)) call = record {
          comes = of-files (λ files. DebugComesTo files debug before after TooLarge) (had (EndsRefused TooLarge) (TooLargeFault, call.stops.0, refl));
          may = tt;
          devices = silent-same before after call.stops.1;
          host = call.no_fault (λ e. cc e);
          files = call.files_kept;
        }
        ended (Err (Fault.TerminalFailed n)) call = record {
          comes = of-files (λ files. DebugComesTo files debug before after (TerminalFailed n)) (had (λ machine commands. StopsAtTerminal n machine commands before after) call.stops);
          may = tt;
          devices = call.stops.rose;
          host = call.no_fault (λ e. cc e);
          files = call.files_kept;
        }
        ended (Err Fault.OutputFailed) call = record {
          comes = of-files (λ files. DebugComesTo files debug before after CannotWrite) (had (λ machine commands. FailsToPrint machine commands before after) call.stops);
          may = tt;
          devices = tt;
          host = call.output_fault refl;
          files = call.files_kept;
        }
        ended (Err Fault.NoMemory) call = record {
          comes = of-files (λ files. DebugComesTo files debug before after NoMemory) (λ files has. lacks files has call.stops);
          may = tt;
          devices = tt;
          host = call.no_fault (λ e. cc e);
          files = call.files_kept;
        }

        -- it ended so
        pub session-ended : (end : End) → HadSession machine commands end mid after → DebugCall debug before after end
        session-ended end it =
            subst (λ (end : End). DebugCall debug before after end) (sym it.ends)
            (ended it.answer (subst (λ (world : World). DebugSessionCall machine commands it.answer world after) same it.call))
