-- The one course of a session that is done.
use Rattle.std.proofs.Common.{◌≡◌, ℕ, suc, true, Option, Some, List, [], ◌∷◌, length, refl, sym, ap, subst, ◌∙◌, arith}
use Rattle.std.specs.Prelude.{IfSome}
use Rattle.os9_base.specs.declared.registers.TimePacket.{TimePacket}
use Rattle.time_rules.specs.CivilTime.{is_time_packet}
use Rattle.os9_outer.specs.Host.{HostFiles}
use Rattle.os9_outer.specs.TerminalState.{TerminalState}
use Rattle.script_text.specs.declared.script.ScriptKey.{ScriptKey}
use Rattle.boot_run.specs.Loaded.{loaded_from}
use Rattle.os9_words.specs.declared.debug_words.DebugWords.{DebugWords}
use Rattle.boot_run.specs.World.{World}
use Rattle.os9_debug.proofs.Courses.{course-one, course-some}
use Rattle.os9_debug.specs.Machine.{boot_of}
use Rattle.boot_run.specs.declared.status.End.TheVariants.{Ended}
use Rattle.os9_debug.specs.Call.{DebugCall}
use Rattle.os9_debug.specs.Debug.{DebugComesTo, PrintsWhole, SessionThen}
use Rattle.os9_debug.specs.OneCourse.{IsFaultlessDebug, ShowsOneCourse}

count-loaded : (number : ℕ) (keys : List ScriptKey) (terms : List TerminalState) → length (loaded_from number keys terms) ≡ length terms
count-loaded number keys [] = refl
count-loaded number keys (terminal ∷ terms) = ap suc (count-loaded (suc number) keys terms)

pub shows-one : (files : HostFiles) (debug : DebugWords) (before after : World) → IsFaultlessDebug files debug before
    after → DebugCall debug before after Ended → ShowsOneCourse files debug before after
shows-one files debug before after none call =
    by (subst (λ (told : Option HostFiles). IfSome told (λ files. DebugComesTo files debug before after Ended)) none.observed call.comes)
  where
    by : SessionThen files debug (length before.devices.terms) (PrintsWhole before after) → ShowsOneCourse files debug before after
    by it =
        let machine = it.machine in
        let boot = boot_of machine before.devices in
        let many : length boot.terms ≡ length before.devices.terms = count-loaded 0 machine.keys.now before.devices.terms in
        let terminals = none.free.terminals in
        let civil = subst (λ (time : TimePacket). is_time_packet time ≡ true) (sym it.has.time) none.words.machine.time in
        let rise = none.can_fail machine it.commands it.has it.rest.0.0 it.rest.0.1 in
        let (course, from, is) = course-some boot machine.slices.now it.rest.0.0 refl it.rest.0.1 (omega (arith, many, terminals.some)) (omega (arith, many, terminals.few)) civil rise in
        record {
          machine = machine;
          commands = it.commands;
          has = it.has;
          rest = record {
            course = course;
            is = is;
            only = λ other at. course-one boot machine.slices.now course other refl is at;
            shown = it.rest.1 none.bare none.unfailed course is;
          };
        }
