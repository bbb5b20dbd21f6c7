-- What a command means for a call of the program: one record for each (this project's own).
use Rattle.std.specs.Prelude.{◌≡◌, ℕ, IfSome, Option, Some, None, List, [], ◌∷◌, All, length}
use Rattle.os9_outer.specs.Host.{file_contents}
use Rattle.os9_words.specs.declared.command.Command.{Command}
use Rattle.os9_words.specs.declared.command.Command.TheVariants.{Run as RunCommand, Boot as BootCommand, Check as CheckCommand, Stress as StressCommand, Vol as VolCommand, Asm as AsmCommand, Debug as DebugCommand}
use Rattle.os9_words.specs.declared.asm_words.AsmWords.{AsmWords}
use Rattle.os9_words.specs.declared.command.RunWords.{RunWords}
use Rattle.os9_words.specs.declared.debug_words.DebugWords.{DebugWords}
use Rattle.os9_words.specs.declared.vol_words.VolWords.{VolWords}
use Rattle.boot_run.specs.Console.{IsObserved}
use Rattle.boot_run.specs.World.{World}
use Rattle.stress_run.specs.Stress.{StressComesTo}
use Rattle.stress_run.specs.declared.stress.StressEnd.{StressEnd}
use Rattle.boot_run.specs.declared.status.End.{End}
use Rattle.boot_run.specs.declared.status.Input.{Input}
use Rattle.os9_boot.specs.Asm.{AsmComesTo, asm_file_name, asm_inputs}
use Rattle.os9_boot.specs.AsmLeft.{AsmLeaves, AsmLeavesFiles, AsmMayEnd, AsmWrites}
use Rattle.os9_boot.specs.VolLeft.{VolLeaves, VolLeavesFiles, VolMayEnd, VolWrites}
use Rattle.os9_boot.specs.Vol.{VolComesTo, vol_file_name, vol_inputs}
use Rattle.os9_boot.specs.Boots.{BootComesTo, RunComesTo}
use Rattle.os9_debug.specs.Debug.{DebugComesTo, debug_file_name, debug_inputs}
use Rattle.os9_debug.specs.Left.{DebugLeaves, DebugLeavesFiles, DebugMayEnd, DebugWrites}
use Rattle.os9_boot.specs.Check.{CheckComesTo}
use Rattle.boot_run.specs.End.{run_file_name}
use Rattle.os9_boot.specs.End.{stress_end}
use Rattle.boot_run.specs.FileNames.{run_inputs}
use Rattle.os9_boot.specs.FileNames.{BootWrites, WritesNone}
use Rattle.os9_boot.specs.History.{output_names, outputs_of}
use Rattle.os9_boot.specs.BootLeft.{BootLeavesFiles, BootMayEnd, CheckLeaves, CheckMayEnd, KeepsFiles, CommandLeavesDevices, RunMayEnd, StressMayEnd}

pub record CommandMeaning : Type 1 where
  pub comes : World → World → End → Type 0  -- its outcome, if that can be observed
  pub may : End → Type 0  -- how it may end
  pub devices : World → World → End → Type 0  -- what it leaves of the output and the devices, observed or not
  pub files : World → World → End → Type 0  -- and of what the files hold
  pub file_name : Input → Option (List ℕ)  -- the files that its words name
  pub inputs : List (List ℕ)  -- those that it reads, in order
  pub writes : End → List (List ℕ) → Type 0  -- the files that it has written at this end, in order
  pub drives : ℕ  -- the number of drives that it needs

-- the outcome of a stress, by the end of the command
abbrev pub StressGives : ℕ → World → World → End → Type 0
StressGives seed before after end = (it : StressEnd) × (end ≡ stress_end it) × StressComesTo seed before after it

-- `run`
abbrev pub run_meaning : RunWords → CommandMeaning
run_meaning run = record {
  comes = λ before after end. IfSome before.files (λ files. RunComesTo files run before after end);
  may = RunMayEnd;
  devices = CommandLeavesDevices 0;
  files = KeepsFiles;
  file_name = run_file_name run;
  inputs = run_inputs run;
  writes = WritesNone;
  drives = 0;
}

-- `boot`, which needs a drive for each of its images
abbrev pub boot_meaning : RunWords → CommandMeaning
boot_meaning boot = record {
  comes = λ before after end. IfSome before.files (λ files. BootComesTo files boot before after end);
  may = BootMayEnd (outputs_of boot);
  devices = CommandLeavesDevices (length boot.files);
  files = BootLeavesFiles (output_names (outputs_of boot));
  file_name = run_file_name boot;
  inputs = run_inputs boot;
  writes = BootWrites (outputs_of boot);
  drives = length boot.files;
}

-- `check`
abbrev pub check_meaning : List ℕ → CommandMeaning
check_meaning image = record {
  comes = λ before after end. IfSome before.files (λ files. CheckComesTo (file_contents files image) before after end);
  may = CheckMayEnd;
  devices = CheckLeaves;
  files = KeepsFiles;
  file_name = λ input. Some image;
  inputs = image ∷ [];
  writes = WritesNone;
  drives = 0;
}

-- `stress`, which names no file, and needs a drive for the disk that it makes
abbrev pub stress_meaning : ℕ → CommandMeaning
stress_meaning seed = record {
  comes = λ before after end. All IsObserved before.devices.terms → StressGives seed before after end;
  may = StressMayEnd;
  devices = CommandLeavesDevices 1;
  files = KeepsFiles;
  file_name = λ input. None;
  inputs = [];
  writes = WritesNone;
  drives = 1;
}

-- `vol`, which needs a drive for its image
abbrev pub vol_meaning : VolWords → CommandMeaning
vol_meaning vol = record {
  comes = λ before after end. IfSome before.files (λ files. VolComesTo files vol before after end);
  may = VolMayEnd vol.verb;
  devices = VolLeaves vol.verb;
  files = VolLeavesFiles vol;
  file_name = vol_file_name vol;
  inputs = vol_inputs vol;
  writes = VolWrites vol;
  drives = 1;
}

-- `asm`
abbrev pub asm_meaning : AsmWords → CommandMeaning
asm_meaning asm = record {
  comes = λ before after end. IfSome before.files (λ files. AsmComesTo files asm before after end);
  may = AsmMayEnd;
  devices = AsmLeaves;
  files = AsmLeavesFiles asm;
  file_name = asm_file_name asm;
  inputs = asm_inputs asm;
  writes = AsmWrites asm;
  drives = 0;
}

-- `debug`
abbrev pub debug_meaning : DebugWords → CommandMeaning
debug_meaning debug = record {
  comes = λ before after end. IfSome before.files (λ files. DebugComesTo files debug before after end);
  may = DebugMayEnd;
  devices = DebugLeaves;
  files = DebugLeavesFiles;
  file_name = debug_file_name debug;
  inputs = debug_inputs debug;
  writes = DebugWrites;
  drives = 0;
}

-- an arm for each command
abbrev pub meaning : Command → CommandMeaning
meaning (RunCommand run) = run_meaning run
meaning (BootCommand boot) = boot_meaning boot
meaning (CheckCommand image) = check_meaning image
meaning (StressCommand seed) = stress_meaning seed
meaning (VolCommand vol) = vol_meaning vol
meaning (AsmCommand asm) = asm_meaning asm
meaning (DebugCommand debug) = debug_meaning debug
