use Rattle.std.proofs.Common.{Option, ap, refl, rules}
use Rattle.std.specs.Option.{option_map_or}
use Rattle.io_model.specs.declared.io_call.IoCall.TheVariants as Device
use Rattle.file_rules.specs.Attempts.{asker_of}
use Rattle.file_rules.specs.Files.{OpenFile}
use Rattle.file_rules.specs.declared.path_call.PathCall.TheVariants as Call
use Rattle.io_model.specs.declared.terminal.ReadKind.TheVariants.{WholeLine}
use Rattle.file_io.proofs.CallLemmas.{known-a, line-step}
use Rattle.file_io.proofs.AgainLemmas.{again-no_read, kept-request, may-ask}
use Rattle.file_io.proofs.OpenedLemmas.{has-file, is-named}
use Rattle.file_io.proofs.TryingLemmas.{tries-in}
use Rattle.file_io.specs.Calls.{reading_attempt_calls}
use Rattle.file_io.specs.Opened.{found_on}
use Rattle.file_io.specs.Reading.{read_opened}
use Rattle.file_io.proofs.reads.read_line.Goals as goal

pub read_opened-requires-clause-opened : goal.read_opened-requires-clause-opened
read_opened-requires-clause-opened g c = record {
  path = c.requires.opened.path;
  file = has-file c.args.machine.now.files _ c.requires.sound c.args.by.p.0 _ c.args.opened.now c.requires.opened;
}

pub read_opened-requires-clause-calls : goal.read_opened-requires-clause-calls
read_opened-requires-clause-calls g c = record {
  calls = record { lives = search rules; regs = search rules };
  no_read =
      again-no_read c.args.machine.now.files.io c.args.by.p.0 _ c.args.opened.now Device.ReadLn _ c.requires.again.again refl
      (is-named c.args.machine.now.files _ c.requires.sound c.args.by.p.0 _ c.args.opened.now c.requires.opened);
}

pub read_opened-requires-clause-may : goal.read_opened-requires-clause-may
read_opened-requires-clause-may g c = record {
  asks = may-ask c.args.machine.now.files _ c.args.by.p.0 _ c.args.opened.now c.requires.sound c.requires.opened c.requires.again.kept;
  count = kept-request Device.ReadLn _ c.args.machine.now.files c.args.by.p.0 c.requires.again;
}

pub returns-clause-call : goal.returns-clause-call
returns-clause-call g c now terms m was tied stands kinds =
    let p = c.args.by.p.0 in
    let it = known-a c.args.machine.now.files _ was p c.args.opened.now stands kinds c.args.machine.now.processes m c.args.by.regs c.requires.calls.regs tied c.requires.opened in
    let asker = asker_of m p now in
    let found = found_on c.args.opened.now it.volume it.file in
    tries-in m was now p c.read_opened.result _ _ terms Call.ReadLn (read_opened WholeLine (asker_of m p now) was
    found) (line-step (asker_of m p now) was found it.found) (reading_attempt_calls asker was found) _
    (ap (λ (o : Option OpenFile). option_map_or (reading_attempt_calls asker was) o 0) it.found)
    (c.read_opened.ensures.call now m was it.volume it.file terms tied stands it.is it.there)
