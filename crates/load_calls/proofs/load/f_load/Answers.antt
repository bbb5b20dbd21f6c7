use Rattle.std.proofs.Common.{None, vec_len}
use Rattle.file_rules.specs.Attempts.{asker_of}
use Rattle.file_rules.specs.Load.{links_first}
use Rattle.file_rules.specs.ProgramFile.{program_file}
use Rattle.load_calls.specs.Calls.{program_calls}
use Rattle.load_calls.proofs.AttemptLemmas.{file-read, file-refused, reading-keeps}
use Rattle.load_calls.proofs.load.f_load.Goals as goal

pub returns-in-Err-clause-call : goal.returns-in-Err-clause-call
returns-in-Err-clause-call g c now m was tied stands kinds =
    let p = c.args.by.p.0 in
    let terms = vec_len c.args.devices.now.terms in
    let asker = asker_of m p now in
    let read = c.in-Err.ensures.call m was now tied stands in
    let by = file-refused (program_file asker was terms (λ step. step)) (program_calls asker was terms None) m
    (links_first m p) was p _ _ _ _ c.in-Err.number _ read (c.read_program.ensures.same.represents m tied) in
    record {
      result = by.result;
      left = read.left;
      attempted = record { reading = by.reading; reads = by.reads; comes = by.goes };
      comes = by.comes;
      stands = read.stands;
      calls = read.calls;
      media_kept = read.media_kept;
    }

pub returns-in-Ok-clause-call : goal.returns-in-Ok-clause-call
returns-in-Ok-clause-call g c now m was tied stands kinds =
    let p = c.args.by.p.0 in
    let terms = vec_len c.args.devices.now.terms in
    let asker = asker_of m p now in
    let read = c.in-Ok.ensures.call m was now tied stands in
    let same = c.read_program.ensures.same.represents m tied in
    let by =
    file-read (program_file asker was terms (λ step. step)) (program_calls asker was terms None) m (links_first m p) was p _ _ _ _ c.in-Ok.read c.load_read.result c.call_end.result _ read
    (λ file reads front. c.load_read.ensures.call m file same front)
    (λ call answers. c.call_end.ensures.comes m p call _ answers)
    in record {
      result = by.result;
      left = read.left;
      attempted = record { reading = by.reading; reads = by.reads; comes = by.goes };
      comes = by.comes;
      stands = read.stands;
      calls = read.calls;
      media_kept = read.media_kept;
    }

pub returns-in-Err-clause-io : goal.returns-in-Err-clause-io
returns-in-Err-clause-io g c = (reading-keeps _ _ _ _ _ _ _ _ _ c.requires.sound c.read_program.ensures.call).io

pub returns-in-Err-clause-directories : goal.returns-in-Err-clause-directories
returns-in-Err-clause-directories g c = (reading-keeps _ _ _ _ _ _ _ _ _ c.requires.sound c.read_program.ensures.call).directories

pub returns-in-Err-clause-records : goal.returns-in-Err-clause-records
returns-in-Err-clause-records g c = (reading-keeps _ _ _ _ _ _ _ _ _ c.requires.sound c.read_program.ensures.call).records

pub returns-in-Ok-clause-io : goal.returns-in-Ok-clause-io
returns-in-Ok-clause-io g c = (reading-keeps _ _ _ _ _ _ _ _ _ c.requires.sound c.read_program.ensures.call).io

pub returns-in-Ok-clause-directories : goal.returns-in-Ok-clause-directories
returns-in-Ok-clause-directories g c = (reading-keeps _ _ _ _ _ _ _ _ _ c.requires.sound c.read_program.ensures.call).directories

pub returns-in-Ok-clause-records : goal.returns-in-Ok-clause-records
returns-in-Ok-clause-records g c = (reading-keeps _ _ _ _ _ _ _ _ _ c.requires.sound c.read_program.ensures.call).records
