use Rattle.std.proofs.Common.{◌≡◌, ◌∙◌, refl, sym, vec_len}
use Rattle.std.proofs.Math.Path.{fun_ext}
use Rattle.proc_model.specs.Chain.{f_chain}
use Rattle.file_rules.specs.Attempts.{asker_of}
use Rattle.file_rules.specs.Program.{chains, tests_program}
use Rattle.file_rules.specs.ProgramFile.{ProgramFile}
use Rattle.file_rules.specs.Step.{Step}
use Rattle.file_routes.specs.Routes.{refuses_by}
use Rattle.load_calls.proofs.AttemptLemmas.{file-read, file-refused, parameters-there, reading-keeps, start-by-file, start-named}
use Rattle.load_calls.proofs.chain.f_chain.Goals as goal

pub returns-then-names_program-clause-call : goal.returns-then-names_program-clause-call
returns-then-names_program-clause-call g c now m was tied stands kinds =
    let p = c.args.by.p.0 in
    start-named chains f_chain m p now was (vec_len c.args.devices.now.terms) _ _ _ (sym (c.names_program.ensures.named m tied) ∙ c.if-names_program.true)
    (c.f_chain.ensures.call m (c.names_program.ensures.same.represents m tied)) stands refl

pub returns-in-Err-clause-call : goal.returns-in-Err-clause-call
returns-in-Err-clause-call g c now m was tied stands kinds =
    let p = c.args.by.p.0 in
    let same = c.names_program.ensures.same.represents m tied in
    let test_is : refuses_by c.program_refusal-refusal.result ≡ tests_program m p = fun_ext (λ (step : Step ProgramFile). c.program_refusal-refusal.ensures m step same) in
    start-by-file chains f_chain m p now was (vec_len c.args.devices.now.terms) _ _ _
    (sym (c.names_program.ensures.named m tied) ∙ c.if-names_program.false)
    (refuses_by c.program_refusal-refusal.result) test_is _ _
    (c.in-Err.ensures.call m was now same stands)
    (λ read. file-refused _ _ m _ was p _ _ _ _ c.in-Err.number _ read (c.read_program.ensures.same.represents m same))

pub returns-in-Ok-clause-call : goal.returns-in-Ok-clause-call
returns-in-Ok-clause-call g c now m was tied stands kinds =
    let p = c.args.by.p.0 in
    let terms = vec_len c.args.devices.now.terms in
    let same = c.names_program.ensures.same.represents m tied in
    let after = c.read_program.ensures.same.represents m same in
    let test_is : refuses_by c.program_refusal-refusal.result ≡ tests_program m p = fun_ext (λ (step : Step ProgramFile). c.program_refusal-refusal.ensures m step same) in
    start-by-file chains f_chain m p now was terms _ _ _ (sym (c.names_program.ensures.named m tied) ∙ c.if-names_program.false) (refuses_by c.program_refusal-refusal.result) test_is _ _
    (c.in-Ok.ensures.call m was now same stands)
    (λ read. file-read _ _ m _ was p _ _ _ _ c.in-Ok.read c.chain_read.result c.call_end.result _ read
    (λ file reads front. c.chain_read.ensures.call m file after front (parameters-there (asker_of m p now) was read.left terms m p file reads))
    (λ call answers. c.call_end.ensures.comes m p call _ answers))

pub returns-in-Err-clause-io : goal.returns-in-Err-clause-io
returns-in-Err-clause-io g c = (reading-keeps _ _ _ _ _ _ _ _ _ c.requires.sound c.read_program.ensures.call).io

pub returns-in-Err-clause-directories : goal.returns-in-Err-clause-directories
returns-in-Err-clause-directories g c = (reading-keeps _ _ _ _ _ _ _ _ _ c.requires.sound c.read_program.ensures.call).directories

pub returns-in-Err-clause-records : goal.returns-in-Err-clause-records
returns-in-Err-clause-records g c = (reading-keeps _ _ _ _ _ _ _ _ _ c.requires.sound c.read_program.ensures.call).records

pub returns-in-Ok-clause-io : goal.returns-in-Ok-clause-io
returns-in-Ok-clause-io g c = (reading-keeps _ _ _ _ _ _ _ _ _ c.requires.sound c.read_program.ensures.call).io

pub returns-in-Ok-clause-directories : goal.returns-in-Ok-clause-directories
returns-in-Ok-clause-directories g c = (reading-keeps _ _ _ _ _ _ _ _ _ c.requires.sound c.read_program.ensures.call).directories

pub returns-in-Ok-clause-records : goal.returns-in-Ok-clause-records
returns-in-Ok-clause-records g c = (reading-keeps _ _ _ _ _ _ _ _ _ c.requires.sound c.read_program.ensures.call).records
