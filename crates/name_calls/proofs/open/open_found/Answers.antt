use Rattle.std.proofs.Common.{◌≡◌, ◌∙◌, ap, sym, subst}
use Rattle.file_rules.specs.Attempts.{asker_of}
use Rattle.file_rules.specs.Files.{target_on}
use Rattle.file_rules.specs.Open.{opens_found}
use Rattle.file_rules.specs.Sharing.{is_not_shared}
use Rattle.file_rules.specs.Step.{FileStep}
use Rattle.name_calls.proofs.OpenEndLemmas.{refused-quietly}
use Rattle.name_calls.proofs.OpenLemmas.{found-begins, found-forbidden, found-shared, may-tied, mode-tied}
use Rattle.name_calls.specs.Ends.{EndsQuietly}
use Rattle.name_calls.proofs.open.open_found.Goals as goal

pub returns-then-not-may_open-clause-opens : goal.returns-then-not-may_open-clause-opens
returns-then-not-may_open-clause-opens c m was now list found views tied stands place fd next =
    let p = c.args.by.p.0 in
    let may = may-tied c.args.machine.now.processes m p tied c.args.by.regs c.requires.calls.calls.regs found.file c.user.result c.user.ensures.user in
    refused-quietly m p c.args.machine.now.files views c.refuse.result c.args.machine.now.processes c.refuse.new.io c.refuse.ensures.io _ c.refuse.ensures.end tied was stands
    (opens_found (asker_of m p now) was list found)
    (found-forbidden (asker_of m p now) was list found (may ∙ sym (c.may_open.ensures found.file fd) ∙ c.if-not-may_open.true))

pub returns-then-is_not_shared-clause-opens : goal.returns-then-is_not_shared-clause-opens
returns-then-is_not_shared-clause-opens c m was now list found views tied stands place fd next =
    let p = c.args.by.p.0 in
    let may = may-tied c.args.machine.now.processes m p tied c.args.by.regs c.requires.calls.calls.regs found.file c.user.result c.user.ensures.user in
    let shared = ap (is_not_shared was found) (mode-tied c.args.machine.now.processes m p tied c.args.by.regs
    c.requires.calls.calls.regs) ∙ sym (c.is_not_shared.ensures views was found stands place (sym fd.attributes_are))
    in
    refused-quietly m p c.args.machine.now.files views c.refuse-then-is_not_shared.result c.args.machine.now.processes
    c.refuse-then-is_not_shared.new.io c.refuse-then-is_not_shared.ensures.io _
    c.refuse-then-is_not_shared.ensures.end tied was stands (opens_found (asker_of m p now) was list found)
    (found-shared (asker_of m p now) was list found (may ∙ sym (c.may_open.ensures found.file fd) ∙ c.if-not-may_open.false) (shared ∙ c.if-is_not_shared.true))

pub returns-clause-opens : goal.returns-clause-opens
returns-clause-opens c m was now list found views tied stands place fd next =
    let p = c.args.by.p.0 in
    let may = may-tied c.args.machine.now.processes m p tied c.args.by.regs c.requires.calls.calls.regs found.file c.user.result c.user.ensures.user in
    let shared = ap (is_not_shared was found) (mode-tied c.args.machine.now.processes m p tied c.args.by.regs
    c.requires.calls.calls.regs) ∙ sym (c.is_not_shared.ensures views was found stands place (sym fd.attributes_are))
    in
    let target : c.target_on-target.result ≡ target_on found.file found.place =
    c.target_on-target.ensures.target found.file (c.is_directory.ensures found.file fd) ∙ ap (target_on found.file) (sym place) in
    subst (λ (step : FileStep). EndsQuietly step m was p c.begin_on.result c.begin_on.new.machine.processes c.begin_on.new.machine.files views)
    (found-begins (asker_of m p now) was list found (may ∙ sym (c.may_open.ensures found.file fd) ∙ c.if-not-may_open.false) c.target_on-target.result (shared ∙ c.if-is_not_shared.false) target)
    (c.begin_on.ensures.begins m was now list views tied stands next)
