use Rattle.std.proofs.Common.{◌∙◌, sym, ap}
use Rattle.device_paths.specs.declared.list.Listed.{Listed}
use Rattle.device_paths.proofs.StandingLemmas.{device-first, relative-stand}
use Rattle.device_paths.proofs.list.Listed.first_name.Goals as goal

pub returns-in-None : goal.returns-in-None
returns-in-None c cells list read is =
    relative-stand cells c.args.at list read (ap (λ (found : Listed). found.device) (sym is) ∙ c.in-None.is)

pub returns-in-Some : goal.returns-in-Some
returns-in-Some c cells list read is =
    device-first cells c.args.at c.len.result list c.in-Some.device c.behind_device.result read
    (ap (λ (found : Listed). found.device) (sym is) ∙ c.in-Some.is)
    (ap (λ (found : Listed). found.has_names) (sym is) ∙ c.if-not-self.false)
    c.len.ensures.length c.behind_device.ensures
