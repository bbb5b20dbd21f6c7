use Rattle.std.proofs.Common.{sym, ap}
use Rattle.device_paths.specs.declared.list.Listed.{Listed}
use Rattle.file_routes.proofs.RouteLemmas.{has-names}
use Rattle.file_routes.proofs.route.route_of.Goals as goal

pub returns-in-Err-clause-route : goal.returns-in-Err-clause-route
returns-in-Err-clause-route g c asker files execute cells views named asks read is =
    sym (c.in-Err.ensures.course asker files execute cells views named asks is)

pub returns-in-Ok-clause-route : goal.returns-in-Ok-clause-route
returns-in-Ok-clause-route g c asker files execute cells views named asks read is = record {
  course_is = sym (c.in-Ok.ensures.course asker files execute cells views named asks is);
  next_is = ap (λ (list : Listed). list.next) is;
  names = c.in-Ok.ensures.names cells named read is;
}

pub returns-in-Ok-clause-names : goal.returns-in-Ok-clause-names
returns-in-Ok-clause-names g c cells named read is =
    has-names cells c.in-Ok.course named.names (c.in-Ok.ensures.names cells named read is)
