use Rattle.std.proofs.Common.{◌∙◌, Some, Result, IfOk, ℕ, sym, ap, subst}
use Rattle.device_table.specs.declared.devices.Dev.{Dev}
use Rattle.file_drives.specs.Mounted.{mounted_at}
use Rattle.file_rules.specs.Route.{route_of_device}
use Rattle.os9_base.specs.declared.errors.TheConstants.{E_MNF}
use Rattle.file_routes.specs.Routes.{StartsAtFile}
use Rattle.file_routes.specs.declared.route.Course.{Course}
use Rattle.file_routes.proofs.RouteLemmas.{along-starts, drive-route}
use Rattle.file_routes.proofs.route.course_on.Goals as goal

pub returns-in-Drive-clause-course : goal.returns-in-Drive-clause-course
returns-in-Drive-clause-course c files views named mounted is =
    drive-route c.in-Drive.n (mounted_at files.volumes c.in-Drive.n) c.root.result c.args.first named.names c.along.result c.along.ensures (c.root.ensures.root views files.volumes mounted)
    ∙ ap (λ (device : Dev). route_of_device files named (Some device)) (sym c.in-Drive.is)

pub returns-in-Drive-clause-start : goal.returns-in-Drive-clause-start
returns-in-Drive-clause-start c views volumes mounted =
    subst (λ (course : Result Course ℕ). IfOk course (StartsAtFile c.args.disks.now views)) (sym c.along.ensures)
    (along-starts c.args.disks.now views c.root.result c.args.first E_MNF (c.root.ensures.file views volumes mounted))
