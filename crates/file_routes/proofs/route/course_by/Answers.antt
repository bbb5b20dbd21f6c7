use Rattle.file_routes.proofs.route.course_by.Goals as goal

pub returns-in-Some-find-clause-names : goal.returns-in-Some-find-clause-names
returns-in-Some-find-clause-names g c cells named read is =
    c.course_on.ensures.names cells named.names (c.first_name-first.ensures cells named read is)
