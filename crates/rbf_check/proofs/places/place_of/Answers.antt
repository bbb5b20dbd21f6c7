use Rattle.rbf_check.proofs.Surveys.{root_file, no_place, link_is, linked_file, linked_place}
use Rattle.rbf_check.proofs.places.place_of.Goals as goal

pub returns-then-n-survey-clause-file : goal.returns-then-n-survey-clause-file
returns-then-n-survey-clause-file c =
    root_file c.args.survey.now c.requires.survey c.args.n c.if-n-survey.true

pub returns-in_err-link-clause-none : goal.returns-in_err-link-clause-none
returns-in_err-link-clause-none c none =
    no_place c.args.survey.now c.requires.survey c.args.places.now c.requires.places c.args.n c.if-n-survey.false c.in_err-link.was

pub link_name-requires-clause-link : goal.link_name-requires-clause-link
link_name-requires-clause-link c =
    link_is c.args.survey.now c.requires.survey c.args.places.now c.requires.places c.args.n c.in_ok-link.link c.in_ok-link.was

pub returns-clause-file : goal.returns-clause-file
returns-clause-file c =
    linked_file c.args.survey.now c.requires.survey c.args.places.now c.requires.places c.args.n c.in_ok-link.link c.in_ok-link.was

pub returns-clause-place : goal.returns-clause-place
returns-clause-place c =
    linked_place c.args.survey.now c.requires.survey c.args.places.now c.requires.places c.args.n c.in_ok-link.link c.in_ok-link.was c.link_name.result c.link_name.ensures
