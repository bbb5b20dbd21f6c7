use Rattle.std.proofs.Common.{Err, Ok, refl}
use Rattle.load_calls.proofs.OutcomeLemmas.{tried-ok, tried-refused}
use Rattle.load_calls.proofs.entering.enter_file.Goals as goal

pub returns-in-Err : goal.returns-in-Err
returns-in-Err c = record {
  loads = λ m tied. record {
    outcome = Err c.in-Err.number;
    loads = tried-refused m c.args.file.now c.in-Err.number (c.in-Err.ensures.tries m tied);
    comes = (refl, tied);
  };
}

pub returns-in-Ok : goal.returns-in-Ok
returns-in-Ok c = record {
  loads = λ m tied.
      let tried = tried-ok m c.args.file.now c.in-Ok.first (c.in-Ok.ensures.tries m tied) in record {
        outcome = Ok tried.loaded;
        loads = tried.loads;
        comes = c.enter_tried.ensures.loads m tried.loaded tied tried.loads;
      };
}
