use Rattle.proc_model.proofs.LoadingLemmas.{Enters-one, Enters-some}
use Rattle.proc_model.proofs.loading.modules_are_entered_in_one_way.Goals as goal

pub returns : goal.returns
returns c =
    record {
      one_outcome = λ file group is_boot from entries one other first second. Enters-one first second;
      some_outcome = Enters-some;
    }
