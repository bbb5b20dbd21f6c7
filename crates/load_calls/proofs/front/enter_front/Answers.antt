use Rattle.std.proofs.Common.{◌≡◌, ℕ, List, Result, Ok, take, ap, refl, subst, sym}
use Rattle.proc_model.specs.Processes.{Processes, with_memory}
use Rattle.file_rules.specs.Load.{Loads}
use Rattle.proc_model.specs.declared.module.ModId.{ModId}
use Rattle.load_calls.proofs.front.enter_front.Goals as goal

number-of : (id : ModId) (number : ℕ) (answer : Result ModId ℕ) → answer ≡ Ok id → answer ≡ Ok (record { 0 = number }) → id.0 ≡ number
number-of id number answer one other = let same : id ≡ record { 0 = number } = cc in ap (λ (i : ModId). i.0) same

pub invariant_of-s-clause-primaries : goal.invariant_of-s-clause-primaries
invariant_of-s-clause-primaries c p own id at primary = c.enter_tried.ensures.stay id.0 (c.args.s.now.primaries p own id at primary)

pub returns-clause-loads : goal.returns-clause-loads
returns-clause-loads c m loaded tied loads =
    let comes = c.enter_tried.ensures.loads m.memory loaded tied.memory (subst (λ (bytes : List ℕ). Loads m.memory (take c.args.size bytes) (Ok loaded)) (sym c.deref.ensures.value) loads) in record {
      number_is = number-of c.enter_tried.result loaded.first.number (Ok c.enter_tried.result) refl comes.0;
      stands = record { memory = comes.1; is = ap (λ (s : Processes). with_memory s loaded.memory) tied.is };
    }
