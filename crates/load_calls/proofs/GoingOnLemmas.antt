-- How a call goes on whose file was read.
use Rattle.std.proofs.Common.{◌≡◌, ℕ, Result, Ok, Err, refl, sym, subst, ◌∙◌}
use Rattle.proc_model.specs.CallResult.{CallResult, done, refused}
use Rattle.proc_model.specs.Processes.{Processes}
use Rattle.file_rules.specs.Load.{Loaded, Loads}
use Rattle.file_rules.specs.ProgramFile.{ProgramFile}
use Rattle.load_calls.proofs.OutcomeLemmas.{tried-refused}
use Rattle.load_calls.specs.Entering.{TriesFile}
use Rattle.proc_state.specs.Tie.{ReturnsDoneOrRefused, RepresentsProcesses}
use Rattle.proc_state.specs.declared.state.ProcState.{ProcState}
use Rattle.load_calls.specs.Loading.{GoesOn}

module _ (m : Processes) (file : ProgramFile) (next : ProgramFile → Loaded → CallResult) (new : ProcState) where
  -- the trial of the file refused it
  pub goes-untried : (number : ℕ) → TriesFile file.bytes m.memory (Err number) → RepresentsProcesses new m → GoesOn m file next (Err number) new
  goes-untried number tried stands = record {
    result = refused number;
    goes = (Err number, tried-refused m.memory file.bytes number tried, refl);
    answers = (refl, stands);
  }

  module _ (loaded : Loaded) (loads : Loads m.memory file.bytes (Ok loaded)) where
    -- it is refused with the file
    pub goes-refused : (number : ℕ) → next file loaded ≡ refused number → RepresentsProcesses new m → GoesOn m file next (Err number) new
    goes-refused number is stands = record {
      result = next file loaded;
      goes = (Ok loaded, loads, refl);
      answers = subst (λ (call : CallResult). ReturnsDoneOrRefused m call (Err number) new) (sym is) (refl, stands);
    }

    -- it is done, as a call is that begins in another state
    pub goes-done : (outcome : Result (Unit {0}) ℕ) (other t : Processes) (call : CallResult) → next file loaded ≡ call → call ≡ done t → ReturnsDoneOrRefused other call outcome new
        → GoesOn m file next outcome new
    goes-done outcome other t call is done_is answers = record {
      result = next file loaded;
      goes = (Ok loaded, loads, refl);
      answers = subst (λ (call : CallResult). ReturnsDoneOrRefused m call outcome new) (sym (is ∙ done_is))
          (subst (λ (call : CallResult). ReturnsDoneOrRefused other call outcome new) done_is answers);
    }
