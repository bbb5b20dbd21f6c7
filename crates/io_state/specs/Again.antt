-- Further attempts, as the rules of the calls have them.
pub use Rattle.io_model.specs.Again.{path_number, KeepsCount, IsPending, IsAgain}
