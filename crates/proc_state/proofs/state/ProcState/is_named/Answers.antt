use Rattle.std.proofs.Common.{◌≡◌, ◌↔◌, ◌<◌, ℕ, Bool, true, false, IsTrue, is_some, refl, sym, ap, ◌∙◌, arith}
use Rattle.std.proofs.lemmas.Bool.{false≢true}
use Rattle.os9_base.specs.Cells.{Cells, FitsIn}
use Rattle.proc_model.specs.UserBytes.{user_bytes}
use Rattle.guest_memory.proofs.Seen.{cells_of-seen}
use Rattle.guest_memory.specs.Tie.{cells_of}
use Rattle.proc_state.proofs.UserBytes.{user_bytes-fits, user_bytes-None}
use Rattle.proc_state.proofs.state.ProcState.is_named.Goals as goal

-- a range fits exactly if its bytes can be read
tells : (cells : Cells) (at count : ℕ) → at < 65536 → (result : Bool) → IsTrue result ↔ FitsIn cells at count → result ≡ is_some (user_bytes cells at count)
tells cells at count small true (fits, named) = sym (user_bytes-fits cells at count (fits refl))
tells cells at count small false (fits, named) = sym (ap is_some (user_bytes-None cells at count small (λ whole. false≢true (named whole))))

pub returns-clause-there : goal.returns-clause-there
returns-clause-there c m tied =
    tells (cells_of c.args.self.now.memory c.args.p.0) c.args.at c.args.count (omega arith) c.is_named.result c.is_named.ensures
    ∙ ap (λ (cells : Cells). is_some (user_bytes cells c.args.at c.args.count)) (cells_of-seen c.args.self.now.memory c.args.p.0 c.requires m.memory tied.memory)
