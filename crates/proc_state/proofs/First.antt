-- What holds of processes where there are none.
use Rattle.std.proofs.Common.{◌≡◌, ℕ, zero, suc, Option, Some, None, is_some, List, replicate, get_or, refl, sym, ap, ◌∙◌}
use Rattle.std.specs.Prelude.{slice_get, [], not}
use Rattle.std.proofs.lemmas.Bool.{false≢true}
use Rattle.std.proofs.lemmas.List.{length-replicate}
use Rattle.std.proofs.lemmas.Option.{none-some, same_Some}
use Rattle.os9_sched.specs.declared.member.Member.{Member}
use Rattle.proc_model.specs.ModuleList.{ModuleEntry}
use Rattle.proc_model.specs.declared.own.Own.{Own}
use Rattle.proc_model.specs.declared.record.Record.{Record}
use Rattle.proc_model.specs.Records.{AreProcessRecords, IsLiving, record_passes, has_ended}
use Rattle.proc_model.specs.Processes.{no_own}
use Rattle.proc_state.specs.Sound.{AreTurns, ArePrimaries}

nothing : {X : Type 0} (n p : ℕ) → get_or {A = Option X} (replicate n None) p None ≡ None
nothing zero p = refl
nothing (suc n) zero = refl
nothing (suc n) (suc p) = nothing n p

nobody : (p : ℕ) → IsLiving (replicate 33 None) p → ⊥
nobody p lives = false≢true (sym (ap (record_passes (λ r. not (has_ended r.life))) (nothing {X = Record} 33 p)) ∙ lives)

has_nothing : (n p : ℕ) (own : Own) → slice_get (replicate n no_own) p ≡ Some own → own ≡ no_own
has_nothing zero p own at = absurd (none-some own at)
has_nothing (suc n) zero own at = sym (same_Some no_own own at)
has_nothing (suc n) (suc p) own at = has_nothing n p own at

pub AreRecords-first : AreProcessRecords (replicate 33 None)
AreRecords-first = record { places = length-replicate {A = Option Record} 33 None; from_two = λ p low. nothing {X = Record} 33 p }

pub AreTurns-first : AreTurns (replicate 33 None) (record { order = []; members = replicate 33 None })
AreTurns-first = record {
  members = λ p. ap is_some (nothing {X = Member} 33 p) ∙ sym (ap (record_passes (λ r. not (has_ended r.life))) (nothing {X = Record} 33 p));
  priorities = λ p lives. absurd (nobody p lives);
  causes = λ p lives. absurd (nobody p lives);
}

pub ArePrimaries-first : (entries : List (Option ModuleEntry)) → ArePrimaries (replicate 33 no_own) entries
ArePrimaries-first entries p own id at primary =
    absurd (none-some id (sym (ap (λ (o : Own). o.primary) (has_nothing 33 p own at)) ∙ primary))
