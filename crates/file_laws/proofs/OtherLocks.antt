-- A call that may not change locks leaves them.
use Rattle.std.proofs.Common.{◌≡◌, ℕ, true, false, refl, sym, ap, ◌∙◌}
use Rattle.std.proofs.lemmas.Bool.{false≢true}
use Rattle.io_model.specs.declared.terminal.ReadKind.{ReadKind}
use Rattle.io_model.specs.declared.terminal.ReadKind.TheVariants.{Bytes, WholeLine}
use Rattle.lock_model.specs.Records.{Records}
use Rattle.file_rules.specs.Files.{OpenFile}
use Rattle.file_rules.specs.declared.claim.Claim.{Claim}
use Rattle.file_rules.specs.declared.path_call.PathCall.{PathCall}
use Rattle.file_rules.specs.declared.path_call.PathCall.TheVariants as Call
use Rattle.file_rules.specs.declared.status.TheConstants.{SS_LOCK, SS_SIZE}
use Rattle.file_laws.specs.Attempt.{Attempt, made_in}
use Rattle.file_laws.specs.Claims.{Claims, MadePathCall, read_call}
use Rattle.file_laws.specs.Recorded.{EndsLock, RecordsCome, may_change_locks, settled}
use Rattle.file_laws.proofs.Claimed.{records-come}

module _ (m : MadePathCall) where
  abbrev code : ℕ
  code = m.asker.caller.regs.b

  abbrev May : Type 0
  May = may_change_locks m.call code ≡ true

  by-name : (call : PathCall) → m.call ≡ call → may_change_locks call code ≡ true → May
  by-name call is may = ap (λ (call : PathCall). may_change_locks call code) is ∙ may

  by-code : (other : ℕ) → m.call ≡ Call.SetStt → code ≡ other → may_change_locks Call.SetStt other ≡ true → May
  by-code other is same may = by-name Call.SetStt is (ap (may_change_locks Call.SetStt) same ∙ may)

  by-kind : (kind : ReadKind) → m.call ≡ read_call kind → May
  by-kind Bytes is = by-name Call.Read is refl
  by-kind WholeLine is = by-name Call.ReadLn is refl

  claims-may : (found : OpenFile) (claim : Claim) → Claims m.call m.asker m.files found claim → May
  claims-may found claim (Claims.reads kind is can update more claim_is) = by-kind kind is
  claims-may found claim (Claims.writes bytes is can there claim_is) = by-name Call.Write is refl
  claims-may found claim (Claims.writes_line bytes is can there claim_is) = by-name Call.WritLn is refl
  claims-may found claim (Claims.tells_error is may claim_is) = by-name Call.PErr is refl
  claims-may found claim (Claims.sizes is same may claim_is) = by-code SS_SIZE is same refl
  claims-may found claim (Claims.locks is same update some claim_is) = by-code SS_LOCK is same refl

  others-stay : may_change_locks m.call code ≡ false → (now : Records) → RecordsCome m now → now ≡ settled m
  others-stay none_so now (RecordsCome.stay is) = is
  others-stay none_so now (RecordsCome.holds request kind bytes it taken is) =
      absurd (false≢true (sym none_so ∙ claims-may it.requests.found it.requests.claim it.requests.claims))
  others-stay none_so now (RecordsCome.writes request bytes it sent is) =
      absurd (false≢true (sym none_so ∙ claims-may it.requests.found it.requests.claim it.requests.claims))
  others-stay none_so now (RecordsCome.ends found names (EndsLock.by_close close gone) is) =
      absurd (false≢true (sym none_so ∙ by-name Call.Close close refl))
  others-stay none_so now (RecordsCome.ends found names (EndsLock.by_lock set same update none) is) =
      absurd (false≢true (sym none_so ∙ by-code SS_LOCK set same refl))
  others-stay none_so now (RecordsCome.ends found names (EndsLock.by_size request it one set same long) is) =
      absurd (false≢true (sym none_so ∙ by-code SS_SIZE set same refl))
  others-stay none_so now (RecordsCome.waits request requests answer is) =
      absurd (false≢true (sym none_so ∙ claims-may requests.found requests.claim requests.claims))

pub others-keep : (it : Attempt) → may_change_locks it.call (made_in it).asker.caller.regs.b ≡ false → it.new.records ≡ settled (made_in it)
others-keep it none_so = others-stay (made_in it) none_so it.new.records (records-come it)
