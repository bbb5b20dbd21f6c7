-- What an attempt of a call makes of locks, requests and their history.
use Rattle.std.specs.Prelude.{if◌then◌else◌}
use Rattle.std.proofs.Common.{◌≡◌, ℕ, ◌==◌, [], Bool, true, false, Option, None, List, length, refl, sym, ap, ◌∙◌, subst, inl, inr}
use Rattle.std.proofs.lemmas.Bool.{eqb-false, eqb-true}
use Rattle.os9_base.specs.declared.registers.Regs.{Regs}
use Rattle.os9_outer.specs.TerminalState.{TerminalState}
use Rattle.lock_model.specs.Records.{Records, with_waiting, without_lock, written_by}
use Rattle.lock_model.specs.declared.lock.Request.{Request}
use Rattle.io_model.specs.Attempts.{pending_in}
use Rattle.io_model.specs.Step.{IoEnd, answers, fails, keeps}
use Rattle.io_model.specs.declared.io_call.IoCall.TheVariants as Device
use Rattle.file_rules.specs.Attempts.{file_step}
use Rattle.file_rules.specs.Change.{Change}
use Rattle.file_rules.specs.Files.{Asker, Files}
use Rattle.file_rules.specs.Seek.{long_of}
use Rattle.file_rules.specs.Locking.{records_after}
use Rattle.file_rules.specs.Step.{Deed, DoesDeed, FileDoes, FileEffect, FileStep, as_io, changes, deed_of, drive_of, leaves_so}
use Rattle.file_rules.specs.declared.path_call.PathCall.{PathCall}
use Rattle.file_rules.specs.declared.path_call.PathCall.TheVariants as Call
use Rattle.file_laws.specs.Attempt.{Attempt, asker_in, made_in}
use Rattle.file_laws.specs.Claims.{MadePathCall}
use Rattle.file_laws.proofs.Requests.{forgets-again, freed-settled, over-drops}
use Rattle.file_laws.specs.Recorded.{EndsLock, IsSent, RecordsCome, path_in}
use Rattle.file_laws.proofs.ClaimNames.{chgdir-claimed, create-claimed, delete-claimed, deletx-claimed, makdir-claimed, open-claimed}
use Rattle.file_laws.proofs.ClaimNumbers.{close-claimed, getstt-claimed, perr-claimed, read-claimed, readln-claimed, seek-claimed, setstt-claimed, write-claimed, writln-claimed}
use Rattle.file_laws.proofs.ClaimSteps.{Claimed, IsClaimedChange, LeftSo, RefusedBy, StepClaimed, made}

-- ---- what the step of each call makes

pub claimed : (call : PathCall) (asker : Asker) (files : Files) (terms : ℕ) → StepClaimed call asker files terms (file_step call asker files terms)
claimed Call.Dup asker files terms = inl (record { device = Device.Dup; device_is = refl; is = refl })
claimed Call.Create asker files terms = create-claimed asker files terms
claimed Call.Open asker files terms = open-claimed asker files terms
claimed Call.MakDir asker files terms = makdir-claimed asker files terms
claimed Call.ChgDir asker files terms = chgdir-claimed asker files terms
claimed Call.Delete asker files terms = delete-claimed asker files terms
claimed Call.DeletX asker files terms = deletx-claimed asker files terms
claimed Call.Seek asker files terms = seek-claimed asker files terms
claimed Call.Read asker files terms = read-claimed asker files terms
claimed Call.Write asker files terms = write-claimed asker files terms
claimed Call.ReadLn asker files terms = readln-claimed asker files terms
claimed Call.WritLn asker files terms = writln-claimed asker files terms
claimed Call.GetStt asker files terms = getstt-claimed asker files terms
claimed Call.SetStt asker files terms = setstt-claimed asker files terms
claimed Call.Close asker files terms = close-claimed asker files terms
claimed Call.PErr asker files terms = perr-claimed asker files terms

module _ (call : PathCall) (asker : Asker) (files : Files) (terms : ℕ) where
  abbrev m : MadePathCall
  m = made call asker files terms

  abbrev p : ℕ
  p = asker.caller.process.0

  -- the records after what was done ended so
  abbrev Comes : IoEnd → Records → Type 0
  Comes end records = RecordsCome m (records_after end records p)

  -- an attempt that does not wait forgets the request
  over-comes : (end : IoEnd) (records : Records) → pending_in end ≡ None → RecordsCome m (with_waiting records p None) → Comes end records
  over-comes end records over come = subst (RecordsCome m) (sym (over-drops end records p over)) come

  still-comes : (end : IoEnd) (records : Records) → pending_in end ≡ None → records ≡ files.records → Comes end records
  still-comes end records over same =
      over-comes end records over (RecordsCome.stay (ap (λ (records : Records). with_waiting records p None) same))

  answered-over : (end : IoEnd) (regs : Regs) → end ≡ answers regs → pending_in end ≡ None
  answered-over end regs is = ap pending_in is

  device-comes : (end : IoEnd) → Comes end (with_waiting files.records p None)
  device-comes (answers regs) = RecordsCome.stay (forgets-again p files.records)
  device-comes (fails number) = RecordsCome.stay (forgets-again p files.records)
  device-comes (keeps pending) = RecordsCome.stay refl

  refused-comes : (request : Request) (it : FileEffect) → RefusedBy call asker files terms request it → Comes it.end it.files.records
  refused-comes request it (inl (answer, is)) =
      subst (λ (it : FileEffect). Comes it.end it.files.records) (sym is) (RecordsCome.stay refl)
  refused-comes request it (inr (answer, is)) =
      subst (λ (it : FileEffect). Comes it.end it.files.records) (sym is) (RecordsCome.stay refl)

  still-beside : (now : Records) → now ≡ files.records → RecordsCome m (with_waiting now p None)
  still-beside now same = RecordsCome.stay (ap (λ (records : Records). with_waiting records p None) same)

  left-comes : (it : FileEffect) → LeftSo call asker files terms it → Comes it.end it.files.records
  left-comes it (LeftSo.still so) = still-comes it.end it.files.records so.over so.records
  left-comes it (LeftSo.held request kind bytes granted taken done is) =
      over-comes it.end it.files.records (answered-over it.end done.regs done.end)
      (RecordsCome.holds request kind bytes granted taken (ap (λ (records : Records). with_waiting records p None) is))
  left-comes it (LeftSo.ended found names ends done is) =
      over-comes it.end it.files.records (answered-over it.end done.regs done.end)
      (RecordsCome.ends found names ends (ap (λ (records : Records). with_waiting records p None) is ∙ freed-settled files.records found.opened.path.0 p))
  left-comes it (LeftSo.waited request requests answer is) =
      subst (λ (it : FileEffect). Comes it.end it.files.records) (sym is) (RecordsCome.waits request requests answer refl)
  left-comes it (LeftSo.opposed request requests refusal) = refused-comes request it refusal

  beside-comes : (drive : ℕ) (change : Change) (now : Records) → IsClaimedChange call asker files terms drive change now → RecordsCome m (with_waiting now p None)
  beside-comes drive change now (IsClaimedChange.by_write request bytes granted sent on is covers recorded) =
      RecordsCome.writes request bytes granted sent (ap (λ (records : Records). with_waiting records p None) recorded)
  beside-comes drive change now (IsClaimedChange.by_size request granted (set, code) on is covers recorded) =
      subst (λ (now : Records). RecordsCome m (with_waiting now p None)) (sym recorded) (by_size (length granted.requests.found.file.contents == long_of asker.caller.regs) refl)
    where
      by_size : (same : Bool) → (length granted.requests.found.file.contents == long_of asker.caller.regs) ≡ same
          → RecordsCome m (with_waiting (if same then without_lock files.records (path_in granted) else written_by files.records (path_in granted) request.lock []) p None)
      by_size true is =
          RecordsCome.ends granted.requests.found granted.requests.names
          (EndsLock.by_size request granted refl set code (eqb-true (length granted.requests.found.file.contents) (long_of asker.caller.regs) is))
          (freed-settled files.records (path_in granted) p)
      by_size false is =
          RecordsCome.writes request [] granted
          (IsSent.by_size set code (eqb-false (length granted.requests.found.file.contents) (long_of asker.caller.regs) is) refl) refl
  beside-comes drive change now (IsClaimedChange.by_attributes n attributes is recorded) = still-beside now recorded
  beside-comes drive change now (IsClaimedChange.by_file d name attributes is folder recorded) = still-beside now recorded
  beside-comes drive change now (IsClaimedChange.by_directory d name attributes is folder recorded) = still-beside now recorded
  beside-comes drive change now (IsClaimedChange.by_deletion d n name is folder closed recorded) = still-beside now recorded

  deed-comes : (reached : Option ℕ) (deed : Deed) → Claimed call asker files terms reached deed → (it : FileEffect)
      (before after : List TerminalState) → DoesDeed deed asker files it before after → Comes it.end it.files.records
  deed-comes reached (leaves_so effect) left it before after (is, same) =
      subst (λ (it : FileEffect). Comes it.end it.files.records) (sym is) (left-comes effect left)
  deed-comes reached (as_io step) left it before after (io, does, is) =
      subst (λ (it : FileEffect). Comes it.end it.files.records) (sym is) (device-comes io.end)
  deed-comes reached (changes change) left it before after (inl changed, same) =
      let done = left.answered changed.number in
      subst (λ (it : FileEffect). Comes it.end it.files.records) (sym changed.effect_is)
      (over-comes (change.effect changed.number).end (change.effect changed.number).files.records (answered-over (change.effect changed.number).end done.regs done.end)
      (beside-comes change.drive change.change (change.effect changed.number).files.records (left.claimed changed.number)))
  deed-comes reached (changes change) left it before after (inr long, same) =
      subst (λ (it : FileEffect). Comes it.end it.files.records) (sym long.effect_is) (RecordsCome.stay refl)

  does-comes : (step : FileStep) → StepClaimed call asker files terms step → (effect : FileEffect)
      (before after : List TerminalState) → FileDoes step asker files effect before after
      → Comes effect.end effect.files.records
  does-comes step so effect before after (inl well) =
      subst (λ (effect : FileEffect). Comes effect.end effect.files.records) (sym well.effect_is) (deed-comes (drive_of step) (deed_of step files) so well.it before after well.does)
  does-comes step so effect before after (inr (broken, same)) =
      subst (λ (effect : FileEffect). Comes effect.end effect.files.records) (sym broken.effect_is) (RecordsCome.stay refl)

pub effect-comes : (call : PathCall) (asker : Asker) (files : Files) (effect : FileEffect)
    (before after : List TerminalState) → FileDoes (file_step call asker files (length before)) asker files effect
    before after → RecordsCome (made call asker files (length before)) (records_after effect.end effect.files.records
    asker.caller.process.0)
effect-comes call asker files effect before after does =
    does-comes call asker files (length before) (file_step call asker files (length before)) (claimed call asker files (length before)) effect before after does

pub records-come : (it : Attempt) → RecordsCome (made_in it) it.new.records
records-come it =
    subst (λ (new : Files). RecordsCome (made_in it) new.records) (sym it.attempted.state)
    (effect-comes it.call (asker_in it) it.files it.attempted.effect it.before it.after it.attempted.does)
