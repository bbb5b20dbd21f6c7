-- A request is for the file of its call, and covers what the call reads or changes.
use Rattle.std.proofs.Common.{◌≡◌, ℕ, ◌+◌, ◌≤◌, Bool, true, false, Option, Some, None, length, refl, sym, ap, ◌∙◌, subst, arith}
use Rattle.std.specs.Prelude.{min, nat_lt, unwrap_or, if◌then◌else◌}
use Rattle.std.proofs.lemmas.Option.{none-some, same_Some}
use Rattle.os9_base.specs.declared.calls.TheConstants.{F_PERR, I_WRITE, I_WRITLN}
use Rattle.lock_model.specs.Laws.{Covers}
use Rattle.lock_model.specs.declared.lock.Request.{Request}
use Rattle.io_model.specs.declared.terminal.ReadKind.{ReadKind}
use Rattle.io_model.specs.declared.terminal.ReadKind.TheVariants.{Bytes, WholeLine}
use Rattle.io_model.specs.Write.{error_line}
use Rattle.file_rules.specs.Files.{OpenFile}
use Rattle.file_rules.specs.Locking.{first_request, range_of, pending_request}
use Rattle.file_rules.specs.Seek.{long_of}
use Rattle.file_rules.specs.Read.{read_claim, read_start}
use Rattle.file_rules.specs.Status.{lock_claim, size_claim}
use Rattle.file_rules.specs.Write.{write_claim}
use Rattle.file_rules.specs.declared.claim.Claim.{Claim}
use Rattle.file_rules.specs.declared.path_call.PathCall.{PathCall}
use Rattle.file_rules.specs.declared.path_call.PathCall.TheVariants as Call
use Rattle.file_rules.specs.declared.status.TheConstants.{SS_LOCK, SS_SIZE}
use Rattle.file_laws.proofs.Lengths.{user-length}
use Rattle.file_laws.specs.Claims.{Claims, CoversCall, MadePathCall, Requests, read_call}
use Rattle.lock_laws.specs.Contents.{IsCovered}

-- a number of bytes from a position on are in their range
pub range-covers : (size at count : ℕ) → Covers (range_of size at count) count
range-covers size at count last end = by_test (nat_lt size (at + count)) end
  where
    by_test : (past : Bool) → (if past then None else Some (at + count)) ≡ Some last → at + count ≤ last
    by_test true is = absurd (none-some last is)
    by_test false is = let same : at + count ≡ last = same_Some (at + count) last is in omega (arith, same)

module _ (m : MadePathCall) (found : OpenFile) where
  abbrev first : Claim → Request
  first claim = first_request m.asker found claim

  read-covers : (kind : ReadKind) (request : Request) → Covers request.lock.range m.asker.caller.regs.y → CoversCall (read_call kind) m.asker.caller.regs request
  read-covers Bytes request covers = covers
  read-covers WholeLine request covers = covers

  min-least : (old new : ℕ) → min old new ≤ new
  min-least old new = omega arith

  by-claim : (claim made : Claim) (call : PathCall) → m.call ≡ call → claim ≡ made → CoversCall call m.asker.caller.regs (first made) → CoversCall m.call m.asker.caller.regs (first claim)
  by-claim claim made call is claim_is covers =
      subst (λ (claim : Claim). CoversCall m.call m.asker.caller.regs (first claim)) (sym claim_is)
      (subst (λ (call : PathCall). CoversCall call m.asker.caller.regs (first made)) (sym is) covers)

  -- the claim of a call covers it
  claim-covers : (claim : Claim) → Claims m.call m.asker m.files found claim → CoversCall m.call m.asker.caller.regs (first claim)
  claim-covers claim (Claims.reads kind is can update more claim_is) =
      by-claim claim (read_claim kind m.asker found (read_start m.asker m.files found)) (read_call kind) is claim_is
      (read-covers kind (first (read_claim kind m.asker found (read_start m.asker m.files found))) (range-covers (length found.file.contents) (read_start m.asker m.files found) m.asker.caller.regs.y))
  claim-covers claim (Claims.writes bytes is can there claim_is) =
      by-claim claim (write_claim found I_WRITE (length bytes)) Call.Write is claim_is
      (subst (Covers (range_of (length found.file.contents) found.opened.desc.at (length bytes)))
      (user-length m.asker.caller.cells m.asker.caller.regs.x m.asker.caller.regs.y bytes there)
      (range-covers (length found.file.contents) found.opened.desc.at (length bytes)))
  claim-covers claim (Claims.writes_line bytes is can there claim_is) =
      by-claim claim (write_claim found I_WRITLN (length bytes)) Call.WritLn is claim_is
      (range-covers (length found.file.contents) found.opened.desc.at (length bytes))
  claim-covers claim (Claims.tells_error is may claim_is) =
      by-claim claim (write_claim found F_PERR (length (error_line m.asker.caller.regs.b))) Call.PErr is claim_is
      (range-covers (length found.file.contents) found.opened.desc.at (length (error_line m.asker.caller.regs.b)))
  claim-covers claim (Claims.sizes is code may claim_is) =
      by-claim claim (size_claim found (long_of m.asker.caller.regs)) Call.SetStt is claim_is
      (λ size. (refl, min-least (length found.file.contents) (long_of m.asker.caller.regs)))
  claim-covers claim (Claims.locks is code update some claim_is) =
      by-claim claim (lock_claim found (long_of m.asker.caller.regs)) Call.SetStt is claim_is
      (λ size. absurd (differ (sym code ∙ size)))
    where
      differ : SS_LOCK ≡ SS_SIZE → ⊥
      differ same = omega (arith, same)

module _ (m : MadePathCall) (covered : IsCovered m) (request : Request) (it : Requests m request) where
  pub request-covers : CoversCall m.call m.asker.caller.regs request
  request-covers = by_kept (pending_request m.asker m.files) refl it.is
    where
      by_kept : (kept : Option Request) → pending_request m.asker m.files ≡ kept → request ≡ unwrap_or kept (first_request m.asker it.found it.claim) → CoversCall m.call m.asker.caller.regs request
      by_kept None none is =
          subst (CoversCall m.call m.asker.caller.regs) (sym is) (claim-covers m it.found it.claim it.claims)
      by_kept (Some other) there is = subst (CoversCall m.call m.asker.caller.regs) (sym is) (covered other there).0

  pub request-file : request.lock.file ≡ it.found.place
  request-file = by_kept (pending_request m.asker m.files) refl it.is
    where
      by_kept : (kept : Option Request) → pending_request m.asker m.files ≡ kept → request ≡ unwrap_or kept (first_request m.asker it.found it.claim) → request.lock.file ≡ it.found.place
      by_kept None none is = ap (λ (request : Request). request.lock.file) is
      by_kept (Some other) there is =
          ap (λ (request : Request). request.lock.file) is ∙ (covered other there).1 it.found it.names
