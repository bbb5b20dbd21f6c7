-- What a call claims at its first attempt, by its code and its count.
use Rattle.std.proofs.Common.{◌≡◌, ℕ, ◌<◌, ne_eqb, Some, None, List, length, refl, sym, ap, ◌∙◌, subst, arith}
use Rattle.std.specs.Prelude.{⊤}
use Rattle.os9_base.specs.UserLines.{line_at}
use Rattle.os9_base.specs.declared.calls.TheConstants.{F_PERR, I_WRITE, I_WRITLN}
use Rattle.proc_model.specs.UserBytes.{user_bytes}
use Rattle.io_model.specs.declared.terminal.ReadKind.{ReadKind}
use Rattle.io_model.specs.declared.terminal.ReadKind.TheVariants.{Bytes, WholeLine}
use Rattle.lock_model.specs.Laws.{Covers}
use Rattle.lock_model.specs.declared.lock.Range.{Range}
use Rattle.io_model.specs.Again.{KeepsCount}
use Rattle.io_model.specs.Codes.{io_call_of}
use Rattle.io_model.specs.Write.{error_line}
use Rattle.io_model.specs.declared.io_call.IoCall.{IoCall}
use Rattle.io_model.specs.declared.io_call.IoCall.TheVariants as Device
use Rattle.file_rules.proofs.Ranges.{locked-covers, range-covers, resized-covers}
use Rattle.file_rules.specs.Files.{Files, Asker, OpenFile}
use Rattle.file_rules.specs.Locking.{pending_request}
use Rattle.file_rules.specs.Read.{read_claim, read_start}
use Rattle.file_rules.specs.Seek.{long_of}
use Rattle.file_rules.specs.Status.{lock_claim, size_claim, status_claim}
use Rattle.file_rules.specs.Write.{line_moved, write_claim}
use Rattle.file_rules.specs.declared.claim.Claim.{Claim}
use Rattle.file_rules.specs.declared.path_call.PathCall.{PathCall}
use Rattle.file_rules.specs.declared.path_call.PathCall.TheVariants as Call
use Rattle.file_laws.specs.Claims.{CanRead, Claims, read_call}
use Rattle.file_laws.specs.Devices.{device_call}
use Rattle.file_laws.proofs.Lengths.{LineLength, line-length, user-length}

-- what a call claims at its first attempt: its code, and the count of bytes that is kept of it, one at least, all of
-- them in its range
pub record ClaimsAs (call : PathCall) (asker : Asker) (claim : Claim) : Type 0 where
  pub device : IoCall
  pub device_is : device_call call ≡ Some device
  pub code : io_call_of claim.code ≡ Some device
  pub count : KeepsCount device asker.caller.regs claim.count
  pub some : 0 < claim.count
  pub covers : Covers claim.range claim.count

-- a read is not refused: its buffer is named, and its path may be read
abbrev pub ReadsThere : PathCall → Asker → OpenFile → Type 0
ReadsThere Call.Read asker found = CanRead asker found
ReadsThere Call.ReadLn asker found = CanRead asker found
ReadsThere call asker found = ⊤

-- ---- what writes claim

module _ (asker : Asker) (found : OpenFile) where
  pub write-claims : (bytes : List ℕ) → user_bytes asker.caller.cells asker.caller.regs.x asker.caller.regs.y ≡ Some
      bytes → 0 < asker.caller.regs.y → ClaimsAs Call.Write asker (write_claim found I_WRITE (length bytes))
  write-claims bytes is some =
      let all : length bytes ≡ asker.caller.regs.y = user-length asker.caller.cells asker.caller.regs.x asker.caller.regs.y bytes is in
      record {
        device = Device.Write;
        device_is = refl;
        code = refl;
        count = all;
        some = omega (arith, all, some);
        covers = range-covers (length found.file.contents) found.opened.desc.at (length bytes) (length bytes) (omega arith);
      }

  pub line-claims : (bytes : List ℕ) → line_at asker.caller.cells asker.caller.regs.x asker.caller.regs.y ≡ Some bytes
      → 0 < asker.caller.regs.y → ClaimsAs Call.WritLn asker (write_claim found I_WRITLN (length bytes))
  line-claims bytes is some =
      let long : LineLength asker.caller.regs.y bytes = line-length asker.caller.cells asker.caller.regs.x asker.caller.regs.y bytes is in
      record {
        device = Device.WritLn;
        device_is = refl;
        code = refl;
        count = long.few;
        some = long.some some;
        covers = range-covers (length found.file.contents) found.opened.desc.at (length bytes) (length bytes) (omega arith);
      }

  pub error-claims : ClaimsAs Call.PErr asker (write_claim found F_PERR (length (error_line asker.caller.regs.b)))
  error-claims = record {
    device = Device.PErr;
    device_is = refl;
    code = refl;
    count = refl;
    some = omega arith;
    covers =
        range-covers (length found.file.contents) found.opened.desc.at (length (error_line asker.caller.regs.b)) (length (error_line asker.caller.regs.b)) (omega arith);
  }

  -- as many bytes as a read asks for
  pub read-covers : (kind : ReadKind) (at : ℕ) → Covers (read_claim kind asker found at).range asker.caller.regs.y
  read-covers kind at = range-covers (length found.file.contents) at asker.caller.regs.y asker.caller.regs.y (omega arith)

module _ (asker : Asker) (files : Files) (found : OpenFile) where
  read-claims : (kind : ReadKind) (at : ℕ) → 0 < asker.caller.regs.y → ClaimsAs (read_call kind) asker (read_claim kind asker found at)
  read-claims Bytes at some =
      record { device = Device.Read; device_is = refl; code = refl; count = refl; some = some; covers = read-covers asker found Bytes at }
  read-claims WholeLine at some =
      record { device = Device.ReadLn; device_is = refl; code = refl; count = refl; some = some; covers = read-covers asker found WholeLine at }

  status-claims : (range : Range) → Covers range 1 → ClaimsAs Call.SetStt asker (status_claim range)
  status-claims range covers =
      record { device = Device.SetStt; device_is = refl; code = refl; count = refl; some = omega arith; covers = covers }

  as-so : (call other : PathCall) (claim made : Claim) → call ≡ other → claim ≡ made → ClaimsAs other asker made → ClaimsAs call asker claim
  as-so call other claim made call_is is claims =
      subst (λ (call : PathCall). ClaimsAs call asker claim) (sym call_is)
      (subst (ClaimsAs other asker) (sym is) claims)

  pub claims-as : (call : PathCall) (claim : Claim) → pending_request asker files ≡ None → Claims call asker files found claim → ClaimsAs call asker claim
  claims-as call claim none (Claims.reads kind call_is (there, may, some) update more is) =
      as-so call (read_call kind) claim (read_claim kind asker found (read_start asker files found)) call_is is (read-claims kind (read_start asker files found) some)
  claims-as call claim none (Claims.writes bytes call_is (may, some) bytes_are is) =
      as-so call Call.Write claim (write_claim found I_WRITE (length bytes)) call_is is (write-claims asker found bytes bytes_are some)
  claims-as call claim none (Claims.writes_line bytes call_is (may, some) bytes_are is) =
      as-so call Call.WritLn claim (write_claim found I_WRITLN (length bytes)) call_is is
      (line-claims asker found bytes (sym (ap (line_moved asker) none) ∙ bytes_are) some)
  claims-as call claim none (Claims.tells_error call_is may is) =
      as-so call Call.PErr claim (write_claim found F_PERR (length (error_line asker.caller.regs.b))) call_is is (error-claims asker found)
  claims-as call claim none (Claims.sizes call_is code may is) =
      let size : ℕ = long_of asker.caller.regs in
      as-so call Call.SetStt claim (size_claim found size) call_is is
      (status-claims (size_claim found size).range (resized-covers (length found.file.contents) size 1))
  claims-as call claim none (Claims.locks call_is code may some is) =
      let count : ℕ = long_of asker.caller.regs in
      as-so call Call.SetStt claim (lock_claim found count) call_is is
      (status-claims (lock_claim found count).range (locked-covers (length found.file.contents) found.opened.desc.at count (ne_eqb count 0 some)))

  there-by : (kind : ReadKind) → CanRead asker found → ReadsThere (read_call kind) asker found
  there-by Bytes can = can
  there-by WholeLine can = can

  there-as : (call other : PathCall) → call ≡ other → ReadsThere other asker found → ReadsThere call asker found
  there-as call other call_is there = subst (λ (call : PathCall). ReadsThere call asker found) (sym call_is) there

  pub reads-there : (call : PathCall) (claim : Claim) → Claims call asker files found claim → ReadsThere call asker found
  reads-there call claim (Claims.reads kind call_is can update more is) =
      there-as call (read_call kind) call_is (there-by kind can)
  reads-there call claim (Claims.writes bytes call_is can bytes_are is) = there-as call Call.Write call_is tt
  reads-there call claim (Claims.writes_line bytes call_is can bytes_are is) = there-as call Call.WritLn call_is tt
  reads-there call claim (Claims.tells_error call_is may is) = there-as call Call.PErr call_is tt
  reads-there call claim (Claims.sizes call_is code may is) = there-as call Call.SetStt call_is tt
  reads-there call claim (Claims.locks call_is code may some is) = there-as call Call.SetStt call_is tt
