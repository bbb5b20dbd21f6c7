-- The step of a read or a write behind the tests that it passes.
use Rattle.std.proofs.Common.{◌≡◌, ◌≢◌, ◌==◌, ◌∙◌, ℕ, Bool, true, false, not, Option, Some, None, is_some, unwrap_or, List, length, ap, sym, subst, eq-eqb}
use Rattle.std.specs.Prelude.{if◌then◌else◌}
use Rattle.std.proofs.lemmas.Bool.{ne_eqb}
use Rattle.os9_base.specs.declared.errors.TheConstants.{E_BMODE, E_BPADDR, E_BPNUM}
use Rattle.os9_base.specs.declared.registers.Regs.{Regs}
use Rattle.proc_model.specs.UserBytes.{user_bytes}
use Rattle.io_model.specs.declared.path.Target.{Target}
use Rattle.io_model.specs.declared.pending.PendingCall.{PendingCall}
use Rattle.io_model.specs.declared.terminal.ReadKind.{ReadKind}
use Rattle.io_model.specs.Again.{path_number}
use Rattle.io_model.specs.Io.{Io, OpenPath, open_path, pending_at}
use Rattle.io_model.specs.Modes.{can_read, can_write}
use Rattle.io_model.specs.Read.{reads_target, read_code}
use Rattle.io_model.specs.Step.{Caller, IoStep, done, needs, refused, refuses}
use Rattle.io_model.specs.Transfer.{call_now, first_call}
use Rattle.io_model.specs.Write.{writes_target}
use Rattle.device_io.proofs.MovingLemmas.{none-of, some-of}
use Rattle.device_io.proofs.SendingLemmas.{done-regs}
use Rattle.device_io.specs.Moving.{read_named, read_on, read_open, read_step}
use Rattle.device_io.specs.Sending.{regs_done, sent, write_call, write_code, write_named, write_on, write_open}
use Rattle.device_io.specs.declared.sending.WriteKind.{WriteKind}

-- ---- a read by a caller with these registers

module _ (kind : ReadKind) (caller : Caller) (io : Io) (regs : Regs) (same : regs ≡ caller.regs) (named : Bool) (named_is : named ≡ is_some (user_bytes caller.cells regs.x regs.y)) where
  abbrev bytes : Option (List ℕ)
  bytes = user_bytes caller.cells caller.regs.x caller.regs.y

  named-then : named ≡ is_some bytes
  named-then = subst (λ (r : Regs). named ≡ is_some (user_bytes caller.cells r.x r.y)) same named_is

  pub unnamed : named ≡ false → refused E_BPADDR ≡ read_step kind caller io
  unfolding read_step
  unnamed is = ap (λ (test : Bool). refuses test E_BPADDR (read_named kind caller io)) (sym (none-of bytes named named-then is))

  module _ (is_named : named ≡ true) where
    abbrev found : OpenPath → IoStep
    found path = refuses (not (can_read path.desc.mode)) E_BMODE (read_open kind path caller io)

    behind-named : read_named kind caller io ≡ read_step kind caller io
    unfolding read_step
    behind-named = ap (λ (test : Bool). refuses test E_BPADDR (read_named kind caller io)) (sym (some-of bytes named named-then is_named))

    pub unopened : None ≡ open_path io caller.process.0 regs.a → refused E_BPNUM ≡ read_step kind caller io
    unfolding read_named
    unopened is =
        let none = subst (λ (r : Regs). None ≡ open_path io caller.process.0 r.a) same is in
        ap (λ (path : Option OpenPath). needs path E_BPNUM found) none ∙ behind-named

    module _ (path : OpenPath) (is_opened : Some path ≡ open_path io caller.process.0 regs.a) where
      behind-opened : found path ≡ read_step kind caller io
      unfolding read_named
      behind-opened =
          let some = subst (λ (r : Regs). Some path ≡ open_path io caller.process.0 r.a) same is_opened in
          ap (λ (path : Option OpenPath). needs path E_BPNUM found) some ∙ behind-named

      pub unreadable : can_read path.desc.mode ≡ false → refused E_BMODE ≡ read_step kind caller io
      unreadable is = ap (λ (b : Bool). refuses (not b) E_BMODE (read_open kind path caller io)) (sym is) ∙ behind-opened

      module _ (is_readable : can_read path.desc.mode ≡ true) where
        abbrev on : PendingCall → IoStep
        on call = read_on kind call path.desc.target caller io

        behind-readable : read_open kind path caller io ≡ read_step kind caller io
        behind-readable = ap (λ (b : Bool). refuses (not b) E_BMODE (read_open kind path caller io)) (sym is_readable) ∙ behind-opened

        pub reads-nothing : regs.y ≡ 0 → done caller.regs io ≡ read_step kind caller io
        unfolding read_open
        reads-nothing is =
            let none : caller.regs.y ≡ 0 = subst (λ (r : Regs). r.y ≡ 0) same is in
            ap (λ (b : Bool). if b then done caller.regs io else on (call_now caller io (read_code kind) path caller.regs.y)) (sym (eq-eqb caller.regs.y 0 none)) ∙ behind-readable

        -- on the target of its path, in the call of the attempt
        pub reads-on : regs.y ≢ 0 → (code : ℕ) → code ≡ read_code kind → (call : PendingCall)
            → call ≡ unwrap_or (pending_at io caller.process.0) (first_call code path regs.y) → (target : Target)
            → path.desc.target ≡ target → reads_target kind caller io call target ≡ read_step kind caller io
        unfolding read_open read_on
        reads-on is code code_is call call_is target target_is =
            let some : caller.regs.y ≢ 0 = subst (λ (r : Regs). r.y ≢ 0) same is in
            let in_regs : call ≡ unwrap_or (pending_at io caller.process.0) (first_call code path caller.regs.y) = subst
            (λ (r : Regs). call ≡ unwrap_or (pending_at io caller.process.0) (first_call code path r.y)) same call_is in
            let now : call ≡ call_now caller io (read_code kind) path caller.regs.y = subst (λ (code : ℕ). call ≡
            unwrap_or (pending_at io caller.process.0) (first_call code path caller.regs.y)) code_is in_regs in
            ap (λ (t : Target). reads_target kind caller io call t) (sym target_is)
            ∙ ap on now
            ∙ ap (λ (b : Bool). if b then done caller.regs io else on (call_now caller io (read_code kind) path caller.regs.y)) (sym (ne_eqb caller.regs.y 0 some))
            ∙ behind-readable

-- ---- a write of these bytes

-- the number of its path, as the code finds it
pub path-found : (kind : WriteKind) (regs : Regs) (io : Io) (p number : ℕ) → number ≡ path_number (write_call kind) regs
    → (path : Option OpenPath) → path ≡ open_path io p number → open_path io p (path_number (write_call kind) regs) ≡ path
path-found kind regs io p number is path found = ap (λ (n : ℕ). open_path io p n) (sym is) ∙ sym found

module _ (kind : WriteKind) (caller : Caller) (io : Io) (bytes : List ℕ) (number : ℕ) (number_is : number ≡ path_number (write_call kind) caller.regs) where
  abbrev may-write : OpenPath → IoStep
  may-write path = refuses (not (can_write path.desc.mode)) E_BMODE (write_open kind path caller io bytes)

  pub unfound : None ≡ open_path io caller.process.0 number → refused E_BPNUM ≡ write_named kind caller io bytes
  unfolding write_named
  unfound is = ap (λ (path : Option OpenPath). needs path E_BPNUM may-write) (sym (path-found kind caller.regs io caller.process.0 number number_is None is))

  module _ (path : OpenPath) (is_found : Some path ≡ open_path io caller.process.0 number) where
    behind-found : may-write path ≡ write_named kind caller io bytes
    unfolding write_named
    behind-found = ap (λ (path : Option OpenPath). needs path E_BPNUM may-write) (sym (path-found kind caller.regs io caller.process.0 number number_is (Some path) is_found))

    pub unwritable : can_write path.desc.mode ≡ false → refused E_BMODE ≡ write_named kind caller io bytes
    unwritable is = ap (λ (b : Bool). refuses (not b) E_BMODE (write_open kind path caller io bytes)) (sym is) ∙ behind-found

    module _ (is_writable : can_write path.desc.mode ≡ true) where
      abbrev go-on : PendingCall → IoStep
      go-on call = write_on kind call path.desc.target caller io bytes

      behind-writable : write_open kind path caller io bytes ≡ write_named kind caller io bytes
      behind-writable = ap (λ (b : Bool). refuses (not b) E_BMODE (write_open kind path caller io bytes)) (sym is_writable) ∙ behind-found

      pub writes-nothing : (length bytes == 0) ≡ true → done (regs_done kind caller.regs (length bytes)) io ≡ write_named kind caller io bytes
      unfolding write_open
      writes-nothing is =
          ap (λ (r : Regs). done r io) (sym (done-regs kind caller bytes))
          ∙ ap (λ (b : Bool). if b then done (sent kind caller bytes).regs io else go-on (call_now caller io (write_code kind) path (length bytes))) (sym is)
          ∙ behind-writable

      -- on the target of its path, in the call of the attempt
      pub writes-on : (length bytes == 0) ≡ false → (code : ℕ) → code ≡ write_code kind → (call : PendingCall)
          → call ≡ unwrap_or (pending_at io caller.process.0) (first_call code path (length bytes)) → (target : Target)
          → path.desc.target ≡ target → writes_target (sent kind caller bytes) caller io call target ≡ write_named kind caller io bytes
      unfolding write_open write_on
      writes-on is code code_is call call_is target target_is =
          let now : call ≡ call_now caller io (write_code kind) path (length bytes) = subst (λ (code : ℕ). call ≡
          unwrap_or (pending_at io caller.process.0) (first_call code path (length bytes))) code_is call_is in
          ap (λ (t : Target). writes_target (sent kind caller bytes) caller io call t) (sym target_is)
          ∙ ap go-on now
          ∙ ap (λ (b : Bool). if b then done (sent kind caller bytes).regs io else go-on (call_now caller io (write_code kind) path (length bytes))) (sym is)
          ∙ behind-writable
