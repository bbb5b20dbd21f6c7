-- The status of each code.
use Rattle.std.proofs.Common.{◌≡◌, ℕ, Bool, false, ◌==◌, List, refl, sym, subst}
use Rattle.std.specs.Prelude.{if◌then◌else◌}
use Rattle.std.proofs.lemmas.Bool.{ne_eqb}
use Rattle.os9_base.specs.declared.call.CallEnd.{CallEnd}
use Rattle.os9_base.specs.declared.errors.TheConstants.{E_UNKSVC}
use Rattle.os9_base.specs.declared.registers.Regs.{Regs}
use Rattle.os9_base.specs.declared.registers.TimePacket.{TimePacket}
use Rattle.os9_outer.specs.TerminalState.{TerminalState}
use Rattle.proc_model.specs.Processes.{Processes, regs_at, with_regs_of}
use Rattle.io_model.specs.declared.path.Desc.{Desc}
use Rattle.proc_state.specs.Tie.{RepresentsProcesses}
use Rattle.proc_state.specs.declared.state.ProcState.{ProcState}
use Rattle.file_rules.specs.Attempts.{asker_of}
use Rattle.file_rules.specs.Files.{Files, OpenFile}
use Rattle.file_rules.specs.Status.{gets_status, long_regs, sets_status}
use Rattle.file_rules.specs.Step.{FileStep, done, refused}
use Rattle.file_drives.specs.Drives.{DriveView}
use Rattle.file_state.proofs.RequestLemmas.{lacks-none}
use Rattle.file_state.specs.Ends.{EndsFileAttempt, EndsOrLacks}
use Rattle.file_state.specs.Tie.{RepresentsFiles}
use Rattle.file_state.specs.declared.state.FileState.{FileState}
use Rattle.file_state.specs.declared.state.OpenFile.{OpenFile as KernelFile}
use Rattle.file_status.proofs.StandLemmas.{ends-done, ends-refused}
use Rattle.file_status.specs.Status.{RepresentsOpenFile, setting_calls, uncalled}

-- none of the tests holds
two-fail : (a b : Bool) (one two other : FileStep) → a ≡ false → b ≡ false → (if a then one else (if b then two else other)) ≡ other
two-fail a b one two other na nb = subst (λ t. (if t then one else (if b then two else other)) ≡ other) (sym na) (subst (λ t. (if t then two else other) ≡ other) (sym nb) refl)

four-fail : (a b c d : Bool) (one two three four other : FileStep) → a ≡ false → b ≡ false → c ≡ false → d ≡ false
    → (if a then one else (if b then two else (if c then three else (if d then four else other)))) ≡ other
four-fail a b c d one two three four other na nb nc nd =
    subst (λ t. (if t then one else (if b then two else (if c then three else (if d then four else other)))) ≡ other) (sym na)
    (subst (λ t. (if t then two else (if c then three else (if d then four else other))) ≡ other) (sym nb) (two-fail c d three four other nc nd))

six-fail : (a b c d e f : Bool) (one two three four five six other : FileStep) → a ≡ false → b ≡ false → c ≡ false
    → d ≡ false → e ≡ false → f ≡ false
    → (if a then one else (if b then two else
    (if c then three else (if d then four else (if e then five else (if f then six else other)))))) ≡ other
six-fail a b c d e f one two three four five six other na nb nc nd ne nf =
    subst (λ t. (if t then one else (if b then two else (if c then three else (if d then four else (if e then five else (if f then six else other)))))) ≡ other) (sym na)
    (subst (λ t. (if t then two else (if c then three else (if d then four else (if e then five else (if f then six else other))))) ≡ other) (sym nb)
    (subst (λ t. (if t then three else (if d then four else (if e then five else (if f then six else other)))) ≡ other) (sym nc)
    (subst (λ t. (if t then four else (if e then five else (if f then six else other))) ≡ other) (sym nd)
    (two-fail e f five six other ne nf))))

-- the code that B has
pub by-code : (m : Processes) (files : Files) (now : TimePacket) (p : ℕ) (end : CallEnd) (processes : ProcState)
    (new : FileState) (before after : List DriveView) (terms : List TerminalState) (it : OpenFile) (known code : ℕ)
    → known ≡ code → EndsFileAttempt (gets_status (asker_of m p now) files it known) 1 m files now p end processes new before
    after terms → EndsFileAttempt (gets_status (asker_of m p now) files it code) 1 m files now p end processes new before after
    terms
by-code m files now p end processes new before after terms it known code is ends = subst
    (λ n. EndsFileAttempt (gets_status (asker_of m p now) files it n) 1 m files now p end processes new before after terms) is
    ends

pub set-by-code : (m : Processes) (files : Files) (now : TimePacket) (p : ℕ) (end : CallEnd) (processes : ProcState)
    (new : FileState) (before after : List DriveView) (terms : List TerminalState) (it : OpenFile) (known code : ℕ)
    → known ≡ code → EndsOrLacks (sets_status (asker_of m p now) files it known)
    (setting_calls known (asker_of m p now) it) m files now p end processes new before after terms
    → EndsOrLacks (sets_status (asker_of m p now) files it code) (setting_calls code (asker_of m p now) it) m files
    now p end processes new before after terms
set-by-code m files now p end processes new before after terms it known code is ends =
    subst (λ n. EndsOrLacks (sets_status (asker_of m p now) files it n) (setting_calls n (asker_of m p now) it) m files now p end processes new before after terms) is ends

module _ (m : Processes) (files : Files) (now : TimePacket) (p : ℕ) (end : CallEnd) (processes : ProcState)
    (state new : FileState) (views : List DriveView) (terms : List TerminalState) (it : OpenFile) (regs : Regs)
    (same : regs ≡ regs_at m p) (stands : RepresentsFiles state views files) (new_is : new ≡ uncalled state p) where
  pub getting-unknown : (code : ℕ) → (code ≡ 0 → ⊥) → (code ≡ 1 → ⊥) → (code ≡ 2 → ⊥) → (code ≡ 5 → ⊥)
      → (code ≡ 6 → ⊥) → (code ≡ 15 → ⊥) → end ≡ CallEnd.Error E_UNKSVC → RepresentsProcesses processes m
      → EndsFileAttempt (gets_status (asker_of m p now) files it code) 1 m files now p end processes new views views terms
  getting-unknown code n0 n1 n2 n5 n6 n15 is_end tied =
      subst (λ step. EndsFileAttempt step 1 m files now p end processes new views views terms)
      (sym (six-fail (code == 0) (code == 1) (code == 2) (code == 5) (code == 6) (code == 15) _ _ _ _ _ _
      (refused E_UNKSVC) (ne_eqb code 0 n0) (ne_eqb code 1 n1) (ne_eqb code 2 n2) (ne_eqb code 5 n5)
      (ne_eqb code 6 n6) (ne_eqb code 15 n15)))
      (ends-refused (refused E_UNKSVC) 1 m files now p end processes state new views terms E_UNKSVC refl is_end tied stands new_is)

  pub setting-unknown : (most code : ℕ) → (code ≡ 2 → ⊥) → (code ≡ 16 → ⊥) → (code ≡ 17 → ⊥) → (code ≡ 28 → ⊥)
      → end ≡ CallEnd.Error E_UNKSVC → RepresentsProcesses processes m → EndsOrLacks (sets_status (asker_of m p now) files it
      code) most m files now p end processes new views views terms
  setting-unknown most code n2 n16 n17 n28 is_end tied =
      lacks-none (sets_status (asker_of m p now) files it code) most m files now p end processes new views views terms
      (subst (λ step. EndsFileAttempt step most m files now p end processes new views views terms)
      (sym (four-fail (code == 2) (code == 16) (code == 17) (code == 28) _ _ _ _ (refused E_UNKSVC) (ne_eqb code 2 n2) (ne_eqb code 16 n16) (ne_eqb code 17 n17) (ne_eqb code 28 n28)))
      (ends-refused (refused E_UNKSVC) most m files now p end processes state new views terms E_UNKSVC refl is_end tied stands new_is))

  -- SS.Ready
  pub ready-told : end ≡ CallEnd.Done → RepresentsProcesses processes (with_regs_of m p (record regs { b = 0 }))
      → EndsFileAttempt (gets_status (asker_of m p now) files it 1) 1 m files now p end processes new views views terms
  ready-told is_end tied =
      ends-done (done (record (regs_at m p) { b = 0 }) files) 1 m files now p end processes state new views terms (record (regs_at m p) { b = 0 }) refl is_end
      (subst (λ (r : Regs). RepresentsProcesses processes (with_regs_of m p (record r { b = 0 }))) same tied) stands new_is

  -- SS.Pos
  pub position-told : (opened : KernelFile) → RepresentsOpenFile files opened it → end ≡ CallEnd.Done → RepresentsProcesses processes
      (with_regs_of m p (long_regs regs opened.desc.at)) → EndsFileAttempt (gets_status (asker_of m p now) files it 5) 1 m files
      now p end processes new views views terms
  position-told opened open_is is_end tied =
      ends-done (done (long_regs (regs_at m p) it.opened.desc.at) files) 1 m files now p end processes state new views terms (long_regs (regs_at m p) it.opened.desc.at) refl is_end
      (subst (λ (desc : Desc). RepresentsProcesses processes (with_regs_of m p (long_regs (regs_at m p) desc.at))) (sym open_is.desc_is)
      (subst (λ (r : Regs). RepresentsProcesses processes (with_regs_of m p (long_regs r opened.desc.at))) same tied)) stands new_is
