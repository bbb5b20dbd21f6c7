-- What a step comes to is what an attempt of the call comes to.
use Rattle.std.proofs.Common.{◌≡◌, ℕ, ◌∙◌, Some, List, length, ap, sym, subst}
use Rattle.std.specs.Option.{option_map_or}
use Rattle.os9_base.specs.declared.call.CallEnd.{CallEnd}
use Rattle.os9_base.specs.declared.registers.Regs.{Regs}
use Rattle.os9_base.specs.declared.registers.TimePacket.{TimePacket}
use Rattle.os9_outer.specs.TerminalState.{TerminalState}
use Rattle.proc_model.specs.Processes.{Processes, regs_at, user_at}
use Rattle.io_model.specs.Status.{i_getstt as gets_of_device, i_setstt as sets_of_device}
use Rattle.proc_model.specs.Records.{record_at}
use Rattle.proc_state.specs.Tie.{RepresentsProcesses}
use Rattle.proc_state.specs.declared.state.ProcState.{ProcState}
use Rattle.proc_state.proofs.Tied.{regs-tied}
use Rattle.file_rules.specs.Attempts.{asker_of, file_step}
use Rattle.file_rules.specs.Files.{Files, OpenFile, open_file}
use Rattle.file_rules.specs.OnFile.{by_kind}
use Rattle.file_rules.specs.Status.{gets_status, sets_status}
use Rattle.file_rules.specs.declared.path_call.PathCall.TheVariants as Call
use Rattle.file_laws.specs.Kinds.{AreKinds}
use Rattle.file_state.proofs.KeepLemmas.{ends-attempt, lacks-attempt}
use Rattle.file_state.specs.Attempt.{MachineOnDrives}
use Rattle.file_state.specs.Counted.{AttemptsIn}
use Rattle.file_state.specs.Ends.{EndsFileAttempt, EndsOrLacks}
use Rattle.file_state.specs.Lacks.{AttemptsOrLacks}
use Rattle.file_state.specs.Tie.{RepresentsFiles}
use Rattle.file_state.specs.declared.state.OpenFile.{OpenFile as KernelFile}
use Rattle.file_status.proofs.OpenLemmas.{open-of}
use Rattle.file_status.specs.Status.{IsNamedInA, RepresentsOpenFile, calls_by_code, i_setstt_calls}

-- the user that the kernel has of a process
pub user-tied : (processes : ProcState) (m : Processes) (p user : ℕ) → RepresentsProcesses processes m → user ≡ (record_at processes.table p).user → user ≡ user_at m p
user-tied processes m p user tied is = is ∙ sym (ap (λ (i : Processes). user_at i p) tied.is)

module _ (m : Processes) (was : Files) (now : TimePacket) (p : ℕ) (end : CallEnd) (before after : MachineOnDrives)
    (opened : KernelFile) (terms : List TerminalState) (tied : RepresentsProcesses before.processes m)
    (stands : RepresentsFiles before.files before.views was) (kinds : AreKinds was) (named : IsNamedInA p opened before)
  where
    abbrev found : OpenFile
    found = (named.file was stands kinds).found

    found_is : open_file was p (regs_at m p).a ≡ Some found
    found_is = subst (λ (r : Regs). open_file was p r.a ≡ Some found) (regs-tied before.processes m p tied) (named.file was stands kinds).is

    found-open : RepresentsOpenFile was opened found
    found-open = open-of before.files before.views was p (record_at before.processes.table p).regs.a opened (named.file was stands kinds)

    pub get-attempt : ((it : OpenFile) → RepresentsOpenFile was opened it
        → EndsFileAttempt (gets_status (asker_of m p now) was it (regs_at m p).b) 1 m was now p end after.processes after.files
        before.views after.views terms) → AttemptsIn 1 Call.GetStt m was now p end terms terms before after
    get-attempt by =
        ends-attempt 1 Call.GetStt m was now p end terms before after
        (subst (λ o. EndsFileAttempt (by_kind o (gets_of_device (asker_of m p now).caller was.io)
        (λ it. gets_status (asker_of m p now) was it (regs_at m p).b)) 1 m was now p end after.processes after.files
        before.views after.views terms) (sym found_is)
        (by found found-open))

    pub set-attempt : ((it : OpenFile) → RepresentsOpenFile was opened it → EndsOrLacks (sets_status (asker_of m p now) was it
        (regs_at m p).b) (calls_by_code (asker_of m p now) it) m was now p end after.processes after.files before.views
        after.views terms) → AttemptsOrLacks (i_setstt_calls (asker_of m p now) was (length terms)) Call.SetStt m was
        now p end terms terms before after
    set-attempt by =
        let it : EndsOrLacks (file_step Call.SetStt (asker_of m p now) was (length terms))
        (i_setstt_calls (asker_of m p now) was (length terms)) m was now p end after.processes after.files
        before.views after.views terms =
        subst (λ o. EndsOrLacks (by_kind o (sets_of_device (asker_of m p now).caller was.io)
        (λ it. sets_status (asker_of m p now) was it (regs_at m p).b))
        (option_map_or (calls_by_code (asker_of m p now)) o 0) m was now p end after.processes after.files
        before.views after.views terms) (sym found_is)
        (by found found-open)
        in
        record {
          attempted = λ some. ends-attempt (i_setstt_calls (asker_of m p now) was (length terms)) Call.SetStt m was now p end terms before after (it.ends some);
          lacks = λ none. lacks-attempt (i_setstt_calls (asker_of m p now) was (length terms)) Call.SetStt m was now p end terms before after (it.lacks none);
        }
