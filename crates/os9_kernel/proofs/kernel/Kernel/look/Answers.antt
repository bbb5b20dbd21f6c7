use Rattle.std.proofs.Common.{◌≡◌, ◌≤◌, ◌<◌, ◌∙◌, ℕ, refl, sym, ap, subst, arith}
use Rattle.std.specs.Prelude.{option_and_then}
use Rattle.os9_sched.specs.declared.member.Wait.{Wait}
use Rattle.proc_model.specs.Processes.{Processes}
use Rattle.proc_model.specs.IoReady.{has_io}
use Rattle.proc_state.specs.Active.{AreActiveAt}
use Rattle.os9_kernel.specs.Causes.{awaited}
use Rattle.os9_kernel.specs.Looks.{EndsNotBefore, may_go_in}
use Rattle.os9_kernel.specs.Tie.{ticks}
use Rattle.os9_kernel.proofs.Looking.{active-now, active-there, active-until, ends-sooner, known-until}
use Rattle.os9_kernel.proofs.Represented.{tick-kept}
use Rattle.os9_kernel.proofs.kernel.Kernel.look.Goals as goal

pub returns-then-tick-self-clause-active : goal.returns-then-tick-self-clause-active
returns-then-tick-self-clause-active c devices s there =
    let old = c.args.self.now in
    active-there old devices s there old.machine.processes (there.looked (ticks old) (omega arith) c.if-tick-self.true)

pub returns-clause-represents : goal.returns-clause-represents
returns-clause-represents c devices s there =
    let old = c.args.self.now in
    let settled = c.settle.new.s in
    let known = c.asked-self.result in
    let until = c.min-self.result in
    let kept = tick-kept old.machine.processes settled (λ (m : Processes). m) c.settle.ensures.tied (λ m. refl) in
    let goes : (p : ℕ) → p < 33 → has_io known.ready p ≡ may_go_in old.machine.files settled.tick p =
    (λ p few. c.asked-self.ensures.may_go there.known p few ∙ ap (λ (tick : ℕ). may_go_in old.machine.files tick p) (sym kept)) in
    let early : until ≤ known.until = omega (arith, c.min-self.ensures) in
    let sooner : until ≤ c.next_sleep.result = omega (arith, c.min-self.ensures) in record {
      processes = c.settle.ensures.tied s.processes there.processes;
      files = there.files;
      is = there.is;
      run = there.run;
      looked = active-until old.machine.files settled (has_io known.ready) c.settle.ensures.active goes
          until (omega (arith, early, c.asked-self.ensures.fits))
          (λ p few. ends-sooner settled.tick c.next_sleep.result until _ sooner (c.next_sleep.ensures.sleeps p few))
          (λ p few. subst (λ (tick : ℕ). EndsNotBefore tick until (option_and_then (λ (wait : Wait). wait.until) (awaited old.machine.files p))) (sym kept)
          (ends-sooner (ticks old) known.until until _ early (c.asked-self.ensures.waits p few)));
      known = λ tick p cause from below few waits clear. known-until old.machine.files settled known goes c.asked-self.ensures.fits
          (λ p few. subst (λ (tick : ℕ). EndsNotBefore tick known.until (option_and_then (λ (wait : Wait). wait.until)
          (awaited old.machine.files p))) (sym kept) (c.asked-self.ensures.waits p few)) tick p from below few;
    }

pub returns-clause-active : goal.returns-clause-active
returns-clause-active c devices s there =
    let old = c.args.self.now in
    let settled = c.settle.new.s in
    let known = c.asked-self.result in
    let kept = tick-kept old.machine.processes settled (λ (m : Processes). m) c.settle.ensures.tied (λ m. refl) in
    let goes : (p : ℕ) → p < 33 → has_io known.ready p ≡ may_go_in old.machine.files settled.tick p =
    (λ p few. c.asked-self.ensures.may_go there.known p few ∙ ap (λ (tick : ℕ). may_go_in old.machine.files tick p) (sym kept)) in
    active-there old devices s there settled (subst (λ (tick : ℕ). AreActiveAt (may_go_in old.machine.files tick) tick settled) kept
    (active-now old.machine.files settled (has_io known.ready) c.settle.ensures.active goes))

pub returns-clause-count : goal.returns-clause-count
returns-clause-count c =
    tick-kept c.args.self.now.machine.processes c.settle.new.s (λ (m : Processes). m) c.settle.ensures.tied (λ m. refl)
