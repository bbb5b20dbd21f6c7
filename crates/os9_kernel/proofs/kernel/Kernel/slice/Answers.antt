use Rattle.std.proofs.Common.{◌≡◌, Some, None, option_map, [], refl, sym, ap, ◌∙◌, subst, inl, inr}
use Rattle.os9_base.specs.declared.registers.Pid.{Pid}
use Rattle.machine_model.specs.declared.ends.SliceEnd.{SliceEnd}
use Rattle.file_drives.specs.Drives.{media_at}
use Rattle.machine_model.specs.Run.{BeginsSlice, FirstSteps, Slice}
use Rattle.os9_kernel.proofs.Changing.{keeps-by}
use Rattle.os9_kernel.proofs.Turns.{slice-idle, slice-ran}
use Rattle.os9_kernel.proofs.kernel.Kernel.slice.Goals as goal

pub events-requires-clause-stands : goal.events-requires-clause-stands
events-requires-clause-stands g c =
    let (s, tied) = c.requires.stands in
    let (ticked, ticks, there) = c.tick.ensures.tick.step (rw c.in-Ok.is refl) s tied in
    let (chosen, chooses, now, who) = c.choose-chosen.ensures.step _ ticked there in
    (chosen, now)

pub returns-in-Err-clause-slice : goal.returns-in-Err-clause-slice
returns-in-Err-clause-slice g c =
    let tick = c.tick.ensures.tick in record {
      step = λ e. absurd (e refl);
      part = λ _ s tied.
          inl (tick.broken (rw c.in-Err.is refl) s tied);
      count = λ e. absurd (e refl);
    }

pub returns-in-None-clause-slice : goal.returns-in-None-clause-slice
returns-in-None-clause-slice g c = record {
  step = λ _ s tied.
      let (ticked, ticks, there) = c.tick.ensures.tick.step (rw c.in-Ok.is refl) s tied in
      let (chosen, chooses, now, who) = c.choose-chosen.ensures.step _ ticked there in
      let none : chosen.chosen ≡ None = sym who ∙ ap (option_map (λ (p : Pid). p.0)) c.in-None.is in
      ([], chosen, slice-idle c.args.n s ticked chosen ticks chooses none, now, λ drive unasked. ap (λ views. media_at views drive) c.tick.ensures.tick.drives);
  part = λ is. cc;
  count = λ _. c.choose-chosen.ensures.count ∙ c.tick.ensures.tick.count;
}

pub returns-in-Some-clause-slice : goal.returns-in-Some-clause-slice
returns-in-Some-clause-slice g c =
    let events = c.events.ensures.events in record {
      step = λ other s tied.
          let (ticked, ticks, there) = c.tick.ensures.tick.step (rw c.in-Ok.is refl) s tied in
          let (chosen, chooses, now, who) = c.choose-chosen.ensures.step _ ticked there in
          let some : chosen.chosen ≡ Some c.in-Some.field-0.0 = sym who ∙ ap (option_map (λ (p : Pid). p.0)) c.in-Some.is in
          let (all, t, steps, later, kept) = events.step other chosen now in (
            all,
            t,
            subst (λ (end : SliceEnd). Slice c.args.n s all end t) (sym (events.ran other)) (slice-ran c.args.n c.in-Some.field-0.0 s ticked chosen t all ticks chooses some steps),
            later,
            λ drive none. keeps-by (FirstSteps c.args.n chosen) (BeginsSlice c.args.n s) all _ _
                (λ first at leads. (ticked, chosen, ticks, chooses, leads)) kept drive none ∙ ap
                (λ views. media_at views drive) c.tick.ensures.tick.drives,
          );
      part = λ out s tied.
          let (ticked, ticks, there) = c.tick.ensures.tick.step (rw c.in-Ok.is refl) s tied in
          let (chosen, chooses, now, who) = c.choose-chosen.ensures.step _ ticked there in
          let (all, t, first, breaks) = events.part out chosen now in
          inr (all, t, (ticked, chosen, ticks, chooses, first), breaks);
      count = λ other. events.count other ∙ c.choose-chosen.ensures.count ∙ c.tick.ensures.tick.count;
    }
