-- The tick and the choice are those of the course.
use Rattle.std.proofs.Common.{◌≡◌, ◌⊎◌, Option, Some, None, ap, inl, inr, refl, sym, ◌∙◌, rules}
use Rattle.std.specs.Prelude.{option_map}
use Rattle.os9_base.specs.declared.registers.Pid.{Pid}
use Rattle.file_drives.specs.Drives.{drive_views}
use Rattle.os9_debug.proofs.Breaking.{tick-breaks}
use Rattle.os9_debug.proofs.Positions.{begun-idle, begun-in, chosen-any, is-some}
use Rattle.os9_debug.proofs.position.Position.begin_slice.Goals as goal

pub returns-in-Err-clause-begun : goal.returns-in-Err-clause-begun
returns-in-Err-clause-begun g c = record {
  goes_on = tt;
  gains = tick-breaks c.args.self.now.kernel _ _ c.requires.stands (c.tick.ensures.tick.broken (rw c.in-Err.is refl));
  stays = tt;
  begun = λ is. cc;
  idle = λ is. cc;
  tick = tt;
  events = tt;
}

pub returns-then-has_events-clause-begun : goal.returns-then-has_events-clause-begun
returns-then-has_events-clause-begun g c =
    let yes = c.has_events.ensures.yes c.if-has_events.true in
    let (p, is) = is-some c.choose-chosen.result yes.0 in
    let (s, tied) = c.requires.stands in
    let (ticked, ticks, there) = c.tick.ensures.tick.step (rw c.in-Ok.is refl) s tied in
    let (t, chooses, now, who) = c.choose-chosen.ensures.step _ ticked there in
    begun-in c.args.n c.args.self.now c.choose-chosen.new.self _ _
    (λ s tied. (let (ticked, ticks, there) = c.tick.ensures.tick.step (rw c.in-Ok.is refl) s tied in let
    (t, chooses, now, who) = c.choose-chosen.ensures.step _ ticked there in (ticked, t, ticks, chooses, now)))
    (c.choose-chosen.ensures.count ∙ c.tick.ensures.tick.count) c.requires.between p.0
    (λ s other. chosen-any c.choose-chosen.new.self _ t s now other ∙ sym who ∙ ap (option_map (λ (p : Pid). p.0)) is)
    yes.1 c.choose-chosen.ensures.executed (search rules) c.requires.stands

pub returns-clause-begun : goal.returns-clause-begun
returns-clause-begun g c =
    let drives = ap (λ drives. drive_views (λ box. (g.dyn-1.0.entry box.vtable).1) drives.items) c.empty_terminals.ensures.drives_kept in
    let (s, tied) = c.requires.stands in
    let (ticked, ticks, there) = c.tick.ensures.tick.step (rw c.in-Ok.is refl) s tied in
    let (t, chooses, now, who) = c.choose-chosen.ensures.step _ ticked there in
    let none : (t.chosen ≡ None) ⊎ (c.args.n ≡ 0) = elim (c.has_events.ensures.no c.if-has_events.false) [
      | inl none ↦ inl (sym who ∙ ap (option_map (λ (p : Pid). p.0)) none)
      | inr none ↦ inr none
    ] in
    begun-idle c.args.n c.args.self.now c.choose-chosen.new.self _ _
    (λ s tied. (let (ticked, ticks, there) = c.tick.ensures.tick.step (rw c.in-Ok.is refl) s tied in let
    (t, chooses, now, who) = c.choose-chosen.ensures.step _ ticked there in (ticked, t, ticks, chooses, now)))
    (c.choose-chosen.ensures.count ∙ c.tick.ensures.tick.count) c.requires.between
    (λ s other. elim none [
      | inl none ↦ inl (chosen-any c.choose-chosen.new.self _ t s now other ∙ none)
      | inr none ↦ inr none
    ])
    c.requires.stands _ drives c.empty_terminals.ensures.emptied
