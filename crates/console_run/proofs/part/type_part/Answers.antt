use Rattle.std.proofs.Common.{◌-◌, ◌≤◌, ℕ, List, arith, drop, length, take, subst}
use Rattle.device_table.specs.Seen.{terminal_states}
use Rattle.console_run.specs.Typed.{keys_typed}
use Rattle.console_run.specs.Turn.{LoadsKeys}
use Rattle.console_run.proofs.PartLemmas.{part-left, part-taken}
use Rattle.console_run.proofs.part.type_part.Goals as goal

pub returns-clause-typed : goal.returns-clause-typed
returns-clause-typed g c =
    let console = c.args.console.now in
    let items : List ℕ = console.line.items in
    let end = c.part_end-end.ensures in
    let place : ℕ = console.place in
    let to : ℕ = c.part_end-end.result in
    let within : to ≤ length items = omega (arith, end.within, c.len.ensures, console.line.ok.0) in
    let before = terminal_states (λ box. (g.dyn-2.0.entry box.vtable).1) c.args.devices.now.terms.items in
    let after = terminal_states (λ box. (g.dyn-2.0.entry box.vtable).1) c.load_part.new.devices.terms.items in
    record {
      bytes = take (to - place) (drop place items);
      part = part-taken items place to end.ahead within end.few (λ below. end.most (omega (arith, below, c.len.ensures, console.line.ok.0)));
      left_is = part-left items place to end.ahead within;
      loaded =
          subst (λ (items : List ℕ). LoadsKeys (keys_typed c.args.tick (take (to - place) (drop place items))) console.typed c.load_part.new.typed before after) c.deref.ensures.value
          c.in_ok-load_part.ensures.loaded;
    }
