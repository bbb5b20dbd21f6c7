-- A slice whose bytes are passed on.
use Rattle.std.proofs.Common.{◌≡◌, ◌≢◌, ℕ, List, [], sym, ap, ◌∙◌, subst, All, inl, inr}
use Rattle.os9_outer.specs.Stream.{stream_with, GainsPrefix}
use Rattle.os9_outer.specs.TerminalState.{TerminalState}
use Rattle.file_drives.specs.Drives.{DriveView}
use Rattle.machine_model.specs.Console.{console_bytes, terminals_emptied}
use Rattle.machine_model.specs.declared.ends.SliceEnd.{SliceEnd}
use Rattle.machine_model.specs.Run.{BeginsSlice}
use Rattle.machine_model.specs.State.{State}
use Rattle.os9_kernel.specs.Calls.{KernelSlice, StopsSlice}
use Rattle.os9_kernel.specs.Changes.{KeepsImages}
use Rattle.os9_kernel.specs.Outside.{Outside}
use Rattle.os9_kernel.specs.Tie.{Represents}
use Rattle.os9_kernel.specs.declared.kernel.Kernel.{Kernel}
use Rattle.os9_kernel.proofs.Holding.{holds-still}
use Rattle.boot_run.specs.Console.{IsObserved, emptied_front}
use Rattle.boot_run.specs.World.{World, HasNoFault}
use Rattle.boot_run.proofs.RunLemmas.{observed-slice, represents-taken, terms-standing}
use Rattle.console_run.specs.Turn.{PassesSlice, StopsTurn}
use Rattle.console_run.specs.declared.typed.TheConstants.{SLICE}

-- the devices before a slice, where it was run, and at the end
module _ (old new : Kernel) (before after : World) (sliced : Outside) (end : SliceEnd) (slice : KernelSlice SLICE old new before.devices sliced end) where
  -- memory was out within it
  pub stops-turn : (u : State) → Represents old before.devices u → end ≡ SliceEnd.NoMemory → after.devices ≡ sliced → after.out ≡ before.out → HasNoFault before after → StopsTurn u before after
  stops-turn u tied out same kept none =
      inl (subst (StopsSlice SLICE u) (sym same) (slice.part out u tied), kept, none)

  module _ (more : end ≢ SliceEnd.NoMemory) (drives_kept : after.devices.drives ≡ sliced.drives) (u : State) (tied : Represents old before.devices u) where
    observed-then : All IsObserved before.devices.terms → All IsObserved u.terms
    observed-then told = subst (λ (terms : List TerminalState). All IsObserved terms) (terms-standing old before.devices u tied) told

    -- its bytes were passed on
    pub passes-slice : after.devices.terms ≡ terminals_emptied sliced.terms → (All IsObserved sliced.terms
        → after.out ≡ stream_with before.out (console_bytes sliced.terms)) → PassesSlice u new before after end
    passes-slice taken gained =
        let (states, t, ran, there, kept) = slice.step more u tied in
        let is : t.terms ≡ sliced.terms = ap (λ (s : State). s.terms) there.is in
        record {
          states = states;
          t = t;
          slice = ran;
          there = represents-taken new sliced after.devices t drives_kept taken there;
          output = λ told.
              gained (subst (λ (terms : List TerminalState). All IsObserved terms) is (observed-slice SLICE u states end t ran (observed-then told)))
              ∙ ap (λ (terms : List TerminalState). stream_with before.out (console_bytes terms)) (sym is);
          images = subst (λ (views : List DriveView). KeepsImages (BeginsSlice SLICE u) states before.devices.drives views) (sym drives_kept) kept;
        }

    -- or in part
    pub breaks-turn : (All IsObserved sliced.terms → GainsPrefix before.out (console_bytes sliced.terms) after.out) → (All IsObserved sliced.terms → console_bytes sliced.terms ≢ [])
        → (taken : ℕ) × (after.devices.terms ≡ emptied_front taken sliced.terms) → All IsObserved before.devices.terms → StopsTurn u before after
    breaks-turn gained filled (taken, left) told =
        let (states, t, ran, there, kept) = slice.step more u tied in
        let is : t.terms ≡ sliced.terms = ap (λ (s : State). s.terms) there.is in
        let told_sliced : All IsObserved sliced.terms = subst (λ (terms : List TerminalState). All IsObserved terms) is (observed-slice SLICE u states end t ran (observed-then told)) in
        let part : GainsPrefix before.out (console_bytes sliced.terms) after.out = gained told_sliced in
        inr (record {
          states = states;
          end = end;
          t = t;
          slice = ran;
          some = λ none. filled told_sliced (ap console_bytes (sym is) ∙ none);
          output = subst (λ (terms : List TerminalState). GainsPrefix before.out (console_bytes terms) after.out) (sym is) part;
          taken = taken;
          terminals = left ∙ ap (λ (terms : List TerminalState). emptied_front taken terms) (sym is);
          drives = holds-still new sliced t there after.devices drives_kept;
        })
