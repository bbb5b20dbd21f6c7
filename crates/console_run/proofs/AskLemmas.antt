-- What is typed before a slice.
use Rattle.std.proofs.Common.{◌≡◌, ◌≢◌, ◌⊎◌, ◌↔◌, IsSome, ◌+◌, ℕ, Some, None, Option, List, [], ◌∷◌, ◌++◌, drop, length, take, refl, sym, ap, ◌∙◌, subst, append-nil, inl, inr}
use Rattle.os9_outer.specs.TerminalState.{TerminalState}
use Rattle.machine_model.specs.declared.ends.SliceEnd.{SliceEnd}
use Rattle.machine_model.specs.State.{State}
use Rattle.os9_kernel.specs.Outside.{Outside}
use Rattle.os9_kernel.specs.Tie.{Represents, ticks}
use Rattle.os9_kernel.specs.declared.kernel.Kernel.{Kernel}
use Rattle.console_run.specs.Typed.{kept_keys, keys_typed}
use Rattle.console_run.specs.declared.typed.Typed.{Typed}
use Rattle.console_run.specs.Kept.{IsKept}
use Rattle.console_run.specs.Keyboard.{FailsToGive, GivesEnd, KeyboardState, TakesLines, line_list, shown_for}
use Rattle.console_run.specs.Lines.{line_bytes}
use Rattle.console_run.specs.Shown.{shown_length}
use Rattle.console_run.specs.Turn.{AllWait, AsksLine, ConsoleState, LoadsKeys, LosesLine, MeetsEnd, TypesLine, TypesRest}
use Rattle.console_run.specs.Waiting.{WaitsForLine}
use Rattle.console_run.specs.declared.part.TheConstants.{PART}
use Rattle.console_run.proofs.KeyLemmas.{loaded-none}
use Rattle.console_run.proofs.LineLemmas.{takes-none}
use Rattle.console_run.proofs.PartLemmas.{line-some}

-- a process does not wait for keys: nothing is typed
pub types-nothing : (last : SliceEnd) (kernel : Kernel) (out : Option (List ℕ)) (place : ConsoleState)
    (before after : Outside) → ((s : State) → Represents kernel before s → ¬ WaitsForLine last s) → after ≡ before
    → TypesLine last kernel out place place before after
types-nothing last kernel out place before after others same = record {
  line = None;
  bytes = [];
  types = λ s tied. inr (others s tied, record { unasked = refl; none = refl });
  left_is = sym (append-nil place.rest);
  taken = takes-none place.keyboard;
  loaded = record {
    kept = sym (append-nil (kept_keys place.typed));
    slices = refl;
    terms = ap (λ (devices : Outside). devices.terms) same ∙ sym (loaded-none before.terms);
  };
  drives = ap (λ (devices : Outside). devices.drives) same;
}

-- a rest of a line is there
pub asks-none : (out : Option (List ℕ)) (place : ConsoleState) → place.rest ≢ [] → AsksLine out None place place
asks-none out place some = record {
  asked = (λ is. absurd (cc is), λ none. absurd (some none));
  rest = sym (append-nil place.rest);
  some = some;
  taken = takes-none place.keyboard;
  typed = refl;
}

-- or the keyboard gives a line
pub asks-line : (out : Option (List ℕ)) (line : List ℕ) (old new : ConsoleState) → old.rest ≡ [] → new.rest
    ≡ line_bytes line → TakesLines (line ∷ []) (shown_length out ∷ []) old.keyboard new.keyboard
    → new.typed ≡ old.typed → AsksLine out (Some line) old new
asks-line out line old new none is taken typed = record {
  asked = (λ some. none, λ none_left. refl);
  rest = is ∙ ap (λ (rest : List ℕ). rest ++ line_bytes line) (sym none);
  some = λ nothing. line-some line (sym is ∙ nothing);
  taken = taken;
  typed = typed;
}

kept-same : (old new : Typed) → new ≡ old → IsKept old new
kept-same old new same = record { parts = ap (λ (typed : Typed). typed.parts.items) same; slices = ap (λ (typed : Typed). typed.slices) same }

-- memory is out for a line that it gave
pub loses-line : (out : Option (List ℕ)) (line : List ℕ) (old new : ConsoleState) → old.rest ≡ []
    → TakesLines (line ∷ []) (shown_length out ∷ []) old.keyboard new.keyboard → new.typed ≡ old.typed
    → LosesLine out old new
loses-line out line old new none taken typed = record {
  lost = Some line;
  none_left = λ some. none;
  mid = new.keyboard;
  taken = taken;
  lacks = inl (inl refl, refl);
  typed = kept-same old.typed new.typed typed;
}

-- or before it gave one
pub loses-none : (out : Option (List ℕ)) (old new : ConsoleState) → old.rest ≡ [] → FailsToGive old.keyboard new.keyboard
    → new.typed ≡ old.typed → LosesLine out old new
loses-none out old new none fails typed = record {
  lost = None;
  none_left = λ is. none;
  mid = old.keyboard;
  taken = takes-none old.keyboard;
  lacks = inr (refl, none, fails);
  typed = kept-same old.typed new.typed typed;
}

-- it gives its end
pub meets-end : (out : Option (List ℕ)) (old new : ConsoleState) → old.rest ≡ []
    → GivesEnd (shown_length out) old.keyboard new.keyboard → new.typed ≡ old.typed → MeetsEnd out old new
meets-end out old new none end typed =
    record { none_left = none; end = end; typed = kept-same old.typed new.typed typed }

-- a line was given, or a rest was left
has-keys : (line : Option (List ℕ)) (rest : List ℕ) → (IsSome line ↔ (rest ≡ [])) → IsSome line ⊎ (rest ≢ [])
has-keys None rest asked = inr (λ none. cc (asked.1 none))
has-keys (Some line) rest asked = inl refl

module _ (out : Option (List ℕ)) (line : Option (List ℕ)) (old mid new : ConsoleState) (asks : AsksLine out line old mid) (keyboard : new.keyboard ≡ mid.keyboard) where
  taken-then : TakesLines (line_list line) (shown_for out line) old.keyboard new.keyboard
  taken-then = subst (λ (to : KeyboardState). TakesLines (line_list line) (shown_for out line) old.keyboard to) (sym keyboard) asks.taken

  -- every process waits for keys, and the next part of a line is typed
  pub types-line : (last : SliceEnd) (kernel : Kernel) (tick : ℕ) (before between after : Outside) → AllWait last
      kernel before → between ≡ before → tick ≡ ticks kernel + 1 → TypesRest tick mid.rest new.rest mid.typed new.typed
      between.terms after.terms → after.drives ≡ between.drives → TypesLine last kernel out old new before after
  types-line last kernel tick before between after waits same due it drives =
      let loaded : LoadsKeys (keys_typed tick it.bytes) mid.typed new.typed before.terms after.terms = subst
      (λ (terms : List TerminalState). LoadsKeys (keys_typed tick it.bytes) mid.typed new.typed terms after.terms)
      (ap (λ (devices : Outside). devices.terms) same) it.loaded in
      let of_old : LoadsKeys (keys_typed tick it.bytes) old.typed new.typed before.terms after.terms = subst
      (λ (typed : Typed). LoadsKeys (keys_typed tick it.bytes) typed new.typed before.terms after.terms)
      asks.typed loaded in
      record {
        line = line;
        bytes = it.bytes;
        types = λ s tied. inl (waits s tied, record { asked = asks.asked; part = it.part ∙ ap (take PART) asks.rest });
        left_is = it.left_is ∙ ap (drop (length it.bytes)) asks.rest;
        taken = taken-then;
        loaded = subst (λ (tick : ℕ). LoadsKeys (keys_typed tick it.bytes) old.typed new.typed before.terms after.terms) due of_old;
        drives = drives ∙ ap (λ (devices : Outside). devices.drives) same;
      }

  -- or memory is out for it
  pub loses-part : IsKept mid.typed new.typed → LosesLine out old new
  loses-part kept = record {
    lost = line;
    none_left = λ is. asks.asked.0 is;
    mid = new.keyboard;
    taken = taken-then;
    lacks = inl (has-keys line old.rest asks.asked, refl);
    typed = subst (λ (typed : Typed). IsKept typed new.typed) asks.typed kept;
  }
