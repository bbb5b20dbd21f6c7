-- The keys of a terminal that arrive in a tick: the part of the type-ahead and of the driver.
use Rattle.std.specs.Prelude.{◌≡◌, ℕ, ◌+◌, ◌≤◌, true, false, Option, None, List, ◌++◌, take, replicate, All}
use Rattle.std.specs.Option.{option_or}
use Rattle.os9_outer.specs.Stream.{stream_with}
use Rattle.os9_outer.specs.Terminal.{due_byte}
use Rattle.os9_outer.specs.TerminalState.{TerminalState}
use Rattle.os9_outer.specs.declared.terminal.Key.{Key}
use Rattle.io_model.specs.Terminal.{RoseTimes, key_bytes, typed_bytes, first_signal, dropped_count}
use Rattle.io_model.specs.declared.keys.TheConstants.{BELL}
use Rattle.io_model.specs.declared.terminal.Arrival.{Arrival}
use Rattle.io_model.specs.declared.terminal.TheConstants.{TYPE_AHEAD}

-- `bells` bells were put, and the driver failed to put `mute` more
pub record Rings (bells mute : ℕ) (before now : TerminalState) : Type 0 where
  pub put : now.put ≡ stream_with before.put (replicate bells BELL)
  pub faults : RoseTimes mute before.faults now.faults
  pub keys : now.keys ≡ before.keys

-- `count` bells were due: each was put, or the driver failed to put it
abbrev pub RingsInAll : ℕ → TerminalState → TerminalState → Type 0
RingsInAll count before now = (bells mute : ℕ) × (bells + mute ≡ count) × Rings bells mute before now

-- the keys that are due in a tick arrive; a signal may have been sent before
pub record Polls (tick : ℕ) (sent : Option ℕ) (old new : List ℕ) (before now : TerminalState)
    (answer : Arrival) : Type 0 where
  pub taken : List Key  -- the keys that arrive
  pub bells : ℕ  -- the bells that are put
  pub mute : ℕ  -- the bells that the driver failed to put
  pub broken : ℕ  -- 1 if the driver failed to give a key, which ends the poll, else 0
  pub once : broken ≤ 1
  pub in_order : before.keys ≡ taken ++ now.keys
  pub due : All (λ key. key.tick ≤ tick) taken
  pub kept : new ≡ take TYPE_AHEAD (old ++ typed_bytes (key_bytes taken))
  pub signal : answer.signal ≡ option_or sent (first_signal (key_bytes taken))
  pub put : now.put ≡ stream_with before.put (replicate bells BELL)
  pub faults : RoseTimes (mute + broken) before.faults now.faults
  pub every_bell : answer.memory ≡ true → bells + mute ≡ dropped_count old (key_bytes taken)
  pub last_bell : answer.memory ≡ false → bells + mute + 1 ≡ dropped_count old (key_bytes taken)
  pub all_taken : answer.memory ≡ true → broken ≡ 0 → due_byte now.keys tick ≡ None
  pub unbroken : answer.memory ≡ false → broken ≡ 0  -- memory was out, the driver did not fail
