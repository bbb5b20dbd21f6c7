-- What an attempt of a call on the time does.
use Rattle.std.specs.Prelude.{ℕ, Bool, true, false, Option, Some, None}
use Rattle.os9_base.specs.declared.registers.TimePacket.{TimePacket}
use Rattle.time_rules.specs.declared.clock.Clock.{Clock}

pub data TimeStep : Type 0 where
  -- it is refused with this number, and changes nothing
  refused : ℕ → TimeStep
  -- it stores this packet at an address
  tells : ℕ → TimePacket → TimeStep
  -- the clock is this one from then on
  sets : Clock → TimeStep

-- the call goes on with the value, or is refused with this number if there is none
abbrev pub needs : {A : Type 0} → Option A → ℕ → (A → TimeStep) → TimeStep
needs None number next = refused number
needs (Some a) number next = next a

-- the call is refused with this number if the test is true, and goes on otherwise
abbrev pub refuses : Bool → ℕ → TimeStep → TimeStep
refuses true number next = refused number
refuses false number next = next
