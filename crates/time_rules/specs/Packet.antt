-- The packet of a date and time in memory (System Programmer's Manual, F$Time).
use Rattle.std.specs.Prelude.{ℕ, List, [], ◌∷◌, slice_index_or}
use Rattle.os9_base.specs.declared.registers.TimePacket.{TimePacket}

-- the bytes of a packet, in their order in memory
abbrev pub packet_bytes : TimePacket → List ℕ
packet_bytes t = t.year ∷ t.month ∷ t.day ∷ t.hour ∷ t.minute ∷ t.second ∷ []

-- the packet with these bytes
abbrev pub packet_of : List ℕ → TimePacket
packet_of bytes = record {
  year = slice_index_or bytes 0 0;
  month = slice_index_or bytes 1 0;
  day = slice_index_or bytes 2 0;
  hour = slice_index_or bytes 3 0;
  minute = slice_index_or bytes 4 0;
  second = slice_index_or bytes 5 0;
}
