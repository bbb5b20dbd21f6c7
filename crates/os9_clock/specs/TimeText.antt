-- A date and time in a text: `YYYY-MM-DDThh:mm:ss`, of 1900 to 2155 (this project's own).
use Rattle.std.specs.Prelude.{ℕ, ◌-◌, ◌==◌, ◌&&◌, Bool, Option, Some, None, option_and_then, option_map, List, length, take, drop, slice_index_or, if◌then◌else◌}
use Rattle.os9_base.specs.declared.registers.TimePacket.{TimePacket}
use Rattle.time_rules.specs.CivilTime.{is_time_packet}
use Rattle.text_values.specs.Number.{number_of, within}

-- the character `-`, `T` and `:`
abbrev pub dash : ℕ
dash = 45

abbrev pub letter_t : ℕ
letter_t = 84

abbrev pub colon : ℕ
colon = 58

-- the text has nineteen characters, and the marks between its numbers are in their places
abbrev pub has_marks : List ℕ → Bool
has_marks text =
    (length text == 19) && (slice_index_or text 4 0 == dash) && (slice_index_or text 7 0 == dash)
    && (slice_index_or text 10 0 == letter_t) && (slice_index_or text 13 0 == colon)
    && (slice_index_or text 16 0 == colon)

-- the number that `count` characters from a place on spell
abbrev pub number_at : List ℕ → ℕ → ℕ → Option ℕ
number_at text at count = number_of (take count (drop at text))

-- the year less 1900, if the first four characters spell one from 1900 to 2155
abbrev pub year_in : List ℕ → Option ℕ
year_in text = option_map (λ year. year - 1900) (within 1900 2155 (number_at text 0 4))

-- the packet of these six numbers, if they are there
abbrev pub packet_with : (year month day hour minute second : Option ℕ) → Option TimePacket
packet_with (Some year) (Some month) (Some day) (Some hour) (Some minute) (Some second) =
    Some (record { year = year; month = month; day = day; hour = hour; minute = minute; second = second })
packet_with _ _ _ _ _ _ = None

-- the packet of the numbers in their places
abbrev pub packet_in : List ℕ → Option TimePacket
packet_in text =
    packet_with (year_in text) (number_at text 5 2) (number_at text 8 2) (number_at text 11 2) (number_at text 14 2)
    (number_at text 17 2)

-- the packet, if it is a civil date and time
abbrev pub if_time : TimePacket → Option TimePacket
if_time packet = if is_time_packet packet then Some packet else None

-- the date and time that the text spells, or nothing if it does not spell one
abbrev pub time_in : List ℕ → Option TimePacket
time_in text = if has_marks text then option_and_then if_time (packet_in text) else None
