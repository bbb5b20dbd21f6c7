-- The parts of a text in their places.
use Rattle.std.proofs.Common.{◌≡◌, ◌≤◌, ◌<◌, ℕ, zero, suc, ◌+◌, ◌-◌, ◌&&◌, Bool, true, false, nat_le, nat_eq, Option, Some, None, option_map, option_and_then, List, [], ◌∷◌, ◌++◌, length, take, drop, length-take-le, length-drop, slice_index_or, refl, ap, sym, subst, ◌∙◌, arith, if◌then◌else◌}
use Rattle.std.proofs.lemmas.Bool.{and_parts, leb-true, eqb-true}
use Rattle.std.proofs.lemmas.List.{take-append-drop, drop-drop, take_all}
use Rattle.os9_base.specs.declared.registers.TimePacket.{TimePacket}
use Rattle.time_rules.specs.CivilTime.{is_time_packet}
use Rattle.text_values.specs.Number.{within}
use Rattle.os9_clock.specs.Spelled.{two_digits, spelled}
use Rattle.os9_clock.specs.TimeText.{dash, letter_t, colon, has_marks, number_at, year_in, packet_with, packet_in, if_time, time_in}
use Rattle.os9_clock.proofs.Digits.{some-same, two-spelled, four-spelled}

-- a text is so many characters from a place on and what is behind them
part : (text : List ℕ) (at count : ℕ) → drop at text ≡ take count (drop at text) ++ drop (at + count) text
part text at count =
    sym (take-append-drop count (drop at text)) ∙ ap (λ (rest : List ℕ). take count (drop at text) ++ rest) (drop-drop count at text)

-- one character
mark-part : (text : List ℕ) (at mark : ℕ) → at < length text → slice_index_or text at 0 ≡ mark
    → take 1 (drop at text) ≡ mark ∷ []
mark-part [] at mark within is = absurd (omega (arith, within))
mark-part (x ∷ text) zero mark within is = ap (λ (k : ℕ). k ∷ []) is
mark-part (x ∷ text) (suc at) mark within is = mark-part text at mark (omega (arith, within)) is

-- ---- what a text is that is read

pub record HasMarks (text : List ℕ) : Type 0 where
  pub long : length text ≡ 19
  pub before_month : slice_index_or text 4 0 ≡ dash
  pub before_day : slice_index_or text 7 0 ≡ dash
  pub before_hour : slice_index_or text 10 0 ≡ letter_t
  pub before_minute : slice_index_or text 13 0 ≡ colon
  pub before_second : slice_index_or text 16 0 ≡ colon

marks-of : (text : List ℕ) → has_marks text ≡ true → HasMarks text
marks-of text is =
    let a = nat_eq (length text) 19 in
    let b = nat_eq (slice_index_or text 4 0) dash in
    let c = nat_eq (slice_index_or text 7 0) dash in
    let d = nat_eq (slice_index_or text 10 0) letter_t in
    let e = nat_eq (slice_index_or text 13 0) colon in
    let f = nat_eq (slice_index_or text 16 0) colon in
    let to_f = and_parts (a && b && c && d && e) f is in
    let to_e = and_parts (a && b && c && d) e to_f.0 in
    let to_d = and_parts (a && b && c) d to_e.0 in
    let to_c = and_parts (a && b) c to_d.0 in
    let to_b = and_parts a b to_c.0 in
    record {
      long = eqb-true (length text) 19 to_b.0;
      before_month = eqb-true (slice_index_or text 4 0) dash to_b.1;
      before_day = eqb-true (slice_index_or text 7 0) dash to_c.1;
      before_hour = eqb-true (slice_index_or text 10 0) letter_t to_d.1;
      before_minute = eqb-true (slice_index_or text 13 0) colon to_e.1;
      before_second = eqb-true (slice_index_or text 16 0) colon to_f.1;
    }

-- the numbers of a packet that is read
pub record HasNumbers (year month day hour minute second : Option ℕ) (t : TimePacket) : Type 0 where
  pub year_is : year ≡ Some t.year
  pub month_is : month ≡ Some t.month
  pub day_is : day ≡ Some t.day
  pub hour_is : hour ≡ Some t.hour
  pub minute_is : minute ≡ Some t.minute
  pub second_is : second ≡ Some t.second

same-packet : (a b : TimePacket) → Some a ≡ Some b → a ≡ b
same-packet a b same = cc

numbers-of : (year month day hour minute second : Option ℕ) (t : TimePacket)
    → packet_with year month day hour minute second ≡ Some t → HasNumbers year month day hour minute second t
numbers-of (Some year) (Some month) (Some day) (Some hour) (Some minute) (Some second) t is =
    let same = same-packet (record { year = year; month = month; day = day; hour = hour; minute = minute; second = second }) t is in
    record {
      year_is = ap (λ (k : TimePacket). Some k.year) same;
      month_is = ap (λ (k : TimePacket). Some k.month) same;
      day_is = ap (λ (k : TimePacket). Some k.day) same;
      hour_is = ap (λ (k : TimePacket). Some k.hour) same;
      minute_is = ap (λ (k : TimePacket). Some k.minute) same;
      second_is = ap (λ (k : TimePacket). Some k.second) same;
    }
numbers-of None month day hour minute second t is = absurd (cc)
numbers-of (Some year) None day hour minute second t is = absurd (cc)
numbers-of (Some year) (Some month) None hour minute second t is = absurd (cc)
numbers-of (Some year) (Some month) (Some day) None minute second t is = absurd (cc)
numbers-of (Some year) (Some month) (Some day) (Some hour) None second t is = absurd (cc)
numbers-of (Some year) (Some month) (Some day) (Some hour) (Some minute) None t is = absurd (cc)

-- the year that is written
year-if : (n y : ℕ) (is : Bool) → (is ≡ true → 1900 ≤ n)
    → option_map (λ year. year - 1900) (if is then Some n else None) ≡ Some y → Some n ≡ Some (1900 + y)
year-if n y true least is =
    let same : n - 1900 ≡ y = some-same (n - 1900) y is in
    let late : 1900 ≤ n = least refl in
    ap (λ (k : ℕ). Some k) (omega (arith, same, late))
year-if n y false least is = absurd (cc)

year-of : (number : Option ℕ) (y : ℕ) → option_map (λ year. year - 1900) (within 1900 2155 number) ≡ Some y
    → number ≡ Some (1900 + y)
year-of None y is = absurd (cc)
year-of (Some n) y is =
    year-if n y (nat_le 1900 n && nat_le n 2155)
    (λ both. leb-true 1900 n (and_parts (nat_le 1900 n) (nat_le n 2155) both).0) is

-- what is read is a time
pub record IsRead (text : List ℕ) (t : TimePacket) : Type 0 where
  pub marks : has_marks text ≡ true
  pub packet : packet_in text ≡ Some t
  pub time : is_time_packet t ≡ true

if-time : (packet t : TimePacket) (is : Bool) → is_time_packet packet ≡ is → (if is then Some packet else None) ≡ Some t
    → (packet ≡ t) × (is_time_packet t ≡ true)
if-time packet t true is same =
    let at = same-packet packet t same in
    (at, subst (λ (k : TimePacket). is_time_packet k ≡ true) at is)
if-time packet t false is same = absurd (cc)

time-of : (packet : Option TimePacket) (t : TimePacket) → option_and_then if_time packet ≡ Some t
    → (packet ≡ Some t) × (is_time_packet t ≡ true)
time-of None t same = absurd (cc)
time-of (Some packet) t same =
    let parts = if-time packet t (is_time_packet packet) refl same in
    (ap (λ (k : TimePacket). Some k) parts.0, parts.1)

read-if : (text : List ℕ) (t : TimePacket) (is : Bool) → has_marks text ≡ is
    → (if is then option_and_then if_time (packet_in text) else None) ≡ Some t → IsRead text t
read-if text t true is same =
    let parts = time-of (packet_in text) t same in
    record { marks = is; packet = parts.0; time = parts.1 }
read-if text t false is same = absurd (cc)

pub is-read : (text : List ℕ) (t : TimePacket) → time_in text ≡ Some t → IsRead text t
is-read text t same = read-if text t (has_marks text) refl same

-- ---- and so how it is spelled

two-part : (text : List ℕ) (at n : ℕ) → at + 2 ≤ length text → number_at text at 2 ≡ Some n
    → take 2 (drop at text) ≡ two_digits n
two-part text at n within is =
    two-spelled (take 2 (drop at text)) n (length-take-le 2 (drop at text) (omega (arith, length-drop at text, within))) is

pub text-spelled : (text : List ℕ) (t : TimePacket) → IsRead text t → text ≡ spelled t
text-spelled text t read =
    let marks = marks-of text read.marks in
    let numbers = numbers-of (year_in text) (number_at text 5 2) (number_at text 8 2) (number_at text 11 2) (number_at text 14 2) (number_at text 17 2) t read.packet in
    let long : length text ≡ 19 = marks.long in
    let year = four-spelled (take 4 (drop 0 text)) (1900 + t.year) (length-take-le 4 (drop 0 text) (omega (arith, length-drop 0 text, long))) (year-of (number_at text 0 4) t.year numbers.year_is) in
    let month = two-part text 5 t.month (omega (arith, long)) numbers.month_is in
    let day = two-part text 8 t.day (omega (arith, long)) numbers.day_is in
    let hour = two-part text 11 t.hour (omega (arith, long)) numbers.hour_is in
    let minute = two-part text 14 t.minute (omega (arith, long)) numbers.minute_is in
    let second = two-part text 17 t.second (omega (arith, long)) numbers.second_is in
    let before_month = mark-part text 4 dash (omega (arith, long)) marks.before_month in
    let before_day = mark-part text 7 dash (omega (arith, long)) marks.before_day in
    let before_hour = mark-part text 10 letter_t (omega (arith, long)) marks.before_hour in
    let before_minute = mark-part text 13 colon (omega (arith, long)) marks.before_minute in
    let before_second = mark-part text 16 colon (omega (arith, long)) marks.before_second in
    let from_17 = sym (take_all 2 (drop 17 text) (omega (arith, length-drop 17 text, long))) ∙ second in
    let from_16 = part text 16 1 ∙ (λ i. before_second i ++ from_17 i) in
    let from_14 = part text 14 2 ∙ (λ i. minute i ++ from_16 i) in
    let from_13 = part text 13 1 ∙ (λ i. before_minute i ++ from_14 i) in
    let from_11 = part text 11 2 ∙ (λ i. hour i ++ from_13 i) in
    let from_10 = part text 10 1 ∙ (λ i. before_hour i ++ from_11 i) in
    let from_8 = part text 8 2 ∙ (λ i. day i ++ from_10 i) in
    let from_7 = part text 7 1 ∙ (λ i. before_day i ++ from_8 i) in
    let from_5 = part text 5 2 ∙ (λ i. month i ++ from_7 i) in
    let from_4 = part text 4 1 ∙ (λ i. before_month i ++ from_5 i) in
    part text 0 4 ∙ (λ i. year i ++ from_4 i)
