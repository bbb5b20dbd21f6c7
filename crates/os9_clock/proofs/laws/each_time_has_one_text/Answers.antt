use Rattle.std.proofs.Common.{◌≡◌, ◌≤◌, ◌∙◌, ℕ, ◌+◌, ◌-◌, nat_le, Option, Some, None, option_map, option_and_then, ap, arith, if◌then◌else◌}
use Rattle.std.proofs.lemmas.Bool.{and_from, le-leb}
use Rattle.time_rules.proofs.Days.{parts-of}
use Rattle.time_rules.specs.CivilTime.{packet_time}
use Rattle.text_values.specs.Number.{within}
use Rattle.os9_clock.specs.TimeText.{packet_with, if_time}
use Rattle.os9_clock.proofs.Digits.{read-two, read-four}
use Rattle.os9_clock.proofs.Places.{is-read, text-spelled}
use Rattle.os9_clock.proofs.laws.each_time_has_one_text.Goals as goal

year-read : (y : ℕ) → y ≤ 255 → option_map (λ year. year - 1900) (within 1900 2155 (Some (1900 + y))) ≡ Some y
year-read y small =
    let n = 1900 + y in
    let is = and_from (nat_le 1900 n) (nat_le n 2155) (le-leb 1900 n (omega arith)) (le-leb n 2155 (omega (arith, small))) in
    let same : n - 1900 ≡ y = omega arith in
    (λ i. option_map (λ year. year - 1900) (if is i then Some n else None)) ∙ ap (λ (k : ℕ). Some k) same

pub returns-clause-read : goal.returns-clause-read
returns-clause-read c t few is =
    let parts = parts-of (packet_time t) is in
    let small : t.year ≤ 255 = omega (arith, few) in
    let year = ap (λ (o : Option ℕ). option_map (λ year. year - 1900) (within 1900 2155 o)) (read-four (1900 + t.year) (omega (arith, small))) ∙ year-read t.year small in
    let month = read-two t.month (omega (arith, parts.month_most)) in
    let day = read-two t.day (omega (arith, parts.day_short)) in
    let hour = read-two t.hour (omega (arith, parts.hour)) in
    let minute = read-two t.minute (omega (arith, parts.minute)) in
    let second = read-two t.second (omega (arith, parts.second)) in
    (λ i. option_and_then if_time (packet_with (year i) (month i) (day i) (hour i) (minute i) (second i)))
    ∙ (λ i. if is i then Some t else None)

pub returns-clause-time : goal.returns-clause-time
returns-clause-time c text t same = (is-read text t same).time

pub returns-clause-text : goal.returns-clause-text
returns-clause-text c text t same = text-spelled text t (is-read text t same)
