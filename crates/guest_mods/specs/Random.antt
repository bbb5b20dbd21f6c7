-- The random numbers of the command `stress`: a linear congruential generator (this project's own).
use Rattle.std.specs.Prelude.{ℕ, zero, suc, ◌+◌, ◌*◌, ◌/◌, ◌%◌, List, map}
use Rattle.std.specs.List.{range_with_len}

-- the next random number
abbrev pub random_after : ℕ → ℕ
random_after x = (1103515245 * x + 12345) % 2147483648

-- the random number at this place of a seed; the seed itself is at place 0
unfoldable pub random : ℕ → ℕ → ℕ
random seed zero = seed
random seed (suc i) = random_after (random seed i)

-- the number from 1 to the most that a random number draws: by its high bits, which vary most
abbrev pub drawn_by : ℕ → ℕ → ℕ
drawn_by most x = 1 + x / 65536 % most

-- `count` numbers from 1 to the most, drawn by the random numbers of a seed after a place
abbrev pub draws : ℕ → ℕ → ℕ → ℕ → List ℕ
draws seed most place count = map (λ i. drawn_by most (random seed i)) (range_with_len (place + 1) count)

-- the number of instructions of each slice of a load: at most 500, drawn after the 800 places of the writes
abbrev pub slice_lengths : ℕ → ℕ → List ℕ
slice_lengths seed count = draws seed 500 800 count
