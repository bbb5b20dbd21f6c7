-- Keys that arrive one after another.
use Rattle.std.proofs.Common.{◌≡◌, ℕ, zero, suc, ◌+◌, ◌-◌, ◌≤◌, min, nat_le, Bool, true, false, Option, Some, None, is_none, List, [], ◌∷◌, ◌++◌, length, take, replicate, slice_get, if◌then◌else◌, refl, sym, ap, subst, ◌∙◌, arith, add_assoc, add-zero, zero-add, append_assoc, append-nil, length-append, length-take}
use Rattle.std.specs.Option.{option_or}
use Rattle.std.specs.List.{filter_map, cons_option}
use Rattle.std.proofs.lemmas.Bool.{leb-true}
use Rattle.std.proofs.lemmas.List.Elements.{All-nil, All-cons}
use Rattle.os9_base.specs.Count.{Rose}
use Rattle.std.proofs.lemmas.List.{replicate-append-replicate, take_all}
use Rattle.os9_outer.specs.Stream.{stream_with}
use Rattle.os9_outer.specs.Terminal.{due_byte, keys_after}
use Rattle.os9_outer.specs.TerminalState.{TerminalState}
use Rattle.os9_outer.specs.declared.terminal.Key.{Key}
use Rattle.io_model.specs.Terminal.{RoseTimes, signal_of, key_bytes, typed_bytes, first_signal, dropped_count}
use Rattle.io_model.specs.declared.terminal.Arrival.{Arrival}
use Rattle.terminal_mgr.specs.Polling.{Rings, Polls}
use Rattle.terminal_mgr.proofs.TypingLemmas.{stream_with-twice, stream_with-nothing}

-- the first so many of a list whose front was cut before
take-front : (n : ℕ) (xs ys : List ℕ) → take n (take n xs ++ ys) ≡ take n (xs ++ ys)
take-front zero xs ys = refl
take-front (suc n) [] ys = refl
take-front (suc n) (x ∷ xs) ys = ap (λ (rest : List ℕ). x ∷ rest) (take-front n xs ys)

-- the first byte sends a signal or is typed
typed-first : (byte : ℕ) (rest : List ℕ) → typed_bytes (byte ∷ rest) ≡ typed_bytes (byte ∷ []) ++ typed_bytes rest
typed-first byte rest =
    let by : Bool → List ℕ → List ℕ = λ typed others. if typed then byte ∷ others else others in
    let P : Bool → Type 0 = λ typed. by typed (typed_bytes rest) ≡ by typed [] ++ typed_bytes rest in
    elim (is_none (signal_of byte)) as P [ true ↦ refl | false ↦ refl ]

by_signal : (one : Option ℕ) (others : List ℕ) → option_or one (slice_get others 0) ≡ slice_get (cons_option one others) 0
by_signal None others = refl
by_signal (Some signal) others = refl

-- the signal sent before, or that of the first byte, or that of a later one
signal-first : (sent : Option ℕ) (byte : ℕ) (rest : List ℕ) → option_or (option_or sent (signal_of byte)) (first_signal rest) ≡ option_or sent (first_signal (byte ∷ rest))
signal-first (Some signal) byte rest = refl
signal-first None byte rest = by_signal (signal_of byte) (filter_map signal_of rest)

none-later : (sent : Option ℕ) → option_or sent None ≡ sent
none-later None = refl
none-later (Some signal) = refl

-- a byte that sends no signal is typed, and sends none
pub typed-one : (byte : ℕ) → signal_of byte ≡ None → typed_bytes (byte ∷ []) ≡ byte ∷ []
typed-one byte none = let by : Option ℕ → List ℕ = λ sent. if is_none sent then byte ∷ [] else [] in ap by none

pub typed-none : (byte signal : ℕ) → signal_of byte ≡ Some signal → typed_bytes (byte ∷ []) ≡ []
typed-none byte signal some = let by : Option ℕ → List ℕ = λ sent. if is_none sent then byte ∷ [] else [] in ap by some

-- the type-ahead is within its limit
take-whole : (old : List ℕ) → length old ≤ 256 → take 256 (old ++ []) ≡ old
take-whole old within = ap (take 256) (append-nil old) ∙ take_all 256 old within

-- a key that sends a signal is not kept, and no bell is put for it
pub kept-none : (old : List ℕ) (byte signal : ℕ) → length old ≤ 256 → signal_of byte ≡ Some signal → old ≡ take 256 (old ++ typed_bytes (byte ∷ []))
kept-none old byte signal within some =
    sym (ap (λ (bytes : List ℕ). take 256 (old ++ bytes)) (typed-none byte signal some) ∙ take-whole old within)

pub dropped-none : (old : List ℕ) (byte signal : ℕ) → length old ≤ 256 → signal_of byte ≡ Some signal → dropped_count old (byte ∷ []) ≡ 0
dropped-none old byte signal within some =
    let none : length (typed_bytes (byte ∷ [])) ≡ 0 = ap length (typed-none byte signal some) in omega (arith, none, within)

-- another key is kept as far as there is room
pub kept-one : (old new : List ℕ) (byte : ℕ) → signal_of byte ≡ None → new ≡ take 256 (old ++ byte ∷ []) → new ≡ take 256 (old ++ typed_bytes (byte ∷ []))
kept-one old new byte none kept =
    kept ∙ sym (ap (λ (bytes : List ℕ). take 256 (old ++ bytes)) (typed-one byte none))

-- the key that is due
due-if : (key : Key) (keys : List Key) (tick byte : ℕ) (is_due : Bool) → (is_due ≡ true → key.tick ≤ tick)
    → (if is_due then Some key.byte else None) ≡ Some byte
    → (it : Key) × (key ∷ keys ≡ it ∷ (if is_due then keys else key ∷ keys)) × (it.tick ≤ tick) × (it.byte ≡ byte)
due-if key keys tick byte true inside is = (key, refl, inside refl, cc)
due-if key keys tick byte false inside is = absurd cc

pub due-key : (keys : List Key) (tick byte : ℕ) → due_byte keys tick ≡ Some byte → (key : Key) × (keys ≡ key ∷ keys_after keys tick) × (key.tick ≤ tick) × (key.byte ≡ byte)
due-key [] tick byte due = absurd cc
due-key (key ∷ keys) tick byte due = due-if key keys tick byte (nat_le key.tick tick) (leb-true key.tick tick) due

due-none : (key : Key) (keys : List Key) (is_due : Bool) → (if is_due then Some key.byte else None) ≡ None → (if is_due then keys else key ∷ keys) ≡ key ∷ keys
due-none key keys true is = absurd cc
due-none key keys false is = refl

-- no key is due
pub undue : (keys : List Key) (tick : ℕ) → due_byte keys tick ≡ None → keys_after keys tick ≡ keys
undue [] tick due = refl
undue (key ∷ keys) tick due = due-none key keys (nat_le key.tick tick) due

-- counts that rise one after another
rose-both : (m n before mid now : ℕ) → RoseTimes m before mid → RoseTimes n mid now → RoseTimes (m + n) before now
rose-both m n before mid now first second = record {
  rose = omega (arith, first.rose, second.rose, first.never_falls, second.never_falls);
  never_falls = omega (arith, first.never_falls, second.never_falls);
  stood = λ none. second.stood (omega arith) ∙ first.stood (omega arith);
}

pub rose-none : (before now : ℕ) → now ≡ before → RoseTimes 0 before now
rose-none before now same =
    record { rose = omega (arith, same); never_falls = omega (arith, same); stood = λ none. same }

pub rose-once : (before now : ℕ) → Rose before now → before ≤ now → RoseTimes 1 before now
rose-once before now rose falls = record { rose = rose; never_falls = falls; stood = λ none. absurd (omega arith) }

pub rings-none : (s : TerminalState) → Rings 0 0 s s
rings-none s =
    record { put = sym (stream_with-nothing s.put); faults = rose-none s.faults s.faults refl; keys = refl }

-- a key arrived, and for so many keys that found no room neither a bell was put nor the driver failed to
pub record KeyArrives (tick : ℕ) (key : Key) (old mid : List ℕ) (before after : TerminalState) (short : ℕ) : Type 0 where
  pub bells : ℕ
  pub mute : ℕ
  pub keys : before.keys ≡ key ∷ after.keys
  pub due : key.tick ≤ tick
  pub kept : mid ≡ take 256 (old ++ typed_bytes (key.byte ∷ []))
  pub put : after.put ≡ stream_with before.put (replicate bells 7)
  pub faults : RoseTimes mute before.faults after.faults
  pub count : bells + mute + short ≡ dropped_count old (key.byte ∷ [])

-- no key arrived
pub polls-none : (tick : ℕ) (sent : Option ℕ) (old : List ℕ) (before now : TerminalState) (broken : ℕ) → broken ≤ 1
    → length old ≤ 256 → now.keys ≡ before.keys → now.put ≡ before.put → RoseTimes broken before.faults now.faults
    → (broken ≡ 0 → due_byte now.keys tick ≡ None) → Polls tick sent old old before now
    (record { signal = sent; memory = true })
polls-none tick sent old before now broken once within keys put faults none_due = record {
  taken = [];
  bells = 0;
  mute = 0;
  broken = broken;
  once = once;
  in_order = sym keys;
  due = All-nil (λ (key : Key). key.tick ≤ tick);
  kept = sym (take-whole old within);
  signal = sym (none-later sent);
  put = put ∙ sym (stream_with-nothing before.put);
  faults = let P : ℕ → Type 0 = λ n. RoseTimes n before.faults now.faults in subst P (sym (zero-add broken)) faults;
  every_bell = λ memory. omega (arith, within);
  last_bell = λ memory. absurd cc;
  all_taken = λ memory. none_due;
  unbroken = λ memory. absurd cc;
}

-- a bell found no memory
pub polls-last : (tick : ℕ) (sent : Option ℕ) (key : Key) (old mid : List ℕ) (before after : TerminalState)
    → KeyArrives tick key old mid before after 1 → signal_of key.byte ≡ None → Polls tick sent old mid before after
    (record { signal = sent; memory = false })
polls-last tick sent key old mid before after k none = record {
  taken = key ∷ [];
  bells = k.bells;
  mute = k.mute;
  broken = 0;
  once = omega arith;
  in_order = k.keys;
  due = All-cons (λ (key : Key). key.tick ≤ tick) key [] k.due (All-nil (λ (key : Key). key.tick ≤ tick));
  kept = k.kept;
  signal = let by : Option ℕ → Option ℕ = λ one. option_or sent (slice_get (cons_option one []) 0) in sym (ap by none ∙ none-later sent);
  put = k.put;
  faults = let P : ℕ → Type 0 = λ n. RoseTimes n before.faults after.faults in subst P (sym (add-zero k.mute)) k.faults;
  every_bell = λ memory. absurd cc;
  last_bell = λ memory. k.count;
  all_taken = λ memory. absurd cc;
  unbroken = λ memory. refl;
}

bells-sum : (b c m n z x y : ℕ) → b + m + 0 ≡ x → c + n ≡ y → b + c + (m + n) ≡ x + y
bells-sum b c m n z x y first rest = omega arith

bells-last : (b c m n x y : ℕ) → b + m + 0 ≡ x → c + n + 1 ≡ y → b + c + (m + n) + 1 ≡ x + y
bells-last b c m n x y first rest = omega arith

dropped-sum : (a k t m : ℕ) → m ≡ min 256 (a + k) → a + (k + t) - 256 ≡ (a + k - 256) + (m + t - 256)
dropped-sum a k t m is = omega arith

dropped-more : (old mid : List ℕ) (byte : ℕ) (rest : List ℕ) → mid ≡ take 256 (old ++ typed_bytes (byte ∷ []))
    → dropped_count old (byte ∷ rest) ≡ dropped_count old (byte ∷ []) + dropped_count mid rest
dropped-more old mid byte rest kept =
    let one : List ℕ = typed_bytes (byte ∷ []) in
    let others : List ℕ = typed_bytes rest in
    let sum : length (typed_bytes (byte ∷ rest)) ≡ length one + length others = ap length (typed-first byte rest) ∙ length-append one others in
    let room : length mid ≡ min 256 (length old + length one) = ap length kept ∙ length-take 256 (old ++ one) ∙ ap (min 256) (length-append old one) in
    ap (λ (n : ℕ). length old + n - 256) sum ∙ dropped-sum (length old) (length one) (length others) (length mid) room

-- a key arrived, and others after it
pub polls-cons : (tick : ℕ) (sent : Option ℕ) (key : Key) (old mid new : List ℕ) (before after now : TerminalState)
    (answer : Arrival) → KeyArrives tick key old mid before after 0 → Polls tick (option_or sent (signal_of key.byte))
    mid new after now answer → Polls tick sent old new before now answer
polls-cons tick sent key old mid new before after now answer k p =
    let one : List ℕ = typed_bytes (key.byte ∷ []) in
    let others : List ℕ = typed_bytes (key_bytes p.taken) in
    let count : dropped_count old (key.byte ∷ key_bytes p.taken) ≡ dropped_count old (key.byte ∷ []) + dropped_count
    mid (key_bytes p.taken) = dropped-more old mid key.byte (key_bytes p.taken) k.kept in
    record {
      taken = key ∷ p.taken;
      bells = k.bells + p.bells;
      mute = k.mute + p.mute;
      broken = p.broken;
      once = p.once;
      in_order = k.keys ∙ ap (λ (keys : List Key). key ∷ keys) p.in_order;
      due = All-cons (λ (key : Key). key.tick ≤ tick) key p.taken k.due p.due;
      kept = p.kept ∙ ap (λ (bytes : List ℕ). take 256 (bytes ++ others)) k.kept ∙ take-front 256 (old ++ one) others
          ∙ ap (take 256) (append_assoc old one others ∙ ap (λ (bytes : List ℕ). old ++ bytes)
          (sym (typed-first key.byte (key_bytes p.taken))));
      signal = p.signal ∙ signal-first sent key.byte (key_bytes p.taken);
      put = p.put ∙ ap (λ (stream : Option (List ℕ)). stream_with stream (replicate p.bells 7)) k.put ∙
          stream_with-twice before.put (replicate k.bells 7) (replicate p.bells 7) ∙ ap (stream_with before.put)
          (replicate-append-replicate k.bells p.bells 7);
      faults = let P : ℕ → Type 0 = λ n. RoseTimes n before.faults now.faults in subst P
          (sym (add_assoc k.mute p.mute p.broken)) (rose-both k.mute (p.mute + p.broken) before.faults after.faults
          now.faults k.faults p.faults);
      every_bell = λ memory. let rest : p.bells + p.mute ≡ dropped_count mid (key_bytes p.taken) = p.every_bell memory
          in let first : k.bells + k.mute + 0 ≡ dropped_count old (key.byte ∷ []) = k.count in bells-sum k.bells
          p.bells k.mute p.mute 0 _ _ first rest ∙ sym count;
      last_bell = λ memory. let rest : p.bells + p.mute + 1 ≡ dropped_count mid (key_bytes p.taken) = p.last_bell
          memory in let first : k.bells + k.mute + 0 ≡ dropped_count old (key.byte ∷ []) = k.count in bells-last
          k.bells p.bells k.mute p.mute _ _ first rest ∙ sym count;
      all_taken = p.all_taken;
      unbroken = p.unbroken;
    }

-- the driver gave a key, and it arrived
module _ (tick : ℕ) (sent : Option ℕ) (byte : ℕ) (old mid : List ℕ) (before asked after : TerminalState)
    (given : due_byte before.keys tick ≡ Some byte) (left : asked.keys ≡ keys_after before.keys tick)
    (put_kept : asked.put ≡ before.put) (faults_kept : asked.faults ≡ before.faults)
    (kept : mid ≡ take 256 (old ++ typed_bytes (byte ∷ []))) where
  abbrev the_key : (key : Key) × (before.keys ≡ key ∷ keys_after before.keys tick) × (key.tick ≤ tick) × (key.byte ≡ byte)
  the_key = due-key before.keys tick byte given

  arrived : (bells mute short : ℕ) → bells + mute + short ≡ dropped_count old (byte ∷ []) → Rings bells mute asked after → KeyArrives tick the_key.0 old mid before after short
  arrived bells mute short count rings = record {
    bells = bells;
    mute = mute;
    keys = the_key.1 ∙ ap (λ (keys : List Key). the_key.0 ∷ keys) (sym left ∙ sym rings.keys);
    due = the_key.2;
    kept = kept ∙ ap (λ (b : ℕ). take 256 (old ++ typed_bytes (b ∷ []))) (sym the_key.3);
    put = rings.put ∙ ap (λ (stream : Option (List ℕ)). stream_with stream (replicate bells 7)) put_kept;
    faults = let P : ℕ → Type 0 = λ n. RoseTimes mute n after.faults in subst P faults_kept rings.faults;
    count = count ∙ ap (λ (b : ℕ). dropped_count old (b ∷ [])) (sym the_key.3);
  }

  -- and others may follow
  pub poll-goes_on : (new : List ℕ) (now : TerminalState) (answer : Arrival) → (bells mute : ℕ) ×
      (bells + mute ≡ dropped_count old (byte ∷ [])) × Rings bells mute asked after
      → Polls tick (option_or sent (signal_of byte)) mid new after now answer → Polls tick sent old new before now
      answer
  poll-goes_on new now answer rung rest =
      let P : ℕ → Type 0 = λ b. Polls tick (option_or sent (signal_of b)) mid new after now answer in
      polls-cons tick sent the_key.0 old mid new before after now answer (arrived rung.0 rung.1 0 (add-zero (rung.0 + rung.1) ∙ rung.2) rung.3) (subst P (sym the_key.3) rest)

  -- and its bell found no memory
  pub poll-stops : (1 ≡ dropped_count old (byte ∷ [])) × Rings 0 0 asked after → signal_of byte ≡ None → Polls tick sent old mid before after (record { signal = sent; memory = false })
  poll-stops short none =
      polls-last tick sent the_key.0 old mid before after (arrived 0 0 1 short.0 short.1) (ap signal_of the_key.3 ∙ none)
