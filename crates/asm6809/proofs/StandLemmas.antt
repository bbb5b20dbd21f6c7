-- Where the statements of a module stand.
use Rattle.std.proofs.Common.{◌≡◌, ◌≤◌, ℕ, ◌+◌, ◌*◌, ◌&&◌, true, false, Option, Some, None, List, [], ◌∷◌, ◌++◌, length, take, drop, refl, ap, sym, subst, ◌∙◌, arith, length-append, length-drop, append_assoc}
use Rattle.std.specs.Prelude.{option_map, is_some, sum_by, All, IsSomeAnd, Ok}
use Rattle.std.specs.Option.{option_map_or}
use Rattle.std.specs.List.{list_all, flat_map}
use Rattle.std.proofs.lemmas.Bool.{and_parts}
use Rattle.std.proofs.lemmas.List.{take_at, drop_at, drop-drop, length-map}
use Rattle.std.proofs.lemmas.List.Elements.{All-cons, All-nil}
use Rattle.std.proofs.lemmas.List.Sums.{sum_by-cons}
use Rattle.proc_model.specs.UserBytes.{word_bytes}
use Rattle.os9_base.specs.Name.{marked_name}
use Rattle.proc_model.specs.CrcModel.{crc_of}
use Rattle.cpu_model.specs.declared.instruction.Tail.{Tail}
use Rattle.cpu_model.specs.declared.instruction.Tail.TheVariants.{Empty, Byte}
use Rattle.cpu_model.specs.Reading.{reading}
use Rattle.cpu_table.specs.Spelling.{spelling, IsPlainInstr}
use Rattle.cpu_table.proofs.Read.{plain_read}
use Rattle.module_format.specs.GuestModule.{crc_bytes, kind_header_length}
use Rattle.asm_model.specs.declared.operand.Wanted.{Wanted}
use Rattle.asm_model.specs.declared.operand.Wanted.TheVariants.{Nothing, Fixed, Value}
use Rattle.asm_model.specs.Instructions.{Shape, shape_length, with_tail}
use Rattle.asm_model.specs.Statements.{Action, label_alone, instruction, module_start, module_end, equals, byte_list, word_list, characters, system_call, ModuleFields, LineRead, skipped, broken, stated}
use Rattle.asm_model.specs.Placement.{Reached, action_length, is_start, is_end, term_value, wanted_values}
use Rattle.asm_text.specs.Tails.{tail_by}
use Rattle.asm6809.specs.Assembled.{Placed, placed_at, placed_from, actions_of, byte_there, word_there, instr_there, action_bytes, code_of, start_of, first_start, is_empty, is_closed, is_framed, is_text_filled, is_filled, kind_of, StandAt, action_stands, HasStatement}
use Rattle.asm6809.proofs.ShapeLemmas.{IsShaped, AreShaped}
use Rattle.asm6809.proofs.PlainLemmas.{shape_plain, spelled_long}

-- ---- an instruction

some_tail : (o : Option Tail) → is_some o ≡ true → (tail : Tail) × (o ≡ Some tail)
some_tail None is = absurd (cc)
some_tail (Some tail) is = (tail, refl)

tail_known : (all : Reached) (n next : ℕ) (w : Wanted) (text : List ℕ) → list_all (is_text_filled all n next) (wanted_values w text) ≡ true →
    (tail : Tail) × (tail_by (term_value all.labels (Some n)) w next text ≡ Some tail)
tail_known all n next Nothing text fills = (Empty, refl)
tail_known all n next (Fixed b) text fills = (Byte b, refl)
tail_known all n next (Value f) text fills = some_tail _ (and_parts _ true fills).0

module _ (all : Reached) (n : ℕ) (s : Shape) (shaped : IsShaped (instruction s)) (fills : is_filled all (placed_at n (instruction s)) ≡ true) where
  known : (tail : Tail) × (tail_by (term_value all.labels (Some n)) s.operand.wanted (n + shape_length s) s.operand.expression ≡ Some tail)
  known = tail_known all n (n + shape_length s) s.operand.wanted s.operand.expression fills

  instr_is : instr_there all n s ≡ Some (with_tail s known.0)
  instr_is = ap (option_map (with_tail s)) known.1

  spelled : action_bytes all n (instruction s) ≡ spelling (with_tail s known.0)
  spelled = ap (λ i. option_map_or spelling i []) instr_is

  long : length (spelling (with_tail s known.0)) ≡ shape_length s
  long = spelled_long (term_value all.labels (Some n)) (n + shape_length s) known.0 s known.1

  instruction-long : length (action_bytes all n (instruction s)) ≡ shape_length s
  instruction-long = ap length spelled ∙ long

  plain_is : IsPlainInstr (with_tail s known.0)
  plain_is = shape_plain (term_value all.labels (Some n)) (n + shape_length s) known.0 s known.1 shaped.1 shaped.0 shaped.2

  instruction-stands : (bytes rest : List ℕ) → drop n bytes ≡ action_bytes all n (instruction s) ++ rest → action_stands all bytes n (instruction s)
  instruction-stands bytes rest there =
      let read : reading (drop n bytes) ≡ Ok (with_tail s known.0, shape_length s) =
      ap reading (there ∙ ap (λ b. b ++ rest) spelled) ∙ plain_read (with_tail s known.0) rest plain_is ∙ ap (λ k. Ok (with_tail s known.0, k)) long in
      subst (λ o. IsSomeAnd o (λ i. reading (drop n bytes) ≡ Ok (i, shape_length s))) (sym instr_is) read

-- ---- each statement but `mod` and `emod`

words-long : {A : Type 0} (word : A → ℕ) (xs : List A) → length (flat_map (λ x. word_bytes (word x)) xs) ≡ 2 * length xs
words-long word [] = refl
words-long word (x ∷ xs) = omega (arith, words-long word xs)

module _ (all : Reached) (n : ℕ) where
  bytes-long : (action : Action) → IsShaped action → is_filled all (placed_at n action) ≡ true → is_start action ≡ false → is_end action ≡ false →
      length (action_bytes all n action) ≡ action_length action
  bytes-long label_alone shaped fills no_start no_end = refl
  bytes-long (instruction s) shaped fills no_start no_end = instruction-long all n s shaped fills
  bytes-long (module_start m) shaped fills no_start no_end = absurd (cc)
  bytes-long module_end shaped fills no_start no_end = absurd (cc)
  bytes-long (equals text) shaped fills no_start no_end = refl
  bytes-long (byte_list texts) shaped fills no_start no_end = length-map texts (byte_there all n)
  bytes-long (word_list texts) shaped fills no_start no_end = words-long (word_there all n) texts
  bytes-long (characters text) shaped fills no_start no_end = refl
  bytes-long (system_call text) shaped fills no_start no_end = refl

  module _ (bytes rest : List ℕ) where
    part-stands : (part : List ℕ) → drop n bytes ≡ part ++ rest → StandAt bytes n part
    part-stands part there = ap (take (length part)) there ∙ take_at part rest (length part) refl

    stands-here : (action : Action) → IsShaped action → is_filled all (placed_at n action) ≡ true → is_start action ≡ false → is_end action ≡ false →
        drop n bytes ≡ action_bytes all n action ++ rest → action_stands all bytes n action
    stands-here label_alone shaped fills no_start no_end there = part-stands [] there
    stands-here (instruction s) shaped fills no_start no_end there = instruction-stands all n s shaped fills bytes rest there
    stands-here (module_start m) shaped fills no_start no_end there = absurd (cc)
    stands-here module_end shaped fills no_start no_end there = absurd (cc)
    stands-here (equals text) shaped fills no_start no_end there = part-stands [] there
    stands-here (byte_list texts) shaped fills no_start no_end there = part-stands (action_bytes all n (byte_list texts)) there
    stands-here (word_list texts) shaped fills no_start no_end there = part-stands (action_bytes all n (word_list texts)) there
    stands-here (characters text) shaped fills no_start no_end there = part-stands text there
    stands-here (system_call text) shaped fills no_start no_end there = part-stands (action_bytes all n (system_call text)) there

-- ---- one statement after another

none-placed : (ls : List LineRead) (n : ℕ) → is_empty (actions_of ls) ≡ true → placed_from n ls ≡ []
none-placed [] n is = refl
none-placed (skipped ∷ ls) n is = none-placed ls n is
none-placed (broken name ∷ ls) n is = none-placed ls n is
none-placed (stated s ∷ ls) n is = absurd (cc)

-- a module is its body and the CRC of it
module _ (all : Reached) (body : List ℕ) where
  abbrev crc : List ℕ
  crc = crc_bytes (crc_of body)

  abbrev pub bytes : List ℕ
  bytes = body ++ crc

  -- the bytes of these statements are those from an offset to the CRC
  record Behind (n : ℕ) (ps : List Placed) : Type 0 where
    filled : list_all (is_filled all) ps ≡ true
    there : drop n bytes ≡ code_of all ps ++ crc
    room : n ≤ length bytes

  -- each of these statements stands at its offset, and the last ends the module
  pub record Stood (n : ℕ) (ps : List Placed) : Type 0 where
    pub stand : All (HasStatement all bytes) ps
    pub ends : n + sum_by (λ p. action_length p.action) ps ≡ length bytes

  onward : (action : Action) (n : ℕ) (ps : List Placed) → IsShaped action → is_start action ≡ false → is_end action ≡ false →
      Behind n (placed_at n action ∷ ps) → (Behind (n + action_length action) ps → Stood (n + action_length action) ps) → Stood n (placed_at n action ∷ ps)
  onward action n ps shaped no_start no_end behind go_on =
      let fills = and_parts (is_filled all (placed_at n action)) (list_all (is_filled all) ps) behind.filled in
      let part : List ℕ = action_bytes all n action in
      let rest : List ℕ = code_of all ps ++ crc in
      let long : length (action_bytes all n action) ≡ action_length action = bytes-long all n action shaped fills.0 no_start no_end in
      let there : drop n bytes ≡ action_bytes all n action ++ (code_of all ps ++ crc) = behind.there ∙ append_assoc (action_bytes all n action) (code_of all ps) crc in
      let next : drop (n + action_length action) bytes ≡ code_of all ps ++ crc =
      sym (drop-drop (action_length action) n bytes) ∙ ap (drop (action_length action)) there ∙ drop_at part rest (action_length action) long in
      let left : length (drop n bytes) ≡ action_length action + length (code_of all ps ++ crc) =
      ap length there ∙ length-append part rest ∙ ap (λ k. k + length (code_of all ps ++ crc)) long in
      let room : n + action_length action ≤ length bytes = omega (arith, length-drop n bytes, left, behind.room) in
      let stood : Stood (n + action_length action) ps = go_on (record { filled = fills.1; there = next; room = room }) in
      record {
        stand = All-cons (HasStatement all bytes) (placed_at n action) ps (stands-here all n bytes rest action shaped fills.0 no_start no_end there) stood.stand;
        ends = omega (arith, sum_by-cons (λ (p : Placed). action_length p.action) (placed_at n action) ps, stood.ends);
      }

  -- `emod` is the last statement, and its bytes are the CRC
  ended-none : (n : ℕ) → Behind n (placed_at n module_end ∷ []) → Stood n (placed_at n module_end ∷ [])
  ended-none n behind =
      let there : drop n bytes ≡ crc = behind.there in
      let all_there : n + 3 ≡ length bytes = omega (arith, length-drop n bytes, ap length there, behind.room) in
      let above : take n bytes ≡ body = take_at body crc n (omega (arith, length-append body crc, all_there)) in
      let stands : StandAt bytes n (crc_bytes (crc_of (take n bytes))) =
      subst (λ (b : List ℕ). StandAt bytes n (crc_bytes (crc_of b))) (sym above) (ap (take 3) there) in
      record {
        stand = All-cons (HasStatement all bytes) (placed_at n module_end) [] stands (All-nil (HasStatement all bytes));
        ends = all_there;
      }

  ended : (n : ℕ) (ps : List Placed) → ps ≡ [] → Behind n (placed_at n module_end ∷ ps) → Stood n (placed_at n module_end ∷ ps)
  ended n ps none = subst (λ (qs : List Placed). Behind n (placed_at n module_end ∷ qs) → Stood n (placed_at n module_end ∷ qs)) (sym none) (ended-none n)

  step : (action : Action) (ls : List LineRead) (n : ℕ) → IsShaped action → is_closed (action ∷ actions_of ls) ≡ true →
      (is_closed (actions_of ls) ≡ true → Behind (n + action_length action) (placed_from (n + action_length action) ls) →
      Stood (n + action_length action) (placed_from (n + action_length action) ls)) →
      Behind n (placed_at n action ∷ placed_from (n + action_length action) ls) → Stood n (placed_at n action ∷ placed_from (n + action_length action) ls)
  step label_alone ls n shaped closed go_on behind = onward label_alone n _ shaped refl refl behind (go_on closed)
  step (instruction s) ls n shaped closed go_on behind = onward (instruction s) n _ shaped refl refl behind (go_on closed)
  step (module_start m) ls n shaped closed go_on behind = absurd (cc)
  step module_end ls n shaped closed go_on behind = ended n _ (none-placed ls (n + 3) closed) behind
  step (equals text) ls n shaped closed go_on behind = onward (equals text) n _ shaped refl refl behind (go_on closed)
  step (byte_list texts) ls n shaped closed go_on behind = onward (byte_list texts) n _ shaped refl refl behind (go_on closed)
  step (word_list texts) ls n shaped closed go_on behind = onward (word_list texts) n _ shaped refl refl behind (go_on closed)
  step (characters text) ls n shaped closed go_on behind = onward (characters text) n _ shaped refl refl behind (go_on closed)
  step (system_call text) ls n shaped closed go_on behind = onward (system_call text) n _ shaped refl refl behind (go_on closed)

  walk : (ls : List LineRead) (n : ℕ) → AreShaped ls → is_closed (actions_of ls) ≡ true → Behind n (placed_from n ls) → Stood n (placed_from n ls)
  walk [] n shaped closed behind = absurd (cc)
  walk (skipped ∷ ls) n shaped closed behind = walk ls n shaped.1 closed behind
  walk (broken name ∷ ls) n shaped closed behind = walk ls n shaped.1 closed behind
  walk (stated s ∷ ls) n shaped closed behind = step s.action ls n shaped.0 closed (walk ls (n + action_length s.action) shaped.1) behind

  -- ---- the whole module

  -- behind the header stand the name and the bytes of the statements
  pub record Follows (ps : List Placed) (m : ModuleFields) : Type 0 where
    pub name : StandAt bytes (0 + kind_header_length (kind_of m)) (marked_name m.name)
    pub code : drop (0 + action_length (module_start m)) bytes ≡ code_of all ps ++ crc
    pub room : 0 + action_length (module_start m) ≤ length bytes

  first : (action : Action) (ls : List LineRead) (m : ModuleFields) → AreShaped ls → (is_start action && is_closed (actions_of ls)) ≡ true → start_of action ≡ Some m →
      list_all (is_filled all) (placed_at 0 action ∷ placed_from (0 + action_length action) ls) ≡ true → Follows (placed_at 0 action ∷ placed_from (0 + action_length action) ls) m →
      Stood 0 (placed_at 0 action ∷ placed_from (0 + action_length action) ls)
  first (module_start f) ls m shaped closed is fills follows =
      let same : m ≡ f = cc in
      let begins : Follows (placed_at 0 (module_start f) ∷ placed_from (0 + action_length (module_start f)) ls) f =
      subst (λ (g : ModuleFields). Follows (placed_at 0 (module_start f) ∷ placed_from (0 + action_length (module_start f)) ls) g) same follows in
      let parts = and_parts (is_filled all (placed_at 0 (module_start f))) (list_all (is_filled all) (placed_from (0 + action_length (module_start f)) ls)) fills in
      let stood : Stood (0 + action_length (module_start f)) (placed_from (0 + action_length (module_start f)) ls) =
      walk ls (0 + action_length (module_start f)) shaped closed (record { filled = parts.1; there = begins.code; room = begins.room }) in
      record {
        stand = All-cons (HasStatement all bytes) (placed_at 0 (module_start f)) (placed_from (0 + action_length (module_start f)) ls) begins.name stood.stand;
        ends = omega (arith, sum_by-cons (λ (p : Placed). action_length p.action) (placed_at 0 (module_start f)) (placed_from (0 + action_length (module_start f)) ls), stood.ends);
      }
  first label_alone ls m shaped closed is fills follows = absurd (cc)
  first (instruction s) ls m shaped closed is fills follows = absurd (cc)
  first module_end ls m shaped closed is fills follows = absurd (cc)
  first (equals text) ls m shaped closed is fills follows = absurd (cc)
  first (byte_list texts) ls m shaped closed is fills follows = absurd (cc)
  first (word_list texts) ls m shaped closed is fills follows = absurd (cc)
  first (characters text) ls m shaped closed is fills follows = absurd (cc)
  first (system_call text) ls m shaped closed is fills follows = absurd (cc)

  pub all_stood : (ls : List LineRead) (m : ModuleFields) → AreShaped ls → is_framed (actions_of ls) ≡ true → first_start (actions_of ls) ≡ Some m →
      list_all (is_filled all) (placed_from 0 ls) ≡ true → Follows (placed_from 0 ls) m → Stood 0 (placed_from 0 ls)
  all_stood [] m shaped framed is fills follows = absurd (cc)
  all_stood (skipped ∷ ls) m shaped framed is fills follows = all_stood ls m shaped.1 framed is fills follows
  all_stood (broken name ∷ ls) m shaped framed is fills follows = all_stood ls m shaped.1 framed is fills follows
  all_stood (stated s ∷ ls) m shaped framed is fills follows = first s.action ls m shaped.1 framed is fills follows
