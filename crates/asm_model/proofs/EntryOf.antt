-- The search for the entry of a word.
use Rattle.std.proofs.Common.{◌≡◌, ℕ, ◌<◌, ◌==◌, ◌&&◌, Bool, true, false, Some, None, List, [], ◌∷◌, inl, inr, map, refl, ap, sym, ◌∙◌, arith}
use Rattle.std.specs.Prelude.{nat_lt, IsTrue, ◌↔◌}
use Rattle.std.specs.List.{find}
use Rattle.std.specs.Str.{bytes_eq, str_to_ascii_lowercase}
use Rattle.std.proofs.lemmas.Bool.{and_parts, eqb-true, ltb-true}
use Rattle.cpu_model.specs.declared.rows.Row.{Row}
use Rattle.cpu_model.specs.declared.instruction.Page.{Page}
use Rattle.cpu_model.specs.Table.{row}
use Rattle.cpu_model.specs.BasePage.{base_page}
use Rattle.cpu_model.specs.TenPage.{ten_page}
use Rattle.cpu_model.specs.ElevenPage.{eleven_page}
use Rattle.asm_model.specs.declared.operand.Mark.{Mark}
use Rattle.asm_model.specs.Characters.{same_word}
use Rattle.asm_model.specs.Mnemonics.{row_word}
use Rattle.asm_model.specs.Operands.{fits}
use Rattle.asm_model.specs.Instructions.{Entry, entry, line_of, is_entry, opcode_map, entry_of}
use Rattle.asm_model.proofs.Entries.{IsIn, on_elements, entry_found}

bytes_same : (xs ys : List ℕ) → bytes_eq xs ys ≡ true → xs ≡ ys
bytes_same [] [] is = refl
bytes_same [] (y ∷ ys) is = absurd (cc)
bytes_same (x ∷ xs) [] is = absurd (cc)
bytes_same (x ∷ xs) (y ∷ ys) is =
    let both = and_parts (x == y) (bytes_eq xs ys) is in
    ap (λ c. c ∷ xs) (eqb-true x y both.0) ∙ ap (λ rest. y ∷ rest) (bytes_same xs ys both.1)

bytes_refl : (xs : List ℕ) → bytes_eq xs xs ≡ true
bytes_refl [] = refl
bytes_refl (x ∷ xs) = let first : (x == x) ≡ true = grind arith in simp (first, bytes_refl xs)

by_test : (r t : Bool) → (IsTrue r → t ≡ true) → (t ≡ true → IsTrue r) → r ≡ t
by_test true true f g = refl
by_test true false f g = absurd (let h : false ≡ true = f refl in cc)
by_test false true f g = absurd (let h : false ≡ true = g refl in cc)
by_test false false f g = refl

-- what std's comparison of words answers is `same_word`
pub same_answer : (r : Bool) (a b : List ℕ) → (IsTrue r ↔ (str_to_ascii_lowercase a ≡ str_to_ascii_lowercase b)) → r ≡ same_word a b
same_answer r a b is =
    by_test r (same_word a b) (λ t. ap (bytes_eq (str_to_ascii_lowercase a)) (sym (is.0 t)) ∙ bytes_refl (str_to_ascii_lowercase a))
    (λ t. is.1 (bytes_same _ _ t))

-- the row of this word and mark
abbrev pub Matches : Row → List ℕ → Mark → Bool
Matches r word m = same_word (row_word r) word && fits r m

pub entry_matched : (page : Page) (opcode : ℕ) (r : Row) (word : List ℕ) (m : Mark) → row page opcode ≡ Some r → Matches r word m ≡ true →
    entry_of word m ≡ Some (entry page (line_of opcode r))
unfolding entry_of
entry_matched page opcode r word m is matches =
    let both = and_parts (same_word (row_word r) word) (fits r m) matches in
    let same : str_to_ascii_lowercase (row_word r) ≡ str_to_ascii_lowercase word = bytes_same _ _ both.0 in
    ap (λ (low : List ℕ). find (λ (e : Entry). bytes_eq (str_to_ascii_lowercase (row_word e.line.row)) low && fits e.line.row m) opcode_map) (sym same)
    ∙ entry_found page opcode r is m both.1

find_none : {A : Type 0} (p : A → Bool) (xs : List A) → ((x : A) → IsIn x xs → p x ≡ false) → find p xs ≡ None
find_none p [] fails = refl
find_none p (x ∷ xs) fails =
    let first : p x ≡ false = fails x (inl refl) in
    let rest : find p xs ≡ None = find_none p xs (λ y is. fails y (inr is)) in
    simp (first, rest)

pub rows_are : map (λ e. row e.page e.line.opcode) opcode_map ≡ map (λ e. Some e.line.row) opcode_map
unfolding opcode_map row base_page ten_page eleven_page
rows_are = refl

opcodes_below : map (λ e. nat_lt e.line.opcode 256) opcode_map ≡ map (λ e. true) opcode_map
unfolding opcode_map base_page ten_page eleven_page
opcodes_below = refl

-- no opcode of the page stands for a row of this word and mark
abbrev pub NoneOn : Page → List ℕ → Mark → Type 0
NoneOn page word m = (opcode : ℕ) → opcode < 256 → (r : Row) → row page opcode ≡ Some r → Matches r word m ≡ false

pub entry_none : (word : List ℕ) (m : Mark) → ((page : Page) → NoneOn page word m) → entry_of word m ≡ None
unfolding entry_of
entry_none word m fails =
    find_none (is_entry word m) opcode_map (λ e is.
    fails e.page e.line.opcode (ltb-true _ _ (on_elements (λ e. nat_lt e.line.opcode 256) (λ e. true) e opcode_map opcodes_below is))
    e.line.row (on_elements (λ e. row e.page e.line.opcode) (λ e. Some e.line.row) e opcode_map rows_are is))
