-- Each row of the opcode map is the one of its word, for each operand that it may have.
use Rattle.std.proofs.Common.{◌≡◌, ℕ, ◌==◌, Bool, true, false, Option, Some, List, [], ◌∷◌, ◌++◌, ◌⊎◌, inl, inr, filter, map, refl, ap, ◌∙◌, arith}
use Rattle.std.specs.Prelude.{if◌then◌else◌}
use Rattle.std.specs.List.{list_any}
use Rattle.cpu_model.specs.declared.rows.Row.{Row}
use Rattle.cpu_model.specs.declared.instruction.Page.{Page}
use Rattle.cpu_model.specs.declared.instruction.Page.TheVariants.{Base, Ten, Eleven}
use Rattle.cpu_model.specs.Line.{Line, row_among}
use Rattle.cpu_model.specs.Table.{row, page_lines}
use Rattle.cpu_model.specs.BasePage.{base_page}
use Rattle.cpu_model.specs.TenPage.{ten_page}
use Rattle.cpu_model.specs.ElevenPage.{eleven_page}
use Rattle.asm_model.proofs.Spaces.{is_blank}
use Rattle.asm_model.specs.Mnemonics.{row_word}
use Rattle.asm_model.specs.declared.operand.Mark.{Mark}
use Rattle.asm_model.specs.declared.operand.Mark.TheVariants.{Immediate, Indexed, Direct, Address}
use Rattle.asm_model.specs.Operands.{fits}
use Rattle.asm_model.specs.Instructions.{Entry, entry, line_of, opcode_map, entry_of}

abbrev fitting : Mark → List Entry
fitting mark = filter (λ e. fits e.line.row mark) opcode_map

abbrev found : Mark → Entry → Option Entry
found mark e = entry_of (row_word e.line.row) mark

found_immediate : map (found Immediate) (fitting Immediate) ≡ map Some (fitting Immediate)
unfolding opcode_map entry_of base_page ten_page eleven_page
found_immediate = refl

found_indexed : map (found Indexed) (fitting Indexed) ≡ map Some (fitting Indexed)
unfolding opcode_map entry_of base_page ten_page eleven_page
found_indexed = refl

found_direct : map (found Direct) (fitting Direct) ≡ map Some (fitting Direct)
unfolding opcode_map entry_of base_page ten_page eleven_page
found_direct = refl

found_address : map (found Address) (fitting Address) ≡ map Some (fitting Address)
unfolding opcode_map entry_of base_page ten_page eleven_page
found_address = refl

all_found : (mark : Mark) → map (found mark) (fitting mark) ≡ map Some (fitting mark)
all_found Immediate = found_immediate
all_found Indexed = found_indexed
all_found Direct = found_direct
all_found Address = found_address

words_free : map (λ e. list_any is_blank (row_word e.line.row)) opcode_map ≡ map (λ e. false) opcode_map
unfolding opcode_map base_page ten_page eleven_page
words_free = refl

-- ---- elements

abbrev pub IsIn : {A : Type 0} → A → List A → Type 0
IsIn x [] = ⊥
IsIn x (y ∷ ys) = (x ≡ y) ⊎ IsIn x ys

module _ {A B : Type 0} (f g : A → B) where
  pub on_elements : (x : A) (xs : List A) → map f xs ≡ map g xs → IsIn x xs → f x ≡ g x
  on_elements x [] e is = absurd is
  on_elements x (y ∷ ys) e (inl same) = let first : f y ≡ g y = cc in rw same first
  on_elements x (y ∷ ys) e (inr is) = on_elements x ys (let others : map f ys ≡ map g ys = cc in others) is

filter_behind : {A : Type 0} (b : Bool) (x y : A) (rest : List A) → IsIn x rest → IsIn x (if b then y ∷ rest else rest)
filter_behind true x y rest is = inr is
filter_behind false x y rest is = is

is_in_filter : {A : Type 0} (p : A → Bool) (x : A) (xs : List A) → p x ≡ true → IsIn x xs → IsIn x (filter p xs)
is_in_filter p x [] passes is = is
is_in_filter p x (y ∷ ys) passes (inl same) = let here : p y ≡ true = rw same at passes in simp here (inl same)
is_in_filter p x (y ∷ ys) passes (inr is) = filter_behind (p y) x y (filter p ys) (is_in_filter p x ys passes is)

is_in_map : {A B : Type 0} (f : A → B) (x : A) (xs : List A) → IsIn x xs → IsIn (f x) (map f xs)
is_in_map f x [] is = is
is_in_map f x (y ∷ ys) (inl same) = inl (ap f same)
is_in_map f x (y ∷ ys) (inr is) = inr (is_in_map f x ys is)

is_in_front : {A : Type 0} (x : A) (xs ys : List A) → IsIn x xs → IsIn x (xs ++ ys)
is_in_front x [] ys is = absurd is
is_in_front x (z ∷ xs) ys (inl same) = inl same
is_in_front x (z ∷ xs) ys (inr is) = inr (is_in_front x xs ys is)

is_in_back : {A : Type 0} (x : A) (xs ys : List A) → IsIn x ys → IsIn x (xs ++ ys)
is_in_back x [] ys is = is
is_in_back x (z ∷ xs) ys is = inr (is_in_back x xs ys is)

-- ---- the entry of a row

among-step : (l : Line) (ls : List Line) (opcode : ℕ) (r : Row) (b : Bool) → (l.opcode == opcode) ≡ b → (if b then Some l.row else row_among ls opcode) ≡ Some r →
    (row_among ls opcode ≡ Some r → IsIn (line_of opcode r) ls) → IsIn (line_of opcode r) (l ∷ ls)
among-step l ls opcode r true same is others =
    let code : opcode ≡ l.opcode = grind arith in
    let its : r ≡ l.row = cc in
    inl (ap (λ o. line_of o r) code ∙ ap (line_of l.opcode) its)
among-step l ls opcode r false same is others = inr (others is)

among : (ls : List Line) (opcode : ℕ) (r : Row) → row_among ls opcode ≡ Some r → IsIn (line_of opcode r) ls
among [] opcode r is = absurd (cc)
among (l ∷ ls) opcode r is = among-step l ls opcode r (l.opcode == opcode) refl is (among ls opcode r)

is_entry : (page : Page) (opcode : ℕ) (r : Row) → row page opcode ≡ Some r → IsIn (entry page (line_of opcode r)) opcode_map
unfolding row opcode_map
is_entry Base opcode r is = is_in_front _ (map (entry Base) (page_lines Base)) _ (is_in_map (entry Base) _ _ (among (page_lines Base) opcode r is))
is_entry Ten opcode r is =
    is_in_back _ (map (entry Base) (page_lines Base)) _
    (is_in_front _ (map (entry Ten) (page_lines Ten)) _ (is_in_map (entry Ten) _ _ (among (page_lines Ten) opcode r is)))
is_entry Eleven opcode r is =
    is_in_back _ (map (entry Base) (page_lines Base)) _
    (is_in_back _ (map (entry Ten) (page_lines Ten)) _ (is_in_map (entry Eleven) _ _ (among (page_lines Eleven) opcode r is)))

module _ (page : Page) (opcode : ℕ) (r : Row) (is : row page opcode ≡ Some r) where
  pub entry_found : (mark : Mark) → fits r mark ≡ true → entry_of (row_word r) mark ≡ Some (entry page (line_of opcode r))
  entry_found mark passes =
      on_elements (found mark) Some (entry page (line_of opcode r)) (fitting mark) (all_found mark)
      (is_in_filter (λ e. fits e.line.row mark) (entry page (line_of opcode r)) opcode_map passes (is_entry page opcode r is))

  pub word_free : list_any is_blank (row_word r) ≡ false
  word_free = on_elements (λ e. list_any is_blank (row_word e.line.row)) (λ e. false) (entry page (line_of opcode r)) opcode_map words_free (is_entry page opcode r is)
