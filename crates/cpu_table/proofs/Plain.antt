-- An instruction that is read has a postbyte whose bits that do not matter are 0.
use Rattle.std.proofs.Common.{◌≡◌, ℕ, ◌<◌, Option, Some, None, List, ◌∷◌, ◌++◌, refl, ap, sym, ◌∙◌, arith, map, get_or, subst, drop}
use Rattle.std.specs.Prelude.{option_to_list, option_map, IsSomeAnd, IfSome}
use Rattle.std.specs.List.{range_with_len}
use Rattle.std.proofs.lemmas.List.{take-append-drop}
use Rattle.std.proofs.lemmas.List.FromFn.{get_or-map-range_with_len}
use Rattle.cpu_model.specs.declared.rows.Mode.{Mode}
use Rattle.cpu_model.specs.declared.rows.Mode.TheVariants.{Inherent, Immediate8, Immediate16, Direct, Indexed, Extended, Relative8, Relative16, Pair}
use Rattle.cpu_model.specs.declared.rows.Row.{Row}
use Rattle.cpu_model.specs.declared.indexing.Form.{Form}
use Rattle.cpu_model.specs.declared.indexing.Indexing.{Indexing}
use Rattle.cpu_model.specs.declared.instruction.Page.{Page}
use Rattle.cpu_model.specs.declared.instruction.Page.TheVariants.{Base, Ten, Eleven}
use Rattle.cpu_model.specs.declared.instruction.Tail.{Tail}
use Rattle.cpu_model.specs.declared.instruction.Instr.{Instr}
use Rattle.cpu_model.specs.Table.{row, postbyte, form_lines}
use Rattle.cpu_model.specs.Reading.{extent_of_form}
use Rattle.cpu_table.specs.Spelling.{HasExtent, HasOperand, IsDocumented, prefix, tail_bytes, spelling, plain_post, plain, IsPlainInstr, BeginsWithInstruction}
use Rattle.cpu_table.proofs.Classes.{AreBytes}

-- two functions that agree on the list of all bytes agree on each
on_bytes : {A : Type 0} (f g : ℕ → A) → map f (range_with_len 0 256) ≡ map g (range_with_len 0 256) → (b : ℕ) → b < 256 → f b ≡ g b
on_bytes f g e b h =
    sym (get_or-map-range_with_len f 0 256 b b (f b) h (omega arith)) ∙ ap (λ bytes. get_or bytes b (f b)) e
    ∙ get_or-map-range_with_len g 0 256 b b (f b) h (omega arith)

abbrev form_of : Option Indexing → Option Form
form_of = option_map (λ indexing. indexing.0)

same_form : (post : ℕ) → post < 256 → form_of (postbyte (plain_post post)) ≡ form_of (postbyte post)
unfolding postbyte form_lines
same_form = on_bytes (λ post. form_of (postbyte (plain_post post))) (λ post. form_of (postbyte post)) refl

plain_twice : (post : ℕ) → post < 256 → plain_post (plain_post post) ≡ plain_post post
unfolding postbyte form_lines
plain_twice = on_bytes (λ post. plain_post (plain_post post)) plain_post refl

-- what is said of the form alone goes over to a postbyte of that form
by_form : (P : Form → Type 0) (old new : Option Indexing) → form_of new ≡ form_of old → IsSomeAnd old (λ indexing. P indexing.0) →
    IsSomeAnd new (λ indexing. P indexing.0)
by_form P None new e h = absurd h
by_form P (Some old) None e h = absurd (cc)
by_form P (Some old) (Some new) e h = let same : old.0 ≡ new.0 = cc in subst P same h

operand_plain : (mode : Mode) (post : Option ℕ) (tail : Tail) → IfSome post (λ p. p < 256) → HasOperand mode post tail →
    HasOperand mode (option_map plain_post post) tail
operand_plain mode None tail k h = h
operand_plain Indexed (Some post) tail k h =
    by_form (λ form. HasExtent (extent_of_form form) tail) (postbyte post) (postbyte (plain_post post)) (same_form post k) h
operand_plain Pair (Some post) tail k h = absurd h
operand_plain Inherent (Some post) tail k h = absurd h
operand_plain Immediate8 (Some post) tail k h = absurd h
operand_plain Immediate16 (Some post) tail k h = absurd h
operand_plain Direct (Some post) tail k h = absurd h
operand_plain Extended (Some post) tail k h = absurd h
operand_plain Relative8 (Some post) tail k h = absurd h
operand_plain Relative16 (Some post) tail k h = absurd h

row_plain : (found : Option Row) (post : Option ℕ) (tail : Tail) → IfSome post (λ p. p < 256) →
    IsSomeAnd found (λ r. HasOperand r.1 post tail) → IsSomeAnd found (λ r. HasOperand r.1 (option_map plain_post post) tail)
row_plain None post tail k h = absurd h
row_plain (Some r) post tail k h = operand_plain r.1 post tail k h

post_twice : (post : Option ℕ) → IfSome post (λ p. p < 256) → option_map plain_post (option_map plain_post post) ≡ option_map plain_post post
post_twice None k = refl
post_twice (Some post) k = ap Some (plain_twice post k)

-- a postbyte that stands in bytes is one
post_byte : (page : Page) (opcode : ℕ) (post : Option ℕ) (tail after : List ℕ) →
    AreBytes (prefix page ++ (opcode ∷ (option_to_list post ++ tail)) ++ after) → IfSome post (λ p. p < 256)
post_byte page opcode None tail after h = tt
post_byte Base opcode (Some post) tail after h = h.1.0
post_byte Ten opcode (Some post) tail after h = h.1.1.0
post_byte Eleven opcode (Some post) tail after h = h.1.1.0

is_plain : (i : Instr) → IsDocumented i → IfSome i.post (λ p. p < 256) → IsPlainInstr (plain i)
is_plain i d k =
    (row_plain (row i.page i.opcode) i.post i.tail k d, ap (λ post. record i { post = post }) (post_twice i.post k))

-- what is spelled at the front of bytes is plain
pub front_plain : (bytes : List ℕ) → AreBytes bytes → (i : Instr) (count : ℕ) → BeginsWithInstruction bytes i count → IsPlainInstr i
front_plain bytes h i count b =
    let written : Instr = b.spells.written in
    let front : bytes ≡ spelling written ++ drop count bytes =
    sym (take-append-drop count bytes) ∙ ap (λ front. front ++ drop count bytes) b.spells.bytes_are in
    let h' : AreBytes (spelling written ++ drop count bytes) = subst AreBytes front h in
    let k : IfSome written.post (λ p. p < 256) =
    post_byte written.page written.opcode written.post (tail_bytes written.tail) (drop count bytes) h' in
    rw b.spells.plainly (is_plain written b.spells.documented k)
