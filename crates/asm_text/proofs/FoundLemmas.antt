-- What the searches of the pages say of the search of the opcode map.
use Rattle.std.proofs.Common.{◌≡◌, ℕ, true, Option, Some, None, List, sym}
use Rattle.std.specs.Prelude.{option_map, IfSome, IfNone}
use Rattle.cpu_model.specs.declared.instruction.Page.{Page}
use Rattle.cpu_model.specs.declared.instruction.Page.TheVariants.{Base, Ten, Eleven}
use Rattle.cpu_model.specs.Table.{row}
use Rattle.asm_model.specs.declared.operand.Mark.{Mark}
use Rattle.asm_model.specs.Instructions.{entry_of}
use Rattle.asm_model.proofs.EntryOf.{Matches, NoneOn, entry_matched, entry_none}
use Rattle.asm_text.specs.declared.entry.Found.{Found}
use Rattle.asm_text.specs.Views.{entry_found}

module _ (word : List ℕ) (m : Mark) where
  pub found_is : (f : Found) → row f.page f.opcode ≡ Some f.row → Matches f.row word m ≡ true → Some (entry_found f) ≡ entry_of word m
  found_is f is matches = sym (entry_matched f.page f.opcode f.row word m is matches)

  all_none : NoneOn Base word m → NoneOn Ten word m → NoneOn Eleven word m → (page : Page) → NoneOn page word m
  all_none base ten eleven Base = base
  all_none base ten eleven Ten = ten
  all_none base ten eleven Eleven = eleven

  pub last_is : (result : Option Found) → IfSome result (λ f. row f.page f.opcode ≡ Some f.row) → IfSome result (λ f. Matches f.row word m ≡ true) → IfNone result (NoneOn Eleven word m) →
      NoneOn Base word m → NoneOn Ten word m → option_map entry_found result ≡ entry_of word m
  last_is (Some f) is matches none base ten = found_is f is matches
  last_is None is matches none base ten = sym (entry_none word m (all_none base ten none))
