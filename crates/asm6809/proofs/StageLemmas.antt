-- Statements read one after another.
use Rattle.std.proofs.Common.{◌≡◌, ℕ, suc, ◌+◌, ◌<◌, ◌≤◌, Bool, false, Option, Some, None, List, [], ◌∷◌, length, drop, map, get_or, refl, ap, sym, ◌∙◌, add-one, drop-cons}
use Rattle.std.specs.Option.{option_map_or}
use Rattle.std.proofs.lemmas.List.{drop_all}
use Rattle.asm_model.specs.Statements.{Action, label_alone, instruction, module_start, module_end, equals, byte_list, word_list, characters, system_call, Statement, LineRead, skipped, broken, stated}
use Rattle.asm6809.specs.declared.module.Stage.{Stage}
use Rattle.asm6809.specs.declared.module.Stage.TheVariants.{Before, Within, Behind}
use Rattle.asm_lines.specs.declared.line.Line.{Line}
use Rattle.asm_lines.specs.declared.line.Line.TheVariants.{Skipped, Broken, Stated}
use Rattle.asm_lines.specs.declared.line.Statement.{Statement as StatementCode}
use Rattle.asm_lines.specs.Lines.{line_said}
use Rattle.asm_model.specs.Statements.{ModuleFields}
use Rattle.asm6809.specs.Assembled.{actions_of, first_start, start_of, is_empty, is_framed, is_closed}
use Rattle.asm6809.specs.Stages.{stage_behind, stage_after}

-- the remaining statements are valid at a stage
abbrev pub is_rest : Stage → List Action → Bool
is_rest Before actions = is_framed actions
is_rest Within actions = is_closed actions
is_rest Behind actions = is_empty actions

pub rest-next : (stage : Stage) (action : Action) (actions : List Action) → is_rest stage (action ∷ actions) ≡ option_map_or (λ s. is_rest s actions) (stage_behind stage action) false
rest-next Before label_alone actions = refl
rest-next Before (instruction s) actions = refl
rest-next Before (module_start m) actions = refl
rest-next Before module_end actions = refl
rest-next Before (equals text) actions = refl
rest-next Before (byte_list texts) actions = refl
rest-next Before (word_list texts) actions = refl
rest-next Before (characters text) actions = refl
rest-next Before (system_call text) actions = refl
rest-next Within label_alone actions = refl
rest-next Within (instruction s) actions = refl
rest-next Within (module_start m) actions = refl
rest-next Within module_end actions = refl
rest-next Within (equals text) actions = refl
rest-next Within (byte_list texts) actions = refl
rest-next Within (word_list texts) actions = refl
rest-next Within (characters text) actions = refl
rest-next Within (system_call text) actions = refl
rest-next Behind action actions = refl

-- the actions of the lines from a place on
abbrev pub actions_at : {A : Type 0} → (A → LineRead) → List A → ℕ → List Action
actions_at said lines place = actions_of (map said (drop place lines))

abbrev pub with_line : LineRead → List Action → List Action
with_line skipped actions = actions
with_line (broken name) actions = actions
with_line (stated s) actions = s.action ∷ actions

actions-cons : (l : LineRead) (ls : List LineRead) → actions_of (l ∷ ls) ≡ with_line l (actions_of ls)
actions-cons skipped ls = refl
actions-cons (broken name) ls = refl
actions-cons (stated s) ls = refl

pub actions-next : {A : Type 0} (said : A → LineRead) (lines : List A) (place : ℕ) (d : A) → place < length lines →
    actions_at said lines place ≡ with_line (said (get_or lines place d)) (actions_at said lines (place + 1))
actions-next said lines place d below =
    ap (λ ls. actions_of (map said ls)) (drop-cons lines place d below)
    ∙ actions-cons (said (get_or lines place d)) (map said (drop (suc place) lines))
    ∙ ap (λ n. with_line (said (get_or lines place d)) (actions_at said lines n)) (sym (add-one place))

pub actions-end : {A : Type 0} (said : A → LineRead) (lines : List A) (place : ℕ) → length lines ≤ place → actions_at said lines place ≡ []
actions-end said lines place past = ap (λ ls. actions_of (map said ls)) (drop_all place lines past)

rest-line : (stage : Stage) (l : LineRead) (actions : List Action) → is_rest stage (with_line l actions) ≡ option_map_or (λ s. is_rest s actions) (stage_after stage l) false
rest-line stage skipped actions = refl
rest-line stage (broken name) actions = refl
rest-line stage (stated s) actions = rest-next stage s.action actions

pub rest-end : (stage : Stage) (actions : List Action) (whole : Bool) → actions ≡ [] → is_rest stage actions ≡ whole → is_rest stage [] ≡ whole
rest-end stage actions whole none rest = sym (ap (is_rest stage) none) ∙ rest

module _ {A : Type 0} (said : A → LineRead) (lines : List A) (place : ℕ) (d : A) (below : place < length lines) (stage : Stage) (whole : Bool) where
  pub stage-next : (next : Stage) → stage_after stage (said (get_or lines place d)) ≡ Some next → is_rest stage (actions_at said lines place) ≡ whole →
      is_rest next (actions_at said lines (place + 1)) ≡ whole
  stage-next next is rest =
      sym (ap (is_rest stage) (actions-next said lines place d below) ∙ rest-line stage (said (get_or lines place d)) (actions_at said lines (place + 1))
      ∙ ap (λ o. option_map_or (λ s. is_rest s (actions_at said lines (place + 1))) o false) is) ∙ rest

  pub stage-none : stage_after stage (said (get_or lines place d)) ≡ None → is_rest stage (actions_at said lines place) ≡ whole → false ≡ whole
  stage-none is rest =
      sym (ap (is_rest stage) (actions-next said lines place d below) ∙ rest-line stage (said (get_or lines place d)) (actions_at said lines (place + 1))
      ∙ ap (λ o. option_map_or (λ s. is_rest s (actions_at said lines (place + 1))) o false) is) ∙ rest

-- a line without a statement
pub not-stated : (line : Line) → ((s : StatementCode) → line ≡ Stated s → ⊥) → (actions : List Action) → with_line (line_said line) actions ≡ actions
not-stated Skipped other actions = refl
not-stated (Broken name) other actions = refl
not-stated (Stated s) other actions = absurd (other s refl)

module _ {A : Type 0} (said : A → LineRead) (lines : List A) (place : ℕ) (d : A) (below : place < length lines) (whole : Option ModuleFields)
    (rest : first_start (actions_at said lines place) ≡ whole) where
  pub start-here : (s : Statement) → said (get_or lines place d) ≡ stated s → start_of s.action ≡ whole
  start-here s is =
      sym (ap first_start (actions-next said lines place d below) ∙ ap (λ l. first_start (with_line l (actions_at said lines (place + 1)))) is) ∙ rest

  pub start-next : with_line (said (get_or lines place d)) (actions_at said lines (place + 1)) ≡ actions_at said lines (place + 1) →
      first_start (actions_at said lines (place + 1)) ≡ whole
  start-next other = sym (ap first_start (actions-next said lines place d below ∙ other)) ∙ rest
