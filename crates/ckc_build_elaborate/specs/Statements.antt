-- What statements with parts mean (ISO C11, 6.8; Checked C specification 0.9, section 3, on bundled blocks).
use Rattle.std.specs.Prelude.{ℕ, ◌+◌, List, [], ◌∷◌, ◌++◌, Option, None, Some}
use Rattle.ckc_base.specs.declared.places.Pos.{Pos}
use Rattle.ckc_base.specs.declared.arithmetic.Mode.{Mode}
use Rattle.ckc_types.specs.declared.types.CType.{CType}
use Rattle.ckc_syntax.specs.Inside.{summed, inside_if, inside_act}
use Rattle.ckc_syntax.specs.declared.tree.Name.{Name}
use Rattle.ckc_syntax.specs.declared.tree.Act.{Act-F, fold-Act}
use Rattle.ckc_syntax.specs.declared.tree.Stmt.{Stmt-F, fold-Stmt}
use Rattle.ckc_typed.specs.declared.environment.Variable.{Variable}
use Rattle.ckc_typed.specs.declared.typed.Note.{Note}
use Rattle.ckc_typed.specs.declared.typed.Typed.{Typed}
use Rattle.ckc_typed.specs.Trees.{NotedExpr, NotedAct, NotedStmt}
use Rattle.ckc_source.specs.declared.stmt.Spot.{Spot}
use Rattle.ckc_source.specs.Code.{Target, Right, Code, End, Bundle, If, Loop, Break, Continue, Return, Check, chained}
use Rattle.ckc_build_values.specs.Expressions.{expr_elaborated, literals_of}
use Rattle.ckc_build_elaborate.specs.Lists.{numbered}
use Rattle.ckc_build_elaborate.specs.Literals.{literals_of_value, literals_of_decl}
use Rattle.ckc_build_elaborate.specs.Steps.{Statements, spot, nowhere, destination_of, target_of, is_terminated, right_of, assigned, declared, returned, condition}

-- What a part of a function means in a typed text, with the variables of the function and the type of its result,
-- if the next string literal has this number among the static objects.
abbrev pub Meaning : Type 0 → Type 0
Meaning A = Typed → List Variable → CType → ℕ → A

-- A statement: what it becomes, what it assigns in a bundle, and how many string literals it has.
pub record Part : Type 0 where
  pub code : Meaning Statements
  pub assigns : Typed → List Variable → ℕ → List (Target × Right)
  pub literals : ℕ

-- what is done at the place and in the mode of a statement
pub record ActPart : Type 0 where
  pub code : Pos → Mode → Meaning Statements
  pub assigns : Typed → List Variable → ℕ → List (Target × Right)
  pub literals : ℕ

-- a single statement
abbrev pub one : (Code → Code) → Statements
one f = f ∷ []

-- statements with none after them
abbrev pub alone : Statements → Code
alone ss = chained ss End

-- what a statement becomes that may be left out, as after `else`
abbrev pub code_if : Option Part → Meaning Statements
code_if None p locals result k = []
code_if (Some s) p locals result k = s.code p locals result k

-- what the statements of a block become, one after another
abbrev pub all_code : List Part → Meaning Statements
all_code ss p locals result k = numbered (λ j s. s.code p locals result j) (λ s. s.literals) k ss

-- what the statements of a bundle assign
abbrev pub all_assigns : List Part → Typed → List Variable → ℕ → List (Target × Right)
all_assigns ss p locals k = numbered (λ j s. s.assigns p locals j) (λ s. s.literals) k ss

-- ---- string literals, in the order of the text

-- how many string literals are in a statement that may be left out, as after `else`
abbrev pub literals_if : Option Part → ℕ
literals_if = inside_if summed (λ (s : Part). s.literals)

-- how many string literals are in a statement
abbrev pub act_literals : Act-F Name Note ActPart Part → ℕ
act_literals = inside_act summed literals_of literals_of_decl (λ (s : Part). s.literals)

-- ---- the assignments of a bundle: targets and what they are assigned

-- an assignment of a bundle: its target and its right side
abbrev pub assign : Typed → List Variable → ℕ → NotedExpr → NotedExpr → Target × Right
assign p locals k e f = (target_of p locals k e, right_of p locals (k + literals_of e) (is_terminated e.note.ctype) f)

-- what a statement of a bundle assigns
abbrev pub act_assigns : Act-F Name Note ActPart Part → Typed → List Variable → ℕ → List (Target × Right)
act_assigns (Act-F.Assign e f) p locals k = assign p locals k e f ∷ []
act_assigns _ p locals k = []

-- ---- what statements become: blocks are taken apart, and a call that is a statement goes nowhere

-- the loop of a `for`
abbrev pub turns : Typed → List Variable → CType → Spot → ℕ → Option NotedExpr → Option Part → Part → Code → Code
turns p locals result s k e t body =
    Loop s (condition p locals k e) (alone (body.code p locals result (k + literals_of_value e + literals_if t)))
    (alone (code_if t p locals result (k + literals_of_value e)))

-- what a statement becomes, at a place and in a mode
abbrev pub act_code : Act-F Name Note ActPart Part → Pos → Mode → Meaning Statements
act_code (Act-F.Block m ss) at mode p locals result k = all_code ss p locals result k
act_code Act-F.Empty at mode p locals result k = []
act_code (Act-F.Local d) at mode p locals result k = one (declared p locals (spot at mode) k d)
act_code (Act-F.Assign e f) at mode p locals result k =
    one (assigned p locals (spot at mode) (destination_of p locals k e) (k + literals_of e) f)
act_code (Act-F.Call e) at mode p locals result k = one (assigned p locals (spot e.pos mode) nowhere k e)
act_code (Act-F.If e s t) at mode p locals result k =
    one (If (spot at mode) (expr_elaborated p locals k e) (alone (s.code p locals result (k + literals_of e)))
    (alone (code_if t p locals result (k + literals_of e + s.literals))))
act_code (Act-F.While e s) at mode p locals result k =
    one (Loop (spot at mode) (expr_elaborated p locals k e) (alone (s.code p locals result (k + literals_of e))) End)
act_code (Act-F.For s e t body) at mode p locals result k =
    code_if s p locals result k ++ one (turns p locals result (spot at mode) (k + literals_if s) e t body)
act_code (Act-F.Return e) at mode p locals result k = one (Return (spot at mode) (returned p locals result k e))
act_code Act-F.Break at mode p locals result k = one Break
act_code Act-F.Continue at mode p locals result k = one Continue
act_code (Act-F.Check e) at mode p locals result k = one (Check (spot at mode) (expr_elaborated p locals k e))
act_code (Act-F.Bundle ss) at mode p locals result k = one (Bundle (spot at mode) (all_assigns ss p locals k))

-- ---- the folds

-- what a statement means, once its place and its mode are given
abbrev pub act_parts : Act-F Name Note ActPart Part → ActPart
act_parts a = record { code = act_code a; assigns = act_assigns a; literals = act_literals a }

-- what a statement means at its own place and in its own mode
abbrev pub stmt_parts : Stmt-F Name Note ActPart Part → Part
stmt_parts s = record { code = s.body.code s.pos s.note.mode; assigns = s.body.assigns; literals = s.body.literals }

abbrev pub part_of_act : NotedAct → ActPart
part_of_act = fold-Act Name Note ActPart Part act_parts stmt_parts

-- what a statement of a typed text means
abbrev pub part_of : NotedStmt → Part
part_of = fold-Stmt Name Note ActPart Part act_parts stmt_parts

-- what a statement means
abbrev pub stmt_elaborated : Typed → List Variable → CType → ℕ → NotedStmt → Statements
stmt_elaborated p locals result k s = (part_of s).code p locals result k
