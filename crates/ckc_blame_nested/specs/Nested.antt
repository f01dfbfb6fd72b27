-- Trees in which each statement stands where the grammar lets it (ISO C11, 6.8).
use Rattle.std.specs.Prelude.{◌≡◌, Bool, true, false, not, ◌&&◌, List, Option, None, Some}
use Rattle.std.specs.List.{Contains}
use Rattle.ckc_syntax.specs.Inside.{all_have, inside_each}
use Rattle.ckc_typed_welltyped.specs.Jumps.{jumps_out}
use Rattle.ckc_syntax.specs.declared.tree.Act.{Act, Act-F, fold-Act}
use Rattle.ckc_syntax.specs.declared.tree.Head.{Head}
use Rattle.ckc_syntax.specs.declared.tree.Item.{Item}
use Rattle.ckc_syntax.specs.declared.tree.Item.TheVariants as item
use Rattle.ckc_syntax.specs.declared.tree.Stmt.{Stmt, Stmt-F, fold-Stmt}

-- Whether each statement in a statement stands where the grammar lets it (a declaration stands in a block or begins a
-- `for`, and is no branch and no body), whether the statement is a declaration, and whether a `break` or a `continue`
-- leaves it.
pub record Nesting : Type 0 where
  pub fine : Bool
  pub declares : Bool
  pub jumps : Bool

-- a branch or a body
abbrev pub is_branch : Nesting → Bool
is_branch s = s.fine && not s.declares

-- the same of a branch that may be left out
abbrev pub is_branch_if : Option Nesting → Bool
is_branch_if None = true
is_branch_if (Some s) = is_branch s

-- what a `for` begins with: nothing, or a statement that `break` and `continue` do not leave
abbrev pub begins : Option Nesting → Bool
begins None = true
begins (Some s) = s.fine && not s.jumps

-- the step of a `for`: nothing, or such a statement that is no declaration
abbrev pub steps : Option Nesting → Bool
steps None = true
steps (Some s) = is_branch s && not s.jumps

-- whether the statements in what a statement does stand where they may
abbrev pub is_fine : {N A : Type 0} → Act-F N A Nesting Nesting → Bool
is_fine (Act-F.Block m ss) = inside_each all_have (λ (s : Nesting). s.fine) ss
is_fine (Act-F.If e s t) = is_branch s && is_branch_if t
is_fine (Act-F.While e s) = is_branch s
is_fine (Act-F.For s e t body) = begins s && (steps t && is_branch body)
is_fine _ = true

abbrev pub is_declaration : {N A : Type 0} → Act-F N A Nesting Nesting → Bool
is_declaration (Act-F.Local d) = true
is_declaration _ = false

abbrev pub nesting_by : {N A : Type 0} → Act-F N A Nesting Nesting → Nesting
nesting_by a = record { fine = is_fine a; declares = is_declaration a; jumps = jumps_out (λ (s : Nesting). s.jumps) a }

-- a statement is placed as what it does
abbrev pub nesting_in : {N A : Type 0} → Stmt-F N A Nesting Nesting → Nesting
nesting_in s = s.body

abbrev pub nesting_of_act : {N A : Type 0} → Act N A → Nesting
nesting_of_act {N} {A} = fold-Act N A Nesting Nesting nesting_by nesting_in

abbrev pub nesting_of : {N A : Type 0} → Stmt N A → Nesting
nesting_of {N} {A} = fold-Stmt N A Nesting Nesting nesting_by nesting_in

-- In the body of each function of a text each statement stands where the grammar lets it.
abbrev pub AreNested : {N A : Type 0} → List (Item N A) → Type 0
AreNested {N} {A} items =
    (head : Head N A) (body : Stmt N A) → Contains items (item.Function head body) → (nesting_of body).fine ≡ true
