-- Well typed expressions whose literals are words are typed as the laws of numbers ask.
use Rattle.std.specs.Prelude.{Bool, List, [], ◌∷◌, Option, None, Some, IfSome}
use Rattle.std.specs.List.{AllByRecursion}
use Rattle.ckc_base.specs.declared.arithmetic.Mode.{Mode}
use Rattle.ckc_types.specs.declared.types.CType.{CType}
use Rattle.ckc_types.specs.declared.types.Structs.{Structs}
use Rattle.ckc_syntax.specs.declared.tree.Init.TheVariants as init
use Rattle.ckc_syntax.specs.declared.tree.Act.{Act-F, out-Act}
use Rattle.ckc_syntax.specs.declared.tree.Name.{Name}
use Rattle.ckc_syntax.specs.declared.tree.Node.{Node-F, out-Node}
use Rattle.ckc_typed.specs.declared.environment.Globals.{Globals}
use Rattle.ckc_typed.specs.declared.typed.Note.{Note}
use Rattle.ckc_typed.specs.Trees.{NotedExpr, NotedLayer, NotedInit, NotedAct, NotedStmt}
use Rattle.ckc_typed.specs.Environment.{variable_declared}
use Rattle.ckc_typed.specs.Types.{type_written}
use Rattle.ckc_typed_welltyped.specs.Expressions.{IsNoted, WellTypedExpr}
use Rattle.ckc_typed_welltyped.specs.Declarations.{WellTypedInit, StartsLocal}
use Rattle.ckc_typed_welltyped.specs.Statements.{act_rows, WellTypedStmt}
use Rattle.ckc_typed_welltyped.specs.Parts.{StmtByParts}
use Rattle.ckc_typed_welltyped.proofs.ByParts.{stmt_by_parts}
use Rattle.ckc_blame_sound.specs.Settings.{Setting}
use Rattle.ckc_blame_sound.specs.Words.{IsWordLiteral, HasWord, HasWords, HasWordsInit, HasWordsSides, HasWordsAct}
use Rattle.ckc_blame_sound.specs.Typed.{IsWordNode, HasRow, IsTyped, IsTypedIf, IsTypedInit, AreTypedSides, IsTypedAct, IsTypedStmt}
use Rattle.ckc_blame_sound.specs.Numbered.{HaveTypes, IsKnownIn}
use Rattle.ckc_blame_sound.proofs.Every.{ExprLayer, each_follows}
use Rattle.ckc_blame_sound.proofs.Sizes.{sizes_are_words}

word_node : (structs : Structs) (n : NotedLayer) → IsWordLiteral n → IsWordNode structs n
word_node structs (Node-F.Number n unsigned) h = h
word_node structs (Node-F.Size w) h = sizes_are_words structs (type_written w)
word_node structs n h = tt

row_follows : (globals : Globals) (s : Setting) (mode : Mode) (x : ExprLayer) → IsNoted globals s.variables mode x → HasWord x → HasRow globals s x
row_follows globals s mode x n w = record { mode = mode; row = n.row; bare = λ i. n.range; word = word_node s.frame.structs (out-Node Name Note x.node) w }

pub expressions_are_typed : (globals : Globals) (s : Setting) (mode : Mode) (e : NotedExpr) → WellTypedExpr globals s.variables mode e → HasWords e → IsTyped globals s e
expressions_are_typed globals s mode e = each_follows (IsNoted globals s.variables mode) HasWord (HasRow globals s) (row_follows globals s mode) e

init_typed : (globals : Globals) (s : Setting) (mode : Mode) (t : CType) (i : NotedInit) → WellTypedInit globals s.variables mode i → StartsLocal t i → HasWordsInit i → IsTypedInit globals s i
init_typed globals s mode t init.Nothing w starts h = tt
init_typed globals s mode t (init.One e) w starts h = expressions_are_typed globals s mode e w h
init_typed globals s mode t (init.Many es) w starts h = starts

sides_typed : (globals : Globals) (s : Setting) (result : CType) (x : Act-F Name Note NotedAct NotedStmt) (mode : Mode) (looped : Bool)
    → act_rows globals s.variables result (WellTypedStmt globals s.variables result) x mode looped → HasWordsSides x → AreTypedSides globals s x
sides_typed globals s result (Act-F.Assign e f) mode looped row h = (expressions_are_typed globals s mode e row.left h.0, expressions_are_typed globals s mode f row.right h.1)
sides_typed globals s result x mode looped row h = tt

parts_typed : (globals : Globals) (s : Setting) (result : CType) (ss : List NotedStmt) (mode : Mode) (looped : Bool) → AllByRecursion (λ st. WellTypedStmt globals s.variables result st mode looped) ss
    → AllByRecursion (λ (st : NotedStmt). HasWordsSides (out-Act Name Note st.body)) ss → AllByRecursion (λ (st : NotedStmt). AreTypedSides globals s (out-Act Name Note st.body)) ss
parts_typed globals s result [] mode looped w h = tt
parts_typed globals s result (st ∷ ss) mode looped w h =
    let by : StmtByParts globals s.variables result st mode looped = (stmt_by_parts globals s.variables result st mode looped).0 w.0 in
    (sides_typed globals s result (out-Act Name Note st.body) mode looped by.row h.0, parts_typed globals s result ss mode looped w.1 h.1)

act_typed : (globals : Globals) (s : Setting) (result : CType) (a : Act-F Name Note NotedAct NotedStmt) (mode : Mode) (looped : Bool) → HaveTypes s.frame s.variables
    → act_rows globals s.variables result (WellTypedStmt globals s.variables result) a mode looped → HasWordsAct a → IsKnownIn s.variables a → IsTypedAct globals s a
act_typed globals s result (Act-F.Assign e f) mode looped types row h known = sides_typed globals s result (Act-F.Assign e f) mode looped row h
act_typed globals s result (Act-F.Local d) mode looped types row h known = (
  init_typed globals s mode (type_written d.ctype) d.init row.parts.init row.starts h,
  λ k l is at. types (variable_declared d) k l known is at,
)
act_typed globals s result (Act-F.Call e) mode looped types row h known = expressions_are_typed globals s mode e row h
act_typed globals s result (Act-F.Return None) mode looped types row h known = tt
act_typed globals s result (Act-F.Return (Some e)) mode looped types row h known = expressions_are_typed globals s mode e row.0 h
act_typed globals s result (Act-F.Check e) mode looped types row h known = expressions_are_typed globals s mode e row.0 h
act_typed globals s result (Act-F.Bundle ss) mode looped types row h known = parts_typed globals s result ss mode looped row h
act_typed globals s result a mode looped types row h known = tt

pub statements_are_typed : (globals : Globals) (s : Setting) (result : CType) (st : NotedStmt) (mode : Mode) (looped : Bool) → HaveTypes s.frame s.variables
    → StmtByParts globals s.variables result st mode looped → HasWordsAct (out-Act Name Note st.body) → IsKnownIn s.variables (out-Act Name Note st.body) → IsTypedStmt globals s st
statements_are_typed globals s result st mode looped types w h known = act_typed globals s result (out-Act Name Note st.body) mode looped types w.row h known

-- a condition, which may be left out
pub conditions_are_typed : (globals : Globals) (s : Setting) (mode : Mode) (e : Option NotedExpr) → IfSome e (WellTypedExpr globals s.variables mode) → IfSome e HasWords → IsTypedIf globals s e
conditions_are_typed globals s mode None w h = tt
conditions_are_typed globals s mode (Some e) w h = expressions_are_typed globals s mode e w h
