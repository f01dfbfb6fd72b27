-- Whole texts that are well typed. What a text declares is what its tree without the notes declares.
use Rattle.std.specs.Prelude.{◌≡◌, ◌≤◌, true, false, List, [], ◌∷◌, map, IfSome}
use Rattle.std.specs.List.{AllByRecursion}
use Rattle.ckc_base.specs.declared.arithmetic.Mode.{Mode}
use Rattle.ckc_base.specs.declared.arithmetic.Mode.TheVariants.{Checked, Unchecked}
use Rattle.ckc_syntax.specs.declared.tree.Item.TheVariants as item
use Rattle.ckc_syntax.specs.declared.tree.NamedText.{NamedText}
use Rattle.ckc_typed.specs.declared.environment.Globals.{Globals}
use Rattle.ckc_typed.specs.declared.environment.Variable.{Variable}
use Rattle.ckc_typed.specs.declared.typed.Typed.{Typed}
use Rattle.ckc_typed.specs.Trees.{NotedItem, NotedHead, NotedDecl, NotedStmt}
use Rattle.ckc_typed.specs.Types.{type_written}
use Rattle.ckc_typed.specs.Environment.{params_of, variables_of, variable_declared}
use Rattle.ckc_typed.specs.Layouts.{structs_of}
use Rattle.ckc_base.specs.MemoryMap.{data_start, statics_end}
use Rattle.ckc_typed.specs.Statics.{blocks, placed, end_of_blocks}
use Rattle.ckc_typed.specs.Statements.{body_mode}
use Rattle.ckc_typed.specs.Texts.{is_result_type, globals_of}
use Rattle.ckc_typed.specs.Walk.{head_mode, pragma_after}
use Rattle.ckc_typed_welltyped.specs.Noteless.{bare_decl, bare_stmt, bare_head, bare_item, without_notes}
use Rattle.ckc_typed_welltyped.specs.Expressions.{WellTypedLimits}
use Rattle.ckc_typed_welltyped.specs.Declarations.{WellTypedBare, WellTypedStatic}
use Rattle.ckc_typed_welltyped.specs.Statements.{WellTypedStmt}

-- A head has its own mode, or that of the pragma before it. Its parameters are seen in its bounds, as checked code sees
-- them. Its result is a scalar or `void`.
pub record WellTypedHead (globals : Globals) (pragma : Mode) (h : NotedHead) : Type 0 where
  pub params : AllByRecursion (WellTypedBare globals (params_of Checked (bare_head h)) (head_mode pragma h)) h.params
  pub bounds : IfSome h.bounds (WellTypedLimits globals (params_of Checked (bare_head h)) (head_mode pragma h))
  pub result : is_result_type (type_written h.result) ≡ true

-- A body sees the parameters and the locals of its function, and stands in no loop.
abbrev pub WellTypedBody : Globals → Mode → NotedHead → NotedStmt → Type 0
WellTypedBody globals pragma h body = WellTypedStmt globals (variables_of (body_mode (head_mode pragma h) body) (bare_head h) (bare_stmt body)) (type_written h.result) body (head_mode pragma h) false

abbrev pub members_seen : List NotedDecl → List Variable
members_seen members = map variable_declared (map bare_decl members)

abbrev pub WellTypedItem : Globals → Mode → NotedItem → Type 0
WellTypedItem globals pragma (item.Directive d) = Unit {0}
WellTypedItem globals pragma (item.Tag n at) = Unit {0}
WellTypedItem globals pragma (item.Struct n members at) = AllByRecursion (WellTypedBare globals (members_seen members) pragma) members
WellTypedItem globals pragma (item.Static d) = WellTypedStatic globals pragma d
WellTypedItem globals pragma (item.Proto h) = WellTypedHead globals pragma h
WellTypedItem globals pragma (item.Function h body) = WellTypedHead globals pragma h × WellTypedBody globals pragma h body

-- each under the pragma before it
abbrev pub WellTypedItems : Globals → Mode → List NotedItem → Type 0
WellTypedItems globals pragma [] = Unit {0}
WellTypedItems globals pragma (i ∷ rest) = WellTypedItem globals pragma i × WellTypedItems globals (pragma_after pragma (bare_item i)) rest

-- A text is unchecked if it has no pragma. Its structures are those that it declares, and its static objects lie in
-- their order and do not end too late.
pub record WellTyped (p : Typed) : Type 0 where
  pub items : WellTypedItems (globals_of (without_notes p.tree).items) Unchecked p.tree.items
  pub layout : p.layout ≡ structs_of (without_notes p.tree).items
  pub statics : p.statics ≡ placed p.layout data_start (blocks p.layout p.tree.items)
  pub ends : end_of_blocks p.layout data_start (blocks p.layout p.tree.items) ≤ statics_end

-- A text has these types if it is the typed text without its notes, and that is well typed.
pub record TypedAs (t : NamedText) (p : Typed) : Type 0 where
  pub tree : without_notes p.tree ≡ t.tree
  pub main : p.main ≡ t.main
  pub typed : WellTyped p
