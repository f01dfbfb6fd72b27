-- What is granted of a judged text: which expressions its steps have, and how small it is.
use Rattle.std.specs.Prelude.{◌≡◌, true, ℕ, ◌+◌, ◌<◌, ◌^◌, List, [], ◌∷◌, length, IfSome}
use Rattle.std.specs.List.{AllByRecursion}
use Rattle.ckc_base.specs.declared.arithmetic.Mode.{Mode}
use Rattle.ckc_syntax.specs.declared.tree.Name.{Name}
use Rattle.ckc_syntax.specs.declared.tree.Name.TheVariants as name
use Rattle.ckc_syntax.specs.declared.tree.Init.TheVariants as init
use Rattle.ckc_syntax.specs.declared.tree.Node.{Node-F, out-Node}
use Rattle.ckc_syntax.specs.declared.tree.Act.{Act-F, out-Act}
use Rattle.ckc_typed.specs.declared.typed.Note.{Note}
use Rattle.ckc_types.specs.declared.types.CType.{CType}
use Rattle.ckc_types.specs.declared.types.CType.TheVariants as ctype
use Rattle.ckc_types.specs.declared.types.Kind.TheVariants as kind
use Rattle.ckc_typed.specs.declared.typed.Typed.{Typed}
use Rattle.ckc_typed.specs.Conversions.{is_terminated_kind}
use Rattle.ckc_typed.specs.Types.{element_of, is_integer, kind_of, type_written}
use Rattle.ckc_build_values.specs.Kinds.{size_behind}
use Rattle.ckc_typed.specs.Trees.{NotedAct, NotedDecl, NotedExpr, NotedInit, NotedLayer, NotedStmt}
use Rattle.ckc_blame_sound.specs.ckc_bounds_points.specs.declared.frame.Frame.{Frame}
use Rattle.ckc_blame_sound.specs.ckc_bounds_points.specs.declared.frame.Local.{Local}
use Rattle.ckc_blame_sound.specs.ckc_bounds_points.specs.Flow.{State}
use Rattle.ckc_blame_sound.specs.ckc_bounds_views.specs.Parts.{capped, fresh_behind}
use Rattle.ckc_blame_sound.specs.ckc_bounds_views.specs.Views.{view}
use Rattle.ckc_blame_sound.specs.ckc_bounds_statements.specs.Paths.{Here}
use Rattle.ckc_blame_sound.specs.ckc_bounds_stores.specs.Stores as stores
use Rattle.ckc_blame_sound.specs.ckc_bounds_stores.specs.Stores.{stores_of}
use Rattle.ckc_source.specs.declared.stmt.Spot.{Spot}
use Rattle.ckc_source.specs.Code.{Code, End, Function}
use Rattle.ckc_source.specs.Eval.{Store}
use Rattle.ckc_source.specs.Steps.{spot_in}
use Rattle.ckc_blame_sound.specs.Settings.{Setting, IsFunction}
use Rattle.ckc_blame_sound.specs.Slots.{AreFilled}
use Rattle.ckc_blame_sound.specs.Steps.{IsStep}
use Rattle.ckc_blame_sound.specs.Words.{HaveWords}
use Rattle.ckc_blame_sound.specs.Limited.{AreSlotParts}
use Rattle.ckc_blame_sound.specs.Elements.{NameIntegerMembers}
use Rattle.ckc_blame_sound.specs.JudgedTexts.{IsJudged}
use Rattle.ckc_blame_given.specs.ckc_blame_pointers.specs.Covered.{DeclareLocals, IsSoundStore, IsCovered}
use Rattle.ckc_blame_given.specs.Written.{IsDeclared}
use Rattle.ckc_blame_given.specs.Targets.{KeepRunsFree, IsCoveredTarget}
use Rattle.ckc_blame_given.specs.Together.{HaveSmallNames}
use Rattle.ckc_blame_steps.specs.Unchecked.{StoresSafely}

-- ---- expressions that are covered

-- A block of elements that a pointer of a type points to may be made: they have a size, and null-terminated ones are
-- integers.
pub record HasPlaces (s : Setting) (t : CType) : Type 0 where
  pub sized : 0 < size_behind s.text.layout t
  pub terminated : is_terminated_kind (kind_of t) ≡ true → is_integer (element_of t) ≡ true

-- What is assigned in a bundle to a place of type t is covered; of a `calloc` what it counts is, and its blocks may be
-- made there.
abbrev pub IsCoveredValue : Mode → Setting → Store → List ℕ → CType → NotedExpr → NotedLayer → Type 0
IsCoveredValue m s store seen t e (Node-F.Calloc w n x) = HasPlaces s t × IsCovered m s store seen n
IsCoveredValue m s store seen t e node = IsCovered m s store seen e

-- the argument of `putchar`, which takes one
abbrev pub IsCoveredFirst : Mode → Setting → Store → List ℕ → List NotedExpr → Type 0
IsCoveredFirst m s store seen [] = ⊥
IsCoveredFirst m s store seen (e ∷ es) = IsCovered m s store seen e

-- What is called is a function of the text, `getchar` or `putchar`.
abbrev pub IsCoveredCall : Mode → Setting → Store → List ℕ → Name → List NotedExpr → Type 0
IsCoveredCall m s store seen (name.Function k) es = Unit {0}
IsCoveredCall m s store seen name.Getchar es = Unit {0}
IsCoveredCall m s store seen name.Putchar es = IsCoveredFirst m s store seen es
IsCoveredCall m s store seen n es = ⊥

-- the right side of an assignment alone, or an initialiser, which may be a call
abbrev pub IsCoveredRight : Mode → Setting → Store → List ℕ → CType → NotedExpr → NotedLayer → Type 0
IsCoveredRight m s store seen t e (Node-F.Call n es) = IsCoveredCall m s store seen n es
IsCoveredRight m s store seen t e node = IsCoveredValue m s store seen t e node

-- A statement that is an expression is a call, or a `calloc`, which gives an `_Array_ptr`.
abbrev pub IsCoveredAlone : Mode → Setting → Store → List ℕ → NotedLayer → Type 0
IsCoveredAlone m s store seen (Node-F.Call n es) = IsCoveredCall m s store seen n es
IsCoveredAlone m s store seen (Node-F.Calloc w n u) =
    HasPlaces s (ctype.Pointer kind.Arr (type_written w)) × IsCovered m s store seen n
IsCoveredAlone m s store seen node = ⊥

-- an initialiser; no local has a list in braces
abbrev pub IsCoveredInit : Mode → Setting → Store → List ℕ → CType → NotedInit → Type 0
IsCoveredInit m s store seen t init.Nothing = Unit {0}
IsCoveredInit m s store seen t (init.One e) = IsCoveredRight m s store seen t e (out-Node Name Note e.node)
IsCoveredInit m s store seen t (init.Many es) = ⊥

-- an assignment of a bundle
abbrev pub AreCoveredSides : Mode → Setting → Store → List ℕ → Act-F Name Note NotedAct NotedStmt → Type 0
AreCoveredSides m s store seen (Act-F.Assign e f) =
    IsCoveredTarget m s store seen e (out-Node Name Note e.node)
    × IsCoveredValue m s store seen e.note.ctype f (out-Node Name Note f.node)
AreCoveredSides m s store seen a = ⊥

-- the assignments of a bundle
abbrev pub AreCoveredParts : Mode → Setting → Store → List ℕ → List NotedStmt → Type 0
AreCoveredParts m s store seen ss =
    AllByRecursion (λ (st : NotedStmt). AreCoveredSides m s store seen (out-Act Name Note st.body)) ss

-- The expressions of a statement that is a step by itself, after it is judged.
abbrev pub IsCoveredAct : Mode → Setting → Store → List ℕ → Act-F Name Note NotedAct NotedStmt → Type 0
IsCoveredAct m s store seen (Act-F.Local d) = IsCoveredInit m s store seen (type_written d.ctype) d.init
IsCoveredAct m s store seen (Act-F.Assign e f) =
    IsCoveredTarget m s store seen e (out-Node Name Note e.node)
    × IsCoveredRight m s store seen e.note.ctype f (out-Node Name Note f.node)
IsCoveredAct m s store seen (Act-F.Call e) = IsCoveredAlone m s store seen (out-Node Name Note e.node)
IsCoveredAct m s store seen (Act-F.Return e) = IfSome e (IsCovered m s store seen)
IsCoveredAct m s store seen (Act-F.Check e) = IsCovered m s store seen e
IsCoveredAct m s store seen (Act-F.Bundle ss) = AreCoveredParts m s store seen ss
IsCoveredAct m s store seen a = Unit {0}

-- ---- room for numbers

-- There is room for the numbers of the values and the fresh variables of an expression from these on.
pub record HasRoom (frame : Frame) (at : State) (value fresh : ℕ) (e : NotedExpr) : Type 0 where
  pub values : value + (view frame e).values + 1 < 2 ^ 32
  pub variables : fresh + length ((view frame e).fresh at) < 2 ^ 32

-- the same of the sides of an assignment, of which the right one alone numbers its values
pub record HaveRoomSides (frame : Frame) (at : State) (value fresh : ℕ) (e f : NotedExpr) : Type 0 where
  pub left : HasRoom frame at 0 fresh e
  pub right : HasRoom frame at value (fresh_behind (view frame e) fresh at) f

-- the same of assignments, one after another
unfoldable pub HaveRoom : Frame → State → ℕ → ℕ → List stores.Store → Type 0
HaveRoom frame at value fresh [] = Unit {0}
HaveRoom frame at value fresh (st ∷ sts) =
    HaveRoomSides frame at value fresh st.target st.right
    × HaveRoom frame at (capped value (view frame st.right).values)
    (fresh_behind (view frame st.right) (fresh_behind (view frame st.target) fresh at) at) sts

-- the same of an initialiser
abbrev pub HasRoomInit : Frame → State → ℕ → NotedInit → Type 0
HasRoomInit frame at fresh (init.One e) = HasRoom frame at 0 fresh e
HasRoomInit frame at fresh i = Unit {0}

-- the same of the expressions of a statement that is a step by itself, after it is judged
abbrev pub HasRoomAct : Frame → State → ℕ → Act-F Name Note NotedAct NotedStmt → Type 0
HasRoomAct frame at fresh (Act-F.Local d) = HasRoomInit frame at fresh d.init
HasRoomAct frame at fresh (Act-F.Assign e f) = HaveRoomSides frame at 0 fresh e f
HasRoomAct frame at fresh (Act-F.Call e) = HasRoom frame at 0 fresh e
HasRoomAct frame at fresh (Act-F.Return e) = IfSome e (HasRoom frame at 0 fresh)
HasRoomAct frame at fresh (Act-F.Check e) = HasRoom frame at 0 fresh e
HasRoomAct frame at fresh (Act-F.Bundle ss) = HaveRoom frame at 0 fresh (stores_of ss)
HasRoomAct frame at fresh a = Unit {0}

-- ---- a text

-- What is granted of a text: it is judged, its literals are words, its functions have few variables, its declared bounds
-- name locals and static arrays alone, and each expression of a step that stores safely is covered and small, in each
-- store whose blocks are sound and whose pointers may be read.
pub record IsGranted (p : Typed) : Type 0 where
  pub judged : IsJudged p
  pub words : HaveWords p
  pub free : KeepRunsFree p
  pub names : HaveSmallNames p.layout
  pub parts : AreSlotParts p
  pub counts : NameIntegerMembers p.layout
  pub few : (s : Setting) (f : Function) → IsFunction p s f → length s.variables < 1024
  pub declares : (s : Setting) (f : Function) → IsFunction p s f → DeclareLocals s
  pub covered : (m : Mode) (s : Setting) (f : Function) (here there : Here) (step : Code → Code) (end : Spot)
      (store : Store) (next : ℕ) → IsFunction p s f → (is : IsStep s here step there)
      → (spot_in end (step End)).mode ≡ m → StoresSafely m (step End)
      → IsSoundStore s store next → AreFilled p store
      → IsCoveredAct m s store here.seen (out-Act Name Note is.after.body)
  pub declared : (s : Setting) (f : Function) (here there : Here) (step : Code → Code) (d : NotedDecl)
      → IsFunction p s f → (is : IsStep s here step there) → out-Act Name Note is.before.body ≡ Act-F.Local d
      → (k : ℕ) × (l : Local) × IsDeclared s here d k l
  pub room : (s : Setting) (f : Function) (here there : Here) (step : Code → Code) → IsFunction p s f
      → (is : IsStep s here step there) → HasRoomAct s.frame here.at here.next (out-Act Name Note is.after.body)
