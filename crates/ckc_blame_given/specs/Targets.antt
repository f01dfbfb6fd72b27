-- The targets of assignments of which it is said where they lie, and what is taken for granted of the text around them.
use Rattle.std.specs.Prelude.{◌≡◌, ◌⊎◌, ℕ, ◌+◌, ◌<◌, ◌^◌, true, false, List, slice_get, slice_index, Option, None, Some, Result, Ok}
use Rattle.ckc_base.specs.declared.arithmetic.Mode.{Mode}
use Rattle.ckc_types.specs.declared.types.CType.{CType}
use Rattle.ckc_types.specs.declared.types.Kind.TheVariants as kind
use Rattle.ckc_syntax.specs.declared.tree.Name.{Name}
use Rattle.ckc_syntax.specs.declared.tree.Name.TheVariants as name
use Rattle.ckc_syntax.specs.declared.tree.TreeOp.TheVariants as op
use Rattle.ckc_syntax.specs.declared.tree.Node.{Node-F, out-Node}
use Rattle.ckc_typed.specs.declared.typed.Note.{Note}
use Rattle.ckc_typed.specs.declared.typed.StaticObject.{StaticObject}
use Rattle.ckc_typed.specs.declared.typed.Typed.{Typed}
use Rattle.ckc_typed.specs.Operands.{dot_type}
use Rattle.ckc_typed.specs.Trees.{NotedExpr, NotedLayer}
use Rattle.ckc_typed.specs.Types.{kind_of, element_of}
use Rattle.ckc_blame_sound.specs.ckc_bounds_views.specs.declared.variables.Member.{Member}
use Rattle.ckc_blame_sound.specs.ckc_bounds_views.specs.Judged.{is_counted_kind}
use Rattle.ckc_blame_sound.specs.ckc_bounds_views.specs.Views.{view}
use Rattle.ckc_blame_sound.specs.ckc_bounds_stores.specs.Stores.{Placed}
use Rattle.ckc_blame_sound.specs.ckc_bounds_stores.specs.Targets.{local_of, memory_bounds}
use Rattle.ckc_source.specs.declared.expr.Count.{Count}
use Rattle.ckc_source.specs.declared.outcome.Halt.{Halt}
use Rattle.ckc_source.specs.declared.outcome.Place.{Place}
use Rattle.ckc_source.specs.declared.outcome.Place.TheVariants as place
use Rattle.ckc_source.specs.Eval.{Store}
use Rattle.ckc_source.specs.Steps.{allowed}
use Rattle.ckc_build_values.specs.Members.{offset_of}
use Rattle.ckc_build_values.specs.Names.{address_of, count_of_static}
use Rattle.ckc_blame_sound.specs.Settings.{Setting}
use Rattle.ckc_blame_sound.specs.Writes.{IsCellWrite}
use Rattle.ckc_blame_sound.specs.Elements.{AreCounted}
use Rattle.ckc_blame_pointers.specs.Covered.{DeclareOnes, IsInScope, IsCovered}
pub use Rattle.ckc_blame_pointers.specs.Covered.{KeepRunsFree}
use Rattle.ckc_blame_pointers.specs.Owed.{Comes}
use Rattle.ckc_blame_given.specs.Planned.{IsTarget}

-- a static object of a type that is no array
pub record IsStaticObject (s : Setting) (t : CType) (k : ℕ) : Type 0 where
  pub object : StaticObject
  pub there : slice_get s.text.statics k ≡ Some object
  pub plain : object.terminated ≡ false
  pub some : 0 < object.count
  pub element : object.element ≡ t

-- a static integer or pointer by its name, whose bounds count as many elements as its declaration
pub record IsStaticTarget (s : Setting) (e : NotedExpr) (k : ℕ) : Type 0 where
  pub object : IsStaticObject s e.note.ctype k
  pub counts : (n : Count) → count_of_static s.text e.note.ctype (name.Static k) ≡ Some n
      → AreCounted (memory_bounds s.frame e) n

-- a checked pointer, which a target is reached through
pub record IsThrough (s : Setting) (e : NotedExpr) : Type 0 where
  pub through : (is_counted_kind (kind_of e.note.ctype) ≡ true)
      ⊎ ((kind_of e.note.ctype ≡ Some kind.One) × DeclareOnes s)

-- a member of a structure of a type
pub record IsMemberNamed (s : Setting) (u t : CType) (n : Name) : Type 0 where
  pub number : ℕ
  pub named : n ≡ name.Member number
  pub there : dot_type s.text.layout u n ≡ Some t

-- The structures of which a target may be a member by `.`: a static object, and what `*` and `[` reach.
abbrev pub IsCoveredPlace : Mode → Setting → Store → List ℕ → CType → NotedLayer → Type 0
IsCoveredPlace m s store seen t (Node-F.Name (name.Static k)) = IsStaticObject s t k
IsCoveredPlace m s store seen t (Node-F.Un op.Deref e) = IsCovered m s store seen e × IsThrough s e
IsCoveredPlace m s store seen t (Node-F.Index e f) =
    IsCovered m s store seen e × IsCovered m s store seen f × (is_counted_kind (kind_of e.note.ctype) ≡ true)
IsCoveredPlace m s store seen t _ = ⊥

-- The targets: locals in scope, static integers and pointers, what `*` and `[` reach, and members.
abbrev pub IsCoveredTarget : Mode → Setting → Store → List ℕ → NotedExpr → NotedLayer → Type 0
IsCoveredTarget m s store seen e (Node-F.Name (name.Local k)) = IsInScope s seen k
IsCoveredTarget m s store seen e (Node-F.Name (name.Static k)) = IsStaticTarget s e k
IsCoveredTarget m s store seen e (Node-F.Un op.Deref f) = IsCovered m s store seen f × IsThrough s f
IsCoveredTarget m s store seen e (Node-F.Index f g) =
    IsCovered m s store seen f × IsCovered m s store seen g × (is_counted_kind (kind_of f.note.ctype) ≡ true)
IsCoveredTarget m s store seen e (Node-F.Arrow f n at) =
    IsCovered m s store seen f × IsThrough s f × IsMemberNamed s (element_of f.note.ctype) e.note.ctype n
IsCoveredTarget m s store seen e (Node-F.Dot f n at) =
    IsCoveredPlace m s store seen f.note.ctype (out-Node Name Note f.node) × IsMemberNamed s f.note.ctype e.note.ctype n
IsCoveredTarget m s store seen e _ = ⊥

-- where the local that an expression is points
abbrev pub pointed_by : List ℕ → NotedLayer → Option ℕ
pointed_by locals (Node-F.Name (name.Local k)) = Some (slice_index locals k)
pointed_by locals _ = None

-- where the static object that an expression is lies
abbrev pub placed_by : Typed → NotedLayer → Option ℕ
placed_by p (Node-F.Name (name.Static k)) = Some (address_of p k)
placed_by p _ = None

-- where the structure begins of which `p->m` of a local p and `x.m` of a static object x are members
abbrev pub begin_in : Typed → List ℕ → NotedLayer → Option ℕ
begin_in p locals (Node-F.Arrow e n at) = pointed_by locals (out-Node Name Note e.node)
begin_in p locals (Node-F.Dot e n at) = placed_by p (out-Node Name Note e.node)
begin_in p locals _ = None

-- the same of a target
abbrev pub begin_of : Typed → List ℕ → NotedExpr → Option ℕ
begin_of p locals e = begin_in p locals (out-Node Name Note e.node)

-- Such a member is in that structure.
abbrev pub LiesIn : Setting → Option ℕ → Option Member → Place → Type 0
LiesIn s (Some begin) (Some m) (place.Memory a width zero_alone) = a ≡ begin + offset_of s.text.layout m.tag m.number
LiesIn s _ _ to = Unit {0}

-- What is written to a target goes to a place that it is, and may be written there.
pub record GoesThere (s : Setting) (store : Store) (p : Placed) (n : ℕ) (w : Place) : Type 0 where
  pub target : IsTarget s store p (local_of p.target) w
  pub written : IsCellWrite s.text.layout store.blocks w n
  pub lies : LiesIn s (begin_of s.text store.locals p.target) (view s.frame p.target).member w

-- The evaluation of a target comes to a place; what may be written there goes there.
abbrev pub IsAimed : Mode → Setting → Store → Placed → Result Place Halt → Type 0
IsAimed m s store p = Comes m (λ to. (n : ℕ) (w : Place) → n < 2 ^ 32 → allowed to n ≡ Ok w → GoesThere s store p n w)
