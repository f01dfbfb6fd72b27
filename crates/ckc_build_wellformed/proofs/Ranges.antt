-- What gives a range of a null-terminated array gives one of its elements, and accesses through pointers by their kind.
use Rattle.std.proofs.Common.{◌≡◌, refl, arith, ℕ, ◌+◌, ◌≤◌, Bool, true, false}
use Rattle.std.specs.Prelude.{if◌then◌else◌, Option, Some, None}
use Rattle.ckc_types.specs.declared.types.Kind.{Kind}
use Rattle.ckc_types.specs.declared.types.Kind.TheVariants as kind
use Rattle.ckc_types.specs.declared.types.CType.{CType}
use Rattle.ckc_typed.specs.Declarations.{is_checked_kind}
use Rattle.ckc_source.specs.declared.expr.Access.{Access}
use Rattle.ckc_source.specs.declared.expr.Pointee.{Pointee}
use Rattle.ckc_source.specs.declared.expr.Through.{Through}
use Rattle.ckc_source.specs.declared.expr.Through.TheVariants as through
use Rattle.ckc_source.specs.Code.{Expr, Number, Limited, Array, Member, Address, Moved, Added, Choice, Tested, Trusted, Program}
use Rattle.ckc_build_values.specs.Kinds.{through_kind}
use Rattle.ckc_source_causes.specs.Layouts.{Layout, PointsTo, NamesElements}
use Rattle.ckc_source_causes.specs.Ranges.{GivesRange, GivesOne, LeadsTo}
use Rattle.ckc_source_causes.specs.WellFormed.{Accesses, UnlessRaw}

module _ (g : Program) (l : Layout) where
  pub weaker_to : (t : CType) (b : Bool) (to : Pointee) → PointsTo l t b to → PointsTo l t false to
  weaker_to t b to h = record { element = h.element; size = h.size; ends = λ e. absurd cc }

  pub weaker_names : (t : CType) (b : Bool) (at bytes : ℕ) → NamesElements g l t b at bytes → NamesElements g l t false at bytes
  weaker_names t b at bytes h = (
    h.0,
    h.1,
    record { object = h.2.object; there = h.2.there; at = h.2.at; element = h.2.element; room = fewer b h.2.room },
  )
    where
      fewer : (b : Bool) → (if b then h.0 + 1 else h.0) ≤ h.2.object.count → h.0 ≤ h.2.object.count
      fewer true r = omega (arith, r)
      fewer false r = r

  pub weaker : (t : CType) (b : Bool) (e : Expr) → GivesRange g l t b e → GivesRange g l t false e
  weaker t b (Number n) h = h
  weaker t b (Limited x limits) h = weaker_to t b limits.to h
  weaker t b (Array at bytes) h = weaker_names t b at bytes h
  weaker t b (Member to many access e i) h = weaker_to t b to h
  weaker t b (Address bytes access e i) h = (refl, h.1, h.2)
  weaker t b (Moved shift e i) h = (h.0, h.1, weaker t b e h.2)
  weaker t b (Added shift i e) h = (h.0, h.1, weaker t b e h.2)
  weaker t b (Choice c e f) h = (weaker t b e h.0, weaker t b f h.1)
  weaker t b (Tested size form at e k) h = (h.0, weaker t b e h.1)
  weaker t b (Trusted to form e k) h = weaker_to t b to h
  weaker t b e h = absurd h

  pub narrower : (t : CType) (b : Bool) (e : Expr) → GivesRange g l t true e → GivesRange g l t b e
  narrower t true e h = h
  narrower t false e h = weaker t true e h

  -- what is known of the pointer of an access through a pointer of a kind, and of the index
  pub record Leads (k : Option Kind) (t : CType) (e i : Expr) : Type 0 where
    pub one : k ≡ Some kind.One → GivesRange g l t false e × GivesOne e × (i ≡ Number 0)
    pub array : k ≡ Some kind.Arr → GivesRange g l t false e
    pub terminated : k ≡ Some kind.Nt → GivesRange g l t true e

  -- so it leads to elements of the type
  pub leads_to : (k : Option Kind) (size : ℕ) (t : CType) (e i : Expr) (P : CType → Type 0) → size ≡ l.size t → Leads k t e i → P t
      → UnlessRaw (through_kind k) ((u : CType) × (size ≡ l.size u) × LeadsTo g l (through_kind k) u e i × P u)
  leads_to (Some kind.Raw) size t e i P same h p = tt
  leads_to (Some kind.One) size t e i P same h p = let o = h.one refl in (t, same, (o.0, (o.1, o.2)), p)
  leads_to (Some kind.Arr) size t e i P same h p = (t, same, h.array refl, p)
  leads_to (Some kind.Nt) size t e i P same h p = (t, same, h.terminated refl, p)
  leads_to None size t e i P same h p = tt

  -- what holds of the type to which an access goes
  pub accesses : (access : Access) (e i : Expr) (P Q : CType → Type 0) → ((t : CType) → P t → Q t) → Accesses g l access e i P → Accesses g l access e i Q
  accesses access e i P Q f h = by access.through h
    where
      by : (how : Through) → UnlessRaw how ((t : CType) × (access.size ≡ l.size t) × LeadsTo g l how t e i × P t)
          → UnlessRaw how ((t : CType) × (access.size ≡ l.size t) × LeadsTo g l how t e i × Q t)
      by through.Named a = (a.0, a.1, a.2, f a.0 a.3)
      by through.Raw a = tt
      by through.One a = (a.0, a.1, a.2, f a.0 a.3)
      by through.Array a = (a.0, a.1, a.2, f a.0 a.3)
      by through.Terminated a = (a.0, a.1, a.2, f a.0 a.3)

  pub checked_access : (access : Access) (e i : Expr) (P : CType → Type 0) → (access.through ≡ through.Raw → ⊥) → Accesses g l access e i P
      → (t : CType) × (access.size ≡ l.size t) × LeadsTo g l access.through t e i × P t
  checked_access access e i P n h = by access.through n h
    where
      by : (how : Through) → (how ≡ through.Raw → ⊥) → UnlessRaw how ((t : CType) × (access.size ≡ l.size t) × LeadsTo g l how t e i × P t)
          → (t : CType) × (access.size ≡ l.size t) × LeadsTo g l how t e i × P t
      by through.Named n a = a
      by through.Raw n a = absurd (n refl)
      by through.One n a = a
      by through.Array n a = a
      by through.Terminated n a = a

pub through_checked : (k : Option Kind) → is_checked_kind k ≡ true → through_kind k ≡ through.Raw → ⊥
through_checked (Some kind.Raw) h e = cc
through_checked (Some kind.One) h e = cc
through_checked (Some kind.Arr) h e = cc
through_checked (Some kind.Nt) h e = cc
through_checked None h e = cc
