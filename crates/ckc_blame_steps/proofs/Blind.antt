-- Rules on expressions that do not look at ranges.
use Rattle.std.proofs.Common.{◌≡◌, ◌∙◌, sym, ap, subst, refl, ℕ, Bool, true, false, List}
use Rattle.std.specs.Prelude.{Some, None}
use Rattle.ckc_base.specs.declared.arithmetic.Mode.{Mode}
use Rattle.ckc_types.specs.declared.types.CType.{CType}
use Rattle.ckc_syntax.specs.declared.tree.Name.{Name}
use Rattle.ckc_syntax.specs.declared.tree.TreeOp.TheVariants as op
use Rattle.ckc_syntax.specs.declared.tree.Node.{Node-F, out-Node}
use Rattle.ckc_typed.specs.declared.typed.Note.{Note}
use Rattle.ckc_typed.specs.Operands.{is_raw_kind}
use Rattle.ckc_typed.specs.Raw.{has_raw}
use Rattle.ckc_typed.specs.Trees.{NotedLayer}
use Rattle.ckc_typed.specs.Types.{kind_of}
use Rattle.ckc_blame_sound.specs.Safe.{is_assumed}
use Rattle.ckc_blame_sound.specs.Scopes.{IsAmong, NamesAmong, HasAmong}
use Rattle.ckc_blame_sound.proofs.Judging.{outline}
use Rattle.ckc_blame_sound.proofs.Every.{ExprLayer}
use Rattle.ckc_blame_given.specs.ckc_blame_pointers.specs.Covered.{IsRawAddress}
use Rattle.ckc_blame_steps.specs.Checked.{IsPartOfMode}
use Rattle.ckc_blame_steps.proofs.Callless.{IsCallless, HasNoCall}

abbrev Bare : Type 0
Bare = Node-F Name Note (Unit {0}) (Unit {0}) (Unit {0})

-- ---- code of a mode

abbrev assumed_bare : Bare → Bool
assumed_bare (Node-F.Trusted w e l) = true
assumed_bare n = false

assumed_outline : (n : NotedLayer) → is_assumed n ≡ assumed_bare (outline n)
assumed_outline (Node-F.Trusted w e None) = refl
assumed_outline (Node-F.Trusted w e (Some l)) = refl
assumed_outline (Node-F.Tested w e None) = refl
assumed_outline (Node-F.Tested w e (Some l)) = refl
assumed_outline n = refl

-- an address in unchecked code
abbrev BareRawAddress : CType → Bare → Type 0
BareRawAddress t (Node-F.Un op.Address e) = is_raw_kind (kind_of t) ≡ true
BareRawAddress t n = Unit {0}

to_bare_address : (t : CType) (n : NotedLayer) → IsRawAddress t n → BareRawAddress t (outline n)
to_bare_address t (Node-F.Un op.Address e) h = h
to_bare_address t (Node-F.Trusted w e None) h = tt
to_bare_address t (Node-F.Trusted w e (Some l)) h = tt
to_bare_address t (Node-F.Tested w e None) h = tt
to_bare_address t (Node-F.Tested w e (Some l)) h = tt
to_bare_address t n h = tt

from_bare_address : (t : CType) (n : NotedLayer) → BareRawAddress t (outline n) → IsRawAddress t n
from_bare_address t (Node-F.Un op.Address e) h = h
from_bare_address t n h = tt

pub mode_blind : (m : Mode) (x y : ExprLayer) → y.note.ctype ≡ x.note.ctype → outline (out-Node Name Note y.node) ≡ outline (out-Node Name Note x.node) → IsPartOfMode m x → IsPartOfMode m y
mode_blind m x y type same h = record {
  type = λ c. ap has_raw type ∙ h.type c;
  node = λ c. assumed_outline (out-Node Name Note y.node) ∙ ap assumed_bare same ∙ sym (assumed_outline (out-Node Name Note x.node)) ∙ h.node c;
  address = λ c. subst (λ t. IsRawAddress t (out-Node Name Note y.node)) (sym type)
      (from_bare_address x.note.ctype (out-Node Name Note y.node) (subst (BareRawAddress x.note.ctype) (sym same) (to_bare_address x.note.ctype (out-Node Name Note x.node) (h.address c))));
}

-- ---- names

module _ (seen : List ℕ) where
  abbrev BareAmong : Bare → Type 0
  BareAmong (Node-F.Name n) = IsAmong seen n
  BareAmong n = Unit {0}

  to_outline : (n : NotedLayer) → NamesAmong seen n → BareAmong (outline n)
  to_outline (Node-F.Name n) h = h
  to_outline (Node-F.Trusted w e None) h = tt
  to_outline (Node-F.Trusted w e (Some l)) h = tt
  to_outline (Node-F.Tested w e None) h = tt
  to_outline (Node-F.Tested w e (Some l)) h = tt
  to_outline n h = tt

  from_outline : (n : NotedLayer) → BareAmong (outline n) → NamesAmong seen n
  from_outline (Node-F.Name n) h = h
  from_outline n h = tt

  pub scope_blind : (x y : ExprLayer) → y.note.ctype ≡ x.note.ctype → outline (out-Node Name Note y.node) ≡ outline (out-Node Name Note x.node) → HasAmong seen x → HasAmong seen y
  scope_blind x y type same h = from_outline (out-Node Name Note y.node) (subst BareAmong (sym same) (to_outline (out-Node Name Note x.node) h))

-- ---- calls

abbrev BareCallless : Bare → Type 0
BareCallless (Node-F.Call n es) = ⊥
BareCallless (Node-F.Calloc w e u) = ⊥
BareCallless n = Unit {0}

to_bare : (n : NotedLayer) → IsCallless n → BareCallless (outline n)
to_bare (Node-F.Call n es) h = h
to_bare (Node-F.Calloc w e u) h = h
to_bare (Node-F.Trusted w e None) h = tt
to_bare (Node-F.Trusted w e (Some l)) h = tt
to_bare (Node-F.Tested w e None) h = tt
to_bare (Node-F.Tested w e (Some l)) h = tt
to_bare n h = tt

from_bare : (n : NotedLayer) → BareCallless (outline n) → IsCallless n
from_bare (Node-F.Call n es) h = h
from_bare (Node-F.Calloc w e u) h = h
from_bare n h = tt

pub callless_blind : (x y : ExprLayer) → y.note.ctype ≡ x.note.ctype → outline (out-Node Name Note y.node) ≡ outline (out-Node Name Note x.node) → HasNoCall x → HasNoCall y
callless_blind x y type same h = from_bare (out-Node Name Note y.node) (subst BareCallless (sym same) (to_bare (out-Node Name Note x.node) h))
