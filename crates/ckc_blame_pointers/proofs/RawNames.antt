-- The claims of string literals in code of either mode, and of the addresses of members that are reached through unchecked
-- pointers.
use Rattle.std.proofs.Common.{◌≡◌, sym, ap, subst, ◌∙◌, ℕ, ◌+◌, List, arith}
use Rattle.std.specs.Prelude.{◌<◌, ◌^◌, length, None, Some, Result}
use Rattle.ckc_base.specs.declared.arithmetic.Mode.{Mode}
use Rattle.ckc_base.specs.declared.arithmetic.Mode.TheVariants.{Checked, Unchecked}
use Rattle.ckc_base.specs.declared.places.Pos.{Pos}
use Rattle.ckc_types.specs.declared.types.Kind.TheVariants as kind
use Rattle.ckc_types.specs.declared.types.CType.{CType}
use Rattle.ckc_syntax.specs.declared.tree.Node.{Node-F}
use Rattle.ckc_syntax.specs.declared.tree.TreeOp.TheVariants as op
use Rattle.ckc_typed.specs.declared.typed.Note.{Note}
use Rattle.ckc_typed.specs.declared.typed.Range.TheVariants as range
use Rattle.ckc_typed.specs.Constants.{size_of}
use Rattle.ckc_typed.specs.Conversions.{is_terminated_kind}
use Rattle.ckc_typed.specs.Expressions.{string_type}
use Rattle.ckc_typed.specs.Types.{kind_of}
use Rattle.ckc_blame_sound.specs.ckc_bounds_points.specs.Flow.{State}
use Rattle.ckc_blame_sound.specs.ckc_bounds_points.specs.Shown.{Known}
use Rattle.ckc_blame_sound.specs.ckc_bounds_views.specs.declared.variables.Own.{Own}
use Rattle.ckc_blame_sound.specs.ckc_bounds_views.specs.Parts.{NodeView}
use Rattle.ckc_blame_sound.specs.ckc_bounds_views.specs.Views.{node_view, expr_view}
use Rattle.ckc_blame_sound.specs.ckc_bounds_statements.specs.Paths.{Here}
use Rattle.ckc_source.specs.declared.outcome.Halt.{Halt}
use Rattle.ckc_source.specs.declared.outcome.Range.TheVariants.{Within}
use Rattle.ckc_source.specs.declared.outcome.Value.{Value}
use Rattle.ckc_source.specs.Code.{Array}
use Rattle.ckc_source.specs.Eval.{Store, given, element, place_in, spanned, evaluated}
use Rattle.ckc_build_values.specs.Names.{address_of}
use Rattle.ckc_build_values.specs.Places.{Place, address_at}
use Rattle.ckc_blame_sound.specs.Settings.{Setting, IsString}
use Rattle.ckc_blame_sound.specs.Points.{HoldsAt}
use Rattle.ckc_blame_pointers.specs.Covered.{IsSoundStore}
use Rattle.ckc_blame_pointers.specs.Meant.{IsNotStuck}
use Rattle.ckc_blame_pointers.specs.Owed.{IfGives}
use Rattle.ckc_blame_pointers.proofs.Addresses.{IsAddressType}
use Rattle.ckc_blame_pointers.proofs.Given.{given_gives}
use Rattle.ckc_blame_pointers.proofs.Held.{IsOwnNode}
use Rattle.ckc_blame_pointers.proofs.Literals.{literal_claims, bare_literal_claims}
use Rattle.ckc_blame_pointers.proofs.Nodes.{NodeClaims}
use Rattle.ckc_blame_pointers.proofs.Own.{missing_claims}
use Rattle.ckc_blame_pointers.proofs.Singles.{address_node_by}
use Rattle.ckc_blame_pointers.proofs.Strings.{IsStringType, checked_string, raw_string, string_literal}

-- ---- string literals

module _ (s : Setting) (store : Store) (entry : List ℕ) (next : ℕ) (ready : IsSoundStore s store next) (here : Here) (h : HoldsAt s store entry here) where
  pub text_claims : (mode : Mode) (t : CType) (bytes : List ℕ) (k : ℕ) → t ≡ string_type mode → IsString s bytes k
      → IsNotStuck (NodeClaims s store entry here h t (node_view s.frame (Node-F.Text bytes))) (evaluated store (Array (address_of s.text k) (length bytes)))
  text_claims Checked t bytes k is string = literal_claims s store entry next ready here h t bytes k (string_literal s t bytes k (subst IsStringType (sym is) checked_string) string)
  text_claims Unchecked t bytes k is string =
      let raw = raw_string t is in
      bare_literal_claims s store entry next ready here h (string_type Checked) bytes k (string_literal s (string_type Checked) bytes k checked_string string) t raw.pointer (no_one raw.kind_is)
      (ap is_terminated_kind raw.kind_is) (raw.element ∙ sym checked_string.element)
    where
      no_one : kind_of t ≡ Some kind.Raw → kind_of t ≡ Some kind.One → ⊥
      no_one raw one = cc

-- ---- addresses

module _ (s : Setting) (store : Store) (entry : List ℕ) (here : Here) (h : HoldsAt s store entry here) (note : Note) (place : Pos) (t r : CType) (type : IsAddressType r t) (n : NodeView)
    (kept : (widened : List ℕ) → n.fresh (record here.at { widened = widened }) ≡ n.fresh here.at) (missing : (own : Own) (first fresh : ℕ) (at : State) → n.address own first fresh at ≡ range.Missing)
    (nowhere : (first : ℕ) (facts : Known) → n.target first facts ≡ None) where
  abbrev made : NodeView
  made = node_view s.frame (Node-F.Un op.Address (expr_view (record { node = n; pos = place; note = note })))

  -- the address of what is at whatever place, if nothing is known of its range
  pub raw_address_claims : (q : Place) → IfGives (NodeClaims s store entry here h r made) (evaluated store (address_at s.text.layout t q))
  raw_address_claims q =
      given_gives Made (evaluated store q.pointer) (λ v. given (evaluated store q.index) (λ k. given (element q.access v k.number) go))
      (λ v is. given_gives Made (evaluated store q.index) (λ k. given (element q.access v k.number) go)
      (λ k there. given_gives Made (element q.access v k.number) go (λ a at. comes (place_in a q.access.offset) (small a q.access.offset))))
    where
      Made : Value → Type 0
      Made = NodeClaims s store entry here h r made

      go : ℕ → Result Value Halt
      go a = spanned (place_in a q.access.offset) (size_of s.text.layout t)

      node : IsOwnNode here r (λ own. range.Missing) None made
      node = address_node_by (λ own. range.Missing) s here note place r n kept missing nowhere

      small : (a offset : ℕ) → place_in a offset < 2 ^ 32
      small a offset = omega arith

      comes : (m : ℕ) → m < 2 ^ 32 → Made (record { number = m; range = Within m (m + size_of s.text.layout t) })
      comes m low =
          missing_claims s store entry here h r type.pointer type.several made node.alone node.known node.nowhere node.kept node.ranged node.needs node.behind node.some node.quiet
          (record { number = m; range = Within m (m + size_of s.text.layout t) }) low
