-- The claims of `_Assume_bounds_cast`, if it gives something, and what a string literal is as the operand of a bounds cast
-- that is tested.
use Rattle.std.proofs.Common.{◌≡◌, ◌⊎◌, inr, refl, sym, ap, subst, ◌∙◌, ℕ, ◌+◌, true, List}
use Rattle.std.specs.Prelude.{◌<◌, ◌^◌, ◌&&◌, length, pos, Option, None, Some, Ok}
use Rattle.std.proofs.lemmas.Bool.{and_parts}
use Rattle.ckc_types.specs.declared.types.Kind.TheVariants as kind
use Rattle.ckc_types.specs.declared.types.CType.{CType}
use Rattle.ckc_types.specs.declared.types.CType.TheVariants as ctype
use Rattle.ckc_syntax.specs.declared.tree.Name.{Name}
use Rattle.ckc_syntax.specs.declared.tree.Node.{Node-F, map-Node, out-Node, fold_out-Node}
use Rattle.ckc_syntax.specs.declared.tree.Expr.{fold_out-Expr}
use Rattle.ckc_syntax.specs.Inside.{listed, inside_limits}
use Rattle.ckc_typed.specs.declared.typed.Note.{Note}
use Rattle.ckc_typed.specs.Conversions.{is_string, is_string_form, is_terminated_kind, takes_string}
use Rattle.ckc_typed.specs.Statics.{Strings, node_strings, expr_strings, strings_of_expr}
use Rattle.ckc_typed.specs.Trees.{NotedLimits, NotedNode, NotedExpr, NotedLayer, TypeTree}
use Rattle.ckc_typed.specs.Types.{is_integer, is_char, is_pointer, kind_of, element_of}
use Rattle.ckc_blame_sound.specs.ckc_bounds_views.specs.Parts.{LimitsView, NodeView}
use Rattle.ckc_blame_sound.specs.ckc_bounds_views.specs.Views.{node_view, view}
use Rattle.ckc_blame_sound.specs.ckc_bounds_statements.specs.Paths.{Here}
use Rattle.ckc_source.specs.declared.expr.Integer.{Integer}
use Rattle.ckc_source.specs.declared.expr.Integer.TheVariants.{Int}
use Rattle.ckc_source.specs.declared.expr.Pointee.{Pointee}
use Rattle.ckc_source.specs.declared.outcome.Range.TheVariants.{Within}
use Rattle.ckc_source.specs.declared.outcome.Value.{Value}
use Rattle.ckc_source.specs.Code.{Expr, Number, Trusted}
use Rattle.ckc_source.specs.Eval.{Store, given, reads, trusts, evaluated}
use Rattle.ckc_source.specs.Words.{exact, elements_behind}
use Rattle.ckc_build_values.specs.Expressions.{Part, NodePart, LimitsPart, limits_parts, node_parts, expr_parts, node_value, part_of, part_of_node, part_of_limits}
use Rattle.ckc_build_values.specs.Kinds.{integer_of, pointee_of}
use Rattle.ckc_build_values.specs.Names.{address_of}
use Rattle.ckc_blame_sound.specs.Settings.{Setting, IsString, AreStrings}
use Rattle.ckc_blame_sound.specs.Points.{HoldsAt}
use Rattle.ckc_blame_sound.proofs.Types.{word_wide}
use Rattle.ckc_blame_pointers.specs.Covered.{IsSoundStore}
use Rattle.ckc_blame_pointers.specs.Meant.{IsNotStuck}
use Rattle.ckc_blame_pointers.specs.Owed.{IfGives}
use Rattle.ckc_blame_pointers.proofs.Binary.{ExprClaims}
use Rattle.ckc_blame_pointers.proofs.Bytes.{IsAmount, amount_sized}
use Rattle.ckc_blame_pointers.proofs.Casts.{IsTestable, IsSize, IsSized, cast_comes, one_sized}
use Rattle.ckc_blame_pointers.proofs.Given.{given_gives, gives_weaker, gives_of}
use Rattle.ckc_blame_pointers.proofs.Literals.{literal_true}
use Rattle.ckc_blame_pointers.proofs.Nodes.{NodeClaims}
use Rattle.ckc_blame_pointers.proofs.Reading.{Ranged, Reads, read_gives}
use Rattle.ckc_blame_pointers.proofs.Strings.{strings_in_node, string_literal, char_type, ends_in}
use Rattle.ckc_blame_pointers.proofs.Sums.{IsIndex}

-- ---- the cast

module _ (s : Setting) (store : Store) (entry : List ℕ) (here : Here) (h : HoldsAt s store entry here) (e : NotedExpr) (r : CType) (pointer : is_pointer r ≡ true) (v : Expr)
    (left : IsNotStuck (ExprClaims s store entry here e) (evaluated store v)) where
  abbrev to : Pointee
  to = pointee_of s.text.layout r

  -- a pointer with as many elements as an expression comes to
  pub trusted_claims : (made : NodeView) (form : Integer) (w : Expr) → IsSized s store here r made form w → IfGives (NodeClaims s store entry here h r made) (evaluated store (Trusted (pointee_of s.text.layout r) form v w))
  trusted_claims made form w sized =
      given_gives Made (evaluated store v) (λ x. given (evaluated store w) (λ c. trusts store to form x.number c.number))
      (λ x is. given_gives Made (evaluated store w) (λ c. trusts store to form x.number c.number) (λ c there.
      goes x.number (word_wide e.note.ctype x.number (gives_of (ExprClaims s store entry here e) (evaluated store v) left x is).word) c
      (gives_of (IsSize s store r form sized.needs sized.number) (evaluated store w) sized.size c there)))
    where
      Made : Value → Type 0
      Made = NodeClaims s store entry here h r made

      goes : (n : ℕ) → n < 2 ^ 32 → (c : Value) → IsSize s store r form sized.needs sized.number c → IfGives Made (trusts store to form n c.number)
      goes n small c d =
          gives_weaker (Reads store.shapes store.blocks to n (pos n) (elements_behind n to.size (exact form c.number))) Made (reads store.shapes store.blocks to n (pos n) (elements_behind n to.size (exact form c.number)))
          (read_gives store.shapes store.blocks to n (pos n) (elements_behind n to.size (exact form c.number)))
          (λ x read. cast_comes s store entry here h r pointer made form w sized x c d (subst (λ k. k < 2 ^ 32) (sym read.number) small)
          (subst (λ k. (k ≡ 0) ⊎ Ranged store.shapes store.blocks to k (pos k) (elements_behind k to.size (exact form c.number)) x) (sym read.number) read.ranged_there))

-- A bounds cast that is assumed is judged like one that is tested.
assumed_sized : (s : Setting) (store : Store) (here : Here) (x : TypeTree) (e : NotedExpr) (l : Option LimitsView) (t : CType) (form : Integer) (w : Expr)
    → IsSized s store here t (node_view s.frame (Node-F.Tested x (view s.frame e) l)) form w → IsSized s store here t (node_view s.frame (Node-F.Trusted x (view s.frame e) l)) form w
assumed_sized s store here x e l t form w sized = record {
  needs = sized.needs;
  number = sized.number;
  node = record {
    alone = refl;
    known = refl;
    nowhere = λ first facts. refl;
    kept = sized.node.kept;
    ranged = sized.node.ranged;
    needs = sized.node.needs;
    behind = refl;
    some = refl;
    quiet = sized.node.quiet;
  };
  size = sized.size;
}

module _ (s : Setting) (store : Store) (entry : List ℕ) (here : Here) (h : HoldsAt s store entry here) (x : TypeTree) (e : NotedExpr) (t : CType) (pointer : is_pointer t ≡ true) (v : Expr)
    (left : IsNotStuck (ExprClaims s store entry here e) (evaluated store v)) where
  -- one element, of a `_Ptr`
  pub trusted_one : IfGives (NodeClaims s store entry here h t (node_view s.frame (Node-F.Trusted x (view s.frame e) None))) (evaluated store (Trusted (pointee_of s.text.layout t) Int v (Number 1)))
  trusted_one =
      trusted_claims s store entry here h e t pointer v left (node_view s.frame (Node-F.Trusted x (view s.frame e) None)) Int (Number 1)
      (assumed_sized s store here x e None t Int (Number 1) (one_sized s store entry here x e t))

  -- as many as limits count
  pub trusted_amount : (f : NotedExpr) (l : LimitsView) → ((widened : List ℕ) → l.fresh (record here.at { widened = widened }) ≡ l.fresh here.at) → l.counted ≡ Some f.note.ctype
      → (w : Expr) → is_integer f.note.ctype ≡ true → IsNotStuck (ExprClaims s store entry here f) (evaluated store w)
      → ((c : Value) → evaluated store w ≡ Ok c → IsIndex s store entry here (exact (integer_of f.note.ctype) c.number) (view s.frame f).form)
      → (kind_of t ≡ Some kind.One → ⊥) → (u : Expr) → IsAmount s here t f l w u
      → IfGives (NodeClaims s store entry here h t (node_view s.frame (Node-F.Trusted x (view s.frame e) (Some l)))) (evaluated store (Trusted (pointee_of s.text.layout t) (integer_of f.note.ctype) v u))
  trusted_amount f l same counted w integer right index several u is =
      trusted_claims s store entry here h e t pointer v left (node_view s.frame (Node-F.Trusted x (view s.frame e) (Some l))) (integer_of f.note.ctype) u
      (assumed_sized s store here x e (Some l) t (integer_of f.note.ctype) u (amount_sized s store entry here x e t f l same counted w integer right index several u is))

-- ---- the operand of a cast that is tested

-- A string literal may be tested for a pointer to characters that end with a zero.
pub string_testable : (s : Setting) (store : Store) (entry : List ℕ) (next : ℕ) → IsSoundStore s store next → (here : Here) → HoldsAt s store entry here → (t : CType) → is_pointer t ≡ true → kind_of t ≡ Some kind.Nt → element_of t ≡ ctype.Char
    → (bytes : List ℕ) (k : ℕ) → IsString s bytes k → IsTestable s store t (record { number = address_of s.text k; range = Within (address_of s.text k) (address_of s.text k + length bytes) })
string_testable s store entry next ready here h t pointer ends element bytes k string =
    inr (
      address_of s.text k,
      address_of s.text k + length bytes,
      refl,
      literal_true s store entry next ready here h t bytes k (string_literal s t bytes k (record { pointer = pointer; kind_is = ends; element = element }) string),
    )

-- So may an operand that is a string literal, whatever its own type.
module _ (s : Setting) (store : Store) (entry : List ℕ) (next : ℕ) (ready : IsSoundStore s store next) (here : Here) (h : HoldsAt s store entry here) (t : CType) (e : NotedExpr) (pointer : is_pointer t ≡ true) (k : ℕ) (v : Value) where
  abbrev part_node : NotedLayer → Node-F Name Note LimitsPart NodePart Part
  part_node = map-Node Name Note NotedLimits NotedNode NotedExpr LimitsPart NodePart Part part_of_limits part_of_node part_of

  by_node : (x : NotedLayer) → is_string_form x ≡ true → (is_terminated_kind (kind_of t) && is_char (element_of t)) ≡ true → AreStrings s k (strings_in_node x)
      → evaluated store (node_value (part_node x) e.note e.pos s.text s.variables k) ≡ Ok v → IsTestable s store t v
  by_node (Node-F.Text bytes) string ends strings is =
      let p = and_parts (is_terminated_kind (kind_of t)) (is_char (element_of t)) ends in
      let same : record { number = address_of s.text k; range = Within (address_of s.text k) (address_of s.text k + length bytes) } ≡ v = cc in
      subst (λ v. IsTestable s store t v) same (string_testable s store entry next ready here h t pointer (ends_in (kind_of t) p.0) (char_type (element_of t) p.1) bytes k strings.0)
  by_node x string ends strings is = absurd (cc)

  pub string_operand : takes_string t e ≡ true → AreStrings s k (strings_of_expr e) → evaluated store ((part_of e).value s.text s.variables k) ≡ Ok v → IsTestable s store t v
  string_operand takes strings is =
      let p = and_parts (is_string e) (is_terminated_kind (kind_of t) && is_char (element_of t)) takes in
      by_node (out-Node Name Note e.node) p.0 p.1 (subst (λ xs. AreStrings s k xs) strings_are strings) (sym (ap (λ (x : Expr). evaluated store x) value_is) ∙ is)
    where
      strings_are : strings_of_expr e ≡ strings_in_node (out-Node Name Note e.node)
      strings_are =
          fold_out-Expr Name Note Strings Strings Strings (inside_limits listed (λ e. e)) node_strings expr_strings e
          ∙ fold_out-Node Name Note Strings Strings Strings (inside_limits listed (λ e. e)) node_strings expr_strings e.node

      value_is : (part_of e).value s.text s.variables k ≡ node_value (part_node (out-Node Name Note e.node)) e.note e.pos s.text s.variables k
      value_is =
          ap (λ (q : Part). q.value s.text s.variables k) (fold_out-Expr Name Note LimitsPart NodePart Part limits_parts node_parts expr_parts e)
          ∙ ap (λ (q : NodePart). q.value e.note e.pos s.text s.variables k) (fold_out-Node Name Note LimitsPart NodePart Part limits_parts node_parts expr_parts e.node)
