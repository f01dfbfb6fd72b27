-- The claims of bounds casts that are tested and count bytes: those of larger elements are a constant.
use Rattle.std.proofs.Common.{◌≡◌, ◌⊎◌, inl, inr, refl, sym, ap, subst, ◌∙◌, ℕ, Bool, true, false, List, arith}
use Rattle.std.specs.Prelude.{◌==◌, ◌<◌, ◌||◌, nat_lt, if◌then◌else◌, int_div, ℤ, pos, Option, None, Some, Ok}
use Rattle.std.proofs.lemmas.Bool.{and_parts}
use Rattle.std.proofs.lemmas.Bool.Decides.{nat_tests}
use Rattle.ckc_base.specs.declared.places.Pos.{Pos}
use Rattle.ckc_base.specs.declared.runtime_checks.Check.TheVariants as check
use Rattle.ckc_types.specs.declared.types.Kind.TheVariants as kind
use Rattle.ckc_types.specs.declared.types.CType.{CType}
use Rattle.ckc_syntax.specs.declared.tree.Limits.{Limits-F}
use Rattle.ckc_syntax.specs.declared.tree.Node.{Node-F}
use Rattle.ckc_typed.specs.declared.environment.Constant.{Constant}
use Rattle.ckc_typed.specs.Amounts.{is_multiple}
use Rattle.ckc_typed.specs.Constants.{size_of, value_of}
use Rattle.ckc_typed.specs.Trees.{NotedExpr, TypeTree}
use Rattle.ckc_typed.specs.Types.{is_integer, is_pointer, kind_of, element_of}
use Rattle.ckc_blame_sound.specs.ckc_bounds_points.specs.Forms.{constant_form, elements, elements_of}
use Rattle.ckc_blame_sound.specs.ckc_bounds_points.specs.Shown.{Known}
use Rattle.ckc_blame_sound.specs.ckc_bounds_views.specs.Integers.{constant_or}
use Rattle.ckc_blame_sound.specs.ckc_bounds_views.specs.Judged.{counts_bytes, is_multiple_of}
use Rattle.ckc_blame_sound.specs.ckc_bounds_views.specs.Parts.{LimitsView, View}
use Rattle.ckc_blame_sound.specs.ckc_bounds_views.specs.Views.{limits_view, node_view, view, view_of_node}
use Rattle.ckc_blame_sound.specs.ckc_bounds_points.specs.declared.frame.Frame.{Frame}
use Rattle.ckc_blame_sound.specs.ckc_bounds_statements.specs.Paths.{Here}
use Rattle.ckc_source.specs.declared.expr.Operation.TheVariants.{Div}
use Rattle.ckc_source.specs.declared.outcome.Value.{Value}
use Rattle.ckc_source.specs.Code.{Expr, Binary, Number, Tested}
use Rattle.ckc_source.specs.Eval.{Store, given, plain, stops, operates, evaluated}
use Rattle.ckc_source.specs.Words.{exact, computed}
use Rattle.ckc_build_values.specs.Kinds.{integer_of, is_signed, size_behind}
use Rattle.ckc_build_values.specs.Operators.{elements_in}
use Rattle.ckc_blame_sound.specs.Settings.{Setting}
use Rattle.ckc_blame_sound.specs.Values.{number_of}
use Rattle.ckc_blame_sound.specs.Points.{HoldsAt}
use Rattle.ckc_blame_sound.proofs.Sizes.{sizes_are_small}
use Rattle.ckc_blame_pointers.specs.Meant.{IsNotStuck}
use Rattle.ckc_blame_pointers.specs.Valuations.{Valuation, Fits}
use Rattle.ckc_blame_pointers.proofs.Binary.{ExprClaims}
use Rattle.ckc_blame_pointers.proofs.Casts.{IsTestable, IsSized, tested_claims, whole_elements, counted_own, counted_sized}
use Rattle.ckc_blame_pointers.proofs.Claims.{weaker, goes_on}
use Rattle.ckc_blame_pointers.proofs.Inside.{view_is}
use Rattle.ckc_blame_pointers.proofs.Nodes.{NodeClaims}
use Rattle.ckc_blame_pointers.proofs.Own.{constant_counts}
use Rattle.ckc_blame_pointers.proofs.Quotients.{not_zero, quotient_is}
use Rattle.ckc_blame_pointers.proofs.Sums.{IsIndex}

-- ---- how many elements are counted

-- A constant number of bytes is divided by the size of an element.
pub record IsDivided (s : Setting) (here : Here) (t : CType) (f : NotedExpr) (l : LimitsView) (w u : Expr) : Type 0 where
  pub number : ℤ
  pub form : (view s.frame f).form here.at.facts ≡ Some (constant_form number)
  pub some : 0 < size_behind s.text.layout t
  pub amount : l.amount (size_of s.frame.structs (element_of t)) here.at.facts ≡ Some (constant_form (int_div number (pos (size_behind s.text.layout t))))
  pub spot : Pos
  pub quotient : u ≡ Binary Div (is_signed f.note.ctype) spot w (Number (size_behind s.text.layout t))

-- Limits count as many elements as an expression says, or a constant number of bytes.
abbrev pub IsAmount : Setting → Here → CType → NotedExpr → LimitsView → Expr → Expr → Type 0
IsAmount s here t f l w u =
    ((l.amount (size_of s.frame.structs (element_of t)) here.at.facts ≡ (view s.frame f).form here.at.facts) × (u ≡ w))
    ⊎ IsDivided s here t f l w u

-- a constant has its own form
constant_there : (frame : Frame) (f : NotedExpr) (facts : Known) (c : Constant) → is_integer f.note.ctype ≡ true → (view frame f).number ≡ Some c → (view frame f).form facts ≡ Some (constant_form (value_of c))
constant_there frame f facts c integer =
    subst (λ (v : View). v.number ≡ Some c → v.form facts ≡ Some (constant_form (value_of c))) (sym (view_is frame f))
    (λ is. ap (λ b. if b then constant_or (view_of_node frame f.node).number ((view_of_node frame f.node).linear f.note.ctype facts) else None) integer
    ∙ ap (λ c. constant_or c ((view_of_node frame f.node).linear f.note.ctype facts)) is)

same_if : (n m : ℕ) → (n == m) ≡ true → n ≡ m
same_if n m e = grind (arith, nat_tests)

some_if : (n : ℕ) → nat_lt 0 n ≡ true → 0 < n
some_if n e = grind (arith, nat_tests)

module _ (s : Setting) (here : Here) (t : CType) (f : NotedExpr) (spot : Pos) (w : Expr) (structs : s.frame.structs ≡ s.text.layout) (integer : is_integer f.note.ctype ≡ true) where
  abbrev bytes : LimitsView
  bytes = limits_view (Limits-F.ByteCount (view s.frame f) spot)

  abbrev n : ℕ
  n = size_of s.frame.structs (element_of t)

  abbrev m : ℕ
  m = size_behind s.text.layout t

  abbrev Counted : Type 0
  Counted = IsAmount s here t f bytes w (elements_in m f.note.ctype spot w)

  size_is : n ≡ m
  size_is = ap (λ q. size_of q (element_of t)) structs

  program : (b : Bool) → (n == 1) ≡ b → elements_in m f.note.ctype spot w ≡ (if b then w else Binary Div (is_signed f.note.ctype) spot w (Number m))
  program b e = ap (λ b. if b then w else Binary Div (is_signed f.note.ctype) spot w (Number m)) (ap (λ n. n == 1) (sym size_is) ∙ e)

  divided : (c : Constant) → (view s.frame f).number ≡ Some c → (n == 1) ≡ false → is_multiple (value_of c) n ≡ true → Counted
  divided c is large multiple = inr (record {
    number = value_of c;
    form = form;
    some = subst (λ n. 0 < n) size_is (some_if n (and_parts (nat_lt 0 n) _ multiple).0);
    amount = ap (elements n) form ∙ ap (λ b. if b then Some (constant_form (value_of c)) else elements_of n (constant_form (value_of c))) large
        ∙ ap (λ b. if b then Some (constant_form (int_div (value_of c) (pos n))) else None) multiple ∙ ap (λ n. Some (constant_form (int_div (value_of c) (pos n)))) size_is;
    spot = spot;
    quotient = program false large;
  })
    where
      form : (view s.frame f).form here.at.facts ≡ Some (constant_form (value_of c))
      form = constant_there s.frame f here.at.facts c integer is

  -- Bytes that are judged are those of elements of one byte, or a constant multiple of the size of an element.
  pub bytes_amount : counts_bytes n (view s.frame f) ≡ true → Counted
  bytes_amount e = by (n == 1) refl (view s.frame f).number refl (and_parts (is_integer (view s.frame f).ctype) ((n == 1) || is_multiple_of n (view s.frame f).number) e).1
    where
      by : (b : Bool) → (n == 1) ≡ b → (o : Option Constant) → (view s.frame f).number ≡ o → (b || is_multiple_of n o) ≡ true → Counted
      by true one o is e = inl (whole_elements n (same_if n 1 one) ((view s.frame f).form here.at.facts), program true one)
      by false large (Some c) is e = divided c is large e
      by false large None is e = absurd (cc)

-- ---- the cast

module _ (s : Setting) (store : Store) (entry : List ℕ) (here : Here) (x : TypeTree) (e : NotedExpr) (t : CType)
    (f : NotedExpr) (l : LimitsView) (same : (widened : List ℕ) → l.fresh (record here.at { widened = widened }) ≡ l.fresh here.at) (counted : l.counted ≡ Some f.note.ctype)
    (w : Expr) (integer : is_integer f.note.ctype ≡ true) (right : IsNotStuck (ExprClaims s store entry here f) (evaluated store w))
    (index : (c : Value) → evaluated store w ≡ Ok c → IsIndex s store entry here (exact (integer_of f.note.ctype) c.number) (view s.frame f).form)
    (several : kind_of t ≡ Some kind.One → ⊥) where
  abbrev size : ℕ
  size = size_behind s.text.layout t

  abbrev Sized : Expr → Type 0
  Sized u = IsSized s store here t (node_view s.frame (Node-F.Tested x (view s.frame e) (Some l))) (integer_of f.note.ctype) u

  divided_sized : (u : Expr) → IsDivided s here t f l w u → Sized u
  divided_sized u d =
      subst Sized (sym d.quotient) (record {
        needs = None;
        number = λ k. constant_form amount;
        node = counted_own s here x e t f l same counted (Some (constant_form amount)) d.amount;
        size = weaker (evaluated store (Binary Div (is_signed f.note.ctype) d.spot w (Number size))) quotient
            (λ c is q. record { typed = tt; counts = λ k v fits number. counts c q k v fits; single = λ one. absurd (several one) });
      })
    where
      amount : ℤ
      amount = int_div d.number (pos size)

      IsQuotient : Value → Type 0
      IsQuotient c = (y : Value) × (evaluated store w ≡ Ok y) × ExprClaims s store entry here f y × (c.number ≡ computed Div (is_signed f.note.ctype) y.number size)

      quotient : IsNotStuck IsQuotient (evaluated store (Binary Div (is_signed f.note.ctype) d.spot w (Number size)))
      quotient =
          goes_on (ExprClaims s store entry here f) IsQuotient (evaluated store w) (λ y. given (plain size) (λ c. operates Div (is_signed f.note.ctype) d.spot y.number c.number)) right
          (λ y is p. subst (λ (b : Bool). IsNotStuck IsQuotient (if b then stops check.Divide d.spot else plain (computed Div (is_signed f.note.ctype) y.number size))) (sym (not_zero size d.some)) (y, is, p, refl))

      counts : (c : Value) → IsQuotient c → (k : ℕ) (v : Valuation) → Fits s.frame store.locals v → number_of v.numbers (constant_form amount) ≡ exact (integer_of f.note.ctype) c.number
      counts c q k v fits =
          let number : exact (integer_of f.note.ctype) (q.0).number ≡ d.number = index q.0 q.1 v fits here.at.facts (inl refl) (constant_form d.number) d.form ∙ constant_counts s store.locals None (pos 0) d.number k v fits tt in
          constant_counts s store.locals None (pos 0) amount k v fits tt ∙ ap (λ z. int_div z (pos size)) (sym number)
          ∙ sym (quotient_is size d.some (sizes_are_small s.text.layout (element_of t)) f.note.ctype (q.0).number integer (q.2).word) ∙ ap (exact (integer_of f.note.ctype)) (sym q.3)

  -- A bounds cast with limits has as many elements as they count.
  pub amount_sized : (u : Expr) → IsAmount s here t f l w u → Sized u
  amount_sized u (inl same_as) = subst Sized (sym same_as.1) (counted_sized s store entry here x e t f l same counted w integer right index same_as.0 several)
  amount_sized u (inr d) = divided_sized u d

module _ (s : Setting) (store : Store) (entry : List ℕ) (here : Here) (h : HoldsAt s store entry here) (x : TypeTree) (e : NotedExpr) (t : CType) (pointer : is_pointer t ≡ true) (place : Pos) (v : Expr)
    (left : IsNotStuck (ExprClaims s store entry here e) (evaluated store v)) (able : (x : Value) → evaluated store v ≡ Ok x → ExprClaims s store entry here e x → IsTestable s store t x)
    (f : NotedExpr) (l : LimitsView) (same : (widened : List ℕ) → l.fresh (record here.at { widened = widened }) ≡ l.fresh here.at) (counted : l.counted ≡ Some f.note.ctype)
    (w : Expr) (integer : is_integer f.note.ctype ≡ true) (right : IsNotStuck (ExprClaims s store entry here f) (evaluated store w))
    (index : (c : Value) → evaluated store w ≡ Ok c → IsIndex s store entry here (exact (integer_of f.note.ctype) c.number) (view s.frame f).form)
    (several : kind_of t ≡ Some kind.One → ⊥) where
  pub amount_claims : (u : Expr) → IsAmount s here t f l w u
      → IsNotStuck (NodeClaims s store entry here h t (node_view s.frame (Node-F.Tested x (view s.frame e) (Some l)))) (evaluated store (Tested (size_behind s.text.layout t) (integer_of f.note.ctype) place v u))
  amount_claims u is =
      tested_claims s store entry here h t pointer (node_view s.frame (Node-F.Tested x (view s.frame e) (Some l))) (integer_of f.note.ctype) u
      (amount_sized s store entry here x e t f l same counted w integer right index several u is) e place v left able
