-- A string literal is read as what a terminator ends, of whatever type it is.
use Rattle.std.proofs.Common.{◌≡◌, refl, sym, ap, subst, ◌∙◌, ℕ, Bool, true, false, List, [], arith}
use Rattle.std.specs.Prelude.{◌+◌, ◌*◌, if◌then◌else◌, length, ℤ, pos, ◌+ℤ◌, ◌*ℤ◌, Option, None, Some, Ok}
use Rattle.std.proofs.Math.IntN.{pos-*ℤ-pos}
use Rattle.std.proofs.lemmas.Int.{ints}
use Rattle.ckc_base.specs.declared.arithmetic.Mode.TheVariants.{Checked}
use Rattle.ckc_types.specs.declared.types.Kind.{Kind}
use Rattle.ckc_types.specs.declared.types.CType.{CType}
use Rattle.ckc_types.specs.declared.types.CType.TheVariants as ctype
use Rattle.ckc_linear.specs.declared.forms.Base.{Base}
use Rattle.ckc_linear.specs.declared.forms.Base.TheVariants as base
use Rattle.ckc_linear.specs.declared.forms.Form.{Form}
use Rattle.ckc_syntax.specs.declared.tree.Name.{Name}
use Rattle.ckc_syntax.specs.declared.tree.Node.{Node-F, map-Node, out-Node, fold-Node, fold-roll-Node}
use Rattle.ckc_syntax.specs.declared.tree.Expr.{every_here-Expr, fold-Expr, fold-roll-Expr}
use Rattle.ckc_syntax.specs.declared.tree.Limits.{fold-Limits}
use Rattle.ckc_typed.specs.declared.environment.Globals.{Globals}
use Rattle.ckc_typed.specs.declared.typed.Note.{Note}
use Rattle.ckc_typed.specs.declared.typed.Range.TheVariants as range
use Rattle.ckc_typed.specs.Constants.{size_of}
use Rattle.ckc_typed.specs.Conversions.{is_string, is_string_form, is_terminated_kind}
use Rattle.ckc_typed.specs.Expressions.{string_type}
use Rattle.ckc_typed.specs.Statics.{strings_of_expr}
use Rattle.ckc_typed.specs.Trees.{NotedLimits, NotedNode, NotedExpr, NotedLayer}
use Rattle.ckc_typed.specs.Types.{is_pointer, element_of, kind_of}
use Rattle.ckc_typed_welltyped.specs.Expressions.{AnyLimits, AnyNode}
use Rattle.ckc_blame_sound.specs.ckc_bounds_points.specs.Flow.{State}
use Rattle.ckc_blame_sound.specs.ckc_bounds_points.specs.Forms.{base_form, constant_form}
use Rattle.ckc_blame_sound.specs.ckc_bounds_points.specs.Shown.{Known}
use Rattle.ckc_blame_sound.specs.ckc_bounds_ranges.specs.Rows.{range_from}
use Rattle.ckc_blame_sound.specs.ckc_bounds_views.specs.Parts.{View, capped}
use Rattle.ckc_blame_sound.specs.ckc_bounds_views.specs.Views.{view}
use Rattle.ckc_blame_sound.specs.ckc_bounds_statements.specs.Paths.{Here}
use Rattle.ckc_source.specs.declared.expr.Pointee.{Pointee}
use Rattle.ckc_source.specs.declared.outcome.Value.{Value}
use Rattle.ckc_source.specs.Code.{Array}
use Rattle.ckc_source.specs.Eval.{Store, evaluated}
use Rattle.ckc_source.specs.Runs.{is_true}
use Rattle.ckc_build_values.specs.Expressions.{Part, part_of}
use Rattle.ckc_build_values.specs.Kinds.{pointee_of, size_behind}
use Rattle.ckc_build_values.specs.Names.{address_of}
use Rattle.ckc_blame_sound.specs.Settings.{Setting, IsString, AreStrings}
use Rattle.ckc_blame_sound.specs.Points.{HoldsAt}
use Rattle.ckc_blame_sound.specs.Valuations.{Valuation, form_address, AreFacts}
use Rattle.ckc_blame_sound.specs.Containment.{IsReadWithin}
use Rattle.ckc_blame_sound.specs.GivenValues.{memory_of}
use Rattle.ckc_blame_sound.specs.Typed.{IsRow, HasRow, IsTyped}
use Rattle.ckc_blame_sound.proofs.KeptTrees.{same_fold}
use Rattle.ckc_blame_pointers.specs.Covered.{IsSoundStore, IsLiteral}
use Rattle.ckc_blame_pointers.proofs.Literals.{size_there, literal_true}
use Rattle.ckc_blame_pointers.proofs.Strings.{checked_string, strings_in_node, string_literal, string_row}
use Rattle.ckc_blame_given.specs.Gives.{ending}
use Rattle.ckc_blame_given.proofs.Converted.{string_element}
use Rattle.ckc_blame_given.proofs.Layers.{node_whole, view_by, view_is, part_is, part_by, strings_are}
use Rattle.ckc_blame_given.proofs.Looser.{true_read}

-- ---- where it is

-- characters that a terminator ends
abbrev chars : Setting → Pointee
chars s = record { element = ctype.Char; size = size_of s.text.layout ctype.Char; terminated = true }

-- what a kind of pointer to such elements points to
abbrev pointee_as : Setting → CType → Option Kind → Pointee
pointee_as s t k = record { element = t; size = size_of s.text.layout t; terminated = is_terminated_kind k }

module _ (s : Setting) (store : Store) (entry : List ℕ) (next : ℕ) (ready : IsSoundStore s store next) (here : Here) (h : HoldsAt s store entry here) (bytes : List ℕ) (k : ℕ) (string : IsString s bytes k) where
  literal : IsLiteral s (string_type Checked) bytes k
  literal = string_literal s (string_type Checked) bytes k checked_string string

  one_byte : size_of s.text.layout ctype.Char ≡ 1
  one_byte = ap (size_of s.text.layout) (sym checked_string.element) ∙ size_there s store entry next ready here h (string_type Checked) bytes k literal

  chars_true : is_true store.shapes store.blocks (chars s) (address_of s.text k) (address_of s.text k) (address_of s.text k + length bytes) ≡ true
  chars_true =
      subst (λ to. is_true store.shapes store.blocks to (address_of s.text k) (address_of s.text k) (address_of s.text k + length bytes) ≡ true) points
      (literal_true s store entry next ready here h (string_type Checked) bytes k literal)
    where
      points : pointee_of s.text.layout (string_type Checked) ≡ chars s
      points = ap (λ t. pointee_as s t (kind_of (string_type Checked))) checked_string.element ∙ ap (pointee_as s ctype.Char) checked_string.kind_is

-- ---- its range

-- A pointer n, whose place is its address, may be read within its range as what a terminator ends, whatever its fresh
-- variables are numbered from.
abbrev pub EndsAt : Setting → Store → State → View → CType → ℕ → Type 0
EndsAt s store at w t n =
    (v : Valuation) → v.number 0 ≡ pos 0 → (first fresh : ℕ)
    → ((facts : Known) (f : Form) → AreFacts v facts → w.place first facts ≡ Some f → form_address v (size_behind s.text.layout t) f ≡ pos n)
    → IsReadWithin (ending (memory_of s store t)) v n (w.range first fresh at)

sums : (a x : ℤ) (n m : ℕ) → a +ℤ x ≡ pos n → x ≡ pos 0 → pos (n + m) ≡ a +ℤ pos m
sums a x n m begins none = omega (arith, ints)

-- the address so many bytes after another one
far : (a z : ℤ) (size count n : ℕ) → size ≡ 1 → z ≡ pos 0 → a +ℤ (pos size *ℤ (z +ℤ pos 0)) ≡ pos n → pos (n + count) ≡ a +ℤ (pos size *ℤ (z +ℤ pos count))
far a z size count n one zero begins = sums a (pos size *ℤ (z +ℤ pos 0)) n count begins (by 0) ∙ ap (λ x. a +ℤ x) (sym (by count))
  where
    by : (k : ℕ) → pos size *ℤ (z +ℤ pos k) ≡ pos k
    by k =
        let alone : z +ℤ pos k ≡ pos k = omega (arith, ints) in
        let once : size * k ≡ k = ap (λ m. m * k) one ∙ omega arith in
        ap (λ x. pos size *ℤ x) alone ∙ pos-*ℤ-pos size k ∙ ap pos once

module _ (s : Setting) (store : Store) (at : State) (e : NotedExpr) (bytes : List ℕ) (out : out-Node Name Note e.node ≡ Node-F.Text bytes) (char : element_of e.note.ctype ≡ ctype.Char) (n : ℕ)
    (one : size_of s.text.layout ctype.Char ≡ 1) (true_there : is_true store.shapes store.blocks (chars s) n n (n + length bytes) ≡ true) where
  viewed : view s.frame e ≡ view_by s.frame e (Node-F.Text bytes)
  viewed = view_is s.frame e ∙ ap (view_by s.frame e) out

  abbrev count : Form
  count = constant_form (pos (length bytes))

  abbrev sized : ℕ
  sized = size_behind s.text.layout e.note.ctype

  -- no facts
  abbrev none : Known
  none = record { vars = 0; list = [] }

  abbrev own : ℕ → Base
  own first = base.Value (capped first 0)

  range_is : (first fresh : ℕ) → (view s.frame e).range first fresh at ≡ (if is_pointer e.note.ctype then range_from (own first) count else range.Missing)
  range_is first fresh = ap (λ (w : View). w.range first fresh at) viewed

  place_is : (first : ℕ) → is_pointer e.note.ctype ≡ true → (view s.frame e).place first none ≡ Some (base_form (own first))
  place_is first p = ap (λ (w : View). w.place first none) viewed ∙ ap (λ b. if b then Some (base_form (own first)) else None) p

  true_here : is_true store.shapes store.blocks (ending (memory_of s store e.note.ctype)).to n n (n + length bytes) ≡ true
  true_here =
      subst (λ u. is_true store.shapes store.blocks (record { element = u; size = size_of s.text.layout u; terminated = true }) n n (n + length bytes) ≡ true) (sym char) true_there

  text_ends : EndsAt s store at (view s.frame e) e.note.ctype n
  text_ends v zero first fresh place = subst (IsReadWithin (ending (memory_of s store e.note.ctype)) v n) (sym (range_is first fresh)) (by (is_pointer e.note.ctype) refl)
    where
      begins : is_pointer e.note.ctype ≡ true → form_address v sized (base_form (own first)) ≡ pos n
      begins p = place none (base_form (own first)) (λ k d less. let no : ⊥ = omega arith in absurd no) (place_is first p)

      by : (b : Bool) → is_pointer e.note.ctype ≡ b → IsReadWithin (ending (memory_of s store e.note.ctype)) v n (if b then range_from (own first) count else range.Missing)
      by false p = tt
      by true p =
          true_read store.shapes store.blocks (ending (memory_of s store e.note.ctype)).to n n (n + length bytes) (form_address v sized (base_form (own first)))
          (form_address v sized (record count { base = Some (own first) })) (sym (begins p)) (far (v.address (Some (own first))) (v.number 0) sized (length bytes) n (ap (size_of s.text.layout) char ∙ one) zero (begins p)) true_here

-- ---- a literal that is judged

-- whether a node is one, whatever is said of its parts
abbrev literal_fold : NotedExpr → Bool
literal_fold = fold-Expr Name Note (Unit {0}) Bool Bool (λ l. tt) is_string_form (λ e. e.node)

abbrev literal_node : NotedNode → Bool
literal_node = fold-Node Name Note (Unit {0}) Bool Bool (λ l. tt) is_string_form (λ e. e.node)

abbrev literal_limits : NotedLimits → Unit {0}
literal_limits = fold-Limits Name Note (Unit {0}) Bool Bool (λ l. tt) is_string_form (λ e. e.node)

fold_is : (e : NotedExpr) → literal_fold e ≡ is_string e
fold_is e =
    fold-roll-Expr Name Note (Unit {0}) Bool Bool (λ l. tt) is_string_form (λ e. e.node) (record { node = e.node; pos = e.pos; note = e.note })
    ∙ ap literal_node (sym (node_whole e.node)) ∙ fold-roll-Node Name Note (Unit {0}) Bool Bool (λ l. tt) is_string_form (λ e. e.node) (out-Node Name Note e.node)
    ∙ by (out-Node Name Note e.node)
  where
    by : (x : NotedLayer) → is_string_form (map-Node Name Note NotedLimits NotedNode NotedExpr (Unit {0}) Bool Bool literal_limits literal_node literal_fold x) ≡ is_string_form x
    by (Node-F.Text bytes) = refl
    by x = refl

text_of : (x : NotedLayer) → is_string_form x ≡ true → (bytes : List ℕ) × (x ≡ Node-F.Text bytes)
text_of (Node-F.Text bytes) e = (bytes, refl)
text_of x e = absurd cc

module _ (globals : Globals) (s : Setting) (store : Store) (entry : List ℕ) (next : ℕ) (ready : IsSoundStore s store next) (here : Here) (h : HoldsAt s store entry here) where
  -- what is said of a literal that has been judged
  literal_ends : (e : NotedExpr) (k : ℕ) → IsTyped globals s e → AreStrings s k (strings_of_expr e) → (p : Value) → evaluated store ((part_of e).value s.text s.variables k) ≡ Ok p
      → is_string e ≡ true → EndsAt s store here.at (view s.frame e) e.note.ctype p.number
  literal_ends e k typed strings p there string =
      text_ends s store here.at e text.0 text.1 char p.number (one_byte s store entry next ready here h text.0 k is_there)
      (subst (λ a. is_true store.shapes store.blocks (chars s) a a (a + length text.0) ≡ true) address (chars_true s store entry next ready here h text.0 k is_there))
    where
      text : (bytes : List ℕ) × (out-Node Name Note e.node ≡ Node-F.Text bytes)
      text = text_of (out-Node Name Note e.node) string

      is_there : IsString s text.0 k
      is_there = (subst (AreStrings s k) (strings_are e ∙ ap strings_in_node text.1) strings).0

      char : element_of e.note.ctype ≡ ctype.Char
      char =
          let row : IsRow globals s (out-Node Name Note e.node) e.note = every_here-Expr Name Note AnyLimits AnyNode (HasRow globals s) e typed in
          ap element_of (string_row globals s.variables row.mode (out-Node Name Note e.node) e.note.ctype string row.row) ∙ string_element row.mode

      address : address_of s.text k ≡ p.number
      address =
          let made : evaluated store (Array (address_of s.text k) (length text.0)) ≡ Ok p = sym (ap (λ (q : Part). evaluated store (q.value s.text s.variables k)) (part_is e ∙ ap (part_by e) text.1)) ∙ there in
          cc

  -- of what becomes of a literal
  pub judged_ends : (before after : NotedExpr) (fresh k : ℕ) → (view s.frame before).judged fresh here.at ≡ Ok after → IsTyped globals s after → view s.frame after ≡ view s.frame before → after.note.ctype ≡ before.note.ctype
      → AreStrings s k (strings_of_expr after) → (p : Value) → evaluated store ((part_of after).value s.text s.variables k) ≡ Ok p → is_string before ≡ true
      → EndsAt s store here.at (view s.frame before) before.note.ctype p.number
  judged_ends before after fresh k is typed same types strings p there string =
      subst (λ t. EndsAt s store here.at (view s.frame before) t p.number) types
      (subst (λ w. EndsAt s store here.at w after.note.ctype p.number) same (literal_ends after k typed strings p there (kept ∙ string)))
    where
      kept : is_string after ≡ is_string before
      kept = sym (fold_is after) ∙ same_fold s.frame (Unit {0}) Bool Bool (λ l. tt) is_string_form (λ e. e.node) (λ n pos note r. refl) before after fresh here.at is ∙ fold_is before
