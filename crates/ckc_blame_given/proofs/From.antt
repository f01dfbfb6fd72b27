-- What an expression gives to a place of a type.
use Rattle.std.proofs.Common.{◌≡◌, refl, sym, ap, subst, ◌∙◌, ℕ, []}
use Rattle.std.specs.Prelude.{Bool, true, false, if◌then◌else◌, pos, Option, None, Some}
use Rattle.ckc_base.specs.Memory.{kept_part}
use Rattle.ckc_base.specs.declared.arithmetic.Width.TheVariants.{Byte, Word}
use Rattle.ckc_linear.specs.declared.forms.Form.{Form}
use Rattle.ckc_types.specs.declared.types.CType.{CType, CType-F, out-CType}
use Rattle.ckc_syntax.specs.declared.tree.Name.{Name}
use Rattle.ckc_syntax.specs.declared.tree.Node.{out-Node}
use Rattle.ckc_syntax.specs.declared.tree.Expr.{every_here-Expr}
use Rattle.ckc_typed.specs.declared.typed.Range.{Range}
use Rattle.ckc_typed.specs.declared.typed.Range.TheVariants as range
use Rattle.ckc_typed.specs.Conversions.{is_null, is_string, is_allocation, converts}
use Rattle.ckc_typed.specs.declared.environment.Globals.{Globals}
use Rattle.ckc_typed.specs.declared.typed.Note.{Note}
use Rattle.ckc_typed.specs.Trees.{NotedExpr}
use Rattle.ckc_typed.specs.Types.{is_integer, is_pointer, is_char, is_pointer_form}
use Rattle.ckc_typed_welltyped.specs.Expressions.{AnyLimits, AnyNode}
use Rattle.ckc_blame_sound.specs.ckc_bounds_known.specs.Ranges.{range_in}
use Rattle.ckc_blame_sound.specs.ckc_bounds_points.specs.Flow.{State}
use Rattle.ckc_blame_sound.specs.ckc_bounds_points.specs.Forms.{in_type, within_interval}
use Rattle.ckc_blame_sound.specs.ckc_bounds_points.specs.Shown.{Known}
use Rattle.ckc_blame_sound.specs.ckc_bounds_views.specs.Views.{view}
use Rattle.ckc_blame_sound.specs.ckc_bounds_stores.specs.declared.values.Numbered.{Numbered}
use Rattle.ckc_blame_sound.specs.ckc_bounds_stores.specs.Values.{narrow, has_element, received_range}
use Rattle.ckc_source.specs.Eval.{Store}
use Rattle.ckc_build_values.specs.Kinds.{size_behind, pointee_of}
use Rattle.ckc_blame_sound.specs.Settings.{Setting}
use Rattle.ckc_blame_sound.specs.Values.{number_of, IsNumberOf}
use Rattle.ckc_blame_sound.proofs.Typed.{number_in_type}
use Rattle.ckc_blame_sound.specs.Typed.{IsRow, HasRow, IsTyped}
use Rattle.ckc_blame_sound.specs.Exact.{IsExactBy}
use Rattle.ckc_blame_sound.proofs.Types.{no_pointer}
use Rattle.ckc_blame_sound.proofs.Sums.{byte_exact, word_exact}
use Rattle.ckc_blame_sound.specs.Valuations.{Valuation, form_address, AreFacts}
use Rattle.ckc_blame_sound.specs.Containment.{IsReadWithin, IsRanged}
use Rattle.ckc_blame_sound.specs.Elements.{number_kept}
use Rattle.ckc_blame_sound.specs.GivenValues.{memory_of, IsNew, IsFrom}
use Rattle.ckc_blame_sound.specs.Passed.{IsNewArgument}
use Rattle.ckc_blame_given.specs.Gives.{ending, Gives}
use Rattle.ckc_blame_given.proofs.Converted.{Becomes, becomes, element_looser, ending_looser}
use Rattle.ckc_blame_given.proofs.Looser.{read_looser}
use Rattle.ckc_blame_given.proofs.Narrow.{range_narrowed}
use Rattle.ckc_blame_given.proofs.Views.{known_range, string_range, placed_pointer, allocates_is}

-- which conversion it is, of a typed expression that is no `calloc`
pub becomes_typed : (globals : Globals) (s : Setting) (e : NotedExpr) (t : CType) → IsTyped globals s e → converts t e ≡ true → is_allocation e ≡ false → Becomes t e
becomes_typed globals s e t typed goes whole =
    let row : IsRow globals s (out-Node Name Note e.node) e.note = every_here-Expr Name Note AnyLimits AnyNode (HasRow globals s) e typed in
    becomes globals s.variables t e row.mode row.row goes whole

-- no form is a number of a pointer type
no_form : (t : CType) (facts : Known) (o : Option Form) (f : Form) → is_pointer t ≡ true → in_type facts t o ≡ Some f → ⊥
no_form t facts None f p e = absurd cc
no_form t facts (Some g) f p e = by (out-CType t) p e
  where
    by : (x : CType-F CType) → is_pointer_form x ≡ true → within_interval facts g (range_in x) ≡ Some f → ⊥
    by (CType-F.Pointer k u) p e = absurd cc
    by CType-F.Int p e = absurd cc
    by CType-F.Unsigned p e = absurd cc
    by CType-F.Char p e = absurd cc
    by CType-F.Void p e = absurd cc
    by (CType-F.Struct tag) p e = absurd cc

module _ (s : Setting) (store : Store) (at : State) (v : Valuation) (e : NotedExpr) (from : Numbered) (n : ℕ) (t : CType) (how : Becomes t e) (g : Gives s store v at e from n) where
  both : {A : Type 0} → is_integer e.note.ctype ≡ true → is_pointer e.note.ctype ≡ true → A
  both i p = let n = no_pointer e.note.ctype i in absurd cc

  read : (r : Range) → ((low high : Form) → r ≡ range.Known low high → (is_pointer e.note.ctype ≡ true) × (is_null e ≡ false)) → IsReadWithin (memory_of s store e.note.ctype) v n r
      → (is_string e ≡ true → IsReadWithin (ending (memory_of s store e.note.ctype)) v n r) → IsReadWithin (memory_of s store t) v n r
  read (range.Known low high) known h ended = by how (known low high refl)
    where
      by : Becomes t e → (is_pointer e.note.ctype ≡ true) × (is_null e ≡ false) → IsReadWithin (memory_of s store t) v n (range.Known low high)
      by (Becomes.Integers to from) k = both from k.0
      by (Becomes.Null to null bare) k = let n = k.1 in absurd cc
      by (Becomes.Literal to string ends element) k =
          read_looser (ending (memory_of s store e.note.ctype)) (pointee_of s.text.layout t) v n (range.Known low high) (ending_looser s.text.layout t e.note.ctype element) (ended string)
      by (Becomes.Pointers to element terminated) k =
          read_looser (memory_of s store e.note.ctype) (pointee_of s.text.layout t) v n (range.Known low high) (element_looser s.text.layout t e.note.ctype element terminated) h
  read range.Any known h ended = tt
  read range.Missing known h ended = tt

  pub wide : IsReadWithin (memory_of s store t) v n ((view s.frame e).range from.value from.fresh at)
  wide = read ((view s.frame e).range from.value from.fresh at) (λ low high is. known_range s.frame e from.value from.fresh at low high is) g.wide g.ended

  pub narrow_there : IsReadWithin (memory_of s store t) v n ((view s.frame e).range from.value from.fresh (narrow at))
  narrow_there = read ((view s.frame e).range from.value from.fresh (narrow at)) (λ low high is. known_range s.frame e from.value from.fresh (narrow at) low high is) g.narrow
      (λ string. subst (IsReadWithin (ending (memory_of s store e.note.ctype)) v n) (string_range s.frame e string from.value from.fresh at (narrow at)) (g.ended string))

  address : (facts : Known) (f : Form) → AreFacts v facts → (view s.frame e).place from.value facts ≡ Some f → form_address v (size_behind s.text.layout t) f ≡ pos n
  address facts f all is = by how
    where
      by : Becomes t e → form_address v (size_behind s.text.layout t) f ≡ pos n
      by (Becomes.Integers to integer) = both integer (placed_pointer s.frame e from.value facts f is)
      by (Becomes.Null to null bare) = let n = bare s.frame from.value facts in absurd cc
      by (Becomes.Literal to string ends element) = ap (λ size. form_address v size f) (ending_looser s.text.layout t e.note.ctype element).size ∙ g.place facts f all is
      by (Becomes.Pointers to element terminated) = ap (λ size. form_address v size f) (element_looser s.text.layout t e.note.ctype element terminated).size ∙ g.place facts f all is

  -- its form in the type is the number of the word that an object of the type keeps
  pub kept_number : v.number 0 ≡ pos 0 → (facts : Known) (f : Form) → AreFacts v facts → in_type facts t ((view s.frame e).form facts) ≡ Some f → number_of v.number f ≡ number_kept t n
  kept_number zero facts f all is = by how
    where
      kept_by : is_integer t ≡ true → IsExactBy v.number e.note.ctype f n → IsNumberOf t (number_of v.number f) → (b : Bool) → is_char t ≡ b → IsExactBy v.number t f (kept_part (if b then Byte else Word) n)
      kept_by i x r true c = byte_exact v.number t e.note.ctype f n i c x r
      kept_by i x r false c = word_exact v.number t e.note.ctype f n i c x r

      by : Becomes t e → number_of v.number f ≡ number_kept t n
      by (Becomes.Integers to integer) =
          let m = number_in_type v.number zero facts all t ((view s.frame e).form facts) f is in
          sym (kept_by to (record { word = g.word; number = sym (g.form facts f all m.0) }) m.1 (is_char t) refl).number
      by (Becomes.Null to null bare) = absurd (no_form t facts ((view s.frame e).form facts) f to is)
      by (Becomes.Literal to string ends element) = absurd (no_form t facts ((view s.frame e).form facts) f to is)
      by (Becomes.Pointers to element terminated) = absurd (no_form t facts ((view s.frame e).form facts) f to is)

  -- ---- in the words of containment

  pub argument_new : IsNewArgument (memory_of s store t) v (view s.frame e) from.value from.fresh at n
  argument_new = record {
    null = g.null;
    ranged = record { wide = wide; narrow = narrow_there; narrowed = range_narrowed s.frame e from.value from.fresh at []; element = λ a. absurd (cc) };
    numbers = λ some. g.fresh;
  }

  pub given_new : is_allocation e ≡ false → IsNew s.frame (memory_of s store t) v t e from at n
  given_new whole = record {
    null = g.null;
    ranged = subst (λ b. IsRanged (memory_of s store t) v n (received_range t b ((view s.frame e).range from.value from.fresh at)) (received_range t b ((view s.frame e).range from.value from.fresh (narrow at))) (has_element t b)) (sym none)
        (record { wide = wide; narrow = narrow_there; narrowed = range_narrowed s.frame e from.value from.fresh at []; element = λ a. absurd (cc) });
    fresh = λ some. g.fresh;
  }
    where
      none : (view s.frame e).allocates ≡ false
      none = allocates_is s.frame e ∙ whole

  pub given_from : is_allocation e ≡ false → IsFrom s.frame (memory_of s store t) v t e from at n
  given_from whole = record { place = address; value = given_new whole }
