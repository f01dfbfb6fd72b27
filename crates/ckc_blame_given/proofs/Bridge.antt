-- What an expression comes to, in the words of containment.
use Rattle.std.proofs.Common.{◌≡◌, inl, inr, refl, sym, ap, subst, ◌∙◌, ℕ, suc, Bool, true, false, List, [], ◌∷◌, arith}
use Rattle.std.specs.Prelude.{◌+◌, ◌<◌, ◌≤◌, ◌^◌, length, slice_index, nat_lt, if◌then◌else◌, ℤ, pos, ◌+ℤ◌, ◌*ℤ◌, Option, None, Some, IfSome, Ok, IsOk}
use Rattle.std.proofs.lemmas.Bool.Decides.{nat_tests}
use Rattle.ckc_base.specs.declared.arithmetic.Mode.{Mode}
use Rattle.ckc_types.specs.declared.types.CType.{CType}
use Rattle.ckc_linear.specs.declared.forms.Base.{Base}
use Rattle.ckc_linear.specs.declared.forms.Base.TheVariants as base
use Rattle.ckc_linear.specs.declared.forms.Form.{Form}
use Rattle.ckc_syntax.specs.declared.tree.Name.{Name}
use Rattle.ckc_syntax.specs.declared.tree.Expr.{Expr-F, out-Expr, map-Expr, fold_out-Expr}
use Rattle.ckc_typed.specs.declared.environment.Globals.{Globals}
use Rattle.ckc_typed.specs.declared.typed.Note.{Note}
use Rattle.ckc_typed.specs.declared.typed.Range.{Range}
use Rattle.ckc_typed.specs.declared.typed.Range.TheVariants as range
use Rattle.ckc_typed.specs.Conversions.{is_string}
use Rattle.ckc_typed.specs.Statics.{strings_of_expr}
use Rattle.ckc_typed.specs.Trees.{NotedLimits, NotedNode, NotedExpr}
use Rattle.ckc_typed.specs.Types.{is_pointer}
use Rattle.ckc_blame_sound.specs.ckc_bounds_points.specs.declared.frame.Frame.{Frame}
use Rattle.ckc_blame_sound.specs.ckc_bounds_points.specs.Shown.{Known}
use Rattle.ckc_blame_sound.specs.ckc_bounds_points.specs.Flow.{State}
use Rattle.ckc_blame_sound.specs.ckc_bounds_views.specs.Parts.{LimitsView, NodeView, View, capped, fresh_behind}
use Rattle.ckc_blame_sound.specs.ckc_bounds_views.specs.Ranges.{own_numbers}
use Rattle.ckc_blame_sound.specs.ckc_bounds_views.specs.Views.{limits_view, node_view, expr_view, view_of_limits, view_of_node, view}
use Rattle.ckc_blame_sound.specs.ckc_bounds_statements.specs.Paths.{Here}
use Rattle.ckc_blame_sound.specs.ckc_bounds_stores.specs.declared.values.Numbered.{Numbered}
use Rattle.ckc_source.specs.declared.outcome.Value.{Value}
use Rattle.ckc_source.specs.Eval.{Store, reads, evaluated}
use Rattle.ckc_source.specs.Words.{exact}
use Rattle.ckc_build_values.specs.Expressions.{expr_elaborated}
use Rattle.ckc_build_values.specs.Kinds.{integer_of, pointee_of, size_behind}
use Rattle.ckc_blame_sound.specs.Settings.{Setting, AreStrings}
use Rattle.ckc_blame_sound.specs.Values.{value, number_of, IsWordOf}
use Rattle.ckc_blame_sound.specs.Points.{AreBounded, HoldsAt}
use Rattle.ckc_blame_sound.specs.Bodies.{AreFresh}
use Rattle.ckc_blame_sound.proofs.Flow.{variable_value, integer_value}
use Rattle.ckc_blame_sound.specs.Typed.{IsTyped, Agrees}
use Rattle.ckc_blame_sound.proofs.Exprs as numbers
use Rattle.ckc_blame_sound.proofs.Holding.{form_exact_in}
use Rattle.ckc_blame_sound.proofs.Judging.{judged_typed}
use Rattle.ckc_blame_sound.specs.Valuations as contained
use Rattle.ckc_blame_sound.specs.Valuations.{form_address, AreFacts, IsValuationOf, AreNumbersOf}
use Rattle.ckc_blame_sound.specs.Containment.{IsReadWithin}
use Rattle.ckc_blame_sound.specs.GivenValues.{memory_of}
use Rattle.ckc_blame_sound.proofs.SameViews.{same_view}
use Rattle.ckc_blame_pointers.specs.Valuations.{Valuation, Fits, Extends, AreNumbers, address_in, address_by, IsAtPlace, IsReadIn, IsInRange, BaseBetween, RangeBetween}
use Rattle.ckc_blame_pointers.specs.Covered.{DeclareLocals, IsSoundStore, IsCovered}
use Rattle.ckc_blame_pointers.specs.Owed.{Comes}
use Rattle.ckc_blame_pointers.specs.Meant.{HasPlace, IsMeant}
use Rattle.ckc_blame_pointers.proofs.Later.{still_fits}
use Rattle.ckc_blame_pointers.proofs.Whole.{judged_meant}
use Rattle.ckc_blame_given.specs.Gives.{Continues, Gives, GivesOn}
use Rattle.ckc_blame_given.specs.At.{GivesAt}
use Rattle.ckc_blame_given.proofs.Comes.{comes_as}
use Rattle.ckc_blame_given.proofs.Literals.{EndsAt, judged_ends}
use Rattle.ckc_blame_given.proofs.Looser.{true_read}

-- ---- null

-- A pointer that is null has the range of one that may be used for any.
null_range : (frame : Frame) (e : NotedExpr) → (view frame e).null ≡ true → (first fresh : ℕ) (at : State) → (view frame e).range first fresh at ≡ range.Any
null_range frame e = subst (λ (v : View). v.null ≡ true → (first fresh : ℕ) (at : State) → v.range first fresh at ≡ range.Any) (sym made) (by (out-Expr Name Note e))
  where
    made : view frame e ≡ expr_view (map-Expr Name Note NotedLimits NotedNode NotedExpr LimitsView NodeView View (view_of_limits frame) (view_of_node frame) (view frame) (out-Expr Name Note e))
    made = fold_out-Expr Name Note LimitsView NodeView View limits_view (node_view frame) expr_view e

    by : (x : Expr-F Name Note NotedLimits NotedNode NotedExpr)
        → (expr_view (map-Expr Name Note NotedLimits NotedNode NotedExpr LimitsView NodeView View (view_of_limits frame) (view_of_node frame) (view frame) x)).null ≡ true → (first fresh : ℕ) (at : State)
        → (expr_view (map-Expr Name Note NotedLimits NotedNode NotedExpr LimitsView NodeView View (view_of_limits frame) (view_of_node frame) (view frame) x)).range first fresh at ≡ range.Any
    by x null first fresh at =
        ap (λ b. if b then range.Any else (if is_pointer x.note.ctype then (view_of_node frame x.node).range x.note.ctype (own_numbers (view_of_node frame x.node) first fresh at) first fresh at else range.Missing)) null

-- ---- valuations

-- what a valuation says of variables
abbrev of_numbers : contained.Valuation → (ℕ → ℕ) → Valuation
of_numbers w addresses = record { numbers = w.number; addresses = addresses }

fits_of : (s : Setting) (locals : List ℕ) (w : contained.Valuation) (addresses : ℕ → ℕ) → IsValuationOf s locals w → Fits s.frame locals (of_numbers w addresses)
fits_of s locals w addresses v x (inl e) = ap w.number e ∙ v.zero ∙ sym (ap (value s.frame locals) e)
fits_of s locals w addresses v x (inr (k, l, e, there, integer)) =
    let next : k + 1 ≡ suc k = omega arith in
    ap w.number (e ∙ next) ∙ v.number k l there integer ∙ sym (ap (value s.frame locals) e ∙ variable_value s.frame locals k l there ∙ integer_value l (slice_index locals k) integer)

-- A valuation that goes on from one by the addresses and the numbers of another.
abbrev address_on : (first : ℕ) → contained.Valuation → (ℕ → ℕ) → Option Base → ℤ
address_on first w addresses (Some (base.Value n)) = if nat_lt n first then w.address (Some (base.Value n)) else pos (addresses n)
address_on first w addresses b = w.address b

numbers_of : (v : contained.Valuation) (x : ℕ) (ts : List CType) → AreNumbers v.number x ts → AreNumbersOf v x ts
numbers_of v x [] h = tt
numbers_of v x (t ∷ ts) h = (h.0, numbers_of v (capped x 1) ts h.1)

module _ (s : Setting) (store : Store) (first limit : ℕ) (w : contained.Valuation) (values : IsValuationOf s store.locals w) (addresses : ℕ → ℕ)
    (known : (n : ℕ) → first ≤ n → n < limit → w.address (Some (base.Value n)) ≡ pos (addresses n)) where
  base_same : (b : Option Base) → BaseBetween first limit b → pos (address_in s store.locals (of_numbers w addresses) b) ≡ w.address b
  base_same (Some (base.Local k)) h = sym (values.pointer k)
  base_same (Some (base.Array k)) h = sym (values.array k)
  base_same (Some (base.Value n)) h = sym (known n h.0 h.1)
  base_same None h = absurd h

  form_same : (size : ℕ) (f : Form) → BaseBetween first limit f.base → address_by s store.locals (of_numbers w addresses) size f ≡ form_address w size f
  form_same size f h = ap (λ a. a +ℤ (pos size *ℤ number_of w.number f)) (base_same f.base h)

  null_ok : (t : CType) (low high : ℤ) (n : ℕ) → n ≡ 0 → IsOk (reads store.shapes store.blocks (pointee_of s.text.layout t) n low high)
  null_ok t low high n z = subst (λ n. IsOk (reads store.shapes store.blocks (pointee_of s.text.layout t) n low high)) (sym z) refl

  read_within : (t : CType) (r : Range) (n : ℕ) → RangeBetween first limit r → IsReadIn s store (of_numbers w addresses) t r n → IsReadWithin (memory_of s store t) w n r
  read_within t range.Missing n b i = tt
  read_within t range.Any n b i = tt
  read_within t (range.Known low high) n b (inl z) = null_ok t (form_address w (size_behind s.text.layout t) low) (form_address w (size_behind s.text.layout t) high) n z
  read_within t (range.Known low high) n b (inr e) =
      true_read store.shapes store.blocks (pointee_of s.text.layout t) n e.from e.to (form_address w (size_behind s.text.layout t) low) (form_address w (size_behind s.text.layout t) high)
      (e.low_is ∙ form_same (size_behind s.text.layout t) low b.0) (e.high_is ∙ form_same (size_behind s.text.layout t) high b.1) e.true_there

  at_place : (t : CType) (o : Option Form) (n : ℕ) → IfSome o (λ f. BaseBetween first limit f.base) → IsAtPlace s store.locals (of_numbers w addresses) t o n → (f : Form) → o ≡ Some f
      → form_address w (size_behind s.text.layout t) f ≡ pos n
  at_place t None n b h f e = absurd (cc)
  at_place t (Some g) n b h f e = let same : g ≡ f = cc in subst (λ f. form_address w (size_behind s.text.layout t) f ≡ pos n) same (sym (h ∙ form_same (size_behind s.text.layout t) g b))

-- ---- what an expression gives

module _ (globals : Globals) (s : Setting) (agrees : Agrees globals s) (declares : DeclareLocals s) (store : Store) (entry : List ℕ) (next : ℕ) (ready : IsSoundStore s store next) (here : Here) (h : HoldsAt s store entry here)
    (e : NotedExpr) (p : Value) (m : IsMeant s store entry here (view s.frame e) p) (type_is : (view s.frame e).ctype ≡ e.note.ctype)
    (form_is : (w : contained.Valuation) → IsValuationOf s store.locals w → (facts : Known) (f : Form) → AreFacts w facts → (view s.frame e).form facts ≡ Some f → number_of w.number f ≡ exact (integer_of e.note.ctype) p.number)
    (ends_is : is_string e ≡ true → EndsAt s store here.at (view s.frame e) e.note.ctype p.number) where
  module _ (from : Numbered) (before : contained.Valuation) (low : from.value + (view s.frame e).values + 1 < 2 ^ 32) (little : from.fresh + length ((view s.frame e).fresh here.at) < 2 ^ 32) (are : AreFresh s.frame from.fresh)
      (values : IsValuationOf s store.locals before) where
    abbrev limit : ℕ
    limit = from.value + (view s.frame e).values

    abbrev last : ℕ
    last = fresh_behind (view s.frame e) from.fresh here.at

    begin : Valuation
    begin = of_numbers before (λ n. 0)

    begin_fits : Fits s.frame store.locals begin
    unfolding begin
    begin_fits = fits_of s store.locals before (λ n. 0) values

    place : HasPlace s store here (view s.frame e) from.value from.fresh begin p
    place = m.placed from.value from.fresh begin low little are begin_fits

    after_fits : Fits s.frame store.locals place.after
    after_fits = still_fits s store.locals from.value from.fresh begin place.after are begin_fits place.extends

    after : contained.Valuation
    after = record { number = place.after.numbers; address = address_on from.value before place.after.addresses }

    after_values : IsValuationOf s store.locals after
    unfolding after
    after_values = record {
      zero = after_fits 0 (inl refl);
      number = λ k l there integer.
          let next : suc k ≡ k + 1 = omega arith in
          ap place.after.numbers next ∙ after_fits (k + 1) (inr (k, l, refl, there, integer)) ∙ variable_value s.frame store.locals k l there ∙ integer_value l (slice_index store.locals k) integer;
      pointer = values.pointer;
      array = values.array;
    }

    continues : Continues from.value from.fresh before after
    unfolding after begin
    continues = record {
      address = λ n less. ap (λ (b : Bool). if b then before.address (Some (base.Value n)) else pos (place.after.addresses n)) (under n less);
      number = λ x less. place.extends.numbers x less;
    }
      where
        under : (n : ℕ) → n < from.value → nat_lt n from.value ≡ true
        under n less = grind (arith, nat_tests)

    in_room : capped from.value (view s.frame e).values ≡ limit
    in_room = omega (arith, low)

    gives : (later : contained.Valuation) → IsValuationOf s store.locals later → Continues (capped from.value (view s.frame e).values) last after later → Gives s store later here.at e from p.number
    unfolding after
    gives later ok goes = record {
      word = subst (λ t. IsWordOf t p.number) type_is m.word;
      place = placed;
      form = λ facts f told there. form_is later ok facts f told there;
      null = λ null. subst (λ q. IsInRange s store place.after (view s.frame e).ctype q p) (null_range s.frame e null from.value from.fresh here.at) place.range;
      wide = read here.at.widened h.widened;
      ended = λ string. ends_is string later ok.zero from.value from.fresh placed;
      narrow = read [] h.bounded;
      fresh = numbers_of later (capped from.fresh 1) ((view s.frame e).fresh here.at) (place.numbers back goes_back);
    }
      where
        back : Valuation
        back = of_numbers later place.after.addresses

        goes_back : Extends limit last place.after back
        goes_back = record { addresses = λ n less. refl; numbers = λ x less. goes.number x less }

        known : (n : ℕ) → from.value ≤ n → n < limit → later.address (Some (base.Value n)) ≡ pos (place.after.addresses n)
        known n more less = goes.address n (subst (λ k. n < k) (sym in_room) less) ∙ ap (λ (b : Bool). if b then before.address (Some (base.Value n)) else pos (place.after.addresses n)) over
          where
            over : nat_lt n from.value ≡ false
            over = grind (arith, nat_tests)

        placed : (facts : Known) (f : Form) → AreFacts later facts → (view s.frame e).place from.value facts ≡ Some f → form_address later (size_behind s.text.layout e.note.ctype) f ≡ pos p.number
        placed facts f told there =
            subst (λ t. form_address later (size_behind s.text.layout t) f ≡ pos p.number) type_is
            (at_place s store from.value limit later ok place.after.addresses known (view s.frame e).ctype ((view s.frame e).place from.value facts) p.number (place.place_between facts) (place.place_in back goes_back facts told) f there)

        read : (widened : List ℕ) → AreBounded s store widened here.seen
            → IsReadWithin (memory_of s store e.note.ctype) later p.number ((view s.frame e).range from.value from.fresh (record here.at { widened = widened }))
        read widened bounded =
            subst (λ t. IsReadWithin (memory_of s store t) later p.number ((view s.frame e).range from.value from.fresh (record here.at { widened = widened }))) type_is
            (read_within s store from.value limit later ok place.after.addresses known (view s.frame e).ctype ((view s.frame e).range from.value from.fresh (record here.at { widened = widened })) p.number (place.range_between widened)
            (place.readable widened bounded back goes_back))

    gives_on : GivesOn s store before here.at e from p.number
    gives_on = record { after = after; values = after_values; continues = continues; gives = gives }

  pub gives_at : GivesAt s store here.at e p.number
  gives_at from before low little are values = gives_on from before low little are values

pub judged_gives : (m : Mode) (globals : Globals) (s : Setting) (agrees : Agrees globals s) (declares : DeclareLocals s) (store : Store) (entry : List ℕ) (next : ℕ) (ready : IsSoundStore s store next) (here : Here) (before after : NotedExpr)
    (fresh literals : ℕ) → fresh + length ((view s.frame before).fresh here.at) < 2 ^ 32 → AreFresh s.frame fresh → IsTyped globals s before → (view s.frame before).judged fresh here.at ≡ Ok after → IsCovered m s store here.seen after
    → AreStrings s literals (strings_of_expr after) → HoldsAt s store entry here
    → Comes m (λ p. GivesAt s store here.at before p.number) (evaluated store (expr_elaborated s.text s.variables literals after))
judged_gives m globals s agrees declares store entry next ready here before after fresh literals little are typed is covered strings h =
    comes_as m (IsMeant s store entry here (view s.frame before)) (λ p. GivesAt s store here.at before p.number) (evaluated store (expr_elaborated s.text s.variables literals after))
    (judged_meant m globals s agrees declares store entry next ready here before after fresh literals little are typed is covered strings h)
    (λ p there meant. gives_at globals s agrees declares store entry next ready here h before p meant (type_of before)
    (λ w values facts f told formed.
    sym (subst (λ t. exact (integer_of t) p.number ≡ number_of w.number f) types_are
    (form_exact_in globals s agrees after literals store p good h.words there w.number (fits_of s store.locals w (λ n. 0) values) facts told f (subst (λ (v : View). v.form facts ≡ Some f) (sym same) formed))))
    (judged_ends globals s store entry next ready here h before after fresh literals is good same types_are strings p there))
  where
    same : view s.frame after ≡ view s.frame before
    same = same_view s.frame before after fresh here.at is s.frame

    good : IsTyped globals s after
    good = (judged_typed globals s before after fresh here.at typed is).0

    type_of : (e : NotedExpr) → (view s.frame e).ctype ≡ e.note.ctype
    type_of e = (numbers.expr_holds globals s agrees e).viewed

    types_are : after.note.ctype ≡ before.note.ctype
    types_are = sym (type_of after) ∙ ap (λ (v : View). v.ctype) same ∙ type_of before
