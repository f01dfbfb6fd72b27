-- What right sides give to places.
use Rattle.std.proofs.Common.{◌≡◌, sym, ap, subst, ◌∙◌, ℕ, Bool, true, false, List, arith}
use Rattle.std.specs.Prelude.{◌+◌, ◌<◌, ◌^◌, if◌then◌else◌, length, Some, Ok}
use Rattle.ckc_base.specs.declared.arithmetic.Mode.{Mode}
use Rattle.ckc_types.specs.declared.types.CType.{CType}
use Rattle.ckc_typed.specs.declared.environment.Globals.{Globals}
use Rattle.ckc_typed.specs.Conversions.{converts, is_allocation}
use Rattle.ckc_typed.specs.Statics.{strings_of_expr}
use Rattle.ckc_typed.specs.Trees.{NotedExpr}
use Rattle.ckc_typed.specs.Types.{is_char, is_pointer}
use Rattle.ckc_blame_sound.specs.ckc_bounds_points.specs.Flow as flow
use Rattle.ckc_blame_sound.specs.ckc_bounds_points.specs.Forms.{in_type}
use Rattle.ckc_blame_sound.specs.ckc_bounds_views.specs.Parts.{View, capped, fresh_behind}
use Rattle.ckc_blame_sound.specs.ckc_bounds_views.specs.Views.{view}
use Rattle.ckc_blame_sound.specs.ckc_bounds_statements.specs.Paths.{Here}
use Rattle.ckc_blame_sound.specs.ckc_bounds_stores.specs.declared.values.Numbered.{Numbered}
use Rattle.ckc_blame_sound.specs.ckc_bounds_stores.specs.Values.{narrow, has_element, received_range}
use Rattle.ckc_source.specs.declared.program.Shape.{Shape}
use Rattle.ckc_source.specs.Code.{Value}
use Rattle.ckc_source.specs.Eval.{Store, evaluated}
use Rattle.ckc_source.specs.States.{State}
use Rattle.ckc_source.specs.Steps.{store_of, drawn}
use Rattle.ckc_build_values.specs.Expressions.{expr_elaborated}
use Rattle.ckc_blame_sound.specs.Bodies.{AreFresh}
use Rattle.ckc_blame_sound.specs.Settings.{Setting, AreStrings}
use Rattle.ckc_blame_sound.specs.Values.{IsWordOf}
use Rattle.ckc_blame_sound.specs.Typed.{IsTyped, Agrees}
use Rattle.ckc_blame_sound.proofs.SameViews.{same_view}
use Rattle.ckc_blame_sound.specs.Containment.{Memory, IsRanged}
use Rattle.ckc_blame_sound.specs.Valuations.{Valuation, IsValuationOf, AreNumbersOf}
use Rattle.ckc_blame_sound.specs.GivenValues.{IsFrom}
use Rattle.ckc_blame_given.specs.ckc_blame_pointers.specs.Covered.{DeclareLocals, IsCovered}
use Rattle.ckc_blame_given.specs.ckc_blame_pointers.specs.Owed.{Comes}
use Rattle.ckc_blame_given.proofs.Comes.{comes_on}
use Rattle.ckc_blame_given.specs.At.{GivesAt}
use Rattle.ckc_blame_given.specs.Gives.{Continues, Gives}
use Rattle.ckc_blame_given.proofs.Bridge.{judged_gives}
use Rattle.ckc_blame_given.proofs.From.{becomes_typed, given_from, kept_number}
use Rattle.ckc_blame_given.specs.Written.{IsReceived}
use Rattle.ckc_blame_given.proofs.Fitting.{same_type, char_bare}
use Rattle.ckc_blame_steps.specs.Plans.{IsAt, IsDrawn}
use Rattle.ckc_blame_steps.proofs.Comes.{same_state}

-- a word of a type is a word
wide : (t : CType) (n : ℕ) → IsWordOf t n → n < 2 ^ 32
wide t n h = by (is_char t) h
  where
    by : (b : Bool) → n < (if b then 256 else 2 ^ 32) → n < 2 ^ 32
    by true h = omega arith
    by false h = h

module _ (s : Setting) where
  -- what goes to a pointer, said of an expression of which the same is said
  from_as : (m : Memory) (v : Valuation) (t : CType) (f g : NotedExpr) → view s.frame f ≡ view s.frame g → (from : Numbered) (at : flow.State) (n : ℕ)
      → IsFrom s.frame m v t f from at n → IsFrom s.frame m v t g from at n
  from_as m v t f g same from at n h = record {
    place = λ facts x all is. h.place facts x all (subst (λ (w : View). w.place from.value facts ≡ Some x) (sym same) is);
    value = record {
      null = λ z. h.value.null (ap (λ (w : View). w.null) same ∙ z);
      ranged = subst (λ (w : View). IsRanged m v n (received_range t w.allocates (w.range from.value from.fresh at))
          (received_range t w.allocates (w.range from.value from.fresh (narrow at))) (has_element t w.allocates)) same h.value.ranged;
      fresh = λ d. subst (λ (w : View). AreNumbersOf v (capped from.fresh 1) (w.fresh at)) same (h.value.fresh d);
    };
  }

  module _ (globals : Globals) (t : CType) (f g : NotedExpr) (fresh : ℕ) (at : flow.State) (typed : IsTyped globals s f)
      (goes : converts t f ≡ true) (plain : is_allocation f ≡ false) (judged : (view s.frame f).judged fresh at ≡ Ok g) where
    pub same : view s.frame g ≡ view s.frame f
    same = same_view s.frame f g fresh at judged s.frame

    word_received : (store : Store) (v : Valuation) → IsValuationOf s store.locals v → (from : Numbered) (n : ℕ) → Gives s store v at f from n → IsReceived s store v at t g from n
    word_received store v values from n gives =
        let how = becomes_typed globals s f t typed goes plain in
        record {
          word = wide f.note.ctype n gives.word;
          gives = from_as _ v t f g (sym same) from at n (given_from s store at v f from n t how gives plain);
          form = λ facts x all is. kept_number s store at v f from n t how gives values.zero facts x all (subst (λ (w : View). in_type facts t (w.form facts) ≡ Some x) same is);
          bare = λ c. ap is_pointer (same_type s.frame f g fresh at judged) ∙ char_bare t f c goes;
        }

  module _ (m : Mode) (globals : Globals) (agrees : Agrees globals s) (declares : DeclareLocals s) (shapes : List Shape) (entry : List ℕ) (here : Here) (b : State) (is_at : IsAt s shapes entry here b)
      (t : CType) (f g : NotedExpr) (fresh literals : ℕ) (typed : IsTyped globals s f) (goes : converts t f ≡ true) (plain : is_allocation f ≡ false)
      (judged : (view s.frame f).judged fresh here.at ≡ Ok g) (little : fresh + length ((view s.frame g).fresh here.at) < 2 ^ 32) (are : AreFresh s.frame fresh)
      (covered : IsCovered m s (store_of shapes b) here.seen g) (strings : AreStrings s literals (strings_of_expr g)) where
    is_same : view s.frame g ≡ view s.frame f
    is_same = same_view s.frame f g fresh here.at judged s.frame

    of_number : (n : ℕ) → GivesAt s (store_of shapes b) here.at f n → IsDrawn s shapes entry here b t g (record { number = n; state = b })
    of_number n gives = record {
      grown = same_state b;
      at = is_at;
      gives = λ from before room are values.
          let on = gives from before (subst (λ (w : View). from.value + w.values + 1 < 2 ^ 32) is_same room.values)
          (subst (λ (w : View). from.fresh + length (w.fresh here.at) < 2 ^ 32) is_same room.variables) are values in
          record {
            after = on.after;
            values = on.values;
            continues = on.continues;
            received = λ later values goes_on.
                word_received globals t f g fresh here.at typed goes plain judged (store_of shapes b) later values from n
                (on.gives later values (subst (λ (w : View). Continues (capped from.value w.values) (fresh_behind w from.fresh here.at) on.after later) is_same goes_on));
          };
    }

    -- a value that is no `calloc`
    pub value_drawn : Comes m (IsDrawn s shapes entry here b t g) (drawn shapes b (Value (expr_elaborated s.text s.variables literals g)))
    value_drawn =
        comes_on m (λ p. GivesAt s (store_of shapes b) here.at f p.number) (IsDrawn s shapes entry here b t g) (evaluated (store_of shapes b) (expr_elaborated s.text s.variables literals g))
        (λ v. Ok (record { number = v.number; state = b }))
        (judged_gives m globals s agrees declares (store_of shapes b) entry b.next is_at.ready here f g fresh literals
        (subst (λ (w : View). fresh + length (w.fresh here.at) < 2 ^ 32) is_same little) are typed judged covered strings is_at.holds)
        (λ v is h. of_number v.number h)
