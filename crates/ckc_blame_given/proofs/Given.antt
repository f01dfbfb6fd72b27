-- What a local has after a word is written to it.
use Rattle.std.proofs.Common.{◌≡◌, refl, sym, ap, subst, ◌∙◌, ℕ, Bool, true, false, arith}
use Rattle.std.specs.Prelude.{◌<◌, ◌^◌, ◌%◌, ◌&&◌, if◌then◌else◌, None, Some}
use Rattle.std.specs.Option.{option_or}
use Rattle.ckc_base.specs.declared.arithmetic.Width.TheVariants.{Byte, Word}
use Rattle.ckc_base.specs.Memory.{kept_part}
use Rattle.ckc_types.specs.declared.types.CType.{CType}
use Rattle.ckc_linear.specs.declared.forms.Form.{Form}
use Rattle.ckc_syntax.specs.declared.tree.Name.{Name}
use Rattle.ckc_syntax.specs.declared.tree.Expr.{Expr-F, map-Expr, fold-roll-Expr}
use Rattle.ckc_typed.specs.declared.typed.Note.{Note}
use Rattle.ckc_typed.specs.declared.typed.Range.{Range}
use Rattle.ckc_typed.specs.declared.typed.Range.TheVariants as range
use Rattle.ckc_typed.specs.Conversions.{is_terminated_kind}
use Rattle.ckc_typed.specs.Trees.{NotedExpr, NotedLimits, NotedNode}
use Rattle.ckc_typed.specs.Types.{is_char, is_pointer, kind_of}
use Rattle.ckc_blame_sound.specs.ckc_bounds_points.specs.declared.frame.Frame.{Frame}
use Rattle.ckc_blame_sound.specs.ckc_bounds_points.specs.Shown.{Known}
use Rattle.ckc_blame_sound.specs.ckc_bounds_points.specs.Flow.{State}
use Rattle.ckc_blame_sound.specs.ckc_bounds_views.specs.Parts.{LimitsView, NodeView, View}
use Rattle.ckc_blame_sound.specs.ckc_bounds_views.specs.Places.{own_place}
use Rattle.ckc_blame_sound.specs.ckc_bounds_views.specs.Ranges.{own_numbers}
use Rattle.ckc_blame_sound.specs.ckc_bounds_views.specs.Views.{limits_view, node_view, expr_view, view_of_limits, view_of_node, view}
use Rattle.ckc_blame_sound.specs.ckc_bounds_stores.specs.declared.values.Numbered.{Numbered}
use Rattle.ckc_blame_sound.specs.ckc_bounds_stores.specs.Values.{narrow, one_less, range_received, has_element}
use Rattle.ckc_blame_sound.specs.ckc_bounds_stores.specs.Stores.{Placed}
use Rattle.ckc_source.specs.Eval.{Store}
use Rattle.ckc_source.specs.Steps.{Write}
use Rattle.ckc_build_values.specs.Kinds.{width_of}
use Rattle.ckc_blame_sound.specs.Settings.{Setting}
use Rattle.ckc_blame_sound.specs.Values.{IsWordOf}
use Rattle.ckc_blame_sound.proofs.Types.{none_is_some, wide_word, byte_word}
use Rattle.ckc_blame_sound.specs.Valuations.{Valuation}
use Rattle.ckc_blame_sound.specs.Containment.{Memory, IsReadWithin, IsRanged}
use Rattle.ckc_blame_sound.specs.GivenValues.{memory_of, IsFrom, IsGiven, StayTrue}
use Rattle.ckc_blame_sound.proofs.KeptBounds.{reads_stay}
use Rattle.ckc_blame_given.specs.Written.{IsReceived, IsLocalWritten}

-- ---- what is no pointer

module _ (frame : Frame) (e : NotedExpr) where
  abbrev layer : Expr-F Name Note NotedLimits NotedNode NotedExpr
  layer = record { node = e.node; pos = e.pos; note = e.note }

  pub view_is : view frame e
      ≡ expr_view (map-Expr Name Note NotedLimits NotedNode NotedExpr LimitsView NodeView View (view_of_limits frame) (view_of_node frame) (view frame) layer)
  view_is = fold-roll-Expr Name Note LimitsView NodeView View limits_view (node_view frame) expr_view layer

  -- a range that is not known
  abbrev pub IsBare : Range → Type 0
  IsBare (range.Known low high) = ⊥
  IsBare r = Unit {0}

  module _ (bare : is_pointer e.note.ctype ≡ false) where
    pub no_place : (first : ℕ) (facts : Known) (f : Form) → (view frame e).place first facts ≡ Some f → ⊥
    no_place first facts f is =
        let none : (view frame e).place first facts ≡ None =
        ap (λ (v : View). v.place first facts) view_is
        ∙ ap (λ b. if b then option_or ((view_of_node frame e.node).place e.note.ctype first facts) (own_place (view_of_node frame e.node) first) else None) bare in
        none_is_some f (sym none ∙ is)

    bare_range : (first fresh : ℕ) (at : State) → IsBare ((view frame e).range first fresh at)
    bare_range first fresh at =
        subst IsBare
        (sym (ap (λ (v : View). v.range first fresh at) view_is
        ∙ ap (λ b. if (view_of_node frame e.node).null then range.Any
        else (if b then (view_of_node frame e.node).range e.note.ctype (own_numbers (view_of_node frame e.node) first fresh at) first fresh at else range.Missing)) bare))
        (by (view_of_node frame e.node).null)
      where
        by : (b : Bool) → IsBare (if b then range.Any else range.Missing)
        by true = tt
        by false = tt

    less_bare : (r : Range) → IsBare r → IsBare (one_less r)
    less_bare (range.Known low high) h = absurd h
    less_bare range.Any h = tt
    less_bare range.Missing h = tt

    pub received_bare : (t : CType) (n : Numbered) (at : State) → IsBare (range_received frame t e n at)
    received_bare t n at = by ((view frame e).allocates && is_terminated_kind (kind_of t))
      where
        by : (b : Bool) → IsBare (if b then one_less ((view frame e).range n.value n.fresh at) else (view frame e).range n.value n.fresh at)
        by true = less_bare ((view frame e).range n.value n.fresh at) (bare_range n.value n.fresh at)
        by false = bare_range n.value n.fresh at

    pub ranged_bare : (m : Memory) (v : Valuation) (n : ℕ) (r before : Range) (allocated : Bool) → IsBare r → IsBare before → IsRanged m v n r before allocated
    ranged_bare m v n (range.Known low high) before allocated h k = absurd h
    ranged_bare m v n r (range.Known low high) allocated h k = absurd k
    ranged_bare m v n range.Any range.Any allocated h k = record { wide = tt; narrow = tt; narrowed = tt; element = λ a d. tt }
    ranged_bare m v n range.Any range.Missing allocated h k = record { wide = tt; narrow = tt; narrowed = tt; element = λ a d. tt }
    ranged_bare m v n range.Missing range.Any allocated h k = record { wide = tt; narrow = tt; narrowed = tt; element = λ a d. tt }
    ranged_bare m v n range.Missing range.Missing allocated h k = record { wide = tt; narrow = tt; narrowed = tt; element = λ a d. tt }

-- ---- another store in which each range that was true is

module _ (before after : Store) (stay : StayTrue before after) (s : Setting) (v : Valuation) (t : CType) where
  within_stays : (n : ℕ) (r : Range) → IsReadWithin (memory_of s before t) v n r → IsReadWithin (memory_of s after t) v n r
  within_stays n (range.Known low high) h = reads_stay before after stay (memory_of s before t).to n _ _ h
  within_stays n range.Any h = tt
  within_stays n range.Missing h = tt

  pub from_stays : (e : NotedExpr) (n : Numbered) (at : State) (w : ℕ) → IsFrom s.frame (memory_of s before t) v t e n at w → IsFrom s.frame (memory_of s after t) v t e n at w
  from_stays e n at w h = record {
    place = h.place;
    value = record {
      null = h.value.null;
      ranged = record {
        wide = within_stays w (range_received s.frame t e n at) h.value.ranged.wide;
        narrow = within_stays w (range_received s.frame t e n (narrow at)) h.value.ranged.narrow;
        narrowed = h.value.ranged.narrowed;
        element = h.value.ranged.element;
      };
      fresh = h.value.fresh;
    };
  }

-- ---- what is kept of a word

-- what is kept of zero is zero
pub zero_kept : (t : CType) → kept_part (width_of t) 0 ≡ 0
zero_kept t = by (is_char t)
  where
    by : (b : Bool) → kept_part (if b then Byte else Word) 0 ≡ 0
    by true = refl
    by false = refl

-- a word of its type is kept
pub kept_word : (t : CType) (n : ℕ) → n < 2 ^ 32 → IsWordOf t (kept_part (width_of t) n)
kept_word t n small = by (is_char t) refl
  where
    by : (b : Bool) → is_char t ≡ b → IsWordOf t (kept_part (if b then Byte else Word) n)
    by true c = byte_word t (n % 256) c (omega arith)
    by false c = wide_word t n c small

module _ (s : Setting) (before after : Store) (stay : StayTrue before after) (v : Valuation) (at : State) where
  -- what a place has that gets a word
  pub from_kept : (t : CType) (e : NotedExpr) (from : Numbered) (n : ℕ) → IsReceived s before v at t e from n
      → IsFrom s.frame (memory_of s after t) v t e from at (kept_part (width_of t) n)
  from_kept t e from n r = by (is_char t) refl
    where
      by : (b : Bool) → is_char t ≡ b → IsFrom s.frame (memory_of s after t) v t e from at (kept_part (if b then Byte else Word) n)
      by true c =
          let bare = r.bare c in
          record {
            place = λ facts f all is. absurd (no_place s.frame e bare from.value facts f is);
            value = record {
              null = λ z. ap (λ m. m % 256) (r.gives.value.null z);
              ranged = ranged_bare s.frame e bare (memory_of s after t) v (n % 256) (range_received s.frame t e from at) (range_received s.frame t e from (narrow at))
                  (has_element t (view s.frame e).allocates) (received_bare s.frame e bare t from at) (received_bare s.frame e bare t from (narrow at));
              fresh = λ d. r.gives.value.fresh (λ z. d (ap (λ m. m % 256) z));
            };
          }
      by false c = from_stays before after stay s v t e from at n r.gives

  pub given_kept : (p : Placed) (k : ℕ) (w : Write) (h : IsLocalWritten s before v at p k w) → IsGiven s after v at h.local p (kept_part (width_of h.local.ctype) w.1)
  given_kept p k w h = subst P h.same (record {
    ctype = refl;
    place = from.place;
    form = h.received.form;
    value = from.value;
  })
    where
      from : IsFrom s.frame (memory_of s after p.target.note.ctype) v p.target.note.ctype p.right p.from at (kept_part (width_of p.target.note.ctype) w.1)
      from = from_kept p.target.note.ctype p.right p.from w.1 h.received

      P : CType → Type 0
      P t = IsGiven s after v at (record h.local { ctype = t }) p (kept_part (width_of t) w.1)
