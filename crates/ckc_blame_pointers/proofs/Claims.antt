-- What is claimed of an expression, by what is said of it and by what it becomes.
use Rattle.std.proofs.Common.{◌≡◌, ◌⊎◌, refl, sym, ap, subst, ℕ, Bool, true, false, List, arith}
use Rattle.std.specs.Prelude.{◌==◌, ◌<◌, ◌≤◌, ◌^◌, ◌+◌, IfSome, not, length, if◌then◌else◌, Option, None, Some, Result, Ok, Err}
use Rattle.std.specs.Option.{option_or}
use Rattle.ckc_types.specs.declared.types.Kind.{Kind}
use Rattle.ckc_types.specs.declared.types.Kind.TheVariants as kind
use Rattle.ckc_types.specs.declared.types.CType.{CType, CType-F, out-CType}
use Rattle.ckc_linear.specs.declared.forms.Base.{Base}
use Rattle.ckc_linear.specs.declared.forms.Base.TheVariants as base
use Rattle.ckc_linear.specs.declared.forms.Form.{Form}
use Rattle.ckc_typed.specs.declared.typed.Range.{Range}
use Rattle.ckc_typed.specs.declared.typed.Range.TheVariants as range
use Rattle.ckc_typed.specs.Conversions.{is_terminated_kind}
use Rattle.ckc_typed.specs.Types.{is_pointer, is_pointer_form, kind_of, kind_in, element_of}
use Rattle.ckc_blame_sound.specs.ckc_bounds_points.specs.declared.frame.Local.{Local}
use Rattle.ckc_blame_sound.specs.ckc_bounds_points.specs.Frames.{local_at}
use Rattle.ckc_blame_sound.specs.ckc_bounds_points.specs.Shown.{Known}
use Rattle.ckc_blame_sound.specs.ckc_bounds_points.specs.Flow.{State}
use Rattle.ckc_blame_sound.specs.ckc_bounds_views.specs.Parts.{NodeView, capped, next_behind}
use Rattle.ckc_blame_sound.specs.ckc_bounds_views.specs.Conditions.{wider, widened_by, widening, widening_side}
use Rattle.ckc_blame_sound.specs.ckc_bounds_views.specs.Places.{own_place, pointer_place}
use Rattle.ckc_blame_sound.specs.ckc_bounds_views.specs.Ranges.{own_numbers, pointer_range}
use Rattle.ckc_blame_sound.specs.ckc_bounds_statements.specs.Paths.{Here}
use Rattle.ckc_source.specs.declared.outcome.Value.{Value}
use Rattle.ckc_source.specs.declared.outcome.Halt.{Halt}
use Rattle.ckc_source.specs.declared.outcome.Halt.TheVariants as halt
use Rattle.ckc_source.specs.Eval.{Store, given, given_both}
use Rattle.ckc_source.specs.Runs.{is_true}
use Rattle.ckc_build_values.specs.Kinds.{pointee_of, size_behind}
use Rattle.ckc_blame_sound.specs.Settings.{Setting}
use Rattle.ckc_blame_sound.specs.Values.{AreTrue, IsWordOf}
use Rattle.ckc_blame_sound.specs.Points.{AreBounded, HoldsAt}
use Rattle.ckc_blame_sound.specs.Bodies.{AreFresh}
use Rattle.ckc_blame_pointers.specs.Valuations.{Valuation, Fits, Extends, AreTrueIn, AreNumbers, IsAtPlace, IsInRange, IsReadIn, BaseBetween, RangeBetween}
use Rattle.ckc_blame_pointers.specs.Covered.{DeclareOnes}
use Rattle.ckc_blame_pointers.specs.Meant.{IsNotStuck}
use Rattle.ckc_blame_pointers.proofs.Later.{with_zeros, zeros_extend, zeros_numbers, numbers_kept, next_more, extends_less, still_fits, base_wider, range_wider}

-- ---- evaluations that are not stuck

pub weaker : {P Q : Value → Type 0} (x : Result Value Halt) → IsNotStuck P x → ((v : Value) → x ≡ Ok v → P v → Q v) → IsNotStuck Q x
weaker (Ok v) h next = next v refl h
weaker (Err (halt.Stopped why at)) h next = tt
weaker (Err halt.Stuck) h next = h

pub goes_on : (P Q : Value → Type 0) (x : Result Value Halt) (f : Value → Result Value Halt) → IsNotStuck P x → ((v : Value) → x ≡ Ok v → P v → IsNotStuck Q (f v))
    → IsNotStuck Q (given x f)
goes_on P Q (Ok v) f h next = next v refl h
goes_on P Q (Err (halt.Stopped why at)) f h next = tt
goes_on P Q (Err halt.Stuck) f h next = h

pub both_go_on : (P Q R : Value → Type 0) (x y : Result Value Halt) (f : Value → Value → Result Value Halt) → IsNotStuck P x → IsNotStuck Q y
    → ((v w : Value) → x ≡ Ok v → y ≡ Ok w → P v → Q w → IsNotStuck R (f v w)) → IsNotStuck R (given_both x y f)
both_go_on P Q R x y f h k next = goes_on P R x (λ v. given y (f v)) h (λ v is p. goes_on Q R y (f v) k (λ w there q. next v w is there p q))

-- a base that is a local points to what the local points to
abbrev pub IsOfLocal : Setting → CType → Option Base → Type 0
IsOfLocal s t (Some (base.Local k)) = (l : Local) → local_at s.frame k ≡ Some l → element_of l.ctype ≡ element_of t
IsOfLocal s t _ = Unit {0}

not_one_in : (f : CType-F CType) → is_pointer_form f ≡ false → kind_in f ≡ Some kind.One → ⊥
not_one_in (CType-F.Pointer k t) p e = absurd (cc)
not_one_in CType-F.Int p e = absurd (cc)
not_one_in CType-F.Unsigned p e = absurd (cc)
not_one_in CType-F.Char p e = absurd (cc)
not_one_in CType-F.Void p e = absurd (cc)
not_one_in (CType-F.Struct tag) p e = absurd (cc)

module _ (s : Setting) (store : Store) (entry : List ℕ) where
  -- A `_Ptr` that is not null points to an element, if those of locals have the bounds of one.
  abbrev pub IsOne : CType → ℕ → Type 0
  IsOne t n =
      DeclareOnes s → kind_of t ≡ Some kind.One
      → (n ≡ 0) ⊎ (is_true store.shapes store.blocks (pointee_of s.text.layout t) n n (n + size_behind s.text.layout t) ≡ true)

  pub no_one : (t : CType) (n : ℕ) → is_pointer t ≡ false → IsOne t n
  no_one t n e ones one = absurd (not_one_in (out-CType t) e one)

  -- facts of a point, or ones that are true of a valuation
  abbrev pub AreTold : Here → Valuation → Known → Type 0
  AreTold here v facts = (facts ≡ here.at.facts) ⊎ AreTrueIn v facts

  -- Where a pointer is, by forms whose values have numbers from the first one on and below a limit, and of what types
  -- its fresh variables are. It is said of every later valuation, which says the same of these.
  pub record Placed (here : Here) (t : CType) (limit : ℕ) (place : Known → Option Form) (r : State → Range) (types : List CType) (first fresh : ℕ) (before : Valuation) (p : Value) : Type 0 where
    pub after : Valuation
    pub extends : Extends first fresh before after
    pub place_between : (facts : Known) → IfSome (place facts) (λ f. BaseBetween first limit f.base)
    pub range_between : (widened : List ℕ) → RangeBetween first limit (r (record here.at { widened = widened }))
    pub of_local : (facts : Known) → IfSome (place facts) (λ f. IsOfLocal s t f.base)
    pub place_in : (later : Valuation) → Extends limit (next_behind fresh types) after later → (facts : Known) → AreTold here later facts → IsAtPlace s store.locals later t (place facts) p.number
    pub range_is : (later : Valuation) → Extends limit (next_behind fresh types) after later → IsInRange s store later t (r here.at) p
    pub readable : (widened : List ℕ) → AreBounded s store widened here.seen → (later : Valuation) → Extends limit (next_behind fresh types) after later
        → IsReadIn s store later t (r (record here.at { widened = widened })) p.number
    pub numbers : (later : Valuation) → Extends limit (next_behind fresh types) after later → AreNumbers later.numbers (capped fresh 1) types

  -- a point on a side: it can be reached, and what is widened there may be read so
  pub record SideGoes (here : Here) (at : State) : Type 0 where
    pub reached : at.reached ≡ true
    pub widened : AreBounded s store at.widened here.seen

  pub record Claims (here : Here) (t : CType) (values : ℕ) (place : ℕ → Known → Option Form) (r : ℕ → ℕ → State → Range) (types : State → List CType) (behind : Option Kind) (target : ℕ → Known → Option Form) (is_zero : Bool)
      (side : Bool → State → State) (p : Value) : Type 0 where
    pub word : IsWordOf t p.number
    pub placed : (first fresh : ℕ) (before : Valuation) → first + values + 1 < 2 ^ 32 → fresh + length (types here.at) < 2 ^ 32 → AreFresh s.frame fresh → Fits s.frame store.locals before
        → Placed here t (first + values) (place first) (r first fresh) (types here.at) first fresh before p
    pub one : IsOne t p.number
    pub zero : is_zero ≡ true → p.number ≡ 0
    pub wide : (p.number == 0) ≡ false → AreBounded s store (widening s.frame behind (target 0 here.at.facts) here.at).widened here.seen
    pub sides : (b : Bool) → (p.number == 0) ≡ not b → SideGoes here (side b here.at)

  -- ---- points

  pub stays : (here : Here) → HoldsAt s store entry here → SideGoes here here.at
  stays here h = record { reached = h.reached; widened = h.widened }

  pub holds_on : (here : Here) (at : State) → HoldsAt s store entry here → SideGoes here at → AreTrue s.frame store.locals at.facts
      → HoldsAt s store entry (record here { at = at })
  holds_on here at h goes all = record {
    reached = goes.reached;
    counted = h.counted;
    words = h.words;
    facts = all;
    bounded = h.bounded;
    widened = goes.widened;
    entered = h.entered;
    kept = h.kept;
  }

  -- what reads through no `_Nt_array_ptr` widens nothing
  pub bare_wider : (behind : Option Kind) → is_terminated_kind behind ≡ false → (target : Option Form) (at : State) → widening s.frame behind target at ≡ at
  bare_wider behind bare target at = ap (λ b. wider (widened_by s.frame (if b then target else None)) at) bare

  pub nothing_read : (target : Known → Option Form) (b : Bool) (at : State) → widening_side s.frame None target b at ≡ at
  nothing_read target true at = refl
  nothing_read target false at = refl

  -- ---- what is where it is under each valuation

  -- a pointer whose place and range name no value
  pub still_placed : (here : Here) (t : CType) (limit : ℕ) (place : Known → Option Form) (r : State → Range) (types : List CType) (first fresh : ℕ) (before : Valuation) (p : Value)
      → fresh + length types < 2 ^ 32 → AreFresh s.frame fresh → Fits s.frame store.locals before
      → ((facts : Known) → IfSome (place facts) (λ f. BaseBetween first limit f.base)) → ((widened : List ℕ) → RangeBetween first limit (r (record here.at { widened = widened }))) → ((facts : Known) → IfSome (place facts) (λ f. IsOfLocal s t f.base))
      → ((v : Valuation) → Fits s.frame store.locals v → (facts : Known) → IsAtPlace s store.locals v t (place facts) p.number)
      → ((v : Valuation) → Fits s.frame store.locals v → IsInRange s store v t (r here.at) p)
      → ((widened : List ℕ) → AreBounded s store widened here.seen → (v : Valuation) → Fits s.frame store.locals v → IsReadIn s store v t (r (record here.at { widened = widened })) p.number)
      → Placed here t limit place r types first fresh before p
  still_placed here t limit place r types first fresh before p little are fits place_between range_between local at_place in_range readable = record {
    after = after;
    extends = zeros_extend first fresh before;
    place_between = place_between;
    range_between = range_between;
    of_local = local;
    place_in = λ later more facts told. at_place later (fits_later later more) facts;
    range_is = λ later more. in_range later (fits_later later more);
    readable = λ widened bounded later more. readable widened bounded later (fits_later later more);
    numbers = λ later more. numbers_kept after later limit fresh types little more (zeros_numbers fresh before types little);
  }
    where
      after : Valuation
      after = with_zeros fresh before

      fits_later : (later : Valuation) → Extends limit (next_behind fresh types) after later → Fits s.frame store.locals later
      fits_later later more =
          still_fits s store.locals 0 fresh after later are (still_fits s store.locals first fresh before after are fits (zeros_extend first fresh before))
          (extends_less 0 fresh limit (next_behind fresh types) after later (omega arith) (next_more fresh types little) more)

  -- the same place and range at the point, of as many fresh variables
  pub placed_as : (here : Here) (t : CType) (limit most : ℕ) (place other : Known → Option Form) (r q : State → Range) (ts us : List CType) (first fresh : ℕ) (before : Valuation) (p : Value) → most ≡ limit
      → ((facts : Known) → other facts ≡ place facts) → ((widened : List ℕ) → q (record here.at { widened = widened }) ≡ r (record here.at { widened = widened })) → us ≡ ts
      → Placed here t limit place r ts first fresh before p → Placed here t most other q us first fresh before p
  placed_as here t limit most place other r q ts us first fresh before p limit_is place_is range_is types_are c =
      subst (λ m. Placed here t m other q us first fresh before p) (sym limit_is) (subst (λ us. Placed here t limit other q us first fresh before p) (sym types_are) (record {
        after = c.after;
        extends = c.extends;
        place_between = λ facts. subst (λ (o : Option Form). IfSome o (λ f. BaseBetween first limit f.base)) (sym (place_is facts)) (c.place_between facts);
        range_between = λ widened. subst (RangeBetween first limit) (sym (range_is widened)) (c.range_between widened);
        of_local = λ facts. subst (λ (o : Option Form). IfSome o (λ f. IsOfLocal s t f.base)) (sym (place_is facts)) (c.of_local facts);
        place_in = λ later more facts told. subst (λ o. IsAtPlace s store.locals later t o p.number) (sym (place_is facts)) (c.place_in later more facts told);
        range_is = λ later more. subst (λ q. IsInRange s store later t q p) (sym (range_is here.at.widened)) (c.range_is later more);
        readable = λ widened bounded later more. subst (λ q. IsReadIn s store later t q p.number) (sym (range_is widened)) (c.readable widened bounded later more);
        numbers = c.numbers;
      }))

  -- numbers that begin further on begin here too, if fresh variables do
  pub placed_from : (here : Here) (t : CType) (limit : ℕ) (place : Known → Option Form) (r : State → Range) (types : List CType) (first next fresh : ℕ) (before : Valuation) (p : Value) → first ≤ next
      → Placed here t limit place r types next fresh before p → Placed here t limit place r types first fresh before p
  placed_from here t limit place r types first next fresh before p less q = record {
    after = q.after;
    extends = extends_less first fresh next fresh before q.after less (omega arith) q.extends;
    place_between = λ facts. wider (place facts) (q.place_between facts);
    range_between = λ widened. range_wider first next limit limit (r (record here.at { widened = widened })) less (omega arith) (q.range_between widened);
    of_local = q.of_local;
    place_in = q.place_in;
    range_is = q.range_is;
    readable = q.readable;
    numbers = q.numbers;
  }
    where
      wider : (o : Option Form) → IfSome o (λ f. BaseBetween next limit f.base) → IfSome o (λ f. BaseBetween first limit f.base)
      wider None b = tt
      wider (Some f) b = base_wider first next limit limit f.base less (omega arith) b

  -- ---- what is no pointer

  pub not_placed : (here : Here) (t : CType) (n : NodeView) (limit : ℕ) (types : List CType) (first fresh : ℕ) (before : Valuation) (p : Value) → is_pointer t ≡ false → (n.null ≡ true → p.number ≡ 0)
      → fresh + length types < 2 ^ 32 → AreFresh s.frame fresh → Fits s.frame store.locals before
      → Placed here t limit (pointer_place t n first) (pointer_range t n first fresh) types first fresh before p
  not_placed here t n limit types first fresh before p e null little are fits =
      still_placed here t limit (pointer_place t n first) (pointer_range t n first fresh) types first fresh before p little are fits
      (λ facts. subst (λ (f : Option Form). IfSome f (λ f. BaseBetween first limit f.base)) (sym (place_none facts)) tt)
      (λ widened. subst (RangeBetween first limit) (sym (range_none (record here.at { widened = widened }))) (between n.null))
      (λ facts. subst (λ (f : Option Form). IfSome f (λ f. IsOfLocal s t f.base)) (sym (place_none facts)) tt)
      (λ v fits facts. subst (λ o. IsAtPlace s store.locals v t o p.number) (sym (place_none facts)) tt)
      (λ v fits. subst (λ q. IsInRange s store v t q p) (sym (range_none here.at)) (in_range v n.null null))
      (λ widened bounded v fits. subst (λ q. IsReadIn s store v t q p.number) (sym (range_none (record here.at { widened = widened }))) (read_in v n.null null))
    where
      place_none : (facts : Known) → pointer_place t n first facts ≡ None
      place_none facts = by_pointer (is_pointer t) e
        where
          by_pointer : (b : Bool) → b ≡ false → ◌≡◌ {A = Option Form} (if b then option_or (n.place t first facts) (own_place n first) else None) None
          by_pointer true e = absurd (cc)
          by_pointer false e = refl

      range_none : (at : State) → pointer_range t n first fresh at ≡ (if n.null then range.Any else range.Missing)
      range_none at = ap (λ (b : Bool). if n.null then range.Any else (if b then n.range t (own_numbers n first fresh at) first fresh at else range.Missing)) e

      between : (b : Bool) → RangeBetween first limit (if b then range.Any else range.Missing)
      between true = tt
      between false = tt

      in_range : (v : Valuation) (b : Bool) → (b ≡ true → p.number ≡ 0) → IsInRange s store v t (if b then range.Any else range.Missing) p
      in_range v true null = null refl
      in_range v false null = tt

      read_in : (v : Valuation) (b : Bool) → (b ≡ true → p.number ≡ 0) → IsReadIn s store v t (if b then range.Any else range.Missing) p.number
      read_in v true null = null refl
      read_in v false null = tt
