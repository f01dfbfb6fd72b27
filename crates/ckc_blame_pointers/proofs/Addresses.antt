-- The claims of `&*p` and `&p[e]`, which are those of p and of `p + e`, as pointers of another kind.
use Rattle.std.proofs.Common.{◌≡◌, inl, inr, ⊎_elim, refl, sym, ap, subst, ◌∙◌, ℕ, Bool, true, false, List, ◌++◌, arith, rules}
use Rattle.std.specs.Prelude.{◌+◌, ◌<◌, ◌≤◌, ◌^◌, ◌&&◌, length, if◌then◌else◌, pos, IfSome, Option, None, Some}
use Rattle.std.specs.Option.{option_or}
use Rattle.ckc_types.specs.declared.types.Kind.TheVariants as kind
use Rattle.ckc_types.specs.declared.types.Kind.{Kind}
use Rattle.ckc_types.specs.declared.types.CType.{CType, CType-F, out-CType, the_lemmas}
use Rattle.ckc_types.specs.declared.types.CType.TheVariants as ctype
use Rattle.ckc_base.specs.declared.places.Pos.{Pos}
use Rattle.ckc_base.specs.declared.arithmetic.Mode.{Mode}
use Rattle.ckc_base.specs.declared.arithmetic.Mode.TheVariants.{Checked, Unchecked}
use Rattle.ckc_syntax.specs.declared.tree.Node.{Node-F}
use Rattle.ckc_syntax.specs.declared.tree.TreeOp.TheVariants as op
use Rattle.ckc_typed.specs.declared.typed.Note.{Note}
use Rattle.ckc_typed.specs.Expressions.{address_kind}
use Rattle.ckc_typed.specs.Operands.{is_raw_kind}
use Rattle.ckc_typed.specs.Trees.{NotedExpr}
use Rattle.ckc_linear.specs.declared.forms.Base.{Base}
use Rattle.ckc_linear.specs.declared.forms.Base.TheVariants as base
use Rattle.ckc_linear.specs.declared.forms.Form.{Form}
use Rattle.ckc_typed.specs.declared.typed.Range.{Range}
use Rattle.ckc_typed.specs.declared.typed.Range.TheVariants as range
use Rattle.ckc_typed.specs.Constants.{size_of}
use Rattle.ckc_typed.specs.Conversions.{is_terminated_kind}
use Rattle.ckc_typed.specs.Types.{is_pointer, is_pointer_form, kind_of, kind_in, element_of, element_in}
use Rattle.ckc_blame_sound.specs.ckc_bounds_points.specs.Shown.{Known}
use Rattle.ckc_blame_sound.specs.ckc_bounds_points.specs.Flow.{State}
use Rattle.ckc_blame_sound.specs.ckc_bounds_points.specs.Forms.{base_form, sum_of_forms}
use Rattle.ckc_blame_sound.specs.ckc_bounds_views.specs.Parts.{NodeView, capped, next_behind, fresh_behind}
use Rattle.ckc_blame_sound.specs.ckc_bounds_views.specs.Places.{with_own, binary_place, pointer_place}
use Rattle.ckc_blame_sound.specs.ckc_bounds_views.specs.Ranges.{range_of_operand, pointer_range}
use Rattle.ckc_blame_sound.specs.ckc_bounds_views.specs.Views.{node_view, expr_view, view}
use Rattle.ckc_blame_sound.specs.ckc_bounds_statements.specs.Paths.{Here}
use Rattle.ckc_source.specs.declared.outcome.Value.{Value}
use Rattle.ckc_source.specs.Eval.{Store}
use Rattle.ckc_source.specs.Runs.{is_true}
use Rattle.ckc_build_values.specs.Kinds.{pointee_of, size_behind}
use Rattle.ckc_blame_sound.specs.Settings.{Setting}
use Rattle.ckc_blame_sound.specs.Points.{HoldsAt}
use Rattle.ckc_blame_sound.specs.Bodies.{AreFresh}
use Rattle.ckc_blame_pointers.specs.Valuations.{Valuation, Fits, Extends, address_by, IsAtPlace, HasEnds, IsInRange, IsReadIn, BaseBetween}
use Rattle.ckc_blame_pointers.proofs.Claims.{IsOfLocal, Placed, SideGoes, stays, nothing_read, placed_as}
use Rattle.ckc_blame_pointers.proofs.Moving.{with_address, address_added, address_kept, at_base}
use Rattle.ckc_blame_pointers.proofs.Later.{extends_less, extends_on, still_fits, next_more, base_wider, range_wider}
use Rattle.ckc_blame_pointers.proofs.Unwidened.{fresh_same, right_fresh_is}
use Rattle.ckc_blame_sound.proofs.Types.{word_wide}
use Rattle.ckc_blame_pointers.proofs.Binary.{ExprClaims}
use Rattle.ckc_blame_pointers.proofs.Nodes.{node_fresh, NodeClaims, narrow}
use Rattle.ckc_blame_pointers.proofs.Own.{missing_claims}
use Rattle.ckc_blame_pointers.proofs.Rows.{pointer_word}
use Rattle.ckc_blame_pointers.proofs.Truths.{true_bare}

-- A range is true for a type to the same elements that is not null-terminated.
pub true_retyped : (s : Setting) (store : Store) (t r : CType) → element_of r ≡ element_of t → is_terminated_kind (kind_of r) ≡ false → (n low high : ℕ) → is_true store.shapes store.blocks (pointee_of s.text.layout t) n low high ≡ true
    → is_true store.shapes store.blocks (pointee_of s.text.layout r) n low high ≡ true
true_retyped s store t r same bare n low high e =
    subst (λ q. is_true store.shapes store.blocks (record { element = q; size = size_of s.text.layout q; terminated = is_terminated_kind (kind_of r) }) n low high ≡ true) (sym same)
    (subst (λ c. is_true store.shapes store.blocks (record { element = element_of t; size = size_behind s.text.layout t; terminated = c }) n low high ≡ true) (sym bare)
    (true_bare (element_of t) (size_behind s.text.layout t) (is_terminated_kind (kind_of t)) n low high store.shapes store.blocks e))

module _ (s : Setting) (store : Store) (entry : List ℕ) (here : Here) where
  -- ---- a pointer of which less is said

  some_less : (Q : Form → Type 0) (o whole : Option Form) → ((f : Form) → o ≡ Some f → whole ≡ Some f) → IfSome whole Q → IfSome o Q
  some_less Q None whole less there = tt
  some_less Q (Some f) whole less there = subst (λ (o : Option Form). IfSome o Q) (less f refl) there

  -- its place at fewer facts
  placed_less : (t : CType) (limit : ℕ) (place whole : Known → Option Form) (r : State → Range) (types : List CType) (first fresh : ℕ) (before : Valuation) (v : Value) → ((facts : Known) (f : Form) → place facts ≡ Some f → whole facts ≡ Some f)
      → Placed s store entry here t limit whole r types first fresh before v → Placed s store entry here t limit place r types first fresh before v
  placed_less t limit place whole r types first fresh before v less p = record {
    after = p.after;
    extends = p.extends;
    place_between = λ facts. some_less (λ f. BaseBetween first limit f.base) (place facts) (whole facts) (less facts) (p.place_between facts);
    range_between = p.range_between;
    of_local = λ facts. some_less (λ f. IsOfLocal s t f.base) (place facts) (whole facts) (less facts) (p.of_local facts);
    place_in = λ later ext facts told. some_less (λ f. pos v.number ≡ address_by s store.locals later (size_behind s.text.layout t) f) (place facts) (whole facts) (less facts) (p.place_in later ext facts told);
    range_is = p.range_is;
    readable = p.readable;
    numbers = p.numbers;
  }

  -- ---- a pointer that stands for itself if it has no place

  module _ (t : CType) (limit most : ℕ) (place : Known → Option Form) (r : State → Range) (types : List CType) (first fresh : ℕ) (before : Valuation) (v : Value) (p : Placed s store entry here t limit place r types first fresh before v)
      (little : fresh + length types < 2 ^ 32) (are : AreFresh s.frame fresh) (fits : Fits s.frame store.locals before) (n : ℕ) (from : first ≤ n) (over : limit ≤ n) (under : n < most) where
    abbrev after : Valuation
    after = with_address n v.number p.after

    own_kept : (first last : ℕ) → first ≤ n → Extends first last p.after after
    own_kept first last up = record { addresses = λ k below. address_kept n v.number p.after k (omega (arith, below, up)); numbers = λ x below. refl }

    part : (later : Valuation) → Extends most (next_behind fresh types) after later → Extends limit (next_behind fresh types) p.after later
    part later ext =
        extends_on limit (next_behind fresh types) p.after after later (own_kept limit (next_behind fresh types) over)
        (extends_less limit (next_behind fresh types) most (next_behind fresh types) after later (omega (arith, over, under)) (omega arith) ext)

    fits_later : (later : Valuation) → Extends most (next_behind fresh types) after later → Fits s.frame store.locals later
    fits_later later ext =
        still_fits s store.locals 0 fresh after later are (still_fits s store.locals first fresh before after are fits (extends_on first fresh before p.after after p.extends (own_kept first fresh from)))
        (extends_less 0 fresh most (next_behind fresh types) after later (omega arith) (next_more fresh types little) ext)

    pub or_own : Placed s store entry here t most (λ facts. option_or (place facts) (Some (base_form (base.Value n)))) r types first fresh before v
    or_own = record {
      after = after;
      extends = extends_on first fresh before p.after after p.extends (own_kept first fresh from);
      place_between = λ facts. between (place facts) (p.place_between facts);
      range_between = λ widened. range_wider first first limit most (r (record here.at { widened = widened })) (omega arith) (omega (arith, over, under)) (p.range_between widened);
      of_local = λ facts. local (place facts) (p.of_local facts);
      place_in = λ later ext facts told. at_place later ext (place facts) (p.place_in later (part later ext) facts told);
      range_is = λ later ext. p.range_is later (part later ext);
      readable = λ widened bounded later ext. p.readable widened bounded later (part later ext);
      numbers = λ later ext. p.numbers later (part later ext);
    }
      where
        between : (o : Option Form) → IfSome o (λ f. BaseBetween first limit f.base) → IfSome (option_or o (Some (base_form (base.Value n)))) (λ f. BaseBetween first most f.base)
        between (Some h) there = base_wider first first limit most h.base (omega arith) (omega (arith, over, under)) there
        between None there = (from, under)

        local : (o : Option Form) → IfSome o (λ f. IsOfLocal s t f.base) → IfSome (option_or o (Some (base_form (base.Value n)))) (λ f. IsOfLocal s t f.base)
        local (Some h) there = there
        local None there = tt

        at_place : (later : Valuation) → Extends most (next_behind fresh types) after later → (o : Option Form) → IsAtPlace s store.locals later t o v.number
            → IsAtPlace s store.locals later t (option_or o (Some (base_form (base.Value n)))) v.number
        at_place later ext (Some h) there = there
        at_place later ext None there =
            sym (at_base s store.locals t later (fits_later later ext 0 (inl refl)) (base.Value n) ∙ ap pos (ext.addresses n under ∙ address_added n v.number p.after))

  -- ---- a pointer of another type

  -- An unchecked pointer is of no checked type.
  module _ (t r : CType) (same : element_of r ≡ element_of t) (bare : is_terminated_kind (kind_of r) ≡ false) (checked : is_raw_kind (kind_of r) ≡ false → is_raw_kind (kind_of t) ≡ false) where
    size_same : size_behind s.text.layout t ≡ size_behind s.text.layout r
    size_same = ap (size_of s.text.layout) (sym same)

    of_there : (b : Option Base) → IsOfLocal s t b → IsOfLocal s r b
    of_there (Some (base.Local k)) h = λ l there. h l there ∙ sym same
    of_there (Some (base.Array k)) h = tt
    of_there (Some (base.Value k)) h = tt
    of_there None h = tt

    in_range : (v : Valuation) (q : Range) (p : Value) → IsInRange s store v t q p → IsInRange s store v r q p
    in_range v range.Missing p h = tt
    in_range v range.Any p h = h
    in_range v (range.Known low high) p h = ⊎_elim (λ null. inl null) (λ (ends : HasEnds s store v t low high p). inr (record {
      from = ends.from;
      to = ends.to;
      range = λ no_raw. ends.range (checked no_raw);
      low_is = ends.low_is ∙ ap (λ n. address_by s store.locals v n low) size_same;
      high_is = ends.high_is ∙ ap (λ n. address_by s store.locals v n high) size_same;
      true_there = true_retyped s store t r same bare p.number ends.from ends.to ends.true_there;
    })) h

    at_place : (v : Valuation) (o : Option Form) (n : ℕ) → IsAtPlace s store.locals v t o n → IsAtPlace s store.locals v r o n
    at_place v None n h = tt
    at_place v (Some f) n h = h ∙ ap (λ n. address_by s store.locals v n f) size_same

    of_place : (o : Option Form) → IfSome o (λ f. IsOfLocal s t f.base) → IfSome o (λ f. IsOfLocal s r f.base)
    of_place None h = tt
    of_place (Some f) h = of_there f.base h

    read_in : (v : Valuation) (q : Range) (n : ℕ) → IsReadIn s store v t q n → IsReadIn s store v r q n
    read_in v range.Missing n h = tt
    read_in v range.Any n h = h
    read_in v (range.Known low high) n (inl null) = inl null
    read_in v (range.Known low high) n (inr ends) = inr (record {
      from = ends.from;
      to = ends.to;
      low_is = ends.low_is ∙ ap (λ n. address_by s store.locals v n low) size_same;
      high_is = ends.high_is ∙ ap (λ n. address_by s store.locals v n high) size_same;
      true_there = true_retyped s store t r same bare n ends.from ends.to ends.true_there;
    })

    pub retyped : (limit : ℕ) (place : Known → Option Form) (q : State → Range) (types : List CType) (first fresh : ℕ) (before : Valuation) (p : Value) → Placed s store entry here t limit place q types first fresh before p
        → Placed s store entry here r limit place q types first fresh before p
    retyped limit place q types first fresh before p h = record {
      after = h.after;
      extends = h.extends;
      place_between = h.place_between;
      range_between = h.range_between;
      of_local = λ facts. of_place (place facts) (h.of_local facts);
      place_in = λ later more facts told. at_place later (place facts) p.number (h.place_in later more facts told);
      range_is = λ later more. in_range later (q here.at) p (h.range_is later more);
      readable = λ widened bounded later more. read_in later (q (record here.at { widened = widened })) p.number (h.readable widened bounded later more);
      numbers = h.numbers;
    }

-- ---- the claims of an address

-- a type of addresses of what has a type: of pointers to it that are no `_Ptr` and not null-terminated
pub record IsAddressType (r t : CType) : Type 0 where
  pub pointer : is_pointer r ≡ true
  pub several : kind_of r ≡ Some kind.One → ⊥
  pub bare : is_terminated_kind (kind_of r) ≡ false
  pub element : element_of r ≡ t

module _ (s : Setting) (store : Store) (entry : List ℕ) (here : Here) (h : HoldsAt s store entry here) where
  -- what has the place and the range of a pointer to the same elements, by whatever numbers
  pub address_claims : (t r : CType) → IsAddressType r (element_of t) → (is_raw_kind (kind_of r) ≡ false → is_raw_kind (kind_of t) ≡ false) → (n : NodeView) → n.behind ≡ None → n.is_zero ≡ false → ((b : Bool) → n.side b here.at ≡ here.at) → (p : Value) → p.number < 2 ^ 32
      → ((first fresh : ℕ) (before : Valuation) → first + with_own r n + 1 < 2 ^ 32 → fresh + length (node_fresh r n here.at) < 2 ^ 32 → AreFresh s.frame fresh → Fits s.frame store.locals before
      → Placed s store entry here t (first + with_own r n) (pointer_place r n first) (pointer_range r n first fresh) (node_fresh r n here.at) first fresh before p)
      → NodeClaims s store entry here h r n p
  address_claims t r type checked n none some quiet p small placed = record {
    word = pointer_word r type.pointer p.number small;
    placed = λ first fresh before low little are fits.
        retyped s store entry here t r type.element type.bare checked (first + with_own r n) (pointer_place r n first) (pointer_range r n first fresh) (node_fresh r n here.at) first fresh before p
        (placed first fresh before low little are fits);
    one = λ ones one. absurd (type.several one);
    zero = λ e. let other = some in absurd (cc);
    wide = λ e. narrow s store entry here h n none;
    sides = λ b e. subst (SideGoes s store entry here) (sym (quiet b)) (stays s store entry here h);
  }

-- ---- `&*p` and `&p[e]`

pointer_form : (k : Kind) (t : CType) → out-CType (ctype.Pointer k t) ≡ CType-F.Pointer k t
pointer_form k t = search (rules, the_lemmas)

-- the type of an address in code of either mode
pub address_row : (mode : Mode) (t u : CType) → ctype.Pointer (address_kind mode) t ≡ u → IsAddressType u t
address_row mode t u e = subst (λ u. IsAddressType u t) e (record {
  pointer = ap is_pointer_form (pointer_form (address_kind mode) t);
  several = λ one. no_one mode (sym kind_is ∙ one);
  bare = ap is_terminated_kind kind_is ∙ ends_bare mode;
  element = ap element_in (pointer_form (address_kind mode) t);
})
  where
    kind_is : kind_of (ctype.Pointer (address_kind mode) t) ≡ Some (address_kind mode)
    kind_is = ap kind_in (pointer_form (address_kind mode) t)

    no_one : (mode : Mode) → ◌≡◌ {A = Option Kind} (Some (address_kind mode)) (Some kind.One) → ⊥
    no_one Checked e = absurd (cc)
    no_one Unchecked e = absurd (cc)

    ends_bare : (mode : Mode) → is_terminated_kind (Some (address_kind mode)) ≡ false
    ends_bare Checked = refl
    ends_bare Unchecked = refl

module _ (s : Setting) (store : Store) (entry : List ℕ) (here : Here) (h : HoldsAt s store entry here) (e : NotedExpr) (note : Note) (place : Pos) (r : CType) (type : IsAddressType r (element_of e.note.ctype)) where
  abbrev pub address_view : NodeView → NodeView
  address_view n = node_view s.frame (Node-F.Un op.Address (expr_view (record { node = n; pos = place; note = note })))

  pub target_claims : (is_raw_kind (kind_of r) ≡ false → is_raw_kind (kind_of e.note.ctype) ≡ false) → (x : Value) → ExprClaims s store entry here e x
      → NodeClaims s store entry here h r (address_view (node_view s.frame (Node-F.Un op.Deref (view s.frame e)))) x
  target_claims checked x c =
      address_claims s store entry here h e.note.ctype r type checked made refl refl (λ b. nothing_read s store entry (λ facts. None) b here.at) x (word_wide e.note.ctype x.number c.word)
      (λ first fresh before low little are fits. placed_so first fresh before (room first (view s.frame e).values (is_pointer note.ctype) (subst (λ m. first + m + 1 < 2 ^ 32) own_is low)) little are fits)
    where
      made : NodeView
      made = address_view (node_view s.frame (Node-F.Un op.Deref (view s.frame e)))

      own_is : with_own r made ≡ capped made.values 1
      own_is = ap (λ b. if b && true then capped made.values 1 else made.values) type.pointer

      place_is : (first : ℕ) (facts : Known) → pointer_place r made first facts ≡ option_or ((view s.frame e).place first facts) (Some (base_form (base.Value (capped first made.values))))
      place_is first facts = ap (λ b. if b then option_or ((view s.frame e).place first facts) (Some (base_form (base.Value (capped first made.values)))) else None) type.pointer

      range_is : (first fresh : ℕ) (widened : List ℕ) → pointer_range r made first fresh (record here.at { widened = widened }) ≡ (view s.frame e).range first fresh (record here.at { widened = widened })
      range_is first fresh widened = ap (λ b. if b then (view s.frame e).range first fresh (record here.at { widened = widened }) else range.Missing) type.pointer

      room : (first n : ℕ) (b : Bool) → first + capped (if b && true then capped n 1 else n) 1 + 1 < 2 ^ 32
          → (first + n + 1 < 2 ^ 32) × (first ≤ capped first (if b && true then capped n 1 else n)) × (first + n ≤ capped first (if b && true then capped n 1 else n))
          × (capped first (if b && true then capped n 1 else n) < first + capped (if b && true then capped n 1 else n) 1)
      room first n true low = (omega arith, omega arith, omega arith, omega arith)
      room first n false low = (omega arith, omega arith, omega arith, omega arith)

      placed_so : (first fresh : ℕ) (before : Valuation)
          → (first + (view s.frame e).values + 1 < 2 ^ 32) × (first ≤ capped first made.values) × (first + (view s.frame e).values ≤ capped first made.values)
          × (capped first made.values < first + capped made.values 1)
          → fresh + length ((view s.frame e).fresh here.at) < 2 ^ 32 → AreFresh s.frame fresh → Fits s.frame store.locals before
          → Placed s store entry here e.note.ctype (first + with_own r made) (pointer_place r made first) (pointer_range r made first fresh) (node_fresh r made here.at) first fresh before x
      placed_so first fresh before there little are fits =
          let p = c.placed first fresh before there.0 little are fits in
          placed_as s store entry here e.note.ctype (first + capped made.values 1) (first + with_own r made) _ (pointer_place r made first) ((view s.frame e).range first fresh) (pointer_range r made first fresh) ((view s.frame e).fresh here.at)
          (node_fresh r made here.at) first fresh before x (ap (λ m. first + m) own_is) (place_is first) (range_is first fresh) refl
          (or_own s store entry here e.note.ctype (first + (view s.frame e).values) (first + capped made.values 1) ((view s.frame e).place first) ((view s.frame e).range first fresh) ((view s.frame e).fresh here.at)
          first fresh before x p little are fits (capped first made.values) there.1 there.2 there.3)

  checked_index : (f : NotedExpr) → is_pointer e.note.ctype ≡ true → is_raw_kind (kind_of e.note.ctype) ≡ false → (view s.frame e).ctype ≡ e.note.ctype → (x : Value)
      → NodeClaims s store entry here h e.note.ctype (node_view s.frame (Node-F.Bin op.Add (view s.frame e) (view s.frame f))) x
      → NodeClaims s store entry here h r (address_view (node_view s.frame (Node-F.Index (view s.frame e) (view s.frame f)))) x
  checked_index f from checked viewed x c =
      address_claims s store entry here h e.note.ctype r type (λ no_raw. checked) made refl refl (λ b. nothing_read s store entry (λ facts. None) b here.at) x (word_wide e.note.ctype x.number c.word)
      (λ first fresh before low little are fits. by (is_pointer note.ctype) refl first fresh before low little are fits)
    where
      made : NodeView
      made = address_view (node_view s.frame (Node-F.Index (view s.frame e) (view s.frame f)))

      sum : NodeView
      sum = node_view s.frame (Node-F.Bin op.Add (view s.frame e) (view s.frame f))

      raw : is_raw_kind (kind_of (view s.frame e).ctype) ≡ false
      raw = ap (λ t. is_raw_kind (kind_of t)) viewed ∙ checked

      view_pointer : is_pointer (view s.frame e).ctype ≡ true
      view_pointer = ap is_pointer viewed ∙ from

      values_are : made.values ≡ (if is_pointer note.ctype && true then capped sum.values 1 else sum.values)
      values_are = refl

      sum_own : with_own e.note.ctype sum ≡ capped sum.values 1
      sum_own = ap (λ b. if b && true then capped sum.values 1 else sum.values) from

      own_made : with_own r made ≡ capped made.values 1
      own_made = ap (λ b. if b && true then capped made.values 1 else made.values) type.pointer

      own_form : ℕ → Option Form
      own_form n = Some (base_form (base.Value n))

      types_are : node_fresh r made here.at ≡ node_fresh e.note.ctype sum here.at
      types_are = ap (λ us. (view s.frame e).fresh here.at ++ us) (sym (right_fresh_is s.frame op.Add (view s.frame e) f here.at))

      form_there : ℕ → Known → Option Form
      form_there first facts = sum_of_forms ((view s.frame e).place first facts) ((view s.frame f).form facts)

      place_made : (first : ℕ) (facts : Known) → pointer_place r made first facts ≡ option_or (form_there first facts) (own_form (capped first made.values))
      place_made first facts =
          ap (λ b. if b then option_or (if is_raw_kind (kind_of (view s.frame e).ctype) then None else form_there first facts) (own_form (capped first made.values)) else None) type.pointer
          ∙ ap (λ b. option_or (if b then None else form_there first facts) (own_form (capped first made.values))) raw

      place_sum : (first : ℕ) (facts : Known) → pointer_place e.note.ctype sum first facts ≡ option_or (form_there first facts) (own_form (capped first sum.values))
      place_sum first facts =
          ap (λ b. if b then option_or (if is_raw_kind (kind_of e.note.ctype) then None else binary_place first facts op.Add (view s.frame e) (view s.frame f)) (own_form (capped first sum.values)) else None) from
          ∙ ap (λ b. option_or (if b then None else binary_place first facts op.Add (view s.frame e) (view s.frame f)) (own_form (capped first sum.values))) checked
          ∙ ap (λ b. option_or (if b then form_there first facts else sum_of_forms ((view s.frame f).place (capped first (view s.frame e).values) facts) ((view s.frame e).form facts)) (own_form (capped first sum.values))) view_pointer

      range_is : (first fresh : ℕ) (widened : List ℕ) → pointer_range r made first fresh (record here.at { widened = widened }) ≡ pointer_range e.note.ctype sum first fresh (record here.at { widened = widened })
      range_is first fresh widened =
          ap (λ b. if b then (if is_raw_kind (kind_of (view s.frame e).ctype) then range.Missing else (view s.frame e).range first fresh (at widened)) else range.Missing) type.pointer
          ∙ ap (λ b. if b then range.Missing else (view s.frame e).range first fresh (at widened)) raw
          ∙ sym (ap (λ b. if b then (if is_raw_kind (kind_of e.note.ctype) then range.Missing else range_of_operand (view s.frame e) (view s.frame f) first fresh (at widened)) else range.Missing) from
          ∙ ap (λ b. if b then range.Missing else range_of_operand (view s.frame e) (view s.frame f) first fresh (at widened)) checked
          ∙ ap (λ b. if b then (view s.frame e).range first fresh (at widened) else (view s.frame f).range (capped first (view s.frame e).values) (fresh_behind (view s.frame e) fresh (at widened)) (at widened)) view_pointer)
        where
          at : List ℕ → State
          at widened = record here.at { widened = widened }

      AsJudged : Type 0
      AsJudged = (first fresh : ℕ) (before : Valuation) → first + with_own r made + 1 < 2 ^ 32 → fresh + length (node_fresh r made here.at) < 2 ^ 32 → AreFresh s.frame fresh → Fits s.frame store.locals before
          → Placed s store entry here e.note.ctype (first + with_own r made) (pointer_place r made first) (pointer_range r made first fresh) (node_fresh r made here.at) first fresh before x

      -- what is no pointer itself stands for no value
      other_claims : made.values ≡ sum.values → AsJudged
      other_claims values_is first fresh before low little are fits =
          let own_is : with_own r made ≡ with_own e.note.ctype sum = own_made ∙ ap (λ n. capped n 1) values_is ∙ sym sum_own in
          placed_as s store entry here e.note.ctype (first + with_own e.note.ctype sum) (first + with_own r made) (pointer_place e.note.ctype sum first) (pointer_place r made first) (pointer_range e.note.ctype sum first fresh)
          (pointer_range r made first fresh) (node_fresh e.note.ctype sum here.at) (node_fresh r made here.at) first fresh before x (ap (λ m. first + m) own_is)
          (λ facts. place_made first facts ∙ ap (λ n. option_or (form_there first facts) (own_form (capped first n))) values_is ∙ sym (place_sum first facts)) (range_is first fresh) types_are
          (c.placed first fresh before (subst (λ m. first + m + 1 < 2 ^ 32) own_is low) (subst (λ us. fresh + length us < 2 ^ 32) types_are little) are fits)

      -- and a pointer has a value between
      pointer_claims : made.values ≡ capped sum.values 1 → AsJudged
      pointer_claims values_is first fresh before low little are fits =
          let there = room first sum.values (subst (λ m. first + m + 1 < 2 ^ 32) (own_made ∙ ap (λ n. capped n 1) values_is) low) in
          let less = subst (λ us. fresh + length us < 2 ^ 32) types_are little in
          placed_as s store entry here e.note.ctype (first + capped (capped sum.values 1) 1) (first + with_own r made) (λ facts. option_or (form_there first facts) (own_form (capped first (capped sum.values 1)))) (pointer_place r made first)
          (pointer_range e.note.ctype sum first fresh) (pointer_range r made first fresh) (node_fresh e.note.ctype sum here.at) (node_fresh r made here.at) first fresh before x (ap (λ m. first + m) (own_made ∙ ap (λ n. capped n 1) values_is))
          (λ facts. place_made first facts ∙ ap (λ n. option_or (form_there first facts) (own_form (capped first n))) values_is) (range_is first fresh) types_are
          (or_own s store entry here e.note.ctype (first + with_own e.note.ctype sum) (first + capped (capped sum.values 1) 1) (form_there first) (pointer_range e.note.ctype sum first fresh) (node_fresh e.note.ctype sum here.at) first fresh before x
          (placed_less s store entry here e.note.ctype (first + with_own e.note.ctype sum) (form_there first) (pointer_place e.note.ctype sum first) (pointer_range e.note.ctype sum first fresh) (node_fresh e.note.ctype sum here.at) first fresh before x
          (λ facts g is. place_sum first facts ∙ ap (λ o. option_or o (own_form (capped first sum.values))) is)
          (c.placed first fresh before (subst (λ m. first + m + 1 < 2 ^ 32) (sym sum_own) there.0) less are fits)) less are fits (capped first (capped sum.values 1)) there.1
          (subst (λ m. first + m ≤ capped first (capped sum.values 1)) (sym sum_own) there.2) there.3)
        where
          room : (first n : ℕ) → first + capped (capped n 1) 1 + 1 < 2 ^ 32
              → (first + capped n 1 + 1 < 2 ^ 32) × (first ≤ capped first (capped n 1)) × (first + capped n 1 ≤ capped first (capped n 1)) × (capped first (capped n 1) < first + capped (capped n 1) 1)
          room first n low = (omega arith, omega arith, omega arith, omega arith)

      by : (b : Bool) → is_pointer note.ctype ≡ b → AsJudged
      by true is = pointer_claims (values_are ∙ ap (λ b. if b && true then capped sum.values 1 else sum.values) is)
      by false is = other_claims (values_are ∙ ap (λ b. if b && true then capped sum.values 1 else sum.values) is)

  -- an element of an unchecked pointer, of which nothing is known
  raw_index : (f : NotedExpr) → is_raw_kind (kind_of e.note.ctype) ≡ true → (view s.frame e).ctype ≡ e.note.ctype → (x : Value) → x.number < 2 ^ 32
      → NodeClaims s store entry here h r (address_view (node_view s.frame (Node-F.Index (view s.frame e) (view s.frame f)))) x
  raw_index f raw viewed x small =
      missing_claims s store entry here h r type.pointer type.several (address_view (node_view s.frame (Node-F.Index (view s.frame e) (view s.frame f)))) refl refl
      (λ first facts. ap (λ b. if b then None else sum_of_forms ((view s.frame e).place first facts) ((view s.frame f).form facts)) raw_view) kept
      (λ own first fresh widened. ap (λ b. if b then range.Missing else (view s.frame e).range first fresh (record here.at { widened = widened })) raw_view)
      refl refl refl (λ b. nothing_read s store entry (λ facts. None) b here.at) x small
    where
      raw_view : is_raw_kind (kind_of (view s.frame e).ctype) ≡ true
      raw_view = ap (λ t. is_raw_kind (kind_of t)) viewed ∙ raw

      kept : (widened : List ℕ) → (view s.frame e).fresh (record here.at { widened = widened }) ++ (view s.frame f).fresh (record here.at { widened = widened }) ≡ (view s.frame e).fresh here.at ++ (view s.frame f).fresh here.at
      kept widened = ap (λ us. us ++ (view s.frame f).fresh (record here.at { widened = widened })) (fresh_same s.frame e here.at widened) ∙ ap (λ us. (view s.frame e).fresh here.at ++ us) (fresh_same s.frame f here.at widened)

  pub index_claims : (f : NotedExpr) → is_pointer e.note.ctype ≡ true → (view s.frame e).ctype ≡ e.note.ctype → (x : Value)
      → NodeClaims s store entry here h e.note.ctype (node_view s.frame (Node-F.Bin op.Add (view s.frame e) (view s.frame f))) x
      → NodeClaims s store entry here h r (address_view (node_view s.frame (Node-F.Index (view s.frame e) (view s.frame f)))) x
  index_claims f from viewed x c = by (is_raw_kind (kind_of e.note.ctype)) refl
    where
      by : (b : Bool) → is_raw_kind (kind_of e.note.ctype) ≡ b → NodeClaims s store entry here h r (address_view (node_view s.frame (Node-F.Index (view s.frame e) (view s.frame f)))) x
      by true raw = raw_index f raw viewed x (word_wide e.note.ctype x.number c.word)
      by false checked = checked_index f from checked viewed x c
