-- The bounds that are written at a static object say as much as a program counts.
use Rattle.std.proofs.Common.{◌≡◌, ◌∙◌, sym, ap, subst, refl, arith, ℕ, ◌<◌, ◌==◌, Bool, true, false, [], ◌∷◌}
use Rattle.std.specs.Prelude.{FitsSigned, int_le, ◌^◌, ◌&&◌, if◌then◌else◌, nat_lt, ℤ, pos, neg_ℤ, ◌≤ℤ◌, ◌+ℤ◌, int_div, int_rem, Option, Some, None, is_some, unwrap_or, Ok}
use Rattle.std.specs.Int.{w32}
use Rattle.std.specs.Ordering.{int_eq}
use Rattle.std.proofs.lemmas.Bool.Decides.{nat_tests}
use Rattle.std.proofs.lemmas.Int.{ints, quot_fits}
use Rattle.ckc_base.specs.declared.places.Pos.{Pos}
use Rattle.ckc_base.specs.Outcomes.{there_or}
use Rattle.ckc_types.specs.declared.types.CType.{CType}
use Rattle.ckc_types.specs.declared.types.Kind.{Kind}
use Rattle.ckc_types.specs.declared.types.Kind.TheVariants as kind
use Rattle.ckc_types.specs.declared.types.Structs.{Structs}
use Rattle.ckc_linear.specs.declared.forms.Base.TheVariants as base
use Rattle.ckc_linear.specs.declared.forms.Form.{Form}
use Rattle.ckc_syntax.specs.declared.tree.Name.{Name}
use Rattle.ckc_syntax.specs.declared.tree.TreeOp.{TreeOp}
use Rattle.ckc_syntax.specs.declared.tree.TreeOp.TheVariants as op
use Rattle.ckc_syntax.specs.declared.tree.Length.{Length}
use Rattle.ckc_syntax.specs.declared.tree.Limits.{Limits-F, out-Limits}
use Rattle.ckc_syntax.specs.declared.tree.Node.{Node-F, out-Node}
use Rattle.ckc_typed.specs.declared.environment.Amount.{Amount}
use Rattle.ckc_typed.specs.declared.typed.Note.{Note}
use Rattle.ckc_typed.specs.declared.typed.Range.{Range}
use Rattle.ckc_typed.specs.declared.typed.Range.TheVariants as range
use Rattle.ckc_typed.specs.Amounts.{fixed, moved, or_amount, sum_amount, amount_in_form, amount_by, amount, variable_in, number_in, negative, is_multiple, scaled, amount_of_form}
use Rattle.ckc_typed.specs.Trees.{NotedDecl, NotedExpr, NotedLayer, NotedLimits, NotedNode}
use Rattle.ckc_typed.specs.Types.{type_written, kind_of}
use Rattle.ckc_blame_sound.specs.ckc_bounds_known.specs.Ranges.{is_small}
use Rattle.ckc_blame_sound.specs.ckc_bounds_known.specs.Shown.{is_within}
use Rattle.ckc_blame_sound.specs.ckc_bounds_points.specs.declared.frame.Bounds.{Bounds}
use Rattle.ckc_blame_sound.specs.ckc_bounds_points.specs.declared.frame.Frame.{Frame}
use Rattle.ckc_blame_sound.specs.ckc_bounds_points.specs.Codes.{bad_limits}
use Rattle.ckc_blame_sound.specs.ckc_bounds_points.specs.Forms.{constant_form, elements_of, elements, base_form}
use Rattle.ckc_blame_sound.specs.ckc_bounds_declared.specs.declared.limits.Holder.TheVariants as holder
use Rattle.ckc_blame_sound.specs.ckc_bounds_declared.specs.Written.{counted, amount_form, amount_with, bounds_written, takes_bounds, bounds_by_type, bounds_of_kind, bounds_taken, bounds_declared, place_of_limits}
use Rattle.ckc_blame_sound.specs.ckc_bounds_ranges.specs.Replaced.{both_ends, replaced_bounds}
use Rattle.ckc_blame_sound.specs.ckc_bounds_ranges.specs.Rows.{range_of_ends}
use Rattle.ckc_blame_sound.specs.ckc_bounds_stores.specs.Targets.{written_there}
use Rattle.ckc_blame_sound.specs.ckc_bounds_views.specs.Arguments.{own_by}
use Rattle.ckc_blame_sound.specs.ckc_bounds_views.specs.Ranges.{range_by_type, range_of_object}
use Rattle.ckc_blame_sound.specs.ckc_bounds_statements.specs.DeclBounds.{decl_bounds}
use Rattle.ckc_blame_sound.specs.ckc_bounds.specs.Declarations.{known_or_not, object_bounds, object_bounds_in}
use Rattle.ckc_source.specs.declared.expr.Count.{Count}
use Rattle.ckc_source.specs.declared.expr.Count.TheVariants as count
use Rattle.ckc_build_values.specs.Kinds.{count_of_kind, size_behind}
use Rattle.ckc_build_values.specs.Names.{fixed_count, count_declared}
use Rattle.ckc_blame_steps.specs.Statics.{bounds_counted, range_counted}

-- ---- small numbers

least : (x y : ℤ) → int_le x y ≡ true → x ≤ℤ y
least x y e = grind (arith, ints)

most : (x y : ℤ) → x ≤ℤ y → int_le x y ≡ true
most x y e = grind (arith, ints)

both : (a b : Bool) → (a && b) ≡ true → (a ≡ true) × (b ≡ true)
both true b e = (refl, e)
both false b e = absurd cc

join : (a b : Bool) → a ≡ true → b ≡ true → (a && b) ≡ true
join true b e f = f
join false b e f = absurd cc

small_between : (c : ℤ) → neg_ℤ (pos (2 ^ 42)) ≤ℤ c → c ≤ℤ pos (2 ^ 42) → is_small c ≡ true
small_between c l h = join (int_le (neg_ℤ (pos (2 ^ 42))) c) (int_le c (pos (2 ^ 42))) (most _ c l) (most c _ h)

record IsNear (c : ℤ) : Type 0 where
  pub low : neg_ℤ (pos (2 ^ 24)) ≤ℤ c
  pub high : c ≤ℤ pos (2 ^ 24)

near : (c : ℤ) → is_within (2 ^ 24) c ≡ true → IsNear c
near c e = let b = both (int_le (neg_ℤ (pos (2 ^ 24))) c) (int_le c (pos (2 ^ 24))) e in record { low = least _ c b.0; high = least c _ b.1 }

small_near : (c : ℤ) → IsNear c → is_small c ≡ true
small_near c n = let l = n.low in let h = n.high in small_between c (omega (arith, ints, l)) (omega (arith, ints, h))

fits_signed : (c : ℤ) → neg_ℤ (pos (2 ^ 24)) ≤ℤ c → c ≤ℤ pos (2 ^ 24) → FitsSigned w32 c
fits_signed c l h = omega (arith, ints, l, h)

fits_low : (c : ℤ) → FitsSigned w32 c → neg_ℤ (pos (2 ^ 42)) ≤ℤ c
fits_low c f = omega (arith, ints, f)

fits_high : (c : ℤ) → FitsSigned w32 c → c ≤ℤ pos (2 ^ 42)
fits_high c f = omega (arith, ints, f)

positive : (n : ℕ) → nat_lt 0 n ≡ true → 0 < n
positive n e = grind (arith, nat_tests)

small_quotient : (c : ℤ) (size : ℕ) → IsNear c → is_multiple c size ≡ true → is_small (int_div c (pos size)) ≡ true
small_quotient c size n e =
    let less : 0 < size = positive size (both (nat_lt 0 size) (int_eq (int_rem c (pos size)) (pos 0)) e).0 in
    let q : FitsSigned w32 (int_div c (pos size)) = quot_fits w32 c (pos size) (fits_signed c n.low n.high) (omega (arith, ints, less)) in
    small_between (int_div c (pos size)) (fits_low _ q) (fits_high _ q)

-- ---- amounts without variables

moved_some : (v : Option Name) (c : Option ℤ) (a : Amount) → moved v c ≡ Some a → a.variable ≡ None → ⊥
moved_some (Some n) (Some c) a e f = let same : record { variable = Some n; number = c } ≡ a = cc in let some : Some n ≡ a.variable = ap (λ (x : Amount). x.variable) same in absurd cc
moved_some (Some n) None a e f = absurd cc
moved_some None c a e f = absurd cc

sum_some : (structs : Structs) (o : TreeOp) (e f : NotedExpr) (a : Amount) → sum_amount structs o e f ≡ Some a → a.variable ≡ None → ⊥
sum_some structs op.Add e f a is v = by (moved (variable_in e) (number_in structs f)) refl is
  where
    by : (m : Option Amount) → moved (variable_in e) (number_in structs f) ≡ m → or_amount m (moved (variable_in f) (number_in structs e)) ≡ Some a → ⊥
    by None g h = moved_some (variable_in f) (number_in structs e) a h v
    by (Some b) g h = moved_some (variable_in e) (number_in structs f) a (g ∙ h) v
sum_some structs op.Sub e f a is v = moved_some (variable_in e) (negative (number_in structs f)) a is v
sum_some structs o e f a is v = absurd cc

form_some : (structs : Structs) (x : NotedLayer) (a : Amount) → amount_in_form structs x ≡ Some a → a.variable ≡ None → ⊥
form_some structs (Node-F.Name n) a is v = moved_some (Some n) (Some (pos 0)) a is v
form_some structs (Node-F.Bin o e f) a is v = sum_some structs o e f a is v
form_some structs x a is v = absurd cc

number_of_amount : (structs : Structs) (e : NotedExpr) (c : ℤ) → amount structs e ≡ Some (fixed c) → number_in structs e ≡ Some c
number_of_amount structs e c is = by (number_in structs e) is
  where
    by : (o : Option ℤ) → amount_by structs e o ≡ Some (fixed c) → o ≡ Some c
    by (Some d) f = let same : fixed d ≡ fixed c = cc in ap (λ (a : Amount). Some a.number) same
    by None f = absurd (form_some structs (out-Node Name Note e.node) (fixed c) f refl)

-- an amount that has a form for a static object
record IsConstant (a : Option Amount) (f : Form) : Type 0 where
  pub number : ℤ
  pub is : a ≡ Some (fixed number)
  pub form : f ≡ constant_form number
  pub near : IsNear number

constant_amount : (frame : Frame) (a : Option Amount) (f : Form) → amount_form frame holder.Static a ≡ Some f → IsConstant a f
constant_amount frame None f e = absurd cc
constant_amount frame (Some a) f e = by (is_within (2 ^ 24) a.number) refl e
  where
    with : (v : Option Name) → a.variable ≡ v → is_within (2 ^ 24) a.number ≡ true → amount_with frame holder.Static v a.number ≡ Some f → IsConstant (Some a) f
    with None v w g = record { number = a.number; is = ap (λ (x : Option Name). Some (record { variable = x; number = a.number })) v; form = cc; near = near a.number w }
    with (Some n) v w g = absurd cc

    by : (b : Bool) → is_within (2 ^ 24) a.number ≡ b → (if b then amount_with frame holder.Static a.variable a.number else None) ≡ Some f → IsConstant (Some a) f
    by true w g = with a.variable refl w g
    by false w g = absurd cc

-- ---- written bounds

-- bounds are those up to as many elements as are counted, a small number
pub record IsTold (b : Bounds) (n : Option Count) : Type 0 where
  pub same : b ≡ bounds_counted n
  pub small : (c : ℤ) → n ≡ Some (count.Fixed c) → is_small c ≡ true

told : (c : ℤ) (b : Bounds) (n : Option Count) → n ≡ Some (count.Fixed c) → is_small c ≡ true → counted (base.Value 0) (Some (constant_form c)) ≡ Some b → IsTold b n
told c b n is small e =
    let there : bounds_counted (Some (count.Fixed c)) ≡ b = cc in
    record { same = sym there ∙ ap bounds_counted (sym is); small = λ d f. subst (λ z. is_small z ≡ true) (one d (sym is ∙ f)) small }
  where
    one : (d : ℤ) → Some (count.Fixed c) ≡ Some (count.Fixed d) → c ≡ d
    one d g = cc

counted_some : (o : Option Form) (b : Bounds) → counted (base.Value 0) o ≡ Some b → (f : Form) × (o ≡ Some f)
counted_some None b e = absurd cc
counted_some (Some f) b e = (f, refl)

module _ (frame : Frame) (t : CType) (b : Bounds) where
  abbrev size : ℕ
  size = size_behind frame.structs t

  count_told : (e : NotedExpr) → counted (base.Value 0) (amount_form frame holder.Static (amount frame.structs e)) ≡ Some b → IsTold b (fixed_count (amount frame.structs e))
  count_told e is =
      let f = counted_some (amount_form frame holder.Static (amount frame.structs e)) b is in
      let c = constant_amount frame (amount frame.structs e) f.0 f.1 in
      told c.number b (fixed_count (amount frame.structs e)) (ap fixed_count c.is) (small_near c.number c.near)
      (sym (ap (counted (base.Value 0)) (f.1 ∙ ap Some c.form)) ∙ is)

  bytes_told : (e : NotedExpr) → counted (base.Value 0) (elements size (amount_form frame holder.Static (amount frame.structs e))) ≡ Some b
      → IsTold b (fixed_count (if size == 1 then amount frame.structs e else scaled size (number_in frame.structs e)))
  bytes_told e is = by (amount_form frame holder.Static (amount frame.structs e)) refl is
    where
      A : Option Amount
      A = amount frame.structs e

      by : (o : Option Form) → amount_form frame holder.Static (amount frame.structs e) ≡ o → counted (base.Value 0) (elements size o) ≡ Some b
          → IsTold b (fixed_count (if size == 1 then amount frame.structs e else scaled size (number_in frame.structs e)))
      by None is e' = absurd cc
      by (Some f) is e' =
          let c = constant_amount frame (amount frame.structs e) f is in
          one c.number c.is c.near (size == 1) (sym (ap (λ (g : Form). counted (base.Value 0) (elements size (Some g))) c.form) ∙ e')
        where
          quotient : (c : ℤ) → IsNear c → (m : Bool) → is_multiple c size ≡ m → counted (base.Value 0) (if m then Some (constant_form (int_div c (pos size))) else None) ≡ Some b
              → IsTold b (fixed_count (if m then Some (fixed (int_div c (pos size))) else None))
          quotient c n true m g = told (int_div c (pos size)) b _ refl (small_quotient c size n m) g
          quotient c n false m g = absurd cc

          one : (c : ℤ) → amount frame.structs e ≡ Some (fixed c) → IsNear c → (s : Bool) → counted (base.Value 0) (if s then Some (constant_form c) else elements_of size (constant_form c)) ≡ Some b
              → IsTold b (fixed_count (if s then amount frame.structs e else scaled size (number_in frame.structs e)))
          one c a n true g = told c b _ (ap fixed_count a) (small_near c n) g
          one c a n false g =
              subst (λ o. IsTold b (fixed_count (scaled size o))) (sym (number_of_amount frame.structs e c a)) (quotient c n (is_multiple c size) refl g)

  written_told : (x : Limits-F Name Note NotedLimits NotedNode NotedExpr) → bounds_written frame holder.Static t x ≡ Some b → IsTold b (fixed_count (amount_of_form frame.structs size x))
  written_told (Limits-F.Count e at) is = count_told e is
  written_told (Limits-F.ByteCount e at) is = bytes_told e is
  written_told (Limits-F.Between e f at) is = absurd cc
  written_told (Limits-F.Unknown at) is = record { same = cc; small = λ c f. absurd cc }

  taken_told : (n : Length) (l : NotedLimits) → bounds_taken frame holder.Static t n l ≡ Some b → IsTold b (count_declared frame.structs t (Some l))
  taken_told n l is = by (takes_bounds t n) is
    where
      by : (c : Bool) → (if c then bounds_written frame holder.Static t (out-Limits Name Note l) else None) ≡ Some b → IsTold b (count_declared frame.structs t (Some l))
      by true e = written_told (out-Limits Name Note l) e
      by false e = absurd cc

-- ---- declarations

kind_bounds : (k : Option Kind) → bounds_of_kind (base.Value 0) k ≡ bounds_counted (count_of_kind k)
kind_bounds (Some kind.One) = refl
kind_bounds (Some kind.Nt) = refl
kind_bounds (Some kind.Raw) = refl
kind_bounds (Some kind.Arr) = refl
kind_bounds None = refl

kind_range : (own : ℕ) (k : Option Kind) → range_by_type k own ≡ range_counted own (count_of_kind k)
kind_range own (Some kind.One) = refl
kind_range own (Some kind.Nt) = refl
kind_range own (Some kind.Raw) = refl
kind_range own (Some kind.Arr) = refl
kind_range own None = refl

zero_plus : (c : ℤ) → pos 0 +ℤ c ≡ c
zero_plus c = omega (arith, ints)

told_range : (own : ℕ) (n : Option Count) → ((c : ℤ) → n ≡ Some (count.Fixed c) → is_small c ≡ true) → range_of_ends (replaced_bounds (own_by own ∷ []) [] (bounds_counted n)) ≡ range_counted own n
told_range own None small = refl
told_range own (Some (count.Member offset form add)) small = refl
told_range own (Some (count.Fixed c)) small =
    ap (λ (b : Bool). range_of_ends (both_ends (Some (base_form (base.Value own))) (if b then Some (record { base = Some (base.Value own); var = 0; add = pos 0 +ℤ c }) else None))) (small c refl)
    ∙ ap (λ z. range.Known (base_form (base.Value own)) (record { base = Some (base.Value own); var = 0; add = z })) (zero_plus c)

-- What is written at a static object, and its range when it is read.
pub record Alike (frame : Frame) (d : NotedDecl) : Type 0 where
  pub bounds : unwrap_or (written_there (Some (object_bounds frame d))) (bounds_by_type (base.Value 0) (type_written d.ctype)) ≡ bounds_counted (count_declared frame.structs (type_written d.ctype) d.bounds)
  pub takes : is_some d.bounds ≡ true → takes_bounds (type_written d.ctype) d.length ≡ true
  pub range : (own : ℕ) → range_of_object (Some (object_bounds frame d)) (type_written d.ctype) own ≡ range_counted own (count_declared frame.structs (type_written d.ctype) d.bounds)

there_some : (code : ℕ) (at : Pos) (o : Option Bounds) (b : Bounds) → there_or code at o ≡ Ok b → o ≡ Some b
there_some code at None b e = absurd cc
there_some code at (Some a) b e = let same : a ≡ b = cc in ap Some same

pub alike : (frame : Frame) (d : NotedDecl) (b : Bounds) → bounds_declared frame holder.Static (type_written d.ctype) d.length d.bounds ≡ Ok b → Alike frame d
alike frame d b e = by d.bounds refl e
  where
    t : CType
    t = type_written d.ctype

    none : false ≡ true → ⊥
    none e = absurd cc

    taken : (o : Option Bounds) (c : Bool) → takes_bounds t d.length ≡ c → (if c then o else None) ≡ Some b → takes_bounds t d.length ≡ true
    taken o true e f = e
    taken o false e f = absurd cc

    written : Option NotedLimits → Bounds
    written l = unwrap_or (written_there (Some (object_bounds_in frame d l))) (bounds_by_type (base.Value 0) (type_written d.ctype))

    read : Option NotedLimits → ℕ → Range
    read l own = range_of_object (Some (object_bounds_in frame d l)) (type_written d.ctype) own

    by : (l : Option NotedLimits) → d.bounds ≡ l → bounds_declared frame holder.Static (type_written d.ctype) d.length l ≡ Ok b → Alike frame d
    by None is f = record {
      takes = λ g. absurd (none (sym (ap (λ (o : Option NotedLimits). is_some o) is) ∙ g));
      bounds = ap (λ l. written l) is ∙ kind_bounds (kind_of t) ∙ sym (ap (λ l. bounds_counted (count_declared frame.structs t l)) is);
      range = λ own. ap (λ l. read l own) is ∙ kind_range own (kind_of t) ∙ sym (ap (λ l. range_counted own (count_declared frame.structs t l)) is);
    }
    by (Some l) is f =
        let w = taken_told frame t b d.length l (there_some bad_limits (place_of_limits l) (bounds_taken frame holder.Static t d.length l) b f) in
        let same : known_or_not (decl_bounds frame holder.Static d) ≡ bounds_counted (count_declared frame.structs t (Some l)) = ap known_or_not e ∙ w.same in
        record {
          takes = λ g. taken (bounds_written frame holder.Static t (out-Limits Name Note l)) (takes_bounds t d.length) refl (there_some bad_limits (place_of_limits l) (bounds_taken frame holder.Static t d.length l) b f);
          bounds = ap (λ l. written l) is ∙ same ∙ sym (ap (λ l. bounds_counted (count_declared frame.structs t l)) is);
          range = λ own. ap (λ l. read l own) is ∙ ap (λ x. range_of_ends (replaced_bounds (own_by own ∷ []) [] x)) same ∙ told_range own (count_declared frame.structs t (Some l)) w.small
              ∙ sym (ap (λ l. range_counted own (count_declared frame.structs t l)) is);
        }
