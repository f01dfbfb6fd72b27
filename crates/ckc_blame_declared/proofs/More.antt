-- Bounds stay as they are declared where more locals are known.
use Rattle.std.proofs.Common.{◌≡◌, ◌∙◌, sym, ap, subst, refl, ℕ, List}
use Rattle.std.specs.Prelude.{◌^◌, Bool, true, false, if◌then◌else◌, ℤ, Option, Some, None, slice_get, Ok}
use Rattle.ckc_base.specs.declared.places.Pos.{Pos}
use Rattle.ckc_base.specs.Outcomes.{there_or}
use Rattle.ckc_types.specs.declared.types.CType.{CType}
use Rattle.ckc_types.specs.declared.types.Structs.{Structs}
use Rattle.ckc_linear.specs.declared.forms.Form.{Form}
use Rattle.ckc_syntax.specs.declared.tree.Name.{Name}
use Rattle.ckc_syntax.specs.declared.tree.Name.TheVariants as name
use Rattle.ckc_syntax.specs.declared.tree.Length.{Length}
use Rattle.ckc_syntax.specs.declared.tree.Limits.{Limits-F, out-Limits}
use Rattle.ckc_syntax.specs.declared.tree.Node.{out-Node}
use Rattle.ckc_typed.specs.declared.environment.Amount.{Amount}
use Rattle.ckc_typed.specs.declared.typed.Note.{Note}
use Rattle.ckc_typed.specs.declared.typed.StaticObject.{StaticObject}
use Rattle.ckc_typed.specs.Amounts.{amount}
use Rattle.ckc_typed.specs.Constants.{size_of}
use Rattle.ckc_typed.specs.Trees.{NotedLimits, NotedNode, NotedExpr}
use Rattle.ckc_typed.specs.Types.{element_of}
use Rattle.ckc_blame_sound.specs.ckc_bounds_points.specs.declared.frame.Bounds.{Bounds}
use Rattle.ckc_blame_sound.specs.ckc_bounds_points.specs.declared.frame.Frame.{Frame}
use Rattle.ckc_blame_sound.specs.ckc_bounds_points.specs.Codes.{bad_limits}
use Rattle.ckc_blame_sound.specs.ckc_bounds_points.specs.Forms.{constant_form, moved_form, sum_of_forms, elements}
use Rattle.ckc_blame_sound.specs.ckc_bounds_points.specs.Frames.{local_at, variable_of, variable}
use Rattle.ckc_blame_sound.specs.ckc_bounds_points.specs.Shown.{is_within}
use Rattle.ckc_blame_sound.specs.ckc_bounds_declared.specs.declared.limits.Holder.{Holder}
use Rattle.ckc_blame_sound.specs.ckc_bounds_declared.specs.declared.limits.Holder.TheVariants as holder
use Rattle.ckc_blame_sound.specs.ckc_bounds_declared.specs.Written.{own, variable_for, member_variable, amount_with, amount_form, counted, local_base, array_base, named_base, bound_with, bound, node_pieces, known_between, takes_ends, bounds_written, takes_bounds, place_of_limits, bounds_taken, bounds_declared}

-- What there is stays.
abbrev pub Stays : {A : Type 0} → Option A → Option A → Type 0
Stays {A} o p = (a : A) → o ≡ Some a → p ≡ Some a

-- A frame knows the structures and the static objects of another one, and all its locals.
pub record KnowsAs (frame more : Frame) : Type 0 where
  pub structs : more.structs ≡ frame.structs
  pub statics : more.statics ≡ frame.statics
  pub locals : (k : ℕ) → Stays (local_at frame k) (local_at more k)

same : {A : Type 0} (o : Option A) → Stays o o
same o a e = e

-- what is made of it stays, if of nothing nothing is made
made : {A B : Type 0} (f : Option A → Option B) → f None ≡ None → (o p : Option A) → Stays o p → Stays (f o) (f p)
made f none None p h b e = absurd (nothing none e)
  where
    nothing : f None ≡ None → f None ≡ Some b → ⊥
    nothing g k = absurd cc
made f none (Some a) p h b e = ap f (h a refl) ∙ e

if_same : {A : Type 0} (b : Bool) (o p : Option A) → Stays o p → Stays (if b then o else None) (if b then p else None)
if_same true o p h = h
if_same false o p h = λ a e. absurd cc

module _ (frame more : Frame) (w : KnowsAs frame more) where
  variable_stays : (n : Name) → Stays (variable frame n) (variable more n)
  variable_stays (name.Local k) = made (variable_of k) refl (local_at frame k) (local_at more k) (w.locals k)
  variable_stays (name.Static k) = same None
  variable_stays (name.Function k) = same None
  variable_stays (name.Tag k) = same None
  variable_stays (name.Member k) = same None
  variable_stays name.Getchar = same None
  variable_stays name.Putchar = same None

  variable_for_stays : (h : Holder) (n : Name) → Stays (variable_for frame h n) (variable_for more h n)
  variable_for_stays (holder.Local k) n = variable_stays n
  variable_for_stays holder.Result n = variable_stays n
  variable_for_stays holder.Static n = same None
  variable_for_stays (holder.Member tag) n = subst (λ (structs : Structs). Stays (member_variable frame.structs tag n) (member_variable structs tag n)) (sym w.structs) (same (member_variable frame.structs tag n))

  with_stays : (h : Holder) (n : Option Name) (c : ℤ) → Stays (amount_with frame h n c) (amount_with more h n c)
  with_stays h None c = same (Some (constant_form c))
  with_stays h (Some n) c = made (λ o. moved_form o c) refl (variable_for frame h n) (variable_for more h n) (variable_for_stays h n)

  amount_stays : (h : Holder) (a : Option Amount) → Stays (amount_form frame h a) (amount_form more h a)
  amount_stays h None = same None
  amount_stays h (Some a) = if_same (is_within (2 ^ 24) a.number) _ _ (with_stays h a.variable a.number)

  base_stays : (t : CType) (n : Name) → Stays (named_base frame t n) (named_base more t n)
  base_stays t (name.Local k) = made (local_base t k) refl (local_at frame k) (local_at more k) (w.locals k)
  base_stays t (name.Static k) =
      subst (λ (os : List StaticObject). Stays (array_base t k (slice_get frame.statics k)) (array_base t k (slice_get os k))) (sym w.statics) (same (array_base t k (slice_get frame.statics k)))
  base_stays t (name.Function k) = same None
  base_stays t (name.Tag k) = same None
  base_stays t (name.Member k) = same None
  base_stays t name.Getchar = same None
  base_stays t name.Putchar = same None

  sum_stays : (f g f' g' : Option Form) → Stays f f' → Stays g g' → Stays (sum_of_forms f g) (sum_of_forms f' g')
  sum_stays f g f' g' h i a e =
      made (λ o. sum_of_forms f' o) (none_right f') g g' i a (made (λ o. sum_of_forms o g) refl f f' h a e)
    where
      none_right : (o : Option Form) → sum_of_forms o None ≡ None
      none_right None = refl
      none_right (Some x) = refl

  bound_with_stays : (h : Holder) (t : CType) (p : _) → Stays (bound_with frame h t p) (bound_with more h t p)
  bound_with_stays h t None = same None
  bound_with_stays h t (Some p) =
      sum_stays (named_base frame t p.name) (amount_form frame h p.by) (named_base more t p.name) (amount_form more h p.by) (base_stays t p.name) (amount_stays h p.by)

  bound_stays : (h : Holder) (t : CType) (e : NotedExpr) → Stays (bound frame h t e) (bound more h t e)
  bound_stays h t e =
      subst (λ (structs : Structs). Stays (bound_with frame h t (node_pieces frame.structs (out-Node Name Note e.node))) (bound_with more h t (node_pieces structs (out-Node Name Note e.node))))
      (sym w.structs) (bound_with_stays h t (node_pieces frame.structs (out-Node Name Note e.node)))

  between_stays : (f g f' g' : Option Form) → Stays f f' → Stays g g' → Stays (known_between f g) (known_between f' g')
  between_stays f g f' g' h i a e =
      made (λ o. known_between f' o) (none_right f') g g' i a (made (λ o. known_between o g) (none_left g) f f' h a e)
    where
      none_right : (o : Option Form) → known_between o None ≡ None
      none_right None = refl
      none_right (Some x) = refl

      none_left : (o : Option Form) → known_between None o ≡ None
      none_left None = refl
      none_left (Some x) = refl

  counted_stays : (h : Holder) (e : NotedExpr) → Stays (amount_form frame h (amount frame.structs e)) (amount_form more h (amount more.structs e))
  counted_stays h e =
      subst (λ (structs : Structs). Stays (amount_form frame h (amount frame.structs e)) (amount_form more h (amount structs e))) (sym w.structs) (amount_stays h (amount frame.structs e))

  written_stays : (h : Holder) (t : CType) (l : Limits-F Name Note NotedLimits NotedNode NotedExpr) → Stays (bounds_written frame h t l) (bounds_written more h t l)
  written_stays h t (Limits-F.Count e at) = made (counted (own h)) refl _ _ (counted_stays h e)
  written_stays h t (Limits-F.ByteCount e at) =
      made (counted (own h)) refl _ _
      (subst (λ (structs : Structs). Stays (elements (size_of frame.structs (element_of t)) (amount_form frame h (amount frame.structs e))) (elements (size_of structs (element_of t)) (amount_form more h (amount more.structs e))))
      (sym w.structs) (made (elements (size_of frame.structs (element_of t))) refl _ _ (counted_stays h e)))
  written_stays h t (Limits-F.Between e f at) = if_same (takes_ends h) _ _ (between_stays _ _ _ _ (bound_stays h t e) (bound_stays h t f))
  written_stays h t (Limits-F.Unknown at) = same (Some _)

  taken_stays : (h : Holder) (t : CType) (length : Length) (l : NotedLimits) → Stays (bounds_taken frame h t length l) (bounds_taken more h t length l)
  taken_stays h t length l = if_same (takes_bounds t length) _ _ (written_stays h t (out-Limits Name Note l))

  there_stays : (code : ℕ) (at : Pos) (o p : Option Bounds) → Stays o p → (b : Bounds) → there_or code at o ≡ Ok b → there_or code at p ≡ Ok b
  there_stays code at None p h b e = absurd cc
  there_stays code at (Some a) p h b e = ap (there_or code at) (h a refl) ∙ e

  pub declared_stays : (h : Holder) (t : CType) (length : Length) (l : Option NotedLimits) (b : Bounds) → bounds_declared frame h t length l ≡ Ok b → bounds_declared more h t length l ≡ Ok b
  declared_stays h t length None b e = e
  declared_stays h t length (Some l) b e = there_stays bad_limits (place_of_limits l) _ _ (taken_stays h t length l) b e
