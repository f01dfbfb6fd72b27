-- What a head says of its parameters and its result.
use Rattle.std.proofs.Common.{◌≡◌, ◌∙◌, sym, subst, refl, inl, inr, arith, ℕ, suc, ◌+◌, ◌<◌, List, length}
use Rattle.std.specs.Prelude.{◌==◌, true, false, Option, Some, slice_get}
use Rattle.std.specs.List.{Contains}
use Rattle.std.proofs.lemmas.Bool.{eqb-true}
use Rattle.std.proofs.lemmas.Option.{slice_get_within}
use Rattle.ckc_base.specs.declared.arithmetic.Mode.TheVariants.{Checked}
use Rattle.ckc_linear.specs.declared.forms.Base.{Base}
use Rattle.ckc_linear.specs.declared.forms.Base.TheVariants as base
use Rattle.ckc_linear.specs.declared.forms.Form.{Form}
use Rattle.ckc_types.specs.declared.types.CType.{CType}
use Rattle.ckc_syntax.specs.declared.tree.Item.TheVariants as item
use Rattle.ckc_syntax.specs.declared.tree.Length.TheVariants as lengths
use Rattle.ckc_typed.specs.declared.typed.Typed.{Typed}
use Rattle.ckc_typed.specs.Interfaces.{seen_params}
use Rattle.ckc_typed.specs.Trees.{NotedDecl, NotedHead, NotedStmt}
use Rattle.ckc_typed.specs.Types.{type_written}
use Rattle.ckc_blame_sound.specs.ckc_bounds_points.specs.declared.frame.Bounds.{Bounds}
use Rattle.ckc_blame_sound.specs.ckc_bounds_points.specs.declared.frame.Bounds.TheVariants as bounds
use Rattle.ckc_blame_sound.specs.ckc_bounds_points.specs.declared.frame.Frame.{Frame}
use Rattle.ckc_blame_sound.specs.ckc_bounds_points.specs.declared.frame.Local.{Local}
use Rattle.ckc_blame_sound.specs.ckc_bounds_points.specs.Flow.{names_local, in_form, in_bounds}
use Rattle.ckc_blame_sound.specs.ckc_bounds_points.specs.Frames.{local_at}
use Rattle.ckc_blame_sound.specs.ckc_bounds_declared.specs.declared.limits.Holder.{Holder}
use Rattle.ckc_blame_sound.specs.ckc_bounds_declared.specs.declared.limits.Holder.TheVariants as holder
use Rattle.ckc_blame_sound.specs.ckc_bounds_declared.specs.Written.{own}
use Rattle.ckc_blame_sound.specs.ckc_bounds.specs.Declarations.{result_bounds, all_made, few_of, types_in, params_frame, declared_in, head_bounds}
use Rattle.ckc_source.specs.Code.{Function}
use Rattle.ckc_build_values.specs.Kinds.{size_behind}
use Rattle.ckc_blame_sound.specs.Settings.{Setting, IsFunction, frame_of_text, setting_of}
use Rattle.ckc_blame_sound.specs.Passed.{IsResultBase, IsResultEnd, IsResult}
use Rattle.ckc_blame_sound.specs.JudgedTexts.{IsJudged}
use Rattle.ckc_blame_sound.specs.Numbered.{AreAllLocals}
use Rattle.ckc_blame_sound.proofs.ByNumber.{made_length}
use Rattle.ckc_blame_sound.proofs.Frames.{first_at}
use Rattle.ckc_blame_sound.proofs.Functions.{params_own}
use Rattle.ckc_blame_sound.proofs.Locals.{names_declared}
use Rattle.ckc_blame_sound.proofs.Tests.{either}
use Rattle.ckc_blame_declared.proofs.Ends.{IsFrom, IsInteger, IsEnd, AreKnown, declared_is}
use Rattle.ckc_blame_declared.proofs.HaveEnds.{counted, like}
use Rattle.ckc_blame_declared.proofs.Locals.{known, params_seen, bounds_known}

-- ---- what bounds name

-- what has the bounds is one of the first locals, if it is a local
abbrev IsOwnWithin : Holder → ℕ → Type 0
IsOwnWithin (holder.Local k) n = k < n
IsOwnWithin h n = Unit {0}

own_within : (h : Holder) (n j : ℕ) → IsOwnWithin h n → names_local j (Some (own h)) ≡ true → j < n
own_within (holder.Local k) n j w e = subst (λ i. i < n) (eqb-true k j e) w
own_within holder.Result n j w e = absurd cc
own_within holder.Static n j w e = absurd cc
own_within (holder.Member tag) n j w e = absurd cc

-- a local among those whose types are known
there_within : (frame : Frame) (ds : List NotedDecl) (j : ℕ) (l : Local) → local_at (types_in frame ds) j ≡ Some l → j < length (declared_in frame ds)
unfolding few_of
there_within frame ds j l e =
    subst (λ n. j < n) (made_length frame false ds ∙ sym (made_length (types_in frame ds) true ds)) (slice_get_within (all_made frame false ds) j l (first_at 1023 (all_made frame false ds) j l e).1)

module _ (frame : Frame) (ds : List NotedDecl) (h : Holder) (w : IsOwnWithin h (length (declared_in frame ds))) where
  abbrev within : ℕ
  within = length (declared_in frame ds)

  base_within : (t : CType) (b : Option Base) (j : ℕ) → IsFrom (types_in frame ds) h t b → names_local j b ≡ true → j < within
  base_within t b j (inl i) e = own_within h within j w (subst (λ c. names_local j c ≡ true) i e)
  base_within t b j (inr (inl i)) e =
      subst (λ n. n < within) (eqb-true i.0 j (subst (λ c. names_local j c ≡ true) i.1 e)) (there_within frame ds i.0 i.2.local i.2.there)
  base_within t b j (inr (inr i)) e = absurd (no_array i.0 (subst (λ c. names_local j c ≡ true) i.1 e))
    where
      no_array : (k : ℕ) → names_local j (Some (base.Array k)) ≡ true → ⊥
      no_array k f = absurd cc

  variable_within : (x j : ℕ) → IsInteger (types_in frame ds) x → (x == j + 1) ≡ true → j < within
  variable_within x j i e =
      let at = subst (IsInteger (types_in frame ds)) (eqb-true x (j + 1) e ∙ next j) i in
      there_within frame ds j at.0 at.1
    where
      next : (n : ℕ) → n + 1 ≡ suc n
      next n = omega arith

  form_within : (t : CType) (f : Form) (j : ℕ) → IsEnd (types_in frame ds) h t f → in_form j f ≡ true → j < within
  form_within t f j i e =
      elim (either (names_local j f.base) (f.var == j + 1) e) [ inl g ↦ base_within t f.base j i.base g | inr g ↦ variable_within f.var j i.variable g ]

  pub bounds_within : (t : CType) (b : Bounds) (j : ℕ) → AreKnown (types_in frame ds) h t b → in_bounds j b ≡ true → j < within
  bounds_within t bounds.Unknown j i e = absurd cc
  bounds_within t (bounds.Known low high) j i e =
      elim (either (in_form j low) (in_form j high) e) [ inl g ↦ form_within t low j i.begins g | inr g ↦ form_within t high j i.ends g ]

-- the bounds of a parameter name parameters
pub parameter_names : (frame : Frame) (ds : List NotedDecl) (k : ℕ) (l : Local) → AreAllLocals (names_declared ds) → slice_get (declared_in frame ds) k ≡ Some l → (j : ℕ) → in_bounds j l.bounds ≡ true
    → j < length (declared_in frame ds)
parameter_names frame ds k l numbers e j n =
    bounds_within frame ds (holder.Local k) (slice_get_within (declared_in frame ds) k l e) l.ctype l.bounds j (bounds_known (types_in frame ds) ds k l numbers e) n

-- ---- the result

pub result_known : (frame : Frame) (h : NotedHead) → AreKnown (params_frame frame h) holder.Result (type_written h.result) (head_bounds frame h).bounds
result_known frame h =
    known (AreKnown (params_frame frame h) holder.Result (type_written h.result)) tt (result_bounds (params_frame frame h) h)
    (declared_is (params_frame frame h) holder.Result (type_written h.result) lengths.Plain h.bounds refl)

module _ (p : Typed) (h : NotedHead) (body : NotedStmt) (j : IsJudged p) (there : Contains p.tree.items (item.Function h body)) where
  result_end : (f : Form) → IsEnd (params_frame (frame_of_text p) h) holder.Result (type_written h.result) f → IsResultEnd (setting_of p h body) (size_behind p.layout (type_written h.result)) f
  unfolding setting_of
  result_end f e =
      let t = type_written h.result in
      let B : Option Base → Type 0 = IsResultBase (setting_of p h body) (size_behind p.layout t) in
      record {
        base = elim e.base [
          | inl i ↦ subst B (sym i) refl
          | inr i ↦ elim i [
            | inl n ↦ subst B (sym n.1) (like p h body j there (seen_params Checked h) (params_seen h body) (params_own p h body j there Checked) t n.0 n.2)
            | inr n ↦ subst B (sym n.1) tt
          ]
        ];
        variable = counted p h body j there (seen_params Checked h) (params_seen h body) (params_own p h body j there Checked) f.var e.variable;
      }

  result_there : (low high : Form) → (setting_of p h body).head.bounds ≡ bounds.Known low high
      → IsResult (setting_of p h body) (size_behind p.layout (type_written h.result)) (setting_of p h body).head.params low high
  unfolding setting_of
  result_there low high e =
      let frame = frame_of_text p in
      let k : AreKnown (params_frame frame h) holder.Result (type_written h.result) (bounds.Known low high) =
      subst (AreKnown (params_frame frame h) holder.Result (type_written h.result)) e (result_known frame h) in
      record {
        low_end = result_end low k.begins;
        high_end = result_end high k.ends;
        named = λ i n. bounds_within frame (seen_params Checked h) holder.Result tt (type_written h.result) (bounds.Known low high) i k n;
      }

  abbrev Told : Setting → Type 0
  Told s = (low high : Form) → s.head.bounds ≡ bounds.Known low high → IsResult s (size_behind s.text.layout s.head.result) s.head.params low high

  pub result_told : Told (setting_of p h body)
  unfolding setting_of
  result_told = result_there

pub results_have_ends : (p : Typed) (s : Setting) (f : Function) (low high : Form) → IsJudged p → IsFunction p s f → s.head.bounds ≡ bounds.Known low high
    → IsResult s (size_behind s.text.layout s.head.result) s.head.params low high
results_have_ends p s f low high j is e =
    subst (Told p is.head is.body j is.there) (sym is.judged) (result_told p is.head is.body j is.there) low high e
