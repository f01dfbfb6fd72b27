-- The bounds of the locals of a judged text end where a program can read it.
use Rattle.std.proofs.Common.{◌≡◌, ◌∙◌, sym, ap, subst, refl, inl, inr, ℕ, zero, suc, List, ◌++◌}
use Rattle.std.specs.Prelude.{true, Option, Some, slice_get}
use Rattle.std.specs.List.{Contains}
use Rattle.ckc_base.specs.declared.arithmetic.Mode.TheVariants.{Checked}
use Rattle.ckc_linear.specs.declared.forms.Base.{Base}
use Rattle.ckc_linear.specs.declared.forms.Form.{Form}
use Rattle.ckc_types.specs.declared.types.CType.{CType, CType-F, out-CType}
use Rattle.ckc_syntax.specs.declared.tree.Item.TheVariants as item
use Rattle.ckc_typed.specs.declared.typed.Typed.{Typed}
use Rattle.ckc_typed.specs.Trees.{NotedDecl, NotedHead, NotedStmt}
use Rattle.ckc_typed.specs.Interfaces.{seen_params}
use Rattle.ckc_typed.specs.Types.{is_integer, is_integer_form, is_pointer, is_pointer_form, element_of}
use Rattle.ckc_typed.specs.Constants.{size_of}
use Rattle.ckc_blame_sound.specs.ckc_bounds_points.specs.declared.frame.Bounds.{Bounds}
use Rattle.ckc_blame_sound.specs.ckc_bounds_points.specs.declared.frame.Bounds.TheVariants as bounds
use Rattle.ckc_blame_sound.specs.ckc_bounds_points.specs.declared.frame.Frame.{Frame}
use Rattle.ckc_blame_sound.specs.ckc_bounds_points.specs.declared.frame.Local.{Local}
use Rattle.ckc_blame_sound.specs.ckc_bounds_points.specs.Frames.{local_at}
use Rattle.ckc_blame_sound.specs.ckc_bounds_declared.specs.declared.limits.Holder.TheVariants as holder
use Rattle.ckc_blame_sound.specs.ckc_bounds.specs.Declarations.{types_in}
use Rattle.ckc_blame_sound.specs.ckc_bounds.specs.Frames.{all_of, types_frame, nameless}
use Rattle.ckc_blame_sound.specs.ckc_bounds_statements.specs.Paths.{path}
use Rattle.ckc_source.specs.Code.{Function}
use Rattle.ckc_build_values.specs.Ends.{integer_in_variable}
use Rattle.ckc_build_values.specs.Kinds.{integer_of, size_behind}
use Rattle.ckc_blame_sound.specs.Settings.{Setting, IsFunction, frame_of_text, setting_of}
use Rattle.ckc_blame_sound.specs.Ends.{IsCounted, HasElements, IsBase, IsEnd, AreEnds, HasEnds, HaveEnds}
use Rattle.ckc_blame_sound.specs.JudgedTexts.{IsJudged}
use Rattle.ckc_blame_declared.proofs.Ends as declared
use Rattle.ckc_blame_sound.specs.Numbered.{AreAllLocals}
use Rattle.ckc_blame_sound.proofs.Frames.{locals_made}
use Rattle.ckc_blame_sound.proofs.Functions.{numbered, types_numbered_so}
use Rattle.ckc_blame_sound.proofs.Locals.{names_declared}
use Rattle.ckc_blame_sound.proofs.Seen.{SeenAs}
use Rattle.ckc_blame_declared.proofs.Locals.{IsSeen, types_seen, bounds_known, declared_there, local_there, local_is, variable_there}

apart_forms : (f : CType-F CType) → is_integer_form f ≡ true → is_pointer_form f ≡ true → ⊥
apart_forms CType-F.Int i p = absurd cc
apart_forms CType-F.Unsigned i p = absurd cc
apart_forms CType-F.Char i p = absurd cc
apart_forms CType-F.Void i p = absurd cc
apart_forms (CType-F.Struct tag) i p = absurd cc
apart_forms (CType-F.Pointer k t) i p = absurd cc

-- no integer has bounds
unbounded : (l : Local) (b : Bounds) → (b ≡ bounds.Unknown → l.bounds ≡ bounds.Unknown) → (is_known : (low high : Form) → b ≡ bounds.Known low high → is_pointer l.ctype ≡ true) → is_integer l.ctype ≡ true → l.bounds ≡ bounds.Unknown
unbounded l bounds.Unknown same is_known i = same refl
unbounded l (bounds.Known low high) same is_known i = absurd (apart_forms (out-CType l.ctype) i (is_known low high refl))

module _ (p : Typed) (h : NotedHead) (body : NotedStmt) (j : IsJudged p) (there : Contains p.tree.items (item.Function h body)) where
  numbers : AreAllLocals (names_declared (all_of h body))
  numbers = numbered p h body j there

  -- what is an integer is so in the body
  integer_seen : (t u : CType) → SeenAs t u → is_integer t ≡ true → is_integer u ≡ true
  integer_seen t u s i = elim s [ inl e ↦ ap is_integer e ∙ i | inr w ↦ absurd (apart_forms (out-CType t) i w.0) ]

  -- what is a pointer points to the same type in the body
  pointer_seen : (t u : CType) → SeenAs t u → is_pointer t ≡ true → (is_pointer u ≡ true) × (element_of u ≡ element_of t)
  pointer_seen t u s i = elim s [ inl e ↦ (ap is_pointer e ∙ i, ap element_of e) | inr w ↦ (w.1, w.2) ]

  -- what is seen in the body, of all whose types are known
  pub counted : (ds : List NotedDecl) → ((d : NotedDecl) → Contains ds d → IsSeen h body d) → AreAllLocals (names_declared ds) → (x : ℕ) → declared.IsInteger (types_in (frame_of_text p) ds) x
      → IsCounted (setting_of p h body) x
  unfolding setting_of
  counted ds seen_so some zero i = tt
  counted ds seen_so some (suc k) i =
      let one = declared_there (frame_of_text p) h body ds k i.0 seen_so some numbers i.1 in
      let v = variable_there p h body k one.local j there one.there one.few in
      record {
        local = one.local;
        there = local_there (frame_of_text p) h body k one.local one.there one.few;
        integer = integer_seen i.0.ctype one.local.ctype one.same i.2;
        same = ap (λ o. integer_in_variable o) v.named ∙ ap integer_of (sym v.same);
      }

  pub like : (ds : List NotedDecl) → ((d : NotedDecl) → Contains ds d → IsSeen h body d) → AreAllLocals (names_declared ds) → (t : CType) (k : ℕ) → declared.IsLike (types_in (frame_of_text p) ds) t k
      → HasElements (setting_of p h body) (size_behind p.layout t) k
  unfolding setting_of
  like ds seen_so some t k i =
      let one = declared_there (frame_of_text p) h body ds k i.local seen_so some numbers i.there in
      let w = pointer_seen i.local.ctype one.local.ctype one.same i.pointer in
      record {
        local = one.local;
        there = local_there (frame_of_text p) h body k one.local one.there one.few;
        pointer = w.0;
        sized = ap (λ u. size_of p.layout u) (w.1 ∙ sym i.same);
      }

  abbrev typed : List NotedDecl
  typed = seen_params Checked h ++ (path body).declared

  abbrev types : Frame
  types = types_frame (frame_of_text p) h body

  named : AreAllLocals (names_declared typed)
  named = types_numbered_so p h body j there

  -- an end of the bounds of a local
  ended : (k : ℕ) (l : Local) (f : Form) → local_at (setting_of p h body).frame k ≡ Some l → is_pointer l.ctype ≡ true
      → declared.IsEnd types (holder.Local k) l.ctype f → IsEnd (setting_of p h body) (size_behind p.layout l.ctype) f
  unfolding setting_of
  ended k l f at pointer e =
      let size = size_behind p.layout l.ctype in
      let B : Option Base → Type 0 = IsBase (setting_of p h body) size in
      record {
        base = elim e.base [
          | inl i ↦ subst B (sym i) (record { local = l; there = at; pointer = pointer; sized = refl })
          | inr i ↦ elim i [
            | inl n ↦ subst B (sym n.1) (like typed (types_seen h body) named l.ctype n.0 n.2)
            | inr n ↦ subst B (sym n.1) tt
          ]
        ];
        variable = counted typed (types_seen h body) named f.var e.variable;
      }

  known_ends : (k : ℕ) (l : Local) (b : Bounds) → local_at (setting_of p h body).frame k ≡ Some l
      → declared.AreKnown types (holder.Local k) l.ctype b → AreEnds (setting_of p h body) (size_behind p.layout l.ctype) b
  known_ends k l bounds.Unknown at w = tt
  known_ends k l (bounds.Known low high) at w = (ended k l low at w.pointer w.begins, ended k l high at w.pointer w.ends)

  declared_ends : (k : ℕ) (l : Local) → local_at (setting_of p h body).frame k ≡ Some l → slice_get (locals_made (frame_of_text p) h body) k ≡ Some l → HasEnds (setting_of p h body) l
  unfolding setting_of
  declared_ends k l at e =
      let w = bounds_known types (all_of h body) k l numbers e in
      record {
        ends = known_ends k l l.bounds at w;
        integer = unbounded l l.bounds (λ f. f) (λ low high f.
            (let v : declared.AreKnown types (holder.Local k) l.ctype (bounds.Known low high) =
            subst (declared.AreKnown types (holder.Local k) l.ctype) f w in v.pointer));
      }

  fresh_ends : (l : Local) → l ≡ nameless → HasEnds (setting_of p h body) l
  unfolding setting_of
  fresh_ends l e = subst (λ (x : Local). HasEnds (setting_of p h body) x) (sym e) (record { ends = tt; integer = λ i. refl })

  pub have_ends : HaveEnds (setting_of p h body)
  unfolding setting_of
  have_ends k l at = elim (local_is (frame_of_text p) h body k l at) [ inl e ↦ declared_ends k l at e | inr e ↦ fresh_ends l e ]

pub locals_have_ends : (p : Typed) (s : Setting) (f : Function) → IsJudged p → IsFunction p s f → HaveEnds s
locals_have_ends p s f j is = subst HaveEnds (sym is.judged) (have_ends p is.head is.body j is.there)
