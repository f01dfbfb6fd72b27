-- What has a type by its name is a local or a static object, and what an address is taken of is no array.
use Rattle.std.proofs.Common.{◌≡◌, ◌∙◌, ⊎_elim, sym, ap, subst, refl, inl, inr, ℕ, ◌+◌, true, false, List, [], ◌∷◌}
use Rattle.std.specs.Prelude.{All, ◌⊎◌, Option, Some, None, is_none, is_some, slice_get}
use Rattle.std.specs.List.{Contains}
use Rattle.std.specs.Option.{option_map}
use Rattle.std.proofs.lemmas.List.Elements.{All-nil, All-cons, All-contains_itself}
use Rattle.ckc_types.specs.declared.types.CType.{CType}
use Rattle.ckc_types.specs.declared.types.Kind.{Kind}
use Rattle.ckc_syntax.specs.declared.tree.Length.{Length}
use Rattle.ckc_syntax.specs.declared.tree.Length.TheVariants as lengths
use Rattle.ckc_syntax.specs.declared.tree.Name.{Name}
use Rattle.ckc_syntax.specs.declared.tree.Name.TheVariants as name
use Rattle.ckc_typed.specs.declared.environment.Object.{Object}
use Rattle.ckc_typed.specs.declared.environment.Variable.{Variable}
use Rattle.ckc_typed.specs.declared.typed.StaticObject.{StaticObject}
use Rattle.ckc_typed.specs.declared.typed.Typed.{Typed}
use Rattle.ckc_typed.specs.Environment.{kind_of_array, object_named, object_type, or_variable, same_name, type_of_name, used, variable_named}
use Rattle.ckc_typed.specs.Expressions.{is_no_array}
use Rattle.ckc_typed.specs.Statics.{is_terminated}
use Rattle.ckc_typed.specs.Trees.{NotedDecl}
use Rattle.ckc_typed.specs.Types.{is_scalar}
use Rattle.ckc_blame_sound.specs.ckc_bounds_views.specs.Judged.{is_declared_object}
use Rattle.ckc_build_elaborate.specs.Objects.{object_elaborated}
use Rattle.ckc_source.specs.Code.{Function}
use Rattle.ckc_blame_sound.specs.Settings.{Setting, IsFunction, setting_of}
use Rattle.ckc_blame_given.specs.ckc_blame_pointers.specs.Covered.{IsFreeObject}
use Rattle.ckc_blame_sound.specs.JudgedTexts.{IsJudged, globals_in}
use Rattle.ckc_blame_sound.proofs.Lists.{found}
use Rattle.ckc_blame_steps.specs.Statics.{IsStatic}
use Rattle.ckc_blame_steps.proofs.DeclaredTypes.{names_objects, scalar_parts}
use Rattle.ckc_blame_steps.proofs.Statics.{AreStatics, decls, index_of, object_is}
use Rattle.ckc_blame_steps.proofs.Told.{HasObject, are_statics, from_zero, has_object, local_named}

abbrev IsLocalName : Name → Type 0
IsLocalName n = (k : ℕ) × (n ≡ name.Local k)

abbrev pub IsStaticName : Name → Type 0
IsStaticName n = (k : ℕ) × (n ≡ name.Static k)

local_same : (k : ℕ) (n : Name) → same_name (name.Local k) n ≡ true → IsLocalName n
local_same k (name.Local i) e = (i, refl)
local_same k (name.Static i) e = absurd cc
local_same k (name.Function i) e = absurd cc
local_same k (name.Tag i) e = absurd cc
local_same k (name.Member i) e = absurd cc
local_same k name.Getchar e = absurd cc
local_same k name.Putchar e = absurd cc

static_same : (k : ℕ) (n : Name) → same_name (name.Static k) n ≡ true → IsStaticName n
static_same k (name.Static i) e = (i, refl)
static_same k (name.Local i) e = absurd cc
static_same k (name.Function i) e = absurd cc
static_same k (name.Tag i) e = absurd cc
static_same k (name.Member i) e = absurd cc
static_same k name.Getchar e = absurd cc
static_same k name.Putchar e = absurd cc

static_names : (n : ℕ) (ds : List NotedDecl) → AreStatics n ds → All (λ (d : NotedDecl). IsStaticName d.name) ds
static_names n [] h = All-nil (λ (d : NotedDecl). IsStaticName d.name)
static_names n (d ∷ ds) h = All-cons (λ (d : NotedDecl). IsStaticName d.name) d ds (n, h.0) (static_names (n + 1) ds h.1)

plain_length : (l : Length) → kind_of_array l ≡ None → is_terminated l ≡ false
plain_length lengths.Plain e = refl
plain_length (lengths.Raw n at) e = absurd cc
plain_length (lengths.Checked n) e = absurd cc
plain_length (lengths.Nt n) e = absurd cc

module _ (p : Typed) (s : Setting) (f : Function) (j : IsJudged p) (is : IsFunction p s f) where
  pub variable_local : (n : Name) (v : Variable) → variable_named s.variables n ≡ Some v → IsLocalName n
  variable_local n v e =
      let h = found (Contains s.variables) (λ (x : Variable). same_name x.name n) s.variables v (All-contains_itself s.variables) e in
      let l = local_named p j s f v is h.0 in
      local_same l.0 n (sym (ap (λ m. same_name m n) l.1) ∙ h.1)

  pub object_static : (n : Name) (o : Object) → object_named (globals_in p) n ≡ Some o → IsStaticName n
  object_static n o e =
      let d = object_is n o p.tree.items e in
      let h = found (λ (d : NotedDecl). IsStaticName d.name) (λ (d : NotedDecl). same_name d.name n) (decls p.tree.items) d.0 (static_names 0 (decls p.tree.items) (are_statics p j)) d.1 in
      static_same h.0.0 n (sym (ap (λ m. same_name m n) h.0.1) ∙ h.1)

  -- what has a type
  pub typed_name : (n : Name) (t : CType) → type_of_name (globals_in p) s.variables n ≡ Some t → IsStaticName n ⊎ ((v : Variable) × (variable_named s.variables n ≡ Some v) × (v.ctype ≡ t))
  typed_name n t e = by (variable_named s.variables n) refl e
    where
      object : (o : Option Object) → object_named (globals_in p) n ≡ o → option_map object_type o ≡ Some t → IsStaticName n
      object None g h = absurd cc
      object (Some o) g h = object_static n o g

      by : (v : Option Variable) → variable_named s.variables n ≡ v → or_variable v (object_named (globals_in p) n) ≡ Some t
          → IsStaticName n ⊎ ((v : Variable) × (variable_named s.variables n ≡ Some v) × (v.ctype ≡ t))
      by None g h = inl (object (object_named (globals_in p) n) refl h)
      by (Some v) g h = inr (v, g, cc)

  -- a local is a scalar
  pub local_scalar : (k : ℕ) (t : CType) → type_of_name (globals_in p) s.variables (name.Local k) ≡ Some t → is_scalar t ≡ true
  local_scalar k t e =
      ⊎_elim (λ i. absurd (no_static i.0 i.1))
      (λ v. subst (λ u. is_scalar u ≡ true) v.2 (scalar_parts v.0.ctype ((names_objects p s f j is).locals (name.Local k) v.0 v.1)).0) (typed_name (name.Local k) t e)
    where
      no_static : (i : ℕ) → ◌≡◌ {A = Name} (name.Local k) (name.Static i) → ⊥
      no_static i e = cc

  pub text_is : p ≡ s.text
  unfolding setting_of
  text_is = sym (ap (λ (x : Setting). x.text) is.judged)

  -- ---- an object that is no array

  no_array : (k : ℕ) → is_no_array (object_named (globals_in p) (name.Static k)) ≡ true → (e : NotedDecl) × HasObject p j k e × (kind_of_array e.length ≡ None)
  no_array k h = by (object_named (globals_in p) (name.Static k)) refl h
    where
      none : (o : Option Kind) → is_none o ≡ true → o ≡ None
      none None e = refl
      none (Some a) e = absurd cc

      by : (o : Option Object) → object_named (globals_in p) (name.Static k) ≡ o → is_no_array o ≡ true → (e : NotedDecl) × HasObject p j k e × (kind_of_array e.length ≡ None)
      by None g h = absurd cc
      by (Some o) g h =
          let d = object_is (name.Static k) o p.tree.items g in
          let i = index_of (decls p.tree.items) 0 k d.0 (are_statics p j) d.1 in
          let at : slice_get (decls p.tree.items) k ≡ Some d.0 = ap (slice_get (decls p.tree.items)) (i.1 ∙ from_zero i.0) ∙ i.2 in
          (d.0, has_object p j k d.0 at, sym (ap (λ (x : Object). x.array) d.2) ∙ none o.array h)

  -- declared without bounds, it is free
  pub free_object : (t : CType) (k : ℕ) → IsStatic s t k → is_no_array (object_named (globals_in p) (name.Static k)) ≡ true → is_declared_object (slice_get s.frame.objects k) ≡ false → IsFreeObject s t k
  free_object t k w h bare =
      let a = no_array k h in
      let there : slice_get s.text.statics k ≡ Some a.1.object = subst (λ (q : Typed). slice_get q.statics k ≡ Some a.1.object) text_is a.1.there in
      let same : w.object ≡ a.1.object = one w.object a.1.object (sym w.there ∙ there) in
      let array : w.object.array ≡ None = ap (λ (o : StaticObject). o.array) same ∙ a.1.array ∙ a.2 in
      record {
        object = w.object;
        there = w.there;
        free = w.placed ∙ ap (λ b. Some (object_elaborated s.text.layout (Some b) w.object)) (unbound w.decl.bounds (sym w.noted ∙ bare));
        plain = ap (λ (o : StaticObject). o.terminated) same ∙ a.1.ends ∙ plain_length a.0.length a.2;
        some = w.some;
        element = sym (w.type ∙ ap (used w.object.element) array);
      }
    where
      one : (a b : StaticObject) → Some a ≡ Some b → a ≡ b
      one a b e = cc

      unbound : {A : Type 0} (o : Option A) → is_some o ≡ false → is_none o ≡ true
      unbound None e = refl
      unbound (Some a) e = absurd cc

pub locals_scalar : (p : Typed) (s : Setting) (f : Function) (k : ℕ) (t : CType) → IsJudged p → IsFunction p s f → type_of_name (globals_in p) s.variables (name.Local k) ≡ Some t → is_scalar t ≡ true
locals_scalar p s f k t j is = local_scalar p s f j is k t
