-- What is known of the static objects of a judged text.
use Rattle.std.proofs.Common.{◌≡◌, ◌∙◌, sym, ap, subst, refl, arith, ℕ, ◌+◌, ◌<◌, true, false, List, [], ◌∷◌, ◌++◌, map}
use Rattle.std.specs.Prelude.{Option, Some, None, is_none, is_some, slice_get, unwrap_or, All, Ok}
use Rattle.std.specs.List.{Contains, flat_map}
use Rattle.std.specs.Option.{option_map}
use Rattle.std.proofs.lemmas.Option.{slice_get-map}
use Rattle.std.proofs.lemmas.List.Sorted.{Contains-permutation, IsPermutation-sym}
use Rattle.std.proofs.lemmas.List.Elements.{All-nil, All-cons, All-contains, All-contains_itself}
use Rattle.ckc_base.specs.declared.arithmetic.Mode.TheVariants.{Unchecked}
use Rattle.ckc_base.specs.MemoryMap.{data_start}
use Rattle.ckc_types.specs.declared.types.CType.{CType}
use Rattle.ckc_types.specs.declared.types.Structs.{Structs}
use Rattle.ckc_syntax.specs.declared.tree.Name.TheVariants as name
use Rattle.ckc_syntax.specs.declared.tree.Item.TheVariants as item
use Rattle.ckc_resolve.specs.Scoping.{no_names, names_of}
use Rattle.ckc_typed.specs.declared.environment.Object.{Object}
use Rattle.ckc_typed.specs.declared.environment.Variable.{Variable}
use Rattle.ckc_typed.specs.declared.typed.StaticObject.{StaticObject}
use Rattle.ckc_typed.specs.declared.typed.Typed.{Typed}
use Rattle.ckc_typed.specs.Environment.{same_name, kind_of_array, used, object_type, or_variable, object_named, variable_declared, variable_named, variables_of, type_of_name}
use Rattle.ckc_typed.specs.Statics.{is_terminated, object_of, object_of_string, strings_of_item, blocks}
use Rattle.ckc_typed.specs.Texts.{globals_of}
use Rattle.ckc_typed.specs.Trees.{Item, Tree, NotedDecl, NotedHead, NotedItem, NotedLimits, NotedStmt}
use Rattle.ckc_typed.specs.Types.{type_written}
use Rattle.ckc_typed_fit.specs.Numbers.{static_numbers, CountsFrom}
use Rattle.ckc_typed_fit.proofs.NamedItems.{text_is}
use Rattle.ckc_typed_plain.specs.Resolved.{IsResolved}
use Rattle.ckc_typed_plain.proofs.Items.{resolved_of, all_items}
use Rattle.ckc_typed_plain.proofs.Stay.{statics_count}
use Rattle.ckc_typed_welltyped.specs.Noteless.{bare_item, without_notes}
use Rattle.ckc_blame_sound.specs.ckc_bounds_points.specs.declared.frame.Frame.{Frame}
use Rattle.ckc_blame_sound.specs.ckc_bounds_declared.specs.declared.limits.Holder.TheVariants as holder
use Rattle.ckc_blame_sound.specs.ckc_bounds_declared.specs.Written.{bounds_by_type, takes_bounds, bounds_declared}
use Rattle.ckc_blame_sound.specs.ckc_bounds_statements.specs.DeclBounds.{holder_of}
use Rattle.ckc_blame_sound.specs.ckc_bounds.specs.Declarations.{object_bounds, object_bounds_in, objects_of}
use Rattle.ckc_blame_sound.specs.ckc_bounds.specs.Frames.{structs_frame, all_of}
use Rattle.ckc_source.specs.Code.{Function}
use Rattle.ckc_linear.specs.declared.forms.Base.TheVariants as base
use Rattle.ckc_blame_sound.specs.ckc_bounds_stores.specs.Targets.{written_there}
use Rattle.ckc_blame_sound.specs.ckc_bounds_views.specs.Judged.{is_declared_object}
use Rattle.ckc_blame_sound.specs.ckc_bounds_views.specs.Ranges.{range_of_object}
use Rattle.ckc_build_values.specs.Names.{count_declared, count_of_static, limits_declared}
use Rattle.ckc_build_elaborate.specs.Objects.{run_in, object_elaborated, objects_elaborated}
use Rattle.ckc_blame_sound.specs.Settings.{Setting, IsFunction, frame_of_text, setting_of}
use Rattle.ckc_blame_sound.specs.JudgedTexts.{IsJudged, globals_in}
use Rattle.ckc_blame_sound.proofs.Bounded.{is_bounded}
use Rattle.ckc_blame_sound.proofs.Frames.{variables_moved}
use Rattle.ckc_blame_sound.proofs.Functions.{tree_named, numbered}
use Rattle.ckc_blame_sound.proofs.Lists.{more_at, found}
use Rattle.ckc_blame_sound.proofs.Locals.{names_declared, variables_declared}
use Rattle.ckc_blame_walk.specs.ckc_blame_declared.proofs.More.{declared_stays}
use Rattle.ckc_blame_walk.proofs.NamedStatics.{HasStatic, items_static}
use Rattle.ckc_blame_walk.proofs.Texts.{text_same}
use Rattle.ckc_blame_steps.specs.Statics.{IsStatic, bounds_counted, range_counted}
use Rattle.ckc_blame_steps.proofs.Statics.{decls, AreStatics, IsAgain, limits_found, limits_of, objects_are, runs_are, blocks_are, placed_at, beside_at, object_is, decl_there, have_elements, element_at, items_again, again_at, found_at, index_of, name_at, statics_numbered}
use Rattle.ckc_blame_steps.proofs.StaticBounds.{Alike, alike}

pub from_zero : (k : ℕ) → 0 + k ≡ k
from_zero k = omega arith

module _ (p : Typed) (j : IsJudged p) where
  items_named : map bare_item p.tree.items ≡ j.named.tree.items
  items_named = ap (λ (t : Tree). t.items) (tree_named p j)

  r : IsResolved j.spelled j.named
  r = resolved_of j.spelled j.named j.has_names

  pub are_statics : AreStatics 0 (decls p.tree.items)
  are_statics =
      statics_numbered p.tree.items 0
      (subst (λ (is : List Item). All HasStatic is) (sym items_named) (all_items j.spelled j.named r HasStatic (λ h b c k. k) (items_static (names_of j.spelled) j.spelled.items no_names j.spelled.items r.resolved.tree.items (text_is j.spelled r.resolved r.has_names).items)))
      (subst (λ (is : List Item). CountsFrom 0 (static_numbers is)) (sym items_named) (statics_count j.spelled j.named j.has_names))

  abbrev first_frame : Frame
  first_frame = structs_frame p.layout p.statics

  abbrev Q : List NotedItem
  Q = j.typed.tree.items

  -- the declaration as it was before it was judged
  before : (k : ℕ) (e : NotedDecl) → slice_get (decls p.tree.items) k ≡ Some e → (d : NotedDecl) × (slice_get (decls Q) k ≡ Some d) × IsAgain (frame_of_text j.typed) d e
  before k e at =
      again_at (frame_of_text j.typed) (decls Q) (decls p.tree.items) k e
      ((items_again (frame_of_text j.typed) Q).made p.tree.items (is_bounded j.typed p j.has_bounds).items) at

  -- an object that is declared
  pub record HasObject (k : ℕ) (e : NotedDecl) : Type 0 where
    pub object : StaticObject
    pub there : slice_get p.statics k ≡ Some object
    pub element : object.element ≡ type_written e.ctype
    pub array : object.array ≡ kind_of_array e.length
    pub ends : object.terminated ≡ is_terminated e.length
    pub some : 0 < object.count

  statics_at : (k : ℕ) (o : StaticObject) → slice_get (blocks j.typed.layout Q) k ≡ Some o → (a : ℕ) × (slice_get p.statics k ≡ Some (record o { at = a }))
  statics_at k o at =
      let r = placed_at j.typed.layout data_start (blocks j.typed.layout Q) k o at in
      (r.0, ap (λ os. slice_get os k) ((is_bounded j.typed p j.has_bounds).statics ∙ j.has_types.typed.statics) ∙ r.1)

  block_at : (k : ℕ) (d : NotedDecl) → slice_get (decls Q) k ≡ Some d → slice_get (blocks j.typed.layout Q) k ≡ Some (object_of j.typed.layout d)
  block_at k d at =
      ap (λ os. slice_get (os ++ map object_of_string (flat_map strings_of_item Q)) k) (blocks_are j.typed.layout Q)
      ∙ more_at (map (object_of j.typed.layout) (decls Q)) (map object_of_string (flat_map strings_of_item Q)) k (object_of j.typed.layout d)
      (slice_get-map (object_of j.typed.layout) (decls Q) k ∙ ap (option_map (object_of j.typed.layout)) at)

  pub has_object : (k : ℕ) (e : NotedDecl) → slice_get (decls p.tree.items) k ≡ Some e → HasObject k e
  has_object k e at =
      let b = before k e at in
      let o = statics_at k (object_of j.typed.layout b.0) (block_at k b.0 b.1) in
      let same = b.2.same in
      record {
        object = record (object_of j.typed.layout b.0) { at = o.0 };
        there = o.1;
        element = sym (ap (λ (d : NotedDecl). type_written d.ctype) same);
        array = sym (ap (λ (d : NotedDecl). kind_of_array d.length) same);
        ends = sym (ap (λ (d : NotedDecl). is_terminated d.length) same);
        some = element_at (decls Q) k b.0 (have_elements (globals_of (without_notes j.typed.tree).items) Unchecked Q j.has_types.typed.items) b.1;
      }

  -- its bounds are judged
  is_alike : (k : ℕ) (e : NotedDecl) → slice_get (decls p.tree.items) k ≡ Some e → Alike first_frame e
  is_alike k e at =
      let b = before k e at in
      let same = b.2.same in
      let named : b.0.name ≡ name.Static k = sym (ap (λ (d : NotedDecl). d.name) same) ∙ name_at (decls p.tree.items) 0 k e are_statics at ∙ ap name.Static (from_zero k) in
      let holds : bounds_declared (frame_of_text j.typed) holder.Static (type_written b.0.ctype) b.0.length b.0.bounds ≡ Ok b.2.bounds =
      sym (ap (λ n. bounds_declared (frame_of_text j.typed) (holder_of n) (type_written b.0.ctype) b.0.length b.0.bounds) named) ∙ b.2.judged in
      let frames : frame_of_text p ≡ frame_of_text j.typed = (text_same j.typed p j.has_bounds).frame in
      let here : bounds_declared (frame_of_text p) holder.Static (type_written e.ctype) e.length e.bounds ≡ Ok b.2.bounds =
      ap (λ f. bounds_declared f holder.Static (type_written e.ctype) e.length e.bounds) frames
      ∙ ap (λ (d : NotedDecl). bounds_declared (frame_of_text j.typed) holder.Static (type_written d.ctype) d.length d.bounds) same ∙ holds in
      alike first_frame e b.2.bounds
      (declared_stays (frame_of_text p) first_frame (record { structs = refl; statics = refl; locals = λ i l f. f }) holder.Static (type_written e.ctype) e.length e.bounds b.2.bounds here)

  -- ---- in the frame of a function

  objects_at : (k : ℕ) (e : NotedDecl) → slice_get (decls p.tree.items) k ≡ Some e → slice_get (objects_of first_frame p.tree.items) k ≡ Some (object_bounds first_frame e)
  objects_at k e at = ap (λ os. slice_get os k) (objects_are first_frame p.tree.items) ∙ slice_get-map (object_bounds first_frame) (decls p.tree.items) k ∙ ap (option_map (object_bounds first_frame)) at

  pub runs_at : (k : ℕ) (e : NotedDecl) → slice_get (decls p.tree.items) k ≡ Some e → slice_get (flat_map run_in p.tree.items) k ≡ Some (is_none e.bounds)
  runs_at k e at =
      ap (λ bs. slice_get bs k) (runs_are p.tree.items) ∙ slice_get-map (λ (d : NotedDecl). is_none d.bounds) (decls p.tree.items) k ∙ ap (option_map (λ (d : NotedDecl). is_none d.bounds)) at

  noted_at : (e : NotedDecl) → is_declared_object (Some (object_bounds first_frame e)) ≡ is_some e.bounds
  noted_at e = by e.bounds
    where
      by : (o : Option NotedLimits) → is_declared_object (Some (object_bounds_in first_frame e o)) ≡ is_some o
      by None = refl
      by (Some l) = refl

  abbrev Frames : Setting → Type 0
  Frames s = (s.frame.statics ≡ p.statics) × (s.frame.objects ≡ objects_of first_frame p.tree.items) × (s.text ≡ p)

  frames_are : (h : NotedHead) (body : NotedStmt) → Frames (setting_of p h body)
  unfolding setting_of
  frames_are h body = (refl, refl, refl)

  frames_of : (s : Setting) (f : Function) → IsFunction p s f → Frames s
  frames_of s f is = subst Frames (sym is.judged) (frames_are is.head is.body)

  told : (s : Setting) → Frames s → (t : CType) (k : ℕ) (e : NotedDecl) → slice_get (decls p.tree.items) k ≡ Some e → t ≡ used (type_written e.ctype) (kind_of_array e.length) → IsStatic s t k
  told s f t k e at is =
      let o = has_object k e at in
      let a = is_alike k e at in
      let limits : limits_declared s.text (name.Static k) ≡ e.bounds =
      ap (λ (q : Typed). limits_declared q (name.Static k)) f.2 ∙ limits_found (name.Static k) p.tree.items ∙ ap limits_of (found_at (decls p.tree.items) 0 k k e (omega arith) are_statics at) in
      let noted : slice_get s.frame.objects k ≡ Some (object_bounds first_frame e) = ap (λ os. slice_get os k) f.1 ∙ objects_at k e at in
      let layout : s.text.layout ≡ p.layout = ap (λ (q : Typed). q.layout) f.2 in
      let counts : count_of_static s.text o.object.element (name.Static k) ≡ count_declared p.layout (type_written e.ctype) e.bounds =
      ap (λ l. count_declared s.text.layout o.object.element l) limits ∙ ap (λ (x : Structs). count_declared x o.object.element e.bounds) layout ∙ ap (λ u. count_declared p.layout u e.bounds) o.element in
      record {
        decl = e;
        declared = subst (λ (q : Typed). Contains q.tree.items (item.Static e)) (sym f.2) (decl_there p.tree.items k e at);
        named = name_at (decls p.tree.items) 0 k e are_statics at ∙ ap name.Static (from_zero k);
        object = o.object;
        there = ap (λ (q : Typed). slice_get q.statics k) f.2 ∙ o.there;
        judged = ap (λ os. slice_get os k) f.0 ∙ o.there;
        written = o.element;
        array = o.array;
        ends = o.ends;
        some = o.some;
        type = is ∙ ap (λ u. used u (kind_of_array e.length)) (sym o.element) ∙ ap (used o.object.element) (sym o.array);
        limits = limits;
        noted = ap is_declared_object noted ∙ noted_at e;
        placed = ap (λ (q : Typed). slice_get (objects_elaborated q) k) f.2 ∙ beside_at (object_elaborated p.layout) (flat_map run_in p.tree.items) p.statics k (is_none e.bounds) o.object (runs_at k e at) o.there
            ∙ ap (λ (q : Typed). Some (object_elaborated q.layout (Some (is_none e.bounds)) o.object)) (sym f.2);
        takes = λ g. ap (λ u. takes_bounds u e.length) o.element ∙ a.takes g;
        bounds = ap (λ w. unwrap_or (written_there w) (bounds_by_type (base.Value 0) o.object.element)) noted ∙ ap (λ u. unwrap_or (written_there (Some (object_bounds first_frame e))) (bounds_by_type (base.Value 0) u)) o.element
            ∙ a.bounds ∙ ap bounds_counted (sym counts);
        range = λ own. ap (λ x. range_of_object x o.object.element own) noted ∙ ap (λ u. range_of_object (Some (object_bounds first_frame e)) u own) o.element
            ∙ a.range own ∙ ap (range_counted own) (sym counts);
      }

  -- ---- by the type of a name

  abbrev IsLocalName : Variable → Type 0
  IsLocalName v = (n : ℕ) × (v.name ≡ name.Local n)

  locals_named : (ks : List ℕ) (ds : List NotedDecl) → names_declared ds ≡ map name.Local ks → All IsLocalName (variables_declared ds)
  locals_named ks [] h = All-nil IsLocalName
  locals_named [] (d ∷ ds) h = absurd cc
  locals_named (k ∷ ks) (d ∷ ds) h = All-cons IsLocalName (variable_declared d) (variables_declared ds) (k, cc) (locals_named ks ds cc)

  among : (h : NotedHead) (body : NotedStmt) → Contains p.tree.items (item.Function h body) → (v : Variable) → Contains (variables_of body.note.mode h body) v → IsLocalName v
  among h body c v there =
      All-contains IsLocalName (variables_declared (all_of h body)) v (locals_named (numbered p h body j c).0 (all_of h body) (numbered p h body j c).1)
      (Contains-permutation (variables_of body.note.mode h body) (variables_declared (all_of h body)) v (IsPermutation-sym (variables_declared (all_of h body)) (variables_of body.note.mode h body) (variables_moved h body)) there)

  no_variable : (h : NotedHead) (body : NotedStmt) (k : ℕ) → Contains p.tree.items (item.Function h body) → variable_named (variables_of body.note.mode h body) (name.Static k) ≡ None
  no_variable h body k c = by (variable_named (variables_of body.note.mode h body) (name.Static k)) refl
    where
      static : (v : Variable) → IsLocalName v → same_name v.name (name.Static k) ≡ true → ⊥
      static v l e = absurd (no_static (sym (ap (λ n. same_name n (name.Static k)) l.1) ∙ e))
        where
          no_static : false ≡ true → ⊥
          no_static e = absurd cc

      by : (o : Option Variable) → variable_named (variables_of body.note.mode h body) (name.Static k) ≡ o → variable_named (variables_of body.note.mode h body) (name.Static k) ≡ None
      by None e = e
      by (Some v) e =
          let f = found (Contains (variables_of body.note.mode h body)) (λ (x : Variable). same_name x.name (name.Static k)) (variables_of body.note.mode h body) v (All-contains_itself (variables_of body.note.mode h body)) e in
          absurd (static v (among h body c v f.0) f.1)

  variables_are : (h : NotedHead) (body : NotedStmt) → (setting_of p h body).variables ≡ variables_of body.note.mode h body
  unfolding setting_of
  variables_are h body = refl

  -- each variable of a function has the name of a local
  pub local_named : (s : Setting) (f : Function) (v : Variable) → IsFunction p s f → Contains s.variables v → (n : ℕ) × (v.name ≡ name.Local n)
  local_named s f v is there =
      let variables : s.variables ≡ variables_of is.body.note.mode is.head is.body = ap (λ (r : Setting). r.variables) is.judged ∙ variables_are is.head is.body in
      among is.head is.body is.there v (subst (λ vs. Contains vs v) variables there)

  -- and none that of an object of file scope
  pub none_named : (s : Setting) (f : Function) (k : ℕ) → IsFunction p s f → variable_named s.variables (name.Static k) ≡ None
  none_named s f k is =
      let variables : s.variables ≡ variables_of is.body.note.mode is.head is.body = ap (λ (r : Setting). r.variables) is.judged ∙ variables_are is.head is.body in
      ap (λ vs. variable_named vs (name.Static k)) variables ∙ no_variable is.head is.body k is.there

  by_type : (s : Setting) (f : Function) (t : CType) (k : ℕ) → IsFunction p s f → type_of_name (globals_in p) s.variables (name.Static k) ≡ Some t → IsStatic s t k
  by_type s f t k is e =
      let none : variable_named s.variables (name.Static k) ≡ None = none_named s f k is in
      by (object_named (globals_in p) (name.Static k)) refl (sym (ap (λ v. or_variable v (object_named (globals_in p) (name.Static k))) none) ∙ e)
    where
      by : (o : Option Object) → object_named (globals_in p) (name.Static k) ≡ o → option_map object_type o ≡ Some t → IsStatic s t k
      by None g h = absurd cc
      by (Some o) g h =
          let d = object_is (name.Static k) o p.tree.items g in
          let i = index_of (decls p.tree.items) 0 k d.0 are_statics d.1 in
          let at : slice_get (decls p.tree.items) k ≡ Some d.0 = ap (slice_get (decls p.tree.items)) (i.1 ∙ from_zero i.0) ∙ i.2 in
          told s (frames_of s f is) t k d.0 at (sym (type_is t h) ∙ ap object_type d.2)
        where
          type_is : (t : CType) → Some (object_type o) ≡ Some t → object_type o ≡ t
          type_is t g = cc

pub statics_told : (p : Typed) (s : Setting) (f : Function) (t : CType) (k : ℕ) → IsJudged p → IsFunction p s f → type_of_name (globals_in p) s.variables (name.Static k) ≡ Some t → IsStatic s t k
statics_told p s f t k j is e = by_type p j s f t k is e
