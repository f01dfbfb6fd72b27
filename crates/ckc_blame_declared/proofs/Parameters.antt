-- The parameters that a head tells are the first locals of its function.
use Rattle.std.proofs.Common.{◌≡◌, ◌∙◌, sym, ap, subst, refl, inl, inr, arith, ℕ, ◌+◌, ◌<◌, List, [], ◌∷◌, ◌++◌, map, length, append-nil}
use Rattle.std.specs.Prelude.{◌⊎◌, All, Bool, true, false, if◌then◌else◌, Option, Some, None, slice_get, Ok, Err}
use Rattle.std.specs.List.{Contains}
use Rattle.std.specs.Option.{option_map}
use Rattle.std.proofs.lemmas.List.Elements.{All-nil, All-cons, All-head, All-tail, All-contains, Contains-append_left}
use Rattle.std.proofs.lemmas.Option.{slice_get-map, slice_get_within}
use Rattle.ckc_base.specs.declared.arithmetic.Mode.TheVariants.{Checked}
use Rattle.ckc_base.specs.Outcomes.{Outcome}
use Rattle.ckc_base.proofs.Outcomes.{unbroken}
use Rattle.ckc_base.proofs.Gives.{Gives, given_from, bound, itself}
use Rattle.ckc_types.specs.declared.types.Kind.TheVariants as kind
use Rattle.ckc_linear.specs.declared.forms.Base.TheVariants as base
use Rattle.ckc_syntax.specs.declared.tree.Name.{Name}
use Rattle.ckc_syntax.specs.declared.tree.Name.TheVariants as name
use Rattle.ckc_syntax.specs.declared.tree.Limits.{out-Limits}
use Rattle.ckc_syntax.specs.declared.tree.Item.TheVariants as item
use Rattle.ckc_typed.specs.declared.typed.Note.{Note}
use Rattle.ckc_typed.specs.declared.typed.Typed.{Typed}
use Rattle.ckc_typed.specs.Environment.{variables_of}
use Rattle.ckc_typed.specs.Interfaces.{is_interface, seen, seen_params}
use Rattle.ckc_typed.specs.Trees.{NotedLimits, NotedDecl, NotedHead, NotedStmt, NotedItem}
use Rattle.ckc_typed.specs.Types.{type_written, is_pointer, is_pointer_form, element_in, element_of, kind_in}
use Rattle.ckc_typed.proofs.Seen.{name_seen, plain_seen}
use Rattle.ckc_blame_sound.specs.ckc_bounds_points.specs.declared.frame.Bounds.{Bounds}
use Rattle.ckc_blame_sound.specs.ckc_bounds_points.specs.declared.frame.Frame.{Frame}
use Rattle.ckc_blame_sound.specs.ckc_bounds_points.specs.declared.frame.Local.{Local}
use Rattle.ckc_blame_sound.specs.ckc_bounds_points.specs.Codes.{bad_limits}
use Rattle.ckc_blame_sound.specs.ckc_bounds_declared.specs.declared.limits.Holder.TheVariants as holder
use Rattle.ckc_blame_sound.specs.ckc_bounds_declared.specs.Written.{bounds_of_kind, bounds_by_type, place_of_limits, bounds_declared}
use Rattle.ckc_blame_sound.specs.ckc_bounds_statements.specs.DeclBounds.{holder_of, decl_bounds, bounds_there}
use Rattle.ckc_blame_sound.specs.ckc_bounds_statements.specs.Paths.{path}
use Rattle.ckc_blame_sound.specs.ckc_bounds.specs.Declarations.{member_holder, each, are_unknown_form, interface_bounds, param_bounds, few_of, known_or_not, local_made, all_made, types_in, params_frame, declared_in, head_judged, result_bounds}
use Rattle.ckc_blame_sound.specs.ckc_bounds.specs.Frames.{all_of, types_frame}
use Rattle.ckc_blame_sound.specs.ckc_bounds.specs.Texts.{members_judged, object_judged, body_judged, head_kept, item_judged, items_judged}
use Rattle.ckc_source.specs.Code.{Function}
use Rattle.ckc_blame_sound.specs.Settings.{Setting, IsFunction, frame_of_text, setting_of}
use Rattle.ckc_blame_sound.specs.Passed.{AreParameters, IsUnjudged}
use Rattle.ckc_blame_sound.specs.JudgedTexts.{IsJudged}
use Rattle.ckc_blame_sound.proofs.Bounded.{is_bounded, anything}
use Rattle.ckc_blame_sound.proofs.Frames.{first_at, first_keeps, locals_made, locals_counted}
use Rattle.ckc_blame_sound.proofs.Functions.{params_own, numbered, types_numbered_so}
use Rattle.ckc_blame_sound.proofs.Bodies.{contains_made}
use Rattle.ckc_blame_sound.proofs.Seen.{IsShared, seen_in, pointer_out}
use Rattle.ckc_blame_sound.specs.Numbered.{AreAllLocals}
use Rattle.ckc_blame_sound.proofs.ByNumber.{at_index, all_at, declaration_at}
use Rattle.ckc_blame_sound.proofs.Locals.{names_declared}
use Rattle.ckc_blame_declared.proofs.Heads.{parameter_names}
use Rattle.ckc_blame_declared.proofs.Locals.{contains_at, local_there}
use Rattle.ckc_blame_declared.proofs.More.{KnowsAs, declared_stays}

-- more declarations leave the types of those before them
knows_more : (frame other : Frame) (ds es : List NotedDecl) → AreAllLocals (names_declared ds) → AreAllLocals (names_declared (ds ++ es)) → other.structs ≡ frame.structs → other.statics ≡ frame.statics
    → KnowsAs (types_in frame ds) (types_in other (ds ++ es))
unfolding few_of
knows_more frame other ds es some all structs statics = record {
  structs = structs;
  statics = statics;
  locals = λ k a e.
      (let one = first_at 1023 (all_made frame false ds) k a e in
      let d = declaration_at frame false ds k a some one.1 in
      first_keeps 1023 (all_made other false (ds ++ es)) k a one.0 (all_at other false (ds ++ es) k d.0 all (Contains-append_left ds es d.0 d.1) d.2 ∙ ap Some (sym d.3)));
}

-- ---- what was judged

abbrev pub IsJudgedWell : {A : Type 0} → Outcome A → Type 0
IsJudgedWell {A} o = (a : A) × (o ≡ Ok a)

each_well : {A : Type 0} (os : List (Outcome A)) → Gives (λ u. All IsJudgedWell os) (each os)
each_well [] = All-nil IsJudgedWell
each_well {A} (o ∷ os) =
    bound {A = A} (λ a. o ≡ Ok a) (λ u. All IsJudgedWell (o ∷ os)) o (λ a. each os) (itself o) (λ a e. by a e (each os) (each_well os))
  where
    by : (a : A) → o ≡ Ok a → (r : Outcome (Unit {0})) → Gives (λ (u : Unit {0}). All IsJudgedWell os) r → Gives (λ (u : Unit {0}). All IsJudgedWell (o ∷ os)) r
    by a e (Ok u) h = All-cons IsJudgedWell o os (a, e) h
    by a e (Err r) h = tt

-- the bounds of an interface are not `bounds(unknown)`
abbrev pub IsToldForm : Option NotedLimits → Type 0
IsToldForm None = Unit {0}
IsToldForm (Some l) = are_unknown_form (out-Limits Name Note l) ≡ false

-- A parameter has bounds among the parameters, as its callers see it.
pub record IsParamWell (types : Frame) (d : NotedDecl) : Type 0 where
  pub judged : IsJudgedWell (bounds_there types (seen Checked d))
  pub told : is_interface d ≡ true → IsToldForm d.bounds

pub record IsHeadWell (frame : Frame) (h : NotedHead) : Type 0 where
  pub params : All IsJudgedWell (map (bounds_there (params_frame frame h)) (seen_params Checked h))
  pub interfaces : All (IsParamWell (params_frame frame h)) h.params
  pub result : IsJudgedWell (result_bounds (params_frame frame h) h)

abbrev IsItemWell : Frame → NotedItem → Type 0
IsItemWell frame (item.Function h body) = IsHeadWell frame h
IsItemWell frame i = Unit {0}

interface_well : (types : Frame) (d : NotedDecl) (l : Option NotedLimits) (b : Bounds) → interface_bounds types (seen Checked d) l ≡ Ok b → (bounds_there types (seen Checked d) ≡ Ok b) × IsToldForm l
interface_well types d None b e = (e, tt)
interface_well types d (Some l) b e =
    let w = unbroken (are_unknown_form (out-Limits Name Note l)) bad_limits (place_of_limits l) (bounds_there types (seen Checked d)) b e in (w.1, w.0)

param_well : (types : Frame) (d : NotedDecl) → IsJudgedWell (param_bounds types d) → IsParamWell types d
param_well types d w = by (is_interface d) refl w.1
  where
    by : (b : Bool) → is_interface d ≡ b → (if b then interface_bounds types (seen Checked d) d.bounds else bounds_there types d) ≡ Ok w.0 → IsParamWell types d
    by true is e = let i = interface_well types d d.bounds w.0 e in record { judged = (w.0, i.0); told = λ k. i.1 }
    by false is e = record { judged = (w.0, ap (bounds_there types) (plain_seen Checked d is) ∙ e); told = λ k. absurd (let f : true ≡ false = sym k ∙ is in cc) }

params_well : (types : Frame) (ds : List NotedDecl) → All IsJudgedWell (map (param_bounds types) ds) → All (IsParamWell types) ds
params_well types [] all = All-nil (IsParamWell types)
params_well types (d ∷ ds) all =
    All-cons (IsParamWell types) d ds (param_well types d (All-head IsJudgedWell (param_bounds types d) (map (param_bounds types) ds) all))
    (params_well types ds (All-tail IsJudgedWell (param_bounds types d) (map (param_bounds types) ds) all))

seen_well : (types : Frame) (ds : List NotedDecl) → All (IsParamWell types) ds → All IsJudgedWell (map (bounds_there types) (map (seen Checked) ds))
seen_well types [] all = All-nil IsJudgedWell
seen_well types (d ∷ ds) all =
    All-cons IsJudgedWell (bounds_there types (seen Checked d)) (map (bounds_there types) (map (seen Checked) ds)) (All-head (IsParamWell types) d ds all).judged
    (seen_well types ds (All-tail (IsParamWell types) d ds all))

head_well : (frame : Frame) (h : NotedHead) → Gives (λ (g : NotedHead). (g ≡ h) × IsHeadWell frame h) (head_kept frame h)
head_well frame h =
    let T = params_frame frame h in
    bound {A = Bounds} (λ b. IsHeadWell frame h) (λ (g : NotedHead). (g ≡ h) × IsHeadWell frame h) (head_judged T h) (λ b. Ok h)
    (bound {A = Unit {0}} (λ u. All IsJudgedWell (map (param_bounds T) h.params)) (λ (b : Bounds). IsHeadWell frame h) (each (map (param_bounds T) h.params)) (λ u. result_bounds T h)
    (each_well (map (param_bounds T) h.params)) (λ u all. by (result_bounds T h) refl (params_well T h.params all))) (λ b w. (refl, w))
  where
    by : (o : Outcome Bounds) → result_bounds (params_frame frame h) h ≡ o → All (IsParamWell (params_frame frame h)) h.params → Gives (λ (b : Bounds). IsHeadWell frame h) o
    by (Ok b) e all = record { params = seen_well (params_frame frame h) h.params all; interfaces = all; result = (b, e) }
    by (Err r) e all = tt

item_well : (frame : Frame) (i : NotedItem) → Gives (IsItemWell frame) (item_judged frame i)
item_well frame (item.Directive d) = tt
item_well frame (item.Tag n at) = tt
item_well frame (item.Struct n ms at) = bound (λ u. Unit {0}) (IsItemWell frame) _ _ (anything (members_judged frame (member_holder n) ms)) (λ u z. tt)
item_well frame (item.Static d) = bound (λ e. Unit {0}) (IsItemWell frame) _ _ (anything (object_judged frame d)) (λ e z. tt)
item_well frame (item.Proto h) = bound (λ g. Unit {0}) (IsItemWell frame) _ _ (anything (head_kept frame h)) (λ g z. tt)
item_well frame (item.Function h body) =
    bound {A = NotedHead} (λ g. (g ≡ h) × IsHeadWell frame h) (IsItemWell frame) _ _ (head_well frame h) (λ g w.
    bound (λ s. Unit {0}) (IsItemWell frame) _ _ (anything (body_judged frame h body)) (λ s z. subst (IsHeadWell frame) (sym w.0) w.1))

items_well : (frame : Frame) (is : List NotedItem) → Gives (All (IsItemWell frame)) (items_judged frame is)
items_well frame [] = All-nil (IsItemWell frame)
items_well frame (i ∷ is) =
    bound {A = NotedItem} (IsItemWell frame) (All (IsItemWell frame)) _ _ (item_well frame i) (λ j f.
    bound {A = List NotedItem} (All (IsItemWell frame)) (All (IsItemWell frame)) _ _ (items_well frame is) (λ js g. All-cons (IsItemWell frame) j js f g))

pub function_well : (p : Typed) (j : IsJudged p) (h : NotedHead) (body : NotedStmt) → Contains p.tree.items (item.Function h body) → IsHeadWell (frame_of_text j.typed) h
function_well p j h body there =
    let frame = frame_of_text j.typed in
    All-contains (IsItemWell frame) p.tree.items (item.Function h body)
    (given_from (All (IsItemWell frame)) (items_judged frame j.typed.tree.items) p.tree.items (items_well frame j.typed.tree.items) (is_bounded j.typed p j.has_bounds).items) there

-- ---- parameters

module _ (p : Typed) (j : IsJudged p) (h : NotedHead) (body : NotedStmt) (there : Contains p.tree.items (item.Function h body)) where
  abbrev params : List NotedDecl
  params = seen_params Checked h

  some : AreAllLocals (names_declared params)
  some = params_own p h body j there Checked

  knows : (es : List NotedDecl) → AreAllLocals (names_declared (params ++ es)) → KnowsAs (params_frame (frame_of_text j.typed) h) (types_in (frame_of_text p) (params ++ es))
  knows es all = knows_more (frame_of_text j.typed) (frame_of_text p) params es some all (is_bounded j.typed p j.has_bounds).layout (is_bounded j.typed p j.has_bounds).statics

  -- its bounds as they were judged
  pub judged_at : (k : ℕ) (d : NotedDecl) → Contains params d → d.name ≡ name.Local k → (b : Bounds) × (decl_bounds (params_frame (frame_of_text j.typed) h) (holder.Local k) d ≡ Ok b)
  judged_at k d c named =
      let T = params_frame (frame_of_text j.typed) h in
      let at = at_index params d c in
      let one = All-contains IsJudgedWell (map (bounds_there T) params) (bounds_there T d) (function_well p j h body there).params
      (contains_at (map (bounds_there T) params) at.0 (bounds_there T d) (slice_get-map (bounds_there T) params at.0 ∙ ap (option_map (bounds_there T)) at.1)) in
      (one.0, subst (λ n. decl_bounds T (holder_of n) d ≡ Ok one.0) named one.1)

  made_same : (k : ℕ) (d : NotedDecl) (es : List NotedDecl) (b : Bounds) → AreAllLocals (names_declared (params ++ es)) → decl_bounds (params_frame (frame_of_text j.typed) h) (holder.Local k) d ≡ Ok b
      → local_made (types_in (frame_of_text p) (params ++ es)) true k d ≡ record { ctype = type_written d.ctype; bounds = b }
  made_same k d es b all e =
      let f = declared_stays (params_frame (frame_of_text j.typed) h) (types_in (frame_of_text p) (params ++ es)) (knows es all) (holder.Local k) (type_written d.ctype) d.length d.bounds b e in
      ap (λ (o : Outcome Bounds). record { ctype = type_written d.ctype; bounds = known_or_not o }) f

  -- a parameter as its head tells it, by its bounds as they were judged
  pub told_so : (k : ℕ) (d : NotedDecl) (c : Contains params d) (named : d.name ≡ name.Local k)
      → local_made (params_frame (frame_of_text p) h) true k d ≡ record { ctype = type_written d.ctype; bounds = (judged_at k d c named).0 }
  told_so k d c named =
      let b = judged_at k d c named in
      let alone : AreAllLocals (names_declared (params ++ [])) = subst (λ ds. AreAllLocals (names_declared ds)) (sym (append-nil params)) some in
      subst (λ (ds : List NotedDecl). local_made (types_in (frame_of_text p) ds) true k d ≡ record { ctype = type_written d.ctype; bounds = b.0 }) (append-nil params) (made_same k d [] b.0 alone b.1)

  -- and as a checked body has it
  pub made_so : (k : ℕ) (d : NotedDecl) (c : Contains params d) (named : d.name ≡ name.Local k)
      → local_made (types_frame (frame_of_text p) h body) true k d ≡ record { ctype = type_written d.ctype; bounds = (judged_at k d c named).0 }
  made_so k d c named = made_same k d (path body).declared (judged_at k d c named).0 (types_numbered_so p h body j there) (judged_at k d c named).1

  -- an interface that a body does not judge
  pub unjudged : (types : Frame) (k : ℕ) (x y : NotedDecl) (l : Local) → l ≡ local_made (params_frame (frame_of_text p) h) true k y → IsShared x y → IsUnjudged l (local_made types true k x)
  unjudged types k x y l is s =
      record {
        bounds = ap (λ (o : Option NotedLimits). known_or_not (bounds_declared types (holder.Local k) (type_written x.ctype) x.length o)) s.bounds
            ∙ ap (λ t. bounds_by_type (base.Local k) t) s.written ∙ ap (λ f. bounds_of_kind (base.Local k) (kind_in f)) (pointer_out kind.Raw s.to);
        passed = ap (λ (z : Local). is_pointer z.ctype) is ∙ ap is_pointer s.passed ∙ ap is_pointer_form (pointer_out kind.Arr s.to);
        seen = ap is_pointer s.written ∙ ap is_pointer_form (pointer_out kind.Raw s.to);
        element = ap element_of s.written ∙ ap element_in (pointer_out kind.Raw s.to) ∙ sym (ap element_in (pointer_out kind.Arr s.to)) ∙ sym (ap element_of s.passed) ∙ sym (ap (λ (z : Local). element_of z.ctype) is);
      }

  -- a parameter of a head, as it is written and as the body has it
  pub record IsParam (k : ℕ) (l : Local) : Type 0 where
    pub written : NotedDecl
    pub among : Contains h.params written
    pub named : written.name ≡ name.Local k
    pub told : l ≡ local_made (params_frame (frame_of_text p) h) true k (seen Checked written)
    pub made : slice_get (locals_made (frame_of_text p) h body) k ≡ Some (local_made (types_frame (frame_of_text p) h body) true k (seen body.note.mode written))

  pub param_is : (k : ℕ) (l : Local) → slice_get (declared_in (frame_of_text p) params) k ≡ Some l → IsParam k l
  param_is k l e =
      let frame = frame_of_text p in
      let mode = body.note.mode in
      let es = (path body).declared in
      let d = declaration_at (params_frame frame h) true params k l some e in
      let at = at_index params d.0 d.1 in
      let from = written_at h.params at.0 d.0 at.1 in
      let named : from.0.name ≡ name.Local k = sym (name_seen Checked from.0) ∙ ap (λ (x : NotedDecl). x.name) from.2 ∙ d.2 in
      record {
        written = from.0;
        among = from.1;
        named = named;
        told = d.3 ∙ ap (local_made (params_frame frame h) true k) (sym from.2);
        made = all_at (types_frame frame h body) true (all_of h body) k (seen mode from.0) (numbered p h body j there)
            (Contains-append_left (seen_params mode h) es (seen mode from.0) (contains_made (seen mode) h.params from.0 from.1)) (name_seen mode from.0 ∙ named);
      }
    where
      written_at : (ds : List NotedDecl) (i : ℕ) (d : NotedDecl) → slice_get (map (seen Checked) ds) i ≡ Some d → (e : NotedDecl) × Contains ds e × (seen Checked e ≡ d)
      written_at ds i d e = by (slice_get ds i) refl (sym (slice_get-map (seen Checked) ds i) ∙ e)
        where
          by : (o : Option NotedDecl) → slice_get ds i ≡ o → option_map (seen Checked) o ≡ Some d → (e : NotedDecl) × Contains ds e × (seen Checked e ≡ d)
          by (Some x) is f = (x, contains_at ds i x is, cc)
          by None is f = absurd cc

  parameter_declared : (k : ℕ) (l : Local) → slice_get (declared_in (frame_of_text p) params) k ≡ Some l
      → (m : Local) × (slice_get (locals_made (frame_of_text p) h body) k ≡ Some m) × ((m ≡ l) ⊎ IsUnjudged l m)
  parameter_declared k l e =
      let types = types_frame (frame_of_text p) h body in
      let a = param_is k l e in
      let d = a.written in
      let y = seen Checked d in
      let c : Contains params y = contains_made (seen Checked) h.params d a.among in
      let named : y.name ≡ name.Local k = name_seen Checked d ∙ a.named in (
        local_made types true k (seen body.note.mode d),
        a.made,
        elim (seen_in body.note.mode d) [
          | inl same ↦ inl (ap (local_made types true k) same ∙ made_so k y c named ∙ sym (told_so k y c named) ∙ sym a.told)
          | inr s ↦ inr (unjudged types k (seen body.note.mode d) y l a.told s)
        ],
      )

  abbrev Has : Setting → Type 0
  Has s = length s.variables < 1024 → AreParameters s s.head.params

  pub have : Has (setting_of p h body)
  unfolding setting_of
  have few = record {
    there = λ k l e.
        (let f = parameter_declared k l e in
        let less : k < length (locals_made (frame_of_text p) h body) = slice_get_within (locals_made (frame_of_text p) h body) k f.0 f.1 in
        let below : k < length (variables_of body.note.mode h body) = subst (λ n. k < n) (locals_counted (frame_of_text p) h body) less in
        (f.0, local_there (frame_of_text p) h body k f.0 f.1 (omega (arith, below, few)), f.2));
    named = λ k l e i n. parameter_names (frame_of_text p) params k l some e i n;
  }

pub parameters_are_locals : (p : Typed) (s : Setting) (f : Function) → IsJudged p → IsFunction p s f → length s.variables < 1024 → AreParameters s s.head.params
parameters_are_locals p s f j is few = subst (Has p j is.head is.body is.there) (sym is.judged) (have p j is.head is.body is.there) few
