-- The frame of a function agrees with the types of its variables.
use Rattle.std.proofs.Common.{◌≡◌, ◌∙◌, sym, ap, subst, refl, inl, inr, ℕ, zero, suc, ◌+◌, ◌<◌, ◌≤◌, List, [], ◌∷◌, ◌++◌, map, length, length-append, append-nil, append_assoc, get_or, replicate, arith}
use Rattle.std.specs.Prelude.{◌⊎◌, All, Bool, true, false, Option, Some, None, find, slice_get}
use Rattle.std.specs.List.{Contains}
use Rattle.std.specs.List.Sorted.{IsPermutation}
use Rattle.std.specs.Option.{option_map}
use Rattle.std.proofs.lemmas.List.{map-append, length-map}
use Rattle.std.proofs.lemmas.List.Elements.{All-nil, All-cons, All-head, All-tail, All-contains, All-contains_itself}
use Rattle.std.proofs.lemmas.List.Sorted.{IsPermutation-refl, IsPermutation-append, IsPermutation-sym, Contains-permutation, length_permutation}
use Rattle.std.proofs.lemmas.Option.{slice_get-map, slice_get_within, slice_get-get_or}
use Rattle.std.proofs.lemmas.Bool.{eqb-true}
use Rattle.ckc_base.specs.declared.arithmetic.Mode.TheVariants.{Checked}
use Rattle.ckc_types.specs.declared.types.CType.{CType}
use Rattle.ckc_syntax.specs.declared.tree.Name.{Name}
use Rattle.ckc_syntax.specs.declared.tree.Name.TheVariants as name
use Rattle.ckc_syntax.specs.declared.tree.Item.TheVariants as item
use Rattle.ckc_resolve.specs.declared.names.Names.{Names}
use Rattle.ckc_resolve.specs.Scoping.{no_names, names_of}
use Rattle.ckc_resolve.specs.Trees as trees
use Rattle.ckc_typed.specs.declared.environment.Globals.{Globals}
use Rattle.ckc_typed.specs.declared.environment.Object.{Object}
use Rattle.ckc_typed.specs.declared.environment.Variable.{Variable}
use Rattle.ckc_typed.specs.declared.typed.Typed.{Typed}
use Rattle.ckc_typed.specs.Trees.{NotedDecl, NotedHead, NotedStmt, Tree, Item}
use Rattle.ckc_typed.specs.Environment.{same_name, objects_declared_by, objects_of, or_variable, object_named, variable_named, variable_declared, variables_of, locals_of, type_of_name}
use Rattle.ckc_typed.specs.Interfaces.{seen, seen_params}
use Rattle.ckc_typed_fit.proofs.NamedItems as items
use Rattle.ckc_typed_fit.proofs.NamedItems.{ItemsNamed, text_is}
use Rattle.ckc_typed_plain.proofs.Items.{resolved_of, flat_items}
use Rattle.ckc_bounds.specs.ckc_bounds_points.specs.declared.frame.Local.{Local}
use Rattle.ckc_bounds.specs.ckc_bounds_points.specs.declared.frame.Frame.{Frame}
use Rattle.ckc_bounds.specs.ckc_bounds_points.specs.Frames.{local_at}
use Rattle.ckc_bounds.specs.Declarations.{first_of, few_of, all_made, types_in, declared_in, head_bounds}
use Rattle.ckc_bounds.specs.Frames.{all_of, first_fresh, fresh_needed, function_frame, types_frame, locals_frame, nameless}
use Rattle.ckc_bounds.specs.ckc_bounds_statements.specs.Paths.{path}
use Rattle.ckc_source.specs.Code.{Function}
use Rattle.ckc_blame_sound.specs.Settings.{Setting, IsFunction, frame_of_text, setting_of}
use Rattle.ckc_blame_sound.specs.Typed.{Agrees}
use Rattle.ckc_blame_sound.specs.JudgedTexts.{IsJudged, globals_in}
use Rattle.ckc_blame_sound.specs.Numbered.{AreAllLocals, HaveTypes}
use Rattle.ckc_blame_sound.proofs.Lists.{all_by, found, seam, more_at}
pub use Rattle.ckc_blame_sound.proofs.ByNumber.{types_of, types_declared, types_numbered, types_length, made_types, declared_types}
use Rattle.ckc_blame_sound.proofs.ByNumber.{made_length, type_at}
use Rattle.ckc_blame_sound.proofs.Functions.{tree_named, numbered}
use Rattle.ckc_blame_sound.proofs.Locals.{names_declared, variables_declared, stmt_declares}

-- ---- lists

pub first_at : (m : ℕ) (ls : List Local) (k : ℕ) (l : Local) → slice_get (first_of m ls) k ≡ Some l → (k < m) × (slice_get ls k ≡ Some l)
first_at zero ls k l e = absurd cc
first_at (suc m) [] k l e = absurd cc
first_at (suc m) (x ∷ ls) zero l e = (omega arith, e)
first_at (suc m) (x ∷ ls) (suc k) l e = let h = first_at m ls k l e in let less : k < m = h.0 in (omega (arith, less), h.1)

-- what is not cut is as long as before
first_long : (m : ℕ) (ls : List Local) (k : ℕ) → k < m → length (first_of m ls) ≤ k → length ls ≤ k
first_long zero ls k h e = absurd (omega (arith, h))
first_long (suc m) [] k h e = omega arith
first_long (suc m) (x ∷ ls) zero h e = absurd (omega (arith, e))
first_long (suc m) (x ∷ ls) (suc k) h e = let less : length ls ≤ k = first_long m ls k (omega (arith, h)) (omega (arith, e)) in omega (arith, less)

append_at : (xs ys : List Local) (k : ℕ) (l : Local) → slice_get (xs ++ ys) k ≡ Some l → (slice_get xs k ≡ Some l) ⊎ (length xs ≤ k)
append_at [] ys k l e = inr (omega arith)
append_at (x ∷ xs) ys zero l e = inl e
append_at (x ∷ xs) ys (suc k) l e = elim (append_at xs ys k l e) [ inl f ↦ inl f | inr f ↦ inr (omega (arith, f)) ]

-- ---- the locals of a frame

-- the locals of a function with their bounds
abbrev pub locals_made : Frame → NotedHead → NotedStmt → List Local
locals_made frame h body = all_made (types_frame frame h body) true (all_of h body)

-- a local of a frame is declared, or comes after all that are
frame_local : (frame : Frame) (h : NotedHead) (body : NotedStmt) (k : ℕ) (l : Local) → local_at (function_frame frame h body) k ≡ Some l
    → (slice_get (locals_made frame h body) k ≡ Some l) ⊎ (length (locals_made frame h body) ≤ k)
unfolding few_of
frame_local frame h body k l e =
    let D = locals_made frame h body in
    let n = fresh_needed (locals_frame frame h body) (head_bounds frame h) h body (first_fresh h body) in
    let one = first_at 1023 (first_of 1023 D ++ replicate n nameless) k l e in
    elim (append_at (first_of 1023 D) (replicate n nameless) k l one.1) [
      | inl f ↦ inl (first_at 1023 D k l f).1
      | inr f ↦ inr (first_long 1023 D k one.0 f)
    ]

-- ---- the types of variables

-- a variable that is a local has the type at its number
abbrev HasType : List CType → Variable → Type 0
HasType ts v = (k : ℕ) → v.name ≡ name.Local k → slice_get ts k ≡ Some v.ctype

declared_have : (all : List NotedDecl) → AreAllLocals (names_declared all) → (ds : List NotedDecl) → All (Contains all) ds → All (HasType (types_numbered all)) (variables_declared ds)
declared_have all numbers [] h = All-nil (HasType (types_numbered all))
declared_have all numbers (d ∷ ds) h =
    All-cons (HasType (types_numbered all)) (variable_declared d) (variables_declared ds) (λ k is. type_at all k d numbers (All-head (Contains all) d ds h) is)
    (declared_have all numbers ds (All-tail (Contains all) d ds h))

all_moved : (P : Variable → Type 0) (xs ys : List Variable) → IsPermutation xs ys → All P xs → All P ys
all_moved P xs ys m h = all_by (Contains ys) P (λ v c. All-contains P xs v h (Contains-permutation ys xs v (IsPermutation-sym xs ys m) c)) ys (All-contains_itself ys)

-- the variables of a function are those that it declares, in another order
pub variables_moved : (h : NotedHead) (body : NotedStmt) → IsPermutation (variables_declared (all_of h body)) (variables_of body.note.mode h body)
variables_moved h body =
    let params = seen_params body.note.mode h in
    subst (λ vs. IsPermutation vs (variables_of body.note.mode h body)) (sym (map-append (λ (d : NotedDecl). variable_declared d) params (path body).declared))
    (IsPermutation-append (variables_declared params) (variables_declared params) (variables_declared (path body).declared) (locals_of body)
    (IsPermutation-refl (variables_declared params)) (stmt_declares body).is.variables)

pub variables_have : (h : NotedHead) (body : NotedStmt) → AreAllLocals (names_declared (all_of h body)) → All (HasType (types_numbered (all_of h body))) (variables_of body.note.mode h body)
variables_have h body n =
    all_moved (HasType (types_numbered (all_of h body))) (variables_declared (all_of h body)) (variables_of body.note.mode h body) (variables_moved h body) (declared_have (all_of h body) n (all_of h body) (All-contains_itself (all_of h body)))

-- ---- objects

abbrev IsStaticNamed : Object → Type 0
IsStaticNamed o = (j : ℕ) × (o.name ≡ name.Static j)

objects_named : (names : Names) (all : List trees.Item) (before : Names) (is : List trees.Item) (js : List Item) → ItemsNamed names all before is js → All IsStaticNamed (objects_of js)
objects_named names all before is js items.none = All-nil IsStaticNamed
objects_named names all before is js (items.more {js = rest} (items.directive d) hs) = objects_named names all _ _ rest hs
objects_named names all before is js (items.more {js = rest} (items.tag s pos) hs) = objects_named names all _ _ rest hs
objects_named names all before is js (items.more {js = rest} (items.struct s pos m) hs) = objects_named names all _ _ rest hs
objects_named names all before is js (items.more {js = rest} (items.static h new) hs) = All-cons IsStaticNamed _ (objects_of rest) (_, h.named) (objects_named names all _ _ rest hs)
objects_named names all before is js (items.more {js = rest} (items.proto h there) hs) = objects_named names all _ _ rest hs
objects_named names all before is js (items.more {js = rest} (items.function h new made) hs) = objects_named names all _ _ rest hs

static_no_local : (n : Name) (j k : ℕ) → n ≡ name.Static j → same_name n (name.Local k) ≡ true → ⊥
static_no_local n j k e s = let f : same_name (name.Static j) (name.Local k) ≡ true = subst (λ m. same_name m (name.Local k) ≡ true) e s in cc

-- no object of file scope is a local
no_object : (os : List Object) (k : ℕ) (o : Object) → All IsStaticNamed os → find (λ (x : Object). same_name x.name (name.Local k)) os ≡ Some o → ⊥
no_object os k o h e =
    let f = found IsStaticNamed (λ (x : Object). same_name x.name (name.Local k)) os o h e in static_no_local o.name f.0.0 k f.0.1 f.1

pub local_named : (n : Name) (k : ℕ) → same_name n (name.Local k) ≡ true → n ≡ name.Local k
local_named (name.Local j) k e = ap name.Local (eqb-true j k e)
local_named (name.Static j) k e = absurd cc
local_named (name.Function j) k e = absurd cc
local_named (name.Tag j) k e = absurd cc
local_named (name.Member j) k e = absurd cc
local_named name.Getchar k e = absurd cc
local_named name.Putchar k e = absurd cc

-- the type of a local that is named is that at its number
pub named_type : (globals : Globals) (h : NotedHead) (body : NotedStmt) (k : ℕ) (t : CType) → AreAllLocals (names_declared (all_of h body)) → All IsStaticNamed globals.objects
    → type_of_name globals (variables_of body.note.mode h body) (name.Local k) ≡ Some t → slice_get (types_numbered (all_of h body)) k ≡ Some t
named_type globals h body k t n os e = by (variable_named (variables_of body.note.mode h body) (name.Local k)) refl (object_named globals (name.Local k)) refl e
  where
    by : (v : Option Variable) → variable_named (variables_of body.note.mode h body) (name.Local k) ≡ v → (o : Option Object) → object_named globals (name.Local k) ≡ o → or_variable v o ≡ Some t
        → slice_get (types_numbered (all_of h body)) k ≡ Some t
    by (Some v) is o there f =
        let g = found (HasType (types_numbered (all_of h body))) (λ (x : Variable). same_name x.name (name.Local k)) (variables_of body.note.mode h body) v (variables_have h body n) is in
        g.0 k (local_named v.name k g.1) ∙ f
    by None is (Some o) there f = absurd (no_object globals.objects k o os there)
    by None is None there f = absurd cc

pub statics_named : (p : Typed) → IsJudged p → All IsStaticNamed (globals_in p).objects
statics_named p j =
    subst (λ (t : Tree). All IsStaticNamed (objects_of t.items)) (sym (tree_named p j))
    (let r = resolved_of j.spelled j.named j.has_names in
    subst (λ os. All IsStaticNamed os) (sym (flat_items j.spelled j.named r objects_declared_by (λ h b c. refl)))
    (objects_named (names_of j.spelled) j.spelled.items no_names j.spelled.items r.resolved.tree.items (text_is j.spelled r.resolved r.has_names).items))

-- the local of a frame has the type at its number
frame_type : (p : Typed) (h : NotedHead) (body : NotedStmt) (k : ℕ) (l : Local) (t : CType) → local_at (function_frame (frame_of_text p) h body) k ≡ Some l
    → slice_get (types_numbered (all_of h body)) k ≡ Some t → l.ctype ≡ t
frame_type p h body k l t at types =
    let frame = frame_of_text p in
    let long : length (types_numbered (all_of h body)) ≡ length (locals_made frame h body) =
    ap length (sym (made_types (types_frame frame h body) true (all_of h body))) ∙ length-map (locals_made frame h body) (λ (x : Local). x.ctype) in
    elim (frame_local frame h body k l at) [
      | inl f ↦ same (sym (ap (λ ts. slice_get ts k) (made_types (types_frame frame h body) true (all_of h body))) ∙ slice_get-map (λ (x : Local). x.ctype) (locals_made frame h body) k ∙ ap (option_map (λ (x : Local). x.ctype)) f) types
      | inr f ↦ absurd (past (length (locals_made frame h body)) f (subst (λ m. k < m) long (slice_get_within (types_numbered (all_of h body)) k t types)))
    ]
  where
    same : {ts : Option CType} → ts ≡ Some l.ctype → ts ≡ Some t → l.ctype ≡ t
    same e f = cc

    past : (n : ℕ) → n ≤ k → k < n → ⊥
    past n a b = omega (arith, a, b)

setting_agrees : (p : Typed) (h : NotedHead) (body : NotedStmt) → IsJudged p → Contains p.tree.items (item.Function h body) → Agrees (globals_in p) (setting_of p h body)
unfolding setting_of
setting_agrees p h body j there = record {
  structs = refl;
  locals = λ k l t at type. frame_type p h body k l t at (named_type (globals_in p) h body k t (numbered p h body j there) (statics_named p j) type);
}

pub setting_types : (p : Typed) (h : NotedHead) (body : NotedStmt) → IsJudged p → Contains p.tree.items (item.Function h body) → HaveTypes (setting_of p h body).frame (setting_of p h body).variables
unfolding setting_of
setting_types p h body j there v k l is named at =
    frame_type p h body k l v.ctype at (All-contains (HasType (types_numbered (all_of h body))) (variables_of body.note.mode h body) v (variables_have h body (numbered p h body j there)) is k named)

pub frames_agree : (p : Typed) (s : Setting) (f : Function) → IsJudged p → IsFunction p s f → Agrees (globals_in p) s
frames_agree p s f j is = subst (Agrees (globals_in p)) (sym is.judged) (setting_agrees p is.head is.body j is.there)

pub variables_have_types : (p : Typed) (s : Setting) (f : Function) → IsJudged p → IsFunction p s f → HaveTypes s.frame s.variables
variables_have_types p s f j is = subst (λ (z : Setting). HaveTypes z.frame z.variables) (sym is.judged) (setting_types p is.head is.body j is.there)

-- ---- how many locals there are

pub first_keeps : (m : ℕ) (ls : List Local) (k : ℕ) (l : Local) → k < m → slice_get ls k ≡ Some l → slice_get (first_of m ls) k ≡ Some l
first_keeps zero ls k l h e = absurd (omega (arith, h))
first_keeps (suc m) [] k l h e = absurd cc
first_keeps (suc m) (x ∷ ls) zero l h e = e
first_keeps (suc m) (x ∷ ls) (suc k) l h e = first_keeps m ls k l (omega (arith, h)) e

-- there are as many locals as variables
pub locals_counted : (frame : Frame) (h : NotedHead) (body : NotedStmt) → length (locals_made frame h body) ≡ length (variables_of body.note.mode h body)
locals_counted frame h body =
    let ds = all_of h body in
    made_length (types_frame frame h body) true ds
    ∙ sym (length-map ds (λ (d : NotedDecl). variable_declared d)) ∙ sym (length_permutation (variables_declared ds) (variables_of body.note.mode h body) (variables_moved h body))

frame_has : (frame : Frame) (h : NotedHead) (body : NotedStmt) (k : ℕ) → k < length (variables_of body.note.mode h body) → length (variables_of body.note.mode h body) < 1024
    → (l : Local) × (local_at (function_frame frame h body) k ≡ Some l)
unfolding few_of
frame_has frame h body k less few =
    let D = locals_made frame h body in
    let n = fresh_needed (locals_frame frame h body) (head_bounds frame h) h body (first_fresh h body) in
    let long : length D ≡ length (variables_of body.note.mode h body) = locals_counted frame h body in
    let l = get_or D k nameless in
    let there : slice_get D k ≡ Some l = slice_get-get_or D k nameless (subst (λ m. k < m) (sym long) less) in
    let below : k < 1023 = omega (arith, less, few) in
    (l, first_keeps 1023 (first_of 1023 D ++ replicate n nameless) k l below (more_at (first_of 1023 D) (replicate n nameless) k l (first_keeps 1023 D k l below there)))

pub locals_are_there : (p : Typed) (s : Setting) (f : Function) (k : ℕ) → IsFunction p s f → k < length s.variables → length s.variables < 1024
    → (l : Local) × (local_at s.frame k ≡ Some l)
unfolding setting_of
locals_are_there p s f k is less few =
    let P : Setting → Type 0 = λ z. k < length z.variables → length z.variables < 1024 → (l : Local) × (local_at z.frame k ≡ Some l) in
    subst P (sym is.judged) (λ a b. frame_has (frame_of_text p) is.head is.body k a b) less few

-- there are as many as are declared
pub declared_counted : (frame : Frame) (ds : List NotedDecl) → length ds ≡ length (declared_in frame ds)
declared_counted frame ds = sym (made_length (types_in frame ds) true ds)

-- a head tells as many parameters as are written
pub params_counted : (frame : Frame) (h : NotedHead) → length h.params ≡ length (head_bounds frame h).params
params_counted frame h = sym (length-map h.params (seen Checked)) ∙ declared_counted frame (seen_params Checked h)

pub function_counts : (p : Typed) (s : Setting) (f : Function) → IsFunction p s f → (f.locals ≡ length s.variables) × (f.params ≡ length s.head.params)
unfolding setting_of
function_counts p s f is =
    let P : Setting → Type 0 = λ z. (f.locals ≡ length z.variables) × (f.params ≡ length z.head.params) in
    subst P (sym is.judged) (ap (λ (g : Function). g.locals) is.runs, ap (λ (g : Function). g.params) is.runs ∙ params_counted (frame_of_text p) is.head)
