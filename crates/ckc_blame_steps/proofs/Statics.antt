-- The declarations of static objects in a text, by their numbers.
use Rattle.std.proofs.Common.{◌≡◌, ◌∙◌, sym, ap, subst, refl, arith, ℕ, zero, suc, ◌+◌, ◌<◌, ◌==◌, Bool, true, false, List, [], ◌∷◌, ◌++◌, map}
use Rattle.std.specs.Prelude.{if◌then◌else◌, find, Option, Some, None, is_none, slice_get, unwrap_or, All, Ok}
use Rattle.std.specs.List.{Contains, flat_map}
use Rattle.std.proofs.lemmas.Bool.{eqb-true, eq-eqb}
use Rattle.std.proofs.lemmas.List.Elements.{All-head, All-tail}
use Rattle.ckc_base.specs.declared.arithmetic.Mode.{Mode}
use Rattle.ckc_types.specs.declared.types.Structs.{Structs}
use Rattle.ckc_syntax.specs.declared.tree.Name.{Name}
use Rattle.ckc_syntax.specs.declared.tree.Name.TheVariants as name
use Rattle.ckc_syntax.specs.declared.tree.Item.TheVariants as item
use Rattle.ckc_typed.specs.declared.environment.Globals.{Globals}
use Rattle.ckc_typed.specs.declared.environment.Object.{Object}
use Rattle.ckc_typed.specs.declared.typed.StaticObject.{StaticObject}
use Rattle.ckc_typed.specs.Declarations.{count_of}
use Rattle.ckc_typed.specs.Environment as environment
use Rattle.ckc_typed.specs.Environment.{same_name, object_declared}
use Rattle.ckc_typed.specs.Statics.{object_of, objects_of_item, begin_behind, end_of_block, placed}
use Rattle.ckc_typed.specs.Trees.{Item, NotedDecl, NotedInit, NotedItem, NotedLimits}
use Rattle.ckc_typed.specs.Walk.{pragma_after}
use Rattle.ckc_typed_fit.specs.Numbers.{static_in, static_numbers, CountsFrom}
use Rattle.ckc_typed_welltyped.specs.Noteless.{bare_item}
use Rattle.ckc_typed_welltyped.specs.Texts.{WellTypedItems}
use Rattle.ckc_blame_sound.specs.ckc_bounds_points.specs.declared.frame.Bounds.{Bounds}
use Rattle.ckc_blame_sound.specs.ckc_bounds_points.specs.declared.frame.Frame.{Frame}
use Rattle.ckc_blame_sound.specs.ckc_bounds_statements.specs.DeclBounds.{bounds_there}
use Rattle.ckc_blame_sound.specs.ckc_bounds_statements.specs.Paths.{init_judged}
use Rattle.ckc_blame_sound.specs.ckc_bounds.specs.Declarations.{head_judged, member_holder, params_frame, object_bounds, objects_of}
use Rattle.ckc_blame_sound.specs.ckc_bounds.specs.Texts.{outside, members_judged, body_judged, item_judged, items_judged}
use Rattle.ckc_build_values.specs.Names.{declares, limits_in}
use Rattle.ckc_build_elaborate.specs.Lists.{beside}
use Rattle.ckc_build_elaborate.specs.Objects.{run_in}
use Rattle.ckc_blame_walk.proofs.NamedStatics.{HasStatic}
use Rattle.ckc_blame_walk.proofs.Pieces.{Gives, through, nested, given}
use Rattle.ckc_blame_steps.proofs.CalledHeads.{first_in, later_in}

abbrev pub bare : NotedItem → Item
bare i = bare_item i

-- the declarations of static objects, in the order of the text
abbrev pub decls_in : NotedItem → List NotedDecl
decls_in (item.Static d) = d ∷ []
decls_in i = []

abbrev pub decls : List NotedItem → List NotedDecl
decls items = flat_map decls_in items

-- they have the numbers from one on
abbrev pub AreStatics : ℕ → List NotedDecl → Type 0
AreStatics n [] = Unit {0}
AreStatics n (d ∷ ds) = (d.name ≡ name.Static n) × AreStatics (n + 1) ds

pub statics_numbered : (items : List NotedItem) (n : ℕ) → All HasStatic (map bare items) → CountsFrom n (static_numbers (map bare items)) → AreStatics n (decls items)
statics_numbered [] n h c = tt
statics_numbered (item.Static d ∷ items) n h c =
    let is = All-head HasStatic (bare (item.Static d)) (map bare items) h in
    let rest : CountsFrom n (is.0 ∷ static_numbers (map bare items)) = subst (λ m. CountsFrom n (static_in m ++ static_numbers (map bare items))) is.1 c in
    (is.1 ∙ ap name.Static rest.0, statics_numbered items (n + 1) (All-tail HasStatic (bare (item.Static d)) (map bare items) h) rest.1)
statics_numbered (item.Directive d ∷ items) n h c = statics_numbered items n (All-tail HasStatic (bare (item.Directive d)) (map bare items) h) c
statics_numbered (item.Tag t at ∷ items) n h c = statics_numbered items n (All-tail HasStatic (bare (item.Tag t at)) (map bare items) h) c
statics_numbered (item.Struct t ms at ∷ items) n h c = statics_numbered items n (All-tail HasStatic (bare (item.Struct t ms at)) (map bare items) h) c
statics_numbered (item.Proto g ∷ items) n h c = statics_numbered items n (All-tail HasStatic (bare (item.Proto g)) (map bare items) h) c
statics_numbered (item.Function g body ∷ items) n h c = statics_numbered items n (All-tail HasStatic (bare (item.Function g body)) (map bare items) h) c

-- the one with a name
abbrev pub named : Name → List NotedDecl → Option NotedDecl
named m ds = find (λ (d : NotedDecl). same_name d.name m) ds

pub name_at : (ds : List NotedDecl) (n k : ℕ) (d : NotedDecl) → AreStatics n ds → slice_get ds k ≡ Some d → d.name ≡ name.Static (n + k)
name_at [] n k d a e = absurd cc
name_at (x ∷ ds) n zero d a e = let same : x ≡ d = cc in sym (ap (λ (y : NotedDecl). y.name) same) ∙ a.0 ∙ ap name.Static (next n)
  where
    next : (i : ℕ) → i ≡ i + 0
    next i = omega arith
name_at (x ∷ ds) n (suc k) d a e = name_at ds (n + 1) k d a.1 e ∙ ap name.Static (next n k)
  where
    next : (i j : ℕ) → (i + 1) + j ≡ i + suc j
    next i j = omega arith

same_static : (m n : ℕ) → m ≡ n → same_name (name.Static m) (name.Static n) ≡ true
same_static m n e = eq-eqb m n e

-- what has a number is found by it
pub found_at : (ds : List NotedDecl) (n k m : ℕ) (d : NotedDecl) → m ≡ n + k → AreStatics n ds → slice_get ds k ≡ Some d → named (name.Static m) ds ≡ Some d
found_at [] n k m d is a e = absurd cc
found_at (x ∷ ds) n zero m d is a e =
    ap (λ b. if b then Some x else named (name.Static m) ds) (ap (λ z. same_name z (name.Static m)) a.0 ∙ same_static n m (omega (arith, is))) ∙ e
found_at (x ∷ ds) n (suc k) m d is a e =
    ap (λ b. if b then Some x else named (name.Static m) ds) (ap (λ z. same_name z (name.Static m)) a.0 ∙ unlike (n == m) refl)
    ∙ found_at ds (n + 1) k m d (omega (arith, is)) a.1 e
  where
    unlike : (b : Bool) → (n == m) ≡ b → b ≡ false
    unlike true f = let same = eqb-true n m f in absurd (omega (arith, is, same))
    unlike false f = refl

-- what is found by a number has it
pub index_of : (ds : List NotedDecl) (n m : ℕ) (d : NotedDecl) → AreStatics n ds → named (name.Static m) ds ≡ Some d → (k : ℕ) × (m ≡ n + k) × (slice_get ds k ≡ Some d)
index_of [] n m d a e = absurd cc
index_of (x ∷ ds) n m d a e = by (same_name x.name (name.Static m)) refl e (λ f. index_of ds (n + 1) m d a.1 f)
  where
    by : (b : Bool) → same_name x.name (name.Static m) ≡ b → (if b then Some x else named (name.Static m) ds) ≡ Some d
        → (named (name.Static m) ds ≡ Some d → (k : ℕ) × (m ≡ (n + 1) + k) × (slice_get ds k ≡ Some d)) → (k : ℕ) × (m ≡ n + k) × (slice_get (x ∷ ds) k ≡ Some d)
    by true t f later = let here = eqb-true n m (sym (ap (λ z. same_name z (name.Static m)) a.0) ∙ t) in (0, omega (arith, here), f)
    by false t f later = let r = later f in let at = r.1 in (suc r.0, omega (arith, at), r.2)

-- ---- what is made of them

abbrev pub limits_of : Option NotedDecl → Option NotedLimits
limits_of (Some d) = d.bounds
limits_of None = None

pub limits_found : (m : Name) (items : List NotedItem) → limits_in (find (declares m) items) ≡ limits_of (named m (decls items))
limits_found m [] = refl
limits_found m (item.Static d ∷ items) = by (same_name d.name m) (limits_found m items)
  where
    by : (b : Bool) → limits_in (find (declares m) items) ≡ limits_of (named m (decls items))
        → limits_in (if b then Some (item.Static d) else find (declares m) items) ≡ limits_of (if b then Some d else named m (decls items))
    by true e = refl
    by false e = e
limits_found m (item.Directive d ∷ items) = limits_found m items
limits_found m (item.Tag t at ∷ items) = limits_found m items
limits_found m (item.Struct t ms at ∷ items) = limits_found m items
limits_found m (item.Proto g ∷ items) = limits_found m items
limits_found m (item.Function g body ∷ items) = limits_found m items

pub objects_are : (frame : Frame) (items : List NotedItem) → objects_of frame items ≡ map (object_bounds frame) (decls items)
objects_are frame [] = refl
objects_are frame (item.Static d ∷ items) = ap (λ os. object_bounds frame d ∷ os) (objects_are frame items)
objects_are frame (item.Directive d ∷ items) = objects_are frame items
objects_are frame (item.Tag t at ∷ items) = objects_are frame items
objects_are frame (item.Struct t ms at ∷ items) = objects_are frame items
objects_are frame (item.Proto g ∷ items) = objects_are frame items
objects_are frame (item.Function g body ∷ items) = objects_are frame items

pub runs_are : (items : List NotedItem) → flat_map run_in items ≡ map (λ (d : NotedDecl). is_none d.bounds) (decls items)
runs_are [] = refl
runs_are (item.Static d ∷ items) = ap (λ os. is_none d.bounds ∷ os) (runs_are items)
runs_are (item.Directive d ∷ items) = runs_are items
runs_are (item.Tag t at ∷ items) = runs_are items
runs_are (item.Struct t ms at ∷ items) = runs_are items
runs_are (item.Proto g ∷ items) = runs_are items
runs_are (item.Function g body ∷ items) = runs_are items

pub blocks_are : (structs : Structs) (items : List NotedItem) → flat_map (objects_of_item structs) items ≡ map (object_of structs) (decls items)
blocks_are structs [] = refl
blocks_are structs (item.Static d ∷ items) = ap (λ os. object_of structs d ∷ os) (blocks_are structs items)
blocks_are structs (item.Directive d ∷ items) = blocks_are structs items
blocks_are structs (item.Tag t at ∷ items) = blocks_are structs items
blocks_are structs (item.Struct t ms at ∷ items) = blocks_are structs items
blocks_are structs (item.Proto g ∷ items) = blocks_are structs items
blocks_are structs (item.Function g body ∷ items) = blocks_are structs items

pub placed_at : (structs : Structs) (end : ℕ) (os : List StaticObject) (k : ℕ) (o : StaticObject) → slice_get os k ≡ Some o → (a : ℕ) × (slice_get (placed structs end os) k ≡ Some (record o { at = a }))
placed_at structs end [] k o e = absurd cc
placed_at structs end (x ∷ os) zero o e = let same : x ≡ o = cc in (begin_behind end, ap (λ (y : StaticObject). Some (record y { at = begin_behind end })) same)
placed_at structs end (x ∷ os) (suc k) o e = placed_at structs (end_of_block structs end x) os k o e

pub beside_at : {A B C : Type 0} (f : Option A → B → C) (xs : List A) (ys : List B) (k : ℕ) (x : A) (y : B) → slice_get xs k ≡ Some x → slice_get ys k ≡ Some y → slice_get (beside f xs ys) k ≡ Some (f (Some x) y)
beside_at f xs [] k x y d e = absurd cc
beside_at f [] (z ∷ ys) k x y d e = absurd cc
beside_at f (w ∷ xs) (z ∷ ys) zero x y d e = let first : w ≡ x = cc in let second : z ≡ y = cc in ap (λ v. Some (f (Some v) z)) first ∙ ap (λ v. Some (f (Some x) v)) second
beside_at f (w ∷ xs) (z ∷ ys) (suc k) x y d e = beside_at f xs ys k x y d e

pub object_is : (m : Name) (o : Object) (items : List NotedItem) → find (λ (o : Object). same_name o.name m) (environment.objects_of (map bare items)) ≡ Some o
    → (d : NotedDecl) × (named m (decls items) ≡ Some d) × (o ≡ object_declared d)
object_is m o [] e = absurd cc
object_is m o (item.Static d ∷ items) e = by (same_name d.name m) e (λ f. object_is m o items f)
  where
    by : (b : Bool) → (if b then Some (object_declared d) else find (λ (o : Object). same_name o.name m) (environment.objects_of (map bare items))) ≡ Some o
        → (find (λ (o : Object). same_name o.name m) (environment.objects_of (map bare items)) ≡ Some o → (d : NotedDecl) × (named m (decls items) ≡ Some d) × (o ≡ object_declared d))
        → (e : NotedDecl) × ((if b then Some d else named m (decls items)) ≡ Some e) × (o ≡ object_declared e)
    by true f later = (d, refl, cc)
    by false f later = later f
object_is m o (item.Directive d ∷ items) e = object_is m o items e
object_is m o (item.Tag t at ∷ items) e = object_is m o items e
object_is m o (item.Struct t ms at ∷ items) e = object_is m o items e
object_is m o (item.Proto g ∷ items) e = object_is m o items e
object_is m o (item.Function g body ∷ items) e = object_is m o items e

pub decl_there : (items : List NotedItem) (k : ℕ) (d : NotedDecl) → slice_get (decls items) k ≡ Some d → Contains items (item.Static d)
decl_there [] k d e = absurd cc
decl_there (item.Static x ∷ items) zero d e = let same : x ≡ d = cc in subst (λ (y : NotedDecl). Contains (item.Static x ∷ items) (item.Static y)) same (first_in (item.Static x) items)
decl_there (item.Static x ∷ items) (suc k) d e = later_in (item.Static x) items (item.Static d) (decl_there items k d e)
decl_there (item.Directive i ∷ items) k d e = later_in (item.Directive i) items (item.Static d) (decl_there items k d e)
decl_there (item.Tag t at ∷ items) k d e = later_in (item.Tag t at) items (item.Static d) (decl_there items k d e)
decl_there (item.Struct t ms at ∷ items) k d e = later_in (item.Struct t ms at) items (item.Static d) (decl_there items k d e)
decl_there (item.Proto g ∷ items) k d e = later_in (item.Proto g) items (item.Static d) (decl_there items k d e)
decl_there (item.Function g body ∷ items) k d e = later_in (item.Function g body) items (item.Static d) (decl_there items k d e)

-- ---- each has an element

abbrev pub HaveElements : List NotedDecl → Type 0
HaveElements [] = Unit {0}
HaveElements (d ∷ ds) = (0 < unwrap_or (count_of d) 0) × HaveElements ds

pub have_elements : (globals : Globals) (mode : Mode) (items : List NotedItem) → WellTypedItems globals mode items → HaveElements (decls items)
have_elements globals mode [] w = tt
have_elements globals mode (item.Static d ∷ items) w =
    let some = w.0.some in
    let less : 0 < w.0.count = omega (arith, some) in
    (subst (λ c. 0 < unwrap_or c 0) (sym w.0.counted) less, have_elements globals (pragma_after mode (bare (item.Static d))) items w.1)
have_elements globals mode (item.Directive d ∷ items) w = have_elements globals (pragma_after mode (bare (item.Directive d))) items w.1
have_elements globals mode (item.Tag t at ∷ items) w = have_elements globals (pragma_after mode (bare (item.Tag t at))) items w.1
have_elements globals mode (item.Struct t ms at ∷ items) w = have_elements globals (pragma_after mode (bare (item.Struct t ms at))) items w.1
have_elements globals mode (item.Proto g ∷ items) w = have_elements globals (pragma_after mode (bare (item.Proto g))) items w.1
have_elements globals mode (item.Function g body ∷ items) w = have_elements globals (pragma_after mode (bare (item.Function g body))) items w.1

pub element_at : (ds : List NotedDecl) (k : ℕ) (d : NotedDecl) → HaveElements ds → slice_get ds k ≡ Some d → 0 < unwrap_or (count_of d) 0
element_at [] k d h e = absurd cc
element_at (x ∷ ds) zero d h e = let same : x ≡ d = cc in subst (λ (y : NotedDecl). 0 < unwrap_or (count_of y) 0) same h.0
element_at (x ∷ ds) (suc k) d h e = element_at ds k d h.1 e

-- ---- as they were before they were judged

-- a declaration is as it was, but for its initialiser, and its bounds are judged
pub record IsAgain (frame : Frame) (d e : NotedDecl) : Type 0 where
  pub init : NotedInit
  pub same : e ≡ record d { init = init }
  pub bounds : Bounds
  pub judged : bounds_there frame d ≡ Ok bounds

abbrev pub Again : Frame → List NotedDecl → List NotedDecl → Type 0
Again frame [] [] = Unit {0}
Again frame (d ∷ ds) (e ∷ es) = IsAgain frame d e × Again frame ds es
Again frame [] (e ∷ es) = ⊥
Again frame (d ∷ ds) [] = ⊥

joined : (frame : Frame) (ds es ds' es' : List NotedDecl) → Again frame ds es → Again frame ds' es' → Again frame (ds ++ ds') (es ++ es')
joined frame [] [] ds' es' h i = i
joined frame (d ∷ ds) (e ∷ es) ds' es' h i = (h.0, joined frame ds es ds' es' h.1 i)
joined frame [] (e ∷ es) ds' es' h i = absurd h
joined frame (d ∷ ds) [] ds' es' h i = absurd h

abbrev ItemAgain : Frame → NotedItem → NotedItem → Type 0
ItemAgain frame i j = Again frame (decls_in i) (decls_in j)

item_again : (frame : Frame) (i : NotedItem) → Gives (ItemAgain frame i) (item_judged frame i)
item_again frame (item.Directive d) = given (ItemAgain frame (item.Directive d)) _ tt
item_again frame (item.Tag n at) = given (ItemAgain frame (item.Tag n at)) _ tt
item_again frame (item.Struct n ms at) =
    through (ItemAgain frame (item.Struct n ms at)) (members_judged frame (member_holder n) ms) _ (λ u is. given (ItemAgain frame (item.Struct n ms at)) _ tt)
item_again frame (item.Static d) =
    nested (ItemAgain frame (item.Static d)) (bounds_there frame d) _ _ (λ b b_is.
    nested (ItemAgain frame (item.Static d)) (init_judged frame d.init (outside frame)) _ _ (λ p p_is.
    given (ItemAgain frame (item.Static d)) (item.Static (record d { init = p.0 })) (record { init = p.0; same = refl; bounds = b; judged = b_is }, tt)))
item_again frame (item.Proto h) =
    nested (ItemAgain frame (item.Proto h)) (head_judged (params_frame frame h) h) _ _ (λ b is. given (ItemAgain frame (item.Proto h)) (item.Proto h) tt)
item_again frame (item.Function h body) =
    nested (ItemAgain frame (item.Function h body)) (head_judged (params_frame frame h) h) _ _ (λ b is.
    through (ItemAgain frame (item.Function h body)) (body_judged frame h body) _ (λ after judged. given (ItemAgain frame (item.Function h body)) (item.Function h after) tt))

pub items_again : (frame : Frame) (items : List NotedItem) → Gives (λ js. Again frame (decls items) (decls js)) (items_judged frame items)
items_again frame [] = given (λ js. Again frame [] (decls js)) [] tt
items_again frame (i ∷ items) =
    through (λ js. Again frame (decls (i ∷ items)) (decls js)) (item_judged frame i) _ (λ j j_is.
    through (λ js. Again frame (decls (i ∷ items)) (decls js)) (items_judged frame items) _ (λ js js_is.
    given (λ js. Again frame (decls (i ∷ items)) (decls js)) (j ∷ js)
    (joined frame (decls_in i) (decls_in j) (decls items) (decls js) ((item_again frame i).made j j_is) ((items_again frame items).made js js_is))))

pub again_at : (frame : Frame) (ds es : List NotedDecl) (k : ℕ) (e : NotedDecl) → Again frame ds es → slice_get es k ≡ Some e → (d : NotedDecl) × (slice_get ds k ≡ Some d) × IsAgain frame d e
again_at frame ds [] k e h f = absurd cc
again_at frame [] (x ∷ es) k e h f = absurd h
again_at frame (d ∷ ds) (x ∷ es) zero e h f = let same : x ≡ e = cc in (d, refl, subst (IsAgain frame d) same h.0)
again_at frame (d ∷ ds) (x ∷ es) (suc k) e h f = again_at frame ds es k e h.1 f
