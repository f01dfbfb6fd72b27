-- The locals of a function, and the types that bounds are declared among.
use Rattle.std.proofs.Common.{◌≡◌, ◌∙◌, sym, ap, subst, refl, inl, inr, arith, ℕ, zero, suc, ◌+◌, ⊎_elim, ◌<◌, List, [], ◌∷◌, ◌++◌, map, length, get_or, replicate}
use Rattle.std.specs.Prelude.{◌⊎◌, All, Bool, true, false, if◌then◌else◌, Option, Some, None, find, slice_get, Ok, Err}
use Rattle.std.specs.List.{Contains}
use Rattle.std.specs.Option.{option_map}
use Rattle.std.proofs.lemmas.List.Elements.{All-nil, All-cons, All-head, All-tail, All-contains, All-contains_itself, Contains-append_left, Contains-append_right, Contains-append_cases, Contains-get_or, at_from_Contains}
use Rattle.std.proofs.lemmas.List.Sorted.{Contains-permutation}
use Rattle.std.proofs.lemmas.Option.{slice_get-map, slice_get_within, slice_get-get_or, slice_get_read}
use Rattle.ckc_base.specs.declared.arithmetic.Mode.TheVariants.{Checked}
use Rattle.ckc_base.specs.Outcomes.{Outcome}
use Rattle.ckc_base.proofs.Gives.{Gives}
use Rattle.ckc_syntax.specs.declared.tree.Name.{Name}
use Rattle.ckc_syntax.specs.declared.tree.Name.TheVariants as name
use Rattle.ckc_syntax.specs.declared.tree.Item.TheVariants as item
use Rattle.ckc_types.specs.declared.types.CType.{CType}
use Rattle.ckc_typed.specs.declared.environment.Variable.{Variable}
use Rattle.ckc_typed.specs.declared.typed.Typed.{Typed}
use Rattle.ckc_typed.specs.Environment.{same_name, variable_declared, variable_named, variables_of}
use Rattle.ckc_typed.specs.Interfaces.{seen, seen_params}
use Rattle.ckc_typed.specs.Trees.{NotedDecl, NotedHead, NotedStmt}
use Rattle.ckc_typed.proofs.Seen.{name_seen}
use Rattle.ckc_typed.specs.Types.{type_written}
use Rattle.ckc_blame_sound.specs.ckc_bounds_points.specs.declared.frame.Bounds.{Bounds}
use Rattle.ckc_blame_sound.specs.ckc_bounds_points.specs.declared.frame.Bounds.TheVariants as bounds
use Rattle.ckc_blame_sound.specs.ckc_bounds_points.specs.declared.frame.Frame.{Frame}
use Rattle.ckc_blame_sound.specs.ckc_bounds_points.specs.declared.frame.Local.{Local}
use Rattle.ckc_blame_sound.specs.ckc_bounds_points.specs.Frames.{local_at}
use Rattle.ckc_blame_sound.specs.ckc_bounds_declared.specs.declared.limits.Holder.TheVariants as holder
use Rattle.ckc_blame_sound.specs.ckc_bounds.specs.Declarations.{few_of, first_of, known_or_not, local_made, all_made, types_in, head_bounds}
use Rattle.ckc_blame_sound.specs.ckc_bounds.specs.Frames.{all_of, first_fresh, fresh_needed, function_frame, types_frame, locals_frame, nameless}
use Rattle.ckc_blame_sound.specs.ckc_bounds_statements.specs.Paths.{path}
use Rattle.ckc_blame_sound.specs.Settings.{frame_of_text, setting_of}
use Rattle.ckc_blame_sound.specs.JudgedTexts.{IsJudged}
use Rattle.ckc_blame_sound.specs.Numbered.{AreLocals, AreAllLocals}
use Rattle.ckc_blame_sound.proofs.Seen.{SeenAs, seen_in, seen_type}
use Rattle.ckc_blame_sound.proofs.Frames.{first_at, first_keeps, local_named, locals_made, setting_types, variables_moved}
use Rattle.ckc_blame_sound.proofs.Bodies.{contains_made}
use Rattle.ckc_blame_sound.proofs.Functions.{numbered}
use Rattle.ckc_blame_sound.proofs.Lists.{found, more_at}
use Rattle.ckc_blame_sound.proofs.ByNumber.{at_index, all_at, declaration_at}
use Rattle.ckc_blame_sound.proofs.Locals.{names_declared, variables_declared}
use Rattle.ckc_blame_declared.proofs.Ends.{AreKnown, declared_is}

-- ---- lists

repeated_at : (n : ℕ) (y : Local) (k : ℕ) (l : Local) → slice_get (replicate n y) k ≡ Some l → l ≡ y
repeated_at zero y k l e = absurd cc
repeated_at (suc n) y zero l e = cc
repeated_at (suc n) y (suc k) l e = repeated_at n y k l e

before_at : (xs : List Local) (n : ℕ) (y : Local) (k : ℕ) (l : Local) → slice_get (xs ++ replicate n y) k ≡ Some l → (slice_get xs k ≡ Some l) ⊎ (l ≡ y)
before_at [] n y k l e = inr (repeated_at n y k l e)
before_at (x ∷ xs) n y zero l e = inl e
before_at (x ∷ xs) n y (suc k) l e = before_at xs n y k l e

pub contains_at : {A : Type 0} (xs : List A) (k : ℕ) (x : A) → slice_get xs k ≡ Some x → Contains xs x
contains_at xs k x e =
    let less = slice_get_within xs k x e in
    subst (Contains xs) (same (get_or xs k x) (slice_get-get_or xs k x less)) (Contains-get_or xs k x less)
  where
    same : (y : _) → slice_get xs k ≡ Some y → y ≡ x
    same y f = cc

-- what stands in a list
pub some_at : {A : Type 0} (xs : List A) (k : ℕ) → k < length xs → (x : A) × (slice_get xs k ≡ Some x)
some_at [] k h = absurd (omega (arith, h))
some_at (x ∷ xs) zero h = (x, refl)
some_at (x ∷ xs) (suc k) h = some_at xs k (omega (arith, h))

not_none : {A : Type 0} (p : A → Bool) (xs : List A) (k : ℕ) (x : A) → slice_get xs k ≡ Some x → p x ≡ true → find p xs ≡ None → ⊥
not_none p [] k x e t n = absurd cc
not_none {A} p (y ∷ xs) zero x e t n =
    let same : y ≡ x = cc in
    let passes : p y ≡ true = subst (λ z. p z ≡ true) (sym same) t in
    by (p y) passes n
  where
    by : (b : Bool) → b ≡ true → (if b then Some y else find p xs) ≡ None → ⊥
    by true f g = absurd cc
    by false f g = absurd cc
not_none {A} p (y ∷ xs) (suc k) x e t n = by (p y) n (λ g. not_none p xs k x e t g)
  where
    by : (b : Bool) → (if b then Some y else find p xs) ≡ None → (find p xs ≡ None → ⊥) → ⊥
    by true g later = absurd cc
    by false g later = later g

-- ---- what is declared

pub known : (P : Bounds → Type 0) → P bounds.Unknown → (o : Outcome Bounds) → Gives P o → P (known_or_not o)
known P u (Ok b) h = h
known P u (Err r) h = u

-- the bounds of a local that is declared
pub bounds_known : (types : Frame) (ds : List NotedDecl) (k : ℕ) (l : Local) → AreAllLocals (names_declared ds) → slice_get (all_made types true ds) k ≡ Some l → AreKnown types (holder.Local k) l.ctype l.bounds
bounds_known types ds k l numbers e =
    let made = declaration_at types true ds k l numbers e in
    let d = made.0 in
    subst (λ (x : Local). AreKnown types (holder.Local k) x.ctype x.bounds) (sym made.3)
    (known (AreKnown types (holder.Local k) (type_written d.ctype)) tt _ (declared_is types (holder.Local k) (type_written d.ctype) d.length d.bounds refl))

-- a body has what is declared, as it sees it
abbrev pub IsSeen : NotedHead → NotedStmt → NotedDecl → Type 0
IsSeen h body d = (e : NotedDecl) × Contains (all_of h body) e × (e.name ≡ d.name) × SeenAs (type_written d.ctype) (type_written e.ctype)

pub params_seen : (h : NotedHead) (body : NotedStmt) (d : NotedDecl) → Contains (seen_params Checked h) d → IsSeen h body d
params_seen h body d c =
    let mode = body.note.mode in
    All-contains (IsSeen h body) (seen_params Checked h) d (each h.params (λ e m. (
      seen mode e,
      Contains-append_left (seen_params mode h) (path body).declared (seen mode e) (contains_made (seen mode) h.params e m),
      name_seen mode e ∙ sym (name_seen Checked e),
      seen_type (seen mode e) (seen Checked e) (seen_in mode e),
    ))) c
  where
    each : (ds : List NotedDecl) → ((e : NotedDecl) → Contains ds e → IsSeen h body (seen Checked e)) → All (IsSeen h body) (map (seen Checked) ds)
    each ds f = all_from ds (All-contains_itself ds)
      where
        all_from : (es : List NotedDecl) → All (Contains ds) es → All (IsSeen h body) (map (seen Checked) es)
        all_from [] a = All-nil (IsSeen h body)
        all_from (e ∷ es) a = All-cons (IsSeen h body) (seen Checked e) (map (seen Checked) es) (f e (All-head (Contains ds) e es a)) (all_from es (All-tail (Contains ds) e es a))

pub types_seen : (h : NotedHead) (body : NotedStmt) (d : NotedDecl) → Contains (seen_params Checked h ++ (path body).declared) d → IsSeen h body d
types_seen h body d c =
    ⊎_elim (params_seen h body d) (λ m. (d, Contains-append_right (seen_params body.note.mode h) (path body).declared d m, refl, inl refl))
    (Contains-append_cases (seen_params Checked h) (path body).declared d c)

-- a local of a body, where types are known
pub record IsThere (frame : Frame) (h : NotedHead) (body : NotedStmt) (k : ℕ) (t : CType) : Type 0 where
  pub local : Local
  pub there : slice_get (locals_made frame h body) k ≡ Some local
  pub same : SeenAs t local.ctype
  pub few : k < 1023

pub declared_there : (frame : Frame) (h : NotedHead) (body : NotedStmt) (ds : List NotedDecl) (k : ℕ) (a : Local) → ((d : NotedDecl) → Contains ds d → IsSeen h body d)
    → AreAllLocals (names_declared ds) → AreAllLocals (names_declared (all_of h body)) → local_at (types_in frame ds) k ≡ Some a → IsThere frame h body k a.ctype
unfolding few_of
declared_there frame h body ds k a seen_so some all e =
    let one = first_at 1023 (all_made frame false ds) k a e in
    let d = declaration_at frame false ds k a some one.1 in
    let x = seen_so d.0 d.1 in
    let T = types_frame frame h body in
    record {
      local = local_made T true k x.0;
      there = all_at T true (all_of h body) k x.0 all x.1 (x.2 ∙ d.2);
      same = subst (λ t. SeenAs t (type_written x.0.ctype)) (sym (ap (λ (l : Local). l.ctype) d.3)) x.3;
      few = one.0;
    }

-- ---- the locals of a frame

pub local_there : (frame : Frame) (h : NotedHead) (body : NotedStmt) (k : ℕ) (l : Local) → slice_get (locals_made frame h body) k ≡ Some l → k < 1023
    → local_at (function_frame frame h body) k ≡ Some l
unfolding few_of
local_there frame h body k l e few =
    let D = locals_made frame h body in
    let n = fresh_needed (locals_frame frame h body) (head_bounds frame h) h body (first_fresh h body) in
    first_keeps 1023 (first_of 1023 D ++ replicate n nameless) k l few (more_at (first_of 1023 D) (replicate n nameless) k l (first_keeps 1023 D k l few e))

-- a local of a frame is declared, or is fresh
pub local_is : (frame : Frame) (h : NotedHead) (body : NotedStmt) (k : ℕ) (l : Local) → local_at (function_frame frame h body) k ≡ Some l
    → (slice_get (locals_made frame h body) k ≡ Some l) ⊎ (l ≡ nameless)
unfolding few_of
local_is frame h body k l e =
    let D = locals_made frame h body in
    let n = fresh_needed (locals_frame frame h body) (head_bounds frame h) h body (first_fresh h body) in
    let one = first_at 1023 (first_of 1023 D ++ replicate n nameless) k l e in
    elim (before_at (first_of 1023 D) n nameless k l one.1) [ inl f ↦ inl (first_at 1023 D k l f).1 | inr f ↦ inr f ]

-- ---- variables

pub name_at : (n : ℕ) (ns : List Name) (k : ℕ) (m : Name) → AreLocals n ns → slice_get ns k ≡ Some m → m ≡ name.Local (n + k)
name_at n [] k m h e = absurd cc
name_at n (x ∷ ns) zero m h e = let same : x ≡ m = cc in sym same ∙ h.0 ∙ ap name.Local (next n)
  where
    next : (i : ℕ) → i ≡ i + 0
    next i = omega arith
name_at n (x ∷ ns) (suc k) m h e = name_at (n + 1) ns k m h.1 e ∙ ap name.Local (next n k)
  where
    next : (i j : ℕ) → (i + 1) + j ≡ i + suc j
    next i j = omega arith

pub same_local : (k : ℕ) → same_name (name.Local k) (name.Local k) ≡ true
same_local k = grind arith

-- the variable that a local of a frame is
pub record IsVariable (variables : List Variable) (k : ℕ) (t : CType) : Type 0 where
  pub variable : Variable
  pub named : variable_named variables (name.Local k) ≡ Some variable
  pub same : t ≡ variable.ctype

pub from_zero : (k : ℕ) → 0 + k ≡ k
from_zero k = omega arith

declared_variable : (h : NotedHead) (body : NotedStmt) (k : ℕ) (d : NotedDecl) → Contains (all_of h body) d → d.name ≡ name.Local k
    → (v : Variable) × Contains (variables_of body.note.mode h body) v × (same_name v.name (name.Local k) ≡ true)
declared_variable h body k d c named =
    let ds = all_of h body in
    let at = at_index ds d c in
    let there : Contains (variables_declared ds) (variable_declared d) =
    contains_at (variables_declared ds) at.0 (variable_declared d) (slice_get-map (λ (x : NotedDecl). variable_declared x) ds at.0 ∙ ap (option_map (λ (x : NotedDecl). variable_declared x)) at.1) in (
      variable_declared d,
      Contains-permutation (variables_declared ds) (variables_of body.note.mode h body) (variable_declared d) (variables_moved h body) there,
      subst (λ n. same_name n (name.Local k) ≡ true) (sym named) (same_local k),
    )

-- what is found among variables, one of which has the name
pub found_variable : (variables : List Variable) (k : ℕ) → ((v : Variable) × Contains variables v × (same_name v.name (name.Local k) ≡ true))
    → (v : Variable) × (variable_named variables (name.Local k) ≡ Some v) × Contains variables v × (v.name ≡ name.Local k)
found_variable variables k there = by (variable_named variables (name.Local k)) refl
  where
    by : (o : Option Variable) → variable_named variables (name.Local k) ≡ o → (v : Variable) × (variable_named variables (name.Local k) ≡ Some v) × Contains variables v × (v.name ≡ name.Local k)
    by (Some v) e =
        let f = found (Contains variables) (λ (x : Variable). same_name x.name (name.Local k)) variables v (All-contains_itself variables) e in
        (v, e, f.0, local_named v.name k f.1)
    by None e =
        let at = at_from_Contains variables there.0 there.1 in
        absurd (not_none (λ (x : Variable). same_name x.name (name.Local k)) variables at.0 there.0 (slice_get_read variables (length variables) at.0 there.0 refl at.1 (sym (at.2 there.0))) there.2 e)

-- A local of the frame of a function is the variable with its name, and has the type of that.
pub variable_there : (p : Typed) (h : NotedHead) (body : NotedStmt) (k : ℕ) (l : Local) → IsJudged p → Contains p.tree.items (item.Function h body)
    → slice_get (locals_made (frame_of_text p) h body) k ≡ Some l → k < 1023 → IsVariable (variables_of body.note.mode h body) k l.ctype
unfolding setting_of
variable_there p h body k l j there e few =
    let one = declaration_at (types_frame (frame_of_text p) h body) true (all_of h body) k l (numbered p h body j there) e in
    let v = found_variable (variables_of body.note.mode h body) k (declared_variable h body k one.0 one.1 one.2) in
    record { variable = v.0; named = v.1; same = setting_types p h body j there v.0 k l v.2 v.3 (local_there (frame_of_text p) h body k l e few) }
