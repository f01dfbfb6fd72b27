-- What is made of declarations, each at the number of its local.
use Rattle.std.proofs.Common.{◌≡◌, ◌∙◌, sym, ap, subst, refl, ℕ, zero, suc, ◌+◌, ◌<◌, List, [], ◌∷◌, ◌++◌, map, length, length-append, length-set, append_assoc, set, eqb, replicate, arith}
use Rattle.std.specs.Prelude.{Bool, true, false, Option, Some, None, All, slice_get}
use Rattle.std.specs.List.{Contains, IsDistinct, AllByRecursion}
use Rattle.std.proofs.lemmas.Bool.{eqb-true, eq-eqb}
use Rattle.std.proofs.lemmas.List.{map-append, length-map, length-replicate}
use Rattle.std.proofs.lemmas.List.Elements.{All-contains, Contains-append_right}
use Rattle.std.proofs.lemmas.Option.{slice_get_within, slice_get-get_or}
use Rattle.ckc_types.specs.declared.types.CType.{CType}
use Rattle.ckc_syntax.specs.declared.tree.Name.{Name}
use Rattle.ckc_syntax.specs.declared.tree.Name.TheVariants as name
use Rattle.ckc_typed.specs.Trees.{NotedDecl}
use Rattle.ckc_typed.specs.Types.{type_written}
use Rattle.ckc_typed_fit.proofs.EachOnce.{once, all_below, each_there}
use Rattle.ckc_bounds.specs.ckc_bounds_points.specs.declared.frame.Local.{Local}
use Rattle.ckc_bounds.specs.ckc_bounds_points.specs.declared.frame.Frame.{Frame}
use Rattle.ckc_bounds.specs.Declarations.{nameless, local_made, with_local, with_all, all_made, types_in, declared_in}
use Rattle.ckc_blame_sound.specs.Numbered.{AreLocals, AreAllLocals}
use Rattle.ckc_blame_sound.proofs.Locals.{names_declared}

-- ---- lists

set_here : {A : Type 0} (xs : List A) (k : ℕ) (x : A) → k < length xs → slice_get (set xs k x) k ≡ Some x
set_here [] k x h = absurd (omega (arith, h))
set_here (y ∷ xs) zero x h = refl
set_here (y ∷ xs) (suc k) x h = set_here xs k x (omega (arith, h))

set_elsewhere : {A : Type 0} (xs : List A) (j k : ℕ) (x : A) → (j ≡ k → ⊥) → slice_get (set xs j x) k ≡ slice_get xs k
set_elsewhere [] j k x h = refl
set_elsewhere (y ∷ xs) zero zero x h = absurd (h refl)
set_elsewhere (y ∷ xs) zero (suc k) x h = refl
set_elsewhere (y ∷ xs) (suc j) zero x h = refl
set_elsewhere (y ∷ xs) (suc j) (suc k) x h = set_elsewhere xs j k x (λ e. h (ap suc e))

set_next : {A : Type 0} (front : List A) (x y : A) (rest : List A) → set (front ++ y ∷ rest) (length front) x ≡ front ++ x ∷ rest
set_next [] x y rest = refl
set_next (z ∷ front) x y rest = ap (λ xs. z ∷ xs) (set_next front x y rest)

set_mapped : {A B : Type 0} (f : A → B) (xs : List A) (k : ℕ) (x : A) → map f (set xs k x) ≡ set (map f xs) k (f x)
set_mapped f [] k x = refl
set_mapped f (y ∷ xs) zero x = refl
set_mapped f (y ∷ xs) (suc k) x = ap (λ ys. f y ∷ ys) (set_mapped f xs k x)

repeated : {A B : Type 0} (f : A → B) (n : ℕ) (x : A) → map f (replicate n x) ≡ replicate n (f x)
repeated f zero x = refl
repeated f (suc n) x = ap (λ ys. f x ∷ ys) (repeated f n x)

-- ---- what is made of each declaration

module _ {A : Type 0} (make : ℕ → NotedDecl → A) where
  abbrev pub put : List A → Name → NotedDecl → List A
  put xs (name.Local k) d = set xs k (make k d)
  put xs _ d = xs

  abbrev pub by_number : List A → List NotedDecl → List A
  by_number xs [] = xs
  by_number xs (d ∷ ds) = by_number (put xs d.name d) ds

  put_length : (xs : List A) (n : Name) (d : NotedDecl) → length (put xs n d) ≡ length xs
  put_length xs (name.Local k) d = length-set xs k (make k d)
  put_length xs (name.Static k) d = refl
  put_length xs (name.Function k) d = refl
  put_length xs (name.Tag k) d = refl
  put_length xs (name.Member k) d = refl
  put_length xs name.Getchar d = refl
  put_length xs name.Putchar d = refl

  pub number_length : (xs : List A) (ds : List NotedDecl) → length (by_number xs ds) ≡ length xs
  number_length xs [] = refl
  number_length xs (d ∷ ds) = number_length (put xs d.name d) ds ∙ put_length xs d.name d

  not_there : (j : ℕ) (ks : List ℕ) (xs : List A) (ds : List NotedDecl) → names_declared ds ≡ map name.Local ks → AllByRecursion (λ k. eqb j k ≡ false) ks → slice_get (by_number xs ds) j ≡ slice_get xs j
  not_there j [] xs [] is h = refl
  not_there j (k ∷ ks) xs [] is h = absurd cc
  not_there j [] xs (d ∷ ds) is h = absurd cc
  not_there j (k ∷ ks) xs (d ∷ ds) is h =
      let first : d.name ≡ name.Local k = cc in
      let rest : names_declared ds ≡ map name.Local ks = cc in
      not_there j ks (put xs d.name d) ds rest h.1 ∙ ap (λ n. slice_get (put xs n d) j) first ∙ set_elsewhere xs k j (make k d) (λ e. unequal (sym h.0) (eq-eqb j k (sym e)))
    where
      unequal : {b : Bool} → false ≡ b → b ≡ true → ⊥
      unequal e f = cc

  -- what is declared stands at its number
  there_by_index : (ks : List ℕ) (xs : List A) (ds : List NotedDecl) (i k : ℕ) (d : NotedDecl) → names_declared ds ≡ map name.Local ks → IsDistinct eqb ks → slice_get ds i ≡ Some d → d.name ≡ name.Local k → k < length xs
      → slice_get (by_number xs ds) k ≡ Some (make k d)
  unfolding IsDistinct
  there_by_index ks xs [] i k d is h e named l = absurd cc
  there_by_index [] xs (c ∷ ds) i k d is h e named l = absurd cc
  there_by_index (j ∷ ks) xs (c ∷ ds) zero k d is h e named l =
      let first : c.name ≡ name.Local j = cc in
      let rest : names_declared ds ≡ map name.Local ks = cc in
      let same : c ≡ d = cc in
      let at : c.name ≡ name.Local k = ap (λ (x : NotedDecl). x.name) same ∙ named in
      let number : j ≡ k = cc in
      not_there k ks (put xs c.name c) ds rest (subst (λ n. AllByRecursion (λ m. eqb n m ≡ false) ks) number h.0)
      ∙ ap (λ n. slice_get (put xs n c) k) at ∙ set_here xs k (make k c) l ∙ ap (λ x. Some (make k x)) same
  there_by_index (j ∷ ks) xs (c ∷ ds) (suc i) k d is h e named l =
      let rest : names_declared ds ≡ map name.Local ks = cc in
      there_by_index ks (put xs c.name c) ds i k d rest h.1 e named (subst (λ n. k < n) (sym (put_length xs c.name c)) l)

  -- those that are numbered in their order stand in it
  pub in_order : (front : List A) (x : A) (ds : List NotedDecl) (f : NotedDecl → A) → ((k : ℕ) (d : NotedDecl) → make k d ≡ f d) → AreLocals (length front) (names_declared ds)
      → by_number (front ++ replicate (length ds) x) ds ≡ front ++ map f ds
  in_order front x [] f same h = refl
  in_order front x (d ∷ ds) f same h =
      let rest : List A = replicate (length ds) x in
      let longer : length (front ++ f d ∷ []) ≡ length front + 1 = length-append front (f d ∷ []) in
      ap (λ n. by_number (put (front ++ x ∷ rest) n d) ds) h.0 ∙ ap (λ xs. by_number xs ds) (set_next front (make (length front) d) x rest ∙ ap (λ y. front ++ y ∷ rest) (same (length front) d) ∙ sym (append_assoc front (f d ∷ []) rest))
      ∙ in_order (front ++ f d ∷ []) x ds f same (subst (λ n. AreLocals n (names_declared ds)) (sym longer) h.1)
      ∙ append_assoc front (f d ∷ []) (map f ds)

-- ---- where a declaration is

pub at_index : (ds : List NotedDecl) (d : NotedDecl) → Contains ds d → (i : ℕ) × (slice_get ds i ≡ Some d)
at_index ds d c = (c.0, slice_get-get_or ds c.0 d c.1 ∙ ap Some c.2)

named_there : (ds : List NotedDecl) (k : ℕ) → Contains (names_declared ds) (name.Local k) → (d : NotedDecl) × Contains ds d × (d.name ≡ name.Local k)
named_there [] k c = let l = c.1 in absurd (omega (arith, l))
named_there (d ∷ ds) k (zero, l, e) = (d, (zero, omega arith, refl), e)
named_there (d ∷ ds) k (suc i, l, e) = let r = named_there ds k (i, omega (arith, l), e) in (r.0, (suc r.1.0, (let m = r.1.1 in omega (arith, m)), r.1.2), r.2)

mapped_there : (ks : List ℕ) (k : ℕ) → Contains ks k → Contains (map name.Local ks) (name.Local k)
mapped_there [] k c = let l = c.1 in absurd (omega (arith, l))
mapped_there (j ∷ ks) k (zero, l, e) = (zero, omega arith, ap name.Local e)
mapped_there (j ∷ ks) k (suc i, l, e) = let r = mapped_there ks k (i, omega (arith, l), e) in (suc r.0, (let m = r.1 in omega (arith, m)), r.2)

number_there : (ks : List ℕ) (k : ℕ) → Contains (map name.Local ks) (name.Local k) → Contains ks k
number_there [] k c = let l = c.1 in absurd (omega (arith, l))
number_there (j ∷ ks) k (zero, l, e) = (zero, omega arith, local_number j k e)
  where
    local_number : (j k : ℕ) → name.Local j ≡ name.Local k → j ≡ k
    local_number j k e = cc
number_there (j ∷ ks) k (suc i, l, e) = let r = number_there ks k (i, omega (arith, l), e) in (suc r.0, (let m = r.1 in omega (arith, m)), r.2)

pub name_there : (ds : List NotedDecl) (d : NotedDecl) → Contains ds d → Contains (names_declared ds) d.name
name_there [] d c = let l = c.1 in absurd (omega (arith, l))
name_there (x ∷ ds) d (zero, l, e) = (zero, omega arith, ap (λ (y : NotedDecl). y.name) e)
name_there (x ∷ ds) d (suc i, l, e) = let r = name_there ds d (i, omega (arith, l), e) in (suc r.0, (let m = r.1 in omega (arith, m)), r.2)

-- ---- locals that each have a number of their own

module _ (ds : List NotedDecl) (numbers : AreAllLocals (names_declared ds)) where
  long : length numbers.0 ≡ length ds
  long = sym (length-map numbers.0 name.Local) ∙ ap length (sym numbers.1) ∙ length-map ds (λ (d : NotedDecl). d.name)

  pub below_count : (d : NotedDecl) (k : ℕ) → Contains ds d → d.name ≡ name.Local k → k < length ds
  below_count d k c named =
      let there : Contains numbers.0 k = number_there numbers.0 k (subst (λ ns. Contains ns (name.Local k)) numbers.1 (subst (Contains (names_declared ds)) named (name_there ds d c))) in
      subst (λ n. k < n) long (All-contains (λ n. n < length numbers.0) numbers.0 k (all_below numbers.0 numbers.2) there)

  pub declared_by : (k : ℕ) → k < length ds → (d : NotedDecl) × Contains ds d × (d.name ≡ name.Local k)
  declared_by k l = named_there ds k (subst (λ ns. Contains ns (name.Local k)) (sym numbers.1) (mapped_there numbers.0 k (each_there numbers.0 numbers.2 k (subst (λ n. k < n) (sym long) l))))

  pub stands_at : {A : Type 0} (make : ℕ → NotedDecl → A) (x : A) (k : ℕ) (d : NotedDecl) → Contains ds d → d.name ≡ name.Local k → slice_get (by_number make (replicate (length ds) x) ds) k ≡ Some (make k d)
  stands_at make x k d c named =
      let at = at_index ds d c in
      there_by_index make numbers.0 (replicate (length ds) x) ds at.0 k d numbers.1 (once numbers.0 numbers.2) at.1 named
      (subst (λ n. k < n) (sym (length-replicate (length ds) x)) (below_count d k c named))

pub unlike_all : (ks : List ℕ) (k : ℕ) → AllByRecursion (λ m. eqb k m ≡ false) ks → Contains ks k → ⊥
unlike_all [] k h c = let l = c.1 in absurd (omega (arith, l))
unlike_all (j ∷ ks) k h (zero, l, e) = unequal (sym h.0) (eq-eqb k j (sym e))
  where
    unequal : {b : Bool} → false ≡ b → b ≡ true → ⊥
    unequal e f = cc
unlike_all (j ∷ ks) k h (suc i, l, e) = unlike_all ks k h.1 (i, omega (arith, l), e)

-- no number is declared twice
declared_apart : (ks : List ℕ) (ds es : List NotedDecl) (k : ℕ) → names_declared (ds ++ es) ≡ map name.Local ks → IsDistinct eqb ks → Contains (names_declared ds) (name.Local k) → Contains (names_declared es) (name.Local k) → ⊥
unfolding IsDistinct
declared_apart ks [] es k is h c b = let l = c.1 in absurd (omega (arith, l))
declared_apart [] (d ∷ ds) es k is h c b = absurd cc
declared_apart (j ∷ ks) (d ∷ ds) es k is h (zero, l, e) b =
    let first : d.name ≡ name.Local j = cc in
    let rest : names_declared (ds ++ es) ≡ map name.Local ks = cc in
    let number : j ≡ k = (let f : name.Local j ≡ name.Local k = sym first ∙ e in cc) in
    let all : Contains (names_declared ds ++ names_declared es) (name.Local k) = Contains-append_right (names_declared ds) (names_declared es) (name.Local k) b in
    unlike_all ks k (subst (λ n. AllByRecursion (λ m. eqb n m ≡ false) ks) number h.0)
    (number_there ks k (subst (λ ns. Contains ns (name.Local k)) (sym (map-append (λ (x : NotedDecl). x.name) ds es) ∙ rest) all))
declared_apart (j ∷ ks) (d ∷ ds) es k is h (suc i, l, e) b =
    let rest : names_declared (ds ++ es) ≡ map name.Local ks = cc in declared_apart ks ds es k rest h.1 (i, omega (arith, l), e) b

pub apart : (ds es : List NotedDecl) (d e : NotedDecl) (k : ℕ) → AreAllLocals (names_declared (ds ++ es)) → Contains ds d → d.name ≡ name.Local k → Contains es e → e.name ≡ name.Local k → ⊥
apart ds es d e k numbers c named b named_so =
    declared_apart numbers.0 ds es k numbers.1 (once numbers.0 numbers.2) (subst (Contains (names_declared ds)) named (name_there ds d c)) (subst (Contains (names_declared es)) named_so (name_there es e b))

-- what counts has each number
pub counted_by : (n : ℕ) (ds : List NotedDecl) (i : ℕ) → AreLocals n (names_declared ds) → i < length ds → (d : NotedDecl) × Contains ds d × (d.name ≡ name.Local (n + i))
counted_by n [] i h l = absurd (omega (arith, l))
counted_by n (d ∷ ds) zero h l = (d, (zero, omega arith, refl), h.0 ∙ ap name.Local (next n))
  where
    next : (i : ℕ) → i ≡ i + 0
    next i = omega arith
counted_by n (d ∷ ds) (suc i) h l =
    let r = counted_by (n + 1) ds i h.1 (omega (arith, l)) in
    (r.0, (suc r.1.0, (let m = r.1.1 in omega (arith, m)), r.1.2), r.2 ∙ ap name.Local (next n i))
  where
    next : (i j : ℕ) → (i + 1) + j ≡ i + suc j
    next i j = omega arith

-- ---- the locals of a frame

local_by : (frame : Frame) (b : Bool) (ls : List Local) (n : Name) (d : NotedDecl) → with_local frame b ls n d ≡ put (local_made frame b) ls n d
local_by frame b ls (name.Local k) d = refl
local_by frame b ls (name.Static k) d = refl
local_by frame b ls (name.Function k) d = refl
local_by frame b ls (name.Tag k) d = refl
local_by frame b ls (name.Member k) d = refl
local_by frame b ls name.Getchar d = refl
local_by frame b ls name.Putchar d = refl

pub all_by_number : (frame : Frame) (b : Bool) (ls : List Local) (ds : List NotedDecl) → with_all frame b ls ds ≡ by_number (local_made frame b) ls ds
all_by_number frame b ls [] = refl
all_by_number frame b ls (d ∷ ds) = all_by_number frame b (with_local frame b ls d.name d) ds ∙ ap (λ xs. by_number (local_made frame b) xs ds) (local_by frame b ls d.name d)

pub made_length : (frame : Frame) (b : Bool) (ds : List NotedDecl) → length (all_made frame b ds) ≡ length ds
made_length frame b ds =
    ap length (all_by_number frame b (replicate (length ds) nameless) ds) ∙ number_length (local_made frame b) (replicate (length ds) nameless) ds ∙ length-replicate (length ds) nameless

-- the local that is made of a declaration
pub all_at : (frame : Frame) (b : Bool) (ds : List NotedDecl) (k : ℕ) (d : NotedDecl) → AreAllLocals (names_declared ds) → Contains ds d → d.name ≡ name.Local k → slice_get (all_made frame b ds) k ≡ Some (local_made frame b k d)
all_at frame b ds k d numbers c named =
    ap (λ ls. slice_get ls k) (all_by_number frame b (replicate (length ds) nameless) ds) ∙ stands_at ds numbers (local_made frame b) nameless k d c named

-- the declaration of a local
pub declaration_at : (frame : Frame) (b : Bool) (ds : List NotedDecl) (k : ℕ) (l : Local) → AreAllLocals (names_declared ds) → slice_get (all_made frame b ds) k ≡ Some l
    → (d : NotedDecl) × Contains ds d × (d.name ≡ name.Local k) × (l ≡ local_made frame b k d)
declaration_at frame b ds k l numbers e =
    let one = declared_by ds numbers k (subst (λ n. k < n) (made_length frame b ds) (slice_get_within (all_made frame b ds) k l e)) in
    (one.0, one.1, one.2, same (all_at frame b ds k one.0 numbers one.1 one.2))
  where
    same : {m : Local} → slice_get (all_made frame b ds) k ≡ Some m → l ≡ m
    same f = cc

-- ---- types

abbrev pub types_of : List Local → List CType
types_of ls = map (λ (l : Local). l.ctype) ls

abbrev pub types_declared : List NotedDecl → List CType
types_declared ds = map (λ (d : NotedDecl). type_written d.ctype) ds

abbrev pub type_made : ℕ → NotedDecl → CType
type_made k d = type_written d.ctype

-- the types of locals, each at its number
abbrev pub types_numbered : List NotedDecl → List CType
types_numbered ds = by_number type_made (replicate (length ds) nameless.ctype) ds

made_type : (frame : Frame) (b : Bool) (k : ℕ) (d : NotedDecl) → (local_made frame b k d).ctype ≡ type_written d.ctype
made_type frame true k d = refl
made_type frame false k d = refl

put_type : (frame : Frame) (b : Bool) (ls : List Local) (n : Name) (d : NotedDecl) → types_of (with_local frame b ls n d) ≡ put type_made (types_of ls) n d
put_type frame b ls (name.Local k) d = set_mapped (λ (l : Local). l.ctype) ls k (local_made frame b k d) ∙ ap (set (types_of ls) k) (made_type frame b k d)
put_type frame b ls (name.Static k) d = refl
put_type frame b ls (name.Function k) d = refl
put_type frame b ls (name.Tag k) d = refl
put_type frame b ls (name.Member k) d = refl
put_type frame b ls name.Getchar d = refl
put_type frame b ls name.Putchar d = refl

all_types : (frame : Frame) (b : Bool) (ls : List Local) (ds : List NotedDecl) → types_of (with_all frame b ls ds) ≡ by_number type_made (types_of ls) ds
all_types frame b ls [] = refl
all_types frame b ls (d ∷ ds) =
    all_types frame b (with_local frame b ls d.name d) ds ∙ ap (λ ts. by_number type_made ts ds) (put_type frame b ls d.name d)

pub made_types : (frame : Frame) (b : Bool) (ds : List NotedDecl) → types_of (all_made frame b ds) ≡ types_numbered ds
made_types frame b ds =
    all_types frame b (replicate (length ds) nameless) ds
    ∙ ap (λ ts. by_number type_made ts ds) (repeated (λ (l : Local). l.ctype) (length ds) nameless)

pub declared_types : (frame : Frame) (ds : List NotedDecl) → types_of (declared_in frame ds) ≡ types_numbered ds
declared_types frame ds = made_types (types_in frame ds) true ds

pub types_length : (ds : List NotedDecl) → length (types_numbered ds) ≡ length ds
types_length ds = number_length type_made (replicate (length ds) nameless.ctype) ds ∙ length-replicate (length ds) nameless.ctype

pub type_at : (ds : List NotedDecl) (k : ℕ) (d : NotedDecl) → AreAllLocals (names_declared ds) → Contains ds d → d.name ≡ name.Local k → slice_get (types_numbered ds) k ≡ Some (type_written d.ctype)
type_at ds k d numbers c named = stands_at ds numbers type_made nameless.ctype k d c named

-- parameters have theirs in order
pub params_types : (frame : Frame) (ds : List NotedDecl) → AreLocals 0 (names_declared ds) → types_of (declared_in frame ds) ≡ types_declared ds
params_types frame ds h = declared_types frame ds ∙ in_order type_made [] nameless.ctype ds (λ (d : NotedDecl). type_written d.ctype) (λ (k : ℕ) (d : NotedDecl). refl) h
