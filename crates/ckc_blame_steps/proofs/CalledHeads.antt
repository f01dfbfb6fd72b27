-- The head that bounds are judged by at a call is that of the function that the program calls.
use Rattle.std.proofs.Common.{◌≡◌, ◌⊎◌, ⊎_elim, inl, inr, ◌∙◌, sym, ap, subst, refl, arith, ℕ, suc, ◌+◌, ◌<◌, ◌≤◌, ◌==◌, Bool, true, false, List, [], ◌∷◌, ◌++◌, map, length, length-append}
use Rattle.std.specs.Prelude.{◌≢◌, if◌then◌else◌, Some, slice_get}
use Rattle.std.specs.List.{Contains, flat_map}
use Rattle.std.proofs.lemmas.Bool.{eqb-true, eq-eqb}
use Rattle.std.proofs.lemmas.List.Elements.{All-nil, All-cons, All-contains, Contains-append_cases, Contains-append_left, Contains-append_right}
use Rattle.std.proofs.lemmas.Option.{slice_get_within}
use Rattle.ckc_syntax.specs.declared.tree.Name.{Name}
use Rattle.ckc_syntax.specs.declared.tree.Name.TheVariants as name
use Rattle.ckc_syntax.specs.declared.tree.Item.TheVariants as item
use Rattle.ckc_syntax.specs.Placeless.{placeless_head}
use Rattle.ckc_typed.specs.declared.typed.Typed.{Typed}
use Rattle.ckc_typed.specs.Environment.{same_name}
use Rattle.ckc_typed.specs.Trees.{Head, Item, Tree, NotedHead, NotedItem, NotedStmt}
use Rattle.ckc_typed_fit.specs.Bodies.{body_of, Defines, IsDefined, FunctionsHaveBodies}
use Rattle.ckc_typed_fit.specs.Members.{AreDifferent}
use Rattle.ckc_typed_fit.specs.Numbers.{function_in, function_numbers, CountsUp}
use Rattle.ckc_typed_plain.proofs.Stay.{bodies_kept, functions_count}
use Rattle.ckc_typed_welltyped.specs.Noteless.{bare_head, bare_item}
use Rattle.ckc_blame_sound.specs.ckc_bounds_points.specs.declared.frame.Frame.{Frame}
use Rattle.ckc_blame_sound.specs.ckc_bounds_points.specs.declared.frame.HeadBounds.{HeadBounds}
use Rattle.ckc_blame_sound.specs.ckc_bounds.specs.Declarations.{is_function_at, head_bounds, with_head, heads_from}
use Rattle.ckc_blame_sound.specs.ckc_bounds.specs.Frames.{structs_frame}
use Rattle.ckc_source.specs.Code.{Function}
use Rattle.ckc_build_elaborate.specs.Bodies as elaborated
use Rattle.ckc_build_elaborate.specs.Functions.{function_elaborated, functions_in, functions_elaborated, literals_of_item}
use Rattle.ckc_build_elaborate.specs.Lists.{numbered}
use Rattle.ckc_build_elaborate.specs.Names.{number_of}
use Rattle.ckc_build_elaborate.specs.Objects.{count_declared}
use Rattle.ckc_blame_sound.specs.Settings.{Setting, IsFunction, frame_of_text, setting_of}
use Rattle.ckc_blame_sound.proofs.Strings.{NumbersStrings, numbers_first, numbers_later}
use Rattle.ckc_blame_sound.specs.JudgedTexts.{IsJudged}
use Rattle.ckc_blame_sound.proofs.Functions.{tree_named}
use Rattle.ckc_blame_sound.proofs.Lists.{more_at}
use Rattle.ckc_blame_sound.proofs.Literals.{text_strings}
use Rattle.ckc_blame_walk.proofs.Main.{find_function}
use Rattle.ckc_blame_steps.proofs.SameHeads.{heads_same, same_bounds}

-- ---- lists

head_of : {X : Type 0} (x y : X) → Contains (x ∷ []) y → x ≡ y
head_of x y c = All-contains (λ z. x ≡ z) (x ∷ []) y (All-cons (λ z. x ≡ z) x [] refl (All-nil (λ z. x ≡ z))) c

pub split_in : {X : Type 0} (x : X) (xs : List X) (y : X) → Contains (x ∷ xs) y → (x ≡ y) ⊎ Contains xs y
split_in x xs y c = ⊎_elim (λ d. inl (head_of x y d)) (λ d. inr d) (Contains-append_cases (x ∷ []) xs y c)

pub first_in : {X : Type 0} (x : X) (xs : List X) → Contains (x ∷ xs) x
first_in x xs = (0, omega arith, refl)

pub later_in : {X : Type 0} (x : X) (xs : List X) (y : X) → Contains xs y → Contains (x ∷ xs) y
later_in x xs y c = let h = c.1 in (suc c.0, omega arith, c.2)

pub none_in : {X : Type 0} (y : X) → Contains [] y → ⊥
none_in y c = let h = c.1 in absurd (omega (arith, h))

map_in : {X Y : Type 0} (f : X → Y) (xs : List X) (x : X) → Contains xs x → Contains (map f xs) (f x)
map_in f [] x c = absurd (none_in x c)
map_in f (y ∷ xs) x c =
    ⊎_elim (λ e. subst (λ z. Contains (f y ∷ map f xs) (f z)) e (first_in (f y) (map f xs))) (λ d. later_in (f y) (map f xs) (f x) (map_in f xs x d)) (split_in y xs x c)

made_from : {X Y : Type 0} (f : X → Y) (xs : List X) (y : Y) → Contains (map f xs) y → (x : X) × Contains xs x × (f x ≡ y)
made_from f [] y c = absurd (none_in y c)
made_from f (x ∷ xs) y c =
    ⊎_elim (λ e. (x, first_in x xs, e)) (λ d. let r = made_from f xs y d in (r.0, later_in x xs r.0 r.1, r.2)) (split_in (f x) (map f xs) y c)

at_length : {X : Type 0} (xs : List X) (y : X) → slice_get (xs ++ y ∷ []) (length xs) ≡ Some y
at_length [] y = refl
at_length (x ∷ xs) y = at_length xs y

unequal : (k n : ℕ) → (k == n) ≡ false → n ≡ k → ⊥
unequal k n f e = absurd (both (k == n) f (eq-eqb k n (sym e)))
  where
    both : (b : Bool) → b ≡ false → b ≡ true → ⊥
    both b f t = absurd cc

function_is : (n : Name) (m : ℕ) → is_function_at n m ≡ true → n ≡ name.Function m
function_is (name.Function k) m e = ap name.Function (eqb-true k m e)
function_is n m e = absurd cc

-- an item that is no function is not this one
later_of : (i : NotedItem) (items : List NotedItem) (h : NotedHead) (a : NotedStmt) → (i ≡ item.Function h a → ⊥) → Contains (i ∷ items) (item.Function h a) → Contains items (item.Function h a)
later_of i items h a never c = ⊎_elim (λ e. absurd (never e)) (λ d. d) (split_in i items (item.Function h a) c)

-- ---- which item a head stands in

abbrev HasHead : NotedHead → NotedItem → Type 0
HasHead g (item.Proto h) = h ≡ g
HasHead g (item.Function h body) = h ≡ g
HasHead g i = ⊥

-- a head of the function with a number
record IsHead (k : ℕ) (items : List NotedItem) (g : NotedHead) : Type 0 where
  pub item : NotedItem
  pub there : Contains items item
  pub is : HasHead g item
  pub named : g.name ≡ name.Function k

more_items : (k : ℕ) (i : NotedItem) (items : List NotedItem) (g : NotedHead) → IsHead k items g → IsHead k (i ∷ items) g
more_items k i items g h = record { item = h.item; there = later_in i items h.item h.there; is = h.is; named = h.named }

abbrev numbers : List NotedItem → List ℕ
numbers items = function_numbers (map bare_item items)

module _ (frame : Frame) where
  head_keeps : (hs : List HeadBounds) (g : NotedHead) (j : ℕ) (x : HeadBounds) → slice_get hs j ≡ Some x → slice_get (with_head frame hs g) j ≡ Some x
  head_keeps hs g j x e = by (is_function_at g.name (length hs))
    where
      by : (b : Bool) → slice_get (if b then hs ++ head_bounds frame g ∷ [] else hs) j ≡ Some x
      by true = more_at hs (head_bounds frame g ∷ []) j x e
      by false = e

  heads_keep : (items : List NotedItem) (hs : List HeadBounds) (j : ℕ) (x : HeadBounds) → slice_get hs j ≡ Some x → slice_get (heads_from frame hs items) j ≡ Some x
  heads_keep [] hs j x e = e
  heads_keep (item.Proto g ∷ items) hs j x e = heads_keep items (with_head frame hs g) j x (head_keeps hs g j x e)
  heads_keep (item.Function g body ∷ items) hs j x e = heads_keep items (with_head frame hs g) j x (head_keeps hs g j x e)
  heads_keep (item.Directive d ∷ items) hs j x e = heads_keep items hs j x e
  heads_keep (item.Tag n at ∷ items) hs j x e = heads_keep items hs j x e
  heads_keep (item.Struct n ms at ∷ items) hs j x e = heads_keep items hs j x e
  heads_keep (item.Static d ∷ items) hs j x e = heads_keep items hs j x e

  -- the head that the function with a number is judged by
  record First (k : ℕ) (items : List NotedItem) (all : List HeadBounds) : Type 0 where
    pub head : NotedHead
    pub is : IsHead k items head
    pub at : slice_get all k ≡ Some (head_bounds frame head)

  more_first : (k : ℕ) (i : NotedItem) (items : List NotedItem) (all : List HeadBounds) → First k items all → First k (i ∷ items) all
  more_first k i items all f = record { head = f.head; is = more_items k i items f.head f.is; at = f.at }

  module _ (k : ℕ) (h : NotedHead) (body : NotedStmt) (named : h.name ≡ name.Function k) where
    abbrev There : List NotedItem → Type 0
    There items = Contains items (item.Function h body)

    abbrev Later : List NotedItem → Type 0
    Later items = (hs : List HeadBounds) → CountsUp (length hs) (numbers items) → length hs ≤ k → There items → First k items (heads_from frame hs items)

    first_step : (hs : List HeadBounds) (g : NotedHead) (i : NotedItem) (items : List NotedItem) → HasHead g i → CountsUp (length hs) (function_in g.name ++ numbers items) → length hs ≤ k
        → (g.name ≡ name.Function k) ⊎ There items → Later items → First k (i ∷ items) (heads_from frame (with_head frame hs g) items)
    first_step hs g i items is counts le at later = by g.name refl counts at
      where
        H : List HeadBounds
        H = hs ++ head_bounds frame g ∷ []

        apart : (n : Name) → g.name ≡ n → (n ≡ name.Function k → ⊥) → (g.name ≡ name.Function k) ⊎ There items → There items
        apart n e never at = ⊎_elim (λ f. absurd (never (sym e ∙ f))) (λ c. c) at

        same : (n : Name) → g.name ≡ n → is_function_at n (length hs) ≡ false → (n ≡ name.Function k → ⊥) → CountsUp (length hs) (numbers items) → First k (i ∷ items) (heads_from frame (with_head frame hs g) items)
        same n e not other counts =
            subst (λ (b : Bool). First k (i ∷ items) (heads_from frame (if b then H else hs) items)) (sym (ap (λ m. is_function_at m (length hs)) e ∙ not))
            (more_first k i items _ (later hs counts le (apart n e other at)))

        number_is : (n m : ℕ) → ◌≡◌ {A = Name} (name.Function n) (name.Function m) → n ≡ m
        number_is n m e = cc

        less_apart : (n : ℕ) → n < length hs → is_function_at (name.Function n) (length hs) ≡ false
        less_apart n l = by (n == length hs) refl
          where
            by : (b : Bool) → (n == length hs) ≡ b → b ≡ false
            by false e = refl
            by true e = let same = eqb-true n (length hs) e in absurd (omega (arith, l, same))

        one_more : length H ≡ length hs + 1
        one_more = length-append hs (head_bounds frame g ∷ [])

        more_than : (n : ℕ) → (k == n) ≡ false → n ≡ length hs → length H ≤ k
        more_than n f m = let other : n ≡ k → ⊥ = unequal k n f in let more = one_more in omega (arith, other, more, m, le)

        new : (n : ℕ) → g.name ≡ name.Function n → n ≡ length hs → CountsUp (length hs + 1) (numbers items) → (b : Bool) → (k == n) ≡ b → First k (i ∷ items) (heads_from frame H items)
        new n e m counts true f =
            let kn : k ≡ n = eqb-true k n f in
            record {
              head = g;
              is = record { item = i; there = first_in i items; is = is; named = e ∙ ap name.Function (sym kn) };
              at = heads_keep items H k (head_bounds frame g) (ap (slice_get H) (kn ∙ m) ∙ at_length hs (head_bounds frame g));
            }
        new n e m counts false f =
            let less : length H ≤ k = more_than n f m in
            more_first k i items _ (later H (subst (λ j. CountsUp j (numbers items)) (sym one_more) counts) less (apart (name.Function n) e (λ g. unequal k n f (number_is n k g)) at))

        by : (n : Name) → g.name ≡ n → CountsUp (length hs) (function_in n ++ numbers items) → (g.name ≡ name.Function k) ⊎ There items → First k (i ∷ items) (heads_from frame (with_head frame hs g) items)
        by (name.Function n) e counts at = ⊎_elim
            (λ c. same (name.Function n) e (less_apart n c.0) (λ f. let same = number_is n k f in let less = c.0 in absurd (omega (arith, less, same, le))) c.1)
            (λ c. subst (λ (b : Bool). First k (i ∷ items) (heads_from frame (if b then H else hs) items)) (sym (ap (λ m. is_function_at m (length hs)) e ∙ eq-eqb n (length hs) c.0)) (new n e c.0 c.1 (k == n) refl)) counts
        by (name.Local n) e counts at = same (name.Local n) e refl (λ f. absurd cc) counts
        by (name.Static n) e counts at = same (name.Static n) e refl (λ f. absurd cc) counts
        by (name.Tag n) e counts at = same (name.Tag n) e refl (λ f. absurd cc) counts
        by (name.Member n) e counts at = same (name.Member n) e refl (λ f. absurd cc) counts
        by name.Getchar e counts at = same name.Getchar e refl (λ f. absurd cc) counts
        by name.Putchar e counts at = same name.Putchar e refl (λ f. absurd cc) counts

    first_head : (items : List NotedItem) → Later items
    first_head [] hs counts le at = absurd (none_in (item.Function h body) at)
    first_head (item.Proto g ∷ items) hs counts le at =
        first_step hs g (item.Proto g) items refl counts le (⊎_elim (λ e. absurd cc) (λ c. inr c) (split_in (item.Proto g) items (item.Function h body) at)) (first_head items)
    first_head (item.Function g c ∷ items) hs counts le at =
        first_step hs g (item.Function g c) items refl counts le (⊎_elim (λ e. inl (head_is g c e ∙ named)) (λ d. inr d) (split_in (item.Function g c) items (item.Function h body) at)) (first_head items)
      where
        head_is : (g : NotedHead) (c : NotedStmt) → ◌≡◌ {A = NotedItem} (item.Function g c) (item.Function h body) → g.name ≡ h.name
        head_is g c e = let same : g ≡ h = cc in ap (λ (x : NotedHead). x.name) same
    first_head (item.Directive d ∷ items) hs counts le at =
        more_first k (item.Directive d) items _ (first_head items hs counts le (⊎_elim (λ e. absurd cc) (λ c. c) (split_in (item.Directive d) items (item.Function h body) at)))
    first_head (item.Tag n pos' ∷ items) hs counts le at =
        more_first k (item.Tag n pos') items _ (first_head items hs counts le (⊎_elim (λ e. absurd cc) (λ c. c) (split_in (item.Tag n pos') items (item.Function h body) at)))
    first_head (item.Struct n ms pos' ∷ items) hs counts le at =
        more_first k (item.Struct n ms pos') items _ (first_head items hs counts le (⊎_elim (λ e. absurd cc) (λ c. c) (split_in (item.Struct n ms pos') items (item.Function h body) at)))
    first_head (item.Static d ∷ items) hs counts le at =
        more_first k (item.Static d) items _ (first_head items hs counts le (⊎_elim (λ e. absurd cc) (λ c. c) (split_in (item.Static d) items (item.Function h body) at)))

  -- a head that is known stands in the text
  abbrev KnownIn : ℕ → List NotedItem → HeadBounds → Type 0
  KnownIn k items x = (hs : List HeadBounds) → length hs ≤ k → slice_get (heads_from frame hs items) k ≡ Some x → (f : NotedHead) × IsHead k items f

  known_step : (k : ℕ) (hs : List HeadBounds) (g : NotedHead) (i : NotedItem) (items : List NotedItem) (x : HeadBounds) → HasHead g i → KnownIn k items x
      → length hs ≤ k → slice_get (heads_from frame (with_head frame hs g) items) k ≡ Some x → (f : NotedHead) × IsHead k (i ∷ items) f
  known_step k hs g i items x is later le e = by (is_function_at g.name (length hs)) refl e
    where
      H : List HeadBounds
      H = hs ++ head_bounds frame g ∷ []

      rest : (f : NotedHead) × IsHead k items f → (f : NotedHead) × IsHead k (i ∷ items) f
      rest r = (r.0, more_items k i items r.0 r.1)

      new : (b : Bool) → (k == length hs) ≡ b → g.name ≡ name.Function (length hs) → slice_get (heads_from frame H items) k ≡ Some x → (f : NotedHead) × IsHead k (i ∷ items) f
      new true f n u = (g, record { item = i; there = first_in i items; is = is; named = n ∙ ap name.Function (sym (eqb-true k (length hs) f)) })
      new false f n u =
          let other : length hs ≡ k → ⊥ = unequal k (length hs) f in
          let more : length H ≡ length hs + 1 = length-append hs (head_bounds frame g ∷ []) in
          rest (later H (omega (arith, other, more, le)) u)

      by : (b : Bool) → is_function_at g.name (length hs) ≡ b → slice_get (heads_from frame (if b then H else hs) items) k ≡ Some x → (f : NotedHead) × IsHead k (i ∷ items) f
      by true t u = new (k == length hs) refl (function_is g.name (length hs) t) u
      by false t u = rest (later hs le u)

  known_head : (k : ℕ) (items : List NotedItem) (x : HeadBounds) → KnownIn k items x
  known_head k [] x hs le e = let less = slice_get_within hs k x e in absurd (omega (arith, less, le))
  known_head k (item.Proto g ∷ items) x hs le e = known_step k hs g (item.Proto g) items x refl (known_head k items x) le e
  known_head k (item.Function g c ∷ items) x hs le e = known_step k hs g (item.Function g c) items x refl (known_head k items x) le e
  known_head k (item.Directive d ∷ items) x hs le e = let r = known_head k items x hs le e in (r.0, more_items k (item.Directive d) items r.0 r.1)
  known_head k (item.Tag n at ∷ items) x hs le e = let r = known_head k items x hs le e in (r.0, more_items k (item.Tag n at) items r.0 r.1)
  known_head k (item.Struct n ms at ∷ items) x hs le e = let r = known_head k items x hs le e in (r.0, more_items k (item.Struct n ms at) items r.0 r.1)
  known_head k (item.Static d ∷ items) x hs le e = let r = known_head k items x hs le e in (r.0, more_items k (item.Static d) items r.0 r.1)

-- ---- one body for each function

flat_in : {X Y : Type 0} (f : X → List Y) (xs : List X) (x : X) (y : Y) → Contains xs x → Contains (f x) y → Contains (flat_map f xs) y
flat_in f [] x y c d = absurd (none_in x c)
flat_in f (z ∷ xs) x y c d =
    ⊎_elim (λ e. Contains-append_left (f z) (flat_map f xs) y (subst (λ w. Contains (f w) y) (sym e) d))
    (λ later. Contains-append_right (f z) (flat_map f xs) y (flat_in f xs x y later d)) (split_in z xs x c)

abbrev bodies : List NotedItem → List ℕ
bodies items = flat_map body_of (map bare_item items)

body_in : (m : ℕ) (items : List NotedItem) (g : NotedHead) (b : NotedStmt) → Contains items (item.Function g b) → g.name ≡ name.Function m → Contains (bodies items) m
body_in m items g b c n =
    flat_in body_of (map bare_item items) (bare_item (item.Function g b)) m (map_in bare_item items (item.Function g b) c)
    (subst (λ x. Contains (function_in x) m) (sym n) (first_in m []))

different_right : (xs ys : List ℕ) → AreDifferent (xs ++ ys) → AreDifferent ys
different_right [] ys h = h
different_right (x ∷ xs) ys h = different_right xs ys h.1

-- two functions with one number are one, in the first of some items or in the others
unique_step : (m : ℕ) (f : NotedHead) (c : NotedStmt) (items : List NotedItem) (h g : NotedHead) (a b : NotedStmt) → AreDifferent (function_in f.name ++ bodies items)
    → (Contains items (item.Function h a) → Contains items (item.Function g b) → h ≡ g)
    → (◌≡◌ {A = NotedItem} (item.Function f c) (item.Function h a)) ⊎ Contains items (item.Function h a)
    → (◌≡◌ {A = NotedItem} (item.Function f c) (item.Function g b)) ⊎ Contains items (item.Function g b)
    → h.name ≡ name.Function m → g.name ≡ name.Function m → h ≡ g
unique_step m f c items h g a b different later x y n o =
    ⊎_elim (λ e. ⊎_elim (λ d. sym (heads h a e) ∙ heads g b d) (λ d. absurd (apart (ap (λ (z : NotedHead). z.name) (heads h a e) ∙ n) g b d o)) y)
    (λ e. ⊎_elim (λ d. absurd (apart (ap (λ (z : NotedHead). z.name) (heads g b d) ∙ o) h a e n)) (λ d. later e d) y) x
  where
    heads : (h : NotedHead) (a : NotedStmt) → ◌≡◌ {A = NotedItem} (item.Function f c) (item.Function h a) → f ≡ h
    heads h a e = cc

    apart : f.name ≡ name.Function m → (g : NotedHead) (b : NotedStmt) → Contains items (item.Function g b) → g.name ≡ name.Function m → ⊥
    apart e g b d o =
        let one : AreDifferent (m ∷ bodies items) = subst (λ n. AreDifferent (function_in n ++ bodies items)) e different in
        All-contains (λ j. j ≢ m) (bodies items) m one.0 (body_in m items g b d o) refl

unique : (m : ℕ) (items : List NotedItem) (h g : NotedHead) (a b : NotedStmt) → AreDifferent (bodies items) → Contains items (item.Function h a) → Contains items (item.Function g b)
    → h.name ≡ name.Function m → g.name ≡ name.Function m → h ≡ g
unique m [] h g a b different x y n o = absurd (none_in (item.Function h a) x)
unique m (item.Function f c ∷ items) h g a b different x y n o =
    unique_step m f c items h g a b different (λ s t. unique m items h g a b (different_right (function_in f.name) (bodies items) different) s t n o)
    (split_in (item.Function f c) items (item.Function h a) x) (split_in (item.Function f c) items (item.Function g b) y) n o
unique m (item.Proto f ∷ items) h g a b different x y n o = unique m items h g a b different (later_of (item.Proto f) items h a (λ e. absurd cc) x) (later_of (item.Proto f) items g b (λ e. absurd cc) y) n o
unique m (item.Directive d ∷ items) h g a b different x y n o = unique m items h g a b different (later_of (item.Directive d) items h a (λ e. absurd cc) x) (later_of (item.Directive d) items g b (λ e. absurd cc) y) n o
unique m (item.Tag t at ∷ items) h g a b different x y n o = unique m items h g a b different (later_of (item.Tag t at) items h a (λ e. absurd cc) x) (later_of (item.Tag t at) items g b (λ e. absurd cc) y) n o
unique m (item.Struct t ms at ∷ items) h g a b different x y n o = unique m items h g a b different (later_of (item.Struct t ms at) items h a (λ e. absurd cc) x) (later_of (item.Struct t ms at) items g b (λ e. absurd cc) y) n o
unique m (item.Static d ∷ items) h g a b different x y n o = unique m items h g a b different (later_of (item.Static d) items h a (λ e. absurd cc) x) (later_of (item.Static d) items g b (λ e. absurd cc) y) n o

-- the function with the number of a head, which has that head but for places
record HasBody (k : ℕ) (items : List NotedItem) (g : NotedHead) : Type 0 where
  pub head : NotedHead
  pub body : NotedStmt
  pub there : Contains items (item.Function head body)
  pub named : head.name ≡ name.Function k
  pub same : placeless_head (bare_head g) ≡ placeless_head (bare_head head)

-- ---- functions of the program

-- a function that the program has at the number of a name
record IsCalled (p : Typed) (k c : ℕ) (items : List NotedItem) (f : Function) : Type 0 where
  pub head : NotedHead
  pub body : NotedStmt
  pub literals : ℕ
  pub there : Contains items (item.Function head body)
  pub named : head.name ≡ name.Function k
  pub runs : f ≡ function_elaborated p literals head body
  pub strings : NumbersStrings c items literals (item.Function head body)

more_called : (p : Typed) (k c : ℕ) (i : NotedItem) (items : List NotedItem) (f : Function) → IsCalled p k (c + literals_of_item i) items f → IsCalled p k c (i ∷ items) f
more_called p k c i items f r = record { head = r.head; body = r.body; literals = r.literals; there = later_in i items (item.Function r.head r.body) r.there; named = r.named; runs = r.runs; strings = numbers_later i items c r.literals (item.Function r.head r.body) r.strings }

name_is : (n : Name) (m : ℕ) → same_name n (name.Function m) ≡ true → n ≡ name.Function m
name_is (name.Function k) m e = ap name.Function (eqb-true k m e)
name_is n m e = absurd cc

found : (p : Typed) (k c : ℕ) (items : List NotedItem) (f : Function) → slice_get (numbered (functions_in p) literals_of_item c items) (number_of (name.Function k) items) ≡ Some f → IsCalled p k c items f
found p k c [] f e = absurd cc
found p k c (item.Function h body ∷ rest) f e = by (same_name h.name (name.Function k)) refl e (λ d. found p k (c + literals_of_item (item.Function h body)) rest f d)
  where
    more : List Function
    more = numbered (functions_in p) literals_of_item (c + literals_of_item (item.Function h body)) rest

    by : (b : Bool) → same_name h.name (name.Function k) ≡ b → slice_get (function_elaborated p c h body ∷ more) (if b then 0 else number_of (name.Function k) rest + 1) ≡ Some f
        → (slice_get more (number_of (name.Function k) rest) ≡ Some f → IsCalled p k (c + literals_of_item (item.Function h body)) rest f) → IsCalled p k c (item.Function h body ∷ rest) f
    by true t u later = record { head = h; body = body; literals = c; there = first_in (item.Function h body) rest; named = name_is h.name k t; runs = first_is (function_elaborated p c h body) u; strings = numbers_first (item.Function h body) rest c }
      where
        first_is : (g : Function) → slice_get (g ∷ more) 0 ≡ Some f → f ≡ g
        first_is g v = cc
    by false t u later =
        let next : suc (number_of (name.Function k) rest) ≡ number_of (name.Function k) rest + 1 = omega arith in
        more_called p k c (item.Function h body) rest f (later (ap (slice_get (function_elaborated p c h body ∷ more)) next ∙ u))
found p k c (item.Directive d ∷ rest) f e = more_called p k c (item.Directive d) rest f (found p k (c + literals_of_item (item.Directive d)) rest f e)
found p k c (item.Tag t at ∷ rest) f e = more_called p k c (item.Tag t at) rest f (found p k (c + literals_of_item (item.Tag t at)) rest f e)
found p k c (item.Struct t ms at ∷ rest) f e = more_called p k c (item.Struct t ms at) rest f (found p k (c + literals_of_item (item.Struct t ms at)) rest f e)
found p k c (item.Static d ∷ rest) f e = more_called p k c (item.Static d) rest f (found p k (c + literals_of_item (item.Static d)) rest f e)
found p k c (item.Proto g ∷ rest) f e = more_called p k c (item.Proto g) rest f (found p k (c + literals_of_item (item.Proto g)) rest f e)

is_defined : (k : ℕ) (items : List NotedItem) (h : NotedHead) (body : NotedStmt) → Contains items (item.Function h body) → h.name ≡ name.Function k → elaborated.IsDefined (name.Function k) items
is_defined k [] h body c n = absurd (none_in (item.Function h body) c)
is_defined k (i ∷ items) h body c n = ⊎_elim
    (λ e. inl (subst (λ (j : NotedItem). elaborated.defines (name.Function k) j ≡ true) (sym e) (ap (λ m. same_name m (name.Function k)) n ∙ eq-eqb k k refl)))
    (λ d. inr (is_defined k items h body d n)) (split_in i items (item.Function h body) c)

-- ---- texts

module _ (p : Typed) (j : IsJudged p) where
  items_named : map bare_item p.tree.items ≡ j.named.tree.items
  items_named = ap (λ (t : Tree). t.items) (tree_named p j)

  has_bodies : FunctionsHaveBodies (map bare_item p.tree.items)
  has_bodies = subst (λ (is : List Item). FunctionsHaveBodies is) (sym items_named) (bodies_kept j.spelled j.named j.has_names)

  counts : CountsUp 0 (numbers p.tree.items)
  counts = subst (λ (is : List Item). CountsUp 0 (function_numbers is)) (sym items_named) (functions_count j.spelled j.named j.has_names)

  defines_it : (k : ℕ) (g : NotedHead) (i : NotedItem) → Contains p.tree.items i → Defines (bare_head g) (bare_item i) → g.name ≡ name.Function k → HasBody k p.tree.items g
  defines_it k g (item.Function h body) c d n = record { head = h; body = body; there = c; named = sym (ap (λ (x : Head). x.name) d) ∙ n; same = d }
  defines_it k g (item.Directive i) c d n = absurd d
  defines_it k g (item.Tag t at) c d n = absurd d
  defines_it k g (item.Struct t ms at) c d n = absurd d
  defines_it k g (item.Static s) c d n = absurd d
  defines_it k g (item.Proto h) c d n = absurd d

  has_body : (k : ℕ) (g : NotedHead) (i : NotedItem) → Contains p.tree.items i → HasHead g i → g.name ≡ name.Function k → HasBody k p.tree.items g
  has_body k g (item.Function h body) c is n = record { head = h; body = body; there = c; named = ap (λ (x : NotedHead). x.name) is ∙ n; same = ap (λ (x : NotedHead). placeless_head (bare_head x)) (sym is) }
  has_body k g (item.Proto h) c is n =
      let B = map bare_item p.tree.items in
      let defined : IsDefined B (item.Proto (bare_head h)) = All-contains (IsDefined B) B (item.Proto (bare_head h)) has_bodies.defined (map_in bare_item p.tree.items (item.Proto h) c) in
      let from = made_from bare_item p.tree.items defined.1 (defined.0, defined.2, defined.3) in
      let d : Defines (bare_head h) (bare_item from.0) = subst (λ (x : Item). Defines (bare_head h) x) (sym from.2) defined.4 in
      subst (HasBody k p.tree.items) is (defines_it k h from.0 from.1 d (ap (λ (x : NotedHead). x.name) is ∙ n))
  has_body k g (item.Directive i) c is n = absurd is
  has_body k g (item.Tag t at) c is n = absurd is
  has_body k g (item.Struct t ms at) c is n = absurd is
  has_body k g (item.Static s) c is n = absurd is

  abbrev first_frame : Frame
  first_frame = structs_frame p.layout p.statics

  head_at : (k : ℕ) (h : NotedHead) (body : NotedStmt) → Contains p.tree.items (item.Function h body) → h.name ≡ name.Function k
      → slice_get (frame_of_text p).heads k ≡ Some (head_bounds (frame_of_text p) h)
  head_at k h body c n =
      let first = first_head first_frame k h body n p.tree.items [] counts (omega arith) c in
      let b = has_body k first.head first.is.item first.is.there first.is.is first.is.named in
      let same : b.head ≡ h = unique k p.tree.items b.head h b.body body has_bodies.differ b.there c b.named n in
      first.at ∙ ap Some (heads_same first_frame first.head h (b.same ∙ ap (λ (x : NotedHead). placeless_head (bare_head x)) same)
      ∙ sym (same_bounds first_frame (frame_of_text p) (record { structs = refl; statics = refl }) h))

  heads_of : (h : NotedHead) (body : NotedStmt) → (setting_of p h body).frame.heads ≡ (frame_of_text p).heads
  unfolding setting_of
  heads_of h body = refl

  heads_in : (s : Setting) (f : Function) → IsFunction p s f → s.frame.heads ≡ (frame_of_text p).heads
  heads_in s f is = ap (λ (t : Setting). t.frame.heads) is.judged ∙ heads_of is.head is.body

  head_in : (h : NotedHead) (body : NotedStmt) → (setting_of p h body).head ≡ head_bounds (frame_of_text p) h
  unfolding setting_of
  head_in h body = refl

  -- a call of a function is judged by the head of the function itself
  pub head_is : (s : Setting) (f : Function) (k : ℕ) (h : NotedHead) (body : NotedStmt) → IsFunction p s f → Contains p.tree.items (item.Function h body) → h.name ≡ name.Function k
      → slice_get s.frame.heads k ≡ Some (setting_of p h body).head
  head_is s f k h body is c n = ap (λ hs. slice_get hs k) (heads_in s f is) ∙ head_at k h body c n ∙ ap Some (sym (head_in h body))

  pub called : (s : Setting) (f callee : Function) (k : ℕ) → IsFunction p s f → slice_get (functions_elaborated p) (number_of (name.Function k) p.tree.items) ≡ Some callee
      → (called : Setting) × IsFunction p called callee × (slice_get s.frame.heads k ≡ Some called.head)
  called s f callee k is e =
      let c = found p k (count_declared p.tree.items) p.tree.items callee e in
      let S = setting_of p c.head c.body in (
        S,
        record { head = c.head; body = c.body; literals = c.literals; there = c.there; judged = refl; runs = c.runs; strings = c.strings S (text_strings j.typed p c.head c.body j.has_types.typed j.has_bounds) },
        head_is s f k c.head c.body is c.there c.named,
      )

  pub judged : (s : Setting) (f : Function) (k : ℕ) (h : HeadBounds) → IsFunction p s f → slice_get s.frame.heads k ≡ Some h
      → (called : Setting) × (callee : Function) × IsFunction p called callee × (h ≡ called.head)
      × (slice_get (functions_elaborated p) (number_of (name.Function k) p.tree.items) ≡ Some callee)
  judged s f k h is e =
      let g = known_head first_frame k p.tree.items h [] (omega arith) (sym (ap (λ hs. slice_get hs k) (heads_in s f is)) ∙ e) in
      let b = has_body k g.0 g.1.item g.1.there g.1.is g.1.named in
      let at = (find_function p (name.Function k) (count_declared p.tree.items) p.tree.items (is_defined k p.tree.items b.head b.body b.there b.named)) in
      let callee = function_elaborated p at.literals at.head at.body in
      let c = called s f callee k is at.at in
      (c.0, callee, c.1, same h c.0.head e c.2, at.at)
    where
      same : (x y : HeadBounds) → slice_get s.frame.heads k ≡ Some x → slice_get s.frame.heads k ≡ Some y → x ≡ y
      same x y u v = cc

pub callees_called : (p : Typed) (s : Setting) (f callee : Function) (k : ℕ) → IsJudged p → IsFunction p s f → slice_get (functions_elaborated p) (number_of (name.Function k) p.tree.items) ≡ Some callee
    → (called : Setting) × IsFunction p called callee × (slice_get s.frame.heads k ≡ Some called.head)
callees_called p s f callee k j is e = called p j s f callee k is e

pub callees_judged : (p : Typed) (s : Setting) (f : Function) (k : ℕ) (h : HeadBounds) → IsJudged p → IsFunction p s f → slice_get s.frame.heads k ≡ Some h
    → (called : Setting) × (callee : Function) × IsFunction p called callee × (h ≡ called.head)
    × (slice_get (functions_elaborated p) (number_of (name.Function k) p.tree.items) ≡ Some callee)
callees_judged p s f k h j is e = judged p j s f k h is e
