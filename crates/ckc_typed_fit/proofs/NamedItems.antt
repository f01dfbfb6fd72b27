-- What declarations, heads and items become, part by part.
use Rattle.std.proofs.Common.{◌≡◌, ℕ, sym, refl, subst, List, [], ◌∷◌, Bool, true, false, ◌||◌}
use Rattle.std.specs.Prelude.{Ok}
use Rattle.std.specs.List.{list_any}
use Rattle.ckc_base.specs.declared.places.Pos.{Pos}
use Rattle.ckc_base.specs.Outcomes.{Outcome, bind}
use Rattle.ckc_base.specs.Places.{start}
use Rattle.ckc_syntax.specs.declared.tokens.Directive.{Directive}
use Rattle.ckc_syntax.specs.declared.tree.Name.{Name}
use Rattle.ckc_syntax.specs.declared.tree.Name.TheVariants as name
use Rattle.ckc_syntax.specs.declared.tree.Item.TheVariants as item
use Rattle.ckc_syntax.specs.declared.tree.NamedText.{NamedText}
use Rattle.ckc_resolve.specs.declared.names.Names.{Names}
use Rattle.ckc_resolve.specs.declared.scopes.Scopes.{Scopes}
use Rattle.ckc_resolve.specs.Codes.{declared_twice, undefined, no_main}
use Rattle.ckc_resolve.specs.Spellings.{Spelling, is_among, with_spelling, number_of}
use Rattle.ckc_resolve.specs.Trees.{Tree, Item, Head, Decl, Stmt, NamedDecl, NamedHead, NamedStmt, NamedItem}
use Rattle.ckc_resolve.specs.Scoping.{noted, no_names, names_of, no_scope, with_local, is_taken_here, is_reserved}
use Rattle.ckc_resolve.specs.Types.{type_named}
use Rattle.ckc_resolve.specs.Expressions.{bounds_named}
use Rattle.ckc_resolve.specs.Declarations.{init_named, decl_named, local_named, unless_taken}
use Rattle.ckc_resolve.specs.Statements.{body_named}
use Rattle.ckc_resolve.specs.Heads.{name_of_member, member_scope, member_named, members_named, struct_named, param_scope, param_named, params_named, head_named}
use Rattle.ckc_resolve.specs.Items.{name_of_tag, first_head, is_same, if_defined, is_taken_static, is_taken_function, item_named, item_in_turn, items_named, all_named}
use Rattle.ckc_resolve.specs.Main.{is_main, name_of_main, main_named}
use Rattle.ckc_resolve.specs.Phase.{text_named}
use Rattle.ckc_base.proofs.Gives.{Gives, given_from, bound, where_true, where_unbroken, itself}
use Rattle.ckc_typed_fit.proofs.Spelt.{either_false}
use Rattle.ckc_typed_fit.proofs.Defined.{defines, some_defines}

-- ---- declarations

not_taken : {A : Type 0} (P : A → Type 0) (b : Bool) (pos : Pos) (a : A) → (b ≡ false → P a) → Gives P (unless_taken b pos a)
not_taken P b pos a h = where_unbroken P b declared_twice pos a h

pub record DeclNamed (names : Names) (within outside : Scopes) (n : Name) (d : Decl) (e : NamedDecl) : Type 0 where
  pub ctype : type_named names d.ctype ≡ Ok e.ctype
  pub bounds : bounds_named names within d.bounds ≡ Ok e.bounds
  pub init : init_named names outside d.init ≡ Ok e.init
  pub named : e.name ≡ n
  pub length : e.length ≡ d.length

pub decl_is : (names : Names) (within outside : Scopes) (n : Name) (d : Decl) → Gives (DeclNamed names within outside n d) (decl_named names within outside n d)
decl_is names within outside n d =
    bound (λ t. type_named names d.ctype ≡ Ok t) (DeclNamed names within outside n d) _ _ (itself (type_named names d.ctype)) (λ t a.
    bound (λ b. bounds_named names within d.bounds ≡ Ok b) (DeclNamed names within outside n d) _ _ (itself (bounds_named names within d.bounds)) (λ b c.
    bound (λ i. init_named names outside d.init ≡ Ok i) (DeclNamed names within outside n d) _ _ (itself (init_named names outside d.init)) (λ i e.
    record { ctype = a; bounds = c; init = e; named = refl; length = refl })))

-- a declaration that is not taken, with what is visible after it
pub record Declared {S : Type 0} (P : NamedDecl → Type 0) (taken : Bool) (left : S) (p : NamedDecl × S) : Type 0 where
  pub declared : P p.0
  pub new : taken ≡ false
  pub behind : p.1 ≡ left

declared_by : {S : Type 0} (P : NamedDecl → Type 0) (taken : Bool) (pos : Pos) (behind : S) (o : Outcome NamedDecl) → Gives P o
    → Gives (Declared P taken behind) (bind o (λ e. unless_taken taken pos (e, behind)))
declared_by {S} P taken pos behind o h =
    bound {B = NamedDecl × S} P (Declared P taken behind) o _ h (λ e is. not_taken (Declared P taken behind) taken pos (e, behind) (λ new. record { declared = is; new = new; behind = refl }))

pub local_is : (names : Names) (scopes : Scopes) (d : Decl)
    → Gives (Declared (DeclNamed names (with_local scopes d.name) scopes (name.Local scopes.next) d) (is_taken_here scopes d.name) (with_local scopes d.name)) (local_named names scopes d)
local_is names scopes d = declared_by _ (is_taken_here scopes d.name) d.pos (with_local scopes d.name) _ (decl_is names (with_local scopes d.name) scopes (name.Local scopes.next) d)

-- parameters, each of which sees all; those before make the scope before
pub data ParamsNamed (names : Names) (all : Scopes) : Scopes → List Decl → List NamedDecl → Scopes → Type 0 where
  no_params : {scopes : Scopes} → ParamsNamed names all scopes [] [] scopes
  param : {before after : Scopes} {d : Decl} {e : NamedDecl} {ds : List Decl} {es : List NamedDecl} →
      DeclNamed names all all (name.Local before.next) d e → is_taken_here before d.name ≡ false → ParamsNamed names all (with_local before d.name) ds es after
      → ParamsNamed names all before (d ∷ ds) (e ∷ es) after

pub data MembersNamed (names : Names) (all : Scopes) : List Spelling → List Decl → List NamedDecl → Type 0 where
  no_members : {before : List Spelling} → MembersNamed names all before [] []
  member : {before : List Spelling} {d : Decl} {e : NamedDecl} {ds : List Decl} {es : List NamedDecl} →
      DeclNamed names all all (name_of_member names d.name) d e → is_among before d.name ≡ false → MembersNamed names all (with_spelling before d.name) ds es
      → MembersNamed names all before (d ∷ ds) (e ∷ es)

module _ (names : Names) where
  abbrev ParamsAre : Scopes → Scopes → List Decl → List NamedDecl × Scopes → Type 0
  ParamsAre all before ds p = ParamsNamed names all before ds p.0 p.1

  params_are : (all : Scopes) (ds : List Decl) (before : Scopes) → Gives (ParamsAre all before ds) (params_named names all ds before)
  params_are all [] before = no_params
  params_are all (d ∷ ds) before =
      let One : NamedDecl × Scopes → Type 0 = Declared (DeclNamed names all all (name.Local before.next) d) (is_taken_here before d.name) (with_local before d.name) in
      bound {A = NamedDecl × Scopes} {B = List NamedDecl × Scopes} One (ParamsAre all before (d ∷ ds)) (param_named names all d before) _
      (declared_by (DeclNamed names all all (name.Local before.next) d) (is_taken_here before d.name) d.pos (with_local before d.name) _ (decl_is names all all (name.Local before.next) d)) (λ p h.
      bound {A = List NamedDecl × Scopes} {B = List NamedDecl × Scopes} (ParamsAre all (with_local before d.name) ds) (ParamsAre all before (d ∷ ds)) (params_named names all ds p.1) _
      (subst (λ (s : Scopes). Gives (ParamsAre all (with_local before d.name) ds) (params_named names all ds s)) (sym h.behind) (params_are all ds (with_local before d.name))) (λ q g.
      param h.declared h.new g))

  abbrev MembersAre : Scopes → List Spelling → List Decl → List NamedDecl × List Spelling → Type 0
  MembersAre all before ds p = MembersNamed names all before ds p.0

  members_are : (all : Scopes) (ds : List Decl) (before : List Spelling) → Gives (MembersAre all before ds) (members_named names all ds before)
  members_are all [] before = no_members
  members_are all (d ∷ ds) before =
      let One : NamedDecl × List Spelling → Type 0 = Declared (DeclNamed names all all (name_of_member names d.name) d) (is_among before d.name) (with_spelling before d.name) in
      bound {A = NamedDecl × List Spelling} {B = List NamedDecl × List Spelling} One (MembersAre all before (d ∷ ds)) (member_named names all d before) _
      (declared_by (DeclNamed names all all (name_of_member names d.name) d) (is_among before d.name) d.pos (with_spelling before d.name) _ (decl_is names all all (name_of_member names d.name) d)) (λ p h.
      bound {A = List NamedDecl × List Spelling} {B = List NamedDecl × List Spelling} (MembersAre all (with_spelling before d.name) ds) (MembersAre all before (d ∷ ds)) (members_named names all ds p.1) _
      (subst (λ (s : List Spelling). Gives (MembersAre all (with_spelling before d.name) ds) (members_named names all ds s)) (sym h.behind) (members_are all ds (with_spelling before d.name))) (λ q g.
      member h.declared h.new g))

  pub struct_is : (ds : List Decl) → Gives (MembersNamed names (member_scope names ds) [] ds) (struct_named names ds)
  struct_is ds =
      bound {A = List NamedDecl × List Spelling} {B = List NamedDecl} (MembersAre (member_scope names ds) [] ds) (MembersNamed names (member_scope names ds) [] ds) _ _ (members_are (member_scope names ds) ds []) (λ p h. h)

  -- ---- heads

  pub record HeadNamed (h : Head) (g : NamedHead) (after : Scopes) : Type 0 where
    pub result : type_named names h.result ≡ Ok g.result
    pub params : ParamsNamed names (param_scope h.params) no_scope h.params g.params after
    pub bounds : bounds_named names (param_scope h.params) h.bounds ≡ Ok g.bounds
    pub named : g.name ≡ name.Function (number_of names.functions h.name)
    pub mode : g.mode ≡ h.mode

  abbrev HeadIs : Head → NamedHead × Scopes → Type 0
  HeadIs h p = HeadNamed h p.0 p.1

  head_is : (h : Head) → Gives (HeadIs h) (head_named names h)
  head_is h =
      bound {B = NamedHead × Scopes} (λ t. type_named names h.result ≡ Ok t) (HeadIs h) _ _ (itself (type_named names h.result)) (λ t a.
      bound {A = List NamedDecl × Scopes} {B = NamedHead × Scopes} (ParamsAre (param_scope h.params) no_scope h.params) (HeadIs h) _ _ (params_are (param_scope h.params) h.params no_scope) (λ p ps.
      bound {B = NamedHead × Scopes} (λ b. bounds_named names (param_scope h.params) h.bounds ≡ Ok b) (HeadIs h) _ _ (itself (bounds_named names (param_scope h.params) h.bounds)) (λ b c.
      record { result = a; params = ps; bounds = c; named = refl; mode = refl })))

  -- ---- items

  -- an item among all, after those that declare the names before it
  pub data ItemNamed (all : List Item) (before : Names) : Item → NamedItem → Type 0 where
    directive : (d : Directive) → ItemNamed all before (item.Directive d) (item.Directive d)
    tag : (s : Spelling) (pos : Pos) → ItemNamed all before (item.Tag s pos) (item.Tag (name_of_tag names s) pos)
    struct : {ds : List Decl} {es : List NamedDecl} → (s : Spelling) (pos : Pos) → MembersNamed names (member_scope names ds) [] ds es
        → ItemNamed all before (item.Struct s ds pos) (item.Struct (name_of_tag names s) es pos)
    static : {d : Decl} {e : NamedDecl} → DeclNamed names no_scope no_scope (name.Static (number_of names.statics d.name)) d e → is_among before.statics d.name ≡ false
        → ItemNamed all before (item.Static d) (item.Static e)
    proto : {h : Head} {g : NamedHead} {after : Scopes} → HeadNamed h g after → list_any (defines h) all ≡ true → ItemNamed all before (item.Proto h) (item.Proto g)
    function : {h : Head} {g : NamedHead} {s : Stmt} {t : NamedStmt} {after behind : Scopes} →
        HeadNamed h g after → is_among before.defined h.name ≡ false → body_named names s after ≡ Ok (t, behind) → ItemNamed all before (item.Function h s) (item.Function g t)

  abbrev ItemIs : List Item → Names → Item → NamedItem → Type 0
  ItemIs all before i j = ItemNamed all before i j

  item_is : (all : List Item) (before : Names) (i : Item) → Gives (ItemIs all before i) (item_named names all before i)
  item_is all before (item.Directive d) = directive d
  item_is all before (item.Tag s pos) = tag s pos
  item_is all before (item.Struct s ds pos) =
      bound {A = List NamedDecl} {B = NamedItem} (MembersNamed names (member_scope names ds) [] ds) (ItemIs all before (item.Struct s ds pos)) _ _ (struct_is ds) (λ es h.
      not_taken (ItemIs all before (item.Struct s ds pos)) (is_among before.structs s) pos (item.Struct (name_of_tag names s) es pos) (λ new. struct s pos h))
  item_is all before (item.Static d) =
      bound {B = NamedItem} (DeclNamed names no_scope no_scope (name.Static (number_of names.statics d.name)) d) (ItemIs all before (item.Static d)) _ _ (decl_is names no_scope no_scope (name.Static (number_of names.statics d.name)) d) (λ e h.
      not_taken (ItemIs all before (item.Static d)) (is_taken_static before d.name) d.pos (item.Static e) (λ new.
      static h (either_false (is_among before.statics d.name) (is_among before.functions d.name) (either_false (is_reserved d.name) (is_among before.statics d.name || is_among before.functions d.name) new).1).0))
  item_is all before (item.Proto h) =
      bound {A = NamedHead × Scopes} {B = NamedItem} (HeadIs h) (ItemIs all before (item.Proto h)) _ _ (head_is h) (λ p g.
      bound {A = NamedHead} {B = NamedItem} (λ k. HeadNamed h k p.1) (ItemIs all before (item.Proto h)) (unless_taken (is_taken_function before h.name) h.pos p.0) (λ k. if_defined all h (item.Proto k))
      (not_taken (λ (k : NamedHead). HeadNamed h k p.1) (is_taken_function before h.name) h.pos p.0 (λ new. g)) (λ k f.
      where_true (ItemIs all before (item.Proto h)) (is_same h (first_head h.name all)) undefined h.pos (item.Proto k) (λ there. proto f (some_defines h h.name all there))))
  item_is all before (item.Function h s) =
      let Head : NamedHead → Scopes → Type 0 = λ k after. HeadNamed h k after × (is_among before.defined h.name ≡ false) in
      bound {A = NamedHead × Scopes} {B = NamedItem} (HeadIs h) (ItemIs all before (item.Function h s)) _ _ (head_is h) (λ p g.
      bound {A = NamedHead} {B = NamedItem} (λ k. Head k p.1) (ItemIs all before (item.Function h s)) _ _
      (not_taken (λ (k : NamedHead). Head k p.1) (is_taken_function before h.name || is_among before.defined h.name) h.pos p.0 (λ new. (g, (either_false (is_taken_function before h.name) (is_among before.defined h.name) new).1))) (λ k f.
      bound {A = NamedStmt × Scopes} {B = NamedItem} (λ b. body_named names s p.1 ≡ Ok b) (ItemIs all before (item.Function h s)) _ _ (itself (body_named names s p.1)) (λ b made. function f.0 f.1 made)))

  -- items in the order of the text, each with the names of those before it
  pub data ItemsNamed (all : List Item) : Names → List Item → List NamedItem → Type 0 where
    none : {before : Names} → ItemsNamed all before [] []
    more : {before : Names} {i : Item} {j : NamedItem} {is : List Item} {js : List NamedItem} →
        ItemNamed all before i j → ItemsNamed all (noted before i) is js → ItemsNamed all before (i ∷ is) (j ∷ js)

  items_are : (all is : List Item) (before : Names) → Gives (λ (p : List NamedItem × Names). ItemsNamed all before is p.0) (items_named names all is before)
  items_are all [] before = none
  items_are all (i ∷ is) before =
      let Rest : Names → List NamedItem × Names → Type 0 = λ names p. ItemsNamed all names is p.0 in
      bound {A = NamedItem × Names} {B = List NamedItem × Names} (λ p. ItemIs all before i p.0 × (p.1 ≡ noted before i)) (λ p. ItemsNamed all before (i ∷ is) p.0) (item_in_turn names all i before) (λ p. bind (items_named names all is p.1) (λ q. Ok (p.0 ∷ q.0, q.1)))
      (bound {A = NamedItem} {B = NamedItem × Names} (ItemIs all before i) (λ p. ItemIs all before i p.0 × (p.1 ≡ noted before i)) (item_named names all before i) (λ j. Ok (j, noted before i)) (item_is all before i) (λ j h. (h, refl))) (λ p h.
      bound {A = List NamedItem × Names} {B = List NamedItem × Names} (Rest (noted before i)) (λ q. ItemsNamed all before (i ∷ is) q.0) (items_named names all is p.1) (λ q. Ok (p.0 ∷ q.0, q.1))
      (subst (λ (n : Names). Gives (Rest (noted before i)) (items_named names all is n)) (sym h.1) (items_are all is (noted before i)))
      (λ q g. more h.0 g))

-- ---- texts

pub record TextNamed (tree : Tree) (n : NamedText) : Type 0 where
  pub items : ItemsNamed (names_of tree) tree.items no_names tree.items n.tree.items
  pub declared : list_any is_main tree.items ≡ true
  pub main : n.main ≡ number_of (names_of tree).functions name_of_main

pub text_is : (tree : Tree) (n : NamedText) → text_named tree ≡ Ok n → TextNamed tree n
text_is tree n e =
    let names = names_of tree in
    let Items : List NamedItem → Type 0 = λ items. ItemsNamed names tree.items no_names tree.items items in
    let items : Gives Items (all_named names tree.items) =
    bound {A = List NamedItem × Names} {B = List NamedItem} (λ p. Items p.0) Items (items_named names tree.items tree.items no_names) (λ p. Ok p.0)
    (items_are names tree.items tree.items no_names) (λ p h. h) in
    let Main : ℕ → Type 0 = λ m. (list_any is_main tree.items ≡ true) × (m ≡ number_of names.functions name_of_main) in
    let main : Gives Main (main_named names tree.items) =
    where_true Main (list_any is_main tree.items) no_main start (number_of names.functions name_of_main) (λ there. (there, refl)) in
    given_from (TextNamed tree) (text_named tree) n
    (bound {A = List NamedItem} {B = NamedText} Items (TextNamed tree) (all_named names tree.items) _ items (λ js h.
    bound {A = ℕ} {B = NamedText} Main (TextNamed tree) (main_named names tree.items) _ main (λ m g. record { items = h; declared = g.0; main = g.1 }))) e
