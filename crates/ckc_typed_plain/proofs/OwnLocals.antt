-- The locals of a function of a resolved text have the names that their numbers in the order of the text give.
use Rattle.std.proofs.Common.{◌≡◌, ℕ, suc, ◌+◌, sym, refl, subst, List, [], ◌∷◌, ◌++◌, length, length-append, map, arith}
use Rattle.std.specs.Prelude.{Ok, All, Option}
use Rattle.std.proofs.lemmas.List.Elements.{All-nil, All-cons}
use Rattle.ckc_syntax.specs.declared.tree.Name.{Name}
use Rattle.ckc_syntax.specs.declared.tree.Name.TheVariants as name
use Rattle.ckc_syntax.specs.declared.tree.NamedText.{NamedText}
use Rattle.ckc_syntax.specs.declared.tree.Act.{Act-F, map-Act, roll-Act, fold-roll-Act}
use Rattle.ckc_syntax.specs.declared.tree.Item.TheVariants as item
use Rattle.ckc_syntax.specs.declared.tree.Stmt.{fold-roll-Stmt}
use Rattle.ckc_syntax.specs.Inside.{listed, inside_each, inside_if}
use Rattle.ckc_syntax.proofs.Insides.{none_found}
use Rattle.ckc_resolve.specs.declared.names.Names.{Names}
use Rattle.ckc_resolve.specs.declared.scopes.Scopes.{Scopes}
use Rattle.ckc_resolve.specs.Spellings.{Spelling}
use Rattle.ckc_resolve.specs.Trees.{Tree, Item, Decl, Act, Stmt, NamedDecl, NamedExpr, NamedAct, NamedStmt, NamedItem}
use Rattle.ckc_resolve.specs.Scoping.{no_names, names_of, no_scope, with_local, is_taken_here, closed}
use Rattle.ckc_resolve.specs.Declarations.{local_named}
use Rattle.ckc_resolve.specs.Statements.{body_named}
use Rattle.ckc_resolve.specs.Phase.{text_named}
use Rattle.ckc_plain.specs.ckc_plain_barred.specs.Integers.{locals_of_stmt_parts, locals_of_stmt, locals_of_act}
use Rattle.ckc_base.proofs.Gives.{given_from}
use Rattle.ckc_typed_fit.proofs.NamedActs as acts
use Rattle.ckc_typed_fit.proofs.NamedActs.{ActOf, NamedActOf, StmtsNamed, ActNamed, BodyNamed}
use Rattle.ckc_typed_fit.proofs.NamedItems as items
use Rattle.ckc_typed_fit.proofs.NamedItems.{DeclNamed, Declared, ParamsNamed, ItemNamed, ItemsNamed, local_is, text_is}
use Rattle.ckc_typed_plain.proofs.FreshExprs.{rows}

-- the names are those of the locals with the numbers from one on
abbrev pub NamedFrom : ℕ → List NamedDecl → Type 0
NamedFrom k [] = Unit {0}
NamedFrom k (d ∷ ds) = (d.name ≡ name.Local k) × NamedFrom (k + 1) ds

-- the parameters and then the other locals of a function
abbrev pub declared_in : NamedItem → List NamedDecl
declared_in (item.Proto h) = h.params
declared_in (item.Function h body) = h.params ++ locals_of_stmt body
declared_in i = []

abbrev decls_inside : NamedActOf → Act-F Name (Unit {0}) (List NamedDecl) (List NamedDecl)
decls_inside = map-Act Name (Unit {0}) NamedAct NamedStmt (List NamedDecl) (List NamedDecl) locals_of_act locals_of_stmt

counts-append : (k : ℕ) (ds es : List NamedDecl) → NamedFrom k ds → NamedFrom (k + length ds) es → NamedFrom k (ds ++ es)
counts-append k [] es p q = let e : k + 0 ≡ k = omega arith in subst (λ n. NamedFrom n es) e q
counts-append k (d ∷ ds) es p q =
    let e : k + suc (length ds) ≡ k + 1 + length ds = omega arith in
    (p.0, counts-append (k + 1) ds es p.1 (subst (λ n. NamedFrom n es) e q))

-- the numbers go from one on, up to another one
pub record Counted (from : ℕ) (ds : List NamedDecl) (to : ℕ) : Type 0 where
  pub counts : NamedFrom from ds
  pub many : to ≡ from + length ds

nothing : (k : ℕ) → Counted k [] k
nothing k = record { counts = tt; many = omega arith }

both : (k l m : ℕ) (ds es : List NamedDecl) → Counted k ds l → Counted l es m → Counted k (ds ++ es) m
both k l m ds es p q =
    let e : length (ds ++ es) ≡ length ds + length es = length-append ds es in
    record {
      counts = counts-append k ds es p.counts (subst (λ n. NamedFrom n es) p.many q.counts);
      many = omega (arith, e, p.many, q.many);
    }

one_local : (k : ℕ) (d : NamedDecl) → d.name ≡ name.Local k → Counted k (d ∷ []) (k + 1)
one_local k d e = record { counts = (e, tt); many = refl }

module _ (names : Names) where
  abbrev ActCounted : Scopes → Act → NamedAct → Scopes → Type 0
  ActCounted before a b after = Counted before.next (locals_of_act b) after.next

  stmt_is : {k m : ℕ} (t : NamedStmt) → Counted k (locals_of_act t.body) m → Counted k (locals_of_stmt t) m
  stmt_is {k} {m} t h =
      subst (λ ds. Counted k ds m) (sym (fold-roll-Stmt Name (Unit {0}) (List NamedDecl) (List NamedDecl) rows locals_of_stmt_parts (record { body = t.body; pos = t.pos; note = tt }))) h

  stmts_are : (before : Scopes) (ss : List Stmt) (ts : List NamedStmt) (after : Scopes) → StmtsNamed ActCounted before ss ts after
      → Counted before.next (inside_each listed (λ (ds : List NamedDecl). ds) (map locals_of_stmt ts)) after.next
  stmts_are before ss ts after acts.none = nothing before.next
  stmts_are before ss ts after (acts.more {between = between} {t = t} {ts = rest} h hs) =
      both before.next between.next after.next (locals_of_stmt t) (inside_each listed (λ (ds : List NamedDecl). ds) (map locals_of_stmt rest)) (stmt_is t h) (stmts_are between _ rest after hs)

  two : {k l m : ℕ} {ds es : List NamedDecl} → Counted k ds l → Counted l es m → Counted k (ds ++ es) m
  two {k} {l} {m} {ds} {es} p q = both k l m ds es p q

  -- an expression that may be left out declares nothing
  silent : {k m : ℕ} (a : Option NamedExpr) (f : List NamedDecl → List NamedDecl) → Counted k (f []) m → Counted k (f (inside_if listed (λ (e : NamedExpr). []) a)) m
  silent {k} {m} a f h = subst (λ ds. Counted k (f ds) m) (sym (none_found listed a)) h

  in_loop : {begun between : ℕ} (before inner after : Scopes) (first body step : List NamedDecl) (a : Option NamedExpr) → after ≡ closed before inner → Counted before.next first begun → Counted begun body between → Counted between step inner.next
      → Counted before.next (first ++ (inside_if listed (λ (e : NamedExpr). []) a ++ (body ++ step))) after.next
  in_loop before inner after first body step a is p q r =
      silent a (λ ds. first ++ (ds ++ (body ++ step))) (subst (λ (z : Scopes). Counted before.next (first ++ (body ++ step)) z.next) (sym is) (two p (two q r)))

  act_parts : (before : Scopes) (x : ActOf) (d : NamedActOf) (after : Scopes) → ActNamed names ActCounted before x d after → Counted before.next (rows (decls_inside d)) after.next
  act_parts before x d after (acts.block {ts = ts} m hs is) = subst (λ (z : Scopes). Counted before.next (inside_each listed (λ (ds : List NamedDecl). ds) (map locals_of_stmt ts)) z.next) (sym is) (stmts_are _ _ ts _ hs)
  act_parts before x d after acts.empty = nothing before.next
  act_parts before x d after (acts.local c e is) =
      let h = given_from (Declared (DeclNamed names (with_local before c.name) before (name.Local before.next) c) (is_taken_here before c.name) (with_local before c.name)) (local_named names before c) (e, after) (local_is names before c) is in
      subst (λ (z : Scopes). Counted before.next (e ∷ []) z.next) (sym h.behind) (one_local before.next e h.declared.named)
  act_parts before x d after (acts.assign e f a b h i) = nothing before.next
  act_parts before x d after (acts.call e a h) = nothing before.next
  act_parts before x d after (acts.choice {t = t} e a h s acts.nothing) = two (stmt_is t s) (nothing after.next)
  act_parts before x d after (acts.choice {t = t} e a h s (acts.just {t = u} g)) = two (stmt_is t s) (stmt_is u g)
  act_parts before x d after (acts.while {t = t} e a h s) = stmt_is t s
  act_parts before x d after (acts.for {between = between} {t = t} e a acts.nothing h i acts.nothing is) =
      in_loop before between after [] (locals_of_stmt t) [] a is (nothing before.next) (stmt_is t i) (nothing between.next)
  act_parts before x d after (acts.for {inner = inner} {t = t} e a acts.nothing h i (acts.just {t = u} g) is) =
      in_loop before inner after [] (locals_of_stmt t) (locals_of_stmt u) a is (nothing before.next) (stmt_is t i) (stmt_is u g)
  act_parts before x d after (acts.for {between = between} {t = t} e a (acts.just {t = u} f) h i acts.nothing is) =
      in_loop before between after (locals_of_stmt u) (locals_of_stmt t) [] a is (stmt_is u f) (stmt_is t i) (nothing between.next)
  act_parts before x d after (acts.for {inner = inner} {t = t} e a (acts.just {t = u} f) h i (acts.just {t = v} g) is) =
      in_loop before inner after (locals_of_stmt u) (locals_of_stmt t) (locals_of_stmt v) a is (stmt_is u f) (stmt_is t i) (stmt_is v g)
  act_parts before x d after (acts.returns e a h) = silent a (λ ds. ds) (nothing before.next)
  act_parts before x d after acts.breaks = nothing before.next
  act_parts before x d after acts.continues = nothing before.next
  act_parts before x d after (acts.check e a h) = nothing before.next
  act_parts before x d after (acts.bundle {ts = ts} hs) = stmts_are _ _ ts _ hs

  closed_up : (k m : ℕ) (d : NamedActOf) → Counted k (rows (decls_inside d)) m → Counted k (locals_of_act (roll-Act Name (Unit {0}) d)) m
  closed_up k m d h = subst (λ ds. Counted k ds m) (sym (fold-roll-Act Name (Unit {0}) (List NamedDecl) (List NamedDecl) rows locals_of_stmt_parts d)) h

  acts_closed : (before : Scopes) (x : ActOf) (d : NamedActOf) (after : Scopes) → ActNamed names ActCounted before x d after → ActCounted before (roll-Act Spelling (Unit {0}) x) (roll-Act Name (Unit {0}) d) after
  acts_closed before x d after h = closed_up before.next after.next d (act_parts before x d after h)

  body_is : (before : Scopes) (a : Act) (b : NamedAct) (after : Scopes) → BodyNamed ActCounted before a b after → Counted before.next (locals_of_act b) after.next
  body_is before a b after (acts.outermost {ts = ts} m is js hs) =
      subst (λ (z : NamedAct). Counted before.next (locals_of_act z) after.next) js (closed_up before.next after.next (Act-F.Block m ts) (stmts_are _ _ ts _ hs))
  body_is before a b after (acts.other h) = h

  body_counted : (scopes : Scopes) (s : Stmt) (t : NamedStmt) (behind : Scopes) → body_named names s scopes ≡ Ok (t, behind) → Counted scopes.next (locals_of_stmt t) behind.next
  body_counted scopes s t behind is =
      stmt_is t (body_is scopes s.body t.body behind
      (given_from (λ (p : NamedStmt × Scopes). BodyNamed ActCounted scopes s.body p.0.body p.1) (body_named names s scopes) (t, behind) (acts.body_holds names ActCounted acts_closed s scopes) is))

  -- ---- heads and items

  params_counted : (all before : Scopes) (ds : List Decl) (es : List NamedDecl) (after : Scopes) → ParamsNamed names all before ds es after → Counted before.next es after.next
  params_counted all before ds es after items.no_params = nothing before.next
  params_counted all before ds es after (items.param {e = e} {es = rest} h new hs) =
      both before.next (before.next + 1) after.next (e ∷ []) rest (one_local before.next e h.named) (params_counted all _ _ rest after hs)

  abbrev IsNamedFrom : NamedItem → Type 0
  IsNamedFrom i = NamedFrom 0 (declared_in i)

  item_counted : (all : List Item) (before : Names) (i : Item) (j : NamedItem) → ItemNamed names all before i j → IsNamedFrom j
  item_counted all before i j (items.directive d) = tt
  item_counted all before i j (items.tag s pos) = tt
  item_counted all before i j (items.struct s pos hs) = tt
  item_counted all before i j (items.static h new) = tt
  item_counted all before i j (items.proto {g = g} is there) = (params_counted _ no_scope _ g.params _ is.params).counts
  item_counted all before i j (items.function {g = g} {s = s} {t = t} {after = after} {behind = behind} is new made) =
      (both 0 after.next behind.next g.params (locals_of_stmt t) (params_counted _ no_scope _ g.params after is.params) (body_counted after s t behind made)).counts

  items_counted : (all : List Item) (before : Names) (is : List Item) (js : List NamedItem) → ItemsNamed names all before is js → All IsNamedFrom js
  items_counted all before is js items.none = All-nil IsNamedFrom
  items_counted all before is js (items.more {j = j} {js = rest} h hs) = All-cons IsNamedFrom j rest (item_counted _ _ _ j h) (items_counted _ _ _ rest hs)

-- the locals of each function have the names of the numbers from 0 on
pub own_named : (tree : Tree) (n : NamedText) → text_named tree ≡ Ok n → All (λ i. NamedFrom 0 (declared_in i)) n.tree.items
own_named tree n e = items_counted (names_of tree) tree.items no_names tree.items n.tree.items (text_is tree n e).items
