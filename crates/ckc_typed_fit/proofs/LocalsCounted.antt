-- The locals of a function are numbered in the order of the text.
use Rattle.std.proofs.Common.{◌≡◌, ℕ, suc, ◌+◌, sym, refl, subst, List, [], ◌∷◌, ◌++◌, length, length-append, map, arith}
use Rattle.std.specs.Prelude.{Ok, All, Option}
use Rattle.std.specs.List.{flat_map}
use Rattle.std.proofs.lemmas.List.Elements.{All-nil, All-cons, All-head, All-tail}
use Rattle.std.proofs.lemmas.List.Sorted.{IsPermutation-refl}
use Rattle.ckc_syntax.specs.declared.tree.Name.{Name}
use Rattle.ckc_syntax.specs.declared.tree.Name.TheVariants as name
use Rattle.ckc_syntax.specs.declared.tree.Item.TheVariants as item
use Rattle.ckc_syntax.specs.declared.tree.NamedText.{NamedText}
use Rattle.ckc_syntax.specs.declared.tree.Act.{Act-F, map-Act, roll-Act, fold-Act, fold-roll-Act}
use Rattle.ckc_syntax.specs.declared.tree.Stmt.{fold-roll-Stmt}
use Rattle.ckc_syntax.specs.Inside.{listed, inside_if}
use Rattle.ckc_syntax.proofs.Insides.{none_found}
use Rattle.ckc_resolve.specs.declared.names.Names.{Names}
use Rattle.ckc_resolve.specs.declared.scopes.Scopes.{Scopes}
use Rattle.ckc_resolve.specs.Spellings.{Spelling}
use Rattle.ckc_resolve.specs.Trees.{Tree, Item, Decl, Act, Stmt, NamedDecl, NamedExpr, NamedAct, NamedStmt, NamedItem}
use Rattle.ckc_resolve.specs.Scoping.{no_names, names_of, no_scope, with_local, is_taken_here, closed}
use Rattle.ckc_resolve.specs.Declarations.{local_named}
use Rattle.ckc_resolve.specs.Statements.{body_named}
use Rattle.ckc_resolve.specs.Phase.{text_named}
use Rattle.ckc_typed_fit.specs.Numbers.{CountsFrom, AreNumbered}
use Rattle.ckc_typed_fit.specs.Locals.{local_in, decl_local, act_locals, locals_in, stmt_locals, head_locals, item_params, item_locals}
use Rattle.ckc_base.proofs.Gives.{given_from}
use Rattle.ckc_typed_fit.proofs.NamedActs as acts
use Rattle.ckc_typed_fit.proofs.NamedActs.{ActOf, NamedActOf, StmtsNamed, ActNamed, BodyNamed}
use Rattle.ckc_typed_fit.proofs.NamedItems as items
use Rattle.ckc_typed_fit.proofs.NamedItems.{DeclNamed, Declared, ParamsNamed, ItemNamed, ItemsNamed, local_is, text_is}

abbrev locals_of : NamedAct → List ℕ
locals_of = fold-Act Name (Unit {0}) (List ℕ) (List ℕ) act_locals locals_in

abbrev locals_inside : NamedActOf → Act-F Name (Unit {0}) (List ℕ) (List ℕ)
locals_inside = map-Act Name (Unit {0}) NamedAct NamedStmt (List ℕ) (List ℕ) locals_of stmt_locals

counts-append : (k : ℕ) (ns ms : List ℕ) → CountsFrom k ns → CountsFrom (k + length ns) ms → CountsFrom k (ns ++ ms)
counts-append k [] ms p q = let e : k + 0 ≡ k = omega arith in subst (λ n. CountsFrom n ms) e q
counts-append k (n ∷ ns) ms p q =
    let e : k + suc (length ns) ≡ k + 1 + length ns = omega arith in
    (p.0, counts-append (k + 1) ns ms p.1 (subst (λ n. CountsFrom n ms) e q))

-- the numbers go from one on, up to another one
pub record Counted (from : ℕ) (ns : List ℕ) (to : ℕ) : Type 0 where
  pub counts : CountsFrom from ns
  pub many : to ≡ from + length ns

nothing : (k : ℕ) → Counted k [] k
nothing k = record { counts = tt; many = omega arith }

both : (k l m : ℕ) (ns ms : List ℕ) → Counted k ns l → Counted l ms m → Counted k (ns ++ ms) m
both k l m ns ms p q =
    let e : length (ns ++ ms) ≡ length ns + length ms = length-append ns ms in
    record {
      counts = counts-append k ns ms p.counts (subst (λ n. CountsFrom n ms) p.many q.counts);
      many = omega (arith, e, p.many, q.many);
    }

one_local : (k : ℕ) (d : NamedDecl) → d.name ≡ name.Local k → Counted k (decl_local d) (k + 1)
one_local k d e = subst (λ n. Counted k (local_in n) (k + 1)) (sym e) (record { counts = (refl, tt); many = refl })

module _ (names : Names) where
  abbrev ActCounted : Scopes → Act → NamedAct → Scopes → Type 0
  ActCounted before a b after = Counted before.next (locals_of b) after.next

  stmt_is : {k m : ℕ} (t : NamedStmt) → Counted k (locals_of t.body) m → Counted k (stmt_locals t) m
  stmt_is {k} {m} t h =
      subst (λ ns. Counted k ns m) (sym (fold-roll-Stmt Name (Unit {0}) (List ℕ) (List ℕ) act_locals locals_in (record { body = t.body; pos = t.pos; note = tt }))) h

  stmts_are : (before : Scopes) (ss : List Stmt) (ts : List NamedStmt) (after : Scopes) → StmtsNamed ActCounted before ss ts after
      → Counted before.next (flat_map (λ s. s) (map stmt_locals ts)) after.next
  stmts_are before ss ts after acts.none = nothing before.next
  stmts_are before ss ts after (acts.more {between = between} {t = t} {ts = rest} h hs) =
      both before.next between.next after.next (stmt_locals t) (flat_map (λ s. s) (map stmt_locals rest)) (stmt_is t h) (stmts_are between _ rest after hs)

  two : {k l m : ℕ} {ns ms : List ℕ} → Counted k ns l → Counted l ms m → Counted k (ns ++ ms) m
  two {k} {l} {m} {ns} {ms} p q = both k l m ns ms p q

  -- an expression that may be left out declares nothing
  silent : {k m : ℕ} (a : Option NamedExpr) (f : List ℕ → List ℕ) → Counted k (f []) m → Counted k (f (inside_if listed (λ (e : NamedExpr). []) a)) m
  silent {k} {m} a f h = subst (λ ns. Counted k (f ns) m) (sym (none_found listed a)) h

  in_loop : {begun between : ℕ} (before inner after : Scopes) (first body step : List ℕ) (a : Option NamedExpr) → after ≡ closed before inner → Counted before.next first begun → Counted begun body between → Counted between step inner.next
      → Counted before.next (first ++ (inside_if listed (λ (e : NamedExpr). []) a ++ (body ++ step))) after.next
  in_loop before inner after first body step a is p q r =
      silent a (λ ns. first ++ (ns ++ (body ++ step))) (subst (λ (z : Scopes). Counted before.next (first ++ (body ++ step)) z.next) (sym is) (two p (two q r)))

  act_parts : (before : Scopes) (x : ActOf) (d : NamedActOf) (after : Scopes) → ActNamed names ActCounted before x d after → Counted before.next (act_locals (locals_inside d)) after.next
  act_parts before x d after (acts.block {ts = ts} m hs is) = subst (λ (z : Scopes). Counted before.next (flat_map (λ s. s) (map stmt_locals ts)) z.next) (sym is) (stmts_are _ _ ts _ hs)
  act_parts before x d after acts.empty = nothing before.next
  act_parts before x d after (acts.local c e is) =
      let h = given_from (Declared (DeclNamed names (with_local before c.name) before (name.Local before.next) c) (is_taken_here before c.name) (with_local before c.name)) (local_named names before c) (e, after) (local_is names before c) is in
      subst (λ (z : Scopes). Counted before.next (decl_local e) z.next) (sym h.behind) (one_local before.next e h.declared.named)
  act_parts before x d after (acts.assign e f a b h i) = nothing before.next
  act_parts before x d after (acts.call e a h) = nothing before.next
  act_parts before x d after (acts.choice {t = t} e a h s acts.nothing) = two (stmt_is t s) (nothing after.next)
  act_parts before x d after (acts.choice {t = t} e a h s (acts.just {t = u} g)) = two (stmt_is t s) (stmt_is u g)
  act_parts before x d after (acts.while {t = t} e a h s) = stmt_is t s
  act_parts before x d after (acts.for {between = between} {t = t} e a acts.nothing h i acts.nothing is) =
      in_loop before between after [] (stmt_locals t) [] a is (nothing before.next) (stmt_is t i) (nothing between.next)
  act_parts before x d after (acts.for {inner = inner} {t = t} e a acts.nothing h i (acts.just {t = u} g) is) =
      in_loop before inner after [] (stmt_locals t) (stmt_locals u) a is (nothing before.next) (stmt_is t i) (stmt_is u g)
  act_parts before x d after (acts.for {between = between} {t = t} e a (acts.just {t = u} f) h i acts.nothing is) =
      in_loop before between after (stmt_locals u) (stmt_locals t) [] a is (stmt_is u f) (stmt_is t i) (nothing between.next)
  act_parts before x d after (acts.for {inner = inner} {t = t} e a (acts.just {t = u} f) h i (acts.just {t = v} g) is) =
      in_loop before inner after (stmt_locals u) (stmt_locals t) (stmt_locals v) a is (stmt_is u f) (stmt_is t i) (stmt_is v g)
  act_parts before x d after (acts.returns e a h) = silent a (λ ns. ns) (nothing before.next)
  act_parts before x d after acts.breaks = nothing before.next
  act_parts before x d after acts.continues = nothing before.next
  act_parts before x d after (acts.check e a h) = nothing before.next
  act_parts before x d after (acts.bundle {ts = ts} hs) = stmts_are _ _ ts _ hs

  closed_up : (k m : ℕ) (d : NamedActOf) → Counted k (act_locals (locals_inside d)) m → Counted k (locals_of (roll-Act Name (Unit {0}) d)) m
  closed_up k m d h = subst (λ ns. Counted k ns m) (sym (fold-roll-Act Name (Unit {0}) (List ℕ) (List ℕ) act_locals locals_in d)) h

  acts_closed : (before : Scopes) (x : ActOf) (d : NamedActOf) (after : Scopes) → ActNamed names ActCounted before x d after → ActCounted before (roll-Act Spelling (Unit {0}) x) (roll-Act Name (Unit {0}) d) after
  acts_closed before x d after h = closed_up before.next after.next d (act_parts before x d after h)

  body_is : (before : Scopes) (a : Act) (b : NamedAct) (after : Scopes) → BodyNamed ActCounted before a b after → Counted before.next (locals_of b) after.next
  body_is before a b after (acts.outermost {ts = ts} m is js hs) =
      subst (λ (z : NamedAct). Counted before.next (locals_of z) after.next) js (closed_up before.next after.next (Act-F.Block m ts) (stmts_are _ _ ts _ hs))
  body_is before a b after (acts.other h) = h

  body_counted : (scopes : Scopes) (s : Stmt) (t : NamedStmt) (behind : Scopes) → body_named names s scopes ≡ Ok (t, behind) → Counted scopes.next (stmt_locals t) behind.next
  body_counted scopes s t behind is =
      stmt_is t (body_is scopes s.body t.body behind
      (given_from (λ (p : NamedStmt × Scopes). BodyNamed ActCounted scopes s.body p.0.body p.1) (body_named names s scopes) (t, behind) (acts.body_holds names ActCounted acts_closed s scopes) is))

  -- ---- heads and items

  params_counted : (all before : Scopes) (ds : List Decl) (es : List NamedDecl) (after : Scopes) → ParamsNamed names all before ds es after → Counted before.next (flat_map decl_local es) after.next
  params_counted all before ds es after items.no_params = nothing before.next
  params_counted all before ds es after (items.param {e = e} {es = rest} h new hs) =
      both before.next (before.next + 1) after.next (decl_local e) (flat_map decl_local rest) (one_local before.next e h.named) (params_counted all _ _ rest after hs)

  abbrev IsCounted : NamedItem → Type 0
  IsCounted i = CountsFrom 0 (item_locals i)

  item_counted : (all : List Item) (before : Names) (i : Item) (j : NamedItem) → ItemNamed names all before i j → IsCounted j
  item_counted all before i j (items.directive d) = tt
  item_counted all before i j (items.tag s pos) = tt
  item_counted all before i j (items.struct s pos hs) = tt
  item_counted all before i j (items.static h new) = tt
  item_counted all before i j (items.proto {g = g} is there) = (params_counted _ no_scope _ g.params _ is.params).counts
  item_counted all before i j (items.function {g = g} {s = s} {t = t} {after = after} {behind = behind} is new made) =
      (both 0 after.next behind.next (head_locals g) (stmt_locals t) (params_counted _ no_scope _ g.params after is.params) (body_counted after s t behind made)).counts

  items_counted : (all : List Item) (before : Names) (is : List Item) (js : List NamedItem) → ItemsNamed names all before is js → All IsCounted js
  items_counted all before is js items.none = All-nil IsCounted
  items_counted all before is js (items.more {j = j} {js = rest} h hs) = All-cons IsCounted j rest (item_counted _ _ _ j h) (items_counted _ _ _ rest hs)

-- the locals of each function have the numbers from 0 on
pub locals_count : (tree : Tree) (n : NamedText) → text_named tree ≡ Ok n → All (λ i. CountsFrom 0 (item_locals i)) n.tree.items
locals_count tree n e = items_counted (names_of tree) tree.items no_names tree.items n.tree.items (text_is tree n e).items

-- so each has its own number, and the parameters have the first ones
front_counts : (k : ℕ) (ns ms : List ℕ) → CountsFrom k (ns ++ ms) → CountsFrom k ns
front_counts k [] ms h = tt
front_counts k (n ∷ ns) ms h = (h.0, front_counts (k + 1) ns ms h.1)

item_numbered : (i : NamedItem) → CountsFrom 0 (item_locals i) → CountsFrom 0 (item_params i) × AreNumbered (item_locals i)
item_numbered i h = (params i h, (item_locals i, h, IsPermutation-refl (item_locals i)))
  where
    params : (i : NamedItem) → CountsFrom 0 (item_locals i) → CountsFrom 0 (item_params i)
    params (item.Directive d) h = tt
    params (item.Tag n at) h = tt
    params (item.Struct n ms at) h = tt
    params (item.Static d) h = tt
    params (item.Proto g) h = h
    params (item.Function g body) h = front_counts 0 (head_locals g) (stmt_locals body) h

pub params_first : (is : List NamedItem) → All (λ i. CountsFrom 0 (item_locals i)) is → All (λ i. CountsFrom 0 (item_params i)) is
params_first [] h = All-nil (λ i. CountsFrom 0 (item_params i))
params_first (i ∷ is) h = All-cons (λ i. CountsFrom 0 (item_params i)) i is (item_numbered i (All-head (λ i. CountsFrom 0 (item_locals i)) i is h)).0 (params_first is (All-tail (λ i. CountsFrom 0 (item_locals i)) i is h))

pub each_numbered : (is : List NamedItem) → All (λ i. CountsFrom 0 (item_locals i)) is → All (λ i. AreNumbered (item_locals i)) is
each_numbered [] h = All-nil (λ i. AreNumbered (item_locals i))
each_numbered (i ∷ is) h = All-cons (λ i. AreNumbered (item_locals i)) i is (item_numbered i (All-head (λ i. CountsFrom 0 (item_locals i)) i is h)).1 (each_numbered is (All-tail (λ i. CountsFrom 0 (item_locals i)) i is h))
