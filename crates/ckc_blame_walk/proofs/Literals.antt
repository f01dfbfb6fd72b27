-- The static objects of the string literals of a statement are those of its parts, in their order.
use Rattle.std.proofs.Common.{◌≡◌, refl, sym, ap, subst, ◌∙◌, ℕ, ◌+◌, List, ◌++◌, map, length, append_assoc}
use Rattle.std.specs.Prelude.{Option, None, Some}
use Rattle.ckc_base.specs.declared.places.Pos.{Pos}
use Rattle.ckc_syntax.specs.Inside.{listed, inside_each, inside_if}
use Rattle.ckc_syntax.specs.declared.tree.Name.{Name}
use Rattle.ckc_syntax.specs.declared.tree.Act.{Act-F, roll-Act}
use Rattle.ckc_typed.specs.declared.typed.Note.{Note}
use Rattle.ckc_typed.specs.Statics.{Strings, strings_of_expr, strings_of_value, act_strings, strings_of_stmt}
use Rattle.ckc_typed.specs.Trees.{NotedAct, NotedExpr, NotedStmt}
use Rattle.ckc_blame_sound.specs.ckc_bounds_statements.specs.Paths.{stated}
use Rattle.ckc_build_values.specs.Expressions.{literals_of}
use Rattle.ckc_build_values.proofs.Counted.{expr_counted}
use Rattle.ckc_build_elaborate.specs.Literals.{literals_of_value}
use Rattle.ckc_build_elaborate.specs.Statements.{Part, literals_if, part_of}
use Rattle.ckc_build_elaborate.proofs.Counted as counted
use Rattle.ckc_blame_sound.specs.Settings.{Setting, AreStrings}
use Rattle.ckc_blame_sound.proofs.Strings.{strings_in_front, strings_after, strings_inside, strings_rolled}

abbrev Layer : Type 0
Layer = Act-F Name Note NotedAct NotedStmt

-- the part that a statement means that may be left out
abbrev pub part_if : Option NotedStmt → Option Part
part_if None = None
part_if (Some s) = Some (part_of s)

-- the string literals of a statement that may be left out, and of several statements
abbrev pub strings_if : Option NotedStmt → Strings
strings_if = inside_if listed strings_of_stmt

abbrev pub strings_each : List NotedStmt → Strings
strings_each ss = inside_each listed (λ (x : Strings). x) (map strings_of_stmt ss)

part_counted : (t : Option NotedStmt) → literals_if (part_if t) ≡ length (strings_if t)
part_counted None = refl
part_counted (Some t) = counted.stmt t

strings_made : (at : Pos) (note : Note) (x : Layer) (a : NotedAct) → roll-Act Name Note x ≡ a → strings_of_stmt (stated at note a) ≡ act_strings (strings_inside x)
strings_made at note x a rolls = ap (λ (b : NotedAct). strings_of_stmt (stated at note b)) (sym rolls) ∙ strings_rolled at note x

-- ---- one after another

module _ (s : Setting) where
  pub two_strings : (a b : Strings) (k n : ℕ) → n ≡ length a → AreStrings s k (a ++ b) → AreStrings s k a × AreStrings s (k + n) b
  two_strings a b k n is h = (strings_in_front s a b k h, strings_after s a b k n is h)

  three_strings : (a b c : Strings) (k n m : ℕ) → n ≡ length a → m ≡ length b → AreStrings s k ((a ++ b) ++ c) → AreStrings s k a × AreStrings s (k + n) b × AreStrings s (k + n + m) c
  three_strings a b c k n m first second h =
      let x = two_strings a (b ++ c) k n first (subst (AreStrings s k) (append_assoc a b c) h) in
      let y = two_strings b c (k + n) m second x.1 in
      (x.0, y.0, y.1)

  four_strings : (a b c d : Strings) (k n m j : ℕ) → n ≡ length a → m ≡ length b → j ≡ length c → AreStrings s k (((a ++ b) ++ c) ++ d)
      → AreStrings s k a × AreStrings s (k + n) b × AreStrings s (k + n + m) c × AreStrings s (k + n + m + j) d
  four_strings a b c d k n m j first second third h =
      let x = three_strings a b (c ++ d) k n m first second (subst (AreStrings s k) (append_assoc (a ++ b) c d) h) in
      let y = two_strings c d (k + n + m) j third x.2 in
      (x.0, x.1, y.0, y.1)

  -- ---- statements

  module _ (at : Pos) (note : Note) (a : NotedAct) where
    pub block_strings : (m : _) (ss : List NotedStmt) (k : ℕ) → roll-Act Name Note (Act-F.Block m ss) ≡ a → AreStrings s k (strings_of_stmt (stated at note a)) → AreStrings s k (strings_each ss)
    block_strings m ss k rolls h = subst (AreStrings s k) (strings_made at note (Act-F.Block m ss) a rolls) h

    pub if_strings : (e : NotedExpr) (u : NotedStmt) (t : Option NotedStmt) (k : ℕ) → roll-Act Name Note (Act-F.If e u t) ≡ a → AreStrings s k (strings_of_stmt (stated at note a))
        → AreStrings s k (strings_of_expr e) × AreStrings s (k + literals_of e) (strings_of_stmt u) × AreStrings s (k + literals_of e + (part_of u).literals) (strings_if t)
    if_strings e u t k rolls h =
        three_strings (strings_of_expr e) (strings_of_stmt u) (strings_if t) k (literals_of e) (part_of u).literals (expr_counted e) (counted.stmt u)
        (subst (AreStrings s k) (strings_made at note (Act-F.If e u t) a rolls ∙ by t) h)
      where
        by : (t : Option NotedStmt) → act_strings (strings_inside (Act-F.If e u t)) ≡ (strings_of_expr e ++ strings_of_stmt u) ++ strings_if t
        by None = refl
        by (Some t) = refl

    pub while_strings : (e : NotedExpr) (u : NotedStmt) (k : ℕ) → roll-Act Name Note (Act-F.While e u) ≡ a → AreStrings s k (strings_of_stmt (stated at note a))
        → AreStrings s k (strings_of_expr e) × AreStrings s (k + literals_of e) (strings_of_stmt u)
    while_strings e u k rolls h =
        two_strings (strings_of_expr e) (strings_of_stmt u) k (literals_of e) (expr_counted e) (subst (AreStrings s k) (strings_made at note (Act-F.While e u) a rolls) h)

    -- the condition, the step and the body come after what begins a `for`, in this order
    pub for_strings : (b : Option NotedStmt) (e : Option NotedExpr) (t : Option NotedStmt) (u : NotedStmt) (k : ℕ) → roll-Act Name Note (Act-F.For b e t u) ≡ a → AreStrings s k (strings_of_stmt (stated at note a))
        → AreStrings s k (strings_if b) × AreStrings s (k + literals_if (part_if b)) (strings_of_value e) × AreStrings s (k + literals_if (part_if b) + literals_of_value e) (strings_if t)
        × AreStrings s (k + literals_if (part_if b) + literals_of_value e + literals_if (part_if t)) (strings_of_stmt u)
    for_strings b e t u k rolls h =
        four_strings (strings_if b) (strings_of_value e) (strings_if t) (strings_of_stmt u) k (literals_if (part_if b)) (literals_of_value e) (literals_if (part_if t))
        (part_counted b) (counted.value e) (part_counted t)
        (subst (AreStrings s k) (strings_made at note (Act-F.For b e t u) a rolls ∙ by b t) h)
      where
        by : (b t : Option NotedStmt) → act_strings (strings_inside (Act-F.For b e t u)) ≡ ((strings_if b ++ strings_of_value e) ++ strings_if t) ++ strings_of_stmt u
        by None None = refl
        by None (Some t) = refl
        by (Some b) None = refl
        by (Some b) (Some t) = refl
