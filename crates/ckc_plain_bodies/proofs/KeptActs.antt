-- What each form of statement becomes, by what its parts become.
use Rattle.std.proofs.Common.{◌≡◌, refl, sym, ap, ◌∙◌}
use Rattle.std.specs.Prelude.{ℕ, List, Option, Some, None}
use Rattle.ckc_base.specs.declared.arithmetic.Mode.{Mode}
use Rattle.ckc_syntax.specs.declared.tree.Act.{Act-F}
use Rattle.ckc_syntax.specs.declared.tree.Act.TheVariants as act
use Rattle.ckc_syntax.specs.Trees.{NamedDecl, NamedExpr, NamedStmt, NamedAct}
use Rattle.ckc_plain_barred.specs.declared.integers.Integers.{Integers}
use Rattle.ckc_plain_bodies.specs.declared.pending.Pending.{Pending}
use Rattle.ckc_plain_bodies.specs.Taken.{stmt_at, after, none_pending}
use Rattle.ckc_plain_bodies.specs.Expressions.{expr_plain, whole_plain, maybe_plain}
use Rattle.ckc_plain_bodies.specs.Statements.{alone, joined, loop_condition, loop_body, for_condition, for_body, with_next, act_plain, stmt_plain, block_plain}
use Rattle.ckc_plain_bodies.specs.code.Statements.{local_act, assign_act, part_plain, part_made, for_after}
use Rattle.ckc_plain_bodies.proofs.Kept.{act_by, stmt_by}

-- a part that the code reads at a value equal to it, and what is made of it
part_of : {X A S B : Type 0} (g : X → A × S) (f : A → S → B) (whole : B) (x y : X) (a : A) (t : S) → whole ≡ after (g x) f → y ≡ x → g y ≡ (a, t) → whole ≡ f a t
part_of g f whole x y a t w e m = w ∙ ap (λ z. after (g z) f) (sym e) ∙ ap (λ z. after z f) m

module _ (known : Integers) (a : NamedAct) (p : Pending) where
  pub block_made : (m : Option Mode) (ss : List NamedStmt) → a ≡ act.Block m ss → act_plain known a p ≡ after (block_plain known ss p.next) (λ all n. (act.Block m all, with_next p n))
  block_made m ss is = act_by known a p (Act-F.Block m ss) (is ∙ sym (act.rolls-Block m ss))

  pub empty_made : a ≡ act.Empty → act_plain known a p ≡ (act.Empty, p)
  empty_made is = act_by known a p Act-F.Empty (is ∙ sym act.rolls-Empty)

  pub local_made : (d : NamedDecl) → a ≡ act.Local d → act_plain known a p ≡ local_act known d p
  local_made d is = act_by known a p (Act-F.Local d) (is ∙ sym (act.rolls-Local d))

  pub assign_made : (x : NamedExpr) (e : NamedExpr) → a ≡ act.Assign x e → act_plain known a p ≡ assign_act known x e p
  assign_made x e is = act_by known a p (Act-F.Assign x e) (is ∙ sym (act.rolls-Assign x e))

  pub call_made : (e : NamedExpr) → a ≡ act.Call e → act_plain known a p ≡ after (whole_plain known e p) (λ b q. (act.Call b, q))
  call_made e is = act_by known a p (Act-F.Call e) (is ∙ sym (act.rolls-Call e))

  pub while_made : (e : NamedExpr) (s : NamedStmt) → a ≡ act.While e s → act_plain known a p ≡ after (expr_plain known e (none_pending p.next)) (λ c q. after (alone (stmt_plain known s) q.next) (λ t n. (act.While (loop_condition q.stmts c) (loop_body q.stmts c t), with_next p n)))
  while_made e s is = act_by known a p (Act-F.While e s) (is ∙ sym (act.rolls-While e s))

  pub return_made : (e : Option NamedExpr) → a ≡ act.Return e → act_plain known a p ≡ after (maybe_plain known e p) (λ b q. (act.Return b, q))
  return_made e is = act_by known a p (Act-F.Return e) (is ∙ sym (act.rolls-Return e))

  pub break_made : a ≡ act.Break → act_plain known a p ≡ (act.Break, p)
  break_made is = act_by known a p Act-F.Break (is ∙ sym act.rolls-Break)

  pub continue_made : a ≡ act.Continue → act_plain known a p ≡ (act.Continue, p)
  continue_made is = act_by known a p Act-F.Continue (is ∙ sym act.rolls-Continue)

  pub check_made : (e : NamedExpr) → a ≡ act.Check e → act_plain known a p ≡ after (expr_plain known e p) (λ b q. (act.Check b, q))
  check_made e is = act_by known a p (Act-F.Check e) (is ∙ sym (act.rolls-Check e))

  pub bundle_made : (ss : List NamedStmt) → a ≡ act.Bundle ss → act_plain known a p ≡ after (block_plain known ss p.next) (λ all n. (act.Bundle all, with_next p n))
  bundle_made ss is = act_by known a p (Act-F.Bundle ss) (is ∙ sym (act.rolls-Bundle ss))

  pub if_made : (e : NamedExpr) (s : NamedStmt) (t : Option NamedStmt) → a ≡ act.If e s t → act_plain known a p
      ≡ after (expr_plain known e p) (λ c q. after (alone (stmt_plain known s) q.next) (λ u n. after (part_plain known t n) (λ v m. (act.If c u v, with_next q m))))
  if_made e s None is = act_by known a p (Act-F.If e s None) (is ∙ sym (act.rolls-If e s None))
  if_made e s (Some t) is = act_by known a p (Act-F.If e s (Some t)) (is ∙ sym (act.rolls-If e s (Some t)))

  pub for_made : (f : Option NamedStmt) (e : Option NamedExpr) (t : Option NamedStmt) (b : NamedStmt) → a ≡ act.For f e t b → act_plain known a p
      ≡ after (part_made known f p) (λ g q. after (for_after known g e t b q.next) (λ c n. (c, with_next q n)))
  for_made None e None b is = act_by known a p (Act-F.For None e None b) (is ∙ sym (act.rolls-For None e None b))
  for_made None e (Some t) b is = act_by known a p (Act-F.For None e (Some t) b) (is ∙ sym (act.rolls-For None e (Some t) b))
  for_made (Some f) e None b is = act_by known a p (Act-F.For (Some f) e None b) (is ∙ sym (act.rolls-For (Some f) e None b))
  for_made (Some f) e (Some t) b is = act_by known a p (Act-F.For (Some f) e (Some t) b) (is ∙ sym (act.rolls-For (Some f) e (Some t) b))

  pub for_steps : (f : Option NamedStmt) (e : Option NamedExpr) (t : Option NamedStmt) (b : NamedStmt) → a ≡ act.For f e t b
      → (g : Option NamedStmt) (q : Pending) (c : Option NamedExpr) (r : Pending) (s : NamedStmt) (m : ℕ) (u : Option NamedStmt) (k : ℕ)
      → part_made known f p ≡ (g, q) → maybe_plain known e (none_pending q.next) ≡ (c, r) → alone (stmt_plain known b) r.next ≡ (s, m) → part_plain known t m ≡ (u, k)
      → act_plain known a p ≡ (act.For g (for_condition r.stmts c) u (for_body r.stmts c s), with_next q k)
  for_steps f e t b is g q c r s m u k one two three four =
      for_made f e t b is
      ∙ ap (λ (z : Option NamedStmt × Pending). after z (λ h o. after (for_after known h e t b o.next) (λ d n. (d, with_next o n)))) one
      ∙ ap (λ (z : Option NamedExpr × Pending). after (after z (λ d o. after (alone (stmt_plain known b) o.next) (λ v n. after (part_plain known t n) (λ w l. (act.For g (for_condition o.stmts d) w (for_body o.stmts d v), l))))) (λ d n. (d, with_next q n))) two
      ∙ ap (λ (z : NamedStmt × ℕ). after (after z (λ v n. after (part_plain known t n) (λ w l. (act.For g (for_condition r.stmts c) w (for_body r.stmts c v), l)))) (λ d n. (d, with_next q n))) three
      ∙ ap (λ (z : Option NamedStmt × ℕ). after (after z (λ w l. (act.For g (for_condition r.stmts c) w (for_body r.stmts c s), l))) (λ d n. (d, with_next q n))) four

  pub block_steps : (m : Option Mode) (ss us : List NamedStmt) (all : List NamedStmt) (n : ℕ) → a ≡ act.Block m ss → us ≡ ss → block_plain known us p.next ≡ (all, n) → act_plain known a p ≡ (act.Block m all, with_next p n)
  block_steps m ss us all n is e made = part_of (λ z. block_plain known z p.next) (λ o k. (act.Block m o, with_next p k)) (act_plain known a p) ss us all n (block_made m ss is) e made

  pub bundle_steps : (ss us : List NamedStmt) (all : List NamedStmt) (n : ℕ) → a ≡ act.Bundle ss → us ≡ ss → block_plain known us p.next ≡ (all, n) → act_plain known a p ≡ (act.Bundle all, with_next p n)
  bundle_steps ss us all n is e made = part_of (λ z. block_plain known z p.next) (λ o k. (act.Bundle o, with_next p k)) (act_plain known a p) ss us all n (bundle_made ss is) e made

  pub call_steps : (e f b : NamedExpr) (q : Pending) → a ≡ act.Call e → f ≡ e → whole_plain known f p ≡ (b, q) → act_plain known a p ≡ (act.Call b, q)
  call_steps e f b q is same made = part_of (λ z. whole_plain known z p) (λ c r. (act.Call c, r)) (act_plain known a p) e f b q (call_made e is) same made

  pub check_steps : (e f b : NamedExpr) (q : Pending) → a ≡ act.Check e → f ≡ e → expr_plain known f p ≡ (b, q) → act_plain known a p ≡ (act.Check b, q)
  check_steps e f b q is same made = part_of (λ z. expr_plain known z p) (λ c r. (act.Check c, r)) (act_plain known a p) e f b q (check_made e is) same made

  pub return_steps : (e b : Option NamedExpr) (q : Pending) → a ≡ act.Return e → maybe_plain known e p ≡ (b, q) → act_plain known a p ≡ (act.Return b, q)
  return_steps e b q is made = part_of (λ z. maybe_plain known z p) (λ c r. (act.Return c, r)) (act_plain known a p) e e b q (return_made e is) refl made

  pub if_steps : (e f c : NamedExpr) (q : Pending) (s t u : NamedStmt) (n : ℕ) (o v : Option NamedStmt) (m : ℕ) → a ≡ act.If e s o → f ≡ e → expr_plain known f p ≡ (c, q) → t ≡ s → alone (stmt_plain known t) q.next ≡ (u, n)
      → part_plain known o n ≡ (v, m) → act_plain known a p ≡ (act.If c u v, with_next q m)
  if_steps e f c q s t u n o v m is same one alike two three =
      part_of (λ z. part_plain known z n) (λ w k. (act.If c u w, with_next q k)) (act_plain known a p) o o v m
      (part_of (λ z. alone (stmt_plain known z) q.next) (λ x l. after (part_plain known o l) (λ w k. (act.If c x w, with_next q k))) (act_plain known a p) s t u n
      (part_of (λ z. expr_plain known z p) (λ d r. after (alone (stmt_plain known s) r.next) (λ x l. after (part_plain known o l) (λ w k. (act.If d x w, with_next r k)))) (act_plain known a p) e f c q (if_made e s o is) same one)
      alike two)
      refl three

  pub while_steps : (e f c : NamedExpr) (i q : Pending) (s t u : NamedStmt) (n : ℕ) → a ≡ act.While e s → f ≡ e → i ≡ none_pending p.next → expr_plain known f i ≡ (c, q) → t ≡ s → alone (stmt_plain known t) q.next ≡ (u, n)
      → act_plain known a p ≡ (act.While (loop_condition q.stmts c) (loop_body q.stmts c u), with_next p n)
  while_steps e f c i q s t u n is same none one alike two =
      part_of (λ z. alone (stmt_plain known z) q.next) (λ x l. (act.While (loop_condition q.stmts c) (loop_body q.stmts c x), with_next p l)) (act_plain known a p) s t u n
      (part_of (λ z. expr_plain known z (none_pending p.next)) (λ d r. after (alone (stmt_plain known s) r.next) (λ x l. (act.While (loop_condition r.stmts d) (loop_body r.stmts d x), with_next p l))) (act_plain known a p) e f c q
      (while_made e s is) same (ap (λ (z : Pending). expr_plain known f z) (sym none) ∙ one))
      alike two

module _ (known : Integers) (s : NamedStmt) where
  pub stmt_done : (p : Pending) (b : NamedAct) (q : Pending) (r : NamedStmt) → act_plain known s.body p ≡ (b, q) → r ≡ stmt_at b s.pos → stmt_plain known s p ≡ (r, q)
  stmt_done p b q r made is =
      stmt_by known s p ∙ ap (λ (z : NamedAct × Pending). after z (λ c o. (stmt_at c s.pos, o))) made ∙ ap (λ (z : NamedStmt). (z, q)) (sym is)

  pub alone_done : (n : ℕ) (i : Pending) (t : NamedStmt) (r : Pending) (w : NamedStmt) → i ≡ none_pending n → stmt_plain known s i ≡ (t, r) → w ≡ joined r.stmts t → alone (stmt_plain known s) n ≡ (w, r.next)
  alone_done n i t r w none made is =
      ap (λ (z : NamedStmt × Pending). after z (λ u q. (joined q.stmts u, q.next))) (ap (λ (z : Pending). stmt_plain known s z) (sym none) ∙ made)
      ∙ ap (λ (z : NamedStmt). (z, r.next)) (sym is)
