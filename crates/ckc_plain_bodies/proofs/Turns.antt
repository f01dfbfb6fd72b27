-- Loops that make the parts of a list in turn, each after what the ones before it leave pending.
use Rattle.std.proofs.Common.{◌≡◌, ◌<◌, ◌≤◌, ◌+◌, ℕ, suc, sym, ap, ◌∙◌, List, [], ◌∷◌, ◌++◌, length, drop, get_or, drop-cons, add-one, append_assoc, append-nil}
use Rattle.std.proofs.lemmas.List.{drop_all}
use Rattle.ckc_syntax.specs.Trees.{NamedExpr, NamedStmt}
use Rattle.ckc_plain_barred.specs.declared.integers.Integers.{Integers}
use Rattle.ckc_plain_bodies.specs.declared.pending.Pending.{Pending}
use Rattle.ckc_plain_bodies.specs.Taken.{after, none_pending}
use Rattle.ckc_plain_bodies.specs.Expressions.{expr_plain, exprs_plain}
use Rattle.ckc_plain_bodies.specs.Statements.{stmt_plain, block_plain}
use Rattle.ckc_plain_bodies.specs.code.Statements.{pieces}

-- what has been made, in front of what is still to be made
abbrev pub behind : {A S : Type 0} → List A → List A × S → List A × S
behind done q = (done ++ q.0, q.1)

pub begin : {A S : Type 0} (q : List A × S) (done : List A) → done ≡ [] → q ≡ behind done q
begin q done e = ap (λ d. behind d q) (sym e)

behind_twice : {A S : Type 0} (a b : List A) (q : List A × S) → behind a (behind b q) ≡ behind (a ++ b) q
behind_twice a b q = ap (λ l. (l, q.1)) (sym (append_assoc a b q.0))

module _ (known : Integers) (es : List NamedExpr) (i : ℕ) (p : Pending) (whole : List NamedExpr × Pending) (done : List NamedExpr) (kept : whole ≡ behind done (exprs_plain known (drop i es) p)) where
  abbrev and_rest : NamedExpr × Pending → List NamedExpr × Pending
  and_rest a = after (exprs_plain known (drop (i + 1) es) a.1) (λ all r. (a.0 ∷ all, r))

  turn : (x : NamedExpr) → i < length es → x ≡ get_or es i x → exprs_plain known (drop i es) p ≡ and_rest (expr_plain known x p)
  turn x h e =
      ap (λ zs. exprs_plain known zs p) (drop-cons es i x h)
      ∙ ap (λ y. after (exprs_plain known (drop (suc i) es) (expr_plain known y p).1) (λ all r. ((expr_plain known y p).0 ∷ all, r))) (sym e)
      ∙ ap (λ n. after (exprs_plain known (drop n es) (expr_plain known x p).1) (λ all r. ((expr_plain known x p).0 ∷ all, r))) (sym (add-one i))

  pub turn_done : (x a : NamedExpr) (q : Pending) (more : List NamedExpr) → i < length es → x ≡ get_or es i x → expr_plain known x p ≡ (a, q) → more ≡ done ++ a ∷ [] → whole ≡ behind more (exprs_plain known (drop (i + 1) es) q)
  turn_done x a q more h e made m =
      kept ∙ ap (behind done) (turn x h e ∙ ap and_rest made)
      ∙ behind_twice done (a ∷ []) (exprs_plain known (drop (i + 1) es) q) ∙ ap (λ d. behind d (exprs_plain known (drop (i + 1) es) q)) (sym m)

  pub turn_end : length es ≤ i → whole ≡ (done, p)
  turn_end h = kept ∙ ap (λ l. behind done (exprs_plain known l p)) (drop_all i es h) ∙ ap (λ l. (l, p)) (append-nil done)

module _ (known : Integers) (ss : List NamedStmt) (i n : ℕ) (whole : List NamedStmt × ℕ) (done : List NamedStmt) (kept : whole ≡ behind done (block_plain known (drop i ss) n)) where
  abbrev and_stmts : NamedStmt × Pending → List NamedStmt × ℕ
  and_stmts t = after (block_plain known (drop (i + 1) ss) t.1.next) (λ all m. (pieces t ++ all, m))

  stmt_turn : (x : NamedStmt) → i < length ss → x ≡ get_or ss i x → block_plain known (drop i ss) n ≡ and_stmts (stmt_plain known x (none_pending n))
  stmt_turn x h e =
      ap (λ zs. block_plain known zs n) (drop-cons ss i x h)
      ∙ ap (λ y. after (block_plain known (drop (suc i) ss) (stmt_plain known y (none_pending n)).1.next) (λ all m. (pieces (stmt_plain known y (none_pending n)) ++ all, m))) (sym e)
      ∙ ap (λ k. after (block_plain known (drop k ss) (stmt_plain known x (none_pending n)).1.next) (λ all m. (pieces (stmt_plain known x (none_pending n)) ++ all, m))) (sym (add-one i))

  pub stmt_done : (x : NamedStmt) (m : ℕ) (more : List NamedStmt) → i < length ss → x ≡ get_or ss i x → more ≡ done ++ pieces (stmt_plain known x (none_pending n)) → m ≡ (stmt_plain known x (none_pending n)).1.next → whole ≡ behind more (block_plain known (drop (i + 1) ss) m)
  stmt_done x m more h e p q =
      kept ∙ ap (behind done) (stmt_turn x h e)
      ∙ behind_twice done (pieces (stmt_plain known x (none_pending n))) (block_plain known (drop (i + 1) ss) (stmt_plain known x (none_pending n)).1.next)
      ∙ ap (λ d. behind d (block_plain known (drop (i + 1) ss) (stmt_plain known x (none_pending n)).1.next)) (sym p)
      ∙ ap (λ k. behind more (block_plain known (drop (i + 1) ss) k)) (sym q)

  pub stmt_end : length ss ≤ i → whole ≡ (done, n)
  stmt_end h = kept ∙ ap (λ l. behind done (block_plain known l n)) (drop_all i ss h) ∙ ap (λ l. (l, n)) (append-nil done)
