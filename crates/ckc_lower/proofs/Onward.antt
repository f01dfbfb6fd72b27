-- A list of statements after its first ones.
use Rattle.std.proofs.Common.{◌≡◌, ℕ, zero, suc, ◌+◌, ◌<◌, List, [], ◌∷◌, length, get_or, drop, sym, ◌∙◌, ap, subst, arith}
use Rattle.std.specs.Prelude.{Bool, true, not, Option, Some, None, map}
use Rattle.ckc_base.specs.declared.arithmetic.Width.{Width}
use Rattle.ckc_base.specs.declared.places.Pos.{Pos}
use Rattle.ckc_base.specs.declared.runtime_checks.Check.{Check as CheckName}
use Rattle.ckc_core.specs.declared.code.CoreExpr.{CoreExpr}
use Rattle.ckc_core.specs.declared.code.CoreStmt.{CoreStmt, CoreStmt-F, fold-roll-CoreStmt}
use Rattle.ckc_core.specs.declared.code.CoreStmt.TheVariants as stmt
use Rattle.ckc_core.specs.Code.{Expr, Code, Set, Store, Check, Call, Get, Put, Alloc, If, Loop, expr_of, stmt_form, stmt_of, code_of}
use Rattle.ckc_core.specs.Limits.{KeepsLimits}
use Rattle.ckc_lower.specs.declared.builder.Builder.{Builder}
use Rattle.ckc_lower.specs.declared.builder.Targets.{Targets}
use Rattle.ckc_lower.specs.code.Built.{passes, join_of, forked, entered, targets_of, built}

-- the statements from one on are it and those after it
code-from : (stmts : List CoreStmt) (i : ℕ) (s t : CoreStmt) → i < length stmts → s ≡ get_or stmts i s → s ≡ t
    → code_of (drop i stmts) ≡ stmt_of t (code_of (drop (i + 1) stmts))
code-from [] i s t h is e = absurd (omega arith)
code-from (x ∷ xs) zero s t h is e = ap (λ y. stmt_of y (code_of xs)) (sym is ∙ e)
code-from (x ∷ xs) (suc i) s t h is e =
    code-from xs i s t (omega arith) is e ∙ ap (λ k. stmt_of t (code_of (drop k (x ∷ xs)))) next
  where
    next : suc (i + 1) ≡ suc i + 1
    next = omega arith

-- what is kept while the statements of a list are built: the limits, and what the whole is built to
pub record IsKeptFrom (t : ℕ) (stmts : List CoreStmt) (exit : Option ℕ) (loop : Option Targets) (whole : Builder) (i : ℕ) (fresh : Bool) (b : Builder) : Type 0 where
  pub limits : KeepsLimits (code_of (drop i stmts))
  pub built_so : built t fresh (code_of (drop i stmts)) exit loop b ≡ whole

-- one statement is built
pub go_on : (t : ℕ) (stmts : List CoreStmt) (exit : Option ℕ) (loop : Option Targets) (whole : Builder) (i : ℕ) (fresh : Bool) (b : Builder) (s : CoreStmt)
    → i < length stmts → s ≡ get_or stmts i s → KeepsLimits (code_of (drop i stmts)) → built t fresh (code_of (drop i stmts)) exit loop b ≡ whole
    → (new_fresh : Bool) (c : Builder) (is : CoreStmt) → s ≡ is → (code : Code) → stmt_of is (code_of (drop (i + 1) stmts)) ≡ code
    → (next : Bool) (d : Builder)
    → (KeepsLimits code → KeepsLimits (code_of (drop (i + 1) stmts)))
    → built t fresh code exit loop b ≡ built t next (code_of (drop (i + 1) stmts)) exit loop d
    → new_fresh ≡ next → c ≡ d
    → IsKeptFrom t stmts exit loop whole (i + 1) new_fresh c
go_on t stmts exit loop whole i fresh b s less at limits before new_fresh c is e code front next d keeps same f g =
    let from = code-from stmts i s is less at e ∙ front in
    record {
      limits = keeps (subst KeepsLimits from limits);
      built_so = ap (λ x. built t x (code_of (drop (i + 1) stmts)) exit loop c) f
          ∙ ap (built t next (code_of (drop (i + 1) stmts)) exit loop) g
          ∙ sym same ∙ ap (λ k. built t fresh k exit loop b) (sym from) ∙ before;
    }

-- ---- the kinds of statements

pub set-of : (x : ℕ) (e : CoreExpr) (rest : Code) → stmt_of (stmt.Set x e) rest ≡ Set x (expr_of e) rest
set-of x e rest = ap (λ f. f rest) (ap stmt_of (sym (stmt.rolls-Set x e)) ∙ fold-roll-CoreStmt (Code → Code) stmt_form (CoreStmt-F.Set x e))

pub store-of : (width : Width) (a e : CoreExpr) (rest : Code) → stmt_of (stmt.Store width a e) rest ≡ Store width (expr_of a) (expr_of e) rest
store-of width a e rest = ap (λ f. f rest) (ap stmt_of (sym (stmt.rolls-Store width a e)) ∙ fold-roll-CoreStmt (Code → Code) stmt_form (CoreStmt-F.Store width a e))

pub check-of : (check : CheckName) (at : Pos) (e : CoreExpr) (rest : Code) → stmt_of (stmt.Check check at e) rest ≡ Check check at (expr_of e) rest
check-of check at e rest = ap (λ f. f rest) (ap stmt_of (sym (stmt.rolls-Check check at e)) ∙ fold-roll-CoreStmt (Code → Code) stmt_form (CoreStmt-F.Check check at e))

pub call-of : (target : Option ℕ) (callee : ℕ) (es : List CoreExpr) (at : Pos) (rest : Code) → stmt_of (stmt.Call target callee es at) rest ≡ Call target callee (map expr_of es) at rest
call-of target callee es at rest = ap (λ f. f rest) (ap stmt_of (sym (stmt.rolls-Call target callee es at)) ∙ fold-roll-CoreStmt (Code → Code) stmt_form (CoreStmt-F.Call target callee es at))

pub get-of : (x : ℕ) (rest : Code) → stmt_of (stmt.Get x) rest ≡ Get x rest
get-of x rest = ap (λ f. f rest) (ap stmt_of (sym (stmt.rolls-Get x)) ∙ fold-roll-CoreStmt (Code → Code) stmt_form (CoreStmt-F.Get x))

pub put-of : (e : CoreExpr) (rest : Code) → stmt_of (stmt.Put e) rest ≡ Put (expr_of e) rest
put-of e rest = ap (λ f. f rest) (ap stmt_of (sym (stmt.rolls-Put e)) ∙ fold-roll-CoreStmt (Code → Code) stmt_form (CoreStmt-F.Put e))

pub alloc-of : (x : ℕ) (e : CoreExpr) (size : ℕ) (rest : Code) → stmt_of (stmt.Alloc x e size) rest ≡ Alloc x (expr_of e) size rest
alloc-of x e size rest = ap (λ f. f rest) (ap stmt_of (sym (stmt.rolls-Alloc x e size)) ∙ fold-roll-CoreStmt (Code → Code) stmt_form (CoreStmt-F.Alloc x e size))

pub if-of : (e : CoreExpr) (one two : List CoreStmt) (rest : Code) → stmt_of (stmt.If e one two) rest ≡ If (expr_of e) (code_of one) (code_of two) rest
if-of e one two rest = ap (λ f. f rest) (ap stmt_of (sym (stmt.rolls-If e one two)) ∙ fold-roll-CoreStmt (Code → Code) stmt_form (CoreStmt-F.If e one two))

pub loop-of : (body step : List CoreStmt) (rest : Code) → stmt_of (stmt.Loop body step) rest ≡ Loop (code_of body) (code_of step) rest
loop-of body step rest = ap (λ f. f rest) (ap stmt_of (sym (stmt.rolls-Loop body step)) ∙ fold-roll-CoreStmt (Code → Code) stmt_form (CoreStmt-F.Loop body step))

-- an If and a loop, built part by part
pub if-built : (t : ℕ) (fresh : Bool) (e : Expr) (one two rest : Code) (exit : Option ℕ) (loop : Option Targets) (b c d f : Builder) (join : ℕ)
    → join ≡ join_of one two rest exit loop b → c ≡ forked t e one two join loop b → d ≡ built t true one (Some join) loop c → f ≡ built t true two (Some join) loop d
    → built t fresh (If e one two rest) exit loop b ≡ built t true rest exit loop f
if-built t fresh e one two rest exit loop b c d f join j h i k =
    let all : ℕ → Builder = λ n. built t true two (Some n) loop (built t true one (Some n) loop (forked t e one two n loop b)) in
    let inner : built t true two (Some join) loop d ≡ all join = ap (built t true two (Some join) loop) (i ∙ ap (built t true one (Some join) loop) h) in
    ap (built t true rest exit loop) (sym (k ∙ inner ∙ ap all j))

pub loop-built : (t : ℕ) (fresh first : Bool) (body step rest : Code) (exit : Option ℕ) (loop : Option Targets) (b c d f : Builder) (head : ℕ) (here : Targets)
    → c ≡ entered fresh b → head ≡ length c.blocks → here ≡ targets_of body step rest exit loop head → first ≡ not (passes body)
    → d ≡ built t first body (Some here.step) (Some here) c → f ≡ built t true step (Some head) None d
    → built t fresh (Loop body step rest) exit loop b ≡ built t true rest exit loop f
loop-built t fresh first body step rest exit loop b c d f head here a h k p i j =
    let turn : Bool → Targets → Builder → Builder = λ first here c. built t first body (Some here.step) (Some here) c in
    let all : Builder → Builder = λ c.
    built t true step (Some (length c.blocks)) None (turn (not (passes body)) (targets_of body step rest exit loop (length c.blocks)) c) in
    let so : here ≡ targets_of body step rest exit loop (length c.blocks) = k ∙ ap (targets_of body step rest exit loop) h in
    let inner : turn first here c ≡ turn (not (passes body)) (targets_of body step rest exit loop (length c.blocks)) c =
    ap (λ x. turn x here c) p ∙ ap (λ x. turn (not (passes body)) x c) so in
    let outer : built t true step (Some head) None d ≡ all c =
    ap (λ n. built t true step (Some n) None d) h ∙ ap (built t true step (Some (length c.blocks)) None) (i ∙ inner) in
    ap (built t true rest exit loop) (sym (j ∙ outer ∙ ap all a))
