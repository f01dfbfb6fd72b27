-- What a builder has grows at its end alone.
use Rattle.std.proofs.Common.{◌≡◌, ℕ, ◌+◌, ◌≤◌, ◌<◌, List, [], ◌∷◌, ◌++◌, length, length-append, append_assoc, append-nil, refl, sym, ◌∙◌, ap, arith}
use Rattle.std.specs.Prelude.{Bool, true, false, not, if◌then◌else◌, Option, Some, None, IfSome}
use Rattle.ckc_base.specs.Follows.{IsPrefix}
use Rattle.ckc_base.proofs.Following.{prefix_trans}
use Rattle.ckc_core.specs.Code.{Expr, Const, Local, Load, Bin, High, Code, End, Set, Store, Check, Call, Get, Put, Alloc, If, Loop, Break, Continue, Return}
use Rattle.ckc_tac.specs.declared.code.Comparison.{Comparison}
use Rattle.ckc_tac.specs.declared.code.Operand.{Operand}
use Rattle.ckc_tac.specs.declared.code.TacOp.{TacOp}
use Rattle.ckc_tac.specs.declared.code.TacOp.TheVariants as op
use Rattle.ckc_tac.specs.declared.code.TacEnd.{TacEnd}
use Rattle.ckc_lower.specs.declared.builder.Builder.{Builder}
use Rattle.ckc_lower.specs.declared.builder.Targets.{Targets}
use Rattle.ckc_lower.specs.code.Terms.{Term, term_of, base_of}
use Rattle.ckc_lower.specs.code.Terms as term
use Rattle.ckc_lower.specs.code.Built.{free_from, term_free, target_of, operand_of, term_operand, with_term, stores_at, registers_of, with_op, with_temporary, with_value, with_values, passes, goal, block_count, body_count, with_end, with_jump, left, stored, used, compares, checked_test, one_at, two_at, forked, join_of, entered, targets_of, out_of, step_of, built, bin_of, free_past, with_register, Test, test_of, branch_of}
use Rattle.ckc_lower.proofs.Values.{value_ops, term_ops}
use Rattle.ckc_lower.proofs.Arguments.{register_ops, values_ops}

-- ---- expressions

temporary-ops : (want : Option ℕ) (t : ℕ) (b : Builder) → (with_temporary want t b).ops ≡ b.ops
temporary-ops (Some d) t b = refl
temporary-ops None t b = refl

temporary-blocks : (want : Option ℕ) (t : ℕ) (b : Builder) → (with_temporary want t b).blocks ≡ b.blocks
temporary-blocks (Some d) t b = refl
temporary-blocks None t b = refl

-- two parts, one after the other
in_turn : (old first second all : List TacOp) → all ≡ (old ++ first) ++ second → all ≡ old ++ (first ++ second)
in_turn old first second all e = e ∙ append_assoc old first second

pub term-ops : (x : Term) (want : Option ℕ) (t : ℕ) (b : Builder) → (with_term x want t b).ops ≡ b.ops ++ term_ops x want t
term-ops (term.Const n) (Some d) t b = refl
term-ops (term.Const n) None t b = sym (append-nil b.ops)
term-ops (term.Local x) (Some d) t b = refl
term-ops (term.Local x) None t b = sym (append-nil b.ops)
term-ops (term.Load width a n) want t b =
    let last = op.Load width (target_of want t) (term_operand a None t) n ∷ [] in
    in_turn b.ops (term_ops a None t) last (with_term (term.Load width a n) want t b).ops
    (ap (λ x. x ++ last) (temporary-ops want t (with_term a None t b) ∙ term-ops a None t b))
term-ops (term.Bin o p q) want t b =
    let u = term_free p t in
    let last = bin_of o (target_of want t) (term_operand p None t) (term_operand q None u) ∷ [] in
    let first = with_term p None t b in
    in_turn b.ops (term_ops p None t) (term_ops q None u ++ last) (with_term (term.Bin o p q) want t b).ops
    (in_turn (b.ops ++ term_ops p None t) (term_ops q None u) last (with_term (term.Bin o p q) want t b).ops
    (ap (λ x. x ++ last) (temporary-ops want t (with_term q None u first) ∙ term-ops q None u first ∙ ap (λ x. x ++ term_ops q None u) (term-ops p None t b))))
term-ops (term.High s p q) want t b =
    let u = term_free p t in
    let last = op.High s (target_of want t) (term_operand p None t) (term_operand q None u) ∷ [] in
    let first = with_term p None t b in
    in_turn b.ops (term_ops p None t) (term_ops q None u ++ last) (with_term (term.High s p q) want t b).ops
    (in_turn (b.ops ++ term_ops p None t) (term_ops q None u) last (with_term (term.High s p q) want t b).ops
    (ap (λ x. x ++ last) (temporary-ops want t (with_term q None u first) ∙ term-ops q None u first ∙ ap (λ x. x ++ term_ops q None u) (term-ops p None t b))))

pub term-blocks : (x : Term) (want : Option ℕ) (t : ℕ) (b : Builder) → (with_term x want t b).blocks ≡ b.blocks
term-blocks (term.Const n) (Some d) t b = refl
term-blocks (term.Const n) None t b = refl
term-blocks (term.Local x) (Some d) t b = refl
term-blocks (term.Local x) None t b = refl
term-blocks (term.Load width a n) want t b = temporary-blocks want t (with_term a None t b) ∙ term-blocks a None t b
term-blocks (term.Bin o p q) want t b =
    temporary-blocks want t (with_term q None (term_free p t) (with_term p None t b))
    ∙ term-blocks q None (term_free p t) (with_term p None t b) ∙ term-blocks p None t b
term-blocks (term.High s p q) want t b =
    temporary-blocks want t (with_term q None (term_free p t) (with_term p None t b))
    ∙ term-blocks q None (term_free p t) (with_term p None t b) ∙ term-blocks p None t b

pub value-ops : (e : Expr) (want : Option ℕ) (t : ℕ) (b : Builder) → (with_value e want t b).ops ≡ b.ops ++ value_ops e want t
value-ops e want t b = term-ops (term_of e) want t b

pub value-blocks : (e : Expr) (want : Option ℕ) (t : ℕ) (b : Builder) → (with_value e want t b).blocks ≡ b.blocks
value-blocks e want t b = term-blocks (term_of e) want t b

register-ops : (e : Expr) (t : ℕ) (b : Builder) → (with_register e t b).ops ≡ b.ops ++ register_ops e t
register-ops (Const n) t b = refl
register-ops (Local x) t b = value-ops (Local x) None t b
register-ops (Load width a) t b = value-ops (Load width a) None t b
register-ops (Bin o p q) t b = value-ops (Bin o p q) None t b
register-ops (High s p q) t b = value-ops (High s p q) None t b

register-blocks : (e : Expr) (t : ℕ) (b : Builder) → (with_register e t b).blocks ≡ b.blocks
register-blocks (Const n) t b = refl
register-blocks (Local x) t b = refl
register-blocks (Load width a) t b = value-blocks (Load width a) None t b
register-blocks (Bin o p q) t b = value-blocks (Bin o p q) None t b
register-blocks (High s p q) t b = value-blocks (High s p q) None t b

pub values-ops : (es : List Expr) (t : ℕ) (b : Builder) → (with_values es t b).ops ≡ b.ops ++ values_ops es t
values-ops [] t b = sym (append-nil b.ops)
values-ops (e ∷ es) t b =
    in_turn b.ops (register_ops e t) (values_ops es (free_past e t)) (with_values (e ∷ es) t b).ops
    (values-ops es (free_past e t) (with_register e t b) ∙ ap (λ x. x ++ values_ops es (free_past e t)) (register-ops e t b))

pub values-blocks : (es : List Expr) (t : ℕ) (b : Builder) → (with_values es t b).blocks ≡ b.blocks
values-blocks [] t b = refl
values-blocks (e ∷ es) t b = values-blocks es (free_past e t) (with_register e t b) ∙ register-blocks e t b

-- ---- statements

pub stored-ops : (t : ℕ) (x y : Term) (o : Operand → Operand → TacOp) (b : Builder) → (stored t x y o b).ops
    ≡ b.ops ++ (term_ops x None t ++ (term_ops y None (term_free x t) ++ o (term_operand x None t) (term_operand y None (term_free x t)) ∷ []))
stored-ops t x y o b =
    let u = term_free x t in
    let last = o (term_operand x None t) (term_operand y None u) ∷ [] in
    let first = with_term x None t b in
    in_turn b.ops (term_ops x None t) (term_ops y None u ++ last) (stored t x y o b).ops
    (in_turn (b.ops ++ term_ops x None t) (term_ops y None u) last (stored t x y o b).ops
    (ap (λ ops. ops ++ last) (term-ops y None u first ∙ ap (λ ops. ops ++ term_ops y None u) (term-ops x None t b))))

pub stored-blocks : (t : ℕ) (x y : Term) (o : Operand → Operand → TacOp) (b : Builder) → (stored t x y o b).blocks ≡ b.blocks
stored-blocks t x y o b = term-blocks y None (term_free x t) (with_term x None t b) ∙ term-blocks x None t b

pub compares-blocks : (t : ℕ) (s : Test) (o : Comparison → Operand → Operand → TacOp) (b : Builder) → (compares t s o b).blocks ≡ b.blocks
compares-blocks t s o b = stored-blocks t (term_of s.left) (term_of s.right) (o s.comparison) b

pub used-ops : (t : ℕ) (e : Expr) (o : Operand → TacOp) (b : Builder) → (used t e o b).ops ≡ b.ops ++ (value_ops e None t ++ o (operand_of e None t) ∷ [])
used-ops t e o b =
    in_turn b.ops (value_ops e None t) (o (operand_of e None t) ∷ []) (used t e o b).ops (ap (λ x. x ++ o (operand_of e None t) ∷ []) (value-ops e None t b))

pub used-blocks : (t : ℕ) (e : Expr) (o : Operand → TacOp) (b : Builder) → (used t e o b).blocks ≡ b.blocks
used-blocks t e o b = value-blocks e None t b

-- the operations of both sides of a test
abbrev pub test_ops : ℕ → Test → List TacOp
test_ops t s = value_ops s.left None t ++ value_ops s.right None (free_from s.left t)

-- a builder that has computed both sides of a test
abbrev pub sides : ℕ → Test → Builder → Builder
sides t s b = with_value s.right None (free_from s.left t) (with_value s.left None t b)

pub sides-ops : (t : ℕ) (s : Test) (b : Builder) → (sides t s b).ops ≡ b.ops ++ test_ops t s
sides-ops t s b =
    let u = free_from s.left t in
    in_turn b.ops (value_ops s.left None t) (value_ops s.right None u) (sides t s b).ops
    (value-ops s.right None u (with_value s.left None t b) ∙ ap (λ x. x ++ value_ops s.right None u) (value-ops s.left None t b))

pub sides-blocks : (t : ℕ) (s : Test) (b : Builder) → (sides t s b).blocks ≡ b.blocks
sides-blocks t s b = value-blocks s.right None (free_from s.left t) (with_value s.left None t b) ∙ value-blocks s.left None t b

-- an ended block is one block more
pub ended-blocks : (b : Builder) (end : TacEnd) → IsPrefix b.blocks (with_end b end).blocks
ended-blocks b end = (record { ops = b.ops; end = end } ∷ [], refl)

pub same_blocks : (b c : Builder) → c.blocks ≡ b.blocks → IsPrefix b.blocks c.blocks
same_blocks b c e = ([], e ∙ sym (append-nil b.blocks))

pub jump-blocks : (fresh : Bool) (to : ℕ) (b : Builder) → IsPrefix b.blocks (with_jump fresh to b).blocks
jump-blocks true to b = same_blocks b b refl
jump-blocks false to b = ended-blocks b _

left-blocks : (fresh : Bool) (exit : Option ℕ) (b : Builder) → IsPrefix b.blocks (left fresh exit b).blocks
left-blocks fresh (Some to) b = jump-blocks fresh to b
left-blocks fresh None b = ended-blocks b _

-- the blocks that stand before stay the first ones
pub built-blocks : (t : ℕ) (fresh : Bool) (code : Code) (exit : Option ℕ) (loop : Option Targets) (b : Builder) → IsPrefix b.blocks (built t fresh code exit loop b).blocks
built-blocks t fresh End exit loop b = left-blocks fresh exit b
built-blocks t fresh (Set x e rest) exit loop b =
    let c = with_value e (Some x) t b in
    prefix_trans b.blocks c.blocks (built t false rest exit loop c).blocks (same_blocks b c (value-blocks e (Some x) t b)) (built-blocks t false rest exit loop c)
built-blocks t fresh (Store width a e rest) exit loop b =
    let c = stored t (base_of (term_of a)) (term_of e) (stores_at width a) b in
    prefix_trans b.blocks c.blocks (built t false rest exit loop c).blocks (same_blocks b c (stored-blocks t (base_of (term_of a)) (term_of e) (stores_at width a) b)) (built-blocks t false rest exit loop c)
built-blocks t fresh (Check check place e rest) exit loop b =
    let c = compares t (checked_test e) (op.Check check place) b in
    prefix_trans b.blocks c.blocks (built t false rest exit loop c).blocks (same_blocks b c (compares-blocks t (checked_test e) (op.Check check place) b)) (built-blocks t false rest exit loop c)
built-blocks t fresh (Call target i es place rest) exit loop b =
    let c = with_op (with_values es t b) (op.Call target i (registers_of es t) place) in
    prefix_trans b.blocks c.blocks (built t false rest exit loop c).blocks (same_blocks b c (values-blocks es t b)) (built-blocks t false rest exit loop c)
built-blocks t fresh (Get x rest) exit loop b = built-blocks t false rest exit loop (with_op b (op.Get x))
built-blocks t fresh (Put e rest) exit loop b =
    let c = used t e op.Put b in
    prefix_trans b.blocks c.blocks (built t false rest exit loop c).blocks (same_blocks b c (used-blocks t e op.Put b)) (built-blocks t false rest exit loop c)
built-blocks t fresh (Alloc x e size rest) exit loop b =
    let c = used t e (λ r. op.Alloc x r size) b in
    prefix_trans b.blocks c.blocks (built t false rest exit loop c).blocks (same_blocks b c (used-blocks t e (λ r. op.Alloc x r size) b)) (built-blocks t false rest exit loop c)
built-blocks t fresh (If e one two rest) exit loop b =
    let join = join_of one two rest exit loop b in
    let v = sides t (test_of e false) b in
    let c = forked t e one two join loop b in
    let d = built t true one (Some join) loop c in
    let f = built t true two (Some join) loop d in
    let g = built t true rest exit loop f in
    prefix_trans b.blocks v.blocks g.blocks (same_blocks b v (sides-blocks t (test_of e false) b))
    (prefix_trans v.blocks c.blocks g.blocks (ended-blocks v _)
    (prefix_trans c.blocks d.blocks g.blocks (built-blocks t true one (Some join) loop c)
    (prefix_trans d.blocks f.blocks g.blocks (built-blocks t true two (Some join) loop d) (built-blocks t true rest exit loop f))))
built-blocks t fresh (Loop body step rest) exit loop b =
    let c = entered fresh b in
    let head = length c.blocks in
    let here = targets_of body step rest exit loop head in
    let d = built t (not (passes body)) body (Some here.step) (Some here) c in
    let f = built t true step (Some head) None d in
    let g = built t true rest exit loop f in
    prefix_trans b.blocks c.blocks g.blocks (jump-blocks fresh _ b)
    (prefix_trans c.blocks d.blocks g.blocks (built-blocks t (not (passes body)) body (Some here.step) (Some here) c)
    (prefix_trans d.blocks f.blocks g.blocks (built-blocks t true step (Some head) None d) (built-blocks t true rest exit loop f)))
built-blocks t fresh (Break rest) exit loop b = jump-blocks fresh _ b
built-blocks t fresh (Continue rest) exit loop b = jump-blocks fresh _ b
built-blocks t fresh (Return e rest) exit loop b =
    let v = with_value e None t b in
    prefix_trans b.blocks v.blocks (built t fresh (Return e rest) exit loop b).blocks (same_blocks b v (value-blocks e None t b)) (ended-blocks v _)

-- a fresh block has no operations
abbrev pub IsEmptyWhere : (fresh : Bool) → Builder → Type 0
IsEmptyWhere true b = b.ops ≡ []
IsEmptyWhere false b = Unit {0}

pub jump-ops : (fresh : Bool) (to : ℕ) (b : Builder) → IsEmptyWhere fresh b → (with_jump fresh to b).ops ≡ []
jump-ops true to b h = h
jump-ops false to b h = refl

left-ops : (fresh : Bool) (exit : Option ℕ) (b : Builder) → IsEmptyWhere fresh b → (left fresh exit b).ops ≡ []
left-ops fresh (Some to) b h = jump-ops fresh to b h
left-ops fresh None b h = refl

pub empty_where : (fresh : Bool) (b : Builder) → b.ops ≡ [] → IsEmptyWhere fresh b
empty_where true b h = h
empty_where false b h = tt

-- after built code a block is open that has no operations
pub built-ops : (t : ℕ) (fresh : Bool) (code : Code) (exit : Option ℕ) (loop : Option Targets) (b : Builder) → IsEmptyWhere fresh b → (built t fresh code exit loop b).ops ≡ []
built-ops t fresh End exit loop b h = left-ops fresh exit b h
built-ops t fresh (Set x e rest) exit loop b h = built-ops t false rest exit loop _ tt
built-ops t fresh (Store width a e rest) exit loop b h = built-ops t false rest exit loop _ tt
built-ops t fresh (Check check place e rest) exit loop b h = built-ops t false rest exit loop _ tt
built-ops t fresh (Call target i es place rest) exit loop b h = built-ops t false rest exit loop _ tt
built-ops t fresh (Get x rest) exit loop b h = built-ops t false rest exit loop _ tt
built-ops t fresh (Put e rest) exit loop b h = built-ops t false rest exit loop _ tt
built-ops t fresh (Alloc x e size rest) exit loop b h = built-ops t false rest exit loop _ tt
built-ops t fresh (If e one two rest) exit loop b h =
    let join = Some (join_of one two rest exit loop b) in
    built-ops t true rest exit loop _ (built-ops t true two join loop _ (built-ops t true one join loop _ refl))
built-ops t fresh (Loop body step rest) exit loop b h =
    let c = entered fresh b in
    let head = length c.blocks in
    let here = targets_of body step rest exit loop head in
    let first = not (passes body) in
    built-ops t true rest exit loop _ (built-ops t true step (Some head) None _
    (built-ops t first body (Some here.step) (Some here) c (empty_where first c (jump-ops fresh _ b h))))
built-ops t fresh (Break rest) exit loop b h = jump-ops fresh _ b h
built-ops t fresh (Continue rest) exit loop b h = jump-ops fresh _ b h
built-ops t fresh (Return e rest) exit loop b h = refl

pub ended-length : (b : Builder) (end : TacEnd) → length (with_end b end).blocks ≡ length b.blocks + 1
ended-length b end = length-append b.blocks (record { ops = b.ops; end = end } ∷ [])

abbrev pub is_some : Option ℕ → Bool
is_some (Some to) = true
is_some None = false

left-length : (fresh : Bool) (exit : Option ℕ) (b : Builder) → length (left fresh exit b).blocks ≡ length b.blocks + block_count fresh (is_some exit) End
left-length true (Some to) b = omega arith
left-length true None b = ended-length b _
left-length false (Some to) b = ended-length b _
left-length false None b = ended-length b _

pub jump-length : (fresh : Bool) (to : ℕ) (b : Builder) → length (with_jump fresh to b).blocks ≡ length b.blocks + (if fresh then 0 else 1)
jump-length true to b = omega arith
jump-length false to b = ended-length b _

-- so many blocks are ended as are counted
pub built-length : (t : ℕ) (fresh : Bool) (code : Code) (exit : Option ℕ) (loop : Option Targets) (b : Builder)
    → length (built t fresh code exit loop b).blocks ≡ length b.blocks + block_count fresh (is_some exit) code
built-length t fresh End exit loop b = left-length fresh exit b
built-length t fresh (Set x e rest) exit loop b =
    built-length t false rest exit loop _ ∙ ap (λ x. length x + block_count false (is_some exit) rest) (value-blocks e (Some x) t b)
built-length t fresh (Store width a e rest) exit loop b =
    built-length t false rest exit loop _ ∙ ap (λ x. length x + block_count false (is_some exit) rest) (stored-blocks t (base_of (term_of a)) (term_of e) (stores_at width a) b)
built-length t fresh (Check check place e rest) exit loop b =
    built-length t false rest exit loop _ ∙ ap (λ x. length x + block_count false (is_some exit) rest) (compares-blocks t (checked_test e) (op.Check check place) b)
built-length t fresh (Call target i es place rest) exit loop b =
    built-length t false rest exit loop _ ∙ ap (λ x. length x + block_count false (is_some exit) rest) (values-blocks es t b)
built-length t fresh (Get x rest) exit loop b = built-length t false rest exit loop _
built-length t fresh (Put e rest) exit loop b =
    built-length t false rest exit loop _ ∙ ap (λ x. length x + block_count false (is_some exit) rest) (used-blocks t e op.Put b)
built-length t fresh (Alloc x e size rest) exit loop b =
    built-length t false rest exit loop _ ∙ ap (λ x. length x + block_count false (is_some exit) rest) (used-blocks t e (λ r. op.Alloc x r size) b)
built-length t fresh (If e one two rest) exit loop b =
    let join = join_of one two rest exit loop b in
    let c = forked t e one two join loop b in
    let s = test_of e false in
    let fork = branch_of s t (goal one (one_at b) (Some join) loop) (goal two (two_at one b) (Some join) loop) in
    let first : length c.blocks ≡ length b.blocks + 1 = ended-length (sides t s b) fork ∙ ap (λ x. length x + 1) (sides-blocks t s b) in
    let d = built t true one (Some join) loop c in
    let second = built-length t true one (Some join) loop c in
    let third = built-length t true two (Some join) loop d in
    let fourth = built-length t true rest exit loop (built t true two (Some join) loop d) in
    omega (arith, first, second, third, fourth)
built-length t fresh (Loop body step rest) exit loop b =
    let c = entered fresh b in
    let head = length c.blocks in
    let here = targets_of body step rest exit loop head in
    let d = built t (not (passes body)) body (Some here.step) (Some here) c in
    let first = jump-length fresh (length b.blocks + 1) b in
    let second = built-length t (not (passes body)) body (Some here.step) (Some here) c in
    let third = built-length t true step (Some head) None d in
    let fourth = built-length t true rest exit loop (built t true step (Some head) None d) in
    omega (arith, first, second, third, fourth)
built-length t fresh (Break rest) exit loop b = jump-length fresh _ b
built-length t fresh (Continue rest) exit loop b = jump-length fresh _ b
built-length t fresh (Return e rest) exit loop b = ended-length (with_value e None t b) _ ∙ ap (λ x. length x + 1) (value-blocks e None t b)

-- ---- where control leads

pub some_blocks : (behind : Bool) (code : Code) → 1 ≤ block_count false behind code
some_blocks behind End = omega arith
some_blocks behind (Set x e rest) = some_blocks behind rest
some_blocks behind (Store width a e rest) = some_blocks behind rest
some_blocks behind (Check check place e rest) = some_blocks behind rest
some_blocks behind (Call target i es place rest) = some_blocks behind rest
some_blocks behind (Get x rest) = some_blocks behind rest
some_blocks behind (Put e rest) = some_blocks behind rest
some_blocks behind (Alloc x e size rest) = some_blocks behind rest
some_blocks behind (If e one two rest) = omega arith
some_blocks behind (Loop body step rest) = omega arith
some_blocks behind (Break rest) = omega arith
some_blocks behind (Continue rest) = omega arith
some_blocks behind (Return e rest) = omega arith

pub body_some : (body : Code) → 1 ≤ body_count body
body_some End = omega arith
body_some (Set x e rest) = some_blocks true rest
body_some (Store width a e rest) = some_blocks true rest
body_some (Check check place e rest) = some_blocks true rest
body_some (Call target i es place rest) = some_blocks true rest
body_some (Get x rest) = some_blocks true rest
body_some (Put e rest) = some_blocks true rest
body_some (Alloc x e size rest) = some_blocks true rest
body_some (If e one two rest) = omega arith
body_some (Loop body step rest) = omega (arith, body_some body)
body_some (Break rest) = omega arith
body_some (Continue rest) = omega arith
body_some (Return e rest) = omega arith

module _ (blocks : ℕ) where
  abbrev pub IsLoopGood : Option Targets → Type 0
  IsLoopGood loop = IfSome loop (λ l. (l.out < blocks) × (l.step < blocks))

  abbrev pub IsExitGood : Option ℕ → Type 0
  IsExitGood exit = IfSome exit (λ to. to < blocks)

  pub out_good : (loop : Option Targets) → 0 < blocks → IsLoopGood loop → out_of loop < blocks
  out_good (Some l) some h = h.0
  out_good None some h = some

  pub step_good : (loop : Option Targets) → 0 < blocks → IsLoopGood loop → step_of loop < blocks
  step_good (Some l) some h = h.1
  step_good None some h = some

  -- Control leads to one of so many blocks, if those that the code ends are among them.
  pub goal_good : (code : Code) (at : ℕ) (exit : Option ℕ) (loop : Option Targets) → at + block_count true (is_some exit) code ≤ blocks
      → IsExitGood exit → IsLoopGood loop → 0 < blocks → goal code at exit loop < blocks
  goal_good End at (Some to) loop room x l some = x
  goal_good End at None loop room x l some = omega arith
  goal_good (Set y e rest) at exit loop room x l some = omega (arith, some_blocks (is_some exit) rest)
  goal_good (Store width a e rest) at exit loop room x l some = omega (arith, some_blocks (is_some exit) rest)
  goal_good (Check check place e rest) at exit loop room x l some = omega (arith, some_blocks (is_some exit) rest)
  goal_good (Call target i es place rest) at exit loop room x l some = omega (arith, some_blocks (is_some exit) rest)
  goal_good (Get y rest) at exit loop room x l some = omega (arith, some_blocks (is_some exit) rest)
  goal_good (Put e rest) at exit loop room x l some = omega (arith, some_blocks (is_some exit) rest)
  goal_good (Alloc y e size rest) at exit loop room x l some = omega (arith, some_blocks (is_some exit) rest)
  goal_good (If e one two rest) at exit loop room x l some = omega arith
  goal_good (Loop body step rest) at exit loop room x l some = omega (arith, body_some body)
  goal_good (Break rest) at exit loop room x l some = out_good loop some l
  goal_good (Continue rest) at exit loop room x l some = step_good loop some l
  goal_good (Return e rest) at exit loop room x l some = omega arith
