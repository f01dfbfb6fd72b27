-- What is built runs the code.
use Rattle.std.proofs.Common.{◌≡◌, inl, inr, ℕ, zero, suc, ◌+◌, ◌≤◌, ◌<◌, arith, List, [], ◌∷◌, ◌++◌, length, length-append, append_assoc, append-nil, refl, sym, ◌∙◌, ap, subst}
use Rattle.std.specs.Prelude.{Bool, true, false, not, Option, Some, None, slice_get}
use Rattle.ckc_base.specs.Follows.{IsPrefix}
use Rattle.ckc_base.proofs.Following.{prefix_trans}
use Rattle.ckc_core.specs.Code.{Code, End, Set, Store, Check, Call, Get, Put, Alloc, If, Loop, Break, Continue, Return, Function}
use Rattle.ckc_core.specs.WellFormed.{IsCodeOver, IsFunctionOver}
use Rattle.ckc_tac.specs.declared.code.TacBlock.{TacBlock}
use Rattle.ckc_tac.specs.declared.code.Operand.{Operand}
use Rattle.ckc_tac.specs.declared.code.Operand.TheVariants.{Number}
use Rattle.ckc_tac.specs.declared.code.TacOp.{TacOp}
use Rattle.ckc_tac.specs.declared.code.TacOp.TheVariants as op
use Rattle.ckc_tac.specs.declared.code.TacEnd.{TacEnd}
use Rattle.ckc_tac.specs.declared.code.TacEnd.TheVariants as ends
use Rattle.ckc_lower.specs.declared.builder.Builder.{Builder}
use Rattle.ckc_lower.specs.declared.builder.Targets.{Targets}
use Rattle.ckc_lower.specs.code.Terms.{term_of, base_of}
use Rattle.ckc_lower.specs.code.Built.{free_from, term_free, operand_of, term_operand, stores_at, registers_of, with_op, with_value, with_values, passes, goal, block_count, body_count, with_end, stored, used, one_at, two_at, behind_at, forked, join_of, entered, step_at, out_at, targets_of, out_of, step_of, built, test_of, checked_test, branch_of}
use Rattle.ckc_lower.specs.code.Lowered.{empty, whole}
use Rattle.ckc_lower.proofs.Values.{term_ops, value_ops}
use Rattle.ckc_lower.proofs.Arguments.{values_ops}
use Rattle.ckc_lower.proofs.Relation.{Runs, RunsAt, LeadsTo, check_op}
use Rattle.ckc_lower.proofs.Appending.{test_ops, sides, sides-ops, sides-blocks, value-ops, value-blocks, values-ops, values-blocks, stored-ops, stored-blocks, used-ops, used-blocks, built-blocks, built-ops, ended-length, is_some, IsEmptyWhere, empty_where, jump-ops, built-length, some_blocks, body_some, IsExitGood, IsLoopGood, out_good, step_good, goal_good}

get_behind : {X : Type 0} (xs ys : List X) (y : X) → slice_get ((xs ++ y ∷ []) ++ ys) (length xs) ≡ Some y
get_behind [] ys y = refl
get_behind (x ∷ xs) ys y = get_behind xs ys y

-- the block that is ended stands at its number in every list that goes on from there
ended_at : (b : Builder) (end : TacEnd) (blocks : List TacBlock) → IsPrefix (with_end b end).blocks blocks → slice_get blocks (length b.blocks) ≡ Some (record { ops = b.ops; end = end })
ended_at b end blocks p =
    ap (λ (x : List TacBlock). slice_get x (length b.blocks)) p.1 ∙ get_behind b.blocks p.0 (record { ops = b.ops; end = end })

-- The block that a builder has open runs the code after the operations that it has so far.
pub record Opens (blocks : List TacBlock) (t : ℕ) (code : Code) (exit : Option ℕ) (loop : Option Targets) (b : Builder) : Type 0 where
  pub block : TacBlock
  pub more : List TacOp
  pub at : slice_get blocks (length b.blocks) ≡ Some block
  pub begins : block.ops ≡ b.ops ++ more
  pub runs : Runs blocks t code more block.end exit loop

-- a block that is open without operations is where the code runs
runs_at : (blocks : List TacBlock) (t i : ℕ) (code : Code) (exit : Option ℕ) (loop : Option Targets) (b : Builder) → Opens blocks t code exit loop b → b.ops ≡ [] → length b.blocks ≡ i → RunsAt blocks t i code exit loop
runs_at blocks t i code exit loop b o none e =
    let same : o.block.ops ≡ o.more = o.begins ∙ ap (λ x. x ++ o.more) none in (
      o.block,
      subst (λ n. slice_get blocks n ≡ Some o.block) e o.at,
      subst (λ x. Runs blocks t code x o.block.end exit loop) (sym same) o.runs,
    )

-- the same block opens a statement and, after its operations, what comes after the statement
widened : (blocks : List TacBlock) (t : ℕ) (code rest : Code) (exit : Option ℕ) (loop : Option Targets) (b c : Builder) (new : List TacOp)
    → c.blocks ≡ b.blocks → c.ops ≡ b.ops ++ new
    → ((more : List TacOp) (end : TacEnd) → Runs blocks t rest more end exit loop → Runs blocks t code (new ++ more) end exit loop)
    → Opens blocks t rest exit loop c → Opens blocks t code exit loop b
widened blocks t code rest exit loop b c new at_blocks at_ops step o = record {
  block = o.block;
  more = new ++ o.more;
  at = subst (λ (x : List TacBlock). slice_get blocks (length x) ≡ Some o.block) at_blocks o.at;
  begins = o.begins ∙ ap (λ x. x ++ o.more) at_ops ∙ append_assoc b.ops new o.more;
  runs = step o.more o.block.end o.runs;
}

-- a block that ends here
closed : (blocks : List TacBlock) (t : ℕ) (code : Code) (exit : Option ℕ) (loop : Option Targets) (b c : Builder) (new : List TacOp) (end : TacEnd)
    → c.blocks ≡ b.blocks → c.ops ≡ b.ops ++ new → IsPrefix (with_end c end).blocks blocks → Runs blocks t code new end exit loop → Opens blocks t code exit loop b
closed blocks t code exit loop b c new end at_blocks at_ops p r = record {
  block = record { ops = c.ops; end = end };
  more = new;
  at = subst (λ (x : List TacBlock). slice_get blocks (length x) ≡ Some (record { ops = c.ops; end = end })) at_blocks (ended_at c end blocks p);
  begins = at_ops;
  runs = r;
}

no_more : (b : Builder) → b.ops ≡ b.ops ++ []
no_more b = sym (append-nil b.ops)

there_below : {X : Type 0} (xs : List X) (i : ℕ) → i < length xs → (x : X) × (slice_get xs i ≡ Some x)
there_below [] i h = absurd (omega arith)
there_below (x ∷ xs) zero h = (x, refl)
there_below (x ∷ xs) (suc i) h = there_below xs i (omega arith)

prefix_few : (xs ys : List TacBlock) → IsPrefix xs ys → length xs ≤ length ys
prefix_few xs ys p =
    let e : length ys ≡ length xs + length p.0 = ap length p.1 ∙ length-append xs p.0 in
    omega arith

-- code makes a block of the open one, unless it passes and the block is fresh
abbrev pub IsKept : (fresh : Bool) → Code → Option ℕ → Type 0
IsKept false code exit = Unit {0}
IsKept true End (Some to) = ⊥
IsKept true (Break rest) exit = ⊥
IsKept true (Continue rest) exit = ⊥
IsKept true code exit = Unit {0}

-- the body of a loop always makes one
body_kept : (body : Code) (exit : Option ℕ) → IsKept (not (passes body)) body exit
body_kept End exit = tt
body_kept (Set x e rest) exit = tt
body_kept (Store width a e rest) exit = tt
body_kept (Check check place e rest) exit = tt
body_kept (Call target i es place rest) exit = tt
body_kept (Get x rest) exit = tt
body_kept (Put e rest) exit = tt
body_kept (Alloc x e size rest) exit = tt
body_kept (If e one two rest) exit = tt
body_kept (Loop body step rest) exit = tt
body_kept (Break rest) exit = tt
body_kept (Continue rest) exit = tt
body_kept (Return e rest) exit = tt

module _ (functions : List Function) (blocks : List TacBlock) (t : ℕ) where
  abbrev IsExitThere : Option ℕ → Type 0
  IsExitThere exit = IsExitGood (length blocks) exit

  abbrev IsLoopThere : Option Targets → Type 0
  IsLoopThere loop = IsLoopGood (length blocks) loop

  -- a jump at the end of a list, or out of a loop
  jumped : (code : Code) (exit : Option ℕ) (loop : Option Targets) (b : Builder) (to : ℕ) → IsPrefix (with_end b (ends.Jump to)).blocks blocks
      → Runs blocks t code [] (ends.Jump to) exit loop → Opens blocks t code exit loop b
  jumped code exit loop b to p r = closed blocks t code exit loop b b [] (ends.Jump to) refl (no_more b) p r

  -- where control leads that is to run code after a fresh block
  led : (code : Code) (at : ℕ) (exit : Option ℕ) (loop : Option Targets) → IsExitThere exit → IsLoopThere loop → 0 < length blocks
      → (IsKept true code exit → RunsAt blocks t at code exit loop) → LeadsTo blocks t (goal code at exit loop) code exit loop
  led End at (Some to) loop x l some own = (refl, there_below blocks to x)
  led (Break rest) at exit loop x l some own = (refl, there_below blocks (out_of loop) (out_good (length blocks) loop some l))
  led (Continue rest) at exit loop x l some own = (refl, there_below blocks (step_of loop) (step_good (length blocks) loop some l))
  led code at exit loop x l some own = own tt

  pub opens : (code : Code) (looped fresh : Bool) (exit : Option ℕ) (loop : Option Targets) (b : Builder) → IsCodeOver functions t looped code
      → IsPrefix (built t fresh code exit loop b).blocks blocks → IsEmptyWhere fresh b → IsKept fresh code exit
      → IsExitThere exit → IsLoopThere loop → 0 < length blocks → Opens blocks t code exit loop b
  opens End looped false (Some to) loop b w p h k x l some = jumped End (Some to) loop b to p (refl, refl)
  opens End looped true (Some to) loop b w p h k x l some = absurd k
  opens End looped fresh None loop b w p h k x l some =
      closed blocks t End None loop b b [] (ends.Return (Number 0)) refl (no_more b) p (refl, refl)
  opens (Set y e rest) looped fresh exit loop b w p h k x l some =
      let c = with_value e (Some y) t b in
      widened blocks t (Set y e rest) rest exit loop b c (value_ops e (Some y) t) (value-blocks e (Some y) t b) (value-ops e (Some y) t b)
      (λ more end r. (more, refl, w.1, r)) (opens rest looped false exit loop c w.2 p tt tt x l some)
  opens (Store width a e rest) looped fresh exit loop b w p h k x l some =
      let y = base_of (term_of a) in
      let c = stored t y (term_of e) (stores_at width a) b in
      let u = term_free y t in
      let last = stores_at width a (term_operand y None t) (operand_of e None u) in
      widened blocks t (Store width a e rest) rest exit loop b c (term_ops y None t ++ (value_ops e None u ++ last ∷ []))
      (stored-blocks t y (term_of e) (stores_at width a) b) (stored-ops t y (term_of e) (stores_at width a) b)
      (λ more end r. (
        more,
        append_assoc (term_ops y None t) (value_ops e None u ++ last ∷ []) more ∙ ap (λ x. term_ops y None t ++ x) (append_assoc (value_ops e None u) (last ∷ []) more),
        w.0,
        w.1,
        r,
      )) (opens rest looped false exit loop c w.2 p tt tt x l some)
  opens (Check check place e rest) looped fresh exit loop b w p h k x l some =
      let s = checked_test e in
      let o = op.Check check place s.comparison in
      let c = stored t (term_of s.left) (term_of s.right) o b in
      let u = free_from s.left t in
      let last = check_op check place t s in
      widened blocks t (Check check place e rest) rest exit loop b c (value_ops s.left None t ++ (value_ops s.right None u ++ last ∷ []))
      (stored-blocks t (term_of s.left) (term_of s.right) o b) (stored-ops t (term_of s.left) (term_of s.right) o b)
      (λ more end r. (
        more,
        append_assoc (value_ops s.left None t) (value_ops s.right None u ++ last ∷ []) more
            ∙ ap (λ x. value_ops s.left None t ++ x) (append_assoc (value_ops s.right None u) (last ∷ []) more),
        w.1,
        r,
      )) (opens rest looped false exit loop c w.2 p tt tt x l some)
  opens (Call target i es place rest) looped fresh exit loop b w p h k x l some =
      let last = op.Call target i (registers_of es t) place in
      let v = with_values es t b in
      let c = with_op v last in
      widened blocks t (Call target i es place rest) rest exit loop b c (values_ops es t ++ last ∷ [])
      (values-blocks es t b) (ap (λ x. x ++ last ∷ []) (values-ops es t b) ∙ append_assoc b.ops (values_ops es t) (last ∷ []))
      (λ more end r. (more, append_assoc (values_ops es t) (last ∷ []) more, w.2, r)) (opens rest looped false exit loop c w.4 p tt tt x l some)
  opens (Get y rest) looped fresh exit loop b w p h k x l some =
      let c = with_op b (op.Get y) in
      widened blocks t (Get y rest) rest exit loop b c (op.Get y ∷ []) refl refl (λ more end r. (more, refl, r)) (opens rest looped false exit loop c w.1 p tt tt x l some)
  opens (Put e rest) looped fresh exit loop b w p h k x l some =
      let c = used t e op.Put b in
      let last = op.Put (operand_of e None t) in
      widened blocks t (Put e rest) rest exit loop b c (value_ops e None t ++ last ∷ [])
      (used-blocks t e op.Put b) (used-ops t e op.Put b)
      (λ more end r. (more, append_assoc (value_ops e None t) (last ∷ []) more, w.0, r)) (opens rest looped false exit loop c w.1 p tt tt x l some)
  opens (Alloc y e size rest) looped fresh exit loop b w p h k x l some =
      let o : Operand → TacOp = λ r. op.Alloc y r size in
      let c = used t e o b in
      let last = op.Alloc y (operand_of e None t) size in
      widened blocks t (Alloc y e size rest) rest exit loop b c (value_ops e None t ++ last ∷ [])
      (used-blocks t e o b) (used-ops t e o b)
      (λ more end r. (more, append_assoc (value_ops e None t) (last ∷ []) more, w.1, r)) (opens rest looped false exit loop c w.3 p tt tt x l some)
  opens (If e one two rest) looped fresh exit loop b w p h k x l some =
      let first = one_at b in
      let second = two_at one b in
      let third = behind_at one two b in
      let join = join_of one two rest exit loop b in
      let s = test_of e false in
      let v = sides t s b in
      let fork = branch_of s t (goal one first (Some join) loop) (goal two second (Some join) loop) in
      let c = forked t e one two join loop b in
      let d = built t true one (Some join) loop c in
      let f = built t true two (Some join) loop d in
      let g = built t true rest exit loop f in
      let from_f : IsPrefix f.blocks blocks = prefix_trans f.blocks g.blocks blocks (built-blocks t true rest exit loop f) p in
      let from_d : IsPrefix d.blocks blocks = prefix_trans d.blocks f.blocks blocks (built-blocks t true two (Some join) loop d) from_f in
      let from_c : IsPrefix c.blocks blocks = prefix_trans c.blocks d.blocks blocks (built-blocks t true one (Some join) loop c) from_d in
      let at_c : length c.blocks ≡ first = ended-length v fork ∙ ap (λ x. length x + 1) (sides-blocks t s b) in
      let at_d : length d.blocks ≡ second = built-length t true one (Some join) loop c ∙ ap (λ n. n + block_count true true one) at_c in
      let at_f : length f.blocks ≡ third = built-length t true two (Some join) loop d ∙ ap (λ n. n + block_count true true two) at_d in
      let at_g : length g.blocks ≡ length f.blocks + block_count true (is_some exit) rest = built-length t true rest exit loop f in
      let most : length g.blocks ≤ length blocks = prefix_few g.blocks blocks p in
      let y : join < length blocks = goal_good (length blocks) rest third exit loop (omega arith) x l some in
      let in_d = built-ops t true one (Some join) loop c refl in
      let in_f = built-ops t true two (Some join) loop d in_d in
      closed blocks t (If e one two rest) exit loop b v (test_ops t s) fork (sides-blocks t s b) (sides-ops t s b) from_c (
        goal one first (Some join) loop,
        goal two second (Some join) loop,
        join,
        refl,
        refl,
        w.0,
        led one first (Some join) loop y l some
            (λ k. runs_at blocks t first one (Some join) loop c (opens one looped true (Some join) loop c w.1 from_d refl k y l some) refl at_c),
        led two second (Some join) loop y l some
            (λ k. runs_at blocks t second two (Some join) loop d (opens two looped true (Some join) loop d w.2 from_f in_d k y l some) in_d at_d),
        led rest third exit loop x l some
            (λ k. runs_at blocks t third rest exit loop f (opens rest looped true exit loop f w.3 p in_f k x l some) in_f at_f),
      )
  opens (Loop body step rest) looped fresh exit loop b w p h k x l some =
      let c = entered fresh b in
      let head = length c.blocks in
      let second = step_at body head in
      let third = out_at body step head in
      let targets = targets_of body step rest exit loop head in
      let first = not (passes body) in
      let d = built t first body (Some targets.step) (Some targets) c in
      let f = built t true step (Some head) None d in
      let g = built t true rest exit loop f in
      let from_f : IsPrefix f.blocks blocks = prefix_trans f.blocks g.blocks blocks (built-blocks t true rest exit loop f) p in
      let from_d : IsPrefix d.blocks blocks = prefix_trans d.blocks f.blocks blocks (built-blocks t true step (Some head) None d) from_f in
      let from_c : IsPrefix c.blocks blocks = prefix_trans c.blocks d.blocks blocks (built-blocks t first body (Some targets.step) (Some targets) c) from_d in
      let at_d : length d.blocks ≡ second = built-length t first body (Some targets.step) (Some targets) c in
      let at_f : length f.blocks ≡ third = built-length t true step (Some head) None d ∙ ap (λ n. n + block_count true true step) at_d in
      let at_g : length g.blocks ≡ length f.blocks + block_count true (is_some exit) rest = built-length t true rest exit loop f in
      let most : length g.blocks ≤ length blocks = prefix_few g.blocks blocks p in
      let one : 1 ≤ body_count body = body_some body in
      let y : head < length blocks = omega arith in
      let out : targets.out < length blocks = goal_good (length blocks) rest third exit loop (omega arith) x l some in
      let next : targets.step < length blocks = goal_good (length blocks) step second (Some head) None (omega arith) y tt some in
      let in_c : c.ops ≡ [] = jump-ops fresh (length b.blocks + 1) b h in
      let in_d = built-ops t first body (Some targets.step) (Some targets) c (empty_where first c in_c) in
      let in_f = built-ops t true step (Some head) None d in_d in
      let open_body = opens body true first (Some targets.step) (Some targets) c w.0 from_d (empty_where first c in_c) (body_kept body (Some targets.step)) next (out, next) some in
      let body_runs = runs_at blocks t head body (Some targets.step) (Some targets) c open_body in_c refl in
      let step_runs = led step second (Some head) None y tt some
      (λ k. runs_at blocks t second step (Some head) None d (opens step false true (Some head) None d w.1 from_f in_d k y tt some) in_d at_d) in
      let behind = led rest third exit loop x l some
      (λ k. runs_at blocks t third rest exit loop f (opens rest looped true exit loop f w.2 p in_f k x l some) in_f at_f) in
      looping fresh b h from_c body_runs step_runs behind
    where
      looping : (fresh : Bool) (b : Builder) → IsEmptyWhere fresh b → IsPrefix (entered fresh b).blocks blocks
          → RunsAt blocks t (length (entered fresh b).blocks) body (Some (targets_of body step rest exit loop (length (entered fresh b).blocks)).step) (Some (targets_of body step rest exit loop (length (entered fresh b).blocks)))
          → LeadsTo blocks t (targets_of body step rest exit loop (length (entered fresh b).blocks)).step step (Some (length (entered fresh b).blocks)) None
          → LeadsTo blocks t (targets_of body step rest exit loop (length (entered fresh b).blocks)).out rest exit loop
          → Opens blocks t (Loop body step rest) exit loop b
      looping true b h p r s behind = record {
        block = r.0;
        more = r.0.ops;
        at = r.1;
        begins = ap (λ x. x ++ r.0.ops) (sym h);
        runs = (length b.blocks, (targets_of body step rest exit loop (length b.blocks)).step, (targets_of body step rest exit loop (length b.blocks)).out, inr (r.0, r.1, refl, refl), r, s, behind);
      }
      looping false b h p r s behind =
          let head = length (entered false b).blocks in
          let next : length (entered false b).blocks ≡ length b.blocks + 1 = ended-length b (ends.Jump (length b.blocks + 1)) in
          closed blocks t (Loop body step rest) exit loop b b [] (ends.Jump (length b.blocks + 1)) refl (no_more b) p (
            head,
            (targets_of body step rest exit loop head).step,
            (targets_of body step rest exit loop head).out,
            inl (refl, ap ends.Jump (sym next)),
            r,
            s,
            behind,
          )
  opens (Break rest) looped false exit loop b w p h k x l some = jumped (Break rest) exit loop b (out_of loop) p (refl, refl)
  opens (Break rest) looped true exit loop b w p h k x l some = absurd k
  opens (Continue rest) looped false exit loop b w p h k x l some = jumped (Continue rest) exit loop b (step_of loop) p (refl, refl)
  opens (Continue rest) looped true exit loop b w p h k x l some = absurd k
  opens (Return e rest) looped fresh exit loop b w p h k x l some =
      closed blocks t (Return e rest) exit loop b (with_value e None t b) (value_ops e None t) (ends.Return (operand_of e None t)) (value-blocks e None t b) (value-ops e None t b) p (refl, refl, w.0)

-- the body of a function makes a block of the first one
pub function_kept : (functions : List Function) (t : ℕ) (code : Code) → IsCodeOver functions t false code → IsKept true code None
function_kept functions t (Break rest) w = let e : false ≡ true = w.0 in cc
function_kept functions t (Continue rest) w = let e : false ≡ true = w.0 in cc
function_kept functions t code w = tt

function_count : (functions : List Function) (t : ℕ) (code : Code) → IsCodeOver functions t false code → 1 ≤ block_count true false code
function_count functions t (Break rest) w = let e : false ≡ true = w.0 in cc
function_count functions t (Continue rest) w = let e : false ≡ true = w.0 in cc
function_count functions t End w = omega arith
function_count functions t (Loop body step rest) w = omega (arith, body_some body)
function_count functions t (If e one two rest) w = omega arith
function_count functions t (Return e rest) w = omega arith
function_count functions t (Set x e rest) w = some_blocks false rest
function_count functions t (Store width a e rest) w = some_blocks false rest
function_count functions t (Check check place e rest) w = some_blocks false rest
function_count functions t (Call target i es place rest) w = some_blocks false rest
function_count functions t (Get x rest) w = some_blocks false rest
function_count functions t (Put e rest) w = some_blocks false rest
function_count functions t (Alloc x e size rest) w = some_blocks false rest

-- a function has a block
pub function_some : (functions : List Function) (f : Function) → IsFunctionOver functions f → 0 < length (whole f).blocks
function_some functions f w =
    let e = built-length f.locals true f.body None None (empty f.locals) in
    omega (arith, e, function_count functions f.locals f.body w.1)
