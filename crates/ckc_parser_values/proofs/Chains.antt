-- Operands that are joined from the first on, where no operator is tighter than the one before it.
use Rattle.std.proofs.Common.{◌≡◌, ℕ, zero, suc, ◌<◌, ◌≤◌, ◌==◌, List, [], ◌∷◌, ◌++◌, append_assoc, Bool, true, false, refl, sym, ap, subst, ◌∙◌, arith}
use Rattle.std.specs.Bool.{OnTrue}
use Rattle.std.proofs.lemmas.Bool.Decides.{nat_tests}
use Rattle.ckc_syntax.specs.declared.tree.Node.TheVariants as node
use Rattle.ckc_parser_grammar.specs.code.Trees.{Expr, Step, expr_at, level, joined, joined_to, joined_at}
use Rattle.ckc_parser_grammar.proofs.Joining.{all_passes, nothing_left, attach_first, not_level}

-- a row of no operators joins nothing
pub alone : (e : Expr) → joined e [] ≡ e
alone e = all_passes e [] ∙ ap (λ c. c.0) (nothing_left 10 e)

abbrev bin : Expr → Step → Expr
bin e s = expr_at (node.Bin s.op e s.operand) s.pos

-- the first operator is not tighter than this
abbrev Below : ℕ → List Step → Type 0
Below l [] = 0 ≤ l
Below l (t ∷ ts) = level t.op ≤ l

-- the steps after a pass, where the first is of another level
abbrev later : ℕ → List Step → List Step
later m [] = []
later m (t ∷ ts) = (let rest = joined_at m t.operand ts in record { op = t.op; pos = t.pos; operand = rest.0 } ∷ rest.1)

apart : (m : ℕ) (b : Bool) (x : Expr) (t : Step) (ts : List Step) → (level t.op == m) ≡ b → b ≡ false → joined_at m x (t ∷ ts) ≡ (x, later m (t ∷ ts))
apart m false x t ts h k = rw h refl
apart m true x t ts h k = absurd (cc)

stays : (m l : ℕ) (x : Expr) (ts : List Step) → l ≤ m → Below l ts → joined_at (suc m) x ts ≡ (x, later (suc m) ts)
stays m l x [] h b = refl
stays m l x (t ∷ ts) h b = apart (suc m) (level t.op == suc m) x t ts refl (not_level (level t.op) (suc m) (λ e. grind (arith)))

below_later : (m l : ℕ) (ts : List Step) → Below l ts → Below l (later m ts)
below_later m l [] b = b
below_later m l (t ∷ ts) b = b

lower : (l m : ℕ) → (l == suc m) ≡ false → l ≤ suc m → l ≤ m
lower l m k h = grind (arith, nat_tests)

-- in a pass the first operator joins, or stays before what stays
first_pass : (m : ℕ) (e : Expr) (s : Step) (ts : List Step) (b : Bool) → (level s.op == suc m) ≡ b → Below (level s.op) ts → level s.op ≤ suc m →
    ((us : List Step) → Below (level s.op) us → level s.op ≤ m → joined_to m (e, s ∷ us) ≡ joined_to m (bin e s, us)) →
    joined_to m (joined_at (suc m) e (s ∷ ts)) ≡ joined_to m (joined_at (suc m) (bin e s) ts)
first_pass m e s ts true k b h again = ap (λ c. joined_to m c) (sym (attach_first (suc m) e (bin e s) s ts k refl))
first_pass m e s ts false k b h again =
    let less : level s.op ≤ m = lower (level s.op) m k h in
    ap (λ c. joined_to m c) (apart (suc m) false e s ts k refl ∙ ap (λ r. (e, record { op = s.op; pos = s.pos; operand = r.0 } ∷ r.1)) (stays m (level s.op) s.operand ts less b))
    ∙ again (later (suc m) ts) (below_later (suc m) (level s.op) ts b) less
    ∙ ap (λ c. joined_to m c) (sym (stays m (level s.op) (bin e s) ts less b))

down : (m : ℕ) (e : Expr) (s : Step) (ts : List Step) → Below (level s.op) ts → 0 < level s.op → level s.op ≤ m → joined_to m (e, s ∷ ts) ≡ joined_to m (bin e s, ts)
unfolding joined_to
down zero e s ts b p h = absurd (grind (arith))
down (suc m) e s ts b p h = first_pass m e s ts (level s.op == suc m) refl b h (λ us c k. down m e s us c p k)

pub joins_first : (e f : Expr) (s : Step) (ts : List Step) → Below (level s.op) ts → 0 < level s.op → level s.op ≤ 10 → f ≡ bin e s → joined e (s ∷ ts) ≡ joined f ts
joins_first e f s ts b p h w = all_passes e (s ∷ ts) ∙ ap (λ c. c.0) (down 10 e s ts b p h ∙ ap (λ z. joined_to 10 (z, ts)) (sym w)) ∙ sym (all_passes f ts)

pub last_joined : (e f : Expr) (s : Step) (b : Bool) → b ≡ true → OnTrue b ((0 < level s.op) × (level s.op ≤ 10) × (0 ≤ level s.op)) → f ≡ bin e s → f ≡ joined e (s ∷ [])
last_joined e f s true t (p, h, z) w = sym (joins_first e f s [] z p h w ∙ alone f)
last_joined e f s false t o w = absurd (cc)

pub next_joined : (e f whole : Expr) (s t : Step) (all ts : List Step) (b : Bool) (next : ℕ) → b ≡ true → OnTrue b ((0 < level s.op) × (level s.op ≤ 10) × (next ≤ level s.op)) → next ≡ level t.op → f ≡ bin e s → all ≡ t ∷ ts →
    whole ≡ joined e (s ∷ all) → whole ≡ joined f (t ∷ ts)
next_joined e f whole s t all ts true next k (p, h, b) l w m i = i ∙ ap (λ z. joined e (s ∷ z)) m ∙ joins_first e f s (t ∷ ts) (subst (λ z. z ≤ level s.op) l b) p h w
next_joined e f whole s t all ts false next k o l w m i = absurd (cc)

pub ends_joined : (e f whole : Expr) (s : Step) (rest : List Step) → rest ≡ [] → whole ≡ joined e (s ∷ rest) → f ≡ joined e (s ∷ []) → f ≡ whole
ends_joined e f whole s rest k i w = w ∙ sym (i ∙ ap (λ z. joined e (s ∷ z)) k)

-- steps that are taken from the end of a list stand on a stack
pub next_put : (whole old new all more : List Step) (x : Step) → old ≡ new ++ x ∷ [] → more ≡ x ∷ all → whole ≡ old ++ all → whole ≡ new ++ more
next_put whole old new all more x e k h = h ∙ ap (λ z. z ++ all) e ∙ append_assoc new (x ∷ []) all ∙ ap (λ z. new ++ z) (sym k)

pub all_put : (whole rest all : List Step) → rest ≡ [] → whole ≡ rest ++ all → all ≡ whole
all_put whole rest all e h = sym (h ∙ ap (λ z. z ++ all) e)
