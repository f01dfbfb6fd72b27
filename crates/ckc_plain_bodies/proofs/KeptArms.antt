-- What an arm of `kept` gives, by what the calls in it give.
use Rattle.std.proofs.Common.{◌≡◌, ◌+◌, refl, sym, ap, ◌∙◌}
use Rattle.std.specs.Prelude.{ℕ, Bool, List, Option}
use Rattle.ckc_base.specs.declared.places.Pos.{Pos}
use Rattle.ckc_syntax.specs.declared.tree.TreeOp.{TreeOp}
use Rattle.ckc_syntax.specs.declared.tree.Node.TheVariants as node
use Rattle.ckc_syntax.specs.Trees.{NamedLimits, NamedExpr}
use Rattle.ckc_plain_barred.specs.declared.integers.Integers.{Integers}
use Rattle.ckc_plain_barred.specs.declared.forms.Form.{Form}
use Rattle.ckc_plain_barred.specs.declared.forms.Work.{Work}
use Rattle.ckc_plain_barred.specs.declared.forms.Work.TheVariants as work
use Rattle.ckc_plain_barred.specs.Forms.{work_of, form_of}
use Rattle.ckc_plain_bodies.specs.declared.pending.Pending.{Pending}
use Rattle.ckc_plain_bodies.specs.Taken.{expr_at, after, none_pending}
use Rattle.ckc_plain_bodies.specs.Expressions.{bounds_plain, expr_kept, expr_plain, exprs_plain, binary_parts}
use Rattle.ckc_plain_bodies.specs.code.Parts.{choice_at, choose_by, second_by, right_by}
use Rattle.ckc_plain_bodies.proofs.KeptNodes.{two_kept}

-- an answer in place of what it is
pub done : (whole : NamedExpr × Pending) (a r : NamedExpr) (q : Pending) → whole ≡ (a, q) → r ≡ a → whole ≡ (r, q)
done whole a r q w e = w ∙ ap (λ (z : NamedExpr). (z, q)) (sym e)

module _ {B : Type 0} (known : Integers) (p : Pending) (whole : B × Pending) where
  -- one part, which the code reads through its box
  pub one_part : (x y a : NamedExpr) (q : Pending) (f : NamedExpr → B)
      → whole ≡ after (expr_plain known x p) (λ b s. (f b, s)) → y ≡ x → expr_plain known y p ≡ (a, q) → whole ≡ (f a, q)
  one_part x y a q f w e m =
      w ∙ ap (λ z. after (expr_plain known z p) (λ b s. (f b, s))) (sym e)
      ∙ ap (λ (z : NamedExpr × Pending). after z (λ b s. (f b, s))) m

  pub two_parts : (x y a : NamedExpr) (q : Pending) (u v b : NamedExpr) (r : Pending) (f : NamedExpr → NamedExpr → B)
      → whole ≡ after (expr_plain known x p) (λ c s. after (expr_plain known u s) (λ d t. (f c d, t)))
      → y ≡ x → expr_plain known y p ≡ (a, q) → v ≡ u → expr_plain known v q ≡ (b, r) → whole ≡ (f a b, r)
  two_parts x y a q u v b r f w e m g n =
      w ∙ ap (λ z. after (expr_plain known z p) (λ c s. after (expr_plain known u s) (λ d t. (f c d, t)))) (sym e)
      ∙ ap (λ (z : NamedExpr × Pending). after z (λ c s. after (expr_plain known u s) (λ d t. (f c d, t)))) m
      ∙ ap (λ z. after (expr_plain known z q) (λ d t. (f a d, t))) (sym g)
      ∙ ap (λ (z : NamedExpr × Pending). after z (λ d t. (f a d, t))) n

  pub three_parts : (x y a : NamedExpr) (q : Pending) (u v b : NamedExpr) (r : Pending) (k l c : NamedExpr) (o : Pending) (f : NamedExpr → NamedExpr → NamedExpr → B)
      → whole ≡ after (expr_plain known x p) (λ i s. after (expr_plain known u s) (λ d t. after (expr_plain known k t) (λ h w. (f i d h, w))))
      → y ≡ x → expr_plain known y p ≡ (a, q) → v ≡ u → expr_plain known v q ≡ (b, r) → l ≡ k → expr_plain known l r ≡ (c, o) → whole ≡ (f a b c, o)
  three_parts x y a q u v b r k l c o f w e m g n h i =
      w ∙ ap (λ z. after (expr_plain known z p) (λ i s. after (expr_plain known u s) (λ d t. after (expr_plain known k t) (λ h w. (f i d h, w))))) (sym e)
      ∙ ap (λ (z : NamedExpr × Pending). after z (λ i s. after (expr_plain known u s) (λ d t. after (expr_plain known k t) (λ h w. (f i d h, w))))) m
      ∙ ap (λ z. after (expr_plain known z q) (λ d t. after (expr_plain known k t) (λ h w. (f a d h, w)))) (sym g)
      ∙ ap (λ (z : NamedExpr × Pending). after z (λ d t. after (expr_plain known k t) (λ h w. (f a d h, w)))) n
      ∙ ap (λ z. after (expr_plain known z r) (λ h w. (f a b h, w))) (sym h)
      ∙ ap (λ (z : NamedExpr × Pending). after z (λ h w. (f a b h, w))) i

  pub part_and_bounds : (x y a : NamedExpr) (q : Pending) (l : Option NamedLimits) (k : Option NamedLimits) (r : Pending) (f : NamedExpr → Option NamedLimits → B)
      → whole ≡ after (expr_plain known x p) (λ c s. after (bounds_plain known l s) (λ d t. (f c d, t)))
      → y ≡ x → expr_plain known y p ≡ (a, q) → bounds_plain known l q ≡ (k, r) → whole ≡ (f a k, r)
  part_and_bounds x y a q l k r f w e m n =
      w ∙ ap (λ z. after (expr_plain known z p) (λ c s. after (bounds_plain known l s) (λ d t. (f c d, t)))) (sym e)
      ∙ ap (λ (z : NamedExpr × Pending). after z (λ c s. after (bounds_plain known l s) (λ d t. (f c d, t)))) m
      ∙ ap (λ (z : Option NamedLimits × Pending). after z (λ d t. (f a d, t))) n

  pub arguments : (es fs : List NamedExpr) (made : List NamedExpr) (q : Pending) (f : List NamedExpr → B)
      → whole ≡ after (exprs_plain known es p) (λ b s. (f b, s)) → fs ≡ es → exprs_plain known fs p ≡ (made, q) → whole ≡ (f made, q)
  arguments es fs made q f w e m =
      w ∙ ap (λ z. after (exprs_plain known z p) (λ b s. (f b, s))) (sym e)
      ∙ ap (λ (z : List NamedExpr × Pending). after z (λ b s. (f b, s))) m

module _ (known : Integers) where
  second_is : (w : Work) (o : TreeOp) (x f : NamedExpr) (pos : Pos) (p : Pending)
      → after (binary_parts known w o (expr_kept known x) (expr_kept known f) pos p) (λ n q. (expr_at n pos, q)) ≡ after (expr_plain known x p) (λ a q. second_by known w o a f pos q)
  second_is work.Sets o x f pos p = refl
  second_is (work.Steps by) o x f pos p = refl
  second_is work.IfTrue o x f pos p = refl
  second_is work.IfFalse o x f pos p = refl
  second_is work.Computes o x f pos p = refl

  -- two operands: the first one, and then the rest
  pub two_done : (e : NamedExpr) (p : Pending) (w : Work) (o : TreeOp) (x y a : NamedExpr) (q : Pending) (f g : NamedExpr)
      → e.node ≡ node.Bin o x f → y ≡ x → g ≡ f → w ≡ work_of o → expr_plain known y p ≡ (a, q) → second_by known w o a g e.pos q ≡ expr_kept known e p
  two_done e p w o x y a q f g is one two by m =
      ap (λ (z : Work). second_by known z o a g e.pos q) by
      ∙ ap (λ (z : NamedExpr). second_by known (work_of o) o a z e.pos q) two
      ∙ ap (λ (z : NamedExpr × Pending). after z (λ b s. second_by known (work_of o) o b f e.pos s)) (sym m)
      ∙ ap (λ (z : NamedExpr). after (expr_plain known z p) (λ b s. second_by known (work_of o) o b f e.pos s)) one
      ∙ sym (second_is (work_of o) o x f e.pos p)
      ∙ sym (two_kept known e p o x f is)

  pub set_done : (w : Work) (o : TreeOp) (a e : NamedExpr) (pos : Pos) (p : Pending) (t : Form) (b : NamedExpr) (q : Pending)
      → w ≡ work.Sets → t ≡ form_of a → right_by known t e p ≡ (b, q) → second_by known w o a e pos p ≡ (expr_at (node.Bin o a b) pos, q)
  set_done w o a e pos p t b q is form m =
      ap (λ (z : Work). second_by known z o a e pos p) is
      ∙ ap (λ (z : NamedExpr × Pending). after z (λ c s. (expr_at (node.Bin o a c) pos, s))) (ap (λ (z : Form). right_by known z e p) (sym form) ∙ m)

  pub other_done : (w : Work) (o : TreeOp) (a e : NamedExpr) (pos : Pos) (p : Pending) (b : NamedExpr) (q : Pending)
      → ¬ (w ≡ work.Sets) → ¬ (w ≡ work.IfTrue) → ¬ (w ≡ work.IfFalse) → expr_plain known e p ≡ (b, q) → second_by known w o a e pos p ≡ (expr_at (node.Bin o a b) pos, q)
  other_done work.Sets o a e pos p b q set all any m = absurd (set refl)
  other_done (work.Steps by) o a e pos p b q set all any m = ap (λ (z : NamedExpr × Pending). after z (λ c s. (expr_at (node.Bin o a c) pos, s))) m
  other_done work.IfTrue o a e pos p b q set all any m = absurd (all refl)
  other_done work.IfFalse o a e pos p b q set all any m = absurd (any refl)
  other_done work.Computes o a e pos p b q set all any m = ap (λ (z : NamedExpr × Pending). after z (λ c s. (expr_at (node.Bin o a c) pos, s))) m

  pub choose_done : (o : TreeOp) (all : Bool) (a e : NamedExpr) (pos : Pos) (p : Pending) (n : ℕ) (i : Pending) (b : NamedExpr) (r : Pending)
      → n ≡ p.next + 1 → i ≡ none_pending n → expr_plain known e i ≡ (b, r) → choice_at o all pos a b r p ≡ choose_by known o all a e pos p
  choose_done o all a e pos p n i b r count is m =
      sym (ap (λ (z : NamedExpr × Pending). after z (λ c s. choice_at o all pos a c s p))
      (ap (λ (z : Pending). expr_plain known e z) (sym (is ∙ ap none_pending count)) ∙ m))
