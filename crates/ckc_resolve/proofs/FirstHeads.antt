-- The table of functions with a body, as items are put from the last to the first.
use Rattle.std.proofs.Common.{◌≡◌, ◌<◌, ℕ, suc, ◌+◌, ◌-◌, Bool, true, false, List, ◌∷◌, length, drop, get_or, drop-cons, cond, Some, Bor, refl, sym, ap, ◌∙◌, subst, arith}
use Rattle.std.specs.Option.{option_map}
use Rattle.std.specs.Str.{bytes_eq}
use Rattle.std.specs.Map.{update}
use Rattle.ckc_syntax.specs.declared.tree.Item.TheVariants as item
use Rattle.indexmap.specs.IndexMap.{IndexMap, get_by}
use Rattle.ckc_resolve.specs.Spellings.{Spelling}
use Rattle.ckc_resolve.specs.Trees.{Item, Head, Stmt}
use Rattle.ckc_resolve.specs.Same.{same_head}
use Rattle.ckc_resolve.specs.Items.{head_or, first_head, is_same}
use Rattle.ckc_resolve.specs.code.Bodies.{HasFirstHeads}

-- the item before those that were put
pub before : (all : List Item) (k : ℕ) (i : Item) → k < length all → i ≡ get_or all (length all - 1 - k) i → drop (length all - (k + 1)) all ≡ i ∷ drop (length all - k) all
before all k i h is =
    let n : ℕ = length all - 1 - k in
    let here : n < length all = omega (arith, h) in
    let low : length all - (k + 1) ≡ n = omega (arith, h) in
    let high : length all - k ≡ suc n = omega (arith, h) in
    ap (λ j. drop j all) low ∙ drop-cons all n i here ∙ ap (λ x. x ∷ drop (suc n) all) (sym is) ∙ ap (λ j. i ∷ drop j all) (sym high)

module _ {S : Type 0} (heads new : IndexMap (Bor Spelling) (Bor Head) S) (rest : List Item) (kept : HasFirstHeads heads rest) where
  pub put : (g : Head) (body : Stmt) (text : Spelling) (h : Bor Head) → text ≡ g.name → h.now ≡ g
      → ((s : Spelling) → get_by (λ k. bytes_eq s k.now) new ≡ update bytes_eq (λ s. get_by (λ k. bytes_eq s k.now) heads) text (Some h) s)
      → HasFirstHeads new (item.Function g body ∷ rest)
  put g body text h is at up s = ap (option_map (λ h. h.now)) (up s) ∙ by (bytes_eq text s) (bytes_eq g.name s) (ap (λ t. bytes_eq t s) is)
    where
      by : (a b : Bool) → a ≡ b → option_map (λ (h : Bor Head). h.now) (cond a (Some h) (get_by (λ k. bytes_eq s k.now) heads)) ≡ cond b (Some g) (first_head s rest)
      by true true e = ap Some at
      by false false e = kept s
      by true false e = cc
      by false true e = cc

pub passed : {S : Type 0} (heads : IndexMap (Bor Spelling) (Bor Head) S) (rest : List Item) (i : Item)
    → ((g : Head) (body : Stmt) → i ≡ item.Function g body → ⊥) → HasFirstHeads heads rest → HasFirstHeads heads (i ∷ rest)
passed heads rest i none kept s = kept s ∙ sym (by i none)
  where
    by : (j : Item) → ((g : Head) (body : Stmt) → j ≡ item.Function g body → ⊥) → head_or (first_head s rest) s j ≡ first_head s rest
    by (item.Function g body) h = absurd (h g body refl)
    by (item.Directive d) h = refl
    by (item.Tag n pos) h = refl
    by (item.Struct n members pos) h = refl
    by (item.Static d) h = refl
    by (item.Proto h) none = refl

pub seen : {S : Type 0} (heads found : IndexMap (Bor Spelling) (Bor Head) S) (rest more : List Item) → found ≡ heads → more ≡ rest → HasFirstHeads heads rest → HasFirstHeads found more
seen heads found rest more f m kept = subst (λ h. HasFirstHeads h more) (sym f) (subst (HasFirstHeads heads) (sym m) kept)

pub found : {S : Type 0} (heads : IndexMap (Bor Spelling) (Bor Head) S) (items : List Item) (text s : Spelling) (h : Bor Head) (g : Head) (b : Bool)
    → HasFirstHeads heads items → text ≡ s → Some h ≡ get_by (λ k. bytes_eq text k.now) heads → b ≡ same_head g h.now → b ≡ is_same g (first_head s items)
found heads items text s h g b kept same at e = e ∙ ap (is_same g) (ap (option_map (λ h. h.now)) at ∙ kept text ∙ ap (λ t. first_head t items) same)
