-- The longest comment at the front of a text.
use Rattle.std.proofs.Common.{◌≡◌, ℕ, ◌+◌, ◌-◌, ◌<◌, ◌≤◌, List, [], ◌∷◌, length, take, get_or, sym, refl, ap, ◌∙◌, subst, arith, length-take-le, get_or-take}
use Rattle.std.proofs.lemmas.List.{take-take}
use Rattle.ckc_lexer.specs.declared.items.Item.{Item}
use Rattle.ckc_lexer.specs.declared.items.Item.TheVariants.{Gap, Token}
use Rattle.ckc_syntax.specs.declared.tokens.TokenKind.TheVariants.{Mark}
use Rattle.ckc_syntax.specs.Longest.{Longest}
use Rattle.ckc_lexer.specs.Comments.{IsOpen, IsClosed, IsSlashItem, mark, division, line, closed, open_at_end}
use Rattle.ckc_lexer.proofs.MarkFronts.{take_two}

front_of : (text : List ℕ) (m : ℕ) → 0 < m → m ≤ length text → take (length (take m text) - 1) (take m text) ≡ take (m - 1) text
front_of text m some le = let size = length-take-le m text le in ap (λ i. take (i - 1) (take m text)) size ∙ take-take (m - 1) m text (omega arith)

open_ends : (text : List ℕ) (len m : ℕ) → len + 1 < m → m ≤ length text → 2 ≤ len → get_or text len 0 ≡ 42 → get_or text (len + 1) 0 ≡ 47 → IsOpen (take m text) → ⊥
open_ends text len m lt le behind at_star at_slash o =
    let size = length-take-le m text le in
    o.no_end len behind (omega arith) (get_or-take m text len 0 (omega arith) ∙ at_star) (get_or-take m text (len + 1) 0 (omega arith) ∙ at_slash)

too_long : (text : List ℕ) (len m : ℕ) (other : Item) → len + 2 < m → m ≤ length text → 2 ≤ len → get_or text 1 0 ≡ 42 → get_or text len 0 ≡ 42 → get_or text (len + 1) 0 ≡ 47 → IsSlashItem (take m text) other → ⊥
too_long text len m other lt le behind star at_star at_slash (mark one e) = let size = length-take-le m text le in omega arith
too_long text len m other lt le behind star at_star at_slash (division two e) = let size = length-take-le m text le in let l = ap length two in omega arith
too_long text len m other lt le behind star at_star at_slash (line l e) = let size = length-take-le m text le in let first = get_or-take m text 1 0 (omega arith) in omega (arith, l.1, first, star)
too_long text len m other lt le behind star at_star at_slash (closed c e) =
    let size = length-take-le m text le in
    let front : take (length (take m text) - 1) (take m text) ≡ take (m - 1) text = front_of text m (omega arith) le in
    open_ends text len (m - 1) (omega arith) (omega arith) behind at_star at_slash (subst IsOpen front c.open_before)
too_long text len m other lt le behind star at_star at_slash (open_at_end o e) = open_ends text len m (omega arith) le behind at_star at_slash o

-- a closed comment has a star after its slash
pub closed_star : (w : List ℕ) → IsClosed w → get_or w 1 0 ≡ 42
closed_star w c = sym (get_or-take (length w - 1) w 1 0 (omega (arith, c.whole))) ∙ c.open_before.star

not_comment : (text : List ℕ) (m : ℕ) (other : Item) → 2 < m → m ≤ length text → (get_or text 1 0 ≡ 47 → ⊥) → (get_or text 1 0 ≡ 42 → ⊥) → IsSlashItem (take m text) other → ⊥
not_comment text m other lt le no_slash no_star (mark one e) = let size = length-take-le m text le in omega arith
not_comment text m other lt le no_slash no_star (division two e) = let size = length-take-le m text le in let l = ap length two in omega arith
not_comment text m other lt le no_slash no_star (line l e) = no_slash (sym (get_or-take m text 1 0 (omega arith)) ∙ l.1)
not_comment text m other lt le no_slash no_star (closed c e) = no_star (sym (get_or-take m text 1 0 (omega arith)) ∙ closed_star (take m text) c)
not_comment text m other lt le no_slash no_star (open_at_end o e) = no_star (sym (get_or-take m text 1 0 (omega arith)) ∙ o.star)

no_other : (b : ℕ) → b ≡ 61 → (b ≡ 47 → ⊥) × (b ≡ 42 → ⊥)
no_other b h = (λ e. omega arith, λ e. omega arith)

-- the mark `/=`
pub division_longest : (text : List ℕ) → 1 < length text → get_or text 0 0 ≡ 47 → get_or text 1 0 ≡ 61 → Longest IsSlashItem text 2 (Token Mark)
division_longest text h first second = record {
  some = omega arith;
  within = omega arith;
  spelled = division (take_two text h ∙ ap (λ z. z ∷ get_or text 1 0 ∷ []) first ∙ ap (λ z. 47 ∷ z ∷ []) second) refl;
  longest = λ m other lt le s. not_comment text m other lt le (no_other (get_or text 1 0) second).0 (no_other (get_or text 1 0) second).1 s;
}

not_slash_item : (text : List ℕ) (m : ℕ) (other : Item) → 1 < m → m ≤ length text → (get_or text 1 0 ≡ 47 → ⊥) → (get_or text 1 0 ≡ 42 → ⊥) → (get_or text 1 0 ≡ 61 → ⊥) → IsSlashItem (take m text) other → ⊥
not_slash_item text m other lt le no_slash no_star no_equals (mark one e) = let size = length-take-le m text le in omega arith
not_slash_item text m other lt le no_slash no_star no_equals (division two e) = no_equals (sym (get_or-take m text 1 0 lt) ∙ ap (λ z. get_or z 1 0) two)
not_slash_item text m other lt le no_slash no_star no_equals (line l e) = no_slash (sym (get_or-take m text 1 0 lt) ∙ l.1)
not_slash_item text m other lt le no_slash no_star no_equals (closed c e) = no_star (sym (get_or-take m text 1 0 lt) ∙ closed_star (take m text) c)
not_slash_item text m other lt le no_slash no_star no_equals (open_at_end o e) = no_star (sym (get_or-take m text 1 0 lt) ∙ o.star)

-- the mark `/`
pub slash_longest : (text : List ℕ) → 0 < length text → (1 < length text → get_or text 1 0 ≡ 47 → ⊥) → (1 < length text → get_or text 1 0 ≡ 42 → ⊥) → (1 < length text → get_or text 1 0 ≡ 61 → ⊥) →
    Longest IsSlashItem text 1 (Token Mark)
slash_longest text h no_slash no_star no_equals = record {
  some = omega arith;
  within = omega arith;
  spelled = let size = length-take-le 1 text (omega arith) in mark size refl;
  longest = λ m other lt le s. let more : 1 < length text = omega arith in not_slash_item text m other lt le (no_slash more) (no_star more) (no_equals more) s;
}

-- up to the first `*/`
pub closed_longest : (text : List ℕ) (len : ℕ) → 2 ≤ len → len + 1 < length text → get_or text 1 0 ≡ 42 → ((k : ℕ) → 2 ≤ k → k < len → get_or text k 0 ≡ 42 → get_or text (k + 1) 0 ≡ 47 → ⊥) → get_or text len 0 ≡ 42 → get_or text (len + 1) 0 ≡ 47 → Longest IsSlashItem text (len + 2) Gap
closed_longest text len behind within star no_end at_star at_slash =
    let size = length-take-le (len + 2) text (omega arith) in
    let inner = length-take-le (length (take (len + 2) text) - 1) (take (len + 2) text) (omega arith) in
    record {
      some = omega arith;
      within = omega arith;
      spelled = closed (record {
        whole = omega arith;
        open_before = record {
          begun = omega arith;
          star = get_or-take (length (take (len + 2) text) - 1) (take (len + 2) text) 1 0 (omega arith) ∙ get_or-take (len + 2) text 1 0 (omega arith) ∙ star;
          no_end = λ k low high s e. no_end k low (omega arith)
              (sym (get_or-take (length (take (len + 2) text) - 1) (take (len + 2) text) k 0 (omega arith) ∙ get_or-take (len + 2) text k 0 (omega arith)) ∙ s)
              (sym (get_or-take (length (take (len + 2) text) - 1) (take (len + 2) text) (k + 1) 0 (omega arith) ∙ get_or-take (len + 2) text (k + 1) 0 (omega arith)) ∙ e);
        };
        star = get_or-take (len + 2) text (length (take (len + 2) text) - 2) 0 (omega arith) ∙ (ap (λ i. get_or text i 0) (let e : length (take (len + 2) text) - 2 ≡ len = omega arith in e) ∙ at_star);
        slash = get_or-take (len + 2) text (length (take (len + 2) text) - 1) 0 (omega arith) ∙ (ap (λ i. get_or text i 0) (let e : length (take (len + 2) text) - 1 ≡ len + 1 = omega arith in e) ∙ at_slash);
      }) refl;
      longest = λ m other lt le s. too_long text len m other lt le behind star at_star at_slash s;
    }
