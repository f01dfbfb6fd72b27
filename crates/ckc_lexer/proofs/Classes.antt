-- Items by the class of their first byte.
use Rattle.std.proofs.Common.{◌≡◌, ℕ, ◌<◌, List, take, get_or, sym, ap, ◌∙◌, subst, arith, get_or-take}
use Rattle.ckc_lexer.specs.declared.bytes.Class.{Class}
use Rattle.ckc_lexer.specs.declared.items.Item.{Item}
use Rattle.ckc_lexer.specs.declared.items.Context.{Context}
use Rattle.ckc_lexer.specs.Bytes.{class_of}
use Rattle.ckc_syntax.specs.Longest.{Longest}
use Rattle.ckc_lexer.specs.Spelling.{SpelledBy, Spells}

class_in_front : (text : List ℕ) (m : ℕ) → 0 < m → class_of (get_or (take m text) 0 0) ≡ class_of (get_or text 0 0)
class_in_front text m some = ap class_of (get_or-take m text 0 0 some)

-- the longest item of the first byte's class is the longest item
pub by_class : (context : Context) (class : Class) (text : List ℕ) (n : ℕ) (item : Item) → class_of (get_or text 0 0) ≡ class → Longest (SpelledBy class context) text n item → Longest (Spells context) text n item
by_class context class text n item at l = record {
  some = l.some;
  within = l.within;
  spelled = subst (λ c. SpelledBy c context (take n text) item) (sym (class_in_front text n l.some ∙ at)) l.spelled;
  longest = λ m other lt le s. l.longest m other lt le (subst (λ c. SpelledBy c context (take m text) other) (class_in_front text m (let k = l.some in omega arith) ∙ at) s);
}
