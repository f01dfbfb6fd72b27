-- The outcome of reading a whole list of tokens, by the grammar.
use Rattle.std.proofs.Common.{◌≡◌, List, [], ◌∷◌, ◌++◌, refl, sym, ap, subst, ◌∙◌, append_assoc, append-nil, map}
use Rattle.std.proofs.lemmas.List.{append_cancel_right}
use Rattle.ckc_base.specs.declared.places.Pos.{Pos}
use Rattle.ckc_syntax.specs.Spelled.{Spelled}
use Rattle.ckc_syntax.specs.declared.tokens.TokenKind.TheVariants as kinds
use Rattle.ckc_parser_grammar.specs.declared.kind.Kind.{Kind}
use Rattle.ckc_parser_grammar.specs.declared.kind.Kind.TheVariants as kind
use Rattle.ckc_parser_grammar.specs.code.Kinds.{kind_of_token}
use Rattle.ckc_parser_grammar.specs.code.Grammar.{Terminal, Part, n}
use Rattle.ckc_parser_grammar.specs.code.Values.{Value, tree}
use Rattle.ckc_parser_grammar.specs.code.Trees.{Tree}
use Rattle.ckc_parser_grammar.specs.code.Signs.{signs, signs_after, kind_after}
use Rattle.ckc_parser_grammar.specs.code.Marked.{place_of}
use Rattle.ckc_parser_grammar.specs.code.Derives.{Sign, before, Derives}
use Rattle.ckc_parser_grammar.specs.code.Derives as D
use Rattle.ckc_parser_grammar.specs.code.Reading.{kind_of, Takes, Stops}
use Rattle.ckc_parser_grammar.specs.code.Text.{start, DerivesValue}
use Rattle.ckc_grammar.specs.Text.{DerivesTree, Viable, FaultAt, IsFault}
use Rattle.ckc_grammar.specs.Derivation.{value}
use Rattle.ckc_parser_grammar.proofs.Marks.{last_of, signs_both, glued_no}
use Rattle.ckc_parser_grammar.proofs.Samples.{sample, sample_token}
use Rattle.ckc_parser_grammar.proofs.Theory.{complete, read_of, same_read, clash}
use Rattle.ckc_parser_grammar.proofs.Prefixes.{stopped_of, begun_of, relax}
use Rattle.ckc_parser_grammar.proofs.Onto.{trees, texts}
use Rattle.ckc_parser_grammar.proofs.Same.{back}

-- no token, after which the first one stands
abbrev pub nobody : Spelled
nobody = record { kind = kinds.Text; text = []; pos = record { line = 0; col = 0 } }

signs_is : (xs : List Spelled) → signs xs ≡ signs_after nobody xs
signs_is [] = refl
signs_is (x ∷ xs) = ap (λ k. record { kind = k; token = x } ∷ signs_after x xs) (sym (glued_no (kind_of_token x)))

-- a list of tokens with their kinds, cut in two
record Cut (x : Spelled) (xs : List Spelled) (front back : List Sign) : Type 0 where
  fs : List Spelled
  gs : List Spelled
  whole : xs ≡ fs ++ gs
  is_front : front ≡ signs_after x fs
  is_back : back ≡ signs_after (last_of x fs) gs

cut_of : (front : List Sign) (x : Spelled) (xs : List Spelled) (back : List Sign) → signs_after x xs ≡ front ++ back → Cut x xs front back
cut_of [] x xs back e = record { fs = []; gs = xs; whole = refl; is_front = refl; is_back = sym e }
cut_of (s ∷ front) x [] back e = absurd (cc)
cut_of (s ∷ front) x (y ∷ ys) back e =
    let tail : signs_after y ys ≡ front ++ back = cc in
    let head : record { kind = kind_after x y; token = y } ≡ s = cc in
    let c = cut_of front y ys back tail in
    record { fs = y ∷ c.fs; gs = c.gs; whole = ap (λ z. y ∷ z) c.whole; is_front = ap (λ z. z ∷ front) (sym head) ∙ ap (λ z. record { kind = kind_after x y; token = y } ∷ z) c.is_front; is_back = c.is_back }

one_value : {p : Part} {zs : List Sign} {k : Kind} {vs : List Value} → Derives (n p ∷ []) zs k vs → (v : Value) × (vs ≡ v ∷ [])
one_value (D.by {u = u} r us ys ws l d al mk D.nil e) = (u, refl)

cancel : (xs ys b : List Sign) → xs ++ b ≡ ys ++ b → xs ≡ ys
cancel xs ys b e = append_cancel_right xs ys b e

-- a whole list that derives is taken whole
pub whole_taken : (xs : List Spelled) (v : Value) → DerivesValue xs v → Takes (n start ∷ []) (signs xs) (v ∷ []) []
whole_taken xs v d = subst (λ z. Takes (n start ∷ []) z (v ∷ []) []) (append-nil (signs xs)) (complete d [] refl refl (λ k. refl))

viable_by : (fs : List Spelled) (front : List Sign) (cs : List Terminal) (vs : List Value) → front ≡ signs_after nobody fs →
    ((x : Spelled) → signs_after x (map sample_token cs) ≡ map sample cs) → Derives (n start ∷ []) (front ++ map sample cs) kind.End vs → Viable fs
viable_by fs front cs vs e real d =
    let v = one_value d in
    let ys = map sample_token cs in
    let same : front ++ map sample cs ≡ signs (fs ++ ys) =
    ap (λ z. z ++ map sample cs) e ∙ ap (λ z. signs_after nobody fs ++ z) (sym (real (last_of nobody fs))) ∙ sym (signs_both nobody fs ys) ∙ sym (signs_is (fs ++ ys)) in
    (ys, texts (fs ++ ys) v.0 (subst (λ z. Derives (n start ∷ []) z kind.End (v.0 ∷ [])) same (subst (λ z. Derives (n start ∷ []) (front ++ map sample cs) kind.End z) v.1 d)))

-- the tokens with one more, and what may follow it
more_signs : (fs : List Spelled) (x : Spelled) (ys : List Spelled) → signs ((fs ++ x ∷ []) ++ ys) ≡ signs_after nobody fs ++ (record { kind = kind_after (last_of nobody fs) x; token = x } ∷ signs_after x ys)
more_signs fs x ys = signs_is ((fs ++ x ∷ []) ++ ys) ∙ ap (λ z. signs_after nobody z) (append_assoc fs (x ∷ []) ys) ∙ signs_both nobody fs (x ∷ ys)

-- the place of the next token, or of the end
abbrev pub IsPlace : List Spelled → Pos → Pos → Type 0
IsPlace [] end pos = pos ≡ end
IsPlace (x ∷ more) end pos = pos ≡ x.pos

stop_at : (xs : List Spelled) (end : Pos) (b : List Sign) (pos : Pos) (fs gs : List Spelled) (front : List Sign) → xs ≡ fs ++ gs → front ≡ signs_after nobody fs →
    b ≡ signs_after (last_of nobody fs) gs → Stops (n start ∷ []) (signs xs) b →
    ((other : List Sign) → kind_of other ≡ kind_of b → Stops (n start ∷ []) (front ++ other) other) → IsPlace gs end pos → FaultAt fs gs end pos
stop_at xs end b pos fs [] front w f e s moved h =
    (h, λ d. clash (whole_taken fs (tree (value d)) (back fs d)) b (subst (λ z. Stops (n start ∷ []) (signs z) b) (w ∙ append-nil fs) s))
stop_at xs end b pos fs (x ∷ more) front w f e s moved h = (
  h,
  λ viable.
      let ys = viable.0 in
      let other : List Sign = record { kind = kind_after (last_of nobody fs) x; token = x } ∷ signs_after x ys in
      let whole = tree (value viable.1) in
      let taken = whole_taken ((fs ++ x ∷ []) ++ ys) whole (back ((fs ++ x ∷ []) ++ ys) viable.1) in
      let split : signs ((fs ++ x ∷ []) ++ ys) ≡ front ++ other = more_signs fs x ys ∙ ap (λ z. z ++ other) (sym f) in
      clash (subst (λ z. Takes (n start ∷ []) z (whole ∷ []) []) split taken) other (moved other (ap kind_of (sym e))),
)

pub stop_fault : (xs : List Spelled) (end : Pos) (b : List Sign) → Stops (n start ∷ []) (signs xs) b → (pos : Pos) →
    ((fs gs : List Spelled) → xs ≡ fs ++ gs → b ≡ signs_after (last_of nobody fs) gs → IsPlace gs end pos) → IsFault xs end pos
stop_fault xs end b s pos place =
    let q = begun_of s refl kind.End refl in
    let c = cut_of q.front nobody xs b (sym (signs_is xs) ∙ q.whole) in
    let m = stopped_of s in
    let same = cancel m.front q.front b (sym m.whole ∙ q.whole) in (
      c.fs,
      c.gs,
      c.whole,
      viable_by c.fs q.front q.cs q.values c.is_front q.real q.derived,
      stop_at xs end b pos c.fs c.gs m.front c.whole (same ∙ c.is_front) c.is_back s m.moved (place c.fs c.gs c.whole c.is_back),
    )

take_at : (xs : List Spelled) (end : Pos) (b : List Sign) (v : Value) (pos : Pos) (fs gs : List Spelled) (front : List Sign) → front ≡ signs_after nobody fs →
    b ≡ signs_after (last_of nobody fs) gs → (b ≡ [] → ⊥) →
    ((other : List Sign) → kind_of other ≡ kind_of b → Takes (n start ∷ []) (front ++ other) (v ∷ []) other) → IsPlace gs end pos → FaultAt fs gs end pos
take_at xs end b v pos fs [] front f e some moved h = absurd (some e)
take_at xs end b v pos fs (x ∷ more) front f e some moved h = (
  h,
  λ viable.
      let ys = viable.0 in
      let other : List Sign = record { kind = kind_after (last_of nobody fs) x; token = x } ∷ signs_after x ys in
      let whole = tree (value viable.1) in
      let taken = whole_taken ((fs ++ x ∷ []) ++ ys) whole (back ((fs ++ x ∷ []) ++ ys) viable.1) in
      let split : signs ((fs ++ x ∷ []) ++ ys) ≡ front ++ other = more_signs fs x ys ∙ ap (λ z. z ++ other) (sym f) in
      let none : other ≡ [] = (same_read (moved other (ap kind_of (sym e))) (whole ∷ []) [] (subst (λ z. Takes (n start ∷ []) z (whole ∷ []) []) split taken)).1 in
      absurd (cc),
)

pub take_fault : (xs : List Spelled) (end : Pos) (b : List Sign) (v : Value) → Takes (n start ∷ []) (signs xs) (v ∷ []) b → (b ≡ [] → ⊥) → (pos : Pos) →
    ((fs gs : List Spelled) → xs ≡ fs ++ gs → b ≡ signs_after (last_of nobody fs) gs → IsPlace gs end pos) → IsFault xs end pos
take_fault xs end b v s some pos place =
    let q = read_of s in
    let c = cut_of q.front nobody xs b (sym (signs_is xs) ∙ q.whole) in
    let d = relax q.derived kind.End refl in (
      c.fs,
      c.gs,
      c.whole,
      viable_by c.fs q.front [] (v ∷ []) c.is_front (λ x. refl) (subst (λ z. Derives (n start ∷ []) z kind.End (v ∷ [])) (sym (append-nil q.front)) d),
      take_at xs end b v pos c.fs c.gs q.front c.is_front c.is_back some q.moved (place c.fs c.gs c.whole c.is_back),
    )

pub all_taken : (xs : List Spelled) (v : Value) → Takes (n start ∷ []) (signs xs) (v ∷ []) [] → DerivesValue xs v
all_taken xs v s = let q = read_of s in subst (λ z. Derives (n start ∷ []) z kind.End (v ∷ [])) (sym (q.whole ∙ append-nil q.front)) q.derived

pub place_is : (gs : List Spelled) (y : Spelled) (b : List Sign) (end : Pos) → b ≡ signs_after y gs → IsPlace gs end (place_of b end)
place_is [] y b end e = ap (λ z. place_of z end) e
place_is (x ∷ gs) y b end e = ap (λ z. place_of z end) e

-- the answers of a parser of the start
pub good_answer : (xs : List Spelled) (x : Tree) (a b : List Sign) → a ≡ signs xs → Takes (n start ∷ []) a (tree x ∷ []) b → b ≡ [] → DerivesTree xs x
good_answer xs x a b e d h = trees xs x (all_taken xs (tree x) (subst (λ z. Takes (n start ∷ []) (signs xs) (tree x ∷ []) z) h (subst (λ z. Takes (n start ∷ []) z (tree x ∷ []) b) e d)))

module _ (xs : List Spelled) (end : Pos) where
  pub more_answer : (v : Value) (a b : List Sign) (pos : Pos) → a ≡ signs xs → Takes (n start ∷ []) a (v ∷ []) b → (b ≡ [] → ⊥) → pos ≡ place_of b end → IsFault xs end pos
  more_answer v a b pos e d h k =
      take_fault xs end b v (subst (λ z. Takes (n start ∷ []) z (v ∷ []) b) e d) h pos
      (λ fs gs w is. subst (λ z. IsPlace gs end z) (sym k) (place_is gs (last_of nobody fs) b end is))

  pub stop_answer : (a b : List Sign) (pos : Pos) → a ≡ signs xs → Stops (n start ∷ []) a b → pos ≡ place_of b end → IsFault xs end pos
  stop_answer a b pos e d k =
      stop_fault xs end b (subst (λ z. Stops (n start ∷ []) z b) e d) pos
      (λ fs gs w is. subst (λ z. IsPlace gs end z) (sym k) (place_is gs (last_of nobody fs) b end is))
