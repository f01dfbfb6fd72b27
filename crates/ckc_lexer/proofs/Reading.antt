-- The loop that reads a text.
use Rattle.std.proofs.Common.{◌≡◌, ℕ, ◌+◌, ◌≤◌, Bool, true, false, ◌||◌, ◌&&◌, cond, List, [], ◌∷◌, ◌++◌, length, take, drop, map, Ok, Err, sym, refl, ap, ◌∙◌, subst, ⊎_elim, arith, length-take-le, length-drop}
use Rattle.std.proofs.lemmas.List.{map_push, append-nil}
use Rattle.std.proofs.lemmas.Bool.{cases_Bool}
use Rattle.ckc_syntax.specs.declared.tokens.Token as tokens
use Rattle.ckc_lexer.specs.declared.items.Item.{Item}
use Rattle.ckc_lexer.specs.declared.items.Item.TheVariants.{Gap, Token, Broken}
use Rattle.ckc_lexer.specs.declared.items.Here.{Here}
use Rattle.ckc_lexer.specs.Bytes.{is_feed, is_blank}
use Rattle.ckc_syntax.specs.Longest.{Longest}
use Rattle.ckc_lexer.specs.code.Reading.{step, moved}
use Rattle.ckc_lexer.specs.Spelling.{Spells}
use Rattle.ckc_syntax.specs.Spelled.{Spelled, spelled}
use Rattle.ckc_lexer.specs.Cut.{is_stdchecked}
use Rattle.ckc_base.specs.Outcomes.{Outcome}
use Rattle.ckc_base.proofs.Turns.{ahead, begin, ahead_twice}
use Rattle.ckc_lexer.specs.code.Reading.{context_at, pos_at, Reads, ends, breaks, skips, takes, start}

or_false : (b : Bool) → (b || false) ≡ b
or_false true = refl
or_false false = refl

-- a byte moves a place by one line or one column at most
step_bound : (here : Here) (b : ℕ) → ((step here b).line ≤ here.line + 1) × ((step here b).col ≤ here.col + 1)
step_bound here b = ⊎_elim
    (λ (h : is_feed b ≡ true). subst (λ t. ((cond {A = Here} t (record { line = here.line + 1; col = 1; fresh = true }) (record { line = here.line; col = here.col + 1; fresh = here.fresh && is_blank b })).line ≤ here.line + 1) × ((cond {A = Here} t (record { line = here.line + 1; col = 1; fresh = true }) (record { line = here.line; col = here.col + 1; fresh = here.fresh && is_blank b })).col ≤ here.col + 1)) (sym h) (omega arith, omega arith))
    (λ (h : is_feed b ≡ false). subst (λ t. ((cond {A = Here} t (record { line = here.line + 1; col = 1; fresh = true }) (record { line = here.line; col = here.col + 1; fresh = here.fresh && is_blank b })).line ≤ here.line + 1) × ((cond {A = Here} t (record { line = here.line + 1; col = 1; fresh = true }) (record { line = here.line; col = here.col + 1; fresh = here.fresh && is_blank b })).col ≤ here.col + 1)) (sym h) (omega arith, omega arith))
    (cases_Bool (is_feed b))

pub moved_bound : (here : Here) (w : List ℕ) → ((moved here w).line ≤ here.line + length w) × ((moved here w).col ≤ here.col + length w)
moved_bound here [] = (omega arith, omega arith)
moved_bound here (b ∷ w) = let k = moved_bound (step here b) w in let s = step_bound here b in (omega (arith, k.0, s.0), omega (arith, k.1, s.1))

-- What was read of a text: a reading from here is a reading from the start, with the tokens so far.
pub record ReadTo (text : List ℕ) (found : List tokens.Token) (here : Here) (checked : Bool) (rest : List ℕ) : Type 0 where
  pub on : (outcome : Outcome (List Spelled)) → Reads here checked rest outcome → Reads start false text (ahead (map spelled found) outcome)
  pub line : here.line + length rest ≤ 1 + length text
  pub col : here.col + length rest ≤ 1 + length text

pub read_none : (text : List ℕ) → ReadTo text [] start false text
read_none text = record {
  on = λ o r. subst (Reads start false text) (begin o [] refl) r;
  line = omega arith;
  col = omega arith;
}

module _ {text : List ℕ} {found : List tokens.Token} {here : Here} {checked : Bool} {rest : List ℕ} (before : ReadTo text found here checked rest) where
  pub read_gap : (n : ℕ) → Longest (Spells (context_at here checked)) rest n Gap → ReadTo text found (moved here (take n rest)) checked (drop n rest)
  read_gap n l =
      let size = length-take-le n rest l.within in
      let left = length-drop n rest in
      let k = moved_bound here (take n rest) in
      record {
        on = λ o r. before.on o (skips l r);
        line = omega (arith, k.0, before.line, l.within);
        col = omega (arith, k.1, before.col, l.within);
      }

  pub read_token : (n : ℕ) (token : tokens.Token) → Longest (Spells (context_at here checked)) rest n (Token token.kind) → token.text.now ≡ take n rest → token.pos ≡ pos_at here → ReadTo text (found ++ token ∷ []) (moved here (take n rest)) (checked || is_stdchecked (Token token.kind)) (drop n rest)
  read_token n token l text_is pos_is =
      let size = length-take-le n rest l.within in
      let left = length-drop n rest in
      let k = moved_bound here (take n rest) in
      let same : spelled token ≡ record { kind = token.kind; text = take n rest; pos = pos_at here } = λ j. record { kind = token.kind; text = text_is j; pos = pos_is j } in
      record {
        on = λ o r. subst (Reads start false text)
            (ahead_twice (map spelled found) _ o ∙ ap (λ ts. ahead ts o) (ap (λ t. map spelled found ++ t ∷ []) (sym same) ∙ sym (map_push spelled found token)))
            (before.on _ (takes l r refl));
        line = omega (arith, k.0, before.line, l.within);
        col = omega (arith, k.1, before.col, l.within);
      }

  pub read_broken : (n code : ℕ) → Longest (Spells (context_at here checked)) rest n (Broken code) → Reads start false text (Err (record { code = code; pos = pos_at here }))
  read_broken n code l = before.on _ (breaks l)

  pub read_end : rest ≡ [] → Reads start false text (Ok (map spelled found))
  read_end e = subst (λ ts. Reads start false text (Ok ts)) (append-nil (map spelled found)) (before.on (Ok []) (subst (λ r. Reads here checked r (Ok [])) (sym e) ends))

-- the loop's turn over a gap
pub next_gap : {text : List ℕ} {found found' : List tokens.Token} {here here' : Here} {checked checked' : Bool} {rest rest' : List ℕ} (n : ℕ) (item : Item) (w : List ℕ) → ReadTo text found here checked rest → Longest (Spells (context_at here checked)) rest n item → item ≡ Gap → w ≡ take n rest → rest' ≡ drop n rest → here' ≡ moved here w → checked' ≡ (checked || is_stdchecked item) → found' ≡ found → ReadTo text found' here' checked' rest'
next_gap {text} {found} {here = here} {checked = checked} {rest = rest} n item w before l is_gap w_is rest_is here_is checked_is found_is =
    let same_here = here_is ∙ ap (moved here) w_is in
    let same_checked = checked_is ∙ (ap (λ i. checked || is_stdchecked i) is_gap ∙ or_false checked) in
    subst (λ T. T) (λ j. ReadTo text (sym found_is j) (sym same_here j) (sym same_checked j) (sym rest_is j))
    (read_gap before n (subst (Longest (Spells (context_at here checked)) rest n) is_gap l))

-- the loop's turn over a token
pub next_token : {text : List ℕ} {found found' : List tokens.Token} {here here' : Here} {checked checked' : Bool} {rest rest' : List ℕ} (n : ℕ) (item : Item) (w : List ℕ) (token : tokens.Token) → ReadTo text found here checked rest → Longest (Spells (context_at here checked)) rest n item → item ≡ Token token.kind → w ≡ take n rest → rest' ≡ drop n rest → here' ≡ moved here w → checked' ≡ (checked || is_stdchecked item) → token.text.now ≡ w → token.pos ≡ pos_at here → found' ≡ found ++ token ∷ [] → ReadTo text found' here' checked' rest'
next_token {text} {found} {here = here} {checked = checked} {rest = rest} n item w token before l is_token w_is rest_is here_is checked_is text_is pos_is found_is =
    let same_here = here_is ∙ ap (moved here) w_is in
    let same_checked = checked_is ∙ ap (λ i. checked || is_stdchecked i) is_token in
    subst (λ T. T) (λ j. ReadTo text (sym found_is j) (sym same_here j) (sym same_checked j) (sym rest_is j))
    (read_token before n token (subst (Longest (Spells (context_at here checked)) rest n) is_token l) (text_is ∙ w_is) pos_is)
