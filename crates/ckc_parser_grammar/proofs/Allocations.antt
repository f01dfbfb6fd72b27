-- What the grammar derives, the parser's table derives with the same value: a call of `calloc`, in two halves.
use Rattle.std.proofs.Common.{◌≡◌, List, [], ◌∷◌, ◌++◌, Bool, true, inl, inr, refl, ◌∙◌}
use Rattle.ckc_syntax.specs.Spelled.{Spelled}
use Rattle.ckc_syntax.specs.declared.tree.Node.TheVariants as node
use Rattle.ckc_parser_grammar.specs.declared.kind.Kind.TheVariants as k
use Rattle.ckc_parser_grammar.specs.code.Grammar.{is_greater}
use Rattle.ckc_parser_grammar.specs.code.Grammar as g
use Rattle.ckc_parser_grammar.specs.code.Values as v
use Rattle.ckc_parser_grammar.specs.code.Values.{Value, made, as_type}
use Rattle.ckc_grammar.specs.Trees.{TypeTree, Expr, expr_at}
use Rattle.ckc_grammar.specs.Productions as l
use Rattle.ckc_grammar.specs.Productions.{key, sign, n, productions}
use Rattle.ckc_grammar.specs.Derivation.{Word, chosen, parts_of, value}
use Rattle.ckc_parser_grammar.proofs.Tokens.{sign_of, greater_kind}
use Rattle.ckc_parser_grammar.proofs.Back.{All, t_end, t_tok, t_part, t_by, ExprForm, expr_of, CallocForm, of_type, TypeForm, From, Got, end, token, piece, worth}
use Rattle.ckc_parser_grammar.proofs.Endings.{kw, mk, wd, type_of}

-- `, sizeof ( type ) )` after the count
data SizeofTail (ws : List Word) (f : TypeTree → Expr) (y : Expr) : Type 0 where
  sizeof_tail : {x : Value} {a b c d r : Spelled} →
      All (g.k k.Comma ∷ g.k k.Sizeof ∷ g.k k.RoundOpen ∷ g.n g.type_name ∷ g.k k.RoundClose ∷ g.k k.RoundClose ∷ []) ws (v.token a ∷ v.token b ∷ v.token c ∷ x ∷ v.token d ∷ v.token r ∷ []) →
      f (as_type x) ≡ y → SizeofTail ws f y

sizeof_of : (ws : List Word) (e : Bool) (f : TypeTree → Expr) (q : Got (sign "," ∷ key "sizeof" ∷ sign "(" ∷ n l.type_name ∷ sign ")" ∷ sign ")" ∷ []) ws e Expr f) → SizeofTail ws f (worth q)
sizeof_of _ e f (token {w = q1} f1 (token {w = q2} f2 (token {w = q3} f3 (piece xs b tz (token {w = q4} f4 (token {w = q5} f5 end)) h)))) =
    let C = type_of tz in
    sizeof_tail (λ z. t_tok (mk "," q1 f1) (t_tok (kw "sizeof" q2 f2) (t_tok (mk "(" q3 f3) (t_part C.1 (t_tok (mk ")" q4 f4) (t_tok (mk ")" q5 f5) t_end)) h)))) (λ j. f (C.2 j))

calloc_form : {us vs zs ys : List Word} {b : TypeTree} {m y : Expr} (w a c d : Word) → (sign_of w).kind ≡ k.Calloc → (sign_of a).kind ≡ k.Less → TypeForm us b → is_greater (sign_of c).kind ≡ true → (sign_of d).kind ≡ k.RoundOpen → ExprForm vs m →
    SizeofTail zs (λ t. expr_at (node.Calloc b m t) w.token.pos) y → vs ++ zs ≡ ys → (ws : List Word) → us ++ (c ∷ d ∷ ys) ≡ ws → CallocForm (w ∷ a ∷ ws) y
calloc_form w a c d f1 f2 ty f3 f4 x (sizeof_tail {x = z1} r e) h2 ws h1 =
    let B = type_of ty in
    let X = expr_of x in
    of_type f1 f2 (λ z. t_by g.Allocation (λ z. refl) (t_part B.1 (t_tok f3 (t_tok f4 (t_part X.1 (r z) h2))) h1)) refl refl ((λ j. expr_at (node.Calloc (B.2 j) (X.2 j) (as_type z1)) w.token.pos) ∙ e)

pub calloc_0 : (ws : List Word) (e : Bool) (q : Got (parts_of l.calloc (inl tt)) ws e (l.Meaning l.calloc) (chosen (productions l.calloc) (inl tt)).made) → From l.calloc ws e (worth q)
calloc_0 _ e (token {w = w} f1 (token {w = a} f2 (piece us b ty (token {w = c} f3 (token {w = d} f4 (piece vs m x r h2))) h1))) =
    calloc_form w a c d (wd "calloc" w f1) (mk "<" a f2) ty (greater_kind c f3) (mk "(" d f4) x (sizeof_of _ e _ r) h2 _ h1
