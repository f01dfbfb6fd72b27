-- What the grammar derives, the parser's table derives with the same value: the operators.
use Rattle.std.proofs.Common.{List, ◌++◌, Bool, inl, inr, refl, ap}
use Rattle.std.specs.Prelude.{codes}
use Rattle.ckc_parser_grammar.specs.code.Kinds.{is_increment, is_compound, is_operator, increment_op, compound_op, binary_op}
use Rattle.ckc_parser_grammar.specs.code.Grammar as g
use Rattle.ckc_grammar.specs.Productions as l
use Rattle.ckc_grammar.specs.Productions.{productions}
use Rattle.ckc_grammar.specs.Derivation.{Word, chosen, parts_of}
use Rattle.ckc_parser_grammar.proofs.Tokens.{plain_kind, greater_kind, next_kind}
use Rattle.ckc_parser_grammar.proofs.Back.{t_end, t_tok, t_last, t_by, less, other, From, Got, end, token, worth}
use Rattle.ckc_parser_grammar.proofs.Endings.{mk}

pub operator_0 : (ws : List Word) (e : Bool) (q : Got (parts_of l.operator (inl tt)) ws e (l.Meaning l.operator) (chosen (productions l.operator) (inl tt)).made) → From l.operator ws e (worth q)
operator_0 _ e (token {w = a} f end) = other (λ z. t_by g.Operator (λ z. refl) (t_tok (ap is_operator (mk "||" a f)) t_end)) (λ j. (binary_op (plain_kind (codes "||") a f j), a.token.pos))

pub operator_1 : (ws : List Word) (e : Bool) (q : Got (parts_of l.operator (inr (inl tt))) ws e (l.Meaning l.operator) (chosen (productions l.operator) (inr (inl tt))).made) → From l.operator ws e (worth q)
operator_1 _ e (token {w = a} f end) = other (λ z. t_by g.Operator (λ z. refl) (t_tok (ap is_operator (mk "&&" a f)) t_end)) (λ j. (binary_op (plain_kind (codes "&&") a f j), a.token.pos))

pub operator_2 : (ws : List Word) (e : Bool) (q : Got (parts_of l.operator (inr (inr (inl tt)))) ws e (l.Meaning l.operator) (chosen (productions l.operator) (inr (inr (inl tt)))).made) → From l.operator ws e (worth q)
operator_2 _ e (token {w = a} f end) = other (λ z. t_by g.Operator (λ z. refl) (t_tok (ap is_operator (mk "|" a f)) t_end)) (λ j. (binary_op (plain_kind (codes "|") a f j), a.token.pos))

pub operator_3 : (ws : List Word) (e : Bool) (q : Got (parts_of l.operator (inr (inr (inr (inl tt))))) ws e (l.Meaning l.operator) (chosen (productions l.operator) (inr (inr (inr (inl tt))))).made) → From l.operator ws e (worth q)
operator_3 _ e (token {w = a} f end) = other (λ z. t_by g.Operator (λ z. refl) (t_tok (ap is_operator (mk "^" a f)) t_end)) (λ j. (binary_op (plain_kind (codes "^") a f j), a.token.pos))

pub operator_4 : (ws : List Word) (e : Bool) (q : Got (parts_of l.operator (inr (inr (inr (inr (inl tt)))))) ws e (l.Meaning l.operator) (chosen (productions l.operator) (inr (inr (inr (inr (inl tt)))))).made) → From l.operator ws e (worth q)
operator_4 _ e (token {w = a} f end) = other (λ z. t_by g.Operator (λ z. refl) (t_tok (ap is_operator (mk "&" a f)) t_end)) (λ j. (binary_op (plain_kind (codes "&") a f j), a.token.pos))

pub operator_5 : (ws : List Word) (e : Bool) (q : Got (parts_of l.operator (inr (inr (inr (inr (inr (inl tt))))))) ws e (l.Meaning l.operator) (chosen (productions l.operator) (inr (inr (inr (inr (inr (inl tt))))))).made) → From l.operator ws e (worth q)
operator_5 _ e (token {w = a} f end) = other (λ z. t_by g.Operator (λ z. refl) (t_tok (ap is_operator (mk "==" a f)) t_end)) (λ j. (binary_op (plain_kind (codes "==") a f j), a.token.pos))

pub operator_6 : (ws : List Word) (e : Bool) (q : Got (parts_of l.operator (inr (inr (inr (inr (inr (inr (inl tt)))))))) ws e (l.Meaning l.operator) (chosen (productions l.operator) (inr (inr (inr (inr (inr (inr (inl tt)))))))).made) → From l.operator ws e (worth q)
operator_6 _ e (token {w = a} f end) = other (λ z. t_by g.Operator (λ z. refl) (t_tok (ap is_operator (mk "!=" a f)) t_end)) (λ j. (binary_op (plain_kind (codes "!=") a f j), a.token.pos))

pub operator_7 : (ws : List Word) (e : Bool) (q : Got (parts_of l.operator (inr (inr (inr (inr (inr (inr (inr (inl tt))))))))) ws e (l.Meaning l.operator) (chosen (productions l.operator) (inr (inr (inr (inr (inr (inr (inr (inl tt))))))))).made) → From l.operator ws e (worth q)
operator_7 _ e (token {w = a} f end) = less (mk "<" a f) refl refl

pub operator_8 : (ws : List Word) (e : Bool) (q : Got (parts_of l.operator (inr (inr (inr (inr (inr (inr (inr (inr (inl tt)))))))))) ws e (l.Meaning l.operator) (chosen (productions l.operator) (inr (inr (inr (inr (inr (inr (inr (inr (inl tt)))))))))).made) → From l.operator ws e (worth q)
operator_8 _ e (token {w = a} f end) = other (λ z. t_by g.Operator (λ z. refl) (t_tok (ap is_operator (mk "<=" a f)) t_end)) (λ j. (binary_op (plain_kind (codes "<=") a f j), a.token.pos))

pub operator_9 : (ws : List Word) (e : Bool) (q : Got (parts_of l.operator (inr (inr (inr (inr (inr (inr (inr (inr (inr (inl tt))))))))))) ws e (l.Meaning l.operator) (chosen (productions l.operator) (inr (inr (inr (inr (inr (inr (inr (inr (inr (inl tt))))))))))).made) → From l.operator ws e (worth q)
operator_9 _ e (token {w = a} f end) = other (λ z. t_by g.Greater (λ z. refl) (t_tok (greater_kind a f) (t_last (λ z. t_by g.NoSecond (λ z. refl) t_end)))) refl

pub operator_10 : (ws : List Word) (e : Bool) (q : Got (parts_of l.operator (inr (inr (inr (inr (inr (inr (inr (inr (inr (inr (inl tt)))))))))))) ws e (l.Meaning l.operator) (chosen (productions l.operator) (inr (inr (inr (inr (inr (inr (inr (inr (inr (inr (inl tt)))))))))))).made) → From l.operator ws e (worth q)
operator_10 _ e (token {w = a} f end) = other (λ z. t_by g.Operator (λ z. refl) (t_tok (ap is_operator (mk ">=" a f)) t_end)) (λ j. (binary_op (plain_kind (codes ">=") a f j), a.token.pos))

pub operator_11 : (ws : List Word) (e : Bool) (q : Got (parts_of l.operator (inr (inr (inr (inr (inr (inr (inr (inr (inr (inr (inr (inl tt))))))))))))) ws e (l.Meaning l.operator) (chosen (productions l.operator) (inr (inr (inr (inr (inr (inr (inr (inr (inr (inr (inr (inl tt))))))))))))).made) → From l.operator ws e (worth q)
operator_11 _ e (token {w = a} f end) = other (λ z. t_by g.Operator (λ z. refl) (t_tok (ap is_operator (mk "<<" a f)) t_end)) (λ j. (binary_op (plain_kind (codes "<<") a f j), a.token.pos))

pub operator_12 : (ws : List Word) (e : Bool) (q : Got (parts_of l.operator (inr (inr (inr (inr (inr (inr (inr (inr (inr (inr (inr (inr (inl tt)))))))))))))) ws e (l.Meaning l.operator) (chosen (productions l.operator) (inr (inr (inr (inr (inr (inr (inr (inr (inr (inr (inr (inr (inl tt)))))))))))))).made) → From l.operator ws e (worth q)
operator_12 _ e (token {w = a} f (token {w = b} f2 end)) = other (λ z. t_by g.Greater (λ z. refl) (t_tok (greater_kind a f) (t_last (λ z. t_by g.Second (λ z. refl) (t_tok (next_kind b f2) t_end))))) refl

pub operator_13 : (ws : List Word) (e : Bool) (q : Got (parts_of l.operator (inr (inr (inr (inr (inr (inr (inr (inr (inr (inr (inr (inr (inr (inl tt))))))))))))))) ws e (l.Meaning l.operator) (chosen (productions l.operator) (inr (inr (inr (inr (inr (inr (inr (inr (inr (inr (inr (inr (inr (inl tt))))))))))))))).made) → From l.operator ws e (worth q)
operator_13 _ e (token {w = a} f end) = other (λ z. t_by g.Operator (λ z. refl) (t_tok (ap is_operator (mk "+" a f)) t_end)) (λ j. (binary_op (plain_kind (codes "+") a f j), a.token.pos))

pub operator_14 : (ws : List Word) (e : Bool) (q : Got (parts_of l.operator (inr (inr (inr (inr (inr (inr (inr (inr (inr (inr (inr (inr (inr (inr (inl tt)))))))))))))))) ws e (l.Meaning l.operator) (chosen (productions l.operator) (inr (inr (inr (inr (inr (inr (inr (inr (inr (inr (inr (inr (inr (inr (inl tt)))))))))))))))).made) → From l.operator ws e (worth q)
operator_14 _ e (token {w = a} f end) = other (λ z. t_by g.Operator (λ z. refl) (t_tok (ap is_operator (mk "-" a f)) t_end)) (λ j. (binary_op (plain_kind (codes "-") a f j), a.token.pos))

pub operator_15 : (ws : List Word) (e : Bool) (q : Got (parts_of l.operator (inr (inr (inr (inr (inr (inr (inr (inr (inr (inr (inr (inr (inr (inr (inr (inl tt))))))))))))))))) ws e (l.Meaning l.operator) (chosen (productions l.operator) (inr (inr (inr (inr (inr (inr (inr (inr (inr (inr (inr (inr (inr (inr (inr (inl tt))))))))))))))))).made) → From l.operator ws e (worth q)
operator_15 _ e (token {w = a} f end) = other (λ z. t_by g.Operator (λ z. refl) (t_tok (ap is_operator (mk "*" a f)) t_end)) (λ j. (binary_op (plain_kind (codes "*") a f j), a.token.pos))

pub operator_16 : (ws : List Word) (e : Bool) (q : Got (parts_of l.operator (inr (inr (inr (inr (inr (inr (inr (inr (inr (inr (inr (inr (inr (inr (inr (inr (inl tt)))))))))))))))))) ws e (l.Meaning l.operator) (chosen (productions l.operator) (inr (inr (inr (inr (inr (inr (inr (inr (inr (inr (inr (inr (inr (inr (inr (inr (inl tt)))))))))))))))))).made) → From l.operator ws e (worth q)
operator_16 _ e (token {w = a} f end) = other (λ z. t_by g.Operator (λ z. refl) (t_tok (ap is_operator (mk "/" a f)) t_end)) (λ j. (binary_op (plain_kind (codes "/") a f j), a.token.pos))

pub operator_17 : (ws : List Word) (e : Bool) (q : Got (parts_of l.operator (inr (inr (inr (inr (inr (inr (inr (inr (inr (inr (inr (inr (inr (inr (inr (inr (inr (inl tt))))))))))))))))))) ws e (l.Meaning l.operator) (chosen (productions l.operator) (inr (inr (inr (inr (inr (inr (inr (inr (inr (inr (inr (inr (inr (inr (inr (inr (inr (inl tt))))))))))))))))))).made) → From l.operator ws e (worth q)
operator_17 _ e (token {w = a} f end) = other (λ z. t_by g.Operator (λ z. refl) (t_tok (ap is_operator (mk "%" a f)) t_end)) (λ j. (binary_op (plain_kind (codes "%") a f j), a.token.pos))

pub op_0 : (ws : List Word) (e : Bool) (q : Got (parts_of l.op (inl tt)) ws e (l.Meaning l.op) (chosen (productions l.op) (inl tt)).made) → From l.op ws e (worth q)
op_0 _ e (token {w = a} f end) = (a, refl, ap is_compound (mk "+=" a f), λ j. (compound_op (plain_kind (codes "+=") a f j), a.token.pos))

pub op_1 : (ws : List Word) (e : Bool) (q : Got (parts_of l.op (inr (inl tt))) ws e (l.Meaning l.op) (chosen (productions l.op) (inr (inl tt))).made) → From l.op ws e (worth q)
op_1 _ e (token {w = a} f end) = (a, refl, ap is_compound (mk "-=" a f), λ j. (compound_op (plain_kind (codes "-=") a f j), a.token.pos))

pub op_2 : (ws : List Word) (e : Bool) (q : Got (parts_of l.op (inr (inr (inl tt)))) ws e (l.Meaning l.op) (chosen (productions l.op) (inr (inr (inl tt)))).made) → From l.op ws e (worth q)
op_2 _ e (token {w = a} f end) = (a, refl, ap is_compound (mk "*=" a f), λ j. (compound_op (plain_kind (codes "*=") a f j), a.token.pos))

pub op_3 : (ws : List Word) (e : Bool) (q : Got (parts_of l.op (inr (inr (inr (inl tt))))) ws e (l.Meaning l.op) (chosen (productions l.op) (inr (inr (inr (inl tt))))).made) → From l.op ws e (worth q)
op_3 _ e (token {w = a} f end) = (a, refl, ap is_compound (mk "/=" a f), λ j. (compound_op (plain_kind (codes "/=") a f j), a.token.pos))

pub op_4 : (ws : List Word) (e : Bool) (q : Got (parts_of l.op (inr (inr (inr (inr (inl tt)))))) ws e (l.Meaning l.op) (chosen (productions l.op) (inr (inr (inr (inr (inl tt)))))).made) → From l.op ws e (worth q)
op_4 _ e (token {w = a} f end) = (a, refl, ap is_compound (mk "%=" a f), λ j. (compound_op (plain_kind (codes "%=") a f j), a.token.pos))

pub op_5 : (ws : List Word) (e : Bool) (q : Got (parts_of l.op (inr (inr (inr (inr (inr (inl tt))))))) ws e (l.Meaning l.op) (chosen (productions l.op) (inr (inr (inr (inr (inr (inl tt))))))).made) → From l.op ws e (worth q)
op_5 _ e (token {w = a} f end) = (a, refl, ap is_compound (mk "&=" a f), λ j. (compound_op (plain_kind (codes "&=") a f j), a.token.pos))

pub op_6 : (ws : List Word) (e : Bool) (q : Got (parts_of l.op (inr (inr (inr (inr (inr (inr (inl tt)))))))) ws e (l.Meaning l.op) (chosen (productions l.op) (inr (inr (inr (inr (inr (inr (inl tt)))))))).made) → From l.op ws e (worth q)
op_6 _ e (token {w = a} f end) = (a, refl, ap is_compound (mk "|=" a f), λ j. (compound_op (plain_kind (codes "|=") a f j), a.token.pos))

pub op_7 : (ws : List Word) (e : Bool) (q : Got (parts_of l.op (inr (inr (inr (inr (inr (inr (inr (inl tt))))))))) ws e (l.Meaning l.op) (chosen (productions l.op) (inr (inr (inr (inr (inr (inr (inr (inl tt))))))))).made) → From l.op ws e (worth q)
op_7 _ e (token {w = a} f end) = (a, refl, ap is_compound (mk "^=" a f), λ j. (compound_op (plain_kind (codes "^=") a f j), a.token.pos))

pub increment_0 : (ws : List Word) (e : Bool) (q : Got (parts_of l.increment (inl tt)) ws e (l.Meaning l.increment) (chosen (productions l.increment) (inl tt)).made) → From l.increment ws e (worth q)
increment_0 _ e (token {w = a} f end) = (a, refl, ap is_increment (mk "++" a f), λ j. (increment_op (plain_kind (codes "++") a f j), a.token.pos))

pub increment_1 : (ws : List Word) (e : Bool) (q : Got (parts_of l.increment (inr (inl tt))) ws e (l.Meaning l.increment) (chosen (productions l.increment) (inr (inl tt))).made) → From l.increment ws e (worth q)
increment_1 _ e (token {w = a} f end) = (a, refl, ap is_increment (mk "--" a f), λ j. (increment_op (plain_kind (codes "--") a f j), a.token.pos))
