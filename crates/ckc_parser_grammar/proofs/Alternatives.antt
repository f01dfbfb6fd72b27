-- What the grammar derives, the parser's table derives with the same value: each alternative of each part.
use Rattle.std.proofs.Common.{List, [], ◌∷◌, ◌++◌, Bool, inl, inr, refl, sym, ap, ◌∙◌, append_assoc, append-nil}
use Rattle.std.specs.Prelude.{None, Some, codes}
use Rattle.ckc_syntax.specs.declared.tree.Item.TheVariants as items
use Rattle.ckc_syntax.specs.declared.tree.TypeTree.TheVariants as ctype
use Rattle.ckc_syntax.specs.declared.tree.Length.TheVariants as lengths
use Rattle.ckc_syntax.specs.declared.tree.Init.TheVariants as inits
use Rattle.ckc_syntax.specs.declared.tree.Limits.TheVariants as bounds
use Rattle.ckc_syntax.specs.declared.tree.Node.TheVariants as node
use Rattle.ckc_syntax.specs.declared.tree.Act.TheVariants as act
use Rattle.ckc_syntax.specs.declared.tree.TreeOp.TheVariants as op
use Rattle.ckc_parser_grammar.specs.declared.kind.Kind.TheVariants as k
use Rattle.ckc_parser_grammar.specs.code.Kinds.{is_sign, is_literal, sign_op}
use Rattle.ckc_parser_grammar.specs.code.Grammar as g
use Rattle.ckc_parser_grammar.specs.code.Derives as D
use Rattle.ckc_parser_grammar.specs.code.Trees as T
use Rattle.ckc_parser_grammar.specs.code.Values as v
use Rattle.ckc_parser_grammar.specs.code.Values.{as_items}
use Rattle.ckc_grammar.specs.Trees as L
use Rattle.ckc_grammar.specs.Trees.{starred, expr_at}
use Rattle.ckc_grammar.specs.Makers.{applied, declared}
use Rattle.ckc_grammar.specs.Productions as l
use Rattle.ckc_grammar.specs.Productions.{Terminal, productions}
use Rattle.ckc_grammar.specs.Derivation.{Word, Choice, chosen, parts_of}
use Rattle.ckc_parser_grammar.proofs.Tokens.{plain_kind, greater_kind, name_kind, number_kind, character_kind, string_kind, directive_kind}
use Rattle.ckc_parser_grammar.proofs.Pieces.{cut}
use Rattle.ckc_parser_grammar.proofs.Back.{t_end, t_tok, t_part_at, t_part, t_last, t_by, t_moved, joint, none, more, no_call, with_call, no_increment, one_increment, by_name, ends, steps, step, expr_of, unary_of, right_of, calloc_right, tag, scalar, base_of, absent, present, after_form, comma_form, of_name, of_calloc, binary_form, type_form, From, Got, end, token, piece, sole, worth}
use Rattle.ckc_parser_grammar.proofs.Endings.{kw, mk, wd, ei, cons_eq, type_of, range_of, array_of, first_of_object, first_of_local, size_of, condition_of, start_of, assign_of, step_part_of, assign_stmt, call_stmt, stars_of, text_of, members_of, params_of, arguments_of, list_of, lines_of, changes_of, member_of, local_of_form, declares_moved, declares_named, objects_form, item_declares, void_head, type_head, first_by, constant_by, round_by, cast_of, between_of, no_choice, with_choice, at_moved, postfix_moved, unary_named, signed_by, cast_by, sized_by, set_assign, step_assign, post_step, set_expr, from_moved, each_moved, stmt_any, no_else_by, with_end}
use Rattle.ckc_parser_grammar.proofs.Allocations.{calloc_0}
use Rattle.ckc_parser_grammar.proofs.Infixes.{operator_0, operator_1, operator_2, operator_3, operator_4, operator_5, operator_6, operator_7, operator_8, operator_9, operator_10, operator_11, operator_12, operator_13, operator_14, operator_15, operator_16, operator_17, op_0, op_1, op_2, op_3, op_4, op_5, op_6, op_7, increment_0, increment_1}

text_0 : (ws : List Word) (e : Bool) (q : Got (parts_of l.text (inl tt)) ws e (l.Meaning l.text) (chosen (productions l.text) (inl tt)).made) → From l.text ws e (worth q)
text_0 _ e (piece us m is end h) = text_of is h

item_0 : (ws : List Word) (e : Bool) (q : Got (parts_of l.item (inl tt)) ws e (l.Meaning l.item) (chosen (productions l.item) (inl tt)).made) → From l.item ws e (worth q)
item_0 _ e (token {w = w} f end) = λ us x d. (_, (λ q. t_by g.Directive (λ z. refl) (t_tok (directive_kind w f) (t_last d))), refl)

item_1 : (ws : List Word) (e : Bool) (q : Got (parts_of l.item (inr (inl tt))) ws e (l.Meaning l.item) (chosen (productions l.item) (inr (inl tt))).made) → From l.item ws e (worth q)
item_1 _ e (token {w = a} f1 (token {w = s} f2 (token {w = b} f3 end))) = λ us x d. (_, (λ q. t_by g.Structure (λ z. refl) (t_tok (kw "struct" a f1) (t_tok (name_kind s f2) (t_part {us = b ∷ []} (λ q. t_by g.Tag (λ z. refl) (t_tok (mk ";" b f3) t_end)) (t_last d) refl)))), refl)

item_2 : (ws : List Word) (e : Bool) (q : Got (parts_of l.item (inr (inr (inl tt)))) ws e (l.Meaning l.item) (chosen (productions l.item) (inr (inr (inl tt)))).made) → From l.item ws e (worth q)
item_2 _ e (piece us m s end h) = λ vs y dy. (_, t_moved (ap (λ z. z ++ vs) (s.7 ∙ cut h)) (λ q. t_by g.Structure (λ z. refl) (t_tok s.4 (t_tok s.5 (t_part s.6 (t_last dy) refl)))), ap (λ z. z ++ as_items y) s.8)

item_3 : (ws : List Word) (e : Bool) (q : Got (parts_of l.item (inr (inr (inr (inl tt))))) ws e (l.Meaning l.item) (chosen (productions l.item) (inr (inr (inr (inl tt))))).made) → From l.item ws e (worth q)
item_3 _ e (piece ss o st (piece us m d end h2) h1) = item_declares st d h2 h1

item_4 : (ws : List Word) (e : Bool) (q : Got (parts_of l.item (inr (inr (inr (inr (inl tt)))))) ws e (l.Meaning l.item) (chosen (productions l.item) (inr (inr (inr (inr (inl tt)))))).made) → From l.item ws e (worth q)
item_4 _ e (piece ss o st (piece us m d end h2) h1) = item_declares st d h2 h1

item_5 : (ws : List Word) (e : Bool) (q : Got (parts_of l.item (inr (inr (inr (inr (inr (inl tt))))))) ws e (l.Meaning l.item) (chosen (productions l.item) (inr (inr (inr (inr (inr (inl tt))))))).made) → From l.item ws e (worth q)
item_5 _ e (piece ss o st (piece us m d end h2) h1) = item_declares st d h2 h1

static_0 : (ws : List Word) (e : Bool) (q : Got (parts_of l.static (inl tt)) ws e (l.Meaning l.static) (chosen (productions l.static) (inl tt)).made) → From l.static ws e (worth q)
static_0 _ e (token {w = w} f end) = (w, refl, kw "static" w f)

structure_0 : (ws : List Word) (e : Bool) (q : Got (parts_of l.structure (inl tt)) ws e (l.Meaning l.structure) (chosen (productions l.structure) (inl tt)).made) → From l.structure ws e (worth q)
structure_0 _ e (token {w = a} f1 (token {w = s} f2 (token {w = b} f3 (piece us m d (piece vs ms ds (token {w = c} f4 (token {w = q} f5 end)) h2) h1)))) =
    let r = members_of ds in
    (a, s, _, _, kw "struct" a f1, name_kind s f2, (λ z. t_by g.Members (λ z. refl) (t_tok (mk "{" b f3) (t_part d.1 (t_part r.1 (t_tok (mk "}" c f4) (t_tok (mk ";" q f5) t_end)) h2) h1))), refl, λ j. items.Struct s.token.text (d.2 j ++ r.2 j) s.token.pos ∷ [])

member_0 : (ws : List Word) (e : Bool) (q : Got (parts_of l.member (inl tt)) ws e (l.Meaning l.member) (chosen (productions l.member) (inl tt)).made) → From l.member ws e (worth q)
member_0 _ e (piece us b t1 (piece vs ds cs (token {w = c} f end) h2) h1) = member_of c t1 cs (mk ";" c f) h2 h1

slot_0 : (ws : List Word) (e : Bool) (q : Got (parts_of l.slot (inl tt)) ws e (l.Meaning l.slot) (chosen (productions l.slot) (inl tt)).made) → From l.slot ws e (worth q)
slot_0 _ e (piece us p ps (token {w = a} f (piece vs o r end h2)) h1) =
    let R = range_of r in
    (_, (λ z. t_by g.Slot (λ z. refl) (t_part ps.1 (t_tok (name_kind a f) (t_part R.1 t_end h2)) h1)), λ j b. declared (starred b (ps.2 j)) a.token lengths.Plain (R.2 j) inits.Nothing)

objects_0 : (ws : List Word) (e : Bool) (q : Got (parts_of l.objects (inl tt)) ws e (l.Meaning l.objects) (chosen (productions l.objects) (inl tt)).made) → From l.objects ws e (worth q)
objects_0 _ e (piece us b t1 (piece vs ds cs (token {w = c} f end) h2) h1) = objects_form c t1 cs (mk ";" c f) h2 h1

object_0 : (ws : List Word) (e : Bool) (q : Got (parts_of l.object (inl tt)) ws e (l.Meaning l.object) (chosen (productions l.object) (inl tt)).made) → From l.object ws e (worth q)
object_0 _ e (piece us p ps (token {w = a} f (piece vs o1 r (piece xs o2 q (piece ys o3 i end h4) h3) h2)) h1) =
    let A = array_of r in
    let R = range_of q in
    let I = first_of_object i in
    (us, ps.0, a, _, _, ps.1, name_kind a f, (λ z. t_by g.ObjectRest (λ z. refl) (t_part A.1 (t_part R.1 (t_part I.1 t_end h4) h3) h2)), h1, λ j b. declared (starred b (ps.2 j)) a.token (A.2 j) (R.2 j) (I.2 j))

initial_0 : (ws : List Word) (e : Bool) (q : Got (parts_of l.initial (inl tt)) ws e (l.Meaning l.initial) (chosen (productions l.initial) (inl tt)).made) → From l.initial ws e (worth q)
initial_0 _ e (piece us m x end h) = let X = expr_of x in (_, (λ z. t_by g.OneInitial (λ z. refl) (t_part X.1 t_end h)), λ j. inits.One (X.2 j))

initial_1 : (ws : List Word) (e : Bool) (q : Got (parts_of l.initial (inr (inl tt))) ws e (l.Meaning l.initial) (chosen (productions l.initial) (inr (inl tt))).made) → From l.initial ws e (worth q)
initial_1 _ e (token {w = a} f (piece us m (comma_form {us = xs} {ys = rest} x more1 q i) (token {w = b} f2 end) h)) =
    let X = expr_of x in
    let R = list_of (b ∷ []) more1 (_, (λ z. t_by g.ListEnd (λ z. refl) (t_tok (mk "}" b f2) t_end)), refl) in
    (_, (λ z. t_by g.ListInitial (λ z. refl) (t_tok (mk "{" a f) (t_part X.1 (t_last R.1) (joint xs rest (b ∷ []) q h)))), (λ j. inits.Many (X.2 j ∷ R.2 j)) ∙ (λ j. inits.Many (i j)))

initial_2 : (ws : List Word) (e : Bool) (q : Got (parts_of l.initial (inr (inr (inl tt)))) ws e (l.Meaning l.initial) (chosen (productions l.initial) (inr (inr (inl tt)))).made) → From l.initial ws e (worth q)
initial_2 _ e (token {w = a} f (piece us m (comma_form {us = xs} {ys = rest} x more1 q i) (token {w = c} f3 (token {w = b} f2 end)) h)) =
    let X = expr_of x in
    let R = list_of (c ∷ b ∷ []) more1 (_, (λ z. t_by g.ListComma (λ z. refl) (t_tok (mk "," c f3) (t_last (λ z. t_by g.ListClose (λ z. refl) (t_tok (mk "}" b f2) t_end))))), refl) in
    (_, (λ z. t_by g.ListInitial (λ z. refl) (t_tok (mk "{" a f) (t_part X.1 (t_last R.1) (joint xs rest (c ∷ b ∷ []) q h)))), (λ j. inits.Many (X.2 j ∷ R.2 j)) ∙ (λ j. inits.Many (i j)))

array_0 : (ws : List Word) (e : Bool) (q : Got (parts_of l.array (inl tt)) ws e (l.Meaning l.array) (chosen (productions l.array) (inl tt)).made) → From l.array ws e (worth q)
array_0 _ e (token {w = a} f (piece us m s (token {w = b} f2 end) h)) = let S = size_of s in (_, (λ z. t_by g.RawArray (λ z. refl) (t_tok (mk "[" a f) (t_part S.1 (t_tok (mk "]" b f2) t_end) h))), λ j. lengths.Raw (S.2 j) a.token.pos)

array_1 : (ws : List Word) (e : Bool) (q : Got (parts_of l.array (inr (inl tt))) ws e (l.Meaning l.array) (chosen (productions l.array) (inr (inl tt))).made) → From l.array ws e (worth q)
array_1 _ e (token {w = c} f0 (token {w = a} f (piece us m s (token {w = b} f2 end) h))) =
    let S = size_of s in (_, (λ z. t_by g.CheckedArray (λ z. refl) (t_tok (ei "_Checked" "checked" k.Checked c f0 refl refl) (t_tok (mk "[" a f) (t_part S.1 (t_tok (mk "]" b f2) t_end) h)))), λ j. lengths.Checked (S.2 j))

array_2 : (ws : List Word) (e : Bool) (q : Got (parts_of l.array (inr (inr (inl tt)))) ws e (l.Meaning l.array) (chosen (productions l.array) (inr (inr (inl tt)))).made) → From l.array ws e (worth q)
array_2 _ e (token {w = c} f0 (token {w = a} f (piece us m s (token {w = b} f2 end) h))) =
    let S = size_of s in (_, (λ z. t_by g.NtArray (λ z. refl) (t_tok (ei "_Nt_checked" "nt_checked" k.NtChecked c f0 refl refl) (t_tok (mk "[" a f) (t_part S.1 (t_tok (mk "]" b f2) t_end) h)))), λ j. lengths.Nt (S.2 j))

size_0 : (ws : List Word) (e : Bool) (q : Got (parts_of l.size (inl tt)) ws e (l.Meaning l.size) (chosen (productions l.size) (inl tt)).made) → From l.size ws e (worth q)
size_0 _ e (token {w = a} f end) = (a, refl, number_kind a f, refl)

proto_0 : (ws : List Word) (e : Bool) (q : Got (parts_of l.proto (inl tt)) ws e (l.Meaning l.proto) (chosen (productions l.proto) (inl tt)).made) → From l.proto ws e (worth q)
proto_0 _ e (piece us m hd (token {w = c} f end) h) = declares_moved h (hd (c ∷ []) _ (λ z. t_by g.Prototype (λ z. refl) (t_tok (mk ";" c f) t_end)))

func_0 : (ws : List Word) (e : Bool) (q : Got (parts_of l.func (inl tt)) ws e (l.Meaning l.func) (chosen (productions l.func) (inl tt)).made) → From l.func ws e (worth q)
func_0 _ e (piece us m hd (piece vs m2 b end h2) h1) =
    declares_named (λ j. T.function_of m (Some (L.stmt_at (act.Block None (b.6 j).1) (b.6 j).0)) ∷ [])
    (declares_moved (ap (λ z. us ++ z) (b.5 ∙ cut h2) ∙ h1) (hd (b.0 ∷ b.1) _ (λ z. t_by g.Body (λ z. refl) (t_tok b.3 (t_last b.4)))))

head_0 : (ws : List Word) (e : Bool) (q : Got (parts_of l.head (inl tt)) ws e (l.Meaning l.head) (chosen (productions l.head) (inl tt)).made) → From l.head ws e (worth q)
head_0 _ e (piece us mo d (token {w = a} f1 (token {w = w} f2 (token {w = b} f3 (piece vs ps p (token {w = c} f4 (piece xs r q end h4)) h3)))) h1) =
    void_head a w b c vs d (kw "void" a f1) (name_kind w f2) (mk "(" b f3) p (mk ")" c f4) q h4 h3 h1

head_1 : (ws : List Word) (e : Bool) (q : Got (parts_of l.head (inr (inl tt))) ws e (l.Meaning l.head) (chosen (productions l.head) (inr (inl tt))).made) → From l.head ws e (worth q)
head_1 _ e (piece us mo d (piece bs t1 ty (token {w = w} f2 (token {w = b} f3 (piece vs ps p (token {w = c} f4 (piece xs r q end h4)) h3))) h2) h1) =
    type_head w b c vs d ty (name_kind w f2) (mk "(" b f3) p (mk ")" c f4) q h4 h3 h2 h1

params_0 : (ws : List Word) (e : Bool) (q : Got (parts_of l.params (inl tt)) ws e (l.Meaning l.params) (chosen (productions l.params) (inl tt)).made) → From l.params ws e (worth q)
params_0 _ e end = λ w f. (_, (λ z. t_by g.NoParams (λ z. refl) (t_tok f t_end)), refl)

params_1 : (ws : List Word) (e : Bool) (q : Got (parts_of l.params (inr (inl tt))) ws e (l.Meaning l.params) (chosen (productions l.params) (inr (inl tt))).made) → From l.params ws e (worth q)
params_1 _ e (token {w = a} f1 end) = λ w f. (_, (λ z. t_by g.VoidParams (λ z. refl) (t_tok (kw "void" a f1) (t_tok f t_end))), refl)

params_2 : (ws : List Word) (e : Bool) (q : Got (parts_of l.params (inr (inr (inl tt)))) ws e (l.Meaning l.params) (chosen (productions l.params) (inr (inr (inl tt)))).made) → From l.params ws e (worth q)
params_2 _ e (piece us m (comma_form {us = xs} {ys = rest} d more1 q i) end h) = λ w f.
    let R = params_of w more1 f in
    (_, (λ z. t_by g.Params (λ z. refl) (t_part d.1 (t_last R.1) (joint xs rest (w ∷ []) (q ∙ cut h) refl))), cons_eq d.2 R.2 ∙ i)

param_0 : (ws : List Word) (e : Bool) (q : Got (parts_of l.param (inl tt)) ws e (l.Meaning l.param) (chosen (productions l.param) (inl tt)).made) → From l.param ws e (worth q)
param_0 _ e (piece us b t1 (piece vs d s end h2) h1) = let B = base_of t1 in (_, (λ z. t_by g.Param (λ z. refl) (t_part B.1 (t_part s.1 t_end h2) h1)), λ j. (s.2 j) (B.2 j))

mode_0 : (ws : List Word) (e : Bool) (q : Got (parts_of l.mode (inl tt)) ws e (l.Meaning l.mode) (chosen (productions l.mode) (inl tt)).made) → From l.mode ws e (worth q)
mode_0 _ e (token {w = a} f end) = (_, (λ z. t_by g.CheckedMode (λ z. refl) (t_tok (ei "_Checked" "checked" k.Checked a f refl refl) t_end)), refl)

mode_1 : (ws : List Word) (e : Bool) (q : Got (parts_of l.mode (inr (inl tt))) ws e (l.Meaning l.mode) (chosen (productions l.mode) (inr (inl tt))).made) → From l.mode ws e (worth q)
mode_1 _ e (token {w = a} f end) = (_, (λ z. t_by g.UncheckedMode (λ z. refl) (t_tok (ei "_Unchecked" "unchecked" k.Unchecked a f refl refl) t_end)), refl)

base_0 : (ws : List Word) (e : Bool) (q : Got (parts_of l.base (inl tt)) ws e (l.Meaning l.base) (chosen (productions l.base) (inl tt)).made) → From l.base ws e (worth q)
base_0 _ e (token {w = a} f end) = scalar (λ z. t_by g.Int (λ z. refl) (t_tok (kw "int" a f) t_end)) refl

base_1 : (ws : List Word) (e : Bool) (q : Got (parts_of l.base (inr (inl tt))) ws e (l.Meaning l.base) (chosen (productions l.base) (inr (inl tt))).made) → From l.base ws e (worth q)
base_1 _ e (token {w = a} f end) = scalar (λ z. t_by g.Unsigned (λ z. refl) (t_tok (kw "unsigned" a f) (t_last (λ z. t_by g.UnsignedAlone (λ z. refl) t_end)))) refl

base_2 : (ws : List Word) (e : Bool) (q : Got (parts_of l.base (inr (inr (inl tt)))) ws e (l.Meaning l.base) (chosen (productions l.base) (inr (inr (inl tt)))).made) → From l.base ws e (worth q)
base_2 _ e (token {w = a} f (token {w = b} f2 end)) = scalar (λ z. t_by g.Unsigned (λ z. refl) (t_tok (kw "unsigned" a f) (t_last (λ z. t_by g.UnsignedInt (λ z. refl) (t_tok (kw "int" b f2) t_end))))) refl

base_3 : (ws : List Word) (e : Bool) (q : Got (parts_of l.base (inr (inr (inr (inl tt))))) ws e (l.Meaning l.base) (chosen (productions l.base) (inr (inr (inr (inl tt))))).made) → From l.base ws e (worth q)
base_3 _ e (token {w = a} f end) = scalar (λ z. t_by g.Char (λ z. refl) (t_tok (kw "char" a f) t_end)) refl

base_4 : (ws : List Word) (e : Bool) (q : Got (parts_of l.base (inr (inr (inr (inr (inl tt)))))) ws e (l.Meaning l.base) (chosen (productions l.base) (inr (inr (inr (inr (inl tt)))))).made) → From l.base ws e (worth q)
base_4 _ e (token {w = a} f (token {w = s} f2 end)) = tag (kw "struct" a f) (name_kind s f2) refl refl

base_5 : (ws : List Word) (e : Bool) (q : Got (parts_of l.base (inr (inr (inr (inr (inr (inl tt))))))) ws e (l.Meaning l.base) (chosen (productions l.base) (inr (inr (inr (inr (inr (inl tt))))))).made) → From l.base ws e (worth q)
base_5 _ e (token {w = a} f (token {w = b} f2 (piece us m d (token {w = c} f3 end) h))) = let B = type_of d in
    scalar (λ z. t_by g.OnePointer (λ z. refl) (t_tok (ei "_Ptr" "ptr" k.Ptr a f refl refl) (t_tok (mk "<" b f2) (t_part B.1 (t_tok (greater_kind c f3) t_end) h)))) (λ j. ctype.One (B.2 j))

base_6 : (ws : List Word) (e : Bool) (q : Got (parts_of l.base (inr (inr (inr (inr (inr (inr (inl tt)))))))) ws e (l.Meaning l.base) (chosen (productions l.base) (inr (inr (inr (inr (inr (inr (inl tt)))))))).made) → From l.base ws e (worth q)
base_6 _ e (token {w = a} f (token {w = b} f2 (piece us m d (token {w = c} f3 end) h))) = let B = type_of d in
    scalar (λ z. t_by g.ArrayPointer (λ z. refl) (t_tok (ei "_Array_ptr" "array_ptr" k.ArrayPtr a f refl refl) (t_tok (mk "<" b f2) (t_part B.1 (t_tok (greater_kind c f3) t_end) h)))) (λ j. ctype.Arr (B.2 j))

base_7 : (ws : List Word) (e : Bool) (q : Got (parts_of l.base (inr (inr (inr (inr (inr (inr (inr (inl tt))))))))) ws e (l.Meaning l.base) (chosen (productions l.base) (inr (inr (inr (inr (inr (inr (inr (inl tt))))))))).made) → From l.base ws e (worth q)
base_7 _ e (token {w = a} f (token {w = b} f2 (piece us m d (token {w = c} f3 end) h))) = let B = type_of d in
    scalar (λ z. t_by g.NtPointer (λ z. refl) (t_tok (ei "_Nt_array_ptr" "nt_array_ptr" k.NtArrayPtr a f refl refl) (t_tok (mk "<" b f2) (t_part B.1 (t_tok (greater_kind c f3) t_end) h)))) (λ j. ctype.Nt (B.2 j))

type_name_0 : (ws : List Word) (e : Bool) (q : Got (parts_of l.type_name (inl tt)) ws e (l.Meaning l.type_name) (chosen (productions l.type_name) (inl tt)).made) → From l.type_name ws e (worth q)
type_name_0 _ e (piece us b d (piece vs p ps end h2) h1) = type_form d ps.1 (ap (λ z. us ++ z) (cut h2) ∙ h1) (λ j. starred b (ps.2 j))

stars_0 : (ws : List Word) (e : Bool) (q : Got (parts_of l.stars (inl tt)) ws e (l.Meaning l.stars) (chosen (productions l.stars) (inl tt)).made) → From l.stars ws e (worth q)
stars_0 _ e (piece us p ps end h) = let S = stars_of ps in (S.0, t_moved (cut h) S.1, S.2)

star_0 : (ws : List Word) (e : Bool) (q : Got (parts_of l.star (inl tt)) ws e (l.Meaning l.star) (chosen (productions l.star) (inl tt)).made) → From l.star ws e (worth q)
star_0 _ e (token {w = a} f end) = (a, refl, mk "*" a f, refl)

limits_0 : (ws : List Word) (e : Bool) (q : Got (parts_of l.limits (inl tt)) ws e (l.Meaning l.limits) (chosen (productions l.limits) (inl tt)).made) → From l.limits ws e (worth q)
limits_0 _ e (token {w = a} f (token {w = b} f2 (piece us m x (token {w = c} f3 end) h))) = let X = expr_of x in
    (_, (λ z. t_by g.Count (λ z. refl) (t_tok (wd "count" a f) (t_tok (mk "(" b f2) (t_part X.1 (t_tok (mk ")" c f3) t_end) h)))), λ j. bounds.Count (X.2 j) a.token.pos)

limits_1 : (ws : List Word) (e : Bool) (q : Got (parts_of l.limits (inr (inl tt))) ws e (l.Meaning l.limits) (chosen (productions l.limits) (inr (inl tt))).made) → From l.limits ws e (worth q)
limits_1 _ e (token {w = a} f (token {w = b} f2 (piece us m x (token {w = c} f3 end) h))) = let X = expr_of x in
    (_, (λ z. t_by g.ByteCount (λ z. refl) (t_tok (wd "byte_count" a f) (t_tok (mk "(" b f2) (t_part X.1 (t_tok (mk ")" c f3) t_end) h)))), λ j. bounds.ByteCount (X.2 j) a.token.pos)

limits_2 : (ws : List Word) (e : Bool) (q : Got (parts_of l.limits (inr (inr (inl tt)))) ws e (l.Meaning l.limits) (chosen (productions l.limits) (inr (inr (inl tt)))).made) → From l.limits ws e (worth q)
limits_2 _ e (token {w = a} f (token {w = b} f2 (token {w = u} f4 (token {w = c} f3 end)))) =
    (_, (λ z. t_by g.BoundsOf (λ z. refl) (t_tok (wd "bounds" a f) (t_tok (mk "(" b f2) (t_last (λ z. t_by g.Unknown (λ z. refl) (t_tok (wd "unknown" u f4) (t_last (λ z. t_by g.UnknownEnd (λ z. refl) (t_tok (mk ")" c f3) t_end))))))))), refl)

limits_3 : (ws : List Word) (e : Bool) (q : Got (parts_of l.limits (inr (inr (inr (inl tt))))) ws e (l.Meaning l.limits) (chosen (productions l.limits) (inr (inr (inr (inl tt))))).made) → From l.limits ws e (worth q)
limits_3 _ e (token {w = a} f (token {w = b} f2 (piece us m x (token {w = c} f3 (piece vs m2 y (token {w = d} f4 end) h2)) h1))) = between_of a b c d (wd "bounds" a f) (mk "(" b f2) x (mk "," c f3) y (mk ")" d f4) h2 h1

block_0 : (ws : List Word) (e : Bool) (q : Got (parts_of l.block (inl tt)) ws e (l.Meaning l.block) (chosen (productions l.block) (inl tt)).made) → From l.block ws e (worth q)
block_0 _ e (token {w = a} f (piece us m ls (token {w = c} f2 end) h)) = let S = lines_of c ls refl (mk "}" c f2) in (a, _, S.0, mk "{" a f, S.1, ap (λ z. a ∷ z) h, λ j. (a.token.pos, S.2 j))

line_0 : (ws : List Word) (e : Bool) (q : Got (parts_of l.line (inl tt)) ws e (l.Meaning l.line) (chosen (productions l.line) (inl tt)).made) → From l.line ws e (worth q)
line_0 _ e (piece us m d (token {w = c} f end) h) = let D = d c (mk ";" c f) in inl (D.0, t_moved h D.1, D.2)

line_1 : (ws : List Word) (e : Bool) (q : Got (parts_of l.line (inr (inl tt))) ws e (l.Meaning l.line) (chosen (productions l.line) (inr (inl tt))).made) → From l.line ws e (worth q)
line_1 _ e (piece us m d end h) = inr (d.0, at_moved (cut h) d.1, λ j. d.2 j ∷ [])

local_0 : (ws : List Word) (e : Bool) (q : Got (parts_of l.local (inl tt)) ws e (l.Meaning l.local) (chosen (productions l.local) (inl tt)).made) → From l.local ws e (worth q)
local_0 _ e (piece us b t1 (piece vs ds cs end h2) h1) = λ c f. local_of_form c t1 cs f refl (sym (append_assoc us vs (c ∷ [])) ∙ ap (λ z. z ++ (c ∷ [])) (ap (λ z. us ++ z) (cut h2) ∙ h1))

local_name_0 : (ws : List Word) (e : Bool) (q : Got (parts_of l.local_name (inl tt)) ws e (l.Meaning l.local_name) (chosen (productions l.local_name) (inl tt)).made) → From l.local_name ws e (worth q)
local_name_0 _ e (piece us p ps (token {w = a} f (piece vs o r (piece xs o2 i end h3) h2)) h1) =
    let R = range_of r in
    let I = first_of_local i in
    (_, (λ z. t_by g.LocalName (λ z. refl) (t_part ps.1 (t_tok (name_kind a f) (t_part R.1 (t_part I.1 t_end h3) h2)) h1)), λ j b. declared (starred b (ps.2 j)) a.token lengths.Plain (R.2 j) (I.2 j))

right_0 : (ws : List Word) (e : Bool) (q : Got (parts_of l.right (inl tt)) ws e (l.Meaning l.right) (chosen (productions l.right) (inl tt)).made) → From l.right ws e (worth q)
right_0 _ e (piece us m x end h) = let X = right_of x in (X.0, t_moved (cut h) X.1, X.2)

right_1 : (ws : List Word) (e : Bool) (q : Got (parts_of l.right (inr (inl tt))) ws e (l.Meaning l.right) (chosen (productions l.right) (inr (inl tt))).made) → From l.right ws e (worth q)
right_1 _ e (piece us m x end h) = let X = calloc_right x in (X.0, t_moved (cut h) X.1, X.2)

assign_0 : (ws : List Word) (e : Bool) (q : Got (parts_of l.assign (inl tt)) ws e (l.Meaning l.assign) (chosen (productions l.assign) (inl tt)).made) → From l.assign ws e (worth q)
assign_0 _ e (piece us m x (token {w = a} f (piece vs m2 y end h2)) h1) = set_assign x (λ z. t_by g.SetTo (λ z. refl) (t_tok (mk "=" a f) (t_last y.1))) refl (ap (λ z. us ++ (a ∷ z)) (cut h2) ∙ h1) (λ j. L.stmt_at (act.Assign m (y.2 j)) a.token.pos)

assign_1 : (ws : List Word) (e : Bool) (q : Got (parts_of l.assign (inr (inl tt))) ws e (l.Meaning l.assign) (chosen (productions l.assign) (inr (inl tt))).made) → From l.assign ws e (worth q)
assign_1 _ e (piece us m x (piece vs m2 o (piece xs m3 y end h3) h2) h1) =
    let Y = expr_of y in
    set_assign x (t_moved (ap (λ z. z ++ xs) o.1 ∙ ap (λ z. vs ++ z) (cut h3) ∙ h2) (λ z. t_by g.SetBy (λ z. refl) (t_tok o.2 (t_last Y.1)))) refl h1 (λ j. L.assigned_by m (o.3 j) (Y.2 j))

assign_2 : (ws : List Word) (e : Bool) (q : Got (parts_of l.assign (inr (inr (inl tt)))) ws e (l.Meaning l.assign) (chosen (productions l.assign) (inr (inr (inl tt)))).made) → From l.assign ws e (worth q)
assign_2 _ e (piece us m o (piece vs m2 x end h2) h1) = step_assign o.2 x (ap (λ z. z ++ vs) o.1 ∙ ap (λ z. us ++ z) (cut h2) ∙ h1) (λ j. L.assigned_by m2 (o.3 j) (L.one_at (o.3 j).1))

assign_3 : (ws : List Word) (e : Bool) (q : Got (parts_of l.assign (inr (inr (inr (inl tt))))) ws e (l.Meaning l.assign) (chosen (productions l.assign) (inr (inr (inr (inl tt))))).made) → From l.assign ws e (worth q)
assign_3 _ e (piece us m x (piece vs m2 o end h2) h1) = post_step o.0 o.2 x (ap (λ z. us ++ z) (o.1 ∙ cut h2) ∙ h1) (λ j. L.assigned_by m (o.3 j) (L.one_at (o.3 j).1))

change_0 : (ws : List Word) (e : Bool) (q : Got (parts_of l.change (inl tt)) ws e (l.Meaning l.change) (chosen (productions l.change) (inl tt)).made) → From l.change ws e (worth q)
change_0 _ e (piece us m s (token {w = c} f end) h) = (us, c, s, mk ";" c f, h)

stmt_0 : (ws : List Word) (e : Bool) (q : Got (parts_of l.stmt (inl tt)) ws e (l.Meaning l.stmt) (chosen (productions l.stmt) (inl tt)).made) → From l.stmt ws e (worth q)
stmt_0 _ e (piece us m b end h) = stmt_any (_, t_moved (b.5 ∙ cut h) (λ z. t_by g.Block (λ z. refl) (t_tok b.3 (t_last b.4))), λ j. L.stmt_at (act.Block None (b.6 j).1) (b.6 j).0) e

stmt_1 : (ws : List Word) (e : Bool) (q : Got (parts_of l.stmt (inr (inl tt))) ws e (l.Meaning l.stmt) (chosen (productions l.stmt) (inr (inl tt))).made) → From l.stmt ws e (worth q)
stmt_1 _ e (piece us m d (piece vs m2 b end h2) h1) =
    stmt_any (_, (λ z. t_by g.ModedBlock (λ z. refl) (t_part d.1 (t_tok b.3 (t_last b.4)) (ap (λ z. us ++ z) (b.5 ∙ cut h2) ∙ h1))), λ j. L.stmt_at (act.Block (Some (d.2 j).0) (b.6 j).1) (d.2 j).1) e

stmt_2 : (ws : List Word) (e : Bool) (q : Got (parts_of l.stmt (inr (inr (inl tt)))) ws e (l.Meaning l.stmt) (chosen (productions l.stmt) (inr (inr (inl tt)))).made) → From l.stmt ws e (worth q)
stmt_2 _ e (token {w = a} f end) = stmt_any (_, (λ z. t_by g.Empty (λ z. refl) (t_tok (mk ";" a f) t_end)), refl) e

stmt_3 : (ws : List Word) (e : Bool) (q : Got (parts_of l.stmt (inr (inr (inr (inl tt))))) ws e (l.Meaning l.stmt) (chosen (productions l.stmt) (inr (inr (inr (inl tt))))).made) → From l.stmt ws e (worth q)
stmt_3 _ e (piece us m s (token {w = c} f end) h) = stmt_any (assign_stmt c s (mk ";" c f) h) e

stmt_4 : (ws : List Word) (e : Bool) (q : Got (parts_of l.stmt (inr (inr (inr (inr (inl tt)))))) ws e (l.Meaning l.stmt) (chosen (productions l.stmt) (inr (inr (inr (inr (inl tt)))))).made) → From l.stmt ws e (worth q)
stmt_4 _ e (piece us m s (token {w = c} f end) h) = stmt_any (call_stmt c s (mk ";" c f) h) e

stmt_5 : (ws : List Word) (e : Bool) (q : Got (parts_of l.stmt (inr (inr (inr (inr (inr (inl tt))))))) ws e (l.Meaning l.stmt) (chosen (productions l.stmt) (inr (inr (inr (inr (inr (inl tt))))))).made) → From l.stmt ws e (worth q)
stmt_5 _ e (token {w = a} f1 (token {w = b} f2 (piece us m x (token {w = c} f3 (piece vs m2 s (token {w = q} f4 (piece xs m3 r end h3)) h2)) h1))) =
    let X = expr_of x in
    (_, t_by g.If (λ z. refl) (t_tok (kw "if" a f1) (t_tok (mk "(" b f2) (t_part X.1 (t_tok (mk ")" c f3) (t_part_at s.1 (t_part_at {ys = []} (t_by g.Else (λ z. refl) (t_tok (kw "else" q f4) (t_part_at r.1 t_end h3))) t_end (append-nil _)) h2)) h1))), λ j. L.stmt_at (act.If (X.2 j) (s.2 j) (Some (r.2 j))) a.token.pos)

stmt_6 : (ws : List Word) (e : Bool) (q : Got (parts_of l.stmt (inr (inr (inr (inr (inr (inr (inl tt)))))))) ws e (l.Meaning l.stmt) (chosen (productions l.stmt) (inr (inr (inr (inr (inr (inr (inl tt)))))))).made) → From l.stmt ws e (worth q)
stmt_6 _ e (token {w = a} f1 (token {w = b} f2 (piece us m x (token {w = c} f3 (piece vs m2 s (sole q end) h2)) h1))) =
    let X = expr_of x in
    (_, t_by g.If (λ z. refl) (t_tok (kw "if" a f1) (t_tok (mk "(" b f2) (t_part X.1 (t_tok (mk ")" c f3) (t_part_at s.1 (t_part_at {us = []} {ys = []} (no_else_by q) t_end refl) h2)) h1))), λ j. L.stmt_at (act.If (X.2 j) (s.2 j) None) a.token.pos)

stmt_7 : (ws : List Word) (e : Bool) (q : Got (parts_of l.stmt (inr (inr (inr (inr (inr (inr (inr (inl tt))))))))) ws e (l.Meaning l.stmt) (chosen (productions l.stmt) (inr (inr (inr (inr (inr (inr (inr (inl tt))))))))).made) → From l.stmt ws e (worth q)
stmt_7 _ e (token {w = a} f1 (token {w = b} f2 (piece us m x (token {w = c} f3 (piece vs m2 s end h2)) h1))) =
    let X = expr_of x in
    (_, t_by g.While (λ z. refl) (t_tok (kw "while" a f1) (t_tok (mk "(" b f2) (t_part X.1 (t_tok (mk ")" c f3) (t_part_at s.1 t_end h2)) h1))), λ j. L.stmt_at (act.While (X.2 j) (s.2 j)) a.token.pos)

stmt_8 : (ws : List Word) (e : Bool) (q : Got (parts_of l.stmt (inr (inr (inr (inr (inr (inr (inr (inr (inl tt)))))))))) ws e (l.Meaning l.stmt) (chosen (productions l.stmt) (inr (inr (inr (inr (inr (inr (inr (inr (inl tt)))))))))).made) → From l.stmt ws e (worth q)
stmt_8 _ e (token {w = a} f1 (token {w = b} f2 (piece us m1 i (token {w = c} f3 (piece vs m2 x (token {w = d} f4 (piece xs m3 p (token {w = q} f5 (piece ys m4 s end h4)) h3)) h2)) h1))) =
    let I = start_of c i (mk ";" c f3) in
    let C = condition_of d x (mk ";" d f4) in
    let P = step_part_of q p (mk ")" q f5) in (
      _,
      t_by g.For (λ z. refl) (t_tok (kw "for" a f1) (t_tok (mk "(" b f2) (t_part I.1 (t_part C.1 (t_part P.1 (t_part_at s.1 t_end h4) (with_end xs q _ h3)) (with_end vs d _ h2)) (with_end us c _ h1)))),
      λ j. L.stmt_at (act.For (I.2 j) (C.2 j) (P.2 j) (s.2 j)) a.token.pos,
    )

stmt_9 : (ws : List Word) (e : Bool) (q : Got (parts_of l.stmt (inr (inr (inr (inr (inr (inr (inr (inr (inr (inl tt))))))))))) ws e (l.Meaning l.stmt) (chosen (productions l.stmt) (inr (inr (inr (inr (inr (inr (inr (inr (inr (inl tt))))))))))).made) → From l.stmt ws e (worth q)
stmt_9 _ e (token {w = a} f1 (piece us m x (token {w = c} f2 end) h)) = let C = condition_of c x (mk ";" c f2) in stmt_any (_, t_moved (ap (λ z. a ∷ z) h) (λ z. t_by g.Return (λ z. refl) (t_tok (kw "return" a f1) (t_last C.1))), λ j. L.stmt_at (act.Return (C.2 j)) a.token.pos) e

stmt_10 : (ws : List Word) (e : Bool) (q : Got (parts_of l.stmt (inr (inr (inr (inr (inr (inr (inr (inr (inr (inr (inl tt)))))))))))) ws e (l.Meaning l.stmt) (chosen (productions l.stmt) (inr (inr (inr (inr (inr (inr (inr (inr (inr (inr (inl tt)))))))))))).made) → From l.stmt ws e (worth q)
stmt_10 _ e (token {w = a} f1 (token {w = c} f2 end)) = stmt_any (_, (λ z. t_by g.Break (λ z. refl) (t_tok (kw "break" a f1) (t_tok (mk ";" c f2) t_end))), refl) e

stmt_11 : (ws : List Word) (e : Bool) (q : Got (parts_of l.stmt (inr (inr (inr (inr (inr (inr (inr (inr (inr (inr (inr (inl tt))))))))))))) ws e (l.Meaning l.stmt) (chosen (productions l.stmt) (inr (inr (inr (inr (inr (inr (inr (inr (inr (inr (inr (inl tt))))))))))))).made) → From l.stmt ws e (worth q)
stmt_11 _ e (token {w = a} f1 (token {w = c} f2 end)) = stmt_any (_, (λ z. t_by g.Continue (λ z. refl) (t_tok (kw "continue" a f1) (t_tok (mk ";" c f2) t_end))), refl) e

stmt_12 : (ws : List Word) (e : Bool) (q : Got (parts_of l.stmt (inr (inr (inr (inr (inr (inr (inr (inr (inr (inr (inr (inr (inl tt)))))))))))))) ws e (l.Meaning l.stmt) (chosen (productions l.stmt) (inr (inr (inr (inr (inr (inr (inr (inr (inr (inr (inr (inr (inl tt)))))))))))))).made) → From l.stmt ws e (worth q)
stmt_12 _ e (token {w = a} f1 (token {w = b} f2 (piece us m x (token {w = c} f3 (token {w = d} f4 end)) h))) =
    let X = expr_of x in
    stmt_any (_, (λ z. t_by g.Check (λ z. refl) (t_tok (ei "_Dynamic_check" "dynamic_check" k.Check a f1 refl refl) (t_tok (mk "(" b f2) (t_part X.1 (t_tok (mk ")" c f3) (t_tok (mk ";" d f4) t_end)) h)))), λ j. L.stmt_at (act.Check (X.2 j)) a.token.pos) e

stmt_13 : (ws : List Word) (e : Bool) (q : Got (parts_of l.stmt (inr (inr (inr (inr (inr (inr (inr (inr (inr (inr (inr (inr (inr (inl tt))))))))))))))) ws e (l.Meaning l.stmt) (chosen (productions l.stmt) (inr (inr (inr (inr (inr (inr (inr (inr (inr (inr (inr (inr (inr (inl tt))))))))))))))).made) → From l.stmt ws e (worth q)
stmt_13 _ e (token {w = a} f1 (token {w = b} f2 (piece us m s (piece vs m2 r (piece xs m3 ss (token {w = c} f3 end) h3) h2) h1))) =
    let S = assign_of s.2 in
    let R = assign_of r.2 in
    let C = changes_of c ss (mk "}" c f3) in
    stmt_any (
      _,
      (λ z. t_by g.Bundle (λ z. refl) (t_tok (kw "_Bundled" a f1) (t_tok (mk "{" b f2) (t_part S.1 (t_tok s.3 (t_part R.1 (t_tok r.3 (t_last C.1)) (joint r.0 (r.1 ∷ []) (xs ++ (c ∷ [])) r.4 (ap (λ z. vs ++ z) h3 ∙ h2)))) (joint s.0 (s.1 ∷ []) _ s.4 h1))))),
      λ j. L.stmt_at (act.Bundle (S.2 j ∷ R.2 j ∷ C.2 j)) a.token.pos,
    ) e

start_0 : (ws : List Word) (e : Bool) (q : Got (parts_of l.start (inl tt)) ws e (l.Meaning l.start) (chosen (productions l.start) (inl tt)).made) → From l.start ws e (worth q)
start_0 _ e (piece us b t1 (piece vs d s end h2) h1) = λ c f.
    let B = base_of t1 in
    (_, (λ z. t_by g.LocalStart (λ z. refl) (t_part B.1 (t_part s.1 (t_tok f t_end) refl) (sym (append_assoc us vs (c ∷ [])) ∙ ap (λ z. z ++ (c ∷ [])) (ap (λ z. us ++ z) (cut h2) ∙ h1)))), λ j. Some (L.local_of ((s.2 j) (B.2 j))))

start_1 : (ws : List Word) (e : Bool) (q : Got (parts_of l.start (inr (inl tt))) ws e (l.Meaning l.start) (chosen (productions l.start) (inr (inl tt))).made) → From l.start ws e (worth q)
start_1 _ e (piece us m s end h) = λ c f. let S = assign_of s in (_, (λ z. t_by g.AssignStart (λ z. refl) (t_part S.1 (t_tok f t_end) (ap (λ z. z ++ (c ∷ [])) (cut h)))), λ j. Some (S.2 j))

call_0 : (ws : List Word) (e : Bool) (q : Got (parts_of l.call (inl tt)) ws e (l.Meaning l.call) (chosen (productions l.call) (inl tt)).made) → From l.call ws e (worth q)
call_0 _ e (token {w = w} f (token {w = a} f2 (token {w = c} f3 end))) = of_name (name_kind w f) (mk "(" a f2) (λ z. t_by g.NoArguments (λ z. refl) (t_tok (mk ")" c f3) t_end)) refl refl

call_1 : (ws : List Word) (e : Bool) (q : Got (parts_of l.call (inr (inl tt))) ws e (l.Meaning l.call) (chosen (productions l.call) (inr (inl tt))).made) → From l.call ws e (worth q)
call_1 _ e (token {w = w} f (token {w = a} f2 (piece us m (comma_form {us = xs} {ys = rest} x more1 q i) (token {w = c} f3 end) h))) =
    let X = expr_of x in
    let R = arguments_of c more1 (mk ")" c f3) in
    of_name (name_kind w f) (mk "(" a f2) (λ z. t_by g.Arguments (λ z. refl) (t_part X.1 (t_last R.1) (joint xs rest (c ∷ []) q h))) refl ((λ j. v.called w.token (X.2 j ∷ R.2 j)) ∙ (λ j. v.called w.token (i j)))

call_2 : (ws : List Word) (e : Bool) (q : Got (parts_of l.call (inr (inr (inl tt)))) ws e (l.Meaning l.call) (chosen (productions l.call) (inr (inr (inl tt)))).made) → From l.call ws e (worth q)
call_2 _ e (piece us m x end h) = of_calloc x (cut h)

expr_0 : (ws : List Word) (e : Bool) (q : Got (parts_of l.expr (inl tt)) ws e (l.Meaning l.expr) (chosen (productions l.expr) (inl tt)).made) → From l.expr ws e (worth q)
expr_0 _ e (piece us m x (token {w = a} f (piece vs m2 y end h2)) h1) = set_expr x (λ z. t_by g.SetTo (λ z. refl) (t_tok (mk "=" a f) (t_last y.1))) refl (ap (λ z. us ++ (a ∷ z)) (cut h2) ∙ h1) (λ j. expr_at (node.Bin op.Set m (y.2 j)) a.token.pos)

expr_1 : (ws : List Word) (e : Bool) (q : Got (parts_of l.expr (inr (inl tt))) ws e (l.Meaning l.expr) (chosen (productions l.expr) (inr (inl tt))).made) → From l.expr ws e (worth q)
expr_1 _ e (piece us m x (piece vs m2 o (piece xs m3 y end h3) h2) h1) =
    let Y = expr_of y in
    set_expr x (t_moved (ap (λ z. z ++ xs) o.1 ∙ ap (λ z. vs ++ z) (cut h3) ∙ h2) (λ z. t_by g.SetBy (λ z. refl) (t_tok o.2 (t_last Y.1)))) refl h1 (λ j. L.set_by m (o.3 j) (Y.2 j))

expr_2 : (ws : List Word) (e : Bool) (q : Got (parts_of l.expr (inr (inr (inl tt)))) ws e (l.Meaning l.expr) (chosen (productions l.expr) (inr (inr (inl tt)))).made) → From l.expr ws e (worth q)
expr_2 _ e (piece us m x end h) = no_choice x h

expr_3 : (ws : List Word) (e : Bool) (q : Got (parts_of l.expr (inr (inr (inr (inl tt))))) ws e (l.Meaning l.expr) (chosen (productions l.expr) (inr (inr (inr (inl tt))))).made) → From l.expr ws e (worth q)
expr_3 _ e (piece us m x (token {w = a} f (piece ys m2 y (token {w = c} f2 (piece vs m3 z end h3)) h2)) h1) = with_choice a c x (mk "?" a f) y (mk ":" c f2) z h3 h2 h1

binary_0 : (ws : List Word) (e : Bool) (q : Got (parts_of l.binary (inl tt)) ws e (l.Meaning l.binary) (chosen (productions l.binary) (inl tt)).made) → From l.binary ws e (worth q)
binary_0 _ e (piece us m x (piece vs m2 ss end h2) h1) = binary_form x ss (ap (λ z. us ++ z) (cut h2) ∙ h1) refl

step_0 : (ws : List Word) (e : Bool) (q : Got (parts_of l.step (inl tt)) ws e (l.Meaning l.step) (chosen (productions l.step) (inl tt)).made) → From l.step ws e (worth q)
step_0 _ e (piece us m o (piece vs m2 x end h2) h1) = step o x (ap (λ z. us ++ z) (cut h2) ∙ h1) refl

unary_0 : (ws : List Word) (e : Bool) (q : Got (parts_of l.unary (inl tt)) ws e (l.Meaning l.unary) (chosen (productions l.unary) (inl tt)).made) → From l.unary ws e (worth q)
unary_0 _ e (token {w = a} f (piece us m x end h)) = unary_named (λ j. expr_at (node.Un (sign_op (plain_kind (codes "-") a f j)) m) a.token.pos) (signed_by a (ap is_sign (mk "-" a f)) x h)

unary_1 : (ws : List Word) (e : Bool) (q : Got (parts_of l.unary (inr (inl tt))) ws e (l.Meaning l.unary) (chosen (productions l.unary) (inr (inl tt))).made) → From l.unary ws e (worth q)
unary_1 _ e (token {w = a} f (piece us m x end h)) = unary_named (λ j. expr_at (node.Un (sign_op (plain_kind (codes "+") a f j)) m) a.token.pos) (signed_by a (ap is_sign (mk "+" a f)) x h)

unary_2 : (ws : List Word) (e : Bool) (q : Got (parts_of l.unary (inr (inr (inl tt)))) ws e (l.Meaning l.unary) (chosen (productions l.unary) (inr (inr (inl tt)))).made) → From l.unary ws e (worth q)
unary_2 _ e (token {w = a} f (piece us m x end h)) = unary_named (λ j. expr_at (node.Un (sign_op (plain_kind (codes "!") a f j)) m) a.token.pos) (signed_by a (ap is_sign (mk "!" a f)) x h)

unary_3 : (ws : List Word) (e : Bool) (q : Got (parts_of l.unary (inr (inr (inr (inl tt))))) ws e (l.Meaning l.unary) (chosen (productions l.unary) (inr (inr (inr (inl tt))))).made) → From l.unary ws e (worth q)
unary_3 _ e (token {w = a} f (piece us m x end h)) = unary_named (λ j. expr_at (node.Un (sign_op (plain_kind (codes "~") a f j)) m) a.token.pos) (signed_by a (ap is_sign (mk "~" a f)) x h)

unary_4 : (ws : List Word) (e : Bool) (q : Got (parts_of l.unary (inr (inr (inr (inr (inl tt)))))) ws e (l.Meaning l.unary) (chosen (productions l.unary) (inr (inr (inr (inr (inl tt)))))).made) → From l.unary ws e (worth q)
unary_4 _ e (token {w = a} f (piece us m x end h)) = unary_named (λ j. expr_at (node.Un (sign_op (plain_kind (codes "*") a f j)) m) a.token.pos) (signed_by a (ap is_sign (mk "*" a f)) x h)

unary_5 : (ws : List Word) (e : Bool) (q : Got (parts_of l.unary (inr (inr (inr (inr (inr (inl tt))))))) ws e (l.Meaning l.unary) (chosen (productions l.unary) (inr (inr (inr (inr (inr (inl tt))))))).made) → From l.unary ws e (worth q)
unary_5 _ e (token {w = a} f (piece us m x end h)) = unary_named (λ j. expr_at (node.Un (sign_op (plain_kind (codes "&") a f j)) m) a.token.pos) (signed_by a (ap is_sign (mk "&" a f)) x h)

unary_6 : (ws : List Word) (e : Bool) (q : Got (parts_of l.unary (inr (inr (inr (inr (inr (inr (inl tt)))))))) ws e (l.Meaning l.unary) (chosen (productions l.unary) (inr (inr (inr (inr (inr (inr (inl tt)))))))).made) → From l.unary ws e (worth q)
unary_6 _ e (piece us m o (piece vs m2 x end h2) h1) =
    let X = unary_of x in
    steps o.2 X.1 (ap (λ z. z ++ vs) o.1 ∙ ap (λ z. us ++ z) (cut h2) ∙ h1) (λ j. L.set_by (X.2 j) (o.3 j) (L.one_at (o.3 j).1))

unary_7 : (ws : List Word) (e : Bool) (q : Got (parts_of l.unary (inr (inr (inr (inr (inr (inr (inr (inl tt))))))))) ws e (l.Meaning l.unary) (chosen (productions l.unary) (inr (inr (inr (inr (inr (inr (inr (inl tt))))))))).made) → From l.unary ws e (worth q)
unary_7 _ e (token {w = a} f (piece us m ty (token {w = c} f2 (piece vs m2 x end h2)) h1)) = cast_by a c (mk "(" a f) ty (mk ")" c f2) x h2 h1

unary_8 : (ws : List Word) (e : Bool) (q : Got (parts_of l.unary (inr (inr (inr (inr (inr (inr (inr (inr (inl tt)))))))))) ws e (l.Meaning l.unary) (chosen (productions l.unary) (inr (inr (inr (inr (inr (inr (inr (inr (inl tt)))))))))).made) → From l.unary ws e (worth q)
unary_8 _ e (token {w = a} f (token {w = b} f2 (piece us m ty (token {w = c} f3 end) h))) = sized_by a b c (kw "sizeof" a f) (mk "(" b f2) ty (mk ")" c f3) h

unary_9 : (ws : List Word) (e : Bool) (q : Got (parts_of l.unary (inr (inr (inr (inr (inr (inr (inr (inr (inr (inl tt))))))))))) ws e (l.Meaning l.unary) (chosen (productions l.unary) (inr (inr (inr (inr (inr (inr (inr (inr (inr (inl tt))))))))))).made) → From l.unary ws e (worth q)
unary_9 _ e (piece us m x (piece vs m2 (absent q i) end h2) h1) = ends x no_increment (ap (λ z. us ++ z) (q ∙ cut h2) ∙ h1) (ap (λ z. L.incremented m z) i)
unary_9 _ e (piece us m x (piece vs m2 (present d i) end h2) h1) = ends x (one_increment d.0 d.2) (ap (λ z. us ++ z) (d.1 ∙ cut h2) ∙ h1) ((λ j. L.incremented m (Some (d.3 j))) ∙ ap (λ z. L.incremented m z) i)

postfix_0 : (ws : List Word) (e : Bool) (q : Got (parts_of l.postfix (inl tt)) ws e (l.Meaning l.postfix) (chosen (productions l.postfix) (inl tt)).made) → From l.postfix ws e (worth q)
postfix_0 _ e (piece us m p (piece vs m2 ps end h2) h1) = postfix_moved (ap (λ z. us ++ z) (cut h2) ∙ h1) (p vs _ m2 ps)

post_0 : (ws : List Word) (e : Bool) (q : Got (parts_of l.post (inl tt)) ws e (l.Meaning l.post) (chosen (productions l.post) (inl tt)).made) → From l.post ws e (worth q)
post_0 _ e (token {w = a} f (piece us m x (token {w = c} f2 end) h)) =
    let X = expr_of x in (_, (λ z. t_by g.Index (λ z. refl) (t_tok (mk "[" a f) (t_part X.1 (t_tok (mk "]" c f2) t_end) h))), λ y ps j. T.posted (expr_at (node.Index y (X.2 j)) a.token.pos) ps)

post_1 : (ws : List Word) (e : Bool) (q : Got (parts_of l.post (inr (inl tt))) ws e (l.Meaning l.post) (chosen (productions l.post) (inr (inl tt))).made) → From l.post ws e (worth q)
post_1 _ e (token {w = a} f (token {w = b} f2 end)) = (_, (λ z. t_by g.Dot (λ z. refl) (t_tok (mk "." a f) (t_tok (name_kind b f2) t_end))), λ y ps. refl)

post_2 : (ws : List Word) (e : Bool) (q : Got (parts_of l.post (inr (inr (inl tt)))) ws e (l.Meaning l.post) (chosen (productions l.post) (inr (inr (inl tt)))).made) → From l.post ws e (worth q)
post_2 _ e (token {w = a} f (token {w = b} f2 end)) = (_, (λ z. t_by g.Arrow (λ z. refl) (t_tok (mk "->" a f) (t_tok (name_kind b f2) t_end))), λ y ps. refl)

primary_0 : (ws : List Word) (e : Bool) (q : Got (parts_of l.primary (inl tt)) ws e (l.Meaning l.primary) (chosen (productions l.primary) (inl tt)).made) → From l.primary ws e (worth q)
primary_0 _ e (token {w = w} f end) = λ us d fs ps. by_name (name_kind w f) no_call ps refl refl

primary_1 : (ws : List Word) (e : Bool) (q : Got (parts_of l.primary (inr (inl tt))) ws e (l.Meaning l.primary) (chosen (productions l.primary) (inr (inl tt))).made) → From l.primary ws e (worth q)
primary_1 _ e (token {w = w} f (token {w = a} f2 (token {w = c} f3 end))) = λ us d fs ps. by_name (name_kind w f) (with_call (mk "(" a f2) (λ z. t_by g.NoArguments (λ z. refl) (t_tok (mk ")" c f3) t_end))) ps refl refl

primary_2 : (ws : List Word) (e : Bool) (q : Got (parts_of l.primary (inr (inr (inl tt)))) ws e (l.Meaning l.primary) (chosen (productions l.primary) (inr (inr (inl tt)))).made) → From l.primary ws e (worth q)
primary_2 _ e (token {w = w} f (token {w = a} f2 (piece us m (comma_form {us = xs} {ys = rest} x more1 q i) (token {w = c} f3 end) h))) = λ vs d fs ps.
    let X = expr_of x in
    let R = arguments_of c more1 (mk ")" c f3) in
    by_name (name_kind w f) (with_call (mk "(" a f2) (λ z. t_by g.Arguments (λ z. refl) (t_part X.1 (t_last R.1) (joint xs rest (c ∷ []) q h)))) ps refl (ap (λ z. applied (v.called w.token z) fs) (cons_eq X.2 R.2 ∙ i))

primary_3 : (ws : List Word) (e : Bool) (q : Got (parts_of l.primary (inr (inr (inr (inl tt))))) ws e (l.Meaning l.primary) (chosen (productions l.primary) (inr (inr (inr (inl tt))))).made) → From l.primary ws e (worth q)
primary_3 _ e (token {w = w} f end) = λ us d fs ps. first_by (constant_by (λ z. t_by g.Literal (λ z. refl) (t_tok (ap is_literal (number_kind w f)) t_end)) refl) ps

primary_4 : (ws : List Word) (e : Bool) (q : Got (parts_of l.primary (inr (inr (inr (inr (inl tt)))))) ws e (l.Meaning l.primary) (chosen (productions l.primary) (inr (inr (inr (inr (inl tt)))))).made) → From l.primary ws e (worth q)
primary_4 _ e (token {w = w} f end) = λ us d fs ps. first_by (constant_by (λ z. t_by g.Literal (λ z. refl) (t_tok (ap is_literal (character_kind w f)) t_end)) refl) ps

primary_5 : (ws : List Word) (e : Bool) (q : Got (parts_of l.primary (inr (inr (inr (inr (inr (inl tt))))))) ws e (l.Meaning l.primary) (chosen (productions l.primary) (inr (inr (inr (inr (inr (inl tt))))))).made) → From l.primary ws e (worth q)
primary_5 _ e (token {w = w} f end) = λ us d fs ps. first_by (constant_by (λ z. t_by g.String (λ z. refl) (t_tok (string_kind w f) t_end)) refl) ps

primary_6 : (ws : List Word) (e : Bool) (q : Got (parts_of l.primary (inr (inr (inr (inr (inr (inr (inl tt)))))))) ws e (l.Meaning l.primary) (chosen (productions l.primary) (inr (inr (inr (inr (inr (inr (inl tt)))))))).made) → From l.primary ws e (worth q)
primary_6 _ e (token {w = w} f end) = λ us d fs ps. first_by (constant_by (λ z. t_by g.Null (λ z. refl) (t_tok (kw "NULL" w f) t_end)) refl) ps

primary_7 : (ws : List Word) (e : Bool) (q : Got (parts_of l.primary (inr (inr (inr (inr (inr (inr (inr (inl tt))))))))) ws e (l.Meaning l.primary) (chosen (productions l.primary) (inr (inr (inr (inr (inr (inr (inr (inl tt))))))))).made) → From l.primary ws e (worth q)
primary_7 _ e (token {w = w} f end) = λ us d fs ps. first_by (constant_by (λ z. t_by g.Eof (λ z. refl) (t_tok (kw "EOF" w f) t_end)) refl) ps

primary_8 : (ws : List Word) (e : Bool) (q : Got (parts_of l.primary (inr (inr (inr (inr (inr (inr (inr (inr (inl tt)))))))))) ws e (l.Meaning l.primary) (chosen (productions l.primary) (inr (inr (inr (inr (inr (inr (inr (inr (inl tt)))))))))).made) → From l.primary ws e (worth q)
primary_8 _ e (token {w = a} f (piece us m x (token {w = c} f2 end) h)) = λ vs d fs ps. round_by a c (mk "(" a f) x (mk ")" c f2) h ps

primary_9 : (ws : List Word) (e : Bool) (q : Got (parts_of l.primary (inr (inr (inr (inr (inr (inr (inr (inr (inr (inl tt))))))))))) ws e (l.Meaning l.primary) (chosen (productions l.primary) (inr (inr (inr (inr (inr (inr (inr (inr (inr (inl tt))))))))))).made) → From l.primary ws e (worth q)
primary_9 _ e (token {w = q} f0 (token {w = a} f (piece us m ty (token {w = b} f2 (token {w = c} f3 (piece vs m2 x (piece xs m3 r (token {w = d} f4 end) h3) h2))) h1))) = λ ws1 d1 fs ps.
    let C = cast_of a b c d (mk "<" a f) ty (greater_kind b f2) (mk "(" c f3) x r (mk ")" d f4) h3 h2 h1 in
    first_by (_, (λ z. t_by g.Tested (λ z. refl) (t_tok (ei "_Dynamic_bounds_cast" "dynamic_bounds_cast" k.Tested q f0 refl refl) (t_last C.1))), λ j. expr_at (node.Tested (C.2 j) (C.3 j) (C.4 j)) q.token.pos) ps

primary_10 : (ws : List Word) (e : Bool) (q : Got (parts_of l.primary (inr (inr (inr (inr (inr (inr (inr (inr (inr (inr (inl tt)))))))))))) ws e (l.Meaning l.primary) (chosen (productions l.primary) (inr (inr (inr (inr (inr (inr (inr (inr (inr (inr (inl tt)))))))))))).made) → From l.primary ws e (worth q)
primary_10 _ e (token {w = q} f0 (token {w = a} f (piece us m ty (token {w = b} f2 (token {w = c} f3 (piece vs m2 x (piece xs m3 r (token {w = d} f4 end) h3) h2))) h1))) = λ ws1 d1 fs ps.
    let C = cast_of a b c d (mk "<" a f) ty (greater_kind b f2) (mk "(" c f3) x r (mk ")" d f4) h3 h2 h1 in
    first_by (_, (λ z. t_by g.Trusted (λ z. refl) (t_tok (ei "_Assume_bounds_cast" "assume_bounds_cast" k.Trusted q f0 refl refl) (t_last C.1))), λ j. expr_at (node.Trusted (C.2 j) (C.3 j) (C.4 j)) q.token.pos) ps

opt_0 : (p : l.Part) (ws : List Word) (e : Bool) (q : Got (parts_of (l.opt p) (inl tt)) ws e (l.Meaning (l.opt p)) (chosen (productions (l.opt p)) (inl tt)).made) → From (l.opt p) ws e (worth q)
opt_0 p _ e end = absent refl refl

opt_1 : (p : l.Part) (ws : List Word) (e : Bool) (q : Got (parts_of (l.opt p) (inr (inl tt))) ws e (l.Meaning (l.opt p)) (chosen (productions (l.opt p)) (inr (inl tt))).made) → From (l.opt p) ws e (worth q)
opt_1 p _ e (piece us m d end h) = present (from_moved p e m (cut h) d) refl

many_0 : (p : l.Part) (ws : List Word) (e : Bool) (q : Got (parts_of (l.many p) (inl tt)) ws e (l.Meaning (l.many p)) (chosen (productions (l.many p)) (inl tt)).made) → From (l.many p) ws e (worth q)
many_0 p _ e end = none

many_1 : (p : l.Part) (ws : List Word) (e : Bool) (q : Got (parts_of (l.many p) (inr (inl tt))) ws e (l.Meaning (l.many p)) (chosen (productions (l.many p)) (inr (inl tt))).made) → From (l.many p) ws e (worth q)
many_1 p _ e (piece us m d (piece vs ms ds end h2) h1) = more us d (each_moved (cut h2) ds) h1

commas_0 : (p : l.Part) (ws : List Word) (e : Bool) (q : Got (parts_of (l.commas p) (inl tt)) ws e (l.Meaning (l.commas p)) (chosen (productions (l.commas p)) (inl tt)).made) → From (l.commas p) ws e (worth q)
commas_0 p _ e (piece us m d (piece vs ms ds end h2) h1) = comma_form d (each_moved (cut h2) ds) h1 refl

after_0 : (r : Terminal) (p : l.Part) (ws : List Word) (e : Bool) (q : Got (parts_of (l.after r p) (inl tt)) ws e (l.Meaning (l.after r p)) (chosen (productions (l.after r p)) (inl tt)).made) → From (l.after r p) ws e (worth q)
after_0 r p _ e (token {w = w} f (piece us m d end h)) = after_form f d (ap (λ z. w ∷ z) (cut h))

-- those of a part, and of any part
of_text : (c : Choice (productions l.text)) (ws : List Word) (e : Bool) (q : Got (parts_of l.text c) ws e (l.Meaning l.text) (chosen (productions l.text) c).made) → From l.text ws e (worth q)
of_text (inl x) ws e q = text_0 ws e q
of_text (inr c) ws e q = absurd c

of_item : (c : Choice (productions l.item)) (ws : List Word) (e : Bool) (q : Got (parts_of l.item c) ws e (l.Meaning l.item) (chosen (productions l.item) c).made) → From l.item ws e (worth q)
of_item (inl x) ws e q = item_0 ws e q
of_item (inr (inl x)) ws e q = item_1 ws e q
of_item (inr (inr (inl x))) ws e q = item_2 ws e q
of_item (inr (inr (inr (inl x)))) ws e q = item_3 ws e q
of_item (inr (inr (inr (inr (inl x))))) ws e q = item_4 ws e q
of_item (inr (inr (inr (inr (inr (inl x)))))) ws e q = item_5 ws e q
of_item (inr (inr (inr (inr (inr (inr c)))))) ws e q = absurd c

of_static : (c : Choice (productions l.static)) (ws : List Word) (e : Bool) (q : Got (parts_of l.static c) ws e (l.Meaning l.static) (chosen (productions l.static) c).made) → From l.static ws e (worth q)
of_static (inl x) ws e q = static_0 ws e q
of_static (inr c) ws e q = absurd c

of_structure : (c : Choice (productions l.structure)) (ws : List Word) (e : Bool) (q : Got (parts_of l.structure c) ws e (l.Meaning l.structure) (chosen (productions l.structure) c).made) → From l.structure ws e (worth q)
of_structure (inl x) ws e q = structure_0 ws e q
of_structure (inr c) ws e q = absurd c

of_member : (c : Choice (productions l.member)) (ws : List Word) (e : Bool) (q : Got (parts_of l.member c) ws e (l.Meaning l.member) (chosen (productions l.member) c).made) → From l.member ws e (worth q)
of_member (inl x) ws e q = member_0 ws e q
of_member (inr c) ws e q = absurd c

of_slot : (c : Choice (productions l.slot)) (ws : List Word) (e : Bool) (q : Got (parts_of l.slot c) ws e (l.Meaning l.slot) (chosen (productions l.slot) c).made) → From l.slot ws e (worth q)
of_slot (inl x) ws e q = slot_0 ws e q
of_slot (inr c) ws e q = absurd c

of_objects : (c : Choice (productions l.objects)) (ws : List Word) (e : Bool) (q : Got (parts_of l.objects c) ws e (l.Meaning l.objects) (chosen (productions l.objects) c).made) → From l.objects ws e (worth q)
of_objects (inl x) ws e q = objects_0 ws e q
of_objects (inr c) ws e q = absurd c

of_object : (c : Choice (productions l.object)) (ws : List Word) (e : Bool) (q : Got (parts_of l.object c) ws e (l.Meaning l.object) (chosen (productions l.object) c).made) → From l.object ws e (worth q)
of_object (inl x) ws e q = object_0 ws e q
of_object (inr c) ws e q = absurd c

of_initial : (c : Choice (productions l.initial)) (ws : List Word) (e : Bool) (q : Got (parts_of l.initial c) ws e (l.Meaning l.initial) (chosen (productions l.initial) c).made) → From l.initial ws e (worth q)
of_initial (inl x) ws e q = initial_0 ws e q
of_initial (inr (inl x)) ws e q = initial_1 ws e q
of_initial (inr (inr (inl x))) ws e q = initial_2 ws e q
of_initial (inr (inr (inr c))) ws e q = absurd c

of_array : (c : Choice (productions l.array)) (ws : List Word) (e : Bool) (q : Got (parts_of l.array c) ws e (l.Meaning l.array) (chosen (productions l.array) c).made) → From l.array ws e (worth q)
of_array (inl x) ws e q = array_0 ws e q
of_array (inr (inl x)) ws e q = array_1 ws e q
of_array (inr (inr (inl x))) ws e q = array_2 ws e q
of_array (inr (inr (inr c))) ws e q = absurd c

of_size : (c : Choice (productions l.size)) (ws : List Word) (e : Bool) (q : Got (parts_of l.size c) ws e (l.Meaning l.size) (chosen (productions l.size) c).made) → From l.size ws e (worth q)
of_size (inl x) ws e q = size_0 ws e q
of_size (inr c) ws e q = absurd c

of_proto : (c : Choice (productions l.proto)) (ws : List Word) (e : Bool) (q : Got (parts_of l.proto c) ws e (l.Meaning l.proto) (chosen (productions l.proto) c).made) → From l.proto ws e (worth q)
of_proto (inl x) ws e q = proto_0 ws e q
of_proto (inr c) ws e q = absurd c

of_func : (c : Choice (productions l.func)) (ws : List Word) (e : Bool) (q : Got (parts_of l.func c) ws e (l.Meaning l.func) (chosen (productions l.func) c).made) → From l.func ws e (worth q)
of_func (inl x) ws e q = func_0 ws e q
of_func (inr c) ws e q = absurd c

of_head : (c : Choice (productions l.head)) (ws : List Word) (e : Bool) (q : Got (parts_of l.head c) ws e (l.Meaning l.head) (chosen (productions l.head) c).made) → From l.head ws e (worth q)
of_head (inl x) ws e q = head_0 ws e q
of_head (inr (inl x)) ws e q = head_1 ws e q
of_head (inr (inr c)) ws e q = absurd c

of_params : (c : Choice (productions l.params)) (ws : List Word) (e : Bool) (q : Got (parts_of l.params c) ws e (l.Meaning l.params) (chosen (productions l.params) c).made) → From l.params ws e (worth q)
of_params (inl x) ws e q = params_0 ws e q
of_params (inr (inl x)) ws e q = params_1 ws e q
of_params (inr (inr (inl x))) ws e q = params_2 ws e q
of_params (inr (inr (inr c))) ws e q = absurd c

of_param : (c : Choice (productions l.param)) (ws : List Word) (e : Bool) (q : Got (parts_of l.param c) ws e (l.Meaning l.param) (chosen (productions l.param) c).made) → From l.param ws e (worth q)
of_param (inl x) ws e q = param_0 ws e q
of_param (inr c) ws e q = absurd c

of_mode : (c : Choice (productions l.mode)) (ws : List Word) (e : Bool) (q : Got (parts_of l.mode c) ws e (l.Meaning l.mode) (chosen (productions l.mode) c).made) → From l.mode ws e (worth q)
of_mode (inl x) ws e q = mode_0 ws e q
of_mode (inr (inl x)) ws e q = mode_1 ws e q
of_mode (inr (inr c)) ws e q = absurd c

of_base : (c : Choice (productions l.base)) (ws : List Word) (e : Bool) (q : Got (parts_of l.base c) ws e (l.Meaning l.base) (chosen (productions l.base) c).made) → From l.base ws e (worth q)
of_base (inl x) ws e q = base_0 ws e q
of_base (inr (inl x)) ws e q = base_1 ws e q
of_base (inr (inr (inl x))) ws e q = base_2 ws e q
of_base (inr (inr (inr (inl x)))) ws e q = base_3 ws e q
of_base (inr (inr (inr (inr (inl x))))) ws e q = base_4 ws e q
of_base (inr (inr (inr (inr (inr (inl x)))))) ws e q = base_5 ws e q
of_base (inr (inr (inr (inr (inr (inr (inl x))))))) ws e q = base_6 ws e q
of_base (inr (inr (inr (inr (inr (inr (inr (inl x)))))))) ws e q = base_7 ws e q
of_base (inr (inr (inr (inr (inr (inr (inr (inr c)))))))) ws e q = absurd c

of_type_name : (c : Choice (productions l.type_name)) (ws : List Word) (e : Bool) (q : Got (parts_of l.type_name c) ws e (l.Meaning l.type_name) (chosen (productions l.type_name) c).made) → From l.type_name ws e (worth q)
of_type_name (inl x) ws e q = type_name_0 ws e q
of_type_name (inr c) ws e q = absurd c

of_stars : (c : Choice (productions l.stars)) (ws : List Word) (e : Bool) (q : Got (parts_of l.stars c) ws e (l.Meaning l.stars) (chosen (productions l.stars) c).made) → From l.stars ws e (worth q)
of_stars (inl x) ws e q = stars_0 ws e q
of_stars (inr c) ws e q = absurd c

of_star : (c : Choice (productions l.star)) (ws : List Word) (e : Bool) (q : Got (parts_of l.star c) ws e (l.Meaning l.star) (chosen (productions l.star) c).made) → From l.star ws e (worth q)
of_star (inl x) ws e q = star_0 ws e q
of_star (inr c) ws e q = absurd c

of_limits : (c : Choice (productions l.limits)) (ws : List Word) (e : Bool) (q : Got (parts_of l.limits c) ws e (l.Meaning l.limits) (chosen (productions l.limits) c).made) → From l.limits ws e (worth q)
of_limits (inl x) ws e q = limits_0 ws e q
of_limits (inr (inl x)) ws e q = limits_1 ws e q
of_limits (inr (inr (inl x))) ws e q = limits_2 ws e q
of_limits (inr (inr (inr (inl x)))) ws e q = limits_3 ws e q
of_limits (inr (inr (inr (inr c)))) ws e q = absurd c

of_block : (c : Choice (productions l.block)) (ws : List Word) (e : Bool) (q : Got (parts_of l.block c) ws e (l.Meaning l.block) (chosen (productions l.block) c).made) → From l.block ws e (worth q)
of_block (inl x) ws e q = block_0 ws e q
of_block (inr c) ws e q = absurd c

of_line : (c : Choice (productions l.line)) (ws : List Word) (e : Bool) (q : Got (parts_of l.line c) ws e (l.Meaning l.line) (chosen (productions l.line) c).made) → From l.line ws e (worth q)
of_line (inl x) ws e q = line_0 ws e q
of_line (inr (inl x)) ws e q = line_1 ws e q
of_line (inr (inr c)) ws e q = absurd c

of_local : (c : Choice (productions l.local)) (ws : List Word) (e : Bool) (q : Got (parts_of l.local c) ws e (l.Meaning l.local) (chosen (productions l.local) c).made) → From l.local ws e (worth q)
of_local (inl x) ws e q = local_0 ws e q
of_local (inr c) ws e q = absurd c

of_local_name : (c : Choice (productions l.local_name)) (ws : List Word) (e : Bool) (q : Got (parts_of l.local_name c) ws e (l.Meaning l.local_name) (chosen (productions l.local_name) c).made) → From l.local_name ws e (worth q)
of_local_name (inl x) ws e q = local_name_0 ws e q
of_local_name (inr c) ws e q = absurd c

of_right : (c : Choice (productions l.right)) (ws : List Word) (e : Bool) (q : Got (parts_of l.right c) ws e (l.Meaning l.right) (chosen (productions l.right) c).made) → From l.right ws e (worth q)
of_right (inl x) ws e q = right_0 ws e q
of_right (inr (inl x)) ws e q = right_1 ws e q
of_right (inr (inr c)) ws e q = absurd c

of_assign : (c : Choice (productions l.assign)) (ws : List Word) (e : Bool) (q : Got (parts_of l.assign c) ws e (l.Meaning l.assign) (chosen (productions l.assign) c).made) → From l.assign ws e (worth q)
of_assign (inl x) ws e q = assign_0 ws e q
of_assign (inr (inl x)) ws e q = assign_1 ws e q
of_assign (inr (inr (inl x))) ws e q = assign_2 ws e q
of_assign (inr (inr (inr (inl x)))) ws e q = assign_3 ws e q
of_assign (inr (inr (inr (inr c)))) ws e q = absurd c

of_op : (c : Choice (productions l.op)) (ws : List Word) (e : Bool) (q : Got (parts_of l.op c) ws e (l.Meaning l.op) (chosen (productions l.op) c).made) → From l.op ws e (worth q)
of_op (inl x) ws e q = op_0 ws e q
of_op (inr (inl x)) ws e q = op_1 ws e q
of_op (inr (inr (inl x))) ws e q = op_2 ws e q
of_op (inr (inr (inr (inl x)))) ws e q = op_3 ws e q
of_op (inr (inr (inr (inr (inl x))))) ws e q = op_4 ws e q
of_op (inr (inr (inr (inr (inr (inl x)))))) ws e q = op_5 ws e q
of_op (inr (inr (inr (inr (inr (inr (inl x))))))) ws e q = op_6 ws e q
of_op (inr (inr (inr (inr (inr (inr (inr (inl x)))))))) ws e q = op_7 ws e q
of_op (inr (inr (inr (inr (inr (inr (inr (inr c)))))))) ws e q = absurd c

of_increment : (c : Choice (productions l.increment)) (ws : List Word) (e : Bool) (q : Got (parts_of l.increment c) ws e (l.Meaning l.increment) (chosen (productions l.increment) c).made) → From l.increment ws e (worth q)
of_increment (inl x) ws e q = increment_0 ws e q
of_increment (inr (inl x)) ws e q = increment_1 ws e q
of_increment (inr (inr c)) ws e q = absurd c

of_calloc_part : (c : Choice (productions l.calloc)) (ws : List Word) (e : Bool) (q : Got (parts_of l.calloc c) ws e (l.Meaning l.calloc) (chosen (productions l.calloc) c).made) → From l.calloc ws e (worth q)
of_calloc_part (inl x) ws e q = calloc_0 ws e q
of_calloc_part (inr c) ws e q = absurd c

of_change : (c : Choice (productions l.change)) (ws : List Word) (e : Bool) (q : Got (parts_of l.change c) ws e (l.Meaning l.change) (chosen (productions l.change) c).made) → From l.change ws e (worth q)
of_change (inl x) ws e q = change_0 ws e q
of_change (inr c) ws e q = absurd c

of_stmt : (c : Choice (productions l.stmt)) (ws : List Word) (e : Bool) (q : Got (parts_of l.stmt c) ws e (l.Meaning l.stmt) (chosen (productions l.stmt) c).made) → From l.stmt ws e (worth q)
of_stmt (inl x) ws e q = stmt_0 ws e q
of_stmt (inr (inl x)) ws e q = stmt_1 ws e q
of_stmt (inr (inr (inl x))) ws e q = stmt_2 ws e q
of_stmt (inr (inr (inr (inl x)))) ws e q = stmt_3 ws e q
of_stmt (inr (inr (inr (inr (inl x))))) ws e q = stmt_4 ws e q
of_stmt (inr (inr (inr (inr (inr (inl x)))))) ws e q = stmt_5 ws e q
of_stmt (inr (inr (inr (inr (inr (inr (inl x))))))) ws e q = stmt_6 ws e q
of_stmt (inr (inr (inr (inr (inr (inr (inr (inl x)))))))) ws e q = stmt_7 ws e q
of_stmt (inr (inr (inr (inr (inr (inr (inr (inr (inl x))))))))) ws e q = stmt_8 ws e q
of_stmt (inr (inr (inr (inr (inr (inr (inr (inr (inr (inl x)))))))))) ws e q = stmt_9 ws e q
of_stmt (inr (inr (inr (inr (inr (inr (inr (inr (inr (inr (inl x))))))))))) ws e q = stmt_10 ws e q
of_stmt (inr (inr (inr (inr (inr (inr (inr (inr (inr (inr (inr (inl x)))))))))))) ws e q = stmt_11 ws e q
of_stmt (inr (inr (inr (inr (inr (inr (inr (inr (inr (inr (inr (inr (inl x))))))))))))) ws e q = stmt_12 ws e q
of_stmt (inr (inr (inr (inr (inr (inr (inr (inr (inr (inr (inr (inr (inr (inl x)))))))))))))) ws e q = stmt_13 ws e q
of_stmt (inr (inr (inr (inr (inr (inr (inr (inr (inr (inr (inr (inr (inr (inr c)))))))))))))) ws e q = absurd c

of_start : (c : Choice (productions l.start)) (ws : List Word) (e : Bool) (q : Got (parts_of l.start c) ws e (l.Meaning l.start) (chosen (productions l.start) c).made) → From l.start ws e (worth q)
of_start (inl x) ws e q = start_0 ws e q
of_start (inr (inl x)) ws e q = start_1 ws e q
of_start (inr (inr c)) ws e q = absurd c

of_call : (c : Choice (productions l.call)) (ws : List Word) (e : Bool) (q : Got (parts_of l.call c) ws e (l.Meaning l.call) (chosen (productions l.call) c).made) → From l.call ws e (worth q)
of_call (inl x) ws e q = call_0 ws e q
of_call (inr (inl x)) ws e q = call_1 ws e q
of_call (inr (inr (inl x))) ws e q = call_2 ws e q
of_call (inr (inr (inr c))) ws e q = absurd c

of_expr : (c : Choice (productions l.expr)) (ws : List Word) (e : Bool) (q : Got (parts_of l.expr c) ws e (l.Meaning l.expr) (chosen (productions l.expr) c).made) → From l.expr ws e (worth q)
of_expr (inl x) ws e q = expr_0 ws e q
of_expr (inr (inl x)) ws e q = expr_1 ws e q
of_expr (inr (inr (inl x))) ws e q = expr_2 ws e q
of_expr (inr (inr (inr (inl x)))) ws e q = expr_3 ws e q
of_expr (inr (inr (inr (inr c)))) ws e q = absurd c

of_binary : (c : Choice (productions l.binary)) (ws : List Word) (e : Bool) (q : Got (parts_of l.binary c) ws e (l.Meaning l.binary) (chosen (productions l.binary) c).made) → From l.binary ws e (worth q)
of_binary (inl x) ws e q = binary_0 ws e q
of_binary (inr c) ws e q = absurd c

of_step : (c : Choice (productions l.step)) (ws : List Word) (e : Bool) (q : Got (parts_of l.step c) ws e (l.Meaning l.step) (chosen (productions l.step) c).made) → From l.step ws e (worth q)
of_step (inl x) ws e q = step_0 ws e q
of_step (inr c) ws e q = absurd c

of_operator : (c : Choice (productions l.operator)) (ws : List Word) (e : Bool) (q : Got (parts_of l.operator c) ws e (l.Meaning l.operator) (chosen (productions l.operator) c).made) → From l.operator ws e (worth q)
of_operator (inl x) ws e q = operator_0 ws e q
of_operator (inr (inl x)) ws e q = operator_1 ws e q
of_operator (inr (inr (inl x))) ws e q = operator_2 ws e q
of_operator (inr (inr (inr (inl x)))) ws e q = operator_3 ws e q
of_operator (inr (inr (inr (inr (inl x))))) ws e q = operator_4 ws e q
of_operator (inr (inr (inr (inr (inr (inl x)))))) ws e q = operator_5 ws e q
of_operator (inr (inr (inr (inr (inr (inr (inl x))))))) ws e q = operator_6 ws e q
of_operator (inr (inr (inr (inr (inr (inr (inr (inl x)))))))) ws e q = operator_7 ws e q
of_operator (inr (inr (inr (inr (inr (inr (inr (inr (inl x))))))))) ws e q = operator_8 ws e q
of_operator (inr (inr (inr (inr (inr (inr (inr (inr (inr (inl x)))))))))) ws e q = operator_9 ws e q
of_operator (inr (inr (inr (inr (inr (inr (inr (inr (inr (inr (inl x))))))))))) ws e q = operator_10 ws e q
of_operator (inr (inr (inr (inr (inr (inr (inr (inr (inr (inr (inr (inl x)))))))))))) ws e q = operator_11 ws e q
of_operator (inr (inr (inr (inr (inr (inr (inr (inr (inr (inr (inr (inr (inl x))))))))))))) ws e q = operator_12 ws e q
of_operator (inr (inr (inr (inr (inr (inr (inr (inr (inr (inr (inr (inr (inr (inl x)))))))))))))) ws e q = operator_13 ws e q
of_operator (inr (inr (inr (inr (inr (inr (inr (inr (inr (inr (inr (inr (inr (inr (inl x))))))))))))))) ws e q = operator_14 ws e q
of_operator (inr (inr (inr (inr (inr (inr (inr (inr (inr (inr (inr (inr (inr (inr (inr (inl x)))))))))))))))) ws e q = operator_15 ws e q
of_operator (inr (inr (inr (inr (inr (inr (inr (inr (inr (inr (inr (inr (inr (inr (inr (inr (inl x))))))))))))))))) ws e q = operator_16 ws e q
of_operator (inr (inr (inr (inr (inr (inr (inr (inr (inr (inr (inr (inr (inr (inr (inr (inr (inr (inl x)))))))))))))))))) ws e q = operator_17 ws e q
of_operator (inr (inr (inr (inr (inr (inr (inr (inr (inr (inr (inr (inr (inr (inr (inr (inr (inr (inr c)))))))))))))))))) ws e q = absurd c

of_unary : (c : Choice (productions l.unary)) (ws : List Word) (e : Bool) (q : Got (parts_of l.unary c) ws e (l.Meaning l.unary) (chosen (productions l.unary) c).made) → From l.unary ws e (worth q)
of_unary (inl x) ws e q = unary_0 ws e q
of_unary (inr (inl x)) ws e q = unary_1 ws e q
of_unary (inr (inr (inl x))) ws e q = unary_2 ws e q
of_unary (inr (inr (inr (inl x)))) ws e q = unary_3 ws e q
of_unary (inr (inr (inr (inr (inl x))))) ws e q = unary_4 ws e q
of_unary (inr (inr (inr (inr (inr (inl x)))))) ws e q = unary_5 ws e q
of_unary (inr (inr (inr (inr (inr (inr (inl x))))))) ws e q = unary_6 ws e q
of_unary (inr (inr (inr (inr (inr (inr (inr (inl x)))))))) ws e q = unary_7 ws e q
of_unary (inr (inr (inr (inr (inr (inr (inr (inr (inl x))))))))) ws e q = unary_8 ws e q
of_unary (inr (inr (inr (inr (inr (inr (inr (inr (inr (inl x)))))))))) ws e q = unary_9 ws e q
of_unary (inr (inr (inr (inr (inr (inr (inr (inr (inr (inr c)))))))))) ws e q = absurd c

of_postfix : (c : Choice (productions l.postfix)) (ws : List Word) (e : Bool) (q : Got (parts_of l.postfix c) ws e (l.Meaning l.postfix) (chosen (productions l.postfix) c).made) → From l.postfix ws e (worth q)
of_postfix (inl x) ws e q = postfix_0 ws e q
of_postfix (inr c) ws e q = absurd c

of_post : (c : Choice (productions l.post)) (ws : List Word) (e : Bool) (q : Got (parts_of l.post c) ws e (l.Meaning l.post) (chosen (productions l.post) c).made) → From l.post ws e (worth q)
of_post (inl x) ws e q = post_0 ws e q
of_post (inr (inl x)) ws e q = post_1 ws e q
of_post (inr (inr (inl x))) ws e q = post_2 ws e q
of_post (inr (inr (inr c))) ws e q = absurd c

of_primary : (c : Choice (productions l.primary)) (ws : List Word) (e : Bool) (q : Got (parts_of l.primary c) ws e (l.Meaning l.primary) (chosen (productions l.primary) c).made) → From l.primary ws e (worth q)
of_primary (inl x) ws e q = primary_0 ws e q
of_primary (inr (inl x)) ws e q = primary_1 ws e q
of_primary (inr (inr (inl x))) ws e q = primary_2 ws e q
of_primary (inr (inr (inr (inl x)))) ws e q = primary_3 ws e q
of_primary (inr (inr (inr (inr (inl x))))) ws e q = primary_4 ws e q
of_primary (inr (inr (inr (inr (inr (inl x)))))) ws e q = primary_5 ws e q
of_primary (inr (inr (inr (inr (inr (inr (inl x))))))) ws e q = primary_6 ws e q
of_primary (inr (inr (inr (inr (inr (inr (inr (inl x)))))))) ws e q = primary_7 ws e q
of_primary (inr (inr (inr (inr (inr (inr (inr (inr (inl x))))))))) ws e q = primary_8 ws e q
of_primary (inr (inr (inr (inr (inr (inr (inr (inr (inr (inl x)))))))))) ws e q = primary_9 ws e q
of_primary (inr (inr (inr (inr (inr (inr (inr (inr (inr (inr (inl x))))))))))) ws e q = primary_10 ws e q
of_primary (inr (inr (inr (inr (inr (inr (inr (inr (inr (inr (inr c))))))))))) ws e q = absurd c

of_opt : (p : l.Part) (c : Choice (productions (l.opt p))) (ws : List Word) (e : Bool) (q : Got (parts_of (l.opt p) c) ws e (l.Meaning (l.opt p)) (chosen (productions (l.opt p)) c).made) → From (l.opt p) ws e (worth q)
of_opt p (inl x) ws e q = opt_0 p ws e q
of_opt p (inr (inl x)) ws e q = opt_1 p ws e q
of_opt p (inr (inr c)) ws e q = absurd c

of_many : (p : l.Part) (c : Choice (productions (l.many p))) (ws : List Word) (e : Bool) (q : Got (parts_of (l.many p) c) ws e (l.Meaning (l.many p)) (chosen (productions (l.many p)) c).made) → From (l.many p) ws e (worth q)
of_many p (inl x) ws e q = many_0 p ws e q
of_many p (inr (inl x)) ws e q = many_1 p ws e q
of_many p (inr (inr c)) ws e q = absurd c

of_commas : (p : l.Part) (c : Choice (productions (l.commas p))) (ws : List Word) (e : Bool) (q : Got (parts_of (l.commas p) c) ws e (l.Meaning (l.commas p)) (chosen (productions (l.commas p)) c).made) → From (l.commas p) ws e (worth q)
of_commas p (inl x) ws e q = commas_0 p ws e q
of_commas p (inr c) ws e q = absurd c

of_after : (r : Terminal) (p : l.Part) (c : Choice (productions (l.after r p))) (ws : List Word) (e : Bool) (q : Got (parts_of (l.after r p) c) ws e (l.Meaning (l.after r p)) (chosen (productions (l.after r p)) c).made) → From (l.after r p) ws e (worth q)
of_after r p (inl x) ws e q = after_0 r p ws e q
of_after r p (inr c) ws e q = absurd c

pub alternative : (p : l.Part) (c : Choice (productions p)) (ws : List Word) (e : Bool) (q : Got (parts_of p c) ws e (l.Meaning p) (chosen (productions p) c).made) → From p ws e (worth q)
alternative l.text c ws e q = of_text c ws e q
alternative l.item c ws e q = of_item c ws e q
alternative l.static c ws e q = of_static c ws e q
alternative l.structure c ws e q = of_structure c ws e q
alternative l.member c ws e q = of_member c ws e q
alternative l.slot c ws e q = of_slot c ws e q
alternative l.objects c ws e q = of_objects c ws e q
alternative l.object c ws e q = of_object c ws e q
alternative l.initial c ws e q = of_initial c ws e q
alternative l.array c ws e q = of_array c ws e q
alternative l.size c ws e q = of_size c ws e q
alternative l.proto c ws e q = of_proto c ws e q
alternative l.func c ws e q = of_func c ws e q
alternative l.head c ws e q = of_head c ws e q
alternative l.params c ws e q = of_params c ws e q
alternative l.param c ws e q = of_param c ws e q
alternative l.mode c ws e q = of_mode c ws e q
alternative l.base c ws e q = of_base c ws e q
alternative l.type_name c ws e q = of_type_name c ws e q
alternative l.stars c ws e q = of_stars c ws e q
alternative l.star c ws e q = of_star c ws e q
alternative l.limits c ws e q = of_limits c ws e q
alternative l.block c ws e q = of_block c ws e q
alternative l.line c ws e q = of_line c ws e q
alternative l.local c ws e q = of_local c ws e q
alternative l.local_name c ws e q = of_local_name c ws e q
alternative l.right c ws e q = of_right c ws e q
alternative l.calloc c ws e q = of_calloc_part c ws e q
alternative l.assign c ws e q = of_assign c ws e q
alternative l.op c ws e q = of_op c ws e q
alternative l.increment c ws e q = of_increment c ws e q
alternative l.change c ws e q = of_change c ws e q
alternative l.stmt c ws e q = of_stmt c ws e q
alternative l.start c ws e q = of_start c ws e q
alternative l.call c ws e q = of_call c ws e q
alternative l.expr c ws e q = of_expr c ws e q
alternative l.binary c ws e q = of_binary c ws e q
alternative l.step c ws e q = of_step c ws e q
alternative l.operator c ws e q = of_operator c ws e q
alternative l.unary c ws e q = of_unary c ws e q
alternative l.postfix c ws e q = of_postfix c ws e q
alternative l.post c ws e q = of_post c ws e q
alternative l.primary c ws e q = of_primary c ws e q
alternative (l.opt p) c ws e q = of_opt p c ws e q
alternative (l.many p) c ws e q = of_many p c ws e q
alternative (l.commas p) c ws e q = of_commas p c ws e q
alternative (l.after r p) c ws e q = of_after r p c ws e q
