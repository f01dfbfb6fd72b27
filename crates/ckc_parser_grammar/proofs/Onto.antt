-- What the parser's table derives, the grammar derives with the same value.
use Rattle.std.proofs.Common.{◌≡◌, List, [], ◌∷◌, ◌++◌, Bool, true, false, ◌&&◌, ◌+◌, ◌==◌, inl, inr, refl, sym, ap, subst, ◌∙◌, append_assoc, append-nil, map, if◌then◌else◌}
use Rattle.std.specs.Prelude.{None, Some, codes}
use Rattle.ckc_syntax.specs.Spelled.{Spelled}
use Rattle.ckc_syntax.specs.declared.tree.Length.TheVariants as lengths
use Rattle.ckc_syntax.specs.declared.tree.Act.TheVariants as act
use Rattle.ckc_syntax.specs.declared.tree.TypeTree.TheVariants as ctype
use Rattle.ckc_syntax.specs.declared.tree.Item.TheVariants as items
use Rattle.ckc_syntax.specs.declared.tree.TreeOp.TheVariants as op
use Rattle.ckc_parser_grammar.specs.declared.kind.Kind.{Kind}
use Rattle.ckc_parser_grammar.specs.declared.kind.Kind.TheVariants as k
use Rattle.ckc_parser_grammar.specs.code.Kinds.{kind_of_token, increment_op}
use Rattle.ckc_parser_grammar.specs.code.Grammar.{Rule, Fits, left, right, allowed, not_else}
use Rattle.ckc_parser_grammar.specs.code.Grammar as g
use Rattle.ckc_parser_grammar.specs.code.Signs.{signs, signs_after, kind_after, adjacent, glued, is_plain_greater}
use Rattle.ckc_parser_grammar.specs.code.Derives.{Sign, before, Derives}
use Rattle.ckc_parser_grammar.specs.code.Derives as D
use Rattle.ckc_parser_grammar.specs.code.Trees as T
use Rattle.ckc_parser_grammar.specs.code.Values as v
use Rattle.ckc_parser_grammar.specs.code.Values.{Value, made, whole, as_items, as_items_of_name, as_decls, as_decl_of_base, as_mode, as_type, as_stars, as_declared_limits, as_expr, as_expr_of_name, as_arms, as_increment, as_setting, as_steps, as_post, as_posts, as_part}
use Rattle.ckc_grammar.specs.Trees as L
use Rattle.ckc_grammar.specs.Trees.{starred}
use Rattle.ckc_grammar.specs.Makers.{directive_of, declared}
use Rattle.ckc_grammar.specs.Productions as l
use Rattle.ckc_grammar.specs.Productions.{after}
use Rattle.ckc_grammar.specs.Derivation.{Word, is_mark, before_else, adjoins, words_after, words}
use Rattle.ckc_grammar.specs.Text.{DerivesText, DerivesTree}
use Rattle.ckc_parser_grammar.proofs.Tokens.{sign_of, read_as, word_name, mark_kind, else_agrees}
use Rattle.ckc_parser_grammar.proofs.Pieces.{Is, end, done, tok, part, last_at, last, only, by, cut, moved, named, nothing, something, no_more, one_more, after_token, closed, closed_cons}
use Rattle.ckc_parser_grammar.proofs.Meanings.{join_none, rd, nm, gr, set_to, set_by, LaterTail, plain, with_comma, Means, Parts, none, token, piece, may, static_at, struct_at, starred_at, type_at, name_at, postfix_at, unary_at, sizeof_at, to_type, round_at, set_before, whole_at, right_at, calloc_right, no_posts, named_unary, expr_by, owed_by, stepped_at, increment_change, later_moved, assign_line, call_line, objects_at, list_moved, list_cons, initial_at, item_moved, heading_end, block_at, params_at, member_at, local_at, but_unknown, but_calloc, calloc_name, locals_at, stmts_at, post_first, step_of, step_at, no_steps, arguments_at, if_at, for_at, return_at, bundle_at, assigns_at, no_else_at, increment_at, compound_at, operator_at, signed_at, cast_at, literal_of, add, head_front}

-- the productions of the table
rule : (r : Rule) (ws : List Word) (e : Bool) (vs : List Value) → Parts (right r) ws e vs → may r e ≡ true → Means (left r) ws e (made r vs)
rule g.Text _ e _ (piece {x = x} _ a none h) al = (record { items = as_items x }, (λ d. by (inl tt) (last a.1 (ap (λ z. record { items = z }) a.2) h)), refl)
rule g.Directive _ e _ (token {w = w} f (piece {x = x1} _ a none h)) al = add (items.Directive (directive_of w.token.kind) ∷ []) (λ d. by (inl tt) (tok (rd k.Directive w f) end)) a h refl
rule g.Structure _ e _ (token {w = w} f1 (token {w = s} f2 (piece {x = y} _ a (piece {x = x2} _ b none h2) h1))) al = add (as_items_of_name y s.token) (a w s (rd k.Struct w f1) (nm s f2)) b h2 (ap (λ z. w ∷ s ∷ z) h1)
rule g.Static _ e _ (token {w = w} f (piece {x = y} _ a (piece {x = x2} _ b none h2) h1)) al = add (as_items y) (a w (rd k.Static w f)) b h2 (ap (λ z. w ∷ z) h1)
rule g.Declaration _ e _ (piece {x = y} _ a (piece {x = x2} _ b none h2) h1) al = add (as_items y) (a [] None nothing) b h2 h1
rule g.NoItems _ e _ none al = ([], no_more, refl)
rule g.Tag _ e _ (token {w = wf} f none) al = λ a s ha hs d. by (inr (inl tt)) (tok ha (tok hs (tok (rd k.Semicolon wf f) end)))
rule g.Members _ e _ (token {w = wf1} f1 (piece {x = x} _ m (piece {x = x2} _ ms (token {w = wf2} f2 (token {w = wf3} f3 none)) h2) h1)) al = λ a s ha hs d. by (inr (inr (inl tt))) (only
    (λ c. by (inl tt) (tok ha (tok hs (tok (rd k.CurlyOpen wf1 f1) (part m (part ms.1 (tok (rd k.CurlyClose wf2 f2) (tok (rd k.Semicolon wf3 f3) (done (ap (λ z. items.Struct s.token.text (as_decls x ++ z) s.token.pos) ms.2)))) h2) h1))))) refl)
rule g.Structured _ e _ (piece {x = x1} _ d none h) al = λ a s ha hs. moved (ap (λ z. a ∷ s ∷ z) (cut h)) (d (a ∷ s ∷ []) (ctype.Struct s.token.text s.token.pos) (struct_at ha hs) [] None nothing)
rule g.StaticStruct _ e _ (token {w = a} f1 (token {w = s} f2 (piece {x = x1} _ d none h))) al = λ w fs. moved (ap (λ z. w ∷ a ∷ s ∷ z) (cut h)) (d (a ∷ s ∷ []) (ctype.Struct s.token.text s.token.pos) (struct_at (rd k.Struct a f1) (nm s f2)) (w ∷ []) (Some tt) (static_at fs))
rule g.StaticOther _ e _ (piece {x = x1} _ d none h) al = λ w fs. moved (ap (λ z. w ∷ z) (cut h)) (d (w ∷ []) (Some tt) (static_at fs))
rule g.Moded _ e _ (piece {x = y} ms m (piece {x = z} rs r (token {w = a} f (piece {x = x3} us hd none h3)) h2) h1) al = λ st o ho.
    moved (ap (λ z. st ++ z) (append_assoc ms (rs ++ (a ∷ [])) us ∙ ap (λ z. ms ++ z) (append_assoc rs (a ∷ []) us ∙ ap (λ z. rs ++ (a ∷ z)) (cut h3) ∙ h2) ∙ h1))
    (hd (ms ++ (rs ++ (a ∷ []))) (Some (as_mode y)) (as_type z) a.token (head_front {rs = rs} a (something m) r (nm a f)) st o ho)
rule g.Voided _ e _ (token {w = w} f1 (token {w = a} f2 (piece {x = x1} _ hd none h))) al = λ st o ho.
    moved (ap (λ z. st ++ (w ∷ a ∷ z)) (cut h)) (hd (w ∷ a ∷ []) None ctype.Void a.token (head_front {ms = []} {rs = w ∷ []} a nothing (inl (w, refl, rd k.Void w f1, refl)) (nm a f2)) st o ho)
rule g.Based _ e _ (piece {x = x1} bs b (piece {x = x2} _ d none h2) h1) al = λ st o ho. moved (ap (λ z. st ++ z) (ap (λ z. bs ++ z) (cut h2) ∙ h1)) (d bs _ b st o ho)
rule g.Declarators _ e _ (piece {x = x1} pls ps (token {w = a} f (piece {x = x2} _ d none h2)) h1) al = λ bs b hb st o ho.
    moved (ap (λ z. st ++ (bs ++ z)) (ap (λ z. pls ++ (a ∷ z)) (cut h2) ∙ h1)) (d bs pls b _ a hb ps (nm a f) st o ho)
rule g.Headed _ e _ (piece {x = x1} us d none h) al = λ bs pls b ps a hb hp ha st o ho.
    moved (ap (λ z. st ++ z) (append_assoc (bs ++ pls) (a ∷ []) us ∙ append_assoc bs pls (a ∷ us) ∙ ap (λ z. bs ++ (pls ++ (a ∷ z))) (cut h)))
    (d ((bs ++ pls) ++ (a ∷ [])) None (starred b ps) a.token (head_front {ms = []} {rs = bs ++ pls} a nothing (inr (type_at hb hp refl)) ha) st o ho)
rule g.Objects _ e _ (piece {x = x1} us d (piece {x = y} _ os none h2) h1) al = λ bs pls b ps a hb hp ha st o ho c.
    objects_at (d pls ps a hp ha) hb os.1 (os.2 b) (append_assoc pls (a ∷ us) _ ∙ ap (λ z. pls ++ (a ∷ z)) (ap (λ z. us ++ z) (cut h2) ∙ h1)) ho c
rule g.MoreObjects _ e _ (token {w = wf} f (piece {x = x} us d (piece {x = x2} _ os none h2) h1)) al = (as_decl_of_base x ∷ os.0, closed_cons (rd k.Comma wf f) d os.1 (ap (λ z. us ++ z) (cut h2) ∙ h1), λ b. ap (λ z. as_decl_of_base x b ∷ z) (os.2 b))
rule g.NoObjects _ e _ (token {w = wf} f none) al = ([], closed wf (no_more _) (rd k.Semicolon wf f) refl, λ b. refl)
rule g.Object _ e _ (piece {x = x1} pls ps (token {w = a} f (piece {x = x2} _ d none h2)) h1) al = moved (ap (λ z. pls ++ (a ∷ z)) (cut h2) ∙ h1) (d pls _ a ps (nm a f))
rule g.ObjectRest _ e _ (piece {x = x1} _ a (piece {x = y} _ b (piece {x = x3} _ i none h3) h2) h1) al = λ pls ps s hp hs d. by (inl tt) (part (starred_at hp) (tok hs (part a.1 (part b (last i.1
    (λ j t. declared (starred t ps) s.token (a.2 j) (as_declared_limits y) (i.2 j)) h3) h2) h1)) refl)
rule g.RawArray _ e _ (token {w = wf1} f1 (piece {x = x1} _ s (token {w = wf2} f2 none) h)) al = (_, something (λ d. by (inl tt) (tok (rd k.SquareOpen wf1 f1) (part s (tok (rd k.SquareClose wf2 f2) end) h))), refl)
rule g.CheckedArray _ e _ (token {w = wf1} f1 (token {w = wf2} f2 (piece {x = x1} _ s (token {w = wf3} f3 none) h))) al = (_, something (λ d. by (inr (inl tt)) (tok (rd k.Checked wf1 f1) (tok (rd k.SquareOpen wf2 f2) (part s (tok (rd k.SquareClose wf3 f3) end) h)))), refl)
rule g.NtArray _ e _ (token {w = wf1} f1 (token {w = wf2} f2 (piece {x = x1} _ s (token {w = wf3} f3 none) h))) al = (_, something (λ d. by (inr (inr (inl tt))) (tok (rd k.NtChecked wf1 f1) (tok (rd k.SquareOpen wf2 f2) (part s (tok (rd k.SquareClose wf3 f3) end) h)))), refl)
rule g.NoArray _ e _ none al = (None, nothing, refl)
rule g.Size _ e _ (token {w = wf} f none) al = something (λ d. by (inl tt) (tok (rd k.Number wf f) end))
rule g.NoSize _ e _ none al = nothing
rule g.Initial _ e _ (token {w = w} f (piece {x = x1} _ i none h)) al = (Some _, moved (ap (λ z. w ∷ z) (cut h)) (something (after_token (rd k.Equals w f) i)), refl)
rule g.NoInitial _ e _ none al = (None, nothing, refl)
rule g.ListInitial _ e _ (token {w = wf} f (piece {x = x1} us x (piece {x = x2} _ r none h2) h1)) al = initial_at (rd k.CurlyOpen wf f) x r (ap (λ z. us ++ z) (cut h2) ∙ h1)
rule g.OneInitial _ e _ (piece {x = x1} _ x none h) al = λ d. by (inl tt) (last x refl h)
rule g.ListComma _ e _ (token {w = w} f (piece {x = x1} _ r none h)) al = list_moved (ap (λ z. w ∷ z) (cut h)) (r w (rd k.Comma w f))
rule g.ListEnd _ e _ (token {w = wf} f none) al = plain wf no_more (rd k.CurlyClose wf f) refl
rule g.ListClose _ e _ (token {w = wf} f none) al = λ w hw. with_comma w wf no_more hw (rd k.CurlyClose wf f) refl
rule g.ListNext _ e _ (piece {x = x1} us x (piece {x = x2} _ r none h2) h1) al = λ w hw. list_cons hw x r (ap (λ z. us ++ z) (cut h2) ∙ h1)
rule g.Head _ e _ (token {w = w} f (piece {x = x1} us ps (piece {x = x2} rs b (piece {x = x3} bs s none h3) h2) h1)) al = λ front m r x hf.
    item_moved (append_assoc front (w ∷ (us ++ rs)) bs ∙ ap (λ z. front ++ (w ∷ z)) (append_assoc us rs bs ∙ ap (λ z. us ++ z) (ap (λ z. rs ++ z) (cut h3) ∙ h2) ∙ h1))
    (s (front ++ (w ∷ (us ++ rs))) _ (hf (w ∷ (us ++ rs)) _ _ (heading_end (rd k.RoundOpen w f) ps b refl)))
rule g.Prototype _ e _ (token {w = wf} f none) al = λ hs q hh st o ho d. by (inr (inr (inr (inr (inl tt))))) (part ho (only (λ c. by (inl tt) (part hh (tok (rd k.Semicolon wf f) end) refl)) refl) refl)
rule g.Body _ e _ (token {w = wf} f (piece {x = x1} _ ss none h)) al = λ hs q hh st o ho d. by (inr (inr (inr (inr (inr (inl tt)))))) (part ho (only (λ c. by (inl tt) (part hh (only (block_at (rd k.CurlyOpen wf f) ss.1 ss.2 (cut h)) refl) refl)) refl) refl)
rule g.NoParams _ e _ (token {w = wf} f none) al = closed wf (by (inl tt) end) (rd k.RoundClose wf f) refl
rule g.VoidParams _ e _ (token {w = wf1} f1 (token {w = wf2} f2 none)) al = closed wf2 (by (inr (inl tt)) (tok (rd k.Void wf1 f1) end)) (rd k.RoundClose wf2 f2) refl
rule g.Params _ e _ (piece {x = x1} us p (piece {x = x2} _ ps none h2) h1) al = params_at p ps (ap (λ z. us ++ z) (cut h2) ∙ h1)
rule g.MoreParams _ e _ (token {w = wf} f (piece {x = x1} us p (piece {x = x2} _ ps none h2) h1)) al = closed_cons (rd k.Comma wf f) p ps (ap (λ z. us ++ z) (cut h2) ∙ h1)
rule g.EndParams _ e _ (token {w = wf} f none) al = closed wf (no_more _) (rd k.RoundClose wf f) refl
rule g.Param _ e _ (piece {x = x1} _ b (piece {x = x2} _ s none h2) h1) al = λ d. by (inl tt) (part b (last s refl h2) h1)
rule g.CheckedMode _ e _ (token {w = wf} f none) al = λ d. by (inl tt) (tok (rd k.Checked wf f) end)
rule g.UncheckedMode _ e _ (token {w = wf} f none) al = λ d. by (inr (inl tt)) (tok (rd k.Unchecked wf f) end)
rule g.VoidResult _ e _ (token {w = w} f none) al = inl (w, refl, rd k.Void w f, refl)
rule g.OtherResult _ e _ (piece {x = x1} _ t none h) al = inr (moved (cut h) t)
rule g.MoreMembers _ e _ (piece {x = x} us m (piece {x = x2} _ ms none h2) h1) al = (_ ∷ ms.0, one_more m ms.1 (ap (λ z. us ++ z) (cut h2) ∙ h1), ap (λ z. as_decls x ++ z) ms.2)
rule g.NoMembers _ e _ none al = ([], no_more, refl)
rule g.Member _ e _ (piece {x = b} _ t (piece {x = x2} us s (piece {x = x3} _ ss none h3) h2) h1) al = member_at t s ss.1 (ss.2 (as_type b)) (ap (λ z. us ++ z) (cut h3) ∙ h2) h1
rule g.Slot _ e _ (piece {x = x1} _ ps (token {w = wf} f (piece {x = x2} _ b none h2)) h1) al = λ d. by (inl tt) (part (starred_at ps) (tok (nm wf f) (last b refl h2)) h1)
rule g.MoreSlots _ e _ (token {w = wf} f (piece {x = x} us d (piece {x = x2} _ os none h2) h1)) al = (as_decl_of_base x ∷ os.0, closed_cons (rd k.Comma wf f) d os.1 (ap (λ z. us ++ z) (cut h2) ∙ h1), λ b. ap (λ z. as_decl_of_base x b ∷ z) (os.2 b))
rule g.NoSlots _ e _ (token {w = wf} f none) al = ([], closed wf (no_more _) (rd k.Semicolon wf f) refl, λ b. refl)
rule g.DeclaredLimits _ e _ (token {w = w} f (piece {x = x1} _ x none h)) al = moved (ap (λ z. w ∷ z) (cut h)) (something (after_token (rd k.Colon w f) x))
rule g.NoLimits _ e _ none al = nothing
rule g.StructBase _ e _ (token {w = wf1} f1 (token {w = wf2} f2 none)) al = struct_at (rd k.Struct wf1 f1) (nm wf2 f2)
rule g.Scalar _ e _ (piece {x = x1} _ b none h) al = moved (cut h) b
rule g.Int _ e _ (token {w = wf} f none) al = λ d. by (inl tt) (tok (rd k.Int wf f) end)
rule g.Unsigned _ e _ (token {w = w} f (piece {x = x1} _ r none h)) al = moved (ap (λ z. w ∷ z) (cut h)) (r w (rd k.Unsigned w f))
rule g.Char _ e _ (token {w = wf} f none) al = λ d. by (inr (inr (inr (inl tt)))) (tok (rd k.Char wf f) end)
rule g.OnePointer _ e _ (token {w = wf1} f1 (token {w = wf2} f2 (piece {x = x1} _ t (token {w = wf3} f3 none) h))) al = λ d. by (inr (inr (inr (inr (inr (inl tt)))))) (tok (rd k.Ptr wf1 f1) (tok (rd k.Less wf2 f2) (part t (tok (gr wf3 f3) end) h)))
rule g.ArrayPointer _ e _ (token {w = wf1} f1 (token {w = wf2} f2 (piece {x = x1} _ t (token {w = wf3} f3 none) h))) al = λ d. by (inr (inr (inr (inr (inr (inr (inl tt))))))) (tok (rd k.ArrayPtr wf1 f1) (tok (rd k.Less wf2 f2) (part t (tok (gr wf3 f3) end) h)))
rule g.NtPointer _ e _ (token {w = wf1} f1 (token {w = wf2} f2 (piece {x = x1} _ t (token {w = wf3} f3 none) h))) al = λ d. by (inr (inr (inr (inr (inr (inr (inr (inl tt)))))))) (tok (rd k.NtArrayPtr wf1 f1) (tok (rd k.Less wf2 f2) (part t (tok (gr wf3 f3) end) h)))
rule g.UnsignedInt _ e _ (token {w = wf} f none) al = λ w hw d. by (inr (inr (inl tt))) (tok hw (tok (rd k.Int wf f) end))
rule g.UnsignedAlone _ e _ none al = λ w hw d. by (inr (inl tt)) (tok hw end)
rule g.TypeName _ e _ (piece {x = x1} bs b (piece {x = x2} _ ps none h2) h1) al = type_at b ps (ap (λ z. bs ++ z) (cut h2) ∙ h1)
rule g.MoreStars _ e _ (token {w = w} f (piece {x = x1} _ ps none h)) al = one_more {us = w ∷ []} (λ d. by (inl tt) (tok (rd k.Star w f) end)) ps (ap (λ z. w ∷ z) (cut h))
rule g.NoStars _ e _ none al = no_more
rule g.Count _ e _ (token {w = wf1} f1 (token {w = wf2} f2 (piece {x = x1} _ x (token {w = wf3} f3 none) h))) al = λ d. by (inl tt) (tok (rd k.Count wf1 f1) (tok (rd k.RoundOpen wf2 f2) (part x (tok (rd k.RoundClose wf3 f3) end) h)))
rule g.ByteCount _ e _ (token {w = wf1} f1 (token {w = wf2} f2 (piece {x = x1} _ x (token {w = wf3} f3 none) h))) al = λ d. by (inr (inl tt)) (tok (rd k.ByteCount wf1 f1) (tok (rd k.RoundOpen wf2 f2) (part x (tok (rd k.RoundClose wf3 f3) end) h)))
rule g.BoundsOf _ e _ (token {w = b} f1 (token {w = a} f2 (piece {x = x1} _ r none h))) al = moved (ap (λ z. b ∷ a ∷ z) (cut h)) (r b a (rd k.Bounds b f1) (rd k.RoundOpen a f2))
rule g.Unknown _ e _ (token {w = u} f (piece {x = x1} _ r none h)) al = λ b a hb ha. moved (ap (λ z. b ∷ a ∷ u ∷ z) (cut h)) (r b a u hb ha (rd k.Unknown u f))
rule g.BetweenNamed _ e _ (token {w = w} f (piece {x = x1} us h (piece {x = x2} rs r (token {w = wf2} f2 (piece {x = x3} _ y (token {w = wf3} f3 none) h3)) h2) h1)) al = λ b a hb ha d.
    by (inr (inr (inr (inl tt)))) (tok hb (tok ha (part (r (w ∷ us) _ (h w (but_unknown w f))) (tok (rd k.Comma wf2 f2) (part y (tok (rd k.RoundClose wf3 f3) end) h3)) (ap (λ z. w ∷ z) (append_assoc us rs _ ∙ ap (λ z. us ++ z) h2 ∙ h1)))))
rule g.Between _ e _ (piece {x = x1} us x (piece {x = x2} rs r (token {w = wf2} f2 (piece {x = x3} _ y (token {w = wf3} f3 none) h3)) h2) h1) al = λ b a hb ha d.
    by (inr (inr (inr (inl tt)))) (tok hb (tok ha (part (r us _ x) (tok (rd k.Comma wf2 f2) (part y (tok (rd k.RoundClose wf3 f3) end) h3)) (append_assoc us rs _ ∙ ap (λ z. us ++ z) h2 ∙ h1))))
rule g.UnknownEnd _ e _ (token {w = wf} f none) al = λ b a u hb ha hu d. by (inr (inr (inl tt))) (tok hb (tok ha (tok hu (tok (rd k.RoundClose wf f) end))))
rule g.UnknownName _ e _ (piece {x = x1} us h (piece {x = x2} rs r (token {w = wf2} f2 (piece {x = x3} _ y (token {w = wf3} f3 none) h3)) h2) h1) al = λ b a u hb ha hu d.
    by (inr (inr (inr (inl tt)))) (tok hb (tok ha (part (r (u ∷ us) _ (h u (word_name (codes "unknown") u hu))) (tok (rd k.Comma wf2 f2) (part y (tok (rd k.RoundClose wf3 f3) end) h3)) (ap (λ z. u ∷ z) (append_assoc us rs _ ∙ ap (λ z. us ++ z) h2 ∙ h1)))))
rule g.EndBlock _ e _ (token {w = wf} f none) al = ([], closed wf (no_more _) (rd k.CurlyClose wf f) refl, refl)
rule g.Locals _ e _ (piece {x = x1} _ x (piece {x = x2} _ y none h2) h1) al = locals_at x y h2 h1
rule g.Stmts _ e _ (piece {x = x1} _ x (piece {x = x2} _ y none h2) h1) al = stmts_at e x y h2 h1
rule g.Local _ e _ (piece {x = b} _ t (piece {x = x2} us s (piece {x = x3} _ ss none h3) h2) h1) al = local_at t s ss.1 (ss.2 (as_type b)) (ap (λ z. us ++ z) (cut h3) ∙ h2) h1
rule g.MoreLocals _ e _ (token {w = wf} f (piece {x = x} us d (piece {x = x2} _ os none h2) h1)) al = (as_decl_of_base x ∷ os.0, closed_cons (rd k.Comma wf f) d os.1 (ap (λ z. us ++ z) (cut h2) ∙ h1), λ b. ap (λ z. as_decl_of_base x b ∷ z) (os.2 b))
rule g.NoLocals _ e _ (token {w = wf} f none) al = ([], closed wf (no_more _) (rd k.Semicolon wf f) refl, λ b. refl)
rule g.LocalName _ e _ (piece {x = p} _ ps (token {w = a} f (piece {x = q} _ b (piece {x = x3} _ i none h3) h2)) h1) al = λ d. by (inl tt) (part (starred_at ps) (tok (nm a f) (part b (last i.1 (λ j t. declared (starred t (as_stars p)) a.token lengths.Plain (as_declared_limits q) (i.2 j)) h3) h2)) h1)
rule g.LocalInitial _ e _ (token {w = w} f (piece {x = x1} _ i none h)) al = (Some _, moved (ap (λ z. w ∷ z) (cut h)) (something (after_token (rd k.Equals w f) i)), refl)
rule g.NoLocalInitial _ e _ none al = (None, nothing, refl)
rule g.CallocValue _ e _ (token {w = w} f (piece {x = x1} _ c none h)) al = moved (ap (λ z. w ∷ z) (cut h)) (c w (calloc_name w f) (rd k.Calloc w f))
rule g.NamedValue _ e _ (token {w = w} f (piece {x = x1} us h (piece {x = x2} _ r none h2) h1)) al = moved (ap (λ z. w ∷ z) (ap (λ z. us ++ z) (cut h2) ∙ h1)) (right_at (r (w ∷ us) _ (h w (but_calloc w f))))
rule g.Value _ e _ (piece {x = x1} us x (piece {x = x2} _ r none h2) h1) al = moved (ap (λ z. us ++ z) (cut h2) ∙ h1) (right_at (r us _ x))
rule g.CallocCall _ e _ (token {w = b} f (piece {x = x1} us c (piece {x = x2} ps p (piece {x = x3} os i (piece {x = x4} rs r none h4) h3) h2) h1)) al = λ a ha hc.
    moved (ap (λ z. a ∷ b ∷ z) (append_assoc (us ++ ps) os rs ∙ append_assoc us ps (os ++ rs) ∙ ap (λ z. us ++ z) (ap (λ z. ps ++ z) (ap (λ z. os ++ z) (cut h4) ∙ h3) ∙ h2) ∙ h1))
    (right_at (r (a ∷ b ∷ ((us ++ ps) ++ os)) _ (unary_at {us = a ∷ b ∷ (us ++ ps)} (as_increment x3) (postfix_at {us = a ∷ b ∷ us} (as_posts x2) (c a b ha (rd k.RoundOpen b f)).1 p refl) i refl)))
rule g.CallocLess _ e _ (token {w = b} f (piece {x = x1} _ c none h)) al = λ a ha hc. moved (ap (λ z. a ∷ b ∷ z) (cut h)) (c a b ha hc (rd k.Less b f))
rule g.CallocPost _ e _ (piece {x = x1} us p (piece {x = x2} xs ps (piece {x = x3} os i (piece {x = x4} rs r none h4) h3) h2) h1) al = λ a ha hc.
    moved (ap (λ z. a ∷ z) (append_assoc (us ++ xs) os rs ∙ append_assoc us xs (os ++ rs) ∙ ap (λ z. us ++ z) (ap (λ z. xs ++ z) (ap (λ z. os ++ z) (cut h4) ∙ h3) ∙ h2) ∙ h1))
    (right_at (r (a ∷ ((us ++ xs) ++ os)) _ (unary_at {us = a ∷ (us ++ xs)} (as_increment x3) (postfix_at {us = a ∷ []} (as_post x1 ∷ as_posts x2) (name_at ha) (post_first (as_post x1) (as_posts x2) p ps refl) refl) i refl)))
rule g.CallocIncrement _ e _ (token {w = w} f (piece {x = x1} _ r none h)) al = λ a ha hc. moved (ap (λ z. a ∷ w ∷ z) (cut h))
    (right_at (r (a ∷ w ∷ []) _ (unary_at {us = a ∷ []} (Some (record { op = increment_op (kind_of_token w.token); pos = w.token.pos })) (postfix_at {us = a ∷ []} [] (name_at ha) no_posts refl) (something (increment_at w f)) refl)))
rule g.CallocSetting _ e _ (piece {x = x1} us m none h) al = λ a ha hc. moved (ap (λ z. a ∷ z) (cut h)) (right_at (named (ap (λ z. v.finished (v.named a.token) [] None z) (sym m.2)) (expr_by {us = a ∷ []} (named_unary ha) m.1 refl)))
rule g.CallocStep _ e _ (piece {x = x1} us o (piece {x = x2} xs x (piece {x = x3} _ r none h3) h2) h1) al = λ a ha hc. right_at (moved (ap (λ z. a ∷ z) h1) (whole_at {us = a ∷ []} (v.step x1 x2 ∷ as_steps x3) (as_arms x3) (named_unary ha)
    (step_at {us = us} (as_steps x3) (as_arms x3) o x r.0 (ap (λ z. xs ++ z) (cut h3) ∙ h2))))
rule g.CallocName _ e _ (piece {x = y} us c none h) al = λ a ha hc. right_at (named (ap (λ z. T.picked z (as_arms y)) (join_none (v.named a.token))) (whole_at {us = a ∷ []} [] (as_arms y) (named_unary ha) (no_steps us (as_arms y) c (cut h))))
rule g.LessOperand _ e _ (piece {x = x1} us x (piece {x = x2} _ r none h2) h1) al = λ a b ha hc hb. right_at (whole_at {us = a ∷ []} (record { op = op.Lt; pos = b.token.pos; operand = as_expr x1 } ∷ as_steps x2) (as_arms x2) (named_unary ha)
    (step_at {us = b ∷ []} {o = (op.Lt, b.token.pos)} (as_steps x2) (as_arms x2) (λ d. by (inr (inr (inr (inr (inr (inr (inr (inl tt)))))))) (tok hb end)) x r.0 (ap (λ z. us ++ z) (cut h2) ∙ h1)))
rule g.LessType _ e _ (piece {x = x1} _ c none h) al = λ a b ha hc hb. moved (ap (λ z. a ∷ b ∷ z) (cut h)) (calloc_right (c a b hc hb).0)
rule g.NoArguments _ e _ (token {w = wf} f none) al = λ a b ha hb. ((λ d. by (inl tt) (tok ha (tok hb (tok (rd k.RoundClose wf f) end)))), (λ d. by (inr (inl tt)) (tok ha (tok hb (tok (rd k.RoundClose wf f) end)))))
rule g.Arguments _ e _ (piece {x = x1} us x (piece {x = x2} _ xs none h2) h1) al = λ a b ha hb.
    ((λ d. by (inr (inl tt)) (tok ha (tok hb (arguments_at x xs (ap (λ z. us ++ z) (cut h2) ∙ h1))))), (λ d. by (inr (inr (inl tt))) (tok ha (tok hb (arguments_at x xs (ap (λ z. us ++ z) (cut h2) ∙ h1))))))
rule g.MoreArguments _ e _ (token {w = wf} f (piece {x = x1} us p (piece {x = x2} _ ps none h2) h1)) al = closed_cons (rd k.Comma wf f) p ps (ap (λ z. us ++ z) (cut h2) ∙ h1)
rule g.EndArguments _ e _ (token {w = wf} f none) al = closed wf (no_more _) (rd k.RoundClose wf f) refl
rule g.Allocation _ e _ (piece {x = x1} _ t (token {w = wf1} f1 (token {w = wf2} f2 (piece {x = x2} _ x (token {w = wf3} f3 (token {w = wf4} f4 (token {w = wf5} f5 (piece {x = x3} _ u (token {w = wf6} f6 (token {w = wf7} f7 none)) h3)))) h2))) h1) al = λ a b ha hb. ((λ d. by (inl tt) (tok ha (tok hb (part t (tok (gr wf1 f1) (tok (rd k.RoundOpen wf2 f2) (part x (tok (rd k.Comma wf3 f3) (tok (rd k.Sizeof wf4 f4) (tok (rd k.RoundOpen wf5 f5) (part u (tok (rd k.RoundClose wf6 f6) (tok (rd k.RoundClose wf7 f7) end)) h3)))) h2))) h1)))), refl)
rule g.SetTo _ e _ (token {w = w} f (piece {x = x1} _ y none h)) al = (_, set_to w (rd k.Equals w f) y (ap (λ z. w ∷ z) (cut h)) refl, refl)
rule g.SetBy _ e _ (token {w = w} f (piece {x = x1} _ y none h)) al = (_, set_by {us = w ∷ []} (compound_at w f) y (ap (λ z. w ∷ z) (cut h)) refl, refl)
rule g.LaterSetting _ e _ (piece {x = x1} us m none h) al = later_moved (as_setting x1) (cut h) (subst (λ z. LaterTail us z) (sym m.2) m.1)
rule g.NoSetting _ e _ none al = refl
rule g.SettingChange _ e _ (piece {x = x1} _ m none h) al = λ us y hy. owed_by x1 (unary_at None hy nothing (append-nil us)) m (ap (λ z. us ++ z) (cut h))
rule g.IncrementChange _ e _ (token {w = w} f (piece {x = x1} ts t none h)) al = λ us y hy. increment_change {os = w ∷ []} ts (record { op = increment_op (kind_of_token w.token); pos = w.token.pos }) (as_setting x1) hy (increment_at w f) t (ap (λ z. us ++ (w ∷ z)) (cut h))
rule g.NamedAssign _ e _ (token {w = w} f (piece {x = x1} us c (piece {x = x2} ps p (piece {x = x3} ds d none h3) h2) h1)) al =
    moved (ap (λ z. w ∷ z) (append_assoc us ps ds ∙ ap (λ z. us ++ z) (ap (λ z. ps ++ z) (cut h3) ∙ h2) ∙ h1)) (d (w ∷ (us ++ ps)) _ (postfix_at {us = w ∷ us} (as_posts x2) (c w (nm w f)) p refl))
rule g.UnnamedAssign _ e _ (piece {x = x1} _ x none h) al = moved (cut h) x
rule g.SignedAssign _ e _ (token {w = w} f (piece {x = x1} us x (piece {x = x2} _ m none h2) h1)) al = owed_by {us = w ∷ us} x2 (signed_at w f x) m (ap (λ z. w ∷ z) (ap (λ z. us ++ z) (cut h2) ∙ h1))
rule g.IncrementAssign _ e _ (token {w = w} f (piece {x = x1} us x (piece {x = x2} ts t none h2) h1)) al = stepped_at {os = w ∷ []} ts (record { op = increment_op (kind_of_token w.token); pos = w.token.pos }) (as_setting x2) (increment_at w f) x t (ap (λ z. w ∷ z) (ap (λ z. us ++ z) (cut h2) ∙ h1))
rule g.RoundAssign _ e _ (token {w = w} f (piece {x = x1} _ r none h)) al = moved (ap (λ z. w ∷ z) (cut h)) (r w (rd k.RoundOpen w f))
rule g.SizeofAssign _ e _ (token {w = wf1} f1 (token {w = wf2} f2 (piece {x = x1} us t (token {w = wf3} f3 (piece {x = x2} _ m none h2)) h1))) al =
    owed_by {us = wf1 ∷ wf2 ∷ (us ++ (wf3 ∷ []))} x2 (sizeof_at wf3 (rd k.Sizeof wf1 f1) (rd k.RoundOpen wf2 f2) t (rd k.RoundClose wf3 f3) refl) m (ap (λ z. wf1 ∷ wf2 ∷ z) (append_assoc us (wf3 ∷ []) _ ∙ ap (λ z. us ++ (wf3 ∷ z)) (cut h2) ∙ h1))
rule g.PostfixAssign _ e _ (piece {x = x1} us x (piece {x = x2} ps p (piece {x = x3} ds d none h3) h2) h1) al =
    moved (append_assoc us ps ds ∙ ap (λ z. us ++ z) (ap (λ z. ps ++ z) (cut h3) ∙ h2) ∙ h1) (d (us ++ ps) _ (postfix_at (as_posts x2) x p refl))
rule g.ParenAssign _ e _ (piece {x = x1} us x (token {w = w} f (piece {x = x2} ps p (piece {x = x3} ds d none h3) h2)) h1) al = λ a ha.
    moved (ap (λ z. a ∷ z) (append_assoc (us ++ (w ∷ [])) ps ds ∙ append_assoc us (w ∷ []) (ps ++ ds) ∙ ap (λ z. us ++ (w ∷ z)) (ap (λ z. ps ++ z) (cut h3) ∙ h2) ∙ h1))
    (d (a ∷ ((us ++ (w ∷ [])) ++ ps)) _ (postfix_at {us = a ∷ (us ++ (w ∷ []))} (as_posts x2) (round_at w ha x (rd k.RoundClose w f) refl) p refl))
rule g.CastAssign _ e _ (piece {x = x1} us t (token {w = w} f (piece {x = x2} xs x (piece {x = x3} _ m none h3) h2)) h1) al = λ a ha.
    owed_by {us = a ∷ (us ++ (w ∷ xs))} x3 (to_type w ha t (rd k.RoundClose w f) x refl) m (ap (λ z. a ∷ z) (append_assoc us (w ∷ xs) _ ∙ ap (λ z. us ++ (w ∷ z)) (ap (λ z. xs ++ z) (cut h3) ∙ h2) ∙ h1))
rule g.ModedBlock _ e _ (piece {x = x1} _ m (token {w = wf} f (piece {x = x2} _ ss none h2)) h1) al = by (inr (inl tt)) (part m (only (block_at (rd k.CurlyOpen wf f) ss.1 ss.2 (cut h2)) refl) h1)
rule g.Block _ e _ (token {w = wf} f (piece {x = x1} _ ss none h)) al = by (inl tt) (only (block_at (rd k.CurlyOpen wf f) ss.1 ss.2 (cut h)) refl)
rule g.Empty _ e _ (token {w = wf} f none) al = by (inr (inr (inl tt))) (tok (rd k.Semicolon wf f) end)
rule g.If _ e _ (token {w = wf1} f1 (token {w = wf2} f2 (piece {x = x1} _ x (token {w = wf3} f3 (piece {x = x2} _ s (piece {x = y} _ o none h3) h2)) h1))) al = if_at wf3 (rd k.If wf1 f1) (rd k.RoundOpen wf2 f2) x (rd k.RoundClose wf3 f3) s (as_part y) o (cut h3) h2 h1
rule g.While _ e _ (token {w = wf1} f1 (token {w = wf2} f2 (piece {x = x1} _ x (token {w = wf3} f3 (piece {x = x2} _ s none h2)) h1))) al = by (inr (inr (inr (inr (inr (inr (inr (inl tt)))))))) (tok (rd k.While wf1 f1) (tok (rd k.RoundOpen wf2 f2) (part x (tok (rd k.RoundClose wf3 f3) (last_at s refl h2)) h1)))
rule g.For _ e _ (token {w = wf1} f1 (token {w = wf2} f2 (piece {x = x1} _ a (piece {x = x2} _ c (piece {x = x3} _ p (piece {x = x4} _ s none h4) h3) h2) h1))) al = for_at (rd k.For wf1 f1) (rd k.RoundOpen wf2 f2) a c p s h4 h3 h2 h1
rule g.Return _ e _ (token {w = w} f (piece {x = x1} _ x none h)) al = return_at (rd k.Return w f) x (cut h)
rule g.Break _ e _ (token {w = wf1} f1 (token {w = wf2} f2 none)) al = by (inr (inr (inr (inr (inr (inr (inr (inr (inr (inr (inl tt))))))))))) (tok (rd k.Break wf1 f1) (tok (rd k.Semicolon wf2 f2) end))
rule g.Continue _ e _ (token {w = wf1} f1 (token {w = wf2} f2 none)) al = by (inr (inr (inr (inr (inr (inr (inr (inr (inr (inr (inr (inl tt)))))))))))) (tok (rd k.Continue wf1 f1) (tok (rd k.Semicolon wf2 f2) end))
rule g.Check _ e _ (token {w = wf1} f1 (token {w = wf2} f2 (piece {x = x1} _ x (token {w = wf3} f3 (token {w = wf4} f4 none)) h))) al = by (inr (inr (inr (inr (inr (inr (inr (inr (inr (inr (inr (inr (inl tt))))))))))))) (tok (rd k.Check wf1 f1) (tok (rd k.RoundOpen wf2 f2) (part x (tok (rd k.RoundClose wf3 f3) (tok (rd k.Semicolon wf4 f4) end)) h)))
rule g.Bundle _ e _ (token {w = wf1} f1 (token {w = wf2} f2 (piece {x = x1} _ x (token {w = wf3} f3 (piece {x = x2} _ y (token {w = wf4} f4 (piece {x = x3} _ zs none h3)) h2)) h1))) al = bundle_at wf3 wf4 (rd k.Bundled wf1 f1) (rd k.CurlyOpen wf2 f2) x (rd k.Semicolon wf3 f3) y (rd k.Semicolon wf4 f4) zs (cut h3) h2 h1
rule g.CallocStmt _ e _ (token {w = w} f (piece {x = x1} _ c (token {w = b} f2 none) h)) al = moved (ap (λ z. w ∷ z) h) (c w b (calloc_name w f) (rd k.Calloc w f) (rd k.Semicolon b f2)) e
rule g.NamedStmt _ e _ (token {w = w} f (piece {x = x1} _ c (token {w = b} f2 none) h)) al = moved (ap (λ z. w ∷ z) h) (c w b (but_calloc w f) (rd k.Semicolon b f2)) e
rule g.AssignStmt _ e _ (piece {x = x1} _ x (token {w = b} f none) h) al = assign_line b x (rd k.Semicolon b f) h e
rule g.CallocTypeStmt _ e _ (token {w = b} f1 (piece {x = y} us c none h)) al = λ a s ha hc hs. let q = c a b hc (rd k.Less b f1) in
    moved (ap (λ z. a ∷ b ∷ (z ++ (s ∷ []))) (cut h)) (named (ap (λ z. L.stmt_at (act.Call (as_expr_of_name y a.token)) z) q.1) (call_line {us = a ∷ b ∷ us} s (λ d. by (inr (inr (inl tt))) (only q.0 refl)) hs refl))
rule g.CallocNameStmt _ e _ (piece {x = x1} _ c none h) al = λ a s ha hc hs. moved (ap (λ z. a ∷ (z ++ (s ∷ []))) (cut h)) (c a s ha hs)
rule g.CallStmt _ e _ (token {w = b} f1 (piece {x = x1} us c (piece {x = x2} rs m none h2) h1)) al = λ a s ha hs. let q = c a b ha (rd k.RoundOpen b f1) in
    moved (ap (λ z. a ∷ b ∷ z) (sym (append_assoc us rs (s ∷ [])) ∙ ap (λ z. z ++ (s ∷ [])) (ap (λ z. us ++ z) (cut h2) ∙ h1))) (m (a ∷ b ∷ us) _ s q.0 q.1 hs)
rule g.ChangeStmt _ e _ (piece {x = x1} ps p (piece {x = x2} ds d none h2) h1) al = λ a s ha hs.
    assign_line {us = a ∷ (ps ++ ds)} s (d (a ∷ ps) _ (postfix_at {us = a ∷ []} (as_posts x1) (name_at ha) p refl)) hs (ap (λ z. a ∷ (z ++ (s ∷ []))) (ap (λ z. ps ++ z) (cut h2) ∙ h1))
rule g.CalledStmt _ e _ none al = λ us y s hc hp hs. call_line s hc hs refl
rule g.CalledChange _ e _ (piece {x = x1} ps p (piece {x = x2} ds d none h2) h1) al = λ us y s hc hp hs.
    assign_line {us = (us ++ ps) ++ ds} s (d (us ++ ps) _ (postfix_at (as_posts x1) hp p refl)) hs (append_assoc (us ++ ps) ds (s ∷ []) ∙ append_assoc us ps (ds ++ (s ∷ [])) ∙ ap (λ z. us ++ z) (sym (append_assoc ps ds (s ∷ [])) ∙ ap (λ z. z ++ (s ∷ [])) (ap (λ z. ps ++ z) (cut h2) ∙ h1)))
rule g.Else _ e _ (token {w = wf} f (piece {x = x1} _ s none h)) al = λ q. tok (rd k.Else wf f) (last_at s refl h)
rule g.NoElse _ e _ none al = (refl, no_else_at e al)
rule g.NoCondition _ e _ (token {w = wf} f none) al = closed wf (nothing _) (rd k.Semicolon wf f) refl
rule g.Condition _ e _ (piece {x = x1} _ x (token {w = wf} f none) h) al = closed wf (something x _) (rd k.Semicolon wf f) h
rule g.NoStart _ e _ (token {w = wf} f none) al = closed wf (nothing _) (rd k.Semicolon wf f) refl
rule g.LocalStart _ e _ (piece {x = x1} bs b (piece {x = x2} ds d (token {w = wf} f none) h2) h1) al = closed wf (something {ws = bs ++ ds} (λ c. by (inl tt) (part b (only d refl) refl)) _) (rd k.Semicolon wf f) (append_assoc bs ds _ ∙ ap (λ z. bs ++ z) h2 ∙ h1)
rule g.AssignStart _ e _ (piece {x = x1} _ s (token {w = wf} f none) h) al = closed wf (something (λ c. by (inr (inl tt)) (only s refl)) _) (rd k.Semicolon wf f) h
rule g.NoStep _ e _ (token {w = wf} f none) al = closed wf (nothing _) (rd k.RoundClose wf f) refl
rule g.AssignStep _ e _ (piece {x = x1} _ s (token {w = wf} f none) h) al = closed wf (something s _) (rd k.RoundClose wf f) h
rule g.EndAssigns _ e _ (token {w = wf} f none) al = closed wf (no_more _) (rd k.CurlyClose wf f) refl
rule g.Assigns _ e _ (piece {x = x1} _ s (token {w = wf} f (piece {x = x2} _ ss none h2)) h1) al = assigns_at wf s (rd k.Semicolon wf f) ss (cut h2) h1
rule g.Expr _ e _ (piece {x = x1} us x (piece {x = x2} _ r none h2) h1) al = moved (ap (λ z. us ++ z) (cut h2) ∙ h1) (r us _ x)
rule g.ExprRest _ e _ (piece {x = x1} _ c none h) al = λ us y hy. moved (ap (λ z. us ++ z) (cut h)) (named (ap (λ z. v.finished y (as_steps x1) (as_arms x1) z) (sym c.1)) (whole_at (as_steps x1) (as_arms x1) hy c.0))
rule g.ExprSetting _ e _ (piece {x = x1} _ m none h) al = λ us y hy. named (ap (λ z. v.finished y [] None z) (sym m.2)) (expr_by hy m.1 (ap (λ z. us ++ z) (cut h)))
rule g.Chain _ e _ (piece {x = x1} us ss (piece {x = x2} ws c none h2) h1) al = ((us, ws, ap (λ z. us ++ z) (cut h2) ∙ h1, ss, c), refl)
rule g.Choice _ e _ (token {w = wf1} f1 (piece {x = x1} _ x (token {w = wf2} f2 (piece {x = x2} _ y none h2)) h1)) al = λ d q. tok (rd k.Question wf1 f1) (part x (tok (rd k.Colon wf2 f2) (last y refl h2)) h1)
rule g.NoChoice _ e _ none al = refl
rule g.Step _ e _ (piece {x = x1} us o (piece {x = x2} xs x (piece {x = x3} _ ss none h3) h2) h1) al = one_more (step_of o x refl) ss (append_assoc us xs _ ∙ ap (λ z. us ++ z) (ap (λ z. xs ++ z) (cut h3) ∙ h2) ∙ h1)
rule g.NoTail _ e _ none al = no_more
rule g.LessOperation _ e _ (token {w = wf} f none) al = λ d. by (inr (inr (inr (inr (inr (inr (inr (inl tt)))))))) (tok (rd k.Less wf f) end)
rule g.OtherOperation _ e _ (piece {x = x1} _ o none h) al = moved (cut h) o
rule g.Operator _ e _ (token {w = w} f none) al = operator_at w f
rule g.Greater _ e _ (token {w = w} f (piece {x = x1} _ s none h)) al = moved (ap (λ z. w ∷ z) (cut h)) (s w (gr w f))
rule g.Second _ e _ (token {w = wf} f none) al = λ a ha d. by (inr (inr (inr (inr (inr (inr (inr (inr (inr (inr (inr (inr (inl tt))))))))))))) (tok ha (tok (rd k.GreaterNext wf f) end))
rule g.NoSecond _ e _ none al = λ a ha d. by (inr (inr (inr (inr (inr (inr (inr (inr (inr (inl tt)))))))))) (tok ha end)
rule g.Named _ e _ (token {w = w} f (piece {x = x1} _ q none h)) al = moved (ap (λ z. w ∷ z) (cut h)) (q w (nm w f))
rule g.NameRest _ e _ (piece {x = x1} us c (piece {x = x2} ps p (piece {x = x3} os i none h3) h2) h1) al = λ a ha.
    unary_at {us = a ∷ (us ++ ps)} (as_increment x3) (postfix_at {us = a ∷ us} (as_posts x2) (c a ha) p refl) i (ap (λ z. a ∷ z) (append_assoc us ps os ∙ ap (λ z. us ++ z) (ap (λ z. ps ++ z) (cut h3) ∙ h2) ∙ h1))
rule g.CallRest _ e _ (token {w = b} f (piece {x = x1} _ c none h)) al = λ a ha. moved (ap (λ z. a ∷ b ∷ z) (cut h)) (c a b ha (rd k.RoundOpen b f)).1
rule g.NoCall _ e _ none al = λ a ha. name_at ha
rule g.Increment _ e _ (token {w = w} f none) al = something (increment_at w f)
rule g.NoIncrement _ e _ none al = nothing
rule g.Unnamed _ e _ (piece {x = x1} _ x none h) al = moved (cut h) x
rule g.Signed _ e _ (token {w = w} f (piece {x = x1} _ x none h)) al = moved (ap (λ z. w ∷ z) (cut h)) (signed_at w f x)
rule g.Incremented _ e _ (token {w = w} f (piece {x = x1} _ x none h)) al = set_before {os = w ∷ []} (increment_at w f) x (ap (λ z. w ∷ z) (cut h))
rule g.Round _ e _ (token {w = w} f (piece {x = x1} _ r none h)) al = moved (ap (λ z. w ∷ z) (cut h)) (r w (rd k.RoundOpen w f))
rule g.Sizeof _ e _ (token {w = wf1} f1 (token {w = wf2} f2 (piece {x = x1} _ t (token {w = wf3} f3 none) h))) al = sizeof_at wf3 (rd k.Sizeof wf1 f1) (rd k.RoundOpen wf2 f2) t (rd k.RoundClose wf3 f3) h
rule g.Postfix _ e _ (piece {x = x1} us x (piece {x = x2} ps p (piece {x = x3} os i none h3) h2) h1) al =
    unary_at {us = us ++ ps} (as_increment x3) (postfix_at (as_posts x2) x p refl) i (append_assoc us ps os ∙ ap (λ z. us ++ z) (ap (λ z. ps ++ z) (cut h3) ∙ h2) ∙ h1)
rule g.Paren _ e _ (piece {x = x1} us x (token {w = w} f (piece {x = x2} ps p (piece {x = x3} os i none h3) h2)) h1) al = λ a ha.
    unary_at {us = a ∷ ((us ++ (w ∷ [])) ++ ps)} (as_increment x3) (postfix_at {us = a ∷ (us ++ (w ∷ []))} (as_posts x2) (round_at w ha x (rd k.RoundClose w f) refl) p refl) i
    (ap (λ z. a ∷ z) (append_assoc (us ++ (w ∷ [])) ps os ∙ append_assoc us (w ∷ []) (ps ++ os) ∙ ap (λ z. us ++ (w ∷ z)) (ap (λ z. ps ++ z) (cut h3) ∙ h2) ∙ h1))
rule g.Cast _ e _ (piece {x = x1} us t (token {w = wf} f (piece {x = x2} _ x none h2)) h1) al = λ a ha. to_type wf ha t (rd k.RoundClose wf f) x (ap (λ z. us ++ (wf ∷ z)) (cut h2) ∙ h1)
rule g.Posts _ e _ (piece {x = x1} us p (piece {x = x2} _ ps none h2) h1) al = post_first (as_post x1) (as_posts x2) p ps (ap (λ z. us ++ z) (cut h2) ∙ h1)
rule g.NoPosts _ e _ none al = ([], no_more, λ y. refl)
rule g.Index _ e _ (token {w = wf1} f1 (piece {x = x1} _ x (token {w = wf2} f2 none) h)) al = (_, (λ d. by (inl tt) (tok (rd k.SquareOpen wf1 f1) (part x (tok (rd k.SquareClose wf2 f2) end) h))), λ y ps. refl)
rule g.Dot _ e _ (token {w = wf1} f1 (token {w = wf2} f2 none)) al = (_, (λ d. by (inr (inl tt)) (tok (rd k.Dot wf1 f1) (tok (nm wf2 f2) end))), λ y ps. refl)
rule g.Arrow _ e _ (token {w = wf1} f1 (token {w = wf2} f2 none)) al = (_, (λ d. by (inr (inr (inl tt))) (tok (rd k.Arrow wf1 f1) (tok (nm wf2 f2) end))), λ y ps. refl)
rule g.Constant _ e _ (piece {x = x1} _ x none h) al = moved (cut h) x
rule g.Tested _ e _ (token {w = w} f (piece {x = x1} _ c none h)) al = moved (ap (λ z. w ∷ z) (cut h)) (λ d. by (inr (inr (inr (inr (inr (inr (inr (inr (inr (inl tt)))))))))) (tok (rd k.Tested w f) (c _ d)))
rule g.Trusted _ e _ (token {w = w} f (piece {x = x1} _ c none h)) al = moved (ap (λ z. w ∷ z) (cut h)) (λ d. by (inr (inr (inr (inr (inr (inr (inr (inr (inr (inr (inl tt))))))))))) (tok (rd k.Trusted w f) (c _ d)))
rule g.BoundsCast _ e _ (token {w = wf1} f1 (piece {x = x1} _ t (token {w = wf2} f2 (token {w = wf3} f3 (piece {x = x2} _ x (piece {x = x3} _ y none h3) h2))) h1)) al = λ q d. cast_at wf2 wf3 (rd k.Less wf1 f1) t (gr wf2 f2) (rd k.RoundOpen wf3 f3) x y (cut h3) h2 h1 q d
rule g.CastLimits _ e _ (token {w = w} f1 (piece {x = x1} _ x (token {w = wf2} f2 none) h)) al = closed wf2 (something (after_token (rd k.Comma w f1) x) _) (rd k.RoundClose wf2 f2) (ap (λ z. w ∷ z) h)
rule g.NoCastLimits _ e _ (token {w = wf} f none) al = closed wf (nothing _) (rd k.RoundClose wf f) refl
rule g.Literal _ e _ (token {w = w} f none) al = literal_of w (sign_of w).kind f refl
rule g.String _ e _ (token {w = wf} f none) al = λ d. by (inr (inr (inr (inr (inr (inl tt)))))) (tok (rd k.Text wf f) end)
rule g.Null _ e _ (token {w = wf} f none) al = λ d. by (inr (inr (inr (inr (inr (inr (inl tt))))))) (tok (rd k.Null wf f) end)
rule g.Eof _ e _ (token {w = wf} f none) al = λ d. by (inr (inr (inr (inr (inr (inr (inr (inl tt)))))))) (tok (rd k.Eof wf f) end)

-- a list of tokens cut in two
record Cut (ws : List Word) (xs ys : List Sign) : Type 0 where
  front : List Word
  back : List Word
  is_whole : front ++ back ≡ ws
  is_front : map sign_of front ≡ xs
  is_back : map sign_of back ≡ ys

cut_at : (xs : List Sign) (ws : List Word) (ys : List Sign) → map sign_of ws ≡ xs ++ ys → Cut ws xs ys
cut_at [] ws ys h = record { front = []; back = ws; is_whole = refl; is_front = refl; is_back = h }
cut_at (x ∷ xs) [] ys h = absurd (cc)
cut_at (x ∷ xs) (w ∷ ws) ys h =
    let e : map sign_of ws ≡ xs ++ ys = cc in
    let i : sign_of w ≡ x = cc in
    let c = cut_at xs ws ys e in
    record { front = w ∷ c.front; back = c.back; is_whole = ap (λ z. w ∷ z) c.is_whole; is_front = ap (λ z. sign_of w ∷ z) c.is_front ∙ ap (λ z. z ∷ xs) i; is_back = c.is_back }

-- whether what stands after tokens is `else`
abbrev pub else_at : Kind → Bool
else_at c = if not_else c then false else true

pub else_same : (ws : List Word) (ys : List Sign) (c : Kind) → map sign_of ws ≡ ys → else_at (before ys c) ≡ before_else ws (else_at c)
else_same [] [] c h = refl
else_same [] (y ∷ ys) c h = absurd (cc)
else_same (w ∷ ws) [] c h = absurd (cc)
else_same (w ∷ ws) (y ∷ ys) c h = let i : sign_of w ≡ y = cc in ap (λ (z : Sign). else_at z.kind) (sym i) ∙ sym (else_agrees w)

may_be : (r : Rule) (c : Kind) → allowed r c ≡ true → may r (else_at c) ≡ true
may_be g.NoElse c h = twice (not_else c) h
  where
    twice : (b : Bool) → b ≡ true → (if (if b then false else true) then false else true) ≡ true
    twice true i = refl
    twice false i = absurd (cc)
may_be _ c h = refl

-- what the table derives, with what its parts are
onto_parts : {ss : List g.Symbol} {zs : List Sign} {c : Kind} {vs : List Value} → Derives ss zs c vs → (ws : List Word) → map sign_of ws ≡ zs → Parts ss ws (else_at c) vs
onto_parts D.nil [] h = none
onto_parts D.nil (w ∷ ws) h = absurd (cc)
onto_parts (D.read f d) [] h = absurd (cc)
onto_parts (D.read {c = t} {ss = ss} {x = x} {xs = xs} {next = c} {vs = vs} f d) (w ∷ ws) h =
    let e : map sign_of ws ≡ xs = cc in
    let i : sign_of w ≡ x = cc in
    subst (λ (z : Sign). Parts (g.t t ∷ ss) (w ∷ ws) (else_at c) (v.token z.token ∷ vs)) i
    (token (subst (λ (z : Sign). Fits t z.kind) (sym i) f) (onto_parts d ws e))
onto_parts (D.by {p = p} {ss = ss} {next = c} {u = u} {vs = vs} r xs ys us l d al mk d2 split) ws h =
    let q = cut_at xs ws ys (h ∙ sym split) in
    let b = else_same q.back ys c q.is_back in
    let inner = subst (λ z. Parts (right r) q.front z us) b (onto_parts d q.front q.is_front) in
    let m = rule r q.front (before_else q.back (else_at c)) us inner (subst (λ z. may r z ≡ true) b (may_be r (before ys c) al)) in
    piece q.front (subst (λ z. Means z q.front (before_else q.back (else_at c)) u) l (subst (λ z. Means (left r) q.front (before_else q.back (else_at c)) z) mk m))
    (onto_parts d2 q.back q.is_back) q.is_whole

text_parts : {ws : List Word} {e : Bool} {vs : List Value} (x : Value) → Parts (g.n g.text ∷ []) ws e vs → vs ≡ x ∷ [] → Means g.text ws e x
text_parts {ws} {e} x (piece {x = y} us m none h) i =
    let j : y ≡ x = cc in
    subst (λ z. Means g.text z e x) (cut h) (subst (λ z. Means g.text us e z) j m)

-- a text of the table is one of the grammar
pub onto : (ws : List Word) (c : Kind) (x : Value) → Derives (g.n g.text ∷ []) (map sign_of ws) c (x ∷ []) → (whole : T.Tree) × Is l.text ws whole × (v.tree whole ≡ x)
onto ws c x d = text_parts x (onto_parts d ws refl) refl

-- the tree that a value is
abbrev tree_of : Value → T.Tree
tree_of (v.tree x) = x
tree_of _ = record { items = [] }

pub onto_tree : (ws : List Word) (c : Kind) (x : T.Tree) → Derives (g.n g.text ∷ []) (map sign_of ws) c (v.tree x ∷ []) → Is l.text ws x
onto_tree ws c x d = let t = onto ws c (v.tree x) d in named (ap tree_of t.2) t.1

-- the tokens of a text, as the table sees them
begins_same : (a b : Bool) → (a ≡ true → b ≡ true) → (b ≡ true → a ≡ true) → a ≡ b
begins_same true true f g = refl
begins_same true false f g = sym (f refl)
begins_same false true f g = g refl
begins_same false false f g = refl

plain_greater : (c : Kind) → is_plain_greater c ≡ true → c ≡ k.Greater
plain_greater k.Greater h = refl
plain_greater _ h = absurd (cc)

alone : Spelled → Word
alone x = record { token = x; glued = false }

glued_alone : (c : Kind) → glued false c ≡ c
glued_alone k.Greater = refl
glued_alone _ = refl

greater_same : (x : Spelled) → is_mark x.kind x.text (codes ">") ≡ is_plain_greater (kind_of_token x)
unfolding alone
greater_same x =
    let w = alone x in
    let same : (sign_of w).kind ≡ kind_of_token x = glued_alone (kind_of_token x) in
    begins_same (is_mark x.kind x.text (codes ">")) (is_plain_greater (kind_of_token x))
    (λ h. ap is_plain_greater (sym same ∙ mark_kind (codes ">") w h))
    (λ h. read_as k.Greater w (same ∙ plain_greater (kind_of_token x) h))

after_same : (x : Spelled) (ys : List Spelled) → map sign_of (words_after x ys) ≡ signs_after x ys
after_same x [] = refl
after_same x (y ∷ ys) =
    let a : adjoins x y ≡ adjacent x y = ap (λ z. z && (x.pos.line == y.pos.line && x.pos.col + 1 == y.pos.col)) (greater_same x) in
    ap (λ z. record { kind = glued z (kind_of_token y); token = y } ∷ map sign_of (words_after y ys)) a
    ∙ ap (λ z. record { kind = kind_after x y; token = y } ∷ z) (after_same y ys)

pub words_same : (xs : List Spelled) → map sign_of (words xs) ≡ signs xs
words_same [] = refl
words_same (x ∷ xs) =
    ap (λ z. record { kind = z; token = x } ∷ map sign_of (words_after x xs)) (glued_alone (kind_of_token x))
    ∙ ap (λ z. record { kind = kind_of_token x; token = x } ∷ z) (after_same x xs)

-- the trees of the table, and the texts, are those of the grammar
pub trees : (xs : List Spelled) (whole : T.Tree) → Derives (g.n g.text ∷ []) (signs xs) k.End (v.tree whole ∷ []) → DerivesTree xs whole
trees xs whole d =
    let s = onto_tree (words xs) k.End whole (subst (λ z. Derives (g.n g.text ∷ []) z k.End (v.tree whole ∷ [])) (sym (words_same xs)) d) false in
    (s.derived, s.worth)

pub texts : (xs : List Spelled) (x : Value) → Derives (g.n g.text ∷ []) (signs xs) k.End (x ∷ []) → DerivesText xs
texts xs x d = ((onto (words xs) k.End x (subst (λ z. Derives (g.n g.text ∷ []) z k.End (x ∷ [])) (sym (words_same xs)) d)).1 false).derived
