use Rattle.std.proofs.Common.{List, ℕ, Err, length, subst, sym, refl, ◌∙◌}
use Rattle.std.proofs.lemmas.Bool.{eqb-true}
use Rattle.std.proofs.lemmas.List.{nil_from_length}
use Rattle.ckc_lexer.specs.declared.items.Item.{Item}
use Rattle.ckc_syntax.specs.Longest.{Longest}
use Rattle.ckc_lexer.specs.Spelling.{Spells}
use Rattle.ckc_lexer.specs.code.Reading.{context_at, IsReading}
use Rattle.ckc_lexer.proofs.Ascii.{token_utf8}
use Rattle.ckc_lexer.proofs.Reading.{read_broken, read_end, next_gap, next_token}
use Rattle.ckc_lexer.proofs.lexer.tokens_of.Goals as goal
use Rattle.ckc_lexer.proofs.lexer.tokens_of.Goals.{in-Gap, in-Token+in_ok-push-in-Token}

pub text_of-text-requires : goal.text_of-text-requires
text_of-text-requires c =
    let context = context_at c.loop-rest.here c.loop-rest.checked in
    token_utf8 context c.split_at.result.0.now c.in-Token.kind
    (subst (λ (i : Item). Spells context c.split_at.result.0.now i) c.in-Token.is
    (subst (λ (w : List ℕ). Spells context w c.item_at-found.result.item) (sym c.split_at.ensures.front) c.item_at-found.ensures.spelled))

pub returns-in-Broken : goal.returns-in-Broken
returns-in-Broken c =
    subst (λ e. IsReading c.args.text.now (Err e)) (sym c.refused.ensures)
    (read_broken c.loop-rest.invariant c.item_at-found.result.len c.in-Broken.code
    (subst (λ (i : Item). Longest (Spells (context_at c.loop-rest.here c.loop-rest.checked)) c.loop-rest.rest.now c.item_at-found.result.len i) c.in-Broken.is c.item_at-found.ensures))

pub loop-rest-preserved : goal.loop-rest-preserved
loop-rest-preserved c = elim c.match-found.branch [
  | in-Gap w ↦ next_gap c.item_at-found.result.len c.item_at-found.result.item c.split_at.result.0.now c.loop-rest.invariant c.item_at-found.ensures w.in-Gap.is c.split_at.ensures.front c.split_at.ensures.back c.moved-here.ensures c.checked_after-checked.ensures w.tokens-is
  | in-Token+in_ok-push-in-Token w ↦ next_token c.item_at-found.result.len c.item_at-found.result.item c.split_at.result.0.now (record { kind = w.in-Token.kind; text = w.text_of-text.result; pos = record { line = c.loop-rest.here.line; col = c.loop-rest.here.col } }) c.loop-rest.invariant c.item_at-found.ensures w.in-Token.is c.split_at.ensures.front c.split_at.ensures.back c.moved-here.ensures c.checked_after-checked.ensures w.text_of-text.ensures refl (w.tokens-is ∙ w.in_ok-push-in-Token.ensures.ok)
]

pub returns : goal.returns
returns c = read_end c.loop-rest.invariant (nil_from_length c.loop-rest.rest.now (eqb-true (length c.loop-rest.rest.now) 0 (sym c.loop-rest-test.ensures)))
