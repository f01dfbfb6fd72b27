-- Expressions that are covered give words.
use Rattle.std.proofs.Common.{ℕ, ◌+◌, List, [], ◌∷◌}
use Rattle.std.specs.List.{flat_map}
use Rattle.ckc_base.specs.declared.arithmetic.Mode.{Mode}
use Rattle.ckc_typed.specs.declared.environment.Globals.{Globals}
use Rattle.ckc_typed.specs.Statics.{strings_of_expr}
use Rattle.ckc_typed.specs.Trees.{NotedExpr}
use Rattle.ckc_blame_sound.specs.ckc_bounds_stores.specs.declared.values.Numbered.{Numbered}
use Rattle.ckc_blame_sound.specs.ckc_bounds_statements.specs.Paths.{Here}
use Rattle.ckc_source.specs.Eval.{Store, evaluated}
use Rattle.ckc_build_values.specs.Expressions.{expr_elaborated, literals_of}
use Rattle.ckc_build_values.proofs.Counted.{expr_counted}
use Rattle.ckc_blame_sound.specs.Points.{HoldsAt}
use Rattle.ckc_blame_sound.specs.Settings.{Setting, AreStrings}
use Rattle.ckc_blame_sound.proofs.Strings.{strings_in_front, strings_after}
use Rattle.ckc_blame_sound.specs.Typed.{Agrees}
use Rattle.ckc_blame_given.specs.ckc_blame_pointers.specs.Covered.{DeclareLocals, IsSoundStore}
use Rattle.ckc_blame_given.specs.At.{GivesAt}
use Rattle.ckc_blame_given.specs.Gives.{GivesOn}
use Rattle.ckc_blame_given.proofs.Bridge.{judged_gives}
use Rattle.ckc_blame_given.proofs.Comes.{comes_as}
use Rattle.ckc_blame_given.proofs.Narrow.{range_narrowed}
use Rattle.ckc_blame_steps.specs.Arguments.{GivesWord, GiveWords, numbers_behind}
use Rattle.ckc_blame_steps.specs.Givable.{IsGivable, AreGivable}

module _ (m : Mode) (globals : Globals) (s : Setting) (entry : List ℕ) (here : Here) (next : ℕ) (store : Store) (agrees : Agrees globals s) (declares : DeclareLocals s) (ready : IsSoundStore s store next)
    (holds : HoldsAt s store entry here) where
  pub gives_word : (e f : NotedExpr) (k : ℕ) (from : Numbered) → IsGivable m globals s store here e f from → AreStrings s k (strings_of_expr f) → GivesWord m s store here.at e (expr_elaborated s.text s.variables k f) from
  gives_word e f k from g strings = record {
    whole = g.whole;
    narrowed = range_narrowed s.frame e from.value from.fresh here.at [];
    gives = λ v values.
        comes_as m (λ w. GivesAt s store here.at e w.number) (λ w. GivesOn s store v here.at e from w.number) (evaluated store (expr_elaborated s.text s.variables k f))
        (judged_gives m globals s agrees declares store entry next ready here e f from.fresh k g.variables g.fresh g.typed g.judged g.covered strings holds)
        (λ w is at. at from v g.values g.variables g.fresh values);
  }

  pub give_words : (es fs : List NotedExpr) (k : ℕ) (from : Numbered) → AreGivable m globals s store here es fs from → AreStrings s k (flat_map strings_of_expr fs) → GiveWords m s store here.at k es fs from
  unfolding AreGivable GiveWords
  give_words [] [] k from g strings = tt
  give_words (e ∷ es) (f ∷ fs) k from g strings = (
    gives_word e f k from g.0 (strings_in_front s (strings_of_expr f) (flat_map strings_of_expr fs) k strings),
    give_words es fs (k + literals_of f) (numbers_behind s here.at e from) g.1
        (strings_after s (strings_of_expr f) (flat_map strings_of_expr fs) k (literals_of f) (expr_counted f) strings),
  )
  give_words [] (f ∷ fs) k from g strings = absurd g
  give_words (e ∷ es) [] k from g strings = absurd g
