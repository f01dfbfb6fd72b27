-- The arguments of a call are evaluated, one after another.
use Rattle.std.proofs.Common.{◌≡◌, refl, sym, ap, subst, ℕ, ◌+◌, List, [], ◌∷◌, map}
use Rattle.std.specs.Prelude.{if◌then◌else◌, Result, Ok, Err}
use Rattle.ckc_base.specs.declared.arithmetic.Mode.{Mode}
use Rattle.ckc_base.specs.declared.arithmetic.Mode.TheVariants.{Checked}
use Rattle.ckc_types.specs.declared.types.CType.{CType}
use Rattle.ckc_typed.specs.Interfaces.{seen}
use Rattle.ckc_typed.specs.Trees.{NotedDecl, NotedExpr}
use Rattle.ckc_typed.specs.Types.{type_written}
use Rattle.ckc_blame_sound.specs.ckc_bounds_points.specs.Flow.{State}
use Rattle.ckc_blame_sound.specs.ckc_bounds_stores.specs.declared.values.Numbered.{Numbered}
use Rattle.ckc_source.specs.declared.outcome.Halt.{Halt}
use Rattle.ckc_source.specs.declared.outcome.Halt.TheVariants as halt
use Rattle.ckc_source.specs.declared.outcome.Value.{Value}
use Rattle.ckc_source.specs.Code.{Expr, Narrow}
use Rattle.ckc_source.specs.Eval.{Store, given, evaluated, all_evaluated}
use Rattle.ckc_build_values.specs.Expressions.{expr_elaborated, literals_of}
use Rattle.ckc_build_values.specs.Operators.{converted}
use Rattle.ckc_build_elaborate.specs.Steps.{arguments}
use Rattle.ckc_blame_sound.specs.Settings.{Setting}
use Rattle.ckc_blame_sound.specs.Valuations.{Valuation, IsValuationOf}
use Rattle.ckc_blame_sound.proofs.Frames.{types_declared}
use Rattle.ckc_blame_given.specs.ckc_blame_pointers.specs.Owed.{Comes}
use Rattle.ckc_blame_given.specs.Gives.{Continues, GivesOn}
use Rattle.ckc_blame_steps.specs.Arguments.{GivesWord, GiveWords, numbers_behind}
use Rattle.ckc_blame_given.proofs.Converted.{Becomes}
use Rattle.ckc_blame_steps.proofs.Converted.{taken, converted_is, converted_halts}
use Rattle.ckc_blame_steps.proofs.Interfaces.{char_seen}
use Rattle.ckc_blame_steps.proofs.Numbering.{AreWords, numbers_after, behind_words, behind_later, after_later, continues_on}
use Rattle.ckc_blame_steps.proofs.Passed.{AreTaken}

-- each argument becomes a value of the type of its parameter
abbrev pub AllBecome : List CType → List NotedExpr → Type 0
AllBecome [] [] = Unit {0}
AllBecome (t ∷ ts) (e ∷ es) = Becomes t e × AllBecome ts es
AllBecome _ _ = ⊥

-- Arguments give these words under a valuation that continues another one, and under each that continues that.
pub record AllGiven (s : Setting) (store : Store) (at : State) (ts : List CType) (es : List NotedExpr) (from : Numbered) (before : Valuation) (ns : List ℕ) : Type 0 where
  pub after : Valuation
  pub values : IsValuationOf s store.locals after
  pub continues : Continues from.value from.fresh before after
  pub given : (later : Valuation) → IsValuationOf s store.locals later → Continues (numbers_after s at es from).value (numbers_after s at es from).fresh after later
      → AreTaken s store later at ts es from ns

-- An argument for an interface is converted as one for a pointer of any kind.
converted_seen : (d : NotedDecl) (x : Expr) → converted (type_written (seen Checked d).ctype) x ≡ converted (type_written d.ctype) x
converted_seen d x = ap (λ b. if b then Narrow x else x) (char_seen Checked d)

module _ (m : Mode) (s : Setting) (store : Store) (at : State) where
  module _ (d : NotedDecl) (ds : List NotedDecl) (e : NotedExpr) (es : List NotedExpr) (from : Numbered) (before : Valuation) (words : AreWords from) (become : Becomes (type_written d.ctype) e) (x : Expr) (xs : List Expr)
      (one : GivesWord m s store at e x from) where
    abbrev Given : List ℕ → Type 0
    Given = AllGiven s store at (types_declared (d ∷ ds)) (e ∷ es) from before

    abbrev Rest : Valuation → List ℕ → Type 0
    Rest after = AllGiven s store at (types_declared ds) es (numbers_behind s at e from) after

    added : (w : ℕ) (g : GivesOn s store before at e from w) (n : ℕ) → n ≡ taken (type_written d.ctype) w → (ns : List ℕ) → Rest g.after ns → Given (n ∷ ns)
    added w g n is ns r =
        let behind = numbers_behind s at e from in
        let step = behind_later s at e from words in
        let more = after_later s at es behind (behind_words s at e from) in
        record {
          after = r.after;
          values = r.values;
          continues = continues_on from.value from.fresh behind.value behind.fresh before g.after r.after step.value step.fresh g.continues r.continues;
          given = λ later values continues. (
            record {
              word = w;
              becomes = become;
              narrowed = one.narrowed;
              gives = g.gives later values
                  (continues_on behind.value behind.fresh (numbers_after s at es behind).value (numbers_after s at es behind).fresh g.after r.after later more.value more.fresh r.continues continues);
              is = is;
            },
            r.given later values continues,
          );
        }

    with_rest : (w : ℕ) (g : GivesOn s store before at e from w) (n : ℕ) → n ≡ taken (type_written d.ctype) w → (o : Result (List ℕ) Halt) → Comes m (Rest g.after) o
        → Comes m Given (given o (λ ns. Ok (n ∷ ns)))
    with_rest w g n is (Ok ns) h = added w g n is ns h
    with_rest w g n is (Err (halt.Stopped why pos)) h = tt
    with_rest w g n is (Err halt.Stuck) h = h

    pub one_more : IsValuationOf s store.locals before → ((after : Valuation) → IsValuationOf s store.locals after → Comes m (Rest after) (all_evaluated store xs))
        → Comes m Given (all_evaluated store (converted (type_written d.ctype) x ∷ xs))
    one_more values rest = by (evaluated store x) refl (one.gives before values)
      where
        goes : Result Value Halt → Result (List ℕ) Halt
        goes o = given o (λ v. given (all_evaluated store xs) (λ ns. Ok (v.number ∷ ns)))

        by : (o : Result Value Halt) → evaluated store x ≡ o → Comes m (λ w. GivesOn s store before at e from w.number) o → Comes m Given (goes (evaluated store (converted (type_written d.ctype) x)))
        by (Ok v) is g =
            let u = converted_is store (type_written d.ctype) x v is in
            subst (λ o. Comes m Given (goes o)) (sym u.1) (with_rest v.number g u.0.number u.2 (all_evaluated store xs) (rest g.after g.values))
        by (Err (halt.Stopped why pos)) is g = subst (λ o. Comes m Given (goes o)) (sym (converted_halts store (type_written d.ctype) x (halt.Stopped why pos) is)) tt
        by (Err halt.Stuck) is g = subst (λ o. Comes m Given (goes o)) (sym (converted_halts store (type_written d.ctype) x halt.Stuck is)) g

  pub all_given : (ds : List NotedDecl) (es fs : List NotedExpr) (k : ℕ) (from : Numbered) (before : Valuation) → AreWords from → IsValuationOf s store.locals before → AllBecome (types_declared (map (seen Checked) ds)) es
      → GiveWords m s store at k es fs from → Comes m (AllGiven s store at (types_declared (map (seen Checked) ds)) es from before) (all_evaluated store (arguments s.text s.variables k ds fs))
  unfolding GiveWords
  all_given [] [] [] k from before words values become h = record { after = before; values = values; continues = record { address = λ n l. refl; number = λ x l. refl }; given = λ later v c. tt }
  all_given (d ∷ ds) (e ∷ es) (f ∷ fs) k from before words values become h =
      subst (λ x. Comes m (AllGiven s store at (types_declared (map (seen Checked) (d ∷ ds))) (e ∷ es) from before) (all_evaluated store (x ∷ arguments s.text s.variables (k + literals_of f) ds fs)))
      (converted_seen d (expr_elaborated s.text s.variables k f))
      (one_more (seen Checked d) (map (seen Checked) ds) e es from before words become.0 (expr_elaborated s.text s.variables k f) (arguments s.text s.variables (k + literals_of f) ds fs) h.0 values
      (λ after v. all_given ds es fs (k + literals_of f) (numbers_behind s at e from) after (behind_words s at e from) v become.1 h.1))
  all_given [] (e ∷ es) fs k from before words values become h = absurd become
  all_given (d ∷ ds) [] fs k from before words values become h = absurd become
  all_given [] [] (f ∷ fs) k from before words values become h = absurd h
  all_given (d ∷ ds) (e ∷ es) [] k from before words values become h = absurd h
