-- What an expression gives under a valuation.
use Rattle.std.specs.Prelude.{◌≡◌, ℕ, ◌<◌, ◌≤◌, true, pos, Some}
use Rattle.ckc_linear.specs.declared.forms.Base.TheVariants as base
use Rattle.ckc_linear.specs.declared.forms.Form.{Form}
use Rattle.ckc_typed.specs.Conversions.{is_string}
use Rattle.ckc_typed.specs.Trees.{NotedExpr}
use Rattle.ckc_blame_sound.specs.ckc_bounds_points.specs.Shown.{Known}
use Rattle.ckc_blame_sound.specs.ckc_bounds_points.specs.Flow.{State}
use Rattle.ckc_blame_sound.specs.ckc_bounds_views.specs.Parts.{capped, fresh_behind}
use Rattle.ckc_blame_sound.specs.ckc_bounds_views.specs.Views.{view}
use Rattle.ckc_blame_sound.specs.ckc_bounds_stores.specs.declared.values.Numbered.{Numbered}
use Rattle.ckc_blame_sound.specs.ckc_bounds_stores.specs.Values.{narrow}
use Rattle.ckc_source.specs.Eval.{Store}
use Rattle.ckc_source.specs.Words.{exact}
use Rattle.ckc_build_values.specs.Kinds.{integer_of, size_behind}
use Rattle.ckc_blame_sound.specs.Settings.{Setting}
use Rattle.ckc_blame_sound.specs.Values.{number_of, IsWordOf}
use Rattle.ckc_blame_sound.specs.Valuations.{Valuation, form_address, AreFacts, IsValuationOf, AreNumbersOf}
use Rattle.ckc_blame_sound.specs.Containment.{Memory, IsReadWithin}
use Rattle.ckc_blame_sound.specs.GivenValues.{memory_of}

-- A valuation says the same as an earlier one of the values with numbers below the first of some, and of the variables up
-- to a number.
pub record Continues (first last : ℕ) (before after : Valuation) : Type 0 where
  pub address : (n : ℕ) → n < first → after.address (Some (base.Value n)) ≡ before.address (Some (base.Value n))
  pub number : (x : ℕ) → x ≤ last → after.number x ≡ before.number x

-- the same memory, read as what a terminator ends
abbrev pub ending : Memory → Memory
ending m = record m { to = record m.to { terminated = true } }

-- What is known of the word n that an expression gives at a point under a valuation: wherever facts are true its place is
-- its address and its form is its number; it is null if it is judged to be; it may be read within its range, with and
-- without what is widened, and if it is a string literal, as what a terminator ends; and its fresh variables stand for
-- numbers of their types.
pub record Gives (s : Setting) (store : Store) (v : Valuation) (at : State) (e : NotedExpr) (from : Numbered) (n : ℕ)
    : Type 0 where
  pub word : IsWordOf e.note.ctype n
  pub place : (facts : Known) (f : Form) → AreFacts v facts → (view s.frame e).place from.value facts ≡ Some f
      → form_address v (size_behind s.text.layout e.note.ctype) f ≡ pos n
  pub form : (facts : Known) (f : Form) → AreFacts v facts → (view s.frame e).form facts ≡ Some f
      → number_of v.number f ≡ exact (integer_of e.note.ctype) n
  pub null : (view s.frame e).null ≡ true → n ≡ 0
  pub wide : IsReadWithin (memory_of s store e.note.ctype) v n ((view s.frame e).range from.value from.fresh at)
  pub ended : is_string e ≡ true
      → IsReadWithin (ending (memory_of s store e.note.ctype)) v n ((view s.frame e).range from.value from.fresh at)
  pub narrow : IsReadWithin (memory_of s store e.note.ctype) v n ((view s.frame e).range from.value from.fresh (narrow at))
  pub fresh : AreNumbersOf v (capped from.fresh 1) ((view s.frame e).fresh at)

-- An expression gives a word under a valuation that continues another one, and under each that continues that past the
-- numbers of the expression.
pub record GivesOn (s : Setting) (store : Store) (before : Valuation) (at : State) (e : NotedExpr) (from : Numbered) (n : ℕ)
    : Type 0 where
  pub after : Valuation
  pub values : IsValuationOf s store.locals after
  pub continues : Continues from.value from.fresh before after
  pub gives : (later : Valuation) → IsValuationOf s store.locals later
      → Continues (capped from.value (view s.frame e).values) (fresh_behind (view s.frame e) from.fresh at) after later
      → Gives s store later at e from n
