-- The string literals of some parts, one after another, and those of each.
use Rattle.std.proofs.Common.{◌≡◌, refl, sym, ap, subst, ◌∙◌, arith, ℕ, ◌+◌, List, [], ◌∷◌, ◌++◌, length}
use Rattle.std.specs.List.{flat_map}
use Rattle.ckc_base.specs.declared.places.Pos.{Pos}
use Rattle.ckc_syntax.specs.declared.tree.Name.{Name}
use Rattle.ckc_syntax.specs.declared.tree.Act.{Act-F, map-Act, fold-Act, out-Act, roll-Act, fold-roll-Act}
use Rattle.ckc_syntax.specs.declared.tree.Stmt.{fold-roll-Stmt}
use Rattle.ckc_typed.specs.declared.typed.Note.{Note}
use Rattle.ckc_typed.specs.Statics.{Strings, act_strings, stmt_strings, strings_of_stmt, strings_of_item}
use Rattle.ckc_typed.specs.Trees.{NotedAct, NotedItem, NotedStmt}
use Rattle.ckc_build_elaborate.specs.Functions.{literals_of_item}
use Rattle.ckc_build_elaborate.proofs.Counted.{item_counted}
use Rattle.ckc_blame_sound.specs.Settings.{Setting, AreStrings}
use Rattle.ckc_blame_sound.proofs.Words.{act_back}

module _ (s : Setting) where
  pub strings_in_front : (xs ys : Strings) (k : ℕ) → AreStrings s k (xs ++ ys) → AreStrings s k xs
  strings_in_front [] ys k h = tt
  strings_in_front (x ∷ xs) ys k h = (h.0, strings_in_front xs ys (k + 1) h.1)

  pub strings_after : (xs ys : Strings) (k n : ℕ) → n ≡ length xs → AreStrings s k (xs ++ ys) → AreStrings s (k + n) ys
  strings_after [] ys k n is h = subst (λ m. AreStrings s m ys) (omega (arith, is)) h
  strings_after (x ∷ xs) ys k n is h =
      subst (λ m. AreStrings s m ys) (omega (arith, is)) (strings_after xs ys (k + 1) (length xs) refl h.1)

  pub strings_together : (xs ys : Strings) (k n : ℕ) → n ≡ length xs → AreStrings s k xs → AreStrings s (k + n) ys → AreStrings s k (xs ++ ys)
  strings_together [] ys k n is h g = subst (λ m. AreStrings s m ys) (omega (arith, is)) g
  strings_together (x ∷ xs) ys k n is h g =
      (h.0, strings_together xs ys (k + 1) (length xs) refl h.1 (subst (λ m. AreStrings s m ys) (omega (arith, is)) g))

-- ---- statements

abbrev Layer : Type 0
Layer = Act-F Name Note NotedAct NotedStmt

abbrev strings_of_act : NotedAct → Strings
strings_of_act = fold-Act Name Note Strings Strings act_strings stmt_strings

-- what a statement does, with the string literals of the statements in it
abbrev pub strings_inside : Layer → Act-F Name Note Strings Strings
strings_inside = map-Act Name Note NotedAct NotedStmt Strings Strings strings_of_act strings_of_stmt

pub strings_rolled : (at : Pos) (note : Note) (x : Layer) → strings_of_stmt (record { body = roll-Act Name Note x; pos = at; note = note }) ≡ act_strings (strings_inside x)
strings_rolled at note x =
    fold-roll-Stmt Name Note Strings Strings act_strings stmt_strings (record { body = roll-Act Name Note x; pos = at; note = note })
    ∙ fold-roll-Act Name Note Strings Strings act_strings stmt_strings x

pub strings_are : (st : NotedStmt) → strings_of_stmt st ≡ act_strings (strings_inside (out-Act Name Note st.body))
strings_are st =
    ap (λ (a : NotedAct). strings_of_stmt (record { body = a; pos = st.pos; note = st.note })) (sym (act_back st.body))
    ∙ strings_rolled st.pos st.note (out-Act Name Note st.body)

-- ---- items

-- An item has its string literals from the number n on, if those of some items are from the number k on.
abbrev pub NumbersStrings : ℕ → List NotedItem → ℕ → NotedItem → Type 0
NumbersStrings k items n i = (s : Setting) → AreStrings s k (flat_map strings_of_item items) → AreStrings s n (strings_of_item i)

pub numbers_first : (i : NotedItem) (rest : List NotedItem) (k : ℕ) → NumbersStrings k (i ∷ rest) k i
numbers_first i rest k s h = strings_in_front s (strings_of_item i) (flat_map strings_of_item rest) k h

pub numbers_later : (i : NotedItem) (rest : List NotedItem) (k n : ℕ) (j : NotedItem) → NumbersStrings (k + literals_of_item i) rest n j → NumbersStrings k (i ∷ rest) n j
numbers_later i rest k n j later s h = later s (strings_after s (strings_of_item i) (flat_map strings_of_item rest) k (literals_of_item i) (item_counted i) h)
