-- The arguments of a call, one after another: what they stand for, and what is known of it.
use Rattle.std.proofs.Common.{◌≡◌, refl, sym, ap, subst, ◌∙◌, ℕ, zero, suc, ◌+◌, List, [], ◌∷◌, length, map, arith}
use Rattle.std.specs.Prelude.{◌<◌, ◌≤◌, pos, slice_get, slice_index, Option, None, Some}
use Rattle.ckc_types.specs.declared.types.CType.{CType}
use Rattle.ckc_typed.specs.declared.typed.Typed.{Typed}
use Rattle.ckc_typed.specs.Trees.{NotedExpr}
use Rattle.ckc_blame_sound.specs.ckc_bounds_points.specs.declared.frame.Local.{Local}
use Rattle.ckc_blame_sound.specs.ckc_bounds_points.specs.Flow.{State}
use Rattle.ckc_blame_sound.specs.ckc_bounds_points.specs.Shown.{Known}
use Rattle.ckc_blame_sound.specs.ckc_bounds_views.specs.Fresh.{all_fresh}
use Rattle.ckc_blame_sound.specs.ckc_bounds_views.specs.Parts.{capped}
use Rattle.ckc_blame_sound.specs.ckc_bounds_views.specs.Views.{view}
use Rattle.ckc_blame_sound.specs.ckc_bounds_stores.specs.declared.values.Numbered.{Numbered}
use Rattle.ckc_blame_sound.specs.ckc_bounds_stores.specs.Values.{narrow}
use Rattle.ckc_source.specs.Eval.{Store}
use Rattle.ckc_build_values.specs.Kinds.{pointee_of}
use Rattle.ckc_blame_sound.specs.Settings.{Setting}
use Rattle.ckc_blame_sound.specs.Values.{IsWordOf}
use Rattle.ckc_blame_sound.specs.Valuations.{Valuation, AreFacts, AreNumbersOf}
use Rattle.ckc_blame_sound.specs.Arguments.{IsArgumentIf, AreArguments}
use Rattle.ckc_blame_sound.specs.Containment.{Memory, IsReadWithin, IsNarrowed}
use Rattle.ckc_blame_sound.specs.GivenValues.{memory_of}
use Rattle.ckc_blame_sound.specs.Passed.{IsNewArgumentIf, AreNewArguments}
use Rattle.ckc_blame_given.specs.Gives.{Gives}
use Rattle.ckc_blame_steps.specs.Arguments.{numbers_behind}
use Rattle.ckc_blame_given.proofs.Converted.{Becomes}
use Rattle.ckc_blame_steps.proofs.Converted.{taken, taken_word}
use Rattle.ckc_blame_steps.proofs.Numbering.{AreWords, behind_words, numbers_joined}
use Rattle.ckc_blame_steps.proofs.Taken.{word_is, null_taken, wide_taken, narrow_taken, placed_taken, number_taken}

-- An argument gives the word w, and a parameter of type t gets the word n for it.
pub record IsTaken (s : Setting) (store : Store) (v : Valuation) (at : State) (t : CType) (e : NotedExpr) (from : Numbered) (n : ℕ) : Type 0 where
  pub word : ℕ
  pub becomes : Becomes t e
  pub narrowed : IsNarrowed ((view s.frame e).range from.value from.fresh at) ((view s.frame e).range from.value from.fresh (narrow at))
  pub gives : Gives s store v at e from word
  pub is : n ≡ taken t word

-- this of each argument
abbrev pub AreTaken : Setting → Store → Valuation → State → List CType → List NotedExpr → Numbered → List ℕ → Type 0
AreTaken s store v at [] [] from [] = Unit {0}
AreTaken s store v at (t ∷ ts) (e ∷ es) from (n ∷ ns) = IsTaken s store v at t e from n × AreTaken s store v at ts es (numbers_behind s at e from) ns
AreTaken s store v at _ _ from _ = ⊥

module _ (s : Setting) (store : Store) (v : Valuation) (at : State) where
  pub taken_many : (ts : List CType) (es : List NotedExpr) (from : Numbered) (ns : List ℕ) → AreTaken s store v at ts es from ns → (length es ≡ length ts) × (length ns ≡ length ts)
  taken_many [] [] from [] h = (refl, refl)
  taken_many (t ∷ ts) (e ∷ es) from (n ∷ ns) h = let r = taken_many ts es (numbers_behind s at e from) ns h.1 in (ap suc r.0, ap suc r.1)
  taken_many [] [] from (n ∷ ns) h = absurd h
  taken_many [] (e ∷ es) from ns h = absurd h
  taken_many (t ∷ ts) [] from ns h = absurd h
  taken_many (t ∷ ts) (e ∷ es) from [] h = absurd h

  -- each is a word of its type
  pub taken_words : (ts : List CType) (es : List NotedExpr) (from : Numbered) (ns : List ℕ) → v.number 0 ≡ pos 0 → AreTaken s store v at ts es from ns → (i : ℕ) (t : CType) → slice_get ts i ≡ Some t
      → IsWordOf t (slice_index ns i)
  taken_words [] es from ns z h i t is = absurd cc
  taken_words (u ∷ ts) (e ∷ es) from (n ∷ ns) z h zero t is =
      let same : u ≡ t = cc in
      subst (λ x. IsWordOf x n) same (subst (IsWordOf u) (sym h.0.is) (taken_word u h.0.word (word_is s store at v z e from h.0.word u h.0.becomes h.0.gives)))
  taken_words (u ∷ ts) (e ∷ es) from (n ∷ ns) z h (suc i) t is = taken_words ts es (numbers_behind s at e from) ns z h.1 i t is
  taken_words (u ∷ ts) [] from ns z h i t is = absurd h
  taken_words (u ∷ ts) (e ∷ es) from [] z h i t is = absurd h

  -- the fresh variables stand for numbers of their types
  pub taken_numbers : (ts : List CType) (es : List NotedExpr) (from : Numbered) (ns : List ℕ) → AreWords from → AreTaken s store v at ts es from ns
      → AreNumbersOf v (capped from.fresh 1) (all_fresh (map (view s.frame) es) at)
  taken_numbers [] [] from [] w h = tt
  taken_numbers (t ∷ ts) (e ∷ es) from (n ∷ ns) w h =
      numbers_joined v ((view s.frame e).fresh at) (all_fresh (map (view s.frame) es) at) from.fresh w.fresh h.0.gives.fresh
      (taken_numbers ts es (numbers_behind s at e from) ns (behind_words s at e from) h.1)
  taken_numbers [] [] from (n ∷ ns) w h = absurd h
  taken_numbers [] (e ∷ es) from ns w h = absurd h
  taken_numbers (t ∷ ts) [] from ns w h = absurd h
  taken_numbers (t ∷ ts) (e ∷ es) from [] w h = absurd h

  module _ (params : List Local) (entry : List ℕ) where
    -- the parameters from a number on have these types, and were entered with these words
    pub record AreEntered (k : ℕ) (ts : List CType) (ns : List ℕ) : Type 0 where
      pub typed : (i : ℕ) (l : Local) → slice_get params (k + i) ≡ Some l → slice_get ts i ≡ Some l.ctype
      pub entered : (i : ℕ) → slice_index entry (k + i) ≡ slice_index ns i

    next_entered : (k : ℕ) (t : CType) (ts : List CType) (n : ℕ) (ns : List ℕ) → k < 1024 → AreEntered k (t ∷ ts) (n ∷ ns) → AreEntered (capped k 1) ts ns
    next_entered k t ts n ns few a = record {
      typed = λ i l is. let same : capped k 1 + i ≡ k + suc i = omega arith in a.typed (suc i) l (ap (slice_get params) (sym same) ∙ is);
      entered = λ i. let same : capped k 1 + i ≡ k + suc i = omega arith in ap (slice_index entry) same ∙ a.entered (suc i);
    }

    -- the first of them
    first_typed : (k : ℕ) (t : CType) (ts : List CType) (n : ℕ) (ns : List ℕ) → AreEntered k (t ∷ ts) (n ∷ ns) → (l : Local) → slice_get params k ≡ Some l → t ≡ l.ctype
    first_typed k t ts n ns a l is =
        let same : k + 0 ≡ k = omega arith in
        let there : ◌≡◌ {A = Option CType} (Some t) (Some l.ctype) = a.typed 0 l (ap (slice_get params) same ∙ is) in
        cc

    first_entered : (k : ℕ) (t : CType) (ts : List CType) (n : ℕ) (ns : List ℕ) → AreEntered k (t ∷ ts) (n ∷ ns) → n ≡ slice_index entry k
    first_entered k t ts n ns a = let same : k + 0 ≡ k = omega arith in sym (ap (slice_index entry) (sym same) ∙ a.entered 0)

    module _ (zero_is : v.number 0 ≡ pos 0) where
      one_argument : (o : Option Local) (t : CType) (e : NotedExpr) (from : Numbered) (n : ℕ) (facts : Known) → AreFacts v facts → IsTaken s store v at t e from n → ((l : Local) → o ≡ Some l → t ≡ l.ctype)
          → IsArgumentIf s.text.layout v facts o ((view s.frame e).place from.value facts) ((view s.frame e).form facts) n
      one_argument None t e from n facts all h same = tt
      one_argument (Some l) t e from n facts all h same =
          subst (λ m. IsArgumentIf s.text.layout v facts (Some l) ((view s.frame e).place from.value facts) ((view s.frame e).form facts) m) (sym (h.is ∙ ap (λ u. taken u h.word) (same l refl)))
          (record {
            address = λ f pointer is. placed_taken s store at v zero_is e from h.word l.ctype becomes h.gives facts f all is;
            number = λ f is. number_taken s store at v zero_is e from h.word l.ctype becomes h.gives facts f all is;
          })
        where
          becomes : Becomes l.ctype e
          becomes = subst (λ u. Becomes u e) (same l refl) h.becomes

      pub are_arguments : (ts : List CType) (es : List NotedExpr) (from : Numbered) (ns : List ℕ) (k : ℕ) (facts : Known) → k + length es ≤ 1024 → AreFacts v facts → AreTaken s store v at ts es from ns → AreEntered k ts ns
          → AreArguments s.text.layout v facts params entry k from.value (map (view s.frame) es)
      are_arguments [] [] from [] k facts few all h a = tt
      are_arguments (t ∷ ts) (e ∷ es) from (n ∷ ns) k facts few all h a = (
        subst (λ m. IsArgumentIf s.text.layout v facts (slice_get params k) ((view s.frame e).place from.value facts) ((view s.frame e).form facts) m) (first_entered k t ts n ns a)
            (one_argument (slice_get params k) t e from n facts all h.0 (first_typed k t ts n ns a)),
        are_arguments ts es (numbers_behind s at e from) ns (capped k 1) facts (omega arith) all h.1 (next_entered k t ts n ns (omega arith) a),
      )
      are_arguments [] [] from (n ∷ ns) k facts few all h a = absurd h
      are_arguments [] (e ∷ es) from ns k facts few all h a = absurd h
      are_arguments (t ∷ ts) [] from ns k facts few all h a = absurd h
      are_arguments (t ∷ ts) (e ∷ es) from [] k facts few all h a = absurd h

      one_new : (called : Setting) → called.text ≡ s.text → (o : Option Local) (t : CType) (e : NotedExpr) (from : Numbered) (n : ℕ) → IsTaken s store v at t e from n → ((l : Local) → o ≡ Some l → t ≡ l.ctype)
          → IsNewArgumentIf called store v o (view s.frame e) from.value from.fresh at n
      one_new called text None t e from n h same = tt
      one_new called text (Some l) t e from n h same =
          subst (λ m. IsNewArgumentIf called store v (Some l) (view s.frame e) from.value from.fresh at m) (sym (h.is ∙ ap (λ u. taken u h.word) (same l refl)))
          (record {
            null = λ i. null_taken s store at v zero_is e from h.word l.ctype becomes h.gives i;
            ranged = record {
              wide = memory_same (λ m. IsReadWithin m v (taken l.ctype h.word) ((view s.frame e).range from.value from.fresh at)) (wide_taken s store at v zero_is e from h.word l.ctype becomes h.gives);
              narrow = memory_same (λ m. IsReadWithin m v (taken l.ctype h.word) ((view s.frame e).range from.value from.fresh (narrow at))) (narrow_taken s store at v zero_is e from h.word l.ctype becomes h.gives);
              narrowed = h.narrowed;
              element = λ i some. absurd cc;
            };
            numbers = λ some. h.gives.fresh;
          })
        where
          becomes : Becomes l.ctype e
          becomes = subst (λ u. Becomes u e) (same l refl) h.becomes

          memory_same : (P : Memory → Type 0) → P (memory_of s store l.ctype) → P (memory_of called store l.ctype)
          memory_same P x = subst (λ (text : Typed). P (record { shapes = store.shapes; blocks = store.blocks; to = pointee_of text.layout l.ctype })) (sym text) x

      pub are_new : (called : Setting) → called.text ≡ s.text → (ts : List CType) (es : List NotedExpr) (from : Numbered) (ns : List ℕ) (k : ℕ) → k + length es ≤ 1024 → AreTaken s store v at ts es from ns → AreEntered k ts ns
          → AreNewArguments called store v params entry at k from.value from.fresh (map (view s.frame) es)
      are_new called text [] [] from [] k few h a = tt
      are_new called text (t ∷ ts) (e ∷ es) from (n ∷ ns) k few h a = (
        subst (λ m. IsNewArgumentIf called store v (slice_get params k) (view s.frame e) from.value from.fresh at m) (first_entered k t ts n ns a)
            (one_new called text (slice_get params k) t e from n h.0 (first_typed k t ts n ns a)),
        are_new called text ts es (numbers_behind s at e from) ns (capped k 1) (omega arith) h.1 (next_entered k t ts n ns (omega arith) a),
      )
      are_new called text [] [] from (n ∷ ns) k few h a = absurd h
      are_new called text [] (e ∷ es) from ns k few h a = absurd h
      are_new called text (t ∷ ts) [] from ns k few h a = absurd h
      are_new called text (t ∷ ts) (e ∷ es) from [] k few h a = absurd h
