-- Facts are true after assignments, and locals hold words.
use Rattle.std.proofs.Common.{◌≡◌, ◌⊎◌, inl, inr, ⊎_elim, refl, sym, ap, subst, ◌∙◌, ℕ, suc, ◌+◌, true, false, List, [], ◌∷◌, length, ◌+ℤ◌, arith}
use Rattle.std.specs.Prelude.{◌<◌, slice_index, slice_set, Option, None, Some, IfSome}
use Rattle.std.specs.List.{All}
use Rattle.std.proofs.lemmas.Bool.Decides.{eqb_tells}
use Rattle.std.proofs.lemmas.List.{get_or-set_same, get_or-set_other}
use Rattle.std.proofs.lemmas.List.Elements.{All-nil, All-cons, All-head, All-tail, All-weaker}
use Rattle.ckc_base.specs.Memory.{kept_part}
use Rattle.ckc_linear.specs.declared.forms.Form.{Form}
use Rattle.ckc_types.specs.declared.types.CType.{CType}
use Rattle.ckc_typed.specs.Types.{is_integer}
use Rattle.ckc_blame_sound.specs.ckc_bounds_points.specs.declared.frame.Local.{Local}
use Rattle.ckc_blame_sound.specs.ckc_bounds_points.specs.Shown.{Known}
use Rattle.ckc_blame_sound.specs.ckc_bounds_points.specs.Frames.{local_at}
use Rattle.ckc_blame_sound.specs.ckc_bounds_points.specs.Flow.{State, assigned}
use Rattle.ckc_blame_sound.specs.ckc_bounds_points.specs.Forms.{in_type}
use Rattle.ckc_blame_sound.specs.ckc_bounds_ranges.specs.Bundles.{mention}
use Rattle.ckc_blame_sound.specs.ckc_bounds_stores.specs.declared.values.Numbered.{Numbered}
use Rattle.ckc_typed.specs.Trees.{NotedExpr}
use Rattle.ckc_blame_sound.specs.ckc_bounds_views.specs.Views.{view}
use Rattle.ckc_blame_sound.specs.ckc_bounds_stores.specs.Targets.{local_of}
use Rattle.ckc_blame_sound.specs.ckc_bounds_stores.specs.Stores.{Placed, received, assigned_local, after}
use Rattle.ckc_source.specs.declared.outcome.Place.{Place}
use Rattle.ckc_source.specs.Eval.{Store}
use Rattle.ckc_source.specs.Steps.{Write}
use Rattle.ckc_source.specs.Words.{exact}
use Rattle.ckc_build_values.specs.Kinds.{width_of, integer_of}
use Rattle.ckc_blame_sound.specs.Settings.{Setting}
use Rattle.ckc_blame_sound.specs.Values.{value, value_in, number_of, AreTrue, HoldWords, IsWordOf}
use Rattle.ckc_blame_sound.proofs.Flow.{facts_assigned_hold, integer_value, variable_value}
use Rattle.ckc_blame_sound.specs.Valuations.{Valuation, AreFacts, IsValuationOf}
use Rattle.ckc_blame_sound.specs.Elements.{number_kept}
use Rattle.ckc_blame_sound.proofs.Faults.{one_wide}
use Rattle.ckc_blame_given.specs.Written.{IsReceived, IsWritten, AreWritten}
use Rattle.ckc_blame_given.proofs.Named.{names_local, IsNamedLocal, typed_named, form_named}
use Rattle.ckc_blame_given.proofs.Apart.{IsAfter, AreApart}
use Rattle.ckc_blame_given.proofs.Written.{put_in, locals_after, none_put, length_put}
use Rattle.ckc_blame_given.proofs.Given.{kept_word}

both_hold : {A : Type 0} (P Q : A → Type 0) (xs : List A) → All P xs → All Q xs → All (λ x. P x × Q x) xs
both_hold P Q [] g h = All-nil (λ x. P x × Q x)
both_hold P Q (x ∷ xs) g h = All-cons (λ x. P x × Q x) x xs (All-head P x xs g, All-head Q x xs h) (both_hold P Q xs (All-tail P x xs g) (All-tail Q x xs h))

-- ---- words

module _ (s : Setting) where
  -- a word of its type in one local
  pub word_put : (locals : List ℕ) (k n : ℕ) (l : Local) → local_at s.frame k ≡ Some l → k < length locals → IsWordOf l.ctype n → HoldWords s.frame locals → HoldWords s.frame (slice_set locals k n)
  word_put locals k n l there below word words j m is = ⊎_elim
      (λ (p, d). let same : j ≡ k = d in
      let one : ◌≡◌ {A = Option Local} (Some m) (Some l) = sym is ∙ ap (local_at s.frame) same ∙ there in
      let local_same : m ≡ l = cc in
      subst (λ i. IsWordOf m.ctype (slice_index (slice_set locals k n) i)) (sym same)
      (subst (IsWordOf m.ctype) (sym (get_or-set_same locals k n 0 below)) (subst (λ (x : Local). IsWordOf x.ctype n) (sym local_same) word)))
      (λ (p, d). subst (IsWordOf m.ctype) (sym (get_or-set_other locals k j n 0 d)) (words j m is))
      (eqb_tells j k)

  module _ (store : Store) (v : Valuation) (at : State) where
    one_word : (p : Placed) (o : Option ℕ) (w : Write) → IsWritten s store v at p o w → (locals : List ℕ) → length locals ≡ length s.variables → HoldWords s.frame locals
        → HoldWords s.frame (put_in w.0 w.1 locals)
    one_word p None w h locals long words = subst (HoldWords s.frame) (sym (none_put w.0 w.1 locals h)) words
    one_word p (Some k) w h locals long words =
        subst (λ (to : Place). HoldWords s.frame (put_in to w.1 locals)) (sym h.goes)
        (word_put locals k (kept_part (width_of h.local.ctype) w.1) h.local h.there (subst (λ m. k < m) (sym long) h.below) (kept_word h.local.ctype w.1 h.received.word) words)

    pub words_after : (ps : List Placed) (ws : List Write) → AreWritten s store v at ps ws → (locals : List ℕ) → length locals ≡ length s.variables → HoldWords s.frame locals
        → HoldWords s.frame (locals_after ws locals)
    unfolding AreWritten
    words_after [] [] h locals long words = words
    words_after [] (w ∷ ws) h locals long words = absurd h
    words_after (p ∷ ps) [] h locals long words = absurd h
    words_after (p ∷ ps) (w ∷ ws) h locals long words =
        words_after ps ws h.1 (put_in w.0 w.1 locals) (length_put w.0 w.1 locals ∙ long) (one_word p (local_of p.target) w h.0 locals long words)

-- ---- facts

-- what an expression names has its old value still
abbrev pub IsOld : List ℕ → List ℕ → NotedExpr → Type 0
IsOld old locals e = (j : ℕ) → names_local (mention e) j ≡ true → slice_index locals j ≡ slice_index old j

module _ (s : Setting) (store : Store) (old : List ℕ) (v : Valuation) (are : IsValuationOf s old v) (at : State) (known : AreFacts v at.facts) where
  -- a form of an expression has its old value if what the expression names has
  pub form_old : (t : CType) (e : NotedExpr) (locals : List ℕ) → IsOld old locals e → (f : Form) → in_type at.facts t ((view s.frame e).form at.facts) ≡ Some f
      → number_of (value s.frame locals) f ≡ number_of v.number f
  form_old t e locals kept f is =
      ap (λ z. z +ℤ f.add) (by (typed_named s.frame (names_local (mention e)) at.facts t ((view s.frame e).form at.facts) (form_named s.frame e at.facts) f is))
    where
      by : (f.var ≡ 0) ⊎ IsNamedLocal s.frame (names_local (mention e)) f.var → value s.frame locals f.var ≡ v.number f.var
      by (inl z) = ap (value s.frame locals) z ∙ sym are.zero ∙ ap v.number (sym z)
      by (inr l) =
          let next : suc l.number ≡ l.number + 1 = omega arith in
          ap (value s.frame locals) l.same ∙ variable_value s.frame locals l.number l.local l.there ∙ integer_value l.local (slice_index locals l.number) l.integer
          ∙ ap (exact (integer_of l.local.ctype)) (kept l.number l.named) ∙ sym (are.number l.number l.local l.there l.integer) ∙ ap v.number (next ∙ sym l.same)

  -- the number of what is kept of such a word
  pub form_kept : (l : Local) (t : CType) (e : NotedExpr) (first : Numbered) (n : ℕ) → t ≡ l.ctype → IsReceived s store v at t e first n → is_integer l.ctype ≡ true → (locals : List ℕ)
      → IsOld old locals e
      → IfSome (in_type at.facts t ((view s.frame e).form at.facts)) (λ f. value_in (Some l) (kept_part (width_of l.ctype) n) ≡ number_of (value s.frame locals) f)
  form_kept l t e first n same r i locals kept = by (in_type at.facts t ((view s.frame e).form at.facts)) refl
    where
      by : (o : Option Form) → in_type at.facts t ((view s.frame e).form at.facts) ≡ o
          → IfSome o (λ f. value_in (Some l) (kept_part (width_of l.ctype) n) ≡ number_of (value s.frame locals) f)
      by None is = tt
      by (Some f) is =
          integer_value l (kept_part (width_of l.ctype) n) i ∙ ap (λ (u : CType). number_kept u n) (sym same) ∙ sym (r.form at.facts f known is) ∙ sym (form_old t e locals kept f is)

  one_facts : (p : Placed) (o : Option ℕ) (w : Write) → IsWritten s store v at p o w → (locals : List ℕ) (now : State) → now.reached ≡ true → length locals ≡ length s.variables
      → IsOld old locals p.right → AreTrue s.frame locals now.facts → AreTrue s.frame (put_in w.0 w.1 locals) (assigned_local s.frame (received s.frame at.facts p) now o).facts
  one_facts p None w h locals now reached long kept all = subst (λ xs. AreTrue s.frame xs now.facts) (sym (none_put w.0 w.1 locals h)) all
  one_facts p (Some k) w h locals now reached long kept all =
      subst (λ (to : Place). AreTrue s.frame (put_in to w.1 locals) (assigned s.frame k (received s.frame at.facts p) now).facts) (sym h.goes)
      (facts_assigned_hold s.frame locals k (kept_part (width_of h.local.ctype) w.1) h.local (received s.frame at.facts p) now reached h.there (subst (λ m. k < m) (sym long) h.below)
      (kept_word h.local.ctype w.1 h.received.word) (λ i. form_kept h.local p.target.note.ctype p.right p.from w.1 h.same h.received i locals kept) all)

  -- what comes later names nothing that is written
  one_old : (p : Placed) (o : Option ℕ) (w : Write) → local_of p.target ≡ o → IsWritten s store v at p o w → (locals : List ℕ) (q : Placed) → IsAfter p q → IsOld old locals q.right
      → IsOld old (put_in w.0 w.1 locals) q.right
  one_old p None w is h locals q behind kept j named = ap (λ xs. slice_index xs j) (none_put w.0 w.1 locals h) ∙ kept j named
  one_old p (Some k) w is h locals q behind kept j named =
      ap (λ (to : Place). slice_index (put_in to w.1 locals) j) h.goes
      ∙ get_or-set_other locals k j (kept_part (width_of h.local.ctype) w.1) 0
      (λ same. let no : true ≡ false = sym named ∙ ap (names_local (mention q.right)) same ∙ behind.right k is in absurd cc)
      ∙ kept j named

  pub facts_after : (ps : List Placed) (ws : List Write) → AreWritten s store v at ps ws → AreApart ps → (locals : List ℕ) (now : State) → now.reached ≡ true
      → length locals ≡ length s.variables → All (λ q. IsOld old locals q.right) ps → AreTrue s.frame locals now.facts
      → AreTrue s.frame (locals_after ws locals) (after s.frame at.facts ps now).facts
  unfolding AreWritten
  facts_after [] [] h apart locals now reached long kept all = all
  facts_after [] (w ∷ ws) h apart locals now reached long kept all = absurd h
  facts_after (p ∷ ps) [] h apart locals now reached long kept all = absurd h
  facts_after (p ∷ ps) (w ∷ ws) h apart locals now reached long kept all =
      let later : All (λ q. IsOld old (put_in w.0 w.1 locals) q.right) ps =
      All-weaker (λ q. IsAfter p q × IsOld old locals q.right) (λ q. IsOld old (put_in w.0 w.1 locals) q.right) (λ q g. one_old p (local_of p.target) w refl h.0 locals q g.0 g.1) ps
      (both_hold (IsAfter p) (λ q. IsOld old locals q.right) ps apart.0 (All-tail (λ q. IsOld old locals q.right) p ps kept)) in
      facts_after ps ws h.1 apart.1 (put_in w.0 w.1 locals) (assigned_local s.frame (received s.frame at.facts p) now (local_of p.target))
      (one_wide s.frame at.facts 0 (received s.frame at.facts p) now reached (local_of p.target)).reached (length_put w.0 w.1 locals ∙ long) later
      (one_facts p (local_of p.target) w h.0 locals now reached long (All-head (λ q. IsOld old locals q.right) p ps kept) all)

-- ---- the point

pub after_reached : (s : Setting) (facts : Known) (ps : List Placed) (at : State) → at.reached ≡ true → (after s.frame facts ps at).reached ≡ true
after_reached s facts [] at h = h
after_reached s facts (p ∷ ps) at h =
    after_reached s facts ps (assigned_local s.frame (received s.frame facts p) at (local_of p.target)) (one_wide s.frame facts 0 (received s.frame facts p) at h (local_of p.target)).reached
