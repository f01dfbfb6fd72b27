-- The point after a declaration holds.
use Rattle.std.proofs.Common.{◌≡◌, refl, sym, ap, subst, ◌∙◌, ℕ, Bool, true, false, List, [], ◌∷◌, length, arith}
use Rattle.std.specs.Prelude.{◌<◌, ◌^◌, ◌++◌, ◌||◌, not, pos, slice_index, slice_set, Some, Ok, IfSome}
use Rattle.std.specs.List.{All}
use Rattle.std.proofs.lemmas.List.{length-set, get_or-set_same, get_or-set_other}
use Rattle.ckc_base.specs.declared.places.Pos.{Pos}
use Rattle.ckc_base.specs.Memory.{kept_part}
use Rattle.ckc_base.specs.Outcomes.{Outcome, bind, unless}
use Rattle.ckc_syntax.specs.declared.tree.Name.{Name}
use Rattle.ckc_syntax.specs.declared.tree.Name.TheVariants as name
use Rattle.ckc_syntax.specs.declared.tree.Init.TheVariants as init
use Rattle.ckc_types.specs.declared.types.CType.{CType}
use Rattle.ckc_typed.specs.Trees.{NotedDecl, NotedExpr, NotedInit}
use Rattle.ckc_typed.specs.Types.{is_integer, type_written}
use Rattle.ckc_blame_sound.specs.ckc_bounds_points.specs.declared.frame.Local.{Local}
use Rattle.ckc_blame_sound.specs.ckc_bounds_points.specs.Codes.{not_contained}
use Rattle.ckc_blame_sound.specs.ckc_bounds_points.specs.Flow.{State, in_bounds, assigned}
use Rattle.ckc_blame_sound.specs.ckc_bounds_views.specs.Parts.{fresh_behind}
use Rattle.ckc_blame_sound.specs.ckc_bounds_views.specs.Views.{view}
use Rattle.ckc_blame_sound.specs.ckc_bounds_stores.specs.Stores.{initialised}
use Rattle.ckc_blame_sound.specs.ckc_bounds_statements.specs.Paths.{Here, expr_judged, value_judged, values_judged, init_judged, local_in, starts_within, value_form, start_form, started, declared_here, bounds_judged, decl_judged}
use Rattle.ckc_source.specs.declared.expr.Integer.{Integer}
use Rattle.ckc_source.specs.declared.expr.Integer.TheVariants.{Int, Unsigned, Char}
use Rattle.ckc_source.specs.Eval.{Store}
use Rattle.ckc_source.specs.Words.{exact}
use Rattle.ckc_build_values.specs.Kinds.{width_of, integer_of}
use Rattle.ckc_blame_sound.specs.Settings.{Setting}
use Rattle.ckc_blame_sound.specs.Values.{value, value_in, number_of, AreTrue, HoldWords}
use Rattle.ckc_blame_sound.specs.Points.{IsReadable, AreBounded, HoldsAt}
use Rattle.ckc_blame_sound.specs.ckc_bounds_ranges.specs.Rows.{range_by}
use Rattle.ckc_blame_sound.specs.Sound.{IsPlaced}
use Rattle.ckc_blame_sound.proofs.Flow.{facts_assigned_hold, integer_value}
use Rattle.ckc_blame_sound.proofs.Statements.{made_of, pair_same}
use Rattle.ckc_blame_sound.specs.Valuations.{Valuation, AreFacts, IsValuationOf}
use Rattle.ckc_blame_sound.specs.Ends.{HaveEnds}
use Rattle.ckc_blame_sound.specs.GivenValues.{memory_of, IsFrom, IsBegun, OthersStay, StayTrue}
use Rattle.ckc_blame_sound.proofs.Declared.{own_readable, bounded_after, widened_after}
use Rattle.ckc_blame_sound.proofs.Faults.{one_wide}
use Rattle.ckc_blame_given.specs.Written.{IsStart, IsDeclared}
use Rattle.ckc_blame_given.proofs.Facts.{word_put, form_kept}
use Rattle.ckc_blame_given.proofs.Given.{zero_kept, kept_word, from_kept}

-- ---- what is judged

pub ok_is : {A : Type 0} (a b : A) → ◌≡◌ {A = Outcome A} (Ok a) (Ok b) → a ≡ b
ok_is a b e = cc

-- what is Ok has passed its test
pub passed : {A : Type 0} (b : Bool) (code : ℕ) (at : Pos) (o : Outcome A) (a : A) → unless (not b) code at o ≡ Ok a → (b ≡ true) × (o ≡ Ok a)
passed true code at o a e = (refl, e)
passed false code at o a e = absurd (cc)

-- Two places of a walk are at one point.
record IsSame (here there : Here) : Type 0 where
  pub at : there.at ≡ here.at
  pub seen : there.seen ≡ here.seen
  pub counting : there.counting ≡ here.counting

module _ (s : Setting) (here : Here) where
  value_same : (e f : NotedExpr) (there : Here) → value_judged s.frame e here ≡ Ok (f, there) → IsSame here there
  unfolding value_judged
  value_same e f there h =
      let m = made_of (expr_judged s.frame e here) (λ g. Ok (g, record here { next = fresh_behind (view s.frame e) here.next here.at })) (f, there) h in
      let p = pair_same m.0 f (record here { next = fresh_behind (view s.frame e) here.next here.at }) there m.2 in
      subst (IsSame here) p.1 (record { at = refl; seen = refl; counting = refl })

  init_same : (i first : NotedInit) (there : Here) → ((es : List NotedExpr) → first ≡ init.Many es → ⊥) → init_judged s.frame i here ≡ Ok (first, there) → IsSame here there
  init_same init.Nothing first there alone h =
      let p = pair_same {A = NotedInit} init.Nothing first here there h in
      subst (IsSame here) p.1 (record { at = refl; seen = refl; counting = refl })
  init_same (init.One e) first there alone h =
      let m = made_of (value_judged s.frame e here) (λ p. Ok (init.One p.0, p.1)) (first, there) h in
      let p = pair_same {A = NotedInit} (init.One m.0.0) first m.0.1 there m.2 in
      subst (IsSame here) p.1 (value_same e m.0.0 m.0.1 m.1)
  init_same (init.Many es) first there alone h =
      let m = made_of (values_judged s.frame es here) (λ p. Ok (init.Many p.0, p.1)) (first, there) h in
      let p = pair_same {A = NotedInit} (init.Many m.0.0) first m.0.1 there m.2 in
      absurd (alone m.0.0 (sym p.0))

  -- what a declaration that is judged leads to
  record IsJudgedSo (d e : NotedDecl) (there : Here) : Type 0 where
    pub behind : Here
    pub same : IsSame here behind
    pub at : there.at ≡ started s.frame d.name (type_written d.ctype) e.init here.at
    pub seen : there.seen ≡ here.seen ++ local_in d.name
    pub within : starts_within s.frame d.name e.init here.next behind ≡ true

  judged_so : (d e : NotedDecl) (there : Here) → ((es : List NotedExpr) → e.init ≡ init.Many es → ⊥) → decl_judged s.frame d here ≡ Ok (e, there) → IsJudgedSo d e there
  judged_so d e there alone h =
      let n = made_of (bounds_judged s.frame d here) (λ b. bind (init_judged s.frame d.init here) (λ p.
      unless (not (starts_within s.frame d.name p.0 here.next p.1)) not_contained d.pos (Ok (record d { init = p.0 }, declared_here s.frame d p.0 p.1)))) (e, there) h in
      let i = made_of (init_judged s.frame d.init here) (λ p.
      unless (not (starts_within s.frame d.name p.0 here.next p.1)) not_contained d.pos (Ok (record d { init = p.0 }, declared_here s.frame d p.0 p.1))) (e, there) n.2 in
      let j = passed (starts_within s.frame d.name i.0.0 here.next i.0.1) not_contained d.pos (Ok (record d { init = i.0.0 }, declared_here s.frame d i.0.0 i.0.1)) (e, there) i.2 in
      let made = pair_same {A = NotedDecl} (record d { init = i.0.0 }) e (declared_here s.frame d i.0.0 i.0.1) there j.1 in
      let first : i.0.0 ≡ e.init = ap (λ (x : NotedDecl). x.init) made.0 in
      let same = init_same d.init i.0.0 i.0.1 (λ es many. alone es (sym first ∙ many)) i.1 in
      record {
        behind = i.0.1;
        same = same;
        at = ap (λ (x : Here). x.at) (sym made.1) ∙ ap (λ (x : NotedInit). started s.frame d.name (type_written d.ctype) x i.0.1.at) first
            ∙ ap (started s.frame d.name (type_written d.ctype) e.init) same.at;
        seen = ap (λ (x : Here). x.seen) (sym made.1) ∙ ap (λ xs. xs ++ local_in d.name) same.seen;
        within = ap (λ (x : NotedInit). starts_within s.frame d.name x here.next i.0.1) (sym first) ∙ j.0;
      }

-- ---- the word that a local begins with

zero_exact : (i : Integer) → exact i 0 ≡ pos 0
zero_exact Int = refl
zero_exact Unsigned = refl
zero_exact Char = refl

module _ (s : Setting) (old between now : Store) (v : Valuation) (entry : List ℕ) (here there : Here) (d e : NotedDecl) (k n : ℕ) (l : Local) (ends : HaveEnds s) (holds : HoldsAt s old entry here)
    (are : IsValuationOf s old.locals v) (known : AreFacts v here.at.facts) (placed : All (IsPlaced s.text) now.blocks) (counting : here.counting ≡ false)
    (judged : decl_judged s.frame d here ≡ Ok (e, there)) (declared : IsDeclared s here d k l) (start : IsStart s between v here.at l.ctype e.init here.next n)
    (locals : now.locals ≡ slice_set old.locals k (kept_part (width_of l.ctype) n)) (stay : StayTrue old now) (write : StayTrue between now) where
  no_list : (es : List NotedExpr) → e.init ≡ init.Many es → ⊥
  no_list es is = subst (λ i. IsStart s between v here.at l.ctype i here.next n) is start

  so : IsJudgedSo s here d e there
  so = judged_so s here d e there no_list judged

  word : n < 2 ^ 32
  word = by e.init start
    where
      by : (i : NotedInit) → IsStart s between v here.at l.ctype i here.next n → n < 2 ^ 32
      by init.Nothing h = omega (arith, h)
      by (init.One f) h = h.word
      by (init.Many fs) h = absurd h

  within : k < length old.locals
  within = subst (λ m. k < m) (sym holds.counted) declared.below

  -- what the local has then
  has : slice_index now.locals k ≡ kept_part (width_of l.ctype) n
  has = ap (λ xs. slice_index xs k) locals ∙ get_or-set_same old.locals k (kept_part (width_of l.ctype) n) 0 within

  others : OthersStay old.locals now.locals k
  others j differs = ap (λ xs. slice_index xs j) locals ∙ get_or-set_other old.locals k j (kept_part (width_of l.ctype) n) 0 differs

  begun : IsBegun s now v here.at k l e.init here.next (slice_index now.locals k)
  begun = by e.init start (ap (λ (m : Name). starts_within s.frame m e.init here.next so.behind) (sym declared.name_is) ∙ so.within)
    where
      by : (i : NotedInit) → IsStart s between v here.at l.ctype i here.next n → starts_within s.frame (name.Local k) i here.next so.behind ≡ true
          → IsBegun s now v here.at k l i here.next (slice_index now.locals k)
      by init.Nothing h good = has ∙ ap (kept_part (width_of l.ctype)) h ∙ zero_kept l.ctype
      by (init.One f) h good = (
        subst (IsFrom s.frame (memory_of s now l.ctype) v l.ctype f (record { value = 0; fresh = here.next }) here.at) (sym has)
            (from_kept s between now write v here.at l.ctype f (record { value = 0; fresh = here.next }) n h),
        ap (λ b. b || initialised s.frame k f here.next here.at) (sym (so.same.counting ∙ counting))
            ∙ ap (λ (x : State). so.behind.counting || initialised s.frame k f here.next x) (sym so.same.at) ∙ good,
      )
      by (init.Many fs) h good = absurd h

  formed : is_integer l.ctype ≡ true
      → IfSome (start_form s.frame l.ctype e.init here.at.facts) (λ f. value_in (Some l) (kept_part (width_of l.ctype) n) ≡ number_of (value s.frame old.locals) f)
  unfolding value_form
  formed i = by e.init start
    where
      by : (x : NotedInit) → IsStart s between v here.at l.ctype x here.next n
          → IfSome (start_form s.frame l.ctype x here.at.facts) (λ f. value_in (Some l) (kept_part (width_of l.ctype) n) ≡ number_of (value s.frame old.locals) f)
      by init.Nothing h =
          integer_value l (kept_part (width_of l.ctype) n) i ∙ ap (λ m. exact (integer_of l.ctype) (kept_part (width_of l.ctype) m)) h
          ∙ ap (exact (integer_of l.ctype)) (zero_kept l.ctype) ∙ zero_exact (integer_of l.ctype)
      by (init.One f) h = form_kept s between old.locals v are here.at known l l.ctype f (record { value = 0; fresh = here.next }) n refl h i old.locals (λ j named. refl)
      by (init.Many fs) h = absurd h

  abbrev next : State
  next = assigned s.frame k (start_form s.frame l.ctype e.init here.at.facts) here.at

  at_is : there.at ≡ assigned s.frame k (start_form s.frame l.ctype e.init here.at.facts) here.at
  at_is =
      so.at ∙ ap (λ (m : Name). started s.frame m (type_written d.ctype) e.init here.at) declared.name_is
      ∙ ap (λ (t : CType). assigned s.frame k (start_form s.frame t e.init here.at.facts) here.at) (sym declared.same)

  seen_is : there.seen ≡ here.seen ++ k ∷ []
  seen_is = so.seen ∙ ap (λ (m : Name). here.seen ++ local_in m) declared.name_is

  own : IsReadable s now k l.ctype (range_by (Some l) false)
  own = own_readable s old now v here.at ends are known placed stay k l declared.there others e.init here.next begun

  pub declared_after : HoldsAt s now entry there
  declared_after = record {
    reached =
        ap (λ (x : State). x.reached) at_is ∙ (one_wide s.frame here.at.facts 0 (start_form s.frame l.ctype e.init here.at.facts) here.at holds.reached (Some k)).reached;
    counted = ap length locals ∙ length-set old.locals k (kept_part (width_of l.ctype) n) ∙ holds.counted;
    words = subst (HoldWords s.frame) (sym locals) (word_put s old.locals k (kept_part (width_of l.ctype) n) l declared.there within (kept_word l.ctype n word) holds.words);
    facts =
        subst (λ (x : State). AreTrue s.frame now.locals x.facts) (sym at_is)
        (subst (λ xs. AreTrue s.frame xs next.facts) (sym locals)
        (facts_assigned_hold s.frame old.locals k (kept_part (width_of l.ctype) n) l (start_form s.frame l.ctype e.init here.at.facts) here.at holds.reached declared.there within
        (kept_word l.ctype n word) formed holds.facts));
    bounded =
        subst (AreBounded s now []) (sym seen_is)
        (bounded_after s old now v here.at ends are known placed stay k l declared.there others here.seen holds.reached (start_form s.frame l.ctype e.init here.at.facts) declared.unnamed
        holds.bounded holds.widened own);
    widened =
        subst (λ xs. AreBounded s now there.at.widened xs) (sym seen_is)
        (subst (λ (x : State). AreBounded s now x.widened (here.seen ++ k ∷ [])) (sym at_is)
        (widened_after s old now v here.at ends are known placed stay k l declared.there others here.seen holds.reached (start_form s.frame l.ctype e.init here.at.facts) declared.unnamed
        holds.bounded holds.widened own));
    entered = holds.entered;
    kept = λ j named. others j (λ same. (let no : true ≡ false = sym named ∙ ap (λ i. in_bounds i s.head.bounds) same ∙ declared.spared in absurd cc)) ∙ holds.kept j named;
  }
