-- What judged assignments and bundles become, and where they lead.
use Rattle.std.proofs.Common.{◌≡◌, refl, sym, ap, subst, ◌∙◌, ℕ, Bool, true, false, List, [], ◌∷◌, map, rules}
use Rattle.std.specs.Prelude.{not, ◌||◌, if◌then◌else◌, Ok}
use Rattle.ckc_base.specs.declared.places.Pos.{Pos}
use Rattle.ckc_base.specs.Outcomes.{bind, unless, in_turn}
use Rattle.ckc_syntax.specs.declared.tree.Name.{Name}
use Rattle.ckc_syntax.specs.declared.tree.Act.{Act-F, out-Act, fold-roll-Act, the_lemmas}
use Rattle.ckc_syntax.specs.declared.tree.Act.TheVariants as act
use Rattle.ckc_syntax.specs.declared.tree.Stmt.{fold-roll-Stmt}
use Rattle.ckc_typed.specs.declared.typed.Note.{Note}
use Rattle.ckc_typed.specs.Trees.{NotedExpr, NotedStmt}
use Rattle.ckc_blame_sound.specs.ckc_bounds_points.specs.Codes.{bad_bundle}
use Rattle.ckc_blame_sound.specs.ckc_bounds_points.specs.Flow.{State}
use Rattle.ckc_blame_sound.specs.ckc_bounds_ranges.specs.Bundles.{is_bundle}
use Rattle.ckc_blame_sound.specs.ckc_bounds_views.specs.Parts.{fresh_behind}
use Rattle.ckc_blame_sound.specs.ckc_bounds_views.specs.Views.{view}
use Rattle.ckc_blame_sound.specs.ckc_bounds_stores.specs.Stores.{stores_of, stored, passed as passed_stores}
use Rattle.ckc_blame_sound.specs.ckc_bounds_statements.specs.Paths.{Here, Path, ActPath, expr_judged, value_judged, sides_judged, stated, stores_judged, behind_stores, assign_judged, act_judged, act_part, parts_judged, is_good, bundle_judged, act_path, stmt_path, path_of_act, path}
use Rattle.ckc_blame_sound.specs.Settings.{Setting}
use Rattle.ckc_blame_sound.proofs.Statements.{made_of, pair_same}
use Rattle.ckc_blame_sound.proofs.Stepping.{ActLayer, viewed, act_back, judged_is, out_bundle}
use Rattle.ckc_blame_given.specs.Written.{AreOne}
use Rattle.ckc_blame_given.specs.Stored.{IsAssignJudged, next_fresh, AreAssignsJudged, AreStored}
use Rattle.ckc_blame_given.proofs.Declared.{ok_is, passed}

-- where a walk stands with another next fresh variable
abbrev past : Here → ℕ → Here
past here n = record here { next = n }

-- an outcome that is not counted alone
counted_not : {A : Type 0} (b : Bool) → b ≡ false → (x y : A) → (if b then x else y) ≡ y
counted_not true e x y = absurd (cc)
counted_not false e x y = refl

out_assigned : (e f : NotedExpr) → out-Act Name Note (act.Assign e f) ≡ Act-F.Assign e f
out_assigned e f = search (rules, the_lemmas)

module _ (s : Setting) where
  value_made : (here : Here) → here.counting ≡ false → (e a : NotedExpr) (there : Here) → value_judged s.frame e here ≡ Ok (a, there)
      → ((view s.frame e).judged here.next here.at ≡ Ok a) × (past here (fresh_behind (view s.frame e) here.next here.at) ≡ there)
  unfolding value_judged
  value_made here counting e a there h =
      let m = made_of (expr_judged s.frame e here) (λ g. Ok (g, past here (fresh_behind (view s.frame e) here.next here.at))) (a, there) h in
      let p = pair_same m.0 a (past here (fresh_behind (view s.frame e) here.next here.at)) there m.2 in
      (sym (counted_not here.counting counting (Ok e) ((view s.frame e).judged here.next here.at)) ∙ m.1 ∙ ap (λ (x : NotedExpr). Ok x) p.0, p.1)

  -- An assignment that is judged leaves the point, with the next fresh variable after both sides.
  record IsMade (here : Here) (before after : NotedStmt) (there : Here) : Type 0 where
    pub judged : IsAssignJudged s here.at here.next before after
    pub goes : past here (next_fresh s here.at here.next before after judged) ≡ there

  sides_made : (here : Here) → here.counting ≡ false → (before : NotedStmt) (e f : NotedExpr) → out-Act Name Note before.body ≡ Act-F.Assign e f → (pos : Pos) (note : Note) (after : NotedStmt) (there : Here)
      → sides_judged s.frame pos note e f here ≡ Ok (after, there) → IsMade here before after there
  sides_made here counting before e f is pos note after there h =
      let p = made_of (value_judged s.frame e here) (λ p. bind (value_judged s.frame f p.1) (λ q. Ok (stated pos note (act.Assign p.0 q.0), q.1))) (after, there) h in
      let q = made_of (value_judged s.frame f p.0.1) (λ q. Ok (stated pos note (act.Assign p.0.0 q.0), q.1)) (after, there) p.2 in
      let last = pair_same (stated pos note (act.Assign p.0.0 q.0.0)) after q.0.1 there q.2 in
      let left = value_made here counting e p.0.0 p.0.1 p.1 in
      let middle = past here (fresh_behind (view s.frame e) here.next here.at) in
      let right = value_made middle counting f q.0.0 q.0.1 (ap (value_judged s.frame f) left.1 ∙ q.1) in
      record {
        judged = record {
          target = e;
          right = f;
          place = p.0.0;
          value = q.0.0;
          is = is;
          becomes = ap (λ (x : NotedStmt). out-Act Name Note x.body) (sym last.0) ∙ out_assigned p.0.0 q.0.0;
          target_judged = left.0;
          right_judged = right.0;
        };
        goes = right.1 ∙ last.1;
      }

  -- the stores are judged, and not only counted
  stores_lead : (ss : List NotedStmt) (first : ℕ) (here there : Here) → here.counting ≡ false → behind_stores s.frame s.head ss first here ≡ Ok there
      → (stored s.frame s.head.bounds here.seen (stores_of ss) first here.at ≡ Ok there.at) × (there.seen ≡ here.seen)
  stores_lead ss first here there counting h =
      let m = made_of (stores_judged s.frame s.head ss first here) (λ at. Ok (record here { at = at })) there h in
      let same = ok_is (record here { at = m.0 }) there m.2 in (
        sym (counted_not here.counting counting (Ok (passed_stores s.frame (stores_of ss) first here.at)) (stored s.frame s.head.bounds here.seen (stores_of ss) first here.at)) ∙ m.1
            ∙ ap (λ (x : Here). Ok x.at) same,
        ap (λ (x : Here). x.seen) (sym same),
      )

  -- what the walk stands at after the sides leaves the point
  leads_on : (here middle there last : Here) (ss : List NotedStmt) → middle.at ≡ here.at → middle.seen ≡ here.seen → middle.counting ≡ false → last ≡ there
      → behind_stores s.frame s.head ss here.next middle ≡ Ok last → (stored s.frame s.head.bounds here.seen (stores_of ss) here.next here.at ≡ Ok there.at) × (there.seen ≡ here.seen)
  leads_on here middle there last ss at seen counting same h =
      let leads = stores_lead ss here.next middle last counting h in (
        ap (λ (x : State). stored s.frame s.head.bounds here.seen (stores_of ss) here.next x) (sym at)
            ∙ ap (λ xs. stored s.frame s.head.bounds xs (stores_of ss) here.next middle.at) (sym seen) ∙ leads.0 ∙ ap (λ (x : Here). Ok x.at) same,
        ap (λ (x : Here). x.seen) (sym same) ∙ leads.1 ∙ seen,
      )

  -- the same of one assignment
  one_leads : (here middle there last : Here) (st after : NotedStmt) (n : ℕ) → past here n ≡ middle → here.counting ≡ false → st ≡ after → last ≡ there
      → behind_stores s.frame s.head (st ∷ []) here.next middle ≡ Ok last → AreStored s here (after ∷ []) there
  one_leads here middle there last st after n goes counting is same h =
      let leads = leads_on here middle there last (after ∷ []) (ap (λ (x : Here). x.at) (sym goes)) (ap (λ (x : Here). x.seen) (sym goes)) (ap (λ (x : Here). x.counting) (sym goes) ∙ counting) same
      (subst (λ (x : NotedStmt). behind_stores s.frame s.head (x ∷ []) here.next middle ≡ Ok last) is h) in
      record { one = tt; leads = leads.0; seen = leads.1 }

  pub assignment_stored : (here there : Here) (before after : NotedStmt) (e f : NotedExpr) → here.counting ≡ false → out-Act Name Note before.body ≡ Act-F.Assign e f
      → (path before).judged s.frame s.head here ≡ Ok (after, there) → AreAssignsJudged s here.at here.next (before ∷ []) (after ∷ []) × AreStored s here (after ∷ []) there
  unfolding AreAssignsJudged
  assignment_stored here there before after e f counting is h =
      let judged : assign_judged s.frame s.head before.pos before.note e f here ≡ Ok (after, there) =
      ap (λ (x : ActLayer). act_judged (viewed x) s.frame s.head before.pos before.note here) (sym is) ∙ sym (judged_is before s.frame s.head here) ∙ h in
      let m = made_of (sides_judged s.frame before.pos before.note e f here) (λ p. bind (behind_stores s.frame s.head (p.0 ∷ []) here.next p.1) (λ h. Ok (p.0, h))) (after, there) judged in
      let n = made_of (behind_stores s.frame s.head (m.0.0 ∷ []) here.next m.0.1) (λ h. Ok (m.0.0, h)) (after, there) m.2 in
      let last = pair_same m.0.0 after n.0 there n.2 in
      let made = sides_made here counting before e f is before.pos before.note after m.0.1 (m.1 ∙ ap (λ (x : NotedStmt). Ok (x, m.0.1)) last.0) in
      ((made.judged, tt), one_leads here m.0.1 there n.0 m.0.0 after (next_fresh s here.at here.next before after made.judged) made.goes counting last.0 last.1 n.1)

  -- ---- bundles

  part_is : (st : NotedStmt) (bundle : Pos) (here : Here) → (path st).part s.frame bundle here ≡ act_part (viewed (out-Act Name Note st.body)) s.frame bundle st.pos st.note here
  part_is st bundle here =
      ap (λ (p : Path). p.part s.frame bundle here) (fold-roll-Stmt Name Note ActPath Path act_path stmt_path (record { body = st.body; pos = st.pos; note = st.note }))
      ∙ ap (λ (a : ActPath). a.part s.frame bundle st.pos st.note here) (ap path_of_act (sym (act_back st.body)) ∙ fold-roll-Act Name Note ActPath Path act_path stmt_path (out-Act Name Note st.body))

  one_part : (bundle : Pos) (here : Here) → here.counting ≡ false → (before after : NotedStmt) (there : Here) → (path before).part s.frame bundle here ≡ Ok (after, there) → IsMade here before after there
  one_part bundle here counting before after there h = by (out-Act Name Note before.body) refl (sym (part_is before bundle here) ∙ h)
    where
      by : (x : ActLayer) → out-Act Name Note before.body ≡ x → act_part (viewed x) s.frame bundle before.pos before.note here ≡ Ok (after, there) → IsMade here before after there
      by (Act-F.Assign e f) is h = sides_made here counting before e f is before.pos before.note after there h
      by x is h = absurd (cc)

  -- The parts of a bundle that are judged leave the point.
  record AreMade (here : Here) (befores afters : List NotedStmt) (there : Here) : Type 0 where
    pub judged : AreAssignsJudged s here.at here.next befores afters
    pub at : there.at ≡ here.at
    pub seen : there.seen ≡ here.seen
    pub counting : there.counting ≡ here.counting

  all_parts : (bundle : Pos) (here : Here) → here.counting ≡ false → (befores afters : List NotedStmt) (there : Here)
      → in_turn (map (λ (p : Path). p.part s.frame bundle) (map path befores)) here ≡ Ok (afters, there) → AreMade here befores afters there
  unfolding AreAssignsJudged
  all_parts bundle here counting [] afters there h =
      let p = pair_same {A = List NotedStmt} [] afters here there h in
      subst (λ x. AreMade here [] x there) p.0 (subst (AreMade here [] []) p.1 (record { judged = tt; at = refl; seen = refl; counting = refl }))
  all_parts bundle here counting (before ∷ befores) afters there h =
      let fs = map (λ (p : Path). p.part s.frame bundle) (map path befores) in
      let m = made_of ((path before).part s.frame bundle here) (λ p. bind (in_turn fs p.1) (λ q. Ok (p.0 ∷ q.0, q.1))) (afters, there) h in
      let n = made_of (in_turn fs m.0.1) (λ q. Ok (m.0.0 ∷ q.0, q.1)) (afters, there) m.2 in
      let last = pair_same {A = List NotedStmt} (m.0.0 ∷ n.0.0) afters n.0.1 there n.2 in
      let one = one_part bundle here counting before m.0.0 m.0.1 m.1 in
      let next = past here (next_fresh s here.at here.next before m.0.0 one.judged) in
      let rest = all_parts bundle next counting befores n.0.0 n.0.1 (ap (in_turn fs) one.goes ∙ n.1) in
      subst (λ x. AreMade here (before ∷ befores) x there) last.0
      (subst (AreMade here (before ∷ befores) (m.0.0 ∷ n.0.0)) last.1
      (record { judged = (one.judged, rest.judged); at = rest.at; seen = rest.seen; counting = rest.counting }))

  one_of : (ss : List NotedStmt) → is_bundle ss ≡ true → AreOne ss
  one_of [] h = h
  one_of (st ∷ []) h = tt
  one_of (st ∷ su ∷ ss) h = h

  or_false : (a b : Bool) → a ≡ false → (a || b) ≡ true → b ≡ true
  or_false true b e h = absurd (cc)
  or_false false b e h = h

  pub bundle_stored : (here there : Here) (before after : NotedStmt) (ss : List NotedStmt) → here.counting ≡ false → out-Act Name Note before.body ≡ Act-F.Bundle ss
      → (path before).judged s.frame s.head here ≡ Ok (after, there)
      → (ts : List NotedStmt) × (out-Act Name Note after.body ≡ Act-F.Bundle ts) × AreAssignsJudged s here.at here.next ss ts × AreStored s here ts there
  unfolding bundle_judged parts_judged
  bundle_stored here there before after ss counting is h =
      let judged : bundle_judged s.frame s.head before.pos before.note (map path ss) here ≡ Ok (after, there) =
      ap (λ (x : ActLayer). act_judged (viewed x) s.frame s.head before.pos before.note here) (sym is) ∙ sym (judged_is before s.frame s.head here) ∙ h in
      let m = made_of (parts_judged s.frame before.pos (map path ss) here) (λ p. unless (not (is_good p.1 p.0)) bad_bundle before.pos
      (bind (behind_stores s.frame s.head p.0 here.next p.1) (λ h. Ok (stated before.pos before.note (act.Bundle p.0), h)))) (after, there) judged in
      let q = passed (is_good m.0.1 m.0.0) bad_bundle before.pos
      (bind (behind_stores s.frame s.head m.0.0 here.next m.0.1) (λ h. Ok (stated before.pos before.note (act.Bundle m.0.0), h))) (after, there) m.2 in
      let n = made_of (behind_stores s.frame s.head m.0.0 here.next m.0.1) (λ h. Ok (stated before.pos before.note (act.Bundle m.0.0), h)) (after, there) q.1 in
      let last = pair_same (stated before.pos before.note (act.Bundle m.0.0)) after n.0 there n.2 in
      let parts = all_parts before.pos here counting ss m.0.0 m.0.1 m.1 in
      let leads = leads_on here m.0.1 there n.0 m.0.0 parts.at parts.seen (parts.counting ∙ counting) last.1 n.1 in (
        m.0.0,
        ap (λ (x : NotedStmt). out-Act Name Note x.body) (sym last.0) ∙ out_bundle m.0.0,
        parts.judged,
        record { one = one_of m.0.0 (or_false m.0.1.counting (is_bundle m.0.0) (parts.counting ∙ counting) q.0); leads = leads.0; seen = leads.1 },
      )
