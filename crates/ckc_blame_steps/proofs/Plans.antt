-- What assignments are going to write is planned soundly.
use Rattle.std.proofs.Common.{◌≡◌, refl, sym, ap, subst, ◌∙◌, ℕ, true, false, List, [], ◌∷◌, arith}
use Rattle.std.specs.Prelude.{◌≢◌, ◌+◌, ◌<◌, ◌≤◌, ◌^◌, length, slice_get, is_some, Option, None, Some, Result, Ok, Err}
use Rattle.std.specs.List.{AllByRecursion}
use Rattle.ckc_base.specs.declared.arithmetic.Mode.{Mode}
use Rattle.ckc_base.specs.declared.arithmetic.Mode.TheVariants.{Checked}
use Rattle.ckc_base.specs.declared.places.Pos.{Pos}
use Rattle.ckc_types.specs.declared.types.CType.{CType}
use Rattle.ckc_syntax.specs.declared.tree.Name.{Name}
use Rattle.ckc_syntax.specs.declared.tree.Act.{Act-F, out-Act}
use Rattle.ckc_syntax.specs.declared.tree.Node.{Node-F, out-Node}
use Rattle.ckc_typed.specs.declared.environment.Globals.{Globals}
use Rattle.ckc_typed.specs.declared.typed.Note.{Note}
use Rattle.ckc_typed.specs.Conversions.{converts, is_allocation_form, is_allocation}
use Rattle.ckc_typed.specs.Statics.{strings_of_expr}
use Rattle.ckc_typed.specs.Trees.{NotedAct, NotedExpr, NotedLayer, NotedStmt}
use Rattle.ckc_typed.specs.Types.{is_scalar}
use Rattle.ckc_blame_sound.specs.ckc_bounds_views.specs.Parts.{View, capped, fresh_behind}
use Rattle.ckc_blame_sound.specs.ckc_bounds_views.specs.Views.{view}
use Rattle.ckc_blame_sound.specs.ckc_bounds_statements.specs.Paths.{Here}
use Rattle.ckc_blame_sound.specs.ckc_bounds_stores.specs.declared.values.Numbered.{Numbered}
use Rattle.ckc_blame_sound.specs.ckc_bounds_stores.specs.Targets.{local_of}
use Rattle.ckc_blame_sound.specs.ckc_bounds_stores.specs.Stores as stores
use Rattle.ckc_blame_sound.specs.ckc_bounds_stores.specs.Stores.{Placed, with_store, stores_of, numbered}
use Rattle.ckc_source.specs.declared.outcome.Halt.{Halt}
use Rattle.ckc_source.specs.declared.outcome.Halt.TheVariants as halt
use Rattle.ckc_source.specs.declared.outcome.Place.{Place}
use Rattle.ckc_source.specs.declared.outcome.Place.TheVariants as place
use Rattle.ckc_source.specs.declared.program.Shape.{Shape}
use Rattle.ckc_source.specs.Code.{Target, Right}
use Rattle.ckc_source.specs.Eval.{given}
use Rattle.ckc_source.specs.Runs.{is_true}
use Rattle.ckc_source.specs.States.{State}
use Rattle.ckc_source.specs.Steps.{store_of, aimed, Drawn, drawn, allowed, Planned, planned, and_then_written}
use Rattle.ckc_build_elaborate.specs.Steps.{target_of, right_form, right_of, is_terminated}
use Rattle.ckc_blame_sound.specs.Bodies.{AreFresh}
use Rattle.ckc_blame_sound.specs.Settings.{Setting, AreStrings}
use Rattle.ckc_blame_sound.specs.Cells.{IsCell}
use Rattle.ckc_blame_sound.specs.Writes.{IsCellWrite}
use Rattle.ckc_blame_sound.proofs.Fresh.{get_before, cell_before, true_before}
use Rattle.ckc_blame_sound.specs.Typed.{IsTyped, Agrees}
use Rattle.ckc_blame_sound.proofs.SameViews.{same_view}
use Rattle.ckc_blame_sound.specs.Valuations.{Valuation, IsValuationOf}
use Rattle.ckc_blame_sound.specs.GivenValues.{StayTrue}
use Rattle.ckc_blame_given.specs.ckc_blame_pointers.specs.Covered.{DeclareLocals}
use Rattle.ckc_blame_given.specs.ckc_blame_pointers.specs.Owed.{Owed, Comes}
use Rattle.ckc_blame_given.proofs.Comes.{comes_on}
use Rattle.ckc_blame_given.specs.Gives.{Continues}
use Rattle.ckc_blame_given.specs.Planned.{IsTarget, IsPlanned, ArePlanned}
use Rattle.ckc_blame_given.specs.ckc_blame_pointers.proofs.Strings.{strings_in_node}
use Rattle.ckc_blame_given.proofs.Layers.{strings_are}
use Rattle.ckc_blame_given.proofs.Views.{allocates_is}
use Rattle.ckc_blame_given.specs.Written.{IsReceived}
use Rattle.ckc_blame_given.specs.Stored.{IsAssignJudged, next_fresh, AreAssignsJudged}
use Rattle.ckc_blame_given.proofs.Fitting.{same_type}
use Rattle.ckc_blame_given.proofs.Given.{from_stays}
use Rattle.ckc_blame_given.specs.Targets.{KeepRunsFree, LiesIn, begin_of, GoesThere}
use Rattle.ckc_blame_given.specs.Together.{AreIn}
use Rattle.ckc_blame_given.proofs.Aims.{judged_aims}
use Rattle.ckc_blame_steps.specs.Granted.{IsCoveredValue, AreCoveredSides, AreCoveredParts, HaveRoom}
use Rattle.ckc_blame_steps.specs.Plans.{BecomesPart, BecomeParts, IsAt, HasMore, IsDrawnOn, IsDrawn, IsSoundPlan, counted_in, AllocationsDraw}
use Rattle.ckc_blame_steps.proofs.Comes.{allowed_comes, same_state, more_on, same_locals}
use Rattle.ckc_blame_steps.proofs.Drawn.{value_drawn}
use Rattle.ckc_blame_steps.proofs.StoresLie.{AreUnstuck}

abbrev ActLayer : Type 0
ActLayer = Act-F Name Note NotedAct NotedStmt

-- ---- numbers

more_fresh : (fresh n : ℕ) → fresh < 2 ^ 32 → fresh ≤ capped fresh n
more_fresh fresh n h = omega arith

small_fresh : (fresh n : ℕ) → capped fresh n < 2 ^ 32
small_fresh fresh n = omega arith

-- ---- in a state with more blocks

module _ (s : Setting) (shapes : List Shape) (b c : State) (g : HasMore b c) where
  stay : StayTrue (store_of shapes b) (store_of shapes c)
  stay to n low high e = subst (λ bs. is_true shapes bs to n low high ≡ true) (sym g.blocks) (true_before shapes b.blocks g.more to n low high e)

  target_on : (p : Placed) (o : Option ℕ) (to : Place) → IsTarget s (store_of shapes b) p o to → IsTarget s (store_of shapes c) p o to
  target_on p (Some k) to h = h
  target_on p None to h = record {
    number = h.number;
    index = h.index;
    block = h.block;
    there = ap (λ bs. slice_get bs h.number) g.blocks ∙ get_before b.blocks g.more h.number h.block h.there;
    below = h.below;
    part = h.part;
  }

  cell_on : (to : Place) (n : ℕ) → IsCellWrite s.text.layout b.blocks to n → IsCellWrite s.text.layout c.blocks to n
  cell_on place.Nowhere n h = tt
  cell_on (place.Local k width) n h = tt
  cell_on (place.Memory a width zero_alone) n h =
      (subst (λ bs. IsCell s.text.layout bs a width (is_some zero_alone)) (sym g.blocks) (cell_before s.text.layout b.blocks g.more a width (is_some zero_alone) h.0), h.1, h.2)

  goes_on : (p : Placed) (n : ℕ) (to : Place) → GoesThere s (store_of shapes b) p n to → GoesThere s (store_of shapes c) p n to
  goes_on p n to h = record {
    target = target_on p (local_of p.target) to h.target;
    written = cell_on to n h.written;
    lies = subst (λ locals. LiesIn s (begin_of s.text locals p.target) (view s.frame p.target).member to) (sym (same_locals b c g)) h.lies;
  }

-- what is known of the sides of assignments before they are judged
abbrev pub AreFit : Globals → Setting → ActLayer → Type 0
AreFit globals s (Act-F.Assign e f) = IsTyped globals s e × IsTyped globals s f × (converts e.note.ctype f ≡ true) × (is_scalar e.note.ctype ≡ true)
AreFit globals s x = ⊥

abbrev pub AllFit : Globals → Setting → List NotedStmt → Type 0
AllFit globals s ss = AllByRecursion (λ (st : NotedStmt). AreFit globals s (out-Act Name Note st.body)) ss

-- what is covered in each state where the point holds
abbrev pub StayCovered : Mode → Setting → List Shape → List ℕ → Here → List NotedStmt → Type 0
StayCovered m s shapes entry here ss = (b : State) → IsAt s shapes entry here b → AreCoveredParts m s (store_of shapes b) here.seen ss

-- what comes to something in checked code is not stuck
come_unstuck : {A : Type 0} (m : Mode) → m ≡ Checked → (P : A → Type 0) (r : Result A Halt) → Comes m P r → r ≢ Err halt.Stuck
come_unstuck m checked P (Ok a) h e = cc
come_unstuck m checked P (Err (halt.Stopped why at)) h e = cc
come_unstuck m checked P (Err halt.Stuck) h e = subst Owed checked h

-- ---- plans

module _ (m : Mode) (globals : Globals) (s : Setting) (agrees : Agrees globals s) (declares : DeclareLocals s) (free : KeepRunsFree s.text) (shapes : List Shape) (entry : List ℕ) (here : Here)
    (allocations : AllocationsDraw m globals s shapes entry here) where
  module _ (b : State) (is_at : IsAt s shapes entry here b) (t : CType) (f g : NotedExpr) (fresh literals : ℕ) (typed : IsTyped globals s f) (goes : converts t f ≡ true)
      (judged : (view s.frame f).judged fresh here.at ≡ Ok g) (little : fresh + length ((view s.frame g).fresh here.at) < 2 ^ 32) (are : AreFresh s.frame fresh) where
    plain : (x : NotedLayer) → out-Node Name Note g.node ≡ x → is_allocation_form x ≡ false → is_allocation f ≡ false
    plain x is none =
        sym (allocates_is s.frame f) ∙ ap (λ (w : View). w.allocates) (sym (same_view s.frame f g fresh here.at judged s.frame)) ∙ allocates_is s.frame g ∙ ap is_allocation_form is ∙ none

    -- a right side
    pub right_drawn : IsCoveredValue m s (store_of shapes b) here.seen t g (out-Node Name Note g.node) → AreStrings s literals (strings_of_expr g)
        → Comes m (IsDrawn s shapes entry here b t g) (drawn shapes b (right_of s.text s.variables literals (is_terminated t) g))
    right_drawn covered strings = by (out-Node Name Note g.node) refl covered (subst (AreStrings s literals) (strings_are g) strings)
      where
        by : (x : NotedLayer) → out-Node Name Note g.node ≡ x → IsCoveredValue m s (store_of shapes b) here.seen t g x → AreStrings s literals (strings_in_node x)
            → Comes m (IsDrawn s shapes entry here b t g) (drawn shapes b (right_form s.text s.variables literals (is_terminated t) g x))
        by (Node-F.Calloc w n x) is c numbered_there =
            subst (λ (y : NotedLayer). Comes m (IsDrawn s shapes entry here b t g) (drawn shapes b (right_form s.text s.variables literals (is_terminated t) g y))) is
            (allocations b is_at t f g n fresh literals (ap counted_in is) typed goes c.0 judged little are c.1 numbered_there)
        by x is c numbered_there = value_drawn s m globals agrees declares shapes entry here b is_at t f g fresh literals typed goes (plain x is refl) judged little are c strings

  abbrev IsPlan : State → List Placed → ℕ → ℕ → Valuation → Planned → Type 0
  IsPlan b ps value fresh before = IsSoundPlan s shapes entry here b ps value fresh before

  none_planned : (b : State) → IsAt s shapes entry here b → (value fresh : ℕ) (before : Valuation) → IsValuationOf s b.frame.locals before
      → IsPlan b [] value fresh before (record { writes = []; state = b })
  unfolding ArePlanned AreIn
  none_planned b is_at value fresh before values = record {
    grown = same_state b;
    at = is_at;
    after = before;
    values = values;
    continues = record { address = λ n h. refl; number = λ x h. refl };
    planned = tt;
    lies = tt;
  }

  -- one more assignment in front
  module _ (b : State) (p : Placed) (ps : List Placed) (value fresh : ℕ) (before : Valuation) (small : value < 2 ^ 32) (little : fresh < 2 ^ 32)
      (from_is : p.from ≡ record { value = value; fresh = fresh_behind (view s.frame p.target) fresh here.at })
      (w : Place) (d : Drawn) (dr : IsDrawn s shapes entry here b p.target.note.ctype p.right d)
      (on : IsDrawnOn s shapes here p.target.note.ctype p.right p.from before d) (goes : GoesThere s (store_of shapes b) p d.number w)
      (pl : Planned) (sound : IsPlan d.state ps (capped value (view s.frame p.right).values) (fresh_behind (view s.frame p.right) (fresh_behind (view s.frame p.target) fresh here.at) here.at) on.after pl) where
    all_grown : HasMore b pl.state
    all_grown = more_on b d.state pl.state dr.grown sound.grown

    behind : Continues (capped p.from.value (view s.frame p.right).values) (fresh_behind (view s.frame p.right) p.from.fresh here.at) on.after sound.after
    behind = subst (λ (n : Numbered). Continues (capped n.value (view s.frame p.right).values) (fresh_behind (view s.frame p.right) n.fresh here.at) on.after sound.after) (sym from_is) sound.continues

    is_received : IsReceived s (store_of shapes d.state) sound.after here.at p.target.note.ctype p.right p.from d.number
    is_received = on.received sound.after (subst (λ locals. IsValuationOf s locals sound.after) (same_locals d.state pl.state sound.grown) sound.values) behind

    there : GoesThere s (store_of shapes pl.state) p d.number w
    there = goes_on s shapes b pl.state all_grown p d.number w goes

    front : IsPlanned s (store_of shapes pl.state) (store_of shapes pl.state) sound.after here.at p (w, d.number)
    front = record {
      target = there.target;
      written = there.written;
      word = is_received.word;
      from = from_stays (store_of shapes d.state) (store_of shapes pl.state) (stay s shapes d.state pl.state sound.grown) s sound.after p.target.note.ctype p.right p.from here.at d.number is_received.gives;
      form = is_received.form;
    }

    begins : Continues value fresh before on.after
    begins =
        let first : Continues value (fresh_behind (view s.frame p.target) fresh here.at) before on.after =
        subst (λ (n : Numbered). Continues n.value n.fresh before on.after) from_is on.continues in
        record {
          address = first.address;
          number = λ x h. first.number x (further x h);
        }
      where
        further : (x : ℕ) → x ≤ fresh → x ≤ fresh_behind (view s.frame p.target) fresh here.at
        further x h = let m = more_fresh fresh (length ((view s.frame p.target).fresh here.at)) little in omega arith

    all_continue : Continues value fresh before sound.after
    all_continue = record {
      address = λ n h. sound.continues.address n (above n h) ∙ begins.address n h;
      number = λ x h. sound.continues.number x (further x h) ∙ begins.number x h;
    }
      where
        above : (n : ℕ) → n < value → n < capped value (view s.frame p.right).values
        above n h = let m = more_fresh value (view s.frame p.right).values small in omega arith

        further : (x : ℕ) → x ≤ fresh → x ≤ fresh_behind (view s.frame p.right) (fresh_behind (view s.frame p.target) fresh here.at) here.at
        further x h =
            let m = more_fresh fresh (length ((view s.frame p.target).fresh here.at)) little in
            let n = more_fresh (fresh_behind (view s.frame p.target) fresh here.at) (length ((view s.frame p.right).fresh here.at)) (small_fresh fresh (length ((view s.frame p.target).fresh here.at))) in
            omega arith

    pub one_more : IsPlan b (p ∷ ps) value fresh before (and_then_written w d.number pl)
    unfolding ArePlanned AreIn
    one_more = record {
      grown = all_grown;
      at = sound.at;
      after = sound.after;
      values = sound.values;
      continues = all_continue;
      planned = (front, sound.planned);
      lies = (there.lies, sound.lies);
    }

  -- ---- all of them

  abbrev numbers_of : ℕ → ℕ → List stores.Store → List Placed
  numbers_of value fresh sts = numbered s.frame here.at value fresh sts

  -- what is claimed of the assignments in front of others, by the layer of the first one
  abbrev Claim : State → ℕ → ℕ → Valuation → Pos → List NotedStmt → (Target × Right) → List (Target × Right) → ActLayer → Type 0
  Claim b value fresh before pos afters a others x =
      HaveRoom s.frame here.at value fresh (with_store x pos (stores_of afters)) → AreCoveredSides m s (store_of shapes b) here.seen x → BecomesPart s x a
      → Comes m (IsPlan b (numbers_of value fresh (with_store x pos (stores_of afters))) value fresh before) (planned shapes b (a ∷ others))

  more_free : (fresh n : ℕ) → AreFresh s.frame fresh → fresh ≤ n → AreFresh s.frame n
  more_free fresh n are h k l low there = are k l (omega arith) there

  module _ (b : State) (is_at : IsAt s shapes entry here b) (value fresh : ℕ) (before : Valuation) (values : IsValuationOf s b.frame.locals before) (small : value < 2 ^ 32) (little : fresh < 2 ^ 32)
      (are : AreFresh s.frame fresh) (pos : Pos) (e f place right : NotedExpr) (fit : AreFit globals s (Act-F.Assign e f)) (left_judged : (view s.frame e).judged fresh here.at ≡ Ok place)
      (right_judged : (view s.frame f).judged (fresh_behind (view s.frame e) fresh here.at) here.at ≡ Ok right) (afters : List NotedStmt) (a : Target × Right) (others : List (Target × Right))
      (rest : (d : State) → IsAt s shapes entry here d → (last : Valuation) → IsValuationOf s d.frame.locals last
      → HaveRoom s.frame here.at (capped value (view s.frame right).values) (fresh_behind (view s.frame right) (fresh_behind (view s.frame place) fresh here.at) here.at) (stores_of afters)
      → Comes m (IsPlan d (numbers_of (capped value (view s.frame right).values) (fresh_behind (view s.frame right) (fresh_behind (view s.frame place) fresh here.at) here.at) (stores_of afters))
      (capped value (view s.frame right).values) (fresh_behind (view s.frame right) (fresh_behind (view s.frame place) fresh here.at) here.at) last) (planned shapes d others)) where
    abbrev first_of : Placed
    first_of = record { target = place; right = right; pos = pos; from = record { value = value; fresh = fresh_behind (view s.frame place) fresh here.at } }

    place_view : view s.frame place ≡ view s.frame e
    place_view = same_view s.frame e place fresh here.at left_judged s.frame

    place_type : place.note.ctype ≡ e.note.ctype
    place_type = same_type s.frame e place fresh here.at left_judged

    abbrev next : ℕ
    next = fresh_behind (view s.frame place) fresh here.at

    next_is : fresh_behind (view s.frame e) fresh here.at ≡ next
    next_is = ap (λ (w : View). fresh_behind w fresh here.at) (sym place_view)

    next_free : AreFresh s.frame next
    next_free = more_free fresh next are (more_fresh fresh (length ((view s.frame place).fresh here.at)) little)

    abbrev Q : Planned → Type 0
    Q = IsPlan b (numbers_of value fresh (with_store (Act-F.Assign place right) pos (stores_of afters))) value fresh before

    abbrev then_planned : Drawn → Place → Result Planned Halt
    then_planned d to = given (planned shapes d.state others) (λ (p : Planned). Ok (and_then_written to d.number p))

    abbrev then_allowed : Place → Drawn → Result Planned Halt
    then_allowed to d = given (allowed to d.number) (then_planned d)

    abbrev then_drawn : Place → Result Planned Halt
    then_drawn to = given (drawn shapes b a.1) (then_allowed to)

    front_planned : Claim b value fresh before pos afters a others (Act-F.Assign place right)
    unfolding HaveRoom
    front_planned room covered becomes =
        comes_on m (λ to. (n : ℕ) (w : Place) → n < 2 ^ 32 → allowed to n ≡ Ok w → GoesThere s (store_of shapes b) first_of n w) Q (aimed (store_of shapes b) a.0) then_drawn
        (subst (λ y. Comes m (λ to. (n : ℕ) (w : Place) → n < 2 ^ 32 → allowed to n ≡ Ok w → GoesThere s (store_of shapes b) first_of n w) (aimed (store_of shapes b) y)) (sym becomes.target)
        (judged_aims m globals s agrees declares (store_of shapes b) entry b.next is_at.ready here free e first_of fresh becomes.first (subst (λ (w : View). fresh + length (w.fresh here.at) < 2 ^ 32) place_view room.0.left.variables) are fit.0 left_judged
        (ap is_scalar place_type ∙ fit.3) covered.0 becomes.target_strings is_at.holds))
        (λ to there goes.
        comes_on m (IsDrawn s shapes entry here b place.note.ctype right) Q (drawn shapes b a.1) (then_allowed to)
        (subst (λ y. Comes m (IsDrawn s shapes entry here b place.note.ctype right) (drawn shapes b y)) (sym becomes.right)
        (right_drawn b is_at place.note.ctype f right next becomes.second fit.1 (subst (λ t. converts t f ≡ true) (sym place_type) fit.2)
        (subst (λ n. (view s.frame f).judged n here.at ≡ Ok right) next_is right_judged) room.0.right.variables next_free covered.1 becomes.right_strings))
        (λ d there dr.
        let on : IsDrawnOn s shapes here place.note.ctype right first_of.from before d =
        dr.gives first_of.from before room.0.right next_free (subst (λ locals. IsValuationOf s locals before) (sym (same_locals b d.state dr.grown)) values) in
        let word = (on.received on.after on.values (record { address = λ n h. refl; number = λ x h. refl })).word in
        comes_on m (λ w. allowed to d.number ≡ Ok w) Q (allowed to d.number) (then_planned d) (allowed_comes m to d.number)
        (λ w there is.
        comes_on m (IsPlan d.state (numbers_of (capped value (view s.frame right).values) (fresh_behind (view s.frame right) next here.at) (stores_of afters)) (capped value (view s.frame right).values)
        (fresh_behind (view s.frame right) next here.at) on.after) Q (planned shapes d.state others) (λ (p : Planned). Ok (and_then_written w d.number p))
        (rest d.state dr.at on.after on.values room.1)
        (λ pl there sound.
        one_more b first_of (numbers_of (capped value (view s.frame right).values) (fresh_behind (view s.frame right) next here.at) (stores_of afters)) value fresh before small little refl w d dr on
        (goes d.number w word is) pl sound))))

  -- the number of the last fresh variable after both sides of an assignment
  record IsNext (fresh : ℕ) (x y : NotedStmt) (j : IsAssignJudged s here.at fresh x y) : Type 0 where
    same : next_fresh s here.at fresh x y j ≡ fresh_behind (view s.frame j.value) (fresh_behind (view s.frame j.place) fresh here.at) here.at
    small : fresh_behind (view s.frame j.value) (fresh_behind (view s.frame j.place) fresh here.at) here.at < 2 ^ 32
    unused : AreFresh s.frame (fresh_behind (view s.frame j.value) (fresh_behind (view s.frame j.place) fresh here.at) here.at)

  next_one : (fresh : ℕ) → fresh < 2 ^ 32 → AreFresh s.frame fresh → (x y : NotedStmt) (j : IsAssignJudged s here.at fresh x y) → IsNext fresh x y j
  next_one fresh little are x y j =
      let place_is : view s.frame j.place ≡ view s.frame j.target = same_view s.frame j.target j.place fresh here.at j.target_judged s.frame in
      let right_is : view s.frame j.value ≡ view s.frame j.right = same_view s.frame j.right j.value _ here.at j.right_judged s.frame in
      let m = more_fresh fresh (length ((view s.frame j.place).fresh here.at)) little in
      let n = more_fresh (fresh_behind (view s.frame j.place) fresh here.at) (length ((view s.frame j.value).fresh here.at)) (small_fresh fresh (length ((view s.frame j.place).fresh here.at))) in
      record {
        same =
            ap (λ (w : View). fresh_behind w (fresh_behind (view s.frame j.target) fresh here.at) here.at) (sym right_is)
            ∙ ap (λ (w : View). fresh_behind (view s.frame j.value) (fresh_behind w fresh here.at) here.at) (sym place_is);
        small = small_fresh (fresh_behind (view s.frame j.place) fresh here.at) (length ((view s.frame j.value).fresh here.at));
        unused = more_free fresh (fresh_behind (view s.frame j.value) (fresh_behind (view s.frame j.place) fresh here.at) here.at) are (both fresh _ _ m n);
      }
    where
      both : (i j k : ℕ) → i ≤ j → j ≤ k → i ≤ k
      both i j k p q = omega arith

  pub all_planned : (befores afters : List NotedStmt) (others : List (Target × Right)) (b : State) → IsAt s shapes entry here b → (value fresh : ℕ) (before : Valuation) → IsValuationOf s b.frame.locals before
      → value < 2 ^ 32 → fresh < 2 ^ 32 → AreFresh s.frame fresh → AreAssignsJudged s here.at fresh befores afters → AllFit globals s befores → StayCovered m s shapes entry here afters → BecomeParts s afters others
      → HaveRoom s.frame here.at value fresh (stores_of afters) → Comes m (IsPlan b (numbers_of value fresh (stores_of afters)) value fresh before) (planned shapes b others)
  unfolding AreAssignsJudged BecomeParts HaveRoom
  all_planned [] [] [] b is_at value fresh before values small little are judged fit covered becomes room = none_planned b is_at value fresh before values
  all_planned [] [] (a ∷ others) b is_at value fresh before values small little are judged fit covered becomes room = absurd becomes
  all_planned [] (x ∷ xs) others b is_at value fresh before values small little are judged fit covered becomes room = absurd judged
  all_planned (x ∷ xs) [] others b is_at value fresh before values small little are judged fit covered becomes room = absurd judged
  all_planned (x ∷ xs) (y ∷ ys) [] b is_at value fresh before values small little are judged fit covered becomes room = absurd becomes
  all_planned (x ∷ xs) (y ∷ ys) (a ∷ others) b is_at value fresh before values small little are judged fit covered becomes room =
      let j : IsAssignJudged s here.at fresh x y = judged.0 in
      let one : AreFit globals s (Act-F.Assign j.target j.right) = subst (AreFit globals s) j.is fit.0 in
      let next = next_one fresh little are x y j in
      subst (Claim b value fresh before y.pos ys a others) (sym j.becomes)
      (front_planned b is_at value fresh before values small little are y.pos j.target j.right j.place j.value one j.target_judged j.right_judged ys a others
      (λ d at_d last of_d room_d.
      all_planned xs ys others d at_d (capped value (view s.frame j.value).values) (fresh_behind (view s.frame j.value) (fresh_behind (view s.frame j.place) fresh here.at) here.at) last of_d
      (small_fresh value (view s.frame j.value).values) next.small next.unused (subst (λ k. AreAssignsJudged s here.at k xs ys) next.same judged.1) fit.1 (λ c at_c. (covered c at_c).1) becomes.1 room_d))
      room (covered b is_at).0 becomes.0

  -- ---- targets alone, each of them in the state before all assignments

  module _ (checked : m ≡ Checked) (b : State) (is_at : IsAt s shapes entry here b) where
    -- what is claimed of the assignments in front of others, by the layer of the first one
    abbrev AimClaim : ℕ → ℕ → Pos → List NotedStmt → (Target × Right) → List (Target × Right) → ActLayer → Type 0
    AimClaim value fresh pos afters a others x =
        HaveRoom s.frame here.at value fresh (with_store x pos (stores_of afters)) → AreCoveredSides m s (store_of shapes b) here.seen x → BecomesPart s x a
        → AreUnstuck shapes b (a ∷ others)

    front_unstuck : (value fresh : ℕ) → AreFresh s.frame fresh → (pos : Pos) (e f place right : NotedExpr) → AreFit globals s (Act-F.Assign e f) → (view s.frame e).judged fresh here.at ≡ Ok place
        → (afters : List NotedStmt) (a : Target × Right) (others : List (Target × Right))
        → (HaveRoom s.frame here.at (capped value (view s.frame right).values) (fresh_behind (view s.frame right) (fresh_behind (view s.frame place) fresh here.at) here.at) (stores_of afters)
        → AreUnstuck shapes b others)
        → AimClaim value fresh pos afters a others (Act-F.Assign place right)
    unfolding HaveRoom
    front_unstuck value fresh are pos e f place right fit left_judged afters a others rest room covered becomes =
        (subst (λ y. aimed (store_of shapes b) y ≢ Err halt.Stuck) (sym becomes.target) unstuck, rest room.1)
      where
        p : Placed
        p = record { target = place; right = right; pos = pos; from = record { value = value; fresh = fresh } }

        unstuck : aimed (store_of shapes b) (target_of s.text s.variables becomes.first place) ≢ Err halt.Stuck
        unstuck =
            come_unstuck m checked (λ to. (n : ℕ) (w : Place) → n < 2 ^ 32 → allowed to n ≡ Ok w → GoesThere s (store_of shapes b) p n w) (aimed (store_of shapes b) (target_of s.text s.variables becomes.first place))
            (judged_aims m globals s agrees declares (store_of shapes b) entry b.next is_at.ready here free e p fresh becomes.first
            (subst (λ (w : View). fresh + length (w.fresh here.at) < 2 ^ 32) (same_view s.frame e place fresh here.at left_judged s.frame) room.0.left.variables) are fit.0 left_judged
            (ap is_scalar (same_type s.frame e place fresh here.at left_judged) ∙ fit.3) covered.0 becomes.target_strings is_at.holds)

    pub all_unstuck : (befores afters : List NotedStmt) (others : List (Target × Right)) (value fresh : ℕ) → fresh < 2 ^ 32 → AreFresh s.frame fresh → AreAssignsJudged s here.at fresh befores afters
        → AllFit globals s befores → AreCoveredParts m s (store_of shapes b) here.seen afters → BecomeParts s afters others → HaveRoom s.frame here.at value fresh (stores_of afters) → AreUnstuck shapes b others
    unfolding AreAssignsJudged BecomeParts HaveRoom
    all_unstuck [] [] [] value fresh little are judged fit covered becomes room = tt
    all_unstuck [] [] (a ∷ others) value fresh little are judged fit covered becomes room = absurd becomes
    all_unstuck [] (x ∷ xs) others value fresh little are judged fit covered becomes room = absurd judged
    all_unstuck (x ∷ xs) [] others value fresh little are judged fit covered becomes room = absurd judged
    all_unstuck (x ∷ xs) (y ∷ ys) [] value fresh little are judged fit covered becomes room = absurd becomes
    all_unstuck (x ∷ xs) (y ∷ ys) (a ∷ others) value fresh little are judged fit covered becomes room =
        let j : IsAssignJudged s here.at fresh x y = judged.0 in
        let next = next_one fresh little are x y j in
        subst (AimClaim value fresh y.pos ys a others) (sym j.becomes)
        (front_unstuck value fresh are y.pos j.target j.right j.place j.value (subst (AreFit globals s) j.is fit.0) j.target_judged ys a others
        (λ room.
        all_unstuck xs ys others (capped value (view s.frame j.value).values) (fresh_behind (view s.frame j.value) (fresh_behind (view s.frame j.place) fresh here.at) here.at) next.small next.unused
        (subst (λ k. AreAssignsJudged s here.at k xs ys) next.same judged.1) fit.1 covered.1 becomes.1 room))
        room covered.0 becomes.0
