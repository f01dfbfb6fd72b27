-- Stacks, and how statements are left.
use Rattle.std.proofs.Common.{◌≡◌, List, [], ◌∷◌, ◌++◌, length, Option, Some, None, Result, IfOk, refl, ◌∙◌, ap, subst, arith}
use Rattle.std.specs.declared.alloc.AllocError.{AllocError}
use Rattle.ckc_interp.specs.declared.work.Leaving as by
use Rattle.ckc_interp.specs.declared.work.Work as held
use Rattle.ckc_source.specs.Code.{Code, End, Assign, Bundle, Get, Put, Call, If, Loop, Break, Continue, Return, Check}
use Rattle.ckc_source.specs.States.{Work, Rest, Turn, Leaving, Ended, Broken, Continued, begun, resumed, stepped, turned, behind}
use Rattle.ckc_interp.specs.code.Views.{stacked, work_of, leaving_of, leaving_in, unless_ended, step_in, when_left}

pub stacked-push : {A B : Type 0} (view : A → B) (xs : List A) (x : A) (behind : List B) → stacked view (xs ++ x ∷ []) behind ≡ view x ∷ stacked view xs behind
unfolding stacked
stacked-push view [] x behind = refl
stacked-push view (y ∷ xs) x behind = stacked-push view xs x (view y ∷ behind)

pub stacked-nil : {A B : Type 0} (view : A → B) (behind : List B) → stacked view [] behind ≡ behind
unfolding stacked
stacked-nil view behind = refl

-- statements that are left at once
pub begun_left : (code : Code) (how : Leaving) (go : Leaving → List Work) (work : List Work) → leaving_in code ≡ Some how → begun code go work ≡ go how
begun_left End how go work e = let f : Ended ≡ how = cc in ap go f
begun_left (Break rest) how go work e = let f : Broken ≡ how = cc in ap go f
begun_left (Continue rest) how go work e = let f : Continued ≡ how = cc in ap go f
begun_left (Assign a b c d) how go work e = absurd cc
begun_left (Bundle a b c) how go work e = absurd cc
begun_left (Get a b c) how go work e = absurd cc
begun_left (Put a b c d) how go work e = absurd cc
begun_left (Call a b c d f) how go work e = absurd cc
begun_left (If a b c d f) how go work e = absurd cc
begun_left (Loop a b c d f) how go work e = absurd cc
begun_left (Return a b c) how go work e = absurd cc
begun_left (Check a b c) how go work e = absurd cc

-- statements that are not left at once
pub begun_stays : (code : Code) (go : Leaving → List Work) (work : List Work) → leaving_in code ≡ None → begun code go work ≡ Rest code ∷ work
begun_stays End go work e = absurd cc
begun_stays (Break rest) go work e = absurd cc
begun_stays (Continue rest) go work e = absurd cc
begun_stays (Assign a b c d) go work e = refl
begun_stays (Bundle a b c) go work e = refl
begun_stays (Get a b c) go work e = refl
begun_stays (Put a b c d) go work e = refl
begun_stays (Call a b c d f) go work e = refl
begun_stays (If a b c d f) go work e = refl
begun_stays (Loop a b c d f) go work e = refl
begun_stays (Return a b c) go work e = refl
begun_stays (Check a b c) go work e = refl

stepped_without : (step loop : Code) (work : List Work) → unless_ended step (leaving_in step) ≡ None → stepped step loop work ≡ Rest loop ∷ work
stepped_without End loop work e = refl
stepped_without (Break rest) loop work e = absurd cc
stepped_without (Continue rest) loop work e = absurd cc
stepped_without (Assign a b c d) loop work e = absurd cc
stepped_without (Bundle a b c) loop work e = absurd cc
stepped_without (Get a b c) loop work e = absurd cc
stepped_without (Put a b c d) loop work e = absurd cc
stepped_without (Call a b c d f) loop work e = absurd cc
stepped_without (If a b c d f) loop work e = absurd cc
stepped_without (Loop a b c d f) loop work e = absurd cc
stepped_without (Return a b c) loop work e = absurd cc
stepped_without (Check a b c) loop work e = absurd cc

the_same : (one two loop : Code) (work : List Work) (o : Option Code) → o ≡ Some one → o ≡ Some two → Rest one ∷ Rest loop ∷ work ≡ Rest two ∷ Rest loop ∷ work
the_same one two loop work o e f = let g : one ≡ two = cc in ap (λ c. Rest c ∷ Rest loop ∷ work) g

stepped_with : (step next loop : Code) (work : List Work) → unless_ended step (leaving_in step) ≡ Some next → stepped step loop work ≡ Rest next ∷ Rest loop ∷ work
stepped_with End next loop work e = absurd cc
stepped_with (Break rest) next loop work e = the_same _ next loop work _ refl e
stepped_with (Continue rest) next loop work e = the_same _ next loop work _ refl e
stepped_with (Assign a b c d) next loop work e = the_same _ next loop work _ refl e
stepped_with (Bundle a b c) next loop work e = the_same _ next loop work _ refl e
stepped_with (Get a b c) next loop work e = the_same _ next loop work _ refl e
stepped_with (Put a b c d) next loop work e = the_same _ next loop work _ refl e
stepped_with (Call a b c d f) next loop work e = the_same _ next loop work _ refl e
stepped_with (If a b c d f) next loop work e = the_same _ next loop work _ refl e
stepped_with (Loop a b c d f) next loop work e = the_same _ next loop work _ refl e
stepped_with (Return a b c) next loop work e = the_same _ next loop work _ refl e
stepped_with (Check a b c) next loop work e = the_same _ next loop work _ refl e

-- a turn of the loop in front that has no step, and one that has
pub turned_without : (code : Code) (work : List Work) → step_in code ≡ None → turned code work ≡ Rest code ∷ work
turned_without (Loop a b c d f) work e = stepped_without d (Loop a b c d f) work e
turned_without End work e = refl
turned_without (Break rest) work e = refl
turned_without (Continue rest) work e = refl
turned_without (Assign a b c d) work e = refl
turned_without (Bundle a b c) work e = refl
turned_without (Get a b c) work e = refl
turned_without (Put a b c d) work e = refl
turned_without (Call a b c d f) work e = refl
turned_without (If a b c d f) work e = refl
turned_without (Return a b c) work e = refl
turned_without (Check a b c) work e = refl

pub turned_with : (code next : Code) (work : List Work) → step_in code ≡ Some next → turned code work ≡ Rest next ∷ Rest code ∷ work
turned_with (Loop a b c d f) next work e = stepped_with d next (Loop a b c d f) work e
turned_with End next work e = absurd cc
turned_with (Break rest) next work e = absurd cc
turned_with (Continue rest) next work e = absurd cc
turned_with (Assign a b c d) next work e = absurd cc
turned_with (Bundle a b c) next work e = absurd cc
turned_with (Get a b c) next work e = absurd cc
turned_with (Put a b c d) next work e = absurd cc
turned_with (Call a b c d f) next work e = absurd cc
turned_with (If a b c d f) next work e = absurd cc
turned_with (Return a b c) next work e = absurd cc
turned_with (Check a b c) next work e = absurd cc

-- how the front is left: nothing, statements and loops
pub resumed-nil : (how : Leaving) → resumed how [] ≡ []
unfolding resumed
resumed-nil Ended = refl
resumed-nil Broken = refl
resumed-nil Continued = refl

pub resumed-rest : (code : Code) (work : List Work) → resumed Ended (Rest code ∷ work) ≡ begun code (λ how. resumed how work) work
unfolding resumed
resumed-rest code work = refl

pub resumed-turn_broken : (code : Code) (work : List Work) → resumed Broken (Turn code ∷ work) ≡ begun (behind code) (λ how. resumed how work) work
unfolding resumed
resumed-turn_broken code work = refl

pub resumed-turn_ended : (code : Code) (work : List Work) → resumed Ended (Turn code ∷ work) ≡ turned code work
unfolding resumed
resumed-turn_ended code work = refl

pub resumed-turn_continued : (code : Code) (work : List Work) → resumed Continued (Turn code ∷ work) ≡ turned code work
unfolding resumed
resumed-turn_continued code work = refl

pub resumed-rest_broken : (code : Code) (work : List Work) → resumed Broken (Rest code ∷ work) ≡ resumed Broken work
unfolding resumed
resumed-rest_broken code work = refl

pub resumed-rest_continued : (code : Code) (work : List Work) → resumed Continued (Rest code ∷ work) ≡ resumed Continued work
unfolding resumed
resumed-rest_continued code work = refl

-- ---- the front of the work of the code

pub front_is : (how h : by.Leaving) (front f : held.Work) (work : List Work) → how ≡ h → front ≡ f
    → resumed (leaving_of how) (work_of front ∷ work) ≡ resumed (leaving_of h) (work_of f ∷ work)
front_is how h front f work e g = ap (λ x. resumed (leaving_of x) (work_of front ∷ work)) e ∙ ap (λ x. resumed (leaving_of h) (work_of x ∷ work)) g

pub left_so : (r : Result (Option by.Leaving) AllocError) (new a b : List Work) → a ≡ b → IfOk r (λ left. when_left left new ≡ a) → IfOk r (λ left. when_left left new ≡ b)
left_so r new a b e h = subst (λ t. IfOk r (λ left. when_left left new ≡ t)) e h

pub nil_of : {A : Type 0} (xs : List A) → length xs ≡ 0 → xs ≡ []
nil_of [] e = refl
nil_of (x ∷ xs) e = absurd (omega arith)
