-- What comes next in a run is a statement with a step, or the end of a function.
use Rattle.std.proofs.Common.{List, [], ◌∷◌}
use Rattle.ckc_source.specs.Code.{Code, End, Assign, Bundle, Get, Put, Call, If, Loop, Break, Continue, Return, Check, Program}
use Rattle.ckc_source.specs.States.{Leaving, Ended, Broken, Continued, Work, Rest, Turn, begun, behind, resumed, settled, stepped, turned}
use Rattle.ckc_source_causes.specs.Layouts.{Layout}
use Rattle.ckc_source_causes.specs.WellFormed.{HasSteps, IsStep, IsWellFormedCode}

-- ---- statements that a run may come to

abbrev pub IsFormed : Program → Layout → Code → Type 0
IsFormed p l c = IsWellFormedCode p l c × HasSteps c

-- a statement of which the run makes a step
abbrev pub IsActing : Code → Type 0
IsActing End = ⊥
IsActing (Break rest) = ⊥
IsActing (Continue rest) = ⊥
IsActing _ = Unit {0}

abbrev pub IsLoop : Code → Type 0
IsLoop (Loop spot e body step rest) = Unit {0}
IsLoop _ = ⊥

-- what comes next in a call
abbrev pub AreFormed : Program → Layout → List Work → Type 0
AreFormed p l [] = Unit {0}
AreFormed p l (Rest c ∷ work) = IsFormed p l c × AreFormed p l work
AreFormed p l (Turn c ∷ work) = IsLoop c × IsFormed p l c × AreFormed p l work

-- the same, with a step in front
abbrev pub AreReady : Program → Layout → List Work → Type 0
AreReady p l [] = Unit {0}
AreReady p l (Rest c ∷ work) = IsActing c × IsFormed p l c × AreFormed p l work
AreReady p l (Turn c ∷ work) = ⊥

begun_ready : (p : Program) (l : Layout) (c : Code) (go : Leaving → List Work) (work : List Work) → IsFormed p l c → AreFormed p l work → ((how : Leaving) → AreReady p l (go how)) → AreReady p l (begun c go work)
begun_ready p l End go work f w h = h Ended
begun_ready p l (Break rest) go work f w h = h Broken
begun_ready p l (Continue rest) go work f w h = h Continued
begun_ready p l (Assign spot target right rest) go work f w h = (tt, f, w)
begun_ready p l (Bundle spot assigns rest) go work f w h = (tt, f, w)
begun_ready p l (Get spot target rest) go work f w h = (tt, f, w)
begun_ready p l (Put spot target e rest) go work f w h = (tt, f, w)
begun_ready p l (Call spot target callee es rest) go work f w h = (tt, f, w)
begun_ready p l (If spot e one two rest) go work f w h = (tt, f, w)
begun_ready p l (Loop spot e body step rest) go work f w h = (tt, f, w)
begun_ready p l (Return spot e rest) go work f w h = (tt, f, w)
begun_ready p l (Check spot e rest) go work f w h = (tt, f, w)

behind_formed : (p : Program) (l : Layout) (c : Code) → IsFormed p l c → IsFormed p l (behind c)
behind_formed p l (Loop spot e body step rest) f = (f.0.3, f.1.3)
behind_formed p l End f = f
behind_formed p l (Assign spot target right rest) f = f
behind_formed p l (Bundle spot assigns rest) f = f
behind_formed p l (Get spot target rest) f = f
behind_formed p l (Put spot target e rest) f = f
behind_formed p l (Call spot target callee es rest) f = f
behind_formed p l (If spot e one two rest) f = f
behind_formed p l (Break rest) f = f
behind_formed p l (Continue rest) f = f
behind_formed p l (Return spot e rest) f = f
behind_formed p l (Check spot e rest) f = f

stepped_ready : (p : Program) (l : Layout) (step loop : Code) (work : List Work) → IsStep step → IsActing loop → IsFormed p l step → IsFormed p l loop → AreFormed p l work → AreReady p l (stepped step loop work)
stepped_ready p l End loop work h a s k w = (a, k, w)
stepped_ready p l (Break rest) loop work h a s k w = absurd h
stepped_ready p l (Continue rest) loop work h a s k w = absurd h
stepped_ready p l (Assign spot target right rest) loop work h a s k w = (tt, s, (k, w))
stepped_ready p l (Bundle spot assigns rest) loop work h a s k w = (tt, s, (k, w))
stepped_ready p l (Get spot target rest) loop work h a s k w = (tt, s, (k, w))
stepped_ready p l (Put spot target e rest) loop work h a s k w = (tt, s, (k, w))
stepped_ready p l (Call spot target callee es rest) loop work h a s k w = (tt, s, (k, w))
stepped_ready p l (If spot e one two rest) loop work h a s k w = (tt, s, (k, w))
stepped_ready p l (Loop spot e body step rest) loop work h a s k w = (tt, s, (k, w))
stepped_ready p l (Return spot e rest) loop work h a s k w = (tt, s, (k, w))
stepped_ready p l (Check spot e rest) loop work h a s k w = (tt, s, (k, w))

turned_ready : (p : Program) (l : Layout) (c : Code) (work : List Work) → IsLoop c → IsFormed p l c → AreFormed p l work → AreReady p l (turned c work)
turned_ready p l (Loop spot e body step rest) work k f w = stepped_ready p l step (Loop spot e body step rest) work f.1.0 tt (f.0.2, f.1.2) f w
turned_ready p l End work k f w = absurd k
turned_ready p l (Assign spot target right rest) work k f w = absurd k
turned_ready p l (Bundle spot assigns rest) work k f w = absurd k
turned_ready p l (Get spot target rest) work k f w = absurd k
turned_ready p l (Put spot target e rest) work k f w = absurd k
turned_ready p l (Call spot target callee es rest) work k f w = absurd k
turned_ready p l (If spot e one two rest) work k f w = absurd k
turned_ready p l (Break rest) work k f w = absurd k
turned_ready p l (Continue rest) work k f w = absurd k
turned_ready p l (Return spot e rest) work k f w = absurd k
turned_ready p l (Check spot e rest) work k f w = absurd k

resumed_ready : (p : Program) (l : Layout) (how : Leaving) (work : List Work) → AreFormed p l work → AreReady p l (resumed how work)
unfolding resumed
resumed_ready p l Ended [] f = tt
resumed_ready p l Broken [] f = tt
resumed_ready p l Continued [] f = tt
resumed_ready p l Ended (Rest c ∷ work) f = begun_ready p l c (λ how. resumed how work) work f.0 f.1 (λ how. resumed_ready p l how work f.1)
resumed_ready p l Broken (Rest c ∷ work) f = resumed_ready p l Broken work f.1
resumed_ready p l Continued (Rest c ∷ work) f = resumed_ready p l Continued work f.1
resumed_ready p l Broken (Turn c ∷ work) f = begun_ready p l (behind c) (λ how. resumed how work) work (behind_formed p l c f.1) f.2 (λ how. resumed_ready p l how work f.2)
resumed_ready p l Ended (Turn c ∷ work) f = turned_ready p l c work f.0 f.1 f.2
resumed_ready p l Continued (Turn c ∷ work) f = turned_ready p l c work f.0 f.1 f.2

pub settled_ready : (p : Program) (l : Layout) (work : List Work) → AreFormed p l work → AreReady p l (settled work)
settled_ready p l work f = resumed_ready p l Ended work f
