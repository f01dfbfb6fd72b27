-- The list of the expressions in an expression, and what it is made again of from its end.
use Rattle.std.proofs.Common.{◌≡◌, length, List, [], ◌∷◌, ◌++◌, refl, sym, ap, subst, ◌∙◌, map, append_assoc, append-nil}
use Rattle.std.proofs.lemmas.List.{map-append}
use Rattle.std.specs.Borrow.{Bor}
use Rattle.ckc_syntax.specs.declared.tree.Expr.{Expr}
use Rattle.ckc_syntax.specs.declared.tree.Node.TheVariants as node
use Rattle.ckc_parser_stacks.specs.code.Visits.{Visits, IsRemade, parts_of, parts_of_node}
use Rattle.ckc_parser_stacks.specs.code.Visits as V

-- what is left to visit goes on with what is listed
pub record Leads {N A : Type 0} (e : Expr N A) (work all : List (Expr N A)) : Type 0 where
  pub leads : (xs : List (Expr N A)) → Visits work xs → Visits (e ∷ []) (all ++ xs)

abbrev pub all_now : {N A : Type 0} → List (Bor (Expr N A)) → List (Expr N A)
all_now bs = map (λ b. b.now) bs

pub begins : {N A : Type 0} (b : Bor (Expr N A)) (old work all : List (Bor (Expr N A))) → old ≡ [] → work ≡ b ∷ old → all ≡ [] → Leads b.now (map (λ b. b.now) work) (map (λ b. b.now) all)
begins b old work all o w a = record {
  leads = λ xs v.
      let here : map (λ b. b.now) work ≡ b.now ∷ [] = ap (λ z. all_now z) (w ∙ ap (λ z. b ∷ z) o) in
      subst (λ z. Visits (b.now ∷ []) (all_now z ++ xs)) (sym a) (subst (λ z. Visits z xs) here v);
}

leads_next : {N A : Type 0} (e x : Expr N A) (less more all : List (Expr N A)) → more ≡ parts_of x ++ less → Leads e (x ∷ less) all → Leads e more (all ++ x ∷ [])
leads_next e x less more all m q = record {
  leads = λ xs v.
      subst (λ z. Visits (e ∷ []) z) (sym (append_assoc all (x ∷ []) xs)) (q.leads (x ∷ xs) (V.visit x less xs (subst (λ z. Visits z xs) m v)));
}

pub next_visit : {N A : Type 0} (e : Expr N A) (b : Bor (Expr N A)) (work less more all next : List (Bor (Expr N A))) → work ≡ b ∷ less →
    map (λ b. b.now) more ≡ parts_of_node b.now.node ++ map (λ b. b.now) less → next ≡ all ++ b ∷ [] →
    Leads e (map (λ b. b.now) work) (map (λ b. b.now) all) → Leads e (map (λ b. b.now) more) (map (λ b. b.now) next)
next_visit e b work less more all next w m n q =
    let grown : map (λ b. b.now) next ≡ map (λ b. b.now) all ++ b.now ∷ [] = ap (λ z. all_now z) n ∙ map-append (λ b. b.now) all (b ∷ []) in
    subst (λ z. Leads e (all_now more) z) (sym grown) (leads_next e b.now (all_now less) (all_now more) (all_now all) m (subst (λ z. Leads e (all_now z) (all_now all)) w q))

pub all_visited : {N A : Type 0} (e : Expr N A) (work all : List (Bor (Expr N A))) → work ≡ [] → Leads e (map (λ b. b.now) work) (map (λ b. b.now) all) → Visits (e ∷ []) (map (λ b. b.now) all)
all_visited e work all w q = subst (λ z. Visits (e ∷ []) z) (append-nil (all_now all)) (q.leads [] (subst (λ z. Visits (all_now z) []) (sym w) V.done))

-- what stands behind a front of the list, and what is made of it
pub record Made {N A : Type 0} (whole rest made : List (Expr N A)) : Type 0 where
  pub back : List (Expr N A)
  pub split : whole ≡ rest ++ back
  pub visits : Visits made back

-- the same, if it is the list of an expression
pub record Makes {N A : Type 0} (whole rest made : List (Expr N A)) : Type 0 where
  pub makes : (e : Expr N A) → Visits (e ∷ []) whole → Made whole rest made

-- lists that go on in one way and begin equally long
same_rest : {X : Type 0} (ps a b : List X) → ps ++ a ≡ ps ++ b → a ≡ b
same_rest [] a b e = e
same_rest (p ∷ ps) a b e = same_rest ps a b (cc)

-- a list is that of one stack alone
pub one_stack : {N A : Type 0} {a b xs : List (Expr N A)} → Visits a xs → Visits b xs → a ≡ b
one_stack V.done V.done = refl
one_stack (V.visit x r xs v) (V.visit y s ys w) = ap (λ z. x ∷ z) (same_rest (parts_of x) r s (one_stack v w))

-- the end of the list of a stack is that of another
pub record Behind {N A : Type 0} (xs : List (Expr N A)) : Type 0 where
  pub stack : List (Expr N A)
  pub visits : Visits stack xs

pub behind : {N A : Type 0} (front xs : List (Expr N A)) {a : List (Expr N A)} → Visits a (front ++ xs) → Behind xs
behind [] xs {a} v = record { stack = a; visits = v }
behind (x ∷ front) xs (V.visit y r ys v) = behind front xs v

-- what is on the stack before one is made of its parts
pub record Parted {N A : Type 0} (x : Expr N A) (made back : List (Expr N A)) : Type 0 where
  pub rest : List (Expr N A)
  pub parts : made ≡ parts_of x ++ rest
  pub visits : Visits (parts_of x ++ rest) back

parted_by : {N A : Type 0} (x : Expr N A) (made back : List (Expr N A)) {a : List (Expr N A)} → Visits made back → Visits a (x ∷ back) → Parted x made back
parted_by x made back v (V.visit y r ys w) = record { rest = r; parts = one_stack v w; visits = w }

pub parted : {N A : Type 0} (e x : Expr N A) (whole front back made : List (Expr N A)) → Visits (e ∷ []) whole → whole ≡ front ++ (x ∷ back) → Visits made back → Parted x made back
parted e x whole front back made h w v = parted_by x made back v (behind front (x ∷ back) (subst (λ z. Visits (e ∷ []) z) w h)).visits

one_less : {X : Type 0} (whole rest less back : List X) (x : X) → rest ≡ less ++ x ∷ [] → whole ≡ rest ++ back → whole ≡ less ++ (x ∷ back)
one_less whole rest less back x r w = w ∙ ap (λ z. z ++ back) r ∙ append_assoc less (x ∷ []) back

pub is_remade : {N A : Type 0} (x : Expr N A) (old new : List (Expr N A)) → ((rest : List (Expr N A)) → old ≡ parts_of x ++ rest → new ≡ x ∷ rest) → IsRemade x old new
is_remade x old new h = record { takes = h }

pub starts : {N A : Type 0} (whole made : List (Expr N A)) → made ≡ [] → Makes whole whole made
starts whole made m = record { makes = λ e v. record { back = []; split = sym (append-nil whole); visits = subst (λ z. Visits z []) (sym m) V.done } }

-- one more is made of its parts
makes_next : {N A : Type 0} (x : Expr N A) (whole rest less made new : List (Expr N A)) → rest ≡ less ++ x ∷ [] → IsRemade x made new → Makes whole rest made → Makes whole less new
makes_next x whole rest less made new r m h = record {
  makes = λ e v.
      let q = h.makes e v in
      let split : whole ≡ less ++ (x ∷ q.back) = one_less whole rest less q.back x r q.split in
      let p = parted e x whole less q.back made v split q.visits in
      record { back = x ∷ q.back; split = split; visits = subst (λ z. Visits z (x ∷ q.back)) (sym (m.takes p.rest p.parts)) (V.visit x p.rest q.back p.visits) };
}

pub next_made : {N A : Type 0} (b : Bor (Expr N A)) (whole made new : List (Expr N A)) (rest less : List (Bor (Expr N A))) → rest ≡ less ++ b ∷ [] → IsRemade b.now made new →
    Makes whole (map (λ b. b.now) rest) made → Makes whole (map (λ b. b.now) less) new
next_made b whole made new rest less r m h = makes_next b.now whole (all_now rest) (all_now less) made new (ap (λ z. all_now z) r ∙ map-append (λ b. b.now) less (b ∷ [])) m h

pub made_again : {N A : Type 0} (e copy : Expr N A) (whole made after : List (Expr N A)) (rest : List (Bor (Expr N A))) → rest ≡ [] → made ≡ copy ∷ after → Makes whole (map (λ b. b.now) rest) made →
    Visits (e ∷ []) whole → copy ≡ e
made_again e copy whole made after rest r m h v =
    let q = h.makes e v in
    let all : made ≡ e ∷ [] = one_stack (subst (λ z. Visits made z) (sym (q.split ∙ ap (λ z. all_now z ++ q.back) r)) q.visits) v in
    first_of copy e after [] (sym m ∙ all)
  where
    first_of : {X : Type 0} (x y : X) (xs ys : List X) → x ∷ xs ≡ y ∷ ys → x ≡ y
    first_of x y xs ys e = cc

-- arguments that are taken from those that stand there are these
pub as_many : {X : Type 0} (taken all rest new old : List X) → length taken ≡ length all → old ≡ taken ++ new → old ≡ all ++ rest → (taken ≡ all) × (new ≡ rest)
as_many [] [] rest new old n t a = (refl, sym t ∙ a)
as_many [] (y ∷ all) rest new old n t a = absurd (cc)
as_many (x ∷ taken) [] rest new old n t a = absurd (cc)
as_many (x ∷ taken) (y ∷ all) rest new old n t a =
    let e : x ∷ (taken ++ new) ≡ y ∷ (all ++ rest) = sym t ∙ a in
    let q = as_many taken all rest new (taken ++ new) (cc) refl (cc) in
    (cc, q.1)

-- a call with such arguments
pub call_again : {N A : Type 0} (m n : N) (taken all rest new old : List (Expr N A)) → m ≡ n → length taken ≡ length all → old ≡ taken ++ new → old ≡ all ++ rest → (node.Call m taken ≡ node.Call n all) × (new ≡ rest)
call_again m n taken all rest new old e k t a =
    let q = as_many taken all rest new old k t a in
    (ap (λ z. node.Call z taken) e ∙ ap (λ z. node.Call n z) q.0, q.1)
