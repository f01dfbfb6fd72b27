-- Each part derives some list of tokens.
use Rattle.std.proofs.Common.{◌≡◌, ℕ, zero, suc, get_or, ◌&&◌, List, [], ◌∷◌, ◌++◌, Bool, true, false, not, ◌==◌, refl, sym, ap, subst, ◌∙◌, map}
use Rattle.ckc_syntax.specs.Spelled.{Spelled}
use Rattle.ckc_parser_grammar.specs.declared.kind.Kind.{Kind}
use Rattle.ckc_parser_grammar.specs.declared.kind.Kind.TheVariants as kind
use Rattle.ckc_parser_grammar.specs.code.Fits.{number, fits}
use Rattle.ckc_parser_grammar.specs.code.Grammar.{Terminal, one, name, greater, sign, increment_sign, compound, operator, literal, name_but_calloc, name_but_unknown, Part, Symbol, t, n, Rule, left, right, allowed, not_else}
use Rattle.ckc_parser_grammar.specs.code.Grammar as g
use Rattle.ckc_parser_grammar.specs.code.Values.{Value, token, made}
use Rattle.ckc_parser_grammar.specs.code.Derives.{Sign, before, Derives}
use Rattle.ckc_parser_grammar.specs.code.Derives as D
use Rattle.ckc_parser_grammar.specs.code.Kinds.{kind_of_token}
use Rattle.ckc_parser_grammar.specs.code.Signs.{signs_after, kind_after}
use Rattle.ckc_parser_grammar.proofs.Spellings.{spelled, sample_kind}
use Rattle.ckc_parser_grammar.proofs.Marks.{last_of, signs_both, kind_alone}
use Rattle.ckc_parser_grammar.proofs.EveryPart.{all_parts, part_number, part_at}
use Rattle.ckc_parser_grammar.proofs.Tables.{plain, plain_all, all_part, and_true, allowed_owed, else_only, is_number, is_spelled, same_number, same_kind, of_fits}

abbrev pub sample : Terminal → Sign
sample c = record { kind = sample_kind c; token = spelled (sample_kind c) }

pub sample_fits : (c : Terminal) → fits c (sample c).kind ≡ true
sample_fits (one k) = is_number k
sample_fits name = refl
sample_fits greater = refl
sample_fits sign = refl
sample_fits increment_sign = refl
sample_fits compound = refl
sample_fits operator = refl
sample_fits literal = refl
sample_fits name_but_calloc = refl
sample_fits name_but_unknown = refl

open_by : (k : Kind) (m : Bool) → not_else k ≡ m → (m ≡ false → k ≡ kind.Else) → not (number k == number kind.Else) ≡ true → m ≡ true
open_by k true e f h = refl
open_by k false e f h = let g = f refl in let i = subst (λ c. not (number c == number kind.Else) ≡ true) g h in cc

pub sample_open : (c : Terminal) → plain (t c) ≡ true → not_else (sample c).kind ≡ true
sample_open (one k) h = open_by k (not_else k) refl (else_only k) (and_true (not (fits (one k) kind.Else)) (is_spelled k) h).0
sample_open name h = refl
sample_open greater h = refl
sample_open sign h = refl
sample_open increment_sign h = refl
sample_open compound h = refl
sample_open operator h = refl
sample_open literal h = refl
sample_open name_but_calloc h = refl
sample_open name_but_unknown h = refl

pub map_both : (cs ds : List Terminal) → map sample (cs ++ ds) ≡ map sample cs ++ map sample ds
map_both [] ds = refl
map_both (c ∷ cs) ds = ap (λ z. sample c ∷ z) (map_both cs ds)

abbrev pub sample_token : Terminal → Spelled
sample_token c = spelled (sample_kind c)

-- the samples are what their tokens are with their kinds
abbrev pub Real : List Terminal → Type 0
Real cs = (x : Spelled) → signs_after x (map sample_token cs) ≡ map sample cs

real_read : (c : Terminal) (cs : List Terminal) → is_spelled (sample_kind c) ≡ true → Real cs → Real (c ∷ cs)
real_read c cs h r x =
    let k : kind_after x (sample_token c) ≡ sample_kind c = kind_alone x (sample_token c) refl ∙ same_kind (kind_of_token (sample_token c)) (sample_kind c) h in
    ap (λ z. record { kind = z; token = sample_token c } ∷ signs_after (sample_token c) (map sample_token cs)) k ∙ ap (λ z. sample c ∷ z) (r (sample_token c))

map_token : (cs ds : List Terminal) → map sample_token (cs ++ ds) ≡ map sample_token cs ++ map sample_token ds
map_token [] ds = refl
map_token (c ∷ cs) ds = ap (λ z. sample_token c ∷ z) (map_token cs ds)

pub real_both : (cs ds : List Terminal) → Real cs → Real ds → Real (cs ++ ds)
real_both cs ds r q x =
    ap (λ z. signs_after x z) (map_token cs ds) ∙ signs_both x (map sample_token cs) (map sample_token ds)
    ∙ ap (λ z. z ++ signs_after (last_of x (map sample_token cs)) (map sample_token ds)) (r x)
    ∙ ap (λ z. map sample cs ++ z) (q (last_of x (map sample_token cs)))
    ∙ sym (map_both cs ds)

pub record Fill (ss : List Symbol) (k : Kind) : Type 0 where
  pub cs : List Terminal
  pub real : Real cs
  pub values : List Value
  pub derived : Derives ss (map sample cs) k values
  pub clear : not_else (before (map sample cs) k) ≡ true

spelled_of : (c : Terminal) → plain (t c) ≡ true → is_spelled (sample_kind c) ≡ true
spelled_of c h = (and_true (not (fits c kind.Else)) (is_spelled (sample_kind c)) h).1

abbrev pub FillAll : List Symbol → Type 0
FillAll ss = (k : Kind) → not_else k ≡ true → Fill ss k

before_both : (cs ds : List Terminal) (k : Kind) → before (map sample (cs ++ ds)) k ≡ before (map sample cs) (before (map sample ds) k)
before_both [] ds k = refl
before_both (c ∷ cs) ds k = refl

fill_nil : FillAll []
fill_nil k h = record { cs = []; real = λ x. refl; values = []; derived = D.nil; clear = h }

fill_read : (c : Terminal) (ss : List Symbol) → plain (t c) ≡ true → FillAll ss → FillAll (t c ∷ ss)
fill_read c ss p rest k h =
    let f = rest k h in
    record { cs = c ∷ f.cs; real = real_read c f.cs (spelled_of c p) f.real; values = token (sample c).token ∷ f.values; derived = D.read (of_fits c (sample c).kind (sample_fits c)) f.derived; clear = sample_open c p }

fill_by : (r : Rule) (ss : List Symbol) → FillAll (right r) → FillAll ss → FillAll (n (left r) ∷ ss)
fill_by r ss inner rest k h =
    let f = rest k h in
    let c = before (map sample f.cs) k in
    let i = inner c f.clear in
    record {
      cs = i.cs ++ f.cs;
      real = real_both i.cs f.cs i.real f.real;
      values = made r i.values ∷ f.values;
      derived = D.by r (map sample i.cs) (map sample f.cs) i.values refl i.derived (allowed_owed r c f.clear) refl f.derived (sym (map_both i.cs f.cs));
      clear = subst (λ z. not_else z ≡ true) (sym (before_both i.cs f.cs k)) i.clear;
    }

-- a production of each part that leads to tokens soon
abbrev soonest : Part → Rule
soonest g.text = g.Text
soonest g.items = g.NoItems
soonest g.structure = g.Tag
soonest g.declaration = g.StaticOther
soonest g.declared = g.Voided
soonest g.declarators = g.Declarators
soonest g.declarator = g.Objects
soonest g.objects = g.NoObjects
soonest g.object = g.Object
soonest g.object_rest = g.ObjectRest
soonest g.array = g.NoArray
soonest g.size = g.NoSize
soonest g.initial = g.NoInitial
soonest g.initializer = g.OneInitial
soonest g.list_rest = g.ListEnd
soonest g.list_more = g.ListClose
soonest g.head = g.Head
soonest g.body = g.Prototype
soonest g.params = g.NoParams
soonest g.more_params = g.EndParams
soonest g.param = g.Param
soonest g.mode = g.CheckedMode
soonest g.result_type = g.VoidResult
soonest g.members = g.NoMembers
soonest g.member = g.Member
soonest g.slot = g.Slot
soonest g.slots = g.NoSlots
soonest g.declared_limits = g.NoLimits
soonest g.base = g.StructBase
soonest g.scalar = g.Int
soonest g.unsigned_rest = g.UnsignedAlone
soonest g.type_name = g.TypeName
soonest g.stars = g.NoStars
soonest g.limits = g.BoundsOf
soonest g.bounds_rest = g.Unknown
soonest g.unknown_rest = g.UnknownEnd
soonest g.block_items = g.EndBlock
soonest g.locals = g.Local
soonest g.more_locals = g.NoLocals
soonest g.local = g.LocalName
soonest g.local_initial = g.NoLocalInitial
soonest g.value = g.CallocValue
soonest g.calloc_value = g.CallocName
soonest g.less = g.LessOperand
soonest g.arguments = g.NoArguments
soonest g.more_arguments = g.EndArguments
soonest g.allocation = g.Allocation
soonest g.setting = g.SetBy
soonest g.later_setting = g.NoSetting
soonest g.change = g.IncrementChange
soonest g.assign = g.NamedAssign
soonest g.unnamed = g.IncrementAssign
soonest g.round_assign = g.CastAssign
soonest g.stmt = g.Empty
soonest g.calloc_stmt = g.CallocNameStmt
soonest g.named_stmt = g.CallStmt
soonest g.called_stmt = g.CalledStmt
soonest g.otherwise = g.NoElse
soonest g.condition = g.NoCondition
soonest g.for_start = g.NoStart
soonest g.for_step = g.NoStep
soonest g.assigns = g.EndAssigns
soonest g.expr = g.Expr
soonest g.expr_rest = g.ExprRest
soonest g.chain = g.Chain
soonest g.choice = g.NoChoice
soonest g.tail = g.NoTail
soonest g.operation = g.LessOperation
soonest g.operation_but_less = g.Operator
soonest g.second = g.NoSecond
soonest g.unary = g.Named
soonest g.name_rest = g.NameRest
soonest g.call_rest = g.NoCall
soonest g.increment = g.NoIncrement
soonest g.first = g.Signed
soonest g.round = g.Cast
soonest g.posts = g.NoPosts
soonest g.post = g.Dot
soonest g.primary = g.Constant
soonest g.bounds_cast = g.BoundsCast
soonest g.cast_limits = g.NoCastLimits
soonest g.constant = g.Literal

-- whether symbols come to tokens within so many productions, one in another
abbrev within : ℕ → List Symbol → Bool
within d [] = true
within d (t c ∷ ss) = plain (t c) && within d ss
within zero (n p ∷ ss) = false
within (suc d) (n p ∷ ss) = (part_number (left (soonest p)) == part_number p && within d (right (soonest p))) && within (suc d) ss

same_part : (p q : Part) → (part_number p == part_number q) ≡ true → p ≡ q
same_part p q h = sym (part_at p) ∙ ap (λ i. get_or all_parts i g.text) (same_number _ _ h) ∙ part_at q

fill_first : (p : Part) (ss : List Symbol) → (part_number (left (soonest p)) == part_number p) ≡ true → FillAll (right (soonest p)) → FillAll ss → FillAll (n p ∷ ss)
fill_first p ss h inner rest = subst (λ q. FillAll (n q ∷ ss)) (same_part (left (soonest p)) p h) (fill_by (soonest p) ss inner rest)

fill_within : (d : ℕ) (ss : List Symbol) → within d ss ≡ true → FillAll ss
fill_within d [] h = fill_nil
fill_within d (t c ∷ ss) h = let p = and_true _ _ h in fill_read c ss p.0 (fill_within d ss p.1)
fill_within zero (n p ∷ ss) h = absurd (cc)
fill_within (suc d) (n p ∷ ss) h =
    let e = and_true _ _ h in
    let f = and_true _ _ e.0 in
    fill_first p ss f.0 (fill_within d (right (soonest p)) f.1) (fill_within (suc d) ss e.1)

soon : (p : Part) → within 8 (n p ∷ []) ≡ true
soon p = all_part (λ p. within 8 (n p ∷ [])) refl p

pub fill_part : (p : Part) (ss : List Symbol) → FillAll ss → FillAll (n p ∷ ss)
fill_part p ss rest =
    let e = and_true _ _ (and_true _ _ (soon p)).0 in
    fill_first p ss e.0 (fill_within 7 (right (soonest p)) e.1) rest

pub fill_stack : (ss : List Symbol) → plain_all ss ≡ true → FillAll ss
fill_stack [] h = fill_nil
fill_stack (t c ∷ ss) h = let p = and_true _ _ h in fill_read c ss p.0 (fill_stack ss p.1)
fill_stack (n q ∷ ss) h = fill_part q ss (fill_stack ss h)
