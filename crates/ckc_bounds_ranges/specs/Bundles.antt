-- The form of bundles: 2 to 8 assignments to distinct locals, or to distinct members of one structure, whose right sides
-- call nothing and name no earlier target.
use Rattle.std.specs.Prelude.{◌==◌, nat_le, Bool, true, false, not, ◌&&◌, ◌||◌, if◌then◌else◌, List, [], ◌∷◌, ◌++◌, length, Option, None, Some}
use Rattle.std.specs.List.{list_any}
use Rattle.ckc_syntax.specs.declared.tree.Name.{Name}
use Rattle.ckc_syntax.specs.declared.tree.Name.TheVariants as name
use Rattle.ckc_syntax.specs.declared.tree.Limits.{Limits, Limits-F, fold-Limits}
use Rattle.ckc_syntax.specs.declared.tree.Node.{Node, Node-F, out-Node, fold-Node}
use Rattle.ckc_syntax.specs.declared.tree.Expr.{Expr, Expr-F, fold-Expr}
use Rattle.ckc_syntax.specs.declared.tree.Act.{Act, Act-F, out-Act}
use Rattle.ckc_syntax.specs.declared.tree.Stmt.{Stmt}
use Rattle.ckc_typed.specs.declared.typed.Note.{Note}
use Rattle.ckc_bounds_ranges.specs.declared.bundles.Target.{Target}
use Rattle.ckc_bounds_ranges.specs.declared.bundles.Target.TheVariants as target

-- whether two targets are the same
abbrev pub same_target : Target → Target → Bool
same_target (target.Local j) (target.Local k) = j == k
same_target (target.Through s m) (target.Through t n) = (s == t) && (m == n)
same_target (target.Of x m) (target.Of y n) = (x == y) && (m == n)
same_target _ _ = false

-- locals, or members of one structure
abbrev pub goes_with : Target → Target → Bool
goes_with (target.Local j) (target.Local k) = true
goes_with (target.Through s m) (target.Through t n) = s == t
goes_with (target.Of x m) (target.Of y n) = x == y
goes_with _ _ = false

-- the target that a name is if it means a local
abbrev pub local_target : Name → Option Target
local_target (name.Local k) = Some (target.Local k)
local_target _ = None

-- the target `s->m` of a local s
abbrev pub through_target : Option Name → Name → Option Target
through_target (Some (name.Local s)) (name.Member m) = Some (target.Through s m)
through_target _ n = None

-- the target `x.m` of an object x of file scope
abbrev pub of_target : Option Name → Name → Option Target
of_target (Some (name.Static x)) (name.Member m) = Some (target.Of x m)
of_target _ n = None

-- whether an expression is the target t; none stands for an expression that is no target
abbrev pub is_it : Option Target → Target → Bool
is_it None t = false
is_it (Some s) t = same_target s t

-- What is said of an expression: the name that it is, the target that it is, and whether a target is named anywhere in it.
pub record Mention : Type 0 where
  pub name : Option Name
  pub target : Option Target
  pub names : Target → Bool

-- a node of an expression with what is said of its parts
abbrev pub NodeOfMentions : Type 0
NodeOfMentions = Node-F Name Note (Target → Bool) Mention Mention

-- the name that a node is
abbrev pub name_of_node : NodeOfMentions → Option Name
name_of_node (Node-F.Name n) = Some n
name_of_node _ = None

-- the target that a node is: `x`, `s->m` or `x.m`
abbrev pub target_of_node : NodeOfMentions → Option Target
target_of_node (Node-F.Name n) = local_target n
target_of_node (Node-F.Arrow e n at) = through_target e.name n
target_of_node (Node-F.Dot e n at) = of_target e.name n
target_of_node _ = None

-- whether one of the arguments of a call names a target
abbrev pub some_names : Target → List Mention → Bool
some_names t [] = false
some_names t (e ∷ es) = e.names t || some_names t es

-- whether the limits of a bounds cast name a target, if there are limits
abbrev pub there_names : Option (Target → Bool) → Target → Bool
there_names None t = false
there_names (Some l) t = l t

-- whether the parts of a node name a target
abbrev pub parts_name : NodeOfMentions → Target → Bool
parts_name (Node-F.Un o e) t = e.names t
parts_name (Node-F.Bin o e f) t = e.names t || f.names t
parts_name (Node-F.Pick e f g) t = e.names t || (f.names t || g.names t)
parts_name (Node-F.Index e f) t = e.names t || f.names t
parts_name (Node-F.Dot e n at) t = e.names t
parts_name (Node-F.Arrow e n at) t = e.names t
parts_name (Node-F.Cast w e) t = e.names t
parts_name (Node-F.Trusted w e l) t = e.names t || there_names l t
parts_name (Node-F.Tested w e l) t = e.names t || there_names l t
parts_name (Node-F.Call n es) t = some_names t es
parts_name (Node-F.Calloc w e x) t = e.names t
parts_name _ t = false

-- which targets the limits of a bounds cast name
abbrev pub limits_mention : Limits-F Name Note (Target → Bool) Mention Mention → Target → Bool
limits_mention (Limits-F.Count e at) t = e.names t
limits_mention (Limits-F.ByteCount e at) t = e.names t
limits_mention (Limits-F.Between e f at) t = e.names t || f.names t
limits_mention (Limits-F.Unknown at) t = false

-- what is said of a node, from what is said of its parts
abbrev pub node_mention : NodeOfMentions → Mention
node_mention n = record {
  name = name_of_node n;
  target = target_of_node n;
  names = λ t. is_it (target_of_node n) t || parts_name n t;
}

-- What is said of an expression is what is said of its node.
abbrev pub expr_mention : Expr-F Name Note (Target → Bool) Mention Mention → Mention
expr_mention e = e.node

abbrev pub mention_of_limits : Limits Name Note → Target → Bool
mention_of_limits = fold-Limits Name Note (Target → Bool) Mention Mention limits_mention node_mention expr_mention

abbrev pub mention_of_node : Node Name Note → Mention
mention_of_node = fold-Node Name Note (Target → Bool) Mention Mention limits_mention node_mention expr_mention

-- what is said of an expression
abbrev pub mention : Expr Name Note → Mention
mention = fold-Expr Name Note (Target → Bool) Mention Mention limits_mention node_mention expr_mention

-- whether a node is a call of a function, which a `calloc` is not
abbrev pub is_call_node : {A L M E : Type 0} → Node-F Name A L M E → Bool
is_call_node (Node-F.Call n es) = true
is_call_node _ = false

-- the same of an expression
abbrev pub is_call : Expr Name Note → Bool
is_call e = is_call_node (out-Node Name Note e.node)

-- whether a target t cannot stand after the target s in a bundle
abbrev pub is_in_the_way : Target → Target → Bool
is_in_the_way t s = same_target s t || not (goes_with s t)

-- whether a target may stand after the earlier ones in a bundle
abbrev pub may_follow : List Target → Target → Bool
may_follow earlier t = not (list_any (is_in_the_way t) earlier)

-- whether an expression names one of the earlier targets
abbrev pub names_earlier : List Target → Expr Name Note → Bool
names_earlier earlier e = list_any (λ t. (mention e).names t) earlier

-- the target, if the assignment may stand after those with earlier targets
abbrev pub target_behind : List Target → Option Target → Expr Name Note → Option Target
target_behind earlier None f = None
target_behind earlier (Some t) f =
    if may_follow earlier t && (not (is_call f) && not (names_earlier earlier f)) then Some t else None

-- the target of an assignment that may stand after those with earlier targets
abbrev pub target_in : List Target → Act-F Name Note (Act Name Note) (Stmt Name Note) → Option Target
target_in earlier (Act-F.Assign e f) = target_behind earlier (mention e).target f
target_in earlier _ = None

-- the same of a statement, which has to be an assignment
abbrev pub next_target : List Target → Stmt Name Note → Option Target
next_target earlier s = target_in earlier (out-Act Name Note s.body)

-- whether there is a next target and the rest of the bundle may stand after it
abbrev pub and_rest : Option Target → (Target → Bool) → Bool
and_rest None rest = false
and_rest (Some t) rest = rest t

-- whether each statement is an assignment that may stand after those before it
abbrev pub all_follow : List (Stmt Name Note) → List Target → Bool
all_follow [] earlier = true
all_follow (s ∷ rest) earlier = and_rest (next_target earlier s) (λ t. all_follow rest (earlier ++ t ∷ []))

-- Whether statements have the form of a bundle (else E607): `{ n = 3; p = q; }` has, and `{ n = 3; p = q + n; }` has not.
abbrev pub is_bundle : List (Stmt Name Note) → Bool
is_bundle ss = nat_le 2 (length ss) && (nat_le (length ss) 8 && all_follow ss [])
