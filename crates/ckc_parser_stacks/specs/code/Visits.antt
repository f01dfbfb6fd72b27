-- An expression as the list of all expressions in it, each before its parts.
use Rattle.std.specs.Prelude.{◌≡◌, List, [], ◌∷◌, ◌++◌, Option, None, Some}
use Rattle.ckc_syntax.specs.declared.tree.Limits.{Limits, Limits-F, out-Limits}
use Rattle.ckc_syntax.specs.declared.tree.Node.{Node, Node-F, out-Node}
use Rattle.ckc_syntax.specs.declared.tree.Expr.{Expr}

-- the expressions in bounds
abbrev pub limits_parts : {N A L M E : Type 0} → Limits-F N A L M E → List E
limits_parts (Limits-F.Count e pos) = e ∷ []
limits_parts (Limits-F.ByteCount e pos) = e ∷ []
limits_parts (Limits-F.Between e f pos) = e ∷ f ∷ []
limits_parts (Limits-F.Unknown pos) = []

abbrev pub parts_of_bounds : {N A : Type 0} → Option (Limits N A) → List (Expr N A)
parts_of_bounds None = []
parts_of_bounds {N} {A} (Some l) = limits_parts (out-Limits N A l)

-- the expressions that an expression is made of
abbrev pub node_parts : {N A : Type 0} → Node-F N A (Limits N A) (Node N A) (Expr N A) → List (Expr N A)
node_parts (Node-F.Number n unsigned) = []
node_parts (Node-F.Text bytes) = []
node_parts Node-F.Null = []
node_parts (Node-F.Name n) = []
node_parts (Node-F.Un op e) = e ∷ []
node_parts (Node-F.Bin op e f) = e ∷ f ∷ []
node_parts (Node-F.Pick e f g) = e ∷ f ∷ g ∷ []
node_parts (Node-F.Index e f) = e ∷ f ∷ []
node_parts (Node-F.Dot e n pos) = e ∷ []
node_parts (Node-F.Arrow e n pos) = e ∷ []
node_parts (Node-F.Cast t e) = e ∷ []
node_parts (Node-F.Size t) = []
node_parts (Node-F.Trusted t e l) = e ∷ parts_of_bounds l
node_parts (Node-F.Tested t e l) = e ∷ parts_of_bounds l
node_parts (Node-F.Call n es) = es
node_parts (Node-F.Calloc t e u) = e ∷ []

abbrev pub parts_of_node : {N A : Type 0} → Node N A → List (Expr N A)
parts_of_node {N} {A} x = node_parts (out-Node N A x)

abbrev pub parts_of : {N A : Type 0} → Expr N A → List (Expr N A)
parts_of e = parts_of_node e.node

-- The second list has what stands in the first: an expression before its parts, and these before what is behind it.
pub data Visits {N A : Type 0} : List (Expr N A) → List (Expr N A) → Type 0 where
  done : Visits [] []
  visit : (x : Expr N A) (rest xs : List (Expr N A)) → Visits (parts_of x ++ rest) xs → Visits (x ∷ rest) (x ∷ xs)

-- Where the copies of the parts of an expression stood on top, its copy stands.
pub record IsRemade {N A : Type 0} (x : Expr N A) (old new : List (Expr N A)) : Type 0 where
  pub takes : (rest : List (Expr N A)) → old ≡ parts_of x ++ rest → new ≡ x ∷ rest
