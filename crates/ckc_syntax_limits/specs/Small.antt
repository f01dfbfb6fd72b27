-- The limits of a text.
use Rattle.std.specs.Prelude.{ℕ, ◌≡◌, ◌≤◌, List, [], ◌∷◌, ◌++◌, flat_map, count_by, Bool, nat_lt, if◌then◌else◌}
use Rattle.std.specs.List.{AllByRecursion}
use Rattle.ckc_base.specs.declared.places.Pos.{Pos}
use Rattle.ckc_base.specs.declared.places.Refusal.{Refusal}
use Rattle.ckc_base.specs.Places.{start}
use Rattle.ckc_syntax.specs.declared.tree.Tree.{Tree}
use Rattle.ckc_syntax.specs.declared.tree.Item.{Item}
use Rattle.ckc_syntax.specs.declared.tree.Item.TheVariants as item
use Rattle.ckc_syntax_limits.specs.Depth.{depth_of_item}
use Rattle.ckc_syntax_limits.specs.Marks.{Mark, marks_of, marks_of_item, is_node, is_local, is_text, is_function, is_static}
use Rattle.ckc_syntax_limits.specs.Codes.{too_deep, too_many_nodes, too_many_locals, too_many_items}

-- how deep statements and expressions may stand in one another
abbrev pub most_depth : ℕ
most_depth = 64

-- how many nodes, and how many locals with its parameters, a function may have
abbrev pub most_in_function : ℕ
most_in_function = 1000

-- how many locals, its parameters among them, a function may have
abbrev pub most_locals : ℕ
most_locals = 255

-- how many nodes, functions, objects and string literals a text may have
abbrev pub most_nodes : ℕ
most_nodes = 16384

-- how many functions with a body a text may have
abbrev pub most_functions : ℕ
most_functions = 512

-- how many objects a text may have
abbrev pub most_statics : ℕ
most_statics = 1024

-- how many string literals a text may have
abbrev pub most_texts : ℕ
most_texts = 1024

-- how many marks are of a kind
abbrev pub how_many : (Mark → Bool) → List Mark → ℕ
how_many p ms = count_by p ms

-- the limits of one function: its nodes, and its locals with its parameters
pub record SmallFunction (marks : List Mark) : Type 0 where
  pub nodes : how_many is_node marks ≤ most_in_function
  pub locals : how_many is_local marks ≤ most_locals

-- A function with a body keeps the limits of one function.
abbrev pub SmallBody : {N A : Type 0} → Item N A → Type 0
SmallBody (item.Function head body) = SmallFunction (marks_of_item (item.Function head body))
SmallBody _ = Unit {0}

-- An item keeps the limits of one item: it is not too deep, and its function is not too large.
pub record SmallItem {N A : Type 0} (i : Item N A) : Type 0 where
  pub depth : depth_of_item i ≤ most_depth
  pub body : SmallBody i

-- A tree is small if it keeps each limit.
pub record Small {N A : Type 0} (tree : Tree N A) : Type 0 where
  pub each : AllByRecursion SmallItem tree.items
  pub nodes : how_many is_node (marks_of tree) ≤ most_nodes
  pub functions : how_many is_function (marks_of tree) ≤ most_functions
  pub statics : how_many is_static (marks_of tree) ≤ most_statics
  pub texts : how_many is_text (marks_of tree) ≤ most_texts

-- a refusal at a place, if the number is over the limit
abbrev pub over : ℕ → ℕ → ℕ → Pos → List Refusal
over limit number code pos = if nat_lt limit number then record { code = code; pos = pos } ∷ [] else []

-- what a function breaks: its nodes, and then its locals
abbrev pub faults_of_function : List Mark → Pos → List Refusal
faults_of_function ms pos = over most_in_function (how_many is_node ms) too_many_nodes pos ++ over most_locals (how_many is_local ms) too_many_locals pos

-- What an item breaks, in the order in which it is judged. The place is that of the declared name or tag.
abbrev pub faults_of_item : {N A : Type 0} → Item N A → List Refusal
faults_of_item (item.Directive d) = []
faults_of_item (item.Tag n pos) = []
faults_of_item (item.Struct n members pos) = over most_depth (depth_of_item (item.Struct n members pos)) too_deep pos
faults_of_item (item.Static d) = over most_depth (depth_of_item (item.Static d)) too_deep d.pos
faults_of_item (item.Proto h) = over most_depth (depth_of_item (item.Proto h)) too_deep h.pos
faults_of_item (item.Function h body) =
    over most_depth (depth_of_item (item.Function h body)) too_deep h.pos ++ faults_of_function (marks_of_item (item.Function h body)) h.pos

-- what the whole text breaks: its nodes, and then its functions, objects and string literals
abbrev pub faults_of_marks : List Mark → List Refusal
faults_of_marks ms =
    over most_nodes (how_many is_node ms) too_many_nodes start
    ++ (over most_functions (how_many is_function ms) too_many_items start
    ++ (over most_statics (how_many is_static ms) too_many_items start ++ over most_texts (how_many is_text ms) too_many_items start))

-- What a tree breaks, in the order in which it is judged: item by item in the order of the text, then the
-- whole text.
abbrev pub faults_of : {N A : Type 0} → Tree N A → List Refusal
faults_of tree = flat_map faults_of_item tree.items ++ faults_of_marks (marks_of tree)

-- the first of a list
abbrev pub IsFirst : {X : Type 0} → X → List X → Type 0
IsFirst {X} x xs = (rest : List X) × (xs ≡ x ∷ rest)
