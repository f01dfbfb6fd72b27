-- Each place in the text that a program names has a line and a column that are words.
use Rattle.std.specs.Prelude.{List, [], ◌∷◌}
use Rattle.ckc_core.specs.WellFormed.{IsPlace}
use Rattle.ckc_source.specs.Code.{Expr, Number, Local, Limited, Array, Load, Member, Address, Moved, Added, Binary, And, Or, Choice, Narrow, Bare, Tested, Trusted, Target, Nothing, Variable, Memory, Right, Value, Fresh, Code, End, Assign, Bundle, Get, Put, Call, If, Loop, Break, Continue, Return, Check, Function, Program}

-- ---- expressions

-- the places in an expression, however deep
abbrev pub ExprPlaces : Expr → Type 0
ExprPlaces (Number n) = Unit {0}
ExprPlaces (Local x) = Unit {0}
ExprPlaces (Limited x limits) = Unit {0}
ExprPlaces (Array at bytes) = Unit {0}
ExprPlaces (Load width access p i) = IsPlace access.at × ExprPlaces p × ExprPlaces i
ExprPlaces (Member to count access p i) = IsPlace access.at × ExprPlaces p × ExprPlaces i
ExprPlaces (Address bytes access p i) = IsPlace access.at × ExprPlaces p × ExprPlaces i
ExprPlaces (Moved shift p i) = IsPlace shift.at × ExprPlaces p × ExprPlaces i
ExprPlaces (Added shift i p) = IsPlace shift.at × ExprPlaces i × ExprPlaces p
ExprPlaces (Binary operation is_signed at a b) = IsPlace at × ExprPlaces a × ExprPlaces b
ExprPlaces (And a b) = ExprPlaces a × ExprPlaces b
ExprPlaces (Or a b) = ExprPlaces a × ExprPlaces b
ExprPlaces (Choice c a b) = ExprPlaces c × ExprPlaces a × ExprPlaces b
ExprPlaces (Narrow e) = ExprPlaces e
ExprPlaces (Bare p) = ExprPlaces p
ExprPlaces (Tested size form at p k) = IsPlace at × ExprPlaces p × ExprPlaces k
ExprPlaces (Trusted to form p k) = ExprPlaces p × ExprPlaces k

-- this of each of some
abbrev pub ExprsPlaces : List Expr → Type 0
ExprsPlaces [] = Unit {0}
ExprsPlaces (e ∷ es) = ExprPlaces e × ExprsPlaces es

-- ---- statements

abbrev pub TargetPlaces : Target → Type 0
TargetPlaces Nothing = Unit {0}
TargetPlaces (Variable x width) = Unit {0}
TargetPlaces (Memory width access p i) = IsPlace access.at × ExprPlaces p × ExprPlaces i

abbrev pub RightPlaces : Right → Type 0
RightPlaces (Value e) = ExprPlaces e
RightPlaces (Fresh to e) = ExprPlaces e

-- the assignments of a bundle
abbrev pub AssignsPlaces : List (Target × Right) → Type 0
AssignsPlaces [] = Unit {0}
AssignsPlaces (a ∷ rest) = TargetPlaces a.0 × RightPlaces a.1 × AssignsPlaces rest

-- the places in statements and in those after them
abbrev pub CodePlaces : Code → Type 0
CodePlaces End = Unit {0}
CodePlaces (Assign spot target right rest) = TargetPlaces target × RightPlaces right × CodePlaces rest
CodePlaces (Bundle spot assigns rest) = AssignsPlaces assigns × CodePlaces rest
CodePlaces (Get spot target rest) = TargetPlaces target × CodePlaces rest
CodePlaces (Put spot target e rest) = TargetPlaces target × ExprPlaces e × CodePlaces rest
CodePlaces (Call spot target callee es rest) = IsPlace spot.at × ExprsPlaces es × CodePlaces rest
CodePlaces (If spot e one two rest) = ExprPlaces e × CodePlaces one × CodePlaces two × CodePlaces rest
CodePlaces (Loop spot e body step rest) = ExprPlaces e × CodePlaces body × CodePlaces step × CodePlaces rest
CodePlaces (Break rest) = CodePlaces rest
CodePlaces (Continue rest) = CodePlaces rest
CodePlaces (Return spot e rest) = ExprPlaces e × CodePlaces rest
CodePlaces (Check spot e rest) = IsPlace spot.at × ExprPlaces e × CodePlaces rest

-- ---- programs

abbrev pub FunctionsPlaces : List Function → Type 0
FunctionsPlaces [] = Unit {0}
FunctionsPlaces (f ∷ fs) = CodePlaces f.body × FunctionsPlaces fs

-- the places in the functions of a program
abbrev pub PlacesFit : Program → Type 0
PlacesFit p = FunctionsPlaces p.functions
