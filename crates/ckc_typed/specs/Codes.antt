-- The codes of the refusals of the types phase.
use Rattle.std.specs.Prelude.{ℕ}

-- operands, a type, a member or the length of an array do not fit
abbrev pub bad_operands : ℕ
bad_operands = 401

-- a conversion is not allowed
abbrev pub bad_conversion : ℕ
bad_conversion = 402

-- what cannot be assigned
abbrev pub bad_target : ℕ
bad_target = 403

-- the arguments of a call, or what is called
abbrev pub bad_call : ℕ
bad_call = 404

-- the address of a local or of a value
abbrev pub no_address : ℕ
no_address = 405

-- `break` or `continue` outside a loop
abbrev pub no_loop : ℕ
no_loop = 406

-- a checked pointer that is a local has no initialiser
abbrev pub no_initialiser : ℕ
no_initialiser = 407

-- the static objects end too late
abbrev pub late_statics : ℕ
late_statics = 206
