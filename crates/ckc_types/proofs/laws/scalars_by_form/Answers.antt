use Rattle.ckc_types.proofs.Forms.{size_of_int, size_of_unsigned, size_of_char, size_of_pointer, align_of_int, align_of_unsigned, align_of_char, align_of_pointer}
use Rattle.ckc_types.proofs.laws.scalars_by_form.Goals as goal

pub returns-clause-int : goal.returns-clause-int
returns-clause-int c = λ structs. (size_of_int structs, align_of_int structs)

pub returns-clause-unsigned : goal.returns-clause-unsigned
returns-clause-unsigned c = λ structs. (size_of_unsigned structs, align_of_unsigned structs)

pub returns-clause-char : goal.returns-clause-char
returns-clause-char c = λ structs. (size_of_char structs, align_of_char structs)

pub returns-clause-pointer : goal.returns-clause-pointer
returns-clause-pointer c = λ structs kind to. (size_of_pointer structs kind to, align_of_pointer structs kind to)
