-- The operator of a token that is none of some kinds.
use Rattle.std.proofs.Common.{◌≡◌, refl}
use Rattle.ckc_syntax.specs.declared.tree.TreeOp.TheVariants as op
use Rattle.ckc_parser_grammar.specs.declared.kind.Kind.{Kind}
use Rattle.ckc_parser_grammar.specs.declared.kind.Kind.TheVariants as kind
use Rattle.ckc_parser_grammar.specs.code.Kinds.{sign_op, increment_op, compound_op, binary_op}

pub no_sign_op : (c : Kind) → (c ≡ kind.Plus → ⊥) → (c ≡ kind.Exclamation → ⊥) → (c ≡ kind.Tilde → ⊥) → (c ≡ kind.Star → ⊥) → (c ≡ kind.Ampersand → ⊥) → sign_op c ≡ op.Minus
no_sign_op kind.Plus h0 h1 h2 h3 h4 = absurd (h0 refl)
no_sign_op kind.Exclamation h0 h1 h2 h3 h4 = absurd (h1 refl)
no_sign_op kind.Tilde h0 h1 h2 h3 h4 = absurd (h2 refl)
no_sign_op kind.Star h0 h1 h2 h3 h4 = absurd (h3 refl)
no_sign_op kind.Ampersand h0 h1 h2 h3 h4 = absurd (h4 refl)
no_sign_op _ h0 h1 h2 h3 h4 = refl

pub no_increment_op : (c : Kind) → (c ≡ kind.MinusMinus → ⊥) → op.Add ≡ increment_op c
no_increment_op kind.MinusMinus h = absurd (h refl)
no_increment_op _ h = refl

pub no_compound_op : (c : Kind) → (c ≡ kind.MinusEquals → ⊥) → (c ≡ kind.StarEquals → ⊥) → (c ≡ kind.SlashEquals → ⊥) → (c ≡ kind.PercentEquals → ⊥) → (c ≡ kind.AmpersandEquals → ⊥) → (c ≡ kind.BarEquals → ⊥) → (c ≡ kind.CaretEquals → ⊥) → op.Add ≡ compound_op c
no_compound_op kind.MinusEquals h0 h1 h2 h3 h4 h5 h6 = absurd (h0 refl)
no_compound_op kind.StarEquals h0 h1 h2 h3 h4 h5 h6 = absurd (h1 refl)
no_compound_op kind.SlashEquals h0 h1 h2 h3 h4 h5 h6 = absurd (h2 refl)
no_compound_op kind.PercentEquals h0 h1 h2 h3 h4 h5 h6 = absurd (h3 refl)
no_compound_op kind.AmpersandEquals h0 h1 h2 h3 h4 h5 h6 = absurd (h4 refl)
no_compound_op kind.BarEquals h0 h1 h2 h3 h4 h5 h6 = absurd (h5 refl)
no_compound_op kind.CaretEquals h0 h1 h2 h3 h4 h5 h6 = absurd (h6 refl)
no_compound_op _ h0 h1 h2 h3 h4 h5 h6 = refl

pub no_binary_op : (c : Kind) → (c ≡ kind.BarBar → ⊥) → (c ≡ kind.AndAnd → ⊥) → (c ≡ kind.Bar → ⊥) → (c ≡ kind.Caret → ⊥) → (c ≡ kind.Ampersand → ⊥) → (c ≡ kind.EqualsEquals → ⊥) → (c ≡ kind.NotEquals → ⊥) → (c ≡ kind.LessEquals → ⊥) → (c ≡ kind.GreaterEquals → ⊥) → (c ≡ kind.ShiftLeft → ⊥) → (c ≡ kind.Plus → ⊥) → (c ≡ kind.Minus → ⊥) → (c ≡ kind.Star → ⊥) → (c ≡ kind.Slash → ⊥) → (c ≡ kind.Percent → ⊥) → binary_op c ≡ op.Minus
no_binary_op kind.BarBar h0 h1 h2 h3 h4 h5 h6 h7 h8 h9 h10 h11 h12 h13 h14 = absurd (h0 refl)
no_binary_op kind.AndAnd h0 h1 h2 h3 h4 h5 h6 h7 h8 h9 h10 h11 h12 h13 h14 = absurd (h1 refl)
no_binary_op kind.Bar h0 h1 h2 h3 h4 h5 h6 h7 h8 h9 h10 h11 h12 h13 h14 = absurd (h2 refl)
no_binary_op kind.Caret h0 h1 h2 h3 h4 h5 h6 h7 h8 h9 h10 h11 h12 h13 h14 = absurd (h3 refl)
no_binary_op kind.Ampersand h0 h1 h2 h3 h4 h5 h6 h7 h8 h9 h10 h11 h12 h13 h14 = absurd (h4 refl)
no_binary_op kind.EqualsEquals h0 h1 h2 h3 h4 h5 h6 h7 h8 h9 h10 h11 h12 h13 h14 = absurd (h5 refl)
no_binary_op kind.NotEquals h0 h1 h2 h3 h4 h5 h6 h7 h8 h9 h10 h11 h12 h13 h14 = absurd (h6 refl)
no_binary_op kind.LessEquals h0 h1 h2 h3 h4 h5 h6 h7 h8 h9 h10 h11 h12 h13 h14 = absurd (h7 refl)
no_binary_op kind.GreaterEquals h0 h1 h2 h3 h4 h5 h6 h7 h8 h9 h10 h11 h12 h13 h14 = absurd (h8 refl)
no_binary_op kind.ShiftLeft h0 h1 h2 h3 h4 h5 h6 h7 h8 h9 h10 h11 h12 h13 h14 = absurd (h9 refl)
no_binary_op kind.Plus h0 h1 h2 h3 h4 h5 h6 h7 h8 h9 h10 h11 h12 h13 h14 = absurd (h10 refl)
no_binary_op kind.Minus h0 h1 h2 h3 h4 h5 h6 h7 h8 h9 h10 h11 h12 h13 h14 = absurd (h11 refl)
no_binary_op kind.Star h0 h1 h2 h3 h4 h5 h6 h7 h8 h9 h10 h11 h12 h13 h14 = absurd (h12 refl)
no_binary_op kind.Slash h0 h1 h2 h3 h4 h5 h6 h7 h8 h9 h10 h11 h12 h13 h14 = absurd (h13 refl)
no_binary_op kind.Percent h0 h1 h2 h3 h4 h5 h6 h7 h8 h9 h10 h11 h12 h13 h14 = absurd (h14 refl)
no_binary_op _ h0 h1 h2 h3 h4 h5 h6 h7 h8 h9 h10 h11 h12 h13 h14 = refl
