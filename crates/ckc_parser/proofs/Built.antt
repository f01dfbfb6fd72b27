-- What is built of a trace is what the tokens derive.
use Rattle.std.proofs.Common.{◌≡◌, ℕ, length, List, [], ◌∷◌, ◌++◌, refl, sym, ap, subst, ◌∙◌, map, get_or}
use Rattle.std.specs.Prelude.{Result, Ok, Err}
use Rattle.std.proofs.lemmas.List.{length-map}
use Rattle.ckc_base.specs.declared.places.Pos.{Pos}
use Rattle.ckc_base.specs.declared.fault.Fault.{Fault}
use Rattle.ckc_base.specs.declared.fault.Fault.TheVariants as fault
use Rattle.ckc_base.specs.Phases.{Exact, Answers}
use Rattle.ckc_base.proofs.Phases.{exact_of}
use Rattle.ckc_syntax.specs.Spelled.{Spelled}
use Rattle.ckc_grammar.specs.Text.{DerivesTree}
use Rattle.ckc_parser_grammar.specs.code.Grammar.{n}
use Rattle.ckc_parser_grammar.specs.code.Reading.{Takes}
use Rattle.ckc_parser_grammar.specs.code.Signs.{signs}
use Rattle.ckc_parser_grammar.specs.code.Text.{start}
use Rattle.ckc_parser_grammar.specs.code.Trace.{events, values_of, tokens_in}
use Rattle.ckc_parser_grammar.specs.code.Trees.{Item}
use Rattle.ckc_parser_grammar.specs.code.Values.{Value, tree}
use Rattle.ckc_parser_trace.specs.code.Runs.{Traces, Recognises}
use Rattle.ckc_parser_trace.proofs.Top.{good_answer}
use Rattle.ckc_parser_values.specs.declared.held.Held.{Held}
use Rattle.ckc_parser_values.specs.code.Acts.{nothing}
use Rattle.ckc_parser_values.specs.code.Programs.{played}
use Rattle.ckc_parser_items.proofs.Laid.{Laid, laid}
use Rattle.ckc_parser.specs.Phase.{parsing}
use Rattle.ckc_parser.proofs.Once.{parsing_exact}

one_of : (v w : Value) → (v ∷ []) ≡ (w ∷ []) → v ≡ w
one_of v w e = cc

-- the tree of the items that are left
pub derived : (xs : List Spelled) (bytes : List ℕ) (held : Held) (items : List Item) → Traces xs bytes → held ≡ played (events bytes) xs nothing → items ≡ get_or held.items 0 [] →
    DerivesTree xs (record { items = items })
derived xs bytes held items t h e =
    let q = laid t.lays in
    let same : items ≡ q.kept.0 = e ∙ ap (λ z. get_or z.items 0 []) (h ∙ q.stacks nothing) in
    let value : t.value ≡ tree (record { items = items }) = one_of t.value (tree (record { items = items })) (sym t.makes ∙ q.values [] ∙ ap (λ z. tree (record { items = z }) ∷ []) (sym same)) in
    good_answer xs (record { items = items }) (signs xs) [] refl (subst (λ z. Takes (n start ∷ []) (signs xs) (z ∷ []) []) value t.takes) refl

pub refused : (xs : List Spelled) (end : Pos) (f : Fault) → Recognises xs end (Err f) → Answers parsing (record { list = xs; end = end }) (Err f)
refused xs end (fault.Refused r) h = h
refused xs end fault.Memory h = tt

-- the answers of `parse`
pub built_answer : (xs : List Spelled) (end : Pos) (bytes : List ℕ) (held : Held) (items : List Item) → Traces xs bytes → held ≡ played (events bytes) xs nothing → items ≡ get_or held.items 0 [] →
    Exact parsing (record { list = xs; end = end }) (Ok (record { items = items }))
built_answer xs end bytes held items t h e = exact_of parsing parsing_exact (record { list = xs; end = end }) (Ok (record { items = items })) (derived xs bytes held items t h e)

pub refused_answer : (xs : List Spelled) (end : Pos) (f : Fault) → Recognises xs end (Err f) → Exact parsing (record { list = xs; end = end }) (Err f)
refused_answer xs end f h = exact_of parsing parsing_exact (record { list = xs; end = end }) (Err f) (refused xs end f h)

pub memory_answer : (xs : List Spelled) (end : Pos) → Exact parsing (record { list = xs; end = end }) (Err fault.Memory)
memory_answer xs end = refused_answer xs end fault.Memory tt

pub counted : {X : Type 0} (f : X → Spelled) (xs : List X) (bytes : List ℕ) → Traces (map f xs) bytes → tokens_in (events bytes) ≡ length xs
counted f xs bytes t = t.counts ∙ length-map xs f
